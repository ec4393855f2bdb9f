-- What a session answers for the bytes of a script: what reading them from scratch says.
use Rattle.std.specs.Prelude.{◌≡◌, ℕ, List, List as Row, Option, None, Some}
use Rattle.shgrammar.specs.Scripts.{AScript, FirstFault, Outcome}
use Rattle.shgrammar.specs.declared.edition.Edition.{Edition}
use Rattle.shgrammar.specs.declared.fault.Fault.{Fault}
use Rattle.shast.specs.Nodes.{nodes_at, outline}
use Rattle.shast.specs.declared.node.NodeLine.{NodeLine}
use Rattle.shtext.specs.Edit.{ASplice, Refuses}
use Rattle.shtext.specs.declared.error.TextError.{TextError}
use Rattle.shtext.specs.declared.error.TextError.TheVariants as text_errors
use Rattle.shprint.specs.ReadBack.{IsTextOf}
use Rattle.shlive.specs.Held.{SessionOptions}
use Rattle.shlive.specs.declared.error.LiveError.{LiveError}
use Rattle.shlive.specs.declared.error.LiveError.TheVariants.{Range, TooLarge, Memory, Order}

-- ---- answers

-- 0 for a script without a fault, 1 for one with a fault
abbrev pub status_of : Option Fault → ℕ
status_of None = 0
status_of (Some fault) = 1

abbrev pub HasStatus : Edition → List ℕ → ℕ → Type 0
HasStatus edition bytes status = (fault : Option Fault) × FirstFault edition bytes fault × (status ≡ status_of fault)

-- the outline of what is read of the bytes; of a faulty script, of the lines before its fault
abbrev pub HasOutline : Edition → List ℕ → List NodeLine → Type 0
HasOutline edition bytes lines = (script : AScript) × Outcome edition bytes script × (lines ≡ outline 0 script.entries)

-- the nodes that hold the byte at an offset
abbrev pub HasNodesAt : Edition → List ℕ → ℕ → List NodeLine → Type 0
HasNodesAt edition bytes at lines = (script : AScript) × Outcome edition bytes script
    × (lines ≡ nodes_at 0 at script.entries)

-- the printed text, which reads back; a faulty script has none
abbrev pub HasText : SessionOptions → List ℕ → Option (List ℕ) → Type 0
HasText how bytes (Some text) = IsTextOf how.edition how.layout bytes text
HasText how bytes None = (fault : Fault) × FirstFault how.edition bytes (Some fault)

-- ---- refusals

-- a session's word for why a text is refused
abbrev pub as_live : TextError → LiveError
as_live text_errors.Range = Range
as_live text_errors.TooLarge = TooLarge
as_live text_errors.Memory = Memory
as_live text_errors.Order = Order

-- why an edit of the bytes is refused: as an edit of a text is
abbrev pub IsRefused : List ℕ → Row ASplice → LiveError → Type 0
IsRefused bytes ss Range = Refuses bytes ss text_errors.Range
IsRefused bytes ss TooLarge = Refuses bytes ss text_errors.TooLarge
IsRefused bytes ss Memory = Refuses bytes ss text_errors.Memory
IsRefused bytes ss Order = Refuses bytes ss text_errors.Order
