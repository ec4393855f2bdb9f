-- The top-level lines of a script as a session holds them, and what is read of a script that is edited.
use Rattle.std.specs.Prelude.{◌≡◌, ℕ, ◌-◌, ◌<◌, ◌^◌, List, List as Row, Option, None, Some, length, min}
use Rattle.shast.specs.Nodes.{NodesWithin}
use Rattle.shast.specs.Tree.{Entries}
use Rattle.shgrammar.specs.declared.edition.Edition.{Edition}
use Rattle.shgrammar.specs.declared.fault.Fault.{Fault}
use Rattle.shgrammar.specs.Lines.{AKind, FaultWithin, entries_line, faulty_line}
use Rattle.shread.specs.Answers.{meter_of}
use Rattle.shread.specs.declared.reader.Reader.{Reader}
use Rattle.shtext.specs.Edit.{ASplice}
use Rattle.shsource.specs.Meter.{raised}
use Rattle.shwindow.specs.Lines.{IsRow}
use Rattle.shwindow.specs.Meter.{RoseWithin}
use Rattle.shwindow.specs.declared.line.HeldLine.{HeldLine}
use Rattle.shheld.specs.TopLines.{HasWindow, IsTopLine}

-- a line is the one with which a text begins, and its fault, where it has one, lies within it
abbrev pub IsHeldLine : Edition → List ℕ → HeldLine AKind → Type 0
IsHeldLine edition text line = IsTopLine edition text line × FaultWithin line.len line.kind

-- lines are those of a text
abbrev pub AreHeld : Edition → Row (HeldLine AKind) → Type 0
AreHeld edition lines = (bytes : List ℕ) × IsRow (IsHeldLine edition) bytes lines × (length bytes < 2 ^ 64)

abbrev pub entries_in : AKind → Option Entries
entries_in (entries_line es) = Some es
entries_in _ = None

abbrev pub fault_in : AKind → Option Fault
fault_in (faulty_line fault) = Some fault
fault_in _ = None

-- no offset in the tree of a line that begins there, where it has a tree, is beyond the numbers of a usize
abbrev pub FitsAt : ℕ → AKind → Type 0
FitsAt begin kind = (list : Entries) → kind ≡ entries_line list → NodesWithin (2 ^ 64 - 1 - begin) list

-- ---- what an edit reads

-- how many bytes a reader read: as its meter says, which has a greatest number
abbrev pub count_of : Reader → ℕ
count_of reader = min (meter_of reader) (2 ^ 64 - 1)

-- a meter rose by the length of the window of an edit
abbrev pub HasReadWindow : Edition → List ℕ → Row ASplice → ℕ → ℕ → Type 0
HasReadWindow edition bytes ss before meter =
    (w t : ℕ) × HasWindow edition bytes ss w t × (meter ≡ raised before (t - w))

-- or by no more
abbrev pub HasReadNoMore : Edition → List ℕ → Row ASplice → ℕ → ℕ → Type 0
HasReadNoMore edition bytes ss before meter =
    (w t : ℕ) → HasWindow edition bytes ss w t → RoseWithin (t - w) before meter
