-- The top-level lines of a script as a session holds them, and the window of an edit.
use Rattle.std.specs.Prelude.{ℕ, false, List, List as Row, map}
use Rattle.shast.specs.Tree.{no_entry}
use Rattle.shgrammar.specs.declared.edition.Edition.{Edition}
use Rattle.shgrammar.specs.Joined.{lines_joined}
use Rattle.shgrammar.specs.Scripts.{AScript}
use Rattle.shgrammar.specs.Lines.{AKind, ALine, IsLine}
use Rattle.shtext.specs.Edit.{ASplice, edited, first_begin, last_end, new_end}
use Rattle.shwindow.specs.declared.line.HeldLine.{HeldLine}
use Rattle.shwindow.specs.Window.{IsWindow}

abbrev pub as_read : HeldLine AKind → ALine
as_read l = record { kind = l.kind; next = l.len; ended = l.ended }

-- the line with which a text begins, read as a script of its own
abbrev pub IsTopLine : Edition → List ℕ → HeldLine AKind → Type 0
IsTopLine edition text l = IsLine edition text (as_read l)

-- the script of the lines of a row, one after the other
abbrev pub script_of : Row (HeldLine AKind) → AScript
script_of row = lines_joined (map as_read row) no_entry false 0

-- The window of an edit of the bytes, from w up to t: it begins at the greatest boundary not after the start
-- of the first splice. It ends at the least boundary of the new text that is not before the end of the last
-- one's bytes and whose old place is a boundary too; where there is none, at the end.
abbrev pub HasWindow : Edition → List ℕ → Row ASplice → ℕ → ℕ → Type 0
HasWindow edition bytes ss w t =
    IsWindow (IsTopLine edition)
    bytes (edited bytes ss) (first_begin ss) (new_end ss) (last_end ss) w t
