-- What a walk over the lines of a script gathers.
use Rattle.std.specs.Prelude.{ℕ, ◌+◌, Bool, true, false, ◌&&◌, List as Row, [], ◌∷◌, ◌++◌, Option, None, Some}
use Rattle.shast.specs.declared.node.NodeLine.{NodeLine}
use Rattle.shast.specs.Moved.{appended, moved}
use Rattle.shast.specs.Nodes.{nodes_at, outline}
use Rattle.shast.specs.Tree.{Entries, no_entry}
use Rattle.shgrammar.specs.declared.fault.Fault.{Fault}
use Rattle.shgrammar.specs.Joined.{blanked, has_entry}
use Rattle.shgrammar.specs.Lines.{AKind, entries_line, faulty_line}
use Rattle.shgrammar.specs.Moved.{moved_fault}
use Rattle.shwindow.specs.declared.line.HeldLine.{HeldLine}

-- The lines so far: their entries, whether the last of them had none, and where the next line begins.
pub record Walk : Type 0 where
  pub entries : Entries
  pub gap : Bool
  pub at : ℕ

abbrev pub no_line : Walk
no_line = record { entries = no_entry; gap = false; at = 0 }

-- the entries of a line at the base, after those before it
abbrev pub more_entries_at : Entries → Bool → ℕ → Entries → Entries
more_entries_at es gap base xs = appended es (blanked (gap && has_entry es) (moved base xs))

-- with those of a line of this kind, where it has some
abbrev pub entries_with : Walk → AKind → Entries
entries_with so (entries_line xs) = more_entries_at so.entries so.gap so.at xs
entries_with so _ = so.entries

abbrev pub has_none : AKind → Bool
has_none (entries_line xs) = false
has_none _ = true

-- one line more, and all of a row
abbrev pub with_line : Walk → HeldLine AKind → Walk
with_line so l = record { entries = entries_with so l.kind; gap = has_none l.kind; at = so.at + l.len }

abbrev pub with_lines : Walk → Row (HeldLine AKind) → Walk
with_lines so [] = so
with_lines so (l ∷ ls) = with_lines (with_line so l) ls

-- ---- what lines tell where they stand

-- the fault of a line that begins at the base, if it has one
abbrev pub fault_at : ℕ → AKind → Option Fault
fault_at base (faulty_line f) = Some (moved_fault base f)
fault_at base _ = None

-- the nodes of a line that hold the byte at an offset, and those of its outline
abbrev pub line_nodes_at : ℕ → ℕ → AKind → Row NodeLine
line_nodes_at base at (entries_line xs) = nodes_at base at xs
line_nodes_at base at _ = []

abbrev pub line_outline : ℕ → AKind → Row NodeLine
line_outline base (entries_line xs) = outline base xs
line_outline base _ = []

-- the outlines of the lines from the base on, one after the other
abbrev pub outlines : ℕ → Row (HeldLine AKind) → Row NodeLine
outlines base [] = []
outlines base (l ∷ ls) = line_outline base l.kind ++ outlines (base + l.len) ls
