-- What a line adds to the list of the lines before it.
use Rattle.std.specs.Prelude.{ℕ}
use Rattle.shast.specs.Moved.{appended, moved}
use Rattle.shast.specs.Tree.{Entries}
use Rattle.shgrammar.specs.Lines.{AKind, entries_line}

-- the entries of a line that begins at an offset, after those of a list; a line without entries adds none
abbrev pub with_line_at : ℕ → Entries → AKind → Entries
with_line_at at list (entries_line es) = appended list (moved at es)
with_line_at at list _ = list
