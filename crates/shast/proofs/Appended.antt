-- One list after another, as a row.
use Rattle.std.proofs.Common.{◌≡◌, List as Row, [], ◌∷◌, ◌++◌, refl}
use Rattle.shast.specs.Tree.{AnEntry, entries_of}
use Rattle.shast.specs.Moved.{appended}

-- a list after another is the list of the one row and then the other
pub rows_appended : (es ls : Row AnEntry) → appended (entries_of es) (entries_of ls) ≡ entries_of (es ++ ls)
rows_appended [] ls = refl
rows_appended (e ∷ es) ls = rw (rows_appended es ls) refl
