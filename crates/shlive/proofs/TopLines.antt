-- The lines that a session holds are the lines of its script.
use Rattle.std.proofs.Common.{◌≡◌, ◌∷◌, ◌++◌, ℕ, [], true, drop, List, List as Row}
use Rattle.shgrammar.specs.declared.edition.Edition.{Edition}
use Rattle.shgrammar.specs.Lines.{AKind, FaultWithin, blank_line, end_line, entries_line, faulty_line}
use Rattle.shwindow.specs.declared.line.HeldLine.{HeldLine}
use Rattle.shwindow.specs.Lines.{IsRow, last_line, more_lines}
use Rattle.shwindow.specs.Window.{IsWindow}
use Rattle.shwindow.proofs.Alike.{same_window}
use Rattle.shwindow.proofs.Rows.{row_ended, row_head, row_rest}
use Rattle.shheld.specs.TopLines.{IsTopLine}
use Rattle.shheld.proofs.Rows.{GoesOn, goes_on}
use Rattle.shlive.specs.HeldLines.{IsHeldLine}

-- ---- held lines are top-level lines, and those that ended are no others

-- a row of held lines is one of top-level lines
pub row_top : (edition : Edition) (B : List ℕ) (hs : Row (HeldLine AKind)) → IsRow (IsHeldLine edition) B hs →
    IsRow (IsTopLine edition) B hs
row_top edition B _ (last_line is not_ended whole) = last_line is.0 not_ended whole
row_top edition B _ (more_lines {h = h} {hs = hs} is ended row) =
    more_lines is.0 ended (row_top edition (drop h.len B) hs row)

-- a line after which the script goes on has no fault past its end, as it has none
none_within : (n : ℕ) (k : AKind) → GoesOn k → FaultWithin n k
none_within n blank_line on = tt
none_within n (entries_line es) on = tt
none_within n end_line on = absurd on
none_within n (faulty_line f) on = absurd on

-- so a top-level line that ended may be held
top_held : (edition : Edition) (T : List ℕ) (l : HeldLine AKind) → IsTopLine edition T l → l.ended ≡ true →
    IsHeldLine edition T l
top_held edition T l is ended = (is, none_within l.len l.kind (goes_on edition T l is ended))

-- an edit has the same windows by held lines and by top-level lines
pub window_top : (edition : Edition) (B U : List ℕ) (a e b w t : ℕ) → IsWindow (IsHeldLine edition) B U a e b w t →
    IsWindow (IsTopLine edition) B U a e b w t
window_top edition = same_window (IsHeldLine edition) (IsTopLine edition) (λ T l is ended. is.0) (top_held edition)

pub window_held : (edition : Edition) (B U : List ℕ) (a e b w t : ℕ) → IsWindow (IsTopLine edition) B U a e b w t →
    IsWindow (IsHeldLine edition) B U a e b w t
window_held edition = same_window (IsTopLine edition) (IsHeldLine edition) (top_held edition) (λ T l is ended. is.0)

-- ---- the fault of the last line

-- the fault of the last line, if it has one, stands within it
pub last_within : (edition : Edition) (B : List ℕ) (xs : Row (HeldLine AKind)) (l : HeldLine AKind) →
    IsRow (IsHeldLine edition) B (xs ++ l ∷ []) → FaultWithin l.len l.kind
last_within edition B [] l row = (row_head (IsHeldLine edition) B l [] row).1
last_within edition B (x ∷ xs) l row =
    last_within edition (drop x.len B) xs l
    (row_rest (IsHeldLine edition) B x (xs ++ l ∷ []) row (row_ended (IsHeldLine edition) B x xs l [] row))
