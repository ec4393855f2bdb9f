-- The entries of a line that is read alone, where it stands in its script: their shape is that over the bytes
-- from the line on, and no empty line stands before the first of them.
use Rattle.std.proofs.Common.{◌≡◌, ℕ, Bool, true, false, Ok, List, List as Row, [], ◌∷◌, map, drop, refl, sym, ap, subst}
use Rattle.shast.specs.Everywhere.{SpansWithin}
use Rattle.shast.specs.Moved.{blanked_row, moved, moved_entry, placed_body}
use Rattle.shast.specs.Nodes.{IsSpanWithin, placed_span}
use Rattle.shast.specs.Shape.{shape_of}
use Rattle.shast.specs.Tree.{AnEntry, Entries, entries_of, entry, more_entries, no_entry}
use Rattle.shgrammar.specs.declared.edition.Edition.{Edition}
use Rattle.shgrammar.specs.declared.keep.Keep.TheVariants.{Whole}
use Rattle.shgrammar.specs.Form.{Read}
use Rattle.shgrammar.specs.Joined.{blanked, has_entry}
use Rattle.shgrammar.specs.Lines.{AKind, ALine, IsLine, entries_line, kind_of, line_read, line_stops}
use Rattle.shgrammar.specs.Moved.{Same}
use Rattle.shgrammar.specs.Scripts.{line_told, the_line}
use Rattle.shgrammar.specs.Sights.{State, given, standing}
use Rattle.shgrammar.proofs.EachSpan.{throughout_so}
use Rattle.shgrammar.proofs.LineInPiece.{body_moved, text_moved}
use Rattle.shgrammar.proofs.MovedLine.{line_moved}
use Rattle.shgrammar.proofs.OneOutcome.{computed_is_only}
use Rattle.shgrammar.proofs.ShapeMoved.{SameText, shape_same}

-- ---- the shape of a list at a base

module _ (base : ℕ) (B : List ℕ) where
  -- a list that is moved to the base has the shape that it has over the bytes from there on
  pub shape_placed : (limit : ℕ) (xs : Entries) → SpansWithin limit xs →
      shape_of B (moved base xs) ≡ shape_of (drop base B) xs
  shape_placed limit xs within =
      shape_same B (drop base B) (placed_span base) (placed_body base) (λ items. Unit {0}) xs
      (throughout_so (IsSpanWithin limit) (SameText B (drop base B) (placed_span base) (placed_body base))
      (λ items. Unit {0}) (λ items. Unit {0})
      (λ s low. (text_moved base B s, body_moved base B s s.«end» refl)) (λ items so. so) xs within)

-- ---- the first entry

-- there is a first entry, and it is not blank
pub record BeginsPlain (xs : Entries) : Type 0 where
  pub some : has_entry xs ≡ true
  pub plain : blanked false xs ≡ xs

-- wherever the list is moved to
pub plain_moved : (base : ℕ) (xs : Entries) → BeginsPlain xs → BeginsPlain (moved base xs)
plain_moved base no_entry is = absurd (no_first is.some)
  where
    no_first : false ≡ true → ⊥
    no_first e = cc
plain_moved base (more_entries (entry what background blank comment) es) is =
    record { some = refl; plain = ap (moved base) is.plain }

-- whether an empty line stands before the first entry
abbrev first_blank : Row AnEntry → Bool
first_blank [] = false
first_blank (entry what background blank comment ∷ es) = blank

-- the entries of a line; where it has none, no entry
abbrev entries_or : AKind → Entries
entries_or (entries_line xs) = xs
entries_or _ = no_entry

-- where none stands there, the line begins with an entry that is not blank
kind_plain : (es : Row AnEntry) (newline : Bool) (xs : Entries) → kind_of es newline ≡ entries_line xs →
    es ≡ blanked_row false (map (moved_entry 0) es) → BeginsPlain xs
kind_plain [] true xs kind_is same = absurd cc
kind_plain [] false xs kind_is same = absurd cc
kind_plain (entry what background blank comment ∷ es) newline xs kind_is same =
    let none : blank ≡ false = ap first_blank same in
    subst BeginsPlain (ap entries_or kind_is) (record {
      some = refl;
      plain = ap (λ (b : Bool). more_entries (entry what background b comment) (entries_of es)) (sym none);
    })

-- a line that is read alone is the line that is read at 0, with no empty line before it
row_plain : (edition : Edition) (T : List ℕ) (es : Row AnEntry) (newline : Bool) (t : State) →
    Ok ((es, newline), t) ≡ line_told edition T Whole false 0 0 → es ≡ blanked_row false (map (moved_entry 0) es)
row_plain edition T es newline t read =
    let same : Same 0 false (Ok ((es, newline), t)) (Ok ((es, newline), t)) =
    subst (λ (r : Read (Row AnEntry × Bool)). Same 0 false r r) (sym read) (line_moved edition T 0 false) in
    same.0

-- and so does each line that is read alone, if it has entries
pub line_plain : (edition : Edition) (T : List ℕ) (a : ALine) → IsLine edition T a → (xs : Entries) →
    a.kind ≡ entries_line xs → BeginsPlain xs
line_plain edition T _ (line_read es newline t k part) xs kind_is =
    kind_plain es newline xs kind_is
    (row_plain edition T es newline t
    ((computed_is_only (the_line false) (given edition T 0) (standing 0)).only (Ok ((es, newline), t)) k part))
line_plain edition T _ (line_stops f k part) xs kind_is = absurd cc
