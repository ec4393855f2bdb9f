-- A row of parts, copied one by one, with what f makes of their spans.
use Rattle.std.proofs.Common.{true, ◌≡◌, ℕ, ◌+◌, ◌<◌, ◌≤◌, List as Row, [], ◌∷◌, ◌++◌, length, map, drop, get_or, refl, sym, ap, ◌∙◌, append_assoc, append-nil}
use Rattle.std.proofs.lemmas.List.{drop_more, map-append, drop_all}
use Rattle.shast.specs.declared.tree.Span.{Span}
use Rattle.shast.specs.declared.tree.Entry.{Entry}
use Rattle.shast.specs.View.{view_entry}
use Rattle.shast.specs.Tree.{AnEntry, AnAndOrPart, APipelinePart, ABranch, ACaseItem, AWord, AnItem, ASubst, entries_of, and_or_parts_of, pipeline_parts_of, branches_of, cases_of, patterns_of, items_of, substs_of}
use Rattle.shast.proofs.Appended.{rows_appended}
use Rattle.shast.specs.Moved.{appended, carried, carried_and_or_part, carried_and_or_parts, carried_branch, carried_branches, carried_case, carried_cases, carried_entry, carried_item, carried_items, carried_patterns, carried_pipe, carried_pipes, carried_subst, carried_substs, carried_word}

module _ {X A : Type 0} (g : A → A) (v : X → A) where
  -- the copies so far, and then what is made of the parts from a place on
  unfoldable pub still : Row X → Row X → ℕ → Row A
  still made xs i = map v made ++ map g (map v (drop i xs))

  -- it is what is made of the row: before the first copy, with each one more, and after the last
  pub still_first : (xs : Row X) → still [] xs 0 ≡ map g (map v xs)
  unfolding still
  still_first xs = refl

  pub still_more : (made xs : Row X) (i : ℕ) (d y : X) → i < length xs → v y ≡ g (v (get_or xs i d)) →
      still (made ++ y ∷ []) xs (i + 1) ≡ still made xs i
  unfolding still
  still_more made xs i d y lt is =
      rw (drop_more xs i d lt, map-append v made (y ∷ []), append_assoc, is) refl

  pub still_last : (made xs : Row X) (i : ℕ) → length xs ≤ i → still made xs i ≡ map v made
  unfolding still
  still_last made xs i le = rw (drop_all i xs le) (append-nil (map v made))

-- ---- the parts of a tree, as rows

module _ (f h : Span → Span) where
  -- a row of each kind: its parts, each of them changed, are the changed row
  pub entries_carried : (xs : Row AnEntry) →
      entries_of (map (carried_entry f h true) xs) ≡ carried f h true (entries_of xs)
  entries_carried [] = refl
  entries_carried (x ∷ xs) = rw (entries_carried xs) refl

  pub and_or_parts_carried : (xs : Row AnAndOrPart) →
      and_or_parts_of (map (carried_and_or_part f h true) xs) ≡ carried_and_or_parts f h true (and_or_parts_of xs)
  and_or_parts_carried [] = refl
  and_or_parts_carried (x ∷ xs) = rw (and_or_parts_carried xs) refl

  pub pipes_carried : (xs : Row APipelinePart) →
      pipeline_parts_of (map (carried_pipe f h true) xs) ≡ carried_pipes f h true (pipeline_parts_of xs)
  pipes_carried [] = refl
  pipes_carried (x ∷ xs) = rw (pipes_carried xs) refl

  pub branches_carried : (xs : Row ABranch) →
      branches_of (map (carried_branch f h true) xs) ≡ carried_branches f h true (branches_of xs)
  branches_carried [] = refl
  branches_carried (x ∷ xs) = rw (branches_carried xs) refl

  pub cases_carried : (xs : Row ACaseItem) →
      cases_of (map (carried_case f h true) xs) ≡ carried_cases f h true (cases_of xs)
  cases_carried [] = refl
  cases_carried (x ∷ xs) = rw (cases_carried xs) refl

  pub patterns_carried : (xs : Row AWord) →
      patterns_of (map (carried_word f h true) xs) ≡ carried_patterns f h true (patterns_of xs)
  patterns_carried [] = refl
  patterns_carried (x ∷ xs) = rw (patterns_carried xs) refl

  pub items_carried : (xs : Row AnItem) →
      items_of (map (carried_item f h true) xs) ≡ carried_items f h true (items_of xs)
  items_carried [] = refl
  items_carried (x ∷ xs) = rw (items_carried xs) refl

  pub substs_carried : (xs : Row ASubst) →
      substs_of (map (carried_subst f h true) xs) ≡ carried_substs f h true (substs_of xs)
  substs_carried [] = refl
  substs_carried (x ∷ xs) = rw (substs_carried xs) refl

-- one list after another
pub lists_appended : (es ls : Row Entry) →
    entries_of (map view_entry (es ++ ls)) ≡ appended (entries_of (map view_entry es)) (entries_of (map view_entry ls))
lists_appended es ls = ap entries_of (map-append view_entry es ls)
    ∙ sym (rows_appended (map view_entry es) (map view_entry ls))
