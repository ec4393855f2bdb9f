-- Bodies go into a row of nodes from a place on: what a loop over a vector of nodes has still to do.
use Rattle.std.proofs.Common.{◌≡◌, ℕ, zero, suc, ◌+◌, ◌<◌, ◌≤◌, List as Row, [], ◌∷◌, length, drop, map, set, get_or, refl, ap, sym, arith, add-one}
use Rattle.std.proofs.lemmas.List.{drop_all, length-map}
use Rattle.shast.proofs.FilledBack.{entry_none}
use Rattle.shast.specs.declared.tree.Span.{Span}
use Rattle.shast.specs.Tree.{Entries, AnEntry, AnAndOrPart, APipelinePart, ABranch, ACaseItem, AnItem, entries_of, and_or_parts_of, pipeline_parts_of, branches_of, cases_of, items_of}
use Rattle.shast.specs.Bodies.{fill_entry, fill_entries, fill_pipeline, fill_and_or_part, fill_and_or_parts, fill_command, fill_pipe, fill_pipes, fill_branch, fill_branches, fill_case, fill_cases, fill_item, fill_items, fill_row, filled, filled_row}

module _ {A : Type 0} (f : A → Row Span → A × Row Span) where
  -- the nodes before the place stay
  unfoldable pub going : Row A → ℕ → Row Span → Row A × Row Span
  going [] i bs = ([], bs)
  going (x ∷ xs) zero bs =
      let a = f x bs in
      let r = going xs zero a.1 in
      (a.0 ∷ r.0, r.1)
  going (x ∷ xs) (suc i) bs =
      let r = going xs i bs in
      (x ∷ r.0, r.1)

  -- past the last node nothing is left to do
  pub going_end : (xs : Row A) (i : ℕ) (bs : Row Span) → length xs ≤ i → going xs i bs ≡ (xs, bs)
  unfolding going
  going_end [] i bs h = refl
  going_end (x ∷ xs) zero bs h = absurd (omega arith)
  going_end (x ∷ xs) (suc i) bs h = ap (λ (r : Row A × Row Span). (x ∷ r.0, r.1)) (going_end xs i bs (omega arith))

  module _ {X : Type 0} (v : X → A) where
    -- with the node at an index done, those from the next index on are left to do
    going_suc : (xs : Row X) (i : ℕ) (x y : X) (bs cs : Row Span) → i < length xs → (v y, cs) ≡ f (v (get_or xs i x)) bs
        → going (map v (set xs i y)) (suc i) cs ≡ going (map v xs) i bs
    unfolding going
    going_suc [] i x y bs cs h e = absurd (omega arith)
    going_suc (w ∷ xs) zero x y bs cs h e = rw (← e) refl
    going_suc (w ∷ xs) (suc i) x y bs cs h e =
        ap (λ (r : Row A × Row Span). (v w ∷ r.0, r.1)) (going_suc xs i x y bs cs (omega arith) e)

    -- one node more
    pub going_more : (xs : Row X) (i : ℕ) (x y : X) (bs cs : Row Span) → i < length xs →
        (v y, cs) ≡ f (v (get_or xs i x)) bs
        → going (map v (set xs i y)) (i + 1) cs ≡ going (map v xs) i bs
    going_more xs i x y bs cs h e = rw add-one (going_suc xs i x y bs cs h e)

-- the same, for a row of parts of the code
pub going_over : {A X : Type 0} (f : A → Row Span → A × Row Span) (v : X → A) (xs : Row X) (i : ℕ) (bs : Row Span) →
    length xs ≤ i → going f (map v xs) i bs ≡ (map v xs, bs)
going_over f v xs i bs h =
    let k : length (map v xs) ≤ i = omega (arith, length-map xs v) in
    going_end f (map v xs) i bs k

-- ---- the walks of the definitions, as rows

-- each kind of row is filled as going over it from its first part on does
pub items_going : (is : Row AnItem) (bs : Row Span) → let r = going fill_item is 0 bs in
    fill_items (items_of is) bs ≡ (items_of r.0, r.1)
unfolding going fill_items
items_going [] bs = refl
items_going (i ∷ is) bs = rw (items_going is (fill_item i bs).1) refl

pub row_going : (es : Row AnEntry) (bs : Row Span) → fill_row es bs ≡ going fill_entry es 0 bs
unfolding going fill_row
row_going [] bs = refl
row_going (e ∷ es) bs = rw (row_going es (fill_entry e bs).1) refl

pub entries_going : (es : Row AnEntry) (bs : Row Span) → let r = going fill_entry es 0 bs in
    fill_entries (entries_of es) bs ≡ (entries_of r.0, r.1)
unfolding going fill_entries
entries_going [] bs = refl
entries_going (e ∷ es) bs = rw (entries_going es (fill_entry e bs).1) refl

pub and_or_parts_going : (ps : Row AnAndOrPart) (bs : Row Span) → let r = going fill_and_or_part ps 0 bs in
    fill_and_or_parts (and_or_parts_of ps) bs ≡ (and_or_parts_of r.0, r.1)
unfolding going fill_and_or_parts
and_or_parts_going [] bs = refl
and_or_parts_going (p ∷ ps) bs = rw (and_or_parts_going ps (fill_pipeline p.pipeline bs).1) refl

pub pipes_going : (ps : Row APipelinePart) (bs : Row Span) → let r = going fill_pipe ps 0 bs in
    fill_pipes (pipeline_parts_of ps) bs ≡ (pipeline_parts_of r.0, r.1)
unfolding going fill_pipes
pipes_going [] bs = refl
pipes_going (p ∷ ps) bs = rw (pipes_going ps (fill_command p.command bs).1) refl

pub branches_going : (ps : Row ABranch) (bs : Row Span) → let r = going fill_branch ps 0 bs in
    fill_branches (branches_of ps) bs ≡ (branches_of r.0, r.1)
unfolding going fill_branches
branches_going [] bs = refl
branches_going (p ∷ ps) bs = rw (branches_going ps (fill_branch p bs).1) refl

pub cases_going : (cs : Row ACaseItem) (bs : Row Span) → let r = going fill_case cs 0 bs in
    fill_cases (cases_of cs) bs ≡ (cases_of r.0, r.1)
unfolding going fill_cases
cases_going [] bs = refl
cases_going (c ∷ cs) bs = rw (cases_going cs (fill_case c bs).1) refl

-- ---- the two cases of filling a list, and a row of entries

-- with no body a row stays as it is, and with some it is filled from its first entry on
pub row_none : (bs : Row Span) (es : Row AnEntry) → length bs ≡ 0 → filled_row bs es ≡ es
unfolding filled_row
row_none [] es none = refl
row_none (b ∷ bs) es none = absurd (omega arith)

pub row_some : (bs : Row Span) (es : Row AnEntry) → 0 < length bs → filled_row bs es ≡ (fill_row es bs).0
unfolding filled_row
row_some [] es some = absurd (omega arith)
row_some (b ∷ bs) es some = refl

-- the list of a row is filled as the row is
list_by_row : (es : Row AnEntry) (bs : Row Span) →
    fill_entries (entries_of es) bs ≡ (entries_of (fill_row es bs).0, (fill_row es bs).1)
unfolding fill_entries fill_row
list_by_row [] bs = refl
list_by_row (e ∷ es) bs = rw (list_by_row es (fill_entry e bs).1) refl

-- the list of a filled row is the list, filled
pub row_filled : (bs : Row Span) (es : Row AnEntry) → entries_of (filled_row bs es) ≡ filled bs (entries_of es)
unfolding filled filled_row
row_filled [] es = refl
row_filled (b ∷ bs) es = ap (λ (r : Entries × Row Span). r.0) (sym (list_by_row es (b ∷ bs)))

-- with no body a list stays as it is, and with some it is filled from its first entry on
pub filled_none : (bs : Row Span) (es : Entries) → length bs ≡ 0 → filled bs es ≡ es
unfolding filled
filled_none [] es none = refl
filled_none (b ∷ bs) es none = absurd (omega arith)

pub filled_some : (bs : Row Span) (es : Entries) → 0 < length bs → filled bs es ≡ (fill_entries es bs).0
unfolding filled
filled_some [] es some = absurd (omega arith)
filled_some (b ∷ bs) es some = refl

-- ---- an entry after the last body

-- it stays as it is
pub none_left : (e : AnEntry) (bs : Row Span) (n : ℕ) → length bs ≤ n → fill_entry e (drop n bs) ≡ (e, drop n bs)
none_left e bs n over = rw (drop_all n bs over) (entry_none e)
