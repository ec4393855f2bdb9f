-- Whether a test holds of a row of nodes from a place on: what a loop over a vector of
-- nodes has still to find out.
use Rattle.std.proofs.Common.{◌≡◌, ℕ, zero, suc, ◌+◌, ◌<◌, ◌≤◌, Bool, true, false, List as Row, [], ◌∷◌, length, map, get_or, refl, ap, arith, add-one}
use Rattle.std.specs.Prelude.{◌&&◌, ◌||◌}
use Rattle.shast.specs.Tree.{AnEntry, AnAndOrPart, APipelinePart, ABranch, ACaseItem, AWord, AnItem, ASubst, entries_of, and_or_parts_of, pipeline_parts_of, branches_of, cases_of, patterns_of, items_of, substs_of}
use Rattle.shast.specs.Normal.{is_command, holds_command, is_normal_join, are_normal, is_normal_entry, are_normal_and_ors, is_normal_pipeline, are_normal_pipes, is_normal_command, are_normal_branches, is_normal_branch, are_normal_cases, is_normal_case, are_normal_patterns, is_normal_word, are_normal_items, is_normal_item, are_normal_substs, is_normal_subst}

module _ {A : Type 0} (p : A → Bool) where
  -- the test holds of each node from the place on
  unfoldable pub all_from : Row A → ℕ → Bool
  all_from [] i = true
  all_from (x ∷ xs) zero = p x && all_from xs zero
  all_from (x ∷ xs) (suc i) = all_from xs i

  -- the test holds of some node from the place on
  unfoldable pub any_from : Row A → ℕ → Bool
  any_from [] i = false
  any_from (x ∷ xs) zero = p x || any_from xs zero
  any_from (x ∷ xs) (suc i) = any_from xs i

  module _ {X : Type 0} (v : X → A) where
    -- from a node on, the test holds of all or of some by that node and by those after it
    all_suc : (xs : Row X) (i : ℕ) (d : X) → i < length xs →
        all_from (map v xs) i ≡ (p (v (get_or xs i d)) && all_from (map v xs) (suc i))
    unfolding all_from
    all_suc [] i d h = absurd (omega arith)
    all_suc (x ∷ xs) zero d h = refl
    all_suc (x ∷ xs) (suc i) d h = all_suc xs i d (omega arith)

    any_suc : (xs : Row X) (i : ℕ) (d : X) → i < length xs →
        any_from (map v xs) i ≡ (p (v (get_or xs i d)) || any_from (map v xs) (suc i))
    unfolding any_from
    any_suc [] i d h = absurd (omega arith)
    any_suc (x ∷ xs) zero d h = refl
    any_suc (x ∷ xs) (suc i) d h = any_suc xs i d (omega arith)

    -- one node more
    pub all_more : (xs : Row X) (i : ℕ) (d : X) → i < length xs →
        all_from (map v xs) i ≡ (p (v (get_or xs i d)) && all_from (map v xs) (i + 1))
    all_more xs i d h = rw add-one (all_suc xs i d h)

    pub any_more : (xs : Row X) (i : ℕ) (d : X) → i < length xs →
        any_from (map v xs) i ≡ (p (v (get_or xs i d)) || any_from (map v xs) (i + 1))
    any_more xs i d h = rw add-one (any_suc xs i d h)

    -- past the last node nothing is left
    pub all_end : (xs : Row X) (i : ℕ) → length xs ≤ i → all_from (map v xs) i ≡ true
    unfolding all_from
    all_end [] i h = refl
    all_end (x ∷ xs) zero h = absurd (omega arith)
    all_end (x ∷ xs) (suc i) h = all_end xs i (omega arith)

    pub any_end : (xs : Row X) (i : ℕ) → length xs ≤ i → any_from (map v xs) i ≡ false
    unfolding any_from
    any_end [] i h = refl
    any_end (x ∷ xs) zero h = absurd (omega arith)
    any_end (x ∷ xs) (suc i) h = any_end xs i (omega arith)

-- ---- the tests of the definitions, as rows

-- what is tested of an operand of an and-or list, and of one of a pipeline
abbrev pub is_normal_part : AnAndOrPart → Bool
is_normal_part p = is_normal_join p.join && is_normal_pipeline p.pipeline

abbrev pub is_normal_pipe : APipelinePart → Bool
is_normal_pipe p = is_normal_join p.join && is_normal_command p.command

-- a list holds a command, or a row of parts is normal, as the tests say from its first part on
pub command_among : (es : Row AnEntry) → holds_command (entries_of es) ≡ any_from is_command es 0
unfolding any_from
command_among [] = refl
command_among (e ∷ es) = ap (λ b. is_command e || b) (command_among es)

pub entries_all : (es : Row AnEntry) → are_normal (entries_of es) ≡ all_from is_normal_entry es 0
unfolding all_from
entries_all [] = refl
entries_all (e ∷ es) = ap (λ b. is_normal_entry e && b) (entries_all es)

pub parts_all : (ps : Row AnAndOrPart) → are_normal_and_ors (and_or_parts_of ps) ≡ all_from is_normal_part ps 0
unfolding all_from
parts_all [] = refl
parts_all (p ∷ ps) = ap (λ b. is_normal_part p && b) (parts_all ps)

pub pipes_all : (ps : Row APipelinePart) → are_normal_pipes (pipeline_parts_of ps) ≡ all_from is_normal_pipe ps 0
unfolding all_from
pipes_all [] = refl
pipes_all (p ∷ ps) = ap (λ b. is_normal_pipe p && b) (pipes_all ps)

pub branches_all : (bs : Row ABranch) → are_normal_branches (branches_of bs) ≡ all_from is_normal_branch bs 0
unfolding all_from
branches_all [] = refl
branches_all (x ∷ bs) = ap (λ b. is_normal_branch x && b) (branches_all bs)

pub cases_all : (cs : Row ACaseItem) → are_normal_cases (cases_of cs) ≡ all_from is_normal_case cs 0
unfolding all_from
cases_all [] = refl
cases_all (c ∷ cs) = ap (λ b. is_normal_case c && b) (cases_all cs)

pub patterns_all : (ws : Row AWord) → are_normal_patterns (patterns_of ws) ≡ all_from is_normal_word ws 0
unfolding all_from
patterns_all [] = refl
patterns_all (w ∷ ws) = ap (λ b. is_normal_word w && b) (patterns_all ws)

pub items_all : (is : Row AnItem) → are_normal_items (items_of is) ≡ all_from is_normal_item is 0
unfolding all_from
items_all [] = refl
items_all (i ∷ is) = ap (λ b. is_normal_item i && b) (items_all is)

pub substs_all : (ss : Row ASubst) → are_normal_substs (substs_of ss) ≡ all_from is_normal_subst ss 0
unfolding all_from
substs_all [] = refl
substs_all (s ∷ ss) = ap (λ b. is_normal_subst s && b) (substs_all ss)
