-- A list with documents in each place, before and after it is filled: what the
-- definitions of bodies have to give.
use Rattle.std.proofs.Common.{◌≡◌, refl, ℕ, [], ◌∷◌, false, Some, None}
use Rattle.shast.specs.declared.tree.AndOrOperator.TheVariants.{And}
use Rattle.shast.specs.declared.tree.RedirectOperator.TheVariants.{Here}
use Rattle.shast.specs.Tree.{EntriesOf, AnItemOf, ACommandOf, AFormOf, ABranchOf, AWordOf, AJoinOf, more_entries, no_entry, entry, command, and_or, no_and_or, more_and_or, pipeline, no_pipe, more_pipes, simple, compound, function, formed, brace, if_then, while_do, for_in, case_in, branch, no_branch, more_branches, otherwise, no_in, no_case, more_cases, case_item, more_patterns, no_pattern, no_item, more_items, item, argument, redirect, word, no_subst, more_substs, subst}
use Rattle.shast.specs.Normal.{alone, of_command}
use Rattle.shast.specs.Bodies.{filled, fill_entries, fill_items, fill_item, fill_item_content}
use Rattle.shast.specs.Opened.{opened, open_items, open_item, open_item_content, bodies_of, entries_bodies, items_bodies, item_bodies, item_content_bodies}

-- texts and marks are numbers here, and the body of a document is the number that tells it
abbrev Numbered : (Type 0 → Type 0 → Type 0) → Type 0
Numbered Part = Part ℕ ℕ

-- a word, a join, an item with a document, a command and a list of it, and a branch of two of those
abbrev a_word : Numbered AWordOf
a_word = word 0 no_subst

abbrev a_join : AJoinOf ℕ
a_join = record { broken = false; comments = [] }

abbrev document : ℕ → Numbered AnItemOf
document n = item false (redirect None Here 0 a_word (Some (record { literal = false; strip = false; body = n })))

abbrev one : ℕ → Numbered ACommandOf
one n = simple (more_items (document n) no_item)

abbrev list : ℕ → Numbered EntriesOf
list n = alone (of_command (one n))

abbrev tested : ℕ → ℕ → Numbered ABranchOf
tested m n = branch (list m) (list n)

-- a form with a document after it
abbrev before : Numbered AFormOf → ℕ → Numbered ACommandOf
before form n = compound (formed form 0 (more_items (document n) no_item))

-- a substitution in a word, with a document of its own
abbrev substituted : ℕ → Numbered AnItemOf
substituted n = item false (argument (word 0 (more_substs (subst (list n) 0) no_subst)))

-- the documents of the level by the number of each, and one in a word
abbrev whole : ℕ → ℕ → ℕ → ℕ → ℕ → ℕ → ℕ → ℕ → ℕ → ℕ → ℕ → ℕ → ℕ → ℕ → ℕ → ℕ → ℕ → Numbered EntriesOf
whole a b c d e f g h i j k l m n o p q =
    more_entries (entry (command (and_or (pipeline None (one a) (more_pipes a_join (one b) no_pipe))
    (more_and_or And a_join (pipeline None (one c) no_pipe) no_and_or))) false false None)
    (more_entries (of_command (before
    (if_then (tested d e) (more_branches (tested f g) no_branch) (otherwise (list h))) i))
    (more_entries (of_command (before (while_do (tested j k)) l))
    (more_entries (of_command (before (for_in a_word no_in (list m)) n))
    (more_entries (of_command (before
    (case_in a_word (more_cases (case_item [] (more_patterns a_word no_pattern) (list o)
    (record { mark = 0; falls = false })) no_case) []) p))
    (more_entries (of_command (function 0 []
    (formed (brace (alone (of_command (simple (more_items (substituted 99) (more_items (document q) no_item)))))) 0
    no_item)))
    no_entry)))))

-- filled, each document has the body of its number, and the one in a word stays
pub filled_whole :
    filled (1 ∷ 2 ∷ 3 ∷ 4 ∷ 5 ∷ 6 ∷ 7 ∷ 8 ∷ 9 ∷ 10 ∷ 11 ∷ 12 ∷ 13 ∷ 14 ∷ 15 ∷ 16 ∷ 17 ∷ [])
    (whole 0 0 0 0 0 0 0 0 0 0 0 0 0 0 0 0 0)
    ≡ whole 1 2 3 4 5 6 7 8 9 10 11 12 13 14 15 16 17
unfolding filled fill_entries fill_items fill_item fill_item_content
filled_whole = refl

-- opened, each document has 0 for its body, and the one in a word stays
pub opened_whole : opened 0 (whole 1 2 3 4 5 6 7 8 9 10 11 12 13 14 15 16 17) ≡ whole 0 0 0 0 0 0 0 0 0 0 0 0 0 0 0 0 0
unfolding opened open_items open_item open_item_content
opened_whole = refl

-- its bodies are in the order of their operators, without the one in a word
pub bodies_of_whole :
    bodies_of (whole 1 2 3 4 5 6 7 8 9 10 11 12 13 14 15 16 17) ≡ 1 ∷ 2 ∷ 3 ∷ 4 ∷ 5 ∷ 6 ∷ 7 ∷ 8 ∷ 9 ∷ 10 ∷ 11 ∷ 12 ∷ 13
    ∷ 14 ∷ 15 ∷ 16 ∷ 17 ∷ []
unfolding entries_bodies items_bodies item_bodies item_content_bodies
bodies_of_whole = refl

-- where there are too few bodies, the last documents stay as they are
pub too_few : filled (1 ∷ []) (more_entries (of_command (one 8)) (list 9)) ≡ more_entries (of_command (one 1)) (list 9)
unfolding filled fill_entries fill_items fill_item fill_item_content
too_few = refl
