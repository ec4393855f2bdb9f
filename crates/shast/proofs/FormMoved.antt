-- A list is in normal form wherever it stands, since the normal form looks at no span.
use Rattle.std.proofs.Common.{true, ◌≡◌, refl, ℕ, Bool, [], ◌∷◌, List as Row, map, Some, None}
use Rattle.shast.specs.declared.tree.Span.{Span}
use Rattle.shast.specs.Tree.{AJoin, Entries, no_entry, more_entries, AnEntry, entry, command, remark, AnAndOr, and_or, AndOrParts, no_and_or, more_and_or, APipeline, pipeline, PipelineParts, no_pipe, more_pipes, ACommand, simple, compound, function, ACompound, formed, AForm, brace, subshell, if_then, while_do, until_do, for_in, case_in, ABranch, branch, Branches, no_branch, more_branches, Otherwise, no_else, otherwise, ForWords, no_in, in_words, CaseItems, no_case, more_cases, ACaseItem, case_item, Patterns, no_pattern, more_patterns, Items, no_item, more_items, AnItem, item, AnItemContent, assign, argument, redirect, AWord, word, Substs, no_subst, more_substs, ASubst, subst}
use Rattle.shast.specs.Normal.{first_not_blank, first_not_broken, broken_by, is_normal_join, is_command, holds_command, is_whole, are_normal, is_normal_entry, is_normal_and_or, are_normal_and_ors, is_normal_pipeline, are_normal_pipes, is_normal_command, is_normal_compound, is_normal_form, is_normal_branch, are_normal_branches, is_normal_else, are_normal_words, are_normal_cases, is_normal_case, are_normal_patterns, are_normal_items, is_normal_item, is_normal_content, is_normal_word, are_normal_substs, is_normal_subst, is_normal}
use Rattle.shast.specs.Moved.{carried, carried_join, carried_entry, carried_and_or, carried_and_or_parts, carried_pipeline, carried_pipes, carried_command, carried_compound, carried_form, carried_branch, carried_branches, carried_else, carried_for_words, carried_cases, carried_case, carried_patterns, carried_items, carried_item, carried_item_content, carried_word, carried_substs, carried_subst, moved, placed_body}
use Rattle.shast.specs.Nodes.{placed_span}

module _ (f h : Span → Span) where
  -- ---- what stands first in a row, and whether a list holds a command

  -- each of these is the same with every span changed
  same_first : (es : Entries) → first_not_blank (carried f h true es) ≡ first_not_blank es
  same_first no_entry = refl
  same_first (more_entries (entry what background blank comment) es) = refl

  same_first_item : (is : Items) → first_not_broken (carried_items f h true is) ≡ first_not_broken is
  same_first_item no_item = refl
  same_first_item (more_items (item broken what) is) = refl

  same_broken : (cs : Row Span) (broken : Bool) → broken_by (map f cs) broken ≡ broken_by cs broken
  same_broken [] broken = refl
  same_broken (c ∷ cs) broken = refl

  same_join : (j : AJoin) → is_normal_join (carried_join f h j) ≡ is_normal_join j
  same_join j = same_broken j.comments j.broken

  same_is_command : (e : AnEntry) → is_command (carried_entry f h true e) ≡ is_command e
  same_is_command (entry (command a) background blank comment) = refl
  same_is_command (entry (remark c) background blank comment) = refl

  same_holds : (es : Entries) → holds_command (carried f h true es) ≡ holds_command es
  same_holds no_entry = refl
  same_holds (more_entries e es) = rw (same_is_command e, same_holds es) refl

  same_whole : (es : Entries) → is_whole (carried f h true es) ≡ is_whole es
  same_whole es = rw (same_holds es, same_first es) refl

  -- ---- each part

  mutual
    -- each kind of part is in normal form with every span changed where it is without that
    same_all : (es : Entries) → are_normal (carried f h true es) ≡ are_normal es
    same_all no_entry = refl
    same_all (more_entries e es) = rw (same_entry e, same_all es) refl

    same_entry : (e : AnEntry) → is_normal_entry (carried_entry f h true e) ≡ is_normal_entry e
    same_entry (entry (command a) background blank comment) = same_and_or a
    same_entry (entry (remark c) background blank None) = refl
    same_entry (entry (remark c) background blank (Some d)) = refl

    same_and_or : (a : AnAndOr) → is_normal_and_or (carried_and_or f h true a) ≡ is_normal_and_or a
    same_and_or (and_or first rest) = rw (same_pipeline first, same_and_ors rest) refl

    same_and_ors : (ps : AndOrParts) → are_normal_and_ors (carried_and_or_parts f h true ps) ≡ are_normal_and_ors ps
    same_and_ors no_and_or = refl
    same_and_ors (more_and_or operator join p ps) = rw (same_join join, same_pipeline p, same_and_ors ps) refl

    same_pipeline : (p : APipeline) → is_normal_pipeline (carried_pipeline f h true p) ≡ is_normal_pipeline p
    same_pipeline (pipeline bang first rest) = rw (same_command first, same_pipes rest) refl

    same_pipes : (ps : PipelineParts) → are_normal_pipes (carried_pipes f h true ps) ≡ are_normal_pipes ps
    same_pipes no_pipe = refl
    same_pipes (more_pipes join c cs) = rw (same_join join, same_command c, same_pipes cs) refl

    same_command : (c : ACommand) → is_normal_command (carried_command f h true c) ≡ is_normal_command c
    same_command (simple items) = rw (same_first_item items, same_items items) refl
    same_command (compound c) = same_compound c
    same_command (function name comments body) = same_compound body

    same_compound : (c : ACompound) → is_normal_compound (carried_compound f h true c) ≡ is_normal_compound c
    same_compound (formed form span redirects) = rw (same_of_form form, same_items redirects) refl

    same_of_form : (m : AForm) → is_normal_form (carried_form f h true m) ≡ is_normal_form m
    same_of_form (brace es) = rw (same_whole es, same_all es) refl
    same_of_form (subshell es) = rw (same_whole es, same_all es) refl
    same_of_form (if_then first rest other) = rw (same_branch first, same_branches rest, same_else other) refl
    same_of_form (while_do b) = same_branch b
    same_of_form (until_do b) = same_branch b
    same_of_form (for_in name words body) = rw (same_word name, same_words words, same_whole body, same_all body) refl
    same_of_form (case_in w items tail) = rw (same_word w, same_cases items) refl

    same_branch : (b : ABranch) → is_normal_branch (carried_branch f h true b) ≡ is_normal_branch b
    same_branch (branch condition body) =
        rw (same_whole condition, same_all condition, same_whole body, same_all body) refl

    same_branches : (bs : Branches) → are_normal_branches (carried_branches f h true bs) ≡ are_normal_branches bs
    same_branches no_branch = refl
    same_branches (more_branches b bs) = rw (same_branch b, same_branches bs) refl

    same_else : (o : Otherwise) → is_normal_else (carried_else f h true o) ≡ is_normal_else o
    same_else no_else = refl
    same_else (otherwise es) = rw (same_whole es, same_all es) refl

    same_words : (ws : ForWords) → are_normal_words (carried_for_words f h true ws) ≡ are_normal_words ws
    same_words no_in = refl
    same_words (in_words items) = rw (same_first_item items, same_items items) refl

    same_cases : (cs : CaseItems) → are_normal_cases (carried_cases f h true cs) ≡ are_normal_cases cs
    same_cases no_case = refl
    same_cases (more_cases c cs) = rw (same_case c, same_cases cs) refl

    same_case : (c : ACaseItem) → is_normal_case (carried_case f h true c) ≡ is_normal_case c
    same_case (case_item comments patterns body span) = rw (same_patterns patterns, same_first body, same_all body) refl

    same_patterns : (ws : Patterns) → are_normal_patterns (carried_patterns f h true ws) ≡ are_normal_patterns ws
    same_patterns no_pattern = refl
    same_patterns (more_patterns w ws) = rw (same_word w, same_patterns ws) refl

    same_items : (is : Items) → are_normal_items (carried_items f h true is) ≡ are_normal_items is
    same_items no_item = refl
    same_items (more_items i is) = rw (same_item i, same_items is) refl

    same_item : (i : AnItem) → is_normal_item (carried_item f h true i) ≡ is_normal_item i
    same_item (item broken what) = same_content what

    same_content : (c : AnItemContent) → is_normal_content (carried_item_content f h true c) ≡ is_normal_content c
    same_content (assign w) = same_word w
    same_content (argument w) = same_word w
    same_content (redirect number operator span w here) = same_word w

    same_word : (w : AWord) → is_normal_word (carried_word f h true w) ≡ is_normal_word w
    same_word (word span substs) = same_substs substs

    same_substs : (ss : Substs) → are_normal_substs (carried_substs f h true ss) ≡ are_normal_substs ss
    same_substs no_subst = refl
    same_substs (more_substs s ss) = rw (same_subst s, same_substs ss) refl

    same_subst : (s : ASubst) → is_normal_subst (carried_subst f h true s) ≡ is_normal_subst s
    same_subst (subst es span) = rw (same_first es, same_all es) refl

-- at another base
pub form_moved : (base : ℕ) (es : Entries) → is_normal (moved base es) ≡ is_normal es
form_moved base es = rw (
  same_first (placed_span base) (placed_body base) es,
  same_all (placed_span base) (placed_body base) es,
) refl
