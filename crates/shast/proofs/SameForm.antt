-- A tree and its shape are alike in normal form, since the normal form looks at no text and at no mark.
use Rattle.std.proofs.Common.{◌≡◌, refl, ℕ, Bool, List, [], ◌∷◌, List as Row, Some, None}
use Rattle.shast.specs.declared.tree.Span.{Span}
use Rattle.shast.specs.Tree.{AJoin, Entries, no_entry, more_entries, AnEntry, entry, command, remark, AnAndOr, and_or, AndOrParts, no_and_or, more_and_or, APipeline, pipeline, PipelineParts, no_pipe, more_pipes, ACommand, simple, compound, function, ACompound, formed, AForm, brace, subshell, if_then, while_do, until_do, for_in, case_in, ABranch, branch, Branches, no_branch, more_branches, Otherwise, no_else, otherwise, ForWords, no_in, in_words, CaseItems, no_case, more_cases, ACaseItem, case_item, Patterns, no_pattern, more_patterns, Items, no_item, more_items, AnItem, item, AnItemContent, assign, argument, redirect, AWord, word, Substs, no_subst, more_substs, ASubst, subst}
use Rattle.shast.specs.Normal.{first_not_blank, first_not_broken, broken_by, is_normal_join, is_command, holds_command, is_whole, are_normal, is_normal_entry, is_normal_and_or, are_normal_and_ors, is_normal_pipeline, are_normal_pipes, is_normal_command, is_normal_compound, is_normal_form, is_normal_branch, are_normal_branches, is_normal_else, are_normal_words, are_normal_cases, is_normal_case, are_normal_patterns, are_normal_items, is_normal_item, is_normal_content, is_normal_word, are_normal_substs, is_normal_subst, is_normal}
use Rattle.shast.specs.Shape.{shape_of, shape_of_comments, shape_of_join, shape_of_entry, shape_of_and_or, shape_of_and_or_parts, shape_of_pipeline, shape_of_pipes, shape_of_command, shape_of_compound, shape_of_form, shape_of_branch, shape_of_branches, shape_of_else, shape_of_for_words, shape_of_cases, shape_of_case, shape_of_patterns, shape_of_items, shape_of_item, shape_of_item_content, shape_of_word, shape_of_substs, shape_of_subst}

module _ (B : List ℕ) where
  -- ---- what stands first in a row, and whether a list holds a command

  -- each of these is the same for a tree and its shape
  same_first : (es : Entries) → first_not_blank (shape_of B es) ≡ first_not_blank es
  same_first no_entry = refl
  same_first (more_entries (entry what background blank comment) es) = refl

  same_first_item : (is : Items) → first_not_broken (shape_of_items B is) ≡ first_not_broken is
  same_first_item no_item = refl
  same_first_item (more_items (item broken what) is) = refl

  same_broken : (cs : Row Span) (broken : Bool) → broken_by (shape_of_comments B cs) broken ≡ broken_by cs broken
  same_broken [] broken = refl
  same_broken (c ∷ cs) broken = refl

  same_join : (j : AJoin) → is_normal_join (shape_of_join B j) ≡ is_normal_join j
  same_join j = same_broken j.comments j.broken

  same_is_command : (e : AnEntry) → is_command (shape_of_entry B e) ≡ is_command e
  same_is_command (entry (command a) background blank comment) = refl
  same_is_command (entry (remark c) background blank comment) = refl

  same_holds : (es : Entries) → holds_command (shape_of B es) ≡ holds_command es
  same_holds no_entry = refl
  same_holds (more_entries e es) = rw (same_is_command e, same_holds es) refl

  same_whole : (es : Entries) → is_whole (shape_of B es) ≡ is_whole es
  same_whole es = rw (same_holds es, same_first es) refl

  -- ---- each part

  mutual
    -- each kind of part is in normal form where its shape is
    same_all : (es : Entries) → are_normal (shape_of B es) ≡ are_normal es
    same_all no_entry = refl
    same_all (more_entries e es) = rw (same_entry e, same_all es) refl

    same_entry : (e : AnEntry) → is_normal_entry (shape_of_entry B e) ≡ is_normal_entry e
    same_entry (entry (command a) background blank comment) = same_and_or a
    same_entry (entry (remark c) background blank None) = refl
    same_entry (entry (remark c) background blank (Some d)) = refl

    same_and_or : (a : AnAndOr) → is_normal_and_or (shape_of_and_or B a) ≡ is_normal_and_or a
    same_and_or (and_or first rest) = rw (same_pipeline first, same_and_ors rest) refl

    same_and_ors : (ps : AndOrParts) → are_normal_and_ors (shape_of_and_or_parts B ps) ≡ are_normal_and_ors ps
    same_and_ors no_and_or = refl
    same_and_ors (more_and_or operator join p ps) = rw (same_join join, same_pipeline p, same_and_ors ps) refl

    same_pipeline : (p : APipeline) → is_normal_pipeline (shape_of_pipeline B p) ≡ is_normal_pipeline p
    same_pipeline (pipeline bang first rest) = rw (same_command first, same_pipes rest) refl

    same_pipes : (ps : PipelineParts) → are_normal_pipes (shape_of_pipes B ps) ≡ are_normal_pipes ps
    same_pipes no_pipe = refl
    same_pipes (more_pipes join c cs) = rw (same_join join, same_command c, same_pipes cs) refl

    same_command : (c : ACommand) → is_normal_command (shape_of_command B c) ≡ is_normal_command c
    same_command (simple items) = rw (same_first_item items, same_items items) refl
    same_command (compound c) = same_compound c
    same_command (function name comments body) = same_compound body

    same_compound : (c : ACompound) → is_normal_compound (shape_of_compound B c) ≡ is_normal_compound c
    same_compound (formed form span redirects) = rw (same_of_form form, same_items redirects) refl

    same_of_form : (f : AForm) → is_normal_form (shape_of_form B f) ≡ is_normal_form f
    same_of_form (brace es) = rw (same_whole es, same_all es) refl
    same_of_form (subshell es) = rw (same_whole es, same_all es) refl
    same_of_form (if_then first rest other) = rw (same_branch first, same_branches rest, same_else other) refl
    same_of_form (while_do b) = same_branch b
    same_of_form (until_do b) = same_branch b
    same_of_form (for_in name words body) = rw (same_word name, same_words words, same_whole body, same_all body) refl
    same_of_form (case_in w items tail) = rw (same_word w, same_cases items) refl

    same_branch : (b : ABranch) → is_normal_branch (shape_of_branch B b) ≡ is_normal_branch b
    same_branch (branch condition body) =
        rw (same_whole condition, same_all condition, same_whole body, same_all body) refl

    same_branches : (bs : Branches) → are_normal_branches (shape_of_branches B bs) ≡ are_normal_branches bs
    same_branches no_branch = refl
    same_branches (more_branches b bs) = rw (same_branch b, same_branches bs) refl

    same_else : (o : Otherwise) → is_normal_else (shape_of_else B o) ≡ is_normal_else o
    same_else no_else = refl
    same_else (otherwise es) = rw (same_whole es, same_all es) refl

    same_words : (ws : ForWords) → are_normal_words (shape_of_for_words B ws) ≡ are_normal_words ws
    same_words no_in = refl
    same_words (in_words items) = rw (same_first_item items, same_items items) refl

    same_cases : (cs : CaseItems) → are_normal_cases (shape_of_cases B cs) ≡ are_normal_cases cs
    same_cases no_case = refl
    same_cases (more_cases c cs) = rw (same_case c, same_cases cs) refl

    same_case : (c : ACaseItem) → is_normal_case (shape_of_case B c) ≡ is_normal_case c
    same_case (case_item comments patterns body span) = rw (same_patterns patterns, same_first body, same_all body) refl

    same_patterns : (ws : Patterns) → are_normal_patterns (shape_of_patterns B ws) ≡ are_normal_patterns ws
    same_patterns no_pattern = refl
    same_patterns (more_patterns w ws) = rw (same_word w, same_patterns ws) refl

    same_items : (is : Items) → are_normal_items (shape_of_items B is) ≡ are_normal_items is
    same_items no_item = refl
    same_items (more_items i is) = rw (same_item i, same_items is) refl

    same_item : (i : AnItem) → is_normal_item (shape_of_item B i) ≡ is_normal_item i
    same_item (item broken what) = same_content what

    same_content : (c : AnItemContent) → is_normal_content (shape_of_item_content B c) ≡ is_normal_content c
    same_content (assign w) = same_word w
    same_content (argument w) = same_word w
    same_content (redirect number operator span w here) = same_word w

    same_word : (w : AWord) → is_normal_word (shape_of_word B w) ≡ is_normal_word w
    same_word (word span substs) = same_substs substs

    same_substs : (ss : Substs) → are_normal_substs (shape_of_substs B ss) ≡ are_normal_substs ss
    same_substs no_subst = refl
    same_substs (more_substs s ss) = rw (same_subst s, same_substs ss) refl

    same_subst : (s : ASubst) → is_normal_subst (shape_of_subst B s) ≡ is_normal_subst s
    same_subst (subst es span) = rw (same_first es, same_all es) refl

-- a tree and its shape are alike in normal form
pub same_form : (B : List ℕ) (es : Entries) → is_normal (shape_of B es) ≡ is_normal es
same_form B es = rw (same_first B es, same_all B es) refl
