-- The shape of a list that stands elsewhere: where each of its texts stands there too, it is the same.
use Rattle.std.proofs.Common.{◌≡◌, ℕ, true, List, List as Row, [], ◌∷◌, map, option_map, refl, ap}
use Rattle.std.specs.Prelude.{Option, Some, None}
use Rattle.shast.specs.declared.tree.Span.{Span}
use Rattle.shast.specs.Tree.{AHere, Entries, no_entry, more_entries, AnEntry, entry, AContent, command, remark, AnAndOr, and_or, AndOrParts, no_and_or, more_and_or, APipeline, pipeline, PipelineParts, no_pipe, more_pipes, ACommand, simple, compound, function, ACompound, formed, AForm, brace, subshell, if_then, while_do, until_do, for_in, case_in, ABranch, branch, Branches, no_branch, more_branches, Otherwise, no_else, otherwise, ForWords, no_in, in_words, CaseItems, no_case, more_cases, ACaseItem, case_item, Patterns, no_pattern, more_patterns, Items, no_item, more_items, AnItem, item, AnItemContent, assign, argument, redirect, AWord, word, Substs, no_subst, more_substs, ASubst, subst}
use Rattle.shast.specs.Shape.{Text, bare, bare_at, text_at, shape_of, shape_of_and_or, shape_of_and_or_parts, shape_of_branch, shape_of_branches, shape_of_case, shape_of_cases, shape_of_command, shape_of_comment, shape_of_comments, shape_of_compound, shape_of_content, shape_of_else, shape_of_entry, shape_of_for_words, shape_of_form, shape_of_here, shape_of_item, shape_of_item_content, shape_of_items, shape_of_patterns, shape_of_pipeline, shape_of_pipes, shape_of_subst, shape_of_substs, shape_of_word}
use Rattle.shast.specs.Everywhere.{OfSome, OfEach, OfHere, Throughout, InEntry, InContent, InAndOr, InAndOrParts, InPipeline, InPipes, InCommand, InCompound, InForm, InBranch, InBranches, InElse, InForWords, InCases, InCase, InPatterns, InItems, InItem, InItemContent, InWord, InSubsts, InSubst}
use Rattle.shast.specs.Moved.{carried, carried_entry, carried_content, carried_and_or, carried_and_or_parts, carried_pipeline, carried_pipes, carried_command, carried_compound, carried_form, carried_branch, carried_branches, carried_else, carried_for_words, carried_cases, carried_case, carried_patterns, carried_items, carried_item, carried_item_content, carried_word, carried_substs, carried_subst, carried_here}

-- B has at f of a span what C has at the span, and at h of it too
module _ (B C : List ℕ) (f h : Span → Span) where
  abbrev pub SameText : Span → Type 0
  SameText s = (text_at B (f s) ≡ text_at C s) × (text_at B (h s) ≡ text_at C s)

  -- a comment, a number and a `!`, where there is one
  some_same : (c : Option Span) → OfSome SameText c →
      option_map (shape_of_comment B) (option_map f c) ≡ option_map (shape_of_comment C) c
  some_same None so = refl
  some_same (Some s) so = ap Some so.0

  number_same : (c : Option Span) → OfSome SameText c →
      option_map (bare_at B) (option_map f c) ≡ option_map (bare_at C) c
  number_same None so = refl
  number_same (Some s) so = ap (λ (t : Text). Some (bare t)) so.0

  bang_same : (c : Option Span) →
      option_map Rattle.shast.specs.Shape.shape_of_mark (option_map f c)
      ≡ option_map Rattle.shast.specs.Shape.shape_of_mark c
  bang_same None = refl
  bang_same (Some s) = refl

  -- a row of comments, and a here-document where there is one
  each_same : (cs : Row Span) → OfEach SameText cs → shape_of_comments B (map f cs) ≡ shape_of_comments C cs
  each_same [] so = refl
  each_same (c ∷ cs) so = rw (so.0.0, each_same cs so.1) refl

  here_same : (d : Option AHere) → OfHere SameText d →
      option_map (shape_of_here B) (option_map (carried_here f h) d) ≡ option_map (shape_of_here C) d
  here_same None so = refl
  here_same (Some d) so = ap (λ (t : Text). Some (record { literal = d.literal; strip = d.strip; body = t })) so.1

  -- whatever holds of the items of each simple command
  module _ (Q : Items → Type 0) where
    -- a list, and each part of it
    mutual
      pub shape_same : (x : Entries) → Throughout SameText Q x → shape_of B (carried f h true x) ≡ shape_of C x
      shape_same no_entry so = refl
      shape_same (more_entries e es) so = rw (entry_same e so.0, shape_same es so.1) refl

      pub entry_same : (x : AnEntry) → InEntry SameText Q x →
          shape_of_entry B (carried_entry f h true x) ≡ shape_of_entry C x
      entry_same (entry what background blank comment) so = rw (content_same what so.0, some_same comment so.1) refl

      content_same : (x : AContent) → InContent SameText Q x →
          shape_of_content B (carried_content f h true x) ≡ shape_of_content C x
      content_same (command a) so = rw (and_or_same a so) refl
      content_same (remark c) so = rw so.0 refl

      and_or_same : (x : AnAndOr) → InAndOr SameText Q x →
          shape_of_and_or B (carried_and_or f h true x) ≡ shape_of_and_or C x
      and_or_same (and_or first rest) so = rw (pipeline_same first so.0, and_or_parts_same rest so.1) refl

      and_or_parts_same : (x : AndOrParts) → InAndOrParts SameText Q x →
          shape_of_and_or_parts B (carried_and_or_parts f h true x) ≡ shape_of_and_or_parts C x
      and_or_parts_same no_and_or so = refl
      and_or_parts_same (more_and_or operator join p ps) so =
          rw (each_same join.comments so.0, pipeline_same p so.1, and_or_parts_same ps so.2) refl

      -- a pipeline, and the commands in it
      pipeline_same : (x : APipeline) → InPipeline SameText Q x →
          shape_of_pipeline B (carried_pipeline f h true x) ≡ shape_of_pipeline C x
      pipeline_same (pipeline bang first rest) so =
          rw (bang_same bang, command_same first so.1, pipes_same rest so.2) refl

      pipes_same : (x : PipelineParts) → InPipes SameText Q x →
          shape_of_pipes B (carried_pipes f h true x) ≡ shape_of_pipes C x
      pipes_same no_pipe so = refl
      pipes_same (more_pipes join c cs) so =
          rw (each_same join.comments so.0, command_same c so.1, pipes_same cs so.2) refl

      command_same : (x : ACommand) → InCommand SameText Q x →
          shape_of_command B (carried_command f h true x) ≡ shape_of_command C x
      command_same (simple items) so = rw (items_same items so.1) refl
      command_same (compound c) so = rw (compound_same c so) refl
      command_same (function name comments body) so = rw (so.0.0, each_same comments so.1, compound_same body so.2) refl

      compound_same : (x : ACompound) → InCompound SameText Q x →
          shape_of_compound B (carried_compound f h true x) ≡ shape_of_compound C x
      compound_same (formed form span redirects) so = rw (form_same form so.0, items_same redirects so.2) refl

      -- a compound command without its redirections, and the branches of an `if`
      form_same : (x : AForm) → InForm SameText Q x → shape_of_form B (carried_form f h true x) ≡ shape_of_form C x
      form_same (brace es) so = rw (shape_same es so) refl
      form_same (subshell es) so = rw (shape_same es so) refl
      form_same (if_then first rest other) so =
          rw (branch_same first so.0, branches_same rest so.1, else_same other so.2) refl
      form_same (while_do b) so = rw (branch_same b so) refl
      form_same (until_do b) so = rw (branch_same b so) refl
      form_same (for_in name words body) so =
          rw (word_same name so.0, for_words_same words so.1, shape_same body so.2) refl
      form_same (case_in w cases tail) so = rw (word_same w so.0, cases_same cases so.1, each_same tail so.2) refl

      branch_same : (x : ABranch) → InBranch SameText Q x →
          shape_of_branch B (carried_branch f h true x) ≡ shape_of_branch C x
      branch_same (branch condition body) so = rw (shape_same condition so.0, shape_same body so.1) refl

      branches_same : (x : Branches) → InBranches SameText Q x →
          shape_of_branches B (carried_branches f h true x) ≡ shape_of_branches C x
      branches_same no_branch so = refl
      branches_same (more_branches b bs) so = rw (branch_same b so.0, branches_same bs so.1) refl

      else_same : (x : Otherwise) → InElse SameText Q x → shape_of_else B (carried_else f h true x) ≡ shape_of_else C x
      else_same no_else so = refl
      else_same (otherwise es) so = rw (shape_same es so) refl

      -- the words of a `for`, and the items of a `case`
      for_words_same : (x : ForWords) → InForWords SameText Q x →
          shape_of_for_words B (carried_for_words f h true x) ≡ shape_of_for_words C x
      for_words_same no_in so = refl
      for_words_same (in_words items) so = rw (items_same items so) refl

      cases_same : (x : CaseItems) → InCases SameText Q x →
          shape_of_cases B (carried_cases f h true x) ≡ shape_of_cases C x
      cases_same no_case so = refl
      cases_same (more_cases c cs) so = rw (case_same c so.0, cases_same cs so.1) refl

      case_same : (x : ACaseItem) → InCase SameText Q x → shape_of_case B (carried_case f h true x) ≡ shape_of_case C x
      case_same (case_item comments patterns body span) so =
          rw (each_same comments so.0, patterns_same patterns so.1, shape_same body so.2) refl

      patterns_same : (x : Patterns) → InPatterns SameText Q x →
          shape_of_patterns B (carried_patterns f h true x) ≡ shape_of_patterns C x
      patterns_same no_pattern so = refl
      patterns_same (more_patterns w ws) so = rw (word_same w so.0, patterns_same ws so.1) refl

      -- a row of items, each by what it is
      items_same : (x : Items) → InItems SameText Q x → shape_of_items B (carried_items f h true x) ≡ shape_of_items C x
      items_same no_item so = refl
      items_same (more_items i is) so = rw (item_same i so.0, items_same is so.1) refl

      item_same : (x : AnItem) → InItem SameText Q x → shape_of_item B (carried_item f h true x) ≡ shape_of_item C x
      item_same (item broken what) so = rw (item_content_same what so) refl

      item_content_same : (x : AnItemContent) → InItemContent SameText Q x →
          shape_of_item_content B (carried_item_content f h true x) ≡ shape_of_item_content C x
      item_content_same (assign w) so = rw (word_same w so) refl
      item_content_same (argument w) so = rw (word_same w so) refl
      item_content_same (redirect number operator span w here) so =
          rw (number_same number so.0, word_same w so.2, here_same here so.3) refl

      -- a word, and the substitutions in it
      word_same : (x : AWord) → InWord SameText Q x → shape_of_word B (carried_word f h true x) ≡ shape_of_word C x
      word_same (word span substs) so = rw (so.0.0, substs_same substs so.1) refl

      substs_same : (x : Substs) → InSubsts SameText Q x →
          shape_of_substs B (carried_substs f h true x) ≡ shape_of_substs C x
      substs_same no_subst so = refl
      substs_same (more_substs s ss) so = rw (subst_same s so.0, substs_same ss so.1) refl

      subst_same : (x : ASubst) → InSubst SameText Q x →
          shape_of_subst B (carried_subst f h true x) ≡ shape_of_subst C x
      subst_same (subst entries span) so = rw (shape_same entries so.0) refl
