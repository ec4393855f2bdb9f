-- What is printed of a tree is printed of it without the trees in its command
-- substitutions too: a word is printed as it stands.
use Rattle.std.proofs.Common.{◌≡◌, Bool, true, false, [], ◌∷◌, List, List as Row, ℕ, map, refl}
use Rattle.std.specs.Prelude.{Some, None}
use Rattle.shast.specs.declared.tree.Span.{Span}
use Rattle.shast.specs.Tree.{Entries, no_entry, more_entries, entries_of, AnEntry, entry, AContent, command, remark, AnAndOr, and_or, AndOrParts, no_and_or, more_and_or, APipeline, pipeline, PipelineParts, no_pipe, more_pipes, ACommand, simple, compound, function, ACompound, formed, AForm, brace, subshell, if_then, while_do, until_do, for_in, case_in, ABranch, branch, Branches, no_branch, more_branches, Otherwise, no_else, otherwise, ForWords, no_in, in_words, CaseItems, no_case, more_cases, ACaseItem, case_item, Patterns, no_pattern, more_patterns, Items, no_item, more_items, AnItem, item, assign, argument, redirect, AWord, word}
use Rattle.shast.specs.Shape.{Text, shape_of, shape_of_and_or, shape_of_and_or_parts, shape_of_branch, shape_of_branches, shape_of_case, shape_of_cases, shape_of_command, shape_of_compound, shape_of_content, shape_of_else, shape_of_entry, shape_of_for_words, shape_of_form, shape_of_item, shape_of_items, shape_of_patterns, shape_of_pipeline, shape_of_pipes, shape_of_word}
use Rattle.shast.specs.Moved.{blanked_row, carried, carried_entry, carried_content, carried_and_or, carried_and_or_parts, carried_pipeline, carried_pipes, carried_command, carried_compound, carried_form, carried_branch, carried_branches, carried_else, carried_for_words, carried_cases, carried_case, carried_patterns, carried_items, carried_item, carried_word}
use Rattle.shprint.specs.declared.layout.Layout.{Layout}
use Rattle.shprint.specs.Printed.{is_brace, is_broken_item, is_one_line, print_and_or, print_and_or_parts, print_bare, print_body, print_branch, print_branches, print_case, print_cases, print_command, print_compound, print_content, print_else, print_entries, print_entry, print_first_pattern, print_for_words, print_form, print_item, print_items, print_only, print_patterns, print_pipeline, print_pipes, print_simple, print_word}

module _ (y : Layout) (B : List ℕ) (f h : Span → Span) where
  -- the same with these trees and without: a word, an item, and whether an item is broken
  word_same : (x : AWord) → print_word (shape_of_word B (carried_word f h false x))
      ≡ print_word (shape_of_word B (carried_word f h true x))
  word_same (word span substs) = refl

  item_same : (x : AnItem) → print_item y (shape_of_item B (carried_item f h false x))
      ≡ print_item y (shape_of_item B (carried_item f h true x))
  item_same (item broken (assign w)) = word_same w
  item_same (item broken (argument w)) = word_same w
  item_same (item broken (redirect number operator mark (word span substs) None)) = refl
  item_same (item broken (redirect number operator mark (word span substs) (Some d))) = refl

  broken_same : (x : AnItem) → is_broken_item (shape_of_item B (carried_item f h false x))
      ≡ is_broken_item (shape_of_item B (carried_item f h true x))
  broken_same (item broken what) = refl

  -- items, and a simple command
  items_same : (margin : Text) (x : Items) →
      print_items y margin (shape_of_items B (carried_items f h false x))
      ≡ print_items y margin (shape_of_items B (carried_items f h true x))
  items_same margin no_item = refl
  items_same margin (more_items i is) = rw (broken_same i, item_same i, items_same margin is) refl

  simple_same : (margin : Text) (x : Items) →
      print_simple y margin (shape_of_items B (carried_items f h false x))
      ≡ print_simple y margin (shape_of_items B (carried_items f h true x))
  simple_same margin no_item = refl
  simple_same margin (more_items i is) = rw (item_same i, items_same margin is) refl

  -- the words of a `for`, and the patterns of an item of a `case`
  for_words_same : (margin : Text) (x : ForWords) →
      print_for_words y margin (shape_of_for_words B (carried_for_words f h false x))
      ≡ print_for_words y margin (shape_of_for_words B (carried_for_words f h true x))
  for_words_same margin no_in = refl
  for_words_same margin (in_words items) = rw (items_same margin items) refl

  patterns_same : (x : Patterns) →
      print_patterns (shape_of_patterns B (carried_patterns f h false x))
      ≡ print_patterns (shape_of_patterns B (carried_patterns f h true x))
  patterns_same no_pattern = refl
  patterns_same (more_patterns w ws) = rw (word_same w, patterns_same ws) refl

  first_pattern_same : (x : Patterns) →
      print_first_pattern (shape_of_patterns B (carried_patterns f h false x))
      ≡ print_first_pattern (shape_of_patterns B (carried_patterns f h true x))
  first_pattern_same no_pattern = refl
  first_pattern_same (more_patterns w ws) = rw (word_same w, patterns_same ws) refl

  -- whether a condition stands on one line, and whether the body of a function is in braces
  one_line_same : (x : Entries) →
      is_one_line (shape_of B (carried f h false x)) ≡ is_one_line (shape_of B (carried f h true x))
  one_line_same no_entry = refl
  one_line_same (more_entries (entry (command a) false blank None) no_entry) = refl
  one_line_same (more_entries (entry (command a) false blank None) (more_entries e es)) = refl
  one_line_same (more_entries (entry (command a) false blank (Some c)) es) = refl
  one_line_same (more_entries (entry (command a) true blank c) es) = refl
  one_line_same (more_entries (entry (remark s) background blank c) es) = refl

  brace_same : (x : ACompound) →
      is_brace (shape_of_compound B (carried_compound f h false x))
      ≡ is_brace (shape_of_compound B (carried_compound f h true x))
  brace_same (formed (brace es) mark redirects) = refl
  brace_same (formed (subshell es) mark redirects) = refl
  brace_same (formed (if_then first rest other) mark redirects) = refl
  brace_same (formed (while_do b) mark redirects) = refl
  brace_same (formed (until_do b) mark redirects) = refl
  brace_same (formed (for_in name words body) mark redirects) = refl
  brace_same (formed (case_in w cases tail) mark redirects) = refl

  -- a list and an entry, and what these hold
  mutual
    pub entries_same : (margin : Text) (x : Entries) →
        print_entries y margin (shape_of B (carried f h false x))
        ≡ print_entries y margin (shape_of B (carried f h true x))
    entries_same margin no_entry = refl
    entries_same margin (more_entries e es) = rw (entry_same margin e, entries_same margin es) refl

    entry_same : (margin : Text) (x : AnEntry) →
        print_entry y margin (shape_of_entry B (carried_entry f h false x))
        ≡ print_entry y margin (shape_of_entry B (carried_entry f h true x))
    entry_same margin (entry what background blank comment) = rw (content_same margin what) refl

    content_same : (margin : Text) (x : AContent) →
        print_content y margin (shape_of_content B (carried_content f h false x))
        ≡ print_content y margin (shape_of_content B (carried_content f h true x))
    content_same margin (command a) = and_or_same margin a
    content_same margin (remark c) = refl

    -- an and-or list, a pipeline, and their operands after the first
    and_or_same : (margin : Text) (x : AnAndOr) →
        print_and_or y margin (shape_of_and_or B (carried_and_or f h false x))
        ≡ print_and_or y margin (shape_of_and_or B (carried_and_or f h true x))
    and_or_same margin (and_or first rest) = rw (pipeline_same margin first, and_or_parts_same margin false rest) refl

    and_or_parts_same : (margin : Text) (broken : Bool) (x : AndOrParts) →
        print_and_or_parts y margin broken (shape_of_and_or_parts B (carried_and_or_parts f h false x))
        ≡ print_and_or_parts y margin broken (shape_of_and_or_parts B (carried_and_or_parts f h true x))
    and_or_parts_same margin broken no_and_or = refl
    and_or_parts_same margin broken (more_and_or operator join p ps) =
        rw (pipeline_same _ p, and_or_parts_same margin _ ps) refl

    pipeline_same : (margin : Text) (x : APipeline) →
        print_pipeline y margin (shape_of_pipeline B (carried_pipeline f h false x))
        ≡ print_pipeline y margin (shape_of_pipeline B (carried_pipeline f h true x))
    pipeline_same margin (pipeline bang first rest) = rw (command_same margin first, pipes_same margin false rest) refl

    pipes_same : (margin : Text) (broken : Bool) (x : PipelineParts) →
        print_pipes y margin broken (shape_of_pipes B (carried_pipes f h false x))
        ≡ print_pipes y margin broken (shape_of_pipes B (carried_pipes f h true x))
    pipes_same margin broken no_pipe = refl
    pipes_same margin broken (more_pipes join c cs) = rw (command_same _ c, pipes_same margin _ cs) refl

    -- commands by their kind, and compound commands by their form
    command_same : (margin : Text) (x : ACommand) →
        print_command y margin (shape_of_command B (carried_command f h false x))
        ≡ print_command y margin (shape_of_command B (carried_command f h true x))
    command_same margin (simple items) = simple_same margin items
    command_same margin (compound c) = compound_same margin c
    command_same margin (function name [] body) = rw (brace_same body, compound_same margin body) refl
    command_same margin (function name (c ∷ cs) body) = rw (compound_same margin body) refl

    compound_same : (margin : Text) (x : ACompound) →
        print_compound y margin (shape_of_compound B (carried_compound f h false x))
        ≡ print_compound y margin (shape_of_compound B (carried_compound f h true x))
    compound_same margin (formed form mark redirects) = rw (form_same margin form, items_same margin redirects) refl

    form_same : (margin : Text) (x : AForm) →
        print_form y margin (shape_of_form B (carried_form f h false x))
        ≡ print_form y margin (shape_of_form B (carried_form f h true x))
    form_same margin (brace es) = rw (entries_same _ es) refl
    form_same margin (subshell es) = rw (entries_same _ es) refl
    form_same margin (if_then first rest other) =
        rw (branch_same margin _ _ first, branches_same margin rest, else_same margin other) refl
    form_same margin (while_do b) = rw (branch_same margin _ _ b) refl
    form_same margin (until_do b) = rw (branch_same margin _ _ b) refl
    form_same margin (for_in name words body) =
        rw (word_same name, for_words_same margin words, entries_same _ body) refl
    form_same margin (case_in w cases tail) = rw (word_same w, cases_same _ cases) refl

    -- a condition and what it runs
    branch_same : (margin : Text) (opener opens_body : Text) (x : ABranch) →
        print_branch y margin opener opens_body (shape_of_branch B (carried_branch f h false x))
        ≡ print_branch y margin opener opens_body (shape_of_branch B (carried_branch f h true x))
    branch_same margin opener opens_body (branch condition body) =
        rw (one_line_same condition, only_same margin condition, entries_same _ condition, entries_same _ body) refl

    only_same : (margin : Text) (x : Entries) →
        print_only y margin (shape_of B (carried f h false x)) ≡ print_only y margin (shape_of B (carried f h true x))
    only_same margin no_entry = refl
    only_same margin (more_entries e es) = bare_same margin e

    bare_same : (margin : Text) (x : AnEntry) →
        print_bare y margin (shape_of_entry B (carried_entry f h false x))
        ≡ print_bare y margin (shape_of_entry B (carried_entry f h true x))
    bare_same margin (entry what background blank comment) = content_same margin what

    -- each `elif`, and `else`
    branches_same : (margin : Text) (x : Branches) →
        print_branches y margin (shape_of_branches B (carried_branches f h false x))
        ≡ print_branches y margin (shape_of_branches B (carried_branches f h true x))
    branches_same margin no_branch = refl
    branches_same margin (more_branches b bs) = rw (branch_same margin _ _ b, branches_same margin bs) refl

    else_same : (margin : Text) (x : Otherwise) →
        print_else y margin (shape_of_else B (carried_else f h false x))
        ≡ print_else y margin (shape_of_else B (carried_else f h true x))
    else_same margin no_else = refl
    else_same margin (otherwise es) = rw (entries_same _ es) refl

    -- the items of a `case`
    cases_same : (margin : Text) (x : CaseItems) →
        print_cases y margin (shape_of_cases B (carried_cases f h false x))
        ≡ print_cases y margin (shape_of_cases B (carried_cases f h true x))
    cases_same margin no_case = refl
    cases_same margin (more_cases c cs) = rw (case_same margin c, cases_same margin cs) refl

    case_same : (margin : Text) (x : ACaseItem) →
        print_case y margin (shape_of_case B (carried_case f h false x))
        ≡ print_case y margin (shape_of_case B (carried_case f h true x))
    case_same margin (case_item comments patterns body mark) =
        rw (first_pattern_same patterns, body_same margin body) refl

    body_same : (margin : Text) (x : Entries) →
        print_body y margin (shape_of B (carried f h false x)) ≡ print_body y margin (shape_of B (carried f h true x))
    body_same margin no_entry = refl
    body_same margin (more_entries e es) = rw (entry_same _ e, entries_same _ es) refl

  -- the entries of a line
  row_same : (margin : Text) (es : Row AnEntry) →
      print_entries y margin (shape_of B (entries_of (map (carried_entry f h false) es)))
      ≡ print_entries y margin (shape_of B (entries_of (map (carried_entry f h true) es)))
  row_same margin [] = refl
  row_same margin (e ∷ es) = rw (entry_same margin e, row_same margin es) refl

  -- a line, whose first entry may be blank
  pub line_same : (margin : Text) (blank : Bool) (es : Row AnEntry)
      → print_entries y margin (shape_of B (entries_of (blanked_row blank (map (carried_entry f h false) es))))
      ≡ print_entries y margin (shape_of B (entries_of (blanked_row blank (map (carried_entry f h true) es))))
  line_same margin blank [] = refl
  line_same margin blank (entry what background b comment ∷ es) = rw (content_same margin what, row_same margin es) refl
