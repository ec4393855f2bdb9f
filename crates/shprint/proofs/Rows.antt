-- What the loops over the rows of a tree have still to print.
use Rattle.std.proofs.Common.{◌≡◌, ℕ, zero, suc, ◌+◌, ◌<◌, ◌≤◌, ◌||◌, Bool, true, false, List, List as Row, [], ◌∷◌, ◌++◌, drop, length, map, get_or, codes, if◌then◌else◌, refl, ap, ◌∙◌, arith, add-one}
use Rattle.std.proofs.lemmas.List.{at_drop_all, at_drop_more}
use Rattle.shast.specs.declared.tree.Span.{Span}
use Rattle.shast.specs.declared.tree.AndOrPart.{AndOrPart}
use Rattle.shast.specs.declared.tree.PipelinePart.{PipelinePart}
use Rattle.shast.specs.Shape.{Text, text_at, shape_of, shape_of_and_or_parts, shape_of_branch, shape_of_branches, shape_of_case, shape_of_cases, shape_of_command, shape_of_comments, shape_of_entry, shape_of_item, shape_of_items, shape_of_join, shape_of_patterns, shape_of_pipeline, shape_of_pipes, shape_of_word}
use Rattle.shast.specs.Spelling.{and_or_text}
use Rattle.shast.specs.Tree.{AJoinOf, AnEntry, ABranch, ACaseItem, AWord, AnItem, entries_of, and_or_parts_of, pipeline_parts_of, branches_of, cases_of, patterns_of, items_of}
use Rattle.shast.specs.View.{view_and_or_part, view_pipeline_part}
use Rattle.shprint.specs.declared.layout.Layout.{Layout}
use Rattle.shprint.specs.Marks.{Marks, text, line_end, deeper, one}
use Rattle.shprint.specs.Printed.{breaks_line, operand_margin, print_and_or_parts, print_branch, print_branches, print_case, print_cases, print_command, print_comment_lines, print_comments, print_entries, print_entry, print_further_comments, print_items, print_join, print_patterns, print_pipeline, print_pipes, print_word}
use Rattle.shprint.specs.Written.{item_after, print_join_on}

module _ {A : Type 0} (f : A → Marks) where
  -- the marks of a row of parts from a place on: what a loop has still to print
  unfoldable pub marks_from : Row A → ℕ → Marks
  marks_from [] i = []
  marks_from (x ∷ xs) zero = f x ++ marks_from xs zero
  marks_from (x ∷ xs) (suc i) = marks_from xs i

  module _ {X : Type 0} (v : X → A) where
    -- what is left from a part on is its marks, and then what is left from the next one on
    from_suc : (xs : Row X) (i : ℕ) (d : X) → i < length xs →
        marks_from (map v xs) i ≡ f (v (get_or xs i d)) ++ marks_from (map v xs) (suc i)
    unfolding marks_from
    from_suc [] i d h = absurd (omega arith)
    from_suc (x ∷ xs) zero d h = refl
    from_suc (x ∷ xs) (suc i) d h = from_suc xs i d (omega arith)

    -- one part more
    pub from_more : (xs : Row X) (i : ℕ) (d : X) → i < length xs →
        marks_from (map v xs) i ≡ f (v (get_or xs i d)) ++ marks_from (map v xs) (i + 1)
    from_more xs i d h = rw add-one (from_suc xs i d h)

    -- past the last part nothing is left
    pub from_end : (xs : Row X) (i : ℕ) → length xs ≤ i → marks_from (map v xs) i ≡ []
    unfolding marks_from
    from_end [] i h = refl
    from_end (x ∷ xs) zero h = absurd (omega arith)
    from_end (x ∷ xs) (suc i) h = from_end xs i (omega arith)

-- ---- the marks of the definitions, as rows

module _ (B : List ℕ) (y : Layout) (m : Text) where
  -- the marks of one part, of each kind of row
  abbrev pub comment_line : Span → Marks
  comment_line c = text m ∷ text (text_at B c) ∷ line_end ∷ []

  abbrev pub further_comment : Span → Marks
  further_comment c = line_end ∷ text m ∷ text (text_at B c) ∷ []

  abbrev pub item_marks : AnItem → Marks
  item_marks i = item_after y m (shape_of_item B i)

  abbrev pub pattern_marks : AWord → Marks
  pattern_marks w = text (codes " | ") ∷ print_word (shape_of_word B w)

  abbrev pub entry_marks : AnEntry → Marks
  entry_marks e = print_entry y m (shape_of_entry B e)

  abbrev pub branch_marks : ABranch → Marks
  branch_marks b = print_branch y m (codes "elif") (codes "then") (shape_of_branch B b)

  abbrev pub case_marks : ACaseItem → Marks
  case_marks c = print_case y m (shape_of_case B c)

  -- what is printed of a row is the marks of its parts, for each kind
  pub comment_lines_are : (cs : Row Span) →
      print_comment_lines m (shape_of_comments B cs) ≡ marks_from comment_line cs 0
  unfolding marks_from
  comment_lines_are [] = refl
  comment_lines_are (c ∷ cs) = ap (λ r. comment_line c ++ r) (comment_lines_are cs)

  pub further_comments_are : (cs : Row Span) →
      print_further_comments m (shape_of_comments B cs) ≡ marks_from further_comment cs 0
  unfolding marks_from
  further_comments_are [] = refl
  further_comments_are (c ∷ cs) = ap (λ r. further_comment c ++ r) (further_comments_are cs)

  pub items_are : (is : Row AnItem) → print_items y m (shape_of_items B (items_of is)) ≡ marks_from item_marks is 0
  unfolding marks_from
  items_are [] = refl
  items_are (i ∷ is) = ap (λ r. item_marks i ++ r) (items_are is)

  pub patterns_are : (ws : Row AWord) →
      print_patterns (shape_of_patterns B (patterns_of ws)) ≡ marks_from pattern_marks ws 0
  unfolding marks_from
  patterns_are [] = refl
  patterns_are (w ∷ ws) = ap (λ r. pattern_marks w ++ r) (patterns_are ws)

  pub entries_are : (es : Row AnEntry) → print_entries y m (shape_of B (entries_of es)) ≡ marks_from entry_marks es 0
  unfolding marks_from
  entries_are [] = refl
  entries_are (e ∷ es) = ap (λ r. entry_marks e ++ r) (entries_are es)

  pub branches_are : (bs : Row ABranch) →
      print_branches y m (shape_of_branches B (branches_of bs)) ≡ marks_from branch_marks bs 0
  unfolding marks_from
  branches_are [] = refl
  branches_are (b ∷ bs) = ap (λ r. branch_marks b ++ r) (branches_are bs)

  pub cases_are : (cs : Row ACaseItem) → print_cases y m (shape_of_cases B (cases_of cs)) ≡ marks_from case_marks cs 0
  unfolding marks_from
  cases_are [] = refl
  cases_are (c ∷ cs) = ap (λ r. case_marks c ++ r) (cases_are cs)

  -- ---- chains: what is left of them, where the line was broken before or not

  -- of pipelines, and of commands
  abbrev pub parts_left : Bool → Row AndOrPart → Marks
  parts_left broken ps = print_and_or_parts y m broken
      (shape_of_and_or_parts B (and_or_parts_of (map view_and_or_part ps)))

  abbrev pub pipes_left : Bool → Row PipelinePart → Marks
  pipes_left broken ps = print_pipes y m broken (shape_of_pipes B (pipeline_parts_of (map view_pipeline_part ps)))

  -- it stands there whether the line was broken before or not
  join_with : (operator : Text) (broken b : Bool) (cs : Row Text)
      → Path Marks (text (codes " ") ∷ text operator
      ∷ (if b then print_comments (deeper y m) cs ++ (line_end ∷ text (deeper y m) ∷ []) else one (codes " ")))
      (text (codes " ") ∷ text operator
      ∷ (if b then print_comments (operand_margin y m (broken || b)) cs
      ++ (line_end ∷ text (operand_margin y m (broken || b)) ∷ []) else one (codes " ")))
  join_with operator true true cs = refl
  join_with operator true false cs = refl
  join_with operator false true cs = refl
  join_with operator false false cs = refl

  -- an operator before an operand at the operand's margin
  pub join_at : (operator : Text) (broken : Bool) (j : AJoinOf Text) →
      print_join y m operator j ≡ print_join_on (operand_margin y m (broken || breaks_line j)) operator j
  join_at operator broken j = join_with operator broken (breaks_line j) j.comments

  -- past the last part nothing is left, and before it its marks and those of the others
  pub parts_end : (broken : Bool) (ps : Row AndOrPart) (i : ℕ) → length ps ≤ i → parts_left broken (drop i ps) ≡ []
  parts_end broken ps i le = at_drop_all (parts_left broken) ps i le

  pub parts_more : (broken : Bool) (ps : Row AndOrPart) (i : ℕ) (d : AndOrPart) → i < length ps
      → let p = view_and_or_part (get_or ps i d) in let j = shape_of_join B p.join in
      let deep = operand_margin y m (broken || breaks_line j) in
      parts_left broken (drop i ps) ≡ print_join_on deep (and_or_text p.operator) j
      ++ print_pipeline y deep (shape_of_pipeline B p.pipeline)
      ++ parts_left (broken || breaks_line j) (drop (i + 1) ps)
  parts_more broken ps i d lt = at_drop_more (parts_left broken) ps i d lt
      ∙ (let p = view_and_or_part (get_or ps i d) in let j = shape_of_join B p.join in
      let deep = operand_margin y m (broken || breaks_line j) in
      ap (λ r. r ++ print_pipeline y deep (shape_of_pipeline B p.pipeline)
      ++ parts_left (broken || breaks_line j) (drop (i + 1) ps)) (join_at (and_or_text p.operator) broken j))

  pub pipes_end : (broken : Bool) (ps : Row PipelinePart) (i : ℕ) → length ps ≤ i → pipes_left broken (drop i ps) ≡ []
  pipes_end broken ps i le = at_drop_all (pipes_left broken) ps i le

  pub pipes_more : (broken : Bool) (ps : Row PipelinePart) (i : ℕ) (d : PipelinePart) → i < length ps
      → let p = view_pipeline_part (get_or ps i d) in let j = shape_of_join B p.join in
      let deep = operand_margin y m (broken || breaks_line j) in
      pipes_left broken (drop i ps) ≡ print_join_on deep (codes "|") j
      ++ print_command y deep (shape_of_command B p.command)
      ++ pipes_left (broken || breaks_line j) (drop (i + 1) ps)
  pipes_more broken ps i d lt = at_drop_more (pipes_left broken) ps i d lt
      ∙ (let p = view_pipeline_part (get_or ps i d) in let j = shape_of_join B p.join in
      let deep = operand_margin y m (broken || breaks_line j) in
      ap (λ r. r ++ print_command y deep (shape_of_command B p.command)
      ++ pipes_left (broken || breaks_line j) (drop (i + 1) ps)) (join_at (codes "|") broken j))
