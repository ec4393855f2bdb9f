-- The bodies of a level's here-documents, put into its list in the order of their operators. The list of a
-- substitution is a level of its own: what stands in a word stays as it is.
use Rattle.std.specs.Prelude.{List as Row, [], ◌∷◌, Option, Some, None}
use Rattle.shast.specs.declared.tree.Span.{Span}
use Rattle.shast.specs.Tree.{AHereOf, AnAndOrPart, APipelinePart, EntriesOf, no_entry, more_entries, AnEntryOf, entry, AContentOf, command, remark, AnAndOrOf, and_or, AndOrPartsOf, no_and_or, more_and_or, APipelineOf, pipeline, PipelinePartsOf, no_pipe, more_pipes, ACommandOf, simple, compound, function, ACompoundOf, formed, AFormOf, brace, subshell, if_then, while_do, until_do, for_in, case_in, ABranchOf, branch, BranchesOf, no_branch, more_branches, OtherwiseOf, no_else, otherwise, CaseItemsOf, no_case, more_cases, ACaseItemOf, case_item, ItemsOf, no_item, more_items, AnItemOf, item, AnItemContentOf, assign, argument, redirect}

-- a part of a list with its bodies, and those that are left
abbrev pub Filled : (Type 0 → Type 0 → Type 0) → Type 0 → Type 0 → Type 0
Filled Part T M = Part T M × Row T

-- the body of one document; where none is left it stays as it is
abbrev pub fill_here : {T : Type 0} → Option (AHereOf T) → Row T → Option (AHereOf T) × Row T
fill_here None ts = (None, ts)
fill_here (Some h) [] = (Some h, [])
fill_here (Some h) (t ∷ ts) = (Some (record { literal = h.literal; strip = h.strip; body = t }), ts)

module _ {T M : Type 0} where
  unfoldable pub fill_item_content : AnItemContentOf T M → Row T → Filled AnItemContentOf T M
  fill_item_content (assign w) ts = (assign w, ts)
  fill_item_content (argument w) ts = (argument w, ts)
  fill_item_content (redirect number operator mark w here) ts =
      let x = fill_here here ts in
      (redirect number operator mark w x.0, x.1)

  unfoldable pub fill_item : AnItemOf T M → Row T → Filled AnItemOf T M
  fill_item (item broken what) ts =
      let x = fill_item_content what ts in
      (item broken x.0, x.1)

  unfoldable pub fill_items : ItemsOf T M → Row T → Filled ItemsOf T M
  fill_items no_item ts = (no_item, ts)
  fill_items (more_items i is) ts =
      let x = fill_item i ts in
      let y = fill_items is x.1 in
      (more_items x.0 y.0, y.1)

  unfoldable mutual
    pub fill_entries : EntriesOf T M → Row T → Filled EntriesOf T M
    fill_entries no_entry ts = (no_entry, ts)
    fill_entries (more_entries e es) ts =
        let x = fill_entry e ts in
        let y = fill_entries es x.1 in
        (more_entries x.0 y.0, y.1)

    pub fill_entry : AnEntryOf T M → Row T → Filled AnEntryOf T M
    fill_entry (entry what background blank comment) ts =
        let x = fill_content what ts in
        (entry x.0 background blank comment, x.1)

    pub fill_content : AContentOf T M → Row T → Filled AContentOf T M
    fill_content (command a) ts =
        let x = fill_and_or a ts in
        (command x.0, x.1)
    fill_content (remark c) ts = (remark c, ts)

    pub fill_and_or : AnAndOrOf T M → Row T → Filled AnAndOrOf T M
    fill_and_or (and_or first rest) ts =
        let x = fill_pipeline first ts in
        let y = fill_and_or_parts rest x.1 in
        (and_or x.0 y.0, y.1)

    pub fill_and_or_parts : AndOrPartsOf T M → Row T → Filled AndOrPartsOf T M
    fill_and_or_parts no_and_or ts = (no_and_or, ts)
    fill_and_or_parts (more_and_or operator join p ps) ts =
        let x = fill_pipeline p ts in
        let y = fill_and_or_parts ps x.1 in
        (more_and_or operator join x.0 y.0, y.1)

    pub fill_pipeline : APipelineOf T M → Row T → Filled APipelineOf T M
    fill_pipeline (pipeline bang first rest) ts =
        let x = fill_command first ts in
        let y = fill_pipes rest x.1 in
        (pipeline bang x.0 y.0, y.1)

    pub fill_pipes : PipelinePartsOf T M → Row T → Filled PipelinePartsOf T M
    fill_pipes no_pipe ts = (no_pipe, ts)
    fill_pipes (more_pipes join c cs) ts =
        let x = fill_command c ts in
        let y = fill_pipes cs x.1 in
        (more_pipes join x.0 y.0, y.1)

    pub fill_command : ACommandOf T M → Row T → Filled ACommandOf T M
    fill_command (simple items) ts =
        let x = fill_items items ts in
        (simple x.0, x.1)
    fill_command (compound c) ts =
        let x = fill_compound c ts in
        (compound x.0, x.1)
    fill_command (function name comments body) ts =
        let x = fill_compound body ts in
        (function name comments x.0, x.1)

    pub fill_compound : ACompoundOf T M → Row T → Filled ACompoundOf T M
    fill_compound (formed form mark redirects) ts =
        let x = fill_form form ts in
        let y = fill_items redirects x.1 in
        (formed x.0 mark y.0, y.1)

    -- the words of a for are no redirections
    pub fill_form : AFormOf T M → Row T → Filled AFormOf T M
    fill_form (brace es) ts =
        let x = fill_entries es ts in
        (brace x.0, x.1)
    fill_form (subshell es) ts =
        let x = fill_entries es ts in
        (subshell x.0, x.1)
    fill_form (if_then first rest other) ts =
        let x = fill_branch first ts in
        let y = fill_branches rest x.1 in
        let z = fill_else other y.1 in
        (if_then x.0 y.0 z.0, z.1)
    fill_form (while_do b) ts =
        let x = fill_branch b ts in
        (while_do x.0, x.1)
    fill_form (until_do b) ts =
        let x = fill_branch b ts in
        (until_do x.0, x.1)
    fill_form (for_in name words body) ts =
        let x = fill_entries body ts in
        (for_in name words x.0, x.1)
    fill_form (case_in w cases tail) ts =
        let x = fill_cases cases ts in
        (case_in w x.0 tail, x.1)

    pub fill_branch : ABranchOf T M → Row T → Filled ABranchOf T M
    fill_branch (branch condition body) ts =
        let x = fill_entries condition ts in
        let y = fill_entries body x.1 in
        (branch x.0 y.0, y.1)

    pub fill_branches : BranchesOf T M → Row T → Filled BranchesOf T M
    fill_branches no_branch ts = (no_branch, ts)
    fill_branches (more_branches b bs) ts =
        let x = fill_branch b ts in
        let y = fill_branches bs x.1 in
        (more_branches x.0 y.0, y.1)

    pub fill_else : OtherwiseOf T M → Row T → Filled OtherwiseOf T M
    fill_else no_else ts = (no_else, ts)
    fill_else (otherwise es) ts =
        let x = fill_entries es ts in
        (otherwise x.0, x.1)

    pub fill_cases : CaseItemsOf T M → Row T → Filled CaseItemsOf T M
    fill_cases no_case ts = (no_case, ts)
    fill_cases (more_cases c cs) ts =
        let x = fill_case c ts in
        let y = fill_cases cs x.1 in
        (more_cases x.0 y.0, y.1)

    pub fill_case : ACaseItemOf T M → Row T → Filled ACaseItemOf T M
    fill_case (case_item comments patterns body mark) ts =
        let x = fill_entries body ts in
        (case_item comments patterns x.0 mark, x.1)

  -- a list with its bodies; where none was read it is as it was
  unfoldable pub filled : Row T → EntriesOf T M → EntriesOf T M
  filled [] es = es
  filled (t ∷ ts) es = (fill_entries es (t ∷ ts)).0

  -- ---- the same, of a row of entries

  unfoldable pub fill_row : Row (AnEntryOf T M) → Row T → Row (AnEntryOf T M) × Row T
  fill_row [] ts = ([], ts)
  fill_row (e ∷ es) ts =
      let x = fill_entry e ts in
      let y = fill_row es x.1 in
      (x.0 ∷ y.0, y.1)

  unfoldable pub filled_row : Row T → Row (AnEntryOf T M) → Row (AnEntryOf T M)
  filled_row [] es = es
  filled_row (t ∷ ts) es = (fill_row es (t ∷ ts)).0

-- ---- an operand, with its operator

abbrev pub fill_and_or_part : AnAndOrPart → Row Span → AnAndOrPart × Row Span
fill_and_or_part p ts =
    let x = fill_pipeline p.pipeline ts in
    (record p { pipeline = x.0 }, x.1)

abbrev pub fill_pipe : APipelinePart → Row Span → APipelinePart × Row Span
fill_pipe p ts =
    let x = fill_command p.command ts in
    (record p { command = x.0 }, x.1)
