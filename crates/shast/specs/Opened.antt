-- The bodies of a level's here-documents taken out of its list: the list with its documents
-- open, and the bodies in the order of their operators. The list of a substitution is a
-- level of its own: what stands in a word stays as it is.
use Rattle.std.specs.Prelude.{List as Row, [], ◌∷◌, Option, Some, None}
use Rattle.shast.specs.Tree.{AHereOf, EntriesOf, no_entry, more_entries, AnEntryOf, entry, AContentOf, command, remark, AnAndOrOf, and_or, AndOrPartsOf, no_and_or, more_and_or, APipelineOf, pipeline, PipelinePartsOf, no_pipe, more_pipes, ACommandOf, simple, compound, function, ACompoundOf, formed, AFormOf, brace, subshell, if_then, while_do, until_do, for_in, case_in, ABranchOf, branch, BranchesOf, no_branch, more_branches, OtherwiseOf, no_else, otherwise, CaseItemsOf, no_case, more_cases, ACaseItemOf, case_item, ItemsOf, no_item, more_items, AnItemOf, item, AnItemContentOf, assign, argument, redirect}

-- ---- each document with this in the place of its body

abbrev pub open_here : {T : Type 0} → T → Option (AHereOf T) → Option (AHereOf T)
open_here nothing None = None
open_here nothing (Some h) = Some (record { literal = h.literal; strip = h.strip; body = nothing })

module _ {T M : Type 0} (nothing : T) where
  unfoldable pub open_item_content : AnItemContentOf T M → AnItemContentOf T M
  open_item_content (assign w) = assign w
  open_item_content (argument w) = argument w
  open_item_content (redirect number operator mark w here) = redirect number operator mark w (open_here nothing here)

  unfoldable pub open_item : AnItemOf T M → AnItemOf T M
  open_item (item broken what) = item broken (open_item_content what)

  unfoldable pub open_items : ItemsOf T M → ItemsOf T M
  open_items no_item = no_item
  open_items (more_items i is) = more_items (open_item i) (open_items is)

  unfoldable mutual
    pub opened : EntriesOf T M → EntriesOf T M
    opened no_entry = no_entry
    opened (more_entries e es) = more_entries (open_entry e) (opened es)

    pub open_entry : AnEntryOf T M → AnEntryOf T M
    open_entry (entry what background blank comment) = entry (open_content what) background blank comment

    pub open_content : AContentOf T M → AContentOf T M
    open_content (command a) = command (open_and_or a)
    open_content (remark c) = remark c

    pub open_and_or : AnAndOrOf T M → AnAndOrOf T M
    open_and_or (and_or first rest) = and_or (open_pipeline first) (open_and_or_parts rest)

    pub open_and_or_parts : AndOrPartsOf T M → AndOrPartsOf T M
    open_and_or_parts no_and_or = no_and_or
    open_and_or_parts (more_and_or operator join p ps) =
        more_and_or operator join (open_pipeline p) (open_and_or_parts ps)

    pub open_pipeline : APipelineOf T M → APipelineOf T M
    open_pipeline (pipeline bang first rest) = pipeline bang (open_command first) (open_pipes rest)

    pub open_pipes : PipelinePartsOf T M → PipelinePartsOf T M
    open_pipes no_pipe = no_pipe
    open_pipes (more_pipes join c cs) = more_pipes join (open_command c) (open_pipes cs)

    pub open_command : ACommandOf T M → ACommandOf T M
    open_command (simple items) = simple (open_items items)
    open_command (compound c) = compound (open_compound c)
    open_command (function name comments body) = function name comments (open_compound body)

    pub open_compound : ACompoundOf T M → ACompoundOf T M
    open_compound (formed form mark redirects) = formed (open_form form) mark (open_items redirects)

    -- the words of a for are no redirections
    pub open_form : AFormOf T M → AFormOf T M
    open_form (brace es) = brace (opened es)
    open_form (subshell es) = subshell (opened es)
    open_form (if_then first rest other) = if_then (open_branch first) (open_branches rest) (open_else other)
    open_form (while_do b) = while_do (open_branch b)
    open_form (until_do b) = until_do (open_branch b)
    open_form (for_in name words body) = for_in name words (opened body)
    open_form (case_in w cases tail) = case_in w (open_cases cases) tail

    pub open_branch : ABranchOf T M → ABranchOf T M
    open_branch (branch condition body) = branch (opened condition) (opened body)

    pub open_branches : BranchesOf T M → BranchesOf T M
    open_branches no_branch = no_branch
    open_branches (more_branches b bs) = more_branches (open_branch b) (open_branches bs)

    pub open_else : OtherwiseOf T M → OtherwiseOf T M
    open_else no_else = no_else
    open_else (otherwise es) = otherwise (opened es)

    pub open_cases : CaseItemsOf T M → CaseItemsOf T M
    open_cases no_case = no_case
    open_cases (more_cases c cs) = more_cases (open_case c) (open_cases cs)

    pub open_case : ACaseItemOf T M → ACaseItemOf T M
    open_case (case_item comments patterns body mark) = case_item comments patterns (opened body) mark

-- ---- the bodies, before those that follow

abbrev pub here_bodies : {T : Type 0} → Option (AHereOf T) → Row T → Row T
here_bodies None ts = ts
here_bodies (Some h) ts = h.body ∷ ts

module _ {T M : Type 0} where
  unfoldable pub item_content_bodies : AnItemContentOf T M → Row T → Row T
  item_content_bodies (assign w) ts = ts
  item_content_bodies (argument w) ts = ts
  item_content_bodies (redirect number operator mark w here) ts = here_bodies here ts

  unfoldable pub item_bodies : AnItemOf T M → Row T → Row T
  item_bodies (item broken what) ts = item_content_bodies what ts

  unfoldable pub items_bodies : ItemsOf T M → Row T → Row T
  items_bodies no_item ts = ts
  items_bodies (more_items i is) ts = item_bodies i (items_bodies is ts)

  unfoldable mutual
    pub entries_bodies : EntriesOf T M → Row T → Row T
    entries_bodies no_entry ts = ts
    entries_bodies (more_entries e es) ts = entry_bodies e (entries_bodies es ts)

    pub entry_bodies : AnEntryOf T M → Row T → Row T
    entry_bodies (entry what background blank comment) ts = content_bodies what ts

    pub content_bodies : AContentOf T M → Row T → Row T
    content_bodies (command a) ts = and_or_bodies a ts
    content_bodies (remark c) ts = ts

    pub and_or_bodies : AnAndOrOf T M → Row T → Row T
    and_or_bodies (and_or first rest) ts = pipeline_bodies first (and_or_parts_bodies rest ts)

    pub and_or_parts_bodies : AndOrPartsOf T M → Row T → Row T
    and_or_parts_bodies no_and_or ts = ts
    and_or_parts_bodies (more_and_or operator join p ps) ts = pipeline_bodies p (and_or_parts_bodies ps ts)

    pub pipeline_bodies : APipelineOf T M → Row T → Row T
    pipeline_bodies (pipeline bang first rest) ts = command_bodies first (pipes_bodies rest ts)

    pub pipes_bodies : PipelinePartsOf T M → Row T → Row T
    pipes_bodies no_pipe ts = ts
    pipes_bodies (more_pipes join c cs) ts = command_bodies c (pipes_bodies cs ts)

    pub command_bodies : ACommandOf T M → Row T → Row T
    command_bodies (simple items) ts = items_bodies items ts
    command_bodies (compound c) ts = compound_bodies c ts
    command_bodies (function name comments body) ts = compound_bodies body ts

    pub compound_bodies : ACompoundOf T M → Row T → Row T
    compound_bodies (formed form mark redirects) ts = form_bodies form (items_bodies redirects ts)

    pub form_bodies : AFormOf T M → Row T → Row T
    form_bodies (brace es) ts = entries_bodies es ts
    form_bodies (subshell es) ts = entries_bodies es ts
    form_bodies (if_then first rest other) ts = branch_bodies first (branches_bodies rest (else_bodies other ts))
    form_bodies (while_do b) ts = branch_bodies b ts
    form_bodies (until_do b) ts = branch_bodies b ts
    form_bodies (for_in name words body) ts = entries_bodies body ts
    form_bodies (case_in w cases tail) ts = cases_bodies cases ts

    pub branch_bodies : ABranchOf T M → Row T → Row T
    branch_bodies (branch condition body) ts = entries_bodies condition (entries_bodies body ts)

    pub branches_bodies : BranchesOf T M → Row T → Row T
    branches_bodies no_branch ts = ts
    branches_bodies (more_branches b bs) ts = branch_bodies b (branches_bodies bs ts)

    pub else_bodies : OtherwiseOf T M → Row T → Row T
    else_bodies no_else ts = ts
    else_bodies (otherwise es) ts = entries_bodies es ts

    pub cases_bodies : CaseItemsOf T M → Row T → Row T
    cases_bodies no_case ts = ts
    cases_bodies (more_cases c cs) ts = case_bodies c (cases_bodies cs ts)

    pub case_bodies : ACaseItemOf T M → Row T → Row T
    case_bodies (case_item comments patterns body mark) ts = entries_bodies body ts

  -- the bodies of a level
  abbrev pub bodies_of : EntriesOf T M → Row T
  bodies_of es = entries_bodies es []
