-- Filling changes nothing but bodies: with its bodies taken out, a filled list is what the list was.
use Rattle.std.proofs.Common.{◌≡◌, List as Row, [], ◌∷◌, refl}
use Rattle.std.specs.Prelude.{Some, None}
use Rattle.shast.specs.Tree.{EntriesOf, no_entry, more_entries, AnEntryOf, entry, AContentOf, command, remark, AnAndOrOf, and_or, AndOrPartsOf, no_and_or, more_and_or, APipelineOf, pipeline, PipelinePartsOf, no_pipe, more_pipes, ACommandOf, simple, compound, function, ACompoundOf, formed, AFormOf, brace, subshell, if_then, while_do, until_do, for_in, case_in, ABranchOf, branch, BranchesOf, no_branch, more_branches, OtherwiseOf, no_else, otherwise, CaseItemsOf, no_case, more_cases, ACaseItemOf, case_item, ItemsOf, no_item, more_items, AnItemOf, item, AnItemContentOf, assign, argument, redirect}
use Rattle.shast.specs.Bodies.{fill_item_content, fill_item, fill_items, fill_entries, fill_entry, fill_content, fill_and_or, fill_and_or_parts, fill_pipeline, fill_pipes, fill_command, fill_compound, fill_form, fill_branch, fill_branches, fill_else, fill_cases, fill_case, filled}
use Rattle.shast.specs.Opened.{open_item_content, open_item, open_items, opened, open_entry, open_content, open_and_or, open_and_or_parts, open_pipeline, open_pipes, open_command, open_compound, open_form, open_branch, open_branches, open_else, open_cases, open_case}

module _ {T M : Type 0} (nothing : T) where
  -- for each kind of part: opened once it was filled, it is what it is when it is opened
  item_content_blind : (c : AnItemContentOf T M) (ts : Row T) →
      open_item_content nothing (fill_item_content c ts).0 ≡ open_item_content nothing c
  unfolding fill_item_content open_item_content
  item_content_blind (assign w) ts = refl
  item_content_blind (argument w) ts = refl
  item_content_blind (redirect number operator mark w None) ts = refl
  item_content_blind (redirect number operator mark w (Some h)) [] = refl
  item_content_blind (redirect number operator mark w (Some h)) (t ∷ ts) = refl

  item_blind : (i : AnItemOf T M) (ts : Row T) → open_item nothing (fill_item i ts).0 ≡ open_item nothing i
  unfolding fill_item open_item
  item_blind (item broken what) ts = rw (item_content_blind what ts) refl

  items_blind : (is : ItemsOf T M) (ts : Row T) → open_items nothing (fill_items is ts).0 ≡ open_items nothing is
  unfolding fill_items open_items
  items_blind no_item ts = refl
  items_blind (more_items i is) ts = rw (item_blind i ts, items_blind is (fill_item i ts).1) refl

  mutual
    unfolding fill_entries fill_entry fill_content fill_and_or fill_and_or_parts fill_pipeline fill_pipes fill_command
        fill_compound fill_form fill_branch fill_branches fill_else fill_cases fill_case opened open_entry open_content
        open_and_or open_and_or_parts open_pipeline open_pipes open_command open_compound open_form open_branch
        open_branches open_else open_cases open_case

    entries_blind : (es : EntriesOf T M) (ts : Row T) → opened nothing (fill_entries es ts).0 ≡ opened nothing es
    entries_blind no_entry ts = refl
    entries_blind (more_entries e es) ts = rw (entry_blind e ts, entries_blind es (fill_entry e ts).1) refl

    entry_blind : (e : AnEntryOf T M) (ts : Row T) → open_entry nothing (fill_entry e ts).0 ≡ open_entry nothing e
    entry_blind (entry what background blank comment) ts = rw (content_blind what ts) refl

    content_blind : (c : AContentOf T M) (ts : Row T) →
        open_content nothing (fill_content c ts).0 ≡ open_content nothing c
    content_blind (command a) ts = rw (and_or_blind a ts) refl
    content_blind (remark c) ts = refl

    and_or_blind : (a : AnAndOrOf T M) (ts : Row T) → open_and_or nothing (fill_and_or a ts).0 ≡ open_and_or nothing a
    and_or_blind (and_or first rest) ts =
        rw (pipeline_blind first ts, and_or_parts_blind rest (fill_pipeline first ts).1) refl

    and_or_parts_blind : (ps : AndOrPartsOf T M) (ts : Row T) →
        open_and_or_parts nothing (fill_and_or_parts ps ts).0 ≡ open_and_or_parts nothing ps
    and_or_parts_blind no_and_or ts = refl
    and_or_parts_blind (more_and_or operator join p ps) ts =
        rw (pipeline_blind p ts, and_or_parts_blind ps (fill_pipeline p ts).1) refl

    pipeline_blind : (p : APipelineOf T M) (ts : Row T) →
        open_pipeline nothing (fill_pipeline p ts).0 ≡ open_pipeline nothing p
    pipeline_blind (pipeline bang first rest) ts =
        rw (command_blind first ts, pipes_blind rest (fill_command first ts).1) refl

    pipes_blind : (cs : PipelinePartsOf T M) (ts : Row T) →
        open_pipes nothing (fill_pipes cs ts).0 ≡ open_pipes nothing cs
    pipes_blind no_pipe ts = refl
    pipes_blind (more_pipes join c cs) ts = rw (command_blind c ts, pipes_blind cs (fill_command c ts).1) refl

    command_blind : (c : ACommandOf T M) (ts : Row T) →
        open_command nothing (fill_command c ts).0 ≡ open_command nothing c
    command_blind (simple items) ts = rw (items_blind items ts) refl
    command_blind (compound c) ts = rw (compound_blind c ts) refl
    command_blind (function name comments body) ts = rw (compound_blind body ts) refl

    compound_blind : (c : ACompoundOf T M) (ts : Row T) →
        open_compound nothing (fill_compound c ts).0 ≡ open_compound nothing c
    compound_blind (formed form mark redirects) ts =
        rw (form_blind form ts, items_blind redirects (fill_form form ts).1) refl

    form_blind : (f : AFormOf T M) (ts : Row T) → open_form nothing (fill_form f ts).0 ≡ open_form nothing f
    form_blind (brace es) ts = rw (entries_blind es ts) refl
    form_blind (subshell es) ts = rw (entries_blind es ts) refl
    form_blind (if_then first rest other) ts =
        let x = fill_branch first ts in
        let y = fill_branches rest x.1 in
        rw (branch_blind first ts, branches_blind rest x.1, else_blind other y.1) refl
    form_blind (while_do b) ts = rw (branch_blind b ts) refl
    form_blind (until_do b) ts = rw (branch_blind b ts) refl
    form_blind (for_in name words body) ts = rw (entries_blind body ts) refl
    form_blind (case_in w cases tail) ts = rw (cases_blind cases ts) refl

    branch_blind : (b : ABranchOf T M) (ts : Row T) → open_branch nothing (fill_branch b ts).0 ≡ open_branch nothing b
    branch_blind (branch condition body) ts =
        rw (entries_blind condition ts, entries_blind body (fill_entries condition ts).1) refl

    branches_blind : (bs : BranchesOf T M) (ts : Row T) →
        open_branches nothing (fill_branches bs ts).0 ≡ open_branches nothing bs
    branches_blind no_branch ts = refl
    branches_blind (more_branches b bs) ts = rw (branch_blind b ts, branches_blind bs (fill_branch b ts).1) refl

    else_blind : (o : OtherwiseOf T M) (ts : Row T) → open_else nothing (fill_else o ts).0 ≡ open_else nothing o
    else_blind no_else ts = refl
    else_blind (otherwise es) ts = rw (entries_blind es ts) refl

    cases_blind : (cs : CaseItemsOf T M) (ts : Row T) → open_cases nothing (fill_cases cs ts).0 ≡ open_cases nothing cs
    cases_blind no_case ts = refl
    cases_blind (more_cases c cs) ts = rw (case_blind c ts, cases_blind cs (fill_case c ts).1) refl

    case_blind : (c : ACaseItemOf T M) (ts : Row T) → open_case nothing (fill_case c ts).0 ≡ open_case nothing c
    case_blind (case_item comments patterns body mark) ts = rw (entries_blind body ts) refl

  -- and so is a list
  pub filled_blind : (ts : Row T) (es : EntriesOf T M) → opened nothing (filled ts es) ≡ opened nothing es
  unfolding filled
  filled_blind [] es = refl
  filled_blind (t ∷ ts) es = entries_blind es (t ∷ ts)
