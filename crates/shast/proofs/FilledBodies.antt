-- The bodies of a filled list: those that were put in, each in its place.
use Rattle.std.proofs.Common.{◌≡◌, List as Row, [], ◌∷◌, length, refl, ap, arith}
use Rattle.std.specs.Prelude.{Some, None}
use Rattle.shast.specs.Tree.{EntriesOf, no_entry, more_entries, AnEntryOf, entry, AContentOf, command, remark, AnAndOrOf, and_or, AndOrPartsOf, no_and_or, more_and_or, APipelineOf, pipeline, PipelinePartsOf, no_pipe, more_pipes, ACommandOf, simple, compound, function, ACompoundOf, formed, AFormOf, brace, subshell, if_then, while_do, until_do, for_in, case_in, ABranchOf, branch, BranchesOf, no_branch, more_branches, OtherwiseOf, no_else, otherwise, CaseItemsOf, no_case, more_cases, ACaseItemOf, case_item, ItemsOf, no_item, more_items, AnItemOf, item, AnItemContentOf, assign, argument, redirect}
use Rattle.shast.specs.Bodies.{fill_item_content, fill_item, fill_items, fill_entries, fill_entry, fill_content, fill_and_or, fill_and_or_parts, fill_pipeline, fill_pipes, fill_command, fill_compound, fill_form, fill_branch, fill_branches, fill_else, fill_cases, fill_case, filled}
use Rattle.shast.specs.Opened.{item_content_bodies, item_bodies, items_bodies, entries_bodies, entry_bodies, content_bodies, and_or_bodies, and_or_parts_bodies, pipeline_bodies, pipes_bodies, command_bodies, compound_bodies, form_bodies, branch_bodies, branches_bodies, else_bodies, cases_bodies, case_bodies, bodies_of}
use Rattle.shast.proofs.FilledBack.{filled_is}

module _ {T : Type 0} where
  -- of the second row, the first ones replaced by those of the first row
  unfoldable pub replaced : Row T → Row T → Row T
  replaced [] us = us
  replaced (t ∷ ts) [] = []
  replaced (t ∷ ts) (u ∷ us) = t ∷ replaced ts us

  -- by as many all are replaced, of none none is, and there are as many as before
  replaced_all : (ts us : Row T) → length ts ≡ length us → replaced ts us ≡ ts
  unfolding replaced
  replaced_all [] [] h = refl
  replaced_all [] (u ∷ us) h = absurd (omega arith)
  replaced_all (t ∷ ts) [] h = absurd (omega arith)
  replaced_all (t ∷ ts) (u ∷ us) h = ap (λ (r : Row T). t ∷ r) (replaced_all ts us (omega (arith, h)))

  none_replaced : (ts : Row T) → replaced ts [] ≡ []
  unfolding replaced
  none_replaced [] = refl
  none_replaced (t ∷ ts) = refl

  same_length : (ts us : Row T) → length (replaced ts us) ≡ length us
  unfolding replaced
  same_length [] us = refl
  same_length (t ∷ ts) [] = refl
  same_length (t ∷ ts) (u ∷ us) = rw (same_length ts us) refl

module _ {T M : Type 0} where
  -- for each kind of part: filled, it has its bodies, the first of them replaced by those put in
  item_content_kept : (c : AnItemContentOf T M) (ts us : Row T) →
      item_content_bodies (fill_item_content c ts).0 (replaced (fill_item_content c ts).1 us)
      ≡ replaced ts (item_content_bodies c us)
  unfolding fill_item_content item_content_bodies replaced
  item_content_kept (assign w) ts us = refl
  item_content_kept (argument w) ts us = refl
  item_content_kept (redirect number operator mark w None) ts us = refl
  item_content_kept (redirect number operator mark w (Some h)) [] us = refl
  item_content_kept (redirect number operator mark w (Some h)) (t ∷ ts) us = refl

  item_kept : (i : AnItemOf T M) (ts us : Row T) →
      item_bodies (fill_item i ts).0 (replaced (fill_item i ts).1 us) ≡ replaced ts (item_bodies i us)
  unfolding fill_item item_bodies
  item_kept (item broken what) ts us = item_content_kept what ts us

  items_kept : (is : ItemsOf T M) (ts us : Row T) →
      items_bodies (fill_items is ts).0 (replaced (fill_items is ts).1 us) ≡ replaced ts (items_bodies is us)
  unfolding fill_items items_bodies
  items_kept no_item ts us = refl
  items_kept (more_items i is) ts us = rw (items_kept is (fill_item i ts).1 us) (item_kept i ts (items_bodies is us))

  mutual
    unfolding fill_entries fill_entry fill_content fill_and_or fill_and_or_parts fill_pipeline fill_pipes fill_command
        fill_compound fill_form fill_branch fill_branches fill_else fill_cases fill_case entries_bodies entry_bodies
        content_bodies and_or_bodies and_or_parts_bodies pipeline_bodies pipes_bodies command_bodies compound_bodies
        form_bodies branch_bodies branches_bodies else_bodies cases_bodies case_bodies

    entries_kept : (es : EntriesOf T M) (ts us : Row T) →
        entries_bodies (fill_entries es ts).0 (replaced (fill_entries es ts).1 us) ≡ replaced ts (entries_bodies es us)
    entries_kept no_entry ts us = refl
    entries_kept (more_entries e es) ts us =
        rw (entries_kept es (fill_entry e ts).1 us) (entry_kept e ts (entries_bodies es us))

    entry_kept : (e : AnEntryOf T M) (ts us : Row T) →
        entry_bodies (fill_entry e ts).0 (replaced (fill_entry e ts).1 us) ≡ replaced ts (entry_bodies e us)
    entry_kept (entry what background blank comment) ts us = content_kept what ts us

    content_kept : (c : AContentOf T M) (ts us : Row T) →
        content_bodies (fill_content c ts).0 (replaced (fill_content c ts).1 us) ≡ replaced ts (content_bodies c us)
    content_kept (command a) ts us = and_or_kept a ts us
    content_kept (remark c) ts us = refl

    and_or_kept : (a : AnAndOrOf T M) (ts us : Row T) →
        and_or_bodies (fill_and_or a ts).0 (replaced (fill_and_or a ts).1 us) ≡ replaced ts (and_or_bodies a us)
    and_or_kept (and_or first rest) ts us =
        rw (and_or_parts_kept rest (fill_pipeline first ts).1 us) (pipeline_kept first ts (and_or_parts_bodies rest us))

    and_or_parts_kept : (ps : AndOrPartsOf T M) (ts us : Row T) →
        and_or_parts_bodies (fill_and_or_parts ps ts).0 (replaced (fill_and_or_parts ps ts).1 us)
        ≡ replaced ts (and_or_parts_bodies ps us)
    and_or_parts_kept no_and_or ts us = refl
    and_or_parts_kept (more_and_or operator join p ps) ts us =
        rw (and_or_parts_kept ps (fill_pipeline p ts).1 us) (pipeline_kept p ts (and_or_parts_bodies ps us))

    pipeline_kept : (p : APipelineOf T M) (ts us : Row T) →
        pipeline_bodies (fill_pipeline p ts).0 (replaced (fill_pipeline p ts).1 us) ≡ replaced ts (pipeline_bodies p us)
    pipeline_kept (pipeline bang first rest) ts us =
        rw (pipes_kept rest (fill_command first ts).1 us) (command_kept first ts (pipes_bodies rest us))

    pipes_kept : (cs : PipelinePartsOf T M) (ts us : Row T) →
        pipes_bodies (fill_pipes cs ts).0 (replaced (fill_pipes cs ts).1 us) ≡ replaced ts (pipes_bodies cs us)
    pipes_kept no_pipe ts us = refl
    pipes_kept (more_pipes join c cs) ts us =
        rw (pipes_kept cs (fill_command c ts).1 us) (command_kept c ts (pipes_bodies cs us))

    command_kept : (c : ACommandOf T M) (ts us : Row T) →
        command_bodies (fill_command c ts).0 (replaced (fill_command c ts).1 us) ≡ replaced ts (command_bodies c us)
    command_kept (simple items) ts us = items_kept items ts us
    command_kept (compound c) ts us = compound_kept c ts us
    command_kept (function name comments body) ts us = compound_kept body ts us

    compound_kept : (c : ACompoundOf T M) (ts us : Row T) →
        compound_bodies (fill_compound c ts).0 (replaced (fill_compound c ts).1 us) ≡ replaced ts (compound_bodies c us)
    compound_kept (formed form mark redirects) ts us =
        rw (items_kept redirects (fill_form form ts).1 us) (form_kept form ts (items_bodies redirects us))

    form_kept : (f : AFormOf T M) (ts us : Row T) →
        form_bodies (fill_form f ts).0 (replaced (fill_form f ts).1 us) ≡ replaced ts (form_bodies f us)
    form_kept (brace es) ts us = entries_kept es ts us
    form_kept (subshell es) ts us = entries_kept es ts us
    form_kept (if_then first rest other) ts us =
        let x = fill_branch first ts in
        let y = fill_branches rest x.1 in
        rw (else_kept other y.1 us, branches_kept rest x.1 (else_bodies other us))
        (branch_kept first ts (branches_bodies rest (else_bodies other us)))
    form_kept (while_do b) ts us = branch_kept b ts us
    form_kept (until_do b) ts us = branch_kept b ts us
    form_kept (for_in name words body) ts us = entries_kept body ts us
    form_kept (case_in w cases tail) ts us = cases_kept cases ts us

    branch_kept : (b : ABranchOf T M) (ts us : Row T) →
        branch_bodies (fill_branch b ts).0 (replaced (fill_branch b ts).1 us) ≡ replaced ts (branch_bodies b us)
    branch_kept (branch condition body) ts us =
        rw (entries_kept body (fill_entries condition ts).1 us) (entries_kept condition ts (entries_bodies body us))

    branches_kept : (bs : BranchesOf T M) (ts us : Row T) →
        branches_bodies (fill_branches bs ts).0 (replaced (fill_branches bs ts).1 us)
        ≡ replaced ts (branches_bodies bs us)
    branches_kept no_branch ts us = refl
    branches_kept (more_branches b bs) ts us =
        rw (branches_kept bs (fill_branch b ts).1 us) (branch_kept b ts (branches_bodies bs us))

    else_kept : (o : OtherwiseOf T M) (ts us : Row T) →
        else_bodies (fill_else o ts).0 (replaced (fill_else o ts).1 us) ≡ replaced ts (else_bodies o us)
    else_kept no_else ts us = refl
    else_kept (otherwise es) ts us = entries_kept es ts us

    cases_kept : (cs : CaseItemsOf T M) (ts us : Row T) →
        cases_bodies (fill_cases cs ts).0 (replaced (fill_cases cs ts).1 us) ≡ replaced ts (cases_bodies cs us)
    cases_kept no_case ts us = refl
    cases_kept (more_cases c cs) ts us = rw (cases_kept cs (fill_case c ts).1 us) (case_kept c ts (cases_bodies cs us))

    case_kept : (c : ACaseItemOf T M) (ts us : Row T) →
        case_bodies (fill_case c ts).0 (replaced (fill_case c ts).1 us) ≡ replaced ts (case_bodies c us)
    case_kept (case_item comments patterns body mark) ts us = entries_kept body ts us

  -- a filled list has the bodies of the list, the first of them replaced by those put in
  bodies_kept : (ts : Row T) (es : EntriesOf T M) → bodies_of (filled ts es) ≡ replaced ts (bodies_of es)
  bodies_kept ts es = rw (filled_is ts es, ← entries_kept es ts [], none_replaced (fill_entries es ts).1) refl

  -- filling leaves as many documents as there were
  pub as_many : (ts : Row T) (es : EntriesOf T M) → length (bodies_of (filled ts es)) ≡ length (bodies_of es)
  as_many ts es = rw (bodies_kept ts es) (same_length ts (bodies_of es))

  -- where there are as many bodies as documents, the bodies are those that were put in
  pub filled_bodies : (ts : Row T) (es : EntriesOf T M) → length ts ≡ length (bodies_of es) →
      bodies_of (filled ts es) ≡ ts
  filled_bodies ts es h = rw (bodies_kept ts es) (replaced_all ts (bodies_of es) h)
