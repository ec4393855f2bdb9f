-- The bodies of the parts of a list, one part after the other: what a row that reads
-- one more part says of the bodies.
use Rattle.std.proofs.Common.{◌≡◌, List as Row, [], ◌∷◌, ◌++◌, refl}
use Rattle.std.specs.Prelude.{Some, None}
use Rattle.shast.specs.Tree.{EntriesOf, entries_of, no_entry, more_entries, AnEntryOf, entry, AContentOf, command, remark, AnAndOrOf, and_or, AndOrPartsOf, no_and_or, more_and_or, APipelineOf, pipeline, PipelinePartsOf, no_pipe, more_pipes, ACommandOf, simple, compound, function, ACompoundOf, formed, AFormOf, brace, subshell, if_then, while_do, until_do, for_in, case_in, ABranchOf, branch, BranchesOf, no_branch, more_branches, OtherwiseOf, no_else, otherwise, CaseItemsOf, no_case, more_cases, ACaseItemOf, case_item, ItemsOf, no_item, more_items, AnItemOf, item, AnItemContentOf, assign, argument, redirect}
use Rattle.shast.specs.Opened.{item_content_bodies, item_bodies, items_bodies, entries_bodies, entry_bodies, content_bodies, and_or_bodies, and_or_parts_bodies, pipeline_bodies, pipes_bodies, command_bodies, compound_bodies, form_bodies, branch_bodies, branches_bodies, else_bodies, cases_bodies, case_bodies, bodies_of}

module _ {T M : Type 0} where
  -- ---- a row of entries and another

  -- the bodies of two rows are those of the first and then those of the second
  pub entries_append : (xs ys : Row (AnEntryOf T M)) (ts : Row T) →
      entries_bodies (entries_of (xs ++ ys)) ts ≡ entries_bodies (entries_of xs) (entries_bodies (entries_of ys) ts)
  unfolding entries_bodies
  entries_append [] ys ts = refl
  entries_append (x ∷ xs) ys ts = rw (entries_append xs ys ts) refl

  -- ---- the bodies of a part stand before what follows

  -- for each kind of part: before ts and us it has the bodies that it has before ts, and then us
  pub item_content_before : (c : AnItemContentOf T M) (ts us : Row T) →
      item_content_bodies c (ts ++ us) ≡ item_content_bodies c ts ++ us
  unfolding item_content_bodies
  item_content_before (assign w) ts us = refl
  item_content_before (argument w) ts us = refl
  item_content_before (redirect number operator mark w None) ts us = refl
  item_content_before (redirect number operator mark w (Some h)) ts us = refl

  pub item_before : (i : AnItemOf T M) (ts us : Row T) → item_bodies i (ts ++ us) ≡ item_bodies i ts ++ us
  unfolding item_bodies
  item_before (item broken what) ts us = item_content_before what ts us

  pub items_before : (is : ItemsOf T M) (ts us : Row T) → items_bodies is (ts ++ us) ≡ items_bodies is ts ++ us
  unfolding items_bodies
  items_before no_item ts us = refl
  items_before (more_items i is) ts us = rw (items_before is ts us) (item_before i (items_bodies is ts) us)

  mutual
    unfolding entries_bodies entry_bodies content_bodies and_or_bodies and_or_parts_bodies pipeline_bodies pipes_bodies
        command_bodies compound_bodies form_bodies branch_bodies branches_bodies else_bodies cases_bodies case_bodies

    pub entries_before : (es : EntriesOf T M) (ts us : Row T) →
        entries_bodies es (ts ++ us) ≡ entries_bodies es ts ++ us
    entries_before no_entry ts us = refl
    entries_before (more_entries e es) ts us = rw (entries_before es ts us) (entry_before e (entries_bodies es ts) us)

    pub entry_before : (e : AnEntryOf T M) (ts us : Row T) → entry_bodies e (ts ++ us) ≡ entry_bodies e ts ++ us
    entry_before (entry what background blank comment) ts us = content_before what ts us

    pub content_before : (c : AContentOf T M) (ts us : Row T) → content_bodies c (ts ++ us) ≡ content_bodies c ts ++ us
    content_before (command a) ts us = and_or_before a ts us
    content_before (remark c) ts us = refl

    pub and_or_before : (a : AnAndOrOf T M) (ts us : Row T) → and_or_bodies a (ts ++ us) ≡ and_or_bodies a ts ++ us
    and_or_before (and_or first rest) ts us =
        rw (and_or_parts_before rest ts us) (pipeline_before first (and_or_parts_bodies rest ts) us)

    pub and_or_parts_before : (ps : AndOrPartsOf T M) (ts us : Row T) →
        and_or_parts_bodies ps (ts ++ us) ≡ and_or_parts_bodies ps ts ++ us
    and_or_parts_before no_and_or ts us = refl
    and_or_parts_before (more_and_or operator join p ps) ts us =
        rw (and_or_parts_before ps ts us) (pipeline_before p (and_or_parts_bodies ps ts) us)

    pub pipeline_before : (p : APipelineOf T M) (ts us : Row T) →
        pipeline_bodies p (ts ++ us) ≡ pipeline_bodies p ts ++ us
    pipeline_before (pipeline bang first rest) ts us =
        rw (pipes_before rest ts us) (command_before first (pipes_bodies rest ts) us)

    pub pipes_before : (cs : PipelinePartsOf T M) (ts us : Row T) →
        pipes_bodies cs (ts ++ us) ≡ pipes_bodies cs ts ++ us
    pipes_before no_pipe ts us = refl
    pipes_before (more_pipes join c cs) ts us = rw (pipes_before cs ts us) (command_before c (pipes_bodies cs ts) us)

    pub command_before : (c : ACommandOf T M) (ts us : Row T) → command_bodies c (ts ++ us) ≡ command_bodies c ts ++ us
    command_before (simple items) ts us = items_before items ts us
    command_before (compound c) ts us = compound_before c ts us
    command_before (function name comments body) ts us = compound_before body ts us

    pub compound_before : (c : ACompoundOf T M) (ts us : Row T) →
        compound_bodies c (ts ++ us) ≡ compound_bodies c ts ++ us
    compound_before (formed form mark redirects) ts us =
        rw (items_before redirects ts us) (form_before form (items_bodies redirects ts) us)

    pub form_before : (f : AFormOf T M) (ts us : Row T) → form_bodies f (ts ++ us) ≡ form_bodies f ts ++ us
    form_before (brace es) ts us = entries_before es ts us
    form_before (subshell es) ts us = entries_before es ts us
    form_before (if_then first rest other) ts us =
        rw (else_before other ts us, branches_before rest (else_bodies other ts) us)
        (branch_before first (branches_bodies rest (else_bodies other ts)) us)
    form_before (while_do b) ts us = branch_before b ts us
    form_before (until_do b) ts us = branch_before b ts us
    form_before (for_in name words body) ts us = entries_before body ts us
    form_before (case_in w cases tail) ts us = cases_before cases ts us

    pub branch_before : (b : ABranchOf T M) (ts us : Row T) → branch_bodies b (ts ++ us) ≡ branch_bodies b ts ++ us
    branch_before (branch condition body) ts us =
        rw (entries_before body ts us) (entries_before condition (entries_bodies body ts) us)

    pub branches_before : (bs : BranchesOf T M) (ts us : Row T) →
        branches_bodies bs (ts ++ us) ≡ branches_bodies bs ts ++ us
    branches_before no_branch ts us = refl
    branches_before (more_branches b bs) ts us =
        rw (branches_before bs ts us) (branch_before b (branches_bodies bs ts) us)

    pub else_before : (o : OtherwiseOf T M) (ts us : Row T) → else_bodies o (ts ++ us) ≡ else_bodies o ts ++ us
    else_before no_else ts us = refl
    else_before (otherwise es) ts us = entries_before es ts us

    pub cases_before : (cs : CaseItemsOf T M) (ts us : Row T) → cases_bodies cs (ts ++ us) ≡ cases_bodies cs ts ++ us
    cases_before no_case ts us = refl
    cases_before (more_cases c cs) ts us = rw (cases_before cs ts us) (case_before c (cases_bodies cs ts) us)

    pub case_before : (c : ACaseItemOf T M) (ts us : Row T) → case_bodies c (ts ++ us) ≡ case_bodies c ts ++ us
    case_before (case_item comments patterns body mark) ts us = entries_before body ts us

  -- the bodies of two rows of entries are those of the one and those of the other
  pub bodies_append : (xs ys : Row (AnEntryOf T M)) →
      bodies_of (entries_of (xs ++ ys)) ≡ bodies_of (entries_of xs) ++ bodies_of (entries_of ys)
  bodies_append xs ys = rw (entries_append xs ys []) (entries_before (entries_of xs) [] (bodies_of (entries_of ys)))
