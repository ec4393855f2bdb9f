-- Bodies taken out of a list and put in again: a list is its open list, filled with its bodies.
use Rattle.std.proofs.Common.{◌≡◌, List as Row, [], ◌∷◌, refl, ap}
use Rattle.std.specs.Prelude.{Some, None}
use Rattle.shast.specs.Tree.{EntriesOf, no_entry, more_entries, AnEntryOf, entry, AContentOf, command, remark, AnAndOrOf, and_or, AndOrPartsOf, no_and_or, more_and_or, APipelineOf, pipeline, PipelinePartsOf, no_pipe, more_pipes, ACommandOf, simple, compound, function, ACompoundOf, formed, AFormOf, brace, subshell, if_then, while_do, until_do, for_in, case_in, ABranchOf, branch, BranchesOf, no_branch, more_branches, OtherwiseOf, no_else, otherwise, CaseItemsOf, no_case, more_cases, ACaseItemOf, case_item, ItemsOf, no_item, more_items, AnItemOf, item, AnItemContentOf, assign, argument, redirect}
use Rattle.shast.specs.Bodies.{fill_item_content, fill_item, fill_items, fill_entries, fill_entry, fill_content, fill_and_or, fill_and_or_parts, fill_pipeline, fill_pipes, fill_command, fill_compound, fill_form, fill_branch, fill_branches, fill_else, fill_cases, fill_case, filled}
use Rattle.shast.specs.Opened.{open_item_content, open_item, open_items, opened, open_entry, open_content, open_and_or, open_and_or_parts, open_pipeline, open_pipes, open_command, open_compound, open_form, open_branch, open_branches, open_else, open_cases, open_case, item_content_bodies, item_bodies, items_bodies, entries_bodies, entry_bodies, content_bodies, and_or_bodies, and_or_parts_bodies, pipeline_bodies, pipes_bodies, command_bodies, compound_bodies, form_bodies, branch_bodies, branches_bodies, else_bodies, cases_bodies, case_bodies, bodies_of}

module _ {T M : Type 0} (nothing : T) where
  -- for each kind of part: opened and filled with its bodies it is what it was, and those after them are left
  item_content_back : (c : AnItemContentOf T M) (ts : Row T) →
      fill_item_content (open_item_content nothing c) (item_content_bodies c ts) ≡ (c, ts)
  unfolding fill_item_content open_item_content item_content_bodies
  item_content_back (assign w) ts = refl
  item_content_back (argument w) ts = refl
  item_content_back (redirect number operator mark w None) ts = refl
  item_content_back (redirect number operator mark w (Some h)) ts = refl

  item_back : (i : AnItemOf T M) (ts : Row T) → fill_item (open_item nothing i) (item_bodies i ts) ≡ (i, ts)
  unfolding fill_item open_item item_bodies
  item_back (item broken what) ts = rw (item_content_back what ts) refl

  items_back : (is : ItemsOf T M) (ts : Row T) → fill_items (open_items nothing is) (items_bodies is ts) ≡ (is, ts)
  unfolding fill_items open_items items_bodies
  items_back no_item ts = refl
  items_back (more_items i is) ts = rw (item_back i (items_bodies is ts), items_back is ts) refl

  mutual
    unfolding fill_entries fill_entry fill_content fill_and_or fill_and_or_parts fill_pipeline fill_pipes fill_command
        fill_compound fill_form fill_branch fill_branches fill_else fill_cases fill_case opened open_entry open_content
        open_and_or open_and_or_parts open_pipeline open_pipes open_command open_compound open_form open_branch
        open_branches open_else open_cases open_case entries_bodies entry_bodies content_bodies and_or_bodies
        and_or_parts_bodies pipeline_bodies pipes_bodies command_bodies compound_bodies form_bodies branch_bodies
        branches_bodies else_bodies cases_bodies case_bodies

    entries_back : (es : EntriesOf T M) (ts : Row T) →
        fill_entries (opened nothing es) (entries_bodies es ts) ≡ (es, ts)
    entries_back no_entry ts = refl
    entries_back (more_entries e es) ts = rw (entry_back e (entries_bodies es ts), entries_back es ts) refl

    entry_back : (e : AnEntryOf T M) (ts : Row T) → fill_entry (open_entry nothing e) (entry_bodies e ts) ≡ (e, ts)
    entry_back (entry what background blank comment) ts = rw (content_back what ts) refl

    content_back : (c : AContentOf T M) (ts : Row T) →
        fill_content (open_content nothing c) (content_bodies c ts) ≡ (c, ts)
    content_back (command a) ts = rw (and_or_back a ts) refl
    content_back (remark c) ts = refl

    and_or_back : (a : AnAndOrOf T M) (ts : Row T) → fill_and_or (open_and_or nothing a) (and_or_bodies a ts) ≡ (a, ts)
    and_or_back (and_or first rest) ts =
        rw (pipeline_back first (and_or_parts_bodies rest ts), and_or_parts_back rest ts) refl

    and_or_parts_back : (ps : AndOrPartsOf T M) (ts : Row T) →
        fill_and_or_parts (open_and_or_parts nothing ps) (and_or_parts_bodies ps ts) ≡ (ps, ts)
    and_or_parts_back no_and_or ts = refl
    and_or_parts_back (more_and_or operator join p ps) ts =
        rw (pipeline_back p (and_or_parts_bodies ps ts), and_or_parts_back ps ts) refl

    pipeline_back : (p : APipelineOf T M) (ts : Row T) →
        fill_pipeline (open_pipeline nothing p) (pipeline_bodies p ts) ≡ (p, ts)
    pipeline_back (pipeline bang first rest) ts =
        rw (command_back first (pipes_bodies rest ts), pipes_back rest ts) refl

    pipes_back : (cs : PipelinePartsOf T M) (ts : Row T) →
        fill_pipes (open_pipes nothing cs) (pipes_bodies cs ts) ≡ (cs, ts)
    pipes_back no_pipe ts = refl
    pipes_back (more_pipes join c cs) ts = rw (command_back c (pipes_bodies cs ts), pipes_back cs ts) refl

    command_back : (c : ACommandOf T M) (ts : Row T) →
        fill_command (open_command nothing c) (command_bodies c ts) ≡ (c, ts)
    command_back (simple items) ts = rw (items_back items ts) refl
    command_back (compound c) ts = rw (compound_back c ts) refl
    command_back (function name comments body) ts = rw (compound_back body ts) refl

    compound_back : (c : ACompoundOf T M) (ts : Row T) →
        fill_compound (open_compound nothing c) (compound_bodies c ts) ≡ (c, ts)
    compound_back (formed form mark redirects) ts =
        rw (form_back form (items_bodies redirects ts), items_back redirects ts) refl

    form_back : (f : AFormOf T M) (ts : Row T) → fill_form (open_form nothing f) (form_bodies f ts) ≡ (f, ts)
    form_back (brace es) ts = rw (entries_back es ts) refl
    form_back (subshell es) ts = rw (entries_back es ts) refl
    form_back (if_then first rest other) ts =
        rw (
          branch_back first (branches_bodies rest (else_bodies other ts)),
          branches_back rest (else_bodies other ts),
          else_back other ts,
        ) refl
    form_back (while_do b) ts = rw (branch_back b ts) refl
    form_back (until_do b) ts = rw (branch_back b ts) refl
    form_back (for_in name words body) ts = rw (entries_back body ts) refl
    form_back (case_in w cases tail) ts = rw (cases_back cases ts) refl

    branch_back : (b : ABranchOf T M) (ts : Row T) → fill_branch (open_branch nothing b) (branch_bodies b ts) ≡ (b, ts)
    branch_back (branch condition body) ts =
        rw (entries_back condition (entries_bodies body ts), entries_back body ts) refl

    branches_back : (bs : BranchesOf T M) (ts : Row T) →
        fill_branches (open_branches nothing bs) (branches_bodies bs ts) ≡ (bs, ts)
    branches_back no_branch ts = refl
    branches_back (more_branches b bs) ts = rw (branch_back b (branches_bodies bs ts), branches_back bs ts) refl

    else_back : (o : OtherwiseOf T M) (ts : Row T) → fill_else (open_else nothing o) (else_bodies o ts) ≡ (o, ts)
    else_back no_else ts = refl
    else_back (otherwise es) ts = rw (entries_back es ts) refl

    cases_back : (cs : CaseItemsOf T M) (ts : Row T) →
        fill_cases (open_cases nothing cs) (cases_bodies cs ts) ≡ (cs, ts)
    cases_back no_case ts = refl
    cases_back (more_cases c cs) ts = rw (case_back c (cases_bodies cs ts), cases_back cs ts) refl

    case_back : (c : ACaseItemOf T M) (ts : Row T) → fill_case (open_case nothing c) (case_bodies c ts) ≡ (c, ts)
    case_back (case_item comments patterns body mark) ts = rw (entries_back body ts) refl

  -- so a list that is opened and filled is what it was
  fill_back : (es : EntriesOf T M) → (fill_entries (opened nothing es) (bodies_of es)).0 ≡ es
  fill_back es = ap (λ (r : EntriesOf T M × Row T). r.0) (entries_back es [])

-- filling a list with nothing leaves it as it is
module _ {T M : Type 0} where
  item_content_none : (c : AnItemContentOf T M) → fill_item_content c [] ≡ (c, [])
  unfolding fill_item_content
  item_content_none (assign w) = refl
  item_content_none (argument w) = refl
  item_content_none (redirect number operator mark w None) = refl
  item_content_none (redirect number operator mark w (Some h)) = refl

  item_none : (i : AnItemOf T M) → fill_item i [] ≡ (i, [])
  unfolding fill_item
  item_none (item broken what) = rw (item_content_none what) refl

  items_none : (is : ItemsOf T M) → fill_items is [] ≡ (is, [])
  unfolding fill_items
  items_none no_item = refl
  items_none (more_items i is) = rw (item_none i, items_none is) refl

  mutual
    unfolding fill_entries fill_entry fill_content fill_and_or fill_and_or_parts fill_pipeline fill_pipes fill_command
        fill_compound fill_form fill_branch fill_branches fill_else fill_cases fill_case

    entries_none : (es : EntriesOf T M) → fill_entries es [] ≡ (es, [])
    entries_none no_entry = refl
    entries_none (more_entries e es) = rw (entry_none e, entries_none es) refl

    pub entry_none : (e : AnEntryOf T M) → fill_entry e [] ≡ (e, [])
    entry_none (entry what background blank comment) = rw (content_none what) refl

    content_none : (c : AContentOf T M) → fill_content c [] ≡ (c, [])
    content_none (command a) = rw (and_or_none a) refl
    content_none (remark c) = refl

    and_or_none : (a : AnAndOrOf T M) → fill_and_or a [] ≡ (a, [])
    and_or_none (and_or first rest) = rw (pipeline_none first, and_or_parts_none rest) refl

    and_or_parts_none : (ps : AndOrPartsOf T M) → fill_and_or_parts ps [] ≡ (ps, [])
    and_or_parts_none no_and_or = refl
    and_or_parts_none (more_and_or operator join p ps) = rw (pipeline_none p, and_or_parts_none ps) refl

    pipeline_none : (p : APipelineOf T M) → fill_pipeline p [] ≡ (p, [])
    pipeline_none (pipeline bang first rest) = rw (command_none first, pipes_none rest) refl

    pipes_none : (cs : PipelinePartsOf T M) → fill_pipes cs [] ≡ (cs, [])
    pipes_none no_pipe = refl
    pipes_none (more_pipes join c cs) = rw (command_none c, pipes_none cs) refl

    command_none : (c : ACommandOf T M) → fill_command c [] ≡ (c, [])
    command_none (simple items) = rw (items_none items) refl
    command_none (compound c) = rw (compound_none c) refl
    command_none (function name comments body) = rw (compound_none body) refl

    compound_none : (c : ACompoundOf T M) → fill_compound c [] ≡ (c, [])
    compound_none (formed form mark redirects) = rw (form_none form, items_none redirects) refl

    form_none : (f : AFormOf T M) → fill_form f [] ≡ (f, [])
    form_none (brace es) = rw (entries_none es) refl
    form_none (subshell es) = rw (entries_none es) refl
    form_none (if_then first rest other) = rw (branch_none first, branches_none rest, else_none other) refl
    form_none (while_do b) = rw (branch_none b) refl
    form_none (until_do b) = rw (branch_none b) refl
    form_none (for_in name words body) = rw (entries_none body) refl
    form_none (case_in w cases tail) = rw (cases_none cases) refl

    branch_none : (b : ABranchOf T M) → fill_branch b [] ≡ (b, [])
    branch_none (branch condition body) = rw (entries_none condition, entries_none body) refl

    branches_none : (bs : BranchesOf T M) → fill_branches bs [] ≡ (bs, [])
    branches_none no_branch = refl
    branches_none (more_branches b bs) = rw (branch_none b, branches_none bs) refl

    else_none : (o : OtherwiseOf T M) → fill_else o [] ≡ (o, [])
    else_none no_else = refl
    else_none (otherwise es) = rw (entries_none es) refl

    cases_none : (cs : CaseItemsOf T M) → fill_cases cs [] ≡ (cs, [])
    cases_none no_case = refl
    cases_none (more_cases c cs) = rw (case_none c, cases_none cs) refl

    case_none : (c : ACaseItemOf T M) → fill_case c [] ≡ (c, [])
    case_none (case_item comments patterns body mark) = rw (entries_none body) refl

  -- the two cases of filling are one
  pub filled_is : (ts : Row T) (es : EntriesOf T M) → filled ts es ≡ (fill_entries es ts).0
  unfolding filled
  filled_is [] es = rw (entries_none es) refl
  filled_is (t ∷ ts) es = refl

  -- a list is its open list, filled with its bodies
  pub filled_back : (nothing : T) (es : EntriesOf T M) → filled (bodies_of es) (opened nothing es) ≡ es
  filled_back nothing es = rw (filled_is (bodies_of es) (opened nothing es)) (fill_back nothing es)
