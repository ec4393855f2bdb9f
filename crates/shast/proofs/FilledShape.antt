-- The shape of a list with its bodies put in, and of one with its bodies taken out.
use Rattle.std.proofs.Common.{◌≡◌, ℕ, List, List as Row, [], ◌∷◌, map, refl, ap, sym}
use Rattle.std.specs.Prelude.{Some, None}
use Rattle.shast.specs.declared.tree.Span.{Span}
use Rattle.shast.specs.Tree.{EntriesOf, AnItemContent, AnItem, Items, Entries, AnEntry, AContent, AnAndOr, AndOrParts, APipeline, PipelineParts, ACommand, ACompound, AForm, ABranch, Branches, CaseItems, ACaseItem, Otherwise, no_entry, more_entries, entry, command, remark, and_or, no_and_or, more_and_or, pipeline, no_pipe, more_pipes, simple, compound, function, formed, brace, subshell, if_then, while_do, until_do, for_in, case_in, branch, no_branch, more_branches, no_else, otherwise, no_case, more_cases, case_item, no_item, more_items, item, assign, argument, redirect}
use Rattle.shast.specs.Shape.{Shape, text_at, shape_of_item_content, shape_of_item, shape_of_items, shape_of, shape_of_entry, shape_of_content, shape_of_and_or, shape_of_and_or_parts, shape_of_pipeline, shape_of_pipes, shape_of_command, shape_of_compound, shape_of_form, shape_of_branch, shape_of_branches, shape_of_else, shape_of_cases, shape_of_case}
use Rattle.shast.specs.Bodies.{fill_item_content, fill_item, fill_items, fill_entries, fill_entry, fill_content, fill_and_or, fill_and_or_parts, fill_pipeline, fill_pipes, fill_command, fill_compound, fill_form, fill_branch, fill_branches, fill_else, fill_cases, fill_case, filled}
use Rattle.shast.specs.Opened.{open_item_content, open_item, open_items, opened, open_entry, open_content, open_and_or, open_and_or_parts, open_pipeline, open_pipes, open_command, open_compound, open_form, open_branch, open_branches, open_else, open_cases, open_case, item_content_bodies, item_bodies, items_bodies, entries_bodies, entry_bodies, content_bodies, and_or_bodies, and_or_parts_bodies, pipeline_bodies, pipes_bodies, command_bodies, compound_bodies, form_bodies, branch_bodies, branches_bodies, else_bodies, cases_bodies, case_bodies, bodies_of}

module _ (B : List ℕ) where
  -- the texts of these spans
  abbrev pub texts : Row Span → Row (List ℕ)
  texts bs = map (text_at B) bs

  -- for each kind of part: the shape of it filled is its shape, filled with the texts
  item_content_fill : (c : AnItemContent) (bs : Row Span) →
      fill_item_content (shape_of_item_content B c) (texts bs)
      ≡ (shape_of_item_content B (fill_item_content c bs).0, texts (fill_item_content c bs).1)
  unfolding fill_item_content
  item_content_fill (assign w) bs = refl
  item_content_fill (argument w) bs = refl
  item_content_fill (redirect number operator span w None) bs = refl
  item_content_fill (redirect number operator span w (Some h)) [] = refl
  item_content_fill (redirect number operator span w (Some h)) (b ∷ bs) = refl

  item_fill : (i : AnItem) (bs : Row Span) →
      fill_item (shape_of_item B i) (texts bs) ≡ (shape_of_item B (fill_item i bs).0, texts (fill_item i bs).1)
  unfolding fill_item
  item_fill (item broken what) bs = rw (item_content_fill what bs) refl

  items_fill : (is : Items) (bs : Row Span) →
      fill_items (shape_of_items B is) (texts bs) ≡ (shape_of_items B (fill_items is bs).0, texts (fill_items is bs).1)
  unfolding fill_items
  items_fill no_item bs = refl
  items_fill (more_items i is) bs = rw (item_fill i bs, items_fill is (fill_item i bs).1) refl

  mutual
    unfolding fill_entries fill_entry fill_content fill_and_or fill_and_or_parts fill_pipeline fill_pipes fill_command
        fill_compound fill_form fill_branch fill_branches fill_else fill_cases fill_case

    entries_fill : (es : Entries) (bs : Row Span) →
        fill_entries (shape_of B es) (texts bs) ≡ (shape_of B (fill_entries es bs).0, texts (fill_entries es bs).1)
    entries_fill no_entry bs = refl
    entries_fill (more_entries e es) bs = rw (entry_fill e bs, entries_fill es (fill_entry e bs).1) refl

    entry_fill : (e : AnEntry) (bs : Row Span) →
        fill_entry (shape_of_entry B e) (texts bs) ≡ (shape_of_entry B (fill_entry e bs).0, texts (fill_entry e bs).1)
    entry_fill (entry what background blank comment) bs = rw (content_fill what bs) refl

    content_fill : (c : AContent) (bs : Row Span) →
        fill_content (shape_of_content B c) (texts bs)
        ≡ (shape_of_content B (fill_content c bs).0, texts (fill_content c bs).1)
    content_fill (command a) bs = rw (and_or_fill a bs) refl
    content_fill (remark c) bs = refl

    and_or_fill : (a : AnAndOr) (bs : Row Span) →
        fill_and_or (shape_of_and_or B a) (texts bs)
        ≡ (shape_of_and_or B (fill_and_or a bs).0, texts (fill_and_or a bs).1)
    and_or_fill (and_or first rest) bs =
        rw (pipeline_fill first bs, and_or_parts_fill rest (fill_pipeline first bs).1) refl

    and_or_parts_fill : (ps : AndOrParts) (bs : Row Span) →
        fill_and_or_parts (shape_of_and_or_parts B ps) (texts bs)
        ≡ (shape_of_and_or_parts B (fill_and_or_parts ps bs).0, texts (fill_and_or_parts ps bs).1)
    and_or_parts_fill no_and_or bs = refl
    and_or_parts_fill (more_and_or operator join p ps) bs =
        rw (pipeline_fill p bs, and_or_parts_fill ps (fill_pipeline p bs).1) refl

    pipeline_fill : (p : APipeline) (bs : Row Span) →
        fill_pipeline (shape_of_pipeline B p) (texts bs)
        ≡ (shape_of_pipeline B (fill_pipeline p bs).0, texts (fill_pipeline p bs).1)
    pipeline_fill (pipeline bang first rest) bs =
        rw (command_fill first bs, pipes_fill rest (fill_command first bs).1) refl

    pipes_fill : (cs : PipelineParts) (bs : Row Span) →
        fill_pipes (shape_of_pipes B cs) (texts bs)
        ≡ (shape_of_pipes B (fill_pipes cs bs).0, texts (fill_pipes cs bs).1)
    pipes_fill no_pipe bs = refl
    pipes_fill (more_pipes join c cs) bs = rw (command_fill c bs, pipes_fill cs (fill_command c bs).1) refl

    command_fill : (c : ACommand) (bs : Row Span) →
        fill_command (shape_of_command B c) (texts bs)
        ≡ (shape_of_command B (fill_command c bs).0, texts (fill_command c bs).1)
    command_fill (simple items) bs = rw (items_fill items bs) refl
    command_fill (compound c) bs = rw (compound_fill c bs) refl
    command_fill (function name comments body) bs = rw (compound_fill body bs) refl

    compound_fill : (c : ACompound) (bs : Row Span) →
        fill_compound (shape_of_compound B c) (texts bs)
        ≡ (shape_of_compound B (fill_compound c bs).0, texts (fill_compound c bs).1)
    compound_fill (formed form span redirects) bs =
        rw (form_fill form bs, items_fill redirects (fill_form form bs).1) refl

    form_fill : (f : AForm) (bs : Row Span) →
        fill_form (shape_of_form B f) (texts bs) ≡ (shape_of_form B (fill_form f bs).0, texts (fill_form f bs).1)
    form_fill (brace es) bs = rw (entries_fill es bs) refl
    form_fill (subshell es) bs = rw (entries_fill es bs) refl
    form_fill (if_then first rest other) bs =
        let x = fill_branch first bs in
        let y = fill_branches rest x.1 in
        rw (branch_fill first bs, branches_fill rest x.1, else_fill other y.1) refl
    form_fill (while_do b) bs = rw (branch_fill b bs) refl
    form_fill (until_do b) bs = rw (branch_fill b bs) refl
    form_fill (for_in name words body) bs = rw (entries_fill body bs) refl
    form_fill (case_in w cases tail) bs = rw (cases_fill cases bs) refl

    branch_fill : (b : ABranch) (bs : Row Span) →
        fill_branch (shape_of_branch B b) (texts bs)
        ≡ (shape_of_branch B (fill_branch b bs).0, texts (fill_branch b bs).1)
    branch_fill (branch condition body) bs =
        rw (entries_fill condition bs, entries_fill body (fill_entries condition bs).1) refl

    branches_fill : (rs : Branches) (bs : Row Span) →
        fill_branches (shape_of_branches B rs) (texts bs)
        ≡ (shape_of_branches B (fill_branches rs bs).0, texts (fill_branches rs bs).1)
    branches_fill no_branch bs = refl
    branches_fill (more_branches b rs) bs = rw (branch_fill b bs, branches_fill rs (fill_branch b bs).1) refl

    else_fill : (o : Otherwise) (bs : Row Span) →
        fill_else (shape_of_else B o) (texts bs) ≡ (shape_of_else B (fill_else o bs).0, texts (fill_else o bs).1)
    else_fill no_else bs = refl
    else_fill (otherwise es) bs = rw (entries_fill es bs) refl

    cases_fill : (cs : CaseItems) (bs : Row Span) →
        fill_cases (shape_of_cases B cs) (texts bs)
        ≡ (shape_of_cases B (fill_cases cs bs).0, texts (fill_cases cs bs).1)
    cases_fill no_case bs = refl
    cases_fill (more_cases c cs) bs = rw (case_fill c bs, cases_fill cs (fill_case c bs).1) refl

    case_fill : (c : ACaseItem) (bs : Row Span) →
        fill_case (shape_of_case B c) (texts bs) ≡ (shape_of_case B (fill_case c bs).0, texts (fill_case c bs).1)
    case_fill (case_item comments patterns body span) bs = rw (entries_fill body bs) refl

  -- the shape of a filled list is its shape, filled with the texts
  pub shape_filled : (bs : Row Span) (es : Entries) → shape_of B (filled bs es) ≡ filled (texts bs) (shape_of B es)
  unfolding filled
  shape_filled [] es = refl
  shape_filled (b ∷ bs) es = ap (λ (r : Shape EntriesOf × Row (List ℕ)). r.0) (sym (entries_fill es (b ∷ bs)))

  -- for each kind of part: the shape of it open is its shape, open
  item_content_open : (nothing : Span) (c : AnItemContent) →
      shape_of_item_content B (open_item_content nothing c)
      ≡ open_item_content (text_at B nothing) (shape_of_item_content B c)
  unfolding open_item_content
  item_content_open nothing (assign w) = refl
  item_content_open nothing (argument w) = refl
  item_content_open nothing (redirect number operator span w None) = refl
  item_content_open nothing (redirect number operator span w (Some h)) = refl

  item_open : (nothing : Span) (i : AnItem) →
      shape_of_item B (open_item nothing i) ≡ open_item (text_at B nothing) (shape_of_item B i)
  unfolding open_item
  item_open nothing (item broken what) = rw (item_content_open nothing what) refl

  items_open : (nothing : Span) (is : Items) →
      shape_of_items B (open_items nothing is) ≡ open_items (text_at B nothing) (shape_of_items B is)
  unfolding open_items
  items_open nothing no_item = refl
  items_open nothing (more_items i is) = rw (item_open nothing i, items_open nothing is) refl

  mutual
    unfolding opened open_entry open_content open_and_or open_and_or_parts open_pipeline open_pipes open_command
        open_compound open_form open_branch open_branches open_else open_cases open_case

    pub entries_open : (nothing : Span) (es : Entries) →
        shape_of B (opened nothing es) ≡ opened (text_at B nothing) (shape_of B es)
    entries_open nothing no_entry = refl
    entries_open nothing (more_entries e es) = rw (entry_open nothing e, entries_open nothing es) refl

    entry_open : (nothing : Span) (e : AnEntry) →
        shape_of_entry B (open_entry nothing e) ≡ open_entry (text_at B nothing) (shape_of_entry B e)
    entry_open nothing (entry what background blank comment) = rw (content_open nothing what) refl

    content_open : (nothing : Span) (c : AContent) →
        shape_of_content B (open_content nothing c) ≡ open_content (text_at B nothing) (shape_of_content B c)
    content_open nothing (command a) = rw (and_or_open nothing a) refl
    content_open nothing (remark c) = refl

    and_or_open : (nothing : Span) (a : AnAndOr) →
        shape_of_and_or B (open_and_or nothing a) ≡ open_and_or (text_at B nothing) (shape_of_and_or B a)
    and_or_open nothing (and_or first rest) = rw (pipeline_open nothing first, and_or_parts_open nothing rest) refl

    and_or_parts_open : (nothing : Span) (ps : AndOrParts) →
        shape_of_and_or_parts B (open_and_or_parts nothing ps)
        ≡ open_and_or_parts (text_at B nothing) (shape_of_and_or_parts B ps)
    and_or_parts_open nothing no_and_or = refl
    and_or_parts_open nothing (more_and_or operator join p ps) =
        rw (pipeline_open nothing p, and_or_parts_open nothing ps) refl

    pipeline_open : (nothing : Span) (p : APipeline) →
        shape_of_pipeline B (open_pipeline nothing p) ≡ open_pipeline (text_at B nothing) (shape_of_pipeline B p)
    pipeline_open nothing (pipeline bang first rest) = rw (command_open nothing first, pipes_open nothing rest) refl

    pipes_open : (nothing : Span) (cs : PipelineParts) →
        shape_of_pipes B (open_pipes nothing cs) ≡ open_pipes (text_at B nothing) (shape_of_pipes B cs)
    pipes_open nothing no_pipe = refl
    pipes_open nothing (more_pipes join c cs) = rw (command_open nothing c, pipes_open nothing cs) refl

    command_open : (nothing : Span) (c : ACommand) →
        shape_of_command B (open_command nothing c) ≡ open_command (text_at B nothing) (shape_of_command B c)
    command_open nothing (simple items) = rw (items_open nothing items) refl
    command_open nothing (compound c) = rw (compound_open nothing c) refl
    command_open nothing (function name comments body) = rw (compound_open nothing body) refl

    compound_open : (nothing : Span) (c : ACompound) →
        shape_of_compound B (open_compound nothing c) ≡ open_compound (text_at B nothing) (shape_of_compound B c)
    compound_open nothing (formed form span redirects) = rw (form_open nothing form, items_open nothing redirects) refl

    form_open : (nothing : Span) (f : AForm) →
        shape_of_form B (open_form nothing f) ≡ open_form (text_at B nothing) (shape_of_form B f)
    form_open nothing (brace es) = rw (entries_open nothing es) refl
    form_open nothing (subshell es) = rw (entries_open nothing es) refl
    form_open nothing (if_then first rest other) =
        rw (branch_open nothing first, branches_open nothing rest, else_open nothing other) refl
    form_open nothing (while_do b) = rw (branch_open nothing b) refl
    form_open nothing (until_do b) = rw (branch_open nothing b) refl
    form_open nothing (for_in name words body) = rw (entries_open nothing body) refl
    form_open nothing (case_in w cases tail) = rw (cases_open nothing cases) refl

    branch_open : (nothing : Span) (b : ABranch) →
        shape_of_branch B (open_branch nothing b) ≡ open_branch (text_at B nothing) (shape_of_branch B b)
    branch_open nothing (branch condition body) = rw (entries_open nothing condition, entries_open nothing body) refl

    branches_open : (nothing : Span) (rs : Branches) →
        shape_of_branches B (open_branches nothing rs) ≡ open_branches (text_at B nothing) (shape_of_branches B rs)
    branches_open nothing no_branch = refl
    branches_open nothing (more_branches b rs) = rw (branch_open nothing b, branches_open nothing rs) refl

    else_open : (nothing : Span) (o : Otherwise) →
        shape_of_else B (open_else nothing o) ≡ open_else (text_at B nothing) (shape_of_else B o)
    else_open nothing no_else = refl
    else_open nothing (otherwise es) = rw (entries_open nothing es) refl

    cases_open : (nothing : Span) (cs : CaseItems) →
        shape_of_cases B (open_cases nothing cs) ≡ open_cases (text_at B nothing) (shape_of_cases B cs)
    cases_open nothing no_case = refl
    cases_open nothing (more_cases c cs) = rw (case_open nothing c, cases_open nothing cs) refl

    case_open : (nothing : Span) (c : ACaseItem) →
        shape_of_case B (open_case nothing c) ≡ open_case (text_at B nothing) (shape_of_case B c)
    case_open nothing (case_item comments patterns body span) = rw (entries_open nothing body) refl

  -- for each kind of part: the bodies of its shape are the texts of its bodies
  item_content_texts : (c : AnItemContent) (bs : Row Span) →
      item_content_bodies (shape_of_item_content B c) (texts bs) ≡ texts (item_content_bodies c bs)
  unfolding item_content_bodies
  item_content_texts (assign w) bs = refl
  item_content_texts (argument w) bs = refl
  item_content_texts (redirect number operator span w None) bs = refl
  item_content_texts (redirect number operator span w (Some h)) bs = refl

  item_texts : (i : AnItem) (bs : Row Span) → item_bodies (shape_of_item B i) (texts bs) ≡ texts (item_bodies i bs)
  unfolding item_bodies
  item_texts (item broken what) bs = rw (item_content_texts what bs) refl

  items_texts : (is : Items) (bs : Row Span) →
      items_bodies (shape_of_items B is) (texts bs) ≡ texts (items_bodies is bs)
  unfolding items_bodies
  items_texts no_item bs = refl
  items_texts (more_items i is) bs = rw (items_texts is bs, item_texts i (items_bodies is bs)) refl

  mutual
    unfolding entries_bodies entry_bodies content_bodies and_or_bodies and_or_parts_bodies pipeline_bodies pipes_bodies
        command_bodies compound_bodies form_bodies branch_bodies branches_bodies else_bodies cases_bodies case_bodies

    entries_texts : (es : Entries) (bs : Row Span) →
        entries_bodies (shape_of B es) (texts bs) ≡ texts (entries_bodies es bs)
    entries_texts no_entry bs = refl
    entries_texts (more_entries e es) bs = rw (entries_texts es bs, entry_texts e (entries_bodies es bs)) refl

    entry_texts : (e : AnEntry) (bs : Row Span) →
        entry_bodies (shape_of_entry B e) (texts bs) ≡ texts (entry_bodies e bs)
    entry_texts (entry what background blank comment) bs = rw (content_texts what bs) refl

    content_texts : (c : AContent) (bs : Row Span) →
        content_bodies (shape_of_content B c) (texts bs) ≡ texts (content_bodies c bs)
    content_texts (command a) bs = rw (and_or_texts a bs) refl
    content_texts (remark c) bs = refl

    and_or_texts : (a : AnAndOr) (bs : Row Span) →
        and_or_bodies (shape_of_and_or B a) (texts bs) ≡ texts (and_or_bodies a bs)
    and_or_texts (and_or first rest) bs =
        rw (and_or_parts_texts rest bs, pipeline_texts first (and_or_parts_bodies rest bs)) refl

    and_or_parts_texts : (ps : AndOrParts) (bs : Row Span) →
        and_or_parts_bodies (shape_of_and_or_parts B ps) (texts bs) ≡ texts (and_or_parts_bodies ps bs)
    and_or_parts_texts no_and_or bs = refl
    and_or_parts_texts (more_and_or operator join p ps) bs =
        rw (and_or_parts_texts ps bs, pipeline_texts p (and_or_parts_bodies ps bs)) refl

    pipeline_texts : (p : APipeline) (bs : Row Span) →
        pipeline_bodies (shape_of_pipeline B p) (texts bs) ≡ texts (pipeline_bodies p bs)
    pipeline_texts (pipeline bang first rest) bs =
        rw (pipes_texts rest bs, command_texts first (pipes_bodies rest bs)) refl

    pipes_texts : (cs : PipelineParts) (bs : Row Span) →
        pipes_bodies (shape_of_pipes B cs) (texts bs) ≡ texts (pipes_bodies cs bs)
    pipes_texts no_pipe bs = refl
    pipes_texts (more_pipes join c cs) bs = rw (pipes_texts cs bs, command_texts c (pipes_bodies cs bs)) refl

    command_texts : (c : ACommand) (bs : Row Span) →
        command_bodies (shape_of_command B c) (texts bs) ≡ texts (command_bodies c bs)
    command_texts (simple items) bs = rw (items_texts items bs) refl
    command_texts (compound c) bs = rw (compound_texts c bs) refl
    command_texts (function name comments body) bs = rw (compound_texts body bs) refl

    compound_texts : (c : ACompound) (bs : Row Span) →
        compound_bodies (shape_of_compound B c) (texts bs) ≡ texts (compound_bodies c bs)
    compound_texts (formed form span redirects) bs =
        rw (items_texts redirects bs, form_texts form (items_bodies redirects bs)) refl

    form_texts : (f : AForm) (bs : Row Span) → form_bodies (shape_of_form B f) (texts bs) ≡ texts (form_bodies f bs)
    form_texts (brace es) bs = rw (entries_texts es bs) refl
    form_texts (subshell es) bs = rw (entries_texts es bs) refl
    form_texts (if_then first rest other) bs =
        rw (
          else_texts other bs,
          branches_texts rest (else_bodies other bs),
          branch_texts first (branches_bodies rest (else_bodies other bs)),
        ) refl
    form_texts (while_do b) bs = rw (branch_texts b bs) refl
    form_texts (until_do b) bs = rw (branch_texts b bs) refl
    form_texts (for_in name words body) bs = rw (entries_texts body bs) refl
    form_texts (case_in w cases tail) bs = rw (cases_texts cases bs) refl

    branch_texts : (b : ABranch) (bs : Row Span) →
        branch_bodies (shape_of_branch B b) (texts bs) ≡ texts (branch_bodies b bs)
    branch_texts (branch condition body) bs =
        rw (entries_texts body bs, entries_texts condition (entries_bodies body bs)) refl

    branches_texts : (rs : Branches) (bs : Row Span) →
        branches_bodies (shape_of_branches B rs) (texts bs) ≡ texts (branches_bodies rs bs)
    branches_texts no_branch bs = refl
    branches_texts (more_branches b rs) bs = rw (branches_texts rs bs, branch_texts b (branches_bodies rs bs)) refl

    else_texts : (o : Otherwise) (bs : Row Span) → else_bodies (shape_of_else B o) (texts bs) ≡ texts (else_bodies o bs)
    else_texts no_else bs = refl
    else_texts (otherwise es) bs = rw (entries_texts es bs) refl

    cases_texts : (cs : CaseItems) (bs : Row Span) →
        cases_bodies (shape_of_cases B cs) (texts bs) ≡ texts (cases_bodies cs bs)
    cases_texts no_case bs = refl
    cases_texts (more_cases c cs) bs = rw (cases_texts cs bs, case_texts c (cases_bodies cs bs)) refl

    case_texts : (c : ACaseItem) (bs : Row Span) → case_bodies (shape_of_case B c) (texts bs) ≡ texts (case_bodies c bs)
    case_texts (case_item comments patterns body span) bs = rw (entries_texts body bs) refl

  -- the bodies of the shape of a list are the texts of its bodies
  pub shape_bodies : (es : Entries) → bodies_of (shape_of B es) ≡ texts (bodies_of es)
  shape_bodies es = entries_texts es []
