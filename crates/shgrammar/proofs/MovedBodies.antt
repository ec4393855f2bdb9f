-- Bodies put into a moved list are the moved bodies, put into the list.
use Rattle.std.proofs.Common.{◌≡◌, Bool, List as Row, [], ◌∷◌, map, refl, ap}
use Rattle.std.specs.Prelude.{Some, None}
use Rattle.shast.specs.declared.tree.Span.{Span}
use Rattle.shast.specs.Tree.{AnItemContent, AnItem, Items, Entries, AnEntry, AContent, AnAndOr, AndOrParts, APipeline, PipelineParts, ACommand, ACompound, AForm, ABranch, Branches, CaseItems, ACaseItem, Otherwise, no_entry, more_entries, entry, command, remark, and_or, no_and_or, more_and_or, pipeline, no_pipe, more_pipes, simple, compound, function, formed, brace, subshell, if_then, while_do, until_do, for_in, case_in, branch, no_branch, more_branches, no_else, otherwise, no_case, more_cases, case_item, no_item, more_items, item, assign, argument, redirect}
use Rattle.shast.specs.Bodies.{fill_item_content, fill_item, fill_items, fill_entries, fill_entry, fill_content, fill_and_or, fill_and_or_parts, fill_pipeline, fill_pipes, fill_command, fill_compound, fill_form, fill_branch, fill_branches, fill_else, fill_cases, fill_case, filled, fill_row, filled_row}
use Rattle.shast.specs.Moved.{carried, carried_entry, carried_content, carried_and_or, carried_and_or_parts, carried_pipeline, carried_pipes, carried_command, carried_compound, carried_form, carried_branch, carried_branches, carried_else, carried_cases, carried_case, carried_items, carried_item, carried_item_content}

module _ (f h : Span → Span) (deep : Bool) where
  -- the bodies, moved
  abbrev bodies : Row Span → Row Span
  bodies bs = map h bs

  -- an item and a row of items, and the bodies that are left after them
  item_content_fill : (c : AnItemContent) (bs : Row Span) →
      fill_item_content (carried_item_content f h deep c) (bodies bs)
      ≡ (carried_item_content f h deep (fill_item_content c bs).0, bodies (fill_item_content c bs).1)
  unfolding fill_item_content
  item_content_fill (assign w) bs = refl
  item_content_fill (argument w) bs = refl
  item_content_fill (redirect number operator span w None) bs = refl
  item_content_fill (redirect number operator span w (Some d)) [] = refl
  item_content_fill (redirect number operator span w (Some d)) (b ∷ bs) = refl

  item_fill : (i : AnItem) (bs : Row Span) →
      fill_item (carried_item f h deep i) (bodies bs)
      ≡ (carried_item f h deep (fill_item i bs).0, bodies (fill_item i bs).1)
  unfolding fill_item
  item_fill (item broken what) bs = rw (item_content_fill what bs) refl

  items_fill : (is : Items) (bs : Row Span) →
      fill_items (carried_items f h deep is) (bodies bs)
      ≡ (carried_items f h deep (fill_items is bs).0, bodies (fill_items is bs).1)
  unfolding fill_items
  items_fill no_item bs = refl
  items_fill (more_items i is) bs = rw (item_fill i bs, items_fill is (fill_item i bs).1) refl

  -- a list and each part of it, and the bodies that are left after it
  mutual
    unfolding fill_entries fill_entry fill_content fill_and_or fill_and_or_parts fill_pipeline fill_pipes fill_command
        fill_compound fill_form fill_branch fill_branches fill_else fill_cases fill_case

    entries_fill : (es : Entries) (bs : Row Span) →
        fill_entries (carried f h deep es) (bodies bs)
        ≡ (carried f h deep (fill_entries es bs).0, bodies (fill_entries es bs).1)
    entries_fill no_entry bs = refl
    entries_fill (more_entries e es) bs = rw (entry_fill e bs, entries_fill es (fill_entry e bs).1) refl

    entry_fill : (e : AnEntry) (bs : Row Span) →
        fill_entry (carried_entry f h deep e) (bodies bs)
        ≡ (carried_entry f h deep (fill_entry e bs).0, bodies (fill_entry e bs).1)
    entry_fill (entry what background blank comment) bs = rw (content_fill what bs) refl

    content_fill : (c : AContent) (bs : Row Span) →
        fill_content (carried_content f h deep c) (bodies bs)
        ≡ (carried_content f h deep (fill_content c bs).0, bodies (fill_content c bs).1)
    content_fill (command a) bs = rw (and_or_fill a bs) refl
    content_fill (remark c) bs = refl

    and_or_fill : (a : AnAndOr) (bs : Row Span) →
        fill_and_or (carried_and_or f h deep a) (bodies bs)
        ≡ (carried_and_or f h deep (fill_and_or a bs).0, bodies (fill_and_or a bs).1)
    and_or_fill (and_or first rest) bs =
        rw (pipeline_fill first bs, and_or_parts_fill rest (fill_pipeline first bs).1) refl

    and_or_parts_fill : (ps : AndOrParts) (bs : Row Span) →
        fill_and_or_parts (carried_and_or_parts f h deep ps) (bodies bs)
        ≡ (carried_and_or_parts f h deep (fill_and_or_parts ps bs).0, bodies (fill_and_or_parts ps bs).1)
    and_or_parts_fill no_and_or bs = refl
    and_or_parts_fill (more_and_or operator join p ps) bs =
        rw (pipeline_fill p bs, and_or_parts_fill ps (fill_pipeline p bs).1) refl

    -- a pipeline, and the commands in it
    pipeline_fill : (p : APipeline) (bs : Row Span) →
        fill_pipeline (carried_pipeline f h deep p) (bodies bs)
        ≡ (carried_pipeline f h deep (fill_pipeline p bs).0, bodies (fill_pipeline p bs).1)
    pipeline_fill (pipeline bang first rest) bs =
        rw (command_fill first bs, pipes_fill rest (fill_command first bs).1) refl

    pipes_fill : (cs : PipelineParts) (bs : Row Span) →
        fill_pipes (carried_pipes f h deep cs) (bodies bs)
        ≡ (carried_pipes f h deep (fill_pipes cs bs).0, bodies (fill_pipes cs bs).1)
    pipes_fill no_pipe bs = refl
    pipes_fill (more_pipes join c cs) bs = rw (command_fill c bs, pipes_fill cs (fill_command c bs).1) refl

    command_fill : (c : ACommand) (bs : Row Span) →
        fill_command (carried_command f h deep c) (bodies bs)
        ≡ (carried_command f h deep (fill_command c bs).0, bodies (fill_command c bs).1)
    command_fill (simple items) bs = rw (items_fill items bs) refl
    command_fill (compound c) bs = rw (compound_fill c bs) refl
    command_fill (function name comments body) bs = rw (compound_fill body bs) refl

    compound_fill : (c : ACompound) (bs : Row Span) →
        fill_compound (carried_compound f h deep c) (bodies bs)
        ≡ (carried_compound f h deep (fill_compound c bs).0, bodies (fill_compound c bs).1)
    compound_fill (formed form span redirects) bs =
        rw (form_fill form bs, items_fill redirects (fill_form form bs).1) refl

    -- a compound command without its redirections, and the branches of an `if`
    form_fill : (m : AForm) (bs : Row Span) →
        fill_form (carried_form f h deep m) (bodies bs)
        ≡ (carried_form f h deep (fill_form m bs).0, bodies (fill_form m bs).1)
    form_fill (brace es) bs = rw (entries_fill es bs) refl
    form_fill (subshell es) bs = rw (entries_fill es bs) refl
    form_fill (if_then first rest other) bs =
        let x = fill_branch first bs in
        let y = fill_branches rest x.1 in
        rw (branch_fill first bs, branches_fill rest x.1, else_fill other y.1) refl
    form_fill (while_do b) bs = rw (branch_fill b bs) refl
    form_fill (until_do b) bs = rw (branch_fill b bs) refl
    form_fill (for_in name words body) bs = rw (entries_fill body bs) refl
    form_fill (case_in w cases tail) bs = rw (cases_fill cases bs) refl

    branch_fill : (b : ABranch) (bs : Row Span) →
        fill_branch (carried_branch f h deep b) (bodies bs)
        ≡ (carried_branch f h deep (fill_branch b bs).0, bodies (fill_branch b bs).1)
    branch_fill (branch condition body) bs =
        rw (entries_fill condition bs, entries_fill body (fill_entries condition bs).1) refl

    branches_fill : (rs : Branches) (bs : Row Span) →
        fill_branches (carried_branches f h deep rs) (bodies bs)
        ≡ (carried_branches f h deep (fill_branches rs bs).0, bodies (fill_branches rs bs).1)
    branches_fill no_branch bs = refl
    branches_fill (more_branches b rs) bs = rw (branch_fill b bs, branches_fill rs (fill_branch b bs).1) refl

    -- what stands after `else`, and the items of a `case`
    else_fill : (o : Otherwise) (bs : Row Span) →
        fill_else (carried_else f h deep o) (bodies bs)
        ≡ (carried_else f h deep (fill_else o bs).0, bodies (fill_else o bs).1)
    else_fill no_else bs = refl
    else_fill (otherwise es) bs = rw (entries_fill es bs) refl

    cases_fill : (cs : CaseItems) (bs : Row Span) →
        fill_cases (carried_cases f h deep cs) (bodies bs)
        ≡ (carried_cases f h deep (fill_cases cs bs).0, bodies (fill_cases cs bs).1)
    cases_fill no_case bs = refl
    cases_fill (more_cases c cs) bs = rw (case_fill c bs, cases_fill cs (fill_case c bs).1) refl

    case_fill : (c : ACaseItem) (bs : Row Span) →
        fill_case (carried_case f h deep c) (bodies bs)
        ≡ (carried_case f h deep (fill_case c bs).0, bodies (fill_case c bs).1)
    case_fill (case_item comments patterns body span) bs = rw (entries_fill body bs) refl

  -- a list with all its bodies, or as it was where none was read
  pub filled_moved : (bs : Row Span) (es : Entries) →
      filled (map h bs) (carried f h deep es) ≡ carried f h deep (filled bs es)
  unfolding filled
  filled_moved [] es = refl
  filled_moved (b ∷ bs) es = ap (λ (r : Entries × Row Span). r.0) (entries_fill es (b ∷ bs))

  -- the same of a row of entries
  row_fill : (es : Row AnEntry) (bs : Row Span) →
      fill_row (map (carried_entry f h deep) es) (map h bs)
      ≡ (map (carried_entry f h deep) (fill_row es bs).0, map h (fill_row es bs).1)
  unfolding fill_row
  row_fill [] bs = refl
  row_fill (e ∷ es) bs = rw (entry_fill e bs, row_fill es (fill_entry e bs).1) refl

  pub row_moved : (bs : Row Span) (es : Row AnEntry) →
      filled_row (map h bs) (map (carried_entry f h deep) es) ≡ map (carried_entry f h deep) (filled_row bs es)
  unfolding filled_row
  row_moved [] es = refl
  row_moved (b ∷ bs) es = ap (λ (r : Row AnEntry × Row Span). r.0) (row_fill es (b ∷ bs))
