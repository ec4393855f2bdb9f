-- What does not look at bodies: the nodes of a list, its spelling, its normal form.
use Rattle.std.proofs.Common.{◌≡◌, ℕ, List as Row, [], ◌∷◌, refl, ap}
use Rattle.std.specs.Prelude.{Some, None}
use Rattle.std.proofs.lemmas.List.Elements.{All-same}
use Rattle.shast.specs.declared.tree.Span.{Span}
use Rattle.shast.specs.Shape.{Shape, Text}
use Rattle.shast.specs.Tree.{Entries, AnEntry, AContent, AnAndOr, AndOrParts, APipeline, PipelineParts, ACommand, ACompound, AForm, ABranch, Branches, Otherwise, CaseItems, ACaseItem, Items, AnItem, EntriesOf, no_entry, more_entries, AnEntryOf, entry, command, remark, AnAndOrOf, and_or, AndOrPartsOf, no_and_or, more_and_or, APipelineOf, pipeline, PipelinePartsOf, no_pipe, more_pipes, ACommandOf, simple, compound, function, ACompoundOf, formed, AFormOf, brace, subshell, if_then, while_do, until_do, for_in, case_in, ABranchOf, branch, BranchesOf, no_branch, more_branches, OtherwiseOf, no_else, otherwise, CaseItemsOf, no_case, more_cases, ACaseItemOf, case_item, ItemsOf, no_item, more_items, AnItemOf, item, AnItemContentOf, assign, argument, redirect, word}
use Rattle.shast.specs.Bodies.{filled}
use Rattle.shast.specs.Opened.{open_item_content, open_item, open_items, opened, open_entry, open_content, open_and_or, open_and_or_parts, open_pipeline, open_pipes, open_command, open_compound, open_form, open_branch, open_branches, open_else, open_cases, open_case}
use Rattle.shast.specs.Nodes.{item_span, last_item, items_span, compound_span, command_span, last_command, pipeline_span, last_pipeline, and_or_span, command_end, commands_end, and_or_node, pipeline_node, form_node, entries_nodes, entry_nodes, content_nodes, and_or_nodes, and_or_parts_nodes, pipeline_nodes, pipes_nodes, command_nodes, compound_nodes, form_nodes, branch_nodes, branches_nodes, else_nodes, cases_nodes, case_nodes, items_nodes, item_nodes, NodesWithin, IsWithin}
use Rattle.shast.specs.Normal.{first_not_blank, first_not_broken, is_command, holds_command, is_whole, are_normal, is_normal_entry, is_normal_and_or, are_normal_and_ors, is_normal_pipeline, are_normal_pipes, is_normal_command, is_normal_compound, is_normal_form, is_normal_branch, are_normal_branches, is_normal_else, are_normal_cases, is_normal_case, are_normal_items, is_normal_item, is_normal_content, is_normal}
use Rattle.shast.specs.Spelling.{spelling, spell_entry, spell_and_or, spell_and_or_parts, spell_pipeline, spell_pipes, spell_command, spell_compound, spell_form, spell_branch, spell_branches, spell_else, spell_loop, spell_cases, spell_case, spell_items, spell_item}
use Rattle.shast.proofs.FilledBlind.{filled_blind}

-- ---- nodes

module _ (nothing : Span) where
  -- for each kind of part: open, it stands where it does with its bodies
  span_item : (i : AnItem) → item_span (open_item nothing i) ≡ item_span i
  unfolding open_item open_item_content
  span_item (item broken (assign w)) = refl
  span_item (item broken (argument w)) = refl
  span_item (item broken (redirect number operator span w here)) = refl

  last_items : (is : Items) (before other : Span) → before ≡ other →
      last_item before (open_items nothing is) ≡ last_item other is
  unfolding open_items
  last_items no_item before other e = e
  last_items (more_items i is) before other e =
      last_items is (item_span (open_item nothing i)) (item_span i) (span_item i)

  span_items : (is : Items) → items_span (open_items nothing is) ≡ items_span is
  unfolding open_items
  span_items no_item = refl
  span_items (more_items i is) =
      rw (last_items is (item_span (open_item nothing i)) (item_span i) (span_item i), span_item i) refl

  span_compound : (c : ACompound) → compound_span (open_compound nothing c) ≡ compound_span c
  unfolding open_compound
  span_compound (formed form span redirects) = rw (last_items redirects span span refl) refl

  span_command : (c : ACommand) → command_span (open_command nothing c) ≡ command_span c
  unfolding open_command
  span_command (simple items) = span_items items
  span_command (compound c) = span_compound c
  span_command (function name comments body) = rw (span_compound body) refl

  last_commands : (cs : PipelineParts) (before other : Span) → before ≡ other →
      last_command before (open_pipes nothing cs) ≡ last_command other cs
  unfolding open_pipes
  last_commands no_pipe before other e = e
  last_commands (more_pipes join c cs) before other e =
      last_commands cs (command_span (open_command nothing c)) (command_span c) (span_command c)

  span_pipeline : (p : APipeline) → pipeline_span (open_pipeline nothing p) ≡ pipeline_span p
  unfolding open_pipeline
  span_pipeline (pipeline bang first rest) =
      rw (
        last_commands rest (command_span (open_command nothing first)) (command_span first) (span_command first),
        span_command first,
      ) refl

  last_pipelines : (ps : AndOrParts) (before other : Span) → before ≡ other →
      last_pipeline before (open_and_or_parts nothing ps) ≡ last_pipeline other ps
  unfolding open_and_or_parts
  last_pipelines no_and_or before other e = e
  last_pipelines (more_and_or operator join p ps) before other e =
      last_pipelines ps (pipeline_span (open_pipeline nothing p)) (pipeline_span p) (span_pipeline p)

  span_and_or : (a : AnAndOr) → and_or_span (open_and_or nothing a) ≡ and_or_span a
  unfolding open_and_or
  span_and_or (and_or first rest) =
      rw (
        last_pipelines rest (pipeline_span (open_pipeline nothing first)) (pipeline_span first) (span_pipeline first),
        span_pipeline first,
      ) refl

  -- and it ends where it does with them
  end_command : (c : AContent) (before other : ℕ) → before ≡ other →
      command_end before (open_content nothing c) ≡ command_end other c
  unfolding open_content
  end_command (command a) before other e = ap (λ (s : Span). s.«end») (span_and_or a)
  end_command (remark c) before other e = e

  end_entries : (es : Entries) (before other : ℕ) → before ≡ other →
      commands_end before (opened nothing es) ≡ commands_end other es
  unfolding opened open_entry
  end_entries no_entry before other e = e
  end_entries (more_entries (entry what background blank comment) es) before other e =
      end_entries es (command_end before (open_content nothing what)) (command_end other what)
      (end_command what before other e)

  -- where the last and-or list ends
  pub ends_open : (es : Entries) (before : ℕ) → commands_end before (opened nothing es) ≡ commands_end before es
  ends_open es before = end_entries es before before refl

  -- open, an and-or list, a pipeline and a compound command are the nodes that they are with them
  node_and_or : (a : AnAndOr) → and_or_node (open_and_or nothing a) ≡ and_or_node a
  unfolding open_and_or open_and_or_parts
  node_and_or (and_or first no_and_or) = refl
  node_and_or (and_or first (more_and_or operator join p ps)) =
      rw (
        last_pipelines ps (pipeline_span (open_pipeline nothing p)) (pipeline_span p) (span_pipeline p),
        span_pipeline first,
      ) refl

  node_pipeline : (p : APipeline) → pipeline_node (open_pipeline nothing p) ≡ pipeline_node p
  unfolding open_pipeline open_pipes
  node_pipeline (pipeline None first no_pipe) = refl
  node_pipeline (pipeline None first (more_pipes join c cs)) =
      rw (
        last_commands cs (command_span (open_command nothing c)) (command_span c) (span_command c),
        span_command first,
      ) refl
  node_pipeline (pipeline (Some b) first no_pipe) = rw (span_command first) refl
  node_pipeline (pipeline (Some b) first (more_pipes join c cs)) =
      rw (last_commands cs (command_span (open_command nothing c)) (command_span c) (span_command c)) refl

  node_form : (f : AForm) (span : Span) → form_node (open_form nothing f) span ≡ form_node f span
  unfolding open_form
  node_form (brace es) span = refl
  node_form (subshell es) span = refl
  node_form (if_then first rest other) span = refl
  node_form (while_do b) span = refl
  node_form (until_do b) span = refl
  node_form (for_in name words body) span = refl
  node_form (case_in w items tail) span = refl

  -- for each kind of part: open, it has the nodes that it has with its bodies
  item_same : (i : AnItem) → item_nodes (open_item nothing i) ≡ item_nodes i
  unfolding open_item open_item_content
  item_same (item broken (assign (word span substs))) = refl
  item_same (item broken (argument w)) = refl
  item_same (item broken (redirect number operator span w here)) = refl

  items_same : (is : Items) → items_nodes (open_items nothing is) ≡ items_nodes is
  unfolding open_items
  items_same no_item = refl
  items_same (more_items i is) = rw (item_same i, items_same is) refl

  mutual
    unfolding opened open_entry open_content open_and_or open_and_or_parts open_pipeline open_pipes open_command
        open_compound open_form open_branch open_branches open_else open_cases open_case

    -- the nodes
    pub nodes_open : (es : Entries) → entries_nodes (opened nothing es) ≡ entries_nodes es
    nodes_open no_entry = refl
    nodes_open (more_entries e es) = rw (entry_same e, nodes_open es) refl

    entry_same : (e : AnEntry) → entry_nodes (open_entry nothing e) ≡ entry_nodes e
    entry_same (entry what background blank comment) = rw (content_same what) refl

    content_same : (c : AContent) → content_nodes (open_content nothing c) ≡ content_nodes c
    content_same (command a) = and_or_same a
    content_same (remark c) = refl

    and_or_same : (a : AnAndOr) → and_or_nodes (open_and_or nothing a) ≡ and_or_nodes a
    and_or_same (and_or first rest) =
        rw (node_and_or (and_or first rest), pipeline_same first, and_or_parts_same rest) refl

    and_or_parts_same : (ps : AndOrParts) → and_or_parts_nodes (open_and_or_parts nothing ps) ≡ and_or_parts_nodes ps
    and_or_parts_same no_and_or = refl
    and_or_parts_same (more_and_or operator join p ps) = rw (pipeline_same p, and_or_parts_same ps) refl

    pipeline_same : (p : APipeline) → pipeline_nodes (open_pipeline nothing p) ≡ pipeline_nodes p
    pipeline_same (pipeline bang first rest) =
        rw (node_pipeline (pipeline bang first rest), command_same first, pipes_same rest) refl

    pipes_same : (cs : PipelineParts) → pipes_nodes (open_pipes nothing cs) ≡ pipes_nodes cs
    pipes_same no_pipe = refl
    pipes_same (more_pipes join c cs) = rw (command_same c, pipes_same cs) refl

    command_same : (c : ACommand) → command_nodes (open_command nothing c) ≡ command_nodes c
    command_same (simple items) = rw (span_items items, items_same items) refl
    command_same (compound c) = compound_same c
    command_same (function name comments body) = rw (span_compound body, compound_same body) refl

    compound_same : (c : ACompound) → compound_nodes (open_compound nothing c) ≡ compound_nodes c
    compound_same (formed form span redirects) =
        rw (last_items redirects span span refl, node_form form, form_same form, items_same redirects) refl

    form_same : (f : AForm) → form_nodes (open_form nothing f) ≡ form_nodes f
    form_same (brace es) = nodes_open es
    form_same (subshell es) = nodes_open es
    form_same (if_then first rest other) = rw (branch_same first, branches_same rest, else_same other) refl
    form_same (while_do b) = branch_same b
    form_same (until_do b) = branch_same b
    form_same (for_in name words body) = rw (nodes_open body) refl
    form_same (case_in w cases tail) = rw (cases_same cases) refl

    branch_same : (b : ABranch) → branch_nodes (open_branch nothing b) ≡ branch_nodes b
    branch_same (branch condition body) = rw (nodes_open condition, nodes_open body) refl

    branches_same : (bs : Branches) → branches_nodes (open_branches nothing bs) ≡ branches_nodes bs
    branches_same no_branch = refl
    branches_same (more_branches b bs) = rw (branch_same b, branches_same bs) refl

    else_same : (o : Otherwise) → else_nodes (open_else nothing o) ≡ else_nodes o
    else_same no_else = refl
    else_same (otherwise es) = nodes_open es

    cases_same : (cs : CaseItems) → cases_nodes (open_cases nothing cs) ≡ cases_nodes cs
    cases_same no_case = refl
    cases_same (more_cases c cs) = rw (case_same c, cases_same cs) refl

    case_same : (c : ACaseItem) → case_nodes (open_case nothing c) ≡ case_nodes c
    case_same (case_item comments patterns body span) = rw (nodes_open body) refl

-- to fill a list changes no node
pub filled_nodes : (bs : Row Span) (es : Entries) → entries_nodes (filled bs es) ≡ entries_nodes es
filled_nodes bs es =
    let nothing : Span = record { start = 0; «end» = 0 } in
    rw (← nodes_open nothing (filled bs es), filled_blind nothing bs es) (nodes_open nothing es)

-- no node of a filled list names an offset that the list did not name
pub filled_within : (limit : ℕ) (bs : Row Span) (es : Entries) → NodesWithin limit es → NodesWithin limit (filled bs es)
filled_within limit bs es so = All-same (IsWithin limit) _ _ (filled_nodes bs es) so

-- nor where the last and-or list ends
pub filled_ends : (bs : Row Span) (es : Entries) (before : ℕ) →
    commands_end before (filled bs es) ≡ commands_end before es
filled_ends bs es before =
    let nothing : Span = record { start = 0; «end» = 0 } in
    rw (← ends_open nothing (filled bs es) before, filled_blind nothing bs es) (ends_open nothing es before)

-- ---- the normal form

module _ {T M : Type 0} (nothing : T) where
  -- what stands first in a row, and whether a list holds a command, are the same with no body
  first_open : (es : EntriesOf T M) → first_not_blank (opened nothing es) ≡ first_not_blank es
  unfolding opened open_entry
  first_open no_entry = refl
  first_open (more_entries (entry what background blank comment) es) = refl

  first_item_open : (is : ItemsOf T M) → first_not_broken (open_items nothing is) ≡ first_not_broken is
  unfolding open_items open_item
  first_item_open no_item = refl
  first_item_open (more_items (item broken what) is) = refl

  command_open : (e : AnEntryOf T M) → is_command (open_entry nothing e) ≡ is_command e
  unfolding open_entry open_content
  command_open (entry (command a) background blank comment) = refl
  command_open (entry (remark c) background blank comment) = refl

  holds_open : (es : EntriesOf T M) → holds_command (opened nothing es) ≡ holds_command es
  unfolding opened
  holds_open no_entry = refl
  holds_open (more_entries e es) = rw (command_open e, holds_open es) refl

  whole_open : (es : EntriesOf T M) → is_whole (opened nothing es) ≡ is_whole es
  whole_open es = rw (holds_open es, first_open es) refl

  -- for each kind of part: open, it is in normal form where it is with its bodies
  normal_content_open : (c : AnItemContentOf T M) →
      is_normal_content (open_item_content nothing c) ≡ is_normal_content c
  unfolding open_item_content
  normal_content_open (assign w) = refl
  normal_content_open (argument w) = refl
  normal_content_open (redirect number operator mark w here) = refl

  normal_item_open : (i : AnItemOf T M) → is_normal_item (open_item nothing i) ≡ is_normal_item i
  unfolding open_item
  normal_item_open (item broken what) = normal_content_open what

  normal_items_open : (is : ItemsOf T M) → are_normal_items (open_items nothing is) ≡ are_normal_items is
  unfolding open_items
  normal_items_open no_item = refl
  normal_items_open (more_items i is) = rw (normal_item_open i, normal_items_open is) refl

  mutual
    unfolding opened open_entry open_content open_and_or open_and_or_parts open_pipeline open_pipes open_command
        open_compound open_form open_branch open_branches open_else open_cases open_case

    all_open : (es : EntriesOf T M) → are_normal (opened nothing es) ≡ are_normal es
    all_open no_entry = refl
    all_open (more_entries e es) = rw (normal_entry_open e, all_open es) refl

    normal_entry_open : (e : AnEntryOf T M) → is_normal_entry (open_entry nothing e) ≡ is_normal_entry e
    normal_entry_open (entry (command a) background blank comment) = normal_and_or_open a
    normal_entry_open (entry (remark c) background blank comment) = refl

    normal_and_or_open : (a : AnAndOrOf T M) → is_normal_and_or (open_and_or nothing a) ≡ is_normal_and_or a
    normal_and_or_open (and_or first rest) = rw (normal_pipeline_open first, normal_and_ors_open rest) refl

    normal_and_ors_open : (ps : AndOrPartsOf T M) →
        are_normal_and_ors (open_and_or_parts nothing ps) ≡ are_normal_and_ors ps
    normal_and_ors_open no_and_or = refl
    normal_and_ors_open (more_and_or operator join p ps) = rw (normal_pipeline_open p, normal_and_ors_open ps) refl

    normal_pipeline_open : (p : APipelineOf T M) → is_normal_pipeline (open_pipeline nothing p) ≡ is_normal_pipeline p
    normal_pipeline_open (pipeline bang first rest) = rw (normal_command_open first, normal_pipes_open rest) refl

    normal_pipes_open : (cs : PipelinePartsOf T M) → are_normal_pipes (open_pipes nothing cs) ≡ are_normal_pipes cs
    normal_pipes_open no_pipe = refl
    normal_pipes_open (more_pipes join c cs) = rw (normal_command_open c, normal_pipes_open cs) refl

    normal_command_open : (c : ACommandOf T M) → is_normal_command (open_command nothing c) ≡ is_normal_command c
    normal_command_open (simple items) = rw (first_item_open items, normal_items_open items) refl
    normal_command_open (compound c) = normal_compound_open c
    normal_command_open (function name comments body) = normal_compound_open body

    normal_compound_open : (c : ACompoundOf T M) → is_normal_compound (open_compound nothing c) ≡ is_normal_compound c
    normal_compound_open (formed form mark redirects) = rw (normal_form_open form, normal_items_open redirects) refl

    normal_form_open : (f : AFormOf T M) → is_normal_form (open_form nothing f) ≡ is_normal_form f
    normal_form_open (brace es) = rw (whole_open es, all_open es) refl
    normal_form_open (subshell es) = rw (whole_open es, all_open es) refl
    normal_form_open (if_then first rest other) =
        rw (normal_branch_open first, normal_branches_open rest, normal_else_open other) refl
    normal_form_open (while_do b) = normal_branch_open b
    normal_form_open (until_do b) = normal_branch_open b
    normal_form_open (for_in name words body) = rw (whole_open body, all_open body) refl
    normal_form_open (case_in w cases tail) = rw (normal_cases_open cases) refl

    normal_branch_open : (b : ABranchOf T M) → is_normal_branch (open_branch nothing b) ≡ is_normal_branch b
    normal_branch_open (branch condition body) =
        rw (whole_open condition, all_open condition, whole_open body, all_open body) refl

    normal_branches_open : (bs : BranchesOf T M) →
        are_normal_branches (open_branches nothing bs) ≡ are_normal_branches bs
    normal_branches_open no_branch = refl
    normal_branches_open (more_branches b bs) = rw (normal_branch_open b, normal_branches_open bs) refl

    normal_else_open : (o : OtherwiseOf T M) → is_normal_else (open_else nothing o) ≡ is_normal_else o
    normal_else_open no_else = refl
    normal_else_open (otherwise es) = rw (whole_open es, all_open es) refl

    normal_cases_open : (cs : CaseItemsOf T M) → are_normal_cases (open_cases nothing cs) ≡ are_normal_cases cs
    normal_cases_open no_case = refl
    normal_cases_open (more_cases c cs) = rw (normal_case_open c, normal_cases_open cs) refl

    normal_case_open : (c : ACaseItemOf T M) → is_normal_case (open_case nothing c) ≡ is_normal_case c
    normal_case_open (case_item comments patterns body mark) = rw (first_open body, all_open body) refl

  -- the normal form of a list
  pub normal_open : (es : EntriesOf T M) → is_normal (opened nothing es) ≡ is_normal es
  normal_open es = rw (first_open es, all_open es) refl

  -- a filled list is in normal form where the list is, and so are its first entry and all of them
  pub filled_normal_by : (bs : Row T) (es : EntriesOf T M) → is_normal (filled bs es) ≡ is_normal es
  filled_normal_by bs es = rw (← normal_open (filled bs es), filled_blind nothing bs es) (normal_open es)

  first_filled_by : (bs : Row T) (es : EntriesOf T M) → first_not_blank (filled bs es) ≡ first_not_blank es
  first_filled_by bs es = rw (← first_open (filled bs es), filled_blind nothing bs es) (first_open es)

  all_filled_by : (bs : Row T) (es : EntriesOf T M) → are_normal (filled bs es) ≡ are_normal es
  all_filled_by bs es = rw (← all_open (filled bs es), filled_blind nothing bs es) (all_open es)

-- with no body there is nothing to fill in
pub filled_normal : {T M : Type 0} (bs : Row T) (es : EntriesOf T M) → is_normal (filled bs es) ≡ is_normal es
unfolding filled
filled_normal [] es = refl
filled_normal (b ∷ bs) es = filled_normal_by b (b ∷ bs) es

-- the same of its first entry, and of each of its entries
pub first_filled : {T M : Type 0} (bs : Row T) (es : EntriesOf T M) →
    first_not_blank (filled bs es) ≡ first_not_blank es
unfolding filled
first_filled [] es = refl
first_filled (b ∷ bs) es = first_filled_by b (b ∷ bs) es

pub all_filled : {T M : Type 0} (bs : Row T) (es : EntriesOf T M) → are_normal (filled bs es) ≡ are_normal es
unfolding filled
all_filled [] es = refl
all_filled (b ∷ bs) es = all_filled_by b (b ∷ bs) es

-- ---- the spelling

module _ (nothing : Text) where
  -- for each kind of part: open, it has the tokens that it has with its bodies
  spelled_item : (i : Shape AnItemOf) → spell_item (open_item nothing i) ≡ spell_item i
  unfolding open_item open_item_content
  spelled_item (item broken (assign w)) = refl
  spelled_item (item broken (argument w)) = refl
  spelled_item (item broken (redirect number operator mark w here)) = refl

  spelled_items : (is : Shape ItemsOf) → spell_items (open_items nothing is) ≡ spell_items is
  unfolding open_items
  spelled_items no_item = refl
  spelled_items (more_items i is) = rw (spelled_item i, spelled_items is) refl

  mutual
    unfolding opened open_entry open_content open_and_or open_and_or_parts open_pipeline open_pipes open_command
        open_compound open_form open_branch open_branches open_else open_cases open_case

    -- the tokens of a shape
    pub spelling_open : (es : Shape EntriesOf) → spelling (opened nothing es) ≡ spelling es
    spelling_open no_entry = refl
    spelling_open (more_entries e es) = rw (spelled_entry e, spelling_open es) refl

    spelled_entry : (e : Shape AnEntryOf) → spell_entry (open_entry nothing e) ≡ spell_entry e
    spelled_entry (entry (command a) background blank comment) = rw (spelled_and_or a) refl
    spelled_entry (entry (remark c) background blank comment) = refl

    spelled_and_or : (a : Shape AnAndOrOf) → spell_and_or (open_and_or nothing a) ≡ spell_and_or a
    spelled_and_or (and_or first rest) = rw (spelled_pipeline first, spelled_parts rest) refl

    spelled_parts : (ps : Shape AndOrPartsOf) →
        spell_and_or_parts (open_and_or_parts nothing ps) ≡ spell_and_or_parts ps
    spelled_parts no_and_or = refl
    spelled_parts (more_and_or operator join p ps) = rw (spelled_pipeline p, spelled_parts ps) refl

    spelled_pipeline : (p : Shape APipelineOf) → spell_pipeline (open_pipeline nothing p) ≡ spell_pipeline p
    spelled_pipeline (pipeline bang first rest) = rw (spelled_command first, spelled_pipes rest) refl

    spelled_pipes : (cs : Shape PipelinePartsOf) → spell_pipes (open_pipes nothing cs) ≡ spell_pipes cs
    spelled_pipes no_pipe = refl
    spelled_pipes (more_pipes join c cs) = rw (spelled_command c, spelled_pipes cs) refl

    spelled_command : (c : Shape ACommandOf) → spell_command (open_command nothing c) ≡ spell_command c
    spelled_command (simple items) = spelled_items items
    spelled_command (compound c) = spelled_compound c
    spelled_command (function name comments body) = rw (spelled_compound body) refl

    spelled_compound : (c : Shape ACompoundOf) → spell_compound (open_compound nothing c) ≡ spell_compound c
    spelled_compound (formed form mark redirects) = rw (spelled_form form, spelled_items redirects) refl

    spelled_form : (f : Shape AFormOf) → spell_form (open_form nothing f) ≡ spell_form f
    spelled_form (brace es) = rw (spelling_open es) refl
    spelled_form (subshell es) = rw (spelling_open es) refl
    spelled_form (if_then first rest other) = rw (spelled_branch first, spelled_branches rest, spelled_else other) refl
    spelled_form (while_do b) = rw (spelled_loop b) refl
    spelled_form (until_do b) = rw (spelled_loop b) refl
    spelled_form (for_in name words body) = rw (spelling_open body) refl
    spelled_form (case_in w cases tail) = rw (spelled_cases cases) refl

    spelled_branch : (b : Shape ABranchOf) → spell_branch (open_branch nothing b) ≡ spell_branch b
    spelled_branch (branch condition body) = rw (spelling_open condition, spelling_open body) refl

    spelled_branches : (bs : Shape BranchesOf) → spell_branches (open_branches nothing bs) ≡ spell_branches bs
    spelled_branches no_branch = refl
    spelled_branches (more_branches b bs) = rw (spelled_branch b, spelled_branches bs) refl

    spelled_else : (o : Shape OtherwiseOf) → spell_else (open_else nothing o) ≡ spell_else o
    spelled_else no_else = refl
    spelled_else (otherwise es) = rw (spelling_open es) refl

    spelled_loop : (b : Shape ABranchOf) → spell_loop (open_branch nothing b) ≡ spell_loop b
    spelled_loop (branch condition body) = rw (spelling_open condition, spelling_open body) refl

    spelled_cases : (cs : Shape CaseItemsOf) → spell_cases (open_cases nothing cs) ≡ spell_cases cs
    spelled_cases no_case = refl
    spelled_cases (more_cases c cs) = rw (spelled_case c, spelled_cases cs) refl

    spelled_case : (c : Shape ACaseItemOf) → spell_case (open_case nothing c) ≡ spell_case c
    spelled_case (case_item comments patterns body mark) = rw (spelling_open body) refl

-- to fill a shape changes no token
pub filled_spelling : (ts : Row Text) (es : Shape EntriesOf) → spelling (filled ts es) ≡ spelling es
filled_spelling ts es = rw (← spelling_open [] (filled ts es), filled_blind [] ts es) (spelling_open [] es)
