-- The nodes of a list at another base are its nodes there.
use Rattle.std.proofs.Common.{true, ◌≡◌, ℕ, ◌+◌, List as Row, [], ◌∷◌, ◌++◌, map, Option, Some, None, option_map, refl, sym, ap, ◌∙◌, arith}
use Rattle.std.specs.Prelude.{MatchOption, unwrap_or}
use Rattle.std.specs.List.{filter}
use Rattle.std.specs.Option.{option_to_list}
use Rattle.std.proofs.lemmas.List.{map-append}
use Rattle.std.proofs.lemmas.List.Elements.{All-map, All-same, All-weaker}
use Rattle.shast.specs.declared.node.NodeKind.{NodeKind}
use Rattle.shast.specs.declared.node.NodeLine.{NodeLine}
use Rattle.shast.specs.declared.tree.Span.{Span}
use Rattle.shast.specs.Tree.{Entries, no_entry, more_entries, AnEntry, entry, AContent, command, remark, AnAndOr, and_or, AndOrParts, no_and_or, more_and_or, APipeline, pipeline, PipelineParts, no_pipe, more_pipes, ACommand, simple, compound, function, ACompound, formed, AForm, brace, subshell, if_then, while_do, until_do, for_in, case_in, ABranch, branch, Branches, no_branch, more_branches, Otherwise, no_else, otherwise, ForWords, no_in, in_words, CaseItems, no_case, more_cases, ACaseItem, case_item, Patterns, no_pattern, more_patterns, Items, no_item, more_items, AnItem, item, assign, argument, redirect, AWord, word, Substs, no_subst, more_substs, ASubst, subst}
use Rattle.shast.specs.Nodes.{IsSpanWithin, IsWithin, NodesWithin, and_or_node, and_or_nodes, and_or_parts_nodes, and_or_span, branch_nodes, branches_nodes, case_nodes, cases_nodes, command_nodes, command_span, comment_node, compound_nodes, compound_span, content_nodes, else_nodes, entries_nodes, entry_nodes, for_words_nodes, form_node, form_nodes, holds, in_outline, item_nodes, item_span, items_nodes, items_span, last_command, last_item, last_pipeline, named_node, node, nodes_at, nodes_of, outline, patterns_nodes, pipeline_node, pipeline_nodes, pipeline_span, pipes_nodes, placed, placed_span, subst_nodes, substs_nodes, through, word_nodes, word_span}
use Rattle.shast.specs.Moved.{carried, carried_and_or, carried_and_or_parts, carried_branch, carried_branches, carried_case, carried_cases, carried_command, carried_compound, carried_content, carried_else, carried_entry, carried_for_words, carried_form, carried_item, carried_items, carried_patterns, carried_pipeline, carried_pipes, carried_subst, carried_substs, carried_word, moved, placed_body}
use Rattle.shast.specs.Everywhere.{HaveItems, IsSome, InEntry, InContent, InAndOr, InAndOrParts, InPipeline, InPipes, InCommand, InCompound, InForm, InBranch, InBranches, InElse, InForWords, InCases, InCase, InPatterns, InItems, InItem, InWord, InSubsts, InSubst, Throughout}

-- nothing is asked of a span
abbrev Always : Span → Type 0
Always s = Unit {0}

module _ (b : ℕ) where
  -- a span and a body, at the base
  abbrev f : Span → Span
  f = placed_span b

  abbrev fb : Span → Span
  fb = placed_body b

  -- ---- where a part stands

  -- for each kind of part: at the base it stands where it did, moved by the base
  word_there : (w : AWord) → word_span (carried_word f fb true w) ≡ f (word_span w)
  word_there (word span substs) = refl

  begin_there : (begin : Option Span) (s : Span) → unwrap_or (option_map f begin) (f s) ≡ f (unwrap_or begin s)
  begin_there None s = refl
  begin_there (Some t) s = refl

  item_there : (i : AnItem) → item_span (carried_item f fb true i) ≡ f (item_span i)
  item_there (item broken (assign w)) = word_there w
  item_there (item broken (argument w)) = word_there w
  item_there (item broken (redirect number operator span w here)) = rw (begin_there number span, word_there w) refl

  last_item_there : (before after : Span) (is : Items) → after ≡ f before →
      last_item after (carried_items f fb true is) ≡ f (last_item before is)
  last_item_there before after no_item e = e
  last_item_there before after (more_items i is) e =
      last_item_there (item_span i) (item_span (carried_item f fb true i)) is (item_there i)

  items_there : (is : Items) → IsSome is → items_span (carried_items f fb true is) ≡ f (items_span is)
  items_there no_item some = absurd some
  items_there (more_items i is) some =
      rw (last_item_there (item_span i) (item_span (carried_item f fb true i)) is (item_there i), item_there i) refl

  compound_there : (c : ACompound) → compound_span (carried_compound f fb true c) ≡ f (compound_span c)
  compound_there (formed form span redirects) = rw (last_item_there span (f span) redirects refl) refl

  command_there : (c : ACommand) → InCommand Always IsSome c →
      command_span (carried_command f fb true c) ≡ f (command_span c)
  command_there (simple items) so = items_there items so.0
  command_there (compound c) so = compound_there c
  command_there (function name comments body) so = rw (compound_there body) refl

  last_command_there : (before after : Span) (cs : PipelineParts) → InPipes Always IsSome cs → after ≡ f before →
      last_command after (carried_pipes f fb true cs) ≡ f (last_command before cs)
  last_command_there before after no_pipe so e = e
  last_command_there before after (more_pipes join c cs) so e =
      last_command_there (command_span c) (command_span (carried_command f fb true c)) cs so.2 (command_there c so.1)

  pipeline_there : (p : APipeline) → InPipeline Always IsSome p →
      pipeline_span (carried_pipeline f fb true p) ≡ f (pipeline_span p)
  pipeline_there (pipeline bang first rest) so =
      rw (
        last_command_there (command_span first) (command_span (carried_command f fb true first)) rest so.2
            (command_there first so.1),
        command_there first so.1,
        begin_there bang (command_span first),
      ) refl

  last_pipeline_there : (before after : Span) (ps : AndOrParts) → InAndOrParts Always IsSome ps → after ≡ f before →
      last_pipeline after (carried_and_or_parts f fb true ps) ≡ f (last_pipeline before ps)
  last_pipeline_there before after no_and_or so e = e
  last_pipeline_there before after (more_and_or operator join p ps) so e =
      last_pipeline_there (pipeline_span p) (pipeline_span (carried_pipeline f fb true p)) ps so.2
      (pipeline_there p so.1)

  and_or_there : (a : AnAndOr) → InAndOr Always IsSome a → and_or_span (carried_and_or f fb true a) ≡ f (and_or_span a)
  and_or_there (and_or first rest) so =
      rw (
        last_pipeline_there (pipeline_span first) (pipeline_span (carried_pipeline f fb true first)) rest so.1
            (pipeline_there first so.0),
        pipeline_there first so.0,
      ) refl

  -- ---- nodes

  -- nodes, at the base
  abbrev there : Row NodeLine → Row NodeLine
  there ns = map (placed b) ns

  -- the nodes of comments, and each part that is a node itself, are the same nodes, moved
  comments_there : (cs : Row Span) → map comment_node (map f cs) ≡ there (map comment_node cs)
  comments_there [] = refl
  comments_there (c ∷ cs) = ap (λ r. comment_node (f c) ∷ r) (comments_there cs)

  comment_there : (c : Option Span) →
      map comment_node (option_to_list (option_map f c)) ≡ there (map comment_node (option_to_list c))
  comment_there None = refl
  comment_there (Some c) = refl

  form_there : (m : AForm) (s : Span) → form_node (carried_form f fb true m) (f s) ≡ placed b (form_node m s)
  form_there (brace es) s = refl
  form_there (subshell es) s = refl
  form_there (if_then first rest other) s = refl
  form_there (while_do c) s = refl
  form_there (until_do c) s = refl
  form_there (for_in (word name substs) words body) s = refl
  form_there (case_in w items tail) s = refl

  and_or_node_there : (a : AnAndOr) → InAndOr Always IsSome a →
      and_or_node (carried_and_or f fb true a) ≡ there (and_or_node a)
  and_or_node_there (and_or first no_and_or) so = refl
  and_or_node_there (and_or first (more_and_or operator join p ps)) so =
      ap (λ (s : Span). node NodeKind.AndOr s ∷ []) (and_or_there (and_or first (more_and_or operator join p ps)) so)

  pipeline_node_there : (p : APipeline) → InPipeline Always IsSome p →
      pipeline_node (carried_pipeline f fb true p) ≡ there (pipeline_node p)
  pipeline_node_there (pipeline None first no_pipe) so = refl
  pipeline_node_there (pipeline None first (more_pipes join c cs)) so =
      ap (λ (s : Span). node NodeKind.Pipeline s ∷ []) (pipeline_there (pipeline None first (more_pipes join c cs)) so)
  pipeline_node_there (pipeline (Some bang) first rest) so =
      ap (λ (s : Span). node NodeKind.Pipeline s ∷ []) (pipeline_there (pipeline (Some bang) first rest) so)

  -- where two rows of nodes are moved, or three, or a node and a row, they are moved together
  two_rows_there : (ms ns : Row NodeLine) (os qs : Row NodeLine) → os ≡ there ms → qs ≡ there ns →
      os ++ qs ≡ there (ms ++ ns)
  two_rows_there ms ns os qs one other = rw (one, other) (sym (map-append (placed b) ms ns))

  three_rows_there : (ls ms ns os qs rs : Row NodeLine) → os ≡ there ls → qs ≡ there ms → rs ≡ there ns →
      os ++ qs ++ rs ≡ there (ls ++ ms ++ ns)
  three_rows_there ls ms ns os qs rs one other last =
      two_rows_there (ls ++ ms) ns (os ++ qs) rs (two_rows_there ls ms os qs one other) last

  node_and_row_there : (m n : NodeLine) (ms ns : Row NodeLine) → m ≡ placed b n → ms ≡ there ns →
      m ∷ ms ≡ there (n ∷ ns)
  node_and_row_there m n ms ns one other = rw (one, other) refl

  mutual
    -- for each kind of part: its nodes at the base are its nodes, moved
    entries_there : (es : Entries) → Throughout Always IsSome es →
        entries_nodes (carried f fb true es) ≡ there (entries_nodes es)
    entries_there no_entry so = refl
    entries_there (more_entries e es) so =
        two_rows_there (entry_nodes e) (entries_nodes es) _ _ (entry_there e so.0) (entries_there es so.1)

    entry_there : (e : AnEntry) → InEntry Always IsSome e →
        entry_nodes (carried_entry f fb true e) ≡ there (entry_nodes e)
    entry_there (entry what background blank comment) so =
        two_rows_there (content_nodes what) _ _ _ (content_there what so.0) (comment_there comment)

    content_there : (c : AContent) → InContent Always IsSome c →
        content_nodes (carried_content f fb true c) ≡ there (content_nodes c)
    content_there (command a) so = and_or_nodes_there a so
    content_there (remark c) so = refl

    and_or_nodes_there : (a : AnAndOr) → InAndOr Always IsSome a →
        and_or_nodes (carried_and_or f fb true a) ≡ there (and_or_nodes a)
    and_or_nodes_there (and_or first rest) so =
        three_rows_there (and_or_node (and_or first rest)) (pipeline_nodes first) (and_or_parts_nodes rest) _ _ _
        (and_or_node_there (and_or first rest) so) (pipeline_nodes_there first so.0) (parts_there rest so.1)

    parts_there : (ps : AndOrParts) → InAndOrParts Always IsSome ps →
        and_or_parts_nodes (carried_and_or_parts f fb true ps) ≡ there (and_or_parts_nodes ps)
    parts_there no_and_or so = refl
    parts_there (more_and_or operator join p ps) so =
        three_rows_there (map comment_node join.comments) (pipeline_nodes p) (and_or_parts_nodes ps) _ _ _
        (comments_there join.comments) (pipeline_nodes_there p so.1) (parts_there ps so.2)

    pipeline_nodes_there : (p : APipeline) → InPipeline Always IsSome p →
        pipeline_nodes (carried_pipeline f fb true p) ≡ there (pipeline_nodes p)
    pipeline_nodes_there (pipeline bang first rest) so =
        three_rows_there (pipeline_node (pipeline bang first rest)) (command_nodes first) (pipes_nodes rest) _ _ _
        (pipeline_node_there (pipeline bang first rest) so) (command_nodes_there first so.1) (pipes_there rest so.2)

    pipes_there : (cs : PipelineParts) → InPipes Always IsSome cs →
        pipes_nodes (carried_pipes f fb true cs) ≡ there (pipes_nodes cs)
    pipes_there no_pipe so = refl
    pipes_there (more_pipes join c cs) so =
        three_rows_there (map comment_node join.comments) (command_nodes c) (pipes_nodes cs) _ _ _
        (comments_there join.comments)
        (command_nodes_there c so.1) (pipes_there cs so.2)

    command_nodes_there : (c : ACommand) → InCommand Always IsSome c →
        command_nodes (carried_command f fb true c) ≡ there (command_nodes c)
    command_nodes_there (simple items) so =
        node_and_row_there (node NodeKind.Simple (items_span (carried_items f fb true items)))
        (node NodeKind.Simple (items_span items)) _ _
        (ap (λ (s : Span). node NodeKind.Simple s) (items_there items so.0)) (items_nodes_there items so.1)
    command_nodes_there (compound c) so = compound_nodes_there c so
    command_nodes_there (function name comments body) so =
        node_and_row_there (named_node NodeKind.Function
        (through (f name) (compound_span (carried_compound f fb true body)))
        (f name)) (named_node NodeKind.Function (through name (compound_span body)) name) _ _
        (ap (λ (s : Span). named_node NodeKind.Function (through (f name) s) (f name)) (compound_there body))
        (two_rows_there (map comment_node comments) (compound_nodes body) _ _ (comments_there comments)
        (compound_nodes_there body so.2))

    compound_nodes_there : (c : ACompound) → InCompound Always IsSome c →
        compound_nodes (carried_compound f fb true c) ≡ there (compound_nodes c)
    compound_nodes_there (formed form span redirects) so =
        node_and_row_there (form_node (carried_form f fb true form)
        (through (f span) (last_item (f span) (carried_items f fb true redirects))))
        (form_node form (through span (last_item span redirects))) _ _
        (ap (λ (s : Span). form_node (carried_form f fb true form) (through (f span) s))
        (last_item_there span (f span) redirects refl) ∙ form_there form (through span (last_item span redirects)))
        (two_rows_there (form_nodes form) (items_nodes redirects) _ _ (form_nodes_there form so.0)
        (items_nodes_there redirects so.2))

    form_nodes_there : (m : AForm) → InForm Always IsSome m →
        form_nodes (carried_form f fb true m) ≡ there (form_nodes m)
    form_nodes_there (brace es) so = entries_there es so
    form_nodes_there (subshell es) so = entries_there es so
    form_nodes_there (if_then first rest other) so =
        three_rows_there (branch_nodes first) (branches_nodes rest) (else_nodes other) _ _ _ (branch_there first so.0)
        (branches_there rest so.1) (else_there other so.2)
    form_nodes_there (while_do c) so = branch_there c so
    form_nodes_there (until_do c) so = branch_there c so
    form_nodes_there (for_in name words body) so =
        three_rows_there (word_nodes name) (for_words_nodes words) (entries_nodes body) _ _ _
        (word_nodes_there name so.0)
        (for_words_there words so.1) (entries_there body so.2)
    form_nodes_there (case_in w cases tail) so =
        three_rows_there (word_nodes w) (cases_nodes cases) (map comment_node tail) _ _ _ (word_nodes_there w so.0)
        (cases_there cases so.1) (comments_there tail)

    branch_there : (c : ABranch) → InBranch Always IsSome c →
        branch_nodes (carried_branch f fb true c) ≡ there (branch_nodes c)
    branch_there (branch condition body) so =
        two_rows_there (entries_nodes condition) _ _ _ (entries_there condition so.0) (entries_there body so.1)

    branches_there : (bs : Branches) → InBranches Always IsSome bs →
        branches_nodes (carried_branches f fb true bs) ≡ there (branches_nodes bs)
    branches_there no_branch so = refl
    branches_there (more_branches c bs) so =
        two_rows_there (branch_nodes c) _ _ _ (branch_there c so.0) (branches_there bs so.1)

    else_there : (o : Otherwise) → InElse Always IsSome o → else_nodes (carried_else f fb true o) ≡ there (else_nodes o)
    else_there no_else so = refl
    else_there (otherwise es) so = entries_there es so

    for_words_there : (ws : ForWords) → InForWords Always IsSome ws →
        for_words_nodes (carried_for_words f fb true ws) ≡ there (for_words_nodes ws)
    for_words_there no_in so = refl
    for_words_there (in_words items) so = items_nodes_there items so

    cases_there : (cs : CaseItems) → InCases Always IsSome cs →
        cases_nodes (carried_cases f fb true cs) ≡ there (cases_nodes cs)
    cases_there no_case so = refl
    cases_there (more_cases c cs) so = two_rows_there (case_nodes c) _ _ _ (case_there c so.0) (cases_there cs so.1)

    case_there : (c : ACaseItem) → InCase Always IsSome c → case_nodes (carried_case f fb true c) ≡ there (case_nodes c)
    case_there (case_item comments patterns body mark) so =
        node_and_row_there (node NodeKind.Item (f mark.mark)) (node NodeKind.Item mark.mark) _ _ refl
        (three_rows_there (map comment_node comments) (patterns_nodes patterns) (entries_nodes body) _ _ _
        (comments_there comments) (patterns_there patterns so.1) (entries_there body so.2))

    patterns_there : (ws : Patterns) → InPatterns Always IsSome ws →
        patterns_nodes (carried_patterns f fb true ws) ≡ there (patterns_nodes ws)
    patterns_there no_pattern so = refl
    patterns_there (more_patterns w ws) so =
        two_rows_there (word_nodes w) _ _ _ (word_nodes_there w so.0) (patterns_there ws so.1)

    items_nodes_there : (is : Items) → InItems Always IsSome is →
        items_nodes (carried_items f fb true is) ≡ there (items_nodes is)
    items_nodes_there no_item so = refl
    items_nodes_there (more_items i is) so =
        two_rows_there (item_nodes i) _ _ _ (item_nodes_there i so.0) (items_nodes_there is so.1)

    item_nodes_there : (i : AnItem) → InItem Always IsSome i →
        item_nodes (carried_item f fb true i) ≡ there (item_nodes i)
    item_nodes_there (item broken (assign (word span substs))) so =
        node_and_row_there (node NodeKind.Assign (f span)) (node NodeKind.Assign span) _ _ refl
        (substs_there substs so.1)
    item_nodes_there (item broken (argument w)) so = word_nodes_there w so
    item_nodes_there (item broken (redirect number operator span w here)) so =
        node_and_row_there (node NodeKind.Redirect
        (through (unwrap_or (option_map f number) (f span)) (word_span (carried_word f fb true w))))
        (node NodeKind.Redirect (through (unwrap_or number span) (word_span w))) _ _
        (ap (λ (s : Span). node NodeKind.Redirect (through s (word_span (carried_word f fb true w))))
        (begin_there number span) ∙ ap
        (λ (s : Span). node NodeKind.Redirect (through (f (unwrap_or number span)) s)) (word_there w))
        (word_nodes_there w so.2)

    word_nodes_there : (w : AWord) → InWord Always IsSome w →
        word_nodes (carried_word f fb true w) ≡ there (word_nodes w)
    word_nodes_there (word span substs) so =
        node_and_row_there (node NodeKind.Word (f span)) (node NodeKind.Word span) _ _ refl (substs_there substs so.1)

    substs_there : (ss : Substs) → InSubsts Always IsSome ss →
        substs_nodes (carried_substs f fb true ss) ≡ there (substs_nodes ss)
    substs_there no_subst so = refl
    substs_there (more_substs s ss) so =
        two_rows_there (subst_nodes s) _ _ _ (subst_there s so.0) (substs_there ss so.1)

    subst_there : (s : ASubst) → InSubst Always IsSome s →
        subst_nodes (carried_subst f fb true s) ≡ there (subst_nodes s)
    subst_there (subst entries span) so =
        node_and_row_there (node NodeKind.Subst (f span)) (node NodeKind.Subst span) _ _ refl
        (entries_there entries so.0)

-- the nodes of a list at a base are its nodes, moved there
pub nodes_moved : (base : ℕ) (es : Entries) → HaveItems es →
    entries_nodes (moved base es) ≡ map (placed base) (entries_nodes es)
nodes_moved base es so = entries_there base es so

-- ---- what is asked for

-- what is moved by b and then by a is moved by b + a: a name, a node and nodes
name_again : (a b : ℕ) (name : Option Span) →
    option_map (placed_span a) (option_map (placed_span b) name) ≡ option_map (placed_span (b + a)) name
name_again a b None = refl
name_again a b (Some s) =
    let one : a + (b + s.start) ≡ b + a + s.start = omega arith in
    let two : a + (b + s.«end») ≡ b + a + s.«end» = omega arith in
    rw (one, two) refl

one_again : (a b : ℕ) (n : NodeLine) → placed a (placed b n) ≡ placed (b + a) n
one_again a b n =
    let one : a + (b + n.start) ≡ b + a + n.start = omega arith in
    let two : a + (b + n.«end») ≡ b + a + n.«end» = omega arith in
    rw (one, two, name_again a b n.name) refl

placed_again : (a b : ℕ) (ns : Row NodeLine) → map (placed a) (map (placed b) ns) ≡ map (placed (b + a)) ns
placed_again a b [] = refl
placed_again a b (n ∷ ns) = rw (placed_again a b ns) (ap (λ m. m ∷ map (placed (b + a)) ns) (one_again a b n))

-- so a list that was moved has, in order, the nodes that it has at the sum of both bases
nodes_of_moved : (more base : ℕ) (es : Entries) → HaveItems es →
    nodes_of more (moved base es) ≡ nodes_of (base + more) es
nodes_of_moved more base es so = rw (nodes_moved base es so, placed_again more base (entries_nodes es)) refl

-- and so it is of its outline, and of its nodes at an offset
pub outline_moved : (base more : ℕ) (es : Entries) → HaveItems es →
    outline more (moved base es) ≡ outline (base + more) es
outline_moved base more es so = ap (filter in_outline) (nodes_of_moved more base es so)

pub nodes_at_moved : (base more at : ℕ) (es : Entries) → HaveItems es →
    nodes_at more at (moved base es) ≡ nodes_at (base + more) at es
nodes_at_moved base more at es so = ap (filter (holds at)) (nodes_of_moved more base es so)

-- ---- a limit

-- what is within a limit is within base + limit once it is moved: a name, a node, and a list
name_up : (limit base : ℕ) (name : Option Span) → MatchOption name (Unit {0}) (IsSpanWithin limit) →
    MatchOption (option_map (placed_span base) name) (Unit {0}) (IsSpanWithin (base + limit))
name_up limit base None so = tt
name_up limit base (Some s) so = (omega (arith, so.0), omega (arith, so.1))

node_up : (limit base : ℕ) (n : NodeLine) → IsWithin limit n → IsWithin (base + limit) (placed base n)
node_up limit base n so = record {
  start = omega (arith, so.start);
  «end» = omega (arith, so.«end»);
  name = name_up limit base n.name so.name;
}

pub within_moved : (limit base : ℕ) (es : Entries) → HaveItems es → NodesWithin limit es →
    NodesWithin (base + limit) (moved base es)
within_moved limit base es some so =
    All-same (IsWithin (base + limit)) _ _ (nodes_moved base es some)
    (All-map (IsWithin (base + limit)) (placed base) (entries_nodes es)
    (All-weaker (IsWithin limit) (λ n. IsWithin (base + limit) (placed base n)) (λ n. node_up limit base n)
    (entries_nodes es) so))
