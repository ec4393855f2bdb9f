-- The nodes of a tree begin where spans of it begin: what holds of the start of each
-- span holds of that of each node.
use Rattle.std.proofs.Common.{ℕ, List as Row, [], ◌∷◌, ◌++◌, map, Option, Some, None}
use Rattle.std.specs.Prelude.{All, unwrap_or}
use Rattle.std.specs.Option.{option_to_list}
use Rattle.std.proofs.lemmas.List.Elements.{All-append, All-cons, All-nil}
use Rattle.shast.specs.declared.node.NodeLine.{NodeLine}
use Rattle.shast.specs.declared.tree.Span.{Span}
use Rattle.shast.specs.Tree.{Entries, no_entry, more_entries, AnEntry, entry, AContent, command, remark, AnAndOr, and_or, AndOrParts, no_and_or, more_and_or, APipeline, pipeline, PipelineParts, no_pipe, more_pipes, ACommand, simple, compound, function, ACompound, formed, AForm, brace, subshell, if_then, while_do, until_do, for_in, case_in, ABranch, branch, Branches, no_branch, more_branches, Otherwise, no_else, otherwise, ForWords, no_in, in_words, CaseItems, no_case, more_cases, ACaseItem, case_item, Patterns, no_pattern, more_patterns, Items, no_item, more_items, AnItem, item, assign, argument, redirect, AWord, word, Substs, no_subst, more_substs, ASubst, subst}
use Rattle.shast.specs.Nodes.{and_or_node, and_or_nodes, and_or_parts_nodes, and_or_span, branch_nodes, branches_nodes, case_nodes, cases_nodes, command_nodes, command_span, comment_node, compound_nodes, compound_span, content_nodes, else_nodes, entries_nodes, entry_nodes, for_words_nodes, form_node, form_nodes, item_nodes, item_span, items_nodes, items_span, patterns_nodes, pipeline_node, pipeline_nodes, pipeline_span, pipes_nodes, subst_nodes, substs_nodes, word_nodes, word_span}
use Rattle.shast.specs.Everywhere.{IsSome, OfEach, OfSome, InEntry, InContent, InAndOr, InAndOrParts, InPipeline, InPipes, InCommand, InCompound, InForm, InBranch, InBranches, InElse, InForWords, InCases, InCase, InPatterns, InItems, InItem, InWord, InSubsts, InSubst, Throughout}

module _ (S : ℕ → Type 0) where
  -- what is said of the start of a span, of a node, and of each node of a row
  abbrev P : Span → Type 0
  P s = S s.start

  abbrev OfNode : NodeLine → Type 0
  OfNode n = S n.start

  abbrev N : Row NodeLine → Type 0
  N ns = All OfNode ns

  -- it is so of no nodes, of one more, and of two or three rows together
  no_nodes_begin : N []
  no_nodes_begin = All-nil OfNode

  one_more_begins : (n : NodeLine) (ns : Row NodeLine) → S n.start → N ns → N (n ∷ ns)
  one_more_begins n ns one rest = All-cons OfNode n ns one rest

  two_rows_begin : (ms ns : Row NodeLine) → N ms → N ns → N (ms ++ ns)
  two_rows_begin ms ns one two = All-append OfNode ms ns one two

  three_rows_begin : (ls ms ns : Row NodeLine) → N ls → N ms → N ns → N (ls ++ ms ++ ns)
  three_rows_begin ls ms ns one two rest = two_rows_begin (ls ++ ms) ns (two_rows_begin ls ms one two) rest

  -- ---- where a part begins

  -- what may begin at a span before its own begins so where both do
  begins : (begin : Option Span) (s : Span) → OfSome P begin → P s → P (unwrap_or begin s)
  begins None s so one = one
  begins (Some b) s so one = so

  -- each kind of part begins so where its spans do
  word_begins : (w : AWord) → InWord P IsSome w → P (word_span w)
  word_begins (word span substs) so = so.0

  item_begins : (i : AnItem) → InItem P IsSome i → P (item_span i)
  item_begins (item broken (assign w)) so = word_begins w so
  item_begins (item broken (argument w)) so = word_begins w so
  item_begins (item broken (redirect number operator span w here)) so = begins number span so.0 so.1

  items_begin : (is : Items) → IsSome is → InItems P IsSome is → P (items_span is)
  items_begin no_item some so = absurd some
  items_begin (more_items i is) some so = item_begins i so.0

  compound_begins : (c : ACompound) → InCompound P IsSome c → P (compound_span c)
  compound_begins (formed form span redirects) so = so.1

  command_begins : (c : ACommand) → InCommand P IsSome c → P (command_span c)
  command_begins (simple items) so = items_begin items so.0 so.1
  command_begins (compound c) so = compound_begins c so
  command_begins (function name comments body) so = so.0

  pipeline_begins : (p : APipeline) → InPipeline P IsSome p → P (pipeline_span p)
  pipeline_begins (pipeline bang one rest) so = begins bang (command_span one) so.0 (command_begins one so.1)

  and_or_begins : (a : AnAndOr) → InAndOr P IsSome a → P (and_or_span a)
  and_or_begins (and_or one rest) so = pipeline_begins one so.0

  -- ---- nodes

  -- so do the nodes of comments, and the nodes that parts themselves are
  comments_begin : (cs : Row Span) → OfEach P cs → N (map comment_node cs)
  comments_begin [] so = no_nodes_begin
  comments_begin (c ∷ cs) so = one_more_begins (comment_node c) (map comment_node cs) so.0 (comments_begin cs so.1)

  comment_begins : (c : Option Span) → OfSome P c → N (map comment_node (option_to_list c))
  comment_begins None so = no_nodes_begin
  comment_begins (Some c) so = one_more_begins (comment_node c) [] so no_nodes_begin

  form_begins : (m : AForm) (s : Span) → P s → S (form_node m s).start
  form_begins (brace es) s so = so
  form_begins (subshell es) s so = so
  form_begins (if_then one rest other) s so = so
  form_begins (while_do c) s so = so
  form_begins (until_do c) s so = so
  form_begins (for_in (word name substs) words body) s so = so
  form_begins (case_in w items tail) s so = so

  and_or_node_begins : (a : AnAndOr) → InAndOr P IsSome a → N (and_or_node a)
  and_or_node_begins (and_or one no_and_or) so = no_nodes_begin
  and_or_node_begins (and_or one (more_and_or operator join p ps)) so =
      one_more_begins _ [] (and_or_begins (and_or one (more_and_or operator join p ps)) so) no_nodes_begin

  pipeline_node_begins : (p : APipeline) → InPipeline P IsSome p → N (pipeline_node p)
  pipeline_node_begins (pipeline None one no_pipe) so = no_nodes_begin
  pipeline_node_begins (pipeline None one (more_pipes join c cs)) so =
      one_more_begins _ [] (pipeline_begins (pipeline None one (more_pipes join c cs)) so) no_nodes_begin
  pipeline_node_begins (pipeline (Some bang) one rest) so =
      one_more_begins _ [] (pipeline_begins (pipeline (Some bang) one rest) so) no_nodes_begin

  mutual
    -- for each kind of part: so do all of its nodes
    pub nodes_begin : (es : Entries) → Throughout P IsSome es → N (entries_nodes es)
    nodes_begin no_entry so = no_nodes_begin
    nodes_begin (more_entries e es) so =
        two_rows_begin (entry_nodes e) (entries_nodes es) (entry_nodes_begin e so.0) (nodes_begin es so.1)

    entry_nodes_begin : (e : AnEntry) → InEntry P IsSome e → N (entry_nodes e)
    entry_nodes_begin (entry what background blank comment) so =
        two_rows_begin (content_nodes what) _ (content_nodes_begin what so.0) (comment_begins comment so.1)

    content_nodes_begin : (c : AContent) → InContent P IsSome c → N (content_nodes c)
    content_nodes_begin (command a) so = and_or_nodes_begin a so
    content_nodes_begin (remark c) so = one_more_begins (comment_node c) [] so no_nodes_begin

    and_or_nodes_begin : (a : AnAndOr) → InAndOr P IsSome a → N (and_or_nodes a)
    and_or_nodes_begin (and_or one rest) so =
        three_rows_begin (and_or_node (and_or one rest)) (pipeline_nodes one) (and_or_parts_nodes rest)
        (and_or_node_begins (and_or one rest) so) (pipeline_nodes_begin one so.0) (parts_nodes_begin rest so.1)

    parts_nodes_begin : (ps : AndOrParts) → InAndOrParts P IsSome ps → N (and_or_parts_nodes ps)
    parts_nodes_begin no_and_or so = no_nodes_begin
    parts_nodes_begin (more_and_or operator join p ps) so =
        three_rows_begin (map comment_node join.comments) (pipeline_nodes p) (and_or_parts_nodes ps)
        (comments_begin join.comments so.0) (pipeline_nodes_begin p so.1) (parts_nodes_begin ps so.2)

    pipeline_nodes_begin : (p : APipeline) → InPipeline P IsSome p → N (pipeline_nodes p)
    pipeline_nodes_begin (pipeline bang one rest) so =
        three_rows_begin (pipeline_node (pipeline bang one rest)) (command_nodes one) (pipes_nodes rest)
        (pipeline_node_begins (pipeline bang one rest) so) (command_nodes_begin one so.1)
        (pipes_nodes_begin rest so.2)

    pipes_nodes_begin : (cs : PipelineParts) → InPipes P IsSome cs → N (pipes_nodes cs)
    pipes_nodes_begin no_pipe so = no_nodes_begin
    pipes_nodes_begin (more_pipes join c cs) so =
        three_rows_begin (map comment_node join.comments) (command_nodes c) (pipes_nodes cs)
        (comments_begin join.comments so.0)
        (command_nodes_begin c so.1) (pipes_nodes_begin cs so.2)

    command_nodes_begin : (c : ACommand) → InCommand P IsSome c → N (command_nodes c)
    command_nodes_begin (simple items) so =
        one_more_begins _ (items_nodes items) (items_begin items so.0 so.1) (items_nodes_begin items so.1)
    command_nodes_begin (compound c) so = compound_nodes_begin c so
    command_nodes_begin (function name comments body) so =
        one_more_begins _ (map comment_node comments ++ compound_nodes body) so.0
        (two_rows_begin (map comment_node comments) (compound_nodes body) (comments_begin comments so.1)
        (compound_nodes_begin body so.2))

    compound_nodes_begin : (c : ACompound) → InCompound P IsSome c → N (compound_nodes c)
    compound_nodes_begin (formed form span redirects) so =
        one_more_begins _ (form_nodes form ++ items_nodes redirects) (form_begins form _ so.1)
        (two_rows_begin (form_nodes form) (items_nodes redirects) (form_nodes_begin form so.0)
        (items_nodes_begin redirects so.2))

    form_nodes_begin : (m : AForm) → InForm P IsSome m → N (form_nodes m)
    form_nodes_begin (brace es) so = nodes_begin es so
    form_nodes_begin (subshell es) so = nodes_begin es so
    form_nodes_begin (if_then one rest other) so =
        three_rows_begin (branch_nodes one) (branches_nodes rest) (else_nodes other) (branch_nodes_begin one so.0)
        (branches_nodes_begin rest so.1) (else_nodes_begin other so.2)
    form_nodes_begin (while_do c) so = branch_nodes_begin c so
    form_nodes_begin (until_do c) so = branch_nodes_begin c so
    form_nodes_begin (for_in name words body) so =
        three_rows_begin (word_nodes name) (for_words_nodes words) (entries_nodes body) (word_nodes_begin name so.0)
        (for_words_nodes_begin words so.1) (nodes_begin body so.2)
    form_nodes_begin (case_in w cases tail) so =
        three_rows_begin (word_nodes w) (cases_nodes cases) (map comment_node tail) (word_nodes_begin w so.0)
        (cases_nodes_begin cases so.1) (comments_begin tail so.2)

    branch_nodes_begin : (c : ABranch) → InBranch P IsSome c → N (branch_nodes c)
    branch_nodes_begin (branch condition body) so =
        two_rows_begin (entries_nodes condition) (entries_nodes body) (nodes_begin condition so.0)
        (nodes_begin body so.1)

    branches_nodes_begin : (bs : Branches) → InBranches P IsSome bs → N (branches_nodes bs)
    branches_nodes_begin no_branch so = no_nodes_begin
    branches_nodes_begin (more_branches c bs) so =
        two_rows_begin (branch_nodes c) (branches_nodes bs) (branch_nodes_begin c so.0) (branches_nodes_begin bs so.1)

    else_nodes_begin : (o : Otherwise) → InElse P IsSome o → N (else_nodes o)
    else_nodes_begin no_else so = no_nodes_begin
    else_nodes_begin (otherwise es) so = nodes_begin es so

    for_words_nodes_begin : (ws : ForWords) → InForWords P IsSome ws → N (for_words_nodes ws)
    for_words_nodes_begin no_in so = no_nodes_begin
    for_words_nodes_begin (in_words items) so = items_nodes_begin items so

    cases_nodes_begin : (cs : CaseItems) → InCases P IsSome cs → N (cases_nodes cs)
    cases_nodes_begin no_case so = no_nodes_begin
    cases_nodes_begin (more_cases c cs) so =
        two_rows_begin (case_nodes c) (cases_nodes cs) (case_nodes_begin c so.0) (cases_nodes_begin cs so.1)

    case_nodes_begin : (c : ACaseItem) → InCase P IsSome c → N (case_nodes c)
    case_nodes_begin (case_item comments patterns body span) so =
        one_more_begins _ (map comment_node comments ++ patterns_nodes patterns ++ entries_nodes body) so.3
        (three_rows_begin (map comment_node comments) (patterns_nodes patterns) (entries_nodes body)
        (comments_begin comments so.0)
        (patterns_nodes_begin patterns so.1) (nodes_begin body so.2))

    patterns_nodes_begin : (ws : Patterns) → InPatterns P IsSome ws → N (patterns_nodes ws)
    patterns_nodes_begin no_pattern so = no_nodes_begin
    patterns_nodes_begin (more_patterns w ws) so =
        two_rows_begin (word_nodes w) (patterns_nodes ws) (word_nodes_begin w so.0) (patterns_nodes_begin ws so.1)

    items_nodes_begin : (is : Items) → InItems P IsSome is → N (items_nodes is)
    items_nodes_begin no_item so = no_nodes_begin
    items_nodes_begin (more_items i is) so =
        two_rows_begin (item_nodes i) (items_nodes is) (item_nodes_begin i so.0) (items_nodes_begin is so.1)

    item_nodes_begin : (i : AnItem) → InItem P IsSome i → N (item_nodes i)
    item_nodes_begin (item broken (assign (word span substs))) so =
        one_more_begins _ (substs_nodes substs) so.0 (substs_nodes_begin substs so.1)
    item_nodes_begin (item broken (argument w)) so = word_nodes_begin w so
    item_nodes_begin (item broken (redirect number operator span w here)) so =
        one_more_begins _ (word_nodes w) (begins number span so.0 so.1) (word_nodes_begin w so.2)

    word_nodes_begin : (w : AWord) → InWord P IsSome w → N (word_nodes w)
    word_nodes_begin (word span substs) so =
        one_more_begins _ (substs_nodes substs) so.0 (substs_nodes_begin substs so.1)

    substs_nodes_begin : (ss : Substs) → InSubsts P IsSome ss → N (substs_nodes ss)
    substs_nodes_begin no_subst so = no_nodes_begin
    substs_nodes_begin (more_substs s ss) so =
        two_rows_begin (subst_nodes s) (substs_nodes ss) (subst_nodes_begin s so.0) (substs_nodes_begin ss so.1)

    subst_nodes_begin : (s : ASubst) → InSubst P IsSome s → N (subst_nodes s)
    subst_nodes_begin (subst entries span) so =
        one_more_begins _ (entries_nodes entries) so.1 (nodes_begin entries so.0)
