-- How far the offsets go that a tree names: its parts one by one.
use Rattle.std.proofs.Common.{◌≡◌, ℕ, ◌≤◌, Bool, List as Row, [], ◌∷◌, ◌++◌, map, Option, Some, None, arith, append_assoc, append-nil, ap, refl, sym}
use Rattle.std.specs.Prelude.{All, MatchOption, unwrap_or}
use Rattle.std.specs.Option.{option_to_list}
use Rattle.std.proofs.lemmas.List.Elements.{All-nil, All-cons, All-head, All-tail, All-append, All-same, All-map, All-weaker}
use Rattle.shast.specs.declared.node.NodeKind.{NodeKind}
use Rattle.shast.specs.declared.node.NodeLine.{NodeLine}
use Rattle.shast.specs.declared.tree.RedirectOperator.{RedirectOperator}
use Rattle.shast.specs.declared.tree.Span.{Span}
use Rattle.shast.specs.Nodes.{word_nodes, NodesWithin, IsSpanWithin, IsWithin, and_or_nodes, and_or_parts_nodes, and_or_span, branch_nodes, branches_nodes, command_nodes, command_span, comment_node, entries_nodes, entry_nodes, form_node, form_nodes, item_nodes, item_span, items_nodes, items_span, last_command, last_item, last_pipeline, node, pipeline_nodes, pipeline_span, pipes_nodes, subst_nodes, substs_nodes, compound_nodes, compound_span, through, case_nodes, cases_nodes, patterns_nodes, commands_end}
use Rattle.shast.specs.Tree.{ACaseMark, AHere, ABranch, ACommand, AForm, APipeline, APipelinePart, ASubst, AWord, AnAndOr, AnAndOrPart, AnEntry, AnItem, Entries, and_or, and_or_parts_of, argument, assign, brace, branches_of, case_in, command, compound, entries_of, entry, for_in, formed, if_then, item, items_of, pipeline, pipeline_parts_of, redirect, remark, simple, subshell, subst, substs_of, until_do, while_do, word, ACompound, function, ACaseItem, case_item, cases_of, patterns_of, more_and_or, more_pipes, no_and_or, no_pipe}

-- the nodes of two rows of entries are those of the one and then those of the other
nodes_append : (es ls : Row AnEntry) →
    entries_nodes (entries_of (es ++ ls)) ≡ entries_nodes (entries_of es) ++ entries_nodes (entries_of ls)
nodes_append [] ls = refl
nodes_append (e ∷ es) ls = rw (nodes_append es ls) (sym (append_assoc (entry_nodes e) _ _))

module _ (limit : ℕ) where
  -- no node of these names an offset above the limit
  abbrev pub Nodes : Row NodeLine → Type 0
  Nodes ns = All (IsWithin limit) ns

  -- ---- a part of a tree, by where it stands and by its nodes

  -- for each kind of part: no offset of where it stands, and none of its nodes, is above the limit
  abbrev pub CommentFits : Span → Type 0
  CommentFits c = IsSpanWithin limit c

  abbrev pub SubstFits : ASubst → Type 0
  SubstFits s = Nodes (subst_nodes s)

  abbrev pub WordFits : AWord → Type 0
  WordFits (word s ss) = IsSpanWithin limit s × Nodes (substs_nodes ss)

  abbrev pub ItemFits : AnItem → Type 0
  ItemFits i = IsSpanWithin limit (item_span i) × Nodes (item_nodes i)

  abbrev pub CommandFits : ACommand → Type 0
  CommandFits c = IsSpanWithin limit (command_span c) × Nodes (command_nodes c)

  abbrev pub PipelineFits : APipeline → Type 0
  PipelineFits p = IsSpanWithin limit (pipeline_span p) × Nodes (pipeline_nodes p)

  -- the operator of a pipeline, or of an and-or list, with its operand
  abbrev pub PipeFits : APipelinePart → Type 0
  PipeFits p = All CommentFits p.join.comments × CommandFits p.command

  abbrev pub PartFits : AnAndOrPart → Type 0
  PartFits p = All CommentFits p.join.comments × PipelineFits p.pipeline

  abbrev pub EntryFits : AnEntry → Type 0
  EntryFits e = Nodes (entry_nodes e)

  abbrev pub BranchFits : ABranch → Type 0
  BranchFits b = Nodes (branch_nodes b)

  -- ---- nodes

  -- a node without a name fits where its span does
  fits_node : (kind : NodeKind) (s : Span) → IsSpanWithin limit s → IsWithin limit (node kind s)
  fits_node kind s so = record { start = so.0; «end» = so.1; name = tt }

  -- nodes fit with one more that does
  first : (n : NodeLine) (ns : Row NodeLine) → IsWithin limit n → Nodes ns → Nodes (n ∷ ns)
  first n ns one rest = All-cons (IsWithin limit) n ns one rest

  -- the nodes of comments fit where the comments do
  fits_comments : (cs : Row Span) → All CommentFits cs → Nodes (map comment_node cs)
  fits_comments cs so = All-map (IsWithin limit) comment_node cs
      (All-weaker CommentFits (λ c. IsWithin limit (comment_node c)) (λ c. fits_node NodeKind.Comment c) cs so)

  fits_comment : (c : Option Span) → MatchOption c (Unit {0}) CommentFits → Nodes (map comment_node (option_to_list c))
  fits_comment None so = All-nil (IsWithin limit)
  fits_comment (Some c) so = first (comment_node c) [] (fits_node NodeKind.Comment c so) (All-nil (IsWithin limit))

  -- ---- rows of parts

  -- the nodes of two rows fit where those of each do
  pub fits_both : (ms ns : Row NodeLine) → Nodes ms → Nodes ns → Nodes (ms ++ ns)
  fits_both ms ns one two = All-append (IsWithin limit) ms ns one two

  -- for each kind of part: the nodes of a row fit where each part of it does
  pub fits_substs : (ss : Row ASubst) → All SubstFits ss → Nodes (substs_nodes (substs_of ss))
  fits_substs [] so = All-nil (IsWithin limit)
  fits_substs (s ∷ ss) so = fits_both (subst_nodes s) (substs_nodes (substs_of ss)) (All-head SubstFits s ss so)
      (fits_substs ss (All-tail SubstFits s ss so))

  pub fits_items : (is : Row AnItem) → All ItemFits is → Nodes (items_nodes (items_of is))
  fits_items [] so = All-nil (IsWithin limit)
  fits_items (i ∷ is) so = fits_both (item_nodes i) (items_nodes (items_of is)) (All-head ItemFits i is so).1
      (fits_items is (All-tail ItemFits i is so))

  fits_pipes : (ps : Row APipelinePart) → All PipeFits ps → Nodes (pipes_nodes (pipeline_parts_of ps))
  fits_pipes [] so = All-nil (IsWithin limit)
  fits_pipes (p ∷ ps) so =
      let one = All-head PipeFits p ps so in
      fits_both (map comment_node p.join.comments ++ command_nodes p.command) _
      (fits_both _ (command_nodes p.command) (fits_comments p.join.comments one.0) one.1.1)
      (fits_pipes ps (All-tail PipeFits p ps so))

  fits_parts : (ps : Row AnAndOrPart) → All PartFits ps → Nodes (and_or_parts_nodes (and_or_parts_of ps))
  fits_parts [] so = All-nil (IsWithin limit)
  fits_parts (p ∷ ps) so =
      let one = All-head PartFits p ps so in
      fits_both (map comment_node p.join.comments ++ pipeline_nodes p.pipeline) _
      (fits_both _ (pipeline_nodes p.pipeline) (fits_comments p.join.comments one.0) one.1.1)
      (fits_parts ps (All-tail PartFits p ps so))

  pub fits_entries : (es : Row AnEntry) → All EntryFits es → NodesWithin limit (entries_of es)
  fits_entries [] so = All-nil (IsWithin limit)
  fits_entries (e ∷ es) so = fits_both (entry_nodes e) (entries_nodes (entries_of es)) (All-head EntryFits e es so)
      (fits_entries es (All-tail EntryFits e es so))

  pub fits_branches : (bs : Row ABranch) → All BranchFits bs → Nodes (branches_nodes (branches_of bs))
  fits_branches [] so = All-nil (IsWithin limit)
  fits_branches (b ∷ bs) so = fits_both (branch_nodes b) (branches_nodes (branches_of bs)) (All-head BranchFits b bs so)
      (fits_branches bs (All-tail BranchFits b bs so))

  -- ---- where the last of a row stands

  -- for each kind of part: the last of a row fits, or what stands before it
  last_item_fits : (before : Span) (is : Row AnItem) → IsSpanWithin limit before → All ItemFits is →
      IsSpanWithin limit (last_item before (items_of is))
  last_item_fits before [] so all = so
  last_item_fits before (i ∷ is) so all =
      last_item_fits (item_span i) is (All-head ItemFits i is all).0 (All-tail ItemFits i is all)

  last_command_fits : (before : Span) (ps : Row APipelinePart) → IsSpanWithin limit before → All PipeFits ps →
      IsSpanWithin limit (last_command before (pipeline_parts_of ps))
  last_command_fits before [] so all = so
  last_command_fits before (p ∷ ps) so all =
      last_command_fits (command_span p.command) ps (All-head PipeFits p ps all).1.0 (All-tail PipeFits p ps all)

  last_pipeline_fits : (before : Span) (ps : Row AnAndOrPart) → IsSpanWithin limit before → All PartFits ps →
      IsSpanWithin limit (last_pipeline before (and_or_parts_of ps))
  last_pipeline_fits before [] so all = so
  last_pipeline_fits before (p ∷ ps) so all =
      last_pipeline_fits (pipeline_span p.pipeline) ps (All-head PartFits p ps all).1.0 (All-tail PartFits p ps all)

  -- so where the items of a simple command stand fits
  items_span_fits : (is : Row AnItem) → All ItemFits is → IsSpanWithin limit (items_span (items_of is))
  items_span_fits [] all = (omega arith, omega arith)
  items_span_fits (i ∷ is) all =
      let one = (All-head ItemFits i is all).0 in
      (one.0, (last_item_fits (item_span i) is one (All-tail ItemFits i is all)).1)

  -- ---- each kind of part

  -- each kind of part fits where what it is made of does
  pub fits_assign : (broken : Bool) (w : AWord) → WordFits w → ItemFits (item broken (assign w))
  fits_assign broken (word s ss) so =
      (so.0, first (node NodeKind.Assign s) (substs_nodes ss) (fits_node NodeKind.Assign s so.0) so.1)

  pub fits_argument : (broken : Bool) (w : AWord) → WordFits w → ItemFits (item broken (argument w))
  fits_argument broken (word s ss) so =
      (so.0, first (node NodeKind.Word s) (substs_nodes ss) (fits_node NodeKind.Word s so.0) so.1)

  pub fits_word : (w : AWord) → WordFits w → Nodes (word_nodes w)
  fits_word (word s ss) so = first (node NodeKind.Word s) (substs_nodes ss) (fits_node NodeKind.Word s so.0) so.1

  pub fits_subst : (es : Entries) (s : Span) → IsSpanWithin limit s → NodesWithin limit es → SubstFits (subst es s)
  fits_subst es s one all = first (node NodeKind.Subst s) (entries_nodes es) (fits_node NodeKind.Subst s one) all

  pub fits_simple : (is : Row AnItem) → All ItemFits is → CommandFits (simple (items_of is))
  fits_simple is all =
      let span = items_span_fits is all in (
        span,
        first (node NodeKind.Simple (items_span (items_of is))) _ (fits_node NodeKind.Simple _ span)
            (fits_items is all),
      )

  -- what may begin at a span before its own fits where both do
  begin_fits : (begin : Option Span) (s : Span) → MatchOption begin (Unit {0}) (IsSpanWithin limit) →
      IsSpanWithin limit s → IsSpanWithin limit (unwrap_or begin s)
  begin_fits None s none so = so
  begin_fits (Some b) s one so = one

  -- so does a redirection
  pub fits_redirect : (broken : Bool) (number : Option Span) (o : RedirectOperator) (s : Span) (w : AWord)
      (h : Option AHere) → MatchOption number (Unit {0}) (IsSpanWithin limit) → IsSpanWithin limit s → WordFits w
      → ItemFits (item broken (redirect number o s w h))
  fits_redirect broken number o s (word z zs) h one two so =
      let span : IsSpanWithin limit (through (unwrap_or number s) z) = ((begin_fits number s one two).0, so.0.1) in (
        span,
        first (node NodeKind.Redirect (through (unwrap_or number s) z)) (word_nodes (word z zs))
            (fits_node NodeKind.Redirect _ span) (fits_word (word z zs) so),
      )

  -- a for has the name of its variable
  fits_form_node : (f : AForm) (s : Span) → IsSpanWithin limit s → Nodes (form_nodes f) → IsWithin limit (form_node f s)
  fits_form_node (brace es) s so all = fits_node NodeKind.Brace s so
  fits_form_node (subshell es) s so all = fits_node NodeKind.Subshell s so
  fits_form_node (if_then one rest other) s so all = fits_node NodeKind.If s so
  fits_form_node (while_do b) s so all = fits_node NodeKind.While s so
  fits_form_node (until_do b) s so all = fits_node NodeKind.Until s so
  fits_form_node (for_in (word name substs) words body) s so all =
      let one = All-head (IsWithin limit) (node NodeKind.Word name) _ all in
      record { start = so.0; «end» = so.1; name = (one.start, one.«end») }
  fits_form_node (case_in w items tail) s so all = fits_node NodeKind.Case s so

  pub fits_compound : (f : AForm) (s : Span) (is : Row AnItem) → IsSpanWithin limit s → Nodes (form_nodes f) →
      All ItemFits is → CommandFits (compound (formed f s (items_of is)))
  fits_compound f s is so all items =
      let last = last_item_fits s is so items in (
        (so.0, last.1),
        first _ _ (fits_form_node f _ (so.0, last.1) all)
            (fits_both (form_nodes f) (items_nodes (items_of is)) all (fits_items is items)),
      )

  pub fits_function : (name : Span) (cs : Row Span) (body : ACompound) → IsSpanWithin limit name → All CommentFits cs →
      CommandFits (compound body) → CommandFits (function name cs body)
  fits_function name cs body one all so =
      let span : IsSpanWithin limit (through name (compound_span body)) = (one.0, so.0.1) in (
        span,
        first _ _ (record { start = span.0; «end» = span.1; name = one })
            (fits_both (map comment_node cs) (compound_nodes body) (fits_comments cs all) so.1),
      )

  pipeline_span_fits : (bang : Option Span) (c : ACommand) (ps : Row APipelinePart) →
      MatchOption bang (Unit {0}) (IsSpanWithin limit) → IsSpanWithin limit (command_span c) → All PipeFits ps
      → IsSpanWithin limit (pipeline_span (pipeline bang c (pipeline_parts_of ps)))
  pipeline_span_fits bang c ps one so all =
      ((begin_fits bang (command_span c) one so).0, (last_command_fits (command_span c) ps so all).1)

  pub fits_pipeline : (bang : Option Span) (c : ACommand) (ps : Row APipelinePart) →
      MatchOption bang (Unit {0}) (IsSpanWithin limit) → CommandFits c → All PipeFits ps
      → PipelineFits (pipeline bang c (pipeline_parts_of ps))
  fits_pipeline None c [] one so all = (so.0, fits_both (command_nodes c) [] so.1 (All-nil (IsWithin limit)))
  fits_pipeline None c (p ∷ ps) one so all =
      let span = pipeline_span_fits None c (p ∷ ps) one so.0 all in (
        span,
        first _ _ (fits_node NodeKind.Pipeline _ span)
            (fits_both (command_nodes c) _ so.1 (fits_pipes (p ∷ ps) all)),
      )
  fits_pipeline (Some b) c ps one so all =
      let span = pipeline_span_fits (Some b) c ps one so.0 all in
      (span, first _ _ (fits_node NodeKind.Pipeline _ span) (fits_both (command_nodes c) _ so.1 (fits_pipes ps all)))

  pub fits_and_or : (p : APipeline) (ps : Row AnAndOrPart) → PipelineFits p → All PartFits ps →
      Nodes (and_or_nodes (and_or p (and_or_parts_of ps)))
  fits_and_or p [] so all = fits_both (pipeline_nodes p) [] so.1 (All-nil (IsWithin limit))
  fits_and_or p (q ∷ ps) so all =
      let last = last_pipeline_fits (pipeline_span p) (q ∷ ps) so.0 all in
      first _ _ (fits_node NodeKind.AndOr (and_or_span (and_or p (and_or_parts_of (q ∷ ps)))) (so.0.0, last.1))
      (fits_both (pipeline_nodes p) _ so.1 (fits_parts (q ∷ ps) all))

  pub fits_command : (a : AnAndOr) (background blank : Bool) (c : Option Span) → Nodes (and_or_nodes a) →
      MatchOption c (Unit {0}) CommentFits → EntryFits (entry (command a) background blank c)
  fits_command a background blank c so one =
      fits_both (and_or_nodes a) (map comment_node (option_to_list c)) so (fits_comment c one)

  pub fits_remark : (c : Span) (background blank : Bool) → CommentFits c →
      EntryFits (entry (remark c) background blank None)
  fits_remark c background blank so =
      first (comment_node c) [] (fits_node NodeKind.Comment c so) (All-nil (IsWithin limit))

  -- ---- items of a case

  -- no node of an item names an offset above the limit
  abbrev pub CaseFits : ACaseItem → Type 0
  CaseFits c = Nodes (case_nodes c)

  -- patterns, an item, items and a `case` fit where what they are made of does
  fits_patterns : (ws : Row AWord) → All WordFits ws → Nodes (patterns_nodes (patterns_of ws))
  fits_patterns [] so = All-nil (IsWithin limit)
  fits_patterns (w ∷ ws) so = fits_both (word_nodes w) (patterns_nodes (patterns_of ws))
      (fits_word w (All-head WordFits w ws so)) (fits_patterns ws (All-tail WordFits w ws so))

  pub fits_case : (cs : Row Span) (ws : Row AWord) (es : Entries) (s : ACaseMark) → All CommentFits cs → All WordFits ws
      → NodesWithin limit es → IsSpanWithin limit s.mark
      → CaseFits (case_item cs (patterns_of ws) es s)
  fits_case cs ws es s comments patterns body span =
      first (node NodeKind.Item s.mark) _ (fits_node NodeKind.Item s.mark span)
      (fits_both (map comment_node cs ++ patterns_nodes (patterns_of ws)) (entries_nodes es)
      (fits_both (map comment_node cs) _ (fits_comments cs comments) (fits_patterns ws patterns)) body)

  fits_cases : (cs : Row ACaseItem) → All CaseFits cs → Nodes (cases_nodes (cases_of cs))
  fits_cases [] so = All-nil (IsWithin limit)
  fits_cases (c ∷ cs) so = fits_both (case_nodes c) (cases_nodes (cases_of cs)) (All-head CaseFits c cs so)
      (fits_cases cs (All-tail CaseFits c cs so))

  pub fits_case_in : (w : AWord) (cs : Row ACaseItem) (tail : Row Span) → WordFits w → All CaseFits cs →
      All CommentFits tail → Nodes (form_nodes (case_in w (cases_of cs) tail))
  fits_case_in w cs tail one items comments =
      fits_both (word_nodes w ++ cases_nodes (cases_of cs)) (map comment_node tail)
      (fits_both (word_nodes w) _ (fits_word w one) (fits_cases cs items)) (fits_comments tail comments)

  -- ---- where the last command of a list ends

  -- the first of nodes that fit ends within the limit
  head_of : (n : NodeLine) (ns : Row NodeLine) → Nodes (n ∷ ns) → n.«end» ≤ limit
  head_of n ns so = (All-head (IsWithin limit) n ns so).«end»

  -- so ends what the first of them stands for: a compound command, a command, a pipeline or an and-or list
  form_end : (f : AForm) (s : Span) (ns : Row NodeLine) → Nodes (form_node f s ∷ ns) → s.«end» ≤ limit
  form_end (brace es) s ns so = head_of _ ns so
  form_end (subshell es) s ns so = head_of _ ns so
  form_end (if_then one rest other) s ns so = head_of _ ns so
  form_end (while_do b) s ns so = head_of _ ns so
  form_end (until_do b) s ns so = head_of _ ns so
  form_end (for_in name words body) s ns so = head_of _ ns so
  form_end (case_in w items tail) s ns so = head_of _ ns so

  command_end_fits : (c : ACommand) (ns : Row NodeLine) → Nodes (command_nodes c ++ ns) → (command_span c).«end» ≤ limit
  command_end_fits (simple items) ns so = head_of _ _ so
  command_end_fits (compound (formed form span redirects)) ns so = form_end form _ _ so
  command_end_fits (function name comments body) ns so = head_of _ _ so

  pipeline_end_fits : (p : APipeline) (ns : Row NodeLine) → Nodes (pipeline_nodes p ++ ns) →
      (pipeline_span p).«end» ≤ limit
  pipeline_end_fits (pipeline None c no_pipe) ns so =
      command_end_fits c ns (All-same (IsWithin limit) _ _ (sym (ap (λ z. z ++ ns) (append-nil (command_nodes c)))) so)
  pipeline_end_fits (pipeline None c (more_pipes j d ps)) ns so = head_of _ _ so
  pipeline_end_fits (pipeline (Some b) c ps) ns so = head_of _ _ so

  and_or_end_fits : (a : AnAndOr) (ns : Row NodeLine) → Nodes (and_or_nodes a ++ ns) → (and_or_span a).«end» ≤ limit
  and_or_end_fits (and_or p no_and_or) ns so =
      pipeline_end_fits p ns (All-same (IsWithin limit) _ _
      (sym (ap (λ z. z ++ ns) (append-nil (pipeline_nodes p)))) so)
  and_or_end_fits (and_or p (more_and_or o j q ps)) ns so = head_of _ _ so

  -- and so does the last and-or list of entries that fit
  pub fits_end : (before : ℕ) (es : Row AnEntry) → before ≤ limit → All EntryFits es →
      commands_end before (entries_of es) ≤ limit
  fits_end before [] low so = low
  fits_end before (entry (command a) background blank comment ∷ es) low so =
      fits_end (and_or_span a).«end» es (and_or_end_fits a _ (All-head EntryFits _ es so)) (All-tail EntryFits _ es so)
  fits_end before (entry (remark c) background blank comment ∷ es) low so =
      fits_end before es low (All-tail EntryFits _ es so)

  -- ---- two rows of entries, one after the other

  -- two rows fit where each does
  pub within_append : (es ls : Row AnEntry) → NodesWithin limit (entries_of es) → NodesWithin limit (entries_of ls) →
      NodesWithin limit (entries_of (es ++ ls))
  within_append es ls one two =
      All-same (IsWithin limit) _ _ (nodes_append es ls) (fits_both (entries_nodes (entries_of es)) _ one two)

-- ---- a greater limit

-- what fits a limit fits a greater one: a span, a name, a node and nodes
pub span_fits_more : (limit more : ℕ) → limit ≤ more → (s : Span) → IsSpanWithin limit s → IsSpanWithin more s
span_fits_more limit more le s so = (omega (arith, le, so.0), omega (arith, le, so.1))

name_fits_more : (limit more : ℕ) → limit ≤ more → (name : Option Span) →
    MatchOption name (Unit {0}) (IsSpanWithin limit) → MatchOption name (Unit {0}) (IsSpanWithin more)
name_fits_more limit more le None so = tt
name_fits_more limit more le (Some s) so = span_fits_more limit more le s so

fits_more : (limit more : ℕ) → limit ≤ more → (n : NodeLine) → IsWithin limit n → IsWithin more n
fits_more limit more le n so =
    record {
      start = omega (arith, le, so.start);
      «end» = omega (arith, le, so.«end»);
      name = name_fits_more limit more le n.name so.name;
    }

pub within_more : (limit more : ℕ) (ns : Row NodeLine) → limit ≤ more → All (IsWithin limit) ns → All (IsWithin more) ns
within_more limit more ns le so = All-weaker (IsWithin limit) (IsWithin more) (fits_more limit more le) ns so
