-- The nodes of a script's tree, as an editor asks for them: what stands where in the text.
use Rattle.std.specs.Prelude.{ℕ, ◌+◌, ◌≤◌, Bool, true, false, ◌&&◌, nat_le, nat_lt, List as Row, [], ◌∷◌, ◌++◌, map, filter, All, None, Some, unwrap_or, option_map, MatchOption, if◌then◌else◌}
use Rattle.std.specs.Option.{option_to_list}
use Rattle.std.specs.Ordering.{nat_cmp, ordering_then, is_lt}
use Rattle.std.specs.declared.cmp.Ordering.{Ordering}
use Rattle.shast.specs.declared.tree.Span.{Span}
use Rattle.shast.specs.declared.node.NodeKind.{NodeKind}
use Rattle.shast.specs.declared.node.NodeLine.{NodeLine}
use Rattle.shast.specs.Tree.{Entries, no_entry, more_entries, AnEntry, entry, AContent, command, remark, AnAndOr, and_or, AndOrParts, no_and_or, more_and_or, APipeline, pipeline, PipelineParts, no_pipe, more_pipes, ACommand, simple, compound, function, ACompound, formed, AForm, brace, subshell, if_then, while_do, until_do, for_in, case_in, ABranch, branch, Branches, no_branch, more_branches, Otherwise, no_else, otherwise, ForWords, no_in, in_words, CaseItems, no_case, more_cases, ACaseItem, case_item, Patterns, no_pattern, more_patterns, Items, no_item, more_items, AnItem, item, assign, argument, redirect, AWord, word, Substs, no_subst, more_substs, ASubst, subst}

-- ---- where a part of a script stands

-- from where the one begins to where the other ends
abbrev pub through : Span → Span → Span
through a b = record { start = a.start; «end» = b.«end» }

abbrev pub word_span : AWord → Span
word_span (word span substs) = span

-- a redirection stands from its number, where it has one, to the end of its word
abbrev pub item_span : AnItem → Span
item_span (item broken (assign w)) = word_span w
item_span (item broken (argument w)) = word_span w
item_span (item broken (redirect number operator span w here)) = through (unwrap_or number span) (word_span w)

-- the last of these items; where there is none, what stands before them
abbrev pub last_item : Span → Items → Span
last_item before no_item = before
last_item before (more_items i is) = last_item (item_span i) is

-- from the first item to the last; no items, which no script has, are the empty text at the start
abbrev pub items_span : Items → Span
items_span no_item = record { start = 0; «end» = 0 }
items_span (more_items i is) = through (item_span i) (last_item (item_span i) is)

-- from its opener to its closer, or to the last redirection after that
abbrev pub compound_span : ACompound → Span
compound_span (formed form span redirects) = through span (last_item span redirects)

-- a function stands from its name to the end of its body
abbrev pub command_span : ACommand → Span
command_span (simple items) = items_span items
command_span (compound c) = compound_span c
command_span (function name comments body) = through name (compound_span body)

abbrev pub last_command : Span → PipelineParts → Span
last_command before no_pipe = before
last_command before (more_pipes join c cs) = last_command (command_span c) cs

-- from its `!`, where it has one, to its last command
abbrev pub pipeline_span : APipeline → Span
pipeline_span (pipeline bang first rest) =
    through (unwrap_or bang (command_span first)) (last_command (command_span first) rest)

abbrev pub last_pipeline : Span → AndOrParts → Span
last_pipeline before no_and_or = before
last_pipeline before (more_and_or operator join p ps) = last_pipeline (pipeline_span p) ps

-- from its first pipeline to its last
abbrev pub and_or_span : AnAndOr → Span
and_or_span (and_or first rest) = through (pipeline_span first) (last_pipeline (pipeline_span first) rest)

-- where an and-or list ends, after what ends before it; a comment is none
abbrev pub command_end : ℕ → AContent → ℕ
command_end before (command a) = (and_or_span a).«end»
command_end before (remark c) = before

-- where the last and-or list of these entries ends; where there is none, what stands before them
abbrev pub commands_end : ℕ → Entries → ℕ
commands_end before no_entry = before
commands_end before (more_entries (entry what background blank comment) es) = commands_end (command_end before what) es

-- ---- a node

abbrev pub node : NodeKind → Span → NodeLine
node kind span = record { start = span.start; «end» = span.«end»; kind = kind; name = None }

-- a node that has a name, which stands there
abbrev pub named_node : NodeKind → Span → Span → NodeLine
named_node kind span name = record { start = span.start; «end» = span.«end»; kind = kind; name = Some name }

abbrev pub comment_node : Span → NodeLine
comment_node span = node NodeKind.Comment span

-- an and-or list is a node where an operator joins pipelines
abbrev pub and_or_node : AnAndOr → Row NodeLine
and_or_node (and_or first no_and_or) = []
and_or_node (and_or first (more_and_or operator join p ps)) =
    node NodeKind.AndOr (and_or_span (and_or first (more_and_or operator join p ps))) ∷ []

-- a pipeline is a node where `!` stands before it or `|` joins commands
abbrev pub pipeline_node : APipeline → Row NodeLine
pipeline_node (pipeline None first no_pipe) = []
pipeline_node (pipeline bang first rest) = node NodeKind.Pipeline (pipeline_span (pipeline bang first rest)) ∷ []

-- a compound command; a for has the name of its variable
abbrev pub form_node : AForm → Span → NodeLine
form_node (brace es) span = node NodeKind.Brace span
form_node (subshell es) span = node NodeKind.Subshell span
form_node (if_then first rest other) span = node NodeKind.If span
form_node (while_do b) span = node NodeKind.While span
form_node (until_do b) span = node NodeKind.Until span
form_node (for_in name words body) span = named_node NodeKind.For span (word_span name)
form_node (case_in w items tail) span = node NodeKind.Case span

-- ---- the nodes of each part of a script: itself, and then what it holds from left to right

abbrev mutual
  pub entries_nodes : Entries → Row NodeLine
  entries_nodes no_entry = []
  entries_nodes (more_entries e es) = entry_nodes e ++ entries_nodes es

  -- the comment after a command on its line is no part of the command
  pub entry_nodes : AnEntry → Row NodeLine
  entry_nodes (entry what background blank comment) = content_nodes what ++ map comment_node (option_to_list comment)

  pub content_nodes : AContent → Row NodeLine
  content_nodes (command a) = and_or_nodes a
  content_nodes (remark c) = comment_node c ∷ []

  pub and_or_nodes : AnAndOr → Row NodeLine
  and_or_nodes (and_or first rest) = and_or_node (and_or first rest) ++ pipeline_nodes first ++ and_or_parts_nodes rest

  -- comments between two operands stand before the second
  pub and_or_parts_nodes : AndOrParts → Row NodeLine
  and_or_parts_nodes no_and_or = []
  and_or_parts_nodes (more_and_or operator join p ps) = map comment_node join.comments ++ pipeline_nodes p
      ++ and_or_parts_nodes ps

  pub pipeline_nodes : APipeline → Row NodeLine
  pipeline_nodes (pipeline bang first rest) = pipeline_node (pipeline bang first rest) ++ command_nodes first
      ++ pipes_nodes rest

  pub pipes_nodes : PipelineParts → Row NodeLine
  pipes_nodes no_pipe = []
  pipes_nodes (more_pipes join c cs) = map comment_node join.comments ++ command_nodes c ++ pipes_nodes cs

  pub command_nodes : ACommand → Row NodeLine
  command_nodes (simple items) = node NodeKind.Simple (items_span items) ∷ items_nodes items
  command_nodes (compound c) = compound_nodes c
  command_nodes (function name comments body) = named_node NodeKind.Function (through name (compound_span body)) name
      ∷ map comment_node comments ++ compound_nodes body

  pub compound_nodes : ACompound → Row NodeLine
  compound_nodes (formed form span redirects) = form_node form (through span (last_item span redirects))
      ∷ form_nodes form ++ items_nodes redirects

  pub form_nodes : AForm → Row NodeLine
  form_nodes (brace es) = entries_nodes es
  form_nodes (subshell es) = entries_nodes es
  form_nodes (if_then first rest other) = branch_nodes first ++ branches_nodes rest ++ else_nodes other
  form_nodes (while_do b) = branch_nodes b
  form_nodes (until_do b) = branch_nodes b
  form_nodes (for_in name words body) = word_nodes name ++ for_words_nodes words ++ entries_nodes body
  form_nodes (case_in w items tail) = word_nodes w ++ cases_nodes items ++ map comment_node tail

  pub branch_nodes : ABranch → Row NodeLine
  branch_nodes (branch condition body) = entries_nodes condition ++ entries_nodes body

  pub branches_nodes : Branches → Row NodeLine
  branches_nodes no_branch = []
  branches_nodes (more_branches b bs) = branch_nodes b ++ branches_nodes bs

  pub else_nodes : Otherwise → Row NodeLine
  else_nodes no_else = []
  else_nodes (otherwise es) = entries_nodes es

  pub for_words_nodes : ForWords → Row NodeLine
  for_words_nodes no_in = []
  for_words_nodes (in_words items) = items_nodes items

  pub cases_nodes : CaseItems → Row NodeLine
  cases_nodes no_case = []
  cases_nodes (more_cases c cs) = case_nodes c ++ cases_nodes cs

  pub case_nodes : ACaseItem → Row NodeLine
  case_nodes (case_item comments patterns body mark) = node NodeKind.Item mark.mark ∷ map comment_node comments
      ++ patterns_nodes patterns ++ entries_nodes body

  pub patterns_nodes : Patterns → Row NodeLine
  patterns_nodes no_pattern = []
  patterns_nodes (more_patterns w ws) = word_nodes w ++ patterns_nodes ws

  pub items_nodes : Items → Row NodeLine
  items_nodes no_item = []
  items_nodes (more_items i is) = item_nodes i ++ items_nodes is

  -- an assignment is one node and no word besides; a redirection holds its word; a here-document is no node
  pub item_nodes : AnItem → Row NodeLine
  item_nodes (item broken (assign (word span substs))) = node NodeKind.Assign span ∷ substs_nodes substs
  item_nodes (item broken (argument w)) = word_nodes w
  item_nodes (item broken (redirect number operator span w here)) =
      node NodeKind.Redirect (through (unwrap_or number span) (word_span w)) ∷ word_nodes w

  pub word_nodes : AWord → Row NodeLine
  word_nodes (word span substs) = node NodeKind.Word span ∷ substs_nodes substs

  pub substs_nodes : Substs → Row NodeLine
  substs_nodes no_subst = []
  substs_nodes (more_substs s ss) = subst_nodes s ++ substs_nodes ss

  pub subst_nodes : ASubst → Row NodeLine
  subst_nodes (subst entries span) = node NodeKind.Subst span ∷ entries_nodes entries

-- ---- their order

-- by their starts, at equal starts the longer first
abbrev pub by_place : NodeLine → NodeLine → Ordering
by_place a b = ordering_then (nat_cmp a.start b.start) (nat_cmp b.«end» a.«end»)

-- a node among nodes that are in order: after those alone that have to stand before it
abbrev pub inserted : NodeLine → Row NodeLine → Row NodeLine
inserted n [] = n ∷ []
inserted n (m ∷ ms) = (if is_lt (by_place m n) then m ∷ inserted n ms else n ∷ m ∷ ms)

-- nodes in order; those at one place stay as they were
abbrev pub in_order : Row NodeLine → Row NodeLine
in_order [] = []
in_order (n ∷ ns) = inserted n (in_order ns)

-- ---- what is asked for

-- a span of a tree, in the text that holds the tree from this base on
abbrev pub placed_span : ℕ → Span → Span
placed_span base s = record { start = base + s.start; «end» = base + s.«end» }

abbrev pub placed : ℕ → NodeLine → NodeLine
placed base n = record {
  start = base + n.start;
  «end» = base + n.«end»;
  kind = n.kind;
  name = option_map (placed_span base) n.name;
}

-- the nodes of a list that stands at a base, in order
abbrev pub nodes_of : ℕ → Entries → Row NodeLine
nodes_of base es = in_order (map (placed base) (entries_nodes es))

-- the text of a node holds the byte at this offset
abbrev pub holds : ℕ → NodeLine → Bool
holds at n = nat_le n.start at && nat_lt at n.«end»

abbrev pub nodes_at : ℕ → ℕ → Entries → Row NodeLine
nodes_at base at es = filter (holds at) (nodes_of base es)

-- an outline tells of commands and what they are made of, and not of words and comments
abbrev pub is_outlined : NodeKind → Bool
is_outlined NodeKind.Comment = false
is_outlined NodeKind.Word = false
is_outlined NodeKind.Assign = false
is_outlined NodeKind.Redirect = false
is_outlined kind = true

abbrev pub in_outline : NodeLine → Bool
in_outline n = is_outlined n.kind

abbrev pub outline : ℕ → Entries → Row NodeLine
outline base es = filter in_outline (nodes_of base es)

-- ---- what offsets a list names

abbrev pub IsSpanWithin : ℕ → Span → Type 0
IsSpanWithin limit s = (s.start ≤ limit) × (s.«end» ≤ limit)

-- a node names no offset above this one
pub record IsWithin (limit : ℕ) (n : NodeLine) : Type 0 where
  pub start : n.start ≤ limit
  pub «end» : n.«end» ≤ limit
  pub name : MatchOption n.name (Unit {0}) (IsSpanWithin limit)

-- no node of a list names an offset above this one
abbrev pub NodesWithin : ℕ → Entries → Type 0
NodesWithin limit es = All (IsWithin limit) (entries_nodes es)
