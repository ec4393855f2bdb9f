-- What the view of a part of a tree is, by the views of what it holds.
use Rattle.std.proofs.Common.{◌≡◌, map, Option, option_map, rules, Vec, Global, Some, None}
use Rattle.shast.specs.declared.tree.AndOr.{AndOr}
use Rattle.shast.specs.declared.tree.AndOrPart.{AndOrPart}
use Rattle.shast.specs.declared.tree.Branch.{Branch}
use Rattle.shast.specs.declared.tree.CaseItem.{CaseItem}
use Rattle.shast.specs.declared.tree.Comment.{Comment}
use Rattle.shast.specs.declared.tree.Compound.{Compound}
use Rattle.shast.specs.declared.tree.Entry.{Entry}
use Rattle.shast.specs.declared.tree.Function.{Function}
use Rattle.shast.specs.declared.tree.Item.{Item}
use Rattle.shast.specs.declared.tree.List.{List}
use Rattle.shast.specs.declared.tree.Pipeline.{Pipeline}
use Rattle.shast.specs.declared.tree.PipelinePart.{PipelinePart}
use Rattle.shast.specs.declared.tree.Redirection.{Redirection}
use Rattle.shast.specs.declared.tree.Subst.{Subst}
use Rattle.shast.specs.declared.tree.Word.{Word}
use Rattle.shast.specs.declared.tree.Command as the_command
use Rattle.shast.specs.declared.tree.Command.TheVariants.{rolls-Simple}
use Rattle.shast.specs.declared.tree.Form.TheVariants.{rolls-If, rolls-For, rolls-Case}
use Rattle.shast.specs.declared.tree.ItemContent.TheVariants.{rolls-Assign}
use Rattle.shast.specs.declared.tree.Form as the_form
use Rattle.shast.specs.declared.tree.ItemContent as the_item_content
use Rattle.shast.specs.declared.tree.Command.TheViews.{out-AndOr, out-AndOrPart, out-Branch, out-CaseItem, out-Compound, out-Entry, out-Function, out-Item, out-List, out-Pipeline, out-PipelinePart, out-Redirection, out-Subst, out-Word, roll-List}
use Rattle.shast.specs.declared.tree.Command.TheFolds.{fold-roll-Command, fold-roll-Form, fold-roll-ItemContent, fold-roll-List, fold_out-AndOr, fold_out-AndOrPart, fold_out-Branch, fold_out-CaseItem, fold_out-Compound, fold_out-Entry, fold_out-Function, fold_out-Item, fold_out-List, fold_out-Pipeline, fold_out-PipelinePart, fold_out-Redirection, fold_out-Subst, fold_out-Word}
use Rattle.shast.specs.Tree.{and_or, and_or_parts_of, assign, branch, branches_of, case_in, case_item, cases_of, entries_of, entry, for_in, formed, function, if_then, in_words, item, items_of, no_else, no_in, otherwise, patterns_of, pipeline, pipeline_parts_of, redirect, simple, subst, substs_of, word}
use Rattle.shast.specs.View.{view_and_or, view_and_or_part, view_branch, view_case_item, view_command, view_comment, view_compound, view_content, view_entry, view_form, view_function, view_here, view_item, view_item_content, view_join, view_list, view_otherwise, view_pipeline, view_pipeline_part, view_redirection, view_subst, view_word}

-- ---- by its type

-- For each type: the view of a value is made of the views of its fields.

-- the view of a list is that of its entries, be it taken apart or made of them
pub list_seen : (l : List) → view_list l ≡ entries_of (map view_entry (out-List l).entries.items)
list_seen l = search (rules, fold_out-List)

pub list_made : (entries : Vec Entry Global) →
    view_list (roll-List (record { entries = entries })) ≡ entries_of (map view_entry entries.items)
list_made entries = search (rules, fold-roll-List)

-- the view of a substitution is made of that of its list; the view of a word, of those of its substitutions
pub subst_seen : (s : Subst) → view_subst s ≡ subst (view_list (out-Subst s).list) (out-Subst s).span
subst_seen s = search (rules, fold_out-Subst)

pub word_seen : (w : Word) → view_word w ≡ word (out-Word w).span (substs_of (map view_subst (out-Word w).substs.items))
word_seen w = search (rules, fold_out-Word)

-- the view of an and-or list, or a pipeline, is made of those of its first operand and of its parts; the view
-- of a part is made of those of its join and its operand
pub and_or_seen : (a : AndOr) →
    view_and_or a ≡ and_or (view_pipeline (out-AndOr a).first)
    (and_or_parts_of (map view_and_or_part (out-AndOr a).rest.items))
and_or_seen a = search (rules, fold_out-AndOr)

pub and_or_part_seen : (p : AndOrPart) →
    view_and_or_part p ≡ record {
      operator = (out-AndOrPart p).operator;
      join = view_join (out-AndOrPart p).join;
      pipeline = view_pipeline (out-AndOrPart p).pipeline;
    }
and_or_part_seen p = search (rules, fold_out-AndOrPart)

pub pipeline_seen : (p : Pipeline) →
    view_pipeline p ≡ pipeline (out-Pipeline p).bang (view_command (out-Pipeline p).first)
    (pipeline_parts_of (map view_pipeline_part (out-Pipeline p).rest.items))
pipeline_seen p = search (rules, fold_out-Pipeline)

pub pipeline_part_seen : (p : PipelinePart) →
    view_pipeline_part p ≡ record {
      join = view_join (out-PipelinePart p).join;
      command = view_command (out-PipelinePart p).command;
    }
pipeline_part_seen p = search (rules, fold_out-PipelinePart)

-- the view of a compound command is made of those of its form and its redirections
pub compound_seen : (c : Compound) →
    view_compound c ≡ formed (view_form (out-Compound c).form) (out-Compound c).span
    (items_of (map view_item (out-Compound c).redirects.items))
compound_seen c = search (rules, fold_out-Compound)

-- the view of a branch is made of those of its two lists
pub branch_seen : (b : Branch) →
    view_branch b ≡ branch (view_list (out-Branch b).condition) (view_list (out-Branch b).body)
branch_seen b = search (rules, fold_out-Branch)

-- the view of an item of a `case` is made of those of its comments, its patterns and its body
pub case_item_seen : (c : CaseItem) →
    view_case_item c ≡ case_item (map view_comment (out-CaseItem c).comments.items)
    (patterns_of (map view_word (out-CaseItem c).patterns.items)) (view_list (out-CaseItem c).body)
    (record { mark = (out-CaseItem c).span; falls = (out-CaseItem c).falls })
case_item_seen c = search (rules, fold_out-CaseItem)

-- the view of an entry is made of those of what it holds and of its comment
pub entry_seen : (e : Entry) →
    view_entry e ≡ entry (view_content (out-Entry e).what) (out-Entry e).background (out-Entry e).blank
    (option_map view_comment (out-Entry e).comment)
entry_seen e = search (rules, fold_out-Entry)

-- the view of a function is made of those of the comments before its body, and of the body
pub function_seen : (f : Function) →
    view_function f ≡ function (out-Function f).name (map view_comment (out-Function f).comments.items)
    (view_compound (out-Function f).body)
function_seen f = search (rules, fold_out-Function)

-- the view of a redirection is made of those of its word and its here-document; the view of an item is made
-- of that of its content
pub redirection_seen : (r : Redirection)
    → view_redirection r ≡ redirect (out-Redirection r).number (out-Redirection r).operator (out-Redirection r).span
    (view_word (out-Redirection r).word) (option_map view_here (out-Redirection r).here)
redirection_seen r = search (rules, fold_out-Redirection)

pub item_seen : (i : Item) → view_item i ≡ item (out-Item i).broken (view_item_content (out-Item i).what)
item_seen i = search (rules, fold_out-Item)

-- ---- by the kind of a node

-- For each of these kinds: the view of a node is made of the views of what it holds.

-- the view of a simple command is made of those of its items, and that of an assignment is made of its word's
pub simple_seen : (items : Vec Item Global) →
    view_command (the_command.TheVariants.Simple items) ≡ simple (items_of (map view_item items.items))
simple_seen items = rw (← rolls-Simple items) (search (rules, fold-roll-Command))

pub assign_seen : (w : Word) → view_item_content (the_item_content.TheVariants.Assign w) ≡ assign (view_word w)
assign_seen w = rw (← rolls-Assign w) (search (rules, fold-roll-ItemContent))

-- the view of an `if` is made of those of its branches and of its `else`: where it has none, where it has
-- one, and for either case
pub if_seen : (first : Branch) (rest : Vec Branch Global) →
    view_form (the_form.TheVariants.If first rest None)
    ≡ if_then (view_branch first) (branches_of (map view_branch rest.items)) no_else
if_seen first rest = rw (← rolls-If first rest None) (search (rules, fold-roll-Form))

pub if_else_seen : (first : Branch) (rest : Vec Branch Global) (other : List)
    → view_form (the_form.TheVariants.If first rest (Some other))
    ≡ if_then (view_branch first) (branches_of (map view_branch rest.items)) (otherwise (view_list other))
if_else_seen first rest other = rw (← rolls-If first rest (Some other)) (search (rules, fold-roll-Form))

pub if_all_seen : (first : Branch) (rest : Vec Branch Global) (other : Option List)
    → view_form (the_form.TheVariants.If first rest other)
    ≡ if_then (view_branch first) (branches_of (map view_branch rest.items)) (view_otherwise other)
if_all_seen first rest None = if_seen first rest
if_all_seen first rest (Some other) = if_else_seen first rest other

-- the view of a `for` is made of those of its name and its body, and of its words where it has an `in`
pub for_seen : (name : Word) (body : List) →
    view_form (the_form.TheVariants.For name None body) ≡ for_in (view_word name) no_in (view_list body)
for_seen name body = rw (← rolls-For name None body) (search (rules, fold-roll-Form))

pub for_words_seen : (name : Word) (words : Vec Item Global) (body : List)
    → view_form (the_form.TheVariants.For name (Some words) body)
    ≡ for_in (view_word name) (in_words (items_of (map view_item words.items))) (view_list body)
for_words_seen name words body = rw (← rolls-For name (Some words) body) (search (rules, fold-roll-Form))

-- the view of a `case` is made of those of its word, its items and the comments after them
pub case_seen : (w : Word) (items : Vec CaseItem Global) (tail : Vec Comment Global)
    → view_form (the_form.TheVariants.Case w items tail)
    ≡ case_in (view_word w) (cases_of (map view_case_item items.items)) (map view_comment tail.items)
case_seen w items tail = rw (← rolls-Case w items tail) (search (rules, fold-roll-Form))
