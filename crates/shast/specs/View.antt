-- What a tree of the code is in the tree of the definitions: a vector is the row of its items.
use Rattle.std.specs.Prelude.{List as Row, Option, None, Some, map, option_map}
use Rattle.shast.specs.declared.tree.Span.{Span}
use Rattle.shast.specs.declared.tree.Comment as the_comment
use Rattle.shast.specs.declared.tree.HereDocument as the_here_document
use Rattle.shast.specs.declared.tree.Join as the_join
use Rattle.shast.specs.declared.tree.List as the_list
use Rattle.shast.specs.declared.tree.Entry as the_entry
use Rattle.shast.specs.declared.tree.Function as the_function
use Rattle.shast.specs.declared.tree.AndOr as the_and_or
use Rattle.shast.specs.declared.tree.AndOrPart as the_and_or_part
use Rattle.shast.specs.declared.tree.Pipeline as the_pipeline
use Rattle.shast.specs.declared.tree.PipelinePart as the_pipeline_part
use Rattle.shast.specs.declared.tree.Command as the_command
use Rattle.shast.specs.declared.tree.Compound as the_compound
use Rattle.shast.specs.declared.tree.Form as the_form
use Rattle.shast.specs.declared.tree.Branch as the_branch
use Rattle.shast.specs.declared.tree.CaseItem as the_case_item
use Rattle.shast.specs.declared.tree.Content as the_content
use Rattle.shast.specs.declared.tree.ItemContent as the_item_content
use Rattle.shast.specs.declared.tree.Item as the_item
use Rattle.shast.specs.declared.tree.Redirection as the_redirection
use Rattle.shast.specs.declared.tree.Word as the_word
use Rattle.shast.specs.declared.tree.Subst as the_subst
use Rattle.shast.specs.declared.tree.Command.TheOpen.{Command-F, Content-F, Form-F, ItemContent-F, AndOr-F, AndOrPart-F, Branch-F, CaseItem-F, Compound-F, Entry-F, Function-F, Item-F, List-F, Pipeline-F, PipelinePart-F, Redirection-F, Subst-F, Word-F}
use Rattle.shast.specs.declared.tree.Command.TheFolds.{fold-List, fold-Entry, fold-AndOr, fold-AndOrPart, fold-Pipeline, fold-PipelinePart, fold-Command, fold-Compound, fold-Content, fold-Form, fold-Branch, fold-CaseItem, fold-Function, fold-Item, fold-ItemContent, fold-Redirection, fold-Word, fold-Subst}
use Rattle.shast.specs.Tree.{AJoin, AHere, Entries, AnEntry, AContent, AnAndOr, AnAndOrPart, APipeline, APipelinePart, ACommand, ACompound, AForm, ABranch, ForWords, ACaseItem, AnItem, AnItemContent, AWord, ASubst, entry, command, remark, and_or, pipeline, simple, compound, function, formed, brace, subshell, if_then, while_do, until_do, for_in, case_in, branch, Otherwise, no_else, otherwise, no_in, in_words, case_item, item, assign, argument, redirect, word, subst, entries_of, and_or_parts_of, pipeline_parts_of, branches_of, otherwise_of, cases_of, patterns_of, items_of, substs_of}

abbrev pub view_comment : the_comment.Comment → Span
view_comment c = c.span

abbrev pub view_join : the_join.Join → AJoin
view_join j = record { broken = j.broken; comments = map view_comment j.comments.items }

abbrev pub view_here : the_here_document.HereDocument → AHere
view_here h = record { literal = h.literal; strip = h.strip; body = h.body }

-- ---- one level of each type, with what is below it seen already

abbrev pub Seen : (Type 0 → Type 0 → Type 0 → Type 0 → Type 0 → Type 0 → Type 0 → Type 0 → Type 0 → Type 0 → Type 0 →
    Type 0 → Type 0 → Type 0 → Type 0 → Type 0 → Type 0 → Type 0 → Type 0) → Type 0
Seen F = F ACommand AContent AForm AnItemContent AnAndOr AnAndOrPart ABranch ACaseItem ACompound AnEntry ACommand AnItem
    Entries APipeline APipelinePart AnItemContent ASubst AWord

abbrev pub command_step : Seen Command-F → ACommand
command_step (Command-F.Simple items) = simple (items_of items.items)
command_step (Command-F.Compound c) = compound c.value
command_step (Command-F.Function f) = f.value

abbrev pub content_step : Seen Content-F → AContent
content_step (Content-F.AndOr a) = command a
content_step (Content-F.Comment c) = remark (view_comment c)

-- what follows the `in` of a for, by the row of its items
abbrev for_words : {V : Type 0} → (V → Row AnItem) → Option V → ForWords
for_words row None = no_in
for_words row (Some v) = in_words (items_of (row v))

abbrev pub form_step : Seen Form-F → AForm
form_step (Form-F.Brace list) = brace list
form_step (Form-F.Subshell list) = subshell list
form_step (Form-F.If first rest other) = if_then first (branches_of rest.items) (otherwise_of other)
form_step (Form-F.While b) = while_do b
form_step (Form-F.Until b) = until_do b
form_step (Form-F.For name words body) = for_in name (for_words (λ v. v.items) words) body
form_step (Form-F.Case w cases tail) = case_in w (cases_of cases.items) (map view_comment tail.items)

abbrev pub item_content_step : Seen ItemContent-F → AnItemContent
item_content_step (ItemContent-F.Assign w) = assign w
item_content_step (ItemContent-F.Word w) = argument w
item_content_step (ItemContent-F.Redirect r) = r.value

abbrev pub and_or_step : Seen AndOr-F → AnAndOr
and_or_step a = and_or a.first (and_or_parts_of a.rest.items)

abbrev pub and_or_part_step : Seen AndOrPart-F → AnAndOrPart
and_or_part_step p = record { operator = p.operator; join = view_join p.join; pipeline = p.pipeline }

abbrev pub branch_step : Seen Branch-F → ABranch
branch_step b = branch b.condition b.body

abbrev pub case_item_step : Seen CaseItem-F → ACaseItem
case_item_step c = case_item (map view_comment c.comments.items) (patterns_of c.patterns.items) c.body
    (record { mark = c.span; falls = c.falls })

abbrev pub compound_step : Seen Compound-F → ACompound
compound_step c = formed c.form c.span (items_of c.redirects.items)

abbrev pub entry_step : Seen Entry-F → AnEntry
entry_step e = entry e.what e.background e.blank (option_map view_comment e.comment)

abbrev pub function_step : Seen Function-F → ACommand
function_step f = function f.name (map view_comment f.comments.items) f.body

abbrev pub item_step : Seen Item-F → AnItem
item_step i = item i.broken i.what

abbrev pub list_step : Seen List-F → Entries
list_step l = entries_of l.entries.items

abbrev pub pipeline_step : Seen Pipeline-F → APipeline
pipeline_step p = pipeline p.bang p.first (pipeline_parts_of p.rest.items)

abbrev pub pipeline_part_step : Seen PipelinePart-F → APipelinePart
pipeline_part_step p = record { join = view_join p.join; command = p.command }

abbrev pub redirection_step : Seen Redirection-F → AnItemContent
redirection_step r = redirect r.number r.operator r.span r.word (option_map view_here r.here)

abbrev pub subst_step : Seen Subst-F → ASubst
subst_step s = subst s.list s.span

abbrev pub word_step : Seen Word-F → AWord
word_step w = word w.span (substs_of w.substs.items)

-- ---- a whole tree, and each of its parts

-- a fold, at these steps
abbrev Steps : Type 0 → Type 0
Steps V =
    (Seen Command-F → ACommand) → (Seen Content-F → AContent) → (Seen Form-F → AForm) →
    (Seen ItemContent-F → AnItemContent)
    → (Seen AndOr-F → AnAndOr) → (Seen AndOrPart-F → AnAndOrPart) → (Seen Branch-F → ABranch) →
    (Seen CaseItem-F → ACaseItem)
    → (Seen Compound-F → ACompound) → (Seen Entry-F → AnEntry) → (Seen Function-F → ACommand) → (Seen Item-F → AnItem) →
    (Seen List-F → Entries)
    → (Seen Pipeline-F → APipeline) → (Seen PipelinePart-F → APipelinePart) → (Seen Redirection-F → AnItemContent) →
    (Seen Subst-F → ASubst) → (Seen Word-F → AWord) → V

abbrev seen : {V : Type 0} → Steps V → V
seen fold =
    fold command_step content_step form_step item_content_step and_or_step and_or_part_step branch_step case_item_step
    compound_step entry_step function_step item_step list_step pipeline_step pipeline_part_step redirection_step
    subst_step word_step

abbrev pub view_list : the_list.List → Entries
view_list = seen (fold-List _ _ _ _ _ _ _ _ _ _ _ _ _ _ _ _ _ _)

abbrev pub view_entry : the_entry.Entry → AnEntry
view_entry = seen (fold-Entry _ _ _ _ _ _ _ _ _ _ _ _ _ _ _ _ _ _)

abbrev pub view_content : the_content.Content → AContent
view_content = seen (fold-Content _ _ _ _ _ _ _ _ _ _ _ _ _ _ _ _ _ _)

abbrev pub view_and_or : the_and_or.AndOr → AnAndOr
view_and_or = seen (fold-AndOr _ _ _ _ _ _ _ _ _ _ _ _ _ _ _ _ _ _)

abbrev pub view_and_or_part : the_and_or_part.AndOrPart → AnAndOrPart
view_and_or_part = seen (fold-AndOrPart _ _ _ _ _ _ _ _ _ _ _ _ _ _ _ _ _ _)

abbrev pub view_pipeline : the_pipeline.Pipeline → APipeline
view_pipeline = seen (fold-Pipeline _ _ _ _ _ _ _ _ _ _ _ _ _ _ _ _ _ _)

abbrev pub view_pipeline_part : the_pipeline_part.PipelinePart → APipelinePart
view_pipeline_part = seen (fold-PipelinePart _ _ _ _ _ _ _ _ _ _ _ _ _ _ _ _ _ _)

abbrev pub view_command : the_command.Command → ACommand
view_command = seen (fold-Command _ _ _ _ _ _ _ _ _ _ _ _ _ _ _ _ _ _)

abbrev pub view_function : the_function.Function → ACommand
view_function = seen (fold-Function _ _ _ _ _ _ _ _ _ _ _ _ _ _ _ _ _ _)

abbrev pub view_compound : the_compound.Compound → ACompound
view_compound = seen (fold-Compound _ _ _ _ _ _ _ _ _ _ _ _ _ _ _ _ _ _)

abbrev pub view_form : the_form.Form → AForm
view_form = seen (fold-Form _ _ _ _ _ _ _ _ _ _ _ _ _ _ _ _ _ _)

abbrev pub view_branch : the_branch.Branch → ABranch
view_branch = seen (fold-Branch _ _ _ _ _ _ _ _ _ _ _ _ _ _ _ _ _ _)

abbrev pub view_case_item : the_case_item.CaseItem → ACaseItem
view_case_item = seen (fold-CaseItem _ _ _ _ _ _ _ _ _ _ _ _ _ _ _ _ _ _)

abbrev pub view_item : the_item.Item → AnItem
view_item = seen (fold-Item _ _ _ _ _ _ _ _ _ _ _ _ _ _ _ _ _ _)

abbrev pub view_item_content : the_item_content.ItemContent → AnItemContent
view_item_content = seen (fold-ItemContent _ _ _ _ _ _ _ _ _ _ _ _ _ _ _ _ _ _)

abbrev pub view_redirection : the_redirection.Redirection → AnItemContent
view_redirection = seen (fold-Redirection _ _ _ _ _ _ _ _ _ _ _ _ _ _ _ _ _ _)

abbrev pub view_word : the_word.Word → AWord
view_word = seen (fold-Word _ _ _ _ _ _ _ _ _ _ _ _ _ _ _ _ _ _)

abbrev pub view_subst : the_subst.Subst → ASubst
view_subst = seen (fold-Subst _ _ _ _ _ _ _ _ _ _ _ _ _ _ _ _ _ _)

-- what follows `else`, where it stands
abbrev pub view_otherwise : Option the_list.List → Otherwise
view_otherwise None = no_else
view_otherwise (Some list) = otherwise (view_list list)
