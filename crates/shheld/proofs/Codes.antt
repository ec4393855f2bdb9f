-- A code of what a line is: trees as trees of numbers, from which they can be read
-- back. A value that contracts name has to have one.
use Rattle.std.proofs.Common.{◌≡◌, zero, suc, Bool, true, false, List as Row, [], ◌∷◌, Option, None, Some, refl, ◌⊎◌, inl, inr}
use Rattle.std.specs.Coded.{code_by}
use base.Stored.{Coded, Gv, coded_bool, coded⊎, gnil, gnum, gcons}
use Rattle.shast.specs.declared.tree.Span.{Span}
use Rattle.shgrammar.specs.declared.fault.Fault.{Fault}
use Rattle.shgrammar.specs.contracts.fault.Fault as the_fault
use Rattle.shgrammar.specs.Lines.{AKind, blank_line, end_line, entries_line, faulty_line}
use Rattle.shast.specs.declared.tree.AndOrOperator.{AndOrOperator}
use Rattle.shast.specs.declared.tree.AndOrOperator.TheVariants as ops
use Rattle.shast.specs.declared.tree.RedirectOperator.{RedirectOperator}
use Rattle.shast.specs.declared.tree.RedirectOperator.TheVariants as reds
use Rattle.shast.specs.Tree.{ACaseMark, AJoin, AHere, Entries, no_entry, more_entries, AnEntry, entry, AContent, command, remark, AnAndOr, and_or, AndOrParts, no_and_or, more_and_or, APipeline, pipeline, PipelineParts, no_pipe, more_pipes, ACommand, simple, compound, function, ACompound, formed, AForm, brace, subshell, if_then, while_do, until_do, for_in, case_in, ABranch, branch, Branches, no_branch, more_branches, Otherwise, no_else, otherwise, ForWords, no_in, in_words, CaseItems, no_case, more_cases, ACaseItem, case_item, Patterns, no_pattern, more_patterns, Items, no_item, more_items, AnItem, item, AnItemContent, assign, argument, redirect, AWord, word, Substs, no_subst, more_substs, ASubst, subst}

-- ---- what is no tree

-- For each type `to_` gives a value's code, `from_` what a code says, and `back_` that it says the value.
-- Where a code is none of a value `from_` gives some value, as `any_span`.

-- a flag is 0 or 1
abbrev pub to_bool : Bool → Gv
to_bool false = gnum 0
to_bool true = gnum 1

abbrev pub from_bool : Gv → Bool
from_bool (gnum zero) = false
from_bool _ = true

pub back_bool : (x : Bool) → from_bool (to_bool x) ≡ x
back_bool false = refl
back_bool true = refl

-- a span, told by a pair of its offsets; this one where a code is of none
abbrev pub any_span : Span
any_span = record { start = 0; «end» = 0 }

abbrev pub to_span : Span → Gv
to_span s = gcons (gnum s.start) (gnum s.«end»)

abbrev pub from_span : Gv → Span
from_span (gcons (gnum a) (gnum b)) = record { start = a; «end» = b }
from_span _ = any_span

pub back_span : (x : Span) → from_span (to_span x) ≡ x
back_span x = refl

module _ {A : Type 0} (to : A → Gv) (from : Gv → A) (back : (x : A) → from (to x) ≡ x) where
  -- a row and an option, by the code of what is in them
  abbrev pub to_row : Row A → Gv
  to_row [] = gnil
  to_row (x ∷ xs) = gcons (to x) (to_row xs)

  abbrev pub from_row : Gv → Row A
  from_row (gcons a b) = from a ∷ from_row b
  from_row _ = []

  pub back_row : (x : Row A) → from_row (to_row x) ≡ x
  back_row [] = refl
  back_row (x ∷ xs) = λ i. back x i ∷ back_row xs i

  abbrev pub to_option : Option A → Gv
  to_option None = gnil
  to_option (Some x) = gcons (to x) gnil

  abbrev pub from_option : Gv → Option A
  from_option (gcons a b) = Some (from a)
  from_option _ = None

  pub back_option : (x : Option A) → from_option (to_option x) ≡ x
  back_option None = refl
  back_option (Some x) = λ i. Some (back x i)

-- an operator's code is its number
abbrev pub to_operator : AndOrOperator → Gv
to_operator ops.And = gnum 0
to_operator ops.Or = gnum 1

abbrev pub from_operator : Gv → AndOrOperator
from_operator (gnum zero) = ops.And
from_operator _ = ops.Or

pub back_operator : (x : AndOrOperator) → from_operator (to_operator x) ≡ x
back_operator ops.And = refl
back_operator ops.Or = refl

-- and so is that of a redirection's operator
abbrev pub to_redirect_operator : RedirectOperator → Gv
to_redirect_operator reds.Input = gnum 0
to_redirect_operator reds.Output = gnum 1
to_redirect_operator reds.Here = gnum 2
to_redirect_operator reds.Append = gnum 3
to_redirect_operator reds.DuplicateInput = gnum 4
to_redirect_operator reds.DuplicateOutput = gnum 5
to_redirect_operator reds.ReadWrite = gnum 6
to_redirect_operator reds.HereStripped = gnum 7
to_redirect_operator reds.Clobber = gnum 8

abbrev pub from_redirect_operator : Gv → RedirectOperator
from_redirect_operator (gnum zero) = reds.Input
from_redirect_operator (gnum (suc zero)) = reds.Output
from_redirect_operator (gnum (suc (suc zero))) = reds.Here
from_redirect_operator (gnum (suc (suc (suc zero)))) = reds.Append
from_redirect_operator (gnum (suc (suc (suc (suc zero))))) = reds.DuplicateInput
from_redirect_operator (gnum (suc (suc (suc (suc (suc zero)))))) = reds.DuplicateOutput
from_redirect_operator (gnum (suc (suc (suc (suc (suc (suc zero))))))) = reds.ReadWrite
from_redirect_operator (gnum (suc (suc (suc (suc (suc (suc (suc zero)))))))) = reds.HereStripped
from_redirect_operator _ = reds.Clobber

pub back_redirect_operator : (x : RedirectOperator) → from_redirect_operator (to_redirect_operator x) ≡ x
back_redirect_operator reds.Input = refl
back_redirect_operator reds.Output = refl
back_redirect_operator reds.Here = refl
back_redirect_operator reds.Append = refl
back_redirect_operator reds.DuplicateInput = refl
back_redirect_operator reds.DuplicateOutput = refl
back_redirect_operator reds.ReadWrite = refl
back_redirect_operator reds.HereStripped = refl
back_redirect_operator reds.Clobber = refl

-- rows of spans, and a span that may be missing
abbrev pub to_spans : Row Span → Gv
to_spans = to_row to_span from_span back_span

abbrev pub from_spans : Gv → Row Span
from_spans = from_row to_span from_span back_span

pub back_spans : (x : Row Span) → from_spans (to_spans x) ≡ x
back_spans = back_row to_span from_span back_span

abbrev pub to_ospan : Option Span → Gv
to_ospan = to_option to_span from_span back_span

abbrev pub from_ospan : Gv → Option Span
from_ospan = from_option to_span from_span back_span

pub back_ospan : (x : Option Span) → from_ospan (to_ospan x) ≡ x
back_ospan = back_option to_span from_span back_span

-- a join is whether it is broken, and its comments
abbrev pub to_join : AJoin → Gv
to_join j = gcons (to_bool j.broken) (to_spans j.comments)

abbrev pub from_join : Gv → AJoin
from_join (gcons a b) = record { broken = from_bool a; comments = from_spans b }
from_join _ = record { broken = false; comments = [] }

pub back_join : (x : AJoin) → from_join (to_join x) ≡ x
back_join x = λ i. record { broken = back_bool x.broken i; comments = back_spans x.comments i }

-- a here-document is its two flags and its body
abbrev pub to_here : AHere → Gv
to_here h = gcons (to_bool h.literal) (gcons (to_bool h.strip) (to_span h.body))

abbrev pub from_here : Gv → AHere
from_here (gcons a (gcons b c)) = record { literal = from_bool a; strip = from_bool b; body = from_span c }
from_here _ = record { literal = false; strip = false; body = any_span }

pub back_here : (x : AHere) → from_here (to_here x) ≡ x
back_here x = λ i. record { literal = back_bool x.literal i; strip = back_bool x.strip i; body = back_span x.body i }

-- a redirection has one or none
abbrev pub to_ohere : Option AHere → Gv
to_ohere = to_option to_here from_here back_here

abbrev pub from_ohere : Gv → Option AHere
from_ohere = from_option to_here from_here back_here

pub back_ohere : (x : Option AHere) → from_ohere (to_ohere x) ≡ x
back_ohere = back_option to_here from_here back_here

-- the mark of an item of a `case`, told by where it stands and whether it falls through; this one where a
-- code is of none
abbrev pub any_mark : ACaseMark
any_mark = record { mark = any_span; falls = false }

abbrev pub to_mark : ACaseMark → Gv
to_mark m = gcons (to_span m.mark) (to_bool m.falls)

abbrev pub from_mark : Gv → ACaseMark
from_mark (gcons a b) = record { mark = from_span a; falls = from_bool b }
from_mark _ = any_mark

pub back_mark : (x : ACaseMark) → from_mark (to_mark x) ≡ x
back_mark x = λ i. record { mark = back_span x.mark i; falls = back_bool x.falls i }

-- ---- trees

-- A node's code has its parts in their order, after the number of its kind where there are several.

-- some value of each type, for codes of none
abbrev pub any_command : ACommand
any_command = simple no_item

abbrev pub any_pipeline : APipeline
any_pipeline = pipeline None any_command no_pipe

abbrev pub any_and_or : AnAndOr
any_and_or = and_or any_pipeline no_and_or

abbrev pub any_content : AContent
any_content = remark any_span

abbrev pub any_entry : AnEntry
any_entry = entry any_content false false None

abbrev pub any_form : AForm
any_form = brace no_entry

abbrev pub any_compound : ACompound
any_compound = formed any_form any_span no_item

abbrev pub any_branch : ABranch
any_branch = branch no_entry no_entry

abbrev pub any_case : ACaseItem
any_case = case_item [] no_pattern no_entry any_mark

abbrev pub any_word : AWord
any_word = word any_span no_subst

abbrev pub any_item_content : AnItemContent
any_item_content = assign any_word

abbrev pub any_item : AnItem
any_item = item false any_item_content

abbrev pub any_subst : ASubst
any_subst = subst no_entry any_span

-- the code of each part of a tree
abbrev mutual
  pub to_entries : Entries → Gv
  to_entries no_entry = gcons (gnum 0) gnil
  to_entries (more_entries a b) = gcons (gnum 1) (gcons (to_entry a) (to_entries b))

  pub to_entry : AnEntry → Gv
  to_entry (entry a b c d) = gcons (to_content a) (gcons (to_bool b) (gcons (to_bool c) (to_ospan d)))

  pub to_content : AContent → Gv
  to_content (command a) = gcons (gnum 0) (to_and_or a)
  to_content (remark a) = gcons (gnum 1) (to_span a)

  pub to_and_or : AnAndOr → Gv
  to_and_or (and_or a b) = gcons (to_pipeline a) (to_and_or_parts b)

  pub to_and_or_parts : AndOrParts → Gv
  to_and_or_parts no_and_or = gcons (gnum 0) gnil
  to_and_or_parts (more_and_or a b c d) =
      gcons (gnum 1) (gcons (to_operator a) (gcons (to_join b) (gcons (to_pipeline c) (to_and_or_parts d))))

  pub to_pipeline : APipeline → Gv
  to_pipeline (pipeline a b c) = gcons (to_ospan a) (gcons (to_command b) (to_pipes c))

  pub to_pipes : PipelineParts → Gv
  to_pipes no_pipe = gcons (gnum 0) gnil
  to_pipes (more_pipes a b c) = gcons (gnum 1) (gcons (to_join a) (gcons (to_command b) (to_pipes c)))

  pub to_command : ACommand → Gv
  to_command (simple a) = gcons (gnum 0) (to_items a)
  to_command (compound a) = gcons (gnum 1) (to_compound a)
  to_command (function a b c) = gcons (gnum 2) (gcons (to_span a) (gcons (to_spans b) (to_compound c)))

  pub to_compound : ACompound → Gv
  to_compound (formed a b c) = gcons (to_form a) (gcons (to_span b) (to_items c))

  pub to_form : AForm → Gv
  to_form (brace a) = gcons (gnum 0) (to_entries a)
  to_form (subshell a) = gcons (gnum 1) (to_entries a)
  to_form (if_then a b c) = gcons (gnum 2) (gcons (to_branch a) (gcons (to_branches b) (to_otherwise c)))
  to_form (while_do a) = gcons (gnum 3) (to_branch a)
  to_form (until_do a) = gcons (gnum 4) (to_branch a)
  to_form (for_in a b c) = gcons (gnum 5) (gcons (to_word a) (gcons (to_for_words b) (to_entries c)))
  to_form (case_in a b c) = gcons (gnum 6) (gcons (to_word a) (gcons (to_cases b) (to_spans c)))

  pub to_branch : ABranch → Gv
  to_branch (branch a b) = gcons (to_entries a) (to_entries b)

  pub to_branches : Branches → Gv
  to_branches no_branch = gcons (gnum 0) gnil
  to_branches (more_branches a b) = gcons (gnum 1) (gcons (to_branch a) (to_branches b))

  pub to_otherwise : Otherwise → Gv
  to_otherwise no_else = gcons (gnum 0) gnil
  to_otherwise (otherwise a) = gcons (gnum 1) (to_entries a)

  pub to_for_words : ForWords → Gv
  to_for_words no_in = gcons (gnum 0) gnil
  to_for_words (in_words a) = gcons (gnum 1) (to_items a)

  pub to_cases : CaseItems → Gv
  to_cases no_case = gcons (gnum 0) gnil
  to_cases (more_cases a b) = gcons (gnum 1) (gcons (to_case a) (to_cases b))

  pub to_case : ACaseItem → Gv
  to_case (case_item a b c d) = gcons (to_spans a) (gcons (to_patterns b) (gcons (to_entries c) (to_mark d)))

  pub to_patterns : Patterns → Gv
  to_patterns no_pattern = gcons (gnum 0) gnil
  to_patterns (more_patterns a b) = gcons (gnum 1) (gcons (to_word a) (to_patterns b))

  pub to_items : Items → Gv
  to_items no_item = gcons (gnum 0) gnil
  to_items (more_items a b) = gcons (gnum 1) (gcons (to_item a) (to_items b))

  pub to_item : AnItem → Gv
  to_item (item a b) = gcons (to_bool a) (to_item_content b)

  pub to_item_content : AnItemContent → Gv
  to_item_content (assign a) = gcons (gnum 0) (to_word a)
  to_item_content (argument a) = gcons (gnum 1) (to_word a)
  to_item_content (redirect a b c d e) =
      gcons (gnum 2) (gcons (to_ospan a)
      (gcons (to_redirect_operator b) (gcons (to_span c) (gcons (to_word d) (to_ohere e)))))

  pub to_word : AWord → Gv
  to_word (word a b) = gcons (to_span a) (to_substs b)

  pub to_substs : Substs → Gv
  to_substs no_subst = gcons (gnum 0) gnil
  to_substs (more_substs a b) = gcons (gnum 1) (gcons (to_subst a) (to_substs b))

  pub to_subst : ASubst → Gv
  to_subst (subst a b) = gcons (to_entries a) (to_span b)

-- what a code says of each part of a tree
abbrev mutual
  pub from_entries : Gv → Entries
  from_entries (gcons (gnum zero) gnil) = no_entry
  from_entries (gcons (gnum (suc zero)) (gcons a b)) = more_entries (from_entry a) (from_entries b)
  from_entries _ = no_entry

  pub from_entry : Gv → AnEntry
  from_entry (gcons a (gcons b (gcons c d))) = entry (from_content a) (from_bool b) (from_bool c) (from_ospan d)
  from_entry _ = any_entry

  pub from_content : Gv → AContent
  from_content (gcons (gnum zero) a) = command (from_and_or a)
  from_content (gcons (gnum (suc zero)) a) = remark (from_span a)
  from_content _ = any_content

  pub from_and_or : Gv → AnAndOr
  from_and_or (gcons a b) = and_or (from_pipeline a) (from_and_or_parts b)
  from_and_or _ = any_and_or

  pub from_and_or_parts : Gv → AndOrParts
  from_and_or_parts (gcons (gnum zero) gnil) = no_and_or
  from_and_or_parts (gcons (gnum (suc zero)) (gcons a (gcons b (gcons c d)))) =
      more_and_or (from_operator a) (from_join b) (from_pipeline c) (from_and_or_parts d)
  from_and_or_parts _ = no_and_or

  pub from_pipeline : Gv → APipeline
  from_pipeline (gcons a (gcons b c)) = pipeline (from_ospan a) (from_command b) (from_pipes c)
  from_pipeline _ = any_pipeline

  pub from_pipes : Gv → PipelineParts
  from_pipes (gcons (gnum zero) gnil) = no_pipe
  from_pipes (gcons (gnum (suc zero)) (gcons a (gcons b c))) = more_pipes (from_join a) (from_command b) (from_pipes c)
  from_pipes _ = no_pipe

  pub from_command : Gv → ACommand
  from_command (gcons (gnum zero) a) = simple (from_items a)
  from_command (gcons (gnum (suc zero)) a) = compound (from_compound a)
  from_command (gcons (gnum (suc (suc zero))) (gcons a (gcons b c))) =
      function (from_span a) (from_spans b) (from_compound c)
  from_command _ = any_command

  pub from_compound : Gv → ACompound
  from_compound (gcons a (gcons b c)) = formed (from_form a) (from_span b) (from_items c)
  from_compound _ = any_compound

  pub from_form : Gv → AForm
  from_form (gcons (gnum zero) a) = brace (from_entries a)
  from_form (gcons (gnum (suc zero)) a) = subshell (from_entries a)
  from_form (gcons (gnum (suc (suc zero))) (gcons a (gcons b c))) =
      if_then (from_branch a) (from_branches b) (from_otherwise c)
  from_form (gcons (gnum (suc (suc (suc zero)))) a) = while_do (from_branch a)
  from_form (gcons (gnum (suc (suc (suc (suc zero))))) a) = until_do (from_branch a)
  from_form (gcons (gnum (suc (suc (suc (suc (suc zero)))))) (gcons a (gcons b c))) =
      for_in (from_word a) (from_for_words b) (from_entries c)
  from_form (gcons (gnum (suc (suc (suc (suc (suc (suc zero))))))) (gcons a (gcons b c))) =
      case_in (from_word a) (from_cases b) (from_spans c)
  from_form _ = any_form

  pub from_branch : Gv → ABranch
  from_branch (gcons a b) = branch (from_entries a) (from_entries b)
  from_branch _ = any_branch

  pub from_branches : Gv → Branches
  from_branches (gcons (gnum zero) gnil) = no_branch
  from_branches (gcons (gnum (suc zero)) (gcons a b)) = more_branches (from_branch a) (from_branches b)
  from_branches _ = no_branch

  pub from_otherwise : Gv → Otherwise
  from_otherwise (gcons (gnum zero) gnil) = no_else
  from_otherwise (gcons (gnum (suc zero)) a) = otherwise (from_entries a)
  from_otherwise _ = no_else

  pub from_for_words : Gv → ForWords
  from_for_words (gcons (gnum zero) gnil) = no_in
  from_for_words (gcons (gnum (suc zero)) a) = in_words (from_items a)
  from_for_words _ = no_in

  pub from_cases : Gv → CaseItems
  from_cases (gcons (gnum zero) gnil) = no_case
  from_cases (gcons (gnum (suc zero)) (gcons a b)) = more_cases (from_case a) (from_cases b)
  from_cases _ = no_case

  pub from_case : Gv → ACaseItem
  from_case (gcons a (gcons b (gcons c d))) = case_item (from_spans a) (from_patterns b) (from_entries c) (from_mark d)
  from_case _ = any_case

  pub from_patterns : Gv → Patterns
  from_patterns (gcons (gnum zero) gnil) = no_pattern
  from_patterns (gcons (gnum (suc zero)) (gcons a b)) = more_patterns (from_word a) (from_patterns b)
  from_patterns _ = no_pattern

  pub from_items : Gv → Items
  from_items (gcons (gnum zero) gnil) = no_item
  from_items (gcons (gnum (suc zero)) (gcons a b)) = more_items (from_item a) (from_items b)
  from_items _ = no_item

  pub from_item : Gv → AnItem
  from_item (gcons a b) = item (from_bool a) (from_item_content b)
  from_item _ = any_item

  pub from_item_content : Gv → AnItemContent
  from_item_content (gcons (gnum zero) a) = assign (from_word a)
  from_item_content (gcons (gnum (suc zero)) a) = argument (from_word a)
  from_item_content (gcons (gnum (suc (suc zero))) (gcons a (gcons b (gcons c (gcons d e))))) =
      redirect (from_ospan a) (from_redirect_operator b) (from_span c) (from_word d) (from_ohere e)
  from_item_content _ = any_item_content

  pub from_word : Gv → AWord
  from_word (gcons a b) = word (from_span a) (from_substs b)
  from_word _ = any_word

  pub from_substs : Gv → Substs
  from_substs (gcons (gnum zero) gnil) = no_subst
  from_substs (gcons (gnum (suc zero)) (gcons a b)) = more_substs (from_subst a) (from_substs b)
  from_substs _ = no_subst

  pub from_subst : Gv → ASubst
  from_subst (gcons a b) = subst (from_entries a) (from_span b)
  from_subst _ = any_subst

-- each part of a tree is what its code says
mutual
  pub back_entries : (x : Entries) → from_entries (to_entries x) ≡ x
  back_entries no_entry = refl
  back_entries (more_entries a b) = λ i. more_entries (back_entry a i) (back_entries b i)

  pub back_entry : (x : AnEntry) → from_entry (to_entry x) ≡ x
  back_entry (entry a b c d) = λ i. entry (back_content a i) (back_bool b i) (back_bool c i) (back_ospan d i)

  pub back_content : (x : AContent) → from_content (to_content x) ≡ x
  back_content (command a) = λ i. command (back_and_or a i)
  back_content (remark a) = λ i. remark (back_span a i)

  pub back_and_or : (x : AnAndOr) → from_and_or (to_and_or x) ≡ x
  back_and_or (and_or a b) = λ i. and_or (back_pipeline a i) (back_and_or_parts b i)

  pub back_and_or_parts : (x : AndOrParts) → from_and_or_parts (to_and_or_parts x) ≡ x
  back_and_or_parts no_and_or = refl
  back_and_or_parts (more_and_or a b c d) =
      λ i. more_and_or (back_operator a i) (back_join b i) (back_pipeline c i) (back_and_or_parts d i)

  pub back_pipeline : (x : APipeline) → from_pipeline (to_pipeline x) ≡ x
  back_pipeline (pipeline a b c) = λ i. pipeline (back_ospan a i) (back_command b i) (back_pipes c i)

  pub back_pipes : (x : PipelineParts) → from_pipes (to_pipes x) ≡ x
  back_pipes no_pipe = refl
  back_pipes (more_pipes a b c) = λ i. more_pipes (back_join a i) (back_command b i) (back_pipes c i)

  pub back_command : (x : ACommand) → from_command (to_command x) ≡ x
  back_command (simple a) = λ i. simple (back_items a i)
  back_command (compound a) = λ i. compound (back_compound a i)
  back_command (function a b c) = λ i. function (back_span a i) (back_spans b i) (back_compound c i)

  pub back_compound : (x : ACompound) → from_compound (to_compound x) ≡ x
  back_compound (formed a b c) = λ i. formed (back_form a i) (back_span b i) (back_items c i)

  pub back_form : (x : AForm) → from_form (to_form x) ≡ x
  back_form (brace a) = λ i. brace (back_entries a i)
  back_form (subshell a) = λ i. subshell (back_entries a i)
  back_form (if_then a b c) = λ i. if_then (back_branch a i) (back_branches b i) (back_otherwise c i)
  back_form (while_do a) = λ i. while_do (back_branch a i)
  back_form (until_do a) = λ i. until_do (back_branch a i)
  back_form (for_in a b c) = λ i. for_in (back_word a i) (back_for_words b i) (back_entries c i)
  back_form (case_in a b c) = λ i. case_in (back_word a i) (back_cases b i) (back_spans c i)

  pub back_branch : (x : ABranch) → from_branch (to_branch x) ≡ x
  back_branch (branch a b) = λ i. branch (back_entries a i) (back_entries b i)

  pub back_branches : (x : Branches) → from_branches (to_branches x) ≡ x
  back_branches no_branch = refl
  back_branches (more_branches a b) = λ i. more_branches (back_branch a i) (back_branches b i)

  pub back_otherwise : (x : Otherwise) → from_otherwise (to_otherwise x) ≡ x
  back_otherwise no_else = refl
  back_otherwise (otherwise a) = λ i. otherwise (back_entries a i)

  pub back_for_words : (x : ForWords) → from_for_words (to_for_words x) ≡ x
  back_for_words no_in = refl
  back_for_words (in_words a) = λ i. in_words (back_items a i)

  pub back_cases : (x : CaseItems) → from_cases (to_cases x) ≡ x
  back_cases no_case = refl
  back_cases (more_cases a b) = λ i. more_cases (back_case a i) (back_cases b i)

  pub back_case : (x : ACaseItem) → from_case (to_case x) ≡ x
  back_case (case_item a b c d) = λ i. case_item (back_spans a i) (back_patterns b i) (back_entries c i) (back_mark d i)

  pub back_patterns : (x : Patterns) → from_patterns (to_patterns x) ≡ x
  back_patterns no_pattern = refl
  back_patterns (more_patterns a b) = λ i. more_patterns (back_word a i) (back_patterns b i)

  pub back_items : (x : Items) → from_items (to_items x) ≡ x
  back_items no_item = refl
  back_items (more_items a b) = λ i. more_items (back_item a i) (back_items b i)

  pub back_item : (x : AnItem) → from_item (to_item x) ≡ x
  back_item (item a b) = λ i. item (back_bool a i) (back_item_content b i)

  pub back_item_content : (x : AnItemContent) → from_item_content (to_item_content x) ≡ x
  back_item_content (assign a) = λ i. assign (back_word a i)
  back_item_content (argument a) = λ i. argument (back_word a i)
  back_item_content (redirect a b c d e) =
      λ i. redirect (back_ospan a i) (back_redirect_operator b i) (back_span c i) (back_word d i) (back_ohere e i)

  pub back_word : (x : AWord) → from_word (to_word x) ≡ x
  back_word (word a b) = λ i. word (back_span a i) (back_substs b i)

  pub back_substs : (x : Substs) → from_substs (to_substs x) ≡ x
  back_substs no_subst = refl
  back_substs (more_substs a b) = λ i. more_substs (back_subst a i) (back_substs b i)

  pub back_subst : (x : ASubst) → from_subst (to_subst x) ≡ x
  back_subst (subst a b) = λ i. subst (back_entries a i) (back_span b i)

-- a tree of numbers is its own code
abbrev pub itself : Coded Gv
itself = record { code = λ g. g; inj = λ x y e. e }

-- the code of a list's entries
abbrev pub entries_code : Coded Entries
entries_code = code_by Gv itself to_entries from_entries back_entries

-- ---- lines

-- A line has entries, or a fault, or nothing: then a flag tells the end of the text from a blank line.

abbrev pub fault_code : Coded Fault
fault_code = the_fault.the_row.coded

-- which of the three a line is, and what it has of it
abbrev pub to_sum : AKind → Entries ⊎ (Fault ⊎ Bool)
to_sum blank_line = inr (inr false)
to_sum (entries_line es) = inl es
to_sum end_line = inr (inr true)
to_sum (faulty_line f) = inr (inl f)

abbrev pub from_sum : Entries ⊎ (Fault ⊎ Bool) → AKind
from_sum (inl es) = entries_line es
from_sum (inr (inl f)) = faulty_line f
from_sum (inr (inr false)) = blank_line
from_sum (inr (inr true)) = end_line

pub back_sum : (x : AKind) → from_sum (to_sum x) ≡ x
back_sum blank_line = refl
back_sum (entries_line es) = refl
back_sum end_line = refl
back_sum (faulty_line f) = refl

-- the code of what a line is
abbrev pub kind_code : Coded AKind
kind_code = code_by (Entries ⊎ (Fault ⊎ Bool))
    (coded⊎ entries_code (coded⊎ fault_code coded_bool)) to_sum from_sum back_sum
