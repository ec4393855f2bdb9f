-- What holds of each span of a tree, and of the items of each simple command: of parts in rows, of what
-- follows from it, of a tree with its bodies; and where the last command ends.
use Rattle.std.proofs.Common.{ℕ, ◌≤◌, List as Row, [], ◌∷◌, ◌++◌, Option, None, Some, arith}
use Rattle.std.specs.Prelude.{All}
use Rattle.std.proofs.lemmas.List.Elements.{All-head, All-tail}
use Rattle.shast.specs.declared.tree.Span.{Span}
use Rattle.shast.specs.Tree.{AHere, Entries, no_entry, more_entries, AnEntry, entry, AContent, command, remark, AnAndOr, and_or, AnAndOrPart, AndOrParts, no_and_or, more_and_or, APipeline, pipeline, APipelinePart, PipelineParts, no_pipe, more_pipes, ACommand, simple, compound, function, ACompound, formed, AForm, brace, subshell, if_then, while_do, until_do, for_in, case_in, ABranch, branch, Branches, no_branch, more_branches, Otherwise, no_else, otherwise, ForWords, no_in, in_words, CaseItems, no_case, more_cases, ACaseItem, case_item, Patterns, no_pattern, more_patterns, Items, no_item, more_items, AnItem, item, AnItemContent, assign, argument, redirect, AWord, word, Substs, no_subst, more_substs, ASubst, subst, entries_of, and_or_parts_of, pipeline_parts_of, branches_of, cases_of, patterns_of, items_of, substs_of}
use Rattle.shast.specs.Bodies.{fill_here, fill_item_content, fill_item, fill_items, fill_entries, fill_entry, fill_content, fill_and_or, fill_and_or_parts, fill_pipeline, fill_pipes, fill_command, fill_compound, fill_form, fill_branch, fill_branches, fill_else, fill_cases, fill_case, filled}
use Rattle.shast.specs.Nodes.{IsSpanWithin, and_or_span, command_span, commands_end, compound_span, item_span, items_span, last_command, last_item, last_pipeline, pipeline_span, word_span}
use Rattle.shast.specs.Everywhere.{SpansWithin, HaveItems, OfSome, OfEach, OfHere, Throughout, InEntry, InContent, InAndOr, InAndOrParts, InPipeline, InPipes, InCommand, InCompound, InForm, InBranch, InBranches, InElse, InForWords, InCases, InCase, InPatterns, InItems, InItem, InItemContent, InWord, InSubsts, InSubst, IsSome}
use Rattle.shast.proofs.Reach.{span_fits_more}

-- ---- no span above a limit, and an item in each simple command: each kind of part, and rows of them

module _ (limit : ℕ) where
  -- spans in a row, one that may be missing, and the body of a here-document
  abbrev pub AreIn : Row Span → Type 0
  AreIn cs = All (IsSpanWithin limit) cs

  abbrev pub SomeIn : Option Span → Type 0
  SomeIn c = OfSome (IsSpanWithin limit) c

  abbrev pub HereIn : Option AHere → Type 0
  HereIn d = OfHere (IsSpanWithin limit) d

  -- a substitution, a word, an item, a command, a pipeline and an and-or list
  abbrev pub SubstIn : ASubst → Type 0
  SubstIn s = InSubst (IsSpanWithin limit) IsSome s

  abbrev pub WordIn : AWord → Type 0
  WordIn w = InWord (IsSpanWithin limit) IsSome w

  abbrev pub ItemIn : AnItem → Type 0
  ItemIn i = InItem (IsSpanWithin limit) IsSome i

  abbrev pub CommandIn : ACommand → Type 0
  CommandIn c = InCommand (IsSpanWithin limit) IsSome c

  abbrev pub PipelineIn : APipeline → Type 0
  PipelineIn p = InPipeline (IsSpanWithin limit) IsSome p

  abbrev pub AndOrIn : AnAndOr → Type 0
  AndOrIn a = InAndOr (IsSpanWithin limit) IsSome a

  -- the operator of a pipeline, or of an and-or list, with its operand
  abbrev pub PipeIn : APipelinePart → Type 0
  PipeIn p = AreIn p.join.comments × CommandIn p.command

  abbrev pub PartIn : AnAndOrPart → Type 0
  PartIn p = AreIn p.join.comments × PipelineIn p.pipeline

  -- an entry, and a list
  abbrev pub EntryIn : AnEntry → Type 0
  EntryIn e = InEntry (IsSpanWithin limit) IsSome e

  abbrev pub EntriesIn : Entries → Type 0
  EntriesIn es = Throughout (IsSpanWithin limit) IsSome es

  -- the parts of a compound command
  abbrev pub FormIn : AForm → Type 0
  FormIn m = InForm (IsSpanWithin limit) IsSome m

  abbrev pub BranchIn : ABranch → Type 0
  BranchIn b = InBranch (IsSpanWithin limit) IsSome b

  abbrev pub ElseIn : Otherwise → Type 0
  ElseIn o = InElse (IsSpanWithin limit) IsSome o

  abbrev pub ForWordsIn : ForWords → Type 0
  ForWordsIn ws = InForWords (IsSpanWithin limit) IsSome ws

  abbrev pub CaseIn : ACaseItem → Type 0
  CaseIn c = InCase (IsSpanWithin limit) IsSome c

  -- what holds of each in a row holds of the row as a tree has it: of spans, substitutions, items, words
  pub spans_in : (cs : Row Span) → AreIn cs → OfEach (IsSpanWithin limit) cs
  spans_in [] all = tt
  spans_in (c ∷ cs) all = (All-head (IsSpanWithin limit) c cs all, spans_in cs (All-tail (IsSpanWithin limit) c cs all))

  pub substs_in : (ss : Row ASubst) → All SubstIn ss → InSubsts (IsSpanWithin limit) IsSome (substs_of ss)
  substs_in [] all = tt
  substs_in (s ∷ ss) all = (All-head SubstIn s ss all, substs_in ss (All-tail SubstIn s ss all))

  pub items_in : (is : Row AnItem) → All ItemIn is → InItems (IsSpanWithin limit) IsSome (items_of is)
  items_in [] all = tt
  items_in (i ∷ is) all = (All-head ItemIn i is all, items_in is (All-tail ItemIn i is all))

  pub words_in : (ws : Row AWord) → All WordIn ws → InPatterns (IsSpanWithin limit) IsSome (patterns_of ws)
  words_in [] all = tt
  words_in (w ∷ ws) all = (All-head WordIn w ws all, words_in ws (All-tail WordIn w ws all))

  -- the same of the items of a `case`, and of branches
  pub cases_in : (cs : Row ACaseItem) → All CaseIn cs → InCases (IsSpanWithin limit) IsSome (cases_of cs)
  cases_in [] all = tt
  cases_in (c ∷ cs) all = (All-head CaseIn c cs all, cases_in cs (All-tail CaseIn c cs all))

  pub branches_in : (bs : Row ABranch) → All BranchIn bs → InBranches (IsSpanWithin limit) IsSome (branches_of bs)
  branches_in [] all = tt
  branches_in (b ∷ bs) all = (All-head BranchIn b bs all, branches_in bs (All-tail BranchIn b bs all))

  -- the same of the commands of a pipeline, the pipelines of an and-or list, and entries
  pub pipes_in : (ps : Row APipelinePart) → All PipeIn ps → InPipes (IsSpanWithin limit) IsSome (pipeline_parts_of ps)
  pipes_in [] all = tt
  pipes_in (p ∷ ps) all =
      let one = All-head PipeIn p ps all in
      (spans_in p.join.comments one.0, one.1, pipes_in ps (All-tail PipeIn p ps all))

  pub parts_in : (ps : Row AnAndOrPart) → All PartIn ps → InAndOrParts (IsSpanWithin limit) IsSome (and_or_parts_of ps)
  parts_in [] all = tt
  parts_in (p ∷ ps) all =
      let one = All-head PartIn p ps all in
      (spans_in p.join.comments one.0, one.1, parts_in ps (All-tail PartIn p ps all))

  pub entries_in : (es : Row AnEntry) → All EntryIn es → EntriesIn (entries_of es)
  entries_in [] all = tt
  entries_in (e ∷ es) all = (All-head EntryIn e es all, entries_in es (All-tail EntryIn e es all))

-- a row with one more item is not empty
pub some_pushed : (is : Row AnItem) (i : AnItem) → IsSome (items_of (is ++ i ∷ []))
some_pushed [] i = tt
some_pushed (h ∷ is) i = tt

-- ---- what follows from it

module _ (P R : Span → Type 0) (Q S : Items → Type 0) (p : (s : Span) → P s → R s)
    (q : (items : Items) → Q items → S items) where
  -- where R follows from P, it does of a span that may be missing, of a row, and of a body
  some_so : (c : Option Span) → OfSome P c → OfSome R c
  some_so None so = tt
  some_so (Some s) so = p s so

  each_so : (cs : Row Span) → OfEach P cs → OfEach R cs
  each_so [] so = tt
  each_so (c ∷ cs) so = (p c so.0, each_so cs so.1)

  here_so : (d : Option AHere) → OfHere P d → OfHere R d
  here_so None so = tt
  here_so (Some d) so = p d.body so

  -- where S follows from Q too, both do throughout a list, and in each part of it
  mutual
    pub throughout_so : (es : Entries) → Throughout P Q es → Throughout R S es
    throughout_so no_entry so = tt
    throughout_so (more_entries e es) so = (entry_so e so.0, throughout_so es so.1)

    entry_so : (e : AnEntry) → InEntry P Q e → InEntry R S e
    entry_so (entry what background blank comment) so = (content_so what so.0, some_so comment so.1)

    content_so : (c : AContent) → InContent P Q c → InContent R S c
    content_so (command a) so = and_or_so a so
    content_so (remark c) so = p c so

    and_or_so : (a : AnAndOr) → InAndOr P Q a → InAndOr R S a
    and_or_so (and_or first rest) so = (pipeline_so first so.0, and_or_parts_so rest so.1)

    and_or_parts_so : (ps : AndOrParts) → InAndOrParts P Q ps → InAndOrParts R S ps
    and_or_parts_so no_and_or so = tt
    and_or_parts_so (more_and_or operator join one ps) so =
        (each_so join.comments so.0, pipeline_so one so.1, and_or_parts_so ps so.2)

    -- in a pipeline and a command
    pipeline_so : (l : APipeline) → InPipeline P Q l → InPipeline R S l
    pipeline_so (pipeline bang first rest) so = (some_so bang so.0, command_so first so.1, pipes_so rest so.2)

    pipes_so : (cs : PipelineParts) → InPipes P Q cs → InPipes R S cs
    pipes_so no_pipe so = tt
    pipes_so (more_pipes join c cs) so = (each_so join.comments so.0, command_so c so.1, pipes_so cs so.2)

    command_so : (c : ACommand) → InCommand P Q c → InCommand R S c
    command_so (simple items) so = (q items so.0, items_so items so.1)
    command_so (compound c) so = compound_so c so
    command_so (function name comments body) so = (p name so.0, each_so comments so.1, compound_so body so.2)

    -- in a compound command, by its form
    compound_so : (c : ACompound) → InCompound P Q c → InCompound R S c
    compound_so (formed form span redirects) so = (form_so form so.0, p span so.1, items_so redirects so.2)

    form_so : (m : AForm) → InForm P Q m → InForm R S m
    form_so (brace es) so = throughout_so es so
    form_so (subshell es) so = throughout_so es so
    form_so (if_then first rest other) so = (branch_so first so.0, branches_so rest so.1, else_so other so.2)
    form_so (while_do b) so = branch_so b so
    form_so (until_do b) so = branch_so b so
    form_so (for_in name words body) so = (word_so name so.0, for_words_so words so.1, throughout_so body so.2)
    form_so (case_in w cases tail) so = (word_so w so.0, cases_so_far cases so.1, each_so tail so.2)

    branch_so : (b : ABranch) → InBranch P Q b → InBranch R S b
    branch_so (branch condition body) so = (throughout_so condition so.0, throughout_so body so.1)

    branches_so : (bs : Branches) → InBranches P Q bs → InBranches R S bs
    branches_so no_branch so = tt
    branches_so (more_branches b bs) so = (branch_so b so.0, branches_so bs so.1)

    else_so : (o : Otherwise) → InElse P Q o → InElse R S o
    else_so no_else so = tt
    else_so (otherwise es) so = throughout_so es so

    -- in the words of a `for`, and in the items of a `case`
    for_words_so : (ws : ForWords) → InForWords P Q ws → InForWords R S ws
    for_words_so no_in so = tt
    for_words_so (in_words items) so = items_so items so

    cases_so_far : (cs : CaseItems) → InCases P Q cs → InCases R S cs
    cases_so_far no_case so = tt
    cases_so_far (more_cases c cs) so = (case_so c so.0, cases_so_far cs so.1)

    case_so : (c : ACaseItem) → InCase P Q c → InCase R S c
    case_so (case_item comments patterns body mark) so =
        (each_so comments so.0, patterns_so patterns so.1, throughout_so body so.2, p mark.mark so.3)

    patterns_so : (ws : Patterns) → InPatterns P Q ws → InPatterns R S ws
    patterns_so no_pattern so = tt
    patterns_so (more_patterns w ws) so = (word_so w so.0, patterns_so ws so.1)

    -- in items, words and substitutions
    items_so : (items : Items) → InItems P Q items → InItems R S items
    items_so no_item so = tt
    items_so (more_items i is) so = (item_so i so.0, items_so is so.1)

    item_so : (i : AnItem) → InItem P Q i → InItem R S i
    item_so (item broken what) so = item_content_so what so

    item_content_so : (c : AnItemContent) → InItemContent P Q c → InItemContent R S c
    item_content_so (assign w) so = word_so w so
    item_content_so (argument w) so = word_so w so
    item_content_so (redirect number operator span w d) so =
        (some_so number so.0, p span so.1, word_so w so.2, here_so d so.3)

    word_so : (w : AWord) → InWord P Q w → InWord R S w
    word_so (word span substs) so = (p span so.0, substs_so substs so.1)

    substs_so : (ss : Substs) → InSubsts P Q ss → InSubsts R S ss
    substs_so no_subst so = tt
    substs_so (more_substs s ss) so = (subst_so s so.0, substs_so ss so.1)

    subst_so : (s : ASubst) → InSubst P Q s → InSubst R S s
    subst_so (subst entries span) so = (throughout_so entries so.0, p span so.1)

-- what is within a limit is within each greater one
pub all_within_more : (limit more : ℕ) (es : Entries) → limit ≤ more → SpansWithin limit es → SpansWithin more es
all_within_more limit more es le so =
    throughout_so (IsSpanWithin limit) (IsSpanWithin more) (λ items. Unit {0}) (λ items. Unit {0})
    (span_fits_more limit more le) (λ items one. one) es so

-- ---- a tree with its bodies

module _ (P : Span → Type 0) (Q : Items → Type 0)
    (keeps : (items : Items) (ts : Row Span) → Q items → Q (fill_items items ts).0) where
  -- of a part with its bodies, and of those that are left
  abbrev Kept : {X : Type 0} → (X → Type 0) → X × Row Span → Type 0
  Kept In x = In x.0 × All P x.1

  -- where P holds of a part and of bodies, it holds of the part with its own, and of those that are left
  fills_here : (d : Option AHere) (ts : Row Span) → OfHere P d → All P ts → Kept (OfHere P) (fill_here d ts)
  fills_here None ts so all = (tt, all)
  fills_here (Some d) [] so all = (so, all)
  fills_here (Some d) (t ∷ ts) so all = (All-head P t ts all, All-tail P t ts all)

  fills_item : (i : AnItem) (ts : Row Span) → InItem P Q i → All P ts → Kept (InItem P Q) (fill_item i ts)
  unfolding fill_item fill_item_content
  fills_item (item broken (assign w)) ts so all = (so, all)
  fills_item (item broken (argument w)) ts so all = (so, all)
  fills_item (item broken (redirect number operator span w d)) ts so all =
      let x = fills_here d ts so.3 all in
      ((so.0, so.1, so.2, x.0), x.1)

  fills_items : (items : Items) (ts : Row Span) → InItems P Q items → All P ts →
      Kept (InItems P Q) (fill_items items ts)
  unfolding fill_items
  fills_items no_item ts so all = (tt, all)
  fills_items (more_items i is) ts so all =
      let x = fills_item i ts so.0 all in
      let y = fills_items is (fill_item i ts).1 so.1 x.1 in
      ((x.0, y.0), y.1)

  -- the same throughout a list, and in each part of it
  mutual
    unfolding fill_entries fill_entry fill_content fill_and_or fill_and_or_parts fill_pipeline fill_pipes fill_command
        fill_compound fill_form fill_branch fill_branches fill_else fill_cases fill_case

    fills : (es : Entries) (ts : Row Span) → Throughout P Q es → All P ts → Kept (Throughout P Q) (fill_entries es ts)
    fills no_entry ts so all = (tt, all)
    fills (more_entries e es) ts so all =
        let x = fills_entry e ts so.0 all in
        let y = fills es (fill_entry e ts).1 so.1 x.1 in
        ((x.0, y.0), y.1)

    fills_entry : (e : AnEntry) (ts : Row Span) → InEntry P Q e → All P ts → Kept (InEntry P Q) (fill_entry e ts)
    fills_entry (entry what background blank comment) ts so all =
        let x = fills_content what ts so.0 all in
        ((x.0, so.1), x.1)

    fills_content : (c : AContent) (ts : Row Span) → InContent P Q c → All P ts →
        Kept (InContent P Q) (fill_content c ts)
    fills_content (command a) ts so all = fills_and_or a ts so all
    fills_content (remark c) ts so all = (so, all)

    fills_and_or : (a : AnAndOr) (ts : Row Span) → InAndOr P Q a → All P ts → Kept (InAndOr P Q) (fill_and_or a ts)
    fills_and_or (and_or first rest) ts so all =
        let x = fills_pipeline first ts so.0 all in
        let y = fills_and_or_parts rest (fill_pipeline first ts).1 so.1 x.1 in
        ((x.0, y.0), y.1)

    fills_and_or_parts : (ps : AndOrParts) (ts : Row Span) → InAndOrParts P Q ps → All P ts →
        Kept (InAndOrParts P Q) (fill_and_or_parts ps ts)
    fills_and_or_parts no_and_or ts so all = (tt, all)
    fills_and_or_parts (more_and_or operator join p ps) ts so all =
        let x = fills_pipeline p ts so.1 all in
        let y = fills_and_or_parts ps (fill_pipeline p ts).1 so.2 x.1 in
        ((so.0, x.0, y.0), y.1)

    -- in a pipeline and a command
    fills_pipeline : (p : APipeline) (ts : Row Span) → InPipeline P Q p → All P ts →
        Kept (InPipeline P Q) (fill_pipeline p ts)
    fills_pipeline (pipeline bang first rest) ts so all =
        let x = fills_command first ts so.1 all in
        let y = fills_pipes rest (fill_command first ts).1 so.2 x.1 in
        ((so.0, x.0, y.0), y.1)

    fills_pipes : (cs : PipelineParts) (ts : Row Span) → InPipes P Q cs → All P ts →
        Kept (InPipes P Q) (fill_pipes cs ts)
    fills_pipes no_pipe ts so all = (tt, all)
    fills_pipes (more_pipes join c cs) ts so all =
        let x = fills_command c ts so.1 all in
        let y = fills_pipes cs (fill_command c ts).1 so.2 x.1 in
        ((so.0, x.0, y.0), y.1)

    fills_command : (c : ACommand) (ts : Row Span) → InCommand P Q c → All P ts →
        Kept (InCommand P Q) (fill_command c ts)
    fills_command (simple items) ts so all =
        let x = fills_items items ts so.1 all in
        ((keeps items ts so.0, x.0), x.1)
    fills_command (compound c) ts so all = fills_compound c ts so all
    fills_command (function name comments body) ts so all =
        let x = fills_compound body ts so.2 all in
        ((so.0, so.1, x.0), x.1)

    -- in a compound command, by its form
    fills_compound : (c : ACompound) (ts : Row Span) → InCompound P Q c → All P ts →
        Kept (InCompound P Q) (fill_compound c ts)
    fills_compound (formed form span redirects) ts so all =
        let x = fills_form form ts so.0 all in
        let y = fills_items redirects (fill_form form ts).1 so.2 x.1 in
        ((x.0, so.1, y.0), y.1)

    fills_form : (m : AForm) (ts : Row Span) → InForm P Q m → All P ts → Kept (InForm P Q) (fill_form m ts)
    fills_form (brace es) ts so all = fills es ts so all
    fills_form (subshell es) ts so all = fills es ts so all
    fills_form (if_then first rest other) ts so all =
        let x = fills_branch first ts so.0 all in
        let y = fills_branches rest (fill_branch first ts).1 so.1 x.1 in
        let z = fills_else other (fill_branches rest (fill_branch first ts).1).1 so.2 y.1 in
        ((x.0, y.0, z.0), z.1)
    fills_form (while_do b) ts so all = fills_branch b ts so all
    fills_form (until_do b) ts so all = fills_branch b ts so all
    fills_form (for_in name words body) ts so all =
        let x = fills body ts so.2 all in
        ((so.0, so.1, x.0), x.1)
    fills_form (case_in w cases tail) ts so all =
        let x = fills_cases cases ts so.1 all in
        ((so.0, x.0, so.2), x.1)

    -- in branches, in `else`, and in the items of a `case`
    fills_branch : (b : ABranch) (ts : Row Span) → InBranch P Q b → All P ts → Kept (InBranch P Q) (fill_branch b ts)
    fills_branch (branch condition body) ts so all =
        let x = fills condition ts so.0 all in
        let y = fills body (fill_entries condition ts).1 so.1 x.1 in
        ((x.0, y.0), y.1)

    fills_branches : (bs : Branches) (ts : Row Span) → InBranches P Q bs → All P ts →
        Kept (InBranches P Q) (fill_branches bs ts)
    fills_branches no_branch ts so all = (tt, all)
    fills_branches (more_branches b bs) ts so all =
        let x = fills_branch b ts so.0 all in
        let y = fills_branches bs (fill_branch b ts).1 so.1 x.1 in
        ((x.0, y.0), y.1)

    fills_else : (o : Otherwise) (ts : Row Span) → InElse P Q o → All P ts → Kept (InElse P Q) (fill_else o ts)
    fills_else no_else ts so all = (tt, all)
    fills_else (otherwise es) ts so all = fills es ts so all

    fills_cases : (cs : CaseItems) (ts : Row Span) → InCases P Q cs → All P ts → Kept (InCases P Q) (fill_cases cs ts)
    fills_cases no_case ts so all = (tt, all)
    fills_cases (more_cases c cs) ts so all =
        let x = fills_case c ts so.0 all in
        let y = fills_cases cs (fill_case c ts).1 so.1 x.1 in
        ((x.0, y.0), y.1)

    fills_case : (c : ACaseItem) (ts : Row Span) → InCase P Q c → All P ts → Kept (InCase P Q) (fill_case c ts)
    fills_case (case_item comments patterns body mark) ts so all =
        let x = fills body ts so.2 all in
        ((so.0, so.1, x.0, so.3), x.1)

  -- so it holds throughout a list that has the bodies of its level
  pub throughout_filled : (ts : Row Span) (es : Entries) → All P ts → Throughout P Q es → Throughout P Q (filled ts es)
  unfolding filled
  throughout_filled [] es all so = so
  throughout_filled (t ∷ ts) es all so = (fills es (t ∷ ts) so all).0

-- no items get lost
pub some_filled : (items : Items) (ts : Row Span) → IsSome items → IsSome (fill_items items ts).0
unfolding fill_items
some_filled no_item ts so = absurd so
some_filled (more_items i is) ts so = tt

-- a list with the bodies of its level
pub bodies_in : (limit : ℕ) (bs : Row Span) (es : Entries) → AreIn limit bs → EntriesIn limit es →
    EntriesIn limit (filled bs es)
bodies_in limit bs es all so = throughout_filled (IsSpanWithin limit) IsSome some_filled bs es all so

-- the two, one by one
pub all_within : (limit : ℕ) (es : Entries) → EntriesIn limit es → SpansWithin limit es
all_within limit es so = throughout_so (IsSpanWithin limit) (IsSpanWithin limit) IsSome (λ items. Unit {0})
    (λ s within. within) (λ items some. tt) es so

pub have_items : (limit : ℕ) (es : Entries) → EntriesIn limit es → HaveItems es
have_items limit es so = throughout_so (IsSpanWithin limit) (λ s. Unit {0}) IsSome IsSome (λ s within. tt)
    (λ items some. some) es so

-- ---- where the last command of a list ends

module _ (limit : ℕ) where
  -- no word, no item and no row of items ends above the limit
  word_ends : (w : AWord) → WordIn limit w → (word_span w).«end» ≤ limit
  word_ends (word span substs) so = so.0.1

  item_ends : (i : AnItem) → ItemIn limit i → (item_span i).«end» ≤ limit
  item_ends (item broken (assign w)) so = word_ends w so
  item_ends (item broken (argument w)) so = word_ends w so
  item_ends (item broken (redirect number operator span w d)) so = word_ends w so.2

  last_item_ends : (before : Span) (items : Items) → before.«end» ≤ limit → InItems (IsSpanWithin limit) IsSome items →
      (last_item before items).«end» ≤ limit
  last_item_ends before no_item low so = low
  last_item_ends before (more_items i is) low so = last_item_ends (item_span i) is (item_ends i so.0) so.1

  items_end : (items : Items) → InItems (IsSpanWithin limit) IsSome items → (items_span items).«end» ≤ limit
  items_end no_item so = omega arith
  items_end (more_items i is) so = last_item_ends (item_span i) is (item_ends i so.0) so.1

  -- nor does a compound command, or a command
  compound_ends : (c : ACompound) → InCompound (IsSpanWithin limit) IsSome c → (compound_span c).«end» ≤ limit
  compound_ends (formed form span redirects) so = last_item_ends span redirects so.1.1 so.2

  command_ends : (c : ACommand) → CommandIn limit c → (command_span c).«end» ≤ limit
  command_ends (simple items) so = items_end items so.1
  command_ends (compound c) so = compound_ends c so
  command_ends (function name comments body) so = compound_ends body so.2

  -- nor do the commands of a pipeline, or the pipelines of an and-or list
  last_command_ends : (before : Span) (cs : PipelineParts) → before.«end» ≤ limit →
      InPipes (IsSpanWithin limit) IsSome cs → (last_command before cs).«end» ≤ limit
  last_command_ends before no_pipe low so = low
  last_command_ends before (more_pipes join c cs) low so =
      last_command_ends (command_span c) cs (command_ends c so.1) so.2

  pipeline_ends : (p : APipeline) → PipelineIn limit p → (pipeline_span p).«end» ≤ limit
  pipeline_ends (pipeline bang first rest) so =
      last_command_ends (command_span first) rest (command_ends first so.1) so.2

  last_pipeline_ends : (before : Span) (ps : AndOrParts) → before.«end» ≤ limit →
      InAndOrParts (IsSpanWithin limit) IsSome ps → (last_pipeline before ps).«end» ≤ limit
  last_pipeline_ends before no_and_or low so = low
  last_pipeline_ends before (more_and_or operator join p ps) low so =
      last_pipeline_ends (pipeline_span p) ps (pipeline_ends p so.1) so.2

  and_or_ends : (a : AnAndOr) → AndOrIn limit a → (and_or_span a).«end» ≤ limit
  and_or_ends (and_or first rest) so = last_pipeline_ends (pipeline_span first) rest (pipeline_ends first so.0) so.1

  -- nor does the last and-or list of a list, or what stands before that where it has none
  pub commands_end_low : (before : ℕ) (es : Entries) → before ≤ limit → EntriesIn limit es →
      commands_end before es ≤ limit
  commands_end_low before no_entry low so = low
  commands_end_low before (more_entries (entry (command a) background blank comment) es) low so =
      commands_end_low (and_or_span a).«end» es (and_or_ends a so.0.0) so.1
  commands_end_low before (more_entries (entry (remark c) background blank comment) es) low so =
      commands_end_low before es low so.1
