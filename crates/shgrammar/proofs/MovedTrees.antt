-- Trees that are moved: their rows, and where their parts end.
use Rattle.std.proofs.Common.{◌≡◌, ℕ, ◌+◌, Bool, true, false, List as Row, [], ◌∷◌, ◌++◌, map, Option, Some, None, option_map, refl, sym, ap, ◌∙◌, is_some}
use Rattle.std.specs.Prelude.{All, unwrap_or}
use Rattle.std.proofs.lemmas.List.Elements.{All-head, All-tail}
use Rattle.shast.specs.declared.tree.Span.{Span}
use Rattle.shast.specs.Tree.{AJoin, AHere, Entries, more_entries, entries_of, AnEntry, entry, AContent, command, remark, AnAndOr, and_or, AnAndOrPart, AndOrParts, more_and_or, and_or_parts_of, APipeline, pipeline, APipelinePart, PipelineParts, more_pipes, pipeline_parts_of, ACommand, simple, compound, function, ACompound, formed, with_redirects, AForm, ABranch, more_branches, branches_of, Otherwise, ForWords, ACaseItem, more_cases, cases_of, more_patterns, patterns_of, Items, no_item, more_items, items_of, AnItem, item, assign, argument, redirect, AWord, word, more_substs, substs_of, ASubst}
use Rattle.shast.specs.Nodes.{placed_span, word_span, item_span, last_item, command_span, compound_span, last_command, pipeline_span, last_pipeline, and_or_span, commands_end}
use Rattle.shast.specs.Moved.{placed_body, kept_substs, carried, carried_join, carried_here, carried_entry, carried_and_or, carried_and_or_parts, carried_and_or_part, carried_pipeline, carried_pipes, carried_pipe, carried_command, carried_compound, carried_form, carried_branch, carried_branches, carried_else, carried_for_words, carried_cases, carried_case, carried_patterns, carried_items, carried_item, carried_word, carried_substs, carried_subst}
use Rattle.shgrammar.specs.Commands.{ASeparator, is_empty, past_separator}
use Rattle.shgrammar.specs.Compounds.{under_name, after_remarks}

-- ---- rows and what may be there

-- a row is empty just where one made of its elements is; with one more at its end it never is
pub is_empty_map : {A : Type 0} (c : A → A) (xs : Row A) → is_empty (map c xs) ≡ is_empty xs
is_empty_map c [] = refl
is_empty_map c (x ∷ xs) = refl

pub pushed_some : {A : Type 0} (xs : Row A) (x : A) → is_empty (xs ++ x ∷ []) ≡ false
pushed_some [] x = refl
pushed_some (y ∷ xs) x = refl

-- where an offset after a separator is told, there is a separator
pub parted_some : (o : Option ASeparator) → is_some (past_separator o) ≡ true → is_some o ≡ true
parted_some (Some s) so = refl
parted_some None so = absurd cc

-- what is kept of a row
abbrev pub kept_row : {A : Type 0} → Bool → Row A → Row A
kept_row true xs = xs
kept_row false xs = []

-- of an empty row nothing is kept
pub kept_none : {A : Type 0} (deep : Bool) → kept_row {A = A} deep [] ≡ []
kept_none true = refl
kept_none false = refl

module _ (k : ℕ) where
  -- what stands k further on: a span, a body, an offset, a join and a here-document
  abbrev pub span_to : Span → Span
  span_to s = placed_span k s

  abbrev pub body_to : Span → Span
  body_to s = placed_body k s

  abbrev pub offset_to : ℕ → ℕ
  offset_to p = k + p

  abbrev pub join_to : AJoin → AJoin
  join_to j = carried_join span_to body_to j

  abbrev pub here_to : AHere → AHere
  here_to d = carried_here span_to body_to d

  -- with the trees in substitutions, or without them
  module _ (deep : Bool) where
    -- a word, a substitution, an item and a command
    abbrev pub word_to : AWord → AWord
    word_to w = carried_word span_to body_to deep w

    abbrev pub subst_to : ASubst → ASubst
    subst_to s = carried_subst span_to body_to deep s

    abbrev pub item_to : AnItem → AnItem
    item_to i = carried_item span_to body_to deep i

    abbrev pub command_to : ACommand → ACommand
    command_to c = carried_command span_to body_to deep c

    -- a pipeline and an and-or list, and what they have after the first
    abbrev pub pipe_to : APipelinePart → APipelinePart
    pipe_to p = carried_pipe span_to body_to deep p

    abbrev pub pipeline_to : APipeline → APipeline
    pipeline_to p = carried_pipeline span_to body_to deep p

    abbrev pub part_to : AnAndOrPart → AnAndOrPart
    part_to p = carried_and_or_part span_to body_to deep p

    abbrev pub and_or_to : AnAndOr → AnAndOr
    and_or_to a = carried_and_or span_to body_to deep a

    -- an entry and a list
    abbrev pub entry_to : AnEntry → AnEntry
    entry_to e = carried_entry span_to body_to deep e

    abbrev pub list_to : Entries → Entries
    list_to es = carried span_to body_to deep es

    -- what a compound command has, and its form
    abbrev pub branch_to : ABranch → ABranch
    branch_to b = carried_branch span_to body_to deep b

    abbrev pub else_to : Otherwise → Otherwise
    else_to o = carried_else span_to body_to deep o

    abbrev pub for_words_to : ForWords → ForWords
    for_words_to ws = carried_for_words span_to body_to deep ws

    abbrev pub case_to : ACaseItem → ACaseItem
    case_to c = carried_case span_to body_to deep c

    abbrev pub form_to : AForm → AForm
    form_to m = carried_form span_to body_to deep m

    -- what is kept of the substitutions of a word
    abbrev pub substs_to : Row ASubst → Row ASubst
    substs_to ss = kept_row deep (map subst_to ss)

    -- a row whose parts are moved makes what the row makes, moved: of substitutions, all or those kept
    all_substs : (ss : Row ASubst) → substs_of (map subst_to ss) ≡ carried_substs span_to body_to deep (substs_of ss)
    all_substs [] = refl
    all_substs (s ∷ ss) = ap (more_substs (subst_to s)) (all_substs ss)

    substs_by : (e : Bool) (ss : Row ASubst) →
        substs_of (kept_row e (map subst_to ss)) ≡ kept_substs e (carried_substs span_to body_to deep (substs_of ss))
    substs_by true ss = all_substs ss
    substs_by false ss = refl

    pub substs_row : (ss : Row ASubst) →
        substs_of (substs_to ss) ≡ kept_substs deep (carried_substs span_to body_to deep (substs_of ss))
    substs_row ss = substs_by deep ss

    -- the same of items, and of what a pipeline and an and-or list have after the first
    pub items_row : (is : Row AnItem) → items_of (map item_to is) ≡ carried_items span_to body_to deep (items_of is)
    items_row [] = refl
    items_row (i ∷ is) = ap (more_items (item_to i)) (items_row is)

    pub pipes_row : (ps : Row APipelinePart) →
        pipeline_parts_of (map pipe_to ps) ≡ carried_pipes span_to body_to deep (pipeline_parts_of ps)
    pipes_row [] = refl
    pipes_row (p ∷ ps) = ap (more_pipes (join_to p.join) (command_to p.command)) (pipes_row ps)

    pub parts_row : (ps : Row AnAndOrPart) →
        and_or_parts_of (map part_to ps) ≡ carried_and_or_parts span_to body_to deep (and_or_parts_of ps)
    parts_row [] = refl
    parts_row (p ∷ ps) = ap (more_and_or p.operator (join_to p.join) (pipeline_to p.pipeline)) (parts_row ps)

    -- the same of entries, branches, items of a `case`, and patterns
    pub entries_row : (es : Row AnEntry) → entries_of (map entry_to es) ≡ list_to (entries_of es)
    entries_row [] = refl
    entries_row (e ∷ es) = ap (more_entries (entry_to e)) (entries_row es)

    pub branches_row : (bs : Row ABranch) →
        branches_of (map branch_to bs) ≡ carried_branches span_to body_to deep (branches_of bs)
    branches_row [] = refl
    branches_row (b ∷ bs) = ap (more_branches (branch_to b)) (branches_row bs)

    pub cases_row : (cs : Row ACaseItem) → cases_of (map case_to cs) ≡ carried_cases span_to body_to deep (cases_of cs)
    cases_row [] = refl
    cases_row (c ∷ cs) = ap (more_cases (case_to c)) (cases_row cs)

    pub patterns_row : (ws : Row AWord) →
        patterns_of (map word_to ws) ≡ carried_patterns span_to body_to deep (patterns_of ws)
    patterns_row [] = refl
    patterns_row (w ∷ ws) = ap (more_patterns (word_to w)) (patterns_row ws)

    -- comments before a list, redirections after a command, and a name before it: all are moved alike
    pub remarks_to : (cs : Row Span) (es : Entries) →
        after_remarks (map span_to cs) (list_to es) ≡ list_to (after_remarks cs es)
    remarks_to [] es = refl
    remarks_to (c ∷ cs) es = ap (more_entries (entry (remark (span_to c)) false false None)) (remarks_to cs es)

    pub redirects_to : (c : ACommand) (is : Items) →
        with_redirects (command_to c) (carried_items span_to body_to deep is) ≡ command_to (with_redirects c is)
    redirects_to (simple items) is = refl
    redirects_to (compound (formed form mark others)) is = refl
    redirects_to (function name comments body) is = refl

    pub under_name_to : (name : Span) (cs : Row Span) (c : ACommand) →
        under_name (span_to name) (map span_to cs) (command_to c) ≡ command_to (under_name name cs c)
    under_name_to name cs (simple items) = refl
    under_name_to name cs (compound body) = refl
    under_name_to name cs (function other comments body) = refl

    -- ---- where a part stands

    -- the span of a moved word is its span moved
    pub word_span_to : (w : AWord) → word_span (word_to w) ≡ span_to (word_span w)
    word_span_to (word span substs) = refl

    -- so is one of two spans, the first of which may be missing
    begin_to : (begin : Option Span) (s : Span) →
        unwrap_or (option_map span_to begin) (span_to s) ≡ span_to (unwrap_or begin s)
    begin_to None s = refl
    begin_to (Some t) s = refl

    -- so is the span of an item, and that of the last one of a row, or what stands before that
    item_span_to : (i : AnItem) → item_span (item_to i) ≡ span_to (item_span i)
    item_span_to (item broken (assign w)) = word_span_to w
    item_span_to (item broken (argument w)) = word_span_to w
    item_span_to (item broken (redirect number operator span w here)) = rw (begin_to number span, word_span_to w) refl

    last_item_to : (before : Span) (is : Items) →
        last_item (span_to before) (carried_items span_to body_to deep is) ≡ span_to (last_item before is)
    last_item_to before no_item = refl
    last_item_to before (more_items i is) =
        ap (λ (s : Span). last_item s (carried_items span_to body_to deep is)) (item_span_to i)
        ∙ last_item_to (item_span i) is

    -- ---- where a part ends: a simple command without items, which none that was read is, ends at 0 wherever
    -- it stands

    -- the end of the command is moved with it
    abbrev pub CommandEnds : ACommand → Type 0
    CommandEnds c = (command_span (command_to c)).«end» ≡ k + (command_span c).«end»

    -- so it is with a simple command that has an item
    pub simple_ends : (is : Row AnItem) → is_empty is ≡ false → CommandEnds (simple (items_of is))
    simple_ends [] some = absurd cc
    simple_ends (i ∷ is) some = ap (λ (s : Span). s.«end»)
        (ap (λ (s : Span). last_item s (carried_items span_to body_to deep (items_of is))) (item_span_to i)
        ∙ last_item_to (item_span i) (items_of is))

    -- so it is with each compound command
    compound_end : (c : ACompound) →
        (compound_span (carried_compound span_to body_to deep c)).«end» ≡ k + (compound_span c).«end»
    compound_end (formed form span redirects) = ap (λ (s : Span). s.«end») (last_item_to span redirects)

    pub compound_ends : (c : ACompound) → CommandEnds (compound c)
    compound_ends c = compound_end c

    -- so it is with redirections given to a command, and with a name before it
    pub redirects_end : (c : ACommand) (is : Items) → CommandEnds c → CommandEnds (with_redirects c is)
    redirects_end (simple items) is so = so
    redirects_end (compound (formed form mark others)) is so = compound_end (formed form mark is)
    redirects_end (function name comments body) is so = so

    pub under_name_ends : (name : Span) (cs : Row Span) (c : ACommand) → CommandEnds c →
        CommandEnds (under_name name cs c)
    under_name_ends name cs (simple items) so = so
    under_name_ends name cs (compound body) so = compound_end body
    under_name_ends name cs (function other comments body) so = so

    -- so it is with the command of a part of a pipeline
    abbrev pub PipeEnds : APipelinePart → Type 0
    PipeEnds p = CommandEnds p.command

    -- where the last part of a row ends is moved, or what stands before the row
    pipes_end : (before there : Span) → there.«end» ≡ k + before.«end» → (ps : Row APipelinePart) → All PipeEnds ps
        → (last_command there (pipeline_parts_of (map pipe_to ps))).«end»
        ≡ k + (last_command before (pipeline_parts_of ps)).«end»
    pipes_end before there is [] all = is
    pipes_end before there is (p ∷ ps) all =
        pipes_end (command_span p.command) (command_span (command_to p.command)) (All-head PipeEnds p ps all) ps
        (All-tail PipeEnds p ps all)

    -- the same of a pipeline, where it is so with each of its commands
    abbrev pub PipelineEnds : APipeline → Type 0
    PipelineEnds p = (pipeline_span (pipeline_to p)).«end» ≡ k + (pipeline_span p).«end»

    pub pipeline_ends : (bang : Option Span) (c : ACommand) (ps : Row APipelinePart) → CommandEnds c → All PipeEnds ps →
        PipelineEnds (pipeline bang c (pipeline_parts_of ps))
    pipeline_ends bang c ps first all =
        ap (λ (qs : PipelineParts). (last_command (command_span (command_to c)) qs).«end») (sym (pipes_row ps))
        ∙ pipes_end (command_span c) (command_span (command_to c)) first ps all

    -- the same of a part of an and-or list, and of the last one of a row
    abbrev pub PartEnds : AnAndOrPart → Type 0
    PartEnds p = PipelineEnds p.pipeline

    parts_end : (before there : Span) → there.«end» ≡ k + before.«end» → (ps : Row AnAndOrPart) → All PartEnds ps
        → (last_pipeline there (and_or_parts_of (map part_to ps))).«end»
        ≡ k + (last_pipeline before (and_or_parts_of ps)).«end»
    parts_end before there is [] all = is
    parts_end before there is (p ∷ ps) all =
        parts_end (pipeline_span p.pipeline) (pipeline_span (pipeline_to p.pipeline)) (All-head PartEnds p ps all) ps
        (All-tail PartEnds p ps all)

    -- the same of an and-or list, where it is so with each of its pipelines
    abbrev pub AndOrEnds : AnAndOr → Type 0
    AndOrEnds a = (and_or_span (and_or_to a)).«end» ≡ k + (and_or_span a).«end»

    pub and_or_ends : (p : APipeline) (ps : Row AnAndOrPart) → PipelineEnds p → All PartEnds ps →
        AndOrEnds (and_or p (and_or_parts_of ps))
    and_or_ends p ps first all =
        ap (λ (qs : AndOrParts). (last_pipeline (pipeline_span (pipeline_to p)) qs).«end») (sym (parts_row ps))
        ∙ parts_end (pipeline_span p) (pipeline_span (pipeline_to p)) first ps all

    -- the same of an entry; nothing is said of a comment
    abbrev pub ContentEnds : AContent → Type 0
    ContentEnds (command a) = AndOrEnds a
    ContentEnds (remark c) = Unit {0}

    abbrev pub EntryEnds : AnEntry → Type 0
    EntryEnds (entry what background blank comment) = ContentEnds what

    -- where the last command of a row ends is moved, or the place before the row
    pub entries_end : (before : ℕ) (es : Row AnEntry) → All EntryEnds es →
        commands_end (k + before) (entries_of (map entry_to es)) ≡ k + commands_end before (entries_of es)
    entries_end before [] all = refl
    entries_end before (entry (command a) background blank comment ∷ es) all =
        rw (All-head EntryEnds (entry (command a) background blank comment) es all)
        (entries_end (and_or_span a).«end» es
        (All-tail EntryEnds (entry (command a) background blank comment) es all))
    entries_end before (entry (remark c) background blank comment ∷ es) all =
        entries_end before es (All-tail EntryEnds (entry (remark c) background blank comment) es all)
