-- The tree of a script, as definitions speak of it: no place in memory, no room of a vector.
--
-- T stands for its texts (words, names of functions, comments, numbers of redirections, bodies of
-- here-documents), M for its marks (where a `!`, the operator of a redirection, a compound command, an item
-- of a case, a substitution stands). The tree that is read has spans for both. The shape of a tree
-- (specs/Shape) has texts for the one and nothing for the other.
use Rattle.std.specs.Prelude.{Bool, List as Row, [], ◌∷◌, Option, None, Some}
use Rattle.shast.specs.declared.tree.Span.{Span}
use Rattle.shast.specs.declared.tree.AndOrOperator.{AndOrOperator}
use Rattle.shast.specs.declared.tree.RedirectOperator.{RedirectOperator}

-- what stands around an operator that joins two operands
pub record AJoinOf (T : Type 0) : Type 0 where
  pub broken : Bool
  pub comments : Row T

-- a here-document: literal where a part of its delimiter is quoted, stripped where
-- leading tabs are taken off its lines, its body
pub record AHereOf (T : Type 0) : Type 0 where
  pub literal : Bool
  pub strip : Bool
  pub body : T

-- Where an item of a case stands, and whether it falls through: `;&` ends it, and the next one is run too.
-- What more is told of an item, beside its comments and its trees, goes here.
pub record ACaseMarkOf (M : Type 0) : Type 0 where
  pub mark : M
  pub falls : Bool

-- the same of another mark
abbrev pub marked : {M N : Type 0} → (M → N) → ACaseMarkOf M → ACaseMarkOf N
marked f m = record { mark = f m.mark; falls = m.falls }

mutual
  -- a list
  pub data EntriesOf (T M : Type 0) : Type 0 where
    no_entry : EntriesOf T M
    more_entries : AnEntryOf T M → EntriesOf T M → EntriesOf T M

  -- an entry: what it is, in the background, blank, its comment
  pub data AnEntryOf (T M : Type 0) : Type 0 where
    entry : AContentOf T M → Bool → Bool → Option T → AnEntryOf T M

  pub data AContentOf (T M : Type 0) : Type 0 where
    command : AnAndOrOf T M → AContentOf T M
    remark : T → AContentOf T M

  -- an and-or list: its first pipeline and the rest
  pub data AnAndOrOf (T M : Type 0) : Type 0 where
    and_or : APipelineOf T M → AndOrPartsOf T M → AnAndOrOf T M

  pub data AndOrPartsOf (T M : Type 0) : Type 0 where
    no_and_or : AndOrPartsOf T M
    more_and_or : AndOrOperator → AJoinOf T → APipelineOf T M → AndOrPartsOf T M → AndOrPartsOf T M

  -- a pipeline: its `!`, its first command and the rest
  pub data APipelineOf (T M : Type 0) : Type 0 where
    pipeline : Option M → ACommandOf T M → PipelinePartsOf T M → APipelineOf T M

  pub data PipelinePartsOf (T M : Type 0) : Type 0 where
    no_pipe : PipelinePartsOf T M
    more_pipes : AJoinOf T → ACommandOf T M → PipelinePartsOf T M → PipelinePartsOf T M

  -- a command; a function has a name, comments and a body
  pub data ACommandOf (T M : Type 0) : Type 0 where
    simple : ItemsOf T M → ACommandOf T M
    compound : ACompoundOf T M → ACommandOf T M
    function : T → Row T → ACompoundOf T M → ACommandOf T M

  -- a compound command: its form, its span, its redirections
  pub data ACompoundOf (T M : Type 0) : Type 0 where
    formed : AFormOf T M → M → ItemsOf T M → ACompoundOf T M

  pub data AFormOf (T M : Type 0) : Type 0 where
    brace : EntriesOf T M → AFormOf T M
    subshell : EntriesOf T M → AFormOf T M
    if_then : ABranchOf T M → BranchesOf T M → OtherwiseOf T M → AFormOf T M
    while_do : ABranchOf T M → AFormOf T M
    until_do : ABranchOf T M → AFormOf T M
    for_in : AWordOf T M → ForWordsOf T M → EntriesOf T M → AFormOf T M
    case_in : AWordOf T M → CaseItemsOf T M → Row T → AFormOf T M

  -- a condition and what is run by it
  pub data ABranchOf (T M : Type 0) : Type 0 where
    branch : EntriesOf T M → EntriesOf T M → ABranchOf T M

  pub data BranchesOf (T M : Type 0) : Type 0 where
    no_branch : BranchesOf T M
    more_branches : ABranchOf T M → BranchesOf T M → BranchesOf T M

  -- what follows `else`, where it stands
  pub data OtherwiseOf (T M : Type 0) : Type 0 where
    no_else : OtherwiseOf T M
    otherwise : EntriesOf T M → OtherwiseOf T M

  -- what follows the `in` of a for, where it stands
  pub data ForWordsOf (T M : Type 0) : Type 0 where
    no_in : ForWordsOf T M
    in_words : ItemsOf T M → ForWordsOf T M

  pub data CaseItemsOf (T M : Type 0) : Type 0 where
    no_case : CaseItemsOf T M
    more_cases : ACaseItemOf T M → CaseItemsOf T M → CaseItemsOf T M

  -- an item of a case: the comments before it, its patterns, its body, and its mark
  pub data ACaseItemOf (T M : Type 0) : Type 0 where
    case_item : Row T → PatternsOf T M → EntriesOf T M → ACaseMarkOf M → ACaseItemOf T M

  pub data PatternsOf (T M : Type 0) : Type 0 where
    no_pattern : PatternsOf T M
    more_patterns : AWordOf T M → PatternsOf T M → PatternsOf T M

  -- the items of a simple command, the words of a for, or the redirections of a compound command
  pub data ItemsOf (T M : Type 0) : Type 0 where
    no_item : ItemsOf T M
    more_items : AnItemOf T M → ItemsOf T M → ItemsOf T M

  -- an item: broken, what it is
  pub data AnItemOf (T M : Type 0) : Type 0 where
    item : Bool → AnItemContentOf T M → AnItemOf T M

  -- a redirection has a number, an operator with its span, a word, and what belongs to `<<` and `<<-`
  pub data AnItemContentOf (T M : Type 0) : Type 0 where
    assign : AWordOf T M → AnItemContentOf T M
    argument : AWordOf T M → AnItemContentOf T M
    redirect : Option T → RedirectOperator → M → AWordOf T M → Option (AHereOf T) → AnItemContentOf T M

  -- a word and its substitutions
  pub data AWordOf (T M : Type 0) : Type 0 where
    word : T → SubstsOf T M → AWordOf T M

  pub data SubstsOf (T M : Type 0) : Type 0 where
    no_subst : SubstsOf T M
    more_substs : ASubstOf T M → SubstsOf T M → SubstsOf T M

  -- a substitution: its list and its span
  pub data ASubstOf (T M : Type 0) : Type 0 where
    subst : EntriesOf T M → M → ASubstOf T M

abbrev pub ACaseMark : Type 0
ACaseMark = ACaseMarkOf Span

-- an operator of an and-or list with its operand
pub record AnAndOrPartOf (T M : Type 0) : Type 0 where
  pub operator : AndOrOperator
  pub join : AJoinOf T
  pub pipeline : APipelineOf T M

-- the operator of a pipeline with its operand
pub record APipelinePartOf (T M : Type 0) : Type 0 where
  pub join : AJoinOf T
  pub command : ACommandOf T M

-- ---- a tree with spans

abbrev pub AJoin : Type 0
AJoin = AJoinOf Span

abbrev pub AHere : Type 0
AHere = AHereOf Span

abbrev pub Entries : Type 0
Entries = EntriesOf Span Span

abbrev pub AnEntry : Type 0
AnEntry = AnEntryOf Span Span

abbrev pub AContent : Type 0
AContent = AContentOf Span Span

abbrev pub AnAndOr : Type 0
AnAndOr = AnAndOrOf Span Span

abbrev pub AndOrParts : Type 0
AndOrParts = AndOrPartsOf Span Span

abbrev pub APipeline : Type 0
APipeline = APipelineOf Span Span

abbrev pub PipelineParts : Type 0
PipelineParts = PipelinePartsOf Span Span

abbrev pub ACommand : Type 0
ACommand = ACommandOf Span Span

abbrev pub ACompound : Type 0
ACompound = ACompoundOf Span Span

abbrev pub AForm : Type 0
AForm = AFormOf Span Span

abbrev pub ABranch : Type 0
ABranch = ABranchOf Span Span

abbrev pub Branches : Type 0
Branches = BranchesOf Span Span

abbrev pub Otherwise : Type 0
Otherwise = OtherwiseOf Span Span

abbrev pub ForWords : Type 0
ForWords = ForWordsOf Span Span

abbrev pub CaseItems : Type 0
CaseItems = CaseItemsOf Span Span

abbrev pub ACaseItem : Type 0
ACaseItem = ACaseItemOf Span Span

abbrev pub Patterns : Type 0
Patterns = PatternsOf Span Span

abbrev pub Items : Type 0
Items = ItemsOf Span Span

abbrev pub AnItem : Type 0
AnItem = AnItemOf Span Span

abbrev pub AnItemContent : Type 0
AnItemContent = AnItemContentOf Span Span

abbrev pub AWord : Type 0
AWord = AWordOf Span Span

abbrev pub Substs : Type 0
Substs = SubstsOf Span Span

abbrev pub ASubst : Type 0
ASubst = ASubstOf Span Span

abbrev pub AnAndOrPart : Type 0
AnAndOrPart = AnAndOrPartOf Span Span

abbrev pub APipelinePart : Type 0
APipelinePart = APipelinePartOf Span Span

-- ---- rows

abbrev pub entries_of : {T M : Type 0} → Row (AnEntryOf T M) → EntriesOf T M
entries_of [] = no_entry
entries_of (e ∷ es) = more_entries e (entries_of es)

abbrev pub and_or_parts_of : {T M : Type 0} → Row (AnAndOrPartOf T M) → AndOrPartsOf T M
and_or_parts_of [] = no_and_or
and_or_parts_of (p ∷ ps) = more_and_or p.operator p.join p.pipeline (and_or_parts_of ps)

abbrev pub pipeline_parts_of : {T M : Type 0} → Row (APipelinePartOf T M) → PipelinePartsOf T M
pipeline_parts_of [] = no_pipe
pipeline_parts_of (p ∷ ps) = more_pipes p.join p.command (pipeline_parts_of ps)

abbrev pub branches_of : {T M : Type 0} → Row (ABranchOf T M) → BranchesOf T M
branches_of [] = no_branch
branches_of (b ∷ bs) = more_branches b (branches_of bs)

abbrev pub otherwise_of : {T M : Type 0} → Option (EntriesOf T M) → OtherwiseOf T M
otherwise_of None = no_else
otherwise_of (Some es) = otherwise es

abbrev pub cases_of : {T M : Type 0} → Row (ACaseItemOf T M) → CaseItemsOf T M
cases_of [] = no_case
cases_of (c ∷ cs) = more_cases c (cases_of cs)

abbrev pub patterns_of : {T M : Type 0} → Row (AWordOf T M) → PatternsOf T M
patterns_of [] = no_pattern
patterns_of (w ∷ ws) = more_patterns w (patterns_of ws)

abbrev pub items_of : {T M : Type 0} → Row (AnItemOf T M) → ItemsOf T M
items_of [] = no_item
items_of (i ∷ is) = more_items i (items_of is)

abbrev pub for_words_of : {T M : Type 0} → Option (Row (AnItemOf T M)) → ForWordsOf T M
for_words_of None = no_in
for_words_of (Some is) = in_words (items_of is)

abbrev pub substs_of : {T M : Type 0} → Row (ASubstOf T M) → SubstsOf T M
substs_of [] = no_subst
substs_of (s ∷ ss) = more_substs s (substs_of ss)

-- ---- a compound command and its redirections

-- with these redirections in the place of its own
abbrev pub compound_with : {T M : Type 0} → ACompoundOf T M → ItemsOf T M → ACompoundOf T M
compound_with (formed form mark others) redirects = formed form mark redirects

-- a command that is not compound stays as it is
abbrev pub with_redirects : {T M : Type 0} → ACommandOf T M → ItemsOf T M → ACommandOf T M
with_redirects (compound c) redirects = compound (compound_with c redirects)
with_redirects other redirects = other
