-- What holds of each span of a tree, and of each simple command in it.
use Rattle.std.specs.Prelude.{ℕ, List as Row, [], ◌∷◌, Option, None, Some}
use Rattle.shast.specs.declared.tree.Span.{Span}
use Rattle.shast.specs.Tree.{AHere, Entries, no_entry, more_entries, AnEntry, entry, AContent, command, remark, AnAndOr, and_or, AndOrParts, no_and_or, more_and_or, APipeline, pipeline, PipelineParts, no_pipe, more_pipes, ACommand, simple, compound, function, ACompound, formed, AForm, brace, subshell, if_then, while_do, until_do, for_in, case_in, ABranch, branch, Branches, no_branch, more_branches, Otherwise, no_else, otherwise, ForWords, no_in, in_words, CaseItems, no_case, more_cases, ACaseItem, case_item, Patterns, no_pattern, more_patterns, Items, no_item, more_items, AnItem, item, AnItemContent, assign, argument, redirect, AWord, word, Substs, no_subst, more_substs, ASubst, subst}
use Rattle.shast.specs.Nodes.{IsSpanWithin}

-- ---- what holds of each span of a tree, P, and of the items of each simple command, Q

abbrev pub OfSome : (Span → Type 0) → Option Span → Type 0
OfSome P None = Unit {0}
OfSome P (Some s) = P s

abbrev pub OfEach : (Span → Type 0) → Row Span → Type 0
OfEach P [] = Unit {0}
OfEach P (s ∷ ss) = P s × OfEach P ss

abbrev pub OfHere : (Span → Type 0) → Option AHere → Type 0
OfHere P None = Unit {0}
OfHere P (Some h) = P h.body

module _ (P : Span → Type 0) (Q : Items → Type 0) where
  abbrev mutual
    pub Throughout : Entries → Type 0
    Throughout no_entry = Unit {0}
    Throughout (more_entries e es) = InEntry e × Throughout es

    pub InEntry : AnEntry → Type 0
    InEntry (entry what background blank comment) = InContent what × OfSome P comment

    pub InContent : AContent → Type 0
    InContent (command a) = InAndOr a
    InContent (remark c) = P c

    pub InAndOr : AnAndOr → Type 0
    InAndOr (and_or first rest) = InPipeline first × InAndOrParts rest

    pub InAndOrParts : AndOrParts → Type 0
    InAndOrParts no_and_or = Unit {0}
    InAndOrParts (more_and_or operator join p ps) = OfEach P join.comments × InPipeline p × InAndOrParts ps

    pub InPipeline : APipeline → Type 0
    InPipeline (pipeline bang first rest) = OfSome P bang × InCommand first × InPipes rest

    pub InPipes : PipelineParts → Type 0
    InPipes no_pipe = Unit {0}
    InPipes (more_pipes join c cs) = OfEach P join.comments × InCommand c × InPipes cs

    pub InCommand : ACommand → Type 0
    InCommand (simple items) = Q items × InItems items
    InCommand (compound c) = InCompound c
    InCommand (function name comments body) = P name × OfEach P comments × InCompound body

    pub InCompound : ACompound → Type 0
    InCompound (formed form span redirects) = InForm form × P span × InItems redirects

    pub InForm : AForm → Type 0
    InForm (brace es) = Throughout es
    InForm (subshell es) = Throughout es
    InForm (if_then first rest other) = InBranch first × InBranches rest × InElse other
    InForm (while_do b) = InBranch b
    InForm (until_do b) = InBranch b
    InForm (for_in name words body) = InWord name × InForWords words × Throughout body
    InForm (case_in w cases tail) = InWord w × InCases cases × OfEach P tail

    pub InBranch : ABranch → Type 0
    InBranch (branch condition body) = Throughout condition × Throughout body

    pub InBranches : Branches → Type 0
    InBranches no_branch = Unit {0}
    InBranches (more_branches b bs) = InBranch b × InBranches bs

    pub InElse : Otherwise → Type 0
    InElse no_else = Unit {0}
    InElse (otherwise es) = Throughout es

    pub InForWords : ForWords → Type 0
    InForWords no_in = Unit {0}
    InForWords (in_words items) = InItems items

    pub InCases : CaseItems → Type 0
    InCases no_case = Unit {0}
    InCases (more_cases c cs) = InCase c × InCases cs

    pub InCase : ACaseItem → Type 0
    InCase (case_item comments patterns body mark) = OfEach P comments × InPatterns patterns × Throughout body
        × P mark.mark

    pub InPatterns : Patterns → Type 0
    InPatterns no_pattern = Unit {0}
    InPatterns (more_patterns w ws) = InWord w × InPatterns ws

    pub InItems : Items → Type 0
    InItems no_item = Unit {0}
    InItems (more_items i is) = InItem i × InItems is

    pub InItem : AnItem → Type 0
    InItem (item broken what) = InItemContent what

    pub InItemContent : AnItemContent → Type 0
    InItemContent (assign w) = InWord w
    InItemContent (argument w) = InWord w
    InItemContent (redirect number operator span w here) = OfSome P number × P span × InWord w × OfHere P here

    pub InWord : AWord → Type 0
    InWord (word span substs) = P span × InSubsts substs

    pub InSubsts : Substs → Type 0
    InSubsts no_subst = Unit {0}
    InSubsts (more_substs s ss) = InSubst s × InSubsts ss

    pub InSubst : ASubst → Type 0
    InSubst (subst entries span) = Throughout entries × P span

-- no span of a list, that of the body of a here-document among them, names an offset above this one
abbrev pub SpansWithin : ℕ → Entries → Type 0
SpansWithin limit es = Throughout (IsSpanWithin limit) (λ items. Unit {0}) es

abbrev pub IsSome : Items → Type 0
IsSome no_item = ⊥
IsSome (more_items i is) = Unit {0}

-- each simple command of a list has an item
abbrev pub HaveItems : Entries → Type 0
HaveItems es = Throughout (λ s. Unit {0}) IsSome es
