-- The normal form of a script's list: what holds of the tree by its structure alone,
-- whatever stands for its texts and its marks.
use Rattle.std.specs.Prelude.{Bool, true, false, ◌&&◌, ◌||◌, not, List as Row, [], ◌∷◌, None, is_none}
use Rattle.shast.specs.Tree.{AJoinOf, EntriesOf, no_entry, more_entries, AnEntryOf, entry, command, remark, AnAndOrOf, and_or, AndOrPartsOf, no_and_or, more_and_or, APipelineOf, pipeline, PipelinePartsOf, no_pipe, more_pipes, ACommandOf, simple, compound, function, ACompoundOf, formed, AFormOf, brace, subshell, if_then, while_do, until_do, for_in, case_in, ABranchOf, branch, BranchesOf, no_branch, more_branches, OtherwiseOf, no_else, otherwise, ForWordsOf, no_in, in_words, CaseItemsOf, no_case, more_cases, ACaseItemOf, case_item, PatternsOf, no_pattern, more_patterns, ItemsOf, no_item, more_items, AnItemOf, item, AnItemContentOf, assign, argument, redirect, AWordOf, word, SubstsOf, no_subst, more_substs, ASubstOf, subst}

module _ {T : Type 0} where
  abbrev pub broken_by : Row T → Bool → Bool
  broken_by [] broken = true
  broken_by (c ∷ cs) broken = broken

  -- a comment ends its line, so a join with comments is broken
  abbrev pub is_normal_join : AJoinOf T → Bool
  is_normal_join j = broken_by j.comments j.broken

module _ {T M : Type 0} where
  abbrev pub is_blank_entry : AnEntryOf T M → Bool
  is_blank_entry (entry what background blank comment) = blank

  -- nothing stands before the first entry of a list, so it is not blank
  abbrev pub first_not_blank : EntriesOf T M → Bool
  first_not_blank no_entry = true
  first_not_blank (more_entries e es) = not (is_blank_entry e)

  abbrev pub is_broken : AnItemOf T M → Bool
  is_broken (item broken what) = broken

  -- nothing stands before the first item of a simple command, or the first word of a for, so it is not broken
  abbrev pub first_not_broken : ItemsOf T M → Bool
  first_not_broken no_item = true
  first_not_broken (more_items i is) = not (is_broken i)

  abbrev pub is_command : AnEntryOf T M → Bool
  is_command (entry (command a) background blank comment) = true
  is_command (entry (remark c) background blank comment) = false

  -- every list holds a command but that of a script, of the body of a case's item, and of a substitution
  abbrev pub holds_command : EntriesOf T M → Bool
  holds_command no_entry = false
  holds_command (more_entries e es) = is_command e || holds_command es

  -- the list of a group, a condition and a body
  abbrev pub is_whole : EntriesOf T M → Bool
  is_whole es = holds_command es && first_not_blank es

  abbrev mutual
    -- each part of a list is in normal form
    pub are_normal : EntriesOf T M → Bool
    are_normal no_entry = true
    are_normal (more_entries e es) = is_normal_entry e && are_normal es

    -- a comment on a line of its own is not in the background, and no other one stands after it
    pub is_normal_entry : AnEntryOf T M → Bool
    is_normal_entry (entry (command a) background blank comment) = is_normal_and_or a
    is_normal_entry (entry (remark c) background blank comment) = not background && is_none comment

    pub is_normal_and_or : AnAndOrOf T M → Bool
    is_normal_and_or (and_or first rest) = is_normal_pipeline first && are_normal_and_ors rest

    pub are_normal_and_ors : AndOrPartsOf T M → Bool
    are_normal_and_ors no_and_or = true
    are_normal_and_ors (more_and_or operator join p ps) = is_normal_join join && is_normal_pipeline p
        && are_normal_and_ors ps

    pub is_normal_pipeline : APipelineOf T M → Bool
    is_normal_pipeline (pipeline bang first rest) = is_normal_command first && are_normal_pipes rest

    pub are_normal_pipes : PipelinePartsOf T M → Bool
    are_normal_pipes no_pipe = true
    are_normal_pipes (more_pipes join c cs) = is_normal_join join && is_normal_command c && are_normal_pipes cs

    pub is_normal_command : ACommandOf T M → Bool
    is_normal_command (simple items) = first_not_broken items && are_normal_items items
    is_normal_command (compound c) = is_normal_compound c
    is_normal_command (function name comments body) = is_normal_compound body

    pub is_normal_compound : ACompoundOf T M → Bool
    is_normal_compound (formed form span redirects) = is_normal_form form && are_normal_items redirects

    pub is_normal_form : AFormOf T M → Bool
    is_normal_form (brace es) = is_whole es && are_normal es
    is_normal_form (subshell es) = is_whole es && are_normal es
    is_normal_form (if_then first rest other) = is_normal_branch first && are_normal_branches rest
        && is_normal_else other
    is_normal_form (while_do b) = is_normal_branch b
    is_normal_form (until_do b) = is_normal_branch b
    is_normal_form (for_in name words body) = is_normal_word name && are_normal_words words && is_whole body
        && are_normal body
    is_normal_form (case_in w items tail) = is_normal_word w && are_normal_cases items

    pub is_normal_branch : ABranchOf T M → Bool
    is_normal_branch (branch condition body) = is_whole condition && are_normal condition && is_whole body
        && are_normal body

    pub are_normal_branches : BranchesOf T M → Bool
    are_normal_branches no_branch = true
    are_normal_branches (more_branches b bs) = is_normal_branch b && are_normal_branches bs

    pub is_normal_else : OtherwiseOf T M → Bool
    is_normal_else no_else = true
    is_normal_else (otherwise es) = is_whole es && are_normal es

    pub are_normal_words : ForWordsOf T M → Bool
    are_normal_words no_in = true
    are_normal_words (in_words items) = first_not_broken items && are_normal_items items

    pub are_normal_cases : CaseItemsOf T M → Bool
    are_normal_cases no_case = true
    are_normal_cases (more_cases c cs) = is_normal_case c && are_normal_cases cs

    pub is_normal_case : ACaseItemOf T M → Bool
    is_normal_case (case_item comments patterns body span) = are_normal_patterns patterns && first_not_blank body
        && are_normal body

    pub are_normal_patterns : PatternsOf T M → Bool
    are_normal_patterns no_pattern = true
    are_normal_patterns (more_patterns w ws) = is_normal_word w && are_normal_patterns ws

    pub are_normal_items : ItemsOf T M → Bool
    are_normal_items no_item = true
    are_normal_items (more_items i is) = is_normal_item i && are_normal_items is

    pub is_normal_item : AnItemOf T M → Bool
    is_normal_item (item broken what) = is_normal_content what

    pub is_normal_content : AnItemContentOf T M → Bool
    is_normal_content (assign w) = is_normal_word w
    is_normal_content (argument w) = is_normal_word w
    is_normal_content (redirect number operator span w here) = is_normal_word w

    pub is_normal_word : AWordOf T M → Bool
    is_normal_word (word span substs) = are_normal_substs substs

    pub are_normal_substs : SubstsOf T M → Bool
    are_normal_substs no_subst = true
    are_normal_substs (more_substs s ss) = is_normal_subst s && are_normal_substs ss

    pub is_normal_subst : ASubstOf T M → Bool
    is_normal_subst (subst entries span) = first_not_blank entries && are_normal entries

  -- the normal form of a script's list
  abbrev pub is_normal : EntriesOf T M → Bool
  is_normal es = first_not_blank es && are_normal es

  -- ---- small lists, to say what the normal form refuses

  -- a list of one entry
  abbrev pub alone : AnEntryOf T M → EntriesOf T M
  alone e = more_entries e no_entry

  -- a command as an entry
  abbrev pub of_command : ACommandOf T M → AnEntryOf T M
  of_command c = entry (command (and_or (pipeline None c no_pipe) no_and_or)) false false None

  -- two commands joined by `|`
  abbrev pub joined : AJoinOf T → ACommandOf T M → ACommandOf T M → AnEntryOf T M
  joined j c d = entry (command (and_or (pipeline None c (more_pipes j d no_pipe)) no_and_or)) false false None
