-- The shape of a tree: all that a tree says of a script, but for where it stands. The bytes of a word, a
-- name, a comment and the body of a here-document stand in the place of their span, as they are; those of a
-- number stand there without continuations; of any other span it is left only that something stands there.
use Rattle.std.specs.Prelude.{ℕ, ◌-◌, ◌==◌, ◌&&◌, List, [], ◌∷◌, List as Row, map, take, drop, Option, option_map, if◌then◌else◌}
use Rattle.shast.specs.declared.tree.Span.{Span}
use Rattle.shast.specs.Tree.{AJoinOf, AJoin, AHereOf, AHere, EntriesOf, Entries, no_entry, more_entries, AnEntryOf, AnEntry, entry, AContentOf, AContent, command, remark, AnAndOrOf, AnAndOr, and_or, AndOrPartsOf, AndOrParts, no_and_or, more_and_or, APipelineOf, APipeline, pipeline, PipelinePartsOf, PipelineParts, no_pipe, more_pipes, ACommandOf, ACommand, simple, compound, function, ACompoundOf, ACompound, formed, AFormOf, AForm, brace, subshell, if_then, while_do, until_do, for_in, case_in, ABranchOf, ABranch, branch, BranchesOf, Branches, no_branch, more_branches, OtherwiseOf, Otherwise, no_else, otherwise, ForWordsOf, ForWords, no_in, in_words, CaseItemsOf, CaseItems, no_case, more_cases, ACaseItemOf, ACaseItem, case_item, marked, PatternsOf, Patterns, no_pattern, more_patterns, ItemsOf, Items, no_item, more_items, AnItemOf, AnItem, item, AnItemContentOf, AnItemContent, assign, argument, redirect, AWordOf, AWord, word, SubstsOf, Substs, no_subst, more_substs, ASubstOf, ASubst, subst}

-- ---- texts

-- the bytes of a text
abbrev pub Text : Type 0
Text = List ℕ

-- the bytes of a span as they stand
abbrev pub text_at : List ℕ → Span → Text
text_at B s = take (s.«end» - s.start) (drop s.start B)

-- without continuations, each a backslash (92) and a newline (10), in text that has no quotes (XCU 2.2.1)
unfoldable pub bare : Text → Text
bare [] = []
bare (b ∷ []) = b ∷ []
bare (b ∷ c ∷ bs) = if b == 92 && c == 10 then bare bs else b ∷ bare (c ∷ bs)

-- the bytes of a span without continuations
abbrev pub bare_at : List ℕ → Span → Text
bare_at B s = bare (text_at B s)

-- ---- shapes

-- the shape of a part of a script: `Shape EntriesOf` that of a list, `Shape AWordOf` that of a word
abbrev pub Shape : (Type 0 → Type 0 → Type 0) → Type 0
Shape Part = Part Text (Unit {0})

-- that something stands here, and not where
abbrev pub shape_of_mark : Span → Unit {0}
shape_of_mark s = tt

abbrev pub shape_of_bang : Option Span → Option (Unit {0})
shape_of_bang bang = option_map shape_of_mark bang

-- ---- the shape of each part of a tree over these bytes

module _ (B : List ℕ) where
  -- a comment, from its `#` on
  abbrev pub shape_of_comment : Span → Text
  shape_of_comment s = text_at B s

  abbrev pub shape_of_comments : Row Span → Row Text
  shape_of_comments cs = map shape_of_comment cs

  abbrev pub shape_of_join : AJoin → AJoinOf Text
  shape_of_join j = record { broken = j.broken; comments = shape_of_comments j.comments }

  abbrev pub shape_of_here : AHere → AHereOf Text
  shape_of_here h = record { literal = h.literal; strip = h.strip; body = text_at B h.body }

  abbrev mutual
    -- the shape of a list
    pub shape_of : Entries → Shape EntriesOf
    shape_of no_entry = no_entry
    shape_of (more_entries e es) = more_entries (shape_of_entry e) (shape_of es)

    pub shape_of_entry : AnEntry → Shape AnEntryOf
    shape_of_entry (entry what background blank comment) =
        entry (shape_of_content what) background blank (option_map shape_of_comment comment)

    pub shape_of_content : AContent → Shape AContentOf
    shape_of_content (command a) = command (shape_of_and_or a)
    shape_of_content (remark c) = remark (shape_of_comment c)

    pub shape_of_and_or : AnAndOr → Shape AnAndOrOf
    shape_of_and_or (and_or first rest) = and_or (shape_of_pipeline first) (shape_of_and_or_parts rest)

    pub shape_of_and_or_parts : AndOrParts → Shape AndOrPartsOf
    shape_of_and_or_parts no_and_or = no_and_or
    shape_of_and_or_parts (more_and_or operator join p ps) =
        more_and_or operator (shape_of_join join) (shape_of_pipeline p) (shape_of_and_or_parts ps)

    pub shape_of_pipeline : APipeline → Shape APipelineOf
    shape_of_pipeline (pipeline bang first rest) =
        pipeline (shape_of_bang bang) (shape_of_command first) (shape_of_pipes rest)

    pub shape_of_pipes : PipelineParts → Shape PipelinePartsOf
    shape_of_pipes no_pipe = no_pipe
    shape_of_pipes (more_pipes join c cs) = more_pipes (shape_of_join join) (shape_of_command c) (shape_of_pipes cs)

    pub shape_of_command : ACommand → Shape ACommandOf
    shape_of_command (simple items) = simple (shape_of_items items)
    shape_of_command (compound c) = compound (shape_of_compound c)
    shape_of_command (function name comments body) =
        function (text_at B name) (shape_of_comments comments) (shape_of_compound body)

    pub shape_of_compound : ACompound → Shape ACompoundOf
    shape_of_compound (formed form span redirects) =
        formed (shape_of_form form) (shape_of_mark span) (shape_of_items redirects)

    pub shape_of_form : AForm → Shape AFormOf
    shape_of_form (brace es) = brace (shape_of es)
    shape_of_form (subshell es) = subshell (shape_of es)
    shape_of_form (if_then first rest other) =
        if_then (shape_of_branch first) (shape_of_branches rest) (shape_of_else other)
    shape_of_form (while_do b) = while_do (shape_of_branch b)
    shape_of_form (until_do b) = until_do (shape_of_branch b)
    shape_of_form (for_in name words body) = for_in (shape_of_word name) (shape_of_for_words words) (shape_of body)
    shape_of_form (case_in w items tail) = case_in (shape_of_word w) (shape_of_cases items) (shape_of_comments tail)

    pub shape_of_branch : ABranch → Shape ABranchOf
    shape_of_branch (branch condition body) = branch (shape_of condition) (shape_of body)

    pub shape_of_branches : Branches → Shape BranchesOf
    shape_of_branches no_branch = no_branch
    shape_of_branches (more_branches b bs) = more_branches (shape_of_branch b) (shape_of_branches bs)

    pub shape_of_else : Otherwise → Shape OtherwiseOf
    shape_of_else no_else = no_else
    shape_of_else (otherwise es) = otherwise (shape_of es)

    pub shape_of_for_words : ForWords → Shape ForWordsOf
    shape_of_for_words no_in = no_in
    shape_of_for_words (in_words items) = in_words (shape_of_items items)

    pub shape_of_cases : CaseItems → Shape CaseItemsOf
    shape_of_cases no_case = no_case
    shape_of_cases (more_cases c cs) = more_cases (shape_of_case c) (shape_of_cases cs)

    pub shape_of_case : ACaseItem → Shape ACaseItemOf
    shape_of_case (case_item comments patterns body mark) =
        case_item (shape_of_comments comments) (shape_of_patterns patterns) (shape_of body) (marked shape_of_mark mark)

    pub shape_of_patterns : Patterns → Shape PatternsOf
    shape_of_patterns no_pattern = no_pattern
    shape_of_patterns (more_patterns w ws) = more_patterns (shape_of_word w) (shape_of_patterns ws)

    pub shape_of_items : Items → Shape ItemsOf
    shape_of_items no_item = no_item
    shape_of_items (more_items i is) = more_items (shape_of_item i) (shape_of_items is)

    pub shape_of_item : AnItem → Shape AnItemOf
    shape_of_item (item broken what) = item broken (shape_of_item_content what)

    -- a number by its bare text
    pub shape_of_item_content : AnItemContent → Shape AnItemContentOf
    shape_of_item_content (assign w) = assign (shape_of_word w)
    shape_of_item_content (argument w) = argument (shape_of_word w)
    shape_of_item_content (redirect number operator span w here) =
        redirect (option_map (bare_at B) number) operator (shape_of_mark span) (shape_of_word w)
        (option_map shape_of_here here)

    -- a word as it stands, and the shapes of its substitutions
    pub shape_of_word : AWord → Shape AWordOf
    shape_of_word (word span substs) = word (text_at B span) (shape_of_substs substs)

    pub shape_of_substs : Substs → Shape SubstsOf
    shape_of_substs no_subst = no_subst
    shape_of_substs (more_substs s ss) = more_substs (shape_of_subst s) (shape_of_substs ss)

    pub shape_of_subst : ASubst → Shape ASubstOf
    shape_of_subst (subst entries span) = subst (shape_of entries) (shape_of_mark span)
