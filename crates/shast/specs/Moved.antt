-- A list at another base: with each of its spans moved, and one list after another.
use Rattle.std.specs.Prelude.{ℕ, zero, suc, Bool, true, false, List as Row, [], ◌∷◌, map, option_map}
use Rattle.shast.specs.declared.tree.Span.{Span}
use Rattle.shast.specs.Tree.{AJoin, AHere, Entries, no_entry, more_entries, AnEntry, entry, AContent, command, remark, AnAndOr, and_or, AnAndOrPart, AndOrParts, no_and_or, more_and_or, APipeline, pipeline, APipelinePart, PipelineParts, no_pipe, more_pipes, ACommand, simple, compound, function, ACompound, formed, AForm, brace, subshell, if_then, while_do, until_do, for_in, case_in, ABranch, branch, Branches, no_branch, more_branches, Otherwise, no_else, otherwise, ForWords, no_in, in_words, CaseItems, no_case, more_cases, ACaseItem, case_item, marked, Patterns, no_pattern, more_patterns, Items, no_item, more_items, AnItem, item, AnItemContent, assign, argument, redirect, AWord, word, Substs, no_subst, more_substs, ASubst, subst}
use Rattle.shast.specs.Nodes.{placed_span}

-- the substitutions of a word, or none of them
abbrev pub kept_substs : Bool → Substs → Substs
kept_substs true ss = ss
kept_substs false ss = no_subst

-- ---- a tree, with what f makes of each of its spans, and h of each body of a here-document

module _ (f h : Span → Span) where
  abbrev pub carried_join : AJoin → AJoin
  carried_join j = record { broken = j.broken; comments = map f j.comments }

  abbrev pub carried_here : AHere → AHere
  carried_here d = record { literal = d.literal; strip = d.strip; body = h d.body }

  -- its trees in command substitutions too, or without them
  module _ (deep : Bool) where
    abbrev mutual
      pub carried : Entries → Entries
      carried no_entry = no_entry
      carried (more_entries e es) = more_entries (carried_entry e) (carried es)

      pub carried_entry : AnEntry → AnEntry
      carried_entry (entry what background blank comment) =
          entry (carried_content what) background blank (option_map f comment)

      pub carried_content : AContent → AContent
      carried_content (command a) = command (carried_and_or a)
      carried_content (remark c) = remark (f c)

      pub carried_and_or : AnAndOr → AnAndOr
      carried_and_or (and_or first rest) = and_or (carried_pipeline first) (carried_and_or_parts rest)

      pub carried_and_or_parts : AndOrParts → AndOrParts
      carried_and_or_parts no_and_or = no_and_or
      carried_and_or_parts (more_and_or operator join p ps) =
          more_and_or operator (carried_join join) (carried_pipeline p) (carried_and_or_parts ps)

      pub carried_pipeline : APipeline → APipeline
      carried_pipeline (pipeline bang first rest) =
          pipeline (option_map f bang) (carried_command first) (carried_pipes rest)

      pub carried_pipes : PipelineParts → PipelineParts
      carried_pipes no_pipe = no_pipe
      carried_pipes (more_pipes join c cs) = more_pipes (carried_join join) (carried_command c) (carried_pipes cs)

      pub carried_command : ACommand → ACommand
      carried_command (simple items) = simple (carried_items items)
      carried_command (compound c) = compound (carried_compound c)
      carried_command (function name comments body) = function (f name) (map f comments) (carried_compound body)

      pub carried_compound : ACompound → ACompound
      carried_compound (formed form span redirects) = formed (carried_form form) (f span) (carried_items redirects)

      pub carried_form : AForm → AForm
      carried_form (brace es) = brace (carried es)
      carried_form (subshell es) = subshell (carried es)
      carried_form (if_then first rest other) =
          if_then (carried_branch first) (carried_branches rest) (carried_else other)
      carried_form (while_do b) = while_do (carried_branch b)
      carried_form (until_do b) = until_do (carried_branch b)
      carried_form (for_in name words body) = for_in (carried_word name) (carried_for_words words) (carried body)
      carried_form (case_in w cases tail) = case_in (carried_word w) (carried_cases cases) (map f tail)

      pub carried_branch : ABranch → ABranch
      carried_branch (branch condition body) = branch (carried condition) (carried body)

      pub carried_branches : Branches → Branches
      carried_branches no_branch = no_branch
      carried_branches (more_branches b bs) = more_branches (carried_branch b) (carried_branches bs)

      pub carried_else : Otherwise → Otherwise
      carried_else no_else = no_else
      carried_else (otherwise es) = otherwise (carried es)

      pub carried_for_words : ForWords → ForWords
      carried_for_words no_in = no_in
      carried_for_words (in_words items) = in_words (carried_items items)

      pub carried_cases : CaseItems → CaseItems
      carried_cases no_case = no_case
      carried_cases (more_cases c cs) = more_cases (carried_case c) (carried_cases cs)

      pub carried_case : ACaseItem → ACaseItem
      carried_case (case_item comments patterns body mark) =
          case_item (map f comments) (carried_patterns patterns) (carried body) (marked f mark)

      pub carried_patterns : Patterns → Patterns
      carried_patterns no_pattern = no_pattern
      carried_patterns (more_patterns w ws) = more_patterns (carried_word w) (carried_patterns ws)

      pub carried_items : Items → Items
      carried_items no_item = no_item
      carried_items (more_items i is) = more_items (carried_item i) (carried_items is)

      pub carried_item : AnItem → AnItem
      carried_item (item broken what) = item broken (carried_item_content what)

      pub carried_item_content : AnItemContent → AnItemContent
      carried_item_content (assign w) = assign (carried_word w)
      carried_item_content (argument w) = argument (carried_word w)
      carried_item_content (redirect number operator span w here) =
          redirect (option_map f number) operator (f span) (carried_word w) (option_map carried_here here)

      pub carried_word : AWord → AWord
      carried_word (word span substs) = word (f span) (kept_substs deep (carried_substs substs))

      pub carried_substs : Substs → Substs
      carried_substs no_subst = no_subst
      carried_substs (more_substs s ss) = more_substs (carried_subst s) (carried_substs ss)

      pub carried_subst : ASubst → ASubst
      carried_subst (subst entries span) = subst (carried entries) (f span)

    abbrev pub carried_and_or_part : AnAndOrPart → AnAndOrPart
    carried_and_or_part p = record {
      operator = p.operator;
      join = carried_join p.join;
      pipeline = carried_pipeline p.pipeline;
    }

    abbrev pub carried_pipe : APipelinePart → APipelinePart
    carried_pipe p = record { join = carried_join p.join; command = carried_command p.command }

-- ---- what is moved

abbrev pub body_by : ℕ → Span → ℕ → Span
body_by base s zero = s
body_by base s (suc n) = placed_span base s

-- The body of a here-document. One that is not read yet is the empty text at 0, and stays so: a
-- body that was read ends just past a newline, and so above 0.
abbrev pub placed_body : ℕ → Span → Span
placed_body base s = body_by base s s.«end»

-- a list in the text that holds it from this base on
abbrev pub moved : ℕ → Entries → Entries
moved base es = carried (placed_span base) (placed_body base) true es

-- an entry there, with the trees in its command substitutions or without them
abbrev pub placed_entry : Bool → ℕ → AnEntry → AnEntry
placed_entry deep base e = carried_entry (placed_span base) (placed_body base) deep e

abbrev pub moved_entry : ℕ → AnEntry → AnEntry
moved_entry base e = placed_entry true base e

abbrev pub outer_entry : ℕ → AnEntry → AnEntry
outer_entry base e = placed_entry false base e

-- ---- one list after another

abbrev pub appended : Entries → Entries → Entries
appended no_entry ls = ls
appended (more_entries e es) ls = more_entries e (appended es ls)

-- ---- a first entry

abbrev pub blanked_entry : Bool → AnEntry → AnEntry
blanked_entry blank (entry what background b comment) = entry what background blank comment

-- the first entry is blank, or it is not
abbrev pub blanked_row : Bool → Row AnEntry → Row AnEntry
blanked_row blank [] = []
blanked_row blank (e ∷ es) = blanked_entry blank e ∷ es
