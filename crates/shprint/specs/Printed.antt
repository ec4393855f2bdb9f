-- The printed text of a shape, by structure alone: one case for each rule of the
-- layout. A margin is what a line begins with.
use Rattle.std.specs.Prelude.{◌==◌, ◌&&◌, ◌||◌, not, ◌++◌, Bool, true, false, [], ◌∷◌, List as Row, codes, Option, None, Some, if◌then◌else◌}
use Rattle.shast.specs.declared.tree.RedirectOperator.{RedirectOperator}
use Rattle.shast.specs.declared.tree.RedirectOperator.TheVariants as redirects
use Rattle.shast.specs.Tree.{AHereOf, AJoinOf, EntriesOf, no_entry, more_entries, AnEntryOf, entry, AContentOf, command, remark, AnAndOrOf, and_or, AndOrPartsOf, no_and_or, more_and_or, APipelineOf, pipeline, PipelinePartsOf, no_pipe, more_pipes, ACommandOf, simple, compound, function, ACompoundOf, formed, AFormOf, brace, subshell, if_then, while_do, until_do, for_in, case_in, ABranchOf, branch, BranchesOf, no_branch, more_branches, OtherwiseOf, no_else, otherwise, ForWordsOf, no_in, in_words, CaseItemsOf, no_case, more_cases, ACaseItemOf, case_item, PatternsOf, no_pattern, more_patterns, ItemsOf, no_item, more_items, AnItemOf, item, assign, argument, redirect, AWordOf, word}
use Rattle.shast.specs.Shape.{Text, Shape}
use Rattle.shast.specs.Spelling.{and_or_text, redirect_text}
use Rattle.shgrammar.specs.Characters.{hyphen, newline_char}
use Rattle.shgrammar.specs.HereDocuments.{ADelimiter, delimiter_of}
use Rattle.shprint.specs.declared.layout.Layout.{Layout}
use Rattle.shprint.specs.Marks.{text, line_end, document, Marks, laid, deeper, one, lines_between}

-- ---- comments

-- comments on lines of their own
abbrev pub print_comment_lines : Text → Row Text → Marks
print_comment_lines margin [] = []
print_comment_lines margin (c ∷ cs) = text margin ∷ text c ∷ line_end ∷ print_comment_lines margin cs

-- comments after the first one, each on a line of its own
abbrev pub print_further_comments : Text → Row Text → Marks
print_further_comments margin [] = []
print_further_comments margin (c ∷ cs) = line_end ∷ text margin ∷ text c ∷ print_further_comments margin cs

-- the first comment after what stands on the line, and the further ones
abbrev pub print_comments : Text → Row Text → Marks
print_comments margin [] = []
print_comments margin (c ∷ cs) = text (codes " ") ∷ text c ∷ print_further_comments margin cs

abbrev pub print_own_comment : Option Text → Marks
print_own_comment None = []
print_own_comment (Some c) = text (codes " ") ∷ text c ∷ []

-- ---- joins

-- the operands stand on lines of their own
abbrev pub breaks_line : AJoinOf Text → Bool
breaks_line j = j.broken || has_any j.comments
  where
    has_any : Row Text → Bool
    has_any [] = false
    has_any (c ∷ cs) = true

-- the margin of the operands of a chain, of which a join has broken the line or none has
abbrev pub operand_margin : Layout → Text → Bool → Text
operand_margin y margin broken = if broken then deeper y margin else margin

-- an operator with what stands around it
abbrev pub print_join : Layout → Text → Text → AJoinOf Text → Marks
print_join y margin operator j =
    text (codes " ") ∷ text operator
    ∷ (if breaks_line j then print_comments (deeper y margin) j.comments ++ (line_end ∷ text (deeper y margin) ∷ [])
    else one (codes " "))

-- ---- simple commands

-- one space before an item that is not the first, or a continuation
abbrev pub print_gap : Layout → Text → Bool → Marks
print_gap y margin true = text (codes " \\\n") ∷ text (deeper y margin) ∷ []
print_gap y margin false = one (codes " ")

abbrev pub print_word : Shape AWordOf → Marks
print_word (word t substs) = one t

abbrev pub print_number : Option Text → Marks
print_number None = []
print_number (Some n) = one n

-- `<&` and `>&` never have a space after them
abbrev pub duplicates : RedirectOperator → Bool
duplicates redirects.DuplicateInput = true
duplicates redirects.DuplicateOutput = true
duplicates _ = false

-- `<<` and a word that begins with `-` would be `<<-`
abbrev pub would_lengthen : RedirectOperator → Text → Bool
would_lengthen redirects.Here (b ∷ bs) = b == hyphen
would_lengthen _ _ = false

abbrev pub print_operator : Layout → RedirectOperator → Shape AWordOf → Marks
print_operator y operator (word t substs) =
    text (redirect_text operator)
    ∷ (if (y.space_redirects && not (duplicates operator)) || would_lengthen operator t then one (codes " ") else [])

-- the line of a delimiter
abbrev pub delimiter_line : Option ADelimiter → Text
delimiter_line None = []
delimiter_line (Some d) = d.text ++ newline_char ∷ []

-- the bytes of a body as they stand, and the line of the delimiter that the word is
abbrev pub print_here : Shape AWordOf → Option (AHereOf Text) → Marks
print_here w None = []
print_here (word t substs) (Some h) = document (h.body ++ delimiter_line (delimiter_of t)) ∷ []

abbrev pub print_item : Layout → Shape AnItemOf → Marks
print_item y (item broken (assign w)) = print_word w
print_item y (item broken (argument w)) = print_word w
print_item y (item broken (redirect number operator mark w here)) = print_number number ++ print_operator y operator w
    ++ print_word w ++ print_here w here

abbrev pub is_broken_item : Shape AnItemOf → Bool
is_broken_item (item broken what) = broken

-- items after others
abbrev pub print_items : Layout → Text → Shape ItemsOf → Marks
print_items y margin no_item = []
print_items y margin (more_items i is) = print_gap y margin (is_broken_item i) ++ print_item y i
    ++ print_items y margin is

abbrev pub print_simple : Layout → Text → Shape ItemsOf → Marks
print_simple y margin no_item = []
print_simple y margin (more_items i is) = print_item y i ++ print_items y margin is

-- ---- entries

-- an empty line before an entry; the first of a list is never blank
abbrev pub print_blank : Bool → Marks
print_blank true = line_end ∷ []
print_blank false = []

abbrev pub print_background : Bool → Marks
print_background true = one (codes " &")
print_background false = []

abbrev pub print_bang : Option (Unit {0}) → Marks
print_bang None = []
print_bang (Some mark) = one (codes "! ")

-- ---- conditions

-- A condition stands on the line of its reserved word (`if`, `elif`, `while`, `until`) where it is one
-- command, with no comment and not in the background.
abbrev pub is_one_line : Shape EntriesOf → Bool
is_one_line (more_entries (entry (command a) false blank None) no_entry) = true
is_one_line _ = false

-- ---- heads of functions, `for` and `case`

abbrev pub is_brace : Shape ACompoundOf → Bool
is_brace (formed (brace es) mark redirects) = true
is_brace _ = false

-- between the `()` of a function and its body
abbrev pub print_function_gap : Layout → Text → Row Text → Shape ACompoundOf → Marks
print_function_gap y margin [] body = if y.func_next_line && is_brace body then line_end ∷ text margin ∷ []
    else one (codes " ")
print_function_gap y margin (c ∷ cs) body = print_comments margin (c ∷ cs) ++ (line_end ∷ text margin ∷ [])

-- the words of a `for`, up to its `do`, with it
abbrev pub print_for_words : Layout → Text → Shape ForWordsOf → Marks
print_for_words y margin no_in = one (codes " do")
print_for_words y margin (in_words items) = text (codes " in") ∷ print_items y margin items ++ one (codes "; do")

-- the patterns of an item after the first
abbrev pub print_patterns : Shape PatternsOf → Marks
print_patterns no_pattern = []
print_patterns (more_patterns w ws) = text (codes " | ") ∷ print_word w ++ print_patterns ws

abbrev pub print_first_pattern : Shape PatternsOf → Marks
print_first_pattern no_pattern = []
print_first_pattern (more_patterns w ws) = print_word w ++ print_patterns ws

abbrev pub case_margin : Layout → Text → Text
case_margin y margin = if y.case_indent then deeper y margin else margin

-- what ends an item of a `case`, which falls through or does not
abbrev pub ender : Bool → Text
ender true = codes ";&"
ender false = codes ";;"

-- ---- lists, and all that holds them

abbrev mutual
  -- each entry on a line of its own
  pub print_entries : Layout → Text → Shape EntriesOf → Marks
  print_entries y margin no_entry = []
  print_entries y margin (more_entries e es) = print_entry y margin e ++ print_entries y margin es

  pub print_entry : Layout → Text → Shape AnEntryOf → Marks
  print_entry y margin (entry what background blank comment) =
      print_blank blank ++ (text margin ∷ print_content y margin what ++ print_background background
      ++ print_own_comment comment ++ (line_end ∷ []))

  pub print_content : Layout → Text → Shape AContentOf → Marks
  print_content y margin (command a) = print_and_or y margin a
  print_content y margin (remark c) = one c

  pub print_and_or : Layout → Text → Shape AnAndOrOf → Marks
  print_and_or y margin (and_or first rest) = print_pipeline y margin first ++ print_and_or_parts y margin false rest

  -- the operands after the first, where the line was broken before or not
  pub print_and_or_parts : Layout → Text → Bool → Shape AndOrPartsOf → Marks
  print_and_or_parts y margin broken no_and_or = []
  print_and_or_parts y margin broken (more_and_or operator j p ps) =
      print_join y margin (and_or_text operator) j
      ++ print_pipeline y (operand_margin y margin (broken || breaks_line j)) p
      ++ print_and_or_parts y margin (broken || breaks_line j) ps

  pub print_pipeline : Layout → Text → Shape APipelineOf → Marks
  print_pipeline y margin (pipeline bang first rest) = print_bang bang ++ print_command y margin first
      ++ print_pipes y margin false rest

  pub print_pipes : Layout → Text → Bool → Shape PipelinePartsOf → Marks
  print_pipes y margin broken no_pipe = []
  print_pipes y margin broken (more_pipes j c cs) =
      print_join y margin (codes "|") j ++ print_command y (operand_margin y margin (broken || breaks_line j)) c
      ++ print_pipes y margin (broken || breaks_line j) cs

  pub print_command : Layout → Text → Shape ACommandOf → Marks
  print_command y margin (simple items) = print_simple y margin items
  print_command y margin (compound c) = print_compound y margin c
  print_command y margin (function name comments body) = text name ∷ text (codes "()")
      ∷ print_function_gap y margin comments body ++ print_compound y margin body

  -- redirections stand after the closer, as items do after others
  pub print_compound : Layout → Text → Shape ACompoundOf → Marks
  print_compound y margin (formed form mark redirects) = print_form y margin form ++ print_items y margin redirects

  pub print_form : Layout → Text → Shape AFormOf → Marks
  print_form y margin (brace es) = text (codes "{") ∷ lines_between margin (print_entries y (deeper y margin) es)
      ++ one (codes "}")
  print_form y margin (subshell es) = text (codes "(") ∷ lines_between margin (print_entries y (deeper y margin) es)
      ++ one (codes ")")
  print_form y margin (if_then first rest other) =
      print_branch y margin (codes "if") (codes "then") first ++ print_branches y margin rest
      ++ print_else y margin other ++ one (codes "fi")
  print_form y margin (while_do b) = print_branch y margin (codes "while") (codes "do") b ++ one (codes "done")
  print_form y margin (until_do b) = print_branch y margin (codes "until") (codes "do") b ++ one (codes "done")
  print_form y margin (for_in name words body) =
      text (codes "for ") ∷ print_word name ++ print_for_words y margin words
      ++ lines_between margin (print_entries y (deeper y margin) body) ++ one (codes "done")
  print_form y margin (case_in w items tail) =
      text (codes "case ") ∷ print_word w ++ (text (codes " in") ∷ line_end ∷ print_cases y (case_margin y margin) items
      ++ print_comment_lines (case_margin y margin) tail ++ (text margin ∷ text (codes "esac") ∷ []))

  -- a condition on the line of its reserved word or on lines of its own, and what it runs
  pub print_branch : Layout → Text → Text → Text → Shape ABranchOf → Marks
  print_branch y margin opener opens_body (branch condition body) =
      text opener ∷ (if is_one_line condition then text (codes " ") ∷ print_only y margin condition ++ one (codes "; ")
      else lines_between margin (print_entries y (deeper y margin) condition))
      ++ (text opens_body ∷ lines_between margin (print_entries y (deeper y margin) body))

  -- the one entry of a condition
  pub print_only : Layout → Text → Shape EntriesOf → Marks
  print_only y margin no_entry = []
  print_only y margin (more_entries e es) = print_bare y margin e

  pub print_bare : Layout → Text → Shape AnEntryOf → Marks
  print_bare y margin (entry what background blank comment) = print_content y margin what

  pub print_branches : Layout → Text → Shape BranchesOf → Marks
  print_branches y margin no_branch = []
  print_branches y margin (more_branches b bs) = print_branch y margin (codes "elif") (codes "then") b
      ++ print_branches y margin bs

  pub print_else : Layout → Text → Shape OtherwiseOf → Marks
  print_else y margin no_else = []
  print_else y margin (otherwise es) = text (codes "else") ∷ lines_between margin (print_entries y (deeper y margin) es)

  pub print_cases : Layout → Text → Shape CaseItemsOf → Marks
  print_cases y margin no_case = []
  print_cases y margin (more_cases c cs) = print_case y margin c ++ print_cases y margin cs

  -- after entries the ender has a line of its own, as deep as they stand
  pub print_case : Layout → Text → Shape ACaseItemOf → Marks
  print_case y margin (case_item comments patterns body mark) =
      print_comment_lines margin comments
      ++ (text margin ∷ print_first_pattern patterns
      ++ (text (codes ")") ∷ print_body y margin body ++ (text (ender mark.falls) ∷ line_end ∷ [])))

  -- without entries a body stands on the line of the patterns
  pub print_body : Layout → Text → Shape EntriesOf → Marks
  print_body y margin no_entry = one (codes " ")
  print_body y margin (more_entries e es) =
      line_end ∷ print_entry y (deeper y margin) e ++ print_entries y (deeper y margin) es ++ one (deeper y margin)

-- the marks of a script
abbrev pub print_script : Layout → Shape EntriesOf → Marks
print_script y es = print_entries y [] es

-- the printed text of a script
abbrev pub printed : Layout → Shape EntriesOf → Text
printed y es = laid (print_script y es)
