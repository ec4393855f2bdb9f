-- The spelling of a shape: its tokens from left to right. Newlines, `;`, `;;`, the round
-- bracket before a pattern, comments and the bodies of here-documents are left out. Words,
-- names and numbers are told by the texts that the shape holds.
use Rattle.std.specs.Prelude.{Bool, true, false, List as Row, [], ◌∷◌, ◌++◌, codes, Option, None, Some}
use Rattle.shast.specs.declared.tree.AndOrOperator.{AndOrOperator}
use Rattle.shast.specs.declared.tree.AndOrOperator.TheVariants.{And, Or}
use Rattle.shast.specs.declared.tree.RedirectOperator.{RedirectOperator}
use Rattle.shast.specs.declared.tree.RedirectOperator.TheVariants as redirects
use Rattle.shast.specs.Tree.{EntriesOf, no_entry, more_entries, AnEntryOf, entry, command, remark, AnAndOrOf, and_or, AndOrPartsOf, no_and_or, more_and_or, APipelineOf, pipeline, PipelinePartsOf, no_pipe, more_pipes, ACommandOf, simple, compound, function, ACompoundOf, formed, AFormOf, brace, subshell, if_then, while_do, until_do, for_in, case_in, ABranchOf, branch, BranchesOf, no_branch, more_branches, OtherwiseOf, no_else, otherwise, ForWordsOf, no_in, in_words, CaseItemsOf, no_case, more_cases, ACaseItemOf, case_item, PatternsOf, no_pattern, more_patterns, ItemsOf, no_item, more_items, AnItemOf, item, assign, argument, redirect, AWordOf, word}
use Rattle.shast.specs.Shape.{Text, Shape}

-- the tokens of a part of a script
abbrev pub Tokens : Type 0
Tokens = Row Text

-- ---- texts of operators

-- (XCU 2.9.3)
abbrev pub and_or_text : AndOrOperator → Text
and_or_text And = codes "&&"
and_or_text Or = codes "||"

-- (XCU 2.7)
abbrev pub redirect_text : RedirectOperator → Text
redirect_text redirects.Input = codes "<"
redirect_text redirects.Output = codes ">"
redirect_text redirects.Here = codes "<<"
redirect_text redirects.Append = codes ">>"
redirect_text redirects.DuplicateInput = codes "<&"
redirect_text redirects.DuplicateOutput = codes ">&"
redirect_text redirects.ReadWrite = codes "<>"
redirect_text redirects.HereStripped = codes "<<-"
redirect_text redirects.Clobber = codes ">|"

-- ---- the tokens of each part of a script

-- `&` puts an and-or list in the background (XCU 2.9.3)
abbrev pub spell_background : Bool → Tokens
spell_background true = codes "&" ∷ []
spell_background false = []

-- `;&` is a token of the spelling, `;;` is none (XCU 2.9.4.3)
abbrev pub spell_falls : Bool → Tokens
spell_falls true = codes ";&" ∷ []
spell_falls false = []

abbrev pub spell_bang : Option (Unit {0}) → Tokens
spell_bang None = []
spell_bang (Some mark) = codes "!" ∷ []

abbrev pub spell_number : Option Text → Tokens
spell_number None = []
spell_number (Some t) = t ∷ []

-- the lists in a word are part of its text
abbrev pub spell_word : Shape AWordOf → Tokens
spell_word (word text substs) = text ∷ []

abbrev pub spell_item : Shape AnItemOf → Tokens
spell_item (item broken (assign w)) = spell_word w
spell_item (item broken (argument w)) = spell_word w
spell_item (item broken (redirect number operator mark w here)) = spell_number number ++ redirect_text operator
    ∷ spell_word w

abbrev pub spell_items : Shape ItemsOf → Tokens
spell_items no_item = []
spell_items (more_items i is) = spell_item i ++ spell_items is

abbrev pub spell_for_words : Shape ForWordsOf → Tokens
spell_for_words no_in = []
spell_for_words (in_words items) = codes "in" ∷ spell_items items

abbrev pub spell_patterns : Shape PatternsOf → Tokens
spell_patterns no_pattern = []
spell_patterns (more_patterns w ws) = codes "|" ∷ spell_word w ++ spell_patterns ws

-- no `|` stands before the first
abbrev pub spell_first_pattern : Shape PatternsOf → Tokens
spell_first_pattern no_pattern = []
spell_first_pattern (more_patterns w ws) = spell_word w ++ spell_patterns ws

abbrev mutual
  pub spelling : Shape EntriesOf → Tokens
  spelling no_entry = []
  spelling (more_entries e es) = spell_entry e ++ spelling es

  -- a comment is no token
  pub spell_entry : Shape AnEntryOf → Tokens
  spell_entry (entry (command a) background blank comment) = spell_and_or a ++ spell_background background
  spell_entry (entry (remark c) background blank comment) = []

  pub spell_and_or : Shape AnAndOrOf → Tokens
  spell_and_or (and_or first rest) = spell_pipeline first ++ spell_and_or_parts rest

  pub spell_and_or_parts : Shape AndOrPartsOf → Tokens
  spell_and_or_parts no_and_or = []
  spell_and_or_parts (more_and_or operator join p ps) = and_or_text operator ∷ spell_pipeline p ++ spell_and_or_parts ps

  pub spell_pipeline : Shape APipelineOf → Tokens
  spell_pipeline (pipeline bang first rest) = spell_bang bang ++ spell_command first ++ spell_pipes rest

  pub spell_pipes : Shape PipelinePartsOf → Tokens
  spell_pipes no_pipe = []
  spell_pipes (more_pipes join c cs) = codes "|" ∷ spell_command c ++ spell_pipes cs

  pub spell_command : Shape ACommandOf → Tokens
  spell_command (simple items) = spell_items items
  spell_command (compound c) = spell_compound c
  spell_command (function name comments body) = name ∷ codes "(" ∷ codes ")" ∷ spell_compound body

  pub spell_compound : Shape ACompoundOf → Tokens
  spell_compound (formed form mark redirects) = spell_form form ++ spell_items redirects

  pub spell_form : Shape AFormOf → Tokens
  spell_form (brace es) = codes "{" ∷ spelling es ++ codes "}" ∷ []
  spell_form (subshell es) = codes "(" ∷ spelling es ++ codes ")" ∷ []
  spell_form (if_then first rest other) = codes "if" ∷ spell_branch first ++ spell_branches rest ++ spell_else other
      ++ codes "fi" ∷ []
  spell_form (while_do b) = codes "while" ∷ spell_loop b
  spell_form (until_do b) = codes "until" ∷ spell_loop b
  spell_form (for_in name words body) = codes "for" ∷ spell_word name ++ spell_for_words words ++ codes "do"
      ∷ spelling body ++ codes "done" ∷ []
  spell_form (case_in w items tail) = codes "case" ∷ spell_word w ++ codes "in" ∷ spell_cases items ++ codes "esac" ∷ []

  pub spell_branch : Shape ABranchOf → Tokens
  spell_branch (branch condition body) = spelling condition ++ codes "then" ∷ spelling body

  pub spell_branches : Shape BranchesOf → Tokens
  spell_branches no_branch = []
  spell_branches (more_branches b bs) = codes "elif" ∷ spell_branch b ++ spell_branches bs

  pub spell_else : Shape OtherwiseOf → Tokens
  spell_else no_else = []
  spell_else (otherwise es) = codes "else" ∷ spelling es

  pub spell_loop : Shape ABranchOf → Tokens
  spell_loop (branch condition body) = spelling condition ++ codes "do" ∷ spelling body ++ codes "done" ∷ []

  pub spell_cases : Shape CaseItemsOf → Tokens
  spell_cases no_case = []
  spell_cases (more_cases c cs) = spell_case c ++ spell_cases cs

  pub spell_case : Shape ACaseItemOf → Tokens
  spell_case (case_item comments patterns body mark) = spell_first_pattern patterns
      ++ (codes ")" ∷ (spelling body ++ spell_falls mark.falls))
