-- Words with the delimiters that they are, and texts with the bodies in them: what the
-- definitions have to give.
use Rattle.shgrammar.specs.declared.edition.Edition.TheVariants.{Y2017}
use Rattle.std.proofs.Common.{◌≡◌, refl, ℕ, Bool, true, false, List, [], ◌∷◌, Option, Some, None}
use Rattle.std.specs.Prelude.{codes, Ok, Err}
use Rattle.shast.specs.Shape.{bare}
use Rattle.shgrammar.specs.declared.fault.FaultKind.TheVariants.{UnclosedHere}
use Rattle.shgrammar.specs.Standing.{count_front, at_end, raw_past}
use Rattle.shgrammar.specs.Bytes.{stands, count_joined, past_continuations}
use Rattle.shgrammar.specs.Comments.{span}
use Rattle.shgrammar.specs.Sights.{Waiting, given}
use Rattle.shgrammar.specs.HereDocuments.{ADelimiter, delimiter_of, unquoted, delimiter_from, delimiter_on, delimiter_below, bodies_from}

-- ---- delimiters

-- the delimiter of this text, of a word of which no part is quoted, and of one that has a quoted part
abbrev plain : List ℕ → Option ADelimiter
plain text = Some (record { text = text; literal = false })

abbrev quoted : List ℕ → Option ADelimiter
quoted text = Some (record { text = text; literal = true })

-- a continuation is no part of a delimiter, and does not quote
pub bare_word : delimiter_of (codes "E\\\nND") ≡ plain (codes "END")
unfolding unquoted stands past_continuations count_joined bare
bare_word = refl

-- what quotes is left out: a backslash, quotes around nothing, and quotes around other quotes
pub escaped : delimiter_of (codes "\\E\\$(") ≡ quoted (codes "E$(")
unfolding unquoted stands past_continuations count_joined bare
escaped = refl

pub empty : delimiter_of (codes "''") ≡ quoted []
unfolding unquoted stands past_continuations count_joined bare
empty = refl

pub in_quotes : delimiter_of (codes "a\"b'c\"'d\"e\\'\"\"f") ≡ quoted (codes "ab'cd\"e\\f")
unfolding unquoted stands past_continuations count_joined bare
in_quotes = refl

-- in double quotes a backslash stays before some bytes; in single quotes all bytes stay
pub in_double_quotes : delimiter_of (codes "\"\\$\\a\\\n\\\"\\\\\\`\"") ≡ quoted (codes "$\\a\"\\`")
unfolding unquoted stands past_continuations count_joined bare
in_double_quotes = refl

pub in_single_quotes : delimiter_of (codes "'$(a)`\\\n${'") ≡ quoted (codes "$(a)`\\\n${")
unfolding unquoted stands past_continuations count_joined bare
in_single_quotes = refl

-- a `$` before a name is a part of a delimiter, and so is `$$`, whatever follows that
pub parameters : delimiter_of (codes "$x$$\\\n$$a") ≡ plain (codes "$x$$$$a")
unfolding unquoted stands past_continuations count_joined bare
parameters = refl

pub pid : delimiter_of (codes "\"$\\\n$(a)\"") ≡ quoted (codes "$$(a)")
unfolding unquoted stands past_continuations count_joined bare
pid = refl

-- after `$$` a `$(` opens a substitution, and a word with one is no delimiter
pub after_pid : delimiter_of (codes "\"$$$(a)\"") ≡ None
unfolding unquoted stands past_continuations count_joined bare
after_pid = refl

-- nor is one with an expansion, or with text in backquotes
pub expansion : delimiter_of (codes "a$\\\n{b}") ≡ None
unfolding unquoted stands past_continuations count_joined bare
expansion = refl

pub backquotes : delimiter_of (codes "\"`a`\"") ≡ None
unfolding unquoted stands past_continuations count_joined bare
backquotes = refl

-- ---- bodies

-- a document that waits: whether it is literal, whether tabs are taken off, its operator and delimiter
abbrev waits : Bool → Bool → ℕ → List ℕ → Waiting
waits literal strip operator delimiter =
    record { operator = operator; delimiter = delimiter; literal = literal; strip = strip }

-- the first line may be that of the delimiter
pub first_line : delimiter_from (codes "E\nE\n") (waits false false 0 (codes "E")) 0 ≡ Some 0
unfolding delimiter_on delimiter_below at_end raw_past count_front
first_line = refl

-- a line that the one before takes in is none, unless nothing is expanded
pub taken : delimiter_from (codes "a\\\nE\nE\n") (waits false false 0 (codes "E")) 0 ≡ Some 5
unfolding delimiter_on delimiter_below at_end raw_past count_front
taken = refl

pub not_taken : delimiter_from (codes "a\\\\\nE\nE\n") (waits false false 0 (codes "E")) 0 ≡ Some 4
unfolding delimiter_on delimiter_below at_end raw_past count_front
not_taken = refl

pub literal : delimiter_from (codes "a\\\nE\nE\n") (waits true false 0 (codes "E")) 0 ≡ Some 3
unfolding delimiter_on delimiter_below at_end raw_past count_front
literal = refl

-- tabs before a delimiter are taken off only after `<<-`, and a space never is
pub tabs : delimiter_from (codes "\tE\n") (waits false false 0 (codes "E")) 0 ≡ None
unfolding delimiter_on delimiter_below at_end raw_past count_front
tabs = refl

pub without_tabs : delimiter_from (codes " E\n\t\tE") (waits false true 0 (codes "E")) 0 ≡ Some 3
unfolding delimiter_on delimiter_below at_end raw_past count_front
without_tabs = refl

-- no line begins at the end of the text
pub no_line : delimiter_from (codes "a\n") (waits true false 0 []) 0 ≡ None
unfolding delimiter_on delimiter_below at_end raw_past count_front
no_line = refl

-- an empty line is that of an empty delimiter
pub empty_line : delimiter_from (codes "a\n\n") (waits true false 0 []) 0 ≡ Some 2
unfolding delimiter_on delimiter_below at_end raw_past count_front
empty_line = refl

-- two documents, the second at the end of the text
pub two_bodies :
    bodies_from (given Y2017 (codes "<<E <<F\na\nE\nF") 100)
    (waits false false 100 (codes "E") ∷ waits false false 104 (codes "F") ∷ []) [] 8
    ≡ Ok (span 100 8 10 ∷ span 100 12 12 ∷ [], 13)
unfolding bodies_from delimiter_on delimiter_below at_end raw_past count_front
two_bodies = refl

-- where the second has no line of its delimiter, the fault stands at its operator
pub second_unclosed :
    bodies_from (given Y2017 (codes "<<E <<F\na\nE\n") 100)
    (waits false false 100 (codes "E") ∷ waits false false 104 (codes "F") ∷ []) [] 8
    ≡ Err (record { kind = UnclosedHere; at = 104 })
unfolding bodies_from delimiter_on delimiter_below at_end raw_past count_front
second_unclosed = refl
