-- The pieces of a word: what begins one in each mode (XCU 2.2, 2.6).
use Rattle.std.specs.Prelude.{ℕ, zero, suc, ◌+◌, ◌==◌, Bool, true, false, ◌&&◌, ◌||◌, List, Option, None, Some, if◌then◌else◌}
use Rattle.shgrammar.specs.Characters.{quotation_mark, number_sign, dollar_sign, percent_sign, apostrophe, left_parenthesis, right_parenthesis, backslash, grave_accent, left_brace, right_brace}
use Rattle.shgrammar.specs.declared.fault.FaultKind.{FaultKind}
use Rattle.shgrammar.specs.declared.fault.FaultKind.TheVariants.{UnclosedBackquote, UnclosedDollarSingle, UnclosedDouble, UnclosedParam, UnclosedArith, UnexpectedEnd}
use Rattle.shgrammar.specs.declared.edition.Edition.{Edition}
use Rattle.shgrammar.specs.Tokens.{is_later}
use Rattle.shgrammar.specs.declared.mode.Escaping.{Escaping}
use Rattle.shgrammar.specs.declared.mode.Escaping.TheVariants as escapings
use Rattle.shgrammar.specs.declared.mode.Mode.{Mode}
use Rattle.shgrammar.specs.declared.mode.Mode.TheVariants.{Plain, Double, Brace, DoubleBrace, Arith}
use Rattle.shgrammar.specs.declared.mode.Piece.{Piece}
use Rattle.shgrammar.specs.declared.mode.Piece.TheVariants as pieces
use Rattle.shgrammar.specs.Classes.{is_digit, is_letter, is_name, is_special}
use Rattle.shgrammar.specs.Standing.{raw_stands, at_end, next_such, next_of}
use Rattle.shgrammar.specs.Bytes.{byte_at, past_byte, stands, stands_in, ends, past}

-- ---- what a byte begins in a mode

-- by the byte after a `$`, which is read at q (XCU 2.6)
abbrev pub dollar_by : List ℕ → ℕ → Option ℕ → Piece
dollar_by T q None = pieces.Ordinary
dollar_by T q (Some b) = if b == dollar_sign then pieces.Pid
    else (if b == left_parenthesis then
    (if stands T (past_byte T q) left_parenthesis then pieces.Arith else pieces.Subst)
    else (if b == left_brace then pieces.Param
    else (if b == apostrophe then pieces.DollarSingle else pieces.Ordinary)))

-- what the `$` at p begins
unfoldable pub dollar_at : List ℕ → ℕ → Piece
dollar_at T p = dollar_by T (past_byte T p) (byte_at T (past_byte T p))

-- a `)` in arithmetic, with n brackets open in it (XCU 2.6.4)
abbrev pub bracket_by : ℕ → Bool → Piece
bracket_by zero true = pieces.Closer
bracket_by zero false = pieces.BadClose
bracket_by (suc n) two = pieces.Close

-- a byte other than a backslash, a backquote and a `$`
abbrev pub byte_by : List ℕ → ℕ → Mode → ℕ → ℕ → Piece
byte_by T p Plain n b = if ends (Some b) then pieces.Closer
    else (if b == apostrophe then pieces.Single else (if b == quotation_mark then pieces.Double else pieces.Ordinary))
byte_by T p Double n b = if b == quotation_mark then pieces.Closer else pieces.Ordinary
byte_by T p Brace n b = if b == right_brace then pieces.Closer
    else (if b == apostrophe then pieces.Single else (if b == quotation_mark then pieces.Double else pieces.Ordinary))
byte_by T p DoubleBrace n b = if b == right_brace then pieces.Closer
    else (if b == quotation_mark then pieces.Double else pieces.Ordinary)
byte_by T p Arith n b = if b == right_parenthesis then bracket_by n (stands T (past_byte T p) right_parenthesis)
    else (if b == left_parenthesis then pieces.Open else pieces.Ordinary)

-- at the end of the text a word ends, and nothing else may
abbrev pub end_by : Mode → Piece
end_by Plain = pieces.Closer
end_by _ = pieces.Missing

-- By the byte at p, or none. Outside of single quotes a backslash takes the byte after it, whatever that is:
-- where it does not quote it (XCU 2.2.3), that byte begins nothing either.
abbrev pub piece_by : List ℕ → ℕ → Mode → ℕ → Option ℕ → Piece
piece_by T p mode n None = end_by mode
piece_by T p mode n (Some b) = if b == backslash
    then (if at_end T (past_byte T p) then pieces.LoneBackslash else pieces.Escape)
    else (if b == grave_accent then pieces.Backquote
    else (if b == dollar_sign then dollar_at T p
    else byte_by T p mode n b))

-- the piece at p, with n brackets open in arithmetic
unfoldable pub piece_at : List ℕ → Mode → ℕ → ℕ → Piece
piece_at T mode n p = piece_by T p mode n (byte_at T p)

-- ---- editions

-- where single quotes quote
abbrev pub quotes_singly : Mode → Bool
quotes_singly Plain = true
quotes_singly Brace = true
quotes_singly _ = false

-- The piece that an edition has in the place of this one: POSIX.1-2017 has no `$'`. Where single quotes do
-- not quote, no edition has it.
abbrev pub piece_in : Edition → Mode → Piece → Piece
piece_in edition mode pieces.DollarSingle = if is_later edition && quotes_singly mode then pieces.DollarSingle
    else pieces.Ordinary
piece_in edition mode piece = piece

-- ---- where pieces lead

-- after the byte that stands at p; a backslash takes the byte after it
unfoldable pub past_taken : List ℕ → ℕ → ℕ
past_taken T p = p + (if raw_stands T p backslash then 2 else 1)

-- after what closes a construct; nothing closes a word
abbrev pub past_closer : List ℕ → Mode → ℕ → ℕ
past_closer T Plain p = p
past_closer T Double p = past_byte T p
past_closer T Brace p = past_byte T p
past_closer T DoubleBrace p = past_byte T p
past_closer T Arith p = past_byte T (past_byte T p)

-- the fault of a construct in which the text ends
abbrev pub unclosed : Mode → FaultKind
unclosed Plain = UnexpectedEnd
unclosed Double = UnclosedDouble
unclosed Brace = UnclosedParam
unclosed DoubleBrace = UnclosedParam
unclosed Arith = UnclosedArith

-- ---- text that is not read

-- the next single quote, or the end (XCU 2.2.2)
abbrev pub next_quote : List ℕ → ℕ → ℕ
next_quote T p = next_of apostrophe T p

-- In backquotes (XCU 2.6.3), and in dollar-single quotes (POSIX.1-2024, XCU 2.2.4), a backslash takes one
-- byte. The byte that closes such text:
abbrev pub closes_by : Escaping → ℕ
closes_by escapings.Backquotes = grave_accent
closes_by escapings.DollarSingle = apostrophe

-- the fault where the text ends in it
abbrev pub unclosed_in : Escaping → FaultKind
unclosed_in escapings.Backquotes = UnclosedBackquote
unclosed_in escapings.DollarSingle = UnclosedDollarSingle

-- the next such byte or backslash, or the end
abbrev pub next_escaped : Escaping → List ℕ → ℕ → ℕ
next_escaped how T p = next_such (λ b. b == closes_by how || b == backslash) T p

-- a backslash at p is the last byte
abbrev pub is_last_backslash : List ℕ → ℕ → Bool
is_last_backslash T p = raw_stands T p backslash && at_end T (p + 1)

-- ---- parameter expansions (XCU 2.6.2)

-- the place after the parameter at p: a name, digits, a special parameter or nothing
unfoldable pub past_parameter : List ℕ → ℕ → ℕ
past_parameter T p = if stands_in is_letter T p then past is_name T p
    else (if stands_in is_digit T p then past is_digit T p
    else (if stands_in is_special T p then past_byte T p else p))

-- how an expansion is read that opened in this mode, unless its rest is a pattern
abbrev pub braces_in : Mode → Mode
braces_in Plain = Brace
braces_in Double = DoubleBrace
braces_in Brace = Brace
braces_in DoubleBrace = DoubleBrace
braces_in Arith = DoubleBrace

-- how the rest of an expansion is read, from just after its parameter on: after `#` or `%` it is a pattern
unfoldable pub rest_mode : List ℕ → Mode → ℕ → Mode
rest_mode T mode q = if stands T q number_sign || stands T q percent_sign then Brace else braces_in mode
