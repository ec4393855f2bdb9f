-- What POSIX.1-2017 itself says where a later edition says otherwise: what a `;` and a `$` begin, in words
-- that know of no later edition. Which delimiter a word is, `delimiter_of` says. That a row sees these by
-- that edition, and nothing else, is a law (`by_2017` of `shread`).
use Rattle.std.specs.Prelude.{ℕ, ◌==◌, List, Option, None, Some, if◌then◌else◌}
use Rattle.shgrammar.specs.Characters.{number_sign, dollar_sign, ampersand, left_parenthesis, right_parenthesis, semicolon, less_than_sign, greater_than_sign, backslash, grave_accent, left_brace, vertical_line}
use Rattle.shgrammar.specs.declared.mode.Mode.{Mode}
use Rattle.shgrammar.specs.declared.mode.Piece.{Piece}
use Rattle.shgrammar.specs.declared.mode.Piece.TheVariants as pieces
use Rattle.shgrammar.specs.declared.token.Next.{Next}
use Rattle.shgrammar.specs.declared.token.Position.{Position}
use Rattle.shgrammar.specs.declared.token.Token.{Token}
use Rattle.shgrammar.specs.declared.token.Token.TheVariants as tokens
use Rattle.shsource.specs.Text.{is_newline}
use Rattle.shgrammar.specs.Bytes.{byte_at, is_broken_at, past_blanks, past_byte, stands}
use Rattle.shgrammar.specs.Pieces.{byte_by, end_by}
use Rattle.shgrammar.specs.Standing.{at_end}
use Rattle.shgrammar.specs.Tokens.{greater_at, is_number, less_at, word_by}

-- ---- tokens (XCU 2.4, 2.10.1)

-- by the byte at p, or none; of several operators the longest one
abbrev pub token_2017 : Position → List ℕ → ℕ → Option ℕ → Token
token_2017 position T p None = tokens.End
token_2017 position T p (Some b) = if is_newline b then tokens.Newline
    else (if b == semicolon then
    (if stands T (past_byte T p) semicolon then tokens.DoubleSemicolon else tokens.Semicolon)
    else (if b == ampersand then (if stands T (past_byte T p) ampersand then tokens.AndIf else tokens.Ampersand)
    else (if b == vertical_line then (if stands T (past_byte T p) vertical_line then tokens.OrIf else tokens.Pipe)
    else (if b == left_parenthesis then tokens.OpenParen
    else (if b == right_parenthesis then tokens.CloseParen
    else (if b == less_than_sign then tokens.Redirect (less_at T (past_byte T p))
    else (if b == greater_than_sign then tokens.Redirect (greater_at T (past_byte T p))
    else (if b == number_sign then tokens.Comment
    else (if is_number T p then tokens.Number else word_by position T p)))))))))

-- the next token from p on: what it is, and whether a continuation stands before it
abbrev pub next_2017 : Position → List ℕ → ℕ → Next
next_2017 position T p = record {
  token = token_2017 position T (past_blanks T p) (byte_at T (past_blanks T p));
  broken = is_broken_at T p;
}

-- ---- the pieces of a word (XCU 2.2, 2.6)

-- by the byte after a `$`, which is read at q
abbrev pub dollar_2017 : List ℕ → ℕ → Option ℕ → Piece
dollar_2017 T q None = pieces.Ordinary
dollar_2017 T q (Some b) = if b == dollar_sign then pieces.Pid
    else (if b == left_parenthesis then
    (if stands T (past_byte T q) left_parenthesis then pieces.Arith else pieces.Subst)
    else (if b == left_brace then pieces.Param else pieces.Ordinary))

-- by the byte at p, or none
abbrev pub piece_by_2017 : List ℕ → ℕ → Mode → ℕ → Option ℕ → Piece
piece_by_2017 T p mode n None = end_by mode
piece_by_2017 T p mode n (Some b) = if b == backslash
    then (if at_end T (past_byte T p) then pieces.LoneBackslash else pieces.Escape)
    else (if b == grave_accent then pieces.Backquote
    else (if b == dollar_sign then dollar_2017 T (past_byte T p) (byte_at T (past_byte T p))
    else byte_by T p mode n b))

-- the piece at p, with n brackets open in arithmetic
abbrev pub piece_2017 : List ℕ → Mode → ℕ → ℕ → Piece
piece_2017 T mode n p = piece_by_2017 T p mode n (byte_at T p)
