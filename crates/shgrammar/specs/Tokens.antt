-- Tokens: what begins at a place where no blank stands (XCU 2.3, 2.4, 2.10.1).
use Rattle.std.specs.Prelude.{ℕ, Bool, true, false, ◌==◌, ◌&&◌, ◌||◌, List, [], ◌∷◌, List as Row, Option, Some, None, codes, if◌then◌else◌}
use Rattle.shgrammar.specs.Characters.{number_sign, ampersand, left_parenthesis, right_parenthesis, hyphen, semicolon, less_than_sign, equals_sign, greater_than_sign, vertical_line}
use Rattle.shgrammar.specs.declared.edition.Edition.{Edition}
use Rattle.shgrammar.specs.declared.edition.Edition.TheVariants.{Y2017, Y2024}
use Rattle.shgrammar.specs.declared.token.Next.{Next}
use Rattle.shgrammar.specs.declared.token.Position.{Position}
use Rattle.shgrammar.specs.declared.token.Position.TheVariants.{Command, Prefix, Suffix}
use Rattle.shgrammar.specs.declared.token.Reserved.{Reserved}
use Rattle.shgrammar.specs.declared.token.Reserved.TheVariants as reserved
use Rattle.shgrammar.specs.declared.token.Token.{Token}
use Rattle.shgrammar.specs.declared.token.Token.TheVariants as tokens
use Rattle.shast.specs.declared.tree.RedirectOperator.{RedirectOperator}
use Rattle.shast.specs.declared.tree.RedirectOperator.TheVariants as redirects
use Rattle.shsource.specs.Text.{is_newline}
use Rattle.shgrammar.specs.Classes.{is_digit, is_letter, is_name}
use Rattle.shgrammar.specs.Bytes.{byte_at, past_byte, stands, stands_in, ends_word, past, past_blanks, is_broken_at}

-- ---- words

-- the word that is spelled so stands at p
unfoldable pub is_word_at : List ℕ → ℕ → List ℕ → Bool
is_word_at T p [] = ends_word T p
is_word_at T p (c ∷ cs) = stands T p c && is_word_at T (past_byte T p) cs

abbrev pub Spelling : Type 0
Spelling = List ℕ × Reserved

-- the first of these words that stands at p
unfoldable pub first_of_words : List ℕ → ℕ → Row Spelling → Option Reserved
first_of_words T p [] = None
first_of_words T p (w ∷ ws) = if is_word_at T p w.0 then Some w.1 else first_of_words T p ws

-- the reserved words (XCU 2.4)
unfoldable pub reserved_words : Row Spelling
reserved_words = (codes "!", reserved.Bang) ∷ (codes "{", reserved.OpenBrace) ∷ (codes "}", reserved.CloseBrace)
    ∷ (codes "case", reserved.Case) ∷ (codes "do", reserved.Do)
    ∷ (codes "done", reserved.Done) ∷ (codes "elif", reserved.Elif) ∷ (codes "else", reserved.Else)
    ∷ (codes "esac", reserved.Esac) ∷ (codes "fi", reserved.Fi)
    ∷ (codes "for", reserved.For) ∷ (codes "if", reserved.If) ∷ (codes "in", reserved.In)
    ∷ (codes "then", reserved.Then) ∷ (codes "until", reserved.Until) ∷ (codes "while", reserved.While) ∷ []

-- the reserved word that stands at p
abbrev pub reserved_at : List ℕ → ℕ → Option Reserved
reserved_at T p = first_of_words T p reserved_words

-- the place after the reserved word that stands at p
unfoldable pub past_reserved : List ℕ → ℕ → ℕ
past_reserved T p = past is_name T (past_byte T p)

-- a NAME and `=` stand at p (XCU 2.10.2, rule 7)
unfoldable pub begins_assignment : List ℕ → ℕ → Bool
begins_assignment T p = stands_in is_letter T p && stands T (past is_name T p) equals_sign

-- the word that stands at p is a NAME (XBD 3.235)
unfoldable pub is_name_at : List ℕ → ℕ → Bool
is_name_at T p = stands_in is_letter T p && ends_word T (past is_name T p)

-- the place after the digits that stand at p
unfoldable pub past_digits : List ℕ → ℕ → ℕ
past_digits T p = past is_digit T p

-- digits that `<` or `>` follows stand at p (XCU 2.10.1, rule 2)
unfoldable pub is_number : List ℕ → ℕ → Bool
is_number T p = stands_in is_digit T p
    && (stands T (past is_digit T p) less_than_sign || stands T (past is_digit T p) greater_than_sign)

-- ---- tokens

-- a word that is not reserved, where an assignment may stand
abbrev pub word_of : Bool → Token
word_of true = tokens.Assignment
word_of _ = tokens.Word

-- a word where a command may begin
abbrev pub first_word : Bool → Option Reserved → Token
first_word assigns (Some r) = tokens.Reserved r
first_word assigns None = word_of assigns

-- where it stands decides what a word may be (XCU 2.4, 2.10.2)
abbrev pub word_by : Position → List ℕ → ℕ → Token
word_by Command T p = first_word (begins_assignment T p) (reserved_at T p)
word_by Prefix T p = word_of (begins_assignment T p)
word_by Suffix T p = tokens.Word

-- The operator of a redirection that begins with `<`, or with `>`; what stands after
-- that byte stands at p (XCU 2.7).
unfoldable pub less_at : List ℕ → ℕ → RedirectOperator
less_at T p = if stands T p less_than_sign then
    (if stands T (past_byte T p) hyphen then redirects.HereStripped else redirects.Here)
    else (if stands T p ampersand then redirects.DuplicateInput
    else (if stands T p greater_than_sign then redirects.ReadWrite else redirects.Input))

unfoldable pub greater_at : List ℕ → ℕ → RedirectOperator
greater_at T p = if stands T p greater_than_sign then redirects.Append
    else (if stands T p ampersand then redirects.DuplicateOutput
    else (if stands T p vertical_line then redirects.Clobber else redirects.Output))

-- what begins with a `;`, where p is the place after it
abbrev pub semicolon_at : List ℕ → ℕ → Token
semicolon_at T p = if stands T p semicolon then tokens.DoubleSemicolon
    else (if stands T p ampersand then tokens.SemicolonAmpersand else tokens.Semicolon)

-- by the byte at p, or none; of several operators the longest one
abbrev pub token_of : Position → List ℕ → ℕ → Option ℕ → Token
token_of position T p None = tokens.End
token_of position T p (Some b) = if is_newline b then tokens.Newline
    else (if b == semicolon then semicolon_at T (past_byte T p)
    else (if b == ampersand then (if stands T (past_byte T p) ampersand then tokens.AndIf else tokens.Ampersand)
    else (if b == vertical_line then (if stands T (past_byte T p) vertical_line then tokens.OrIf else tokens.Pipe)
    else (if b == left_parenthesis then tokens.OpenParen
    else (if b == right_parenthesis then tokens.CloseParen
    else (if b == less_than_sign then tokens.Redirect (less_at T (past_byte T p))
    else (if b == greater_than_sign then tokens.Redirect (greater_at T (past_byte T p))
    else (if b == number_sign then tokens.Comment
    else (if is_number T p then tokens.Number else word_by position T p)))))))))

-- no token begins here
abbrev pub is_end : Token → Bool
is_end tokens.End = true
is_end _ = false

-- a comment begins here
abbrev pub is_comment : Token → Bool
is_comment tokens.Comment = true
is_comment _ = false

-- what begins at p
unfoldable pub token_at : Position → List ℕ → ℕ → Token
token_at position T p = token_of position T p (byte_at T p)

-- the next token from p on: what it is, and whether a continuation stands before it
abbrev pub next_at : Position → List ℕ → ℕ → Next
next_at position T p = record { token = token_at position T (past_blanks T p); broken = is_broken_at T p }

-- ---- editions

-- an edition later than POSIX.1-2017
abbrev pub is_later : Edition → Bool
is_later Y2017 = false
is_later Y2024 = true

-- The token that an edition has in the place of this one. POSIX.1-2017 has no `;&`: a `;` stands there, and
-- an `&` after it.
abbrev pub token_in : Edition → Token → Token
token_in edition tokens.SemicolonAmpersand = if is_later edition then tokens.SemicolonAmpersand else tokens.Semicolon
token_in edition token = token

abbrev pub next_in : Edition → Next → Next
next_in edition n = record { token = token_in edition n.token; broken = n.broken }
