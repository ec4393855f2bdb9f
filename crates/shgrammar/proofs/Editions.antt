-- By POSIX.1-2017 a row of the grammar sees what that edition's own definitions say, which know nothing of
-- a later one.
use Rattle.std.proofs.Common.{◌≡◌, ℕ, zero, suc, ◌==◌, Bool, true, false, cond, ap, List, [], ◌∷◌, Option, Some, None, Ok, Err, codes, refl}
use Rattle.shgrammar.specs.declared.edition.Edition.TheVariants.{Y2017, Y2024}
use Rattle.shgrammar.specs.declared.mode.Mode.{Mode}
use Rattle.shgrammar.specs.declared.mode.Mode.TheVariants.{Plain, Double, Brace, DoubleBrace, Arith}
use Rattle.shgrammar.specs.declared.mode.Piece.{Piece}
use Rattle.shgrammar.specs.declared.mode.Piece.TheVariants as pieces
use Rattle.shgrammar.specs.declared.token.Position.{Position}
use Rattle.shgrammar.specs.declared.token.Position.TheVariants.{Command, Prefix, Suffix}
use Rattle.shgrammar.specs.declared.token.Reserved.{Reserved}
use Rattle.shgrammar.specs.declared.token.Token.{Token}
use Rattle.shgrammar.specs.declared.token.Token.TheVariants as tokens
use Rattle.shsource.specs.Text.{is_newline}
use Rattle.shgrammar.specs.declared.fault.FaultKind.TheVariants.{UnclosedDollarSingle}
use Rattle.shgrammar.specs.declared.keep.Keep.TheVariants.{Whole}
use Rattle.shgrammar.specs.Sights.{Given, State, given, seen, standing, the_delimiter, the_piece, the_token}
use Rattle.shgrammar.specs.By2017.{dollar_2017, next_2017, piece_2017, piece_by_2017, token_2017}
use Rattle.shgrammar.specs.Commands.{falls_through}
use Rattle.shgrammar.specs.Compounds.{ender_told}
use Rattle.shgrammar.specs.Form.{does, many, tell, turns, turns_below}
use Rattle.shgrammar.specs.HereDocuments.{delimiter_of, has_dollar_single, not_quoted}
use Rattle.shgrammar.specs.Words.{dollar_single, escaped_turn}
use Rattle.shgrammar.specs.Standing.{at_end, continues, count_front, raw_past, raw_stands}
use Rattle.shgrammar.specs.Bytes.{byte_at, count_joined, ends, is_broken_at, past, past_below, past_blanks, past_byte, past_continuations, stands, stands_in}
use Rattle.shgrammar.specs.Characters.{semicolon, ampersand, vertical_line, left_parenthesis, right_parenthesis, less_than_sign, greater_than_sign, number_sign, dollar_sign, left_brace, apostrophe, quotation_mark, right_brace, backslash, grave_accent}
use Rattle.shgrammar.specs.Pieces.{bracket_by, byte_by, dollar_at, dollar_by, end_by, past_taken, piece_at, piece_by, piece_in}
use Rattle.shgrammar.specs.Tokens.{begins_assignment, first_word, is_number, next_at, next_in, reserved_at, token_at, token_in, token_of, word_by, word_of}

-- ---- tokens

-- a choice of two tokens is that of the two which the edition has for them
either : (c : Bool) (x y z w : Token) → token_in Y2017 x ≡ z → token_in Y2017 y ≡ w →
    token_in Y2017 (cond c x y) ≡ cond c z w
either true x y z w one two = one
either false x y z w one two = two

-- in the place of a `;&` it has a `;`
neither : (c : Bool) → token_in Y2017 (cond c tokens.SemicolonAmpersand tokens.Semicolon) ≡ tokens.Semicolon
neither true = refl
neither false = refl

-- a word is the same token, in whatever position
word_same : (b : Bool) → token_in Y2017 (word_of b) ≡ word_of b
word_same true = refl
word_same false = refl

first_same : (b : Bool) (r : Option Reserved) → token_in Y2017 (first_word b r) ≡ first_word b r
first_same b None = word_same b
first_same b (Some r) = refl

by_position : (position : Position) (T : List ℕ) (p : ℕ) → token_in Y2017 (word_by position T p) ≡ word_by position T p
by_position Command T p = first_same (begins_assignment T p) (reserved_at T p)
by_position Prefix T p = word_same (begins_assignment T p)
by_position Suffix T p = refl

-- so by the byte here it has the token that its own definition says
pub tokens_same : (position : Position) (T : List ℕ) (p : ℕ) (x : Option ℕ) →
    token_in Y2017 (token_of position T p x) ≡ token_2017 position T p x
tokens_same position T p None = refl
tokens_same position T p (Some b) =
    either (is_newline b) _ _ _ _ refl
    (either (b == semicolon) _ _ _ _ (either (stands T (past_byte T p) semicolon) _ _ _ _ refl
    (neither (stands T (past_byte T p) ampersand)))
    (either (b == ampersand) _ _ _ _ (either (stands T (past_byte T p) ampersand) _ _ _ _ refl refl)
    (either (b == vertical_line) _ _ _ _ (either (stands T (past_byte T p) vertical_line) _ _ _ _ refl refl)
    (either (b == left_parenthesis) _ _ _ _ refl
    (either (b == right_parenthesis) _ _ _ _ refl
    (either (b == less_than_sign) _ _ _ _ refl
    (either (b == greater_than_sign) _ _ _ _ refl
    (either (b == number_sign) _ _ _ _ refl
    (either (is_number T p) _ _ _ _ refl (by_position position T p))))))))))

-- ---- what a `$` begins

-- a choice of two pieces is that of the two which the edition has for them
in_mode : (mode : Mode) (c : Bool) (x y z w : Piece) → piece_in Y2017 mode x ≡ z → piece_in Y2017 mode y ≡ w →
    piece_in Y2017 mode (cond c x y) ≡ cond c z w
in_mode mode true x y z w one two = one
in_mode mode false x y z w one two = two

-- in the place of a `$'` it has an ordinary byte
plain_dollar : (mode : Mode) (c : Bool) →
    piece_in Y2017 mode (cond c pieces.DollarSingle pieces.Ordinary) ≡ pieces.Ordinary
plain_dollar mode true = refl
plain_dollar mode false = refl

-- so by the byte after a `$` it has the piece that its own definition says
pub dollars_same : (mode : Mode) (T : List ℕ) (q : ℕ) (x : Option ℕ) →
    piece_in Y2017 mode (dollar_by T q x) ≡ dollar_2017 T q x
dollars_same mode T q None = refl
dollars_same mode T q (Some b) =
    in_mode mode (b == dollar_sign) _ _ _ _ refl
    (in_mode mode (b == left_parenthesis) _ _ _ _
    (in_mode mode (stands T (past_byte T q) left_parenthesis) _ _ _ _ refl refl)
    (in_mode mode (b == left_brace) _ _ _ _ refl (plain_dollar mode (b == apostrophe))))

-- ---- pieces

-- the same at a `)` in arithmetic, at other bytes than `\`, a backquote and `$`, and at the end
bracket_same : (n : ℕ) (two : Bool) → piece_in Y2017 Arith (bracket_by n two) ≡ bracket_by n two
bracket_same zero true = refl
bracket_same zero false = refl
bracket_same (suc n) two = refl

bytes_same : (mode : Mode) (T : List ℕ) (p n b : ℕ) → piece_in Y2017 mode (byte_by T p mode n b) ≡ byte_by T p mode n b
bytes_same Plain T p n b = in_mode Plain (ends (Some b)) _ _ _ _ refl
    (in_mode Plain (b == apostrophe) _ _ _ _ refl (in_mode Plain (b == quotation_mark) _ _ _ _ refl refl))
bytes_same Double T p n b = in_mode Double (b == quotation_mark) _ _ _ _ refl refl
bytes_same Brace T p n b = in_mode Brace (b == right_brace) _ _ _ _ refl
    (in_mode Brace (b == apostrophe) _ _ _ _ refl (in_mode Brace (b == quotation_mark) _ _ _ _ refl refl))
bytes_same DoubleBrace T p n b =
    in_mode DoubleBrace (b == right_brace) _ _ _ _ refl (in_mode DoubleBrace (b == quotation_mark) _ _ _ _ refl refl)
bytes_same Arith T p n b = in_mode Arith (b == right_parenthesis) _ _ _ _
    (bracket_same n (stands T (past_byte T p) right_parenthesis))
    (in_mode Arith (b == left_parenthesis) _ _ _ _ refl refl)

end_same : (mode : Mode) → piece_in Y2017 mode (end_by mode) ≡ end_by mode
end_same Plain = refl
end_same Double = refl
end_same Brace = refl
end_same DoubleBrace = refl
end_same Arith = refl

-- so by the byte here it has the piece that its own definition says
piece_by_same : (mode : Mode) (T : List ℕ) (n p : ℕ) (x : Option ℕ) →
    piece_in Y2017 mode (piece_by T p mode n x) ≡ piece_by_2017 T p mode n x
unfolding dollar_at
piece_by_same mode T n p None = end_same mode
piece_by_same mode T n p (Some b) =
    in_mode mode (b == backslash) _ _ _ _ (in_mode mode (at_end T (past_byte T p)) _ _ _ _ refl refl)
    (in_mode mode (b == grave_accent) _ _ _ _ refl
    (in_mode mode (b == dollar_sign) _ _ _ _ (dollars_same mode T (past_byte T p) (byte_at T (past_byte T p)))
    (bytes_same mode T p n b)))

-- ---- what a row sees

-- no token of the edition ends an item of a `case` so that the next one is run too
no_falling : (t : Token) → falls_through (token_in Y2017 t) ≡ false
no_falling tokens.End = refl
no_falling tokens.Newline = refl
no_falling tokens.Semicolon = refl
no_falling tokens.DoubleSemicolon = refl
no_falling tokens.SemicolonAmpersand = refl
no_falling tokens.Ampersand = refl
no_falling tokens.AndIf = refl
no_falling tokens.OrIf = refl
no_falling tokens.Pipe = refl
no_falling tokens.OpenParen = refl
no_falling tokens.CloseParen = refl
no_falling (tokens.Redirect r) = refl
no_falling tokens.Comment = refl
no_falling tokens.Number = refl
no_falling (tokens.Reserved r) = refl
no_falling tokens.Assignment = refl
no_falling tokens.Word = refl

-- a token, a piece and a delimiter are seen as its own definitions say
pub token_seen : (position : Position) (g : Given) (s : State) → g.edition ≡ Y2017 →
    seen (the_token position) g s ≡ next_2017 position g.text s.at
unfolding token_at
token_seen position g s by = rw by (ap (λ t. record { token = t; broken = is_broken_at g.text s.at })
    (tokens_same position g.text (past_blanks g.text s.at) (byte_at g.text (past_blanks g.text s.at))))

pub piece_seen : (mode : Mode) (n : ℕ) (g : Given) (s : State) → g.edition ≡ Y2017 →
    seen (the_piece mode n) g s ≡ piece_2017 g.text mode n s.at
unfolding piece_at
piece_seen mode n g s by = rw by (piece_by_same mode g.text n s.at (byte_at g.text s.at))

pub delimiter_seen : (bytes : List ℕ) (g : Given) (s : State) → g.edition ≡ Y2017 →
    seen (the_delimiter bytes) g s ≡ delimiter_of bytes
delimiter_seen bytes g s by = rw by refl

-- and no token that falls through is seen
pub none_falls : (position : Position) (g : Given) (s : State) → g.edition ≡ Y2017 →
    falls_through (seen (the_token position) g s).token ≡ false
none_falls position g s by = rw by (no_falling (token_at position g.text (past_blanks g.text s.at)))

-- ---- by examples

-- a backslash takes one byte, also the closing one
past_escapes : does dollar_single Whole (given Y2024 (codes "$'a\\'b' c") 10) (standing 0) ≡ Ok (tt, standing 7)
unfolding dollar_single escaped_turn many turns turns_below past_byte past_continuations count_joined raw_past
    count_front
    at_end raw_stands past_taken
past_escapes = refl

-- the end inside it, and a backslash as the last byte, are faults at the `$`
open_at_end : does dollar_single Whole (given Y2024 (codes "$'a") 10) (standing 0)
    ≡ Err (record { kind = UnclosedDollarSingle; at = 10 })
unfolding dollar_single escaped_turn many turns turns_below past_byte past_continuations count_joined raw_past
    count_front
    at_end raw_stands past_taken
open_at_end = refl

open_at_backslash : does dollar_single Whole
    (given Y2024 (codes "$'a\\") 10) (standing 0) ≡ Err (record { kind = UnclosedDollarSingle; at = 10 })
unfolding dollar_single escaped_turn many turns turns_below past_byte past_continuations count_joined raw_past
    count_front
    at_end raw_stands past_taken
open_at_backslash = refl

-- `;&` by the longest match, in a later edition alone
falling : next_in Y2024 (next_at Command (codes "a;&") 1) ≡ record { token = tokens.SemicolonAmpersand; broken = false }
unfolding token_at past_blanks past past_below stands_in past_continuations count_joined is_broken_at continues raw_past
    count_front raw_stands stands past_byte
falling = refl

parted : next_in Y2017 (next_at Command (codes "a;&") 1) ≡ record { token = tokens.Semicolon; broken = false }
unfolding token_at past_blanks past past_below stands_in past_continuations count_joined is_broken_at continues raw_past
    count_front raw_stands stands past_byte
parted = refl

-- `;&` is told as a token, as no `;;` is, and without a continuation that stands in it
ender_told_so : (tell (ender_told true) (codes "a;\\\n& b") 1 5 ≡ codes ";&" ∷ [])
    × (tell (ender_told false) (codes "a;; b") 1 3 ≡ [])
ender_told_so = (refl, refl)

-- a word with `$'` is no delimiter; in double quotes, and after `$$`, there is no `$'`
quoted_so : (has_dollar_single not_quoted false (codes "a$'E'") ≡ true)
    × (has_dollar_single not_quoted false (codes "\"$'\"") ≡ false)
    × (has_dollar_single not_quoted false (codes "$$'E'") ≡ false)
unfolding has_dollar_single stands past_continuations count_joined
quoted_so = (refl, refl, refl)
