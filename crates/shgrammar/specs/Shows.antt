-- What a token says of the bytes from its first one on.
use Rattle.std.specs.Prelude.{◌≡◌, ℕ, ◌<◌, true, false, List, length, Some}
use Rattle.shgrammar.specs.Characters.{newline_char, number_sign, less_than_sign}
use Rattle.shgrammar.specs.declared.token.Token.{Token}
use Rattle.shgrammar.specs.declared.token.Token.TheVariants as tokens
use Rattle.shast.specs.declared.tree.AndOrOperator.{AndOrOperator}
use Rattle.shast.specs.declared.tree.RedirectOperator.{RedirectOperator}
use Rattle.shgrammar.specs.Standing.{raw_stands, at_end}
use Rattle.shgrammar.specs.Bytes.{past_byte, past_continuations, ends_word}
use Rattle.shgrammar.specs.Tokens.{is_comment, is_end}
use Rattle.shgrammar.specs.Commands.{and_or_operator_of, begins_word, ends_item, is_long, is_strip, redirect_operator_of, takes_here}
use Rattle.shgrammar.specs.Compounds.{begins_pattern}

-- a byte is read at p
abbrev pub IsRead : List ℕ → ℕ → Type 0
IsRead T p = past_continuations T p < length T

-- the token whose first byte stands at p
pub record Shows (token : Token) (T : List ℕ) (p : ℕ) : Type 0 where
  pub word : begins_word token ≡ true → ends_word T p ≡ false
  pub read : is_end token ≡ false → IsRead T p
  pub newline : token ≡ tokens.Newline → raw_stands T p newline_char ≡ true
  pub ending : token ≡ tokens.End → at_end T p ≡ true
  pub and_or : (operator : AndOrOperator) → and_or_operator_of token ≡ Some operator → IsRead T (past_byte T p)
  pub no_comment : is_comment token ≡ false → raw_stands T p number_sign ≡ false
  pub not_continued : past_continuations T p ≡ p
  pub pattern : begins_pattern token ≡ true → ends_word T p ≡ false
  pub item_end : ends_item token ≡ true → IsRead T (past_byte T p)
  -- an operator of two bytes or more, `<<-`, and one of a here-document
  pub long : (operator : RedirectOperator) → redirect_operator_of token ≡ Some operator → is_long operator ≡ true →
      IsRead T (past_byte T p)
  pub strip : (operator : RedirectOperator) → redirect_operator_of token ≡ Some operator → is_strip operator ≡ true →
      IsRead T (past_byte T (past_byte T p))
  pub here : (operator : RedirectOperator) → redirect_operator_of token ≡ Some operator → takes_here operator ≡ true →
      raw_stands T p less_than_sign ≡ true
