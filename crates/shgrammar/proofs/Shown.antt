-- What a token says of the bytes from its first one on.
use Rattle.std.proofs.Common.{◌≡◌, ℕ, ◌==◌, Bool, true, false, List, Option, Some, None, slice_get, refl, sym, ap, ◌∙◌, cond}
use mathlib.Core.Bool.{Bool-set}
use native.Mathlib.Bridge.{le_prop}
use native.Mathlib.Nat.{ℕ_set}
use Rattle.std.proofs.lemmas.Bool.{eqb-true, or_from, cond_both, both_ways}
use Rattle.shgrammar.specs.declared.token.Closing.{Closing}
use Rattle.shgrammar.specs.declared.token.Closing.TheVariants as closings
use Rattle.shgrammar.specs.declared.token.Position.{Position}
use Rattle.shgrammar.specs.declared.token.Position.TheVariants.{Command, Prefix, Suffix}
use Rattle.shgrammar.specs.declared.token.Reserved.{Reserved}
use Rattle.shgrammar.specs.declared.token.Token.{Token}
use Rattle.shgrammar.specs.declared.token.Token.TheVariants as tokens
use Rattle.shsource.specs.Text.{is_newline}
use Rattle.shgrammar.specs.Classes.{is_blank, is_operator}
use Rattle.shgrammar.specs.Standing.{is_byte, is_none, passes, raw_stands, at_end}
use Rattle.shgrammar.specs.Bytes.{byte_at, past_byte, ends, ends_word, past_blanks, past_continuations, stands, stands_in}
use Rattle.shgrammar.specs.Characters.{ampersand, vertical_line, semicolon, left_parenthesis, right_parenthesis, less_than_sign, greater_than_sign, newline_char, hyphen, number_sign}
use Rattle.shast.specs.declared.tree.AndOrOperator.{AndOrOperator}
use Rattle.shast.specs.declared.tree.RedirectOperator.{RedirectOperator}
use Rattle.shgrammar.specs.Commands.{and_or_operator_of, begins_word, ends_item, falls_through, is_long, is_strip, redirect_operator_of, takes_here}
use Rattle.shgrammar.specs.Compounds.{begins_pattern, is_closing}
use Rattle.shgrammar.specs.declared.edition.Edition.{Edition}
use Rattle.shgrammar.specs.Tokens.{first_word, greater_at, is_comment, is_end, is_later, is_number, less_at, token_in, token_at, token_of, word_by, word_of}
use Rattle.shgrammar.specs.Shows.{IsRead, Shows}
use Rattle.shgrammar.proofs.Places.{blanks_stop, place_same, some_low, stands_low}

-- ---- the end of the text, and other tokens

-- what passes a test that the end does not pass is not the end
pub no_end : (test : Token → Bool) → test tokens.End ≡ false → (t : Token) → test t ≡ true → is_end t ≡ false
no_end test none tokens.End so = absurd (both_ways (test tokens.End) none so)
no_end test none _ so = refl

-- the end closes nothing
pub end_closes : (c : Closing) → is_closing c tokens.End ≡ false
end_closes closings.Brace = refl
end_closes _ = refl

-- ---- what the bytes are, by the token

-- a byte that is none of these is no operator
no_operator : (b : ℕ) → (b == ampersand) ≡ false → (b == vertical_line) ≡ false → (b == semicolon) ≡ false →
    (b == left_parenthesis) ≡ false →
    (b == right_parenthesis) ≡ false → (b == less_than_sign) ≡ false → (b == greater_than_sign) ≡ false →
    is_operator b ≡ false
no_operator b one two three four five six seven = rw (one, two, three, four, five, six, seven) refl

-- what the bytes at p are, by the token
abbrev Byte : List ℕ → ℕ → Option ℕ → Token → Type 0
Byte T p b tokens.End = is_none b ≡ true
Byte T p b tokens.Newline = is_byte b newline_char ≡ true
Byte T p b tokens.AndIf = IsRead T (past_byte T p)
Byte T p b tokens.OrIf = IsRead T (past_byte T p)
Byte T p b tokens.DoubleSemicolon = IsRead T (past_byte T p)
Byte T p b tokens.SemicolonAmpersand = IsRead T (past_byte T p)
Byte T p b (tokens.Redirect o) = (is_long o ≡ true → IsRead T (past_byte T p))
    × (is_strip o ≡ true → IsRead T (past_byte T (past_byte T p))) ×
    (takes_here o ≡ true → is_byte b less_than_sign ≡ true)
Byte T p b (tokens.Reserved r) = ends b ≡ false
Byte T p b tokens.Assignment = ends b ≡ false
Byte T p b tokens.Word = ends b ≡ false
Byte T p b _ = Unit {0}

module _ (T : List ℕ) (p : ℕ) where
  -- a byte that ends no word shows what is told of it: a word, an assignment, a reserved word
  word_is : (b : Option ℕ) (assigns : Bool) → ends b ≡ false → Byte T p b (word_of assigns)
  word_is b true e = e
  word_is b false e = e

  first_is : (b : Option ℕ) (assigns : Bool) (r : Option Reserved) → ends b ≡ false → Byte T p b (first_word assigns r)
  first_is b assigns None e = word_is b assigns e
  first_is b assigns (Some r) e = e

  in_position : (position : Position) (b : Option ℕ) → ends b ≡ false → Byte T p b (word_by position T p)
  in_position Command b e = first_is b _ _ e
  in_position Prefix b e = word_is b _ e
  in_position Suffix b e = e

  -- an operator of two bytes or more has a second one
  abbrev Long : RedirectOperator → Type 0
  Long o = is_long o ≡ true → IsRead T (past_byte T p)

  less_long : Long (less_at T (past_byte T p))
  unfolding less_at
  less_long =
      cond_both (stands T (past_byte T p) less_than_sign) _ _ Long
      (λ e. cond_both (stands T (past_byte T (past_byte T p)) hyphen) _ _ Long
      (λ f l. stands_low T (past_byte T p) less_than_sign e)
      (λ f l. stands_low T (past_byte T p) less_than_sign e))
      (λ e. cond_both (stands T (past_byte T p) ampersand) _ _ Long (λ f l. stands_low T (past_byte T p) ampersand f)
      (λ f. cond_both (stands T (past_byte T p) greater_than_sign) _ _ Long
      (λ g l. stands_low T (past_byte T p) greater_than_sign g)
      (λ g l. absurd cc)))

  -- `<<-` has a third one
  abbrev Strip : RedirectOperator → Type 0
  Strip o = is_strip o ≡ true → IsRead T (past_byte T (past_byte T p))

  less_strip : Strip (less_at T (past_byte T p))
  unfolding less_at
  less_strip =
      cond_both (stands T (past_byte T p) less_than_sign) _ _ Strip
      (λ e. cond_both (stands T (past_byte T (past_byte T p)) hyphen) _ _ Strip
      (λ f l. stands_low T (past_byte T (past_byte T p)) hyphen f) (λ f l. absurd cc))
      (λ e. cond_both (stands T (past_byte T p) ampersand) _ _ Strip (λ f l. absurd cc)
      (λ f. cond_both (stands T (past_byte T p) greater_than_sign) _ _ Strip (λ g l. absurd cc) (λ g l. absurd cc)))

  greater_strip : Strip (greater_at T (past_byte T p))
  unfolding greater_at
  greater_strip =
      cond_both (stands T (past_byte T p) greater_than_sign) _ _ Strip (λ e l. absurd cc)
      (λ e. cond_both (stands T (past_byte T p) ampersand) _ _ Strip (λ f l. absurd cc)
      (λ f. cond_both (stands T (past_byte T p) vertical_line) _ _ Strip (λ g l. absurd cc) (λ g l. absurd cc)))

  -- one that begins with `>` has a second one too
  greater_long : Long (greater_at T (past_byte T p))
  unfolding greater_at
  greater_long =
      cond_both (stands T (past_byte T p) greater_than_sign) _ _ Long
      (λ e l. stands_low T (past_byte T p) greater_than_sign e)
      (λ e. cond_both (stands T (past_byte T p) ampersand) _ _ Long (λ f l. stands_low T (past_byte T p) ampersand f)
      (λ f. cond_both (stands T (past_byte T p) vertical_line) _ _ Long
      (λ g l. stands_low T (past_byte T p) vertical_line g)
      (λ g l. absurd cc)))

  -- and none that begins with `>` takes a here-document
  greater_plain : (b : Option ℕ) → takes_here (greater_at T (past_byte T p)) ≡ true → is_byte b less_than_sign ≡ true
  unfolding greater_at
  greater_plain b =
      let Plain : RedirectOperator → Type 0 = λ o. takes_here o ≡ true → is_byte b less_than_sign ≡ true in
      cond_both (stands T (past_byte T p) greater_than_sign) _ _ Plain (λ e l. absurd cc)
      (λ e. cond_both (stands T (past_byte T p) ampersand) _ _ Plain (λ f l. absurd cc)
      (λ f. cond_both (stands T (past_byte T p) vertical_line) _ _ Plain (λ g l. absurd cc) (λ g l. absurd cc)))

  -- by the byte
  token_byte : (position : Position) (b : Option ℕ) → passes is_blank b ≡ false → Byte T p b (token_of position T p b)
  token_byte position None blank = refl
  token_byte position (Some b) blank =
      let P = Byte T p (Some b) in
      cond_both (is_newline b) _ _ P (λ e. e)
      (λ n. cond_both (b == semicolon) _ _ P
      (λ e. cond_both (stands T (past_byte T p) semicolon) _ _ P (λ f. stands_low T (past_byte T p) semicolon f)
      (λ f. cond_both (stands T (past_byte T p) ampersand) _ _ P (λ g. stands_low T (past_byte T p) ampersand g)
      (λ g. tt)))
      (λ e. cond_both (b == ampersand) _ _ P
      (λ f. cond_both (stands T (past_byte T p) ampersand) _ _ P (λ g. stands_low T (past_byte T p) ampersand g)
      (λ g. tt))
      (λ f. cond_both (b == vertical_line) _ _ P
      (λ g. cond_both (stands T (past_byte T p) vertical_line) _ _ P
      (λ h. stands_low T (past_byte T p) vertical_line h) (λ h. tt))
      (λ i. cond_both (b == left_parenthesis) _ _ P (λ g. tt)
      (λ j. cond_both (b == right_parenthesis) _ _ P (λ g. tt)
      (λ k. cond_both (b == less_than_sign) _ _ P (λ g. (less_long, less_strip, λ h. g))
      (λ l. cond_both (b == greater_than_sign) _ _ P (λ g. (greater_long, greater_strip, greater_plain (Some b)))
      (λ m. cond_both (b == number_sign) _ _ P (λ g. tt)
      (λ g. cond_both (is_number T p) _ _ P (λ h. tt)
      (λ h. in_position position (Some b)
      (or_from _ _ (or_from _ _ blank n) (no_operator b f i e j k l m))))))))))))

  -- a token that is not the end has a byte
  some_byte : (position : Position) (b : Option ℕ) → is_end (token_of position T p b) ≡ false → is_none b ≡ false
  some_byte position None e = absurd cc
  some_byte position (Some b) e = refl

  -- a `#` begins a comment
  hash_byte : (position : Position) (b : Option ℕ) → is_byte b number_sign ≡ true →
      is_comment (token_of position T p b) ≡ true
  hash_byte position None e = absurd cc
  hash_byte position (Some b) e = rw (eqb-true b number_sign e) refl

  -- so where the token is no comment there is no `#`
  no_hash : (position : Position) (b : Option ℕ) (hash : Bool) → is_byte b number_sign ≡ hash →
      is_comment (token_of position T p b) ≡ false → is_byte b number_sign ≡ false
  no_hash position b true is e =
      let contrary : true ≡ false = sym (hash_byte position b is) ∙ e in
      absurd cc
  no_hash position b false is e = is

-- ---- what each token shows

-- A token shows its own bytes alone: a fact of another token holds since this is not that one.

-- So each fact is shown by the tokens that it is of.
module _ (T : List ℕ) (p : ℕ) where
  -- what the bytes of a token are
  abbrev Of : Token → Type 0
  Of t = Byte T p (byte_at T p) t

  -- a word begins with a byte that ends no word
  word_shown : (t : Token) → Of t → begins_word t ≡ true → ends_word T p ≡ false
  unfolding ends_word
  word_shown tokens.Assignment e is = e
  word_shown tokens.Word e is = e
  word_shown _ e is = absurd cc

  -- a newline stands where its token is told, and no byte where the end is told
  newline_shown : (t : Token) → past_continuations T p ≡ p → Of t → t ≡ tokens.Newline
      → raw_stands T p newline_char ≡ true
  unfolding raw_stands
  newline_shown tokens.Newline still e is = ap (λ q. is_byte (slice_get T q) newline_char) (sym still) ∙ e
  newline_shown _ still e is = absurd cc

  end_shown : (t : Token) → past_continuations T p ≡ p → Of t → t ≡ tokens.End → at_end T p ≡ true
  unfolding at_end
  end_shown tokens.End still e is = ap (λ q. is_none (slice_get T q)) (sym still) ∙ e
  end_shown _ still e is = absurd cc

  -- `&&` and `||` have a second byte
  and_or_shown : (t : Token) → Of t → (o : AndOrOperator) → and_or_operator_of t ≡ Some o → IsRead T (past_byte T p)
  and_or_shown tokens.AndIf e o is = e
  and_or_shown tokens.OrIf e o is = e
  and_or_shown _ e o is = absurd cc

  -- a pattern begins with a byte that ends no word
  pattern_shown : (t : Token) → Of t → begins_pattern t ≡ true → ends_word T p ≡ false
  unfolding ends_word
  pattern_shown (tokens.Reserved r) e is = e
  pattern_shown tokens.Assignment e is = e
  pattern_shown tokens.Word e is = e
  pattern_shown _ e is = absurd cc

  -- `;;` and `;&` have a second byte
  item_end_shown : (t : Token) → Of t → ends_item t ≡ true → IsRead T (past_byte T p)
  item_end_shown tokens.DoubleSemicolon e is = e
  item_end_shown tokens.SemicolonAmpersand e is = e
  item_end_shown _ e is = absurd cc

  -- a long operator has a second byte, `<<-` a third, and that of a here-document begins with `<`
  long_shown : (t : Token) → Of t → (o : RedirectOperator) → redirect_operator_of t ≡ Some o → is_long o ≡ true
      → IsRead T (past_byte T p)
  long_shown (tokens.Redirect z) e o is long = let same : z ≡ o = cc in e.0 (rw same long)
  long_shown _ e o is long = absurd cc

  strip_shown : (t : Token) → Of t → (o : RedirectOperator) → redirect_operator_of t ≡ Some o → is_strip o ≡ true
      → IsRead T (past_byte T (past_byte T p))
  strip_shown (tokens.Redirect z) e o is strip = let same : z ≡ o = cc in e.1 (rw same strip)
  strip_shown _ e o is strip = absurd cc

  here_shown : (t : Token) → past_continuations T p ≡ p → Of t → (o : RedirectOperator)
      → redirect_operator_of t ≡ Some o → takes_here o ≡ true → raw_stands T p less_than_sign ≡ true
  unfolding raw_stands
  here_shown (tokens.Redirect z) still e o is takes =
      let same : z ≡ o = cc in
      ap (λ q. is_byte (slice_get T q) less_than_sign) (sym still) ∙ e.2 (rw same takes)
  here_shown _ still e o is takes = absurd cc

-- each token, by what its bytes are
shows_by : (T : List ℕ) (p : ℕ) (t : Token) → past_continuations T p ≡ p → (is_end t ≡ false → IsRead T p) →
    Byte T p (byte_at T p) t → (is_comment t ≡ false → raw_stands T p number_sign ≡ false) → Shows t T p
shows_by T p t still some e none = record {
  word = word_shown T p t e;
  read = some;
  newline = newline_shown T p t still e;
  ending = end_shown T p t still e;
  and_or = and_or_shown T p t e;
  no_comment = none;
  not_continued = still;
  pattern = pattern_shown T p t e;
  item_end = item_end_shown T p t e;
  long = long_shown T p t e;
  strip = strip_shown T p t e;
  here = here_shown T p t still e;
}

-- no continuation stands where blanks end
pub blanks_still : (T : List ℕ) (p : ℕ) → past_continuations T (past_blanks T p) ≡ past_blanks T p
unfolding past_blanks
blanks_still T p = place_same T _

-- a token says this of the bytes after blanks
pub token_shown : (position : Position) (T : List ℕ) (p : ℕ) →
    Shows (token_at position T (past_blanks T p)) T (past_blanks T p)
unfolding token_at stands_in raw_stands
token_shown position T p =
    let q = past_blanks T p in
    shows_by T q _ (blanks_still T p) (λ e. some_low T _ _ refl (some_byte T q position (byte_at T q) e))
    (token_byte T q position (byte_at T q) (blanks_stop T p))
    (λ e. ap (λ r. is_byte (slice_get T r) number_sign) (sym (blanks_still T p)) ∙ no_hash T q position
    (byte_at T q) _ refl e)

-- the token that an edition has in its place says no more of them
shows_later : (T : List ℕ) (p : ℕ) (later : Bool) → Shows tokens.SemicolonAmpersand T p →
    Shows (cond later tokens.SemicolonAmpersand tokens.Semicolon) T p
shows_later T p true so = so
shows_later T p false so = shows_by T p tokens.Semicolon so.not_continued so.read tt so.no_comment

-- and so for each token
pub shows_in : (edition : Edition) (t : Token) (T : List ℕ) (p : ℕ) → Shows t T p → Shows (token_in edition t) T p
shows_in edition tokens.SemicolonAmpersand T p so = shows_later T p (is_later edition) so
shows_in edition tokens.End T p so = so
shows_in edition tokens.Newline T p so = so
shows_in edition tokens.Semicolon T p so = so
shows_in edition tokens.DoubleSemicolon T p so = so
shows_in edition tokens.Ampersand T p so = so
shows_in edition tokens.AndIf T p so = so
shows_in edition tokens.OrIf T p so = so
shows_in edition tokens.Pipe T p so = so
shows_in edition tokens.OpenParen T p so = so
shows_in edition tokens.CloseParen T p so = so
shows_in edition (tokens.Redirect o) T p so = so
shows_in edition tokens.Comment T p so = so
shows_in edition tokens.Number T p so = so
shows_in edition (tokens.Reserved r) T p so = so
shows_in edition tokens.Assignment T p so = so
shows_in edition tokens.Word T p so = so

-- the token of an edition says this of the bytes after blanks
pub shown_in : (edition : Edition) (position : Position) (T : List ℕ) (p : ℕ) →
    Shows (token_in edition (token_at position T (past_blanks T p))) T (past_blanks T p)
shown_in edition position T p =
    shows_in edition (token_at position T (past_blanks T p)) T (past_blanks T p) (token_shown position T p)

-- what a token says of them is a fact: it has one value at most
pub shows_prop : (token : Token) (T : List ℕ) (p : ℕ) → IsProp (Shows token T p)
shows_prop token T p = hlevel (le_prop, ℕ_set, Bool-set)

-- a token falls through in a later edition alone
falls_by : (later : Bool) → falls_through (cond later tokens.SemicolonAmpersand tokens.Semicolon) ≡ true → later ≡ true
falls_by true e = refl
falls_by false e = absurd cc

pub falls_later : (edition : Edition) (t : Token) → falls_through (token_in edition t) ≡ true → is_later edition ≡ true
falls_later edition tokens.SemicolonAmpersand e = falls_by (is_later edition) e
falls_later edition _ e = absurd cc
