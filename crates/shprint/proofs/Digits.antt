-- The number before an operator that was read: digits, once its continuations are removed.
use Rattle.std.proofs.Common.{◌≡◌, ℕ, zero, suc, ◌+◌, ◌-◌, ◌≤◌, ◌==◌, Bool, true, false, List, [], ◌∷◌, length, drop, Option, Some, None, slice_get, refl, sym, ap, subst, ◌∙◌, arith, cond}
use Rattle.std.proofs.lemmas.Bool.{and_from, and_parts, cond_both}
use Rattle.shgrammar.specs.declared.token.Position.{Position}
use Rattle.shgrammar.specs.declared.token.Position.TheVariants.{Command, Prefix, Suffix}
use Rattle.shgrammar.specs.declared.token.Reserved.{Reserved}
use Rattle.shgrammar.specs.declared.token.Token.{Token}
use Rattle.shgrammar.specs.declared.token.Token.TheVariants as tokens
use Rattle.shsource.specs.Text.{is_newline as is_newline_byte}
use Rattle.shgrammar.specs.Characters.{ampersand, backslash, greater_than_sign, left_parenthesis, less_than_sign, newline_char, number_sign, right_parenthesis, semicolon, vertical_line}
use Rattle.shgrammar.specs.Classes.{is_digit}
use Rattle.shgrammar.specs.Standing.{continues, is_byte, passes, raw_stands}
use Rattle.shgrammar.specs.Bytes.{byte_at, past, past_byte, past_continuations, stands, stands_in}
use Rattle.shgrammar.specs.Tokens.{begins_assignment, first_word, is_number as is_number_at, past_digits, reserved_at, token_at, token_of, word_by, word_of}
use Rattle.shgrammar.specs.Comments.{span}
use Rattle.shgrammar.specs.Form.{raw}
use Rattle.shgrammar.specs.Commands.{is_number_token}
use Rattle.shgrammar.specs.Sights.{Given}
use Rattle.shgrammar.proofs.Spelling.{raw_at}
use Rattle.shgrammar.proofs.Stretches.{byte_is, joined_more, joined_none, past_more, past_none, place_low, raw_first, raw_nothing, stands_in_low}
use Rattle.shgrammar.proofs.Places.{past_low}
use Rattle.shast.specs.Shape.{Text, bare, bare_at}
use Rattle.shprint.proofs.Copying.{bare_none, bare_pair}
use Rattle.shprint.proofs.Good.{GoodNumber, all_digits}
use Rattle.shprint.proofs.Tokens.{digit_clear}

-- ---- what begins with a number's token

-- a token that is no number, whatever stands here
abbrev Counts : Bool → Token → Type 0
Counts here t = is_number_token t ≡ true → here ≡ true

-- a word is no number, by its position
word_counts : (here assigns : Bool) → Counts here (word_of assigns)
word_counts here true e = absurd cc
word_counts here false e = absurd cc

first_counts : (here assigns : Bool) (r : Option Reserved) → Counts here (first_word assigns r)
first_counts here assigns None e = word_counts here assigns e
first_counts here assigns (Some r) e = absurd cc

word_by_counts : (here : Bool) (position : Position) (T : List ℕ) (p : ℕ) → Counts here (word_by position T p)
word_by_counts here Command T p e = first_counts here (begins_assignment T p) (reserved_at T p) e
word_by_counts here Prefix T p e = word_counts here (begins_assignment T p) e
word_by_counts here Suffix T p e = absurd cc

-- one of two tokens that are no numbers
neither : (here c : Bool) (x y : Token) → Counts here x → Counts here y → Counts here (cond c x y)
neither here c x y one two = cond_both c x y (Counts here) (λ e. one) (λ e. two)

-- whatever byte begins it, a token is a number where one stands
token_counts : (position : Position) (T : List ℕ) (p : ℕ) (b : Option ℕ) →
    Counts (is_number_at T p) (token_of position T p b)
token_counts position T p None = λ e. absurd cc
token_counts position T p (Some b) =
    let here = is_number_at T p in
    neither here (is_newline_byte b) _ _ (λ e. absurd cc)
    (neither here (b == semicolon) _ _ (neither here (stands T (past_byte T p) semicolon) _ _ (λ e. absurd cc)
    (neither here (stands T (past_byte T p) ampersand) _ _ (λ e. absurd cc) (λ e. absurd cc)))
    (neither here (b == ampersand) _ _ (neither here (stands T (past_byte T p) ampersand) _ _ (λ e. absurd cc)
    (λ e. absurd cc))
    (neither here (b == vertical_line) _ _ (neither here (stands T (past_byte T p) vertical_line) _ _ (λ e. absurd cc)
    (λ e. absurd cc))
    (neither here (b == left_parenthesis) _ _ (λ e. absurd cc)
    (neither here (b == right_parenthesis) _ _ (λ e. absurd cc)
    (neither here (b == less_than_sign) _ _ (λ e. absurd cc)
    (neither here (b == greater_than_sign) _ _ (λ e. absurd cc)
    (neither here (b == number_sign) _ _ (λ e. absurd cc)
    (cond_both here tokens.Number (word_by position T p) (Counts here) (λ e f. e)
    (λ e. word_by_counts here position T p))))))))))

-- so where the token is a number one stands
pub number_here : (position : Position) (T : List ℕ) (p : ℕ) (t : Token) → token_at position T p ≡ t →
    is_number_token t ≡ true → is_number_at T p ≡ true
unfolding token_at
number_here position T p t same is = token_counts position T p (byte_at T p) (ap is_number_token same ∙ is)

-- ---- the bare text of digits

-- a digit is in the bare text
bare_digit : (c : ℕ) (bs : Text) → is_digit c ≡ true → bare (c ∷ bs) ≡ c ∷ bare bs
unfolding bare
bare_digit c [] e = refl
bare_digit c (b ∷ bs) e = rw (digit_clear c e) refl

-- digits are their own bare text
pub bare_of_digits : (t : Text) → all_digits t ≡ true → bare t ≡ t
unfolding bare
bare_of_digits [] all = refl
bare_of_digits (c ∷ cs) all = let parts = and_parts _ _ all in
    bare_digit c cs parts.0 ∙ ap (λ z. c ∷ z) (bare_of_digits cs parts.1)

-- one digit more
digits_more : (c : ℕ) (t : Text) → is_digit c ≡ true → all_digits t ≡ true → all_digits (c ∷ t) ≡ true
digits_more c t one others = and_from _ _ one others

-- where a digit is read it stands
byte_of : (x : Option ℕ) → passes is_digit x ≡ true → (c : ℕ) × (x ≡ Some c) × (is_digit c ≡ true)
byte_of None e = absurd cc
byte_of (Some c) e = (c, refl, e)

-- the same stretch from just after a continuation
past_pair : (T : List ℕ) (p : ℕ) → continues T p ≡ true → stands_in is_digit T p ≡ true →
    (stands_in is_digit T (p + 2) ≡ true) × (past is_digit T p ≡ past is_digit T (p + 2))
unfolding stands_in past_byte
past_pair T p pair digit =
    let place = joined_more T p pair in
    let there = ap (λ q. passes is_digit (slice_get T q)) (sym place) ∙ digit in (
      there,
      past_more is_digit T p digit ∙ ap (λ q. past is_digit T (q + 1)) place
          ∙ sym (past_more is_digit T (p + 2) there),
    )

-- a text that begins with a continuation
pair_front : (T : List ℕ) (p q : ℕ) → continues T p ≡ true → p + 2 ≤ q →
    raw T p q ≡ backslash ∷ newline_char ∷ raw T (p + 2) q
unfolding continues raw_stands
pair_front T p q pair le =
    let parts : (is_byte (slice_get T p) backslash ≡ true) × (is_byte (slice_get T (p + 1)) newline_char ≡ true) =
    and_parts _ _ pair in
    let next : p + 1 + 1 ≡ p + 2 = omega arith in
    raw_first T p q backslash (byte_is (slice_get T p) backslash parts.0) (omega (arith, le))
    ∙ ap (λ z. backslash ∷ z)
    (raw_first T (p + 1) q newline_char (byte_is (slice_get T (p + 1)) newline_char parts.1) (omega (arith, le))
    ∙ ap (λ r. newline_char ∷ raw T r q) next)

-- a digit and then digits
abbrev Digits : Text → Type 0
Digits t = (c : ℕ) × (cs : Text) × (t ≡ c ∷ cs) × (all_digits (c ∷ cs) ≡ true)

-- by a test
by_case : {P : Type 0} (b : Bool) → (b ≡ true → P) → (b ≡ false → P) → P
by_case true one two = one refl
by_case false one two = two refl

-- what is read from a place on up to the last digit, without continuations
abbrev DigitsAt : List ℕ → ℕ → Type 0
DigitsAt T p = Digits (bare (raw T p (past is_digit T p)))

-- the same for each place further on
abbrev Further : ℕ → List ℕ → Type 0
Further n T = (q : ℕ) → length T - q ≤ n → stands_in is_digit T q ≡ true → DigitsAt T q

-- it holds before a continuation, and before a digit
after_pair : (n : ℕ) (T : List ℕ) (p : ℕ) → Further n T → length T - p ≤ suc n → stands_in is_digit T p ≡ true →
    continues T p ≡ true → DigitsAt T p
after_pair n T p further few digit pair =
    let more = past_pair T p pair digit in
    let q = past is_digit T (p + 2) in
    let rest = further (p + 2) (omega (arith, few, stands_in_low is_digit T p digit, place_low T p)) more.0 in
    let same : bare (raw T p (past is_digit T p)) ≡ bare (raw T (p + 2) q) = ap (λ r. bare (raw T p r)) more.1
    ∙ ap bare (pair_front T p q pair (past_low is_digit T (p + 2))) ∙ bare_pair (raw T (p + 2) q) in
    (rest.0, rest.1, same ∙ rest.2, rest.3)

one_digit : (n : ℕ) (T : List ℕ) (p : ℕ) → Further n T → length T - p ≤ suc n → stands_in is_digit T p ≡ true →
    continues T p ≡ false → DigitsAt T p
unfolding stands_in past_byte
one_digit n T p further few digit no_pair =
    let place : past_continuations T p ≡ p = joined_none T p no_pair in
    let b = byte_of (byte_at T p) digit in
    let raw_is : slice_get T p ≡ Some b.0 = ap (slice_get T) (sym place) ∙ b.1 in
    let on : past is_digit T p ≡ past is_digit T (p + 1) = past_more is_digit T p digit
    ∙ ap (λ q. past is_digit T (q + 1)) place in
    let q = past is_digit T (p + 1) in
    let same : bare (raw T p (past is_digit T p)) ≡ b.0 ∷ bare (raw T (p + 1) q) =
    ap (λ r. bare (raw T p r)) on ∙ ap bare (raw_first T p q b.0 raw_is (omega (arith, past_low is_digit T (p + 1))))
    ∙ bare_digit b.0 (raw T (p + 1) q) b.2 in
    by_case (stands_in is_digit T (p + 1))
    (λ more.
    let rest = further (p + 1) (omega (arith, few, stands_in_low is_digit T p digit, place_low T p)) more in
    (b.0, bare (raw T (p + 1) q), same, digits_more b.0 (bare (raw T (p + 1) q)) b.2 (ap all_digits rest.2 ∙ rest.3)))
    (λ none.
    let nothing : bare (raw T (p + 1) q) ≡ [] = ap (λ r. bare (raw T (p + 1) r)) (past_none is_digit T (p + 1) none)
    ∙ ap bare (raw_nothing T (p + 1)) ∙ bare_none in
    (b.0, bare (raw T (p + 1) q), same, digits_more b.0 (bare (raw T (p + 1) q)) b.2 (ap all_digits nothing)))

-- so it does from each place at which a digit is read, by how much of the text is left
digits_from : (n : ℕ) (T : List ℕ) (p : ℕ) → length T - p ≤ n → stands_in is_digit T p ≡ true → DigitsAt T p
digits_from zero T p few digit = absurd (omega (arith, few, stands_in_low is_digit T p digit, place_low T p))
digits_from (suc n) T p few digit =
    let further : Further n T = λ q low is. digits_from n T q low is in
    by_case (continues T p) (after_pair n T p further few digit) (one_digit n T p further few digit)

-- such digits are a good number
number_of : (t : Text) → Digits t → GoodNumber (Some t)
number_of [] (c, cs, is, all) = absurd cc
number_of (d ∷ ds) (c, cs, is, all) = ap all_digits is ∙ all

-- the number of a redirection that was read is good
pub digits_good : (B : List ℕ) (g : Given) → g.text ≡ drop g.offset B → (p : ℕ) → is_number_at g.text p ≡ true →
    GoodNumber (Some (bare_at B (span g.offset p (past_digits g.text p))))
unfolding is_number_at past_digits
digits_good B g here p is =
    let q = past is_digit g.text p in
    subst (λ (t : Text). GoodNumber (Some (bare t))) (raw_at B g here p q)
    (number_of _ (digits_from (length g.text) g.text p (omega arith) (and_parts _ _ is).0))
