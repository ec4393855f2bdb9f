-- Tests that look ahead, where a byte ends the reading in both texts: the same answers.
use Rattle.std.proofs.Common.{◌≡◌, ℕ, zero, suc, ◌+◌, ◌-◌, ◌≤◌, ◌<◌, ◌==◌, Bool, true, false, not, cond, ◌&&◌, List, List as Row, [], ◌∷◌, length, Option, Some, None, slice_get, refl, sym, ap, subst, ◌∙◌, arith, ⊎_elim}
use Rattle.std.proofs.lemmas.Bool.{and_parts, both_ways, cases_Bool, false_from_ne_true, not-true}
use Rattle.std.proofs.lemmas.Bool.Decides.{nat_tests}
use Rattle.shsource.specs.Text.{is_newline}
use Rattle.shgrammar.specs.Classes.{is_blank, is_letter, is_digit, is_name}
use Rattle.shgrammar.specs.Standing.{is_byte, raw_in, raw_stands, raw_past, passes, continues}
use Rattle.shgrammar.specs.Bytes.{ends, ends_word, past, past_blanks, is_broken_at, past_continuations, byte_at, past_byte, stands, stands_in}
use Rattle.shgrammar.specs.Characters.{left_parenthesis, semicolon, ampersand, vertical_line, less_than_sign, greater_than_sign, newline_char, right_parenthesis, backslash, equals_sign, hyphen}
use Rattle.shgrammar.specs.declared.token.Position.{Position}
use Rattle.shgrammar.specs.declared.token.Position.TheVariants.{Command, Prefix, Suffix}
use Rattle.shgrammar.specs.declared.token.Token.TheVariants as tokens
use Rattle.shgrammar.specs.Tokens.{Spelling, is_word_at, first_of_words, reserved_words, reserved_at, begins_assignment, greater_at, is_name_at, is_number, less_at, word_by, token_of, token_at, next_at}
use Rattle.shgrammar.proofs.Stretches.{place_low, past_more, past_none, stands_in_low, joined_none, joined_more, raw_more, raw_none}
use Rattle.shgrammar.proofs.Places.{after_low, past_low}
use Rattle.shgrammar.proofs.SameBytes.{Kept, goes_on, Safe, at_limit, halts, one_byte, two_bytes, Place, inside, outside, Here, no_backslash, on_no_backslash, continuation_is_two, safe_high, safe_low, safe_place, safe_after, none_same, pair_same, place, raw_same, here_byte, here_after, on_no_backslash_by}
use Rattle.shgrammar.specs.declared.edition.Edition.{Edition}

-- the place after a byte is one past the continuations before it
pub past_byte_is : (T : List ℕ) (p : ℕ) → past_byte T p ≡ past_continuations T p + 1
unfolding past_byte
past_byte_is T p = refl

-- what ends a word is none of these
pub ender_is_other : (b c : ℕ) → ends (Some b) ≡ true → ends (Some c) ≡ false → (b == c) ≡ false
ender_is_other b c e f = false_from_ne_true (b == c)
    (λ g. let is : b ≡ c = grind (arith, nat_tests) in both_ways (ends (Some b)) (rw is f) e)

-- what the byte at the limit is: it is no byte over which anything that is looked for
-- goes on, and it ends a word
pub record Ender (c : ℕ) : Type 0 where
  pub ends_it : ends (Some c) ≡ true
  pub no_open : (c == left_parenthesis) ≡ false
  pub no_blank : is_blank c ≡ false
  pub no_semicolon : (c == semicolon) ≡ false
  pub no_ampersand : (c == ampersand) ≡ false
  pub no_bar : (c == vertical_line) ≡ false
  pub no_less : (c == less_than_sign) ≡ false
  pub no_greater : (c == greater_than_sign) ≡ false

-- a newline is such a byte
pub newline_ends : Ender newline_char
newline_ends = record {
  ends_it = refl;
  no_open = refl;
  no_blank = refl;
  no_semicolon = refl;
  no_ampersand = refl;
  no_bar = refl;
  no_less = refl;
  no_greater = refl;
}

-- and so is a `)`
pub bracket_ends : Ender right_parenthesis
bracket_ends = record {
  ends_it = refl;
  no_open = refl;
  no_blank = refl;
  no_semicolon = refl;
  no_ampersand = refl;
  no_bar = refl;
  no_less = refl;
  no_greater = refl;
}

-- a test that holds only of bytes over which it goes on, and not of the one at the limit
pub record Goes (c : ℕ) (test : ℕ → Bool) : Type 0 where
  pub on : (b : ℕ) → test b ≡ true → goes_on b ≡ true
  pub not_limit : test c ≡ false

-- such tests: for a byte of a name, a digit, a blank, and for one such byte
pub goes_name : (c : ℕ) → Ender c → Goes c is_name
goes_name c e = record {
  on = λ b f. grind (arith, nat_tests);
  not_limit = let f = e.ends_it in
      grind (arith, nat_tests);
}

pub goes_digit : (c : ℕ) → Ender c → Goes c is_digit
goes_digit c e = record {
  on = λ b f. grind (arith, nat_tests);
  not_limit = let f = e.ends_it in
      grind (arith, nat_tests);
}

pub goes_blank : (c : ℕ) → Ender c → Goes c is_blank
goes_blank c e = record { on = λ b f. grind (arith, nat_tests); not_limit = e.no_blank }

pub goes_one : (c x : ℕ) → goes_on x ≡ true → (c == x) ≡ false → Goes c (λ b. b == x)
goes_one c x f g = record { on = λ b h. let is : b ≡ x = grind (arith, nat_tests) in rw is f; not_limit = g }

-- where such a test passes, the reading goes on
passes_goes : {c : ℕ} {test : ℕ → Bool} → Goes c test → (x : Option ℕ) → passes test x ≡ true → passes goes_on x ≡ true
passes_goes g None e = absurd cc
passes_goes g (Some b) e = g.on b e

-- a byte that stands passes the test for itself
pub stands_passes : (x : Option ℕ) (c : ℕ) → is_byte x c ≡ true → passes (λ b. b == c) x ≡ true
stands_passes None c e = e
stands_passes (Some b) c e = e

-- the bytes of a word that is spelled
abbrev pub all_go : List ℕ → Bool
all_go [] = true
all_go (x ∷ xs) = goes_on x && (not (ends (Some x)) && all_go xs)

-- the same of each of these words
abbrev all_words : Row Spelling → Bool
all_words [] = true
all_words (w ∷ ws) = all_go w.0 && all_words ws

-- both of two tests, where the second counts only if the first holds
pub same_and : (b u v : Bool) → (b ≡ true → u ≡ v) → (b && u) ≡ (b && v)
same_and true u v same = same refl
same_and false u v same = refl

-- a choice, where each side counts only if the test leads there
pub same_if : {A : Type 0} (b : Bool) (x y u v : A) → (b ≡ true → x ≡ y) → (b ≡ false → u ≡ v) → cond b x u ≡ cond b y v
same_if true x y u v one two = one refl
same_if false x y u v one two = two refl

-- a word of no bytes stands where a word may end
pub spelled_none : (T : List ℕ) (p : ℕ) → is_word_at T p [] ≡ ends (byte_at T p)
unfolding is_word_at ends_word
spelled_none T p = refl

-- a word of one more byte stands where that byte does, and the rest after it
pub spelled_more : (T : List ℕ) (p x : ℕ) (xs : List ℕ) →
    is_word_at T p (x ∷ xs) ≡ (stands T p x && is_word_at T (past_byte T p) xs)
unfolding is_word_at
spelled_more T p x xs = refl

-- bytes that both texts have from a up to L, and the one there, which ends whatever is looked for
pub record ListEnds (edition : Edition) (T T2 : List ℕ) (a L : ℕ) (to : ℕ → ℕ) (c : ℕ) : Type 0 where
  pub kept : Kept edition T T2 a (L + 1) to
  pub under : a ≤ L
  pub byte : slice_get T L ≡ Some c
  pub ender : Ender c

-- what ends the reading in both texts is no backslash
pub not_backslash : (c : ℕ) → Ender c → (c == backslash) ≡ false
not_backslash c e = let f = e.ends_it in grind (arith, nat_tests)

module _ {edition : Edition} {T T2 : List ℕ} {a L : ℕ} {to : ℕ → ℕ} {c : ℕ} (E : ListEnds edition T T2 a L to c) where
  -- the bytes before the limit
  pub K : Kept edition T T2 a L to
  K = record { under = E.under; on = E.kept.on; same = λ r low lt. E.kept.same r low (omega (arith, lt)) }

  -- ---- the limit

  -- No continuation stands there, in either text, so its byte is read there.

  limit_clear : raw_stands T L backslash ≡ false
  unfolding raw_stands
  limit_clear = rw E.byte (not_backslash c E.ender)

  limit_clear_there : raw_stands T2 (to L) backslash ≡ false
  limit_clear_there = raw_same E.kept L backslash E.under (omega arith) ∙ limit_clear

  limit_place : past_continuations T L ≡ L
  limit_place = joined_none T L (no_backslash T L limit_clear)

  limit_place_there : past_continuations T2 (to L) ≡ to L
  limit_place_there = joined_none T2 (to L) (no_backslash T2 (to L) limit_clear_there)

  -- where no continuation begins in the first text none begins in the second
  at_limit_same : (p : ℕ) → a ≤ p → p < L → continues T p ≡ false → continues T2 (to p) ≡ false
  at_limit_same p low lt none = none_same E.kept p low (omega (arith, lt)) none (λ e. omega (arith, lt))

  -- where it is safe the same byte is read, up to the limit
  seen_by : {p : ℕ} → a ≤ p → Place T T2 L to p → Here T T2 a (L + 1) to p
  seen_by low (inside lt there) = record { low = low; inside = omega (arith, lt); there = there }
  seen_by low (outside one two) =
      record {
        low = low;
        inside = omega (arith, one, limit_place);
        there = two ∙ limit_place_there ∙ ap to (sym (one ∙ limit_place));
      }

  pub seen : {p : ℕ} → Safe T a L p → Here T T2 a (L + 1) to p
  seen s = seen_by (safe_low K s) (place K at_limit_same s)

  module _ {p : ℕ} (s : Safe T a L p) where
    -- where it is safe, both texts have the same byte and the same place after it
    pub same_byte : byte_at T2 (to p) ≡ byte_at T p
    same_byte = here_byte E.kept (seen s)

    pub same_after : past_byte T2 (to p) ≡ to (past_byte T p)
    same_after = here_after E.kept (seen s)

    -- so that byte is this one, and passes a test, in both texts or in none
    pub same_stands : (x : ℕ) → stands T2 (to p) x ≡ stands T p x
    unfolding stands
    same_stands x = ap (λ b. is_byte b x) same_byte

    pub same_stands_in : (test : ℕ → Bool) → stands_in test T2 (to p) ≡ stands_in test T p
    unfolding stands_in
    same_stands_in test = ap (passes test) same_byte

    -- continuations end at the same place
    pub same_place : past_continuations T2 (to p) ≡ to (past_continuations T p)
    same_place = (seen s).there

  -- ---- on from where it is safe

  -- past continuations
  pub place_safe : {p : ℕ} → Safe T a L p → Safe T a L (past_continuations T p)
  place_safe at_limit = subst (Safe T a L) (sym limit_place) at_limit
  place_safe (halts {p = p} low lt none stop) = subst (Safe T a L) (sym (joined_none T p none)) (halts low lt none stop)
  place_safe (one_byte {p = p} low on rest) =
      subst (Safe T a L) (sym (joined_none T p (no_backslash T p (on_no_backslash T p on)))) (one_byte low on rest)
  place_safe (two_bytes {p = p} low c rest) = subst (Safe T a L) (sym (joined_more T p c)) (place_safe rest)

  -- after a byte as it stands
  raw_safe : {p : ℕ} → Safe T a L p → raw_in goes_on T p ≡ true → (p ≡ L → ⊥) → Safe T a L (p + 1)
  raw_safe at_limit on other = absurd (other refl)
  raw_safe (halts low lt none stop) on other = absurd (both_ways _ stop on)
  raw_safe (one_byte low on rest) also other = rest
  raw_safe (two_bytes {p = p} low c rest) on other =
      absurd (both_ways (raw_stands T p backslash) (on_no_backslash T p on) (continuation_is_two T p c).0)

  module _ (test : ℕ → Bool) (g : Goes c test) where
    -- a byte that passes is not the one at the limit, and what is looked for goes on over it
    not_there : (p : ℕ) → raw_in test T p ≡ true → p ≡ L → ⊥
    unfolding raw_in
    not_there p e is = both_ways (test c) g.not_limit (sym (ap (passes test) (ap (slice_get T) is ∙ E.byte)) ∙ e)

    raw_on : (p : ℕ) → raw_in test T p ≡ true → raw_in goes_on T p ≡ true
    unfolding raw_in
    raw_on p e = passes_goes g (slice_get T p) e

    -- a test of the byte that is read is one of the byte after continuations
    read_raw : (p : ℕ) → stands_in test T p ≡ true → raw_in test T (past_continuations T p) ≡ true
    unfolding stands_in raw_in
    read_raw p e = e

    -- after a byte that is read
    pub next_safe : {p : ℕ} → Safe T a L p → stands_in test T p ≡ true → Safe T a L (past_byte T p)
    next_safe {p = p} s e =
        let r = read_raw p e in
        subst (Safe T a L) (sym (past_byte_is T p)) (raw_safe (place_safe s) (raw_on _ r) (not_there _ r))

    -- over a stretch it is safe too, and it ends at one place in both; fewer than n bytes are left there
    past_below : (n p : ℕ) → length T - p < n → Safe T a L p → Safe T a L (past test T p)
        × (past test T2 (to p) ≡ to (past test T p))
    past_below zero p few s = absurd (omega arith)
    past_below (suc n) p few s =
        ⊎_elim
        (λ (e : stands_in test T p ≡ true). let more = past_more test T p e in
        let rest = past_below n (past_byte T p)
        (omega (arith, few, after_low T p, stands_in_low test T p e, place_low T p)) (next_safe s e) in (
          subst (Safe T a L) (sym more) rest.0,
          past_more test T2 (to p) (same_stands_in s test ∙ e) ∙ ap (past test T2) (same_after s) ∙ rest.1
              ∙ ap to (sym more),
        ))
        (λ (e : stands_in test T p ≡ false). let none = past_none test T p e in
        (subst (Safe T a L) (sym none) s, past_none test T2 (to p) (same_stands_in s test ∙ e) ∙ ap to (sym none)))
        (cases_Bool (stands_in test T p))

    -- a stretch of what is read
    pub past_safe : {p : ℕ} → Safe T a L p → Safe T a L (past test T p) × (past test T2 (to p) ≡ to (past test T p))
    past_safe {p = p} s = past_below (suc (length T - p)) p (omega arith) s

    -- the byte that is read is no backslash where it passes
    raw_clear : (p : ℕ) → stands_in test T p ≡ true → raw_stands T (past_continuations T p) backslash ≡ false
    unfolding stands_in raw_stands
    raw_clear p e = on_no_backslash_by (byte_at T p) (passes_goes g (byte_at T p) e)

    -- it is as safe before a stretch as after it, where fewer than n bytes are left
    back_below : (n p : ℕ) → length T - p < n → a ≤ p → Safe T a L (past test T p) → Safe T a L p
    back_below zero p few low s = absurd (omega arith)
    back_below (suc n) p few low s =
        ⊎_elim
        (λ (e : stands_in test T p ≡ true).
        safe_after K p low (raw_clear p e)
        (back_below n (past_byte T p) (omega (arith, few, after_low T p, stands_in_low test T p e, place_low T p))
        (omega (arith, low, after_low T p)) (subst (Safe T a L) (past_more test T p e) s)))
        (λ (e : stands_in test T p ≡ false). subst (Safe T a L) (past_none test T p e) s)
        (cases_Bool (stands_in test T p))

    -- before a stretch of what is read
    pub past_back : (p : ℕ) → a ≤ p → Safe T a L (past test T p) → Safe T a L p
    past_back p low s = back_below (suc (length T - p)) p (omega arith) low s

  -- ---- blanks

  -- Blanks end at one place in both texts, where it is safe; and before them it is as safe as after them.

  pub blanks_safe : {p : ℕ} → Safe T a L p → Safe T a L (past_blanks T p)
      × (past_blanks T2 (to p) ≡ to (past_blanks T p))
  unfolding past_blanks
  blanks_safe s = let r = past_safe is_blank (goes_blank c E.ender) s in
      (place_safe r.0, ap (past_continuations T2) r.1 ∙ same_place r.0)

  pub blanks_back : (p : ℕ) → a ≤ p → Safe T a L (past_blanks T p) → Safe T a L p
  unfolding past_blanks
  blanks_back p low s = past_back is_blank (goes_blank c E.ender) p low
      (safe_place K (past is_blank T p) (omega (arith, low, past_low is_blank T p)) s)

  -- a byte up to the limit passes the same tests in both texts
  pub same_raw_in : (test : ℕ → Bool) (p : ℕ) → a ≤ p → p ≤ L → raw_in test T2 (to p) ≡ raw_in test T p
  unfolding raw_in
  same_raw_in test p low high = ap (passes test) (E.kept.same p low (omega (arith, high)))

  -- blanks as they stand, without continuations between them, end at one place as well
  raw_blanks_below : (n p : ℕ) → L - p < n → Safe T a L p → Safe T a L (raw_past is_blank T p)
      × (raw_past is_blank T2 (to p) ≡ to (raw_past is_blank T p))
  raw_blanks_below zero p few s = absurd (omega arith)
  raw_blanks_below (suc n) p few s =
      let low = safe_low K s in
      let high = safe_high K s in
      let same = same_raw_in is_blank p low high in
      ⊎_elim
      (λ (e : raw_in is_blank T p ≡ true). let more = raw_more is_blank T p e in
      let next = raw_safe s (raw_on is_blank (goes_blank c E.ender) p e)
      (not_there is_blank (goes_blank c E.ender) p e) in
      let rest = raw_blanks_below n (p + 1) (omega (arith, few, safe_high K next)) next in (
        subst (Safe T a L) (sym more) rest.0,
        raw_more is_blank T2 (to p) (same ∙ e) ∙ ap (raw_past is_blank T2) (sym (E.kept.on p 1 low)) ∙ rest.1
            ∙ ap to (sym more),
      ))
      (λ (e : raw_in is_blank T p ≡ false). let none = raw_none is_blank T p e in
      (subst (Safe T a L) (sym none) s, raw_none is_blank T2 (to p) (same ∙ e) ∙ ap to (sym none)))
      (cases_Bool (raw_in is_blank T p))

  -- a continuation stands there in both texts, or in none
  same_continues : {p : ℕ} → Safe T a L p → continues T2 (to p) ≡ continues T p
  same_continues at_limit = no_backslash T2 (to L) limit_clear_there ∙ sym (no_backslash T L limit_clear)
  same_continues (halts {p = p} low lt none stop) = at_limit_same p low lt none ∙ sym none
  same_continues (one_byte {p = p} low on rest) =
      let e = on_no_backslash T p on in
      no_backslash T2 (to p) (raw_same K p backslash low (omega (arith, safe_high K rest)) ∙ e) ∙ sym
      (no_backslash T p e)
  same_continues (two_bytes {p = p} low d rest) = pair_same K p low (omega (arith, safe_high K rest))

  -- a continuation after blanks stands in both texts, or in none
  pub same_broken : {p : ℕ} → Safe T a L p → is_broken_at T2 (to p) ≡ is_broken_at T p
  unfolding is_broken_at
  same_broken {p = p} s = let r = raw_blanks_below (suc (L - p)) p (omega arith) s in
      ap (continues T2) r.1 ∙ same_continues r.0

  -- ---- words that are spelled

  -- A word of the grammar stands in both texts or in none, where it is safe.

  -- a byte that is read passes the test for itself
  stands_is : (p x : ℕ) → stands T p x ≡ true → stands_in (λ b. b == x) T p ≡ true
  unfolding stands stands_in
  stands_is p x f = stands_passes (byte_at T p) x f

  -- one word, the first of a row of words, and a reserved word
  pub same_word : (word : List ℕ) (p : ℕ) → all_go word ≡ true → Safe T a L p →
      is_word_at T2 (to p) word ≡ is_word_at T p word
  same_word [] p e s = spelled_none T2 (to p) ∙ ap ends (same_byte s) ∙ sym (spelled_none T p)
  same_word (x ∷ xs) p e s =
      let here = and_parts _ _ e in
      let there = and_parts _ _ here.1 in
      spelled_more T2 (to p) x xs ∙ ap (λ b. b && is_word_at T2 (past_byte T2 (to p)) xs) (same_stands s x)
      ∙ same_and (stands T p x) _ _ (λ f. ap (λ q. is_word_at T2 q xs) (same_after s)
      ∙ same_word xs (past_byte T p) there.1
      (next_safe (λ b. b == x) (goes_one c x here.0
      (ender_is_other c x E.ender.ends_it (not-true (ends (Some x)) there.0)))
      s (stands_is p x f)))
      ∙ sym (spelled_more T p x xs)

  same_words : (ws : Row Spelling) (p : ℕ) → all_words ws ≡ true → Safe T a L p →
      first_of_words T2 (to p) ws ≡ first_of_words T p ws
  unfolding first_of_words
  same_words [] p e s = refl
  same_words (w ∷ ws) p e s = let both = and_parts _ _ e in rw (same_word w.0 p both.0 s, same_words ws p both.1 s) refl

  pub same_reserved : {p : ℕ} → Safe T a L p → reserved_at T2 (to p) ≡ reserved_at T p
  unfolding reserved_words
  same_reserved {p = p} s = same_words _ p refl s

  -- ---- tokens

  -- Where it is safe, both texts have the same token, in each position of a command.

  -- an assignment, a NAME, a number, and a word by the position in which it stands
  pub same_assignment : {p : ℕ} → Safe T a L p → begins_assignment T2 (to p) ≡ begins_assignment T p
  unfolding begins_assignment
  same_assignment s =
      let r = past_safe is_name (goes_name c E.ender) s in
      rw (same_stands_in s is_letter, r.1, same_stands r.0 equals_sign) refl

  pub same_name : {p : ℕ} → Safe T a L p → is_name_at T2 (to p) ≡ is_name_at T p
  unfolding is_name_at ends_word
  same_name s =
      let r = past_safe is_name (goes_name c E.ender) s in
      rw (same_stands_in s is_letter, r.1, same_byte r.0) refl

  same_number : {p : ℕ} → Safe T a L p → is_number T2 (to p) ≡ is_number T p
  unfolding is_number
  same_number s =
      let r = past_safe is_digit (goes_digit c E.ender) s in
      rw (same_stands_in s is_digit, r.1, same_stands r.0 less_than_sign, same_stands r.0 greater_than_sign) refl

  same_in_position : (position : Position) {p : ℕ} → Safe T a L p → word_by position T2 (to p) ≡ word_by position T p
  same_in_position Command s = rw (same_assignment s, same_reserved s) refl
  same_in_position Prefix s = rw (same_assignment s) refl
  same_in_position Suffix s = refl

  -- the operator of a redirection, after its first byte
  same_less : {q : ℕ} → Safe T a L q → less_at T2 (to q) ≡ less_at T q
  unfolding less_at
  same_less {q = q} s =
      rw (same_stands s less_than_sign, same_stands s ampersand, same_stands s greater_than_sign)
      (same_if (stands T q less_than_sign) _ _ _ _
      (λ e. let next = next_safe (λ x. x == less_than_sign) (goes_one c less_than_sign refl E.ender.no_less) s
      (stands_is q less_than_sign e) in
      rw (same_after s, same_stands next hyphen) refl)
      (λ e. refl))

  same_greater : {q : ℕ} → Safe T a L q → greater_at T2 (to q) ≡ greater_at T q
  unfolding greater_at
  same_greater s = rw (same_stands s greater_than_sign, same_stands s ampersand, same_stands s vertical_line) refl

  -- a token by its first byte, the token at a place, and the next one after blanks
  token_by : (position : Position) {p : ℕ} (x : Option ℕ) → Safe T a L p → byte_at T p ≡ x →
      token_of position T2 (to p) x ≡ token_of position T p x
  unfolding stands_in
  token_by position None s is = refl
  token_by position {p = p} (Some b) s is =
      same_if (is_newline b) _ _ _ _ (λ e. refl)
      (λ e. same_if (b == semicolon) _ _ _ _
      (λ f. let next = next_safe (λ x. x == semicolon) (goes_one c semicolon refl E.ender.no_semicolon) s (rw is f) in
      rw (same_after s, same_stands next semicolon, same_stands next ampersand) refl)
      (λ f. same_if (b == ampersand) _ _ _ _
      (λ g. let next = next_safe (λ x. x == ampersand) (goes_one c ampersand refl E.ender.no_ampersand) s (rw is g) in
      rw (same_after s, same_stands next ampersand) refl)
      (λ g. same_if (b == vertical_line) _ _ _ _
      (λ h. let next = next_safe (λ x. x == vertical_line) (goes_one c vertical_line refl E.ender.no_bar) s (rw is h) in
      rw (same_after s, same_stands next vertical_line) refl)
      (λ h. same_if (b == left_parenthesis) _ _ _ _ (λ i. refl)
      (λ i. same_if (b == right_parenthesis) _ _ _ _ (λ j. refl)
      (λ j. same_if (b == less_than_sign) _ _ _ _
      (λ k. let next = next_safe (λ x. x == less_than_sign) (goes_one c less_than_sign refl E.ender.no_less) s
      (rw is k) in
      ap tokens.Redirect (ap (less_at T2) (same_after s) ∙ same_less next))
      (λ k. same_if (b == greater_than_sign) _ _ _ _
      (λ l. let next = next_safe (λ x. x == greater_than_sign) (goes_one c greater_than_sign refl E.ender.no_greater) s
      (rw is l) in
      ap tokens.Redirect (ap (greater_at T2) (same_after s) ∙ same_greater next))
      (λ l. rw (same_number s, same_in_position position s) refl))))))))

  pub same_token : (position : Position) {p : ℕ} → Safe T a L p → token_at position T2 (to p) ≡ token_at position T p
  unfolding token_at
  same_token position {p = p} s = ap (token_of position T2 (to p)) (same_byte s)
      ∙ token_by position (byte_at T p) s refl

  pub same_next : (position : Position) {p : ℕ} → Safe T a L p → next_at position T2 (to p) ≡ next_at position T p
  same_next position s = let r = blanks_safe s in rw (r.1, same_token position r.0, same_broken s) refl
