-- One text and another that has the same bytes from a place on up to a limit: what is read there is the same.
use Rattle.std.proofs.Common.{◌≡◌, ℕ, zero, suc, ◌+◌, ◌-◌, ◌≤◌, ◌<◌, ◌==◌, Bool, true, false, not, ◌&&◌, ◌||◌, List, Option, Some, None, slice_get, refl, sym, ap, subst, ◌∙◌, arith, ⊎_elim}
use Rattle.std.proofs.lemmas.Bool.{and_parts, and_left, both_ways, cases_Bool, false_from_ne_true}
use Rattle.std.proofs.lemmas.Bool.Decides.{nat_tests}
use Rattle.shgrammar.specs.Standing.{is_byte, passes, raw_stands, raw_in, raw_past, continues}
use Rattle.shgrammar.specs.Bytes.{ends, past_continuations, byte_at, past_byte, stands, stands_in}
use Rattle.shgrammar.specs.Characters.{left_parenthesis, backslash, newline_char, number_sign}
use Rattle.shgrammar.proofs.Stretches.{joined_more, joined_none, place_low, raw_is}
use Rattle.shgrammar.proofs.Places.{raw_past_low, raw_past_all, raw_past_stops}
use Rattle.shgrammar.specs.declared.edition.Edition.{Edition}

-- `to` says where the places of the first text from `a` on are in the second; the bytes are the same below L
pub record Kept (edition : Edition) (T T2 : List ℕ) (a L : ℕ) (to : ℕ → ℕ) : Type 0 where
  pub under : a ≤ L
  pub on : (p k : ℕ) → a ≤ p → to (p + k) ≡ to p + k
  pub same : (r : ℕ) → a ≤ r → r < L → slice_get T2 (to r) ≡ slice_get T r

-- a word ends at the limit in both texts, and in the second no `(` is there
pub record WordEnds (T T2 : List ℕ) (L : ℕ) (to : ℕ → ℕ) : Type 0 where
  pub here : ends (byte_at T L) ≡ true
  pub there : ends (byte_at T2 (to L)) ≡ true
  pub closed : is_byte (byte_at T2 (to L)) left_parenthesis ≡ false

-- the bytes over which something that is looked for ahead may go on
abbrev pub goes_on : ℕ → Bool
goes_on b = not (b == backslash || b == newline_char || b == number_sign)

-- What is looked for ahead from p on is found, or not, before the limit, or at it.
pub data Safe (T : List ℕ) (a L : ℕ) : ℕ → Type 0 where
  at_limit : Safe T a L L
  halts : {p : ℕ} → a ≤ p → p < L → continues T p ≡ false → raw_in goes_on T p ≡ false → Safe T a L p
  one_byte : {p : ℕ} → a ≤ p → raw_in goes_on T p ≡ true → Safe T a L (p + 1) → Safe T a L p
  two_bytes : {p : ℕ} → a ≤ p → continues T p ≡ true → Safe T a L (p + 2) → Safe T a L p

-- the byte that is read at p is before the limit, and the same; or it is that of the limit
pub data Place (T T2 : List ℕ) (L : ℕ) (to : ℕ → ℕ) (p : ℕ) : Type 0 where
  inside : past_continuations T p < L → past_continuations T2 (to p) ≡ to (past_continuations T p) → Place T T2 L to p
  outside : past_continuations T p ≡ past_continuations T L →
      past_continuations T2 (to p) ≡ past_continuations T2 (to L) → Place T T2 L to p

-- the byte that is read at p is before the limit, and the same
pub record Here (T T2 : List ℕ) (a L : ℕ) (to : ℕ → ℕ) (p : ℕ) : Type 0 where
  pub low : a ≤ p
  pub inside : past_continuations T p < L
  pub there : past_continuations T2 (to p) ≡ to (past_continuations T p)

-- a byte that is no backslash begins no continuation
pub no_backslash : (T : List ℕ) (p : ℕ) → raw_stands T p backslash ≡ false → continues T p ≡ false
unfolding continues
no_backslash T p e = and_left _ _ e

-- a byte over which it goes on is no backslash
pub on_no_backslash_by : (b : Option ℕ) → passes goes_on b ≡ true → is_byte b backslash ≡ false
on_no_backslash_by None e = refl
on_no_backslash_by (Some b) e = false_from_ne_true (b == backslash) (λ f. both_ways (goes_on b) (rw f refl) e)

pub on_no_backslash : (T : List ℕ) (p : ℕ) → raw_in goes_on T p ≡ true → raw_stands T p backslash ≡ false
unfolding raw_in raw_stands
on_no_backslash T p e = on_no_backslash_by (slice_get T p) e

-- so what is looked for does not go on over a backslash
backslash_stops_by : (b : Option ℕ) → is_byte b backslash ≡ true → passes goes_on b ≡ false
backslash_stops_by None e = refl
backslash_stops_by (Some b) e = rw e refl

backslash_stops : (T : List ℕ) (p : ℕ) → raw_stands T p backslash ≡ true → raw_in goes_on T p ≡ false
unfolding raw_in raw_stands
backslash_stops T p e = backslash_stops_by (slice_get T p) e

-- what is one byte is no other
pub byte_other : (x : Option ℕ) (c d : ℕ) → (c == d) ≡ false → is_byte x c ≡ true → is_byte x d ≡ false
byte_other None c d e f = refl
byte_other (Some b) c d e f = grind (arith, nat_tests)

-- a continuation is two bytes
pub continuation_is_two : (T : List ℕ) (p : ℕ) → continues T p ≡ true → (raw_stands T p backslash ≡ true)
    × (raw_stands T (p + 1) newline_char ≡ true)
unfolding continues
continuation_is_two T p e = and_parts _ _ e

module _ {edition : Edition} {T T2 : List ℕ} {a L : ℕ} {to : ℕ → ℕ} (K : Kept edition T T2 a L to) where
  -- ---- where it is safe

  -- a place from which it is safe is not past the limit
  pub safe_high : {p : ℕ} → Safe T a L p → p ≤ L
  safe_high at_limit = omega arith
  safe_high (halts low lt none stop) = omega (arith, lt)
  safe_high (one_byte low on rest) = omega (arith, safe_high rest)
  safe_high (two_bytes low c rest) = omega (arith, safe_high rest)

  -- after a byte that is no backslash
  pub safe_byte : (p : ℕ) → a ≤ p → raw_stands T p backslash ≡ false → Safe T a L (p + 1) → Safe T a L p
  safe_byte p low e rest =
      ⊎_elim (λ on. one_byte low on rest)
      (λ off. halts low (omega (arith, safe_high rest)) (no_backslash T p e) off)
      (cases_Bool (raw_in goes_on T p))

  -- a backslash that begins no continuation
  pub safe_escape : (p : ℕ) → a ≤ p → continues T p ≡ false → raw_stands T p backslash ≡ true → p + 2 ≤ L → Safe T a L p
  safe_escape p low none e lt = halts low (omega (arith, lt)) none (backslash_stops T p e)

  -- before continuations
  safe_place_below : (n p : ℕ) → L - p < n → a ≤ p → past_continuations T p ≤ L → Safe T a L (past_continuations T p) →
      Safe T a L p
  safe_place_below zero p few low high rest = absurd (omega arith)
  safe_place_below (suc n) p few low high rest =
      ⊎_elim
      (λ c. let more = joined_more T p c in
      let lt = place_low T (p + 2) in
      two_bytes low c (safe_place_below n (p + 2) (omega (arith, more)) (omega (arith, low)) (omega (arith, more))
      (subst (Safe T a L) more rest)))
      (λ c. subst (Safe T a L) (joined_none T p c) rest) (cases_Bool (continues T p))

  pub safe_place : (p : ℕ) → a ≤ p → Safe T a L (past_continuations T p) → Safe T a L p
  safe_place p low rest = safe_place_below (suc (L - p)) p (omega arith) low (safe_high rest) rest

  -- ---- what is the same

  -- a byte before the limit, as it stands
  pub raw_same : (p c : ℕ) → a ≤ p → p < L → raw_stands T2 (to p) c ≡ raw_stands T p c
  unfolding raw_stands
  raw_same p c low lt = ap (λ b. is_byte b c) (K.same p low lt)

  pub raw_same_next : (p k c : ℕ) → a ≤ p → p + k < L → raw_stands T2 (to p + k) c ≡ raw_stands T (p + k) c
  raw_same_next p k c low lt = ap (λ q. raw_stands T2 q c) (sym (K.on p k low))
      ∙ raw_same (p + k) c (omega (arith, low)) lt

  -- a continuation before the limit
  pub pair_same : (p : ℕ) → a ≤ p → p + 1 < L → continues T2 (to p) ≡ continues T p
  unfolding continues
  pair_same p low lt =
      ap (λ x. x && raw_stands T2 (to p + 1) newline_char) (raw_same p backslash low (omega (arith, lt)))
      ∙ ap (λ x. raw_stands T p backslash && x) (raw_same_next p 1 newline_char low lt)

  -- no continuation before the limit
  pub none_same : (p : ℕ) → a ≤ p → p < L → continues T p ≡ false → (raw_stands T p backslash ≡ true → p + 1 < L) →
      continues T2 (to p) ≡ false
  none_same p low lt none next =
      ⊎_elim (λ e. pair_same p low (next e) ∙ none) (λ e. no_backslash T2 (to p) (raw_same p backslash low lt ∙ e))
      (cases_Bool (raw_stands T p backslash))

  -- past continuations before the limit
  there_below : (n p : ℕ) → L - p < n → a ≤ p → past_continuations T p < L →
      (raw_stands T (past_continuations T p) backslash ≡ true → past_continuations T p + 1 < L)
      → past_continuations T2 (to p) ≡ to (past_continuations T p)
  there_below zero p few low lt next = absurd (omega arith)
  there_below (suc n) p few low lt next =
      ⊎_elim
      (λ c. let more = joined_more T p c in
      let on : p + 2 ≤ past_continuations T (p + 2) = place_low T (p + 2) in
      joined_more T2 (to p) (pair_same p low (omega (arith, more, lt, on)) ∙ c)
      ∙ ap (past_continuations T2) (sym (K.on p 2 low))
      ∙ there_below n (p + 2) (omega (arith, more, lt, on)) (omega (arith, low)) (omega (arith, more, lt))
      (λ e. omega (arith, more, next (rw more e))) ∙ ap to (sym more))
      (λ c. let none = joined_none T p c in
      joined_none T2 (to p) (none_same p low (omega (arith, none, lt)) c (λ e. omega (arith, none, next (rw none e))))
      ∙ ap to (sym none))
      (cases_Bool (continues T p))

  -- so the byte that is read there is before the limit, and the same
  pub here : (p : ℕ) → a ≤ p → past_continuations T p < L →
      (raw_stands T (past_continuations T p) backslash ≡ true → past_continuations T p + 1 < L) → Here T T2 a L to p
  here p low lt next = record { low = low; inside = lt; there = there_below (suc (L - p)) p (omega arith) low lt next }

  -- a place from which it is safe is not before `a`
  pub safe_low : {p : ℕ} → Safe T a L p → a ≤ p
  safe_low at_limit = K.under
  safe_low (halts low lt none stop) = low
  safe_low (one_byte low on rest) = low
  safe_low (two_bytes low c rest) = low

  -- where it is safe
  two_bytes_place : (p : ℕ) → a ≤ p → p + 2 ≤ L → continues T p ≡ true → Place T T2 L to (p + 2) → Place T T2 L to p
  two_bytes_place p low high c (inside lt there) =
      let more = joined_more T p c in
      inside (omega (arith, more, lt))
      (joined_more T2 (to p) (pair_same p low (omega (arith, high)) ∙ c)
      ∙ ap (past_continuations T2) (sym (K.on p 2 low)) ∙ there ∙ ap to (sym more))
  two_bytes_place p low high c (outside one two) =
      outside (joined_more T p c ∙ one)
      (joined_more T2 (to p) (pair_same p low (omega (arith, high)) ∙ c)
      ∙ ap (past_continuations T2) (sym (K.on p 2 low)) ∙ two)

  -- the byte at the limit is the same, if none before it begins a continuation with it
  abbrev pub AtLimit : Type 0
  AtLimit = (p : ℕ) → a ≤ p → p < L → continues T p ≡ false → continues T2 (to p) ≡ false

  pub place : AtLimit → {p : ℕ} → Safe T a L p → Place T T2 L to p
  place end at_limit = outside refl refl
  place end (halts {p = p} low lt none stop) =
      let is = joined_none T p none in
      inside (omega (arith, is, lt)) (joined_none T2 (to p) (end p low lt none) ∙ ap to (sym is))
  place end (one_byte {p = p} low on rest) =
      let e = on_no_backslash T p on in
      let is = joined_none T p (no_backslash T p e) in
      let lt : p < L = omega (arith, safe_high rest) in
      inside (omega (arith, is, lt))
      (joined_none T2 (to p) (no_backslash T2 (to p) (raw_same p backslash low lt ∙ e)) ∙ ap to (sym is))
  place end (two_bytes {p = p} low c rest) = two_bytes_place p low (safe_high rest) c (place end rest)

  -- ---- the byte that is read

  module _ {p : ℕ} (h : Here T T2 a L to p) where
    -- both texts read one byte there, and it passes the same tests
    pub here_byte : byte_at T2 (to p) ≡ byte_at T p
    here_byte = let low = place_low T p in
        ap (slice_get T2) h.there ∙ K.same (past_continuations T p) (omega (arith, h.low)) h.inside

    pub here_stands : (c : ℕ) → stands T2 (to p) c ≡ stands T p c
    unfolding stands
    here_stands c = ap (λ b. is_byte b c) here_byte

    pub here_stands_in : (test : ℕ → Bool) → stands_in test T2 (to p) ≡ stands_in test T p
    unfolding stands_in
    here_stands_in test = ap (passes test) here_byte

    -- the place after that byte is the same, and lies from `a` up to the limit
    pub here_after : past_byte T2 (to p) ≡ to (past_byte T p)
    unfolding past_byte
    here_after = let low = place_low T p in
        ap (λ q. q + 1) h.there ∙ sym (K.on (past_continuations T p) 1 (omega (arith, h.low)))

  -- before a byte that is read and is no backslash
  pub safe_after : (p : ℕ) → a ≤ p → raw_stands T (past_continuations T p) backslash ≡ false →
      Safe T a L (past_byte T p) →
      Safe T a L p
  unfolding past_byte
  safe_after p low e rest =
      let lt = place_low T p in safe_place p low (safe_byte (past_continuations T p) (omega (arith, low)) e rest)

  -- ---- stretches as they stand

  -- a byte k places after p passes the same tests
  raw_in_next : (test : ℕ → Bool) (p k : ℕ) → a ≤ p → p + k < L → raw_in test T2 (to p + k) ≡ raw_in test T (p + k)
  unfolding raw_in
  raw_in_next test p k low lt = ap (λ q. passes test (slice_get T2 q)) (sym (K.on p k low))
      ∙ ap (passes test) (K.same (p + k) (omega (arith, low)) lt)

  -- the bytes that pass a test end at one place in both texts, where that is before the limit
  pub raw_there : (test : ℕ → Bool) (p : ℕ) → a ≤ p → raw_past test T p < L →
      raw_past test T2 (to p) ≡ to (raw_past test T p)
  raw_there test p low lt =
      let q = raw_past test T p in
      let n = q - p in
      let end : p + n ≡ q = omega (arith, raw_past_low test T p) in
      raw_is test T2 (to p) n
      (λ k from up. let j = k - to p in let at : to p + j ≡ k = omega (arith, from) in
      subst (λ z. raw_in test T2 z ≡ true) at
      (raw_in_next test p j low (omega (arith, up, end, lt, from))
      ∙ raw_past_all test T p (p + j) (omega arith) (omega (arith, up, end, from))))
      (raw_in_next test p n low (omega (arith, end, lt))
      ∙ subst (λ z. raw_in test T z ≡ false) (sym end) (raw_past_stops test T p))
      ∙ sym (K.on p n low) ∙ ap to end
