-- The next place of a byte that is sought: a search goes on from one run to the next.
use Rattle.std.proofs.Common.{◌≡◌, ℕ, ◌+◌, ◌-◌, ◌<◌, ◌≤◌, ◌==◌, Bool, true, false, not, Option, Some, None, slice_get, slice_index, List, length, drop, refl, sym, ap, ◌∙◌, arith}
use Rattle.std.proofs.lemmas.Bool.{not_from_true}
use Rattle.std.proofs.lemmas.List.{drop-drop}
use Rattle.std.proofs.lemmas.Option.{slice_get-get_or, slice_get_past}
use Rattle.memchr.specs.Find.{IsFirstByte}
use Rattle.shsource.specs.Text.{IsRun}
use Rattle.shgrammar.specs.Standing.{is_byte, is_none, passes, raw_in, raw_stands, at_end, raw_past, count_front, next_such, next_of}
use Rattle.shgrammar.proofs.Stretches.{raw_is, raw_on, raw_more, raw_none}

-- a test that fails
no_pass : (x : Bool) → (x ≡ true → ⊥) → not x ≡ true
no_pass true never = absurd (never refl)
no_pass false never = refl

-- a byte of a run, as it stands in the text
in_run : (B : List ℕ) (at i : ℕ) (run : List ℕ) → IsRun B at run → at ≤ length B → i < length run →
    slice_get B (at + i) ≡ Some (slice_index run i)
in_run B at i run is low lt =
    let short : at + length run ≤ length B = is.short low in
    slice_get-get_or B (at + i) 0 (omega (arith, short, lt)) ∙ ap Some (is.same i lt)

module _ (test : ℕ → Bool) (B : List ℕ) (at : ℕ) (run : List ℕ) (is : IsRun B at run) (low : at ≤ length B) where
  -- none of the first bytes of the run is sought
  others : (n : ℕ) → n ≤ length run → ((j : ℕ) → j < n → test (slice_index run j) ≡ true → ⊥)
      → (k : ℕ) → at ≤ k → k < at + n → raw_in (λ c. not (test c)) B k ≡ true
  unfolding raw_in
  others n short none k k_low k_high =
      let below : k - at < n = omega (arith, k_low, k_high) in
      let there : at + (k - at) ≡ k = omega (arith, k_low) in
      let byte : slice_get B k ≡ Some (slice_index run (k - at)) = ap (slice_get B) (sym there)
      ∙ in_run B at (k - at) run is low (omega (arith, below, short)) in
      rw byte (no_pass (test (slice_index run (k - at))) (none (k - at) below))

  -- none of its bytes is
  pub such_passed : IsFirstByte test run None → next_such test B at ≡ next_such test B (at + length run)
  such_passed none = raw_on (λ c. not (test c)) B at (length run)
      (others (length run) (omega arith) (λ j lt. none j (omega arith) lt))

  -- the first that is
  pub such_found : (i : ℕ) → IsFirstByte test run (Some i) → next_such test B at ≡ at + i
  unfolding raw_in
  such_found i found =
      let first = found.0 in
      let high : i < length run = first.high in
      raw_is (λ c. not (test c)) B at i (others i (omega (arith, high)) (λ j lt. first.before j (omega arith) lt))
      (rw (in_run B at i run is low high) (not_from_true (test (slice_index run i)) found.1))

-- at the end there is none
pub such_end : (test : ℕ → Bool) (B : List ℕ) (at : ℕ) → length B ≤ at → next_such test B at ≡ at
unfolding raw_in
such_end test B at end = raw_none (λ c. not (test c)) B at (rw (slice_get_past B at end) refl)

-- the same in the text from an offset on
such_after : (test : ℕ → Bool) (B : List ℕ) (base p : ℕ) →
    next_such test (drop base B) p ≡ next_such test B (base + p) - base
unfolding raw_past
such_after test B base p =
    let same : count_front (λ c. not (test c)) (drop p (drop base B))
    ≡ count_front (λ c. not (test c)) (drop (base + p) B) =
    ap (count_front (λ c. not (test c))) (drop-drop p base B) in
    omega (arith, same)

-- a place of the text, which counts from begin, where the source was searched from there on
pub such_on : (test : ℕ → Bool) (B : List ℕ) (base begin p r : ℕ) → r ≡ next_such test B (base + begin + p) →
    base + begin ≤ r
    → begin + (r - (base + begin)) ≡ next_such test (drop base B) (begin + p)
such_on test B base begin p r is low =
    let there : base + (begin + p) ≡ base + begin + p = omega arith in
    let found = such_after test B base (begin + p) ∙ ap (λ (q : ℕ). next_such test B q - base) there
    ∙ ap (λ (q : ℕ). q - base) (sym is) in
    let back : begin + (r - (base + begin)) ≡ r - base = omega (arith, low) in
    back ∙ sym found

-- ---- byte by byte

-- a byte other than c is passed; c is not, nor is the end
other_byte : (c : ℕ) (b : Option ℕ) → is_none b ≡ false → is_byte b c ≡ false → passes (λ x. not (x == c)) b ≡ true
other_byte c None some other = absurd cc
other_byte c (Some x) some other = rw other refl

this_byte : (c : ℕ) (b : Option ℕ) → is_byte b c ≡ true → passes (λ x. not (x == c)) b ≡ false
this_byte c None is = refl
this_byte c (Some x) is = rw is refl

no_byte : (c : ℕ) (b : Option ℕ) → is_none b ≡ true → passes (λ x. not (x == c)) b ≡ false
no_byte c None none = refl
no_byte c (Some x) none = absurd cc

-- where another byte stands, the next c is that from the next place on; at c and at the end it is here
pub byte_passed : (c : ℕ) (T : List ℕ) (p : ℕ) → at_end T p ≡ false → raw_stands T p c ≡ false →
    next_of c T p ≡ next_of c T (p + 1)
unfolding raw_in at_end raw_stands
byte_passed c T p some other = raw_more (λ x. not (x == c)) T p (other_byte c (slice_get T p) some other)

pub byte_here : (c : ℕ) (T : List ℕ) (p : ℕ) → raw_stands T p c ≡ true → next_of c T p ≡ p
unfolding raw_in raw_stands
byte_here c T p is = raw_none (λ x. not (x == c)) T p (this_byte c (slice_get T p) is)

pub byte_end : (c : ℕ) (T : List ℕ) (p : ℕ) → at_end T p ≡ true → next_of c T p ≡ p
unfolding raw_in at_end
byte_end c T p end = raw_none (λ x. not (x == c)) T p (no_byte c (slice_get T p) end)
