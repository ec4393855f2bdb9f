-- A stretch of a source, and the text from a place on that it is part of.
use Rattle.std.proofs.Common.{◌≡◌, ℕ, ◌+◌, ◌-◌, ◌<◌, ◌≤◌, ◌==◌, Bool, true, false, Some, slice_get, slice_index, get_or, List, length, drop, refl, sym, ap, ◌∙◌, arith, length-drop, take}
use Rattle.std.proofs.lemmas.List.{get_or-drop, places, take-take}
use Rattle.std.proofs.lemmas.Grind.{same_number_lists}
use Rattle.std.proofs.lemmas.Option.{slice_get-get_or}
use Rattle.shsource.specs.Text.{IsRun}
use Rattle.shgrammar.specs.Characters.{backslash}
use Rattle.shgrammar.specs.Standing.{raw_in, raw_stands}
use Rattle.shgrammar.specs.Bytes.{ends, ends_word, past_continuations}
use Rattle.shgrammar.specs.Tokens.{is_word_at}
use Rattle.shgrammar.proofs.Stretches.{get_drop, raw_stays, letter_more, letter_other, word_whole}

-- ---- a stretch, and what is left of the source from where it begins

module _ (B : List ℕ) (at : ℕ) (run : List ℕ) (is : IsRun B at run) where
  -- it is no longer than that
  run_within : length run ≤ length (drop at B)
  run_within = grind (arith, is.short, is.none, length-drop)

  -- that begins with it, and with each front of it
  pub run_front : take (length run) (drop at B) ≡ run
  run_front = same_number_lists _ _ (grind (arith, run_within, places))
      (λ k lt. grind (arith, run_within, is.same, places))

  pub run_part : (n : ℕ) → n ≤ length run → take n (drop at B) ≡ take n run
  run_part n le = sym (take-take n (length run) (drop at B) le) ∙ ap (take n) run_front

-- ---- the stretch that begins where the text does

module _ (B : List ℕ) (base at : ℕ) (front : List ℕ) (is : IsRun B base front) (low : base ≤ length B)
    (lt : at < length front) where
  -- its bytes are those of the text
  pub front_byte : slice_get (drop base B) at ≡ Some (slice_index front at)
  front_byte =
      let short : base + length front ≤ length B = is.short low in
      get_drop base B at ∙ slice_get-get_or B (base + at) 0 (omega (arith, short, lt)) ∙ ap Some (is.same at lt)

  -- the text has a byte there
  pub front_within : at < length (drop base B)
  front_within =
      let short : base + length front ≤ length B = is.short low in
      let whole : length (drop base B) ≡ length B - base = length-drop base B in
      omega (arith, short, whole, lt)

  -- the rest of it is a stretch as well
  pub front_run : IsRun B (base + at) (drop at front)
  front_run =
      let short : base + length front ≤ length B = is.short low in
      let rest : length (drop at front) ≡ length front - at = length-drop at front in
      record {
        short = λ _. omega (arith, short, rest, lt);
        same = λ k here.
            let there : base + (at + k) ≡ base + at + k = omega arith in
            sym (ap (slice_index B) there) ∙ is.same (at + k) (omega (arith, rest, here))
            ∙ sym (get_or-drop at front k 0);
        some = λ _. omega (arith, rest, lt);
        none = λ high. absurd (omega (arith, high, short, lt));
      }

module _ (B : List ℕ) (base at : ℕ) (run : List ℕ) (is : IsRun B (base + at) run) (low : base ≤ length B)
    (within : at ≤ length (drop base B)) where
  -- a byte of the stretch is the one that stands there
  pub run_byte : (k : ℕ) → k < length run → slice_get (drop base B) (at + k) ≡ Some (slice_index run k)
  run_byte k lt =
      let whole : length (drop base B) ≡ length B - base = length-drop base B in
      let high : base + at + length run ≤ length B = is.short (omega (arith, whole, within)) in
      let there : base + (at + k) ≡ base + at + k = omega arith in
      get_drop base B (at + k) ∙ ap (slice_get B) there ∙ slice_get-get_or B (base + at + k) 0 (omega (arith, high, lt))
      ∙ ap Some (is.same k lt)

  -- bytes of the stretch that all pass a test do so where they stand
  pub run_all : (test : ℕ → Bool) (n : ℕ) → n ≤ length run → ((k : ℕ) → k < n → test (slice_index run k) ≡ true) →
      (k : ℕ) → at ≤ k → k < at + n → raw_in test (drop base B) k ≡ true
  unfolding raw_in
  run_all test n short all k k_low k_high =
      let there : at + (k - at) ≡ k = omega (arith, k_low) in
      let below : k - at < n = omega (arith, k_low, k_high) in
      let byte : slice_get (drop base B) k ≡ Some (slice_index run (k - at)) = ap (slice_get (drop base B)) (sym there)
      ∙ run_byte (k - at) (omega (arith, below, short)) in
      rw byte (all (k - at) below)

  -- ---- a word spelled out in the stretch

  -- a byte of the stretch is this one, or not, where it stands
  run_raw : (k c : ℕ) (x : Bool) → k < length run → (slice_index run k == c) ≡ x →
      raw_stands (drop base B) (at + k) c ≡ x
  unfolding raw_stands
  run_raw k c x lt e = rw (run_byte k lt) e

  -- the next letter of a word stands there, or another byte, or the word is at its end
  pub run_letter_more : (word : List ℕ) (i : ℕ) → i < length word → i < length run →
      (slice_index run i == backslash) ≡ false →
      (slice_index run i == get_or word i 0) ≡ true
      → is_word_at (drop base B) (at + i) (drop i word) ≡ is_word_at (drop base B) (at + (i + 1)) (drop (i + 1) word)
  run_letter_more word i lt short whole same =
      let next : at + i + 1 ≡ at + (i + 1) = omega arith in
      letter_more (drop base B) (at + i) word i lt (run_raw i backslash false short whole)
      (run_raw i (get_or word i 0) true short same)
      ∙ ap (λ q. is_word_at (drop base B) q (drop (i + 1) word)) next

  pub run_letter_other : (word : List ℕ) (i : ℕ) → i < length word → i < length run →
      (slice_index run i == backslash) ≡ false
      → (slice_index run i == get_or word i 0) ≡ false
      → is_word_at (drop base B) (at + i) (drop i word) ≡ false
  run_letter_other word i lt short whole other =
      letter_other (drop base B) (at + i) word i lt (run_raw i backslash false short whole)
      (run_raw i (get_or word i 0) false short other)

  pub run_word_whole : (word : List ℕ) → length word < length run → (slice_index run (length word) == backslash) ≡ false
      → is_word_at (drop base B) (at + length word) (drop (length word) word)
      ≡ ends (Some (slice_index run (length word)))
  unfolding ends_word
  run_word_whole word short whole =
      let here : past_continuations (drop base B) (at + length word) ≡ at + length word =
      raw_stays (drop base B) (at + length word) (run_raw (length word) backslash false short whole) in
      word_whole (drop base B) (at + length word) word (length word) refl ∙ rw (here, run_byte (length word) short) refl
