-- Sums past chunks that gave way to as many: they move.
use Rattle.std.proofs.Common.{zero, suc, ◌≡◌, ℕ, ◌+◌, ◌-◌, ◌<◌, ◌≤◌, List, ◌++◌, List as Row, length, take, drop, get_or, sym, ap, subst, ◌∙◌, arith, ⊎_elim}
use Rattle.std.proofs.lemmas.Bool.{cases_lt}
use Rattle.std.proofs.lemmas.List.{get_or-append_right, get_or_append_left, get_or-drop, get_or-take, length-drop, length-take-le}
use Rattle.std.proofs.Math.Seq.{take-add}
use Rattle.shtext.specs.Chunks.{HasSums, Refilled, SumsOn, before, joined, needed}
use Rattle.shtext.proofs.Filled.{refilled_after}
use Rattle.shtext.proofs.Joined.{joined_append}

-- what is measured of two lists is the sum
abbrev pub Adds : (List ℕ → ℕ) → Type 0
Adds measure = (xs ys : List ℕ) → measure (xs ++ ys) ≡ measure xs + measure ys

-- what is measured up to a place, and from there
measured : (measure : List ℕ → ℕ) → Adds measure → (ks : Row (List ℕ)) (n m : ℕ) → n ≤ m
    → measure (joined (take m ks)) ≡ measure (joined (take n ks)) + measure (joined (take (m - n) (drop n ks)))
measured measure adds ks n m low =
    let there : n + (m - n) ≡ m = omega (arith, low) in
    ap (λ k. measure (joined (take k ks))) (sym there) ∙ ap (λ l. measure (joined l)) (take-add n (m - n) ks)
    ∙ ap measure (joined_append (take n ks) (take (m - n) (drop n ks)))
    ∙ adds (joined (take n ks)) (joined (take (m - n) (drop n ks)))

-- sums go on from each place
pub sums_on : (measure : List ℕ → ℕ) → Adds measure → (ks : Row (List ℕ)) (sums : List ℕ) (n : ℕ) → n ≤ length ks →
    HasSums measure ks (length ks) sums
    → SumsOn measure (drop n ks) (before sums n) (drop n sums)
sums_on measure adds ks sums n within is m low =
    let rest = length-drop n ks in
    let one = is (suc (n + m)) (omega (arith, low, rest, within)) in
    let two = is n within in
    let three = measured measure adds ks n (suc (n + m)) (omega arith) in
    let there : suc (n + m) - n ≡ m + 1 = omega arith in
    let four = ap (λ k. measure (joined (take k (drop n ks)))) there in
    get_or-drop n sums m 0 ∙ omega (arith, one, two, three, four)

-- and so they do where other chunks came before it
pub sums_stay : (measure : List ℕ → ℕ) → Adds measure → (ks js row : Row (List ℕ)) (from to n : ℕ) (bytes sums : List ℕ)
    → Refilled ks js from to bytes → from ≤ to → to ≤ length ks
    → HasSums measure ks (length ks) sums → row ≡ js → n ≡ needed (length bytes) →
    SumsOn measure (drop (from + n) row) (before sums to) (drop to sums)
sums_stay measure adds ks js row from to n bytes sums is order within all same count =
    subst (λ l. SumsOn measure l (before sums to) (drop to sums))
    (sym (ap (λ l. drop (from + n) l) same ∙ ap (λ m. drop (from + m) js) count
    ∙ refilled_after ks js from to bytes is order within))
    (sums_on measure adds ks sums to within all)

-- after all chunks there are none
pub sums_on_none : (measure : List ℕ → ℕ) (ks : Row (List ℕ)) (base : ℕ) (sums : List ℕ) (n : ℕ) → length ks ≤ n →
    SumsOn measure (drop n ks) base sums
sums_on_none measure ks base sums n past m low = let rest = length-drop n ks in absurd (omega (arith, low, rest, past))

module _ (measure : List ℕ → ℕ) (ks : Row (List ℕ)) (old mid : List ℕ) (to went : ℕ) (within : to ≤ length ks)
    (count : length mid ≡ length ks) (same : drop to mid ≡ old)
    (on : SumsOn measure (drop to ks) went old) where
  -- a sum past the place
  pub sum_after : (n : ℕ) → n < length (drop to mid) →
      get_or (drop to mid) n 0 ≡ went + measure (joined (take (n + 1) (drop to ks)))
  sum_after n low =
      let rest = length-drop to mid in
      let left = length-drop to ks in
      ap (λ l. get_or l n 0) same ∙ on n (omega (arith, low, rest, left, count))

  -- it is no less than what went
  pub sum_low : (n : ℕ) → n < length (drop to mid) → went ≤ get_or (drop to mid) n 0
  sum_low n low = let here = sum_after n low in omega (arith, here)

  module _ (adds : Adds measure) (sums : HasSums measure ks to mid) (came : ℕ) (is_came : came ≡ before mid to) where
    -- once it has moved it is the sum
    pub sum_moved : (n : ℕ) → n < length (drop to mid) →
        get_or (drop to mid) n 0 - went + came ≡ measure (joined (take (to + (n + 1)) ks))
    sum_moved n low =
        let here = sum_after n low in
        let all = measured measure adds ks to (to + (n + 1)) (omega arith) in
        let there : to + (n + 1) - to ≡ n + 1 = omega arith in
        let rest = ap (λ m. measure (joined (take m (drop to ks)))) there in
        let begin = sums to (omega arith) in
        omega (arith, here, all, rest, begin, is_came)

    -- all sums, once those after have moved
    pub sums_moved : (new moved : List ℕ) → new ≡ take to mid ++ moved →
        ((n : ℕ) → n < length (drop to mid) → get_or moved n 0 ≡ get_or (drop to mid) n 0 - went + came)
        → HasSums measure ks (length ks) new
    sums_moved new moved made is zero low = sums zero (omega arith)
    sums_moved new moved made is (suc m) low =
        let front : length (take to mid) ≡ to = length-take-le to mid (omega (arith, within, count)) in
        let rest = length-drop to mid in
        ⊎_elim
        (λ (lt : m < to). ap (λ l. get_or l m 0) made
        ∙ get_or_append_left (take to mid) moved 0 m (omega (arith, lt, front)) ∙ get_or-take to mid m 0 lt
        ∙ sums (suc m) (omega (arith, lt)))
        (λ (ge : to ≤ m).
        let n : ℕ = m - to in
        let less : n < length (drop to mid) = omega (arith, low, rest, count, ge) in
        let there : to + (n + 1) ≡ suc m = omega (arith, ge) in
        ap (λ l. get_or l m 0) made ∙ get_or-append_right (take to mid) moved to m 0 front ge ∙ is n less
        ∙ sum_moved n less ∙ ap (λ k. measure (joined (take k ks))) there)
        (cases_lt m to)
