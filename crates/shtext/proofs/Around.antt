-- What stands around an edit in the chunks that give way to it.
use Rattle.std.proofs.Common.{◌≡◌, ℕ, ◌+◌, ◌-◌, ◌≤◌, List, [], ◌∷◌, ◌++◌, List as Row, length, take, drop, sym, ap, ◌∙◌, arith, length-append, length-drop}
use Rattle.std.proofs.lemmas.List.{drop_at, length-take-le, nil_from_length, take_at}
use Rattle.shtext.specs.Chunks.{EachHas, HoldsPart, around_count, joined, needed, put_between}
use Rattle.shtext.specs.Edit.{spliced}
use Rattle.shtext.proofs.Fullness.{holds_few, needed_more}
use Rattle.shtext.proofs.Joined.{joined_edited, joined_low, joined_mono, joined_nil}

-- the bytes before it, and those after it
abbrev pub head : Row (List ℕ) → ℕ → ℕ → List ℕ
head ks from a = take (a - length (joined (take from ks))) (drop (length (joined (take from ks))) (joined ks))

abbrev pub tail : Row (List ℕ) → ℕ → ℕ → List ℕ
tail ks to b = take (length (joined (take to ks)) - b) (drop b (joined ks))

module _ (ks : Row (List ℕ)) (from to a b : ℕ) (order : a ≤ b) (holds : HoldsPart ks from to a b) where
  -- how many these are
  pub head_length : length (head ks from a) ≡ a - length (joined (take from ks))
  head_length =
      let rest = length-drop (length (joined (take from ks))) (joined ks) in
      length-take-le (a - length (joined (take from ks))) (drop (length (joined (take from ks))) (joined ks))
      (omega (arith, rest, order, holds.low, holds.high, joined_low to ks))

  pub tail_length : length (tail ks to b) ≡ length (joined (take to ks)) - b
  tail_length =
      let rest = length-drop b (joined ks) in
      length-take-le (length (joined (take to ks)) - b) (drop b (joined ks))
      (omega (arith, rest, holds.high, joined_low to ks))

  -- they are copied into what is empty
  pub around_made : (none seam around : List ℕ) → length none ≡ 0 → seam ≡ none ++ (head ks from a ++ tail ks to b) →
      around ≡ seam → around ≡ head ks from a ++ tail ks to b
  around_made none seam around empty copied same = same ∙ copied
      ∙ ap (λ l. l ++ (head ks from a ++ tail ks to b)) (nil_from_length none empty)

  -- what comes, cut at the bytes before the edit
  pub around_is : (around text new F : List ℕ) (n : ℕ) → around ≡ head ks from a ++ tail ks to b →
      n ≡ length (joined (take from ks)) → F ≡ take (a - n) around ++ (text ++ drop (a - n) around) → text ≡ new
      → F ≡ head ks from a ++ (new ++ tail ks to b)
  around_is around text new F n made cut is same =
      let long : length (head ks from a) ≡ a - n = head_length ∙ ap (λ m. a - m) (sym cut) in
      is ∙ ap (λ l. take (a - n) l ++ (text ++ drop (a - n) l)) made
      ∙ ap (λ l. l ++ (text ++ drop (a - n) (head ks from a ++ tail ks to b)))
      (take_at (head ks from a) (tail ks to b) (a - n) long)
      ∙ ap (λ l. head ks from a ++ (text ++ l)) (drop_at (head ks from a) (tail ks to b) (a - n) long)
      ∙ ap (λ l. head ks from a ++ (l ++ tail ks to b)) same

  module _ (new F : List ℕ) (is : F ≡ head ks from a ++ (new ++ tail ks to b)) where
    -- how many bytes come
    pub around_length : length F ≡ length new + around_count ks from to a b
    around_length =
        let all = ap length is in
        let one = length-append (head ks from a) (new ++ tail ks to b) in
        let two = length-append new (tail ks to b) in
        omega (arith, all, one, two, head_length, tail_length)

    -- the text that they make
    pub around_edited : put_between ks from to F ≡ spliced (joined ks) a b new
    around_edited = ap (λ l. joined (take from ks) ++ (l ++ joined (drop to ks))) is
        ∙ joined_edited ks from to a b new holds

    -- the chunks that give way, and as many as the growth needs, are enough
    pub around_needed : EachHas 1 ks → needed (length F) ≤ (to - from) + needed (length new - (b - a))
    around_needed each =
        let first : from ≤ to = holds.order in
        let there : from + (to - from) ≡ to = omega (arith, first) in
        let few = holds_few 1 ks from (to - from) each (omega (arith, there, holds.within)) in
        let up = ap (λ m. length (joined (take m ks))) there in
        let more = joined_mono from to ks first in
        needed_more (length (joined (take to ks)) - length (joined (take from ks))) (to - from) (length F)
        (length new - (b - a))
        (omega (arith, few, up)) (omega (arith, around_length, more, holds.low, holds.high, order))

-- around an edit of a text without chunks there is nothing
pub none_around : (ks : Row (List ℕ)) (from to a b : ℕ) → a ≤ b → b ≤ length (joined ks) → length ks ≡ 0 →
    around_count ks from to a b ≡ 0
none_around [] from to a b order within none =
    let empty : length (joined {X = ℕ} []) ≡ 0 = ap length joined_nil in
    let high = joined_low {X = ℕ} to [] in
    omega (arith, empty, high, order, within)
none_around (k ∷ ks) from to a b order within none = absurd (omega (arith, none))
