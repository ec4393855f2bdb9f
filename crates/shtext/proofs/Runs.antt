-- Stretches of a text.
use Rattle.std.proofs.Common.{◌≡◌, ℕ, ◌+◌, ◌-◌, ◌<◌, ◌≤◌, List, ◌++◌, length, drop, get_or, refl, sym, ap, ◌∙◌, arith}
use Rattle.std.proofs.lemmas.List.{get_or-append_right, get_or_append_left, get_or-drop, length-append, length-drop}
use Rattle.shsource.specs.Text.{IsRun}

-- a stretch of a chunk
pub run_within : (B X k Y : List ℕ) (at : ℕ) → B ≡ X ++ (k ++ Y) → length X ≤ at → at < length X + length k →
    IsRun B at (drop (at - length X) k)
run_within B X k Y at is low high =
    let front : List ℕ = drop (at - length X) k in
    let long : length front ≡ length k - (at - length X) = length-drop (at - length X) k in
    let one = ap length is in
    let two = length-append X (k ++ Y) in
    let three = length-append k Y in
    record {
      short = λ _. omega (arith, long, one, two, three, low, high);
      same = λ j lt.
          let there : at + j - length X ≡ at - length X + j = omega (arith, low) in
          let less : at - length X + j < length k = omega (arith, lt, long, low) in
          ap (λ l. get_or l (at + j) 0) is
          ∙ get_or-append_right X (k ++ Y) (length X) (at + j) 0 refl (omega (arith, low))
          ∙ ap (λ m. get_or (k ++ Y) m 0) there
          ∙ get_or_append_left k Y 0 (at - length X + j) less
          ∙ sym (get_or-drop (at - length X) k j 0);
      some = λ _. omega (arith, long, low, high);
      none = λ past. absurd (omega (arith, past, one, two, three, low, high));
    }
