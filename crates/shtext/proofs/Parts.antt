-- Parts of a text.
use Rattle.std.proofs.Common.{◌≡◌, ℕ, ◌+◌, ◌-◌, ◌<◌, ◌≤◌, ◌↔◌, List, ◌++◌, length, take, drop, get_or, refl, sym, ap, ◌∙◌, arith}
use Rattle.std.proofs.lemmas.List.{append_cancel_left, take-take, take_at, get_or-drop, get_or-take, get_or_default, length-append, length-drop, length-take-le, same_lists, drop-drop}
use Rattle.std.proofs.Math.Seq.{take-add}

-- a run, as a part of the text
pub run_part : (B run : List ℕ) (at n : ℕ) → at + n ≤ length B → n ≤ length run →
    ((k : ℕ) → k < length run → get_or B (at + k) 0 ≡ get_or run k 0)
    → take n (drop at B) ≡ take n run
run_part B run at n fits short same =
    let rest : length (drop at B) ≡ length B - at = length-drop at B in
    let one : length (take n (drop at B)) ≡ n = length-take-le n (drop at B) (omega (arith, rest, fits)) in
    let two : length (take n run) ≡ n = length-take-le n run short in
    same_lists _ _ (one ∙ sym two) (λ k d lt.
    let low : k < n = omega (arith, lt, one) in
    get_or-take n (drop at B) k d low ∙ get_or-drop at B k d ∙ get_or_default B (at + k) d 0 (omega (arith, low, fits))
    ∙ same k (omega (arith, low, short)) ∙ get_or_default run k 0 d (omega (arith, low, short))
    ∙ sym (get_or-take n run k d low))

-- a part that grows by a run
pub part_more : (B : List ℕ) (from at n : ℕ) → from ≤ at →
    take (at - from) (drop from B) ++ take n (drop at B) ≡ take (at + n - from) (drop from B)
part_more B from at n low =
    let there : from + (at - from) ≡ at = omega (arith, low) in
    let far : at - from + n ≡ at + n - from = omega (arith, low) in
    ap (λ m. take (at - from) (drop from B) ++ take n (drop m B)) (sym there)
    ∙ ap (λ l. take (at - from) (drop from B) ++ take n l) (sym (drop-drop (at - from) from B))
    ∙ sym (take-add (at - from) n (drop from B))
    ∙ ap (λ m. take m (drop from B)) far

-- bytes that stand at an offset: their front does, and so does the rest
pub stand_more : (B rest front after : List ℕ) (at : ℕ) → rest ≡ front ++ after →
    take (length front) (drop at B) ≡ front
    → (take (length after) (drop (at + length front) B) ≡ after) ↔ (take (length rest) (drop at B) ≡ rest)
stand_more B rest front after at is here =
    let all : take (length rest) (drop at B) ≡ front ++ take (length after) (drop (at + length front) B)
    = ap (λ l. take (length l) (drop at B)) is ∙ ap (λ m. take m (drop at B)) (length-append front after)
    ∙ take-add (length front) (length after) (drop at B)
    ∙ ap (λ l. l ++ take (length after) (drop (length front) (drop at B))) here
    ∙ ap (λ l. front ++ take (length after) l) (drop-drop (length front) at B) in (
      (λ more. all ∙ ap (λ l. front ++ l) more ∙ sym is),
      (λ whole. append_cancel_left front _ _ (sym all ∙ whole ∙ is)),
    )

-- where others stand in the place of their front, they do not
pub stand_not : (B rest front after : List ℕ) (at : ℕ) → rest ≡ front ++ after →
    (take (length front) (drop at B) ≡ front → ⊥) → take (length rest) (drop at B) ≡ rest → ⊥
stand_not B rest front after at is other whole =
    let long = ap length is ∙ length-append front after in
    other (
    sym (take-take (length front) (length rest) (drop at B) (omega (arith, long)))
    ∙ ap (take (length front)) (whole ∙ is) ∙ take_at front after (length front) refl
    )
