-- Bytes that wait, once some are passed.
use Rattle.std.proofs.Common.{◌≡◌, ℕ, ◌+◌, ◌-◌, ◌≤◌, List, length, take, drop, sym, ap, ◌∙◌, arith}
use Rattle.std.proofs.lemmas.List.{drop-drop, drop-take, length-take}

-- past so many of the bytes that wait, the rest of them wait
pub passed : (xs : List ℕ) (at last count : ℕ) → count ≤ length (take (last - at) (drop at xs))
    → take (last - (at + count)) (drop (at + count) xs) ≡ drop count (take (last - at) (drop at xs))
passed xs at last count low =
    let all = length-take (last - at) (drop at xs) in
    let fits : count ≤ last - at = omega (arith, low, all) in
    let parts : last - at ≡ count + (last - (at + count)) = omega (arith, fits) in
    ap (take (last - (at + count))) (sym (drop-drop count at xs))
    ∙ sym (drop-take count (last - (at + count)) (drop at xs))
    ∙ ap (λ n. drop count (take n (drop at xs))) (sym parts)
