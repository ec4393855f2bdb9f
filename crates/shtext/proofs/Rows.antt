-- Items that are brought to a place of a row.
use Rattle.std.proofs.Common.{◌≡◌, ℕ, ◌+◌, ◌-◌, ◌≤◌, List, ◌++◌, length, take, drop, sym, ap, ◌∙◌, arith}
use Rattle.std.proofs.lemmas.List.{drop-append-le, drop_at, drop-drop, length-drop, length-take-le, take-append-le, take-take, take_at}
use Rattle.shtext.specs.Rows.{last_moved}

module _ {X : Type 0} (R N now : List X) (at count : ℕ) (within : at ≤ length R) (many : length N ≡ count)
    (is : now ≡ last_moved (R ++ N) (length R + count) at count) where
  brought : now ≡ take at R ++ (N ++ drop at R)
  brought =
      let rest : drop at (R ++ N) ≡ drop at R ++ N = drop-append-le at R N within in
      let long : length (drop at R) ≡ length R + count - at - count = length-drop at R ∙ omega (arith, within) in
      let m : ℕ = length R + count - at - count in
      is ∙ ap (λ l. l ++ (drop m (drop at (R ++ N)) ++ take m (drop at (R ++ N)))) (take-append-le at R N within)
      ∙ ap (λ l. take at R ++ (drop m l ++ take m l)) rest
      ∙ ap (λ l. take at R ++ (l ++ take m (drop at R ++ N))) (drop_at (drop at R) N m long)
      ∙ ap (λ l. take at R ++ (N ++ l)) (take_at (drop at R) N m long)

  -- those before the place stay
  pub brought_front : take at now ≡ take at R
  brought_front = ap (take at) brought ∙ take_at (take at R) (N ++ drop at R) at (length-take-le at R within)

  -- and so do those from there on
  pub brought_back : drop (at + count) now ≡ drop at R
  brought_back =
      ap (drop (at + count)) brought ∙ sym (drop-drop count at (take at R ++ (N ++ drop at R)))
      ∙ ap (drop count) (drop_at (take at R) (N ++ drop at R) at (length-take-le at R within))
      ∙ drop_at N (drop at R) count many

-- the same of the items before one before it
pub fewer_same : {X : Type 0} (js ks : List X) (n m : ℕ) → n ≤ m → take m js ≡ take m ks → take n js ≡ take n ks
fewer_same js ks n m low same = sym (take-take n m js low) ∙ ap (take n) same ∙ take-take n m ks low
