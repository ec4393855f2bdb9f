-- Chunks that are filled one after the other.
use Rattle.std.proofs.Common.{◌≡◌, ℕ, ◌+◌, ◌<◌, ◌≤◌, List, ◌++◌, List as Row, length, take, drop, set, sym, ap, subst, ◌∙◌, arith}
use Rattle.std.proofs.lemmas.List.{drop-drop, drop_at, length-take-le, take_more_set}
use Rattle.std.proofs.Math.Seq.{take-add}
use Rattle.shtext.specs.Chunks.{AreFull, EachHas, LeavesFull, Refilled, joined, most, needed, put_between}
use Rattle.shtext.proofs.Fullness.{Each, each_between, each_push, full_between, full_filled, not_empty, not_small}
use Rattle.shtext.proofs.Joined.{joined_append, joined_push}

module _ (ks : Row (List ℕ)) (i : ℕ) (k : List ℕ) (low : i < length ks) where
  -- the bytes so far
  pub filled_bytes : (B : List ℕ) (at n : ℕ) → joined (take i ks) ≡ take at B → k ≡ take n (drop at B) →
      joined (take (i + 1) (set ks i k)) ≡ take (at + n) B
  filled_bytes B at n so_far is =
      ap joined (take_more_set ks i k low) ∙ joined_push (take i ks) k ∙ ap (λ l. l ++ k) so_far
      ∙ ap (λ l. take at B ++ l) is ∙ sym (take-add at n B)

  -- what each of them is
  pub filled_each : (P : List ℕ → Type 0) → Each P (take i ks) → P k → Each P (take (i + 1) (set ks i k))
  filled_each P so_far is = subst (Each P) (sym (take_more_set ks i k low)) (each_push P (take i ks) k so_far is)

-- chunks with the bytes of a text stand in the place of others
module _ (ks js : Row (List ℕ)) (from to : ℕ) (bytes : List ℕ) (is : Refilled ks js from to bytes) where
  -- all bytes
  pub refilled_bytes : joined js ≡ put_between ks from to bytes
  refilled_bytes =
      ap joined is.row ∙ joined_append (take from ks) (is.filled ++ drop to ks)
      ∙ ap (λ l. joined (take from ks) ++ l)
      (joined_append is.filled (drop to ks) ∙ ap (λ l. l ++ joined (drop to ks)) is.all)

  -- those after them stay
  pub refilled_after : from ≤ to → to ≤ length ks → drop (from + needed (length bytes)) js ≡ drop to ks
  refilled_after order within =
      let three = length-take-le from ks (omega (arith, order, within)) in
      sym (drop-drop (needed (length bytes)) from js) ∙ ap (λ l. drop (needed (length bytes)) (drop from l)) is.row
      ∙ ap (drop (needed (length bytes))) (drop_at (take from ks) (is.filled ++ drop to ks) from three)
      ∙ drop_at is.filled (drop to ks) (needed (length bytes)) is.count

  -- none is empty
  pub refilled_each : EachHas 1 ks → EachHas 1 js
  refilled_each all =
      subst (EachHas 1) (sym is.row)
      (each_between (λ (k : List ℕ). (1 ≤ length k) × (length k ≤ most)) ks is.filled from to all
      (not_empty is.filled (length bytes) is.each is.count))

  -- and none but the last small
  pub refilled_full : from ≤ to → to ≤ length ks → LeavesFull ks from to (length bytes) → AreFull ks → AreFull js
  refilled_full order within leaves all =
      subst AreFull (sym is.row)
      (full_between ks is.filled from to order within leaves.first all
      (λ low. not_small is.filled (length bytes) is.each (leaves.full low))
      (full_filled is.filled (length bytes) is.each is.count))

-- the same of a row that had as many chunks stand there before
pub refilled_anew : (ks ms js : Row (List ℕ)) (from to end : ℕ) (bytes : List ℕ) → take from ms ≡ take from ks →
    drop end ms ≡ drop to ks → Refilled ms js from end bytes → Refilled ks js from to bytes
refilled_anew ks ms js from to end bytes front back is = record {
  filled = is.filled;
  row = is.row ∙ ap (λ l. l ++ (is.filled ++ drop end ms)) front ∙ ap (λ l. take from ks ++ (is.filled ++ l)) back;
  count = is.count;
  all = is.all;
  each = is.each;
}
