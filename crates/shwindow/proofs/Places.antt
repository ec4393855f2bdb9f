-- Places among lines in blocks, one after the other.
use Rattle.std.proofs.Common.{◌≡◌, ℕ, ◌+◌, ◌<◌, ◌≤◌, [], ◌++◌, List as Row, length, take, drop, sym, ap, subst, ◌∙◌, ⊎_elim, arith}
use Rattle.std.proofs.lemmas.Bool.{cases_lt}
use Rattle.std.proofs.lemmas.List.{drop_all, get_or_past, get_or-take, take-take}
use Rattle.shwindow.specs.Blocks.{IsPlace, block_at, in_one_row, lines_before, lines_from}
use Rattle.shwindow.specs.Places.{IsNotAfter, in_block}
use Rattle.shwindow.specs.declared.place.BlockPlace.{BlockPlace}
use Rattle.shwindow.proofs.Joined.{joined_at}

-- a place is not after itself; nor after a third, if it is not after a second that is not after the third
pub not_after_itself : (p : BlockPlace) → IsNotAfter p p
not_after_itself p = record { block = omega arith; line = λ _. omega arith }

pub not_after_more : (p q r : BlockPlace) → IsNotAfter p q → IsNotAfter q r → IsNotAfter p r
not_after_more p q r one two = record {
  block = let a = one.block in let b = two.block in omega arith;
  line = λ same.
      let a = one.block in
      let b = two.block in
      let first : p.block ≡ q.block = omega arith in
      let second : q.block ≡ r.block = omega arith in
      let c = one.line first in
      let d = two.line second in
      omega arith;
}

-- no place is past the one after all blocks
pub not_after_end : {X : Type 0} (ks : Row (Row X)) (p q : BlockPlace) → IsPlace ks p → q.block ≡ length ks →
    IsNotAfter p q
not_after_end ks p q place is = record {
  block = let within = place.block in omega arith;
  line = λ same.
      let none = ap length (get_or_past ks p.block [] (omega arith)) in
      ⊎_elim (λ (some : 0 < p.line). let within = place.line some in absurd (omega (arith, none, within)))
      (λ (first : p.line ≤ 0). omega (arith, first)) (cases_lt 0 p.line);
}

-- the lines from the place after the last line of a block on are those of the next blocks
pub from_next : {X : Type 0} (ks : Row (Row X)) (p q : BlockPlace) (n : ℕ) → q.block ≡ p.block + 1 → q.line ≡ 0 →
    n ≡ length (block_at ks p.block) → lines_from ks (in_block p n) ≡ lines_from ks q
from_next ks p q n block line is =
    ap (λ x. x ++ in_one_row (drop (p.block + 1) ks)) (drop_all n (block_at ks p.block) (omega (arith, is)))
    ∙ joined_at (p.block + 1) ks
    ∙ ap (λ m. block_at ks m ++ in_one_row (drop (m + 1) ks)) (sym block)
    ∙ ap (λ m. drop m (block_at ks q.block) ++ in_one_row (drop (q.block + 1) ks)) (sym line)

-- ---- blocks that are cut at one place, and hold another place before it

-- the block of a place that is not after the cut has the same lines up to it
module _ {X : Type 0} (ks new : Row (Row X)) (p q : BlockPlace) (order : IsNotAfter p q)
    (front : take q.block new ≡ take q.block ks)
    (head : take q.line (block_at new q.block) ≡ take q.line (block_at ks q.block)) where
  -- a block before the one that is cut is the same
  same_block : p.block < q.block → block_at new p.block ≡ block_at ks p.block
  same_block low =
      sym (get_or-take q.block new p.block [] low) ∙ ap (λ x. block_at x p.block) front
      ∙ get_or-take q.block ks p.block [] low

  -- so is what the place's block has before the place
  pub same_head : take p.line (block_at new p.block) ≡ take p.line (block_at ks p.block)
  same_head =
      ⊎_elim (λ (low : p.block < q.block). ap (take p.line) (same_block low))
      (λ (high : q.block ≤ p.block).
      let block = order.block in
      let same : p.block ≡ q.block = omega arith in
      let low = order.line same in
      subst (λ n. take p.line (block_at new n) ≡ take p.line (block_at ks n)) (sym same)
      (sym (take-take p.line q.line (block_at new q.block) low) ∙ ap (take p.line) head
      ∙ take-take p.line q.line (block_at ks q.block) low))
      (cases_lt p.block q.block)

  -- and so are all lines before the place
  pub same_before : lines_before new p ≡ lines_before ks p
  same_before =
      let blocks : take p.block new ≡ take p.block ks =
      let low = order.block in
      sym (take-take p.block q.block new low) ∙ ap (take p.block) front ∙ take-take p.block q.block ks low in
      ap (λ x. in_one_row x ++ take p.line (block_at new p.block)) blocks
      ∙ ap (λ x. in_one_row (take p.block ks) ++ x) same_head
