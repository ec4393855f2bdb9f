use Rattle.std.proofs.Common.{◌≡◌, ◌<◌, ◌≤◌, ◌+◌, ◌-◌, ℕ, List, List as Row, length, length-set, length-take-le, length-drop, min, take, drop, arith, ap, ◌∙◌}
use Rattle.shtext.specs.Chunks.{fewest, most}
use Rattle.shtext.proofs.Filled.{filled_bytes, filled_each}
use Rattle.shtext.proofs.Joined.{joined_nil}
use Rattle.shtext.proofs.fill.fill.Goals as goal

pub chunks-init : goal.chunks-init
chunks-init g c = record {
  len = c.len-len.ensures;
  within = omega arith;
  count = omega (arith, c.requires, c.len-len.ensures);
  rest = λ _. omega arith;
  bytes = joined_nil;
  each = λ n low. absurd (omega (arith, low));
}

pub chunks-preserved : goal.chunks-preserved
chunks-preserved g c =
    let B : List ℕ = g.S.Source.bytes c.args.source.now in
    let ks : Row (List ℕ) = c.chunks.chunks in
    let i : ℕ = c.chunks.index in
    let at : ℕ = c.chunks.at in
    let len : ℕ = c.len-len.result in
    let n : ℕ = c.front_len.result in
    let k : List ℕ = c.fill.new.self in
    let inv = c.chunks.invariant in
    let front = c.front_len.ensures in
    let low : i < length ks = c.chunks-test.true in
    let some : 0 < len - at = omega (arith, inv.count, low) in
    let count = front.count some in
    let next : at + n - at ≡ n = omega arith in
    let left : len - at - n ≡ len - (at + n) = omega arith in
    let is : k ≡ take n (drop at B) = c.fill.ensures ∙ ap (λ m. take m (drop at B)) next in
    let rest = length-drop at B in
    let long : length k ≡ n = ap length is
    ∙ length-take-le n (drop at B) (omega (arith, rest, front.within, inv.len)) in
    let left_over : min fewest len ≤ len - at = inv.rest (omega (arith, some)) in
    let least : min fewest len ≤ n = omega (arith, front.some, left_over) in
    record {
      len = c.len-len.ensures;
      within = omega (arith, front.within, some);
      count = omega (arith, inv.count, count, left, length-set ks i k);
      rest = λ more. let back = front.rest (omega (arith, more)) in omega (arith, back);
      bytes = filled_bytes ks i k low B at n inv.bytes is;
      each = filled_each ks i k low (λ (x : List ℕ). (min fewest len ≤ length x) × (length x ≤ most)) inv.each
          (omega (arith, long, least), omega (arith, long, front.few));
    }
