use Rattle.std.proofs.Common.{◌∙◌, arith, ap, length, refl}
use Rattle.shtext.specs.Chunks.{ends_of, joined, newlines_of}
use Rattle.shtext.proofs.Joined.{joined_nil}
use Rattle.shtext.proofs.Summing.{sums_empty}
use Rattle.shtext.proofs.buffer.Buffer.new.Goals as goal

pub invariant_of-result : goal.invariant_of-result
invariant_of-result c =
    let none = c.new.ensures.items in
    let text = ap (λ ks. length (joined ks)) none ∙ ap length joined_nil in
    let count = ap length none in
    let ends = ap length c.new-2.ensures.items in
    let newlines = ap length c.new-3.ensures.items in
    record {
      each = λ n low. absurd (omega (arith, low, count));
      full = λ n low. absurd (omega (arith, low, count));
      small = omega (arith, text);
      end_count = omega (arith, count, ends);
      newline_count = omega (arith, count, newlines);
      all_ends = sums_empty ends_of refl c.new.result.items c.new-2.result.items none;
      no_seam = ap length c.new-5.ensures.items;
      all_newlines = sums_empty newlines_of refl c.new.result.items c.new-3.result.items none;
    }
