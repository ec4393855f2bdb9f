use Rattle.std.proofs.Common.{◌≡◌, ◌≤◌, ◌+◌, ℕ, List, List as Row, [], ap, arith, length, refl, subst, ◌∙◌}
use Rattle.std.proofs.lemmas.List.{append-nil}
use Rattle.shtext.specs.Edit.{AreAllowed, limit, one_splice}
use Rattle.shtext.specs.Chunks.{HasSums, joined, ends_of, newlines_of}
use Rattle.shtext.proofs.Moving.{sums_on_none}
use Rattle.shtext.proofs.Summing.{sums_none}
use Rattle.shtext.proofs.buffer.Buffer.from_slice.Goals as goal

pub add_up_anew-requires-clause-small : goal.add_up_anew-requires-clause-small
add_up_anew-requires-clause-small c =
    let is : AreAllowed [] (one_splice 0 0 c.args.bytes.now) = c.in_ok-may_be_text.ensures.ok in
    let small : length c.args.bytes.now ≤ limit = rw (append-nil c.args.bytes.now) at is.small in
    let same = ap (λ ks. length (joined ks)) c.deref.ensures.value ∙ ap length c.in_ok-chunks.ensures.bytes in
    omega (arith, small, same)

pub add_up_anew-requires-clause-ends : goal.add_up_anew-requires-clause-ends
add_up_anew-requires-clause-ends c = sums_none ends_of refl c.deref.result.now c.in_ok-ends.ends.items

pub add_up_anew-requires-clause-newlines : goal.add_up_anew-requires-clause-newlines
add_up_anew-requires-clause-newlines c = sums_none newlines_of refl c.deref.result.now c.in_ok-newlines.newlines.items

pub add_up_anew-requires-clause-ends_on : goal.add_up_anew-requires-clause-ends_on
add_up_anew-requires-clause-ends_on c =
    sums_on_none ends_of c.deref.result.now 0 c.in_ok-ends.ends.items (0 + c.len-3.result)
    (omega (arith, c.len-3.ensures))

pub add_up_anew-requires-clause-newlines_on : goal.add_up_anew-requires-clause-newlines_on
add_up_anew-requires-clause-newlines_on c =
    sums_on_none newlines_of c.deref.result.now 0 c.in_ok-newlines.newlines.items (0 + c.len-3.result)
    (omega (arith, c.len-3.ensures))

pub invariant_of-result : goal.invariant_of-result
invariant_of-result c =
    let is : AreAllowed [] (one_splice 0 0 c.args.bytes.now) = c.in_ok-may_be_text.ensures.ok in
    let small : length c.args.bytes.now ≤ limit = rw (append-nil c.args.bytes.now) at is.small in
    let value : c.deref.result.now ≡ c.in_ok-chunks.chunks.items = c.deref.ensures.value in
    let count = ap length value in
    record {
      each = c.in_ok-chunks.ensures.each;
      full = c.in_ok-chunks.ensures.full;
      small = omega (arith, small, ap length c.in_ok-chunks.ensures.bytes);
      end_count = omega (arith, count, c.add_up_anew.ensures.end_count);
      newline_count = omega (arith, count, c.add_up_anew.ensures.newline_count);
      all_ends = subst (λ (ks : Row (List ℕ)). HasSums ends_of ks (length ks) c.add_up_anew.new.ends.items) value
          c.add_up_anew.ensures.ends;
      no_seam = ap length c.in_ok-seam.ensures.items;
      all_newlines = subst (λ (ks : Row (List ℕ)). HasSums newlines_of ks (length ks) c.add_up_anew.new.newlines.items)
          value
          c.add_up_anew.ensures.newlines;
    }
