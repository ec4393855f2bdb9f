use Rattle.std.proofs.Common.{◌≤◌, ℕ, List, List as Row, length, arith, ap, subst, ◌∙◌, length-append}
use Rattle.shtext.specs.Chunks.{HasSums, ends_of, joined, newlines_of, needed}
use Rattle.shtext.proofs.Filled.{refilled_bytes, refilled_each, refilled_full}
use Rattle.shtext.proofs.Moving.{sums_stay}
use Rattle.shtext.proofs.Summing.{newlines_append}
use Rattle.shtext.proofs.buffer.Buffer.refill.Goals as goal

pub add_up_anew-requires-clause-small : goal.add_up_anew-requires-clause-small
add_up_anew-requires-clause-small g c =
    let ks : Row (List ℕ) = c.args.self.now.chunks.items in
    let js : Row (List ℕ) = c.fill_anew.new.chunks.items in
    let bytes : List ℕ = g.S.Source.bytes c.args.source.now in
    let all = ap length (refilled_bytes ks js c.args.from c.args.to bytes c.fill_anew.ensures) in
    let value = ap (λ (l : Row (List ℕ)). length (joined l)) c.deref.ensures.value in
    omega (arith, all, value, c.requires.small)

pub add_up_anew-requires-clause-ends_on : goal.add_up_anew-requires-clause-ends_on
add_up_anew-requires-clause-ends_on g c =
    let ok = c.args.self.now.chunks.ok in
    sums_stay ends_of length-append c.args.self.now.chunks.items c.fill_anew.new.chunks.items c.deref.result.now
    c.args.from c.args.to c.chunks_for-count.result (g.S.Source.bytes c.args.source.now)
    c.args.self.now.ends.items c.fill_anew.ensures c.requires.order
    (omega (arith, c.requires.within, ok.0)) c.args.self.now.all_ends c.deref.ensures.value
    (c.chunks_for-count.ensures ∙ ap needed c.len.ensures)

pub add_up_anew-requires-clause-newlines_on : goal.add_up_anew-requires-clause-newlines_on
add_up_anew-requires-clause-newlines_on g c =
    let ok = c.args.self.now.chunks.ok in
    sums_stay newlines_of newlines_append c.args.self.now.chunks.items c.fill_anew.new.chunks.items c.deref.result.now
    c.args.from c.args.to c.chunks_for-count.result (g.S.Source.bytes c.args.source.now)
    c.args.self.now.newlines.items c.fill_anew.ensures c.requires.order
    (omega (arith, c.requires.within, ok.0)) c.args.self.now.all_newlines c.deref.ensures.value
    (c.chunks_for-count.ensures ∙ ap needed c.len.ensures)

pub invariant_of-self : goal.invariant_of-self
invariant_of-self g c =
    let ks : Row (List ℕ) = c.args.self.now.chunks.items in
    let js : Row (List ℕ) = c.fill_anew.new.chunks.items in
    let bytes : List ℕ = g.S.Source.bytes c.args.source.now in
    let is = c.fill_anew.ensures in
    let value = c.deref.ensures.value in
    let count = ap length value in
    let within : c.args.to ≤ length ks = omega (arith, c.requires.within) in
    let all = ap length (refilled_bytes ks js c.args.from c.args.to bytes is) in
    let ok_ends = c.add_up_anew.new.ends.ok in
    let ok_newlines = c.add_up_anew.new.newlines.ok in
    record {
      each = refilled_each ks js c.args.from c.args.to bytes is c.args.self.now.each;
      full = refilled_full ks js c.args.from c.args.to bytes is c.requires.order within c.requires.full
          c.args.self.now.full;
      small = omega (arith, all, c.requires.small);
      end_count = omega (arith, count, ok_ends.0, c.add_up_anew.ensures.end_count);
      newline_count = omega (arith, count, ok_newlines.0, c.add_up_anew.ensures.newline_count);
      all_ends = subst (λ (l : Row (List ℕ)). HasSums ends_of l (length l) c.add_up_anew.new.ends.items) value
          c.add_up_anew.ensures.ends;
      no_seam = c.args.self.now.no_seam;
      all_newlines = subst (λ (l : Row (List ℕ)). HasSums newlines_of l (length l) c.add_up_anew.new.newlines.items)
          value
          c.add_up_anew.ensures.newlines;
    }

pub returns : goal.returns
returns g c = refilled_bytes c.args.self.now.chunks.items c.fill_anew.new.chunks.items c.args.from c.args.to
    (g.S.Source.bytes c.args.source.now) c.fill_anew.ensures
