use Rattle.std.proofs.Common.{◌≡◌, ◌+◌, ◌-◌, ◌≤◌, ◌++◌, ℕ, List, length, take, drop, arith, ap, sym, ◌∙◌, append_assoc}
use Rattle.std.proofs.lemmas.List.{length-take-le}
use Rattle.shtext.proofs.Parts.{part_more, run_part}
use Rattle.shtext.proofs.copy.push_part.Goals as goal

pub runs-preserved : goal.runs-preserved
runs-preserved g c =
    let bytes : List ℕ = g.S.Source.bytes c.args.source.now in
    let inv = c.runs.invariant in
    let whole : List ℕ = c.run-run.result.now in
    let n : ℕ = c.min.result in
    let is = c.run-run.ensures in
    let short : n ≤ length whole = omega (arith, c.min.ensures) in
    let count : length (take n whole) ≡ n = length-take-le n whole short in
    let part : take n (drop c.runs.at bytes) ≡ take n whole =
    run_part bytes whole c.runs.at n (omega (arith, c.min.ensures, inv.high, c.requires.within)) short is.same in
    let more = part_more bytes c.args.from c.runs.at n inv.low in
    record {
      low = omega (arith, inv.low);
      high = omega (arith, count, c.min.ensures, inv.high, c.runs-test.true);
      bytes = c.push_all.ensures.items ∙ ap (λ l. l ++ take n whole) inv.bytes
          ∙ append_assoc c.args.into.now.items (take (c.runs.at - c.args.from) (drop c.args.from bytes)) (take n whole)
          ∙ ap (λ l. c.args.into.now.items ++ (take (c.runs.at - c.args.from) (drop c.args.from bytes) ++ l)) (sym part)
          ∙ ap (λ l. c.args.into.now.items ++ l)
          (more ∙ ap (λ m. take (c.runs.at + m - c.args.from) (drop c.args.from bytes)) (sym count));
      room = omega (
        arith,
        count,
        c.min.ensures,
        inv.room,
        inv.high,
        c.push_all.ensures.len,
        c.push_all.ensures.capacity,
      );
      capacity = omega (arith, inv.capacity, c.push_all.ensures.capacity);
    }
