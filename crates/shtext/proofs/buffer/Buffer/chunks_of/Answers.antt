use Rattle.std.proofs.Common.{◌≤◌, List, ℕ, List as Row, arith}
use Rattle.shtext.proofs.Around.{none_around}
use Rattle.shtext.proofs.Joined.{joined_mono}
use Rattle.shtext.proofs.buffer.Buffer.chunks_of.Goals as goal

pub returns-clause-holds : goal.returns-clause-holds
returns-clause-holds c =
    let ks : Row (List ℕ) = c.args.self.now.chunks.items in
    let first = c.first_of-from.ensures in
    let last = c.end_of-to.ensures in
    let wide = c.end_taken.ensures in
    let order : c.first_of-from.result ≤ c.end_of-to.result =
    last.order c.first_of-from.result first.within (omega (arith, first.low, c.requires.order)) in
    let more = joined_mono c.end_of-to.result c.end_taken.result ks wide.high in
    record {
      order = omega (arith, order, wide.high);
      within = wide.within;
      low = first.low;
      high = omega (arith, more, last.high);
    }

pub returns-clause-full : goal.returns-clause-full
returns-clause-full c =
    let ks : Row (List ℕ) = c.args.self.now.chunks.items in
    let last = c.end_of-to.ensures in
    let wide = c.end_taken.ensures in
    let more = joined_mono c.end_of-to.result c.end_taken.result ks wide.high in
    record {
      first = c.first_of-from.ensures.some;
      full = λ low. omega (
        arith,
        more,
        last.high,
        wide.full low,
        c.begin.ensures,
        c.begin-2.ensures,
        c.saturating_add.ensures,
        c.saturating_add-len.ensures,
      );
    }

pub returns-clause-none : goal.returns-clause-none
returns-clause-none c = λ none.
    none_around c.args.self.now.chunks.items c.first_of-from.result c.end_taken.result c.args.a c.args.b
    c.requires.order c.requires.within none
