use Rattle.std.proofs.Common.{arith, List, List as Row, ℕ}
use Rattle.shtext.proofs.Fullness.{next_few, last_few}
use Rattle.shtext.proofs.Joined.{joined_low}
use Rattle.shtext.proofs.buffer.Buffer.first_of.Goals as goal

pub returns-else-a-len-clause-low : goal.returns-else-a-len-clause-low
returns-else-a-len-clause-low c =
    let all = joined_low c.saturating_sub.result c.args.self.now.chunks.items in
    omega (arith, all, c.if-a-len.false, c.len.ensures)

pub returns-then-a-len-clause-near : goal.returns-then-a-len-clause-near
returns-then-a-len-clause-near c =
    let more = next_few 1 c.args.self.now.chunks.items c.find.result c.args.self.now.each c.find.ensures.within in
    omega (arith, more, c.find.ensures.high)

pub returns-else-a-len-clause-near : goal.returns-else-a-len-clause-near
returns-else-a-len-clause-near c =
    let ks : Row (List ℕ) = c.args.self.now.chunks.items in
    let more = last_few 1 ks c.saturating_sub.result c.args.self.now.each
    (omega (arith, c.saturating_sub.ensures, c.len-else-a-len.ensures, c.args.self.now.chunks.ok.0)) in
    omega (arith, more, c.requires)
