use Rattle.std.proofs.Common.{◌+◌, arith}
use Rattle.shtext.proofs.Fullness.{next_few}
use Rattle.shtext.proofs.Joined.{end_order}
use Rattle.shtext.proofs.buffer.Buffer.end_of.Goals as goal

pub returns-then-b-len-clause-order : goal.returns-then-b-len-clause-order
returns-then-b-len-clause-order c =
    λ n within low. end_order c.args.self.now.chunks.items n (c.find.result + 1) c.args.b c.find.ensures.high low

pub returns-then-b-len-clause-near : goal.returns-then-b-len-clause-near
returns-then-b-len-clause-near c =
    let more = next_few 1 c.args.self.now.chunks.items c.find.result c.args.self.now.each c.find.ensures.within in
    omega (arith, more, c.find.ensures.low)
