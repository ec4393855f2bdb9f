use Rattle.std.proofs.Common.{arith}
use Rattle.shwindow.proofs.Joined.{from_some}
use Rattle.shwindow.proofs.lines.Lines.step.Goals as goal

pub after-self-requires-clause-within : goal.after-self-requires-clause-within
after-self-requires-clause-within g c =
    let lines = c.args.self.now in
    let blocks = lines.blocks.now.blocks in
    let ok = blocks.ok in
    let low = from_some blocks.items lines.place c.in-Some.line.now c.in-Some.ensures in
    omega (arith, low)
