use Rattle.std.proofs.Common.{◌≤◌, ap, arith, length, sym}
use Rattle.shwindow.specs.Blocks.{first_of}
use Rattle.shwindow.proofs.Joined.{from_end}
use Rattle.shwindow.proofs.blocks.Blocks.line.Goals as goal

pub returns-then-place-len : goal.returns-then-place-len
returns-then-place-len g c =
    let ok = c.args.self.now.blocks.ok in
    let high : length c.args.self.now.blocks.items ≤ c.args.place.block = omega arith in
    sym (ap first_of (from_end c.args.self.now.blocks.items c.args.place high))
