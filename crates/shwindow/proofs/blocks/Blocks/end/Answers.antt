use Rattle.std.proofs.Common.{◌≤◌, arith, length}
use Rattle.shwindow.proofs.Joined.{from_end}
use Rattle.shwindow.proofs.blocks.Blocks.end.Goals as goal

pub returns-clause-rest : goal.returns-clause-rest
returns-clause-rest g c =
    let ok = c.args.self.now.blocks.ok in
    let high : length c.args.self.now.blocks.items ≤ c.len.result = omega arith in
    from_end c.args.self.now.blocks.items (record { block = c.len.result; line = 0 }) high
