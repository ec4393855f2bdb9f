use Rattle.std.proofs.Common.{◌-◌, arith, append_assoc}
use Rattle.shgrammar.proofs.Runs.{run_part}
use Rattle.shprint.proofs.Copying.{run_more}
use Rattle.shprint.proofs.printer.Printer.copy.Goals as goal

pub returns-then-wanted-run : goal.returns-then-wanted-run
returns-then-wanted-run g c =
    let front = run_part (g.S.Source.bytes c.args.self.now.source.now) c.runs.at c.run-run.result.now
    c.run-run.ensures (c.args.span.«end» - c.runs.at) c.if-wanted-run.true in
    grind (arith, front)

pub runs-preserved : goal.runs-preserved
runs-preserved g c =
    let front = run_more (g.S.Source.bytes c.args.self.now.source.now) c.runs.at c.run-run.result.now c.run-run.ensures
    (c.args.span.«end» - c.runs.at) (omega (arith, c.if-wanted-run.false)) in
    grind (arith, front, append_assoc)
