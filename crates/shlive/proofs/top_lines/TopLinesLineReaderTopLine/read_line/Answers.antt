use Rattle.std.proofs.Common.{arith}
use Rattle.shlive.proofs.top_lines.TopLinesLineReaderTopLine.read_line.Goals as goal

pub returns-in-Ok-clause-meter : goal.returns-in-Ok-clause-meter
returns-in-Ok-clause-meter g c = omega (arith, c.in-Ok.ensures.meter)
