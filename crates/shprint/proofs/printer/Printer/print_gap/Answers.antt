use Rattle.std.proofs.Common.{arith}
use Rattle.std.proofs.Math.Seq.{take-append_seam}
use Rattle.shprint.proofs.Writing.{written_append, written_cons}
use Rattle.shprint.proofs.printer.Printer.print_gap.Goals as goal

pub returns : goal.returns
returns g c = grind (arith, take-append_seam, written_append, written_cons)
