use Rattle.std.proofs.Common.{arith}
use Rattle.shast.proofs.Seen.{word_seen}
use Rattle.shprint.proofs.Writing.{written_append, written_cons}
use Rattle.shprint.proofs.printer.Printer.print_operator.Goals as goal

pub returns-in_ok-put-2 : goal.returns-in_ok-put-2
returns-in_ok-put-2 g c = grind (arith, written_append, written_cons, word_seen)
