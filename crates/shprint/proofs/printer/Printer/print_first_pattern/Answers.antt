use Rattle.std.proofs.Common.{arith}
use Rattle.std.proofs.lemmas.List.{nil_from_length}
use Rattle.shprint.proofs.Writing.{written_none}
use Rattle.shprint.proofs.printer.Printer.print_first_pattern.Goals as goal

pub returns-in_default : goal.returns-in_default
returns-in_default g c = grind (arith, written_none, nil_from_length)
