use Rattle.std.proofs.Common.{append_assoc, arith}
use Rattle.shast.proofs.Seen.{word_seen}
use Rattle.shprint.proofs.Writing.{written_document}
use Rattle.shprint.proofs.printer.Printer.hold_document.Goals as goal

pub returns : goal.returns
returns g c = grind (arith, written_document, word_seen, append_assoc)
