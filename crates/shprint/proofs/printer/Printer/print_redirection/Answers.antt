use Rattle.std.proofs.Common.{append-nil, arith}
use Rattle.shast.proofs.Seen.{redirection_seen}
use Rattle.shprint.proofs.Parts.{here_none}
use Rattle.shprint.proofs.Writing.{written_append, written_cons}
use Rattle.shprint.proofs.printer.Printer.print_redirection.Goals as goal

pub returns-in-Some : goal.returns-in-Some
returns-in-Some g c = grind (arith, written_append, written_cons, redirection_seen)

pub returns-in-None : goal.returns-in-None
returns-in-None g c = grind (arith, written_append, written_cons, redirection_seen, here_none, append-nil)
