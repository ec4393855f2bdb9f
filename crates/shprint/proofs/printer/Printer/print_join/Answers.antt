use Rattle.std.proofs.Common.{arith}
use Rattle.shprint.proofs.Writing.{on_ok_then, written_append, written_cons}
use Rattle.shprint.proofs.printer.Printer.print_join.Goals as goal

pub returns-then-not-breaks_line : goal.returns-then-not-breaks_line
returns-then-not-breaks_line g c =
    let unbroken = c.breaks_line.ensures (g.S.Source.bytes c.args.self.now.source.now) in
    on_ok_then c.put-then-not-breaks_line.result c.put-then-not-breaks_line.ensures
    (λ last. (grind (arith, written_append, written_cons, unbroken, last.0), grind (arith, last.1)))
