use Rattle.std.proofs.Common.{◌++◌, refl}
use Rattle.shtool.proofs.Parts.{printed_more}
use Rattle.shtool.proofs.printed_part.PrintedPartSink.take.Goals as goal

pub returns : goal.returns
returns c = λ how read is.
    let bytes = c.args.bytes.now in
    c.in_ok-print_lines.ensures how.0 how.1 (read ++ bytes)
    (printed_more how.0 how.1 read bytes c.args.self.now _ is
    (c.in_ok-add.ensures.held read is.held) c.in_ok-add.ensures.passed refl)
