use Rattle.std.proofs.Common.{arith}
use Rattle.shprint.proofs.Copying.{here_lengthened_by_hyphen}
use Rattle.shprint.proofs.printer.Printer.would_lengthen.Goals as goal

pub returns-then-word : goal.returns-then-word
returns-then-word g c =
    let by_hyphen = here_lengthened_by_hyphen
    (g.S.Source.bytes c.args.self.now.source.now) c.args.word c.if-word.true in
    grind (arith, by_hyphen)
