use Rattle.shpieces.proofs.ByLine.{source_printed, source_refused}
use Rattle.shpieces.proofs.by_line.print_source.Goals as goal

pub returns-clause-printed : goal.returns-clause-printed
returns-clause-printed g c = source_printed c.args.edition c.args.layout.now
    (g.S.Source.bytes c.args.source.now) c.new.result c.print_rest.result c.new.ensures c.print_rest.ensures.printed

pub returns-clause-err : goal.returns-clause-err
returns-clause-err g c = source_refused c.args.edition c.args.layout.now
    (g.S.Source.bytes c.args.source.now) c.new.result c.print_rest.result c.new.ensures c.print_rest.ensures.err
