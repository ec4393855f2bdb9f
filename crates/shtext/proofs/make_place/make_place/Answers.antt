use Rattle.shtext.proofs.Rows.{fewer_same}
use Rattle.shtext.proofs.make_place.make_place.Goals as goal

pub returns-else-count-held-clause-front : goal.returns-else-count-held-clause-front
returns-else-count-held-clause-front g c =
    fewer_same c.bring.new.row.items c.args.row.now.items c.args.from c.args.to c.requires.order c.bring.ensures.front
