use Rattle.shast.specs.View.{view_list}
use Rattle.shtree.proofs.Placed.{outline_is}
use Rattle.shtree.proofs.nodes.outline_of.Goals as goal

pub returns-clause-ok : goal.returns-clause-ok
returns-clause-ok c = rw (← outline_is c.args.base (view_list c.args.list.now)) c.add_nodes.ensures.ok
