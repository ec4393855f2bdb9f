use Rattle.std.proofs.Common.{arith, refl}
use Rattle.std.proofs.lemmas.List.{append-nil}
use Rattle.shast.specs.View.{view_list}
use Rattle.shtree.proofs.Placed.{nodes_at_is, nodes_at_none}
use Rattle.shtree.proofs.nodes.nodes_at.Goals as goal

pub returns-clause-ok : goal.returns-clause-ok
returns-clause-ok c = rw (← nodes_at_is c.args.base c.args.at (view_list c.args.list.now) (omega arith))
    c.add_nodes.ensures.ok

pub returns-then-at-base-clause-ok : goal.returns-then-at-base-clause-ok
returns-then-at-base-clause-ok c =
    rw (nodes_at_none c.args.base c.args.at (view_list c.args.list.now) c.if-at-base.true, append-nil) refl
