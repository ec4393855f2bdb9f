use Rattle.std.proofs.Common.{arith}
use Rattle.shast.specs.View.{view_list}
use Rattle.shast.proofs.MovedOver.{capped_moved}
use Rattle.shtree.proofs.append.append_at.Goals as goal

pub returns-clause-ok : goal.returns-clause-ok
returns-clause-ok c =
    rw (← capped_moved c.args.base (view_list c.args.list.now) (omega arith) c.requires, ← c.in_ok-copy.ensures)
    c.append_list.ensures.ok
