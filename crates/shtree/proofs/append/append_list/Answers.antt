use Rattle.std.proofs.Common.{arith}
use Rattle.shast.specs.declared.tree.Command.TheViews.{out-List}
use Rattle.shtree.proofs.Carrying.{lists_appended}
use Rattle.shast.proofs.Seen.{list_made, list_seen}
use Rattle.shtree.proofs.append.append_list.Goals as goal

pub returns-clause-ok : goal.returns-clause-ok
returns-clause-ok c =
    rw (
      list_made c.append.new.self,
      list_seen c.args.into.now,
      list_seen c.args.more.now,
      ← lists_appended (out-List c.args.into.now).entries.items (out-List c.args.more.now).entries.items,
    )
    (grind arith)
