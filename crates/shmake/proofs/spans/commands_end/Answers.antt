use Rattle.std.proofs.Common.{arith}
use Rattle.shast.proofs.Ends.{end_more}
use Rattle.shmake.proofs.spans.commands_end.Goals as goal

pub entries-preserved : goal.entries-preserved
entries-preserved c = grind (arith, end_more c.args.before c.args.entries.now c.entries.entry-index c.entry-item.result)
