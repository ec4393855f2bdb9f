use Rattle.std.proofs.Common.{arith}
use Rattle.shtree.proofs.Gathering.{begins_more, gathered_wanted}
use Rattle.shtree.proofs.visit.add.Goals as goal

pub returns-in_ok-push : goal.returns-in_ok-push
returns-in_ok-push g c = record {
  ok = grind (arith, gathered_wanted);
  kept = λ first h. rw c.in_ok-push.ensures.items (begins_more first c.args.lines.now.items _ h);
}
