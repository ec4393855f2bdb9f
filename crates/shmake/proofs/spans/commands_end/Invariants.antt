use Rattle.std.proofs.Common.{◌≡◌}
use Rattle.shast.proofs.Ends.{end_up_to}
use Rattle.shmake.proofs.spans.commands_end.Given as goal

abbrev pub invariant-entries : goal.invariant-entries
invariant-entries l = l.end ≡ end_up_to l.before l.entries l.entry-index
