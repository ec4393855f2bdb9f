use Rattle.std.proofs.Common.{◌≡◌, ◌+◌, ◌-◌, [], false, length}
use Rattle.shlive.specs.Ahead.{IsReady, ahead_of, too_many}
use Rattle.shlive.specs.Turns.{turn_state}
use Rattle.shlive.proofs.Running.{RunSoFar}
use Rattle.shlive.proofs.serve.run.Given as goal

abbrev pub invariant-requests : goal.invariant-requests
invariant-requests g l =
    IsReady l.input l.incoming × (l.output.failed ≡ false)
    × RunSoFar (turn_state g.W.Write.contents l.fn.session
    (ahead_of g.R.Read.remaining l.fn.input (record { bytes = []; count = 0 })) l.fn.output)
    (turn_state g.W.Write.contents l.session (ahead_of g.R.Read.remaining l.input l.incoming) l.output)

abbrev pub decreases-requests : goal.decreases-requests
decreases-requests g l = too_many + length l.incoming.bytes - l.incoming.count
