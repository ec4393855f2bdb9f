use Rattle.std.proofs.Common.{◌≡◌, ◌+◌, List, ℕ, length}
use Rattle.shlive.specs.Ahead.{IsReady, TakesBytes, ahead_of}
use Rattle.shlive.specs.Payload.{AreKept}
use Rattle.shlive.proofs.payload.take_payload.Given as goal

abbrev pub invariant-pieces : goal.invariant-pieces
invariant-pieces g l =
    IsReady l.input l.incoming
    × ((bytes : List ℕ) × (length bytes + l.left ≡ l.count) × AreKept l.kept bytes
    × TakesBytes (ahead_of g.R.Read.remaining l.fn.input l.fn.incoming)
    (ahead_of g.R.Read.remaining l.input l.incoming) bytes)

abbrev pub decreases-pieces : goal.decreases-pieces
decreases-pieces g l = l.left
