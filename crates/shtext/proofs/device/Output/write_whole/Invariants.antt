use Rattle.std.proofs.Common.{length, take, ◌-◌, ◌≡◌, ◌≤◌}
use Rattle.std.specs.Io.KnownBytes.{Appends}
use Rattle.shtext.proofs.device.Output.write_whole.Given as goal

abbrev pub invariant-loop-at : goal.invariant-loop-at
invariant-loop-at g l =
    (l.at ≤ length l.piece) × Appends (g.W.Write.contents l.fn.self.writer) (g.W.Write.contents l.self.writer)
    (take l.at l.piece)
    × (l.self.failed ≡ l.fn.self.failed)

abbrev pub decreases-loop-at : goal.decreases-loop-at
decreases-loop-at g l = length l.piece - l.at
