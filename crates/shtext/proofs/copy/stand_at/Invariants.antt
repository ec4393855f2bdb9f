use Rattle.std.proofs.Common.{◌≡◌, ◌+◌, ◌↔◌, drop, length, take}
use Rattle.shtext.proofs.copy.stand_at.Given as goal

abbrev pub invariant-runs : goal.invariant-runs
invariant-runs g l = record {
  left : l.at + length l.rest ≡ l.from + length l.bytes;
  same : (take (length l.rest) (drop l.at (g.S.Source.bytes l.source)) ≡ l.rest) ↔
      (take (length l.bytes) (drop l.from (g.S.Source.bytes l.source)) ≡ l.bytes);
}

abbrev pub decreases-runs : goal.decreases-runs
decreases-runs g l = length l.rest
