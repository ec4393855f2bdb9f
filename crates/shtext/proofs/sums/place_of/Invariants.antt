use Rattle.std.proofs.Common.{◌-◌, ◌<◌, ◌≤◌, length}
use Rattle.shtext.specs.Chunks.{before}
use Rattle.shtext.proofs.sums.place_of.Given as goal

abbrev pub invariant-halves : goal.invariant-halves
invariant-halves l = record {
  order : l.low < l.high;
  top : l.high ≤ length l.sums;
  is_low : before l.sums l.low ≤ l.at;
  is_high : l.at < before l.sums l.high;
}

abbrev pub decreases-halves : goal.decreases-halves
decreases-halves l = l.high - l.low
