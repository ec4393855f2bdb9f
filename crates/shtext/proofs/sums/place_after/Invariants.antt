use Rattle.std.proofs.Common.{◌-◌, ◌≤◌, length}
use Rattle.shtext.specs.Chunks.{before}
use Rattle.shtext.proofs.sums.place_after.Given as goal

abbrev pub invariant-near : goal.invariant-near
invariant-near l = record {
  order : l.from ≤ l.place;
  top : l.place ≤ length l.sums;
  is_low : before l.sums l.place ≤ l.at;
}

abbrev pub decreases-near : goal.decreases-near
decreases-near l = length l.sums - l.place
