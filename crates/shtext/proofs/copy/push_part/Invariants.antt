use Rattle.std.proofs.Common.{◌+◌, ◌-◌, ◌≡◌, ◌≤◌, ◌++◌, drop, take, vec_capacity, vec_len}
use Rattle.shtext.proofs.copy.push_part.Given as goal

abbrev pub invariant-runs : goal.invariant-runs
invariant-runs g l = record {
  low : l.from ≤ l.at;
  high : l.at ≤ l.to;
  bytes : l.into.items ≡ l.initial.into.items ++ take (l.at - l.from) (drop l.from (g.S.Source.bytes l.source));
  room : vec_len l.into + (l.to - l.at) ≤ vec_capacity l.into;
  capacity : vec_capacity l.initial.into ≤ vec_capacity l.into;
}

abbrev pub decreases-runs : goal.decreases-runs
decreases-runs g l = l.to - l.at
