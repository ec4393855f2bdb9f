use Rattle.std.proofs.Common.{◌-◌, ◌≡◌, ◌≤◌, take, vec_capacity, vec_len}
use Rattle.shtext.proofs.sums.push_zeros.Given as goal

abbrev pub invariant-zeros : goal.invariant-zeros
invariant-zeros l = record {
  low : vec_len l.initial.into ≤ vec_len l.into;
  high : vec_len l.into ≤ l.wanted;
  front : take (vec_len l.initial.into) l.into.items ≡ l.initial.into.items;
  room : l.wanted ≤ vec_capacity l.into;
}

abbrev pub decreases-zeros : goal.decreases-zeros
decreases-zeros l = l.wanted - vec_len l.into
