use Rattle.std.proofs.Common.{◌-◌, ◌≡◌, ◌+◌, ◌≤◌, ◌++◌, drop, length, vec_capacity, vec_len, reverse}
use Rattle.shtext.proofs.make_place.pour.Given as goal

abbrev pub invariant-items : goal.invariant-items
invariant-items g l = record {
  low : l.kept ≤ vec_len l.of;
  all : l.of.items ++ drop (length l.of.items) l.initial.of.items ≡ l.initial.of.items;
  into : l.into.items ≡ l.initial.into.items ++ reverse (drop (length l.of.items) l.initial.of.items);
  room : vec_len l.into + (vec_len l.of - l.kept) ≤ vec_capacity l.into;
  stays : vec_capacity l.of ≡ vec_capacity l.initial.of;
}

abbrev pub decreases-items : goal.decreases-items
decreases-items g l = vec_len l.of
