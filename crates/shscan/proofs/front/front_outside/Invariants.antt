use Rattle.std.proofs.Common.{◌≡◌, ◌≤◌, ◌+◌, ◌-◌, drop, length}
use Rattle.std.specs.List.{prefix_len}
use Rattle.shscan.specs.Sets.{is_outside}
use Rattle.shscan.proofs.front.front_outside.Given as goal

abbrev pub invariant-rows : goal.invariant-rows
invariant-rows l = (l.at ≤ length l.run)
    × (prefix_len (is_outside l.low l.high) l.run ≡ l.at + prefix_len (is_outside l.low l.high) (drop l.at l.run))

abbrev pub decreases-rows : goal.decreases-rows
decreases-rows l = length l.run - l.at
