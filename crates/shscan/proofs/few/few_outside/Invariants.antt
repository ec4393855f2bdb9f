use Rattle.std.proofs.Common.{◌≡◌, ◌+◌, drop}
use Rattle.std.specs.List.{prefix_len}
use Rattle.shscan.specs.Sets.{is_outside}
use Rattle.shscan.proofs.few.few_outside.Given as goal

abbrev pub invariant-bytes : goal.invariant-bytes
invariant-bytes l = prefix_len (is_outside l.low l.high) l.run
    ≡ l.count + prefix_len (is_outside l.low l.high) (drop l.count l.run)
