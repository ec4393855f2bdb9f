use Rattle.std.proofs.Common.{◌≡◌, ◌<◌, ◌++◌, length}
use Rattle.shtext.specs.Chunks.{AreFull, EachHas, joined}
use Rattle.shtext.proofs.Fullness.{Each, NotSmall}
use Rattle.shtext.proofs.cut.cut.Given as goal

abbrev pub invariant-chunks : goal.invariant-chunks
invariant-chunks l = record {
  bytes : joined l.chunks.items ++ l.rest ≡ l.bytes;
  each : EachHas 1 l.chunks.items;
  some : 0 < length l.rest → Each NotSmall l.chunks.items;
  full : AreFull l.chunks.items;
}

abbrev pub decreases-chunks : goal.decreases-chunks
decreases-chunks l = length l.rest
