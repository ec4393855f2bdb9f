use Rattle.std.proofs.Common.{◌≡◌, ◌+◌, ◌-◌, ◌<◌, ◌≤◌, length, min, take}
use Rattle.shtext.specs.Chunks.{EachHas, fewest, joined, needed}
use Rattle.shtext.proofs.fill.fill.Given as goal

abbrev pub invariant-chunks : goal.invariant-chunks
invariant-chunks g l = record {
  len : l.len ≡ length (g.S.Source.bytes l.source);
  within : l.at ≤ l.len;
  count : l.index + needed (l.len - l.at) ≡ length l.chunks;
  rest : l.at < l.len → min fewest l.len ≤ l.len - l.at;
  bytes : joined (take l.index l.chunks) ≡ take l.at (g.S.Source.bytes l.source);
  each : EachHas (min fewest l.len) (take l.index l.chunks);
}

abbrev pub decreases-chunks : goal.decreases-chunks
decreases-chunks g l = length l.initial.chunks - l.index
