use Rattle.std.proofs.Common.{◌-◌, ◌≡◌, ◌≤◌, drop, take}
use Rattle.shtext.specs.Chunks.{HasSums, ends_of, joined, newlines_of}
use Rattle.shtext.proofs.sums.sum_between.Given as goal

abbrev pub invariant-chunks : goal.invariant-chunks
invariant-chunks l = record {
  low : l.from ≤ l.index;
  high : l.index ≤ l.to;
  «end» : l.end ≡ ends_of (joined (take l.index l.chunks));
  line : l.line ≡ newlines_of (joined (take l.index l.chunks));
  ends : HasSums ends_of l.chunks l.index l.ends;
  newlines : HasSums newlines_of l.chunks l.index l.newlines;
  ends_after : drop l.to l.ends ≡ drop l.to l.initial.ends;
  newlines_after : drop l.to l.newlines ≡ drop l.to l.initial.newlines;
}

abbrev pub decreases-chunks : goal.decreases-chunks
decreases-chunks l = l.to - l.index
