use Rattle.std.proofs.Common.{◌≡◌, ℕ, ◌<◌, ◌≤◌, ◌-◌, get_or, length}
use Rattle.shast.specs.declared.node.NodeLine.{NodeLine}
use Rattle.shast.specs.Nodes.{IsWithin}
use Rattle.shtree.proofs.Placed.{placed_from}
use Rattle.shtree.proofs.nodes.place.Given as goal

abbrev pub invariant-loop-line : goal.invariant-loop-line
invariant-loop-line l = record {
  so_far : placed_from l.base l.found l.line-index ≡ placed_from l.base l.fn.found 0;
  within : (k : ℕ) (d : NodeLine) → l.line-index ≤ k → k < length l.found →
      IsWithin (18446744073709551615 - l.base) (get_or l.found k d);
}
