use Rattle.std.proofs.Common.{◌≡◌, flat_map, take}
use Rattle.shtreetests.specs.Cells.{cell_text}
use Rattle.shtreetests.proofs.cell.joined.Given as goal

abbrev pub invariant-loop-cell : goal.invariant-loop-cell
invariant-loop-cell l = l.text.items ≡ flat_map cell_text (take l.cell-index l.cells)
