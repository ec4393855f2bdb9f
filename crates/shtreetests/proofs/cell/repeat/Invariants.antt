use Rattle.std.proofs.Common.{◌≡◌, ◌++◌}
use Rattle.shtreetests.specs.Cells.{times}
use Rattle.shtreetests.proofs.cell.repeat.Given as goal

abbrev pub invariant-loop-turn : goal.invariant-loop-turn
invariant-loop-turn l = l.text.items ≡ l.fn.text.items ++ times l.turn l.cell.bytes.items
