use Rattle.std.proofs.Common.{◌≡◌, ◌+◌, ◌≤◌, take}
use Rattle.shwindow.specs.Lines.{extent}
use Rattle.shwindow.proofs.block.Block.find.Given as goal

abbrev pub invariant-lines : goal.invariant-lines
invariant-lines g l = (l.begin ≡ l.initial.begin + extent (take l.index l.self-inside.lines.items)) × (l.begin ≤ l.at)
