use Rattle.std.proofs.Common.{◌≡◌, ◌≤◌, take}
use Rattle.shwindow.specs.Blocks.{in_one_row}
use Rattle.shwindow.specs.Lines.{extent}
use Rattle.shwindow.proofs.blocks.Blocks.find.Given as goal

abbrev pub invariant-all : goal.invariant-all
invariant-all g l = (l.begin ≡ extent (in_one_row (take l.index l.self.blocks.items))) × (l.begin ≤ l.at)
