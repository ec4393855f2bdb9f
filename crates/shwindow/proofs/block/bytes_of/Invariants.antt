use Rattle.std.proofs.Common.{◌≡◌, take}
use Rattle.shwindow.specs.Lines.{extent}
use Rattle.shwindow.proofs.block.bytes_of.Given as goal

abbrev pub invariant-lines : goal.invariant-lines
invariant-lines g l = l.len ≡ extent (take l.line-index l.lines)
