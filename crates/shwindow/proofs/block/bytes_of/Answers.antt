use Rattle.std.proofs.Common.{◌+◌, arith, refl}
use Rattle.shwindow.specs.Lines.{extent}
use Rattle.shwindow.proofs.Rows.{extent_read, extent_take}
use Rattle.shwindow.proofs.block.bytes_of.Goals as goal

pub lines-init : goal.lines-init
unfolding extent
lines-init g c = refl

pub overflow_add-len : goal.overflow_add-len
overflow_add-len g c =
    let more = extent_read c.lines.line-index c.args.lines.now c.line-item.result c.lines-test.true c.line-item.is in
    omega (arith, more, c.lines.invariant, c.requires, extent_take (c.lines.line-index + 1) c.args.lines.now)

pub lines-preserved : goal.lines-preserved
lines-preserved g c =
    let more = extent_read c.lines.line-index c.args.lines.now c.line-item.result c.lines-test.true c.line-item.is in
    omega (arith, more, c.lines.invariant)
