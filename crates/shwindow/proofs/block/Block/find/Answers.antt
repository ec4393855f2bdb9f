use Rattle.std.proofs.Common.{◌+◌, ap, arith, take}
use Rattle.shwindow.specs.Lines.{extent}
use Rattle.shwindow.proofs.Rows.{extent_none, extent_read_of, extent_take}
use Rattle.shwindow.proofs.block.Block.find.Goals as goal

pub lines-init : goal.lines-init
lines-init g c = (omega (arith, extent_none g.row.K.Denot), c.requires.low)

pub overflow_add-begin : goal.overflow_add-begin
overflow_add-begin g c =
    let lines = c.self.inside.lines.items in
    let more = extent_read_of c.lines.index c.deref-line-items.result.now lines c.line-item.result
    c.deref-line-items.ensures.value c.lines-test.true c.line-item.is in
    let whole = ap extent c.self.view_is in
    omega (arith, more, c.lines.invariant.0, whole, c.requires.fits, extent_take (c.lines.index + 1) lines)

pub returns-then-at-begin-clause-past : goal.returns-then-at-begin-clause-past
returns-then-at-begin-clause-past g c =
    let lines = c.self.inside.lines.items in
    let more = extent_read_of c.lines.index c.deref-line-items.result.now lines c.line-item.result
    c.deref-line-items.ensures.value c.lines-test.true c.line-item.is in
    let same = ap (λ l. extent (take (c.lines.index + 1) l)) c.self.view_is in
    λ within. omega (arith, more, c.lines.invariant.0, same, c.if-at-begin.true)

pub lines-preserved : goal.lines-preserved
lines-preserved g c =
    let lines = c.self.inside.lines.items in
    let more = extent_read_of c.lines.index c.deref-line-items.result.now lines c.line-item.result
    c.deref-line-items.ensures.value c.lines-test.true c.line-item.is in
    (omega (arith, more, c.lines.invariant.0), c.if-at-begin.false)
