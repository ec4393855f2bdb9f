use Rattle.std.proofs.Common.{◌≡◌, ◌∙◌, ap, arith, drop}
use Rattle.shwindow.specs.Lines.{extent}
use Rattle.shwindow.proofs.Rows.{extent_split}
use Rattle.shwindow.proofs.block.Block.cut.Goals as goal

pub bytes_of-len-requires : goal.bytes_of-len-requires
bytes_of-len-requires g c =
    let lines = c.self.inside.lines.items in
    let tail : extent c.deref.result.now ≡ extent (drop c.args.at lines) =
    ap extent (c.deref.ensures.value ∙ c.in_ok-lines.ensures.tail) in
    let sum = c.self.invariant.0 in
    omega (arith, tail, sum, extent_split c.args.at lines)

pub overflow_sub-self : goal.overflow_sub-self
overflow_sub-self g c =
    let lines = c.self.inside.lines.items in
    let tail : extent c.deref.result.now ≡ extent (drop c.args.at lines) =
    ap extent (c.deref.ensures.value ∙ c.in_ok-lines.ensures.tail) in
    let sum = c.self.invariant.0 in
    omega (arith, tail, sum, c.bytes_of-len.ensures, extent_split c.args.at lines)
