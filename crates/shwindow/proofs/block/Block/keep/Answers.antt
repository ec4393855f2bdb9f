use Rattle.std.proofs.Common.{◌-◌, ◌≤◌, ap, arith, drop, length, take}
use Rattle.std.proofs.lemmas.List.{length-take-le}
use Rattle.shwindow.specs.Lines.{extent}
use Rattle.shwindow.proofs.Rows.{extent_past, extent_slice, extent_split}
use Rattle.shwindow.proofs.block.Block.keep.Given.{Over}
use Rattle.shwindow.proofs.block.Block.keep.Goals as goal
use Rattle.shwindow.proofs.block.Block.keep.Goals.{After-deref}

-- the bytes of the lines that go
gone : (g : Over) (c : After-deref g) →
    extent (take (length c.deref.result.now - c.args.count) (drop c.args.count c.deref.result.now)) ≤ extent
    (drop c.args.count c.self.inside.lines.items)
gone g c =
    let lines = c.self.inside.lines.items in
    let count = c.args.count in
    let same = ap (λ x. extent (take (length x - count) (drop count x))) c.deref.ensures.value in
    omega (arith, same, extent_split (length lines - count) (drop count lines))

pub bytes_of-gone-requires : goal.bytes_of-gone-requires
bytes_of-gone-requires g c =
    let lines = c.self.inside.lines.items in
    let sum = c.self.invariant.0 in
    omega (arith, gone g (goal.at.bytes_of-gone-requires g c).After-deref, sum, extent_split c.args.count lines)

pub overflow_sub-self : goal.overflow_sub-self
overflow_sub-self g c =
    let lines = c.self.inside.lines.items in
    let sum = c.self.invariant.0 in
    omega (
      arith,
      gone g (goal.at.overflow_sub-self g c).After-deref,
      sum,
      c.bytes_of-gone.ensures,
      extent_split c.args.count lines,
    )

pub invariant_of-self : goal.invariant_of-self
invariant_of-self g c =
    let lines = c.self.inside.lines.items in
    let count = c.args.count in
    let sum = c.self.invariant.0 in
    let within = ap length c.self.view_is in
    let same = ap (λ x. extent (take (length x - count) (drop count x))) c.deref.ensures.value in
    let kept = ap extent c.truncate.ensures.items in
    let all : count ≤ length lines = omega (arith, within, c.requires.within) in
    let some = ap length c.truncate.ensures.items in (
      omega (
        arith,
        sum,
        same,
        kept,
        c.bytes_of-gone.ensures,
        extent_slice count (length lines) lines all,
        extent_split count lines,
        extent_past (length lines) lines (omega arith),
      ),
      omega (arith, some, length-take-le count lines all),
    )
