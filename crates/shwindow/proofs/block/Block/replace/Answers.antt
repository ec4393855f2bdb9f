use Rattle.std.proofs.Common.{◌≡◌, ◌+◌, ◌-◌, ◌<◌, ◌≤◌, ◌^◌, ◌++◌, ap, arith, drop, length, take}
use Rattle.shwindow.specs.Lines.{extent}
use Rattle.shwindow.proofs.Rows.{extent_between, extent_slice, some_between}
use Rattle.shwindow.proofs.block.Block.replace.Given.{Over}
use Rattle.shwindow.proofs.block.Block.replace.Goals as goal
use Rattle.shwindow.proofs.block.Block.replace.Goals.{After-bytes_of-gone, After-deref}

-- the bytes of the lines that stay, and of those that go
parts : (g : Over) (c : After-deref g) →
    extent (take c.args.from c.self.inside.lines.items) +
    (extent (take (c.args.to - c.args.from) (drop c.args.from c.deref.result.now)) + extent
    (drop c.args.to c.self.inside.lines.items)) ≡ c.self.inside.len
parts g c =
    let lines = c.self.inside.lines.items in
    let same = ap (λ x. extent (take (c.args.to - c.args.from) (drop c.args.from x))) c.deref.ensures.value in
    let sum = c.self.invariant.0 in
    omega (arith, same, sum, extent_slice c.args.from c.args.to lines c.requires.order)

-- and of those that stay and come
then_fits : (g : Over) (c : After-deref g) →
    extent (take c.args.from c.self.inside.lines.items) +
    (extent c.args.new.items + extent (drop c.args.to c.self.inside.lines.items)) < 2 ^ 64
then_fits g c =
    let lines = c.self.inside.lines.items in
    let same = ap (λ x. extent (take c.args.from x ++ (c.args.new.items ++ drop c.args.to x))) c.self.view_is in
    omega (arith, same, c.requires.fits, extent_between c.args.from c.args.to lines c.args.new.items)

pub bytes_of-gone-requires : goal.bytes_of-gone-requires
bytes_of-gone-requires g c = omega (arith, parts g (goal.at.bytes_of-gone-requires g c).After-deref)

pub bytes_of-come-requires : goal.bytes_of-come-requires
bytes_of-come-requires g c =
    let same = ap extent c.deref-2.ensures.value in
    omega (arith, same, then_fits g (goal.at.bytes_of-come-requires g c).After-deref)

pub overflow_sub-self : goal.overflow_sub-self
overflow_sub-self g c = omega (arith, c.bytes_of-gone.ensures, parts g (goal.at.overflow_sub-self g c).After-deref)

pub overflow_add-self : goal.overflow_add-self
overflow_add-self g c =
    let at = (goal.at.overflow_add-self g c).After-deref in
    let same = ap extent c.deref-2.ensures.value in
    omega (arith, c.bytes_of-gone.ensures, c.bytes_of-come.ensures, same, parts g at, then_fits g at)

pub invariant_of-self-2 : goal.invariant_of-self-2
invariant_of-self-2 g c =
    let lines = c.self.inside.lines.items in
    let same = ap extent c.deref-2.ensures.value in
    let all = ap extent c.in_ok-exchange.ensures.ok in
    let count = ap length c.in_ok-exchange.ensures.ok in
    let within = ap length c.self.view_is in
    let ok = c.args.new.ok in
    let high : c.args.to ≤ length lines = omega (arith, within, c.requires.within) in
    let some : c.args.to - c.args.from < length lines + length c.args.new.items =
    omega (arith, within, c.requires.some) in (
      omega (
        arith,
        same,
        all,
        c.bytes_of-gone.ensures,
        c.bytes_of-come.ensures,
        parts g (goal.at.invariant_of-self-2 g c).After-deref,
        extent_between c.args.from c.args.to lines c.args.new.items,
      ),
      omega (arith, count, some_between c.args.from c.args.to lines c.args.new.items c.requires.order high some),
    )
