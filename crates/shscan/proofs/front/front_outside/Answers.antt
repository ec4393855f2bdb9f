use Rattle.std.proofs.Common.{◌-◌, length, arith}
use Rattle.shscan.specs.Sets.{is_outside}
use Rattle.shscan.proofs.Rows.{found, goes_on, within}
use Rattle.shscan.proofs.front.front_outside.Goals as goal

pub returns-then-count-lt-LANES : goal.returns-then-count-lt-LANES
returns-then-count-lt-LANES c = found
    (is_outside c.args.low c.args.high) c.args.run.now c.rows.at c.outside_in_row-count.result
    (omega arith) c.rows.invariant.1 c.outside_in_row-count.ensures (omega arith)

pub rows-preserved : goal.rows-preserved
rows-preserved c = (
  omega arith,
  goes_on (is_outside c.args.low c.args.high) c.args.run.now c.rows.at c.outside_in_row-count.result
      (omega arith) c.rows.invariant.1 c.outside_in_row-count.ensures (omega arith),
)

pub overflow_add-result-2 : goal.overflow_add-result-2
overflow_add-result-2 c =
    let low = within (is_outside c.args.low c.args.high) c.args.run.now c.rows.at (length c.args.run.now - c.rows.at)
    (omega arith) in
    record { fits = omega (arith, low, c.few_outside.ensures) }
