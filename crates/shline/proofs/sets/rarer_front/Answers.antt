use Rattle.shline.proofs.ByteSets.{brace_passed, double_brace_passed}
use Rattle.shline.proofs.sets.rarer_front.Goals as goal

pub returns-in-Brace : goal.returns-in-Brace
returns-in-Brace c = rw c.in-Brace.is (brace_passed c.args.run.now c.type_inv.run _ c.front_outside.ensures)

pub returns-in-DoubleBrace : goal.returns-in-DoubleBrace
returns-in-DoubleBrace c = rw c.in-DoubleBrace.is
    (double_brace_passed c.args.run.now c.type_inv.run _ c.front_outside-in-DoubleBrace.ensures)
