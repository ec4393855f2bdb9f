use Rattle.shline.proofs.ByteSets.{double_passed, plain_passed}
use Rattle.shline.proofs.sets.plain_front.Goals as goal

pub returns-in-Plain : goal.returns-in-Plain
returns-in-Plain c = rw c.in-Plain.is (plain_passed c.args.run.now c.type_inv.run _ c.front_outside.ensures)

pub returns-in-Double : goal.returns-in-Double
returns-in-Double c = rw c.in-Double.is
    (double_passed c.args.run.now c.type_inv.run _ c.front_outside-in-Double.ensures)
