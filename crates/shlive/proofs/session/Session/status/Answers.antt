use Rattle.std.proofs.Common.{refl, None, Some}
use Rattle.shlive.proofs.session.Session.status.Goals as goal

pub returns-in-None : goal.returns-in-None
returns-in-None c = (None, rw c.in-None.is at c.fault.ensures.first, refl)

pub returns-in-Some : goal.returns-in-Some
returns-in-Some c = (Some c.in-Some.field-0, rw c.in-Some.is at c.fault.ensures.first, refl)
