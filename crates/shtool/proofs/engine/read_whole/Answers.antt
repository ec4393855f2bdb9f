use Rattle.std.proofs.lemmas.Result.{IfOk-weaker}
use Rattle.shtool.proofs.engine.read_whole.Goals as goal

pub returns-clause-ok : goal.returns-clause-ok
returns-clause-ok g c = IfOk-weaker c.read_into.result _ _
    (λ text p. rw (p.1 tt c.new.ensures.items) (p.2, p.3, p.4, p.5, p.6)) c.read_into.ensures.ok
