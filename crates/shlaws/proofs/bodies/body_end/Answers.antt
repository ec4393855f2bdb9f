use Rattle.shlaws.proofs.BodyEnds.{first_line, no_line}
use Rattle.shlaws.proofs.bodies.body_end.Goals as goal

pub returns : goal.returns
returns c = record {
  ends = λ text w p q. first_line text w p q;
  never = λ text w p. no_line text w p;
}
