use Rattle.shtext.proofs.Edits.{undone}
use Rattle.shtext.proofs.laws.undone.Goals as goal

pub returns : goal.returns
returns c = undone
