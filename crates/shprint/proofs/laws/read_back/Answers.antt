use Rattle.shprint.proofs.ReadBack.{reads_back}
use Rattle.shprint.proofs.laws.read_back.Goals as goal

pub returns : goal.returns
returns c = λ edition layout bytes script outcome. reads_back edition layout bytes script outcome
