use Rattle.shprint.proofs.ReadBack.{prints_the_same}
use Rattle.shprint.proofs.laws.printed_again.Goals as goal

pub returns : goal.returns
returns c = λ edition layout bytes script again outcome read. prints_the_same edition layout bytes script again outcome
    read
