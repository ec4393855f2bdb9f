use Rattle.shast.proofs.NodesMoved.{within_moved}
use Rattle.shtree.proofs.laws.nodes_moved.Goals as goal

pub returns-clause-within : goal.returns-clause-within
returns-clause-within c = λ limit base list some so. within_moved limit base list some so
