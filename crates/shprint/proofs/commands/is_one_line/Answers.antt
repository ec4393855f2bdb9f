use Rattle.std.proofs.Common.{arith}
use Rattle.shprint.proofs.Parts.{one_of_many}
use Rattle.shprint.proofs.commands.is_one_line.Goals as goal

pub returns-else-is_empty : goal.returns-else-is_empty
returns-else-is_empty c B = grind (arith, one_of_many)
