use Rattle.shheld.proofs.LastLine.{some_row}
use Rattle.shheld.proofs.Nodes.{row_are_within}
use Rattle.shheld.proofs.laws.script_of_lines.Goals as goal

pub returns-clause-row : goal.returns-clause-row
returns-clause-row c = some_row

pub returns-clause-within : goal.returns-clause-within
returns-clause-within c = row_are_within
