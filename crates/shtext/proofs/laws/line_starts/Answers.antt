use Rattle.shtext.proofs.Lines.{only, some, none}
use Rattle.shtext.proofs.laws.line_starts.Goals as goal

pub returns : goal.returns
returns c = record { only = only; some = some; none = none }
