use Rattle.shheld.proofs.Windows.{only, order, some}
use Rattle.shheld.proofs.laws.windows.Goals as goal

pub returns : goal.returns
returns c = record {
  some = some;
  only = only;
  order = order;
}
