use Rattle.shlive.proofs.OneList.{only_list, some_list}
use Rattle.shlive.proofs.laws.one_list.Goals as goal

pub returns : goal.returns
returns c = record { some = some_list; only = only_list }
