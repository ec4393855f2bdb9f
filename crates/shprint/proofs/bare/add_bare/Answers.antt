use Rattle.std.proofs.Common.{arith, append-nil, append_assoc}
use Rattle.shprint.proofs.Copying.{bare_joined, bare_more, bare_none, drop_none}
use Rattle.shprint.proofs.bare.add_bare.Goals as goal

pub returns-in_default : goal.returns-in_default
returns-in_default g c = grind (arith, drop_none, bare_none, append-nil)

pub bytes-preserved-then-eq : goal.bytes-preserved-then-eq
bytes-preserved-then-eq g c = grind (arith, bare_joined)

pub bytes-preserved : goal.bytes-preserved
bytes-preserved g c = grind (arith, bare_more, append_assoc)

pub returns : goal.returns
returns g c = grind (arith, bare_none, append-nil)
