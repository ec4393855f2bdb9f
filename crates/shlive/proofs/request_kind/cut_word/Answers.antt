use Rattle.std.proofs.Common.{arith}
use Rattle.shlive.proofs.Words.{from_start}
use Rattle.shlive.proofs.request_kind.cut_word.Goals as goal

pub bytes-init : goal.bytes-init
bytes-init c = (omega arith, from_start c.args.line.now)
