use Rattle.std.proofs.Common.{arith}
use Rattle.shtree.proofs.Carrying.{still_more}
use Rattle.shtree.proofs.append.carry_comments.Goals as goal

pub loop-comment-preserved : goal.loop-comment-preserved
loop-comment-preserved c = grind (arith, still_more)
