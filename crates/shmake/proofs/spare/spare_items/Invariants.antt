use Rattle.std.proofs.Common.{vec_len}
use Rattle.shmake.proofs.spare.spare_items.Given as goal

abbrev pub decreases-loop-item : goal.decreases-loop-item
decreases-loop-item l = vec_len l.items
