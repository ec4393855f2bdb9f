use Rattle.std.proofs.Common.{◌-◌, ◌≤◌, vec_len}
use Rattle.shtext.proofs.edit.stock.Given as goal

abbrev pub invariant-chunks : goal.invariant-chunks
invariant-chunks l = vec_len l.initial.spare ≤ vec_len l.spare

abbrev pub decreases-chunks : goal.decreases-chunks
decreases-chunks l = l.wanted - vec_len l.spare
