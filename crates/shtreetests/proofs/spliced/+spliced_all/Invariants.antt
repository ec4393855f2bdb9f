use Rattle.std.proofs.Common.{length}
use Rattle.shtreetests.proofs.spliced.+spliced_all.Given as goal

abbrev pub decreases-spliced_all : goal.decreases-spliced_all
decreases-spliced_all l = length l.splices.now
