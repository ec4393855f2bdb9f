use Rattle.std.proofs.Common.{◌≡◌, map}
use Rattle.shast.specs.Capped.{capped}
use Rattle.shast.specs.View.{view_comment}
use Rattle.shtree.proofs.Carrying.{still}
use Rattle.shtree.proofs.append.carry_comments.Given as goal

abbrev pub invariant-loop-comment : goal.invariant-loop-comment
invariant-loop-comment l = still (capped l.base) view_comment l.made.items l.comments l.comment-index
    ≡ map (capped l.base) (map view_comment l.comments)
