use Rattle.std.proofs.Common.{◌≡◌, map}
use Rattle.shtree.specs.Gathered.{Keeps, gathered}
use Rattle.shast.specs.View.{view_comment}
use Rattle.shtree.proofs.Gathering.{comment_row, nodes_from}
use Rattle.shtree.proofs.visit.add_comments.Given as goal

abbrev pub invariant-loop-comment : goal.invariant-loop-comment
invariant-loop-comment g l = record {
  ok : gathered (g.W.Wanted.is_wanted l.wanted) l.lines.items
      (nodes_from comment_row (map view_comment l.comments) l.comment-index)
      ≡ gathered (g.W.Wanted.is_wanted l.wanted) l.fn.lines.items
      (nodes_from comment_row (map view_comment l.comments) 0);
  kept : Keeps l.fn.lines.items l.lines.items;
}
