use Rattle.std.proofs.Common.{arith, rules}
use Rattle.shast.specs.declared.tree.Comment.{Comment}
use Rattle.shast.specs.View.{view_comment}
use Rattle.shtree.proofs.Gathering.{comment_row, comments_are, from_end, from_more, gathered_append, gathered_none}
use Rattle.shtree.proofs.visit.add_comments.Goals as goal

pub loop-comment-preserved : goal.loop-comment-preserved
loop-comment-preserved g c =
    let nothing : Comment = record { span = record { start = 0; «end» = 0 } } in
    record {
      ok = grind (
        arith,
        gathered_append,
        from_more comment_row view_comment c.args.comments.now c.loop-comment.comment-index nothing,
      );
      kept = search rules;
    }

pub returns : goal.returns
returns g c = record { ok = grind (arith, gathered_none, from_end, comments_are); kept = search rules }
