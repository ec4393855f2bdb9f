use Rattle.std.proofs.Common.{arith}
use Rattle.shast.specs.declared.tree.Comment.{Comment}
use Rattle.shast.specs.View.{view_comment}
use Rattle.shprint.proofs.Rows.{comment_line, from_more}
use Rattle.shprint.proofs.Writing.{written_append, written_cons}
use Rattle.shprint.proofs.printer.Printer.print_comment_lines.Goals as goal

pub loop-comment-preserved : goal.loop-comment-preserved
loop-comment-preserved g c =
    let nothing : Comment = record { span = record { start = 0; «end» = 0 } } in
    grind (
      arith,
      written_append,
      written_cons,
      from_more (comment_line (g.S.Source.bytes c.args.self.now.source.now) c.args.self.now.layout
          c.args.page.now.margin.items) view_comment c.args.comments.now c.loop-comment.comment-index nothing,
    )
