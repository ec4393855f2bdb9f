use Rattle.std.proofs.Common.{◌≡◌, map}
use Rattle.shast.specs.View.{view_comment}
use Rattle.shprint.specs.Written.{sheet, written}
use Rattle.shprint.proofs.Rows.{further_comment, marks_from}
use Rattle.shprint.proofs.printer.Printer.print_further_comments.Given as goal

abbrev pub invariant-loop-comment : goal.invariant-loop-comment
invariant-loop-comment g l = (l.page.margin.items ≡ l.fn.page.margin.items)
    × (written (sheet l.page) (marks_from
    (further_comment (g.S.Source.bytes l.self.source.now) l.self.layout l.fn.page.margin.items)
    (map view_comment l.comments) l.comment-index)
    ≡ written (sheet l.fn.page) (marks_from
    (further_comment (g.S.Source.bytes l.self.source.now) l.self.layout l.fn.page.margin.items)
    (map view_comment l.comments) 0))
