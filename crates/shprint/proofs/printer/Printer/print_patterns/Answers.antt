use Rattle.std.proofs.Common.{arith}
use Rattle.shast.specs.View.{view_word}
use Rattle.shprint.proofs.Rows.{from_more, pattern_marks}
use Rattle.shprint.proofs.Writing.{written_append, written_cons}
use Rattle.shprint.proofs.printer.Printer.print_patterns.Goals as goal

pub loop-pattern-preserved : goal.loop-pattern-preserved
loop-pattern-preserved g c =
    grind (
      arith,
      written_append,
      written_cons,
      from_more (pattern_marks (g.S.Source.bytes c.args.self.now.source.now) c.args.self.now.layout
          c.args.page.now.margin.items) view_word c.args.patterns.now c.loop-pattern.pattern-index
          c.pattern-item.result,
    )
