use Rattle.std.proofs.Common.{◌≡◌, map}
use Rattle.shast.specs.View.{view_word}
use Rattle.shprint.specs.Written.{sheet, written}
use Rattle.shprint.proofs.Rows.{pattern_marks, marks_from}
use Rattle.shprint.proofs.printer.Printer.print_patterns.Given as goal

abbrev pub invariant-loop-pattern : goal.invariant-loop-pattern
invariant-loop-pattern g l = (l.page.margin.items ≡ l.fn.page.margin.items)
    × (written (sheet l.page) (marks_from
    (pattern_marks (g.S.Source.bytes l.self.source.now) l.self.layout l.fn.page.margin.items)
    (map view_word l.patterns) l.pattern-index)
    ≡ written (sheet l.fn.page) (marks_from
    (pattern_marks (g.S.Source.bytes l.self.source.now) l.self.layout l.fn.page.margin.items)
    (map view_word l.patterns) 0))
