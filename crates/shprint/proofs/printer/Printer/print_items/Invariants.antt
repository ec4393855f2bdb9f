use Rattle.std.proofs.Common.{◌≡◌, map}
use Rattle.shast.specs.View.{view_item}
use Rattle.shprint.specs.Written.{sheet, written}
use Rattle.shprint.proofs.Rows.{item_marks, marks_from}
use Rattle.shprint.proofs.printer.Printer.print_items.Given as goal

abbrev pub invariant-loop-item : goal.invariant-loop-item
invariant-loop-item g l = (l.page.margin.items ≡ l.fn.page.margin.items)
    × (written (sheet l.page) (marks_from
    (item_marks (g.S.Source.bytes l.self.source.now) l.self.layout l.fn.page.margin.items)
    (map view_item l.items) l.item-index)
    ≡ written (sheet l.fn.page) (marks_from
    (item_marks (g.S.Source.bytes l.self.source.now) l.self.layout l.fn.page.margin.items) (map view_item l.items) 0))
