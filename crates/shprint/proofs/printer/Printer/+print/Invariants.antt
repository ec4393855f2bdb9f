use Rattle.std.proofs.Common.{◌≡◌, false, drop, length, map}
use Rattle.shast.specs.View.{view_branch, view_case_item, view_entry}
use Rattle.shprint.specs.Printed.{operand_margin}
use Rattle.shprint.specs.Written.{sheet, written}
use Rattle.shprint.proofs.Rows.{branch_marks, case_marks, entry_marks, marks_from, parts_left, pipes_left}
use Rattle.shprint.proofs.printer.Printer.+print.Given as goal

abbrev pub invariant-print_entries-loop-entry : goal.invariant-print_entries-loop-entry
invariant-print_entries-loop-entry g l = (l.page.margin.items ≡ l.fn.page.margin.items)
    × (written (sheet l.page) (marks_from
    (entry_marks (g.S.Source.bytes l.self.source.now) l.self.layout l.fn.page.margin.items)
    (map view_entry l.entries) l.entry-index)
    ≡ written (sheet l.fn.page) (marks_from
    (entry_marks (g.S.Source.bytes l.self.source.now) l.self.layout l.fn.page.margin.items)
    (map view_entry l.entries) 0))

abbrev pub invariant-print_branches-loop-branch : goal.invariant-print_branches-loop-branch
invariant-print_branches-loop-branch g l = (l.page.margin.items ≡ l.fn.page.margin.items)
    × (written (sheet l.page) (marks_from
    (branch_marks (g.S.Source.bytes l.self.source.now) l.self.layout l.fn.page.margin.items)
    (map view_branch l.branches) l.branch-index)
    ≡ written (sheet l.fn.page) (marks_from
    (branch_marks (g.S.Source.bytes l.self.source.now) l.self.layout l.fn.page.margin.items)
    (map view_branch l.branches) 0))

abbrev pub invariant-print_cases-loop-item : goal.invariant-print_cases-loop-item
invariant-print_cases-loop-item g l = (l.page.margin.items ≡ l.fn.page.margin.items)
    × (written (sheet l.page) (marks_from
    (case_marks (g.S.Source.bytes l.self.source.now) l.self.layout l.fn.page.margin.items)
    (map view_case_item l.items) l.item-index)
    ≡ written (sheet l.fn.page) (marks_from
    (case_marks (g.S.Source.bytes l.self.source.now) l.self.layout l.fn.page.margin.items)
    (map view_case_item l.items) 0))

abbrev pub invariant-print_and_or_parts-loop-part : goal.invariant-print_and_or_parts-loop-part
invariant-print_and_or_parts-loop-part g l =
    (l.page.margin.items ≡ operand_margin l.self.layout l.fn.page.margin.items l.broken)
    × (l.home ≡ length l.fn.page.margin.items)
    × (written (sheet l.page) (parts_left
    (g.S.Source.bytes l.self.source.now) l.self.layout l.fn.page.margin.items l.broken (drop l.part-index l.parts))
    ≡ written (sheet l.fn.page) (parts_left
    (g.S.Source.bytes l.self.source.now) l.self.layout l.fn.page.margin.items false l.parts))

abbrev pub invariant-print_pipes-loop-part : goal.invariant-print_pipes-loop-part
invariant-print_pipes-loop-part g l =
    (l.page.margin.items ≡ operand_margin l.self.layout l.fn.page.margin.items l.broken)
    × (l.home ≡ length l.fn.page.margin.items)
    × (written (sheet l.page) (pipes_left
    (g.S.Source.bytes l.self.source.now) l.self.layout l.fn.page.margin.items l.broken (drop l.part-index l.parts))
    ≡ written (sheet l.fn.page) (pipes_left
    (g.S.Source.bytes l.self.source.now) l.self.layout l.fn.page.margin.items false l.parts))
