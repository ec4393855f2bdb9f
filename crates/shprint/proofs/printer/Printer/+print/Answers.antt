use Rattle.std.proofs.Common.{◌∷◌, [], arith, codes, false, map}
use Rattle.std.proofs.Math.Seq.{take-append_seam}
use Rattle.std.proofs.lemmas.Bool.Decides.{nat_tests}
use Rattle.shast.specs.Shape.{shape_of, shape_of_branch, shape_of_branches}
use Rattle.shast.specs.Tree.{branches_of}
use Rattle.shast.specs.View.{view_branch, view_case_item, view_entry, view_list}
use Rattle.shast.proofs.Seen.{and_or_part_seen, and_or_seen, branch_seen, case_item_seen, case_seen, compound_seen, entry_seen, for_seen, for_words_seen, if_else_seen, if_seen, list_seen, pipeline_part_seen, pipeline_seen}
use Rattle.shprint.specs.Marks.{deeper, lines_between, one, text}
use Rattle.shprint.specs.Printed.{print_branch, print_branches, print_entries}
use Rattle.shprint.specs.Written.{sheet}
use Rattle.shprint.proofs.Parts.{body_some, case_cut, function_printed, only_none, operand_cut, written_case, written_esac, written_parts}
use Rattle.shprint.proofs.Rows.{branch_marks, case_marks, entry_marks, from_more, parts_end, parts_more, pipes_end, pipes_more}
use Rattle.shprint.proofs.Writing.{on_ok_then, written_append, written_cons, written_none}
use Rattle.shprint.proofs.printer.Printer.+print.Goals as goal

pub print_and_or-returns : goal.print_and_or-returns
print_and_or-returns g t c =
    grind (arith, written_append, written_cons, and_or_seen)

pub print_and_or_parts-loop-part-preserved : goal.print_and_or_parts-loop-part-preserved
print_and_or_parts-loop-part-preserved g t c =
    let more = parts_more (g.S.Source.bytes c.args.self.now.source.now) c.args.self.now.layout
    c.args.page.now.margin.items c.loop-part.broken c.args.parts.now c.loop-part.part-index c.part-item.result
    c.loop-part-test.true in
    grind (arith, written_append, written_cons, more, and_or_part_seen)

pub print_and_or_parts-returns-then-is_empty : goal.print_and_or_parts-returns-then-is_empty
print_and_or_parts-returns-then-is_empty g t c =
    let none = parts_end (g.S.Source.bytes c.args.self.now.source.now) c.args.self.now.layout
    c.args.page.now.margin.items false c.args.parts.now 0
    (grind (arith, nat_tests, c.is_empty.ensures, c.if-is_empty.true)) in
    grind (arith, written_none, none)

pub print_and_or_parts-returns : goal.print_and_or_parts-returns
print_and_or_parts-returns g t c =
    grind (arith, written_append, written_cons, written_none, parts_end, operand_cut)

pub print_pipes-loop-part-preserved : goal.print_pipes-loop-part-preserved
print_pipes-loop-part-preserved g t c =
    let more = pipes_more (g.S.Source.bytes c.args.self.now.source.now) c.args.self.now.layout
    c.args.page.now.margin.items c.loop-part.broken c.args.parts.now c.loop-part.part-index c.part-item.result
    c.loop-part-test.true in
    grind (arith, written_append, written_cons, more, pipeline_part_seen)

pub print_pipes-returns-then-is_empty : goal.print_pipes-returns-then-is_empty
print_pipes-returns-then-is_empty g t c =
    let none = pipes_end (g.S.Source.bytes c.args.self.now.source.now) c.args.self.now.layout
    c.args.page.now.margin.items false c.args.parts.now 0
    (grind (arith, nat_tests, c.is_empty.ensures, c.if-is_empty.true)) in
    grind (arith, written_none, none)

pub print_pipes-returns : goal.print_pipes-returns
print_pipes-returns g t c =
    grind (arith, written_append, written_cons, written_none, pipes_end, operand_cut)

pub print_body-returns : goal.print_body-returns
print_body-returns g t c =
    grind (arith, written_append, written_cons, take-append_seam, body_some, list_seen)

pub print_branch-returns : goal.print_branch-returns
print_branch-returns g t c =
    grind (arith, written_append, written_cons, branch_seen)

pub print_branches-loop-branch-preserved : goal.print_branches-loop-branch-preserved
print_branches-loop-branch-preserved g t c =
    grind (
      arith,
      written_append,
      written_cons,
      from_more (branch_marks (g.S.Source.bytes c.args.self.now.source.now) c.args.self.now.layout
          c.args.page.now.margin.items) view_branch c.args.branches.now c.loop-branch.branch-index c.branch-item.result,
    )

pub print_cases-loop-item-preserved : goal.print_cases-loop-item-preserved
print_cases-loop-item-preserved g t c =
    grind (
      arith,
      written_append,
      written_cons,
      from_more (case_marks (g.S.Source.bytes c.args.self.now.source.now) c.args.self.now.layout
          c.args.page.now.margin.items) view_case_item c.args.items.now c.loop-item.item-index c.item-item.result,
    )

pub print_entries-loop-entry-preserved : goal.print_entries-loop-entry-preserved
print_entries-loop-entry-preserved g t c =
    grind (
      arith,
      written_append,
      written_cons,
      from_more (entry_marks (g.S.Source.bytes c.args.self.now.source.now) c.args.self.now.layout
          c.args.page.now.margin.items) view_entry c.args.entries.now c.loop-entry.entry-index c.entry-item.result,
    )

pub print_case-returns : goal.print_case-returns
print_case-returns g t c =
    grind (arith, written_case, case_item_seen)

pub print_case_items-returns : goal.print_case_items-returns
print_case_items-returns g t c =
    grind (arith, written_append, written_cons, case_cut)

pub print_function-returns : goal.print_function-returns
print_function-returns g t c =
    on_ok_then c.print_compound.result c.print_compound.ensures
    (function_printed (g.S.Source.bytes c.args.self.now.source.now) c.args.self.now.layout c.args.function.now
    c.args.page.now c.print_text.new.page c.put.new.self c.print_function_gap.new.page c.print_compound.new.page
    c.in_ok-print_text.ensures c.in_ok-put.ensures
    (rw c.deref.ensures.value at c.in_ok-print_function_gap.ensures))

pub print_compound-returns : goal.print_compound-returns
print_compound-returns g t c =
    grind (arith, written_append, written_cons, compound_seen)

pub print_condition-returns-then-not-is_one_line : goal.print_condition-returns-then-not-is_one_line
print_condition-returns-then-not-is_one_line g t c =
    let one = c.is_one_line.ensures (g.S.Source.bytes c.args.self.now.source.now) in
    grind (arith, written_append, written_cons, one, list_seen)

pub print_entry-returns : goal.print_entry-returns
print_entry-returns g t c =
    grind (arith, written_append, written_cons, entry_seen)

pub print_form-returns-in-Some : goal.print_form-returns-in-Some
print_form-returns-in-Some g t c =
    let parts = written_parts (sheet c.args.page.now)
    (print_branch c.args.self.now.layout c.args.page.now.margin.items (codes "if") (codes "then")
    (shape_of_branch (g.S.Source.bytes c.args.self.now.source.now) (view_branch c.in-If.first)))
    (print_branches c.args.self.now.layout c.args.page.now.margin.items
    (shape_of_branches (g.S.Source.bytes c.args.self.now.source.now)
    (branches_of (map view_branch c.in-If.rest.items))))
    (text (codes "else") ∷ lines_between c.args.page.now.margin.items
    (print_entries c.args.self.now.layout (deeper c.args.self.now.layout c.args.page.now.margin.items)
    (shape_of (g.S.Source.bytes c.args.self.now.source.now) (view_list c.in-Some.list))))
    (one (codes "fi")) in
    grind (arith, parts, if_else_seen)

pub print_form-returns-in-None : goal.print_form-returns-in-None
print_form-returns-in-None g t c =
    let parts = written_parts (sheet c.args.page.now)
    (print_branch c.args.self.now.layout c.args.page.now.margin.items (codes "if") (codes "then")
    (shape_of_branch (g.S.Source.bytes c.args.self.now.source.now) (view_branch c.in-If.first)))
    (print_branches c.args.self.now.layout c.args.page.now.margin.items
    (shape_of_branches (g.S.Source.bytes c.args.self.now.source.now)
    (branches_of (map view_branch c.in-If.rest.items))))
    [] (one (codes "fi")) in
    grind (arith, parts, if_seen)

pub print_form-returns-in_ok-print_lines_between-in-For : goal.print_form-returns-in_ok-print_lines_between-in-For
print_form-returns-in_ok-print_lines_between-in-For g t c =
    grind (arith, written_append, written_cons, for_seen, for_words_seen)

pub print_form-returns-in_ok-begin_line-in-Case : goal.print_form-returns-in_ok-begin_line-in-Case
print_form-returns-in_ok-begin_line-in-Case g t c =
    on_ok_then c.put-in-Case.result c.put-in-Case.ensures
    (λ last. (grind (arith, written_esac, case_seen, last.0), grind (arith, last.1)))

pub print_lines_between-returns : goal.print_lines_between-returns
print_lines_between-returns g t c =
    grind (arith, written_append, written_cons, take-append_seam, list_seen)

pub print_only-returns-in-None : goal.print_only-returns-in-None
print_only-returns-in-None g t c =
    grind (arith, written_append, written_cons, written_none, only_none, list_seen)

pub print_pipeline-returns : goal.print_pipeline-returns
print_pipeline-returns g t c =
    grind (arith, written_append, written_cons, pipeline_seen)

pub print_condition-returns : goal.print_condition-returns
print_condition-returns g t c =
    let one = c.is_one_line.ensures (g.S.Source.bytes c.args.self.now.source.now) in
    grind (arith, written_append, written_cons, one, list_seen)
