use Rattle.std.proofs.Common.{[], ◌+◌, ◌∙◌, ap, arith, refl, subst, sym}
use Rattle.shast.specs.Shape.{shape_of}
use Rattle.shprint.specs.Printed.{printed}
use Rattle.shprint.specs.Written.{sheet_of}
use Rattle.shtext.specs.Buffer.{buffer_bytes}
use Rattle.shwindow.specs.Walks.{lines_left}
use Rattle.shheld.specs.Walk.{Walk, no_line, with_line, with_lines}
use Rattle.shheld.proofs.Rows.{row_entries}
use Rattle.shlive.proofs.TopLines.{row_top}
use Rattle.shlive.proofs.Printing.{all_printed, none_yet}
use Rattle.shlive.proofs.Walking.{Walked, walked_line, walked_more, walked_start, walked_within}
use Rattle.shlive.proofs.answers.text_of_lines.Goals as goal

pub lines-init : goal.lines-init
lines-init c =
    let row = c.args.lines.now in
    record {
      walked = subst (λ left. Walked row left 0) (sym c.lines-rest.ensures) (walked_start row);
      so = no_line;
      gap = refl;
      at = refl;
      entries = ap (with_lines no_line) c.lines-rest.ensures;
      printed = none_yet c.args.layout.now (buffer_bytes c.args.source.now) c.new-page.result c.new-page.ensures.0
          (ap (λ t. sheet_of t c.new-page.result.held.items) c.new-page.ensures.1
          ∙ ap (sheet_of []) c.new-page.ensures.2);
    }

pub overflow_add-begin : goal.overflow_add-begin
overflow_add-begin c =
    let within = walked_within c.args.lines.now (lines_left c.lines.rest) c.lines.begin c.in-Some.line.now
    (lines_left c.next.new.self) c.lines.invariant.walked c.in-Some.ensures.steps c.requires.row.0
    (buffer_bytes c.args.source.now) c.requires.row.1 in
    omega (arith, within, c.requires.small)

pub lines-preserved : goal.lines-preserved
lines-preserved c =
    let row = c.args.lines.now in
    let B = buffer_bytes c.args.source.now in
    let l = c.in-Some.line.now in
    let left = lines_left c.lines.rest in
    let rest = lines_left c.next.new.self in
    let inv = c.lines.invariant in
    let line = walked_line row left c.lines.begin l rest inv.walked c.in-Some.ensures.steps c.requires.row.0 B
    c.requires.row.1 in
    let more = c.in_ok-gap.ensures c.requires.row.0 inv.so inv.gap inv.at line inv.printed in
    record {
      walked = walked_more row left c.lines.begin l rest inv.walked c.in-Some.ensures.steps;
      so = with_line inv.so l;
      gap = sym more.0;
      at = ap (λ n. n + l.len) inv.at;
      entries = sym (ap (with_lines inv.so) c.in-Some.ensures.steps) ∙ inv.entries;
      printed = more.1;
    }

pub returns : goal.returns
returns c =
    let row = c.args.lines.now in
    let B = buffer_bytes c.args.source.now in
    let inv = c.lines.invariant in
    let all = ap (with_lines inv.so) (sym c.in_default.ensures.steps.0) ∙ inv.entries in
    all_printed c.args.layout.now B inv.so c.lines.page inv.printed
    ∙ ap (λ (w : Walk). printed c.args.layout.now (shape_of B w.entries)) all
    ∙ sym (ap (λ es. printed c.args.layout.now (shape_of B es))
    (row_entries c.requires.row.0 B row (row_top c.requires.row.0 B row c.requires.row.1)))
