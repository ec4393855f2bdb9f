use Rattle.std.proofs.Common.{◌+◌, ◌++◌, ◌∙◌, ap, append-nil, arith, subst, sym}
use Rattle.shwindow.specs.Walks.{lines_left}
use Rattle.shheld.specs.Walk.{outlines}
use Rattle.shheld.proofs.Outlines.{row_has_outline}
use Rattle.shlive.proofs.TopLines.{row_top}
use Rattle.shlive.proofs.Walking.{Walked, outlined, walked_more, walked_nodes_fit, walked_start, walked_within}
use Rattle.shlive.proofs.answers.outline_of_lines.Goals as goal

pub lines-init : goal.lines-init
lines-init c =
    let row = c.args.lines.now in
    record {
      walked = subst (λ left. Walked row left 0) (sym c.lines-rest.ensures) (walked_start row);
      nodes = ap (λ ns. ns ++ outlines 0 (lines_left c.lines-rest.result)) c.new-nodes.ensures.items
          ∙ ap (outlines 0) c.lines-rest.ensures;
    }

pub add_outline-requires : goal.add_outline-requires
add_outline-requires c = λ xs kind_is.
    walked_nodes_fit c.args.lines.now (lines_left c.lines.rest) c.lines.begin c.in-Some.line.now
    (lines_left c.next.new.self) c.lines.invariant.walked c.in-Some.ensures.steps c.requires.0 c.requires.1.0
    c.requires.1.1 xs kind_is c.requires.1.2

pub overflow_add-begin : goal.overflow_add-begin
overflow_add-begin c =
    let within = walked_within c.args.lines.now (lines_left c.lines.rest) c.lines.begin c.in-Some.line.now
    (lines_left c.next.new.self) c.lines.invariant.walked c.in-Some.ensures.steps c.requires.0 c.requires.1.0
    c.requires.1.1 in
    omega (arith, within, c.requires.1.2)

pub lines-preserved : goal.lines-preserved
lines-preserved c =
    let row = c.args.lines.now in
    let l = c.in-Some.line.now in
    let rest = lines_left c.next.new.self in
    record {
      walked = walked_more row (lines_left c.lines.rest) c.lines.begin l rest c.lines.invariant.walked
          c.in-Some.ensures.steps;
      nodes = ap (λ ns. ns ++ outlines (c.lines.begin + l.len) rest) c.in_ok-add_outline.ensures
          ∙ outlined c.lines.nodes.items c.lines.begin l rest (lines_left c.lines.rest) c.in-Some.ensures.steps
          ∙ c.lines.invariant.nodes;
    }

pub returns : goal.returns
returns c = λ edition bytes row.
    let all = sym (append-nil c.lines.nodes.items)
    ∙ ap (λ left. c.lines.nodes.items ++ outlines c.lines.begin left) (sym c.in_default.ensures.steps.0)
    ∙ c.lines.invariant.nodes in
    let has = row_has_outline edition bytes c.args.lines.now (row_top edition bytes c.args.lines.now row) in
    (has.0, has.1, all ∙ has.2)
