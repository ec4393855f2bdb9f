use Rattle.std.proofs.Common.{◌∙◌, ap, arith, refl, subst}
use Rattle.shwindow.specs.Hand.{Passes, none_passed}
use Rattle.shwindow.specs.Lines.{extent}
use Rattle.shwindow.specs.Walks.{lines_left}
use Rattle.shwindow.proofs.Hands.{passes_more, passes_sum}
use Rattle.shwindow.proofs.Places.{not_after_itself, not_after_more}
use Rattle.shwindow.proofs.Rows.{extent_cons}
use Rattle.shwindow.proofs.window.Hand.pass.Goals as goal

pub lines-init : goal.lines-init
lines-init g c = record {
  passes = none_passed;
  blocks = refl;
  last = refl;
  order = not_after_itself c.args.self.now.lines.place;
}

pub overflow_add-self : goal.overflow_add-self
overflow_add-self g c =
    let first = c.args.self.now in
    let now = c.lines.self in
    let sum = passes_sum c.args.at first.begin (lines_left first.lines) now.begin
    (lines_left now.lines) c.lines.invariant.passes in
    let rest = ap extent c.in-Some.ensures.step ∙ extent_cons c.in-Some.line.now (lines_left c.step.new.self) in
    omega (arith, sum, rest, c.requires)

pub lines-preserved : goal.lines-preserved
lines-preserved g c =
    let first = c.args.self.now in
    let now = c.lines.self in
    let line = c.in-Some.line.now in
    let rest = lines_left c.step.new.self in
    let passes = subst (Passes c.args.at first.begin (lines_left first.lines) now.begin) c.in-Some.ensures.step
    c.lines.invariant.passes in
    record {
      passes = passes_more c.args.at first.begin (lines_left first.lines) now.begin line rest passes c.lines-test.true;
      blocks = c.in-Some.ensures.blocks ∙ c.lines.invariant.blocks;
      last = c.in-Some.ensures.last ∙ c.lines.invariant.last;
      order = not_after_more first.lines.place now.lines.place c.step.new.self.place c.lines.invariant.order
          c.in-Some.ensures.order;
    }
