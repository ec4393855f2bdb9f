use Rattle.std.proofs.Common.{◌≡◌, ◌++◌, ◌∙◌, ap, arith, drop}
use Rattle.std.proofs.lemmas.Result.{on_err_weaker, on_ok_weaker}
use Rattle.shwindow.specs.Blocks.{in_one_row, lines_before, lines_from}
use Rattle.shwindow.specs.Lines.{extent}
use Rattle.shwindow.proofs.Joined.{cut_all}
use Rattle.shwindow.proofs.Places.{same_before}
use Rattle.shwindow.proofs.blocks.Blocks.replace_lines.Given.{Over}
use Rattle.shwindow.proofs.blocks.Blocks.replace_lines.Goals as goal
use Rattle.shwindow.proofs.blocks.Blocks.replace_lines.Goals.{In_ok-end}

-- all lines then
all_lines : (g : Over) (c : In_ok-end g) →
    lines_before c.cut.new.self.blocks.items c.args.from
    ++ (in_one_row c.args.new.blocks.items ++ in_one_row (drop c.in_ok-end.end c.cut.new.self.blocks.items))
    ≡ lines_before c.args.self.now.blocks.items c.args.from
    ++ (in_one_row c.args.new.blocks.items ++ lines_from c.args.self.now.blocks.items c.args.upto)
all_lines g c =
    let blocks = c.args.self.now.blocks.items in
    let cut = c.cut.new.self.blocks.items in
    let new = in_one_row c.args.new.blocks.items in
    let is = c.in_ok-end.ensures in
    ap (λ x. x ++ (new ++ in_one_row (drop c.in_ok-end.end cut)))
    (same_before blocks cut c.args.from c.args.upto c.requires.order is.front is.head)
    ∙ ap (λ x. lines_before blocks c.args.from ++ (new ++ x)) is.from

pub replace_from-requires-clause-fits : goal.replace_from-requires-clause-fits
replace_from-requires-clause-fits g c =
    omega (arith, ap extent (all_lines g (goal.at.replace_from-requires-clause-fits g c).In_ok-end), c.requires.fits)

pub returns-clause-ok : goal.returns-clause-ok
returns-clause-ok g c = on_ok_weaker c.replace_from.result
    (λ is. is ∙ all_lines g (goal.at.returns-clause-ok g c).In_ok-end) c.replace_from.ensures.ok

pub returns-clause-err : goal.returns-clause-err
returns-clause-err g c =
    let is = c.in_ok-end.ensures in
    on_err_weaker c.replace_from.result
    (λ same. ap in_one_row same ∙ cut_all c.args.self.now.blocks.items c.cut.new.self.blocks.items c.args.upto
    c.in_ok-end.end is.before is.from) c.replace_from.ensures.err
