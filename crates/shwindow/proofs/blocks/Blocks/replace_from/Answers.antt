use Rattle.std.proofs.Common.{◌≡◌, ◌++◌, ◌∙◌, ap, arith, drop}
use Rattle.shwindow.specs.Blocks.{in_one_row, lines_before}
use Rattle.shwindow.specs.Lines.{extent}
use Rattle.shwindow.proofs.Joined.{joined_between}
use Rattle.shwindow.proofs.blocks.Blocks.replace_from.Given.{Over}
use Rattle.shwindow.proofs.blocks.Blocks.replace_from.Goals as goal
use Rattle.shwindow.proofs.blocks.Blocks.replace_from.Goals.{After-replace_items}

-- all lines then: those before the place, the new ones, and those of the blocks that stay after it
all_lines : (g : Over) (c : After-replace_items g) →
    in_one_row c.replace_items.new.of.items ≡ lines_before c.args.self.now.blocks.items c.args.from
    ++ (in_one_row c.args.new.blocks.items ++ in_one_row (drop c.args.to c.args.self.now.blocks.items))
all_lines g c =
    let kept = c.keep_before-first.new.self.blocks.items in
    let new = in_one_row c.args.new.blocks.items in
    let is = c.keep_before-first.ensures in
    ap in_one_row c.replace_items.ensures
    ∙ joined_between kept c.args.new.blocks.items c.keep_before-first.result c.args.to
    ∙ ap (λ x. x ++ (new ++ in_one_row (drop c.args.to kept))) is.before
    ∙ ap (λ x. lines_before c.reserve.new.self.items c.args.from ++ (new ++ in_one_row x)) is.rest
    ∙ ap (λ ks. lines_before ks c.args.from ++ (new ++ in_one_row (drop c.args.to ks))) c.reserve.ensures.items

pub merge-requires : goal.merge-requires
merge-requires g c = omega (
  arith,
  ap extent (all_lines g (goal.at.merge-requires g c).After-replace_items),
  c.requires.fits,
)

pub merge-requires-2 : goal.merge-requires-2
merge-requires-2 g c = omega (
  arith,
  ap extent (c.merge.ensures ∙ all_lines g (goal.at.merge-requires-2 g c).After-replace_items),
  c.requires.fits,
)

pub merge-requires-3 : goal.merge-requires-3
merge-requires-3 g c = omega (
  arith,
  ap extent (c.merge-2.ensures ∙ c.merge.ensures ∙ all_lines g (goal.at.merge-requires-3 g c).After-replace_items),
  c.requires.fits,
)

pub merge-requires-4 : goal.merge-requires-4
merge-requires-4 g c = omega (
  arith,
  ap extent (c.merge-3.ensures ∙ c.merge-2.ensures ∙ c.merge.ensures
      ∙ all_lines g (goal.at.merge-requires-4 g c).After-replace_items),
  c.requires.fits,
)

pub returns-clause-ok : goal.returns-clause-ok
returns-clause-ok g c = c.merge-4.ensures ∙ c.merge-3.ensures ∙ c.merge-2.ensures ∙ c.merge.ensures
    ∙ all_lines g (goal.at.returns-clause-ok g c).After-replace_items
