use Rattle.std.proofs.Common.{◌≡◌, ◌≤◌, ◌∙◌, arith, length, sym}
use Rattle.shwindow.proofs.Joined.{joined_empty, joined_one}
use Rattle.shwindow.proofs.blocks.Blocks.into_lines.Goals as goal

pub returns-in-Some : goal.returns-in-Some
returns-in-Some g c =
    let ok = c.args.self.blocks.ok in
    let few : length c.args.self.blocks.items ≤ 1 = omega (arith, c.requires) in
    c.into_lines.ensures ∙ sym (joined_one c.args.self.blocks.items c.pop.new.self.items c.in-Some.block
    c.in-Some.ensures.items few)

pub returns : goal.returns
returns g c =
    let ok = c.args.self.blocks.ok in
    let cases = c.in-None.ensures.cases in
    let none : length c.args.self.blocks.items ≡ 0 = omega arith in
    c.new.ensures.items ∙ sym (joined_empty c.args.self.blocks.items none)
