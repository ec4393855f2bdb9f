use Rattle.std.proofs.Common.{◌∙◌}
use Rattle.shtool.proofs.Parts.{holds_passed}
use Rattle.shtool.proofs.partial_script.PartialScript.pass_lines.Goals as goal

pub returns : goal.returns
returns c = λ edition read is.
    let same = c.new.ensures ∙ c.deref.ensures.value in
    holds_passed edition read c.args.self.now _ c.in_ok-count.count is (rw same at c.in_ok-count.ensures.within)
    (rw (same, is.by) at c.in_ok-count.ensures.passed)
    (c.pass.ensures.held read is.held) c.pass.ensures.passed c.pass.ensures.edition
