use Rattle.std.proofs.Common.{◌∙◌, refl}
use Rattle.shtool.proofs.Parts.{held_as, printed_passed}
use Rattle.shtool.proofs.printed_part.PrintedPart.print_lines.Goals as goal

pub returns : goal.returns
returns c = λ e y read is.
    let same = c.new.ensures ∙ c.deref.ensures.value in
    printed_passed e y read c.args.self.now _ c.in_ok-count.count is
    (c.pass.ensures.held read (held_as read c.args.self.now.part _ refl refl refl is.held)) c.pass.ensures.passed
    (rw same at c.in_ok-count.ensures.printed)
