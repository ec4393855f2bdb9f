use Rattle.std.proofs.Common.{◌+◌, ◌∙◌, ap, refl}
use Rattle.shtool.proofs.Parts.{column_is, line_is}
use Rattle.shtool.proofs.partial_script.PartialScript.locate.Goals as goal

pub returns : goal.returns
returns c = λ read is.
    let part = c.args.self.now in
    let same = c.new.ensures ∙ c.deref.ensures.value in (
      refl,
      ap (λ n. part.newlines + n) (rw same at c.line_col_of-line.ensures.line) ∙ line_is read part is c.args.fault.at,
      rw same at c.line_col_of-line.ensures.column ∙ column_is read part is c.args.fault.at,
    )
