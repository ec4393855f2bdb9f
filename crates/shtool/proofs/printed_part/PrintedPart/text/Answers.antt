use Rattle.std.proofs.Common.{◌++◌, ◌∙◌, ap, subst, take}
use Rattle.shprint.specs.ReadBack.{IsTextOf}
use Rattle.shtool.proofs.Parts.{located_there, unprinted_is, whole_is}
use Rattle.shtool.proofs.printed_part.PrintedPart.text.Goals as goal

pub returns-in-Ok-clause-printed : goal.returns-in-Ok-clause-printed
returns-in-Ok-clause-printed c = λ e y read is.
    let part = c.args.self.part in
    let same = c.new.ensures ∙ c.deref.ensures.value in
    subst (λ bytes. IsTextOf e y bytes c.in-Ok.text.items)
    (ap (λ xs. take part.passed read ++ xs) same ∙ whole_is read part is.held)
    (c.in-Ok.ensures.printed e y (take part.passed read) is.is)

pub returns-in-Err-Faulty-clause-err : goal.returns-in-Err-Faulty-clause-err
returns-in-Err-Faulty-clause-err c = λ e y read is.
    let part = c.args.self.part in
    let same = c.new.ensures ∙ c.deref.ensures.value in
    let refused = rw c.in-Err-Faulty.field-0-is at (c.in-Err-Faulty.ensures.err e y (take part.passed read) is.is) in
    located_there e read _ c.locate.result (c.locate.ensures read is.held)
    (unprinted_is e read part is.held _ c.in-Err-Faulty.fault same refused.0)
