use Rattle.std.proofs.Common.{◌∙◌, None, Some, subst}
use Rattle.shtool.proofs.Parts.{first_is, located_there}
use Rattle.shgrammar.specs.Scripts.{FirstFault}
use Rattle.shtool.proofs.partial_script.PartialScript.first_fault.Goals as goal

pub returns-in-None : goal.returns-in-None
returns-in-None c = λ edition read is.
    let same = c.new.ensures ∙ c.deref.ensures.value in
    let told = rw (c.for_edition.ensures.0, is.by) at c.in_ok-first_fault.ensures.fault in
    let first = subst (λ bytes. FirstFault edition bytes c.in_ok-first_fault.field-0) same told in
    first_is edition read c.args.self.now is None (rw c.in-None.is at first)

pub returns-in-Some : goal.returns-in-Some
returns-in-Some c = λ edition read is.
    let same = c.new.ensures ∙ c.deref.ensures.value in
    let told = rw (c.for_edition.ensures.0, is.by) at c.in_ok-first_fault.ensures.fault in
    let first = subst (λ bytes. FirstFault edition bytes c.in_ok-first_fault.field-0) same told in
    located_there edition read _ c.locate.result (c.locate.ensures read is.held)
    (first_is edition read c.args.self.now is (Some c.in-Some.fault) (rw c.in-Some.is at first))
