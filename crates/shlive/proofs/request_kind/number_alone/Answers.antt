use Rattle.std.proofs.Common.{ap, sym, ◌∙◌}
use Rattle.shlive.specs.RequestKinds.{number_alone}
use Rattle.shlive.proofs.Words.{not_alone}
use Rattle.shlive.proofs.request_kind.number_alone.Goals as goal

pub returns-in_default-Some : goal.returns-in_default-Some
returns-in_default-Some c =
    let is = rw c.in_default-Some.is-1 at c.cut_word.ensures in
    sym (ap number_alone is ∙ not_alone c.cut_word.result.0.now c.in_default-Some.field-0-1.now)
