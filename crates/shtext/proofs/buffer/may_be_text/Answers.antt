use Rattle.std.proofs.Common.{[], refl}
use Rattle.std.proofs.lemmas.Result.{IfErr-weaker, IfOk-weaker}
use Rattle.shtext.specs.Edit.{one_splice}
use Rattle.shtext.proofs.buffer.may_be_text.Goals as goal

pub returns-clause-ok : goal.returns-clause-ok
returns-clause-ok c =
    let told = c.add.ensures 0 [] c.args.bytes.now refl c.new-tally.ensures in
    IfOk-weaker c.answer.result _ _ (λ _ all. all [] (one_splice 0 0 c.args.bytes.now) told) c.answer.ensures.ok

pub returns-clause-err : goal.returns-clause-err
returns-clause-err c =
    let told = c.add.ensures 0 [] c.args.bytes.now refl c.new-tally.ensures in
    IfErr-weaker c.answer.result _ _ (λ _ all. all [] (one_splice 0 0 c.args.bytes.now) told) c.answer.ensures.err
