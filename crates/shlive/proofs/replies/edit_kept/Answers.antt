use Rattle.std.proofs.Common.{◌≡◌, ◌∙◌, List as Row, ap, subst}
use Rattle.std.proofs.lemmas.Result.{IfErr-weaker}
use Rattle.shtext.specs.Edit.{ASplice, splices_of}
use Rattle.shlive.specs.Edits.{IsNotMade}
use Rattle.shlive.specs.Parts.{AreSplices, splices_kept}
use Rattle.shlive.proofs.replies.edit_kept.Goals as goal

pub returns-clause-refused : goal.returns-clause-refused
returns-clause-refused c =
    IfErr-weaker c.edit_all.result _ _
    (λ e is ss hold.
    let kept = subst (λ k. AreSplices k ss) c.in-Some.is hold.1.kept in
    let same : splices_of c.deref-2.result.now ≡ ss = ap splices_of c.deref-2.ensures.value
    ∙ c.in_ok-splices.ensures ∙ ap splices_kept c.deref.ensures.value ∙ kept in
    subst (λ (x : Row ASplice). IsNotMade c.args.session.now x e c.edit_all.new.self) same is)
    c.edit_all.ensures.refused
