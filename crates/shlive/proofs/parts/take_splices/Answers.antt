use Rattle.std.proofs.Common.{subst, sym}
use Rattle.std.proofs.lemmas.Result.{on_ok_weaker}
use Rattle.shlive.specs.Ahead.{ahead_of}
use Rattle.shlive.specs.Parts.{Comes}
use Rattle.shlive.specs.Requests.{next_by_form}
use Rattle.shlive.proofs.Came.{comes_alone}
use Rattle.shlive.proofs.parts.take_splices.Goals as goal

pub returns-in-Alone-clause-comes : goal.returns-in-Alone-clause-comes
returns-in-Alone-clause-comes g c len none =
    let ahead = ahead_of g.R.Read.remaining in
    let start = ahead c.args.input.now c.args.incoming.now in
    let new = ahead c.take_bytes.new.input c.take_bytes.new.incoming in
    subst (λ form. Comes (next_by_form form) start new c.take_bytes.new.parts len c.take_bytes.result)
    (sym c.in-Alone.is)
    (comes_alone c.in-Alone.part start new c.args.parts.now c.take_bytes.new.parts len none c.take_bytes.result
    (on_ok_weaker c.take_bytes.result (λ ready. ready.0.0) c.take_bytes.ensures.ready)
    c.take_bytes.ensures.came c.take_bytes.ensures.cut)
