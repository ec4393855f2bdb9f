use Rattle.std.proofs.Common.{length}
use Rattle.shlive.specs.Ahead.{ahead_of}
use Rattle.shlive.specs.Requests.{next_by_form}
use Rattle.shlive.proofs.serve.answer_edit.Goals as goal

pub returns-clause-turn : goal.returns-clause-turn
returns-clause-turn g c =
    let ahead = ahead_of g.R.Read.remaining in
    let len = length c.args.session.now.bytes in
    c.answer_came.ensures.turn (next_by_form c.args.form) (ahead c.args.input.now c.args.incoming.now)
    (ahead c.take_splices-came.new.input c.take_splices-came.new.incoming)
    (c.take_splices-came.ensures.comes len (c.new-parts.ensures len c.tally.ensures))
