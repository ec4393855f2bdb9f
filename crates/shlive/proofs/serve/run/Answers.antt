use Rattle.std.proofs.Common.{[], refl, subst, sym, lit<}
use Rattle.shlive.specs.Ahead.{ahead_of, too_many}
use Rattle.shlive.specs.Held.{SessionOptions}
use Rattle.shlive.specs.Replies as of_replies
use Rattle.shlive.specs.Requests as of_requests
use Rattle.shlive.specs.Runs.{HasAnswer}
use Rattle.shlive.specs.Turns.{turn_state}
use Rattle.shlive.proofs.Asked.{appends_none, smaller, some_spelled}
use Rattle.shlive.proofs.Running.{ended_how, ended_run, goes_on}
use Rattle.shlive.proofs.Taken.{takes_front}
use Rattle.shlive.proofs.serve.run.Goals as goal

pub requests-init : goal.requests-init
requests-init g c =
    let ahead = ahead_of g.R.Read.remaining in (
      (c.requires.open, rw c.new-incoming.ensures.count (lit< tt)),
      c.requires.unbroken,
      record {
        taken = [];
        asked = [];
        takes = takes_front (ahead c.args.input.now (record { bytes = []; count = 0 }))
            (ahead c.args.input.now c.new-incoming.result) [] refl c.new-incoming.ensures.count
            (sym c.new-incoming.ensures.bytes);
        begins = λ rest. of_requests.none_yet;
        answered = record {
          replies = [];
          answered = of_replies.none_yet;
          written = appends_none (g.W.Write.contents c.args.output.now.writer);
        };
        how = refl;
      },
    )

pub requests-smaller : goal.requests-smaller
requests-smaller g c =
    let ahead = ahead_of g.R.Read.remaining in
    let r = c.in_default.ensures.turn in
    smaller too_many (ahead c.requests.input c.requests.incoming)
    (ahead c.answer_next.new.input c.answer_next.new.incoming) r.taken r.takes
    (some_spelled r.taken r.request r.spelled) c.requests.invariant.0.1

pub requests-preserved : goal.requests-preserved
requests-preserved g c =
    let ahead = ahead_of g.R.Read.remaining in
    let state = turn_state g.W.Write.contents in (
      c.in_default.ensures.ready,
      c.in_default.ensures.unbroken,
      goes_on
          (state c.args.session.now (ahead c.args.input.now (record { bytes = []; count = 0 })) c.args.output.now)
          (state c.requests.session (ahead c.requests.input c.requests.incoming) c.requests.output)
          (state c.answer_next.new.session (ahead c.answer_next.new.input c.answer_next.new.incoming)
          c.answer_next.new.output) c.requests.invariant.2 c.in_default.ensures.turn,
    )

pub returns-in-Err-clause-how : goal.returns-in-Err-clause-how
returns-in-Err-clause-how g c =
    let ahead = ahead_of g.R.Read.remaining in
    let state = turn_state g.W.Write.contents in
    ended_how
    (state c.args.session.now (ahead c.args.input.now (record { bytes = []; count = 0 })) c.args.output.now)
    (state c.requests.session (ahead c.requests.input c.requests.incoming) c.requests.output)
    (state c.answer_next.new.session (ahead c.answer_next.new.input c.answer_next.new.incoming)
    c.answer_next.new.output) c.requests.invariant.2 c.in-Err.«end» c.in-Err.ensures.turn

pub returns-in-Err-clause-run : goal.returns-in-Err-clause-run
returns-in-Err-clause-run g c =
    let ahead = ahead_of g.R.Read.remaining in
    let state = turn_state g.W.Write.contents in
    let old = state c.args.session.now (ahead c.args.input.now (record { bytes = []; count = 0 })) c.args.output.now in
    let now = state c.requests.session (ahead c.requests.input c.requests.incoming) c.requests.output in
    let new = state c.answer_next.new.session (ahead c.answer_next.new.input c.answer_next.new.incoming)
    c.answer_next.new.output in
    let so = c.requests.invariant.2 in
    let turn = c.in-Err.ensures.turn in
    ended_run old now new so c.answer.result refl refl c.in-Err.«end» turn
    (subst (λ (h : SessionOptions). HasAnswer h.edition c.in-Err.«end» c.answer_next.new.session.bytes c.answer.result)
    (ended_how old now new so c.in-Err.«end» turn) c.answer.ensures)
