use Rattle.std.proofs.Common.{inl, inr, refl, subst}
use Rattle.shlive.specs.Held.{Held}
use Rattle.shlive.specs.Runs.{IsSessionRun, run_state}
use Rattle.shform.proofs.session_engine.session_engine.Goals as goal

pub returns-in-Ok : goal.returns-in-Ok
returns-in-Ok g c =
    let opened = c.in-Ok.ensures.ok in
    let state = run_state g.R.Read.remaining g.O.Write.contents in
    let after = c.run.new.session in
    let run = subst (λ (before : Held). IsSessionRun (state before c.args.requests.now c.args.replies.now)
    (state after c.run.new.input c.run.new.output) c.run.result) opened.2 c.run.ensures.run in
    record { report = inl (record { read = opened.0; file = opened.1; after = after; run = run; silent = refl }) }

pub returns-in-Err : goal.returns-in-Err
returns-in-Err g c =
    let stopped = c.in-Err.ensures.err in
    record {
      report = inr (record {
        read = stopped.0;
        error = c.in-Err.error;
        file = stopped.1;
        told = c.give_up.ensures.told stopped.0;
        unasked = refl;
        unanswered = refl;
      });
    }
