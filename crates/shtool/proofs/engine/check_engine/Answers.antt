use Rattle.std.proofs.Common.{sym, ap, cond, None, Ok, Err}
use Rattle.shtext.specs.Device.{output_failed}
use Rattle.shtool.specs.declared.report.RunError.TheVariants.{Memory}
use Rattle.shtext.proofs.Known.{Writes-nothing}
use Rattle.shtool.proofs.Reported.{fault_reported}
use Rattle.shtool.proofs.engine.check_engine.Goals as goal

pub returns-in-Err-clause-report : goal.returns-in-Err-clause-report
returns-in-Err-clause-report g c =
    let p = c.in-Err.ensures.err in
    record { read = p.0; verdict = Err c.in-Err.error; consumed = p.1; judged = p.2; told = c.give_up.ensures.told p.0 }

pub returns-in-Ok-None-clause-report : goal.returns-in-Ok-None-clause-report
returns-in-Ok-None-clause-report g c =
    let p = c.in-Ok.ensures.ok in
    record {
      read = p.0;
      verdict = Ok None;
      consumed = p.2;
      judged = (
        p.5,
        p.6,
        p.4,
        (rw c.in-Ok-None.field-0-is at c.in-Ok-None.ensures) c.args.edition p.0
            (p.1 c.args.edition c.new.ensures),
      );
      told = record {
        written = Writes-nothing (g.E.Write.contents c.args.errors.now.writer)
            (output_failed c.args.errors.now) c.requires.unbroken;
        answer = ap (λ broken. cond broken 2 0) (sym c.requires.unbroken);
      };
    }

pub returns-in-Ok-Some-clause-report : goal.returns-in-Ok-Some-clause-report
returns-in-Ok-Some-clause-report g c =
    let p = c.in-Ok.ensures.ok in
    let found = (rw c.in-Ok-Some.field-0-is at c.in-Ok-Some.ensures) c.args.edition p.0
    (p.1 c.args.edition c.new.ensures) in
    fault_reported c.args.edition c.args.name.now _ _ _ _ p.0 p.2 p.5 p.6 p.4 _ _ _ _ c.in-Ok-Some.found.fault found.0
    (c.tell.ensures.told p.0 found.1.1 found.1.2)

pub returns-clause-report : goal.returns-clause-report
returns-clause-report g c =
    let p = c.in-Ok.ensures.ok in
    record {
      read = p.0;
      verdict = Err Memory;
      consumed = p.2;
      judged = (p.5, p.4);
      told = c.give_up-in-Err-Memory.ensures.told p.0;
    }
