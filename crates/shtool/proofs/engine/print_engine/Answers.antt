use Rattle.std.proofs.Common.{◌∙◌, ap, false, true}
use Rattle.std.specs.Prelude.{◌||◌}
use Rattle.shtext.specs.Device.{output_failed}
use Rattle.shtool.proofs.Reported.{fault_told, given_up, text_printed, text_unwritten}
use Rattle.shtool.proofs.engine.print_engine.Goals as goal

pub returns-in-Err-clause-report : goal.returns-in-Err-clause-report
returns-in-Err-clause-report g c =
    let p = c.in-Err.ensures.err in
    given_up c.args.edition c.args.layout.now c.args.name.now _ _ _ _ p.0 p.1 _ _ _
    (output_failed c.args.output.now) _ _ c.in-Err.error c.requires.whole p.2 (c.give_up.ensures.told p.0)

pub returns-in-Err-Faulty-clause-report : goal.returns-in-Err-Faulty-clause-report
returns-in-Err-Faulty-clause-report g c =
    let p = c.in-Ok.ensures.ok in
    let found = rw c.in-Err-Faulty.field-0-is at
    (c.in-Err-Faulty.ensures.err c.args.edition c.args.layout.now p.0
    (p.1 (c.args.edition, c.args.layout.now) c.new.ensures)) in
    fault_told c.args.edition c.args.layout.now c.args.name.now _ _ _ _ p.0 p.2 p.5 p.6 p.4 _ _ _
    (output_failed c.args.output.now) _ _ c.in-Err-Faulty.found.fault c.requires.whole found.0
    (c.tell.ensures.told p.0 found.1.1 found.1.2)

pub returns-in-Err-Memory-clause-report : goal.returns-in-Err-Memory-clause-report
returns-in-Err-Memory-clause-report g c =
    let p = c.in-Ok.ensures.ok in
    given_up c.args.edition c.args.layout.now c.args.name.now _ _ _ _ p.0 p.2 _ _ _
    (output_failed c.args.output.now) _ _ _ c.requires.whole (p.5, p.4) (c.give_up-in-Err-Memory.ensures.told p.0)

pub returns-in-Ok-write_flushed-clause-report : goal.returns-in-Ok-write_flushed-clause-report
returns-in-Ok-write_flushed-clause-report g c =
    let p = c.in-Ok.ensures.ok in
    let is = c.in-Ok-text.ensures.printed c.args.edition c.args.layout.now p.0
    (p.1 (c.args.edition, c.args.layout.now) c.new.ensures) in
    let whole = c.in-Ok-write_flushed.ensures.failed ∙ ap (λ failed. failed || false) c.requires.whole in
    let written = rw c.deref.ensures.value at c.in-Ok-write_flushed.ensures.bytes in
    text_printed c.args.edition c.args.layout.now c.args.name.now _ _ _ _ p.0 p.2 p.5 p.6 p.4 c.in-Ok-text.text.items is
    _ _ (output_failed c.write_flushed.new.output)
    _ (output_failed c.args.errors.now) written whole c.requires.unbroken

pub returns-clause-report : goal.returns-clause-report
returns-clause-report g c =
    let p = c.in-Ok.ensures.ok in
    let is = c.in-Ok-text.ensures.printed c.args.edition c.args.layout.now p.0
    (p.1 (c.args.edition, c.args.layout.now) c.new.ensures) in
    let fails = c.in-Err-write_flushed.ensures.failed ∙ ap (λ failed. failed || true) c.requires.whole in
    let written = rw c.deref.ensures.value at c.in-Err-write_flushed.ensures.bytes in
    text_unwritten c.args.edition c.args.layout.now c.args.name.now _ _ _ _ p.0 p.2 p.5 p.6 p.4 c.in-Ok-text.text.items
    is _ _ (output_failed c.write_flushed.new.output)
    _ _ _ _ written fails (c.give_up-in-Err-write_flushed.ensures.told p.0)

pub read_into-requires-clause-empty : goal.read_into-requires-clause-empty
read_into-requires-clause-empty g c = ((c.args.edition, c.args.layout.now), c.new.ensures)
