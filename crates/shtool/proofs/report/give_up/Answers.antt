use Rattle.std.proofs.Common.{◌++◌, not, is_ok, sym, ap, ◌∙◌, List, ℕ, codes}
use Rattle.shtext.specs.Device.{output_failed}
use Rattle.shtool.specs.Report.{text_of_error}
use Rattle.shtool.proofs.Told.{given-up}
use Rattle.shtool.proofs.report.give_up.Goals as goal

pub returns-in-Unreadable-clause-told : goal.returns-in-Unreadable-clause-told
returns-in-Unreadable-clause-told g c read =
    given-up c.args.name.now read (codes "shform: cannot read " ++ c.as_bytes.result.now ++ codes "\n") c.args.error
    (g.E.Write.contents c.args.errors.now.writer) (g.E.Write.contents c.write_parts.new.errors.writer)
    (output_failed c.args.errors.now) (output_failed c.write_parts.new.errors) (not (is_ok c.write_parts.result))
    c.requires.sound c.write_parts.ensures.failed
    (ap (λ (n : List ℕ). codes "shform: cannot read " ++ n ++ codes "\n") c.as_bytes.ensures.value
    ∙ ap (text_of_error c.args.name.now) (sym c.in-Unreadable.is))
    c.write_parts.ensures.bytes

pub returns-in-TooLarge-clause-told : goal.returns-in-TooLarge-clause-told
returns-in-TooLarge-clause-told g c read =
    given-up c.args.name.now read
    (codes "shform: " ++ c.as_bytes-in-TooLarge.result.now ++ codes ": too large\n") c.args.error
    (g.E.Write.contents c.args.errors.now.writer) (g.E.Write.contents c.write_parts-in-TooLarge.new.errors.writer)
    (output_failed c.args.errors.now) (output_failed c.write_parts-in-TooLarge.new.errors)
    (not (is_ok c.write_parts-in-TooLarge.result))
    c.requires.sound c.write_parts-in-TooLarge.ensures.failed
    (ap (λ (n : List ℕ). codes "shform: " ++ n ++ codes ": too large\n") c.as_bytes-in-TooLarge.ensures.value
    ∙ ap (text_of_error c.args.name.now) (sym c.in-TooLarge.is))
    c.write_parts-in-TooLarge.ensures.bytes

pub returns-in-Memory-clause-told : goal.returns-in-Memory-clause-told
returns-in-Memory-clause-told g c read =
    given-up c.args.name.now read (codes "shform: out of memory\n") c.args.error
    (g.E.Write.contents c.args.errors.now.writer) (g.E.Write.contents c.write_flushed.new.output.writer)
    (output_failed c.args.errors.now) (output_failed c.write_flushed.new.output) (not (is_ok c.write_flushed.result))
    c.requires.sound c.write_flushed.ensures.failed
    (ap (text_of_error c.args.name.now) (sym c.in-Memory.is))
    c.write_flushed.ensures.bytes

pub returns-in-Unwritable-clause-told : goal.returns-in-Unwritable-clause-told
returns-in-Unwritable-clause-told g c read =
    given-up c.args.name.now read (codes "shform: cannot write\n") c.args.error
    (g.E.Write.contents c.args.errors.now.writer) (g.E.Write.contents c.write_flushed-in-Unwritable.new.output.writer)
    (output_failed c.args.errors.now) (output_failed c.write_flushed-in-Unwritable.new.output)
    (not (is_ok c.write_flushed-in-Unwritable.result))
    c.requires.sound c.write_flushed-in-Unwritable.ensures.failed
    (ap (text_of_error c.args.name.now) (sym c.in-Unwritable.is))
    c.write_flushed-in-Unwritable.ensures.bytes
