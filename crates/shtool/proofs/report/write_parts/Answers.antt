use Rattle.std.proofs.Common.{◌++◌, not, is_ok, true, refl}
use Rattle.std.proofs.lemmas.Result.{err_from_is_err_and}
use Rattle.shtext.proofs.Known.{Appends-trans, Writes-early, Writes-after}
use Rattle.shtool.proofs.report.write_parts.Goals as goal

pub returns-in_err-write_whole-clause-bytes : goal.returns-in_err-write_whole-clause-bytes
returns-in_err-write_whole-clause-bytes g c =
    let told = g.E.Write.contents in
    let p = err_from_is_err_and c.from_residual.result c.from_residual.ensures.1 in
    rw p.1 (
    Writes-early (told c.args.errors.now.writer) (told c.write_whole.new.self.writer)
    (c.args.before.now ++ c.args.name.now) c.args.after.now
    (Writes-early (told c.args.errors.now.writer)
    (told c.write_whole.new.self.writer) c.args.before.now c.args.name.now c.in_err-write_whole.ensures.bytes)
    )

pub returns-in_err-write_whole-2-clause-bytes : goal.returns-in_err-write_whole-2-clause-bytes
returns-in_err-write_whole-2-clause-bytes g c =
    let told = g.E.Write.contents in
    let p = err_from_is_err_and c.from_residual-in_err-write_whole-2.result
    c.from_residual-in_err-write_whole-2.ensures.1 in
    rw p.1 (
    Writes-early (told c.args.errors.now.writer) (told c.write_whole-2.new.self.writer)
    (c.args.before.now ++ c.args.name.now) c.args.after.now
    (Writes-after (told c.args.errors.now.writer) (told c.write_whole.new.self.writer)
    (told c.write_whole-2.new.self.writer) true c.args.before.now c.args.name.now
    c.in_ok-write_whole.ensures.bytes c.in_err-write_whole-2.ensures.bytes)
    )

pub returns-clause-bytes : goal.returns-clause-bytes
returns-clause-bytes g c =
    let told = g.E.Write.contents in
    let front = Appends-trans (told c.args.errors.now.writer) (told c.write_whole.new.self.writer)
    (told c.write_whole-2.new.self.writer) c.args.before.now c.args.name.now _
    c.in_ok-write_whole.ensures.bytes c.in_ok-write_whole-2.ensures.bytes refl in
    Writes-after (told c.args.errors.now.writer) (told c.write_whole-2.new.self.writer)
    (told c.write_flushed.new.output.writer) (not (is_ok c.write_flushed.result))
    (c.args.before.now ++ c.args.name.now) c.args.after.now front c.write_flushed.ensures.bytes
