use Rattle.std.proofs.Common.{not, is_ok}
use Rattle.shtext.proofs.Known.{Writes-flushed}
use Rattle.shtool.proofs.report.write_flushed.Goals as goal

pub returns-clause-bytes : goal.returns-clause-bytes
returns-clause-bytes g c =
    let told = g.W.Write.contents in
    Writes-flushed (told c.args.output.now.writer) (told c.write_whole.new.self.writer) (told c.flush.new.self.writer)
    (not (is_ok c.flush.result)) c.args.text.now
    c.in_ok-write_whole.ensures.bytes c.flush.ensures.bytes
