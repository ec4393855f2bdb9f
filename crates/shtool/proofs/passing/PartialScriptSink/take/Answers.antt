use Rattle.std.proofs.Common.{◌++◌}
use Rattle.shtool.proofs.Parts.{holds_more}
use Rattle.shtool.proofs.passing.PartialScriptSink.take.Goals as goal

pub returns : goal.returns
returns c = λ edition read is.
    let bytes = c.args.bytes.now in
    c.in_ok-pass_lines.ensures edition (read ++ bytes)
    (holds_more edition read bytes c.args.self.now _ is
    (c.in_ok-add.ensures.held read is.held) c.in_ok-add.ensures.passed c.in_ok-add.ensures.edition)
