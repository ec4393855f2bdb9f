use Rattle.std.proofs.Common.{◌∙◌}
use Rattle.shtext.specs.Chunks.{joined}
use Rattle.shtext.proofs.Starts.{column_at, start_low}
use Rattle.shtext.proofs.buffer.Buffer.line_col.Goals as goal

pub overflow_sub-result : goal.overflow_sub-result
overflow_sub-result c =
    let is = c.in-Some.ensures in
    start_low (joined c.args.self.now.chunks.items) c.in-Some.start c.args.at is.0 is.2 (is.1 ∙ c.line-line.ensures)

pub returns-in-Some-clause-column : goal.returns-in-Some-clause-column
returns-in-Some-clause-column c =
    let is = c.in-Some.ensures in
    column_at (joined c.args.self.now.chunks.items) c.in-Some.start c.args.at c.requires is.2
    (is.1 ∙ c.line-line.ensures) (overflow_sub-result c)
