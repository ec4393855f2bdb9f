use Rattle.std.proofs.Common.{drop}
use Rattle.shgrammar.proofs.Answered.{line_alone, line_answered}
use Rattle.shgrammar.proofs.SameLine.{no_further, same_bytes}
use Rattle.shgrammar.proofs.NodesInLimit.{entries_within}
use Rattle.shgrammar.proofs.SpansInLimit.{everywhere_more, line_everywhere}
use Rattle.shread.proofs.reader.Reader.read_line.Goals as goal

pub returns-clause-only : goal.returns-clause-only
returns-clause-only g c = line_alone c.args.self.now.edition
    (drop c.args.at (g.S.Source.bytes c.args.source.now)) _ c.in_ok-line.ensures.value

pub returns-clause-same_bytes : goal.returns-clause-same_bytes
returns-clause-same_bytes g c =
    same_bytes c.args.self.now.edition (drop c.args.at (g.S.Source.bytes c.args.source.now)) _
    (line_answered c.args.self.now.edition _ _ c.in_ok-line.ensures.value)

pub returns-clause-no_further : goal.returns-clause-no_further
returns-clause-no_further g c =
    λ ended. no_further c.args.self.now.edition (drop c.args.at (g.S.Source.bytes c.args.source.now)) _
    (line_answered c.args.self.now.edition _ _ c.in_ok-line.ensures.value) ended

pub returns-clause-within : goal.returns-clause-within
returns-clause-within g c = entries_within c.args.self.now.edition
    (drop c.args.at (g.S.Source.bytes c.args.source.now)) _
    (line_answered c.args.self.now.edition _ _ c.in_ok-line.ensures.value)

pub returns-clause-everywhere : goal.returns-clause-everywhere
returns-clause-everywhere g c =
    λ limit le. everywhere_more _ limit _ le
    (line_everywhere c.args.self.now.edition (drop c.args.at (g.S.Source.bytes c.args.source.now)) _
    (line_answered c.args.self.now.edition _ _ c.in_ok-line.ensures.value))
