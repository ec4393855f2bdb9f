use Rattle.std.proofs.Common.{◌+◌, ◌-◌, List, ℕ, length}
use Rattle.shlive.specs.Ahead.{IsReady, TakesBytes, ahead_of, too_many}
use Rattle.shlive.specs.Lines.{IsInLine, KeepsText}
use Rattle.shlive.proofs.lines.take_line.Given as goal

abbrev pub invariant-bytes : goal.invariant-bytes
invariant-bytes g l =
    IsReady l.input l.incoming
    × ((text : List ℕ) × IsInLine text × KeepsText l.line text
    × TakesBytes (ahead_of g.R.Read.remaining l.fn.input l.fn.incoming)
    (ahead_of g.R.Read.remaining l.input l.incoming) text)

abbrev pub decreases-bytes : goal.decreases-bytes
decreases-bytes g l = too_many + length l.incoming.bytes - l.incoming.count
