use Rattle.std.proofs.Common.{◌≡◌, ◌-◌, length}
use Rattle.shgrammar.specs.Bytes.{past_continuations}
use Rattle.shgrammar.proofs.delimiter.byte_at.Given as goal

abbrev pub invariant-continuations : goal.invariant-continuations
invariant-continuations l = past_continuations l.word l.from ≡ past_continuations l.word l.at

abbrev pub decreases-continuations : goal.decreases-continuations
decreases-continuations l = length l.word - l.at
