use Rattle.std.proofs.Common.{◌≡◌, ◌≤◌, ◌-◌, length, take, drop}
use Rattle.shlive.specs.RequestKinds.{before, words}
use Rattle.shlive.proofs.request_kind.cut_word.Given as goal

abbrev pub invariant-bytes : goal.invariant-bytes
invariant-bytes l = (l.at ≤ length l.line) × (words l.line ≡ before (take l.at l.line) (words (drop l.at l.line)))

abbrev pub decreases-bytes : goal.decreases-bytes
decreases-bytes l = length l.line - l.at
