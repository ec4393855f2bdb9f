use Rattle.std.proofs.Common.{◌≡◌, ◌<◌, ◌≤◌, ◌^◌, length, drop}
use Rattle.shlive.specs.RequestKinds.{digits_from}
use Rattle.shlive.proofs.request_kind.number_of.Given as goal

abbrev pub invariant-loop-digit : goal.invariant-loop-digit
invariant-loop-digit l =
    (length l.word ≤ 10) × (l.value < 10 ^ l.digit-index)
    × (digits_from l.value (drop l.digit-index l.word) ≡ digits_from 0 l.word)
