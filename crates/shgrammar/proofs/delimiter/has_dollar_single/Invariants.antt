use Rattle.std.proofs.Common.{◌≡◌, ◌≤◌, ◌-◌, false, length, drop}
use Rattle.shgrammar.specs.HereDocuments.{has_dollar_single, not_quoted}
use Rattle.shgrammar.specs.Unquoting.{view_quoting}
use Rattle.shgrammar.proofs.delimiter.has_dollar_single.Given as goal

abbrev pub invariant-bytes : goal.invariant-bytes
invariant-bytes l =
    (has_dollar_single (view_quoting l.quoting) l.second (drop l.at l.word) ≡ has_dollar_single not_quoted false l.word)
    × (l.at ≤ length l.word)

abbrev pub decreases-bytes : goal.decreases-bytes
decreases-bytes l = length l.word - l.at
