use Rattle.std.proofs.Common.{◌≡◌, ◌≤◌, ◌-◌, false, length}
use Rattle.shgrammar.specs.HereDocuments.{not_quoted, unquoted}
use Rattle.shgrammar.specs.Unquoting.{rest_of}
use Rattle.shgrammar.proofs.delimiter.unquoted.Given as goal

abbrev pub invariant-bytes : goal.invariant-bytes
invariant-bytes l = (rest_of l.so_far l.word l.at ≡ unquoted not_quoted false l.word) × (l.at ≤ length l.word)

abbrev pub decreases-bytes : goal.decreases-bytes
decreases-bytes l = length l.word - l.at
