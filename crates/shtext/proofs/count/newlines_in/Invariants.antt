use Rattle.std.proofs.Common.{◌≡◌, ◌+◌, count_by, length}
use Rattle.shsource.specs.Text.{is_newline}
use Rattle.shtext.proofs.count.newlines_in.Given as goal

abbrev pub invariant-rows : goal.invariant-rows
invariant-rows l = l.newlines + count_by is_newline l.rest ≡ count_by is_newline l.bytes

abbrev pub decreases-rows : goal.decreases-rows
decreases-rows l = length l.rest
