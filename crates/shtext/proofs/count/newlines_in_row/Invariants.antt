use Rattle.std.proofs.Common.{◌≡◌, ◌≤◌, count_by, take}
use Rattle.shsource.specs.Text.{is_newline}
use Rattle.shtext.proofs.count.newlines_in_row.Given as goal

abbrev pub invariant-bytes : goal.invariant-bytes
invariant-bytes l = (l.newlines ≡ count_by is_newline (take l.byte-index l.row)) × (l.newlines ≤ l.byte-index)
