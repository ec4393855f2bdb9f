use Rattle.std.proofs.Common.{◌≡◌, ◌-◌, ◌≤◌, count_by, length, take}
use Rattle.shsource.specs.Text.{is_newline}
use Rattle.shtext.proofs.buffer_lines.after_newline.Given as goal

abbrev pub invariant-bytes : goal.invariant-bytes
invariant-bytes l = record {
  within : l.at ≤ length l.bytes;
  passed : l.passed ≡ count_by is_newline (take l.at l.bytes);
  few : l.passed ≤ l.count;
}

abbrev pub decreases-bytes : goal.decreases-bytes
decreases-bytes l = length l.bytes - l.at
