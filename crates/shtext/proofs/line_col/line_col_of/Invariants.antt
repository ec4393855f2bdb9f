use Rattle.std.proofs.Common.{◌≡◌, ◌≤◌, ◌+◌, ◌-◌, take}
use Rattle.shsource.specs.Text.{line_of, since_newline}
use Rattle.shtext.proofs.line_col.line_col_of.Given as goal

abbrev pub invariant-runs : goal.invariant-runs
invariant-runs g l = record {
  order : l.start ≤ l.from;
  within : l.from ≤ l.at;
  line : l.line ≡ line_of (g.S.Source.bytes l.source) l.from;
  since : l.start + since_newline (take l.from (g.S.Source.bytes l.source)) ≡ l.from;
  few : l.line ≤ l.from + 1;
}

abbrev pub decreases-runs : goal.decreases-runs
decreases-runs g l = l.at - l.from
