use Rattle.std.proofs.Common.{◌≡◌, ◌-◌, ◌≤◌, length}
use Rattle.shgrammar.specs.Standing.{next_such}
use Rattle.shline.specs.Sought.{is_sought}
use Rattle.shline.proofs.search.find_in.Given as goal

abbrev pub invariant-runs : goal.invariant-runs
invariant-runs g l =
    (next_such (is_sought l.sought) (g.S.Source.bytes l.source) l.at
    ≡ next_such (is_sought l.sought) (g.S.Source.bytes l.source) l.from)
    × (l.from ≤ l.at) × (l.at ≤ length (g.S.Source.bytes l.source))

abbrev pub decreases-runs : goal.decreases-runs
decreases-runs g l = l.end - l.at
