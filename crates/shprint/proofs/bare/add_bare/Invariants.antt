use Rattle.std.proofs.Common.{◌≡◌, ◌++◌, ◌-◌, drop, take}
use Rattle.shast.specs.Shape.{bare, bare_at}
use Rattle.shprint.proofs.bare.add_bare.Given as goal

abbrev pub invariant-bytes : goal.invariant-bytes
invariant-bytes g l = l.text.items ++ bare (take (l.span.end - l.at) (drop l.at (g.S.Source.bytes l.source)))
    ≡ l.fn.text.items ++ bare_at (g.S.Source.bytes l.source) l.span

abbrev pub decreases-bytes : goal.decreases-bytes
decreases-bytes g l = l.span.end - l.at
