use Rattle.std.proofs.Common.{◌≡◌, ◌++◌, ◌-◌, drop, take}
use Rattle.shast.specs.Shape.{text_at}
use Rattle.shprint.proofs.printer.Printer.copy.Given as goal

abbrev pub invariant-runs : goal.invariant-runs
invariant-runs g l = l.text.items ++ take (l.span.end - l.at) (drop l.at (g.S.Source.bytes l.self.source.now))
    ≡ l.fn.text.items ++ text_at (g.S.Source.bytes l.self.source.now) l.span

abbrev pub decreases-runs : goal.decreases-runs
decreases-runs g l = l.span.end - l.at
