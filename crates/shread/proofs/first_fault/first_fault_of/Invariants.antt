use Rattle.std.proofs.Common.{◌≡◌, ◌≤◌, ◌-◌, length}
use Rattle.shgrammar.specs.Scripts.{first_fault_from}
use Rattle.shread.proofs.first_fault.first_fault_of.Given as goal

abbrev pub invariant-lines : goal.invariant-lines
invariant-lines g l =
    let bytes = g.S.Source.bytes l.source in
    (first_fault_from l.edition bytes l.at ≡ first_fault_from l.edition bytes 0) × (l.at ≤ length bytes)

abbrev pub decreases-lines : goal.decreases-lines
decreases-lines g l = length (g.S.Source.bytes l.source) - l.at
