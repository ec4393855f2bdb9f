-- A script without a byte has no fault.
use Rattle.std.proofs.Common.{◌≡◌, ℕ, List, length, None, ap}
use Rattle.shgrammar.specs.declared.edition.Edition.{Edition}
use Rattle.shgrammar.specs.Scripts.{AScript, first_fault_from, script_at}
use Rattle.shgrammar.proofs.LineKinds.{nothing_read}

-- where no byte is given, there is no first fault
pub no_fault : (edition : Edition) (B : List ℕ) → length B ≡ 0 → first_fault_from edition B 0 ≡ None
unfolding first_fault_from script_at
no_fault edition B e = ap (λ (s : AScript). s.fault) (nothing_read edition B e)
