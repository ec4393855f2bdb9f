-- The stretch in which a cursor stands, which begins at a place of its text.
use Rattle.std.proofs.Common.{◌≡◌, ℕ, ◌+◌, ◌<◌, ◌≤◌, List, length, drop, subst, arith}
use Rattle.shsource.specs.Text.{IsRun}
use Rattle.shgrammar.proofs.Runs.{front_run}

-- what stands in it from one of its bytes on
pub front_run_on : (B : List ℕ) (base begin at : ℕ) (front : List ℕ) → IsRun B (base + begin) front →
    base + begin ≤ length B → at < length front → IsRun B (base + (begin + at)) (drop at front)
front_run_on B base begin at front is low lt =
    let there : base + begin + at ≡ base + (begin + at) = omega arith in
    subst (λ (k : ℕ). IsRun B k (drop at front)) there (front_run B (base + begin) at front is low lt)
