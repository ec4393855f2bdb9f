use Rattle.std.proofs.Common.{◌≡◌, ◌+◌, ◌-◌, ◌<◌, ◌≤◌, ℕ, get_or}
use Rattle.shtext.proofs.sums.move_sums.Given as goal

abbrev pub invariant-sums : goal.invariant-sums
invariant-sums l = record {
  moved : (n : ℕ) → n < l.sum-index → get_or l.sums n 0 ≡ get_or l.fn.sums n 0 - l.went + l.came;
  stay : (n : ℕ) → l.sum-index ≤ n → get_or l.sums n 0 ≡ get_or l.fn.sums n 0;
}
