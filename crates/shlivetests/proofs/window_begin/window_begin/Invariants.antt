use Rattle.std.proofs.Common.{◌≡◌, ◌⊎◌, ◌<◌, ◌≤◌, ℕ, length, slice_index}
use Rattle.shlivetests.proofs.window_begin.window_begin.Given as goal

abbrev pub invariant-boundaries : goal.invariant-boundaries
invariant-boundaries l = record {
  one : (l.begin ≡ 0) ⊎ ((k : ℕ) × (k < length l.old) × (slice_index l.old k ≡ l.begin));
  low : l.begin ≤ l.a;
  greatest : (k : ℕ) → k < l.place-index → slice_index l.old k ≤ l.a → slice_index l.old k ≤ l.begin;
}
