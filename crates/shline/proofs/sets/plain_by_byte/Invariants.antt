use Rattle.std.proofs.Common.{◌≡◌, ℕ, ◌<◌, true, slice_index}
use Rattle.shgrammar.specs.Plain.{is_plain}
use Rattle.shline.proofs.sets.plain_by_byte.Given as goal

abbrev pub invariant-loop-count : goal.invariant-loop-count
invariant-loop-count l = (k : ℕ) → k < l.count → is_plain l.mode (slice_index l.run k) ≡ true
