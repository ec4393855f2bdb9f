-- Where a line ends, in a text and in its source.
use Rattle.std.proofs.Common.{◌≡◌, ◌⊎◌, ℕ, ◌+◌, ◌-◌, ◌≤◌, Bool, true, false, List, length, drop, inl, inr, ⊎_elim}
use Rattle.shgrammar.specs.Characters.{newline_char}
use Rattle.shgrammar.specs.Standing.{raw_stands}
use Rattle.shgrammar.proofs.Places.{end_is}
use Rattle.shline.specs.Clauses.{Ended}

-- after a newline, or with its source
pub newline_there : (B : List ℕ) (at q : ℕ) (newline : Bool) → at ≤ length B → q ≤ length (drop at B) →
    Ended (drop at B) q newline → newline ≡ true
    → (raw_stands (drop at B) (q - 1) newline_char ≡ true) ⊎ (at + q ≡ length B)
newline_there B at q true low high ended is = ⊎_elim (λ x. inl x) (λ x. inr (end_is B at q low high x)) ended
newline_there B at q false low high ended is = absurd cc

-- with its source, where no newline ends it
pub whole_there : (B : List ℕ) (at q : ℕ) (newline : Bool) → at ≤ length B → q ≤ length (drop at B) →
    Ended (drop at B) q newline → newline ≡ false → at + q ≡ length B
whole_there B at q true low high ended is = absurd cc
whole_there B at q false low high ended is = end_is B at q low high ended
