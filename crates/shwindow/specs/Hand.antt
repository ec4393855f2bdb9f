-- The old lines in hand while a window is read.
use Rattle.std.specs.Prelude.{ℕ, ◌+◌, ◌<◌, ◌∷◌, List as Row}
use Rattle.shwindow.specs.declared.line.HeldLine.{HeldLine}

-- lines that begin before o are passed: from those that begin at p to those that begin at q
pub data Passes {K : Type 0} (o : ℕ) : ℕ → Row (HeldLine K) → ℕ → Row (HeldLine K) → Type 0 where
  none_passed : {p : ℕ} {hs : Row (HeldLine K)} → Passes o p hs p hs
  one_passed : {p q : ℕ} {h : HeldLine K} {hs ks : Row (HeldLine K)} → p < o → Passes o (p + h.len) hs q ks →
      Passes o p (h ∷ hs) q ks
