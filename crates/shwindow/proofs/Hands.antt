-- Old lines that are passed.
use Rattle.std.proofs.Common.{◌≡◌, ℕ, ◌+◌, ◌<◌, ◌∷◌, List as Row, refl, arith}
use Rattle.shwindow.specs.declared.line.HeldLine.{HeldLine}
use Rattle.shwindow.specs.Lines.{extent}
use Rattle.shwindow.specs.Hand.{Passes, none_passed, one_passed}

module _ {K : Type 0} (o : ℕ) where
  -- one more
  pub passes_more : (p : ℕ) (hs : Row (HeldLine K)) (q : ℕ) (h : HeldLine K) (ks : Row (HeldLine K)) →
      Passes o p hs q (h ∷ ks) → q < o → Passes o p hs (q + h.len) ks
  passes_more p _ _ h ks none_passed lt = one_passed lt none_passed
  passes_more p _ q h ks (one_passed {h = g} {hs = hs} low rest) lt =
      one_passed low (passes_more (p + g.len) hs q h ks rest lt)

  -- they end where they ended
  pub passes_sum : (p : ℕ) (hs : Row (HeldLine K)) (q : ℕ) (ks : Row (HeldLine K)) → Passes o p hs q ks →
      p + extent hs ≡ q + extent ks
  unfolding extent
  passes_sum p hs _ _ none_passed = refl
  passes_sum p _ q ks (one_passed {h = g} {hs = hs} low rest) = let sum = passes_sum (p + g.len) hs q ks rest in
      omega (arith, sum)
