-- Boundaries of a text, and of another that begins with the same bytes.
use Rattle.std.proofs.Common.{◌≡◌, ℕ, zero, suc, ◌+◌, ◌<◌, ◌≤◌, true, List, length, take, drop, sym, ap, subst, ◌∙◌, ⊎_elim, arith}
use Rattle.std.proofs.lemmas.Bool.{cases_order}
use Rattle.std.proofs.lemmas.List.{length-drop, drop-take, take-take}
use Rattle.shwindow.specs.declared.line.HeldLine.{HeldLine}
use Rattle.shwindow.specs.Lines.{Reads, IsBoundary, at_start, at_end_of}

-- two texts with the same first a bytes have the same n bytes from p on
pub same_part : (B U : List ℕ) (a p n : ℕ) → take a U ≡ take a B → p + n ≤ a → take n (drop p U) ≡ take n (drop p B)
same_part B U a p n same low =
    sym (drop-take p n U) ∙ ap (drop p)
    (sym (take-take (p + n) a U low) ∙ ap (take (p + n)) same ∙ take-take (p + n) a B low) ∙ drop-take p n B

module _ {K : Type 0} (Is : List ℕ → HeldLine K → Type 0) (laws : Reads Is) where
  -- a line that ended lies within the text
  line_within : (B : List ℕ) (p : ℕ) (l : HeldLine K) → p ≤ length B → Is (drop p B) l → l.ended ≡ true →
      p + l.len ≤ length B
  line_within B p l within is e = let high = laws.within (drop p B) l is e in omega (arith, high, length-drop p B)

  -- and so does each boundary
  pub boundary_within : (B : List ℕ) (s : ℕ) → IsBoundary Is B s → s ≤ length B
  boundary_within B _ at_start = omega arith
  boundary_within B _ (at_end_of {p = p} {l = l} at is e) = line_within B p l (boundary_within B p at) is e

  -- no boundary lies inside a line: the next one is after it, and only if it ended
  gap_by : (B : List ℕ) (n p s : ℕ) (l : HeldLine K) → p + s < n → IsBoundary Is B p → IsBoundary Is B s → p < s →
      Is (drop p B) l → (l.ended ≡ true) × (p + l.len ≤ s)
  gap_by B zero p s l low at_p at_s lt is = absurd (omega arith)
  gap_by B (suc n) p _ l low at_p at_start lt is = absurd (omega arith)
  gap_by B (suc n) p _ l low at_p (at_end_of {p = s} {l = m} at_s is_m e) lt is =
      let onward = laws.onward (drop s B) m is_m e in
      ⊎_elim (λ (same : p ≡ s).
      let one : l ≡ m = laws.only (drop s B) l m (subst (λ x. Is (drop x B) l) same is) is_m in
      subst (λ (x : HeldLine K). (x.ended ≡ true) × (p + x.len ≤ s + m.len)) (sym one) (e, omega arith))
      (λ o. ⊎_elim (λ (less : p < s). let r = gap_by B n p s l (omega arith) at_p at_s less is in
      (r.0, omega (arith, r.1)))
      (λ (more : s < p). let r = gap_by B n s p m (omega arith) at_s at_p more is_m in absurd (omega (arith, r.1))) o)
      (cases_order p s)

  -- the same, without a number that the two boundaries stay below
  pub gap : (B : List ℕ) (p s : ℕ) (l : HeldLine K) → IsBoundary Is B p → IsBoundary Is B s → p < s → Is (drop p B) l →
      (l.ended ≡ true) × (p + l.len ≤ s)
  gap B p s l = gap_by B (suc (p + s)) p s l (omega arith)

  -- ---- what stands before an edit stays

  module _ (B U : List ℕ) (a : ℕ) (same : take a U ≡ take a B) where
    -- a line that ended at or before a
    pub line_stays : (p : ℕ) (l : HeldLine K) → Is (drop p B) l → l.ended ≡ true → p + l.len ≤ a → Is (drop p U) l
    line_stays p l is e low = laws.alone (drop p B) (drop p U) l is e (same_part B U a p _ same low)

    -- a boundary not after a
    pub boundary_stays : (s : ℕ) → IsBoundary Is B s → s ≤ a → IsBoundary Is U s
    boundary_stays _ at_start low = at_start
    boundary_stays _ (at_end_of {p = p} {l = l} at is e) low =
        at_end_of (boundary_stays p at (omega arith)) (line_stays p l is e low) e
