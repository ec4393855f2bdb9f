-- Each edit has a window, where each text begins with a line.
use Rattle.std.proofs.Common.{◌≡◌, ℕ, zero, suc, ◌+◌, ◌-◌, ◌<◌, ◌≤◌, ◌⊎◌, Bool, true, false, List, length, drop, inl, inr, refl, subst, ⊎_elim, arith}
use Rattle.std.proofs.lemmas.Bool.{both_ways, cases_eq, cases_lt}
use Rattle.std.proofs.lemmas.List.{length-drop}
use Rattle.shwindow.specs.declared.line.HeldLine.{HeldLine}
use Rattle.shwindow.specs.Lines.{Reads, IsBoundary, at_start, at_end_of}
use Rattle.shwindow.specs.Window.{Begins, IsShared, Ends, meets, never, IsWindow}
use Rattle.shwindow.proofs.Boundaries.{gap}

module _ {K : Type 0} (Is : List ℕ → HeldLine K → Type 0) (laws : Reads Is) where
  -- the lines of a text from a place on, down to the first that did not end
  data Walk (B : List ℕ) : ℕ → Type 0 where
    stops : {p : ℕ} (l : HeldLine K) → Is (drop p B) l → l.ended ≡ false → Walk B p
    goes : {p : ℕ} (l : HeldLine K) → Is (drop p B) l → l.ended ≡ true → Walk B (p + l.len) → Walk B p

  module _ (some : (T : List ℕ) → (l : HeldLine K) × Is T l) (B : List ℕ) where
    -- a line that ended leaves less of the text
    walk_by : (p : ℕ) (l : HeldLine K) (ended : Bool) → l.ended ≡ ended → Is (drop p B) l
        → ((q : ℕ) → length B - q < length B - p → Walk B q) → Walk B p
    walk_by p l true ended is on =
        let onward = laws.onward (drop p B) l is ended in
        let within = laws.within (drop p B) l is ended in
        goes l is ended (on (p + l.len) (omega (arith, onward, within, length-drop p B)))
    walk_by p l false not_ended is on = stops l is not_ended

    -- so there is a walk from a place with fewer than n bytes after it, and one over the whole text
    walk_below : (n p : ℕ) → length B - p < n → Walk B p
    walk_below zero p low = absurd (omega arith)
    walk_below (suc n) p low =
        let one = some (drop p B) in
        walk_by p one.0 one.0.ended refl one.1 (λ q less. walk_below n q (omega (arith, less, low)))

    walk : Walk B 0
    walk = walk_below (suc (length B)) 0 (omega arith)

  module _ (B : List ℕ) where
    -- after the start of a line the next boundary is its end, and there is none if it did not end
    none_after : (p s : ℕ) (l : HeldLine K) → IsBoundary Is B p → IsBoundary Is B s → Is (drop p B) l
        → l.ended ≡ false → s ≤ p
    none_after p s l at there is not_ended =
        ⊎_elim
        (λ (more : p < s). absurd (both_ways l.ended not_ended (gap Is laws B p s l at there more is).0))
        (λ low. low) (cases_lt p s)

    next_after : (p s : ℕ) (l : HeldLine K) → IsBoundary Is B p → IsBoundary Is B s → Is (drop p B) l
        → (s ≤ p) ⊎ (p + l.len ≤ s)
    next_after p s l at there is =
        ⊎_elim (λ (more : p < s). inr (gap Is laws B p s l at there more is).1)
        (λ low. inl low) (cases_lt p s)

    -- the greatest boundary not after a
    greatest_from : (a p : ℕ) → Walk B p → IsBoundary Is B p → p ≤ a → (w : ℕ) × Begins Is B a w
    greatest_from a p (stops l is not_ended) at low = (
      p,
      record {
        boundary = at;
        low = low;
        greatest = λ s there up_to. none_after p s l at there is not_ended;
      },
    )
    greatest_from a p (goes l is ended rest) at low =
        ⊎_elim
        (λ (past : a < p + l.len). (
          p,
          record {
            boundary = at;
            low = low;
            greatest = λ s there up_to.
                ⊎_elim (λ (here : s ≤ p). here)
                (λ (on : p + l.len ≤ s). absurd (omega arith)) (next_after p s l at there is);
          },
        ))
        (λ (on : p + l.len ≤ a). greatest_from a (p + l.len) rest (at_end_of at is ended) on)
        (cases_lt a (p + l.len))

    module _ (whole : Walk B 0) where
      -- there is one for each a
      greatest : (a : ℕ) → (w : ℕ) × Begins Is B a w
      greatest a = greatest_from a 0 whole at_start (omega arith)

      -- a place is a boundary, if the greatest one not after it is there
      is_boundary : (s : ℕ) → IsBoundary Is B s ⊎ (IsBoundary Is B s → ⊥)
      is_boundary s =
          let one = greatest s in
          let low = one.1.low in
          ⊎_elim (λ (same : one.0 ≡ s). inl (subst (IsBoundary Is B) same one.1.boundary))
          (λ (other : one.0 ≡ s → ⊥). inr (λ at.
          let high = one.1.greatest s at (omega arith) in
          other (omega arith)))
          (cases_eq one.0 s)

  module _ (B U : List ℕ) (e b : ℕ) (old : Walk B 0) where
    -- a boundary of the new text is shared or not
    is_shared : (q : ℕ) → IsBoundary Is U q → IsShared Is B U e b q ⊎ (IsShared Is B U e b q → ⊥)
    is_shared q here =
        ⊎_elim (λ (before : q < e). inr (λ m. let past = m.past in omega arith))
        (λ (past : e ≤ q). ⊎_elim
        (λ (there : IsBoundary Is B (b + (q - e))). inl (record { here = here; past = past; there = there }))
        (λ (none : IsBoundary Is B (b + (q - e)) → ⊥). inr (λ m. none m.there))
        (is_boundary B old (b + (q - e))))
        (cases_lt q e)

    -- where p is none, and none is before p, each is after p
    each_after : (p s : ℕ) → (IsShared Is B U e b p → ⊥) → IsShared Is B U e b s → p ≤ s → p < s
    each_after p s none m low =
        ⊎_elim (λ (less : p < s). less)
        (λ (high : s ≤ p).
        let same : s ≡ p = omega arith in
        absurd (none (subst (IsShared Is B U e b) same m)))
        (cases_lt p s)

    -- the least of them, where none is before p
    ends_from : (p : ℕ) → Walk U p → IsBoundary Is U p → ((s : ℕ) → IsShared Is B U e b s → p ≤ s)
        → (t : ℕ) × Ends Is B U e b t
    ends_from p (stops l is not_ended) at least =
        ⊎_elim (λ (m : IsShared Is B U e b p). (p, meets m least))
        (λ (none : IsShared Is B U e b p → ⊥). (
          length U,
          never refl
              (λ s m. let low = each_after p s none m (least s m) in
              let high = none_after U p s l at m.here is not_ended in
              omega arith),
        ))
        (is_shared p at)
    ends_from p (goes l is ended rest) at least =
        ⊎_elim (λ (m : IsShared Is B U e b p). (p, meets m least))
        (λ (none : IsShared Is B U e b p → ⊥). ends_from (p + l.len) rest (at_end_of at is ended)
        (λ s m. (gap Is laws U p s l at m.here (each_after p s none m (least s m)) is).1))
        (is_shared p at)

  -- each edit has a window, where each text begins with a line
  pub some_window : ((T : List ℕ) → (l : HeldLine K) × Is T l) → (B U : List ℕ) (a e b : ℕ)
      → (w t : ℕ) × IsWindow Is B U a e b w t
  some_window some B U a e b =
      let old = walk some B in
      let begins = greatest B old a in
      let ends = ends_from B U e b old 0 (walk some U) at_start (λ s m. omega arith) in
      (begins.0, ends.0, record { begins = begins.1; ends = ends.1 })
