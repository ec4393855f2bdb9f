-- The window of an edit: one, and what stays around it.
use Rattle.std.proofs.Common.{◌≡◌, ℕ, ◌+◌, ◌-◌, ◌≤◌, List, [], ◌∷◌, ◌++◌, List as Row, length, drop, sym, ap, subst, ◌∙◌, arith}
use Rattle.std.proofs.lemmas.List.{drop-drop}
use Rattle.shwindow.specs.declared.line.HeldLine.{HeldLine}
use Rattle.shwindow.specs.Lines.{Reads, extent, IsRow, more_lines}
use Rattle.shwindow.specs.Window.{Apart, Begins, IsShared, Ends, meets, never, IsWindow}
use Rattle.shwindow.proofs.Boundaries.{boundary_within, line_stays}
use Rattle.shwindow.proofs.Rows.{row_head, row_rest, row_ended}

module _ {K : Type 0} (Is : List ℕ → HeldLine K → Type 0) (B U : List ℕ) (a e b : ℕ) where
  -- it has one beginning
  pub begins_only : (w v : ℕ) → Begins Is B a w → Begins Is B a v → w ≡ v
  begins_only w v x y =
      let p = x.greatest v y.boundary y.low in
      let q = y.greatest w x.boundary x.low in
      omega arith

  -- and one end
  pub ends_only : (t u : ℕ) → Ends Is B U e b t → Ends Is B U e b u → t ≡ u
  ends_only t u (meets m least) (meets n least') = let l = least u n in let k = least' t m in omega arith
  ends_only t u (meets m least) (never is none) = absurd (none t m)
  ends_only t u (never is none) (meets m least) = absurd (none u m)
  ends_only t u (never is none) (never is' none') = is ∙ sym is'

  -- the window has one beginning and one end
  pub window_only : (w v t u : ℕ) → IsWindow Is B U a e b w t → IsWindow Is B U a e b v u → (w ≡ v) × (t ≡ u)
  window_only w v t u x y = (begins_only w v x.begins y.begins, ends_only t u x.ends y.ends)

module _ {K : Type 0} (Is : List ℕ → HeldLine K → Type 0) (laws : Reads Is) (B U : List ℕ) (a e b : ℕ)
    (apart : Apart B U a e b) where
  -- its end is not before its beginning, and within the text
  begins_low : (w : ℕ) → Begins Is B a w → w ≤ length U
  begins_low w x = boundary_within Is laws U w
      (Rattle.shwindow.proofs.Boundaries.boundary_stays Is laws B U a apart.front w x.boundary x.low)

  ends_high : (w t : ℕ) → Begins Is B a w → Ends Is B U e b t → (w ≤ t) × (t ≤ length U)
  ends_high w t x (meets m least) =
      let low = x.low in let order = apart.low in let past = m.past in
      (omega arith, boundary_within Is laws U t m.here)
  ends_high w t x (never is none) = let low = begins_low w x in (omega arith, omega arith)

  pub window_order : (w t : ℕ) → IsWindow Is B U a e b w t → (w ≤ t) × (t ≤ length U)
  window_order w t x = ends_high w t x.begins x.ends

  -- after a shared boundary the texts are the same
  pub shared_text : (q : ℕ) → IsShared Is B U e b q → drop q U ≡ drop (b + (q - e)) B
  shared_text q m =
      let past = m.past in
      let here : q ≡ e + (q - e) = omega arith in
      ap (λ x. drop x U) here ∙ apart.back (q - e)

  -- so the lines after it are the old ones
  pub shared_rows : (q : ℕ) (hs : Row (HeldLine K)) → IsShared Is B U e b q → IsRow Is (drop (b + (q - e)) B) hs →
      IsRow Is (drop q U) hs
  shared_rows q hs m row = subst (λ T. IsRow Is T hs) (sym (shared_text q m)) row

  -- lines that end at or before a lead to what the new text has after them
  pub front_stays : (p : ℕ) (kept : Row (HeldLine K)) (h : HeldLine K) (hs ms : Row (HeldLine K)) →
      IsRow Is (drop p B) (kept ++ h ∷ hs) → p + extent kept ≤ a → IsRow Is (drop (p + extent kept) U) ms
      → IsRow Is (drop p U) (kept ++ ms)
  unfolding extent
  front_stays p [] h hs ms row low rows = let same : p + 0 ≡ p = omega arith in
      subst (λ x. IsRow Is (drop x U) ms) same rows
  front_stays p (x ∷ xs) h hs ms row low rows =
      let is = row_head Is _ x (xs ++ h ∷ hs) row in
      let ended = row_ended Is _ x xs h hs row in
      let there = line_stays Is laws B U a apart.front p x is ended (omega arith) in
      let sum : p + (x.len + extent xs) ≡ (p + x.len) + extent xs = omega arith in
      let row_after = subst (λ T. IsRow Is T (xs ++ h ∷ hs)) (drop-drop x.len p B)
      (row_rest Is _ x (xs ++ h ∷ hs) row ended) in
      let rest = front_stays (p + x.len) xs h hs ms row_after (omega arith)
      (subst (λ z. IsRow Is (drop z U) ms) sum rows) in
      more_lines there ended (subst (λ T. IsRow Is T (xs ++ ms)) (sym (drop-drop x.len p U)) rest)
