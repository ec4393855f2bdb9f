-- An edit of a text, and its window: the bytes that have to be read again.
use Rattle.std.specs.Prelude.{◌≡◌, ℕ, ◌+◌, ◌-◌, ◌≤◌, List, drop, take, length}
use Rattle.shwindow.specs.declared.line.HeldLine.{HeldLine}
use Rattle.shwindow.specs.Lines.{IsBoundary}

-- U is B with other bytes between: those before a are the same, and those from e on are those from b on
pub record Apart (B U : List ℕ) (a e b : ℕ) : Type 0 where
  pub low : a ≤ e
  pub order : a ≤ b
  pub front : take a U ≡ take a B
  pub back : (d : ℕ) → drop (e + d) U ≡ drop (b + d) B

module _ {K : Type 0} (Is : List ℕ → HeldLine K → Type 0) (B : List ℕ) where
  -- the window begins at the greatest boundary not after a
  pub record Begins (a w : ℕ) : Type 0 where
    pub boundary : IsBoundary Is B w
    pub low : w ≤ a
    pub greatest : (s : ℕ) → IsBoundary Is B s → s ≤ a → s ≤ w

  module _ (U : List ℕ) (e b : ℕ) where
    -- a boundary of the new text, at or past the end of the new bytes, whose old place is a boundary too
    pub record IsShared (q : ℕ) : Type 0 where
      pub here : IsBoundary Is U q
      pub past : e ≤ q
      pub there : IsBoundary Is B (b + (q - e))

    -- The window ends at the least of these; where there is none, at the end of the new text.
    pub data Ends : ℕ → Type 0 where
      meets : {q : ℕ} → IsShared q → ((s : ℕ) → IsShared s → q ≤ s) → Ends q
      never : {q : ℕ} → q ≡ length U → ((s : ℕ) → IsShared s → ⊥) → Ends q

  -- the window of an edit, which makes U of B: from w up to t
  pub record IsWindow (U : List ℕ) (a e b w t : ℕ) : Type 0 where
    pub begins : Begins a w
    pub ends : Ends U e b t
