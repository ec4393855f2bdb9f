-- Held lines, and what an edit makes of them.
use Rattle.std.specs.Prelude.{◌≡◌, ℕ, ◌+◌, ◌-◌, ◌<◌, ◌≤◌, ◌^◌, List, [], ◌∷◌, ◌++◌, List as Row, length}
use Rattle.shwindow.specs.Lines.{IsRow, extent}
use Rattle.shwindow.specs.Meter.{RoseWithin, risen}
use Rattle.shwindow.specs.Window.{Apart, IsWindow}
use Rattle.shwindow.specs.declared.line.HeldLine.{HeldLine}

-- a line of these begins at an offset that is not after another, and ends after that if it ended
pub record HasLineAt {K : Type 0} (hs : Row (HeldLine K)) (at : ℕ) (h : HeldLine K) (begin : ℕ) : Type 0 where
  pub before : Row (HeldLine K)
  pub after : Row (HeldLine K)
  pub row : hs ≡ before ++ h ∷ after
  pub begins : begin ≡ extent before
  pub low : begin ≤ at
  pub past : (after ≡ [] → ⊥) → at < begin + h.len

-- These are the lines of a text, of which an edit makes U: the bytes before a stay,
-- and those of U from e on are the old ones from b on.
pub record IsEdit {K : Type 0} (Is : List ℕ → HeldLine K → Type 0) (hs : Row (HeldLine K)) (U : List ℕ)
    (a e b : ℕ) : Type 0 where
  pub old : List ℕ
  pub row : IsRow Is old hs
  pub apart : Apart old U a e b
  pub small : length U < 2 ^ 64

-- a meter rose by the length of the window of an edit
abbrev pub RoseByWindow : {K : Type 0} (Is : List ℕ → HeldLine K → Type 0) (B U : List ℕ) (a e b before meter : ℕ) →
    Type 0
RoseByWindow Is B U a e b before meter = (w t : ℕ) × IsWindow Is B U a e b w t × (meter ≡ risen before (t - w))

-- or by no more
abbrev pub RoseWithinWindow : {K : Type 0} (Is : List ℕ → HeldLine K → Type 0) (B U : List ℕ) (a e b before meter : ℕ) →
    Type 0
RoseWithinWindow Is B U a e b before meter = (w t : ℕ) → IsWindow Is B U a e b w t → RoseWithin (t - w) before meter
