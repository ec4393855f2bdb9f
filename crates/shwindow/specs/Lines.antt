-- Lines, as any reader of lines gives them, and the places where lines of a text begin.
use Rattle.std.specs.Prelude.{◌≡◌, ℕ, ◌+◌, ◌<◌, ◌≤◌, true, false, List, [], ◌∷◌, List as Row, drop, take, length}
use Rattle.shwindow.specs.declared.line.HeldLine.{HeldLine}

-- What a reader of lines keeps to. `Is T l` says that `l` is the line with which the text T begins.
pub record Reads {K : Type 0} (Is : List ℕ → HeldLine K → Type 0) : Type 0 where
  -- a text begins with one line
  pub only : (T : List ℕ) (l m : HeldLine K) → Is T l → Is T m → l ≡ m
  -- a line that ended has bytes, and they are bytes of the text
  pub onward : (T : List ℕ) (l : HeldLine K) → Is T l → l.ended ≡ true → 0 < l.len
  pub within : (T : List ℕ) (l : HeldLine K) → Is T l → l.ended ≡ true → l.len ≤ length T
  -- and is that of each text with the same bytes as far as it goes
  pub alone : (T U : List ℕ) (l : HeldLine K) → Is T l → l.ended ≡ true → take l.len U ≡ take l.len T → Is U l

-- a reader that is a function gives one line
abbrev pub IsLineOf : {K : Type 0} → (List ℕ → HeldLine K) → List ℕ → HeldLine K → Type 0
IsLineOf line T l = l ≡ line T

-- how many bytes lines have
unfoldable pub extent : {K : Type 0} → Row (HeldLine K) → ℕ
extent [] = 0
extent (h ∷ hs) = h.len + extent hs

module _ {K : Type 0} (Is : List ℕ → HeldLine K → Type 0) where
  -- The lines of a text: lines that ended, and then one that did not, which reaches the end and may be empty.
  pub data IsRow : List ℕ → Row (HeldLine K) → Type 0 where
    last_line : {T : List ℕ} {h : HeldLine K} → Is T h → h.ended ≡ false → h.len ≡ length T → IsRow T (h ∷ [])
    more_lines : {T : List ℕ} {h : HeldLine K} {hs : Row (HeldLine K)} → Is T h → h.ended ≡ true →
        IsRow (drop h.len T) hs → IsRow T (h ∷ hs)

  -- The boundaries of a text: 0, and the end of each line that begins at a boundary and ended.
  pub data IsBoundary (B : List ℕ) : ℕ → Type 0 where
    at_start : IsBoundary B 0
    at_end_of : {p : ℕ} {l : HeldLine K} → IsBoundary B p → Is (drop p B) l → l.ended ≡ true → IsBoundary B (p + l.len)
