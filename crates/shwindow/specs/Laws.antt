-- What is proved of held lines, over any reader of lines.
use Rattle.std.specs.Prelude.{◌≡◌, ℕ, ◌+◌, ◌-◌, ◌≤◌, true, List, [], ◌∷◌, ◌++◌, List as Row, drop, length}
use Rattle.shwindow.specs.declared.line.HeldLine.{HeldLine}
use Rattle.shwindow.specs.Lines.{IsBoundary, IsRow, extent}
use Rattle.shtext.specs.Edit.{ASplice, AreInRange, Rise, edited, first_begin, last_end, new_end}
use Rattle.shwindow.specs.Window.{Apart, Begins, IsShared, IsWindow}
use Rattle.shwindow.specs.Blocks.{in_one_row}

module _ {K : Type 0} (Is : List ℕ → HeldLine K → Type 0) where
  -- a boundary not after the edit stays one, and a line that ended there before the edit stays the line
  abbrev pub BeforeStays : Type 0
  BeforeStays = (B U : List ℕ) (a e b s : ℕ) → Apart B U a e b → IsBoundary Is B s → s ≤ a
      → IsBoundary Is U s × ((l : HeldLine K) → Is (drop s B) l → l.ended ≡ true → s + l.len ≤ a → Is (drop s U) l)

  -- the lines from a shared boundary on are the old ones
  abbrev pub AfterStays : Type 0
  AfterStays = (B U : List ℕ) (a e b q : ℕ) → Apart B U a e b → IsShared Is B U e b q
      → (drop q U ≡ drop (b + (q - e)) B)
      × ((hs : Row (HeldLine K)) → IsRow Is (drop (b + (q - e)) B) hs → IsRow Is (drop q U) hs)

  -- the lines before the window are kept, whatever lines the new text has from there on
  abbrev pub FrontStays : Type 0
  FrontStays = (B U : List ℕ) (a e b w : ℕ) → Apart B U a e b → Begins Is B a w →
      (kept : Row (HeldLine K)) (h : HeldLine K) (hs : Row (HeldLine K)) → IsRow Is B (kept ++ h ∷ hs) → extent kept ≡ w
      → (ms : Row (HeldLine K)) → IsRow Is (drop w U) ms → IsRow Is U (kept ++ ms)

  -- a text has one row, with all its bytes
  abbrev pub OneRow : Type 0
  OneRow = (T : List ℕ) → ((hs ks : Row (HeldLine K)) → IsRow Is T hs → IsRow Is T ks → hs ≡ ks)
      × ((hs : Row (HeldLine K)) → IsRow Is T hs → extent hs ≡ length T)

  -- an edit has one window at most
  abbrev pub OneWindow : Type 0
  OneWindow = (B U : List ℕ) (a e b w v t u : ℕ) → IsWindow Is B U a e b w t → IsWindow Is B U a e b v u → (w ≡ v)
      × (t ≡ u)

  -- and it has one, whatever the places are, where each text begins with a line
  abbrev pub SomeWindow : Type 0
  SomeWindow = (B U : List ℕ) (a e b : ℕ) → (w t : ℕ) × IsWindow Is B U a e b w t

  -- it ends where it begins or after that
  abbrev pub WindowOrder : Type 0
  WindowOrder = (B U : List ℕ) (a e b w t : ℕ) → Apart B U a e b → IsWindow Is B U a e b w t → (w ≤ t) × (t ≤ length U)

  -- splices that rise are such an edit, from where the first begins to where the last ends
  abbrev pub Splices : Type 0
  Splices = (B : List ℕ) (ss : Row ASplice) → AreInRange (length B) ss → Rise ss
      → Apart B (edited B ss) (first_begin ss) (new_end ss) (last_end ss)

  -- in blocks, a line begins where the blocks before it end
  abbrev pub BlocksFind : Type 0
  BlocksFind = (T : List ℕ) (js : Row (Row (HeldLine K))) (k : Row (HeldLine K)) (ks : Row (Row (HeldLine K))) →
      (k ≡ [] → ⊥) → IsRow Is T (in_one_row (js ++ k ∷ ks))
      → IsBoundary Is T (extent (in_one_row js)) × IsRow Is (drop (extent (in_one_row js)) T) (in_one_row (k ∷ ks))
