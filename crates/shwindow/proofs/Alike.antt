-- Two readers that have the same lines that ended: then they have the same boundaries and windows.
use Rattle.std.proofs.Common.{◌≡◌, ℕ, true, List}
use Rattle.shwindow.specs.declared.line.HeldLine.{HeldLine}
use Rattle.shwindow.specs.Lines.{IsBoundary, at_start, at_end_of}
use Rattle.shwindow.specs.Window.{Begins, Ends, IsShared, IsWindow, meets, never}

module _ {K : Type 0} where
  -- each line that ended of the one reader is a line of the other
  abbrev pub HasEnded : (Is Js : List ℕ → HeldLine K → Type 0) → Type 0
  HasEnded Is Js = (T : List ℕ) (l : HeldLine K) → Is T l → l.ended ≡ true → Js T l

  -- so each boundary of the one is a boundary of the other
  pub same_boundary : (Is Js : List ℕ → HeldLine K → Type 0) → HasEnded Is Js → (B : List ℕ) (p : ℕ) → IsBoundary Is B p
      → IsBoundary Js B p
  same_boundary Is Js to B _ at_start = at_start
  same_boundary Is Js to B _ (at_end_of {p = p} {l = l} so is ended) =
      at_end_of (same_boundary Is Js to B p so) (to _ l is ended) ended

  module _ (Is Js : List ℕ → HeldLine K → Type 0) (to : HasEnded Is Js) (back : HasEnded Js Is) (B U : List ℕ) where
    -- with the same lines that ended, a window begins for the other where it does for the one
    same_begins : (a w : ℕ) → Begins Is B a w → Begins Js B a w
    same_begins a w is = record {
      boundary = same_boundary Is Js to B w is.boundary;
      low = is.low;
      greatest = λ s at le. is.greatest s (same_boundary Js Is back B s at) le;
    }

    module _ (e b : ℕ) where
      -- a boundary that is shared for the one is shared for the other, and back
      to_shared : (q : ℕ) → IsShared Is B U e b q → IsShared Js B U e b q
      to_shared q is = record {
        here = same_boundary Is Js to U q is.here;
        past = is.past;
        there = same_boundary Is Js to B _ is.there;
      }

      back_shared : (q : ℕ) → IsShared Js B U e b q → IsShared Is B U e b q
      back_shared q is = record {
        here = same_boundary Js Is back U q is.here;
        past = is.past;
        there = same_boundary Js Is back B _ is.there;
      }

      -- so a window ends for the other where it does for the one
      same_ends : (t : ℕ) → Ends Is B U e b t → Ends Js B U e b t
      same_ends t (meets is least) = meets (to_shared t is) (λ s at. least s (back_shared s at))
      same_ends t (never whole none) = never whole (λ s at. none s (back_shared s at))

    -- and each window of the one is a window of the other
    pub same_window : (a e b w t : ℕ) → IsWindow Is B U a e b w t → IsWindow Js B U a e b w t
    same_window a e b w t is = record { begins = same_begins a w is.begins; ends = same_ends e b t is.ends }
