-- The reading of a window: what is kept from line to line.
use Rattle.std.proofs.Common.{Result, Ok, Err, OnErr, Bor, ◌≡◌, ℕ, ◌+◌, ◌-◌, ◌<◌, ◌≤◌, true, false, List, [], ◌∷◌, ◌++◌, List as Row, length, drop, sym, ap, subst, ◌∙◌, refl, arith, append_assoc}
use Rattle.std.proofs.lemmas.List.{drop-drop, length-drop}
use Rattle.shwindow.specs.declared.line.HeldLine.{HeldLine}
use Rattle.shwindow.specs.declared.blocks.Blocks.{Blocks}
use Rattle.shwindow.specs.declared.lines.Lines.{Lines}
use Rattle.shwindow.specs.declared.place.BlockPlace.{BlockPlace}
use Rattle.shwindow.specs.Blocks.{lines_from}
use Rattle.shwindow.specs.Hand.{Passes}
use Rattle.shwindow.specs.Lines.{Reads, extent, IsRow, last_line, more_lines}
use Rattle.shwindow.specs.Meter.{RoseWithin, risen}
use Rattle.shwindow.specs.Reading.{IsBegun}
use Rattle.shwindow.specs.Window.{Ends}
use Rattle.shwindow.proofs.Boundaries.{boundary_within}
use Rattle.shwindow.proofs.Hands.{passes_sum}
use Rattle.shwindow.proofs.Rows.{extent_none, extent_push, row_extent}
use Rattle.shwindow.proofs.Steps.{Going, NotMet, Past, going_last, going_low, going_met, going_on, going_passed, going_start, old_place_bound, place_fits}

-- what is so in any case is so of a result that failed
pub on_err : {T E P : Type 0} (r : Result T E) → P → OnErr r P
on_err (Ok x) p = tt
on_err (Err e) p = p

-- a row with one element more is not empty
pub push_some : {X : Type 0} (xs : Row X) (x : X) → xs ++ x ∷ [] ≡ [] → ⊥
push_some [] x none = cc
push_some (y ∷ ys) x none = cc

-- a walk over the same lines
pub same_from : {K : Type 0} (o n : Lines K) (p : BlockPlace) → n.blocks ≡ o.blocks →
    lines_from n.blocks.now.blocks.items p ≡ lines_from o.blocks.now.blocks.items p
same_from {K = K} o n p blocks = ap (λ (x : Bor (Blocks K)). lines_from x.now.blocks.items p) blocks

-- the same, with the last line after them
pub same_left : {K : Type 0} (o n : Lines K) (p : BlockPlace) → n.blocks ≡ o.blocks → n.last ≡ o.last
    → lines_from n.blocks.now.blocks.items p ++ n.last.now ∷ [] ≡ lines_from o.blocks.now.blocks.items p ++ o.last.now
    ∷ []
same_left {K = K} o n p blocks last = ap (λ (x : Row (HeldLine K)). x ++ n.last.now ∷ []) (same_from o n p blocks)
    ∙ ap (λ (x : Bor (HeldLine K)). lines_from o.blocks.now.blocks.items p ++ x.now ∷ []) last

-- ---- meters

-- after no byte a meter is what it was
pub risen_none : (m : ℕ) → risen m 0 ≡ m
risen_none m = omega arith

-- after some bytes and then others it is what it is after all of them
pub risen_more : (m k n : ℕ) → risen (risen m k) n ≡ risen m (k + n)
risen_more m k n = omega arith

-- a meter that rose by k bytes rose by no more than n, if k is no more than n
pub rose : (m k n : ℕ) → k ≤ n → RoseWithin n m (risen m k)
rose m k n low = (omega arith, omega arith)

module _ {K : Type 0} (Is : List ℕ → HeldLine K → Type 0) (U : List ℕ) (e b w : ℕ) (old : Row (HeldLine K)) where
  -- These lines were read, up to q; the old lines in hand are hs, from p on. It is so
  -- whatever the old text was.
  pub record AtLine (read : Row (HeldLine K)) (q p : ℕ) (hs : Row (HeldLine K)) : Type 0 where
    pub going : (B : List ℕ) (a : ℕ) → IsBegun Is B U a e b w old → Going Is B U a e b w read q p hs
    pub sum : p + extent hs ≡ w + extent old
    pub place : w + extent read ≡ q

module _ {K : Type 0} (Is : List ℕ → HeldLine K → Type 0) (laws : Reads Is) (U : List ℕ) (e b w : ℕ)
    (old : Row (HeldLine K)) where
  -- at first no line is read, and all old lines are in hand
  pub at_start : AtLine Is U e b w old [] w w old
  at_start = record {
    going = λ B a begun. going_start Is laws B U a e b begun.apart w old begun.boundary begun.low begun.row;
    sum = refl;
    place = omega (arith, extent_none K);
  }

  -- old lines are passed
  pub at_passed : (read : Row (HeldLine K)) (q p : ℕ) (hs : Row (HeldLine K)) (r : ℕ) (ks : Row (HeldLine K)) →
      AtLine Is U e b w old read q p hs → Passes (b + (q - e)) p hs r ks → AtLine Is U e b w old read q r ks
  at_passed read q p hs r ks at passes = record {
    going = λ B a begun. going_passed Is laws B U a e b begun.apart w read q p hs r ks (at.going B a begun) passes;
    sum = sym (passes_sum (b + (q - e)) p hs r ks passes) ∙ at.sum;
    place = at.place;
  }

  -- a line that ended is read
  pub at_more : (read : Row (HeldLine K)) (q p : ℕ) (hs : Row (HeldLine K)) (l : HeldLine K) →
      AtLine Is U e b w old read q p hs → Past (b + (q - e)) p hs → NotMet e b q p hs → Is (drop q U) l → l.ended ≡ true
      → AtLine Is U e b w old (read ++ l ∷ []) (q + l.len) p hs
  at_more read q p hs l at past not_met is ended = let place = at.place in record {
    going = λ B a begun. going_on Is laws B U a e b begun.apart w read q p hs l
        (at.going B a begun) past not_met is ended;
    sum = at.sum;
    place = omega (arith, extent_push read l);
  }

  module _ (B : List ℕ) (a : ℕ) (begun : IsBegun Is B U a e b w old) where
    -- what was read ends in the new text
    pub at_within : (read : Row (HeldLine K)) (q p : ℕ) (hs : Row (HeldLine K)) → AtLine Is U e b w old read q p hs →
        q ≤ length U
    at_within read q p hs at = place_fits Is laws B U a e b begun.apart w read q p hs (at.going B a begun)

    -- the old text ends where the old lines do
    pub old_length : length B ≡ w + extent old
    old_length = let within = boundary_within Is laws B w begun.boundary in
        omega (arith, within, row_extent Is laws (drop w B) old begun.row, length-drop w B)

    -- the old place of q is below each number that b and the end of the old lines are below
    pub old_at_fits : (q n : ℕ) → q ≤ length U → b < n → w + extent old < n → b + (q - e) < n
    old_at_fits q n low small fits =
        old_place_bound Is laws B U a e b begun.apart q n low small (omega (arith, old_length))

    -- an old line begins at the old place of q
    pub at_met : (read : Row (HeldLine K)) (q p : ℕ) (hs : Row (HeldLine K)) → AtLine Is U e b w old read q p hs →
        (hs ≡ [] → ⊥) → e ≤ q → p ≡ b + (q - e)
        → IsRow Is (drop w U) (read ++ hs) × Ends Is B U e b (w + extent read)
    at_met read q p hs at = met_by hs (at.going B a begun)
      where
        met_by : (hs : Row (HeldLine K)) → Going Is B U a e b w read q p hs → (hs ≡ [] → ⊥) → e ≤ q → p ≡ b + (q - e) →
            IsRow Is (drop w U) (read ++ hs) × Ends Is B U e b (w + extent read)
        met_by [] going some past same = absurd (some refl)
        met_by (h ∷ hs) going some past same = going_met Is laws B U a e b begun.apart w read q p h hs going past same

    -- the last line is read
    pub at_last : (read : Row (HeldLine K)) (q p : ℕ) (hs : Row (HeldLine K)) (l : HeldLine K) →
        AtLine Is U e b w old read q p hs → Past (b + (q - e)) p hs → NotMet e b q p hs → Is (drop q U) l →
        l.ended ≡ false
        → q + l.len ≡ length U → IsRow Is (drop w U) (read ++ l ∷ []) × Ends Is B U e b (w + extent (read ++ l ∷ []))
    at_last read q p hs l at past not_met is not_ended whole =
        going_last Is laws B U a e b begun.apart w read q p hs l (at.going B a begun) past not_met is not_ended
        (omega (arith, whole, length-drop q U))

    -- no more was read than the window has
    pub at_low : (read : Row (HeldLine K)) (q p : ℕ) (hs : Row (HeldLine K)) (t m : ℕ) →
        AtLine Is U e b w old read q p hs → Ends Is B U e b t → RoseWithin (t - w) m (risen m (extent read))
    at_low read q p hs t m at ends = let low =
        going_low Is laws B U a e b begun.apart w read q p hs t (at.going B a begun) ends in
        rose m (extent read) (t - w) (omega arith)

-- ---- all lines of a text

module _ {K : Type 0} (Is : List ℕ → HeldLine K → Type 0) (T : List ℕ) where
  -- these lines were read, up to q
  pub record AtRow (read : Row (HeldLine K)) (q : ℕ) : Type 0 where
    pub within : q ≤ length T
    pub sum : extent read ≡ q
    pub leads : (ms : Row (HeldLine K)) → IsRow Is (drop q T) ms → IsRow Is T (read ++ ms)

  -- at first none is
  pub row_start : AtRow [] 0
  row_start = record { within = omega arith; sum = extent_none K; leads = λ ms row. row }

  -- with a line more that ended, they are read up to its end
  pub row_more : (read : Row (HeldLine K)) (q : ℕ) (l : HeldLine K) → AtRow read q → Is (drop q T) l → l.ended ≡ true →
      q + l.len ≤ length T → AtRow (read ++ l ∷ []) (q + l.len)
  row_more read q l at is ended within = let sum = at.sum in record {
    within = within;
    sum = omega (arith, sum, extent_push read l);
    leads = λ ms rows. subst (IsRow Is T) (sym (append_assoc read (l ∷ []) ms))
        (at.leads (l ∷ ms) (more_lines is ended (subst (λ x. IsRow Is x ms) (sym (drop-drop l.len q T)) rows)));
  }

  -- with the last line they are the row of the text
  pub row_done : (read : Row (HeldLine K)) (q : ℕ) (l : HeldLine K) → AtRow read q → Is (drop q T) l → l.ended ≡ false →
      q + l.len ≡ length T → IsRow Is T (read ++ l ∷ [])
  row_done read q l at is not_ended whole =
      at.leads (l ∷ []) (last_line is not_ended (omega (arith, whole, length-drop q T)))
