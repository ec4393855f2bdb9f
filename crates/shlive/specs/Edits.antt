-- Edits of a session, one after the other: those that were made, and those that were refused.
use Rattle.std.specs.Prelude.{◌≡◌, ℕ, ◌+◌, ◌-◌, List, List as Row, [], ◌∷◌, Result, Ok, Err}
use Rattle.shgrammar.specs.declared.edition.Edition.{Edition}
use Rattle.shtext.specs.Edit.{ASplice, AreAllowed, edited}
use Rattle.shheld.specs.TopLines.{HasWindow}
use Rattle.shlive.specs.Answers.{IsRefused}
use Rattle.shlive.specs.Held.{Held}
use Rattle.shlive.specs.HeldLines.{HasReadNoMore, HasReadWindow}
use Rattle.shlive.specs.declared.error.LiveError.{LiveError}
use Rattle.shlive.specs.declared.error.LiveError.TheVariants.{Range, TooLarge, Memory, Order}

-- ---- one edit

-- splices were made together: the bytes are the edited ones, and the meter rose by the length of their window
pub record IsMade (before : Held) (ss : Row ASplice) (after : Held) : Type 0 where
  pub allowed : AreAllowed before.bytes ss
  pub bytes : after.bytes ≡ edited before.bytes ss
  pub how : after.how ≡ before.how
  pub read : HasReadWindow before.how.edition before.bytes ss before.meter after.meter

-- how a meter rose for an edit that is refused: not at all, or by no more than its window where memory ran
-- out
abbrev pub HasReadFor : LiveError → Held → Row ASplice → ℕ → Type 0
HasReadFor Range before ss meter = meter ≡ before.meter
HasReadFor TooLarge before ss meter = meter ≡ before.meter
HasReadFor Order before ss meter = meter ≡ before.meter
HasReadFor Memory before ss meter =
    HasReadNoMore before.how.edition before.bytes ss before.meter meter

-- an edit was refused: the bytes are what they were
pub record IsNotMade (before : Held) (ss : Row ASplice) (error : LiveError) (after : Held)
    : Type 0 where
  pub refused : IsRefused before.bytes ss error
  pub bytes : after.bytes ≡ before.bytes
  pub how : after.how ≡ before.how
  pub read : HasReadFor error before ss after.meter

-- ---- any list of edits

-- an edit that was tried: its splices, and whether it was made
pub record Tried : Type 0 where
  pub splices : Row ASplice
  pub result : Result (Unit {0}) LiveError

-- what is held after one
abbrev pub IsAfterBy : Result (Unit {0}) LiveError → Held → Row ASplice → Held → Type 0
IsAfterBy (Ok made) before ss after = IsMade before ss after
IsAfterBy (Err error) before ss after = IsNotMade before ss error after

-- and after all of them
abbrev pub IsAfter : Held → Row Tried → Held → Type 0
IsAfter before [] after = after ≡ before
IsAfter before (e ∷ es) after =
    (mid : Held) × IsAfterBy e.result before e.splices mid × IsAfter mid es after

-- the bytes, by those before: those that were made, one after the other
abbrev pub bytes_by : Result (Unit {0}) LiveError → List ℕ → Row ASplice → List ℕ
bytes_by (Ok made) bytes ss = edited bytes ss
bytes_by (Err error) bytes ss = bytes

abbrev pub bytes_after : List ℕ → Row Tried → List ℕ
bytes_after bytes [] = bytes
bytes_after bytes (e ∷ es) = bytes_after (bytes_by e.result bytes e.splices) es

-- How many bytes are read for an edit at least and at most: for one that is made exactly its window; for one
-- that ran out of memory no more than that; for others none.
abbrev pub AreReadBy : Result (Unit {0}) LiveError → Edition
    → List ℕ → Row ASplice → ℕ → ℕ → Type 0
AreReadBy (Ok made) edition bytes ss least most =
    (w t : ℕ) × HasWindow edition bytes ss w t × (least ≡ t - w) × (most ≡ t - w)
AreReadBy (Err Memory) edition bytes ss least most =
    (w t : ℕ) × HasWindow edition bytes ss w t × (least ≡ 0) × (most ≡ t - w)
AreReadBy (Err error) edition bytes ss least most = (least ≡ 0) × (most ≡ 0)

-- and for all of them: the sums
pub data AreRead (edition : Edition) : List ℕ → Row Tried → ℕ → ℕ → Type 0 where
  none_tried : {bytes : List ℕ} → AreRead edition bytes [] 0 0
  one_tried : {bytes : List ℕ} {e : Tried} {es : Row Tried} (least most n m : ℕ)
      → AreReadBy e.result edition bytes e.splices least most
      → AreRead edition (bytes_by e.result bytes e.splices) es n m
      → AreRead edition bytes (e ∷ es) (least + n) (most + m)
