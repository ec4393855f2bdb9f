-- After any list of edits.
use Rattle.std.proofs.Common.{◌≡◌, ℕ, ◌+◌, ◌-◌, ◌<◌, ◌≤◌, ◌^◌, List, List as Row, [], ◌∷◌, Option, Result, Ok, Err, sym, ap, subst, refl, ◌∙◌, arith}
use Rattle.shast.specs.declared.node.NodeLine.{NodeLine}
use Rattle.shgrammar.specs.Scripts.{FirstFault}
use Rattle.shgrammar.specs.declared.edition.Edition.{Edition}
use Rattle.shgrammar.specs.declared.fault.Fault.{Fault}
use Rattle.shheld.specs.TopLines.{IsTopLine}
use Rattle.shtext.specs.Edit.{ASplice, edited, first_begin, last_end, new_end}
use Rattle.shsource.specs.Meter.{raised}
use Rattle.shwindow.proofs.Windows.{window_only}
use Rattle.shheld.proofs.Windows.{some}
use Rattle.shlive.specs.Answers.{HasNodesAt, HasOutline, HasStatus, HasText}
use Rattle.shlive.specs.Edits.{AreRead, AreReadBy, IsAfter, IsAfterBy, Tried, bytes_after, bytes_by, none_tried, one_tried}
use Rattle.shlive.specs.Held.{Held, SessionOptions}
use Rattle.shlive.specs.declared.error.LiveError.{LiveError}
use Rattle.shlive.specs.declared.error.LiveError.TheVariants.{Range, TooLarge, Memory, Order}
use Rattle.shlive.proofs.OneAnswer.{one_fault, one_outline, one_row_of_nodes, one_status, one_text}

-- ---- one edit

module _ (before : Held) (ss : Row ASplice) (after : Held) where
  -- an edit that was made has the edited bytes, and one that was refused has those before it
  bytes_one : (r : Result (Unit {0}) LiveError) → IsAfterBy r before ss after → after.bytes ≡ bytes_by r before.bytes ss
  bytes_one (Ok made) is = is.bytes
  bytes_one (Err error) is = is.bytes

  -- neither changes how the session reads and prints
  how_one : (r : Result (Unit {0}) LiveError) → IsAfterBy r before ss after → after.how ≡ before.how
  how_one (Ok made) is = is.how
  how_one (Err error) is = is.how

  -- a meter rose by so many bytes at least and at most
  abbrev Rose : ℕ → ℕ → Type 0
  Rose least most = (raised before.meter least ≤ after.meter) × (after.meter ≤ raised before.meter most)

  -- where the meter stays, it rises by no byte at least and at most
  none_read : (least most : ℕ) → before.meter < 2 ^ 64 → after.meter ≡ before.meter → (least ≡ 0) × (most ≡ 0) →
      Rose least most
  none_read least most low same (none, nor) = (omega (arith, low, same, none), omega (arith, low, same, nor))

  -- for an edit it rises by as many bytes as are read for it at least and at most
  rose_one : (r : Result (Unit {0}) LiveError) (least most : ℕ) → before.meter < 2 ^ 64 → IsAfterBy r before ss after
      → AreReadBy r before.how.edition before.bytes ss least most → Rose least most
  rose_one (Ok made) least most low is (w, t, window, l, m) =
      let one = window_only (IsTopLine before.how.edition) before.bytes (edited before.bytes ss) (first_begin ss)
      (new_end ss) (last_end ss) is.read.0 w is.read.1 t is.read.2 window in
      let read = is.read.3 in
      (omega (arith, one.0, one.1, read, l), omega (arith, one.0, one.1, read, m))
  rose_one (Err Memory) least most low is (w, t, window, l, m) =
      let rose = is.read w t window in
      (omega (arith, low, rose.0, l), omega (arith, low, rose.1, m))
  rose_one (Err Range) least most low is none = none_read least most low is.read none
  rose_one (Err TooLarge) least most low is none = none_read least most low is.read none
  rose_one (Err Order) least most low is none = none_read least most low is.read none

-- ---- all of them

-- the bytes after edits are what those that were made make of them, one after the other
pub all_bytes : (before after : Held) (es : Row Tried) → IsAfter before es after →
    after.bytes ≡ bytes_after before.bytes es
all_bytes before after [] is = ap (λ (h : Held). h.bytes) is
all_bytes before after (e ∷ es) (mid, one, rest) =
    all_bytes mid after es rest ∙ ap (λ B. bytes_after B es) (bytes_one before e.splices mid e.result one)

-- no edit changes how the session reads and prints
pub all_how : (before after : Held) (es : Row Tried) → IsAfter before es after → after.how ≡ before.how
all_how before after [] is = ap (λ (h : Held). h.how) is
all_how before after (e ∷ es) (mid, one, rest) = all_how mid after es rest ∙ how_one before e.splices mid e.result one

-- a meter that rises twice rises by both sums, at least and at most
both_rose : (x y z l n m k : ℕ) → x < 2 ^ 64 → raised x l ≤ y → y ≤ raised x m → raised y n ≤ z → z ≤ raised y k
    → (raised x (l + n) ≤ z) × (z ≤ raised x (m + k))
both_rose x y z l n m k low p q r s = (omega (arith, low, p, q, r), omega (arith, low, p, q, s))

-- for all edits the meter rises by the sums of what is read for each
pub all_rose : (before after : Held) (es : Row Tried) (least most : ℕ) → before.meter < 2 ^ 64 → IsAfter before es after
    → AreRead before.how.edition before.bytes es least most → (raised before.meter least ≤ after.meter)
    × (after.meter ≤ raised before.meter most)
all_rose before after [] _ _ low is none_tried = let same = ap (λ (h : Held). h.meter) is in
    (omega (arith, low, same), omega (arith, low, same))
all_rose before after (e ∷ es) _ _ low (mid, one, rest) (one_tried l m n k by more) =
    let rose = rose_one before e.splices mid e.result l m low one by in
    let small : mid.meter < 2 ^ 64 = omega (arith, low, rose.1) in
    let from = subst (λ (h : SessionOptions). AreRead h.edition (bytes_by e.result before.bytes e.splices) es n k)
    (sym (how_one before e.splices mid e.result one)) more in
    let on = subst (λ B. AreRead mid.how.edition B es n k) (sym (bytes_one before e.splices mid e.result one)) from in
    let later = all_rose mid after es n k small rest on in
    both_rose before.meter mid.meter after.meter l n m k low rose.0 rose.1 later.0 later.1

-- the sums are there, as each edit has a window
sums_one : (r : Result (Unit {0}) LiveError) (edition : Edition) (bytes : List ℕ) (ss : Row ASplice)
    → (least most : ℕ) × AreReadBy r edition bytes ss least most
sums_one (Ok made) edition bytes ss =
    let w = some edition bytes ss in (w.1 - w.0, w.1 - w.0, (w.0, w.1, w.2, refl, refl))
sums_one (Err Memory) edition bytes ss =
    let w = some edition bytes ss in (0, w.1 - w.0, (w.0, w.1, w.2, refl, refl))
sums_one (Err Range) edition bytes ss = (0, 0, (refl, refl))
sums_one (Err TooLarge) edition bytes ss = (0, 0, (refl, refl))
sums_one (Err Order) edition bytes ss = (0, 0, (refl, refl))

-- and so are those of any list of edits
pub all_sums : (edition : Edition) (bytes : List ℕ) (es : Row Tried) → (least most : ℕ)
    × AreRead edition bytes es least most
all_sums edition bytes [] = (0, 0, none_tried)
all_sums edition bytes (e ∷ es) =
    let one = sums_one e.result edition bytes e.splices in
    let more = all_sums edition (bytes_by e.result bytes e.splices) es in
    (one.0 + more.0, one.1 + more.1, one_tried one.0 one.1 more.0 more.1 one.2 more.2)

-- ---- answers

module _ (before after : Held) (es : Row Tried) (is : IsAfter before es after) where
  -- what is so of the bytes from scratch is so after the edits
  here : (P : SessionOptions → List ℕ → Type 0) → P before.how (bytes_after before.bytes es) → P after.how after.bytes
  here P p = subst (λ (h : SessionOptions). P h after.bytes) (sym (all_how before after es is))
      (subst (P before.how) (sym (all_bytes before after es is)) p)

  -- to each question there is the same answer after the edits as for the edited bytes from scratch
  pub same_fault : (x y : Option Fault) → FirstFault after.how.edition after.bytes x →
      FirstFault before.how.edition (bytes_after before.bytes es) y → x ≡ y
  same_fault x y p q = one_fault after.how.edition after.bytes x y p (here (λ h B. FirstFault h.edition B y) q)

  pub same_status : (x y : ℕ) → HasStatus after.how.edition after.bytes x →
      HasStatus before.how.edition (bytes_after before.bytes es) y → x ≡ y
  same_status x y p q = one_status after.how.edition after.bytes x y p (here (λ h B. HasStatus h.edition B y) q)

  pub same_outline : (x y : List NodeLine) → HasOutline after.how.edition after.bytes x →
      HasOutline before.how.edition (bytes_after before.bytes es) y → x ≡ y
  same_outline x y p q = one_outline after.how.edition after.bytes x y p (here (λ h B. HasOutline h.edition B y) q)

  pub same_nodes : (at : ℕ) (x y : List NodeLine) → HasNodesAt after.how.edition after.bytes at x →
      HasNodesAt before.how.edition (bytes_after before.bytes es) at y → x ≡ y
  same_nodes at x y p q = one_row_of_nodes after.how.edition after.bytes at x y p
      (here (λ h B. HasNodesAt h.edition B at y) q)

  pub same_text : (x y : Option (List ℕ)) → HasText after.how after.bytes x →
      HasText before.how (bytes_after before.bytes es) y → x ≡ y
  same_text x y p q = one_text after.how after.bytes x y p (here (λ h B. HasText h B y) q)
