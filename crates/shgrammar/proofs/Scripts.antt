-- A line read by itself, and a script, are what is computed, and nothing else.
use Rattle.std.proofs.Common.{◌≡◌, ℕ, zero, suc, ◌-◌, ◌<◌, Bool, true, false, Ok, Err, List, List as Row, ◌++◌, length, drop, refl, sym, ap, ◌∙◌, arith}
use Rattle.shgrammar.specs.declared.keep.Keep.TheVariants.{Whole}
use Rattle.shast.specs.Tree.{AnEntry}
use Rattle.shgrammar.specs.Sights.{given, standing}
use Rattle.shgrammar.specs.Form.{Read, Spelled, may}
use Rattle.shgrammar.specs.Lines.{ALine, IsLine, line_read, line_stops}
use Rattle.shgrammar.specs.Scripts.{AScript, LinesSoFar, is_blank_line, with_line, the_line, Lines, line_ended, last_line, faulty, nothing_yet, Outcome, line_from, script_by, script_below, script_on, script_at, as_line, line_of_text}
use Rattle.shgrammar.proofs.OneOutcome.{HasOneOutcome, computed_is_only}
use Rattle.shgrammar.proofs.Lined.{leaves_less, line_more, line_last, line_faulty}
use Rattle.shgrammar.specs.declared.edition.Edition.{Edition}

-- ---- a line

-- an outcome of the row of a line is a line of the text
line_by : (edition : Edition) → (T : List ℕ) (x : Read (Row AnEntry × Bool)) (k : Row Spelled) →
    may (the_line false) (given edition T 0) (standing 0) x k → IsLine edition T (as_line T x)
line_by edition T (Ok ((es, newline), t)) k part = line_read es newline t k part
line_by edition T (Err f) k part = line_stops f k part

-- the line that is computed is one
pub line_is : (edition : Edition) → (T : List ℕ) → IsLine edition T (line_of_text edition T)
unfolding line_of_text
line_is edition T = let one = (computed_is_only (the_line false) (given edition T 0) (standing 0)).some in
    line_by edition T _ one.0 one.1

-- and there is no other
pub line_only : (edition : Edition) → (T : List ℕ) (l : ALine) → IsLine edition T l → l ≡ line_of_text edition T
unfolding line_of_text
line_only edition T l (line_read es newline t k part) =
    ap (as_line T) ((computed_is_only (the_line false) (given edition T 0) (standing 0)).only _ _ part)
line_only edition T l (line_stops f k part) =
    ap (as_line T) ((computed_is_only (the_line false) (given edition T 0) (standing 0)).only _ _ part)

-- ---- a script

module _ (edition : Edition) (B : List ℕ) where
  -- the line at p has one outcome
  line_at : (so : LinesSoFar) (p : ℕ) →
      HasOneOutcome (may (the_line (is_blank_line so)) (given edition (drop p B) p) (standing 0))
      (line_from edition B Whole (is_blank_line so) p)
  line_at so p = computed_is_only (the_line (is_blank_line so)) (given edition (drop p B) p) (standing 0)

  -- by the outcome of one line
  lines_by : (rest : LinesSoFar → ℕ → AScript) (so : LinesSoFar) (p : ℕ) (x : Read (Row AnEntry × Bool))
      (k : Row Spelled) →
      line_from edition B Whole (is_blank_line so) p ≡ x
      → may (the_line (is_blank_line so)) (given edition (drop p B) p) (standing 0) x k
      → ((to : LinesSoFar) (q : ℕ) → length B - q < length B - p → (l : Row Spelled)
      × Lines edition B to q (rest to q) l) →
      (l : Row Spelled) × Lines edition B so p (script_by rest so p x) l
  lines_by rest so p (Ok ((es, true), t)) k is part more = let on =
      more _ _ (leaves_less edition B Whole (is_blank_line so) p es t is) in (k ++ on.0, line_ended es t k part on.1)
  lines_by rest so p (Ok ((es, false), t)) k is part more = (k, last_line es t k part)
  lines_by rest so p (Err f) k is part more = (k, faulty f k part)

  -- with fewer than n bytes left
  lines_below : (n : ℕ) (so : LinesSoFar) (p : ℕ) → length B - p < n → (l : Row Spelled)
      × Lines edition B so p (script_below edition B n so p) l
  unfolding script_below
  lines_below zero so p low = absurd (omega arith)
  lines_below (suc n) so p low =
      let one = (line_at so p).some in
      lines_by (script_below edition B n) so p _ one.0 refl one.1
      (λ to q less. lines_below n to q (omega (arith, less, low)))

  -- the script that is computed is an outcome
  pub script_is : Outcome edition B (script_at edition B)
  unfolding script_at script_on
  script_is = lines_below (suc (length B - 0)) nothing_yet 0 (omega arith)

  -- the lines from p on are those that are computed
  lines_only : (so : LinesSoFar) (p : ℕ) (y : AScript) (l : Row Spelled) → Lines edition B so p y l →
      y ≡ script_on edition B so p
  lines_only so p y l (line_ended es t k part rest) = lines_only _ _ y _ rest
      ∙ sym (line_more edition B so p (is_blank_line so) refl es t (with_line so es)
      (sym ((line_at so p).only _ _ part)) refl)
  lines_only so p y l (last_line es t k part) =
      sym (line_last edition B so p (is_blank_line so) refl es t (with_line so es)
      (sym ((line_at so p).only _ _ part)) refl)
  lines_only so p y l (faulty f k part) =
      sym (line_faulty edition B so p (is_blank_line so) refl f (sym ((line_at so p).only _ _ part)))

  -- and there is no other
  pub script_only : (y : AScript) → Outcome edition B y → y ≡ script_at edition B
  unfolding script_at
  script_only y is = lines_only nothing_yet 0 y is.0 is.1
