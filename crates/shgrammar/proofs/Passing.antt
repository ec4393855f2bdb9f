-- Lines at the front of a script: what follows them has no part in how they are read,
-- and the first fault after them is the script's.
use Rattle.std.proofs.Common.{◌≡◌, ℕ, zero, suc, ◌+◌, ◌-◌, ◌<◌, Bool, true, false, Ok, Err, List, List as Row, Option, Some, option_map, length, take, drop, slice_get, refl, sym, ap, subst, ◌∙◌, arith, length-drop}
use Rattle.std.proofs.Math.Seq.{drop-drop, take-take}
use Rattle.shgrammar.specs.Characters.{newline_char}
use Rattle.shgrammar.specs.declared.keep.Keep.TheVariants.{Nothing, Outer, Whole}
use Rattle.shast.specs.Tree.{AnEntry}
use Rattle.shgrammar.specs.declared.fault.Fault.{Fault}
use Rattle.shgrammar.specs.Form.{Read, may, does}
use Rattle.shgrammar.specs.Levels.{most_open, level}
use Rattle.shgrammar.specs.Lines.{a_line}
use Rattle.shgrammar.specs.Moved.{Same, SameBy, moved_fault}
use Rattle.shgrammar.specs.Scripts.{AScript, LinesSoFar, first_fault_from, is_blank_line, line_from, line_told, nothing_yet, script_below, script_by, script_on, the_line, with_line}
use Rattle.shgrammar.specs.Search.{ArePassed, LineBefore, MayPass, StopsAt}
use Rattle.shgrammar.specs.Sights.{State, given, standing}
use Rattle.shgrammar.specs.Standing.{raw_stands}
use Rattle.shgrammar.proofs.Alike.{Like, SameEnd}
use Rattle.shgrammar.proofs.AlikeLists.{alike_level, alike_line}
use Rattle.shgrammar.proofs.Answered.{fault_alone, fault_answered}
use Rattle.shgrammar.proofs.FirstFault.{first_fault_after_kept}
use Rattle.shgrammar.proofs.MovedLine.{line_moved, line_outer}
use Rattle.shgrammar.proofs.OneOutcome.{computed_is_only}
use Rattle.shgrammar.proofs.SameLine.{line_again, newline_at, same_front, same_texts}
use Rattle.shgrammar.proofs.Stretches.{get_drop}
use Rattle.shgrammar.proofs.TokensShown.{shown_level}
use Rattle.shgrammar.specs.declared.edition.Edition.{Edition}

-- ---- the same bytes, and the same line

-- the line with its tree, where one is read without
kept_by : (t : State) (x z : Read (Row AnEntry × Bool)) (fs : Row AnEntry) → z ≡ Ok ((fs, true), t) → Like SameEnd x z →
    (es : Row AnEntry) × (x ≡ Ok ((es, true), t))
kept_by t (Ok ((es, true), s)) z fs z_is one = let same = rw z_is at one in
    (es, ap (λ (u : State). Ok ((es, true), u)) same.0)
kept_by t (Ok ((es, false), s)) z fs z_is one = let same = rw z_is at one in let no : false ≡ true = same.1 in absurd cc
kept_by t (Err e) z fs z_is one = let same = rw z_is at one in absurd same

-- where the bytes T stand up to just past the newline that ends their line, that line is read
pub line_there : (edition : Edition) → (T U : List ℕ) (n : ℕ) (es : Row AnEntry) (t : State) → t.at ≡ n + 1 →
    slice_get T n ≡ Some 10 → ((r : ℕ) → r < n + 1 → slice_get U r ≡ slice_get T r)
    → does (the_line false) Whole (given edition T 0) (standing 0) ≡ Ok ((es, true), t) →
    does (the_line false) Whole (given edition U 0) (standing 0) ≡ Ok ((es, true), t)
line_there edition T U n es t ends newline same read =
    let inner = level most_open in
    let one = (computed_is_only (a_line inner false) (given edition T 0) (standing 0)).some in
    let part : may (a_line inner false) (given edition T 0) (standing 0) (Ok ((es, true), t)) one.0 =
    subst (λ (y : Read (Row AnEntry × Bool)). may (a_line inner false) (given edition T 0) (standing 0) y one.0)
    read one.1 in
    let E = same_texts edition T U n same newline in
    let again = line_again E 0 0 (λ p from. refl) inner (shown_level (given edition T 0) most_open) false (standing 0)
    (omega arith) (Ok ((es, true), t)) one.0 part (refl, ends) in
    sym ((computed_is_only (a_line inner false) (given edition U 0) (standing 0)).only
    (Ok ((es, true), t)) again.1.0 again.1.1)

-- bytes that are the same after the first p of them
same_after : (p n : ℕ) (B D : List ℕ) → take (p + n) D ≡ take (p + n) B → (r : ℕ) → r < n →
    slice_get (drop p D) r ≡ slice_get (drop p B) r
same_after p n B D same r lt = get_drop p D r ∙ same_front (p + n) B D same (p + r) (omega (arith, lt))
    ∙ sym (get_drop p B r)

-- a line that is read by itself leads on where it stands
leads_by : (edition : Edition) →
    (script : List ℕ) (p : ℕ) (t : State) (es : Row AnEntry) (x y : Read (Row AnEntry × Bool)) →
    line_from edition script Whole false p ≡ x → y ≡ Ok ((es, true), t) → Same p false x y
    → first_fault_from edition script p ≡ first_fault_from edition script (p + t.at)
leads_by edition script p t es (Ok ((fs, true), u)) y is y_is same =
    let moved = rw y_is at same in
    first_fault_after_kept edition script p fs u is ∙ ap (λ (n : ℕ). first_fault_from edition script (p + n)) moved.2
leads_by edition script p t es (Ok ((fs, false), u)) y is y_is same = let moved = rw y_is at same in
    let no : false ≡ true = moved.1 in absurd cc
leads_by edition script p t es (Err f) y is y_is same = let moved = rw y_is at same in absurd moved

-- a line that may be passed, as it is read with its tree
passed_alone : (edition : Edition) → (bytes : List ℕ) (p q : ℕ) (line : LineBefore edition bytes p q) →
    (fs : Row AnEntry) × (line_told edition bytes Whole false p 0 ≡ Ok ((fs, true), line.state))
passed_alone edition bytes p q line =
    let like = (alike_line (alike_level (given edition (drop p bytes) 0) most_open) false false).like (standing 0) in
    kept_by line.state (line_told edition bytes Whole false p 0)
    (line_told edition bytes Nothing false p 0) line.entries line.told like

-- lines that are passed, and one more
pub passed_more : (edition : Edition) → (bytes : List ℕ) (p q : ℕ) → ArePassed edition bytes p →
    LineBefore edition bytes p q → ArePassed edition bytes q
passed_more edition bytes p q so line script same_q =
    let t = line.state in
    let some = line.some in
    let same : take (p + t.at) script ≡ take (p + t.at) bytes = rw line.end at same_q in
    let T = drop p bytes in
    let n = t.at - 1 in
    let kept = passed_alone edition bytes p q line in
    let again : line_told edition script Whole false p 0 ≡ Ok ((kept.0, true), t) =
    line_there edition T (drop p script) n kept.0 t (omega (arith, some)) (newline_at T n line.newline)
    (λ r lt. same_after p t.at bytes script same r (omega (arith, lt, some))) kept.1 in
    let low : take p script ≡ take p bytes =
    sym (take-take p (p + t.at) script (omega arith)) ∙ ap (take p) same ∙ take-take p (p + t.at) bytes (omega arith) in
    so script low ∙ leads_by edition script p t kept.0 (line_from edition script Whole false p)
    (line_told edition script Whole false p 0) refl again (line_moved edition script p false)
    ∙ ap (first_fault_from edition script) (sym line.end)

-- the last byte of a line that is passed
pub newline_after : (bytes : List ℕ) (p q len : ℕ) → q ≡ p + len → 0 < len →
    raw_stands (drop p bytes) (len - 1) newline_char ≡ true → slice_get bytes (q - 1) ≡ Some 10
newline_after bytes p q len ends some stands =
    let is : q - 1 ≡ p + (len - 1) = omega (arith, ends, some) in
    ap (slice_get bytes) is ∙ sym (get_drop p bytes (len - 1)) ∙ newline_at (drop p bytes) (len - 1) stands

-- so of the line before q
pub newline_before : (edition : Edition) → (bytes : List ℕ) (p q : ℕ) → LineBefore edition bytes p q →
    slice_get bytes (q - 1) ≡ Some 10
newline_before edition bytes p q line = newline_after bytes p q line.state.at line.end line.some line.newline

-- what was read there tells that it is none
pub stops_unended : (edition : Edition) → (bytes : List ℕ) (p len : ℕ) (blank newline : Bool) (es : Row AnEntry) →
    line_from edition bytes Outer blank p ≡ Ok ((es, newline), standing len) →
    (newline ≡ true → raw_stands (drop p bytes) (len - 1) newline_char ≡ false) → StopsAt edition bytes p
stops_unended edition bytes p len blank newline es is other q line =
    let own = passed_alone edition bytes p q line in
    let same : SameBy false p blank (Ok ((es, newline), standing len)) (Ok ((own.0, true), line.state)) =
    rw (is, own.1) at (line_outer edition bytes p blank) in
    let no : false ≡ true = sym (other same.1) ∙ ap (λ (n : ℕ). raw_stands (drop p bytes) (n - 1) newline_char) same.2
    ∙ line.newline in
    absurd cc

-- a fault there tells it too
pub stops_faulty : (edition : Edition) → (bytes : List ℕ) (p : ℕ) (blank : Bool) (f : Fault) →
    line_from edition bytes Outer blank p ≡ Err f → StopsAt edition bytes p
stops_faulty edition bytes p blank f is q line =
    let own = passed_alone edition bytes p q line in
    let same : SameBy false p blank (Err f) (Ok ((own.0, true), line.state)) =
    rw (is, own.1) at (line_outer edition bytes p blank) in absurd same

-- ---- the first fault after some bytes, and that of the script

-- a fault that stands n bytes further on
abbrev later : ℕ → Option Fault → Option Fault
later n f = option_map (moved_fault n) f

-- a fault that is moved twice
twice : (n p : ℕ) (f g h : Fault) → f ≡ moved_fault (n + p) h → g ≡ moved_fault p h → f ≡ moved_fault n g
twice n p f g h one two =
    let sum : n + p + h.at ≡ n + (p + h.at) = omega arith in
    one ∙ ap (λ (at : ℕ). record { kind = h.kind; at = at }) sum ∙ sym (ap (moved_fault n) two)

module _ (n : ℕ) (f h : LinesSoFar → ℕ → AScript) (so to : LinesSoFar) (p : ℕ)
    (rest : (es fs : Row AnEntry) (t : State) →
    (f (with_line so es) (n + p + t.at)).fault ≡ later n (h (with_line to fs) (p + t.at)).fault) where
  -- by what is read of the next line in both
  shift_by : (blank pale : Bool) (x y z : Read (Row AnEntry × Bool)) → Same (n + p) blank x z → Same p pale y z →
      (script_by f so (n + p) x).fault ≡ later n (script_by h to p y).fault
  shift_by blank pale (Ok ((es, true), s)) (Ok ((fs, true), t)) (Ok ((gs, c), u)) one two =
      ap (λ (i : ℕ). (f (with_line so es) (n + p + i)).fault) (one.2 ∙ sym two.2) ∙ rest es fs t
  shift_by blank pale (Ok ((es, true), s)) (Ok ((fs, false), t)) (Ok ((gs, c), u)) one two = let no : true ≡ false =
      one.1 ∙ sym two.1 in absurd cc
  shift_by blank pale (Ok ((es, false), s)) (Ok ((fs, true), t)) (Ok ((gs, c), u)) one two = let no : false ≡ true =
      one.1 ∙ sym two.1 in absurd cc
  shift_by blank pale (Ok ((es, false), s)) (Ok ((fs, false), t)) (Ok ((gs, c), u)) one two = refl
  shift_by blank pale (Ok (x, s)) y (Err e) one two = absurd one
  shift_by blank pale (Ok (x, s)) (Err e) (Ok (z, u)) one two = absurd two
  shift_by blank pale (Err e) y (Ok (z, u)) one two = absurd one
  shift_by blank pale (Err e) (Ok (y, t)) (Err d) one two = absurd two
  shift_by blank pale (Err e) (Err d) (Err c) one two = ap Some (twice n p e d c one two)

module _ (edition : Edition) (n : ℕ) (B : List ℕ) where
  -- by how many lines may be read
  shift : (m : ℕ) (so to : LinesSoFar) (p : ℕ) →
      (script_below edition B m so (n + p)).fault ≡ later n (script_below edition (drop n B) m to p).fault
  unfolding script_below
  shift zero so to p = refl
  shift (suc m) so to p =
      let D = drop n B in
      let same : line_told edition B Whole false (n + p) 0 ≡ line_told edition D Whole false p 0 =
      ap (λ (T : List ℕ). does (the_line false) Whole (given edition T 0) (standing 0)) (sym (drop-drop p n B)) in
      let moved : Same p (is_blank_line to) (line_from edition D Whole (is_blank_line to) p)
      (line_told edition B Whole false (n + p) 0) =
      subst (λ (z : Read (Row AnEntry × Bool)). Same p (is_blank_line to)
      (line_from edition D Whole (is_blank_line to) p) z) (sym same) (line_moved edition D p (is_blank_line to)) in
      shift_by n (script_below edition B m) (script_below edition D m) so to p
      (λ es fs t. let sum : n + p + t.at ≡ n + (p + t.at) = omega arith in
      ap (λ (q : ℕ). (script_below edition B m (with_line so es) q).fault) sum
      ∙ shift m (with_line so es) (with_line to fs) (p + t.at))
      (is_blank_line so) (is_blank_line to) (line_from edition B Whole (is_blank_line so) (n + p))
      (line_from edition D Whole (is_blank_line to) p) (line_told edition B Whole false (n + p) 0)
      (line_moved edition B (n + p) (is_blank_line so)) moved

  -- the first fault from an offset on is that of the bytes after it, moved
  pub fault_after_is : first_fault_from edition B n ≡ later n (first_fault_from edition (drop n B) 0)
  unfolding first_fault_from script_on
  fault_after_is =
      let start : n ≡ n + 0 = omega arith in
      let size : length B - n ≡ length (drop n B) - 0 = omega (arith, length-drop n B) in
      ap (λ (q : ℕ). (script_below edition B (suc (length B - n)) nothing_yet q).fault) start
      ∙ shift (suc (length B - n)) nothing_yet nothing_yet 0
      ∙ ap (λ (m : ℕ). later n (script_below edition (drop n B) (suc m) nothing_yet 0).fault) size

-- bytes that are passed may be passed
pub may_pass : (edition : Edition) → (bytes : List ℕ) (n : ℕ) → ArePassed edition bytes n → MayPass edition bytes n
may_pass edition bytes n so script f same first =
    let D = drop n script in
    let is : f ≡ first_fault_from edition D 0 =
    fault_alone edition D (first_fault_from edition D 0) refl (record { entries = first.0; fault = f }) first.1 in
    let whole : first_fault_from edition script 0 ≡ later n f = so script same ∙ fault_after_is edition n script
    ∙ ap (later n) (sym is) in
    fault_answered edition script (later n f) (sym whole)
