-- The first fault of a script is that of the first line, read without its tree, that has one.
use Rattle.std.proofs.Common.{◌≡◌, ℕ, zero, suc, ◌+◌, ◌-◌, ◌≤◌, Bool, true, false, Ok, Err, List, List as Row, length, drop, None, Some, refl, sym, ap, ◌∙◌, arith, length-drop}
use Rattle.shgrammar.specs.declared.keep.Keep.TheVariants.{Nothing, Whole}
use Rattle.shgrammar.specs.declared.fault.Fault.{Fault}
use Rattle.shast.specs.Tree.{AnEntry}
use Rattle.shgrammar.specs.Sights.{State, given, standing}
use Rattle.shgrammar.specs.Form.{Read}
use Rattle.shgrammar.specs.Levels.{most_open}
use Rattle.shgrammar.specs.Scripts.{AScript, LinesSoFar, is_blank_line, with_line, line_from, script_by, script_below, script_on, nothing_yet, first_fault_from}
use Rattle.shgrammar.proofs.Alike.{Like, SameEnd}
use Rattle.shgrammar.proofs.AlikeLists.{alike_level, alike_line}
use Rattle.shgrammar.proofs.Lined.{line_more, line_last, line_faulty}
use Rattle.shgrammar.specs.declared.edition.Edition.{Edition}

module _ (edition : Edition) (B : List ℕ) where
  -- a line with its tree, and without
  like : (blank : Bool) (p : ℕ) → Like SameEnd (line_from edition B Whole blank p) (line_from edition B Nothing false p)
  like blank p = (alike_line (alike_level (given edition (drop p B) p) most_open) blank false).like (standing 0)

  module _ (f h : LinesSoFar → ℕ → AScript) (so to : LinesSoFar) (p : ℕ)
      (rest : (es fs : Row AnEntry) (t : State) →
      (f (with_line so es) (p + t.at)).fault ≡ (h (with_line to fs) (p + t.at)).fault) where
    -- where a line goes the same way twice, and what follows has the same fault, the fault is the same
    same_by : (x y z : Read (Row AnEntry × Bool)) → Like SameEnd x z → Like SameEnd y z →
        (script_by f so p x).fault ≡ (script_by h to p y).fault
    same_by (Ok ((es, true), s)) (Ok ((fs, true), t)) (Ok ((gs, c), u)) one two =
        ap (λ (v : State). (f (with_line so es) (p + v.at)).fault) (one.0 ∙ sym two.0) ∙ rest es fs t
    same_by (Ok ((es, true), s)) (Ok ((fs, false), t)) (Ok ((gs, c), u)) one two = let no : true ≡ false = one.1
        ∙ sym two.1 in absurd cc
    same_by (Ok ((es, false), s)) (Ok ((fs, true), t)) (Ok ((gs, c), u)) one two = let no : false ≡ true = one.1
        ∙ sym two.1 in absurd cc
    same_by (Ok ((es, false), s)) (Ok ((fs, false), t)) (Ok ((gs, c), u)) one two = refl
    same_by (Ok (x, s)) y (Err e) one two = absurd one
    same_by (Ok (x, s)) (Err e) (Ok (z, u)) one two = absurd two
    same_by (Err e) y (Ok (z, u)) one two = absurd one
    same_by (Err e) (Ok (y, t)) (Err e') one two = absurd two
    same_by (Err e) (Err e') (Err e'') one two = ap Some (one ∙ sym two)

  -- the first fault does not depend on what the lines before gave
  whatever : (n : ℕ) (so to : LinesSoFar) (p : ℕ) →
      (script_below edition B n so p).fault ≡ (script_below edition B n to p).fault
  unfolding script_below
  whatever zero so to p = refl
  whatever (suc n) so to p =
      same_by (script_below edition B n) (script_below edition B n) so to p
      (λ es fs t. whatever n (with_line so es) (with_line to fs) (p + t.at))
      (line_from edition B Whole (is_blank_line so) p) (line_from edition B Whole (is_blank_line to) p)
      (line_from edition B Nothing false p) (like (is_blank_line so) p) (like (is_blank_line to) p)

  whatever_on : (so to : LinesSoFar) (p : ℕ) → (script_on edition B so p).fault ≡ (script_on edition B to p).fault
  unfolding script_on
  whatever_on so to p = whatever (suc (length B - p)) so to p

  -- a line without fault that a newline ends
  pub first_fault_after_kept : (p : ℕ) (es : Row AnEntry) (t : State) →
      line_from edition B Whole false p ≡ Ok ((es, true), t) →
      first_fault_from edition B p ≡ first_fault_from edition B (p + t.at)
  unfolding first_fault_from
  first_fault_after_kept p es t is = ap (λ (y : AScript). y.fault)
      (line_more edition B nothing_yet p false refl es t (with_line nothing_yet es) is refl) ∙ whatever_on _ _ _

  -- the same of a line that is read without its tree
  beyond_by : (p : ℕ) (t : State) (x z : Read (Row AnEntry × Bool)) (fs : Row AnEntry) →
      line_from edition B Whole false p ≡ x → z ≡ Ok ((fs, true), t) → Like SameEnd x z →
      first_fault_from edition B p ≡ first_fault_from edition B (p + t.at)
  beyond_by p t (Ok ((es, true), s)) z fs is z_is one =
      let same = rw z_is at one in
      first_fault_after_kept p es s is ∙ ap (λ (u : State). first_fault_from edition B (p + u.at)) same.0
  beyond_by p t (Ok ((es, false), s)) z fs is z_is one = let same = rw z_is at one in let no : false ≡ true = same.1 in
      absurd cc
  beyond_by p t (Err e) z fs is z_is one = let same = rw z_is at one in absurd same

  pub first_fault_after : (p : ℕ) (t : State) (fs : Row AnEntry) →
      line_from edition B Nothing false p ≡ Ok ((fs, true), t) →
      first_fault_from edition B p ≡ first_fault_from edition B (p + t.at)
  first_fault_after p t fs is =
      beyond_by p t (line_from edition B Whole false p) (line_from edition B Nothing false p) fs refl is
      (like false p)

  -- the last line, without fault
  nowhere_by : (p : ℕ) (t : State) (x z : Read (Row AnEntry × Bool)) (fs : Row AnEntry) →
      line_from edition B Whole false p ≡ x → z ≡ Ok ((fs, false), t) → Like SameEnd x z →
      first_fault_from edition B p ≡ None
  unfolding first_fault_from
  nowhere_by p t (Ok ((es, false), s)) z fs is z_is one =
      ap (λ (y : AScript). y.fault)
      (line_last edition B nothing_yet p false refl es s (with_line nothing_yet es) is refl)
  nowhere_by p t (Ok ((es, true), s)) z fs is z_is one = let same = rw z_is at one in let no : true ≡ false = same.1 in
      absurd cc
  nowhere_by p t (Err e) z fs is z_is one = let same = rw z_is at one in absurd same

  pub no_first_fault : (p : ℕ) (t : State) (fs : Row AnEntry) →
      line_from edition B Nothing false p ≡ Ok ((fs, false), t) →
      first_fault_from edition B p ≡ None
  no_first_fault p t fs is = nowhere_by p t (line_from edition B Whole false p)
      (line_from edition B Nothing false p) fs refl is (like false p)

  -- a line with a fault
  here_by : (p : ℕ) (f : Fault) (x z : Read (Row AnEntry × Bool)) → line_from edition B Whole false p ≡ x → z ≡ Err f →
      Like SameEnd x z → first_fault_from edition B p ≡ Some f
  unfolding first_fault_from
  here_by p f (Ok (x, s)) z is z_is one = let same = rw z_is at one in absurd same
  here_by p f (Err e) z is z_is one =
      let same = rw z_is at one in
      ap (λ (y : AScript). y.fault) (line_faulty edition B nothing_yet p false refl e is) ∙ ap Some same

  pub first_fault_here : (p : ℕ) (f : Fault) → line_from edition B Nothing false p ≡ Err f →
      first_fault_from edition B p ≡ Some f
  first_fault_here p f is = here_by p f (line_from edition B Whole false p)
      (line_from edition B Nothing false p) refl is
      (like false p)

  -- and it stands at most at the end of the script
  pub first_fault_here_within : (p : ℕ) (f : Fault) → p ≤ length B → line_from edition B Nothing false p ≡ Err f →
      f.at ≤ p + length (drop p B) → (first_fault_from edition B p ≡ Some f) × (f.at ≤ length B)
  first_fault_here_within p f within is high = (first_fault_here p f is, omega (arith, high, within, length-drop p B))
