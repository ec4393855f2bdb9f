-- A line without the trees in its command substitutions, and the line of the whole reading.
use Rattle.std.proofs.Common.{◌≡◌, ℕ, Bool, false, Ok, Err, List, List as Row, drop, map, subst, refl}
use Rattle.shast.specs.Moved.{blanked_row, outer_entry}
use Rattle.shast.specs.Tree.{AnEntry}
use Rattle.shgrammar.specs.declared.edition.Edition.{Edition}
use Rattle.shgrammar.specs.declared.fault.Fault.{Fault}
use Rattle.shgrammar.specs.declared.keep.Keep.TheVariants.{Outer, Whole}
use Rattle.shgrammar.specs.Form.{Read, Spelled, may}
use Rattle.shgrammar.specs.Scripts.{line_from, line_told, the_line}
use Rattle.shgrammar.specs.Sights.{State, given, standing}
use Rattle.shgrammar.specs.Moved.{SameBy, moved_fault}
use Rattle.shgrammar.proofs.LineInPiece.{outer_alone}
use Rattle.shgrammar.proofs.MovedLine.{line_outer}
use Rattle.shgrammar.proofs.OneOutcome.{computed_is_only}

module _ (e : Edition) (B : List ℕ) (p : ℕ) where
  -- what the grammar has for the line by itself, and the tokens passed
  abbrev pub MayRead : Read (Row AnEntry × Bool) → Row Spelled → Type 0
  MayRead x told = may (the_line false) (given e (drop p B) 0) (standing 0) x told

  -- what is computed of the line by itself is what the grammar has for it
  reads : (x : Read (Row AnEntry × Bool)) → line_told e B Whole false p 0 ≡ x → (told : Row Spelled) × MayRead x told
  reads x is = subst (λ y. (told : Row Spelled) × MayRead y told) is
      ((computed_is_only (the_line false) (given e (drop p B) 0) (standing 0)).some)

  -- the line at p, without the trees in its substitutions, is the line by itself, moved there, without
  -- them; its first entry is blank where that was asked for
  pub outer_line : (blank newline : Bool) (es : Row AnEntry) (t : State) →
      line_from e B Outer blank p ≡ Ok ((es, newline), t)
      → (whole : Row AnEntry) × (u : State) × (told : Row Spelled) × MayRead (Ok ((whole, newline), u)) told
      × (es ≡ blanked_row blank (map (outer_entry p) whole)) × (t.at ≡ u.at)
  outer_line blank newline es t read =
      let a = outer_alone e B p blank newline es t read in
      let told = reads (Ok ((a.0, newline), a.1)) a.2 in
      (a.0, a.1, told.0, told.1, a.3, a.4)

  -- the fault of the line at p is that of the line by itself, moved there
  fault_by : (blank : Bool) (f : Fault) (x : Read (Row AnEntry × Bool)) → line_told e B Whole false p 0 ≡ x →
      SameBy false p blank (Err f) x
      → (there : Fault) × (told : Row Spelled) × MayRead (Err there) told × (f ≡ moved_fault p there)
  fault_by blank f (Ok x) is same = absurd same
  fault_by blank f (Err there) is same = let told = reads (Err there) is in (there, told.0, told.1, same)

  pub outer_fault : (blank : Bool) (f : Fault) → line_from e B Outer blank p ≡ Err f
      → (there : Fault) × (told : Row Spelled) × MayRead (Err there) told × (f ≡ moved_fault p there)
  outer_fault blank f read =
      fault_by blank f (line_told e B Whole false p 0) refl
      (subst (λ x. SameBy false p blank x (line_told e B Whole false p 0)) read (line_outer e B p blank))
