-- The last line that a session holds, and the first fault of its script.
use Rattle.std.proofs.Common.{◌≡◌, ℕ, ◌+◌, ◌-◌, ◌≤◌, [], ◌∷◌, ◌++◌, List, List as Row, false, is_some, Option, None, Some, length, refl, sym, ap, subst, ◌∙◌, arith}
use Rattle.shgrammar.specs.declared.edition.Edition.{Edition}
use Rattle.shgrammar.specs.declared.fault.Fault.{Fault}
use Rattle.shgrammar.specs.Lines.{AKind, FaultWithin, blank_line, end_line, entries_line, faulty_line}
use Rattle.shgrammar.specs.Moved.{moved_fault}
use Rattle.shgrammar.specs.Scripts.{AScript, FirstFault, Outcome}
use Rattle.shast.specs.Shape.{shape_of}
use Rattle.shprint.specs.declared.layout.Layout.{Layout}
use Rattle.shprint.specs.Printed.{printed}
use Rattle.shprint.specs.ReadBack.{IsTextOf, ReadsBack}
use Rattle.shprint.proofs.ReadBack.{reads_back}
use Rattle.shwindow.specs.declared.line.HeldLine.{HeldLine}
use Rattle.shwindow.specs.Lines.{IsRow, extent}
use Rattle.shheld.specs.TopLines.{script_of}
use Rattle.shheld.specs.Walk.{fault_at}
use Rattle.shheld.proofs.Rows.{last_at, row_fault, row_outcome}
use Rattle.shlive.specs.HeldLines.{IsHeldLine, fault_in}
use Rattle.shlive.proofs.TopLines.{last_within, row_top}
use Rattle.shlive.proofs.OneAnswer.{one_fault}

-- the fault of a line is moved to where that begins; where it has none there is none
fault_there : (k : AKind) (base : ℕ) (f : Fault) → fault_in k ≡ Some f → fault_at base k ≡ Some (moved_fault base f)
fault_there (faulty_line g) base f e = ap (λ (o : Option Fault). moved o) e
  where
    moved : Option Fault → Option Fault
    moved None = None
    moved (Some h) = Some (moved_fault base h)
fault_there blank_line base f e = absurd cc
fault_there (entries_line es) base f e = absurd cc
fault_there end_line base f e = absurd cc

none_there : (k : AKind) (base : ℕ) → fault_in k ≡ None → fault_at base k ≡ None
none_there (faulty_line g) base e = absurd cc
none_there blank_line base e = refl
none_there (entries_line es) base e = refl
none_there end_line base e = refl

-- a fault that stands within n bytes has an offset of n at most
low_by : (k : AKind) (n : ℕ) (f : Fault) → FaultWithin n k → fault_in k ≡ Some f → f.at ≤ n
low_by (faulty_line g) n f low e = subst (λ (o : Option Fault). low_of o) e low
  where
    low_of : Option Fault → Type 0
    low_of None = Unit {0}
    low_of (Some h) = h.at ≤ n
low_by blank_line n f low e = absurd cc
low_by (entries_line es) n f low e = absurd cc
low_by end_line n f low e = absurd cc

module _ (edition : Edition) (B : List ℕ) (row : Row (HeldLine AKind)) (is : IsRow (IsHeldLine edition) B row)
    (before : Row (HeldLine AKind)) (l : HeldLine AKind) (split : row ≡ before ++ l ∷ []) where
  -- the row with its last line apart
  last_row : IsRow (IsHeldLine edition) B (before ++ l ∷ [])
  last_row = subst (IsRow (IsHeldLine edition) B) split is

  -- the last line ends where the text does, so it is no longer than that
  last_end : extent before + l.len ≡ length B
  last_end = last_at edition B before l (row_top edition B (before ++ l ∷ []) last_row)

  pub last_low : l.len ≤ length B
  last_low = omega (arith, last_end)

  -- its fault stands in it, or at its end
  pub fault_low : (f : Fault) → fault_in l.kind ≡ Some f → f.at ≤ l.len
  fault_low f e = low_by l.kind l.len f (last_within edition B before l last_row) e

  -- that is the first fault of the script; where the line has none, the script has none
  pub is_fault : (f : Fault) → fault_in l.kind ≡ Some f →
      FirstFault edition B (Some (record { kind = f.kind; at = length B - l.len + f.at }))
  is_fault f e =
      let base : extent before ≡ length B - l.len = omega (arith, last_end) in
      subst (FirstFault edition B) (fault_there l.kind (extent before) f e ∙ ap (λ n. Some (moved_fault n f)) base)
      (row_fault edition B before l (row_top edition B (before ++ l ∷ []) last_row))

  pub is_none : fault_in l.kind ≡ None → FirstFault edition B None
  is_none e = subst (FirstFault edition B) (none_there l.kind (extent before) e)
      (row_fault edition B before l (row_top edition B (before ++ l ∷ []) last_row))

-- ---- the script of the lines

-- an option that is not some is none, and none is not some
pub not_some_is_none : (f : Option Fault) → is_some f ≡ false → f ≡ None
not_some_is_none None e = refl
not_some_is_none (Some f) e = absurd cc

none_some : (f : Fault) → None ≡ Some f → ⊥
none_some f e = cc

-- a script whose first fault is none has no first fault besides
pub no_fault : (edition : Edition) (B : List ℕ) (f : Option Fault) → FirstFault edition B f → is_some f ≡ false →
    (g : Fault) → FirstFault edition B (Some g) → ⊥
no_fault edition B f first none g other =
    none_some g (sym (not_some_is_none f none) ∙ one_fault edition B f (Some g) first other)

-- where the script has no fault, what is printed for the entries of its lines is its printed text
pub text_of_row : (edition : Edition) (y : Layout) (B : List ℕ) (row : Row (HeldLine AKind)) →
    IsRow (IsHeldLine edition) B row → FirstFault edition B None → (text : List ℕ) →
    text ≡ printed y (shape_of B (script_of row).entries) → IsTextOf edition y B text
text_of_row edition y B row is none text text_is =
    let es = (script_of row).entries in
    let script : AScript = record { entries = es; fault = None } in
    let all = row_outcome edition B row (row_top edition B row is) in
    let outcome : Outcome edition B script =
    subst (λ w. Outcome edition B (record { entries = es; fault = w }))
    (one_fault edition B (script_of row).fault None (es, all) none) all in
    record {
      script = script;
      outcome = outcome;
      faultless = refl;
      is = text_is;
      reads_back = subst (λ t. ReadsBack edition t (shape_of B es)) (sym text_is)
          (reads_back edition y B script outcome);
    }
