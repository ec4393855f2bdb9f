-- What the contracts of the reader say follows from what its functions compute.
use Rattle.std.proofs.Common.{◌≡◌, ℕ, List, sym, ap, subst, ◌∙◌}
use Rattle.shgrammar.specs.Lines.{ALine, IsLine}
use Rattle.shgrammar.specs.Scripts.{AScript, Outcome, FirstFault, script_at, line_of_text, first_fault_from}
use Rattle.shgrammar.proofs.Scripts.{line_is, line_only, script_is, script_only}
use Rattle.shgrammar.specs.declared.edition.Edition.{Edition}

-- what is computed for a text is the line with which it begins, and no other is
pub line_answered : (edition : Edition) → (T : List ℕ) (l : ALine) → l ≡ line_of_text edition T → IsLine edition T l
line_answered edition T l is = subst (IsLine edition T) (sym is) (line_is edition T)

pub line_alone : (edition : Edition) → (T : List ℕ) (l : ALine) → l ≡ line_of_text edition T → (a : ALine) →
    IsLine edition T a → a ≡ l
line_alone edition T l is a other = line_only edition T a other ∙ sym is

-- what is computed for a script is its outcome, and no other is
pub script_answered : (edition : Edition) → (B : List ℕ) (s : AScript) → s ≡ script_at edition B → Outcome edition B s
script_answered edition B s is = subst (Outcome edition B) (sym is) (script_is edition B)

pub script_alone : (edition : Edition) → (B : List ℕ) (s : AScript) → s ≡ script_at edition B → (a : AScript) →
    Outcome edition B a → a ≡ s
script_alone edition B s is a other = script_only edition B a other ∙ sym is

-- what is computed as its first fault, or none, is that of its outcome
pub fault_answered : (edition : Edition) → (B : List ℕ) (f : _) → f ≡ first_fault_from edition B 0 →
    FirstFault edition B f
unfolding first_fault_from script_at
fault_answered edition B f is = (
  (script_at edition B).entries,
  subst (λ z. Outcome edition B (record { entries = (script_at edition B).entries; fault = z })) (sym is)
      (script_is edition B),
)

pub fault_alone : (edition : Edition) → (B : List ℕ) (f : _) → f ≡ first_fault_from edition B 0 → (a : AScript) →
    Outcome edition B a → a.fault ≡ f
unfolding first_fault_from script_at
fault_alone edition B f is a other = ap (λ (s : AScript). s.fault) (script_only edition B a other) ∙ sym is
