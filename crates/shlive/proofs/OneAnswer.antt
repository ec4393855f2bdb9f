-- Bytes have one answer to each question.
use Rattle.std.proofs.Common.{◌≡◌, ℕ, List, Option, None, Some, sym, ap, ◌∙◌, refl}
use Rattle.shast.specs.Nodes.{nodes_at, outline}
use Rattle.shast.specs.Shape.{shape_of}
use Rattle.shast.specs.declared.node.NodeLine.{NodeLine}
use Rattle.shgrammar.specs.Scripts.{AScript, FirstFault, Outcome}
use Rattle.shgrammar.specs.declared.edition.Edition.{Edition}
use Rattle.shgrammar.specs.declared.fault.Fault.{Fault}
use Rattle.shgrammar.proofs.Scripts.{script_only}
use Rattle.shprint.specs.Printed.{printed}
use Rattle.shlive.specs.Answers.{HasNodesAt, HasOutline, HasStatus, HasText, status_of}
use Rattle.shlive.specs.Held.{SessionOptions}

module _ (edition : Edition) (B : List ℕ) where
  -- there is one script of the bytes, one first fault, status and outline, and one row of nodes at an offset
  one_script : (s t : AScript) → Outcome edition B s → Outcome edition B t → s ≡ t
  one_script s t p q = script_only edition B s p ∙ sym (script_only edition B t q)

  pub one_fault : (x y : Option Fault) → FirstFault edition B x → FirstFault edition B y → x ≡ y
  one_fault x y p q = ap (λ (s : AScript). s.fault) (one_script _ _ p.1 q.1)

  pub one_status : (x y : ℕ) → HasStatus edition B x → HasStatus edition B y → x ≡ y
  one_status x y p q = p.2 ∙ ap status_of (one_fault p.0 q.0 p.1 q.1) ∙ sym q.2

  pub one_outline : (x y : List NodeLine) → HasOutline edition B x → HasOutline edition B y → x ≡ y
  one_outline x y p q = p.2 ∙ ap (λ (s : AScript). outline 0 s.entries) (one_script p.0 q.0 p.1 q.1) ∙ sym q.2

  pub one_row_of_nodes : (at : ℕ) (x y : List NodeLine) → HasNodesAt edition B at x → HasNodesAt edition B at y → x ≡ y
  one_row_of_nodes at x y p q = p.2 ∙ ap (λ (s : AScript). nodes_at 0 at s.entries) (one_script p.0 q.0 p.1 q.1)
      ∙ sym q.2

  -- a script without a fault is not that of bytes that have one
  no_text : (s : AScript) (f : Fault) → Outcome edition B s → s.fault ≡ None → FirstFault edition B (Some f) → ⊥
  no_text s f p none first =
      let wrong : Some f ≡ None = ap (λ (t : AScript). t.fault) (one_script _ _ first.1 p) ∙ none in absurd cc

module _ (how : SessionOptions) (B : List ℕ) where
  -- there is one printed text, or none
  pub one_text : (x y : Option (List ℕ)) → HasText how B x → HasText how B y → x ≡ y
  one_text None None p q = refl
  one_text None (Some y) p q = absurd (no_text how.edition B q.script p.0 q.outcome q.faultless p.1)
  one_text (Some x) None p q = absurd (no_text how.edition B p.script q.0 p.outcome p.faultless q.1)
  one_text (Some x) (Some y) p q =
      ap Some (p.is ∙ ap (λ (s : AScript). printed how.layout (shape_of B s.entries))
      (one_script how.edition B p.script q.script p.outcome q.outcome) ∙ sym q.is)
