-- Rows of which nodes are picked by tests.
use Rattle.std.proofs.Common.{◌≡◌, Bool, true, false, List as Row, ◌∷◌, refl, cond}
use Rattle.shast.specs.declared.node.NodeLine.{NodeLine}

-- where one of two nodes at most is picked, it is the same which of them is asked first
pub picked_comm : (p q : Bool) (m n : NodeLine) (ns : Row NodeLine) → (p ≡ true → q ≡ true → ⊥)
    → cond p (m ∷ cond q (n ∷ ns) ns) (cond q (n ∷ ns) ns) ≡ cond q (n ∷ cond p (m ∷ ns) ns) (cond p (m ∷ ns) ns)
picked_comm true true m n ns h = absurd (h refl refl)
picked_comm true false m n ns h = refl
picked_comm false true m n ns h = refl
picked_comm false false m n ns h = refl

-- rows that are equal with the same node before both, or before none, are equal
pub picked_injective : (b : Bool) (n : NodeLine) (ms ns : Row NodeLine) → cond b (n ∷ ms) ms ≡ cond b (n ∷ ns) ns →
    ms ≡ ns
picked_injective true n ms ns e = cc
picked_injective false n ms ns e = e
