-- Inserting node after node gives the one row that is in order and has the same nodes at each place.
use Rattle.std.proofs.Common.{◌≡◌, ℕ, suc, ◌<◌, ◌≤◌, ◌⊎◌, inl, inr, Bool, true, false, cond, List as Row, [], ◌∷◌, get_or, All, filter, IsPermutation, is_lt, nat_cmp, refl, sym, ap, ◌∙◌, arith}
use Rattle.std.specs.Ordering.{ordering_then}
use Rattle.std.proofs.lemmas.Bool.{and_parts, both_ways, eq-eqb, eqb-true}
use Rattle.std.proofs.lemmas.Bool.Decides.{nat_tests}
use Rattle.std.proofs.lemmas.List.Kept.{AllPairs-cons}
use Rattle.std.proofs.lemmas.List.Elements.{All-cons}
use Rattle.std.proofs.lemmas.List.Sorted.{All-permutation, IsPermutation-cons, IsPermutation-middle, IsPermutation-refl, IsPermutation-trans}
use Rattle.shast.specs.declared.node.NodeLine.{NodeLine}
use Rattle.shast.specs.Nodes.{by_place, in_order, inserted}
use Rattle.shast.proofs.Picked.{picked_comm, picked_injective}
use Rattle.shlaws.specs.Order.{AreInOrder, HaveTheSameAtEachPlace, MayPrecede, stands_from}

-- ---- two places

-- from s up to e goes before from t up to f: it starts before it, or there too and is longer
abbrev is_before : ℕ → ℕ → ℕ → ℕ → Bool
is_before s e t f = is_lt (ordering_then (nat_cmp s t) (nat_cmp f e))

-- it goes before it, or both are at one place
abbrev Precedes : ℕ → ℕ → ℕ → ℕ → Type 0
Precedes s e t f = (s < t) ⊎ ((s ≡ t) × (f ≤ e))

-- what goes before may stand before
before_precedes : (s e t f : ℕ) → is_before s e t f ≡ true → Precedes s e t f
before_precedes s e t f is = grind (arith, nat_tests)

-- what does not go before may stand after
other_precedes : (s e t f : ℕ) → is_before s e t f ≡ false → Precedes t f s e
other_precedes s e t f is = grind (arith, nat_tests)

-- of two at one place none goes before the other
at_one_place : (s e t f : ℕ) → s ≡ t → e ≡ f → is_before s e t f ≡ false
at_one_place s e t f one two = grind (arith, nat_tests)

-- what may stand before the second, which may before the third, may before the third
precedes_on : (s e t f u g : ℕ) → Precedes s e t f → Precedes t f u g → Precedes s e u g
precedes_on s e t f u g (inl a) (inl b) = inl (omega arith)
precedes_on s e t f u g (inl a) (inr b) = inl (omega (arith, b.0))
precedes_on s e t f u g (inr a) (inl b) = inl (omega (arith, a.0))
precedes_on s e t f u g (inr a) (inr b) = inr (omega (arith, a.0, b.0), omega (arith, a.1, b.1))

-- where each of two may stand before the other, they are at one place
both_precede : (s e t f : ℕ) → Precedes s e t f → Precedes t f s e → (s ≡ t) × (e ≡ f)
both_precede s e t f (inl a) (inl b) = absurd (omega arith)
both_precede s e t f (inl a) (inr b) = absurd (omega (arith, b.0))
both_precede s e t f (inr a) (inl b) = absurd (omega (arith, a.0))
both_precede s e t f (inr a) (inr b) = (a.0, omega (arith, a.1, b.1))

-- ---- the same members

-- a node is inserted into a row: what comes of it has that node and those of the row
has_members : (n : NodeLine) (ms : Row NodeLine) → IsPermutation (n ∷ ms) (inserted n ms)
has_members n [] = IsPermutation-refl (n ∷ [])
has_members n (m ∷ ms) =
    elim (is_lt (by_place m n)) as (λ b. IsPermutation (n ∷ m ∷ ms)
    (cond b (m ∷ inserted n ms) (n ∷ m ∷ ms))) [
      | true ↦ IsPermutation-trans (n ∷ m ∷ ms) (m ∷ n ∷ ms) (m ∷ inserted n ms)
          (IsPermutation-middle (n ∷ []) m ms)
          (IsPermutation-cons m (n ∷ ms) (inserted n ms) (has_members n ms))
      | false ↦ IsPermutation-refl (n ∷ m ∷ ms)
    ]

-- nodes that are put in order are the same nodes
pub in_order_permutes : (ns : Row NodeLine) → IsPermutation ns (in_order ns)
in_order_permutes [] = IsPermutation-refl []
in_order_permutes (n ∷ ns) =
    IsPermutation-trans (n ∷ ns) (n ∷ in_order ns) (inserted n (in_order ns))
    (IsPermutation-cons n ns (in_order ns) (in_order_permutes ns)) (has_members n (in_order ns))

-- ---- in order

-- in a row in order the first node may stand before all others
after_first : (n : NodeLine) (ns : Row NodeLine) → AreInOrder (n ∷ ns) → All (MayPrecede n) ns
after_first n ns sorted k d lt = sorted 0 (suc k) d (omega arith) (omega arith)

-- the others are in order too
without_first : (n : NodeLine) (ns : Row NodeLine) → AreInOrder (n ∷ ns) → AreInOrder ns
without_first n ns sorted i j d lt within = sorted (suc i) (suc j) d (omega arith) (omega arith)

-- a node may stand before all of a row without nodes
none_after : (n : NodeLine) → All (MayPrecede n) []
none_after n k d lt = absurd (omega arith)

-- a row without nodes is in order
pub none_sorted : AreInOrder []
none_sorted i j d lt within = absurd (omega arith)

-- what may stand before a node may before all that this one may stand before
precedes_all : (n m : NodeLine) (ms : Row NodeLine) → MayPrecede n m → All (MayPrecede m) ms
    → All (MayPrecede n) ms
precedes_all n m ms here later k d lt =
    precedes_on n.start n.«end» m.start m.«end» (get_or ms k d).start (get_or ms k d).«end» here
    (later k d lt)

-- by whether n goes after the first node of a row: with n inserted the row is in order
sorted_by : (n m : NodeLine) (ms : Row NodeLine) (b : Bool) → is_lt (by_place m n) ≡ b → AreInOrder (m ∷ ms)
    → AreInOrder (inserted n ms) → AreInOrder (cond b (m ∷ inserted n ms) (n ∷ m ∷ ms))
sorted_by n m ms true is sorted rest =
    let before : MayPrecede m n = before_precedes m.start m.«end» n.start n.«end» is in
    let all : All (MayPrecede m) (n ∷ ms) = All-cons (MayPrecede m) n ms before (after_first m ms sorted) in
    AllPairs-cons MayPrecede m (inserted n ms)
    (All-permutation (MayPrecede m) (n ∷ ms) (inserted n ms) (has_members n ms) all) rest
sorted_by n m ms false is sorted rest =
    let before : MayPrecede n m = other_precedes m.start m.«end» n.start n.«end» is in
    let all : All (MayPrecede n) (m ∷ ms) =
    All-cons (MayPrecede n) m ms before (precedes_all n m ms before (after_first m ms sorted)) in
    AllPairs-cons MayPrecede n (m ∷ ms) all sorted

-- a row in order is in order after a node is inserted
inserted_sorted : (n : NodeLine) (ms : Row NodeLine) → AreInOrder ms → AreInOrder (inserted n ms)
inserted_sorted n [] sorted = AllPairs-cons MayPrecede n [] (none_after n) none_sorted
inserted_sorted n (m ∷ ms) sorted =
    sorted_by n m ms (is_lt (by_place m n)) refl sorted (inserted_sorted n ms (without_first m ms sorted))

-- so nodes that are put in order are in order
pub in_order_sorted : (ns : Row NodeLine) → AreInOrder (in_order ns)
in_order_sorted [] = none_sorted
in_order_sorted (n ∷ ns) = inserted_sorted n (in_order ns) (in_order_sorted ns)

-- ---- the same at each place

-- a node that is found at a place stands there
place_is : (s e : ℕ) (n : NodeLine) → stands_from s e n ≡ true → (n.start ≡ s) × (n.«end» ≡ e)
place_is s e n is =
    let both = and_parts _ _ is in
    (eqb-true n.start s both.0, eqb-true n.«end» e both.1)

-- each node is found at its own place
at_its_place : (n : NodeLine) → stands_from n.start n.«end» n ≡ true
at_its_place n = rw (eq-eqb n.start n.start refl, eq-eqb n.«end» n.«end» refl) refl

-- at each place a row with a node inserted is as with that node in front
same_by : (s e : ℕ) (n m : NodeLine) (ms : Row NodeLine) (b : Bool) → is_lt (by_place m n) ≡ b
    → filter (stands_from s e) (inserted n ms) ≡ filter (stands_from s e) (n ∷ ms)
    → filter (stands_from s e) (cond b (m ∷ inserted n ms) (n ∷ m ∷ ms)) ≡ filter (stands_from s e)
    (n ∷ m ∷ ms)
same_by s e n m ms true is rest =
    let apart : stands_from s e m ≡ true → stands_from s e n ≡ true → ⊥ = λ here there.
    let one = place_is s e m here in
    let two = place_is s e n there in
    both_ways (is_lt (by_place m n))
    (at_one_place m.start m.«end» n.start n.«end» (one.0 ∙ sym two.0) (one.1 ∙ sym two.1)) is in
    ap (λ r. cond (stands_from s e m) (m ∷ r) r) rest
    ∙ picked_comm (stands_from s e m) (stands_from s e n) m n (filter (stands_from s e) ms) apart
same_by s e n m ms false is rest = refl

inserted_same : (s e : ℕ) (n : NodeLine) (ms : Row NodeLine)
    → filter (stands_from s e) (inserted n ms) ≡ filter (stands_from s e) (n ∷ ms)
inserted_same s e n [] = refl
inserted_same s e n (m ∷ ms) = same_by s e n m ms (is_lt (by_place m n)) refl (inserted_same s e n ms)

-- so nodes that are put in order are at each place as they were
pub same_at_each : (ns : Row NodeLine) → HaveTheSameAtEachPlace (in_order ns) ns
same_at_each [] s e = refl
same_at_each (n ∷ ns) s e =
    inserted_same s e n (in_order ns) ∙ ap (λ r. cond (stands_from s e n) (n ∷ r) r) (same_at_each ns s e)

-- ---- no other row

-- what a test finds first in a row is one of the row
found_first : (P : NodeLine → Type 0) (test : NodeLine → Bool) (m : NodeLine) (ns rest : Row NodeLine)
    → All P ns → filter test ns ≡ m ∷ rest → P m
found_first P test m [] rest all is = absurd cc
found_first P test m (n ∷ ns) rest all is =
    elim (test n) as (λ b. cond b (n ∷ filter test ns) (filter test ns) ≡ m ∷ rest → P m) [
      | true ↦ λ (e : n ∷ filter test ns ≡ m ∷ rest). let same : m ≡ n = cc in rw same (all 0 n (omega arith))
      | false ↦ λ (e : filter test ns ≡ m ∷ rest). found_first P test m ns rest
          (λ k d lt. all (suc k) d (omega arith)) e
    ] is

-- the first of one row stands at no place after that of the other
not_after : (m n : NodeLine) (ns rest : Row NodeLine) (b : Bool) → stands_from m.start m.«end» n ≡ b
    → AreInOrder (n ∷ ns)
    → cond b (n ∷ filter (stands_from m.start m.«end») ns)
    (filter (stands_from m.start m.«end») ns) ≡ m ∷ rest
    → MayPrecede n m
not_after m n ns rest true is sorted found = let same : n ≡ m = cc in rw same (inr (refl, omega arith))
not_after m n ns rest false is sorted found =
    found_first (MayPrecede n) (stands_from m.start m.«end») m ns rest (after_first n ns sorted) found

-- at the place of the first node of a row that node is found first
first_here : (m : NodeLine) (ms : Row NodeLine)
    → filter (stands_from m.start m.«end») (m ∷ ms) ≡ m ∷ filter (stands_from m.start m.«end») ms
first_here m ms = rw (at_its_place m) refl

-- where rows have the same at each place, the first of the one in order may stand before that of the
-- other
place_found : (m n : NodeLine) (ms ns : Row NodeLine) → AreInOrder (n ∷ ns)
    → HaveTheSameAtEachPlace (m ∷ ms) (n ∷ ns) → MayPrecede n m
place_found m n ms ns sorted same =
    not_after m n ns (filter (stands_from m.start m.«end») ms) (stands_from m.start m.«end» n) refl sorted
    (sym (same m.start m.«end») ∙ first_here m ms)

-- rows in order that have the same at each place are equal
pub one_order : (ms ns : Row NodeLine) → AreInOrder ms → AreInOrder ns → HaveTheSameAtEachPlace ms ns
    → ms ≡ ns
one_order [] [] up there same = refl
one_order [] (n ∷ ns) up there same =
    let none : [] ≡ n ∷ filter (stands_from n.start n.«end») ns = same n.start n.«end» ∙ first_here n ns in
    absurd cc
one_order (m ∷ ms) [] up there same =
    let none : m ∷ filter (stands_from m.start m.«end») ms ≡ [] =
    sym (first_here m ms) ∙ same m.start m.«end» in
    absurd cc
one_order (m ∷ ms) (n ∷ ns) up there same =
    let place =
    both_precede m.start m.«end» n.start n.«end» (place_found n m ns ms up (λ s e. sym (same s e)))
    (place_found m n ms ns there same) in
    let at : stands_from m.start m.«end» n ≡ true = rw (place.0, place.1) (at_its_place n) in
    let fronts : m ∷ filter (stands_from m.start m.«end») ms ≡ n ∷ filter (stands_from m.start m.«end») ns =
    sym (first_here m ms) ∙ same m.start m.«end»
    ∙ ap (λ b. cond b (n ∷ filter (stands_from m.start m.«end») ns)
    (filter (stands_from m.start m.«end») ns)) at in
    let first : m ≡ n = cc in
    let rest : ms ≡ ns =
    one_order ms ns (without_first m ms up) (without_first n ns there)
    (λ s e. picked_injective (stands_from s e m) m (filter (stands_from s e) ms) (filter (stands_from s e) ns)
    (rw (← first) at (same s e))) in
    cc

-- a row in order that has the same as another at each place is that other, put in order
pub in_order_only : (ms ns : Row NodeLine) → AreInOrder ms → HaveTheSameAtEachPlace ms ns → ms ≡ in_order ns
in_order_only ms ns up same = one_order ms (in_order ns) up (in_order_sorted ns)
    (λ s e. same s e ∙ sym (same_at_each ns s e))
