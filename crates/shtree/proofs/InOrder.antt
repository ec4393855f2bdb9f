-- A stable sort by their places puts nodes in the order of the definition: there is one such order.
use Rattle.std.proofs.Common.{◌≡◌, ℕ, suc, ◌<◌, ◌≤◌, Bool, true, false, List as Row, [], ◌∷◌, length, get_or, refl, sym, ap, ◌∙◌, arith, cond}
use Rattle.std.specs.Prelude.{not, ◌&&◌}
use Rattle.std.specs.List.{filter}
use Rattle.std.specs.Cmp.{IsStrictWeakOrder}
use Rattle.std.specs.List.Sorted.{IsSortedBy, IsStableBy, ties}
use Rattle.std.specs.Ordering.{is_lt, nat_cmp, ordering_then}
use Rattle.std.proofs.lemmas.Bool.Decides.{nat_tests}
use Rattle.std.proofs.lemmas.List.Sorted.{answers_always, sorted_far}
use Rattle.std.specs.Fn.{Called, ComparesAs}
use Rattle.std.specs.declared.cmp.Ordering.{Ordering}
use denote.Param.Members.{Mut}
use denote.Ref.{Bor}
use Rattle.shast.specs.declared.node.NodeLine.{NodeLine}
use Rattle.shast.specs.Nodes.{by_place, in_order, inserted}
use Rattle.shast.proofs.Picked.{picked_comm, picked_injective}

-- ---- a node that has to stand before another

-- it begins before the other, or at the same offset and ends after it
abbrev pub before : NodeLine → NodeLine → Bool
before a b = is_lt (by_place a b)

-- the same, told by where they begin and end: the one at s and e, the other at t and f
abbrev rank : ℕ → ℕ → ℕ → ℕ → Bool
rank s e t f = is_lt (ordering_then (nat_cmp s t) (nat_cmp f e))

-- of two nodes one at most has to
rank_one_way : (s e t f : ℕ) → rank s e t f ≡ true → rank t f s e ≡ false
rank_one_way s e t f h = grind (arith, nat_tests)

-- if a first has not to before a second, nor that before a third, the first has not to before the third
rank_chain : (s e t f u g : ℕ) → rank s e t f ≡ false → rank t f u g ≡ false → rank s e u g ≡ false
rank_chain s e t f u g h k = grind (arith, nat_tests)

-- so it is an order, in which nodes may be tied
pub before_is_order : IsStrictWeakOrder before
before_is_order = record {
  one_way = λ a b h. rank_one_way a.start a.«end» b.start b.«end» h;
  chain = λ a b c h k. rank_chain a.start a.«end» b.start b.«end» c.start c.«end» h k;
}

-- no node has to stand before itself
rank_self : (s e : ℕ) → rank s e s e ≡ false
rank_self s e = grind (arith, nat_tests)

-- neither of two nodes has to stand before the other
abbrev tied : NodeLine → NodeLine → Bool
tied = ties before

-- so a node is tied with itself
tied_self : (n : NodeLine) → tied n n ≡ true
tied_self n = rw (rank_self n.start n.«end») refl

-- of two tests neither of which holds, each fails
neither : (p q : Bool) → (not p && not q) ≡ true → (p ≡ false) × (q ≡ false)
neither true q h = absurd (cc)
neither false true h = absurd (cc)
neither false false h = (refl, refl)

-- of two nodes that are tied with a third one, neither has to stand before the other
both_tied : (x m n : NodeLine) → tied x m ≡ true → tied x n ≡ true → before m n ≡ false
both_tied x m n h k = before_is_order.chain m x n (neither (before x m) (before m x) h).1
    (neither (before x n) (before n x) k).0

-- ---- nodes in order, by recursion

-- none of the nodes has to stand before this one
abbrev Above : NodeLine → Row NodeLine → Type 0
Above n [] = Unit {0}
Above n (m ∷ ms) = (before m n ≡ false) × Above n ms

-- nodes are in order: none has to stand before one that stands before it
abbrev Up : Row NodeLine → Type 0
Up [] = Unit {0}
Up (n ∷ ns) = Above n ns × Up ns

-- the same two, told by the nodes at their indices
above_of : (n : NodeLine) (ms : Row NodeLine) → ((k : ℕ) → k < length ms → before (get_or ms k n) n ≡ false) →
    Above n ms
above_of n [] h = tt
above_of n (m ∷ ms) h = (h 0 (omega arith), above_of n ms (λ k p. h (suc k) (omega arith)))

up_of : (ns : Row NodeLine) → ((i j : ℕ) (d : NodeLine) → i ≤ j → j < length ns →
    before (get_or ns j d) (get_or ns i d) ≡ false) → Up ns
up_of [] h = tt
up_of (n ∷ ns) h = (
  above_of n ns (λ k p. h 0 (suc k) n (omega arith) (omega arith)),
  up_of ns (λ i j d p q. h (suc i) (suc j) d (omega arith) (omega arith)),
)

-- sorted nodes are in order
up_sorted : (ns : Row NodeLine) → IsSortedBy before ns → Up ns
up_sorted ns h = up_of ns (λ i j d p q. sorted_far before before_is_order ns h i j d p q)

-- with one more that has not to, none of the nodes has to stand before x
above_inserted : (x n : NodeLine) (ms : Row NodeLine) → before n x ≡ false → Above x ms → Above x (inserted n ms)
above_inserted x n [] h a = (h, tt)
above_inserted x n (m ∷ ms) h a =
    elim (before m n) as (λ b. Above x (cond b (m ∷ inserted n ms) (n ∷ m ∷ ms))) [
      | true ↦ (a.0, above_inserted x n ms h a.1)
      | false ↦ (h, a)
    ]

-- what has not to stand before m has not to before n, if m has not to
above_chain : (n m : NodeLine) (ms : Row NodeLine) → before m n ≡ false → Above m ms → Above n ms
above_chain n m [] h a = tt
above_chain n m (x ∷ xs) h a = (before_is_order.chain x m n a.0 h, above_chain n m xs h a.1)

-- nodes in order stay so with a node more put among them, whichever comes first
up_case : (n m : NodeLine) (ms : Row NodeLine) (b : Bool) → before m n ≡ b → Up (m ∷ ms) → Up (inserted n ms) →
    Up (cond b (m ∷ inserted n ms) (n ∷ m ∷ ms))
up_case n m ms true e u v = (above_inserted m n ms (before_is_order.one_way m n e) u.0, v)
up_case n m ms false e u v = ((e, above_chain n m ms e u.0), u)

up_inserted : (n : NodeLine) (ms : Row NodeLine) → Up ms → Up (inserted n ms)
up_inserted n [] u = (tt, tt)
up_inserted n (m ∷ ms) u = up_case n m ms (before m n) refl u (up_inserted n ms u.1)

-- so the definition puts nodes in order
up_in_order : (ns : Row NodeLine) → Up (in_order ns)
up_in_order [] = tt
up_in_order (n ∷ ns) = up_inserted n (in_order ns) (up_in_order ns)

-- of nodes in order, those that pass a test are in order
above_filter : (p : NodeLine → Bool) (n : NodeLine) (ms : Row NodeLine) → Above n ms → Above n (filter p ms)
above_filter p n [] a = tt
above_filter p n (m ∷ ms) a =
    elim (p m) as (λ b. Above n (cond b (m ∷ filter p ms) (filter p ms))) [
      | true ↦ (a.0, above_filter p n ms a.1)
      | false ↦ above_filter p n ms a.1
    ]

up_filter : (p : NodeLine → Bool) (ns : Row NodeLine) → Up ns → Up (filter p ns)
up_filter p [] u = tt
up_filter p (n ∷ ns) u =
    elim (p n) as (λ b. Up (cond b (n ∷ filter p ns) (filter p ns))) [
      | true ↦ (above_filter p n ns u.0, up_filter p ns u.1)
      | false ↦ up_filter p ns u.1
    ]

-- ---- tied nodes keep their order

-- put among nodes, a node comes first of those of them that are tied with x, if it is
tied_case : (x n m : NodeLine) (ms : Row NodeLine) (b : Bool) → before m n ≡ b →
    filter (tied x) (inserted n ms) ≡ filter (tied x) (n ∷ ms)
    → filter (tied x) (cond b (m ∷ inserted n ms) (n ∷ m ∷ ms)) ≡ filter (tied x) (n ∷ m ∷ ms)
tied_case x n m ms true e h =
    let apart : tied x m ≡ true → tied x n ≡ true → ⊥ = λ p q. let no : before m n ≡ false = both_tied x m n p q in
    cc in
    ap (λ r. cond (tied x m) (m ∷ r) r) h ∙ picked_comm (tied x m) (tied x n) m n (filter (tied x) ms) apart
tied_case x n m ms false e h = refl

tied_inserted : (x n : NodeLine) (ms : Row NodeLine) → filter (tied x) (inserted n ms) ≡ filter (tied x) (n ∷ ms)
tied_inserted x n [] = refl
tied_inserted x n (m ∷ ms) = tied_case x n m ms (before m n) refl (tied_inserted x n ms)

-- so nodes in order have those that are tied with x as they were
tied_in_order : (x : NodeLine) (ns : Row NodeLine) → filter (tied x) (in_order ns) ≡ filter (tied x) ns
tied_in_order x [] = refl
tied_in_order x (n ∷ ns) = tied_inserted x n (in_order ns) ∙ ap (λ r. cond (tied x n) (n ∷ r) r) (tied_in_order x ns)

-- ---- one order

-- where no node has to stand before n, the first one that passes a test has not to
found_above : (p : NodeLine → Bool) (n m : NodeLine) (ms rest : Row NodeLine) → Above n ms → filter p ms ≡ m ∷ rest →
    before m n ≡ false
found_above p n m [] rest a e = absurd (cc)
found_above p n m (x ∷ xs) rest a e =
    elim (p x) as (λ b. cond b (x ∷ filter p xs) (filter p xs) ≡ m ∷ rest → before m n ≡ false) [
      | true ↦ λ (k : x ∷ filter p xs ≡ m ∷ rest). let same : m ≡ x = cc in rw same a.0
      | false ↦ λ (k : filter p xs ≡ m ∷ rest). found_above p n m xs rest a.1 k
    ] e

-- nodes that are not tied one way are not tied the other way
either_way : (p q : Bool) → (not p && not q) ≡ false → (not q && not p) ≡ false
either_way true true h = refl
either_way true false h = refl
either_way false true h = refl
either_way false false h = h

-- two rows in order, with the same nodes tied with each node, begin with nodes that are tied
first_tied : (b : Bool) (m n : NodeLine) (ms ns : Row NodeLine) → tied m n ≡ b → Above m ms → Above n ns
    → m ∷ filter (tied m) ms ≡ cond b (n ∷ filter (tied m) ns) (filter (tied m) ns)
    → cond (tied n m) (m ∷ filter (tied n) ms) (filter (tied n) ms) ≡ n ∷ filter (tied n) ns → tied m n ≡ true
first_tied true m n ms ns e u v h k = e
first_tied false m n ms ns e u v h k =
    let a : before m n ≡ false = found_above (tied m) n m ns (filter (tied m) ms) v (sym h) in
    let other : tied n m ≡ false = either_way (before m n) (before n m) e in
    let front : filter (tied n) ms ≡ n ∷ filter (tied n) ns = rw other at k in
    let b : before n m ≡ false = found_above (tied n) m n ms (filter (tied n) ns) u front in
    rw (a, b) refl

-- and they are one row
pub one_order : (ms ns : Row NodeLine) → Up ms → Up ns → ((x : NodeLine) → filter (tied x) ms ≡ filter (tied x) ns) →
    ms ≡ ns
one_order [] [] u v h = refl
one_order [] (n ∷ ns) u v h =
    let e : [] ≡ n ∷ filter (tied n) ns = rw tied_self at (h n) in
    absurd (cc)
one_order (m ∷ ms) [] u v h =
    let e : m ∷ filter (tied m) ms ≡ [] = rw tied_self at (h m) in
    absurd (cc)
one_order (m ∷ ms) (n ∷ ns) u v h =
    let t : tied m n ≡ true = first_tied (tied m n) m n ms ns refl u.0 v.0 (rw tied_self at (h m))
    (rw tied_self at (h n)) in
    let fronts : m ∷ filter (tied m) ms ≡ n ∷ filter (tied m) ns = rw (tied_self m, t) at (h m) in
    let same : m ≡ n = cc in
    let rest : ms ≡ ns = one_order ms ns u.1 v.1
    (λ x. picked_injective (tied x m) m (filter (tied x) ms) (filter (tied x) ns) (rw (← same) at (h x))) in
    cc

-- what a stable sort gives
pub in_order_is : (ms ns : Row NodeLine) → IsSortedBy before ns → IsStableBy before ms ns → ns ≡ in_order ms
in_order_is ms ns sorted stable =
    one_order ns (in_order ms) (up_sorted ns sorted) (up_in_order ms) (λ x. stable x ∙ sym (tied_in_order x ms))

-- so does `sort_by`, where its comparison answers as `by_place`
pub in_order_from_sort_by : {F : Type 0} {g : Mut F (Bor NodeLine × (Bor NodeLine × Unit {0})) Ordering} {f : F}
    (ms ns : Row NodeLine)
    → ((lt : NodeLine → NodeLine → Bool) → IsStrictWeakOrder lt → ComparesAs g lt f → IsSortedBy lt ns)
    → ((lt : NodeLine → NodeLine → Bool) → IsStrictWeakOrder lt → ComparesAs g lt f → IsStableBy lt ms ns)
    → ((f : F) (a : Bor NodeLine × (Bor NodeLine × Unit {0})) (r : Ordering) (f' : F) → Called g f a r f' →
    r ≡ by_place a.0.now a.1.0.now)
    → ns ≡ in_order ms
in_order_from_sort_by {g = g} {f = f} ms ns sorted stable answers =
    let compares : ComparesAs g before f =
    answers_always g (λ a r. is_lt r ≡ before a.0.now a.1.0.now) f (λ q a r q' k. ap is_lt (answers q a r q' k)) in
    in_order_is ms ns (sorted before before_is_order compares) (stable before before_is_order compares)

-- ---- the order, of nodes that pass a test and of nodes that move

-- of two tests it is the same which is made first
tests_commute : (p q : NodeLine → Bool) (ns : Row NodeLine) → filter p (filter q ns) ≡ filter q (filter p ns)
tests_commute p q [] = refl
tests_commute p q (n ∷ ns) = tests_case (p n) (q n) refl refl (tests_commute p q ns)
  where
    tests_case : (b c : Bool) → p n ≡ b → q n ≡ c → filter p (filter q ns) ≡ filter q (filter p ns)
        → filter p (cond c (n ∷ filter q ns) (filter q ns)) ≡ filter q (cond b (n ∷ filter p ns) (filter p ns))
    tests_case true true e f h = rw (e, f) (ap (λ r. n ∷ r) h)
    tests_case true false e f h = rw f h
    tests_case false true e f h = rw e h
    tests_case false false e f h = h

-- nodes that pass a test are the same in order, picked before they are put so or after that
pub filter-in_order : (p : NodeLine → Bool) (ns : Row NodeLine) → filter p (in_order ns) ≡ in_order (filter p ns)
filter-in_order p ns =
    one_order (filter p (in_order ns)) (in_order (filter p ns)) (up_filter p (in_order ns) (up_in_order ns))
    (up_in_order (filter p ns))
    (λ x. tests_commute (tied x) p (in_order ns) ∙ ap (filter p) (tied_in_order x ns) ∙ tests_commute p (tied x) ns
    ∙ sym (tied_in_order x (filter p ns)))
