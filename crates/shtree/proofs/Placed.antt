-- Nodes at a base: they stand in the order that they have without it.
use Rattle.std.proofs.Common.{◌≡◌, ℕ, zero, suc, ◌+◌, ◌-◌, ◌<◌, ◌≤◌, Bool, true, false, List as Row, [], ◌∷◌, length, map, set, get_or, refl, sym, ap, ◌∙◌, arith, cond, add-one, zero-add}
use Rattle.std.specs.Prelude.{All, ◌&&◌, nat_le, nat_lt, Option, None, Some, option_map}
use Rattle.std.specs.List.{filter}
use Rattle.std.specs.Ordering.{nat_cmp}
use Rattle.std.proofs.lemmas.Bool.Decides.{nat_tests}
use Rattle.std.proofs.lemmas.List.Elements.{All-cons, All-head, All-tail}
use Rattle.shast.specs.declared.node.NodeLine.{NodeLine}
use Rattle.shast.specs.declared.tree.Span.{Span}
use Rattle.shast.specs.Tree.{Entries}
use Rattle.shast.specs.Nodes.{by_place, entries_nodes, holds, in_order, in_outline, inserted, nodes_at, outline, placed, placed_span}
use Rattle.shast.proofs.MovedOver.{span_still}
use Rattle.shtree.proofs.InOrder.{before, filter-in_order}

-- at a base offsets compare as they do without it, and so do nodes by their places
cmp_moved : (b s t : ℕ) → nat_cmp (b + s) (b + t) ≡ nat_cmp s t
cmp_moved b s t = grind (arith, nat_tests)

by_place_moved : (b : ℕ) (m n : NodeLine) → by_place (placed b m) (placed b n) ≡ by_place m n
by_place_moved b m n = rw (cmp_moved b m.start n.start, cmp_moved b n.«end» m.«end») refl

-- so nodes are put among others, and all of them in order, as they are without it
inserted_case : (b : ℕ) (n m : NodeLine) (ms : Row NodeLine) (c : Bool) →
    inserted (placed b n) (map (placed b) ms) ≡ map (placed b) (inserted n ms)
    → cond c (placed b m ∷ inserted (placed b n) (map (placed b) ms)) (placed b n ∷ placed b m ∷ map (placed b) ms)
    ≡ map (placed b) (cond c (m ∷ inserted n ms) (n ∷ m ∷ ms))
inserted_case b n m ms true h = ap (λ r. placed b m ∷ r) h
inserted_case b n m ms false h = refl

inserted_moved : (b : ℕ) (n : NodeLine) (ms : Row NodeLine) →
    inserted (placed b n) (map (placed b) ms) ≡ map (placed b) (inserted n ms)
inserted_moved b n [] = refl
inserted_moved b n (m ∷ ms) =
    let same : before (placed b m) (placed b n) ≡ before m n = rw (by_place_moved b m n) refl in
    rw same (inserted_case b n m ms (before m n) (inserted_moved b n ms))

in_order_moved : (b : ℕ) (ns : Row NodeLine) → in_order (map (placed b) ns) ≡ map (placed b) (in_order ns)
in_order_moved b [] = refl
in_order_moved b (n ∷ ns) = rw (in_order_moved b ns) (inserted_moved b n (in_order ns))

-- nodes that f changed pass a test as they passed another before that
filter_case : (f : NodeLine → NodeLine) (n : NodeLine) (ms : Row NodeLine) (c : Bool) →
    cond c (f n ∷ map f ms) (map f ms) ≡ map f (cond c (n ∷ ms) ms)
filter_case f n ms true = refl
filter_case f n ms false = refl

filter_moved : (p q : NodeLine → Bool) (f : NodeLine → NodeLine) → ((n : NodeLine) → p (f n) ≡ q n) →
    (ns : Row NodeLine) → filter p (map f ns) ≡ map f (filter q ns)
filter_moved p q f h [] = refl
filter_moved p q f h (n ∷ ns) = rw (h n, filter_moved p q f h ns) (filter_case f n (filter q ns) (q n))

-- nodes that pass a test, found without the base
asked : (p q : NodeLine → Bool) (b : ℕ) → ((n : NodeLine) → p (placed b n) ≡ q n) → (ns : Row NodeLine)
    → map (placed b) (in_order (filter q ns)) ≡ filter p (in_order (map (placed b) ns))
asked p q b h ns =
    sym (in_order_moved b (filter q ns)) ∙ ap in_order (sym (filter_moved p q (placed b) h ns))
    ∙ sym (filter-in_order p (map (placed b) ns))

-- the outline of a list at a base is found without the base
pub outline_is : (base : ℕ) (es : Entries) →
    map (placed base) (in_order (filter in_outline (entries_nodes es))) ≡ outline base es
outline_is base es = asked in_outline in_outline base (λ n. refl) (entries_nodes es)

-- at a base a span holds an offset from there on as without it the span holds the difference
within_moved : (b at s e : ℕ) → b ≤ at →
    (nat_le (b + s) at && nat_lt at (b + e)) ≡ (nat_le s (at - b) && nat_lt (at - b) e)
within_moved b at s e h = grind (arith, nat_tests)

-- the nodes of a list at a base that hold an offset from there on are found without the base
pub nodes_at_is : (base at : ℕ) (es : Entries) → base ≤ at →
    map (placed base) (in_order (filter (holds (at - base)) (entries_nodes es))) ≡ nodes_at base at es
nodes_at_is base at es h = asked (holds at) (holds (at - base)) base (λ n. within_moved base at n.start n.«end» h)
    (entries_nodes es)

-- no node stands before the base
not_before : (b at s e : ℕ) → at < b → (nat_le (b + s) at && nat_lt at (b + e)) ≡ false
not_before b at s e h = grind (arith, nat_tests)

-- no node at a base holds an offset before it
pub none_before : (b at : ℕ) (ns : Row NodeLine) → at < b → filter (holds at) (map (placed b) ns) ≡ []
none_before b at [] h = refl
none_before b at (n ∷ ns) h = rw (not_before b at n.start n.«end» h) (none_before b at ns h)

-- so the list has no node there
pub nodes_at_none : (base at : ℕ) (es : Entries) → at < base → nodes_at base at es ≡ []
nodes_at_none base at es h =
    filter-in_order (holds at) (map (placed base) (entries_nodes es))
    ∙ ap in_order (none_before base at (entries_nodes es) h)

-- ---- what holds of each node holds in any order

module _ (P : NodeLine → Type 0) where
  all_inserted : (n : NodeLine) (ms : Row NodeLine) → P n → All P ms → All P (inserted n ms)
  all_inserted n [] h a = All-cons P n [] h a
  all_inserted n (m ∷ ms) h a =
      elim (before m n) as (λ b. All P (cond b (m ∷ inserted n ms) (n ∷ m ∷ ms))) [
        | true ↦ All-cons P m (inserted n ms) (All-head P m ms a) (all_inserted n ms h (All-tail P m ms a))
        | false ↦ All-cons P n (m ∷ ms) h a
      ]

  pub all_in_order : (ns : Row NodeLine) → All P ns → All P (in_order ns)
  all_in_order [] a = a
  all_in_order (n ∷ ns) a = all_inserted n (in_order ns) (All-head P n ns a) (all_in_order ns (All-tail P n ns a))

-- ---- nodes that are placed one by one

-- the nodes before the index stay
unfoldable pub placed_from : ℕ → Row NodeLine → ℕ → Row NodeLine
placed_from b [] i = []
placed_from b (n ∷ ns) zero = placed b n ∷ placed_from b ns zero
placed_from b (n ∷ ns) (suc i) = n ∷ placed_from b ns i

-- with the node at an index placed, those from the next index on are left
placed_suc : (b : ℕ) (ns : Row NodeLine) (i : ℕ) (d : NodeLine) → i < length ns →
    placed_from b (set ns i (placed b (get_or ns i d))) (suc i) ≡ placed_from b ns i
unfolding placed_from
placed_suc b [] i d h = absurd (omega arith)
placed_suc b (n ∷ ns) zero d h = refl
placed_suc b (n ∷ ns) (suc i) d h = ap (λ r. n ∷ r) (placed_suc b ns i d (omega arith))

pub placed_more : (b : ℕ) (ns : Row NodeLine) (i : ℕ) (n d : NodeLine) → i < length ns → n ≡ placed b (get_or ns i d) →
    placed_from b (set ns i n) (i + 1) ≡ placed_from b ns i
placed_more b ns i n d h e = rw (e, add-one) (placed_suc b ns i d h)

-- past the last one none is left, and from the first one on all of them are
pub placed_end : (b : ℕ) (ns : Row NodeLine) (i : ℕ) → length ns ≤ i → placed_from b ns i ≡ ns
unfolding placed_from
placed_end b [] i h = refl
placed_end b (n ∷ ns) zero h = absurd (omega arith)
placed_end b (n ∷ ns) (suc i) h = ap (λ r. n ∷ r) (placed_end b ns i (omega arith))

pub placed_all : (b : ℕ) (ns : Row NodeLine) → placed_from b ns 0 ≡ map (placed b) ns
unfolding placed_from
placed_all b [] = refl
placed_all b (n ∷ ns) = ap (λ r. placed b n ∷ r) (placed_all b ns)

-- at the base 0 they stand where they do without one
unplaced_name : (name : Option Span) → option_map (placed_span 0) name ≡ name
unplaced_name None = refl
unplaced_name (Some s) = ap (λ t. Some t) (span_still s)

pub placed_nowhere : (ns : Row NodeLine) → map (placed 0) ns ≡ ns
placed_nowhere [] = refl
placed_nowhere (n ∷ ns) = rw (zero-add n.start, zero-add n.«end», unplaced_name n.name, placed_nowhere ns) refl
