-- The nodes of a script that hold a byte are those of the line that holds it.
use Rattle.std.proofs.Common.{◌≡◌, ℕ, ◌+◌, ◌<◌, ◌≤◌, false, List, List as Row, [], ◌∷◌, ◌++◌, drop, length, map, sym, ap, refl, ◌∙◌, arith, append-nil}
use Rattle.std.specs.Prelude.{All, ◌&&◌, nat_le, nat_lt}
use Rattle.std.specs.List.{filter}
use Rattle.std.proofs.lemmas.Bool.Decides.{nat_tests}
use Rattle.std.proofs.lemmas.List.Elements.{All-head, All-tail, filter-append}
use Rattle.shast.specs.declared.node.NodeLine.{NodeLine}
use Rattle.shast.specs.Nodes.{IsWithin, entries_nodes, holds, in_order, nodes_at, placed}
use Rattle.shgrammar.specs.declared.edition.Edition.{Edition}
use Rattle.shgrammar.specs.Lines.{AKind, blank_line, entries_line, end_line, faulty_line}
use Rattle.shgrammar.specs.Scripts.{AScript, Outcome}
use Rattle.shtree.proofs.InOrder.{filter-in_order}
use Rattle.shtree.proofs.Placed.{none_before, placed_nowhere}
use Rattle.shwindow.specs.Lines.{IsRow, extent}
use Rattle.shwindow.specs.declared.line.HeldLine.{HeldLine}
use Rattle.shwindow.proofs.Rows.{row_ended, row_extent, row_head, row_rest}
use Rattle.shheld.specs.TopLines.{IsTopLine, script_of}
use Rattle.shheld.specs.Walk.{line_nodes_at}
use Rattle.shheld.proofs.Nodes.{kind_nodes, line_nodes, line_places, lines_nodes, row_nodes, row_places}
use Rattle.shheld.proofs.Rows.{row_outcome}
use Rattle.shheld.proofs.TopLines.{top_lines}

-- ---- no node holds a byte before its line, or after it

-- what ends at n or before that holds no byte from n on
past : (at s e n : ℕ) → e ≤ n → n ≤ at → (nat_le s at && nat_lt at e) ≡ false
past at s e n low high = grind (arith, nat_tests)

-- no node that ends at n or before that holds a byte from n on
pub none_past : (at n : ℕ) (ns : Row NodeLine) → All (IsWithin n) ns → n ≤ at → filter (holds at) ns ≡ []
none_past at n [] within high = refl
none_past at n (m ∷ ms) within high =
    rw (past at m.start m.«end» n (All-head (IsWithin n) m ms within).«end» high)
    (none_past at n ms (All-tail (IsWithin n) m ms within) high)

-- nor does a node of the lines from a base on hold a byte before it
none_after : (base at : ℕ) (ls : Row (HeldLine AKind)) → at < base → filter (holds at) (lines_nodes base ls) ≡ []
none_after base at [] low = refl
none_after base at (l ∷ ls) low =
    filter-append (holds at) (line_nodes base l) (lines_nodes (base + l.len) ls)
    ∙ ap (λ ns. ns ++ filter (holds at) (lines_nodes (base + l.len) ls)) (none_before base at (kind_nodes l.kind) low)
    ∙ none_after (base + l.len) at ls (omega arith)

-- the nodes that hold a byte are those of the line in which it stands
held_by : (edition : Edition) (T : List ℕ) (before : Row (HeldLine AKind)) (l : HeldLine AKind)
    (rest : Row (HeldLine AKind)) → IsRow (IsTopLine edition) T (before ++ l ∷ rest) → (base at : ℕ)
    → base + extent before ≤ at → at < base + extent before + l.len →
    filter (holds at) (lines_nodes base (before ++ l ∷ rest))
    ≡ filter (holds at) (line_nodes (base + extent before) l)
unfolding extent
held_by edition T [] l rest row base at low high =
    let same : base ≡ base + 0 = omega arith in
    filter-append (holds at) (line_nodes base l) (lines_nodes (base + l.len) rest)
    ∙ ap (λ ns. filter (holds at) (line_nodes base l) ++ ns) (none_after (base + l.len) at rest (omega arith))
    ∙ append-nil (filter (holds at) (line_nodes base l))
    ∙ ap (λ b. filter (holds at) (line_nodes b l)) same
held_by edition T (x ∷ xs) l rest row base at low high =
    let is = row_head (IsTopLine edition) T x (xs ++ l ∷ rest) row in
    let ended = row_ended (IsTopLine edition) T x xs l rest row in
    let same : base + x.len + extent xs ≡ base + (x.len + extent xs) = omega arith in
    filter-append (holds at) (line_nodes base x) (lines_nodes (base + x.len) (xs ++ l ∷ rest))
    ∙ ap (λ ns. ns ++ filter (holds at) (lines_nodes (base + x.len) (xs ++ l ∷ rest)))
    (none_past at (base + x.len) (line_nodes base x) (line_places edition T x is base) (omega arith))
    ∙ held_by edition (drop x.len T) xs l rest (row_rest (IsTopLine edition) T x (xs ++ l ∷ rest) row ended)
    (base + x.len) at (omega arith) (omega arith)
    ∙ ap (λ b. filter (holds at) (line_nodes b l)) same

-- ---- the nodes that are asked for

-- a line tells the same nodes, whether they are picked before they are put in order or after that
asked : (base at : ℕ) (k : AKind) →
    in_order (filter (holds at) (map (placed base) (kind_nodes k))) ≡ line_nodes_at base at k
asked base at blank_line = refl
asked base at (entries_line xs) = sym (filter-in_order (holds at) (map (placed base) (entries_nodes xs)))
asked base at end_line = refl
asked base at (faulty_line f) = refl

-- the nodes of a script that hold a byte are those of its lines that do, in order
script_asked : (edition : Edition) (B : List ℕ) (row : Row (HeldLine AKind)) → IsRow (IsTopLine edition) B row →
    (at : ℕ) → nodes_at 0 at (script_of row).entries ≡ in_order (filter (holds at) (lines_nodes 0 row))
script_asked edition B row is at =
    filter-in_order (holds at) (map (placed 0) (entries_nodes (script_of row).entries))
    ∙ ap (λ ns. in_order (filter (holds at) ns))
    (placed_nowhere (entries_nodes (script_of row).entries) ∙ row_nodes edition B row is)

-- those of the line that holds the byte
pub row_nodes_at : (edition : Edition) (B : List ℕ) (before : Row (HeldLine AKind)) (l : HeldLine AKind)
    (rest : Row (HeldLine AKind)) → IsRow (IsTopLine edition) B (before ++ l ∷ rest) → (at : ℕ)
    → extent before ≤ at → at < extent before + l.len →
    nodes_at 0 at (script_of (before ++ l ∷ rest)).entries ≡ line_nodes_at (extent before) at l.kind
row_nodes_at edition B before l rest row at low high =
    let same : 0 + extent before ≡ extent before = omega arith in
    script_asked edition B (before ++ l ∷ rest) row at
    ∙ ap in_order (held_by edition B before l rest row 0 at (omega arith) (omega arith)
    ∙ ap (λ b. filter (holds at) (line_nodes b l)) same)
    ∙ asked (extent before) at l.kind

-- at or past the end there are none
pub row_nodes_past : (edition : Edition) (B : List ℕ) (row : Row (HeldLine AKind)) → IsRow (IsTopLine edition) B row →
    (at : ℕ) → length B ≤ at → nodes_at 0 at (script_of row).entries ≡ []
row_nodes_past edition B row is at high =
    script_asked edition B row is at
    ∙ ap in_order (none_past at (0 + extent row) (lines_nodes 0 row) (row_places edition B row is 0)
    (omega (arith, high, row_extent (IsTopLine edition) (top_lines edition) B row is)))

-- ---- as an answer for the bytes

-- the grammar gives a script for them whose nodes at the byte are those that the line tells
pub row_has_nodes : (edition : Edition) (B : List ℕ) (before : Row (HeldLine AKind)) (l : HeldLine AKind)
    (rest : Row (HeldLine AKind)) → IsRow (IsTopLine edition) B (before ++ l ∷ rest) → (at : ℕ)
    → extent before ≤ at → at < extent before + l.len → (script : AScript) × Outcome edition B script
    × (line_nodes_at (extent before) at l.kind ≡ nodes_at 0 at script.entries)
row_has_nodes edition B before l rest row at low high = (
  script_of (before ++ l ∷ rest),
  row_outcome edition B (before ++ l ∷ rest) row,
  sym (row_nodes_at edition B before l rest row at low high),
)

-- and one with no node there, where the offset is at or past the end of the bytes
pub row_has_none : (edition : Edition) (B : List ℕ) (row : Row (HeldLine AKind)) → IsRow (IsTopLine edition) B row →
    (at : ℕ) → length B ≤ at → (script : AScript) × Outcome edition B script × ([] ≡ nodes_at 0 at script.entries)
row_has_none edition B row is at high =
    (script_of row, row_outcome edition B row is, sym (row_nodes_past edition B row is at high))
