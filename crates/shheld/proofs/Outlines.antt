-- The outline of a script is those of its lines, one after the other.
use Rattle.std.proofs.Common.{◌≡◌, ℕ, ◌+◌, ◌<◌, ◌≤◌, Bool, true, false, cond, List, List as Row, [], ◌∷◌, ◌++◌, drop, map, refl, sym, ap, ◌∙◌, arith, append-nil}
use Rattle.std.specs.Prelude.{All}
use Rattle.std.specs.List.{filter}
use Rattle.std.proofs.lemmas.Bool.Decides.{nat_tests}
use Rattle.std.proofs.lemmas.List.Elements.{All-append, All-cons, All-head, All-map, All-nil, All-tail, All-weaker, filter-append}
use Rattle.shast.specs.declared.node.NodeLine.{NodeLine}
use Rattle.shast.specs.Nodes.{entries_nodes, in_order, in_outline, inserted, outline, placed}
use Rattle.shgrammar.specs.declared.edition.Edition.{Edition}
use Rattle.shgrammar.specs.Lines.{AKind, blank_line, entries_line, end_line, faulty_line}
use Rattle.shgrammar.specs.Scripts.{AScript, Outcome}
use Rattle.shtree.proofs.InOrder.{before}
use Rattle.shtree.proofs.Placed.{all_in_order, placed_nowhere}
use Rattle.shwindow.specs.Lines.{IsRow, last_line, more_lines}
use Rattle.shwindow.specs.declared.line.HeldLine.{HeldLine}
use Rattle.shheld.specs.TopLines.{IsTopLine, as_read, script_of}
use Rattle.shheld.specs.Walk.{line_outline, outlines}
use Rattle.shheld.proofs.BeforeNewline.{nodes_before_end}
use Rattle.shheld.proofs.Nodes.{kind_nodes, line_nodes, lines_nodes, row_nodes}
use Rattle.shheld.proofs.Rows.{row_outcome}

-- ---- the order of nodes that begin before others

-- a node begins before this offset, or there or after it
abbrev Before : ℕ → NodeLine → Type 0
Before p n = n.start < p

abbrev From : ℕ → NodeLine → Type 0
From p n = p ≤ n.start

-- no node of these has to stand before this one
abbrev NotBefore : NodeLine → NodeLine → Type 0
NotBefore m n = before n m ≡ false

-- a node from an offset on has not to stand before one that begins before the offset
not_before : (m n : NodeLine) (p : ℕ) → m.start < p → p ≤ n.start → before n m ≡ false
not_before m n p low high = by_places m.start m.«end» n.start n.«end» (omega arith)
  where
    by_places : (s e t f : ℕ) → s < t →
        before (record { start = t; «end» = f; kind = n.kind; name = n.name })
        (record { start = s; «end» = e; kind = m.kind; name = m.name }) ≡ false
    by_places s e t f lt = grind (arith, nat_tests)

-- a node that none of the others has to stand before is put in front of them
inserted_first : (m : NodeLine) (ns : Row NodeLine) → All (NotBefore m) ns → inserted m ns ≡ m ∷ ns
inserted_first m [] so = refl
inserted_first m (n ∷ ns) so = let not_yet : before n m ≡ false = All-head (NotBefore m) n ns so in rw not_yet refl

-- whichever of the two nodes comes first, the others stay at the end
front_case : (b : Bool) (m x : NodeLine) (xs ys ms : Row NodeLine) → ms ≡ inserted m xs ++ ys →
    cond b (x ∷ ms) (m ∷ x ∷ (xs ++ ys)) ≡ cond b (x ∷ inserted m xs) (m ∷ x ∷ xs) ++ ys
front_case true m x xs ys ms is = ap (λ r. x ∷ r) is
front_case false m x xs ys ms is = refl

-- a node is put among the first of two rows if none of the second has to stand before it
inserted_front : (m : NodeLine) (xs ys : Row NodeLine) → All (NotBefore m) ys →
    inserted m (xs ++ ys) ≡ inserted m xs ++ ys
inserted_front m [] ys so = inserted_first m ys so
inserted_front m (x ∷ xs) ys so = front_case (before x m) m x xs ys (inserted m (xs ++ ys)) (inserted_front m xs ys so)

-- nodes that begin before an offset and those from there on are put in order apart from each other
pub in_order_append : (p : ℕ) (ms ns : Row NodeLine) → All (Before p) ms → All (From p) ns →
    in_order (ms ++ ns) ≡ in_order ms ++ in_order ns
in_order_append p [] ns low high = refl
in_order_append p (m ∷ ms) ns low high =
    let begins = All-head (Before p) m ms low in
    ap (inserted m) (in_order_append p ms ns (All-tail (Before p) m ms low) high)
    ∙ inserted_front m (in_order ms) (in_order ns)
    (all_in_order (NotBefore m) ns
    (All-weaker (From p) (NotBefore m) (λ n from. not_before m n p begins from) ns high))

-- ---- the nodes of lines in order

-- the nodes of a line that ended begin before its end, wherever it stands
line_begins : (edition : Edition) (T : List ℕ) (l : HeldLine AKind) → IsTopLine edition T l → l.ended ≡ true →
    (base : ℕ) → All (Before (base + l.len)) (line_nodes base l)
line_begins edition T l is ended base =
    All-map (Before (base + l.len)) (placed base) (kind_nodes l.kind)
    (All-weaker (Before l.len) (λ n. Before (base + l.len) (placed base n)) (λ n low. omega (arith, low))
    (kind_nodes l.kind) (nodes_before_end edition T (as_read l) is ended))

-- nodes at a base begin there or after it, and so do those of the lines from there on
placed_from : (p base : ℕ) (ns : Row NodeLine) → p ≤ base → All (From p) (map (placed base) ns)
placed_from p base [] le = All-nil (From p)
placed_from p base (n ∷ ns) le =
    All-cons (From p) (placed base n) (map (placed base) ns) (omega arith) (placed_from p base ns le)

lines_from : (p base : ℕ) (ls : Row (HeldLine AKind)) → p ≤ base → All (From p) (lines_nodes base ls)
lines_from p base [] le = All-nil (From p)
lines_from p base (l ∷ ls) le =
    All-append (From p) (line_nodes base l) (lines_nodes (base + l.len) ls) (placed_from p base (kind_nodes l.kind) le)
    (lines_from p (base + l.len) ls (omega arith))

-- ---- outlines

-- of a line's nodes in order, those that an outline tells are the line's outline
line_is : (base : ℕ) (k : AKind) → filter in_outline (in_order (map (placed base) (kind_nodes k))) ≡ line_outline base k
line_is base blank_line = refl
line_is base (entries_line xs) = refl
line_is base end_line = refl
line_is base (faulty_line f) = refl

-- and of the nodes of a row of lines, they are the outlines of these, one after the other
rows_outline : (edition : Edition) (T : List ℕ) (row : Row (HeldLine AKind)) → IsRow (IsTopLine edition) T row →
    (base : ℕ) → filter in_outline (in_order (lines_nodes base row)) ≡ outlines base row
rows_outline edition T _ (last_line {h = h} is not_ended whole) base =
    ap (λ ns. filter in_outline (in_order ns)) (append-nil (line_nodes base h)) ∙ line_is base h.kind
    ∙ sym (append-nil (line_outline base h.kind))
rows_outline edition T _ (more_lines {h = h} {hs = hs} is ended row) base =
    ap (filter in_outline) (in_order_append (base + h.len) (line_nodes base h) (lines_nodes (base + h.len) hs)
    (line_begins edition T h is ended base) (lines_from (base + h.len) (base + h.len) hs (omega arith)))
    ∙ filter-append in_outline (in_order (line_nodes base h)) (in_order (lines_nodes (base + h.len) hs))
    ∙ ap (λ ns. ns ++ filter in_outline (in_order (lines_nodes (base + h.len) hs))) (line_is base h.kind)
    ∙ ap (λ ns. line_outline base h.kind ++ ns) (rows_outline edition (drop h.len T) hs row (base + h.len))

-- the outline of a script is those of its lines, one after the other
pub row_outline : (edition : Edition) (B : List ℕ) (row : Row (HeldLine AKind)) → IsRow (IsTopLine edition) B row →
    outline 0 (script_of row).entries ≡ outlines 0 row
row_outline edition B row is =
    ap (λ ns. filter in_outline (in_order ns))
    (placed_nowhere (entries_nodes (script_of row).entries) ∙ row_nodes edition B row is)
    ∙ rows_outline edition B row is 0

-- as an answer for the bytes
pub row_has_outline : (edition : Edition) (B : List ℕ) (row : Row (HeldLine AKind)) → IsRow (IsTopLine edition) B row →
    (script : AScript) × Outcome edition B script × (outlines 0 row ≡ outline 0 script.entries)
row_has_outline edition B row is = (script_of row, row_outcome edition B row is, sym (row_outline edition B row is))
