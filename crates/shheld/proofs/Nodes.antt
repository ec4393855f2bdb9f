-- The nodes of the script of a row are those of its lines, each where its line stands.
use Rattle.std.proofs.Common.{◌≡◌, ℕ, ◌+◌, Bool, List, List as Row, [], ◌∷◌, ◌++◌, drop, length, map, sym, ap, refl, ◌∙◌, arith, append_assoc, append-nil}
use Rattle.std.specs.Prelude.{All, ◌&&◌}
use Rattle.std.proofs.lemmas.List.Elements.{All-append, All-nil, All-same}
use Rattle.shast.specs.declared.node.NodeLine.{NodeLine}
use Rattle.shast.specs.Moved.{appended, moved}
use Rattle.shast.specs.Nodes.{IsWithin, NodesWithin, entries_nodes, entry_nodes, placed}
use Rattle.shast.specs.Tree.{Entries, entry, more_entries, no_entry}
use Rattle.shast.proofs.NodesMoved.{nodes_moved, within_moved}
use Rattle.shast.proofs.Reach.{within_more}
use Rattle.shgrammar.specs.declared.edition.Edition.{Edition}
use Rattle.shgrammar.specs.Joined.{blanked, has_entry}
use Rattle.shgrammar.specs.Lines.{AKind, EntrySpansWithin, EntryNodesWithin, blank_line, entries_line, end_line, faulty_line}
use Rattle.shgrammar.proofs.SpansInLimit.{line_everywhere}
use Rattle.shgrammar.proofs.NodesInLimit.{entries_within}
use Rattle.shwindow.specs.Lines.{IsRow, extent, last_line, more_lines}
use Rattle.shwindow.specs.declared.line.HeldLine.{HeldLine}
use Rattle.shwindow.proofs.Rows.{row_extent}
use Rattle.shheld.specs.TopLines.{IsTopLine, as_read, script_of}
use Rattle.shheld.specs.Walk.{Walk, entries_with, no_line, with_line, with_lines}
use Rattle.shheld.proofs.Rows.{row_entries}
use Rattle.shheld.proofs.TopLines.{top_lines}

-- ---- one list after another

-- the nodes of one list after another are those of the one and then those of the other
nodes_appended : (es ls : Entries) → entries_nodes (appended es ls) ≡ entries_nodes es ++ entries_nodes ls
nodes_appended no_entry ls = refl
nodes_appended (more_entries e es) ls = ap (λ ns. entry_nodes e ++ ns) (nodes_appended es ls)
    ∙ sym (append_assoc (entry_nodes e) (entries_nodes es) (entries_nodes ls))

-- nodes do not tell of empty lines
nodes_blanked : (blank : Bool) (es : Entries) → entries_nodes (blanked blank es) ≡ entries_nodes es
nodes_blanked blank no_entry = refl
nodes_blanked blank (more_entries (entry what background b comment) es) = refl

-- ---- the nodes of lines

-- the nodes of a line, as they stand in the line itself
abbrev pub kind_nodes : AKind → Row NodeLine
kind_nodes (entries_line xs) = entries_nodes xs
kind_nodes _ = []

-- those of a line that begins at the base, and of all lines from the base on
abbrev pub line_nodes : ℕ → HeldLine AKind → Row NodeLine
line_nodes base l = map (placed base) (kind_nodes l.kind)

abbrev pub lines_nodes : ℕ → Row (HeldLine AKind) → Row NodeLine
lines_nodes base [] = []
lines_nodes base (l ∷ ls) = line_nodes base l ++ lines_nodes (base + l.len) ls

-- with one line more, a walk has that line's nodes after those that it had
nodes_with : (n : ℕ) (so : Walk) (k : AKind) → EntrySpansWithin n k →
    entries_nodes (entries_with so k) ≡ entries_nodes so.entries ++ map (placed so.at) (kind_nodes k)
nodes_with n so blank_line all = sym (append-nil (entries_nodes so.entries))
nodes_with n so (entries_line xs) all =
    nodes_appended so.entries (blanked (so.gap && has_entry so.entries) (moved so.at xs))
    ∙ ap (λ ns. entries_nodes so.entries ++ ns)
    (nodes_blanked (so.gap && has_entry so.entries) (moved so.at xs) ∙ nodes_moved so.at xs all.1)
nodes_with n so end_line all = sym (append-nil (entries_nodes so.entries))
nodes_with n so (faulty_line f) all = sym (append-nil (entries_nodes so.entries))

-- and with a whole row of lines it has the nodes of them all
walk_nodes : (edition : Edition) (T : List ℕ) (row : Row (HeldLine AKind)) → IsRow (IsTopLine edition) T row →
    (so : Walk) → entries_nodes (with_lines so row).entries ≡ entries_nodes so.entries ++ lines_nodes so.at row
walk_nodes edition T _ (last_line {h = h} is not_ended whole) so =
    nodes_with h.len so h.kind (line_everywhere edition T (as_read h) is)
    ∙ ap (λ ns. entries_nodes so.entries ++ ns) (sym (append-nil (line_nodes so.at h)))
walk_nodes edition T _ (more_lines {h = h} {hs = hs} is ended row) so =
    walk_nodes edition (drop h.len T) hs row (with_line so h)
    ∙ ap (λ ns. ns ++ lines_nodes (so.at + h.len) hs)
    (nodes_with h.len so h.kind (line_everywhere edition T (as_read h) is))
    ∙ append_assoc (entries_nodes so.entries) (line_nodes so.at h) (lines_nodes (so.at + h.len) hs)

-- the nodes of a script are those of its lines, each where its line stands
pub row_nodes : (edition : Edition) (B : List ℕ) (row : Row (HeldLine AKind)) → IsRow (IsTopLine edition) B row →
    entries_nodes (script_of row).entries ≡ lines_nodes 0 row
row_nodes edition B row is = ap entries_nodes (row_entries edition B row is) ∙ walk_nodes edition B row is no_line

-- ---- their places

-- nodes that name no offset above n name none above base + n when they stand at the base
kind_places : (base n : ℕ) (k : AKind) → EntrySpansWithin n k → EntryNodesWithin n k →
    All (IsWithin (base + n)) (map (placed base) (kind_nodes k))
kind_places base n blank_line all so = All-nil (IsWithin (base + n))
kind_places base n (entries_line xs) all so =
    All-same (IsWithin (base + n)) _ _ (sym (nodes_moved base xs all.1)) (within_moved n base xs all.1 so)
kind_places base n end_line all so = All-nil (IsWithin (base + n))
kind_places base n (faulty_line f) all so = All-nil (IsWithin (base + n))

-- the nodes of a line lie within it
pub line_places : (edition : Edition) (T : List ℕ) (l : HeldLine AKind) → IsTopLine edition T l → (base : ℕ) →
    All (IsWithin (base + l.len)) (line_nodes base l)
line_places edition T l is base =
    kind_places base l.len l.kind (line_everywhere edition T (as_read l) is) (entries_within edition T (as_read l) is)

-- and so those of all lines
pub row_places : (edition : Edition) (T : List ℕ) (row : Row (HeldLine AKind)) → IsRow (IsTopLine edition) T row →
    (base : ℕ) → All (IsWithin (base + extent row)) (lines_nodes base row)
unfolding extent
row_places edition T _ (last_line {h = h} is not_ended whole) base =
    All-append (IsWithin (base + (h.len + 0))) (line_nodes base h) []
    (within_more (base + h.len) (base + (h.len + 0)) (line_nodes base h) (omega arith)
    (line_places edition T h is base)) (All-nil (IsWithin (base + (h.len + 0))))
row_places edition T _ (more_lines {h = h} {hs = hs} is ended row) base =
    All-append (IsWithin (base + (h.len + extent hs))) (line_nodes base h) (lines_nodes (base + h.len) hs)
    (within_more (base + h.len) (base + (h.len + extent hs)) (line_nodes base h) (omega arith)
    (line_places edition T h is base))
    (within_more (base + h.len + extent hs) (base + (h.len + extent hs)) (lines_nodes (base + h.len) hs) (omega arith)
    (row_places edition (drop h.len T) hs row (base + h.len)))

-- no node of the script names an offset above its length
pub row_are_within : (edition : Edition) (B : List ℕ) (row : Row (HeldLine AKind)) → IsRow (IsTopLine edition) B row →
    NodesWithin (length B) (script_of row).entries
row_are_within edition B row is =
    All-same (IsWithin (length B)) _ _ (row_nodes edition B row is)
    (within_more (0 + extent row) (length B) (lines_nodes 0 row)
    (omega (arith, row_extent (IsTopLine edition) (top_lines edition) B row is)) (row_places edition B row is 0))
