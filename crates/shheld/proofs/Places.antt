-- A line of a row where it stands in the text: its bytes, its spans and its nodes.
use Rattle.std.proofs.Common.{◌≡◌, ℕ, ◌+◌, ◌-◌, ◌^◌, ◌<◌, ◌≤◌, List, List as Row, ◌∷◌, ◌++◌, drop, length, subst, arith}
use Rattle.shast.specs.Nodes.{NodesWithin}
use Rattle.shast.specs.Tree.{Entries}
use Rattle.shgrammar.specs.declared.edition.Edition.{Edition}
use Rattle.shgrammar.specs.Lines.{AKind, entries_line}
use Rattle.shwindow.specs.Lines.{IsRow, at_start, extent}
use Rattle.shwindow.specs.declared.line.HeldLine.{HeldLine}
use Rattle.shwindow.proofs.Rows.{extent_append, row_at, row_extent, row_head}
use Rattle.shheld.specs.TopLines.{IsTopLine}
use Rattle.shheld.proofs.TopLines.{top_lines}
use Rattle.shheld.proofs.Within.{line_nodes_fit}

module _ (edition : Edition) (B : List ℕ) (before : Row (HeldLine AKind)) (l : HeldLine AKind)
    (rest : Row (HeldLine AKind)) (row : IsRow (IsTopLine edition) B (before ++ l ∷ rest)) where
  -- it begins where those before it end
  pub row_line : IsTopLine edition (drop (extent before) B) l
  row_line =
      let here = row_at (IsTopLine edition) (top_lines edition) B 0 before l rest at_start row in
      let same : 0 + extent before ≡ extent before = omega arith in
      subst (λ p. IsTopLine edition (drop p B) l) same
      (row_head (IsTopLine edition) (drop (0 + extent before) B) l rest here.1)

  -- it ends in the text
  pub row_line_within : extent before + l.len ≤ length B
  unfolding extent
  row_line_within = omega (
    arith,
    extent_append before (l ∷ rest),
    row_extent (IsTopLine edition) (top_lines edition) B (before ++ l ∷ rest) row,
  )

  module _ (xs : Entries) (kind_is : l.kind ≡ entries_line xs) (small : length B < 2 ^ 64) where
    -- where it stands, no node of it goes past the greatest offset that there is
    pub row_nodes_fit : NodesWithin (2 ^ 64 - 1 - extent before) xs
    row_nodes_fit = line_nodes_fit edition (drop (extent before) B) l xs row_line kind_is (extent before)
        (omega (arith, row_line_within, small))
