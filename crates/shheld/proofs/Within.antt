-- The spans and the nodes of a line's entries lie within the line.
use Rattle.std.proofs.Common.{◌≡◌, ℕ, ◌+◌, ◌-◌, ◌^◌, ◌<◌, List, subst, arith}
use Rattle.shast.specs.Everywhere.{SpansWithin}
use Rattle.shast.specs.Nodes.{NodesWithin, entries_nodes}
use Rattle.shast.specs.Tree.{Entries}
use Rattle.shast.proofs.Reach.{within_more}
use Rattle.shgrammar.specs.declared.edition.Edition.{Edition}
use Rattle.shgrammar.specs.Lines.{AKind, EntryNodesWithin, EntrySpansWithin, entries_line}
use Rattle.shgrammar.proofs.SpansInLimit.{line_everywhere}
use Rattle.shgrammar.proofs.NodesInLimit.{entries_within}
use Rattle.shwindow.specs.declared.line.HeldLine.{HeldLine}
use Rattle.shheld.specs.TopLines.{IsTopLine, as_read}

module _ (edition : Edition) (T : List ℕ) (l : HeldLine AKind) (xs : Entries) (is : IsTopLine edition T l)
    (kind_is : l.kind ≡ entries_line xs) where
  -- no span of the line goes past its end, and each simple command in it has an item
  everywhere : EntrySpansWithin l.len (entries_line xs)
  everywhere = subst (EntrySpansWithin l.len) kind_is (line_everywhere edition T (as_read l) is)

  pub line_all_within : SpansWithin l.len xs
  line_all_within = everywhere.0

  -- no node of the line names an offset past its end
  pub line_are_within : NodesWithin l.len xs
  line_are_within = subst (EntryNodesWithin l.len) kind_is (entries_within edition T (as_read l) is)

  -- so no offset of a line that stands in a text is past the greatest one that there is
  module _ (base : ℕ) (fits : base + l.len < 2 ^ 64) where
    pub line_nodes_fit : NodesWithin (2 ^ 64 - 1 - base) xs
    line_nodes_fit = within_more l.len (2 ^ 64 - 1 - base) (entries_nodes xs) (omega (arith, fits)) line_are_within
