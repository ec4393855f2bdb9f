use Rattle.std.proofs.Common.{map}
use Rattle.std.proofs.lemmas.List.Kept.{AllPairs-filter}
use Rattle.shast.specs.Nodes.{entries_nodes, holds, in_outline, nodes_of, placed}
use Rattle.shlaws.specs.Order.{MayPrecede}
use Rattle.shlaws.proofs.NodesInOrder.{in_order_sorted}
use Rattle.shlaws.proofs.order.answers_in_order.Goals as goal

pub returns : goal.returns
returns c = record {
  outline =
      λ base list. AllPairs-filter MayPrecede in_outline (nodes_of base list)
      (in_order_sorted (map (placed base) (entries_nodes list)));
  nodes_at =
      λ base at list. AllPairs-filter MayPrecede (holds at) (nodes_of base list)
      (in_order_sorted (map (placed base) (entries_nodes list)));
}
