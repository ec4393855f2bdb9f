use Rattle.shlaws.proofs.NodesInOrder.{in_order_permutes, in_order_only, same_at_each, in_order_sorted}
use Rattle.shlaws.proofs.order.nodes_in_order.Goals as goal

pub returns : goal.returns
returns c = record {
  sorted = λ ns. in_order_sorted ns;
  stable = λ ns. same_at_each ns;
  members = λ ns. in_order_permutes ns;
  only = λ ms ns up same. in_order_only ms ns up same;
}
