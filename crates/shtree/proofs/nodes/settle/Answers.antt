use Rattle.std.proofs.Common.{ap, rules, ◌∙◌}
use Rattle.shast.specs.Nodes.{IsWithin, placed}
use Rattle.std.specs.Prelude.{map}
use Rattle.shtree.proofs.InOrder.{in_order_from_sort_by}
use Rattle.shtree.proofs.Placed.{all_in_order}
use Rattle.shtree.proofs.nodes.settle.Goals as goal

pub place-requires : goal.place-requires
place-requires c =
    let sorted = in_order_from_sort_by _ _ c.in_ok-sort_by.ensures.sorted c.in_ok-sort_by.ensures.stable
    (λ f a r q k. search rules) in
    rw sorted (all_in_order (IsWithin _) c.args.found.now c.requires)

pub returns : goal.returns
returns c =
    let sorted = in_order_from_sort_by _ _ c.in_ok-sort_by.ensures.sorted c.in_ok-sort_by.ensures.stable
    (λ f a r q k. search rules) in
    c.place.ensures ∙ ap (map (placed c.args.base)) sorted
