use Rattle.std.proofs.Common.{◌-◌, ◌^◌, ◌++◌, ◌∷◌, ◌∙◌, ap, subst, sym}
use Rattle.shast.specs.Nodes.{NodesWithin}
use Rattle.shheld.specs.Walk.{line_nodes_at}
use Rattle.shheld.proofs.NodesAt.{row_has_nodes}
use Rattle.shheld.proofs.Places.{row_nodes_fit}
use Rattle.shlive.proofs.TopLines.{row_top}
use Rattle.shlive.proofs.Walking.{line_high, line_low, line_there}
use Rattle.shlive.proofs.answers.nodes_of_lines.Goals as goal

pub add_nodes_at-requires : goal.add_nodes_at-requires
add_nodes_at-requires c = λ xs kind_is.
    let l = c.line_at-begin.result.0.now in
    let so = c.line_at-begin.ensures in
    let row = line_there c.requires.0 c.requires.1.0 c.args.lines.now c.args.at l c.line_at-begin.result.1
    c.requires.1.1 so in
    subst (λ n. NodesWithin (2 ^ 64 - 1 - n) xs) (sym so.begins)
    (row_nodes_fit c.requires.0 c.requires.1.0 so.before l so.after
    (row_top c.requires.0 c.requires.1.0 (so.before ++ l ∷ so.after) row) xs kind_is c.requires.1.2)

pub returns : goal.returns
returns c = λ edition bytes row lt.
    let l = c.line_at-begin.result.0.now in
    let begin = c.line_at-begin.result.1 in
    let so = c.line_at-begin.ensures in
    let there = line_there edition bytes c.args.lines.now c.args.at l begin row so in
    let has = row_has_nodes edition bytes so.before l so.after
    (row_top edition bytes (so.before ++ l ∷ so.after) there) c.args.at
    (line_low edition bytes c.args.lines.now c.args.at l begin row so)
    (line_high edition bytes c.args.lines.now c.args.at l begin row so lt) in (
      has.0,
      has.1,
      c.in_ok-add_nodes_at.ensures
          ∙ ap (λ ns. ns ++ line_nodes_at begin c.args.at l.kind) c.new-nodes.ensures.items
          ∙ ap (λ n. line_nodes_at n c.args.at l.kind) so.begins ∙ has.2,
    )
