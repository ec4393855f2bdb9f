use Rattle.std.proofs.Common.{◌++◌, ◌∙◌, ap, append-nil, sym}
use Rattle.std.specs.Prelude.{option_map}
use Rattle.shast.specs.View.{view_list}
use Rattle.shheld.specs.Walk.{line_nodes_at}
use Rattle.shprint.proofs.Writing.{on_ok_then}
use Rattle.shlive.proofs.Walking.{entries_are, no_nodes_at}
use Rattle.shlive.proofs.answers.add_nodes_at.Goals as goal

pub nodes_at-requires : goal.nodes_at-requires
nodes_at-requires c =
    c.requires (view_list c.in-Some.list.now)
    (entries_are c.args.line.now.kind (view_list c.in-Some.list.now)
    (sym c.list.ensures ∙ ap (option_map (λ list. view_list list.now)) c.in-Some.is))

pub returns-in-Some : goal.returns-in-Some
returns-in-Some c =
    let kind_is = entries_are c.args.line.now.kind (view_list c.in-Some.list.now)
    (sym c.list.ensures ∙ ap (option_map (λ list. view_list list.now)) c.in-Some.is) in
    on_ok_then c.nodes_at.result c.nodes_at.ensures.ok
    (λ is. is ∙ ap (λ k. c.args.nodes.now.items ++ line_nodes_at c.args.begin c.args.at k) (sym kind_is))

pub returns-in-None : goal.returns-in-None
returns-in-None c =
    let none = no_nodes_at c.args.line.now.kind c.args.begin c.args.at
    (sym c.list.ensures ∙ ap (option_map (λ list. view_list list.now)) c.in-None.is) in
    sym (append-nil c.args.nodes.now.items) ∙ ap (λ ns. c.args.nodes.now.items ++ ns) (sym none)
