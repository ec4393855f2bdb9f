use Rattle.std.proofs.Common.{◌≤◌, subst, sym}
use Rattle.shread.specs.Answers.{edition_of}
use Rattle.shtext.specs.Buffer.{buffer_bytes}
use Rattle.shheld.proofs.NodesAt.{row_has_none}
use Rattle.shlive.specs.Answers.{HasNodesAt}
use Rattle.shlive.specs.Held.{Held}
use Rattle.shlive.proofs.TopLines.{row_top}
use Rattle.shlive.proofs.session.Session.nodes_at.Goals as goal

pub returns-then-len-at-clause-nodes : goal.returns-then-len-at-clause-nodes
returns-then-len-at-clause-nodes c =
    let bytes = buffer_bytes c.self.inside.text in
    let high = subst (λ n. n ≤ c.args.at) c.len.ensures c.if-len-at.true in
    let none = row_has_none (edition_of c.self.inside.reader.reader) bytes c.self.inside.lines
    (row_top (edition_of c.self.inside.reader.reader) bytes c.self.inside.lines c.self.invariant.row) c.args.at
    high in
    subst (λ (h : Held). HasNodesAt h.how.edition h.bytes c.args.at c.new.result.items) c.self.view_is
    (subst (HasNodesAt (edition_of c.self.inside.reader.reader) bytes c.args.at) (sym c.new.ensures.items) none)
