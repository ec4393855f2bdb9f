use Rattle.std.proofs.Common.{◌≤◌, [], arith, subst}
use Rattle.std.proofs.lemmas.Bool.Decides.{nat_tests}
use Rattle.shread.specs.Answers.{edition_of}
use Rattle.shtext.specs.Buffer.{buffer_bytes}
use Rattle.shheld.proofs.NodesAt.{row_has_none}
use Rattle.shlive.specs.Answers.{HasNodesAt}
use Rattle.shlive.specs.Held.{Held}
use Rattle.shlive.proofs.TopLines.{row_top}
use Rattle.shlive.proofs.session.Session.is_past.Goals as goal

pub returns-clause-past : goal.returns-clause-past
returns-clause-past c past =
    let bytes = buffer_bytes c.self.inside.text in
    let low : c.len.result ≤ c.args.at = grind (arith, nat_tests, past) in
    let high = subst (λ n. n ≤ c.args.at) c.len.ensures low in
    subst (λ (h : Held). HasNodesAt h.how.edition h.bytes c.args.at []) c.self.view_is
    (row_has_none (edition_of c.self.inside.reader.reader) bytes c.self.inside.lines
    (row_top (edition_of c.self.inside.reader.reader) bytes c.self.inside.lines c.self.invariant.row) c.args.at
    high)
