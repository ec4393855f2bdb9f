use Rattle.std.proofs.Common.{◌≡◌, ◌∙◌, ◌∷◌, ◌++◌, [], None, Some, ap, rules, sym}
use Rattle.shline.specs.Clauses.{given_of, here_of, text_of, view_waiting}
use Rattle.shgrammar.specs.HereDocuments.{bodies_from, delimiter_from, past_line}
use Rattle.shgrammar.specs.Comments.{span}
use Rattle.shline.proofs.Awaited.{body_missing, body_more}
use Rattle.shline.proofs.cursor.Cursor.one_body.Goals as goal

pub returns-in_default-clause-read : goal.returns-in_default-clause-read
returns-in_default-clause-read g c = λ rest.
    let self = c.args.self.now in
    let found : delimiter_from (text_of self) (view_waiting c.args.document.now) (here_of self) ≡ None =
    sym c.delimiter_line.ensures.value ∙ c.in_default.is in (
      body_missing (given_of self) (view_waiting c.args.document.now) rest self.documents.bodies.items
          (here_of self) found,
      c.requires.0,
    )

pub returns-clause-read : goal.returns-clause-read
returns-clause-read g c = λ rest.
    let self = c.args.self.now in
    let line = c.in-Some.line in
    let found : delimiter_from (text_of self) (view_waiting c.args.document.now) (here_of self) ≡ Some line =
    sym c.delimiter_line.ensures.value ∙ c.in-Some.is in
    let all = body_more (given_of self) (view_waiting c.args.document.now) rest self.documents.bodies.items
    (here_of self) line found in
    let bodies : c.push.new.self.items ≡ self.documents.bodies.items ++ span self.origin (here_of self) line ∷ [] =
    search rules in
    all ∙ ap (λ bs. bodies_from (given_of self) rest bs (past_line (text_of self) line)) (sym bodies)
    ∙ ap (bodies_from (given_of self) rest c.push.new.self.items) (sym c.in-Some.ensures.past)
