use Rattle.std.proofs.Common.{rules, ◌+◌, ◌≤◌, ◌∙◌, Ok, drop, length, map, sym, ap, arith}
use Rattle.shline.specs.Clauses.{here_of, keep_of, text_of, view_waiting}
use Rattle.shgrammar.specs.Sights.{given}
use Rattle.shline.proofs.Awaited.{bodies_read, bodies_stop, waiting_from}
use Rattle.shline.proofs.cursor.Cursor.bodies.Goals as goal

pub documents-preserved : goal.documents-preserved
documents-preserved g c =
    let self = c.args.self.now in
    let ws = self.documents.waiting.items in
    let i = c.documents.document-index in
    let d = c.document-item.result in
    let same = c.deref-document-items.ensures.value ∙ ap (λ v. v.items) c.replace-waiting.ensures.value in
    let one = waiting_from ws i d (omega (arith, c.documents-test.true, ap length same)) in
    let read = c.in_ok-one_body.ensures.read (drop (i + 1) (map view_waiting ws)) in
    record { read = search (rules, one, read); onward = search rules; same = search rules }

pub returns-in_err-one_body : goal.returns-in_err-one_body
returns-in_err-one_body g c =
    let self = c.args.self.now in
    let ws = self.documents.waiting.items in
    let i = c.documents.document-index in
    let d = c.document-item.result in
    let same = c.deref-document-items.ensures.value ∙ ap (λ v. v.items) c.replace-waiting.ensures.value in
    let one = waiting_from ws i d (omega (arith, c.documents-test.true, ap length same)) in
    let read = c.in_err-one_body.ensures.read (drop (i + 1) (map view_waiting ws)) in
    search (rules, bodies_stop, one, same, read)

pub returns : goal.returns
returns g c =
    let here = given c.args.self.now.how.edition (text_of c.args.self.now) c.args.self.now.origin in
    let start = c.args.self.now.documents in
    let bodies = c.documents.self.documents.bodies.items in
    let all : length start.waiting.items ≤ c.documents.document-index =
    omega (
      arith,
      c.documents-test.false,
      ap length (c.deref-document-items.ensures.value ∙ ap (λ v. v.items) c.replace-waiting.ensures.value),
    ) in record {
      read =
          bodies_read (keep_of c.args.self.now) here start.waiting.items start.bodies.items bodies
          c.documents.document-index (here_of c.args.self.now) (here_of c.documents.self) all c.documents.invariant.read
          ∙ ap (λ ws. Ok (tt, record { at = here_of c.documents.self; waiting = map view_waiting ws; bodies = bodies }))
          (sym c.clear.ensures.items);
      onward = search rules;
      same = search rules;
    }
