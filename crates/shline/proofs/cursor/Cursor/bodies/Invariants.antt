use Rattle.std.proofs.Common.{◌≡◌, ◌≤◌, drop, map}
use Rattle.shline.specs.Clauses.{given_of, here_of, Keeps, view_waiting}
use Rattle.shgrammar.specs.HereDocuments.{bodies_from}
use Rattle.shline.proofs.cursor.Cursor.bodies.Given as goal

abbrev pub invariant-documents : goal.invariant-documents
invariant-documents g l =
    let all = map view_waiting l.fn.self.documents.waiting.items in
    record {
      read :
          bodies_from (given_of l.fn.self) (drop l.document-index all) l.self.documents.bodies.items (here_of l.self)
          ≡ bodies_from (given_of l.fn.self) all l.fn.self.documents.bodies.items (here_of l.fn.self);
      onward : here_of l.fn.self ≤ here_of l.self;
      same : Keeps l.fn.self l.self;
    }
