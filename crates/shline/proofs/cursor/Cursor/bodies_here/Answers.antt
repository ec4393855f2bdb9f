use Rattle.std.proofs.Common.{rules, ◌≡◌, length, arith}
use Rattle.std.proofs.lemmas.Bool.Decides.{nat_tests}
use Rattle.shline.specs.Clauses.{here_of, keep_of, text_of}
use Rattle.shgrammar.specs.Sights.{given}
use Rattle.shline.proofs.Awaited.{none_awaited}
use Rattle.shline.proofs.cursor.Cursor.bodies_here.Goals as goal

pub returns-then-is_empty : goal.returns-then-is_empty
returns-then-is_empty g c =
    let start = c.args.self.now in
    let none : length start.documents.waiting.items ≡ 0 =
    grind (arith, nat_tests, c.is_empty.ensures, c.if-is_empty.true) in record {
      read =
          none_awaited (keep_of start) (given start.how.edition (text_of start) start.origin) start.documents
          (here_of start) none;
      onward = search rules;
      same = search rules;
    }
