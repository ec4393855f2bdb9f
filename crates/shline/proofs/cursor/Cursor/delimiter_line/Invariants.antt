use Rattle.std.proofs.Common.{◌≡◌, ◌≤◌, ◌-◌, length}
use Rattle.shline.specs.Clauses.{here_of, Stays, text_of, view_waiting}
use Rattle.shgrammar.specs.HereDocuments.{delimiter_from, delimiter_on}
use Rattle.shline.proofs.cursor.Cursor.delimiter_line.Given as goal

abbrev pub invariant-lines : goal.invariant-lines
invariant-lines g l =
    record {
      value :
          delimiter_on (text_of l.fn.self) (view_waiting l.document) l.taken (here_of l.self)
          ≡ delimiter_from (text_of l.fn.self) (view_waiting l.document) (here_of l.fn.self);
      onward : here_of l.fn.self ≤ here_of l.self;
      stays : Stays l.fn.self l.self;
    }

abbrev pub decreases-lines : goal.decreases-lines
decreases-lines g l = length (text_of l.fn.self) - here_of l.self
