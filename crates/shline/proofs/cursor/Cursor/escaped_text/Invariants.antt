use Rattle.std.proofs.Common.{◌+◌, ◌-◌, length}
use Rattle.shline.specs.Clauses.{at_place, here_of, Rests, text_of}
use Rattle.shgrammar.specs.Form.{many}
use Rattle.shgrammar.specs.Words.{escaped_turn}
use Rattle.shline.proofs.cursor.Cursor.escaped_text.Given as goal

abbrev pub invariant-turns : goal.invariant-turns
invariant-turns g l =
    let all = many (escaped_turn l.escaping (l.fn.self.origin + l.opener)) tt in
    Rests l.fn.self all (at_place l.fn.self) all (at_place l.self) l.self

abbrev pub decreases-turns : goal.decreases-turns
decreases-turns g l = length (text_of l.self) - here_of l.self
