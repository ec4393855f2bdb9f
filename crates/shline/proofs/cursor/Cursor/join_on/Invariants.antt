use Rattle.std.proofs.Common.{◌-◌, length}
use Rattle.shline.specs.Clauses.{at_token, GrowsNone, Rests, start_of, text_of}
use Rattle.shgrammar.specs.Commands.{join_so_far, join_turn}
use Rattle.shgrammar.specs.Form.{many}
use Rattle.shast.specs.View.{view_join}
use Rattle.shline.proofs.cursor.Cursor.join_on.Given as goal

abbrev pub invariant-turns : goal.invariant-turns
invariant-turns g l =
    Rests l.fn.self (many join_turn (join_so_far (view_join l.fn.join) l.fn.self.next)) (at_token l.fn.self)
    (many join_turn (join_so_far (view_join l.join) l.self.next)) (at_token l.self) l.self
    × GrowsNone g.row.TREE l.fn.join l.join

abbrev pub decreases-turns : goal.decreases-turns
decreases-turns g l = length (text_of l.self) - start_of l.self
