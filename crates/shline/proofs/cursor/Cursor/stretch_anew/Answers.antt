use Rattle.std.proofs.Common.{arith, length-drop}
use Rattle.shline.specs.InHand.{InHand}
use Rattle.shline.specs.Clauses.{text_of}
use Rattle.shline.proofs.NoToken.{end_shown}
use Rattle.shline.proofs.cursor.Cursor.stretch_anew.Goals as goal

pub invariant_of-self-clause-within : goal.invariant_of-self-clause-within
invariant_of-self-clause-within g c =
    let self = c.args.self.now in
    omega (arith, c.len.ensures, self.inside, length-drop self.base (g.S.Source.bytes self.source.now))

pub invariant_of-self-clause-shows : goal.invariant_of-self-clause-shows
unfolding InHand
invariant_of-self-clause-shows g c =
    let self = c.args.self.now in
    end_shown (text_of self) _ (omega
    (arith, c.len.ensures, self.inside, length-drop self.base (g.S.Source.bytes self.source.now)))
