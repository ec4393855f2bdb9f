use Rattle.std.proofs.Common.{drop, arith, length-drop}
use Rattle.shline.specs.InHand.{InHand}
use Rattle.shline.proofs.NoToken.{end_shown}
use Rattle.shline.proofs.cursor.Cursor.at_line.Goals as goal

pub invariant_of-result-clause-fits : goal.invariant_of-result-clause-fits
invariant_of-result-clause-fits g c =
    omega (arith, c.len.ensures, c.requires, length-drop c.args.begin.at (g.S.Source.bytes c.args.source.now))

pub invariant_of-result-clause-tells : goal.invariant_of-result-clause-tells
invariant_of-result-clause-tells g c =
    omega (arith, c.len.ensures, c.requires, length-drop c.args.begin.at (g.S.Source.bytes c.args.source.now))

pub invariant_of-result-clause-within : goal.invariant_of-result-clause-within
invariant_of-result-clause-within g c =
    omega (arith, c.len.ensures, c.requires, length-drop c.args.begin.at (g.S.Source.bytes c.args.source.now))

pub invariant_of-result-clause-shows : goal.invariant_of-result-clause-shows
unfolding InHand
invariant_of-result-clause-shows g c =
    let bytes = g.S.Source.bytes c.args.source.now in
    end_shown (drop c.args.begin.at bytes) _
    (omega (arith, c.len.ensures, c.requires, length-drop c.args.begin.at bytes))
