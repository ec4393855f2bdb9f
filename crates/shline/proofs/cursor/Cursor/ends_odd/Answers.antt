use Rattle.std.proofs.Common.{◌∙◌, sym, arith}
use Rattle.shline.specs.Clauses.{text_of}
use Rattle.shline.proofs.Awaited.{odd_stops_on}
use Rattle.shline.proofs.cursor.Cursor.ends_odd.Goals as goal

pub returns : goal.returns
returns g c =
    odd_stops_on (text_of c.args.self.now) c.args.self.now.begin c.args.from c.backslashes.at c.backslashes.odd _
    (omega (arith, c.backslashes.invariant.high, c.requires.1))
    (sym c.is_backslash_before.ensures.value ∙ c.backslashes-test.false) c.backslashes.invariant.value
