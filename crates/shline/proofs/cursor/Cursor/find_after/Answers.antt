use Rattle.std.proofs.Common.{arith, length-drop}
use Rattle.shline.specs.Sought.{is_sought}
use Rattle.shline.proofs.Searches.{such_on}
use Rattle.shline.proofs.cursor.Cursor.find_after.Goals as goal

pub returns : goal.returns
returns g c =
    let self = c.args.self.now in
    let bytes = g.S.Source.bytes self.source.now in
    let inside = c.find_in.ensures.inside in
    let whole = length-drop self.base bytes in (
      such_on (is_sought c.args.sought) bytes self.base self.begin c.args.from c.find_in.result c.find_in.ensures.value
          (omega (arith, inside)),
      (omega (arith, inside), omega (arith, inside, whole)),
    )
