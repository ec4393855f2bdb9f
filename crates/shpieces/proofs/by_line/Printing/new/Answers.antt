use Rattle.std.proofs.Common.{refl}
use Rattle.shprint.specs.Written.{sheet}
use Rattle.shpieces.proofs.ByLine.{none_printed}
use Rattle.shpieces.proofs.by_line.Printing.new.Goals as goal

pub returns : goal.returns
returns c = (
  none_printed c.args.edition c.args.layout.now c.none.result (sheet c.new.result) c.none.ensures
      (rw (c.new.ensures.1, c.new.ensures.2) refl),
  c.new.ensures.0,
  refl,
  refl,
)
