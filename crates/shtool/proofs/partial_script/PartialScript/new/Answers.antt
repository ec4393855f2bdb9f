use Rattle.std.proofs.Common.{refl}
use Rattle.shtool.proofs.Parts.{holds_none}
use Rattle.shtool.proofs.partial_script.PartialScript.new.Goals as goal

pub returns : goal.returns
returns c = holds_none c.args.edition _ refl refl refl c.new.ensures.items
