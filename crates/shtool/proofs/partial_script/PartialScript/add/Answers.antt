use Rattle.std.proofs.Common.{refl}
use Rattle.shtool.proofs.Parts.{held_more}
use Rattle.shtool.proofs.partial_script.PartialScript.add.Goals as goal

pub returns-clause-held : goal.returns-clause-held
returns-clause-held c = λ read is. held_more read c.args.bytes.now c.args.self.now _ is refl refl
    c.in_ok-extend_from_slice.ensures.items
