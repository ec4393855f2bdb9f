use Rattle.std.proofs.Common.{◌∙◌}
use Rattle.shwindow.proofs.Places.{not_after_end}
use Rattle.shwindow.proofs.lines.Lines.end.Goals as goal

pub returns-clause-order : goal.returns-clause-order
returns-clause-order g c =
    let blocks = c.args.self.now.blocks.now.blocks in
    let ok = blocks.ok in
    not_after_end blocks.items c.args.self.now.place c.end.result c.args.self.now.is_place (c.end.ensures.block ∙ ok.0)
