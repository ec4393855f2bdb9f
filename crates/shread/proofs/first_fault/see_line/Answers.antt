use Rattle.shread.proofs.SeenLine.{tells}
use Rattle.shread.proofs.first_fault.see_line.Goals as goal

pub returns-clause-value : goal.returns-clause-value
returns-clause-value g c =
    let told = c.line_at.ensures in
    tells c.args.edition (g.S.Source.bytes c.args.source.now) c.args.at c.line_at.result c.requires told.value
    told.onward told.within
