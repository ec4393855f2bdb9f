-- What a walk over held lines has left.
use Rattle.std.specs.Prelude.{[], ◌∷◌, ◌++◌, List as Row, if◌then◌else◌}
use Rattle.shwindow.specs.Blocks.{lines_from}
use Rattle.shwindow.specs.declared.line.HeldLine.{HeldLine}
use Rattle.shwindow.specs.declared.lines.Lines.{Lines}

abbrev pub lines_left : {K : Type 0} → Lines K → Row (HeldLine K)
lines_left l = if l.past then [] else lines_from l.blocks.now.blocks.items l.place ++ l.last.now ∷ []
