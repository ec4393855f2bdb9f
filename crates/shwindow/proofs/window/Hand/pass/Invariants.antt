use Rattle.std.proofs.Common.{◌≡◌, length}
use Rattle.shwindow.specs.Hand.{Passes}
use Rattle.shwindow.specs.Places.{IsNotAfter}
use Rattle.shwindow.specs.Walks.{lines_left}
use Rattle.shwindow.proofs.window.Hand.pass.Given as goal

abbrev pub invariant-lines : goal.invariant-lines
invariant-lines g l = record {
  passes : Passes l.at l.initial.self.begin (lines_left l.initial.self.lines) l.self.begin (lines_left l.self.lines);
  blocks : l.self.lines.blocks ≡ l.initial.self.lines.blocks;
  last : l.self.lines.last ≡ l.initial.self.lines.last;
  order : IsNotAfter l.initial.self.lines.place l.self.lines.place;
}

abbrev pub decreases-lines : goal.decreases-lines
decreases-lines g l = length (lines_left l.self.lines)
