use Rattle.std.proofs.Common.{◌≡◌, ◌++◌, length}
use Rattle.shwindow.specs.Walks.{lines_left}
use Rattle.shheld.specs.Walk.{outlines}
use Rattle.shlive.proofs.Walking.{Walked}
use Rattle.shlive.proofs.answers.outline_of_lines.Given as goal

abbrev pub invariant-lines : goal.invariant-lines
invariant-lines l = record {
  walked : Walked l.lines (lines_left l.rest) l.begin;
  nodes : l.nodes.items ++ outlines l.begin (lines_left l.rest) ≡ outlines 0 l.lines;
}

abbrev pub decreases-lines : goal.decreases-lines
decreases-lines l = length (lines_left l.rest)
