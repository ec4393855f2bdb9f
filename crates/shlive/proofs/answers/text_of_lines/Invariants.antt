use Rattle.std.proofs.Common.{◌≡◌, length}
use Rattle.shtext.specs.Buffer.{buffer_bytes}
use Rattle.shwindow.specs.Walks.{lines_left}
use Rattle.shheld.specs.Walk.{Walk, no_line, with_lines}
use Rattle.shlive.specs.Printing.{IsOnPage}
use Rattle.shlive.proofs.Walking.{Walked}
use Rattle.shlive.proofs.answers.text_of_lines.Given as goal

abbrev pub invariant-lines : goal.invariant-lines
invariant-lines l = record {
  walked : Walked l.lines (lines_left l.rest) l.begin;
  so : Walk;
  gap : so.gap ≡ l.gap;
  at : so.at ≡ l.begin;
  entries : with_lines so (lines_left l.rest) ≡ with_lines no_line l.lines;
  printed : IsOnPage l.layout (buffer_bytes l.source) so l.page;
}

abbrev pub decreases-lines : goal.decreases-lines
decreases-lines l = length (lines_left l.rest)
