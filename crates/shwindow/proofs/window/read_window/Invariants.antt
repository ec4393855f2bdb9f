use Rattle.std.proofs.Common.{◌≡◌, ◌-◌, length}
use Rattle.shwindow.specs.Blocks.{in_one_row}
use Rattle.shwindow.specs.Lines.{extent}
use Rattle.shwindow.specs.Meter.{risen}
use Rattle.shwindow.specs.Places.{IsNotAfter}
use Rattle.shwindow.specs.Walks.{lines_left}
use Rattle.shwindow.proofs.Reading.{AtLine}
use Rattle.shwindow.proofs.window.read_window.Given as goal

abbrev pub invariant-lines : goal.invariant-lines
invariant-lines g l = record {
  at : AtLine (g.R.LineReader.is_line (g.R.LineReader.setting l.initial.reader))
      (g.S.Source.bytes l.source) l.«end» l.old_end l.begin (lines_left l.fn.old)
      (in_one_row l.lines.blocks.items) l.at l.hand.begin (lines_left l.hand.lines);
  setting : g.R.LineReader.setting l.reader ≡ g.R.LineReader.setting l.initial.reader;
  meter : g.R.LineReader.meter l.reader
      ≡ risen (g.R.LineReader.meter l.initial.reader) (extent (in_one_row l.lines.blocks.items));
  blocks : l.hand.lines.blocks ≡ l.fn.old.blocks;
  last : l.hand.lines.last ≡ l.fn.old.last;
  order : IsNotAfter l.fn.old.place l.hand.lines.place;
}

abbrev pub decreases-lines : goal.decreases-lines
decreases-lines g l = length (g.S.Source.bytes l.source) - l.at
