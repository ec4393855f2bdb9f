use Rattle.std.proofs.Common.{◌≡◌, ◌-◌, length}
use Rattle.shwindow.specs.Blocks.{in_one_row}
use Rattle.shwindow.specs.Meter.{risen}
use Rattle.shwindow.proofs.Reading.{AtRow}
use Rattle.shwindow.proofs.held.HeldLines.read.Given as goal

abbrev pub invariant-lines : goal.invariant-lines
invariant-lines g l = record {
  at : AtRow (g.R.LineReader.is_line (g.R.LineReader.setting l.initial.reader)) (g.S.Source.bytes l.source)
      (in_one_row l.blocks.blocks.items) l.at;
  setting : g.R.LineReader.setting l.reader ≡ g.R.LineReader.setting l.initial.reader;
  meter : g.R.LineReader.meter l.reader ≡ risen (g.R.LineReader.meter l.initial.reader) l.at;
}

abbrev pub decreases-lines : goal.decreases-lines
decreases-lines g l = length (g.S.Source.bytes l.source) - l.at
