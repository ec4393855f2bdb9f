use Rattle.std.proofs.Common.{◌≡◌, ◌≤◌, ◌+◌, ◌-◌, ℕ, List, [], false, length}
use Rattle.std.specs.Io.KnownBytes.{Consumes}
use Rattle.shtext.specs.Edit.{limit}
use Rattle.shtool.proofs.engine.read_into.Given as goal

abbrev pub invariant-pieces : goal.invariant-pieces
invariant-pieces g l = record {
  taken : (read : List ℕ) × ((setup : g.S.Sink.Setup) → g.S.Sink.holds setup [] l.fn.sink →
      g.S.Sink.holds setup read l.sink)
      × Consumes (g.R.Read.remaining l.fn.input.reader) (g.R.Read.remaining l.input.reader) read
      × (length read ≡ l.held);
  low : l.held ≤ limit;
  size : length l.piece ≡ 16384;
  sound : l.input.failed ≡ false;
  unended : l.input.ended ≡ false;
}

abbrev pub decreases-pieces : goal.decreases-pieces
decreases-pieces g l = limit + 1 - l.held
