use Rattle.std.proofs.Common.{◌+◌, ◌∙◌, ap, arith, drop, refl, subst, sym}
use Rattle.shwindow.specs.Blocks.{in_one_row}
use Rattle.shwindow.specs.Meter.{risen}
use Rattle.shwindow.proofs.Reading.{AtRow, risen_more, risen_none, row_done, row_more, row_start}
use Rattle.shwindow.proofs.Rows.{extent_push}
use Rattle.shwindow.proofs.held.HeldLines.read.Goals as goal

pub lines-init : goal.lines-init
lines-init g c = record {
  at = subst (λ read. AtRow (g.R.LineReader.is_line (g.R.LineReader.setting c.args.reader.now))
      (g.S.Source.bytes c.args.source.now) read 0) (sym c.new-blocks.ensures)
      (row_start (g.R.LineReader.is_line (g.R.LineReader.setting c.args.reader.now))
      (g.S.Source.bytes c.args.source.now));
  setting = refl;
  meter = sym (risen_none (g.R.LineReader.meter c.args.reader.now));
}

pub invariant_of-result : goal.invariant_of-result
invariant_of-result g c =
    let sum = c.lines.invariant.at.sum in
    let fits = c.in_ok-line.ensures.fits in
    omega (arith, sum, fits, extent_push (in_one_row c.lines.blocks.blocks.items) c.in_ok-line.line)

pub returns-then-not-line-clause-row : goal.returns-then-not-line-clause-row
returns-then-not-line-clause-row g c =
    let is = c.in_ok-line.ensures in
    let line = subst (λ s. g.R.LineReader.is_line s
    (drop c.lines.at (g.S.Source.bytes c.args.source.now)) c.in_ok-line.line) c.lines.invariant.setting is.line in
    row_done (g.R.LineReader.is_line (g.R.LineReader.setting c.args.reader.now)) (g.S.Source.bytes c.args.source.now)
    (in_one_row c.lines.blocks.blocks.items) c.lines.at c.in_ok-line.line c.lines.invariant.at line
    c.if-not-line.true (is.whole c.if-not-line.true)

pub lines-preserved : goal.lines-preserved
lines-preserved g c =
    let is = c.in_ok-line.ensures in
    let line = c.in_ok-line.line in
    let text = g.S.Source.bytes c.args.source.now in
    let now = subst (λ s. g.R.LineReader.is_line s (drop c.lines.at text) line) c.lines.invariant.setting is.line in
    let next = row_more (g.R.LineReader.is_line (g.R.LineReader.setting c.args.reader.now)) text
    (in_one_row c.lines.blocks.blocks.items) c.lines.at line c.lines.invariant.at now c.if-not-line.false
    is.within in
    record {
      at = subst (λ read. AtRow (g.R.LineReader.is_line (g.R.LineReader.setting c.args.reader.now)) text read
          (c.lines.at + line.len)) (sym c.in_ok-push.ensures) next;
      setting = is.setting ∙ c.lines.invariant.setting;
      meter = is.meter ∙ ap (λ m. risen m line.len) c.lines.invariant.meter
          ∙ risen_more (g.R.LineReader.meter c.args.reader.now) c.lines.at line.len;
    }
