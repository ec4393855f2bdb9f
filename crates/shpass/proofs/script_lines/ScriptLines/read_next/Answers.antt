use Rattle.shpass.proofs.LineByLine.{next_line}
use Rattle.shpass.proofs.script_lines.ScriptLines.read_next.Goals as goal

pub returns : goal.returns
returns g c = record {
  line = λ so stood. next_line (g.S.Source.bytes c.args.self.now.source.now) _ c.args.self.now c.read.result so stood
      c.read.ensures.value;
  moves = c.read.ensures.moves;
  within = c.read.ensures.within;
}
