use Rattle.std.proofs.Common.{◌∙◌}
use Rattle.std.proofs.Math.Bool.{or-false}
use Rattle.shtext.proofs.Known.{Appends-next, rest-fits}
use Rattle.shtext.proofs.device.Output.write_whole.Goals as goal

pub loop-at-preserved : goal.loop-at-preserved
loop-at-preserved g c = (
  rest-fits c.args.piece.now c.loop-at.at c.in_ok-at.field-0 c.loop-at.invariant.0 c.in_ok-at.ensures.bound,
  Appends-next (g.W.Write.contents c.args.self.now.writer) (g.W.Write.contents c.loop-at.self.writer)
      (g.W.Write.contents c.write.new.self.writer)
      c.args.piece.now c.loop-at.at c.in_ok-at.field-0 c.loop-at.invariant.1 c.in_ok-at.ensures.bytes,
  c.in_ok-at.ensures.failed ∙ or-false c.loop-at.self.failed ∙ c.loop-at.invariant.2,
)
