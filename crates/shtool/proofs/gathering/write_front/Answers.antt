use Rattle.shtext.proofs.Known.{Appends-next, rest-fits}
use Rattle.shtool.proofs.gathering.write_front.Goals as goal

pub loop-taken-preserved : goal.loop-taken-preserved
loop-taken-preserved g c =
    let bytes = c.args.bytes.now in (
      rest-fits bytes c.loop-taken.taken c.in-Ok.count c.loop-taken.invariant.0 c.in-Ok.ensures.bound,
      Appends-next _ _ _ bytes c.loop-taken.taken c.in-Ok.count c.loop-taken.invariant.1 c.in-Ok.ensures.bytes,
    )
