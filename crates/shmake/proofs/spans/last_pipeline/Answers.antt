use Rattle.shast.proofs.Last.{last_pipeline_is}
use Rattle.shast.proofs.Seen.{and_or_part_seen}
use Rattle.shmake.proofs.spans.last_pipeline.Goals as goal

pub returns-in-Some : goal.returns-in-Some
returns-in-Some c =
    let is = last_pipeline_is c.args.before c.args.parts.now c.in-Some.part.now c.in-Some.ensures.value in
    rw (is, and_or_part_seen) c.pipeline_span.ensures
