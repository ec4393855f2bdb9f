use Rattle.shast.proofs.Last.{last_command_is}
use Rattle.shast.proofs.Seen.{pipeline_part_seen}
use Rattle.shmake.proofs.spans.last_command.Goals as goal

pub returns-in-Some : goal.returns-in-Some
returns-in-Some c =
    let is = last_command_is c.args.before c.args.parts.now c.in-Some.part.now c.in-Some.ensures.value in
    rw (is, pipeline_part_seen) c.command_span.ensures
