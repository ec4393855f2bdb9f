use Rattle.std.proofs.Common.{arith}
use Rattle.shast.specs.Normal.{is_command}
use Rattle.shast.specs.View.{view_entry}
use Rattle.shtree.proofs.AllFrom.{any_more, command_among}
use Rattle.shtree.proofs.normal.holds_command.Goals as goal

pub returns-then-is_command : goal.returns-then-is_command
returns-then-is_command c =
    let at = c.loop-entry.entry-index in
    grind (arith, any_more is_command view_entry c.args.entries.now at c.entry-item.result, command_among)

pub loop-entry-preserved : goal.loop-entry-preserved
loop-entry-preserved c =
    let at = c.loop-entry.entry-index in
    grind (arith, any_more is_command view_entry c.args.entries.now at c.entry-item.result)
