use Rattle.std.proofs.Common.{◌≡◌, map}
use Rattle.shast.specs.Normal.{is_command}
use Rattle.shast.specs.View.{view_entry}
use Rattle.shtree.proofs.AllFrom.{any_from}
use Rattle.shtree.proofs.normal.holds_command.Given as goal

abbrev pub invariant-loop-entry : goal.invariant-loop-entry
invariant-loop-entry l = any_from is_command (map view_entry l.entries) l.entry-index
    ≡ any_from is_command (map view_entry l.entries) 0
