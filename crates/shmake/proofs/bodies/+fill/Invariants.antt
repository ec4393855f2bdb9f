use Rattle.std.proofs.Common.{◌≡◌, drop, map}
use Rattle.shast.specs.Bodies.{fill_and_or_part, fill_branch, fill_case, fill_entry, fill_pipe}
use Rattle.shast.specs.View.{view_and_or_part, view_branch, view_case_item, view_entry, view_pipeline_part}
use Rattle.shast.proofs.Going.{going}
use Rattle.shmake.proofs.bodies.+fill.Given as goal

abbrev pub invariant-fill_entries-loop-entry : goal.invariant-fill_entries-loop-entry
invariant-fill_entries-loop-entry l = record {
  unvisited : goal.unvisited-fill_entries-loop-entry l;
  so_far : going fill_entry (map view_entry l.entries) l.entry-index (drop l.next l.bodies)
      ≡ going fill_entry (map view_entry l.fn.entries) 0 (drop l.fn.next l.fn.bodies);
}

abbrev pub invariant-fill_and_or_parts-loop-part : goal.invariant-fill_and_or_parts-loop-part
invariant-fill_and_or_parts-loop-part l = record {
  unvisited : goal.unvisited-fill_and_or_parts-loop-part l;
  so_far : going fill_and_or_part (map view_and_or_part l.parts) l.part-index (drop l.next l.bodies)
      ≡ going fill_and_or_part (map view_and_or_part l.fn.parts) 0 (drop l.fn.next l.fn.bodies);
}

abbrev pub invariant-fill_pipes-loop-part : goal.invariant-fill_pipes-loop-part
invariant-fill_pipes-loop-part l = record {
  unvisited : goal.unvisited-fill_pipes-loop-part l;
  so_far : going fill_pipe (map view_pipeline_part l.parts) l.part-index (drop l.next l.bodies)
      ≡ going fill_pipe (map view_pipeline_part l.fn.parts) 0 (drop l.fn.next l.fn.bodies);
}

abbrev pub invariant-fill_branches-loop-branch : goal.invariant-fill_branches-loop-branch
invariant-fill_branches-loop-branch l = record {
  unvisited : goal.unvisited-fill_branches-loop-branch l;
  so_far : going fill_branch (map view_branch l.branches) l.branch-index (drop l.next l.bodies)
      ≡ going fill_branch (map view_branch l.fn.branches) 0 (drop l.fn.next l.fn.bodies);
}

abbrev pub invariant-fill_cases-loop-item : goal.invariant-fill_cases-loop-item
invariant-fill_cases-loop-item l = record {
  unvisited : goal.unvisited-fill_cases-loop-item l;
  so_far : going fill_case (map view_case_item l.items) l.item-index (drop l.next l.bodies)
      ≡ going fill_case (map view_case_item l.fn.items) 0 (drop l.fn.next l.fn.bodies);
}
