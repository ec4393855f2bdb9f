use Rattle.std.proofs.Common.{◌∙◌, arith, drop, rules}
use Rattle.shast.specs.Bodies.{fill_and_or_part, fill_branch, fill_case, fill_entry, fill_pipe}
use Rattle.shast.specs.View.{view_and_or_part, view_branch, view_case_item, view_entry, view_pipeline_part}
use Rattle.shast.proofs.Going.{going_more}
use Rattle.shmake.proofs.bodies.+fill.Goals as goal

-- ---- each loop fills one more node, and what is left to do gives what all of it gave

pub fill_entries-loop-entry-preserved : goal.fill_entries-loop-entry-preserved
fill_entries-loop-entry-preserved t c =
    record {
      unvisited = search rules;
      so_far =
          going_more fill_entry view_entry c.loop-entry.entries c.loop-entry.entry-index
          c.entry-item.result c.fill_entry.new.entry
          (drop c.loop-entry.next c.args.bodies.now) (drop c.fill_entry.new.next c.args.bodies.now)
          (omega (arith, c.loop-entry-test.true, c.loop-entry.auto.entries)) c.fill_entry.ensures
          ∙ c.loop-entry.invariant.so_far;
    }

pub fill_and_or_parts-loop-part-preserved : goal.fill_and_or_parts-loop-part-preserved
fill_and_or_parts-loop-part-preserved t c =
    record {
      unvisited = search rules;
      so_far =
          going_more fill_and_or_part view_and_or_part c.loop-part.parts c.loop-part.part-index
          c.part-item.result c.fill_and_or_part.new.part
          (drop c.loop-part.next c.args.bodies.now) (drop c.fill_and_or_part.new.next c.args.bodies.now)
          (omega (arith, c.loop-part-test.true, c.loop-part.auto.parts)) c.fill_and_or_part.ensures
          ∙ c.loop-part.invariant.so_far;
    }

pub fill_pipes-loop-part-preserved : goal.fill_pipes-loop-part-preserved
fill_pipes-loop-part-preserved t c =
    record {
      unvisited = search rules;
      so_far =
          going_more fill_pipe view_pipeline_part c.loop-part.parts c.loop-part.part-index
          c.part-item.result c.fill_pipe.new.part
          (drop c.loop-part.next c.args.bodies.now) (drop c.fill_pipe.new.next c.args.bodies.now)
          (omega (arith, c.loop-part-test.true, c.loop-part.auto.parts)) c.fill_pipe.ensures
          ∙ c.loop-part.invariant.so_far;
    }

pub fill_branches-loop-branch-preserved : goal.fill_branches-loop-branch-preserved
fill_branches-loop-branch-preserved t c =
    record {
      unvisited = search rules;
      so_far =
          going_more fill_branch view_branch c.loop-branch.branches c.loop-branch.branch-index
          c.branch-item.result c.fill_branch.new.branch
          (drop c.loop-branch.next c.args.bodies.now) (drop c.fill_branch.new.next c.args.bodies.now)
          (omega (arith, c.loop-branch-test.true, c.loop-branch.auto.branches)) c.fill_branch.ensures
          ∙ c.loop-branch.invariant.so_far;
    }

pub fill_cases-loop-item-preserved : goal.fill_cases-loop-item-preserved
fill_cases-loop-item-preserved t c =
    record {
      unvisited = search rules;
      so_far =
          going_more fill_case view_case_item c.loop-item.items c.loop-item.item-index
          c.item-item.result c.fill_case.new.item
          (drop c.loop-item.next c.args.bodies.now) (drop c.fill_case.new.next c.args.bodies.now)
          (omega (arith, c.loop-item-test.true, c.loop-item.auto.items)) c.fill_case.ensures
          ∙ c.loop-item.invariant.so_far;
    }
