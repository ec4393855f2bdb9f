use Rattle.std.proofs.Common.{◌≤◌}
use Rattle.shast.specs.declared.tree.AndOr.{size-AndOr}
use Rattle.shast.specs.declared.tree.List.{size-List}
use Rattle.shast.specs.declared.tree.Pipeline.{size-Pipeline}
use Rattle.shmake.proofs.spare.+spare.Given as goal

-- what is left of a part of the tree is no deeper than the whole was

abbrev pub invariant-spare_list-loop-entry : goal.invariant-spare_list-loop-entry
invariant-spare_list-loop-entry l = size-List l.list ≤ size-List l.initial.list

abbrev pub decreases-spare_list-loop-entry : goal.decreases-spare_list-loop-entry
decreases-spare_list-loop-entry l = goal.left-spare_list-loop-entry l

abbrev pub invariant-spare_and_or-loop-part : goal.invariant-spare_and_or-loop-part
invariant-spare_and_or-loop-part l = size-AndOr l.and_or ≤ size-AndOr l.initial.and_or

abbrev pub decreases-spare_and_or-loop-part : goal.decreases-spare_and_or-loop-part
decreases-spare_and_or-loop-part l = goal.left-spare_and_or-loop-part l

abbrev pub invariant-spare_pipeline-loop-part : goal.invariant-spare_pipeline-loop-part
invariant-spare_pipeline-loop-part l = size-Pipeline l.pipeline ≤ size-Pipeline l.initial.pipeline

abbrev pub decreases-spare_pipeline-loop-part : goal.decreases-spare_pipeline-loop-part
decreases-spare_pipeline-loop-part l = goal.left-spare_pipeline-loop-part l
