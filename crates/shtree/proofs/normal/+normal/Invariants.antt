use Rattle.std.proofs.Common.{◌≡◌, map}
use Rattle.shast.specs.Normal.{is_normal_branch, is_normal_case, is_normal_entry, is_normal_item, is_normal_subst, is_normal_word}
use Rattle.shast.specs.View.{view_and_or_part, view_branch, view_case_item, view_entry, view_item, view_pipeline_part, view_subst, view_word}
use Rattle.shtree.proofs.AllFrom.{all_from, is_normal_part, is_normal_pipe}
use Rattle.shtree.proofs.normal.+normal.Given as goal

abbrev pub invariant-are_normal-loop-entry : goal.invariant-are_normal-loop-entry
invariant-are_normal-loop-entry l = all_from is_normal_entry (map view_entry l.entries) l.entry-index
    ≡ all_from is_normal_entry (map view_entry l.entries) 0

abbrev pub invariant-are_normal_and_ors-loop-part : goal.invariant-are_normal_and_ors-loop-part
invariant-are_normal_and_ors-loop-part l = all_from is_normal_part (map view_and_or_part l.parts) l.part-index
    ≡ all_from is_normal_part (map view_and_or_part l.parts) 0

abbrev pub invariant-are_normal_pipes-loop-part : goal.invariant-are_normal_pipes-loop-part
invariant-are_normal_pipes-loop-part l = all_from is_normal_pipe (map view_pipeline_part l.parts) l.part-index
    ≡ all_from is_normal_pipe (map view_pipeline_part l.parts) 0

abbrev pub invariant-are_normal_branches-loop-branch : goal.invariant-are_normal_branches-loop-branch
invariant-are_normal_branches-loop-branch l = all_from is_normal_branch (map view_branch l.branches) l.branch-index
    ≡ all_from is_normal_branch (map view_branch l.branches) 0

abbrev pub invariant-are_normal_cases-loop-item : goal.invariant-are_normal_cases-loop-item
invariant-are_normal_cases-loop-item l = all_from is_normal_case (map view_case_item l.items) l.item-index
    ≡ all_from is_normal_case (map view_case_item l.items) 0

abbrev pub invariant-are_normal_patterns-loop-pattern : goal.invariant-are_normal_patterns-loop-pattern
invariant-are_normal_patterns-loop-pattern l = all_from is_normal_word (map view_word l.patterns) l.pattern-index
    ≡ all_from is_normal_word (map view_word l.patterns) 0

abbrev pub invariant-are_normal_items-loop-item : goal.invariant-are_normal_items-loop-item
invariant-are_normal_items-loop-item l = all_from is_normal_item (map view_item l.items) l.item-index
    ≡ all_from is_normal_item (map view_item l.items) 0

abbrev pub invariant-are_normal_substs-loop-subst : goal.invariant-are_normal_substs-loop-subst
invariant-are_normal_substs-loop-subst l = all_from is_normal_subst (map view_subst l.substs) l.subst-index
    ≡ all_from is_normal_subst (map view_subst l.substs) 0
