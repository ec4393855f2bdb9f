use Rattle.std.proofs.Common.{true, ◌≡◌, map}
use Rattle.shast.specs.Capped.{capped, capped_body}
use Rattle.shast.specs.Moved.{carried_and_or_part, carried_branch, carried_case, carried_entry, carried_item, carried_pipe, carried_subst, carried_word}
use Rattle.shast.specs.View.{view_and_or_part, view_branch, view_case_item, view_entry, view_item, view_pipeline_part, view_subst, view_word}
use Rattle.shtree.proofs.Carrying.{still}
use Rattle.shtree.proofs.append.+carry.Given as goal

abbrev pub invariant-carry_entries-loop-entry : goal.invariant-carry_entries-loop-entry
invariant-carry_entries-loop-entry l =
    still (carried_entry (capped l.base) (capped_body l.base) true) view_entry l.made.items l.entries l.entry-index
    ≡ map (carried_entry (capped l.base) (capped_body l.base) true) (map view_entry l.entries)

abbrev pub invariant-carry_and_or_parts-loop-part : goal.invariant-carry_and_or_parts-loop-part
invariant-carry_and_or_parts-loop-part l =
    still (carried_and_or_part (capped l.base) (capped_body l.base) true) view_and_or_part l.made.items l.parts
    l.part-index ≡ map (carried_and_or_part (capped l.base) (capped_body l.base) true) (map view_and_or_part l.parts)

abbrev pub invariant-carry_pipes-loop-part : goal.invariant-carry_pipes-loop-part
invariant-carry_pipes-loop-part l =
    still (carried_pipe (capped l.base) (capped_body l.base) true) view_pipeline_part l.made.items l.parts l.part-index
    ≡ map (carried_pipe (capped l.base) (capped_body l.base) true) (map view_pipeline_part l.parts)

abbrev pub invariant-carry_branches-loop-branch : goal.invariant-carry_branches-loop-branch
invariant-carry_branches-loop-branch l =
    still (carried_branch (capped l.base) (capped_body l.base) true) view_branch l.made.items l.branches l.branch-index
    ≡ map (carried_branch (capped l.base) (capped_body l.base) true) (map view_branch l.branches)

abbrev pub invariant-carry_cases-loop-item : goal.invariant-carry_cases-loop-item
invariant-carry_cases-loop-item l =
    still (carried_case (capped l.base) (capped_body l.base) true) view_case_item l.made.items l.items l.item-index
    ≡ map (carried_case (capped l.base) (capped_body l.base) true) (map view_case_item l.items)

abbrev pub invariant-carry_words-loop-word : goal.invariant-carry_words-loop-word
invariant-carry_words-loop-word l =
    still (carried_word (capped l.base) (capped_body l.base) true) view_word l.made.items l.words l.word-index
    ≡ map (carried_word (capped l.base) (capped_body l.base) true) (map view_word l.words)

abbrev pub invariant-carry_items-loop-item : goal.invariant-carry_items-loop-item
invariant-carry_items-loop-item l =
    still (carried_item (capped l.base) (capped_body l.base) true) view_item l.made.items l.items l.item-index
    ≡ map (carried_item (capped l.base) (capped_body l.base) true) (map view_item l.items)

abbrev pub invariant-carry_substs-loop-subst : goal.invariant-carry_substs-loop-subst
invariant-carry_substs-loop-subst l =
    still (carried_subst (capped l.base) (capped_body l.base) true) view_subst l.made.items l.substs l.subst-index
    ≡ map (carried_subst (capped l.base) (capped_body l.base) true) (map view_subst l.substs)
