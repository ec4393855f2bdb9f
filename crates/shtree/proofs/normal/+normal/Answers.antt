use Rattle.std.proofs.Common.{arith}
use Rattle.shast.specs.Normal.{is_normal_branch, is_normal_case, is_normal_entry, is_normal_item, is_normal_subst, is_normal_word}
use Rattle.shast.specs.View.{view_and_or_part, view_branch, view_case_item, view_entry, view_item, view_pipeline_part, view_subst, view_word}
use Rattle.shtree.proofs.AllFrom.{all_more, branches_all, cases_all, entries_all, is_normal_part, is_normal_pipe, items_all, parts_all, patterns_all, pipes_all, substs_all}
use Rattle.shtree.proofs.normal.+normal.Goals as goal

pub are_normal-returns-then-not-is_normal_entry : goal.are_normal-returns-then-not-is_normal_entry
are_normal-returns-then-not-is_normal_entry t c =
    grind (
      arith,
      all_more is_normal_entry view_entry c.args.entries.now c.loop-entry.entry-index c.entry-item.result,
      entries_all,
    )

pub are_normal-loop-entry-preserved : goal.are_normal-loop-entry-preserved
are_normal-loop-entry-preserved t c =
    grind (arith, all_more is_normal_entry view_entry c.args.entries.now c.loop-entry.entry-index c.entry-item.result)

pub are_normal_and_ors-returns-then-not-is_normal_part : goal.are_normal_and_ors-returns-then-not-is_normal_part
are_normal_and_ors-returns-then-not-is_normal_part t c =
    grind (
      arith,
      all_more is_normal_part view_and_or_part c.args.parts.now c.loop-part.part-index c.part-item.result,
      parts_all,
    )

pub are_normal_and_ors-loop-part-preserved : goal.are_normal_and_ors-loop-part-preserved
are_normal_and_ors-loop-part-preserved t c =
    grind (arith, all_more is_normal_part view_and_or_part c.args.parts.now c.loop-part.part-index c.part-item.result)

pub are_normal_pipes-returns-then-not-is_normal_pipe : goal.are_normal_pipes-returns-then-not-is_normal_pipe
are_normal_pipes-returns-then-not-is_normal_pipe t c =
    grind (
      arith,
      all_more is_normal_pipe view_pipeline_part c.args.parts.now c.loop-part.part-index c.part-item.result,
      pipes_all,
    )

pub are_normal_pipes-loop-part-preserved : goal.are_normal_pipes-loop-part-preserved
are_normal_pipes-loop-part-preserved t c =
    grind (arith, all_more is_normal_pipe view_pipeline_part c.args.parts.now c.loop-part.part-index c.part-item.result)

pub are_normal_branches-returns-then-not-is_normal_branch : goal.are_normal_branches-returns-then-not-is_normal_branch
are_normal_branches-returns-then-not-is_normal_branch t c =
    grind (
      arith,
      all_more is_normal_branch view_branch c.args.branches.now c.loop-branch.branch-index
          c.branch-item.result,
      branches_all,
    )

pub are_normal_branches-loop-branch-preserved : goal.are_normal_branches-loop-branch-preserved
are_normal_branches-loop-branch-preserved t c =
    grind (
      arith,
      all_more is_normal_branch view_branch c.args.branches.now c.loop-branch.branch-index
          c.branch-item.result,
    )

pub are_normal_cases-returns-then-not-is_normal_case : goal.are_normal_cases-returns-then-not-is_normal_case
are_normal_cases-returns-then-not-is_normal_case t c =
    grind (
      arith,
      all_more is_normal_case view_case_item c.args.items.now c.loop-item.item-index c.item-item.result,
      cases_all,
    )

pub are_normal_cases-loop-item-preserved : goal.are_normal_cases-loop-item-preserved
are_normal_cases-loop-item-preserved t c =
    grind (arith, all_more is_normal_case view_case_item c.args.items.now c.loop-item.item-index c.item-item.result)

pub are_normal_patterns-returns-then-not-is_normal_word : goal.are_normal_patterns-returns-then-not-is_normal_word
are_normal_patterns-returns-then-not-is_normal_word t c =
    grind (
      arith,
      all_more is_normal_word view_word c.args.patterns.now c.loop-pattern.pattern-index
          c.pattern-item.result,
      patterns_all,
    )

pub are_normal_patterns-loop-pattern-preserved : goal.are_normal_patterns-loop-pattern-preserved
are_normal_patterns-loop-pattern-preserved t c =
    grind (
      arith,
      all_more is_normal_word view_word c.args.patterns.now c.loop-pattern.pattern-index
          c.pattern-item.result,
    )

pub are_normal_items-returns-then-not-is_normal_item : goal.are_normal_items-returns-then-not-is_normal_item
are_normal_items-returns-then-not-is_normal_item t c =
    grind (
      arith,
      all_more is_normal_item view_item c.args.items.now c.loop-item.item-index c.item-item.result,
      items_all,
    )

pub are_normal_items-loop-item-preserved : goal.are_normal_items-loop-item-preserved
are_normal_items-loop-item-preserved t c =
    grind (arith, all_more is_normal_item view_item c.args.items.now c.loop-item.item-index c.item-item.result)

pub are_normal_substs-returns-then-not-is_normal_subst : goal.are_normal_substs-returns-then-not-is_normal_subst
are_normal_substs-returns-then-not-is_normal_subst t c =
    grind (
      arith,
      all_more is_normal_subst view_subst c.args.substs.now c.loop-subst.subst-index c.subst-item.result,
      substs_all,
    )

pub are_normal_substs-loop-subst-preserved : goal.are_normal_substs-loop-subst-preserved
are_normal_substs-loop-subst-preserved t c =
    grind (arith, all_more is_normal_subst view_subst c.args.substs.now c.loop-subst.subst-index c.subst-item.result)
