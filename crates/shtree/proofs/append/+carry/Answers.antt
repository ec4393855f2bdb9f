use Rattle.std.proofs.Common.{arith}
use Rattle.shtree.proofs.Carrying.{and_or_parts_carried, branches_carried, cases_carried, entries_carried, items_carried, patterns_carried, pipes_carried, still_more, substs_carried}
use Rattle.shast.proofs.Seen.{and_or_seen, case_item_seen, case_seen, compound_seen, for_words_seen, if_all_seen, list_seen, pipeline_seen, simple_seen, word_seen}
use Rattle.shtree.proofs.append.+carry.Goals as goal

pub carry_entries-loop-entry-preserved : goal.carry_entries-loop-entry-preserved
carry_entries-loop-entry-preserved t c = grind (arith, still_more)

pub carry_and_or_parts-loop-part-preserved : goal.carry_and_or_parts-loop-part-preserved
carry_and_or_parts-loop-part-preserved t c = grind (arith, still_more)

pub carry_pipes-loop-part-preserved : goal.carry_pipes-loop-part-preserved
carry_pipes-loop-part-preserved t c = grind (arith, still_more)

pub carry_branches-loop-branch-preserved : goal.carry_branches-loop-branch-preserved
carry_branches-loop-branch-preserved t c = grind (arith, still_more)

pub carry_cases-loop-item-preserved : goal.carry_cases-loop-item-preserved
carry_cases-loop-item-preserved t c = grind (arith, still_more)

pub carry_words-loop-word-preserved : goal.carry_words-loop-word-preserved
carry_words-loop-word-preserved t c = grind (arith, still_more)

pub carry_items-loop-item-preserved : goal.carry_items-loop-item-preserved
carry_items-loop-item-preserved t c = grind (arith, still_more)

pub carry_substs-loop-subst-preserved : goal.carry_substs-loop-subst-preserved
carry_substs-loop-subst-preserved t c = grind (arith, still_more)

pub carry_list-returns : goal.carry_list-returns
carry_list-returns t c = grind (arith, list_seen, entries_carried)

pub carry_and_or-returns : goal.carry_and_or-returns
carry_and_or-returns t c = grind (arith, and_or_seen, and_or_parts_carried)

pub carry_pipeline-returns : goal.carry_pipeline-returns
carry_pipeline-returns t c = grind (arith, pipeline_seen, pipes_carried)

pub carry_command-returns-in_ok-carry_items-in-Simple : goal.carry_command-returns-in_ok-carry_items-in-Simple
carry_command-returns-in_ok-carry_items-in-Simple t c = grind (arith, simple_seen, items_carried)

pub carry_compound-returns : goal.carry_compound-returns
carry_compound-returns t c = grind (arith, compound_seen, items_carried)

pub carry_case-returns : goal.carry_case-returns
carry_case-returns t c = grind (arith, case_item_seen, patterns_carried)

pub carry_word-returns : goal.carry_word-returns
carry_word-returns t c = grind (arith, word_seen, substs_carried)

pub carry_form-returns-in_ok-carry_else-in-If : goal.carry_form-returns-in_ok-carry_else-in-If
carry_form-returns-in_ok-carry_else-in-If t c = grind (arith, if_all_seen, branches_carried)

pub carry_form-returns-in_ok-carry_items-in-Some : goal.carry_form-returns-in_ok-carry_items-in-Some
carry_form-returns-in_ok-carry_items-in-Some t c = grind (arith, for_words_seen, items_carried)

pub carry_form-returns-in_ok-carry_comments-in-Case : goal.carry_form-returns-in_ok-carry_comments-in-Case
carry_form-returns-in_ok-carry_comments-in-Case t c = grind (arith, case_seen, cases_carried)
