use Rattle.std.proofs.Common.{arith, rules}
use Rattle.std.proofs.lemmas.List.{append-nil}
use Rattle.shast.specs.Nodes.{branch_nodes, case_nodes, entry_nodes, item_nodes, subst_nodes, word_nodes}
use Rattle.shast.specs.View.{view_and_or_part, view_branch, view_case_item, view_entry, view_item, view_pipeline_part, view_subst, view_word}
use Rattle.shtree.proofs.Gathering.{branches_are, cases_are, entries_are, from_end, from_more, gathered_append, gathered_cons, gathered_none, items_are, part_nodes, parts_are, patterns_are, pipe_nodes, pipes_are, substs_are}
use Rattle.shast.proofs.Seen.{assign_seen, case_seen, entry_seen, for_seen, for_words_seen, function_seen, if_else_seen, if_seen, item_seen, redirection_seen, simple_seen, and_or_part_seen, and_or_seen, branch_seen, case_item_seen, compound_seen, pipeline_part_seen, pipeline_seen, subst_seen, word_seen}
use Rattle.shtree.proofs.visit.+visit.Goals as goal
use Rattle.shtree.proofs.visit.+visit.Goals.{visit_form-in-Some-words+in_ok-visit_items-in-Some-words, visit_form-in-None-words}

pub visit_entries-loop-entry-preserved : goal.visit_entries-loop-entry-preserved
visit_entries-loop-entry-preserved g t c = record {
  ok = grind (
    arith,
    gathered_append,
    from_more entry_nodes view_entry c.args.entries.now c.loop-entry.entry-index c.entry-item.result,
  );
  kept = search rules;
}

pub visit_entries-returns : goal.visit_entries-returns
visit_entries-returns g t c = record { ok = grind (arith, gathered_none, from_end, entries_are); kept = search rules }

pub visit_entries-returns-in_err-visit_entry : goal.visit_entries-returns-in_err-visit_entry
visit_entries-returns-in_err-visit_entry g t c = record { ok = search rules; kept = search rules }

pub visit_and_or_parts-loop-part-preserved : goal.visit_and_or_parts-loop-part-preserved
visit_and_or_parts-loop-part-preserved g t c = record {
  ok = grind (
    arith,
    gathered_append,
    from_more part_nodes view_and_or_part c.args.parts.now c.loop-part.part-index c.part-item.result,
  );
  kept = search rules;
}

pub visit_and_or_parts-returns : goal.visit_and_or_parts-returns
visit_and_or_parts-returns g t c =
    record { ok = grind (arith, gathered_none, from_end, parts_are); kept = search rules }

pub visit_and_or_parts-returns-in_err-visit_and_or_part : goal.visit_and_or_parts-returns-in_err-visit_and_or_part
visit_and_or_parts-returns-in_err-visit_and_or_part g t c = record { ok = search rules; kept = search rules }

pub visit_pipes-loop-part-preserved : goal.visit_pipes-loop-part-preserved
visit_pipes-loop-part-preserved g t c = record {
  ok = grind (
    arith,
    gathered_append,
    from_more pipe_nodes view_pipeline_part c.args.parts.now c.loop-part.part-index c.part-item.result,
  );
  kept = search rules;
}

pub visit_pipes-returns : goal.visit_pipes-returns
visit_pipes-returns g t c = record { ok = grind (arith, gathered_none, from_end, pipes_are); kept = search rules }

pub visit_pipes-returns-in_err-visit_pipe : goal.visit_pipes-returns-in_err-visit_pipe
visit_pipes-returns-in_err-visit_pipe g t c = record { ok = search rules; kept = search rules }

pub visit_branches-loop-branch-preserved : goal.visit_branches-loop-branch-preserved
visit_branches-loop-branch-preserved g t c = record {
  ok = grind (
    arith,
    gathered_append,
    from_more branch_nodes view_branch c.args.branches.now c.loop-branch.branch-index c.branch-item.result,
  );
  kept = search rules;
}

pub visit_branches-returns : goal.visit_branches-returns
visit_branches-returns g t c = record { ok = grind (arith, gathered_none, from_end, branches_are); kept = search rules }

pub visit_cases-loop-item-preserved : goal.visit_cases-loop-item-preserved
visit_cases-loop-item-preserved g t c = record {
  ok = grind (
    arith,
    gathered_append,
    from_more case_nodes view_case_item c.args.items.now c.loop-item.item-index c.item-item.result,
  );
  kept = search rules;
}

pub visit_cases-returns : goal.visit_cases-returns
visit_cases-returns g t c = record { ok = grind (arith, gathered_none, from_end, cases_are); kept = search rules }

pub visit_patterns-loop-pattern-preserved : goal.visit_patterns-loop-pattern-preserved
visit_patterns-loop-pattern-preserved g t c = record {
  ok = grind (
    arith,
    gathered_append,
    from_more word_nodes view_word c.args.patterns.now c.loop-pattern.pattern-index c.pattern-item.result,
  );
  kept = search rules;
}

pub visit_patterns-returns : goal.visit_patterns-returns
visit_patterns-returns g t c = record { ok = grind (arith, gathered_none, from_end, patterns_are); kept = search rules }

pub visit_items-loop-item-preserved : goal.visit_items-loop-item-preserved
visit_items-loop-item-preserved g t c = record {
  ok = grind (
    arith,
    gathered_append,
    from_more item_nodes view_item c.args.items.now c.loop-item.item-index c.item-item.result,
  );
  kept = search rules;
}

pub visit_items-returns : goal.visit_items-returns
visit_items-returns g t c = record { ok = grind (arith, gathered_none, from_end, items_are); kept = search rules }

pub visit_substs-loop-subst-preserved : goal.visit_substs-loop-subst-preserved
visit_substs-loop-subst-preserved g t c = record {
  ok = grind (
    arith,
    gathered_append,
    from_more subst_nodes view_subst c.args.substs.now c.loop-subst.subst-index c.subst-item.result,
  );
  kept = search rules;
}

pub visit_substs-returns : goal.visit_substs-returns
visit_substs-returns g t c = record { ok = grind (arith, gathered_none, from_end, substs_are); kept = search rules }

pub visit_word-returns : goal.visit_word-returns
visit_word-returns g t c = record { ok = grind (arith, gathered_append, gathered_cons, word_seen); kept = search rules }

pub visit_subst-returns : goal.visit_subst-returns
visit_subst-returns g t c = record {
  ok = grind (arith, gathered_append, gathered_cons, subst_seen);
  kept = search rules;
}

pub visit_and_or_part-returns : goal.visit_and_or_part-returns
visit_and_or_part-returns g t c =
    record { ok = grind (arith, gathered_append, gathered_cons, and_or_part_seen); kept = search rules }

pub visit_and_or-returns : goal.visit_and_or-returns
visit_and_or-returns g t c = record {
  ok = grind (arith, gathered_append, gathered_cons, and_or_seen);
  kept = search rules;
}

pub visit_pipeline-returns : goal.visit_pipeline-returns
visit_pipeline-returns g t c =
    record { ok = grind (arith, gathered_append, gathered_cons, pipeline_seen); kept = search rules }

pub visit_branch-returns : goal.visit_branch-returns
visit_branch-returns g t c = record {
  ok = grind (arith, gathered_append, gathered_cons, branch_seen);
  kept = search rules;
}

pub visit_case-returns : goal.visit_case-returns
visit_case-returns g t c = record {
  ok = grind (arith, gathered_append, gathered_cons, case_item_seen);
  kept = search rules;
}

pub visit_compound-returns : goal.visit_compound-returns
visit_compound-returns g t c =
    record { ok = grind (arith, gathered_append, gathered_cons, compound_seen); kept = search rules }

pub visit_entry-returns : goal.visit_entry-returns
visit_entry-returns g t c = record {
  ok = grind (arith, gathered_append, gathered_cons, entry_seen);
  kept = search rules;
}

pub visit_command-returns-in_ok-add-in-Simple : goal.visit_command-returns-in_ok-add-in-Simple
visit_command-returns-in_ok-add-in-Simple g t c =
    record { ok = grind (arith, gathered_append, gathered_cons, simple_seen); kept = search rules }

pub visit_function-returns : goal.visit_function-returns
visit_function-returns g t c =
    record { ok = grind (arith, gathered_append, gathered_cons, function_seen); kept = search rules }

pub visit_form-returns-in-Some : goal.visit_form-returns-in-Some
visit_form-returns-in-Some g t c =
    record { ok = grind (arith, gathered_append, gathered_cons, if_else_seen); kept = search rules }

pub visit_form-returns-in_ok-visit_cases-in-Case : goal.visit_form-returns-in_ok-visit_cases-in-Case
visit_form-returns-in_ok-visit_cases-in-Case g t c =
    record { ok = grind (arith, gathered_append, gathered_cons, case_seen); kept = search rules }

pub visit_redirection-returns : goal.visit_redirection-returns
visit_redirection-returns g t c =
    record { ok = grind (arith, gathered_append, gathered_cons, redirection_seen); kept = search rules }

pub visit_pipe-returns : goal.visit_pipe-returns
visit_pipe-returns g t c = record { ok = rw pipeline_part_seen (grind (arith, gathered_append)); kept = search rules }

pub visit_form-returns-in-None : goal.visit_form-returns-in-None
visit_form-returns-in-None g t c = record {
  ok = rw (
    c.in-If.is,
    c.in-None.is,
    if_seen,
    append-nil,
    ← gathered_append,
    ← c.in_ok-visit_branch-in-If.ensures.ok,
    ← c.deref.ensures.value,
  )
      c.in_ok-visit_branches-in-If.ensures.ok;
  kept = search rules;
}

pub visit_item-returns-in_ok-add-in-Assign : goal.visit_item-returns-in_ok-add-in-Assign
visit_item-returns-in_ok-add-in-Assign g t c =
    record {
      ok = rw (item_seen, c.in-Assign.is, assign_seen, word_seen) (grind (arith, gathered_cons));
      kept = search rules;
    }

pub visit_form-returns-after-words : goal.visit_form-returns-after-words
visit_form-returns-after-words g t c =
    elim c.match-words.branch [
      | visit_form-in-Some-words+in_ok-visit_items-in-Some-words w ↦ record {
        ok = rw (c.in-For.is, w.in-Some-words.is, for_words_seen) (grind (arith, gathered_append));
        kept = search rules;
      }
      | visit_form-in-None-words w ↦ record {
        ok = rw (c.in-For.is, w.in-None-words.is, for_seen, append-nil) (grind (arith, gathered_append));
        kept = search rules;
      }
    ]
