use Rattle.std.proofs.Common.{◌≡◌, map}
use Rattle.shtree.specs.Gathered.{Keeps, gathered}
use Rattle.shast.specs.Nodes.{branch_nodes, case_nodes, entry_nodes, item_nodes, subst_nodes, word_nodes}
use Rattle.shast.specs.View.{view_and_or_part, view_branch, view_case_item, view_entry, view_item, view_pipeline_part, view_subst, view_word}
use Rattle.shtree.proofs.Gathering.{nodes_from, part_nodes, pipe_nodes}
use Rattle.shtree.proofs.visit.+visit.Given as goal

abbrev pub invariant-visit_entries-loop-entry : goal.invariant-visit_entries-loop-entry
invariant-visit_entries-loop-entry g l = record {
  ok : gathered (g.W.Wanted.is_wanted l.wanted) l.lines.items
      (nodes_from entry_nodes (map view_entry l.entries) l.entry-index)
      ≡ gathered (g.W.Wanted.is_wanted l.wanted) l.fn.lines.items (nodes_from entry_nodes (map view_entry l.entries) 0);
  kept : Keeps l.fn.lines.items l.lines.items;
}

abbrev pub invariant-visit_and_or_parts-loop-part : goal.invariant-visit_and_or_parts-loop-part
invariant-visit_and_or_parts-loop-part g l = record {
  ok : gathered (g.W.Wanted.is_wanted l.wanted) l.lines.items
      (nodes_from part_nodes (map view_and_or_part l.parts) l.part-index)
      ≡ gathered (g.W.Wanted.is_wanted l.wanted) l.fn.lines.items
      (nodes_from part_nodes (map view_and_or_part l.parts) 0);
  kept : Keeps l.fn.lines.items l.lines.items;
}

abbrev pub invariant-visit_pipes-loop-part : goal.invariant-visit_pipes-loop-part
invariant-visit_pipes-loop-part g l = record {
  ok : gathered (g.W.Wanted.is_wanted l.wanted) l.lines.items
      (nodes_from pipe_nodes (map view_pipeline_part l.parts) l.part-index)
      ≡ gathered (g.W.Wanted.is_wanted l.wanted) l.fn.lines.items
      (nodes_from pipe_nodes (map view_pipeline_part l.parts) 0);
  kept : Keeps l.fn.lines.items l.lines.items;
}

abbrev pub invariant-visit_branches-loop-branch : goal.invariant-visit_branches-loop-branch
invariant-visit_branches-loop-branch g l = record {
  ok : gathered (g.W.Wanted.is_wanted l.wanted) l.lines.items
      (nodes_from branch_nodes (map view_branch l.branches) l.branch-index)
      ≡ gathered (g.W.Wanted.is_wanted l.wanted) l.fn.lines.items
      (nodes_from branch_nodes (map view_branch l.branches) 0);
  kept : Keeps l.fn.lines.items l.lines.items;
}

abbrev pub invariant-visit_cases-loop-item : goal.invariant-visit_cases-loop-item
invariant-visit_cases-loop-item g l = record {
  ok : gathered (g.W.Wanted.is_wanted l.wanted) l.lines.items
      (nodes_from case_nodes (map view_case_item l.items) l.item-index)
      ≡ gathered (g.W.Wanted.is_wanted l.wanted) l.fn.lines.items
      (nodes_from case_nodes (map view_case_item l.items) 0);
  kept : Keeps l.fn.lines.items l.lines.items;
}

abbrev pub invariant-visit_patterns-loop-pattern : goal.invariant-visit_patterns-loop-pattern
invariant-visit_patterns-loop-pattern g l = record {
  ok : gathered (g.W.Wanted.is_wanted l.wanted) l.lines.items
      (nodes_from word_nodes (map view_word l.patterns) l.pattern-index)
      ≡ gathered (g.W.Wanted.is_wanted l.wanted) l.fn.lines.items (nodes_from word_nodes (map view_word l.patterns) 0);
  kept : Keeps l.fn.lines.items l.lines.items;
}

abbrev pub invariant-visit_items-loop-item : goal.invariant-visit_items-loop-item
invariant-visit_items-loop-item g l = record {
  ok : gathered (g.W.Wanted.is_wanted l.wanted) l.lines.items
      (nodes_from item_nodes (map view_item l.items) l.item-index)
      ≡ gathered (g.W.Wanted.is_wanted l.wanted) l.fn.lines.items (nodes_from item_nodes (map view_item l.items) 0);
  kept : Keeps l.fn.lines.items l.lines.items;
}

abbrev pub invariant-visit_substs-loop-subst : goal.invariant-visit_substs-loop-subst
invariant-visit_substs-loop-subst g l = record {
  ok : gathered (g.W.Wanted.is_wanted l.wanted) l.lines.items
      (nodes_from subst_nodes (map view_subst l.substs) l.subst-index)
      ≡ gathered (g.W.Wanted.is_wanted l.wanted) l.fn.lines.items (nodes_from subst_nodes (map view_subst l.substs) 0);
  kept : Keeps l.fn.lines.items l.lines.items;
}
