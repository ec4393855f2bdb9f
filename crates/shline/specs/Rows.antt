-- The rows that vectors hold, in the definitions.
use Rattle.std.specs.Prelude.{List as Row, Vec, map}
use Rattle.std.specs.Global.{Global}
use Rattle.shast.specs.declared.tree.AndOrPart.{AndOrPart}
use Rattle.shast.specs.declared.tree.Branch.{Branch}
use Rattle.shast.specs.declared.tree.Item.{Item}
use Rattle.shast.specs.declared.tree.PipelinePart.{PipelinePart}
use Rattle.shast.specs.declared.tree.Subst.{Subst}
use Rattle.shast.specs.declared.tree.Word.{Word}
use Rattle.shast.specs.Tree.{ABranch, AnAndOrPart, AnItem, APipelinePart, ASubst, AWord}
use Rattle.shast.specs.View.{view_and_or_part, view_branch, view_item, view_pipeline_part, view_subst, view_word}

abbrev pub view_substs : Vec Subst Global → Row ASubst
view_substs v = map view_subst v.items

abbrev pub view_words : Vec Word Global → Row AWord
view_words v = map view_word v.items

abbrev pub view_items : Vec Item Global → Row AnItem
view_items v = map view_item v.items

abbrev pub view_pipeline_parts : Vec PipelinePart Global → Row APipelinePart
view_pipeline_parts v = map view_pipeline_part v.items

abbrev pub view_and_or_parts : Vec AndOrPart Global → Row AnAndOrPart
view_and_or_parts v = map view_and_or_part v.items

abbrev pub view_branches : Vec Branch Global → Row ABranch
view_branches v = map view_branch v.items
