use Rattle.std.proofs.Common.{◌≡◌, map, take}
use Rattle.shast.specs.View.{view_entry}
use Rattle.shgrammar.proofs.Remarks.{as_remark}
use Rattle.shline.proofs.for_loop.after_remarks.Given as goal

abbrev pub invariant-comments : goal.invariant-comments
invariant-comments l = map view_entry l.entries.items ≡ map as_remark (take l.comment-index l.comments)
