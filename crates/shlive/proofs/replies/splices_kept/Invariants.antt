use Rattle.std.proofs.Common.{◌≡◌, take}
use Rattle.shtext.specs.Edit.{splices_of}
use Rattle.shlive.specs.Parts.{splices_kept}
use Rattle.shlive.proofs.replies.splices_kept.Given as goal

abbrev pub invariant-kept : goal.invariant-kept
invariant-kept l = splices_of l.splices.items ≡ splices_kept (take l.splice-index l.kept)
