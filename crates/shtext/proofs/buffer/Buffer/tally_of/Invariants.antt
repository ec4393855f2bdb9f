use Rattle.std.proofs.Common.{length, take}
use Rattle.shtext.specs.Buffer.{buffer_bytes}
use Rattle.shtext.specs.Edit.{IsTally, splices_of}
use Rattle.shtext.proofs.buffer.Buffer.tally_of.Given as goal

abbrev pub invariant-splices : goal.invariant-splices
invariant-splices l =
    IsTally l.tally (length (buffer_bytes l.self)) (splices_of (take l.splice-index l.splices))
