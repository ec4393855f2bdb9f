use Rattle.std.proofs.Common.{get_or, length, take, refl, subst, sym}
use Rattle.shtext.specs.Buffer.{buffer_bytes}
use Rattle.shtext.specs.Edit.{IsTally, splices_of}
use Rattle.shtext.specs.declared.splice.Splice.{Splice}
use Rattle.shtext.proofs.Splices.{up_to}
use Rattle.shtext.proofs.buffer.Buffer.tally_of.Goals as goal

pub splices-preserved : goal.splices-preserved
splices-preserved c =
    let len = length (buffer_bytes c.args.self.now) in
    let xs = c.args.splices.now in
    let n = c.splices.splice-index in
    let one : Splice = get_or xs n _ in
    subst (IsTally c.add.new.self len) (sym (up_to xs n _ c.splices-test.true))
    (c.add.ensures len (splices_of (take n xs)) one.bytes.now refl c.splices.invariant)
