use Rattle.std.proofs.Common.{◌≡◌, ◌+◌, ◌++◌, length, drop}
use Rattle.shtext.specs.Buffer.{with_splices}
use Rattle.shtext.specs.Edit.{AreInRange, RiseFrom, splices_of}
use Rattle.shtext.proofs.edit.push_with.Given as goal

abbrev pub invariant-splices : goal.invariant-splices
invariant-splices l = record {
  text : l.into.items ++ with_splices l.at l.rest (splices_of (drop l.splice-index l.splices))
      ≡ l.initial.into.items ++ with_splices l.from l.bytes (splices_of l.splices);
  in_range : AreInRange (l.at + length l.rest) (splices_of (drop l.splice-index l.splices));
  rising : RiseFrom l.at (splices_of (drop l.splice-index l.splices));
}
