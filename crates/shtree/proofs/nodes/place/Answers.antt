use Rattle.std.proofs.Common.{◌∙◌, ◌<◌, ◌≢◌, arith, get_or-set_other, length, sym}
use Rattle.std.proofs.lemmas.List.{length-set}
use Rattle.shast.specs.declared.node.NodeLine.{NodeLine}
use Rattle.shtree.proofs.Placed.{placed_more, placed_nowhere}
use Rattle.shtree.proofs.nodes.place.Goals as goal

pub loop-line-preserved : goal.loop-line-preserved
loop-line-preserved c =
    let at = c.loop-line.line-index in
    let found = c.loop-line.found in
    record {
      so_far = placed_more c.args.base found at c.placed.result _ (omega arith) c.placed.ensures
          ∙ c.loop-line.invariant.so_far;
      within = λ k d after below.
          let other : k ≢ at = omega arith in
          let inside : k < length found = omega (arith, length-set {A = NodeLine}) in
          rw get_or-set_other (c.loop-line.invariant.within k d (omega arith) inside);
    }

pub returns-then-base-eq0 : goal.returns-then-base-eq0
returns-then-base-eq0 c = rw c.if-base-eq0.true (sym (placed_nowhere c.args.found.now))

pub placed-requires : goal.placed-requires
placed-requires c = c.loop-line.invariant.within c.loop-line.line-index _ (omega arith) (omega arith)
