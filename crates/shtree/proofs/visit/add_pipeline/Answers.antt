use Rattle.std.proofs.Common.{arith, inl, inr, rules}
use Rattle.shtree.proofs.Gathering.{gathered_none}
use Rattle.shast.proofs.Joined.{pipeline_alone, pipeline_joined}
use Rattle.shtree.proofs.visit.add_pipeline.Goals as goal
use Rattle.shtree.proofs.visit.add_pipeline.Goals.{else-is_none-via-then-is_none+else-is_empty, else-is_none-via-else-is_none}

pub returns : goal.returns
returns g c =
    elim c.else-is_none.branch [
      | else-is_none-via-then-is_none+else-is_empty w ↦
          let e = pipeline_joined c.args.pipeline.now (inr (grind arith)) in
          record { ok = grind (arith, e); kept = search rules }
      | else-is_none-via-else-is_none w ↦
          let e = pipeline_joined c.args.pipeline.now (inl (grind arith)) in
          record { ok = grind (arith, e); kept = search rules }
    ]

pub returns-then-is_empty : goal.returns-then-is_empty
returns-then-is_empty g c = record {
  ok = grind (arith, pipeline_alone c.args.pipeline.now (grind arith) (grind arith), gathered_none);
  kept = search rules;
}
