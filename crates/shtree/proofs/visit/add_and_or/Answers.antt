use Rattle.std.proofs.Common.{arith, rules}
use Rattle.shtree.proofs.Gathering.{gathered_none}
use Rattle.shast.proofs.Joined.{and_or_alone, and_or_joined}
use Rattle.shtree.proofs.visit.add_and_or.Goals as goal

pub returns : goal.returns
returns g c = record { ok = grind (arith, and_or_joined c.args.and_or.now); kept = search rules }

pub returns-then-is_empty : goal.returns-then-is_empty
returns-then-is_empty g c = record {
  ok = grind (arith, and_or_alone c.args.and_or.now, gathered_none);
  kept = search rules;
}
