use Rattle.std.proofs.Common.{rules, ◌≤◌, length, drop, arith, length-drop}
use Rattle.shgrammar.specs.Plain.{is_plain}
use Rattle.shgrammar.proofs.Runs.{run_all}
use Rattle.shline.specs.Clauses.{here_of}
use Rattle.shline.proofs.cursor.Cursor.skip_plain_near.Goals as goal

pub returns : goal.returns
returns g c =
    let self = c.args.self.now in
    let bytes = g.S.Source.bytes self.source.now in
    let low : self.base ≤ length bytes = omega arith in
    let within : here_of self ≤ length (drop self.base bytes) = omega arith in
    let whole = length-drop self.base bytes in
    let run = c.run_at.ensures in
    let plain = c.plain_front.ensures in record {
      plain =
          λ k k_low k_high. run_all bytes self.base (here_of self) c.run_at.result.now run low within
          (is_plain c.args.mode) c.plain_front.result plain.0 plain.1 k k_low (omega (arith, k_high));
      onward = omega arith;
      within = omega (arith, plain.0, run.short (omega (arith, whole, within)), whole, within);
      stays = search rules;
    }
