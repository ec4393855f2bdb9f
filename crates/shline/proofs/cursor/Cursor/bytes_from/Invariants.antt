use Rattle.std.proofs.Common.{◌≡◌, ◌≤◌, ◌-◌, drop}
use Rattle.shgrammar.specs.Form.{raw}
use Rattle.shline.specs.Clauses.{on}
use Rattle.shline.proofs.cursor.Cursor.bytes_from.Given as goal

abbrev pub invariant-bytes : goal.invariant-bytes
invariant-bytes g l =
    let text = drop l.self.base (g.S.Source.bytes l.self.source.now) in
    record {
      value : l.bytes.items ≡ raw text (on l.self l.from) (on l.self l.at);
      low : l.from ≤ l.at;
      high : l.at ≤ l.self.at;
    }

abbrev pub decreases-bytes : goal.decreases-bytes
decreases-bytes g l = l.self.at - l.at
