use Rattle.std.proofs.Common.{◌≡◌, ◌≤◌, ◌-◌, length, drop}
use Rattle.shgrammar.specs.Standing.{raw_past}
use Rattle.shgrammar.specs.Classes.{in_class}
use Rattle.shline.specs.Clauses.{Inside, on}
use Rattle.shline.proofs.cursor.Cursor.raw_past_by_byte.Given as goal

abbrev pub invariant-bytes : goal.invariant-bytes
invariant-bytes g l =
    let text = drop l.self.base (g.S.Source.bytes l.self.source.now) in
    record {
      value : raw_past (in_class l.class) text (on l.self l.at) ≡ raw_past (in_class l.class) text (on l.self l.from);
      low : l.from ≤ l.at;
      inside : Inside l.self l.at;
    }

abbrev pub decreases-bytes : goal.decreases-bytes
decreases-bytes g l = length (drop l.self.base (g.S.Source.bytes l.self.source.now)) - on l.self l.at
