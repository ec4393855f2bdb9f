use Rattle.std.proofs.Common.{◌≡◌, ◌≤◌, ◌-◌, length, drop, false}
use Rattle.shgrammar.specs.Bytes.{past}
use Rattle.shgrammar.specs.Standing.{raw_in}
use Rattle.shgrammar.specs.Classes.{in_class}
use Rattle.shline.specs.Clauses.{Inside, on}
use Rattle.shline.proofs.cursor.Cursor.past_joined.Given as goal

abbrev pub invariant-joined : goal.invariant-joined
invariant-joined g l =
    let text = drop l.self.base (g.S.Source.bytes l.self.source.now) in
    record {
      value : past (in_class l.class) text (on l.self l.at) ≡ past (in_class l.class) text (on l.self l.from);
      low : l.from ≤ l.at;
      inside : Inside l.self l.at;
      end : raw_in (in_class l.class) text (on l.self l.at) ≡ false;
    }

abbrev pub decreases-joined : goal.decreases-joined
decreases-joined g l = length (drop l.self.base (g.S.Source.bytes l.self.source.now)) - on l.self l.at
