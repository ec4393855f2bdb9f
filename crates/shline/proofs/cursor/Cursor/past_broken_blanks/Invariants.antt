use Rattle.std.proofs.Common.{◌≡◌, ◌≤◌, ◌-◌, length, drop, false}
use Rattle.shgrammar.specs.Bytes.{past_blanks}
use Rattle.shgrammar.specs.Classes.{is_blank}
use Rattle.shgrammar.specs.Standing.{raw_in}
use Rattle.shline.specs.Clauses.{Inside, on}
use Rattle.shline.proofs.cursor.Cursor.past_broken_blanks.Given as goal

abbrev pub invariant-joined : goal.invariant-joined
invariant-joined g l =
    let text = drop l.self.base (g.S.Source.bytes l.self.source.now) in
    record {
      value : past_blanks text (on l.self l.at) ≡ past_blanks text (on l.self l.from);
      low : l.from ≤ l.at;
      inside : Inside l.self l.at;
      end : raw_in is_blank text (on l.self l.at) ≡ false;
    }

abbrev pub decreases-joined : goal.decreases-joined
decreases-joined g l = length (drop l.self.base (g.S.Source.bytes l.self.source.now)) - on l.self l.at
