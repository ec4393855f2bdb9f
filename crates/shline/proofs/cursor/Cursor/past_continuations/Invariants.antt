use Rattle.std.proofs.Common.{◌≡◌, ◌≤◌, ◌-◌, length, drop}
use Rattle.shgrammar.specs.Bytes.{past_continuations}
use Rattle.shline.specs.Clauses.{Inside, on}
use Rattle.shline.proofs.cursor.Cursor.past_continuations.Given as goal

abbrev pub invariant-continuations : goal.invariant-continuations
invariant-continuations g l =
    let text = drop l.self.base (g.S.Source.bytes l.self.source.now) in
    record {
      value : past_continuations text (on l.self l.at) ≡ past_continuations text (on l.self l.from);
      low : l.from ≤ l.at;
      inside : Inside l.self l.at;
    }

abbrev pub decreases-continuations : goal.decreases-continuations
decreases-continuations g l = length (drop l.self.base (g.S.Source.bytes l.self.source.now)) - on l.self l.at
