use Rattle.std.proofs.Common.{◌≡◌, ◌<◌, ◌≤◌, drop}
use Rattle.shgrammar.specs.Standing.{before_blanks}
use Rattle.shline.specs.Clauses.{on}
use Rattle.shline.proofs.cursor.Cursor.before_blanks.Given as goal

abbrev pub invariant-blanks : goal.invariant-blanks
invariant-blanks g l =
    let text = drop l.self.base (g.S.Source.bytes l.self.source.now) in
    record {
      value : before_blanks text (on l.self l.at) ≡ before_blanks text (on l.self l.end);
      low : l.from < l.at;
      high : l.at ≤ l.end;
    }

abbrev pub decreases-blanks : goal.decreases-blanks
decreases-blanks g l = l.at
