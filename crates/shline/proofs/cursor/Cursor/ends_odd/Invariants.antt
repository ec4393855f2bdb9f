use Rattle.std.proofs.Common.{◌≡◌, ◌≤◌, drop}
use Rattle.shgrammar.specs.Form.{raw}
use Rattle.shline.proofs.Awaited.{odd, flipped}
use Rattle.shline.specs.Clauses.{on}
use Rattle.shline.proofs.cursor.Cursor.ends_odd.Given as goal

abbrev pub invariant-backslashes : goal.invariant-backslashes
invariant-backslashes g l =
    let text = drop l.self.base (g.S.Source.bytes l.self.source.now) in
    record {
      value :
          flipped l.odd (odd (raw text (on l.self l.from) (on l.self l.at)))
          ≡ odd (raw text (on l.self l.from) (on l.self l.end));
      low : l.from ≤ l.at;
      high : l.at ≤ l.end;
    }

abbrev pub decreases-backslashes : goal.decreases-backslashes
decreases-backslashes g l = l.at
