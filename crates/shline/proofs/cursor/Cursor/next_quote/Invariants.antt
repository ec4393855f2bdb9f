use Rattle.std.proofs.Common.{◌≡◌, ◌≤◌, drop}
use Rattle.shgrammar.specs.Characters.{apostrophe}
use Rattle.shgrammar.specs.Standing.{next_of}
use Rattle.shline.specs.Clauses.{Inside, on}
use Rattle.shline.proofs.cursor.Cursor.next_quote.Given as goal

abbrev pub invariant-near : goal.invariant-near
invariant-near g l =
    let text = drop l.self.base (g.S.Source.bytes l.self.source.now) in
    record {
      value : next_of apostrophe text (on l.self l.at) ≡ next_of apostrophe text (on l.self l.from);
      low : l.from ≤ l.at;
      inside : Inside l.self l.at;
    }
