use Rattle.std.proofs.Common.{◌≡◌, drop}
use Rattle.shgrammar.specs.Tokens.{is_word_at}
use Rattle.shline.specs.Clauses.{Inside, on}
use Rattle.shline.proofs.cursor.Cursor.is_broken_word.Given as goal

abbrev pub invariant-letters : goal.invariant-letters
invariant-letters g l =
    let text = drop l.self.base (g.S.Source.bytes l.self.source.now) in
    (is_word_at text (on l.self l.at) (drop l.letter-index l.word) ≡ is_word_at text (on l.self l.from) l.word)
    × Inside l.self l.at
