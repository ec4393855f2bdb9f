use Rattle.std.proofs.Common.{subst, sym}
use Rattle.shgrammar.specs.Levels.{ReadsWord}
use Rattle.shgrammar.specs.Sights.{given}
use Rattle.shgrammar.proofs.WordsAnywhere.{WordOf, read_word, reads_word_anywhere, same_word, one_word}
use Rattle.shast.specs.Shape.{shape_of_word}
use Rattle.shread.proofs.SomeWord.{some_read}
use Rattle.shread.proofs.laws.word_anywhere.Goals as goal

pub returns : goal.returns
returns c = record {
  read = λ room p g w t told part. read_word room g p w t told part;
  some = some_read;
  word = λ room p q n g h by is same ender no_open.
      subst (λ e. ReadsWord room (given e h.text h.offset) q n) (sym by)
      (reads_word_anywhere room g h p q n is same ender no_open);
  shape = λ room p q n g h w told B C by part same ender no_open here there.
      subst (λ e. WordOf room (given e h.text h.offset) q n C (shape_of_word B w)) (sym by)
      (same_word room g h p q n w told part same ender no_open B C here there);
  only = λ room p m n g one two. one_word room g p m n one two;
}
