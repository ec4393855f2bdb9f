use Rattle.shlaws.proofs.QuotePieces.{word_is}
use Rattle.shlaws.proofs.QuoteReading.{word_leaves}
use Rattle.shlaws.proofs.quotes.quotes_alike.Goals as goal

pub returns : goal.returns
returns c = record {
  pieces = λ room p n g d word is. word_leaves room p n g d word is;
  bytes = λ edition word left leaves. word_is edition word left leaves;
}
