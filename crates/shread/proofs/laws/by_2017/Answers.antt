use Rattle.shgrammar.proofs.Editions.{delimiter_seen, none_falls, piece_seen, token_seen}
use Rattle.shread.proofs.Outcome2017.{outcome_from, outcome_to}
use Rattle.shread.proofs.laws.by_2017.Goals as goal

pub returns : goal.returns
returns c = record {
  outcome = λ bytes a read. outcome_to bytes a read;
  back = λ bytes a read. outcome_from bytes a read;
  token = λ position g s by. token_seen position g s by;
  piece = λ mode n g s by. piece_seen mode n g s by;
  delimiter = λ word g s by. delimiter_seen word g s by;
  falls = λ position g s by. none_falls position g s by;
}
