use Rattle.shlaws.proofs.BlankLines.{after_line, no_line_before, first_blank_told}
use Rattle.shlaws.proofs.blank.blank_lines.Goals as goal

pub returns : goal.returns
returns c = record {
  after_line = λ so es e n. after_line so es e n;
  first = λ n. no_line_before n;
  told = λ blank. first_blank_told blank;
}
