use Rattle.shlaws.proofs.LineFlags.{line_flags, newline_flags}
use Rattle.shlaws.proofs.blank.flags_of_a_line.Goals as goal

pub returns : goal.returns
returns c = record {
  entries = λ room l m g s t told part. line_flags room l m g s t told part;
  newline = λ room l m g s t told part. newline_flags room l m g s t told part;
}
