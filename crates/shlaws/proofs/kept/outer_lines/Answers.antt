use Rattle.shlaws.proofs.WholeLines.{outer_fault, outer_line}
use Rattle.shlaws.proofs.kept.outer_lines.Goals as goal

pub returns : goal.returns
returns c = record {
  line = λ e bytes p blank newline es t read. outer_line e bytes p blank newline es t read;
  fault = λ e bytes p blank f read. outer_fault e bytes p blank f read;
}
