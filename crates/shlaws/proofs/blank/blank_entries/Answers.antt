use Rattle.shlaws.proofs.BlankLines.{before_all, after_command, after_remark}
use Rattle.shlaws.proofs.blank.blank_entries.Goals as goal

pub returns : goal.returns
returns c = record {
  after_command = λ l es e parted n. after_command l es e parted n;
  after_remark = λ l es e n. after_remark l es e n;
  first = λ n. before_all n;
}
