use Rattle.shlive.proofs.AnyEdits.{all_bytes, all_how, all_rose, all_sums, same_fault, same_nodes, same_outline, same_status, same_text}
use Rattle.shlive.proofs.laws.after_any_edits.Goals as goal

pub returns : goal.returns
returns c = record {
  bytes = all_bytes;
  how = all_how;
  meter = all_rose;
  sums = all_sums;
  status = λ before after edits is x y p q. same_status before after edits is x y p q;
  fault = λ before after edits is x y p q. same_fault before after edits is x y p q;
  outline = λ before after edits is x y p q. same_outline before after edits is x y p q;
  nodes = λ before after edits is at x y p q. same_nodes before after edits is at x y p q;
  text = λ before after edits is x y p q. same_text before after edits is x y p q;
}
