use Rattle.std.proofs.Common.{sym, ◌∙◌}
use Rattle.shgrammar.specs.Scripts.{line_of_text, script_at}
use Rattle.shgrammar.proofs.Scripts.{line_is, line_only, script_is, script_only}
use Rattle.shread.proofs.laws.one_outcome.Goals as goal

pub returns : goal.returns
returns c = record {
  script = λ e bytes a b p q. script_only e bytes a p ∙ sym (script_only e bytes b q);
  some_script = λ e bytes. (script_at e bytes, script_is e bytes);
  line = λ e bytes a b p q. line_only e bytes a p ∙ sym (line_only e bytes b q);
  some_line = λ e bytes. (line_of_text e bytes, line_is e bytes);
}
