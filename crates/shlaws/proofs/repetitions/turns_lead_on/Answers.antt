use Rattle.shgrammar.specs.Levels.{level}
use Rattle.shgrammar.specs.Words.{a_word}
use Rattle.shlaws.proofs.FromOnward.{may_of_onward, passes_of_onward}
use Rattle.shlaws.proofs.Idle.{idle_never, idle_rests}
use Rattle.shlaws.proofs.Scripts.{passes_onward, word_onward}
use Rattle.shlaws.proofs.repetitions.turns_lead_on.Goals as goal

pub returns : goal.returns
returns c = record {
  script = λ e bytes a told read. passes_onward e bytes a told read;
  back = λ e bytes a told read. passes_of_onward e bytes a told read;
  word = λ room g s w told read. word_onward room g s w told read;
  word_back = λ room g s w told read. may_of_onward g (a_word (level room)) s w told read;
  rests = λ g s. idle_rests g s;
  idle = λ g s x told read. idle_never g s x told read;
}
