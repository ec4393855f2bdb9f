use Rattle.std.proofs.Common.{codes, rules}
use Rattle.clap.specs.Words.{found_of}
use Rattle.clap.proofs.WalkLemmas.{first_value-rows}
use Rattle.shtool.proofs.words.file_of.Goals as goal

-- the text is that of clap's rows
pub returns-in-Some-text : goal.returns-in-Some-text
returns-in-Some-text c = rw (← first_value-rows (found_of c.args.matches.now) (codes "FILE")) (search rules)

pub returns-in_default : goal.returns-in_default
returns-in_default c = rw (← first_value-rows (found_of c.args.matches.now) (codes "FILE")) (search rules)

pub returns-in_default-2 : goal.returns-in_default-2
returns-in_default-2 c = rw (← first_value-rows (found_of c.args.matches.now) (codes "FILE")) (search rules)
