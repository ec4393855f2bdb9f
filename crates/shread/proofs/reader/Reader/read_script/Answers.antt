use Rattle.shgrammar.proofs.Answered.{script_alone}
use Rattle.shgrammar.proofs.NormalForm.{script_in_normal_form}
use Rattle.shread.proofs.reader.Reader.read_script.Goals as goal

pub returns-clause-only : goal.returns-clause-only
returns-clause-only g c = script_alone c.args.self.now.edition
    (g.S.Source.bytes c.args.source.now) _ c.in_ok-script.ensures.value

pub returns-clause-normal : goal.returns-clause-normal
returns-clause-normal g c = script_in_normal_form c.args.self.now.edition
    (g.S.Source.bytes c.args.source.now) _ c.in_ok-script.ensures.value
