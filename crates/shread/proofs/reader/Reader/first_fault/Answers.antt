use Rattle.shgrammar.proofs.Answered.{fault_alone}
use Rattle.shread.proofs.reader.Reader.first_fault.Goals as goal

pub returns-clause-only : goal.returns-clause-only
returns-clause-only g c = fault_alone c.args.self.now.edition
    (g.S.Source.bytes c.args.source.now) _ c.in_ok-fault.ensures.fault
