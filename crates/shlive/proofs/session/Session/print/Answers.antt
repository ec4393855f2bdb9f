use Rattle.std.proofs.Common.{◌∙◌, None, subst, sym}
use Rattle.shgrammar.specs.Scripts.{FirstFault}
use Rattle.shprint.specs.ReadBack.{IsTextOf}
use Rattle.shread.specs.Answers.{edition_of}
use Rattle.shtext.specs.Buffer.{buffer_bytes}
use Rattle.shlive.specs.Held.{Held}
use Rattle.shlive.proofs.LastLine.{no_fault, not_some_is_none, text_of_row}
use Rattle.shlive.proofs.session.Session.print.Goals as goal

pub returns-in_err-text-clause-faulty : goal.returns-in_err-text-clause-faulty
returns-in_err-text-clause-faulty c = λ fault first.
    absurd (no_fault c.args.self.now.how.edition c.args.self.now.bytes c.fault.result c.fault.ensures.first
    (sym c.is_some.ensures ∙ c.if-is_some.false) fault first)

pub returns-clause-text : goal.returns-clause-text
returns-clause-text c =
    let session = c.self.inside in
    let none = subst (FirstFault c.args.self.now.how.edition c.args.self.now.bytes)
    (not_some_is_none c.fault.result (sym c.is_some.ensures ∙ c.if-is_some.false)) c.fault.ensures.first in
    let here = subst (λ (h : Held). FirstFault h.how.edition h.bytes None) (sym c.self.view_is) none in
    let text = c.in_ok-text.text.items in
    subst (λ (h : Held). IsTextOf h.how.edition h.how.layout h.bytes text) c.self.view_is
    (text_of_row (edition_of session.reader.reader) session.layout
    (buffer_bytes session.text) session.lines c.self.invariant.row here text c.in_ok-text.ensures)
