use Rattle.std.proofs.Common.{◌+◌, ◌-◌, Some, None, ap, arith, length, subst, sym, ◌∙◌}
use Rattle.shgrammar.specs.Scripts.{FirstFault}
use Rattle.shread.specs.Answers.{edition_of}
use Rattle.shtext.specs.Buffer.{buffer_bytes}
use Rattle.shlive.specs.Held.{Held}
use Rattle.shlive.proofs.LastLine.{fault_low, is_fault, is_none, last_low}
use Rattle.shlive.proofs.session.Session.fault.Goals as goal

pub overflow_sub-begin : goal.overflow_sub-begin
overflow_sub-begin c =
    let low = last_low (edition_of c.self.inside.reader.reader)
    (buffer_bytes c.self.inside.text) c.self.inside.lines c.self.invariant.row c.last-last.ensures.0
    c.last-last.result.now c.last-last.ensures.1 in
    omega (arith, low, c.len.ensures)

pub returns-in-None-clause-first : goal.returns-in-None-clause-first
returns-in-None-clause-first c =
    subst (λ (h : Held). FirstFault h.how.edition h.bytes None) c.self.view_is
    (is_none (edition_of c.self.inside.reader.reader)
    (buffer_bytes c.self.inside.text) c.self.inside.lines c.self.invariant.row c.last-last.ensures.0
    c.last-last.result.now c.last-last.ensures.1 (sym c.fault.ensures ∙ c.in-None.is))

pub overflow_add-result : goal.overflow_add-result
overflow_add-result c =
    let low = last_low (edition_of c.self.inside.reader.reader)
    (buffer_bytes c.self.inside.text) c.self.inside.lines c.self.invariant.row c.last-last.ensures.0
    c.last-last.result.now c.last-last.ensures.1 in
    let within = fault_low (edition_of c.self.inside.reader.reader)
    (buffer_bytes c.self.inside.text) c.self.inside.lines c.self.invariant.row c.last-last.ensures.0
    c.last-last.result.now c.last-last.ensures.1 c.in-Some.fault (sym c.fault.ensures ∙ c.in-Some.is) in
    omega (arith, low, within, c.len.ensures, c.self.invariant.small)

pub returns-in-Some-clause-first : goal.returns-in-Some-clause-first
returns-in-Some-clause-first c =
    let f = c.in-Some.fault in
    subst (λ (h : Held). FirstFault h.how.edition h.bytes
    (Some (record { kind = f.kind; at = c.len.result - c.last-last.result.now.len + f.at }))) c.self.view_is
    (subst (λ n. FirstFault (edition_of c.self.inside.reader.reader) (buffer_bytes c.self.inside.text)
    (Some (record { kind = f.kind; at = n - c.last-last.result.now.len + f.at }))) (sym c.len.ensures)
    (is_fault (edition_of c.self.inside.reader.reader)
    (buffer_bytes c.self.inside.text) c.self.inside.lines c.self.invariant.row c.last-last.ensures.0
    c.last-last.result.now c.last-last.ensures.1 f (sym c.fault.ensures ∙ c.in-Some.is)))

pub returns-in-Some-clause-within : goal.returns-in-Some-clause-within
returns-in-Some-clause-within c =
    let low = last_low (edition_of c.self.inside.reader.reader)
    (buffer_bytes c.self.inside.text) c.self.inside.lines c.self.invariant.row c.last-last.ensures.0
    c.last-last.result.now c.last-last.ensures.1 in
    let within = fault_low (edition_of c.self.inside.reader.reader)
    (buffer_bytes c.self.inside.text) c.self.inside.lines c.self.invariant.row c.last-last.ensures.0
    c.last-last.result.now c.last-last.ensures.1 c.in-Some.fault (sym c.fault.ensures ∙ c.in-Some.is) in
    let same = ap length (ap (λ (h : Held). h.bytes) c.self.view_is) in
    omega (arith, low, within, c.len.ensures, same)
