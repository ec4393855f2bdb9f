use Rattle.std.proofs.Common.{◌∙◌, ap, length, true, false, Ok, Err, None, Some}
use Rattle.shpass.specs.LineByLine.{LineReads}
use Rattle.shpass.proofs.LineByLine.{all_within, ended_on, last_on, leads_nowhere, leads_on, so_far, told_in}
use Rattle.shgrammar.proofs.Scripts.{script_only}
use Rattle.shread.proofs.all_lines.script_from.Goals as goal

pub lines-preserved : goal.lines-preserved
lines-preserved g c =
    let bytes = g.S.Source.bytes c.args.source.now in
    let inv = c.lines.invariant in
    let line = c.in-Ok.told in
    let before = so_far c.lines.entries.items c.lines.lines.before.gap in
    let read = told_in (λ e B. LineReads e B before c.lines.lines.at) bytes _ c.args.edition _
    (Ok line) inv.source inv.edition
    (c.in-Ok.ensures.line before inv.stands) in
    let moves = c.in-Ok.ensures.moves in
    let all = c.in_ok-append-in-Ok.ensures.items in
    let on = ended_on c.args.edition bytes c.lines.entries.items c.append.new.self.items line.entries.items all
    c.lines.lines c.read_next.new.self inv.rest line.len moves.past.at (moves.past.stands before
    inv.stands)
    (leads_on c.args.edition bytes before c.lines.lines.at line true c.if-not-told.false read) in record {
      stands = on.0;
      rest = on.1;
      nodes =
          all_within (length bytes) c.lines.entries.items c.append.new.self.items line.entries.items all
          (rw inv.source at c.in-Ok.ensures.within) inv.nodes;
      source = ap (λ source. g.S.Source.bytes source.now) moves.past.same.source ∙ inv.source;
      within = rw inv.source at moves.within;
      edition = moves.past.same.edition ∙ inv.edition;
    }

pub returns-then-not-told-clause-value : goal.returns-then-not-told-clause-value
returns-then-not-told-clause-value g c =
    let bytes = g.S.Source.bytes c.args.source.now in
    let inv = c.lines.invariant in
    let line = c.in-Ok.told in
    let before = so_far c.lines.entries.items c.lines.lines.before.gap in
    let read = told_in (λ e B. LineReads e B before c.lines.lines.at) bytes _ c.args.edition _
    (Ok line) inv.source inv.edition
    (c.in-Ok.ensures.line before inv.stands) in
    ap (λ es. record { entries = es; fault = None }) c.list_of-then-not-told.ensures
    ∙ script_only c.args.edition bytes _
    (last_on c.args.edition bytes c.lines.entries.items c.append.new.self.items line.entries.items
    c.in_ok-append-in-Ok.ensures.items c.lines.lines c.read_next.new.self inv.rest
    (leads_on c.args.edition bytes before c.lines.lines.at line false c.if-not-told.true read))

pub returns-then-not-told-clause-spans : goal.returns-then-not-told-clause-spans
returns-then-not-told-clause-spans g c =
    let bytes = g.S.Source.bytes c.args.source.now in
    let inv = c.lines.invariant in
    rw c.list_of-then-not-told.ensures
    (all_within (length bytes) c.lines.entries.items c.append.new.self.items c.in-Ok.told.entries.items
    c.in_ok-append-in-Ok.ensures.items (rw inv.source at c.in-Ok.ensures.within) inv.nodes)

pub returns-in-Err-clause-value : goal.returns-in-Err-clause-value
returns-in-Err-clause-value g c =
    let bytes = g.S.Source.bytes c.args.source.now in
    let inv = c.lines.invariant in
    let fault = c.in_ok-fault-in-Err.fault in
    let before = so_far c.lines.entries.items c.lines.lines.before.gap in
    let read = told_in (λ e B. LineReads e B before c.lines.lines.at) bytes _ c.args.edition _
    (Err c.in-Err.stop) inv.source inv.edition (c.in-Err.ensures.line before inv.stands) in
    ap (λ es. record { entries = es; fault = Some fault }) c.list_of-in-Err.ensures
    ∙ script_only c.args.edition bytes _
    (inv.rest _ (leads_nowhere c.args.edition bytes before c.lines.lines.at c.in-Err.stop fault
    c.in_ok-fault-in-Err.ensures.wrong read))
