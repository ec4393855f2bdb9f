use Rattle.std.proofs.Common.{◌∙◌, ap, refl, arith}
use Rattle.std.proofs.lemmas.Result.{err_from_is_err_and}
use Rattle.shprint.specs.Written.{sheet}
use Rattle.shpieces.proofs.ByLine.{after_line, at_start, last_printed, no_text}
use Rattle.shpieces.proofs.by_line.Printing.print_rest.Goals as goal

pub lines-init : goal.lines-init
lines-init g c =
    let bytes = g.S.Source.bytes c.args.source.now in
    let self = c.args.self in
    let start = c.following-lines.ensures.start in record {
      printed = λ e y front is.
          let begun = at_start e y bytes front c.following-lines.result self.before
          (sheet self.page) start.0 start.1 is.0 in
          rw c.reserve_exact.ensures.items begun;
      margin = refl;
      source = c.following-lines.ensures.source;
      within = omega (arith, start.0);
      edition = c.following-lines.ensures.edition;
    }

pub lines-preserved : goal.lines-preserved
lines-preserved g c =
    let bytes = g.S.Source.bytes c.args.source.now in
    let inv = c.lines.invariant in
    let moves = c.in_ok-told.ensures.moves in
    let done = c.in_ok-print_entries.ensures in record {
      printed = λ e y front is.
          let b = inv.printed e y front is in
          after_line e y bytes front c.lines.lines c.read_outer.new.self (inv.edition ∙ is.3) (sheet c.lines.self.page)
          (sheet c.print_entries.new.page) b _ c.in_ok-told.told inv.source
          c.if-not-told.false (c.in_ok-told.ensures.line b.so b.stands) moves.past.at (moves.past.stands b.so b.stands)
          (rw (inv.margin ∙ is.1, is.2, c.deref.ensures.value) at done.0);
      margin = done.1 ∙ inv.margin;
      source = ap (λ source. g.S.Source.bytes source.now) moves.past.same.source ∙ inv.source;
      within = rw inv.source at moves.within;
      edition = moves.past.same.edition ∙ inv.edition;
    }

pub returns-then-not-told-clause-printed : goal.returns-then-not-told-clause-printed
returns-then-not-told-clause-printed g c = λ e y front is.
    let bytes = g.S.Source.bytes c.args.source.now in
    let inv = c.lines.invariant in
    let b = inv.printed e y front is in
    last_printed e y bytes front c.lines.lines c.read_outer.new.self (inv.edition ∙ is.3) (sheet c.lines.self.page)
    (sheet c.print_entries.new.page) b _ c.in_ok-told.told inv.source
    c.if-not-told.true (c.in_ok-told.ensures.line b.so b.stands)
    (rw (inv.margin ∙ is.1, is.2, c.deref.ensures.value) at c.in_ok-print_entries.ensures.0)

pub returns-in_err-told-clause-err : goal.returns-in_err-told-clause-err
returns-in_err-told-clause-err g c =
    let bytes = g.S.Source.bytes c.args.source.now in
    let inv = c.lines.invariant in
    let stop = c.in_err-told.field-0.0 in
    let p = err_from_is_err_and c.from_residual.result c.from_residual.ensures.1 in
    rw (p.1, p.2) (λ e y front is.
    let b = inv.printed e y front is in
    no_text e y bytes front c.lines.lines c.read_outer.new.self (inv.edition ∙ is.3) (sheet c.lines.self.page)
    (sheet c.lines.self.page) b _ stop inv.source
    (c.in_err-told.ensures.line b.so b.stands) c.in_err-told.ensures.within)
