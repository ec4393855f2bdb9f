use Rattle.std.proofs.Common.{rules, ◌≡◌, ◌∙◌, None, ap, arith, refl, sym}
use Rattle.shpass.specs.LineByLine.{place_of}
use Rattle.shprint.specs.Written.{sheet}
use Rattle.shpieces.proofs.ByLine.{front_after, start_printed}
use Rattle.shpieces.proofs.by_line.Printing.print_front.Goals as goal

pub lines-init : goal.lines-init
lines-init g c =
    let bytes = g.S.Source.bytes c.args.source.now in
    let self = c.args.self.now in
    let start = c.following-lines.ensures.start in record {
      printed = λ e y front is. start_printed e y front bytes self.before c.following-lines.result.before
          c.following-lines.result.at
          (sheet self.page) start.0 start.1 is.0;
      margin = refl;
      source = c.following-lines.ensures.source;
      within = omega (arith, start.0);
      newline = λ some. absurd (omega (arith, some, start.0));
      layout = refl;
      own_edition = refl;
      edition = c.following-lines.ensures.edition;
    }

pub lines-preserved : goal.lines-preserved
lines-preserved g c =
    let bytes = g.S.Source.bytes c.args.source.now in
    let inv = c.lines.invariant in
    let passes = rw c.in-Some.is at c.in_ok-entries.ensures in
    let within = rw inv.source at passes.within in
    let done = c.in_ok-print_entries.ensures in record {
      printed = λ e y front is. front_after e y bytes c.lines.lines c.read_whole.new.self (inv.edition ∙ is.3)
          (sheet c.lines.self.page) (sheet c.print_entries.new.page) c.in-Some.entries front
          (inv.printed e y front is) (rw inv.source at passes.whole) passes.onward within
          (rw (inv.margin ∙ is.1, is.2, c.deref.ensures.value) at done.0);
      margin = done.1 ∙ inv.margin;
      source = ap (λ source. g.S.Source.bytes source.now) passes.same.source ∙ inv.source;
      within = within;
      newline = λ some. rw inv.source at passes.newline;
      layout = inv.layout;
      own_edition = inv.own_edition;
      edition = passes.same.edition ∙ inv.edition;
    }

pub returns-in_default-clause-all : goal.returns-in_default-clause-all
returns-in_default-clause-all g c =
    let none : c.in_ok-entries.field-0 ≡ None = search rules in
    let both = rw none at c.in_ok-entries.ensures in
    let place = c.at.ensures ∙ ap (λ lines. place_of lines) both.0 in
    rw (sym place) at (rw (c.lines.invariant.source, c.lines.invariant.edition) at both.1)
