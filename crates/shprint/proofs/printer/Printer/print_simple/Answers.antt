use Rattle.std.proofs.Common.{◌≡◌, ◌∷◌, arith}
use Rattle.std.proofs.lemmas.List.{nil_from_length}
use Rattle.shprint.specs.Written.{sheet}
use Rattle.shprint.proofs.Spaced.{simple_printed}
use Rattle.shprint.proofs.Writing.{written_none}
use Rattle.shprint.proofs.printer.Printer.print_simple.Goals as goal

pub returns-in_default : goal.returns-in_default
returns-in_default g c = grind (arith, written_none, nil_from_length)

pub returns : goal.returns
returns g c =
    let bytes = g.S.Source.bytes c.args.self.now.source.now in
    let layout = c.args.self.now.layout in
    let page = c.args.page.now in
    let word = c.in-Some-word_span.ensures in
    let after = c.words_after-end.ensures in
    let split : c.args.items.now ≡ c.in-Some.first.now ∷ c.in-Some.rest.now =
    grind (arith, c.in-Some.ensures, c.split_first.ensures, c.in-Some.first-is, c.in-Some.rest-is) in
    let told =
    simple_printed bytes layout page.margin.items
    (sheet page) c.in-Some-word_span.span c.words_after-end.result.0 c.in-Some.first.now c.in-Some.rest.now
    c.words_after-end.result.1.now
    (word.printed bytes layout) word.ordered after.onward (after.words layout page.margin.items) in
    grind (arith, told, split, c.in_ok-print_text.ensures, c.print_items-2.ensures)
