use Rattle.std.proofs.Common.{ap, arith, refl, sym, ◌∙◌}
use Rattle.std.proofs.Math.Seq.{take-append-add}
use Rattle.std.proofs.lemmas.List.{take-take}
use Rattle.std.proofs.lemmas.Result.{IfOk-weaker}
use Rattle.shast.specs.Shape.{text_at}
use Rattle.shgrammar.proofs.Runs.{run_part}
use Rattle.shprint.specs.Written.{sheet, sheet_of}
use Rattle.shprint.proofs.Writing.{written_text}
use Rattle.shprint.proofs.printer.Printer.print_text.Goals as goal

-- the row begins with the text
pub returns-in_ok-extend_from_slice-in-Some : goal.returns-in_ok-extend_from_slice-in-Some
returns-in_ok-extend_from_slice-in-Some g c =
    let bytes = g.S.Source.bytes c.args.self.now.source.now in
    let wanted = c.saturating_sub-wanted.result in
    let front = take-append-add c.args.page.now.text.items c.in-Some.row.now wanted in
    let row = take-take wanted 64 c.run.result.now (grind (arith, c.if-wanted-le-ROW.true)) in
    let run = run_part bytes c.args.span.start c.run.result.now c.run.ensures wanted
    (grind (arith, c.if-wanted-le-ROW.true, c.first_chunk.ensures)) in
    grind (arith, written_text, front, row, run)

pub returns-in_default : goal.returns-in_default
returns-in_default g c =
    let page = c.args.page.now in
    let copied = text_at (g.S.Source.bytes c.args.self.now.source.now) c.args.span in
    IfOk-weaker c.copy.result _ _
    (λ _ is. (ap (λ t. sheet_of t page.held.items) is ∙ sym (written_text (sheet page) copied), refl))
    c.copy.ensures
