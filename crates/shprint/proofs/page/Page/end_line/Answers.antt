use Rattle.std.proofs.Common.{◌≡◌, ◌∙◌, ap, arith, length, refl}
use Rattle.std.proofs.lemmas.Bool.Decides.{nat_tests}
use Rattle.std.proofs.lemmas.List.{nil_from_length}
use Rattle.shprint.specs.Written.{sheet, sheet_of}
use Rattle.shprint.proofs.Writing.{written_line_alone}
use Rattle.shprint.proofs.page.Page.end_line.Goals as goal

pub returns-else-not-is_empty : goal.returns-else-not-is_empty
returns-else-not-is_empty c =
    let page = c.args.self.now in
    let size : length page.held.items ≡ 0 = grind (arith, nat_tests, c.is_empty.ensures, c.if-not-is_empty.false) in (
      ap (λ t. sheet_of t page.held.items) c.in_ok-push.ensures.items
          ∙ written_line_alone (sheet page) (nil_from_length page.held.items size),
      refl,
    )
