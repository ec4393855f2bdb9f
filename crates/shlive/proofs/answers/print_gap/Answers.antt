use Rattle.std.proofs.Common.{◌≡◌, ◌∙◌, ◌&&◌, true, false, nat_lt, length, ap, arith, refl}
use Rattle.std.proofs.lemmas.Bool.Decides.{nat_tests}
use Rattle.shast.specs.Shape.{Text}
use Rattle.shprint.specs.Written.{sheet, sheet_of}
use Rattle.shlive.proofs.Printing.{no_blank, one_blank}
use Rattle.shlive.proofs.answers.print_gap.Goals as goal
use Rattle.shlive.proofs.answers.print_gap.Goals.{else-gap-via-then-gap+else-not-is_empty, else-gap-via-else-gap}

pub returns-in_ok-push : goal.returns-in_ok-push
returns-in_ok-push c = λ none.
    let page = c.args.page.now in
    let some : nat_lt 0 (length page.text.items) ≡ true =
    grind (arith, nat_tests, c.is_empty.ensures, c.if-not-is_empty.true) in
    let blank = c.args.gap && nat_lt 0 (length page.text.items) in
    let is : blank ≡ true = ap (λ g. g && nat_lt 0 (length page.text.items)) c.if-gap.true ∙ some in (
      ap (λ t. sheet_of t page.held.items) c.in_ok-push.ensures.items ∙ one_blank (sheet page) blank is none,
      refl {A = Text},
    )

pub returns-else-gap : goal.returns-else-gap
returns-else-gap c = λ none.
    let page = c.args.page.now in
    let some = nat_lt 0 (length page.text.items) in
    let is : c.args.gap && some ≡ false =
    elim c.else-gap.branch [
      | else-gap-via-then-gap+else-not-is_empty w ↦ ap (λ g. g && some) w.if-gap.true
          ∙ grind (arith, nat_tests, w.is_empty.ensures, w.if-not-is_empty.false)
      | else-gap-via-else-gap w ↦ ap (λ g. g && some) w.if-gap.false
    ] in
    (no_blank (sheet page) (c.args.gap && some) is, refl)
