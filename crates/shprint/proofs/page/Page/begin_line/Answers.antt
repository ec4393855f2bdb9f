use Rattle.std.proofs.Common.{◌≡◌, arith, length, refl}
use Rattle.std.proofs.lemmas.Bool.Decides.{nat_tests}
use Rattle.std.proofs.lemmas.List.{nil_from_length}
use Rattle.shprint.specs.Written.{sheet}
use Rattle.shprint.proofs.Writing.{written_nothing}
use Rattle.shprint.proofs.page.Page.begin_line.Goals as goal

pub returns-then-is_empty : goal.returns-then-is_empty
returns-then-is_empty c =
    let page = c.args.self.now in
    let size : length page.margin.items ≡ 0 = grind (arith, nat_tests, c.is_empty.ensures, c.if-is_empty.true) in
    (written_nothing (sheet page) page.margin.items (nil_from_length page.margin.items size), refl)
