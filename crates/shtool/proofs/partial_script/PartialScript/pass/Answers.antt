use Rattle.std.proofs.Common.{◌≡◌, ◌+◌, ap, count_by, refl, take}
use Rattle.shsource.specs.Text.{is_newline}
use Rattle.shtool.proofs.Parts.{held_passed}
use Rattle.shtool.proofs.partial_script.PartialScript.pass.Goals as goal

pub returns-clause-held : goal.returns-clause-held
returns-clause-held c = λ read is.
    let front = take c.args.count c.args.self.now.text.items in
    let counted : c.newlines_in.result ≡ count_by is_newline front =
    rw c.deref.ensures.value at c.newlines_in.ensures in
    held_passed read c.args.self.now c.args.count is c.requires _ refl
    (ap (λ n. c.args.self.now.newlines + n) counted) c.drop_front.ensures
