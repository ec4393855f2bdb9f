use Rattle.std.proofs.Common.{◌≤◌, ◌∙◌, ap, subst, sym, length, drop}
use Rattle.shlive.specs.Waiting.{Waiting}
use Rattle.shlive.proofs.Passed.{passed}
use Rattle.shlive.proofs.incoming.Incoming.pass.Goals as goal

pub returns-clause-bytes : goal.returns-clause-bytes
returns-clause-bytes c =
    let same = ap (λ (w : Waiting). w.bytes) c.self.view_is in
    passed c.self.inside.piece c.self.inside.at c.self.inside.«end» c.args.count
    (subst (λ l. c.args.count ≤ length l) (sym same) c.requires) ∙ ap (drop c.args.count) same
