use Rattle.std.proofs.Common.{◌+◌, ◌<◌, ℕ, List, ◌∙◌, ap, arith, drop, length, length-drop, Some, subst, sym}
use Rattle.std.proofs.lemmas.List.{take_rest}
use Rattle.memchr.specs.Find.{IsFirstByte}
use Rattle.shgrammar.specs.Standing.{next_such}
use Rattle.shline.specs.Sought.{is_sought}
use Rattle.shline.proofs.Front.{front_run_on}
use Rattle.shline.proofs.Searches.{such_found, such_on}
use Rattle.shline.proofs.cursor.Cursor.find.Goals as goal

pub returns : goal.returns
returns g c =
    let self = c.args.self.now in
    let bytes : List ℕ = g.S.Source.bytes self.source.now in
    let test = is_sought c.args.sought in
    let i : ℕ = c.in-Some.index in
    let whole = length-drop self.base bytes in
    let lt : c.args.from < length self.front.now = c.if-from-self.true in
    let is = front_run_on bytes self.base self.begin c.args.from self.front.now self.stretch
    (omega (arith, self.inside, whole, self.begins)) lt in
    let first : IsFirstByte test (drop c.args.from self.front.now) (Some i) =
    subst (λ l. IsFirstByte test l (Some i)) (take_rest self.front.now c.args.from)
    (subst (IsFirstByte test _) c.in-Some.is c.first_in.ensures) in
    let high : i < length (drop c.args.from self.front.now) = first.0.high in
    let short = is.short (omega (arith, c.requires, whole, self.begins)) in
    let found = such_found test bytes (self.base + (self.begin + c.args.from)) (drop c.args.from self.front.now) is
    (omega (arith, c.requires, whole, self.begins)) i first in
    let on = such_on test bytes self.base self.begin c.args.from (self.base + (self.begin + c.args.from) + i)
    (sym found ∙ ap (next_such test bytes) (omega arith)) (omega arith) in
    (omega (arith, on), (omega arith, omega (arith, short, high, whole)))
