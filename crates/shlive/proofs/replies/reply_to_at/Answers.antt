use Rattle.std.proofs.Common.{◌++◌, ℕ, List, [], ap, arith, codes, inl, refl, sym}
use Rattle.std.proofs.lemmas.Fmt.{decimal_digit}
use Rattle.shlive.proofs.replies.reply_to_at.Goals as goal

pub returns-then-is_past-clause-tells : goal.returns-then-is_past-clause-tells
returns-then-is_past-clause-tells g c =
    let none = sym (ap (λ (d : List ℕ). codes "at" ++ codes " " ++ d ++ codes "\n" ++ [])
    (decimal_digit 0 (omega arith))) in
    (codes "at 0\n", (inl ([], c.is_past.ensures.past c.if-is_past.true, none), refl), c.write_flushed.ensures.bytes)
