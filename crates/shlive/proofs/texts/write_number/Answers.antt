use Rattle.std.proofs.Common.{◌≡◌, ℕ, ◌+◌, ◌-◌, ◌^◌, ◌≤◌, ◌<◌, ◌∷◌, ap, arith, length}
use Rattle.std.specs.Fmt.{decimal}
use Rattle.std.proofs.lemmas.Fmt.{length-decimal-le}
use Rattle.std.proofs.lemmas.List.{drop-set}
use Rattle.shlive.proofs.texts.write_number.Goals as goal

-- a number of a usize has 20 digits at most
short : (n : ℕ) → n < 2 ^ 64 → length (decimal n) ≤ 20
short n h = length-decimal-le 20 n (omega arith) (omega arith) h

pub write_digits-start-requires : goal.write_digits-start-requires
write_digits-start-requires c = (omega (arith, short c.args.number c.ranges.number.fits), omega arith)

pub overflow_sub-start : goal.overflow_sub-start
overflow_sub-start c = omega (arith, short c.args.number c.ranges.number.fits)

pub returns-clause-room : goal.returns-clause-room
returns-clause-room c = omega (arith, short c.args.number c.ranges.number.fits)

pub returns-clause-written : goal.returns-clause-written
returns-clause-written c =
    let start = c.write_digits-start.result in
    let long = short c.args.number c.ranges.number.fits in
    let next : start - 1 + 1 ≡ start = omega (arith, long) in
    rw (drop-set c.write_digits-start.new.buf (start - 1) c.args.before (omega (arith, long)), next)
    (ap (λ l. c.args.before ∷ l) c.write_digits-start.ensures.written)
