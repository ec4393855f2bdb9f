use Rattle.std.proofs.Common.{◌<◌, length, ap, ◌∙◌, arith}
use Rattle.std.proofs.lemmas.Bool.{false_from_ne_true}
use Rattle.shsource.specs.Text.{is_newline}
use Rattle.shtext.proofs.Counting.{begun, still}
use Rattle.shtext.proofs.line_col.line_begin.Goals as goal

pub returns-in-Some : goal.returns-in-Some
returns-in-Some c = λ bytes fits same before.
    let run = c.args.run.now in
    let from = c.args.from in
    let i = c.in-Some.last in
    let last = c.in-Some.ensures in
    let low : i < length run = last.0.high in
    let here = ap is_newline (same i low) ∙ last.1 in
    let after = begun bytes from (length run) i fits low here (λ k above below.
    ap is_newline (same k below) ∙ false_from_ne_true _ (last.0.after k (omega (arith, above)) below)) in
    omega (arith, after, low)

pub returns-in-None : goal.returns-in-None
returns-in-None c = λ bytes fits same before.
    let run = c.args.run.now in
    let after = still bytes c.args.from (length run) fits
    (λ k lt. ap is_newline (same k lt) ∙ false_from_ne_true _ (c.in-None.ensures k (omega arith) lt)) in
    omega (arith, after, before)
