use Rattle.std.proofs.Common.{◌≡◌, ◌++◌, ℕ, List, length, length-append, take, drop, arith, ap, sym, ◌∙◌, true, false}
use Rattle.std.proofs.lemmas.Bool.Decides.{Decides-eqb}
use Rattle.std.proofs.lemmas.List.{take-append-drop}
use Rattle.std.proofs.lemmas.Slice.Eq.{slice_eq-Decides}
use Rattle.shtext.proofs.Parts.{run_part, stand_more, stand_not}
use Rattle.shtext.proofs.copy.stand_at.Goals as goal

pub returns-then-not-is_same : goal.returns-then-not-is_same
returns-then-not-is_same g c =
    let B : List ℕ = g.S.Source.bytes c.args.source.now in
    let at : ℕ = c.runs.at in
    let rest : List ℕ = c.runs.rest.now in
    let run : List ℕ = c.run-run.result.now in
    let front : List ℕ = c.split_at.result.0.now in
    let after : List ℕ = c.split_at.result.1.now in
    let inv = c.runs.invariant in
    let is : rest ≡ front ++ after
    = sym (take-append-drop c.min.result rest) ∙ ap (λ l. l ++ drop c.min.result rest) (sym c.split_at.ensures.front)
    ∙ ap (λ l. front ++ l) (sym c.split_at.ensures.back) in
    let long = ap length is ∙ length-append front after in
    let part : take (length front) (drop at B) ≡ take (length front) run
    = run_part B run at (length front) (omega (arith, long, inv.left, c.requires.within))
    (omega (arith, c.split_at.ensures.front_len, c.min.ensures)) c.run-run.ensures.same in
    let decided = slice_eq-Decides Decides-eqb
    (take (length front) run) front c.eq-is_same.result c.eq-is_same.ensures in (
      (λ (never : false ≡ true). cc),
      (λ whole. absurd (stand_not B rest front after at is
          (λ same. let never : false ≡ true = sym c.if-not-is_same.true ∙ decided.1 (sym part ∙ same) in cc)
          (inv.same.1 whole))),
    )

pub overflow_add-at : goal.overflow_add-at
overflow_add-at g c = omega (arith, c.split_at.ensures.front_len, c.min.ensures, c.runs.invariant.left, c.requires.room)

pub runs-preserved : goal.runs-preserved
runs-preserved g c =
    let B : List ℕ = g.S.Source.bytes c.args.source.now in
    let at : ℕ = c.runs.at in
    let rest : List ℕ = c.runs.rest.now in
    let run : List ℕ = c.run-run.result.now in
    let front : List ℕ = c.split_at.result.0.now in
    let after : List ℕ = c.split_at.result.1.now in
    let inv = c.runs.invariant in
    let is : rest ≡ front ++ after
    = sym (take-append-drop c.min.result rest) ∙ ap (λ l. l ++ drop c.min.result rest) (sym c.split_at.ensures.front)
    ∙ ap (λ l. front ++ l) (sym c.split_at.ensures.back) in
    let long = ap length is ∙ length-append front after in
    let part : take (length front) (drop at B) ≡ take (length front) run
    = run_part B run at (length front) (omega (arith, long, inv.left, c.requires.within))
    (omega (arith, c.split_at.ensures.front_len, c.min.ensures)) c.run-run.ensures.same in
    let decided = slice_eq-Decides Decides-eqb
    (take (length front) run) front c.eq-is_same.result c.eq-is_same.ensures in
    let here : take (length front) (drop at B) ≡ front = part ∙ decided.0 c.if-not-is_same.false in
    let step = stand_more B rest front after at is here in
    record {
      left = omega (arith, long, inv.left);
      same = ((λ more. inv.same.0 (step.0 more)), (λ whole. step.1 (inv.same.1 whole)));
    }
