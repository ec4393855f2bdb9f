use Rattle.std.proofs.Common.{◌≡◌, ◌++◌, [], ◌∷◌, ◌∙◌, refl, subst, sym}
use Rattle.std.proofs.lemmas.Result.{err_from_is_err_and}
use Rattle.shtext.specs.Edit.{IsTally}
use Rattle.shlive.specs.Ahead.{StopsAfter, ahead_of}
use Rattle.shlive.specs.Parts.{AreSplices, IsInSplice}
use Rattle.shlive.specs.Requests.{splice_by}
use Rattle.shlive.proofs.Asked.{after_none, after_some, bytes_cut_line, bytes_whole}
use Rattle.shlive.proofs.Taken.{takes_both}
use Rattle.shlive.proofs.parts.take_bytes.Goals as goal

pub returns-in_err-line-clause-cut : goal.returns-in_err-line-clause-cut
returns-in_err-line-clause-cut g c =
    let ahead = ahead_of g.R.Read.remaining in
    let p = c.in_ok-payload.ensures.payload in
    let q = c.in_err-line.ensures.cut in
    let part = c.args.part in
    let e = err_from_is_err_and c.from_residual-in_err-line.result c.from_residual-in_err-line.ensures.1 in
    let start = ahead c.args.input.now c.args.incoming.now in
    let new = ahead c.take_line.new.input c.take_line.new.incoming in
    rw e.1
    (subst (StopsAfter (IsInSplice part) start new) (sym e.2) (
      p.0 ++ q.0,
      (λ next. bytes_cut_line part next p.0 q.0 p.1 q.1),
      takes_both start (ahead c.take_payload.new.input c.take_payload.new.incoming) new p.0 q.0 _ p.3 q.2 refl,
      q.3,
    ))

pub returns-then-is_empty-clause-came : goal.returns-then-is_empty-clause-came
returns-then-is_empty-clause-came g c =
    let ahead = ahead_of g.R.Read.remaining in
    let p = c.in_ok-payload.ensures.payload in
    let q = c.in_ok-line.ensures.line in
    let part = c.args.part in
    let empty : q.0 ≡ [] = (c.is_empty.ensures q.0 q.2).0 c.if-is_empty.true in
    record {
      taken = p.0 ++ (q.0 ++ 10 ∷ []);
      bytes = p.0;
      takes = takes_both (ahead c.args.input.now c.args.incoming.now)
          (ahead c.take_payload.new.input c.take_payload.new.incoming)
          (ahead c.take_line.new.input c.take_line.new.incoming)
          p.0 (q.0 ++ 10 ∷ []) _ p.3 q.3 refl;
      spelled = λ next rest. bytes_whole part next p.0 q.0 rest p.1 q.1
          ∙ after_none (next (splice_by part p.0)) q.0 rest empty;
      held = λ len ss held. record {
        told = subst (λ t. IsTally t len (ss ++ splice_by part p.0 ∷ [])) (sym c.keep.ensures.tally)
            (c.expect-wanted.ensures.told len ss p.0 p.1 held.told);
        kept = c.keep.ensures.kept ss p.0
            (subst (λ k. AreSplices k ss) (sym c.expect-wanted.ensures.kept) held.kept) p.2;
      };
    }

pub returns-else-is_empty-clause-came : goal.returns-else-is_empty-clause-came
returns-else-is_empty-clause-came g c =
    let ahead = ahead_of g.R.Read.remaining in
    let p = c.in_ok-payload.ensures.payload in
    let q = c.in_ok-line.ensures.line in
    let part = c.args.part in
    let filled = c.if-is_empty.false in
    record {
      taken = p.0 ++ (q.0 ++ 10 ∷ []);
      bytes = p.0;
      takes = takes_both (ahead c.args.input.now c.args.incoming.now)
          (ahead c.take_payload.new.input c.take_payload.new.incoming)
          (ahead c.take_line.new.input c.take_line.new.incoming)
          p.0 (q.0 ++ 10 ∷ []) _ p.3 q.3 refl;
      spelled = λ next rest. bytes_whole part next p.0 q.0 rest p.1 q.1
          ∙ after_some (next (splice_by part p.0)) q.0 rest
          (λ e. let empty = (c.is_empty.ensures q.0 q.2).1 e in absurd cc);
      held = λ len ss held. record {
        told = subst (λ t. IsTally t len (ss ++ splice_by part p.0 ∷ [])) (sym c.keep.ensures.tally)
            (c.expect-wanted.ensures.told len ss p.0 p.1 held.told);
        kept = c.keep.ensures.kept ss p.0
            (subst (λ k. AreSplices k ss) (sym c.expect-wanted.ensures.kept) held.kept) p.2;
      };
    }
