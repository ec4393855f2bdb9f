use Rattle.std.proofs.Common.{◌≡◌, ◌++◌, [], ◌∷◌, ◌∙◌, Some, arith, false, is_err, length-append, refl, sym, true}
use Rattle.std.proofs.lemmas.Result.{err_from_is_err_and}
use Rattle.shtext.specs.Edit.{ASplice}
use Rattle.shlive.specs.Ahead.{ahead_of}
use Rattle.shlive.specs.Parts.{after_bytes}
use Rattle.shlive.specs.Requests.{Parser, more_parts, part_of_line, splice_by}
use Rattle.shlive.specs.declared.request_kind.Part.{Part}
use Rattle.shlive.proofs.Came.{after_flaw, after_whole, came_on, comes_cut, cut_in_bytes, cut_in_line, next, no_part, none_if}
use Rattle.shlive.proofs.Taken.{takes_both, takes_none}
use Rattle.shlive.proofs.parts.take_parts.Goals as goal

pub parts-init : goal.parts-init
parts-init g c = record {
  ready = c.requires.ready;
  so = (
    [],
    [],
    takes_none (ahead_of g.R.Read.remaining c.args.input.now c.args.incoming.now),
    (λ rest. refl),
    (λ len held. held),
    omega arith,
  );
}

pub returns-in_err-line-clause-comes : goal.returns-in_err-line-clause-comes
returns-in_err-line-clause-comes g c len none =
    let ahead = ahead_of g.R.Read.remaining in
    let start = ahead c.args.input.now c.args.incoming.now in
    let mid = ahead c.parts.input c.parts.incoming in
    let so = c.parts.invariant.so in
    let more = c.parts-test.true in
    let q = c.in_err-line.ensures.cut in
    let e = err_from_is_err_and c.from_residual.result c.from_residual.ensures.1 in
    let new = ahead c.take_line.new.input c.take_line.new.incoming in
    comes_cut (more_parts c.args.count []) start new _ len _ e.0 c.in_err-line.field-0.0 e.1 e.2 (so.0 ++ q.0)
    (takes_both start mid new so.0 q.0 _ so.2 q.2 refl)
    (cut_in_line c.args.count c.parts.left so.1 so.0 so.3 more q.0 q.1) q.3

pub returns-in_default-clause-comes : goal.returns-in_default-clause-comes
returns-in_default-clause-comes g c len none =
    let ahead = ahead_of g.R.Read.remaining in
    let start = ahead c.args.input.now c.args.incoming.now in
    let mid = ahead c.parts.input c.parts.incoming in
    let so = c.parts.invariant.so in
    let more = c.parts-test.true in
    let q = c.in_ok-line.ensures.line in
    let told = c.part_of_line.ensures q.0 q.2 in
    let lined = ahead c.take_line.new.input c.take_line.new.incoming in
    let first = takes_both start mid lined so.0 (q.0 ++ 10 ∷ []) _ so.2 q.3 refl in
    record {
      taken = so.0 ++ (q.0 ++ 10 ∷ []);
      splices = so.1;
      some = tt;
      takes = first;
      spelled = λ rest. no_part c.args.count c.parts.left so.1 so.0 so.3 more q.0 q.1 (sym c.in_default.is ∙ told) rest;
      held = so.4 len none;
      sound = c.in_ok-line.ensures.ready.0.0;
    }

pub returns-in_err-came-clause-comes : goal.returns-in_err-came-clause-comes
returns-in_err-came-clause-comes g c len none =
    let ahead = ahead_of g.R.Read.remaining in
    let start = ahead c.args.input.now c.args.incoming.now in
    let mid = ahead c.parts.input c.parts.incoming in
    let so = c.parts.invariant.so in
    let more = c.parts-test.true in
    let q = c.in_ok-line.ensures.line in
    let told = c.part_of_line.ensures q.0 q.2 in
    let lined = ahead c.take_line.new.input c.take_line.new.incoming in
    let first = takes_both start mid lined so.0 (q.0 ++ 10 ∷ []) _ so.2 q.3 refl in
    let part : Part = c.in-Some.part in
    let is : Some part ≡ part_of_line q.0 = sym c.in-Some.is ∙ told in
    let on : ASplice → Parser = next c.args.count c.parts.left so.1 so.0 so.3 more q.0 q.1 in
    let new = ahead c.take_bytes.new.input c.take_bytes.new.incoming in
    let b = c.in_err-came.ensures.cut in
    let e = err_from_is_err_and c.from_residual-in_err-came.result c.from_residual-in_err-came.ensures.1 in
    comes_cut (more_parts c.args.count []) start new _ len _ e.0 c.in_err-came.field-0.0 e.1 e.2
    ((so.0 ++ (q.0 ++ 10 ∷ [])) ++ b.0)
    (takes_both start lined new (so.0 ++ (q.0 ++ 10 ∷ [])) b.0 _ first b.2 refl)
    (cut_in_bytes c.args.count c.parts.left so.1 so.0 so.3 more q.0 q.1 part is b.0 (b.1 on)) b.3

pub returns-then-is_err-clause-comes : goal.returns-then-is_err-clause-comes
returns-then-is_err-clause-comes g c len none =
    let ahead = ahead_of g.R.Read.remaining in
    let start = ahead c.args.input.now c.args.incoming.now in
    let mid = ahead c.parts.input c.parts.incoming in
    let so = c.parts.invariant.so in
    let more = c.parts-test.true in
    let q = c.in_ok-line.ensures.line in
    let told = c.part_of_line.ensures q.0 q.2 in
    let lined = ahead c.take_line.new.input c.take_line.new.incoming in
    let first = takes_both start mid lined so.0 (q.0 ++ 10 ∷ []) _ so.2 q.3 refl in
    let part : Part = c.in-Some.part in
    let is : Some part ≡ part_of_line q.0 = sym c.in-Some.is ∙ told in
    let on : ASplice → Parser = next c.args.count c.parts.left so.1 so.0 so.3 more q.0 q.1 in
    let new = ahead c.take_bytes.new.input c.take_bytes.new.incoming in
    let b = c.in_ok-came.ensures.came in
    let s : ASplice = splice_by part b.bytes in
    let came = c.in_ok-came.came in
    let flaw : is_err came ≡ true = sym c.is_err.ensures.value ∙ c.if-is_err.true in
    record {
      taken = (so.0 ++ (q.0 ++ 10 ∷ [])) ++ b.taken;
      splices = so.1 ++ s ∷ [];
      some = none_if came _ flaw;
      takes = takes_both start lined new (so.0 ++ (q.0 ++ 10 ∷ [])) b.taken _ first b.takes refl;
      spelled = λ rest. came_on c.args.count c.parts.left so.1 so.0 so.3 more q.0 q.1 part is b.taken
          (after_bytes came (on s)) (b.spelled on) rest ∙ after_flaw came (so.1 ++ s ∷ []) (on s) rest flaw;
      held = b.held len so.1 (so.4 len none);
      sound = c.in_ok-came.ensures.ready.0.0;
    }

pub parts-preserved : goal.parts-preserved
parts-preserved g c =
    let ahead = ahead_of g.R.Read.remaining in
    let start = ahead c.args.input.now c.args.incoming.now in
    let mid = ahead c.parts.input c.parts.incoming in
    let so = c.parts.invariant.so in
    let more = c.parts-test.true in
    let q = c.in_ok-line.ensures.line in
    let told = c.part_of_line.ensures q.0 q.2 in
    let lined = ahead c.take_line.new.input c.take_line.new.incoming in
    let first = takes_both start mid lined so.0 (q.0 ++ 10 ∷ []) _ so.2 q.3 refl in
    let part : Part = c.in-Some.part in
    let is : Some part ≡ part_of_line q.0 = sym c.in-Some.is ∙ told in
    let on : ASplice → Parser = next c.args.count c.parts.left so.1 so.0 so.3 more q.0 q.1 in
    let new = ahead c.take_bytes.new.input c.take_bytes.new.incoming in
    let b = c.in_ok-came.ensures.came in
    let s : ASplice = splice_by part b.bytes in
    let came = c.in_ok-came.came in
    let whole : is_err came ≡ false = sym c.is_err.ensures.value ∙ c.if-is_err.false in
    let longer = length-append so.1 (s ∷ []) in
    record {
      ready = c.in_ok-came.ensures.ready;
      so = (
        (so.0 ++ (q.0 ++ 10 ∷ [])) ++ b.taken,
        so.1 ++ s ∷ [],
        takes_both start lined new (so.0 ++ (q.0 ++ 10 ∷ [])) b.taken _ first b.takes refl,
        (λ rest. came_on c.args.count c.parts.left so.1 so.0 so.3 more q.0 q.1 part is b.taken
            (after_bytes came (on s)) (b.spelled on) rest ∙ after_whole came (on s) rest whole),
        (λ len none. b.held len so.1 (so.4 len none)),
        omega (arith, so.5, more, longer),
      );
    }
