use Rattle.std.proofs.Common.{◌≡◌, [], ◌∷◌, ◌++◌, ◌∙◌, ◌||◌, None, Some, ap, codes, refl, sym, true, rules}
use Rattle.std.proofs.lemmas.Result.{err_from_is_err_and}
use Rattle.shlive.specs.Ahead.{ahead_of}
use Rattle.shlive.specs.Requests.{next_by_kind, next_request_of, kind_of_line, request_of, unknown}
use Rattle.shlive.specs.Turns.{turn_state}
use Rattle.shlive.specs.declared.request_kind.RequestKind.TheVariants.{Ask, Edit, Quit}
use Rattle.shlive.proofs.Asked.{form_begins, line_cut, line_is, plain_replied, some_taken, stops_between, stops_inside, turn_through}
use Rattle.shlive.proofs.Taken.{takes_both}
use Rattle.shlive.proofs.serve.answer_next.Goals as goal

pub returns-in-Err-clause-turn : goal.returns-in-Err-clause-turn
returns-in-Err-clause-turn g c =
    let ahead = ahead_of g.R.Read.remaining in
    let state = turn_state g.W.Write.contents c.args.session.now in
    rw c.between.ensures (
    stops_between next_request_of (state (ahead c.args.input.now c.args.incoming.now) c.args.output.now)
    (state (ahead c.fill.new.input c.fill.new.self) c.args.output.now) refl refl c.requires.unbroken
    c.in-Err.stop c.fill.ensures.takes refl c.in-Err.ensures.stops
    )

pub returns-in-Err-take_line-clause-turn : goal.returns-in-Err-take_line-clause-turn
returns-in-Err-take_line-clause-turn g c =
    let ahead = ahead_of g.R.Read.remaining in
    let state = turn_state g.W.Write.contents c.args.session.now in
    let q = c.in-Err-take_line.ensures.cut in
    let start = ahead c.args.input.now c.args.incoming.now in
    let filled = ahead c.fill.new.input c.fill.new.self in
    let new = ahead c.take_line.new.input c.take_line.new.incoming in
    rw c.inside.ensures (
    stops_inside next_request_of (state start c.args.output.now) (state new c.args.output.now)
    refl refl c.requires.unbroken c.in-Err-take_line.stop q.0
    (takes_both start filled new [] q.0 _ c.fill.ensures.takes q.2 refl)
    (λ none. line_cut q.0 q.1 (some_taken filled new q.0 q.2 c.in_default.ensures.some none)) q.3
    )

pub returns-in-Some-Edit-clause-turn : goal.returns-in-Some-Edit-clause-turn
returns-in-Some-Edit-clause-turn g c =
    let ahead = ahead_of g.R.Read.remaining in
    let state = turn_state g.W.Write.contents in
    let q = c.in-Ok.ensures.line in
    let start = ahead c.args.input.now c.args.incoming.now in
    let filled = ahead c.fill.new.input c.fill.new.self in
    let mid = ahead c.take_line.new.input c.take_line.new.incoming in
    let new = ahead c.answer_edit.new.input c.answer_edit.new.incoming in
    let kind = Some (Edit c.in-Some-Edit.form) in
    let told = c.kind_of_line.ensures.is q.0 q.2 in
    let is : kind ≡ kind_of_line q.0 = search (rules, told, c.in-Some-Edit.is, c.in-Some-Edit.field-0-is) in
    turn_through q.0 (next_by_kind kind) (line_is q.0 q.1 kind is) (form_begins c.in-Some-Edit.form)
    (state c.args.session.now start c.args.output.now)
    (state c.answer_edit.new.session new c.answer_edit.new.output) mid
    (takes_both start filled mid [] (q.0 ++ 10 ∷ []) _ c.fill.ensures.takes q.3 refl) c.answer_edit.result
    c.answer_edit.ensures.turn

pub returns-in-Some-Quit-clause-turn : goal.returns-in-Some-Quit-clause-turn
returns-in-Some-Quit-clause-turn g c =
    let ahead = ahead_of g.R.Read.remaining in
    let q = c.in-Ok.ensures.line in
    let told = c.kind_of_line.ensures.is q.0 q.2 in
    let is : Some Quit ≡ kind_of_line q.0 = search (rules, told, c.in-Some-Quit.is, c.in-Some-Quit.field-0-is) in
    record {
      taken = q.0 ++ 10 ∷ [];
      takes = takes_both (ahead c.args.input.now c.args.incoming.now) (ahead c.fill.new.input c.fill.new.self)
          (ahead c.take_line.new.input c.take_line.new.incoming) [] (q.0 ++ 10 ∷ []) _
          c.fill.ensures.takes q.3 refl;
      none = (line_is q.0 q.1 (Some Quit) is, c.in-Ok.ensures.ready.0.0);
      same = refl;
      silent = refl;
      sound = c.requires.unbroken;
    }

pub returns-in_ok-reply_to-in-Some-Ask-clause-turn : goal.returns-in_ok-reply_to-in-Some-Ask-clause-turn
returns-in_ok-reply_to-in-Some-Ask-clause-turn g c =
    let ahead = ahead_of g.R.Read.remaining in
    let q = c.in-Ok.ensures.line in
    let start = ahead c.args.input.now c.args.incoming.now in
    let filled = ahead c.fill.new.input c.fill.new.self in
    let mid = ahead c.take_line.new.input c.take_line.new.incoming in
    let kind = Some (Ask c.in-Some-Ask.question) in
    let told = c.kind_of_line.ensures.is q.0 q.2 in
    let is : kind ≡ kind_of_line q.0 = search (rules, told, c.in-Some-Ask.is, c.in-Some-Ask.field-0-is) in
    plain_replied q.0 q.1 kind is _ _ _ (request_of c.in-Some-Ask.question)
    (takes_both start filled mid [] (q.0 ++ 10 ∷ []) _ c.fill.ensures.takes q.3 refl)
    (λ rest. refl) c.in_ok-reply_to-in-Some-Ask.ensures.tells

pub returns-in_err-reply_to-in-Some-Ask-clause-turn : goal.returns-in_err-reply_to-in-Some-Ask-clause-turn
returns-in_err-reply_to-in-Some-Ask-clause-turn g c =
    let ahead = ahead_of g.R.Read.remaining in
    let q = c.in-Ok.ensures.line in
    let start = ahead c.args.input.now c.args.incoming.now in
    let filled = ahead c.fill.new.input c.fill.new.self in
    let mid = ahead c.take_line.new.input c.take_line.new.incoming in
    let kind = Some (Ask c.in-Some-Ask.question) in
    let told = c.kind_of_line.ensures.is q.0 q.2 in
    let is : kind ≡ kind_of_line q.0 = search (rules, told, c.in-Some-Ask.is, c.in-Some-Ask.field-0-is) in
    let e = err_from_is_err_and c.from_residual.result c.from_residual.ensures.1 in
    rw (e.1, e.2) (
      plain_replied q.0 q.1 kind is _ _ _ (request_of c.in-Some-Ask.question)
          (takes_both start filled mid [] (q.0 ++ 10 ∷ []) _ c.fill.ensures.takes q.3 refl)
          (λ rest. refl) c.in_err-reply_to-in-Some-Ask.ensures.tells,
      c.in-Ok.ensures.ready.0.0,
      c.in_err-reply_to-in-Some-Ask.ensures.failed ∙ ap (λ f. f || true) c.requires.unbroken,
    )

pub returns-in_ok-write_flushed-in-None-clause-turn : goal.returns-in_ok-write_flushed-in-None-clause-turn
returns-in_ok-write_flushed-in-None-clause-turn g c =
    let ahead = ahead_of g.R.Read.remaining in
    let q = c.in-Ok.ensures.line in
    let start = ahead c.args.input.now c.args.incoming.now in
    let filled = ahead c.fill.new.input c.fill.new.self in
    let mid = ahead c.take_line.new.input c.take_line.new.incoming in
    plain_replied q.0 q.1 None (sym c.in-None.is ∙ c.kind_of_line.ensures.is q.0 q.2) _ _ _ unknown
    (takes_both start filled mid [] (q.0 ++ 10 ∷ []) _ c.fill.ensures.takes q.3 refl) (λ rest. refl)
    (codes "no request\n", (refl, refl), c.in_ok-write_flushed-in-None.ensures.bytes)

pub returns-in_err-write_flushed-in-None-clause-turn : goal.returns-in_err-write_flushed-in-None-clause-turn
returns-in_err-write_flushed-in-None-clause-turn g c =
    let ahead = ahead_of g.R.Read.remaining in
    let q = c.in-Ok.ensures.line in
    let start = ahead c.args.input.now c.args.incoming.now in
    let filled = ahead c.fill.new.input c.fill.new.self in
    let mid = ahead c.take_line.new.input c.take_line.new.incoming in
    let e = err_from_is_err_and c.from_residual-in_err-write_flushed-in-None.result
    c.from_residual-in_err-write_flushed-in-None.ensures.1 in
    rw (e.1, e.2) (
      plain_replied q.0 q.1 None (sym c.in-None.is ∙ c.kind_of_line.ensures.is q.0 q.2) _ _ _ unknown
          (takes_both start filled mid [] (q.0 ++ 10 ∷ []) _ c.fill.ensures.takes q.3 refl) (λ rest. refl)
          (codes "no request\n", (refl, refl), c.in_err-write_flushed-in-None.ensures.bytes),
      c.in-Ok.ensures.ready.0.0,
      c.in_err-write_flushed-in-None.ensures.failed ∙ ap (λ f. f || true) c.requires.unbroken,
    )
