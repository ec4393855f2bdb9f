-- A run, request by request.
use Rattle.std.proofs.Common.{◌≡◌, ℕ, ◌≤◌, false, List, [], ◌∷◌, ◌++◌, length, refl, sym, ap, ◌∙◌, arith, append_assoc, append-nil, subst, ⊎_elim}
use Rattle.shtext.proofs.Known.{Appends-trans}
use Rattle.shlive.specs.Edits.{IsNotMade}
use Rattle.shlive.specs.Held.{Held}
use Rattle.shlive.specs.Ahead.{TakesBytes, too_many}
use Rattle.shlive.specs.Replies.{ReplyStep}
use Rattle.shlive.specs.Replies as of_replies
use Rattle.shlive.specs.Requests.{Begins, Ending, EndsBy, Request, asks, clean, cut, edit, flawed, outline, at, fault, print, unknown, left, next_request_of}
use Rattle.shlive.specs.Requests as of_requests
use Rattle.shlive.specs.Runs.{Answered, Finishes, HasAnswer, IsSessionRun, RunEnded, RunState}
use Rattle.shlive.specs.Turns.{EndsAs, Replied, Spells, TurnState}
use Rattle.shlive.specs.declared.error.LiveError.{LiveError}
use Rattle.shlive.specs.declared.serve.End.{End}
use Rattle.shlive.specs.declared.serve.End.TheVariants.{Clean, Quit, Cut, Unreadable, TooLong, Unwritable}
use Rattle.shlive.proofs.Taken.{takes_both}

-- a request leaves how a session reads and prints
pub step_how : (before after : Held) (request : Request) (reply : List ℕ) → ReplyStep before request reply after →
    after.how ≡ before.how
step_how before after (edit ss) reply step =
    ⊎_elim (λ made. made.0.how) (λ
    (left : (error : LiveError) × IsNotMade before ss error after × (reply ≡ of_replies.refusal_text error)).
    left.1.how) step
step_how before after (flawed flaw) reply step = ap (λ (h : Held). h.how) step.1
step_how before after outline reply step = ap (λ (h : Held). h.how) step.1
step_how before after (at p) reply step = ap (λ (h : Held). h.how) step.1
step_how before after fault reply step = ap (λ (h : Held). h.how) step.1
step_how before after print reply step = ap (λ (h : Held). h.how) step.1
step_how before after unknown reply step = ap (λ (h : Held). h.how) step.1

-- what was done so far: these requests were taken, and the replies to them written
pub record RunSoFar (old new : TurnState) : Type 0 where
  pub taken : List ℕ
  pub asked : List Request
  pub takes : TakesBytes old.ahead new.ahead taken
  pub begins : (rest : List ℕ) → Begins (taken ++ rest) asked rest
  pub answered : Answered old.session new.session asked old.written new.written
  pub how : new.session.how ≡ old.session.how

-- what is seen of it
abbrev pub seen_of : TurnState → RunState
seen_of state = record {
  session = state.session;
  left = state.ahead.left;
  failed = state.ahead.failed;
  ended = state.ahead.ended;
  written = state.written;
  broken = state.broken;
}

module _ (old now new : TurnState) (so : RunSoFar old now) where
  -- the input begins with the requests so far, and with the one after them
  begins_more : (taken : List ℕ) (request : Request) → Spells next_request_of taken (asks request) → (rest : List ℕ)
      → Begins ((so.taken ++ taken) ++ rest) (so.asked ++ request ∷ []) rest
  begins_more taken request spelled rest =
      of_requests.one_more request rest
      (subst (λ l. Begins l so.asked (taken ++ rest)) (sym (append_assoc so.taken taken rest))
      (so.begins (taken ++ rest))) (spelled rest)

  -- one more request, and its reply
  pub goes_on : Replied next_request_of now new false → RunSoFar old new
  goes_on r = record {
    taken = so.taken ++ r.taken;
    asked = so.asked ++ r.request ∷ [];
    takes = takes_both old.ahead now.ahead new.ahead so.taken r.taken _ so.takes r.takes refl;
    begins = begins_more r.taken r.request r.spelled;
    answered = record {
      replies = so.answered.replies ++ r.tells.0;
      answered = of_replies.one_more r.request r.tells.0 new.session so.answered.answered r.tells.1;
      written = Appends-trans old.written now.written new.written so.answered.replies r.tells.0 _
          so.answered.written r.tells.2 refl;
    };
    how = step_how now.session new.session r.request r.tells.0 r.tells.1 ∙ so.how;
  }

  module _ (status : ℕ) (start : old.ahead.waiting.bytes ≡ []) (zero : old.ahead.waiting.count ≡ 0) where
    -- what waits at the end
    abbrev waits : List ℕ
    waits = new.ahead.waiting.bytes

    -- what was read is what was taken and what waits
    read_is : (taken : List ℕ) (t : TakesBytes old.ahead new.ahead (so.taken ++ taken)) →
        so.taken ++ (taken ++ waits) ≡ t.more
    read_is taken t = sym (append_assoc so.taken taken waits) ∙ sym t.same ∙ ap (λ l. l ++ t.more) start

    -- what was read begins with the requests that were answered
    begun : (taken : List ℕ) (t : TakesBytes old.ahead new.ahead (so.taken ++ taken)) →
        Begins t.more so.asked (taken ++ waits)
    begun taken t = subst (λ l. Begins l so.asked (taken ++ waits)) (read_is taken t) (so.begins (taken ++ waits))

    -- where too many bytes were counted, too many were read
    long : (taken : List ℕ) (t : TakesBytes old.ahead new.ahead (so.taken ++ taken)) →
        too_many ≤ new.ahead.waiting.count → too_many ≤ length t.more
    long taken t many = let count = t.counted in omega (arith, many, count, zero)

    -- nothing more was asked and nothing told
    stayed : («end» : End) (taken : List ℕ) → (t : TakesBytes old.ahead new.ahead (so.taken ++ taken)) →
        RunEnded «end» t.more so.asked (seen_of new)
        → Finishes «end» t.more so.asked now.session now.written (seen_of new) →
        HasAnswer old.session.how.edition «end» new.session.bytes status
        → IsSessionRun (seen_of old) (seen_of new) status
    stayed why taken t ends finishes answer = record {
      read = t.more;
      requests = so.asked;
      mid = now.session;
      told = now.written;
      «end» = why;
      consumed = t.consumed;
      answered = so.answered;
      ends = ends;
      finishes = finishes;
      status = answer;
    }

    -- what was taken since the first turn is what was taken before and what this turn took
    all_of : (taken : List ℕ) → TakesBytes now.ahead new.ahead taken →
        TakesBytes old.ahead new.ahead (so.taken ++ taken)
    all_of taken takes = takes_both old.ahead now.ahead new.ahead so.taken taken _ so.takes takes refl

    -- nothing waits and nothing was taken
    none_left : (taken : List ℕ) → taken ≡ [] → waits ≡ [] → EndsBy (next_request_of (taken ++ waits)) clean
    none_left taken p q = subst (λ l. EndsBy (next_request_of l) clean) (sym (ap (λ l. l ++ waits) p ∙ q)) tt

    -- where nothing waits, the input ends with what was taken
    all_taken : (taken : List ℕ) (e : Ending) → waits ≡ [] → EndsBy (next_request_of taken) e →
        EndsBy (next_request_of (taken ++ waits)) e
    all_taken taken e none ends =
        subst (λ l. EndsBy (next_request_of l) e) (sym (ap (λ l. taken ++ l) none ∙ append-nil taken)) ends

    -- where this turn ends the run, it was a run of the session from its first turn on
    pub ended_run : («end» : End) → EndsAs next_request_of now new «end» →
        HasAnswer old.session.how.edition «end» new.session.bytes status
        → IsSessionRun (seen_of old) (seen_of new) status
    ended_run Clean s answer =
        let t = all_of s.taken s.takes in
        stayed Clean s.taken t (
          (s.taken ++ waits, begun s.taken t, none_left s.taken s.none.0 s.none.2.2),
          s.none.2.0,
          s.none.2.1,
        )
        (s.same, s.silent, s.sound) answer
    ended_run Quit s answer =
        let t = all_of s.taken s.takes in
        stayed Quit s.taken t (
          (s.taken ++ waits, begun s.taken t, subst (λ n. EndsBy n left) (sym (s.none.0 waits)) tt),
          s.none.1,
        )
        (s.same, s.silent, s.sound) answer
    ended_run Cut s answer =
        let t = all_of s.taken s.takes in
        stayed Cut s.taken t (
          (
            s.taken ++ waits,
            begun s.taken t,
            all_taken s.taken cut s.none.1.2 (subst (λ n. EndsBy n cut) (sym s.none.0) tt),
          ),
          s.none.1.0,
          s.none.1.1,
        )
        (s.same, s.silent, s.sound) answer
    ended_run Unreadable s answer =
        let t = all_of s.taken s.takes in
        stayed Unreadable s.taken t (
          (
            s.none.0.0,
            (s.taken ++ waits, begun s.taken t, all_taken s.taken s.none.0.0 s.none.1.2 s.none.0.1),
          ),
          s.none.1.0,
        )
        (s.same, s.silent, s.sound) answer
    ended_run TooLong s answer =
        let t = all_of s.taken s.takes in
        stayed TooLong s.taken t ((s.taken ++ waits, begun s.taken t), long s.taken t s.none.2, s.none.0)
        (s.same, s.silent, s.sound) answer
    ended_run Unwritable (r, f, b) answer =
        let t = all_of r.taken r.takes in
        let is : (so.taken ++ r.taken) ++ waits ≡ t.more = sym t.same ∙ ap (λ l. l ++ t.more) start in
        let begins = subst (λ l. Begins l (so.asked ++ r.request ∷ []) waits) is
        (begins_more r.taken r.request r.spelled waits) in
        stayed Unwritable r.taken t f
        (record { request = r.request; rest = waits; begins = begins; tells = r.tells }, b) answer

  -- how a session reads and prints is what it was, whatever ended the run
  pub ended_how : («end» : End) → EndsAs next_request_of now new «end» → new.session.how ≡ old.session.how
  ended_how Clean s = ap (λ (h : Held). h.how) s.same ∙ so.how
  ended_how Quit s = ap (λ (h : Held). h.how) s.same ∙ so.how
  ended_how Cut s = ap (λ (h : Held). h.how) s.same ∙ so.how
  ended_how Unreadable s = ap (λ (h : Held). h.how) s.same ∙ so.how
  ended_how TooLong s = ap (λ (h : Held). h.how) s.same ∙ so.how
  ended_how Unwritable (r, f, b) = step_how now.session new.session r.request r.tells.0 r.tells.1 ∙ so.how
