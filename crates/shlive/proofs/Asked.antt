-- What the bytes of a request spell.
use Rattle.std.proofs.Common.{◌≡◌, ℕ, zero, suc, ◌+◌, ◌-◌, ◌<◌, Bool, false, true, List, [], ◌∷◌, ◌++◌, List as Row, Option, None, Some, length, take, drop, refl, sym, ap, ◌∙◌, arith, append_assoc, append-nil, length-append, subst, Result, Ok, Err}
use Rattle.std.proofs.lemmas.List.{drop_all}
use Rattle.std.proofs.Math.Seq.{drop-append_seam, take-append_seam}
use Rattle.std.specs.Io.KnownBytes.{Appends}
use Rattle.shlive.specs.Ahead.{Ahead, StopsBy, TakesBytes}
use Rattle.shlive.specs.Lines.{IsInLine}
use Rattle.shtext.specs.Device.{Writes}
use Rattle.shtext.specs.Edit.{ASplice}
use Rattle.shlive.specs.Requests.{EndsBy, Request, Parser, after_payload, asks, clean, cut, edit, edit_alone, first_line, flawed, more_parts, next_by_form, next_by_line, next_by_kind, next_request_of, nothing, kind_of_line, part_by_line, splice_by, unfinished, with_bytes}
use Rattle.shlive.specs.Turns.{ChangesNothing, EndsAs, IsTurn, NoFurther, Replied, RepliesTo, Spells, TurnState, end_between, end_inside}
use Rattle.shlive.specs.declared.incoming.InputEnd.{InputEnd}
use Rattle.shlive.specs.declared.incoming.InputEnd.TheVariants as stops
use Rattle.shlive.specs.declared.request_kind.EditForm.{EditForm}
use Rattle.shlive.specs.declared.request_kind.EditForm.TheVariants as forms
use Rattle.shlive.specs.declared.request_kind.RequestKind.{RequestKind}
use Rattle.shlive.specs.declared.request_kind.Part.{Part}
use Rattle.shlive.specs.declared.parts.Flaw.TheVariants.{NoPayload}
use Rattle.shlive.specs.declared.serve.End.{End}
use Rattle.shlive.specs.declared.serve.End.TheVariants.{Clean, Quit, Cut, Unreadable, TooLong, Unwritable}
use Rattle.shlive.proofs.InLine.{line_ends, line_open}
use Rattle.shlive.proofs.Taken.{takes_both}

-- ---- the line of a request

-- up to its newline a line is what it asks for, and what follows the newline goes on with that
pub line_first : (text rest : List ℕ) → IsInLine text →
    next_request_of ((text ++ 10 ∷ []) ++ rest) ≡ next_by_kind (kind_of_line text) rest
line_first [] rest p = refl
line_first (c ∷ text) rest p = ap next_by_line (line_ends (c ∷ text) rest p)

-- bytes that no newline ends are a request that is cut off
pub line_cut : (text : List ℕ) → IsInLine text → 0 < length text → next_request_of text ≡ unfinished
line_cut [] p some = absurd (omega (arith, some))
line_cut (c ∷ text) p some = ap next_by_line (line_open (c ∷ text) p)

-- ---- the bytes of a splice

module _ (part : Part) (next : ASplice → Parser) (bytes : List ℕ) where
  -- after all bytes of a splice comes the rest of their line
  seam : (more : List ℕ) → length bytes ≡ part.count →
      with_bytes part next (bytes ++ more) ≡ after_payload (next (splice_by part bytes)) (first_line more)
  seam more all =
      ap (λ n. after_payload (next (splice_by part (take n (bytes ++ more)))) (first_line (drop n (bytes ++ more))))
      (sym all)
      ∙ ap (λ l. after_payload (next (splice_by part l)) (first_line (drop (length bytes) (bytes ++ more))))
      (take-append_seam bytes more)
      ∙ ap (λ l. after_payload (next (splice_by part bytes)) (first_line l)) (drop-append_seam bytes more)

  -- a splice with all its bytes goes on by what stands between them and the next newline
  pub bytes_whole : (text rest : List ℕ) → length bytes ≡ part.count → IsInLine text
      → with_bytes part next ((bytes ++ (text ++ 10 ∷ [])) ++ rest)
      ≡ after_payload (next (splice_by part bytes)) (Some (text, rest))
  bytes_whole text rest all p =
      ap (with_bytes part next) (append_assoc bytes (text ++ 10 ∷ []) rest)
      ∙ seam ((text ++ 10 ∷ []) ++ rest) all ∙ ap (after_payload (next (splice_by part bytes))) (line_ends text rest p)

  -- without the newline they are cut off
  pub bytes_cut_line : (text : List ℕ) → length bytes ≡ part.count → IsInLine text →
      with_bytes part next (bytes ++ text) ≡ unfinished
  bytes_cut_line text all p = seam text all ∙ ap (after_payload (next (splice_by part bytes))) (line_open text p)

-- where nothing stands before that newline the request goes on, and where bytes do it has a flaw
pub after_none : (next : Parser) (text rest : List ℕ) → text ≡ [] → after_payload next (Some (text, rest)) ≡ next rest
after_none next text rest none = ap (λ l. after_payload next (Some (l, rest))) none

pub after_some : (next : Parser) (text rest : List ℕ) → (text ≡ [] → ⊥) →
    after_payload next (Some (text, rest)) ≡ asks (flawed NoPayload) rest
after_some next [] rest some = absurd (some refl)
after_some next (c ∷ text) rest some = refl

-- ---- parts

-- where one more is to come
pub parts_on : (left : ℕ) (ss : Row ASplice) (rest : List ℕ) → 0 < left
    → more_parts left ss rest ≡ part_by_line (λ s. more_parts (left - 1) (ss ++ s ∷ [])) (first_line rest)
parts_on zero ss rest none = absurd (omega (arith, none))
parts_on (suc n) ss rest more = let less : n ≡ suc n - 1 = omega arith in
    ap (λ m. part_by_line (λ s. more_parts m (ss ++ s ∷ [])) (first_line rest)) less

-- an edit whose line came is never taken for no request: a batch, one alone, and either form
parts_begin : (count : ℕ) (ss : Row ASplice) → more_parts count ss [] ≡ nothing → ⊥
parts_begin zero ss e = let wrong : asks (edit ss) [] ≡ nothing = e in absurd cc
parts_begin (suc n) ss e = let wrong : unfinished ≡ nothing = e in absurd cc

edit_begins : (part : Part) → with_bytes part edit_alone [] ≡ nothing → ⊥
edit_begins part e =
    let cut : with_bytes part edit_alone [] ≡ unfinished =
    ap (λ l. after_payload (edit_alone (splice_by part (take part.count []))) (first_line l))
    (drop_all part.count [] (omega arith)) in
    let wrong : unfinished ≡ nothing = sym cut ∙ e in absurd cc

pub form_begins : (form : EditForm) → next_by_form form [] ≡ nothing → ⊥
form_begins (forms.Alone part) e = edit_begins part e
form_begins (forms.Batch count) e = parts_begin count [] e

-- what waited was taken, where nothing waits any more
pub some_taken : (old new : Ahead) (taken : List ℕ) → TakesBytes old new taken → 0 < length old.waiting.bytes →
    new.waiting.bytes ≡ [] → 0 < length taken
some_taken old new taken t some none =
    let before = length-append old.waiting.bytes t.more in
    let after = length-append taken new.waiting.bytes in
    let same = ap length t.same in
    let empty = ap length none in
    omega (arith, before, after, same, empty, some)

-- ---- a run that ends where no more bytes come

module _ (parser : Parser) (old new : TurnState) (same : new.session ≡ old.session)
    (silent : new.written ≡ old.written) (sound : new.broken ≡ false) where
  -- where no more bytes come in a request, the run ends inside it
  pub stops_inside : (stop : InputEnd) (taken : List ℕ) → TakesBytes old.ahead new.ahead taken →
      (new.ahead.waiting.bytes ≡ [] → parser taken ≡ unfinished) → StopsBy new.ahead stop
      → EndsAs parser old new (end_inside stop)
  stops_inside stops.Met taken takes whole s =
      record { taken = taken; takes = takes; none = (whole s.2, s); same = same; silent = silent; sound = sound }
  stops_inside stops.Unreadable taken takes whole s =
      record {
        taken = taken;
        takes = takes;
        none = ((cut, subst (λ n. EndsBy n cut) (sym (whole s.2)) tt), s);
        same = same;
        silent = silent;
        sound = sound;
      }
  stops_inside stops.TooLong taken takes whole s =
      record { taken = taken; takes = takes; none = s; same = same; silent = silent; sound = sound }

  -- where none come of a request, the run ends between two
  pub stops_between : (stop : InputEnd) → TakesBytes old.ahead new.ahead [] → parser [] ≡ nothing
      → StopsBy new.ahead stop → EndsAs parser old new (end_between stop)
  stops_between stops.Met takes none s =
      record { taken = []; takes = takes; none = (refl, none, s); same = same; silent = silent; sound = sound }
  stops_between stops.Unreadable takes none s =
      record {
        taken = [];
        takes = takes;
        none = ((clean, subst (λ n. EndsBy n clean) (sym none) tt), s);
        same = same;
        silent = silent;
        sound = sound;
      }
  stops_between stops.TooLong takes none s =
      record { taken = []; takes = takes; none = s; same = same; silent = silent; sound = sound }

-- ---- what follows the line of a request goes on with it

module _ (text : List ℕ) (parser : Parser)
    (front : (rest : List ℕ) → next_request_of ((text ++ 10 ∷ []) ++ rest) ≡ parser rest)
    (begun : parser [] ≡ nothing → ⊥)
    (old new : TurnState) (mid : Ahead) (first : TakesBytes old.ahead mid (text ++ 10 ∷ [])) where
  -- where the run stands once the line was taken
  abbrev after_line : TurnState
  after_line = record { session = old.session; ahead = mid; written = old.written; broken = old.broken }

  -- the line with what follows is understood as the parser understands what follows
  through : (taken rest : List ℕ) → next_request_of (((text ++ 10 ∷ []) ++ taken) ++ rest) ≡ parser (taken ++ rest)
  through taken rest = ap next_request_of (append_assoc (text ++ 10 ∷ []) taken rest) ∙ front (taken ++ rest)

  through_all : (taken : List ℕ) → next_request_of ((text ++ 10 ∷ []) ++ taken) ≡ parser taken
  through_all taken = front taken

  -- a reply to what follows the line is one to the request with its line
  replied_through : (failed : Bool) → Replied parser after_line new failed → Replied next_request_of old new failed
  replied_through failed r = record {
    taken = (text ++ 10 ∷ []) ++ r.taken;
    request = r.request;
    takes = takes_both old.ahead mid new.ahead (text ++ 10 ∷ []) r.taken _ first r.takes refl;
    spelled = λ rest. through r.taken rest ∙ r.spelled rest;
    tells = r.tells;
  }

  -- and so it is of why no request follows, of what changes nothing, and of an end of the run
  none_through : («end» : End) (taken : List ℕ) → NoFurther parser «end» taken new.ahead →
      NoFurther next_request_of «end» ((text ++ 10 ∷ []) ++ taken) new.ahead
  none_through Clean taken n = absurd (begun n.1)
  none_through Quit taken n = ((λ rest. through taken rest ∙ n.0 rest), n.1)
  none_through Cut taken n = (through_all taken ∙ n.0, n.1)
  none_through Unreadable taken n = ((n.0.0, subst (λ x. EndsBy x n.0.0) (sym (through_all taken)) n.0.1), n.1)
  none_through TooLong taken n = n
  none_through Unwritable taken n = n

  stays_through : («end» : End) → ChangesNothing parser «end» after_line new →
      ChangesNothing next_request_of «end» old new
  stays_through why s = record {
    taken = (text ++ 10 ∷ []) ++ s.taken;
    takes = takes_both old.ahead mid new.ahead (text ++ 10 ∷ []) s.taken _ first s.takes refl;
    none = none_through why s.taken s.none;
    same = s.same;
    silent = s.silent;
    sound = s.sound;
  }

  ends_through : («end» : End) → EndsAs parser after_line new «end» → EndsAs next_request_of old new «end»
  ends_through Clean s = stays_through Clean s
  ends_through Quit s = stays_through Quit s
  ends_through Cut s = stays_through Cut s
  ends_through Unreadable s = stays_through Unreadable s
  ends_through TooLong s = stays_through TooLong s
  ends_through Unwritable s = (replied_through true s.0, s.1, s.2)

  -- so a turn from after the line on is a turn from the line on
  pub turn_through : (r : Result (Unit {0}) End) → IsTurn parser after_line new r → IsTurn next_request_of old new r
  turn_through (Ok replied) turn = replied_through false turn
  turn_through (Err why) turn = ends_through why turn

-- ---- a request that is a line alone

module _ (text : List ℕ) (inline : IsInLine text) (kind : Option RequestKind) (is : kind ≡ kind_of_line text) where
  -- with its newline the line is what its kind asks for
  pub line_is : (rest : List ℕ) → next_request_of ((text ++ 10 ∷ []) ++ rest) ≡ next_by_kind kind rest
  line_is rest = line_first text rest inline ∙ ap (λ o. next_by_kind o rest) (sym is)

  -- a reply to what it asks for is one to the request that is this line
  pub plain_replied : (old new : TurnState) (failed : Bool) (request : Request)
      → TakesBytes old.ahead new.ahead (text ++ 10 ∷ [])
      → ((rest : List ℕ) → next_by_kind kind rest ≡ asks request rest)
      → RepliesTo old.session request new.session (Writes old.written new.written failed)
      → Replied next_request_of old new failed
  plain_replied old new failed request takes next tells =
      record {
        taken = text ++ 10 ∷ [];
        request = request;
        takes = takes;
        spelled = λ rest. line_is rest ∙ next rest;
        tells = tells;
      }

-- a request has a byte
pub some_spelled : (taken : List ℕ) (request : Request) → Spells next_request_of taken (asks request) → 0 < length taken
some_spelled [] request spelled = let wrong : nothing ≡ asks request [] = spelled [] in absurd cc
some_spelled (b ∷ taken) request spelled = omega arith

-- of m bytes that may come in all, fewer are still to be taken once some were
pub smaller : (m : ℕ) (a b : Ahead) (taken : List ℕ) → TakesBytes a b taken → 0 < length taken → a.waiting.count < m
    → m + length b.waiting.bytes - b.waiting.count < m + length a.waiting.bytes - a.waiting.count
smaller m a b taken t some few =
    let before = length-append a.waiting.bytes t.more in
    let after = length-append taken b.waiting.bytes in
    let same = ap length t.same in
    let count = t.counted in
    omega (arith, before, after, same, count, some, few)

-- to append nothing leaves what a writer holds
pub appends_none : (a : Option (List ℕ)) → Appends a a []
appends_none None = tt
appends_none (Some x) = sym (append-nil x)
