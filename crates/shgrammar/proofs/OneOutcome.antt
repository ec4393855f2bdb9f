-- Each form has one outcome, the one that is computed: one induction, for every row of the grammar.
use Rattle.std.proofs.Common.{◌≡◌, ℕ, zero, suc, ◌-◌, ◌<◌, Bool, true, false, cond, Result, Ok, Err, List as Row, [], ◌∷◌, ◌++◌, length, refl, sym, ap, subst, ◌∙◌, arith}
use Rattle.std.proofs.lemmas.Bool.{ltb-true}
use Rattle.shgrammar.specs.declared.keep.Keep.TheVariants.{Whole}
use Rattle.shast.specs.declared.tree.Span.{Span}
use Rattle.shgrammar.specs.declared.fault.Fault.{Fault}
use Rattle.shgrammar.specs.declared.fault.FaultKind.{FaultKind}
use Rattle.shgrammar.specs.Comments.{span}
use Rattle.shgrammar.specs.Sights.{Given, State, seen}
use Rattle.shgrammar.specs.HereDocuments.{changed, own_level, outer_level}
use Rattle.shgrammar.specs.Form.{Spelled, Read, Comes, Step, again, done, Form, give, see, move, push, stop, both, when, token, loop, ends_as, change, with_bytes, a_level, Just, just, Halts, halted, Then, and_then, or_stops, Either, holds, fails, Telling, tell, OneToken, whole, broken_off, leads_on, Turns, last, rests, more, halts, Ending, goes_through, stops_inside, with_end, Changed, changes, cannot, nothing_read, WithBytes, with_its_bytes, without_bytes, OwnLevel, level_read, level_stops, raw, moved_on, may, ◌▸◌, turns, does, in_substitution}
use Rattle.shgrammar.proofs.Turns.{turns_on, turns_rest, turns_done, turns_fault}

-- x is what may be read, and nothing else
pub record HasOneOutcome {X : Type 0} (r : Read X → Row Spelled → Type 0) (x : Read X) : Type 0 where
  pub some : (k : Row Spelled) × r x k
  pub only : (y : Read X) (k : Row Spelled) → r y k → y ≡ x

-- where something is given, or the reading stops with a fault, nothing else may be read
just_only : {X : Type 0} (x : X) (t : State) (y : Read X) (k : Row Spelled) → Just x t y k → y ≡ Ok (x, t)
just_only x t y k just = refl

halts_only : {X : Type 0} (f : Fault) (y : Read X) (k : Row Spelled) → Halts f y k → y ≡ Err f
halts_only f y k halted = refl

is_just : {X : Type 0} (x : X) (t : State) → HasOneOutcome (Just x t) (Ok (x, t))
is_just x t = record { some = ([], just); only = just_only x t }

-- ---- one form and then another

module _ {X Y : Type 0} (r : Comes X) (q : X → Comes Y) (f : X → State → Read Y)
    (rest : (x : X) (t : State) → HasOneOutcome (q x t) (f x t)) (s : State) where
  -- where each of them has one outcome, so have both, in order
  then_some : (x : Read X) → (k : Row Spelled) → r s x k → (l : Row Spelled) × Then r q s (x ▸ f) l
  then_some (Ok (x, t)) k first = (k ++ (rest x t).some.0, and_then first (rest x t).some.1)
  then_some (Err e) k first = (k, or_stops first)

  then_only : (x : Read X) → ((y : Read X) (k : Row Spelled) → r s y k → y ≡ x) → (y : Read Y) (l : Row Spelled) →
      Then r q s y l → y ≡ (x ▸ f)
  then_only (Ok (x, t)) one y l (and_then {x = b} {t = u} {k = k} {l = m} first second) =
      let is = one (Ok (b, u)) k first in
      let same : ◌≡◌ {A = X × State} (b, u) (x, t) = cc in
      (rest x t).only y m (subst (λ (z : X × State). q z.0 z.1 y m) same second)
  then_only (Ok (x, t)) one y l (or_stops {f = e} {k = k} first) = let is = one (Err e) k first in absurd cc
  then_only (Err d) one y l (and_then {x = b} {t = u} {k = k} first second) = let is = one (Ok (b, u)) k first in
      absurd cc
  then_only (Err d) one y l (or_stops {f = e} {k = k} first) = let is = one (Err e) k first in cc

  is_then : (x : Read X) → HasOneOutcome (r s) x → HasOneOutcome (Then r q s) (x ▸ f)
  is_then x first = record { some = then_some x first.some.0 first.some.1; only = then_only x first.only }

-- ---- one form or another

module _ {X : Type 0} (r q : Comes X) (s : State) (x y : Read X) (one : HasOneOutcome (r s) x)
    (two : HasOneOutcome (q s) y) where
  -- by the test it is the outcome of the one, or of the other
  is_either : (test : Bool) → HasOneOutcome (Either test r q s) (cond test x y)
  is_either true = record {
    some = (one.some.0, holds refl one.some.1);
    only = λ z k. elim [ holds e part ↦ one.only z k part | fails e part ↦ absurd cc ];
  }
  is_either false = record {
    some = (two.some.0, fails refl two.some.1);
    only = λ z k. elim [ holds e part ↦ absurd cc | fails e part ↦ two.only z k part ];
  }

-- ---- one token

module _ {X : Type 0} (how : Telling) (g : Given) (r : Comes X) (s : State) where
  -- what was read, with its span
  abbrev spanned : Read X → Read (X × Span)
  spanned x = x ▸ λ a t. Ok ((a, span g.offset s.at t.at), t)

  -- with that span the token has the outcome of its form, and no other
  token_some : (x : Read X) (k : Row Spelled) → r s x k → (l : Row Spelled) × OneToken how g r s (spanned x) l
  token_some (Ok (x, t)) k part = (tell how g.text s.at t.at, whole part)
  token_some (Err f) k part = (k, broken_off part)

  token_only : (x : Read X) → ((y : Read X) (k : Row Spelled) → r s y k → y ≡ x) →
      (y : Read (X × Span)) (l : Row Spelled) → OneToken how g r s y l → y ≡ spanned x
  token_only x one y l (whole {x = b} {t = u} {k = k} part) = rw (← one (Ok (b, u)) k part) refl
  token_only x one y l (broken_off {f = e} {k = k} part) = rw (← one (Err e) k part) refl

  is_token : (x : Read X) → HasOneOutcome (r s) x → HasOneOutcome (OneToken how g r s) (spanned x)
  is_token x one = record { some = token_some x one.some.0 one.some.1; only = token_only x one.only }

-- ---- turns

module _ {A : Type 0} (g : Given) (turn : A → Comes (Step A)) (f : A → State → Read (Step A))
    (each : (a : A) (s : State) → HasOneOutcome (turn a s) (f a s)) where
  -- by the outcome of one turn
  turn_some : (a : A) (s : State) (x : Read (Step A)) → f a s ≡ x → (k : Row Spelled) → turn a s x k
      → ((b : A) (t : State) → length g.text - t.at < length g.text - s.at → (l : Row Spelled)
      × Turns g turn b t (turns g f b t) l)
      → (l : Row Spelled) × Turns g turn a s (turns g f a s) l
  turn_some a s (Ok (done b, t)) is k part rest = rw (turns_done g f a b s t is) (k, last part)
  turn_some a s (Ok (again b, t)) is k part rest = led (leads_on g s t) refl
    where
      led : (on : Bool) → leads_on g s t ≡ on → (l : Row Spelled) × Turns g turn a s (turns g f a s) l
      led true on = let then = rest b t (ltb-true _ _ on) in
          rw (turns_on g f a b s t is on) (k ++ then.0, more part on then.1)
      led false on = rw (turns_rest g f a b s t is on) (k, rests part on)
  turn_some a s (Err e) is k part rest = rw (turns_fault g f a s e is) (k, halts part)

  -- with fewer than n bytes left
  turns_some : (n : ℕ) (a : A) (s : State) → length g.text - s.at < n → (l : Row Spelled)
      × Turns g turn a s (turns g f a s) l
  turns_some zero a s low = absurd (omega arith)
  turns_some (suc n) a s low = turn_some a s (f a s) refl (each a s).some.0 (each a s).some.1
      (λ b t less. turns_some n b t (omega (arith, less, low)))

  -- there is no other outcome, and so turns have the one that is computed
  turns_only : (a : A) (s : State) (y : Read A) (k : Row Spelled) → Turns g turn a s y k → y ≡ turns g f a s
  turns_only a s y k (last {b = b} {t = t} part) = sym (turns_done g f a b s t (sym ((each a s).only _ _ part)))
  turns_only a s y k (rests {b = b} {t = t} part off) =
      sym (turns_rest g f a b s t (sym ((each a s).only _ _ part)) off)
  turns_only a s y k (more {b = b} {t = t} part on rest) = turns_only b t y _ rest
      ∙ sym (turns_on g f a b s t (sym ((each a s).only _ _ part)) on)
  turns_only a s y k (halts {f = e} part) = sym (turns_fault g f a s e (sym ((each a s).only _ _ part)))

  is_many : (a : A) (s : State) → HasOneOutcome (Turns g turn a s) (turns g f a s)
  is_many a s = record { some = turns_some (suc (length g.text - s.at)) a s (omega arith); only = turns_only a s }

-- ---- the fault at the end

module _ {X : Type 0} (kind : FaultKind) (at : ℕ) (r : Comes X) (s : State) where
  -- the outcome of the form, where the end is told by this fault, and no other
  ending_some : (x : Read X) (k : Row Spelled) → r s x k → Ending kind at r s (with_end kind at x) k
  ending_some (Ok (x, t)) k part = goes_through part
  ending_some (Err f) k part = stops_inside part

  ending_only : (x : Read X) → ((y : Read X) (k : Row Spelled) → r s y k → y ≡ x) → (y : Read X) (l : Row Spelled) →
      Ending kind at r s y l → y ≡ with_end kind at x
  ending_only x one y l (goes_through {x = b} {t = u} part) = ap (with_end kind at) (one (Ok (b, u)) l part)
  ending_only x one y l (stops_inside {f = f} part) = ap (with_end kind at) (one (Err f) l part)

  is_ending : (x : Read X) → HasOneOutcome (r s) x → HasOneOutcome (Ending kind at r s) (with_end kind at x)
  is_ending x one = record { some = (one.some.0, ending_some x one.some.0 one.some.1); only = ending_only x one.only }

-- ---- what waits, bytes, and levels

-- a change has one outcome: a state, or a fault
changed_some : (x : Result State Fault) → Changed x (nothing_read x) []
changed_some (Ok t) = changes refl
changed_some (Err f) = cannot refl

changed_only : (x : Result State Fault) (y : Read (Unit {0})) (k : Row Spelled) → Changed x y k → y ≡ nothing_read x
changed_only x y k (changes part) = rw part refl
changed_only x y k (cannot part) = rw part refl

is_changed : (x : Result State Fault) → HasOneOutcome (Changed x) (nothing_read x)
is_changed x = record { some = ([], changed_some x); only = changed_only x }

module _ {X : Type 0} (g : Given) (r : Comes X) (s : State) where
  -- what was read, and its bytes as they stand
  abbrev with_raw : Read X → Read (X × Spelled)
  with_raw x = x ▸ λ a t. Ok ((a, raw g.text s.at t.at), t)

  -- with these bytes there is the outcome of the form, and no other
  bytes_some : (x : Read X) (k : Row Spelled) → r s x k → WithBytes g r s (with_raw x) k
  bytes_some (Ok (x, t)) k part = with_its_bytes part
  bytes_some (Err f) k part = without_bytes part

  bytes_only : (x : Read X) → ((y : Read X) (k : Row Spelled) → r s y k → y ≡ x) →
      (y : Read (X × Spelled)) (l : Row Spelled) → WithBytes g r s y l → y ≡ with_raw x
  bytes_only x one y l (with_its_bytes {x = b} {t = u} {k = k} part) = rw (← one (Ok (b, u)) k part) refl
  bytes_only x one y l (without_bytes {f = e} {k = k} part) = rw (← one (Err e) k part) refl

  is_with_bytes : (x : Read X) → HasOneOutcome (r s) x → HasOneOutcome (WithBytes g r s) (with_raw x)
  is_with_bytes x one = record { some = (one.some.0, bytes_some x one.some.0 one.some.1); only = bytes_only x one.only }

module _ {X : Type 0} (r : Comes X) (s : State) where
  -- what was read in a level, with its bodies, and the state after it outside
  abbrev with_bodies_of : Read X → Read (X × Row Span)
  with_bodies_of x = x ▸ λ a t. Ok ((a, t.bodies), outer_level s t)

  -- with these bodies there is the outcome of the form in a level of its own, and no other
  level_some : (x : Read X) (k : Row Spelled) → r (own_level s) x k → OwnLevel r s (with_bodies_of x) k
  level_some (Ok (x, t)) k part = level_read part
  level_some (Err f) k part = level_stops part

  level_only : (x : Read X) → ((y : Read X) (k : Row Spelled) → r (own_level s) y k → y ≡ x) →
      (y : Read (X × Row Span)) (l : Row Spelled) → OwnLevel r s y l → y ≡ with_bodies_of x
  level_only x one y l (level_read {x = b} {t = u} {k = k} part) = rw (← one (Ok (b, u)) k part) refl
  level_only x one y l (level_stops {f = e} {k = k} part) = rw (← one (Err e) k part) refl

  is_own_level : (x : Read X) → HasOneOutcome (r (own_level s)) x → HasOneOutcome (OwnLevel r s) (with_bodies_of x)
  is_own_level x one = record { some = (one.some.0, level_some x one.some.0 one.some.1); only = level_only x one.only }

-- ---- every form

-- by each form what is computed with the whole tree may be read, and nothing else
pub computed_is_only : {X : Type 0} (r : Form X) (g : Given) (s : State) → HasOneOutcome (may r g s) (does r Whole g s)
computed_is_only (give x) g s = is_just x s
computed_is_only (see f) g s = is_just (seen f g s) s
computed_is_only (move m) g s = is_just tt (moved_on m g s)
computed_is_only (push xs x) g s = is_just (xs ++ x ∷ []) s
computed_is_only (stop kind at) g s =
    record { some = ([], halted); only = halts_only (record { kind = kind; at = at }) }
computed_is_only (both r q) g s =
    is_then (may r g) (λ x. may (q x) g) (λ x t. does (q x) Whole g t) (λ x t. computed_is_only (q x) g t) s
    (does r Whole g s) (computed_is_only r g s)
computed_is_only (when f r q) g s =
    is_either (may r g) (may q g) s (does r Whole g s) (does q Whole g s) (computed_is_only r g s)
    (computed_is_only q g s) (seen f g s)
computed_is_only (token how r) g s = is_token how g (may r g) s (does r Whole g s) (computed_is_only r g s)
computed_is_only (loop turn a) g s =
    is_many g (λ b. may (turn b) g) (λ b t. does (turn b) Whole g t) (λ b t. computed_is_only (turn b) g t) a s
computed_is_only (ends_as kind at r) g s = is_ending kind at (may r g) s (does r Whole g s) (computed_is_only r g s)
computed_is_only (change c) g s = is_changed (changed c g s)
computed_is_only (with_bytes r) g s = is_with_bytes g (may r g) s (does r Whole g s) (computed_is_only r g s)
computed_is_only (a_level r) g s =
    is_own_level (may r g) s (does r Whole g (own_level s)) (computed_is_only r g (own_level s))
computed_is_only (in_substitution r) g s = computed_is_only r g s
