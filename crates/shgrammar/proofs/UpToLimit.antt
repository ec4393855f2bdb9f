-- What holds of whatever is read with its tree, unless the reading ends above a limit:
-- the laws of forms for it.
use Rattle.std.proofs.Common.{◌≡◌, refl, ℕ, ◌+◌, ◌≤◌, Bool, true, false, List as Row, ◌∷◌, ◌++◌, [], arith}
use Rattle.std.specs.Prelude.{All}
use Rattle.std.proofs.lemmas.List.Elements.{All-nil, All-push}
use Rattle.shgrammar.specs.declared.keep.Keep.TheVariants.{Whole}
use Rattle.shgrammar.specs.declared.fault.FaultKind.{FaultKind}
use Rattle.shast.specs.Nodes.{IsSpanWithin}
use Rattle.shgrammar.specs.Sights.{Given, Move, Sight, State, here, seen}
use Rattle.shgrammar.specs.HereDocuments.{own_level}
use Rattle.shgrammar.specs.Form.{Form, Telling, a_level, both, does, ends_as, give, many, move, moved_on, push, see, stop, token, with_bytes, Step, again, done, step_if, in_substitution}
use Rattle.shgrammar.specs.Commands.{pick}
use Rattle.shgrammar.proofs.Holds.{Tells, Turned, no_form_goes_back, tells_ending, tells_level, tells_so, tells_then, tells_token, tells_until, tells_with_bytes, tells_inside, holds_and}
use Rattle.shgrammar.proofs.Turns.{Stepped}
use Rattle.shgrammar.proofs.BodiesInLimit.{HoldsWithin, bodies_in_limit, unless_above}

-- P holds of what r reads from s on, with its tree, unless that ends above the limit
pub record UpTo (g : Given) (limit : ℕ) {X : Type 0} (r : Form X) (P : X → Type 0) (s : State) : Type 0 where
  pub told : Tells Whole g r (λ x t. g.offset + t.at ≤ limit → P x) s

-- where P holds of a value, it does of a step with that, which goes on or ends by a test
pub stepped : {A : Type 0} (P : A → Type 0) (b : Bool) (a : A) → P a → Stepped P (step_if b a)
stepped P true a so = so
stepped P false a so = so

-- what follows from P holds of what a turn gives, where P does
pub step_so : {A : Type 0} (P Q : A → Type 0) → ((a : A) → P a → Q a) → (c : Step A) → Stepped P c → Stepped Q c
step_so P Q so (again a) one = so a one
step_so P Q so (done a) one = so a one

-- the same, where the turn does not end above the limit
turned : (g : Given) (limit : ℕ) {A : Type 0} (P : A → Type 0) (c : Step A) (t : State) →
    (g.offset + t.at ≤ limit → Stepped P c) → Turned Whole g (λ a u. g.offset + u.at ≤ limit → P a) c t
turned g limit P (again a) t so = so
turned g limit P (done a) t so = so

module _ {g : Given} {limit : ℕ} where
  -- of what begins above the limit nothing is said
  pub unless : {X : Type 0} {P : X → Type 0} {r : Form X} {s : State} → (g.offset + s.at ≤ limit → UpTo g limit r P s) →
      UpTo g limit r P s
  unless {P = P} {r = r} {s = s} so = record { told = unless_above g limit {P = λ x t. P x} r s (λ b. (so b).told) }

  -- where P holds of a value, it does when that is given; of a fault nothing is asked
  pub gives : {X : Type 0} {P : X → Type 0} {x : X} {s : State} → P x → UpTo g limit (give x) P s
  gives so = record { told = record { told = λ b. so } }

  pub stops : {X : Type 0} {P : X → Type 0} {kind : FaultKind} {at : ℕ} {s : State} →
      UpTo g limit (stop {X = X} kind at) P s
  stops = record { told = record { told = tt } }

  -- what follows from P holds of what a form reads, where P does
  pub follows : {X : Type 0} {P Q : X → Type 0} {r : Form X} {s : State} → UpTo g limit r P s → ((x : X) → P x → Q x) →
      UpTo g limit r Q s
  follows one so = record { told = tells_so Whole g one.told (λ x t there. λ b. so x (there b)) }

  -- one form and then another, which begins no further back
  pub first_on : {X Y : Type 0} {P : X → Type 0} {Q : Y → Type 0} {r : Form X} {q : X → Form Y} {s : State} →
      UpTo g limit r P s → ((x : X) (t : State) → s.at ≤ t.at → P x → UpTo g limit (q x) Q t)
      → UpTo g limit (both r q) Q s
  first_on {P = P} {r = r} {s = s} one rest =
      record {
        told = tells_then Whole g {P = λ a t. (g.offset + t.at ≤ limit → P a) × (s.at ≤ t.at)}
            (record {
              told = holds_and (λ a t. g.offset + t.at ≤ limit → P a) (λ a t. s.at ≤ t.at)
                  (does r Whole g s) one.told.told (no_form_goes_back r Whole g s).told;
            })
            (λ x t so. (unless (λ b. rest x t so.1 (so.0 b))).told);
      }

  -- the same, wherever the second begins
  pub first : {X Y : Type 0} {P : X → Type 0} {Q : Y → Type 0} {r : Form X} {q : X → Form Y} {s : State} →
      UpTo g limit r P s → ((x : X) (t : State) → P x → UpTo g limit (q x) Q t) → UpTo g limit (both r q) Q s
  first one rest = first_on one (λ x t on so. rest x t so)

  -- what a form gives may be anything
  pub after : {X Y : Type 0} {Q : Y → Type 0} {r : Form X} {q : X → Form Y} {s : State} →
      ((x : X) (t : State) → UpTo g limit (q x) Q t) → UpTo g limit (both r q) Q s
  after {r = r} {s = s} rest = record {
    told =
        tells_then Whole g {r = r} {s = s} (no_form_goes_back r Whole g s) (λ x t on. (rest x t).told);
  }

  -- what is seen, or on to another place, and then the rest
  pub sees : {X Y : Type 0} {Q : Y → Type 0} {f : Sight X} {q : X → Form Y} {s : State} →
      UpTo g limit (q (seen f g s)) Q s → UpTo g limit (both (see f) q) Q s
  sees rest = record { told = record { told = rest.told.told } }

  pub moves : {Y : Type 0} {Q : Y → Type 0} {m : Move} {q : Unit {0} → Form Y} {s : State} →
      UpTo g limit (q tt) Q (moved_on m g s) → UpTo g limit (both (move m) q) Q s
  moves rest = record { told = record { told = rest.told.told } }

  -- the offset that is seen from here
  pub stands : {s : State} → UpTo g limit (see here) (λ p. p ≤ limit) s
  stands = record { told = record { told = λ b. b } }

  -- where P holds of a row with one more element, it holds of what is read when that is added
  pub adds : {A : Type 0} {P : Row A → Type 0} {xs : Row A} {x : A} {s : State} → P (xs ++ x ∷ []) →
      UpTo g limit (push xs x) P s
  adds so = record { told = record { told = λ b. so } }

  -- where P holds of each element of a row and of one more, it holds of each once that is added
  pub pushes : {A : Type 0} (P : A → Type 0) {xs : Row A} {x : A} {s : State} → All P xs → P x →
      UpTo g limit (push xs x) (All P) s
  pushes P {xs = xs} {x = x} all one = adds (All-push P xs x all one)

  -- where P holds of what a form reads, it does when that is read as one token, whose span is within the
  -- limit
  pub tokens : {X : Type 0} {P : X → Type 0} {how : Telling} {r : Form X} {s : State} → UpTo g limit r P s →
      UpTo g limit (token how r) (λ x. P x.0 × IsSpanWithin limit x.1) s
  tokens {P = P} {r = r} {s = s} one =
      record {
        told = tells_token Whole g {P = λ a t. (g.offset + t.at ≤ limit → P a) × (s.at ≤ t.at)}
            {Q = λ x t. g.offset + t.at ≤ limit → P x.0 × IsSpanWithin limit x.1}
            (record {
              told = holds_and (λ a t. g.offset + t.at ≤ limit → P a) (λ a t. s.at ≤ t.at)
                  (does r Whole g s) one.told.told (no_form_goes_back r Whole g s).told;
            })
            (λ a t so. λ b. (so.0 b, (omega (arith, so.1, b), b)));
      }

  -- of which nothing but its span is told
  pub bare_token : {X : Type 0} {how : Telling} {r : Form X} {s : State} →
      UpTo g limit (token how r) (λ x. IsSpanWithin limit x.1) s
  bare_token {r = r} {s = s} = follows
      (tokens {P = λ x. Unit {0}}
      (record { told = tells_so Whole g (no_form_goes_back r Whole g s) (λ x t on. λ b. tt) }))
      (λ x so. so.1)

  -- a repetition: P holds before the first turn, and Q, from which P follows, after each
  pub grows : {A : Type 0} (P Q : A → Type 0) (turn : A → Form (Step A)) →
      ((a : A) (s : State) → P a → UpTo g limit (turn a) (Stepped Q) s) → ((a : A) → Q a → P a) → (a : A) (s : State) →
      P a
      → UpTo g limit (many turn a) Q s
  grows P Q turn each so a s one =
      record {
        told = tells_until Whole g turn (λ a t. g.offset + t.at ≤ limit → P a) (λ a t. g.offset + t.at ≤ limit → Q a)
            (λ a t. g.offset + t.at ≤ limit → Q a)
            (λ a t there. tells_so Whole g (unless {P = Stepped Q} {r = turn a} {s = t} (λ b. each a t (there b))).told
            (turned g limit Q)) (λ a t there. λ b. so a (there b)) (λ a t there. there) a s (λ b. one);
      }

  -- the same, where one thing holds before and after each turn
  pub repeats : {A : Type 0} (P : A → Type 0) (turn : A → Form (Step A)) →
      ((a : A) (s : State) → P a → UpTo g limit (turn a) (Stepped P) s) → (a : A) (s : State) → P a →
      UpTo g limit (many turn a) P s
  repeats P turn each a s one = grows P P turn each (λ b so. so) a s one

  -- where the text ends in it, the fault is another one
  pub ending : {X : Type 0} {P : X → Type 0} {kind : FaultKind} {at : ℕ} {r : Form X} {s : State} → UpTo g limit r P s →
      UpTo g limit (ends_as kind at r) P s
  ending one = record { told = tells_ending Whole g one.told }

  -- with its bytes, and as a level of its own, with the bodies of that
  pub with_its_bytes : {X : Type 0} {P : X → Type 0} {r : Form X} {s : State} → UpTo g limit r P s →
      UpTo g limit (with_bytes r) (λ x. P x.0) s
  with_its_bytes {P = P} one = record {
    told =
        tells_with_bytes Whole g {P = λ a t. g.offset + t.at ≤ limit → P a}
        {Q = λ x t. g.offset + t.at ≤ limit → P x.0} one.told (λ a t so. so);
  }

  pub in_level : {X : Type 0} {P : X → Type 0} {r : Form X} {s : State} → UpTo g limit r P (own_level s) →
      UpTo g limit (a_level r) (λ x. P x.0 × All (IsSpanWithin limit) x.1) s
  in_level {P = P} {r = r} {s = s} one =
      let bodies = bodies_in_limit g limit r (own_level s) (All-nil (IsSpanWithin limit)) in
      record {
        told = tells_level Whole g {P = λ a t. (g.offset + t.at ≤ limit → P a)
            × (g.offset + t.at ≤ limit → HoldsWithin g limit t)}
            {Q = λ x t. g.offset + t.at ≤ limit → P x.0 × All (IsSpanWithin limit) x.1}
            (record {
              told = holds_and (λ a t. g.offset + t.at ≤ limit → P a)
                  (λ a t. g.offset + t.at ≤ limit → HoldsWithin g limit t)
                  (does r Whole g (own_level s)) one.told.told bodies.told;
            })
            (λ a t so. λ b. (so.0 b, so.1 b));
      }

  -- what stands in a command substitution
  pub in_subst : {X : Type 0} {P : X → Type 0} {r : Form X} {s : State} → UpTo g limit r P s →
      UpTo g limit (in_substitution r) P s
  in_subst one = record { told = tells_inside Whole g one.told }

  -- one form or the other, by a test
  pub picks : {X : Type 0} {P : X → Type 0} (b : Bool) {r q : Form X} {s : State} → UpTo g limit r P s →
      UpTo g limit q P s → UpTo g limit (pick b r q) P s
  picks true one two = one
  picks false one two = two

  pub picks_by : {X : Type 0} {P : X → Type 0} (b : Bool) {r q : Form X} {s : State} → (b ≡ true → UpTo g limit r P s) →
      (b ≡ false → UpTo g limit q P s) → UpTo g limit (pick b r q) P s
  picks_by true one two = one refl
  picks_by false one two = two refl
