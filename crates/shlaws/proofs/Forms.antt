-- What is read where each turn leads on: the laws of forms for it.
use Rattle.std.proofs.Common.{◌≡◌, ℕ, ◌≤◌, ◌<◌, Bool, true, false, Result, Ok, Err, List as Row, [], ◌∷◌, ◌++◌, refl, arith}
use Rattle.std.proofs.lemmas.Bool.{both_ways, lt-ltb, ltb-true}
use Rattle.shgrammar.specs.declared.fault.Fault.{Fault}
use Rattle.shgrammar.specs.declared.fault.FaultKind.{FaultKind}
use Rattle.shast.specs.declared.tree.Span.{Span}
use Rattle.shgrammar.specs.Commands.{pick}
use Rattle.shgrammar.specs.Form.{Changed, Either, Ending, Form, Halts, Just, OneToken, OwnLevel, Read, Spelled, Step, Then, Telling, Turns, WithBytes, again, done, and_then, broken_off, cannot, changes, fails, goes_through, halted, halts, holds, just, last, leads_on, level_read, level_stops, many, may, more, moved_on, or_stops, rests, step_if, stops_inside, whole, with_its_bytes, without_bytes, give, see, move, push, stop, both, when, token, ends_as, change, with_bytes, a_level, in_substitution}
use Rattle.shgrammar.specs.HereDocuments.{Change, changed, own_level}
use Rattle.shgrammar.specs.Shows.{IsRead}
use Rattle.shgrammar.specs.Sights.{Given, Move, Sight, State, seen}
use Rattle.shgrammar.proofs.Holds.{AtOrAfter, Holds, holds_and}
use Rattle.shgrammar.proofs.NoFurther.{read_at_or_after}
use Rattle.shgrammar.proofs.Stretches.{place_low}
use Rattle.shlaws.specs.Onward.{TurnsOn, last as last_on, more as more_on, halts as halts_on, may_onward}

-- less is left still where one goes on, and where one began before
pub leads_far : (g : Given) (s t u v : State) → s.at ≤ t.at → u.at ≤ v.at → leads_on g t u ≡ true
    → leads_on g s v ≡ true
leads_far g s t u v before later on =
    let less = ltb-true _ _ on in lt-ltb _ _ (omega (arith, before, later, less))

-- to the right of a place where a byte is read less is left
pub leads_byte : (g : Given) (s t : State) → IsRead g.text s.at → s.at < t.at → leads_on g s t ≡ true
leads_byte g s t read on = lt-ltb _ _ (omega (arith, place_low g.text s.at, read, on))

module _ (g : Given) where
  -- what r may read from s on is read where each turn leads on too; P holds of it, if it is no fault
  pub record Goes {X : Type 0} (r : Form X) (P : X → State → Type 0) (s : State) : Type 0 where
    pub on : (y : Read X) (k : Row Spelled) → may r g s y k → may_onward r g s y k × Holds P y

  -- ---- what is given, seen and passed

  -- where P holds of x, it holds of each outcome of a form that only gives x
  just_by : {X : Type 0} (P : X → State → Type 0) (x : X) (s : State) → P x s → (y : Read X) (k : Row Spelled)
      → Just x s y k → Just x s y k × Holds P y
  just_by P x s so y k just = (just, so)

  -- x is given, of which P holds
  pub gives : {X : Type 0} {P : X → State → Type 0} {x : X} {s : State} → P x s → Goes (give x) P s
  gives {P = P} {x = x} {s = s} so = record { on = just_by P x s so }

  -- a fault is the only outcome of a stop; of a fault nothing is said
  halts_by : {X : Type 0} (P : X → State → Type 0) (f : Fault) (y : Read X) (k : Row Spelled) → Halts f y k
      → Halts f y k × Holds P y
  halts_by P f y k halted = (halted, tt)

  -- the reading stops: whatever P is, nothing is read of which it has to hold
  pub stops : {X : Type 0} {P : X → State → Type 0} {kind : FaultKind} {at : ℕ} {s : State}
      → Goes (stop {X = X} kind at) P s
  stops {P = P} {kind = kind} {at = at} = record { on = halts_by P (record { kind = kind; at = at }) }

  -- each outcome of one form and then another is read where each turn leads on; of it Q holds
  then_by : {X Y : Type 0} {P : X → State → Type 0} {Q : Y → State → Type 0} {r : Form X} {q : X → Form Y}
      {s : State} → Goes r P s → ((x : X) (t : State) → P x t → Goes (q x) Q t)
      → (y : Read Y) (k : Row Spelled) → Then (may r g) (λ x. may (q x) g) s y k
      → Then (may_onward r g) (λ x. may_onward (q x) g) s y k × Holds Q y
  then_by one rest y k (and_then {x = x} {t = t} {k = k1} {l = l} p then) =
      let a = one.on (Ok (x, t)) k1 p in
      let b = (rest x t a.1).on y l then in
      (and_then a.0 b.0, b.1)
  then_by one rest y k (or_stops {f = f} p) = (or_stops (one.on (Err f) k p).0, tt)

  -- one form and then another
  pub first : {X Y : Type 0} {P : X → State → Type 0} {Q : Y → State → Type 0} {r : Form X} {q : X → Form Y}
      {s : State} → Goes r P s → ((x : X) (t : State) → P x t → Goes (q x) Q t) → Goes (both r q) Q s
  first one rest = record { on = then_by one rest }

  -- what is seen, and no more of the form, or then the rest
  sees_to : {X : Type 0} {P : X → State → Type 0} {f : Sight X} {s : State} → P (seen f g s) s
      → Goes (see f) P s
  sees_to {P = P} {f = f} {s = s} so = record { on = just_by P (seen f g s) s so }

  pub sees : {X Y : Type 0} {Q : Y → State → Type 0} {f : Sight X} {q : X → Form Y} {s : State}
      → Goes (q (seen f g s)) Q s → Goes (both (see f) q) Q s
  sees {Q = Q} {q = q} rest = first {P = λ x t. Goes (q x) Q t} (sees_to rest) (λ x t so. so)

  -- on to another place, and the same
  pub moves_to : {P : Unit {0} → State → Type 0} {m : Move} {s : State} → P tt (moved_on m g s)
      → Goes (move m) P s
  moves_to {P = P} {m = m} {s = s} so = record { on = just_by P tt (moved_on m g s) so }

  pub moves : {Y : Type 0} {Q : Y → State → Type 0} {m : Move} {q : Unit {0} → Form Y} {s : State}
      → Goes (q tt) Q (moved_on m g s) → Goes (both (move m) q) Q s
  moves {Q = Q} {q = q} rest = first {P = λ x t. Goes (q x) Q t} (moves_to rest) (λ x t so. so)

  -- one more element, and the same
  pub pushes_to : {A : Type 0} {P : Row A → State → Type 0} {xs : Row A} {x : A} {s : State}
      → P (xs ++ x ∷ []) s → Goes (push xs x) P s
  pushes_to {P = P} {xs = xs} {x = x} {s = s} so = record { on = just_by P (xs ++ x ∷ []) s so }

  pub pushes : {A Y : Type 0} {Q : Y → State → Type 0} {xs : Row A} {x : A} {q : Row A → Form Y} {s : State}
      → Goes (q (xs ++ x ∷ [])) Q s → Goes (both (push xs x) q) Q s
  pushes {Q = Q} {q = q} rest = first {P = λ y t. Goes (q y) Q t} (pushes_to rest) (λ y t so. so)

  -- ---- one form, or another

  -- the same of each outcome of one form or another, by a test
  either_by : {X : Type 0} {P : X → State → Type 0} {r q : Form X} {s : State} (test : Bool)
      → (test ≡ true → Goes r P s) → (test ≡ false → Goes q P s)
      → (y : Read X) (k : Row Spelled) → Either test (may r g) (may q g) s y k
      → Either test (may_onward r g) (may_onward q g) s y k × Holds P y
  either_by test one two y k (holds so p) = let a = (one so).on y k p in (holds so a.0, a.1)
  either_by test one two y k (fails so p) = let a = (two so).on y k p in (fails so a.0, a.1)

  -- by what is seen
  pub whens_by : {X : Type 0} {P : X → State → Type 0} {f : Sight Bool} {r q : Form X} {s : State}
      → (seen f g s ≡ true → Goes r P s) → (seen f g s ≡ false → Goes q P s) → Goes (when f r q) P s
  whens_by {f = f} {s = s} one two = record { on = either_by (seen f g s) one two }

  -- and whatever is seen, where P holds after both forms
  pub whens : {X : Type 0} {P : X → State → Type 0} {f : Sight Bool} {r q : Form X} {s : State} → Goes r P s
      → Goes q P s → Goes (when f r q) P s
  whens one two = whens_by (λ e. one) (λ e. two)

  -- by a flag that is known, and whatever it is
  pub picks_by : {X : Type 0} {P : X → State → Type 0} (b : Bool) {r q : Form X} {s : State}
      → (b ≡ true → Goes r P s) → (b ≡ false → Goes q P s) → Goes (pick b r q) P s
  picks_by true one two = one refl
  picks_by false one two = two refl

  pub picks : {X : Type 0} {P : X → State → Type 0} (b : Bool) {r q : Form X} {s : State} → Goes r P s
      → Goes q P s → Goes (pick b r q) P s
  picks b one two = picks_by b (λ e. one) (λ e. two)

  -- ---- what is read as a whole

  -- each outcome of one token is read where each turn leads on; P holds of what is read in it
  token_by : {X : Type 0} {P : X → State → Type 0} {how : Telling} {r : Form X} {s : State} → Goes r P s
      → (y : Read (X × Span)) (k : Row Spelled) → OneToken how g (may r g) s y k
      → OneToken how g (may_onward r g) s y k × Holds (λ (x : X × Span) (t : State). P x.0 t) y
  token_by one y k (whole {x = x} {t = t} {k = k1} p) = let a = one.on (Ok (x, t)) k1 p in (whole a.0, a.1)
  token_by one y k (broken_off {f = f} p) = (broken_off (one.on (Err f) k p).0, tt)

  -- one token
  pub tokens : {X : Type 0} {P : X → State → Type 0} {how : Telling} {r : Form X} {s : State} → Goes r P s
      → Goes (token how r) (λ x t. P x.0 t) s
  tokens one = record { on = token_by one }

  -- the same of what is read with its bytes
  bytes_by : {X : Type 0} {P : X → State → Type 0} {r : Form X} {s : State} → Goes r P s
      → (y : Read (X × Spelled)) (k : Row Spelled) → WithBytes g (may r g) s y k
      → WithBytes g (may_onward r g) s y k × Holds (λ (x : X × Spelled) (t : State). P x.0 t) y
  bytes_by one y k (with_its_bytes {x = x} {t = t} p) =
      let a = one.on (Ok (x, t)) k p in (with_its_bytes a.0, a.1)
  bytes_by one y k (without_bytes {f = f} p) = (without_bytes (one.on (Err f) k p).0, tt)

  -- with its bytes
  pub with_the_bytes : {X : Type 0} {P : X → State → Type 0} {r : Form X} {s : State} → Goes r P s
      → Goes (with_bytes r) (λ x t. P x.0 t) s
  with_the_bytes one = record { on = bytes_by one }

  -- each outcome of a level of its own is read where each turn leads on
  level_by : {X : Type 0} {P : X → State → Type 0} {r : Form X} {s : State} → Goes r P (own_level s)
      → (y : Read (X × Row Span)) (k : Row Spelled) → OwnLevel (may r g) s y k
      → OwnLevel (may_onward r g) s y k × Holds (λ (x : X × Row Span) (t : State). Unit {0}) y
  level_by one y k (level_read {x = x} {t = t} p) = (level_read (one.on (Ok (x, t)) k p).0, tt)
  level_by one y k (level_stops {f = f} p) = (level_stops (one.on (Err f) k p).0, tt)

  -- a level of its own
  pub in_level : {X : Type 0} {P : X → State → Type 0} {r : Form X} {s : State} → Goes r P (own_level s)
      → Goes (a_level r) (λ x t. Unit {0}) s
  in_level one = record { on = level_by one }

  -- the same of a form in which the end of the text is another fault; P holds after it
  ending_by : {X : Type 0} {P : X → State → Type 0} {kind : FaultKind} {at : ℕ} {r : Form X} {s : State}
      → Goes r P s → (y : Read X) (k : Row Spelled)
      → Ending kind at (may r g) s y k → Ending kind at (may_onward r g) s y k × Holds P y
  ending_by one y k (goes_through {x = x} {t = t} p) =
      let a = one.on (Ok (x, t)) k p in (goes_through a.0, a.1)
  ending_by one y k (stops_inside {f = f} p) = (stops_inside (one.on (Err f) k p).0, tt)

  -- where the text ends in it, the fault is another one
  pub ending : {X : Type 0} {P : X → State → Type 0} {kind : FaultKind} {at : ℕ} {r : Form X} {s : State}
      → Goes r P s → Goes (ends_as kind at r) P s
  ending one = record { on = ending_by one }

  -- what stands in a command substitution is read as it is outside of one
  pub in_subst : {X : Type 0} {P : X → State → Type 0} {r : Form X} {s : State} → Goes r P s
      → Goes (in_substitution r) P s
  in_subst one = record { on = one.on }

  -- a change has the same outcomes; nothing is said of what it gives
  change_by : (x : Result State Fault) (y : Read (Unit {0})) (k : Row Spelled) → Changed x y k
      → Changed x y k × Holds (λ (z : Unit {0}) (t : State). Unit {0}) y
  change_by x y k (changes so) = (changes so, tt)
  change_by x y k (cannot so) = (cannot so, tt)

  -- what waits changes, or bodies are read
  pub changing : {c : Change} {s : State} → Goes (change c) (λ x t. Unit {0}) s
  changing {c = c} {s = s} = record { on = change_by (changed c g s) }

  -- ---- what follows

  -- where P holds of what is read, Q does that follows from it
  so_by : {X : Type 0} {P Q : X → State → Type 0} → ((x : X) (t : State) → P x t → Q x t) → (y : Read X)
      → Holds P y → Holds Q y
  so_by so (Ok (x, t)) one = so x t one
  so_by so (Err f) one = tt

  -- the same of what a form reads
  pub follows : {X : Type 0} {P Q : X → State → Type 0} {r : Form X} {s : State} → Goes r P s
      → ((x : X) (t : State) → P x t → Q x t) → Goes r Q s
  follows one so = record { on = λ y k part. let a = one.on y k part in (a.0, so_by so y a.1) }

  -- no form goes back
  pub ahead : {X : Type 0} {P : X → State → Type 0} {r : Form X} {s : State} → Goes r P s
      → Goes r (λ x t. P x t × (s.at ≤ t.at)) s
  ahead {P = P} {r = r} {s = s} one =
      record {
        on = λ y k part. let a = one.on y k part in
            (a.0, holds_and P (AtOrAfter s) y a.1 (read_at_or_after r g s y k part));
      }

  -- ---- repetitions

  -- what a turn gives that begins at s: where it goes on it leads on, and P holds after it; where it is the
  -- last one Q does
  abbrev pub Stepped : {A : Type 0} → (A → State → Type 0) → (A → State → Type 0) → State → Step A → State
      → Type 0
  Stepped P Q s (again a) t = (leads_on g s t ≡ true) × P a t
  Stepped P Q s (done a) t = Q a t

  -- each outcome of turns is one of turns that lead on, where P holds before each; after the last Q does
  turns_by : {A : Type 0} {P Q : A → State → Type 0} {turn : A → Form (Step A)}
      → ((a : A) (s : State) → P a s → Goes (turn a) (Stepped P Q s) s)
      → (a : A) (s : State) → P a s → (y : Read A) (k : Row Spelled) → Turns g (λ b. may (turn b) g) a s y k
      → TurnsOn g (λ b. may_onward (turn b) g) a s y k × Holds Q y
  turns_by each a s so y k (last {b = b} {t = t} p) =
      let one = (each a s so).on (Ok (done b, t)) k p in (last_on one.0, one.1)
  turns_by each a s so y k (rests {b = b} {t = t} p still) =
      let one = (each a s so).on (Ok (again b, t)) k p in absurd (both_ways (leads_on g s t) still one.1.0)
  turns_by each a s so y k (more {b = b} {t = t} {k = k1} {l = l} p on then) =
      let one = (each a s so).on (Ok (again b, t)) k1 p in
      let two = turns_by each b t one.1.1 y l then in
      (more_on one.0 on two.0, two.1)
  turns_by each a s so y k (halts {f = f} p) = (halts_on ((each a s so).on (Err f) k p).0, tt)

  -- P holds before each turn, and Q after the last
  pub repeats_until : {A : Type 0} {P Q : A → State → Type 0} {turn : A → Form (Step A)}
      → ((a : A) (s : State) → P a s → Goes (turn a) (Stepped P Q s) s)
      → (a : A) (s : State) → P a s → Goes (many turn a) Q s
  unfolding many
  repeats_until each a s so = record { on = turns_by each a s so }

  -- what a turn gives once it has led on
  abbrev pub Turned : {A : Type 0} → (A → State → Type 0) → (A → State → Type 0) → Step A → State → Type 0
  Turned P Q (again a) t = P a t
  Turned P Q (done a) t = Q a t

  -- where less is left at t than at s, a turn that ends at t or after it leads on from s
  led_by : {A : Type 0} (P Q : A → State → Type 0) (s t : State) → leads_on g s t ≡ true
      → (c : Step A) (u : State) → Turned P Q c u × (t.at ≤ u.at) → Stepped P Q s c u
  led_by P Q s t on (again a) u so = (leads_far g s s t u (omega arith) so.1 on, so.0)
  led_by P Q s t on (done a) u so = so.0

  -- a turn leads on that has led on where something of it is still to be read
  pub led_until : {A : Type 0} (P Q : A → State → Type 0) {r : Form (Step A)} (s : State) {t : State}
      → leads_on g s t ≡ true → Goes r (Turned P Q) t → Goes r (Stepped P Q s) t
  led_until P Q s {t = t} on one = follows (ahead one) (led_by P Q s t on)

  -- ---- repetitions where the same holds before and after each turn

  -- what a turn gives that begins at s, where P holds after it whether it is the last or not
  abbrev pub Steps : {A : Type 0} → (A → State → Type 0) → State → Step A → State → Type 0
  Steps P s c t = Stepped P P s c t

  -- P holds before each turn and after the last
  pub repeats : {A : Type 0} (P : A → State → Type 0) {turn : A → Form (Step A)}
      → ((a : A) (s : State) → P a s → Goes (turn a) (Steps P s) s)
      → (a : A) (s : State) → P a s → Goes (many turn a) P s
  repeats P each a s so = repeats_until {P = P} {Q = P} each a s so

  -- a turn that has led on leads on where something of it is still to be read
  pub led : {A : Type 0} (P : A → State → Type 0) {r : Form (Step A)} (s : State) {t : State}
      → leads_on g s t ≡ true → Goes r (Turned P P) t → Goes r (Steps P s) t
  led P s on one = led_until P P s on one

  -- one that goes on by a test leads on where that holds
  pub step_by : {A : Type 0} (P : A → State → Type 0) (s : State) (b : Bool) (a : A) (t : State)
      → (b ≡ true → leads_on g s t ≡ true) → P a t → Steps P s (step_if b a) t
  step_by P s true a t on so = (on refl, so)
  step_by P s false a t on so = so

  -- what ends to the right of a place
  pub beyond : {X : Type 0} {P : X → State → Type 0} {r : Form X} {s : State} (p : ℕ) → p < s.at → Goes r P s
      → Goes r (λ x t. p < t.at) s
  beyond p before one = follows (ahead one) (λ x t so. omega (arith, before, so.1))

  -- what is left is less still after what follows
  pub led_on : {X : Type 0} {P : X → State → Type 0} {r : Form X} (s : State) {t : State}
      → leads_on g s t ≡ true → Goes r P t → Goes r (λ x u. P x u × (leads_on g s u ≡ true)) t
  led_on s {t = t} on one = follows (ahead one) (λ x u so. (so.0, leads_far g s s t u (omega arith) so.1 on))

-- and where one began before
pub leads_from : (g : Given) (s t u : State) → s.at ≤ t.at → leads_on g t u ≡ true → leads_on g s u ≡ true
leads_from g s t u before on = leads_far g s t u u before (omega arith) on
