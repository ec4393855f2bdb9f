-- What holds of whatever a form gives: the laws of forms, and that no form goes back.
use Rattle.std.proofs.Common.{◌≡◌, ℕ, zero, suc, ◌-◌, ◌≤◌, ◌<◌, Bool, true, false, cond, Result, Ok, Err, List, List as Row, [], ◌∷◌, ◌++◌, length, refl, subst, arith}
use Rattle.std.proofs.lemmas.Bool.{ltb-true, cond_both}
use Rattle.shgrammar.specs.Characters.{apostrophe, number_sign}
use Rattle.shgrammar.specs.declared.keep.Keep.TheVariants.{Whole}
use Rattle.shgrammar.specs.declared.keep.Keep.{Keep}
use Rattle.shgrammar.specs.declared.fault.FaultKind.{FaultKind}
use Rattle.shgrammar.specs.declared.mode.Mode.{Mode}
use Rattle.shgrammar.specs.declared.mode.Mode.TheVariants.{Plain, Double, Brace, DoubleBrace, Arith}
use Rattle.shast.specs.declared.tree.Span.{Span}
use Rattle.shgrammar.specs.Standing.{raw_stands}
use Rattle.shgrammar.specs.Bytes.{past_byte}
use Rattle.shgrammar.specs.Comments.{span, past_comment}
use Rattle.shgrammar.specs.Pieces.{past_closer}
use Rattle.shgrammar.specs.Sights.{Given, State, Sight, seen, Move, one_byte, continuations, one_taken, the_closer, the_parameter, a_quote_on, blanks, a_comment_on, the_reserved, the_digits, to, escaped_on}
use Rattle.shgrammar.specs.HereDocuments.{Change, waits, bodies_here, changed, bodies_from, state_by, own_level, outer_level}
use Rattle.shgrammar.specs.declared.fault.Fault.{Fault}
use Rattle.shgrammar.specs.Form.{Spelled, raw, nothing_read, change, with_bytes, a_level, Read, ◌▸◌, Form, give, see, move, push, stop, both, when, Telling, token, loop, many, ends_as, with_end, Step, again, done, leads_on, moved_on, turns, does, in_substitution, inside}
use Rattle.shgrammar.specs.Commands.{pick, unexpected}
use Rattle.shgrammar.specs.Words.{Inner}
use Rattle.shgrammar.proofs.Stretches.{place_low}
use Rattle.shgrammar.proofs.Places.{after_low, blanks_low, next_newline_low, next_of_low, parameter_low, reserved_low, digits_low, next_escaped_low, taken_low}
use Rattle.shgrammar.proofs.Delimiters.{bodies_low}
use Rattle.shgrammar.proofs.Turns.{turns_on, turns_rest, turns_done, turns_fault}
use Rattle.shgrammar.specs.declared.token.Next.{Next}

-- P holds of what is read and of the state after it; of a fault nothing is said
abbrev pub Holds : {X : Type 0} → (X → State → Type 0) → Read X → Type 0
Holds P (Ok (x, t)) = P x t
Holds P (Err f) = Unit {0}

-- what holds of what is read, and then of the rest
pub holds_then : {X Y : Type 0} (P : X → State → Type 0) (Q : Y → State → Type 0) (x : Read X) (f : X → State → Read Y)
    → Holds P x
    → ((c : X) (t : State) → P c t → Holds Q (f c t)) → Holds Q (x ▸ f)
holds_then P Q (Ok (c, t)) f one rest = rest c t one
holds_then P Q (Err e) f one rest = tt

-- what follows from it
pub holds_so : {X : Type 0} (P Q : X → State → Type 0) (x : Read X) → Holds P x → ((c : X) (t : State) → P c t → Q c t)
    → Holds Q x
holds_so P Q (Ok (c, t)) one so = so c t one
holds_so P Q (Err e) one so = tt

-- two facts at once
pub holds_and : {X : Type 0} (P Q : X → State → Type 0) (x : Read X) → Holds P x → Holds Q x
    → Holds (λ a t. P a t × Q a t) x
holds_and P Q (Ok (a, t)) one two = (one, two)
holds_and P Q (Err f) one two = tt

module _ (keep : Keep) (g : Given) where
  -- of what the form r gives from s on
  pub record Tells {X : Type 0} (r : Form X) (P : X → State → Type 0) (s : State) : Type 0 where
    pub told : Holds P (does r keep g s)

  -- this is given
  pub tells_give : {X : Type 0} {x : X} {P : X → State → Type 0} {s : State} → P x s → Tells (give x) P s
  tells_give so = record { told = so }

  -- one form and then another
  pub tells_then : {X Y : Type 0} {P : X → State → Type 0} {Q : Y → State → Type 0} {r : Form X} {q : X → Form Y}
      {s : State} → Tells r P s
      → ((a : X) (t : State) → P a t → Tells (q a) Q t) → Tells (both r q) Q s
  tells_then {P = P} {Q = Q} {r = r} {q = q} {s = s} first rest =
      record {
        told = holds_then P Q (does r keep g s) (λ a t. does (q a) keep g t) first.told
            (λ a t so. (rest a t so).told);
      }

  -- one outcome or the other, by a test
  when_by : {X : Type 0} (P : X → State → Type 0) (test : Bool) (x y : Read X) → Holds P x → Holds P y →
      Holds P (cond test x y)
  when_by P true x y one two = one
  when_by P false x y one two = two

  -- one form or another
  pub tells_when : {X : Type 0} {P : X → State → Type 0} {f : Sight Bool} {r q : Form X} {s : State} → Tells r P s →
      Tells q P s → Tells (when f r q) P s
  tells_when {P = P} {f = f} {s = s} one two = record { told = when_by P (seen f g s) _ _ one.told two.told }

  -- what was read, with its span
  token_by : {X : Type 0} (P : X → State → Type 0) (Q : X × Span → State → Type 0) (s : State) (x : Read X) → Holds P x
      → ((a : X) (t : State) → P a t → Q (a, span g.offset s.at t.at) t) →
      Holds Q (x ▸ λ a t. Ok ((a, span g.offset s.at t.at), t))
  token_by P Q s (Ok (a, t)) one so = so a t one
  token_by P Q s (Err f) one so = tt

  -- one token
  pub tells_token : {X : Type 0} {P : X → State → Type 0} {Q : X × Span → State → Type 0} {how : Telling} {r : Form X}
      {s : State} → Tells r P s
      → ((a : X) (t : State) → P a t → Q (a, span g.offset s.at t.at) t) → Tells (token how r) Q s
  tells_token {P = P} {Q = Q} {r = r} {s = s} one so = record { told = token_by P Q s (does r keep g s) one.told so }

  -- where the text ends in it, the fault is another one
  ending_by : {X : Type 0} (P : X → State → Type 0) (kind : FaultKind) (at : ℕ) (x : Read X) → Holds P x →
      Holds P (with_end kind at x)
  ending_by P kind at (Ok (a, t)) one = one
  ending_by P kind at (Err f) one = tt

  pub tells_ending : {X : Type 0} {P : X → State → Type 0} {kind : FaultKind} {at : ℕ} {r : Form X} {s : State} →
      Tells r P s → Tells (ends_as kind at r) P s
  tells_ending {P = P} {kind = kind} {at = at} {r = r} {s = s} one =
      record { told = ending_by P kind at (does r keep g s) one.told }

  -- what waits changes, or the bodies are read
  change_by : (P : Unit {0} → State → Type 0) (x : Result State Fault) → ((t : State) → x ≡ Ok t → P tt t) →
      Holds P (nothing_read x)
  change_by P (Ok t) so = so t refl
  change_by P (Err f) so = tt

  pub tells_change : {P : Unit {0} → State → Type 0} {c : Change} {s : State} →
      ((t : State) → changed c g s ≡ Ok t → P tt t) → Tells (change c) P s
  tells_change {P = P} {c = c} {s = s} so = record { told = change_by P (changed c g s) so }

  -- what is read, with its bytes
  bytes_by : {X : Type 0} (P : X → State → Type 0) (Q : X × Spelled → State → Type 0) (s : State) (x : Read X) →
      Holds P x
      → ((a : X) (t : State) → P a t → Q (a, raw g.text s.at t.at) t) →
      Holds Q (x ▸ λ a t. Ok ((a, raw g.text s.at t.at), t))
  bytes_by P Q s (Ok (a, t)) one so = so a t one
  bytes_by P Q s (Err f) one so = tt

  pub tells_with_bytes : {X : Type 0} {P : X → State → Type 0} {Q : X × Spelled → State → Type 0} {r : Form X}
      {s : State} → Tells r P s
      → ((a : X) (t : State) → P a t → Q (a, raw g.text s.at t.at) t) → Tells (with_bytes r) Q s
  tells_with_bytes {P = P} {Q = Q} {r = r} {s = s} one so =
      record { told = bytes_by P Q s (does r keep g s) one.told so }

  -- a level of its own
  level_by : {X : Type 0} (P : X → State → Type 0) (Q : X × Row Span → State → Type 0) (s : State) (x : Read X) →
      Holds P x
      → ((a : X) (t : State) → P a t → Q (a, t.bodies) (outer_level s t)) →
      Holds Q (x ▸ λ a t. Ok ((a, t.bodies), outer_level s t))
  level_by P Q s (Ok (a, t)) one so = so a t one
  level_by P Q s (Err f) one so = tt

  pub tells_level : {X : Type 0} {P : X → State → Type 0} {Q : X × Row Span → State → Type 0} {r : Form X} {s : State} →
      Tells r P (own_level s)
      → ((a : X) (t : State) → P a t → Q (a, t.bodies) (outer_level s t)) → Tells (a_level r) Q s
  tells_level {P = P} {Q = Q} {r = r} {s = s} one so =
      record { told = level_by P Q s (does r keep g (own_level s)) one.told so }

  -- what a turn gives: R where it goes on, and Q where it was the last
  abbrev pub Stepped : {A : Type 0} → (A → State → Type 0) → (A → State → Type 0) → Step A → State → Type 0
  Stepped R Q (again a) t = R a t
  Stepped R Q (done a) t = Q a t

  -- the same of both
  abbrev pub Turned : {A : Type 0} → (A → State → Type 0) → Step A → State → Type 0
  Turned P c t = Stepped P P c t

  module _ {A : Type 0} (turn : A → Form (Step A)) (P R Q : A → State → Type 0)
      (each : (a : A) (s : State) → P a s → Tells (turn a) (Stepped R Q) s)
      (goes : (a : A) (s : State) → R a s → P a s) (ends : (a : A) (s : State) → R a s → Q a s) where
    -- what a turn gives
    f : A → State → Read (Step A)
    f a s = does (turn a) keep g s

    -- Q holds at the end, by what the first turn gives, and then of all turns
    turn_by : (a : A) (s : State) (x : Read (Step A)) → f a s ≡ x → Holds (Stepped R Q) x
        → ((b : A) (t : State) → length g.text - t.at < length g.text - s.at → P b t → Holds Q (turns g f b t)) →
        Holds Q (turns g f a s)
    turn_by a s (Ok (done b, t)) is good rest = rw (turns_done g f a b s t is) good
    turn_by a s (Ok (again b, t)) is good rest = on (leads_on g s t) refl
      where
        on : (c : Bool) → leads_on g s t ≡ c → Holds Q (turns g f a s)
        on true e = rw (turns_on g f a b s t is e) (rest b t (ltb-true _ _ e) (goes b t good))
        on false e = rw (turns_rest g f a b s t is e) (ends b t good)
    turn_by a s (Err e) is good rest = rw (turns_fault g f a s e is) tt

    turns_hold : (n : ℕ) (a : A) (s : State) → length g.text - s.at < n → P a s → Holds Q (turns g f a s)
    unfolding f
    turns_hold zero a s low so = absurd (omega arith)
    turns_hold (suc n) a s low so =
        turn_by a s (f a s) refl (each a s so).told
        (λ b t less there. turns_hold n b t (omega (arith, less, low)) there)

    -- a repetition: P holds before each turn, and Q after the last
    pub tells_until : (a : A) (s : State) → P a s → Tells (many turn a) Q s
    unfolding f many
    tells_until a s so = record { told = turns_hold (suc (length g.text - s.at)) a s (omega arith) so }

  module _ {A : Type 0} (turn : A → Form (Step A)) (P : A → State → Type 0)
      (each : (a : A) (s : State) → P a s → Tells (turn a) (Turned P) s) where
    -- P holds before and after each turn
    pub tells_many : (a : A) (s : State) → P a s → Tells (many turn a) P s
    tells_many a s so = tells_until turn P P P each (λ b t good. good) (λ b t good. good) a s so

    pub tells_loop : (a : A) (s : State) → P a s → Tells (loop turn a) P s
    unfolding many
    tells_loop a s so = record { told = (tells_many a s so).told }

  -- what follows
  pub tells_so : {X : Type 0} {P Q : X → State → Type 0} {r : Form X} {s : State} → Tells r P s →
      ((a : X) (t : State) → P a t → Q a t) → Tells r Q s
  tells_so {P = P} {Q = Q} {r = r} {s = s} one so = record { told = holds_so P Q (does r keep g s) one.told so }

  -- nothing is said
  any_read : {X : Type 0} (y : Read X) → Holds (λ x t. Unit {0}) y
  any_read (Ok (x, t)) = tt
  any_read (Err f) = tt

  pub tells_any : {X : Type 0} {r : Form X} {s : State} → Tells r (λ x t. Unit {0}) s
  tells_any {r = r} {s = s} = record { told = any_read (does r keep g s) }

  -- what the first form gives may be anything
  pub tells_after : {X Y : Type 0} {Q : Y → State → Type 0} {r : Form X} {q : X → Form Y} {s : State} →
      ((x : X) (t : State) → Tells (q x) Q t) → Tells (both r q) Q s
  tells_after {r = r} {s = s} rest = tells_then {r = r} {s = s} tells_any (λ x t so. rest x t)

  -- what is seen, and then the rest
  pub tells_seen : {X Y : Type 0} {Q : Y → State → Type 0} {f : Sight X} {q : X → Form Y} {s : State} →
      Tells (q (seen f g s)) Q s → Tells (both (see f) q) Q s
  tells_seen rest = record { told = rest.told }

  -- on to another place, and then the rest
  pub tells_moved : {Y : Type 0} {Q : Y → State → Type 0} {m : Move} {q : Unit {0} → Form Y} {s : State} →
      Tells (q tt) Q (moved_on m g s) → Tells (both (move m) q) Q s
  tells_moved rest = record { told = rest.told }

-- what stands in a command substitution
pub tells_inside : (keep : Keep) (g : Given) {X : Type 0} {P : X → State → Type 0} {r : Form X} {s : State} →
    Tells (inside keep) g r P s → Tells keep g (in_substitution r) P s
tells_inside keep g one = record { told = one.told }

-- one more element of the tree, and then the rest
pub tells_pushed : (g : Given) {A Y : Type 0} {Q : Y → State → Type 0} {xs : Row A} {x : A} {q : Row A → Form Y}
    {s : State} → Tells Whole g (q (xs ++ x ∷ [])) Q s
    → Tells Whole g (both (push xs x) q) Q s
tells_pushed g rest = record { told = rest.told }

-- ---- what a form gives with its tree, the text left to be inferred

module _ {g : Given} where
  -- this is given
  pub gives : {X : Type 0} {x : X} {P : X → State → Type 0} {s : State} → P x s → Tells Whole g (give x) P s
  gives so = tells_give Whole g so

  -- what the first form gives may be anything
  pub after : {X Y : Type 0} {Q : Y → State → Type 0} {r : Form X} {q : X → Form Y} {s : State} →
      ((x : X) (t : State) → Tells Whole g (q x) Q t) → Tells Whole g (both r q) Q s
  after rest = tells_after Whole g rest

  -- what is seen, and then the rest
  pub sees : {X Y : Type 0} {Q : Y → State → Type 0} {f : Sight X} {q : X → Form Y} {s : State} →
      Tells Whole g (q (seen f g s)) Q s → Tells Whole g (both (see f) q) Q s
  sees rest = tells_seen Whole g rest

  -- one more element of the tree, and then the rest
  pub pushed_on : {A Y : Type 0} {Q : Y → State → Type 0} {xs : Row A} {x : A} {q : Row A → Form Y} {s : State} →
      Tells Whole g (q (xs ++ x ∷ [])) Q s → Tells Whole g (both (push xs x) q) Q s
  pushed_on rest = tells_pushed g rest

  -- one form, or another
  pub picked : {X : Type 0} {P : X → State → Type 0} (b : Bool) {r q : Form X} {s : State} → Tells Whole g r P s →
      Tells Whole g q P s → Tells Whole g (pick b r q) P s
  picked true one two = one
  picked false one two = two

  -- one form, where a test holds, or another
  pub picked_by : {X : Type 0} {P : X → State → Type 0} (b : Bool) {r q : Form X} {s : State} →
      (b ≡ true → Tells Whole g r P s) → Tells Whole g q P s → Tells Whole g (pick b r q) P s
  picked_by true one two = one refl
  picked_by false one two = two

  -- where a row stops, nothing is said
  pub stops : {X : Type 0} {P : X → State → Type 0} (inner : Inner) (n : Next) {s : State} →
      Tells Whole g (unexpected {X = X} inner n) P s
  stops inner n = tells_after Whole g (λ w t. record { told = tt })

-- ---- no form goes back

-- past what closes a construct, and past a comment
closer_low : (mode : Mode) (T : List ℕ) (p : ℕ) → p ≤ past_closer T mode p
closer_low Plain T p = omega arith
closer_low Double T p = omega (arith, after_low T p)
closer_low Brace T p = omega (arith, after_low T p)
closer_low DoubleBrace T p = omega (arith, after_low T p)
closer_low Arith T p = omega (arith, after_low T p, after_low T (past_byte T p))

comment_low : (T : List ℕ) (p : ℕ) → p ≤ past_comment T p
unfolding past_comment
comment_low T p = cond_both (raw_stands T p number_sign) _ _ (λ n. p ≤ n) (λ e. next_newline_low T p) (λ e. omega arith)

-- so no move goes back
pub move_low : (m : Move) (T : List ℕ) (p : ℕ) → p ≤ to m T p
move_low one_byte T p = omega (arith, after_low T p)
move_low continuations T p = place_low T p
move_low one_taken T p = omega (arith, taken_low T p)
move_low (the_closer mode) T p = closer_low mode T p
move_low the_parameter T p = parameter_low T p
move_low a_quote_on T p = next_of_low apostrophe T p
move_low (escaped_on how) T p = next_escaped_low how T p
move_low blanks T p = blanks_low T p
move_low a_comment_on T p = comment_low T p
move_low the_reserved T p = reserved_low T p
move_low the_digits T p = digits_low T p

-- the state after bodies does not go back, where their end does not
state_low : (s t : State) (x : Result (Row Span × ℕ) Fault) → ((y : Row Span × ℕ) → x ≡ Ok y → s.at ≤ y.1) →
    state_by x ≡ Ok t → s.at ≤ t.at
state_low s t (Ok y) low is = let same : record { at = y.1; waiting = []; bodies = y.0 } ≡ t = cc in
    subst (λ (u : State). s.at ≤ u.at) same (low y refl)
state_low s t (Err f) low is = absurd cc

-- nor does the newline before bodies
pub change_low : (c : Change) (g : Given) (s t : State) → changed c g s ≡ Ok t → s.at ≤ t.at
change_low (waits w) g s t is = let same : record { at = s.at; waiting = s.waiting ++ w ∷ []; bodies = s.bodies } ≡ t =
    cc in subst (λ (u : State). s.at ≤ u.at) same (omega arith)
change_low bodies_here g s t is =
    state_low s t (bodies_from g s.waiting s.bodies s.at) (λ y read. bodies_low g s.waiting s.bodies s.at y read) is

-- what is read ends where this state stands, or after that
abbrev pub AtOrAfter : {X : Type 0} → State → X → State → Type 0
AtOrAfter s x t = s.at ≤ t.at

-- so it is of each form
pub no_form_goes_back : {X : Type 0} (r : Form X) (keep : Keep) (g : Given) (s : State) → Tells keep g r (AtOrAfter s) s
no_form_goes_back (give x) keep g s = record { told = omega arith }
no_form_goes_back (see f) keep g s = record { told = omega arith }
no_form_goes_back (move m) keep g s = record { told = move_low m g.text s.at }
no_form_goes_back (push xs x) keep g s = record { told = omega arith }
no_form_goes_back (stop kind at) keep g s = record { told = tt }
no_form_goes_back (both r q) keep g s = tells_then keep g (no_form_goes_back r keep g s)
    (λ a t on. tells_so keep g (no_form_goes_back (q a) keep g t) (λ b u more. omega (arith, on, more)))
no_form_goes_back (when f r q) keep g s =
    tells_when keep g (no_form_goes_back r keep g s) (no_form_goes_back q keep g s)
no_form_goes_back (token how r) keep g s = tells_token keep g (no_form_goes_back r keep g s) (λ a t on. on)
no_form_goes_back {X = X} (loop turn a) keep g s =
    tells_loop keep g turn (AtOrAfter s)
    (λ b t on. tells_so keep g (no_form_goes_back (turn b) keep g t) (turned t on)) a s
    (omega arith)
  where
    turned : (t : State) → s.at ≤ t.at → (c : Step X) (u : State) → t.at ≤ u.at → Turned keep g (AtOrAfter s) c u
    turned t on (again c) u more = omega (arith, on, more)
    turned t on (done c) u more = omega (arith, on, more)
no_form_goes_back (ends_as kind at r) keep g s = tells_ending keep g (no_form_goes_back r keep g s)
no_form_goes_back (change c) keep g s = tells_change keep g (λ t is. change_low c g s t is)
no_form_goes_back (with_bytes r) keep g s = tells_with_bytes keep g (no_form_goes_back r keep g s) (λ a t on. on)
no_form_goes_back (a_level r) keep g s = tells_level keep g (no_form_goes_back r keep g (own_level s)) (λ a t on. on)
no_form_goes_back (in_substitution r) keep g s = tells_inside keep g (no_form_goes_back r (inside keep) g s)
