-- A form goes the same way in a text that stands elsewhere, and what it reads there is moved.
--
-- What each form reads is named by what the same form reads by itself: c says how, and
-- P what is known of that besides.
use Rattle.std.proofs.Common.{◌≡◌, ℕ, zero, suc, ◌+◌, ◌-◌, ◌<◌, ◌≤◌, Bool, true, false, cond, Result, Ok, Err, List, List as Row, [], ◌∷◌, ◌++◌, map, length, Option, Some, None, option_map, refl, sym, ap, subst, ◌∙◌, arith}
use Rattle.std.proofs.lemmas.Bool.{ltb-true}
use Rattle.std.proofs.lemmas.List.{map-append}
use Rattle.shgrammar.specs.Characters.{number_sign}
use Rattle.shgrammar.specs.declared.keep.Keep.{Keep}
use Rattle.shgrammar.specs.declared.keep.Keep.TheVariants.{Outer, Whole}
use Rattle.shgrammar.specs.declared.fault.Fault.{Fault}
use Rattle.shgrammar.specs.declared.fault.FaultKind.{FaultKind}
use Rattle.shgrammar.specs.declared.fault.FaultKind.TheVariants.{UnexpectedEnd}
use Rattle.shast.specs.declared.tree.Span.{Span}
use Rattle.shast.specs.Nodes.{placed_span}
use Rattle.shgrammar.specs.Standing.{raw_stands, next_newline, before_blanks}
use Rattle.shgrammar.specs.Bytes.{past_byte}
use Rattle.shgrammar.specs.Comments.{span, comment_at}
use Rattle.shgrammar.specs.Sights.{Given, given, State, Waiting, Sight, seen, here, the_byte, the_comment, a_document_waits, Move, one_byte}
use Rattle.shgrammar.specs.HereDocuments.{rest_of_line, past_line, takes_newline, delimiter_below, delimiter_on, delimiter_from, body_by, bodies_from, state_by, first_waiting, waits, bodies_here, own_level, outer_level}
use Rattle.shgrammar.specs.Form.{raw, nothing_read, change, with_bytes, a_level, Spelled, Telling, Read, ◌▸◌, Form, give, see, move, push, stop, both, when, token, many, ends_as, with_end, ended, ended_by, Step, again, done, leads_on, turns, does, moved_on, grows}
use Rattle.shast.specs.Moved.{placed_body}
use Rattle.shast.proofs.MovedOver.{body_read}
use Rattle.shgrammar.specs.Moved.{moved_fault, moved_waiting, moved_state}
use Rattle.shgrammar.specs.Commands.{pick}
use Rattle.shgrammar.proofs.Turns.{turns_on, turns_rest, turns_done, turns_fault, Stepped}
use Rattle.shgrammar.proofs.Places.{next_newline_low}
use Rattle.shgrammar.proofs.Delimiters.{delimiter_between}
use Rattle.shgrammar.specs.declared.edition.Edition.{Edition}

-- a text, the offset of its first byte, and how much further it stands the other time
pub record Place : Type 0 where
  pub text : List ℕ
  pub offset : ℕ
  pub edition : Edition
  pub base : ℕ
  -- whether the trees in command substitutions are kept there
  pub deep : Bool

-- what is given of it where it stands by itself, and where it stands elsewhere
abbrev pub by_itself : Place → Given
by_itself z = given z.edition z.text z.offset

abbrev pub elsewhere : Place → Given
elsewhere z = given z.edition z.text (z.base + z.offset)

-- what is kept there
abbrev pub kept : Bool → Keep
kept true = Whole
kept false = Outer

-- with these trees or without, rows of the tree grow there
pub kept_grows : (deep : Bool) → grows (kept deep) ≡ true
kept_grows true = refl
kept_grows false = refl

-- ---- how what is read is moved

-- nothing more is known, and nothing is moved
abbrev pub Any : {X : Type 0} → X → Type 0
Any x = Unit {0}

abbrev pub same : {X : Type 0} → X → X
same x = x

-- both parts of a pair are moved, or the first alone; and what is known of that
abbrev pub each : {X Y : Type 0} → (X → X) → (Y → Y) → X × Y → X × Y
each c d x = (c x.0, d x.1)

abbrev pub on_first : {X Y : Type 0} → (X → X) → X × Y → X × Y
on_first c x = (c x.0, x.1)

abbrev pub of_first : {X Y : Type 0} → (X → Type 0) → X × Y → Type 0
of_first P x = P x.0

-- the same of what a turn gives
abbrev pub step : {A : Type 0} → (A → A) → Step A → Step A
step c (again a) = again (c a)
step c (done a) = done (c a)

-- the second gives c of what the first gives, in its state moved; or it stops with its fault moved
abbrev pub Like : {X : Type 0} → ℕ → (X → X) → (X → Type 0) → Read X → Read X → Type 0
Like k c P (Ok (x, s)) (Ok (y, t)) = (y ≡ c x) × (t ≡ moved_state k s) × P x
Like k c P (Ok (x, s)) (Err f) = ⊥
Like k c P (Err e) (Ok (y, t)) = ⊥
Like k c P (Err e) (Err f) = f ≡ moved_fault k e

-- r by itself, and q elsewhere
pub record Moves (z : Place) {X : Type 0} (c : X → X) (P : X → Type 0) (r q : Form X) : Type 0 where
  pub like : (s : State) → Like z.base c P (does r Whole (by_itself z) s)
      (does q (kept z.deep) (elsewhere z) (moved_state z.base s))

-- ---- the laws

-- what is given, a move, and a fault
pub moves_give : {z : Place} {X : Type 0} {c : X → X} {P : X → Type 0} {x y : X} → y ≡ c x → P x →
    Moves z c P (give x) (give y)
moves_give is so = record { like = λ s. (is, refl, so) }

pub moves_move : {z : Place} {m : Move} → Moves z same Any (move m) (move m)
moves_move = record { like = λ s. (refl, refl, tt) }

pub moves_stop : {z : Place} {X : Type 0} {c : X → X} {P : X → Type 0} {kind : FaultKind} {at : ℕ} →
    Moves z c P (stop kind at) (stop kind (z.base + at))
moves_stop = record { like = λ s. refl }

-- more is known than is asked for
pub moves_so : {z : Place} {X : Type 0} {c : X → X} {P Q : X → Type 0} {r q : Form X} → ((x : X) → P x → Q x) →
    Moves z c P r q → Moves z c Q r q
moves_so {z = z} {c = c} {P = P} {Q = Q} {r = r} {q = q} so one =
    record {
      like = λ s. by (does r Whole (by_itself z) s) (does q (kept z.deep) (elsewhere z) (moved_state z.base s))
          (one.like s);
    }
  where
    by : (x y : Read _) → Like z.base c P x y → Like z.base c Q x y
    by (Ok (x, s)) (Ok (y, t)) like = (like.0, like.1, so x like.2)
    by (Ok (x, s)) (Err e) like = absurd like
    by (Err e) (Ok (y, t)) like = absurd like
    by (Err e) (Err f) like = like

module _ {z : Place} {X Y : Type 0} (c : X → X) (P : X → Type 0) (d : Y → Y) (Q : Y → Type 0) (f h : X → Form Y)
    (rest : (x : X) → P x → Moves z d Q (f x) (h (c x))) where
  -- what follows, after what was read by itself and elsewhere
  then_like : (x y : Read X) → Like z.base c P x y
      → Like z.base d Q (x ▸ λ a t. does (f a) Whole (by_itself z) t)
      (y ▸ λ b t. does (h b) (kept z.deep) (elsewhere z) t)
  then_like (Ok (x, s)) (Ok (y, t)) like = rw (like.0, like.1) ((rest x like.2).like s)
  then_like (Ok (x, s)) (Err e) like = absurd like
  then_like (Err e) (Ok (y, t)) like = absurd like
  then_like (Err e) (Err f') like = like

-- one form and then another
pub moves_then : {z : Place} {X Y : Type 0} {c : X → X} {P : X → Type 0} {d : Y → Y} {Q : Y → Type 0} {r q : Form X}
    {f h : X → Form Y} → Moves z c P r q
    → ((x : X) → P x → Moves z d Q (f x) (h (c x))) → Moves z d Q (both r f) (both q h)
moves_then {z = z} {c = c} {P = P} {d = d} {Q = Q} {r = r} {q = q} {f = f} {h = h} one rest =
    record {
      like = λ s. then_like c P d Q f h rest (does r Whole (by_itself z) s)
          (does q (kept z.deep) (elsewhere z) (moved_state z.base s)) (one.like s);
    }

-- what is seen tells no offset
pub moves_see : {z : Place} {V Y : Type 0} {d : Y → Y} {Q : Y → Type 0} {l : Sight V} {f h : V → Form Y} →
    ((s : State) → seen l (by_itself z) s ≡ seen l (elsewhere z) (moved_state z.base s))
    → ((v : V) → Moves z d Q (f v) (h v)) → Moves z d Q (both (see l) f) (both (see l) h)
moves_see {z = z} {d = d} {Q = Q} {l = l} {f = f} {h = h} still rest =
    record {
      like = λ s. subst (λ v. Like z.base d Q (does (f (seen l (by_itself z) s)) Whole (by_itself z) s)
          (does (h v) (kept z.deep) (elsewhere z) (moved_state z.base s))) (still s)
          ((rest (seen l (by_itself z) s)).like s);
    }

-- what is seen is moved
pub moves_seen : {z : Place} {V Y : Type 0} {d : Y → Y} {Q : Y → Type 0} {l : Sight V} {f h : V → Form Y} (c : V → V) →
    ((s : State) → c (seen l (by_itself z) s) ≡ seen l (elsewhere z) (moved_state z.base s))
    → ((v : V) → Moves z d Q (f v) (h (c v))) → Moves z d Q (both (see l) f) (both (see l) h)
moves_seen {z = z} {d = d} {Q = Q} {l = l} {f = f} {h = h} c is rest =
    record {
      like = λ s. subst (λ v. Like z.base d Q (does (f (seen l (by_itself z) s)) Whole (by_itself z) s)
          (does (h v) (kept z.deep) (elsewhere z) (moved_state z.base s))) (is s)
          ((rest (seen l (by_itself z) s)).like s);
    }

-- an offset that is seen
add_all : (k o p : ℕ) → k + (o + p) ≡ k + o + p
add_all k o p = omega arith

pub moves_here : {z : Place} {Y : Type 0} {d : Y → Y} {Q : Y → Type 0} {f h : ℕ → Form Y} →
    ((p : ℕ) → Moves z d Q (f p) (h (z.base + p))) → Moves z d Q (both (see here) f) (both (see here) h)
moves_here {z = z} rest = moves_seen (λ (p : ℕ). z.base + p) (λ s. add_all z.base z.offset _) rest

pub moves_byte : {z : Place} {Y : Type 0} {d : Y → Y} {Q : Y → Type 0} {f h : ℕ → Form Y} →
    ((p : ℕ) → Moves z d Q (f p) (h (z.base + p))) → Moves z d Q (both (see the_byte) f) (both (see the_byte) h)
moves_byte {z = z} rest = moves_seen (λ (p : ℕ). z.base + p) (λ s. add_all z.base z.offset _) rest

-- a span is moved with the text, and so is that of a comment that is seen
span_moved : (k o p q : ℕ) → placed_span k (span o p q) ≡ span (k + o) p q
span_moved k o p q = rw (add_all k o p, add_all k o q) refl

comment_by : (k o p q : ℕ) (b : Bool) →
    option_map (placed_span k) (cond b (Some (span o p q)) None) ≡ cond b (Some (span (k + o) p q)) None
comment_by k o p q true = ap (λ (s : Span). Some s) (span_moved k o p q)
comment_by k o p q false = refl

comment_moved : (T : List ℕ) (k o p : ℕ) → option_map (placed_span k) (comment_at T o p) ≡ comment_at T (k + o) p
unfolding comment_at
comment_moved T k o p = comment_by k o p (before_blanks T (next_newline T p)) (raw_stands T p number_sign)

pub moves_see_comment : {z : Place} {Y : Type 0} {d : Y → Y} {Q : Y → Type 0} {f h : Option Span → Form Y} →
    ((c : Option Span) → Moves z d Q (f c) (h (option_map (placed_span z.base) c)))
    → Moves z d Q (both (see the_comment) f) (both (see the_comment) h)
moves_see_comment {z = z} rest =
    moves_seen (option_map (placed_span z.base)) (λ s. comment_moved z.text z.base z.offset s.at) rest

-- so is the operator of the first document that waits
first_moved : (k : ℕ) (s : State) → option_map (λ (p : ℕ). k + p) (first_waiting s) ≡ first_waiting (moved_state k s)
first_moved k s = by s.waiting
  where
    by : (ws : Row Waiting) → option_map (λ (p : ℕ). k + p) (first_waiting (record s { waiting = ws }))
        ≡ first_waiting (moved_state k (record s { waiting = ws }))
    by [] = refl
    by (w ∷ ws) = refl

pub moves_see_waiting : {z : Place} {Y : Type 0} {d : Y → Y} {Q : Y → Type 0} {f h : Option ℕ → Form Y} →
    ((w : Option ℕ) → Moves z d Q (f w) (h (option_map (λ (p : ℕ). z.base + p) w)))
    → Moves z d Q (both (see a_document_waits) f) (both (see a_document_waits) h)
moves_see_waiting {z = z} rest = moves_seen (option_map (λ (p : ℕ). z.base + p)) (λ s. first_moved z.base s) rest

-- on, and then the rest
pub moves_on : {z : Place} {Y : Type 0} {d : Y → Y} {Q : Y → Type 0} {m : Move} {f h : Unit {0} → Form Y} →
    Moves z d Q (f tt) (h tt) → Moves z d Q (both (move m) f) (both (move m) h)
moves_on {z = z} {m = m} rest = record { like = λ s. rest.like (moved_on m (by_itself z) s) }

module _ {A : Type 0} (c : A → A) where
  -- one more element, and then the rest
  pub moves_pushed : {z : Place} {Y : Type 0} {d : Y → Y} {Q : Y → Type 0} {xs ys : Row A} {x y : A}
      {f h : Row A → Form Y} → ys ≡ map c xs → y ≡ c x → Moves z d Q (f (xs ++ x ∷ [])) (h (map c (xs ++ x ∷ [])))
      → Moves z d Q (both (push xs x) f) (both (push ys y) h)
  moves_pushed {z = z} {d = d} {Q = Q} {xs = xs} {x = x} {f = f} {h = h} rows is rest =
      let all = map-append c xs (x ∷ []) in
      record { like = λ s. rw (kept_grows z.deep, rows, is, ← all) (rest.like s) }

  -- one more element, as all that is read
  pub moves_push : {z : Place} {P : Row A → Type 0} {xs ys : Row A} {x y : A} → ys ≡ map c xs → y ≡ c x →
      P (xs ++ x ∷ []) → Moves z (map c) P (push xs x) (push ys y)
  moves_push {z = z} {xs = xs} {x = x} rows is so =
      let all = map-append c xs (x ∷ []) in
      record { like = λ s. (rw (kept_grows z.deep, rows, is, ← all) refl, refl, so) }

-- one form, or the other
pub moves_pick_by : {z : Place} {X : Type 0} {c : X → X} {P : X → Type 0} {r u q v : Form X} (b : Bool) →
    (b ≡ true → Moves z c P r q) → (b ≡ false → Moves z c P u v) → Moves z c P (pick b r u) (pick b q v)
moves_pick_by true one two = one refl
moves_pick_by false one two = two refl

pub moves_pick : {z : Place} {X : Type 0} {c : X → X} {P : X → Type 0} {r u q v : Form X} (b : Bool) → Moves z c P r q →
    Moves z c P u v → Moves z c P (pick b r u) (pick b q v)
moves_pick b one two = moves_pick_by b (λ e. one) (λ e. two)

-- one form or the other by what is seen, which tells no offset
when_like : {X : Type 0} (k : ℕ) (c : X → X) (P : X → Type 0) (a b : Bool) → a ≡ b → (x u y v : Read X) → Like k c P x y
    → Like k c P u v → Like k c P (cond a x u) (cond b y v)
when_like k c P true true is x u y v one two = one
when_like k c P true false is x u y v one two = absurd cc
when_like k c P false true is x u y v one two = absurd cc
when_like k c P false false is x u y v one two = two

pub moves_when : {z : Place} {X : Type 0} {c : X → X} {P : X → Type 0} {l : Sight Bool} {r u q v : Form X} →
    ((s : State) → seen l (by_itself z) s ≡ seen l (elsewhere z) (moved_state z.base s))
    → Moves z c P r q → Moves z c P u v → Moves z c P (when l r u) (when l q v)
moves_when {z = z} {c = c} {P = P} still one two =
    record { like = λ s. when_like z.base c P _ _ (still s) _ _ _ _ (one.like s) (two.like s) }

-- one token, with its span
token_like : {X : Type 0} (k o : ℕ) (c : X → X) (P : X → Type 0) (s : State) (x y : Read X) → Like k c P x y
    → Like k (each c (placed_span k)) (of_first P) (x ▸ λ a t. Ok ((a, span o s.at t.at), t))
    (y ▸ λ b t. Ok ((b, span (k + o) s.at t.at), t))
token_like k o c P s (Ok (x, t)) (Ok (y, u)) like =
    rw (like.0, like.1) (rw (span_moved k o s.at t.at) refl, refl, like.2)
token_like k o c P s (Ok (x, t)) (Err e) like = absurd like
token_like k o c P s (Err e) (Ok (y, t)) like = absurd like
token_like k o c P s (Err e) (Err f) like = like

pub moves_token : {z : Place} {X : Type 0} {c : X → X} {P : X → Type 0} {how : Telling} {r q : Form X} → Moves z c P r q
    →
    Moves z (each c (placed_span z.base)) (of_first P) (token how r) (token how q)
moves_token {z = z} {c = c} {P = P} {r = r} {q = q} one =
    record {
      like = λ s. token_like z.base z.offset c P s (does r Whole (by_itself z) s)
          (does q (kept z.deep) (elsewhere z) (moved_state z.base s)) (one.like s);
    }

-- what is read, with the same bytes
bytes_like : {X : Type 0} (T : List ℕ) (k : ℕ) (c : X → X) (P : X → Type 0) (s : State) (x y : Read X) → Like k c P x y
    → Like k (on_first {Y = Spelled} c) (of_first P) (x ▸ λ a t. Ok ((a, raw T s.at t.at), t))
    (y ▸ λ b t. Ok ((b, raw T s.at t.at), t))
bytes_like T k c P s (Ok (x, t)) (Ok (y, u)) like = rw (like.0, like.1) (refl, refl, like.2)
bytes_like T k c P s (Ok (x, t)) (Err e) like = absurd like
bytes_like T k c P s (Err e) (Ok (y, t)) like = absurd like
bytes_like T k c P s (Err e) (Err f) like = like

pub moves_with_bytes : {z : Place} {X : Type 0} {c : X → X} {P : X → Type 0} {r q : Form X} → Moves z c P r q →
    Moves z (on_first {Y = Spelled} c) (of_first P) (with_bytes r) (with_bytes q)
moves_with_bytes {z = z} {c = c} {P = P} {r = r} {q = q} one =
    record {
      like = λ s. bytes_like z.text z.base c P s (does r Whole (by_itself z) s)
          (does q (kept z.deep) (elsewhere z) (moved_state z.base s)) (one.like s);
    }

-- what is read in a level of its own, or its fault
level_like : {X : Type 0} (k : ℕ) (c : X → X) (P : X → Type 0) (s : State) (x y : Read X) → Like k c P x y
    → Like k (each c (map (placed_body k))) (of_first P) (x ▸ λ a t. Ok ((a, t.bodies), outer_level s t))
    (y ▸ λ b t. Ok ((b, t.bodies), outer_level (moved_state k s) t))
level_like k c P s (Ok (x, t)) (Ok (y, u)) like = rw (like.0, like.1) (refl, refl, like.2)
level_like k c P s (Ok (x, t)) (Err e) like = absurd like
level_like k c P s (Err e) (Ok (y, t)) like = absurd like
level_like k c P s (Err e) (Err f) like = like

-- a level of its own, and its bodies
pub moves_level : {z : Place} {X : Type 0} {c : X → X} {P : X → Type 0} {r q : Form X} → Moves z c P r q →
    Moves z (each c (map (placed_body z.base))) (of_first P) (a_level r) (a_level q)
moves_level {z = z} {c = c} {P = P} {r = r} {q = q} one =
    record {
      like = λ s. level_like z.base c P s (does r Whole (by_itself z) (own_level s))
          (does q (kept z.deep) (elsewhere z) (own_level (moved_state z.base s))) (one.like (own_level s));
    }

-- what is another fault where the text ends in it
ended_moved : (kind : FaultKind) (k at p : ℕ) (what : FaultKind) →
    ended_by kind (k + at) (k + p) what ≡ moved_fault k (ended_by kind at p what)
ended_moved kind k at p UnexpectedEnd = refl
ended_moved kind k at p other = refl

ending_like : {X : Type 0} (k : ℕ) (c : X → X) (P : X → Type 0) (kind : FaultKind) (at : ℕ) (x y : Read X) →
    Like k c P x y → Like k c P (with_end kind at x) (with_end kind (k + at) y)
ending_like k c P kind at (Ok (x, s)) (Ok (y, t)) like = like
ending_like k c P kind at (Ok (x, s)) (Err e) like = absurd like
ending_like k c P kind at (Err e) (Ok (y, t)) like = absurd like
ending_like k c P kind at (Err e) (Err f) like = ap (ended kind (k + at)) like ∙ ended_moved kind k at e.at e.kind

pub moves_ending : {z : Place} {X : Type 0} {c : X → X} {P : X → Type 0} {kind : FaultKind} {at : ℕ} {r q : Form X} →
    Moves z c P r q → Moves z c P (ends_as kind at r) (ends_as kind (z.base + at) q)
moves_ending {z = z} {c = c} {P = P} {kind = kind} {at = at} {r = r} {q = q} one =
    record {
      like = λ s. ending_like z.base c P kind at (does r Whole (by_itself z) s)
          (does q (kept z.deep) (elsewhere z) (moved_state z.base s)) (one.like s);
    }

-- ---- turns

module _ {z : Place} {A : Type 0} (c : A → A) (S R : A → Type 0) (turn turn2 : A → Form (Step A))
    (starts : (a : A) → S a → Moves z (step c) (Stepped R) (turn a) (turn2 (c a))) (goes_on : (a : A) → R a → S a) where
  -- what is given and what a turn reads, by itself and elsewhere
  abbrev g : Given
  g = by_itself z

  abbrev h : Given
  h = elsewhere z

  one : A → State → Read (Step A)
  one a s = does (turn a) Whole g s

  two : A → State → Read (Step A)
  two a s = does (turn2 a) (kept z.deep) h s

  -- one turn, and those after it
  turn_like : (a : A) (s : State) (x y : Read (Step A)) → one a s ≡ x → two (c a) (moved_state z.base s) ≡ y →
      Like z.base (step c) (Stepped R) x y
      → ((b : A) (t : State) → length z.text - t.at < length z.text - s.at → R b →
      Like z.base c R (turns g one b t) (turns h two (c b) (moved_state z.base t)))
      → Like z.base c R (turns g one a s) (turns h two (c a) (moved_state z.base s))
  turn_like a s (Ok (again b, t)) (Ok (y, u)) is is2 like rest = on (leads_on g s t) refl
    where
      there : two (c a) (moved_state z.base s) ≡ Ok (again (c b), moved_state z.base t)
      there = is2 ∙ ap (λ (v : Step A). Ok (v, u)) like.0 ∙ ap (λ (v : State). Ok (again (c b), v)) like.1

      on : (e : Bool) → leads_on g s t ≡ e →
          Like z.base c R (turns g one a s) (turns h two (c a) (moved_state z.base s))
      on true e = rw (
        turns_on g one a b s t is e,
        turns_on h two (c a) (c b) (moved_state z.base s) (moved_state z.base t) there e,
      )
          (rest b t (ltb-true _ _ e) like.2)
      on false e = rw (
        turns_rest g one a b s t is e,
        turns_rest h two (c a) (c b) (moved_state z.base s) (moved_state z.base t) there e,
      ) (refl, refl, like.2)
  turn_like a s (Ok (done b, t)) (Ok (y, u)) is is2 like rest =
      let there : two (c a) (moved_state z.base s) ≡ Ok (done (c b), moved_state z.base t) = is2
      ∙ ap (λ (v : Step A). Ok (v, u)) like.0 ∙ ap (λ (v : State). Ok (done (c b), v)) like.1 in
      rw (turns_done g one a b s t is, turns_done h two (c a) (c b) (moved_state z.base s) (moved_state z.base t) there)
      (refl, refl, like.2)
  turn_like a s (Ok (x, t)) (Err e) is is2 like rest = absurd like
  turn_like a s (Err e) (Ok (y, t)) is is2 like rest = absurd like
  turn_like a s (Err e) (Err f) is is2 like rest =
      rw (turns_fault g one a s e is, turns_fault h two (c a) (moved_state z.base s) f is2) like

  -- by how many bytes are left
  loop_like : (n : ℕ) (a : A) (s : State) → length z.text - s.at < n → S a →
      Like z.base c R (turns g one a s) (turns h two (c a) (moved_state z.base s))
  unfolding one two
  loop_like zero a s low so = absurd (omega arith)
  loop_like (suc n) a s low so =
      turn_like a s (one a s) (two (c a) (moved_state z.base s)) refl refl ((starts a so).like s)
      (λ b t less known. loop_like n b t (omega (arith, less, low)) (goes_on b known))

  -- a repetition
  pub moves_many : (a : A) → S a → Moves z c R (many turn a) (many turn2 (c a))
  unfolding many one two
  moves_many a so = record { like = λ s. loop_like (suc (length z.text - s.at)) a s (omega arith) so }

-- ---- here-documents

-- one more waits
pub moves_waits : {z : Place} (w : Waiting) →
    Moves z same Any (change (waits w)) (change (waits (moved_waiting z.base w)))
moves_waits {z = z} w = record {
  like =
      λ s. (
        refl,
        ap (λ (ws : Row Waiting).
            record { at = s.at; waiting = ws; bodies = map (placed_body z.base) s.bodies })
            (sym (map-append (moved_waiting z.base) s.waiting (w ∷ []))),
        tt,
      );
}

-- its delimiter is the same
same_below : (k n : ℕ) (T : List ℕ) (w : Waiting) (taken : Bool) (p : ℕ) →
    delimiter_below n T (moved_waiting k w) taken p ≡ delimiter_below n T w taken p
unfolding delimiter_below
same_below k zero T w taken p = refl
same_below k (suc n) T w taken p = rw (same_below k n T w (takes_newline w (rest_of_line T p)) (past_line T p)) refl

same_from : (k : ℕ) (T : List ℕ) (w : Waiting) (p : ℕ) → delimiter_from T (moved_waiting k w) p ≡ delimiter_from T w p
unfolding delimiter_on
same_from k T w p = same_below k _ T w _ p

-- the bodies that are found and the place after them, or a fault; and these, moved
abbrev Bodies : Type 0
Bodies = Result (Row Span × ℕ) Fault

abbrev moved_bodies : ℕ → Bodies → Bodies
moved_bodies k (Ok x) = Ok (map (placed_body k) x.0, x.1)
moved_bodies k (Err f) = Err (moved_fault k f)

module _ (edition : Edition) (T : List ℕ) (k o : ℕ) where
  -- one more body, by where the line of its delimiter begins
  body_step : (w : Waiting) (ws : Row Waiting) (bodies : Row Span) (p : ℕ) → 1 ≤ p
      → ((bs : Row Span) (q : ℕ) → 1 ≤ q →
      bodies_from (given edition T (k + o)) (map (moved_waiting k) ws) (map (placed_body k) bs) q
      ≡ moved_bodies k (bodies_from (given edition T o) ws bs q))
      → (d : Option ℕ) → delimiter_from T w p ≡ d
      → body_by (bodies_from (given edition T (k + o)) (map (moved_waiting k) ws)) (given edition T (k + o))
      (moved_waiting k w) (map (placed_body k) bodies) p d
      ≡ moved_bodies k (body_by (bodies_from (given edition T o) ws) (given edition T o) w bodies p d)
  body_step w ws bodies p from more None found = refl
  body_step w ws bodies p from more (Some q) found =
      let low = delimiter_between T w false p q found in
      let above : o + q ≡ suc (o + q - 1) = omega (arith, from, low.0) in
      let one : placed_body k (span o p q) ≡ span (k + o) p q = body_read k (span o p q) (o + q - 1) above
      ∙ span_moved k o p q in
      let row : map (placed_body k) (bodies ++ span o p q ∷ []) ≡ map (placed_body k) bodies ++ span (k + o) p q ∷ [] =
      map-append (placed_body k) bodies (span o p q ∷ [])
      ∙ ap (λ (s : Span). map (placed_body k) bodies ++ s ∷ []) one in
      rw (← row) (more (bodies ++ span o p q ∷ []) (past_line T q)
      (omega (arith, from, low.0, low.1, next_newline_low T q)))

  -- bodies that begin just past a newline
  bodies_moved : (ws : Row Waiting) (bodies : Row Span) (p : ℕ) → 1 ≤ p →
      bodies_from (given edition T (k + o)) (map (moved_waiting k) ws) (map (placed_body k) bodies) p
      ≡ moved_bodies k (bodies_from (given edition T o) ws bodies p)
  unfolding bodies_from
  bodies_moved [] bodies p from = refl
  bodies_moved (w ∷ ws) bodies p from =
      rw (same_from k T w p) (body_step w ws bodies p from (λ bs q low. bodies_moved ws bs q low)
      (delimiter_from T w p) refl)

module _ {z : Place} {Y : Type 0} (d : Y → Y) (Q : Y → Type 0) (f h : Unit {0} → Form Y)
    (rest : Moves z d Q (f tt) (h tt)) where
  -- what follows the bodies that are found, or their fault
  change_like : (x y : Bodies) → y ≡ moved_bodies z.base x
      → Like z.base d Q (nothing_read (state_by x) ▸ λ u t. does (f u) Whole (by_itself z) t)
      (nothing_read (state_by y) ▸ λ u t. does (h u) (kept z.deep) (elsewhere z) t)
  change_like (Ok x) y is = rw is (rest.like (record { at = x.1; waiting = []; bodies = x.0 }))
  change_like (Err e) y is = rw is refl

  -- the bodies after a newline
  pub moves_newline : Moves z d Q (both (move one_byte) (λ u. both (change bodies_here) f))
      (both (move one_byte) (λ u. both (change bodies_here) h))
  unfolding past_byte
  moves_newline = record {
    like =
        λ s. change_like _ _ (bodies_moved z.edition z.text z.base z.offset s.waiting s.bodies (past_byte z.text s.at)
        (omega arith));
  }
