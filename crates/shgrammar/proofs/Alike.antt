-- A form goes the same way with its tree and without, whatever was read before: what that means, and the
-- laws of forms. Words and commands are in `AlikeCommands`, lists and what holds them in `AlikeLists`.
use Rattle.std.proofs.Common.{◌≡◌, ℕ, zero, suc, ◌-◌, ◌<◌, Bool, true, false, cond, Result, Ok, Err, List as Row, [], ◌∷◌, ◌++◌, length, refl, sym, ap, subst, ◌∙◌, arith}
use Rattle.std.proofs.lemmas.Bool.{ltb-true}
use Rattle.shgrammar.specs.declared.keep.Keep.TheVariants.{Nothing, Whole}
use Rattle.shgrammar.specs.declared.fault.Fault.{Fault}
use Rattle.shgrammar.specs.declared.fault.FaultKind.{FaultKind}
use Rattle.shgrammar.specs.declared.token.Next.{Next}
use Rattle.shast.specs.declared.tree.Span.{Span}
use Rattle.shast.specs.Tree.{AnEntry}
use Rattle.shgrammar.specs.Comments.{span}
use Rattle.shgrammar.specs.Sights.{Given, State, Sight, seen, Move}
use Rattle.shgrammar.specs.HereDocuments.{Change, changed, own_level, outer_level}
use Rattle.shgrammar.specs.Form.{raw, nothing_read, change, with_bytes, a_level, Spelled, Telling, Read, ◌▸◌, Form, give, see, move, push, stop, both, when, token, many, ends_as, with_end, Step, again, done, leads_on, turns, does, in_substitution}
use Rattle.shgrammar.specs.Words.{WordSoFar}
use Rattle.shgrammar.specs.Commands.{pick}
use Rattle.shgrammar.proofs.Turns.{turns_on, turns_rest, turns_done, turns_fault}

-- both give something, of which S holds, and end in one state; or both stop with one fault
abbrev pub Like : {X Y : Type 0} → (X → Y → Type 0) → Read X → Read Y → Type 0
Like S (Ok (x, s)) (Ok (y, t)) = (s ≡ t) × S x y
Like S (Ok (x, s)) (Err f) = ⊥
Like S (Err e) (Ok (y, t)) = ⊥
Like S (Err e) (Err f) = e ≡ f

-- both lines end with a newline, or both with the text
abbrev pub SameEnd : Row AnEntry × Bool → Row AnEntry × Bool → Type 0
SameEnd x y = x.1 ≡ y.1

-- both go on, or both end
abbrev pub SameStep : {A B : Type 0} → (A → B → Type 0) → Step A → Step B → Type 0
SameStep S (again x) (again y) = S x y
SameStep S (again x) (done y) = ⊥
SameStep S (done x) (again y) = ⊥
SameStep S (done x) (done y) = S x y

-- as many brackets are open
abbrev pub SameHeld : WordSoFar → WordSoFar → Type 0
SameHeld h i = h.nested ≡ i.nested

-- whatever was read
abbrev pub All : {X Y : Type 0} → X → Y → Type 0
All x y = Unit {0}

module _ (g : Given) where
  -- r with its tree, and q without
  pub record Alike {X Y : Type 0} (S : X → Y → Type 0) (r : Form X) (q : Form Y) : Type 0 where
    pub like : (s : State) → Like S (does r Whole g s) (does q Nothing g s)

-- ---- one outcome and another, made into more

-- one of two by a test, another fault where the text ends, a change, and what is read in a level
when_like : {X Y : Type 0} (S : X → Y → Type 0) (test : Bool) (x u : Read X) (y v : Read Y) → Like S x y → Like S u v
    → Like S (cond test x u) (cond test y v)
when_like S true x u y v one two = one
when_like S false x u y v one two = two

ending_like : {X Y : Type 0} (S : X → Y → Type 0) (kind : FaultKind) (at : ℕ) (x : Read X) (y : Read Y) → Like S x y →
    Like S (with_end kind at x) (with_end kind at y)
ending_like S kind at (Ok (x, s)) (Ok (y, t)) like = like
ending_like S kind at (Ok (x, s)) (Err e) like = absurd like
ending_like S kind at (Err e) (Ok (y, t)) like = absurd like
ending_like S kind at (Err e) (Err f) like = rw like refl

change_like : (S : Unit {0} → Unit {0} → Type 0) (x : Result State Fault) → S tt tt →
    Like S (nothing_read x) (nothing_read x)
change_like S (Ok t) so = (refl, so)
change_like S (Err f) so = refl

level_like : {X Y : Type 0} (S : X → Y → Type 0) (R : X × Row Span → Y × Row Span → Type 0) (s : State) (x : Read X)
    (y : Read Y) → Like S x y → ((a : X) (b : Y) (k : Row Span) → S a b → R (a, k) (b, k))
    → Like R (x ▸ λ a t. Ok ((a, t.bodies), outer_level s t)) (y ▸ λ b t. Ok ((b, t.bodies), outer_level s t))
level_like S R s (Ok (x, t)) (Ok (y, u)) like so = rw (← like.0) (refl, so x y _ like.1)
level_like S R s (Ok (x, t)) (Err e) like so = absurd like
level_like S R s (Err e) (Ok (y, t)) like so = absurd like
level_like S R s (Err e) (Err e') like so = like

module _ (g : Given) where
  -- what is read with its span, and with its bytes
  token_like : {X Y : Type 0} (S : X → Y → Type 0) (R : X × Span → Y × Span → Type 0) (s : State) (x : Read X)
      (y : Read Y) → Like S x y → ((a : X) (b : Y) (z : Span) → S a b → R (a, z) (b, z))
      → Like R (x ▸ λ a t. Ok ((a, span g.offset s.at t.at), t)) (y ▸ λ b t. Ok ((b, span g.offset s.at t.at), t))
  token_like S R s (Ok (x, t)) (Ok (y, u)) like so = rw (← like.0) (refl, so x y _ like.1)
  token_like S R s (Ok (x, t)) (Err e) like so = absurd like
  token_like S R s (Err e) (Ok (y, t)) like so = absurd like
  token_like S R s (Err e) (Err e') like so = like

  bytes_like : {X Y : Type 0} (S : X → Y → Type 0) (R : X × Spelled → Y × Spelled → Type 0) (s : State) (x : Read X)
      (y : Read Y) → Like S x y → ((a : X) (b : Y) (k : Spelled) → S a b → R (a, k) (b, k))
      → Like R (x ▸ λ a t. Ok ((a, raw g.text s.at t.at), t)) (y ▸ λ b t. Ok ((b, raw g.text s.at t.at), t))
  bytes_like S R s (Ok (x, t)) (Ok (y, u)) like so = rw (← like.0) (refl, so x y _ like.1)
  bytes_like S R s (Ok (x, t)) (Err e) like so = absurd like
  bytes_like S R s (Err e) (Ok (y, t)) like so = absurd like
  bytes_like S R s (Err e) (Err e') like so = like

-- ---- the laws of forms

module _ {g : Given} where
  -- what is given
  pub alike_give : {X Y : Type 0} {S : X → Y → Type 0} {x : X} {y : Y} → S x y → Alike g S (give x) (give y)
  alike_give so = record { like = λ s. (refl, so) }

  -- one more element
  pub alike_push : {A B : Type 0} {S : Row A → Row B → Type 0} {xs : Row A} {x : A} {ys : Row B} {y : B} →
      S (xs ++ x ∷ []) ys → Alike g S (push xs x) (push ys y)
  alike_push so = record { like = λ s. (refl, so) }

  -- a move
  pub alike_move : {S : Unit {0} → Unit {0} → Type 0} {m : Move} → S tt tt → Alike g S (move m) (move m)
  alike_move so = record { like = λ s. (refl, so) }

  -- a fault of one kind, at one place
  pub alike_stop_at : {X Y : Type 0} {S : X → Y → Type 0} {kind : FaultKind} {p q : ℕ} → p ≡ q →
      Alike g S (stop kind p) (stop kind q)
  alike_stop_at {kind = kind} is = record { like = λ s. ap (λ (p : ℕ). record { kind = kind; at = p }) is }

  pub alike_stop : {X Y : Type 0} {S : X → Y → Type 0} {kind : FaultKind} {at : ℕ} →
      Alike g S (stop kind at) (stop kind at)
  alike_stop = record { like = λ s. refl }

  module _ {X Y V W : Type 0} (S : X → Y → Type 0) (R : V → W → Type 0) (f : X → Form V) (h : Y → Form W)
      (rest : (x : X) (y : Y) → S x y → Alike g R (f x) (h y)) where
    -- what follows, after what was read with its tree and without
    then_like : (x : Read X) (y : Read Y) → Like S x y →
        Like R (x ▸ λ a t. does (f a) Whole g t) (y ▸ λ b t. does (h b) Nothing g t)
    then_like (Ok (x, s)) (Ok (y, t)) like = rw (← like.0) ((rest x y like.1).like s)
    then_like (Ok (x, s)) (Err e) like = absurd like
    then_like (Err e) (Ok (y, t)) like = absurd like
    then_like (Err e) (Err e') like = like

  -- one form and then another
  pub alike_then : {X Y V W : Type 0} {S : X → Y → Type 0} {R : V → W → Type 0} {r : Form X} {q : Form Y}
      {f : X → Form V} {h : Y → Form W} → Alike g S r q
      → ((x : X) (y : Y) → S x y → Alike g R (f x) (h y)) → Alike g R (both r f) (both q h)
  alike_then {S = S} {R = R} {r = r} {q = q} {f = f} {h = h} first rest =
      record { like = λ s. then_like S R f h rest (does r Whole g s) (does q Nothing g s) (first.like s) }

  -- what is seen, and then the rest
  pub alike_see : {X V W : Type 0} {R : V → W → Type 0} {l : Sight X} {f : X → Form V} {h : X → Form W} →
      ((x : X) → Alike g R (f x) (h x)) → Alike g R (both (see l) f) (both (see l) h)
  alike_see {l = l} rest = record { like = λ s. (rest (seen l g s)).like s }

  -- the same is seen
  pub alike_same : {X V W : Type 0} {R : V → W → Type 0} {l k : Sight X} {f : X → Form V} {h : X → Form W} → l ≡ k →
      ((x : X) → Alike g R (f x) (h x)) → Alike g R (both (see l) f) (both (see k) h)
  alike_same {R = R} {l = l} {f = f} {h = h} is rest =
      record {
        like = λ s. subst (λ z. Like R (does (f (seen l g s)) Whole g s) (does (h z) Nothing g s))
            (ap (λ z. seen z g s) is) ((rest (seen l g s)).like s);
      }

  -- on, and then the rest
  pub alike_on : {V W : Type 0} {R : V → W → Type 0} {m : Move} {f : Unit {0} → Form V} {h : Unit {0} → Form W} →
      Alike g R (f tt) (h tt) → Alike g R (both (move m) f) (both (move m) h)
  alike_on rest = record { like = λ s. rest.like _ }

  -- one more element, and then the rest
  pub alike_pushed : {A B V W : Type 0} {R : V → W → Type 0} {xs : Row A} {x : A} {ys : Row B} {y : B}
      {f : Row A → Form V} {h : Row B → Form W} → Alike g R (f (xs ++ x ∷ [])) (h ys)
      → Alike g R (both (push xs x) f) (both (push ys y) h)
  alike_pushed rest = record { like = λ s. rest.like s }

  -- one form, or the other
  pub alike_pick : {X Y : Type 0} {S : X → Y → Type 0} {r u : Form X} {q v : Form Y} (b c : Bool) → b ≡ c →
      Alike g S r q
      → Alike g S u v → Alike g S (pick b r u) (pick c q v)
  alike_pick true true is one two = one
  alike_pick true false is one two = absurd cc
  alike_pick false true is one two = absurd cc
  alike_pick false false is one two = two

  -- after the same token
  pub alike_at : {X : Type 0} {S : X → X → Type 0} (r : Next → Form X) → ((n : Next) → Alike g S (r n) (r n)) →
      (n m : Next) → n ≡ m → Alike g S (r n) (r m)
  alike_at {S = S} r each n m same = subst (λ z. Alike g S (r n) (r z)) same (each n)

  -- one form where something is seen to hold, or the other
  pub alike_when : {X Y : Type 0} {S : X → Y → Type 0} {l : Sight Bool} {r u : Form X} {q v : Form Y} → Alike g S r q →
      Alike g S u v → Alike g S (when l r u) (when l q v)
  alike_when {S = S} {l = l} one two = record { like = λ s. when_like S (seen l g s) _ _ _ _ (one.like s) (two.like s) }

  -- one token
  pub alike_token : {X Y : Type 0} {S : X → Y → Type 0} {R : X × Span → Y × Span → Type 0} {how : Telling} {r : Form X}
      {q : Form Y} → Alike g S r q → ((a : X) (b : Y) (z : Span) → S a b → R (a, z) (b, z))
      → Alike g R (token how r) (token how q)
  alike_token {S = S} {R = R} {r = r} {q = q} one so =
      record { like = λ s. token_like g S R s (does r Whole g s) (does q Nothing g s) (one.like s) so }

  module _ {A B : Type 0} (S : A → B → Type 0) (turn : A → Form (Step A)) (turn2 : B → Form (Step B))
      (each : (a : A) (b : B) → S a b → Alike g (SameStep S) (turn a) (turn2 b)) where
    -- a turn with its tree, and one without
    one : A → State → Read (Step A)
    one a s = does (turn a) Whole g s

    two : B → State → Read (Step B)
    two b s = does (turn2 b) Nothing g s

    -- one turn, and those after it
    turn_like : (a : A) (b : B) (s : State) (x : Read (Step A)) (y : Read (Step B)) → one a s ≡ x → two b s ≡ y →
        Like (SameStep S) x y
        → ((c : A) (d : B) (t : State) → length g.text - t.at < length g.text - s.at → S c d →
        Like S (turns g one c t) (turns g two d t)) → Like S (turns g one a s) (turns g two b s)
    turn_like a b s (Ok (again c, t)) (Ok (again d, u)) is is' like rest = on (leads_on g s t) refl
      where
        there : two b s ≡ Ok (again d, t)
        there = is' ∙ ap (λ z. Ok (again d, z)) (sym like.0)

        on : (e : Bool) → leads_on g s t ≡ e → Like S (turns g one a s) (turns g two b s)
        on true e = rw (turns_on g one a c s t is e, turns_on g two b d s t there e)
            (rest c d t (ltb-true _ _ e) like.1)
        on false e = rw (turns_rest g one a c s t is e, turns_rest g two b d s t there e) (refl, like.1)
    turn_like a b s (Ok (again c, t)) (Ok (done d, u)) is is' like rest = absurd like.1
    turn_like a b s (Ok (done c, t)) (Ok (again d, u)) is is' like rest = absurd like.1
    turn_like a b s (Ok (done c, t)) (Ok (done d, u)) is is' like rest =
        rw (turns_done g one a c s t is, turns_done g two b d s u is') like
    turn_like a b s (Ok (x, t)) (Err e) is is' like rest = absurd like
    turn_like a b s (Err e) (Ok (y, t)) is is' like rest = absurd like
    turn_like a b s (Err e) (Err f) is is' like rest = rw (turns_fault g one a s e is, turns_fault g two b s f is') like

    -- by how many bytes are left
    loop_like : (n : ℕ) (a : A) (b : B) (s : State) → length g.text - s.at < n → S a b →
        Like S (turns g one a s) (turns g two b s)
    unfolding one two
    loop_like zero a b s low so = absurd (omega arith)
    loop_like (suc n) a b s low so =
        turn_like a b s (one a s) (two b s) refl refl ((each a b so).like s)
        (λ c d t less same. loop_like n c d t (omega (arith, less, low)) same)

    -- a repetition
    pub alike_many : (a : A) (b : B) → S a b → Alike g S (many turn a) (many turn2 b)
    unfolding many one two
    alike_many a b so = record { like = λ s. loop_like (suc (length g.text - s.at)) a b s (omega arith) so }

  -- what is another fault where the text ends in it
  pub alike_ending : {X Y : Type 0} {S : X → Y → Type 0} {kind : FaultKind} {at : ℕ} {r : Form X} {q : Form Y} →
      Alike g S r q → Alike g S (ends_as kind at r) (ends_as kind at q)
  alike_ending {S = S} {kind = kind} {at = at} {r = r} {q = q} one =
      record { like = λ s. ending_like S kind at (does r Whole g s) (does q Nothing g s) (one.like s) }

  -- the same waits, and the same bodies are read
  pub alike_change : {S : Unit {0} → Unit {0} → Type 0} {c : Change} → S tt tt → Alike g S (change c) (change c)
  alike_change {S = S} {c = c} so = record { like = λ s. change_like S (changed c g s) so }

  -- what is read, with the same bytes
  pub alike_with_bytes : {X Y : Type 0} {S : X → Y → Type 0} {R : X × Spelled → Y × Spelled → Type 0} {r : Form X}
      {q : Form Y} → Alike g S r q → ((a : X) (b : Y) (k : Spelled) → S a b → R (a, k) (b, k))
      → Alike g R (with_bytes r) (with_bytes q)
  alike_with_bytes {S = S} {R = R} {r = r} {q = q} one so =
      record { like = λ s. bytes_like g S R s (does r Whole g s) (does q Nothing g s) (one.like s) so }

  -- a level of its own, with the same bodies
  pub alike_level_of : {X Y : Type 0} {S : X → Y → Type 0} {R : X × Row Span → Y × Row Span → Type 0} {r : Form X}
      {q : Form Y} → Alike g S r q → ((a : X) (b : Y) (k : Row Span) → S a b → R (a, k) (b, k))
      → Alike g R (a_level r) (a_level q)
  alike_level_of {S = S} {R = R} {r = r} {q = q} one so =
      record {
        like = λ s. level_like S R s (does r Whole g (own_level s)) (does q Nothing g (own_level s))
            (one.like (own_level s)) so;
      }

  -- what stands in a substitution
  pub alike_inside : {X Y : Type 0} {S : X → Y → Type 0} {r : Form X} {q : Form Y} → Alike g S r q →
      Alike g S (in_substitution r) (in_substitution q)
  alike_inside one = record { like = λ s. one.like s }
