-- Forms: what the rows of the grammar are made of, and what they mean.
--
-- A row is a form. What may be read by it is a relation (`may`), with one case for each
-- way in which a form may go; beside it stands a function that computes (`does`). That the
-- one is what the other computes is shown once, for all forms. What is given, the state
-- and the tokens passed are handed on here: no row names them.
use Rattle.std.specs.Prelude.{◌≡◌, ℕ, zero, suc, ◌-◌, Bool, true, false, Result, Ok, Err, List, [], ◌∷◌, ◌++◌, List as Row, length, nat_lt, take, drop, if◌then◌else◌}
use Rattle.shast.specs.declared.tree.Span.{Span}
use Rattle.shast.specs.Shape.{bare}
use Rattle.shgrammar.specs.declared.fault.Fault.{Fault}
use Rattle.shgrammar.specs.declared.fault.FaultKind.{FaultKind}
use Rattle.shgrammar.specs.declared.fault.FaultKind.TheVariants.{UnexpectedEnd}
use Rattle.shgrammar.specs.declared.keep.Keep.{Keep}
use Rattle.shgrammar.specs.declared.keep.Keep.TheVariants.{Nothing, Outer, Whole}
use Rattle.shgrammar.specs.Comments.{span}
use Rattle.shgrammar.specs.Sights.{Given, State, Sight, seen, Move, to}
use Rattle.shgrammar.specs.HereDocuments.{Change, changed, own_level, outer_level}

-- the text of a token that was passed
abbrev pub Spelled : Type 0
Spelled = List ℕ

-- how what was passed is told: not at all, as it stands, without its continuations, or by a text
pub data Telling : Type 0 where
  untold : Telling
  as_it_stands : Telling
  bared : Telling
  by : Spelled → Telling

-- what was read, and the state after it; or the fault that stopped the reading
abbrev pub Read : Type 0 → Type 0
Read X = Result (X × State) Fault

-- what a turn of a repetition says: go on, or that was the last
pub data Step (A : Type 0) : Type 0 where
  again : A → Step A
  done : A → Step A

abbrev pub step_if : {A : Type 0} → Bool → A → Step A
step_if true a = again a
step_if false a = done a

-- what is read of a text from a place on, step by step; each row of the grammar is one
pub data Form : Type 0 → Type 1 where
  -- this is read, and nothing is passed
  give : {X : Type 0} → X → Form X
  -- what is seen from here
  see : {X : Type 0} → Sight X → Form X
  -- on to another place
  move : Move → Form (Unit {0})
  -- one more element of a row of the tree
  push : {A : Type 0} → Row A → A → Form (Row A)
  -- the reading stops with this fault, at this offset
  stop : {X : Type 0} → FaultKind → ℕ → Form X
  -- one form and then another
  both : {X Y : Type 0} → Form X → (X → Form Y) → Form Y
  -- one form where what is seen holds, and another where it does not
  when : {X : Type 0} → Sight Bool → Form X → Form X → Form X
  -- what is read is one token: with its span, and told so
  token : {X : Type 0} → Telling → Form X → Form (X × Span)
  -- turns until one is the last
  loop : {A : Type 0} → (A → Form (Step A)) → A → Form A
  -- where the text ends in it, the fault is this one, at this offset
  ends_as : {X : Type 0} → FaultKind → ℕ → Form X → Form X
  -- what waits changes, or what was read
  change : Change → Form (Unit {0})
  -- what is read, and its bytes as they stand
  with_bytes : {X : Type 0} → Form X → Form (X × Spelled)
  -- a level of its own: what is read in it, and the bodies of its here-documents
  a_level : {X : Type 0} → Form X → Form (X × Row Span)
  -- what stands in a command substitution
  in_substitution : {X : Type 0} → Form X → Form X

-- the same, as rows write it: it does not unfold by itself
unfoldable pub many : {A : Type 0} → (A → Form (Step A)) → A → Form A
many turn a = loop turn a

infixl 10 ◌>>=◌
abbrev pub ◌>>=◌ : {X Y : Type 0} → Form X → (X → Form Y) → Form Y
r >>= q = both r q

infixr 9 ◌>>◌
abbrev pub ◌>>◌ : {X Y : Type 0} → Form X → Form Y → Form Y
r >> q = both r (λ x. q)

-- ---- what may be read

-- the outcomes of a form from a state on, and the tokens passed
abbrev pub Comes : Type 0 → Type 1
Comes X = State → Read X → Row Spelled → Type 0

-- this, from this state on
pub data Just {X : Type 0} (x : X) (t : State) : Read X → Row Spelled → Type 0 where
  just : Just x t (Ok (x, t)) []

pub data Halts {X : Type 0} (f : Fault) : Read X → Row Spelled → Type 0 where
  halted : Halts f (Err f) []

pub data Then {X Y : Type 0} (r : Comes X) (q : X → Comes Y) (s : State) : Read Y → Row Spelled → Type 0 where
  and_then : {x : X} {t : State} {k l : Row Spelled} {y : Read Y} → r s (Ok (x, t)) k → q x t y l →
      Then r q s y (k ++ l)
  or_stops : {f : Fault} {k : Row Spelled} → r s (Err f) k → Then r q s (Err f) k

pub data Either {X : Type 0} (test : Bool) (r q : Comes X) (s : State) (x : Read X) (k : Row Spelled) : Type 0 where
  holds : test ≡ true → r s x k → Either test r q s x k
  fails : test ≡ false → q s x k → Either test r q s x k

-- from p up to q the bytes as they stand
abbrev pub raw : List ℕ → ℕ → ℕ → Spelled
raw T p q = take (q - p) (drop p T)

abbrev pub tell : Telling → List ℕ → ℕ → ℕ → Row Spelled
tell untold T p q = []
tell as_it_stands T p q = raw T p q ∷ []
tell bared T p q = bare (raw T p q) ∷ []
tell (by text) T p q = text ∷ []

-- the tokens passed inside are not told
pub data OneToken {X : Type 0} (told : Telling) (g : Given) (r : Comes X) (s : State) : Read (X × Span) → Row Spelled →
    Type 0 where
  whole : {x : X} {t : State} {k : Row Spelled} → r s (Ok (x, t)) k →
      OneToken told g r s (Ok ((x, span g.offset s.at t.at), t)) (tell told g.text s.at t.at)
  broken_off : {f : Fault} {k : Row Spelled} → r s (Err f) k → OneToken told g r s (Err f) k

-- less of the text is left at t than at s
abbrev pub leads_on : Given → State → State → Bool
leads_on g s t = nat_lt (length g.text - t.at) (length g.text - s.at)

-- a turn that does not lead on is the last as well
pub data Turns {A : Type 0} (g : Given) (turn : A → Comes (Step A)) : A → State → Read A → Row Spelled → Type 0 where
  last : {a b : A} {s t : State} {k : Row Spelled} → turn a s (Ok (done b, t)) k → Turns g turn a s (Ok (b, t)) k
  rests : {a b : A} {s t : State} {k : Row Spelled} → turn a s (Ok (again b, t)) k → leads_on g s t ≡ false →
      Turns g turn a s (Ok (b, t)) k
  more : {a b : A} {s t : State} {x : Read A} {k l : Row Spelled} → turn a s (Ok (again b, t)) k → leads_on g s t ≡ true
      → Turns g turn b t x l → Turns g turn a s x (k ++ l)
  halts : {a : A} {s : State} {f : Fault} {k : Row Spelled} → turn a s (Err f) k → Turns g turn a s (Err f) k

-- a fault of this kind, which stands at p; that of a text that ends is another one
abbrev pub ended_by : FaultKind → ℕ → ℕ → FaultKind → Fault
ended_by kind at p UnexpectedEnd = record { kind = kind; at = at }
ended_by kind at p other = record { kind = other; at = p }

abbrev pub ended : FaultKind → ℕ → Fault → Fault
ended kind at f = ended_by kind at f.at f.kind

pub data Ending {X : Type 0} (kind : FaultKind) (at : ℕ) (r : Comes X) (s : State) : Read X → Row Spelled → Type 0 where
  goes_through : {x : X} {t : State} {k : Row Spelled} → r s (Ok (x, t)) k → Ending kind at r s (Ok (x, t)) k
  stops_inside : {f : Fault} {k : Row Spelled} → r s (Err f) k → Ending kind at r s (Err (ended kind at f)) k

-- a state, or a fault
pub data Changed (x : Result State Fault) : Read (Unit {0}) → Row Spelled → Type 0 where
  changes : {t : State} → x ≡ Ok t → Changed x (Ok (tt, t)) []
  cannot : {f : Fault} → x ≡ Err f → Changed x (Err f) []

pub data WithBytes {X : Type 0} (g : Given) (r : Comes X) (s : State) : Read (X × Spelled) → Row Spelled → Type 0 where
  with_its_bytes : {x : X} {t : State} {k : Row Spelled} → r s (Ok (x, t)) k →
      WithBytes g r s (Ok ((x, raw g.text s.at t.at), t)) k
  without_bytes : {f : Fault} {k : Row Spelled} → r s (Err f) k → WithBytes g r s (Err f) k

pub data OwnLevel {X : Type 0} (r : Comes X) (s : State) : Read (X × Row Span) → Row Spelled → Type 0 where
  level_read : {x : X} {t : State} {k : Row Spelled} → r (own_level s) (Ok (x, t)) k →
      OwnLevel r s (Ok ((x, t.bodies), outer_level s t)) k
  level_stops : {f : Fault} {k : Row Spelled} → r (own_level s) (Err f) k → OwnLevel r s (Err f) k

abbrev pub moved_on : Move → Given → State → State
moved_on m g s = record s { at = to m g.text s.at }

abbrev pub may : {X : Type 0} → Form X → Given → Comes X
may (give x) g s = Just x s
may (see f) g s = Just (seen f g s) s
may (move m) g s = Just tt (moved_on m g s)
may (push xs x) g s = Just (xs ++ x ∷ []) s
may (stop kind at) g s = Halts (record { kind = kind; at = at })
may (both r q) g s = Then (may r g) (λ x. may (q x) g) s
may (when f r q) g s = Either (seen f g s) (may r g) (may q g) s
may (token told r) g s = OneToken told g (may r g) s
may (loop turn a) g s = Turns g (λ b. may (turn b) g) a s
may (ends_as kind at r) g s = Ending kind at (may r g) s
may (change c) g s = Changed (changed c g s)
may (with_bytes r) g s = WithBytes g (may r g) s
may (a_level r) g s = OwnLevel (may r g) s
may (in_substitution r) g s = may r g s

-- ---- what is computed

infixl 10 ◌▸◌
abbrev pub ◌▸◌ : {X Y : Type 0} → Read X → (X → State → Read Y) → Read Y
(Ok x) ▸ f = f x.0 x.1
(Err e) ▸ f = Err e

abbrev pub next : {A : Type 0} → Given → State → (A → State → Read A) → Step A → State → Read A
next g s rest (done a) t = Ok (a, t)
next g s rest (again a) t = if leads_on g s t then rest a t else Ok (a, t)

unfoldable pub turns_below : {A : Type 0} → Given → (A → State → Read (Step A)) → ℕ → A → State → Read A
turns_below g f zero a s = Ok (a, s)
turns_below g f (suc n) a s = f a s ▸ next g s (turns_below g f n)

unfoldable pub turns : {A : Type 0} → Given → (A → State → Read (Step A)) → A → State → Read A
turns g f a s = turns_below g f (suc (length g.text - s.at)) a s

abbrev pub pushed : {A : Type 0} → Bool → Row A → A → Row A
pushed true xs x = xs ++ x ∷ []
pushed false xs x = xs

abbrev pub with_end : {X : Type 0} → FaultKind → ℕ → Read X → Read X
with_end kind at (Ok x) = Ok x
with_end kind at (Err f) = Err (ended kind at f)

abbrev pub nothing_read : Result State Fault → Read (Unit {0})
nothing_read (Ok t) = Ok (tt, t)
nothing_read (Err f) = Err f

-- whether a row of the tree grows; where none does, what is read is only how far it goes
abbrev pub grows : Keep → Bool
grows Nothing = false
grows Outer = true
grows Whole = true

-- what is kept of what stands in a command substitution
abbrev pub inside : Keep → Keep
inside Nothing = Nothing
inside Outer = Nothing
inside Whole = Whole

abbrev pub does : {X : Type 0} → Form X → Keep → Given → State → Read X
does (give x) keep g s = Ok (x, s)
does (see f) keep g s = Ok (seen f g s, s)
does (move m) keep g s = Ok (tt, moved_on m g s)
does (push xs x) keep g s = Ok (pushed (grows keep) xs x, s)
does (stop kind at) keep g s = Err (record { kind = kind; at = at })
does (both r q) keep g s = does r keep g s ▸ λ x t. does (q x) keep g t
does (when f r q) keep g s = if seen f g s then does r keep g s else does q keep g s
does (token told r) keep g s = does r keep g s ▸ λ x t. Ok ((x, span g.offset s.at t.at), t)
does (loop turn a) keep g s = turns g (λ b t. does (turn b) keep g t) a s
does (ends_as kind at r) keep g s = with_end kind at (does r keep g s)
does (change c) keep g s = nothing_read (changed c g s)
does (with_bytes r) keep g s = does r keep g s ▸ λ x t. Ok ((x, raw g.text s.at t.at), t)
does (a_level r) keep g s = does r keep g (own_level s) ▸ λ x t. Ok ((x, t.bodies), outer_level s t)
does (in_substitution r) keep g s = does r (inside keep) g s
