-- The laws of turns, which serve every loop of the reader.
use Rattle.std.proofs.Common.{◌≡◌, ℕ, zero, suc, ◌-◌, ◌≤◌, ◌<◌, Bool, true, false, cond, Ok, Err, length, refl, ◌∙◌, arith}
use Rattle.std.proofs.lemmas.Bool.{ltb-true, lt-ltb}
use Rattle.shgrammar.specs.declared.keep.Keep.{Keep}
use Rattle.shgrammar.specs.declared.fault.Fault.{Fault}
use Rattle.shgrammar.specs.Sights.{Given, State}
use Rattle.shgrammar.specs.Words.{Inner}
use Rattle.shgrammar.specs.Commands.{begins_pipeline}
use Rattle.shgrammar.specs.Lists.{ListSoFar, entry_turn}
use Rattle.shgrammar.specs.Form.{Form, Read, Step, again, done, ◌▸◌, leads_on, next, turns_below, turns, does, many}

-- P holds of what a turn gives, whether it goes on or is the last
abbrev pub Stepped : {A : Type 0} → (A → Type 0) → Step A → Type 0
Stepped P (again a) = P a
Stepped P (done a) = P a

-- a choice is the same where its first side is, if the test leads there
on_true : {X : Type 0} (c : Bool) (x y z : X) → (c ≡ true → x ≡ y) → cond c x z ≡ cond c y z
on_true true x y z same = same refl
on_true false x y z same = refl

-- what follows a turn is the same, if it is for all turns with less of the text left
same_next : {A : Type 0} (g : Given) (s : State) (f h : A → State → Read A) →
    ((b : A) (t : State) → length g.text - t.at < length g.text - s.at → f b t ≡ h b t) → (r : Read (Step A))
    → (r ▸ next g s f) ≡ (r ▸ next g s h)
same_next g s f h same (Err e) = refl
same_next g s f h same (Ok (done b, t)) = refl
same_next g s f h same (Ok (again b, t)) = on_true (leads_on g s t) _ _ _ (λ less. same b t (ltb-true _ _ less))

-- with enough turns, how many they are does not matter
pub enough_turns : {A : Type 0} (g : Given) (f : A → State → Read (Step A)) (n m : ℕ) (a : A) (s : State) →
    length g.text - s.at < n → length g.text - s.at < m
    → turns_below g f n a s ≡ turns_below g f m a s
unfolding turns_below
enough_turns g f zero m a s low_n low_m = absurd (omega arith)
enough_turns g f (suc n) zero a s low_n low_m = absurd (omega arith)
enough_turns g f (suc n) (suc m) a s low_n low_m =
    same_next g s (turns_below g f n) (turns_below g f m)
    (λ b t less. enough_turns g f n m b t (omega arith) (omega arith))
    (f a s)

-- a turn that leads on
pub turns_on : {A : Type 0} (g : Given) (f : A → State → Read (Step A)) (a b : A) (s t : State) →
    f a s ≡ Ok (again b, t) → leads_on g s t ≡ true → turns g f a s ≡ turns g f b t
unfolding turns turns_below
turns_on g f a b s t turn on =
    let less = ltb-true _ _ on in
    rw (turn, on) (enough_turns g f (length g.text - s.at) (suc (length g.text - t.at)) b t less (omega arith))

-- a turn that does not
pub turns_rest : {A : Type 0} (g : Given) (f : A → State → Read (Step A)) (a b : A) (s t : State) →
    f a s ≡ Ok (again b, t) → leads_on g s t ≡ false → turns g f a s ≡ Ok (b, t)
unfolding turns turns_below
turns_rest g f a b s t turn off = rw (turn, off) refl

-- the last turn
pub turns_done : {A : Type 0} (g : Given) (f : A → State → Read (Step A)) (a b : A) (s t : State) →
    f a s ≡ Ok (done b, t) → turns g f a s ≡ Ok (b, t)
unfolding turns turns_below
turns_done g f a b s t turn = rw turn refl

-- a fault in a turn
pub turns_fault : {A : Type 0} (g : Given) (f : A → State → Read (Step A)) (a : A) (s : State) (e : Fault) →
    f a s ≡ Err e → turns g f a s ≡ Err e
unfolding turns turns_below
turns_fault g f a s e turn = rw turn refl

-- ---- the same of a row

module _ {A : Type 0} (turn : A → Form (Step A)) (keep : Keep) (g : Given) where
  -- a turn that moves to the right
  pub many_again : (a b : A) (s t : State) → does (turn a) keep g s ≡ Ok (again b, t) → s.at < t.at →
      t.at ≤ length g.text → does (many turn a) keep g s ≡ does (many turn b) keep g t
  unfolding many
  many_again a b s t one onward within =
      turns_on g (λ c u. does (turn c) keep g u) a b s t one (lt-ltb _ _ (omega arith))

  -- the last turn
  pub many_done : (a b : A) (s t : State) → does (turn a) keep g s ≡ Ok (done b, t) →
      does (many turn a) keep g s ≡ Ok (b, t)
  unfolding many
  many_done a b s t one = turns_done g (λ c u. does (turn c) keep g u) a b s t one

-- ---- a line on which no entry begins

-- where no entry begins none is read, and the list stays as it is
no_entry : (inner : Inner) (l : ListSoFar) (keep : Keep) (g : Given) (s : State) → begins_pipeline l.next.token ≡ false
    →
    does (entry_turn inner l) keep g s ≡ Ok (done l, s)
unfolding entry_turn
no_entry inner l keep g s none = rw none refl

pub no_entries : (inner : Inner) (l : ListSoFar) (keep : Keep) (g : Given) (s : State) →
    begins_pipeline l.next.token ≡ false → does (many (entry_turn inner) l) keep g s ≡ Ok (l, s)
no_entries inner l keep g s none = many_done (entry_turn inner) keep g l l s s (no_entry inner l keep g s none)

-- the last entry of a line, where none begins after what parts it from the next
pub last_entry : (inner : Inner) (l m : ListSoFar) (keep : Keep) (g : Given) (s t : State) →
    does (entry_turn inner l) keep g s ≡ Ok (again m, t) → s.at < t.at → t.at ≤ length g.text
    → begins_pipeline m.next.token ≡ false → does (many (entry_turn inner) l) keep g s ≡ Ok (m, t)
last_entry inner l m keep g s t one onward within none = many_again (entry_turn inner) keep g l m s t one onward within
    ∙ no_entries inner m keep g t none
