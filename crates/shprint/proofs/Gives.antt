-- What a row of the grammar gives from a state on, whatever tokens it passes: how rows are put together.
use Rattle.std.proofs.Common.{◌≡◌, ◌≤◌, sym, subst, Bool, true, false, List as Row, [], ◌∷◌, ◌++◌, Ok}
use Rattle.shgrammar.specs.declared.keep.Keep.TheVariants.{Whole}
use Rattle.shgrammar.specs.Comments.{span}
use Rattle.shgrammar.specs.Sights.{Given, State, Sight, seen, Move}
use Rattle.shgrammar.specs.Form.{Spelled, Telling, Form, give, see, move, push, both, token, many, may, moved_on, just, and_then, whole, Step, again, done, last, more, leads_on}
use Rattle.shgrammar.specs.Commands.{pick}
use Rattle.shgrammar.proofs.Holds.{Holds, AtOrAfter, no_form_goes_back}
use Rattle.shgrammar.proofs.OneOutcome.{computed_is_only}

-- a row reads x in the state s, and goes on in the state t
pub record Gives (g : Given) {X : Type 0} (r : Form X) (s : State) (x : X) (t : State) : Type 0 where
  pub passes : Row Spelled
  pub reads : may r g s (Ok (x, t)) passes

pub gives : {g : Given} {X : Type 0} {r : Form X} {s t : State} {x : X} (k : Row Spelled) → may r g s (Ok (x, t)) k →
    Gives g r s x t
gives k part = record { passes = k; reads = part }

infixr 6 ◌⟫◌
-- a row and then the next
pub ◌⟫◌ : {g : Given} {X Y : Type 0} {r : Form X} {q : X → Form Y} {s t u : State} {x : X} {y : Y} → Gives g r s x t →
    Gives g (q x) t y u → Gives g (both r q) s y u
one ⟫ two = record { passes = one.passes ++ two.passes; reads = and_then one.reads two.reads }

-- what a form of one step gives
pub given_here : {g : Given} {X : Type 0} {x : X} {s : State} → Gives g (give x) s x s
given_here = gives _ just

pub seen_here : {g : Given} {X : Type 0} (f : Sight X) {s : State} → Gives g (see f) s (seen f g s) s
seen_here f = gives _ just

pub moved_here : {g : Given} (m : Move) {s : State} → Gives g (move m) s tt (moved_on m g s)
moved_here m = gives _ just

pub pushed_here : {g : Given} {A : Type 0} (xs : Row A) (x : A) {s : State} → Gives g (push xs x) s (xs ++ x ∷ []) s
pushed_here xs x = gives _ just

pub told_here : {g : Given} {X : Type 0} (told : Telling) {r : Form X} {s t : State} {x : X} → Gives g r s x t →
    Gives g (token told r) s (x, span g.offset s.at t.at) t
told_here told one = gives _ (whole one.reads)

-- the first form, or the second
pub first_of : {g : Given} {X : Type 0} {b : Bool} (r q : Form X) {s t : State} {x : X} → b ≡ true → Gives g r s x t →
    Gives g (pick b r q) s x t
first_of r q e one = rw e one

pub second_of : {g : Given} {X : Type 0} {b : Bool} (r q : Form X) {s t : State} {x : X} → b ≡ false → Gives g q s x t →
    Gives g (pick b r q) s x t
second_of r q e one = rw e one

-- turns
pub last_turn : {g : Given} {A : Type 0} (turn : A → Form (Step A)) {a b : A} {s t : State} →
    Gives g (turn a) s (done b) t → Gives g (many turn a) s b t
unfolding many
last_turn turn one = gives _ (last one.reads)

pub one_turn : {g : Given} {A : Type 0} (turn : A → Form (Step A)) {a b c : A} {s t u : State} →
    Gives g (turn a) s (again b) t → leads_on g s t ≡ true → Gives g (many turn b) t c u → Gives g (many turn a) s c u
unfolding many
one_turn turn one on rest = gives _ (more one.reads on rest.reads)

-- no row goes back
pub gives_on : {g : Given} {X : Type 0} (r : Form X) (s : State) (x : X) (t : State) → Gives g r s x t → s.at ≤ t.at
gives_on {g = g} r s x t one =
    subst (Holds (AtOrAfter s)) (sym ((computed_is_only r g s).only _ _ one.reads)) (no_form_goes_back r Whole g s).told
