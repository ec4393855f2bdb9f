-- What is made of forms comes where these come: one law for each case of `may`.
use Rattle.std.proofs.Common.{◌≡◌, ℕ, Bool, Ok, Err, List as Row, sym, subst, ◌∙◌}
use Rattle.shgrammar.specs.declared.fault.FaultKind.{FaultKind}
use Rattle.shgrammar.specs.Form.{Comes, Read, Spelled, Step, Telling, Just, Then, and_then, or_stops, Either, holds, fails, OneToken, whole, broken_off, Turns, last, rests, more, halts, Ending, goes_through, stops_inside, WithBytes, with_its_bytes, without_bytes, OwnLevel, level_read, level_stops}
use Rattle.shgrammar.specs.HereDocuments.{own_level}
use Rattle.shgrammar.specs.Sights.{Given, State}

-- what comes by the one comes by the other
abbrev pub Each : {X : Type 0} → Comes X → Comes X → Type 0
Each {X = X} r q = (s : State) (y : Read X) (k : Row Spelled) → r s y k → q s y k

-- one value that is given, where it is the other
pub each_just : {X : Type 0} {x z : X} {s : State} → x ≡ z → (y : Read X) (k : Row Spelled) → Just x s y k →
    Just z s y k
each_just {s = s} same y k part = subst (λ z. Just z s y k) same part

-- one form and then another, and one form or another
pub each_then : {X Y : Type 0} {r r2 : Comes X} {q q2 : X → Comes Y} → Each r r2 → ((x : X) → Each (q x) (q2 x)) →
    Each (Then r q) (Then r2 q2)
each_then one two s y k (and_then {x = x} {t = t} {k = k1} {l = l} p rest) =
    and_then (one s (Ok (x, t)) k1 p) (two x t y l rest)
each_then one two s y k (or_stops {f = f} p) = or_stops (one s (Err f) k p)

pub each_either : {X : Type 0} {r r2 q q2 : Comes X} {b c : Bool} → b ≡ c → Each r r2 → Each q q2 →
    (s : State) (y : Read X) (k : Row Spelled) → Either b r q s y k → Either c r2 q2 s y k
each_either same one two s y k (holds is p) = holds (sym same ∙ is) (one s y k p)
each_either same one two s y k (fails is p) = fails (sym same ∙ is) (two s y k p)

-- what is read as one token, told the same way
pub each_token : {X : Type 0} (told : Telling) (g : Given) {r r2 : Comes X} → Each r r2 →
    Each (OneToken told g r) (OneToken told g r2)
each_token told g one s y k (whole {x = x} {t = t} {k = k1} p) = whole (one s (Ok (x, t)) k1 p)
each_token told g one s y k (broken_off {f = f} p) = broken_off (one s (Err f) k p)

-- a repetition, where each turn of the one comes by the other
pub each_turns : {A : Type 0} (g : Given) {turn turn2 : A → Comes (Step A)} → ((a : A) → Each (turn a) (turn2 a)) →
    (a : A) (s : State) (y : Read A) (k : Row Spelled) → Turns g turn a s y k → Turns g turn2 a s y k
each_turns g one a s y k (last p) = last (one a s _ k p)
each_turns g one a s y k (rests p still) = rests (one a s _ k p) still
each_turns g one a s y k (more {b = b} {t = t} {k = k1} {l = l} p on next) =
    more (one a s _ k1 p) on (each_turns g one b t y l next)
each_turns g one a s y k (halts p) = halts (one a s _ k p)

-- what has a fault of its own where the text ends in it
pub each_ending : {X : Type 0} (kind : FaultKind) (at : ℕ) {r r2 : Comes X} → Each r r2 →
    Each (Ending kind at r) (Ending kind at r2)
each_ending kind at one s y k (goes_through p) = goes_through (one s _ k p)
each_ending kind at one s y k (stops_inside p) = stops_inside (one s _ k p)

-- what is read with its bytes, and in a level of its own
pub each_bytes : {X : Type 0} (g : Given) {r r2 : Comes X} → Each r r2 → Each (WithBytes g r) (WithBytes g r2)
each_bytes g one s y k (with_its_bytes p) = with_its_bytes (one s _ k p)
each_bytes g one s y k (without_bytes p) = without_bytes (one s _ k p)

pub each_level : {X : Type 0} {r r2 : Comes X} → Each r r2 → Each (OwnLevel r) (OwnLevel r2)
each_level one s y k (level_read p) = level_read (one (own_level s) _ k p)
each_level one s y k (level_stops p) = level_stops (one (own_level s) _ k p)
