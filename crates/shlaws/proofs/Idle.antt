-- A repetition that never moves rests, and has no outcome where each turn leads on.
use Rattle.std.proofs.Common.{◌≡◌, false, Ok, List as Row, [], arith}
use Rattle.std.proofs.lemmas.Bool.{both_ways, le-ltb}
use Rattle.shgrammar.specs.Form.{Read, Spelled, just, leads_on, many, may, rests}
use Rattle.shgrammar.specs.Sights.{Given, State}
use Rattle.shlaws.specs.Onward.{idle, last as last_on, more as more_on, halts as halts_on, may_onward}

-- from a state to itself as much is left
stays : (g : Given) (s : State) → leads_on g s s ≡ false
stays g s = le-ltb _ _ (omega arith)

-- it may rest where it begins, without a token passed
pub idle_rests : (g : Given) (s : State) → may idle g s (Ok (tt, s)) []
unfolding many
idle_rests g s = rests just (stays g s)

-- where each turn leads on, it comes to no end and to no fault
pub idle_never : (g : Given) (s : State) (y : Read (Unit {0})) (k : Row Spelled) → may_onward idle g s y k → ⊥
unfolding many
idle_never g s y k (more_on just on then) = both_ways (leads_on g s s) (stays g s) on
idle_never g s y k (last_on p) = elim p [ ]
idle_never g s y k (halts_on p) = elim p [ ]
