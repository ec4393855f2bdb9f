-- The bodies that a reading holds end before the place where it stands.
use Rattle.std.proofs.Common.{◌≡◌, ℕ, ◌+◌, ◌≤◌, Result, Ok, Err, List as Row, [], ◌∷◌, ◌++◌, Option, Some, None, refl, subst, arith, sym, false, ⊎_elim}
use Rattle.std.specs.Prelude.{All}
use Rattle.std.proofs.lemmas.Bool.{cases_lt}
use Rattle.std.proofs.lemmas.List.Elements.{All-push}
use Rattle.shgrammar.specs.declared.keep.Keep.TheVariants.{Whole}
use Rattle.shast.specs.declared.tree.Span.{Span}
use Rattle.shast.specs.Nodes.{IsSpanWithin}
use Rattle.shgrammar.specs.declared.fault.Fault.{Fault}
use Rattle.shgrammar.specs.Comments.{span}
use Rattle.shgrammar.specs.Sights.{Given, State, Waiting}
use Rattle.shgrammar.specs.HereDocuments.{Change, waits, bodies_here, changed, past_line, delimiter_from, body_by, bodies_from, state_by, with_waiting}
use Rattle.shgrammar.specs.Form.{Form, give, see, move, push, stop, both, when, token, loop, ends_as, change, with_bytes, a_level, Step, again, done, in_substitution}
use Rattle.shgrammar.proofs.Places.{next_newline_low}
use Rattle.shgrammar.proofs.Delimiters.{delimiter_between, bodies_low}
use Rattle.shgrammar.proofs.Holds.{Tells, Turned, tells_any, tells_change, tells_ending, tells_level, tells_loop, tells_so, tells_then, tells_token, tells_when, tells_with_bytes, no_form_goes_back, tells_inside}

module _ (g : Given) (limit : ℕ) where
  -- the reading does not stand above the limit
  abbrev Before : State → Type 0
  Before s = g.offset + s.at ≤ limit

  -- no body that is held is above the limit
  abbrev pub HoldsWithin : State → Type 0
  HoldsWithin s = All (IsSpanWithin limit) s.bodies

  -- of what begins above the limit nothing is said, since no form goes back
  pub unless_above : {X : Type 0} {P : X → State → Type 0} (r : Form X) (s : State) →
      (Before s → Tells Whole g r (λ x t. Before t → P x t) s) → Tells Whole g r (λ x t. Before t → P x t) s
  unless_above r s so =
      ⊎_elim (λ lt. tells_so Whole g (no_form_goes_back r Whole g s) (λ x t on. λ b. absurd (omega (arith, lt, on, b))))
      (λ ge. so (omega (arith, ge))) (cases_lt limit (g.offset + s.at))

  -- ---- the bodies after a newline

  -- one body, and then the others that wait
  body_step : (w : Waiting) (ws : Row Waiting) (bodies : Row Span) (p : ℕ) (x : Row Span × ℕ) → g.offset + x.1 ≤ limit →
      All (IsSpanWithin limit) bodies
      → ((bs : Row Span) (q : ℕ) → bodies_from g ws bs q ≡ Ok x → All (IsSpanWithin limit) bs →
      All (IsSpanWithin limit) x.0)
      → (o : Option ℕ) → delimiter_from g.text w p ≡ o → body_by (bodies_from g ws) g w bodies p o ≡ Ok x →
      All (IsSpanWithin limit) x.0
  body_step w ws bodies p x le all more None none read = absurd cc
  body_step w ws bodies p x le all more (Some q) found read =
      let one = delimiter_between g.text w false p q found in
      let onward = bodies_low g ws (bodies ++ span g.offset p q ∷ []) (past_line g.text q) x read in
      let ends : g.offset + q ≤ limit = omega (arith, le, one.1, onward, next_newline_low g.text q) in
      more (bodies ++ span g.offset p q ∷ []) (past_line g.text q) read
      (All-push (IsSpanWithin limit) bodies (span g.offset p q) all (omega (arith, ends, one.0), ends))

  -- if the place after them is not above the limit, no body that was read is
  bodies_within : (ws : Row Waiting) (bodies : Row Span) (p : ℕ) (x : Row Span × ℕ) → bodies_from g ws bodies p ≡ Ok x →
      g.offset + x.1 ≤ limit → All (IsSpanWithin limit) bodies
      → All (IsSpanWithin limit) x.0
  unfolding bodies_from
  bodies_within [] bodies p x read le all = let is : (bodies, p) ≡ x = cc in
      subst (λ (y : Row Span × ℕ). All (IsSpanWithin limit) y.0) is all
  bodies_within (w ∷ ws) bodies p x read le all =
      body_step w ws bodies p x le all (λ bs q read_on. bodies_within ws bs q x read_on le)
      (delimiter_from g.text w p) refl read

  -- so it is after a newline, and after any change
  state_within : (s t : State) → HoldsWithin s → Before t → (x : Result (Row Span × ℕ) Fault) →
      bodies_from g s.waiting s.bodies s.at ≡ x → state_by x ≡ Ok t → HoldsWithin t
  state_within s t so b (Ok x) read is =
      let same : record { at = x.1; waiting = []; bodies = x.0 } ≡ t = cc in
      let le : g.offset + x.1 ≤ limit = subst (λ (u : State). g.offset + u.at ≤ limit) (sym same) b in
      subst HoldsWithin same (bodies_within s.waiting s.bodies s.at x read le so)
  state_within s t so b (Err f) read is = absurd cc

  change_within : (c : Change) (s t : State) → HoldsWithin s → Before t → changed c g s ≡ Ok t → HoldsWithin t
  change_within (waits w) s t so b is = let same : with_waiting w s ≡ t = cc in subst HoldsWithin same so
  change_within bodies_here s t so b is = state_within s t so b (bodies_from g s.waiting s.bodies s.at) refl is

  -- ---- all forms

  -- no form reads a body above the limit, unless it ends above it
  pub bodies_in_limit : {X : Type 0} (r : Form X) (s : State) → HoldsWithin s →
      Tells Whole g r (λ x t. Before t → HoldsWithin t) s
  bodies_in_limit (give x) s so = record { told = λ b. so }
  bodies_in_limit (see f) s so = record { told = λ b. so }
  bodies_in_limit (move m) s so = record { told = λ b. so }
  bodies_in_limit (push xs x) s so = record { told = λ b. so }
  bodies_in_limit (stop kind at) s so = record { told = tt }
  bodies_in_limit (both r q) s so = tells_then Whole g (bodies_in_limit r s so)
      (λ a t there. unless_above (q a) t (λ b. bodies_in_limit (q a) t (there b)))
  bodies_in_limit (when f r q) s so = tells_when Whole g (bodies_in_limit r s so) (bodies_in_limit q s so)
  bodies_in_limit (token how r) s so = tells_token Whole g (bodies_in_limit r s so) (λ a t there. there)
  bodies_in_limit {X = X} (loop turn a) s so =
      tells_loop Whole g turn (λ b t. Before t → HoldsWithin t)
      (λ b t there. tells_so Whole g (unless_above (turn b) t (λ c. bodies_in_limit (turn b) t (there c))) turned) a s
      (λ b. so)
    where
      turned : (c : Step X) (u : State) → (Before u → HoldsWithin u) →
          Turned Whole g (λ b t. Before t → HoldsWithin t) c u
      turned (again c) u there = there
      turned (done c) u there = there
  bodies_in_limit (ends_as kind at r) s so = tells_ending Whole g (bodies_in_limit r s so)
  bodies_in_limit (change c) s so = tells_change Whole g (λ t is. λ b. change_within c s t so b is)
  bodies_in_limit (with_bytes r) s so = tells_with_bytes Whole g (bodies_in_limit r s so) (λ a t there. there)
  -- after a level the bodies are those before it
  bodies_in_limit (a_level r) s so = tells_level Whole g {r = r} {s = s} (tells_any Whole g) (λ a t there. λ b. so)
  bodies_in_limit (in_substitution r) s so = tells_inside Whole g (bodies_in_limit r s so)
