-- What a form reads before a newline it reads in each text that has the bytes up to
-- there: one induction, for every row.
use Rattle.std.proofs.Common.{◌≡◌, ℕ, ◌+◌, ◌-◌, ◌≤◌, ◌<◌, true, false, ltb, Ok, Err, List, List as Row, [], ◌∷◌, length, refl, sym, ap, subst, ◌∙◌, arith, ⊎_elim}
use Rattle.std.proofs.lemmas.Bool.{ltb-true, lt-ltb, cases_lt, cases_Bool}
use Rattle.std.proofs.lemmas.Option.{slice_get_within}
use Rattle.shgrammar.specs.declared.keep.Keep.TheVariants.{Whole}
use Rattle.shgrammar.specs.declared.fault.FaultKind.{FaultKind}
use Rattle.shgrammar.specs.declared.mode.Mode.{Mode}
use Rattle.shgrammar.specs.declared.mode.Mode.TheVariants.{Plain, Double, Brace, DoubleBrace, Arith}
use Rattle.shast.specs.declared.tree.Span.{Span}
use Rattle.shast.specs.Shape.{bare}
use Rattle.shgrammar.specs.Comments.{span}
use Rattle.shgrammar.specs.Sights.{Given, given, State, Sight, here, the_byte, the_piece, the_rest, the_end, a_raw, last_backslash, the_token, the_comment, is_a_name, a_document_waits, seen, the_delimiter}
use Rattle.shgrammar.specs.HereDocuments.{Change, changed, own_level}
use Rattle.shgrammar.specs.Form.{change, with_bytes, a_level, Changed, changes, cannot, WithBytes, with_its_bytes, without_bytes, OwnLevel, level_read, level_stops, Spelled, Telling, untold, as_it_stands, bared, by, tell, Read, Form, give, see, move, push, stop, both, when, token, loop, ends_as, Step, again, done, Just, just, Halts, halted, Then, and_then, or_stops, holds, fails, raw, OneToken, whole, broken_off, leads_on, Turns, last, rests, more, halts, Ending, goes_through, stops_inside, moved_on, may, in_substitution}
use Rattle.shgrammar.proofs.OneOutcome.{computed_is_only}
use Rattle.shgrammar.proofs.Holds.{Holds, AtOrAfter, no_form_goes_back}
use Rattle.shgrammar.proofs.Ahead.{ListEnds, same_name, same_place, same_next}
use Rattle.shgrammar.proofs.BodiesThere.{change_there}
use Rattle.shgrammar.proofs.Asked.{Good, NoBracket, newline_near, good_high, moves, same_end_here, same_raw_stands, same_last_backslash, same_comment, same_piece, same_mode, same_raw, to_apart}
use Rattle.shgrammar.specs.declared.edition.Edition.{Edition}
use Rattle.shgrammar.specs.Tokens.{next_in}
use Rattle.shgrammar.specs.Pieces.{piece_in}

-- what may be read is not before where it begins
pub read_at_or_after : {X : Type 0} (r : Form X) (g : Given) (s : State) (y : Read X) (k : Row Spelled) →
    may r g s y k → Holds (AtOrAfter s) y
read_at_or_after r g s y k part =
    subst (Holds (AtOrAfter s)) (sym ((computed_is_only r g s).only y k part)) (no_form_goes_back r Whole g s).told

-- two that say the same of less
pub less_same : (x y z w : ℕ) → (x < y → z < w) → (z < w → x < y) → ltb z w ≡ ltb x y
less_same x y z w one two =
    ⊎_elim (λ lt. lt-ltb z w (one lt) ∙ sym (lt-ltb x y lt))
    (λ ge. ⊎_elim (λ lt. let no = two lt in absurd (omega (arith, no, ge)))
    (λ other. not_less z w other ∙ sym (not_less x y ge)) (cases_lt z w)) (cases_lt x y)
  where
    not_less : (m n : ℕ) → n ≤ m → ltb m n ≡ false
    not_less m n le = ⊎_elim (λ (e : ltb m n ≡ true). let lt = ltb-true m n e in absurd (omega (arith, lt, le)))
        (λ (e : ltb m n ≡ false). e) (cases_Bool (ltb m n))

module _ {edition : Edition} {T U : List ℕ} {a M : ℕ} {to : ℕ → ℕ} (E : ListEnds edition T U a M to 10) (o o2 : ℕ)
    (off : (p : ℕ) → a ≤ p → o2 + to p ≡ o + p) where
  -- what is looked for ahead from p on is found before the newline at M, or at it
  abbrev G : ℕ → Type 0
  G p = Good T a M p

  -- what is given of both texts
  abbrev g : Given
  g = given edition T o

  abbrev h : Given
  h = given edition U o2

  -- the state, elsewhere
  abbrev pub there : State → State
  there s = record { at = to s.at; waiting = s.waiting; bodies = s.bodies }

  abbrev pub elsewhere : {X : Type 0} → Read X → Read X
  elsewhere (Ok (x, t)) = Ok (x, there t)
  elsewhere (Err f) = Err f

  -- it ends at a good place
  abbrev pub Ends : {X : Type 0} → Read X → Type 0
  Ends (Ok (x, t)) = G t.at
  Ends (Err f) = ⊥

  -- spans have the same offsets in both texts
  spans : (p q : ℕ) → a ≤ p → a ≤ q → span o2 (to p) (to q) ≡ span o p q
  spans p q low_p low_q = rw (off p low_p, off q low_q) refl

  -- what ends the line is no `)`, which arithmetic looks for
  no_bracket : (mode : Mode) → NoBracket E mode
  no_bracket Plain = tt
  no_bracket Double = tt
  no_bracket Brace = tt
  no_bracket DoubleBrace = tt
  no_bracket Arith = refl

  -- what may be seen is the same
  same_seen : {X : Type 0} (l : Sight X) (s : State) → a ≤ s.at → G s.at → seen l h (there s) ≡ seen l g s
  same_seen here s from good = off s.at from
  same_seen the_byte s from good =
      rw (same_place E good) (off _ (omega (arith, from, Rattle.shgrammar.proofs.Stretches.place_low T s.at)))
  same_seen (the_piece mode n) s from good =
      ap (piece_in edition mode) (same_piece E mode n s.at (no_bracket mode) good)
  same_seen (the_rest mode) s from good = same_mode E mode s.at good
  same_seen the_end s from good = same_end_here E s.at from good
  same_seen (a_raw c) s from good = same_raw_stands E s.at c from (good_high E good)
  same_seen last_backslash s from good = same_last_backslash E s.at from good
  same_seen (the_token position) s from good = ap (next_in edition) (same_next E position good)
  same_seen the_comment s from good =
      same_comment E o o2 spans s.at good (λ e. newline_near E refl s.at (good_high E good))
  same_seen is_a_name s from good = same_name E good
  same_seen a_document_waits s from good = refl
  same_seen (the_delimiter bytes) s from good = refl

  -- ---- whether a turn leads on

  -- a byte stands at M, and one at its place in the second text
  long : M < length T
  long = slice_get_within T M 10 E.byte

  long_there : to M < length U
  long_there = slice_get_within U (to M) 10 (E.kept.same M E.under (omega arith) ∙ E.byte)

  -- a turn leads on there just where it does here
  same_leads : (s t : State) → a ≤ s.at → s.at ≤ t.at → t.at ≤ M → leads_on h (there s) (there t) ≡ leads_on g s t
  same_leads s t from onward le =
      let one = to_apart E s.at t.at from onward in
      let two = to_apart E t.at M (omega (arith, from, onward)) le in
      less_same (length T - t.at) (length T - s.at) (length U - to t.at) (length U - to s.at)
      (λ lt. omega (arith, lt, one, two, long, long_there, onward, le))
      (λ lt. omega (arith, lt, one, two, long, long_there, onward, le))

  -- ---- every form

  -- what holds of what is given, or of a fault, holds of all that may be read so
  just_in : {X : Type 0} {x : X} {t : State} (P : Read X → Row Spelled → Type 0) → P (Ok (x, t)) [] →
      (y : Read X) (k : Row Spelled) → Just x t y k → P y k
  just_in P so y k just = so

  halts_in : {X : Type 0} (P : Read X → Row Spelled → Type 0) (f : _) → P (Err f) [] → (y : Read X) (k : Row Spelled) →
      Halts {X = X} f y k → P y k
  halts_in P f so y k halted = so

  -- what r reads in the first text up to a good place it reads in the second, from a good place on
  abbrev Back : {X : Type 0} → Form X → State → Read X → Row Spelled → Type 0
  Back r s y k = Ends y → G s.at × may r h (there s) (elsewhere y) k

  -- one form and then another
  both_back : {X Y : Type 0} (r : Form X) (q : X → Form Y) (s : State) →
      ((y : Read X) (k : Row Spelled) → may r g s y k → Back r s y k)
      → ((x : X) (t : State) → a ≤ t.at → (y : Read Y) (k : Row Spelled) → may (q x) g t y k → Back (q x) t y k) →
      a ≤ s.at → (y : Read Y) (k : Row Spelled) → Then (may r g) (λ x. may (q x) g) s y k → Back (both r q) s y k
  both_back r q s first rest from y k (and_then {x = x} {t = t} {k = k1} {l = l} one two) good =
      let b = rest x t (omega (arith, from, read_at_or_after r g s (Ok (x, t)) k1 one)) y l two good in
      let c = first (Ok (x, t)) k1 one b.0 in
      (c.0, and_then c.1 b.1)
  both_back r q s first rest from y k (or_stops one) good = absurd good

  -- the same bytes are told the same
  same_tell : (how : Telling) (p q u v : ℕ) → raw U u v ≡ raw T p q → tell how U u v ≡ tell how T p q
  same_tell untold p q u v same = refl
  same_tell as_it_stands p q u v same = ap (λ z. z ∷ []) same
  same_tell bared p q u v same = ap (λ z. bare z ∷ []) same
  same_tell (by text) p q u v same = refl

  -- the same of a token, and of a form in which the end is told by another fault
  token_back : {X : Type 0} (how : Telling) (r : Form X) (s : State) →
      ((y : Read X) (k : Row Spelled) → may r g s y k → Back r s y k) → a ≤ s.at →
      (y : Read (X × Span)) (k : Row Spelled) → OneToken how g (may r g) s y k → Back (token how r) s y k
  token_back {X = X} how r s first from y k (whole {x = x} {t = t} {k = k1} part) good =
      let w = first (Ok (x, t)) k1 part good in
      let onward = read_at_or_after r g s (Ok (x, t)) k1 part in
      let same = spans s.at t.at from (omega (arith, from, onward)) in
      let told = same_tell how s.at t.at (to s.at) (to t.at)
      (same_raw E s.at t.at from (omega (arith, from, onward)) (good_high E good)) in (
        w.0,
        subst (λ (z : Span). OneToken how h (may r h) (there s) (Ok ((x, z), there t)) (tell how T s.at t.at)) same
            (subst (λ (z : Row Spelled). OneToken how h (may r h) (there s)
            (Ok ((x, span o2 (to s.at) (to t.at)), there t)) z) told (whole w.1)),
      )
  token_back how r s first from y k (broken_off part) good = absurd good

  ending_back : {X : Type 0} (kind : FaultKind) (at : ℕ) (r : Form X) (s : State) →
      ((y : Read X) (k : Row Spelled) → may r g s y k → Back r s y k) → (y : Read X) (k : Row Spelled)
      → Ending kind at (may r g) s y k → Back (ends_as kind at r) s y k
  ending_back kind at r s first y k (goes_through {x = x} {t = t} part) good = let w = first (Ok (x, t)) k part good in
      (w.0, goes_through w.1)
  ending_back kind at r s first y k (stops_inside part) good = absurd good

  -- the same of what waits, of the bytes of what is read, and of a level of its own
  change_back : (c : Change) (s : State) → a ≤ s.at → (y : Read (Unit {0})) (k : Row Spelled) →
      Changed (changed c g s) y k → Back (change c) s y k
  change_back c s from y k (changes {t = t} is) good = let w = change_there E o o2 off c s t from good is in
      (w.0, changes w.1)
  change_back c s from y k (cannot is) good = absurd good

  bytes_back : {X : Type 0} (r : Form X) (s : State) → ((y : Read X) (k : Row Spelled) → may r g s y k → Back r s y k) →
      a ≤ s.at → (y : Read (X × Spelled)) (k : Row Spelled) → WithBytes g (may r g) s y k
      → Back (with_bytes r) s y k
  bytes_back {X = X} r s first from y k (with_its_bytes {x = x} {t = t} {k = k1} part) good =
      let w = first (Ok (x, t)) k1 part good in
      let onward = read_at_or_after r g s (Ok (x, t)) k1 part in (
        w.0,
        subst (λ (z : Spelled). WithBytes h (may r h) (there s) (Ok ((x, z), there t)) k1)
            (same_raw E s.at t.at from (omega (arith, from, onward)) (good_high E good)) (with_its_bytes w.1),
      )
  bytes_back r s first from y k (without_bytes part) good = absurd good

  level_back : {X : Type 0} (r : Form X) (s : State) →
      ((y : Read X) (k : Row Spelled) → may r g (own_level s) y k → Back r (own_level s) y k) →
      (y : Read (X × Row Span)) (k : Row Spelled) → OwnLevel (may r g) s y k
      → Back (a_level r) s y k
  level_back r s first y k (level_read {x = x} {t = t} part) good = let w = first (Ok (x, t)) k part good in
      (w.0, level_read w.1)
  level_back r s first y k (level_stops part) good = absurd good

  module _ {A : Type 0} (turn : A → Form (Step A))
      (each : (b : A) (s : State) → a ≤ s.at → (y : Read (Step A)) (k : Row Spelled) → may (turn b) g s y k →
      Back (turn b) s y k) where
    -- the same of turns
    loop_back : (b : A) (s : State) (y : Read A) (k : Row Spelled) → Turns g (λ c. may (turn c) g) b s y k → a ≤ s.at →
        Ends y → G s.at × Turns h (λ c. may (turn c) h) b (there s) (elsewhere y) k
    loop_back b s y k (last {b = c} {t = t} part) from good = let w = each b s from (Ok (done c, t)) k part good in
        (w.0, last w.1)
    loop_back b s y k (rests {b = c} {t = t} part off') from good =
        let w = each b s from (Ok (again c, t)) k part good in
        let onward = read_at_or_after (turn b) g s (Ok (again c, t)) k part in
        (w.0, rests w.1 (same_leads s t from onward (good_high E good) ∙ off'))
    loop_back b s y k (more {b = c} {t = t} {k = k1} part on' rest) from good =
        let onward = read_at_or_after (turn b) g s (Ok (again c, t)) k1 part in
        let r = loop_back c t y _ rest (omega (arith, from, onward)) good in
        let w = each b s from (Ok (again c, t)) k1 part r.0 in
        (w.0, more w.1 (same_leads s t from onward (good_high E r.0) ∙ on') r.1)
    loop_back b s y k (halts part) from good = absurd good

  -- and so of each form
  pub reads_the_same : {X : Type 0} (r : Form X) (s : State) → a ≤ s.at → (y : Read X) (k : Row Spelled) →
      may r g s y k → Back r s y k
  reads_the_same (give x) s from y k part = just_in (Back (give x) s) (λ good. (good, just)) y k part
  reads_the_same {X = X} (see l) s from y k part =
      just_in (Back (see l) s) (λ good. (
        good,
        subst (λ (z : X). Just (seen l h (there s)) (there s) (Ok (z, there s)) [])
            (same_seen l s from good) just,
      )) y k part
  reads_the_same (move m) s from y k part =
      just_in (Back (move m) s) (λ good. let w = moves E m s.at from good in (
        w.0,
        subst (λ (z : ℕ). Just tt (moved_on m h (there s))
            (Ok (tt, record { at = z; waiting = s.waiting; bodies = s.bodies })) []) w.1 just,
      )) y k part
  reads_the_same (push xs x) s from y k part = just_in (Back (push xs x) s) (λ good. (good, just)) y k part
  reads_the_same (stop kind at) s from y k part = halts_in (Back (stop kind at) s) _ (λ good. absurd good) y k part
  reads_the_same (both r q) s from y k part =
      both_back r q s (reads_the_same r s from) (λ x t. reads_the_same (q x) t) from y k part
  reads_the_same (when l r q) s from y k (holds e part) = λ good. let w = reads_the_same r s from y k part good in
      (w.0, holds (same_seen l s from w.0 ∙ e) w.1)
  reads_the_same (when l r q) s from y k (fails e part) = λ good. let w = reads_the_same q s from y k part good in
      (w.0, fails (same_seen l s from w.0 ∙ e) w.1)
  reads_the_same (token how r) s from y k part = token_back how r s (reads_the_same r s from) from y k part
  reads_the_same (loop turn b) s from y k part = loop_back turn (λ c t. reads_the_same (turn c) t) b s y k part from
  reads_the_same (ends_as kind at r) s from y k part = ending_back kind at r s (reads_the_same r s from) y k part
  reads_the_same (change c) s from y k part = change_back c s from y k part
  reads_the_same (with_bytes r) s from y k part = bytes_back r s (reads_the_same r s from) from y k part
  reads_the_same (a_level r) s from y k part = level_back r s (reads_the_same r (own_level s) from) y k part
  reads_the_same (in_substitution r) s from y k part = reads_the_same r s from y k part
