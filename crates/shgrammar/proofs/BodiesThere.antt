-- Bodies that end at a newline before a limit, or with it, end there in each text that
-- has the bytes up to the limit.
use Rattle.std.proofs.Common.{◌≡◌, ℕ, zero, suc, ◌+◌, ◌-◌, ◌==◌, ◌<◌, ◌≤◌, true, false, not, List, [], ◌∷◌, ◌++◌, List as Row, length, map, take, drop, Option, option_map, Some, None, Ok, Err, slice_get, get_or, refl, sym, ap, subst, ◌∙◌, ◌⊎◌, inl, inr, arith, ⊎_elim}
use Rattle.std.specs.Prelude.{Result}
use Rattle.std.proofs.lemmas.Bool.{cases_lt}
use Rattle.std.proofs.lemmas.Bool.Decides.{nat_tests}
use Rattle.std.proofs.lemmas.List.{length-take-le, length-drop, map-append, take-append-drop}
use Rattle.std.proofs.lemmas.Option.{slice_get_past, slice_get_within, slice_get-get_or}
use Rattle.shgrammar.specs.Characters.{newline_char}
use Rattle.shgrammar.specs.declared.keep.Keep.{Keep}
use Rattle.shast.specs.declared.tree.Span.{Span}
use Rattle.shgrammar.specs.declared.fault.Fault.{Fault}
use Rattle.shgrammar.specs.Standing.{at_end, is_byte, is_none, passes, raw_in, raw_stands, next_newline}
use Rattle.shgrammar.specs.Sights.{Given, given, State, Waiting}
use Rattle.shgrammar.specs.HereDocuments.{Change, waits, bodies_here, changed, past_line, delimiter_from, body_by, bodies_from, state_by, with_waiting, first_waiting}
use Rattle.shgrammar.specs.Form.{Read, change, does, nothing_read, raw}
use Rattle.shgrammar.proofs.Stretches.{get_drop}
use Rattle.shgrammar.proofs.Places.{raw_past_stops}
use Rattle.shgrammar.proofs.SameBytes.{byte_other, no_backslash}
use Rattle.shgrammar.proofs.Ahead.{ListEnds}
use Rattle.shgrammar.proofs.Asked.{Good, good_high, good_over, same_raw_to, to_apart}
use Rattle.shgrammar.proofs.Delimiters.{bodies_low}
use Rattle.shgrammar.proofs.BodiesAlone.{is_whole_lines, same_bodies}
use Rattle.shgrammar.proofs.Shifted.{shifted, span_from, waiting_from, state_from, bodies_from_moved, twice_spans, twice_waits}
use Rattle.shgrammar.specs.declared.edition.Edition.{Edition}

-- ---- the newline before the place where bodies end

-- a line that ends before the text does ends at a newline, and a newline stands before the next one
newline_is : (T : List ℕ) (p : ℕ) → p < length T → raw_in (λ b. not (b == newline_char)) T p ≡ false →
    slice_get T p ≡ Some 10
unfolding raw_in
newline_is T p lt stops =
    let is : slice_get T p ≡ Some (get_or T p 0) = slice_get-get_or T p 0 lt in
    let e : not (get_or T p 0 == newline_char) ≡ false = sym (ap (passes (λ b. not (b == newline_char))) is) ∙ stops in
    let ten : get_or T p 0 ≡ 10 = grind (arith, nat_tests, e) in
    is ∙ ap (λ (b : ℕ). Some b) ten

past_ends : (T : List ℕ) (q : ℕ) → past_line T q < length T → slice_get T (past_line T q - 1) ≡ Some 10
past_ends T q lt =
    let is : past_line T q - 1 ≡ next_newline T q = omega (arith, lt) in
    ap (slice_get T) is ∙ newline_is T (next_newline T q) (omega (arith, lt))
    (raw_past_stops (λ b. not (b == newline_char)) T q)

module _ (g : Given) where
  -- by where the line of the first delimiter begins
  before_step : (w : Waiting) (ws : Row Waiting) (bodies : Row Span) (p : ℕ) (x : Row Span × ℕ) → x.1 < length g.text →
      p < x.1
      → ((bs : Row Span) (q : ℕ) → bodies_from g ws bs q ≡ Ok x → q < x.1 → slice_get g.text (x.1 - 1) ≡ Some 10)
      → (o : Option ℕ) → body_by (bodies_from g ws) g w bodies p o ≡ Ok x → slice_get g.text (x.1 - 1) ≡ Some 10
  before_step w ws bodies p x within on more None read = absurd cc
  before_step w ws bodies p x within on more (Some q) read =
      ⊎_elim (λ lt. more _ (past_line g.text q) read lt)
      (λ ge. let is : past_line g.text q ≡ x.1 = omega (arith, ge, bodies_low g ws _ (past_line g.text q) x read) in
      subst (λ (n : ℕ). slice_get g.text (n - 1) ≡ Some 10) is (past_ends g.text q (omega (arith, is, within))))
      (cases_lt (past_line g.text q) x.1)

  -- where bodies end before the text does, a newline stands before
  pub newline_before : (ws : Row Waiting) (bodies : Row Span) (p : ℕ) (x : Row Span × ℕ) →
      bodies_from g ws bodies p ≡ Ok x → x.1 < length g.text → p < x.1 → slice_get g.text (x.1 - 1) ≡ Some 10
  unfolding bodies_from
  newline_before [] bodies p x read within on = let is : (bodies, p) ≡ x = cc in
      let same : p ≡ x.1 = ap (λ (y : Row Span × ℕ). y.1) is in absurd (omega (arith, same, on))
  newline_before (w ∷ ws) bodies p x read within on =
      before_step w ws bodies p x within on (λ bs q more lt. newline_before ws bs q x more within lt)
      (delimiter_from g.text w p) read

-- the state after what was read, or s where there was a fault
abbrev ended_in : State → Read (Unit {0}) → State
ended_in s (Ok (x, t)) = t
ended_in s (Err f) = s

-- bodies that begin just past a newline end just past one, or where the text ends
ends_by : (g : Given) (s t : State) (x : Result (Row Span × ℕ) Fault) → bodies_from g s.waiting s.bodies s.at ≡ x →
    nothing_read (state_by x) ≡ Ok (tt, t) → raw_stands g.text (s.at - 1) newline_char ≡ true
    → (raw_stands g.text (t.at - 1) newline_char ≡ true) ⊎ (at_end g.text t.at ≡ true)
unfolding raw_stands at_end
ends_by g s t (Ok x) read is newline =
    let same : record { at = x.1; waiting = []; bodies = x.0 } ≡ t = ap (ended_in s) is in
    let at : x.1 ≡ t.at = ap (λ (v : State). v.at) same in
    ⊎_elim
    (λ on. ⊎_elim
    (λ lt. inl (ap (λ n. is_byte (slice_get g.text (n - 1)) newline_char) (sym at)
    ∙ ap (λ o. is_byte o newline_char) (newline_before g s.waiting s.bodies s.at x read lt on)))
    (λ ge. inr (ap is_none (slice_get_past g.text t.at (omega (arith, at, ge))))) (cases_lt x.1 (length g.text)))
    (λ ge. let still : t.at ≡ s.at = omega (arith, at, ge, bodies_low g s.waiting s.bodies s.at x read) in
    inl (ap (λ n. is_byte (slice_get g.text (n - 1)) newline_char) still ∙ newline)) (cases_lt s.at x.1)
ends_by g s t (Err f) read is newline = absurd cc

-- the same of the change that reads them
pub ends_line : (keep : Keep) (g : Given) (s t : State) → does (change bodies_here) keep g s ≡ Ok (tt, t) →
    raw_stands g.text (s.at - 1) newline_char ≡ true →
    (raw_stands g.text (t.at - 1) newline_char ≡ true) ⊎ (at_end g.text t.at ≡ true)
ends_line keep g s t is newline = ends_by g s t (bodies_from g s.waiting s.bodies s.at) refl is newline

-- bytes of which the last is a newline
whole_lines_take : (n : ℕ) (X : List ℕ) → slice_get X n ≡ Some 10 → is_whole_lines (take (suc n) X) ≡ true
unfolding is_whole_lines
whole_lines_take n [] is = absurd cc
whole_lines_take zero (b ∷ X) is = let ten : b ≡ 10 = cc in grind (arith, nat_tests, ten)
whole_lines_take (suc n) (b ∷ []) is = absurd cc
whole_lines_take (suc n) (b ∷ c ∷ X) is = whole_lines_take n (c ∷ X) is

-- so are the bytes from p up to q, or there are none
pub whole_lines_raw : (T : List ℕ) (p q : ℕ) → p ≤ q → (p < q → slice_get T (q - 1) ≡ Some 10) →
    is_whole_lines (raw T p q) ≡ true
unfolding is_whole_lines
whole_lines_raw T p q le newline =
    ⊎_elim
    (λ lt. let n = q - p - 1 in
    let many : q - p ≡ suc n = omega (arith, lt) in
    let last : p + n ≡ q - 1 = omega (arith, lt) in
    ap (λ m. is_whole_lines (take m (drop p T))) many
    ∙ whole_lines_take n (drop p T) (get_drop p T n ∙ ap (slice_get T) last ∙ newline lt))
    (λ ge. let none : q - p ≡ 0 = omega (arith, ge) in ap (λ m. is_whole_lines (take m (drop p T))) none) (cases_lt p q)

-- ---- the same bodies there

module _ {edition : Edition} {T U : List ℕ} {a M : ℕ} {to : ℕ → ℕ} {limit : ℕ}
    (E : ListEnds edition T U a M to limit) where
  -- the limit is in both texts
  long : M < length T
  long = slice_get_within T M limit E.byte

  long_there : to M < length U
  long_there = slice_get_within U (to M) limit (E.kept.same M E.under (omega arith) ∙ E.byte)

  -- what begins before bodies that end at a good place begins at one
  pub good_before : (o : ℕ) (ws : Row Waiting) (bodies : Row Span) (p : ℕ) (x : Row Span × ℕ) → a ≤ p →
      bodies_from (given edition T o) ws bodies p ≡ Ok x → Good T a M x.1 → Good T a M p
  unfolding raw_stands
  good_before o ws bodies p x from read good =
      let onward = bodies_low (given edition T o) ws bodies p x read in
      ⊎_elim
      (λ lt. let newline = newline_before (given edition T o) ws bodies p x read
      (omega (arith, good_high E good, long)) lt in
      let none = no_backslash T (x.1 - 1) (byte_other (slice_get T (x.1 - 1)) 10 92 refl (rw newline refl)) in
      let is : x.1 - 1 + 1 ≡ x.1 = omega (arith, lt) in
      good_over E p (x.1 - 1) from (omega (arith, lt)) none (subst (Good T a M) (sym is) good))
      (λ ge. let is : x.1 ≡ p = omega (arith, ge, onward) in subst (Good T a M) is good) (cases_lt p x.1)

  -- the same of the states before and after the bodies
  good_after : (o : ℕ) (s t : State) → a ≤ s.at → Good T a M t.at → (x : Result (Row Span × ℕ) Fault) →
      bodies_from (given edition T o) s.waiting s.bodies s.at ≡ x → state_by x ≡ Ok t → Good T a M s.at
  good_after o s t from good (Ok x) read is =
      let same : record { at = x.1; waiting = []; bodies = x.0 } ≡ t = cc in
      good_before o s.waiting s.bodies s.at x from read (subst (λ (v : State). Good T a M v.at) (sym same) good)
  good_after o s t from good (Err f) read is = absurd cc

  -- what changes up to a good place changes from a good place on
  pub change_good : (o : ℕ) (c : Change) (s t : State) → a ≤ s.at → changed c (given edition T o) s ≡ Ok t →
      Good T a M t.at → Good T a M s.at
  change_good o (waits w) s t from is good = let same : with_waiting w s ≡ t = cc in
      subst (λ (v : State). Good T a M v.at) (sym same) good
  change_good o bodies_here s t from is good =
      good_after o s t from good (bodies_from (given edition T o) s.waiting s.bodies s.at) refl is

  module _ (o u : ℕ) (off : (p : ℕ) → a ≤ p → u + to p ≡ o + p) where
    -- bodies that end with a newline, and not past the byte at the limit, have the same spans there
    pub bodies_there : (ws : Row Waiting) (bodies : Row Span) (p : ℕ) (x : Row Span × ℕ) → a ≤ p →
        bodies_from (given edition T o) ws bodies p ≡ Ok x → x.1 ≤ M + 1 → is_whole_lines (raw T p x.1) ≡ true
        → bodies_from (given edition U u) ws bodies (to p) ≡ Ok (x.0, to x.1)
    bodies_there ws bodies p x from read high_x so =
        let onward = bodies_low (given edition T o) ws bodies p x read in
        let n = x.1 - p in
        let L = take n (drop p T) in
        let end = to_apart E p x.1 from onward in
        let limit_there = to_apart E p M from in
        let many : to x.1 - to p ≡ n = omega (arith, end) in
        let same : take n (drop (to p) U) ≡ L = ap (λ m. take m (drop (to p) U)) (sym many)
        ∙ same_raw_to E p x.1 from (omega (arith, from, onward)) high_x in
        let size : length L ≡ n = length-take-le n (drop p T) (omega (arith, long, high_x, onward, length-drop p T)) in
        let inside : to p ≤ length U =
        ⊎_elim (λ lt. omega (arith, limit_there (omega (arith, lt)), long_there))
        (λ ge. omega (arith, to_apart E M p E.under ge, long_there, onward, high_x)) (cases_lt p M) in
        same_bodies edition T U (drop n (drop p T)) (drop n (drop (to p) U)) o u ws x bodies L p (to p)
        (omega (arith, long, high_x, onward)) inside (sym (off p from)) (sym (take-append-drop n (drop p T)))
        (sym (take-append-drop n (drop (to p) U)) ∙ ap (λ X. X ++ drop n (drop (to p) U)) same) so read
        (omega (arith, size, onward))
        ∙ ap (λ (m : ℕ). Ok (x.0, m)) (sym end)

    -- ---- a state, elsewhere

    -- the state, at its place in the other text
    abbrev pub over : State → State
    over s = record { at = to s.at; waiting = s.waiting; bodies = s.bodies }

    -- the state after the bodies that were found
    abbrev after_bodies : Row Span × ℕ → State
    after_bodies x = record { at = x.1; waiting = []; bodies = x.0 }

    -- bodies of which the last byte is a newline change the state there as they do here
    read_there : (s t : State) → a ≤ s.at → t.at ≤ M + 1 → (s.at < t.at → slice_get T (t.at - 1) ≡ Some 10) →
        (x : Result (Row Span × ℕ) Fault) → bodies_from (given edition T o) s.waiting s.bodies s.at ≡ x →
        state_by x ≡ Ok t
        → changed bodies_here (given edition U u) (over s) ≡ Ok (over t)
    read_there s t from high_t newline (Ok x) read is =
        let same : after_bodies x ≡ t = cc in
        let at : x.1 ≡ t.at = ap (λ (v : State). v.at) same in
        let so = whole_lines_raw T s.at x.1 (bodies_low (given edition T o) s.waiting s.bodies s.at x read)
        (λ lt. ap (λ n. slice_get T (n - 1)) at ∙ newline (omega (arith, at, lt))) in
        ap state_by (bodies_there s.waiting s.bodies s.at x from read (omega (arith, at, high_t)) so)
        ∙ ap (λ v. Ok (over v)) same
    read_there s t from high_t newline (Err f) read is = absurd cc

    -- the bodies that end just past the limit, where that is a newline
    pub read_to_limit : (s t : State) → a ≤ s.at → t.at ≡ M + 1 → limit ≡ 10 →
        changed bodies_here (given edition T o) s ≡ Ok t →
        changed bodies_here (given edition U u) (over s) ≡ Ok (over t)
    read_to_limit s t from at ten is =
        let last : t.at - 1 ≡ M = omega (arith, at) in
        read_there s t from (omega (arith, at)) (λ lt. ap (slice_get T) last ∙ E.byte ∙ ap (λ (b : ℕ). Some b) ten)
        (bodies_from (given edition T o) s.waiting s.bodies s.at) refl is

    -- by what the bodies give
    good_by : (s t : State) → a ≤ s.at → Good T a M t.at → (x : Result (Row Span × ℕ) Fault) →
        bodies_from (given edition T o) s.waiting s.bodies s.at ≡ x → state_by x ≡ Ok t
        → Good T a M s.at × (changed bodies_here (given edition U u) (over s) ≡ Ok (over t))
    good_by s t from good (Ok x) read is =
        let same : after_bodies x ≡ t = cc in
        let at : x.1 ≡ t.at = ap (λ (v : State). v.at) same in
        let newline : s.at < t.at → slice_get T (t.at - 1) ≡ Some 10 = λ lt. ap (λ n. slice_get T (n - 1)) (sym at)
        ∙ newline_before (given edition T o) s.waiting s.bodies s.at x read (omega (arith, at, good_high E good, long))
        (omega (arith, at, lt)) in (
          good_before o s.waiting s.bodies s.at x from read (subst (Good T a M) (sym at) good),
          read_there s t from (omega (arith, good_high E good)) newline (Ok x) read is,
        )
    good_by s t from good (Err f) read is = absurd cc

    -- what changes up to a good place changes so there, from a good place on
    pub change_there : (c : Change) (s t : State) → a ≤ s.at → Good T a M t.at → changed c (given edition T o) s ≡ Ok t
        → Good T a M s.at × (changed c (given edition U u) (over s) ≡ Ok (over t))
    change_there (waits w) s t from good is =
        let same : with_waiting w s ≡ t = cc in
        (subst (λ (v : State). Good T a M v.at) (sym same) good, ap (λ v. Ok (over v)) same)
    change_there bodies_here s t from good is =
        good_by s t from good (bodies_from (given edition T o) s.waiting s.bodies s.at) refl is

  -- ---- at other offsets

  module _ (o u : ℕ) where
    -- the offset of a place in the second text, by that in the first
    abbrev pub move_span : Span → Span
    move_span s = span_from (o + a) (u + to a) s

    abbrev pub move_waiting : Waiting → Waiting
    move_waiting w = waiting_from (o + a) (u + to a) w

    -- the state, elsewhere
    abbrev pub moved_to : State → State
    moved_to s = state_from (o + a) (u + to a) (to s.at) s

    -- an offset that is moved twice is moved at once
    first_shift : (x : ℕ) → shifted (a + to a) (u + to a) (shifted (o + a) (to a + a) x) ≡ shifted (o + a) (u + to a) x
    first_shift x = omega arith

    -- through a text whose offsets are those of the other
    pub bodies_moved : (ws : Row Waiting) (bodies : Row Span) (p : ℕ) (x : Row Span × ℕ) → a ≤ p →
        bodies_from (given edition T o) ws bodies p ≡ Ok x → x.1 ≤ M + 1 → is_whole_lines (raw T p x.1) ≡ true
        → bodies_from (given edition U u) (map move_waiting ws) (map move_span bodies) (to p)
        ≡ Ok (map move_span x.0, to x.1)
    bodies_moved ws bodies p x from read high_x so =
        let one = bodies_from_moved edition T o (to a) (o + a) (to a + a) a (omega arith)
        (λ q low. omega (arith, low)) ws bodies p x from read in
        let two = bodies_there (to a) a (λ q low. omega (arith, to_apart E a q (omega arith) low))
        (map (waiting_from (o + a) (to a + a)) ws) (map (span_from (o + a) (to a + a)) bodies) p
        (map (span_from (o + a) (to a + a)) x.0, x.1) from one high_x so in
        let low_to : to a ≤ to p = omega (arith, to_apart E a p (omega arith) from) in
        let three = bodies_from_moved edition U a u (a + to a) (u + to a) (to a) (omega arith)
        (λ q low. omega (arith, low))
        (map (waiting_from (o + a) (to a + a)) ws) (map (span_from (o + a) (to a + a)) bodies) (to p)
        (map (span_from (o + a) (to a + a)) x.0, to x.1) low_to two in
        let f : ℕ → ℕ = λ (n : ℕ). shifted (o + a) (u + to a) n in
        ap (λ vs. bodies_from (given edition U u) vs (map move_span bodies) (to p))
        (sym (twice_waits (o + a) (to a + a) (a + to a) (u + to a) f first_shift ws))
        ∙ ap (λ bs. bodies_from (given edition U u)
        (map (waiting_from (a + to a) (u + to a)) (map (waiting_from (o + a) (to a + a)) ws)) bs (to p))
        (sym (twice_spans (o + a) (to a + a) (a + to a) (u + to a) f first_shift bodies))
        ∙ three ∙ ap (λ (bs : Row Span). Ok (bs, to x.1))
        (twice_spans (o + a) (to a + a) (a + to a) (u + to a) f first_shift x.0)

    -- by what the bodies give
    moved_by : (s t : State) → a ≤ s.at → Good T a M t.at → (x : Result (Row Span × ℕ) Fault) →
        bodies_from (given edition T o) s.waiting s.bodies s.at ≡ x → state_by x ≡ Ok t
        → changed bodies_here (given edition U u) (moved_to s) ≡ Ok (moved_to t)
    moved_by s t from good (Ok x) read is =
        let same : record { at = x.1; waiting = []; bodies = x.0 } ≡ t = cc in
        let at : x.1 ≡ t.at = ap (λ (v : State). v.at) same in
        let le = good_high E good in
        let so = whole_lines_raw T s.at x.1 (bodies_low (given edition T o) s.waiting s.bodies s.at x read)
        (λ lt. newline_before (given edition T o) s.waiting s.bodies s.at x read
        (omega (arith, at, le, long)) lt) in
        ap state_by (bodies_moved s.waiting s.bodies s.at x from read (omega (arith, at, le)) so)
        ∙ ap (λ v. Ok (moved_to v)) same
    moved_by s t from good (Err f) read is = absurd cc

    -- what bodies up to a good place change they change there
    pub bodies_over : (s t : State) → a ≤ s.at → Good T a M t.at → changed bodies_here (given edition T o) s ≡ Ok t →
        changed bodies_here (given edition U u) (moved_to s) ≡ Ok (moved_to t)
    bodies_over s t from good is =
        moved_by s t from good (bodies_from (given edition T o) s.waiting s.bodies s.at) refl is

    -- one more waits
    pub waits_over : (w : Waiting) (s t : State) → changed (waits w) (given edition T o) s ≡ Ok t →
        changed (waits (move_waiting w)) (given edition U u) (moved_to s) ≡ Ok (moved_to t)
    waits_over w s t is =
        let same : with_waiting w s ≡ t = cc in
        ap (λ vs. Ok (record { at = to s.at; waiting = vs; bodies = map move_span s.bodies }))
        (sym (map-append move_waiting s.waiting (w ∷ []))) ∙ ap (λ v. Ok (moved_to v)) same

    -- the first that waits
    pub first_over : (s : State) →
        first_waiting (moved_to s) ≡ option_map (λ (n : ℕ). shifted (o + a) (u + to a) n) (first_waiting s)
    first_over s = by s.waiting
      where
        by : (ws : Row Waiting) → first_waiting
            (record { at = to s.at; waiting = map move_waiting ws; bodies = map move_span s.bodies })
            ≡ option_map (λ (n : ℕ). shifted (o + a) (u + to a) n) (first_waiting (record s { waiting = ws }))
        by [] = refl
        by (w ∷ ws) = refl
