-- What ends by a limit, in a text and in another one that has the same bytes up to
-- there: where it began a byte before the limit is read, and in the other text the
-- same is read. At the limit itself the texts may differ.
use Rattle.std.proofs.Common.{◌≡◌, ℕ, zero, suc, ◌+◌, ◌-◌, ◌≤◌, ◌<◌, ◌==◌, Bool, true, false, not, ◌||◌, Ok, Err, List, length, refl, sym, ap, subst, ◌∙◌, arith, ⊎_elim}
use Rattle.std.proofs.lemmas.Bool.{both_ways, cases_Bool, cond_both, ltb-true}
use Rattle.std.proofs.lemmas.Option.{slice_get_within, slice_get-get_or}
use Rattle.shgrammar.specs.declared.mode.Escaping.{Escaping}
use Rattle.shgrammar.specs.declared.mode.Escaping.TheVariants as escapings
use Rattle.shgrammar.specs.declared.keep.Keep.TheVariants.{Whole}
use Rattle.shgrammar.specs.declared.mode.Mode.{Mode}
use Rattle.shgrammar.specs.Classes.{is_letter, is_digit, is_name, is_special}
use Rattle.shgrammar.specs.Standing.{is_byte, is_none, at_end, raw_stands}
use Rattle.shgrammar.specs.Bytes.{past, past_continuations, byte_at, past_byte, stands_in}
use Rattle.shgrammar.specs.Characters.{backslash, number_sign, percent_sign, apostrophe}
use Rattle.shgrammar.specs.Pieces.{past_taken, next_quote, is_last_backslash, past_parameter, rest_mode, closes_by, next_escaped}
use Rattle.shgrammar.specs.Sights.{Given, given, State}
use Rattle.shgrammar.specs.Form.{Read, Form, Step, again, done, step_if, loop, many, leads_on, turns, does}
use Rattle.shgrammar.specs.Words.{single, escaped_turn, backquoted_text, dollar_single}
use Rattle.shgrammar.proofs.Stretches.{place_low, past_more, past_none, stands_in_low}
use Rattle.shgrammar.proofs.Places.{after_low, next_of_low, next_escaped_low, taken_low}
use Rattle.shgrammar.proofs.Shifted.{state_from}
use Rattle.shgrammar.proofs.Turns.{turns_on, turns_rest, turns_done, turns_fault}
use Rattle.shgrammar.proofs.Holds.{Holds, AtOrAfter, no_form_goes_back, holds_so}
use Rattle.shgrammar.proofs.Alike.{SameStep}
use Rattle.shgrammar.proofs.SameBytes.{Kept, Here, here, here_after, here_stands, here_stands_in, raw_same, raw_there}
use Rattle.shgrammar.proofs.Ahead.{past_byte_is}
use Rattle.shgrammar.proofs.NoFurther.{less_same}
use Rattle.shgrammar.specs.declared.edition.Edition.{Edition}

-- a backslash is taken with the byte after it
pub taken_two : (T : List ℕ) (q : ℕ) → raw_stands T q backslash ≡ true → past_taken T q ≡ q + 2
unfolding past_taken
taken_two T q e = rw e refl

module _ {edition : Edition} {T U : List ℕ} {a L : ℕ} {to : ℕ → ℕ} (K : Kept edition T U a L to) where
  -- a byte before the limit is read at p
  abbrev pub In : ℕ → Type 0
  In p = Here T U a L to p

  -- the byte that is read at p is no backslash
  abbrev pub Clear : ℕ → Type 0
  Clear p = is_byte (byte_at T p) backslash ≡ false

  -- what is read at p before the limit, and is no backslash, is read there too
  raw_clear : (p : ℕ) → Clear p → raw_stands T (past_continuations T p) backslash ≡ true → ⊥
  unfolding raw_stands
  raw_clear p e f = both_ways _ e f

  pub in_if_clear : (p : ℕ) → a ≤ p → past_continuations T p < L → Clear p → In p
  in_if_clear p from lt e = here K p from lt (λ f. absurd (raw_clear p e f))

  -- a byte that is read after p, and one at p
  pub in_before : (p : ℕ) → a ≤ p → In (past_byte T p) → In p
  in_before p from i =
      let lt = i.inside in
      let le = place_low T (past_byte T p) in
      here K p from (omega (arith, lt, le, past_byte_is T p)) (λ f. omega (arith, lt, le, past_byte_is T p))

  -- where a byte before the limit is read, the place is not past it
  pub in_high : {p : ℕ} → In p → p ≤ L
  in_high {p = p} i = let lt = i.inside in let le = place_low T p in omega (arith, lt, le)

  -- ---- a byte as it stands, and the one after a backslash

  -- the place after it is the same there, and so is whether the text ends
  pub same_taken : (q : ℕ) → a ≤ q → q < L → past_taken U (to q) ≡ to (past_taken T q)
  unfolding past_taken
  same_taken q from lt =
      ⊎_elim (λ (e : raw_stands T q backslash ≡ true). rw (raw_same K q backslash from lt, e) (sym (K.on q 2 from)))
      (λ (e : raw_stands T q backslash ≡ false). rw (raw_same K q backslash from lt, e) (sym (K.on q 1 from)))
      (cases_Bool (raw_stands T q backslash))

  pub same_end : (q : ℕ) → a ≤ q → q < L → at_end U (to q) ≡ at_end T q
  unfolding at_end
  same_end q from lt = ap is_none (K.same q from lt)

  -- what is no last backslash here is none there
  same_last : (q : ℕ) → a ≤ q → past_taken T q ≤ L → is_last_backslash T q ≡ false → is_last_backslash U (to q) ≡ false
  same_last q from le e =
      ⊎_elim
      (λ (f : raw_stands T q backslash ≡ true). let lt : q + 1 < L = omega (arith, le, taken_two T q f) in
      rw (
        raw_same K q backslash from (omega (arith, lt)),
        f,
        sym (K.on q 1 from),
        same_end (q + 1)
            (omega (arith, from)) lt,
      )
      (rw f at e))
      (λ (f : raw_stands T q backslash ≡ false). rw (raw_same K q backslash from (omega (arith, le, taken_low T q)), f)
      refl)
      (cases_Bool (raw_stands T q backslash))

  -- ---- parameters

  -- a stretch ends at the same place where a byte before the limit is read at its end
  stretch_of : (test : ℕ → Bool) → (n p : ℕ) → length T - p < n → a ≤ p → In (past test T p) → In p
      × (past test U (to p) ≡ to (past test T p))
  stretch_of test zero p few from i = absurd (omega arith)
  stretch_of test (suc n) p few from i =
      ⊎_elim
      (λ (e : stands_in test T p ≡ true). let more = past_more test T p e in
      let rest = stretch_of test n (past_byte T p)
      (omega (arith, few, after_low T p, stands_in_low test T p e, place_low T p))
      (omega (arith, from, after_low T p)) (subst In more i) in
      let start = in_before p from rest.0 in (
        start,
        past_more test U (to p) (here_stands_in K start test ∙ e) ∙ ap (past test U) (here_after K start)
            ∙ rest.1 ∙ ap to (sym more),
      ))
      (λ (e : stands_in test T p ≡ false). let none = past_none test T p e in
      let start = subst In none i in
      (start, past_none test U (to p) (here_stands_in K start test ∙ e) ∙ ap to (sym none)))
      (cases_Bool (stands_in test T p))

  stretch_in : (test : ℕ → Bool) (p : ℕ) → a ≤ p → In (past test T p) → In p × (past test U (to p) ≡ to (past test T p))
  stretch_in test p from i = stretch_of test (suc (length T - p)) p (omega arith) from i

  -- so does a parameter
  pub parameter_in : (p : ℕ) → a ≤ p → In (past_parameter T p) → In p
      × (past_parameter U (to p) ≡ to (past_parameter T p))
  unfolding past_parameter
  parameter_in p from i =
      ⊎_elim
      (λ (e : stands_in is_letter T p ≡ true). let w = stretch_in is_name p from (rw e at i) in
      (w.0, rw (here_stands_in K w.0 is_letter, e) w.1))
      (λ (e : stands_in is_letter T p ≡ false). ⊎_elim
      (λ (f : stands_in is_digit T p ≡ true). let w = stretch_in is_digit p from (rw (e, f) at i) in
      (w.0, rw (here_stands_in K w.0 is_letter, e, here_stands_in K w.0 is_digit, f) w.1))
      (λ (f : stands_in is_digit T p ≡ false). ⊎_elim
      (λ (d : stands_in is_special T p ≡ true). let w = in_before p from (rw (e, f, d) at i) in (
        w,
        rw (here_stands_in K w is_letter, e, here_stands_in K w is_digit, f, here_stands_in K w is_special, d)
            (here_after K w),
      ))
      (λ (d : stands_in is_special T p ≡ false). let w : In p = rw (e, f, d) at i in (
        w,
        rw (here_stands_in K w is_letter, e, here_stands_in K w is_digit, f, here_stands_in K w is_special, d)
            refl,
      ))
      (cases_Bool (stands_in is_special T p)))
      (cases_Bool (stands_in is_digit T p)))
      (cases_Bool (stands_in is_letter T p))

  -- the rest of an expansion is read in the same mode
  pub rest_in : (mode : Mode) (p : ℕ) → In p → rest_mode U mode (to p) ≡ rest_mode T mode p
  unfolding rest_mode
  rest_in mode p i = rw (here_stands K i number_sign, here_stands K i percent_sign) refl

module _ {edition : Edition} {T U : List ℕ} {a L : ℕ} {to : ℕ → ℕ} (K : Kept edition T U a L to) (o o2 : ℕ) where
  -- what is given of the two texts
  abbrev pub g : Given
  g = given edition T o

  abbrev pub h : Given
  h = given edition U o2

  -- the state, elsewhere
  abbrev pub there : State → State
  there s = state_from (o + a) (o2 + to a) (to s.at) s

  -- and at another place
  abbrev pub there_at : ℕ → State → State
  there_at p s = state_from (o + a) (o2 + to a) p s

  -- the state at another place, in the same text
  abbrev pub at : ℕ → State → State
  at p s = record { at = p; waiting = s.waiting; bodies = s.bodies }

  -- ---- whether a turn leads on

  -- a place before the limit is in both texts, or in neither
  within : (r : ℕ) → a ≤ r → r < L → r < length T → to r < length U
  within r from lt some = slice_get_within U (to r) _ (K.same r from lt ∙ slice_get-get_or T r 0 some)

  within_back : (r : ℕ) → a ≤ r → r < L → to r < length U → r < length T
  within_back r from lt some = slice_get_within T r _ (sym (K.same r from lt) ∙ slice_get-get_or U (to r) 0 some)

  -- a turn leads on in both texts, or in neither
  pub same_leads : (s t : State) → a ≤ s.at → s.at ≤ t.at → t.at ≤ L → leads_on h (there s) (there t) ≡ leads_on g s t
  same_leads s t from onward le =
      let apart : to t.at ≡ to s.at + (t.at - s.at) =
      (let is : s.at + (t.at - s.at) ≡ t.at = omega (arith, onward) in
      ap to (sym is) ∙ K.on s.at (t.at - s.at) from) in
      less_same (length T - t.at) (length T - s.at) (length U - to t.at) (length U - to s.at)
      (λ lt. let w = within s.at from (omega (arith, lt, onward, le)) (omega (arith, lt)) in
      omega (arith, lt, apart, w))
      (λ lt. let w = within_back s.at from (omega (arith, lt, onward, le, apart)) (omega (arith, lt)) in
      omega (arith, lt, apart, w, onward))

  -- ---- turns

  module _ {A : Type 0} (S : A → A → Type 0) (turn turn2 : A → Form (Step A)) (From Last : ℕ → Type 0) where
    -- what is asked of a turn's end: of one that leads on, that the rest may begin there
    abbrev pub Goal : State → Step A → State → Type 0
    Goal s (again c) t = (t.at ≤ L) × (leads_on g s t ≡ true → From t.at)
    Goal s (done c) t = Last t.at

    -- what is found is something of which P holds, in the state t elsewhere
    abbrev pub Finds : {X : Type 0} → Read X → (X → Type 0) → State → Type 0
    Finds {X = X} x P t = (y : X) × ((x ≡ Ok (y, there t)) × P y)

    -- a turn in each text
    abbrev pub one : A → State → Read (Step A)
    one c s = does (turn c) Whole g s

    abbrev pub two : A → State → Read (Step A)
    two d s = does (turn2 d) Whole h s

    -- a turn that reaches its goal started as asked, and the other finds the same there; and so all turns
    abbrev pub Turned : A → State → Step A → State → Type 0
    Turned c s x t = Goal s x t → From s.at × ((d : A) → S c d → Finds (two d (there s)) (SameStep S x) t)

    abbrev pub Looped : A → State → A → State → Type 0
    Looped c s x t = Last t.at → From s.at × ((d : A) → S c d → Finds (turns h two d (there s)) (S x) t)

    module _ (from_high : (p : ℕ) → From p → p ≤ L) (last_high : (p : ℕ) → Last p → p ≤ L)
        (each : (c : A) (s : State) → a ≤ s.at → Holds (Turned c s) (one c s)) where
      -- by what a turn finds there: the last, one before others, or one that does not lead on
      last_turn : (d : A) (s t : State) (c : A) → Finds (two d (there s)) (SameStep S (done c)) t →
          Finds (turns h two d (there s)) (S c) t
      last_turn d s t c (again y, w) = absurd w.1
      last_turn d s t c (done y, w) = (y, (turns_done h two d y (there s) (there t) w.0, w.1))

      next_turn : (d : A) (s t : State) (c z : A) (v : State) → Finds (two d (there s)) (SameStep S (again c)) t →
          leads_on h (there s) (there t) ≡ true
          → ((e : A) → S c e → Finds (turns h two e (there t)) (S z) v) → Finds (turns h two d (there s)) (S z) v
      next_turn d s t c z v (again y, w) on rest = let r = rest y w.1 in
          (r.0, (turns_on h two d y (there s) (there t) w.0 on ∙ r.1.0, r.1.1))
      next_turn d s t c z v (done y, w) on rest = absurd w.1

      rest_turn : (d : A) (s t : State) (c : A) → Finds (two d (there s)) (SameStep S (again c)) t →
          leads_on h (there s) (there t) ≡ false → Finds (turns h two d (there s)) (S c) t
      rest_turn d s t c (again y, w) off = (y, (turns_rest h two d y (there s) (there t) w.0 off, w.1))
      rest_turn d s t c (done y, w) off = absurd w.1

      -- by what a turn gives here
      by_turn : (c : A) (s : State) → a ≤ s.at → (x : Read (Step A)) → one c s ≡ x → Holds (Turned c s) x →
          Holds (AtOrAfter s) x
          → ((z : A) (t : State) → a ≤ t.at → length T - t.at < length T - s.at → Holds (Looped z t) (turns g one z t))
          → Holds (Looped c s) (turns g one c s)
      by_turn c s from (Err e) is good onward rest = rw (turns_fault g one c s e is) tt
      by_turn c s from (Ok (done z, t)) is good onward rest =
          rw (turns_done g one c z s t is) (λ end. let w = good end in (w.0, λ d so. last_turn d s t z (w.1 d so)))
      by_turn c s from (Ok (again z, t)) is good onward rest = on (leads_on g s t) refl
        where
          on : (b : Bool) → leads_on g s t ≡ b → Holds (Looped c s) (turns g one c s)
          on true e =
              rw (turns_on g one c z s t is e)
              (holds_so (Looped z t) (Looped c s) (turns g one z t)
              (rest z t (omega (arith, from, onward)) (ltb-true _ _ e))
              (λ v u first end. let f = first end in
              let w = good (from_high _ f.0, λ x. f.0) in
              (w.0, λ d so. next_turn d s t z v u (w.1 d so) (same_leads s t from onward (from_high _ f.0) ∙ e) f.1)))
          on false e =
              rw (turns_rest g one c z s t is e)
              (λ end. let w = good (last_high _ end, λ f. absurd (both_ways _ e f)) in
              (w.0, λ d so. rest_turn d s t z (w.1 d so) (same_leads s t from onward (last_high _ end) ∙ e)))

      -- by how many bytes are left
      all_turns : (n : ℕ) (c : A) (s : State) → length T - s.at < n → a ≤ s.at → Holds (Looped c s) (turns g one c s)
      all_turns zero c s few from = absurd (omega arith)
      all_turns (suc n) c s few from =
          by_turn c s from (one c s) refl (each c s from) (no_form_goes_back (turn c) Whole g s).told
          (λ z t on less. all_turns n z t (omega (arith, less, few)) on)

      -- a repetition
      pub looped : (c : A) (s : State) → a ≤ s.at → Holds (Looped c s) (does (loop turn c) Whole g s)
      looped c s from = all_turns (suc (length T - s.at)) c s (omega arith) from

  -- ---- text that is not read

  -- what is found by the limit, and where
  abbrev pub Ends : {X : Type 0} → Form X → (ℕ → Type 0) → State → X → State → Type 0
  Ends {X = X} r From s x t = t.at ≤ L → From s.at × ((y : X) × (does r Whole h (there s) ≡ Ok (y, there t)))

  -- what is sought may be in what is sought from further back
  pub quote_in : (s : State) → a ≤ s.at → Clear K s.at → Holds (Ends single (In K) s) (does single Whole g s)
  unfolding single
  quote_in s from e = cond_both (at_end T q) _ _ (Holds (Ends single (In K) s)) (λ f. tt) found
    where
      q : ℕ
      q = next_quote T (past_byte T s.at)

      found : at_end T q ≡ false → (past_taken T q ≤ L) → (In K) s.at
          × ((y : Unit {0}) × (does single Whole h (there s) ≡ Ok (y, there (at (past_taken T q) s))))
      found f le =
          let onward = next_of_low apostrophe T (past_byte T s.at) in
          let q_in : q < L = omega (arith, le, taken_low T q) in
          let i = in_if_clear K s.at from (omega (arith, onward, q_in, past_byte_is T s.at)) e in
          let low_q : a ≤ past_byte T s.at = omega (arith, from, after_low T s.at) in
          let found = raw_there K (λ b. not (b == apostrophe)) (past_byte T s.at) low_q q_in in (
            i,
            (
              tt,
              rw (
                here_after K i,
                found,
                same_end K q (omega (arith, low_q, onward)) q_in,
                f,
                same_taken K q (omega (arith, low_q, onward)) q_in,
              ) refl,
            ),
          )

  -- before the limit, and no further than it
  abbrev Below : ℕ → Type 0
  Below p = p < L

  abbrev UpTo : ℕ → Type 0
  UpTo p = p ≤ L

  module _ (how : Escaping) (b b2 : ℕ) where
    -- one turn of a text in which a backslash takes one byte
    abbrev EscapedTurn : Unit {0} → State → Step (Unit {0}) → State → Type 0
    EscapedTurn c s x t = Turned (λ (c d : Unit {0}). Unit {0}) (escaped_turn how b)
        (escaped_turn how b2) Below UpTo c s x t

    -- each turn that reaches its goal is read in the other text as well, with the same answer
    escaped_each : (c : Unit {0}) (s : State) → a ≤ s.at →
        Holds (EscapedTurn c s) (does (escaped_turn how b c) Whole g s)
    unfolding escaped_turn
    escaped_each c s from =
        cond_both (at_end T q) _ _ (Holds (EscapedTurn c s)) (λ e. tt)
        (λ e. cond_both (is_last_backslash T q) _ _ (Holds (EscapedTurn c s)) (λ f. tt)
        (λ f. found e f (raw_stands T q (closes_by how)) refl))
      where
        q : ℕ
        q = next_escaped how T s.at

        by_last : (x : Bool) → Goal (λ (c d : Unit {0}). Unit {0}) (escaped_turn how b)
            (escaped_turn how b2) Below UpTo s (step_if (not x) tt) (at (past_taken T q) s) → past_taken T q ≤ L
        by_last true goal = goal
        by_last false goal = goal.0

        like : (x : Bool) → SameStep (λ (c d : Unit {0}). Unit {0}) (step_if (not x) tt) (step_if (not x) tt)
        like true = tt
        like false = tt

        found : at_end T q ≡ false → is_last_backslash T q ≡ false → (x : Bool) → raw_stands T q (closes_by how) ≡ x →
            EscapedTurn c s (step_if (not x) tt) (at (past_taken T q) s)
        found e f x is goal =
            let le = by_last x goal in
            let onward = next_escaped_low how T s.at in
            let lt : q < L = omega (arith, le, taken_low T q) in
            let low_q : a ≤ q = omega (arith, from, onward) in (
              omega (arith, onward, lt),
              λ d so. (
                step_if (not x) tt,
                (
                  rw (
                    raw_there K (λ b. not (b == closes_by how || b == backslash)) s.at from lt,
                    same_end K q low_q lt,
                    e,
                    same_last K q low_q le f,
                    raw_same K q (closes_by how) low_q lt,
                    is,
                    same_taken K q low_q lt,
                  ) refl,
                  like x,
                ),
              ),
            )

  -- text in backquotes
  pub backquotes_in : (s : State) → a ≤ s.at → Clear K s.at →
      Holds (Ends backquoted_text (In K) s) (does backquoted_text Whole g s)
  unfolding backquoted_text many
  backquotes_in s from e =
      holds_so _ (Ends backquoted_text (In K) s) (does (loop (escaped_turn escapings.Backquotes b) tt) Whole g inside)
      (looped (λ (c d : Unit {0}). Unit {0}) (escaped_turn escapings.Backquotes b)
      (escaped_turn escapings.Backquotes b2) Below UpTo (λ p lt. omega (arith, lt)) (λ p le. le)
      (escaped_each escapings.Backquotes b b2) tt inside (omega (arith, from, after_low T s.at)))
      (λ x t ends le. let w = ends le in
      let i = in_if_clear K s.at from (omega (arith, w.0, past_byte_is T s.at)) e in
      let f = w.1 tt tt in (
        i,
        (
          f.0,
          subst (λ (p : ℕ). turns h (λ u v. does (escaped_turn escapings.Backquotes b2 u) Whole h v) tt
              (there_at p s) ≡ Ok (f.0, there t)) (sym (here_after K i)) f.1.0,
        ),
      ))
    where
      b : ℕ
      b = o + past_continuations T s.at

      b2 : ℕ
      b2 = o2 + past_continuations U (to s.at)

      inside : State
      inside = at (past_byte T s.at) s

  -- the quote after the `$` is before the limit too
  pub dollar_single_in : (s : State) → a ≤ s.at → Clear K s.at → Clear K (past_byte T s.at) →
      Holds (Ends dollar_single (λ p. In K p × In K (past_byte T p)) s) (does dollar_single Whole g s)
  unfolding dollar_single many
  dollar_single_in s from e e2 =
      holds_so _ (Ends dollar_single (λ p. In K p × In K (past_byte T p)) s)
      (does (loop (escaped_turn escapings.DollarSingle b) tt) Whole g inside)
      (looped (λ (c d : Unit {0}). Unit {0}) (escaped_turn escapings.DollarSingle b)
      (escaped_turn escapings.DollarSingle b2) Below UpTo (λ p lt. omega (arith, lt)) (λ p le. le)
      (escaped_each escapings.DollarSingle b b2) tt inside
      (omega (arith, from, after_low T s.at, after_low T (past_byte T s.at))))
      (λ x t ends le. let w = ends le in
      let j = in_if_clear K (past_byte T s.at) (omega (arith, from, after_low T s.at))
      (omega (arith, w.0, past_byte_is T (past_byte T s.at))) e2 in
      let i = in_if_clear K s.at from (omega (arith, w.0, past_byte_is T s.at, after_low T (past_byte T s.at))) e in
      let f = w.1 tt tt in (
        (i, j),
        (
          f.0,
          subst (λ (p : ℕ). turns h (λ u v. does (escaped_turn escapings.DollarSingle b2 u) Whole h v) tt (there_at p s)
              ≡ Ok (f.0, there t)) (sym (ap (past_byte U) (here_after K i) ∙ here_after K j)) f.1.0,
        ),
      ))
    where
      b : ℕ
      b = o + past_continuations T s.at

      b2 : ℕ
      b2 = o2 + past_continuations U (to s.at)

      inside : State
      inside = at (past_byte T (past_byte T s.at)) s
