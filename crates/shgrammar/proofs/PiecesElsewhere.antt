-- The pieces of a word that ends at a limit: the same in another text that has its bytes
-- up to there, where a byte that ends words and is no `(` follows. Nothing but the end of
-- the word, and a `$` before it, look as far as the limit.
use Rattle.std.proofs.Common.{◌≡◌, ℕ, zero, suc, ◌+◌, ◌-◌, ◌≤◌, ◌<◌, ◌==◌, Bool, true, false, ◌||◌, ◌⊎◌, inl, inr, Ok, List, List as Row, [], length, map, Option, Some, None, slice_get, refl, sym, ap, subst, ◌∙◌, arith, ⊎_elim, ◌&&◌}
use Rattle.std.proofs.lemmas.Bool.{cond_both, lt-ltb}
use Rattle.std.proofs.lemmas.Bool.Decides.{nat_tests}
use Rattle.std.proofs.lemmas.Option.{slice_get_within}
use Rattle.shgrammar.specs.declared.keep.Keep.TheVariants.{Whole}
use Rattle.shgrammar.specs.declared.mode.Mode.{Mode}
use Rattle.shgrammar.specs.declared.mode.Mode.TheVariants.{Plain, Double, Brace, DoubleBrace, Arith}
use Rattle.shgrammar.specs.declared.mode.Piece.{Piece}
use Rattle.shgrammar.specs.declared.mode.Piece.TheVariants as pieces
use Rattle.shgrammar.specs.Standing.{is_byte, at_end, raw_stands}
use Rattle.shgrammar.specs.Bytes.{ends, past_continuations, byte_at, past_byte, stands}
use Rattle.shgrammar.specs.Characters.{backslash, grave_accent, dollar_sign, left_parenthesis, left_brace, apostrophe, number_sign, percent_sign, right_parenthesis, quotation_mark, right_brace}
use Rattle.shgrammar.specs.Pieces.{dollar_by, dollar_at, bracket_by, byte_by, piece_by, piece_at, past_taken, past_closer, past_parameter, braces_in, rest_mode, piece_in, quotes_singly}
use Rattle.shast.specs.Shape.{shape_of_subst}
use Rattle.shast.specs.Tree.{ASubst}
use Rattle.shgrammar.specs.Sights.{Given, given, State}
use Rattle.shgrammar.specs.Form.{Read, ◌▸◌, Form, Step, again, done, loop, many, leads_on, does}
use Rattle.shgrammar.specs.Words.{single, backquoted_text, Inner, WordSoFar, word_so_far, opened, piece_row, a_piece, contents, dollar_single}
use Rattle.shgrammar.proofs.Stretches.{place_low}
use Rattle.shgrammar.proofs.Places.{after_low, parameter_low}
use Rattle.shgrammar.proofs.Holds.{Holds, holds_then, holds_so}
use Rattle.shgrammar.proofs.Alike.{SameStep, SameHeld}
use Rattle.shgrammar.proofs.SameBytes.{Kept, Here, here, here_byte, here_after, here_stands, byte_other}
use Rattle.shgrammar.proofs.Ahead.{past_byte_is}
use Rattle.shgrammar.proofs.EndsByLimit.{there_at, in_if_clear, in_before, in_high, taken_two, same_taken, same_end, parameter_in, rest_in, there, at, Ends, quote_in, backquotes_in, Turned, Looped, Goal, looped, dollar_single_in}
use Rattle.shgrammar.specs.declared.edition.Edition.{Edition}
use Rattle.shgrammar.specs.Tokens.{is_later}

-- it does not end a word
abbrev pub Closed : Mode → Type 0
Closed Plain = ⊥
Closed _ = Unit {0}

-- so it is not of a word
not_plain : (mode : Mode) → Closed mode → mode ≡ Plain → ⊥
not_plain mode closed is = subst Closed is closed

module _ {edition : Edition} {T U : List ℕ} {a L : ℕ} {to : ℕ → ℕ} (K : Kept edition T U a L to) (o o2 : ℕ)
    (B B2 : List ℕ) where
  -- a byte before the limit is read there
  abbrev Inside : ℕ → Type 0
  Inside p = Here T U a L to p

  -- what is given of both texts
  abbrev g : Given
  g = given edition T o

  abbrev h : Given
  h = given edition U o2

  -- a state elsewhere, and a state moved to another place
  abbrev over : State → State
  over s = there K o o2 s

  abbrev placed : ℕ → State → State
  placed p s = at K o o2 p s

  -- ---- constructs

  -- substitutions of one shape, over the bytes B and B2
  abbrev pub SameSubsts : Row ASubst → Row ASubst → Type 0
  SameSubsts ss zs = map (shape_of_subst B) ss ≡ map (shape_of_subst B2) zs

  -- and as many brackets are open
  abbrev pub Agree : WordSoFar → WordSoFar → Type 0
  Agree c d = SameHeld c d × SameSubsts c.substs d.substs

  -- what a construct holds is the same elsewhere, wherever its opener stands and
  -- after substitutions of the same shape
  abbrev pub Holding : (Row ASubst → Form (Row ASubst)) → Row ASubst → State → Row ASubst → State → Type 0
  Holding r ss s x t = t.at ≤ L → Inside s.at
      × ((zs : Row ASubst) → SameSubsts ss zs → (y : Row ASubst)
      × ((does (r zs) Whole h (over s) ≡ Ok (y, over t)) × SameSubsts x y))

  -- what may be opened in a word holds the same elsewhere
  pub record InnerOfPieces (inner : Inner) : Type 0 where
    pub construct : (mode : Mode) → Closed mode → (b b2 : ℕ) (ss : Row ASubst) (s : State) → a ≤ s.at →
        Holds (Holding (inner.construct mode b2) ss s) (does (inner.construct mode b ss) Whole g s)
    pub substitution : (b b2 : ℕ) (ss : Row ASubst) (s : State) → a ≤ s.at →
        Holds (Holding (inner.substitution b2) ss s) (does (inner.substitution b ss) Whole g s)

  module _ (inner : Inner) (local : InnerOfPieces inner) where
    -- a construct as a piece
    abbrev Opens : Mode → ℕ → WordSoFar → State → Step WordSoFar → State → Type 0
    Opens mode b2 c s x t = t.at ≤ L → Inside s.at
        × ((d : WordSoFar) → Agree c d → (y : Step WordSoFar)
        × ((does (opened inner mode b2 d) Whole h (over s) ≡ Ok (y, over t)) × SameStep Agree x y))

    -- a construct that may be opened is such a piece
    opens : (mode : Mode) → Closed mode → (b b2 : ℕ) (c : WordSoFar) (s : State) → a ≤ s.at →
        Holds (Opens mode b2 c s) (does (opened inner mode b c) Whole g s)
    opens mode closed b b2 c s from =
        holds_then (Holding (inner.construct mode b2) c.substs s) (Opens mode b2 c s)
        (does (inner.construct mode b c.substs) Whole g s) (λ x t. Ok (again (word_so_far c.nested x), t))
        (local.construct mode closed b b2 c.substs s from)
        (λ x t inside le. let w = inside le in
        (w.0, λ d so. let v = w.1 d.substs so.1 in (again (word_so_far d.nested v.0), (rw v.1.0 refl, (so.0, v.1.1)))))

  -- from where a word or a construct may go on, and where it ends
  abbrev pub From : Mode → ℕ → Type 0
  From mode p = Inside p ⊎ ((mode ≡ Plain) × (p ≡ L))

  abbrev pub Last : Mode → ℕ → Type 0
  Last mode p = (p ≤ L) × (mode ≡ Plain → p ≡ L)

  -- neither is past the limit
  pub from_high : (mode : Mode) (p : ℕ) → From mode p → p ≤ L
  from_high mode p from = ⊎_elim (λ i. in_high K i) (λ e. omega (arith, e.1)) from

  pub last_high : (mode : Mode) (p : ℕ) → Last mode p → p ≤ L
  last_high mode p last = last.0

  -- ---- what begins a piece

  -- by a byte that is no backslash, no backquote and no `$`
  abbrev Other : ℕ → Type 0
  Other b = ((b == backslash) ≡ false) × (((b == grave_accent) ≡ false) × ((b == dollar_sign) ≡ false))

  other_piece : (mode : Mode) (n p b : ℕ) → byte_at T p ≡ Some b → Other b → Inside p →
      piece_in edition mode (piece_at U mode n (to p)) ≡ piece_in edition mode (byte_by U (to p) mode n b)
  unfolding piece_at
  other_piece mode n p b is e i = rw (here_byte K i, is, e.0, e.1.0, e.1.1) refl

  -- by a `$`
  dollar_piece : (mode : Mode) (n p b : ℕ) → byte_at T p ≡ Some b → (b == backslash) ≡ false →
      (b == grave_accent) ≡ false →
      (b == dollar_sign) ≡ true → Inside p
      → piece_in edition mode (piece_at U mode n (to p))
      ≡ piece_in edition mode (dollar_by U (to (past_byte T p)) (byte_at U (to (past_byte T p))))
  unfolding piece_at dollar_at
  dollar_piece mode n p b is e f d i = rw (here_byte K i, is, e, f, d, here_after K i) refl

  -- before the limit, where the next byte is no `(`, unless it is one in the first text
  module _ (ender : ends (byte_at U (to L)) ≡ true)
      (no_open : is_byte (byte_at T L) left_parenthesis ≡ false →
      is_byte (byte_at U (to L)) left_parenthesis ≡ false) where
    -- a `$` before the limit begins nothing
    limit_dollar : (q : ℕ) (x : Option ℕ) → ends x ≡ true → is_byte x left_parenthesis ≡ false →
        dollar_by U q x ≡ pieces.Ordinary
    limit_dollar q None e f = refl
    limit_dollar q (Some b) e f =
        let one : (b == dollar_sign) ≡ false = grind (arith, nat_tests) in
        let two : (b == left_brace) ≡ false = grind (arith, nat_tests) in
        let three : (b == apostrophe) ≡ false = grind (arith, nat_tests) in
        rw (one, f, two, three) refl

    -- a word ends at the limit
    limit_piece : (x : Option ℕ) (n : ℕ) → ends x ≡ true → piece_by U (to L) Plain n x ≡ pieces.Closer
    limit_piece None n e = refl
    limit_piece (Some b) n e =
        let one : (b == backslash) ≡ false = grind (arith, nat_tests) in
        let two : (b == grave_accent) ≡ false = grind (arith, nat_tests) in
        let three : (b == dollar_sign) ≡ false = grind (arith, nat_tests) in
        rw (one, two, three, e) refl

    module _ (inner : Inner) (local : InnerOfPieces inner) (mode : Mode) (b b2 : ℕ) (c : WordSoFar) (s : State)
        (from : a ≤ s.at) where
      -- where the piece begins, the place after its first byte, and how many brackets are open
      abbrev p : ℕ
      p = s.at

      abbrev q : ℕ
      q = past_byte T s.at

      abbrev n : ℕ
      n = c.nested

      -- that place is not before `a`
      q_low : a ≤ q
      q_low = omega (arith, from, after_low T p)

      -- a turn, as it is elsewhere
      abbrev Turn : Step WordSoFar → State → Type 0
      Turn x t = Turned K o o2 Agree (a_piece inner mode b) (a_piece inner mode b2) (From mode) (Last mode) c s x t

      -- a turn by the row of this piece is the same elsewhere
      abbrev Again : Piece → Type 0
      Again x = Holds Turn (does (piece_row inner mode b c x) Whole g s)

      -- the second text has this piece there
      abbrev Told : Piece → Type 0
      Told x = piece_in edition mode (piece_at U mode n (to p)) ≡ x

      -- the piece that the edition has
      abbrev Known : Piece → Type 0
      Known x = Again (piece_in edition mode x)

      -- this is read there, at the same place, and P holds of it
      abbrev Found : (Step WordSoFar → Type 0) → State → WordSoFar → Read (Step WordSoFar) → Type 0
      Found P t d x = (y : Step WordSoFar) × ((x ≡ Ok (y, over t)) × P y)

      -- the row of the piece that is there
      row_there : (x : Piece) → Told x → (d : WordSoFar) → Agree c d → (P : Step WordSoFar → Type 0) (t : State) →
          Found P t d (does (piece_row inner mode b2 d x) Whole h (over s)) →
          Found P t d (does (a_piece inner mode b2 d) Whole h (over s))
      unfolding a_piece
      row_there x told d so P t found = (
        found.0,
        (
          subst (λ (z : Piece). does (piece_row inner mode b2 d z) Whole h (over s) ≡ Ok (found.0, over t))
              (sym told ∙ ap (λ m. piece_in edition mode (piece_at U mode m (to p))) so.0) found.1.0,
          found.1.1,
        ),
      )

      -- over a byte that is read a turn leads on
      leads_byte : past_continuations T p < length T → leads_on g s (placed q s) ≡ true
      leads_byte lt = lt-ltb _ _ (omega (arith, lt, past_byte_is T p, place_low T p))

      -- one byte
      one_byte_row : (is_byte (byte_at T p) backslash ≡ false) → past_continuations T p < length T →
          (w : WordSoFar → WordSoFar) → ((d : WordSoFar) → Agree c d → Agree (w c) (w d)) → (x : Piece) →
          (Inside p → From mode q → Told x)
          → ((d : WordSoFar) → does (piece_row inner mode b2 d x) Whole h (over s)
          ≡ Ok (again (w d), there_at K o o2 (past_byte U (to p)) s)) → Turn (again (w c)) (placed q s)
      one_byte_row e lt w same x told row goal =
          let i = in_if_clear K p from (omega (arith, goal.0, past_byte_is T p)) e in
          let next = goal.1 (leads_byte lt) in (
            inl i,
            λ d so. row_there x (told i next) d so (SameStep Agree (again (w c))) (placed q s)
                (again (w d), (row d ∙ rw (here_after K i) refl, same d so)),
          )

      -- an ordinary byte, and the brackets that open and close in arithmetic
      ordinary : is_byte (byte_at T p) backslash ≡ false → past_continuations T p < length T →
          (Inside p → From mode q → Told pieces.Ordinary) → Again pieces.Ordinary
      ordinary e lt told = one_byte_row e lt (λ d. d) (λ d so. so) pieces.Ordinary told (λ d. refl)

      opening : is_byte (byte_at T p) backslash ≡ false → past_continuations T p < length T →
          (Inside p → From mode q → Told pieces.Open) → Again pieces.Open
      opening e lt told = one_byte_row e lt (λ d. word_so_far (d.nested + 1) d.substs)
          (λ d so. (ap (λ m. m + 1) so.0, so.1)) pieces.Open told (λ d. refl)

      closing : is_byte (byte_at T p) backslash ≡ false → past_continuations T p < length T →
          (Inside p → From mode q → Told pieces.Close) → Again pieces.Close
      closing e lt told = one_byte_row e lt (λ d. word_so_far (d.nested - 1) d.substs)
          (λ d so. (ap (λ m. m - 1) so.0, so.1)) pieces.Close told (λ d. refl)

      -- a backslash and what it takes
      escape : (v : ℕ) → byte_at T p ≡ Some v → (v == backslash) ≡ true → at_end T q ≡ false → Again pieces.Escape
      unfolding raw_stands piece_at
      escape v is e some goal =
          let here_is : raw_stands T (past_continuations T p) backslash ≡ true =
          raw_is_byte T (past_continuations T p) v backslash is e in
          let le : past_continuations T p + 2 ≤ L =
          omega (arith, goal.0, taken_two T (past_continuations T p) here_is) in
          let i = here K p from (omega (arith, le)) (λ f. omega (arith, le)) in
          let told : Told pieces.Escape = escape_told v is e i some (omega (arith, le, past_byte_is T p)) in
          let low_there : a ≤ past_continuations T p = omega (arith, from, place_low T p) in (
            inl i,
            λ d so. row_there pieces.Escape told d so (SameStep Agree (again c))
                (placed (past_taken T (past_continuations T p)) s)
                (again d, (rw (i.there, same_taken K (past_continuations T p) low_there i.inside) refl, so)),
          )
        where
          raw_is_byte : (V : List ℕ) (r v x : ℕ) → slice_get V r ≡ Some v → (v == x) ≡ true → raw_stands V r x ≡ true
          raw_is_byte V r v x is e = rw (is, e) refl

          escape_told : (v : ℕ) → byte_at T p ≡ Some v → (v == backslash) ≡ true → Inside p → at_end T q ≡ false →
              q < L →
              Told pieces.Escape
          escape_told v is e i some lt = rw (here_byte K i, is, e, here_after K i, same_end K q q_low lt, some) refl

      -- text that is not read
      text_row : (x : Piece) (r : Form (Unit {0})) → Holds (Ends K o o2 r Inside s) (does r Whole g s) →
          (Inside p → Told x) → ((d : WordSoFar) →
          does (piece_row inner mode b2 d x) Whole h (over s) ≡ (does r Whole h (over s) ▸ λ u v. Ok (again d, v)))
          → Holds Turn (does r Whole g s ▸ λ u v. Ok (again c, v))
      text_row x r ended told row =
          holds_then (Ends K o o2 r Inside s) Turn (does r Whole g s) (λ u v. Ok (again c, v)) ended
          (λ u t ends goal. let w = ends goal.0 in (
            inl w.0,
            λ d so. row_there x (told w.0) d so (SameStep Agree (again c)) t
                (again d, (row d ∙ rw w.1.1 refl, so)),
          ))

      -- text in single quotes, in backquotes, and in dollar-single quotes
      quoted : is_byte (byte_at T p) backslash ≡ false → (Inside p → Told pieces.Single) → Again pieces.Single
      quoted e told = text_row pieces.Single single (quote_in K o o2 s from e) told (λ d. refl)

      backquote : is_byte (byte_at T p) backslash ≡ false → (Inside p → Told pieces.Backquote) → Again pieces.Backquote
      backquote e told = text_row pieces.Backquote backquoted_text (backquotes_in K o o2 s from e) told (λ d. refl)

      dollar_quoted : is_byte (byte_at T p) backslash ≡ false → is_byte (byte_at T q) backslash ≡ false →
          (Inside p → Inside q → Told pieces.DollarSingle) → Again pieces.DollarSingle
      dollar_quoted e e2 told =
          holds_then (Ends K o o2 dollar_single (λ r. Inside r × Inside (past_byte T r)) s) Turn
          (does dollar_single Whole g s) (λ u v. Ok (again c, v)) (dollar_single_in K o o2 s from e e2)
          (λ u t ends goal. let w = ends goal.0 in (
            inl w.0.0,
            λ d so. row_there pieces.DollarSingle (told w.0.0 w.0.1) d so (SameStep Agree (again c)) t
                (again d, (rw w.1.1 refl, so)),
          ))

      -- what is asked of a turn's end keeps it within the limit
      goal_high : (x : Step WordSoFar) (t : State) →
          Goal K o o2 Agree (a_piece inner mode b) (a_piece inner mode b2) (From mode) (Last mode) s x t → t.at ≤ L
      goal_high (again d) t goal = goal.0
      goal_high (done d) t goal = goal.0

      -- a construct, from just after its opener on
      open_row : (x : Piece) (m : Mode) → Closed m → (k k2 r : ℕ) → a ≤ r
          → (Inside r → Inside p × (Told x
          × ((d : WordSoFar) → does (piece_row inner mode b2 d x) Whole h (over s)
          ≡ does (opened inner m k2 d) Whole h (there_at K o o2 (to r) s)))) →
          Holds Turn (does (opened inner m k c) Whole g (placed r s))
      open_row x m closed k k2 r low_r start =
          holds_so (Opens inner local m k2 c (placed r s)) Turn (does (opened inner m k c) Whole g (placed r s))
          (opens inner local m closed k k2 c (placed r s) low_r)
          (λ y t inside goal. let w = inside (goal_high y t goal) in
          let u = start w.0 in (
            inl u.0,
            λ d so. let f = w.1 d so in
                row_there x u.1.0 d so (SameStep Agree y) t (f.0, (u.1.1 d ∙ f.1.0, f.1.1)),
          ))

      -- text in double quotes, and an arithmetic expansion
      string : (Inside p → Told pieces.Double) → Again pieces.Double
      string told = open_row pieces.Double Double tt _ (o2 + past_continuations U (to p)) q q_low
          (λ i. let j = in_before K p from i in (j, (told j, λ d. rw (here_after K j) refl)))

      q2_low : a ≤ past_byte T q
      q2_low = omega (arith, q_low, after_low T q)

      arithmetic : (Inside p → Inside q → Inside (past_byte T q) → Told pieces.Arith) → Again pieces.Arith
      arithmetic told =
          open_row pieces.Arith Arith tt _ (o2 + past_continuations U (to p)) (past_byte T (past_byte T q))
          (omega (arith, q2_low, after_low T (past_byte T q)))
          (λ i. let l = in_before K (past_byte T q) q2_low i in
          let k = in_before K q q_low l in
          let j = in_before K p from k in
          (j, (told j k l, λ d. rw (here_after K j, here_after K k, here_after K l) refl)))

      -- the rest of a parameter expansion ends no word
      braces_closed : (m : Mode) → Closed (braces_in m)
      braces_closed Plain = tt
      braces_closed Double = tt
      braces_closed Brace = tt
      braces_closed DoubleBrace = tt
      braces_closed Arith = tt

      rest_closed : (r : ℕ) → Closed (rest_mode T mode r)
      unfolding rest_mode
      rest_closed r = cond_both (stands T r number_sign || stands T r percent_sign) _ _ Closed (λ e. tt)
          (λ e. braces_closed mode)

      -- a parameter expansion
      parameter : (Inside p → Inside q → Told pieces.Param) → Again pieces.Param
      parameter told =
          let r = past_parameter T (past_byte T q) in
          open_row pieces.Param (rest_mode T mode r) (rest_closed r) _ (o2 + past_continuations U (to p)) r
          (omega (arith, q2_low, parameter_low T (past_byte T q)))
          (λ i. let w = parameter_in K (past_byte T q) q2_low i in
          let k = in_before K q q_low w.0 in
          let j = in_before K p from k in
          (j, (told j k, λ d. rw (here_after K j, here_after K k, w.1, rest_in K mode r i) refl)))

      -- a substitution, from just after its opener on
      substitution : (Inside p → Inside q → Inside (past_byte T q) → Told pieces.Subst) → Again pieces.Subst
      substitution told =
          let k2 = o2 + past_continuations U (to p) in
          let inside = placed (past_byte T q) s in
          holds_then (Holding (inner.substitution k2) c.substs inside) Turn
          (does (inner.substitution (o + past_continuations T p) c.substs) Whole g inside)
          (λ x t. Ok (again (word_so_far c.nested x), t))
          (local.substitution (o + past_continuations T p) k2 c.substs inside q2_low)
          (λ x t holding goal. let w = holding goal.0 in
          let k = in_before K q q_low w.0 in
          let j = in_before K p from k in (
            inl j,
            λ d so. let v = w.1 d.substs so.1 in
                row_there pieces.Subst (told j k w.0) d so (SameStep Agree (again (word_so_far c.nested x))) t
                (again (word_so_far d.nested v.0), (rw (here_after K j, here_after K k, v.1.0) refl, (so.0, v.1.1))),
          ))

      -- `$$`
      twice : is_byte (byte_at T q) backslash ≡ false → (Inside p → Inside q → Told pieces.Pid) → Again pieces.Pid
      twice e told goal =
          let j = in_if_clear K q q_low (omega (arith, goal.0, past_byte_is T q)) e in
          let i = in_before K p from j in (
            inl i,
            λ d so. row_there pieces.Pid (told i j) d so (SameStep Agree (again c)) (placed (past_byte T q) s)
                (again d, (rw (here_after K i, here_after K j) refl, so)),
          )

      -- what closes a construct
      closer : ((V : List ℕ) (r : ℕ) → past_closer V mode r ≡ past_byte V r) → is_byte (byte_at T p) backslash ≡ false →
          (Inside p → Told pieces.Closer) → Again pieces.Closer
      closer one e told goal =
          let le = goal.0 in
          let i = in_if_clear K p from (omega (arith, le, one T p, past_byte_is T p)) e in (
            inl i,
            λ d so. row_there pieces.Closer (told i) d so (SameStep Agree (done c))
                (placed (past_closer T mode p) s) (done d, (rw (one U (to p), one T p, here_after K i) refl, so)),
          )

      -- the same, where two bytes close it
      closer_two : ((V : List ℕ) (r : ℕ) → past_closer V mode r ≡ past_byte V (past_byte V r)) →
          is_byte (byte_at T q) backslash ≡ false → (Inside p → Inside q → Told pieces.Closer) → Again pieces.Closer
      closer_two two e told goal =
          let le = goal.0 in
          let j = in_if_clear K q q_low (omega (arith, le, two T p, past_byte_is T q)) e in
          let i = in_before K p from j in (
            inl i,
            λ d so. row_there pieces.Closer (told i j) d so (SameStep Agree (done c))
                (placed (past_closer T mode p) s)
                (done d, (rw (two U (to p), two T p, here_after K i, here_after K j) refl, so)),
          )

      -- ---- by the byte

      -- a `$` that begins nothing
      lone_dollar : is_byte (byte_at T q) left_parenthesis ≡ false → From mode q →
          (Inside q → piece_in edition mode (dollar_by U (to q) (byte_at U (to q))) ≡ pieces.Ordinary)
          → piece_in edition mode (dollar_by U (to q) (byte_at U (to q))) ≡ pieces.Ordinary
      lone_dollar none next inside =
          ⊎_elim inside
          (λ end. ap (piece_in edition mode)
          (limit_dollar (to q) (byte_at U (to q)) (subst (λ r. ends (byte_at U (to r)) ≡ true) (sym end.1) ender)
          (subst (λ r. is_byte (byte_at U (to r)) left_parenthesis ≡ false) (sym end.1)
          (no_open (subst (λ r. is_byte (byte_at T r) left_parenthesis ≡ false) end.1 none)))))
          next

      module _ (v : ℕ) (is : byte_at T p ≡ Some v) where
        -- a byte is read here
        lt : past_continuations T p < length T
        lt = slice_get_within T (past_continuations T p) v is

        module _ (e : (v == backslash) ≡ false) where
          -- it is no backslash
          no_backslash : is_byte (byte_at T p) backslash ≡ false
          no_backslash = rw is e

          -- a `$`, by the byte after it
          dollar_row : (v == grave_accent) ≡ false → (v == dollar_sign) ≡ true → (y : Option ℕ) → byte_at T q ≡ y →
              Known (dollar_by T q y)
          dollar_row f d None is2 = ordinary no_backslash lt
              (λ i next. dollar_piece mode n p v is e f d i
              ∙ lone_dollar (rw is2 refl) next (λ j. rw (here_byte K j, is2) refl))
          dollar_row f d (Some w) is2 =
              cond_both (w == dollar_sign) _ _ Known
              (λ m. twice (rw is2 (grind (arith, nat_tests)))
              (λ i j. dollar_piece mode n p v is e f d i ∙ rw (here_byte K j, is2, m) refl))
              (λ m. cond_both (w == left_parenthesis) _ _ Known
              (λ k. cond_both (stands T (past_byte T q) left_parenthesis) _ _ Known
              (λ z. arithmetic (λ i j l. dollar_piece mode n p v is e f d i
              ∙ rw (here_byte K j, is2, m, k, here_after K j, here_stands K l left_parenthesis, z) refl))
              (λ z. substitution (λ i j l. dollar_piece mode n p v is e f d i
              ∙ rw (here_byte K j, is2, m, k, here_after K j, here_stands K l left_parenthesis, z) refl)))
              (λ k. cond_both (w == left_brace) _ _ Known
              (λ z. parameter (λ i j. dollar_piece mode n p v is e f d i ∙ rw (here_byte K j, is2, m, k, z) refl))
              (λ z. cond_both (w == apostrophe) _ _ Known
              (λ x. cond_both (is_later edition && quotes_singly mode) _ _ Again
              (λ y. dollar_quoted no_backslash (rw is2 (grind (arith, nat_tests)))
              (λ i j. dollar_piece mode n p v is e f d i ∙ rw (here_byte K j, is2, m, k, z, x, y) refl))
              (λ y. ordinary no_backslash lt
              (λ i next. dollar_piece mode n p v is e f d i
              ∙ lone_dollar (rw is2 k) next (λ j. rw (here_byte K j, is2, m, k, z, x, y) refl))))
              (λ x. ordinary no_backslash lt
              (λ i next. dollar_piece mode n p v is e f d i
              ∙ lone_dollar (rw is2 k) next (λ j. rw (here_byte K j, is2, m, k, z, x) refl))))))

          -- a backquote begins its text there too
          backquote_told : (v == grave_accent) ≡ true → Inside p → Told pieces.Backquote
          unfolding piece_at
          backquote_told f i = rw (here_byte K i, is, e, f) refl

        -- any byte, if it is so of those that are no backslash, backquote or `$`
        some_row : (Other v → Known (byte_by T p mode n v)) → Known (piece_by T p mode n (Some v))
        unfolding dollar_at
        some_row other =
            cond_both (v == backslash) _ _ Known
            (λ e. cond_both (at_end T q) _ _ Known (λ f. tt) (λ f. escape v is e f))
            (λ e. cond_both (v == grave_accent) _ _ Known (λ f. backquote (no_backslash e) (backquote_told e f))
            (λ f. cond_both (v == dollar_sign) _ _ Known (λ d. dollar_row e f d (byte_at T q) refl)
            (λ d. other (e, (f, d)))))

    -- ---- by the mode

    module _ (inner : Inner) (local : InnerOfPieces inner) (b b2 : ℕ) (c : WordSoFar) (s : State)
        (from : a ≤ s.at) where
      -- the same, in each mode
      abbrev AgainIn : Mode → Piece → Type 0
      AgainIn mode x = Again inner local mode b b2 c s from x

      abbrev KnownIn : Mode → Piece → Type 0
      KnownIn mode x = AgainIn mode (piece_in edition mode x)

      -- the end of a word
      word_end : AgainIn Plain pieces.Closer
      unfolding piece_at
      word_end goal = (
        inr (refl, goal.1 refl),
        λ d so. row_there inner local Plain b b2 c s from pieces.Closer
            (ended (goal.1 refl)) d so (SameStep Agree (done c)) (placed s.at s) (done d, (refl, so)),
      )
        where
          ended : s.at ≡ L → piece_in edition Plain (piece_at U Plain c.nested (to s.at)) ≡ pieces.Closer
          ended is = ap (piece_in edition Plain)
              (subst (λ r. piece_by U (to r) Plain c.nested (byte_at U (to r)) ≡ pieces.Closer) (sym is)
              (limit_piece (byte_at U (to L)) c.nested ender))

      -- the end of the text
      none_row : (mode : Mode) → KnownIn mode (piece_by T s.at mode c.nested None)
      none_row Plain = word_end
      none_row Double = tt
      none_row Brace = tt
      none_row DoubleBrace = tt
      none_row Arith = tt

      module _ (v : ℕ) (is : byte_at T s.at ≡ Some v) (other : Other v) where
        -- a byte is read here, and it is no backslash
        some : past_continuations T s.at < length T
        some = slice_get_within T (past_continuations T s.at) v is

        clear_here : is_byte (byte_at T s.at) backslash ≡ false
        clear_here = rw is other.0

        -- the second text has the piece that this byte begins
        told : (mode : Mode) → Inside s.at →
            piece_in edition mode (piece_at U mode c.nested (to s.at))
            ≡ piece_in edition mode (byte_by U (to s.at) mode c.nested v)
        told mode i = other_piece mode c.nested s.at v is other i

        -- a `)` in arithmetic, by the brackets that are open and the byte after it
        bracket_clear : (r : ℕ) → stands T r right_parenthesis ≡ true → is_byte (byte_at T r) backslash ≡ false
        unfolding stands
        bracket_clear r e = byte_other (byte_at T r) right_parenthesis backslash refl e

        bracket_row : (m : ℕ) → c.nested ≡ m → (two : Bool) → stands T (past_byte T s.at) right_parenthesis ≡ two →
            (v == right_parenthesis) ≡ true →
            KnownIn Arith (bracket_by m two)
        bracket_row zero none true follows e =
            closer_two inner local Arith b b2 c s from (λ V r. refl) (bracket_clear (past_byte T s.at) follows)
            (λ i j. told Arith i ∙ rw (e, none, here_after K i, here_stands K j right_parenthesis, follows) refl)
        bracket_row zero none false follows e = tt
        bracket_row (suc m) some_open x follows e =
            closing inner local Arith b b2 c s from clear_here some (λ i next. told Arith i ∙ rw (e, some_open) refl)

        -- such a byte in each mode, then any byte or none, and so each piece
        by_mode : (mode : Mode) → KnownIn mode (byte_by T s.at mode c.nested v)
        by_mode Plain =
            cond_both (ends (Some v)) _ _ (KnownIn Plain) (λ e. word_end)
            (λ e. cond_both (v == apostrophe) _ _ (KnownIn Plain)
            (λ f. quoted inner local Plain b b2 c s from clear_here (λ i. told Plain i ∙ rw (e, f) refl))
            (λ f. cond_both (v == quotation_mark) _ _ (KnownIn Plain)
            (λ d. string inner local Plain b b2 c s from (λ i. told Plain i ∙ rw (e, f, d) refl))
            (λ d. ordinary inner local Plain b b2 c s from clear_here some
            (λ i next. told Plain i ∙ rw (e, f, d) refl))))
        by_mode Double =
            cond_both (v == quotation_mark) _ _ (KnownIn Double)
            (λ e. closer inner local Double b b2 c s from (λ V r. refl) clear_here (λ i. told Double i ∙ rw e refl))
            (λ e. ordinary inner local Double b b2 c s from clear_here some (λ i next. told Double i ∙ rw e refl))
        by_mode Brace =
            cond_both (v == right_brace) _ _ (KnownIn Brace)
            (λ e. closer inner local Brace b b2 c s from (λ V r. refl) clear_here (λ i. told Brace i ∙ rw e refl))
            (λ e. cond_both (v == apostrophe) _ _ (KnownIn Brace)
            (λ f. quoted inner local Brace b b2 c s from clear_here (λ i. told Brace i ∙ rw (e, f) refl))
            (λ f. cond_both (v == quotation_mark) _ _ (KnownIn Brace)
            (λ d. string inner local Brace b b2 c s from (λ i. told Brace i ∙ rw (e, f, d) refl))
            (λ d. ordinary inner local Brace b b2 c s from clear_here some
            (λ i next. told Brace i ∙ rw (e, f, d) refl))))
        by_mode DoubleBrace =
            cond_both (v == right_brace) _ _ (KnownIn DoubleBrace)
            (λ e. closer inner local DoubleBrace b b2 c s from (λ V r. refl) clear_here
            (λ i. told DoubleBrace i ∙ rw e refl))
            (λ e. cond_both (v == quotation_mark) _ _ (KnownIn DoubleBrace)
            (λ d. string inner local DoubleBrace b b2 c s from (λ i. told DoubleBrace i ∙ rw (e, d) refl))
            (λ d. ordinary inner local DoubleBrace b b2 c s from clear_here some
            (λ i next. told DoubleBrace i ∙ rw (e, d) refl)))
        by_mode Arith =
            cond_both (v == right_parenthesis) _ _ (KnownIn Arith)
            (λ e. bracket_row c.nested refl (stands T (past_byte T s.at) right_parenthesis) refl e)
            (λ e. cond_both (v == left_parenthesis) _ _ (KnownIn Arith)
            (λ f. opening inner local Arith b b2 c s from clear_here some (λ i next. told Arith i ∙ rw (e, f) refl))
            (λ f. ordinary inner local Arith b b2 c s from clear_here some (λ i next. told Arith i ∙ rw (e, f) refl)))

      by_byte : (mode : Mode) (x : Option ℕ) → byte_at T s.at ≡ x → KnownIn mode (piece_by T s.at mode c.nested x)
      by_byte mode None is = none_row mode
      by_byte mode (Some v) is = some_row inner local mode b b2 c s from v is (λ other. by_mode v is other mode)

      piece_turn : (mode : Mode) → Holds (Turn inner local mode b b2 c s from) (does (a_piece inner mode b c) Whole g s)
      unfolding a_piece piece_at
      piece_turn mode = by_byte mode (byte_at T s.at) refl

    -- ---- constructs in constructs

    module _ (inner : Inner) (local : InnerOfPieces inner) where
      -- the pieces of a construct, or of a word
      pieces_in : (mode : Mode) (b b2 : ℕ) (c : WordSoFar) (s : State) → a ≤ s.at
          → Holds (Looped K o o2 Agree (a_piece inner mode b) (a_piece inner mode b2) (From mode) (Last mode) c s)
          (does (loop (a_piece inner mode b) c) Whole g s)
      pieces_in mode b b2 c s from =
          looped K o o2 Agree (a_piece inner mode b) (a_piece inner mode b2) (From mode) (Last mode) (from_high mode)
          (last_high mode) (λ d t low. piece_turn inner local b b2 d t low mode) c s from

      -- where the pieces of a word that ends at the limit begin
      pub word_from : (b : ℕ) (c : WordSoFar) (s : State) → a ≤ s.at →
          Holds (λ x t. t.at ≡ L → From Plain s.at) (does (loop (a_piece inner Plain b) c) Whole g s)
      word_from b c s from = holds_so _ (λ x t. t.at ≡ L → From Plain s.at)
          (does (loop (a_piece inner Plain b) c) Whole g s) (pieces_in Plain b b c s from)
          (λ x t ends is. (ends (omega (arith, is), λ e. is)).0)

      -- a construct may end up to the limit, and goes on before it only
      last_of : (mode : Mode) → Closed mode → (r : ℕ) → r ≤ L → Last mode r
      last_of mode closed r le = (le, λ e. absurd (not_plain mode closed e))

      in_of : (mode : Mode) → Closed mode → (r : ℕ) → From mode r → Inside r
      in_of mode closed r from = ⊎_elim (λ i. i) (λ e. absurd (not_plain mode closed e.0)) from

      -- so what a construct holds is the same elsewhere
      pub construct_in : (mode : Mode) → Closed mode → (b b2 : ℕ) (ss : Row ASubst) (s : State) → a ≤ s.at →
          Holds (Holding (contents inner mode b2) ss s) (does (contents inner mode b ss) Whole g s)
      unfolding contents many
      construct_in mode closed b b2 ss s from =
          holds_then _ (Holding (contents inner mode b2) ss s)
          (does (loop (a_piece inner mode b) (word_so_far 0 ss)) Whole g s) (λ c t. Ok (c.substs, t))
          (pieces_in mode b b2 (word_so_far 0 ss) s from)
          (λ c t ends le. let w = ends (last_of mode closed t.at le) in (
            in_of mode closed s.at w.0,
            λ zs same. let f = w.1 (word_so_far 0 zs) (refl, same) in
                (f.0.substs, (rw f.1.0 refl, f.1.1.1)),
          ))

      -- a word that ends at the limit
      abbrev pub Ended : ℕ → State → Row ASubst → State → Type 0
      Ended b2 s x t = t.at ≡ L → (y : Row ASubst)
          × ((does (contents inner Plain b2 []) Whole h (over s) ≡ Ok (y, over t)) × SameSubsts x y)

      -- so what it holds is the same elsewhere
      pub word_in : (b b2 : ℕ) (s : State) → a ≤ s.at → Holds (Ended b2 s) (does (contents inner Plain b []) Whole g s)
      unfolding contents many
      word_in b b2 s from =
          holds_then _ (Ended b2 s) (does (loop (a_piece inner Plain b) (word_so_far 0 [])) Whole g s)
          (λ c t. Ok (c.substs, t)) (pieces_in Plain b b2 (word_so_far 0 []) s from)
          (λ c t ends is. let f = (ends (omega (arith, is), λ e. is)).1 (word_so_far 0 []) (refl, refl) in
          (f.0.substs, (rw f.1.0 refl, f.1.1.1)))
