-- A word that begins within its text ends within it, where a byte ends words or the text ends.
use Rattle.std.proofs.Common.{◌≡◌, ℕ, zero, suc, ◌+◌, ◌-◌, ◌≤◌, ◌<◌, ◌==◌, Bool, true, false, not, Ok, Err, List, List as Row, [], length, Option, Some, None, refl, sym, subst, ◌∙◌, arith, ◌&&◌}
use Rattle.std.proofs.lemmas.Bool.{cond_both}
use Rattle.std.proofs.lemmas.Option.{slice_get_within}
use Rattle.shgrammar.specs.declared.mode.Escaping.{Escaping}
use Rattle.shgrammar.specs.declared.mode.Escaping.TheVariants as escapings
use Rattle.shgrammar.specs.declared.keep.Keep.TheVariants.{Whole}
use Rattle.shgrammar.specs.declared.mode.Mode.{Mode}
use Rattle.shgrammar.specs.declared.mode.Mode.TheVariants.{Plain, Double, Brace, DoubleBrace, Arith}
use Rattle.shgrammar.specs.declared.mode.Piece.{Piece}
use Rattle.shgrammar.specs.declared.mode.Piece.TheVariants as pieces
use Rattle.shgrammar.specs.declared.token.Closing.TheVariants as closings
use Rattle.shgrammar.specs.declared.token.Position.TheVariants.{Command}
use Rattle.shgrammar.specs.Standing.{raw_stands, at_end}
use Rattle.shgrammar.specs.Bytes.{ends, ends_word, past_continuations, byte_at, past_byte, stands}
use Rattle.shgrammar.specs.Characters.{backslash, apostrophe, right_parenthesis, dollar_sign, left_parenthesis, left_brace, quotation_mark, right_brace, grave_accent}
use Rattle.shgrammar.specs.Pieces.{dollar_by, dollar_at, bracket_by, byte_by, piece_by, piece_at, end_by, past_taken, past_closer, past_parameter, next_quote, is_last_backslash, rest_mode, closes_by, next_escaped, piece_in, quotes_singly}
use Rattle.shast.specs.Tree.{ASubst, entries_of}
use Rattle.shgrammar.specs.Sights.{Given, State, standing, one_byte}
use Rattle.shgrammar.specs.Form.{Read, Form, give, move, ◌>>◌, Step, again, done, step_if, as_it_stands, token, many, does}
use Rattle.shgrammar.specs.Words.{single, escaped_turn, backquoted_text, Inner, WordSoFar, word_so_far, opened, piece_row, a_piece, contents, a_word, dollar_single}
use Rattle.shgrammar.specs.HereDocuments.{first_waiting, own_level}
use Rattle.shgrammar.specs.Commands.{none_waits, nothing_waits, pick, unexpected}
use Rattle.shgrammar.specs.Lists.{ListSoFar}
use Rattle.shgrammar.specs.Compounds.{is_closing}
use Rattle.shgrammar.specs.Substitutions.{substitution_list, a_substitution, one_substitution}
use Rattle.shgrammar.specs.Levels.{level, ReadsWord}
use Rattle.shgrammar.proofs.Stretches.{place_low}
use Rattle.shgrammar.proofs.Places.{after_low, after_high, stands_low, not_end_low, next_of_low, parameter_low, parameter_high, quote_clear, next_escaped_low}
use Rattle.shgrammar.proofs.Turns.{turns_fault, many_again, many_done}
use Rattle.shgrammar.proofs.Holds.{tells_level, Holds, holds_then, Tells, Turned, tells_then, tells_many, tells_after, tells_seen, tells_ending, AtOrAfter, no_form_goes_back, tells_inside}
use Rattle.shgrammar.proofs.TokensShown.{Begins, InnerHandsOn, paren_here, shown_level, shown_lines, shown_next}
use Rattle.shgrammar.proofs.Ahead.{past_byte_is}
use Rattle.shgrammar.proofs.OneOutcome.{computed_is_only}
use Rattle.shgrammar.specs.Tokens.{is_later}

-- after a byte, or two
taken_on : (T : List ℕ) (q : ℕ) → q < length T → (raw_stands T q backslash ≡ true → q + 1 < length T) →
    (q < past_taken T q)
    × (past_taken T q ≤ length T)
unfolding past_taken
taken_on T q lt next = cond_both (raw_stands T q backslash) _ _ (λ n. (q < q + n) × (q + n ≤ length T))
    (λ e. (omega arith, omega (arith, next e))) (λ e. (omega arith, omega (arith, lt)))

-- a backslash that is not the last byte
not_last : (T : List ℕ) (q : ℕ) → is_last_backslash T q ≡ false → raw_stands T q backslash ≡ true → q + 1 < length T
not_last T q none e = not_end_low T (q + 1) (rw e at none)

module _ (g : Given) where
  -- the text that is given, and the state at another place
  abbrev T : List ℕ
  T = g.text

  abbrev placed : ℕ → State → State
  placed p s = record { at = p; waiting = s.waiting; bodies = s.bodies }

  -- to the right of s, and within the text
  abbrev On : {X : Type 0} → State → X → State → Type 0
  On s x t = (s.at < t.at) × (t.at ≤ length T)

  -- ---- turns that move on within the text

  -- a turn that goes on moves on within the text, and Q holds after the last one
  abbrev Ends : {A : Type 0} → (State → Type 0) → State → Step A → State → Type 0
  Ends Q s (again a) t = On s a t
  Ends Q s (done a) t = Q t

  module _ {A : Type 0} (turn : A → Form (Step A)) (Q : State → Type 0)
      (each : (a : A) (s : State) → s.at ≤ length T → Holds (Ends Q s) (does (turn a) Whole g s)) where
    -- Q holds after all turns
    abbrev Ended : A → State → Type 0
    Ended a s = Holds (λ (b : A) (t : State). Q t) (does (many turn a) Whole g s)

    -- by what one turn gives, with less than n bytes left, and from each place of the text
    by_turn : (a : A) (s : State) (x : Read (Step A)) → does (turn a) Whole g s ≡ x → Holds (Ends Q s) x
        → ((b : A) (t : State) → length T - t.at < length T - s.at → t.at ≤ length T → Ended b t) → Ended a s
    unfolding many
    by_turn a s (Err e) is good rest = rw (turns_fault g (λ b t. does (turn b) Whole g t) a s e is) tt
    by_turn a s (Ok (done b, t)) is good rest =
        subst (Holds (λ (c : A) (u : State). Q u)) (sym (many_done turn Whole g a b s t is)) good
    by_turn a s (Ok (again b, t)) is good rest =
        subst (Holds (λ (c : A) (u : State). Q u)) (sym (many_again turn Whole g a b s t is good.0 good.1))
        (rest b t (omega (arith, good.0, good.1)) good.1)

    turns_end : (n : ℕ) (a : A) (s : State) → length T - s.at < n → s.at ≤ length T → Ended a s
    turns_end zero a s few le = absurd (omega arith)
    turns_end (suc n) a s few le =
        by_turn a s (does (turn a) Whole g s) refl (each a s le)
        (λ b t less within. turns_end n b t (omega (arith, few, less)) within)

    many_end : (a : A) (s : State) → s.at ≤ length T → Ended a s
    many_end a s le = turns_end (suc (length T - s.at)) a s (omega arith) le

  -- ---- text that is not read

  -- text in single quotes leads on within the text
  single_on : (s : State) → Holds (On s) (does single Whole g s)
  unfolding single
  single_on s =
      cond_both (at_end T q) _ _ (Holds (On s)) (λ e. tt)
      (λ e. let lt = not_end_low T q e in
      let clear = quote_clear T (past_byte T s.at) in
      let w = taken_on T q lt (λ f. absurd (let no : true ≡ false = sym f ∙ clear in cc)) in
      (omega (arith, w.0, after_low T s.at, next_of_low apostrophe T (past_byte T s.at)), w.1))
    where
      q : ℕ
      q = next_quote T (past_byte T s.at)

  module _ (s0 : State) (how : Escaping) (b : ℕ) where
    -- after each turn the reading is to the right of s0, and within the text
    abbrev LaterEnds : Step (Unit {0}) → State → Type 0
    LaterEnds x t = Turned Whole g (On s0) x t

    -- a step that goes on, or ends, by a test
    later_step : (x : Bool) (t : State) → (s0.at < t.at) × (t.at ≤ length T) → LaterEnds (step_if x tt) t
    later_step true t so = so
    later_step false t so = so

    -- one more backslash with its byte, or the byte that closes
    escaped_each : (u : Unit {0}) (s : State) → On s0 u s → Tells Whole g (escaped_turn how b u) LaterEnds s
    unfolding escaped_turn
    escaped_each u s so =
        record {
          told = cond_both (at_end T q) _ _ (Holds LaterEnds) (λ e. tt)
              (λ e. cond_both (is_last_backslash T q) _ _ (Holds LaterEnds) (λ f. tt)
              (λ f. let w = taken_on T q (not_end_low T q e) (not_last T q f) in
              later_step (not (raw_stands T q (closes_by how))) (placed (past_taken T q) s)
              (omega (arith, so.0, w.0, next_escaped_low how T s.at), w.1)));
        }
      where
        q : ℕ
        q = next_escaped how T s.at

  -- text in backquotes, and in dollar-single quotes, leads on within the text
  backquoted_text_on : (s : State) → past_continuations T s.at < length T →
      Holds (On s) (does backquoted_text Whole g s)
  unfolding backquoted_text
  backquoted_text_on s lt =
      let b = g.offset + past_continuations T s.at in
      (tells_many Whole g (escaped_turn escapings.Backquotes b) (On s) (escaped_each s escapings.Backquotes b) tt
      (placed (past_byte T s.at) s) (after_low T s.at, after_high T s.at lt)).told

  dollar_single_on : (s : State) → past_continuations T (past_byte T s.at) < length T →
      Holds (On s) (does dollar_single Whole g s)
  unfolding dollar_single
  dollar_single_on s lt =
      let b = g.offset + past_continuations T s.at in
      (tells_many Whole g (escaped_turn escapings.DollarSingle b) (On s) (escaped_each s escapings.DollarSingle b) tt
      (placed (past_byte T (past_byte T s.at)) s)
      (omega (arith, after_low T s.at, after_low T (past_byte T s.at)), after_high T (past_byte T s.at) lt)).told

  -- ---- pieces

  -- after a construct of this mode, or a word
  abbrev pub Last : Mode → State → Type 0
  Last mode t = (t.at ≤ length T) × (mode ≡ Plain → ends_word T t.at ≡ true)

  -- what may be opened ends within the text, and not before it begins
  pub record InnerWithin (inner : Inner) : Type 0 where
    pub construct : (mode : Mode) (b : ℕ) (ss : Row ASubst) (s : State) → s.at ≤ length T →
        Holds (λ x t. (s.at ≤ t.at) × (t.at ≤ length T)) (does (inner.construct mode b ss) Whole g s)
    pub substitution : (b : ℕ) (ss : Row ASubst) (s : State) →
        Holds (λ x t. (s.at ≤ t.at) × (t.at ≤ length T)) (does (inner.substitution b ss) Whole g s)

  -- what is there where something closes
  abbrev Closes : Mode → ℕ → Type 0
  Closes Plain p = ends_word T p ≡ true
  Closes Arith p = past_continuations T (past_byte T p) < length T
  Closes _ p = past_continuations T p < length T

  -- the bytes that this piece begins with are within the text, and so is what closes where it does
  abbrev PieceWithin : Mode → ℕ → Piece → Type 0
  PieceWithin mode p pieces.Closer = Closes mode p
  PieceWithin mode p pieces.Missing = Unit {0}
  PieceWithin mode p pieces.LoneBackslash = Unit {0}
  PieceWithin mode p pieces.Escape = past_continuations T p + 1 < length T
  PieceWithin mode p pieces.Single = past_continuations T p < length T
  PieceWithin mode p pieces.DollarSingle = past_continuations T (past_byte T p) < length T
  PieceWithin mode p pieces.Double = past_continuations T p < length T
  PieceWithin mode p pieces.Backquote = past_continuations T p < length T
  PieceWithin mode p pieces.Pid = past_continuations T (past_byte T p) < length T
  PieceWithin mode p pieces.Subst = Unit {0}
  PieceWithin mode p pieces.Arith = past_continuations T (past_byte T (past_byte T p)) < length T
  PieceWithin mode p pieces.Param = past_continuations T (past_byte T p) < length T
  PieceWithin mode p pieces.Open = past_continuations T p < length T
  PieceWithin mode p pieces.Close = past_continuations T p < length T
  PieceWithin mode p pieces.BadClose = Unit {0}
  PieceWithin mode p pieces.Ordinary = past_continuations T p < length T

  module _ (mode : Mode) (n p : ℕ) where
    -- so they are for the piece at a `)` in arithmetic, at the end, and at a `$`
    bracket_within : (m : ℕ) (two : Bool) → stands T (past_byte T p) right_parenthesis ≡ two →
        past_continuations T p < length T →
        PieceWithin Arith p (bracket_by m two)
    bracket_within zero true e lt = stands_low T (past_byte T p) right_parenthesis e
    bracket_within zero false e lt = tt
    bracket_within (suc m) two e lt = lt

    end_within : (mode : Mode) → byte_at T p ≡ None → PieceWithin mode p (end_by mode)
    unfolding ends_word
    end_within Plain is = rw is refl
    end_within Double is = tt
    end_within Brace is = tt
    end_within DoubleBrace is = tt
    end_within Arith is = tt

    dollar_within : (x : Option ℕ) → byte_at T (past_byte T p) ≡ x → past_continuations T p < length T →
        PieceWithin mode p (dollar_by T (past_byte T p) x)
    dollar_within None is lt = lt
    dollar_within (Some v) is lt =
        let next = slice_get_within T (past_continuations T (past_byte T p)) v is in
        cond_both (v == dollar_sign) _ _ (PieceWithin mode p) (λ e. next)
        (λ e. cond_both (v == left_parenthesis) _ _ (PieceWithin mode p)
        (λ f. cond_both (stands T (past_byte T (past_byte T p)) left_parenthesis) _ _ (PieceWithin mode p)
        (λ d. stands_low T (past_byte T (past_byte T p)) left_parenthesis d) (λ d. tt))
        (λ f. cond_both (v == left_brace) _ _ (PieceWithin mode p) (λ d. next)
        (λ d. cond_both (v == apostrophe) _ _ (PieceWithin mode p) (λ z. next) (λ z. lt))))

    -- so it is at another byte, and by the byte that is read, or none
    byte_within : (mode : Mode) (v : ℕ) → byte_at T p ≡ Some v → past_continuations T p < length T →
        PieceWithin mode p (byte_by T p mode n v)
    unfolding ends_word
    byte_within Plain v is lt =
        cond_both (ends (Some v)) _ _ (PieceWithin Plain p) (λ e. rw is e)
        (λ e. cond_both (v == apostrophe) _ _ (PieceWithin Plain p) (λ f. lt)
        (λ f. cond_both (v == quotation_mark) _ _ (PieceWithin Plain p) (λ d. lt) (λ d. lt)))
    byte_within Double v is lt = cond_both (v == quotation_mark) _ _ (PieceWithin Double p) (λ e. lt) (λ e. lt)
    byte_within Brace v is lt =
        cond_both (v == right_brace) _ _ (PieceWithin Brace p) (λ e. lt)
        (λ e. cond_both (v == apostrophe) _ _ (PieceWithin Brace p) (λ f. lt)
        (λ f. cond_both (v == quotation_mark) _ _ (PieceWithin Brace p) (λ d. lt) (λ d. lt)))
    byte_within DoubleBrace v is lt =
        cond_both (v == right_brace) _ _ (PieceWithin DoubleBrace p) (λ e. lt)
        (λ e. cond_both (v == quotation_mark) _ _ (PieceWithin DoubleBrace p) (λ f. lt) (λ f. lt))
    byte_within Arith v is lt =
        cond_both (v == right_parenthesis) _ _ (PieceWithin Arith p)
        (λ e. bracket_within n (stands T (past_byte T p) right_parenthesis) refl lt)
        (λ e. cond_both (v == left_parenthesis) _ _ (PieceWithin Arith p) (λ f. lt) (λ f. lt))

    piece_within_by : (x : Option ℕ) → byte_at T p ≡ x → PieceWithin mode p (piece_by T p mode n x)
    unfolding dollar_at
    piece_within_by None is = end_within mode is
    piece_within_by (Some v) is =
        let lt = slice_get_within T (past_continuations T p) v is in
        cond_both (v == backslash) _ _ (PieceWithin mode p)
        (λ e. cond_both (at_end T (past_byte T p)) _ _ (PieceWithin mode p) (λ f. tt)
        (λ f. omega (arith, not_end_low T (past_byte T p) f, past_byte_is T p)))
        (λ e. cond_both (v == grave_accent) _ _ (PieceWithin mode p) (λ f. lt)
        (λ f. cond_both (v == dollar_sign) _ _ (PieceWithin mode p)
        (λ d. dollar_within (byte_at T (past_byte T p)) refl lt)
        (λ d. byte_within mode v is lt)))

    -- and so for the piece that begins at p
    piece_within : PieceWithin mode p (piece_at T mode n p)
    unfolding piece_at
    piece_within = piece_within_by (byte_at T p) refl

    -- and so does the piece that the edition has
    edition_within : (x : Piece) → PieceWithin mode p x → PieceWithin mode p (piece_in g.edition mode x)
    edition_within pieces.DollarSingle so =
        cond_both (is_later g.edition && quotes_singly mode) _ _ (PieceWithin mode p) (λ e. so)
        (λ e. omega (arith, so, place_low T (past_byte T p), past_byte_is T p))
    edition_within pieces.Closer so = so
    edition_within pieces.Missing so = so
    edition_within pieces.LoneBackslash so = so
    edition_within pieces.Escape so = so
    edition_within pieces.Single so = so
    edition_within pieces.Double so = so
    edition_within pieces.Backquote so = so
    edition_within pieces.Pid so = so
    edition_within pieces.Subst so = so
    edition_within pieces.Arith so = so
    edition_within pieces.Param so = so
    edition_within pieces.Open so = so
    edition_within pieces.Close so = so
    edition_within pieces.BadClose so = so
    edition_within pieces.Ordinary so = so

  -- what closes a construct ends within the text; what closes a word stands where words end
  closer_last : (mode : Mode) (p : ℕ) → p ≤ length T → Closes mode p → (past_closer T mode p ≤ length T)
      × (mode ≡ Plain → ends_word T (past_closer T mode p) ≡ true)
  closer_last Plain p le so = (le, λ e. so)
  closer_last Double p le so = (after_high T p so, λ e. absurd cc)
  closer_last Brace p le so = (after_high T p so, λ e. absurd cc)
  closer_last DoubleBrace p le so = (after_high T p so, λ e. absurd cc)
  closer_last Arith p le so = (after_high T (past_byte T p) so, λ e. absurd cc)

  module _ (inner : Inner) (stays : InnerWithin inner) (mode : Mode) (b : ℕ) (c : WordSoFar) (s : State)
      (le : s.at ≤ length T) where
    -- a turn moves on within the text, or the construct, or word, ends there
    abbrev Turn : Step WordSoFar → State → Type 0
    Turn x t = Ends (Last mode) s x t

    abbrev p : ℕ
    p = s.at

    -- so it is where a construct opens
    opens : (m : Mode) (k : ℕ) (r : State) → s.at < r.at → r.at ≤ length T →
        Holds Turn (does (opened inner m k c) Whole g r)
    opens m k r on within =
        holds_then (λ x t. (r.at ≤ t.at) × (t.at ≤ length T)) Turn (does (inner.construct m k c.substs) Whole g r)
        (λ x t. Ok (again (word_so_far c.nested x), t))
        (stays.construct m k c.substs r within) (λ x t so. (omega (arith, on, so.0), so.1))

    -- by the kind of the piece
    row : (x : Piece) → PieceWithin mode p x → Holds Turn (does (piece_row inner mode b c x) Whole g s)
    row pieces.Closer so = closer_last mode p le so
    row pieces.Missing so = tt
    row pieces.LoneBackslash so = tt
    row pieces.Escape so = let w = taken_on T (past_continuations T p) (omega (arith, so)) (λ e. so) in
        (omega (arith, w.0, place_low T p), w.1)
    row pieces.Single so = holds_then (On s) Turn (does single Whole g s) (λ u t. Ok (again c, t)) (single_on s)
        (λ u t on. on)
    row pieces.DollarSingle so = holds_then (On s) Turn (does dollar_single Whole g s) (λ u t. Ok (again c, t))
        (dollar_single_on s so) (λ u t on. on)
    row pieces.Double so = opens Double _ (placed (past_byte T p) s) (after_low T p) (after_high T p so)
    row pieces.Backquote so = holds_then (On s) Turn (does backquoted_text Whole g s) (λ u t. Ok (again c, t))
        (backquoted_text_on s so) (λ u t on. on)
    row pieces.Pid so = (omega (arith, after_low T p, after_low T (past_byte T p)), after_high T (past_byte T p) so)
    row pieces.Subst so =
        holds_then (λ x t. (past_byte T (past_byte T p) ≤ t.at) × (t.at ≤ length T)) Turn
        (does (inner.substitution _ c.substs) Whole g (placed (past_byte T (past_byte T p)) s))
        (λ x t. Ok (again (word_so_far c.nested x), t))
        (stays.substitution _ c.substs (placed (past_byte T (past_byte T p)) s))
        (λ x t on. (omega (arith, on.0, after_low T p, after_low T (past_byte T p)), on.1))
    row pieces.Arith so =
        opens Arith _ (placed (past_byte T (past_byte T (past_byte T p))) s)
        (omega (arith, after_low T p, after_low T (past_byte T p), after_low T (past_byte T (past_byte T p))))
        (after_high T (past_byte T (past_byte T p)) so)
    row pieces.Param so =
        opens (rest_mode T mode (past_parameter T (past_byte T (past_byte T p)))) _
        (placed (past_parameter T (past_byte T (past_byte T p))) s)
        (omega (arith, after_low T p, after_low T (past_byte T p), parameter_low T (past_byte T (past_byte T p))))
        (parameter_high T (past_byte T (past_byte T p)) (after_high T (past_byte T p) so))
    row pieces.Open so = (after_low T p, after_high T p so)
    row pieces.Close so = (after_low T p, after_high T p so)
    row pieces.BadClose so = tt
    row pieces.Ordinary so = (after_low T p, after_high T p so)

    -- and so for the piece that is there
    piece_turn : Holds Turn (does (a_piece inner mode b c) Whole g s)
    unfolding a_piece
    piece_turn = row (piece_in g.edition mode (piece_at T mode c.nested p))
        (edition_within mode c.nested p (piece_at T mode c.nested p) (piece_within mode c.nested p))

  -- ---- constructs in constructs, and words

  module _ (inner : Inner) (stays : InnerWithin inner) (mode : Mode) (b : ℕ) (ss : Row ASubst) (s : State)
      (le : s.at ≤ length T) where
    -- pieces up to what closes them end within the text; those of a word, where a word may end
    pub contents_end : Holds (λ x t. Last mode t) (does (contents inner mode b ss) Whole g s)
    unfolding contents
    contents_end =
        holds_then (λ x t. Last mode t) (λ x t. Last mode t)
        (does (many (a_piece inner mode b) (word_so_far 0 ss)) Whole g s) (λ h t. Ok (h.substs, t))
        (many_end (a_piece inner mode b) (Last mode) (λ c t within. piece_turn inner stays mode b c t within)
        (word_so_far 0 ss) s le) (λ h t so. so)

    -- and not before they begin
    contents_on : Holds (λ x t. (s.at ≤ t.at) × (t.at ≤ length T)) (does (contents inner mode b ss) Whole g s)
    contents_on = holds_both (does (contents inner mode b ss) Whole g s)
        (no_form_goes_back (contents inner mode b ss) Whole g s).told contents_end
      where
        holds_both : (x : Read (Row ASubst)) → Holds (AtOrAfter s) x → Holds (λ x t. Last mode t) x →
            Holds (λ x t. (s.at ≤ t.at) × (t.at ≤ length T)) x
        holds_both (Ok (x, t)) one two = (one, two.0)
        holds_both (Err f) one two = tt

  -- ---- substitutions

  module _ (inner : Inner) (fine : InnerHandsOn g inner) where
    -- nothing moves where nothing waits
    still : (s : State) → Tells Whole g nothing_waits (λ x t. t ≡ s) s
    unfolding nothing_waits
    still s = record { told = by_waiting (first_waiting s) }
      where
        by_waiting : (w : Option ℕ) → Holds (λ (x : Unit {0}) t. t ≡ s) (does (none_waits w) Whole g s)
        by_waiting (Some b) = tt
        by_waiting None = refl

    -- a list, and the `)` after it
    substitution_list_end : (s : State) → Tells Whole g (substitution_list inner) (λ x t. t.at ≤ length T) s
    unfolding substitution_list
    substitution_list_end s =
        tells_then Whole g (shown_next g Command s)
        (λ n t one. tells_then Whole g (shown_lines g inner fine n t one)
        (λ l u two. closed_by (is_closing closings.Paren l.next.token) l u refl two))
      where
        closed_by : (b : Bool) → (l : ListSoFar) (u : State) → is_closing closings.Paren l.next.token ≡ b →
            Begins g l.next u
            → Tells Whole g (pick b (nothing_waits >> move one_byte >> give (entries_of l.list.entries))
            (unexpected inner l.next)) (λ x t. t.at ≤ length T) u
        closed_by true l u e so =
            let high = after_high T u.at
            (slice_get_within T (past_continuations T u.at) right_parenthesis (paren_here g l.next u so e).0) in
            tells_then Whole g (still u)
            (λ w t same. record { told = subst (λ (v : State). past_byte T v.at ≤ length T) (sym same) high })
        closed_by false l u e so = tells_after Whole g (λ w t. record { told = tt })

    -- a command substitution ends within the text, and not before it begins
    substitution_high : (b : ℕ) (ss : Row ASubst) (s : State) →
        Tells Whole g (a_substitution inner b ss) (λ x t. t.at ≤ length T) s
    unfolding a_substitution one_substitution
    substitution_high b ss s = tells_inside Whole g
        (tells_then Whole g (tells_level Whole g (tells_ending Whole g (substitution_list_end (own_level s)))
        (λ a t so. so)) (λ x t so. tells_seen Whole g (record { told = so })))

    substitution_end : (b : ℕ) (ss : Row ASubst) (s : State) →
        Holds (λ x t. (s.at ≤ t.at) × (t.at ≤ length T)) (does (a_substitution inner b ss) Whole g s)
    substitution_end b ss s = holds_also (does (a_substitution inner b ss) Whole g s)
        (no_form_goes_back (a_substitution inner b ss) Whole g s).told (substitution_high b ss s).told
      where
        holds_also : (x : Read (Row ASubst)) → Holds (AtOrAfter s) x → Holds (λ x t. t.at ≤ length T) x →
            Holds (λ x t. (s.at ≤ t.at) × (t.at ≤ length T)) x
        holds_also (Ok (x, t)) one two = (one, two)
        holds_also (Err f) one two = tt

  -- so it is with each number of constructs that may be opened
  pub stays_in : (room : ℕ) → InnerWithin (level room)
  unfolding level
  stays_in zero = record { construct = λ mode b ss s le. tt; substitution = λ b ss s. tt }
  stays_in (suc room) =
      record {
        construct = λ mode b ss s le. contents_on (level room) (stays_in room) mode b ss s le;
        substitution = λ b ss s. substitution_end (level room) (shown_level g room) b ss s;
      }

  -- a word from p on ends within the text, where a byte ends words or the text ends
  word_last : (room p : ℕ) → p ≤ length T →
      Holds (λ x t. Last Plain t) (does (a_word (level room)) Whole g (standing p))
  unfolding a_word
  word_last room p le =
      holds_then (λ x t. Last Plain t) (λ x t. Last Plain t)
      (does (token as_it_stands (contents (level room) Plain (g.offset + p) [])) Whole g (standing p)) _
      (holds_then (λ x t. Last Plain t) (λ x t. Last Plain t)
      (does (contents (level room) Plain (g.offset + p) []) Whole g (standing p)) _
      (contents_end (level room) (stays_in room) Plain (g.offset + p) [] (standing p) le) (λ x t so. so))
      (λ x t so. so)

-- where a word ends
pub word_ends : (room : ℕ) (g : Given) (p n : ℕ) → ReadsWord room g p n → p ≤ length g.text → (p + n ≤ length g.text)
    × (ends_word g.text (p + n) ≡ true)
word_ends room g p n (w, part) le =
    let is_read = (computed_is_only (a_word (level room)) g (standing p)).only _ _ part in
    let so = subst (Holds (λ x t. Last g Plain t)) (sym is_read) (word_last g room p le) in
    (so.0, so.1 refl)
