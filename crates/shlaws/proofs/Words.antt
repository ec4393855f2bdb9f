-- Words: each turn over their pieces leads on, and a word that does not end where it begins has moved.
use Rattle.std.proofs.Common.{◌≡◌, ℕ, zero, suc, ◌<◌, ◌==◌, Bool, true, false, not, List, List as Row, [], Option, Some, None, refl, arith, ◌&&◌, length, ◌≤◌}
use Rattle.std.proofs.lemmas.Bool.{cond_both, lt-ltb}
use Rattle.std.proofs.lemmas.Option.{slice_get_within}
use Rattle.shgrammar.specs.declared.mode.Escaping.{Escaping}
use Rattle.shgrammar.specs.declared.mode.Escaping.TheVariants as escapings
use Rattle.shgrammar.specs.declared.mode.Mode.{Mode}
use Rattle.shgrammar.specs.declared.mode.Mode.TheVariants.{Plain, Double, Brace, DoubleBrace, Arith}
use Rattle.shgrammar.specs.declared.mode.Piece.{Piece}
use Rattle.shgrammar.specs.declared.mode.Piece.TheVariants as pieces
use Rattle.shgrammar.specs.declared.token.Next.{Next}
use Rattle.shgrammar.specs.declared.token.Opener.{Opener}
use Rattle.shast.specs.declared.tree.Span.{Span}
use Rattle.shast.specs.Tree.{ASubst}
use Rattle.shgrammar.specs.Standing.{at_end, raw_stands}
use Rattle.shgrammar.specs.Bytes.{byte_at, ends, ends_word, past_byte, past_continuations, stands}
use Rattle.shgrammar.specs.Characters.{backslash, apostrophe, dollar_sign, left_parenthesis, left_brace, quotation_mark, right_brace, right_parenthesis, grave_accent}
use Rattle.shgrammar.specs.Pieces.{bracket_by, byte_by, closes_by, dollar_at, dollar_by, end_by, next_escaped, next_quote, past_closer, past_taken, piece_at, piece_by, piece_in, quotes_singly}
use Rattle.shgrammar.specs.Tokens.{is_later}
use Rattle.shgrammar.specs.Form.{Step, again, give, leads_on, ◌>>=◌}
use Rattle.shgrammar.specs.Shows.{IsRead, Shows}
use Rattle.shgrammar.specs.Sights.{Given, State}
use Rattle.shgrammar.specs.Words.{Inner, WordSoFar, a_piece, a_word, backquoted_text, contents, dollar_single, escaped_turn, word_so_far, opened, piece_row, single}
use Rattle.shgrammar.proofs.Places.{after_low, next_escaped_low, next_of_low, not_end_low, parameter_low, taken_low, word_longer}
use Rattle.shgrammar.proofs.Stretches.{place_low}
use Rattle.shlaws.proofs.Forms.{Goes, Stepped, Steps, ahead, beyond, first, follows, gives, leads_byte, led_until, moves, moves_to, repeats, repeats_until, sees, step_by, stops, tokens, whens, whens_by}

module _ (g : Given) where
  -- the text that is given
  abbrev T : List ℕ
  T = g.text

  -- nothing is said of what is read
  abbrev pub All : {X : Type 0} → X → State → Type 0
  All x t = Unit {0}

  -- ---- text that is not read

  -- text in single quotes is read where each turn leads on, and has moved
  single_on : (s : State) → Goes g single (λ u t. s.at < t.at) s
  unfolding single
  single_on s =
      let q = past_byte T s.at in
      sees g (moves g (moves g (whens g (stops g)
      (moves_to g (omega (arith, after_low T s.at, next_of_low apostrophe T q, taken_low T (next_quote T q)))))))

  -- each turn over text in backquotes or in dollar-single quotes leads on
  escaped_on : (how : Escaping) (b : ℕ) (u : Unit {0}) (s : State)
      → Goes g (escaped_turn how b u) (Steps g All s) s
  unfolding escaped_turn
  escaped_on how b u s =
      let q = next_escaped how T s.at in
      moves g (whens_by g (λ e. stops g) (λ e. whens g (stops g)
      (sees g (moves g (gives g (step_by g All s (not (raw_stands T q (closes_by how))) tt (taken q)
      (λ f. leads_past (taken q) (not_end_low T q e) (next_escaped_low how T s.at) (taken_low T q)) tt))))))
    where
      taken : ℕ → State
      taken q = record { at = past_taken T q; waiting = s.waiting; bodies = s.bodies }

      leads_past : (t : State) {q : ℕ} → q < length T → s.at ≤ q → q < t.at → leads_on g s t ≡ true
      leads_past t within before on = lt-ltb _ _ (omega (arith, within, before, on))

  -- all of such text is read so, and has moved
  backquoted_text_on : (s : State) → Goes g backquoted_text (λ u t. s.at < t.at) s
  unfolding backquoted_text
  backquoted_text_on s =
      sees g (moves g (beyond g s.at (after_low T s.at)
      (repeats g All (λ u t so. escaped_on escapings.Backquotes _ u t) tt _ tt)))

  dollar_single_on : (s : State) → Goes g dollar_single (λ u t. s.at < t.at) s
  unfolding dollar_single
  dollar_single_on s =
      sees g (moves g (moves g (beyond g s.at (omega (arith, after_low T s.at, after_low T (past_byte T s.at)))
      (repeats g All (λ u t so. escaped_on escapings.DollarSingle _ u t) tt _ tt))))

  -- ---- pieces

  -- the token handed on is the one that begins there
  abbrev pub Begins : Next → State → Type 0
  Begins n t = Shows n.token T t.at

  -- what may be opened is read so, and hands on the token after it
  pub record InnerOnward (inner : Inner) : Type 0 where
    pub construct : (mode : Mode) (b : ℕ) (ss : Row ASubst) (s : State)
        → Goes g (inner.construct mode b ss) All s
    pub substitution : (b : ℕ) (ss : Row ASubst) (s : State) → Goes g (inner.substitution b ss) All s
    pub compound : (o : Opener) (s : State) → Goes g (inner.compound o) (λ c t. Begins c.1 t) s
    pub function : (name : Span) (s : State) → Goes g (inner.function name) (λ c t. Begins c.1 t) s

  -- a word ends where its last piece does
  abbrev Last : {X : Type 0} → Mode → X → State → Type 0
  Last mode x t = mode ≡ Plain → ends_word T t.at ≡ true

  -- what is there where a piece begins: a word ends where it is closed, and at any other piece a byte is
  -- read, but where the closer is missing
  abbrev PieceRead : Mode → ℕ → Piece → Type 0
  PieceRead mode p pieces.Closer = mode ≡ Plain → ends_word T p ≡ true
  PieceRead mode p pieces.Missing = Unit {0}
  PieceRead mode p _ = IsRead T p

  module _ (mode : Mode) (n p : ℕ) where
    -- this is there at the end of the text
    end_read : (mode : Mode) → byte_at T p ≡ None → PieceRead mode p (end_by mode)
    unfolding ends_word
    end_read Plain none = λ e. rw none refl
    end_read Double none = tt
    end_read Brace none = tt
    end_read DoubleBrace none = tt
    end_read Arith none = tt

    -- and at a `$`, by the byte after it
    dollar_read : (x : Option ℕ) → IsRead T p → PieceRead mode p (dollar_by T (past_byte T p) x)
    dollar_read None read = read
    dollar_read (Some v) read =
        let P = PieceRead mode p in
        cond_both (v == dollar_sign) _ _ P (λ e. read)
        (λ e. cond_both (v == left_parenthesis) _ _ P
        (λ f. cond_both (stands T (past_byte T (past_byte T p)) left_parenthesis) _ _ P (λ d. read) (λ d. read))
        (λ f. cond_both (v == left_brace) _ _ P (λ d. read)
        (λ d. cond_both (v == apostrophe) _ _ P (λ z. read) (λ z. read))))

    -- at a `)` in arithmetic, by the brackets that are open
    bracket_read : (m : ℕ) (two : Bool) → IsRead T p → PieceRead Arith p (bracket_by m two)
    bracket_read zero true read = λ e. absurd cc
    bracket_read zero false read = read
    bracket_read (suc m) two read = read

    -- at a byte other than a backslash, a backquote and a `$`
    byte_read : (mode : Mode) (v : ℕ) → byte_at T p ≡ Some v → IsRead T p
        → PieceRead mode p (byte_by T p mode n v)
    unfolding ends_word
    byte_read Plain v some read =
        let P = PieceRead Plain p in
        cond_both (ends (Some v)) _ _ P (λ e f. rw some e)
        (λ e. cond_both (v == apostrophe) _ _ P (λ f. read)
        (λ f. cond_both (v == quotation_mark) _ _ P (λ d. read) (λ d. read)))
    byte_read Double v some read =
        cond_both (v == quotation_mark) _ _ (PieceRead Double p) (λ e f. absurd cc) (λ e. read)
    byte_read Brace v some read =
        let P = PieceRead Brace p in
        cond_both (v == right_brace) _ _ P (λ e f. absurd cc)
        (λ e. cond_both (v == apostrophe) _ _ P (λ f. read)
        (λ f. cond_both (v == quotation_mark) _ _ P (λ d. read) (λ d. read)))
    byte_read DoubleBrace v some read =
        let P = PieceRead DoubleBrace p in
        cond_both (v == right_brace) _ _ P (λ e f. absurd cc)
        (λ e. cond_both (v == quotation_mark) _ _ P (λ f. read) (λ f. read))
    byte_read Arith v some read =
        let P = PieceRead Arith p in
        cond_both (v == right_parenthesis) _ _ P
        (λ e. bracket_read n (stands T (past_byte T p) right_parenthesis) read)
        (λ e. cond_both (v == left_parenthesis) _ _ P (λ f. read) (λ f. read))

    -- at p, by the byte that is read there, or that none is
    piece_read_by : (x : Option ℕ) → byte_at T p ≡ x → PieceRead mode p (piece_by T p mode n x)
    unfolding dollar_at
    piece_read_by None none = end_read mode none
    piece_read_by (Some v) some =
        let P = PieceRead mode p in
        let read = slice_get_within T (past_continuations T p) v some in
        cond_both (v == backslash) _ _ P (λ e. cond_both (at_end T (past_byte T p)) _ _ P (λ f. read) (λ f. read))
        (λ e. cond_both (v == grave_accent) _ _ P (λ f. read)
        (λ f. cond_both (v == dollar_sign) _ _ P (λ d. dollar_read (byte_at T (past_byte T p)) read)
        (λ d. byte_read mode v some read)))

    -- and so does the piece that the edition has in its place
    edition_read : (x : Piece) → PieceRead mode p x → PieceRead mode p (piece_in g.edition mode x)
    edition_read pieces.DollarSingle so =
        cond_both (is_later g.edition && quotes_singly mode) _ _ (PieceRead mode p) (λ e. so) (λ e. so)
    edition_read pieces.Closer so = so
    edition_read pieces.Missing so = so
    edition_read pieces.LoneBackslash so = so
    edition_read pieces.Escape so = so
    edition_read pieces.Single so = so
    edition_read pieces.Double so = so
    edition_read pieces.Backquote so = so
    edition_read pieces.Pid so = so
    edition_read pieces.Subst so = so
    edition_read pieces.Arith so = so
    edition_read pieces.Param so = so
    edition_read pieces.Open so = so
    edition_read pieces.Close so = so
    edition_read pieces.BadClose so = so
    edition_read pieces.Ordinary so = so

    -- so it is there of the piece at p that the edition has
    piece_read : PieceRead mode p (piece_in g.edition mode (piece_at T mode n p))
    unfolding piece_at
    piece_read = edition_read (piece_at T mode n p) (piece_read_by (byte_at T p) refl)

  module _ (inner : Inner) (fine : InnerOnward inner) where
    module _ (mode : Mode) (b : ℕ) (h : WordSoFar) (s : State) where
      -- where the piece begins
      abbrev p : ℕ
      p = s.at

      -- a turn over a piece leads on, but for the last one: a word ends after that
      abbrev Turn : Step WordSoFar → State → Type 0
      Turn x t = Stepped g All (Last mode) s x t

      -- the places after one byte, two and three bytes lie after p
      one : p < past_byte T p
      one = after_low T p

      two : p < past_byte T (past_byte T p)
      two = omega (arith, one, after_low T (past_byte T p))

      three : p < past_byte T (past_byte T (past_byte T p))
      three = omega (arith, two, after_low T (past_byte T (past_byte T p)))

      -- a piece that is read in one go
      at_once : {k : WordSoFar} {t : State} → IsRead T p → p < t.at → Goes g (give (again k)) Turn t
      at_once {t = t} read on = gives g (leads_byte g s t read on, tt)

      -- a construct in it
      opens : (m : Mode) (q : ℕ) {t : State} → IsRead T p → p < t.at → Goes g (opened inner m q h) Turn t
      opens m q {t = t} read on =
          led_until g All (Last mode) s (leads_byte g s t read on)
          (first g (fine.construct m q h.substs t) (λ ss u so. gives g tt))

      -- a substitution
      substitution_list : (q : ℕ) {t : State} → IsRead T p → p < t.at
          → Goes g (inner.substitution q h.substs >>= λ ss. give (again (word_so_far h.nested ss))) Turn t
      substitution_list q {t = t} read on =
          led_until g All (Last mode) s (leads_byte g s t read on)
          (first g (fine.substitution q h.substs t) (λ ss u so. gives g tt))

      -- what closes a word is nothing: after that the word ends still
      closes : (mode : Mode) → (mode ≡ Plain → ends_word T p ≡ true) → mode ≡ Plain
          → ends_word T (past_closer T mode p) ≡ true
      closes Plain so e = so e
      closes Double so e = absurd cc
      closes Brace so e = absurd cc
      closes DoubleBrace so e = absurd cc
      closes Arith so e = absurd cc

      -- each turn leads on that reads the row of a piece, where that is there with which the piece begins
      row : (x : Piece) → PieceRead mode p x → Goes g (piece_row inner mode b h x) Turn s
      row pieces.Closer so = moves g (gives g (closes mode so))
      row pieces.Missing so = stops g
      row pieces.LoneBackslash so = sees g (stops g)
      row pieces.Escape so =
          moves g (moves g (at_once so (omega (arith, place_low T p, taken_low T (past_continuations T p)))))
      row pieces.Single so = first g (single_on s) (λ u t on. at_once so on)
      row pieces.DollarSingle so = first g (dollar_single_on s) (λ u t on. at_once so on)
      row pieces.Double so = sees g (moves g (opens Double _ so one))
      row pieces.Backquote so = first g (backquoted_text_on s) (λ u t on. at_once so on)
      row pieces.Pid so = moves g (moves g (at_once so two))
      row pieces.Subst so = sees g (moves g (moves g (substitution_list _ so two)))
      row pieces.Arith so = sees g (moves g (moves g (moves g (opens Arith _ so three))))
      row pieces.Param so =
          sees g (moves g (moves g (moves g (sees g
          (opens _ _ so (omega (arith, two, parameter_low T (past_byte T (past_byte T p)))))))))
      row pieces.Open so = moves g (at_once so one)
      row pieces.Close so = moves g (at_once so one)
      row pieces.BadClose so = sees g (stops g)
      row pieces.Ordinary so = moves g (at_once so one)

      -- so does each turn over pieces
      piece_on : Goes g (a_piece inner mode b h) Turn s
      unfolding a_piece
      piece_on = sees g (row (piece_in g.edition mode (piece_at T mode h.nested p)) (piece_read mode h.nested p))

    -- what a construct or a word holds is read so; the word ends after it
    pub contents_on : (mode : Mode) (b : ℕ) (ss : Row ASubst) (s : State)
        → Goes g (contents inner mode b ss) (λ x t. Last mode x t) s
    unfolding contents
    contents_on mode b ss s =
        first g (repeats_until g {P = All} {Q = Last mode} (λ h t so. piece_on mode b h t) (word_so_far 0 ss) s tt)
        (λ h t so. gives g so)

    -- ---- words

    -- a word is read so, up to a place where it ends
    word_ends : (s : State) → Goes g (a_word inner) (λ w t. ends_word T t.at ≡ true) s
    unfolding a_word
    word_ends s = sees g (first g (tokens g (contents_on Plain _ [] s)) (λ w t so. gives g (so refl)))

    -- a word that does not end where it begins
    pub word_on : (s : State) → Goes g (a_word inner) (λ w t. ends_word T s.at ≡ false → s.at < t.at) s
    word_on s = follows g (ahead g (word_ends s)) (λ w t so none. word_longer T s.at t.at so.1 none so.0)
