-- A word that is read, and whose bytes are a delimiter, has only pieces that leave something.
use Rattle.std.proofs.Common.{◌≡◌, ℕ, zero, suc, ◌+◌, ◌-◌, ◌<◌, ◌≤◌, Bool, true, false, cond, List, List as Row, [], length, take, drop, slice_get, get_or, Option, Some, None, is_some, option_map, Ok, Err, ⊎_elim, ◌∷◌, ◌++◌, refl, sym, ap, subst, ◌∙◌, arith, take-take, length-take}
use Rattle.std.specs.Prelude.{◌&&◌, ◌||◌}
use Rattle.std.proofs.lemmas.Bool.{both_ways, cases_lt, false_from_ne_true}
use Rattle.std.proofs.lemmas.Option.{slice_get-get_or, slice_get_past, slice_get_within}
use Rattle.shast.specs.Tree.{ASubst, AWord, substs_of, word}
use Rattle.shast.specs.declared.tree.Span.{Span}
use Rattle.shgrammar.specs.Comments.{span}
use Rattle.shgrammar.specs.declared.edition.Edition.{Edition}
use Rattle.shgrammar.specs.declared.fault.Fault.{Fault}
use Rattle.shgrammar.specs.declared.fault.FaultKind.{FaultKind}
use Rattle.shgrammar.specs.declared.fault.FaultKind.TheVariants.{LoneBackslash, TooDeep, UnclosedSingle}
use Rattle.shgrammar.specs.declared.keep.Keep.TheVariants.{Whole}
use Rattle.shgrammar.specs.declared.mode.Mode.{Mode}
use Rattle.shgrammar.specs.declared.mode.Mode.TheVariants.{Plain, Double, Brace, DoubleBrace, Arith}
use Rattle.shgrammar.specs.declared.mode.Piece.{Piece}
use Rattle.shgrammar.specs.declared.mode.Piece.TheVariants as pieces
use Rattle.shgrammar.specs.Bytes.{byte_at, ends, ends_word, past_byte, past_continuations, stands}
use Rattle.shgrammar.specs.Characters.{grave_accent, dollar_sign, left_brace, left_parenthesis, apostrophe, backslash, quotation_mark}
use Rattle.shgrammar.specs.Form.{Read, Spelled, Step, again, does, many, may, raw, ◌▸◌}
use Rattle.shgrammar.specs.HereDocuments.{ADelimiter, Quoting, delimiter_in, has_dollar_single, in_double, is_quoted, not_quoted, unquoted}
use Rattle.shgrammar.specs.Levels.{ReadsWord, level}
use Rattle.shgrammar.specs.Pieces.{next_quote, past_closer, past_taken, piece_at, piece_in, unclosed}
use Rattle.shgrammar.specs.Standing.{at_end, is_byte, raw_stands}
use Rattle.shgrammar.specs.States.{Given, State, given, standing}
use Rattle.shgrammar.specs.Tokens.{is_later}
use Rattle.shgrammar.specs.Unquoting.{left_of}
use Rattle.shgrammar.specs.Words.{WordSoFar, a_piece, a_word, contents, word_so_far, piece_row, single}
use Rattle.shgrammar.proofs.WordsAnywhere.{reads_word_anywhere}
use Rattle.shgrammar.proofs.Levels.{level_below, level_closed}
use Rattle.shgrammar.proofs.OneOutcome.{computed_is_only}
use Rattle.shgrammar.proofs.Places.{after_low, after_some, next_of_low, not_end_low, quote_clear}
use Rattle.shgrammar.proofs.Stretches.{place_low}
use Rattle.shgrammar.proofs.Turns.{many_again, many_done, turns_fault}
use Rattle.shlaws.specs.Quotes.{Leaves, double, ended, escape, ordinary, pid, piece_by_edition, single as quoted}
use Rattle.shlaws.proofs.PieceBytes.{Begins, another, arithmetic, backquote, byte_there, closes, dollar, dollar_quote, dollars, double_quote, ends_here, escapes, is_unquoted, lone, parameter, quote, quoting_in, stands_alone, substitution}
use Rattle.shlaws.proofs.QuotePieces.{backslash_there, both_leads, byte_leads, double_there, pieces_within, left_all, opened_leads, pid_within, quoted_leads, taken_leads, pieces_lead}
use Rattle.shlaws.proofs.QuoteSteps.{Leads, backquote_none, dollar_quote_found, leads_on, opener_none}

-- ---- what is not expanded

-- from p on something is left, and no text in dollar-single quotes is found
record Clear (later : Bool) (W : List ℕ) (q : Quoting) (p : ℕ) : Type 0 where
  some : is_some (unquoted q false (drop p W)) ≡ true
  none : later ≡ true → has_dollar_single q false (drop p W) ≡ false

-- where something is left with a text before it, something is left without that
some_after : (text : List ℕ) (left : Option (List ℕ)) → is_some (left_of text left) ≡ true
    → is_some left ≡ true
some_after text None e = absurd cc
some_after text (Some bs) e = refl

-- what is so from p on is so from m on, where pieces lead there from p
clear_on : (later : Bool) (W : List ℕ) (q r : Quoting) (p m : ℕ) (text : List ℕ) → Leads later W q p text r m
    → Clear later W q p → Clear later W r m
clear_on later W q r p m text leads clear = record {
  some = some_after text (unquoted r false (drop m W)) (sym (ap is_some leads.left) ∙ clear.some);
  none = λ e. sym (leads.found e) ∙ clear.none e;
}

-- what is left is not nothing, where it is something
not_clear : (left : Option (List ℕ)) → is_some left ≡ true → left ≡ None → ⊥
not_clear left some none = both_ways _ (ap is_some none) some

-- ---- what begins the pieces that leave nothing

-- with which bytes text in backquotes, expansions and text in dollar-single quotes begin
backquote_of : (later last : Bool) (b : ℕ) (x : Option ℕ) (mode : Mode)
    → Begins later last b x mode pieces.Backquote → b ≡ grave_accent
backquote_of later last b x mode (backquote is) = is

parameter_of : (later last : Bool) (b : ℕ) (x : Option ℕ) (mode : Mode)
    → Begins later last b x mode pieces.Param → (b ≡ dollar_sign) × (x ≡ Some left_brace)
parameter_of later last b x mode (parameter is next) = (is, next)

substitution_of : (later last : Bool) (b : ℕ) (x : Option ℕ) (mode : Mode)
    → Begins later last b x mode pieces.Subst → (b ≡ dollar_sign) × (x ≡ Some left_parenthesis)
substitution_of later last b x mode (substitution is next) = (is, next)

arithmetic_of : (later last : Bool) (b : ℕ) (x : Option ℕ) (mode : Mode)
    → Begins later last b x mode pieces.Arith → (b ≡ dollar_sign) × (x ≡ Some left_parenthesis)
arithmetic_of later last b x mode (arithmetic is next) = (is, next)

dollar_quote_of : (later last : Bool) (b : ℕ) (x : Option ℕ) (mode : Mode)
    → Begins later last b x mode pieces.DollarSingle
    → (b ≡ dollar_sign) × (x ≡ Some apostrophe) × (later ≡ true) × (mode ≡ Plain)
dollar_quote_of later last b x mode (dollar_quote is next newer) = (is, next, newer, refl)

-- brackets of arithmetic
abbrev is_bracket : Piece → Bool
is_bracket pieces.Open = true
is_bracket pieces.Close = true
is_bracket pieces.BadClose = true
is_bracket piece = false

-- no piece that begins in the two modes in which quotes are removed is one
no_bracket : (later last : Bool) (b : ℕ) (x : Option ℕ) (mode : Mode) (z : Piece)
    → Begins later last b x mode z → is_bracket z ≡ false
no_bracket later last b x mode z lone = refl
no_bracket later last b x mode z (escapes is more) = refl
no_bracket later last b x mode z (backquote is) = refl
no_bracket later last b x mode z (dollars is next) = refl
no_bracket later last b x mode z (arithmetic is next) = refl
no_bracket later last b x mode z (substitution is next) = refl
no_bracket later last b x mode z (parameter is next) = refl
no_bracket later last b x mode z (dollar_quote is next newer) = refl
no_bracket later last b x mode z (dollar is one two three none) = refl
no_bracket later last b x mode z (quote is) = refl
no_bracket later last b x mode z (double_quote is) = refl
no_bracket later last b x mode z (closes is) = refl
no_bracket later last b x mode z (ends_here is) = refl
no_bracket later last b x mode z (another one two three none) = refl

-- ---- turns

module _ (edition : Edition) (W : List ℕ) (o : ℕ) where
  -- the bytes of a word, which stand at offset o, are all that is given
  abbrev g : Given
  g = given edition W o

  -- what one turn over pieces computes, and what all of them do
  abbrev one : ℕ → Mode → ℕ → WordSoFar → State → Read (Step WordSoFar)
  one room mode b h s = does (a_piece (level room) mode b h) Whole g s

  abbrev all : ℕ → Mode → ℕ → WordSoFar → State → Read WordSoFar
  all room mode b h s = does (many (a_piece (level room) mode b) h) Whole g s

  -- the state s at another place
  abbrev place : State → ℕ → State
  place s p = record s { at = p }

  -- in the two modes open brackets do not matter to which piece begins at p
  nested_alike : (mode : Mode) (n p : ℕ) → is_unquoted mode ≡ true → piece_at W mode n p ≡ piece_at W mode 0 p
  unfolding piece_at
  nested_alike Plain n p read = refl
  nested_alike Double n p read = refl
  nested_alike Brace n p read = absurd cc
  nested_alike DoubleBrace n p read = absurd cc
  nested_alike Arith n p read = absurd cc

  -- a turn is the row of the piece that begins there
  row_is : (room : ℕ) (mode : Mode) (b : ℕ) (h : WordSoFar) (s : State) (z : Piece) → is_unquoted mode ≡ true
      → piece_by_edition edition W mode s.at ≡ z
      → one room mode b h s ≡ does (piece_row (level room) mode b h z) Whole g s
  unfolding a_piece
  row_is room mode b h s z read is =
      ap (λ y. does (piece_row (level room) mode b h y) Whole g s)
      (ap (piece_in edition mode) (nested_alike mode h.nested s.at read) ∙ is)

  -- where the first turn has a fault, all of them do
  fails : (room : ℕ) (mode : Mode) (b : ℕ) (h h2 : WordSoFar) (s t : State) (f : Fault)
      → one room mode b h s ≡ Err f → all room mode b h s ≡ Ok (h2, t) → ⊥
  unfolding many
  fails room mode b h h2 s t f one_is whole =
      let no : ◌≡◌ {A = Read WordSoFar} (Err f) (Ok (h2, t)) =
      sym (turns_fault g (λ a u. one room mode b a u) h s f one_is) ∙ whole in
      absurd cc

  -- from p up to q stand pieces that leave something
  abbrev Goes : Mode → ℕ → ℕ → Type 0
  Goes mode p q = (text : List ℕ) × Leaves edition W mode p q text

  -- where less than n bytes are left from a clear place on, a reading without a fault passes such pieces
  abbrev Finds : ℕ → Type 0
  Finds n =
      (room : ℕ) (mode : Mode) (b : ℕ) (h h2 : WordSoFar) (s t : State) → is_unquoted mode ≡ true
      → length W - s.at < n → s.at ≤ length W → Clear (is_later edition) W (quoting_in mode) s.at
      → all room mode b h s ≡ Ok (h2, t) → Goes mode s.at t.at

  module _ (n : ℕ) (finds : Finds n) (room : ℕ) (mode : Mode) (b : ℕ) (h h2 : WordSoFar) (s t : State)
      (read : is_unquoted mode ≡ true) (few : length W - s.at < suc n) (within : s.at ≤ length W)
      (clear : Clear (is_later edition) W (quoting_in mode) s.at)
      (whole : all room mode b h s ≡ Ok (h2, t)) where
    -- this is the piece at s
    abbrev Is : Piece → Type 0
    Is z = piece_by_edition edition W mode s.at ≡ z

    -- a turn that leads on
    goes_on : (h1 : WordSoFar) (u : State) (text : List ℕ) → one room mode b h s ≡ Ok (again h1, u) → s.at < u.at
        → u.at ≤ length W
        → Leads (is_later edition) W (quoting_in mode) s.at text (quoting_in mode) u.at → Goes mode u.at t.at
    goes_on h1 u text turn onward inside leads =
        finds room mode b h1 h2 u t read (omega (arith, few, onward, inside)) inside
        (clear_on (is_later edition) W (quoting_in mode) (quoting_in mode) s.at u.at text leads clear)
        (sym (many_again (a_piece (level room) mode b) Whole g h h1 s u turn onward inside) ∙ whole)

    -- a turn that goes on from u
    abbrev turned : WordSoFar → State → Read (Step WordSoFar)
    turned h1 u = Ok (again h1, u)

    -- up to where the reading ends stand pieces that leave something, where a closer is the piece here
    closes_here : Is pieces.Closer → Goes mode s.at t.at
    closes_here is =
        let last =
        many_done (a_piece (level room) mode b) Whole g h h s (place s (past_closer W mode s.at))
        (row_is room mode b h s pieces.Closer read is) in
        let same : ◌≡◌ {A = Read WordSoFar} (Ok (h, place s (past_closer W mode s.at))) (Ok (h2, t)) =
        sym last ∙ whole in
        let pair : ◌≡◌ {A = WordSoFar × State} (h, place s (past_closer W mode s.at)) (h2, t) = cc in
        let at : past_closer W mode s.at ≡ t.at = ap (λ (z : WordSoFar × State). z.1.at) pair in
        subst (λ (q : ℕ). Goes mode s.at q) at ([], ended is)

    -- the same of an ordinary byte, and of `$$`
    ordinary_here : Is pieces.Ordinary → Goes mode s.at t.at
    ordinary_here is =
        let there = byte_there edition W mode s.at pieces.Ordinary read is refl in
        let rest =
        goes_on h (place s (past_byte W s.at)) _ (row_is room mode b h s pieces.Ordinary read is)
        (after_low W s.at) (after_some W s.at there.0 there.1)
        (byte_leads edition W mode s.at there.0 read is there.1) in
        (_, ordinary there.0 is there.1 rest.1)

    pid_here : Is pieces.Pid → Goes mode s.at t.at
    pid_here is =
        let rest =
        goes_on h (place s (past_byte W (past_byte W s.at))) _ (row_is room mode b h s pieces.Pid read is)
        (omega (arith, after_low W s.at, after_low W (past_byte W s.at)))
        (pid_within edition W mode s.at read is) (both_leads edition W mode s.at read is) in
        (_, pid is rest.1)

    -- the byte after a backslash
    taken_there : at_end W (past_byte W s.at) ≡ false
        → slice_get W (past_continuations W s.at + 1) ≡ Some (get_or W (past_continuations W s.at + 1) 0)
    unfolding past_byte
    taken_there more =
        slice_get-get_or W (past_continuations W s.at + 1) 0
        (not_end_low W (past_continuations W s.at + 1) more)

    -- a backslash and the byte after it are passed at once
    taken_at : byte_at W s.at ≡ Some backslash
        → past_taken W (past_continuations W s.at) ≡ past_continuations W s.at + 2
    unfolding past_taken raw_stands
    taken_at is = rw is refl

    -- up to there stand such pieces, where an escape is the piece here
    escape_here : Is pieces.Escape → Goes mode s.at t.at
    escape_here is =
        let p = past_continuations W s.at in
        let there = backslash_there edition W mode s.at read is in
        let next = taken_there there.1 in
        let lt = slice_get_within W (p + 1) _ next in
        let turn =
        row_is room mode b h s pieces.Escape read is
        ∙ ap (λ (q : ℕ). turned h (place s q)) (taken_at there.0) in
        let rest =
        goes_on h (place s (p + 2)) _ turn (omega (arith, place_low W s.at)) (omega (arith, lt))
        (taken_leads edition W mode s.at (get_or W (p + 1) 0) read is next) in
        (_, escape (get_or W (p + 1) 0) is next rest.1)

    -- the turn over text in single quotes goes on after them, where they are closed
    single_turn : at_end W (next_quote W (past_byte W s.at)) ≡ false
        → does (piece_row (level room) mode b h pieces.Single) Whole g s
        ≡ turned h (place s (past_taken W (next_quote W (past_byte W s.at))))
    unfolding single
    single_turn more = rw more refl

    -- a fault of this kind at the byte that is read here
    abbrev fault_here : FaultKind → Fault
    fault_here kind = record { kind = kind; at = o + past_continuations W s.at }

    -- where they are not closed, it is a fault here
    single_fails : at_end W (next_quote W (past_byte W s.at)) ≡ true
        → does (piece_row (level room) mode b h pieces.Single) Whole g s ≡ Err (fault_here UnclosedSingle)
    unfolding single
    single_fails end = rw end refl

    -- what closes them is passed as one byte
    quote_at : past_taken W (next_quote W (past_byte W s.at)) ≡ next_quote W (past_byte W s.at) + 1
    unfolding past_taken
    quote_at = rw (quote_clear W (past_byte W s.at)) refl

    -- up to where the reading ends stand such pieces, where text in single quotes is the piece here
    single_here : Is pieces.Single → Goes mode s.at t.at
    single_here is =
        let e = next_quote W (past_byte W s.at) in
        let more : at_end W e ≡ false =
        false_from_ne_true (at_end W e)
        (λ end. fails room mode b h h2 s t (fault_here UnclosedSingle)
        (row_is room mode b h s pieces.Single read is ∙ single_fails end) whole) in
        let turn =
        row_is room mode b h s pieces.Single read is ∙ single_turn more
        ∙ ap (λ (q : ℕ). turned h (place s q)) quote_at in
        let lt = not_end_low W e more in
        let rest =
        goes_on h (place s (e + 1)) _ turn
        (omega (arith, after_low W s.at, next_of_low apostrophe W (past_byte W s.at))) (omega (arith, lt))
        (quoted_leads edition W mode s.at read is more) in
        (_, quoted is more rest.1)

    -- ---- double quotes

    -- the state just after what opens double quotes
    abbrev inside_at : State
    inside_at = place s (past_byte W s.at)

    -- the turn over text in double quotes, by what is read between them
    abbrev held_by : Read WordSoFar → Read (Step WordSoFar)
    held_by x = x ▸ (λ k u. Ok (k.substs, u)) ▸ (λ ss u. Ok (again (word_so_far h.nested ss), u))

    -- where there is room, that text is read as pieces in double quotes
    double_turn : 0 < room
        → does (piece_row (level room) mode b h pieces.Double) Whole g s ≡ held_by
        (all (room - 1) Double (o + past_continuations W s.at) (word_so_far 0 h.substs) inside_at)
    unfolding contents
    double_turn some =
        ap (λ x. x ▸ λ ss u. Ok (again (word_so_far h.nested ss), u))
        (level_below Whole g inside_at room Double (o + past_continuations W s.at) h.substs some)

    -- where there is none, it is a fault: too deep
    double_closed : room ≡ 0
        → does (piece_row (level room) mode b h pieces.Double) Whole g s ≡ Err (fault_here TooDeep)
    double_closed none =
        ap (λ x. x ▸ λ ss u. Ok (again (word_so_far h.nested ss), u))
        (level_closed Whole g inside_at room Double (o + past_continuations W s.at) h.substs none)

    -- the same of text in double quotes: by what is read between them, and whatever that is
    double_by : Is pieces.Double → 0 < room → (x : Read WordSoFar)
        → all (room - 1) Double (o + past_continuations W s.at) (word_so_far 0 h.substs) inside_at ≡ x
        → Goes mode s.at t.at
    double_by is some (Err f) inner =
        absurd (fails room mode b h h2 s t f
        (row_is room mode b h s pieces.Double read is ∙ double_turn some ∙ ap held_by inner) whole)
    double_by is some (Ok (k, u)) inner =
        let there = double_there edition W mode s.at read is in
        let near = after_some W s.at quotation_mark there.0 in
        let opens = opened_leads edition W mode s.at read is in
        let held =
        finds (room - 1) Double (o + past_continuations W s.at) (word_so_far 0 h.substs) k inside_at u refl
        (omega (arith, few, near, after_low W s.at)) near
        (clear_on (is_later edition) W (quoting_in mode) in_double s.at (past_byte W s.at) [] opens clear)
        inner in
        let bounds = pieces_within edition W Double (past_byte W s.at) u.at held.0 refl held.1 near in
        let turn = row_is room mode b h s pieces.Double read is ∙ double_turn some ∙ ap held_by inner in
        let plain : not_quoted ≡ quoting_in mode = sym (ap quoting_in there.1) in
        let leads =
        leads_on (is_later edition) W (quoting_in mode) in_double not_quoted s.at (past_byte W s.at) u.at
        [] held.0 opens (pieces_lead edition W Double (past_byte W s.at) u.at held.0 refl held.1) in
        let rest =
        goes_on (word_so_far h.nested k.substs) u held.0 turn (omega (arith, bounds.0, after_low W s.at)) bounds.1
        (subst (λ (r : Quoting). Leads (is_later edition) W (quoting_in mode) s.at held.0 r u.at) plain leads)
        in
        (held.0 ++ rest.0, double {inside = held.0} {left = rest.0} is held.1 rest.1)

    double_here : Is pieces.Double → Goes mode s.at t.at
    double_here is =
        ⊎_elim (λ (some : 0 < room). double_by is some _ refl)
        (λ (none : room ≤ 0). absurd (fails room mode b h h2 s t (fault_here TooDeep)
        (row_is room mode b h s pieces.Double read is ∙ double_closed (omega arith)) whole))
        (cases_lt 0 room)

    -- ---- pieces that no delimiter has

    -- text in backquotes is not the piece here
    backquote_here : Is pieces.Backquote → ⊥
    backquote_here is =
        let there = byte_there edition W mode s.at pieces.Backquote read is refl in
        not_clear _ clear.some
        (backquote_none (is_later edition) W mode s.at
        (there.1 ∙ ap (λ (c : ℕ). Some c) (backquote_of _ _ there.0 _ mode there.2)))

    -- no `$(` stands here, and no `${`
    opener_here : (c d : ℕ) → c ≡ dollar_sign → byte_at W s.at ≡ Some c → byte_at W (past_byte W s.at) ≡ Some d
        → (is_byte (Some d) left_parenthesis || is_byte (Some d) left_brace) ≡ true → ⊥
    opener_here c d same byte next opens =
        not_clear _ clear.some
        (opener_none (is_later edition) W mode s.at (byte ∙ ap (λ (x : ℕ). Some x) same)
        (ap (λ y. is_byte y left_parenthesis || is_byte y left_brace) next ∙ opens))

    -- so no parameter expansion does, no command substitution and no arithmetic
    parameter_here : Is pieces.Param → ⊥
    parameter_here is =
        let there = byte_there edition W mode s.at pieces.Param read is refl in
        let begun = parameter_of _ _ there.0 _ mode there.2 in
        opener_here there.0 left_brace begun.0 there.1 begun.1 refl

    substitution_here : Is pieces.Subst → ⊥
    substitution_here is =
        let there = byte_there edition W mode s.at pieces.Subst read is refl in
        let begun = substitution_of _ _ there.0 _ mode there.2 in
        opener_here there.0 left_parenthesis begun.0 there.1 begun.1 refl

    arithmetic_here : Is pieces.Arith → ⊥
    arithmetic_here is =
        let there = byte_there edition W mode s.at pieces.Arith read is refl in
        let begun = arithmetic_of _ _ there.0 _ mode there.2 in
        opener_here there.0 left_parenthesis begun.0 there.1 begun.1 refl

    -- nor does text in dollar-single quotes
    dollar_quote_here : Is pieces.DollarSingle → ⊥
    dollar_quote_here is =
        let there = byte_there edition W mode s.at pieces.DollarSingle read is refl in
        let begun = dollar_quote_of _ _ there.0 _ mode there.2 in
        let found =
        dollar_quote_found (is_later edition) W s.at (there.1 ∙ ap (λ (x : ℕ). Some x) begun.0) begun.1 in
        let none =
        subst (λ (m : Mode). has_dollar_single (quoting_in m) false (drop s.at W) ≡ false) begun.3
        (clear.none begun.2) in
        both_ways _ none found

    -- nor does a bracket of arithmetic
    bracket_here : (z : Piece) → stands_alone z ≡ false → is_bracket z ≡ true → Is z → ⊥
    bracket_here z inner is_one is =
        let there = byte_there edition W mode s.at z read is inner in
        both_ways _ (no_bracket _ _ there.0 _ mode z there.2) is_one

    -- whatever piece stands here, up to where the reading ends stand pieces that leave something
    by_piece : (z : Piece) → Is z → Goes mode s.at t.at
    by_piece pieces.Closer is = closes_here is
    by_piece pieces.Missing is =
        absurd (fails room mode b h h2 s t (record { kind = unclosed mode; at = b })
        (row_is room mode b h s pieces.Missing read is) whole)
    by_piece pieces.LoneBackslash is =
        absurd (fails room mode b h h2 s t (fault_here LoneBackslash)
        (row_is room mode b h s pieces.LoneBackslash read is) whole)
    by_piece pieces.Escape is = escape_here is
    by_piece pieces.Single is = single_here is
    by_piece pieces.DollarSingle is = absurd (dollar_quote_here is)
    by_piece pieces.Double is = double_here is
    by_piece pieces.Backquote is = absurd (backquote_here is)
    by_piece pieces.Pid is = pid_here is
    by_piece pieces.Subst is = absurd (substitution_here is)
    by_piece pieces.Arith is = absurd (arithmetic_here is)
    by_piece pieces.Param is = absurd (parameter_here is)
    by_piece pieces.Open is = absurd (bracket_here pieces.Open refl refl is)
    by_piece pieces.Close is = absurd (bracket_here pieces.Close refl refl is)
    by_piece pieces.BadClose is = absurd (bracket_here pieces.BadClose refl refl is)
    by_piece pieces.Ordinary is = ordinary_here is

  -- so it is however many bytes are left
  find : (n : ℕ) → Finds n
  find zero room mode b h h2 s t read few within clear whole = absurd (omega arith)
  find (suc n) room mode b h h2 s t read few within clear whole =
      by_piece n (find n) room mode b h h2 s t read few within clear whole
      (piece_by_edition edition W mode s.at) refl

  -- ---- the word

  -- a word's substitutions, and its span from the front up to where the reading stands
  abbrev with_span : Row ASubst → State → Read (Row ASubst × Span)
  with_span ss u = Ok ((ss, span o 0 u.at), u)

  -- the word, by what its pieces compute
  abbrev word_by : Read WordSoFar → Read AWord
  word_by x = x ▸ (λ k u. Ok (k.substs, u)) ▸ with_span ▸ (λ y u. Ok (word y.1 (substs_of y.0), u))

  -- what the pieces of the word compute from the front on
  abbrev pieces_by : ℕ → Read WordSoFar
  pieces_by room = all room Plain (o + 0) (word_so_far 0 []) (standing 0)

  -- the row of a word computes just this
  word_is : (room : ℕ) → does (a_word (level room)) Whole g (standing 0) ≡ word_by (pieces_by room)
  unfolding a_word contents
  word_is room = refl

  -- a word that is read up to n, and from whose front on something is left, has pieces that leave something
  word_goes : (room n : ℕ) (w : AWord) (told : Row Spelled)
      → may (a_word (level room)) g (standing 0) (Ok (w, standing n)) told
      → Clear (is_later edition) W not_quoted 0 → Goes Plain 0 n
  word_goes room n w told part clear = by (pieces_by room) refl
    where
      read : ◌≡◌ {A = Read AWord} (Ok (w, standing n)) (word_by (pieces_by room))
      read = (computed_is_only (a_word (level room)) g (standing 0)).only _ _ part ∙ word_is room

      by : (x : Read WordSoFar) → pieces_by room ≡ x → Goes Plain 0 n
      by (Err f) whole =
          let no : ◌≡◌ {A = Read AWord} (Ok (w, standing n)) (Err f) = read ∙ ap word_by whole in
          absurd cc
      by (Ok (k, u)) whole =
          let v : AWord = word (span o 0 u.at) (substs_of k.substs) in
          let same : ◌≡◌ {A = Read AWord} (Ok (w, standing n)) (Ok (v, u)) = read ∙ ap word_by whole in
          let pair : ◌≡◌ {A = AWord × State} (w, standing n) (v, u) = cc in
          let at : n ≡ u.at = ap (λ (z : AWord × State). z.1.at) pair in
          let goes = find (suc (length W)) room Plain (o + 0) (word_so_far 0 []) k (standing 0) u refl
          (omega arith) (omega arith) clear whole in
          subst (λ (q : ℕ). Goes Plain 0 q) (sym at) goes

-- ---- by its own bytes

-- a word that is read anywhere is read of its own bytes too
word_alone : (room p n : ℕ) (g : Given) → ReadsWord room g p n
    → ReadsWord room (given g.edition (raw g.text p (p + n)) 0) 0 n
unfolding ends_word stands
word_alone room p n g read =
    let W = raw g.text p (p + n) in
    let width : p + n - p ≡ n = omega arith in
    let same : take n W ≡ take n (drop p g.text) =
    ap (λ k. take n (take k (drop p g.text))) width ∙ take-take n n (drop p g.text) (omega arith) in
    let short : length W ≤ n = omega (arith, length-take (p + n - p) (drop p g.text)) in
    let none : byte_at W (0 + n) ≡ None =
    slice_get_past W (past_continuations W (0 + n)) (omega (arith, short, place_low W (0 + n))) in
    reads_word_anywhere room g (given g.edition W 0) p 0 n read same (ap ends none)
    (ap (λ y. is_byte y left_parenthesis) none)

-- where a word is a delimiter, its text is left; text in dollar-single quotes, if there is such, is not found
clear_from : (later : Bool) (found : Bool) (text : Option (List ℕ)) (literal : Bool) (d : ADelimiter)
    → cond (later && found) None (option_map (λ l. record { text = l; literal = literal }) text) ≡ Some d
    → (text ≡ Some d.text) × (later ≡ true → found ≡ false)
clear_from true true text literal d is = absurd cc
clear_from true false None literal d is = absurd cc
clear_from true false (Some l) literal d is =
    let same : record { text = l; literal = literal } ≡ d = cc in
    (ap (λ (x : ADelimiter). Some x.text) same, λ e. refl)
clear_from false found None literal d is = absurd cc
clear_from false found (Some l) literal d is =
    let same : record { text = l; literal = literal } ≡ d = cc in
    (ap (λ (x : ADelimiter). Some x.text) same, λ e. absurd cc)

-- a word that is read and is a delimiter has pieces that leave the delimiter's text
pub word_leaves : (room p n : ℕ) (g : Given) (d : ADelimiter) → ReadsWord room g p n
    → delimiter_in g.edition (raw g.text p (p + n)) ≡ Some d
    → Leaves g.edition (raw g.text p (p + n)) Plain 0 n d.text
word_leaves room p n g d read is =
    let W = raw g.text p (p + n) in
    let parts =
    clear_from (is_later g.edition) (has_dollar_single not_quoted false W) (unquoted not_quoted false W)
    (is_quoted W) d is in
    let clear : Clear (is_later g.edition) W not_quoted 0 =
    record { some = ap is_some parts.0; none = parts.1 } in
    let alone = word_alone room p n g read in
    let none : 0 + n ≡ n = omega arith in
    let part =
    subst (λ (m : ℕ). may (a_word (level room)) (given g.edition W 0) (standing 0) (Ok (alone.0, standing m))
    (raw W 0 (0 + n) ∷ [])) none alone.1 in
    let goes = word_goes g.edition W 0 room n alone.0 (raw W 0 (0 + n) ∷ []) part clear in
    let short : length W ≤ n = omega (arith, length-take (p + n - p) (drop p g.text)) in
    let same : Some goes.0 ≡ Some d.text = sym (left_all g.edition W n goes.0 short goes.1) ∙ parts.0 in
    let text : goes.0 ≡ d.text = cc in
    subst (λ (l : List ℕ). Leaves g.edition W Plain 0 n l) text goes.1
