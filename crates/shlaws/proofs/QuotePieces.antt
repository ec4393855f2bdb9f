-- What the pieces of a word leave is what is left byte by byte.
use Rattle.std.proofs.Common.{◌≡◌, ℕ, ◌+◌, ◌≤◌, Bool, true, false, List, [], ◌∷◌, length, drop, slice_get, Option, Some, refl, sym, ap, subst, ◌∙◌, arith, append-nil}
use Rattle.std.specs.Prelude.{◌&&◌}
use Rattle.std.proofs.lemmas.List.{drop_all}
use Rattle.std.proofs.lemmas.Option.{slice_get_within}
use Rattle.shgrammar.specs.declared.edition.Edition.{Edition}
use Rattle.shgrammar.specs.declared.mode.Mode.{Mode}
use Rattle.shgrammar.specs.declared.mode.Mode.TheVariants.{Plain, Double, Brace, DoubleBrace, Arith}
use Rattle.shgrammar.specs.declared.mode.Piece.TheVariants as pieces
use Rattle.shgrammar.specs.Bytes.{byte_at, past_byte, past_continuations}
use Rattle.shgrammar.specs.Characters.{backslash, dollar_sign, apostrophe, quotation_mark}
use Rattle.shgrammar.specs.Form.{raw}
use Rattle.shgrammar.specs.HereDocuments.{delimiter_in, has_dollar_single, in_double, is_quoted, not_quoted, unquoted}
use Rattle.shgrammar.specs.Pieces.{next_quote, past_closer}
use Rattle.shgrammar.specs.Standing.{at_end}
use Rattle.shgrammar.specs.Tokens.{is_later}
use Rattle.shgrammar.proofs.Places.{after_low, after_some, next_of_low, not_end_low}
use Rattle.shgrammar.proofs.Stretches.{place_low}
use Rattle.shlaws.specs.Quotes.{Leaves, double, ended, escape, escape_leaves, ordinary, pid, piece_by_edition, single}
use Rattle.shlaws.proofs.PieceBytes.{Begins, another, begins, byte_there, closer_there, dollar, dollars, double_quote, escapes, is_unquoted, quote, quoting_in}
use Rattle.shlaws.proofs.QuoteSteps.{Leads, another_leads, closer_leads, dollar_leads, double_leads, escape_leads, leads_nowhere, leads_on, pid_leads, single_leads}

module _ (later : Bool) (W : List ℕ) where
  -- an ordinary byte is left
  pub ordinary_leads : (mode : Mode) (p b : ℕ) (last : Bool) → byte_at W p ≡ Some b
      → Begins later last b (byte_at W (past_byte W p)) mode pieces.Ordinary
      → Leads later W (quoting_in mode) p (b ∷ []) (quoting_in mode) (past_byte W p)
  ordinary_leads mode p b last byte (dollar is no_dollar no_open no_brace no_quote) =
      subst (λ (c : ℕ). Leads later W (quoting_in mode) p (c ∷ []) (quoting_in mode) (past_byte W p)) (sym is)
      (dollar_leads later W mode p (byte ∙ ap (λ (n : ℕ). Some n) is) no_dollar no_open no_brace no_quote)
  ordinary_leads mode p b last byte (another no_backslash no_tick no_dollar no_quote) =
      another_leads later W mode p b byte no_backslash no_tick no_dollar no_quote

-- with which bytes an escape, `$$` and text in quotes begin; such text begins outside quotes
pub escape_of : (later last : Bool) (b : ℕ) (x : Option ℕ) (mode : Mode)
    → Begins later last b x mode pieces.Escape → (b ≡ backslash) × (last ≡ false)
escape_of later last b x mode (escapes is more) = (is, more)

pub pid_of : (later last : Bool) (b : ℕ) (x : Option ℕ) (mode : Mode) → Begins later last b x mode pieces.Pid
    → (b ≡ dollar_sign) × (x ≡ Some dollar_sign)
pid_of later last b x mode (dollars is next) = (is, next)

pub single_of : (later last : Bool) (b : ℕ) (x : Option ℕ) (mode : Mode)
    → Begins later last b x mode pieces.Single → (b ≡ apostrophe) × (mode ≡ Plain)
single_of later last b x mode (quote is) = (is, refl)

pub double_of : (later last : Bool) (b : ℕ) (x : Option ℕ) (mode : Mode)
    → Begins later last b x mode pieces.Double → (b ≡ quotation_mark) × (mode ≡ Plain)
double_of later last b x mode (double_quote is) = (is, refl)

-- a byte that is read and is c is the byte c
some_is : (o : Option ℕ) (b c : ℕ) → o ≡ Some b → b ≡ c → o ≡ Some c
some_is o b c is same = is ∙ ap (λ (n : ℕ). Some n) same

module _ (edition : Edition) (W : List ℕ) where
  -- whether the edition has text in dollar-single quotes
  later : Bool
  later = is_later edition

  -- from p on in one mode this text is left, and then what is left from q on in another
  abbrev At : Mode → ℕ → List ℕ → Mode → ℕ → Type 0
  At mode p text m q = Leads (is_later edition) W (quoting_in mode) p text (quoting_in m) q

  -- ---- each piece leads on

  -- an ordinary byte is left, and so are both of `$$`
  pub byte_leads : (mode : Mode) (p b : ℕ) → is_unquoted mode ≡ true
      → piece_by_edition edition W mode p ≡ pieces.Ordinary → byte_at W p ≡ Some b
      → At mode p (b ∷ []) mode (past_byte W p)
  byte_leads mode p b read is byte =
      ordinary_leads (is_later edition) W mode p b _ byte
      (begins edition W mode p b pieces.Ordinary read byte is)

  pub both_leads : (mode : Mode) (p : ℕ) → is_unquoted mode ≡ true
      → piece_by_edition edition W mode p ≡ pieces.Pid →
      At mode p (dollar_sign ∷ dollar_sign ∷ []) mode (past_byte W (past_byte W p))
  both_leads mode p read is =
      let there = byte_there edition W mode p pieces.Pid read is refl in
      let one = pid_of _ _ there.0 _ mode there.2 in
      pid_leads (is_later edition) W mode p (some_is (byte_at W p) there.0 dollar_sign there.1 one.0) one.1

  -- the bytes that are read where an escape, text in single quotes and text in double quotes begin
  pub backslash_there : (mode : Mode) (p : ℕ) → is_unquoted mode ≡ true
      → piece_by_edition edition W mode p ≡ pieces.Escape
      → (byte_at W p ≡ Some backslash) × (at_end W (past_byte W p) ≡ false)
  backslash_there mode p read is =
      let there = byte_there edition W mode p pieces.Escape read is refl in
      let one = escape_of _ _ there.0 _ mode there.2 in
      (some_is (byte_at W p) there.0 backslash there.1 one.0, one.1)

  pub quote_there : (mode : Mode) (p : ℕ) → is_unquoted mode ≡ true
      → piece_by_edition edition W mode p ≡ pieces.Single → (byte_at W p ≡ Some apostrophe) × (mode ≡ Plain)
  quote_there mode p read is =
      let there = byte_there edition W mode p pieces.Single read is refl in
      let one = single_of _ _ there.0 _ mode there.2 in
      (some_is (byte_at W p) there.0 apostrophe there.1 one.0, one.1)

  pub double_there : (mode : Mode) (p : ℕ) → is_unquoted mode ≡ true
      → piece_by_edition edition W mode p ≡ pieces.Double → (byte_at W p ≡ Some quotation_mark) × (mode ≡ Plain)
  double_there mode p read is =
      let there = byte_there edition W mode p pieces.Double read is refl in
      let one = double_of _ _ there.0 _ mode there.2 in
      (some_is (byte_at W p) there.0 quotation_mark there.1 one.0, one.1)

  -- of an escape is left what its mode leaves
  pub taken_leads : (mode : Mode) (p c : ℕ) → is_unquoted mode ≡ true
      → piece_by_edition edition W mode p ≡ pieces.Escape → slice_get W (past_continuations W p + 1) ≡ Some c
      → At mode p (escape_leaves mode c) mode (past_continuations W p + 2)
  taken_leads mode p c read is next =
      escape_leads (is_later edition) W mode p c read (backslash_there mode p read is).0 next

  -- of text in single quotes all that stands between them is left
  pub quoted_leads : (mode : Mode) (p : ℕ) → is_unquoted mode ≡ true
      → piece_by_edition edition W mode p ≡ pieces.Single → at_end W (next_quote W (past_byte W p)) ≡ false
      → At mode p (raw W (past_byte W p) (next_quote W (past_byte W p))) mode (next_quote W (past_byte W p) + 1)
  quoted_leads mode p read is more =
      let there = quote_there mode p read is in
      subst (λ (m : Mode). At m p (raw W (past_byte W p) (next_quote W (past_byte W p))) m
      (next_quote W (past_byte W p) + 1)) (sym there.1) (single_leads (is_later edition) W p there.0 more)

  -- of what opens double quotes no byte is left
  pub opened_leads : (mode : Mode) (p : ℕ) → is_unquoted mode ≡ true
      → piece_by_edition edition W mode p ≡ pieces.Double → At mode p [] Double (past_byte W p)
  opened_leads mode p read is =
      let there = double_there mode p read is in
      subst (λ (m : Mode). At m p [] Double (past_byte W p)) (sym there.1)
      (double_leads (is_later edition) W p there.0)

  -- nor is one of what closes them, or of the end of a word
  ended_leads : (mode : Mode) (p : ℕ) → is_unquoted mode ≡ true
      → piece_by_edition edition W mode p ≡ pieces.Closer → At mode p [] Plain (past_closer W mode p)
  ended_leads Plain p read is = leads_nowhere (is_later edition) W not_quoted p
  ended_leads Double p read is = closer_leads (is_later edition) W p (closer_there edition W p is)
  ended_leads Brace p read is = absurd cc
  ended_leads DoubleBrace p read is = absurd cc
  ended_leads Arith p read is = absurd cc

  -- ---- all of them

  -- what pieces leave is left byte by byte, up to where what closes them ends
  pub pieces_lead : (mode : Mode) (p q : ℕ) (text : List ℕ) → is_unquoted mode ≡ true
      → Leaves edition W mode p q text → At mode p text Plain q
  pieces_lead mode p q text read (ended is) = ended_leads mode p read is
  pieces_lead mode p q text read (ordinary {left = left} b is byte rest) =
      leads_on (is_later edition) W (quoting_in mode) (quoting_in mode) not_quoted p (past_byte W p) q
      (b ∷ []) left (byte_leads mode p b read is byte) (pieces_lead mode (past_byte W p) q left read rest)
  pieces_lead mode p q text read (pid {left = left} is rest) =
      leads_on (is_later edition) W (quoting_in mode) (quoting_in mode) not_quoted p (past_byte W (past_byte W p)) q
      (dollar_sign ∷ dollar_sign ∷ []) left (both_leads mode p read is)
      (pieces_lead mode (past_byte W (past_byte W p)) q left read rest)
  pieces_lead mode p q text read (escape {left = left} c is next rest) =
      leads_on (is_later edition) W (quoting_in mode) (quoting_in mode) not_quoted p
      (past_continuations W p + 2) q (escape_leaves mode c) left (taken_leads mode p c read is next)
      (pieces_lead mode (past_continuations W p + 2) q left read rest)
  pieces_lead mode p q text read (single {left = left} is more rest) =
      leads_on (is_later edition) W (quoting_in mode) (quoting_in mode) not_quoted p
      (next_quote W (past_byte W p) + 1) q (raw W (past_byte W p) (next_quote W (past_byte W p))) left
      (quoted_leads mode p read is more)
      (pieces_lead mode (next_quote W (past_byte W p) + 1) q left read rest)
  pieces_lead mode p q text read (double {m = m} {inside = inside} {left = left} is held rest) =
      let plain = (double_there mode p read is).1 in
      let one : At mode p inside Plain m =
      leads_on (is_later edition) W (quoting_in mode) in_double not_quoted p (past_byte W p) m [] inside
      (opened_leads mode p read is) (pieces_lead Double (past_byte W p) m inside refl held) in
      let two : At mode m left Plain q = pieces_lead mode m q left read rest in
      leads_on (is_later edition) W (quoting_in mode) not_quoted not_quoted p m q inside left one
      (subst (λ (n : Mode). At n m left Plain q) plain two)

  -- ---- how far they go

  -- the place after what closes pieces, which is not before it, lies inside the text or at its end, and so
  -- does the one after `$$`
  closer_far : (mode : Mode) (p : ℕ) → is_unquoted mode ≡ true
      → piece_by_edition edition W mode p ≡ pieces.Closer → p ≤ length W
      → (p ≤ past_closer W mode p) × (past_closer W mode p ≤ length W)
  closer_far Plain p read is within = (omega arith, within)
  closer_far Double p read is within =
      (omega (arith, after_low W p), after_some W p quotation_mark (closer_there edition W p is))
  closer_far Brace p read is within = absurd cc
  closer_far DoubleBrace p read is within = absurd cc
  closer_far Arith p read is within = absurd cc

  pub pid_within : (mode : Mode) (p : ℕ) → is_unquoted mode ≡ true
      → piece_by_edition edition W mode p ≡ pieces.Pid → past_byte W (past_byte W p) ≤ length W
  pid_within mode p read is =
      let there = byte_there edition W mode p pieces.Pid read is refl in
      after_some W (past_byte W p) dollar_sign (pid_of _ _ there.0 _ mode there.2).1

  -- and the one where pieces end, which is not before where they begin
  pub pieces_within : (mode : Mode) (p q : ℕ) (text : List ℕ) → is_unquoted mode ≡ true → Leaves edition W mode p q text
      → p ≤ length W → (p ≤ q) × (q ≤ length W)
  pieces_within mode p q text read (ended is) within = closer_far mode p read is within
  pieces_within mode p q text read (ordinary {left = left} b is byte rest) within =
      let r = pieces_within mode (past_byte W p) q left read rest (after_some W p b byte) in
      (omega (arith, r.0, after_low W p), r.1)
  pieces_within mode p q text read (pid {left = left} is rest) within =
      let r = pieces_within mode (past_byte W (past_byte W p)) q left read rest (pid_within mode p read is) in
      (omega (arith, r.0, after_low W p, after_low W (past_byte W p)), r.1)
  pieces_within mode p q text read (escape {left = left} c is next rest) within =
      let lt = slice_get_within W (past_continuations W p + 1) c next in
      let r = pieces_within mode (past_continuations W p + 2) q left read rest (omega (arith, lt)) in
      (omega (arith, r.0, place_low W p), r.1)
  pieces_within mode p q text read (single {left = left} is more rest) within =
      let lt = not_end_low W (next_quote W (past_byte W p)) more in
      let r = pieces_within mode (next_quote W (past_byte W p) + 1) q left read rest (omega (arith, lt)) in
      (omega (arith, r.0, after_low W p, next_of_low apostrophe W (past_byte W p)), r.1)
  pieces_within mode p q text read (double {m = m} {inside = inside} {left = left} is held rest) within =
      let there = double_there mode p read is in
      let one = pieces_within Double (past_byte W p) m inside refl held (after_some W p quotation_mark there.0) in
      let two = pieces_within mode m q left read rest one.1 in
      (omega (arith, one.0, two.0, after_low W p), two.1)

  -- ---- the whole word

  -- where pieces make up all bytes of a word, quote removal leaves what they leave
  pub left_all : (q : ℕ) (left : List ℕ) → length W ≤ q → Leaves edition W Plain 0 q left
      → unquoted not_quoted false W ≡ Some left
  unfolding unquoted
  left_all q left end leaves =
      let lead = pieces_lead Plain 0 q left refl leaves in
      let none : unquoted not_quoted false (drop q W) ≡ Some [] =
      ap (unquoted not_quoted false) (drop_all q W end) in
      lead.left ∙ ap (Rattle.shgrammar.specs.Unquoting.left_of left) none
      ∙ ap (λ (l : List ℕ). Some l) (append-nil left)

  -- and no text in dollar-single quotes is found in it, where the edition has such text
  none_found : (q : ℕ) (left : List ℕ) → length W ≤ q → Leaves edition W Plain 0 q left
      → is_later edition ≡ true → has_dollar_single not_quoted false W ≡ false
  unfolding has_dollar_single
  none_found q left end leaves newer =
      let lead = pieces_lead Plain 0 q left refl leaves in
      lead.found newer ∙ ap (has_dollar_single not_quoted false) (drop_all q W end)

  -- so the word is a delimiter of the text that they leave
  pub word_is : (left : List ℕ) → Leaves edition W Plain 0 (length W) left
      → delimiter_in edition W ≡ Some (record { text = left; literal = is_quoted W })
  word_is left leaves =
      let text = left_all (length W) left (omega arith) leaves in
      let none : (is_later edition && has_dollar_single not_quoted false W) ≡ false =
      both (is_later edition) (none_found (length W) left (omega arith) leaves) in
      rw (none, text) refl
    where
      both : (b : Bool) → (b ≡ true → has_dollar_single not_quoted false W ≡ false)
          → (b && has_dollar_single not_quoted false W) ≡ false
      both true h = h refl
      both false h = refl
