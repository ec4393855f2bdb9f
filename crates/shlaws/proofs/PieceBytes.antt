-- Which byte begins which piece, outside quotes and in double quotes.
use Rattle.std.proofs.Common.{◌≡◌, ℕ, ◌==◌, Bool, true, false, List, Option, Some, None, refl, sym, ap, subst, ◌∙◌}
use Rattle.std.specs.Prelude.{◌&&◌}
use Rattle.std.proofs.lemmas.Bool.{and_parts, and_right, both_ways, cond_both, eqb-true}
use Rattle.std.proofs.Math.Bool.{and-false}
use Rattle.shgrammar.specs.declared.edition.Edition.{Edition}
use Rattle.shgrammar.specs.declared.mode.Mode.{Mode}
use Rattle.shgrammar.specs.declared.mode.Mode.TheVariants.{Plain, Double, Brace, DoubleBrace, Arith}
use Rattle.shgrammar.specs.declared.mode.Piece.{Piece}
use Rattle.shgrammar.specs.declared.mode.Piece.TheVariants as pieces
use Rattle.shgrammar.specs.Bytes.{byte_at, ends, past_byte, stands}
use Rattle.shgrammar.specs.Characters.{backslash, grave_accent, dollar_sign, left_parenthesis, left_brace, apostrophe, quotation_mark}
use Rattle.shgrammar.specs.HereDocuments.{Quoting, in_double, is_quote, not_quoted}
use Rattle.shgrammar.specs.Pieces.{byte_by, dollar_at, dollar_by, piece_at, piece_by, piece_in, quotes_singly}
use Rattle.shgrammar.specs.Standing.{at_end, is_byte}
use Rattle.shgrammar.specs.Tokens.{is_later}
use Rattle.shlaws.specs.Quotes.{piece_by_edition}

-- how a byte of a piece is quoted, in the two modes in which quotes are removed
abbrev pub quoting_in : Mode → Quoting
quoting_in Double = in_double
quoting_in mode = not_quoted

-- the two modes in which quotes are removed
abbrev pub is_unquoted : Mode → Bool
is_unquoted Plain = true
is_unquoted Double = true
is_unquoted mode = false

-- a piece that begins with the byte b, after which x is read or, if it is the last, nothing stands
pub data Begins (later last : Bool) (b : ℕ) (x : Option ℕ) : Mode → Piece → Type 0 where
  lone : {mode : Mode} → Begins later last b x mode pieces.LoneBackslash
  escapes : {mode : Mode} → b ≡ backslash → last ≡ false → Begins later last b x mode pieces.Escape
  backquote : {mode : Mode} → b ≡ grave_accent → Begins later last b x mode pieces.Backquote
  dollars : {mode : Mode} → b ≡ dollar_sign → x ≡ Some dollar_sign → Begins later last b x mode pieces.Pid
  arithmetic : {mode : Mode} → b ≡ dollar_sign → x ≡ Some left_parenthesis → Begins later last b x mode pieces.Arith
  substitution : {mode : Mode} → b ≡ dollar_sign → x ≡ Some left_parenthesis → Begins later last b x mode pieces.Subst
  parameter : {mode : Mode} → b ≡ dollar_sign → x ≡ Some left_brace → Begins later last b x mode pieces.Param
  dollar_quote : b ≡ dollar_sign → x ≡ Some apostrophe → later ≡ true → Begins later last b x Plain pieces.DollarSingle
  dollar : {mode : Mode} → b ≡ dollar_sign → is_byte x dollar_sign ≡ false → is_byte x left_parenthesis ≡ false →
      is_byte x left_brace ≡ false
      → (later ≡ true → (is_quote (quoting_in mode) apostrophe && is_byte x apostrophe) ≡ false)
      → Begins later last b x mode pieces.Ordinary
  quote : b ≡ apostrophe → Begins later last b x Plain pieces.Single
  double_quote : b ≡ quotation_mark → Begins later last b x Plain pieces.Double
  closes : b ≡ quotation_mark → Begins later last b x Double pieces.Closer
  ends_here : ends (Some b) ≡ true → Begins later last b x Plain pieces.Closer
  another : {mode : Mode} → (b == backslash) ≡ false → (b == grave_accent) ≡ false → (b == dollar_sign) ≡ false
      → is_quote (quoting_in mode) b ≡ false
      → Begins later last b x mode pieces.Ordinary

module _ (edition : Edition) (T : List ℕ) (last : Bool) (b : ℕ) where
  -- `$'` begins text in dollar-single quotes where the edition and the mode have it, else an ordinary `$`
  dollar_quoted : (mode : Mode) (y : ℕ) → is_unquoted mode ≡ true → b ≡ dollar_sign → (y == dollar_sign) ≡ false
      → (y == left_parenthesis) ≡ false → (y == left_brace) ≡ false → (y == apostrophe) ≡ true
      → Begins (is_later edition) last b (Some y) mode (piece_in edition mode pieces.DollarSingle)
  dollar_quoted Plain y read is no_dollar no_open no_brace quoted =
      cond_both (is_later edition && quotes_singly Plain) _ _
      (Begins (is_later edition) last b (Some y) Plain)
      (λ e. dollar_quote is (ap (λ (n : ℕ). Some n) (eqb-true y apostrophe quoted)) (and_parts _ _ e).0)
      (λ e. dollar is no_dollar no_open no_brace
      (λ later. absurd (both_ways (is_later edition && true) e (ap (λ c. c && true) later))))
  dollar_quoted Double y read is no_dollar no_open no_brace quoted =
      cond_both (is_later edition && quotes_singly Double) _ _
      (Begins (is_later edition) last b (Some y) Double)
      (λ e. absurd (both_ways false refl (and_parts _ _ e).1))
      (λ e. dollar is no_dollar no_open no_brace (λ later. refl))
  dollar_quoted Brace y read is no_dollar no_open no_brace quoted = absurd cc
  dollar_quoted DoubleBrace y read is no_dollar no_open no_brace quoted = absurd cc
  dollar_quoted Arith y read is no_dollar no_open no_brace quoted = absurd cc

  -- each piece that a `$` begins, by the byte after it, begins as it has to
  dollar_begins : (mode : Mode) (r : ℕ) (x : Option ℕ) → is_unquoted mode ≡ true → b ≡ dollar_sign
      → Begins (is_later edition) last b x mode (piece_in edition mode (dollar_by T r x))
  dollar_begins mode r None read is =
      dollar is refl refl refl (λ later. and-false (is_quote (quoting_in mode) apostrophe))
  dollar_begins mode r (Some y) read is =
      let G : Piece → Type 0 =
      λ z. Begins (is_later edition) last b (Some y) mode (piece_in edition mode z) in
      cond_both (y == dollar_sign) _ _ G (λ e. dollars is (ap (λ (n : ℕ). Some n) (eqb-true y dollar_sign e)))
      (λ no_dollar. cond_both (y == left_parenthesis) _ _ G
      (λ e. cond_both (stands T (past_byte T r) left_parenthesis) _ _ G
      (λ f. arithmetic is (ap (λ (n : ℕ). Some n) (eqb-true y left_parenthesis e)))
      (λ f. substitution is (ap (λ (n : ℕ). Some n) (eqb-true y left_parenthesis e))))
      (λ no_open. cond_both (y == left_brace) _ _ G
      (λ e. parameter is (ap (λ (n : ℕ). Some n) (eqb-true y left_brace e)))
      (λ no_brace. cond_both (y == apostrophe) _ _ G (λ e. dollar_quoted mode y read is no_dollar no_open no_brace e)
      (λ no_quote. dollar is no_dollar no_open no_brace
      (λ later. and_right (is_quote (quoting_in mode) apostrophe) (y == apostrophe) no_quote)))))

  -- so does each that begins with a byte other than a backslash, a backquote and a `$`
  byte_begins : (mode : Mode) (p : ℕ) (x : Option ℕ) → is_unquoted mode ≡ true → (b == backslash) ≡ false
      → (b == grave_accent) ≡ false → (b == dollar_sign) ≡ false
      → Begins (is_later edition) last b x mode (piece_in edition mode (byte_by T p mode 0 b))
  byte_begins Plain p x read no_backslash no_tick no_dollar =
      let G : Piece → Type 0 = λ z. Begins (is_later edition) last b x Plain (piece_in edition Plain z) in
      cond_both (ends (Some b)) _ _ G (λ e. ends_here e)
      (λ more. cond_both (b == apostrophe) _ _ G (λ e. quote (eqb-true b apostrophe e))
      (λ no_quote. cond_both (b == quotation_mark) _ _ G (λ e. double_quote (eqb-true b quotation_mark e))
      (λ no_double. another no_backslash no_tick no_dollar (rw (no_quote, no_double) refl))))
  byte_begins Double p x read no_backslash no_tick no_dollar =
      let G : Piece → Type 0 = λ z. Begins (is_later edition) last b x Double (piece_in edition Double z) in
      cond_both (b == quotation_mark) _ _ G (λ e. closes (eqb-true b quotation_mark e))
      (λ no_double. another no_backslash no_tick no_dollar no_double)
  byte_begins Brace p x read no_backslash no_tick no_dollar = absurd cc
  byte_begins DoubleBrace p x read no_backslash no_tick no_dollar = absurd cc
  byte_begins Arith p x read no_backslash no_tick no_dollar = absurd cc

-- the piece at p begins with the byte that is read there
piece_begins : (edition : Edition) (T : List ℕ) (b : ℕ) (mode : Mode) (p : ℕ) → is_unquoted mode ≡ true
    → Begins (is_later edition) (at_end T (past_byte T p)) b (byte_at T (past_byte T p)) mode
    (piece_in edition mode (piece_by T p mode 0 (Some b)))
unfolding dollar_at
piece_begins edition T b mode p read =
    let last = at_end T (past_byte T p) in
    let x = byte_at T (past_byte T p) in
    let G : Piece → Type 0 = λ z. Begins (is_later edition) last b x mode (piece_in edition mode z) in
    cond_both (b == backslash) _ _ G (λ e. cond_both last _ _ G (λ f. lone) (λ f. escapes (eqb-true b backslash e) f))
    (λ no_backslash. cond_both (b == grave_accent) _ _ G (λ e. backquote (eqb-true b grave_accent e))
    (λ no_tick. cond_both (b == dollar_sign) _ _ G
    (λ e. dollar_begins edition T last b mode (past_byte T p) x read (eqb-true b dollar_sign e))
    (λ no_dollar. byte_begins edition T last b mode p x read no_backslash no_tick no_dollar)))

-- so does the piece there that the edition has
pub begins : (edition : Edition) (T : List ℕ) (mode : Mode) (p b : ℕ) (piece : Piece)
    → is_unquoted mode ≡ true → byte_at T p ≡ Some b → piece_by_edition edition T mode p ≡ piece
    → Begins (is_later edition) (at_end T (past_byte T p)) b (byte_at T (past_byte T p)) mode piece
unfolding piece_at
begins edition T mode p b piece read byte is =
    let same : piece_in edition mode (piece_by T p mode 0 (Some b)) ≡ piece =
    ap (λ y. piece_in edition mode (piece_by T p mode 0 y)) (sym byte) ∙ is in
    subst (Begins (is_later edition) (at_end T (past_byte T p)) b (byte_at T (past_byte T p)) mode) same
    (piece_begins edition T b mode p read)

-- ---- where a byte is read

-- it closes what holds it, or is missing: no byte needs to stand there
abbrev pub stands_alone : Piece → Bool
stands_alone pieces.Closer = true
stands_alone pieces.Missing = true
stands_alone piece = false

-- any other piece begins with a byte
pub byte_there : (edition : Edition) (T : List ℕ) (mode : Mode) (p : ℕ) (piece : Piece)
    → is_unquoted mode ≡ true → piece_by_edition edition T mode p ≡ piece → stands_alone piece ≡ false
    → (b : ℕ) × (byte_at T p ≡ Some b) × Begins (is_later edition) (at_end T (past_byte T p)) b
    (byte_at T (past_byte T p)) mode piece
unfolding piece_at
byte_there edition T mode p piece read is inner = by (byte_at T p) refl
  where
    ends_it : (m : Mode) → is_unquoted m ≡ true
        → stands_alone (piece_in edition m (piece_by T p m 0 None)) ≡ true
    ends_it Plain unquoting = refl
    ends_it Double unquoting = refl
    ends_it Brace unquoting = absurd cc
    ends_it DoubleBrace unquoting = absurd cc
    ends_it Arith unquoting = absurd cc

    by : (x : Option ℕ) → byte_at T p ≡ x
        → (b : ℕ) × (byte_at T p ≡ Some b) × Begins (is_later edition) (at_end T (past_byte T p)) b
        (byte_at T (past_byte T p)) mode piece
    by None none =
        let same : piece_in edition mode (piece_by T p mode 0 None) ≡ piece =
        ap (λ y. piece_in edition mode (piece_by T p mode 0 y)) (sym none) ∙ is in
        absurd (both_ways _ inner (sym (ap stands_alone same) ∙ ends_it mode read))
    by (Some b) some = (b, some, begins edition T mode p b piece read some is)

-- in double quotes a byte closes, too
pub closer_there : (edition : Edition) (T : List ℕ) (p : ℕ)
    → piece_by_edition edition T Double p ≡ pieces.Closer → byte_at T p ≡ Some quotation_mark
unfolding piece_at
closer_there edition T p is = by (byte_at T p) refl
  where
    quote_of : (later last : Bool) (b : ℕ) (x : Option ℕ) → Begins later last b x Double pieces.Closer
        → b ≡ quotation_mark
    quote_of later last b x (closes e) = e

    by : (x : Option ℕ) → byte_at T p ≡ x → byte_at T p ≡ Some quotation_mark
    by None none =
        let same : pieces.Missing ≡ pieces.Closer =
        ap (λ y. piece_in edition Double (piece_by T p Double 0 y)) (sym none) ∙ is in
        absurd cc
    by (Some b) some =
        some
        ∙ ap (λ (n : ℕ). Some n) (quote_of _ _ b _ (begins edition T Double p b pieces.Closer refl some is))
