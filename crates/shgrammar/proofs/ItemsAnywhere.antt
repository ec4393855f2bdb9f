-- A word or an assignment, wherever its bytes stand before what may follow it in a
-- printed text: it is read there, as the same token.
use Rattle.std.proofs.Common.{◌≡◌, ℕ, zero, suc, ◌+◌, ◌-◌, ◌≤◌, ◌<◌, ◌==◌, Bool, true, false, cond, ◌&&◌, ◌||◌, ◌⊎◌, inl, inr, Ok, Err, List, List as Row, [], ◌∷◌, ◌++◌, length, drop, take, Option, Some, None, is_some, slice_get, refl, sym, ap, subst, ◌∙◌, arith, ⊎_elim}
use Rattle.std.proofs.lemmas.Bool.{and_parts, both_ways, cases_Bool, false_from_ne_true, lt-ltb}
use Rattle.std.proofs.lemmas.Bool.Decides.{nat_tests}
use Rattle.std.proofs.lemmas.List.{take_at}
use Rattle.std.proofs.lemmas.Option.{slice_get_within}
use Rattle.shgrammar.specs.Characters.{ampersand, backslash, equals_sign, greater_than_sign, left_parenthesis, less_than_sign, newline_char, number_sign, right_parenthesis, semicolon, space, vertical_line}
use Rattle.shgrammar.specs.declared.keep.Keep.TheVariants.{Whole}
use Rattle.shgrammar.specs.declared.mode.Mode.TheVariants.{Plain}
use Rattle.shgrammar.specs.declared.token.Position.{Position}
use Rattle.shgrammar.specs.declared.token.Position.TheVariants.{Command, Prefix, Suffix}
use Rattle.shgrammar.specs.declared.token.Token.{Token}
use Rattle.shgrammar.specs.declared.token.Token.TheVariants as tokens
use Rattle.shsource.specs.Text.{is_newline}
use Rattle.shgrammar.specs.Classes.{is_blank, is_letter, is_digit, is_name}
use Rattle.shgrammar.specs.Standing.{is_byte, passes, raw_stands}
use Rattle.shgrammar.specs.Bytes.{ends, ends_word, past, past_continuations, byte_at, past_byte, stands, stands_in}
use Rattle.shgrammar.specs.Pieces.{piece_at}
use Rattle.shgrammar.specs.Plain.{is_plain}
use Rattle.shgrammar.specs.Tokens.{Spelling, is_word_at, first_of_words, reserved_words, reserved_at, begins_assignment, is_name_at, is_number, word_by, token_of, token_at}
use Rattle.shgrammar.specs.Sights.{Given, given, State, standing}
use Rattle.shgrammar.specs.Form.{Read, again, as_it_stands, token, loop, many, leads_on, does}
use Rattle.shgrammar.specs.Words.{WordSoFar, word_so_far, a_piece, contents, a_word}
use Rattle.shgrammar.specs.Levels.{level, ReadsWord}
use Rattle.shgrammar.specs.Commands.{after_word}
use Rattle.shgrammar.proofs.Stretches.{place_low, past_more, past_none, stands_in_low, raw_stays}
use Rattle.shgrammar.proofs.Places.{after_low, word_longer}
use Rattle.shgrammar.proofs.Turns.{turns_on}
use Rattle.shgrammar.proofs.Holds.{Holds, holds_then}
use Rattle.shgrammar.proofs.SameBytes.{Kept, WordEnds, Here, here_byte, here_after, here_stands_in}
use Rattle.shgrammar.proofs.Ahead.{same_and, spelled_none, spelled_more, past_byte_is}
use Rattle.shgrammar.proofs.PiecesElsewhere.{From, word_from}
use Rattle.shgrammar.proofs.LevelsAnywhere.{level_anywhere}
use Rattle.shgrammar.proofs.PlainBytes.{plain_stays, ordinary_by}
use Rattle.shgrammar.proofs.OneOutcome.{computed_is_only}
use Rattle.shgrammar.proofs.WordsAnywhere.{WordOf, begin_there, from_to, kept_by_bytes, padded, padded_is, same_word}
use Rattle.shast.specs.Shape.{Shape, shape_of_word}
use Rattle.shast.specs.Tree.{SubstsOf, word as shape_word}
use Rattle.shgrammar.proofs.CommentsAnywhere.{byte_after, stretch_length}
use Rattle.shgrammar.proofs.WordsWithin.{word_ends}
use Rattle.shgrammar.specs.declared.edition.Edition.{Edition}

-- ---- tests of ordinary bytes

-- only ordinary bytes of a word pass the test
abbrev Plainly : (ℕ → Bool) → Type 0
Plainly test = (b : ℕ) → test b ≡ true → is_plain Plain b ≡ true

-- so are the tests of a letter, of a digit, of a byte of a name, and of one ordinary byte
plain_letter : Plainly is_letter
plain_letter b e = grind (arith, nat_tests)

plain_digit : Plainly is_digit
plain_digit b e = grind (arith, nat_tests)

plain_name : Plainly is_name
plain_name b e = grind (arith, nat_tests)

plain_one : (x : ℕ) → is_plain Plain x ≡ true → Plainly (λ b. b == x)
plain_one x f b e = let same : b ≡ x = grind (arith, nat_tests) in rw same f

-- where a word ends no such byte is
none_passes : (test : ℕ → Bool) → Plainly test → (x : Option ℕ) → ends x ≡ true → passes test x ≡ false
none_passes test plain None e = refl
none_passes test plain (Some b) e =
    false_from_ne_true (test b) (λ f. both_ways (ends (Some b)) (plain_stays b (plain b f)) e)

-- whether a byte is c is a test of it, and so is whether c is read at a place
byte_passes : (x : Option ℕ) (c : ℕ) → is_byte x c ≡ passes (λ b. b == c) x
byte_passes None c = refl
byte_passes (Some b) c = refl

stands_one : (T : List ℕ) (p c : ℕ) → stands T p c ≡ stands_in (λ b. b == c) T p
unfolding stands stands_in
stands_one T p c = byte_passes (byte_at T p) c

-- words that are spelled by such bytes
abbrev pub all_plain : List ℕ → Bool
all_plain [] = true
all_plain (x ∷ xs) = is_plain Plain x && all_plain xs

abbrev pub all_spelled : Row Spelling → Bool
all_spelled [] = true
all_spelled (w ∷ ws) = all_plain w.0 && all_spelled ws

-- what is read is what is read
self : {X : Type 0} (y : Read X) → Holds (λ x t. y ≡ Ok (x, t)) y
self (Ok (x, t)) = refl
self (Err f) = tt

-- what holds of it
held : {X : Type 0} (P : X → State → Type 0) (y : Read X) (x : X) (t : State) → y ≡ Ok (x, t) → Holds P y → P x t
held P y x t is so = subst (Holds P) is so

-- ---- a word that ends at the limit, in a text and in another one that has its bytes

module _ {edition : Edition} {T U : List ℕ} {a L : ℕ} {to : ℕ → ℕ} (K : Kept edition T U a L to) (W : WordEnds T U L to)
    (o room : ℕ) where
  -- bytes in which each text stands from the offset o on
  abbrev B : List ℕ
  B = padded o T

  abbrev C : List ℕ
  C = padded o U

  -- from r on the pieces of the word go on up to the limit
  record Goes (r : ℕ) : Type 0 where
    low : a ≤ r
    opener : ℕ
    start : WordSoFar
    found : WordSoFar
    last : State
    goes : does (loop (a_piece (level room) Plain opener) start) Whole (given edition T o) (standing r)
        ≡ Ok (found, last)
    there : last.at ≡ L

  -- what ends at the limit began so
  abbrev Begins : ℕ → {X : Type 0} → X → State → Type 0
  Begins p x t = t.at ≡ L → Goes p

  -- so they do from where a word is read that ends at the limit
  word_begins : (p : ℕ) → a ≤ p → Holds (Begins p) (does (a_word (level room)) Whole (given edition T o) (standing p))
  unfolding a_word contents many
  word_begins p low =
      holds_then (Begins p) (Begins p)
      (does (token as_it_stands (contents (level room) Plain (o + p) [])) Whole (given edition T o) (standing p)) _
      (holds_then (Begins p) (Begins p)
      (does (contents (level room) Plain (o + p) []) Whole (given edition T o) (standing p)) _
      (holds_then (λ x t. does (loop (a_piece (level room) Plain (o + p)) (word_so_far 0 [])) Whole (given edition T o)
      (standing p) ≡ Ok (x, t)) (Begins p)
      (does (loop (a_piece (level room) Plain (o + p)) (word_so_far 0 [])) Whole (given edition T o) (standing p)) _
      (self (does (loop (a_piece (level room) Plain (o + p)) (word_so_far 0 [])) Whole (given edition T o)
      (standing p)))
      (λ x t is at. record {
        low = low;
        opener = o + p;
        start = word_so_far 0 [];
        found = x;
        last = t;
        goes = is;
        there = at;
      }))
      (λ x t so. so))
      (λ x t so. so)

  word_goes : (p n : ℕ) → a ≤ p → p + n ≡ L → ReadsWord room (given edition T o) p n → Goes p
  word_goes p n low end (w, part) =
      let is_read = (computed_is_only (a_word (level room)) (given edition T o) (standing p)).only _ _ part in
      held (Begins p) (does (a_word (level room)) Whole (given edition T o) (standing p)) w (standing (p + n))
      (sym is_read) (word_begins p low) end

  -- the same byte is read there, or the word ends
  place_of : {r : ℕ} → Goes r → Here T U a L to r ⊎ (r ≡ L)
  place_of {r = r} w =
      ⊎_elim inl (λ e. inr e.1)
      (held (λ x t. t.at ≡ L → From K o o B C Plain r)
      (does (loop (a_piece (level room) Plain w.opener) w.start) Whole (given edition T o) (standing r)) w.found
      w.last w.goes
      (word_from K o o B C W.there (λ e. W.closed) (level room)
      ((level_anywhere room).local edition T U a L to K o o B C (padded_is o T) (padded_is o U) W.there (λ e. W.closed))
      w.opener w.start (standing r) w.low) w.there)

  -- where no word ends, the byte that is read at r is before the limit, and the same
  inside_of : {r : ℕ} → Goes r → ends (byte_at T r) ≡ false → Here T U a L to r
  inside_of w e = ⊎_elim (λ i. i)
      (λ at. absurd (both_ways (ends (byte_at T L)) (subst (λ r. ends (byte_at T r) ≡ false) at e) W.here)) (place_of w)

  -- a word ends there in both texts, or in neither
  same_ends : {r : ℕ} → Goes r → ends (byte_at U (to r)) ≡ ends (byte_at T r)
  same_ends w = ⊎_elim (λ i. ap ends (here_byte K i))
      (λ at. subst (λ r. ends (byte_at U (to r)) ≡ ends (byte_at T r)) (sym at) (W.there ∙ sym W.here)) (place_of w)

  -- an ordinary byte is a piece
  ordinary_turn : (r b opener : ℕ) (c : WordSoFar) → byte_at T r ≡ Some b → is_plain Plain b ≡ true
      → does (a_piece (level room) Plain opener c) Whole (given edition T o) (standing r)
      ≡ Ok (again c, standing (past_byte T r))
  unfolding a_piece piece_at
  ordinary_turn r b opener c is plain = rw (is, ordinary_by T r Plain c.nested b plain) refl

  module _ (test : ℕ → Bool) (plain : Plainly test) where
    -- the byte there passes such a test in both texts, or in neither
    same_test : {r : ℕ} → Goes r → stands_in test U (to r) ≡ stands_in test T r
    unfolding stands_in
    same_test w =
        ⊎_elim (λ i. here_stands_in K i test)
        (λ at. subst (λ r. passes test (byte_at U (to r)) ≡ passes test (byte_at T r)) (sym at)
        (none_passes test plain (byte_at U (to L)) W.there ∙ sym (none_passes test plain (byte_at T L) W.here)))
        (place_of w)

    -- by the byte that is read at r
    next_by : {r : ℕ} → Goes r → (x : Option ℕ) → byte_at T r ≡ x → passes test x ≡ true → Goes (past_byte T r)
        × (past_byte U (to r) ≡ to (past_byte T r))
    next_by w None is e = absurd cc
    next_by {r = r} w (Some b) is e =
        let b_plain = plain b e in
        let lt = slice_get_within T (past_continuations T r) b is in
        let leads : leads_on (given edition T o) (standing r) (standing (past_byte T r)) ≡ true =
        lt-ltb _ _ (omega (arith, lt, place_low T r, past_byte_is T r)) in
        let more = turns_on (given edition T o)
        (λ c s. does (a_piece (level room) Plain w.opener c) Whole (given edition T o) s) w.start w.start
        (standing r) (standing (past_byte T r))
        (ordinary_turn r b w.opener w.start is b_plain) leads in (
          record {
            low = omega (arith, w.low, after_low T r);
            opener = w.opener;
            start = w.start;
            found = w.found;
            last = w.last;
            goes = sym more ∙ w.goes;
            there = w.there;
          },
          here_after K (inside_of w (ap ends is ∙ plain_stays b b_plain)),
        )

    -- after such a byte
    next_goes : {r : ℕ} → Goes r → stands_in test T r ≡ true → Goes (past_byte T r)
        × (past_byte U (to r) ≡ to (past_byte T r))
    unfolding stands_in
    next_goes {r = r} w e = next_by w (byte_at T r) refl e

    -- by how many bytes are left
    past_below : (n r : ℕ) → length T - r < n → Goes r → Goes (past test T r)
        × (past test U (to r) ≡ to (past test T r))
    past_below zero r few w = absurd (omega arith)
    past_below (suc n) r few w =
        ⊎_elim
        (λ (e : stands_in test T r ≡ true). let more = past_more test T r e in
        let next = next_goes w e in
        let rest = past_below n (past_byte T r)
        (omega (arith, few, after_low T r, stands_in_low test T r e, place_low T r)) next.0 in (
          subst Goes (sym more) rest.0,
          past_more test U (to r) (same_test w ∙ e) ∙ ap (past test U) next.1 ∙ rest.1 ∙ ap to (sym more),
        ))
        (λ (e : stands_in test T r ≡ false). let none = past_none test T r e in
        (subst Goes (sym none) w, past_none test U (to r) (same_test w ∙ e) ∙ ap to (sym none)))
        (cases_Bool (stands_in test T r))

    -- after all such bytes
    past_goes : {r : ℕ} → Goes r → Goes (past test T r) × (past test U (to r) ≡ to (past test T r))
    past_goes {r = r} w = past_below (suc (length T - r)) r (omega arith) w

  -- an ordinary byte is read there in both texts, or in neither
  same_stands : {r : ℕ} (c : ℕ) → is_plain Plain c ≡ true → Goes r → stands U (to r) c ≡ stands T r c
  same_stands {r = r} c plain w = stands_one U (to r) c ∙ same_test (λ b. b == c) (plain_one c plain) w
      ∙ sym (stands_one T r c)

  -- a word of ordinary bytes stands there in both texts, or in neither
  same_spelled : (word : List ℕ) (r : ℕ) → all_plain word ≡ true → Goes r →
      is_word_at U (to r) word ≡ is_word_at T r word
  same_spelled [] r e w = spelled_none U (to r) ∙ same_ends w ∙ sym (spelled_none T r)
  same_spelled (x ∷ xs) r e w =
      let plain = and_parts _ _ e in
      spelled_more U (to r) x xs ∙ ap (λ b. b && is_word_at U (past_byte U (to r)) xs) (same_stands x plain.0 w)
      ∙ same_and (stands T r x) _ _
      (λ f. let next = next_goes (λ b. b == x) (plain_one x plain.0) w (sym (stands_one T r x) ∙ f) in
      ap (λ q. is_word_at U q xs) next.1 ∙ same_spelled xs (past_byte T r) plain.1 next.0)
      ∙ sym (spelled_more T r x xs)

  -- the first of some words that stands there is the same, and so is the reserved word
  same_words : (ws : Row Spelling) (r : ℕ) → all_spelled ws ≡ true → Goes r →
      first_of_words U (to r) ws ≡ first_of_words T r ws
  unfolding first_of_words
  same_words [] r e w = refl
  same_words (x ∷ xs) r e w = let both = and_parts _ _ e in
      rw (same_spelled x.0 r both.0 w, same_words xs r both.1 w) refl

  same_reserved : {r : ℕ} → Goes r → reserved_at U (to r) ≡ reserved_at T r
  unfolding reserved_words
  same_reserved {r = r} w = same_words _ r refl w

  -- an assignment or a NAME begins there in both texts, or in neither; and a word is the same token
  same_assignment : {r : ℕ} → Goes r → begins_assignment U (to r) ≡ begins_assignment T r
  unfolding begins_assignment
  same_assignment w = let p = past_goes is_name plain_name w in
      rw (same_test is_letter plain_letter w, p.1, same_stands equals_sign refl p.0) refl

  same_name : {r : ℕ} → Goes r → is_name_at U (to r) ≡ is_name_at T r
  unfolding is_name_at ends_word
  same_name w = let p = past_goes is_name plain_name w in
      rw (same_test is_letter plain_letter w, p.1, same_ends p.0) refl

  same_word_by : (position : Position) {r : ℕ} → Goes r → word_by position U (to r) ≡ word_by position T r
  same_word_by Command w = rw (same_assignment w, same_reserved w) refl
  same_word_by Prefix w = rw (same_assignment w) refl
  same_word_by Suffix w = refl

  -- digits before the limit, which no `<` or `>` follows there
  module _ (no_less : is_byte (byte_at U (to L)) less_than_sign ≡ false)
      (no_greater : is_byte (byte_at U (to L)) greater_than_sign ≡ false) where
    -- where neither is read here neither is there, and what is no number here is none there
    no_sign : {r : ℕ} → Goes r → (stands T r less_than_sign || stands T r greater_than_sign) ≡ false →
        (stands U (to r) less_than_sign || stands U (to r) greater_than_sign) ≡ false
    unfolding stands
    no_sign w e =
        ⊎_elim (λ i. rw (here_byte K i) e)
        (λ at. subst (λ r. (is_byte (byte_at U (to r)) less_than_sign || is_byte (byte_at U (to r)) greater_than_sign)
        ≡ false) (sym at)
        (rw (no_less, no_greater) refl)) (place_of w)

    no_number_by : (d x y : Bool) → (x ≡ false → y ≡ false) → (d && x) ≡ false → (d && y) ≡ false
    no_number_by true x y f e = f e
    no_number_by false x y f e = refl

    no_number : {r : ℕ} → Goes r → is_number T r ≡ false → is_number U (to r) ≡ false
    unfolding is_number
    no_number {r = r} w e =
        let p = past_goes is_digit plain_digit w in
        rw (same_test is_digit plain_digit w, p.1) (no_number_by (stands_in is_digit T r) _ _ (no_sign p.0) e)

-- ---- tokens that are words

-- a word, reserved or not, or an assignment
abbrev pub is_a_word : Token → Bool
is_a_word tokens.Assignment = true
is_a_word tokens.Word = true
is_a_word (tokens.Reserved r) = true
is_a_word _ = false

abbrev Item : Token → Type 0
Item t = is_a_word t ≡ true

-- an item of a simple command is one
pub item_is_word : (t : Token) → is_some (after_word t) ≡ true → is_a_word t ≡ true
item_is_word tokens.End e = absurd cc
item_is_word tokens.Newline e = absurd cc
item_is_word tokens.Semicolon e = absurd cc
item_is_word tokens.DoubleSemicolon e = absurd cc
item_is_word tokens.SemicolonAmpersand e = absurd cc
item_is_word tokens.Ampersand e = absurd cc
item_is_word tokens.AndIf e = absurd cc
item_is_word tokens.OrIf e = absurd cc
item_is_word tokens.Pipe e = absurd cc
item_is_word tokens.OpenParen e = absurd cc
item_is_word tokens.CloseParen e = absurd cc
item_is_word (tokens.Redirect o) e = absurd cc
item_is_word tokens.Comment e = absurd cc
item_is_word tokens.Number e = absurd cc
item_is_word (tokens.Reserved r) e = refl
item_is_word tokens.Assignment e = refl
item_is_word tokens.Word e = refl

-- the first byte of an item is none of those that tell another token
pub record ItemByte (b : ℕ) : Type 0 where
  no_newline : is_newline b ≡ false
  no_semicolon : (b == semicolon) ≡ false
  no_ampersand : (b == ampersand) ≡ false
  no_bar : (b == vertical_line) ≡ false
  no_open : (b == left_parenthesis) ≡ false
  no_close : (b == right_parenthesis) ≡ false
  no_less : (b == less_than_sign) ≡ false
  no_greater : (b == greater_than_sign) ≡ false
  no_sharp : (b == number_sign) ≡ false

-- an item that a test picks is the second token where the first is none; of two that are none it picks none
item_else : (c : Bool) (x y : Token) → (Item x → ⊥) → Item (cond c x y) → (c ≡ false) × Item y
item_else true x y other so = absurd (other so)
item_else false x y other so = (refl, so)

neither : (c : Bool) (x y : Token) → (Item x → ⊥) → (Item y → ⊥) → Item (cond c x y) → ⊥
neither true x y one two so = one so
neither false x y one two so = two so

-- where the token is an item, its first byte is such a one, and no number stands there
pub item_byte : (position : Position) (T : List ℕ) (p b : ℕ) → Item (token_of position T p (Some b)) → ItemByte b
    × (is_number T p ≡ false)
item_byte position T p b so =
    let past_newline = item_else (is_newline b) _ _ (λ e. absurd cc) so in
    let past_semicolon = item_else (b == semicolon) _ _
    (λ e. neither (stands T (past_byte T p) semicolon) _ _ (λ f. absurd cc)
    (λ f. neither (stands T (past_byte T p) ampersand) _ _ (λ g. absurd cc) (λ g. absurd cc) f) e) past_newline.1 in
    let past_ampersand = item_else (b == ampersand) _ _
    (λ e. neither (stands T (past_byte T p) ampersand) _ _ (λ f. absurd cc) (λ f. absurd cc) e) past_semicolon.1 in
    let past_bar = item_else (b == vertical_line) _ _
    (λ e. neither (stands T (past_byte T p) vertical_line) _ _ (λ f. absurd cc) (λ f. absurd cc) e) past_ampersand.1 in
    let past_open = item_else (b == left_parenthesis) _ _ (λ e. absurd cc) past_bar.1 in
    let past_close = item_else (b == right_parenthesis) _ _ (λ e. absurd cc) past_open.1 in
    let past_less = item_else (b == less_than_sign) _ _ (λ e. absurd cc) past_close.1 in
    let past_greater = item_else (b == greater_than_sign) _ _ (λ e. absurd cc) past_less.1 in
    let past_sharp = item_else (b == number_sign) _ _ (λ e. absurd cc) past_greater.1 in
    let past_number = item_else (is_number T p) _ _ (λ e. absurd cc) past_sharp.1 in (
      record {
        no_newline = past_newline.0;
        no_semicolon = past_semicolon.0;
        no_ampersand = past_ampersand.0;
        no_bar = past_bar.0;
        no_open = past_open.0;
        no_close = past_close.0;
        no_less = past_less.0;
        no_greater = past_greater.0;
        no_sharp = past_sharp.0;
      },
      past_number.0,
    )

-- where such a byte begins a token that is no number, the token is told as that of a word
pub item_token : (position : Position) (T : List ℕ) (p b : ℕ) → ItemByte b → is_number T p ≡ false →
    token_of position T p (Some b) ≡ word_by position T p
item_token position T p b i none =
    rw (
      i.no_newline,
      i.no_semicolon,
      i.no_ampersand,
      i.no_bar,
      i.no_open,
      i.no_close,
      i.no_less,
      i.no_greater,
      i.no_sharp,
      none,
    ) refl

-- where an item begins a byte is read, and it ends no word
record Begun (T : List ℕ) (p : ℕ) : Type 0 where
  byte : ℕ
  is : byte_at T p ≡ Some byte
  first : ItemByte byte
  no_number : is_number T p ≡ false
  no_end : ends (Some byte) ≡ false

-- so it is where the token is an item and no blank stands
begun_by : (position : Position) (T : List ℕ) (p : ℕ) (x : Option ℕ) → byte_at T p ≡ x → Item (token_of position T p x)
    → passes is_blank x ≡ false → Begun T p
begun_by position T p None is so no_blank = absurd cc
begun_by position T p (Some b) is so no_blank =
    let i = item_byte position T p b so in
    let f = i.0 in
    record {
      byte = b;
      is = is;
      first = f;
      no_number = i.1;
      no_end = rw (
        no_blank,
        f.no_newline,
        f.no_semicolon,
        f.no_ampersand,
        f.no_bar,
        f.no_open,
        f.no_close,
        f.no_less,
        f.no_greater,
      ) refl;
    }

begun : (position : Position) (T : List ℕ) (p : ℕ) → Item (token_at position T p) → stands_in is_blank T p ≡ false →
    Begun T p
unfolding token_at stands_in
begun position T p so no_blank = begun_by position T p (byte_at T p) refl so no_blank

-- ---- what may follow an item

-- what may stand after an item in a printed text: a blank, a newline, `;` or `)`
abbrev pub follows : List ℕ → Bool
follows [] = false
follows (c ∷ cs) = c == space || (c == newline_char || (c == semicolon || c == right_parenthesis))

-- the byte that follows ends a word, and is none that counts for what stands before it
record Follower (zs : List ℕ) : Type 0 where
  byte : ℕ
  is : slice_get zs 0 ≡ Some byte
  ends_it : ends (Some byte) ≡ true
  no_backslash : (byte == backslash) ≡ false
  no_open : (byte == left_parenthesis) ≡ false
  no_less : (byte == less_than_sign) ≡ false
  no_greater : (byte == greater_than_sign) ≡ false

-- such a byte is what may stand after an item
follower : (zs : List ℕ) → follows zs ≡ true → Follower zs
follower [] e = absurd cc
follower (c ∷ cs) e =
    record {
      byte = c;
      is = refl;
      ends_it = grind (arith, nat_tests);
      no_backslash = grind (arith, nat_tests);
      no_open = grind (arith, nat_tests);
      no_less = grind (arith, nat_tests);
      no_greater = grind (arith, nat_tests);
    }

-- what is read where an item begins
pub record ReadAt (room : ℕ) (position : Position) (token : Token) (w : List ℕ) (ss : Shape SubstsOf) (g : Given)
    (q : ℕ) : Type 0 where
  pub place : past_continuations g.text q ≡ q
  pub no_blank : stands_in is_blank g.text q ≡ false
  pub token_is : token_at position g.text q ≡ token
  pub word : (B : List ℕ) → g.text ≡ drop g.offset B → WordOf room g q (length w) B (shape_word w ss)

-- wherever these bytes stand, before what may follow an item, they are a word with
-- substitutions of these shapes, and this token in this position
pub record ItemAnywhere (edition : Edition) (room : ℕ) (position : Position) (token : Token) (w : List ℕ)
    (ss : Shape SubstsOf) : Type 0 where
  pub some : 0 < length w
  pub there : (g : Given) (q : ℕ) (zs : List ℕ) → drop q g.text ≡ w ++ zs → follows zs ≡ true →
      ReadAt room position token w ss (given edition g.text g.offset) q

-- and a NAME
abbrev pub NameAnywhere : List ℕ → Type 0
NameAnywhere w = (T : List ℕ) (q : ℕ) (zs : List ℕ) → drop q T ≡ w ++ zs → follows zs ≡ true → is_name_at T q ≡ true

-- ---- what is an item where it stands

module _ (room : ℕ) (position : Position) (g : Given) (p n : ℕ) (word : ReadsWord room g p n)
    (place : past_continuations g.text p ≡ p) (no_blank : stands_in is_blank g.text p ≡ false)
    (item : Item (token_at position g.text p)) where
  -- the bytes of the word, and the first that is read of them
  abbrev w : List ℕ
  w = take n (drop p g.text)

  here : Begun g.text p
  here = begun position g.text p item no_blank

  -- a word ends after these n bytes and none ends before them, so that there is one at least
  ended : (p + n ≤ length g.text) × (ends_word g.text (p + n) ≡ true)
  ended = let lt = slice_get_within g.text (past_continuations g.text p) here.byte here.is in
      word_ends room g p n word (omega (arith, lt, place))

  size : length w ≡ n
  size = stretch_length g.text p n ended.0

  no_end : ends (byte_at g.text p) ≡ false
  no_end = ap ends here.is ∙ here.no_end

  has_byte : 0 < length w
  unfolding ends_word
  has_byte = omega (arith, size, word_longer g.text p (p + n) (omega arith) no_end ended.1)

  module _ (h : Given) (q : ℕ) (zs : List ℕ) (is_there : drop q h.text ≡ w ++ zs) (following : follows zs ≡ true) where
    -- the byte that follows there, as it stands and as it is read
    next : Follower zs
    next = follower zs following

    next_raw : slice_get h.text (q + n) ≡ Some next.byte
    next_raw = ap (λ m. slice_get h.text (q + m)) (sym size) ∙ byte_after h.text q w zs is_there ∙ next.is

    next_byte : byte_at h.text (q + n) ≡ Some next.byte
    unfolding raw_stands
    next_byte = ap (slice_get h.text)
        (raw_stays h.text (q + n) (ap (λ x. is_byte x backslash) next_raw ∙ next.no_backslash))
        ∙ next_raw

    -- the same bytes stand at q
    same : take n (drop q h.text) ≡ w
    same = ap (take n) is_there ∙ take_at w zs n size

    K : Kept g.edition g.text h.text p (p + n) (from_to p q)
    K = kept_by_bytes g.edition g.text h.text p q n same

    -- the byte at the limit is the one that follows, and ends a word there
    limit_byte : byte_at h.text (from_to p q (p + n)) ≡ Some next.byte
    limit_byte = let end : from_to p q (p + n) ≡ q + n = omega arith in ap (byte_at h.text) end ∙ next_byte

    W : WordEnds g.text h.text (p + n) (from_to p q)
    unfolding ends_word
    W = record {
      here = ended.1;
      there = ap ends limit_byte ∙ next.ends_it;
      closed = ap (λ x. is_byte x left_parenthesis) limit_byte ∙ next.no_open;
    }

    -- the pieces go on from p, and the byte that is read there is the same
    goes : Goes K W g.offset room p
    goes = word_goes K W g.offset room p n (omega arith) refl word

    inside : Here g.text h.text p (p + n) (from_to p q) p
    inside = inside_of K W g.offset room goes no_end

    -- so is the token
    same_token : token_at position h.text (from_to p q p) ≡ token_at position g.text p
    unfolding token_at
    same_token =
        let none_there = no_number K W g.offset room (ap (λ x. is_byte x less_than_sign) limit_byte ∙ next.no_less)
        (ap (λ x. is_byte x greater_than_sign) limit_byte ∙ next.no_greater) goes here.no_number in
        ap (token_of position h.text (from_to p q p)) (here_byte K inside ∙ here.is)
        ∙ item_token position h.text (from_to p q p) here.byte here.first none_there
        ∙ same_word_by K W g.offset room position goes
        ∙ sym (item_token position g.text p here.byte here.first here.no_number)
        ∙ ap (token_of position g.text p) (sym here.is)

    -- where a NAME stands at p one stands there
    name_there : is_name_at g.text p ≡ true → is_name_at h.text q ≡ true
    name_there name = subst (λ r. is_name_at h.text r ≡ true) (begin_there p q)
        (same_name K W g.offset room goes ∙ name)

    -- over the bytes B it has this shape
    module _ (B : List ℕ) (stands_in_B : g.text ≡ drop g.offset B) (ss : Shape SubstsOf)
        (shape : shape_of_word B word.0 ≡ shape_word w ss) where
      -- a word of that shape is read there, whatever bytes the other text stands in
      word_there : (C : List ℕ) → h.text ≡ drop h.offset C →
          WordOf room (given g.edition h.text h.offset) q n C (shape_word w ss)
      unfolding ends_word stands
      word_there C stands_in_C =
          let v = same_word room g h p q n word.0 _ word.1 same (ap ends next_byte ∙ next.ends_it)
          (ap (λ x. is_byte x left_parenthesis) next_byte ∙ next.no_open) B C stands_in_B stands_in_C in
          (v.0, (v.1.0, v.1.1 ∙ shape))

      -- and all else holds that is said of an item
      read_at : ReadAt room position (token_at position g.text p) w ss (given g.edition h.text h.offset) q
      read_at = record {
        place = subst (λ r. past_continuations h.text r ≡ r) (begin_there p q) (inside.there ∙ ap (from_to p q) place);
        no_blank = subst (λ r. stands_in is_blank h.text r ≡ false) (begin_there p q)
            (here_stands_in K inside is_blank ∙ no_blank);
        token_is = subst (λ r. token_at position h.text r ≡ token_at position g.text p) (begin_there p q) same_token;
        word = λ C stands_in_C. subst (λ m. WordOf room (given g.edition h.text h.offset) q m C (shape_word w ss))
            (sym size) (word_there C stands_in_C);
      }

  -- so it is wherever these bytes stand, and of a NAME too
  item_there : (B : List ℕ) → g.text ≡ drop g.offset B → (ss : Shape SubstsOf) →
      shape_of_word B word.0 ≡ shape_word w ss → ItemAnywhere g.edition room position (token_at position g.text p) w ss
  item_there B stands_in_B ss shape =
      record {
        some = has_byte;
        there =
            λ h q zs is_there following. read_at h q zs is_there following B stands_in_B ss shape;
      }

  names : is_name_at g.text p ≡ true → NameAnywhere w
  names name T q zs is_there following = name_there (given g.edition T 0) q zs is_there following name

-- what is a word where it stands is one anywhere, and the same token
pub token_anywhere : (room : ℕ) (position : Position) (token : Token) (g : Given) (p n : ℕ)
    (word : ReadsWord room g p n)
    → past_continuations g.text p ≡ p → stands_in is_blank g.text p ≡ false → token_at position g.text p ≡ token →
    is_a_word token ≡ true
    → (B : List ℕ) → g.text ≡ drop g.offset B → (ss : Shape SubstsOf) →
    shape_of_word B word.0 ≡ shape_word (take n (drop p g.text)) ss →
    ItemAnywhere g.edition room position token (take n (drop p g.text)) ss
token_anywhere room position _ g p n word place no_blank token_is item B stands_in_B ss shape =
    subst (λ (t : Token). ItemAnywhere g.edition room position t (take n (drop p g.text)) ss) token_is
    (item_there room position g p n word place no_blank
    (subst (λ (t : Token). is_a_word t ≡ true) (sym token_is) item) B stands_in_B ss shape)

-- what is an item where it stands is one anywhere
pub item_anywhere : (room : ℕ) (position : Position) (token : Token) (g : Given) (p n : ℕ) (word : ReadsWord room g p n)
    → past_continuations g.text p ≡ p → stands_in is_blank g.text p ≡ false → token_at position g.text p ≡ token →
    is_some (after_word token) ≡ true
    → (B : List ℕ) → g.text ≡ drop g.offset B → (ss : Shape SubstsOf) →
    shape_of_word B word.0 ≡ shape_word (take n (drop p g.text)) ss →
    ItemAnywhere g.edition room position token (take n (drop p g.text)) ss
item_anywhere room position t g p n word place no_blank token_is item =
    token_anywhere room position t g p n word place no_blank token_is (item_is_word t item)

-- and so is a NAME
pub name_anywhere : (room : ℕ) (position : Position) (g : Given) (p n : ℕ) → ReadsWord room g p n
    → past_continuations g.text p ≡ p → stands_in is_blank g.text p ≡ false →
    is_some (after_word (token_at position g.text p)) ≡ true → is_name_at g.text p ≡ true
    → NameAnywhere (take n (drop p g.text))
name_anywhere room position g p n word place no_blank item name =
    names room position g p n word place no_blank (item_is_word _ item) name
