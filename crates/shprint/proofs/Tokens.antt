-- What is read where some bytes stand in a text: gaps, operators and reserved words, as they are printed.
use Rattle.std.proofs.Common.{◌≡◌, ℕ, suc, ◌+◌, ◌==◌, Bool, true, false, not, ◌&&◌, ◌||◌, ◌⊎◌, inl, inr, List, List as Row, [], ◌∷◌, ◌++◌, length, drop, take, codes, Option, Some, None, is_some, slice_get, refl, sym, ap, subst, ◌∙◌, arith, cond}
use Rattle.std.proofs.lemmas.Bool.{and_from, and_parts, both_ways, false_from_ne_true, not-true, or_parts}
use Rattle.std.proofs.lemmas.Bool.Decides.{nat_tests}
use Rattle.std.proofs.Math.Seq.{drop-append_seam, take-append_seam}
use Rattle.std.proofs.lemmas.List.{drop-drop}
use Rattle.shgrammar.specs.declared.edition.Edition.{Edition}
use Rattle.shgrammar.specs.declared.token.Position.{Position}
use Rattle.shgrammar.specs.declared.token.Position.TheVariants.{Command, Prefix, Suffix}
use Rattle.shgrammar.specs.declared.token.Reserved.{Reserved}
use Rattle.shgrammar.specs.declared.token.Reserved.TheVariants as reserved
use Rattle.shgrammar.specs.declared.token.Token.{Token}
use Rattle.shgrammar.specs.declared.token.Token.TheVariants as tokens
use Rattle.shgrammar.specs.Characters.{ampersand, backslash, greater_than_sign, hyphen, left_parenthesis, less_than_sign, newline_char, number_sign, right_parenthesis, semicolon, space, vertical_line}
use Rattle.shgrammar.specs.Classes.{is_blank, is_digit, is_name}
use Rattle.shgrammar.specs.Standing.{is_byte, passes, raw_stands, raw_in, raw_past, continues}
use Rattle.shgrammar.specs.Bytes.{ends, past, past_continuations, byte_at, past_byte, stands, stands_in, past_blanks, is_broken_at}
use Rattle.shgrammar.specs.Tokens.{Spelling, is_word_at, first_of_words, reserved_words, reserved_at, past_reserved, past_digits, begins_assignment, is_number, first_word, less_at, greater_at, token_of, token_at, token_in, is_later, next_at}
use Rattle.shsource.specs.Text.{is_newline}
use Rattle.shgrammar.proofs.Stretches.{get_drop, joined_none, joined_more, place_low, past_more, past_none, raw_more, raw_none, byte_is}
use Rattle.shgrammar.proofs.SameBytes.{no_backslash}
use Rattle.shgrammar.proofs.Ahead.{past_byte_is, spelled_none, spelled_more, ender_is_other}
use Rattle.shgrammar.proofs.NamesBefore.{name_clear}
use Rattle.shgrammar.specs.Commands.{is_word, is_paren, begins_redirect, begins_simple, begins_word, after_word}
use Rattle.shgrammar.specs.HereDocuments.{ADelimiter, delimiter_in, delimiter_of}
use Rattle.shast.specs.declared.tree.RedirectOperator.{RedirectOperator}
use Rattle.shast.specs.declared.tree.RedirectOperator.TheVariants as redirects
use Rattle.shast.specs.Spelling.{redirect_text}
use Rattle.shgrammar.proofs.ItemsAnywhere.{is_a_word}
use Rattle.shprint.proofs.Good.{all_digits}

-- ---- the bytes from a place on

-- past some bytes that stand here the rest stands
pub past_text_stands : (T : List ℕ) (p : ℕ) (xs ys : List ℕ) → drop p T ≡ xs ++ ys → drop (p + length xs) T ≡ ys
past_text_stands T p xs ys at = sym (drop-drop (length xs) p T) ∙ ap (drop (length xs)) at ∙ drop-append_seam xs ys

-- they are the text of that length from here on
pub text_here : (T : List ℕ) (p : ℕ) (xs ys : List ℕ) → drop p T ≡ xs ++ ys → take (length xs) (drop p T) ≡ xs
text_here T p xs ys at = ap (take (length xs)) at ∙ take-append_seam xs ys

-- one of them stands alone
pub first_stands : (T : List ℕ) (p c : ℕ) (xs : List ℕ) → drop p T ≡ c ∷ xs → slice_get T p ≡ Some c
first_stands T p c xs at = let e : p + 0 ≡ p = omega arith in
    ap (slice_get T) (sym e) ∙ sym (get_drop p T 0) ∙ ap (λ z. slice_get z 0) at

-- where the text has ended no byte stands
pub none_stands : (T : List ℕ) (p : ℕ) → drop p T ≡ [] → slice_get T p ≡ None
none_stands T p at = let e : p + 0 ≡ p = omega arith in
    ap (slice_get T) (sym e) ∙ sym (get_drop p T 0) ∙ ap (λ (z : List ℕ). slice_get z 0) at

-- past one byte the others stand
pub next_one : (T : List ℕ) (p c : ℕ) (xs : List ℕ) → drop p T ≡ c ∷ xs → drop (p + 1) T ≡ xs
next_one T p c xs at = past_text_stands T p (c ∷ []) xs at

-- a byte that is no backslash is read where it stands
pub record ByteRead (T : List ℕ) (p c : ℕ) (xs : List ℕ) : Type 0 where
  pub raw : slice_get T p ≡ Some c
  pub place : past_continuations T p ≡ p
  pub byte : byte_at T p ≡ Some c
  pub place_after : past_byte T p ≡ p + 1
  pub rest : drop (p + 1) T ≡ xs

-- what is read of such a byte
pub byte_here : (T : List ℕ) (p c : ℕ) (xs : List ℕ) → (c == backslash) ≡ false → drop p T ≡ c ∷ xs → ByteRead T p c xs
unfolding raw_stands
byte_here T p c xs clear at =
    let raw = first_stands T p c xs at in
    let place : past_continuations T p ≡ p =
    joined_none T p (no_backslash T p (ap (λ x. is_byte x backslash) raw ∙ clear)) in
    record {
      raw = raw;
      place = place;
      byte = ap (slice_get T) place ∙ raw;
      place_after = past_byte_is T p ∙ ap (λ q. q + 1) place;
      rest = next_one T p c xs at;
    }

-- the class of a byte that is read, and which byte it is
pub in_class : {T : List ℕ} {p c : ℕ} {xs : List ℕ} (test : ℕ → Bool) → ByteRead T p c xs → stands_in test T p ≡ test c
unfolding stands_in
in_class test r = ap (passes test) r.byte

pub is_here : {T : List ℕ} {p c : ℕ} {xs : List ℕ} (x : ℕ) → ByteRead T p c xs → stands T p x ≡ (c == x)
unfolding stands
is_here x r = ap (λ b. is_byte b x) r.byte

-- ---- gaps

-- from e on blanks and continuations are passed up to q
pub record Gap (T : List ℕ) (e q : ℕ) (broken : Bool) : Type 0 where
  pub blanks : past_blanks T e ≡ q
  pub breaks : is_broken_at T e ≡ broken

-- where a token may begin
pub record Start (T : List ℕ) (p : ℕ) : Type 0 where
  pub place : past_continuations T p ≡ p
  pub no_blank : stands_in is_blank T p ≡ false

-- a byte that is no blank begins a token
pub start_here : {T : List ℕ} {p c : ℕ} {xs : List ℕ} → ByteRead T p c xs → is_blank c ≡ false → Start T p
start_here r e = record { place = r.place; no_blank = in_class is_blank r ∙ e }

-- where a token may begin no continuation begins
no_pair : (T : List ℕ) (p : ℕ) → past_continuations T p ≡ p → continues T p ≡ false
no_pair T p at = false_from_ne_true (continues T p)
    (λ c. let more = joined_more T p c in let low = place_low T (p + 2) in absurd (omega (arith, at, more, low)))

-- there a byte as it stands is the one that is read
raw_read : (test : ℕ → Bool) (T : List ℕ) (p : ℕ) → past_continuations T p ≡ p → raw_in test T p ≡ stands_in test T p
unfolding raw_in stands_in
raw_read test T p at = ap (λ q. passes test (slice_get T q)) (sym at)

-- the class of a byte as it stands
raw_class : (T : List ℕ) (p c : ℕ) (test : ℕ → Bool) → slice_get T p ≡ Some c → raw_in test T p ≡ test c
unfolding raw_in
raw_class T p c test raw = ap (passes test) raw

-- where a token begins there is none to pass
pub no_gap : {T : List ℕ} {p : ℕ} → Start T p → Gap T p p false
unfolding past_blanks is_broken_at
no_gap {T = T} {p = p} s =
    let raw : raw_past is_blank T p ≡ p = raw_none is_blank T p (raw_read is_blank T p s.place ∙ s.no_blank) in
    record {
      blanks = ap (past_continuations T) (past_none is_blank T p s.no_blank) ∙ s.place;
      breaks = ap (continues T) raw ∙ no_pair T p s.place;
    }

-- a blank is no backslash
blank_clear : (b : ℕ) → is_blank b ≡ true → (b == backslash) ≡ false
blank_clear b e = grind (arith, nat_tests)

-- a blank, and then a gap
pub blank_gap : {T : List ℕ} {p q b : ℕ} {xs : List ℕ} {broken : Bool} → is_blank b ≡ true → drop p T ≡ b ∷ xs →
    Gap T (p + 1) q broken → Gap T p q broken
unfolding past_blanks is_broken_at
blank_gap {T = T} {p = p} {b = b} {xs = xs} e at gap =
    let r = byte_here T p b xs (blank_clear b e) at in
    let one : past is_blank T p ≡ past is_blank T (p + 1) = past_more is_blank T p (in_class is_blank r ∙ e)
    ∙ ap (past is_blank T) r.place_after in
    let raw : raw_past is_blank T p ≡ raw_past is_blank T (p + 1) =
    raw_more is_blank T p (raw_class T p b is_blank r.raw ∙ e) in
    record { blanks = ap (past_continuations T) one ∙ gap.blanks; breaks = ap (continues T) raw ∙ gap.breaks }

-- only blanks
abbrev pub all_blank : List ℕ → Bool
all_blank [] = true
all_blank (b ∷ bs) = is_blank b && all_blank bs

-- blanks, up to where a token begins
pub blanks_gap : (T : List ℕ) (p : ℕ) (bs xs : List ℕ) → all_blank bs ≡ true → drop p T ≡ bs ++ xs →
    Start T (p + length bs) → Gap T p (p + length bs) false
blanks_gap T p [] xs all at s = let e : p + 0 ≡ p = omega arith in
    subst (λ q. Gap T p q false) (sym e) (no_gap (subst (Start T) e s))
blanks_gap T p (b ∷ bs) xs all at s =
    let parts = and_parts _ _ all in
    let e : p + 1 + length bs ≡ p + suc (length bs) = omega arith in
    subst (λ q. Gap T p q false) e
    (blank_gap parts.0 at (blanks_gap T (p + 1) bs xs parts.1 (next_one T p b (bs ++ xs) at)
    (subst (Start T) (sym e) s)))

-- a byte that stands is this one
raw_is : (T : List ℕ) (p c x : ℕ) → slice_get T p ≡ Some c → (c == x) ≡ true → raw_stands T p x ≡ true
unfolding raw_stands
raw_is T p c x raw e = ap (λ b. is_byte b x) raw ∙ e

-- a continuation before blanks
joined_gap : {T : List ℕ} {p q b : ℕ} {xs : List ℕ} → is_blank b ≡ true → drop p T ≡ backslash ∷ newline_char ∷ b ∷ xs →
    Gap T (p + 2) q false → Gap T p q true
unfolding past_blanks is_broken_at continues stands_in
joined_gap {T = T} {p = p} {q = q} {b = b} {xs = xs} e at gap =
    let raw1 = first_stands T p backslash _ at in
    let at1 = next_one T p backslash _ at in
    let raw2 = first_stands T (p + 1) newline_char _ at1 in
    let at2 = next_one T (p + 1) newline_char _ at1 in
    let two : p + 1 + 1 ≡ p + 2 = omega arith in
    let r = byte_here T (p + 2) b xs (blank_clear b e) (subst (λ r. drop r T ≡ b ∷ xs) two at2) in
    let pair : continues T p ≡ true = and_from _ _ (raw_is T p backslash backslash raw1 refl)
    (raw_is T (p + 1) newline_char newline_char raw2 refl) in
    let place : past_continuations T p ≡ p + 2 = joined_more T p pair ∙ r.place in
    let blank : stands_in is_blank T p ≡ true = ap (λ q. passes is_blank (slice_get T q)) place
    ∙ ap (passes is_blank) r.raw ∙ e in
    let after_both : past_byte T p ≡ past_byte T (p + 2) =
    past_byte_is T p ∙ ap (λ q. q + 1) place ∙ sym r.place_after in
    let same : past is_blank T p ≡ past is_blank T (p + 2) = past_more is_blank T p blank
    ∙ ap (past is_blank T) after_both ∙ sym (past_more is_blank T (p + 2) (in_class is_blank r ∙ e)) in
    let raw : raw_past is_blank T p ≡ p = raw_none is_blank T p (raw_class T p backslash is_blank raw1) in
    record { blanks = ap (past_continuations T) same ∙ gap.blanks; breaks = ap (continues T) raw ∙ pair }

-- a blank, a continuation and blanks
pub broken_gap : (T : List ℕ) (p b : ℕ) (bs xs : List ℕ) → all_blank (b ∷ bs) ≡ true →
    drop p T ≡ space ∷ backslash ∷ newline_char ∷ b ∷ (bs ++ xs) → Start T (p + 3 + length (b ∷ bs))
    → Gap T p (p + 3 + length (b ∷ bs)) true
broken_gap T p b bs xs all at s =
    let at1 = next_one T p space _ at in
    let at3 : drop (p + 1 + 2) T ≡ b ∷ (bs ++ xs) = past_text_stands T (p + 1) (backslash ∷ newline_char ∷ []) _ at1 in
    let e : p + 1 + 2 + length (b ∷ bs) ≡ p + 3 + length (b ∷ bs) = omega arith in
    let last = blanks_gap T (p + 1 + 2) (b ∷ bs) xs all at3 (subst (Start T) (sym e) s) in
    blank_gap refl at (joined_gap (and_parts _ _ all).0 at1 (subst (λ q. Gap T (p + 1 + 2) q false) e last))

-- the next token after a gap
pub next_after : {T : List ℕ} {p q : ℕ} {broken : Bool} (position : Position) → Gap T p q broken →
    next_at position T p ≡ record { token = token_at position T q; broken = broken }
next_after position gap = rw (gap.blanks, gap.breaks) refl

-- ---- tokens of one byte or two

-- the token is told by its first byte
pub token_here : {T : List ℕ} {p c : ℕ} {xs : List ℕ} (position : Position) → ByteRead T p c xs →
    token_at position T p ≡ token_of position T p (Some c)
unfolding token_at
token_here {T = T} {p = p} position r = ap (token_of position T p) r.byte

-- tokens of which one byte is enough, whatever follows
pub newline_token : (position : Position) (T : List ℕ) (p : ℕ) (xs : List ℕ) → drop p T ≡ newline_char ∷ xs →
    token_at position T p ≡ tokens.Newline
newline_token position T p xs at = token_here position (byte_here T p newline_char xs refl at)

pub open_token : (position : Position) (T : List ℕ) (p : ℕ) (xs : List ℕ) → drop p T ≡ left_parenthesis ∷ xs →
    token_at position T p ≡ tokens.OpenParen
open_token position T p xs at = token_here position (byte_here T p left_parenthesis xs refl at)

pub close_token : (position : Position) (T : List ℕ) (p : ℕ) (xs : List ℕ) → drop p T ≡ right_parenthesis ∷ xs →
    token_at position T p ≡ tokens.CloseParen
close_token position T p xs at = token_here position (byte_here T p right_parenthesis xs refl at)

-- the byte after this one
second : {T : List ℕ} {p c d : ℕ} {xs : List ℕ} (x : ℕ) → (d == backslash) ≡ false → ByteRead T p c (d ∷ xs) →
    stands T (past_byte T p) x ≡ (d == x)
second {T = T} {p = p} {d = d} {xs = xs} x clear r = ap (λ q. stands T q x) r.place_after
    ∙ is_here x (byte_here T (p + 1) d xs clear r.rest)

-- tokens of one byte, where the next one makes no longer token of it
pub semicolon_token : (position : Position) (T : List ℕ) (p d : ℕ) (xs : List ℕ) → (d == backslash) ≡ false →
    (d == semicolon) ≡ false → (d == ampersand) ≡ false → drop p T ≡ semicolon ∷ d ∷ xs →
    token_at position T p ≡ tokens.Semicolon
semicolon_token position T p d xs clear other no_ampersand at =
    let r = byte_here T p semicolon (d ∷ xs) refl at in
    token_here position r ∙ rw (second semicolon clear r, other, second ampersand clear r, no_ampersand) refl

pub ampersand_token : (position : Position) (T : List ℕ) (p d : ℕ) (xs : List ℕ) → (d == backslash) ≡ false →
    (d == ampersand) ≡ false → drop p T ≡ ampersand ∷ d ∷ xs → token_at position T p ≡ tokens.Ampersand
ampersand_token position T p d xs clear other at =
    let r = byte_here T p ampersand (d ∷ xs) refl at in
    token_here position r ∙ rw (second ampersand clear r, other) refl

pub pipe_token : (position : Position) (T : List ℕ) (p d : ℕ) (xs : List ℕ) → (d == backslash) ≡ false →
    (d == vertical_line) ≡ false → drop p T ≡ vertical_line ∷ d ∷ xs → token_at position T p ≡ tokens.Pipe
pipe_token position T p d xs clear other at =
    let r = byte_here T p vertical_line (d ∷ xs) refl at in
    token_here position r ∙ rw (second vertical_line clear r, other) refl

-- tokens of two bytes
pub and_token : (position : Position) (T : List ℕ) (p : ℕ) (xs : List ℕ) → drop p T ≡ ampersand ∷ ampersand ∷ xs →
    token_at position T p ≡ tokens.AndIf
and_token position T p xs at =
    let r = byte_here T p ampersand (ampersand ∷ xs) refl at in
    token_here position r ∙ rw (second ampersand refl r) refl

pub or_token : (position : Position) (T : List ℕ) (p : ℕ) (xs : List ℕ) →
    drop p T ≡ vertical_line ∷ vertical_line ∷ xs → token_at position T p ≡ tokens.OrIf
or_token position T p xs at =
    let r = byte_here T p vertical_line (vertical_line ∷ xs) refl at in
    token_here position r ∙ rw (second vertical_line refl r) refl

pub falls_token : (position : Position) (T : List ℕ) (p : ℕ) (xs : List ℕ) → drop p T ≡ semicolon ∷ ampersand ∷ xs →
    token_at position T p ≡ tokens.SemicolonAmpersand
falls_token position T p xs at =
    let r = byte_here T p semicolon (ampersand ∷ xs) refl at in
    token_here position r ∙ rw (second semicolon refl r, second ampersand refl r) refl

pub double_semicolon_token : (position : Position) (T : List ℕ) (p : ℕ) (xs : List ℕ) →
    drop p T ≡ semicolon ∷ semicolon ∷ xs → token_at position T p ≡ tokens.DoubleSemicolon
double_semicolon_token position T p xs at =
    let r = byte_here T p semicolon (semicolon ∷ xs) refl at in
    token_here position r ∙ rw (second semicolon refl r) refl

-- the end of the text
pub record Ended (T : List ℕ) (p : ℕ) : Type 0 where
  pub gap : Gap T p p false
  pub token : (position : Position) → token_at position T p ≡ tokens.End

-- where no byte stands the text has ended
pub end_here : (T : List ℕ) (p : ℕ) → drop p T ≡ [] → Ended T p
unfolding raw_stands stands_in token_at
end_here T p at =
    let raw = none_stands T p at in
    let place : past_continuations T p ≡ p = joined_none T p (no_backslash T p (ap (λ x. is_byte x backslash) raw)) in
    let byte : byte_at T p ≡ None = ap (slice_get T) place ∙ raw in
    record {
      gap = no_gap (record { place = place; no_blank = ap (passes is_blank) byte });
      token = λ position. ap (token_of position T p) byte;
    }

-- ---- reserved words

-- no byte ends a word or is a backslash
abbrev pub is_plain : List ℕ → Bool
is_plain [] = true
is_plain (c ∷ cs) = not (ends (Some c)) && (not (c == backslash) && is_plain cs)

-- so it is with each of some words
abbrev pub all_plain : Row Spelling → Bool
all_plain [] = true
all_plain (w ∷ ws) = is_plain w.0 && all_plain ws

-- the same bytes
abbrev pub same_word : List ℕ → List ℕ → Bool
same_word [] [] = true
same_word [] (c ∷ cs) = false
same_word (c ∷ cs) [] = false
same_word (c ∷ cs) (x ∷ xs) = x == c && same_word cs xs

-- the first of these words that is this one
abbrev pub first_same : List ℕ → Row Spelling → Option Reserved
first_same w [] = None
first_same w (v ∷ vs) = cond (same_word v.0 w) (Some v.1) (first_same w vs)

-- a plain word by its first byte and the others
plain_parts : (c : ℕ) (cs : List ℕ) → is_plain (c ∷ cs) ≡ true → (ends (Some c) ≡ false) × ((c == backslash) ≡ false)
    × (is_plain cs ≡ true)
plain_parts c cs e = let one = and_parts _ _ e in let two = and_parts _ _ one.1 in
    (not-true _ one.0, not-true _ two.0, two.1)

module _ (T : List ℕ) (x : ℕ) (xs : List ℕ) (clear : (x == backslash) ≡ false) (ends_it : ends (Some x) ≡ true) where
  -- where a plain word stands before a byte that ends it, exactly that word is spelled
  pub spelled_here : (p : ℕ) (v w : List ℕ) → is_plain v ≡ true → is_plain w ≡ true → drop p T ≡ w ++ x ∷ xs →
      is_word_at T p v ≡ same_word v w
  spelled_here p [] [] one two at = spelled_none T p ∙ ap ends (byte_here T p x xs clear at).byte ∙ ends_it
  spelled_here p [] (c ∷ w) one two at = let parts = plain_parts c w two in
      spelled_none T p ∙ ap ends (byte_here T p c _ parts.1 at).byte ∙ parts.0
  spelled_here p (d ∷ v) [] one two at =
      let r = byte_here T p x xs clear at in
      spelled_more T p d v ∙ ap (λ b. b && is_word_at T (past_byte T p) v)
      (is_here d r ∙ ender_is_other x d ends_it (plain_parts d v one).0)
  spelled_here p (d ∷ v) (c ∷ w) one two at =
      let parts = plain_parts c w two in
      let r = byte_here T p c (w ++ x ∷ xs) parts.1 at in
      spelled_more T p d v ∙ ap (λ b. b && is_word_at T (past_byte T p) v) (is_here d r)
      ∙ ap (λ b. c == d && b) (ap (λ q. is_word_at T q v) r.place_after
      ∙ spelled_here (p + 1) v w (plain_parts d v one).2 parts.2 r.rest)

  -- of some words the first that stands there is the first that is this one
  first_here : (p : ℕ) (w : List ℕ) (vs : Row Spelling) → is_plain w ≡ true → all_plain vs ≡ true →
      drop p T ≡ w ++ x ∷ xs → first_of_words T p vs ≡ first_same w vs
  unfolding first_of_words
  first_here p w [] plain all at = refl
  first_here p w (v ∷ vs) plain all at =
      let parts = and_parts _ _ all in
      ap (λ b. cond b (Some v.1) (first_of_words T p vs)) (spelled_here p v.0 w parts.0 plain at)
      ∙ ap (λ o. cond (same_word v.0 w) (Some v.1) o) (first_here p w vs plain parts.1 at)

-- a reserved word where it may stand
pub record ReservedWord (T : List ℕ) (p : ℕ) (w : List ℕ) (r : Reserved) : Type 0 where
  pub start : Start T p
  pub token : token_at Command T p ≡ tokens.Reserved r
  pub past_it : past_reserved T p ≡ p + length w

-- bytes of names alone
abbrev pub all_names : List ℕ → Bool
all_names [] = true
all_names (c ∷ cs) = is_name c && all_names cs

-- what ends a word is in no name
ends_no_name : (x : ℕ) → ends (Some x) ≡ true → is_name x ≡ false
ends_no_name x e = grind (arith, nat_tests)

-- bytes of names are passed up to what ends the word
names_here : (T : List ℕ) (p x : ℕ) (cs xs : List ℕ) → (x == backslash) ≡ false → ends (Some x) ≡ true →
    all_names cs ≡ true → drop p T ≡ cs ++ x ∷ xs → past is_name T p ≡ p + length cs
names_here T p x [] xs clear stops all at =
    let e : p + 0 ≡ p = omega arith in
    past_none is_name T p (in_class is_name (byte_here T p x xs clear at) ∙ ends_no_name x stops) ∙ sym e
names_here T p x (c ∷ cs) xs clear stops all at =
    let parts = and_parts _ _ all in
    let r = byte_here T p c (cs ++ x ∷ xs) (name_clear c parts.0) at in
    let e : p + 1 + length cs ≡ p + suc (length cs) = omega arith in
    past_more is_name T p (in_class is_name r ∙ parts.0) ∙ ap (past is_name T) r.place_after
    ∙ names_here T (p + 1) x cs xs clear stops parts.1 r.rest ∙ e

all_are_plain : all_plain reserved_words ≡ true
unfolding reserved_words
all_are_plain = refl

-- a word that begins with no digit is no number
no_number : (T : List ℕ) (p : ℕ) → stands_in is_digit T p ≡ false → is_number T p ≡ false
unfolding is_number
no_number T p e = rw e refl

-- the text of a byte that begins a word which is no number: what the word is in a command's place
abbrev pub WordByte : ℕ → Type 0
WordByte c = (T : List ℕ) (p : ℕ) → is_number T p ≡ false →
    token_of Command T p (Some c) ≡ first_word (begins_assignment T p) (reserved_at T p)

-- a reserved word before a byte that ends it, by its first byte and the others
pub reserved_here : (T : List ℕ) (p c x : ℕ) (cs xs : List ℕ) (r : Reserved) → WordByte c → is_blank c ≡ false →
    is_digit c ≡ false → is_plain (c ∷ cs) ≡ true → all_names cs ≡ true
    → first_same (c ∷ cs) reserved_words ≡ Some r → (x == backslash) ≡ false → ends (Some x) ≡ true →
    drop p T ≡ c ∷ (cs ++ x ∷ xs) → ReservedWord T p (c ∷ cs) r
unfolding past_reserved
reserved_here T p c x cs xs r byte no_blank no_digit plain names same clear stops at =
    let here = byte_here T p c (cs ++ x ∷ xs) (plain_parts c cs plain).1 at in
    let number = no_number T p (in_class is_digit here ∙ no_digit) in
    let reserved_is : reserved_at T p ≡ Some r =
    first_here T x xs clear stops p (c ∷ cs) reserved_words plain all_are_plain at ∙ same in
    let token_is = token_here Command here ∙ byte T p number ∙ ap (first_word (begins_assignment T p)) reserved_is in
    let over = ap (past is_name T) here.place_after ∙ names_here T (p + 1) x cs xs clear stops names here.rest in
    let e : p + 1 + length cs ≡ p + suc (length cs) = omega arith in
    record { start = start_here here no_blank; token = token_is; past_it = over ∙ e }

-- ---- each reserved word before a byte that ends it

module _ (T : List ℕ) (p x : ℕ) (xs : List ℕ) (clear : (x == backslash) ≡ false) (stops : ends (Some x) ≡ true) where
  pub if_here : drop p T ≡ codes "if" ++ x ∷ xs → ReservedWord T p (codes "if") reserved.If
  unfolding reserved_words
  if_here at = reserved_here T p _ x _ xs reserved.If (λ T p e. rw e refl) refl refl refl refl refl clear stops at

  pub then_here : drop p T ≡ codes "then" ++ x ∷ xs → ReservedWord T p (codes "then") reserved.Then
  unfolding reserved_words
  then_here at = reserved_here T p _ x _ xs reserved.Then (λ T p e. rw e refl) refl refl refl refl refl clear stops at

  pub elif_here : drop p T ≡ codes "elif" ++ x ∷ xs → ReservedWord T p (codes "elif") reserved.Elif
  unfolding reserved_words
  elif_here at = reserved_here T p _ x _ xs reserved.Elif (λ T p e. rw e refl) refl refl refl refl refl clear stops at

  pub else_here : drop p T ≡ codes "else" ++ x ∷ xs → ReservedWord T p (codes "else") reserved.Else
  unfolding reserved_words
  else_here at = reserved_here T p _ x _ xs reserved.Else (λ T p e. rw e refl) refl refl refl refl refl clear stops at

  pub fi_here : drop p T ≡ codes "fi" ++ x ∷ xs → ReservedWord T p (codes "fi") reserved.Fi
  unfolding reserved_words
  fi_here at = reserved_here T p _ x _ xs reserved.Fi (λ T p e. rw e refl) refl refl refl refl refl clear stops at

  pub while_here : drop p T ≡ codes "while" ++ x ∷ xs → ReservedWord T p (codes "while") reserved.While
  unfolding reserved_words
  while_here at = reserved_here T p _ x _ xs reserved.While (λ T p e. rw e refl) refl refl refl refl refl clear stops at

  pub until_here : drop p T ≡ codes "until" ++ x ∷ xs → ReservedWord T p (codes "until") reserved.Until
  unfolding reserved_words
  until_here at = reserved_here T p _ x _ xs reserved.Until (λ T p e. rw e refl) refl refl refl refl refl clear stops at

  pub do_here : drop p T ≡ codes "do" ++ x ∷ xs → ReservedWord T p (codes "do") reserved.Do
  unfolding reserved_words
  do_here at = reserved_here T p _ x _ xs reserved.Do (λ T p e. rw e refl) refl refl refl refl refl clear stops at

  pub done_here : drop p T ≡ codes "done" ++ x ∷ xs → ReservedWord T p (codes "done") reserved.Done
  unfolding reserved_words
  done_here at = reserved_here T p _ x _ xs reserved.Done (λ T p e. rw e refl) refl refl refl refl refl clear stops at

  pub brace_here : drop p T ≡ codes "{" ++ x ∷ xs → ReservedWord T p (codes "{") reserved.OpenBrace
  unfolding reserved_words
  brace_here at = reserved_here T p _ x _ xs reserved.OpenBrace
      (λ T p e. rw e refl) refl refl refl refl refl clear stops at

  pub close_brace_here : drop p T ≡ codes "}" ++ x ∷ xs → ReservedWord T p (codes "}") reserved.CloseBrace
  unfolding reserved_words
  close_brace_here at = reserved_here T p _ x _ xs reserved.CloseBrace
      (λ T p e. rw e refl) refl refl refl refl refl clear stops at

  pub bang_here : drop p T ≡ codes "!" ++ x ∷ xs → ReservedWord T p (codes "!") reserved.Bang
  unfolding reserved_words
  bang_here at = reserved_here T p _ x _ xs reserved.Bang (λ T p e. rw e refl) refl refl refl refl refl clear stops at

  pub for_here : drop p T ≡ codes "for" ++ x ∷ xs → ReservedWord T p (codes "for") reserved.For
  unfolding reserved_words
  for_here at = reserved_here T p _ x _ xs reserved.For (λ T p e. rw e refl) refl refl refl refl refl clear stops at

  pub case_here : drop p T ≡ codes "case" ++ x ∷ xs → ReservedWord T p (codes "case") reserved.Case
  unfolding reserved_words
  case_here at = reserved_here T p _ x _ xs reserved.Case (λ T p e. rw e refl) refl refl refl refl refl clear stops at

  pub esac_here : drop p T ≡ codes "esac" ++ x ∷ xs → ReservedWord T p (codes "esac") reserved.Esac
  unfolding reserved_words
  esac_here at = reserved_here T p _ x _ xs reserved.Esac (λ T p e. rw e refl) refl refl refl refl refl clear stops at

  pub in_here : drop p T ≡ codes "in" ++ x ∷ xs → ReservedWord T p (codes "in") reserved.In
  unfolding reserved_words
  in_here at = reserved_here T p _ x _ xs reserved.In (λ T p e. rw e refl) refl refl refl refl refl clear stops at

-- ---- editions

-- such a token is neither `;` nor `;&`
by_edition : (P : Token → Bool) → P tokens.Semicolon ≡ false → P tokens.SemicolonAmpersand ≡ false →
    (later : Bool) (u : Token) → cond later tokens.SemicolonAmpersand tokens.Semicolon ≡ u → P u ≡ true → ⊥
by_edition P one two true u same e = both_ways (P u) (ap P (sym same) ∙ two) e
by_edition P one two false u same e = both_ways (P u) (ap P (sym same) ∙ one) e

-- what an edition has in a place is what the text has, where it is no `;`
pub told_so : (P : Token → Bool) → P tokens.Semicolon ≡ false → P tokens.SemicolonAmpersand ≡ false →
    (edition : Edition) (t u : Token) → token_in edition t ≡ u → P u ≡ true → t ≡ u
told_so P one two edition tokens.SemicolonAmpersand u same e = absurd (by_edition P one two (is_later edition) u same e)
told_so P one two edition _ u same e = same

-- an edition has no other token in the place of a word
pub word_stays : (edition : Edition) (t : Token) → is_a_word t ≡ true → token_in edition t ≡ t
word_stays edition tokens.SemicolonAmpersand e = absurd cc
word_stays edition _ e = refl

-- `;&` is a token of its own in a later edition
pub falls_stays : (edition : Edition) → is_later edition ≡ true →
    token_in edition tokens.SemicolonAmpersand ≡ tokens.SemicolonAmpersand
falls_stays edition e = rw e refl

-- a delimiter of an edition is one of each
delimiter_by : (c : Bool) (x : Option ADelimiter) (d : ADelimiter) → cond c None x ≡ Some d → x ≡ Some d
delimiter_by true x d e = absurd cc
delimiter_by false x d e = e

-- a delimiter by an edition is one by itself
pub delimiter_stays : (edition : Edition) (bytes : List ℕ) (d : ADelimiter) → delimiter_in edition bytes ≡ Some d →
    delimiter_of bytes ≡ Some d
delimiter_stays edition bytes d e = delimiter_by _ (delimiter_of bytes) d e

-- ---- words and assignments

-- an item of a simple command is a word or an assignment
pub kind_of : (t : Token) (next : Position) → after_word t ≡ Some next →
    ((t ≡ tokens.Word) × (next ≡ Suffix)) ⊎ ((t ≡ tokens.Assignment) × (next ≡ Prefix))
kind_of tokens.End next e = absurd cc
kind_of tokens.Newline next e = absurd cc
kind_of tokens.Semicolon next e = absurd cc
kind_of tokens.DoubleSemicolon next e = absurd cc
kind_of tokens.SemicolonAmpersand next e = absurd cc
kind_of tokens.Ampersand next e = absurd cc
kind_of tokens.AndIf next e = absurd cc
kind_of tokens.OrIf next e = absurd cc
kind_of tokens.Pipe next e = absurd cc
kind_of tokens.OpenParen next e = absurd cc
kind_of tokens.CloseParen next e = absurd cc
kind_of (tokens.Redirect o) next e = absurd cc
kind_of tokens.Comment next e = absurd cc
kind_of tokens.Number next e = absurd cc
kind_of (tokens.Reserved r) next e = absurd cc
kind_of tokens.Assignment next e = inr (refl, let same : ◌≡◌ {A = Option Position} (Some Prefix) (Some next) = e in cc)
kind_of tokens.Word next e = inl (refl, let same : ◌≡◌ {A = Option Position} (Some Suffix) (Some next) = e in cc)

-- a token that is a word is `Word`
pub word_token : (t : Token) → is_word t ≡ true → t ≡ tokens.Word
word_token tokens.End e = absurd cc
word_token tokens.Newline e = absurd cc
word_token tokens.Semicolon e = absurd cc
word_token tokens.DoubleSemicolon e = absurd cc
word_token tokens.SemicolonAmpersand e = absurd cc
word_token tokens.Ampersand e = absurd cc
word_token tokens.AndIf e = absurd cc
word_token tokens.OrIf e = absurd cc
word_token tokens.Pipe e = absurd cc
word_token tokens.OpenParen e = absurd cc
word_token tokens.CloseParen e = absurd cc
word_token (tokens.Redirect o) e = absurd cc
word_token tokens.Comment e = absurd cc
word_token tokens.Number e = absurd cc
word_token (tokens.Reserved r) e = absurd cc
word_token tokens.Assignment e = absurd cc
word_token tokens.Word e = refl

-- it is no `(`
paren_token : (t : Token) → is_paren t ≡ true → t ≡ tokens.OpenParen
paren_token tokens.OpenParen e = refl
paren_token _ e = absurd cc

-- what begins a simple command is no `(`
pub item_no_round : (t : Token) → begins_simple t ≡ true → is_paren t ≡ false
item_no_round t begins = false_from_ne_true (is_paren t)
    (λ e. both_ways (begins_simple t) (ap begins_simple (paren_token t e)) begins)

-- what begins no simple command is no word
pub no_word : (t : Token) → begins_simple t ≡ false → is_word t ≡ false
no_word t none = false_from_ne_true (is_word t)
    (λ e. both_ways (begins_simple t) none (ap begins_simple (word_token t e)))

not_some_is_none : (x : Option Position) → is_some x ≡ false → x ≡ None
not_some_is_none None e = refl
not_some_is_none (Some x) e = absurd cc

-- and begins neither an item that is a word nor a redirection
pub record NoItem (t : Token) : Type 0 where
  pub after : after_word t ≡ None
  pub redirect : begins_redirect t ≡ false
  pub word : is_word t ≡ false

-- such a token begins no item
pub no_item_token : (t : Token) → begins_simple t ≡ false → NoItem t
no_item_token t none =
    let parts = or_parts (begins_word t) (begins_redirect t) none in
    record { after = not_some_is_none (after_word t) parts.0; redirect = parts.1; word = no_word t none }

-- ---- redirections

-- what begins a redirection begins a simple command, and is no word
pub redirect_is_item : (t : Token) → begins_redirect t ≡ true → begins_simple t ≡ true
redirect_is_item t e = must_hold (begins_word t) (begins_redirect t) e
  where
    must_hold : (a b : Bool) → b ≡ true → (a || b) ≡ true
    must_hold true b e = refl
    must_hold false b e = e

pub redirect_no_word : (t : Token) → begins_redirect t ≡ true → is_word t ≡ false
redirect_no_word t redirect = false_from_ne_true (is_word t)
    (λ e. both_ways (begins_redirect t) (ap begins_redirect (word_token t e)) redirect)

-- where a redirection begins
pub record RedirectThere (edition : Edition) (position : Position) (T : List ℕ) (p : ℕ) : Type 0 where
  pub start : Start T p
  pub redirect : begins_redirect (token_in edition (token_at position T p)) ≡ true
  pub no_word : after_word (token_in edition (token_at position T p)) ≡ None

-- no byte that would make an operator longer is read here
pub record NoLonger (T : List ℕ) (q : ℕ) : Type 0 where
  pub no_less : stands T q less_than_sign ≡ false
  pub no_greater : stands T q greater_than_sign ≡ false
  pub no_ampersand : stands T q ampersand ≡ false
  pub no_bar : stands T q vertical_line ≡ false

-- a space makes no operator longer
pub space_no_longer : (T : List ℕ) (q : ℕ) (xs : List ℕ) → drop q T ≡ space ∷ xs → NoLonger T q
space_no_longer T q xs at =
    let r = byte_here T q space xs refl at in
    record {
      no_less = is_here less_than_sign r;
      no_greater = is_here greater_than_sign r;
      no_ampersand = is_here ampersand r;
      no_bar = is_here vertical_line r;
    }

-- no byte is read where a word begins with which the token would be no word
no_such_byte : (T : List ℕ) (q x : ℕ) → token_at Suffix T q ≡ tokens.Word →
    is_word (token_of Suffix T q (Some x)) ≡ false → stands T q x ≡ false
unfolding stands token_at
no_such_byte T q x word other =
    false_from_ne_true (is_byte (byte_at T q) x)
    (λ e. both_ways (is_word (token_of Suffix T q (byte_at T q)))
    (ap (λ b. is_word (token_of Suffix T q b)) (byte_is (byte_at T q) x e) ∙ other) (ap is_word word))

-- a word begins with no byte of an operator
pub word_no_longer : (T : List ℕ) (q : ℕ) → token_at Suffix T q ≡ tokens.Word → NoLonger T q
word_no_longer T q word = record {
  no_less = no_such_byte T q less_than_sign word refl;
  no_greater = no_such_byte T q greater_than_sign word refl;
  no_ampersand = no_such_byte T q ampersand word
      (no_word_of (stands T (past_byte T q) ampersand) tokens.AndIf tokens.Ampersand refl refl);
  no_bar = no_such_byte T q vertical_line word
      (no_word_of (stands T (past_byte T q) vertical_line) tokens.OrIf tokens.Pipe refl refl);
}
  where
    no_word_of : (b : Bool) (t u : Token) → is_word t ≡ false → is_word u ≡ false → is_word (cond b t u) ≡ false
    no_word_of true t u one two = one
    no_word_of false t u one two = two

-- after `<<` no `-` is read
abbrev pub IsWhole : RedirectOperator → List ℕ → ℕ → Type 0
IsWhole redirects.Here T q = stands T q hyphen ≡ false
IsWhole _ T q = Unit {0}

-- an operator of redirections, where no longer one stands
pub redirect_token : (position : Position) (k : RedirectOperator) (T : List ℕ) (p : ℕ) (xs : List ℕ) →
    IsWhole k T (p + length (redirect_text k)) → NoLonger T (p + length (redirect_text k)) →
    drop p T ≡ redirect_text k ++ xs
    → token_at position T p ≡ tokens.Redirect k
unfolding less_at greater_at
redirect_token position redirects.Input T p xs none n at =
    let r = byte_here T p less_than_sign xs refl at in
    token_here position r ∙ rw (r.place_after, n.no_less, n.no_ampersand, n.no_greater) refl
redirect_token position redirects.Output T p xs none n at =
    let r = byte_here T p greater_than_sign xs refl at in
    token_here position r ∙ rw (r.place_after, n.no_greater, n.no_ampersand, n.no_bar) refl
redirect_token position redirects.Here T p xs none n at =
    let r = byte_here T p less_than_sign (less_than_sign ∷ xs) refl at in
    let s = byte_here T (p + 1) less_than_sign xs refl r.rest in
    let two : p + 2 ≡ p + 1 + 1 = omega arith in
    let is_whole : stands T (p + 1 + 1) hyphen ≡ false = subst (λ q. stands T q hyphen ≡ false) two none in
    token_here position r ∙ rw (second less_than_sign refl r, r.place_after, s.place_after, is_whole) refl
redirect_token position redirects.Append T p xs none n at =
    let r = byte_here T p greater_than_sign (greater_than_sign ∷ xs) refl at in
    token_here position r ∙ rw (second greater_than_sign refl r) refl
redirect_token position redirects.DuplicateInput T p xs none n at =
    let r = byte_here T p less_than_sign (ampersand ∷ xs) refl at in
    token_here position r ∙ rw (second less_than_sign refl r, second ampersand refl r) refl
redirect_token position redirects.DuplicateOutput T p xs none n at =
    let r = byte_here T p greater_than_sign (ampersand ∷ xs) refl at in
    token_here position r ∙ rw (second greater_than_sign refl r, second ampersand refl r) refl
redirect_token position redirects.ReadWrite T p xs none n at =
    let r = byte_here T p less_than_sign (greater_than_sign ∷ xs) refl at in
    token_here position r
    ∙ rw (second less_than_sign refl r, second ampersand refl r, second greater_than_sign refl r) refl
redirect_token position redirects.HereStripped T p xs none n at =
    let r = byte_here T p less_than_sign (less_than_sign ∷ hyphen ∷ xs) refl at in
    let s = byte_here T (p + 1) less_than_sign (hyphen ∷ xs) refl r.rest in
    token_here position r ∙ rw (second less_than_sign refl r, r.place_after, second hyphen refl s) refl
redirect_token position redirects.Clobber T p xs none n at =
    let r = byte_here T p greater_than_sign (vertical_line ∷ xs) refl at in
    token_here position r
    ∙ rw (second greater_than_sign refl r, second ampersand refl r, second vertical_line refl r) refl

-- `<` or `>`
abbrev pub is_angle : ℕ → Bool
is_angle b = b == less_than_sign || b == greater_than_sign

-- it is no backslash, no blank and no digit
pub angle_clear : (b : ℕ) → is_angle b ≡ true → (b == backslash) ≡ false
angle_clear b e = grind (arith, nat_tests)

pub angle_no_blank : (b : ℕ) → is_angle b ≡ true → is_blank b ≡ false
angle_no_blank b e = grind (arith, nat_tests)

angle_no_digit : (b : ℕ) → is_angle b ≡ true → is_digit b ≡ false
angle_no_digit b e = grind (arith, nat_tests)

-- with which each operator begins
pub angle_first : (k : RedirectOperator) → (b : ℕ) × (bs : List ℕ) × (redirect_text k ≡ b ∷ bs) × (is_angle b ≡ true)
angle_first redirects.Input = (less_than_sign, [], refl, refl)
angle_first redirects.Output = (greater_than_sign, [], refl, refl)
angle_first redirects.Here = (less_than_sign, less_than_sign ∷ [], refl, refl)
angle_first redirects.Append = (greater_than_sign, greater_than_sign ∷ [], refl, refl)
angle_first redirects.DuplicateInput = (less_than_sign, ampersand ∷ [], refl, refl)
angle_first redirects.DuplicateOutput = (greater_than_sign, ampersand ∷ [], refl, refl)
angle_first redirects.ReadWrite = (less_than_sign, greater_than_sign ∷ [], refl, refl)
angle_first redirects.HereStripped = (less_than_sign, less_than_sign ∷ hyphen ∷ [], refl, refl)
angle_first redirects.Clobber = (greater_than_sign, vertical_line ∷ [], refl, refl)

-- the number before an operator
pub record NumberHere (position : Position) (T : List ℕ) (p : ℕ) (t : List ℕ) : Type 0 where
  pub start : Start T p
  pub token : token_at position T p ≡ tokens.Number
  pub past_it : past_digits T p ≡ p + length t

-- a digit is no backslash and no blank
pub digit_clear : (c : ℕ) → is_digit c ≡ true → (c == backslash) ≡ false
digit_clear c e = grind (arith, nat_tests)

digit_no_blank : (c : ℕ) → is_digit c ≡ true → is_blank c ≡ false
digit_no_blank c e = grind (arith, nat_tests)

-- digits are passed up to an angle
digits_here : (T : List ℕ) (p x : ℕ) (cs xs : List ℕ) → is_angle x ≡ true → all_digits cs ≡ true →
    drop p T ≡ cs ++ x ∷ xs → past is_digit T p ≡ p + length cs
digits_here T p x [] xs angle all at =
    let e : p + 0 ≡ p = omega arith in
    past_none is_digit T p (in_class is_digit (byte_here T p x xs (angle_clear x angle) at)
    ∙ angle_no_digit x angle) ∙ sym e
digits_here T p x (c ∷ cs) xs angle all at =
    let parts = and_parts _ _ all in
    let r = byte_here T p c (cs ++ x ∷ xs) (digit_clear c parts.0) at in
    let e : p + 1 + length cs ≡ p + suc (length cs) = omega arith in
    past_more is_digit T p (in_class is_digit r ∙ parts.0) ∙ ap (past is_digit T) r.place_after
    ∙ digits_here T (p + 1) x cs xs angle parts.1 r.rest ∙ e

-- a number is told by its first digit
digit_token : (position : Position) (T : List ℕ) (p c : ℕ) → is_digit c ≡ true → is_number T p ≡ true →
    token_of position T p (Some c) ≡ tokens.Number
digit_token position T p c digit number =
    let no_newline : is_newline c ≡ false = grind (arith, nat_tests) in
    let no_semicolon : (c == semicolon) ≡ false = grind (arith, nat_tests) in
    let no_ampersand : (c == ampersand) ≡ false = grind (arith, nat_tests) in
    let no_bar : (c == vertical_line) ≡ false = grind (arith, nat_tests) in
    let no_opener : (c == left_parenthesis) ≡ false = grind (arith, nat_tests) in
    let no_closer : (c == right_parenthesis) ≡ false = grind (arith, nat_tests) in
    let no_less : (c == less_than_sign) ≡ false = grind (arith, nat_tests) in
    let no_greater : (c == greater_than_sign) ≡ false = grind (arith, nat_tests) in
    let no_sharp : (c == number_sign) ≡ false = grind (arith, nat_tests) in
    rw (no_newline, no_semicolon, no_ampersand, no_bar, no_opener, no_closer, no_less, no_greater, no_sharp, number)
    refl

-- digits before an angle are a number
pub number_token : (position : Position) (T : List ℕ) (p x d : ℕ) (ds xs : List ℕ) → all_digits (d ∷ ds) ≡ true →
    is_angle x ≡ true → drop p T ≡ (d ∷ ds) ++ x ∷ xs → NumberHere position T p (d ∷ ds)
unfolding is_number past_digits
number_token position T p x d ds xs all angle at =
    let digit = (and_parts _ _ all).0 in
    let r = byte_here T p d (ds ++ x ∷ xs) (digit_clear d digit) at in
    let q = p + length (d ∷ ds) in
    let past_it = digits_here T p x (d ∷ ds) xs angle all at in
    let s = byte_here T q x xs (angle_clear x angle) (past_text_stands T p (d ∷ ds) (x ∷ xs) at) in
    let number : is_number T p ≡ true =
    and_from _ _ (in_class is_digit r ∙ digit)
    (rw (past_it, is_here less_than_sign s, is_here greater_than_sign s) angle) in
    record {
      start = start_here r (digit_no_blank d digit);
      token = token_here position r ∙ digit_token position T p d digit number;
      past_it = past_it;
    }
