-- Quote removal, a byte at a time.
use Rattle.std.proofs.Common.{◌≡◌, ℕ, suc, ◌+◌, ◌==◌, ◌<◌, ◌≤◌, Bool, true, false, ◌||◌, List, [], ◌∷◌, ◌++◌, length, drop, Option, Some, None, slice_get, get_or, refl, sym, ap, ◌∙◌, arith}
use Rattle.std.specs.Prelude.{◌&&◌, nat_lt}
use Rattle.std.specs.List.{list_any}
use Rattle.std.proofs.lemmas.Bool.{and_parts, ltb-true, lt-ltb}
use Rattle.std.proofs.lemmas.Bool.Decides.{nat_tests}
use Rattle.std.proofs.lemmas.Option.{slice_get_within, slice_get-get_or, slice_get_past}
use Rattle.std.proofs.lemmas.List.{append_assoc, drop_more, append-nil, drop_all, length-drop}
use Rattle.shast.specs.Shape.{bare}
use Rattle.shgrammar.specs.Characters.{apostrophe, backslash, dollar_sign, grave_accent, left_brace, left_parenthesis, newline_char, quotation_mark}
use Rattle.shgrammar.specs.Standing.{is_byte, continues, raw_stands}
use Rattle.shgrammar.specs.Bytes.{byte_at, count_joined, past_continuations, stands}
use Rattle.shgrammar.specs.HereDocuments.{Quoting, after_quote, byte_left, dollar_left, escape_left, is_live, is_quote, left_before, stays_before, unquoted}
use Rattle.shgrammar.specs.Unquoting.{escapes, left_of}
use Rattle.shgrammar.proofs.Stretches.{get_drop, joined_more, joined_none}

-- ---- text and what is left after it

-- a byte before what is left is one more at the end of the text
push_left : (text : List ℕ) (c : ℕ) (left : Option (List ℕ)) →
    left_of text (left_before c left) ≡ left_of (text ++ c ∷ []) left
push_left text c None = refl
push_left text c (Some bs) = ap (λ (l : List ℕ). Some l) (sym (append_assoc text (c ∷ []) bs))

-- a backslash and a newline leave nothing; another byte is left, with its backslash or without it
pub escape_dropped : (q : Quoting) (text : List ℕ) (c : ℕ) (left : Option (List ℕ)) → (c == newline_char) ≡ true →
    left_of text (escape_left q c left) ≡ left_of text left
escape_dropped q text c left is = rw is refl

pub escape_both : (q : Quoting) (text : List ℕ) (c : ℕ) (left : Option (List ℕ)) → (c == newline_char) ≡ false →
    stays_before q c ≡ true → left_of text (escape_left q c left) ≡ left_of ((text ++ backslash ∷ []) ++ c ∷ []) left
escape_both q text c left other is =
    rw (other, is) (push_left text backslash (left_before c left) ∙ push_left (text ++ backslash ∷ []) c left)

pub escape_one : (q : Quoting) (text : List ℕ) (c : ℕ) (left : Option (List ℕ)) → (c == newline_char) ≡ false →
    stays_before q c ≡ false → left_of text (escape_left q c left) ≡ left_of (text ++ c ∷ []) left
escape_one q text c left other is = rw (other, is) (push_left text c left)

-- ---- bytes past continuations

-- both bytes of a continuation stand in the word
pub two_bytes : (word : List ℕ) (at : ℕ) → continues word at ≡ true → at + 2 ≤ length word
unfolding continues raw_stands
two_bytes word at c = let both = and_parts _ _ c in within (slice_get word (at + 1)) refl both.1
  where
    within : (x : Option ℕ) → slice_get word (at + 1) ≡ x → is_byte x newline_char ≡ true → at + 2 ≤ length word
    within None is e = absurd cc
    within (Some b) is e = let lt = slice_get_within word (at + 1) b is in omega (arith, lt)

-- continuations that end as those from q on do end as those after the one at q
pub joined_on : (word : List ℕ) (p q : ℕ) → continues word q ≡ true →
    past_continuations word p ≡ past_continuations word q → past_continuations word p ≡ past_continuations word (q + 2)
joined_on word p q c is = is ∙ joined_more word q c

-- where none stands at q, and they end as those from q on do, the byte at q is the one that is read
pub joined_here : (word : List ℕ) (p q : ℕ) → continues word q ≡ false → q < length word →
    past_continuations word p ≡ past_continuations word q → byte_at word p ≡ Some (get_or word q 0)
joined_here word p q c lt is = ap (slice_get word) (is ∙ joined_none word q c) ∙ slice_get-get_or word q 0 lt

-- at or past the end of the word there is no continuation
none_past : (word : List ℕ) (q : ℕ) → length word ≤ q → continues word q ≡ false
unfolding continues raw_stands
none_past word q le = by (slice_get word q) refl
  where
    by : (x : Option ℕ) → slice_get word q ≡ x → (is_byte x backslash && raw_stands word (q + 1) newline_char) ≡ false
    by None is = refl
    by (Some b) is = let lt = slice_get_within word q b is in absurd (omega (arith, lt, le))

-- so no byte is read where only continuations stand up to there
pub joined_end : (word : List ℕ) (p q : ℕ) → length word ≤ q → past_continuations word p ≡ past_continuations word q →
    byte_at word p ≡ None
joined_end word p q le is = ap (slice_get word) (is ∙ joined_none word q (none_past word q le))
    ∙ slice_get_past word q le

-- what is read at a place is read at the start of the rest
rest_byte : (word : List ℕ) (p : ℕ) → byte_at (drop p word) 0 ≡ byte_at word p
unfolding past_continuations
rest_byte word p =
    let n = count_joined (drop p word) in
    let none : 0 + n ≡ n = omega arith in
    ap (slice_get (drop p word)) none ∙ get_drop p word n

pub rest_stands : (word : List ℕ) (p c : ℕ) → stands (drop p word) 0 c ≡ is_byte (byte_at word p) c
unfolding stands
rest_stands word p c = ap (λ b. is_byte b c) (rest_byte word p)

-- ---- a `$`

-- the second `$` of `$$` is left, whatever follows it
pub dollar_second : (text bs : List ℕ) (left : Bool → Option (List ℕ)) →
    left_of text (dollar_left true bs left) ≡ left_of (text ++ dollar_sign ∷ []) (left false)
dollar_second text bs left = push_left text dollar_sign (left false)

-- a `$` that opens a construct leaves nothing, not even the text before it
pub dollar_opens : (text word : List ℕ) (p : ℕ) (left : Bool → Option (List ℕ)) →
    (is_byte (byte_at word p) left_parenthesis || is_byte (byte_at word p) left_brace) ≡ true →
    left_of text (dollar_left false (drop p word) left) ≡ None
dollar_opens text word p left opens =
    rw (rest_stands word p left_parenthesis, rest_stands word p left_brace, opens) refl

-- another `$` is left, and if one follows it that is the second of `$$`
pub dollar_on : (text word : List ℕ) (p : ℕ) (left : Bool → Option (List ℕ)) →
    (is_byte (byte_at word p) left_parenthesis || is_byte (byte_at word p) left_brace) ≡ false
    → left_of text (dollar_left false (drop p word) left)
    ≡ left_of (text ++ dollar_sign ∷ []) (left (is_byte (byte_at word p) dollar_sign))
dollar_on text word p left other =
    rw (rest_stands word p left_parenthesis, rest_stands word p left_brace, other, rest_stands word p dollar_sign)
    (push_left text dollar_sign (left (is_byte (byte_at word p) dollar_sign)))

-- ---- another byte

module _ (q : Quoting) (second : Bool) (text bs : List ℕ) (b : ℕ) (left : Quoting → Bool → Option (List ℕ)) where
  -- by the byte: a quote is dropped, a backquote leaves nothing, a `$` is as above, another one is left
  pub byte_quote : is_quote q b ≡ true →
      left_of text (byte_left q second b bs left) ≡ left_of text (left (after_quote q b) false)
  byte_quote is = rw is refl

  pub byte_backquote : is_quote q b ≡ false → is_live q grave_accent b ≡ true →
      left_of text (byte_left q second b bs left) ≡ None
  byte_backquote other is = rw (other, is) refl

  pub byte_dollar : is_quote q b ≡ false → is_live q grave_accent b ≡ false → is_live q dollar_sign b ≡ true →
      left_of text (byte_left q second b bs left) ≡ left_of text (dollar_left second bs (left q))
  byte_dollar other tick is = rw (other, tick, is) refl

  pub byte_other : is_quote q b ≡ false → is_live q grave_accent b ≡ false → is_live q dollar_sign b ≡ false →
      left_of text (byte_left q second b bs left) ≡ left_of (text ++ b ∷ []) (left q second)
  byte_other other tick none = rw (other, tick, none) (push_left text b (left q second))

-- ---- the byte at a place

-- of two that do not both hold, the second does not where the first does
second_false : (a b : Bool) → (a && b) ≡ false → a ≡ true → b ≡ false
second_false true b e f = e
second_false false b e f = absurd cc

-- a byte that is the last one, or no backslash that quotes, is taken alone
pub unquoted_byte : (q : Quoting) (second : Bool) (b : ℕ) (bs : List ℕ) →
    (nat_lt 0 (length bs) && is_live q backslash b) ≡ false →
    unquoted q second (b ∷ bs) ≡ byte_left q second b bs (λ r s. unquoted r s bs)
unfolding unquoted
unquoted_byte q second b [] other = refl
unquoted_byte q second b (c ∷ bs) other =
    rw (second_false (nat_lt 0 (length (c ∷ bs))) (is_live q backslash b) other (lt-ltb _ _ (omega arith))) refl

-- a backslash that quotes is taken with the byte after it
pub unquoted_escape : (q : Quoting) (second : Bool) (b c : ℕ) (bs : List ℕ) → is_live q backslash b ≡ true →
    unquoted q second (b ∷ c ∷ bs) ≡ escape_left q c (unquoted q second bs)
unfolding unquoted
unquoted_escape q second b c bs is = rw is refl

-- a byte stands after the one at a place, in the word or in its rest
longer : (word : List ℕ) (at : ℕ) → at < length word →
    nat_lt 0 (length (drop (at + 1) word)) ≡ nat_lt (at + 1) (length word)
longer word at lt = grind (arith, nat_tests, length-drop (at + 1) word)

-- the same two at a place in the word
pub take_byte : (q : Quoting) (second : Bool) (text word : List ℕ) (at : ℕ) → at < length word →
    escapes q word at ≡ false
    → left_of text (unquoted q second (drop at word))
    ≡ left_of text (byte_left q second (get_or word at 0) (drop (at + 1) word)
    (λ r s. unquoted r s (drop (at + 1) word)))
take_byte q second text word at lt other =
    ap (λ l. left_of text (unquoted q second l)) (drop_more word at 0 lt)
    ∙ ap (left_of text) (unquoted_byte q second (get_or word at 0) (drop (at + 1) word)
    (ap (λ b. b && is_live q backslash (get_or word at 0)) (longer word at lt) ∙ other))

pub take_escape : (q : Quoting) (second : Bool) (text word : List ℕ) (at : ℕ) → at < length word →
    escapes q word at ≡ true
    → left_of text (unquoted q second (drop at word))
    ≡ left_of text (escape_left q (get_or word (at + 1) 0) (unquoted q second (drop (at + 2) word)))
take_escape q second text word at lt is =
    let both = and_parts _ _ is in
    let more : at + 1 < length word = ltb-true _ _ both.0 in
    let next : at + 1 + 1 ≡ at + 2 = omega arith in
    ap (λ l. left_of text (unquoted q second l)) (drop_more word at 0 lt)
    ∙ ap (λ l. left_of text (unquoted q second (get_or word at 0 ∷ l))) (drop_more word (at + 1) 0 more)
    ∙ ap (left_of text) (unquoted_escape q second (get_or word at 0) (get_or word (at + 1) 0)
    (drop (at + 1 + 1) word) both.1)
    ∙ ap (λ n. left_of text (escape_left q (get_or word (at + 1) 0) (unquoted q second (drop n word)))) next

-- ---- the whole word

-- at the front of the word all is still left, and at its end the text alone
pub nothing_left : (q : Quoting) (second : Bool) (word : List ℕ) →
    left_of [] (unquoted q second (drop 0 word)) ≡ unquoted q second word
nothing_left q second word = same (unquoted q second word)
  where
    same : (x : Option (List ℕ)) → left_of [] x ≡ x
    same None = refl
    same (Some bs) = refl

pub all_left : (q : Quoting) (second : Bool) (text word : List ℕ) (at : ℕ) → length word ≤ at →
    left_of text (unquoted q second (drop at word)) ≡ Some text
unfolding unquoted
all_left q second text word at le = rw (drop_all at word le) (ap (λ (l : List ℕ). Some l) (append-nil text))

pub none_left : (left : Option (List ℕ)) → None ≡ left → left ≡ None
none_left left is = sym is

-- ---- whether it is quoted

-- the bytes by which a word is quoted: a backslash and both quotes
abbrev quotes : ℕ → Bool
quotes b = b == backslash || b == apostrophe || b == quotation_mark

-- a continuation at the front is left out
bare_pair : (b c : ℕ) (bs : List ℕ) → (b == backslash && c == newline_char) ≡ true → bare (b ∷ c ∷ bs) ≡ bare bs
unfolding bare
bare_pair b c bs is = rw is refl

-- a continuation stands where a backslash and a newline do
continues_at : (word : List ℕ) (at : ℕ) → at + 1 < length word →
    continues word at ≡ (get_or word at 0 == backslash && get_or word (at + 1) 0 == newline_char)
unfolding continues raw_stands
continues_at word at lt = rw (slice_get-get_or word at 0 (omega (arith, lt)), slice_get-get_or word (at + 1) 0 lt) refl

-- a word is quoted from a continuation on just where it is from after that
pub bare_on : (word : List ℕ) (at : ℕ) → continues word at ≡ true →
    list_any (λ b. b == backslash || b == apostrophe || b == quotation_mark) (bare (drop at word))
    ≡ list_any (λ b. b == backslash || b == apostrophe || b == quotation_mark) (bare (drop (at + 2) word))
bare_on word at c =
    let le = two_bytes word at c in
    let next : at + 1 + 1 ≡ at + 2 = omega arith in
    ap (λ l. list_any quotes (bare l))
    (drop_more word at 0 (omega (arith, le))
    ∙ ap (λ l. get_or word at 0 ∷ l) (drop_more word (at + 1) 0 (omega (arith, le))))
    ∙ ap (list_any quotes) (bare_pair (get_or word at 0) (get_or word (at + 1) 0) (drop (at + 1 + 1) word)
    (sym (continues_at word at (omega (arith, le))) ∙ c))
    ∙ ap (λ n. list_any quotes (bare (drop n word))) next

-- a byte that begins no continuation is not left out, at the front or at a place in the word
pub bare_one : (b : ℕ) (bs : List ℕ) →
    ((c : ℕ) (cs : List ℕ) → bs ≡ c ∷ cs → (b == backslash && c == newline_char) ≡ false) →
    bare (b ∷ bs) ≡ b ∷ bare bs
unfolding bare
bare_one b [] none = refl
bare_one b (c ∷ cs) none = rw (none c cs refl) refl

bare_step : (word : List ℕ) (at : ℕ) → at < length word → continues word at ≡ false →
    bare (drop at word) ≡ get_or word at 0 ∷ bare (drop (at + 1) word)
bare_step word at lt other = ap bare (drop_more word at 0 lt) ∙ bare_one (get_or word at 0) (drop (at + 1) word) none
  where
    none : (c : ℕ) (cs : List ℕ) → drop (at + 1) word ≡ c ∷ cs →
        (get_or word at 0 == backslash && c == newline_char) ≡ false
    none c cs is =
        let long : length (drop (at + 1) word) ≡ suc (length cs) = ap length is in
        let more : at + 1 < length word = omega (arith, long, length-drop (at + 1) word) in
        let first : get_or word (at + 1) 0 ∷ drop (at + 1 + 1) word ≡ c ∷ cs = sym (drop_more word (at + 1) 0 more)
        ∙ is in
        let same : get_or word (at + 1) 0 ≡ c = cc in
        ap (λ (x : ℕ). get_or word at 0 == backslash && x == newline_char) (sym same) ∙ sym (continues_at word at more)
        ∙ other

-- a word is quoted from such a byte on if it quotes, or else by the rest; at the end it is not
pub bare_quotes : (word : List ℕ) (at : ℕ) → at < length word → continues word at ≡ false →
    (get_or word at 0 == backslash || get_or word at 0 == apostrophe || get_or word at 0 == quotation_mark) ≡ true
    → list_any (λ b. b == backslash || b == apostrophe || b == quotation_mark) (bare (drop at word)) ≡ true
bare_quotes word at lt other is = rw (bare_step word at lt other, is) refl

pub bare_other : (word : List ℕ) (at : ℕ) → at < length word → continues word at ≡ false →
    (get_or word at 0 == backslash || get_or word at 0 == apostrophe || get_or word at 0 == quotation_mark) ≡ false
    → list_any (λ b. b == backslash || b == apostrophe || b == quotation_mark) (bare (drop at word))
    ≡ list_any (λ b. b == backslash || b == apostrophe || b == quotation_mark) (bare (drop (at + 1) word))
bare_other word at lt other is = rw (bare_step word at lt other, is) refl

pub bare_end : (word : List ℕ) (at : ℕ) → length word ≤ at →
    list_any (λ b. b == backslash || b == apostrophe || b == quotation_mark) (bare (drop at word)) ≡ false
unfolding bare
bare_end word at le = rw (drop_all at word le) refl
