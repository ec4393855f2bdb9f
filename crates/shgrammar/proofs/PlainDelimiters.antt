-- Delimiters whose text stands in the word: of ordinary bytes alone, of such in
-- quotes, or of such after a backslash.
use Rattle.std.proofs.Common.{◌≡◌, ℕ, ◌+◌, ◌-◌, ◌==◌, ◌≤◌, Bool, true, false, ◌||◌, not, List, [], ◌∷◌, ◌++◌, length, take, drop, Option, Some, None, get_or, refl, sym, ap, ◌∙◌, arith}
use Rattle.std.specs.Prelude.{◌&&◌, nat_lt}
use Rattle.std.specs.List.{list_all}
use Rattle.std.proofs.lemmas.Bool.{and_left, and_parts, and_right, eqb-true, lt-ltb}
use Rattle.std.proofs.lemmas.Bool.Decides.{nat_tests}
use Rattle.std.proofs.lemmas.List.{append-nil, drop_all, drop_more, drop-drop, length-drop, length-take-le, take-append-drop}
use Rattle.shast.specs.Shape.{bare}
use Rattle.shgrammar.specs.Characters.{apostrophe, backslash, dollar_sign, grave_accent, newline_char, quotation_mark}
use Rattle.shgrammar.specs.declared.mode.Mode.TheVariants.{Plain}
use Rattle.shgrammar.specs.Plain.{is_plain, is_special_in}
use Rattle.shgrammar.specs.Bytes.{ends}
use Rattle.shgrammar.specs.Classes.{is_blank, is_operator}
use Rattle.shgrammar.specs.HereDocuments.{Quoting, not_quoted, in_single, in_double, after_quote, delimiter_of, is_live, is_quote, is_quoted, left_before, unquoted}
use Rattle.shgrammar.specs.Unquoting.{a_delimiter, is_escaped, is_wrapped, left_of, unwrapped}
use Rattle.shgrammar.proofs.PlainBytes.{plain_stays}
use Rattle.shgrammar.proofs.Unquoted.{unquoted_byte, unquoted_escape, bare_one}

-- ---- an ordinary byte

-- where none of several holds each fails, and where all hold each does
none_of_four : (a b c d : Bool) → not (a || b || c || d) ≡ true → (a ≡ false) × (b ≡ false) × (c ≡ false)
    × (not d ≡ true)
none_of_four true b c d e = absurd cc
none_of_four false true c d e = absurd cc
none_of_four false false true d e = absurd cc
none_of_four false false false d e = (refl, refl, refl, e)

none_of_three : (a b c : Bool) → not (a || b || c) ≡ true → (a ≡ false) × (b ≡ false) × (c ≡ false)
none_of_three true b c e = absurd cc
none_of_three false true c e = absurd cc
none_of_three false false true e = absurd cc
none_of_three false false false e = (refl, refl, refl)

all_three : (a b c : Bool) → (a && b && c) ≡ true → (a ≡ true) × (b ≡ true) × (c ≡ true)
all_three false b c e = absurd cc
all_three true false c e = absurd cc
all_three true true c e = (refl, refl, e)

-- it is not special, and quotes nothing
module _ (b : ℕ) (plain : is_plain Plain b ≡ true) where
  -- it is no backslash, no backquote and no `$`, and not special outside quotes
  not_special : ((b == backslash) ≡ false) × ((b == grave_accent) ≡ false) × ((b == dollar_sign) ≡ false)
      × (not (is_special_in Plain b) ≡ true)
  not_special = none_of_four (b == backslash) (b == grave_accent) (b == dollar_sign) (is_special_in Plain b) plain

  -- it is none of the bytes that quote or expand
  no_backslash : (b == backslash) ≡ false
  no_backslash = not_special.0

  no_backquote : (b == grave_accent) ≡ false
  no_backquote = not_special.1

  no_dollar : (b == dollar_sign) ≡ false
  no_dollar = not_special.2

  no_single : (b == apostrophe) ≡ false
  no_single = (none_of_three (ends (Some b)) (b == apostrophe) (b == quotation_mark) not_special.3).1

  no_double : (b == quotation_mark) ≡ false
  no_double = (none_of_three (ends (Some b)) (b == apostrophe) (b == quotation_mark) not_special.3).2

  -- it is no quote, whatever it stands in
  no_quote : (q : Quoting) → is_quote q b ≡ false
  no_quote not_quoted = rw (no_single, no_double) refl
  no_quote in_single = no_single
  no_quote in_double = no_double

-- another byte than c is no special c, whatever it stands in
not_live : (q : Quoting) (c b : ℕ) → (b == c) ≡ false → is_live q c b ≡ false
not_live not_quoted c b e = e
not_live in_single c b e = refl
not_live in_double c b e = e

-- ---- ordinary bytes stay

-- what is left, after no byte and after one more
nothing : (left : Option (List ℕ)) → left ≡ left_of [] left
nothing None = refl
nothing (Some bs) = refl

pub left_more : (b : ℕ) (xs : List ℕ) (left : Option (List ℕ)) → left_before b (left_of xs left) ≡ left_of (b ∷ xs) left
left_more b xs None = refl
left_more b xs (Some bs) = refl

-- of an ordinary byte, and of a row of them, quote removal leaves all
plain_step : (q : Quoting) (second : Bool) (b : ℕ) (bs : List ℕ) → is_plain Plain b ≡ true →
    unquoted q second (b ∷ bs) ≡ left_before b (unquoted q second bs)
plain_step q second b bs plain =
    unquoted_byte q second b bs (and_right _ _ (not_live q backslash b (no_backslash b plain)))
    ∙ rw (
      no_quote b plain q,
      not_live q grave_accent b (no_backquote b plain),
      not_live q dollar_sign b (no_dollar b plain),
    ) refl

plain_on : (q : Quoting) (second : Bool) (xs rest : List ℕ) → list_all (is_plain Plain) xs ≡ true →
    unquoted q second (xs ++ rest) ≡ left_of xs (unquoted q second rest)
plain_on q second [] rest all = nothing (unquoted q second rest)
plain_on q second (b ∷ xs) rest all =
    let both = and_parts _ _ all in
    plain_step q second b (xs ++ rest) both.0 ∙ ap (left_before b) (plain_on q second xs rest both.1)
    ∙ left_more b xs (unquoted q second rest)

-- ---- of them alone

-- quote removal leaves them all, and no part of them is quoted
alone_left : (xs : List ℕ) → list_all (is_plain Plain) xs ≡ true → unquoted not_quoted false xs ≡ Some xs
unfolding unquoted
alone_left xs all = ap (unquoted not_quoted false) (sym (append-nil xs)) ∙ plain_on not_quoted false xs [] all
    ∙ ap (λ (l : List ℕ). Some l) (append-nil xs)

alone_bare : (xs : List ℕ) → list_all (is_plain Plain) xs ≡ true → is_quoted xs ≡ false
unfolding bare
alone_bare [] all = refl
alone_bare (b ∷ xs) all =
    let both = and_parts _ _ all in
    let is : bare (b ∷ xs) ≡ b ∷ bare xs = bare_one b xs (λ c cs e. and_left _ _ (no_backslash b both.0)) in
    rw (is, no_backslash b both.0, no_single b both.0, no_double b both.0) (alone_bare xs both.1)

-- ---- of them in quotes

-- by which of the two quotes it is
quote_is : (b : ℕ) (t : Bool) → (b == apostrophe) ≡ t → (t || b == quotation_mark) ≡ true → (b == backslash) ≡ false
quote_is b true is e = grind (arith, nat_tests, is)
quote_is b false is e = grind (arith, nat_tests, e)

-- a quote is no backslash
quote_quotes : (b : ℕ) → is_quote not_quoted b ≡ true → (b == backslash) ≡ false
quote_quotes b e = quote_is b (b == apostrophe) refl e

-- of the quote that ends them nothing is left
last_by : (b : ℕ) (t : Bool) → (b == apostrophe) ≡ t → (t || b == quotation_mark) ≡ true →
    unquoted (after_quote not_quoted b) false (b ∷ []) ≡ Some []
unfolding unquoted
last_by b true is e = rw (is, is) refl
last_by b false is e = rw (is, e) refl

last_quote : (b : ℕ) → is_quote not_quoted b ≡ true → unquoted (after_quote not_quoted b) false (b ∷ []) ≡ Some []
last_quote b e = last_by b (b == apostrophe) refl e

-- of ordinary bytes between two of these quotes they are left, and a word that begins with one is quoted
quoted_left : (b : ℕ) (xs : List ℕ) → is_quote not_quoted b ≡ true → list_all (is_plain Plain) xs ≡ true →
    unquoted not_quoted false (b ∷ xs ++ b ∷ []) ≡ Some xs
quoted_left b xs is all =
    unquoted_byte not_quoted false b (xs ++ b ∷ []) (and_right _ _ (quote_quotes b is))
    ∙ rw is refl
    ∙ plain_on (after_quote not_quoted b) false xs (b ∷ []) all
    ∙ ap (left_of xs) (last_quote b is)
    ∙ ap (λ (l : List ℕ). Some l) (append-nil xs)

quoted_bare : (b : ℕ) (bs : List ℕ) → is_quote not_quoted b ≡ true → is_quoted (b ∷ bs) ≡ true
quoted_bare b bs is =
    let first : bare (b ∷ bs) ≡ b ∷ bare bs = bare_one b bs (λ c cs e. and_left _ _ (quote_quotes b is)) in
    rw (first, quote_quotes b is, is) refl

-- ---- of them after a backslash

-- an ordinary byte is no newline
no_newline : (c : ℕ) → is_plain Plain c ≡ true → (c == newline_char) ≡ false
no_newline c plain = (none_of_three (is_blank c) (c == newline_char) (is_operator c) (ap not (plain_stays c plain))).1

-- of ordinary bytes after a backslash they are left, and the word is quoted
escaped_left : (c : ℕ) (cs : List ℕ) → list_all (is_plain Plain) (c ∷ cs) ≡ true →
    unquoted not_quoted false (backslash ∷ c ∷ cs) ≡ Some (c ∷ cs)
escaped_left c cs all =
    let both = and_parts _ _ all in
    unquoted_escape not_quoted false backslash c cs refl ∙ rw (no_newline c both.0, alone_left cs both.1) refl

next_is : (c d : ℕ) (cs ds : List ℕ) → c ∷ cs ≡ d ∷ ds → (c == newline_char) ≡ false → (d == newline_char) ≡ false
next_is c d cs ds e other = let same : c ≡ d = cc in ap (λ (x : ℕ). x == newline_char) (sym same) ∙ other

escaped_bare : (c : ℕ) (cs : List ℕ) → list_all (is_plain Plain) (c ∷ cs) ≡ true → is_quoted (backslash ∷ c ∷ cs) ≡ true
escaped_bare c cs all =
    let both = and_parts _ _ all in
    let first : bare (backslash ∷ c ∷ cs) ≡ backslash ∷ bare (c ∷ cs) =
    bare_one backslash (c ∷ cs) (λ d ds e. next_is c d cs ds e (no_newline c both.0)) in
    rw first refl

-- ---- the word

-- what the same quote at both ends means: two bytes at least, a quote first, and the same byte last
no_less : (n : ℕ) → not (nat_lt n 2) ≡ true → 2 ≤ n
no_less n e = grind (arith, nat_tests, e)

wrapped_parts : (word : List ℕ) → is_wrapped word ≡ true → (not (nat_lt (length word) 2) ≡ true)
    × (is_quote not_quoted (get_or word 0 0) ≡ true) × ((get_or word (length word - 1) 0 == get_or word 0 0) ≡ true)
wrapped_parts word is = all_three (not (nat_lt (length word) 2)) (is_quote not_quoted (get_or word 0 0))
    (get_or word (length word - 1) 0 == get_or word 0 0) is

-- quotes, and what is between them
wrapped_is : (word : List ℕ) → is_wrapped word ≡ true →
    word ≡ get_or word 0 0 ∷ take (length word - 1 - 1) (drop 1 word) ++ get_or word 0 0 ∷ []
wrapped_is word is =
    let long = no_less (length word) (wrapped_parts word is).0 in
    let same = (wrapped_parts word is).2 in
    let there : 1 + (length word - 1 - 1) ≡ length word - 1 = omega (arith, long) in
    let whole : length word - 1 + 1 ≡ length word = omega (arith, long) in
    let last : drop (length word - 1 - 1) (drop 1 word) ≡ get_or word 0 0 ∷ [] =
    drop-drop (length word - 1 - 1) 1 word ∙ ap (λ n. drop n word) there
    ∙ drop_more word (length word - 1) 0 (omega (arith, long))
    ∙ ap (λ n. get_or word (length word - 1) 0 ∷ drop n word) whole
    ∙ ap (λ l. get_or word (length word - 1) 0 ∷ l) (drop_all (length word) word (omega arith))
    ∙ ap (λ (b : ℕ). b ∷ []) (eqb-true _ _ same) in
    drop_more word 0 0 (omega (arith, long))
    ∙ ap (λ l. get_or word 0 0 ∷ l)
    (sym (take-append-drop (length word - 1 - 1) (drop 1 word))
    ∙ ap (λ l. take (length word - 1 - 1) (drop 1 word) ++ l) last)

-- what is between them is shorter than the word
shorter : (word : List ℕ) → is_wrapped word ≡ true →
    nat_lt (length (take (length word - 1 - 1) (drop 1 word))) (length word) ≡ true
shorter word is =
    let long = no_less (length word) (wrapped_parts word is).0 in
    let rest = length-drop 1 word in
    let inner = length-take-le (length word - 1 - 1) (drop 1 word) (omega (arith, rest)) in
    lt-ltb _ _ (omega (arith, inner, long))

-- the delimiter is this part of the word, and literal where that is shorter
abbrev is_its_part : List ℕ → List ℕ → Type 0
is_its_part word part = delimiter_of word ≡ Some (a_delimiter part (nat_lt (length part) (length word)))

-- so it is between quotes, after a backslash, and where the word has ordinary bytes alone
wrapped_part : (word : List ℕ) → is_wrapped word ≡ true →
    list_all (is_plain Plain) (take (length word - 1 - 1) (drop 1 word)) ≡ true →
    is_its_part word (take (length word - 1 - 1) (drop 1 word))
wrapped_part word is all =
    let inner = take (length word - 1 - 1) (drop 1 word) in
    let quote = (wrapped_parts word is).1 in
    let left : unquoted not_quoted false word ≡ Some inner = ap (unquoted not_quoted false) (wrapped_is word is)
    ∙ quoted_left (get_or word 0 0) inner quote all in
    let literal : is_quoted word ≡ true = ap is_quoted (wrapped_is word is)
    ∙ quoted_bare (get_or word 0 0) (inner ++ get_or word 0 0 ∷ []) quote in
    rw (left, literal, shorter word is) refl

escaped_part : (word : List ℕ) → is_escaped word ≡ true → list_all (is_plain Plain) (drop 1 word) ≡ true →
    is_its_part word (drop 1 word)
escaped_part [] is all = absurd cc
escaped_part (b ∷ []) is all = absurd cc
escaped_part (b ∷ c ∷ cs) is all =
    let slash : b ≡ backslash = eqb-true b backslash (and_parts _ (b == backslash) is).1 in
    let less : nat_lt (length (c ∷ cs)) (length (backslash ∷ c ∷ cs)) ≡ true = lt-ltb _ _ (omega arith) in
    rw (slash, escaped_left c cs all, escaped_bare c cs all, less) refl

alone_part : (word : List ℕ) → list_all (is_plain Plain) word ≡ true → is_its_part word word
alone_part word all =
    let same : nat_lt (length word) (length word) ≡ false = grind (arith, nat_tests) in
    rw (alone_left word all, alone_bare word all, same) refl

-- its delimiter is that part of it
part_by : (word : List ℕ) (t u : Bool) → is_wrapped word ≡ t → is_escaped word ≡ u →
    list_all (is_plain Plain) (unwrapped word) ≡ true → is_its_part word (unwrapped word)
part_by word true u is so all = rw is (wrapped_part word is (rw is at all))
part_by word false true is so all = rw (is, so) (escaped_part word so (rw (is, so) at all))
part_by word false false is so all = rw (is, so) (alone_part word (rw (is, so) at all))

-- so it is of each word that has only ordinary bytes without its quotes or its backslash
pub plain_whole : (word part : List ℕ) → part ≡ unwrapped word → list_all (is_plain Plain) part ≡ true →
    delimiter_of word ≡ Some (a_delimiter part (nat_lt (length part) (length word)))
plain_whole word part is all =
    part_by word (is_wrapped word) (is_escaped word) refl refl (ap (list_all (is_plain Plain)) (sym is) ∙ all)
    ∙ ap (λ l. Some (a_delimiter l (nat_lt (length l) (length word)))) (sym is)
