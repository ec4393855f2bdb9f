-- Where something is read there is a byte, and how far the stretches of a text reach.
use Rattle.std.proofs.Common.{◌≡◌, ℕ, zero, suc, ◌+◌, ◌-◌, ◌≤◌, ◌<◌, ◌==◌, Bool, true, false, not, cond, ◌&&◌, ◌||◌, List, [], ◌∷◌, length, drop, Option, Some, None, slice_get, get_or, refl, sym, ap, ◌∙◌, arith, ⊎_elim}
use Rattle.std.proofs.lemmas.Bool.{cond_both, both_ways, cases_lt, false_from_ne_true}
use Rattle.std.proofs.lemmas.Bool.Decides.{nat_tests}
use Rattle.std.proofs.lemmas.List.{length-drop, drop-drop}
use Rattle.std.proofs.lemmas.Option.{slice_get_within, slice_get-get_or}
use Rattle.shgrammar.specs.Characters.{apostrophe, backslash, newline_char}
use Rattle.shgrammar.specs.Classes.{is_blank, is_digit, is_name, is_letter, is_special}
use Rattle.shgrammar.specs.Standing.{is_byte, is_none, raw_stands, raw_in, at_end, raw_past, next_of, passes, count_front, next_newline}
use Rattle.shgrammar.specs.Bytes.{stands, ends_word, stands_in, past, past_below, past_blanks, count_joined, past_continuations, byte_at, past_byte}
use Rattle.shgrammar.specs.declared.mode.Escaping.{Escaping}
use Rattle.shgrammar.specs.declared.mode.Escaping.TheVariants as escapings
use Rattle.shgrammar.specs.Pieces.{closes_by, next_escaped, past_parameter, past_taken}
use Rattle.shgrammar.specs.Tokens.{past_digits, past_reserved}
use Rattle.shgrammar.proofs.Stretches.{get_drop, place_low, stands_in_low}

-- ---- continuations

-- no more bytes are continuations than there are
joined_short : (xs : List ℕ) → count_joined xs ≤ length xs
unfolding count_joined
joined_short [] = omega arith
joined_short (b ∷ []) = omega arith
joined_short (b ∷ c ∷ bs) =
    cond_both (b == backslash && c == newline_char) _ _ (λ n. n ≤ length (b ∷ c ∷ bs))
    (λ e. omega (arith, joined_short bs))
    (λ e. omega arith)

-- and no more follow them
joined_rest : (xs : List ℕ) → count_joined (drop (count_joined xs) xs) ≡ 0
unfolding count_joined
joined_rest [] = refl
joined_rest (b ∷ []) = refl
joined_rest (b ∷ c ∷ bs) =
    let next : 2 + count_joined bs ≡ suc (suc (count_joined bs)) = omega arith in
    cond_both (b == backslash && c == newline_char) _ _ (λ n. count_joined (drop n (b ∷ c ∷ bs)) ≡ 0)
    (λ e. rw next (joined_rest bs))
    (λ e. rw e refl)

-- past continuations is not past the end of the text
pub place_high : (T : List ℕ) (p : ℕ) → p ≤ length T → past_continuations T p ≤ length T
unfolding past_continuations
place_high T p within = omega (arith, joined_short (drop p T), length-drop p T)

-- and no continuation is there
pub place_same : (T : List ℕ) (p : ℕ) → past_continuations T (past_continuations T p) ≡ past_continuations T p
unfolding past_continuations
place_same T p =
    let none : count_joined (drop (p + count_joined (drop p T)) T) ≡ 0 =
    ap count_joined (sym (drop-drop (count_joined (drop p T)) p T)) ∙ joined_rest (drop p T) in
    omega (arith, none)

-- the same of a byte of a class
pub stands_in_past : (test : ℕ → Bool) (T : List ℕ) (p : ℕ) →
    stands_in test T (past_continuations T p) ≡ stands_in test T p
unfolding stands_in
stands_in_past test T p = ap (λ q. passes test (slice_get T q)) (place_same T p)

-- ---- one byte

-- where a byte is got there is one
byte_low : (T : List ℕ) (p c : ℕ) (b : Option ℕ) → slice_get T p ≡ b → is_byte b c ≡ true → p < length T
byte_low T p c None is e = absurd cc
byte_low T p c (Some b) is e = slice_get_within T p b is

-- where a byte is read there is one
pub stands_low : (T : List ℕ) (p c : ℕ) → stands T p c ≡ true → past_continuations T p < length T
unfolding stands
stands_low T p c e = byte_low T (past_continuations T p) c (byte_at T p) refl e

-- what is not the end is a byte
pub some_low : (T : List ℕ) (p : ℕ) (b : Option ℕ) → slice_get T p ≡ b → is_none b ≡ false → p < length T
some_low T p None is e = absurd cc
some_low T p (Some b) is e = slice_get_within T p b is

-- where the text does not end there is a byte
pub not_end_low : (T : List ℕ) (p : ℕ) → at_end T p ≡ false → p < length T
unfolding at_end
not_end_low T p e = some_low T p (slice_get T p) refl e

-- where no byte is got the text has ended
none_high : (T : List ℕ) (p : ℕ) → slice_get T p ≡ None → length T ≤ p
none_high T p is = ⊎_elim (λ lt. let some : None ≡ Some (get_or T p 0) = sym is ∙ slice_get-get_or T p 0 lt in
    absurd cc) (λ ge. ge) (cases_lt p (length T))

-- where the text ends there is none
pub end_high : (T : List ℕ) (p : ℕ) → at_end T p ≡ true → length T ≤ p
unfolding at_end
end_high T p e = high (slice_get T p) refl e
  where
    high : (x : Option ℕ) → slice_get T p ≡ x → is_none x ≡ true → length T ≤ p
    high None is end = none_high T p is
    high (Some b) is end = absurd cc

-- the place after a byte is to the right of it
pub after_low : (T : List ℕ) (p : ℕ) → p < past_byte T p
unfolding past_byte
after_low T p = omega (arith, place_low T p)

-- where a byte is read, the place after it is within the text: by the place of that byte, and by the byte
pub after_high : (T : List ℕ) (p : ℕ) → past_continuations T p < length T → past_byte T p ≤ length T
unfolding past_byte
after_high T p lt = omega arith

pub after_some : (T : List ℕ) (p b : ℕ) → byte_at T p ≡ Some b → past_byte T p ≤ length T
after_some T p b is = after_high T p (slice_get_within T (past_continuations T p) b is)

-- the byte that was read is the last one
pub after_back : (T : List ℕ) (p : ℕ) → past_byte T p - 1 ≡ past_continuations T p
unfolding past_byte
after_back T p = omega arith

-- ---- stretches of the text as it stands

-- no more bytes pass than there are
count_short : (test : ℕ → Bool) (xs : List ℕ) → count_front test xs ≤ length xs
unfolding count_front
count_short test [] = omega arith
count_short test (b ∷ bs) = cond_both (test b) _ _ (λ n. n ≤ length (b ∷ bs)) (λ e. omega (arith, count_short test bs))
    (λ e. omega arith)

-- the first byte that is not counted fails the test
count_stops : (test : ℕ → Bool) (xs : List ℕ) → passes test (slice_get xs (count_front test xs)) ≡ false
unfolding count_front
count_stops test [] = refl
count_stops test (b ∷ bs) =
    let next : 1 + count_front test bs ≡ suc (count_front test bs) = omega arith in
    cond_both (test b) _ _ (λ n. passes test (slice_get (b ∷ bs) n) ≡ false) (λ e. rw next (count_stops test bs))
    (λ e. e)

-- each byte that is counted passes
counted : (test : ℕ → Bool) (b : ℕ) (bs : List ℕ) (n : ℕ) (x : Bool) → test b ≡ x →
    n < cond x (1 + count_front test bs) 0
    → ((m : ℕ) → m < count_front test bs → passes test (slice_get bs m) ≡ true) →
    passes test (slice_get (b ∷ bs) n) ≡ true
counted test b bs zero true e lt rest = e
counted test b bs (suc n) true e lt rest = rest n (omega arith)
counted test b bs n false e lt rest = absurd (omega arith)

count_all : (test : ℕ → Bool) (xs : List ℕ) (n : ℕ) → n < count_front test xs → passes test (slice_get xs n) ≡ true
unfolding count_front
count_all test [] n lt = absurd (omega arith)
count_all test (b ∷ bs) n lt = counted test b bs n (test b) refl lt (λ m m_lt. count_all test bs m m_lt)

-- a stretch does not end before it begins
pub raw_past_low : (test : ℕ → Bool) (T : List ℕ) (p : ℕ) → p ≤ raw_past test T p
unfolding raw_past
raw_past_low test T p = omega arith

-- nor past the end of the text
pub raw_past_high : (test : ℕ → Bool) (T : List ℕ) (p : ℕ) → p ≤ length T → raw_past test T p ≤ length T
unfolding raw_past
raw_past_high test T p within = omega (arith, count_short test (drop p T), length-drop p T)

-- after a stretch there is no byte of its kind
pub raw_past_stops : (test : ℕ → Bool) (T : List ℕ) (p : ℕ) → raw_in test T (raw_past test T p) ≡ false
unfolding raw_past raw_in
raw_past_stops test T p = ap (passes test) (sym (get_drop p T (count_front test (drop p T))))
    ∙ count_stops test (drop p T)

-- each byte of a stretch is of its kind
pub raw_past_all : (test : ℕ → Bool) (T : List ℕ) (p k : ℕ) → p ≤ k → k < raw_past test T p → raw_in test T k ≡ true
unfolding raw_past raw_in
raw_past_all test T p k low high =
    let there : p + (k - p) ≡ k = omega (arith, low) in
    ap (λ i. passes test (slice_get T i)) (sym there) ∙ ap (passes test) (sym (get_drop p T (k - p)))
    ∙ count_all test (drop p T) (k - p) (omega (arith, low, high))

-- the next place of a byte
pub next_of_low : (c : ℕ) (T : List ℕ) (p : ℕ) → p ≤ next_of c T p
next_of_low c T p = raw_past_low (λ b. not (b == c)) T p

-- it is not past the end of the text
pub next_of_high : (c : ℕ) (T : List ℕ) (p : ℕ) → p ≤ length T → next_of c T p ≤ length T
next_of_high c T p within = raw_past_high (λ b. not (b == c)) T p within

-- the end of a line
pub next_newline_low : (T : List ℕ) (p : ℕ) → p ≤ next_newline T p
next_newline_low T p = next_of_low newline_char T p

-- it is not past the end of the text
pub next_newline_high : (T : List ℕ) (p : ℕ) → p ≤ length T → next_newline T p ≤ length T
next_newline_high T p within = next_of_high newline_char T p within

-- the next backquote or backslash
pub next_escaped_low : (how : Escaping) (T : List ℕ) (p : ℕ) → p ≤ next_escaped how T p
next_escaped_low how T p = raw_past_low (λ c. not (c == closes_by how || c == backslash)) T p

-- a byte is taken, or a backslash and the one after it
pub taken_low : (T : List ℕ) (p : ℕ) → p < past_taken T p
unfolding past_taken
taken_low T p = cond_both (raw_stands T p backslash) _ _ (λ n. p < p + n) (λ e. omega arith) (λ e. omega arith)

-- ---- stretches of what is read

-- by how many bytes may be read
below_low : (n : ℕ) (test : ℕ → Bool) (T : List ℕ) (p : ℕ) → p ≤ past_below n test T p
unfolding past_below
below_low zero test T p = omega arith
below_low (suc n) test T p =
    cond_both (stands_in test T p) _ _ (λ q. p ≤ q)
    (λ e. omega (arith, below_low n test T (past_byte T p), after_low T p)) (λ e. omega arith)

-- a stretch does not end before it begins
pub past_low : (test : ℕ → Bool) (T : List ℕ) (p : ℕ) → p ≤ past test T p
unfolding past
past_low test T p = below_low (length T - p) test T p

-- by how many bytes may be read
below_high : (n : ℕ) (test : ℕ → Bool) (T : List ℕ) (p : ℕ) → p ≤ length T → past_below n test T p ≤ length T
unfolding past_below
below_high zero test T p within = within
below_high (suc n) test T p within =
    cond_both (stands_in test T p) _ _ (λ q. q ≤ length T)
    (λ e. below_high n test T (past_byte T p) (after_high T p (stands_in_low test T p e))) (λ e. within)

-- nor past the end of the text
pub past_high : (test : ℕ → Bool) (T : List ℕ) (p : ℕ) → p ≤ length T → past test T p ≤ length T
unfolding past
past_high test T p within = below_high (length T - p) test T p within

-- by how many bytes may be read
below_stops : (n : ℕ) (test : ℕ → Bool) (T : List ℕ) (p : ℕ) → length T - p ≤ n →
    stands_in test T (past_below n test T p) ≡ false
unfolding past_below
below_stops zero test T p low =
    false_from_ne_true (stands_in test T p)
    (λ e. let lt = stands_in_low test T p e in let at = place_low T p in absurd (omega arith))
below_stops (suc n) test T p low =
    cond_both (stands_in test T p) _ _ (λ q. stands_in test T q ≡ false)
    (λ e. below_stops n test T (past_byte T p) (omega (arith, after_low T p))) (λ e. e)

-- after a stretch no byte of its kind is read
pub past_stops : (test : ℕ → Bool) (T : List ℕ) (p : ℕ) → stands_in test T (past test T p) ≡ false
unfolding past
past_stops test T p = below_stops (length T - p) test T p (omega arith)

-- where a token begins
pub blanks_low : (T : List ℕ) (p : ℕ) → p ≤ past_blanks T p
unfolding past_blanks
blanks_low T p = omega (arith, past_low is_blank T p, place_low T (past is_blank T p))

-- it is not past the end of the text
pub blanks_high : (T : List ℕ) (p : ℕ) → p ≤ length T → past_blanks T p ≤ length T
unfolding past_blanks
blanks_high T p within = place_high T (past is_blank T p) (past_high is_blank T p within)

-- where blanks end, no blank stands
pub blanks_stop : (T : List ℕ) (p : ℕ) → stands_in is_blank T (past_blanks T p) ≡ false
unfolding past_blanks
blanks_stop T p = stands_in_past is_blank T (past is_blank T p) ∙ past_stops is_blank T p

-- after a reserved word
pub reserved_low : (T : List ℕ) (p : ℕ) → p ≤ past_reserved T p
unfolding past_reserved
reserved_low T p = omega (arith, after_low T p, past_low is_name T (past_byte T p))

-- after digits
pub digits_low : (T : List ℕ) (p : ℕ) → p ≤ past_digits T p
unfolding past_digits
digits_low T p = past_low is_digit T p

-- after a parameter
pub parameter_low : (T : List ℕ) (p : ℕ) → p ≤ past_parameter T p
unfolding past_parameter
parameter_low T p =
    let P : ℕ → Type 0 = λ q. p ≤ q in
    cond_both (stands_in is_letter T p) _ _ P (λ e. past_low is_name T p)
    (λ e. cond_both (stands_in is_digit T p) _ _ P (λ f. past_low is_digit T p)
    (λ f. cond_both (stands_in is_special T p) _ _ P (λ g. omega (arith, after_low T p)) (λ g. omega arith)))

-- it is not past the end of the text
pub parameter_high : (T : List ℕ) (p : ℕ) → p ≤ length T → past_parameter T p ≤ length T
unfolding past_parameter
parameter_high T p within =
    let P : ℕ → Type 0 = λ q. q ≤ length T in
    cond_both (stands_in is_letter T p) _ _ P (λ e. past_high is_name T p within)
    (λ e. cond_both (stands_in is_digit T p) _ _ P (λ f. past_high is_digit T p within)
    (λ f. cond_both (stands_in is_special T p) _ _ P (λ g. after_high T p (stands_in_low is_special T p g))
    (λ g. within)))

-- two words do not end where only one does
pub word_longer : (T : List ℕ) (p q : ℕ) → p ≤ q → ends_word T p ≡ false → ends_word T q ≡ true → p < q
word_longer T p q low here there =
    ⊎_elim (λ lt. lt) (λ ge. let same : q ≡ p = omega (arith, ge) in
    absurd (both_ways (ends_word T p) here (rw same at there))) (cases_lt p q)

-- ---- the end

-- where no byte is got the text has ended
no_byte : (T : List ℕ) (p : ℕ) → is_none (slice_get T p) ≡ true → length T ≤ p
no_byte T p e = ⊎_elim (λ lt. absurd (both_ways _ refl (rw (slice_get-get_or T p 0 lt) at e))) (λ ge. ge)
    (cases_lt p (length T))

-- where the text from `at` on ends
pub end_is : (B : List ℕ) (at p : ℕ) → at ≤ length B → p ≤ length (drop at B) → at_end (drop at B) p ≡ true →
    at + p ≡ length B
unfolding at_end
end_is B at p within inside e = omega (arith, within, inside, no_byte (drop at B) p e, length-drop at B)

-- ---- text in quotes

-- what ends a search for a single quote is no backslash
quote_other : (b : Option ℕ) → passes (λ c. not (c == apostrophe)) b ≡ false → is_byte b backslash ≡ false
quote_other None e = refl
quote_other (Some b) e = grind (arith, nat_tests)

-- a single quote, or the end, is no backslash
pub quote_clear : (T : List ℕ) (p : ℕ) → raw_stands T (next_of apostrophe T p) backslash ≡ false
unfolding raw_in raw_stands
quote_clear T p = quote_other (slice_get T (next_of apostrophe T p)) (raw_past_stops (λ c. not (c == apostrophe)) T p)

-- ---- text in which a backslash takes one byte

-- by how the text is quoted, and by that byte
backslash_by : (how : Escaping) (b : Option ℕ) → is_none b ≡ false → is_byte b (closes_by how) ≡ false →
    passes (λ c. not (c == closes_by how || c == backslash)) b ≡ false → is_byte b backslash ≡ true
backslash_by how None some other e = absurd cc
backslash_by escapings.Backquotes (Some b) some other e = grind (arith, nat_tests)
backslash_by escapings.DollarSingle (Some b) some other e = grind (arith, nat_tests)

-- what stops a search in it and does not close it is a backslash
pub backslash_next : (how : Escaping) (T : List ℕ) (p : ℕ) → at_end T (next_escaped how T p) ≡ false →
    raw_stands T (next_escaped how T p) (closes_by how) ≡ false → raw_stands T (next_escaped how T p) backslash ≡ true
unfolding raw_stands raw_in at_end
backslash_next how T p some other =
    backslash_by how (slice_get T (next_escaped how T p)) some other
    (raw_past_stops (λ c. not (c == closes_by how || c == backslash)) T p)

-- by how the text is quoted, and by that byte
closer_by : (how : Escaping) (b : Option ℕ) → is_byte b (closes_by how) ≡ true → is_byte b backslash ≡ false
closer_by how None e = absurd cc
closer_by escapings.Backquotes (Some b) e = grind (arith, nat_tests)
closer_by escapings.DollarSingle (Some b) e = grind (arith, nat_tests)

-- what closes it is no backslash
pub closer_is : (how : Escaping) (T : List ℕ) (p : ℕ) → raw_stands T p (closes_by how) ≡ true →
    raw_stands T p backslash ≡ false
unfolding raw_stands
closer_is how T p e = closer_by how (slice_get T p) e
