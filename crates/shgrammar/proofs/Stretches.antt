-- Continuations, stretches of bytes of one kind, words spelled out, and texts from a place on.
use Rattle.std.proofs.Common.{◌≡◌, ℕ, zero, suc, ◌+◌, ◌-◌, ◌<◌, ◌≤◌, ◌==◌, Bool, true, false, ◌&&◌, cond, Option, Some, None, slice_get, get_or, List, [], ◌∷◌, length, drop, refl, ap, ◌∙◌, arith, zero-add, add-one, drop-cons, take}
use Rattle.std.proofs.Math.Seq.{drop-length}
use Rattle.std.proofs.lemmas.Option.{slice_get_within, slice_get_past, get_or_from_slice_get}
use Rattle.std.proofs.lemmas.Bool.{eqb-true}
use Rattle.std.proofs.lemmas.List.{drop_more}
use Rattle.shgrammar.specs.Characters.{backslash, newline_char}
use Rattle.shgrammar.specs.Standing.{raw_stands, raw_in, passes, is_byte, count_front, raw_past, before_blanks, continues}
use Rattle.shgrammar.specs.Bytes.{stands, stands_in, past, past_below, ends_word, count_joined, past_continuations, byte_at, past_byte}
use Rattle.shgrammar.specs.Classes.{is_blank}
use Rattle.shgrammar.specs.Form.{raw}
use Rattle.shgrammar.specs.Tokens.{is_word_at}

-- a byte that is c by its test is c
pub byte_is : (x : Option ℕ) (c : ℕ) → is_byte x c ≡ true → x ≡ Some c
byte_is None c e = absurd cc
byte_is (Some b) c e = ap (λ (n : ℕ). Some n) (eqb-true b c e)

-- ---- a text from a place on

-- its bytes are those of the text, n places on
pub get_drop : (n : ℕ) (B : List ℕ) (i : ℕ) → slice_get (drop n B) i ≡ slice_get B (n + i)
get_drop zero B i = rw (zero-add i) refl
get_drop (suc n) [] i = refl
get_drop (suc n) (b ∷ B) i =
    let next : suc n + i ≡ suc (n + i) = omega arith in
    rw next (get_drop n B i)

-- it is the byte at the place, and the text from the next place on
pub drop_here : (T : List ℕ) (p b : ℕ) → slice_get T p ≡ Some b → drop p T ≡ b ∷ drop (p + 1) T
drop_here T p b is =
    drop_more T p 0 (slice_get_within T p b is) ∙ ap (λ c. c ∷ drop (p + 1) T) (get_or_from_slice_get T p b 0 is)

-- the bytes from a place up to a later one are the byte there and those after it
pub raw_first : (T : List ℕ) (p q b : ℕ) → slice_get T p ≡ Some b → p < q → raw T p q ≡ b ∷ raw T (p + 1) q
raw_first T p q b is lt =
    let many : q - p ≡ suc (q - (p + 1)) = omega (arith, lt) in
    ap (take (q - p)) (drop_here T p b is) ∙ ap (λ n. take n (b ∷ drop (p + 1) T)) many

-- up to the place itself there is none
pub raw_nothing : (T : List ℕ) (p : ℕ) → raw T p p ≡ []
raw_nothing T p = let none : p - p ≡ 0 = omega arith in ap (λ n. take n (drop p T)) none

-- ---- stretches of the text as it stands

-- how many bytes from p on pass, by the one at p
count_at : (test : ℕ → Bool) (T : List ℕ) (p : ℕ) →
    count_front test (drop p T) ≡ cond (passes test (slice_get T p)) (1 + count_front test (drop (p + 1) T)) 0
unfolding count_front
count_at test [] zero = refl
count_at test [] (suc p) = refl
count_at test (b ∷ T) zero = refl
count_at test (b ∷ T) (suc p) =
    let next : suc p + 1 ≡ suc (p + 1) = omega arith in
    rw next (count_at test T p)

-- a stretch goes on after a byte of its kind, and ends at another one
pub raw_more : (test : ℕ → Bool) (T : List ℕ) (p : ℕ) → raw_in test T p ≡ true →
    raw_past test T p ≡ raw_past test T (p + 1)
unfolding raw_past raw_in
raw_more test T p e =
    let count : count_front test (drop p T) ≡ 1 + count_front test (drop (p + 1) T) = count_at test T p ∙ rw e refl in
    omega (arith, count)

pub raw_none : (test : ℕ → Bool) (T : List ℕ) (p : ℕ) → raw_in test T p ≡ false → raw_past test T p ≡ p
unfolding raw_past raw_in
raw_none test T p e =
    let count : count_front test (drop p T) ≡ 0 = count_at test T p ∙ rw e refl in
    omega (arith, count)

-- a stretch from what stands in it and after it
pub raw_is : (test : ℕ → Bool) (T : List ℕ) (p n : ℕ) → ((k : ℕ) → p ≤ k → k < p + n → raw_in test T k ≡ true) →
    raw_in test T (p + n) ≡ false → raw_past test T p ≡ p + n
raw_is test T p zero in_it after =
    let same : p + zero ≡ p = omega arith in
    rw same (raw_none test T p (rw same at after))
raw_is test T p (suc n) in_it after =
    let next : p + 1 + n ≡ p + suc n = omega arith in
    raw_more test T p (in_it p (omega arith) (omega arith))
    ∙ raw_is test T (p + 1) n (λ k low high. in_it k (omega arith) (omega arith)) (rw next after) ∙ next

-- a stretch goes on after what stands in it
pub raw_on : (test : ℕ → Bool) (T : List ℕ) (p n : ℕ) → ((k : ℕ) → p ≤ k → k < p + n → raw_in test T k ≡ true) →
    raw_past test T p ≡ raw_past test T (p + n)
raw_on test T p zero in_it =
    let same : p + zero ≡ p = omega arith in
    rw same refl
raw_on test T p (suc n) in_it =
    let next : p + 1 + n ≡ p + suc n = omega arith in
    raw_more test T p (in_it p (omega arith) (omega arith))
    ∙ raw_on test T (p + 1) n (λ k low high. in_it k (omega arith) (omega arith)) ∙ ap (raw_past test T) next

-- ---- continuations

-- the last byte begins no continuation
alone : (x : Bool) (n : ℕ) → 0 ≡ cond (x && false) n 0
alone true n = refl
alone false n = refl

-- how many bytes from p on are continuations, by the two at p
joined_at : (T : List ℕ) (p : ℕ) →
    count_joined (drop p T) ≡ cond (is_byte (slice_get T p) backslash && is_byte (slice_get T (p + 1)) newline_char)
    (2 + count_joined (drop (p + 2) T)) 0
unfolding count_joined
joined_at [] zero = refl
joined_at [] (suc p) = refl
joined_at (b ∷ []) zero = alone (b == backslash) 2
joined_at (b ∷ c ∷ T) zero = refl
joined_at (b ∷ T) (suc p) =
    let one : suc p + 1 ≡ suc (p + 1) = omega arith in
    let two : suc p + 2 ≡ suc (p + 2) = omega arith in
    rw (one, two) (joined_at T p)

-- one at p is passed with those after it, and where none stands nothing is passed
pub joined_more : (T : List ℕ) (p : ℕ) → continues T p ≡ true → past_continuations T p ≡ past_continuations T (p + 2)
unfolding continues raw_stands past_continuations
joined_more T p e =
    let count : count_joined (drop p T) ≡ 2 + count_joined (drop (p + 2) T) = joined_at T p ∙ rw e refl in
    omega (arith, count)

pub joined_none : (T : List ℕ) (p : ℕ) → continues T p ≡ false → past_continuations T p ≡ p
unfolding continues raw_stands past_continuations
joined_none T p e =
    let count : count_joined (drop p T) ≡ 0 = joined_at T p ∙ rw e refl in
    omega (arith, count)

-- ---- stretches of what is read

-- past continuations is not before them
pub place_low : (T : List ℕ) (p : ℕ) → p ≤ past_continuations T p
unfolding past_continuations
place_low T p = omega arith

-- a byte that passes a test is one
pub passes_low : (test : ℕ → Bool) (T : List ℕ) (q : ℕ) (b : Option ℕ) → slice_get T q ≡ b → passes test b ≡ true →
    q < length T
passes_low test T q None is e = absurd cc
passes_low test T q (Some b) is e = slice_get_within T q b is

-- where a byte of a class is read there is one
pub stands_in_low : (test : ℕ → Bool) (T : List ℕ) (p : ℕ) → stands_in test T p ≡ true →
    past_continuations T p < length T
unfolding stands_in
stands_in_low test T p e = passes_low test T (past_continuations T p) (byte_at T p) refl e

-- at the end none is read
none_left : (test : ℕ → Bool) (T : List ℕ) (p : ℕ) → length T ≤ p → stands_in test T p ≡ false
unfolding stands_in
none_left test T p end =
    let none : slice_get T (past_continuations T p) ≡ None =
    slice_get_past T (past_continuations T p) (omega (arith, place_low T p)) in
    rw none refl

-- one more byte of the stretch, or its end
turn : (test : ℕ → Bool) (T : List ℕ) (p : ℕ) (b : Bool) (x y : ℕ) → (b ≡ true → x ≡ y) → cond b x p ≡ cond b y p
turn test T p true x y same = same refl
turn test T p false x y same = refl

-- with enough turns, how many they are does not matter
enough : (test : ℕ → Bool) (T : List ℕ) (n m p : ℕ) → length T - p ≤ n → length T - p ≤ m →
    past_below n test T p ≡ past_below m test T p
unfolding past_below past_byte
enough test T zero zero p low_n low_m = refl
enough test T zero (suc m) p low_n low_m = rw (none_left test T p (omega arith)) refl
enough test T (suc n) zero p low_n low_m = rw (none_left test T p (omega arith)) refl
enough test T (suc n) (suc m) p low_n low_m =
    turn test T p (stands_in test T p) _ _
    (λ some. enough test T n m (past_continuations T p + 1) (omega (arith, place_low T p))
    (omega (arith, place_low T p)))

-- a stretch goes on after a byte of its kind
pub past_more : (test : ℕ → Bool) (T : List ℕ) (p : ℕ) → stands_in test T p ≡ true →
    past test T p ≡ past test T (past_byte T p)
unfolding past past_below past_byte
past_more test T p e =
    let inside : past_continuations T p < length T = stands_in_low test T p e in
    let one : length T - p ≡ suc (length T - p - 1) = omega (arith, inside, place_low T p) in
    rw (one, e) (enough test T (length T - p - 1) (length T - (past_continuations T p + 1)) (past_continuations T p + 1)
    (omega (arith, place_low T p)) (omega arith))

-- and ends where none is read
none_more : (n : ℕ) (test : ℕ → Bool) (T : List ℕ) (p : ℕ) → stands_in test T p ≡ false → past_below n test T p ≡ p
unfolding past_below
none_more zero test T p e = refl
none_more (suc n) test T p e = rw e refl

pub past_none : (test : ℕ → Bool) (T : List ℕ) (p : ℕ) → stands_in test T p ≡ false → past test T p ≡ p
unfolding past
past_none test T p e = none_more (length T - p) test T p e

-- ---- the end of a comment

-- blanks before q are passed one by one, up to another byte or the front of the text
pub blanks_before : (T : List ℕ) (q : ℕ) → 0 < q → raw_in is_blank T (q - 1) ≡ true →
    before_blanks T q ≡ before_blanks T (q - 1)
unfolding before_blanks
blanks_before T zero lt e = absurd (omega arith)
blanks_before T (suc q) lt e =
    let back : suc q - 1 ≡ q = omega arith in
    rw (back, rw back at e) refl

pub no_blanks_before : (T : List ℕ) (q : ℕ) → 0 < q → raw_in is_blank T (q - 1) ≡ false → before_blanks T q ≡ q
unfolding before_blanks
no_blanks_before T zero lt e = absurd (omega arith)
no_blanks_before T (suc q) lt e =
    let back : suc q - 1 ≡ q = omega arith in
    rw (rw back at e) refl

-- ---- words spelled out

-- the rest of a word stands there, by its next byte, which is read or not, or by where the word ends
pub word_more : (T : List ℕ) (p : ℕ) (word : List ℕ) (i : ℕ) → i < length word → stands T p (get_or word i 0) ≡ true →
    is_word_at T p (drop i word) ≡ is_word_at T (past_byte T p) (drop (i + 1) word)
unfolding is_word_at
word_more T p word i lt e = rw (drop-cons word i 0, add-one i, e) refl

pub word_other : (T : List ℕ) (p : ℕ) (word : List ℕ) (i : ℕ) → i < length word → stands T p (get_or word i 0) ≡ false →
    is_word_at T p (drop i word) ≡ false
unfolding is_word_at
word_other T p word i lt e = rw (drop-cons word i 0, e) refl

pub word_whole : (T : List ℕ) (p : ℕ) (word : List ℕ) (i : ℕ) → i ≡ length word →
    is_word_at T p (drop i word) ≡ ends_word T p
unfolding is_word_at
word_whole T p word i e = rw (e, drop-length word) refl

-- ---- the same where no backslash stands

-- no continuation stands there, and what stands there is read
pub raw_stays : (T : List ℕ) (p : ℕ) → raw_stands T p backslash ≡ false → past_continuations T p ≡ p
unfolding continues
raw_stays T p e = joined_none T p (rw e refl)

raw_letter : (T : List ℕ) (p c : ℕ) → raw_stands T p backslash ≡ false → stands T p c ≡ raw_stands T p c
unfolding stands raw_stands
raw_letter T p c e = ap (λ q. is_byte (slice_get T q) c) (raw_stays T p e)

-- the same by whether that byte stands there
pub letter_more : (T : List ℕ) (p : ℕ) (word : List ℕ) (i : ℕ) → i < length word → raw_stands T p backslash ≡ false →
    raw_stands T p (get_or word i 0) ≡ true
    → is_word_at T p (drop i word) ≡ is_word_at T (p + 1) (drop (i + 1) word)
unfolding past_byte
letter_more T p word i lt e is =
    word_more T p word i lt (raw_letter T p _ e ∙ is)
    ∙ ap (λ q. is_word_at T (q + 1) (drop (i + 1) word)) (raw_stays T p e)

pub letter_other : (T : List ℕ) (p : ℕ) (word : List ℕ) (i : ℕ) → i < length word → raw_stands T p backslash ≡ false →
    raw_stands T p (get_or word i 0) ≡ false
    → is_word_at T p (drop i word) ≡ false
letter_other T p word i lt e other = word_other T p word i lt (raw_letter T p _ e ∙ other)
