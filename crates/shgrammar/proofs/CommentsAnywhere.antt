-- A comment is read wherever its bytes stand before a newline.
use Rattle.std.proofs.Common.{◌≡◌, ℕ, zero, suc, ◌+◌, ◌-◌, ◌≤◌, ◌<◌, ◌==◌, Bool, true, false, not, cond, List, [], ◌∷◌, ◌++◌, length, drop, take, Option, Some, None, slice_get, refl, sym, ap, subst, ◌∙◌, arith, ⊎_elim}
use Rattle.std.proofs.lemmas.Bool.{both_ways, cases_Bool, cases_lt}
use Rattle.std.proofs.lemmas.Bool.Decides.{nat_tests}
use Rattle.std.proofs.lemmas.List.{length-drop, length-take-le}
use Rattle.std.proofs.lemmas.Option.{slice_get_within}
use Rattle.shast.specs.declared.tree.Span.{Span}
use Rattle.shgrammar.specs.Characters.{newline_char, number_sign}
use Rattle.shgrammar.specs.Classes.{is_blank}
use Rattle.shgrammar.specs.Standing.{is_byte, passes, raw_stands, raw_in, next_newline, before_blanks}
use Rattle.shgrammar.specs.Bytes.{past_continuations, byte_at, stands_in}
use Rattle.shgrammar.specs.Comments.{span, comment_at, past_comment}
use Rattle.shgrammar.proofs.Stretches.{get_drop, raw_is, raw_more, raw_stays, no_blanks_before}
use Rattle.shgrammar.proofs.Places.{raw_past_low, raw_past_all, next_newline_high}
use Rattle.shgrammar.proofs.SameLine.{get_take}

-- ---- bytes that stand somewhere else

-- a byte of xs, and the one after them
get_front : (xs ys : List ℕ) (k : ℕ) → k < length xs → slice_get (xs ++ ys) k ≡ slice_get xs k
get_front [] ys k lt = absurd (omega arith)
get_front (x ∷ xs) ys zero lt = refl
get_front (x ∷ xs) ys (suc k) lt = get_front xs ys k (omega arith)

get_after : (xs ys : List ℕ) → slice_get (xs ++ ys) (length xs) ≡ slice_get ys 0
get_after [] ys = refl
get_after (x ∷ xs) ys = get_after xs ys

-- the text U goes on at q with w, and then with zs
module _ (U : List ℕ) (q : ℕ) (w zs : List ℕ) (is : drop q U ≡ w ++ zs) where
  -- a byte of w
  pub byte_in : (i : ℕ) → i < length w → slice_get U (q + i) ≡ slice_get w i
  byte_in i lt = sym (get_drop q U i) ∙ ap (λ B. slice_get B i) is ∙ get_front w zs i lt

  -- the one after it
  pub byte_after : slice_get U (q + length w) ≡ slice_get zs 0
  byte_after = sym (get_drop q U (length w)) ∙ ap (λ B. slice_get B (length w)) is ∙ get_after w zs

-- n bytes of a text are n
pub stretch_length : (T : List ℕ) (p n : ℕ) → p + n ≤ length T → length (take n (drop p T)) ≡ n
stretch_length T p n le = length-take-le n (drop p T) (omega (arith, le, length-drop p T))

-- and each is that of the text
pub stretch_byte : (T : List ℕ) (p n i : ℕ) → i < n → slice_get (take n (drop p T)) i ≡ slice_get T (p + i)
stretch_byte T p n i lt = get_take n (drop p T) i lt ∙ get_drop p T i

-- ---- comments

-- where a test tells a comment it holds, and the comment is this one
comment_by : (b : Bool) (z c : Span) → cond b (Some z) None ≡ Some c → (b ≡ true) × (c ≡ z)
comment_by true z c is = let e : z ≡ c = cc in (refl, sym e)
comment_by false z c is = absurd cc

-- where a comment begins, and which span it has
pub comment_is : (T : List ℕ) (o p : ℕ) (c : Span) → comment_at T o p ≡ Some c → (raw_stands T p number_sign ≡ true)
    × (c ≡ span o p (before_blanks T (next_newline T p)))
unfolding comment_at
comment_is T o p c is = comment_by (raw_stands T p number_sign) _ c is

-- after a byte that is no blank no more than blanks are taken away
before_is : (T : List ℕ) (p q : ℕ) → p < q → raw_in is_blank T p ≡ false → (p < before_blanks T q)
    × ((before_blanks T q ≤ q) × (raw_in is_blank T (before_blanks T q - 1) ≡ false))
unfolding before_blanks
before_is T p zero lt clear = absurd (omega arith)
before_is T p (suc q) lt clear =
    ⊎_elim
    (λ (e : raw_in is_blank T q ≡ true). let less : p < q =
    ⊎_elim (λ l. l) (λ ge. let same : p ≡ q = omega (arith, lt, ge) in
    absurd (both_ways (raw_in is_blank T q) (subst (λ r. raw_in is_blank T r ≡ false) same clear) e))
    (cases_lt p q) in
    let rest = before_is T p q less clear in
    rw e (rest.0, (omega (arith, rest.1.0), rest.1.1)))
    (λ (e : raw_in is_blank T q ≡ false). let back : suc q - 1 ≡ q = omega arith in rw e (lt, (omega arith, rw back e)))
    (cases_Bool (raw_in is_blank T q))

-- a `#` is no blank and no newline
sharp_in : (x : Option ℕ) → is_byte x number_sign ≡ true → (passes is_blank x ≡ false)
    × ((passes (λ b. not (b == newline_char)) x ≡ true) × (x ≡ Some 35))
sharp_in None e = absurd cc
sharp_in (Some b) e = let is : b ≡ 35 = grind (arith, nat_tests) in rw is (refl, (refl, refl))

-- wherever this comment stands, before a newline, it is read
pub record CommentAnywhere (c : List ℕ) : Type 0 where
  pub some : 0 < length c
  pub there : (T : List ℕ) (o q : ℕ) (zs : List ℕ) → drop q T ≡ c ++ 10 ∷ zs
      → (comment_at T o q ≡ Some (span o q (q + length c))) × (past_comment T q ≡ q + length c)
      × (past_continuations T q ≡ q) × (stands_in is_blank T q ≡ false) × (byte_at T q ≡ Some 35)

-- a comment that stands at p, up to e, and before a newline at q in another text
module _ (T : List ℕ) (p : ℕ) (sharp : raw_stands T p number_sign ≡ true) where
  -- where its line ends, and where the comment does
  abbrev newline : ℕ
  newline = next_newline T p

  abbrev last : ℕ
  last = before_blanks T newline

  -- its first byte is a `#`, which stands in the text and before the end of the line
  first : (passes is_blank (slice_get T p) ≡ false)
      × ((passes (λ b. not (b == newline_char)) (slice_get T p) ≡ true) × (slice_get T p ≡ Some 35))
  unfolding raw_stands
  first = sharp_in (slice_get T p) sharp

  within : p < length T
  within = slice_get_within T p 35 first.1.1

  line_some : p < newline
  unfolding raw_in
  line_some = omega (
    arith,
    raw_more (λ b. not (b == newline_char)) T p first.1.0,
    raw_past_low (λ b. not (b == newline_char)) T (p + 1),
  )

  -- it is not empty, does not go past its line, and ends with no blank
  ended : (p < last) × ((last ≤ newline) × (raw_in is_blank T (last - 1) ≡ false))
  unfolding raw_in
  ended = before_is T p newline line_some first.0

  -- its bytes, and how many they are
  abbrev text : List ℕ
  text = take (last - p) (drop p T)

  text_length : length text ≡ last - p
  text_length = let e = ended in
      stretch_length T p (last - p) (omega (arith, e.0, e.1.0, next_newline_high T p (omega (arith, within))))

  module _ (U : List ℕ) (o q : ℕ) (zs : List ℕ) (is : drop q U ≡ text ++ 10 ∷ zs) where
    -- the same bytes stand at q, and pass the same tests
    same_byte : (i : ℕ) → i < last - p → slice_get U (q + i) ≡ slice_get T (p + i)
    same_byte i lt = byte_in U q text (10 ∷ zs) is i (omega (arith, lt, text_length)) ∙ stretch_byte T p (last - p) i lt

    same_in : (test : ℕ → Bool) (i : ℕ) → i < last - p → raw_in test U (q + i) ≡ raw_in test T (p + i)
    unfolding raw_in
    same_in test i lt = ap (passes test) (same_byte i lt)

    -- after them is a newline
    newline_there : slice_get U (q + (last - p)) ≡ Some 10
    newline_there = ap (λ n. slice_get U (q + n)) (sym text_length) ∙ byte_after U q text (10 ∷ zs) is

    at_after : raw_in (λ b. not (b == newline_char)) U (q + (last - p)) ≡ false
    unfolding raw_in
    at_after = ap (passes (λ b. not (b == newline_char))) newline_there

    -- the first of them is `#`
    sharp_there : slice_get U q ≡ Some 35
    sharp_there =
        let here : q + 0 ≡ q = omega arith in
        let there : p + 0 ≡ p = omega arith in
        ap (slice_get U) (sym here) ∙ same_byte 0 (omega (arith, ended.0)) ∙ ap (slice_get T) there ∙ first.1.1

    -- their line ends after them
    line_end : next_newline U q ≡ q + (last - p)
    line_end =
        raw_is (λ b. not (b == newline_char)) U q (last - p)
        (λ k low lt. let i = k - q in
        let is_k : q + i ≡ k = omega (arith, low) in
        subst (λ r. raw_in (λ b. not (b == newline_char)) U r ≡ true) is_k
        (same_in (λ b. not (b == newline_char)) i (omega (arith, low, lt))
        ∙ raw_past_all (λ b. not (b == newline_char)) T p (p + i) (omega arith) (omega (arith, low, lt, ended.1.0))))
        at_after

    -- the last of them is no blank
    no_blank_last : raw_in is_blank U (q + (last - p) - 1) ≡ false
    no_blank_last =
        let e = ended in
        let i = last - p - 1 in
        let there : q + i ≡ q + (last - p) - 1 = omega (arith, e.0) in
        let here : p + i ≡ last - 1 = omega (arith, e.0) in
        ap (raw_in is_blank U) (sym there) ∙ same_in is_blank i (omega (arith, e.0)) ∙ ap (raw_in is_blank T) here
        ∙ e.1.1

    -- at q stands no continuation and no blank, and `#` is read there
    is_sharp : raw_stands U q number_sign ≡ true
    unfolding raw_stands
    is_sharp = rw sharp_there refl

    stays : past_continuations U q ≡ q
    unfolding raw_stands
    stays = raw_stays U q (rw sharp_there refl)

    byte_is : byte_at U q ≡ Some 35
    byte_is = ap (slice_get U) stays ∙ sharp_there

    no_blank : stands_in is_blank U q ≡ false
    unfolding stands_in
    no_blank = ap (passes is_blank) byte_is

    -- the comment at q has their span, and ends where they do
    end_is : q + (last - p) ≡ q + length text
    end_is = ap (λ n. q + n) (sym text_length)

    comment_there : comment_at U o q ≡ Some (span o q (q + length text))
    unfolding comment_at
    comment_there =
        rw is_sharp (ap (λ r. Some (span o q r))
        (ap (before_blanks U) line_end ∙ no_blanks_before U (q + (last - p)) (omega (arith, ended.0)) no_blank_last
        ∙ end_is))

    past_there : past_comment U q ≡ q + length text
    unfolding past_comment
    past_there = rw is_sharp (line_end ∙ end_is)

  -- so it is wherever they stand before a newline
  anywhere : CommentAnywhere text
  anywhere = record {
    some = omega (arith, text_length, ended.0);
    there = λ U o q zs is. (
      comment_there U o q zs is,
      past_there U o q zs is,
      stays U o q zs is,
      no_blank U o q zs is,
      byte_is U o q zs is,
    );
  }

-- what is a comment where it stands is one anywhere
pub comment_anywhere : (T : List ℕ) (o p : ℕ) (c : Span) → comment_at T o p ≡ Some c →
    CommentAnywhere (take (c.«end» - c.start) (drop p T))
comment_anywhere T o p c is =
    let e = comment_is T o p c is in
    let size : c.«end» - c.start ≡ before_blanks T (next_newline T p) - p =
    (let apart : o + before_blanks T (next_newline T p) - (o + p) ≡ before_blanks T (next_newline T p) - p =
    omega arith in ap (λ (s : Span). s.«end» - s.start) e.1 ∙ apart) in
    subst (λ n. CommentAnywhere (take n (drop p T))) (sym size) (anywhere T p e.0)
