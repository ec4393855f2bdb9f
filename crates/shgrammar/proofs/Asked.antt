-- What a row may see of a text, and where it may move to: the same in each text that
-- has its bytes up to a newline, or to a `)`.
use Rattle.std.proofs.Common.{◌≡◌, ℕ, zero, suc, ◌+◌, ◌-◌, ◌≤◌, ◌<◌, ◌==◌, Bool, true, false, not, cond, ◌||◌, List, [], ◌∷◌, take, drop, Option, Some, None, slice_get, refl, sym, ap, subst, ◌∙◌, arith, ⊎_elim}
use Rattle.std.proofs.lemmas.Bool.{both_ways, cases_lt, cases_Bool, false_from_ne_true}
use Rattle.std.proofs.lemmas.Bool.Decides.{nat_tests}
use Rattle.shgrammar.specs.declared.mode.Escaping.{Escaping}
use Rattle.shgrammar.specs.declared.mode.Escaping.TheVariants as escapings
use Rattle.shgrammar.specs.declared.mode.Mode.{Mode}
use Rattle.shgrammar.specs.declared.mode.Mode.TheVariants.{Plain, Double, Brace, DoubleBrace, Arith}
use Rattle.shgrammar.specs.Classes.{is_letter, is_digit, is_name, is_blank, is_special}
use Rattle.shgrammar.specs.Standing.{is_byte, is_none, at_end, raw_in, raw_stands, raw_past, next_of, next_newline, before_blanks, passes, continues}
use Rattle.shgrammar.specs.Bytes.{past, past_blanks, past_continuations, byte_at, past_byte, stands, stands_in}
use Rattle.shgrammar.specs.Characters.{newline_char, apostrophe, backslash, number_sign, right_parenthesis, dollar_sign, left_parenthesis, grave_accent, percent_sign}
use Rattle.shgrammar.specs.Comments.{span, comment_at, past_comment}
use Rattle.shgrammar.specs.Pieces.{dollar_by, dollar_at, byte_by, piece_by, piece_at, past_taken, next_quote, is_last_backslash, past_parameter, rest_mode, past_closer, closes_by, next_escaped}
use Rattle.shgrammar.specs.Tokens.{past_digits, past_reserved}
use Rattle.shgrammar.specs.Sights.{Move, continuations, one_taken, the_closer, the_parameter, a_quote_on, blanks, a_comment_on, the_reserved, the_digits, one_byte as byte_on, to as leads, escaped_on}
use Rattle.shgrammar.specs.Form.{raw}
use Rattle.shgrammar.proofs.Stretches.{place_low, joined_more, raw_more, get_drop, blanks_before, no_blanks_before}
use Rattle.shgrammar.proofs.Places.{next_escaped_low, place_same, after_low, raw_past_low, raw_past_stops, raw_past_all, next_of_low, next_newline_low, parameter_low, reserved_low, digits_low, blanks_low}
use Rattle.shgrammar.proofs.SameBytes.{Safe, halts, one_byte, two_bytes, goes_on, safe_high, safe_low, safe_escape, safe_place, no_backslash, continuation_is_two, raw_there, byte_other}
use Rattle.shgrammar.proofs.Ahead.{ListEnds, ender_is_other, not_backslash, K, Goes, goes_name, goes_digit, goes_one, past_byte_is, same_if, same_and, seen, same_byte, same_after, same_stands, same_stands_in, same_place, next_safe, past_safe, past_back, blanks_safe, blanks_back, same_raw_in}
use Rattle.shgrammar.specs.declared.edition.Edition.{Edition}

-- what is looked for ahead from p on is found before the newline, or the `)`, at M, or at it
abbrev pub Good : List ℕ → ℕ → ℕ → ℕ → Type 0
Good T a M p = Safe T a M p

-- after continuations none stands
none_there : (T : List ℕ) (p : ℕ) → continues T (past_continuations T p) ≡ false
none_there T p = false_from_ne_true _
    (λ c. let is = place_same T p in let more = joined_more T (past_continuations T p) c in
    let low = place_low T (past_continuations T p + 2) in absurd (omega (arith, is, more, low)))

-- U has the bytes of T from a up to the place M, where the same byte ends what is
-- looked for in both; `to` says where
module _ {edition : Edition} {T U : List ℕ} {a M : ℕ} {to : ℕ → ℕ} {limit : ℕ}
    (E : ListEnds edition T U a M to limit) where
  -- p is a good place of T
  abbrev G : ℕ → Type 0
  G p = Good T a M p

  -- a good place is at most M and at least a; from a on as many bytes further is as many further in U
  pub good_high : {p : ℕ} → G p → p ≤ M
  good_high s = safe_high (K E) s

  pub good_low : {p : ℕ} → G p → a ≤ p
  good_low s = safe_low (K E) s

  pub to_add : (p k : ℕ) → a ≤ p → to (p + k) ≡ to p + k
  to_add p k low = E.kept.on p k low

  -- so two places are as far from each other there
  pub to_apart : (p q : ℕ) → a ≤ p → p ≤ q → to q ≡ to p + (q - p)
  to_apart p q low le = let is : p + (q - p) ≡ q = omega (arith, le) in ap to (sym is) ∙ to_add p (q - p) low

  -- where no continuation stands, a place before M is good if the search ends there, or if the next is good
  good_halt : (q : ℕ) → a ≤ q → q < M → continues T q ≡ false → raw_in goes_on T q ≡ false → G q
  good_halt q low lt none off = halts low lt none off

  good_back : (q : ℕ) → a ≤ q → continues T q ≡ false → G (q + 1) → G q
  good_back q low none s =
      let lt = good_high s in
      ⊎_elim (λ on. one_byte low on s) (λ off. good_halt q low (omega (arith, lt)) none off)
      (cases_Bool (raw_in goes_on T q))

  -- a place is good if a later one is, and no continuation begins at the byte before that
  good_over_below : (n p q : ℕ) → q ≤ p + n → a ≤ p → p ≤ q + 1 → continues T q ≡ false → G (q + 1) → G p
  good_over_below zero p q few low le none s =
      ⊎_elim (λ lt. let is : q ≡ p = omega (arith, few, lt) in subst G is (good_back q (omega (arith, low, is)) none s))
      (λ ge. let is : q + 1 ≡ p = omega (arith, ge, le) in subst G is s) (cases_lt p (q + 1))
  good_over_below (suc n) p q few low le none s =
      ⊎_elim
      (λ lt. ⊎_elim
      (λ c. ⊎_elim
      (λ l. two_bytes low c (good_over_below n (p + 2) q (omega (arith, few)) (omega (arith, low))
      (omega (arith, l)) none s))
      (λ g. let is : p ≡ q = omega (arith, g, lt) in
      absurd (both_ways (continues T q) none (subst (λ z. continues T z ≡ true) is c))) (cases_lt p q))
      (λ c. good_back p low c (good_over_below n (p + 1) q (omega (arith, few)) (omega (arith, low))
      (omega (arith, lt)) none s))
      (cases_Bool (continues T p)))
      (λ ge. let is : q + 1 ≡ p = omega (arith, ge, le) in subst G is s) (cases_lt p (q + 1))

  pub good_over : (p q : ℕ) → a ≤ p → p ≤ q + 1 → continues T q ≡ false → G (q + 1) → G p
  good_over p q low le none s = good_over_below q p q (omega arith) low le none s

  -- a move from p, and the same there
  abbrev pub Moves2 : (List ℕ → ℕ → ℕ) → (List ℕ → ℕ → ℕ) → ℕ → Type 0
  Moves2 f f2 p = (p ≤ f T p) × (a ≤ p → G (f T p) → G p × (f2 U (to p) ≡ to (f T p)))

  -- the same function for both
  abbrev pub Moves : (List ℕ → ℕ → ℕ) → ℕ → Type 0
  Moves f p = Moves2 f f p

  -- past a byte, past two, past blanks, and past what closes a construct
  pub moves_after : (p : ℕ) → Moves past_byte p
  moves_after p = (
    omega (arith, after_low T p),
    λ low s.
        let g : G p = good_over p (past_continuations T p) low (omega (arith, place_low T p)) (none_there T p)
        (subst G (past_byte_is T p) s) in
        (g, same_after E g),
  )

  pub moves_twice : (p : ℕ) → Moves (λ T p. past_byte T (past_byte T p)) p
  moves_twice p = (
    omega (arith, after_low T p, after_low T (past_byte T p)),
    λ low s.
        let w = (moves_after (past_byte T p)).1 (omega (arith, low, after_low T p)) s in
        let v = (moves_after p).1 low w.0 in (v.0, ap (past_byte U) v.1 ∙ w.1),
  )

  pub moves_blanks : (p : ℕ) → Moves past_blanks p
  moves_blanks p = (blanks_low T p, λ low s. let g = blanks_back E p low s in (g, (blanks_safe E g).1))

  pub moves_closer : (mode : Mode) (p : ℕ) → Moves (λ T p. past_closer T mode p) p
  moves_closer Plain p = (omega arith, λ low s. (s, refl))
  moves_closer Double p = moves_after p
  moves_closer Brace p = moves_after p
  moves_closer DoubleBrace p = moves_after p
  moves_closer Arith p = moves_twice p

  -- past the bytes that pass a test, past a reserved word, past digits, and past a parameter
  moves_past : (test : ℕ → Bool) → Goes limit test → (p : ℕ) → a ≤ p → G (past test T p) → G p
      × (past test U (to p) ≡ to (past test T p))
  moves_past test goes p low s = let g = past_back E test goes p low s in (g, (past_safe E test goes g).1)

  pub moves_reserved : (p : ℕ) → Moves past_reserved p
  unfolding past_reserved
  moves_reserved p = (
    reserved_low T p,
    λ low s.
        let w = moves_past is_name (goes_name limit E.ender) (past_byte T p) (omega (arith, low, after_low T p)) s in
        let v = (moves_after p).1 low w.0 in (v.0, ap (past is_name U) v.1 ∙ w.1),
  )

  pub moves_digits : (p : ℕ) → Moves past_digits p
  unfolding past_digits
  moves_digits p = (digits_low T p, λ low s. moves_past is_digit (goes_digit limit E.ender) p low s)

  -- past a parameter: a name, digits, one special byte, or nothing
  pub moves_parameter : (p : ℕ) → Moves past_parameter p
  unfolding past_parameter
  moves_parameter p = (
    parameter_low T p,
    λ low s.
        ⊎_elim
        (λ (e : stands_in is_letter T p ≡ true). let w =
        moves_past is_name (goes_name limit E.ender) p low (rw e at s) in
        (w.0, rw (same_stands_in E w.0 is_letter, e) w.1))
        (λ (e : stands_in is_letter T p ≡ false). ⊎_elim
        (λ (f : stands_in is_digit T p ≡ true). let w =
        moves_past is_digit (goes_digit limit E.ender) p low (rw (e, f) at s) in
        (w.0, rw (same_stands_in E w.0 is_letter, e, same_stands_in E w.0 is_digit, f) w.1))
        (λ (f : stands_in is_digit T p ≡ false). ⊎_elim
        (λ (g : stands_in is_special T p ≡ true). let w = (moves_after p).1 low (rw (e, f, g) at s) in (
          w.0,
          rw (
            same_stands_in E w.0 is_letter,
            e,
            same_stands_in E w.0 is_digit,
            f,
            same_stands_in E w.0 is_special,
            g,
          ) w.1,
        ))
        (λ (g : stands_in is_special T p ≡ false). let w : G p = rw (e, f, g) at s in (
          w,
          rw (same_stands_in E w is_letter, e, same_stands_in E w is_digit, f, same_stands_in E w is_special, g)
              refl,
        ))
        (cases_Bool (stands_in is_special T p)))
        (cases_Bool (stands_in is_digit T p)))
        (cases_Bool (stands_in is_letter T p)),
  )

  -- up to M both texts end here, or neither
  pub same_end : (p : ℕ) → a ≤ p → p ≤ M → at_end U (to p) ≡ at_end T p
  unfolding at_end
  same_end p low le = ap is_none (E.kept.same p low (omega (arith, le)))

  -- where the next byte is no newline no continuation stands
  no_newline : (q : ℕ) → raw_stands T (q + 1) newline_char ≡ false → continues T q ≡ false
  no_newline q e = false_from_ne_true _
      (λ c. both_ways (raw_stands T (q + 1) newline_char) e (continuation_is_two T q c).1)

  -- from p, after which b stands, up to what is looked for, which is no newline
  found_good : (test : ℕ → Bool) (b p : ℕ) → a ≤ p → p ≤ b → raw_stands T (raw_past test T b) newline_char ≡ false →
      G (raw_past test T b) → G p × (raw_past test U (to b) ≡ to (raw_past test T b))
  found_good test b p low le other s =
      let q = raw_past test T b in
      let from : b ≤ q = raw_past_low test T b in (
        ⊎_elim
            (λ lt. let back : q - 1 + 1 ≡ q = omega (arith, lt) in
            good_over p (q - 1) low (omega (arith, lt))
            (no_newline (q - 1) (subst (λ z. raw_stands T z newline_char ≡ false) (sym back) other))
            (subst G (sym back) s))
            (λ ge. let is : q ≡ p = omega (arith, ge, le, from) in subst G is s) (cases_lt p q),
        raw_there E.kept test b (omega (arith, low, le)) (omega (arith, good_high s)),
      )

  -- a search for a quote ends at no other byte, one for a closer or a backslash at no newline
  quote_other : (x : Option ℕ) (c : ℕ) → (apostrophe == c) ≡ false → passes (λ b. not (b == apostrophe)) x ≡ false →
      is_byte x c ≡ false
  quote_other None c e f = refl
  quote_other (Some b) c e f = grind (arith, nat_tests)

  escaped_other : (how : Escaping) (x : Option ℕ) → passes (λ b. not (b == closes_by how || b == backslash)) x ≡ false →
      is_byte x newline_char ≡ false
  escaped_other how None e = refl
  escaped_other escapings.Backquotes (Some b) e = grind (arith, nat_tests)
  escaped_other escapings.DollarSingle (Some b) e = grind (arith, nat_tests)

  -- past one byte that is no backslash, and past a backslash with the byte after it
  pub moves_one : (p : ℕ) → raw_stands T p backslash ≡ false → Moves (λ T p. p + 1) p
  moves_one p e = (omega arith, λ low s. (good_back p low (no_backslash T p e) s, sym (to_add p 1 low)))

  pub moves_two : (p : ℕ) → raw_stands T p backslash ≡ true → Moves (λ T p. p + 2) p
  moves_two p e = (
    omega arith,
    λ low s. (
      ⊎_elim (λ c. two_bytes low c s) (λ c. safe_escape (K E) p low c e (good_high s))
          (cases_Bool (continues T p)),
      sym (to_add p 2 low),
    ),
  )

  -- after a backslash both texts end, or neither
  pub same_taken : (p : ℕ) → raw_stands T p backslash ≡ true → a ≤ p → G p → at_end U (to p + 1) ≡ at_end T (p + 1)
  unfolding raw_stands
  same_taken p e low s =
      ap (at_end U) (sym (to_add p 1 low))
      ∙ same_end (p + 1) (omega (arith, low))
      (⊎_elim (λ lt. omega (arith, lt))
      (λ ge. let is : p ≡ M = omega (arith, ge, good_high s) in
      absurd (both_ways (is_byte (slice_get T M) backslash) (rw E.byte (not_backslash limit E.ender)) (rw (sym is) e)))
      (cases_lt p M))

  -- up to M the byte c stands in both texts, or in neither
  pub same_raw_stands : (p c : ℕ) → a ≤ p → p ≤ M → raw_stands U (to p) c ≡ raw_stands T p c
  unfolding raw_stands
  same_raw_stands p c low le = ap (λ b. is_byte b c) (E.kept.same p low (omega (arith, le)))

  -- over a newline the search for one does not go on
  newline_by : (x : Option ℕ) → x ≡ Some newline_char → passes (λ b. not (b == newline_char)) x ≡ false
  newline_by x is = rw is refl

  -- a newline at the limit is the next one, or after it
  pub newline_near : limit ≡ newline_char → (p : ℕ) → p ≤ M → next_newline T p ≤ M
  unfolding raw_in
  newline_near ten p le =
      ⊎_elim (λ lt. absurd (both_ways _ (newline_by (slice_get T M) (E.byte ∙ ap Some ten))
      (raw_past_all (λ b. not (b == newline_char)) T p M le lt))) (λ ge. ge) (cases_lt M (next_newline T p))

  -- the next newline stands there too, if it is at most at M
  pub same_newline : (p : ℕ) → a ≤ p → next_newline T p ≤ M → next_newline U (to p) ≡ to (next_newline T p)
  same_newline p low near = raw_there E.kept (λ b. not (b == newline_char)) p low (omega (arith, near))

  -- before q, after a byte at p that is no blank
  before_there : (n p q : ℕ) → q ≤ p + n → a ≤ p → p < q → q ≤ M → raw_in is_blank T p ≡ false →
      (before_blanks U (to q) ≡ to (before_blanks T q)) × (p ≤ before_blanks T q)
  before_there zero p q few low lt le first = absurd (omega (arith, few, lt))
  before_there (suc n) p q few low lt le first =
      let r = q - 1 in
      let q_is : r + 1 ≡ q = omega (arith, lt) in
      let to_is : to q ≡ to r + 1 = ap to (sym q_is) ∙ to_add r 1 (omega (arith, low, lt)) in
      let back : to q - 1 ≡ to r = omega (arith, to_is) in
      let same = same_raw_in E is_blank r (omega (arith, low, lt)) (omega (arith, le)) in
      ⊎_elim
      (λ (e : raw_in is_blank T r ≡ true).
      let other : p < r = ⊎_elim (λ l. l)
      (λ g. let is : r ≡ p = omega (arith, g, lt) in
      absurd (both_ways (raw_in is_blank T p) first (subst (λ z. raw_in is_blank T z ≡ true) is e)))
      (cases_lt p r) in
      let rest = before_there n p r (omega (arith, few, lt)) low other (omega (arith, le)) first in
      let here : before_blanks T q ≡ before_blanks T r = blanks_before T q (omega (arith, lt)) e in (
        blanks_before U (to q) (omega (arith, to_is)) (ap (raw_in is_blank U) back ∙ same ∙ e)
            ∙ ap (before_blanks U) back ∙ rest.0 ∙ ap to (sym here),
        omega (arith, here, rest.1),
      ))
      (λ (e : raw_in is_blank T r ≡ false).
      let here : before_blanks T q ≡ q = no_blanks_before T q (omega (arith, lt)) e in (
        no_blanks_before U (to q) (omega (arith, to_is)) (ap (raw_in is_blank U) back ∙ same ∙ e) ∙ ap to (sym here),
        omega (arith, here, lt),
      ))
      (cases_Bool (raw_in is_blank T r))

  -- nothing that is looked for goes on over a `#`, which is no blank and no newline
  hash_goes : (x : Option ℕ) → is_byte x number_sign ≡ true → (passes goes_on x ≡ false) × (passes is_blank x ≡ false)
      × (passes (λ b. not (b == newline_char)) x ≡ true)
  hash_goes None e = absurd cc
  hash_goes (Some b) e = (grind (arith, nat_tests), grind (arith, nat_tests), grind (arith, nat_tests))

  -- the byte of the limit is no `#`
  no_hash : (limit == number_sign) ≡ false
  no_hash = ender_is_other limit number_sign E.ender.ends_it refl

  -- where a `#` stands, the place is good
  at_hash : (p : ℕ) → a ≤ p → p ≤ M → raw_stands T p number_sign ≡ true → G p
  unfolding raw_stands raw_in
  at_hash p low le e =
      let lt : p < M = ⊎_elim (λ l. l)
      (λ g. let is : M ≡ p = omega (arith, g, le) in
      absurd (both_ways (is_byte (slice_get T M) number_sign) (rw E.byte no_hash) (rw is e))) (cases_lt p M) in
      good_halt p low lt (no_backslash T p (byte_other (slice_get T p) number_sign backslash refl e))
      (hash_goes (slice_get T p) e).0

  -- lists that have the same at each place below n have the same first n
  same_take : (n : ℕ) (A B : List ℕ) → ((i : ℕ) → i < n → slice_get A i ≡ slice_get B i) → take n A ≡ take n B
  same_take zero A B same = refl
  same_take (suc n) [] [] same = refl
  same_take (suc n) [] (b ∷ B) same = let no = same 0 (omega arith) in absurd cc
  same_take (suc n) (a ∷ A) [] same = let no = same 0 (omega arith) in absurd cc
  same_take (suc n) (a ∷ A) (b ∷ B) same =
      let one : Some a ≡ Some b = same 0 (omega arith) in
      let is : a ≡ b = cc in
      rw (is, same_take n A B (λ i lt. same (suc i) (omega (arith, lt)))) refl

  -- from one place to another it is as far in both texts
  long_there : (p q : ℕ) → a ≤ p → a ≤ q → to q - to p ≡ q - p
  long_there p q low from =
      ⊎_elim
      (λ lt. let far : to q ≡ to p + (q - p) = let is : p + (q - p) ≡ q = omega (arith, lt) in
      ap to (sym is) ∙ to_add p (q - p) low in omega (arith, far))
      (λ ge. let far : to p ≡ to q + (p - q) = let is : q + (p - q) ≡ p = omega (arith, ge) in
      ap to (sym is) ∙ to_add q (p - q) from in omega (arith, far, ge)) (cases_lt p q)

  -- up to the limit, and with it
  pub same_raw_to : (p q : ℕ) → a ≤ p → a ≤ q → q ≤ M + 1 → raw U (to p) (to q) ≡ raw T p q
  same_raw_to p q low from le =
      rw (long_there p q low from) (same_take (q - p) (drop (to p) U) (drop p T)
      (λ i lt. get_drop (to p) U i ∙ ap (slice_get U) (sym (to_add p i low))
      ∙ E.kept.same (p + i) (omega (arith, low)) (omega (arith, lt, le)) ∙ sym (get_drop p T i)))

  pub same_raw : (p q : ℕ) → a ≤ p → a ≤ q → q ≤ M → raw U (to p) (to q) ≡ raw T p q
  same_raw p q low from le = same_raw_to p q low from (omega (arith, le))

  -- the byte that is read at a good place stands at M or before it
  place_in : {p : ℕ} → G p → past_continuations T p ≤ M
  place_in s = let h = seen E s in omega (arith, h.inside)

  -- after a byte that is not that of the limit
  escape_in : (p b : ℕ) → G p → byte_at T p ≡ Some b → (b == limit) ≡ false → past_byte T p ≤ M
  escape_in p b s is other =
      ⊎_elim (λ lt. omega (arith, past_byte_is T p, lt))
      (λ ge. let at : M ≡ past_continuations T p = omega (arith, ge, place_in s) in
      let e : Some limit ≡ Some b = sym E.byte ∙ ap (slice_get T) at ∙ is in
      let f : limit ≡ b = cc in
      absurd (both_ways (b == limit) other (grind (arith, nat_tests, f)))) (cases_lt (past_continuations T p) M)

  -- where this byte is read, and after it
  next_byte : (p b c : ℕ) → G p → byte_at T p ≡ Some b → (b == c) ≡ true → goes_on c ≡ true → (limit == c) ≡ false →
      G (past_byte T p)
  unfolding stands_in
  next_byte p b c s is e on other = next_safe E (λ x. x == c) (goes_one limit c on other) s (rw is e)

  -- after it the byte x is read in both texts, or in neither
  same_next : (p b c x : ℕ) → G p → byte_at T p ≡ Some b → (b == c) ≡ true → goes_on c ≡ true → (limit == c) ≡ false →
      stands U (past_byte U (to p)) x ≡ stands T (past_byte T p) x
  same_next p b c x s is e on other = rw (same_after E s) (same_stands E (next_byte p b c s is e on other) x)

  -- a bracket that may close arithmetic is not at the limit
  abbrev pub NoBracket : Mode → Type 0
  NoBracket Arith = (limit == right_parenthesis) ≡ false
  NoBracket _ = Unit {0}

  -- what a `$` begins is the same in both texts
  dollar_by_same : (q : ℕ) (x : Option ℕ) → G q → byte_at T q ≡ x → dollar_by U (to q) x ≡ dollar_by T q x
  dollar_by_same q None s is = refl
  dollar_by_same q (Some b) s is =
      same_if (b == dollar_sign) _ _ _ _ (λ e. refl)
      (λ e. same_if (b == left_parenthesis) _ _ _ _
      (λ f. rw (same_next q b left_parenthesis left_parenthesis s is f refl E.ender.no_open) refl) (λ f. refl))

  dollar_same : (p b : ℕ) → G p → byte_at T p ≡ Some b → (b == dollar_sign) ≡ true → dollar_at U (to p) ≡ dollar_at T p
  unfolding dollar_at
  dollar_same p b s is e =
      let next = next_byte p b dollar_sign s is e refl (ender_is_other limit dollar_sign E.ender.ends_it refl) in
      rw (same_after E s, same_byte E next) (dollar_by_same (past_byte T p) (byte_at T (past_byte T p)) next refl)

  -- what a byte begins in a mode, if it is no backslash, no backquote and no `$`
  byte_same : (mode : Mode) (p n b : ℕ) → NoBracket mode → G p → byte_at T p ≡ Some b →
      byte_by U (to p) mode n b ≡ byte_by T p mode n b
  byte_same Plain p n b other s is = refl
  byte_same Double p n b other s is = refl
  byte_same Brace p n b other s is = refl
  byte_same DoubleBrace p n b other s is = refl
  byte_same Arith p n b other s is =
      same_if (b == right_parenthesis) _ _ _ _
      (λ e. rw (same_next p b right_parenthesis right_parenthesis s is e refl other) refl) (λ e. refl)

  -- so at a good place the same piece begins in both texts
  piece_same : (mode : Mode) (p n : ℕ) (x : Option ℕ) → NoBracket mode → G p → byte_at T p ≡ x →
      piece_by U (to p) mode n x ≡ piece_by T p mode n x
  piece_same mode p n None free s is = refl
  piece_same mode p n (Some b) free s is =
      same_if (b == backslash) _ _ _ _
      (λ e. let clear = not_backslash limit E.ender in let other : (b == limit) ≡ false = grind (arith, nat_tests) in
      rw (
        same_after E s,
        same_end (past_byte T p) (omega (arith, good_low s, after_low T p))
            (escape_in p b s is other),
      )
      refl)
      (λ e. same_if (b == grave_accent) _ _ _ _ (λ f. refl)
      (λ f. same_if (b == dollar_sign) _ _ _ _ (λ g. dollar_same p b s is g) (λ g. byte_same mode p n b free s is)))

  pub same_piece : (mode : Mode) (n p : ℕ) → NoBracket mode → G p → piece_at U mode n (to p) ≡ piece_at T mode n p
  unfolding piece_at
  same_piece mode n p free s = rw (same_byte E s) (piece_same mode p n (byte_at T p) free s refl)

  -- and the rest of an expansion is read in the same mode
  pub same_mode : (mode : Mode) (p : ℕ) → G p → rest_mode U mode (to p) ≡ rest_mode T mode p
  unfolding rest_mode
  same_mode mode p s = rw (same_stands E s number_sign, same_stands E s percent_sign) refl

  -- ---- the moves that are left

  -- past continuations
  pub moves_joined : (p : ℕ) → Moves past_continuations p
  moves_joined p = (place_low T p, λ low s. let g = safe_place (K E) p low s in (g, same_place E g))

  -- past one byte, or past two where the first is a backslash
  by_taken : (p n : ℕ) (b : Bool) → raw_stands T p backslash ≡ b → a ≤ p → G (p + cond b 2 1) → G p
      × (to p + cond b 2 1 ≡ to (p + cond b 2 1))
  by_taken p n true e low s = (moves_two p e).1 low s
  by_taken p n false e low s = (moves_one p e).1 low s

  pub moves_taken : (p : ℕ) → Moves past_taken p
  unfolding past_taken
  moves_taken p = (
    omega arith,
    λ low s.
        let w = by_taken p 0 (raw_stands T p backslash) refl low s in
        (w.0, rw (same_raw_stands p backslash low (good_high w.0)) w.1),
  )

  -- to the next quote, to the next closer or backslash, and to the end of a comment
  pub moves_quote : (p : ℕ) → Moves next_quote p
  unfolding raw_in raw_stands
  moves_quote p = (
    next_of_low apostrophe T p,
    λ low s.
        found_good (λ x. not (x == apostrophe)) p p low (omega arith)
        (quote_other (slice_get T (next_of apostrophe T p)) newline_char refl
        (raw_past_stops (λ x. not (x == apostrophe)) T p)) s,
  )

  pub moves_escaped : (how : Escaping) (p : ℕ) → Moves (next_escaped how) p
  unfolding raw_in raw_stands
  moves_escaped how p = (
    next_escaped_low how T p,
    λ low s.
        found_good (λ x. not (x == closes_by how || x == backslash)) p p low (omega arith)
        (escaped_other how (slice_get T (next_escaped how T p))
        (raw_past_stops (λ x. not (x == closes_by how || x == backslash)) T p)) s,
  )

  pub moves_comment : (p : ℕ) → Moves past_comment p
  unfolding past_comment
  moves_comment p = (
    comment_far (raw_stands T p number_sign),
    λ low s.
        ⊎_elim
        (λ (e : raw_stands T p number_sign ≡ true). let t : G (next_newline T p) = rw e at s in
        let le : p ≤ M = omega (arith, next_newline_low T p, good_high t) in
        let g : G p = at_hash p low le e in
        (g, rw (same_raw_stands p number_sign low le, e) (same_newline p low (good_high t))))
        (λ (e : raw_stands T p number_sign ≡ false). let g : G p = rw e at s in
        (g, rw (same_raw_stands p number_sign low (good_high g), e) refl)) (cases_Bool (raw_stands T p number_sign)),
  )
    where
      comment_far : (b : Bool) → p ≤ cond b (next_newline T p) p
      comment_far true = next_newline_low T p
      comment_far false = omega arith

  -- ---- what is seen

  -- at a good place both texts end or neither, and a backslash is the last byte of both or of neither
  pub same_end_here : (p : ℕ) → a ≤ p → G p → at_end U (to p) ≡ at_end T p
  same_end_here p low s = same_end p low (good_high s)

  pub same_last_backslash : (p : ℕ) → a ≤ p → G p → is_last_backslash U (to p) ≡ is_last_backslash T p
  same_last_backslash p low s =
      rw (same_raw_stands p backslash low (good_high s))
      (same_and (raw_stands T p backslash) _ _ (λ e. same_taken p e low s))

  -- where a comment ends
  pub comment_end : (p : ℕ) → G p → raw_stands T p number_sign ≡ true → next_newline T p ≤ M
      → (before_blanks U (next_newline U (to p)) ≡ to (before_blanks T (next_newline T p)))
      × (p ≤ before_blanks T (next_newline T p))
  unfolding raw_in raw_stands
  comment_end p s e near =
      let low = good_low s in
      let bytes = hash_goes (slice_get T p) e in
      let q = next_newline T p in
      let more : q ≡ next_newline T (p + 1) = raw_more (λ b. not (b == newline_char)) T p bytes.2 in
      let lt : p < q = omega (arith, more, next_newline_low T (p + 1)) in
      let w = before_there q p q (omega arith) low lt near bytes.1 in
      (rw (same_newline p low near) w.0, w.1)

  -- the same comment begins there, where each text has the same spans by its offset
  pub same_comment : (o o2 : ℕ) → ((p q : ℕ) → a ≤ p → a ≤ q → span o2 (to p) (to q) ≡ span o p q) → (p : ℕ) → G p →
      (raw_stands T p number_sign ≡ true → next_newline T p ≤ M) → comment_at U o2 (to p) ≡ comment_at T o p
  unfolding comment_at
  same_comment o o2 spans p s near =
      let low = good_low s in
      ⊎_elim
      (λ (e : raw_stands T p number_sign ≡ true). let w = comment_end p s e (near e) in
      rw (same_raw_stands p number_sign low (good_high s), e, w.0)
      (ap Some (spans p (before_blanks T (next_newline T p)) low (omega (arith, low, w.1)))))
      (λ (e : raw_stands T p number_sign ≡ false). rw (same_raw_stands p number_sign low (good_high s), e) refl)
      (cases_Bool (raw_stands T p number_sign))

  -- ---- all moves

  -- a move to a good place is one from a good place, and leads to the same
  pub moves : (m : Move) (p : ℕ) → a ≤ p → G (leads m T p) → G p × (leads m U (to p) ≡ to (leads m T p))
  moves byte_on p = (moves_after p).1
  moves continuations p = (moves_joined p).1
  moves one_taken p = (moves_taken p).1
  moves (the_closer mode) p = (moves_closer mode p).1
  moves the_parameter p = (moves_parameter p).1
  moves a_quote_on p = (moves_quote p).1
  moves (escaped_on how) p = (moves_escaped how p).1
  moves blanks p = (moves_blanks p).1
  moves a_comment_on p = (moves_comment p).1
  moves the_reserved p = (moves_reserved p).1
  moves the_digits p = (moves_digits p).1
