-- What is found from line to line is the first line that is the delimiter and is not taken in.
use Rattle.std.proofs.Common.{◌≡◌, ℕ, zero, suc, ◌+◌, ◌-◌, ◌<◌, ◌≤◌, Bool, true, false, cond, not, ◌==◌, List, [], ◌∷◌, ◌++◌, length, take, drop, fold, get_or, slice_get, Option, Some, None, ◌↔◌, inl, inr, ⊎_elim, refl, sym, ap, subst, ◌∙◌, arith, get_or-drop, take-suc, length-drop}
use Rattle.std.specs.Prelude.{◌&&◌, nat_le}
use Rattle.std.proofs.lemmas.Bool.{and_left, and_parts, and_right, both_ways, cases_order, cond_both, eqb-true, le-leb, lt-leb, not-false, not-true}
use Rattle.std.proofs.lemmas.List.Sums.{fold-append}
use Rattle.std.proofs.lemmas.Option.{slice_get-get_or}
use Rattle.shgrammar.specs.Standing.{at_end, is_byte, next_newline, passes, raw_in, raw_stands}
use Rattle.shgrammar.specs.Characters.{newline_char, backslash}
use Rattle.shgrammar.specs.States.{Waiting}
use Rattle.shgrammar.specs.HereDocuments.{delimiter_below, delimiter_from, delimiter_on, is_delimiter, past_line, rest_of_line, takes_newline}
use Rattle.shgrammar.proofs.BodiesAnywhere.{bytes_same, bytes_self}
use Rattle.shgrammar.proofs.Places.{end_high, next_newline_low, not_end_low, raw_past_all, raw_past_stops}
use Rattle.shlaws.specs.Bodies.{IsDelimiterLine, IsFirstDelimiterLine, BeginsLine, backslashes_before, is_odd, is_taken_in}

-- ---- an odd number of backslashes before a newline

-- a newline is no backslash
newline_other : (T : List ℕ) (q : ℕ) → slice_get T q ≡ Some newline_char → raw_stands T q backslash ≡ false
unfolding raw_stands
newline_other T q is = ap (λ b. is_byte b backslash) is

-- none stands before the body
none_outside : (T : List ℕ) (p q : ℕ) → q ≤ p → backslashes_before T p q ≡ 0
unfolding backslashes_before
none_outside T p zero le = refl
none_outside T p (suc q) le = rw (and_left (nat_le p q) (raw_stands T q backslash) (lt-leb p q (omega arith))) refl

-- nor right before a line
none_at_start : (T : List ℕ) (p q : ℕ) → BeginsLine T p q → backslashes_before T p q ≡ 0
unfolding backslashes_before
none_at_start T p zero start = refl
none_at_start T p (suc q) start =
    let one : suc q - 1 ≡ q = omega arith in
    let none : (nat_le p q && raw_stands T q backslash) ≡ false = ⊎_elim
    (λ (same : suc q ≡ p). and_left (nat_le p q) (raw_stands T q backslash) (lt-leb p q (omega arith)))
    (λ (later : (p < suc q) × (slice_get T (suc q - 1) ≡ Some newline_char)). and_right (nat_le p q)
    (raw_stands T q backslash) (newline_other T q (rw one at later.1))) start in
    rw none refl

-- a backslash more makes an odd number one that is not, or the other way; any other byte makes it 0
odd_more : (is : Bool) (n : ℕ) (odd : Bool) → odd ≡ is_odd n → (is && not odd) ≡ is_odd (cond is (1 + n) 0)
unfolding is_odd
odd_more true n odd same = let next : 1 + n ≡ suc n = omega arith in rw (same, next) refl
odd_more false n odd same = refl

-- inside the text a backslash stands at q just where the byte there is one
backslash_at : (T : List ℕ) (q : ℕ) → q < length T → raw_stands T q backslash ≡ (get_or T q 0 == backslash)
unfolding raw_stands
backslash_at T q lt = ap (λ b. is_byte b backslash) (slice_get-get_or T q 0 lt)

-- the flag that goes over a line tells whether their number is odd
line_odd : (T : List ℕ) (p r k : ℕ) → p ≤ r → BeginsLine T p r → r + k ≤ length T
    → fold (λ odd b. b == backslash && not odd) false (take k (drop r T)) ≡ is_odd (backslashes_before T p (r + k))
unfolding is_odd backslashes_before
line_odd T p r zero low start within =
    let same : r + 0 ≡ r = omega arith in
    rw (same, none_at_start T p r start) refl
line_odd T p r (suc k) low start within =
    let next : r + suc k ≡ suc (r + k) = omega arith in
    let longer : take (suc k) (drop r T) ≡ take k (drop r T) ++ (get_or (drop r T) k 0 ∷ []) =
    take-suc (drop r T) k 0 (omega (arith, length-drop r T)) in
    let byte : (nat_le p (r + k) && raw_stands T (r + k) backslash) ≡ (get_or (drop r T) k 0 == backslash) =
    rw (le-leb p (r + k) (omega arith), backslash_at T (r + k) (omega arith), get_or-drop r T k 0) refl in
    rw (
      next,
      longer,
      fold-append (λ odd b. b == backslash && not odd) false (take k (drop r T))
          (get_or (drop r T) k 0 ∷ []),
      byte,
    )
    (odd_more (get_or (drop r T) k 0 == backslash) (backslashes_before T p (r + k))
    (fold (λ odd b. b == backslash && not odd) false (take k (drop r T))) (line_odd T p r k low start (omega arith)))

-- ---- from line to line

-- the next newline is one, where it stands in the text
newline_at : (T : List ℕ) (r : ℕ) → next_newline T r < length T → slice_get T (next_newline T r) ≡ Some newline_char
unfolding raw_in
newline_at T r lt =
    let byte = slice_get-get_or T (next_newline T r) 0 lt in
    let stops : not (get_or T (next_newline T r) 0 == newline_char) ≡ false =
    ap (passes (λ b. not (b == newline_char))) (sym byte) ∙ raw_past_stops (λ b. not (b == newline_char)) T r in
    byte ∙ ap (λ (b : ℕ). Some b) (eqb-true (get_or T (next_newline T r) 0) newline_char (not-false _ stops))

-- before the next newline none stands
no_newline : (T : List ℕ) (r k : ℕ) → r ≤ k → k < next_newline T r → ¬ (slice_get T k ≡ Some newline_char)
unfolding raw_in
no_newline T r k le lt is =
    both_ways _ (ap (passes (λ b. not (b == newline_char))) is)
    (raw_past_all (λ b. not (b == newline_char)) T r k le lt)

module _ (T : List ℕ) (w : Waiting) (p : ℕ) where
  -- at q begins the line of the delimiter
  abbrev Line : ℕ → Type 0
  Line q = IsDelimiterLine T w p q

  -- a line takes its newline just where the next line is taken in
  taken_on : (r : ℕ) → p ≤ r → BeginsLine T p r → r < length T → past_line T r < length T
      → takes_newline w (rest_of_line T r) ≡ is_taken_in T w p (past_line T r)
  taken_on r low start some more =
      let far = next_newline_low T r in
      let k = next_newline T r - r in
      let end : past_line T r - 1 ≡ r + k = omega arith in
      rw (end, line_odd T p r k low start (omega arith)) refl

  -- where a line does not end the text, the next one begins after it
  start_on : (r : ℕ) → p ≤ r → past_line T r < length T → BeginsLine T p (past_line T r)
  start_on r low more =
      let far = next_newline_low T r in
      let end : past_line T r - 1 ≡ next_newline T r = omega arith in
      inr (omega arith, ap (slice_get T) end ∙ newline_at T r (omega arith))

  -- no line begins within another
  none_between : (r m : ℕ) → p ≤ r → r < m → m < past_line T r → ¬ BeginsLine T p m
  none_between r m low lt near start =
      ⊎_elim (λ (same : m ≡ p). absurd (omega arith))
      (λ (later : (p < m) × (slice_get T (m - 1) ≡ Some newline_char)). no_newline T r (m - 1) (omega arith)
      (omega arith) later.1) start

  -- what a search finds: the first line of the delimiter, or that there is none
  abbrev Outcome : Option ℕ → Type 0
  Outcome None = (q : ℕ) → ¬ Line q
  Outcome (Some q) = IsFirstDelimiterLine T w p q

  -- where no such line begins before r, and the text goes no further, there is none
  none_left : (r : ℕ) → length T ≤ r → ((m : ℕ) → m < r → ¬ Line m) → (q : ℕ) → ¬ Line q
  none_left r end before q line = before q (omega (arith, line.inside)) line

  -- a line that is not taken in and is the delimiter is the first such line, where none begins before it
  found : (r : ℕ) (taken : Bool) → r < length T → BeginsLine T p r → taken ≡ is_taken_in T w p r
      → ((m : ℕ) → m < r → ¬ Line m)
      → (not taken && is_delimiter w (rest_of_line T r)) ≡ true → IsFirstDelimiterLine T w p r
  found r taken some start same before is =
      let both = and_parts _ _ is in
      record {
        line = record {
          start = start;
          inside = some;
          apart = sym same ∙ not-true taken both.0;
          delimiter = bytes_same _ _ both.1;
        };
        first = before;
      }

  -- a line that is taken in, or is not the delimiter, is no such line
  other_here : (r : ℕ) (taken : Bool) → taken ≡ is_taken_in T w p r
      → (not taken && is_delimiter w (rest_of_line T r)) ≡ false → ¬ Line r
  other_here r taken same other line =
      let apart : taken ≡ false = same ∙ line.apart in
      let here : is_delimiter w (rest_of_line T r) ≡ true = rw line.delimiter (bytes_self w.delimiter) in
      let both : (not taken && is_delimiter w (rest_of_line T r)) ≡ true = rw (apart, here) refl in
      both_ways _ other both

  -- where neither the line at r nor one before it is such a line, none before the next line is
  before_on : (r : ℕ) → p ≤ r → ((m : ℕ) → m < r → ¬ Line m) → ¬ Line r → (m : ℕ) → m < past_line T r
      → ¬ Line m
  before_on r low before here m near line =
      ⊎_elim (λ (same : m ≡ r). here (subst Line same line))
      (⊎_elim (λ (lt : m < r). before m lt line) (λ (gt : r < m). none_between r m low gt near line.start))
      (cases_order m r)

  -- where the search stands at r, which is a line's start if the text does not end there
  search_from : (n r : ℕ) (taken : Bool) → length T - r < n → p ≤ r → (r < length T → BeginsLine T p r)
      → (r < length T → taken ≡ is_taken_in T w p r)
      → ((m : ℕ) → m < r → ¬ Line m) → Outcome (delimiter_below n T w taken r)
  unfolding delimiter_below
  search_from zero r taken few low start same before = absurd (omega arith)
  search_from (suc n) r taken few low start same before =
      cond_both (at_end T r) _ _ Outcome (λ end. none_left r (end_high T r end) before)
      (λ more. let some = not_end_low T r more in
      let far = next_newline_low T r in
      cond_both (not taken && is_delimiter w (rest_of_line T r)) _ _ Outcome
      (λ is. found r taken some (start some) (same some) before is)
      (λ other. search_from n (past_line T r) (takes_newline w (rest_of_line T r)) (omega arith) (omega arith)
      (λ lt. start_on r low lt)
      (λ lt. taken_on r low (start some) some lt)
      (before_on r low before (other_here r taken (same some) other))))

  -- no such line begins before the body does
  none_before : (m : ℕ) → m < p → ¬ Line m
  none_before m lt line =
      ⊎_elim (λ (same : m ≡ p). absurd (omega arith))
      (λ (later : (p < m) × (slice_get T (m - 1) ≡ Some newline_char)). absurd (omega arith)) line.start

  -- the line with which the body begins is not taken in
  first_apart : is_taken_in T w p p ≡ false
  unfolding is_odd
  first_apart = and_right (not w.literal) _ (ap is_odd (none_outside T p (p - 1) (omega arith)))

  -- what is found from the start of the body on is the first such line, or that there is none
  outcome : Outcome (delimiter_from T w p)
  unfolding delimiter_on
  outcome =
      search_from (suc (length T - p)) p false (omega arith) (omega arith) (λ some. inl refl)
      (λ some. sym first_apart) none_before

  -- ---- both ways

  -- no two lines are the first one
  one_first : (m q : ℕ) → IsFirstDelimiterLine T w p m → IsFirstDelimiterLine T w p q → m ≡ q
  one_first m q a b =
      ⊎_elim (λ (same : m ≡ q). same)
      (⊎_elim (λ (lt : m < q). absurd (b.first m lt a.line)) (λ (gt : q < m). absurd (a.first q gt b.line)))
      (cases_order m q)

  -- where q is the first such line, the search has found it; where there is none, it has found none
  some_back : (q : ℕ) (o : Option ℕ) → Outcome o → IsFirstDelimiterLine T w p q → o ≡ Some q
  some_back q None never a = absurd (never q a.line)
  some_back q (Some m) here a = ap (λ (n : ℕ). Some n) (one_first m q here a)

  none_back : (o : Option ℕ) → Outcome o → ((q : ℕ) → ¬ Line q) → o ≡ None
  none_back None never none = refl
  none_back (Some m) here none = absurd (none m here.line)

  -- the body ends before the line at q just where that is the first line of the delimiter
  pub first_line : (q : ℕ) → (delimiter_from T w p ≡ Some q) ↔ IsFirstDelimiterLine T w p q
  first_line q = (λ is. subst Outcome is outcome, λ a. some_back q (delimiter_from T w p) outcome a)

  -- it ends nowhere just where there is none
  pub no_line : (delimiter_from T w p ≡ None) ↔ ((q : ℕ) → ¬ IsDelimiterLine T w p q)
  no_line = (λ is. subst Outcome is outcome, λ none. none_back (delimiter_from T w p) outcome none)
