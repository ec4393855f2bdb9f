-- A here-document written wherever: the bytes of a body that was read, and its
-- delimiter with a newline, end where they did.
use Rattle.std.proofs.Common.{◌≡◌, ℕ, zero, suc, ◌+◌, ◌-◌, ◌==◌, ◌<◌, ◌≤◌, Bool, true, false, cond, not, List, [], ◌∷◌, ◌++◌, length, take, drop, Option, Some, None, option_map, bytes_eq, refl, sym, ap, subst, ◌∙◌, arith, ⊎_elim}
use Rattle.std.specs.Prelude.{◌&&◌}
use Rattle.std.proofs.lemmas.Bool.{and_parts, cases_lt}
use Rattle.std.proofs.Math.Seq.{drop-append_seam, take-add}
use Rattle.std.proofs.lemmas.Bool.Decides.{nat_tests}
use Rattle.std.proofs.lemmas.List.{drop-drop, length-append, length-drop, length-take-le, take-append-drop, take-append-le}
use Rattle.shgrammar.specs.Characters.{newline_char, tab}
use Rattle.shgrammar.specs.Standing.{count_front, raw_past}
use Rattle.shgrammar.specs.Sights.{Waiting}
use Rattle.shgrammar.specs.HereDocuments.{ADelimiter, stripped, past_line, is_delimiter, takes_newline, delimiter_on, delimiter_from}
use Rattle.shgrammar.specs.Commands.{document}
use Rattle.shgrammar.specs.Form.{raw}
use Rattle.shgrammar.proofs.BodiesAlone.{width, front, past_front, is_whole_lines, whole_lines_drop, first_line_ends, turn, found_in, by_turn, turn_alone, none_found, found_at, from_found}
use Rattle.shgrammar.proofs.Delimiters.{delimiter_between}

-- ---- bytes that are compared

-- bytes are told to be the same as themselves, and as no others
pub bytes_self : (xs : List ℕ) → bytes_eq xs xs ≡ true
bytes_self [] = refl
bytes_self (b ∷ xs) = let same : (b == b) ≡ true = grind (arith, nat_tests) in rw same (bytes_self xs)

pub bytes_same : (xs ys : List ℕ) → bytes_eq xs ys ≡ true → xs ≡ ys
bytes_same [] [] is = refl
bytes_same [] (c ∷ ys) is = absurd cc
bytes_same (b ∷ xs) [] is = absurd cc
bytes_same (b ∷ xs) (c ∷ ys) is =
    let parts = and_parts (b == c) (bytes_eq xs ys) is in
    let first : b ≡ c = grind (arith, nat_tests, parts.0) in
    rw first (ap (λ l. c ∷ l) (bytes_same xs ys parts.1))

-- ---- tabs that are taken off

-- where leading tabs were taken off none is left to take off
stripped_twice_by : (b : ℕ) (X : List ℕ) →
    drop (count_front (λ c. c == tab) (drop (count_front (λ c. c == tab) X) X)) (drop (count_front (λ c. c == tab) X) X)
    ≡ drop (count_front (λ c. c == tab) X) X
    → (t : Bool) → (b == tab) ≡ t → stripped true (stripped true (b ∷ X)) ≡ stripped true (b ∷ X)
unfolding count_front
stripped_twice_by b X more true is = let next : 1 + count_front (λ c. c == tab) X
    ≡ suc (count_front (λ c. c == tab) X) =
    omega arith in rw (is, next) more
stripped_twice_by b X more false is = rw is (rw is refl)

stripped_more : (X : List ℕ) → stripped true (stripped true X) ≡ stripped true X
unfolding count_front
stripped_more [] = refl
stripped_more (b ∷ X) = stripped_twice_by b X (stripped_more X) (b == tab) refl

pub stripped_twice : (strip : Bool) (X : List ℕ) → stripped strip (stripped strip X) ≡ stripped strip X
stripped_twice true X = stripped_more X
stripped_twice false X = refl

-- ---- lines without their newline

-- no newline is among these bytes
abbrev pub AreText : List ℕ → Type 0
AreText X = width X ≡ length X

-- how long the first line is, by the first byte
text_first : (b : ℕ) (X : List ℕ) → (b == newline_char) ≡ false → width (b ∷ X) ≡ suc (width X)
unfolding count_front
text_first b X is = rw is (omega arith)

newline_first : (b : ℕ) (X : List ℕ) → (b == newline_char) ≡ true → width (b ∷ X) ≡ 0
unfolding count_front
newline_first b X is = rw is refl

-- bytes without a newline stay so without their first one, the first n, and leading tabs
text_parts : (b : ℕ) (X : List ℕ) → AreText (b ∷ X) → (t : Bool) → (b == newline_char) ≡ t →
    ((b == newline_char) ≡ false) × AreText X
text_parts b X is true e = absurd (let none = newline_first b X e in omega (arith, none, is))
text_parts b X is false e = let more = text_first b X e in (e, omega (arith, more, is))

text_drop : (n : ℕ) (X : List ℕ) → AreText X → AreText (drop n X)
text_drop zero X is = is
text_drop (suc n) [] is = is
text_drop (suc n) (b ∷ X) is = text_drop n X (text_parts b X is (b == newline_char) refl).1

pub text_stripped : (strip : Bool) (X : List ℕ) → AreText X → AreText (stripped strip X)
text_stripped true X is = text_drop _ X is
text_stripped false X is = is

-- the empty text has no newline, and the first line of a text has none
none_text : AreText []
unfolding count_front
none_text = refl

text_front_by : (b : ℕ) (X : List ℕ) → AreText (front X) → (t : Bool) → (b == newline_char) ≡ t →
    AreText (front (b ∷ X))
text_front_by b X more true is = let none = newline_first b X is in rw none none_text
text_front_by b X more false is =
    let one = text_first b X is in
    let two = text_first b (front X) is in
    rw one (omega (arith, two, more))

pub text_front : (X : List ℕ) → AreText (front X)
unfolding count_front
text_front [] = none_text
text_front (b ∷ X) = text_front_by b X (text_front X) (b == newline_char) refl

-- a line and its newline
line_width : (X Z : List ℕ) → AreText X → width (X ++ 10 ∷ Z) ≡ length X
unfolding count_front
line_width [] Z is = refl
line_width (b ∷ X) Z is =
    let parts = text_parts b X is (b == newline_char) refl in
    text_first b (X ++ 10 ∷ Z) parts.0 ∙ ap suc (line_width X Z parts.1)

line_front : (X Z : List ℕ) → AreText X → front (X ++ 10 ∷ Z) ≡ X
line_front X Z is =
    ap (λ k. take k (X ++ 10 ∷ Z)) (line_width X Z is) ∙ take-append-le (length X) X (10 ∷ Z) (omega arith) ∙ take_all X
  where
    take_all : (X : List ℕ) → take (length X) X ≡ X
    take_all [] = refl
    take_all (b ∷ X) = ap (λ l. b ∷ l) (take_all X)

module _ (w : Waiting) where
  -- ---- what is found where the bytes begin

  -- the delimiter's line is found here
  found_first : (m : ℕ) (X : List ℕ) → 0 < length X → is_delimiter w (front X) ≡ true →
      found_in w (suc m) false X ≡ Some 0
  unfolding found_in
  found_first m [] some is = absurd (omega (arith, some))
  found_first m (b ∷ bs) some is = rw is refl

  -- where it is found at the front, the first line is the delimiter's, and no line before takes it in
  free_by : (taken : Bool) (b : ℕ) (bs : List ℕ) (k : ℕ) (rest : Option ℕ) → 0 < k → (t : Bool) →
      (not taken && is_delimiter w (front (b ∷ bs))) ≡ t
      → cond t (Some 0) (option_map (λ (q : ℕ). k + q) rest) ≡ Some 0 → (taken ≡ false)
      × (is_delimiter w (front (b ∷ bs)) ≡ true)
  free_by true b bs k rest some true is found = absurd cc
  free_by false b bs k rest some true is found = (refl, is)
  free_by taken b bs k None some false is found = absurd cc
  free_by taken b bs k (Some q) some false is found = let none : k + q ≡ 0 = cc in absurd (omega (arith, none, some))

  free_first : (n : ℕ) (taken : Bool) (Y : List ℕ) → found_in w n taken Y ≡ Some 0 → (taken ≡ false)
      × (is_delimiter w (front Y) ≡ true)
  unfolding found_in
  free_first zero taken Y found = absurd cc
  free_first (suc n) taken [] found = absurd cc
  free_first (suc n) taken (b ∷ bs) found =
      free_by taken b bs (past_front (b ∷ bs))
      (found_in w n (takes_newline w (front (b ∷ bs))) (drop (past_front (b ∷ bs)) (b ∷ bs))) (omega arith)
      (not taken && is_delimiter w (front (b ∷ bs))) refl found

  -- ---- the same body, and other bytes after it that begin with the delimiter's line

  pub found_rewritten : (n m : ℕ) (taken : Bool) (L Y Z : List ℕ) → is_whole_lines L ≡ true → length L < m →
      ((k : ℕ) → found_in w (suc k) false Z ≡ Some 0)
      → found_in w n taken (L ++ Y) ≡ Some (length L) → found_in w m taken (L ++ Z) ≡ Some (length L)
  found_rewritten n zero taken L Y Z so many start found = absurd (omega (arith, many))
  found_rewritten n (suc m) taken [] Y Z so many start found = let free = free_first n taken Y found in
      rw free.0 (start m)
  found_rewritten zero (suc m) taken (b ∷ bs) Y Z so many start found =
      none_found w ((b ∷ bs) ++ Y) taken (length (b ∷ bs)) found
  found_rewritten (suc n) (suc m) taken (b ∷ bs) Y Z so many start found =
      let e = first_line_ends b bs Y so in
      let line = front (b ∷ bs) in
      let k = width (b ∷ bs) + 1 in
      let rest = drop k (b ∷ bs) in
      let left : length rest ≡ length (b ∷ bs) - k = length-drop k (b ∷ bs) in
      by_turn w m taken b bs Z so
      ∙ turn_alone w k (length (b ∷ bs)) (found_in w n (takes_newline w line) (rest ++ Y))
      (found_in w m (takes_newline w line) (rest ++ Z))
      (λ j r is. let all : j ≡ length rest = omega (arith, is, left, e.1) in
      found_rewritten n m (takes_newline w line) rest Y Z (whole_lines_drop k (b ∷ bs) so)
      (omega (arith, many, left, e.1)) start
      (r ∙ ap (λ (x : ℕ). Some x) all) ∙ ap (λ (x : ℕ). Some x) (sym all))
      (not taken && is_delimiter w line) (sym (by_turn w n taken b bs Y so) ∙ found)

  -- ---- what was found is a body and a delimiter

  -- two texts whose last lines end in a newline are one such text, one after the other
  whole_lines_join : (X Y : List ℕ) → is_whole_lines X ≡ true → is_whole_lines Y ≡ true → is_whole_lines (X ++ Y) ≡ true
  unfolding is_whole_lines
  whole_lines_join [] Y one two = two
  whole_lines_join (b ∷ []) [] one two = one
  whole_lines_join (b ∷ []) (c ∷ Y) one two = two
  whole_lines_join (b ∷ c ∷ X) Y one two = whole_lines_join (c ∷ X) Y one two

  -- the first line with its newline is such a text, by the first byte
  first_line_by : (b : ℕ) (X : List ℕ) → (width X < length X → is_whole_lines (take (suc (width X)) X) ≡ true) →
      width (b ∷ X) < length (b ∷ X) → (t : Bool) → (b == newline_char) ≡ t
      → is_whole_lines (take (suc (width (b ∷ X))) (b ∷ X)) ≡ true
  unfolding is_whole_lines
  first_line_by b X more some true is = let none = newline_first b X is in rw none is
  first_line_by b [] more some false is = let one = text_first b [] is in absurd (omega (arith, one, some))
  first_line_by b (c ∷ cs) more some false is = let one = text_first b (c ∷ cs) is in
      rw one (more (omega (arith, one, some)))

  -- a line that is not the last one, with its newline
  first_line : (X : List ℕ) → width X < length X → is_whole_lines (take (suc (width X)) X) ≡ true
  first_line [] some = absurd (omega (arith, some))
  first_line (b ∷ X) some = first_line_by b X (first_line X) some (b == newline_char) refl

  -- in no bytes nothing is found
  none_in : {A : Type 0} (n : ℕ) (taken : Bool) (i : ℕ) → found_in w n taken [] ≡ Some i → A
  unfolding found_in
  none_in zero taken i found = absurd cc
  none_in (suc n) taken i found = absurd cc

  -- up to the delimiter's line whole lines stand
  pub record Cut (X : List ℕ) (i : ℕ) : Type 0 where
    pub lines : is_whole_lines (take i X) ≡ true
    pub within : i ≤ length X
    pub line : is_delimiter w (front (drop i X)) ≡ true

  -- so it is where the first line is the delimiter's, and where it is found after that
  cut_here : (X : List ℕ) (i : ℕ) → is_delimiter w (front X) ≡ true → 0 ≡ i → Cut X i
  unfolding is_whole_lines
  cut_here X i is none = subst (λ n. Cut X n) none (record { lines = refl; within = omega arith; line = is })

  cut_on : (n : ℕ) (taken : Bool) (X : List ℕ) (j : ℕ) → found_in w n taken (drop (past_front X) X) ≡ Some j →
      Cut (drop (past_front X) X) j → Cut X (past_front X + j)
  cut_on n taken X j found rest =
      let k = past_front X in
      let left : length (drop k X) ≡ length X - k = length-drop k X in
      let whole : is_whole_lines (take k X) ≡ true = ⊎_elim
      (λ lt. let is : k ≡ suc (width X) = omega (arith, lt) in ap (λ m. is_whole_lines (take m X)) is ∙ first_line X lt)
      (λ ge. none_in n taken j (ap (found_in w n taken) (sym (empty_row (drop k X) (omega (arith, ge, left)))) ∙ found))
      (cases_lt (width X) (length X)) in
      record {
        lines = ap is_whole_lines (take-add k j X) ∙ whole_lines_join (take k X) (take j (drop k X)) whole rest.lines;
        within = omega (arith, left, rest.within);
        line = ap (λ R. is_delimiter w (front R)) (sym (drop-drop j k X)) ∙ rest.line;
      }
    where
      empty_row : (X : List ℕ) → length X ≡ 0 → X ≡ []
      empty_row [] is = refl
      empty_row (b ∷ X) is = absurd (omega (arith, is))

  -- and so it is of whatever was found
  cut_by : (n : ℕ) (taken : Bool) (b : ℕ) (bs : List ℕ) (i : ℕ) (r : Option ℕ) →
      found_in w n taken (drop (past_front (b ∷ bs)) (b ∷ bs)) ≡ r →
      ((j : ℕ) → r ≡ Some j → Cut (drop (past_front (b ∷ bs)) (b ∷ bs)) j)
      → (before : Bool) (t : Bool) → (not before && is_delimiter w (front (b ∷ bs))) ≡ t →
      cond t (Some 0) (option_map (λ (q : ℕ). past_front (b ∷ bs) + q) r) ≡ Some i → Cut (b ∷ bs) i
  cut_by n taken b bs i r is more true true e found = absurd cc
  cut_by n taken b bs i r is more false true e found = cut_here (b ∷ bs) i e cc
  cut_by n taken b bs i None is more before false e found = absurd cc
  cut_by n taken b bs i (Some j) is more before false e found = let all : past_front (b ∷ bs) + j ≡ i = cc in
      subst (λ m. Cut (b ∷ bs) m) all (cut_on n taken (b ∷ bs) j is (more j refl))

  pub cut_where_found : (n : ℕ) (taken : Bool) (X : List ℕ) (i : ℕ) → found_in w n taken X ≡ Some i → Cut X i
  unfolding found_in
  cut_where_found zero taken X i found = absurd cc
  cut_where_found (suc n) taken [] i found = absurd cc
  cut_where_found (suc n) taken (b ∷ bs) i found =
      let rest = found_in w n (takes_newline w (front (b ∷ bs))) (drop (past_front (b ∷ bs)) (b ∷ bs)) in
      cut_by n (takes_newline w (front (b ∷ bs))) b bs i rest refl
      (λ j is. cut_where_found n (takes_newline w (front (b ∷ bs))) (drop (past_front (b ∷ bs)) (b ∷ bs)) j is)
      taken (not taken && is_delimiter w (front (b ∷ bs))) refl found

-- where the operator stands makes no difference
same_found : (b c : ℕ) (strip : Bool) (d : ADelimiter) (n : ℕ) (taken : Bool) (X : List ℕ) →
    found_in (document b strip d) n taken X ≡ found_in (document c strip d) n taken X
unfolding found_in
same_found b c strip d zero taken X = refl
same_found b c strip d (suc n) taken [] = refl
same_found b c strip d (suc n) taken (x ∷ xs) =
    ap (λ r. turn (document b strip d) taken (front (x ∷ xs)) (past_front (x ∷ xs)) r)
    (same_found b c strip d n (takes_newline (document b strip d) (front (x ∷ xs)))
    (drop (past_front (x ∷ xs)) (x ∷ xs)))

-- ---- a document, wherever its body and the line of its delimiter stand

-- where the bytes t stand, and the delimiter as a line after them, the document ends after t
pub record DocumentAnywhere (strip : Bool) (d : ADelimiter) (t : List ℕ) : Type 0 where
  pub ends_there : (U : List ℕ) (b r : ℕ) (Z : List ℕ) → r ≤ length U → drop r U ≡ t ++ (d.text ++ 10 ∷ Z) →
      delimiter_from U (document b strip d) r ≡ Some (r + length t)
  pub past_it : (U : List ℕ) (r : ℕ) (Z : List ℕ) → r ≤ length U → drop r U ≡ t ++ (d.text ++ 10 ∷ Z) →
      past_line U (r + length t) ≡ r + (length t + (length d.text + 1))

module _ (T : List ℕ) (b p q : ℕ) (strip : Bool) (d : ADelimiter) (within : p ≤ length T)
    (found : delimiter_from T (document b strip d) p ≡ Some q) where
  -- the document that waits, the bytes from where its body begins, and how many of them are the body
  abbrev w : Waiting
  w = document b strip d

  abbrev bytes : List ℕ
  bytes = drop p T

  abbrev i : ℕ
  i = q - p

  -- after so many bytes the delimiter's line is found, and up to there whole lines stand
  found_here : found_in w (suc (length T - p)) false bytes ≡ Some i
  unfolding delimiter_on
  found_here =
      let low = (delimiter_between T w false p q found).0 in
      let is : q ≡ p + i = omega (arith, low) in
      from_found w p i (found_in w (suc (length T - p)) false bytes)
      (sym (found_at w (suc (length T - p)) false T p within) ∙ found ∙ ap (λ (x : ℕ). Some x) is)

  cut_here_is : Cut w bytes i
  cut_here_is = cut_where_found w (suc (length T - p)) false bytes i found_here

  -- once stripped that line is the delimiter, which has no newline and ends the document as a line
  abbrev line : List ℕ
  line = front (drop i bytes)

  line_is : stripped strip line ≡ d.text
  line_is = bytes_same (stripped strip line) d.text cut_here_is.line

  delimiter_text : AreText d.text
  delimiter_text = subst AreText line_is (text_stripped strip line (text_front (drop i bytes)))

  its_own : is_delimiter w d.text ≡ true
  its_own =
      let same : stripped strip d.text ≡ d.text = ap (stripped strip) (sym line_is) ∙ stripped_twice strip line
      ∙ line_is in
      ap (λ X. bytes_eq X d.text) same ∙ bytes_self d.text

  -- a text with a byte in it is not empty
  some_there : (X Z : List ℕ) (c : ℕ) → 0 < length (X ++ c ∷ Z)
  some_there [] Z c = omega arith
  some_there (b ∷ X) Z c = omega arith

  -- where the delimiter and a newline are the first bytes, its line is found there
  starts : (Z : List ℕ) (k : ℕ) → found_in w (suc k) false (d.text ++ 10 ∷ Z) ≡ Some 0
  starts Z k = found_first w k (d.text ++ 10 ∷ Z) (some_there d.text Z 10)
      (ap (is_delimiter w) (line_front d.text Z delimiter_text) ∙ its_own)

  -- the body has so many bytes, and after them the delimiter's line is found
  long : length (take i bytes) ≡ i
  long = length-take-le i bytes cut_here_is.within

  found_whole : found_in w (suc (length T - p)) false (take i bytes ++ drop i bytes) ≡ Some (length (take i bytes))
  found_whole = ap (found_in w (suc (length T - p)) false) (take-append-drop i bytes) ∙ found_here
      ∙ ap (λ (x : ℕ). Some x) (sym long)

  -- so the bytes of the body are such, wherever they stand
  pub document_anywhere : DocumentAnywhere strip d (raw T p q)
  unfolding delimiter_on raw_past
  document_anywhere = record {
    ends_there = λ U c r Z inside here.
        let L = take i bytes in
        let size : length (drop r U) ≡ length L + length (d.text ++ 10 ∷ Z) = ap length here
        ∙ length-append L (d.text ++ 10 ∷ Z) in
        found_at (document c strip d) (suc (length U - r)) false U r inside
        ∙ ap (option_map (λ (n : ℕ). r + n))
        (ap (found_in (document c strip d) (suc (length U - r)) false) here
        ∙ same_found c b strip d (suc (length U - r)) false (L ++ (d.text ++ 10 ∷ Z))
        ∙ found_rewritten w (suc (length T - p)) (suc (length U - r)) false L (drop i bytes)
        (d.text ++ 10 ∷ Z) cut_here_is.lines (omega (arith, size, length-drop r U)) (starts Z) found_whole);
    past_it = λ U r Z inside here.
        let L = take i bytes in
        let rest : drop (r + length L) U ≡ d.text ++ 10 ∷ Z = skipped U r L (d.text ++ 10 ∷ Z) here in
        let wide : width (drop (r + length L) U) ≡ length d.text = ap width rest ∙ line_width d.text Z delimiter_text in
        let size : length U - r ≡ length L + (length d.text + suc (length Z)) = sym (length-drop r U) ∙ ap length here
        ∙ length-append L (d.text ++ 10 ∷ Z) ∙ ap (λ n. length L + n) (length-append d.text (10 ∷ Z)) in
        omega (arith, wide, size, inside);
  }
    where
      skipped : (U : List ℕ) (r : ℕ) (L Z : List ℕ) → drop r U ≡ L ++ Z → drop (r + length L) U ≡ Z
      skipped U r L Z here = sym (drop-drop (length L) r U) ∙ ap (drop (length L)) here ∙ drop-append_seam L Z
