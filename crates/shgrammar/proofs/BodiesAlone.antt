-- Where a here-document ends is found in the bytes from where its body begins, wherever they
-- stand, and in no byte after the newline of its delimiter.
use Rattle.std.proofs.Common.{◌≡◌, ℕ, zero, suc, ◌+◌, ◌-◌, ◌==◌, ◌<◌, ◌≤◌, Bool, true, false, cond, not, List, [], ◌∷◌, ◌++◌, List as Row, length, take, drop, Option, Some, None, option_map, Ok, slice_get, refl, sym, ap, subst, ◌∙◌, arith}
use Rattle.std.specs.Prelude.{◌&&◌, min, Result}
use Rattle.std.proofs.lemmas.List.{length-append, length-drop, drop-drop, take-append-le, drop-append-le}
use Rattle.shgrammar.specs.Standing.{at_end, is_none, count_front, raw_past}
use Rattle.shgrammar.specs.Characters.{newline_char}
use Rattle.shast.specs.declared.tree.Span.{Span}
use Rattle.shgrammar.specs.declared.fault.Fault.{Fault}
use Rattle.shgrammar.specs.Comments.{span}
use Rattle.shgrammar.specs.Sights.{Waiting, given}
use Rattle.shgrammar.specs.HereDocuments.{rest_of_line, past_line, is_delimiter, takes_newline, delimiter_below, delimiter_on, delimiter_from, body_by, bodies_from}
use Rattle.shgrammar.proofs.Stretches.{get_drop}
use Rattle.shgrammar.proofs.Places.{next_newline_low}
use Rattle.shgrammar.proofs.Delimiters.{delimiter_between, bodies_go, past_line_high}
use Rattle.shgrammar.specs.declared.edition.Edition.{Edition}

-- a byte that is no newline
abbrev pub is_text : ℕ → Bool
is_text b = not (b == newline_char)

-- the bytes of the first line, and where the next one begins
abbrev pub width : List ℕ → ℕ
width X = count_front is_text X

abbrev pub front : List ℕ → List ℕ
front X = take (width X) X

abbrev pub past_front : List ℕ → ℕ
past_front X = min (width X + 1) (length X)

-- ---- texts whose last line ends in a newline

-- the last byte is a newline, or there is none
unfoldable pub is_whole_lines : List ℕ → Bool
is_whole_lines [] = true
is_whole_lines (b ∷ []) = b == newline_char
is_whole_lines (b ∷ c ∷ bs) = is_whole_lines (c ∷ bs)

-- without its first bytes such a text is one too
pub whole_lines_drop : (n : ℕ) (L : List ℕ) → is_whole_lines L ≡ true → is_whole_lines (drop n L) ≡ true
unfolding is_whole_lines
whole_lines_drop zero L so = so
whole_lines_drop (suc n) [] so = refl
whole_lines_drop (suc n) (b ∷ []) so = whole_lines_drop n [] refl
whole_lines_drop (suc n) (b ∷ c ∷ bs) so = whole_lines_drop n (c ∷ bs) so

-- its first line ends in it, whatever follows
abbrev pub FirstLineEnds : List ℕ → List ℕ → Type 0
FirstLineEnds L Y = (width (L ++ Y) ≡ width L) × (width L < length L)

-- so it is of each such text that is not empty
ends_by : (b : ℕ) (L Y : List ℕ) → ((b == newline_char) ≡ false → FirstLineEnds L Y) → (t : Bool) →
    (b == newline_char) ≡ t → FirstLineEnds (b ∷ L) Y
unfolding count_front
ends_by b L Y more true is = (rw is refl, rw is (omega arith))
ends_by b L Y more false is =
    let r = more is in
    (rw (is, r.0) refl, rw is (omega (arith, r.1)))

pub first_line_ends : (b : ℕ) (bs Y : List ℕ) → is_whole_lines (b ∷ bs) ≡ true → FirstLineEnds (b ∷ bs) Y
unfolding is_whole_lines
first_line_ends b [] Y so = ends_by b [] Y (λ other. absurd (cc)) (b == newline_char) refl
first_line_ends b (c ∷ bs) Y so = ends_by b (c ∷ bs) Y (λ other. first_line_ends c bs Y so) (b == newline_char) refl

module _ (w : Waiting) where
  -- the first line, or what is found after it
  abbrev pub turn : Bool → List ℕ → ℕ → Option ℕ → Option ℕ
  turn taken line k rest = cond (not taken && is_delimiter w line) (Some 0) (option_map (λ (q : ℕ). k + q) rest)

  -- where the delimiter's line begins among these bytes
  unfoldable pub found_in : ℕ → Bool → List ℕ → Option ℕ
  found_in zero taken X = None
  found_in (suc n) taken [] = None
  found_in (suc n) taken (b ∷ bs) =
      turn taken (front (b ∷ bs)) (past_front (b ∷ bs))
      (found_in n (takes_newline w (front (b ∷ bs))) (drop (past_front (b ∷ bs)) (b ∷ bs)))

  -- ---- what follows makes no difference

  -- in such a text the search looks at its first line, and then at the rest of it
  pub by_turn : (n : ℕ) (taken : Bool) (b : ℕ) (bs Y : List ℕ) → is_whole_lines (b ∷ bs) ≡ true
      → found_in (suc n) taken ((b ∷ bs) ++ Y)
      ≡ turn taken (front (b ∷ bs)) (width (b ∷ bs) + 1)
      (found_in n (takes_newline w (front (b ∷ bs))) (drop (width (b ∷ bs) + 1) (b ∷ bs) ++ Y))
  unfolding found_in
  by_turn n taken b bs Y so =
      let e = first_line_ends b bs Y so in
      let same : front ((b ∷ bs) ++ Y) ≡ front (b ∷ bs) = ap (λ k. take k ((b ∷ bs) ++ Y)) e.0
      ∙ take-append-le (width (b ∷ bs)) (b ∷ bs) Y (omega (arith, e.1)) in
      let past : past_front ((b ∷ bs) ++ Y) ≡ width (b ∷ bs) + 1 = omega (arith, e.0, e.1, length-append (b ∷ bs) Y) in
      let left : drop (width (b ∷ bs) + 1) ((b ∷ bs) ++ Y) ≡ drop (width (b ∷ bs) + 1) (b ∷ bs) ++ Y =
      drop-append-le (width (b ∷ bs) + 1) (b ∷ bs) Y (omega (arith, e.1)) in
      ap (λ l. turn taken l (past_front ((b ∷ bs) ++ Y))
      (found_in n (takes_newline w l) (drop (past_front ((b ∷ bs) ++ Y)) ((b ∷ bs) ++ Y)))) same
      ∙ ap (λ k. turn taken (front (b ∷ bs)) k (found_in n (takes_newline w (front (b ∷ bs))) (drop k ((b ∷ bs) ++ Y))))
      past
      ∙ ap (λ X. turn taken (front (b ∷ bs)) (width (b ∷ bs) + 1) (found_in n (takes_newline w (front (b ∷ bs))) X))
      left

  -- where the rest finds the same, so does one turn
  pub turn_alone : (k i : ℕ) (rest other : Option ℕ) → ((j : ℕ) → rest ≡ Some j → k + j ≡ i → other ≡ Some j) →
      (t : Bool)
      → cond t (Some 0) (option_map (λ (q : ℕ). k + q) rest) ≡ Some i →
      cond t (Some 0) (option_map (λ (q : ℕ). k + q) other) ≡ Some i
  turn_alone k i rest other more true found = found
  turn_alone k i None other more false found = absurd cc
  turn_alone k i (Some j) other more false found = rw (more j refl cc) found

  -- without a turn nothing is found
  pub none_found : {A : Type 0} (X : List ℕ) (taken : Bool) (i : ℕ) → found_in zero taken X ≡ Some i → A
  unfolding found_in
  none_found X taken i found = absurd cc

  -- what is found in such a text is found there whatever follows it
  pub found_alone : (n m : ℕ) (taken : Bool) (L Y Z : List ℕ) (i : ℕ) → is_whole_lines L ≡ true → length L < m
      → found_in n taken (L ++ Y) ≡ Some i → i < length L → found_in m taken (L ++ Z) ≡ Some i
  found_alone n m taken [] Y Z i so many found before = absurd (omega arith)
  found_alone n zero taken (b ∷ bs) Y Z i so many found before = absurd (omega arith)
  found_alone zero (suc m) taken (b ∷ bs) Y Z i so many found before = none_found ((b ∷ bs) ++ Y) taken i found
  found_alone (suc n) (suc m) taken (b ∷ bs) Y Z i so many found before =
      let e = first_line_ends b bs Y so in
      let line = front (b ∷ bs) in
      let rest = drop (width (b ∷ bs) + 1) (b ∷ bs) in
      let left : length rest ≡ length (b ∷ bs) - (width (b ∷ bs) + 1) = length-drop (width (b ∷ bs) + 1) (b ∷ bs) in
      by_turn m taken b bs Z so
      ∙ turn_alone (width (b ∷ bs) + 1) i (found_in n (takes_newline w line) (rest ++ Y))
      (found_in m (takes_newline w line) (rest ++ Z))
      (λ j r is. found_alone n m (takes_newline w line) rest Y Z j (whole_lines_drop (width (b ∷ bs) + 1) (b ∷ bs) so)
      (omega (arith, many, left, e.1)) r (omega (arith, before, is, left, e.1)))
      (not taken && is_delimiter w line) (sym (by_turn n taken b bs Y so) ∙ found)

  -- ---- nor does where the bytes stand

  -- a place that counts from p + k is one that counts from k, and then from p
  over : (p k : ℕ) (r : Option ℕ) →
      option_map (λ (q : ℕ). (p + k) + q) r ≡ option_map (λ (q : ℕ). p + q) (option_map (λ (q : ℕ). k + q) r)
  over p k None = refl
  over p k (Some q) = ap (λ (x : ℕ). Some x) (omega arith)

  over_turn : (p k : ℕ) (r : Option ℕ) (t : Bool)
      → cond t (Some p) (option_map (λ (q : ℕ). (p + k) + q) r)
      ≡ option_map (λ (q : ℕ). p + q) (cond t (Some 0) (option_map (λ (q : ℕ). k + q) r))
  over_turn p k r true = ap (λ (x : ℕ). Some x) (omega arith)
  over_turn p k r false = over p k r

  -- the text ends at p where no byte is left from p on
  end_there : (T : List ℕ) (p : ℕ) → at_end T p ≡ is_none (slice_get (drop p T) 0)
  unfolding at_end
  end_there T p =
      let is : p + 0 ≡ p = omega arith in
      ap is_none (ap (slice_get T) (sym is) ∙ sym (get_drop p T 0))

  -- one turn, where those after it are so
  found_by : (n : ℕ) (taken : Bool) (T : List ℕ) (p : ℕ) (X : List ℕ) → drop p T ≡ X → p ≤ length T
      → ((t : Bool) (r : ℕ) → r ≤ length T →
      delimiter_below n T w t r ≡ option_map (λ (q : ℕ). r + q) (found_in n t (drop r T)))
      → delimiter_below (suc n) T w taken p ≡ option_map (λ (q : ℕ). p + q) (found_in (suc n) taken X)
  unfolding found_in delimiter_below raw_past
  found_by n taken T p [] is within more = rw (end_there T p, is) refl
  found_by n taken T p (b ∷ bs) is within more =
      let long : length (b ∷ bs) ≡ length T - p = ap length (sym is) ∙ length-drop p T in
      let wide : past_line T p ≡ p + past_front (b ∷ bs) = ap (λ X. min (p + width X + 1) (length T)) is
      ∙ omega (arith, long, within) in
      let line : rest_of_line T p ≡ front (b ∷ bs) = ap (λ X. take ((p + width X) - p) X) is
      ∙ ap (λ k. take k (b ∷ bs)) (omega arith) in
      let left : drop (p + past_front (b ∷ bs)) T ≡ drop (past_front (b ∷ bs)) (b ∷ bs) =
      sym (drop-drop (past_front (b ∷ bs)) p T) ∙ ap (drop (past_front (b ∷ bs))) is in
      let start : at_end T p ≡ false = end_there T p ∙ ap (λ X. is_none (slice_get X 0)) is in
      rw (
        start,
        line,
        wide,
        more (takes_newline w (front (b ∷ bs))) (p + past_front (b ∷ bs))
            (omega (arith, long, within)),
        left,
      )
      (over_turn p (past_front (b ∷ bs))
      (found_in n (takes_newline w (front (b ∷ bs))) (drop (past_front (b ∷ bs)) (b ∷ bs)))
      (not taken && is_delimiter w (front (b ∷ bs))))

  -- the place is that in the bytes from p on
  pub found_at : (n : ℕ) (taken : Bool) (T : List ℕ) (p : ℕ) → p ≤ length T →
      delimiter_below n T w taken p ≡ option_map (λ (q : ℕ). p + q) (found_in n taken (drop p T))
  unfolding found_in delimiter_below
  found_at zero taken T p within = refl
  found_at (suc n) taken T p within = found_by n taken T p (drop p T) refl within (λ t r. found_at n t T r)

  -- where the place is p + q, what was found is q
  pub from_found : (p q : ℕ) (r : Option ℕ) → option_map (λ (i : ℕ). p + i) r ≡ Some (p + q) → r ≡ Some q
  from_found p q None is = absurd cc
  from_found p q (Some i) is =
      let same : p + i ≡ p + q = cc in
      ap (λ (x : ℕ). Some x) (omega (arith, same))

  -- L stands in one text from p on, and in another from r on, and its last byte is a
  -- newline: a document that ends in L ends there in both
  pub same_delimiter : (T U L Y Z : List ℕ) (p r q : ℕ) → p ≤ length T → r ≤ length U → drop p T ≡ L ++ Y →
      drop r U ≡ L ++ Z → is_whole_lines L ≡ true → q < length L
      → delimiter_from T w p ≡ Some (p + q) → delimiter_from U w r ≡ Some (r + q)
  unfolding delimiter_on
  same_delimiter T U L Y Z p r q within inside here there so before found =
      let size : length (drop r U) ≡ length L + length Z = ap length there ∙ length-append L Z in
      let read : found_in (suc (length T - p)) false (L ++ Y) ≡ Some q =
      from_found p q _ (ap (λ X. option_map (λ (i : ℕ). p + i) (found_in (suc (length T - p)) false X)) (sym here)
      ∙ sym (found_at (suc (length T - p)) false T p within) ∙ found) in
      found_at (suc (length U - r)) false U r inside
      ∙ ap (λ X. option_map (λ (i : ℕ). r + i) (found_in (suc (length U - r)) false X)) there
      ∙ ap (option_map (λ (i : ℕ). r + i))
      (found_alone (suc (length T - p)) (suc (length U - r)) false L Y Z q so
      (omega (arith, size, length-drop r U)) read before)

-- ---- bodies

-- so it is of each text that ends in a newline and is not empty
ends_some : (D Y : List ℕ) → is_whole_lines D ≡ true → 0 < length D → FirstLineEnds D Y
ends_some [] Y so some = absurd (omega arith)
ends_some (b ∷ bs) Y so some = first_line_ends b bs Y so

-- the line from there on ends in L
abbrev step_in : List ℕ → ℕ → ℕ
step_in L q = q + (width (drop q L) + 1)

-- the line that begins at q in L ends in L
past_in : (T L Y : List ℕ) (p q : ℕ) → p ≤ length T → drop p T ≡ L ++ Y → is_whole_lines L ≡ true → q < length L →
    (past_line T (p + q) ≡ p + step_in L q) × (step_in L q ≤ length L)
unfolding raw_past
past_in T L Y p q within here so before =
    let left : length (drop q L) ≡ length L - q = length-drop q L in
    let e = ends_some (drop q L) Y (whole_lines_drop q L so) (omega (arith, left, before)) in
    let rest : drop (p + q) T ≡ drop q L ++ Y = sym (drop-drop q p T) ∙ ap (drop q) here
    ∙ drop-append-le q L Y (omega (arith, before)) in
    let wide : width (drop (p + q) T) ≡ width (drop q L) = ap width rest ∙ e.0 in
    let size : length T - p ≡ length L + length Y = sym (length-drop p T) ∙ ap length here ∙ length-append L Y in
    (omega (arith, wide, e.1, left, size, before, within), omega (arith, e.1, left, before))

-- an answer, and a span by its two offsets
abbrev done : Row Span × ℕ → Result (Row Span × ℕ) Fault
done x = Ok x

abbrev from_to : ℕ → ℕ → Span
from_to s e = record { start = s; «end» = e }

-- spans that begin at one offset and are as long are one, whatever the offset of their text
same_span : (o u p r q : ℕ) → o + p ≡ u + r → span o p (p + q) ≡ span u r (r + q)
same_span o u p r q is =
    let last : o + (p + q) ≡ u + (r + q) = omega (arith, is) in
    ap (λ (s : ℕ). from_to s (o + (p + q))) is ∙ ap (λ (s : ℕ). from_to (u + r) s) last

-- L stands in one text from p on, and in another from r on, and its last byte is a
-- newline: bodies that end in L end there in both
module _ (edition : Edition) (T U Y Z : List ℕ) (o u : ℕ) where
  -- the second text has the bodies that were read, and ends them as far from r as the first from p
  abbrev Same : Row Waiting → Row Span → ℕ → ℕ → Row Span × ℕ → Type 0
  Same ws bodies p r x = bodies_from (given edition U u) ws bodies r ≡ done (x.0, r + (x.1 - p))

  -- so it is for these documents wherever L stands, if their bodies end in it
  abbrev Alike : Row Waiting → Row Span × ℕ → Type 0
  Alike ws x = (bodies : Row Span) (L : List ℕ) (p r : ℕ) → p ≤ length T → r ≤ length U → o + p ≡ u + r →
      drop p T ≡ L ++ Y → drop r U ≡ L ++ Z → is_whole_lines L ≡ true
      → bodies_from (given edition T o) ws bodies p ≡ Ok x → x.1 ≤ p + length L → Same ws bodies p r x

  -- the bytes from p + k on are L without its first k, and what follows it
  after_in : (V W L : List ℕ) (p k : ℕ) → drop p V ≡ L ++ W → k ≤ length L → drop (p + k) V ≡ drop k L ++ W
  after_in V W L p k here le = sym (drop-drop k p V) ∙ ap (drop k) here ∙ drop-append-le k L W le

  -- one more document before others, and all of them
  one_alike : (w : Waiting) (ws : Row Waiting) (x : Row Span × ℕ) → Alike ws x →
      (bodies : Row Span) (L : List ℕ) (p r : ℕ) → p ≤ length T → r ≤ length U → o + p ≡ u + r
      → drop p T ≡ L ++ Y → drop r U ≡ L ++ Z → is_whole_lines L ≡ true → (d : Option ℕ) → delimiter_from T w p ≡ d →
      body_by (bodies_from (given edition T o) ws) (given edition T o) w bodies p d ≡ Ok x
      → x.1 ≤ p + length L → body_by (bodies_from (given edition U u) ws) (given edition U u) w bodies r
      (delimiter_from U w r) ≡ done (x.0, r + (x.1 - p))
  one_alike w ws x more bodies L p r within inside off here there so None found read low = absurd cc
  one_alike w ws x more bodies L p r within inside off here there so (Some d) found read low =
      let one = delimiter_between T w false p d found in
      let go = bodies_go (given edition T o) ws (bodies ++ span o p d ∷ []) (past_line T d) x read
      (past_line_high T d) in
      let q = d - p in
      let is : d ≡ p + q = omega (arith, one.0) in
      let before : q < length L = omega (arith, go.0, low, one.0, one.1, next_newline_low T d) in
      let k = step_in L q in
      let mine = past_in T L Y p q within here so before in
      let other = past_in U L Z r q inside there so before in
      let met : delimiter_from U w r ≡ Some (r + q) =
      same_delimiter w T U L Y Z p r q within inside here there so before (found ∙ ap (λ (n : ℕ). Some n) is) in
      let past : past_line T d ≡ p + k = ap (past_line T) is ∙ mine.0 in
      let same : bodies ++ span o p d ∷ [] ≡ bodies ++ span u r (r + q) ∷ [] =
      ap (λ s. bodies ++ s ∷ []) (ap (span o p) is ∙ same_span o u p r q off) in
      let read_on : bodies_from (given edition T o) ws (bodies ++ span u r (r + q) ∷ []) (p + k) ≡ Ok x =
      ap (λ b. bodies_from (given edition T o) ws b (p + k)) (sym same)
      ∙ ap (bodies_from (given edition T o) ws (bodies ++ span o p d ∷ [])) (sym past) ∙ read in
      let left : length (drop k L) ≡ length L - k = length-drop k L in
      let high : p + k ≤ x.1 = omega (arith, go.0, past) in
      ap (body_by (bodies_from (given edition U u) ws) (given edition U u) w bodies r) met
      ∙ ap (bodies_from (given edition U u) ws (bodies ++ span u r (r + q) ∷ [])) other.0
      ∙ more (bodies ++ span u r (r + q) ∷ []) (drop k L) (p + k) (r + k) (omega (arith, past, past_line_high T d))
      (omega (arith, other.0, past_line_high U (r + q))) (omega (arith, off))
      (after_in T Y L p k here mine.1) (after_in U Z L r k there mine.1) (whole_lines_drop k L so) read_on
      (omega (arith, low, left, mine.1))
      ∙ ap (λ (n : ℕ). done (x.0, n)) (omega (arith, high))

  pub same_bodies : (ws : Row Waiting) (x : Row Span × ℕ) → Alike ws x
  unfolding bodies_from
  same_bodies [] x bodies L p r within inside off here there so read low =
      let is : (bodies, p) ≡ x = cc in
      subst (Same [] bodies p r) is (ap (λ (n : ℕ). done (bodies, n)) (omega arith))
  same_bodies (w ∷ ws) x bodies L p r within inside off here there so read low =
      one_alike w ws x (same_bodies ws x) bodies L p r within inside off here there so
      (delimiter_from T w p) refl read low
