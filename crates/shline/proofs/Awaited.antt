-- What the loops over the lines of a here-document, and over its word, come to.
use Rattle.std.proofs.Common.{◌≡◌, ℕ, zero, suc, ◌+◌, ◌-◌, ◌==◌, ◌<◌, ◌≤◌, Bool, true, false, not, cond, List, [], ◌∷◌, ◌++◌, List as Row, length, take, drop, map, fold, Some, None, Ok, Err, slice_get, get_or, bytes_eq, refl, sym, ap, ◌∙◌, arith, ⊎_elim}
use Rattle.std.specs.Prelude.{Result, ◌&&◌, nat_lt}
use Rattle.std.proofs.lemmas.Bool.{and_right, cases_lt, lt-ltb}
use Rattle.std.proofs.lemmas.Bool.Decides.{nat_tests}
use Rattle.std.proofs.lemmas.Option.{slice_get-get_or}
use Rattle.std.proofs.lemmas.List.{drop-drop, drop_more, length-drop}
use Rattle.std.proofs.lemmas.Grind.{fold-append}
use Rattle.shsource.specs.Text.{IsRun}
use Rattle.shgrammar.specs.declared.keep.Keep.{Keep}
use Rattle.shast.specs.declared.tree.Span.{Span}
use Rattle.shgrammar.specs.declared.fault.Fault.{Fault}
use Rattle.shline.specs.declared.documents.Waiting as the_waiting
use Rattle.shgrammar.specs.declared.fault.FaultKind.TheVariants.{UnclosedHere}
use Rattle.shgrammar.specs.Characters.{backslash, newline_char, tab}
use Rattle.shgrammar.specs.Standing.{is_byte, raw_stands, raw_past, count_front, next_newline}
use Rattle.shgrammar.specs.Comments.{span}
use Rattle.shline.specs.declared.documents.Documents as the_documents
use Rattle.shline.specs.declared.stop.Stop.{Stop}
use Rattle.shline.specs.declared.stop.Stop.TheVariants.{Memory, Wrong}
use Rattle.shline.specs.Clauses.{BodyRead, Fails, standing_with, view_waiting}
use Rattle.shline.specs.Limits.{Limits}
use Rattle.shgrammar.specs.Sights.{Given, Waiting}
use Rattle.shgrammar.specs.HereDocuments.{rest_of_line, stripped, past_line, delimiter_from, bodies_from, bodies_here, state_by}
use Rattle.shgrammar.specs.Form.{change, does, nothing_read, raw}
use Rattle.shgrammar.proofs.Runs.{run_part}
use Rattle.shgrammar.proofs.Stretches.{byte_is, get_drop, raw_first}

-- ---- bytes from one place up to another

-- the first n + 1 bytes are the first n and the one at n
take_some : (n : ℕ) (X : List ℕ) (b : ℕ) → slice_get X n ≡ Some b → take (suc n) X ≡ take n X ++ b ∷ []
take_some n [] b is = absurd cc
take_some zero (c ∷ X) b is = let same : c ≡ b = cc in ap (λ (x : ℕ). x ∷ []) same
take_some (suc n) (c ∷ X) b is = ap (λ (l : List ℕ). c ∷ l) (take_some n X b is)

-- up to just past q stand the bytes up to q, and the one at q
pub raw_some : (T : List ℕ) (p q b : ℕ) → p ≤ q → slice_get T q ≡ Some b → raw T p (q + 1) ≡ raw T p q ++ b ∷ []
raw_some T p q b le is =
    let many : q + 1 - p ≡ suc (q - p) = omega (arith, le) in
    let at : p + (q - p) ≡ q = omega (arith, le) in
    ap (λ n. take n (drop p T)) many ∙ take_some (q - p) (drop p T) b (get_drop p T (q - p) ∙ ap (slice_get T) at ∙ is)

-- a word that lies in one stretch stands at the front of that
pub run_word : (B run : List ℕ) (base p q : ℕ) → IsRun B (base + p) run → q - p ≤ length run →
    raw (drop base B) p q ≡ take (q - p) run
run_word B run base p q is le = ap (take (q - p)) (drop-drop p base B) ∙ run_part B (base + p) run is (q - p) le

-- ---- tabs

-- a tab is no newline
tab_is_text : (b : ℕ) → (b == tab) ≡ true → (b == newline_char) ≡ false
tab_is_text b is = grind (arith, nat_tests, is)

-- with a byte in front tabs stand in their line still
tabs_low_by : (b m n : ℕ) → m ≤ n → (t : Bool) → (b == tab) ≡ t →
    cond (b == tab) (1 + m) 0 ≤ cond (not (b == newline_char)) (1 + n) 0
tabs_low_by b m n le true is = rw (is, tab_is_text b is) (omega (arith, le))
tabs_low_by b m n le false is = rw is (omega arith)

-- tabs stand in their line
tabs_low : (X : List ℕ) → count_front (λ b. b == tab) X ≤ count_front (λ b. not (b == newline_char)) X
unfolding count_front
tabs_low [] = omega arith
tabs_low (b ∷ X) = tabs_low_by b _ _ (tabs_low X) (b == tab) refl

-- a newline is no tab
newline_is_no_tab : (b : ℕ) → (b == newline_char) ≡ true → (b == tab) ≡ false
newline_is_no_tab b is = grind (arith, nat_tests, is)

-- a line has as many tabs in front as the bytes from there on: with one byte before such bytes
tabs_same_by : (b : ℕ) (X : List ℕ) →
    count_front (λ c. c == tab) (take (count_front (λ c. not (c == newline_char)) X) X) ≡ count_front (λ c. c == tab) X
    → (t : Bool) →
    (b == newline_char) ≡ t
    → count_front (λ c. c == tab)
    (take (cond (not (b == newline_char)) (1 + count_front (λ c. not (c == newline_char)) X) 0) (b ∷ X))
    ≡ cond (b == tab) (1 + count_front (λ c. c == tab) X) 0
unfolding count_front
tabs_same_by b X rest true is = rw (is, newline_is_no_tab b is) refl
tabs_same_by b X rest false is =
    let more : 1 + count_front (λ c. not (c == newline_char)) X ≡ suc (count_front (λ c. not (c == newline_char)) X) =
    omega arith in
    rw (is, more) (ap (λ n. cond (b == tab) (1 + n) 0) rest)

-- and of any bytes
tabs_same : (X : List ℕ) → count_front (λ b. b == tab) (take (count_front (λ b. not (b == newline_char)) X) X)
    ≡ count_front (λ b. b == tab) X
unfolding count_front
tabs_same [] = refl
tabs_same (b ∷ X) = tabs_same_by b X (tabs_same X) (b == newline_char) refl

-- a front of no bytes is none
take_nothing : (n : ℕ) → ◌≡◌ {A = List ℕ} [] (take n [])
take_nothing zero = refl
take_nothing (suc n) = refl

-- from t on, the first n bytes are the first n - t that stand from t on
drop_take : (t n : ℕ) (X : List ℕ) → drop t (take n X) ≡ take (n - t) (drop t X)
drop_take zero n X = let same : n ≡ n - 0 = omega arith in ap (λ m. take m X) same
drop_take (suc t) zero X = let same : 0 ≡ 0 - suc t = omega arith in ap (λ m. take m (drop (suc t) X)) same
drop_take (suc t) (suc n) [] = take_nothing (suc n - suc t)
drop_take (suc t) (suc n) (b ∷ X) = let same : n - t ≡ suc n - suc t = omega arith in
    drop_take t n X ∙ ap (λ m. take m (drop t X)) same

-- leading tabs end where the line does, or before
pub tabs_before : (T : List ℕ) (p : ℕ) → raw_past (λ b. b == tab) T p ≤ next_newline T p
unfolding raw_past
tabs_before T p = omega (arith, tabs_low (drop p T))

-- a line without its tabs
pub stripped_line : (T : List ℕ) (p : ℕ) →
    stripped true (rest_of_line T p) ≡ raw T (raw_past (λ b. b == tab) T p) (next_newline T p)
unfolding raw_past
stripped_line T p =
    let X = drop p T in
    let n = count_front (λ b. not (b == newline_char)) X in
    let t = count_front (λ b. b == tab) X in
    let line : rest_of_line T p ≡ take n X = ap (λ m. take m X) (omega arith) in
    let rest : p + n - (p + t) ≡ n - t = omega arith in
    let there : drop t X ≡ drop (p + t) T = drop-drop t p T in
    ap (λ l. drop (count_front (λ b. b == tab) l) l) line
    ∙ ap (λ m. drop m (take n X)) (tabs_same X)
    ∙ drop_take t n X
    ∙ ap (take (n - t)) there
    ∙ ap (λ m. take m (drop (p + t) T)) (sym rest)

-- ---- backslashes at the end of a line

-- a line ends in an odd number of backslashes
abbrev pub odd : List ℕ → Bool
odd line = fold (λ o b. b == backslash && not o) false line

-- the flag x, turned where the first one is set
abbrev pub flipped : Bool → Bool → Bool
flipped true x = not x
flipped false x = x

-- a line with one backslash more ends in an odd number just where it did not before
flip_last : (line : List ℕ) → odd (line ++ backslash ∷ []) ≡ not (odd line)
flip_last line = fold-append (λ o b. b == backslash && not o) false line (backslash ∷ [])

-- a line that ends in another byte does not end so
other_last : (line : List ℕ) (b : ℕ) → (b == backslash) ≡ false → odd (line ++ b ∷ []) ≡ false
other_last line b other = fold-append (λ o c. c == backslash && not o) false line (b ∷ []) ∙ rw other refl

-- it is the same which of two flags is turned
flipped_not : (b x : Bool) → flipped (not b) x ≡ flipped b (not x)
flipped_not true true = refl
flipped_not true false = refl
flipped_not false x = refl

-- one more backslash before q
odd_more : (T : List ℕ) (p q : ℕ) (so : Bool) (all : Bool) → p < q → raw_stands T (q - 1) backslash ≡ true →
    flipped so (odd (raw T p q)) ≡ all → flipped (not so) (odd (raw T p (q - 1))) ≡ all
unfolding raw_stands
odd_more T p q so all lt is before =
    let last : q - 1 + 1 ≡ q = omega (arith, lt) in
    let here : raw T p q ≡ raw T p (q - 1) ++ backslash ∷ [] = ap (raw T p) (sym last)
    ∙ raw_some T p (q - 1) backslash (omega (arith, lt)) (byte_is (slice_get T (q - 1)) backslash is) in
    flipped_not so (odd (raw T p (q - 1))) ∙ ap (flipped so) (sym (ap odd here ∙ flip_last (raw T p (q - 1)))) ∙ before

-- a flag that is not set, turned where b is, is b
flipped_false : (b : Bool) → flipped b false ≡ b
flipped_false true = refl
flipped_false false = refl

-- bytes that end in another byte do not end in an odd number of backslashes
none_or : (T : List ℕ) (p q : ℕ) → p < q → q ≤ length T → raw_stands T (q - 1) backslash ≡ false →
    odd (raw T p q) ≡ false
unfolding raw_stands
none_or T p q lt within other =
    let last : q - 1 + 1 ≡ q = omega (arith, lt) in
    let is : slice_get T (q - 1) ≡ Some (get_or T (q - 1) 0) =
    slice_get-get_or T (q - 1) 0 (omega (arith, lt, within)) in
    let no : (get_or T (q - 1) 0 == backslash) ≡ false = sym (ap (λ x. is_byte x backslash) is) ∙ other in
    ap (λ n. odd (raw T p n)) (sym last) ∙ ap odd (raw_some T p (q - 1) (get_or T (q - 1) 0) (omega (arith, lt)) is)
    ∙ other_last (raw T p (q - 1)) (get_or T (q - 1) 0) no

-- the same of places that count from b
pub odd_more_on : (T : List ℕ) (b p q : ℕ) (so : Bool) (all : Bool) → p < q →
    raw_stands T (b + (q - 1)) backslash ≡ true →
    flipped so (odd (raw T (b + p) (b + q))) ≡ all → flipped (not so) (odd (raw T (b + p) (b + (q - 1)))) ≡ all
odd_more_on T b p q so all lt is before =
    let back : b + (q - 1) ≡ b + q - 1 = omega (arith, lt) in
    rw back (odd_more T (b + p) (b + q) so all (omega (arith, lt)) (rw back at is) before)

-- no more of them
odd_stops : (T : List ℕ) (p q : ℕ) (so all : Bool) → q ≤ length T →
    (nat_lt p q && raw_stands T (q - 1) backslash) ≡ false →
    flipped so (odd (raw T p q)) ≡ all → so ≡ all
odd_stops T p q so all within stops before = sym (ap (flipped so) none ∙ flipped_false so) ∙ before
  where
    second : (a b : Bool) → (a && b) ≡ false → a ≡ true → b ≡ false
    second true b e f = e
    second false b e f = absurd cc

    none : odd (raw T p q) ≡ false
    none =
        ⊎_elim (λ lt. none_or T p q lt within
        (second (nat_lt p q) (raw_stands T (q - 1) backslash) stops (lt-ltb p q lt)))
        (λ ge. let empty : q - p ≡ 0 = omega (arith, ge) in ap (λ n. odd (take n (drop p T))) empty) (cases_lt p q)

-- the same of places that count from b
pub odd_stops_on : (T : List ℕ) (b p q : ℕ) (so all : Bool) → b + q ≤ length T →
    (nat_lt p q && raw_stands T (b + (q - 1)) backslash) ≡ false → flipped so (odd (raw T (b + p) (b + q))) ≡ all →
    so ≡ all
odd_stops_on T b p q so all within stops before =
    odd_stops T (b + p) (b + q) so all within (⊎_elim (λ lt. here lt) (λ ge. none ge) (cases_lt p q)) before
  where
    here : p < q → (nat_lt (b + p) (b + q) && raw_stands T (b + q - 1) backslash) ≡ false
    here lt =
        let back : b + q - 1 ≡ b + (q - 1) = omega (arith, lt) in
        let one : nat_lt p q ≡ true = lt-ltb p q lt in
        let two : nat_lt (b + p) (b + q) ≡ true = lt-ltb (b + p) (b + q) (omega (arith, lt)) in
        rw (back, two) (rw one at stops)

    none : q ≤ p → (nat_lt (b + p) (b + q) && raw_stands T (b + q - 1) backslash) ≡ false
    none ge =
        let two : nat_lt (b + p) (b + q) ≡ false = grind (arith, nat_tests, ge) in
        rw two refl

-- ---- the bytes of a delimiter

-- bytes that begin with the same byte are equal just where the others are
eq_both : (b : ℕ) (xs ys : List ℕ) → bytes_eq (b ∷ xs) (b ∷ ys) ≡ bytes_eq xs ys
eq_both b xs ys = let same : (b == b) ≡ true = grind (arith, nat_tests) in rw same refl

-- bytes that begin with two bytes that differ are not equal
eq_first : (b c : ℕ) (xs ys : List ℕ) → (b == c) ≡ false → bytes_eq (b ∷ xs) (c ∷ ys) ≡ false
eq_first b c xs ys other = rw other refl

-- after i bytes: where the next byte is that of the others, they are equal just where what follows is
bytes_more : (T : List ℕ) (p q i : ℕ) (bytes : List ℕ) → p + i < q → i < length bytes →
    raw_stands T (p + i) (get_or bytes i 0) ≡ true
    → bytes_eq (raw T (p + i) q) (drop i bytes) ≡ bytes_eq (raw T (p + i + 1) q) (drop (i + 1) bytes)
unfolding raw_stands
bytes_more T p q i bytes lt low is =
    let c = get_or bytes i 0 in
    rw (raw_first T (p + i) q c (byte_is (slice_get T (p + i)) c is) lt, drop_more bytes i 0 low)
    (eq_both c (raw T (p + i + 1) q) (drop (i + 1) bytes))

-- where it is not, they are not equal
bytes_other : (T : List ℕ) (p q i : ℕ) (bytes : List ℕ) → p + i < q → q ≤ length T → i < length bytes →
    raw_stands T (p + i) (get_or bytes i 0) ≡ false
    → bytes_eq (raw T (p + i) q) (drop i bytes) ≡ false
unfolding raw_stands
bytes_other T p q i bytes lt within low other =
    let c = get_or bytes i 0 in
    let is : slice_get T (p + i) ≡ Some (get_or T (p + i) 0) =
    slice_get-get_or T (p + i) 0 (omega (arith, lt, within)) in
    let no : (get_or T (p + i) 0 == c) ≡ false = sym (ap (λ x. is_byte x c) is) ∙ other in
    rw (raw_first T (p + i) q (get_or T (p + i) 0) is lt, drop_more bytes i 0 low)
    (eq_first (get_or T (p + i) 0) c (raw T (p + i + 1) q) (drop (i + 1) bytes) no)

-- the same, where the place is told by its distance
pub bytes_more_on : (T : List ℕ) (p q i r : ℕ) (bytes : List ℕ) → r ≡ p + i → p + i < q → i < length bytes →
    raw_stands T r (get_or bytes i 0) ≡ true
    → bytes_eq (raw T (p + i) q) (drop i bytes) ≡ bytes_eq (raw T (p + i + 1) q) (drop (i + 1) bytes)
bytes_more_on T p q i r bytes is lt low one = bytes_more T p q i bytes lt low (rw is at one)

pub bytes_other_on : (T : List ℕ) (p q i r : ℕ) (bytes : List ℕ) → r ≡ p + i → p + i < q → q ≤ length T →
    i < length bytes → raw_stands T r (get_or bytes i 0) ≡ false
    → bytes_eq (raw T (p + i) q) (drop i bytes) ≡ false
bytes_other_on T p q i r bytes is lt within low other = bytes_other T p q i bytes lt within low (rw is at other)

-- where both end after i bytes, what is left of them is equal
pub bytes_end : (T : List ℕ) (p q i : ℕ) (bytes : List ℕ) → p + i ≡ q → i ≡ length bytes →
    bytes_eq (raw T (p + i) q) (drop i bytes) ≡ true
bytes_end T p q i bytes end whole =
    let none : q - (p + i) ≡ 0 = omega (arith, end) in
    rw (none, drop_all_of i bytes (omega (arith, whole))) refl
  where
    drop_all_of : (n : ℕ) (xs : List ℕ) → length xs ≤ n → drop n xs ≡ []
    drop_all_of zero [] le = refl
    drop_all_of zero (x ∷ xs) le = absurd (omega (arith, le))
    drop_all_of (suc n) [] le = refl
    drop_all_of (suc n) (x ∷ xs) le = drop_all_of n xs (omega (arith, le))

-- of another length
pub bytes_short : (T : List ℕ) (p q : ℕ) (bytes : List ℕ) → p ≤ q → q ≤ length T → length bytes < q - p →
    bytes_eq (raw T p q) bytes ≡ false
bytes_short T p q bytes le within short =
    none_long (q - p) (drop p T) bytes (omega (arith, within, length-drop p T)) short
  where
    none_long : (n : ℕ) (X ys : List ℕ) → n ≤ length X → length ys < n → bytes_eq (take n X) ys ≡ false
    none_long zero X ys le lt = absurd (omega (arith, lt))
    none_long (suc n) [] ys le lt = absurd (omega (arith, le))
    none_long (suc n) (x ∷ X) [] le lt = refl
    none_long (suc n) (x ∷ X) (y ∷ ys) le lt =
        and_right (x == y) (bytes_eq (take n X) ys) (none_long n X ys (omega (arith, le)) (omega (arith, lt)))

pub bytes_long : (T : List ℕ) (p q : ℕ) (bytes : List ℕ) → q - p < length bytes → bytes_eq (raw T p q) bytes ≡ false
bytes_long T p q bytes long = none_short (q - p) (drop p T) bytes long
  where
    none_short : (n : ℕ) (X ys : List ℕ) → n < length ys → bytes_eq (take n X) ys ≡ false
    none_short zero [] [] lt = absurd (omega (arith, lt))
    none_short zero X (y ∷ ys) lt = refl
    none_short zero (x ∷ X) [] lt = absurd (omega (arith, lt))
    none_short (suc n) [] (y ∷ ys) lt = refl
    none_short (suc n) [] [] lt = absurd (omega (arith, lt))
    none_short (suc n) (x ∷ X) [] lt = absurd (omega (arith, lt))
    none_short (suc n) (x ∷ X) (y ∷ ys) lt =
        and_right (x == y) (bytes_eq (take n X) ys) (none_short n X ys (omega (arith, lt)))

-- ---- one document after another

module _ (g : Given) (w : Waiting) (rest : Row Waiting) (bodies : Row Span) (p : ℕ) where
  -- where the delimiter's line of the first is found, the others are read from after it on
  pub body_more : (q : ℕ) → delimiter_from g.text w p ≡ Some q →
      bodies_from g (w ∷ rest) bodies p ≡ bodies_from g rest (bodies ++ span g.offset p q ∷ []) (past_line g.text q)
  unfolding bodies_from
  body_more q found = rw found refl

  -- where it is not found, the document is not closed: a fault at its operator
  pub body_missing : delimiter_from g.text w p ≡ None →
      bodies_from g (w ∷ rest) bodies p ≡ Err (record { kind = UnclosedHere; at = w.operator })
  unfolding bodies_from
  body_missing found = rw found refl

-- those that wait from one on
pub waiting_from : (ws : Row the_waiting.Waiting) (i : ℕ) (d : the_waiting.Waiting) → i < length ws →
    drop i (map view_waiting ws) ≡ view_waiting (get_or ws i d) ∷ drop (i + 1) (map view_waiting ws)
waiting_from [] i d lt = absurd (omega (arith, lt))
waiting_from (w ∷ ws) zero d lt = refl
waiting_from (w ∷ ws) (suc i) d lt =
    let one : suc i + 1 ≡ suc (i + 1) = omega arith in
    waiting_from ws i d (omega (arith, lt))
    ∙ ap (λ n. view_waiting (get_or ws i d) ∷ drop n (map view_waiting (w ∷ ws))) (sym one)

-- after the last one no more is read
documents_end : (g : Given) (ws : Row the_waiting.Waiting) (i : ℕ) (bodies : Row Span) (p : ℕ) → length ws ≤ i →
    bodies_from g (drop i (map view_waiting ws)) bodies p ≡ Ok (bodies, p)
unfolding bodies_from
documents_end g [] zero bodies p le = refl
documents_end g [] (suc i) bodies p le = refl
documents_end g (w ∷ ws) zero bodies p le = absurd (omega (arith, le))
documents_end g (w ∷ ws) (suc i) bodies p le = documents_end g ws i bodies p (omega (arith, le))

-- all of them
pub bodies_read : (keep : Keep) (g : Given) (ws : Row the_waiting.Waiting) (start bodies : Row Span) (i p q : ℕ) →
    length ws ≤ i → bodies_from g (drop i (map view_waiting ws)) bodies q ≡ bodies_from g (map view_waiting ws) start p
    → does (change bodies_here) keep g (record { at = p; waiting = map view_waiting ws; bodies = start })
    ≡ Ok (tt, record { at = q; waiting = []; bodies = bodies })
bodies_read keep g ws start bodies i p q le is =
    ap (λ x. nothing_read (state_by x)) (sym is ∙ documents_end g ws i bodies q le)

-- what stops the body of one stops the reading of all
pub bodies_stop : (keep : Keep) (g : Given) (ws : Row the_waiting.Waiting) (start bodies : Row Span) (i p q : ℕ)
    (bound : Limits) (e : Stop) (rest : Result (Row Span × ℕ) Fault)
    → bodies_from g (drop i (map view_waiting ws)) bodies q ≡ bodies_from g (map view_waiting ws) start p →
    BodyRead bound (Err e) (bodies_from g (drop i (map view_waiting ws)) bodies q) rest
    → Fails bound e (does (change bodies_here) keep g
    (record { at = p; waiting = map view_waiting ws; bodies = start }))
bodies_stop keep g ws start bodies i p q bound Memory rest is stop = stop
bodies_stop keep g ws start bodies i p q bound (Wrong f) rest is stop =
    (ap (λ x. nothing_read (state_by x)) (sym is ∙ stop.0), stop.1)

-- where no document waits, no body is read and the state stays
none_by : (keep : Keep) (g : Given) (bs : Row Span) (p : ℕ) (ws : Row the_waiting.Waiting) → length ws ≡ 0
    → does (change bodies_here) keep g (record { at = p; waiting = map view_waiting ws; bodies = bs })
    ≡ Ok (tt, record { at = p; waiting = map view_waiting ws; bodies = bs })
unfolding bodies_from
none_by keep g bs p [] e = refl
none_by keep g bs p (w ∷ ws) e = absurd (omega (arith, e))

-- none
pub none_awaited : (keep : Keep) (g : Given) (d : the_documents.Documents) (p : ℕ) → length d.waiting.items ≡ 0 →
    does (change bodies_here) keep g (standing_with d p) ≡ Ok (tt, standing_with d p)
none_awaited keep g d p none = none_by keep g d.bodies.items p d.waiting.items none
