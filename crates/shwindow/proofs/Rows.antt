-- Rows of lines: their bytes, and where their lines begin.
use Rattle.std.proofs.Common.{◌≡◌, ℕ, ◌+◌, ◌-◌, true, false, List, [], ◌∷◌, ◌++◌, List as Row, length, take, drop, get_or, ◌<◌, ◌≤◌, refl, sym, ap, subst, ◌∙◌, arith}
use Rattle.std.proofs.lemmas.List.{length-append, length-drop, length-take-le, drop-drop, take-append-drop, take_more, take_all}
use Rattle.shwindow.specs.declared.line.HeldLine.{HeldLine}
use Rattle.shwindow.specs.Lines.{Reads, extent, IsRow, last_line, more_lines, IsBoundary, at_end_of}

-- the bytes of lines, after others and with one more
pub extent_append : {K : Type 0} (xs ys : Row (HeldLine K)) → extent (xs ++ ys) ≡ extent xs + extent ys
unfolding extent
extent_append [] ys = omega arith
extent_append (x ∷ xs) ys = let rest = extent_append xs ys in omega (arith, rest)

pub extent_cons : {K : Type 0} (h : HeldLine K) (hs : Row (HeldLine K)) → extent (h ∷ hs) ≡ h.len + extent hs
unfolding extent
extent_cons h hs = refl

pub extent_push : {K : Type 0} (hs : Row (HeldLine K)) (l : HeldLine K) → extent (hs ++ l ∷ []) ≡ extent hs + l.len
unfolding extent
extent_push [] l = omega arith
extent_push (h ∷ hs) l = let rest = extent_push hs l in omega (arith, rest)

-- those before a place and those from there on
pub extent_split : {K : Type 0} (n : ℕ) (hs : Row (HeldLine K)) → extent (take n hs) + extent (drop n hs) ≡ extent hs
extent_split n hs = sym (extent_append (take n hs) (drop n hs)) ∙ ap extent (take-append-drop n hs)

-- those between two places too
pub extent_slice : {K : Type 0} (m n : ℕ) (hs : Row (HeldLine K)) → m ≤ n →
    extent (take m hs) + (extent (take (n - m) (drop m hs)) + extent (drop n hs)) ≡ extent hs
extent_slice m n hs low =
    let there : m + (n - m) ≡ n = omega arith in
    let rest = ap extent (drop-drop (n - m) m hs ∙ ap (λ x. drop x hs) there) in
    omega (arith, rest, extent_split m hs, extent_split (n - m) (drop m hs))

-- with other lines in the place of those
pub extent_between : {K : Type 0} (m n : ℕ) (hs new : Row (HeldLine K)) →
    extent (take m hs ++ (new ++ drop n hs)) ≡ extent (take m hs) + (extent new + extent (drop n hs))
extent_between m n hs new = omega (arith, extent_append (take m hs) (new ++ drop n hs), extent_append new (drop n hs))

-- lines are left, if fewer give way than there are with the new ones
pub some_between : {X : Type 0} (m n : ℕ) (xs new : Row X) → m ≤ n → n ≤ length xs → n - m < length xs + length new →
    0 < length (take m xs ++ (new ++ drop n xs))
some_between m n xs new low high some =
    omega (
      arith,
      length-append (take m xs) (new ++ drop n xs),
      length-append new (drop n xs),
      length-take-le m xs (omega arith),
      length-drop n xs,
    )

-- the bytes of lines up to one, and with that one
pub extent_more : {K : Type 0} (n : ℕ) (hs : Row (HeldLine K)) (d : HeldLine K) → n < length hs →
    extent (take (n + 1) hs) ≡ extent (take n hs) + (get_or hs n d).len
extent_more n hs d low = ap extent (take_more hs n d low) ∙ extent_push (take n hs) (get_or hs n d)

-- the same of a line that was read there
pub extent_read : {K : Type 0} (n : ℕ) (hs : Row (HeldLine K)) (h : HeldLine K) → n < length hs → h ≡ get_or hs n h →
    extent (take (n + 1) hs) ≡ extent (take n hs) + h.len
extent_read {K = K} n hs h low is = let more = extent_more n hs h low in
    omega (arith, more, ap (λ (x : HeldLine K). x.len) is)

-- the first lines have no more bytes than all; if they are all, as many, and then none are left
pub extent_take : {K : Type 0} (n : ℕ) (hs : Row (HeldLine K)) → extent (take n hs) ≤ extent hs
extent_take n hs = omega (arith, extent_split n hs)

pub extent_whole : {K : Type 0} (n : ℕ) (hs : Row (HeldLine K)) → length hs ≤ n → extent (take n hs) ≡ extent hs
extent_whole n hs high = ap extent (take_all n hs high)

pub extent_past : {K : Type 0} (n : ℕ) (hs : Row (HeldLine K)) → length hs ≤ n → extent (drop n hs) ≡ 0
extent_past n hs high = omega (arith, extent_split n hs, extent_whole n hs high)

-- no lines have none
pub extent_none : (K : Type 0) → extent {K = K} [] ≡ 0
unfolding extent
extent_none K = refl

-- a line that was read from where these lines stand too
pub extent_read_of : {K : Type 0} (n : ℕ) (items hs : Row (HeldLine K)) (h : HeldLine K) → items ≡ hs → n < length items
    → h ≡ get_or items n h → extent (take (n + 1) hs) ≡ extent (take n hs) + h.len
extent_read_of {K = K} n items hs h same =
    subst (λ (ls : Row (HeldLine K)). n < length ls → h ≡ get_or ls n h →
    extent (take (n + 1) hs) ≡ extent (take n hs) + h.len) (sym same) (extent_read n hs h)

module _ {K : Type 0} (Is : List ℕ → HeldLine K → Type 0) where
  -- a row has a first line, and a row after it where that ended; it did, if another follows
  pub row_some : (T : List ℕ) (hs : Row (HeldLine K)) → IsRow Is T hs → hs ≡ [] → ⊥
  row_some T _ (last_line is e whole) none = absurd cc
  row_some T _ (more_lines is e row) none = absurd cc

  pub row_head : (T : List ℕ) (h : HeldLine K) (hs : Row (HeldLine K)) → IsRow Is T (h ∷ hs) → Is T h
  row_head T h _ (last_line is e whole) = is
  row_head T h hs (more_lines is e row) = is

  pub row_rest : (T : List ℕ) (h : HeldLine K) (hs : Row (HeldLine K)) → IsRow Is T (h ∷ hs) → h.ended ≡ true →
      IsRow Is (drop h.len T) hs
  row_rest T h _ (last_line is e whole) ended = absurd cc
  row_rest T h hs (more_lines is e row) ended = row

  row_ended_by : (T : List ℕ) (h : HeldLine K) (hs : Row (HeldLine K)) → IsRow Is T (h ∷ hs) → (hs ≡ [] → ⊥) →
      h.ended ≡ true
  row_ended_by T h _ (last_line is e whole) some = absurd (some refl)
  row_ended_by T h hs (more_lines is e row) some = e

  pub row_ended : (T : List ℕ) (x : HeldLine K) (xs : Row (HeldLine K)) (y : HeldLine K) (ys : Row (HeldLine K)) →
      IsRow Is T (x ∷ (xs ++ y ∷ ys)) → x.ended ≡ true
  row_ended T x [] y ys row = row_ended_by T x (y ∷ ys) row (λ none. absurd cc)
  row_ended T x (z ∷ xs) y ys row = row_ended_by T x (z ∷ (xs ++ y ∷ ys)) row (λ none. absurd cc)

  -- and a line alone is that one
  pub row_alone : (T : List ℕ) (h : HeldLine K) → IsRow Is T (h ∷ []) → h.ended ≡ false
  row_alone T h (last_line is e whole) = e
  row_alone T h (more_lines is e row) = absurd (row_some (drop h.len T) [] row refl)

module _ {K : Type 0} (Is : List ℕ → HeldLine K → Type 0) (laws : Reads Is) where
  -- one row at most
  pub row_only : (T : List ℕ) (hs ks : Row (HeldLine K)) → IsRow Is T hs → IsRow Is T ks → hs ≡ ks
  row_only T _ _ (last_line {h = h} is e whole) (last_line {h = k} is' e' whole') =
      ap (λ x. x ∷ []) (laws.only T h k is is')
  row_only T _ _ (last_line {h = h} is e whole) (more_lines {h = k} is' e' row) =
      let same = ap (λ (x : HeldLine K). x.ended) (laws.only T h k is is') in absurd cc
  row_only T _ _ (more_lines {h = h} is e row) (last_line {h = k} is' e' whole) =
      let same = ap (λ (x : HeldLine K). x.ended) (laws.only T h k is is') in absurd cc
  row_only T _ _ (more_lines {h = h} {hs = hs} is e row) (more_lines {h = k} {hs = ks} is' e' row') =
      let same : h ≡ k = laws.only T h k is is' in
      let rest : hs ≡ ks = row_only (drop h.len T) hs ks row
      (subst (λ (x : HeldLine K). IsRow Is (drop x.len T) ks) (sym same) row') in
      cc

  -- a row has the bytes of its text
  pub row_extent : (T : List ℕ) (hs : Row (HeldLine K)) → IsRow Is T hs → extent hs ≡ length T
  unfolding extent
  row_extent T _ (last_line {h = h} is e whole) = omega (arith, whole)
  row_extent T _ (more_lines {h = h} {hs = hs} is e row) =
      let within = laws.within T h is e in
      let rest = row_extent (drop h.len T) hs row in
      omega (arith, rest, length-drop h.len T)

  -- each line of a row begins at a boundary
  pub row_at : (B : List ℕ) (p : ℕ) (xs : Row (HeldLine K)) (y : HeldLine K) (ys : Row (HeldLine K)) → IsBoundary Is B p
      → IsRow Is (drop p B) (xs ++ y ∷ ys)
      → IsBoundary Is B (p + extent xs) × IsRow Is (drop (p + extent xs) B) (y ∷ ys)
  unfolding extent
  row_at B p [] y ys at row = let same : p ≡ p + 0 = omega arith in
      subst (λ x. IsBoundary Is B x × IsRow Is (drop x B) (y ∷ ys)) same (at, row)
  row_at B p (x ∷ xs) y ys at row =
      let is = row_head Is _ x (xs ++ y ∷ ys) row in
      let ended = row_ended Is _ x xs y ys row in
      let row_after = subst (λ T. IsRow Is T (xs ++ y ∷ ys)) (drop-drop x.len p B)
      (row_rest Is _ x (xs ++ y ∷ ys) row ended) in
      let rest = row_at B (p + x.len) xs y ys (at_end_of at is ended) row_after in
      let same : (p + x.len) + extent xs ≡ p + (x.len + extent xs) = omega arith in
      subst (λ z. IsBoundary Is B z × IsRow Is (drop z B) (y ∷ ys)) same rest
