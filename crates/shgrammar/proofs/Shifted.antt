-- Bodies, and documents that wait, at other offsets: all of them moved by as much.
use Rattle.std.proofs.Common.{◌≡◌, ℕ, zero, suc, Bool, false, ◌+◌, ◌-◌, ◌≤◌, List, [], ◌∷◌, ◌++◌, List as Row, map, Option, Some, None, Ok, refl, ap, ◌∙◌, arith}
use Rattle.std.proofs.lemmas.List.{map-append}
use Rattle.shast.specs.declared.tree.Span.{Span}
use Rattle.shgrammar.specs.Comments.{span}
use Rattle.shgrammar.specs.Sights.{given, State, Waiting}
use Rattle.shgrammar.specs.HereDocuments.{rest_of_line, past_line, takes_newline, delimiter_below, delimiter_on, delimiter_from, body_by, bodies_from}
use Rattle.shgrammar.proofs.Places.{next_newline_low}
use Rattle.shgrammar.proofs.Delimiters.{delimiter_between}
use Rattle.shgrammar.specs.declared.edition.Edition.{Edition}

-- the offset x, where the offset k goes to l
abbrev pub shifted : ℕ → ℕ → ℕ → ℕ
shifted k l x = l + (x - k)

-- a span, and a document that waits, with its offsets moved so
abbrev pub span_from : ℕ → ℕ → Span → Span
span_from k l s = record { start = shifted k l s.start; «end» = shifted k l s.«end» }

abbrev pub waiting_from : ℕ → ℕ → Waiting → Waiting
waiting_from k l w = record {
  operator = shifted k l w.operator;
  delimiter = w.delimiter;
  literal = w.literal;
  strip = w.strip;
}

-- a state at the place q, with its offsets moved
abbrev pub state_from : ℕ → ℕ → ℕ → State → State
state_from k l q s = record {
  at = q;
  waiting = map (waiting_from k l) s.waiting;
  bodies = map (span_from k l) s.bodies;
}

-- a span by its two offsets
abbrev pub from_to : ℕ → ℕ → Span
from_to s e = record { start = s; «end» = e }

-- the span of two places, moved, is that of the same places of the text at u
pub span_is : (k l u o p q : ℕ) → l + (o + p - k) ≡ u + p → k ≤ o + p → p ≤ q → span_from k l (span o p q) ≡ span u p q
span_is k l u o p q is low le =
    let last : l + (o + q - k) ≡ u + q = omega (arith, is, low, le) in
    ap (λ (s : ℕ). from_to s (l + (o + q - k))) is ∙ ap (λ (e : ℕ). from_to (u + p) e) last

-- its delimiter is the same
same_below : (k l n : ℕ) (T : List ℕ) (w : Waiting) (taken : Bool) (p : ℕ) →
    delimiter_below n T (waiting_from k l w) taken p ≡ delimiter_below n T w taken p
unfolding delimiter_below
same_below k l zero T w taken p = refl
same_below k l (suc n) T w taken p = rw (same_below k l n T w (takes_newline w (rest_of_line T p)) (past_line T p)) refl

pub same_from : (k l : ℕ) (T : List ℕ) (w : Waiting) (p : ℕ) →
    delimiter_from T (waiting_from k l w) p ≡ delimiter_from T w p
unfolding delimiter_on
same_from k l T w p = same_below k l _ T w _ p

module _ (edition : Edition) (T : List ℕ) (o u k l low : ℕ) (begins : k ≤ o + low)
    (off : (p : ℕ) → low ≤ p → l + (o + p - k) ≡ u + p) where
  -- the bodies from p on are the same, moved
  abbrev Moved : Row Waiting → Row Span → ℕ → Row Span × ℕ → Type 0
  Moved ws bodies p x = bodies_from (given edition T u) (map (waiting_from k l) ws) (map (span_from k l) bodies) p
      ≡ Ok (map (span_from k l) x.0, x.1)

  -- by where the body of the first document ends, if it does
  one_moved : (w : Waiting) (ws : Row Waiting) (bodies : Row Span) (p : ℕ) (x : Row Span × ℕ) → low ≤ p
      → ((bs : Row Span) (q : ℕ) → low ≤ q → bodies_from (given edition T o) ws bs q ≡ Ok x → Moved ws bs q x)
      → (d : Option ℕ) → delimiter_from T w p ≡ d →
      body_by (bodies_from (given edition T o) ws) (given edition T o) w bodies p d ≡ Ok x →
      Moved (w ∷ ws) bodies p x
  unfolding bodies_from
  one_moved w ws bodies p x from more None found read = absurd cc
  one_moved w ws bodies p x from more (Some q) found read =
      let one = delimiter_between T w false p q found in
      let next = more (bodies ++ span o p q ∷ []) (past_line T q)
      (omega (arith, from, one.0, one.1, next_newline_low T q)) read in
      let here : map (span_from k l) (bodies ++ span o p q ∷ []) ≡ map (span_from k l) bodies ++ span u p q ∷ [] =
      map-append (span_from k l) bodies (span o p q ∷ [])
      ∙ ap (λ (s : Span). map (span_from k l) bodies ++ s ∷ [])
      (span_is k l u o p q (off p from) (omega (arith, begins, from)) one.0) in
      rw (same_from k l T w p, found, ← here) next

  -- and so those of all that wait
  pub bodies_from_moved : (ws : Row Waiting) (bodies : Row Span) (p : ℕ) (x : Row Span × ℕ) → low ≤ p →
      bodies_from (given edition T o) ws bodies p ≡ Ok x → Moved ws bodies p x
  unfolding bodies_from
  bodies_from_moved [] bodies p x from read = let is : (bodies, p) ≡ x = cc in
      ap (λ (y : Row Span × ℕ). Ok (map (span_from k l) y.0, y.1)) is
  bodies_from_moved (w ∷ ws) bodies p x from read =
      one_moved w ws bodies p x from (λ bs q. bodies_from_moved ws bs q x) (delimiter_from T w p) refl read

-- moved twice
pub twice_spans : (k l j m : ℕ) (f : ℕ → ℕ) → ((x : ℕ) → shifted j m (shifted k l x) ≡ f x) → (bs : Row Span) →
    map (span_from j m) (map (span_from k l) bs) ≡ map (λ (s : Span). from_to (f s.start) (f s.«end»)) bs
twice_spans k l j m f is [] = refl
twice_spans k l j m f is (b ∷ bs) = rw (is b.start, is b.«end», twice_spans k l j m f is bs) refl

-- what waits, with the offset of its operator under f
abbrev waiting_at : (ℕ → ℕ) → Waiting → Waiting
waiting_at f w = record { operator = f w.operator; delimiter = w.delimiter; literal = w.literal; strip = w.strip }

pub twice_waits : (k l j m : ℕ) (f : ℕ → ℕ) → ((x : ℕ) → shifted j m (shifted k l x) ≡ f x) → (ws : Row Waiting) →
    map (waiting_from j m) (map (waiting_from k l) ws) ≡ map (waiting_at f) ws
twice_waits k l j m f is [] = refl
twice_waits k l j m f is (w ∷ ws) = rw (is w.operator, twice_waits k l j m f is ws) refl
