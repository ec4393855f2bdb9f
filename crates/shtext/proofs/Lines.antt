-- The lines of a text, and where each begins.
use Rattle.std.proofs.Common.{◌≡◌, ◌⊎◌, inl, inr, ⊎_elim, ℕ, zero, suc, ◌+◌, ◌-◌, ◌<◌, ◌≤◌, Bool, true, false, List, Option, None, Some, length, take, get_or, refl, sym, ap, ◌∙◌, arith}
use Rattle.std.proofs.lemmas.Bool.{cases_lt}
use Rattle.shsource.specs.Text.{IsLineStart, is_newline, line_of, column_of, since_newline}
use Rattle.shtext.proofs.Newlines.{ends, stays, grows}

-- past a place, the line or the column has moved
apart : (bytes : List ℕ) (p k : ℕ) → p ≤ k → k < length bytes → line_of bytes p ≡ line_of bytes (k + 1) →
    column_of bytes (k + 1) ≡ 1
    → (x : Bool) → is_newline (get_or bytes k 0) ≡ x → ⊥
apart bytes p k low within line column true is =
    let end : line_of bytes (k + 1) ≡ line_of bytes k + 1 = (ends bytes k within is).0 in
    let there : p + (k - p) ≡ k = omega (arith, low) in
    let up : line_of bytes p ≤ line_of bytes (p + (k - p)) = grows bytes p (k - p) (omega (arith, there, within)) in
    let same : line_of bytes (p + (k - p)) ≡ line_of bytes k = ap (line_of bytes) there in
    omega (arith, line, end, up, same)
apart bytes p k low within line column false is =
    let step : since_newline (take (k + 1) bytes) ≡ since_newline (take k bytes) + 1 = (stays bytes k within is).1 in
    omega (arith, column, step)

-- no place before the start of a line is in it
same_start : (bytes : List ℕ) (p q : ℕ) → p ≤ q → q ≤ length bytes → line_of bytes p ≡ line_of bytes q →
    column_of bytes q ≡ 1 → p ≡ q
same_start bytes p q low within line column =
    ⊎_elim
    (λ (lt : p < q).
    let up : q ≡ q - 1 + 1 = omega (arith, lt) in
    absurd (apart bytes p (q - 1) (omega (arith, lt)) (omega (arith, lt, within)) (line ∙ ap (line_of bytes) up)
    (ap (column_of bytes) (sym up) ∙ column)
    (is_newline (get_or bytes (q - 1) 0)) refl))
    (λ (ge : q ≤ p). omega (arith, low, ge))
    (cases_lt p q)

pub only : (bytes : List ℕ) (n : ℕ) (a b : Option ℕ) → IsLineStart bytes n a → IsLineStart bytes n b → a ≡ b
only bytes n None None p q = refl
only bytes n None (Some y) p q = absurd (p y q.0 q.1)
only bytes n (Some x) None p q = absurd (q x p.0 p.1)
only bytes n (Some x) (Some y) p q =
    ap Some (
    ⊎_elim
    (λ (lt : x < y). same_start bytes x y (omega (arith, lt)) q.0 (p.1 ∙ sym q.1) q.2)
    (λ (ge : y ≤ x). sym (same_start bytes y x ge p.0 (q.1 ∙ sym p.1) p.2))
    (cases_lt x y)
    )

pub some : (bytes : List ℕ) (n at : ℕ) → IsLineStart bytes n (Some at) → (1 ≤ n) × (n ≤ line_of bytes (length bytes))
some bytes n at is =
    let there : at + (length bytes - at) ≡ length bytes = omega (arith, is.0) in
    let up : line_of bytes at ≤ line_of bytes (at + (length bytes - at)) =
    grows bytes at (length bytes - at) (omega (arith, there)) in
    let end : line_of bytes (at + (length bytes - at)) ≡ line_of bytes (length bytes) = ap (line_of bytes) there in
    (omega (arith, is.1), omega (arith, is.1, up, end))

-- a byte ends a line at most
one_line : (bytes : List ℕ) (at : ℕ) → at < length bytes → (x : Bool) → is_newline (get_or bytes at 0) ≡ x →
    line_of bytes (at + 1) ≤ line_of bytes at + 1
one_line bytes at within true is = let end : line_of bytes (at + 1) ≡ line_of bytes at + 1 =
    (ends bytes at within is).0 in omega (arith, end)
one_line bytes at within false is = let end : line_of bytes (at + 1) ≡ line_of bytes at =
    (stays bytes at within is).0 in omega (arith, end)

-- each line up to that of a place has a place
reached : (bytes : List ℕ) (n at : ℕ) → at ≤ length bytes → 1 ≤ n → n ≤ line_of bytes at → (p : ℕ) × (p ≤ at)
    × (line_of bytes p ≡ n)
reached bytes n zero within low high = (0, omega arith, omega (arith, low, high))
reached bytes n (suc at) within low high =
    let next : suc at ≡ at + 1 = omega arith in
    let up : line_of bytes (suc at) ≡ line_of bytes (at + 1) = ap (line_of bytes) next in
    let one : line_of bytes (at + 1) ≤ line_of bytes at + 1 =
    one_line bytes at (omega (arith, within)) (is_newline (get_or bytes at 0)) refl in
    ⊎_elim
    (λ (lt : line_of bytes at < n). (suc at, omega arith, omega (arith, up, one, lt, high)))
    (λ (ge : n ≤ line_of bytes at). let r = reached bytes n at (omega (arith, within)) low ge in
    (r.0, omega (arith, r.1), r.2))
    (cases_lt (line_of bytes at) n)

pub none : (bytes : List ℕ) (n : ℕ) → IsLineStart bytes n None → (n ≡ 0) ⊎ (line_of bytes (length bytes) < n)
none bytes n is =
    ⊎_elim
    (λ (lt : line_of bytes (length bytes) < n). inr lt)
    (λ (ge : n ≤ line_of bytes (length bytes)).
    ⊎_elim
    (λ (less : n < 1). inl (omega (arith, less)))
    (λ (more : 1 ≤ n). let r = reached bytes n (length bytes) (omega arith) more ge in absurd (is r.0 r.1 r.2))
    (cases_lt n 1))
    (cases_lt (line_of bytes (length bytes)) n)
