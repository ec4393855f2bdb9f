-- What newlines, and bytes that are none, do to the line and the column of a place.
use Rattle.std.proofs.Common.{◌≡◌, ℕ, zero, suc, ◌+◌, ◌<◌, ◌≤◌, ◌==◌, Bool, true, false, cond, List, length, take, get_or, refl, ap, ◌∙◌, arith}
use Rattle.std.proofs.lemmas.List.Sums.{fold_more, count_by_more_no, count_by_more_yes}
use Rattle.shsource.specs.Text.{is_newline, line_of, since_newline}

since-more : (bytes : List ℕ) (i : ℕ) → i < length bytes →
    since_newline (take (i + 1) bytes) ≡ cond (get_or bytes i 0 == 10) 0 (since_newline (take i bytes) + 1)
unfolding since_newline
since-more bytes i lt = fold_more (λ n b. cond (b == 10) 0 (n + 1)) 0 bytes i 0 lt

pub since_start : (bytes : List ℕ) → since_newline (take 0 bytes) ≡ 0
unfolding since_newline
since_start bytes = refl

-- a newline ends the line
pub ends : (bytes : List ℕ) (at : ℕ) → at < length bytes → is_newline (get_or bytes at 0) ≡ true
    → (line_of bytes (at + 1) ≡ line_of bytes at + 1) × (since_newline (take (at + 1) bytes) ≡ 0)
ends bytes at lt here = (
  ap (λ m. 1 + m) (count_by_more_yes is_newline bytes at 0 lt here) ∙ omega arith,
  since-more bytes at lt ∙ ap (λ t. cond t 0 (since_newline (take at bytes) + 1)) here,
)

-- any other byte stays in the line
pub stays : (bytes : List ℕ) (at : ℕ) → at < length bytes → is_newline (get_or bytes at 0) ≡ false
    → (line_of bytes (at + 1) ≡ line_of bytes at)
    × (since_newline (take (at + 1) bytes) ≡ since_newline (take at bytes) + 1)
stays bytes at lt other = (
  ap (λ m. 1 + m) (count_by_more_no is_newline bytes at 0 lt other),
  since-more bytes at lt ∙ ap (λ t. cond t 0 (since_newline (take at bytes) + 1)) other,
)

one_more : (bytes : List ℕ) (at n : ℕ) → at < length bytes → n ≤ line_of bytes at → n ≤ line_of bytes (at + 1)
one_more bytes at n lt low = elim_bool bytes at n lt low (is_newline (get_or bytes at 0)) refl where
  elim_bool : (bytes : List ℕ) (at n : ℕ) → at < length bytes → n ≤ line_of bytes at → (x : Bool) →
      is_newline (get_or bytes at 0) ≡ x → n ≤ line_of bytes (at + 1)
  elim_bool bytes at n lt low true is = let end = (ends bytes at lt is).0 in omega (arith, low, end)
  elim_bool bytes at n lt low false is = let end = (stays bytes at lt is).0 in omega (arith, low, end)

-- no line comes before an earlier one
pub grows : (bytes : List ℕ) (at n : ℕ) → at + n ≤ length bytes → line_of bytes at ≤ line_of bytes (at + n)
grows bytes at zero fits = let same : at + 0 ≡ at = omega arith in rw same (omega arith)
grows bytes at (suc n) fits =
    let before = grows bytes at n (omega (arith, fits)) in
    let up : at + suc n ≡ at + n + 1 = omega arith in
    rw up (one_more bytes (at + n) (line_of bytes at) (omega (arith, fits)) before)
