-- The newlines of a stretch of a text, and the line and the column after it.
use Rattle.std.proofs.Common.{◌≡◌, ℕ, zero, suc, ◌+◌, ◌-◌, ◌<◌, ◌≤◌, Bool, true, false, List, count_by, length, take, get_or, refl, sym, ap, ◌∙◌, arith, add-zero}
use Rattle.std.proofs.lemmas.List.Sums.{count_by_more_no, count_by_more_yes}
use Rattle.shsource.specs.Text.{is_newline, line_of, since_newline}
use Rattle.shtext.proofs.Newlines.{ends, stays}

-- bytes without a newline stay in the line
pub still : (bytes : List ℕ) (s n : ℕ) → s + n ≤ length bytes →
    ((k : ℕ) → k < n → is_newline (get_or bytes (s + k) 0) ≡ false)
    → since_newline (take (s + n) bytes) ≡ since_newline (take s bytes) + n
still bytes s zero fits none = ap (λ m. since_newline (take m bytes)) (add-zero s) ∙ sym (add-zero _)
still bytes s (suc n) fits none =
    let before = still bytes s n (omega (arith, fits)) (λ k lt. none k (omega (arith, lt))) in
    let step = stays bytes (s + n) (omega (arith, fits)) (none n (omega arith)) in
    let up : s + suc n ≡ s + n + 1 = omega arith in
    ap (λ m. since_newline (take m bytes)) up ∙ step.1 ∙ ap (λ m. m + 1) before ∙ omega arith

-- the last newline among bytes begins the line after them
pub begun : (bytes : List ℕ) (s n i : ℕ) → s + n ≤ length bytes → i < n → is_newline (get_or bytes (s + i) 0) ≡ true
    → ((k : ℕ) → i < k → k < n → is_newline (get_or bytes (s + k) 0) ≡ false)
    → since_newline (take (s + n) bytes) + (i + 1) ≡ n
begun bytes s n i fits low here none =
    let end = ends bytes (s + i) (omega (arith, fits, low)) here in
    let rest = still bytes (s + i + 1) (n - (i + 1)) (omega (arith, fits, low)) (λ k lt.
    let there : s + i + 1 + k ≡ s + (i + 1 + k) = omega arith in
    ap (λ m. is_newline (get_or bytes m 0)) there ∙ none (i + 1 + k) (omega arith) (omega (arith, lt))) in
    let there : s + i + 1 + (n - (i + 1)) ≡ s + n = omega (arith, low) in
    let all : since_newline (take (s + n) bytes) ≡ since_newline (take (s + i + 1) bytes) + (n - (i + 1)) =
    sym (ap (λ m. since_newline (take m bytes)) there) ∙ rest in
    omega (arith, all, end.1, low)

-- each newline of a stretch is a line more
pub lines : (bytes run : List ℕ) (s : ℕ) → ((k : ℕ) → k < length run → get_or bytes (s + k) 0 ≡ get_or run k 0)
    → (n : ℕ) → s + n ≤ length bytes → n ≤ length run →
    line_of bytes (s + n) ≡ line_of bytes s + count_by is_newline (take n run)
lines bytes run s same zero fits short = ap (line_of bytes) (add-zero s) ∙ sym (add-zero _)
lines bytes run s same (suc n) fits short =
    by_byte bytes run s n (omega (arith, fits)) (omega (arith, short)) (same n (omega (arith, short)))
    (lines bytes run s same n (omega (arith, fits)) (omega (arith, short))) (is_newline (get_or run n 0)) refl where
      by_byte : (bytes run : List ℕ) (s n : ℕ) → s + n < length bytes → n < length run →
          get_or bytes (s + n) 0 ≡ get_or run n 0
          → line_of bytes (s + n) ≡ line_of bytes s + count_by is_newline (take n run)
          → (x : Bool) → is_newline (get_or run n 0) ≡ x →
          line_of bytes (s + suc n) ≡ line_of bytes s + count_by is_newline (take (suc n) run)
      by_byte bytes run s n fits short byte before true is =
          let end = (ends bytes (s + n) fits (ap is_newline byte ∙ is)).0 in
          let more = count_by_more_yes is_newline run n 0 short is in
          let count : count_by is_newline (take (suc n) run) ≡ count_by is_newline (take (n + 1) run) = let next : suc n
          ≡ n + 1 = omega arith in ap (λ m. count_by is_newline (take m run)) next in
          let up : s + suc n ≡ s + n + 1 = omega arith in
          ap (line_of bytes) up ∙ end ∙ omega (arith, before, more, count)
      by_byte bytes run s n fits short byte before false is =
          let end = (stays bytes (s + n) fits (ap is_newline byte ∙ is)).0 in
          let more = count_by_more_no is_newline run n 0 short is in
          let count : count_by is_newline (take (suc n) run) ≡ count_by is_newline (take (n + 1) run) = let next : suc n
          ≡ n + 1 = omega arith in ap (λ m. count_by is_newline (take m run)) next in
          let up : s + suc n ≡ s + n + 1 = omega arith in
          ap (line_of bytes) up ∙ end ∙ omega (arith, before, more, count)
