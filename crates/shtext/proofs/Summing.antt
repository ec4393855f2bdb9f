-- Sums over chunks.
use Rattle.std.proofs.Common.{zero, suc, ◌≡◌, ℕ, ◌+◌, ◌<◌, ◌≤◌, List, [], ◌++◌, List as Row, length, get_or, set, ◌≢◌, sym, ap, ◌∙◌, subst, arith, ⊎_elim, count_by}
use Rattle.std.proofs.lemmas.Bool.{cases_lt}
use Rattle.std.proofs.lemmas.List.{get_or-set_other, get_or-set_same}
use Rattle.shtext.specs.Chunks.{HasSums, before}
use Rattle.shsource.specs.Text.{is_newline}
use Rattle.shtext.proofs.Joined.{joined_nil}
use Rattle.std.proofs.lemmas.List.Sums.{sum_by-append}

-- one that is another than it was
pub sums_set : (F : ℕ → ℕ) (sums : List ℕ) (n x : ℕ) → n < length sums → ((m : ℕ) → m ≤ n → before sums m ≡ F m) →
    x ≡ F (n + 1)
    → (m : ℕ) → m ≤ n + 1 → before (set sums n x) m ≡ F m
sums_set F sums n x within all is zero low = all zero (omega arith)
sums_set F sums n x within all is (suc m) low =
    ⊎_elim
    (λ (lt : m < n). let other : m ≢ n = omega (arith, lt) in
    get_or-set_other sums n m x 0 other ∙ all (suc m) (omega (arith, lt)))
    (λ (ge : n ≤ m).
    let same : m ≡ n = omega (arith, ge, low) in
    let next : n + 1 ≡ suc m = omega (arith, same) in
    ap (λ k. get_or (set sums n x) k 0) same ∙ get_or-set_same sums n x 0 within ∙ is ∙ ap F next)
    (cases_lt m n)

-- none
pub sums_none : (measure : List ℕ → ℕ) → measure [] ≡ 0 → (ks : Row (List ℕ)) (sums : List ℕ) →
    HasSums measure ks 0 sums
sums_none measure none ks sums zero low = sym (ap measure joined_nil ∙ none)
sums_none measure none ks sums (suc m) low = absurd (omega (arith, low))

pub newlines_append : (xs ys : List ℕ) →
    count_by is_newline (xs ++ ys) ≡ count_by is_newline xs + count_by is_newline ys
newlines_append xs ys = sum_by-append _ xs ys

pub sums_empty : (measure : List ℕ → ℕ) → measure [] ≡ 0 → (ks : Row (List ℕ)) (sums : List ℕ) → ks ≡ [] →
    HasSums measure ks (length ks) sums
sums_empty measure none ks sums is =
    subst (λ n. HasSums measure ks n sums) (sym (ap length is)) (sums_none measure none ks sums)
