-- The lines of a text.
use Rattle.std.proofs.Common.{◌≡◌, ℕ, ◌+◌, ◌-◌, ◌<◌, ◌≤◌, Bool, true, false, List, ◌++◌, Some, length, take, get_or, refl, sym, ap, ◌∙◌, arith, ⊎_elim, count_by, length-append}
use Rattle.std.proofs.lemmas.Bool.{cases_lt, false_from_ne_true}
use Rattle.std.proofs.lemmas.List.{get_or-append_right, get_or_append_left, take-append-le}
use Rattle.std.proofs.Math.Seq.{take-append-add}
use Rattle.shsource.specs.Text.{IsLineStart, column_of, is_newline, line_of, since_newline}
use Rattle.shtext.proofs.Counting.{still}
use Rattle.shtext.proofs.Newlines.{ends, stays, grows}
use Rattle.shtext.proofs.Summing.{newlines_append}

-- the newlines before an offset of a chunk
pub lines_before : (B X k Y : List ℕ) (o : ℕ) → B ≡ X ++ (k ++ Y) → o ≤ length k →
    line_of B (length X + o) ≡ 1 + (count_by is_newline X + count_by is_newline (take o k))
lines_before B X k Y o is within =
    let front : take (length X + o) B ≡ X ++ take o k = ap (take (length X + o)) is ∙ take-append-add X (k ++ Y) o
    ∙ ap (λ l. X ++ l) (take-append-le o k Y within) in
    ap (λ l. 1 + count_by is_newline l) front ∙ ap (λ m. 1 + m) (newlines_append X (take o k))

-- a line begins after a newline of a chunk
pub start_after : (B X k Y : List ℕ) (o n : ℕ) → B ≡ X ++ (k ++ Y) → 0 < o → o ≤ length k →
    is_newline (get_or k (o - 1) 0) ≡ true
    → 1 + (count_by is_newline X + count_by is_newline (take o k)) ≡ n → IsLineStart B n (Some (length X + o))
start_after B X k Y o n is some within newline count =
    let at : ℕ = length X + (o - 1) in
    let one = ap length is in
    let two = length-append X (k ++ Y) in
    let three = length-append k Y in
    let all : length X + o ≤ length B = omega (arith, one, two, three, within) in
    let there : at - length X ≡ o - 1 = omega arith in
    let byte : get_or B at 0 ≡ get_or k (o - 1) 0 = ap (λ l. get_or l at 0) is
    ∙ get_or-append_right X (k ++ Y) (length X) at 0 refl (omega arith)
    ∙ ap (λ m. get_or (k ++ Y) m 0) there ∙ get_or_append_left k Y 0 (o - 1) (omega (arith, some, within)) in
    let zero_since = (ends B at (omega (arith, all, some)) (ap is_newline byte ∙ newline)).1 in
    let up : at + 1 ≡ length X + o = omega (arith, some) in
    (all, lines_before B X k Y o is within ∙ count, ap (λ m. column_of B m) (sym up) ∙ ap (λ m. 1 + m) zero_since)

-- a newline between two offsets would be a line more
between : (B : List ℕ) (p at k : ℕ) → p ≤ k → k < at → at ≤ length B → line_of B p ≡ line_of B at →
    is_newline (get_or B k 0) ≡ true → ⊥
between B p at k low high within same newline =
    let next = (ends B k (omega (arith, high, within)) newline).0 in
    let before : line_of B p ≤ line_of B (p + (k - p)) = grows B p (k - p) (omega (arith, low, high, within)) in
    let here : line_of B (p + (k - p)) ≡ line_of B k = let there : p + (k - p) ≡ k = omega (arith, low) in
    ap (line_of B) there in
    let after : line_of B (k + 1) ≤ line_of B (k + 1 + (at - (k + 1))) =
    grows B (k + 1) (at - (k + 1)) (omega (arith, high, within)) in
    let end : line_of B (k + 1 + (at - (k + 1))) ≡ line_of B at = let there : k + 1 + (at - (k + 1)) ≡ at =
    omega (arith, high) in ap (line_of B) there in
    omega (arith, next, before, here, after, end, same)

-- the byte before the start of a line is a newline
begun_after : (B : List ℕ) (k : ℕ) → k < length B → column_of B (k + 1) ≡ 1 → (x : Bool) →
    is_newline (get_or B k 0) ≡ x → is_newline (get_or B k 0) ≡ true
begun_after B k within column true is = is
begun_after B k within column false is =
    let step : since_newline (take (k + 1) B) ≡ since_newline (take k B) + 1 = (stays B k within is).1 in
    absurd (omega (arith, column, step))

-- a line begins at its offsets or before them
pub start_low : (B : List ℕ) (p at : ℕ) → p ≤ length B → column_of B p ≡ 1 → line_of B p ≡ line_of B at → p ≤ at
start_low B p at within column same =
    ⊎_elim
    (λ (lt : at < p).
    let up : p - 1 + 1 ≡ p = omega (arith, lt) in
    let newline = begun_after B (p - 1) (omega (arith, lt, within)) (ap (column_of B) up ∙ column)
    (is_newline (get_or B (p - 1) 0)) refl in
    absurd (between B at p (p - 1) (omega (arith, lt)) (omega (arith, lt)) within (sym same) newline))
    (λ (ge : p ≤ at). ge)
    (cases_lt at p)

-- and they are as far after it as their columns tell
pub column_at : (B : List ℕ) (p at : ℕ) → at ≤ length B → column_of B p ≡ 1 → line_of B p ≡ line_of B at → p ≤ at →
    at - p + 1 ≡ column_of B at
column_at B p at within column same low =
    let there : p + (at - p) ≡ at = omega (arith, low) in
    let far = still B p (at - p) (omega (arith, there, within))
    (λ k lt. false_from_ne_true _ (λ newline. between B p at (p + k) (omega arith)
    (omega (arith, lt, low)) within same newline)) in
    let since : since_newline (take at B) ≡ since_newline (take p B) + (at - p) =
    sym (ap (λ m. since_newline (take m B)) there) ∙ far in
    omega (arith, since, column)
