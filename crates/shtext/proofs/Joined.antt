-- Bytes in chunks.
use Rattle.std.proofs.Common.{◌≡◌, ℕ, ◌+◌, ◌-◌, ◌<◌, ◌≤◌, List, [], ◌∷◌, ◌++◌, List as Row, length, take, drop, get_or, refl, sym, ap, ◌∙◌, arith, append_assoc, ⊎_elim}
use Rattle.std.proofs.lemmas.Bool.{cases_lt}
use Rattle.std.proofs.lemmas.List.{append-nil, drop_at, drop-drop, length-append, take-append-drop, take_at, take_more, take-take}
use Rattle.std.proofs.Math.Seq.{take-add}
use Rattle.shtext.specs.Edit.{spliced}
use Rattle.shtext.specs.Chunks.{HoldsPart, joined}

pub joined_append : {X : Type 0} (js ks : Row (List X)) → joined (js ++ ks) ≡ joined js ++ joined ks
unfolding joined
joined_append [] ks = refl
joined_append (j ∷ js) ks = ap (λ x. j ++ x) (joined_append js ks) ∙ sym (append_assoc j (joined js) (joined ks))

pub joined_nil : {X : Type 0} → joined {X = X} [] ≡ []
unfolding joined
joined_nil = refl

-- the chunks before one, and those from it on
pub joined_split : {X : Type 0} (n : ℕ) (ks : Row (List X)) → joined (take n ks) ++ joined (drop n ks) ≡ joined ks
joined_split n ks = sym (joined_append (take n ks) (drop n ks)) ∙ ap joined (take-append-drop n ks)

-- they are the bytes up to where it begins, and those from there on
pub joined_take : {X : Type 0} (n : ℕ) (ks : Row (List X)) →
    take (length (joined (take n ks))) (joined ks) ≡ joined (take n ks)
joined_take n ks = ap (take (length (joined (take n ks)))) (sym (joined_split n ks))
    ∙ take_at (joined (take n ks)) (joined (drop n ks)) (length (joined (take n ks))) refl

pub joined_drop : {X : Type 0} (n : ℕ) (ks : Row (List X)) →
    drop (length (joined (take n ks))) (joined ks) ≡ joined (drop n ks)
joined_drop n ks = ap (drop (length (joined (take n ks)))) (sym (joined_split n ks))
    ∙ drop_at (joined (take n ks)) (joined (drop n ks)) (length (joined (take n ks))) refl

pub joined_low : {X : Type 0} (n : ℕ) (ks : Row (List X)) → length (joined (take n ks)) ≤ length (joined ks)
joined_low n ks =
    let all = ap length (joined_split n ks) in
    omega (arith, all, length-append (joined (take n ks)) (joined (drop n ks)))

pub joined_mono : {X : Type 0} (m n : ℕ) (ks : Row (List X)) → m ≤ n →
    length (joined (take m ks)) ≤ length (joined (take n ks))
joined_mono m n ks low =
    let less = joined_low m (take n ks) in
    let same = ap (λ x. length (joined x)) (take-take m n ks low) in
    omega (arith, less, same)

-- one more
pub joined_push : {X : Type 0} (ks : Row (List X)) (k : List X) → joined (ks ++ k ∷ []) ≡ joined ks ++ k
unfolding joined
joined_push ks k = joined_append ks (k ∷ []) ∙ ap (λ x. joined ks ++ x) (append-nil k)

-- those up to one end with its bytes
pub joined_more : {X : Type 0} (n : ℕ) (ks : Row (List X)) (k : List X) → n < length ks → k ≡ get_or ks n k →
    joined (take (n + 1) ks) ≡ joined (take n ks) ++ k
joined_more n ks k low is = ap joined (take_more ks n k low) ∙ joined_push (take n ks) (get_or ks n k)
    ∙ ap (λ x. joined (take n ks) ++ x) (sym is)

-- the bytes around a chunk
pub joined_around : {X : Type 0} (n : ℕ) (ks : Row (List X)) (k : List X) → n < length ks → k ≡ get_or ks n k →
    joined ks ≡ joined (take n ks) ++ (k ++ joined (drop (n + 1) ks))
joined_around n ks k low is =
    sym (joined_split (n + 1) ks) ∙ ap (λ x. x ++ joined (drop (n + 1) ks)) (joined_more n ks k low is)
    ∙ append_assoc (joined (take n ks)) k (joined (drop (n + 1) ks))

-- what fills chunks in the place of those that hold a part: what is before an edit, what it brings, and what
-- is after it
pub joined_edited : (ks : Row (List ℕ)) (from to a b : ℕ) (new : List ℕ) → HoldsPart ks from to a b
    → joined (take from ks) ++ ((take (a - length (joined (take from ks)))
    (drop (length (joined (take from ks))) (joined ks))
    ++ (new ++ take (length (joined (take to ks)) - b) (drop b (joined ks)))) ++ joined (drop to ks))
    ≡ spliced (joined ks) a b new
joined_edited ks from to a b new holds =
    let text : List ℕ = joined ks in
    let s : ℕ = length (joined (take from ks)) in
    let e : ℕ = length (joined (take to ks)) in
    let P : List ℕ = take (a - s) (drop s text) in
    let Q : List ℕ = take (e - b) (drop b text) in
    let begin : s + (a - s) ≡ a = omega (arith, holds.low) in
    let far : b + (e - b) ≡ e = omega (arith, holds.high) in
    let front : joined (take from ks) ++ P ≡ take a text = ap (λ l. l ++ P) (sym (joined_take from ks))
    ∙ sym (take-add s (a - s) text) ∙ ap (λ m. take m text) begin in
    let rest : joined (drop to ks) ≡ drop (e - b) (drop b text) = sym (joined_drop to ks)
    ∙ ap (λ m. drop m text) (sym far) ∙ sym (drop-drop (e - b) b text) in
    let back : Q ++ joined (drop to ks) ≡ drop b text = ap (λ l. Q ++ l) rest
    ∙ take-append-drop (e - b) (drop b text) in
    ap (λ l. joined (take from ks) ++ l)
    (append_assoc P (new ++ Q) (joined (drop to ks))
    ∙ ap (λ l. P ++ l) (append_assoc new Q (joined (drop to ks)) ∙ ap (λ l. new ++ l) back))
    ∙ sym (append_assoc (joined (take from ks)) P (new ++ drop b text))
    ∙ ap (λ l. l ++ (new ++ drop b text)) front

-- an offset is before the end of the chunks up to one only if that is far enough
pub end_order : (ks : Row (List ℕ)) (n t b : ℕ) → b < length (joined (take t ks)) → length (joined (take n ks)) ≤ b →
    n ≤ t
end_order ks n t b high low =
    ⊎_elim
    (λ (lt : t < n). let less = joined_mono t n ks (omega (arith, lt)) in absurd (omega (arith, less, high, low)))
    (λ (ge : n ≤ t). ge)
    (cases_lt t n)
