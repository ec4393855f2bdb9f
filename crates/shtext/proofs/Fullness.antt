-- Chunks of which none is empty, none too long, and none but the last small.
use Rattle.std.proofs.Common.{zero, suc, ◌*◌, ◌≡◌, ◌⊎◌, ℕ, ◌+◌, ◌-◌, ◌<◌, ◌≤◌, List, [], ◌∷◌, ◌++◌, List as Row, length, take, drop, min, refl, sym, ap, subst, ◌∙◌, arith, ⊎_elim}
use Rattle.std.proofs.lemmas.Bool.{cases_lt}
use Rattle.std.proofs.lemmas.List.{get_or-append_right, get_or_append_left, get_or-drop, get_or_default, get_or_push, get_or-take, length-append, length-drop, length-take, length-take-le, take_all}
use Rattle.shtext.specs.Chunks.{AreFull, EachHas, chunk_at, fewest, joined, most, needed}
use Rattle.shtext.proofs.Joined.{joined_low, joined_more}

-- each chunk is so
abbrev pub Each : (List ℕ → Type 0) → Row (List ℕ) → Type 0
Each P ks = (n : ℕ) → n < length ks → P (chunk_at ks n)

-- a chunk that is not small
abbrev pub NotSmall : List ℕ → Type 0
NotSmall k = fewest ≤ length k

-- one more
pub each_push : (P : List ℕ → Type 0) (ks : Row (List ℕ)) (k : List ℕ) → Each P ks → P k → Each P (ks ++ k ∷ [])
each_push P ks k all some n low =
    let long = length-append ks (k ∷ []) in
    ⊎_elim
    (λ (lt : n < length ks). subst P (sym (get_or_append_left ks (k ∷ []) [] n lt)) (all n lt))
    (λ (ge : length ks ≤ n). subst P (sym (get_or_push ks k [] n (omega (arith, low, long, ge)))) some)
    (cases_lt n (length ks))

pub each_append : (P : List ℕ → Type 0) (js ks : Row (List ℕ)) → Each P js → Each P ks → Each P (js ++ ks)
each_append P js ks front back n low =
    let long = length-append js ks in
    ⊎_elim
    (λ (lt : n < length js). subst P (sym (get_or_append_left js ks [] n lt)) (front n lt))
    (λ (ge : length js ≤ n). subst P (sym (get_or-append_right js ks (length js) n [] refl ge))
    (back (n - length js) (omega (arith, low, long, ge))))
    (cases_lt n (length js))

pub each_take : (P : List ℕ → Type 0) (ks : Row (List ℕ)) (f : ℕ) → Each P ks → Each P (take f ks)
each_take P ks f all n low =
    let long = length-take f ks in
    subst P (sym (get_or-take f ks n [] (omega (arith, low, long)))) (all n (omega (arith, low, long)))

pub each_drop : (P : List ℕ → Type 0) (ks : Row (List ℕ)) (t : ℕ) → Each P ks → Each P (drop t ks)
each_drop P ks t all n low =
    let long = length-drop t ks in
    subst P (sym (get_or-drop t ks n [])) (all (t + n) (omega (arith, low, long)))

-- some that give way
pub each_between : (P : List ℕ → Type 0) (ks ns : Row (List ℕ)) (f t : ℕ) → Each P ks → Each P ns →
    Each P (take f ks ++ (ns ++ drop t ks))
each_between P ks ns f t all new =
    each_append P (take f ks) (ns ++ drop t ks) (each_take P ks f all)
    (each_append P ns (drop t ks) new (each_drop P ks t all))

-- one more, which may be small
pub full_end : (ks : Row (List ℕ)) (k : List ℕ) → Each NotSmall ks → AreFull (ks ++ k ∷ [])
full_end ks k all n low =
    let long = length-append ks (k ∷ []) in
    let lt : n < length ks = omega (arith, low, long) in
    subst NotSmall (sym (get_or_append_left ks (k ∷ []) [] n lt)) (all n lt)

-- some that give way
pub full_between : (ks ns : Row (List ℕ)) (f t : ℕ) → f ≤ t → t ≤ length ks → f < length ks ⊎ (length ks ≡ 0) →
    AreFull ks
    → (t < length ks → Each NotSmall ns) → AreFull ns → AreFull (take f ks ++ (ns ++ drop t ks))
full_between ks ns f t order within some all inner ends n low =
    let one = length-append (take f ks) (ns ++ drop t ks) in
    let two = length-append ns (drop t ks) in
    let three : length (take f ks) ≡ f = length-take-le f ks (omega (arith, order, within)) in
    let four = length-drop t ks in
    ⊎_elim
    (λ (lt : n < f).
    let few : n + 1 < length ks =
    ⊎_elim (λ (x : f < length ks). omega (arith, x, lt))
    (λ (x : length ks ≡ 0). absurd (omega (arith, x, lt, order, within))) some in
    subst NotSmall (sym (get_or_append_left (take f ks) (ns ++ drop t ks) [] n (omega (arith, lt, three))
    ∙ get_or-take f ks n [] lt)) (all n few))
    (λ (ge : f ≤ n).
    let m : ℕ = n - f in
    let right = get_or-append_right (take f ks) (ns ++ drop t ks) f n [] three ge in
    ⊎_elim
    (λ (lt : m < length ns).
    let here = get_or_append_left ns (drop t ks) [] m lt in
    ⊎_elim
    (λ (next : m + 1 < length ns). subst NotSmall (sym (right ∙ here)) (ends m next))
    (λ (last : length ns ≤ m + 1). subst NotSmall (sym (right ∙ here))
    (inner (omega (arith, low, one, two, three, four, last, ge)) m lt))
    (cases_lt (m + 1) (length ns)))
    (λ (past : length ns ≤ m).
    let there = get_or-append_right ns (drop t ks) (length ns) m [] refl past ∙ get_or-drop t ks (m - length ns) [] in
    subst NotSmall (sym (right ∙ there))
    (all (t + (m - length ns)) (omega (arith, low, one, two, three, four, past, ge))))
    (cases_lt m (length ns)))
    (cases_lt n f)

-- chunks that many bytes fill are not small
pub not_small : (ns : Row (List ℕ)) (len : ℕ) → EachHas (min fewest len) ns → fewest ≤ len → Each NotSmall ns
not_small ns len all enough n low = let has = (all n low).0 in omega (arith, has, enough)

-- and none is empty
pub not_empty : (ns : Row (List ℕ)) (len : ℕ) → EachHas (min fewest len) ns → length ns ≡ needed len → EachHas 1 ns
not_empty ns len all count n low = let has = (all n low).0 in (omega (arith, has, count, low), (all n low).1)

-- so none of theirs is small but the last
pub full_filled : (ns : Row (List ℕ)) (len : ℕ) → EachHas (min fewest len) ns → length ns ≡ needed len → AreFull ns
full_filled ns len all count n low =
    let enough : fewest ≤ len = omega (arith, count, low) in
    not_small ns len all enough n (omega (arith, low))

-- what chunks hold
pub holds_few : (least : ℕ) (ks : Row (List ℕ)) (from d : ℕ) → EachHas least ks → from + d ≤ length ks →
    length (joined (take (from + d) ks)) ≤ length (joined (take from ks)) + d * most
holds_few least ks from zero all within = let same : from + 0 ≡ from = omega arith in
    let here = ap (λ m. length (joined (take m ks))) same in omega (arith, here)
holds_few least ks from (suc d) all within =
    let n : ℕ = from + d in
    let k : List ℕ = chunk_at ks n in
    let low : n < length ks = omega (arith, within) in
    let less = holds_few least ks from d all (omega (arith, within)) in
    let more = ap length (joined_more n ks k low (get_or_default ks n [] k low)) in
    let long = length-append (joined (take n ks)) k in
    let up : length (joined (take (from + suc d) ks)) ≡ length (joined (take (n + 1) ks)) = let next : from + suc d
    ≡ n + 1 = omega arith in ap (λ m. length (joined (take m ks))) next in
    let few : length k ≤ most = (all n low).1 in
    omega (arith, less, more, long, up, few)

-- what one holds
pub next_few : (least : ℕ) (ks : Row (List ℕ)) (n : ℕ) → EachHas least ks → n < length ks →
    length (joined (take (n + 1) ks)) ≤ length (joined (take n ks)) + most
next_few least ks n all low = let few = holds_few least ks n 1 all (omega (arith, low)) in omega (arith, few)

-- what the last one holds
pub last_few : (least : ℕ) (ks : Row (List ℕ)) (n : ℕ) → EachHas least ks → n ≡ length ks - 1 →
    length (joined ks) ≤ length (joined (take n ks)) + most
last_few least ks n all last =
    ⊎_elim
    (λ (lt : n < length ks).
    let few = next_few least ks n all lt in
    let whole = ap (λ l. length (joined l)) (take_all (n + 1) ks (omega (arith, last))) in
    omega (arith, few, whole))
    (λ (ge : length ks ≤ n).
    let whole = ap (λ l. length (joined l)) (take_all n ks ge) in
    omega (arith, whole))
    (cases_lt n (length ks))

-- so they are enough for as many bytes, with those that others need
pub needed_more : (held count len more : ℕ) → held ≤ count * most → len ≤ held + more → needed len ≤ count + needed more
needed_more held count len more few all = omega (arith, few, all)

-- so there are not many
full_sum : (ks : Row (List ℕ)) (n : ℕ) → n + 1 ≤ length ks → AreFull ks → n * fewest ≤ length (joined (take n ks))
full_sum ks zero low all = omega arith
full_sum ks (suc n) low all =
    let k : List ℕ = chunk_at ks n in
    let within : n < length ks = omega (arith, low) in
    let less = full_sum ks n (omega (arith, low)) all in
    let more = ap length (joined_more n ks k within (get_or_default ks n [] k within)) in
    let long = length-append (joined (take n ks)) k in
    let some = all n (omega (arith, low)) in
    let up : length (joined (take (suc n) ks)) ≡ length (joined (take (n + 1) ks)) = let next : suc n ≡ n + 1 =
    omega arith in ap (λ m. length (joined (take m ks))) next in
    omega (arith, less, more, long, some, up)

pub full_count : (ks : Row (List ℕ)) → AreFull ks → length ks * fewest ≤ length (joined ks) + fewest
full_count [] all = omega arith
full_count (k ∷ ks) all =
    let sum = full_sum (k ∷ ks) (length ks) (omega arith) all in
    let low = joined_low (length ks) (k ∷ ks) in
    omega (arith, sum, low)
