-- Rows of sixteen bytes, lane by lane.
use Rattle.std.proofs.Common.{◌≡◌, ℕ, ◌+◌, ◌-◌, ◌*◌, ◌/◌, ◌%◌, ◌^◌, ◌<◌, ◌≤◌, Bool, true, false, not, cond, eqb, List, [], ◌∷◌, map, length, get_or, take, drop, replicate, bit_and, refl, sym, ap, ◌∙◌, arith, w8, Fits, eq-eqb}
use Rattle.std.proofs.lemmas.Bool.{ne_eqb}
use Rattle.std.proofs.lemmas.List.{drop-drop, get_or-map, length-drop, length-map, length-take-le, take-append-drop, ext_get_or}
use Rattle.std.proofs.lemmas.List.Folds.{prefix_len-append}
use Rattle.std.proofs.lemmas.List.Sums.{prefix_len-le-length}
use Rattle.std.proofs.lemmas.Nat.{and_mask, and_le_r}
use Rattle.std.proofs.lemmas.Simd.{Each1-all, Each1-get_or, Each1-weaker, Each1-zip2, Each2-splat, below_from_Fits, bitmask_splat, first_set_mask_l, get_or-swz_l_below, length-swz_l, length-zip2, map-map, swz_l, SwzOk, SwzOk-from_below, zip2_of_maps, zip2_splat}
use Rattle.std.specs.List.{prefix_len}
use lib.Count.{count_trailing_zeros}
use lib.Lanes.{zip2, mask_l, top, Each1}
use Rattle.shscan.specs.Sets.{is_outside, kinds}

abbrev pub IsRow : List ℕ → Type 0
IsRow v = (length v ≡ 16) × Each1 (Fits w8) v

abbrev pub down : ℕ → ℕ → ℕ
down a b = a / 2 ^ b

-- both halves of a byte are places in a table of sixteen

pub high_ok : (v : List ℕ) → IsRow v → SwzOk w8 16 16 0 (zip2 down v (replicate 16 4))
high_ok v fits =
    let small = Each1-weaker (λ a. a < 256) (λ a. a / 16 < 16) (λ a h. omega arith) v (below_from_Fits w8 v fits.1) in
    SwzOk-from_below w8 16 1 16 0 (zip2 down v (replicate 16 4)) refl
    (omega (arith, length-zip2 down v (replicate 16 4) fits.0))
    (Each1-zip2 down (λ j. j < 16) v (replicate 16 4) (Each2-splat (λ a b. down a b < 16) v 16 4 small))

pub low_ok : (v : List ℕ) → IsRow v → SwzOk w8 16 16 0 (zip2 bit_and v (replicate 16 15))
low_ok v fits =
    let small = Each1-all (λ a. bit_and a 15 < 16) (λ a. omega (arith, and_le_r a 15)) v in
    SwzOk-from_below w8 16 1 16 0 (zip2 bit_and v (replicate 16 15)) refl
    (omega (arith, length-zip2 bit_and v (replicate 16 15) fits.0))
    (Each1-zip2 bit_and (λ j. j < 16) v (replicate 16 15) (Each2-splat (λ a b. bit_and a b < 16) v 16 15 small))

-- a table read at the places g x, which are below 16
looked_up : (table : List ℕ) (g : ℕ → ℕ) (v js : List ℕ) → IsRow v → js ≡ map g v → ((x : ℕ) → x < 256 → g x < 16)
    → swz_l w8 16 table 0 js ≡ map (λ x. get_or table (g x) 0) v
looked_up table g v js fits e small =
    let long : length js ≡ 16 = ap length e ∙ length-map v g ∙ fits.0 in
    ext_get_or 0 _ _ (length-swz_l w8 16 table 0 js ∙ long ∙ sym (length-map v (λ x. get_or table (g x) 0) ∙ fits.0))
    (λ i h.
    let lt : i < 16 = omega (arith, length-swz_l w8 16 table 0 js) in
    let within : i < length v = omega (arith, fits.0) in
    let is : get_or js i 0 ≡ g (get_or v i 0) = ap (λ l. get_or l i 0) e ∙ get_or-map g v i 0 0 within in
    let below : get_or js i 0 < 16 =
    omega (arith, small (get_or v i 0) (Each1-get_or (Fits w8) v i 0 within fits.1).fits) in
    let place : 16 * ((0 + i) / 16) + get_or js i 0 ≡ g (get_or v i 0) = omega (arith, is, lt) in
    get_or-swz_l_below w8 16 table 0 js i (omega arith) below
    ∙ ap (λ k. get_or table k 0) place
    ∙ sym (get_or-map (λ x. get_or table (g x) 0) v i 0 0 within))

-- the kinds of each byte
kinds_of : (low high v : List ℕ) → IsRow v
    → zip2 bit_and (swz_l w8 16 low 0 (zip2 bit_and v (replicate 16 15)))
    (swz_l w8 16 high 0 (zip2 down v (replicate 16 4))) ≡ map (kinds low high) v
kinds_of low high v fits =
    let lows = looked_up low (λ x. bit_and x 15) v _ fits (zip2_splat bit_and v 16 15 fits.0)
    (λ x h. omega (arith, and_le_r x 15)) in
    let highs = looked_up high (λ x. down x 4) v _ fits (zip2_splat down v 16 4 fits.0) (λ x h. omega arith) in
    let both = zip2_of_maps bit_and (λ x. get_or low (bit_and x 15) 0) (λ x. get_or high (down x 4) 0) v lows highs in
    both ∙ ext_get_or 0 _ _ (length-map v _ ∙ sym (length-map v (kinds low high))) (λ i h.
    let within : i < length v = omega
    (arith, length-map v (λ x. bit_and (get_or low (bit_and x 15) 0) (get_or high (down x 4) 0))) in
    get_or-map (λ x. bit_and (get_or low (bit_and x 15) 0) (get_or high (down x 4) 0)) v i 0 0 within
    ∙ ap (λ k. bit_and (get_or low k 0) (get_or high (down (get_or v i 0) 4) 0)) (and_mask (get_or v i 0) 4)
    ∙ sym (get_or-map (kinds low high) v i 0 0 within))

abbrev pub differs : ℕ → ℕ → ℕ
differs a b = cond (not (eqb a b)) 255 0

-- the mask of a row has a bit for each byte of the set
pub members_of : (low high v : List ℕ) → IsRow v
    → mask_l (map (top 7) (zip2 differs
    (zip2 bit_and (swz_l w8 16 low 0 (zip2 bit_and v (replicate 16 15)))
    (swz_l w8 16 high 0 (zip2 down v (replicate 16 4)))) (replicate 16 0))) % 2 ^ 64
    ≡ mask_l (map (λ b. not (eqb (kinds low high b) 0)) v)
members_of low high v fits =
    let ks = kinds_of low high v fits in
    let row : List ℕ = map (kinds low high) v in
    ap (λ l. mask_l (map (top 7) (zip2 differs l (replicate 16 0))) % 2 ^ 64) ks
    ∙ bitmask_splat w8 (λ a b. not (eqb a b)) row 16 0 (length-map v (kinds low high) ∙ fits.0) (omega arith)
    ∙ ap mask_l (map-map (λ x. not (eqb x 0)) (kinds low high) v)

prefix_same : (f g : ℕ → Bool) → ((x : ℕ) → f x ≡ g x) → (xs : List ℕ) → prefix_len f xs ≡ prefix_len g xs
prefix_same f g same [] = refl
prefix_same f g same (x ∷ xs) = ap (λ t. cond t (1 + prefix_len f xs) 0) (same x)
    ∙ ap (λ n. cond (g x) (1 + n) 0) (prefix_same f g same xs)

not_not : (x : Bool) → not (not x) ≡ x
not_not true = refl
not_not false = refl

-- how many stand before the first of the set, by the mask: none is of it, or its lowest bit tells the first
first_of : (low high v : List ℕ) → IsRow v → (mask : ℕ) → mask ≡ mask_l (map (λ b. not (eqb (kinds low high b) 0)) v)
    → cond (eqb mask 0) 16 (count_trailing_zeros 64 mask) ≡ prefix_len (is_outside low high) v
first_of low high v fits mask is =
    let member : ℕ → Bool = λ b. not (eqb (kinds low high b) 0) in
    ap (λ m. cond (eqb m 0) 16 (count_trailing_zeros 64 m)) is
    ∙ first_set_mask_l member v 16 fits.0 (omega arith)
    ∙ prefix_same (λ b. not (member b)) (is_outside low high) (λ b. not_not (eqb (kinds low high b) 0)) v

-- none is of it
pub none_first : (low high v : List ℕ) → IsRow v → (mask : ℕ) →
    mask ≡ mask_l (map (λ b. not (eqb (kinds low high b) 0)) v) → mask ≡ 0
    → 16 ≡ prefix_len (is_outside low high) v
none_first low high v fits mask is none =
    sym (ap (λ t. cond t 16 (count_trailing_zeros 64 mask)) (eq-eqb _ _ none)) ∙ first_of low high v fits mask is

-- one is
pub some_first : (low high v : List ℕ) → IsRow v → (mask : ℕ) →
    mask ≡ mask_l (map (λ b. not (eqb (kinds low high b) 0)) v) → (mask ≡ 0 → ⊥)
    → count_trailing_zeros 64 mask ≡ prefix_len (is_outside low high) v
some_first low high v fits mask is some =
    sym (ap (λ t. cond t 16 (count_trailing_zeros 64 mask)) (ne_eqb _ _ some)) ∙ first_of low high v fits mask is

-- ---- from row to row

-- a row that has none of them is passed
pub row_passed : (p : ℕ → Bool) (xs : List ℕ) → 16 ≤ length xs → prefix_len p (take 16 xs) ≡ 16 →
    prefix_len p xs ≡ 16 + prefix_len p (drop 16 xs)
row_passed p xs long all =
    let whole : length (take 16 xs) ≡ 16 = length-take-le 16 xs long in
    ap (prefix_len p) (sym (take-append-drop 16 xs)) ∙ prefix_len-append p (take 16 xs) (drop 16 xs)
    ∙ ap (λ t. cond t (length (take 16 xs) + prefix_len p (drop 16 xs)) (prefix_len p (take 16 xs)))
    (eq-eqb _ _ (all ∙ sym whole))
    ∙ ap (λ n. n + prefix_len p (drop 16 xs)) whole

-- one that has ends the search
pub row_ends : (p : ℕ → Bool) (xs : List ℕ) → 16 ≤ length xs → prefix_len p (take 16 xs) < 16 →
    prefix_len p xs ≡ prefix_len p (take 16 xs)
row_ends p xs long short =
    let whole : length (take 16 xs) ≡ 16 = length-take-le 16 xs long in
    let other : eqb (prefix_len p (take 16 xs)) (length (take 16 xs)) ≡ false =
    ne_eqb _ _ (λ e. omega (arith, whole, short, e)) in
    ap (prefix_len p) (sym (take-append-drop 16 xs)) ∙ prefix_len-append p (take 16 xs) (drop 16 xs)
    ∙ ap (λ t. cond t (length (take 16 xs) + prefix_len p (drop 16 xs)) (prefix_len p (take 16 xs))) other

-- ---- the search from a place on

-- the row there has one of them
pub found : (p : ℕ → Bool) (xs : List ℕ) (at count : ℕ) → at + 16 ≤ length xs →
    prefix_len p xs ≡ at + prefix_len p (drop at xs)
    → count ≡ prefix_len p (take 16 (drop at xs)) → count < 16 → at + count ≡ prefix_len p xs
found p xs at count fits so is low =
    let long : length (drop at xs) ≡ length xs - at = length-drop at xs in
    let ends = row_ends p (drop at xs) (omega (arith, fits, long)) (omega (arith, is, low)) in
    omega (arith, so, ends, is)

-- it has none
pub goes_on : (p : ℕ → Bool) (xs : List ℕ) (at count : ℕ) → at + 16 ≤ length xs →
    prefix_len p xs ≡ at + prefix_len p (drop at xs)
    → count ≡ prefix_len p (take 16 (drop at xs)) → 16 ≤ count →
    prefix_len p xs ≡ at + 16 + prefix_len p (drop (at + 16) xs)
goes_on p xs at count fits so is high =
    let short : prefix_len p (take 16 (drop at xs)) ≤ length (take 16 (drop at xs)) =
    prefix_len-le-length p (take 16 (drop at xs)) in
    let long : length (drop at xs) ≡ length xs - at = length-drop at xs in
    let whole : length (take 16 (drop at xs)) ≡ 16 = length-take-le 16 (drop at xs) (omega (arith, fits, long)) in
    let passed = row_passed p (drop at xs) (omega (arith, fits, long)) (omega (arith, short, whole, is, high)) in
    let on : prefix_len p (drop 16 (drop at xs)) ≡ prefix_len p (drop (at + 16) xs) =
    ap (prefix_len p) (drop-drop 16 at xs) in
    omega (arith, so, passed, on)

-- what is left is no longer than the run
pub within : (p : ℕ → Bool) (xs : List ℕ) (at n : ℕ) → at + n ≤ length xs →
    at + prefix_len p (take n (drop at xs)) ≤ length xs
within p xs at n fits =
    let long : length (drop at xs) ≡ length xs - at = length-drop at xs in
    let whole : length (take n (drop at xs)) ≡ n = length-take-le n (drop at xs) (omega (arith, fits, long)) in
    let short = prefix_len-le-length p (take n (drop at xs)) in
    omega (arith, short, whole, fits)
