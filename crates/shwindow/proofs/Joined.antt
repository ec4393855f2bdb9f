-- Lines in blocks, and places among them.
use Rattle.std.proofs.Common.{None, Some, set, suc, ◌≡◌, ℕ, ◌+◌, ◌<◌, ◌≤◌, List, [], ◌∷◌, ◌++◌, List as Row, length, take, drop, get_or, refl, sym, ap, subst, ◌∙◌, ⊎_elim, arith, append_assoc}
use Rattle.std.proofs.lemmas.Bool.{cases_lt}
use Rattle.std.proofs.lemmas.List.{append-nil, drop_all, drop_at, drop-set-lt, get_or_default, get_or_past, get_or-take, length-append, length-set, length-take-le, set-get_or, take-append-drop, take_all, take_at, take_more, take_more_set, take-take}
use Rattle.std.proofs.Math.Numerals.{add-one}
use Rattle.std.proofs.Math.Seq.{drop-cons, drop-nil}
use Rattle.shwindow.specs.Blocks.{IsPlace, block_at, first_of, in_one_row, lines_before, lines_from}
use Rattle.shwindow.specs.Lines.{Reads, IsBoundary, IsRow, at_start, extent}
use Rattle.shwindow.specs.Places.{in_block}
use Rattle.shwindow.specs.declared.line.HeldLine.{HeldLine}
use Rattle.shwindow.specs.declared.place.BlockPlace.{BlockPlace}
use Rattle.shwindow.proofs.Rows.{extent_append, extent_none, extent_read, extent_whole, row_at}

-- the lines of some blocks and of others after them
pub joined_append : {X : Type 0} (js ks : Row (Row X)) → in_one_row (js ++ ks) ≡ in_one_row js ++ in_one_row ks
unfolding in_one_row
joined_append [] ks = refl
joined_append (j ∷ js) ks = ap (λ x. j ++ x) (joined_append js ks)
    ∙ sym (append_assoc j (in_one_row js) (in_one_row ks))

-- the blocks before one, and those from it on
pub joined_split : {X : Type 0} (n : ℕ) (ks : Row (Row X)) →
    in_one_row (take n ks) ++ in_one_row (drop n ks) ≡ in_one_row ks
joined_split n ks = sym (joined_append (take n ks) (drop n ks)) ∙ ap in_one_row (take-append-drop n ks)

-- one more
pub joined_push : {X : Type 0} (ks : Row (Row X)) (k : Row X) → in_one_row (ks ++ k ∷ []) ≡ in_one_row ks ++ k
unfolding in_one_row
joined_push ks k = joined_append ks (k ∷ []) ∙ ap (λ x. in_one_row ks ++ x) (append-nil k)

-- one block at most
pub joined_empty : {X : Type 0} (ks : Row (Row X)) → length ks ≡ 0 → in_one_row ks ≡ []
unfolding in_one_row
joined_empty [] none = refl
joined_empty (k ∷ ks) none = absurd (omega arith)

pub joined_one : {X : Type 0} (ks js : Row (Row X)) (k : Row X) → ks ≡ js ++ k ∷ [] → length ks ≤ 1 → in_one_row ks ≡ k
joined_one ks js k is few =
    let long = ap length is in
    let none : length js ≡ 0 = omega (arith, long, length-append js (k ∷ [])) in
    ap in_one_row is ∙ joined_push js k ∙ ap (λ x. x ++ k) (joined_empty js none)

pub joined_single : {X : Type 0} (ks : Row (Row X)) → length ks ≡ 1 → in_one_row ks ≡ block_at ks 0
unfolding in_one_row
joined_single [] one = absurd (omega arith)
joined_single (k ∷ ks) one = ap (λ x. k ++ x) (joined_empty ks (omega arith)) ∙ append-nil k

-- a block that was read
pub block_read : {X : Type 0} (ks : Row (Row X)) (n : ℕ) (k : Row X) → n < length ks → k ≡ get_or ks n k →
    k ≡ block_at ks n
block_read ks n k low is = is ∙ get_or_default ks n k [] low

-- and one that was read from where these blocks stand
pub block_read_of : {X : Type 0} (ks : Row (Row X)) (n : ℕ) (items : Row (Row X)) (k : Row X) → items ≡ ks →
    n < length items → k ≡ get_or items n k → (n < length ks) × (k ≡ block_at ks n)
block_read_of {X = X} ks n items k same =
    subst (λ (items : Row (Row X)). n < length items → k ≡ get_or items n k → (n < length ks) × (k ≡ block_at ks n))
    (sym same) (λ low is. (low, block_read ks n k low is))

-- those from one on begin with its lines
joined_some : {X : Type 0} (n : ℕ) (ks : Row (Row X)) → n < length ks →
    in_one_row (drop n ks) ≡ block_at ks n ++ in_one_row (drop (n + 1) ks)
unfolding in_one_row
joined_some n ks low = ap in_one_row (drop-cons ks n [] low)
    ∙ ap (λ m. block_at ks n ++ in_one_row (drop m ks)) (sym (add-one n))

-- the same past the last block, where all of these are none, and so at each index
joined_none : {X : Type 0} (n : ℕ) (ks : Row (Row X)) → length ks ≤ n →
    in_one_row (drop n ks) ≡ block_at ks n ++ in_one_row (drop (n + 1) ks)
unfolding in_one_row
joined_none n ks high = let none = drop_all n ks high in let more = drop_all (n + 1) ks (omega arith) in
    let past = get_or_past ks n [] high in rw (none, more, past) refl

pub joined_at : {X : Type 0} (n : ℕ) (ks : Row (Row X)) →
    in_one_row (drop n ks) ≡ block_at ks n ++ in_one_row (drop (n + 1) ks)
joined_at n ks = ⊎_elim (λ (low : n < length ks). joined_some n ks low)
    (λ (high : length ks ≤ n). joined_none n ks high) (cases_lt n (length ks))

-- those up to one end with its lines
pub joined_more : {X : Type 0} (n : ℕ) (ks : Row (Row X)) → n < length ks →
    in_one_row (take (n + 1) ks) ≡ in_one_row (take n ks) ++ block_at ks n
joined_more n ks low = ap in_one_row (take_more ks n [] low) ∙ joined_push (take n ks) (block_at ks n)

-- a row with another element at an index: those before it, this one, and those after it
set_parts : {X : Type 0} (xs : Row X) (n : ℕ) (x : X) → n < length xs → set xs n x ≡ take n xs ++ x ∷ drop (n + 1) xs
set_parts xs n x low =
    sym (take-append-drop (n + 1) (set xs n x))
    ∙ ap (λ ys. ys ++ drop (n + 1) (set xs n x)) (take_more_set xs n x low)
    ∙ append_assoc (take n xs) (x ∷ []) (drop (n + 1) (set xs n x))
    ∙ ap (λ ys. take n xs ++ x ∷ ys) (drop-set-lt (n + 1) xs n x (omega arith))

-- with other lines in one
pub joined_set : {X : Type 0} (n : ℕ) (ks : Row (Row X)) (k : Row X) → n < length ks →
    in_one_row (set ks n k) ≡ in_one_row (take n ks) ++ (k ++ in_one_row (drop (n + 1) ks))
unfolding in_one_row
joined_set n ks k low = ap in_one_row (set_parts ks n k low) ∙ joined_append (take n ks) (k ∷ drop (n + 1) ks)

-- with more lines in the last one
pub joined_last : {X : Type 0} (n : ℕ) (ks : Row (Row X)) (k more : Row X) → n + 1 ≡ length ks →
    k ≡ block_at ks n ++ more → in_one_row (set ks n k) ≡ in_one_row ks ++ more
unfolding in_one_row
joined_last n ks k more last is =
    joined_set n ks k (omega arith)
    ∙ ap (λ x. in_one_row (take n ks) ++ (k ++ in_one_row x)) (drop_all (n + 1) ks (omega arith))
    ∙ ap (λ x. in_one_row (take n ks) ++ x) (append-nil k ∙ is)
    ∙ sym (append_assoc (in_one_row (take n ks)) (block_at ks n) more)
    ∙ ap (λ x. x ++ more) (sym (joined_more n ks (omega arith)) ∙ ap in_one_row (take_all (n + 1) ks (omega arith)))

-- ---- places

-- the lines before a place and those from there on are all lines
pub place_split : {X : Type 0} (ks : Row (Row X)) (p : BlockPlace) →
    lines_before ks p ++ lines_from ks p ≡ in_one_row ks
place_split ks p =
    append_assoc (in_one_row (take p.block ks)) (take p.line (block_at ks p.block)) (lines_from ks p)
    ∙ ap (λ x. in_one_row (take p.block ks) ++ x) (
    sym (append_assoc (take p.line (block_at ks p.block)) (drop p.line (block_at ks p.block))
    (in_one_row (drop (p.block + 1) ks)))
    ∙ ap (λ x. x ++ in_one_row (drop (p.block + 1) ks)) (take-append-drop p.line (block_at ks p.block))
    ∙ sym (joined_at p.block ks)
    )
    ∙ joined_split p.block ks

-- a line stands at a place in a block with lines
pub place_line : {X : Type 0} (ks : Row (Row X)) (p : BlockPlace) → IsPlace ks p → 0 < length (block_at ks p.block) →
    p.line < length (block_at ks p.block)
place_line ks p place some = ⊎_elim (λ (lt : 0 < p.line). place.line lt) (λ (le : p.line ≤ 0). omega (arith, some, le))
    (cases_lt 0 p.line)

-- a place after the first line of a block stands in a block
pub place_block : {X : Type 0} (ks : Row (Row X)) (p : BlockPlace) → IsPlace ks p → 0 < p.line → p.block < length ks
place_block ks p place some =
    ⊎_elim (λ (lt : p.block < length ks). lt)
    (λ (high : length ks ≤ p.block). let none = ap length (get_or_past ks p.block [] high) in
    let within = place.line some in absurd (omega (arith, none, within)))
    (cases_lt p.block (length ks))

-- the line at a place, and those after it
pub from_line : {X : Type 0} (ks : Row (Row X)) (p : BlockPlace) (d : X) → p.line < length (block_at ks p.block)
    → lines_from ks p ≡ get_or (block_at ks p.block) p.line d
    ∷ (drop (p.line + 1) (block_at ks p.block) ++ in_one_row (drop (p.block + 1) ks))
from_line ks p d low =
    ap (λ x. x ++ in_one_row (drop (p.block + 1) ks))
    (drop-cons (block_at ks p.block) p.line d low
    ∙ ap (λ m. get_or (block_at ks p.block) p.line d ∷ drop m (block_at ks p.block)) (sym (add-one p.line)))

-- past the last block there is none
pub from_end : {X : Type 0} (ks : Row (Row X)) (p : BlockPlace) → length ks ≤ p.block → lines_from ks p ≡ []
unfolding in_one_row
from_end ks p high =
    let none = get_or_past ks p.block [] high in
    let more = drop_all (p.block + 1) ks (omega arith) in
    rw (none, more, drop-nil p.line) refl

-- where there is a first one, the place is in a block
pub from_some : {X : Type 0} (ks : Row (Row X)) (p : BlockPlace) (x : X) → Some x ≡ first_of (lines_from ks p) →
    p.block < length ks
from_some ks p x is =
    ⊎_elim (λ (lt : p.block < length ks). lt)
    (λ (high : length ks ≤ p.block). let none = ap first_of (from_end ks p high) in absurd cc)
    (cases_lt p.block (length ks))

-- a row that has a first element begins with it, and a row that has none is empty
pub first_some : {X : Type 0} (xs : Row X) (x : X) → Some x ≡ first_of xs → (ys : Row X) × (xs ≡ x ∷ ys)
first_some [] x is = absurd cc
first_some (y ∷ ys) x is = (ys, cc)

pub first_none : {X : Type 0} (xs : Row X) → None ≡ first_of xs → xs ≡ []
first_none [] is = refl
first_none (y ∷ ys) is = absurd cc

-- all lines, by one of them, and by the last
pub by_line : {X : Type 0} (ks : Row (Row X)) (p : BlockPlace) (last h : X) (hs : Row X) → lines_from ks p ≡ h ∷ hs →
    in_one_row ks ++ last ∷ [] ≡ lines_before ks p ++ h ∷ (hs ++ last ∷ [])
by_line ks p last h hs from = ap (λ x. x ++ last ∷ []) (sym (place_split ks p) ∙ ap (λ x. lines_before ks p ++ x) from)
    ∙ append_assoc (lines_before ks p) (h ∷ hs) (last ∷ [])

pub by_last : {X : Type 0} (ks : Row (Row X)) (p : BlockPlace) (last : X) → lines_from ks p ≡ [] →
    in_one_row ks ++ last ∷ [] ≡ lines_before ks p ++ last ∷ []
by_last ks p last from = ap (λ x. x ++ last ∷ [])
    (sym (place_split ks p) ∙ ap (λ x. lines_before ks p ++ x) from ∙ append-nil (lines_before ks p))

-- from an index in a row on stands the item there, and then the others
drop_some : {X : Type 0} (xs : Row X) (n : ℕ) → n < length xs → (x : X) × (drop n xs ≡ x ∷ drop (n + 1) xs)
drop_some [] n low = absurd (omega arith)
drop_some (x ∷ xs) n low = (
  get_or (x ∷ xs) n x,
  drop-cons (x ∷ xs) n x low ∙ ap (λ m. get_or (x ∷ xs) n x ∷ drop m (x ∷ xs)) (sym (add-one n)),
)

-- from the place of a line on stand that line, and those from the place after it in its block
pub after_within : {X : Type 0} (ks : Row (Row X)) (p : BlockPlace) → p.line < length (block_at ks p.block) → (x : X)
    × (lines_from ks p ≡ x ∷ lines_from ks (record { block = p.block; line = p.line + 1 }))
after_within ks p low = let some = drop_some (block_at ks p.block) p.line low in
    (some.0, ap (λ x. x ++ in_one_row (drop (p.block + 1) ks)) some.1)

-- or those from the start of the next block on, where it is the last one of its own
pub after_out : {X : Type 0} (ks : Row (Row X)) (p : BlockPlace) → p.line < length (block_at ks p.block) →
    length (block_at ks p.block) ≤ p.line + 1
    → (x : X) × (lines_from ks p ≡ x ∷ lines_from ks (record { block = p.block + 1; line = 0 }))
after_out ks p low high =
    let some = after_within ks p low in (
      some.0,
      some.1
          ∙ ap (λ x. some.0 ∷ (x ++ in_one_row (drop (p.block + 1) ks)))
          (drop_all (p.line + 1) (block_at ks p.block) high)
          ∙ ap (λ x. some.0 ∷ x) (joined_at (p.block + 1) ks),
    )

-- ---- blocks that are cut and put together

-- a block in two parts
pub cut_parts : {X : Type 0} (ks : Row (Row X)) (n : ℕ) (k l : Row X) → n < length ks → (new : Row (Row X)) →
    new ≡ take (n + 1) (set ks n k) ++ l ∷ drop (n + 1) (set ks n k)
    → (take (n + 1) new ≡ take n ks ++ k ∷ []) × (drop (n + 1) new ≡ l ∷ drop (n + 1) ks) × (take n new ≡ take n ks)
cut_parts ks n k l low new is =
    let front = take_more_set ks n k low in
    let rest = drop-set-lt (n + 1) ks n k (omega arith) in
    let long : length (take (n + 1) (set ks n k)) ≡ n + 1 =
    length-take-le (n + 1) (set ks n k) (omega (arith, length-set ks n k)) in
    let all : new ≡ take (n + 1) (set ks n k) ++ l ∷ drop (n + 1) ks = is
    ∙ ap (λ x. take (n + 1) (set ks n k) ++ l ∷ x) rest in
    let here : take (n + 1) new ≡ take n ks ++ k ∷ [] = ap (take (n + 1)) all
    ∙ take_at (take (n + 1) (set ks n k)) (l ∷ drop (n + 1) ks) (n + 1) long ∙ front in (
      here,
      ap (drop (n + 1)) all ∙ drop_at (take (n + 1) (set ks n k)) (l ∷ drop (n + 1) ks) (n + 1) long,
      sym (take-take n (n + 1) new (omega arith)) ∙ ap (take n) here
          ∙ take_at (take n ks) (k ∷ []) n (length-take-le n ks (omega arith)),
    )

-- the lines on both sides of the cut
pub cut_joined : {X : Type 0} (ks : Row (Row X)) (p : BlockPlace) (k l : Row X) → p.block < length ks →
    k ≡ take p.line (block_at ks p.block) → l ≡ drop p.line (block_at ks p.block) → (new : Row (Row X))
    → new ≡ take (p.block + 1) (set ks p.block k) ++ l ∷ drop (p.block + 1) (set ks p.block k) →
    (in_one_row (take (p.block + 1) new) ≡ lines_before ks p)
    × (in_one_row (drop (p.block + 1) new) ≡ lines_from ks p)
unfolding in_one_row
cut_joined ks p k l low before after new is =
    let parts = cut_parts ks p.block k l low new is in (
      ap in_one_row parts.0 ∙ joined_push (take p.block ks) k ∙ ap (λ x. in_one_row (take p.block ks) ++ x) before,
      ap in_one_row parts.1 ∙ ap (λ x. x ++ in_one_row (drop (p.block + 1) ks)) after,
    )

-- no line changes
pub cut_all : {X : Type 0} (ks new : Row (Row X)) (p : BlockPlace) (n : ℕ) → in_one_row (take n new) ≡ lines_before ks p
    →
    in_one_row (drop n new) ≡ lines_from ks p → in_one_row new ≡ in_one_row ks
cut_all ks new p n before from = sym (joined_split n new) ∙ ap (λ x. x ++ in_one_row (drop n new)) before
    ∙ ap (λ x. lines_before ks p ++ x) from ∙ place_split ks p

-- the block after a block is taken out
pub taken_out : {X : Type 0} (ks rs : Row (Row X)) (n : ℕ) → n + 1 < length ks →
    rs ≡ take (n + 1) ks ++ drop (suc (n + 1)) ks
    → (take (n + 1) rs ≡ take (n + 1) ks) × (drop (n + 1) rs ≡ drop ((n + 1) + 1) ks) × (n < length rs)
    × (block_at rs n ≡ block_at ks n)
taken_out ks rs n low is =
    let long : length (take (n + 1) ks) ≡ n + 1 = length-take-le (n + 1) ks (omega arith) in
    let front : take (n + 1) rs ≡ take (n + 1) ks = ap (take (n + 1)) is
    ∙ take_at (take (n + 1) ks) (drop (suc (n + 1)) ks) (n + 1) long in (
      front,
      ap (drop (n + 1)) is ∙ drop_at (take (n + 1) ks) (drop (suc (n + 1)) ks) (n + 1) long
          ∙ ap (λ m. drop m ks) (sym (add-one (n + 1))),
      omega (arith, ap length is, length-append (take (n + 1) ks) (drop (suc (n + 1)) ks), long),
      sym (get_or-take (n + 1) rs n [] (omega arith)) ∙ ap (λ x. block_at x n) front
          ∙ get_or-take (n + 1) ks n [] (omega arith),
    )

-- and its lines are put after those of the other, or it is put back: no line changes
pub merged : {X : Type 0} (ks rs : Row (Row X)) (n : ℕ) (k : Row X) → n + 1 < length ks →
    rs ≡ take (n + 1) ks ++ drop (suc (n + 1)) ks → k ≡ block_at ks n ++ block_at ks (n + 1) →
    in_one_row (set rs n k) ≡ in_one_row ks
merged ks rs n k low is both =
    let out = taken_out ks rs n low is in
    let front : take n rs ≡ take n ks = sym (take-take n (n + 1) rs (omega arith)) ∙ ap (take n) out.0
    ∙ take-take n (n + 1) ks (omega arith) in
    joined_set n rs k out.2
    ∙ ap (λ x. in_one_row x ++ (k ++ in_one_row (drop (n + 1) rs))) front
    ∙ ap (λ x. in_one_row (take n ks) ++ (k ++ in_one_row x)) out.1
    ∙ ap (λ x. in_one_row (take n ks) ++ (x ++ in_one_row (drop ((n + 1) + 1) ks))) both
    ∙ ap (λ x. in_one_row (take n ks) ++ x)
    (append_assoc (block_at ks n) (block_at ks (n + 1)) (in_one_row (drop ((n + 1) + 1) ks))
    ∙ ap (λ x. block_at ks n ++ x) (sym (joined_at (n + 1) ks)) ∙ sym (joined_at n ks))
    ∙ joined_split n ks

pub put_back : {X : Type 0} (ks rs : Row (Row X)) (n : ℕ) (k l : Row X) → n + 1 < length ks →
    rs ≡ take (n + 1) ks ++ drop (suc (n + 1)) ks → k ≡ block_at rs n → l ≡ block_at ks (n + 1)
    → in_one_row (take (n + 1) (set rs n k) ++ l ∷ drop (n + 1) (set rs n k)) ≡ in_one_row ks
unfolding in_one_row
put_back ks rs n k l low is same taken =
    let out = taken_out ks rs n low is in
    let old : set rs n k ≡ rs = ap (set rs n) same ∙ set-get_or rs n [] in
    ap (λ x. in_one_row (take (n + 1) x ++ l ∷ drop (n + 1) x)) old
    ∙ joined_append (take (n + 1) rs) (l ∷ drop (n + 1) rs)
    ∙ ap (λ x. in_one_row x ++ (l ++ in_one_row (drop (n + 1) rs))) out.0
    ∙ ap (λ x. in_one_row (take (n + 1) ks) ++ (l ++ in_one_row x)) out.1
    ∙ ap (λ x. in_one_row (take (n + 1) ks) ++ (x ++ in_one_row (drop ((n + 1) + 1) ks))) taken
    ∙ ap (λ x. in_one_row (take (n + 1) ks) ++ x) (sym (joined_at (n + 1) ks))
    ∙ joined_split (n + 1) ks

-- other blocks between
pub joined_between : {X : Type 0} (ks new : Row (Row X)) (m n : ℕ) →
    in_one_row (take m ks ++ (new ++ drop n ks)) ≡ in_one_row (take m ks) ++ (in_one_row new ++ in_one_row (drop n ks))
joined_between ks new m n = joined_append (take m ks) (new ++ drop n ks)
    ∙ ap (λ x. in_one_row (take m ks) ++ x) (joined_append new (drop n ks))

-- a block that keeps the lines before a place
pub kept_joined : {X : Type 0} (ks : Row (Row X)) (p : BlockPlace) (k : Row X) → p.block < length ks →
    k ≡ take p.line (block_at ks p.block) → in_one_row (take (p.block + 1) (set ks p.block k)) ≡ lines_before ks p
kept_joined ks p k low is = ap in_one_row (take_more_set ks p.block k low) ∙ joined_push (take p.block ks) k
    ∙ ap (λ x. in_one_row (take p.block ks) ++ x) is

-- other lines between, in one block
between_parts : {X : Type 0} (front head new tail rest : Row X) →
    front ++ ((head ++ (new ++ tail)) ++ rest) ≡ (front ++ head) ++ (new ++ (tail ++ rest))
between_parts front head new tail rest =
    ap (λ x. front ++ x) (append_assoc head (new ++ tail) rest ∙ ap (λ x. head ++ x) (append_assoc new tail rest))
    ∙ sym (append_assoc front head (new ++ (tail ++ rest)))

-- with other lines in a part of a block, they stand there among all lines
pub between_joined : {X : Type 0} (ks : Row (Row X)) (p : BlockPlace) (to : ℕ) (new k : Row X) → p.block < length ks →
    k ≡ take p.line (block_at ks p.block) ++ (new ++ drop to (block_at ks p.block))
    → in_one_row (set ks p.block k) ≡ lines_before ks p ++ (new ++ lines_from ks (in_block p to))
between_joined ks p to new k low is =
    joined_set p.block ks k low
    ∙ ap (λ x. in_one_row (take p.block ks) ++ (x ++ in_one_row (drop (p.block + 1) ks))) is
    ∙ between_parts (in_one_row (take p.block ks)) (take p.line (block_at ks p.block)) new
    (drop to (block_at ks p.block)) (in_one_row (drop (p.block + 1) ks))

-- ---- bytes of lines in blocks

-- those of the block then are among all
pub extent_between_blocks : {K : Type 0} (ks : Row (Row (HeldLine K))) (p : BlockPlace) (to : ℕ)
    (new : Row (HeldLine K))
    → extent (take p.line (block_at ks p.block) ++ (new ++ drop to (block_at ks p.block))) ≤ extent
    (lines_before ks p ++ (new ++ lines_from ks (in_block p to)))
extent_between_blocks ks p to new =
    let front = in_one_row (take p.block ks) in
    let k = take p.line (block_at ks p.block) ++ (new ++ drop to (block_at ks p.block)) in
    let rest = in_one_row (drop (p.block + 1) ks) in
    let all = ap extent (between_parts front (take p.line (block_at ks p.block)) new
    (drop to (block_at ks p.block)) rest) in
    omega (arith, all, extent_append front (k ++ rest), extent_append k rest)

-- the bytes up to the end of a block
pub extent_more_blocks : {K : Type 0} (n : ℕ) (ks : Row (Row (HeldLine K))) → n < length ks →
    extent (in_one_row (take (n + 1) ks)) ≡ extent (in_one_row (take n ks)) + extent (block_at ks n)
extent_more_blocks n ks low = ap extent (joined_more n ks low) ∙ extent_append (in_one_row (take n ks)) (block_at ks n)

-- the first blocks, a block, and two that are neighbours have no more bytes than all blocks have
pub extent_blocks : {K : Type 0} (n : ℕ) (ks : Row (Row (HeldLine K))) →
    extent (in_one_row (take n ks)) ≤ extent (in_one_row ks)
extent_blocks n ks = let all = ap extent (joined_split n ks) in
    omega (arith, all, extent_append (in_one_row (take n ks)) (in_one_row (drop n ks)))

pub extent_block : {K : Type 0} (n : ℕ) (ks : Row (Row (HeldLine K))) → n < length ks →
    extent (block_at ks n) ≤ extent (in_one_row ks)
extent_block n ks low = omega (arith, extent_more_blocks n ks low, extent_blocks (n + 1) ks)

pub extent_two_blocks : {K : Type 0} (n : ℕ) (ks : Row (Row (HeldLine K))) → n + 1 < length ks →
    extent (block_at ks n) + extent (block_at ks (n + 1)) ≤ extent (in_one_row ks)
extent_two_blocks n ks low = omega
    (arith, extent_more_blocks n ks (omega arith), extent_more_blocks (n + 1) ks low, extent_blocks ((n + 1) + 1) ks)

-- no blocks have no byte
pub extent_no_blocks : (K : Type 0) → extent {K = K} (in_one_row []) ≡ 0
unfolding in_one_row
extent_no_blocks K = extent_none K

-- A place was found for an offset: the first line that ends after it.
pub record Found {K : Type 0} (ks : Row (Row (HeldLine K))) (at : ℕ) (p : BlockPlace) (begin : ℕ) : Type 0 where
  pub place : IsPlace ks p
  pub begin_is : begin ≡ extent (lines_before ks p)
  pub low : begin ≤ at
  pub past : (h : HeldLine K) (hs : Row (HeldLine K)) → lines_from ks p ≡ h ∷ hs → at < begin + h.len

-- what was found in the block with a line that ends after it
found_at : {K : Type 0} (ks : Row (Row (HeldLine K))) (at : ℕ) (p : BlockPlace) (before begin : ℕ) → p.block < length ks
    →
    before ≡ extent (in_one_row (take p.block ks)) → p.line < length (block_at ks p.block)
    → begin ≡ before + extent (take p.line (block_at ks p.block)) → begin ≤ at →
    at < before + extent (take (p.line + 1) (block_at ks p.block)) → Found ks at p begin
found_at ks at p before begin low is within begins high past = record {
  place = record { block = omega arith; line = λ _. within };
  begin_is = omega (
    arith,
    is,
    begins,
    extent_append (in_one_row (take p.block ks)) (take p.line (block_at ks p.block)),
  );
  low = high;
  past = λ h hs from.
      let here = from_line ks p h within in
      let same : h ≡ get_or (block_at ks p.block) p.line h = cc in
      let more = extent_read p.line (block_at ks p.block) h within same in
      omega (arith, past, begins, more);
}

-- so the place that a search of that block found is the one for the offset
pub found_in : {K : Type 0} (ks : Row (Row (HeldLine K))) (at : ℕ) (p : BlockPlace) (k : Row (HeldLine K))
    (before begin : ℕ)
    → p.block < length ks → k ≡ block_at ks p.block → before ≡ extent (in_one_row (take p.block ks)) →
    at < before + extent k
    → p.line ≤ length k → begin ≡ before + extent (take p.line k) → begin ≤ at →
    (p.line < length k → at < before + extent (take (p.line + 1) k)) → Found ks at p begin
found_in {K = K} ks at p k before begin low same is =
    subst (λ (k : Row (HeldLine K)). at < before + extent k → p.line ≤ length k →
    begin ≡ before + extent (take p.line k) → begin ≤ at →
    (p.line < length k → at < before + extent (take (p.line + 1) k)) → Found ks at p begin)
    (sym same)
    (λ past within begins high more.
    ⊎_elim (λ (here : p.line < length (block_at ks p.block)). found_at ks at p before begin low is here begins high
    (more here))
    (λ (none : length (block_at ks p.block) ≤ p.line). let whole = extent_whole p.line (block_at ks p.block) none in
    absurd (omega (arith, whole, begins, high, past)))
    (cases_lt p.line (length (block_at ks p.block))))

-- where all lines end at the offset or before it, the place after them is
pub found_end : {K : Type 0} (ks : Row (Row (HeldLine K))) (at : ℕ) (p : BlockPlace) (begin : ℕ) → p.block ≡ length ks →
    IsPlace ks p → lines_from ks p ≡ [] → begin ≡ extent (in_one_row ks) → begin ≤ at → Found ks at p begin
found_end ks at p begin is place none begins high = record {
  place = place;
  begin_is = begins ∙ ap extent
      (sym (place_split ks p) ∙ ap (λ x. lines_before ks p ++ x) none ∙ append-nil (lines_before ks p));
  low = high;
  past = λ h hs from. absurd cc;
}

module _ {K : Type 0} (Is : List ℕ → HeldLine K → Type 0) (laws : Reads Is) where
  -- a line begins where blocks end
  pub block_begins : (B : List ℕ) (js : Row (Row (HeldLine K))) (k : Row (HeldLine K)) (ks : Row (Row (HeldLine K))) →
      (k ≡ [] → ⊥) → IsRow Is B (in_one_row (js ++ k ∷ ks))
      → IsBoundary Is B (extent (in_one_row js)) × IsRow Is (drop (extent (in_one_row js)) B) (in_one_row (k ∷ ks))
  unfolding in_one_row
  block_begins B js [] ks some row = absurd (some refl)
  block_begins B js (l ∷ ls) ks some row =
      let here = row_at Is laws B 0 (in_one_row js) l (ls ++ in_one_row ks) at_start
      (subst (IsRow Is B) (joined_append js ((l ∷ ls) ∷ ks)) row) in
      let same : 0 + extent (in_one_row js) ≡ extent (in_one_row js) = omega arith in
      subst (λ x. IsBoundary Is B x × IsRow Is (drop x B) (l ∷ (ls ++ in_one_row ks))) same here
