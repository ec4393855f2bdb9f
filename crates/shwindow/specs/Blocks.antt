-- Lines in blocks, and places among them.
use Rattle.std.specs.Prelude.{ℕ, ◌+◌, ◌<◌, ◌≤◌, [], ◌∷◌, ◌++◌, List as Row, Option, None, Some, drop, length, slice_index_or, take}
use Rattle.shwindow.specs.declared.place.BlockPlace.{BlockPlace}

-- all lines, in order
unfoldable pub in_one_row : {X : Type 0} → Row (Row X) → Row X
in_one_row [] = []
in_one_row (k ∷ ks) = k ++ in_one_row ks

-- the lines of a block
abbrev pub block_at : {X : Type 0} → Row (Row X) → ℕ → Row X
block_at ks n = slice_index_or ks n []

-- the lines before a place, and those from there on
abbrev pub lines_before : {X : Type 0} → Row (Row X) → BlockPlace → Row X
lines_before ks p = in_one_row (take p.block ks) ++ take p.line (block_at ks p.block)

abbrev pub lines_from : {X : Type 0} → Row (Row X) → BlockPlace → Row X
lines_from ks p = drop p.line (block_at ks p.block) ++ in_one_row (drop (p.block + 1) ks)

-- a line stands there, or it is after all of them
pub record IsPlace {X : Type 0} (ks : Row (Row X)) (p : BlockPlace) : Type 0 where
  pub block : p.block ≤ length ks
  pub line : 0 < p.line → p.line < length (block_at ks p.block)

abbrev pub first_of : {X : Type 0} → Row X → Option X
first_of [] = None
first_of (x ∷ xs) = Some x
