-- Items that move in a row.
use Rattle.std.specs.Prelude.{ℕ, ◌-◌, List, ◌++◌, drop, take}

-- the last of so many items, moved to a place
abbrev pub last_moved : {X : Type 0} → List X → ℕ → ℕ → ℕ → List X
last_moved row len at count = take at row
    ++ (drop (len - at - count) (drop at row) ++ take (len - at - count) (drop at row))
