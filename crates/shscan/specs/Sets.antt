-- A set of bytes as two tables of sixteen: a byte has the kinds that both tables name, the one by its low
-- four bits and the other by its high four. It is in the set where it has one.
use Rattle.std.specs.Prelude.{ℕ, ◌/◌, ◌%◌, ◌==◌, Bool, List, bit_and, get_or, take, drop}

abbrev pub kinds : List ℕ → List ℕ → ℕ → ℕ
kinds low high b = bit_and (get_or low (b % 16) 0) (get_or high (b / 16) 0)

abbrev pub is_outside : List ℕ → List ℕ → ℕ → Bool
is_outside low high b = kinds low high b == 0

-- the sixteen bytes from a place on
abbrev pub row_of : ℕ → List ℕ → List ℕ
row_of at run = take 16 (drop at run)
