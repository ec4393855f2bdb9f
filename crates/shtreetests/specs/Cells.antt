-- What a cell of a table stands for.
use Rattle.std.specs.Prelude.{ℕ, zero, suc, List, [], ◌++◌, max}
use Rattle.shtreetests.specs.declared.cell.Cell.{Cell}

-- a text so many times
unfoldable pub times : ℕ → List ℕ → List ℕ
times zero text = []
times (suc n) text = times n text ++ text

-- the text as often as the number after it says: once where there is none
abbrev pub cell_text : Cell → List ℕ
cell_text cell = times (max cell.number 1) cell.bytes.items
