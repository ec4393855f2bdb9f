-- Two places among lines in blocks, and the lines between them.
use Rattle.std.specs.Prelude.{◌≡◌, ℕ, ◌<◌, ◌≤◌, List as Row, length}
use Rattle.shwindow.specs.Blocks.{block_at}
use Rattle.shwindow.specs.declared.place.BlockPlace.{BlockPlace}

-- one place is another or before it
pub record IsNotAfter (p q : BlockPlace) : Type 0 where
  pub block : p.block ≤ q.block
  pub line : p.block ≡ q.block → p.line ≤ q.line

-- a line of the block of a place
abbrev pub in_block : BlockPlace → ℕ → BlockPlace
in_block p n = record { block = p.block; line = n }

-- the lines of a block from a place up to a line give way, which may be all that stand after the place
pub record GivesWay {X : Type 0} (ks : Row (Row X)) (p : BlockPlace) (to : ℕ) : Type 0 where
  pub block : p.block < length ks
  pub order : p.line ≤ to
  pub within : to ≤ length (block_at ks p.block)
