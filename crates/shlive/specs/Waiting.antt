-- The bytes that were read and wait to be taken.
use Rattle.std.specs.Prelude.{ℕ, List}

pub record Waiting : Type 0 where
  pub bytes : List ℕ
  -- how many were read so far, taken ones too
  pub count : ℕ
