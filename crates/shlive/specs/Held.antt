-- What a session holds, as its callers see it.
use Rattle.std.specs.Prelude.{ℕ, List}
use Rattle.shgrammar.specs.declared.edition.Edition.{Edition}
use Rattle.shprint.specs.declared.layout.Layout.{Layout}

-- how a session reads its script, and how it prints it: as long as it is open
pub record SessionOptions : Type 0 where
  pub edition : Edition
  pub layout : Layout

-- The bytes of its script, how it reads and prints them, and how many bytes it read so far. The lines that it
-- keeps, each with its tree or its fault, are no part of this: what a session answers is said of the bytes,
-- and how it reads and prints, alone.
pub record Held : Type 0 where
  pub bytes : List ℕ
  pub how : SessionOptions
  pub meter : ℕ
