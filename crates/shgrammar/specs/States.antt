-- What is given to a reading, and the states that it goes through.
use Rattle.std.specs.Prelude.{ℕ, Bool, List, [], List as Row}
use Rattle.shast.specs.declared.tree.Span.{Span}
use Rattle.shgrammar.specs.declared.edition.Edition.{Edition}

-- what is given to a reading: a text, the offset of its first byte, and the edition by which it is read
pub record Given : Type 0 where
  pub text : List ℕ
  pub offset : ℕ
  pub edition : Edition

abbrev pub given : Edition → List ℕ → ℕ → Given
given edition T o = record { text = T; offset = o; edition = edition }

-- a here-document that waits for the next newline token: where its operator stands,
-- its delimiter, and how its body is read
pub record Waiting : Type 0 where
  pub operator : ℕ
  pub delimiter : List ℕ
  pub literal : Bool
  pub strip : Bool

-- where the reading stands, the here-documents that wait there, and the bodies read so far
pub record State : Type 0 where
  pub at : ℕ
  pub waiting : Row Waiting
  pub bodies : Row Span

-- a place where nothing waits; no here-document is read yet
abbrev pub standing : ℕ → State
standing p = record { at = p; waiting = []; bodies = [] }
