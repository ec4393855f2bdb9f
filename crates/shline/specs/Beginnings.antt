-- With which two bytes a word may begin.
use Rattle.std.specs.Prelude.{ℕ, Bool, true, false, ◌==◌, ◌&&◌, ◌||◌, List, [], ◌∷◌, List as Row, if◌then◌else◌}
use Rattle.shgrammar.specs.Characters.{backslash}
use Rattle.shgrammar.specs.Tokens.{Spelling}

-- a word may begin with the bytes a and b as they stand: after a backslash it may go on past a continuation
unfoldable pub may_spell : List ℕ → ℕ → ℕ → Bool
may_spell [] a b = true
may_spell (c ∷ []) a b = a == c
may_spell (c ∷ d ∷ ds) a b = (a == c) && (if b == backslash then true else b == d)

-- one of these words may
unfoldable pub may_begin : Row Spelling → ℕ → ℕ → Bool
may_begin [] a b = false
may_begin (w ∷ ws) a b = may_spell w.0 a b || may_begin ws a b
