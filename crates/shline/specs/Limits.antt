-- What a reading may tell and want.
use Rattle.std.specs.Prelude.{◌≡◌, ℕ, ◌+◌, ◌≤◌, ◌==◌, ◌||◌, Bool, true, List, length}
use Rattle.std.specs.List.{list_any}
use Rattle.shgrammar.specs.Characters.{less_than_sign}
use Rattle.shline.specs.declared.documents.Waiting as the_waiting

-- no offset above the furthest, and memory only where it may
pub record Limits : Type 0 where
  pub furthest : ℕ
  pub memory : Bool

-- A reading whose TREE is 1 may want memory for a tree. One of another TREE may want some where a `<` stands:
-- the operators of here-documents begin with it.
abbrev pub wants_memory : ℕ → List ℕ → Bool
wants_memory k text = k == 1 || list_any (λ b. b == less_than_sign) text

abbrev pub limits : ℕ → ℕ → List ℕ → Limits
limits k origin text = record { furthest = origin + length text; memory = wants_memory k text }

-- a here-document that waits stands within the text, and memory may be wanted
abbrev pub Waits : Limits → the_waiting.Waiting → Type 0
Waits bound w = (w.operator_at ≤ bound.furthest) × (bound.memory ≡ true)
