-- What a search looks for, and what is passed.
use Rattle.std.specs.Prelude.{◌≡◌, ◌<◌, ◌≤◌, ℕ, Bool, true, List, ◌==◌, ◌||◌, length, slice_index}
use Rattle.shgrammar.specs.Plain.{is_plain}
use Rattle.shgrammar.specs.declared.mode.Mode.{Mode}
use Rattle.shline.specs.declared.search.Sought.{Sought}
use Rattle.shline.specs.declared.search.Sought.TheVariants.{Byte, Either}

abbrev pub is_sought : Sought → ℕ → Bool
is_sought (Byte c) b = b == c
is_sought (Either c d) b = b == c || b == d

-- so many bytes at the front of a row are ordinary in a mode
abbrev pub ArePlain : Mode → List ℕ → ℕ → Type 0
ArePlain mode run n = (n ≤ length run) × ((k : ℕ) → k < n → is_plain mode (slice_index run k) ≡ true)
