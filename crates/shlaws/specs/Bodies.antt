-- Where the body of a here-document ends (XCU 2.7.4), said of all of a text at once.
use Rattle.std.specs.Prelude.{◌≡◌, ℕ, zero, suc, ◌+◌, ◌-◌, ◌<◌, ◌⊎◌, ◌&&◌, Bool, false, not, nat_le, List, length, Some, slice_get, if◌then◌else◌}
use Rattle.shgrammar.specs.Characters.{backslash, newline_char}
use Rattle.shgrammar.specs.HereDocuments.{rest_of_line, stripped}
use Rattle.shgrammar.specs.Standing.{raw_stands}
use Rattle.shgrammar.specs.States.{Waiting}

-- A line begins at q, in a body that begins at p: it is where the body begins, or a newline of the body
-- stands right before it.
abbrev pub BeginsLine : List ℕ → ℕ → ℕ → Type 0
BeginsLine T p q = (q ≡ p) ⊎ ((p < q) × (slice_get T (q - 1) ≡ Some newline_char))

-- how many backslashes of the body stand in a row right before q
unfoldable pub backslashes_before : List ℕ → ℕ → ℕ → ℕ
backslashes_before T p zero = 0
backslashes_before T p (suc q) = if nat_le p q && raw_stands T q backslash then 1 + backslashes_before T p q else 0

unfoldable pub is_odd : ℕ → Bool
is_odd zero = false
is_odd (suc n) = not (is_odd n)

-- The line that begins at q is taken in by the one before: before the newline between them stands an odd
-- number of backslashes, the last of which takes it. Where nothing is expanded, none does.
abbrev pub is_taken_in : List ℕ → Waiting → ℕ → ℕ → Bool
is_taken_in T w p q = not w.literal && is_odd (backslashes_before T p (q - 1))

-- at q begins a line of the body that is the delimiter, after leading tabs if `<<-` takes these off
pub record IsDelimiterLine (T : List ℕ) (w : Waiting) (p q : ℕ) : Type 0 where
  pub start : BeginsLine T p q
  -- no line begins where the text ends
  pub inside : q < length T
  pub apart : is_taken_in T w p q ≡ false
  pub delimiter : stripped w.strip (rest_of_line T q) ≡ w.delimiter

-- and none before it
pub record IsFirstDelimiterLine (T : List ℕ) (w : Waiting) (p q : ℕ) : Type 0 where
  pub line : IsDelimiterLine T w p q
  pub first : (m : ℕ) → m < q → ¬ IsDelimiterLine T w p m
