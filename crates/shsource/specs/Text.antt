-- Where a byte stands in a list of bytes, and the line and the column of an offset.
use Rattle.std.specs.Prelude.{◌≡◌, ◌≢◌, ℕ, ◌+◌, ◌<◌, ◌≤◌, ◌==◌, Bool, List, Option, None, Some, length, take, slice_index, count_by, fold, if◌then◌else◌}
use Rattle.shsource.specs.declared.source.Flat.{Flat}

-- the bytes of a text that lies in one slice
abbrev pub flat_bytes : Flat → List ℕ
flat_bytes flat = flat.bytes.now

-- front begins at the offset `at`, and is empty only at or past the end
pub record IsRun (bytes : List ℕ) (at : ℕ) (front : List ℕ) : Type 0 where
  -- it goes no further than the end
  pub short : at ≤ length bytes → at + length front ≤ length bytes
  -- its bytes are those from `at` on
  pub same : (k : ℕ) → k < length front → slice_index bytes (at + k) ≡ slice_index front k
  -- before the end it has a byte
  pub some : at < length bytes → 0 < length front
  -- at or past the end it has none
  pub none : length bytes ≤ at → length front ≡ 0

-- a newline (10), which ends a line
abbrev pub is_newline : ℕ → Bool
is_newline b = b == 10

-- the line of an offset: one more than the newlines before it
abbrev pub line_of : List ℕ → ℕ → ℕ
line_of bytes at = 1 + count_by is_newline (take at bytes)

-- how many bytes there are since the last newline, or since the start
unfoldable pub since_newline : List ℕ → ℕ
since_newline bytes = fold (λ n b. if is_newline b then 0 else n + 1) 0 bytes

-- the column of an offset: one more than the bytes since the last newline before it
abbrev pub column_of : List ℕ → ℕ → ℕ
column_of bytes at = 1 + since_newline (take at bytes)

-- where a line begins: at the offset in the line whose column is 1; nowhere if no offset is in the line
abbrev pub IsLineStart : List ℕ → ℕ → Option ℕ → Type 0
IsLineStart bytes n None = (at : ℕ) → at ≤ length bytes → line_of bytes at ≢ n
IsLineStart bytes n (Some at) = (at ≤ length bytes) × (line_of bytes at ≡ n) × (column_of bytes at ≡ 1)
