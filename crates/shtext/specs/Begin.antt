-- Where the line begins that goes on after a stretch of a text.
use Rattle.std.specs.Prelude.{◌≡◌, ℕ, ◌+◌, ◌<◌, ◌≤◌, List, length, slice_index, take}
use Rattle.shsource.specs.Text.{since_newline}

-- Where the line at the offset `from` begins at `start`, the one after the stretch
-- that stands there begins at `begin`.
abbrev pub BeginsLine : ℕ → ℕ → List ℕ → ℕ → Type 0
BeginsLine from start run begin = (bytes : List ℕ) → from + length run ≤ length bytes
    → ((k : ℕ) → k < length run → slice_index bytes (from + k) ≡ slice_index run k)
    → start + since_newline (take from bytes) ≡ from →
    begin + since_newline (take (from + length run) bytes) ≡ from + length run
