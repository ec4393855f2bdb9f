-- Bytes in chunks, and sums over them.
use Rattle.std.specs.Prelude.{◌≡◌, ◌⊎◌, zero, suc, ℕ, ◌+◌, ◌-◌, ◌/◌, ◌<◌, ◌≤◌, List, [], ◌∷◌, ◌++◌, List as Row, count_by, drop, length, min, slice_index, slice_index_or, slice_range, take}
use Rattle.shsource.specs.Text.{is_newline}

-- the most bytes of a chunk
abbrev pub most : ℕ
most = 4096

-- the fewest bytes of a chunk that others follow
abbrev pub fewest : ℕ
fewest = 1024

-- the most bytes around an edit in the chunks that give way to it
abbrev pub seam_most : ℕ
seam_most = 8192

-- how many chunks so many bytes need
abbrev pub needed : ℕ → ℕ
needed len = (len + 4095) / 4096

-- the bytes of a chunk
abbrev pub chunk_at : Row (List ℕ) → ℕ → List ℕ
chunk_at ks n = slice_index_or ks n []

-- each chunk has so many bytes at least, and at most as many as a chunk may have
abbrev pub EachHas : ℕ → Row (List ℕ) → Type 0
EachHas least ks = (n : ℕ) → n < length ks → (least ≤ length (chunk_at ks n)) × (length (chunk_at ks n) ≤ most)

-- no chunk but the last is small
abbrev pub AreFull : Row (List ℕ) → Type 0
AreFull ks = (n : ℕ) → n + 1 < length ks → fewest ≤ length (chunk_at ks n)

-- all bytes, in order
unfoldable pub joined : {X : Type 0} → Row (List X) → List X
joined [] = []
joined (k ∷ ks) = k ++ joined ks

-- where a chunk begins
abbrev pub begin_of : Row (List ℕ) → ℕ → ℕ
begin_of ks n = length (joined (take n ks))

-- the sum before a place, where each sum is that up to the end of its place
abbrev pub before : List ℕ → ℕ → ℕ
before sums zero = 0
before sums (suc n) = slice_index sums n

-- the sums up to a place are those of what is measured
abbrev pub HasSums : (List ℕ → ℕ) → Row (List ℕ) → ℕ → List ℕ → Type 0
HasSums measure ks n sums = (m : ℕ) → m ≤ n → before sums m ≡ measure (joined (take m ks))

-- the sums of chunks, with so much before them
abbrev pub SumsOn : (List ℕ → ℕ) → Row (List ℕ) → ℕ → List ℕ → Type 0
SumsOn measure ks base sums = (m : ℕ) → m < length ks → slice_index sums m ≡ base + measure (joined (take (m + 1) ks))

-- what is summed
abbrev pub ends_of : List ℕ → ℕ
ends_of bytes = length bytes

abbrev pub newlines_of : List ℕ → ℕ
newlines_of bytes = count_by is_newline bytes

-- chunks hold the bytes from one offset up to another
pub record HoldsPart (ks : Row (List ℕ)) (from to a b : ℕ) : Type 0 where
  pub order : from ≤ to
  pub within : to ≤ length ks
  pub low : begin_of ks from ≤ a
  pub high : b ≤ begin_of ks to

-- the bytes that they hold around these, and how many there are
abbrev pub around : Row (List ℕ) → ℕ → ℕ → ℕ → ℕ → List ℕ
around ks from to a b = slice_range (joined ks) (begin_of ks from) a ++ slice_range (joined ks) b (begin_of ks to)

abbrev pub around_count : Row (List ℕ) → ℕ → ℕ → ℕ → ℕ → ℕ
around_count ks from to a b = a - begin_of ks from + (begin_of ks to - b)

-- so many bytes in the place of chunks leave no small chunk but the last
pub record LeavesFull (ks : Row (List ℕ)) (from to len : ℕ) : Type 0 where
  pub first : from < length ks ⊎ (length ks ≡ 0)
  pub full : to < length ks → fewest ≤ len

-- bytes in the place of those of chunks
abbrev pub put_between : Row (List ℕ) → ℕ → ℕ → List ℕ → List ℕ
put_between ks from to bytes = joined (take from ks) ++ (bytes ++ joined (drop to ks))

-- chunks with the bytes of a text stand in the place of others
pub record Refilled (old new : Row (List ℕ)) (from to : ℕ) (bytes : List ℕ) : Type 0 where
  pub filled : Row (List ℕ)
  pub row : new ≡ take from old ++ (filled ++ drop to old)
  -- there are as many as the bytes need, and none is small unless the bytes are few
  pub count : length filled ≡ needed (length bytes)
  pub all : joined filled ≡ bytes
  pub each : EachHas (min fewest (length bytes)) filled
