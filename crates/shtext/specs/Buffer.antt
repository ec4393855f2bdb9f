-- The bytes of a buffer, and what a change makes of them.
use Rattle.std.specs.Prelude.{◌≡◌, ℕ, ◌+◌, ◌-◌, ◌<◌, ◌≤◌, ◌++◌, List, [], ◌∷◌, List as Row, length, take, drop, vec_capacity}
use Rattle.shtext.specs.declared.buffer.Buffer.{Buffer}
use Rattle.shtext.specs.declared.change.Change.{Change}
use Rattle.shtext.specs.declared.edited.Edited.{Edited}
use Rattle.shtext.specs.declared.filling.Filling.{Filling}
use Rattle.shtext.specs.Chunks.{joined, needed, seam_most}
use Rattle.shtext.specs.Edit.{ASplice, AreAllowed, edited, first_begin, last_end, new_end, one_splice, spliced}

-- the bytes of a buffer
abbrev pub buffer_bytes : Buffer → List ℕ
buffer_bytes buffer = joined buffer.chunks.items

-- what a change makes of a text
abbrev pub changed : List ℕ → Change → List ℕ
changed bytes change = spliced bytes change.start change.end change.new.items

-- a change makes splices: its places are those of the first and the last of them
pub record Makes (bytes : List ℕ) (ss : Row ASplice) (change : Change) : Type 0 where
  pub allowed : AreAllowed bytes ss
  pub text : changed bytes change ≡ edited bytes ss
  pub start : change.start ≡ first_begin ss
  pub «end» : change.end ≡ last_end ss
  pub new_end : change.start + length change.new.items ≡ new_end ss

-- a buffer has room for so many chunks more, and has the chunks
pub record HasChunks (buffer : Buffer) (more : ℕ) : Type 0 where
  pub chunks : length buffer.chunks.items + more ≤ vec_capacity buffer.chunks
  pub ends : length buffer.chunks.items + more ≤ vec_capacity buffer.ends
  pub newlines : length buffer.chunks.items + more ≤ vec_capacity buffer.newlines
  pub spare : more ≤ length buffer.spare.items

-- and for what stands around an edit
pub record HasRoom (buffer : Buffer) (more : ℕ) : Type 0 where
  pub row : HasChunks buffer more
  -- a text without chunks has nothing around an edit
  pub seam : 0 < length buffer.chunks.items → seam_most ≤ vec_capacity buffer.seam

-- a change fits a buffer
pub record Fits (buffer : Buffer) (change : Change) : Type 0 where
  -- its places are there, and it makes no text that is too large
  pub allowed : AreAllowed (buffer_bytes buffer) (one_splice change.start change.end change.new.items)
  -- the bytes between its places are those that it keeps
  pub old : take (change.end - change.start) (drop change.start (buffer_bytes buffer)) ≡ change.old.items
  -- there is room for what it makes
  pub room : HasRoom buffer (needed (length change.new.items - (change.end - change.start)))

-- the bytes of an edited text
abbrev pub edited_bytes : Edited → List ℕ
edited_bytes text = spliced (buffer_bytes text.buffer.now) text.start text.end text.new.now

-- the bytes that chunks are filled with
abbrev pub filling_bytes : Filling → List ℕ
filling_bytes filling = filling.head.now ++ (filling.new.now ++ filling.tail.now)

-- what splices make of the bytes from there on
abbrev pub with_splices : ℕ → List ℕ → Row ASplice → List ℕ
with_splices from bytes [] = bytes
with_splices from bytes (s ∷ ss) =
    take (s.a - from) bytes ++ (s.bytes ++ with_splices s.b (drop (s.b - from) bytes) ss)
