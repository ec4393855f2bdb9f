-- What a clause reads of an input and an output, and what a text that is written leaves.
use Rattle.std.specs.Prelude.{ℕ, ◌&&◌, ◌==◌, Bool, false, List, Option, Result, Ok, Err, take, not, MatchBool}
use Rattle.std.specs.Io.KnownBytes.{Appends}
use Rattle.shtext.specs.declared.device.Input.{Input}
use Rattle.shtext.specs.declared.device.Output.{Output}

-- the bytes that an input has left, where its reader tells them
abbrev pub left_of : {R : Type 0} → (R → Option (List ℕ)) → Input R → Option (List ℕ)
left_of remaining input = remaining input.reader

-- the bytes that an output holds, where its writer tells them
abbrev pub held_of : {W : Type 0} → (W → Option (List ℕ)) → Output W → Option (List ℕ)
held_of contents output = contents output.writer

-- a read failed
abbrev pub input_failed : {R : Type 0} → Input R → Bool
input_failed input = input.failed

-- a read met the end
abbrev pub input_ended : {R : Type 0} → Input R → Bool
input_ended input = input.ended

-- a write or a flush failed
abbrev pub output_failed : {W : Type 0} → Output W → Bool
output_failed output = output.failed

-- the reader of an input
abbrev pub input_reader : {R : Type 0} → Input R → R
input_reader input = input.reader

-- the writer of an output
abbrev pub output_writer : {W : Type 0} → Output W → W
output_writer output = output.writer

-- a read met the end: it gave no byte, though there was room and nothing failed
abbrev pub meets_end : {F : Type 0} → Result ℕ F → ℕ → Bool
meets_end (Ok count) room = count == 0 && not (room == 0)
meets_end (Err failed) room = false

-- the text was written, or where the device failed a beginning of it
abbrev pub Writes : Option (List ℕ) → Option (List ℕ) → Bool → List ℕ → Type 0
Writes old new failed text = MatchBool failed ((k : ℕ) × Appends old new (take k text)) (Appends old new text)
