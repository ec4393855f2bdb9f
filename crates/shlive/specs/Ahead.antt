-- The bytes that are still to come: those that were read and wait, and those that the reader has left.
use Rattle.std.specs.Prelude.{◌≡◌, ℕ, ◌+◌, ◌^◌, ◌<◌, ◌≤◌, ◌++◌, [], Bool, true, false, List, Option, length}
use Rattle.std.specs.Io.KnownBytes.{Consumes, IsAtEnd}
use Rattle.shtext.specs.Device.{input_ended, input_failed, left_of}
use Rattle.shtext.specs.declared.device.Input.{Input}
use Rattle.shlive.specs.Waiting.{Waiting}
use Rattle.shlive.specs.declared.incoming.InputEnd.{InputEnd}
use Rattle.shlive.specs.declared.incoming.InputEnd.TheVariants.{Met, Unreadable, TooLong}

-- what the reader has left, where it tells, whether a read failed or met the end, and what waits
pub record Ahead : Type 0 where
  pub left : Option (List ℕ)
  pub failed : Bool
  pub ended : Bool
  pub waiting : Waiting

abbrev pub ahead_of : {R : Type 0} → (R → Option (List ℕ)) → Input R → Waiting → Ahead
ahead_of remaining input waiting = record {
  left = left_of remaining input;
  failed = input_failed input;
  ended = input_ended input;
  waiting = waiting;
}

-- ---- where a run may go on

-- no read failed or met the end
abbrev pub IsOpen : {R : Type 0} → Input R → Type 0
IsOpen input = (input.failed ≡ false) × (input.ended ≡ false)

-- as many bytes as no input of a run has
abbrev pub too_many : ℕ
too_many = 2 ^ 63

-- more may be read: no read failed or met the end, and not too many bytes came
abbrev pub IsReady : {R : Type 0} → Input R → Waiting → Type 0
IsReady input waiting = IsOpen input × (waiting.count < too_many)

-- ---- what is taken

-- these bytes were taken
pub record TakesBytes (old new : Ahead) (taken : List ℕ) : Type 0 where
  -- what was read meanwhile
  pub more : List ℕ
  pub consumed : Consumes old.left new.left more
  pub counted : new.waiting.count ≡ old.waiting.count + length more
  pub same : old.waiting.bytes ++ more ≡ taken ++ new.waiting.bytes

-- why there are no more bytes
abbrev pub StopsBy : Ahead → InputEnd → Type 0
StopsBy ahead Met =
    (ahead.failed ≡ false) × (ahead.ended ≡ true) × (ahead.waiting.bytes ≡ []) × IsAtEnd ahead.left
StopsBy ahead Unreadable = (ahead.failed ≡ true) × (ahead.ended ≡ false) × (ahead.waiting.bytes ≡ [])
StopsBy ahead TooLong = (ahead.failed ≡ false) × (ahead.ended ≡ false) × (too_many ≤ ahead.waiting.count)

-- such bytes were taken, and there are no more
abbrev pub StopsAfter : (List ℕ → Type 0) → Ahead → Ahead → InputEnd → Type 0
StopsAfter Are old new stop =
    (taken : List ℕ) × Are taken × TakesBytes old new taken × StopsBy new stop
