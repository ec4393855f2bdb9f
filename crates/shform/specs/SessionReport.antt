-- What is said of a session, and the status that is answered.
use Rattle.std.specs.Prelude.{◌≡◌, ◌⊎◌, ℕ, ◌≤◌, [], true, false, List, length}
use Rattle.std.specs.Prelude.{Option, None, Some, Err}
use Rattle.std.specs.Io.KnownBytes.{Consumes, IsAtEnd}
use Rattle.shgrammar.specs.declared.edition.Edition.{Edition}
use Rattle.shlive.specs.Held.{Held, SessionOptions}
use Rattle.shlive.specs.Runs.{IsSessionRun, run_state}
use Rattle.shprint.specs.declared.layout.Layout.{Layout}
use Rattle.shtext.specs.Device.{held_of, input_ended, input_failed, left_of, output_failed}
use Rattle.shtext.specs.Edit.{limit}
use Rattle.shsource.specs.Meter.{raised}
use Rattle.shtext.specs.declared.device.Input.{Input}
use Rattle.shform.specs.ProgramEnds.{ProgramEnds, Devices}
use Rattle.shtool.specs.Report.{IsTold, GivenUpFor}
use Rattle.shtool.specs.declared.report.RunError.{RunError}

-- ---- the session

abbrev pub how_of : Edition → Layout → SessionOptions
how_of edition layout = record { edition = edition; layout = layout }

-- what a session holds that was opened on these bytes, with a reader of this meter
abbrev pub opened_on : SessionOptions → ℕ → List ℕ → Held
opened_on how meter bytes = record { bytes = bytes; how = how; meter = raised meter (length bytes) }

-- ---- FILE

-- FILE was read to its end, and has these bytes, which are not too many; without FILE there are none
abbrev pub IsReadWhole : {F : Type 0} → (F → Option (List ℕ))
    → Option (Input F) → Option (Input F) → List ℕ → Type 0
IsReadWhole remaining (Some old) (Some new) read =
    Consumes (left_of remaining old) (left_of remaining new) read × IsAtEnd (left_of remaining new)
    × (length read ≤ limit) × (input_failed new ≡ false) × (input_ended new ≡ true)
IsReadWhole remaining None None read = read ≡ []
IsReadWhole remaining _ _ read = ⊥

-- FILE was given up, with these bytes read; without FILE there is nothing to give up
abbrev pub IsGivenUp : {F : Type 0} → (F → Option (List ℕ))
    → Option (Input F) → Option (Input F) → List ℕ → RunError → Type 0
IsGivenUp remaining (Some old) (Some new) read error =
    Consumes (left_of remaining old) (left_of remaining new) read
    × GivenUpFor read (input_failed new) (input_ended new) error
IsGivenUp remaining _ _ read error = ⊥

-- ---- the report

-- FILE was read, and a session ran that was opened on its bytes; nothing was told. The ends as they were
-- and as they are, and the status.
pub record Serves {F I O E : Type 0} (devices : Devices F I O E) (how : SessionOptions) (meter : ℕ)
    (old new : ProgramEnds F I O E) (status : ℕ) : Type 0 where
  pub read : List ℕ
  pub file : IsReadWhole devices.file old.file new.file read
  -- what the session holds in the end
  pub after : Held
  pub run : IsSessionRun
      (run_state devices.input devices.output (opened_on how meter read) old.input old.output)
      (run_state devices.input devices.output after new.input new.output) status
  pub silent : new.errors ≡ old.errors

-- FILE was given up, or there was no memory for its session, and that was told; no request was read, and
-- nothing replied.
pub record GivesUp {F I O E : Type 0} (devices : Devices F I O E) (name : List ℕ)
    (old new : ProgramEnds F I O E) (status : ℕ) : Type 0 where
  pub read : List ℕ
  pub error : RunError
  pub file : IsGivenUp devices.file old.file new.file read error
  pub told : IsTold name read (Err error)
      (held_of devices.errors old.errors) (held_of devices.errors new.errors) (output_failed new.errors)
      status
  pub unasked : new.input ≡ old.input
  pub unanswered : new.output ≡ old.output

-- The report of a session, whose requests come on standard input and whose replies go to standard output;
-- the meter is that with which its reader came. Without FILE it is never given up.
abbrev pub IsSessionReport : {F I O E : Type 0} → Devices F I O E → SessionOptions → ℕ → List ℕ
    → ProgramEnds F I O E → ProgramEnds F I O E → ℕ → Type 0
IsSessionReport devices how meter name old new status =
    Serves devices how meter old new status ⊎ GivesUp devices name old new status
