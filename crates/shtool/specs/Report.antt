-- What is said of an input, and the status that is answered.
use Rattle.std.specs.Prelude.{◌≡◌, ◌⊎◌, ℕ, ◌+◌, ◌≤◌, ◌++◌, [], Bool, true, false, List, Option, None, Some, Result, Ok, Err, length, codes, if◌then◌else◌}
use denote.Ref.{Bor}
use Rattle.std.specs.Io.KnownBytes.{Consumes}
use Rattle.shgrammar.specs.Scripts.{FirstFault}
use Rattle.shsource.specs.Text.{line_of, column_of}
use Rattle.shgrammar.specs.declared.edition.Edition.{Edition}
use Rattle.shgrammar.specs.declared.fault.Fault.{Fault}
use Rattle.shtext.specs.Device.{Writes}
use Rattle.shtext.specs.Edit.{limit}
use Rattle.shprint.specs.Message.{message_text}
use Rattle.shprint.specs.ReadBack.{IsTextOf}
use Rattle.shprint.specs.declared.layout.Layout.{Layout}
use Rattle.shtool.specs.declared.report.RunError.{RunError}
use Rattle.shtool.specs.declared.report.RunError.TheVariants.{Unreadable, TooLarge, Memory, Unwritable}

-- what the script is called: FILE, or -
abbrev pub name_of : Option (Bor (List ℕ)) → List ℕ
name_of None = codes "-"
name_of (Some file) = file.now

-- what is said where a run is given up
abbrev pub text_of_error : List ℕ → RunError → List ℕ
text_of_error name Unreadable = codes "shform: cannot read " ++ name ++ codes "\n"
text_of_error name TooLarge = codes "shform: " ++ name ++ codes ": too large\n"
text_of_error name Memory = codes "shform: out of memory\n"
text_of_error name Unwritable = codes "shform: cannot write\n"

-- A verdict is the first fault of a script, None where it has none, or why there is no answer.
-- Here, what is said for a verdict on the bytes that were read.
abbrev pub text_of_verdict : List ℕ → List ℕ → Result (Option Fault) RunError → List ℕ
text_of_verdict name read (Ok None) = []
text_of_verdict name read (Ok (Some fault)) = message_text name (line_of read fault.at) (column_of read fault.at) fault
text_of_verdict name read (Err error) = text_of_error name error

-- the status of a verdict
abbrev pub status_of_verdict : Result (Option Fault) RunError → ℕ
status_of_verdict (Ok None) = 0
status_of_verdict (Ok (Some fault)) = 1
status_of_verdict (Err error) = 2

-- The verdict on the bytes that were read was told: standard error held and holds
-- bytes, whether a write there failed; and the status.
pub record IsTold (name read : List ℕ) (verdict : Result (Option Fault) RunError) (held holds : Option (List ℕ))
    (broken : Bool) (status : ℕ) : Type 0 where
  pub written : Writes held holds broken (text_of_verdict name read verdict)
  pub answer : status ≡ (if broken then 2 else status_of_verdict verdict)

-- the fault was told, or that memory ran out
abbrev pub TellsFault : List ℕ → List ℕ → Fault → Option (List ℕ) → Option (List ℕ) → Bool → ℕ → Type 0
TellsFault name read fault held holds broken status =
    IsTold name read (Ok (Some fault)) held holds broken status ⊎ IsTold name read (Err Memory) held holds broken status

-- what was read and which ends were met where an input is given up: memory may run out at any time, before
-- the end and after it. What is written has no part in it.
abbrev pub GivenUpFor : List ℕ → Bool → Bool → RunError → Type 0
GivenUpFor read failed ended Unreadable = (failed ≡ true) × (ended ≡ false) × (length read ≤ limit)
GivenUpFor read failed ended TooLarge = (failed ≡ false) × (ended ≡ false) × (length read ≡ limit + 1)
GivenUpFor read failed ended Memory = (failed ≡ false) × (length read ≤ limit)
GivenUpFor read failed ended Unwritable = ⊥

-- the same for what follows bytes that were read, of which there are so many
abbrev pub GivenUpAfter : ℕ → List ℕ → Bool → Bool → RunError → Type 0
GivenUpAfter held more failed ended error = (read : List ℕ) → length read ≡ held + length more →
    GivenUpFor read failed ended error

-- what was read and which ends were met where a verdict stands
abbrev pub JudgedFor : Edition → List ℕ → Bool → Bool → Result (Option Fault) RunError → Type 0
JudgedFor edition read failed ended (Ok fault) = (failed ≡ false) × (ended ≡ true) × (length read ≤ limit)
    × FirstFault edition read fault
JudgedFor edition read failed ended (Err error) = GivenUpFor read failed ended error

-- The report of a check. The bytes that the reader had and has left, whether a read failed or met the end;
-- the bytes that standard error held and holds, whether a write there failed; and the status.
pub record IsReport (edition : Edition) (name : List ℕ) (had has : Option (List ℕ)) (failed ended : Bool)
    (held holds : Option (List ℕ)) (broken : Bool) (status : ℕ) : Type 0 where
  pub read : List ℕ
  pub verdict : Result (Option Fault) RunError
  pub consumed : Consumes had has read
  pub judged : JudgedFor edition read failed ended verdict
  pub told : IsTold name read verdict held holds broken status

-- What standard output held and holds, and whether it failed, for a verdict on the bytes that were read:
-- where they are a script without a fault, its printed text was written there; else it is as it was.
abbrev pub PrintsFor : Edition → Layout → List ℕ → Result (Option Fault) RunError → Option (List ℕ) → Option (List ℕ) →
    Bool → Type 0
PrintsFor edition layout read (Ok None) held holds broken = (text : List ℕ) × IsTextOf edition layout read text
    × Writes held holds broken text
PrintsFor edition layout read (Ok (Some fault)) held holds broken = (holds ≡ held) × (broken ≡ false)
PrintsFor edition layout read (Err error) held holds broken = (holds ≡ held) × (broken ≡ false)

-- The report of a print: as that of a check, and what was written on standard output.
-- Where that failed, standard error says so.
pub record IsPrintReport (edition : Edition) (layout : Layout) (name : List ℕ) (had has : Option (List ℕ))
    (failed ended : Bool)
    (printed_held printed_holds : Option (List ℕ)) (unwritable : Bool) (held holds : Option (List ℕ)) (broken : Bool)
    (status : ℕ) : Type 0 where
  pub read : List ℕ
  pub verdict : Result (Option Fault) RunError
  pub consumed : Consumes had has read
  pub judged : JudgedFor edition read failed ended verdict
  pub prints : PrintsFor edition layout read verdict printed_held printed_holds unwritable
  pub told : IsTold name read (if unwritable then Err Unwritable else verdict) held holds broken status
