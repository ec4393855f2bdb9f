-- What is reported for the settings.
use Rattle.std.specs.Prelude.{◌≡◌, ◌≢◌, ℕ, Bool, true, List, Option, None, Some}
use Rattle.std.specs.Io.KnownBytes.{IsAtEnd}
use Rattle.shgrammar.specs.declared.edition.Edition.{Edition}
use Rattle.shprint.specs.declared.layout.Layout.{Layout}
use Rattle.shtext.specs.Device.{held_of, input_ended, input_failed, left_of, output_failed}
use Rattle.shtext.specs.declared.device.Input.{Input}
use Rattle.shform.specs.ProgramEnds.{ProgramEnds, Devices}
use Rattle.shtool.specs.Report.{IsPrintReport, IsReport, name_of}
use Rattle.shform.specs.SessionReport.{IsSessionReport, how_of}
use Rattle.shtool.specs.declared.asked.Settings.{Settings}
use Rattle.shtool.specs.declared.asked.Tool.{Tool}
use Rattle.shtool.specs.declared.asked.Tool.TheVariants.{Check, Print, Session}

-- ---- the script of a check and of a print

-- what is said of its reader: the bytes that it had and has left, whether a read failed or met the end
abbrev pub Reading : Type 1
Reading = Option (List ℕ) → Option (List ℕ) → Bool → Bool → Type 0

-- It is said of FILE, and standard input is as it was; without FILE it is said of standard input.
abbrev pub OnScript : {F I O E : Type 0} → Devices F I O E
    → Option (Input F) → Option (Input F) → Input I → Input I → Reading → Type 0
OnScript devices (Some old) (Some new) input input' Is =
    Is (left_of devices.file old) (left_of devices.file new) (input_failed new) (input_ended new)
    × (input' ≡ input)
OnScript devices None None input input' Is =
    Is (left_of devices.input input) (left_of devices.input input') (input_failed input') (input_ended input')
OnScript devices _ _ input input' Is = ⊥

-- ---- the reports

-- unless the status is 2 the end was met
abbrev pub MeetsEnd : ℕ → Bool → Option (List ℕ) → Type 0
MeetsEnd status ended has = status ≢ 2 → (ended ≡ true) × IsAtEnd has

-- the report of a check, and standard output is as it was
abbrev pub ChecksScript : {F I O E : Type 0} → Devices F I O E → Edition → List ℕ
    → ProgramEnds F I O E → ProgramEnds F I O E → ℕ → Type 0
ChecksScript devices edition name old new status =
    OnScript devices old.file new.file old.input new.input (λ had has failed ended.
    IsReport edition name had has failed ended
    (held_of devices.errors old.errors) (held_of devices.errors new.errors) (output_failed new.errors) status
    × MeetsEnd status ended has) × (new.output ≡ old.output)

-- the report of a print
abbrev pub PrintsScript : {F I O E : Type 0} → Devices F I O E → Edition → Layout → List ℕ
    → ProgramEnds F I O E → ProgramEnds F I O E → ℕ → Type 0
PrintsScript devices edition layout name old new status =
    OnScript devices old.file new.file old.input new.input (λ had has failed ended.
    IsPrintReport edition layout name had has failed ended
    (held_of devices.output old.output) (held_of devices.output new.output) (output_failed new.output)
    (held_of devices.errors old.errors) (held_of devices.errors new.errors) (output_failed new.errors) status
    × MeetsEnd status ended has)

-- the report of a tool; a session's reader had read nothing
abbrev pub IsReportOf : {F I O E : Type 0} → Tool → Devices F I O E → Edition → Layout → List ℕ
    → ProgramEnds F I O E → ProgramEnds F I O E → ℕ → Type 0
IsReportOf Check devices edition layout name old new status =
    ChecksScript devices edition name old new status
IsReportOf Print devices edition layout name old new status =
    PrintsScript devices edition layout name old new status
IsReportOf Session devices edition layout name old new status =
    IsSessionReport devices (how_of edition layout) 0 name old new status

-- the report of the tool that the settings ask for, by their edition and layout, on their script
abbrev pub IsToolReport : {F I O E : Type 0} → Devices F I O E → Settings
    → ProgramEnds F I O E → ProgramEnds F I O E → ℕ → Type 0
IsToolReport devices settings =
    IsReportOf settings.tool devices settings.edition settings.layout (name_of settings.file)
