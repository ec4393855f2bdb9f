-- What a call writes to an output.
use Rattle.std.specs.Prelude.{◌≡◌, ◌||◌, ℕ, List, Option, Result, is_ok, not}
use Rattle.shtext.specs.Device.{Writes, held_of, output_failed}
use Rattle.shtext.specs.declared.device.Failed.{Failed}
use Rattle.shtext.specs.declared.device.Output.{Output}

-- the text was written, or where the call failed a beginning of it
abbrev pub WritesText : {W : Type 0} → (W → Option (List ℕ)) → Output W → Output W → Result (Unit {0}) Failed
    → List ℕ → Type 0
WritesText contents old new result = Writes (held_of contents old) (held_of contents new) (not (is_ok result))

-- the output remembers whether a write or a flush failed, this call or one before it
abbrev pub Remembers : {W : Type 0} → Output W → Output W → Result (Unit {0}) Failed → Type 0
Remembers old new result = output_failed new ≡ (output_failed old || not (is_ok result))
