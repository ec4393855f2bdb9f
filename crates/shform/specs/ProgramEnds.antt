-- The ends that a run of the program has.
use Rattle.std.specs.Prelude.{ℕ, List, Option}
use Rattle.shtext.specs.declared.device.Input.{Input}
use Rattle.shtext.specs.declared.device.Output.{Output}

-- FILE, where there is one, standard input, standard output and standard error
pub record ProgramEnds (F I O E : Type 0) : Type 0 where
  pub file : Option (Input F)
  pub input : Input I
  pub output : Output O
  pub errors : Output E

abbrev pub program_ends : {F I O E : Type 0} → Option (Input F) → Input I → Output O → Output E
    → ProgramEnds F I O E
program_ends file input output errors =
    record { file = file; input = input; output = output; errors = errors }

-- what their devices tell: the bytes that the readers have left, and those that the writers hold
pub record Devices (F I O E : Type 0) : Type 0 where
  pub file : F → Option (List ℕ)
  pub input : I → Option (List ℕ)
  pub output : O → Option (List ℕ)
  pub errors : E → Option (List ℕ)

abbrev pub devices : {F I O E : Type 0} → (F → Option (List ℕ)) → (I → Option (List ℕ))
    → (O → Option (List ℕ)) → (E → Option (List ℕ)) → Devices F I O E
devices file input output errors =
    record { file = file; input = input; output = output; errors = errors }
