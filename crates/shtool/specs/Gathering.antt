-- What a clause reads of a writer that gathers.
use Rattle.std.specs.Prelude.{ℕ, List, Option}
use Rattle.std.specs.Io.KnownBytes.{append_known}
use Rattle.shtool.specs.declared.gathering.Gathering.{Gathering}

-- the device that it stands before
abbrev pub gathering_writer : {W : Type 0} → Gathering W → W
gathering_writer gathering = gathering.writer

-- the bytes that it has not handed on
abbrev pub gathering_held : {W : Type 0} → Gathering W → List ℕ
gathering_held gathering = gathering.held.items

-- the bytes that it was given: those of the device, where they are known, and after them those it holds
abbrev pub gathered : {W : Type 0} → (W → Option (List ℕ)) → Gathering W → Option (List ℕ)
gathered contents gathering = append_known (contents gathering.writer) (gathering_held gathering)
