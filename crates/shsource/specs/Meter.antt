-- How a meter of the bytes that were read rises.
use Rattle.std.specs.Prelude.{ℕ, ◌+◌, ◌-◌, ◌^◌, min}

-- a meter after n more bytes; it stays at its greatest number
abbrev pub raised : ℕ → ℕ → ℕ
raised meter n = min (meter + n) (2 ^ 64 - 1)
