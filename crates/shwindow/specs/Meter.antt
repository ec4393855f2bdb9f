-- How a meter of the bytes that were read rises.
use Rattle.std.specs.Prelude.{ℕ, ◌≤◌, max}
use Rattle.shsource.specs.Meter.{raised}

-- a meter after n more bytes: it never falls, though it were past its greatest number
abbrev pub risen : ℕ → ℕ → ℕ
risen meter n = max meter (raised meter n)

-- a meter rose by n bytes or fewer
abbrev pub RoseWithin : (n before meter : ℕ) → Type 0
RoseWithin n before meter = (before ≤ meter) × (meter ≤ risen before n)
