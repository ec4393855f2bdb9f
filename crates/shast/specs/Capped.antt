-- A span at a base, by numbers that have a greatest one.
use Rattle.std.specs.Prelude.{ℕ, zero, suc, ◌+◌, ◌-◌, ◌^◌, min}
use Rattle.shast.specs.declared.tree.Span.{Span}

-- where an offset would be none that there is, the greatest one stands in its place
abbrev pub capped : ℕ → Span → Span
capped base s = record { start = min (base + s.start) (2 ^ 64 - 1); «end» = min (base + s.«end») (2 ^ 64 - 1) }

abbrev pub capped_by : ℕ → Span → ℕ → Span
capped_by base s zero = s
capped_by base s (suc n) = capped base s

-- the body of a here-document: one that was not read yet has no place
abbrev pub capped_body : ℕ → Span → Span
capped_body base s = capped_by base s s.«end»
