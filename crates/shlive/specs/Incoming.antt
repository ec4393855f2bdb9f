-- What a row of bytes that wait stands for.
use Rattle.std.specs.Prelude.{◌-◌, ◌≤◌, take, drop}
use Rattle.shlive.specs.Waiting.{Waiting}
use Rattle.shlive.specs.declared.incoming.Incoming.TheInside.{Inside}

abbrev pub waiting : Inside → Waiting
waiting s = record { bytes = take (s.«end» - s.at) (drop s.at s.piece); count = s.count }

pub record IsRow (s : Inside) : Type 0 where
  pub order : s.at ≤ s.«end»
  pub within : s.«end» ≤ 2048
