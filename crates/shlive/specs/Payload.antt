-- The bytes that an edit brings, as far as they are kept.
use Rattle.std.specs.Prelude.{◌≡◌, ℕ, List, Option, None, Some, Vec, length}
use Rattle.std.specs.Global.{Global}
use Rattle.shlive.specs.Ahead.{Ahead, TakesBytes}

-- these bytes are kept, or none
abbrev pub AreKept : Option (Vec ℕ Global) → List ℕ → Type 0
AreKept None bytes = Unit {0}
AreKept (Some kept) bytes = kept.items ≡ bytes

-- so many bytes were taken, and are kept, or not
abbrev pub TakesPayload : ℕ → Ahead → Ahead → Option (Vec ℕ Global) → Type 0
TakesPayload count old new kept =
    (bytes : List ℕ) × (length bytes ≡ count) × AreKept kept bytes × TakesBytes old new bytes
