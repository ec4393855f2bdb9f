-- Edits of a list of bytes: splices that rise, all of them at once.
use Rattle.std.specs.Prelude.{◌≡◌, ℕ, ◌+◌, ◌-◌, ◌<◌, ◌≤◌, ◌^◌, ◌↔◌, IsTrue, ◌++◌, List, [], ◌∷◌, List as Row, length, map, min, take, drop}
use Rattle.shtext.specs.declared.tally.Tally.{Tally}
use Rattle.shtext.specs.declared.error.TextError.{TextError}
use Rattle.shtext.specs.declared.error.TextError.TheVariants.{Range, TooLarge, Memory, Order}
use Rattle.shtext.specs.declared.splice.Splice.{Splice}

-- the most bytes that a text has
abbrev pub limit : ℕ
limit = 16777216

-- ---- splices

-- these bytes in the place of those from a up to b
pub record ASplice : Type 0 where
  pub a : ℕ
  pub b : ℕ
  pub bytes : List ℕ

-- one splice, as a list of them
abbrev pub one_splice : ℕ → ℕ → List ℕ → Row ASplice
one_splice a b bytes = record { a = a; b = b; bytes = bytes } ∷ []

-- the splices that a slice holds
abbrev pub splices_of : Row Splice → Row ASplice
splices_of splices = map (λ (s : Splice). record { a = s.a; b = s.b; bytes = s.bytes.now }) splices

-- the bytes before a, then the new ones, then the bytes from b on
abbrev pub spliced : List ℕ → ℕ → ℕ → List ℕ → List ℕ
spliced bytes a b new = take a bytes ++ (new ++ drop b bytes)

-- What splices make of bytes. The last is made first: so the places of each are those
-- of the bytes before all of them.
abbrev pub edited : List ℕ → Row ASplice → List ℕ
edited bytes [] = bytes
edited bytes (s ∷ ss) = spliced (edited bytes ss) s.a s.b s.bytes

-- ---- where they stand

-- where the first of them begins
abbrev pub first_begin : Row ASplice → ℕ
first_begin [] = 0
first_begin (s ∷ ss) = s.a

-- where the last of them ends, or where none does, from there
abbrev pub last_end_from : ℕ → Row ASplice → ℕ
last_end_from from [] = from
last_end_from from (s ∷ ss) = last_end_from s.b ss

abbrev pub last_end : Row ASplice → ℕ
last_end ss = last_end_from 0 ss

-- how many bytes they make of those from there up to the end of the last
abbrev pub made_from : ℕ → Row ASplice → ℕ
made_from from [] = 0
made_from from (s ∷ ss) = s.a - from + (length s.bytes + made_from s.b ss)

-- where the bytes of the last of them end in the edited text
abbrev pub new_end : Row ASplice → ℕ
new_end ss = made_from 0 ss

-- ---- which are refused

-- all lie in a text of so many bytes
abbrev pub AreInRange : ℕ → Row ASplice → Type 0
AreInRange len [] = Unit {0}
AreInRange len (s ∷ ss) = (s.a ≤ s.b) × (s.b ≤ len) × AreInRange len ss

-- each begins at or after the end of the one before
abbrev pub RiseFrom : ℕ → Row ASplice → Type 0
RiseFrom from [] = Unit {0}
RiseFrom from (s ∷ ss) = (from ≤ s.a) × RiseFrom s.b ss

abbrev pub Rise : Row ASplice → Type 0
Rise ss = RiseFrom 0 ss

-- they lie in the text, they rise, and they make it not too large
pub record AreAllowed (bytes : List ℕ) (ss : Row ASplice) : Type 0 where
  pub in_range : AreInRange (length bytes) ss
  pub rising : Rise ss
  pub small : length (edited bytes ss) ≤ limit

-- Where splices are refused: if one is out of range; else if they don't rise; else if they make the text too
-- large; else, for want of memory, any others.
abbrev pub Refuses : List ℕ → Row ASplice → TextError → Type 0
Refuses bytes ss Range = AreInRange (length bytes) ss → ⊥
Refuses bytes ss Order = AreInRange (length bytes) ss × (Rise ss → ⊥)
Refuses bytes ss TooLarge =
    AreInRange (length bytes) ss × Rise ss × (limit < length (edited bytes ss))
Refuses bytes ss Memory = AreAllowed bytes ss

-- ---- as far as lengths tell

-- a tally is that of these splices in a text of so many bytes
pub record IsTally (tally : Tally) (len : ℕ) (ss : Row ASplice) : Type 0 where
  pub text : tally.len ≡ len
  pub last : tally.last ≡ last_end ss
  -- it stays at its greatest number
  pub made : tally.made ≡ min (new_end ss) (2 ^ 64 - 1)
  pub in_range : IsTrue tally.is_in_range ↔ AreInRange len ss
  pub rising : IsTrue tally.is_rising ↔ Rise ss
