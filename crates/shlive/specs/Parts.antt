-- The splices of an edit, as they come.
use Rattle.std.specs.Prelude.{◌≡◌, ◌<◌, ◌++◌, ◌∷◌, [], ℕ, false, List, List as Row, Option, None, Some, Result, Ok, Err, OnOk, Vec, length, map}
use Rattle.std.specs.Global.{Global}
use Rattle.shtext.specs.Edit.{ASplice, IsTally}
use Rattle.shlive.specs.Ahead.{Ahead, StopsAfter, TakesBytes}
use Rattle.shlive.specs.Requests.{Request, Parser, asks, edit, flawed, splice_by, unfinished, with_bytes}
use Rattle.shlive.specs.Turns.{Spells}
use Rattle.shlive.specs.declared.incoming.InputEnd.{InputEnd}
use Rattle.shlive.specs.declared.request_kind.Part.{Part}
use Rattle.shlive.specs.declared.parts.Flaw.{Flaw}
use Rattle.shlive.specs.declared.parts.KeptSplice.{KeptSplice}
use Rattle.shlive.specs.declared.parts.Parts.{Parts}

-- the splices that are kept
abbrev pub splices_kept : Row KeptSplice → Row ASplice
splices_kept row = map (λ (k : KeptSplice). record { a = k.a; b = k.b; bytes = k.bytes.items }) row

-- these splices are kept, or none
abbrev pub AreSplices : Option (Vec KeptSplice Global) → Row ASplice → Type 0
AreSplices None ss = Unit {0}
AreSplices (Some kept) ss = splices_kept kept.items ≡ ss

-- what lengths tell of splices of a text of so many bytes, and the splices, where they are kept
pub record Hold (parts : Parts) (len : ℕ) (ss : Row ASplice) : Type 0 where
  pub told : IsTally parts.tally len ss
  pub kept : AreSplices parts.kept ss

-- and there is one: those of an edit
abbrev pub HoldSome : Parts → ℕ → Row ASplice → Type 0
HoldSome parts len ss = (0 < length ss) × Hold parts len ss

-- the request that came
abbrev pub request_by : Result (Unit {0}) Flaw → Row ASplice → Request
request_by (Ok whole) ss = edit ss
request_by (Err flaw) ss = flawed flaw

-- how what follows the newline after a splice's bytes is understood
abbrev pub after_bytes : Result (Unit {0}) Flaw → Parser → Parser
after_bytes (Ok whole) next = next
after_bytes (Err flaw) next = asks (flawed flaw)

-- The bytes of a splice were taken, with what ends their last line. Whatever splices the parts held before,
-- they hold this one after those.
pub record TakesSplice (part : Part) (before after : Parts) (old new : Ahead) (came : Result (Unit {0}) Flaw)
    : Type 0 where
  pub taken : List ℕ
  pub bytes : List ℕ
  pub takes : TakesBytes old new taken
  pub spelled : (next : ASplice → Parser)
      → Spells (with_bytes part next) taken (after_bytes came (next (splice_by part bytes)))
  pub held : (len : ℕ) (ss : Row ASplice) → Hold before len ss → Hold after len (ss ++ splice_by part bytes ∷ [])

-- where no more follows, the request is cut off in a splice's bytes or before the newline after them
abbrev pub IsInSplice : Part → List ℕ → Type 0
IsInSplice part taken = (next : ASplice → Parser) → with_bytes part next taken ≡ unfinished

-- an edit that is understood so was taken whole or up to a flaw
pub record TakesEdit (parser : Parser) (old new : Ahead) (parts : Parts) (len : ℕ) (came : Result (Unit {0}) Flaw)
    : Type 0 where
  pub taken : List ℕ
  pub splices : Row ASplice
  pub some : OnOk came (0 < length splices)
  pub takes : TakesBytes old new taken
  pub spelled : Spells parser taken (asks (request_by came splices))
  pub held : Hold parts len splices
  pub sound : new.failed ≡ false

-- What came of an edit that is understood so: it was taken whole or up to a flaw, or the input ended in it.
abbrev pub Comes : Parser → Ahead → Ahead → Parts → ℕ → Result (Result (Unit {0}) Flaw) InputEnd → Type 0
Comes parser old new parts len (Ok came) = TakesEdit parser old new parts len came
Comes parser old new parts len (Err stop) = StopsAfter (λ taken. parser taken ≡ unfinished) old new stop
