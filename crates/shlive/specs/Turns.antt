-- One request and its reply.
use Rattle.std.specs.Prelude.{◌≡◌, ℕ, ◌++◌, [], Bool, true, false, List, Option, Result, Ok, Err}
use Rattle.shtext.specs.Device.{Writes, held_of, output_failed}
use Rattle.shtext.specs.declared.device.Output.{Output}
use Rattle.shlive.specs.Held.{Held}
use Rattle.shlive.specs.Ahead.{Ahead, StopsBy, TakesBytes}
use Rattle.shlive.specs.Replies.{ReplyStep}
use Rattle.shlive.specs.Requests.{Ending, EndsBy, Request, Parser, asks, quits, nothing, unfinished}
use Rattle.shlive.specs.declared.incoming.InputEnd.{InputEnd}
use Rattle.shlive.specs.declared.incoming.InputEnd.TheVariants as stops
use Rattle.shlive.specs.declared.serve.End.{End}
use Rattle.shlive.specs.declared.serve.End.TheVariants.{Clean, Quit, Cut, Unreadable, TooLong, Unwritable}

-- a request has a reply, of which this is so
abbrev pub RepliesTo : Held → Request → Held → (List ℕ → Type 0) → Type 0
RepliesTo before request after Is = (reply : List ℕ) × ReplyStep before request reply after × Is reply

-- whatever follows it, the text is understood so
abbrev pub Spells : Parser → List ℕ → Parser → Type 0
Spells parser text next = (rest : List ℕ) → parser (text ++ rest) ≡ next rest

-- ---- turns

-- Where a run stands before a turn or after it: what its session holds, what is ahead, and what its writer
-- holds, where it tells, and whether a write failed.
pub record TurnState : Type 0 where
  pub session : Held
  pub ahead : Ahead
  pub written : Option (List ℕ)
  pub broken : Bool

abbrev pub turn_state : {W : Type 0} → (W → Option (List ℕ)) → Held → Ahead → Output W → TurnState
turn_state contents session ahead output = record {
  session = session;
  ahead = ahead;
  written = held_of contents output;
  broken = output_failed output;
}

-- the rest of a request was taken, and the reply to it was written, or where the
-- device failed a beginning of it
pub record Replied (parser : Parser) (old new : TurnState) (failed : Bool) : Type 0 where
  pub taken : List ℕ
  pub request : Request
  pub takes : TakesBytes old.ahead new.ahead taken
  pub spelled : Spells parser taken (asks request)
  pub tells : RepliesTo old.session request new.session (Writes old.written new.written failed)

-- why there is no further request, by what was taken meanwhile
abbrev pub NoFurther : Parser → End → List ℕ → Ahead → Type 0
NoFurther parser Clean taken ahead = (taken ≡ []) × (parser [] ≡ nothing) × StopsBy ahead stops.Met
NoFurther parser Quit taken ahead = Spells parser taken (λ rest. quits) × (ahead.failed ≡ false)
NoFurther parser Cut taken ahead = (parser taken ≡ unfinished) × StopsBy ahead stops.Met
NoFurther parser Unreadable taken ahead =
    ((ending : Ending) × EndsBy (parser taken) ending) × StopsBy ahead stops.Unreadable
NoFurther parser TooLong taken ahead = StopsBy ahead stops.TooLong
NoFurther parser Unwritable taken ahead = ⊥

-- nothing was replied and nothing changed
pub record ChangesNothing (parser : Parser) («end» : End) (old new : TurnState) : Type 0 where
  pub taken : List ℕ
  pub takes : TakesBytes old.ahead new.ahead taken
  pub none : NoFurther parser «end» taken new.ahead
  pub same : new.session ≡ old.session
  pub silent : new.written ≡ old.written
  pub sound : new.broken ≡ false

-- How a run ends with this turn: the reply to its request could not be written, or
-- there is no further request.
abbrev pub EndsAs : Parser → TurnState → TurnState → End → Type 0
EndsAs parser old new Unwritable =
    Replied parser old new true × (new.ahead.failed ≡ false) × (new.broken ≡ true)
EndsAs parser old new why = ChangesNothing parser why old new

-- a turn of a run: the request was replied to, or the run ends
abbrev pub IsTurn : Parser → TurnState → TurnState → Result (Unit {0}) End → Type 0
IsTurn parser old new (Ok replied) = Replied parser old new false
IsTurn parser old new (Err why) = EndsAs parser old new why

abbrev pub end_between : InputEnd → End
end_between stops.Met = Clean
end_between stops.Unreadable = Unreadable
end_between stops.TooLong = TooLong

abbrev pub end_inside : InputEnd → End
end_inside stops.Met = Cut
end_inside stops.Unreadable = Unreadable
end_inside stops.TooLong = TooLong
