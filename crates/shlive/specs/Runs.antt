-- A run of a session over a reader and a writer.
use Rattle.std.specs.Prelude.{◌≡◌, ℕ, ◌≤◌, ◌++◌, ◌∷◌, [], Bool, true, false, List, length, Option}
use Rattle.std.specs.Io.KnownBytes.{Appends, Consumes}
use Rattle.shgrammar.specs.declared.edition.Edition.{Edition}
use Rattle.shtext.specs.Device.{Writes, held_of, input_ended, input_failed, left_of, output_failed}
use Rattle.shtext.specs.declared.device.Input.{Input}
use Rattle.shtext.specs.declared.device.Output.{Output}
use Rattle.shlive.specs.Held.{Held}
use Rattle.shlive.specs.Ahead.{too_many}
use Rattle.shlive.specs.Answers.{HasStatus}
use Rattle.shlive.specs.Replies.{Replies}
use Rattle.shlive.specs.Requests.{Begins, Ending, Request, Requests, clean, cut, left}
use Rattle.shlive.specs.Turns.{RepliesTo}
use Rattle.shlive.specs.declared.serve.End.{End}
use Rattle.shlive.specs.declared.serve.End.TheVariants.{Clean, Quit, Cut, Unreadable, TooLong, Unwritable}

-- ---- what is seen of a run

-- Where a run stands before its first request or at its end, for who calls it: what its session holds; the
-- bytes that its reader has left, where it tells, and whether a read failed or met the end; the bytes that
-- its writer holds, where it tells, and whether a write failed.
pub record RunState : Type 0 where
  pub session : Held
  pub left : Option (List ℕ)
  pub failed : Bool
  pub ended : Bool
  pub written : Option (List ℕ)
  pub broken : Bool

abbrev pub run_state : {R W : Type 0} → (R → Option (List ℕ)) → (W → Option (List ℕ))
    → Held → Input R → Output W → RunState
run_state remaining contents session input output = record {
  session = session;
  left = left_of remaining input;
  failed = input_failed input;
  ended = input_ended input;
  written = held_of contents output;
  broken = output_failed output;
}

-- ---- a run

-- Requests were answered, and the reply to each was written whole: what is held then, and what the writer
-- holds.
pub record Answered (before mid : Held) (requests : List Request) (held told : Option (List ℕ)) : Type 0 where
  pub replies : List ℕ
  pub answered : Replies before requests replies mid
  pub written : Appends held told replies

-- One request more was answered, and its reply could not be written: a beginning of it was.
pub record Unwritten (read : List ℕ) (requests : List Request) (mid : Held) (told : Option (List ℕ))
    (new : RunState) : Type 0 where
  pub request : Request
  pub rest : List ℕ
  pub begins : Begins read (requests ++ request ∷ []) rest
  pub tells : RepliesTo mid request new.session (Writes told new.written true)

-- Why a run ended, by what was read and by the requests whose replies were written. All requests of what was
-- read were answered, unless a write failed or too much was read.
abbrev pub RunEnded : End → List ℕ → List Request → RunState → Type 0
RunEnded Clean read requests new =
    Requests read requests clean × (new.failed ≡ false) × (new.ended ≡ true)
RunEnded Quit read requests new = Requests read requests left × (new.failed ≡ false)
RunEnded Cut read requests new = Requests read requests cut × (new.failed ≡ false) × (new.ended ≡ true)
RunEnded Unreadable read requests new =
    ((ending : Ending) × Requests read requests ending) × (new.failed ≡ true)
RunEnded TooLong read requests new =
    ((rest : List ℕ) × Begins read requests rest) × (too_many ≤ length read) × (new.failed ≡ false)
RunEnded Unwritable read requests new = new.failed ≡ false

-- What is held in the end and what the writer holds, and whether a write failed: of a run that no write ended
-- what was held and written with the last reply, else what the next request made of it.
abbrev pub Finishes : End → List ℕ → List Request → Held → Option (List ℕ) → RunState → Type 0
Finishes Unwritable read requests mid told new =
    Unwritten read requests mid told new × (new.broken ≡ true)
Finishes «end» read requests mid told new =
    (new.session ≡ mid) × (new.written ≡ told) × (new.broken ≡ false)

-- the status of a run: that of the script then held, where the input ended between two
-- requests or a request ended the run
abbrev pub HasAnswer : Edition → End → List ℕ → ℕ → Type 0
HasAnswer edition Clean bytes status = HasStatus edition bytes status
HasAnswer edition Quit bytes status = HasStatus edition bytes status
HasAnswer edition end bytes status = status ≡ 2

-- the run of a session from one state to another, and its answer
pub record IsSessionRun (old new : RunState) (answer : ℕ) : Type 0 where
  pub read : List ℕ
  pub requests : List Request
  -- what is held, and what the writer holds, with the last reply that was written whole
  pub mid : Held
  pub told : Option (List ℕ)
  pub «end» : End
  pub consumed : Consumes old.left new.left read
  pub answered : Answered old.session mid requests old.written told
  pub ends : RunEnded «end» read requests new
  pub finishes : Finishes «end» read requests mid told new
  pub status : HasAnswer old.session.how.edition «end» new.session.bytes answer
