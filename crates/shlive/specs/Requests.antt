-- The requests that an input spells, and its end.
use Rattle.std.specs.Prelude.{◌≡◌, zero, suc, ℕ, nat_le, List, [], ◌∷◌, ◌++◌, List as Row, length, take, drop, Option, None, Some, if◌then◌else◌}
use Rattle.shtext.specs.Edit.{ASplice}
use Rattle.shsource.specs.Text.{is_newline}
use Rattle.shlive.specs.RequestKinds.{request_kind_of, part_of}
use Rattle.shlive.specs.declared.request_kind.EditForm.{EditForm}
use Rattle.shlive.specs.declared.request_kind.EditForm.TheVariants as forms
use Rattle.shlive.specs.declared.request_kind.RequestKind.{RequestKind}
use Rattle.shlive.specs.declared.request_kind.RequestKind.TheVariants as kinds
use Rattle.shlive.specs.declared.request_kind.Part.{Part}
use Rattle.shlive.specs.declared.request_kind.Question.{Question}
use Rattle.shlive.specs.declared.request_kind.Question.TheVariants as questions
use Rattle.shlive.specs.declared.parts.Flaw.{Flaw}
use Rattle.shlive.specs.declared.parts.Flaw.TheVariants.{NoPart, NoPayload}

pub data Request : Type 0 where
  -- all of these splices, or none
  edit : (splices : Row ASplice) → Request
  -- an edit that has a flaw
  flawed : (flaw : Flaw) → Request
  outline : Request
  at : (p : ℕ) → Request
  fault : Request
  print : Request
  -- a line that is no request
  unknown : Request

-- what an input begins with
pub data NextRequest : Type 0 where
  -- no byte of a further request
  nothing : NextRequest
  -- a request that the input cuts off
  unfinished : NextRequest
  -- a line `quit`
  quits : NextRequest
  -- a request, and what follows it
  asks : (request : Request) (rest : List ℕ) → NextRequest

-- ---- lines

-- a line, and what follows its newline
abbrev pub Lined : Type 0
Lined = Option (List ℕ × List ℕ)

-- the line that text before this line makes
abbrev pub with_text_before : List ℕ → Lined → Lined
with_text_before text None = None
with_text_before text (Some (line, rest)) = Some (text ++ line, rest)

-- the first line, where a newline ends it
abbrev pub first_line : List ℕ → Lined
first_line [] = None
first_line (b ∷ bs) = if is_newline b then Some ([], bs) else with_text_before (b ∷ []) (first_line bs)

-- ---- how bytes are understood

-- what takes the next request from the bytes that are to come, or says how they end
abbrev pub Parser : Type 0
Parser = List ℕ → NextRequest

-- ---- edits

-- what follows the bytes of a splice, by the rest of their last line: it has to be empty
abbrev pub after_payload : Parser → Lined → NextRequest
after_payload next None = unfinished
after_payload next (Some ([], rest)) = next rest
after_payload next (Some (c ∷ line, rest)) = asks (flawed NoPayload) rest

abbrev pub splice_by : Part → List ℕ → ASplice
splice_by p bytes = record { a = p.a; b = p.b; bytes = bytes }

-- what follows the line of a part: its bytes and a newline, and then what the splice goes on with
abbrev pub with_bytes : Part → (ASplice → Parser) → Parser
with_bytes p next rest =
    after_payload (next (splice_by p (take p.count rest))) (first_line (drop p.count rest))

-- the most bytes that the line of a request has, and that of a part
abbrev pub line_limit : ℕ
line_limit = 64

-- what a line is taken for: a longer one is no part
abbrev pub part_of_line : List ℕ → Option Part
part_of_line line = if nat_le (length line) line_limit then part_of line else None

abbrev pub next_by_part : Option Part → (ASplice → Parser) → Parser
next_by_part None next rest = asks (flawed NoPart) rest
next_by_part (Some p) next rest = with_bytes p next rest

abbrev pub part_by_line : (ASplice → Parser) → Lined → NextRequest
part_by_line next None = unfinished
part_by_line next (Some (line, rest)) = next_by_part (part_of_line line) next rest

-- so many parts after those of these splices: the first flaw ends the request
abbrev pub more_parts : ℕ → Row ASplice → Parser
more_parts zero ss rest = asks (edit ss) rest
more_parts (suc n) ss rest = part_by_line (λ s. more_parts n (ss ++ s ∷ [])) (first_line rest)

-- an edit of one splice
abbrev pub edit_alone : ASplice → Parser
edit_alone s = asks (edit (s ∷ []))

-- ---- requests

abbrev pub request_of : Question → Request
request_of questions.Outline = outline
request_of (questions.At p) = at p
request_of questions.Fault = fault
request_of questions.Print = print

-- the edit that splices make which come so
abbrev pub next_by_form : EditForm → Parser
next_by_form (forms.Alone p) = with_bytes p edit_alone
next_by_form (forms.Batch n) = more_parts n []

-- what a line asks for, by what follows it
abbrev pub next_by_kind : Option RequestKind → List ℕ → NextRequest
next_by_kind (Some (kinds.Edit form)) rest = next_by_form form rest
next_by_kind (Some (kinds.Ask question)) rest = asks (request_of question) rest
next_by_kind (Some kinds.Quit) rest = quits
next_by_kind None rest = asks unknown rest

-- what a line is taken for: a longer one is no request
abbrev pub kind_of_line : List ℕ → Option RequestKind
kind_of_line line = if nat_le (length line) line_limit then request_kind_of line else None

abbrev pub next_by_line : Lined → NextRequest
next_by_line None = unfinished
next_by_line (Some (line, rest)) = next_by_kind (kind_of_line line) rest

abbrev pub next_request_of : List ℕ → NextRequest
next_request_of [] = nothing
next_request_of (b ∷ bs) = next_by_line (first_line (b ∷ bs))

-- ---- all requests of an input

-- the input begins with these requests, and the rest follows them
pub data Begins (input : List ℕ) : List Request → List ℕ → Type 0 where
  none_yet : Begins input [] input
  one_more : {requests : List Request} {mid : List ℕ} (request : Request) (rest : List ℕ)
      → Begins input requests mid → next_request_of mid ≡ asks request rest →
      Begins input (requests ++ request ∷ []) rest

-- how an input ends after its requests
pub data Ending : Type 0 where
  clean : Ending
  cut : Ending
  left : Ending

abbrev pub EndsBy : NextRequest → Ending → Type 0
EndsBy nothing clean = Unit {0}
EndsBy unfinished cut = Unit {0}
EndsBy quits left = Unit {0}
EndsBy _ _ = ⊥

-- the requests of an input, and how it ends after them
abbrev pub Requests : List ℕ → List Request → Ending → Type 0
Requests input requests ending = (rest : List ℕ) × Begins input requests rest × EndsBy (next_request_of rest) ending
