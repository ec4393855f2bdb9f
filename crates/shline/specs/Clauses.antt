-- Words for the clauses of the code: what a function of the reader answers, and what it leaves as it was.
use Rattle.std.specs.Prelude.{◌≡◌, ◌⊎◌, ℕ, ◌+◌, ◌-◌, ◌<◌, ◌≤◌, ◌==◌, Bool, true, false, List, List as Row, [], length, drop, map, Result, Ok, Err, Vec, if◌then◌else◌}
use Rattle.std.specs.Global.{Global}
use Rattle.shgrammar.specs.Characters.{newline_char}
use Rattle.shline.specs.declared.cursor.Cursor.{Cursor}
use Rattle.shline.specs.Limits.{Limits, limits}
use Rattle.shline.specs.declared.documents.Documents as the_documents
use Rattle.shline.specs.declared.documents.Waiting as the_waiting
use Rattle.shgrammar.specs.declared.fault.Fault.{Fault}
use Rattle.shgrammar.specs.declared.keep.Keep.{Keep}
use Rattle.shgrammar.specs.declared.keep.Keep.TheVariants.{Nothing}
use Rattle.shast.specs.declared.tree.Span.{Span}
use Rattle.shast.specs.declared.tree.Command.{Command}
use Rattle.shast.specs.declared.tree.Join.{Join}
use Rattle.shast.specs.declared.tree.Subst.{Subst}
use Rattle.shast.specs.Tree.{ACommand, AWord, AnEntry, compound, substs_of, word}
use Rattle.shast.specs.View.{view_command, view_entry, view_join}
use Rattle.shline.specs.Rows.{view_substs}
use Rattle.shline.specs.declared.parsed_line.ParsedLine.{ParsedLine}
use Rattle.shline.specs.declared.stop.Stop.{Stop}
use Rattle.shline.specs.declared.stop.Stop.TheVariants.{Memory, Wrong}
use Rattle.shgrammar.specs.declared.token.Next.{Next}
use Rattle.shgrammar.specs.declared.token.Position.{Position}
use Rattle.shgrammar.specs.declared.token.Token.{Token}
use Rattle.shgrammar.specs.Tokens.{next_at, next_in, token_at, token_in}
use Rattle.shgrammar.specs.Comments.{span}
use Rattle.shgrammar.specs.Sights.{Given, State, Waiting, given, standing}
use Rattle.shgrammar.specs.Bytes.{ends_word, past_blanks, past_byte, past_continuations}
use Rattle.shgrammar.specs.Shows.{IsRead}
use Rattle.shgrammar.specs.declared.mode.Mode.{Mode}
use Rattle.shgrammar.specs.declared.mode.Mode.TheVariants.{Plain}
use Rattle.shgrammar.specs.Form.{Form, Read, Step, does, raw, step_if}
use Rattle.shgrammar.specs.Plain.{ArePlain}
use Rattle.shgrammar.specs.HereDocuments.{rest_of_line}
use Rattle.shgrammar.specs.Standing.{at_end, raw_stands}

-- ---- a cursor

-- its text
abbrev pub text_of : {S : Type 0} {k : ℕ} {g : _} → Cursor S k g → List ℕ
text_of {g = g} cursor = drop cursor.base (g.bytes cursor.source.now)

-- the offset of the end of its text
abbrev pub end_of : {S : Type 0} {k : ℕ} {g : _} → Cursor S k g → ℕ
end_of cursor = cursor.origin + length (text_of cursor)

abbrev pub limits_of : {S : Type 0} {k : ℕ} {g : _} → Cursor S k g → Limits
limits_of {k = k} cursor = limits k cursor.origin (text_of cursor)

abbrev pub given_of : {S : Type 0} {k : ℕ} {g : _} → Cursor S k g → Given
given_of cursor = given cursor.how.edition (text_of cursor) cursor.origin

-- the place of the text of one that counts from the stretch
abbrev pub on : {S : Type 0} {k : ℕ} {g : _} → Cursor S k g → ℕ → ℕ
on cursor p = cursor.begin + p

-- what a definition says of the text at a place that counts from the stretch
abbrev pub seen : {S X : Type 0} {k : ℕ} {g : _} → Cursor S k g → (List ℕ → ℕ → X) → ℕ → X
seen cursor definition p = definition (text_of cursor) (on cursor p)

-- the bytes from one up to another
abbrev pub bytes_between : {S : Type 0} {k : ℕ} {g : _} → Cursor S k g → ℕ → ℕ → List ℕ
bytes_between cursor p q = raw (text_of cursor) (on cursor p) (on cursor q)

-- what is left of the line at one
abbrev pub line_bytes_from : {S : Type 0} {k : ℕ} {g : _} → Cursor S k g → ℕ → List ℕ
line_bytes_from cursor p = seen cursor rest_of_line p

-- where the reading stands, if no token is in hand
abbrev pub here_of : {S : Type 0} {k : ℕ} {g : _} → Cursor S k g → ℕ
here_of cursor = on cursor cursor.at

-- where the token in hand begins
abbrev pub start_of : {S : Type 0} {k : ℕ} {g : _} → Cursor S k g → ℕ
start_of cursor = on cursor cursor.next_at

-- the word from a place of the text to where the reading stands, with these substitutions
abbrev pub word_from : {S : Type 0} {k : ℕ} {g : _} → ℕ → ℕ → Cursor S k g → Vec Subst Global → AWord
word_from origin start cursor substs = word (span origin start (here_of cursor)) (substs_of (view_substs substs))

-- a place that counts from the stretch stands in the text
abbrev pub Inside : {S : Type 0} {k : ℕ} {g : _} → Cursor S k g → ℕ → Type 0
Inside cursor p = on cursor p ≤ length (text_of cursor)

-- two of them stand so
abbrev pub Between : {S : Type 0} {k : ℕ} {g : _} → Cursor S k g → ℕ → ℕ → Type 0
Between cursor p q = (p ≤ q) × Inside cursor q

-- two bytes at least are read from the start of the token in hand on
abbrev pub IsLong : {S : Type 0} {k : ℕ} {g : _} → Cursor S k g → Type 0
IsLong cursor = IsRead (text_of cursor) (start_of cursor)
    × IsRead (text_of cursor) (past_byte (text_of cursor) (start_of cursor))

-- a definition leads from a place to another, which is no further to the left
abbrev pub Reaches : {S : Type 0} {k : ℕ} {g : _} → Cursor S k g → (List ℕ → ℕ → ℕ) → ℕ → ℕ → Type 0
Reaches cursor definition p q = (on cursor q ≡ seen cursor definition p) × Between cursor p q

-- a place stands in the text, and no continuation there
abbrev pub Still : {S : Type 0} {k : ℕ} {g : _} → Cursor S k g → ℕ → Type 0
Still cursor p = Inside cursor p × (seen cursor past_continuations p ≡ on cursor p)

-- a place is that of the next byte, or the end,
abbrev pub IsHere : {S : Type 0} {k : ℕ} {g : _} → Cursor S k g → ℕ → Type 0
IsHere cursor p = on cursor p ≡ past_continuations (text_of cursor) (here_of cursor)

-- and one stands there
abbrev pub ByteHere : {S : Type 0} {k : ℕ} {g : _} → Cursor S k g → ℕ → Type 0
ByteHere cursor p = IsHere cursor p × (on cursor p < length (text_of cursor))

-- the token at a place of the text, and the next one from where the reading stands on
abbrev pub token_of : {S : Type 0} {k : ℕ} {g : _} → Cursor S k g → Position → ℕ → Token
token_of cursor position p = token_in cursor.how.edition (token_at position (text_of cursor) p)

abbrev pub next_from : {S : Type 0} {k : ℕ} {g : _} → Cursor S k g → Position → Next
next_from cursor position = next_in cursor.how.edition (next_at position (text_of cursor) (here_of cursor))

-- what a cursor of this TREE keeps, if it may grow a tree
abbrev pub kept : ℕ → Keep → Keep
kept k keep = if k == 1 then keep else Nothing

abbrev pub keep_of : {S : Type 0} {k : ℕ} {g : _} → Cursor S k g → Keep
keep_of {k = k} cursor = kept k cursor.how.keep

abbrev pub view_waiting : the_waiting.Waiting → Waiting
view_waiting w = record {
  operator = w.operator_at;
  delimiter = w.delimiter.items;
  literal = w.literal;
  strip = w.strip;
}

-- a place, with the here-documents of a level
abbrev pub standing_with : the_documents.Documents → ℕ → State
standing_with documents p = record {
  at = p;
  waiting = map view_waiting documents.waiting.items;
  bodies = documents.bodies.items;
}

-- where it stands between tokens
abbrev pub at_place : {S : Type 0} {k : ℕ} {g : _} → Cursor S k g → State
at_place cursor = standing_with cursor.documents (here_of cursor)

-- and where it stands with a token in hand
abbrev pub at_token : {S : Type 0} {k : ℕ} {g : _} → Cursor S k g → State
at_token cursor = standing_with cursor.documents (start_of cursor)

-- ---- what stays

-- the text, and how it is read
pub record Keeps {S : Type 0} {k : ℕ} {g : _} (old new : Cursor S k g) : Type 0 where
  pub source : new.source ≡ old.source
  pub base : new.base ≡ old.base
  pub origin : new.origin ≡ old.origin
  pub how : new.how ≡ old.how

-- and the here-documents
pub record Stays {S : Type 0} {k : ℕ} {g : _} (old new : Cursor S k g) : Type 0 where
  pub same : Keeps old new
  pub documents : new.documents ≡ old.documents

-- and the token in hand
pub record HoldsToken {S : Type 0} {k : ℕ} {g : _} (old new : Cursor S k g) : Type 0 where
  pub stays : Stays old new
  pub next : new.next ≡ old.next
  pub start : start_of new ≡ start_of old

-- the text and the here-documents, where the place goes to p, which is no further to the left
pub record Moves {S : Type 0} {k : ℕ} {g : _} (old new : Cursor S k g) (p : ℕ) : Type 0 where
  pub place : here_of new ≡ p
  pub onward : here_of old ≤ here_of new
  pub stays : Stays old new

-- the same of a place after the start of the token in hand
pub record Steps {S : Type 0} {k : ℕ} {g : _} (old new : Cursor S k g) (p : ℕ) : Type 0 where
  pub place : here_of new ≡ p
  pub onward : start_of old < here_of new
  pub stays : Stays old new

-- the next token is in hand
pub record Looks {S : Type 0} {k : ℕ} {g : _} (old : Cursor S k g) (position : Position) (new : Cursor S k g) : Type 0
  where
    pub next : new.next ≡ next_from old position
    pub start : start_of new ≡ past_blanks (text_of old) (here_of old)
    pub onward : here_of old ≤ start_of new
    pub stays : Stays old new

-- bytes that are ordinary in a mode were passed
pub record Skips {S : Type 0} {k : ℕ} {g : _} (old : Cursor S k g) (mode : Mode) (new : Cursor S k g) : Type 0 where
  pub plain : ArePlain mode (text_of old) (here_of old) (here_of new)
  pub onward : here_of old ≤ here_of new
  pub within : here_of new ≤ length (text_of old)
  pub stays : Stays old new

-- in plain mode, where no word ends, something was read
abbrev pub SomeRead : {S : Type 0} {k : ℕ} {g : _} → Cursor S k g → Mode → Cursor S k g → Type 0
SomeRead old mode new = mode ≡ Plain → ends_word (text_of old) (here_of old) ≡ false → here_of old < here_of new

-- a turn that goes on moves to the right
abbrev pub Onward : ℕ → ℕ → Bool → Type 0
Onward p q true = p < q
Onward p q false = p ≤ q

-- ---- what is read

-- what a form gives in a cursor's text, from a state on
abbrev pub reads : {S X : Type 0} {k : ℕ} {g : _} → Cursor S k g → Form X → State → Read X
reads cursor form s = does form (keep_of cursor) (given_of cursor) s

-- what a stop says of the reading: a fault is its outcome, and stands within the text;
-- memory is wanted only where it may be
abbrev pub Fails : {Y : Type 0} → Limits → Stop → Read Y → Type 0
Fails bound Memory read = bound.memory ≡ true
Fails bound (Wrong f) read = (read ≡ Err f) × (f.at ≤ bound.furthest)

-- What a function returned, seen by view, is what the reading gives, unless memory ran out.
abbrev pub Gives : {X Y : Type 0} → Limits → (X → Y × State) → Result X Stop → Read Y → Type 0
Gives bound view (Ok x) read = read ≡ Ok (view x)
Gives bound view (Err e) read = Fails bound e read

-- A form gives this from a state on, and leads to another, which is no further to the left.
pub record Leads {S X : Type 0} {k : ℕ} {g : _} (old : Cursor S k g) (form : Form X) (s : State) (x : X) (t : State)
    (new : Cursor S k g) : Type 0 where
  pub read : reads old form s ≡ Ok (x, t)
  pub onward : s.at ≤ t.at
  pub same : Keeps old new

-- What a function returned, seen by view, is what a form gives between two states. Or it stops.
abbrev pub Goes : {S X Y : Type 0} {k : ℕ} {g : _} → Cursor S k g → Form Y → State → Result X Stop → (X → Y) → State →
    Cursor S k g → Type 0
Goes old form s (Ok x) view t new = Leads old form s (view x) t new
Goes old form s (Err e) view t new = Fails (limits_of old) e (reads old form s) × Keeps old new

-- from a place to a place
abbrev pub PlaceToPlace : {S X Y : Type 0} {k : ℕ} {g : _} → Cursor S k g → Form Y → Result X Stop → (X → Y) →
    Cursor S k g → Type 0
PlaceToPlace old form result view new = Goes old form (at_place old) result view (at_place new) new

-- from a token in hand to the place after what was read
abbrev pub TokenToPlace : {S X Y : Type 0} {k : ℕ} {g : _} → Cursor S k g → Form Y → Result X Stop → (X → Y) →
    Cursor S k g → Type 0
TokenToPlace old form result view new = Goes old form (at_token old) result view (at_place new) new

-- from a place to a token in hand
abbrev pub PlaceToToken : {S X Y : Type 0} {k : ℕ} {g : _} → Cursor S k g → Form Y → Result X Stop → (X → Y) →
    Cursor S k g → Type 0
PlaceToToken old form result view new = Goes old form (at_place old) result view (at_token new) new

-- from a token in hand to another
abbrev pub TokenToToken : {S X Y : Type 0} {k : ℕ} {g : _} → Cursor S k g → Form Y → Result X Stop → (X → Y) →
    Cursor S k g → Type 0
TokenToToken old form result view new = Goes old form (at_token old) result view (at_token new) new

-- The same of a form that cannot stop.
abbrev pub Finds : {S X : Type 0} {k : ℕ} {g : _} → Cursor S k g → Form X → X → Cursor S k g → Type 0
Finds old form x new = Leads old form (at_token old) x (at_token new) new

-- A turn gives this, and leads to another token. Where more may follow, it goes on.
pub record Turned {S A : Type 0} {k : ℕ} {g : _} (old : Cursor S k g) (form : Form (Step A)) (more : Bool) (a : A)
    (new : Cursor S k g) : Type 0 where
  pub read : reads old form (at_token old) ≡ Ok (step_if more a, at_token new)
  pub onward : Onward (start_of old) (start_of new) more
  pub same : Keeps old new

-- The same of a turn, which answers whether more may follow,
abbrev pub Turns : {S A : Type 0} {k : ℕ} {g : _} → Cursor S k g → Form (Step A) → Result Bool Stop → A → Cursor S k g →
    Type 0
Turns old form (Ok more) a new = Turned old form more a new
Turns old form (Err e) a new = Fails (limits_of old) e (reads old form (at_token old)) × Keeps old new

-- or of one that surely goes on.
abbrev pub Adds : {S A : Type 0} {k : ℕ} {g : _} → Cursor S k g → Form (Step A) → Result (Unit {0}) Stop → A →
    Cursor S k g → Type 0
Adds old form (Ok x) a new = Turned old form true a new
Adds old form (Err e) a new = Fails (limits_of old) e (reads old form (at_token old)) × Keeps old new

-- What is left to be read from a state on gives what all gives.
pub record Rests {S X : Type 0} {k : ℕ} {g : _} (old : Cursor S k g) (form : Form X) (s : State) (rest : Form X)
    (t : State) (new : Cursor S k g) : Type 0 where
  pub read : reads old rest t ≡ reads old form s
  pub onward : s.at ≤ t.at
  pub same : Keeps old new

-- a line of a text ends at q: after its newline, or at the end, where it has none or is a delimiter's
abbrev pub Ended : List ℕ → ℕ → Bool → Type 0
Ended T q true = (raw_stands T (q - 1) newline_char ≡ true) ⊎ (at_end T q ≡ true)
Ended T q false = at_end T q ≡ true

-- what was told of a line, in the definitions
abbrev pub view_told : ParsedLine → (Row AnEntry × Bool) × State
view_told told = ((map view_entry told.entries.items, told.newline), standing told.len)

-- ---- what is read into

-- what one of the bodies that wait says of all of them
abbrev pub BodiesFail : Limits → Stop → Result (Row Span × ℕ) Fault → Type 0
BodiesFail bound Memory all = bound.memory ≡ true
BodiesFail bound (Wrong f) all = (all ≡ Err f) × (f.at ≤ bound.furthest)

-- One document's body was read: what all bodies give is what is given after it. Or it stops all of them.
abbrev pub BodyRead : Limits → Result (Unit {0}) Stop → Result (Row Span × ℕ) Fault → Result (Row Span × ℕ) Fault →
    Type 0
BodyRead bound (Ok x) all rest = all ≡ rest
BodyRead bound (Err e) all rest = BodiesFail bound e all

-- without a tree, lines that held no comment hold none after more was read into them
abbrev pub GrowsNone : ℕ → Join → Join → Type 0
GrowsNone k old new = (k == 1) ≡ false → (view_join old).comments ≡ [] → (view_join new).comments ≡ []

-- a command that asks for a box; without a tree none is made
abbrev pub is_compound : ACommand → Bool
is_compound (compound c) = true
is_compound _ = false

abbrev pub Boxed : ℕ → Command → Type 0
Boxed k command = is_compound (view_command command) ≡ true → (k == 1) ≡ true
