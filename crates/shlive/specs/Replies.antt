-- The replies to requests: their texts, the reply to each request, and a fold over what a session holds, the
-- bytes of its script, how it reads and prints them, and its meter.
use Rattle.std.specs.Prelude.{◌≡◌, ◌⊎◌, ℕ, ◌<◌, ◌++◌, [], ◌∷◌, List, List as Row, flat_map, length, Option, None, Some, codes, decimal}
use Rattle.shgrammar.specs.Scripts.{FirstFault}
use Rattle.shgrammar.specs.declared.edition.Edition.{Edition}
use Rattle.shgrammar.specs.declared.fault.Fault.{Fault}
use Rattle.shgrammar.specs.declared.fault.FaultKind.{FaultKind}
use Rattle.shgrammar.specs.declared.fault.FaultKind.TheVariants as faults
use Rattle.shast.specs.Shape.{bare_at}
use Rattle.shast.specs.declared.node.NodeKind.{NodeKind}
use Rattle.shast.specs.declared.node.NodeKind.TheVariants as nodes
use Rattle.shast.specs.declared.node.NodeLine.{NodeLine}
use Rattle.shast.specs.declared.tree.Span.{Span}
use Rattle.shtext.specs.Edit.{ASplice}
use Rattle.shsource.specs.Text.{column_of, line_of}
use Rattle.shlive.specs.Held.{Held, SessionOptions}
use Rattle.shlive.specs.Answers.{HasNodesAt, HasOutline, HasStatus, HasText}
use Rattle.shlive.specs.Edits.{IsNotMade, IsMade}
use Rattle.shlive.specs.Requests.{Request, edit, flawed, outline, at, fault, print, unknown}
use Rattle.shlive.specs.declared.error.LiveError.{LiveError}
use Rattle.shlive.specs.declared.error.LiveError.TheVariants.{Range, TooLarge, Memory, Order}
use Rattle.shlive.specs.declared.parts.Flaw.{Flaw}
use Rattle.shlive.specs.declared.parts.Flaw.TheVariants.{NoPart, NoPayload}

-- ---- texts

abbrev pub kind_text : NodeKind → List ℕ
kind_text nodes.Comment = codes "comment"
kind_text nodes.Word = codes "word"
kind_text nodes.Assign = codes "assign"
kind_text nodes.Redirect = codes "redirect"
kind_text nodes.Subst = codes "subst"
kind_text nodes.Simple = codes "simple"
kind_text nodes.Brace = codes "brace"
kind_text nodes.Subshell = codes "subshell"
kind_text nodes.If = codes "if"
kind_text nodes.While = codes "while"
kind_text nodes.Until = codes "until"
kind_text nodes.For = codes "for"
kind_text nodes.Case = codes "case"
kind_text nodes.Item = codes "item"
kind_text nodes.Function = codes "function"
kind_text nodes.Pipeline = codes "pipeline"
kind_text nodes.AndOr = codes "andor"

-- a name without its continuations, after a blank
abbrev pub name_text : List ℕ → Option Span → List ℕ
name_text bytes None = []
name_text bytes (Some span) = codes " " ++ bare_at bytes span

-- START END KIND, or START END KIND NAME
abbrev pub node_text : List ℕ → NodeLine → List ℕ
node_text bytes n = decimal n.start ++ codes " " ++ decimal n.«end» ++ codes " " ++ kind_text n.kind
    ++ name_text bytes n.name ++ codes "\n"

-- WORD K, and K lines
abbrev pub nodes_text : List ℕ → List ℕ → List NodeLine → List ℕ
nodes_text word bytes lines = word ++ codes " " ++ decimal (length lines) ++ codes "\n"
    ++ flat_map (node_text bytes) lines

abbrev pub number_of_kind : FaultKind → ℕ
number_of_kind faults.UnclosedSingle = 1
number_of_kind faults.UnclosedDouble = 2
number_of_kind faults.UnclosedBackquote = 3
number_of_kind faults.UnclosedParam = 4
number_of_kind faults.UnclosedArith = 5
number_of_kind faults.BadArithClose = 6
number_of_kind faults.UnclosedSubst = 7
number_of_kind faults.LoneBackslash = 8
number_of_kind faults.UnclosedHere = 9
number_of_kind faults.BadHereWord = 10
number_of_kind faults.Unexpected = 11
number_of_kind faults.UnexpectedEnd = 12
number_of_kind faults.BadForName = 13
number_of_kind faults.BadFunctionName = 14
number_of_kind faults.TooDeep = 15
number_of_kind faults.UnclosedDollarSingle = 16

-- fault AT LINE COL NUMBER
abbrev pub fault_text : List ℕ → Option Fault → List ℕ
fault_text bytes None = codes "none\n"
fault_text bytes (Some f) =
    codes "fault " ++ decimal f.at ++ codes " " ++ decimal (line_of bytes f.at) ++ codes " "
    ++ decimal (column_of bytes f.at) ++ codes " "
    ++ decimal (number_of_kind f.kind) ++ codes "\n"

-- text N, and the bytes
abbrev pub printed_text : Option (List ℕ) → List ℕ
printed_text None = codes "none\n"
printed_text (Some text) = codes "text " ++ decimal (length text) ++ codes "\n" ++ text ++ codes "\n"

-- ok LENGTH STATUS
abbrev pub ok_text : ℕ → ℕ → List ℕ
ok_text len status = codes "ok " ++ decimal len ++ codes " " ++ decimal status ++ codes "\n"

abbrev pub refusal_text : LiveError → List ℕ
refusal_text Range = codes "no range\n"
refusal_text TooLarge = codes "no room\n"
refusal_text Memory = codes "no memory\n"
refusal_text Order = codes "no order\n"

abbrev pub flaw_text : Flaw → List ℕ
flaw_text NoPart = codes "no part\n"
flaw_text NoPayload = codes "no payload\n"

-- ---- replies

-- memory ran out for what the request asks for
abbrev pub IsNoMemory : List ℕ → Type 0
IsNoMemory reply = reply ≡ codes "no memory\n"

-- the reply to an edit, and what is held after it
abbrev pub IsEditReply : Held → Row ASplice → List ℕ → Held → Type 0
IsEditReply before ss reply after =
    (IsMade before ss after × ((status : ℕ) × HasStatus after.how.edition after.bytes status
    × (reply ≡ ok_text (length after.bytes) status)))
    ⊎ ((error : LiveError) × IsNotMade before ss error after × (reply ≡ refusal_text error))

-- the reply tells the outline
abbrev pub TellsOutline : Edition → List ℕ → List ℕ → Type 0
TellsOutline edition bytes reply =
    (lines : List NodeLine) × HasOutline edition bytes lines × (reply ≡ nodes_text (codes "outline") bytes lines)

-- the reply tells the nodes that hold the byte at an offset
abbrev pub TellsNodesAt : Edition → List ℕ → ℕ → List ℕ → Type 0
TellsNodesAt edition bytes p reply =
    (lines : List NodeLine) × HasNodesAt edition bytes p lines × (reply ≡ nodes_text (codes "at") bytes lines)

-- The reply to a request on the bytes of a script. Memory may run out where a tree or a text is made.
abbrev pub IsReply : SessionOptions → List ℕ → Request → List ℕ → Type 0
IsReply how bytes (edit ss) reply = ⊥
IsReply how bytes (flawed flaw) reply = reply ≡ flaw_text flaw
IsReply how bytes outline reply = TellsOutline how.edition bytes reply ⊎ IsNoMemory reply
IsReply how bytes (at p) reply =
    TellsNodesAt how.edition bytes p reply ⊎ ((p < length bytes) × IsNoMemory reply)
IsReply how bytes fault reply = (first : Option Fault) × FirstFault how.edition bytes first
    × (reply ≡ fault_text bytes first)
IsReply how bytes print reply =
    ((text : Option (List ℕ)) × HasText how bytes text × (reply ≡ printed_text text)) ⊎
    (FirstFault how.edition bytes None × IsNoMemory reply)
IsReply how bytes unknown reply = reply ≡ codes "no request\n"

-- a request, its reply, and what is held after it: an edit alone changes it
abbrev pub ReplyStep : Held → Request → List ℕ → Held → Type 0
ReplyStep before (edit ss) reply after = IsEditReply before ss reply after
ReplyStep before request reply after = IsReply before.how before.bytes request reply × (after ≡ before)

-- requests to a session, the replies to them, and what is held after them
pub data Replies (before : Held) : List Request → List ℕ → Held → Type 0 where
  none_yet : Replies before [] [] before
  one_more : {requests : List Request} {replies : List ℕ} {mid : Held}
      (request : Request) (reply : List ℕ) (after : Held)
      → Replies before requests replies mid → ReplyStep mid request reply after
      → Replies before (requests ++ request ∷ []) (replies ++ reply) after
