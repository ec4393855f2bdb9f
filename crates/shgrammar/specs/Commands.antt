-- Simple commands, and what joins commands to an entry of a list (XCU 2.9.1, 2.9.2, 2.9.3, 2.10.2).
use Rattle.std.specs.Prelude.{◌&&◌, ◌||◌, not, Bool, true, false, [], ◌∷◌, ℕ, List as Row, Option, None, Some, is_some, codes}
use Rattle.shgrammar.specs.declared.fault.FaultKind.{FaultKind}
use Rattle.shgrammar.specs.declared.fault.FaultKind.TheVariants.{Unexpected, UnexpectedEnd, BadFunctionName, BadHereWord, UnclosedHere}
use Rattle.shgrammar.specs.declared.token.Next.{Next}
use Rattle.shgrammar.specs.declared.token.Opener.{Opener}
use Rattle.shgrammar.specs.declared.token.Opener.TheVariants as openers
use Rattle.shgrammar.specs.declared.token.Position.TheVariants.{Command, Prefix, Suffix}
use Rattle.shgrammar.specs.declared.token.Position.{Position}
use Rattle.shgrammar.specs.declared.token.Reserved.TheVariants as reserved
use Rattle.shgrammar.specs.declared.token.Separator.{Separator}
use Rattle.shgrammar.specs.declared.token.Separator.TheVariants.{Semicolon, Ampersand}
use Rattle.shgrammar.specs.declared.token.Token.{Token}
use Rattle.shgrammar.specs.declared.token.Token.TheVariants as tokens
use Rattle.shast.specs.declared.tree.AndOrOperator.{AndOrOperator}
use Rattle.shast.specs.declared.tree.AndOrOperator.TheVariants.{And, Or}
use Rattle.shast.specs.declared.tree.RedirectOperator.{RedirectOperator}
use Rattle.shast.specs.declared.tree.RedirectOperator.TheVariants as redirects
use Rattle.shast.specs.declared.tree.Span.{Span}
use Rattle.shast.specs.Tree.{AHere, AJoin, AnItem, AnItemContent, AWord, AnEntry, ACommand, APipeline, APipelinePart, AnAndOr, AnAndOrPart, item, assign, argument, redirect, items_of, simple, with_redirects, pipeline, pipeline_parts_of, and_or, and_or_parts_of, entry, command}
use Rattle.shast.specs.Nodes.{word_span}
use Rattle.shast.specs.Spelling.{and_or_text, redirect_text}
use Rattle.shgrammar.specs.Sights.{Waiting, here, the_token, the_comment, is_a_name, a_document_waits, the_delimiter, blanks, one_byte, a_comment_on, the_digits}
use Rattle.shgrammar.specs.HereDocuments.{ADelimiter, waits, bodies_here}
use Rattle.shgrammar.specs.Form.{Form, give, see, move, push, stop, Telling, untold, bared, by, token, many, change, with_bytes, Spelled, ◌>>=◌, ◌>>◌, Step, again, done, step_if}
use Rattle.shgrammar.specs.Tokens.{is_end}
use Rattle.shgrammar.specs.Words.{Inner, a_word}

abbrev pub is_empty : {A : Type 0} → Row A → Bool
is_empty [] = true
is_empty (x ∷ xs) = false

-- On to the next token, which stands in this position of a command. Each token is told
-- once, where it begins, and handed on.
unfoldable pub next_token : Position → Form Next
next_token position = see (the_token position) >>= λ n. move blanks >> give n

-- one form, or the other
abbrev pub pick : {X : Type 0} → Bool → Form X → Form X → Form X
pick true r q = r
pick false r q = q

-- ---- which row a token begins

abbrev pub is_newline_token : Token → Bool
is_newline_token tokens.Newline = true
is_newline_token _ = false

abbrev pub is_pipe : Token → Bool
is_pipe tokens.Pipe = true
is_pipe _ = false

abbrev pub is_semicolon : Token → Bool
is_semicolon tokens.Semicolon = true
is_semicolon _ = false

abbrev pub is_paren : Token → Bool
is_paren tokens.OpenParen = true
is_paren _ = false

abbrev pub is_word : Token → Bool
is_word tokens.Word = true
is_word _ = false

abbrev pub is_double_semicolon : Token → Bool
is_double_semicolon tokens.DoubleSemicolon = true
is_double_semicolon _ = false

-- it ends an item of a `case`, and the next one is run too
abbrev pub falls_through : Token → Bool
falls_through tokens.SemicolonAmpersand = true
falls_through _ = false

-- it ends an item of a `case`
abbrev pub ends_item : Token → Bool
ends_item t = is_double_semicolon t || falls_through t

abbrev pub is_bang : Token → Bool
is_bang (tokens.Reserved reserved.Bang) = true
is_bang _ = false

-- The position after the word that this token begins, if it begins one: an assignment, or a word, which in a
-- simple command is its name or an argument. After a word none is an assignment.
abbrev pub after_word : Token → Option Position
after_word tokens.Assignment = Some Prefix
after_word tokens.Word = Some Suffix
after_word _ = None

abbrev pub begins_word : Token → Bool
begins_word t = is_some (after_word t)

abbrev pub is_number_token : Token → Bool
is_number_token tokens.Number = true
is_number_token _ = false

abbrev pub redirect_operator_of : Token → Option RedirectOperator
redirect_operator_of (tokens.Redirect o) = Some o
redirect_operator_of _ = None

-- a redirection begins with its number, or with its operator
abbrev pub begins_redirect : Token → Bool
begins_redirect t = is_number_token t || is_some (redirect_operator_of t)

abbrev pub begins_simple : Token → Bool
begins_simple t = begins_word t || begins_redirect t

-- the compound command that a token opens
abbrev pub opener_of : Token → Option Opener
opener_of (tokens.Reserved reserved.OpenBrace) = Some openers.Brace
opener_of tokens.OpenParen = Some openers.Paren
opener_of (tokens.Reserved reserved.If) = Some openers.If
opener_of (tokens.Reserved reserved.While) = Some openers.While
opener_of (tokens.Reserved reserved.Until) = Some openers.Until
opener_of (tokens.Reserved reserved.For) = Some openers.For
opener_of (tokens.Reserved reserved.Case) = Some openers.Case
opener_of _ = None

abbrev pub begins_pipeline : Token → Bool
begins_pipeline t = begins_simple t || is_bang t || is_some (opener_of t)

abbrev pub and_or_operator_of : Token → Option AndOrOperator
and_or_operator_of tokens.AndIf = Some And
and_or_operator_of tokens.OrIf = Some Or
and_or_operator_of _ = None

-- ---- comments, and what is unexpected

-- the comment that was seen here is passed, and the token after it told; where none was seen the token stays
abbrev pub comment_by : Next → Option Span → Form (Option Span × Next)
comment_by n (Some c) = move a_comment_on >> next_token Command >>= λ m. give (Some c, m)
comment_by n None = give (None, n)

-- the comment here, where one stands (XCU 2.3, rule 9), and the token after it
unfoldable pub a_comment : Next → Form (Option Span × Next)
a_comment n = see the_comment >>= comment_by n

-- what is wrong with a token at p that begins no word: at the end a here-document may wait
abbrev pub wrong_with : Bool → ℕ → Option ℕ → FaultKind × ℕ
wrong_with true p (Some b) = (UnclosedHere, b)
wrong_with true p None = (UnexpectedEnd, p)
wrong_with false p w = (Unexpected, p)

-- What is wrong where no row takes this token. A word is read whole first, so a fault inside
-- it comes first; a comment goes with the token after it.
unfoldable pub what_is_wrong : Inner → Next → Form (FaultKind × ℕ)
what_is_wrong inner n =
    pick (begins_word n.token)
    (see here >>= λ p. a_word inner >> give (Unexpected, p))
    (a_comment n >>= λ c. see here >>= λ p. see a_document_waits >>= λ w. give (wrong_with (is_end c.1.token) p w))

-- where no row takes this token the reading stops, with what is wrong
abbrev pub unexpected : {X : Type 0} → Inner → Next → Form X
unexpected inner n = what_is_wrong inner n >>= λ w. stop w.0 w.1

-- ---- items

-- the items so far, the position in which the token after them stands, and that token
pub record ItemsSoFar : Type 0 where
  pub items : Row AnItem
  pub position : Position
  pub next : Next

abbrev pub items_so_far : Row AnItem → Position → Next → ItemsSoFar
items_so_far is position n = record { items = is; position = position; next = n }

-- a continuation stands before an item that is not the first
abbrev pub breaks : ItemsSoFar → Bool
breaks i = not (is_empty i.items) && i.next.broken

-- what a word is, by the position after it
abbrev pub as_item : Position → AWord → AnItemContent
as_item Prefix w = assign w
as_item _ w = argument w

-- one more item that is a word, and the token after it
unfoldable pub an_item : Inner → ItemsSoFar → Position → Form (Step ItemsSoFar)
an_item inner i position =
    a_word inner >>= λ w.
    push i.items (item (breaks i) (as_item position w)) >>= λ is.
    next_token position >>= λ n.
    give (again (items_so_far is position n))

-- ---- redirections (XCU 2.7)

-- the number before an operator, where the token is one, and the token after it
unfoldable pub a_number : Next → Form (Option Span × Next)
a_number n = pick (is_number_token n.token)
    (token bared (move the_digits) >>= λ x. next_token Suffix >>= λ m. give (Some x.1, m)) (give (None, n))

-- a here-document belongs to it
abbrev pub takes_here : RedirectOperator → Bool
takes_here redirects.Here = true
takes_here redirects.HereStripped = true
takes_here _ = false

-- it takes tabs off the lines of its here-document, and has three bytes
abbrev pub is_strip : RedirectOperator → Bool
is_strip redirects.HereStripped = true
is_strip _ = false

-- it has two bytes, or more
abbrev pub is_long : RedirectOperator → Bool
is_long redirects.Input = false
is_long redirects.Output = false
is_long _ = true

-- its one, two or three bytes, with their span
unfoldable pub an_operator : RedirectOperator → Form (Unit {0} × Span)
an_operator o = token (by (redirect_text o))
    (move one_byte >> pick (is_long o) (move one_byte) (give tt) >> pick (is_strip o) (move one_byte) (give tt))

-- what no operator follows is no redirection: the token at p is unexpected
abbrev pub operator_by : ℕ → Option RedirectOperator → Form (RedirectOperator × Span)
operator_by p (Some o) = an_operator o >>= λ x. give (o, x.1)
operator_by p None = stop Unexpected p

-- the word of a redirection, and its bytes as they stand
unfoldable pub a_target : Inner → Form (AWord × Spelled)
a_target inner = next_token Suffix >>= λ n. pick (is_word n.token) (with_bytes (a_word inner)) (unexpected inner n)

-- ---- here-documents (XCU 2.7.4)

-- what waits for the next newline token, of an operator at b
abbrev pub document : ℕ → Bool → ADelimiter → Waiting
document b strip d = record { operator = b; delimiter = d.text; literal = d.literal; strip = strip }

-- its body is not known yet
abbrev pub open_document : Bool → ADelimiter → AHere
open_document strip d = record { literal = d.literal; strip = strip; body = record { start = 0; «end» = 0 } }

-- by the delimiter that the word at p is
abbrev pub document_by : ℕ → ℕ → Bool → Option ADelimiter → Form (Option AHere)
document_by b p strip (Some d) = change (waits (document b strip d)) >> give (Some (open_document strip d))
document_by b p strip None = stop BadHereWord p

-- the here-document of an operator at b, if it takes one, whose word is at p and has these bytes
unfoldable pub a_document : RedirectOperator → ℕ → ℕ → Spelled → Form (Option AHere)
a_document o b p bytes = pick (takes_here o) (see (the_delimiter bytes) >>= document_by b p (is_strip o)) (give None)

-- the redirection that begins here, as one more of these items, and the token after
-- it, which stands in this position
unfoldable pub one_redirect : Inner → Bool → Position → Row AnItem → Next → Form (Step ItemsSoFar)
one_redirect inner broken position is n =
    see here >>= λ p.
    a_number n >>= λ d.
    operator_by p (redirect_operator_of d.1.token) >>= λ o.
    a_target inner >>= λ w.
    a_document o.0 o.1.start (word_span w.0).start w.1 >>= λ h.
    push is (item broken (redirect d.0 o.0 o.1 w.0 h)) >>= λ more.
    next_token position >>= λ m.
    give (again (items_so_far more position m))

-- After a redirection no word is reserved. One may be an assignment, if the command's
-- name does not stand before it.
abbrev pub after_redirect : Position → Position
after_redirect Suffix = Suffix
after_redirect _ = Prefix

-- ---- simple commands (XCU 2.9.1)

-- one more item, by the position after the word that begins here; where no word does, a redirection or none
abbrev pub item_by : Inner → ItemsSoFar → Option Position → Form (Step ItemsSoFar)
item_by inner i (Some position) = an_item inner i position
item_by inner i None = pick (begins_redirect i.next.token)
    (one_redirect inner (breaks i) (after_redirect i.position) i.items i.next) (give (done i))

-- one more item, or none
unfoldable pub item_turn : Inner → ItemsSoFar → Form (Step ItemsSoFar)
item_turn inner i = item_by inner i (after_word i.next.token)

-- The simple command that has these items so far, and the token after it. It is not
-- empty: where it has none yet, the token here begins one.
unfoldable pub a_simple : Inner → ItemsSoFar → Form (ACommand × Next)
a_simple inner so = many (item_turn inner) so >>= λ i. give (simple (items_of i.items), i.next)

-- ---- newlines and `;`

-- a newline with the bodies that follow it, where the token is one, and the token after it
unfoldable pub a_newline : Next → Form (Bool × Next)
a_newline n = pick (is_newline_token n.token)
    (move one_byte >> change bodies_here >> next_token Command >>= λ m. give (true, m)) (give (false, n))

-- a `;`, where the token is one, and the token after it
unfoldable pub a_semicolon : Next → Form (Bool × Next)
a_semicolon n = pick (is_semicolon n.token) (move one_byte >> next_token Command >>= λ m. give (true, m))
    (give (false, n))

-- no here-document waits where its level ends (XCU 2.7.4)
abbrev pub none_waits : Option ℕ → Form (Unit {0})
none_waits (Some b) = stop UnclosedHere b
none_waits None = give tt

-- where a document waits here, its operator is the fault; else nothing is read
unfoldable pub nothing_waits : Form (Unit {0})
nothing_waits = see a_document_waits >>= none_waits

-- ---- joins: what stands around an operator that joins two operands (XCU 2.9.2, 2.9.3)

-- the join so far, and the token after it
pub record JoinSoFar : Type 0 where
  pub join : AJoin
  pub next : Next

abbrev pub join_so_far : AJoin → Next → JoinSoFar
join_so_far j n = record { join = j; next = n }

abbrev pub a_join_of : Bool → Row Span → AJoin
a_join_of broken cs = record { broken = broken; comments = cs }

-- these comments, with one more after them where there is one
abbrev pub with_comment : Row Span → Option Span → Form (Row Span)
with_comment cs (Some c) = push cs c
with_comment cs None = give cs

-- One more comment and newline after the operator, or none of them. Both break the
-- join: a comment ends its line.
unfoldable pub join_turn : JoinSoFar → Form (Step JoinSoFar)
join_turn j =
    a_comment j.next >>= λ c.
    with_comment j.join.comments c.0 >>= λ cs.
    a_newline c.1 >>= λ l.
    give (step_if l.0 (join_so_far (a_join_of ((j.join.broken || is_some c.0) || l.0) cs) l.1))

-- From just after an operator to the token with which the operand begins. A continuation
-- on either side breaks the join.
unfoldable pub a_join : Bool → Form (AJoin × Next)
a_join broken = next_token Command >>= λ n.
    many join_turn (join_so_far (a_join_of (broken || n.broken) []) n) >>= λ j.
    give (j.join, j.next)

-- ---- commands of any kind, with the redirections after compound ones (XCU 2.9)

-- one more redirection after a compound command, or none; the first one may be broken too
unfoldable pub redirect_turn : Inner → ItemsSoFar → Form (Step ItemsSoFar)
redirect_turn inner r = pick (begins_redirect r.next.token) (one_redirect inner r.next.broken Command r.items r.next)
    (give (done r))

-- a compound command with the redirections after it, and the token after them
unfoldable pub with_redirect_list : Inner → ACommand × Next → Form (ACommand × Next)
with_redirect_list inner c = many (redirect_turn inner) (items_so_far [] Command c.1) >>= λ r.
    give (with_redirects c.0 (items_of r.items), r.next)

-- While its redirections are read, a compound command is not open any more.
abbrev pub compound_by : Inner → Next → Option Opener → Form (ACommand × Next)
compound_by inner n (Some o) = inner.compound o >>= with_redirect_list inner
compound_by inner n None = unexpected inner n

-- A word that `(` follows is the name of a function, and has to be a NAME (XCU 2.10.2, rule 8).
abbrev pub named_function : Inner → Bool → Span → Form (ACommand × Next)
named_function inner good name = pick good (inner.function name) (stop BadFunctionName name.start)

-- the command that begins with the word here: a function, or a simple command
unfoldable pub a_word_command : Inner → Form (ACommand × Next)
a_word_command inner =
    see is_a_name >>= λ good.
    a_word inner >>= λ w.
    next_token Suffix >>= λ n.
    pick (is_paren n.token) (named_function inner good (word_span w))
    (push [] (item false (argument w)) >>= λ is. a_simple inner (items_so_far is Suffix n))

-- the command that the token here begins, and the token after it
unfoldable pub a_command : Inner → Next → Form (ACommand × Next)
a_command inner n =
    pick (is_word n.token) (a_word_command inner)
    (pick (begins_simple n.token) (a_simple inner (items_so_far [] Command n))
    (compound_by inner n (opener_of n.token)))

-- ---- pipelines (XCU 2.9.2)

-- the `!` of a pipeline, where the token is one, and the token after it
unfoldable pub a_bang : Next → Form (Option Span × Next)
a_bang n = pick (is_bang n.token)
    (token (by (codes "!")) (move one_byte) >>= λ x. next_token Command >>= λ m. give (Some x.1, m)) (give (None, n))

-- the commands after the first so far, and the token after them
pub record PipesSoFar : Type 0 where
  pub parts : Row APipelinePart
  pub next : Next

abbrev pub pipes_so_far : Row APipelinePart → Next → PipesSoFar
pipes_so_far ps n = record { parts = ps; next = n }

-- one more command, after a `|`
unfoldable pub one_command : Inner → PipesSoFar → Form (Step PipesSoFar)
one_command inner p =
    token (by (codes "|")) (move one_byte) >> a_join p.next.broken >>= λ j.
    a_command inner j.1 >>= λ c.
    push p.parts (record { join = j.0; command = c.0 }) >>= λ ps.
    give (again (pipes_so_far ps c.1))

-- one more, or none
unfoldable pub pipe_turn : Inner → PipesSoFar → Form (Step PipesSoFar)
pipe_turn inner p = pick (is_pipe p.next.token) (one_command inner p) (give (done p))

-- a `!` or none, a command, and each one after a `|`; and the token after them
unfoldable pub a_pipeline : Inner → Next → Form (APipeline × Next)
a_pipeline inner n =
    a_bang n >>= λ b.
    a_command inner b.1 >>= λ c.
    many (pipe_turn inner) (pipes_so_far [] c.1) >>= λ p.
    give (pipeline b.0 c.0 (pipeline_parts_of p.parts), p.next)

-- ---- and-or lists (XCU 2.9.3)

-- the pipelines after the first so far, and the token after them
pub record AndOrSoFar : Type 0 where
  pub parts : Row AnAndOrPart
  pub next : Next

abbrev pub and_or_so_far : Row AnAndOrPart → Next → AndOrSoFar
and_or_so_far ps n = record { parts = ps; next = n }

-- one more pipeline, after this operator
unfoldable pub one_pipeline : Inner → AndOrSoFar → AndOrOperator → Form (Step AndOrSoFar)
one_pipeline inner a o =
    token (by (and_or_text o)) (move one_byte >> move one_byte) >> a_join a.next.broken >>= λ j.
    a_pipeline inner j.1 >>= λ p.
    push a.parts (record { operator = o; join = j.0; pipeline = p.0 }) >>= λ ps. give (again (and_or_so_far ps p.1))

-- one more pipeline, by the operator that stands here; where none does, no more
abbrev pub joined_by : Inner → AndOrSoFar → Option AndOrOperator → Form (Step AndOrSoFar)
joined_by inner a (Some o) = one_pipeline inner a o
joined_by inner a None = give (done a)

-- one more, or none
unfoldable pub and_or_turn : Inner → AndOrSoFar → Form (Step AndOrSoFar)
and_or_turn inner a = joined_by inner a (and_or_operator_of a.next.token)

-- a pipeline, and each one after `&&` or `||`; and the token after them
unfoldable pub an_and_or : Inner → Next → Form (AnAndOr × Next)
an_and_or inner n = a_pipeline inner n >>= λ p.
    many (and_or_turn inner) (and_or_so_far [] p.1) >>= λ a.
    give (and_or p.0 (and_or_parts_of a.parts), a.next)

-- ---- entries of a list (XCU 2.9.3)

-- the separator that this token is, if it is one
abbrev pub separator_of : Token → Option Separator
separator_of tokens.Semicolon = Some Semicolon
separator_of tokens.Ampersand = Some Ampersand
separator_of _ = None

-- a tree does not tell a `;`
abbrev pub told_separator : Separator → Telling
told_separator Semicolon = untold
told_separator Ampersand = by (codes "&")

-- a separator, and the offset after it
abbrev pub ASeparator : Type 0
ASeparator = Separator × ℕ

-- the separator that this token is, with the offset after it, or none; and the token after it
abbrev pub separator_by : Next → Option Separator → Form (Option ASeparator × Next)
separator_by n (Some s) = token (told_separator s) (move one_byte) >>= λ x.
    next_token Command >>= λ m.
    give (Some (s, x.1.«end»), m)
separator_by n None = give (None, n)

-- `;` or `&`, where the token is one of them, and the token after it
unfoldable pub a_separator : Next → Form (Option ASeparator × Next)
a_separator n = separator_by n (separator_of n.token)

-- `&` puts an and-or list in the background (XCU 2.9.3)
abbrev pub is_background : Option ASeparator → Bool
is_background None = false
is_background (Some (Semicolon, p)) = false
is_background (Some (Ampersand, p)) = true

-- the offset after it
abbrev pub past_separator : Option ASeparator → Option ℕ
past_separator None = None
past_separator (Some (s, p)) = Some p

-- an entry, the offset after its separator, where another may follow on its line, and the token after it
pub record Entered : Type 0 where
  pub entry : AnEntry
  pub parted : Option ℕ
  pub next : Next

-- the command that the token here begins, with what parts it from the next one, and
-- the comment after it on its line
unfoldable pub an_entry : Inner → Bool → Next → Form Entered
an_entry inner blank n =
    an_and_or inner n >>= λ a.
    a_separator a.1 >>= λ s.
    a_comment s.1 >>= λ c.
    give (record { entry = entry (command a.0) (is_background s.0) blank c.0; parted = past_separator s.0; next = c.1 })
