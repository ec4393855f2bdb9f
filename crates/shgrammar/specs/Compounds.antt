-- Compound commands: groups, `if`, loops, `for` and `case`; and functions, whose
-- bodies they are (XCU 2.9.4, 2.9.5, 2.10.2).
use Rattle.std.specs.Prelude.{ℕ, Bool, true, false, not, ◌&&◌, ◌||◌, [], ◌∷◌, codes, List as Row, None, unwrap_or}
use Rattle.shgrammar.specs.declared.fault.FaultKind.TheVariants.{BadForName}
use Rattle.shgrammar.specs.declared.token.Closing.{Closing}
use Rattle.shgrammar.specs.declared.token.Closing.TheVariants as closings
use Rattle.shgrammar.specs.declared.token.Next.{Next}
use Rattle.shgrammar.specs.declared.token.Opener.{Opener}
use Rattle.shgrammar.specs.declared.token.Opener.TheVariants as openers
use Rattle.shgrammar.specs.declared.token.Position.{Position}
use Rattle.shgrammar.specs.declared.token.Position.TheVariants.{Command, Suffix}
use Rattle.shgrammar.specs.declared.token.Reserved.TheVariants as reserved
use Rattle.shgrammar.specs.declared.token.Token.{Token}
use Rattle.shgrammar.specs.declared.token.Token.TheVariants as tokens
use Rattle.shast.specs.declared.tree.Span.{Span}
use Rattle.shast.specs.Nodes.{through, commands_end}
use Rattle.shast.specs.Tree.{Entries, entry, remark, more_entries, ACommand, simple, compound, function, formed, AForm, brace, subshell, if_then, while_do, until_do, for_in, AWord, ForWords, no_in, in_words, items_of, ABranch, branch, branches_of, Otherwise, no_else, otherwise, no_item, case_in, ACaseItem, case_item, cases_of, patterns_of, entries_of}
use Rattle.shgrammar.specs.Sights.{here, is_a_name, Move, one_byte, the_reserved}
use Rattle.shgrammar.specs.Form.{Form, Spelled, Telling, untold, give, see, move, push, stop, by, token, many, ◌>>=◌, ◌>>◌, Step, again, done}
use Rattle.shgrammar.specs.Words.{Inner, a_word}
use Rattle.shgrammar.specs.Commands.{next_token, pick, begins_word, opener_of, compound_by, unexpected, a_semicolon, JoinSoFar, join_so_far, a_join_of, join_turn, ItemsSoFar, items_so_far, an_item, is_word, is_pipe, is_paren, ends_item, falls_through}
use Rattle.shgrammar.specs.Lists.{a_list, Listed, ListSoFar, list_so_far, none_listed, list_turn}

-- ---- what opens, parts and closes the lists of a compound command

abbrev pub is_closing : Closing → Token → Bool
is_closing closings.Brace (tokens.Reserved reserved.CloseBrace) = true
is_closing closings.Paren tokens.CloseParen = true
is_closing closings.Then (tokens.Reserved reserved.Then) = true
is_closing closings.Elif (tokens.Reserved reserved.Elif) = true
is_closing closings.Else (tokens.Reserved reserved.Else) = true
is_closing closings.Fi (tokens.Reserved reserved.Fi) = true
is_closing closings.Do (tokens.Reserved reserved.Do) = true
is_closing closings.Done (tokens.Reserved reserved.Done) = true
is_closing closings.In (tokens.Reserved reserved.In) = true
is_closing closings.Esac (tokens.Reserved reserved.Esac) = true
is_closing _ _ = false

abbrev pub opener_text : Opener → Spelled
opener_text openers.Brace = codes "{"
opener_text openers.Paren = codes "("
opener_text openers.If = codes "if"
opener_text openers.While = codes "while"
opener_text openers.Until = codes "until"
opener_text openers.For = codes "for"
opener_text openers.Case = codes "case"

abbrev pub closing_text : Closing → Spelled
closing_text closings.Brace = codes "}"
closing_text closings.Paren = codes ")"
closing_text closings.Then = codes "then"
closing_text closings.Elif = codes "elif"
closing_text closings.Else = codes "else"
closing_text closings.Fi = codes "fi"
closing_text closings.Do = codes "do"
closing_text closings.Done = codes "done"
closing_text closings.In = codes "in"
closing_text closings.Esac = codes "esac"

-- all others are reserved words
abbrev pub is_open_paren : Opener → Bool
is_open_paren openers.Paren = true
is_open_paren _ = false

abbrev pub is_close_paren : Closing → Bool
is_close_paren closings.Paren = true
is_close_paren _ = false

abbrev pub past_opener : Bool → Move
past_opener true = one_byte
past_opener false = the_reserved

-- After `for` and `case` stands a word, reserved or not (XCU 2.10.2). After all others a command may begin.
abbrev pub position_after : Opener → Position
position_after openers.For = Suffix
position_after openers.Case = Suffix
position_after _ = Command

-- the round bracket or the reserved word here, told by this text, and the token after
-- it, which stands in this position
unfoldable pub reserved_or_paren : Spelled → Bool → Position → Form (Span × Next)
reserved_or_paren text paren position = token (by text) (move (past_opener paren)) >>= λ x.
    next_token position >>= λ n.
    give (x.1, n)

-- what has to stand here, and the token after it
unfoldable pub closing : Inner → Closing → Next → Form (Span × Next)
closing inner c n = pick (is_closing c n.token) (reserved_or_paren (closing_text c) (is_close_paren c) Command)
    (unexpected inner n)

-- ---- compound commands, from just after their openers

-- what was read, its closer, and the token after it
pub record Closed (X : Type 0) : Type 0 where
  pub what : X
  pub closer : Span
  pub next : Next

abbrev pub closed : {X : Type 0} → X → Span × Next → Closed X
closed x c = record { what = x; closer = c.0; next = c.1 }

-- the list of a group, and what closes it (XCU 2.9.4.1)
unfoldable pub a_group : Inner → Closing → Next → Form (Closed Entries)
a_group inner what n = a_list inner n >>= λ l. closing inner what l.1 >>= λ c. give (closed l.0 c)

-- a condition, `then` and what it runs (XCU 2.9.4.4)
unfoldable pub a_branch : Inner → Next → Form (ABranch × Next)
a_branch inner n = a_list inner n >>= λ c.
    closing inner closings.Then c.1 >>= λ t.
    a_list inner t.1 >>= λ b.
    give (branch c.0 b.0, b.1)

-- the branches after the first so far, and the token after them
pub record BranchesSoFar : Type 0 where
  pub branches : Row ABranch
  pub next : Next

abbrev pub branches_so_far : Row ABranch → Next → BranchesSoFar
branches_so_far bs n = record { branches = bs; next = n }

-- one more branch after an `elif`, or none
unfoldable pub elif_turn : Inner → BranchesSoFar → Form (Step BranchesSoFar)
elif_turn inner b =
    pick (is_closing closings.Elif b.next.token)
    (reserved_or_paren (closing_text closings.Elif) false Command >>= λ k. a_branch inner k.1 >>= λ x.
    push b.branches x.0 >>= λ bs. give (again (branches_so_far bs x.1)))
    (give (done b))

-- `else` and what it runs, or nothing (XCU 2.9.4.4)
unfoldable pub an_else : Inner → Next → Form (Otherwise × Next)
an_else inner n = pick (is_closing closings.Else n.token)
    (reserved_or_paren (closing_text closings.Else) false Command >>= λ k. a_list inner k.1 >>= λ l.
    give (otherwise l.0, l.1)) (give (no_else, n))

-- a condition and what it runs, each `elif` with its own, `else`, `fi` (XCU 2.9.4.4)
unfoldable pub an_if : Inner → Next → Form (Closed AForm)
an_if inner n =
    a_branch inner n >>= λ f.
    many (elif_turn inner) (branches_so_far [] f.1) >>= λ b.
    an_else inner b.next >>= λ e.
    closing inner closings.Fi e.1 >>= λ c.
    give (closed (if_then f.0 (branches_of b.branches) e.0) c)

-- a condition, and what is run by it between `do` and `done` (XCU 2.9.4.5, 2.9.4.6)
unfoldable pub a_loop : Inner → Next → Form (Closed ABranch)
a_loop inner n =
    a_list inner n >>= λ c.
    closing inner closings.Do c.1 >>= λ d.
    a_list inner d.1 >>= λ b.
    closing inner closings.Done b.1 >>= λ e.
    give (closed (branch c.0 b.0) e)

-- ---- `for` (XCU 2.9.4.2)

-- the word after `for`, which has to be a NAME (XCU 2.10.2, rule 5), and the token after it
unfoldable pub a_for_name : Inner → Next → Form (AWord × Next)
a_for_name inner n =
    pick (begins_word n.token)
    (see here >>= λ p. see is_a_name >>= λ good. a_word inner >>= λ w.
    pick good (next_token Command >>= λ m. give (w, m)) (stop BadForName p))
    (unexpected inner n)

-- comments and newlines, after these comments, and the token after them
unfoldable pub a_linebreak : Row Span → Next → Form JoinSoFar
a_linebreak cs n = many join_turn (join_so_far (a_join_of false cs) n)

-- `;` or a newline, with newlines and comments after it
unfoldable pub a_sequential_sep : Inner → Row Span → Next → Form JoinSoFar
a_sequential_sep inner cs n =
    a_semicolon n >>= λ s. a_linebreak cs s.1 >>= λ l. pick (s.0 || l.join.broken) (give l) (unexpected inner l.next)

-- what stands between the name of a for and its `do`: words, comments, and the token after them
pub record Headed : Type 0 where
  pub words : ForWords
  pub comments : Row Span
  pub next : Next

abbrev pub headed : ForWords → JoinSoFar → Headed
headed ws l = record { words = ws; comments = l.join.comments; next = l.next }

-- one more word after `in`, or none; a redirection is none
unfoldable pub word_turn : Inner → ItemsSoFar → Form (Step ItemsSoFar)
word_turn inner i = pick (is_word i.next.token) (an_item inner i Suffix) (give (done i))

-- `in`, words, and what ends them; none of the words is reserved
unfoldable pub for_words : Inner → Row Span → Form Headed
for_words inner cs =
    reserved_or_paren (closing_text closings.In) false Suffix >>= λ i.
    many (word_turn inner) (items_so_far [] Suffix i.1) >>= λ ws.
    a_sequential_sep inner cs ws.next >>= λ l.
    give (headed (in_words (items_of ws.items)) l)

-- `in` may stand after newlines (XCU 2.10.2, rule 6), and not after `;`
abbrev pub begins_words : Bool → Token → Bool
begins_words semicolon t = not semicolon && is_closing closings.In t

-- What stands between the name and `do`. Its `;` is that of a `sequential_sep` too: after it no `in` may
-- stand (XCU 2.9.4.2, 2.10.2).
unfoldable pub a_for_head : Inner → Next → Form Headed
a_for_head inner n =
    a_semicolon n >>= λ s.
    a_linebreak [] s.1 >>= λ l.
    pick (begins_words s.0 l.next.token) (for_words inner l.join.comments) (give (headed no_in l))

-- comments before a list, as its first entries
abbrev pub after_remarks : Row Span → Entries → Entries
after_remarks [] es = es
after_remarks (c ∷ cs) es = more_entries (entry (remark c) false false None) (after_remarks cs es)

-- the comments of the head stand in the body
unfoldable pub a_for : Inner → Next → Form (Closed AForm)
a_for inner n =
    a_for_name inner n >>= λ x.
    a_for_head inner x.1 >>= λ h.
    closing inner closings.Do h.next >>= λ d.
    a_group inner closings.Done d.1 >>= λ b.
    give (closed (for_in x.0 h.words (after_remarks h.comments b.what)) (b.closer, b.next))

-- ---- `case` (XCU 2.9.4.3)

-- the word after `case`, and the token after it
unfoldable pub a_case_word : Inner → Next → Form (AWord × Next)
a_case_word inner n = pick (begins_word n.token) (a_word inner >>= λ w. next_token Command >>= λ m. give (w, m))
    (unexpected inner n)

-- The first pattern of an item is any word but `esac` (XCU 2.10.2, rule 4). The others are any words.
abbrev pub begins_pattern : Token → Bool
begins_pattern (tokens.Reserved reserved.Esac) = false
begins_pattern (tokens.Reserved r) = true
begins_pattern t = begins_word t

-- the patterns so far, and the token after them
pub record PatternsSoFar : Type 0 where
  pub patterns : Row AWord
  pub next : Next

abbrev pub patterns_so_far : Row AWord → Next → PatternsSoFar
patterns_so_far ws n = record { patterns = ws; next = n }

-- the pattern that begins here, after these, and the token after it
unfoldable pub a_pattern : Inner → Row AWord → Form PatternsSoFar
a_pattern inner ws = a_word inner >>= λ w. push ws w >>= λ vs. next_token Suffix >>= λ n. give (patterns_so_far vs n)

-- one more pattern, after a `|`
unfoldable pub one_pattern : Inner → Row AWord → Form (Step PatternsSoFar)
one_pattern inner ws =
    token (by (codes "|")) (move one_byte) >> next_token Suffix >>= λ n.
    pick (begins_word n.token) (a_pattern inner ws >>= λ p. give (again p)) (unexpected inner n)

-- one more, or none
unfoldable pub pattern_turn : Inner → PatternsSoFar → Form (Step PatternsSoFar)
pattern_turn inner p = pick (is_pipe p.next.token) (one_pattern inner p.patterns) (give (done p))

-- the patterns of an item, parted by `|`, the first of which is not `esac` (XCU 2.10.2, rule 4)
unfoldable pub a_pattern_list : Inner → Next → Form PatternsSoFar
a_pattern_list inner n = pick (begins_pattern n.token) (a_pattern inner [] >>= λ p. many (pattern_turn inner) p)
    (unexpected inner n)

-- the `(` before the patterns, where the token is one, and the token after it; a tree does not tell it
unfoldable pub an_open_bracket : Next → Form Next
an_open_bracket n = pick (is_paren n.token) (move one_byte >> next_token Command) (give n)

-- the entries of a body, which may hold no command, and the token after them
unfoldable pub a_body : Inner → Next → Form ListSoFar
a_body inner n = many (list_turn inner) (list_so_far (none_listed false) n)

-- the offset after the last token of a body: a separator, or a command, or what stands before the body
abbrev pub body_end : ℕ → Listed → ℕ
body_end before l = unwrap_or l.parted (commands_end before (entries_of l.entries))

-- where an item ends, the comments after it, and the token after those
pub record ItemEnd : Type 0 where
  pub at : ℕ
  pub comments : Row Span
  pub next : Next

abbrev pub item_end : ℕ → Row Span → Next → ItemEnd
item_end p cs n = record { at = p; comments = cs; next = n }

-- a `;;` is not told, a `;&` is
abbrev pub ender_told : Bool → Telling
ender_told true = by (codes ";&")
ender_told false = untold

-- `;;` here, or `;&`, with newlines and comments after it
unfoldable pub an_ender : Bool → Form ItemEnd
an_ender falling =
    token (ender_told falling) (move one_byte >> move one_byte) >> see here >>= λ p.
    next_token Command >>= λ n.
    a_linebreak [] n >>= λ l.
    give (item_end p l.join.comments l.next)

-- An item ends after its `;;` or `;&`. The last one of a case may have none: then it ends there.
unfoldable pub an_item_end : Inner → ℕ → Next → Form ItemEnd
an_item_end inner there n =
    pick (ends_item n.token) (an_ender (falls_through n.token))
    (pick (is_closing closings.Esac n.token) (give (item_end there [] n)) (unexpected inner n))

-- the items so far, the comments after them, and the token after those
pub record CasesSoFar : Type 0 where
  pub items : Row ACaseItem
  pub comments : Row Span
  pub next : Next

abbrev pub cases_so_far : Row ACaseItem → Row Span → Next → CasesSoFar
cases_so_far is cs n = record { items = is; comments = cs; next = n }

-- one more item, which has the comments before it
unfoldable pub one_case : Inner → CasesSoFar → Form (Step CasesSoFar)
one_case inner c =
    see here >>= λ p.
    an_open_bracket c.next >>= λ n.
    a_pattern_list inner n >>= λ ps.
    closing inner closings.Paren ps.next >>= λ k.
    a_body inner k.1 >>= λ b.
    an_item_end inner (body_end k.0.«end» b.list) b.next >>= λ e.
    push c.items (case_item c.comments (patterns_of ps.patterns) (entries_of b.list.entries)
    (record { mark = record { start = p; «end» = e.at }; falls = falls_through b.next.token })) >>= λ is.
    give (again (cases_so_far is e.comments e.next))

-- one more, or none: `esac` ends them
unfoldable pub case_turn : Inner → CasesSoFar → Form (Step CasesSoFar)
case_turn inner c = pick (is_closing closings.Esac c.next.token) (give (done c)) (one_case inner c)

-- what stands between `case` and its items: the word, comments, and the token after them
unfoldable pub a_case_head : Inner → Next → Form (AWord × Row Span × Next)
a_case_head inner n =
    a_case_word inner n >>= λ w.
    a_linebreak [] w.1 >>= λ l.
    closing inner closings.In l.next >>= λ i.
    a_linebreak l.join.comments i.1 >>= λ h.
    give (w.0, h.join.comments, h.next)

-- the comments of the head stand before the first item, those after the last item before `esac`
unfoldable pub a_case : Inner → Next → Form (Closed AForm)
a_case inner n =
    a_case_head inner n >>= λ h.
    many (case_turn inner) (cases_so_far [] h.1 h.2) >>= λ c.
    closing inner closings.Esac c.next >>= λ e.
    give (closed (case_in h.0 (cases_of c.items) c.comments) e)

-- the compound command of each kind, from just after its opener to its closer (XCU 2.9.4)
abbrev pub a_form : Inner → Opener → Next → Form (Closed AForm)
a_form inner openers.Brace n = a_group inner closings.Brace n >>= λ l. give (closed (brace l.what) (l.closer, l.next))
a_form inner openers.Paren n = a_group inner closings.Paren n >>= λ l.
    give (closed (subshell l.what) (l.closer, l.next))
a_form inner openers.If n = an_if inner n
a_form inner openers.While n = a_loop inner n >>= λ l. give (closed (while_do l.what) (l.closer, l.next))
a_form inner openers.Until n = a_loop inner n >>= λ l. give (closed (until_do l.what) (l.closer, l.next))
a_form inner openers.For n = a_for inner n
a_form inner openers.Case n = a_case inner n

-- ---- a compound command

-- A compound command is held apart from what it stands in, in a row of its own:
-- without a tree that row stays empty.
abbrev pub held_apart : Row ACommand → ACommand
held_apart [] = simple no_item
held_apart (c ∷ cs) = c

-- the compound command that opens here, and the token after it
unfoldable pub a_compound : Inner → Opener → Form (ACommand × Next)
a_compound inner o =
    reserved_or_paren (opener_text o) (is_open_paren o) (position_after o) >>= λ x.
    a_form inner o x.1 >>= λ f.
    push [] (compound (formed f.what (through x.0 f.closer) no_item)) >>= λ cs.
    give (held_apart cs, f.next)

-- ---- functions (XCU 2.9.5)

-- a compound command under a name; one that is not held stays so
abbrev pub under_name : Span → Row Span → ACommand → ACommand
under_name name comments (compound body) = function name comments body
under_name name comments other = other

-- the brackets after a name, newlines and comments, and the body, which is a compound command
unfoldable pub a_function : Inner → Span → Form (ACommand × Next)
a_function inner name =
    reserved_or_paren (opener_text openers.Paren) true Command >>= λ o.
    closing inner closings.Paren o.1 >>= λ c.
    a_linebreak [] c.1 >>= λ l.
    compound_by inner l.next (opener_of l.next.token) >>= λ b.
    give (under_name name l.join.comments b.0, b.1)
