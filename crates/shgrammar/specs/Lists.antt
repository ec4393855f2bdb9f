-- Lists: entries on one line or on many (XCU 2.9.3, 2.10.2).
use Rattle.std.specs.Prelude.{ℕ, Bool, true, false, ◌&&◌, not, [], List as Row, Option, None, Some, is_some}
use Rattle.shgrammar.specs.declared.token.Next.{Next}
use Rattle.shast.specs.declared.tree.Span.{Span}
use Rattle.shast.specs.Tree.{AnEntry, Entries, entry, remark, entries_of}
use Rattle.shgrammar.specs.Form.{Form, give, push, many, ◌>>=◌, Step, done, step_if}
use Rattle.shgrammar.specs.Words.{Inner}
use Rattle.shgrammar.specs.Commands.{is_empty, pick, begins_pipeline, a_comment, a_newline, unexpected, an_entry}

-- the entries of a list so far
pub record Listed : Type 0 where
  pub entries : Row AnEntry
  -- the next line's first entry is blank
  pub blank : Bool
  -- one of them stands on this line
  pub begun : Bool
  -- one of them is a command
  pub commands : Bool
  -- the offset after the separator of the last command, where it has one
  pub parted : Option ℕ

-- and the token after them
pub record ListSoFar : Type 0 where
  pub list : Listed
  pub next : Next

abbrev pub list_so_far : Listed → Next → ListSoFar
list_so_far l n = record { list = l; next = n }

-- no entry yet, on a line whose first entry may be blank
abbrev pub none_listed : Bool → Listed
none_listed blank = record { entries = []; blank = blank; begun = false; commands = false; parted = None }

-- an entry that is not the first of its line is not blank
abbrev pub is_blank_next : Listed → Bool
is_blank_next l = l.blank && not l.begun

abbrev pub with_command : Listed → Row AnEntry → Option ℕ → Listed
with_command l es parted = record { entries = es; blank = l.blank; begun = true; commands = true; parted = parted }

abbrev pub with_remark : Listed → Row AnEntry → Listed
with_remark l es = record { entries = es; blank = l.blank; begun = true; commands = l.commands; parted = l.parted }

-- after a newline: a line without entries makes the next entry blank, if one stands before it. So an entry
-- is blank where at least two newline tokens stand between it and the entry before it.
abbrev pub next_line : Listed → Listed
next_line l = record {
  entries = l.entries;
  blank = not l.begun && not (is_empty l.entries);
  begun = false;
  commands = l.commands;
  parted = l.parted;
}

-- one more entry of a line: another may follow there where a separator ends this one (XCU 2.9.3)
unfoldable pub one_entry : Inner → ListSoFar → Form (Step ListSoFar)
one_entry inner l =
    an_entry inner (is_blank_next l.list) l.next >>= λ e.
    push l.list.entries e.entry >>= λ es.
    give (step_if (is_some e.parted) (list_so_far (with_command l.list es e.parted) e.next))

-- one more entry, or that no more follows
unfoldable pub entry_turn : Inner → ListSoFar → Form (Step ListSoFar)
entry_turn inner l = pick (begins_pipeline l.next.token) (one_entry inner l) (give (done l))

-- the comment of a line without entries, or after its last separator, stands for itself
abbrev pub remark_by : ListSoFar → Option Span × Next → Form ListSoFar
remark_by l (Some c, n) = push l.list.entries (entry (remark c) false (is_blank_next l.list) None) >>= λ es.
    give (list_so_far (with_remark l.list es) n)
remark_by l (None, n) = give (list_so_far l.list n)

-- where a comment stands here, it is one more entry, that stands for itself
unfoldable pub a_remark : ListSoFar → Form ListSoFar
a_remark l = a_comment l.next >>= remark_by l

-- the entries and the comment of one line
unfoldable pub on_line : Inner → ListSoFar → Form ListSoFar
on_line inner l = many (entry_turn inner) l >>= a_remark

-- a line of a list, or what stands before that which ends the list
unfoldable pub list_turn : Inner → ListSoFar → Form (Step ListSoFar)
list_turn inner l = on_line inner l >>= λ m.
    a_newline m.next >>= λ x.
    give (step_if x.0 (list_so_far (next_line m.list) x.1))

-- A list that holds a command, and the token after it. It ends where no entry may
-- begin; who reads it asks for what has to follow.
unfoldable pub a_list : Inner → Next → Form (Entries × Next)
a_list inner n =
    many (list_turn inner) (list_so_far (none_listed false) n) >>= λ l.
    pick l.list.commands (give (entries_of l.list.entries, l.next)) (unexpected inner l.next)
