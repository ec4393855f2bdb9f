-- The lines of a script (XCU 2.10.2), and a line read as a script of its own.
use Rattle.std.specs.Prelude.{ℕ, ◌-◌, ◌≤◌, Bool, true, false, ◌&&◌, [], ◌∷◌, List, List as Row, drop, length, take, Ok, Err, ◌≡◌}
use Rattle.shgrammar.specs.Characters.{newline_char}
use Rattle.shgrammar.specs.declared.edition.Edition.{Edition}
use Rattle.shgrammar.specs.declared.fault.Fault.{Fault}
use Rattle.shgrammar.specs.declared.token.Next.{Next}
use Rattle.shgrammar.specs.declared.token.Position.TheVariants.{Command}
use Rattle.shgrammar.specs.Standing.{raw_stands}
use Rattle.shast.specs.Bodies.{filled_row}
use Rattle.shast.specs.Everywhere.{SpansWithin, HaveItems}
use Rattle.shast.specs.Nodes.{NodesWithin}
use Rattle.shast.specs.Tree.{AnEntry, Entries, entries_of}
use Rattle.shgrammar.specs.HereDocuments.{bodies_here}
use Rattle.shgrammar.specs.Sights.{one_byte, given, standing, State}
use Rattle.shgrammar.specs.Form.{Form, give, move, change, a_level, ◌>>=◌, ◌>>◌, may, Spelled}
use Rattle.shgrammar.specs.Words.{Inner}
use Rattle.shgrammar.specs.Tokens.{is_end}
use Rattle.shgrammar.specs.Commands.{pick, is_newline_token, next_token, nothing_waits, unexpected}
use Rattle.shgrammar.specs.Lists.{list_so_far, none_listed, on_line}
use Rattle.shgrammar.specs.Levels.{most_open, level}

-- the newline with the bodies that follow it, or the end, after the entries; whether it was a newline
abbrev pub line_end_by : Inner → Bool → Bool → Next → Form Bool
line_end_by inner newline end n =
    pick newline (move one_byte >> change bodies_here >> give true)
    (pick end (nothing_waits >> give false) (unexpected inner n))

-- the same, by the token here: one that is neither is unexpected (XCU 2.10.2)
unfoldable pub end_of_line : Inner → Next → Form Bool
end_of_line inner n = line_end_by inner (is_newline_token n.token) (is_end n.token) n

-- a line, whose first entry may be blank: entries, and a newline or the end
unfoldable pub an_open_line : Inner → Bool → Form (Row AnEntry × Bool)
an_open_line inner blank =
    next_token Command >>= λ n.
    on_line inner (list_so_far (none_listed blank) n) >>= λ l.
    end_of_line inner l.next >>= λ newline.
    give (l.list.entries, newline)

-- the same, with the bodies of its here-documents
unfoldable pub a_line : Inner → Bool → Form (Row AnEntry × Bool)
a_line inner blank = a_level (an_open_line inner blank) >>= λ l. give (filled_row l.1 l.0.0, l.0.1)

-- ---- one line, read as a script of its own

pub data AKind : Type 0 where
  -- no entry, and a newline token
  blank_line : AKind
  entries_line : Entries → AKind
  -- no entry and no newline token
  end_line : AKind
  faulty_line : Fault → AKind

-- what a line is, the place after it, and whether a newline token ended it and is its last byte
pub record ALine : Type 0 where
  pub kind : AKind
  pub next : ℕ
  pub ended : Bool

abbrev pub kind_of : Row AnEntry → Bool → AKind
kind_of [] true = blank_line
kind_of [] false = end_line
kind_of (e ∷ es) newline = entries_line (entries_of (e ∷ es))

-- a newline token ended the line that ends at q, and is its last byte
abbrev pub is_ended : List ℕ → Bool → ℕ → Bool
is_ended T newline q = newline && raw_stands T (q - 1) newline_char

-- the line with which the text begins
pub data IsLine (edition : Edition) (T : List ℕ) : ALine → Type 0 where
  line_read : (es : Row AnEntry) (newline : Bool) (t : State) (k : Row Spelled) →
      may (a_line (level most_open) false) (given edition T 0) (standing 0) (Ok ((es, newline), t)) k
      → IsLine edition T (record { kind = kind_of es newline; next = t.at; ended = is_ended T newline t.at })
  line_stops : (f : Fault) (k : Row Spelled) →
      may (a_line (level most_open) false) (given edition T 0) (standing 0) (Err f) k →
      IsLine edition T (record { kind = faulty_line f; next = length T; ended = false })

-- ---- what a line may look at

-- wherever the bytes T stand, they have this line
abbrev pub SameBytes : Edition → List ℕ → ALine → Type 0
SameBytes edition T line = (other : List ℕ) (q : ℕ) → drop q other ≡ T → IsLine edition (drop q other) line

-- where the bytes of T up to the end of the line stand, they have this line, whatever follows
abbrev pub NoFurther : Edition → List ℕ → ALine → Type 0
NoFurther edition T line = (other : List ℕ) (q : ℕ) → take line.next (drop q other) ≡ take line.next T →
    IsLine edition (drop q other) line

-- no node of a line's entries names an offset above this one
abbrev pub EntryNodesWithin : ℕ → AKind → Type 0
EntryNodesWithin limit (entries_line es) = NodesWithin limit es
EntryNodesWithin limit _ = Unit {0}

-- no span of a line's entries names an offset above this one, and each simple command has an item
abbrev pub EntrySpansWithin : ℕ → AKind → Type 0
EntrySpansWithin limit (entries_line es) = SpansWithin limit es × HaveItems es
EntrySpansWithin limit _ = Unit {0}

-- the fault of a line, where it has one, stands at no offset above this one
abbrev pub FaultWithin : ℕ → AKind → Type 0
FaultWithin limit (faulty_line fault) = fault.at ≤ limit
FaultWithin limit _ = Unit {0}
