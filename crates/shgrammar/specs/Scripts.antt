-- A script as a whole: its lines, one after the other (XCU 2.10.2).
use Rattle.std.specs.Prelude.{ℕ, zero, suc, ◌+◌, ◌-◌, Bool, true, false, ◌&&◌, not, [], ◌++◌, List, List as Row, drop, length, Option, None, Some, Ok, Err}
use Rattle.shgrammar.specs.declared.edition.Edition.{Edition}
use Rattle.shgrammar.specs.declared.keep.Keep.{Keep}
use Rattle.shgrammar.specs.declared.keep.Keep.TheVariants.{Whole}
use Rattle.shgrammar.specs.declared.script.Script as the_script
use Rattle.shast.specs.View.{view_list}
use Rattle.shgrammar.specs.declared.fault.Fault.{Fault}
use Rattle.shast.specs.Tree.{AnEntry, Entries, entries_of}
use Rattle.shgrammar.specs.Sights.{given, standing, State}
use Rattle.shgrammar.specs.Form.{Form, Read, may, does, Spelled}
use Rattle.shgrammar.specs.Levels.{most_open, level}
use Rattle.shgrammar.specs.Commands.{is_empty}
use Rattle.shgrammar.specs.Lines.{a_line, ALine, kind_of, faulty_line, is_ended}

-- the entries of a script, and its first fault; with a fault the entries of the lines before the faulty one
pub record AScript : Type 0 where
  pub entries : Entries
  pub fault : Option Fault

-- What the lines so far gave. `gap` tells that a line without entries follows the last entry.
pub record LinesSoFar : Type 0 where
  pub entries : Row AnEntry
  pub gap : Bool

-- the first entry of the next line is blank where one stands before it, and at least
-- two newline tokens are between them
abbrev pub is_blank_line : LinesSoFar → Bool
is_blank_line so = so.gap && not (is_empty so.entries)

abbrev pub with_line : LinesSoFar → Row AnEntry → LinesSoFar
with_line so es = record { entries = so.entries ++ es; gap = is_empty es }

-- a line, whose first entry may be blank
abbrev pub the_line : Bool → Form (Row AnEntry × Bool)
the_line blank = a_line (level most_open) blank

-- the lines from p on, and the tokens passed
pub data Lines (edition : Edition) (B : List ℕ) : LinesSoFar → ℕ → AScript → Row Spelled → Type 0 where
  line_ended : {so : LinesSoFar} {p : ℕ} {s : AScript} {l : Row Spelled} (es : Row AnEntry) (t : State)
      (k : Row Spelled)
      → may (the_line (is_blank_line so)) (given edition (drop p B) p) (standing 0) (Ok ((es, true), t)) k →
      Lines edition B (with_line so es) (p + t.at) s l → Lines edition B so p s (k ++ l)
  last_line : {so : LinesSoFar} {p : ℕ} (es : Row AnEntry) (t : State) (k : Row Spelled) →
      may (the_line (is_blank_line so)) (given edition (drop p B) p) (standing 0) (Ok ((es, false), t)) k
      → Lines edition B so p (record { entries = entries_of (so.entries ++ es); fault = None }) k
  faulty : {so : LinesSoFar} {p : ℕ} (f : Fault) (k : Row Spelled) →
      may (the_line (is_blank_line so)) (given edition (drop p B) p) (standing 0) (Err f) k
      → Lines edition B so p (record { entries = entries_of so.entries; fault = Some f }) k

abbrev pub nothing_yet : LinesSoFar
nothing_yet = record { entries = []; gap = false }

-- what is read of the bytes of a script, and the tokens passed
abbrev pub Passes : Edition → List ℕ → AScript → Row Spelled → Type 0
Passes edition B s k = Lines edition B nothing_yet 0 s k

-- what a script is by its bytes: its entries, or those before its first fault, with the fault
abbrev pub Outcome : Edition → List ℕ → AScript → Type 0
Outcome edition B s = (k : Row Spelled) × Passes edition B s k

-- the first fault of a script, or that it has none
abbrev pub FirstFault : Edition → List ℕ → Option Fault → Type 0
FirstFault edition B f = (es : Entries) × Outcome edition B (record { entries = es; fault = f })

-- ---- what is computed

-- the line that begins at p, whose own offsets count from o on; and as it stands in the script
abbrev pub line_told : Edition → List ℕ → Keep → Bool → ℕ → ℕ → Read (Row AnEntry × Bool)
line_told edition B keep blank p o = does (the_line blank) keep (given edition (drop p B) o) (standing 0)

abbrev pub line_from : Edition → List ℕ → Keep → Bool → ℕ → Read (Row AnEntry × Bool)
line_from edition B keep blank p = line_told edition B keep blank p p

abbrev pub script_by : (LinesSoFar → ℕ → AScript) → LinesSoFar → ℕ → Read (Row AnEntry × Bool) → AScript
script_by rest so p (Ok ((es, true), t)) = rest (with_line so es) (p + t.at)
script_by rest so p (Ok ((es, false), t)) = record { entries = entries_of (so.entries ++ es); fault = None }
script_by rest so p (Err f) = record { entries = entries_of so.entries; fault = Some f }

-- with less than n bytes left
unfoldable pub script_below : Edition → List ℕ → ℕ → LinesSoFar → ℕ → AScript
script_below edition B zero so p = record { entries = entries_of so.entries; fault = None }
script_below edition B (suc n) so p =
    script_by (script_below edition B n) so p (line_from edition B Whole (is_blank_line so) p)

-- the lines from p on
unfoldable pub script_on : Edition → List ℕ → LinesSoFar → ℕ → AScript
script_on edition B so p = script_below edition B (suc (length B - p)) so p

unfoldable pub script_at : Edition → List ℕ → AScript
script_at edition B = script_on edition B nothing_yet 0

-- ---- one line read as a script of its own, and the first fault from a place on

abbrev pub as_line : List ℕ → Read (Row AnEntry × Bool) → ALine
as_line T (Ok ((es, newline), t)) = record { kind = kind_of es newline; next = t.at; ended = is_ended T newline t.at }
as_line T (Err f) = record { kind = faulty_line f; next = length T; ended = false }

unfoldable pub line_of_text : Edition → List ℕ → ALine
line_of_text edition T = as_line T (does (the_line false) Whole (given edition T 0) (standing 0))

unfoldable pub first_fault_from : Edition → List ℕ → ℕ → Option Fault
first_fault_from edition B p = (script_on edition B nothing_yet p).fault

-- a script that was read
abbrev pub view_script : the_script.Script → AScript
view_script script = record { entries = view_list script.list; fault = script.fault }
