-- The lines of a script, read one after the other.
use Rattle.std.specs.Prelude.{◌≡◌, ◌≤◌, ◌<◌, ℕ, ◌+◌, ◌-◌, Vec, Bool, true, false, ◌&&◌, List, List as Row, None, Option, Some, Result, Ok, Err, drop, length, map, not, slice_get}
use Rattle.std.specs.Global.{Global}
use Rattle.shgrammar.specs.declared.edition.Edition.{Edition}
use Rattle.shgrammar.specs.declared.keep.Keep.TheVariants.{Outer}
use Rattle.shline.specs.declared.stop.Stop.{Stop}
use Rattle.shline.specs.declared.stop.Stop.TheVariants.{Memory, Wrong}
use Rattle.shline.specs.declared.parsed_line.ParsedLine.{ParsedLine}
use Rattle.shline.specs.Clauses.{Onward, view_told}
use Rattle.shpass.specs.declared.script_lines.LinesBefore.{LinesBefore}
use Rattle.shpass.specs.declared.script_lines.ScriptLines.{ScriptLines}
use Rattle.shast.specs.declared.tree.Entry.{Entry}
use Rattle.shast.specs.Nodes.{NodesWithin}
use Rattle.shast.specs.Tree.{AnEntry, entries_of}
use Rattle.shast.specs.View.{view_entry}
use Rattle.shgrammar.specs.Characters.{newline_char}
use Rattle.shgrammar.specs.Commands.{is_empty}
use Rattle.shgrammar.specs.Form.{Read, Spelled, may}
use Rattle.shgrammar.specs.Scripts.{AScript, Lines, LinesSoFar, is_blank_line, line_from, the_line, with_line}
use Rattle.shgrammar.specs.Search.{StopsAt}
use Rattle.shgrammar.specs.Sights.{State, given, standing}
use Rattle.shgrammar.specs.Standing.{raw_stands}

-- what the grammar reads of the line at p, after lines that gave this
abbrev pub LineReads : Edition → List ℕ → LinesSoFar → ℕ → Read (Row AnEntry × Bool) → Type 0
LineReads edition B so p x = (k : Row Spelled)
    × may (the_line (is_blank_line so)) (given edition (drop p B) p) (standing 0) x k

-- The same, but that the trees in command substitutions are left out. A fault is that of the line with them.
abbrev pub OuterReads : Edition → List ℕ → LinesSoFar → ℕ → Read (Row AnEntry × Bool) → Type 0
OuterReads edition B so p (Ok x) = line_from edition B Outer (is_blank_line so) p ≡ Ok x
OuterReads edition B so p (Err f) = LineReads edition B so p (Err f)

-- What was told of a line, or its fault, is what is read of it so. Where memory ran out nothing is said.
abbrev pub IsReadBy : (Read (Row AnEntry × Bool) → Type 0) → Result ParsedLine Stop → Type 0
IsReadBy reads (Ok told) = reads (Ok (view_told told))
IsReadBy reads (Err (Wrong f)) = reads (Err f)
IsReadBy reads (Err Memory) = Unit {0}

-- no node of a line's entries names an offset above this one, nor does its fault
abbrev pub LineWithin : ℕ → Result ParsedLine Stop → Type 0
LineWithin limit (Ok told) = NodesWithin limit (entries_of (map view_entry told.entries.items))
LineWithin limit (Err (Wrong f)) = f.at ≤ limit
LineWithin limit (Err Memory) = Unit {0}

-- the script of lines that gave this and of the lines from p on
abbrev pub Rest : Edition → List ℕ → LinesSoFar → ℕ → AScript → Type 0
Rest edition B so p s = (k : Row Spelled) × Lines edition B so p s k

-- no line stands before
abbrev pub no_lines : LinesBefore
no_lines = record { gap = false; begun = false }

-- whether the first entry after them is blank
abbrev pub is_blank_after : LinesBefore → Bool
is_blank_after before = before.gap && before.begun

-- the lines before gave this
abbrev pub Before : LinesBefore → LinesSoFar → Type 0
Before before so = (before.gap ≡ so.gap) × (before.begun ≡ not (is_empty so.entries))

module _ {S : Type 0} where
  -- the bytes of the script, where its source tells them
  abbrev pub bytes_of : (S → List ℕ) → ScriptLines S → List ℕ
  bytes_of bytes lines = bytes lines.source.now

  -- by which it is read
  abbrev pub edition_of : ScriptLines S → Edition
  edition_of lines = lines.edition

  -- where the next line begins
  abbrev pub place_of : ScriptLines S → ℕ
  place_of lines = lines.at

  -- what the lines so far leave
  abbrev pub before_of : ScriptLines S → LinesBefore
  before_of lines = lines.before

  -- the next line is the first
  pub record AtStart (lines : ScriptLines S) : Type 0 where
    pub at : lines.at ≡ 0
    pub gap : lines.before.gap ≡ false
    pub begun : lines.before.begun ≡ false

  -- the lines so far gave this
  abbrev pub Stands : ScriptLines S → LinesSoFar → Type 0
  Stands lines so = Before lines.before so

  -- the script stays, and by which edition and with whose memory it is read
  pub record SameScript (old new : ScriptLines S) : Type 0 where
    pub source : new.source ≡ old.source
    pub edition : new.edition ≡ old.edition
    pub alloc : new.alloc ≡ old.alloc

  -- The reading goes to just past a line that was told, and what the lines gave has its entries too.
  pub record GoesPast (old : ScriptLines S) (told : ParsedLine) (new : ScriptLines S) : Type 0 where
    pub same : SameScript old new
    pub at : new.at ≡ old.at + told.len
    pub stands : (so : LinesSoFar) → Stands old so → Stands new (with_line so (map view_entry told.entries.items))

  -- It goes past the line at its place: further on where a newline ended it, and never past the end.
  pub record GoesOn (bytes : S → List ℕ) (old : ScriptLines S) (told : ParsedLine) (new : ScriptLines S) : Type 0 where
    pub past : GoesPast old told new
    pub onward : Onward old.at new.at told.newline
    pub within : new.at ≤ length (bytes_of bytes old)

  -- At a fault nothing moves, nor where memory ran out.
  abbrev pub MovesOn : (S → List ℕ) → ScriptLines S → Result ParsedLine Stop → ScriptLines S → Type 0
  MovesOn bytes old (Ok told) new = GoesOn bytes old told new
  MovesOn bytes old (Err e) new = new ≡ old

  -- A line with these entries, but for the trees in command substitutions, after lines that gave this, from
  -- `old` to `new`. A newline ended it and is its last byte.
  pub record IsWholeLine (B : List ℕ) (so : LinesSoFar) (old : ScriptLines S) (es : Vec Entry Global)
      (new : ScriptLines S) : Type 0 where
    pub state : State
    pub at : new.at ≡ old.at + state.at
    pub reads : OuterReads old.edition B so old.at (Ok ((map view_entry es.items, true), state))
    pub some : 0 < state.at
    pub newline : raw_stands (drop old.at B) (state.at - 1) newline_char ≡ true
    pub stands : Stands new (with_line so (map view_entry es.items))

  -- It goes past such a line.
  pub record GoesPastWhole (bytes : S → List ℕ) (old : ScriptLines S) (es : Vec Entry Global) (new : ScriptLines S)
      : Type 0 where
    pub same : SameScript old new
    pub onward : old.at < new.at
    pub within : new.at ≤ length (bytes_of bytes old)
    pub newline : slice_get (bytes_of bytes old) (new.at - 1) ≡ Some newline_char
    pub whole : (so : LinesSoFar) → Stands old so → IsWholeLine (bytes_of bytes old) so old es new

  -- Where there is none nothing moves, nor where memory ran out.
  abbrev pub PassesWhole : {E : Type 0} → (S → List ℕ) → ScriptLines S → Result (Option (Vec Entry Global)) E →
      ScriptLines S → Type 0
  PassesWhole bytes old (Ok (Some es)) new = GoesPastWhole bytes old es new
  PassesWhole bytes old (Ok None) new = (new ≡ old) × StopsAt old.edition (bytes_of bytes old) old.at
  PassesWhole bytes old (Err e) new = new ≡ old

-- One more line is read, by these rules. No node of its entries names an offset above the script's length,
-- nor does a fault.
pub record ReadsLine {S : Type 0} (reads : Edition → List ℕ → LinesSoFar → ℕ → Read (Row AnEntry × Bool) → Type 0)
    (bytes : S → List ℕ)
    (old : ScriptLines S) (result : Result ParsedLine Stop) (new : ScriptLines S) : Type 0 where
  pub line : (so : LinesSoFar) → Stands old so → IsReadBy (reads old.edition (bytes_of bytes old) so old.at) result
  pub moves : MovesOn bytes old result new
  pub within : LineWithin (length (bytes_of bytes old)) result
