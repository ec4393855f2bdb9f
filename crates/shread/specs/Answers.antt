-- What the answers of a reader are in the definitions, and its meter.
use Rattle.std.specs.Prelude.{◌≡◌, ℕ, ◌+◌, ◌-◌, ◌<◌, ◌≤◌, Bool, true, false, List, None, Some, Result, Ok, Err, length}
use Rattle.shline.specs.declared.stop.Stop.{Stop}
use Rattle.shline.specs.declared.stop.Stop.TheVariants.{Memory, Wrong}
use Rattle.shline.specs.declared.parsed_line.ParsedLine.{ParsedLine}
use Rattle.shline.specs.Limits.{wants_memory}
use Rattle.shread.specs.declared.reader.Reader.{Reader}
use Rattle.shread.specs.declared.reader.Line as the_line
use Rattle.shread.specs.declared.reader.LineKind as the_kind
use Rattle.shread.specs.declared.reader.LineKind.TheVariants as kinds
use Rattle.shgrammar.specs.declared.edition.Edition.{Edition}
use Rattle.shast.specs.View.{view_list}
use Rattle.shgrammar.specs.Lines.{ALine, AKind, blank_line, entries_line, end_line, faulty_line}
use Rattle.shgrammar.specs.Scripts.{first_fault_from}

abbrev pub view_kind : the_kind.LineKind → AKind
view_kind kinds.Blank = blank_line
view_kind (kinds.Entries list) = entries_line (view_list list)
view_kind kinds.End = end_line
view_kind (kinds.Faulty fault) = faulty_line fault

-- a line that begins at the offset `at`
abbrev pub view_line : ℕ → the_line.Line → ALine
view_line at line = record { kind = view_kind line.kind; next = line.next - at; ended = line.ended }

-- by which it reads
abbrev pub edition_of : Reader → Edition
edition_of reader = reader.edition

abbrev pub meter_of : Reader → ℕ
meter_of reader = reader.meter

-- No fault stands in the line from p to q: the first one from p on is that from q on. Where no newline ended
-- the line, there is none.
abbrev pub NoFaultBefore : Edition → List ℕ → ℕ → ℕ → Bool → Type 0
NoFaultBefore edition bytes p q true = (first_fault_from edition bytes p ≡ first_fault_from edition bytes q) × (p < q)
    × (q ≤ length bytes)
NoFaultBefore edition bytes p q false = first_fault_from edition bytes p ≡ None

-- What was told of the line at an offset is true of the first fault from there on. Memory ran out only where
-- a reading that keeps nothing may want some.
abbrev pub Tells : Edition → List ℕ → ℕ → Result ParsedLine Stop → Type 0
Tells edition bytes at (Ok told) = NoFaultBefore edition bytes at (at + told.len) told.newline
Tells edition bytes at (Err (Wrong fault)) = (first_fault_from edition bytes at ≡ Some fault)
    × (fault.at ≤ length bytes)
Tells edition bytes at (Err Memory) = wants_memory 0 bytes ≡ true
