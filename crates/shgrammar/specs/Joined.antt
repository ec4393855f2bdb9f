-- The script of a row of lines, each read as a script of its own.
use Rattle.std.specs.Prelude.{◌≡◌, ℕ, ◌+◌, Bool, true, false, ◌&&◌, List, List as Row, [], ◌∷◌, drop, length, None, Some}
use Rattle.shgrammar.specs.declared.edition.Edition.{Edition}
use Rattle.shast.specs.Tree.{Entries, no_entry, more_entries}
use Rattle.shast.specs.Moved.{appended, blanked_entry, moved}
use Rattle.shgrammar.specs.Lines.{ALine, AKind, blank_line, entries_line, end_line, faulty_line, IsLine}
use Rattle.shgrammar.specs.Moved.{moved_fault}
use Rattle.shgrammar.specs.Scripts.{AScript}

-- the first entry is blank, or it is not
abbrev pub blanked : Bool → Entries → Entries
blanked blank no_entry = no_entry
blanked blank (more_entries e es) = more_entries (blanked_entry blank e) es

abbrev pub has_entry : Entries → Bool
has_entry no_entry = false
has_entry (more_entries e es) = true

-- One line that begins at the base, after entries; the gap tells that a blank line is
-- after the last of them.
abbrev pub line_joined_by : (Entries → Bool → AScript) → AKind → Entries → Bool → ℕ → AScript
line_joined_by rest blank_line es gap base = rest es true
line_joined_by rest (entries_line xs) es gap base =
    rest (appended es (blanked (gap && has_entry es) (moved base xs))) false
line_joined_by rest end_line es gap base = record { entries = es; fault = None }
line_joined_by rest (faulty_line f) es gap base = record { entries = es; fault = Some (moved_fault base f) }

-- the lines from the base on, after these entries
abbrev pub lines_joined : Row ALine → Entries → Bool → ℕ → AScript
lines_joined [] es gap base = record { entries = es; fault = None }
lines_joined (l ∷ ls) es gap base = line_joined_by (λ es gap. lines_joined ls es gap (base + l.next)) l.kind es gap base

-- The lines of B from p on: ended ones, and one that is not ended, which is the rest.
pub data AreLines (edition : Edition) (B : List ℕ) : ℕ → Row ALine → Type 0 where
  last_of : {p : ℕ} (l : ALine) → IsLine edition (drop p B) l → l.ended ≡ false → l.next ≡ length (drop p B) →
      AreLines edition B p (l ∷ [])
  more_of : {p : ℕ} (l : ALine) (ls : Row ALine) → IsLine edition (drop p B) l → l.ended ≡ true →
      AreLines edition B (p + l.next) ls → AreLines edition B p (l ∷ ls)
