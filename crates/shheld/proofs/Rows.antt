-- The script of a row of lines, its entries and its first fault.
use Rattle.std.proofs.Common.{◌≡◌, ℕ, ◌+◌, Bool, true, false, List, List as Row, [], ◌∷◌, ◌++◌, drop, length, map, sym, ap, subst, refl, ◌∙◌, arith}
use Rattle.std.proofs.lemmas.List.{drop-drop}
use Rattle.shast.specs.Tree.{Entries}
use Rattle.shgrammar.specs.declared.edition.Edition.{Edition}
use Rattle.shgrammar.specs.Joined.{AreLines, lines_joined, line_joined_by, last_of, more_of}
use Rattle.shgrammar.specs.Lines.{AKind, ALine, IsLine, blank_line, entries_line, end_line, faulty_line, line_read, line_stops}
use Rattle.shgrammar.specs.Scripts.{AScript, FirstFault, Outcome}
use Rattle.shgrammar.proofs.Joining.{script_joined}
use Rattle.shwindow.specs.Lines.{IsRow, extent, last_line, more_lines}
use Rattle.shwindow.specs.declared.line.HeldLine.{HeldLine}
use Rattle.shwindow.proofs.Rows.{extent_push, row_ended, row_extent, row_head, row_rest}
use Rattle.shheld.specs.TopLines.{IsTopLine, as_read, script_of}
use Rattle.shheld.specs.Walk.{Walk, entries_with, fault_at, has_none, no_line, with_line, with_lines}
use Rattle.shheld.proofs.TopLines.{top_lines}

-- ---- the script of a row

-- a row of the text from p on is a row of lines as the grammar has them there
lines_by : (edition : Edition) (B : List ℕ) (p : ℕ) (T : List ℕ) (row : Row (HeldLine AKind)) → T ≡ drop p B →
    IsRow (IsTopLine edition) T row → AreLines edition B p (map as_read row)
lines_by edition B p T _ at (last_line {h = h} is not_ended whole) =
    last_of (as_read h) (subst (λ U. IsTopLine edition U h) at is) not_ended (whole ∙ ap length at)
lines_by edition B p T _ at (more_lines {h = h} {hs = hs} is ended row) =
    more_of (as_read h) (map as_read hs) (subst (λ U. IsTopLine edition U h) at is) ended
    (lines_by edition B (p + h.len) (drop h.len T) hs (ap (drop h.len) at ∙ drop-drop h.len p B) row)

-- and so is that of the whole text
pub row_lines : (edition : Edition) (B : List ℕ) (row : Row (HeldLine AKind)) → IsRow (IsTopLine edition) B row →
    AreLines edition B 0 (map as_read row)
row_lines edition B row is = lines_by edition B 0 B row refl is

-- the script of a row is what the grammar gives for the text
pub row_outcome : (edition : Edition) (B : List ℕ) (row : Row (HeldLine AKind)) → IsRow (IsTopLine edition) B row →
    Outcome edition B (script_of row)
row_outcome edition B row is = script_joined edition B (map as_read row) (row_lines edition B row is)

-- ---- its entries

-- after a line that ended, the script goes on
abbrev pub GoesOn : AKind → Type 0
GoesOn blank_line = Unit {0}
GoesOn (entries_line xs) = Unit {0}
GoesOn end_line = ⊥
GoesOn (faulty_line f) = ⊥

-- a line that ended has no fault and is not the end of the text; the same of a held line
kind_on : (edition : Edition) (T : List ℕ) (a : ALine) → IsLine edition T a → a.ended ≡ true → GoesOn a.kind
kind_on edition T a (line_read [] true t k part) ended = tt
kind_on edition T a (line_read [] false t k part) ended = absurd cc
kind_on edition T a (line_read (e ∷ es) newline t k part) ended = tt
kind_on edition T a (line_stops f k part) ended = absurd cc

pub goes_on : (edition : Edition) (T : List ℕ) (l : HeldLine AKind) → IsTopLine edition T l → l.ended ≡ true →
    GoesOn l.kind
goes_on edition T l is ended = kind_on edition T (as_read l) is ended

-- after such a line the script goes on with what a walk has gathered with it
on_by : (k : AKind) → GoesOn k → (rest : Entries → Bool → AScript) (so : Walk) →
    line_joined_by rest k so.entries so.gap so.at ≡ rest (entries_with so k) (has_none k)
on_by blank_line so rest walk = refl
on_by (entries_line xs) so rest walk = refl
on_by end_line so rest walk = absurd so
on_by (faulty_line f) so rest walk = absurd so

-- the script of what a walk has gathered, and of the lines after that
abbrev from_walk : Walk → Row (HeldLine AKind) → AScript
from_walk so row = lines_joined (map as_read row) so.entries so.gap so.at

-- a line that ended is one step of the walk
pub line_on : (edition : Edition) (T : List ℕ) (l : HeldLine AKind) → IsTopLine edition T l → l.ended ≡ true →
    (ls : Row (HeldLine AKind)) (so : Walk) → from_walk so (l ∷ ls) ≡ from_walk (with_line so l) ls
line_on edition T l is ended ls so =
    on_by l.kind (goes_on edition T l is ended) (λ es gap. lines_joined (map as_read ls) es gap (so.at + l.len)) so

-- and so is the last one
pub line_last : (l : HeldLine AKind) (so : Walk) →
    from_walk so (l ∷ []) ≡ record { entries = (with_line so l).entries; fault = fault_at so.at l.kind }
line_last l so = by_kind l.kind
  where
    by_kind : (k : AKind) → line_joined_by (λ es gap. lines_joined [] es gap (so.at + l.len)) k so.entries so.gap so.at
        ≡ record { entries = entries_with so k; fault = fault_at so.at k }
    by_kind blank_line = refl
    by_kind (entries_line xs) = refl
    by_kind end_line = refl
    by_kind (faulty_line f) = refl

-- its entries are what the walk gathers over these lines
entries_from : (edition : Edition) (T : List ℕ) (row : Row (HeldLine AKind)) → IsRow (IsTopLine edition) T row →
    (so : Walk) → (from_walk so row).entries ≡ (with_lines so row).entries
entries_from edition T _ (last_line {h = h} is not_ended whole) so = ap (λ (s : AScript). s.entries) (line_last h so)
entries_from edition T _ (more_lines {h = h} {hs = hs} is ended row) so =
    ap (λ (s : AScript). s.entries) (line_on edition T h is ended hs so)
    ∙ entries_from edition (drop h.len T) hs row (with_line so h)

-- the entries of the script are what a walk over the row gathers
pub row_entries : (edition : Edition) (B : List ℕ) (row : Row (HeldLine AKind)) → IsRow (IsTopLine edition) B row →
    (script_of row).entries ≡ (with_lines no_line row).entries
row_entries edition B row is = entries_from edition B row is no_line

-- ---- its first fault

-- its fault is that of the last line, where that stands
fault_from : (edition : Edition) (T : List ℕ) (ended : Row (HeldLine AKind)) (last : HeldLine AKind) →
    IsRow (IsTopLine edition) T (ended ++ last ∷ []) → (so : Walk)
    → (from_walk so (ended ++ last ∷ [])).fault ≡ fault_at (so.at + extent ended) last.kind
unfolding extent
fault_from edition T [] last row so =
    let here : so.at ≡ so.at + 0 = omega arith in
    ap (λ (s : AScript). s.fault) (line_last last so) ∙ ap (λ n. fault_at n last.kind) here
fault_from edition T (h ∷ hs) last row so =
    let is = row_head (IsTopLine edition) T h (hs ++ last ∷ []) row in
    let ended = row_ended (IsTopLine edition) T h hs last [] row in
    let there : so.at + h.len + extent hs ≡ so.at + (h.len + extent hs) = omega arith in
    ap (λ (s : AScript). s.fault) (line_on edition T h is ended (hs ++ last ∷ []) so)
    ∙ fault_from edition (drop h.len T) hs last (row_rest (IsTopLine edition) T h (hs ++ last ∷ []) row ended)
    (with_line so h)
    ∙ ap (λ n. fault_at n last.kind) there

-- where the last line begins
pub last_at : (edition : Edition) (B : List ℕ) (ended : Row (HeldLine AKind)) (last : HeldLine AKind) →
    IsRow (IsTopLine edition) B (ended ++ last ∷ []) → extent ended + last.len ≡ length B
last_at edition B ended last row = sym (extent_push ended last)
    ∙ row_extent (IsTopLine edition) (top_lines edition) B (ended ++ last ∷ []) row

-- the script of a row has the fault of its last line, or none if that has none
pub row_wrong : (edition : Edition) (B : List ℕ) (ended : Row (HeldLine AKind)) (last : HeldLine AKind) →
    IsRow (IsTopLine edition) B (ended ++ last ∷ []) →
    (script_of (ended ++ last ∷ [])).fault ≡ fault_at (extent ended) last.kind
row_wrong edition B ended last row =
    let here : 0 + extent ended ≡ extent ended = omega arith in
    fault_from edition B ended last row no_line ∙ ap (λ n. fault_at n last.kind) here

-- the first fault is that of the last line, if it has one
pub row_fault : (edition : Edition) (B : List ℕ) (ended : Row (HeldLine AKind)) (last : HeldLine AKind) →
    IsRow (IsTopLine edition) B (ended ++ last ∷ []) → FirstFault edition B (fault_at (extent ended) last.kind)
row_fault edition B ended last row =
    let all = row_outcome edition B (ended ++ last ∷ []) row in (
      (script_of (ended ++ last ∷ [])).entries,
      subst (λ w. Outcome edition B (record { entries = (script_of (ended ++ last ∷ [])).entries; fault = w }))
          (row_wrong edition B ended last row) all,
    )
