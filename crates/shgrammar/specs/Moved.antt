-- A line that stands elsewhere in a script: its tree with each of its spans moved, and what is read there.
use Rattle.std.specs.Prelude.{◌≡◌, ℕ, ◌+◌, Bool, true, false, List, List as Row, map, Ok, Err}
use Rattle.shgrammar.specs.declared.edition.Edition.{Edition}
use Rattle.shgrammar.specs.declared.keep.Keep.TheVariants.{Whole}
use Rattle.shast.specs.Tree.{AnEntry}
use Rattle.shast.specs.Moved.{blanked_row, placed_body, placed_entry}
use Rattle.shgrammar.specs.declared.fault.Fault.{Fault}
use Rattle.shgrammar.specs.Sights.{State, Waiting}
use Rattle.shgrammar.specs.Form.{Read}
use Rattle.shgrammar.specs.Scripts.{line_told}

abbrev pub moved_fault : ℕ → Fault → Fault
moved_fault base f = record { kind = f.kind; at = base + f.at }

abbrev pub moved_waiting : ℕ → Waiting → Waiting
moved_waiting base w = record {
  operator = base + w.operator;
  delimiter = w.delimiter;
  literal = w.literal;
  strip = w.strip;
}

-- the same place of a text that stands elsewhere
abbrev pub moved_state : ℕ → State → State
moved_state base s = record {
  at = s.at;
  waiting = map (moved_waiting base) s.waiting;
  bodies = map (placed_body base) s.bodies;
}

-- ---- a line where it stands, and the same line read as a script of its own

abbrev pub SameBy : Bool → ℕ → Bool → Read (Row AnEntry × Bool) → Read (Row AnEntry × Bool) → Type 0
SameBy deep p blank (Ok ((es, newline), t)) (Ok ((fs, ended), u)) =
    (es ≡ blanked_row blank (map (placed_entry deep p) fs)) × (newline ≡ ended) × (t.at ≡ u.at)
SameBy deep p blank (Err f) (Err h) = f ≡ moved_fault p h
SameBy deep p blank (Ok x) (Err h) = ⊥
SameBy deep p blank (Err f) (Ok x) = ⊥

abbrev pub Same : ℕ → Bool → Read (Row AnEntry × Bool) → Read (Row AnEntry × Bool) → Type 0
Same p blank x y = SameBy true p blank x y

-- a line at p has the entries of the line by itself, moved by p, the first of them blank where that is said
abbrev pub LineMoves : Edition → List ℕ → Type 0
LineMoves edition B = (p : ℕ) (blank : Bool) →
    Same p blank (line_told edition B Whole blank p p) (line_told edition B Whole false p 0)
