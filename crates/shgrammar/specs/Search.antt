-- A search for the first fault, a line at a time.
use Rattle.std.specs.Prelude.{◌≡◌, ℕ, ◌+◌, ◌-◌, ◌<◌, ◌≤◌, List, List as Row, Ok, Option, drop, length, option_map, take, false, true}
use Rattle.shgrammar.specs.Characters.{newline_char}
use Rattle.shgrammar.specs.declared.edition.Edition.{Edition}
use Rattle.shgrammar.specs.declared.keep.Keep.TheVariants.{Nothing}
use Rattle.shgrammar.specs.Moved.{moved_fault}
use Rattle.shast.specs.Tree.{AnEntry}
use Rattle.shgrammar.specs.Scripts.{FirstFault, first_fault_from, line_told}
use Rattle.shgrammar.specs.Sights.{State}
use Rattle.shgrammar.specs.Standing.{raw_stands}
use Rattle.shgrammar.specs.declared.fault.Fault.{Fault}

-- The first n of these bytes may be passed: whatever follows them in a script, its
-- first fault is that after them.
abbrev pub MayPass : Edition → List ℕ → ℕ → Type 0
MayPass edition bytes n = (script : List ℕ) (f : Option Fault) → take n script ≡ take n bytes →
    FirstFault edition (drop n script) f → FirstFault edition script (option_map (moved_fault n) f)

-- the line at an offset has no fault, and a newline ended it and is its last byte, before the offset q
pub record LineBefore (edition : Edition) (bytes : List ℕ) (p q : ℕ) : Type 0 where
  pub entries : Row AnEntry
  pub state : State
  pub told : line_told edition bytes Nothing false p 0 ≡ Ok ((entries, true), state)
  pub end : q ≡ p + state.at
  pub some : 0 < state.at
  pub within : q ≤ length bytes
  pub newline : raw_stands (drop p bytes) (state.at - 1) newline_char ≡ true

-- no such line begins at an offset
abbrev pub StopsAt : Edition → List ℕ → ℕ → Type 0
StopsAt edition bytes p = (q : ℕ) → LineBefore edition bytes p q → ⊥

-- the same as `MayPass`, as it is computed
abbrev pub ArePassed : Edition → List ℕ → ℕ → Type 0
ArePassed edition bytes n = (script : List ℕ) → take n script ≡ take n bytes →
    first_fault_from edition script 0 ≡ first_fault_from edition script n
