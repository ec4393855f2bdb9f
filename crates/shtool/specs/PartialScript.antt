-- What is held of a script that is read to its end.
use Rattle.std.specs.Prelude.{◌≡◌, ℕ, ◌+◌, ◌-◌, ◌++◌, ◌<◌, ◌≤◌, List, Option, None, Some, count_by, drop, length, option_map, slice_get, take}
use Rattle.shtool.specs.declared.partial_script.LocatedFault.{LocatedFault}
use Rattle.shtool.specs.declared.partial_script.PartialScript.{PartialScript}
use Rattle.shgrammar.specs.Characters.{newline_char}
use Rattle.shgrammar.specs.declared.edition.Edition.{Edition}
use Rattle.shgrammar.specs.declared.fault.Fault.{Fault}
use Rattle.shgrammar.specs.Moved.{moved_fault}
use Rattle.shgrammar.specs.Scripts.{FirstFault}
use Rattle.shprint.specs.declared.layout.Layout.{Layout}
use Rattle.shpieces.specs.Printing.{IsPrinted}
use Rattle.shtool.specs.declared.printed_part.PrintedPart.{PrintedPart}
use Rattle.shtool.specs.declared.printed_part.Unprinted.{Unprinted}
use Rattle.shtool.specs.declared.printed_part.Unprinted.TheVariants.{Faulty, Memory}
use Rattle.shsource.specs.Text.{column_of, is_newline, line_of, since_newline}

-- how many bytes were read: those passed and those held
abbrev pub bytes_read : PartialScript → ℕ
bytes_read part = part.passed + length part.text.items

-- the bytes that were read: some are passed, up to a newline, and the others held
pub record Held (read : List ℕ) (part : PartialScript) : Type 0 where
  pub low : part.passed ≤ length read
  pub text : part.text.items ≡ drop part.passed read
  pub newlines : part.newlines ≡ count_by is_newline (take part.passed read)
  pub fresh : since_newline (take part.passed read) ≡ 0

-- whatever follows these bytes, by this edition the first fault is that after those passed
pub record Holds (edition : Edition) (read : List ℕ) (part : PartialScript) : Type 0 where
  pub held : Held read part
  pub by : part.edition ≡ edition
  pub after : (more : List ℕ) (f : Option Fault) → FirstFault edition (drop part.passed (read ++ more)) f →
      FirstFault edition (read ++ more) (option_map (moved_fault part.passed) f)

-- those passed are lines that are printed
pub record HoldsPrinted (edition : Edition) (y : Layout) (read : List ℕ) (printed : PrintedPart) : Type 0 where
  pub held : Held read printed.part
  pub is : IsPrinted edition y (take printed.part.passed read) printed.printing

-- so many bytes are at the front of those held, and a newline is the last of them
pub record EndsLine (part : PartialScript) (count : ℕ) : Type 0 where
  pub within : count ≤ length part.text.items
  pub newline : 0 < count → slice_get part.text.items (count - 1) ≡ Some newline_char

-- a fault with its line and its column in these bytes
abbrev pub IsLocatedAt : List ℕ → Fault → LocatedFault → Type 0
IsLocatedAt read fault found = (found.fault ≡ fault) × (found.line ≡ line_of read fault.at)
    × (found.col ≡ column_of read fault.at)

-- the first fault of a script, or that it has none
abbrev pub IsLocated : Edition → List ℕ → Option LocatedFault → Type 0
IsLocated edition read None = FirstFault edition read None
IsLocated edition read (Some found) = FirstFault edition read (Some found.fault) × IsLocatedAt read found.fault found

-- the script has no printed text, and this is why
abbrev pub IsUnprinted : Edition → List ℕ → Unprinted → Type 0
IsUnprinted edition read (Faulty found) = FirstFault edition read (Some found.fault)
    × IsLocatedAt read found.fault found
IsUnprinted edition read Memory = Unit {0}
