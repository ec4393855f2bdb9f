-- What is printed of a script that is read in pieces.
use Rattle.std.specs.Prelude.{◌≡◌, ◌≤◌, ℕ, ◌++◌, List, [], length, Some}
use Rattle.shpass.specs.declared.script_lines.LinesBefore.{LinesBefore}
use Rattle.shpass.specs.LineByLine.{Before, Rest}
use Rattle.shgrammar.specs.declared.edition.Edition.{Edition}
use Rattle.shgrammar.specs.Moved.{moved_fault}
use Rattle.shgrammar.specs.Scripts.{AScript, FirstFault, Outcome, LinesSoFar}
use Rattle.shast.specs.Shape.{shape_of}
use Rattle.shast.specs.Tree.{entries_of}
use Rattle.shline.specs.declared.stop.Stop.{Stop}
use Rattle.shline.specs.declared.stop.Stop.TheVariants.{Wrong}
use Rattle.shline.specs.declared.stop.Stop.TheVariants as the_stops
use Rattle.shpieces.specs.declared.by_line.PrintError.{PrintError}
use Rattle.shpieces.specs.declared.by_line.PrintError.TheVariants.{Faulty, Memory}
use Rattle.shprint.specs.declared.layout.Layout.{Layout}
use Rattle.shpieces.specs.declared.by_line.Printing.{Printing}
use Rattle.shprint.specs.Printed.{print_entries}
use Rattle.shprint.specs.Written.{Sheet, sheet, sheet_of, written}

-- why bytes have no printed text: their first fault, or that memory ran out
abbrev pub IsNoText : Edition → List ℕ → PrintError → Type 0
IsNoText edition bytes (Faulty fault) = FirstFault edition bytes (Some fault) × (fault.at ≤ length bytes)
IsNoText edition bytes Memory = Unit {0}

-- The front of a script is lines without a fault, which leave this for the next one to know, and this is
-- printed for them. Whatever follows it, the script is that of these lines and of what is read after them.
pub record ArePrinted (edition : Edition) (y : Layout) (front : List ℕ) (left : LinesBefore)
    (so_far : Sheet) : Type 0 where
  pub so : LinesSoFar
  pub left_so : Before left so
  pub from : (more : List ℕ) (s : AScript) → Rest edition (front ++ more) so (length front) s →
      Outcome edition (front ++ more) s
  pub is : (more : List ℕ) → so_far
      ≡ written (sheet_of [] []) (print_entries y [] (shape_of (front ++ more) (entries_of so.entries)))

-- by which the script is read
abbrev pub edition_of : Printing → Edition
edition_of printing = printing.edition

abbrev pub IsPrinted : Edition → Layout → List ℕ → Printing → Type 0
IsPrinted edition y front printing =
    ArePrinted edition y front printing.before (sheet printing.page) × (printing.page.margin.items ≡ [])
    × (printing.layout ≡ y) × (printing.edition ≡ edition)

-- why nothing is printed, of what stopped the reading
abbrev pub error_of : Stop → PrintError
error_of (Wrong f) = Faulty f
error_of the_stops.Memory = Memory

-- an error of what follows so many bytes
abbrev pub moved_error : ℕ → PrintError → PrintError
moved_error n (Faulty f) = Faulty (moved_fault n f)
moved_error n Memory = Memory

-- its offset is within so many bytes
abbrev pub IsErrorWithin : ℕ → PrintError → Type 0
IsErrorWithin n (Faulty f) = f.at ≤ n
IsErrorWithin n Memory = Unit {0}
