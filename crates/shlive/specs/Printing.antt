-- What is printed of the lines of a script, one after the other.
use Rattle.std.specs.Prelude.{◌≡◌, ℕ, Bool, List, [], drop}
use Rattle.shast.specs.Shape.{shape_of}
use Rattle.shgrammar.specs.declared.edition.Edition.{Edition}
use Rattle.shgrammar.specs.Lines.{AKind}
use Rattle.shheld.specs.TopLines.{IsTopLine}
use Rattle.shheld.specs.Walk.{Walk, with_line}
use Rattle.shprint.specs.Printed.{print_entries}
use Rattle.shprint.specs.Written.{sheet, sheet_of, written}
use Rattle.shprint.specs.declared.layout.Layout.{Layout}
use Rattle.shprint.specs.declared.page.Page.{Page}
use Rattle.shwindow.specs.declared.line.HeldLine.{HeldLine}

-- the entries that a walk over lines of the bytes gathered are on the page, and nothing else
pub record IsOnPage (y : Layout) (bytes : List ℕ) (so : Walk) (page : Page) : Type 0 where
  pub margin : page.margin.items ≡ []
  pub is : sheet page ≡ written (sheet_of [] []) (print_entries y [] (shape_of bytes so.entries))

-- The line at a base was printed, with a gap before it and one after it, or with none: where
-- the lines before it were on the page, those up to it are.
abbrev pub PrintsLine : Edition → Layout → List ℕ → ℕ → HeldLine AKind → Bool → Bool → Page → Page → Type 0
PrintsLine edition y bytes base line gap gap_after before after =
    (so : Walk) → so.gap ≡ gap → so.at ≡ base → IsTopLine edition (drop base bytes) line → IsOnPage y bytes so before
    → (gap_after ≡ (with_line so line).gap) × IsOnPage y bytes (with_line so line) after
