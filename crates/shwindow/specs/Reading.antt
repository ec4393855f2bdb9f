-- The reading of a window.
use Rattle.std.specs.Prelude.{ℕ, ◌≤◌, List, [], ◌∷◌, ◌++◌, List as Row, drop, option_to_list, unwrap_or}
use Rattle.shwindow.specs.Blocks.{in_one_row, lines_from}
use Rattle.shwindow.specs.Lines.{IsBoundary, IsRow}
use Rattle.shwindow.specs.Window.{Apart}
use Rattle.shwindow.specs.declared.line.HeldLine.{HeldLine}
use Rattle.shwindow.specs.declared.lines.Lines.{Lines}
use Rattle.shwindow.specs.declared.window.Window.{Window}

-- An edit makes U of B; what stands before a stays. The old lines from w on, which is
-- not after a, are these.
pub record IsBegun {K : Type 0} (Is : List ℕ → HeldLine K → Type 0) (B U : List ℕ) (a e b w : ℕ)
    (hs : Row (HeldLine K)) : Type 0 where
  pub apart : Apart B U a e b
  pub boundary : IsBoundary Is B w
  pub low : w ≤ a
  pub row : IsRow Is (drop w B) hs

-- the lines that were read of a window
abbrev pub read_of : {K : Type 0} → Window K → Row (HeldLine K)
read_of w = in_one_row w.lines.blocks.items ++ option_to_list w.last

-- all lines of the new text from where the window begins
abbrev pub lines_then : {K : Type 0} → Lines K → Window K → Row (HeldLine K)
lines_then old w = in_one_row w.lines.blocks.items
    ++ (lines_from old.blocks.now.blocks.items w.upto ++ unwrap_or w.last old.last.now ∷ [])
