-- Each edit of a script has a window, and only one.
use Rattle.std.proofs.Common.{◌≡◌, ℕ, ◌≤◌, List, List as Row, length}
use Rattle.shgrammar.specs.declared.edition.Edition.{Edition}
use Rattle.shtext.specs.Edit.{ASplice, AreInRange, Rise, edited, first_begin, last_end, new_end}
use Rattle.shwindow.proofs.SomeWindow.{some_window}
use Rattle.shwindow.proofs.Splices.{splices_apart}
use Rattle.shwindow.proofs.Windows.{window_only, window_order}
use Rattle.shheld.specs.TopLines.{HasWindow, IsTopLine}
use Rattle.shheld.proofs.LastLine.{some_line}
use Rattle.shheld.proofs.TopLines.{top_lines}

module _ (edition : Edition) (bytes : List ℕ) (ss : Row ASplice) where
  -- the window of the edit is from w up to t
  abbrev Has : ℕ → ℕ → Type 0
  Has w t = HasWindow edition bytes ss w t

  -- there is one
  pub some : (w t : ℕ) × Has w t
  some =
      some_window (IsTopLine edition) (top_lines edition) (some_line edition)
      bytes (edited bytes ss) (first_begin ss) (new_end ss) (last_end ss)

  -- and no other
  pub only : (w v t u : ℕ) → Has w t → Has v u → (w ≡ v) × (t ≡ u)
  only w v t u x y =
      window_only (IsTopLine edition)
      bytes (edited bytes ss) (first_begin ss) (new_end ss) (last_end ss) w v t u x y

  -- it begins where the first splice does or before that, and lies in the new text
  pub order : (w t : ℕ) → AreInRange (length bytes) ss → Rise ss → Has w t
      → (w ≤ first_begin ss) × (w ≤ t) × (t ≤ length (edited bytes ss))
  order w t range rising x =
      let apart = splices_apart bytes ss range rising in
      let ends =
      window_order (IsTopLine edition) (top_lines edition)
      bytes (edited bytes ss) (first_begin ss) (new_end ss) (last_end ss) apart w t x
      in
      (x.begins.low, ends.0, ends.1)
