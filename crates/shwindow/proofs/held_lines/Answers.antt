use Rattle.std.proofs.Common.{◌≡◌, ◌+◌, arith, drop, refl, subst, sym}
use Rattle.shwindow.specs.Lines.{IsLineOf, IsRow, extent}
use Rattle.shwindow.proofs.Boundaries.{boundary_stays, line_stays}
use Rattle.shwindow.proofs.Joined.{block_begins}
use Rattle.shwindow.proofs.Rows.{row_extent, row_only}
use Rattle.shwindow.proofs.SomeWindow.{some_window}
use Rattle.shwindow.proofs.Splices.{splices_apart}
use Rattle.shwindow.proofs.Windows.{front_stays, shared_rows, shared_text, window_only, window_order}
use Rattle.shwindow.proofs.held_lines.Goals as goal

pub returns : goal.returns
returns g c = record {
  before = λ line laws B U a e b s apart at low. (
    boundary_stays (IsLineOf line) laws B U a apart.front s at low,
    λ l is ended high. line_stays (IsLineOf line) laws B U a apart.front s l is ended high,
  );
  after = λ line laws B U a e b q apart m. (
    shared_text (IsLineOf line) laws B U a e b apart q m,
    λ hs row. shared_rows (IsLineOf line) laws B U a e b apart q hs m row,
  );
  front = λ line laws B U a e b w apart begins kept h hs row sum ms rows.
      let low = begins.low in
      let here : 0 + extent kept ≡ w = omega (arith, sum) in
      front_stays (IsLineOf line) laws B U a e b apart 0 kept h hs ms row (omega (arith, sum, low))
      (subst (λ x. IsRow (IsLineOf line) (drop x U) ms) (sym here) rows);
  row = λ line laws T. (
    λ hs ks x y. row_only (IsLineOf line) laws T hs ks x y,
    λ hs x. row_extent (IsLineOf line) laws T hs x,
  );
  window = λ line laws B U a e b w v t u x y. window_only (IsLineOf line) B U a e b w v t u x y;
  some = λ line laws B U a e b. some_window (IsLineOf line) laws (λ T. (line T, refl)) B U a e b;
  order = λ line laws B U a e b w t apart x. window_order (IsLineOf line) laws B U a e b apart w t x;
  splices = λ line laws B ss range rising. splices_apart B ss range rising;
  blocks = λ line laws T js k ks some row. block_begins (IsLineOf line) laws T js k ks some row;
}
