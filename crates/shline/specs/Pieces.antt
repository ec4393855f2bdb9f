-- What a piece of a word says of the bytes from its first one on.
use Rattle.std.specs.Prelude.{◌≡◌, ◌≢◌, ◌⊎◌, ◌+◌, ◌<◌, ◌≤◌, ℕ, List, length, true}
use Rattle.shgrammar.specs.declared.mode.Mode.{Mode}
use Rattle.shgrammar.specs.declared.mode.Mode.TheVariants as modes
use Rattle.shgrammar.specs.declared.mode.Piece.{Piece}
use Rattle.shgrammar.specs.declared.mode.Piece.TheVariants as pieces
use Rattle.shgrammar.specs.Bytes.{past_byte}
use Rattle.shgrammar.specs.Characters.{backslash}
use Rattle.shgrammar.specs.Shows.{IsRead}
use Rattle.shgrammar.specs.Standing.{raw_stands}

-- the piece of a mode, with so many brackets open in arithmetic, whose first byte stands at p
pub record PieceShows (mode : Mode) (nested : ℕ) (piece : Piece) (T : List ℕ) (p : ℕ) : Type 0 where
  pub within : (piece ≢ pieces.Missing) × ((mode ≢ modes.Plain) ⊎ (piece ≢ pieces.Closer)) → p < length T
  pub escape : piece ≡ pieces.Escape → (p + 2 ≤ length T) × (raw_stands T p backslash ≡ true)
  pub after_dollar :
      (piece ≡ pieces.Pid) ⊎ (piece ≡ pieces.Subst) ⊎ (piece ≡ pieces.Arith) ⊎ (piece ≡ pieces.Param) ⊎
      (piece ≡ pieces.DollarSingle) → IsRead T (p + 1)
  pub second_bracket : piece ≡ pieces.Arith → IsRead T (past_byte T (p + 1))
  pub second_closer : mode ≡ modes.Arith → piece ≡ pieces.Closer → IsRead T (p + 1)
  pub some_open : piece ≡ pieces.Close → 0 < nested
