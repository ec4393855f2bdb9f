-- Quote removal by the pieces of a word (XCU 2.2, 2.6.7), and not byte by byte.
use Rattle.std.specs.Prelude.{◌≡◌, ℕ, ◌+◌, ◌==◌, ◌||◌, false, List, [], ◌∷◌, ◌++◌, Some, slice_get, if◌then◌else◌}
use Rattle.shgrammar.specs.declared.edition.Edition.{Edition}
use Rattle.shgrammar.specs.declared.mode.Mode.{Mode}
use Rattle.shgrammar.specs.declared.mode.Mode.TheVariants.{Double}
use Rattle.shgrammar.specs.declared.mode.Piece.{Piece}
use Rattle.shgrammar.specs.declared.mode.Piece.TheVariants as pieces
use Rattle.shgrammar.specs.Bytes.{byte_at, past_byte, past_continuations}
use Rattle.shgrammar.specs.Characters.{quotation_mark, dollar_sign, backslash, grave_accent}
use Rattle.shgrammar.specs.Form.{raw}
use Rattle.shgrammar.specs.Pieces.{next_quote, past_closer, piece_at, piece_in}
use Rattle.shgrammar.specs.Standing.{at_end}

-- the piece at p, by an edition
abbrev pub piece_by_edition : Edition → List ℕ → Mode → ℕ → Piece
piece_by_edition edition T mode p = piece_in edition mode (piece_at T mode 0 p)

-- What is left of a backslash and the byte after it: the byte. In double quotes the backslash is left too,
-- but before `$`, a backquote, `"` and a backslash (XCU 2.2.3).
abbrev pub escape_leaves : Mode → ℕ → List ℕ
escape_leaves Double c = if c == dollar_sign || c == grave_accent || c == quotation_mark || c == backslash then c ∷ []
    else backslash ∷ c ∷ []
escape_leaves mode c = c ∷ []

-- In a mode pieces stand from p on, what closes them ends at q, and this is left of them when quotes are
-- removed. No expansion is among them, no text in backquotes, and none in dollar-single quotes.
pub data Leaves (edition : Edition) (T : List ℕ) : Mode → ℕ → ℕ → List ℕ → Type 0 where
  ended : {mode : Mode} {p : ℕ} → piece_by_edition edition T mode p ≡ pieces.Closer
      → Leaves edition T mode p (past_closer T mode p) []
  ordinary : {mode : Mode} {p q : ℕ} {left : List ℕ} (b : ℕ)
      → piece_by_edition edition T mode p ≡ pieces.Ordinary
      → byte_at T p ≡ Some b → Leaves edition T mode (past_byte T p) q left
      → Leaves edition T mode p q (b ∷ left)
  -- `$$`
  pid : {mode : Mode} {p q : ℕ} {left : List ℕ} → piece_by_edition edition T mode p ≡ pieces.Pid
      → Leaves edition T mode (past_byte T (past_byte T p)) q left
      → Leaves edition T mode p q (dollar_sign ∷ dollar_sign ∷ left)
  escape : {mode : Mode} {p q : ℕ} {left : List ℕ} (c : ℕ) → piece_by_edition edition T mode p ≡ pieces.Escape
      → slice_get T (past_continuations T p + 1) ≡ Some c
      → Leaves edition T mode (past_continuations T p + 2) q left
      → Leaves edition T mode p q (escape_leaves mode c ++ left)
  -- between single quotes all bytes are left
  single : {mode : Mode} {p q : ℕ} {left : List ℕ} → piece_by_edition edition T mode p ≡ pieces.Single
      → at_end T (next_quote T (past_byte T p)) ≡ false
      → Leaves edition T mode (next_quote T (past_byte T p) + 1) q left
      → Leaves edition T mode p q (raw T (past_byte T p) (next_quote T (past_byte T p)) ++ left)
  -- between double quotes what the pieces there leave
  double : {mode : Mode} {p q m : ℕ} {inside left : List ℕ}
      → piece_by_edition edition T mode p ≡ pieces.Double
      → Leaves edition T Double (past_byte T p) m inside → Leaves edition T mode m q left
      → Leaves edition T mode p q (inside ++ left)
