-- Comments (XCU 2.3, rule 9), and spans.
use Rattle.std.specs.Prelude.{ℕ, ◌+◌, List, Option, None, Some, if◌then◌else◌}
use Rattle.shast.specs.declared.tree.Span.{Span}
use Rattle.shgrammar.specs.Characters.{number_sign}
use Rattle.shgrammar.specs.Standing.{raw_stands, next_newline, before_blanks}

-- the span from the place p up to the place q of a text that begins at the offset o
abbrev pub span : ℕ → ℕ → ℕ → Span
span o p q = record { start = o + p; «end» = o + q }

-- the comment at p, where one stands: without the blanks at its end
unfoldable pub comment_at : List ℕ → ℕ → ℕ → Option Span
comment_at T o p = if raw_stands T p number_sign then Some (span o p (before_blanks T (next_newline T p))) else None

-- the place after it
unfoldable pub past_comment : List ℕ → ℕ → ℕ
past_comment T p = if raw_stands T p number_sign then next_newline T p else p
