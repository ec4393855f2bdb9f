-- What a row of the grammar may see from where the reading stands, and where it may
-- move to: two closed lists. That a row looks no further than these do is shown once
-- for each of them, and then holds of every row.
use Rattle.std.specs.Prelude.{ℕ, ◌+◌, Bool, List, Option}
use Rattle.shgrammar.specs.declared.mode.Escaping.{Escaping}
use Rattle.shgrammar.specs.declared.mode.Mode.{Mode}
use Rattle.shgrammar.specs.declared.mode.Piece.{Piece}
use Rattle.shgrammar.specs.declared.token.Next.{Next}
use Rattle.shgrammar.specs.declared.token.Position.{Position}
use Rattle.shast.specs.declared.tree.Span.{Span}
use Rattle.shgrammar.specs.Standing.{raw_stands, at_end}
use Rattle.shgrammar.specs.Bytes.{past_continuations, past_byte, past_blanks}
use Rattle.shgrammar.specs.Tokens.{next_at, next_in, past_reserved, past_digits, is_name_at}
use Rattle.shgrammar.specs.Pieces.{piece_at, piece_in, past_taken, past_closer, next_quote, next_escaped, is_last_backslash, past_parameter, rest_mode}
use Rattle.shgrammar.specs.Comments.{comment_at, past_comment}
pub use Rattle.shgrammar.specs.States.{Given, given, Waiting, State, standing}
use Rattle.shgrammar.specs.HereDocuments.{ADelimiter, delimiter_in, first_waiting}

-- ---- what may be seen

pub data Sight : Type 0 → Type 1 where
  -- the offset of this place
  here : Sight ℕ
  -- the offset of the byte that is read here
  the_byte : Sight ℕ
  -- the piece of a word that begins here in a mode, with so many brackets open in arithmetic
  the_piece : Mode → ℕ → Sight Piece
  -- how the rest of an expansion is read that opened in this mode
  the_rest : Mode → Sight Mode
  -- the text ends here
  the_end : Sight Bool
  -- this byte stands here
  a_raw : ℕ → Sight Bool
  -- a backslash that is the last byte stands here
  last_backslash : Sight Bool
  -- the next token, where a token stands in this position of a command
  the_token : Position → Sight Next
  -- the comment that begins here
  the_comment : Sight (Option Span)
  -- the word that begins here is a NAME
  is_a_name : Sight Bool
  -- the operator of the first here-document that waits
  a_document_waits : Sight (Option ℕ)
  -- the delimiter that a word is, by its bytes
  the_delimiter : List ℕ → Sight (Option ADelimiter)

abbrev pub seen : {X : Type 0} → Sight X → Given → State → X
seen here g s = g.offset + s.at
seen the_byte g s = g.offset + past_continuations g.text s.at
seen (the_piece mode n) g s = piece_in g.edition mode (piece_at g.text mode n s.at)
seen (the_rest mode) g s = rest_mode g.text mode s.at
seen the_end g s = at_end g.text s.at
seen (a_raw c) g s = raw_stands g.text s.at c
seen last_backslash g s = is_last_backslash g.text s.at
seen (the_token position) g s = next_in g.edition (next_at position g.text s.at)
seen the_comment g s = comment_at g.text g.offset s.at
seen is_a_name g s = is_name_at g.text s.at
seen a_document_waits g s = first_waiting s
seen (the_delimiter bytes) g s = delimiter_in g.edition bytes

-- ---- where a reading may move to

pub data Move : Type 0 where
  -- after the byte that is read here
  one_byte : Move
  -- past continuations
  continuations : Move
  -- after the byte that stands here; a backslash takes the byte after it
  one_taken : Move
  -- after what closes a construct of this mode
  the_closer : Mode → Move
  the_parameter : Move
  -- to the next single quote, and to the next such byte or backslash
  a_quote_on : Move
  escaped_on : Escaping → Move
  -- to where the next token begins
  blanks : Move
  -- to the end of the comment here
  a_comment_on : Move
  -- after the reserved word here
  the_reserved : Move
  -- after the digits here
  the_digits : Move

abbrev pub to : Move → List ℕ → ℕ → ℕ
to one_byte T p = past_byte T p
to continuations T p = past_continuations T p
to one_taken T p = past_taken T p
to (the_closer mode) T p = past_closer T mode p
to the_parameter T p = past_parameter T p
to a_quote_on T p = next_quote T p
to (escaped_on how) T p = next_escaped how T p
to blanks T p = past_blanks T p
to a_comment_on T p = past_comment T p
to the_reserved T p = past_reserved T p
to the_digits T p = past_digits T p
