-- Words and their pieces (XCU 2.2, 2.3, 2.6).
use Rattle.std.specs.Prelude.{ℕ, Bool, true, false, ◌+◌, ◌-◌, not, List as Row, []}
use Rattle.shgrammar.specs.declared.mode.Escaping.{Escaping}
use Rattle.shgrammar.specs.declared.mode.Escaping.TheVariants as escapings
use Rattle.shgrammar.specs.declared.fault.FaultKind.TheVariants.{UnclosedSingle, BadArithClose, LoneBackslash}
use Rattle.shgrammar.specs.declared.mode.Mode.{Mode}
use Rattle.shgrammar.specs.declared.mode.Mode.TheVariants.{Plain, Double, Arith}
use Rattle.shgrammar.specs.declared.mode.Piece.{Piece}
use Rattle.shgrammar.specs.declared.mode.Piece.TheVariants as pieces
use Rattle.shgrammar.specs.declared.token.Next.{Next}
use Rattle.shgrammar.specs.declared.token.Opener.{Opener}
use Rattle.shast.specs.declared.tree.Span.{Span}
use Rattle.shast.specs.Tree.{AWord, ACommand, ASubst, word, substs_of}
use Rattle.shgrammar.specs.Pieces.{unclosed, closes_by, unclosed_in}
use Rattle.shgrammar.specs.Sights.{here, the_byte, the_piece, the_rest, the_end, a_raw, last_backslash, one_byte, continuations, one_taken, the_closer, the_parameter, a_quote_on, escaped_on}
use Rattle.shgrammar.specs.Form.{Form, give, see, move, stop, when, as_it_stands, token, many, ◌>>=◌, ◌>>◌, Step, again, done, step_if}

-- ---- text that is not read

-- text in single quotes, from its opener on (XCU 2.2.2)
unfoldable pub single : Form (Unit {0})
single = see the_byte >>= λ b. move one_byte >> move a_quote_on >> when the_end (stop UnclosedSingle b) (move one_taken)

-- up to the next closing byte or backslash, which takes one byte; or to the closing one
unfoldable pub escaped_turn : Escaping → ℕ → Unit {0} → Form (Step (Unit {0}))
escaped_turn how b u =
    move (escaped_on how) >>
    when the_end (stop (unclosed_in how) b)
    (when last_backslash (stop (unclosed_in how) b)
    (see (a_raw (closes_by how)) >>= λ last. move one_taken >> give (step_if (not last) tt)))

-- text in backquotes, from its opener on
unfoldable pub backquoted_text : Form (Unit {0})
backquoted_text = see the_byte >>= λ b. move one_byte >> many (escaped_turn escapings.Backquotes b) tt

-- text in dollar-single quotes, from its `$` on
unfoldable pub dollar_single : Form (Unit {0})
dollar_single = see the_byte >>= λ b. move one_byte >> move one_byte >> many (escaped_turn escapings.DollarSingle b) tt

-- ---- what may be opened

-- what may be opened where the reading stands
pub record Inner : Type 1 where
  -- a construct of a word in this mode, from just after its opener on, which stands at an offset,
  -- and after the substitutions that the word has so far
  pub construct : Mode → ℕ → Row ASubst → Form (Row ASubst)
  -- a command substitution, from just after its opener on, which stands at an offset,
  -- after those that the word has so far
  pub substitution : ℕ → Row ASubst → Form (Row ASubst)
  -- a compound command, from its opener on, and the token after it
  pub compound : Opener → Form (ACommand × Next)
  -- a function whose name stands there, from the `(` after the name on, and the token after it
  pub function : Span → Form (ACommand × Next)

-- ---- pieces

-- how many brackets are open in arithmetic, and the substitutions so far
pub record WordSoFar : Type 0 where
  pub nested : ℕ
  pub substs : Row ASubst

abbrev pub word_so_far : ℕ → Row ASubst → WordSoFar
word_so_far n ss = record { nested = n; substs = ss }

-- a construct, from just after its opener on
abbrev pub opened : Inner → Mode → ℕ → WordSoFar → Form (Step WordSoFar)
opened inner mode b h = inner.construct mode b h.substs >>= λ ss. give (again (word_so_far h.nested ss))

-- One piece, or the end of the construct that opened at b. A fault stands where the piece begins, past
-- continuations; that of text that ends inside at the opener.
abbrev pub piece_row : Inner → Mode → ℕ → WordSoFar → Piece → Form (Step WordSoFar)
piece_row inner mode b h pieces.Closer = move (the_closer mode) >> give (done h)
piece_row inner mode b h pieces.Missing = stop (unclosed mode) b
piece_row inner mode b h pieces.LoneBackslash = see the_byte >>= λ q. stop LoneBackslash q
piece_row inner mode b h pieces.Escape = move continuations >> move one_taken >> give (again h)
piece_row inner mode b h pieces.Single = single >> give (again h)
piece_row inner mode b h pieces.DollarSingle = dollar_single >> give (again h)
piece_row inner mode b h pieces.Double = see the_byte >>= λ q. move one_byte >> opened inner Double q h
piece_row inner mode b h pieces.Backquote = backquoted_text >> give (again h)
piece_row inner mode b h pieces.Pid = move one_byte >> move one_byte >> give (again h)
piece_row inner mode b h pieces.Subst =
    see the_byte >>= λ q.
    move one_byte >> move one_byte >> inner.substitution q h.substs >>= λ ss.
    give (again (word_so_far h.nested ss))
piece_row inner mode b h pieces.Arith = see the_byte >>= λ q.
    move one_byte >> move one_byte >> move one_byte >> opened inner Arith q h
piece_row inner mode b h pieces.Param =
    see the_byte >>= λ q.
    move one_byte >> move one_byte >> move the_parameter >> see (the_rest mode) >>= λ m.
    opened inner m q h
piece_row inner mode b h pieces.Open = move one_byte >> give (again (word_so_far (h.nested + 1) h.substs))
piece_row inner mode b h pieces.Close = move one_byte >> give (again (word_so_far (h.nested - 1) h.substs))
piece_row inner mode b h pieces.BadClose = see the_byte >>= λ q. stop BadArithClose q
piece_row inner mode b h pieces.Ordinary = move one_byte >> give (again h)

-- it ends what holds it, or may hold pieces itself
abbrev pub holds_others : Piece → Bool
holds_others pieces.Closer = true
holds_others pieces.Double = true
holds_others pieces.Subst = true
holds_others pieces.Arith = true
holds_others pieces.Param = true
holds_others _ = false

-- one piece of a word, or the end of what it stands in
unfoldable pub a_piece : Inner → Mode → ℕ → WordSoFar → Form (Step WordSoFar)
a_piece inner mode b h = see (the_piece mode h.nested) >>= piece_row inner mode b h

-- what a construct holds, up to its end, after these substitutions
unfoldable pub contents : Inner → Mode → ℕ → Row ASubst → Form (Row ASubst)
contents inner mode b ss = many (a_piece inner mode b) (word_so_far 0 ss) >>= λ h. give h.substs

-- ---- words

-- the word that begins here
unfoldable pub a_word : Inner → Form AWord
a_word inner = see here >>= λ p. token as_it_stands (contents inner Plain p []) >>= λ w. give (word w.1 (substs_of w.0))
