-- Words and simple commands elsewhere: what they are there is what they are by themselves, moved.
use Rattle.std.proofs.Common.{◌≡◌, ℕ, ◌+◌, Bool, true, false, not, List as Row, [], Option, Some, None, option_map, refl, ap, subst}
use Rattle.shast.specs.declared.tree.Span.{Span}
use Rattle.shast.specs.Tree.{ASubst, word}
use Rattle.shgrammar.specs.declared.mode.Escaping.{Escaping}
use Rattle.shgrammar.specs.declared.mode.Escaping.TheVariants as escapings
use Rattle.shgrammar.specs.declared.fault.FaultKind.{FaultKind}
use Rattle.shgrammar.specs.declared.mode.Mode.{Mode}
use Rattle.shgrammar.specs.declared.mode.Mode.TheVariants.{Plain}
use Rattle.shgrammar.specs.declared.mode.Piece.{Piece}
use Rattle.shgrammar.specs.declared.mode.Piece.TheVariants as pieces
use Rattle.shgrammar.specs.declared.token.Next.{Next}
use Rattle.shgrammar.specs.declared.token.Opener.{Opener}
use Rattle.shgrammar.specs.declared.token.Position.{Position}
use Rattle.shgrammar.specs.Sights.{Move}
use Rattle.shgrammar.specs.Form.{Telling, move, token, step_if}
use Rattle.shgrammar.specs.Words.{single, escaped_turn, backquoted_text, Inner, WordSoFar, word_so_far, opened, piece_row, a_piece, contents, a_word, dollar_single}
use Rattle.shgrammar.specs.Tokens.{is_end}
use Rattle.shgrammar.specs.Commands.{next_token, comment_by, a_comment, wrong_with, what_is_wrong, unexpected}
use Rattle.shgrammar.proofs.Turns.{Stepped}
use Rattle.shgrammar.proofs.Moved.{Place, Any, same, each, on_first, of_first, step, Moves, moves_give, moves_move, moves_stop, moves_then, moves_see, moves_here, moves_byte, moves_see_comment, moves_see_waiting, moves_on, moves_pick, moves_when, moves_token, moves_many}
use Rattle.shgrammar.proofs.MovedTrees.{span_to, offset_to, word_to, command_to, substs_row, CommandEnds, kept_none, substs_to}

module _ (z : Place) where
  -- how much further the text stands there, and whether the trees in command substitutions are kept
  abbrev k : ℕ
  k = z.base

  abbrev deep : Bool
  deep = z.deep

  -- ---- text that is not read

  -- text in single quotes
  moves_single : Moves z same Any single single
  unfolding single
  moves_single = moves_byte (λ b. moves_on (moves_on (moves_when (λ s. refl) moves_stop moves_move)))

  -- a step that goes on by a test
  same_if : {A : Type 0} (c : A → A) (b : Bool) (a : A) → step_if b (c a) ≡ step c (step_if b a)
  same_if c true a = refl
  same_if c false a = refl

  -- text in which a backslash takes one byte: in backquotes, and in dollar-single quotes
  moves_escaped_turn : (how : Escaping) (b : ℕ) (u : Unit {0}) →
      Moves z (step same) (Stepped Any) (escaped_turn how b u) (escaped_turn how (k + b) u)
  unfolding escaped_turn
  moves_escaped_turn how b u =
      moves_on (moves_when (λ s. refl) moves_stop
      (moves_when (λ s. refl) moves_stop
      (moves_see (λ s. refl) (λ last. moves_on (moves_give (same_if same (not last) tt) (any_if (not last)))))))
    where
      any_if : (b : Bool) → Stepped (Any {X = Unit {0}}) (step_if b tt)
      any_if true = tt
      any_if false = tt

  moves_backquoted_text : Moves z same Any backquoted_text backquoted_text
  unfolding backquoted_text
  moves_backquoted_text = moves_byte
      (λ b. moves_on (moves_many same Any Any (escaped_turn escapings.Backquotes b)
      (escaped_turn escapings.Backquotes (k + b)) (λ u so. moves_escaped_turn escapings.Backquotes b u)
      (λ u so. tt) tt tt))

  moves_dollar_single : Moves z same Any dollar_single dollar_single
  unfolding dollar_single
  moves_dollar_single = moves_byte
      (λ b. moves_on (moves_on (moves_many same Any Any (escaped_turn escapings.DollarSingle b)
      (escaped_turn escapings.DollarSingle (k + b)) (λ u so. moves_escaped_turn escapings.DollarSingle b u)
      (λ u so. tt) tt tt)))

  -- ---- tokens and comments

  -- the next token, which is the same
  pub moves_next : (position : Position) → Moves z same Any (next_token position) (next_token position)
  unfolding next_token
  moves_next position = moves_see (λ s. refl) (λ n. moves_on (moves_give refl tt))

  -- an operator, told in whatever way
  pub moves_mark : {how : Telling} {m : Move} →
      Moves z (each {X = Unit {0}} same (span_to k)) (of_first Any) (token how (move m)) (token how (move m))
  moves_mark = moves_token moves_move

  -- a comment, where one stands, and the token after it
  moves_comment_by : (n : Next) (c : Option Span) →
      Moves z (on_first {Y = Next} (option_map (span_to k))) Any (comment_by n c)
      (comment_by n (option_map (span_to k) c))
  moves_comment_by n (Some c) = moves_on (moves_then (moves_next _) (λ m so. moves_give refl tt))
  moves_comment_by n None = moves_give refl tt

  pub moves_comment : (n : Next) →
      Moves z (on_first {Y = Next} (option_map (span_to k))) Any (a_comment n) (a_comment n)
  unfolding a_comment
  moves_comment n = moves_see_comment (λ c. moves_comment_by n c)

  -- ---- words, where what may be opened moves

  -- what may be opened reads there what it reads by itself, moved
  pub record InnerMoves (inner : Inner) : Type 0 where
    pub construct : (mode : Mode) (b : ℕ) (ss : Row ASubst) →
        Moves z (substs_to k deep) Any (inner.construct mode b ss) (inner.construct mode (k + b) (substs_to k deep ss))
    pub substitution : (b : ℕ) (ss : Row ASubst) →
        Moves z (substs_to k deep) Any (inner.substitution b ss) (inner.substitution (k + b) (substs_to k deep ss))
    pub compound : (o : Opener) →
        Moves z (on_first {Y = Next} (command_to k deep)) (of_first (CommandEnds k deep)) (inner.compound o)
        (inner.compound o)
    pub function : (name : Span) →
        Moves z (on_first {Y = Next} (command_to k deep)) (of_first (CommandEnds k deep)) (inner.function name)
        (inner.function (span_to k name))

  -- a word so far, moved
  abbrev held_to : WordSoFar → WordSoFar
  held_to h = word_so_far h.nested (substs_to k deep h.substs)

  module _ (inner : Inner) (fits : InnerMoves inner) where
    -- a construct in a word, and a piece by its kind
    moves_opened : (mode : Mode) (b : ℕ) (h : WordSoFar) →
        Moves z (step held_to) (Stepped Any) (opened inner mode b h) (opened inner mode (k + b) (held_to h))
    moves_opened mode b h = moves_then (fits.construct mode b h.substs) (λ ss so. moves_give refl tt)

    moves_piece_by : (mode : Mode) (b : ℕ) (h : WordSoFar) (piece : Piece) →
        Moves z (step held_to) (Stepped Any) (piece_row inner mode b h piece)
        (piece_row inner mode (k + b) (held_to h) piece)
    moves_piece_by mode b h pieces.Closer = moves_on (moves_give refl tt)
    moves_piece_by mode b h pieces.Missing = moves_stop
    moves_piece_by mode b h pieces.LoneBackslash = moves_byte (λ q. moves_stop)
    moves_piece_by mode b h pieces.Escape = moves_on (moves_on (moves_give refl tt))
    moves_piece_by mode b h pieces.Single = moves_then moves_single (λ u so. moves_give refl tt)
    moves_piece_by mode b h pieces.DollarSingle = moves_then moves_dollar_single (λ u so. moves_give refl tt)
    moves_piece_by mode b h pieces.Double = moves_byte (λ q. moves_on (moves_opened _ q h))
    moves_piece_by mode b h pieces.Backquote = moves_then moves_backquoted_text (λ u so. moves_give refl tt)
    moves_piece_by mode b h pieces.Pid = moves_on (moves_on (moves_give refl tt))
    moves_piece_by mode b h pieces.Subst =
        moves_byte (λ q. moves_on (moves_on (moves_then (fits.substitution q h.substs) (λ ss so. moves_give refl tt))))
    moves_piece_by mode b h pieces.Arith = moves_byte (λ q. moves_on (moves_on (moves_on (moves_opened _ q h))))
    moves_piece_by mode b h pieces.Param =
        moves_byte (λ q. moves_on (moves_on (moves_on (moves_see (λ s. refl) (λ m. moves_opened m q h)))))
    moves_piece_by mode b h pieces.Open = moves_on (moves_give refl tt)
    moves_piece_by mode b h pieces.Close = moves_on (moves_give refl tt)
    moves_piece_by mode b h pieces.BadClose = moves_byte (λ q. moves_stop)
    moves_piece_by mode b h pieces.Ordinary = moves_on (moves_give refl tt)

    moves_piece : (mode : Mode) (b : ℕ) (h : WordSoFar) →
        Moves z (step held_to) (Stepped Any) (a_piece inner mode b h) (a_piece inner mode (k + b) (held_to h))
    unfolding a_piece
    moves_piece mode b h = moves_see (λ s. refl) (λ piece. moves_piece_by mode b h piece)

    -- what a construct holds, and a whole word
    pub moves_contents : (mode : Mode) (b : ℕ) (ss : Row ASubst) →
        Moves z (substs_to k deep) Any (contents inner mode b ss) (contents inner mode (k + b) (substs_to k deep ss))
    unfolding contents
    moves_contents mode b ss = moves_then
        (moves_many held_to Any Any (a_piece inner mode b) (a_piece inner mode (k + b)) (λ h so. moves_piece mode b h)
        (λ h so. tt) (word_so_far 0 ss) tt) (λ h so. moves_give refl tt)

    pub moves_word : Moves z (word_to k deep) Any (a_word inner) (a_word inner)
    unfolding a_word
    moves_word = moves_here (λ p. moves_then (moves_token (from_none p))
        (λ x so. moves_give (ap (word (span_to k x.1)) (substs_row k deep x.0)) tt))
      where
        from_none : (p : ℕ) → Moves z (substs_to k deep) Any (contents inner Plain p [])
            (contents inner Plain (k + p) [])
        from_none p = subst (λ (ss : Row ASubst). Moves z (substs_to k deep) Any (contents inner Plain p [])
            (contents inner Plain (k + p) ss)) (kept_none deep) (moves_contents Plain p [])

    -- ---- what is unexpected

    -- the fault is of the same kind, and its offset is moved
    wrong_to : (e : Bool) (p : ℕ) (w : Option ℕ) →
        wrong_with e (k + p) (option_map (λ (q : ℕ). k + q) w)
        ≡ each {X = FaultKind} same (offset_to k) (wrong_with e p w)
    wrong_to true p (Some b) = refl
    wrong_to true p None = refl
    wrong_to false p w = refl

    moves_wrong : (n : Next) → Moves z (each {X = FaultKind} same (offset_to k)) Any (what_is_wrong inner n)
        (what_is_wrong inner n)
    unfolding what_is_wrong
    moves_wrong n =
        moves_pick _ (moves_here (λ p. moves_then moves_word (λ w so. moves_give refl tt)))
        (moves_then (moves_comment n)
        (λ c so. moves_here (λ p. moves_see_waiting (λ w. moves_give (wrong_to (is_end c.1.token) p w) tt))))

    -- so the reading stops there with the same fault, moved
    pub moves_unexpected : {X : Type 0} {c : X → X} {P : X → Type 0} (n : Next) →
        Moves z c P (unexpected inner n) (unexpected inner n)
    moves_unexpected n = moves_then (moves_wrong n) (λ w so. moves_stop)
