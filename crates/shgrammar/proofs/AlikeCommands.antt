-- Words and commands go the same way with their tree and without: tokens, joins, redirections, simple
-- commands, pipelines, and-or lists and entries, where what may be opened in them does.
use Rattle.std.proofs.Common.{◌≡◌, ℕ, ◌+◌, ◌-◌, Bool, true, false, not, ◌||◌, List as Row, [], Option, Some, None, is_some, refl, ap, subst}
use Rattle.shgrammar.specs.declared.mode.Escaping.{Escaping}
use Rattle.shgrammar.specs.declared.mode.Escaping.TheVariants as escapings
use Rattle.shgrammar.specs.declared.mode.Mode.{Mode}
use Rattle.shgrammar.specs.declared.mode.Piece.{Piece}
use Rattle.shgrammar.specs.declared.mode.Piece.TheVariants as pieces
use Rattle.shgrammar.specs.declared.token.Next.{Next}
use Rattle.shgrammar.specs.declared.token.Opener.{Opener}
use Rattle.shgrammar.specs.declared.token.Position.{Position}
use Rattle.shgrammar.specs.declared.token.Position.TheVariants.{Command, Suffix}
use Rattle.shgrammar.specs.declared.token.Separator.{Separator}
use Rattle.shast.specs.declared.tree.Span.{Span}
use Rattle.shast.specs.declared.tree.AndOrOperator.{AndOrOperator}
use Rattle.shast.specs.declared.tree.RedirectOperator.{RedirectOperator}
use Rattle.shast.specs.Tree.{ACommand, ASubst, AnItem, AWord}
use Rattle.shgrammar.specs.Sights.{Given, the_piece, Move}
use Rattle.shgrammar.specs.HereDocuments.{ADelimiter}
use Rattle.shgrammar.specs.Form.{Spelled, Telling, move, token, step_if}
use Rattle.shgrammar.specs.Words.{single, escaped_turn, backquoted_text, Inner, WordSoFar, word_so_far, opened, piece_row, a_piece, contents, a_word, dollar_single}
use Rattle.shgrammar.specs.Commands.{is_newline_token, is_semicolon, a_semicolon, a_join_of, is_pipe, is_bang, begins_simple, begins_word, begins_redirect, opener_of, compound_by, and_or_operator_of, next_token, ItemsSoFar, items_so_far, breaks, after_word, is_number_token, redirect_operator_of, takes_here, is_long, is_strip, document_by, a_document, none_waits, nothing_waits, a_number, an_operator, operator_by, a_target, one_redirect, after_redirect, redirect_turn, with_redirect_list, an_item, item_by, item_turn, a_simple, comment_by, a_comment, a_newline, what_is_wrong, unexpected, JoinSoFar, join_so_far, with_comment, join_turn, a_join, a_command, a_bang, PipesSoFar, pipes_so_far, one_command, pipe_turn, a_pipeline, AndOrSoFar, and_or_so_far, one_pipeline, joined_by, and_or_turn, an_and_or, separator_of, separator_by, a_separator, Entered, an_entry, a_word_command, is_word, is_paren, named_function, ASeparator, past_separator}
use Rattle.shgrammar.specs.Compounds.{a_linebreak}
use Rattle.shast.specs.Nodes.{word_span}
use Rattle.shgrammar.proofs.Alike.{SameStep, SameHeld, All, Alike, alike_give, alike_push, alike_move, alike_stop_at, alike_stop, alike_then, alike_see, alike_same, alike_on, alike_pushed, alike_pick, alike_at, alike_when, alike_token, alike_change, alike_with_bytes, alike_many}

-- ---- when two of them are the same

-- the same token comes after both
abbrev pub SameNext : {X Y : Type 0} → X × Next → Y × Next → Type 0
SameNext x y = x.1 ≡ y.1

-- two words stand at the same place
abbrev pub SamePlace : AWord → AWord → Type 0
SamePlace w v = word_span w ≡ word_span v

-- two rows of items end at the same position, and the same token comes after both, whatever items were read
abbrev pub SameItems : ItemsSoFar → ItemsSoFar → Type 0
SameItems i j = (i.position ≡ j.position) × (i.next ≡ j.next)

-- two words of redirections stand at the same place, and have the same bytes
abbrev pub SameTarget : AWord × Spelled → AWord × Spelled → Type 0
SameTarget x y = SamePlace x.0 y.0 × (x.1 ≡ y.1)

-- two joins break their line or neither does, and the same token comes after both
abbrev pub SameJoin : JoinSoFar → JoinSoFar → Type 0
SameJoin j k = (j.join.broken ≡ k.join.broken) × (j.next ≡ k.next)

-- the same token comes after the commands of two pipelines so far, and after the pipelines
-- of two and-or lists
abbrev pub SamePipes : PipesSoFar → PipesSoFar → Type 0
SamePipes p q = p.next ≡ q.next

abbrev pub SameAndOrs : AndOrSoFar → AndOrSoFar → Type 0
SameAndOrs a b = a.next ≡ b.next

-- two entries end at the same separator or at none, and the same token comes after both
abbrev pub SameEntered : Entered → Entered → Type 0
SameEntered e f = (e.parted ≡ f.parted) × (e.next ≡ f.next)

-- by the same test the turns of two joins go on, or both end
join_step : (p : Bool) (j k : JoinSoFar) → SameJoin j k → SameStep SameJoin (step_if p j) (step_if p k)
join_step true j k same = same
join_step false j k same = same

-- after the same newline, or none, the turns of two joins go on, or both end
join_steps : (l m : Bool × Next) → l ≡ m → (broken pale : Bool) → broken ≡ pale → (cs ds : Row Span)
    → SameStep SameJoin (step_if l.0 (join_so_far (a_join_of (broken || l.0) cs) l.1))
    (step_if m.0 (join_so_far (a_join_of (pale || m.0) ds) m.1))
join_steps l m is broken pale same cs ds =
    subst (λ (z : Bool × Next). SameStep SameJoin (step_if l.0 (join_so_far (a_join_of (broken || l.0) cs) l.1))
    (step_if z.0 (join_so_far (a_join_of (pale || z.0) ds) z.1))) is
    (join_step l.0 (join_so_far (a_join_of (broken || l.0) cs) l.1) (join_so_far (a_join_of (pale || l.0) ds) l.1)
    (ap (λ b. b || l.0) same, refl))

-- a join is broken where its operator's token is, or what follows it
pub both_broken : (broken pale : Bool) (n m : Next) → broken ≡ pale → n ≡ m → (broken || n.broken) ≡ (pale || m.broken)
both_broken broken pale n m one two = rw (one, two) refl

-- ---- single quotes, backquotes and dollar-single quotes

module _ {g : Given} where
  -- with a tree and without the reading stands at the same place after them, or stops with the same fault
  alike_single : Alike g All single single
  unfolding single
  alike_single = alike_see (λ b. alike_on (alike_on (alike_when alike_stop (alike_move tt))))

  alike_escaped_turn : (how : Escaping) (b : ℕ) (u v : Unit {0}) →
      Alike g (SameStep All) (escaped_turn how b u) (escaped_turn how b v)
  unfolding escaped_turn
  alike_escaped_turn how b u v =
      alike_on (alike_when alike_stop
      (alike_when alike_stop (alike_see (λ last. alike_on (alike_give (same_if last))))))
    where
      same_if : (last : Bool) → SameStep (All {X = Unit {0}} {Y = Unit {0}}) (step_if (not last) tt)
          (step_if (not last) tt)
      same_if true = tt
      same_if false = tt

  alike_backquoted_text : Alike g All backquoted_text backquoted_text
  unfolding backquoted_text
  alike_backquoted_text = alike_see
      (λ b. alike_on (alike_many All (escaped_turn escapings.Backquotes b) (escaped_turn escapings.Backquotes b)
      (λ u v same. alike_escaped_turn escapings.Backquotes b u v) tt tt tt))

  alike_dollar_single : Alike g All dollar_single dollar_single
  unfolding dollar_single
  alike_dollar_single = alike_see
      (λ b. alike_on (alike_on (alike_many All (escaped_turn escapings.DollarSingle b)
      (escaped_turn escapings.DollarSingle b) (λ u v same. alike_escaped_turn escapings.DollarSingle b u v) tt tt tt)))

  -- ---- tokens

  -- an operator is passed the same way, told in whatever way
  pub alike_mark : {how : Telling} {m : Move} → Alike g All (token how (move m)) (token how (move m))
  alike_mark = alike_token {R = All} (alike_move {S = All} tt) (λ a b z so. tt)

  -- an operator is passed the same way, and stands at the same place
  pub alike_place : {how : Telling} {m : Move} → Alike g (λ x y. x ≡ y) (token how (move m)) (token how (move m))
  alike_place = alike_token {R = λ x y. x ≡ y} (alike_move {S = All} tt) (λ a b z so. refl)

  -- the same token comes next, also after the same comment
  pub alike_next : (position : Position) → Alike g (λ n m. n ≡ m) (next_token position) (next_token position)
  unfolding next_token
  alike_next position = alike_see (λ n. alike_on (alike_give refl))

  alike_comment_by : (n : Next) (c : Option Span) → Alike g (λ x y. x ≡ y) (comment_by n c) (comment_by n c)
  alike_comment_by n (Some c) =
      alike_on (alike_then (alike_next _) (λ m k same. alike_give (ap (λ z. (Some c, z)) same)))
  alike_comment_by n None = alike_give refl

  pub alike_comment : (n m : Next) → n ≡ m → Alike g (λ x y. x ≡ y) (a_comment n) (a_comment m)
  unfolding a_comment
  alike_comment n m same = rw (← same) (alike_see (λ c. alike_comment_by n c))

  -- a newline or none goes the same way, with the same token after it
  pub alike_newline : (n : Next) → Alike g (λ x y. x ≡ y) (a_newline n) (a_newline n)
  unfolding a_newline
  alike_newline n = alike_pick (is_newline_token n.token) _ refl
      (alike_on (alike_then {S = All} (alike_change tt)
      (λ u v so. alike_then (alike_next _) (λ m k same. alike_give (ap (λ z. (true, z)) same))))) (alike_give refl)

  -- a here-document that waits stops both
  alike_none_waits : (w : Option ℕ) → Alike g All (none_waits w) (none_waits w)
  alike_none_waits (Some b) = alike_stop
  alike_none_waits None = alike_give tt

  pub alike_nothing_waits : Alike g All nothing_waits nothing_waits
  unfolding nothing_waits
  alike_nothing_waits = alike_see (λ w. alike_none_waits w)

  -- a `;` or none goes the same way, with the same token after it, and so does a separator or none
  pub alike_semicolon : (n : Next) → Alike g (λ x y. x ≡ y) (a_semicolon n) (a_semicolon n)
  unfolding a_semicolon
  alike_semicolon n = alike_pick (is_semicolon n.token) _ refl
      (alike_on (alike_then (alike_next _) (λ m k same. alike_give (ap (λ z. (true, z)) same)))) (alike_give refl)

  alike_separator_by : (n : Next) (s : Option Separator) → Alike g (λ x y. x ≡ y) (separator_by n s) (separator_by n s)
  alike_separator_by n (Some s) =
      alike_then alike_place (λ x y so. rw (← so)
      (alike_then (alike_next _) (λ m k same. alike_give (ap (λ z. (Some (s, x.1.«end»), z)) same))))
  alike_separator_by n None = alike_give refl

  alike_separator : (n m : Next) → n ≡ m → Alike g (λ x y. x ≡ y) (a_separator n) (a_separator m)
  unfolding a_separator
  alike_separator n m same = rw (← same) (alike_separator_by n (separator_of n.token))

  -- ---- joins and linebreaks

  -- whichever comments are kept, one more goes the same way, or none
  alike_with : (cs ds : Row Span) (c : Option Span) → Alike g All (with_comment cs c) (with_comment ds c)
  alike_with cs ds (Some c) = alike_push tt
  alike_with cs ds None = alike_give tt

  -- a turn over comments and newlines, a join, and a linebreak go the same way, with the
  -- same token after each
  alike_join_turn : (j k : JoinSoFar) → SameJoin j k → Alike g (SameStep SameJoin) (join_turn j) (join_turn k)
  unfolding join_turn
  alike_join_turn j k same =
      alike_then (alike_comment j.next k.next same.1)
      (λ c d so. rw (← so) (alike_then (alike_with j.join.comments k.join.comments c.0)
      (λ cs ds all. alike_then (alike_newline c.1)
      (λ l m is. alike_give (join_steps l m is _ _ (ap (λ b. b || is_some c.0) same.0) cs ds)))))

  alike_join : (broken pale : Bool) → broken ≡ pale → Alike g SameNext (a_join broken) (a_join pale)
  unfolding a_join
  alike_join broken pale is =
      alike_then (alike_next _) (λ n m same. alike_then
      (alike_many SameJoin join_turn join_turn alike_join_turn _ _ (both_broken broken pale n m is same, same))
      (λ j k so. alike_give so.1))

  pub alike_linebreak : (cs ds : Row Span) (n m : Next) → n ≡ m → Alike g SameJoin (a_linebreak cs n) (a_linebreak ds m)
  unfolding a_linebreak
  alike_linebreak cs ds n m same = alike_many SameJoin join_turn join_turn alike_join_turn _ _ (refl, same)

  -- ---- the parts of a redirection

  -- the number of a redirection goes the same way, or none, with the same token after it
  alike_number : (n : Next) → Alike g (λ x y. x ≡ y) (a_number n) (a_number n)
  unfolding a_number
  alike_number n =
      alike_pick (is_number_token n.token) _ refl
      (alike_then (alike_token {S = All} {R = λ x y. x.1 ≡ y.1} (alike_move {S = All} tt) (λ a b z so. refl))
      (λ x y so. alike_then (alike_next _) (λ m k same. alike_give (rw (so, same) refl))))
      (alike_give refl)

  -- the operator of a redirection goes the same way, and stands at the same place
  alike_operator : (o : RedirectOperator) → Alike g (λ x y. x.1 ≡ y.1) (an_operator o) (an_operator o)
  unfolding an_operator
  alike_operator o = alike_token {S = All} {R = λ x y. x.1 ≡ y.1}
      (alike_on (alike_then {S = All} (alike_pick (is_long o) _ refl (alike_move tt) (alike_give tt))
      (λ u v so. alike_pick (is_strip o) _ refl (alike_move tt) (alike_give tt)))) (λ a b z so. refl)

  alike_operator_by : (p : ℕ) (o : Option RedirectOperator) → Alike g (λ x y. x ≡ y) (operator_by p o) (operator_by p o)
  alike_operator_by p (Some o) = alike_then (alike_operator o) (λ x y so. alike_give (ap (λ z. (o, z)) so))
  alike_operator_by p None = alike_stop

  -- the here-document of a redirection goes the same way, or none, by the same bytes of its word
  alike_document_by : (b p : ℕ) (strip : Bool) (d : Option ADelimiter) →
      Alike g (λ x y. x ≡ y) (document_by b p strip d) (document_by b p strip d)
  alike_document_by b p strip (Some d) = alike_then {S = All} (alike_change tt) (λ u v so. alike_give refl)
  alike_document_by b p strip None = alike_stop

  alike_document : (o : RedirectOperator) (b p : ℕ) (k : Spelled) →
      Alike g (λ x y. x ≡ y) (a_document o b p k) (a_document o b p k)
  unfolding a_document
  alike_document o b p k = alike_pick (takes_here o) _ refl (alike_see (λ d. alike_document_by b p (is_strip o) d))
      (alike_give refl)

  alike_document_at : (o q : RedirectOperator × Span) (x y : AWord × Spelled) → o ≡ q → SameTarget x y
      → Alike g (λ h i. h ≡ i) (a_document o.0 o.1.start (word_span x.0).start x.1)
      (a_document q.0 q.1.start (word_span y.0).start y.1)
  alike_document_at o q x y same so =
      rw (← same, ← so.0, ← so.1) (alike_document o.0 o.1.start (word_span x.0).start x.1)

-- ---- words

-- what may be opened goes the same way, with its tree and without
module _ (g : Given) where
  pub record InnerAlike (inner : Inner) : Type 0 where
    pub construct : (mode : Mode) (b : ℕ) (ss zs : Row ASubst) →
        Alike g All (inner.construct mode b ss) (inner.construct mode b zs)
    pub substitution : (b : ℕ) (ss zs : Row ASubst) → Alike g All (inner.substitution b ss) (inner.substitution b zs)
    pub compound : (o : Opener) → Alike g SameNext (inner.compound o) (inner.compound o)
    pub function : (name : Span) → Alike g SameNext (inner.function name) (inner.function name)

module _ {g : Given} {inner : Inner} (fits : InnerAlike g inner) where
  -- a construct that opens in a word goes the same way
  alike_opened : (mode : Mode) (b : ℕ) (h i : WordSoFar) → SameHeld h i →
      Alike g (SameStep SameHeld) (opened inner mode b h) (opened inner mode b i)
  alike_opened mode b h i same = alike_then (fits.construct mode b h.substs i.substs) (λ x y so. alike_give same)

  -- a piece of a word goes the same way, by its kind
  alike_piece_by : (mode : Mode) (b : ℕ) (h i : WordSoFar) (piece : Piece) → SameHeld h i →
      Alike g (SameStep SameHeld) (piece_row inner mode b h piece) (piece_row inner mode b i piece)
  alike_piece_by mode b h i pieces.Closer same = alike_on (alike_give same)
  alike_piece_by mode b h i pieces.Missing same = alike_stop
  alike_piece_by mode b h i pieces.LoneBackslash same = alike_see (λ q. alike_stop)
  alike_piece_by mode b h i pieces.Escape same = alike_on (alike_on (alike_give same))
  alike_piece_by mode b h i pieces.Single same = alike_then alike_single (λ x y so. alike_give same)
  alike_piece_by mode b h i pieces.DollarSingle same = alike_then alike_dollar_single (λ x y so. alike_give same)
  alike_piece_by mode b h i pieces.Double same = alike_see (λ q. alike_on (alike_opened _ q h i same))
  alike_piece_by mode b h i pieces.Backquote same = alike_then alike_backquoted_text (λ x y so. alike_give same)
  alike_piece_by mode b h i pieces.Pid same = alike_on (alike_on (alike_give same))
  alike_piece_by mode b h i pieces.Subst same =
      alike_see (λ q. alike_on (alike_on
      (alike_then (fits.substitution q h.substs i.substs) (λ x y so. alike_give same))))
  alike_piece_by mode b h i pieces.Arith same =
      alike_see (λ q. alike_on (alike_on (alike_on (alike_opened _ q h i same))))
  alike_piece_by mode b h i pieces.Param same =
      alike_see (λ q. alike_on (alike_on (alike_on (alike_see (λ m. alike_opened m q h i same)))))
  alike_piece_by mode b h i pieces.Open same = alike_on (alike_give (ap (λ n. n + 1) same))
  alike_piece_by mode b h i pieces.Close same = alike_on (alike_give (ap (λ n. n - 1) same))
  alike_piece_by mode b h i pieces.BadClose same = alike_see (λ q. alike_stop)
  alike_piece_by mode b h i pieces.Ordinary same = alike_on (alike_give same)

  -- the piece that begins here is the same in both, and goes the same way
  alike_piece : (mode : Mode) (b : ℕ) (h i : WordSoFar) → SameHeld h i →
      Alike g (SameStep SameHeld) (a_piece inner mode b h) (a_piece inner mode b i)
  unfolding a_piece
  alike_piece mode b h i same = alike_same (ap (the_piece mode) same) (λ piece. alike_piece_by mode b h i piece same)

  -- all pieces up to the end of their construct, or of the word, go the same way
  pub alike_contents : (mode : Mode) (b : ℕ) (ss zs : Row ASubst) →
      Alike g All (contents inner mode b ss) (contents inner mode b zs)
  unfolding contents
  alike_contents mode b ss zs =
      alike_then (alike_many SameHeld (a_piece inner mode b) (a_piece inner mode b) (alike_piece mode b)
      (word_so_far 0 ss)
      (word_so_far 0 zs) refl) (λ x y so. alike_give tt)

  -- a word goes the same way, and stands at the same place
  pub alike_word : Alike g SamePlace (a_word inner) (a_word inner)
  unfolding a_word
  alike_word = alike_see (λ p. alike_then
      (alike_token {R = λ x y. x.1 ≡ y.1} (alike_contents _ p [] []) (λ a b z so. refl)) (λ x y so. alike_give so))

  -- ---- commands, if what may be opened goes the same way

  -- what is wrong with a token is the same in both
  alike_wrong : (n : Next) → Alike g (λ x y. x ≡ y) (what_is_wrong inner n) (what_is_wrong inner n)
  unfolding what_is_wrong
  alike_wrong n =
      alike_pick (begins_word n.token) _ refl (alike_see (λ p. alike_then alike_word (λ w v so. alike_give refl)))
      (alike_then (alike_comment n n refl) (λ c d so. rw (← so) (alike_see (λ p. alike_see (λ w. alike_give refl)))))

  -- a token that may not stand here stops both
  pub alike_unexpected : {X : Type 0} {S : X → X → Type 0} (n : Next) →
      Alike g S (unexpected inner n) (unexpected inner n)
  alike_unexpected n = alike_then (alike_wrong n) (λ w v so. rw (← so) alike_stop)

  -- a word or an assignment goes the same way, with the same token after it
  pub alike_item : (i j : ItemsSoFar) (position : Position) →
      Alike g (SameStep SameItems) (an_item inner i position) (an_item inner j position)
  unfolding an_item
  alike_item i j position =
      alike_then alike_word (λ w v so. alike_pushed
      (alike_then (alike_next position) (λ n m same. alike_give (refl, same))))

  -- the word of a redirection goes the same way, at the same place and of the same bytes
  alike_target : Alike g SameTarget (a_target inner) (a_target inner)
  unfolding a_target
  alike_target = alike_then (alike_next _)
      (λ n m same. rw (← same) (alike_pick (is_word n.token) _ refl
      (alike_with_bytes alike_word (λ a b k so. (so, refl))) (alike_unexpected n)))

  -- a redirection goes the same way, with the same token after it, whatever items were read before it
  alike_redirect : (broken pale : Bool) (position : Position) (is js : Row AnItem) (n : Next)
      → Alike g (SameStep SameItems) (one_redirect inner broken position is n) (one_redirect inner pale position js n)
  unfolding one_redirect
  alike_redirect broken pale position is js n =
      alike_see (λ p. alike_then (alike_number n)
      (λ d e so. rw (← so) (alike_then (alike_operator_by p (redirect_operator_of d.1.token))
      (λ o q same. alike_then alike_target
      (λ w v all. alike_then (alike_document_at o q w v same all)
      (λ h i docs. alike_pushed (alike_then (alike_next position)
      (λ m k is_next. alike_give (refl, is_next)))))))))

  alike_redirect_at : (broken pale : Bool) (p q : Position) (is js : Row AnItem) (n m : Next) → p ≡ q → n ≡ m
      → Alike g (SameStep SameItems) (one_redirect inner broken p is n) (one_redirect inner pale q js m)
  alike_redirect_at broken pale p q is js n m one two = rw (← one, ← two) (alike_redirect broken pale p is js n)

  -- an item of either kind, a turn over items, and a simple command go the same way
  alike_item_by : (i j : ItemsSoFar) (position : Option Position) → SameItems i j →
      Alike g (SameStep SameItems) (item_by inner i position) (item_by inner j position)
  alike_item_by i j (Some position) same = alike_item i j position
  alike_item_by i j None same =
      alike_pick _ _ (ap (λ (n : Next). begins_redirect n.token) same.1)
      (alike_redirect_at (breaks i) (breaks j) (after_redirect i.position)
      (after_redirect j.position) i.items j.items i.next j.next (ap after_redirect same.0) same.1)
      (alike_give same)

  alike_item_turn : (i j : ItemsSoFar) → SameItems i j →
      Alike g (SameStep SameItems) (item_turn inner i) (item_turn inner j)
  unfolding item_turn
  alike_item_turn i j same = subst
      (λ (n : Next). Alike g (SameStep SameItems) (item_by inner i (after_word i.next.token))
      (item_by inner j (after_word n.token))) same.1 (alike_item_by i j (after_word i.next.token) same)

  alike_simple : (i j : ItemsSoFar) → SameItems i j → Alike g SameNext (a_simple inner i) (a_simple inner j)
  unfolding a_simple
  alike_simple i j same = alike_then
      (alike_many SameItems (item_turn inner) (item_turn inner) alike_item_turn i j same)
      (λ is js so. alike_give so.1)

  -- the redirections after a compound command go the same way
  alike_redirect_turn : (i j : ItemsSoFar) → SameItems i j →
      Alike g (SameStep SameItems) (redirect_turn inner i) (redirect_turn inner j)
  unfolding redirect_turn
  alike_redirect_turn i j same =
      alike_pick _ _ (ap (λ (n : Next). begins_redirect n.token) same.1)
      (alike_redirect_at _ _ Command Command i.items j.items i.next j.next refl same.1) (alike_give same)

  alike_with_redirect_list : (c d : ACommand × Next) → SameNext c d →
      Alike g SameNext (with_redirect_list inner c) (with_redirect_list inner d)
  unfolding with_redirect_list
  alike_with_redirect_list c d same =
      alike_then (alike_many SameItems (redirect_turn inner) (redirect_turn inner) alike_redirect_turn
      (items_so_far [] Command c.1) (items_so_far [] Command d.1) (refl, same)) (λ i j so. alike_give so.1)

  -- a compound command goes the same way by its opener; where there is none, both stop
  pub alike_compound_by : (n : Next) (o : Option Opener) →
      Alike g SameNext (compound_by inner n o) (compound_by inner n o)
  alike_compound_by n (Some o) = alike_then (fits.compound o) alike_with_redirect_list
  alike_compound_by n None = alike_unexpected n

  -- a function, the command that begins with a word, and whichever begins here go the same way
  alike_named_function : (good : Bool) (w v : AWord) → SamePlace w v →
      Alike g SameNext (named_function inner good (word_span w)) (named_function inner good (word_span v))
  alike_named_function good w v same =
      alike_pick good _ refl (subst (λ z. Alike g SameNext (inner.function (word_span w)) (inner.function z)) same
      (fits.function (word_span w))) (alike_stop_at (ap (λ (s : Span). s.start) same))

  alike_word_command : Alike g SameNext (a_word_command inner) (a_word_command inner)
  unfolding a_word_command
  alike_word_command =
      alike_see (λ good. alike_then alike_word (λ w v so. alike_then (alike_next _) (λ n m same.
      alike_pick _ _ (ap (λ (z : Next). is_paren z.token) same) (alike_named_function good w v so)
      (alike_pushed (alike_simple (items_so_far _ Suffix n) (items_so_far _ Suffix m) (refl, same))))))

  alike_command : (n : Next) → Alike g SameNext (a_command inner n) (a_command inner n)
  unfolding a_command
  alike_command n =
      alike_pick (is_word n.token) _ refl alike_word_command
      (alike_pick (begins_simple n.token) _ refl
      (alike_simple (items_so_far [] Command n) (items_so_far [] Command n) (refl, refl))
      (alike_compound_by n (opener_of n.token)))

  -- ---- pipelines, and-or lists and entries

  -- `!` goes the same way, if it stands here
  alike_bang : (n : Next) → Alike g SameNext (a_bang n) (a_bang n)
  unfolding a_bang
  alike_bang n =
      alike_pick (is_bang n.token) _ refl
      (alike_then alike_mark (λ x y so. alike_then (alike_next _) (λ m k same. alike_give same)))
      (alike_give refl)

  -- one more command after a `|`, a turn over them, and the pipeline go the same way
  alike_one_command : (p q : PipesSoFar) → SamePipes p q →
      Alike g (SameStep SamePipes) (one_command inner p) (one_command inner q)
  unfolding one_command
  alike_one_command p q same =
      alike_then alike_mark (λ x y all. alike_then
      (alike_join p.next.broken q.next.broken (ap (λ (n : Next). n.broken) same))
      (λ j k so. alike_then (alike_at (a_command inner) alike_command j.1 k.1 so)
      (λ c d so'. alike_pushed (alike_give so'))))

  alike_pipe_turn : (p q : PipesSoFar) → SamePipes p q →
      Alike g (SameStep SamePipes) (pipe_turn inner p) (pipe_turn inner q)
  unfolding pipe_turn
  alike_pipe_turn p q same = alike_pick _ _ (ap (λ (n : Next). is_pipe n.token) same) (alike_one_command p q same)
      (alike_give same)

  alike_pipeline : (n : Next) → Alike g SameNext (a_pipeline inner n) (a_pipeline inner n)
  unfolding a_pipeline
  alike_pipeline n =
      alike_then (alike_bang n) (λ b d so. alike_then (alike_at (a_command inner) alike_command b.1 d.1 so)
      (λ c e so'. alike_then (alike_many SamePipes (pipe_turn inner) (pipe_turn inner) alike_pipe_turn
      (pipes_so_far [] c.1)
      (pipes_so_far [] e.1) so') (λ p q so''. alike_give so'')))

  -- one more pipeline after `&&` or `||`, a turn over them, and the and-or list go the same way
  alike_one_pipeline : (a b : AndOrSoFar) (o : AndOrOperator) → SameAndOrs a b →
      Alike g (SameStep SameAndOrs) (one_pipeline inner a o) (one_pipeline inner b o)
  unfolding one_pipeline
  alike_one_pipeline a b o same =
      alike_then (alike_token {R = All} (alike_on (alike_move {S = All} tt)) (λ x y z so. tt))
      (λ x y all. alike_then (alike_join a.next.broken b.next.broken (ap (λ (n : Next). n.broken) same))
      (λ j k so. alike_then (alike_at (a_pipeline inner) alike_pipeline j.1 k.1 so)
      (λ p q so'. alike_pushed (alike_give so'))))

  alike_joined_by : (a b : AndOrSoFar) (o : Option AndOrOperator) → SameAndOrs a b →
      Alike g (SameStep SameAndOrs) (joined_by inner a o) (joined_by inner b o)
  alike_joined_by a b (Some o) same = alike_one_pipeline a b o same
  alike_joined_by a b None same = alike_give same

  alike_and_or_turn : (a b : AndOrSoFar) → SameAndOrs a b →
      Alike g (SameStep SameAndOrs) (and_or_turn inner a) (and_or_turn inner b)
  unfolding and_or_turn
  alike_and_or_turn a b same =
      subst (λ (n : Next). Alike g (SameStep SameAndOrs) (joined_by inner a (and_or_operator_of a.next.token))
      (joined_by inner b (and_or_operator_of n.token))) same
      (alike_joined_by a b (and_or_operator_of a.next.token) same)

  alike_and_or : (n : Next) → Alike g SameNext (an_and_or inner n) (an_and_or inner n)
  unfolding an_and_or
  alike_and_or n =
      alike_then (alike_pipeline n)
      (λ p q same. alike_then (alike_many SameAndOrs (and_or_turn inner)
      (and_or_turn inner) alike_and_or_turn (and_or_so_far [] p.1) (and_or_so_far [] q.1) same)
      (λ a b so. alike_give so))

  -- an entry goes the same way, whether it is blank or not
  pub alike_entry : (blank pale : Bool) (n : Next) →
      Alike g SameEntered (an_entry inner blank n) (an_entry inner pale n)
  unfolding an_entry
  alike_entry blank pale n =
      alike_then (alike_and_or n) (λ a b same. alike_then (alike_separator a.1 b.1 same)
      (λ s z same'. alike_then (alike_comment s.1 z.1 (ap (λ (x : Option ASeparator × Next). x.1) same'))
      (λ c d same''. alike_give (
        ap (λ (x : Option ASeparator × Next). past_separator x.0) same',
        ap (λ (x : Option Span × Next). x.1) same'',
      ))))
