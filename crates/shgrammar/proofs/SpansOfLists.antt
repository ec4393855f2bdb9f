-- Words, commands and lists: no span in them names an offset past the place where the
-- reading stands then, and each simple command has an item.
use Rattle.std.proofs.Common.{◌≡◌, refl, ℕ, ◌+◌, ◌≤◌, Bool, false, List as Row, [], Option, Some, None, is_some, ap, ◌∙◌, arith}
use Rattle.std.specs.Prelude.{All, MatchOption, ◌||◌}
use Rattle.std.proofs.lemmas.List.Elements.{All-nil, All-push}
use Rattle.shgrammar.specs.declared.mode.Mode.{Mode}
use Rattle.shgrammar.specs.declared.mode.Piece.{Piece}
use Rattle.shgrammar.specs.declared.mode.Piece.TheVariants as pieces
use Rattle.shgrammar.specs.declared.token.Next.{Next}
use Rattle.shgrammar.specs.declared.token.Opener.{Opener}
use Rattle.shgrammar.specs.declared.token.Position.{Position}
use Rattle.shgrammar.specs.declared.token.Position.TheVariants.{Command, Prefix, Suffix}
use Rattle.shgrammar.specs.declared.token.Separator.{Separator}
use Rattle.shgrammar.specs.declared.token.Token.{Token}
use Rattle.shast.specs.declared.tree.AndOrOperator.{AndOrOperator}
use Rattle.shast.specs.declared.tree.RedirectOperator.{RedirectOperator}
use Rattle.shast.specs.declared.tree.Span.{Span}
use Rattle.shast.specs.Nodes.{IsSpanWithin, word_span}
use Rattle.shast.specs.Tree.{ACommand, AnItem, ASubst, AWord, formed, item, items_of, simple, compound, function, with_redirects, word}
use Rattle.shgrammar.specs.Bytes.{past_continuations, past_byte}
use Rattle.shgrammar.specs.Comments.{span, comment_at}
use Rattle.shgrammar.specs.Sights.{Given, State}
use Rattle.shgrammar.specs.HereDocuments.{ADelimiter}
use Rattle.shgrammar.specs.Form.{Spelled, push, many}
use Rattle.shgrammar.specs.Words.{Inner, WordSoFar, word_so_far, opened, piece_row, a_piece, contents, a_word}
use Rattle.shgrammar.specs.Commands.{is_pipe, is_bang, begins_simple, begins_redirect, begins_pipeline, after_word, opener_of, compound_by, and_or_operator_of, breaks, ItemsSoFar, items_so_far, is_number_token, redirect_operator_of, is_strip, takes_here, document_by, a_document, a_number, an_operator, operator_by, a_target, one_redirect, after_redirect, redirect_turn, with_redirect_list, as_item, an_item, item_by, item_turn, a_simple, a_bang, a_comment, comment_by, unexpected, with_comment, JoinSoFar, join_turn, a_join, a_command, PipesSoFar, pipes_so_far, one_command, pipe_turn, a_pipeline, AndOrSoFar, and_or_so_far, one_pipeline, joined_by, and_or_turn, an_and_or, an_entry, a_word_command, is_word, is_paren, separator_of, separator_by, a_separator, past_separator}
use Rattle.shgrammar.specs.Lists.{ListSoFar, list_so_far, none_listed, one_entry, entry_turn, remark_by, a_remark, on_line, list_turn, a_list}
use Rattle.shgrammar.specs.Compounds.{a_linebreak}
use Rattle.shast.specs.Everywhere.{IsSome}
use Rattle.shgrammar.proofs.Ahead.{past_byte_is}
use Rattle.shgrammar.proofs.Places.{after_low}
use Rattle.shgrammar.proofs.Turns.{Stepped}
use Rattle.shgrammar.proofs.UpToLimit.{UpTo, adds, after, bare_token, first, follows, gives, grows, moves, picks, picks_by, pushes, repeats, sees, step_so, stepped, stops, tokens, unless, with_its_bytes}
use Rattle.shgrammar.proofs.EachSpan.{AndOrIn, AreIn, CommandIn, EntriesIn, EntryIn, HereIn, ItemIn, PartIn, PipeIn, PipelineIn, SomeIn, SubstIn, WordIn, entries_in, items_in, parts_in, pipes_in, some_pushed, substs_in}
use Rattle.shgrammar.proofs.NodesInLimit.{comment_ends}

-- ---- what holds of what was read so far

module _ (limit : ℕ) where
  -- no span in the substitutions, or in the items, goes past the limit
  abbrev pub SubstsIn : WordSoFar → Type 0
  SubstsIn h = All (SubstIn limit) h.substs

  abbrev pub ItemsIn : ItemsSoFar → Type 0
  ItemsIn i = All (ItemIn limit) i.items

  -- no span in the items goes past the limit, and there is one
  abbrev pub SomeItems : ItemsSoFar → Type 0
  SomeItems i = ItemsIn i × IsSome (items_of i.items)

  -- no span in the items goes past the limit, and there is one, or the token after them begins one
  abbrev pub ItemsBegin : ItemsSoFar → Type 0
  ItemsBegin i = ItemsIn i × (begins_simple i.next.token ≡ false → IsSome (items_of i.items))

  -- no span in the commands after a `|`, or in the pipelines after `&&` and `||`, goes past the limit
  abbrev pub PipesIn : PipesSoFar → Type 0
  PipesIn p = All (PipeIn limit) p.parts

  abbrev pub PartsIn : AndOrSoFar → Type 0
  PartsIn a = All (PartIn limit) a.parts

  -- the offset after a separator, where there is one, is not past the limit
  abbrev pub PartedIn : Option ℕ → Type 0
  PartedIn parted = MatchOption parted (Unit {0}) (λ p. p ≤ limit)

  -- no span in the entries of a list goes past the limit, nor does the offset after its last separator; nor
  -- do the comments that a join has
  abbrev pub ListIn : ListSoFar → Type 0
  ListIn l = All (EntryIn limit) l.list.entries × PartedIn l.list.parted

  abbrev pub JoinIn : JoinSoFar → Type 0
  JoinIn j = AreIn limit j.join.comments

-- no span in what may be opened goes past the limit, where that does not end above it
pub record InnerInLimit (g : Given) (limit : ℕ) (inner : Inner) : Type 0 where
  pub construct : (mode : Mode) (b : ℕ) (ss : Row ASubst) (s : State) → All (SubstIn limit) ss →
      UpTo g limit (inner.construct mode b ss) (All (SubstIn limit)) s
  pub substitution : (b : ℕ) (ss : Row ASubst) (s : State) → b ≤ g.offset + s.at → All (SubstIn limit) ss →
      UpTo g limit (inner.substitution b ss) (All (SubstIn limit)) s
  pub compound : (o : Opener) (s : State) → UpTo g limit (inner.compound o) (λ c. CommandIn limit c.0) s
  pub function : (name : Span) (s : State) → IsSpanWithin limit name →
      UpTo g limit (inner.function name) (λ c. CommandIn limit c.0) s

-- a token begins no simple command where it begins neither a word nor a redirection
none_begins : (t : Token) → after_word t ≡ None → begins_redirect t ≡ false → begins_simple t ≡ false
none_begins t no_word other = ap (λ (o : Option Position). is_some o || begins_redirect t) no_word ∙ other

module _ {g : Given} {limit : ℕ} where
  -- with one more item in which no span goes past the limit none does in all of them, and there is one
  one_more : {xs : Row AnItem} {x : AnItem} {s : State} → All (ItemIn limit) xs → ItemIn limit x →
      UpTo g limit (push xs x) (λ is. All (ItemIn limit) is × IsSome (items_of is)) s
  one_more {xs = xs} {x = x} all one = adds (All-push (ItemIn limit) xs x all one, some_pushed xs x)

  -- where a token is unexpected, nothing is read
  pub stopped : {X : Type 0} {P : X → Type 0} (inner : Inner) (n : Next) {s : State} →
      UpTo g limit (unexpected {X = X} inner n) P s
  stopped inner n = after (λ w t. stops)

  -- ---- the number, the operator and the here-document of a redirection

  -- the spans of a number and of an operator do not go past the limit
  number_in : (n : Next) (s : State) → UpTo g limit (a_number n) (λ x. SomeIn limit x.0) s
  unfolding a_number
  number_in n s = picks (is_number_token n.token) (first bare_token (λ x t one. after (λ m u. gives one))) (gives tt)

  operator_in_by : (p : ℕ) (o : Option RedirectOperator) (s : State) →
      UpTo g limit (operator_by p o) (λ x. IsSpanWithin limit x.1) s
  unfolding an_operator
  operator_in_by p (Some o) s = first bare_token (λ x t one. gives one)
  operator_in_by p None s = stops

  -- until its level ends, the body is the empty text at the start
  document_in_by : (b p : ℕ) (strip : Bool) (d : Option ADelimiter) (s : State) →
      UpTo g limit (document_by b p strip d) (HereIn limit) s
  document_in_by b p strip (Some d) s = after (λ u t. gives (omega arith, omega arith))
  document_in_by b p strip None s = stops

  -- the body of a here-document does not go past the limit, or there is none, by the operator
  document_in : (o : RedirectOperator) (b p : ℕ) (bytes : Spelled) (s : State) →
      UpTo g limit (a_document o b p bytes) (HereIn limit) s
  unfolding a_document
  document_in o b p bytes s = picks (takes_here o) (after (λ d t. document_in_by b p (is_strip o) d t)) (gives tt)

  -- ---- comments and joins

  -- a comment does not go past the limit, or there is none
  comment_in_by : (n : Next) (c : Option Span) (s : State) → comment_at g.text g.offset s.at ≡ c →
      UpTo g limit (comment_by n c) (λ x. SomeIn limit x.0) s
  comment_in_by n None s is = gives tt
  comment_in_by n (Some c) s is =
      let one = comment_ends g.text g.offset s.at c is in
      moves (unless (λ b. after (λ m u. gives (omega (arith, b, one.0), omega (arith, b, one.1)))))

  pub comment_in : (n : Next) (s : State) → UpTo g limit (a_comment n) (λ x. SomeIn limit x.0) s
  unfolding a_comment
  comment_in n s = sees (comment_in_by n (comment_at g.text g.offset s.at) s refl)

  -- comments do not go past the limit, with one more or not
  with_in : (cs : Row Span) (c : Option Span) (s : State) → AreIn limit cs → SomeIn limit c →
      UpTo g limit (with_comment cs c) (AreIn limit) s
  with_in cs (Some c) s all one = pushes (IsSpanWithin limit) all one
  with_in cs None s all one = gives all

  -- the comments of a join do not go past the limit, nor do those among newlines
  join_turn_in : (j : JoinSoFar) (s : State) → JoinIn limit j → UpTo g limit (join_turn j) (Stepped (JoinIn limit)) s
  unfolding join_turn
  join_turn_in j s so = first (comment_in j.next s)
      (λ c t one. first (with_in j.join.comments c.0 t so one)
      (λ cs u all. after (λ l v. gives (stepped (JoinIn limit) l.0 _ all))))

  join_in : (broken : Bool) (s : State) → UpTo g limit (a_join broken) (λ x. AreIn limit x.0.comments) s
  unfolding a_join
  join_in broken s = after (λ n t. first
      (repeats (JoinIn limit) join_turn join_turn_in _ t (All-nil (IsSpanWithin limit))) (λ j u all. gives all))

  pub linebreak_in : (cs : Row Span) (n : Next) (s : State) → AreIn limit cs →
      UpTo g limit (a_linebreak cs n) (JoinIn limit) s
  unfolding a_linebreak
  linebreak_in cs n s all = repeats (JoinIn limit) join_turn join_turn_in _ s all

  -- ---- what else needs nothing that may be opened

  -- the `!` of a pipeline does not go past the limit
  bang_in : (n : Next) (s : State) → UpTo g limit (a_bang n) (λ x. SomeIn limit x.0) s
  unfolding a_bang
  bang_in n s = picks (is_bang n.token) (first bare_token (λ x t one. after (λ m u. gives one))) (gives tt)

  -- the offset after a separator is not past the limit, or there is none
  separator_in_by : (n : Next) (c : Option Separator) (s : State) →
      UpTo g limit (separator_by n c) (λ x. PartedIn limit (past_separator x.0)) s
  separator_in_by n (Some c) s = first bare_token (λ x t one. after (λ m u. gives one.1))
  separator_in_by n None s = gives tt

  separator_in : (n : Next) (s : State) → UpTo g limit (a_separator n) (λ x. PartedIn limit (past_separator x.0)) s
  unfolding a_separator
  separator_in n s = separator_in_by n (separator_of n.token) s

  -- a comment on a line of its own is one more entry
  remark_in_by : (l : ListSoFar) (x : Option Span × Next) (s : State) → ListIn limit l → SomeIn limit x.0 →
      UpTo g limit (remark_by l x) (ListIn limit) s
  remark_in_by l (Some c, n) s so one = first (pushes (EntryIn limit) so.0 (one, tt)) (λ es t all. gives (all, so.1))
  remark_in_by l (None, n) s so one = gives so

  -- ---- words

  module _ {inner : Inner} (fine : InnerInLimit g limit inner) where
    -- no span in the substitutions so far goes past the limit, with a construct that opens in a word
    opened_in : (mode : Mode) (b : ℕ) (h : WordSoFar) (s : State) → SubstsIn limit h →
        UpTo g limit (opened inner mode b h) (Stepped (SubstsIn limit)) s
    opened_in mode b h s so = first (fine.construct mode b h.substs s so) (λ zs t good. gives good)

    -- no span in the substitutions so far goes past the limit, with one more piece, by its kind
    piece_in_by : (mode : Mode) (b : ℕ) (h : WordSoFar) (piece : Piece) (s : State) → SubstsIn limit h →
        UpTo g limit (piece_row inner mode b h piece) (Stepped (SubstsIn limit)) s
    piece_in_by mode b h pieces.Closer s so = after (λ x t. gives so)
    piece_in_by mode b h pieces.Missing s so = stops
    piece_in_by mode b h pieces.LoneBackslash s so = after (λ q t. stops)
    piece_in_by mode b h pieces.Escape s so = after (λ x t. after (λ y u. gives so))
    piece_in_by mode b h pieces.Single s so = after (λ x t. gives so)
    piece_in_by mode b h pieces.DollarSingle s so = after (λ x t. gives so)
    piece_in_by mode b h pieces.Double s so = after (λ q t. after (λ x u. opened_in _ q h u so))
    piece_in_by mode b h pieces.Backquote s so = after (λ x t. gives so)
    piece_in_by mode b h pieces.Pid s so = after (λ x t. after (λ y u. gives so))
    piece_in_by mode b h pieces.Subst s so =
        let p = s.at in
        let low_p : g.offset + past_continuations g.text p ≤ g.offset + past_byte g.text (past_byte g.text p) =
        omega (arith, past_byte_is g.text p, after_low g.text (past_byte g.text p)) in
        sees (moves (moves (first (fine.substitution (g.offset + past_continuations g.text p) h.substs _ low_p so)
        (λ zs t good. gives good))))
    piece_in_by mode b h pieces.Arith s so =
        after (λ q t. after (λ x u. after (λ y v. after (λ z w. opened_in _ q h w so))))
    piece_in_by mode b h pieces.Param s so =
        after (λ q t. after (λ x u. after (λ y v. after (λ z w. after (λ m a. opened_in m q h a so)))))
    piece_in_by mode b h pieces.Open s so = after (λ x t. gives so)
    piece_in_by mode b h pieces.Close s so = after (λ x t. gives so)
    piece_in_by mode b h pieces.BadClose s so = after (λ q t. stops)
    piece_in_by mode b h pieces.Ordinary s so = after (λ x t. gives so)

    piece_in : (mode : Mode) (b : ℕ) (h : WordSoFar) (s : State) → SubstsIn limit h →
        UpTo g limit (a_piece inner mode b h) (Stepped (SubstsIn limit)) s
    unfolding a_piece
    piece_in mode b h s so = after (λ piece t. piece_in_by mode b h piece t so)

    -- no span in all pieces goes past the limit, nor in a word of them; so the span of a word does not
    pub contents_in : (mode : Mode) (b : ℕ) (ss : Row ASubst) (s : State) → All (SubstIn limit) ss →
        UpTo g limit (contents inner mode b ss) (All (SubstIn limit)) s
    unfolding contents
    contents_in mode b ss s so = first
        (repeats (SubstsIn limit) (a_piece inner mode b) (piece_in mode b) (word_so_far 0 ss) s so)
        (λ h t good. gives good)

    pub word_in : (s : State) → UpTo g limit (a_word inner) (WordIn limit) s
    unfolding a_word
    word_in s = after (λ p t. first (tokens (contents_in _ p [] t (All-nil (SubstIn limit))))
        (λ w u good. gives (good.1, substs_in limit w.0 good.0)))

    place_in : (w : AWord) → WordIn limit w → IsSpanWithin limit (word_span w)
    place_in (word span substs) so = so.0

    -- ---- items

    -- no span in an item that is a word goes past the limit where none in the word does; nor does one in the
    -- items with one more, and there is one
    item_in : (position : Position) (broken : Bool) (w : AWord) → WordIn limit w →
        ItemIn limit (item broken (as_item position w))
    item_in Command broken w so = so
    item_in Prefix broken w so = so
    item_in Suffix broken w so = so

    pub one_item_in : (i : ItemsSoFar) (position : Position) (s : State) → ItemsIn limit i →
        UpTo g limit (an_item inner i position) (Stepped (SomeItems limit)) s
    unfolding an_item
    one_item_in i position s so =
        first (word_in s) (λ w t good. first (one_more so (item_in position (breaks i) w good))
        (λ is u all. after (λ n v. gives all)))

    -- ---- redirections

    -- no span in the word of a redirection goes past the limit
    target_in : (s : State) → UpTo g limit (a_target inner) (λ x. WordIn limit x.0) s
    unfolding a_target
    target_in s = after (λ n t. picks (is_word n.token) (with_its_bytes (word_in t)) (stopped inner n))

    -- no span in the items goes past the limit with one more that is a redirection, and there is one
    redirect_in : (broken : Bool) (position : Position) (is : Row AnItem) (n : Next) (s : State) → All (ItemIn limit) is
        → UpTo g limit (one_redirect inner broken position is n) (Stepped (SomeItems limit)) s
    unfolding one_redirect
    redirect_in broken position is n s so =
        after (λ p t. first (number_in n t)
        (λ d u one. first (operator_in_by p (redirect_operator_of d.1.token) u)
        (λ o v two. first (target_in v) (λ w x three.
        first (document_in o.0 o.1.start (word_span w.0).start w.1 x)
        (λ h a four. first (one_more so (one, two, three, four)) (λ js y all. after (λ m z. gives all)))))))

    -- ---- simple commands

    -- no span in the items goes past the limit with one more, or none, and there is one
    item_in_by : (i : ItemsSoFar) (o : Option Position) (s : State) → after_word i.next.token ≡ o → ItemsBegin limit i →
        UpTo g limit (item_by inner i o) (Stepped (SomeItems limit)) s
    item_in_by i (Some position) s is so = one_item_in i position s so.0
    item_in_by i None s is so =
        picks_by (begins_redirect i.next.token)
        (λ yes. redirect_in (breaks i) (after_redirect i.position) i.items i.next s so.0)
        (λ no. gives (so.0, so.1 (none_begins i.next.token is no)))

    item_turn_in : (i : ItemsSoFar) (s : State) → ItemsBegin limit i →
        UpTo g limit (item_turn inner i) (Stepped (SomeItems limit)) s
    unfolding item_turn
    item_turn_in i s so = item_in_by i (after_word i.next.token) s refl so

    -- no span in the items of a simple command goes past the limit, and there is one
    simple_in : (i : ItemsSoFar) (s : State) → ItemsBegin limit i →
        UpTo g limit (a_simple inner i) (λ c. CommandIn limit c.0) s
    unfolding a_simple
    simple_in i s so =
        first (grows (ItemsBegin limit) (SomeItems limit) (item_turn inner) item_turn_in
        (λ j all. (all.0, λ no. all.1)) i s so) (λ is t all. gives (all.1, items_in limit is.items all.0))

    -- ---- commands

    -- no span in a command goes past the limit, with the redirections after it
    redirect_turn_in : (i : ItemsSoFar) (s : State) → ItemsIn limit i →
        UpTo g limit (redirect_turn inner i) (Stepped (ItemsIn limit)) s
    unfolding redirect_turn
    redirect_turn_in i s so =
        picks (begins_redirect i.next.token)
        (follows (redirect_in i.next.broken Command i.items i.next s so)
        (step_so (SomeItems limit) (ItemsIn limit) (λ j all. all.0))) (gives so)

    with_redirects_in : (c : ACommand) (is : Row AnItem) → CommandIn limit c → All (ItemIn limit) is →
        CommandIn limit (with_redirects c (items_of is))
    with_redirects_in (simple items) is so all = so
    with_redirects_in (compound (formed form span others)) is so all = (so.0, so.1, items_in limit is all)
    with_redirects_in (function name comments body) is so all = so

    with_redirect_list_in : (c : ACommand × Next) (s : State) → CommandIn limit c.0 →
        UpTo g limit (with_redirect_list inner c) (λ d. CommandIn limit d.0) s
    unfolding with_redirect_list
    with_redirect_list_in c s so =
        first (repeats (ItemsIn limit) (redirect_turn inner) redirect_turn_in (items_so_far [] Command c.1) s
        (All-nil (ItemIn limit))) (λ r t all. gives (with_redirects_in c.0 r.items so all))

    -- no span in a compound command goes past the limit, with its redirections, where the token is an opener
    pub compound_in_by : (n : Next) (o : Option Opener) (s : State) →
        UpTo g limit (compound_by inner n o) (λ c. CommandIn limit c.0) s
    compound_in_by n (Some o) s = first (fine.compound o s) with_redirect_list_in
    compound_in_by n None s = stopped inner n

    -- no span in what begins with a word goes past the limit, a function or a simple command
    word_command_in : (s : State) → UpTo g limit (a_word_command inner) (λ c. CommandIn limit c.0) s
    unfolding a_word_command
    word_command_in s =
        after (λ good t. first (word_in t) (λ w u one. after (λ n v.
        picks (is_paren n.token) (picks good (fine.function (word_span w) v (place_in w one)) stops)
        (first (one_more (All-nil (ItemIn limit)) one)
        (λ is x all. simple_in (items_so_far is Suffix n) x (all.0, λ no. all.1))))))

    -- no span in a command goes past the limit, by its first token
    command_in : (n : Next) (s : State) → UpTo g limit (a_command inner n) (λ c. CommandIn limit c.0) s
    unfolding a_command
    command_in n s =
        picks (is_word n.token) (word_command_in s)
        (picks_by (begins_simple n.token)
        (λ yes. simple_in (items_so_far [] Command n) s (All-nil (ItemIn limit), λ no. absurd (cc)))
        (λ no. compound_in_by n (opener_of n.token) s))

    -- no span in a pipeline goes past the limit, with one more command after a `|`, or none, and as a whole
    one_command_in : (p : PipesSoFar) (s : State) → PipesIn limit p →
        UpTo g limit (one_command inner p) (Stepped (PipesIn limit)) s
    unfolding one_command
    one_command_in p s so =
        after (λ x t. first (join_in p.next.broken t)
        (λ j u one. first (command_in j.1 u)
        (λ c v two. first (pushes (PipeIn limit) so (one, two)) (λ ps w all. gives all))))

    pipe_turn_in : (p : PipesSoFar) (s : State) → PipesIn limit p →
        UpTo g limit (pipe_turn inner p) (Stepped (PipesIn limit)) s
    unfolding pipe_turn
    pipe_turn_in p s so = picks (is_pipe p.next.token) (one_command_in p s so) (gives so)

    pipeline_in : (n : Next) (s : State) → UpTo g limit (a_pipeline inner n) (λ p. PipelineIn limit p.0) s
    unfolding a_pipeline
    pipeline_in n s =
        first (bang_in n s) (λ b t one. first (command_in b.1 t)
        (λ c u two. first (repeats (PipesIn limit) (pipe_turn inner) pipe_turn_in (pipes_so_far [] c.1) u
        (All-nil (PipeIn limit)))
        (λ p v all. gives (one, two, pipes_in limit p.parts all))))

    -- no span in an and-or list goes past the limit, with one more pipeline after `&&` or `||`, or none, and
    -- as a whole
    one_pipeline_in : (a : AndOrSoFar) (o : AndOrOperator) (s : State) → PartsIn limit a →
        UpTo g limit (one_pipeline inner a o) (Stepped (PartsIn limit)) s
    unfolding one_pipeline
    one_pipeline_in a o s so =
        after (λ x u. first (join_in a.next.broken u)
        (λ j v one. first (pipeline_in j.1 v)
        (λ p w two. first (pushes (PartIn limit) so (one, two)) (λ ps z all. gives all))))

    joined_in_by : (a : AndOrSoFar) (o : Option AndOrOperator) (s : State) → PartsIn limit a →
        UpTo g limit (joined_by inner a o) (Stepped (PartsIn limit)) s
    joined_in_by a (Some o) s so = one_pipeline_in a o s so
    joined_in_by a None s so = gives so

    and_or_turn_in : (a : AndOrSoFar) (s : State) → PartsIn limit a →
        UpTo g limit (and_or_turn inner a) (Stepped (PartsIn limit)) s
    unfolding and_or_turn
    and_or_turn_in a s so = joined_in_by a (and_or_operator_of a.next.token) s so

    and_or_in : (n : Next) (s : State) → UpTo g limit (an_and_or inner n) (λ a. AndOrIn limit a.0) s
    unfolding an_and_or
    and_or_in n s =
        first (pipeline_in n s) (λ p t one. first
        (repeats (PartsIn limit) (and_or_turn inner) and_or_turn_in (and_or_so_far [] p.1) t
        (All-nil (PartIn limit)))
        (λ a u all. gives (one, parts_in limit a.parts all)))

    -- no span in an entry goes past the limit, nor does the offset after its separator
    entry_in : (blank : Bool) (n : Next) (s : State) →
        UpTo g limit (an_entry inner blank n) (λ e. EntryIn limit e.entry × PartedIn limit e.parted) s
    unfolding an_entry
    entry_in blank n s = first (and_or_in n s)
        (λ a t one. first (separator_in a.1 t)
        (λ z u part. first (comment_in z.1 u) (λ c v two. gives ((one, two), part))))

    -- ---- lists

    -- no span in a list goes past the limit, with one more entry, or none, and with all that stands on a line
    one_entry_in : (l : ListSoFar) (s : State) → ListIn limit l →
        UpTo g limit (one_entry inner l) (Stepped (ListIn limit)) s
    unfolding one_entry
    one_entry_in l s so = first (entry_in _ l.next s)
        (λ e t one. first (pushes (EntryIn limit) so.0 one.0)
        (λ es u all. gives (stepped (ListIn limit) (is_some e.parted) _ (all, one.1))))

    entry_turn_in : (l : ListSoFar) (s : State) → ListIn limit l →
        UpTo g limit (entry_turn inner l) (Stepped (ListIn limit)) s
    unfolding entry_turn
    entry_turn_in l s so = picks (begins_pipeline l.next.token) (one_entry_in l s so) (gives so)

    pub on_line_in : (l : ListSoFar) (s : State) → ListIn limit l → UpTo g limit (on_line inner l) (ListIn limit) s
    unfolding on_line a_remark
    on_line_in l s so =
        first (repeats (ListIn limit) (entry_turn inner) entry_turn_in l s so)
        (λ m t all. first (comment_in m.next t) (λ x u one. remark_in_by m x u all one))

    -- no span in a list goes past the limit, with one more line, or none, and with all of them
    list_turn_in : (l : ListSoFar) (s : State) → ListIn limit l →
        UpTo g limit (list_turn inner l) (Stepped (ListIn limit)) s
    unfolding list_turn
    list_turn_in l s so = first (on_line_in l s so) (λ m t all. after (λ x u. gives (stepped (ListIn limit) x.0 _ all)))

    pub lines_in : (n : Next) (s : State) →
        UpTo g limit (many (list_turn inner) (list_so_far (none_listed false) n)) (ListIn limit) s
    lines_in n s = repeats (ListIn limit) (list_turn inner) list_turn_in (list_so_far (none_listed false) n) s
        (All-nil (EntryIn limit), tt)

    -- no span in a list that has a command goes past the limit
    pub list_in : (n : Next) (s : State) → UpTo g limit (a_list inner n) (λ l. EntriesIn limit l.0) s
    unfolding a_list
    list_in n s = first (lines_in n s)
        (λ l t all. picks l.list.commands (gives (entries_in limit l.list.entries all.0)) (stopped inner l.next))
