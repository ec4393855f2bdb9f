-- Commands, and what joins them to an entry of a list: each turn over them leads on.
use Rattle.std.proofs.Common.{◌≡◌, ℕ, ◌<◌, Bool, true, false, List, List as Row, [], Option, Some, None, is_some, refl, ap, arith}
use Rattle.shgrammar.specs.declared.token.Next.{Next}
use Rattle.shgrammar.specs.declared.token.Opener.{Opener}
use Rattle.shgrammar.specs.declared.token.Position.{Position}
use Rattle.shgrammar.specs.declared.token.Position.TheVariants.{Command, Suffix}
use Rattle.shgrammar.specs.declared.token.Separator.{Separator}
use Rattle.shgrammar.specs.declared.token.Token.{Token}
use Rattle.shgrammar.specs.declared.token.Token.TheVariants as tokens
use Rattle.shast.specs.declared.tree.AndOrOperator.{AndOrOperator}
use Rattle.shast.specs.declared.tree.RedirectOperator.{RedirectOperator}
use Rattle.shast.specs.declared.tree.Span.{Span}
use Rattle.shast.specs.Nodes.{word_span}
use Rattle.shast.specs.Tree.{ACommand, AnItem}
use Rattle.shgrammar.specs.Comments.{comment_at}
use Rattle.shgrammar.specs.HereDocuments.{ADelimiter, first_waiting}
use Rattle.shgrammar.specs.Form.{Form, Spelled, Telling, both, give, leads_on, move, moved_on, token, ◌>>=◌}
use Rattle.shgrammar.specs.Shows.{IsRead}
use Rattle.shgrammar.specs.Sights.{Given, State, one_byte}
use Rattle.shgrammar.specs.Words.{Inner}
use Rattle.shgrammar.specs.Commands.{ItemsSoFar, AndOrSoFar, JoinSoFar, PipesSoFar, a_bang, a_command, a_comment, a_document, a_join, a_newline, a_number, a_pipeline, a_semicolon, a_separator, a_simple, a_target, a_word_command, an_and_or, an_entry, an_item, an_operator, and_or_operator_of, begins_redirect, begins_simple, begins_word, after_redirect, after_word, breaks, comment_by, compound_by, document_by, is_bang, is_long, is_newline_token, is_number_token, is_paren, is_pipe, is_semicolon, is_strip, is_word, item_by, item_turn, and_or_turn, join_turn, joined_by, and_or_so_far, next_token, none_waits, nothing_waits, one_command, one_pipeline, one_redirect, opener_of, operator_by, pipe_turn, pipes_so_far, redirect_operator_of, redirect_turn, with_redirect_list, separator_by, separator_of, items_so_far, takes_here, unexpected, what_is_wrong, with_comment}
use Rattle.shgrammar.proofs.MovedTrees.{parted_some}
use Rattle.shgrammar.proofs.Places.{after_low}
use Rattle.shgrammar.proofs.Shown.{no_end, shown_in}
use Rattle.shlaws.proofs.Forms.{Goes, Steps, ahead, beyond, changing, first, follows, gives, leads_byte, leads_far, leads_from, led, led_on, moves, moves_to, picks, picks_by, pushes, repeats, sees, step_by, stops, tokens as one_token, with_the_bytes}
use Rattle.shlaws.proofs.Words.{All, Begins, InnerOnward, word_on}

module _ (g : Given) where
  -- the text that is given
  abbrev T : List ℕ
  T = g.text

  -- what was read, and the token after it
  abbrev pub HandsOn : {X : Type 0} → X × Next → State → Type 0
  HandsOn x t = Begins g x.1 t

  -- the same, and less is left than at s
  abbrev pub Further : {X : Type 0} → State → X × Next → State → Type 0
  Further s x t = Begins g x.1 t × (leads_on g s t ≡ true)

  -- the same, where the answer is yes
  abbrev pub FurtherIf : State → Bool × Next → State → Type 0
  FurtherIf s x t = Begins g x.1 t × (x.0 ≡ true → leads_on g s t ≡ true)

  -- ---- tokens

  -- the next token is read so: the one in hand is the token that begins where the reading then stands
  pub next_on : (position : Position) (s : State) → Goes g (next_token position) (Begins g) s
  unfolding next_token
  next_on position s = sees g (moves g (gives g (shown_in g.edition position T s.at)))

  -- and then what was read is given with it
  pub next_given : {X : Type 0} {x : X} (position : Position) (s : State)
      → Goes g (next_token position >>= λ n. give (x, n)) HandsOn s
  next_given position s = first g (next_on position s) (λ n t good. gives g good)

  -- where the token passes such a test a byte is read
  pub read_here : (test : Token → Bool) → test tokens.End ≡ false → (n : Next) (s : State) → Begins g n s
      → test n.token ≡ true → IsRead T s.at
  read_here test none n s so is = so.read (no_end test none n.token is)

  -- where a byte is read, less is left after one byte, and after two
  byte_leads : (s : State) → IsRead T s.at → leads_on g s (moved_on one_byte g s) ≡ true
  byte_leads s read = leads_byte g s (moved_on one_byte g s) read (after_low T s.at)

  two_lead : (s : State) → IsRead T s.at → leads_on g s (moved_on one_byte g (moved_on one_byte g s)) ≡ true
  two_lead s read =
      let t = moved_on one_byte g s in
      let on = byte_leads s read in
      leads_far g s s t (moved_on one_byte g t) (omega arith) (omega (arith, after_low T t.at)) on

  -- a token of one byte leads on, where that byte is read
  pub byte_passed : {how : Telling} (s : State) → IsRead T s.at
      → Goes g (token how (move one_byte)) (λ x t. leads_on g s t ≡ true) s
  byte_passed s read = one_token g {P = λ x t. leads_on g s t ≡ true} (moves_to g (byte_leads s read))

  -- ---- comments, and what is unexpected

  -- P holds of the token after a comment, or of the one in hand, where it holds of each that begins there
  comment_so : (P : Next → State → Type 0) → ((m : Next) (t : State) → Begins g m t → P m t)
      → (n : Next) (s : State) → P n s → Goes g (a_comment n) (λ x t. P x.1 t) s
  unfolding a_comment
  comment_so P holds n s so = sees g (by (comment_at T g.offset s.at))
    where
      by : (c : Option Span) → Goes g (comment_by n c) (λ x t. P x.1 t) s
      by (Some c) = moves g (first g (next_on Command _) (λ m u good. gives g (holds m u good)))
      by None = gives g so

  -- so the token after a comment is the one that begins there
  pub comment_on : (n : Next) (s : State) → Begins g n s → Goes g (a_comment n) HandsOn s
  comment_on n s so = comment_so (Begins g) (λ m t good. good) n s so

  -- the comment that is kept, and then the rest
  kept : {Y : Type 0} {Q : Y → State → Type 0} {q : Row Span → Form Y} {s : State} (cs : Row Span)
      (c : Option Span) → ((ds : Row Span) → Goes g (q ds) Q s)
      → Goes g (both (with_comment cs c) q) Q s
  kept cs (Some c) rest = pushes g (rest _)
  kept {Q = Q} {q = q} cs None rest = first g {P = λ x t. Goes g (q x) Q t} (gives g (rest cs)) (λ x t so. so)

  -- ---- newlines and `;`

  -- a newline token is read so with the bodies after it: then less is left; any other token stays in hand
  pub newline_on : (n : Next) (s : State) → Begins g n s → Goes g (a_newline n) (FurtherIf s) s
  unfolding a_newline
  newline_on n s so =
      picks_by g (is_newline_token n.token)
      (λ e. let on = byte_leads s (read_here is_newline_token refl n s so e) in
      moves g (follows g (led_on g s on (first g (changing g) (λ x t one. next_given Command t)))
      (λ x u good. (good.0, λ f. good.1))))
      (λ e. gives g (so, λ f. absurd cc))

  -- a `;` is read so, and hands on the token after it; any other token stays in hand
  pub semicolon_on : (n : Next) (s : State) → Begins g n s → Goes g (a_semicolon n) HandsOn s
  unfolding a_semicolon
  semicolon_on n s so = picks g (is_semicolon n.token) (moves g (next_given Command _)) (gives g so)

  -- the test that no here-document waits is read so
  waits_on : (o : Option ℕ) (s : State) → Goes g (none_waits o) (All g) s
  waits_on (Some b) s = stops g
  waits_on None s = gives g tt

  pub nothing_on : (s : State) → Goes g nothing_waits (All g) s
  unfolding nothing_waits
  nothing_on s = sees g (waits_on (first_waiting s) s)

  -- ---- joins

  -- the token after what a join has so far is the one that begins there
  abbrev pub JoinShown : JoinSoFar → State → Type 0
  JoinShown j t = Begins g j.next t

  -- each turn over the comments and newlines of a join leads on
  pub join_turn_on : (j : JoinSoFar) (s : State) → Begins g j.next s
      → Goes g (join_turn j) (Steps g JoinShown s) s
  unfolding join_turn
  join_turn_on j s so =
      first g (ahead g (comment_on j.next s so))
      (λ c t one. kept j.join.comments c.0 (λ cs. first g (newline_on c.1 t one.0)
      (λ l u two. gives g (step_by g JoinShown s l.0 _ u (λ e. leads_from g s t u one.1 (two.1 e)) two.0))))

  -- a join is read so, and hands on the token after it
  pub join_on : (broken : Bool) (s : State) → Goes g (a_join broken) HandsOn s
  unfolding a_join
  join_on broken s =
      first g (next_on Command s) (λ n t so. first g (repeats g JoinShown join_turn_on _ t so)
      (λ j u good. gives g good))

  -- the token after the items so far is the one that begins there
  abbrev pub ItemsShown : ItemsSoFar → State → Type 0
  ItemsShown i t = Begins g i.next t

  module _ (inner : Inner) (fine : InnerOnward g inner) where
    -- what is wrong with a token that no row takes is read so
    wrong_on : (n : Next) (s : State) → Goes g (what_is_wrong inner n) (All g) s
    unfolding what_is_wrong
    wrong_on n s =
        picks g (begins_word n.token) (sees g (first g (word_on g inner fine s) (λ w t so. gives g tt)))
        (first g (comment_so (All g) (λ m t good. tt) n s tt) (λ c t so. sees g (sees g (gives g tt))))

    -- where the token in hand is unexpected, nothing is read of which P has to hold
    pub stopped : {X : Type 0} {P : X → State → Type 0} (n : Next) {s : State}
        → Goes g (unexpected {X = X} inner n) P s
    stopped n {s = s} = first g (wrong_on n s) (λ w t so. stops g)

    -- ---- items

    -- an item that is a word: such a word has moved
    pub item_on : (i : ItemsSoFar) (position : Position) (s : State) → Begins g i.next s
        → begins_word i.next.token ≡ true → Goes g (an_item inner i position) (Steps g ItemsShown s) s
    unfolding an_item
    item_on i position s so is =
        let read = read_here begins_word refl i.next s so is in
        first g (word_on g inner fine s)
        (λ w t on. led g ItemsShown s (leads_byte g s t read (on (so.word is)))
        (pushes g (first g (next_on position t) (λ n u good. gives g good))))

    -- ---- redirections

    -- the number of a redirection, if it has one, is read so, and hands on the token after it
    number_on : (n : Next) (s : State) → Begins g n s → Goes g (a_number n) HandsOn s
    unfolding a_number
    number_on n s so =
        picks g (is_number_token n.token)
        (first g (one_token g {P = All g} (moves_to g tt)) (λ x t one. next_given Suffix t))
        (gives g so)

    -- the operator of a redirection is read so, and the reading has moved
    operator_on : (o : RedirectOperator) (s : State) → Goes g (an_operator o) (λ x t. s.at < t.at) s
    unfolding an_operator
    operator_on o s =
        one_token g {P = λ x t. s.at < t.at} (moves g (beyond g s.at (after_low T s.at)
        (first g (picks g {P = All g} (is_long o) (moves_to g tt) (gives g tt))
        (λ x t one. picks g {P = All g} (is_strip o) (moves_to g tt) (gives g tt)))))

    -- where the token in hand is such an operator, less is left after it; else the reading stops
    operator_on_by : (p : ℕ) (n : Next) (s : State) → Begins g n s → (o : Option RedirectOperator)
        → redirect_operator_of n.token ≡ o → Goes g (operator_by p o) (λ x t. leads_on g s t ≡ true) s
    operator_on_by p n s so (Some o) is =
        let read = read_here (λ t. is_some (redirect_operator_of t)) refl n s so (ap is_some is) in
        first g (operator_on o s) (λ x t on. gives g (leads_byte g s t read on))
    operator_on_by p n s so None is = stops g

    -- the word of a redirection is read so
    target_on : (s : State) → Goes g (a_target inner) (All g) s
    unfolding a_target
    target_on s =
        first g (next_on Suffix s)
        (λ n t so. picks g (is_word n.token)
        (follows g (with_the_bytes g (word_on g inner fine t)) (λ x u one. tt)) (stopped n))

    -- so it is with a here-document of any delimiter, or none
    document_on_by : (b p : ℕ) (strip : Bool) (d : Option ADelimiter) (s : State)
        → Goes g (document_by b p strip d) (All g) s
    document_on_by b p strip (Some d) s = first g (changing g) (λ x t one. gives g tt)
    document_on_by b p strip None s = stops g

    -- and with the here-document of any redirection, which may have none
    document_on : (o : RedirectOperator) (b p : ℕ) (bytes : Spelled) (s : State)
        → Goes g (a_document o b p bytes) (All g) s
    unfolding a_document
    document_on o b p bytes s =
        picks g (takes_here o) (sees g (document_on_by b p (is_strip o) _ s)) (gives g tt)

    -- a redirection leads on, and hands on the token after it
    redirect_on : (broken : Bool) (position : Position) (is : Row AnItem) (n : Next) (s : State)
        → Begins g n s
        → Goes g (one_redirect inner broken position is n) (Steps g ItemsShown s) s
    unfolding one_redirect
    redirect_on broken position is n s so =
        sees g (first g (ahead g (number_on n s so))
        (λ d t one. first g (operator_on_by _ d.1 t one.0 (redirect_operator_of d.1.token) refl)
        (λ o u on. led g ItemsShown s (leads_from g s t u one.1 on)
        (first g (target_on u) (λ w v two. first g (document_on o.0 _ _ w.1 v)
        (λ h x three. pushes g (first g (next_on position x) (λ m y good. gives g good))))))))

    -- ---- simple commands

    -- a word, an assignment or a redirection leads on; any other token ends the items
    item_on_by : (i : ItemsSoFar) (s : State) → Begins g i.next s → (o : Option Position)
        → after_word i.next.token ≡ o → Goes g (item_by inner i o) (Steps g ItemsShown s) s
    item_on_by i s so (Some position) is = item_on i position s so (ap is_some is)
    item_on_by i s so None is =
        picks g (begins_redirect i.next.token)
        (redirect_on (breaks i) (after_redirect i.position) i.items i.next s so) (gives g so)

    -- so each turn over the items of a simple command leads on
    item_turn_on : (i : ItemsSoFar) (s : State) → Begins g i.next s
        → Goes g (item_turn inner i) (Steps g ItemsShown s) s
    unfolding item_turn
    item_turn_on i s so = item_on_by i s so (after_word i.next.token) refl

    -- a simple command is read so, and hands on the token after it
    simple_on : (i : ItemsSoFar) (s : State) → Begins g i.next s → Goes g (a_simple inner i) HandsOn s
    unfolding a_simple
    simple_on i s so = first g (repeats g ItemsShown item_turn_on i s so) (λ j t good. gives g good)

    -- ---- pipelines

    -- each turn over the redirections after a compound command leads on
    redirect_turn_on : (i : ItemsSoFar) (s : State) → Begins g i.next s
        → Goes g (redirect_turn inner i) (Steps g ItemsShown s) s
    unfolding redirect_turn
    redirect_turn_on i s so =
        picks g (begins_redirect i.next.token)
        (redirect_on i.next.broken Command i.items i.next s so) (gives g so)

    -- all of them are read so, and hand on the token after them
    with_redirect_list_on : (c : ACommand × Next) (s : State) → Begins g c.1 s →
        Goes g (with_redirect_list inner c) HandsOn s
    unfolding with_redirect_list
    with_redirect_list_on c s so =
        first g (repeats g ItemsShown redirect_turn_on (items_so_far [] Command c.1) s so)
        (λ r t good. gives g good)

    -- a compound command is read so with its redirections, by its opener; without one the reading stops
    pub compound_on_by : (n : Next) (o : Option Opener) (s : State) → Goes g (compound_by inner n o) HandsOn s
    compound_on_by n (Some o) s = first g (fine.compound o s) with_redirect_list_on
    compound_on_by n None s = stopped n

    -- a command that begins with a word is read so: a function, or a simple command
    word_command_on : (s : State) → Goes g (a_word_command inner) HandsOn s
    unfolding a_word_command
    word_command_on s =
        sees g (first g (word_on g inner fine s) (λ w t one. first g (next_on Suffix t)
        (λ n u so. picks g (is_paren n.token) (picks g _ (fine.function (word_span w) u) (stops g))
        (pushes g (simple_on (items_so_far _ Suffix n) u so)))))

    -- every command is read so, and hands on the token after it
    command_on : (n : Next) (s : State) → Begins g n s → Goes g (a_command inner n) HandsOn s
    unfolding a_command
    command_on n s so =
        picks g (is_word n.token) (word_command_on s)
        (picks g (begins_simple n.token) (simple_on (items_so_far [] Command n) s so)
        (compound_on_by n (opener_of n.token) s))

    -- the `!` of a pipeline, if it has one, is read so, and hands on the token after it
    bang_on : (n : Next) (s : State) → Begins g n s → Goes g (a_bang n) HandsOn s
    unfolding a_bang
    bang_on n s so =
        picks g (is_bang n.token)
        (first g (one_token g {P = All g} (moves_to g tt)) (λ x t one. next_given Command t))
        (gives g so)

    -- the token after the commands of a pipeline so far is the one that begins there
    abbrev PipesShown : PipesSoFar → State → Type 0
    PipesShown p t = Begins g p.next t

    -- each turn over the commands after a `|` leads on
    pipe_turn_on : (p : PipesSoFar) (s : State) → Begins g p.next s
        → Goes g (pipe_turn inner p) (Steps g PipesShown s) s
    unfolding pipe_turn one_command
    pipe_turn_on p s so =
        picks_by g (is_pipe p.next.token)
        (λ e. first g (byte_passed s (read_here is_pipe refl p.next s so e))
        (λ x t on. led g PipesShown s on (first g (join_on p.next.broken t)
        (λ j u one. first g (command_on j.1 u one) (λ c v good. pushes g (gives g good))))))
        (λ e. gives g so)

    -- a pipeline is read so, and hands on the token after it
    pipeline_on : (n : Next) (s : State) → Begins g n s → Goes g (a_pipeline inner n) HandsOn s
    unfolding a_pipeline
    pipeline_on n s so =
        first g (bang_on n s so) (λ b t one. first g (command_on b.1 t one)
        (λ c u two. first g (repeats g PipesShown pipe_turn_on (pipes_so_far [] c.1) u two)
        (λ p v good. gives g good)))

    -- ---- and-or lists

    -- the token after the pipelines of an and-or list so far is the one that begins there
    abbrev AndOrShown : AndOrSoFar → State → Type 0
    AndOrShown a t = Begins g a.next t

    -- one more pipeline after `&&` or `||` leads on; any other token ends the and-or list
    joined_on_by : (a : AndOrSoFar) (s : State) → Begins g a.next s → (o : Option AndOrOperator)
        → and_or_operator_of a.next.token ≡ o → Goes g (joined_by inner a o) (Steps g AndOrShown s) s
    unfolding one_pipeline
    joined_on_by a s so (Some o) is =
        let read = read_here (λ t. is_some (and_or_operator_of t)) refl a.next s so (ap is_some is) in
        first g (one_token g {P = λ x t. leads_on g s t ≡ true} (moves g (moves_to g (two_lead s read))))
        (λ x t on. led g AndOrShown s on (first g (join_on a.next.broken t)
        (λ j u one. first g (pipeline_on j.1 u one) (λ p v good. pushes g (gives g good)))))
    joined_on_by a s so None is = gives g so

    -- so each turn over its pipelines leads on
    and_or_turn_on : (a : AndOrSoFar) (s : State) → Begins g a.next s
        → Goes g (and_or_turn inner a) (Steps g AndOrShown s) s
    unfolding and_or_turn
    and_or_turn_on a s so = joined_on_by a s so (and_or_operator_of a.next.token) refl

    -- an and-or list is read so, and hands on the token after it
    and_or_on : (n : Next) (s : State) → Begins g n s → Goes g (an_and_or inner n) HandsOn s
    unfolding an_and_or
    and_or_on n s so =
        first g (pipeline_on n s so)
        (λ p t one. first g (repeats g AndOrShown and_or_turn_on (and_or_so_far [] p.1) t one)
        (λ a u good. gives g good))

    -- ---- entries

    -- a `;` or `&` leads on, and hands on the token after it; any other token stays in hand
    separator_on_by : (n : Next) (s : State) → Begins g n s → (o : Option Separator)
        → separator_of n.token ≡ o
        → Goes g (separator_by n o) (λ x t. Begins g x.1 t × (is_some x.0 ≡ true → leads_on g s t ≡ true)) s
    separator_on_by n s so (Some o) is =
        let read = read_here (λ t. is_some (separator_of t)) refl n s so (ap is_some is) in
        first g (byte_passed s read) (λ x t on. follows g (led_on g s on (next_given Command t))
        (λ y u good. (good.0, λ e. good.1)))
    separator_on_by n s so None is = gives g (so, λ e. absurd cc)

    separator_on : (n : Next) (s : State) → Begins g n s
        → Goes g (a_separator n) (λ x t. Begins g x.1 t × (is_some x.0 ≡ true → leads_on g s t ≡ true)) s
    unfolding a_separator
    separator_on n s so = separator_on_by n s so (separator_of n.token) refl

    -- where a separator parts it from the next one, an entry has moved
    pub entry_on : (blank : Bool) (n : Next) (s : State) → Begins g n s
        → Goes g (an_entry inner blank n)
        (λ e t. Begins g e.next t × (is_some e.parted ≡ true → leads_on g s t ≡ true)) s
    unfolding an_entry
    entry_on blank n s so =
        first g (ahead g (and_or_on n s so)) (λ a t one. first g (separator_on a.1 t one.0)
        (λ z u two. first g (ahead g (comment_on z.1 u two.0))
        (λ c v three. gives g (three.0, λ e. leads_far g s t u v one.1 three.1 (two.1 (parted_some z.0 e))))))
