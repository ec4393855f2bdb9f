-- The token that a row hands on is the one that begins where the reading stands then.
use Rattle.std.proofs.Common.{◌≡◌, ℕ, zero, suc, ◌==◌, Bool, true, false, cond, List, List as Row, [], Option, Some, None, is_some, refl, sym, subst, ◌∙◌, arith, ap}
use Rattle.std.proofs.lemmas.Bool.Decides.{nat_tests}
use Rattle.shgrammar.specs.declared.keep.Keep.TheVariants.{Whole}
use Rattle.shgrammar.specs.declared.token.Closing.{Closing}
use Rattle.shgrammar.specs.declared.token.Closing.TheVariants as closings
use Rattle.shgrammar.specs.declared.token.Next.{Next}
use Rattle.shgrammar.specs.declared.token.Opener.{Opener}
use Rattle.shgrammar.specs.declared.token.Opener.TheVariants as openers
use Rattle.shgrammar.specs.declared.token.Position.{Position}
use Rattle.shgrammar.specs.declared.token.Position.TheVariants.{Command, Prefix, Suffix}
use Rattle.shgrammar.specs.declared.token.Reserved.{Reserved}
use Rattle.shgrammar.specs.declared.token.Separator.{Separator}
use Rattle.shgrammar.specs.declared.token.Token.{Token}
use Rattle.shgrammar.specs.declared.token.Token.TheVariants as tokens
use Rattle.shast.specs.declared.tree.AndOrOperator.{AndOrOperator}
use Rattle.shast.specs.declared.tree.Span.{Span}
use Rattle.shast.specs.Nodes.{word_span}
use Rattle.shast.specs.Tree.{ACommand, AnItem, AWord}
use Rattle.shsource.specs.Text.{is_newline}
use Rattle.shgrammar.specs.Bytes.{byte_at, past_byte, past_continuations, stands}
use Rattle.shgrammar.specs.Characters.{right_parenthesis, semicolon, ampersand, vertical_line, left_parenthesis, less_than_sign, greater_than_sign, number_sign, newline_char}
use Rattle.shgrammar.specs.Comments.{comment_at}
use Rattle.shgrammar.specs.Tokens.{begins_assignment, first_word, is_number, reserved_at, is_later, token_at, token_in, token_of, word_by, word_of}
use Rattle.shgrammar.specs.Sights.{Given, State}
use Rattle.shgrammar.specs.Form.{Spelled, Form, many, step_if}
use Rattle.shgrammar.specs.Words.{Inner}
use Rattle.shgrammar.specs.Commands.{next_token, is_newline_token, is_semicolon, a_semicolon, is_pipe, is_bang, begins_simple, begins_word, begins_redirect, begins_pipeline, opener_of, compound_by, and_or_operator_of, ItemsSoFar, items_so_far, breaks, after_word, one_redirect, after_redirect, redirect_turn, with_redirect_list, an_item, item_by, item_turn, a_simple, comment_by, a_comment, a_newline, with_comment, JoinSoFar, join_turn, a_join, a_command, a_bang, PipesSoFar, pipes_so_far, one_command, pipe_turn, a_pipeline, AndOrSoFar, and_or_so_far, one_pipeline, joined_by, and_or_turn, an_and_or, separator_of, separator_by, a_separator, an_entry, is_paren, is_word, a_word_command, ends_item, falls_through}
use Rattle.shgrammar.specs.Lists.{ListSoFar, list_so_far, none_listed, one_entry, entry_turn, remark_by, a_remark, on_line, list_turn, a_list}
use Rattle.shgrammar.specs.Compounds.{BranchesSoFar, branches_so_far, Closed, is_closing, is_open_paren, is_close_paren, reserved_or_paren, closing, a_branch, elif_turn, an_else, an_if, a_loop, a_group, a_for_name, a_linebreak, a_sequential_sep, Headed, word_turn, for_words, a_for_head, a_for, a_form, a_compound, a_function, a_case_word, begins_pattern, PatternsSoFar, a_pattern, one_pattern, pattern_turn, a_pattern_list, a_body, ItemEnd, an_ender, an_item_end, CasesSoFar, cases_so_far, one_case, case_turn, a_case_head, a_case}
use Rattle.shgrammar.specs.Levels.{level}
use Rattle.shgrammar.proofs.Shown.{blanks_still}
use Rattle.shgrammar.proofs.Holds.{Tells, Turned, tells_then, tells_many, after, gives, picked, pushed_on, sees, stops}
use Rattle.shgrammar.specs.declared.edition.Edition.{Edition}

module _ (g : Given) where
  -- P holds of what r reads with its tree, and of the state there
  abbrev N : {X : Type 0} → Form X → (X → State → Type 0) → State → Type 0
  N r P s = Tells Whole g r P s

  -- this token begins here, in some position of a command
  abbrev pub Begins : Next → State → Type 0
  Begins n t = (position : Position)
      × ((n.token ≡ token_in g.edition (token_at position g.text t.at)) × (past_continuations g.text t.at ≡ t.at))

  -- what was read, and this token handed on after it
  abbrev pub HandsOn : {X : Type 0} → X × Next → State → Type 0
  HandsOn x t = Begins x.1 t

  -- ---- tokens, comments and separators

  -- Each row: the token that it hands on begins where the reading stands then, if the one given to it did.

  -- the next token, once the blanks before it are passed
  pub shown_next : (position : Position) (s : State) → N (next_token position) Begins s
  unfolding next_token
  shown_next position s = record { told = (position, (refl, blanks_still g.text s.at)) }

  -- the token after a comment, a newline, a `;` or a separator, or the one in hand where none is here
  shown_comment : (n : Next) (s : State) → Begins n s → N (a_comment n) HandsOn s
  unfolding a_comment
  shown_comment n s so = sees (by_comment (comment_at g.text g.offset s.at))
    where
      by_comment : (c : Option Span) → N (comment_by n c) HandsOn s
      by_comment (Some c) = after (λ x t. tells_then Whole g (shown_next Command t)
          (λ m u good. gives good))
      by_comment None = gives so

  shown_newline : (n : Next) (s : State) → Begins n s → N (a_newline n) HandsOn s
  unfolding a_newline
  shown_newline n s so = picked (is_newline_token n.token)
      (after (λ x t. after (λ y v. tells_then Whole g (shown_next Command v) (λ m u good. gives good))))
      (gives so)

  shown_semicolon : (n : Next) (s : State) → Begins n s → N (a_semicolon n) HandsOn s
  unfolding a_semicolon
  shown_semicolon n s so = picked (is_semicolon n.token)
      (after (λ x t. tells_then Whole g (shown_next Command t) (λ m u good. gives good)))
      (gives so)

  shown_separator_by : (n : Next) (o : Option Separator) (s : State) → Begins n s → N (separator_by n o) HandsOn s
  shown_separator_by n (Some x) s so =
      after (λ y t. tells_then Whole g (shown_next Command t) (λ m u good. gives good))
  shown_separator_by n None s so = gives so

  shown_separator : (n : Next) (s : State) → Begins n s → N (a_separator n) HandsOn s
  unfolding a_separator
  shown_separator n s so = shown_separator_by n (separator_of n.token) s so

  -- ---- joins

  -- After comments and newlines, too, the token that is handed on begins where the reading stands.

  -- the token after the join so far begins here
  abbrev JoinShown : JoinSoFar → State → Type 0
  JoinShown j t = Begins j.next t

  -- nothing moves where a comment is kept
  kept_still : (cs : Row Span) (c : Option Span) (s : State) → N (with_comment cs c) (λ ds t. t ≡ s) s
  kept_still cs (Some c) s = record { told = refl }
  kept_still cs None s = gives refl

  -- whether a turn goes on or is the last, it hands on the token of its join
  join_step : (p : Bool) (j : JoinSoFar) (t : State) → Begins j.next t → Turned Whole g JoinShown (step_if p j) t
  join_step true j t so = so
  join_step false j t so = so

  -- a turn over comments and newlines, a join and a linebreak hand on a token that begins here
  shown_join_turn : (j : JoinSoFar) (s : State) → Begins j.next s → N (join_turn j) (Turned Whole g JoinShown) s
  unfolding join_turn
  shown_join_turn j s so =
      tells_then Whole g (shown_comment j.next s so) (λ c t one. tells_then Whole g (kept_still j.join.comments c.0 t)
      (λ cs u still. tells_then Whole g (shown_newline c.1 u (subst (Begins c.1) (sym still) one))
      (λ l v good. gives (join_step l.0 _ v good))))

  shown_join : (broken : Bool) (s : State) → N (a_join broken) HandsOn s
  unfolding a_join
  shown_join broken s =
      tells_then Whole g (shown_next Command s)
      (λ n t so. tells_then Whole g (tells_many Whole g join_turn JoinShown shown_join_turn _ t so)
      (λ j u good. gives good))

  shown_linebreak : (cs : Row Span) (n : Next) (s : State) → Begins n s → N (a_linebreak cs n) JoinShown s
  unfolding a_linebreak
  shown_linebreak cs n s so = tells_many Whole g join_turn JoinShown shown_join_turn _ s so

  -- ---- commands

  -- Each row of a command hands on the token after it; one that reads nothing hands on the one it was given.

  -- what may be opened hands on the token that begins after it
  pub record InnerHandsOn (inner : Inner) : Type 0 where
    pub compound : (o : Opener) (s : State) → N (inner.compound o) HandsOn s
    pub function : (name : Span) (s : State) → N (inner.function name) HandsOn s

  module _ (inner : Inner) (fine : InnerHandsOn inner) where
    -- the token after the items so far begins here
    abbrev ItemsShown : ItemsSoFar → State → Type 0
    ItemsShown i t = Begins i.next t

    -- a redirection, an item of either kind, a turn over items, and a simple command
    shown_redirect : (broken : Bool) (position : Position) (is : Row AnItem) (n : Next) (s : State) →
        N (one_redirect inner broken position is n) (Turned Whole g ItemsShown) s
    unfolding one_redirect
    shown_redirect broken position is n s =
        after (λ p t. after (λ d u. after
        (λ o v. after (λ w x. after
        (λ h a. after (λ js y. tells_then Whole g (shown_next position y)
        (λ m z good. gives good)))))))

    shown_item_by : (i : ItemsSoFar) (o : Option Position) (s : State) → Begins i.next s →
        N (item_by inner i o) (Turned Whole g ItemsShown) s
    unfolding an_item
    shown_item_by i (Some position) s so =
        after (λ w t. after (λ is u. tells_then Whole g (shown_next position u) (λ n v good. gives good)))
    shown_item_by i None s so = picked (begins_redirect i.next.token)
        (shown_redirect (breaks i) (after_redirect i.position) i.items i.next s) (gives so)

    shown_item_turn : (i : ItemsSoFar) (s : State) → Begins i.next s →
        N (item_turn inner i) (Turned Whole g ItemsShown) s
    unfolding item_turn
    shown_item_turn i s so = shown_item_by i (after_word i.next.token) s so

    shown_simple : (i : ItemsSoFar) (s : State) → Begins i.next s → N (a_simple inner i) HandsOn s
    unfolding a_simple
    shown_simple i s so = tells_then Whole g (tells_many Whole g (item_turn inner) ItemsShown shown_item_turn i s so)
        (λ j t good. gives good)

    -- the redirections after a compound command
    shown_redirect_turn : (i : ItemsSoFar) (s : State) → Begins i.next s →
        N (redirect_turn inner i) (Turned Whole g ItemsShown) s
    unfolding redirect_turn
    shown_redirect_turn i s so = picked (begins_redirect i.next.token)
        (shown_redirect i.next.broken Command i.items i.next s) (gives so)

    shown_with_redirect_list : (c : ACommand × Next) (s : State) → Begins c.1 s →
        N (with_redirect_list inner c) HandsOn s
    unfolding with_redirect_list
    shown_with_redirect_list c s so =
        tells_then Whole g (tells_many Whole g (redirect_turn inner) ItemsShown shown_redirect_turn
        (items_so_far [] Command c.1) s so) (λ r t good. gives good)

    -- a compound command by its opener, a command that begins with a word, and whichever begins here
    shown_compound_by : (n : Next) (o : Option Opener) (s : State) → N (compound_by inner n o) HandsOn s
    shown_compound_by n (Some o) s = tells_then Whole g (fine.compound o s) shown_with_redirect_list
    shown_compound_by n None s = stops inner n

    shown_word_command : (s : State) → N (a_word_command inner) HandsOn s
    unfolding a_word_command
    shown_word_command s =
        after (λ good t. after (λ w u. tells_then Whole g (shown_next Suffix u)
        (λ n v so. picked (is_paren n.token) (picked good (fine.function (word_span w) v) (record { told = tt }))
        (pushed_on (shown_simple (items_so_far _ Suffix n) v so)))))

    shown_command : (n : Next) (s : State) → Begins n s → N (a_command inner n) HandsOn s
    unfolding a_command
    shown_command n s so =
        picked (is_word n.token) (shown_word_command s)
        (picked (begins_simple n.token) (shown_simple (items_so_far [] Command n) s so)
        (shown_compound_by n (opener_of n.token) s))

    -- ---- pipelines, and-or lists and entries

    -- `!`, if it stands here
    shown_bang : (n : Next) (s : State) → Begins n s → N (a_bang n) HandsOn s
    unfolding a_bang
    shown_bang n s so = picked (is_bang n.token)
        (after (λ x t. tells_then Whole g (shown_next Command t) (λ m u good. gives good)))
        (gives so)

    -- the token after the pipeline so far begins here
    abbrev PipesShown : PipesSoFar → State → Type 0
    PipesShown p t = Begins p.next t

    -- one more command after a `|`, a turn over them, and the pipeline
    shown_one_command : (p : PipesSoFar) (s : State) → N (one_command inner p) (Turned Whole g PipesShown) s
    unfolding one_command
    shown_one_command p s =
        after (λ x t. tells_then Whole g (shown_join p.next.broken t)
        (λ j u one. tells_then Whole g (shown_command j.1 u one) (λ c v good. pushed_on (gives good))))

    shown_pipe_turn : (p : PipesSoFar) (s : State) → Begins p.next s →
        N (pipe_turn inner p) (Turned Whole g PipesShown) s
    unfolding pipe_turn
    shown_pipe_turn p s so = picked (is_pipe p.next.token) (shown_one_command p s) (gives so)

    shown_pipeline : (n : Next) (s : State) → Begins n s → N (a_pipeline inner n) HandsOn s
    unfolding a_pipeline
    shown_pipeline n s so =
        tells_then Whole g (shown_bang n s so) (λ b t one. tells_then Whole g (shown_command b.1 t one)
        (λ c u two. tells_then Whole g
        (tells_many Whole g (pipe_turn inner) PipesShown shown_pipe_turn (pipes_so_far [] c.1) u two)
        (λ p v good. gives good)))

    -- the token after the and-or list so far begins here
    abbrev AndOrShown : AndOrSoFar → State → Type 0
    AndOrShown a t = Begins a.next t

    -- one more pipeline after `&&` or `||`, a turn over them, and the and-or list
    shown_joined_by : (a : AndOrSoFar) (o : Option AndOrOperator) (s : State) → Begins a.next s →
        N (joined_by inner a o) (Turned Whole g AndOrShown) s
    unfolding one_pipeline
    shown_joined_by a (Some o) s so =
        after (λ x t. tells_then Whole g (shown_join a.next.broken t)
        (λ j u one. tells_then Whole g (shown_pipeline j.1 u one)
        (λ p v good. pushed_on (gives good))))
    shown_joined_by a None s so = gives so

    shown_and_or_turn : (a : AndOrSoFar) (s : State) → Begins a.next s →
        N (and_or_turn inner a) (Turned Whole g AndOrShown) s
    unfolding and_or_turn
    shown_and_or_turn a s so = shown_joined_by a (and_or_operator_of a.next.token) s so

    shown_and_or : (n : Next) (s : State) → Begins n s → N (an_and_or inner n) HandsOn s
    unfolding an_and_or
    shown_and_or n s so =
        tells_then Whole g (shown_pipeline n s so)
        (λ p t one. tells_then Whole g
        (tells_many Whole g (and_or_turn inner) AndOrShown shown_and_or_turn (and_or_so_far [] p.1) t one)
        (λ a u good. gives good))

    -- an entry with its separator, and the comment after that
    shown_entry : (blank : Bool) (n : Next) (s : State) → Begins n s →
        N (an_entry inner blank n) (λ e t. Begins e.next t) s
    unfolding an_entry
    shown_entry blank n s so =
        tells_then Whole g (shown_and_or n s so)
        (λ a t one. tells_then Whole g (shown_separator a.1 t one)
        (λ z u two. tells_then Whole g (shown_comment z.1 u two) (λ c v good. gives good)))

    -- ---- lists

    -- Each row of a list hands on the token after it, which may be what ends the list.

    -- the token after the list so far begins here
    abbrev ListShown : ListSoFar → State → Type 0
    ListShown l t = Begins l.next t

    -- whether a turn goes on or is the last, it hands on the token of its list
    list_step : (p : Bool) (l : ListSoFar) (t : State) → Begins l.next t → Turned Whole g ListShown (step_if p l) t
    list_step true l t so = so
    list_step false l t so = so

    -- one more entry, a turn over them, and a comment that stands for itself
    shown_one_entry : (l : ListSoFar) (s : State) → Begins l.next s → N (one_entry inner l) (Turned Whole g ListShown) s
    unfolding one_entry
    shown_one_entry l s so = tells_then Whole g (shown_entry _ l.next s so)
        (λ e t good. pushed_on (gives (list_step (is_some e.parted) _ t good)))

    shown_entry_turn : (l : ListSoFar) (s : State) → Begins l.next s →
        N (entry_turn inner l) (Turned Whole g ListShown) s
    unfolding entry_turn
    shown_entry_turn l s so = picked (begins_pipeline l.next.token) (shown_one_entry l s so) (gives so)

    shown_remark_by : (l : ListSoFar) (x : Option Span × Next) (s : State) → Begins x.1 s →
        N (remark_by l x) ListShown s
    shown_remark_by l (Some c, n) s so = pushed_on (gives so)
    shown_remark_by l (None, n) s so = gives so

    -- the entries and the comment of one line, and those with the newline after them
    pub shown_on_line : (l : ListSoFar) (s : State) → Begins l.next s → N (on_line inner l) ListShown s
    unfolding on_line a_remark
    shown_on_line l s so =
        tells_then Whole g (tells_many Whole g (entry_turn inner) ListShown shown_entry_turn l s so)
        (λ m t one. tells_then Whole g (shown_comment m.next t one) (λ x u good. shown_remark_by m x u good))

    pub shown_list_turn : (l : ListSoFar) (s : State) → Begins l.next s →
        N (list_turn inner l) (Turned Whole g ListShown) s
    unfolding list_turn
    shown_list_turn l s so = tells_then Whole g (shown_on_line l s so)
        (λ m t one. tells_then Whole g (shown_newline m.next t one)
        (λ x u good. gives (list_step x.0 _ u good)))

    -- what stands before the end of a list
    pub shown_lines : (n : Next) (s : State) → Begins n s →
        N (many (list_turn inner) (list_so_far (none_listed false) n)) ListShown s
    shown_lines n s so = tells_many Whole g (list_turn inner) ListShown shown_list_turn
        (list_so_far (none_listed false) n) s so

    -- a list that holds a command
    shown_list : (n : Next) (s : State) → Begins n s → N (a_list inner n) HandsOn s
    unfolding a_list
    shown_list n s so = tells_then Whole g (shown_lines n s so)
        (λ l t good. picked l.list.commands (gives good) (stops inner l.next))

    -- ---- compound commands

    -- Each row of a compound command hands on the token after it.

    -- a reserved word or a round bracket, and one that has to stand here
    shown_reserved_or_paren : (text : Spelled) (paren : Bool) (position : Position) (s : State) →
        N (reserved_or_paren text paren position) HandsOn s
    unfolding reserved_or_paren
    shown_reserved_or_paren text paren position s =
        after (λ x t. tells_then Whole g (shown_next position t) (λ n u good. gives good))

    shown_closing : (c : Closing) (n : Next) (s : State) → N (closing inner c n) HandsOn s
    unfolding closing
    shown_closing c n s =
        picked (is_closing c n.token) (shown_reserved_or_paren _ (is_close_paren c) _ s) (stops inner n)

    -- a condition, `then` and what it runs
    shown_branch : (n : Next) (s : State) → Begins n s → N (a_branch inner n) HandsOn s
    unfolding a_branch
    shown_branch n s so =
        tells_then Whole g (shown_list n s so)
        (λ c t one. tells_then Whole g (shown_closing closings.Then c.1 t)
        (λ k u two. tells_then Whole g (shown_list k.1 u two) (λ b v good. gives good)))

    -- the token after the branches so far begins here
    abbrev BranchesShown : BranchesSoFar → State → Type 0
    BranchesShown b t = Begins b.next t

    -- one more branch after an `elif`, and `else` with what it runs, or none of them
    shown_elif : (b : BranchesSoFar) (s : State) → Begins b.next s →
        N (elif_turn inner b) (Turned Whole g BranchesShown) s
    unfolding elif_turn
    shown_elif b s so =
        picked (is_closing closings.Elif b.next.token)
        (tells_then Whole g (shown_reserved_or_paren _ false _ s)
        (λ k t one. tells_then Whole g (shown_branch k.1 t one) (λ x u good. pushed_on (gives good))))
        (gives so)

    shown_else : (n : Next) (s : State) → Begins n s → N (an_else inner n) HandsOn s
    unfolding an_else
    shown_else n s so =
        picked (is_closing closings.Else n.token)
        (tells_then Whole g (shown_reserved_or_paren _ false _ s)
        (λ k t one. tells_then Whole g (shown_list k.1 t one) (λ l u good. gives good)))
        (gives so)

    -- the token after the closer begins here
    abbrev ClosedShown : {X : Type 0} → Closed X → State → Type 0
    ClosedShown x t = Begins x.next t

    -- an `if`, a loop and a group, from just after their openers
    shown_if : (n : Next) (s : State) → Begins n s → N (an_if inner n) ClosedShown s
    unfolding an_if
    shown_if n s so =
        tells_then Whole g (shown_branch n s so)
        (λ f t one. tells_then Whole g
        (tells_many Whole g (elif_turn inner) BranchesShown shown_elif (branches_so_far [] f.1) t one)
        (λ b u two. tells_then Whole g (shown_else b.next u two)
        (λ e v three. tells_then Whole g (shown_closing closings.Fi e.1 v) (λ c w good. gives good))))

    shown_loop : (n : Next) (s : State) → Begins n s → N (a_loop inner n) ClosedShown s
    unfolding a_loop
    shown_loop n s so =
        tells_then Whole g (shown_list n s so) (λ c t one. tells_then Whole g (shown_closing closings.Do c.1 t)
        (λ d u two. tells_then Whole g (shown_list d.1 u two)
        (λ b v three. tells_then Whole g (shown_closing closings.Done b.1 v)
        (λ e w good. gives good))))

    shown_group : (c : Closing) (n : Next) (s : State) → Begins n s → N (a_group inner c n) ClosedShown s
    unfolding a_group
    shown_group c n s so = tells_then Whole g (shown_list n s so)
        (λ l t one. tells_then Whole g (shown_closing c l.1 t) (λ k u good. gives good))

    -- the word after `for`
    shown_for_name : (n : Next) (s : State) → N (a_for_name inner n) HandsOn s
    unfolding a_for_name
    shown_for_name n s =
        picked (begins_word n.token)
        (after (λ p t. after (λ good u. after
        (λ w v. picked good (tells_then Whole g (shown_next Command v) (λ m z so. gives so))
        (record { told = tt })))))
        (stops inner n)

    -- a `;` or a newline, with newlines and comments after it
    shown_sequential_sep : (cs : Row Span) (n : Next) (s : State) → Begins n s →
        N (a_sequential_sep inner cs n) JoinShown s
    unfolding a_sequential_sep
    shown_sequential_sep cs n s so = tells_then Whole g (shown_semicolon n s so)
        (λ x t one. tells_then Whole g (shown_linebreak cs x.1 t one)
        (λ l u good. picked _ (gives good) (stops inner l.next)))

    -- the token after the head of a `for` begins here
    abbrev HeadShown : Headed → State → Type 0
    HeadShown h t = Begins h.next t

    -- one more word after `in`, all of them, the head, and the `for`
    shown_word_turn : (i : ItemsSoFar) (s : State) → Begins i.next s →
        N (word_turn inner i) (Turned Whole g ItemsShown) s
    unfolding word_turn an_item
    shown_word_turn i s so = picked (is_word i.next.token)
        (after (λ w t. after (λ is u. tells_then Whole g (shown_next Suffix u) (λ n v good. gives good))))
        (gives so)

    shown_for_words : (cs : Row Span) (s : State) → N (for_words inner cs) HeadShown s
    unfolding for_words
    shown_for_words cs s =
        tells_then Whole g (shown_reserved_or_paren _ false _ s)
        (λ i t one. tells_then Whole g
        (tells_many Whole g (word_turn inner) ItemsShown shown_word_turn (items_so_far [] Suffix i.1) t one)
        (λ ws u two. tells_then Whole g (shown_sequential_sep cs ws.next u two) (λ l v good. gives good)))

    shown_for_head : (n : Next) (s : State) → Begins n s → N (a_for_head inner n) HeadShown s
    unfolding a_for_head
    shown_for_head n s so =
        tells_then Whole g (shown_semicolon n s so)
        (λ x t one. tells_then Whole g (shown_linebreak [] x.1 t one)
        (λ l u two. picked _ (shown_for_words l.join.comments u) (gives two)))

    shown_for : (n : Next) (s : State) → N (a_for inner n) ClosedShown s
    unfolding a_for
    shown_for n s =
        tells_then Whole g (shown_for_name n s)
        (λ x t one. tells_then Whole g (shown_for_head x.1 t one)
        (λ h u two. tells_then Whole g (shown_closing closings.Do h.next u)
        (λ d v three. tells_then Whole g (shown_group closings.Done d.1 v three)
        (λ b w good. gives good))))

    -- the word after `case`
    shown_case_word : (n : Next) (s : State) → N (a_case_word inner n) HandsOn s
    unfolding a_case_word
    shown_case_word n s = picked (begins_word n.token)
        (after (λ w t. tells_then Whole g (shown_next Command t) (λ m u good. gives good))) (stops inner n)

    -- the token after the patterns so far begins here
    abbrev PatternsShown : PatternsSoFar → State → Type 0
    PatternsShown p t = Begins p.next t

    -- a pattern, one more after a `|`, a turn over them, and all patterns of an item
    shown_pattern : (ws : Row AWord) (s : State) → N (a_pattern inner ws) PatternsShown s
    unfolding a_pattern
    shown_pattern ws s = after (λ w t. pushed_on
        (tells_then Whole g (shown_next Suffix t) (λ n u good. gives good)))

    shown_one_pattern : (ws : Row AWord) (s : State) → N (one_pattern inner ws) (Turned Whole g PatternsShown) s
    unfolding one_pattern
    shown_one_pattern ws s =
        after (λ x t. after (λ n u. picked (begins_word n.token)
        (tells_then Whole g (shown_pattern ws u) (λ p v good. gives good)) (stops inner n)))

    shown_pattern_turn : (p : PatternsSoFar) (s : State) → Begins p.next s →
        N (pattern_turn inner p) (Turned Whole g PatternsShown) s
    unfolding pattern_turn
    shown_pattern_turn p s so = picked (is_pipe p.next.token) (shown_one_pattern p.patterns s) (gives so)

    shown_pattern_list : (n : Next) (s : State) → N (a_pattern_list inner n) PatternsShown s
    unfolding a_pattern_list
    shown_pattern_list n s =
        picked (begins_pattern n.token)
        (tells_then Whole g (shown_pattern [] s)
        (λ p t one. tells_many Whole g (pattern_turn inner) PatternsShown shown_pattern_turn p t one))
        (stops inner n)

    -- the token after the end of an item begins here
    abbrev EndShown : ItemEnd → State → Type 0
    EndShown e t = Begins e.next t

    -- `;;` or `;&`, and the end of an item, which may have neither
    shown_ender : (b : Bool) (s : State) → N (an_ender b) EndShown s
    unfolding an_ender
    shown_ender b s =
        after (λ y u. after (λ p v. tells_then Whole g (shown_next Command v)
        (λ n w one. tells_then Whole g (shown_linebreak [] n w one) (λ l z good. gives good))))

    shown_item_end : (there : ℕ) (n : Next) (s : State) → Begins n s → N (an_item_end inner there n) EndShown s
    unfolding an_item_end
    shown_item_end there n s so =
        picked (ends_item n.token) (shown_ender (falls_through n.token) s)
        (picked (is_closing closings.Esac n.token) (gives so) (stops inner n))

    -- the token after the items of a `case` so far begins here
    abbrev CasesShown : CasesSoFar → State → Type 0
    CasesShown c t = Begins c.next t

    -- one more item, or none before an `esac`
    shown_one_case : (c : CasesSoFar) (s : State) → N (one_case inner c) (Turned Whole g CasesShown) s
    unfolding one_case a_body
    shown_one_case c s =
        after (λ p t. after (λ n u. tells_then Whole g (shown_pattern_list n u)
        (λ ps v one. tells_then Whole g (shown_closing closings.Paren ps.next v)
        (λ k w two. tells_then Whole g (shown_lines k.1 w two)
        (λ b x three. tells_then Whole g (shown_item_end _ b.next x three)
        (λ e y good. pushed_on (gives good)))))))

    shown_case_turn : (c : CasesSoFar) (s : State) → Begins c.next s →
        N (case_turn inner c) (Turned Whole g CasesShown) s
    unfolding case_turn
    shown_case_turn c s so = picked (is_closing closings.Esac c.next.token) (gives so) (shown_one_case c s)

    -- a `case` up to its `in` and the newlines after it, and as a whole
    shown_case_head : (n : Next) (s : State) → N (a_case_head inner n) (λ h t. Begins h.2 t) s
    unfolding a_case_head
    shown_case_head n s =
        tells_then Whole g (shown_case_word n s) (λ w t one. tells_then Whole g (shown_linebreak [] w.1 t one)
        (λ l u two. tells_then Whole g (shown_closing closings.In l.next u)
        (λ i v three. tells_then Whole g (shown_linebreak l.join.comments i.1 v three)
        (λ h x good. gives good))))

    shown_case : (n : Next) (s : State) → N (a_case inner n) ClosedShown s
    unfolding a_case
    shown_case n s =
        tells_then Whole g (shown_case_head n s)
        (λ h t one. tells_then Whole g
        (tells_many Whole g (case_turn inner) CasesShown shown_case_turn (cases_so_far [] h.1 h.2) t one)
        (λ c u two. tells_then Whole g (shown_closing closings.Esac c.next u) (λ e v good. gives good)))

    -- what an opener opens, from just after it
    shown_form : (o : Opener) (n : Next) (s : State) → Begins n s → N (a_form inner o n) ClosedShown s
    shown_form openers.Brace n s so =
        tells_then Whole g (shown_group closings.Brace n s so) (λ l t good. gives good)
    shown_form openers.Paren n s so =
        tells_then Whole g (shown_group closings.Paren n s so) (λ l t good. gives good)
    shown_form openers.If n s so = shown_if n s so
    shown_form openers.While n s so = tells_then Whole g (shown_loop n s so) (λ l t good. gives good)
    shown_form openers.Until n s so = tells_then Whole g (shown_loop n s so) (λ l t good. gives good)
    shown_form openers.For n s so = shown_for n s
    shown_form openers.Case n s so = shown_case n s

    -- a compound command from its opener on, and a function from just after its name on
    shown_compound : (o : Opener) (s : State) → N (a_compound inner o) HandsOn s
    unfolding a_compound
    shown_compound o s = tells_then Whole g (shown_reserved_or_paren _ (is_open_paren o) _ s)
        (λ x t one. tells_then Whole g (shown_form o x.1 t one) (λ f u good. pushed_on (gives good)))

    shown_function : (name : Span) (s : State) → N (a_function inner name) HandsOn s
    unfolding a_function
    shown_function name s =
        tells_then Whole g (shown_reserved_or_paren _ true Command s)
        (λ o t one. tells_then Whole g (shown_closing closings.Paren o.1 t)
        (λ c u two. tells_then Whole g (shown_linebreak [] c.1 u two)
        (λ l v three. tells_then Whole g (shown_compound_by l.next (opener_of l.next.token) v)
        (λ b w good. gives good))))

  -- by how many more may be opened
  pub shown_level : (room : ℕ) → InnerHandsOn (level room)
  unfolding level
  shown_level zero = record {
    compound = λ o s. after (λ p t. record { told = tt });
    function = λ name s. record { told = tt };
  }
  shown_level (suc room) =
      record {
        compound = λ o s. shown_compound (level room) (shown_level room) o s;
        function = λ name s. shown_function (level room) (shown_level room) name s;
      }

-- ---- a `)`

-- Where the token is a `)`, the byte is: no other byte is told as that token, nor any word.

-- a choice that is a `)`, and whose first is none, took the second
paren_else : (c : Bool) (x y : Token) → (x ≡ tokens.CloseParen → ⊥) → cond c x y ≡ tokens.CloseParen → (c ≡ false)
    × (y ≡ tokens.CloseParen)
paren_else true x y other is = absurd (other is)
paren_else false x y other is = (refl, is)

-- a choice of two that are no `)` is none
paren_both : (c : Bool) (x y : Token) → (x ≡ tokens.CloseParen → ⊥) → (y ≡ tokens.CloseParen → ⊥) →
    cond c x y ≡ tokens.CloseParen → ⊥
paren_both true x y one two is = one is
paren_both false x y one two is = two is

-- a word is no `)`, in whatever position
no_paren_word : (assigns : Bool) → word_of assigns ≡ tokens.CloseParen → ⊥
no_paren_word true is = absurd cc
no_paren_word false is = absurd cc

no_paren_first : (assigns : Bool) (r : Option Reserved) → first_word assigns r ≡ tokens.CloseParen → ⊥
no_paren_first assigns None is = no_paren_word assigns is
no_paren_first assigns (Some r) is = absurd cc

no_paren : (position : Position) (T : List ℕ) (p : ℕ) → word_by position T p ≡ tokens.CloseParen → ⊥
no_paren Command T p is = no_paren_first (begins_assignment T p) (reserved_at T p) is
no_paren Prefix T p is = no_paren_word (begins_assignment T p) is
no_paren Suffix T p is = absurd cc

-- a choice of a `)` and what is none is a `)` where its test holds
paren_by : (c : Bool) (x : Token) → (x ≡ tokens.CloseParen → ⊥) → cond c tokens.CloseParen x ≡ tokens.CloseParen →
    c ≡ true
paren_by true x other is = refl
paren_by false x other is = absurd (other is)

-- what is told as a `)` is that byte
close_byte : (position : Position) (T : List ℕ) (p : ℕ) (x : Option ℕ) → token_of position T p x ≡ tokens.CloseParen →
    x ≡ Some right_parenthesis
close_byte position T p None is = absurd cc
close_byte position T p (Some b) is =
    let not_newline = paren_else (is_newline b) _ _ (λ e. absurd cc) is in
    let not_semicolon = paren_else (b == semicolon) _ _
    (λ e. paren_both (stands T (past_byte T p) semicolon) _ _ (λ f. absurd cc)
    (λ f. paren_both (stands T (past_byte T p) ampersand) _ _ (λ g. absurd cc) (λ g. absurd cc) f) e) not_newline.1 in
    let not_ampersand = paren_else (b == ampersand) _ _
    (λ e. paren_both (stands T (past_byte T p) ampersand) _ _ (λ f. absurd cc) (λ f. absurd cc) e) not_semicolon.1 in
    let not_bar = paren_else (b == vertical_line) _ _
    (λ e. paren_both (stands T (past_byte T p) vertical_line) _ _ (λ f. absurd cc) (λ f. absurd cc) e) not_ampersand.1
    in
    let not_open = paren_else (b == left_parenthesis) _ _ (λ e. absurd cc) not_bar.1 in
    let here = paren_by (b == right_parenthesis) _
    (λ e. paren_both (b == less_than_sign) _ _ (λ f. absurd cc)
    (λ f. paren_both (b == greater_than_sign) _ _ (λ h. absurd cc)
    (λ h. paren_both (b == number_sign) _ _ (λ d. absurd cc)
    (λ d. paren_both (is_number T p) _ _ (λ k. absurd cc) (λ k. no_paren position T p k) d) h) f) e) not_open.1 in
    let same : b ≡ right_parenthesis = grind (arith, nat_tests) in
    rw same refl

-- an edition has a `)` where the text has one
closes_in : (later : Bool) → is_closing closings.Paren (cond later tokens.SemicolonAmpersand tokens.Semicolon) ≡ true →
    ⊥
closes_in true e = absurd cc
closes_in false e = absurd cc

closes_of : (edition : Edition) (t : Token) → is_closing closings.Paren (token_in edition t) ≡ true →
    t ≡ tokens.CloseParen
closes_of edition tokens.CloseParen e = refl
closes_of edition tokens.SemicolonAmpersand e = absurd (closes_in (is_later edition) e)
closes_of edition _ e = absurd cc

-- where a row hands on a `)`, that byte stands
pub paren_here : (g : Given) (n : Next) (t : State) → Begins g n t → is_closing closings.Paren n.token ≡ true →
    (byte_at g.text t.at ≡ Some right_parenthesis) × (past_continuations g.text t.at ≡ t.at)
unfolding token_at
paren_here g n t (position, (token, still)) closes = (
  close_byte position g.text t.at (byte_at g.text t.at)
      (closes_of g.edition _ (ap (is_closing closings.Paren) (sym token) ∙ closes)),
  still,
)

-- ---- a newline

-- Where the token is a newline, the byte is: no other byte is told as that token, nor any word.

-- a choice of a newline and what is none is a newline where its test holds
newline_else : (c : Bool) (y : Token) → cond c tokens.Newline y ≡ tokens.Newline → (y ≡ tokens.Newline → ⊥) → c ≡ true
newline_else true y is other = refl
newline_else false y is other = absurd (other is)

-- a choice of two that are no newlines is none
newline_both : (c : Bool) (x y : Token) → (x ≡ tokens.Newline → ⊥) → (y ≡ tokens.Newline → ⊥) →
    cond c x y ≡ tokens.Newline → ⊥
newline_both true x y one two is = one is
newline_both false x y one two is = two is

-- a word is no newline, in whatever position
no_newline_word : (assigns : Bool) → word_of assigns ≡ tokens.Newline → ⊥
no_newline_word true is = absurd cc
no_newline_word false is = absurd cc

no_newline_first : (assigns : Bool) (r : Option Reserved) → first_word assigns r ≡ tokens.Newline → ⊥
no_newline_first assigns None is = no_newline_word assigns is
no_newline_first assigns (Some r) is = absurd cc

no_newline : (position : Position) (T : List ℕ) (p : ℕ) → word_by position T p ≡ tokens.Newline → ⊥
no_newline Command T p is = no_newline_first (begins_assignment T p) (reserved_at T p) is
no_newline Prefix T p is = no_newline_word (begins_assignment T p) is
no_newline Suffix T p is = absurd cc

-- what is told as a newline is that byte
newline_byte : (position : Position) (T : List ℕ) (p : ℕ) (x : Option ℕ) → token_of position T p x ≡ tokens.Newline →
    x ≡ Some newline_char
newline_byte position T p None is = absurd cc
newline_byte position T p (Some b) is =
    let here : (b == newline_char) ≡ true = newline_else (is_newline b) _ is (λ e.
    newline_both (b == semicolon) _ _ (λ f. newline_both (stands T (past_byte T p) semicolon) _ _ (λ h. absurd cc)
    (λ h. newline_both (stands T (past_byte T p) ampersand) _ _ (λ i. absurd cc) (λ i. absurd cc) h) f)
    (λ f. newline_both (b == ampersand) _ _
    (λ h. newline_both (stands T (past_byte T p) ampersand) _ _ (λ i. absurd cc) (λ i. absurd cc) h)
    (λ h. newline_both (b == vertical_line) _ _
    (λ i. newline_both (stands T (past_byte T p) vertical_line) _ _ (λ j. absurd cc) (λ j. absurd cc) i)
    (λ i. newline_both (b == left_parenthesis) _ _ (λ j. absurd cc)
    (λ j. newline_both (b == right_parenthesis) _ _ (λ k. absurd cc)
    (λ k. newline_both (b == less_than_sign) _ _ (λ l. absurd cc)
    (λ l. newline_both (b == greater_than_sign) _ _ (λ m. absurd cc)
    (λ m. newline_both (b == number_sign) _ _ (λ o. absurd cc)
    (λ o. newline_both (is_number T p) _ _ (λ q. absurd cc) (λ q. no_newline position T p q) o) m) l) k) j) i) h) f)
    e) in
    let same : b ≡ newline_char = grind (arith, nat_tests, here) in
    rw same refl

-- an edition has a newline where the text has one
newline_in : (later : Bool) → is_newline_token (cond later tokens.SemicolonAmpersand tokens.Semicolon) ≡ true → ⊥
newline_in true e = absurd cc
newline_in false e = absurd cc

newline_of : (edition : Edition) (t : Token) → is_newline_token (token_in edition t) ≡ true → t ≡ tokens.Newline
newline_of edition tokens.Newline e = refl
newline_of edition tokens.SemicolonAmpersand e = absurd (newline_in (is_later edition) e)
newline_of edition _ e = absurd cc

-- where a row hands on a newline, that byte stands
pub newline_here : (g : Given) (n : Next) (t : State) → Begins g n t → is_newline_token n.token ≡ true →
    (byte_at g.text t.at ≡ Some newline_char) × (past_continuations g.text t.at ≡ t.at)
unfolding token_at
newline_here g n t (position, (token, still)) is = (
  newline_byte position g.text t.at (byte_at g.text t.at)
      (newline_of g.edition _ (ap is_newline_token (sym token) ∙ is)),
  still,
)
