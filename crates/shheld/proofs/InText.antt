-- No row of the grammar leads past the end of its text.
use Rattle.std.proofs.Common.{◌≡◌, ℕ, zero, suc, ◌≤◌, Bool, true, false, ◌||◌, List, List as Row, [], Result, Ok, Err, Option, Some, None, is_some, length, refl, ap, subst}
use Rattle.std.proofs.lemmas.Bool.{and_parts, cond_both}
use Rattle.shast.specs.Nodes.{word_span}
use Rattle.shast.specs.Tree.{ACommand, AnItem, AWord}
use Rattle.shast.specs.declared.tree.AndOrOperator.{AndOrOperator}
use Rattle.shast.specs.declared.tree.RedirectOperator.{RedirectOperator}
use Rattle.shast.specs.declared.tree.RedirectOperator.TheVariants as redirects
use Rattle.shast.specs.declared.tree.Span.{Span}
use Rattle.shgrammar.specs.declared.fault.Fault.{Fault}
use Rattle.shgrammar.specs.declared.keep.Keep.TheVariants.{Whole}
use Rattle.shgrammar.specs.declared.mode.Mode.TheVariants.{Plain}
use Rattle.shgrammar.specs.declared.token.Closing.{Closing}
use Rattle.shgrammar.specs.declared.token.Closing.TheVariants as closings
use Rattle.shgrammar.specs.declared.token.Next.{Next}
use Rattle.shgrammar.specs.declared.token.Opener.{Opener}
use Rattle.shgrammar.specs.declared.token.Opener.TheVariants as openers
use Rattle.shgrammar.specs.declared.token.Position.{Position}
use Rattle.shgrammar.specs.declared.token.Position.TheVariants.{Command, Suffix}
use Rattle.shgrammar.specs.declared.token.Separator.{Separator}
use Rattle.shgrammar.specs.declared.token.Token.{Token}
use Rattle.shgrammar.specs.declared.token.Token.TheVariants as tokens
use Rattle.shgrammar.specs.Bytes.{past_byte}
use Rattle.shgrammar.specs.Characters.{number_sign}
use Rattle.shgrammar.specs.Classes.{is_digit, is_name}
use Rattle.shgrammar.specs.Commands.{next_token, is_newline_token, is_semicolon, a_semicolon, is_pipe, is_bang, begins_simple, begins_word, begins_redirect, begins_pipeline, opener_of, compound_by, and_or_operator_of, ItemsSoFar, items_so_far, breaks, after_word, one_redirect, after_redirect, redirect_turn, with_redirect_list, an_item, item_by, item_turn, a_simple, comment_by, a_comment, a_newline, with_comment, JoinSoFar, join_turn, a_join, a_command, a_bang, PipesSoFar, pipes_so_far, one_command, pipe_turn, a_pipeline, AndOrSoFar, one_pipeline, joined_by, and_or_turn, an_and_or, separator_of, separator_by, a_separator, an_entry, is_paren, is_word, a_word_command, ends_item, falls_through, is_long, is_number_token, is_strip, redirect_operator_of, a_number, an_operator, operator_by, a_target, a_document, document_by, takes_here}
use Rattle.shgrammar.specs.Comments.{comment_at, past_comment}
use Rattle.shgrammar.specs.Compounds.{BranchesSoFar, branches_so_far, Closed, is_closing, is_open_paren, is_close_paren, past_opener, reserved_or_paren, closing, a_branch, elif_turn, an_else, an_if, a_loop, a_group, a_for_name, a_linebreak, a_sequential_sep, begins_words, Headed, word_turn, for_words, a_for_head, a_for, a_form, a_compound, a_function, a_case_word, begins_pattern, PatternsSoFar, a_pattern, one_pattern, pattern_turn, a_pattern_list, an_open_bracket, a_body, ItemEnd, an_ender, an_item_end, CasesSoFar, cases_so_far, one_case, case_turn, a_case_head, a_case}
use Rattle.shgrammar.specs.Form.{Form, Spelled, Telling, move, both, change, many, step_if, token}
use Rattle.shgrammar.specs.HereDocuments.{ADelimiter, bodies_from, bodies_here, changed, state_by, waits, with_waiting}
use Rattle.shgrammar.specs.Levels.{level}
use Rattle.shgrammar.specs.Lists.{ListSoFar, list_so_far, none_listed, one_entry, entry_turn, remark_by, a_remark, on_line, list_turn, a_list}
use Rattle.shgrammar.specs.Shows.{IsRead, Shows}
use Rattle.shgrammar.specs.Sights.{Given, Move, State, Waiting, a_comment_on, is_a_name, one_byte, seen, the_digits, to}
use Rattle.shgrammar.specs.Standing.{raw_stands}
use Rattle.shgrammar.specs.Tokens.{past_digits, past_reserved}
use Rattle.shgrammar.specs.Words.{Inner, a_word}
use Rattle.shgrammar.proofs.Delimiters.{bodies_go}
use Rattle.shgrammar.proofs.Holds.{Tells, Turned, after, gives, picked_by, pushed_on, sees, stops, tells_change, tells_many, tells_then, tells_token, tells_with_bytes}
use Rattle.shgrammar.proofs.Places.{after_high, blanks_high, next_newline_high, past_high}
use Rattle.shgrammar.proofs.Shown.{end_closes, no_end, shown_in}
use Rattle.shgrammar.proofs.WordsWithin.{contents_end, stays_in}

module _ (g : Given) where
  -- the text that is read
  abbrev T : List ℕ
  T = g.text

  -- P holds of what r reads with its tree, and of the state there
  abbrev N : {X : Type 0} → Form X → (X → State → Type 0) → State → Type 0
  N r P s = Tells Whole g r P s

  -- the reading stands in the text, or at its end
  abbrev pub InText : {X : Type 0} → X → State → Type 0
  InText x t = t.at ≤ length T

  -- the reading stands in the text, or at its end, and this token is handed on there
  pub record Handed (n : Next) (t : State) : Type 0 where
    pub shows : Shows n.token T t.at
    pub within : t.at ≤ length T

  -- after what was read, the token that comes with it is handed on in the text
  abbrev pub HandsOn : {X : Type 0} → X × Next → State → Type 0
  HandsOn x t = Handed x.1 t

  -- where P holds after a form, and Q after the next one wherever P does, Q holds after both
  infixl 10 ◌▹◌
  ◌▹◌ : {X Y : Type 0} {P : X → State → Type 0} {Q : Y → State → Type 0} {r : Form X} {q : X → Form Y}
      {s : State} → N r P s → ((a : X) (t : State) → P a t → N (q a) Q t) → N (both r q) Q s
  one ▹ rest = tells_then Whole g one rest

  -- ---- moves

  -- A move stays in the text where the bytes that it goes over are in it.

  -- a move stays in the text, where the place that it leads to is in it
  moved_on : (m : Move) {s : State} → to m T s.at ≤ length T → N (move m) InText s
  moved_on m le = record { told = le }

  -- a token stays in the text, where the form that reads it does
  token_on : {X : Type 0} {r : Form X} {how : Telling} {s : State} → N r InText s → N (token how r) InText s
  token_on one = tells_token Whole g one (λ a t le. le)

  -- an operator of two bytes stays in the text, where the second is read
  two_on : {how : Telling} (s : State) → IsRead T (past_byte T s.at)
      → N (token how (both (move one_byte) (λ x. move one_byte))) InText s
  two_on s is = token_on (record { told = after_high T (past_byte T s.at) is })

  -- a byte is read where the token is not the end
  read : (n : Next) (s : State) → Handed n s → (test : Token → Bool) → test tokens.End ≡ false
      → test n.token ≡ true → IsRead T s.at
  read n s so test none e = so.shows.read (no_end test none n.token e)

  -- where the token is not the end, the place after its first byte is in the text
  pub read_on : (n : Next) (s : State) → Handed n s → (test : Token → Bool) → test tokens.End ≡ false
      → test n.token ≡ true → past_byte T s.at ≤ length T
  read_on n s so test none e = after_high T s.at (read n s so test none e)

  -- from a place in the text the next token is handed on in the text
  pub next_here : (position : Position) (s : State) → s.at ≤ length T → N (next_token position) Handed s
  unfolding next_token
  next_here position s le =
      record { told = record { shows = shown_in g.edition position T s.at; within = blanks_high T s.at le } }

  -- the next token is handed on in the text, with the state left to be inferred
  onward : (position : Position) {s : State} → s.at ≤ length T → N (next_token position) Handed s
  onward position {s = s} le = next_here position s le

  -- ---- comments, newlines and separators

  -- Each row stays in the text, and hands on a token that shows the bytes there, if it was given one.

  -- a comment ends in the text
  comment_high : (p : ℕ) → p ≤ length T → past_comment T p ≤ length T
  unfolding past_comment
  comment_high p le =
      cond_both (raw_stands T p number_sign) _ _ (λ q. q ≤ length T) (λ e. next_newline_high T p le) (λ e. le)

  -- after a comment, or none, a token is handed on in the text
  comment_in : (n : Next) (s : State) → Handed n s → N (a_comment n) HandsOn s
  unfolding a_comment
  comment_in n s so = sees (by_comment (comment_at T g.offset s.at))
    where
      by_comment : (c : Option Span) → N (comment_by n c) HandsOn s
      by_comment (Some c) =
          moved_on a_comment_on (comment_high s.at so.within) ▹ λ x t le.
          onward Command le ▹ λ m u good. gives good
      by_comment None = gives so

  -- the bodies of here-documents end in the text
  pub bodies_high : (s t : State) → s.at ≤ length T → changed bodies_here g s ≡ Ok t → t.at ≤ length T
  bodies_high s t le is = by_read (bodies_from g s.waiting s.bodies s.at) refl is
    where
      by_read : (x : Result (Row Span × ℕ) Fault) → bodies_from g s.waiting s.bodies s.at ≡ x
          → state_by x ≡ Ok t → t.at ≤ length T
      by_read (Ok x) read is =
          let same : record { at = x.1; waiting = []; bodies = x.0 } ≡ t = cc in
          subst (λ (u : State). u.at ≤ length T) same (bodies_go g s.waiting s.bodies s.at x read le).1
      by_read (Err f) read is = absurd cc

  -- the change that reads bodies stays in the text
  bodies_in : (s : State) → s.at ≤ length T → N (change bodies_here) InText s
  bodies_in s le = tells_change Whole g (λ t is. bodies_high s t le is)

  -- after a newline with its bodies, a `;` and a separator, each of which may not be there, a token is handed
  -- on in the text
  newline_in : (n : Next) (s : State) → Handed n s → N (a_newline n) HandsOn s
  unfolding a_newline
  newline_in n s so =
      picked_by (is_newline_token n.token)
      (λ e. moved_on one_byte (read_on n s so is_newline_token refl e) ▹ λ x t le. bodies_in t le ▹ λ y u low.
      onward Command low ▹ λ m v good. gives good)
      (gives so)

  semicolon_in : (n : Next) (s : State) → Handed n s → N (a_semicolon n) HandsOn s
  unfolding a_semicolon
  semicolon_in n s so =
      picked_by (is_semicolon n.token)
      (λ e. moved_on one_byte (read_on n s so is_semicolon refl e) ▹ λ x t le.
      onward Command le ▹ λ m u good. gives good)
      (gives so)

  separator_in : (n : Next) (s : State) → Handed n s → N (a_separator n) HandsOn s
  unfolding a_separator
  separator_in n s so = by_separator (separator_of n.token) refl
    where
      by_separator : (o : Option Separator) → separator_of n.token ≡ o → N (separator_by n o) HandsOn s
      by_separator (Some x) is =
          let on = read_on n s so (λ t. is_some (separator_of t)) refl (ap is_some is) in
          token_on (moved_on one_byte on) ▹ λ y t le. onward Command le ▹ λ m u good. gives good
      by_separator None is = gives so

  -- ---- joins

  -- Comments and newlines stay in the text, and hand on a token there.

  -- a token is handed on after the comments and newlines so far
  abbrev JoinHanded : JoinSoFar → State → Type 0
  JoinHanded j t = Handed j.next t

  -- a comment is kept with no move, so that the same token is handed on there
  kept_in : (cs : Row Span) (c : Option Span) (n : Next) (s : State) → Handed n s
      → N (with_comment cs c) (λ ds t. Handed n t) s
  kept_in cs (Some c) n s so = record { told = so }
  kept_in cs None n s so = gives so

  -- a token is handed on after a turn, be it the last one or not
  join_step : (p : Bool) (j : JoinSoFar) (t : State) → Handed j.next t
      → Turned Whole g JoinHanded (step_if p j) t
  join_step true j t so = so
  join_step false j t so = so

  -- after one comment and newline, or none, a token is handed on in the text
  join_turn_in : (j : JoinSoFar) (s : State) → Handed j.next s → N (join_turn j) (Turned Whole g JoinHanded) s
  unfolding join_turn
  join_turn_in j s so =
      comment_in j.next s so ▹ λ c t one. kept_in j.join.comments c.0 c.1 t one ▹ λ cs u two.
      newline_in c.1 u two ▹ λ l v good. gives (join_step l.0 _ v good)

  -- after all that stands from an operator to its operand, a token is handed on in the text
  join_in : (broken : Bool) (s : State) → s.at ≤ length T → N (a_join broken) HandsOn s
  unfolding a_join
  join_in broken s le =
      onward Command le ▹ λ n t so.
      tells_many Whole g join_turn JoinHanded join_turn_in _ t so ▹ λ j u good. gives good

  -- after comments and newlines, or none, a token is handed on in the text
  linebreak_in : (cs : Row Span) (n : Next) (s : State) → Handed n s → N (a_linebreak cs n) JoinHanded s
  unfolding a_linebreak
  linebreak_in cs n s so = tells_many Whole g join_turn JoinHanded join_turn_in _ s so

  -- ---- redirections

  -- An operator's token shows each of its bytes, so that all may be passed.

  -- digits end in the text
  digits_high : (p : ℕ) → p ≤ length T → past_digits T p ≤ length T
  unfolding past_digits
  digits_high p le = past_high is_digit T p le

  -- after the number before an operator, or none, a token is handed on in the text
  number_in : (n : Next) (s : State) → Handed n s → N (a_number n) HandsOn s
  unfolding a_number
  number_in n s so =
      picked_by (is_number_token n.token)
      (λ e. token_on (moved_on the_digits (digits_high s.at so.within)) ▹ λ x t le.
      onward Suffix le ▹ λ m u good. gives good)
      (gives so)

  -- where its bytes are read, an operator ends in the text
  operator_ends : (o : RedirectOperator) (s : State) → IsRead T s.at
      → (is_long o ≡ true → IsRead T (past_byte T s.at))
      → (is_strip o ≡ true → IsRead T (past_byte T (past_byte T s.at)))
      → N (an_operator o) InText s
  unfolding an_operator
  operator_ends redirects.Input s one two three = token_on (record { told = after_high T s.at one })
  operator_ends redirects.Output s one two three = token_on (record { told = after_high T s.at one })
  operator_ends redirects.HereStripped s one two three =
      token_on (record { told = after_high T (past_byte T (past_byte T s.at)) (three refl) })
  operator_ends _ s one two three = token_on (record { told = after_high T (past_byte T s.at) (two refl) })

  -- the operator that the token is ends in the text; where it is none, the row stops
  operator_in : (p : ℕ) (n : Next) (s : State) → Handed n s
      → N (operator_by p (redirect_operator_of n.token)) InText s
  operator_in p n s so = by_operator (redirect_operator_of n.token) refl
    where
      by_operator : (o : Option RedirectOperator) → redirect_operator_of n.token ≡ o
          → N (operator_by p o) InText s
      by_operator (Some o) is =
          let byte = read n s so (λ t. is_some (redirect_operator_of t)) refl (ap is_some is) in
          operator_ends o s byte (so.shows.long o is) (so.shows.strip o is) ▹ λ x t le. gives le
      by_operator None is = record { told = tt }

  -- where one more document waits nothing moves, so that the reading stays in the text
  waits_in : (w : Waiting) (s : State) → s.at ≤ length T → N (change (waits w)) InText s
  waits_in w s le =
      tells_change Whole g
      (λ t is. let same : with_waiting w s ≡ t = cc in subst (λ (u : State). u.at ≤ length T) same le)

  -- the row of a here-document stays in the text, whether the operator has one or not
  document_in : (o : RedirectOperator) (b p : ℕ) (bytes : Spelled) (s : State) → s.at ≤ length T
      → N (a_document o b p bytes) InText s
  unfolding a_document
  document_in o b p bytes s le = picked_by (takes_here o) (λ e. sees (by_delimiter _)) (gives le)
    where
      by_delimiter : (d : Option ADelimiter) → N (document_by b p (is_strip o) d) InText s
      by_delimiter (Some d) = waits_in _ s le ▹ λ x t low. gives low
      by_delimiter None = record { told = tt }

  -- ---- items, redirections and simple commands

  -- Each row of a command stays in the text, where what may be opened in it does.

  -- what may be opened stays in the text; a compound command and a function where their first byte is read
  pub record Stays (inner : Inner) : Type 0 where
    pub words : (s : State) → s.at ≤ length T → N (a_word inner) InText s
    pub compound : (o : Opener) (s : State) → IsRead T s.at → N (inner.compound o) HandsOn s
    pub function : (name : Span) (s : State) → IsRead T s.at → N (inner.function name) HandsOn s

  module _ (inner : Inner) (stays : Stays inner) where
    -- a token is handed on after the items so far
    abbrev ItemsHanded : ItemsSoFar → State → Type 0
    ItemsHanded i t = Handed i.next t

    -- the word that follows a redirection's operator ends in the text
    target_in : (s : State) → s.at ≤ length T → N (a_target inner) InText s
    unfolding a_target
    target_in s le =
        onward Suffix le ▹ λ n t so.
        picked_by (is_word n.token)
        (λ e. tells_with_bytes Whole g (stays.words t so.within) (λ a u low. low))
        (stops inner n)

    -- after a whole redirection, which is one more item, a token is handed on in the text
    redirect_in : (broken : Bool) (position : Position) (is : Row AnItem) (n : Next) (s : State)
        → Handed n s → N (one_redirect inner broken position is n) (Turned Whole g ItemsHanded) s
    unfolding one_redirect
    redirect_in broken position is n s so =
        sees (number_in n s so ▹ λ d t one. operator_in _ d.1 t one ▹ λ o u two.
        target_in u two ▹ λ w v three. document_in o.0 _ _ w.1 v three ▹ λ h x four.
        pushed_on (onward position four ▹ λ m y good. gives good))

    -- after a word or an assignment, which is one more item, a token is handed on in the text
    an_item_in : (i : ItemsSoFar) (position : Position) (s : State) → s.at ≤ length T
        → N (an_item inner i position) (Turned Whole g ItemsHanded) s
    unfolding an_item
    an_item_in i position s le =
        stays.words s le ▹ λ w t low. pushed_on (onward position low ▹ λ n v good. gives good)

    -- after one more item, by what the token begins, or none, a token is handed on in the text
    item_by_in : (i : ItemsSoFar) (o : Option Position) (s : State) → Handed i.next s
        → N (item_by inner i o) (Turned Whole g ItemsHanded) s
    item_by_in i (Some position) s so = an_item_in i position s so.within
    item_by_in i None s so =
        picked_by (begins_redirect i.next.token)
        (λ e. redirect_in (breaks i) (after_redirect i.position) i.items i.next s so)
        (gives so)

    item_turn_in : (i : ItemsSoFar) (s : State) → Handed i.next s
        → N (item_turn inner i) (Turned Whole g ItemsHanded) s
    unfolding item_turn
    item_turn_in i s so = item_by_in i (after_word i.next.token) s so

    -- after a simple command, which has these items so far, a token is handed on in the text
    simple_in : (i : ItemsSoFar) (s : State) → Handed i.next s → N (a_simple inner i) HandsOn s
    unfolding a_simple
    simple_in i s so =
        tells_many Whole g (item_turn inner) ItemsHanded item_turn_in i s so ▹ λ j t good. gives good

    -- ---- commands of any kind, with the redirections after compound ones

    -- after one more redirection of a compound command, or none, and after all of them, a token is handed on
    -- in the text
    redirect_turn_in : (i : ItemsSoFar) (s : State) → Handed i.next s
        → N (redirect_turn inner i) (Turned Whole g ItemsHanded) s
    unfolding redirect_turn
    redirect_turn_in i s so =
        picked_by (begins_redirect i.next.token)
        (λ e. redirect_in i.next.broken Command i.items i.next s so)
        (gives so)

    with_redirect_list_in : (c : ACommand × Next) (s : State) → Handed c.1 s → N (with_redirect_list inner c) HandsOn s
    unfolding with_redirect_list
    with_redirect_list_in c s so =
        let none = items_so_far [] Command c.1 in
        tells_many Whole g (redirect_turn inner) ItemsHanded redirect_turn_in none s so ▹ λ r t good.
        gives good

    -- after the compound command that the token opens, with its redirections, a token is handed
    -- on in the text
    compound_in : (n : Next) (s : State) → Handed n s → N (compound_by inner n (opener_of n.token)) HandsOn s
    compound_in n s so = by_opener (opener_of n.token) refl
      where
        by_opener : (o : Option Opener) → opener_of n.token ≡ o → N (compound_by inner n o) HandsOn s
        by_opener (Some o) is =
            stays.compound o s (read n s so (λ t. is_some (opener_of t)) refl (ap is_some is)) ▹ with_redirect_list_in
        by_opener None is = stops inner n

    -- after what begins with a word, a function where `(` follows a name and else a simple command, a token
    -- is handed on in the text
    word_command_in : (s : State) → s.at ≤ length T → N (a_word_command inner) HandsOn s
    unfolding a_word_command
    word_command_in s le =
        sees (stays.words s le ▹ λ w u low. onward Suffix low ▹ λ n v so.
        picked_by (is_paren n.token)
        (λ e. let byte = read n v so is_paren refl e in
        picked_by (seen is_a_name g s) (λ f. stays.function (word_span w) v byte) (record { told = tt }))
        (pushed_on (simple_in (items_so_far _ Suffix n) v so)))

    -- after a command, whatever begins it, a token is handed on in the text
    command_in : (n : Next) (s : State) → Handed n s → N (a_command inner n) HandsOn s
    unfolding a_command
    command_in n s so =
        picked_by (is_word n.token) (λ e. word_command_in s so.within)
        (picked_by (begins_simple n.token) (λ e. simple_in (items_so_far [] Command n) s so) (compound_in n s so))

    -- ---- pipelines, and-or lists and entries

    -- after the `!` of a pipeline, or none, a token is handed on in the text
    bang_in : (n : Next) (s : State) → Handed n s → N (a_bang n) HandsOn s
    unfolding a_bang
    bang_in n s so =
        picked_by (is_bang n.token)
        (λ e. token_on (moved_on one_byte (read_on n s so is_bang refl e)) ▹ λ x t le.
        onward Command le ▹ λ m u good. gives good)
        (gives so)

    -- a token is handed on after the commands of a pipeline so far
    abbrev PipesHanded : PipesSoFar → State → Type 0
    PipesHanded p t = Handed p.next t

    -- after one more command after a `|`, or none, a token is handed on in the text
    pipe_turn_in : (p : PipesSoFar) (s : State) → Handed p.next s
        → N (pipe_turn inner p) (Turned Whole g PipesHanded) s
    unfolding pipe_turn one_command
    pipe_turn_in p s so =
        picked_by (is_pipe p.next.token)
        (λ e. token_on (moved_on one_byte (read_on p.next s so is_pipe refl e)) ▹ λ x t le.
        join_in p.next.broken t le ▹ λ j u one. command_in j.1 u one ▹ λ c v good. pushed_on (gives good))
        (gives so)

    -- after a pipeline, from its `!` to its last command, a token is handed on in the text
    pipeline_in : (n : Next) (s : State) → Handed n s → N (a_pipeline inner n) HandsOn s
    unfolding a_pipeline
    pipeline_in n s so =
        bang_in n s so ▹ λ b t one. command_in b.1 t one ▹ λ c u two.
        tells_many Whole g (pipe_turn inner) PipesHanded pipe_turn_in (pipes_so_far [] c.1) u two ▹ λ p v good.
        gives good

    -- a token is handed on after the pipelines of an and-or list so far
    abbrev AndOrHanded : AndOrSoFar → State → Type 0
    AndOrHanded a t = Handed a.next t

    -- after one more pipeline after `&&` or `||`, or none, a token is handed on in the text
    and_or_turn_in : (a : AndOrSoFar) (s : State) → Handed a.next s
        → N (and_or_turn inner a) (Turned Whole g AndOrHanded) s
    unfolding and_or_turn one_pipeline
    and_or_turn_in a s so = by_operator (and_or_operator_of a.next.token) refl
      where
        by_operator : (o : Option AndOrOperator) → and_or_operator_of a.next.token ≡ o
            → N (joined_by inner a o) (Turned Whole g AndOrHanded) s
        by_operator (Some o) is =
            two_on s (so.shows.and_or o is) ▹ λ x t le.
            join_in a.next.broken t le ▹ λ j u one. pipeline_in j.1 u one ▹ λ p v good.
            pushed_on (gives good)
        by_operator None is = gives so

    -- after an and-or list, from its first pipeline to its last, a token is handed on in the text
    and_or_in : (n : Next) (s : State) → Handed n s → N (an_and_or inner n) HandsOn s
    unfolding an_and_or
    and_or_in n s so =
        pipeline_in n s so ▹ λ p t one.
        tells_many Whole g (and_or_turn inner) AndOrHanded and_or_turn_in _ t one ▹ λ a u good.
        gives good

    -- after an and-or list with its separator and its comment, a token is handed on in the text
    entry_in : (blank : Bool) (n : Next) (s : State) → Handed n s
        → N (an_entry inner blank n) (λ e t. Handed e.next t) s
    unfolding an_entry
    entry_in blank n s so =
        and_or_in n s so ▹ λ a t one. separator_in a.1 t one ▹ λ z u two. comment_in z.1 u two ▹ λ c v good.
        gives good

    -- ---- lists

    -- Each row of a list stays in the text, and hands on a token there.

    -- a token is handed on after the entries so far
    abbrev pub ListHanded : ListSoFar → State → Type 0
    ListHanded l t = Handed l.next t

    -- a token is handed on after a turn, be it the last one or not
    list_step : (p : Bool) (l : ListSoFar) (t : State) → Handed l.next t
        → Turned Whole g ListHanded (step_if p l) t
    list_step true l t so = so
    list_step false l t so = so

    -- after one more entry of the line, or none, a token is handed on in the text
    entry_turn_in : (l : ListSoFar) (s : State) → Handed l.next s
        → N (entry_turn inner l) (Turned Whole g ListHanded) s
    unfolding entry_turn one_entry
    entry_turn_in l s so =
        picked_by (begins_pipeline l.next.token)
        (λ e. entry_in _ l.next s so ▹ λ e t good.
        pushed_on (gives (list_step (is_some e.parted) _ t good)))
        (gives so)

    -- where the comment at the end of a line, if there is one, becomes an entry, the same token
    -- is handed on there
    remark_in : (l : ListSoFar) (x : Option Span × Next) (s : State) → Handed x.1 s
        → N (remark_by l x) ListHanded s
    remark_in l (Some c, n) s so = pushed_on (gives so)
    remark_in l (None, n) s so = gives so

    -- after all that stands on one line of a list, a token is handed on in the text
    pub on_line_in : (l : ListSoFar) (s : State) → Handed l.next s → N (on_line inner l) ListHanded s
    unfolding on_line a_remark
    on_line_in l s so =
        tells_many Whole g (entry_turn inner) ListHanded entry_turn_in l s so ▹ λ m t one.
        comment_in m.next t one ▹ λ x u good. remark_in m x u good

    -- after one line with its newline, or what stands before the list's end, a token is handed on in the text
    list_turn_in : (l : ListSoFar) (s : State) → Handed l.next s
        → N (list_turn inner l) (Turned Whole g ListHanded) s
    unfolding list_turn
    list_turn_in l s so =
        on_line_in l s so ▹ λ m t one. newline_in m.next t one ▹ λ x u good. gives (list_step x.0 _ u good)

    -- after all lines of a list, which may hold no command, and after a list, which holds one, a token is
    -- handed on in the text
    lines_in : (n : Next) (s : State) → Handed n s
        → N (many (list_turn inner) (list_so_far (none_listed false) n)) ListHanded s
    lines_in n s so =
        tells_many Whole g (list_turn inner) ListHanded list_turn_in (list_so_far (none_listed false) n) s so

    list_in : (n : Next) (s : State) → Handed n s → N (a_list inner n) HandsOn s
    unfolding a_list
    list_in n s so =
        lines_in n s so ▹ λ l t good. picked_by l.list.commands (λ e. gives good) (stops inner l.next)

    -- ---- compound commands

    -- Each row of a compound command stays in the text, and hands on a token there.

    -- a reserved word ends in the text where its first byte is read, and so does what opens a command
    reserved_high : (p : ℕ) → IsRead T p → past_reserved T p ≤ length T
    unfolding past_reserved
    reserved_high p is = past_high is_name T (past_byte T p) (after_high T p is)

    opener_high : (paren : Bool) (p : ℕ) → IsRead T p → to (past_opener paren) T p ≤ length T
    opener_high true p is = after_high T p is
    opener_high false p is = reserved_high p is

    -- after a reserved word or a parenthesis, a token is handed on in the text
    reserved_or_paren_in : (text : Spelled) (paren : Bool) (position : Position) (s : State) → IsRead T s.at
        → N (reserved_or_paren text paren position) HandsOn s
    unfolding reserved_or_paren
    reserved_or_paren_in text paren position s is =
        token_on (moved_on (past_opener paren) (opener_high paren s.at is)) ▹ λ x t le.
        onward position le ▹ λ n u good. gives good

    -- where the token closes, a byte is read
    closes : (c : Closing) (n : Next) (s : State) → Handed n s → is_closing c n.token ≡ true → IsRead T s.at
    closes c n s so e = read n s so (is_closing c) (end_closes c) e

    -- after what has to close here, a token is handed on in the text; where the token here is another, the
    -- row stops
    closing_in : (c : Closing) (n : Next) (s : State) → Handed n s → N (closing inner c n) HandsOn s
    unfolding closing
    closing_in c n s so =
        picked_by (is_closing c n.token)
        (λ e. reserved_or_paren_in _ (is_close_paren c) _ s (closes c n s so e))
        (stops inner n)

    -- after a condition, `then` and what it runs, a token is handed on in the text
    branch_in : (n : Next) (s : State) → Handed n s → N (a_branch inner n) HandsOn s
    unfolding a_branch
    branch_in n s so =
        list_in n s so ▹ λ c t one. closing_in closings.Then c.1 t one ▹ λ k u two.
        list_in k.1 u two ▹ λ b v good. gives good

    -- a token is handed on after the branches of an `if` so far
    abbrev BranchesHanded : BranchesSoFar → State → Type 0
    BranchesHanded b t = Handed b.next t

    -- after one more branch after `elif`, or none, a token is handed on in the text
    elif_in : (b : BranchesSoFar) (s : State) → Handed b.next s
        → N (elif_turn inner b) (Turned Whole g BranchesHanded) s
    unfolding elif_turn
    elif_in b s so =
        picked_by (is_closing closings.Elif b.next.token)
        (λ e. reserved_or_paren_in _ false _ s (closes closings.Elif b.next s so e) ▹ λ k t one.
        branch_in k.1 t one ▹ λ x u good. pushed_on (gives good))
        (gives so)

    -- after `else` with its list, or none, a token is handed on in the text
    else_in : (n : Next) (s : State) → Handed n s → N (an_else inner n) HandsOn s
    unfolding an_else
    else_in n s so =
        picked_by (is_closing closings.Else n.token)
        (λ e. reserved_or_paren_in _ false _ s (closes closings.Else n s so e) ▹ λ k t one.
        list_in k.1 t one ▹ λ l u good. gives good)
        (gives so)

    -- a token is handed on after the closer
    abbrev ClosedHanded : {X : Type 0} → Closed X → State → Type 0
    ClosedHanded x t = Handed x.next t

    -- after an `if`, a loop and a group, from just after their openers to their closers, a token is handed on
    -- in the text
    if_in : (n : Next) (s : State) → Handed n s → N (an_if inner n) ClosedHanded s
    unfolding an_if
    if_in n s so =
        branch_in n s so ▹ λ f t one.
        tells_many Whole g (elif_turn inner) BranchesHanded elif_in (branches_so_far [] f.1) t one ▹ λ b u two.
        else_in b.next u two ▹ λ e v three. closing_in closings.Fi e.1 v three ▹ λ c w good. gives good

    loop_in : (n : Next) (s : State) → Handed n s → N (a_loop inner n) ClosedHanded s
    unfolding a_loop
    loop_in n s so =
        list_in n s so ▹ λ c t one. closing_in closings.Do c.1 t one ▹ λ d u two.
        list_in d.1 u two ▹ λ b v three. closing_in closings.Done b.1 v three ▹ λ e w good. gives good

    group_in : (c : Closing) (n : Next) (s : State) → Handed n s → N (a_group inner c n) ClosedHanded s
    unfolding a_group
    group_in c n s so = list_in n s so ▹ λ l t one. closing_in c l.1 t one ▹ λ k u good. gives good

    -- after the word that follows `for`, which has to be a name, a token is handed on in the text
    for_name_in : (n : Next) (s : State) → Handed n s → N (a_for_name inner n) HandsOn s
    unfolding a_for_name
    for_name_in n s so =
        picked_by (begins_word n.token)
        (λ e. sees (sees (stays.words s so.within ▹ λ w v le.
        picked_by (seen is_a_name g s)
        (λ f. onward Command le ▹ λ m z good. gives good)
        (record { told = tt }))))
        (stops inner n)

    -- after the `;` or the newline that ends the words of a `for`, a token is handed on in the text
    sequential_sep_in : (cs : Row Span) (n : Next) (s : State) → Handed n s
        → N (a_sequential_sep inner cs n) JoinHanded s
    unfolding a_sequential_sep
    sequential_sep_in cs n s so =
        semicolon_in n s so ▹ λ x t one. linebreak_in cs x.1 t one ▹ λ l u good.
        picked_by (x.0 || l.join.broken) (λ e. gives good) (stops inner l.next)

    -- a token is handed on after what stands between the name of a `for` and its `do`
    abbrev HeadHanded : Headed → State → Type 0
    HeadHanded h t = Handed h.next t

    -- after one more word after `in`, or none, a token is handed on in the text
    word_turn_in : (i : ItemsSoFar) (s : State) → Handed i.next s
        → N (word_turn inner i) (Turned Whole g ItemsHanded) s
    unfolding word_turn
    word_turn_in i s so = picked_by (is_word i.next.token) (λ e. an_item_in i Suffix s so.within) (gives so)

    -- after `in` with its words and what ends them, a token is handed on in the text
    for_words_in : (cs : Row Span) (s : State) → IsRead T s.at → N (for_words inner cs) HeadHanded s
    unfolding for_words
    for_words_in cs s is =
        reserved_or_paren_in _ false _ s is ▹ λ i t one.
        tells_many Whole g (word_turn inner) ItemsHanded word_turn_in _ t one ▹ λ ws u two.
        sequential_sep_in cs ws.next u two ▹ λ l v good. gives good

    -- after what stands between the name and `do`, with an `in` or without, a token is handed on in the text
    for_head_in : (n : Next) (s : State) → Handed n s → N (a_for_head inner n) HeadHanded s
    unfolding a_for_head
    for_head_in n s so =
        semicolon_in n s so ▹ λ x t one. linebreak_in [] x.1 t one ▹ λ l u two.
        picked_by (begins_words x.0 l.next.token)
        (λ e. for_words_in l.join.comments u (closes closings.In l.next u two (and_parts _ _ e).1))
        (gives two)

    -- after a `for`, from its name to its `done`, a token is handed on in the text
    for_in_text : (n : Next) (s : State) → Handed n s → N (a_for inner n) ClosedHanded s
    unfolding a_for
    for_in_text n s so =
        for_name_in n s so ▹ λ x t one. for_head_in x.1 t one ▹ λ h u two.
        closing_in closings.Do h.next u two ▹ λ d v three. group_in closings.Done d.1 v three ▹ λ b w good.
        gives good

    -- after the word that follows `case`, a token is handed on in the text
    case_word_in : (n : Next) (s : State) → Handed n s → N (a_case_word inner n) HandsOn s
    unfolding a_case_word
    case_word_in n s so =
        picked_by (begins_word n.token)
        (λ e. stays.words s so.within ▹ λ w t le. onward Command le ▹ λ m u good. gives good)
        (stops inner n)

    -- a token is handed on after the patterns of an item so far
    abbrev PatternsHanded : PatternsSoFar → State → Type 0
    PatternsHanded p t = Handed p.next t

    -- after one pattern, a token is handed on in the text
    pattern_in : (ws : Row AWord) (s : State) → s.at ≤ length T → N (a_pattern inner ws) PatternsHanded s
    unfolding a_pattern
    pattern_in ws s le =
        stays.words s le ▹ λ w t low. pushed_on (onward Suffix low ▹ λ n u good. gives good)

    -- after one more pattern after a `|`, or none, a token is handed on in the text
    pattern_turn_in : (p : PatternsSoFar) (s : State) → Handed p.next s
        → N (pattern_turn inner p) (Turned Whole g PatternsHanded) s
    unfolding pattern_turn one_pattern
    pattern_turn_in p s so =
        picked_by (is_pipe p.next.token)
        (λ e. token_on (moved_on one_byte (read_on p.next s so is_pipe refl e)) ▹ λ x t le.
        onward Suffix le ▹ λ n u one.
        picked_by (begins_word n.token)
        (λ f. pattern_in p.patterns u one.within ▹ λ q v good. gives good)
        (stops inner n))
        (gives so)

    -- after all patterns of an item, the first of which is not `esac`, a token is handed on in the text
    pattern_list_in : (n : Next) (s : State) → Handed n s → N (a_pattern_list inner n) PatternsHanded s
    unfolding a_pattern_list
    pattern_list_in n s so =
        picked_by (begins_pattern n.token)
        (λ e. pattern_in [] s so.within ▹ λ p t one.
        tells_many Whole g (pattern_turn inner) PatternsHanded pattern_turn_in p t one)
        (stops inner n)

    -- after the `(` before patterns, or none, a token is handed on in the text
    open_bracket_in : (n : Next) (s : State) → Handed n s → N (an_open_bracket n) Handed s
    unfolding an_open_bracket
    open_bracket_in n s so =
        picked_by (is_paren n.token)
        (λ e. moved_on one_byte (read_on n s so is_paren refl e) ▹ λ x t le. next_here Command t le)
        (gives so)

    -- a token is handed on after the end of an item
    abbrev EndHanded : ItemEnd → State → Type 0
    EndHanded e t = Handed e.next t

    -- after `;;` or `;&`, with newlines and comments after it, a token is handed on in the text
    ender_in : (b : Bool) (s : State) → IsRead T (past_byte T s.at) → N (an_ender b) EndHanded s
    unfolding an_ender
    ender_in b s is =
        two_on s is ▹ λ y u le.
        sees (onward Command le ▹ λ n w one. linebreak_in [] n w one ▹ λ l z good. gives good)

    -- after the end of an item, which is an ender or stands before `esac`, a token is handed on in the text
    item_end_in : (there : ℕ) (n : Next) (s : State) → Handed n s
        → N (an_item_end inner there n) EndHanded s
    unfolding an_item_end
    item_end_in there n s so =
        picked_by (ends_item n.token) (λ e. ender_in (falls_through n.token) s (so.shows.item_end e))
        (picked_by (is_closing closings.Esac n.token) (λ e. gives so) (stops inner n))

    -- a token is handed on after the items of a `case` so far
    abbrev CasesHanded : CasesSoFar → State → Type 0
    CasesHanded c t = Handed c.next t

    -- after an item of a `case`, from its patterns to its end, a token is handed on in the text
    one_case_in : (c : CasesSoFar) (s : State) → Handed c.next s
        → N (one_case inner c) (Turned Whole g CasesHanded) s
    unfolding one_case a_body
    one_case_in c s so =
        sees (open_bracket_in c.next s so ▹ λ n u first. pattern_list_in n u first ▹ λ ps v one.
        closing_in closings.Paren ps.next v one ▹ λ k w two. lines_in k.1 w two ▹ λ b x three.
        item_end_in _ b.next x three ▹ λ e y good. pushed_on (gives good))

    -- after one more item of a `case`, or none before `esac`, a token is handed on in the text
    case_turn_in : (c : CasesSoFar) (s : State) → Handed c.next s
        → N (case_turn inner c) (Turned Whole g CasesHanded) s
    unfolding case_turn
    case_turn_in c s so =
        picked_by (is_closing closings.Esac c.next.token) (λ e. gives so) (one_case_in c s so)

    -- after the word of a `case`, its `in`, and the newlines before and after that, a token is handed on in
    -- the text
    case_head_in : (n : Next) (s : State) → Handed n s → N (a_case_head inner n) (λ h t. Handed h.2 t) s
    unfolding a_case_head
    case_head_in n s so =
        case_word_in n s so ▹ λ w t one. linebreak_in [] w.1 t one ▹ λ l u two.
        closing_in closings.In l.next u two ▹ λ i v three.
        linebreak_in l.join.comments i.1 v three ▹ λ h x good. gives good

    -- after a `case`, from its word to its `esac`, a token is handed on in the text
    case_in_text : (n : Next) (s : State) → Handed n s → N (a_case inner n) ClosedHanded s
    unfolding a_case
    case_in_text n s so =
        case_head_in n s so ▹ λ h t one.
        tells_many Whole g (case_turn inner) CasesHanded case_turn_in (cases_so_far [] h.1 h.2) t one ▹ λ c u two.
        closing_in closings.Esac c.next u two ▹ λ e v good. gives good

    -- after a compound command of each kind, from just after its opener to its closer, a token is handed on
    -- in the text
    form_in : (o : Opener) (n : Next) (s : State) → Handed n s → N (a_form inner o n) ClosedHanded s
    form_in openers.Brace n s so = group_in closings.Brace n s so ▹ λ l t good. gives good
    form_in openers.Paren n s so = group_in closings.Paren n s so ▹ λ l t good. gives good
    form_in openers.If n s so = if_in n s so
    form_in openers.While n s so = loop_in n s so ▹ λ l t good. gives good
    form_in openers.Until n s so = loop_in n s so ▹ λ l t good. gives good
    form_in openers.For n s so = for_in_text n s so
    form_in openers.Case n s so = case_in_text n s so

    -- after a compound command with its opener, a token is handed on in the text
    a_compound_in : (o : Opener) (s : State) → IsRead T s.at → N (a_compound inner o) HandsOn s
    unfolding a_compound
    a_compound_in o s is =
        reserved_or_paren_in _ (is_open_paren o) _ s is ▹ λ x t one. form_in o x.1 t one ▹ λ f u good.
        pushed_on (gives good)

    -- after a function, from the `(` after its name, a token is handed on in the text
    a_function_in : (name : Span) (s : State) → IsRead T s.at → N (a_function inner name) HandsOn s
    unfolding a_function
    a_function_in name s is =
        reserved_or_paren_in _ true Command s is ▹ λ o t one. closing_in closings.Paren o.1 t one ▹ λ c u two.
        linebreak_in [] c.1 u two ▹ λ l v three. compound_in l.next v three ▹ λ b w good. gives good

  -- a word stays in the text
  words_in : (room : ℕ) (s : State) → s.at ≤ length T → N (a_word (level room)) InText s
  unfolding a_word
  words_in room s le =
      sees (tells_then Whole g {P = InText}
      (tells_token Whole g
      (record { told = contents_end g (level room) (stays_in g room) Plain _ [] s le })
      (λ a t so. so.0))
      (λ w t so. gives so))

  -- what may be opened stays in the text, by how many more may be
  pub stays_at : (room : ℕ) → Stays (level room)
  unfolding level
  stays_at zero = record {
    words = λ s le. words_in zero s le;
    compound = λ o s is. after (λ p t. record { told = tt });
    function = λ name s is. record { told = tt };
  }
  stays_at (suc room) = record {
    words = λ s le. words_in (suc room) s le;
    compound = λ o s is. a_compound_in (level room) (stays_at room) o s is;
    function = λ name s is. a_function_in (level room) (stays_at room) name s is;
  }
