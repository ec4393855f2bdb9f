-- Commands elsewhere: what they are there is what they are by themselves, moved. Where
-- a command ends is moved too, since none is empty.
use Rattle.std.proofs.Common.{◌≡◌, ℕ, ◌+◌, Bool, true, false, not, ◌&&◌, ◌||◌, List as Row, [], ◌∷◌, map, Option, Some, None, option_map, is_some, refl, sym, ap, subst, ◌∙◌}
use Rattle.std.specs.Prelude.{All}
use Rattle.std.proofs.lemmas.List.Elements.{All-nil, All-push}
use Rattle.shast.specs.declared.tree.Span.{Span}
use Rattle.shast.specs.declared.tree.AndOrOperator.{AndOrOperator}
use Rattle.shast.specs.declared.tree.RedirectOperator.{RedirectOperator}
use Rattle.shast.specs.Nodes.{word_span}
use Rattle.shast.specs.Tree.{ACommand, AnItem, AWord, assign, argument, redirect, item, items_of, simple, with_redirects, pipeline, and_or}
use Rattle.shgrammar.specs.declared.token.Next.{Next}
use Rattle.shgrammar.specs.declared.token.Opener.{Opener}
use Rattle.shgrammar.specs.declared.token.Position.{Position}
use Rattle.shgrammar.specs.declared.token.Position.TheVariants.{Command, Prefix, Suffix}
use Rattle.shgrammar.specs.declared.token.Separator.{Separator}
use Rattle.shgrammar.specs.HereDocuments.{ADelimiter}
use Rattle.shgrammar.specs.Form.{Spelled, give, many, Step, again, done, step_if}
use Rattle.shgrammar.specs.Words.{Inner}
use Rattle.shgrammar.specs.Commands.{is_empty, begins_redirect, begins_simple, after_word, redirect_operator_of, ItemsSoFar, items_so_far, breaks, as_item, an_item, a_number, is_strip, an_operator, operator_by, a_target, document, document_by, a_document, one_redirect, after_redirect, item_by, item_turn, a_simple, a_newline, a_semicolon, none_waits, nothing_waits, JoinSoFar, join_so_far, a_join_of, with_comment, join_turn, a_join, redirect_turn, with_redirect_list, compound_by, opener_of, named_function, a_word_command, a_command, a_bang, PipesSoFar, pipes_so_far, one_command, pipe_turn, a_pipeline, AndOrSoFar, and_or_so_far, one_pipeline, joined_by, and_or_turn, and_or_operator_of, an_and_or, ASeparator, separator_by, separator_of, a_separator}
use Rattle.shgrammar.proofs.Turns.{Stepped}
use Rattle.shgrammar.proofs.Moved.{Place, Any, same, each, on_first, of_first, step, Moves, moves_give, moves_move, moves_stop, moves_so, moves_then, moves_see, moves_here, moves_see_waiting, moves_on, moves_pushed, moves_push, moves_pick_by, moves_pick, moves_token, moves_with_bytes, moves_many, moves_waits, moves_newline}
use Rattle.shgrammar.proofs.MovedTrees.{is_empty_map, pushed_some, span_to, join_to, here_to, word_to, item_to, command_to, pipe_to, pipeline_to, part_to, and_or_to, items_row, pipes_row, parts_row, redirects_to, word_span_to, CommandEnds, simple_ends, redirects_end, PipeEnds, PipelineEnds, pipeline_ends, PartEnds, AndOrEnds, and_or_ends}
use Rattle.shgrammar.proofs.MovedWords.{InnerMoves, moves_next, moves_mark, moves_comment, moves_word, moves_unexpected}

-- that something is there does not change where it is moved
pub is_some_map : {A B : Type 0} (c : A → B) (o : Option A) → is_some (option_map c o) ≡ is_some o
is_some_map c None = refl
is_some_map c (Some x) = refl

-- a step that goes on by a test moves, where the test is the same there
pub moves_if : {z : Place} {A : Type 0} {c : A → A} {P : A → Type 0} (b d : Bool) → d ≡ b → (x y : A) → y ≡ c x → P x →
    Moves z (step c) (Stepped P) (give (step_if b x)) (give (step_if d y))
moves_if true true alike x y is so = moves_give (ap (λ v. again v) is) so
moves_if true false alike x y is so = absurd cc
moves_if false true alike x y is so = absurd cc
moves_if false false alike x y is so = moves_give (ap (λ v. done v) is) so

-- where nothing is asked of a step, whatever is known of it is enough
pub of_any : {A : Type 0} (P : A → Type 0) (x : Step A) → Stepped P x → Stepped Any x
of_any P (again a) so = tt
of_any P (done a) so = tt

-- where there are items, or one begins here, there are some if neither a word nor a redirection begins here
begun_none : (e : Bool) (o : Option Position) (r : Bool) → (not e || (is_some o || r)) ≡ true → o ≡ None → r ≡ false →
    e ≡ false
begun_none false o r so is none = refl
begun_none true None false so is none = absurd cc
begun_none true None true so is none = absurd cc
begun_none true (Some p) r so is none = absurd cc

module _ (z : Place) where
  -- how much further the text stands there, and whether the trees in command substitutions are kept
  abbrev k : ℕ
  k = z.base

  abbrev deep : Bool
  deep = z.deep

  -- ---- items

  -- the items so far, moved, and that there are some
  abbrev pub items_to : ItemsSoFar → ItemsSoFar
  items_to i = items_so_far (map (item_to k deep) i.items) i.position i.next

  abbrev pub SomeItems : ItemsSoFar → Type 0
  SomeItems i = is_empty i.items ≡ false

  -- there are items, or one begins here
  abbrev Begun : ItemsSoFar → Type 0
  Begun i = (not (is_empty i.items) || begins_simple i.next.token) ≡ true

  -- where there are items they are begun; a continuation breaks them there as it does here
  some_begun : (i : ItemsSoFar) → SomeItems i → Begun i
  some_begun i some = ap (λ e. not e || begins_simple i.next.token) some

  breaks_to : (i : ItemsSoFar) → breaks (items_to i) ≡ breaks i
  breaks_to i = ap (λ e. not e && i.next.broken) (is_empty_map (item_to k deep) i.items)

  -- an item that is made of a moved word is the moved item
  as_item_to : (b c : Bool) → b ≡ c → (position : Position) (w : AWord) →
      item b (as_item position (word_to k deep w)) ≡ item_to k deep (item c (as_item position w))
  as_item_to b c is Prefix w = ap (λ e. item e (assign (word_to k deep w))) is
  as_item_to b c is Command w = ap (λ e. item e (argument (word_to k deep w))) is
  as_item_to b c is Suffix w = ap (λ e. item e (argument (word_to k deep w))) is

  -- ---- newlines, `;`, and joins

  -- a newline with the bodies after it is read there too, and so is a `;`
  pub moves_line_end : (n : Next) → Moves z same Any (a_newline n) (a_newline n)
  unfolding a_newline
  moves_line_end n = moves_pick _
      (moves_newline same Any _ _ (moves_then (moves_next z _) (λ m so. moves_give refl tt))) (moves_give refl tt)

  pub moves_semicolon : (n : Next) → Moves z same Any (a_semicolon n) (a_semicolon n)
  unfolding a_semicolon
  moves_semicolon n = moves_pick _ (moves_on (moves_then (moves_next z _) (λ m so. moves_give refl tt)))
      (moves_give refl tt)

  -- there too no here-document waits, or the fault where one does is moved
  moves_none_waits : (w : Option ℕ) → Moves z same Any (none_waits w) (none_waits (option_map (λ (p : ℕ). k + p) w))
  moves_none_waits (Some b) = moves_stop
  moves_none_waits None = moves_give refl tt

  pub moves_nothing_waits : Moves z same Any nothing_waits nothing_waits
  unfolding nothing_waits
  moves_nothing_waits = moves_see_waiting (λ w. moves_none_waits w)

  -- the comments so far are moved with one more, where one stands
  moves_with : (cs : Row Span) (c : Option Span) →
      Moves z (map (span_to k)) Any (with_comment cs c) (with_comment (map (span_to k) cs) (option_map (span_to k) c))
  moves_with cs (Some c) = moves_push (span_to k) refl refl tt
  moves_with cs None = moves_give refl tt

  -- a join so far, moved; its turns are moved too, and so is a whole join
  abbrev pub join_so_far_to : JoinSoFar → JoinSoFar
  join_so_far_to j = join_so_far (join_to k j.join) j.next

  join_is : (broken newline : Bool) (c : Option Span) (cs : Row Span) (n : Next)
      → join_so_far (a_join_of ((broken || is_some (option_map (span_to k) c)) || newline) (map (span_to k) cs)) n
      ≡ join_so_far_to (join_so_far (a_join_of ((broken || is_some c) || newline) cs) n)
  join_is broken newline c cs n =
      ap (λ (e : Bool). join_so_far (a_join_of ((broken || e) || newline) (map (span_to k) cs)) n)
      (is_some_map (span_to k) c)

  moves_join_turn : (j : JoinSoFar) →
      Moves z (step join_so_far_to) (Stepped Any) (join_turn j) (join_turn (join_so_far_to j))
  unfolding join_turn
  moves_join_turn j =
      moves_then (moves_comment z j.next)
      (λ c so. moves_then (moves_with j.join.comments c.0)
      (λ cs all. moves_then (moves_line_end c.1)
      (λ l last. moves_if l.0 l.0 refl _ _ (join_is j.join.broken l.0 c.0 cs l.1) tt)))

  pub moves_joins : (j : JoinSoFar) → Moves z join_so_far_to Any (many join_turn j) (many join_turn (join_so_far_to j))
  moves_joins j = moves_many join_so_far_to Any Any join_turn join_turn (λ i so. moves_join_turn i) (λ i so. tt) j tt

  pub moves_join : (broken : Bool) → Moves z (on_first {Y = Next} (join_to k)) Any (a_join broken) (a_join broken)
  unfolding a_join
  moves_join broken = moves_then (moves_next z _)
      (λ n so. moves_then (moves_joins (join_so_far (a_join_of (broken || n.broken) []) n))
      (λ j all. moves_give refl tt))

  -- ---- redirections

  -- the number of a redirection is moved, where it has one, and so is its operator
  moves_number : (n : Next) → Moves z (on_first {Y = Next} (option_map (span_to k))) Any (a_number n) (a_number n)
  unfolding a_number
  moves_number n = moves_pick _
      (moves_then (moves_mark z) (λ x so. moves_then (moves_next z _) (λ m all. moves_give refl tt)))
      (moves_give refl tt)

  moves_operator : (o : RedirectOperator) →
      Moves z (each {X = Unit {0}} same (span_to k)) Any (an_operator o) (an_operator o)
  unfolding an_operator
  moves_operator o = moves_token
      (moves_on (moves_then (moves_pick _ moves_move (moves_give refl tt))
      (λ u so. moves_pick _ moves_move (moves_give refl tt))))

  moves_operator_by : (p : ℕ) (o : Option RedirectOperator) →
      Moves z (each {X = RedirectOperator} same (span_to k)) Any (operator_by p o) (operator_by (k + p) o)
  moves_operator_by p (Some o) = moves_then (moves_operator o) (λ x so. moves_give refl tt)
  moves_operator_by p None = moves_stop

  -- the here-document of an operator is moved, by where that and the word stand
  moves_document_by : (b p : ℕ) (strip : Bool) (d : Option ADelimiter) →
      Moves z (option_map (here_to k)) Any (document_by b p strip d) (document_by (k + b) (k + p) strip d)
  moves_document_by b p strip (Some d) = moves_then (moves_waits (document b strip d)) (λ u so. moves_give refl tt)
  moves_document_by b p strip None = moves_stop

  moves_document : (o : RedirectOperator) (b p : ℕ) (bytes : Spelled) →
      Moves z (option_map (here_to k)) Any (a_document o b p bytes) (a_document o (k + b) (k + p) bytes)
  unfolding a_document
  moves_document o b p bytes = moves_pick _ (moves_see (λ s. refl) (λ d. moves_document_by b p (is_strip o) d))
      (moves_give refl tt)

  moves_document_at : (o : RedirectOperator × Span) (w : AWord × Spelled)
      → Moves z (option_map (here_to k)) Any (a_document o.0 o.1.start (word_span w.0).start w.1)
      (a_document o.0 (k + o.1.start) (word_span (word_to k deep w.0)).start w.1)
  moves_document_at o w =
      subst (λ (s : Span). Moves z (option_map (here_to k)) Any (a_document o.0 o.1.start (word_span w.0).start w.1)
      (a_document o.0 (k + o.1.start) s.start w.1)) (sym (word_span_to k deep w.0))
      (moves_document o.0 o.1.start (word_span w.0).start w.1)

  module _ (inner : Inner) (fits : InnerMoves z inner) where
    -- the target of a redirection is moved, and so is one more redirection with all its parts
    moves_target : Moves z (on_first {Y = Spelled} (word_to k deep)) Any (a_target inner) (a_target inner)
    unfolding a_target
    moves_target = moves_then (moves_next z _)
        (λ n so. moves_pick _ (moves_with_bytes (moves_word z inner fits)) (moves_unexpected z inner fits n))

    moves_redirect : (broken there : Bool) → there ≡ broken → (position : Position) (is : Row AnItem) (n : Next)
        → Moves z (step items_to) (Stepped SomeItems) (one_redirect inner broken position is n)
        (one_redirect inner there position (map (item_to k deep) is) n)
    unfolding one_redirect
    moves_redirect broken there same_broken position is n =
        moves_here (λ p. moves_then (moves_number n)
        (λ d so. moves_then (moves_operator_by p (redirect_operator_of d.1.token))
        (λ o all. moves_then moves_target (λ w all2. moves_then (moves_document_at o w)
        (λ h all3. moves_pushed (item_to k deep) refl
        (ap (λ (e : Bool). item e (redirect (option_map (span_to k) d.0) o.0 (span_to k o.1) (word_to k deep w.0)
        (option_map (here_to k) h))) same_broken)
        (moves_then (moves_next z position) (λ m all4. moves_give refl (pushed_some is _))))))))

    -- ---- simple commands

    -- one more item is moved, and so is a simple command
    pub moves_item : (i : ItemsSoFar) (position : Position) →
        Moves z (step items_to) (Stepped SomeItems) (an_item inner i position) (an_item inner (items_to i) position)
    unfolding an_item
    moves_item i position =
        moves_then (moves_word z inner fits)
        (λ w so. moves_pushed (item_to k deep) refl
        (as_item_to (breaks (items_to i)) (breaks i) (breaks_to i) position w)
        (moves_then (moves_next z position) (λ n all. moves_give refl (pushed_some i.items _))))

    moves_item_by : (i : ItemsSoFar) → Begun i → (o : Option Position) → after_word i.next.token ≡ o →
        Moves z (step items_to) (Stepped SomeItems) (item_by inner i o) (item_by inner (items_to i) o)
    moves_item_by i begun (Some position) is = moves_item i position
    moves_item_by i begun None is =
        moves_pick_by _ (λ e. moves_redirect (breaks i) (breaks (items_to i)) (breaks_to i)
        (after_redirect i.position) i.items i.next)
        (λ e. moves_give refl (begun_none (is_empty i.items) (after_word i.next.token)
        (begins_redirect i.next.token) begun is e))

    moves_item_turn : (i : ItemsSoFar) → Begun i →
        Moves z (step items_to) (Stepped SomeItems) (item_turn inner i) (item_turn inner (items_to i))
    unfolding item_turn
    moves_item_turn i begun = moves_item_by i begun (after_word i.next.token) refl

    moves_simple : (i : ItemsSoFar) → Begun i →
        Moves z (on_first {Y = Next} (command_to k deep)) (of_first (CommandEnds k deep)) (a_simple inner i)
        (a_simple inner (items_to i))
    unfolding a_simple
    moves_simple i begun =
        moves_then (moves_many items_to Begun SomeItems (item_turn inner)
        (item_turn inner) moves_item_turn some_begun i begun)
        (λ j some. moves_give (ap (λ is. (simple is, j.next)) (items_row k deep j.items))
        (simple_ends k deep j.items some))

    -- ---- compound commands with their redirections, functions

    -- one more redirection is moved, and so are all of them with their command, and a compound command by
    -- what opens it
    moves_redirect_turn : (i : ItemsSoFar) →
        Moves z (step items_to) (Stepped Any) (redirect_turn inner i) (redirect_turn inner (items_to i))
    unfolding redirect_turn
    moves_redirect_turn i = moves_pick _
        (moves_so (of_any SomeItems) (moves_redirect i.next.broken i.next.broken refl Command i.items i.next))
        (moves_give refl tt)

    moves_with_redirect_list : (c : ACommand × Next) → CommandEnds k deep c.0 →
        Moves z (on_first {Y = Next} (command_to k deep)) (of_first (CommandEnds k deep)) (with_redirect_list inner c)
        (with_redirect_list inner (on_first (command_to k deep) c))
    unfolding with_redirect_list
    moves_with_redirect_list c ends =
        moves_then (moves_many items_to Any Any (redirect_turn inner) (redirect_turn inner)
        (λ i so. moves_redirect_turn i) (λ i so. tt) (items_so_far [] Command c.1) tt)
        (λ r so. moves_give (ap (λ is. (with_redirects (command_to k deep c.0) is, r.next)) (items_row k deep r.items)
        ∙ ap (λ (d : ACommand). (d, r.next)) (redirects_to k deep c.0 (items_of r.items)))
        (redirects_end k deep c.0 (items_of r.items) ends))

    pub moves_compound_by : (n : Next) (o : Option Opener) →
        Moves z (on_first {Y = Next} (command_to k deep)) (of_first (CommandEnds k deep)) (compound_by inner n o)
        (compound_by inner n o)
    moves_compound_by n (Some o) = moves_then (fits.compound o) (λ c ends. moves_with_redirect_list c ends)
    moves_compound_by n None = moves_unexpected z inner fits n

    -- a function under a name is moved, and so are a command that begins with a word, and any command
    moves_named_function : (good : Bool) (w : AWord) →
        Moves z (on_first {Y = Next} (command_to k deep)) (of_first (CommandEnds k deep))
        (named_function inner good (word_span w)) (named_function inner good (word_span (word_to k deep w)))
    moves_named_function good w =
        subst (λ (s : Span). Moves z (on_first {Y = Next} (command_to k deep)) (of_first (CommandEnds k deep))
        (named_function inner good (word_span w)) (named_function inner good s)) (sym (word_span_to k deep w))
        (moves_pick good (fits.function (word_span w)) moves_stop)

    moves_word_command : Moves z (on_first {Y = Next} (command_to k deep)) (of_first (CommandEnds k deep))
        (a_word_command inner) (a_word_command inner)
    unfolding a_word_command
    moves_word_command =
        moves_see (λ s. refl) (λ good. moves_then (moves_word z inner fits)
        (λ w so. moves_then (moves_next z _) (λ n all.
        moves_pick _ (moves_named_function good w)
        (moves_pushed (item_to k deep) refl refl
        (moves_simple (items_so_far (item false (argument w) ∷ []) Suffix n) refl)))))

    moves_command : (n : Next) → Moves z (on_first {Y = Next} (command_to k deep)) (of_first (CommandEnds k deep))
        (a_command inner n) (a_command inner n)
    unfolding a_command
    moves_command n = moves_pick _ moves_word_command
        (moves_pick_by _ (λ e. moves_simple (items_so_far [] Command n) e)
        (λ e. moves_compound_by n (opener_of n.token)))

    -- ---- pipelines

    -- a `!` is moved, where one stands
    moves_bang : (n : Next) → Moves z (on_first {Y = Next} (option_map (span_to k))) Any (a_bang n) (a_bang n)
    unfolding a_bang
    moves_bang n = moves_pick _ (moves_then (moves_mark z)
        (λ x so. moves_then (moves_next z _) (λ m all. moves_give refl tt))) (moves_give refl tt)

    -- the commands after the first one so far, moved, and that where they end is moved too
    abbrev pipes_so_far_to : PipesSoFar → PipesSoFar
    pipes_so_far_to p = pipes_so_far (map (pipe_to k deep) p.parts) p.next

    abbrev PipesEnd : PipesSoFar → Type 0
    PipesEnd p = All (PipeEnds k deep) p.parts

    -- one more command is moved, or none, and so is a whole pipeline
    moves_one_command : (p : PipesSoFar) → PipesEnd p →
        Moves z (step pipes_so_far_to) (Stepped PipesEnd) (one_command inner p) (one_command inner (pipes_so_far_to p))
    unfolding one_command
    moves_one_command p all =
        moves_then (moves_mark z) (λ x so. moves_then (moves_join p.next.broken)
        (λ j so2. moves_then (moves_command j.1)
        (λ c ends. moves_pushed (pipe_to k deep) refl refl
        (moves_give refl (All-push (PipeEnds k deep) p.parts (record { join = j.0; command = c.0 }) all ends)))))

    moves_pipe_turn : (p : PipesSoFar) → PipesEnd p →
        Moves z (step pipes_so_far_to) (Stepped PipesEnd) (pipe_turn inner p) (pipe_turn inner (pipes_so_far_to p))
    unfolding pipe_turn
    moves_pipe_turn p all = moves_pick _ (moves_one_command p all) (moves_give refl all)

    moves_pipeline : (n : Next) →
        Moves z (on_first {Y = Next} (pipeline_to k deep)) (of_first (PipelineEnds k deep)) (a_pipeline inner n)
        (a_pipeline inner n)
    unfolding a_pipeline
    moves_pipeline n =
        moves_then (moves_bang n) (λ b so. moves_then (moves_command b.1)
        (λ c ends. moves_then (moves_many pipes_so_far_to PipesEnd PipesEnd (pipe_turn inner)
        (pipe_turn inner) moves_pipe_turn
        (λ p all. all) (pipes_so_far [] c.1) (All-nil (PipeEnds k deep)))
        (λ p all. moves_give (ap (λ ps. (pipeline (option_map (span_to k) b.0) (command_to k deep c.0) ps, p.next))
        (pipes_row k deep p.parts)) (pipeline_ends k deep b.0 c.0 p.parts ends all))))

    -- ---- and-or lists

    -- the pipelines after the first one so far, moved, and that where they end is moved too
    abbrev and_or_so_far_to : AndOrSoFar → AndOrSoFar
    and_or_so_far_to a = and_or_so_far (map (part_to k deep) a.parts) a.next

    abbrev AndOrEnd : AndOrSoFar → Type 0
    AndOrEnd a = All (PartEnds k deep) a.parts

    -- one more pipeline is moved, or none, and so is a whole and-or list
    moves_one_pipeline : (a : AndOrSoFar) (o : AndOrOperator) → AndOrEnd a →
        Moves z (step and_or_so_far_to) (Stepped AndOrEnd) (one_pipeline inner a o)
        (one_pipeline inner (and_or_so_far_to a) o)
    unfolding one_pipeline
    moves_one_pipeline a o all =
        moves_then (moves_token (moves_on moves_move))
        (λ x so. moves_then (moves_join a.next.broken) (λ j so2. moves_then (moves_pipeline j.1)
        (λ p ends. moves_pushed (part_to k deep) refl refl
        (moves_give refl (All-push (PartEnds k deep) a.parts
        (record { operator = o; join = j.0; pipeline = p.0 }) all ends)))))

    moves_joined_by : (a : AndOrSoFar) (o : Option AndOrOperator) → AndOrEnd a →
        Moves z (step and_or_so_far_to) (Stepped AndOrEnd) (joined_by inner a o)
        (joined_by inner (and_or_so_far_to a) o)
    moves_joined_by a (Some o) all = moves_one_pipeline a o all
    moves_joined_by a None all = moves_give refl all

    moves_and_or_turn : (a : AndOrSoFar) → AndOrEnd a →
        Moves z (step and_or_so_far_to) (Stepped AndOrEnd) (and_or_turn inner a)
        (and_or_turn inner (and_or_so_far_to a))
    unfolding and_or_turn
    moves_and_or_turn a all = moves_joined_by a (and_or_operator_of a.next.token) all

    pub moves_and_or : (n : Next) →
        Moves z (on_first {Y = Next} (and_or_to k deep)) (of_first (AndOrEnds k deep)) (an_and_or inner n)
        (an_and_or inner n)
    unfolding an_and_or
    moves_and_or n =
        moves_then (moves_pipeline n)
        (λ p ends. moves_then (moves_many and_or_so_far_to AndOrEnd AndOrEnd (and_or_turn inner)
        (and_or_turn inner) moves_and_or_turn (λ a all. all) (and_or_so_far [] p.1) (All-nil (PartEnds k deep)))
        (λ a all. moves_give (ap (λ ps. (and_or (pipeline_to k deep p.0) ps, a.next)) (parts_row k deep a.parts))
        (and_or_ends k deep p.0 a.parts ends all)))

  -- ---- what parts entries

  -- a separator with the offset after it, moved
  abbrev pub parted_to : Option ASeparator → Option ASeparator
  parted_to s = option_map (λ (x : ASeparator). (x.0, k + x.1)) s

  -- a separator is moved, where one stands
  moves_separator_by : (n : Next) (s : Option Separator) →
      Moves z (on_first {Y = Next} parted_to) Any (separator_by n s) (separator_by n s)
  moves_separator_by n (Some s) =
      moves_then (moves_mark z) (λ x so. moves_then (moves_next z _) (λ m all. moves_give refl tt))
  moves_separator_by n None = moves_give refl tt

  pub moves_separator : (n : Next) → Moves z (on_first {Y = Next} parted_to) Any (a_separator n) (a_separator n)
  unfolding a_separator
  moves_separator n = moves_separator_by n (separator_of n.token)
