-- Lists, compound commands, functions and substitutions: each turn over them leads on.
use Rattle.std.proofs.Common.{◌≡◌, ℕ, ◌<◌, Bool, true, false, List, List as Row, [], Option, Some, None, is_some, refl, arith}
use Rattle.shgrammar.specs.declared.token.Closing.{Closing}
use Rattle.shgrammar.specs.declared.token.Closing.TheVariants as closings
use Rattle.shgrammar.specs.declared.token.Next.{Next}
use Rattle.shgrammar.specs.declared.token.Opener.{Opener}
use Rattle.shgrammar.specs.declared.token.Opener.TheVariants as openers
use Rattle.shgrammar.specs.declared.token.Position.{Position}
use Rattle.shgrammar.specs.declared.token.Position.TheVariants.{Command, Suffix}
use Rattle.shgrammar.specs.declared.token.Token.{Token}
use Rattle.shgrammar.specs.declared.token.Token.TheVariants as tokens
use Rattle.shast.specs.declared.tree.Span.{Span}
use Rattle.shast.specs.Tree.{ASubst, AWord}
use Rattle.shgrammar.specs.Bytes.{past_byte}
use Rattle.shgrammar.specs.HereDocuments.{own_level}
use Rattle.shgrammar.specs.Form.{Spelled, leads_on, many}
use Rattle.shgrammar.specs.Shows.{IsRead}
use Rattle.shgrammar.specs.Sights.{Given, State, to}
use Rattle.shgrammar.specs.Tokens.{past_reserved}
use Rattle.shgrammar.specs.Words.{Inner}
use Rattle.shgrammar.specs.Commands.{ItemsSoFar, begins_pipeline, begins_word, ends_item, falls_through, is_paren, is_pipe, is_word, opener_of, items_so_far}
use Rattle.shgrammar.specs.Lists.{ListSoFar, a_list, a_remark, entry_turn, list_so_far, list_turn, none_listed, on_line, one_entry, remark_by}
use Rattle.shgrammar.specs.Compounds.{BranchesSoFar, CasesSoFar, Closed, Headed, ItemEnd, PatternsSoFar, a_body, a_branch, a_case, a_case_head, a_case_word, a_compound, a_for, a_for_head, a_for_name, a_form, a_function, a_group, a_linebreak, a_loop, a_pattern, a_pattern_list, a_sequential_sep, an_else, an_ender, an_if, an_item_end, an_open_bracket, begins_pattern, branches_so_far, case_turn, cases_so_far, closing, elif_turn, for_words, is_close_paren, is_closing, is_open_paren, one_case, one_pattern, past_opener, pattern_turn, reserved_or_paren, word_turn}
use Rattle.shgrammar.specs.Substitutions.{a_substitution, one_substitution, substitution_list}
use Rattle.shgrammar.proofs.Places.{after_low, past_low}
use Rattle.shgrammar.proofs.Shown.{end_closes}
use Rattle.shgrammar.specs.Classes.{is_name}
use Rattle.shlaws.proofs.Forms.{Goes, Steps, ahead, ending, first, follows, gives, in_level, in_subst, leads_byte, leads_from, led, moves, moves_to, picks, picks_by, pushes, pushes_to, repeats, sees, step_by, stops, tokens as one_token}
use Rattle.shlaws.proofs.Words.{All, Begins, InnerOnward, word_on}
use Rattle.shlaws.proofs.Commands.{Further, HandsOn, ItemsShown, JoinShown, byte_passed, comment_on, compound_on_by, entry_on, item_on, join_turn_on, newline_on, next_given, next_on, nothing_on, read_here, semicolon_on, stopped}

-- a reserved word ends to the right of where it begins
reserved_far : (T : List ℕ) (p : ℕ) → p < past_reserved T p
unfolding past_reserved
reserved_far T p = omega (arith, after_low T p, past_low is_name T (past_byte T p))

-- so does a round bracket or a reserved word, as a flag tells
opener_far : (paren : Bool) (T : List ℕ) (p : ℕ) → p < to (past_opener paren) T p
opener_far true T p = after_low T p
opener_far false T p = reserved_far T p

-- the token of a word that is no assignment begins a word
word_begins : (t : Token) → is_word t ≡ true → begins_word t ≡ true
word_begins tokens.Word so = refl
word_begins _ so = absurd cc

module _ (g : Given) where
  -- the text that is given
  abbrev T : List ℕ
  T = g.text

  -- a bracket or a reserved word, where a byte is read
  reserved_or_paren_on : (text : Spelled) (paren : Bool) (position : Position) (s : State)
      → Goes g (reserved_or_paren text paren position)
      (λ x t. Begins g x.1 t × (IsRead T s.at → leads_on g s t ≡ true)) s
  unfolding reserved_or_paren
  reserved_or_paren_on text paren position s =
      first g (one_token g {P = λ x t. s.at < t.at} (moves_to g (opener_far paren T s.at)))
      (λ x t on. follows g (ahead g (next_given g position t))
      (λ y u good. (good.0, λ read. leads_byte g s u read (omega (arith, on, good.1)))))

  -- the same, whatever is there: the token after it is handed on
  reserved_or_paren_only : (text : Spelled) (paren : Bool) (position : Position) (s : State)
      → Goes g (reserved_or_paren text paren position) (HandsOn g) s
  reserved_or_paren_only text paren position s =
      follows g (reserved_or_paren_on text paren position s) (λ x t good. good.0)

  -- newlines and comments are read so, and hand on the token after them
  linebreak_on : (cs : Row Span) (n : Next) (s : State) → Begins g n s
      → Goes g (a_linebreak cs n) (JoinShown g) s
  unfolding a_linebreak
  linebreak_on cs n s so = repeats g (JoinShown g) (join_turn_on g) _ s so

  module _ (inner : Inner) (fine : InnerOnward g inner) where
    -- ---- lists

    -- the token after the entries of a list so far is the one that begins there
    abbrev pub ListShown : ListSoFar → State → Type 0
    ListShown l t = Begins g l.next t

    -- each turn over the entries on one line leads on
    entry_turn_on : (l : ListSoFar) (s : State) → Begins g l.next s
        → Goes g (entry_turn inner l) (Steps g ListShown s) s
    unfolding entry_turn one_entry
    entry_turn_on l s so =
        picks g (begins_pipeline l.next.token)
        (first g (entry_on g inner fine _ l.next s so)
        (λ e t one. pushes g (gives g (step_by g ListShown s (is_some e.parted) _ t one.1 one.0))))
        (gives g so)

    -- a comment that is an entry, or none, keeps the token after it in hand
    remark_on_by : (l : ListSoFar) (x : Option Span × Next) (s : State) → Begins g x.1 s
        → Goes g (remark_by l x) ListShown s
    remark_on_by l (Some c, n) s so = pushes g (gives g so)
    remark_on_by l (None, n) s so = gives g so

    -- the entries and the comment of one line are read so, and hand on the token after them
    pub line_on : (l : ListSoFar) (s : State) → Begins g l.next s → Goes g (on_line inner l) ListShown s
    unfolding on_line a_remark
    line_on l s so =
        first g (repeats g ListShown entry_turn_on l s so) (λ m t one. first g (comment_on g m.next t one)
        (λ x u two. remark_on_by m x u two))

    -- each turn over the lines of a list leads on
    list_turn_on : (l : ListSoFar) (s : State) → Begins g l.next s
        → Goes g (list_turn inner l) (Steps g ListShown s) s
    unfolding list_turn
    list_turn_on l s so =
        first g (ahead g (line_on l s so)) (λ m t one. first g (newline_on g m.next t one.0)
        (λ x u two. gives g (step_by g ListShown s x.0 _ u (λ e. leads_from g s t u one.1 (two.1 e)) two.0)))

    -- all of its lines are read so, and hand on the token after them
    lines_on : (n : Next) (s : State) → Begins g n s
        → Goes g (many (list_turn inner) (list_so_far (none_listed false) n)) ListShown s
    lines_on n s so = repeats g ListShown list_turn_on _ s so

    -- so they are where a list has to hold a command
    list_on : (n : Next) (s : State) → Begins g n s → Goes g (a_list inner n) (HandsOn g) s
    unfolding a_list
    list_on n s so =
        first g (lines_on n s so)
        (λ l t one. picks g l.list.commands (gives g one) (stopped g inner fine l.next))

    -- ---- compound commands

    -- what closes or parts a list leads on, and hands on the token after it
    closing_on : (c : Closing) (n : Next) (s : State) → Begins g n s
        → Goes g (closing inner c n) (Further g s) s
    unfolding closing
    closing_on c n s so =
        picks_by g (is_closing c n.token)
        (λ e. follows g (reserved_or_paren_on _ (is_close_paren c) _ s)
        (λ x t good. (good.0, good.1 (read_here g (is_closing c) (end_closes c) n s so e))))
        (λ e. stopped g inner fine n)

    -- the token after a closer is the one that begins there
    abbrev ClosedShown : {X : Type 0} → Closed X → State → Type 0
    ClosedShown c t = Begins g c.next t

    -- a list and what closes it are read so
    group_on : (what : Closing) (n : Next) (s : State) → Begins g n s
        → Goes g (a_group inner what n) ClosedShown s
    unfolding a_group
    group_on what n s so =
        first g (list_on n s so) (λ l t one. first g (closing_on what l.1 t one) (λ c u two. gives g two.0))

    -- a condition, `then` and what it runs are read so, and hand on the token after them
    branch_on : (n : Next) (s : State) → Begins g n s → Goes g (a_branch inner n) (HandsOn g) s
    unfolding a_branch
    branch_on n s so =
        first g (list_on n s so) (λ c t one. first g (closing_on closings.Then c.1 t one)
        (λ k u two. first g (list_on k.1 u two.0) (λ b v good. gives g good)))

    -- the token after the branches so far is the one that begins there
    abbrev BranchesShown : BranchesSoFar → State → Type 0
    BranchesShown b t = Begins g b.next t

    -- each turn over the branches after an `elif` leads on
    elif_turn_on : (b : BranchesSoFar) (s : State) → Begins g b.next s
        → Goes g (elif_turn inner b) (Steps g BranchesShown s) s
    unfolding elif_turn
    elif_turn_on b s so =
        picks_by g (is_closing closings.Elif b.next.token)
        (λ e. first g (reserved_or_paren_on _ false Command s)
        (λ k t one. led g BranchesShown s (one.1 (read_here g (is_closing closings.Elif) refl b.next s so e))
        (first g (branch_on k.1 t one.0) (λ x u good. pushes g (gives g good)))))
        (λ e. gives g so)

    -- `else` and its list, if they stand here, are read so, and hand on the token after them
    else_on : (n : Next) (s : State) → Begins g n s → Goes g (an_else inner n) (HandsOn g) s
    unfolding an_else
    else_on n s so =
        picks g (is_closing closings.Else n.token)
        (first g (reserved_or_paren_only _ false Command s)
        (λ k t one. first g (list_on k.1 t one) (λ l u good. gives g good)))
        (gives g so)

    -- the rest of an `if` is read so, up to `fi` and the token after it
    if_on : (n : Next) (s : State) → Begins g n s → Goes g (an_if inner n) ClosedShown s
    unfolding an_if
    if_on n s so =
        first g (branch_on n s so)
        (λ f t one. first g (repeats g BranchesShown elif_turn_on (branches_so_far [] f.1) t one)
        (λ b u two. first g (else_on b.next u two) (λ e v three. first g (closing_on closings.Fi e.1 v three)
        (λ c w good. gives g good.0))))

    -- the rest of a loop is read so, up to `done` and the token after it
    loop_on : (n : Next) (s : State) → Begins g n s → Goes g (a_loop inner n) ClosedShown s
    unfolding a_loop
    loop_on n s so =
        first g (list_on n s so) (λ c t one. first g (closing_on closings.Do c.1 t one)
        (λ d u two. first g (list_on d.1 u two.0)
        (λ b v three. first g (closing_on closings.Done b.1 v three) (λ e w good. gives g good.0))))

    -- ---- `for`

    -- the name after `for` is read so, and hands on the token after it
    for_name_on : (n : Next) (s : State) → Goes g (a_for_name inner n) (HandsOn g) s
    unfolding a_for_name
    for_name_on n s =
        picks g (begins_word n.token)
        (sees g (sees g (first g (word_on g inner fine s)
        (λ w t one. picks g _ (next_given g Command t) (stops g)))))
        (stopped g inner fine n)

    -- a `;` or a newline is read so, with newlines and comments after it
    sequential_sep_on : (cs : Row Span) (n : Next) (s : State) → Begins g n s
        → Goes g (a_sequential_sep inner cs n) (JoinShown g) s
    unfolding a_sequential_sep
    sequential_sep_on cs n s so =
        first g (semicolon_on g n s so) (λ x t one. first g (linebreak_on cs x.1 t one)
        (λ l u good. picks g _ (gives g good) (stopped g inner fine l.next)))

    -- each turn over the words after `in` leads on
    word_turn_on : (i : ItemsSoFar) (s : State) → Begins g i.next s
        → Goes g (word_turn inner i) (Steps g (ItemsShown g) s) s
    unfolding word_turn
    word_turn_on i s so =
        picks_by g (is_word i.next.token)
        (λ e. item_on g inner fine i Suffix s so (word_begins i.next.token e))
        (λ e. gives g so)

    -- the token after the head of a `for` is the one that begins there
    abbrev HeadShown : Headed → State → Type 0
    HeadShown h t = Begins g h.next t

    -- `in`, its words and what ends them are read so, and hand on the token after them
    for_words_on : (cs : Row Span) (s : State) → Goes g (for_words inner cs) HeadShown s
    unfolding for_words
    for_words_on cs s =
        first g (reserved_or_paren_only _ false Suffix s)
        (λ i t one. first g (repeats g (ItemsShown g) word_turn_on (items_so_far [] Suffix i.1) t one)
        (λ ws u two. first g (sequential_sep_on cs ws.next u two) (λ l v good. gives g good)))

    -- what stands between the name and `do` is read so, with `in` or without it
    for_head_on : (n : Next) (s : State) → Begins g n s → Goes g (a_for_head inner n) HeadShown s
    unfolding a_for_head
    for_head_on n s so =
        first g (semicolon_on g n s so) (λ x t one. first g (linebreak_on [] x.1 t one)
        (λ l u two. picks g _ (for_words_on l.join.comments u) (gives g two)))

    -- the rest of a `for` is read so, up to `done` and the token after it
    for_on : (n : Next) (s : State) → Goes g (a_for inner n) ClosedShown s
    unfolding a_for
    for_on n s =
        first g (for_name_on n s) (λ x t one. first g (for_head_on x.1 t one)
        (λ h u two. first g (closing_on closings.Do h.next u two)
        (λ d v three. first g (group_on closings.Done d.1 v three.0) (λ b w good. gives g good))))

    -- ---- `case`

    -- the word after `case` is read so, and hands on the token after it
    case_word_on : (n : Next) (s : State) → Goes g (a_case_word inner n) (HandsOn g) s
    unfolding a_case_word
    case_word_on n s =
        picks g (begins_word n.token)
        (first g (word_on g inner fine s) (λ w t one. next_given g Command t))
        (stopped g inner fine n)

    -- the token after the patterns so far is the one that begins there
    abbrev PatternsShown : PatternsSoFar → State → Type 0
    PatternsShown p t = Begins g p.next t

    -- one more pattern is read so, and hands on the token after it
    pattern_on : (ws : Row AWord) (s : State) → Goes g (a_pattern inner ws) PatternsShown s
    unfolding a_pattern
    pattern_on ws s =
        first g (word_on g inner fine s)
        (λ w t one. pushes g (first g (next_on g Suffix t) (λ n u good. gives g good)))

    -- each turn over the patterns after a `|` leads on
    pattern_turn_on : (p : PatternsSoFar) (s : State) → Begins g p.next s
        → Goes g (pattern_turn inner p) (Steps g PatternsShown s) s
    unfolding pattern_turn one_pattern
    pattern_turn_on p s so =
        picks_by g (is_pipe p.next.token)
        (λ e. first g (byte_passed g s (read_here g is_pipe refl p.next s so e))
        (λ x t on. led g PatternsShown s on (first g (next_on g Suffix t)
        (λ n u one. picks g (begins_word n.token)
        (first g (pattern_on p.patterns u) (λ q v good. gives g good)) (stopped g inner fine n)))))
        (λ e. gives g so)

    -- all patterns of an item of a `case` are read so, and hand on the token after them
    patterns_on : (n : Next) (s : State) → Goes g (a_pattern_list inner n) PatternsShown s
    unfolding a_pattern_list
    patterns_on n s =
        picks g (begins_pattern n.token)
        (first g (pattern_on [] s) (λ p t one. repeats g PatternsShown pattern_turn_on p t one))
        (stopped g inner fine n)

    -- the `(` before them, if one stands there, is read so, and hands on the token after it
    bracket_on : (n : Next) (s : State) → Begins g n s → Goes g (an_open_bracket n) (Begins g) s
    unfolding an_open_bracket
    bracket_on n s so = picks g (is_paren n.token) (moves g (next_on g Command _)) (gives g so)

    -- the token after the end of an item is the one that begins there
    abbrev EndShown : ItemEnd → State → Type 0
    EndShown e t = Begins g e.next t

    -- `;;` or `;&` is read so, with newlines and comments after it
    ender_on : (b : Bool) (s : State) → Goes g (an_ender b) EndShown s
    unfolding an_ender
    ender_on b s =
        first g (one_token g {P = All g} (moves g (moves_to g tt)))
        (λ y t one. sees g (first g (next_on g Command t)
        (λ n u two. first g (linebreak_on [] n u two) (λ l v good. gives g good))))

    -- so is the end of every item: the last one may have no ender
    item_end_on : (there : ℕ) (n : Next) (s : State) → Begins g n s
        → Goes g (an_item_end inner there n) EndShown s
    unfolding an_item_end
    item_end_on there n s so =
        picks g (ends_item n.token) (ender_on (falls_through n.token) s)
        (picks g (is_closing closings.Esac n.token) (gives g so) (stopped g inner fine n))

    -- the token after the items of a `case` so far is the one that begins there
    abbrev CasesShown : CasesSoFar → State → Type 0
    CasesShown c t = Begins g c.next t

    -- each turn over them leads on
    case_turn_on : (c : CasesSoFar) (s : State) → Begins g c.next s
        → Goes g (case_turn inner c) (Steps g CasesShown s) s
    unfolding case_turn one_case a_body
    case_turn_on c s so =
        picks g (is_closing closings.Esac c.next.token) (gives g so)
        (sees g (first g (ahead g (bracket_on c.next s so)) (λ n t one. first g (ahead g (patterns_on n t))
        (λ ps u two. first g (closing_on closings.Paren ps.next u two.0)
        (λ k v three. led g CasesShown s (leads_from g s u v (omega (arith, one.1, two.1)) three.1)
        (first g (lines_on k.1 v three.0) (λ b w four. first g (item_end_on _ b.next w four)
        (λ e x good. pushes g (gives g good)))))))))

    -- what stands between `case` and its items is read so, and hands on the token after it
    case_head_on : (n : Next) (s : State) → Goes g (a_case_head inner n) (λ h t. Begins g h.2 t) s
    unfolding a_case_head
    case_head_on n s =
        first g (case_word_on n s) (λ w t one. first g (linebreak_on [] w.1 t one)
        (λ l u two. first g (closing_on closings.In l.next u two)
        (λ i v three. first g (linebreak_on l.join.comments i.1 v three.0) (λ h x good. gives g good))))

    -- the rest of a `case` is read so, up to `esac` and the token after it
    case_on : (n : Next) (s : State) → Goes g (a_case inner n) ClosedShown s
    unfolding a_case
    case_on n s =
        first g (case_head_on n s)
        (λ h t one. first g (repeats g CasesShown case_turn_on (cases_so_far [] h.1 h.2) t one)
        (λ c u two. first g (closing_on closings.Esac c.next u two) (λ e v good. gives g good.0)))

    -- the rest of a compound command of each kind is read so, from just after its opener on
    form_on : (o : Opener) (n : Next) (s : State) → Begins g n s → Goes g (a_form inner o n) ClosedShown s
    form_on openers.Brace n s so = first g (group_on closings.Brace n s so) (λ l t good. gives g good)
    form_on openers.Paren n s so = first g (group_on closings.Paren n s so) (λ l t good. gives g good)
    form_on openers.If n s so = if_on n s so
    form_on openers.While n s so = first g (loop_on n s so) (λ l t good. gives g good)
    form_on openers.Until n s so = first g (loop_on n s so) (λ l t good. gives g good)
    form_on openers.For n s so = for_on n s
    form_on openers.Case n s so = case_on n s

    -- all of a compound command is read so, and hands on the token after it
    pub compound_on : (o : Opener) (s : State) → Goes g (a_compound inner o) (HandsOn g) s
    unfolding a_compound
    compound_on o s =
        first g (reserved_or_paren_only _ (is_open_paren o) _ s) (λ x t one. first g (form_on o x.1 t one)
        (λ f u good. pushes g (gives g good)))

    -- a function is read so from the `(` after its name on, and hands on the token after it
    pub function_on : (name : Span) (s : State) → Goes g (a_function inner name) (HandsOn g) s
    unfolding a_function
    function_on name s =
        first g (reserved_or_paren_only _ true Command s) (λ o t one. first g (closing_on closings.Paren o.1 t one)
        (λ c u two. first g (linebreak_on [] c.1 u two.0)
        (λ l v three. first g (compound_on_by g inner fine l.next (opener_of l.next.token) v)
        (λ b w good. gives g good))))

    -- ---- substitutions

    -- the list in a command substitution is read so, with the `)` after it
    substitution_list_on : (s : State) → Goes g (substitution_list inner) (All g) s
    unfolding substitution_list
    substitution_list_on s =
        first g (next_on g Command s) (λ n t one. first g (lines_on n t one) (λ l u two.
        picks g (is_closing closings.Paren l.next.token) (first g (nothing_on g u)
        (λ w v three. moves g (gives g tt))) (stopped g inner fine l.next)))

    -- so is all of a substitution, from just after its opener on
    pub substitution_on : (b : ℕ) (ss : Row ASubst) (s : State) → Goes g (a_substitution inner b ss) (All g) s
    unfolding a_substitution one_substitution
    substitution_on b ss s =
        in_subst g (first g (in_level g (ending g (substitution_list_on (own_level s))))
        (λ es t one. sees g (pushes_to g tt)))
