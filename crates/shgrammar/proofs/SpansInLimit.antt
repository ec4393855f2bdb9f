-- No span of what was read, that of a here-document's body among them, names an offset past the place where
-- the reading stands then; and each simple command that was read has an item.
use Rattle.std.proofs.Common.{◌≡◌, sym, subst, ℕ, zero, suc, ◌+◌, ◌≤◌, Bool, true, false, Ok, List, List as Row, [], ◌∷◌, Option, Some, None, arith}
use Rattle.std.specs.Prelude.{All, unwrap_or}
use Rattle.std.proofs.lemmas.List.Elements.{All-head, All-nil, All-tail}
use Rattle.shgrammar.specs.declared.keep.Keep.TheVariants.{Whole}
use Rattle.shgrammar.specs.declared.token.Closing.{Closing}
use Rattle.shgrammar.specs.declared.token.Closing.TheVariants as closings
use Rattle.shgrammar.specs.declared.token.Next.{Next}
use Rattle.shgrammar.specs.declared.token.Opener.{Opener}
use Rattle.shgrammar.specs.declared.token.Opener.TheVariants as openers
use Rattle.shgrammar.specs.declared.token.Position.{Position}
use Rattle.shgrammar.specs.declared.token.Position.TheVariants.{Suffix}
use Rattle.shast.specs.declared.tree.Span.{Span}
use Rattle.shast.specs.Nodes.{IsSpanWithin}
use Rattle.shast.specs.Tree.{ACommand, AnEntry, ASubst, AWord, Entries, entries_of, simple, compound, function}
use Rattle.shast.proofs.Going.{row_filled}
use Rattle.shgrammar.specs.Sights.{Given, given, State, standing}
use Rattle.shgrammar.specs.HereDocuments.{own_level}
use Rattle.shgrammar.specs.Form.{Spelled, does}
use Rattle.shgrammar.specs.Words.{Inner}
use Rattle.shgrammar.specs.Commands.{is_pipe, begins_word, opener_of, ItemsSoFar, items_so_far, is_word, ends_item, falls_through}
use Rattle.shgrammar.specs.Lists.{list_so_far, none_listed, Listed}
use Rattle.shgrammar.specs.Compounds.{held_apart, BranchesSoFar, branches_so_far, Closed, is_closing, is_open_paren, is_close_paren, reserved_or_paren, closing, a_branch, elif_turn, an_else, an_if, a_loop, a_group, a_for_name, a_sequential_sep, Headed, word_turn, for_words, a_for_head, after_remarks, a_for, a_form, a_compound, a_function, under_name, a_case_word, begins_pattern, PatternsSoFar, a_pattern, one_pattern, pattern_turn, a_pattern_list, a_body, body_end, ItemEnd, an_ender, an_item_end, CasesSoFar, cases_so_far, one_case, case_turn, a_case_head, a_case}
use Rattle.shgrammar.specs.Substitutions.{substitution_list, a_substitution, one_substitution}
use Rattle.shgrammar.specs.Levels.{most_open, level}
use Rattle.shgrammar.specs.Lines.{AKind, an_open_line, a_line, ALine, IsLine, blank_line, entries_line, end_line, faulty_line, line_read, line_stops, kind_of, EntrySpansWithin}
use Rattle.shgrammar.specs.Scripts.{the_line}
use Rattle.shast.specs.Everywhere.{IsSome, Throughout}
use Rattle.shgrammar.proofs.OneOutcome.{computed_is_only}
use Rattle.shgrammar.proofs.Holds.{Holds}
use Rattle.shgrammar.proofs.Turns.{Stepped}
use Rattle.shgrammar.proofs.UpToLimit.{UpTo, adds, after, bare_token, ending, first, first_on, follows, gives, in_level, in_subst, picks, pushes, repeats, sees, stands, step_so, stops, unless}
use Rattle.shgrammar.proofs.EachSpan.{AreIn, BranchIn, CaseIn, CommandIn, ElseIn, EntriesIn, EntryIn, ForWordsIn, FormIn, ItemIn, SubstIn, WordIn, all_within, all_within_more, bodies_in, branches_in, cases_in, commands_end_low, entries_in, have_items, items_in, spans_in, words_in}
use Rattle.shgrammar.proofs.SpansOfLists.{InnerInLimit, ItemsIn, JoinIn, ListIn, PartedIn, SomeItems, compound_in_by, contents_in, linebreak_in, lines_in, list_in, on_line_in, one_item_in, stopped, word_in}
use Rattle.shgrammar.specs.declared.edition.Edition.{Edition}

module _ {g : Given} {limit : ℕ} where
  module _ {inner : Inner} (fine : InnerInLimit g limit inner) where
    -- ---- compound commands

    -- what ends by the limit has no span above it: a reserved word or a bracket, a closer, a branch
    reserved_or_paren_in : (text : Spelled) (paren : Bool) (position : Position) (s : State) →
        UpTo g limit (reserved_or_paren text paren position) (λ x. IsSpanWithin limit x.0) s
    unfolding reserved_or_paren
    reserved_or_paren_in text paren position s = first bare_token (λ x t so. after (λ n u. gives so))

    closing_in : (c : Closing) (n : Next) (s : State) → UpTo g limit (closing inner c n) (λ x. IsSpanWithin limit x.0) s
    unfolding closing
    closing_in c n s = picks (is_closing c n.token) (reserved_or_paren_in _ (is_close_paren c) _ s) (stopped inner n)

    branch_in : (n : Next) (s : State) → UpTo g limit (a_branch inner n) (λ x. BranchIn limit x.0) s
    unfolding a_branch
    branch_in n s = first (list_in fine n s)
        (λ c t one. after (λ k u. first (list_in fine k.1 u) (λ b v two. gives (one, two))))

    -- no span in the branches so far goes past the limit
    abbrev BranchesIn : BranchesSoFar → Type 0
    BranchesIn b = All (BranchIn limit) b.branches

    -- no span in the branches goes past the limit with one more after an `elif`, or none, nor in what stands
    -- after `else`
    elif_in : (b : BranchesSoFar) (s : State) → BranchesIn b → UpTo g limit (elif_turn inner b) (Stepped BranchesIn) s
    unfolding elif_turn
    elif_in b s so =
        picks (is_closing closings.Elif b.next.token)
        (after (λ k t. first (branch_in k.1 t)
        (λ x u one. first (pushes (BranchIn limit) so one) (λ bs v all. gives all)))) (gives so)

    else_in : (n : Next) (s : State) → UpTo g limit (an_else inner n) (λ x. ElseIn limit x.0) s
    unfolding an_else
    else_in n s = picks (is_closing closings.Else n.token)
        (after (λ k t. first (list_in fine k.1 t) (λ l u so. gives so))) (gives tt)

    -- P holds of what was read, and its closer does not go past the limit
    abbrev ClosedIn : {X : Type 0} → (X → Type 0) → Closed X → Type 0
    ClosedIn P x = P x.what × IsSpanWithin limit x.closer

    -- no span in an `if`, a loop and a group goes past the limit, from just after their openers
    if_in : (n : Next) (s : State) → UpTo g limit (an_if inner n) (ClosedIn (FormIn limit)) s
    unfolding an_if
    if_in n s =
        first (branch_in n s)
        (λ f t one. first (repeats BranchesIn (elif_turn inner) elif_in (branches_so_far [] f.1) t
        (All-nil (BranchIn limit)))
        (λ b u all. first (else_in b.next u)
        (λ e v other. first (closing_in closings.Fi e.1 v)
        (λ c w last. gives ((one, branches_in limit b.branches all, other), last)))))

    loop_in : (n : Next) (s : State) → UpTo g limit (a_loop inner n) (ClosedIn (BranchIn limit)) s
    unfolding a_loop
    loop_in n s =
        first (list_in fine n s)
        (λ c t one. after (λ d u. first (list_in fine d.1 u)
        (λ b v two. first (closing_in closings.Done b.1 v) (λ e w last. gives ((one, two), last)))))

    group_in : (c : Closing) (n : Next) (s : State) → UpTo g limit (a_group inner c n) (ClosedIn (EntriesIn limit)) s
    unfolding a_group
    group_in c n s = first (list_in fine n s) (λ l t so. first (closing_in c l.1 t) (λ k u last. gives (so, last)))

    -- no span in the word after `for` goes past the limit, nor do the comments where its words end
    for_name_in : (n : Next) (s : State) → UpTo g limit (a_for_name inner n) (λ x. WordIn limit x.0) s
    unfolding a_for_name
    for_name_in n s =
        picks (begins_word n.token) (after
        (λ p t. after (λ good u. first (word_in fine u) (λ w v one. picks good (after (λ m z. gives one)) stops))))
        (stopped inner n)

    sequential_sep_in : (cs : Row Span) (n : Next) (s : State) → AreIn limit cs →
        UpTo g limit (a_sequential_sep inner cs n) (JoinIn limit) s
    unfolding a_sequential_sep
    sequential_sep_in cs n s all = after (λ x t. first (linebreak_in cs x.1 t all)
        (λ l u so. picks _ (gives so) (stopped inner l.next)))

    -- no span in the words and the comments of a head goes past the limit
    abbrev HeadIn : Headed → Type 0
    HeadIn h = ForWordsIn limit h.words × AreIn limit h.comments

    -- no span in the words after `in` goes past the limit, with one more or none, and with all of them; nor
    -- does one in the head
    word_turn_in : (i : ItemsSoFar) (s : State) → ItemsIn limit i →
        UpTo g limit (word_turn inner i) (Stepped (ItemsIn limit)) s
    unfolding word_turn
    word_turn_in i s so = picks (is_word i.next.token)
        (follows (one_item_in fine i Suffix s so) (step_so (SomeItems limit) (ItemsIn limit) (λ j all. all.0)))
        (gives so)

    for_words_in : (cs : Row Span) (s : State) → AreIn limit cs → UpTo g limit (for_words inner cs) HeadIn s
    unfolding for_words
    for_words_in cs s all =
        after (λ i t. first (repeats (ItemsIn limit) (word_turn inner) word_turn_in (items_so_far [] Suffix i.1) t
        (All-nil (ItemIn limit)))
        (λ ws u items. first (sequential_sep_in cs ws.next u all)
        (λ l v so. gives (items_in limit ws.items items, so))))

    for_head_in : (n : Next) (s : State) → UpTo g limit (a_for_head inner n) HeadIn s
    unfolding a_for_head
    for_head_in n s = after (λ x t. first (linebreak_in [] x.1 t (All-nil (IsSpanWithin limit)))
        (λ l u so. picks _ (for_words_in l.join.comments u so) (gives (tt, so))))

    -- no span in a list goes past the limit with comments before it, as its first entries
    remarks_in : (cs : Row Span) (es : Entries) → AreIn limit cs → EntriesIn limit es →
        EntriesIn limit (after_remarks cs es)
    remarks_in [] es all so = so
    remarks_in (c ∷ cs) es all so =
        ((All-head (IsSpanWithin limit) c cs all, tt), remarks_in cs es (All-tail (IsSpanWithin limit) c cs all) so)

    -- no span in a `for` goes past the limit, the comments of its head in its body
    for_in : (n : Next) (s : State) → UpTo g limit (a_for inner n) (ClosedIn (FormIn limit)) s
    unfolding a_for
    for_in n s =
        first (for_name_in n s) (λ x t one. first (for_head_in x.1 t)
        (λ h u two. after (λ d v. first (group_in closings.Done d.1 v)
        (λ b w body. gives ((one, two.0, remarks_in h.comments b.what two.1 body.0), body.1)))))

    -- ---- `case`

    -- no span in the word after `case` goes past the limit
    case_word_in : (n : Next) (s : State) → UpTo g limit (a_case_word inner n) (λ x. WordIn limit x.0) s
    unfolding a_case_word
    case_word_in n s = picks (begins_word n.token) (first (word_in fine s) (λ w t one. after (λ m u. gives one)))
        (stopped inner n)

    -- no span in the patterns so far goes past the limit
    abbrev PatternsIn : PatternsSoFar → Type 0
    PatternsIn p = All (WordIn limit) p.patterns

    -- no span in the patterns goes past the limit with one more, also after a `|`, or none, nor in
    -- all of an item
    pattern_in : (ws : Row AWord) (s : State) → All (WordIn limit) ws → UpTo g limit (a_pattern inner ws) PatternsIn s
    unfolding a_pattern
    pattern_in ws s all = first (word_in fine s)
        (λ w t one. first (pushes (WordIn limit) all one) (λ vs u good. after (λ n v. gives good)))

    one_pattern_in : (ws : Row AWord) (s : State) → All (WordIn limit) ws →
        UpTo g limit (one_pattern inner ws) (Stepped PatternsIn) s
    unfolding one_pattern
    one_pattern_in ws s all = after
        (λ x t. after (λ n u. picks (begins_word n.token) (first (pattern_in ws u all) (λ p v so. gives so))
        (stopped inner n)))

    pattern_turn_in : (p : PatternsSoFar) (s : State) → PatternsIn p →
        UpTo g limit (pattern_turn inner p) (Stepped PatternsIn) s
    unfolding pattern_turn
    pattern_turn_in p s so = picks (is_pipe p.next.token) (one_pattern_in p.patterns s so) (gives so)

    patterns_in : (n : Next) (s : State) → UpTo g limit (a_pattern_list inner n) PatternsIn s
    unfolding a_pattern_list
    patterns_in n s =
        picks (begins_pattern n.token)
        (first (pattern_in [] s (All-nil (WordIn limit)))
        (λ p t so. repeats PatternsIn (pattern_turn inner) pattern_turn_in p t so)) (stopped inner n)

    -- no span in the body of an item goes past the limit; it may hold no command
    body_in : (n : Next) (s : State) → UpTo g limit (a_body inner n) (ListIn limit) s
    unfolding a_body
    body_in n s = lines_in fine n s

    -- the last token of a body, or what stands before it, ends at most at the limit
    parted_or : (parted : Option ℕ) (other : ℕ) → PartedIn limit parted → other ≤ limit → unwrap_or parted other ≤ limit
    parted_or (Some p) other so low = so
    parted_or None other so low = low

    body_end_in : (before : ℕ) (l : Listed) → before ≤ limit → All (EntryIn limit) l.entries → PartedIn limit l.parted →
        body_end before l ≤ limit
    body_end_in before l low all part =
        parted_or l.parted _ part (commands_end_low limit before (entries_of l.entries) low
        (entries_in limit l.entries all))

    -- the offset where an item ends is not past the limit, and no comment after it goes past that
    abbrev ItemEndIn : ItemEnd → Type 0
    ItemEndIn e = (e.at ≤ limit) × AreIn limit e.comments

    -- a `;;` or `;&` does not go past the limit, nor does the end of an item, which may have neither
    ender_in : (b : Bool) (s : State) → UpTo g limit (an_ender b) ItemEndIn s
    unfolding an_ender
    ender_in b s =
        after (λ y u. first stands (λ p v low. after
        (λ n w. first (linebreak_in [] n w (All-nil (IsSpanWithin limit))) (λ l z so. gives (low, so)))))

    item_end_in : (there : ℕ) (n : Next) (s : State) → there ≤ limit →
        UpTo g limit (an_item_end inner there n) ItemEndIn s
    unfolding an_item_end
    item_end_in there n s low =
        picks (ends_item n.token) (ender_in (falls_through n.token) s)
        (picks (is_closing closings.Esac n.token) (gives (low, All-nil (IsSpanWithin limit))) (stopped inner n))

    -- no span in the items so far goes past the limit, nor do the comments after them
    abbrev CasesIn : CasesSoFar → Type 0
    CasesIn c = All (CaseIn limit) c.items × AreIn limit c.comments

    -- no span in the items goes past the limit with one more, or none before an `esac`
    one_case_in : (c : CasesSoFar) (s : State) → CasesIn c → UpTo g limit (one_case inner c) (Stepped CasesIn) s
    unfolding one_case
    one_case_in c s so =
        first stands (λ p t begin. after
        (λ n u. first (patterns_in n u) (λ ps v words. first (closing_in closings.Paren ps.next v)
        (λ k w last. first (body_in k.1 w)
        (λ b x body. first (item_end_in _ b.next x (body_end_in k.0.«end» b.list last.1 body.0 body.1))
        (λ e y end. first (pushes (CaseIn limit) so.0 (
          spans_in limit c.comments so.1,
          words_in limit ps.patterns words,
          entries_in limit b.list.entries body.0,
          (begin, end.0),
        ))
        (λ is z all. gives (all, end.1))))))))

    case_turn_in : (c : CasesSoFar) (s : State) → CasesIn c → UpTo g limit (case_turn inner c) (Stepped CasesIn) s
    unfolding case_turn
    case_turn_in c s so = picks (is_closing closings.Esac c.next.token) (gives so) (one_case_in c s so)

    -- no span in a `case` goes past the limit, up to its `in` and the comments after it, and as a whole
    case_head_in : (n : Next) (s : State) →
        UpTo g limit (a_case_head inner n) (λ h. WordIn limit h.0 × AreIn limit h.1) s
    unfolding a_case_head
    case_head_in n s =
        first (case_word_in n s) (λ w t one. first (linebreak_in [] w.1 t (All-nil (IsSpanWithin limit)))
        (λ l u all. after (λ i v. first (linebreak_in l.join.comments i.1 v all) (λ h x more. gives (one, more)))))

    case_in : (n : Next) (s : State) → UpTo g limit (a_case inner n) (ClosedIn (FormIn limit)) s
    unfolding a_case
    case_in n s =
        first (case_head_in n s) (λ h t one. first
        (repeats CasesIn (case_turn inner) case_turn_in (cases_so_far [] h.1 h.2) t (All-nil (CaseIn limit), one.1))
        (λ c u all. first (closing_in closings.Esac c.next u)
        (λ e v last. gives ((one.0, cases_in limit c.items all.0, spans_in limit c.comments all.1), last))))

    -- no span in what an opener opens goes past the limit, from just after it
    form_in : (o : Opener) (n : Next) (s : State) → UpTo g limit (a_form inner o n) (ClosedIn (FormIn limit)) s
    form_in openers.Brace n s = first (group_in closings.Brace n s) (λ l t so. gives so)
    form_in openers.Paren n s = first (group_in closings.Paren n s) (λ l t so. gives so)
    form_in openers.If n s = if_in n s
    form_in openers.While n s = first (loop_in n s) (λ l t so. gives so)
    form_in openers.Until n s = first (loop_in n s) (λ l t so. gives so)
    form_in openers.For n s = for_in n s
    form_in openers.Case n s = case_in n s

    -- no span in a compound command goes past the limit: with its tree, it is the one that is held apart
    compound_in : (o : Opener) (s : State) → UpTo g limit (a_compound inner o) (λ c. CommandIn limit c.0) s
    unfolding a_compound
    compound_in o s =
        first (reserved_or_paren_in _ (is_open_paren o) _ s)
        (λ x t begin. first (form_in o x.1 t)
        (λ f u so. first (adds {P = λ cs. CommandIn limit (held_apart cs)} (so.0, (begin.0, so.1.1), tt))
        (λ cs v good. gives good)))

    -- ---- substitutions

    -- no span in what stands in a command substitution goes past the limit, up to its `)`
    substitution_list_in : (s : State) → UpTo g limit (substitution_list inner) (EntriesIn limit) s
    unfolding substitution_list
    substitution_list_in s =
        after (λ n t. first (lines_in fine n t)
        (λ l u all. picks (is_closing closings.Paren l.next.token)
        (after (λ w z. after (λ x v. gives (entries_in limit l.list.entries all.0)))) (stopped inner l.next)))

    -- no span in the substitutions goes past the limit with one more, and with the
    -- bodies of its here-documents
    substitution_in : (b : ℕ) (ss : Row ASubst) (s : State) → b ≤ g.offset + s.at → All (SubstIn limit) ss →
        UpTo g limit (a_substitution inner b ss) (All (SubstIn limit)) s
    unfolding a_substitution one_substitution
    substitution_in b ss s from so =
        in_subst (first_on (in_level (ending (substitution_list_in (own_level s))))
        (λ es t on one. sees (unless
        (λ b. pushes (SubstIn limit) so (bodies_in limit es.1 es.0 one.1 one.0, (omega (arith, from, on, b), b))))))

    -- ---- functions

    -- no span in a compound command under a name goes past the limit, with the comments before it
    under_in : (name : Span) (cs : Row Span) (c : ACommand) → IsSpanWithin limit name → AreIn limit cs →
        CommandIn limit c → CommandIn limit (under_name name cs c)
    under_in name cs (simple items) one all so = so
    under_in name cs (compound body) one all so = (one, spans_in limit cs all, so)
    under_in name cs (function other ds body) one all so = so

    -- no span in a function goes past the limit, from just after its name on
    function_in : (name : Span) (s : State) → IsSpanWithin limit name →
        UpTo g limit (a_function inner name) (λ c. CommandIn limit c.0) s
    unfolding a_function
    function_in name s one =
        after (λ o t. after (λ c u. first (linebreak_in [] c.1 u (All-nil (IsSpanWithin limit)))
        (λ l v all. first (compound_in_by fine l.next (opener_of l.next.token) v)
        (λ b w so. gives (under_in name l.join.comments b.0 one all so)))))

    -- ---- lines

    -- no span in the entries of a line goes past the limit, without the bodies of its
    -- here-documents and with them
    open_line_in : (blank : Bool) (s : State) → UpTo g limit (an_open_line inner blank) (λ x. All (EntryIn limit) x.0) s
    unfolding an_open_line
    open_line_in blank s = after (λ n t. first
        (on_line_in fine (list_so_far (none_listed blank) n) t (All-nil (EntryIn limit), tt))
        (λ l u all. after (λ newline v. gives all.0)))

    line_in : (blank : Bool) (s : State) → UpTo g limit (a_line inner blank) (λ x. EntriesIn limit (entries_of x.0)) s
    unfolding a_line
    line_in blank s =
        first (in_level (open_line_in blank (own_level s)))
        (λ l t so. gives (subst (EntriesIn limit) (sym (row_filled l.1 l.0.0))
        (bodies_in limit l.1 (entries_of l.0.0) so.1 (entries_in limit l.0.0 so.0))))

-- ---- where so many constructs may be open

module _ (g : Given) (limit : ℕ) where
  -- no span in what may be opened goes past the limit, by how many more may be
  pub level_in : (room : ℕ) → InnerInLimit g limit (level room)
  unfolding level
  level_in zero = record {
    construct = λ mode b ss s so. stops;
    substitution = λ b ss s from so. stops;
    compound = λ o s. after (λ p t. stops);
    function = λ name s one. stops;
  }
  level_in (suc room) =
      record {
        construct = λ mode b ss s so. contents_in (level_in room) mode b ss s so;
        substitution = λ b ss s from so. substitution_in (level_in room) b ss s from so;
        compound = λ o s. compound_in (level_in room) o s;
        function = λ name s one. function_in (level_in room) name s one;
      }

-- ---- the lines of a script

-- no span in the entries of a line goes past a limit that the line keeps, where it stands in a script
pub line_throughout : (edition : Edition) → (T : List ℕ) (o : ℕ) (blank newline : Bool) (es : Row AnEntry) (t : State) →
    does (the_line blank) Whole (given edition T o) (standing 0) ≡ Ok ((es, newline), t)
    → (limit : ℕ) → o + t.at ≤ limit → Throughout (IsSpanWithin limit) IsSome (entries_of es)
line_throughout edition T o blank newline es t is limit le =
    let g = given edition T o in
    let told = (line_in (level_in g limit most_open) blank (standing 0)).told.told in
    subst (Holds (λ (x : Row AnEntry × Bool) (u : State). o + u.at ≤ limit →
    Throughout (IsSpanWithin limit) IsSome (entries_of x.0))) is told le

-- where no span in these entries goes past the limit, none does in the kind of a line that has them
kind_everywhere : (limit : ℕ) (es : Row AnEntry) (newline : Bool) →
    Throughout (IsSpanWithin limit) IsSome (entries_of es) → EntrySpansWithin limit (kind_of es newline)
kind_everywhere limit [] true so = tt
kind_everywhere limit [] false so = tt
kind_everywhere limit (e ∷ es) newline so =
    (all_within limit (entries_of (e ∷ es)) so, have_items limit (entries_of (e ∷ es)) so)

-- what is within a limit is within each greater one
pub everywhere_more : (limit more : ℕ) (kind : AKind) → limit ≤ more → EntrySpansWithin limit kind →
    EntrySpansWithin more kind
everywhere_more limit more (entries_line es) le so = (all_within_more limit more es le so.0, so.1)
everywhere_more limit more blank_line le so = tt
everywhere_more limit more end_line le so = tt
everywhere_more limit more (faulty_line fault) le so = tt

-- no span in what a line is goes past the place where the line ends
pub line_everywhere : (edition : Edition) → (T : List ℕ) (l : ALine) → IsLine edition T l →
    EntrySpansWithin l.next l.kind
line_everywhere edition T l (line_read es newline t k part) =
    kind_everywhere t.at es newline
    (line_throughout edition T 0 false newline es t
    (sym ((computed_is_only (the_line false) (given edition T 0) (standing 0)).only _ _ part)) t.at (omega arith))
line_everywhere edition T l (line_stops f k part) = tt
