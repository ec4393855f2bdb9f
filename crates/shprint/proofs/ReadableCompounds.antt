-- Lists and what holds lists: lines, compound commands, functions and scripts. What was read of them has a
-- good shape: its words, comments and here-documents are read wherever they stand, and no more constructs
-- are open than may be.
use Rattle.std.proofs.Common.{◌≡◌, ◌∙◌, refl, sym, ap, subst, ℕ, zero, suc, ◌-◌, Bool, true, false, not, ◌&&◌, ◌||◌, inl, Ok, List, List as Row, [], ◌∷◌, ◌++◌, drop, Option, Some, None, is_some, option_map}
use Rattle.std.proofs.lemmas.Bool.{both_ways, or_cases}
use Rattle.shgrammar.specs.declared.keep.Keep.TheVariants.{Whole}
use Rattle.shgrammar.specs.declared.token.Closing.{Closing}
use Rattle.shgrammar.specs.declared.token.Closing.TheVariants as closings
use Rattle.shgrammar.specs.declared.token.Next.{Next}
use Rattle.shgrammar.specs.declared.token.Opener.{Opener}
use Rattle.shgrammar.specs.declared.token.Opener.TheVariants as openers
use Rattle.shgrammar.specs.declared.edition.Edition.{Edition}
use Rattle.shgrammar.specs.declared.token.Position.{Position}
use Rattle.shgrammar.specs.declared.token.Position.TheVariants.{Command, Suffix}
use Rattle.shgrammar.specs.declared.token.Token.{Token}
use Rattle.shast.specs.declared.tree.Span.{Span}
use Rattle.shast.specs.Tree.{Otherwise, ForWords, ACommand, ABranch, AForm, Entries, branches_of, AnEntry, AWord, item, entry, remark, entries_of, items_of, ItemsOf, no_item, word, substs_of, ACompound, compound, argument, ACaseItem, ACaseMark, cases_of, patterns_of, formed, function, brace, subshell, if_then, while_do, until_do, for_in, case_in, branch, otherwise, no_else, case_item}
use Rattle.shast.specs.Shape.{Text, Shape, text_at, shape_of, shape_of_comment, shape_of_command, shape_of_form, shape_of_branch, shape_of_branches, shape_of_else, shape_of_for_words, shape_of_items, shape_of_word, shape_of_substs, shape_of_patterns, shape_of_cases, shape_of_case}
use Rattle.shgrammar.specs.Comments.{span}
use Rattle.shgrammar.specs.Tokens.{is_later, is_name_at, token_at}
use Rattle.shgrammar.specs.Sights.{Given, given, State, standing, one_byte, to}
use Rattle.shgrammar.specs.States.{Waiting}
use Rattle.shgrammar.specs.Form.{Spelled, give, ◌>>◌, many, done, may}
use Rattle.shgrammar.specs.Words.{Inner}
use Rattle.shgrammar.specs.Commands.{pick, is_newline_token, is_pipe, begins_word, begins_pipeline, opener_of, ItemsSoFar, items_so_far, breaks, an_item, is_word, is_paren, ends_item, falls_through, nothing_waits}
use Rattle.shgrammar.specs.Lists.{ListSoFar, list_so_far, none_listed, is_blank_next, one_entry, entry_turn, remark_by, a_remark, on_line, list_turn, a_list}
use Rattle.shgrammar.specs.Compounds.{BranchesSoFar, branches_so_far, Closed, is_closing, a_group, a_branch, elif_turn, an_else, an_if, a_loop, position_after, a_for_name, a_sequential_sep, Headed, word_turn, for_words, a_for_head, after_remarks, a_for, a_form, a_compound, under_name, a_function, a_case_word, begins_pattern, PatternsSoFar, a_pattern, one_pattern, pattern_turn, a_pattern_list, an_open_bracket, a_body, ItemEnd, an_ender, an_item_end, CasesSoFar, cases_so_far, one_case, case_turn, a_case_head, a_case}
use Rattle.shgrammar.specs.Levels.{most_open, level}
use Rattle.shgrammar.specs.Lines.{a_line, an_open_line, line_end_by, end_of_line}
use Rattle.shgrammar.specs.Tokens.{is_end}
use Rattle.shgrammar.specs.Scripts.{AScript, LinesSoFar, Lines, line_ended, last_line, faulty, nothing_yet, Outcome}
use Rattle.shgrammar.proofs.Shown.{falls_later}
use Rattle.shgrammar.proofs.TokensShown.{shown_level, shown_lines}
use Rattle.shgrammar.proofs.OneOutcome.{computed_is_only}
use Rattle.shgrammar.proofs.Holds.{Holds, Tells, tells_after, tells_change, tells_give, tells_level, tells_then, tells_moved}
use Rattle.shgrammar.proofs.WordsWaiting.{place_of}
use Rattle.shgrammar.proofs.Spelling.{raw_at}
use Rattle.shgrammar.proofs.ItemsAnywhere.{ItemAnywhere, NameAnywhere, is_a_word, item_is_word, token_anywhere, item_anywhere, name_anywhere}
use Rattle.shgrammar.proofs.CommentsAnywhere.{CommentAnywhere}
use Rattle.shprint.proofs.Tokens.{word_token}
use Rattle.shprint.proofs.Due.{Due, Docs, DocsAt, Feeds, no_docs, docs_done, docs_read, Opens, opens_nothing, opens_one, opens_two, opens_both, opens_none, opens_last, fill_all}
use Rattle.shast.specs.Bodies.{fill_entries, fill_entry, fill_content, fill_command, fill_form, fill_branch, fill_else, fill_case, filled_row}
use Rattle.shast.proofs.FilledBack.{filled_is}
use Rattle.shast.proofs.Going.{entries_going, branches_going, cases_going, row_filled}
use Rattle.shprint.proofs.Good.{GoodOwnComment, an_item_of, of_for, of_argument, GoodItems, none_more, GoodWords, GoodForWords, GoodName, GoodEntries, GoodCommand, GoodForm, GoodBranch, GoodBranches, GoodElse, GoodWord, GoodPatterns, GoodCases, GoodCase}
use Rattle.shprint.proofs.GoodRows.{branches_more, patterns_last, cases_more, entries_join}
use Rattle.shprint.proofs.ReadableForms.{pattern_is_word, AddsNone, gives, first, after, sees, pushes, picks, stopped, Turned, repeats, Adds, add_gives, add_first, read_first, and_told, add_sees, add_pushes, add_picks, add_stops, add_stopped, TurnGives, turns_if, add_repeats, Stands, word_so, reads_next, reads_semicolon, reads_newline, reads_reserved_or_paren, reads_closing, WordRead, reads_word, reads_comment, Comments, reads_linebreak}
use Rattle.shprint.proofs.ReadableCommands.{item_is, OpenCompound, OpenEntry, word_shape, text_of, substs_in, reads_anywhere, one_more_good, CompoundsReadable, reads_compound_by, reads_entry}
use Rattle.shgrammar.proofs.NamesBefore.{NameBefore}

module _ (B : List ℕ) (g : Given) (here : g.text ≡ drop g.offset B) where
  module _ (room : ℕ) where
    -- what may be opened inside
    abbrev inner : Inner
    inner = level room

    -- ---- parts of a list, where these documents are open

    -- forms, and all that they hold, good once they have the bodies of their documents
    abbrev OpenForm : Row Due → AForm → Row Due → Type 0
    OpenForm D f E = Opens g fill_form (λ h. GoodForm g.edition room (shape_of_form B h)) D f E

    -- a row of entries: with their bodies they are good. Their documents are those that E has after D.
    abbrev OpenRow : Row Due → Row AnEntry → Row Due → Type 0
    OpenRow D es E = Opens g (fill_all g fill_entry)
        (λ ls. GoodEntries g.edition room (shape_of B (entries_of ls))) D es E

    -- entries as a list, a branch, an `else` or none, and an item of a case: each is good with its bodies
    abbrev OpenEntries : Row Due → Entries → Row Due → Type 0
    OpenEntries D es E = Opens g fill_entries (λ ls. GoodEntries g.edition room (shape_of B ls)) D es E

    abbrev OpenBranch : Row Due → ABranch → Row Due → Type 0
    OpenBranch D x E = Opens g fill_branch (λ y. GoodBranch g.edition room (shape_of_branch B y)) D x E

    abbrev OpenElse : Row Due → Otherwise → Row Due → Type 0
    OpenElse D x E = Opens g fill_else (λ y. GoodElse g.edition room (shape_of_else B y)) D x E

    abbrev OpenCase : Row Due → ACaseItem → Row Due → Type 0
    OpenCase D x E = Opens g fill_case (λ y. GoodCase g.edition room (shape_of_case B y)) D x E

    -- entries as a list
    list_opens : {D E : Row Due} (es : Row AnEntry) → OpenRow D es E → OpenEntries D (entries_of es) E
    list_opens es all = opens_one g (entries_of es) entries_of (entries_going es) (λ ls good. good) all

    -- the shape of items
    abbrev items : ItemsSoFar → Shape ItemsOf
    items i = shape_of_items B (items_of i.items)

    module _ (fine : CompoundsReadable B g here room) where
      -- ---- lists

      -- the entries of the list so far are good with their bodies; their documents are those that D has
      -- after C
      abbrev Listing : Row Due → ListSoFar → Row Due → ℕ → Type 0
      Listing C l D p = OpenRow C l.list.entries D

      -- and the token after it stands here
      abbrev ListOn : Row Due → ListSoFar → Row Due → ℕ → Type 0
      ListOn C l D p = Listing C l D p × Stands g Command l.next p

      -- entries that are good, and one more that is, are good together
      entry_more : {C D E : Row Due} (es : Row AnEntry) (e : AnEntry) → OpenRow C es D → OpenEntry B g here room D e E →
          OpenRow C (es ++ e ∷ []) E
      entry_more es e all one = opens_last g es e
          (λ ls l good more. entries_join B g.edition room ls (l ∷ []) good (more, tt)) all one

      -- one more entry is read, and the entries are good; where a separator parts it from a next one, the
      -- next token stands where a command may begin
      reads_one_entry : (C : Row Due) (l : ListSoFar) (D : Row Due) (p : ℕ) → ListOn C l D p →
          Adds g D (one_entry inner l) (TurnGives g (ListOn C) (Listing C)) p
      unfolding one_entry
      reads_one_entry C l D p so =
          add_first g (reads_entry B g here room fine (is_blank_next l.list) l.next D p so.1)
          (λ x E e one. let all = entry_more l.list.entries x.entry so.0 one.0 in
          add_pushes g (add_gives g (turns_if g (ListOn C) (Listing C) (is_some x.parted) _ E e
          (λ on. (all, one.1 on)) all)))

      -- so the entries are good after each turn on a line, which reads one more where a pipeline begins
      reads_entry_turn : (C : Row Due) (l : ListSoFar) (D : Row Due) (p : ℕ) → ListOn C l D p →
          Adds g D (entry_turn inner l) (TurnGives g (ListOn C) (Listing C)) p
      unfolding entry_turn
      reads_entry_turn C l D p so =
          add_picks g (begins_pipeline l.next.token) (λ is. reads_one_entry C l D p so) (add_gives g so.0)

      -- a comment on a line of its own is a good entry and has no documents
      remark_open : {D : Row Due} (c : Span) (blank : Bool) → CommentAnywhere (text_at B c) →
          OpenEntry B g here room D (entry (remark c) false blank None) D
      unfolding fill_entry fill_content
      remark_open c blank good = opens_nothing g (entry (remark c) false blank None) (λ ts. refl) (good, tt)

      -- after the entries of a line a comment is read, or none, and the entries are good with it
      reads_remark : (C : Row Due) (l : ListSoFar) (D : Row Due) (p : ℕ) → Listing C l D p →
          Adds g D (a_remark l) (Listing C) p
      unfolding a_remark
      reads_remark C l D p so = read_first g (reads_comment B g here ⊥ l.next p (λ no. absurd no))
          (λ x e one. by_comment x e one.0)
        where
          by_comment : (x : Option Span × Next) (e : ℕ) → GoodOwnComment (option_map (shape_of_comment B) x.0) →
              Adds g D (remark_by l x) (Listing C) e
          by_comment (Some c, n) e one =
              add_pushes g (add_gives g (entry_more l.list.entries
              (entry (remark c) false (is_blank_next l.list) None) so (remark_open c (is_blank_next l.list) one)))
          by_comment (None, n) e one = add_gives g so

      -- what stands on one line is read, and the entries are good with those of the line
      reads_on_line : (C : Row Due) (l : ListSoFar) (D : Row Due) (p : ℕ) → ListOn C l D p →
          Adds g D (on_line inner l) (Listing C) p
      unfolding on_line
      reads_on_line C l D p so =
          add_first g (add_repeats g (entry_turn inner) (ListOn C) (ListOn C) (Listing C) (reads_entry_turn C)
          (λ m E d on. on) (λ m E d on. on.0) l D p so) (λ m E e all. reads_remark C m E e all)

      -- so they are after a turn of a list: what stands on a line, and then a newline or none
      reads_list_turn : (C : Row Due) (l : ListSoFar) (D : Row Due) (p : ℕ) → ListOn C l D p →
          Adds g D (list_turn inner l) (TurnGives g (ListOn C) (Listing C)) p
      unfolding list_turn
      reads_list_turn C l D p so =
          add_first g (reads_on_line C l D p so)
          (λ m E e all. read_first g (reads_newline g ⊥ m.next e (λ no. absurd no)) (λ x f more.
          add_gives g (turns_if g (ListOn C) (Listing C) x.0 _ E f (λ on. (all, more.1 on)) all)))

      -- all lines of a list are read, and their entries are good
      reads_lines : (n : Next) (D : Row Due) (p : ℕ) → Stands g Command n p →
          Adds g D (many (list_turn inner) (list_so_far (none_listed false) n)) (Listing D) p
      reads_lines n D p so =
          add_repeats g (list_turn inner) (ListOn D) (ListOn D) (Listing D) (reads_list_turn D) (λ l E d on. on)
          (λ l E d on. on.0) (list_so_far (none_listed false) n) D p (opens_none g fill_entry tt, so)

      -- a list is read as good entries; where it has no command no row goes on
      reads_list : (n : Next) (D : Row Due) (p : ℕ) → Stands g Command n p →
          Adds g D (a_list inner n) (λ x E e. OpenEntries D x.0 E) p
      unfolding a_list
      reads_list n D p so =
          add_first g (reads_lines n D p so)
          (λ l E e all. add_picks g l.list.commands (λ is. add_gives g (list_opens l.list.entries all))
          (add_stopped g inner l.next))

      -- ---- a line

      -- where a text ends without a newline all documents have their bodies, or the row stops
      none_waiting : (D : Row Due) (p : ℕ) (ws : Row Waiting) (bs : Row Span) → Docs g D ws bs
          → Tells Whole g (nothing_waits >> give false) (λ x t. Feeds g D t.bodies [])
          (record { at = p; waiting = ws; bodies = bs })
      unfolding nothing_waits
      none_waiting D p [] bs docs = record { told = docs_done g docs }
      none_waiting D p (w ∷ ws) bs docs = record { told = tt }

      -- after a line all have their bodies
      line_ends : (n : Next) (D : Row Due) (s : State) → DocsAt g D s →
          Tells Whole g (end_of_line inner n) (λ x t. Feeds g D t.bodies []) s
      unfolding end_of_line
      line_ends n D s docs = by_end (is_newline_token n.token) (is_end n.token)
        where
          by_end : (newline end : Bool) →
              Tells Whole g (line_end_by inner newline end n) (λ x t. Feeds g D t.bodies []) s
          by_end true end =
              tells_moved Whole g (tells_then Whole g {P = λ x t. Feeds g D t.bodies []}
              (tells_change Whole g (λ t is. (docs_read g (place_of s (to one_byte g.text s.at)) t docs is).0))
              (λ x t so. tells_give Whole g so))
          by_end false true = none_waiting D s.at s.waiting s.bodies docs
          by_end false false = tells_after Whole g (λ w t. record { told = tt })

      -- the entries of a line, with their bodies
      line_filled : (E : Row Due) (es : Row AnEntry) (bs : Row Span) → OpenRow [] es E → Feeds g E bs [] →
          GoodEntries g.edition room (shape_of B (entries_of (filled_row bs es)))
      line_filled E es bs all feeds =
          let r = all.fills bs [] feeds in
          let is : entries_of (filled_row bs es) ≡ entries_of (fill_all g fill_entry es r.0).0 =
          row_filled bs es ∙ filled_is bs (entries_of es) ∙ ap (λ (x : Entries × Row Span). x.0) (entries_going es bs)
          ∙ ap (λ ts. entries_of (fill_all g fill_entry es ts).0) r.1 in
          subst (λ (ls : Entries). GoodEntries g.edition room (shape_of B ls)) (sym is) r.2

      -- the entries of a line that was read are good with the bodies that were read after it
      reads_open_line : (blank : Bool) (p : ℕ) →
          Tells Whole g (an_open_line inner blank)
          (λ x t. GoodEntries g.edition room (shape_of B (entries_of (filled_row t.bodies x.0)))) (standing p)
      unfolding an_open_line
      reads_open_line blank p =
          tells_then Whole g ((reads_next g Command p).reads [] (standing p) (no_docs g)) (λ n t so.
          tells_then Whole g ((reads_on_line [] (list_so_far (none_listed blank) n) [] t.at
          (opens_none g fill_entry tt, so.1)).adds t so.0) (λ l u all.
          tells_then Whole g (line_ends l.next all.0 u all.1)
          (λ newline v done. tells_give Whole g (line_filled all.0 l.list.entries v.bodies all.2 done))))

      -- a line is read as good entries, with the bodies filled into them
      reads_line : (blank : Bool) (p : ℕ) →
          Tells Whole g (a_line inner blank) (λ x t. GoodEntries g.edition room (shape_of B (entries_of x.0)))
          (standing p)
      unfolding a_line
      reads_line blank p =
          tells_then Whole g (tells_level Whole g
          {Q = λ l t. GoodEntries g.edition room (shape_of B (entries_of (filled_row l.1 l.0.0)))}
          (reads_open_line blank p) (λ x t good. good)) (λ l t good. tells_give Whole g good)

      -- ---- compound commands

      -- a list and what closes it are read as good entries; after it a token stands where a command may
      -- begin
      reads_group : (c : Closing) (n : Next) (D : Row Due) (p : ℕ) → Stands g Command n p →
          Adds g D (a_group inner c n) (λ x E e. OpenEntries D x.what E × Stands g Command x.next e) p
      unfolding a_group
      reads_group c n D p so = add_first g (reads_list n D p so)
          (λ l E e good. read_first g (reads_closing g inner c l.1 e) (λ k f stands. add_gives g (good, stands)))

      -- two lists that are good make a good branch
      branch_open : {C D E : Row Due} (c b : Entries) → OpenEntries C c D → OpenEntries D b E →
          OpenBranch C (branch c b) E
      unfolding fill_branch
      branch_open c b one two = opens_two g (branch c b) branch (λ ts. refl) (λ x y good more. (good, more)) one two

      -- a condition, `then` and a body are read as a good branch
      reads_branch : (n : Next) (D : Row Due) (p : ℕ) → Stands g Command n p →
          Adds g D (a_branch inner n) (λ x E e. OpenBranch D x.0 E) p
      unfolding a_branch
      reads_branch n D p so =
          add_first g (reads_list n D p so)
          (λ c C e one. read_first g (reads_closing g inner closings.Then c.1 e) (λ t f stands.
          add_first g (reads_list t.1 C f stands) (λ b E h two. add_gives g (branch_open c.0 b.0 one two))))

      -- a row of branches: with their bodies they are good
      abbrev OpenBranches : Row Due → Row ABranch → Row Due → Type 0
      OpenBranches D bs E = Opens g (fill_all g fill_branch)
          (λ xs. GoodBranches g.edition room (shape_of_branches B (branches_of xs))) D bs E

      -- the branches after the first one, so far, are good
      abbrev BranchesGood : Row Due → BranchesSoFar → Row Due → ℕ → Type 0
      BranchesGood C b D p = OpenBranches C b.branches D

      -- a turn reads `elif` and one more branch, or neither, and the branches are good
      reads_elif : (C : Row Due) (b : BranchesSoFar) (D : Row Due) (p : ℕ) → BranchesGood C b D p →
          Adds g D (elif_turn inner b) (TurnGives g (BranchesGood C) (BranchesGood C)) p
      unfolding elif_turn
      reads_elif C b D p so =
          add_picks g (is_closing closings.Elif b.next.token)
          (λ is. read_first g (reads_reserved_or_paren g _ _ _ p)
          (λ k e stands. add_first g (reads_branch k.1 D e stands)
          (λ x E f good. add_pushes g
          (add_gives g (opens_last g b.branches x.0 (branches_more B g.edition room) so good)))))
          (add_gives g so)

      -- an `else` is good where its list is
      else_open : {D E : Row Due} (es : Entries) → OpenEntries D es E → OpenElse D (otherwise es) E
      unfolding fill_else
      else_open es one = opens_one g (otherwise es) otherwise (λ ts. refl) (λ ls good. good) one

      -- where no `else` stands nothing has to be good
      no_else_open : {D : Row Due} → OpenElse D no_else D
      unfolding fill_else
      no_else_open = opens_nothing g no_else (λ ts. refl) tt

      -- an `else` with its list, or none, is read as a good one
      reads_else : (n : Next) (D : Row Due) (p : ℕ) → Adds g D (an_else inner n) (λ x E e. OpenElse D x.0 E) p
      unfolding an_else
      reads_else n D p =
          add_picks g (is_closing closings.Else n.token)
          (λ is. read_first g (reads_reserved_or_paren g _ _ _ p)
          (λ k e stands. add_first g (reads_list k.1 D e stands) (λ l E f good. add_gives g (else_open l.0 good))))
          (add_gives g no_else_open)

      -- a form is good with its bodies, and after it a token stands where a command may begin
      abbrev FormGood : Row Due → Closed AForm → Row Due → ℕ → Type 0
      FormGood D f E p = OpenForm D f.what E × Stands g Command f.next p

      -- an `if` is good where its first branch, its further ones and its `else` are
      if_open : {A C D E : Row Due} (f : ABranch) (bs : Row ABranch) (o : Otherwise) → OpenBranch A f C →
          OpenBranches C bs D → OpenElse D o E → OpenForm A (if_then f (branches_of bs) o) E
      unfolding fill_form
      if_open f bs o one all other =
          opens_two g (if_then f (branches_of bs) o) (λ x y. if_then x.0 (branches_of x.1) y)
          (λ ts. rw (branches_going bs (fill_branch f ts).1) refl) (λ x y good more. (good.0, good.1, more))
          (opens_both g one all) other

      -- what stands after `if`, up to `fi`, is read as a good form
      reads_if : (n : Next) (D : Row Due) (p : ℕ) → Stands g Command n p → Adds g D (an_if inner n) (FormGood D) p
      unfolding an_if
      reads_if n D p so =
          add_first g (reads_branch n D p so) (λ f C e one.
          add_first g (add_repeats g (elif_turn inner) (BranchesGood C) (BranchesGood C) (BranchesGood C) (reads_elif C)
          (λ b E d all. all) (λ b E d all. all) (branches_so_far [] f.1) C e (opens_none g fill_branch tt))
          (λ b A d all.
          add_first g (reads_else b.next A d)
          (λ x E h other. read_first g (reads_closing g inner closings.Fi x.1 h)
          (λ c k stands. add_gives g (if_open f.0 b.branches x.0 one all other, stands)))))

      -- a condition, `do`, a body and `done` are read as a good branch
      reads_loop : (n : Next) (D : Row Due) (p : ℕ) → Stands g Command n p →
          Adds g D (a_loop inner n) (λ x E e. OpenBranch D x.what E × Stands g Command x.next e) p
      unfolding a_loop
      reads_loop n D p so =
          add_first g (reads_list n D p so)
          (λ c C e one. read_first g (reads_closing g inner closings.Do c.1 e) (λ d f stands.
          add_first g (reads_list d.1 C f stands)
          (λ b E h two. read_first g (reads_closing g inner closings.Done b.1 h)
          (λ k l stands_after. add_gives g (branch_open c.0 b.0 one two, stands_after)))))

      -- ---- `for`

      -- a word that was read, and is a NAME where it begins, is a good name of a `for`
      for_name : (n : Next) (p q : ℕ) (w : AWord) → Stands g Suffix n p → begins_word n.token ≡ true →
          WordRead g room p w q → is_name_at g.text p ≡ true → GoodName g.edition room (shape_of_word B w)
      for_name n p q w so begins read name =
          let same = word_so g so (item_is_word n.token begins) in
          let item = subst (λ (t : Token). begins_word t ≡ true) (sym same) begins in
          let ss = shape_of_substs B (substs_of read.substs) in
          let anywhere = item_anywhere room Suffix n.token g p (q - p)
          (w, read.part) so.place so.no_blank same begins B here ss (word_shape B g here room p q w read) in
          let names = name_anywhere room Suffix g p (q - p) (w, read.part) so.place so.no_blank item name in
          record {
            t = text_at B (span g.offset p q);
            ss = ss;
            is = ap (shape_of_word B) read.is;
            token = n.token;
            begins = begins;
            reads = subst (λ (t : Text). ItemAnywhere g.edition room Suffix n.token t ss)
                (raw_at B g here p q) anywhere;
            names = subst NameAnywhere (raw_at B g here p q) names;
          }

      -- the name of a `for` is read as a good one
      reads_for_name : (n : Next) (p : ℕ) → Stands g Suffix n p →
          AddsNone g (a_for_name inner n)
          (λ x e. GoodName g.edition room (shape_of_word B x.0) × Stands g Command x.1 e) p
      unfolding a_for_name
      reads_for_name n p so =
          picks g (begins_word n.token)
          (λ begins. sees g (λ s. refl)
          (sees g (λ s. refl) (first g (reads_word g room p) (λ w q read. picks g (is_name_at g.text p)
          (λ name. first g (reads_next g Command q)
          (λ m e stands. gives g (for_name n p q w so begins read name, stands)))
          (record { reads = λ D s docs. record { told = tt } })))))
          (stopped g inner n)

      -- a semicolon or newlines, with comments, are read; the comments are good, and a token stands after
      -- them
      reads_sequential_sep : (cs : Row Span) (n : Next) (p : ℕ) → Comments B g here cs →
          AddsNone g (a_sequential_sep inner cs n)
          (λ l e. Comments B g here l.join.comments × Stands g Command l.next e) p
      unfolding a_sequential_sep
      reads_sequential_sep cs n p good =
          first g (reads_semicolon g ⊥ n p (λ no. absurd no))
          (λ s e one. first g (reads_linebreak B g here (s.0 ≡ true) cs s.1 e good (λ y. one.1 y)) (λ l f two.
          picks g (s.0 || l.join.broken) (λ is. gives g (two.0, two.1 (or_cases _ _ is)))
          (stopped g inner l.next)))

      -- the words so far, and the token after them
      record WordsSo (i : ItemsSoFar) (p : ℕ) : Type 0 where
        pub good : GoodItems g.edition room of_for Suffix (items i) Suffix
        pub stands : Stands g Suffix i.next p

      -- after the last word of a `for` its words are good
      abbrev WordsDone : ItemsSoFar → ℕ → Type 0
      WordsDone i p = GoodWords g.edition room (items i)

      -- the words so far are good, whatever token follows them
      words_are : (i : ItemsSoFar) (p : ℕ) → WordsSo i p → GoodWords g.edition room (items i)
      words_are i p so = record { last = Suffix; items = so.good }

      -- a turn reads one more word and the token after it, or neither, and the words are good
      reads_word_turn : (i : ItemsSoFar) (p : ℕ) → WordsSo i p →
          AddsNone g (word_turn inner i) (Turned g WordsSo WordsDone) p
      unfolding word_turn an_item
      reads_word_turn i p so =
          picks g (is_word i.next.token)
          (λ is. first g (reads_word g room p) (λ w q read. pushes g (first g (reads_next g Suffix q) (λ n e stands.
          let same = word_token i.next.token is in
          let anywhere = subst (λ (t : Token). ItemAnywhere g.edition room Suffix t (text_of B g here room p q)
          (substs_in B g here room read)) same
          (reads_anywhere B g here room Suffix i.next p q w (ap begins_word same) so.stands read) in
          gives g (record {
            good = one_more_good B g here room of_for Suffix Suffix Suffix i.items (item (breaks i) (argument w))
                (an_item_of (breaks i) Suffix (word (text_of B g here room p q) (substs_in B g here room read)))
                (item_is B (breaks i) Suffix w (word (text_of B g here room p q) (substs_in B g here room read))
                (ap (shape_of_word B) read.is))
                (of_argument anywhere) so.good;
            stands = stands;
          })))))
          (gives g (words_are i p so))

      -- the words of a `for` and the comments before its `do` are good, and a token stands after them
      abbrev HeadGood : Headed → ℕ → Type 0
      HeadGood h e = GoodForWords g.edition room (shape_of_for_words B h.words) × Comments B g here h.comments
          × Stands g Command h.next e

      -- `in`, the words after it and what ends them are read as good ones
      reads_for_words : (cs : Row Span) (p : ℕ) → Comments B g here cs → AddsNone g (for_words inner cs) HeadGood p
      unfolding for_words
      reads_for_words cs p good =
          first g (reads_reserved_or_paren g _ _ _ p) (λ i e stands.
          first g (repeats g (word_turn inner) WordsSo WordsSo WordsDone reads_word_turn (λ j d on. on) words_are
          (items_so_far [] Suffix i.1) e (record { good = none_more; stands = stands })) (λ ws f words.
          first g (reads_sequential_sep cs ws.next f good) (λ l h lines. gives g (words, lines.0, lines.1))))

      -- what stands between the name of a `for` and `do` is read as good, be there an `in` or not
      reads_for_head : (n : Next) (p : ℕ) → Stands g Command n p → AddsNone g (a_for_head inner n) HeadGood p
      unfolding a_for_head
      reads_for_head n p so =
          first g (reads_semicolon g (Unit {0}) n p (λ y. so))
          (λ s e one. first g (reads_linebreak B g here (Unit {0}) [] s.1 e tt one.0) (λ l f two.
          picks g (not s.0 && is_closing closings.In l.next.token) (λ is. reads_for_words l.join.comments f two.0)
          (gives g (tt, two.0, two.1 (inl tt)))))

      -- comments on lines of their own, and then entries, are good entries where both are good
      remarks_good : (cs : Row Span) (es : Entries) → Comments B g here cs →
          GoodEntries g.edition room (shape_of B es) → GoodEntries g.edition room (shape_of B (after_remarks cs es))
      remarks_good [] es all so = so
      remarks_good (c ∷ cs) es all so = ((all.0, tt), remarks_good cs es all.1 so)

      -- bodies go into such entries as into those after the comments, which take none
      remarks_filled : (cs : Row Span) (es : Entries) (ts : Row Span) →
          fill_entries (after_remarks cs es) ts ≡ (after_remarks cs (fill_entries es ts).0, (fill_entries es ts).1)
      unfolding fill_entries fill_entry fill_content
      remarks_filled [] es ts = refl
      remarks_filled (c ∷ cs) es ts = rw (remarks_filled cs es ts) refl

      -- a `for` is good where its name, its words, the comments before `do` and its list are
      for_open : {D E : Row Due} (name : AWord) (words : ForWords) (cs : Row Span) (es : Entries) →
          GoodName g.edition room (shape_of_word B name) → GoodForWords g.edition room (shape_of_for_words B words) →
          Comments B g here cs
          → OpenEntries D es E → OpenForm D (for_in name words (after_remarks cs es)) E
      unfolding fill_form
      for_open name words cs es one two comments body =
          opens_one g (for_in name words (after_remarks cs es)) (λ ls. for_in name words (after_remarks cs ls))
          (λ ts. rw (remarks_filled cs es ts) refl)
          (λ ls good. (one, two, remarks_good cs ls comments good)) body

      -- what stands after `for`, up to `done`, is read as a good form
      reads_for : (n : Next) (D : Row Due) (p : ℕ) → Stands g Suffix n p → Adds g D (a_for inner n) (FormGood D) p
      unfolding a_for
      reads_for n D p so =
          read_first g (reads_for_name n p so)
          (λ x e one. read_first g (reads_for_head x.1 e one.1)
          (λ h f two. read_first g (reads_closing g inner closings.Do h.next f) (λ d k stands.
          add_first g (reads_group closings.Done d.1 D k stands)
          (λ b E l body. add_gives g (for_open x.0 h.words h.comments b.what one.0 two.0 two.1 body.0, body.1)))))

      -- ---- `case`

      -- a word that was read where such a token stands is a good word in its position
      good_word : (position : Position) (begins : Token → Bool) (n : Next) (p q : ℕ) (w : AWord) → Stands g position n p
          → begins n.token ≡ true → is_a_word n.token ≡ true → WordRead g room p w q
          → GoodWord g.edition room position begins (shape_of_word B w)
      good_word position begins n p q w so begin is_word read =
          let ss = shape_of_substs B (substs_of read.substs) in
          let anywhere = token_anywhere room position n.token g p (q - p) (w, read.part) so.place so.no_blank
          (word_so g so is_word) is_word B here ss (word_shape B g here room p q w read) in
          record {
            t = text_at B (span g.offset p q);
            ss = ss;
            is = ap (shape_of_word B) read.is;
            token = n.token;
            begin = begin;
            word_is = is_word;
            reads = subst (λ (t : Text). ItemAnywhere g.edition room position n.token t ss)
                (raw_at B g here p q) anywhere;
          }

      -- the word of a `case` is read as a good one, and a token stands after it
      reads_case_word : (n : Next) (p : ℕ) → Stands g Suffix n p →
          AddsNone g (a_case_word inner n)
          (λ x e. GoodWord g.edition room Suffix begins_word (shape_of_word B x.0) × Stands g Command x.1 e) p
      unfolding a_case_word
      reads_case_word n p so =
          picks g (begins_word n.token)
          (λ begins. first g (reads_word g room p) (λ w q read. first g (reads_next g Command q) (λ m e stands.
          gives g (good_word Suffix begins_word n p q w so begins (item_is_word n.token begins) read, stands))))
          (stopped g inner n)

      -- the patterns of an item so far are good
      abbrev PatternsGood : PatternsSoFar → ℕ → Type 0
      PatternsGood x p = GoodPatterns g.edition room (shape_of_patterns B (patterns_of x.patterns))

      -- one more pattern is read; the patterns are good with it, if they are with any good word
      reads_pattern : (position : Position) (begins : Token → Bool) (ws : Row AWord) (n : Next) (p : ℕ) →
          Stands g position n p → begins n.token ≡ true → is_a_word n.token ≡ true
          → ((w : AWord) → GoodWord g.edition room position begins (shape_of_word B w) →
          GoodPatterns g.edition room (shape_of_patterns B (patterns_of (ws ++ w ∷ [])))) →
          AddsNone g (a_pattern inner ws) PatternsGood p
      unfolding a_pattern
      reads_pattern position begins ws n p so begin is_word all =
          first g (reads_word g room p)
          (λ w q read. pushes g (first g (reads_next g Suffix q)
          (λ m e stands. gives g (all w (good_word position begins n p q w so begin is_word read)))))

      -- after a `|` one more pattern is read and the patterns are good, or no row goes on
      reads_one_pattern : (x : PatternsSoFar) (p : ℕ) → PatternsGood x p →
          AddsNone g (one_pattern inner x.patterns) (Turned g PatternsGood PatternsGood) p
      unfolding one_pattern
      reads_one_pattern x p so =
          after g tt (λ y e. first g (reads_next g Suffix e) (λ n f stands. picks g (begins_word n.token)
          (λ begins. first g (reads_pattern Suffix begins_word x.patterns n f stands begins
          (item_is_word n.token begins) (λ w one. patterns_last B g.edition room x.patterns w so one))
          (λ y h good. gives g good))
          (stopped g inner n)))

      -- so the patterns are good after each turn
      reads_pattern_turn : (x : PatternsSoFar) (p : ℕ) → PatternsGood x p →
          AddsNone g (pattern_turn inner x) (Turned g PatternsGood PatternsGood) p
      unfolding pattern_turn
      reads_pattern_turn x p so = picks g (is_pipe x.next.token) (λ is. reads_one_pattern x p so) (gives g so)

      -- all patterns of an item are read as good ones
      reads_patterns : (n : Next) (p : ℕ) → Stands g Command n p → AddsNone g (a_pattern_list inner n) PatternsGood p
      unfolding a_pattern_list
      reads_patterns n p so =
          picks g (begins_pattern n.token)
          (λ begins. first g (reads_pattern Command begins_pattern [] n p so begins (pattern_is_word n.token begins)
          (λ w one. (one, tt)))
          (λ x e good. repeats g (pattern_turn inner) PatternsGood PatternsGood PatternsGood reads_pattern_turn
          (λ y d all. all) (λ y d all. all) x e good))
          (stopped g inner n)

      -- the bracket before the patterns is read, or none; after it a token stands where a command may begin
      reads_bracket : (n : Next) (p : ℕ) → Stands g Command n p →
          AddsNone g (an_open_bracket n) (λ m e. Stands g Command m e) p
      unfolding an_open_bracket
      reads_bracket n p so = picks g (is_paren n.token) (λ is. after g tt (λ u e. reads_next g Command e)) (gives g so)

      -- it falls through in a later edition alone
      abbrev FallsLater : Next → Type 0
      FallsLater n = falls_through n.token ≡ true → is_later g.edition ≡ true

      -- the entries of an item are read as good ones, and the next token falls through in a later edition
      -- alone
      reads_body : (n : Next) (D : Row Due) (p : ℕ) → Stands g Command n p →
          Adds g D (a_body inner n) (λ l E e. Listing D l E e × FallsLater l.next) p
      unfolding a_body
      reads_body n D p so =
          and_told g (reads_lines n D p so)
          (λ s. shown_lines g inner (shown_level g room) n (place_of s p) (Command, (sym so.token_is, so.place)))
          (λ l t begins falls. falls_later g.edition (token_at begins.0 g.text t.at)
          (ap falls_through (sym begins.1.0) ∙ falls))

      -- before another item the next token stands where a command may begin
      abbrev Onward : Next → ℕ → Type 0
      Onward n e = is_closing closings.Esac n.token ≡ false → Stands g Command n e

      -- the comments after an item are good, and the next token, where it is not `esac`, stands where a
      -- command may begin
      abbrev EndGood : ItemEnd → ℕ → Type 0
      EndGood x e = Comments B g here x.comments × Onward x.next e

      -- the ender of an item is read, with the comments and newlines after it
      reads_ender : (falling : Bool) (p : ℕ) → AddsNone g (an_ender falling) EndGood p
      unfolding an_ender
      reads_ender falling p =
          after g (tt, (λ u. tt)) (λ y f. after g tt (λ q h. first g (reads_next g Command h) (λ n i stands.
          first g (reads_linebreak B g here (Unit {0}) [] n i tt (λ y. stands))
          (λ l j so. gives g (so.0, (λ no. so.1 (inl tt)))))))

      -- an item ends with its ender or before `esac`; at another token no row goes on
      reads_item_end : (there : ℕ) (n : Next) (p : ℕ) → AddsNone g (an_item_end inner there n) EndGood p
      unfolding an_item_end
      reads_item_end there n p =
          picks g (ends_item n.token) (λ is. reads_ender (falls_through n.token) p)
          (picks g (is_closing closings.Esac n.token)
          (λ is. gives g (tt, (λ no. absurd (both_ways (is_closing closings.Esac n.token) no is))))
          (stopped g inner n))

      -- a row of items: with their bodies they are good
      abbrev OpenCases : Row Due → Row ACaseItem → Row Due → Type 0
      OpenCases D cs E = Opens g (fill_all g fill_case)
          (λ xs. GoodCases g.edition room (shape_of_cases B (cases_of xs))) D cs E

      -- after the last item all items are good, and so are the comments after them
      abbrev CasesDone : Row Due → CasesSoFar → Row Due → ℕ → Type 0
      CasesDone C c D p = OpenCases C c.items D × Comments B g here c.comments

      -- so they are before each turn, and the next token, where it is not `esac`, stands where a command may
      -- begin
      abbrev CasesOn : Row Due → CasesSoFar → Row Due → ℕ → Type 0
      CasesOn C c D p = OpenCases C c.items D × Comments B g here c.comments × Onward c.next p

      -- an item is good where its comments, patterns and entries are, and it falls through in a later
      -- edition alone
      case_open : {D E : Row Due} (cs : Row Span) (ws : Row AWord) (es : Row AnEntry) (mark : ACaseMark) →
          Comments B g here cs →
          GoodPatterns g.edition room (shape_of_patterns B (patterns_of ws)) →
          (mark.falls ≡ true → is_later g.edition ≡ true) → OpenRow D es E
          → OpenCase D (case_item cs (patterns_of ws) (entries_of es) mark) E
      unfolding fill_case
      case_open cs ws es mark comments words falls body =
          opens_one g (case_item cs (patterns_of ws) (entries_of es) mark)
          (λ ls. case_item cs (patterns_of ws) (entries_of ls) mark) (λ ts. rw (entries_going es ts) refl)
          (λ ls good. (comments, words, good, falls)) body

      -- one more item is read, from its bracket to its end, and the items are good
      reads_one_case : (C : Row Due) (c : CasesSoFar) (D : Row Due) (p : ℕ) → CasesOn C c D p →
          Stands g Command c.next p →
          Adds g D (one_case inner c) (TurnGives g (CasesOn C) (CasesDone C)) p
      unfolding one_case
      reads_one_case C c D p so stands =
          add_sees g (λ s. refl) (read_first g (reads_bracket c.next p stands)
          (λ n e begin. read_first g (reads_patterns n e begin) (λ ps f words.
          read_first g (reads_closing g inner closings.Paren ps.next f)
          (λ k h stands_after. add_first g (reads_body k.1 D h stands_after) (λ b E i body.
          read_first g (reads_item_end _ b.next i) (λ e j end.
          add_pushes g (add_gives g (
            opens_last g c.items _ (cases_more B g.edition room) so.0
                (case_open c.comments ps.patterns b.list.entries _ so.1 words body.1 body.0),
            end.0,
            end.1,
          ))))))))

      -- so they are after each turn, which reads no item where `esac` stands
      reads_case_turn : (C : Row Due) (c : CasesSoFar) (D : Row Due) (p : ℕ) → CasesOn C c D p →
          Adds g D (case_turn inner c) (TurnGives g (CasesOn C) (CasesDone C)) p
      unfolding case_turn
      reads_case_turn C c D p so = by_end (is_closing closings.Esac c.next.token) refl
        where
          by_end : (last : Bool) → is_closing closings.Esac c.next.token ≡ last →
              Adds g D (pick last (give (done c)) (one_case inner c)) (TurnGives g (CasesOn C) (CasesDone C)) p
          by_end true is = add_gives g (so.0, so.1)
          by_end false is = reads_one_case C c D p so (so.2 is)

      -- the word of a `case` and `in` are read, with good comments after both, and a token stands after
      -- them
      reads_case_head : (n : Next) (p : ℕ) → Stands g Suffix n p
          → AddsNone g (a_case_head inner n)
          (λ h e. GoodWord g.edition room Suffix begins_word (shape_of_word B h.0) × Comments B g here h.1
          × Stands g Command h.2 e) p
      unfolding a_case_head
      reads_case_head n p so =
          first g (reads_case_word n p so)
          (λ w e one. first g (reads_linebreak B g here (Unit {0}) [] w.1 e tt (λ y. one.1)) (λ l f two.
          first g (reads_closing g inner closings.In l.next f)
          (λ i h stands. first g (reads_linebreak B g here (Unit {0}) l.join.comments i.1 h two.0 (λ y. stands))
          (λ k j three.
          gives g (one.0, three.0, three.1 (inl tt))))))

      -- a `case` is good where its word, its items and the comments after them are
      cases_open : {D E : Row Due} (w : AWord) (cs : Row ACaseItem) (tail : Row Span) →
          GoodWord g.edition room Suffix begins_word (shape_of_word B w) → Comments B g here tail → OpenCases D cs E
          → OpenForm D (case_in w (cases_of cs) tail) E
      unfolding fill_form
      cases_open w cs tail one comments all =
          opens_one g (case_in w (cases_of cs) tail) (λ xs. case_in w (cases_of xs) tail)
          (λ ts. rw (cases_going cs ts) refl) (λ xs good. (one, good, comments)) all

      -- what stands after `case`, up to `esac`, is read as a good form
      reads_case : (n : Next) (D : Row Due) (p : ℕ) → Stands g Suffix n p → Adds g D (a_case inner n) (FormGood D) p
      unfolding a_case
      reads_case n D p so =
          read_first g (reads_case_head n p so) (λ h e one.
          add_first g (add_repeats g (case_turn inner) (CasesOn D) (CasesOn D) (CasesDone D) (reads_case_turn D)
          (λ c E d on. on) (λ c E d on. (on.0, on.1)) (cases_so_far [] h.1 h.2) D e
          (opens_none g fill_case tt, one.1, (λ no. one.2))) (λ c E f all.
          read_first g (reads_closing g inner closings.Esac c.next f)
          (λ k j stands. add_gives g (cases_open h.0 c.items c.comments one.0 all.1 all.0, stands))))

      -- ---- any compound command

      -- braces, brackets and loops are good where the list or the branch in them is
      brace_open : {D E : Row Due} (es : Entries) → OpenEntries D es E → OpenForm D (brace es) E
      unfolding fill_form
      brace_open es one = opens_one g (brace es) brace (λ ts. refl) (λ ls good. good) one

      subshell_open : {D E : Row Due} (es : Entries) → OpenEntries D es E → OpenForm D (subshell es) E
      unfolding fill_form
      subshell_open es one = opens_one g (subshell es) subshell (λ ts. refl) (λ ls good. good) one

      while_open : {D E : Row Due} (b : ABranch) → OpenBranch D b E → OpenForm D (while_do b) E
      unfolding fill_form
      while_open b one = opens_one g (while_do b) while_do (λ ts. refl) (λ x good. good) one

      until_open : {D E : Row Due} (b : ABranch) → OpenBranch D b E → OpenForm D (until_do b) E
      unfolding fill_form
      until_open b one = opens_one g (until_do b) until_do (λ ts. refl) (λ x good. good) one

      -- what stands after an opener is read as a good form
      reads_form : (o : Opener) (n : Next) (D : Row Due) (p : ℕ) → Stands g (position_after o) n p →
          Adds g D (a_form inner o n) (FormGood D) p
      reads_form openers.Brace n D p so =
          add_first g (reads_group closings.Brace n D p so)
          (λ l E e good. add_gives g (brace_open l.what good.0, good.1))
      reads_form openers.Paren n D p so =
          add_first g (reads_group closings.Paren n D p so)
          (λ l E e good. add_gives g (subshell_open l.what good.0, good.1))
      reads_form openers.If n D p so = reads_if n D p so
      reads_form openers.While n D p so =
          add_first g (reads_loop n D p so) (λ l E e good. add_gives g (while_open l.what good.0, good.1))
      reads_form openers.Until n D p so =
          add_first g (reads_loop n D p so) (λ l E e good. add_gives g (until_open l.what good.0, good.1))
      reads_form openers.For n D p so = reads_for n D p so
      reads_form openers.Case n D p so = reads_case n D p so

      -- a compound command is read up to its closer, and its form is good
      reads_compound : (o : Opener) (D : Row Due) (p : ℕ)
          → Adds g D (a_compound inner o)
          (λ c E e. (form : AForm) × (mark : Span) × (c.0 ≡ compound (formed form mark no_item)) × OpenForm D form E
          × Stands g Command c.1 e) p
      unfolding a_compound
      reads_compound o D p =
          read_first g (reads_reserved_or_paren g _ _ _ p)
          (λ x e stands. add_first g (reads_form o x.1 D e stands)
          (λ f E d good. add_pushes g (add_gives g (f.what, _, refl, good.0, good.1))))

      -- ---- functions

      -- a function is good with its bodies, where one construct more may be open than in its own body
      abbrev OpenFunction : Row Due → ACommand → Row Due → Type 0
      OpenFunction D c E = Opens g fill_command (λ d. GoodCommand g.edition (suc room) (shape_of_command B d)) D c E

      -- a function is good where its name is one, and the comments before its body and the body are good
      under_good : {D E : Row Due} (name : Span) (cs : Row Span) (c : ACommand) (body : ACompound) → c ≡ compound body →
          NameBefore (suc room) (text_at B name) → Comments B g here cs → OpenCompound B g here room D body E
          → OpenFunction D (under_name name cs c) E
      unfolding fill_command
      under_good {D = D} {E = E} name cs c body is before own good =
          subst (λ (x : ACommand). OpenFunction D (under_name name cs x) E) (sym is)
          (opens_one g (function name cs body) (function name cs) (λ ts. refl) (λ y all. (before, own, all)) good)

      -- what stands after the name of a function is read as a good one
      reads_function : (name : Span) (D : Row Due) (p : ℕ) → NameBefore (suc room) (text_at B name) →
          Adds g D (a_function inner name) (λ c E e. OpenFunction D c.0 E) p
      unfolding a_function
      reads_function name D p before =
          read_first g (reads_reserved_or_paren g _ true Command p)
          (λ o e stands. read_first g (reads_closing g inner closings.Paren o.1 e) (λ c f stands_after.
          read_first g (reads_linebreak B g here (Unit {0}) [] c.1 f tt (λ y. stands_after)) (λ l h lines.
          add_first g (reads_compound_by B g here room fine l.next (opener_of l.next.token) D h)
          (λ b E k one. add_gives g (under_good name l.join.comments b.0 one.0 one.1 before lines.0 one.2)))))

  -- all that is known of compound commands, at each level from that of the one below
  reads_level : (room : ℕ) → CompoundsReadable B g here room
  unfolding level
  reads_level zero = record {
    compound = λ o D p. add_sees g (λ s. refl) (add_stops g);
    function = λ name D p before. add_stops g;
  }
  reads_level (suc room) = record {
    compound = λ o D p. reads_compound room (reads_level room) o D p;
    function = λ name D p before. reads_function room (reads_level room) name D p before;
  }

-- ---- a script

module _ (edition : Edition) (B : List ℕ) where
  -- a line that was read has a good shape, and so have all lines
  line_good : (blank : Bool) (p : ℕ) (es : Row AnEntry) (newline : Bool) (t : State) (k : Row Spelled) →
      may (a_line (level most_open) blank) (given edition (drop p B) p) (standing 0) (Ok ((es, newline), t)) k
      → GoodEntries edition most_open (shape_of B (entries_of es))
  line_good blank p es newline t k part =
      let g = given edition (drop p B) p in
      let line = reads_line B g refl most_open (reads_level B g refl most_open) blank 0 in
      subst (Holds (λ x t. GoodEntries edition most_open (shape_of B (entries_of x.0))))
      (sym ((computed_is_only (a_line (level most_open) blank) g (standing 0)).only _ _ part)) line.told

  -- where the entries so far are good, those of the whole script are
  lines_good : (so : LinesSoFar) (p : ℕ) (s : AScript) (k : Row Spelled) → Lines edition B so p s k →
      GoodEntries edition most_open (shape_of B (entries_of so.entries)) →
      GoodEntries edition most_open (shape_of B s.entries)
  lines_good so p s m (line_ended {l = l} es t k part rest) good =
      lines_good _ _ s l rest (entries_join B edition most_open so.entries es good (line_good _ p es true t k part))
  lines_good so p s m (last_line es t k part) good =
      entries_join B edition most_open so.entries es good (line_good _ p es false t k part)
  lines_good so p s m (faulty f k part) good = good

-- what was read of a script has a good shape
pub script_readable : (edition : Edition) (B : List ℕ) (s : AScript) → Outcome edition B s →
    GoodEntries edition most_open (shape_of B s.entries)
script_readable edition B s is = lines_good edition B nothing_yet 0 s is.0 is.1 tt
