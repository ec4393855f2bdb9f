-- A list that ends by a `)` is read wherever its bytes stand up to that `)`, with the
-- same shape: its lines, compound commands and functions, one term a row.
use Rattle.std.proofs.Common.{not, ◌&&◌, ◌≡◌, ℕ, Bool, true, false, ◌||◌, List, List as Row, [], ◌∷◌, drop, map, Option, Some, None, is_some, refl, sym, ap, subst, ◌∙◌}
use Rattle.shgrammar.specs.declared.token.Next.{Next}
use Rattle.shgrammar.specs.declared.token.Opener.{Opener}
use Rattle.shgrammar.specs.declared.token.Position.{Position}
use Rattle.shgrammar.specs.declared.token.Position.TheVariants.{Command, Suffix}
use Rattle.shgrammar.specs.declared.token.Closing.{Closing}
use Rattle.shgrammar.specs.declared.token.Closing.TheVariants as closings
use Rattle.shgrammar.specs.declared.token.Opener.TheVariants as openers
use Rattle.shast.specs.declared.tree.Span.{Span}
use Rattle.shast.specs.Tree.{ABranch, ACommand, AForm, AWord, AnEntry, Entries, branches_of, entries_of, entry, remark, compound, formed, no_item, simple, function, ACaseItem, case_item, cases_of, patterns_of, ACaseMark}
use Rattle.shast.specs.Nodes.{through}
use Rattle.shast.specs.Shape.{text_at, shape_of, shape_of_entry, shape_of_command, shape_of_branch, shape_of_branches, shape_of_word, shape_of_form, shape_of_else, shape_of_for_words, shape_of_compound, shape_of_case, shape_of_cases, shape_of_patterns}
use Rattle.shgrammar.specs.Sights.{here, is_a_name}
use Rattle.shgrammar.specs.Form.{Form, many, step_if, Spelled}
use Rattle.shgrammar.specs.Words.{Inner}
use Rattle.shgrammar.specs.Commands.{is_pipe, begins_word, begins_pipeline, opener_of, compound_by, ItemsSoFar, items_so_far, is_word, is_paren, ends_item, falls_through}
use Rattle.shgrammar.specs.Lists.{Listed, ListSoFar, list_so_far, none_listed, is_blank_next, with_command, next_line, one_entry, entry_turn, remark_by, a_remark, on_line, list_turn, a_list}
use Rattle.shgrammar.specs.Compounds.{is_closing, is_open_paren, is_close_paren, reserved_or_paren, closing, Closed, a_branch, BranchesSoFar, branches_so_far, elif_turn, an_else, an_if, a_loop, a_group, a_for_name, a_sequential_sep, Headed, word_turn, for_words, a_for_head, after_remarks, a_for, a_form, held_apart, a_compound, under_name, a_function, a_case_word, begins_pattern, PatternsSoFar, a_pattern, one_pattern, pattern_turn, a_pattern_list, an_open_bracket, a_body, ItemEnd, an_ender, an_item_end, CasesSoFar, cases_so_far, one_case, case_turn, a_case_head, a_case}
use Rattle.shgrammar.proofs.Alike.{SameStep}
use Rattle.shgrammar.proofs.Ahead.{ListEnds, same_name}
use Rattle.shgrammar.proofs.FormsElsewhere.{Goes, go_see, go_any, go_stop}
use Rattle.shgrammar.specs.declared.edition.Edition.{Edition}
use Rattle.shgrammar.proofs.JoinsElsewhere.{rows_more, rows_empty, SameText, SameRemark, SameComments, SameJoin, gives, pushes, then, moves_on, picks, at_same, marks, two_marks, repeats, next_same, comment_at_same, newline_same, semicolon_same, linebreak_same, stopped}
use Rattle.shgrammar.proofs.CommandsElsewhere.{SameWord, SameCommand, SameItems, items_same, InnerElsewhere, one_item, compound_by_same, entry_same}

-- ---- rows of the same shapes

module _ (B : List ℕ) where
  -- the shape of a row is the row of its shapes
  branches_shape : (bs : Row ABranch) → shape_of_branches B (branches_of bs) ≡ branches_of (map (shape_of_branch B) bs)
  branches_shape [] = refl
  branches_shape (b ∷ bs) = rw (branches_shape bs) refl

  patterns_shape : (ws : Row AWord) → shape_of_patterns B (patterns_of ws) ≡ patterns_of (map (shape_of_word B) ws)
  patterns_shape [] = refl
  patterns_shape (w ∷ ws) = rw (patterns_shape ws) refl

  cases_shape : (cs : Row ACaseItem) → shape_of_cases B (cases_of cs) ≡ cases_of (map (shape_of_case B) cs)
  cases_shape [] = refl
  cases_shape (c ∷ cs) = rw (cases_shape cs) refl

  pub entries_shape : (es : Row AnEntry) → shape_of B (entries_of es) ≡ entries_of (map (shape_of_entry B) es)
  entries_shape [] = refl
  entries_shape (e ∷ es) = rw (entries_shape es) refl

-- ---- what is the same in both texts

module _ (B B2 : List ℕ) where
  -- two lists so far have entries of the same shapes, and the same is told of the line so far
  abbrev pub SameListed : Listed → Listed → Type 0
  SameListed l m = (map (shape_of_entry B) l.entries ≡ map (shape_of_entry B2) m.entries)
      × ((l.blank ≡ m.blank) × ((l.begun ≡ m.begun) × (l.commands ≡ m.commands)))

  -- two lists so far are the same in that way, and the same token stands after them
  abbrev pub SameList : ListSoFar → ListSoFar → Type 0
  SameList l m = SameListed l.list m.list × (l.next ≡ m.next)

  -- the entries of two lists that are the same so far have the same shape
  pub list_shape : (l m : ListSoFar) → SameList l m →
      shape_of B (entries_of l.list.entries) ≡ shape_of B2 (entries_of m.list.entries)
  list_shape l m same = entries_shape B l.list.entries ∙ ap entries_of same.0.0
      ∙ sym (entries_shape B2 m.list.entries)

module _ {edition : Edition} {T U : List ℕ} {a M : ℕ} {to : ℕ → ℕ} {limit : ℕ}
    {E : ListEnds edition T U a M to limit} {o o2 : ℕ} {B B2 : List ℕ} {stands : T ≡ drop o B}
    {stands_there : U ≡ drop o2 B2}
    {inner : Inner} (fine : InnerElsewhere E o o2 B B2 stands stands_there inner) where
  -- what r reads up to a good place q reads in the other text, and S holds of the two
  abbrev Goes2 : {X Y : Type 0} → (X → Y → Type 0) → Form X → Form Y → Type 0
  Goes2 S r q = Goes E o o2 B B2 stands stands_there S r q

  -- ---- lists

  -- Each turn adds entries of the same shape, and goes on or ends in both texts.

  -- two rows of entries have the same shapes
  abbrev SameEntries : Row AnEntry → Row AnEntry → Type 0
  SameEntries es fs = map (shape_of_entry B) es ≡ map (shape_of_entry B2) fs

  -- the next entry is blank in both texts, or in neither
  blank_same : (l m : Listed) → SameListed B B2 l m → is_blank_next l ≡ is_blank_next m
  blank_same l m same = rw (same.1.0, same.1.1.0) refl

  -- by tests that are equal, both turns go on, or both end
  list_step : (p q : Bool) (l m : ListSoFar) → p ≡ q → SameList B B2 l m →
      SameStep (SameList B B2) (step_if p l) (step_if q m)
  list_step true true l m is same = same
  list_step true false l m is same = absurd cc
  list_step false true l m is same = absurd cc
  list_step false false l m is same = same

  -- where the lists so far are the same, they are so with one more entry, or none
  one_more_entry : (l m : ListSoFar) → SameList B B2 l m →
      Goes2 (SameStep (SameList B B2)) (one_entry inner l) (one_entry inner m)
  unfolding one_entry
  one_more_entry l m same =
      then (entry_same fine _ _ l.next m.next (blank_same l.list m.list same.0) same.1) (λ e f so.
      then (pushes {S = SameEntries}
      (rows_more (shape_of_entry B)
      (shape_of_entry B2) l.list.entries e.entry m.list.entries f.entry same.0.0 so.0))
      (λ es fs all. gives (list_step (is_some e.parted) (is_some f.parted)
      (list_so_far (with_command l.list es e.parted) e.next)
      (list_so_far (with_command m.list fs f.parted) f.next) so.1.0
      ((all, (same.0.1.0, (refl, refl))), so.1.1))))

  entry_on : (l m : ListSoFar) → SameList B B2 l m →
      Goes2 (SameStep (SameList B B2)) (entry_turn inner l) (entry_turn inner m)
  unfolding entry_turn
  entry_on l m same = picks _ _ (ap (λ (n : Next). begins_pipeline n.token) same.1) (one_more_entry l m same)
      (gives same)

  -- where the lists so far are the same, they are so with a comment on a line of its own, or none
  remark_same : (l m : ListSoFar) (x y : Option Span × Next) → SameListed B B2 l.list m.list → SameRemark B B2 x y →
      Goes2 (SameList B B2) (remark_by l x) (remark_by m y)
  remark_same l m (None, n) (None, k) same so = gives (same, so.1)
  remark_same l m (None, n) (Some d, k) same so = let no = so.0 in absurd cc
  remark_same l m (Some c, n) (None, k) same so = let no = so.0 in absurd cc
  remark_same l m (Some c, n) (Some d, k) same so =
      then (pushes {S = SameEntries}
      (rows_more (shape_of_entry B) (shape_of_entry B2) l.list.entries
      (entry (remark c) false (is_blank_next l.list) None) m.list.entries
      (entry (remark d) false (is_blank_next m.list) None) same.0
      (remarks_same c d (is_blank_next l.list) (is_blank_next m.list) so.0 (blank_same l.list m.list same))))
      (λ es fs all. gives ((all, (same.1.0, (refl, same.1.1.1))), so.1))
    where
      remarks_same : (c d : Span) (b z : Bool) → SameText B B2 (Some c) (Some d) → b ≡ z →
          shape_of_entry B (entry (remark c) false b None) ≡ shape_of_entry B2 (entry (remark d) false z None)
      remarks_same c d b z text is = let one : text_at B c ≡ text_at B2 d = cc in rw (one, is) refl

  -- where the lists so far are the same, they are so with all that stands on a line
  on_line_same : (l m : ListSoFar) → SameList B B2 l m → Goes2 (SameList B B2) (on_line inner l) (on_line inner m)
  unfolding on_line a_remark
  on_line_same l m same =
      then (repeats (SameList B B2) (entry_turn inner) (entry_turn inner) entry_on l m same)
      (λ j k so. then (comment_at_same j.next k.next so.1) (λ x y text. remark_same j k x y so.0 text))

  -- where the lists so far are the same, they are so at the next line
  lines_same : (l m : Listed) → SameListed B B2 l m → SameListed B B2 (next_line l) (next_line m)
  lines_same l m same = (
    same.0,
    (
      rw (same.1.1.0, rows_empty (shape_of_entry B) (shape_of_entry B2) l.entries m.entries same.0) refl,
      (refl, same.1.1.1),
    ),
  )

  -- where the lists so far are the same, they are so with one more line, or the last
  line_on : (l m : ListSoFar) → SameList B B2 l m →
      Goes2 (SameStep (SameList B B2)) (list_turn inner l) (list_turn inner m)
  unfolding list_turn
  line_on l m same =
      then (on_line_same l m same) (λ j k so. then (newline_same j.next k.next so.1)
      (λ x y is. gives (list_step x.0 y.0 (list_so_far (next_line j.list) x.1) (list_so_far (next_line k.list) y.1)
      (ap (λ (z : Bool × Next). z.0) is) (lines_same j.list k.list so.0, ap (λ (z : Bool × Next). z.1) is))))

  -- what stands before the end of a list is read the same in both texts
  pub all_lines_same : (n m : Next) → n ≡ m →
      Goes2 (SameList B B2) (many (list_turn inner) (list_so_far (none_listed false) n))
      (many (list_turn inner) (list_so_far (none_listed false) m))
  all_lines_same n m same = repeats (SameList B B2) (list_turn inner) (list_turn inner) line_on _ _
      ((refl, (refl, (refl, refl))), same)

  -- two lists have the same shape, and the same token stands after them
  abbrev SameEnd : Entries × Next → Entries × Next → Type 0
  SameEnd x y = (shape_of B x.0 ≡ shape_of B2 y.0) × (x.1 ≡ y.1)

  -- a list is read with the same shape in both texts; it has a command in both or in neither
  list_same : (n m : Next) → n ≡ m → Goes2 SameEnd (a_list inner n) (a_list inner m)
  unfolding a_list
  list_same n m same = then (all_lines_same n m same)
      (λ l k so. picks _ _ so.0.1.1.1 (gives (list_shape B B2 l k so, so.1)) (stopped inner l.next))

  -- ---- compound commands

  -- Each row: what it reads here it reads there, with the same shape, and hands on the same token.

  -- what opens, parts or closes is read in both texts, with the same token after it; the spans do not count
  reserved_or_paren_same : (text : Spelled) (paren : Bool) (position : Position) →
      Goes2 (λ x y. x.1 ≡ y.1) (reserved_or_paren text paren position) (reserved_or_paren text paren position)
  unfolding reserved_or_paren
  reserved_or_paren_same text paren position =
      then marks (λ x y all. then (next_same position) (λ n m same. gives same))

  closing_same : (c : Closing) (n m : Next) → n ≡ m → Goes2 (λ x y. x.1 ≡ y.1) (closing inner c n) (closing inner c m)
  unfolding closing
  closing_same c n m same = at_same (closing inner c) (closing inner c)
      (λ n. picks (is_closing c n.token) _ refl (reserved_or_paren_same _ (is_close_paren c) _) (stopped inner n)) n m
      same

  -- a condition and what it runs have the same shape in both texts, and the same token stands after them
  abbrev SameBranch : ABranch × Next → ABranch × Next → Type 0
  SameBranch x y = (shape_of_branch B x.0 ≡ shape_of_branch B2 y.0) × (x.1 ≡ y.1)

  branch_same : (n m : Next) → n ≡ m → Goes2 SameBranch (a_branch inner n) (a_branch inner m)
  unfolding a_branch
  branch_same n m same =
      then (list_same n m same) (λ c d so.
      then (closing_same closings.Then c.1 d.1 so.1)
      (λ t u is. then (list_same t.1 u.1 is) (λ b e two. gives (rw (so.0, two.0) refl, two.1))))

  -- the branches of each `elif` so far have the same shapes in both texts, and so they have with
  -- one more or none
  abbrev SameBranches : BranchesSoFar → BranchesSoFar → Type 0
  SameBranches b c = (map (shape_of_branch B) b.branches ≡ map (shape_of_branch B2) c.branches) × (b.next ≡ c.next)

  elif_on : (b c : BranchesSoFar) → SameBranches b c →
      Goes2 (SameStep SameBranches) (elif_turn inner b) (elif_turn inner c)
  unfolding elif_turn
  elif_on b c same =
      picks _ _ (ap (λ (n : Next). is_closing closings.Elif n.token) same.1)
      (then (reserved_or_paren_same _ false _) (λ k m so. then (branch_same k.1 m.1 so)
      (λ x y is. then (pushes {S = λ bs cs. map (shape_of_branch B) bs ≡ map (shape_of_branch B2) cs}
      (rows_more (shape_of_branch B) (shape_of_branch B2) b.branches x.0 c.branches y.0 same.0 is.0))
      (λ bs cs all. gives (all, is.1)))))
      (gives same)

  -- what stands after `else`, or nothing, is read with the same shape in both texts
  else_same : (n m : Next) → n ≡ m →
      Goes2 (λ x y. (shape_of_else B x.0 ≡ shape_of_else B2 y.0) × (x.1 ≡ y.1)) (an_else inner n) (an_else inner m)
  unfolding an_else
  else_same n m same =
      picks _ _ (ap (λ (n : Next). is_closing closings.Else n.token) same)
      (then (reserved_or_paren_same _ false _)
      (λ k l so. then (list_same k.1 l.1 so) (λ x y is. gives (rw is.0 refl, is.1)))) (gives (refl, same))

  -- two forms have the same shape, and the same token stands after them
  abbrev SameForm : Closed AForm → Closed AForm → Type 0
  SameForm x y = (shape_of_form B x.what ≡ shape_of_form B2 y.what) × (x.next ≡ y.next)

  -- the whole of `if`, of `while` and of `until`, and a list up to what closes it, are read with the same
  -- shape in both texts
  if_same : (n : Next) → Goes2 SameForm (an_if inner n) (an_if inner n)
  unfolding an_if
  if_same n =
      then (branch_same n n refl) (λ f k so.
      then (repeats SameBranches (elif_turn inner) (elif_turn inner) elif_on (branches_so_far [] f.1)
      (branches_so_far [] k.1)
      (refl, so.1))
      (λ b c same. then (else_same b.next c.next same.1)
      (λ e d is. then (closing_same closings.Fi e.1 d.1 is.1)
      (λ x y last. gives (rw (so.0, branches_same b c same, is.0) refl, last)))))
    where
      branches_same : (b c : BranchesSoFar) → SameBranches b c →
          shape_of_branches B (branches_of b.branches) ≡ shape_of_branches B2 (branches_of c.branches)
      branches_same b c same = branches_shape B b.branches ∙ ap branches_of same.0
          ∙ sym (branches_shape B2 c.branches)

  loop_same : (n : Next) → Goes2 (λ x y. (shape_of_branch B x.what ≡ shape_of_branch B2 y.what) × (x.next ≡ y.next))
      (a_loop inner n) (a_loop inner n)
  unfolding a_loop
  loop_same n =
      then (list_same n n refl) (λ c d so.
      then (closing_same closings.Do c.1 d.1 so.1) (λ t u is. then (list_same t.1 u.1 is)
      (λ b e two. then (closing_same closings.Done b.1 e.1 two.1) (λ x y last. gives (rw (so.0, two.0) refl, last)))))

  group_same : (c : Closing) (n m : Next) → n ≡ m →
      Goes2 (λ x y. (shape_of B x.what ≡ shape_of B2 y.what) × (x.next ≡ y.next)) (a_group inner c n)
      (a_group inner c m)
  unfolding a_group
  group_same c n m same = then (list_same n m same)
      (λ l k so. then (closing_same c l.1 k.1 so.1) (λ x y last. gives (so.0, last)))

  -- the word after `for` is read with the same shape in both texts; it is a NAME in both or in neither
  for_name_same : (n : Next) → Goes2 (λ x y. SameWord B B2 x.0 y.0 × (x.1 ≡ y.1)) (a_for_name inner n)
      (a_for_name inner n)
  unfolding a_for_name
  for_name_same n =
      picks (begins_word n.token) _ refl
      (then (go_any E o o2 B B2 stands stands_there {l = here})
      (λ p q all. then (go_see E o o2 B B2 stands stands_there {l = is_a_name} (λ s from e. same_name E e))
      (λ good fine_too is. then fine.word
      (λ w v so. picks good fine_too is (then (next_same Command) (λ m k same. gives (so, same)))
      (go_stop E o o2 B B2 stands stands_there)))))
      (stopped inner n)

  -- a `;` or a newline is read in both texts, with comments of the same texts after it
  sequential_sep_same : (cs ds : Row Span) (n m : Next) → SameComments B B2 cs ds → n ≡ m →
      Goes2 (SameJoin B B2) (a_sequential_sep inner cs n) (a_sequential_sep inner ds m)
  unfolding a_sequential_sep
  sequential_sep_same cs ds n m all same =
      then (semicolon_same n m same)
      (λ s z so. then (linebreak_same cs ds s.1 z.1 all (ap (λ (x : Bool × Next). x.1) so))
      (λ l k is. picks (s.0 || l.join.broken) (z.0 || k.join.broken) (rw (so, is.0) refl) (gives is)
      (stopped inner l.next)))

  -- two heads of a `for` have words of the same shape, comments of the same texts, and the
  -- same token after them
  abbrev SameHead : Headed → Headed → Type 0
  SameHead x y = (shape_of_for_words B x.words ≡ shape_of_for_words B2 y.words)
      × (SameComments B B2 x.comments y.comments × (x.next ≡ y.next))

  -- one more word after `in`, or none, is read with the same shape in both texts, and so are all of them
  word_on : (i j : ItemsSoFar) → SameItems B B2 i j →
      Goes2 (SameStep (SameItems B B2)) (word_turn inner i) (word_turn inner j)
  unfolding word_turn
  word_on i j same = picks _ _ (ap (λ (k : Next). is_word k.token) same.1.1) (one_item fine i j Suffix same)
      (gives same)

  for_words_same : (cs ds : Row Span) → SameComments B B2 cs ds →
      Goes2 SameHead (for_words inner cs) (for_words inner ds)
  unfolding for_words
  for_words_same cs ds all =
      then (reserved_or_paren_same _ false _)
      (λ i j so. then (repeats (SameItems B B2) (word_turn inner) (word_turn inner) word_on (items_so_far [] Suffix i.1)
      (items_so_far [] Suffix j.1) (refl, (refl, so)))
      (λ ws vs same. then (sequential_sep_same cs ds ws.next vs.next all same.1.1)
      (λ l k is. gives (rw (items_same B B2 ws vs same) refl, is.1))))

  -- what stands between the name and `do` is the same in both texts, with `in` or without
  for_head_same : (n m : Next) → n ≡ m → Goes2 SameHead (a_for_head inner n) (a_for_head inner m)
  unfolding a_for_head
  for_head_same n m same =
      then (semicolon_same n m same)
      (λ s z so. then (linebreak_same [] [] s.1 z.1 refl (ap (λ (x : Bool × Next). x.1) so))
      (λ l k is. picks (not s.0 && is_closing closings.In l.next.token)
      (not z.0 && is_closing closings.In k.next.token) (rw (so, is.1.1) refl)
      (for_words_same l.join.comments k.join.comments is.1.0) (gives (refl, is.1))))

  -- lists of the same shape have it also with comments of the same texts before them
  remarks_shape : (cs ds : Row Span) (es fs : Entries) → SameComments B B2 cs ds → shape_of B es ≡ shape_of B2 fs →
      shape_of B (after_remarks cs es) ≡ shape_of B2 (after_remarks ds fs)
  remarks_shape [] [] es fs all same = same
  remarks_shape [] (d ∷ ds) es fs all same = absurd cc
  remarks_shape (c ∷ cs) [] es fs all same = absurd cc
  remarks_shape (c ∷ cs) (d ∷ ds) es fs all same =
      let one : text_at B c ≡ text_at B2 d = cc in
      let rest : SameComments B B2 cs ds = cc in
      rw (one, remarks_shape cs ds es fs rest same) refl

  -- the whole of `for` is read with the same shape in both texts
  for_same : (n : Next) → Goes2 SameForm (a_for inner n) (a_for inner n)
  unfolding a_for
  for_same n =
      then (for_name_same n) (λ x y one.
      then (for_head_same x.1 y.1 one.1)
      (λ j k two. then (closing_same closings.Do j.next k.next two.1.1)
      (λ d e is. then (group_same closings.Done d.1 e.1 is)
      (λ b c body. gives (
        rw (one.0, two.0, remarks_shape j.comments k.comments b.what c.what two.1.0 body.0) refl,
        body.1,
      )))))

  -- ---- `case`

  -- Patterns, items and the comments between them: as many, of the same shapes.

  -- the word after `case` is read with the same shape in both texts
  case_word_same : (n : Next) →
      Goes2 (λ x y. SameWord B B2 x.0 y.0 × (x.1 ≡ y.1)) (a_case_word inner n) (a_case_word inner n)
  unfolding a_case_word
  case_word_same n = picks (begins_word n.token) _ refl
      (then fine.word (λ w v so. then (next_same Command) (λ m k same. gives (so, same)))) (stopped inner n)

  -- two rows of patterns have the same shapes, and the same token stands after them
  abbrev SameWords : Row AWord → Row AWord → Type 0
  SameWords ws vs = map (shape_of_word B) ws ≡ map (shape_of_word B2) vs

  abbrev SamePatterns : PatternsSoFar → PatternsSoFar → Type 0
  SamePatterns p q = SameWords p.patterns q.patterns × (p.next ≡ q.next)

  -- a pattern is read with the same shape in both texts, one more after `|` or none, and all of an item
  pattern_same : (ws vs : Row AWord) → SameWords ws vs → Goes2 SamePatterns (a_pattern inner ws) (a_pattern inner vs)
  unfolding a_pattern
  pattern_same ws vs same =
      then fine.word (λ w v so. then
      (pushes {S = SameWords} (rows_more (shape_of_word B) (shape_of_word B2) ws w vs v same so))
      (λ xs ys all. then (next_same Suffix) (λ n m is. gives (all, is))))

  one_more_pattern : (ws vs : Row AWord) → SameWords ws vs →
      Goes2 (SameStep SamePatterns) (one_pattern inner ws) (one_pattern inner vs)
  unfolding one_pattern
  one_more_pattern ws vs same =
      then marks (λ x y all. then (next_same Suffix)
      (λ n m is. picks _ _ (ap (λ (k : Next). begins_word k.token) is)
      (then (pattern_same ws vs same) (λ p q so. gives so)) (stopped inner n)))

  pattern_on : (p q : PatternsSoFar) → SamePatterns p q →
      Goes2 (SameStep SamePatterns) (pattern_turn inner p) (pattern_turn inner q)
  unfolding pattern_turn
  pattern_on p q same = picks _ _ (ap (λ (n : Next). is_pipe n.token) same.1)
      (one_more_pattern p.patterns q.patterns same.0) (gives same)

  pattern_list_same : (n m : Next) → n ≡ m → Goes2 SamePatterns (a_pattern_list inner n) (a_pattern_list inner m)
  unfolding a_pattern_list
  pattern_list_same n m same =
      picks _ _ (ap (λ (k : Next). begins_pattern k.token) same)
      (then (pattern_same [] [] refl)
      (λ p q so. repeats SamePatterns (pattern_turn inner) (pattern_turn inner) pattern_on p q so))
      (stopped inner n)

  -- the `(` before patterns is read in both texts, or none, with the same token after it
  open_same : (n m : Next) → n ≡ m → Goes2 (λ x y. x ≡ y) (an_open_bracket n) (an_open_bracket m)
  unfolding an_open_bracket
  open_same n m same = picks _ _ (ap (λ (k : Next). is_paren k.token) same)
      (then moves_on (λ x y all. next_same Command))
      (gives same)

  -- the ends of two items have comments of the same texts and the same token after them; their
  -- offsets do not count
  abbrev SameItemEnd : ItemEnd → ItemEnd → Type 0
  SameItemEnd e d = SameComments B B2 e.comments d.comments × (e.next ≡ d.next)

  -- a `;;` or `;&` is read in both texts, with the comments after it, or nothing before `esac`
  ender_same : (b : Bool) → Goes2 SameItemEnd (an_ender b) (an_ender b)
  unfolding an_ender
  ender_same b =
      then two_marks (λ x y all. then (go_any E o o2 B B2 stands stands_there {l = here})
      (λ p q any. then (next_same Command)
      (λ n m same. then (linebreak_same [] [] n m refl same) (λ l k so. gives so.1))))

  item_end_same : (p q : ℕ) (n m : Next) → n ≡ m → Goes2 SameItemEnd (an_item_end inner p n) (an_item_end inner q m)
  unfolding an_item_end
  item_end_same p q n m same =
      picks _ _ (ap (λ (k : Next). ends_item k.token) same)
      (subst (λ (c : Bool). Goes2 SameItemEnd (an_ender (falls_through n.token)) (an_ender c))
      (ap (λ (k : Next). falls_through k.token) same) (ender_same (falls_through n.token)))
      (picks _ _ (ap (λ (k : Next). is_closing closings.Esac k.token) same) (gives (refl, same)) (stopped inner n))

  -- two items of a `case` have the same shape where their comments, patterns and lists are the same
  case_shape : (cs ds : Row Span) (p q : PatternsSoFar) (l m : ListSoFar) (s z : ACaseMark) → s.falls ≡ z.falls →
      SameComments B B2 cs ds → SamePatterns p q → SameList B B2 l m
      → shape_of_case B (case_item cs (patterns_of p.patterns) (entries_of l.list.entries) s)
      ≡ shape_of_case B2 (case_item ds (patterns_of q.patterns) (entries_of m.list.entries) z)
  case_shape cs ds p q l m s z falling one two three =
      let patterns = patterns_shape B p.patterns ∙ ap patterns_of two.0 ∙ sym (patterns_shape B2 q.patterns) in
      rw (one, patterns, list_shape B B2 l m three, falling) refl

  -- the items so far have the same shapes, with comments of the same texts and the same token after them
  abbrev SameCases : CasesSoFar → CasesSoFar → Type 0
  SameCases c d = (map (shape_of_case B) c.items ≡ map (shape_of_case B2) d.items)
      × (SameComments B B2 c.comments d.comments × (c.next ≡ d.next))

  -- where the items so far are the same, they are so with one more, or none before `esac`
  one_more_case : (c d : CasesSoFar) → SameCases c d → Goes2 (SameStep SameCases) (one_case inner c) (one_case inner d)
  unfolding one_case a_body
  one_more_case c d same =
      then (go_any E o o2 B B2 stands stands_there {l = here})
      (λ s z any. then (open_same c.next d.next same.1.1) (λ n m is. then (pattern_list_same n m is)
      (λ p q so. then (closing_same closings.Paren p.next q.next so.1) (λ x y after. then (all_lines_same x.1 y.1 after)
      (λ l k body. then (item_end_same _ _ l.next k.next body.1) (λ e f ended.
      then (pushes {S = λ is js. map (shape_of_case B) is ≡ map (shape_of_case B2) js}
      (rows_more (shape_of_case B) (shape_of_case B2) c.items _ d.items _ same.0
      (case_shape c.comments d.comments p q l k
      (record { mark = record { start = s; «end» = e.at }; falls = falls_through l.next.token })
      (record { mark = record { start = z; «end» = f.at }; falls = falls_through k.next.token })
      (ap (λ (n : Next). falls_through n.token) body.1) same.1.0 so body)))
      (λ is js all. gives (all, ended))))))))

  case_on : (c d : CasesSoFar) → SameCases c d → Goes2 (SameStep SameCases) (case_turn inner c) (case_turn inner d)
  unfolding case_turn
  case_on c d same = picks _ _ (ap (λ (n : Next). is_closing closings.Esac n.token) same.1.1) (gives same)
      (one_more_case c d same)

  -- what stands between `case` and its items is the same in both texts
  case_head_same : (n : Next) →
      Goes2 (λ x y. SameWord B B2 x.0 y.0 × (SameComments B B2 x.1 y.1 × (x.2 ≡ y.2))) (a_case_head inner n)
      (a_case_head inner n)
  unfolding a_case_head
  case_head_same n =
      then (case_word_same n) (λ w v one.
      then (linebreak_same [] [] w.1 v.1 refl one.1) (λ l k two. then (closing_same closings.In l.next k.next two.1.1)
      (λ i j three. then (linebreak_same l.join.comments k.join.comments i.1 j.1 two.1.0 three)
      (λ h m so. gives (one.0, so.1)))))

  -- the whole of `case` is read with the same shape in both texts
  case_same : (n : Next) → Goes2 SameForm (a_case inner n) (a_case inner n)
  unfolding a_case
  case_same n =
      then (case_head_same n) (λ h k one.
      then (repeats SameCases (case_turn inner) (case_turn inner) case_on (cases_so_far [] h.1 h.2)
      (cases_so_far [] k.1 k.2) (refl, one.1))
      (λ c d two. then (closing_same closings.Esac c.next d.next two.1.1)
      (λ x y last. gives (rw (one.0, cases_same c d two, two.1.0) refl, last))))
    where
      cases_same : (c d : CasesSoFar) → SameCases c d →
          shape_of_cases B (cases_of c.items) ≡ shape_of_cases B2 (cases_of d.items)
      cases_same c d same = cases_shape B c.items ∙ ap cases_of same.0 ∙ sym (cases_shape B2 d.items)

  -- each form is read with the same shape in both texts, by its opener
  form_same : (c : Opener) (n m : Next) → n ≡ m → Goes2 SameForm (a_form inner c n) (a_form inner c m)
  form_same c n m same = at_same (a_form inner c) (a_form inner c) (one c) n m same
    where
      one : (c : Opener) (n : Next) → Goes2 SameForm (a_form inner c n) (a_form inner c n)
      one openers.Brace n = then (group_same closings.Brace n n refl) (λ l k so. gives (rw so.0 refl, so.1))
      one openers.Paren n = then (group_same closings.Paren n n refl) (λ l k so. gives (rw so.0 refl, so.1))
      one openers.If n = if_same n
      one openers.While n = then (loop_same n) (λ l k so. gives (rw so.0 refl, so.1))
      one openers.Until n = then (loop_same n) (λ l k so. gives (rw so.0 refl, so.1))
      one openers.For n = for_same n
      one openers.Case n = case_same n

  -- rows of commands of the same shapes hold apart commands of the same shape
  apart_same : (cs ds : Row ACommand) → map (shape_of_command B) cs ≡ map (shape_of_command B2) ds →
      shape_of_command B (held_apart cs) ≡ shape_of_command B2 (held_apart ds)
  apart_same [] [] same = refl
  apart_same [] (d ∷ ds) same = absurd cc
  apart_same (c ∷ cs) [] same = absurd cc
  apart_same (c ∷ cs) (d ∷ ds) same = cc

  -- forms of the same shape make compound commands of the same shape, without redirections
  forms_same : (f k : AForm) (s z : Span) → shape_of_form B f ≡ shape_of_form B2 k →
      map (shape_of_command B) (compound (formed f s no_item) ∷ [])
      ≡ map (shape_of_command B2) (compound (formed k z no_item) ∷ [])
  forms_same f k s z is = rw is refl

  -- a compound command is read with the same shape in both texts, from its opener on
  pub compound_same : (c : Opener) → Goes2 (SameCommand B B2) (a_compound inner c) (a_compound inner c)
  unfolding a_compound
  compound_same c =
      then (reserved_or_paren_same _ (is_open_paren c) _) (λ x y so. then (form_same c x.1 y.1 so)
      (λ f k is. then (pushes {S = λ cs ds. map (shape_of_command B) cs ≡ map (shape_of_command B2) ds}
      (forms_same f.what k.what (through x.0 f.closer) (through y.0 k.closer) is.0))
      (λ cs ds all. gives (apart_same cs ds all, is.1))))

  -- ---- functions

  -- A compound command of the same shape under a name of the same text.

  -- nothing but a compound command is put under a name
  under_same : (name new : Span) (cs ds : Row Span) (c d : ACommand) → text_at B name ≡ text_at B2 new →
      SameComments B B2 cs ds → shape_of_command B c ≡ shape_of_command B2 d
      → shape_of_command B (under_name name cs c) ≡ shape_of_command B2 (under_name new ds d)
  under_same name new cs ds (compound b) (compound e) one two same = let body : shape_of_compound B b
      ≡ shape_of_compound B2 e = cc in rw (one, two, body) refl
  under_same name new cs ds (simple is) (simple js) one two same = same
  under_same name new cs ds (function f es b) (function k fs e) one two same = same
  under_same name new cs ds (compound b) (simple js) one two same = absurd cc
  under_same name new cs ds (compound b) (function k fs e) one two same = absurd cc
  under_same name new cs ds (simple is) (compound e) one two same = absurd cc
  under_same name new cs ds (simple is) (function k fs e) one two same = absurd cc
  under_same name new cs ds (function f es b) (compound e) one two same = absurd cc
  under_same name new cs ds (function f es b) (simple js) one two same = absurd cc

  -- a function is read with the same shape in both texts, if its name has the same text
  pub function_same : (name new : Span) → text_at B name ≡ text_at B2 new →
      Goes2 (SameCommand B B2) (a_function inner name) (a_function inner new)
  unfolding a_function
  function_same name new same =
      then (reserved_or_paren_same _ true Command)
      (λ x y so. then (closing_same closings.Paren x.1 y.1 so) (λ c d one. then (linebreak_same [] [] c.1 d.1 refl one)
      (λ l k two. then (at_same the_body the_body (λ n. compound_by_same fine n (opener_of n.token)) l.next k.next
      two.1.1)
      (λ b e three. gives (
        under_same name new l.join.comments k.join.comments b.0 e.0 same two.1.0 three.0,
        three.1,
      )))))
    where
      the_body : Next → Form (ACommand × Next)
      the_body n = compound_by inner n (opener_of n.token)
