-- Lists and what holds them go the same way with their tree and without: compound commands, functions,
-- substitutions and lines; so do all that may be opened, by how many more may be.
use Rattle.std.proofs.Common.{◌≡◌, ℕ, zero, suc, Bool, true, false, not, ◌&&◌, ◌||◌, List as Row, [], Option, Some, None, is_some, refl, ap, subst}
use Rattle.shgrammar.specs.declared.token.Closing.{Closing}
use Rattle.shgrammar.specs.declared.token.Closing.TheVariants as closings
use Rattle.shgrammar.specs.declared.token.Next.{Next}
use Rattle.shgrammar.specs.declared.token.Opener.{Opener}
use Rattle.shgrammar.specs.declared.token.Opener.TheVariants as openers
use Rattle.shgrammar.specs.declared.token.Position.{Position}
use Rattle.shgrammar.specs.declared.token.Position.TheVariants.{Suffix}
use Rattle.shast.specs.declared.tree.Span.{Span}
use Rattle.shast.specs.Tree.{ASubst, AWord}
use Rattle.shgrammar.specs.Sights.{Given}
use Rattle.shgrammar.specs.Form.{Spelled, give, ◌>>=◌, step_if}
use Rattle.shgrammar.specs.Words.{Inner}
use Rattle.shgrammar.specs.Levels.{level}
use Rattle.shgrammar.specs.Tokens.{is_end}
use Rattle.shgrammar.specs.Commands.{is_newline_token, a_semicolon, is_pipe, begins_word, begins_pipeline, opener_of, compound_by, ItemsSoFar, items_so_far, a_newline, unexpected, is_word, is_paren, ends_item, falls_through}
use Rattle.shgrammar.specs.Lines.{end_of_line, an_open_line, a_line}
use Rattle.shgrammar.specs.Lists.{Listed, ListSoFar, list_so_far, none_listed, with_command, next_line, one_entry, entry_turn, remark_by, a_remark, on_line, list_turn, a_list}
use Rattle.shgrammar.specs.Compounds.{is_closing, is_open_paren, is_close_paren, reserved_or_paren, closing, Closed, closed, a_branch, BranchesSoFar, branches_so_far, elif_turn, an_else, an_if, a_loop, a_group, a_for_name, a_sequential_sep, Headed, word_turn, for_words, a_for_head, a_for, a_form, a_compound, a_function, a_case_word, begins_pattern, PatternsSoFar, a_pattern, one_pattern, pattern_turn, a_pattern_list, an_open_bracket, a_body, ItemEnd, an_ender, an_item_end, CasesSoFar, cases_so_far, one_case, case_turn, a_case_head, a_case}
use Rattle.shgrammar.specs.Substitutions.{substitution_list, a_substitution, one_substitution}
use Rattle.shgrammar.proofs.Alike.{SameEnd, SameStep, All, Alike, alike_give, alike_push, alike_move, alike_stop, alike_then, alike_see, alike_on, alike_pushed, alike_pick, alike_at, alike_token, alike_ending, alike_change, alike_level_of, alike_inside, alike_many}
use Rattle.shgrammar.proofs.AlikeCommands.{SameNext, SameItems, SameJoin, InnerAlike, alike_contents, alike_word, alike_unexpected, alike_item, alike_compound_by, alike_entry, alike_mark, alike_place, alike_next, alike_comment, alike_newline, alike_nothing_waits, alike_semicolon, alike_linebreak}

module _ {g : Given} {inner : Inner} (fits : InnerAlike g inner) where
  -- ---- lists

  -- Both lists have a command so far, or none has, and the same token comes after them.

  abbrev SameList : ListSoFar → ListSoFar → Type 0
  SameList l m = (l.list.commands ≡ m.list.commands) × (l.next ≡ m.next)

  -- by the same test the turns of two lists go on, or both end
  same_step : (p : Bool) (l m : ListSoFar) → SameList l m → SameStep SameList (step_if p l) (step_if p m)
  same_step true l m same = same
  same_step false l m same = same

  -- one more entry goes the same way, and so does a comment that stands for itself
  alike_one_entry : (l m : ListSoFar) → SameList l m →
      Alike g (SameStep SameList) (one_entry inner l) (one_entry inner m)
  unfolding one_entry
  alike_one_entry l m same =
      rw (← same.1) (alike_then (alike_entry fits _ _ l.next)
      (λ e f so. alike_pushed (alike_give
      (rw (← so.0) (same_step (is_some e.parted) (list_so_far (with_command l.list _ e.parted) e.next)
      (list_so_far (with_command m.list _ e.parted) f.next) (refl, so.1))))))

  alike_entry_turn : (l m : ListSoFar) → SameList l m →
      Alike g (SameStep SameList) (entry_turn inner l) (entry_turn inner m)
  unfolding entry_turn
  alike_entry_turn l m same = alike_pick _ _ (ap (λ (n : Next). begins_pipeline n.token) same.1)
      (alike_one_entry l m same) (alike_give same)

  alike_remark_by : (l m : ListSoFar) (x : Option Span × Next) → l.list.commands ≡ m.list.commands →
      Alike g SameList (remark_by l x) (remark_by m x)
  alike_remark_by l m (Some c, n) same = alike_pushed (alike_give (same, refl))
  alike_remark_by l m (None, n) same = alike_give (same, refl)

  alike_remark : (l m : ListSoFar) → SameList l m → Alike g SameList (a_remark l) (a_remark m)
  unfolding a_remark
  alike_remark l m same = alike_then (alike_comment l.next m.next same.1)
      (λ x y so. rw (← so) (alike_remark_by l m x same.0))

  -- all of one line goes the same way
  alike_on_line : (l m : ListSoFar) → SameList l m → Alike g SameList (on_line inner l) (on_line inner m)
  unfolding on_line
  alike_on_line l m same = alike_then
      (alike_many SameList (entry_turn inner) (entry_turn inner) alike_entry_turn l m same)
      (λ j k so. alike_remark j k so)

  -- both lists go on where a newline ended the line, or both end
  line_steps : (x y : Bool × Next) → x ≡ y → (l m : Listed) → l.commands ≡ m.commands →
      SameStep SameList (step_if x.0 (list_so_far (next_line l) x.1)) (step_if y.0 (list_so_far (next_line m) y.1))
  line_steps x y is l m same =
      subst (λ (z : Bool × Next). SameStep SameList (step_if x.0 (list_so_far (next_line l) x.1))
      (step_if z.0 (list_so_far (next_line m) z.1))) is
      (same_step x.0 (list_so_far (next_line l) x.1) (list_so_far (next_line m) x.1) (same, refl))

  -- one more line goes the same way, and so does a whole list
  alike_list_turn : (l m : ListSoFar) → SameList l m →
      Alike g (SameStep SameList) (list_turn inner l) (list_turn inner m)
  unfolding list_turn
  alike_list_turn l m same =
      alike_then (alike_on_line l m same)
      (λ j k so. alike_then (alike_at a_newline alike_newline j.next k.next so.1)
      (λ x y is. alike_give (line_steps x y is j.list k.list so.0)))

  alike_list : (n : Next) → Alike g SameNext (a_list inner n) (a_list inner n)
  unfolding a_list
  alike_list n =
      alike_then (alike_many SameList (list_turn inner) (list_turn inner) alike_list_turn
      (list_so_far (none_listed false) n) (list_so_far (none_listed false) n) (refl, refl))
      (λ l m same. alike_pick _ _ same.0 (alike_give same.1)
      (alike_at (unexpected inner) (alike_unexpected fits) l.next m.next same.1))

  -- ---- compound commands

  -- Each row hands on the same token, with its tree and without.

  -- a reserved word or a round bracket goes the same way, and so does what has to stand here
  alike_reserved_or_paren : (text : Spelled) (paren : Bool) (position : Position) →
      Alike g (λ x y. x ≡ y) (reserved_or_paren text paren position) (reserved_or_paren text paren position)
  unfolding reserved_or_paren
  alike_reserved_or_paren text paren position =
      alike_then alike_place (λ x y so. rw (← so)
      (alike_then (alike_next _) (λ m k same. alike_give (ap (λ z. (x.1, z)) same))))

  alike_closing : (c : Closing) (n : Next) → Alike g (λ x y. x ≡ y) (closing inner c n) (closing inner c n)
  unfolding closing
  alike_closing c n = alike_pick (is_closing c n.token) _ refl (alike_reserved_or_paren _ (is_close_paren c) _)
      (alike_unexpected fits n)

  -- the same token comes after two closers; what closes goes the same way, whatever it closes
  abbrev SameClosed : {X : Type 0} → Closed X → Closed X → Type 0
  SameClosed x y = x.next ≡ y.next

  alike_closed : {X : Type 0} (a b : X) (c : Closing) (n m : Next) → n ≡ m →
      Alike g SameClosed (closing inner c n >>= λ x. give (closed a x)) (closing inner c m >>= λ x. give (closed b x))
  alike_closed a b c n m same =
      alike_then (alike_at (closing inner c) (alike_closing c) n m same)
      (λ x y so. alike_give (ap (λ (z : Span × Next). z.1) so))

  -- a condition with what it runs goes the same way
  alike_branch : (n : Next) → Alike g SameNext (a_branch inner n) (a_branch inner n)
  unfolding a_branch
  alike_branch n =
      alike_then (alike_list n) (λ c d same. alike_then
      (alike_at (closing inner closings.Then) (alike_closing closings.Then) c.1 d.1 same)
      (λ t u so. alike_then (alike_at (a_list inner) alike_list t.1 u.1 (ap (λ (z : Span × Next). z.1) so))
      (λ b e so'. alike_give so')))

  -- the same token comes after the branches so far; one more after an `elif`, or none, goes the same way
  abbrev SameBranches : BranchesSoFar → BranchesSoFar → Type 0
  SameBranches b c = b.next ≡ c.next

  alike_elif : (b c : BranchesSoFar) → SameBranches b c →
      Alike g (SameStep SameBranches) (elif_turn inner b) (elif_turn inner c)
  unfolding elif_turn
  alike_elif b c same =
      alike_pick _ _ (ap (λ (n : Next). is_closing closings.Elif n.token) same)
      (alike_then (alike_reserved_or_paren _ false _)
      (λ k m so. alike_then (alike_at (a_branch inner) alike_branch k.1 m.1 (ap (λ (z : Span × Next). z.1) so))
      (λ x y so'. alike_pushed (alike_give so'))))
      (alike_give same)

  -- what stands after `else` goes the same way, or nothing, and so does a whole `if`
  alike_else : (n : Next) → Alike g SameNext (an_else inner n) (an_else inner n)
  unfolding an_else
  alike_else n =
      alike_pick (is_closing closings.Else n.token) _ refl
      (alike_then (alike_reserved_or_paren _ false _)
      (λ k m so. alike_then (alike_at (a_list inner) alike_list k.1 m.1 (ap (λ (z : Span × Next). z.1) so))
      (λ x y so'. alike_give so')))
      (alike_give refl)

  alike_if : (n : Next) → Alike g SameClosed (an_if inner n) (an_if inner n)
  unfolding an_if
  alike_if n =
      alike_then (alike_branch n) (λ f g same. alike_then
      (alike_many SameBranches (elif_turn inner) (elif_turn inner) alike_elif (branches_so_far [] f.1)
      (branches_so_far [] g.1) same)
      (λ b c so. alike_then (alike_at (an_else inner) alike_else b.next c.next so)
      (λ e d so'. alike_closed _ _ closings.Fi e.1 d.1 so')))

  -- a loop goes the same way, and so does a list with what closes it
  alike_loop : (n : Next) → Alike g SameClosed (a_loop inner n) (a_loop inner n)
  unfolding a_loop
  alike_loop n =
      alike_then (alike_list n) (λ c d same. alike_then
      (alike_at (closing inner closings.Do) (alike_closing closings.Do) c.1 d.1 same)
      (λ t u so. alike_then (alike_at (a_list inner) alike_list t.1 u.1 (ap (λ (z : Span × Next). z.1) so))
      (λ b e so'. alike_closed _ _ closings.Done b.1 e.1 so')))

  alike_group : (c : Closing) (n : Next) → Alike g SameClosed (a_group inner c n) (a_group inner c n)
  unfolding a_group
  alike_group c n = alike_then (alike_list n) (λ l m same. alike_closed _ _ c l.1 m.1 same)

  -- the name of a `for` goes the same way
  alike_for_name : (n : Next) → Alike g SameNext (a_for_name inner n) (a_for_name inner n)
  unfolding a_for_name
  alike_for_name n =
      alike_pick (begins_word n.token) _ refl
      (alike_see (λ p. alike_see (λ good. alike_then (alike_word fits)
      (λ w v so. alike_pick good _ refl (alike_then (alike_next _) (λ m k same. alike_give same)) alike_stop))))
      (alike_unexpected fits n)

  -- a `;` or a newline goes the same way, with newlines and comments after it
  alike_sequential_sep : (cs ds : Row Span) (n m : Next) → n ≡ m →
      Alike g SameJoin (a_sequential_sep inner cs n) (a_sequential_sep inner ds m)
  unfolding a_sequential_sep
  alike_sequential_sep cs ds n m same =
      alike_then (alike_at a_semicolon alike_semicolon n m same)
      (λ s z so. rw (← so) (alike_then (alike_linebreak cs ds s.1 s.1 refl)
      (λ l k is. alike_pick _ _ (ap (λ b. s.0 || b) is.0) (alike_give is)
      (alike_at (unexpected inner) (alike_unexpected fits) l.next k.next is.1))))

  -- what stands between the name of a `for` and its `do` goes the same way, and so does a whole `for`
  abbrev SameHead : Headed → Headed → Type 0
  SameHead h k = h.next ≡ k.next

  alike_word_turn : (i j : ItemsSoFar) → SameItems i j →
      Alike g (SameStep SameItems) (word_turn inner i) (word_turn inner j)
  unfolding word_turn
  alike_word_turn i j same = alike_pick _ _ (ap (λ (n : Next). is_word n.token) same.1) (alike_item fits i j Suffix)
      (alike_give same)

  alike_for_words : (cs ds : Row Span) → Alike g SameHead (for_words inner cs) (for_words inner ds)
  unfolding for_words
  alike_for_words cs ds =
      alike_then (alike_reserved_or_paren _ false _)
      (λ i j so. alike_then (alike_many SameItems (word_turn inner) (word_turn inner) alike_word_turn
      (items_so_far [] Suffix i.1) (items_so_far [] Suffix j.1) (refl, ap (λ (z : Span × Next). z.1) so))
      (λ ws vs same. alike_then (alike_sequential_sep cs ds ws.next vs.next same.1) (λ l k is. alike_give is.1)))

  alike_for_head : (n : Next) → Alike g SameHead (a_for_head inner n) (a_for_head inner n)
  unfolding a_for_head
  alike_for_head n =
      alike_then (alike_semicolon n) (λ s z so. rw (← so) (alike_then (alike_linebreak [] [] s.1 s.1 refl)
      (λ l k is. alike_pick _ _ (ap (λ (m : Next). not s.0 && is_closing closings.In m.token) is.1)
      (alike_for_words l.join.comments k.join.comments) (alike_give is.1))))

  alike_for : (n : Next) → Alike g SameClosed (a_for inner n) (a_for inner n)
  unfolding a_for
  alike_for n =
      alike_then (alike_for_name n) (λ x y same. alike_then (alike_at (a_for_head inner) alike_for_head x.1 y.1 same)
      (λ h k so. alike_then (alike_at (closing inner closings.Do) (alike_closing closings.Do) h.next k.next so)
      (λ d e so'. alike_then (alike_at (a_group inner closings.Done) (alike_group closings.Done) d.1 e.1
      (ap (λ (z : Span × Next). z.1) so')) (λ b c so''. alike_give so''))))

  -- the word of a `case` goes the same way
  alike_case_word : (n : Next) → Alike g SameNext (a_case_word inner n) (a_case_word inner n)
  unfolding a_case_word
  alike_case_word n = alike_pick (begins_word n.token) _ refl
      (alike_then (alike_word fits) (λ w v so. alike_then (alike_next _) (λ m k same. alike_give same)))
      (alike_unexpected fits n)

  -- the same token comes after the patterns of an item so far; one more goes the same way, and so
  -- do all of them
  abbrev SamePatterns : PatternsSoFar → PatternsSoFar → Type 0
  SamePatterns p q = p.next ≡ q.next

  alike_pattern : (ws vs : Row AWord) → Alike g SamePatterns (a_pattern inner ws) (a_pattern inner vs)
  unfolding a_pattern
  alike_pattern ws vs = alike_then (alike_word fits)
      (λ w v so. alike_pushed (alike_then (alike_next _) (λ n m same. alike_give same)))

  alike_one_pattern : (ws vs : Row AWord) →
      Alike g (SameStep SamePatterns) (one_pattern inner ws) (one_pattern inner vs)
  unfolding one_pattern
  alike_one_pattern ws vs =
      alike_then alike_mark (λ x y all. alike_then (alike_next _) (λ n m same. rw (← same)
      (alike_pick (begins_word n.token) _ refl (alike_then (alike_pattern ws vs) (λ p q so. alike_give so))
      (alike_unexpected fits n))))

  alike_pattern_turn : (p q : PatternsSoFar) → SamePatterns p q →
      Alike g (SameStep SamePatterns) (pattern_turn inner p) (pattern_turn inner q)
  unfolding pattern_turn
  alike_pattern_turn p q same =
      alike_pick _ _ (ap (λ (n : Next). is_pipe n.token) same) (alike_one_pattern p.patterns q.patterns)
      (alike_give same)

  alike_patterns : (n : Next) → Alike g SamePatterns (a_pattern_list inner n) (a_pattern_list inner n)
  unfolding a_pattern_list
  alike_patterns n =
      alike_pick (begins_pattern n.token) _ refl
      (alike_then (alike_pattern [] [])
      (λ p q so. alike_many SamePatterns (pattern_turn inner) (pattern_turn inner) alike_pattern_turn p q so))
      (alike_unexpected fits n)

  -- the `(` before the patterns goes the same way, or none, and so does the list of an item
  alike_bracket : (n : Next) → Alike g (λ m k. m ≡ k) (an_open_bracket n) (an_open_bracket n)
  unfolding an_open_bracket
  alike_bracket n = alike_pick (is_paren n.token) _ refl (alike_on (alike_next _)) (alike_give refl)

  alike_body : (n : Next) → Alike g SameList (a_body inner n) (a_body inner n)
  unfolding a_body
  alike_body n = alike_many SameList (list_turn inner) (list_turn inner) alike_list_turn
      (list_so_far (none_listed false) n) (list_so_far (none_listed false) n) (refl, refl)

  -- the same token comes after the ends of two items; the end goes the same way, by `;;` or
  -- `;&` or before `esac`
  abbrev SameItemEnd : ItemEnd → ItemEnd → Type 0
  SameItemEnd e f = e.next ≡ f.next

  alike_ender : (b : Bool) → Alike g SameItemEnd (an_ender b) (an_ender b)
  unfolding an_ender
  alike_ender b =
      alike_then (alike_token {S = λ x y. x ≡ y} {R = λ x y. Unit {0}} (alike_on (alike_move refl)) (λ x y z so. tt))
      (λ x y any. (alike_see (λ p. alike_then (alike_next _)
      (λ n m same. alike_then (alike_linebreak [] [] n m same) (λ l k is. alike_give is.1)))))

  alike_item_end : (p q : ℕ) (n m : Next) → n ≡ m → Alike g SameItemEnd (an_item_end inner p n) (an_item_end inner q m)
  unfolding an_item_end
  alike_item_end p q n m same =
      rw (← same) (alike_pick (ends_item n.token) _ refl (alike_ender (falls_through n.token))
      (alike_pick (is_closing closings.Esac n.token) _ refl (alike_give refl) (alike_unexpected fits n)))

  -- the same token comes after the items of a `case` so far; one more goes the same way, or none
  abbrev SameCases : CasesSoFar → CasesSoFar → Type 0
  SameCases c d = c.next ≡ d.next

  alike_one_case : (c d : CasesSoFar) → SameCases c d →
      Alike g (SameStep SameCases) (one_case inner c) (one_case inner d)
  unfolding one_case
  alike_one_case c d same =
      alike_see (λ p. alike_then (alike_at an_open_bracket alike_bracket c.next d.next same)
      (λ n m is. alike_then (alike_at (a_pattern_list inner) alike_patterns n m is)
      (λ ps qs so. alike_then (alike_at (closing inner closings.Paren)
      (alike_closing closings.Paren) ps.next qs.next so)
      (λ k j so'. alike_then (alike_at (a_body inner) alike_body k.1 j.1 (ap (λ (z : Span × Next). z.1) so'))
      (λ b e both. alike_then (alike_item_end _ _ b.next e.next both.1)
      (λ f h last. alike_pushed (alike_give last)))))))

  alike_case_turn : (c d : CasesSoFar) → SameCases c d →
      Alike g (SameStep SameCases) (case_turn inner c) (case_turn inner d)
  unfolding case_turn
  alike_case_turn c d same = alike_pick _ _ (ap (λ (n : Next). is_closing closings.Esac n.token) same)
      (alike_give same) (alike_one_case c d same)

  -- what stands between `case` and its items goes the same way, and so does a whole `case`
  abbrev SameCaseHead : AWord × Row Span × Next → AWord × Row Span × Next → Type 0
  SameCaseHead h k = h.2 ≡ k.2

  alike_case_head : (n : Next) → Alike g SameCaseHead (a_case_head inner n) (a_case_head inner n)
  unfolding a_case_head
  alike_case_head n =
      alike_then (alike_case_word n) (λ w v same. alike_then (alike_linebreak [] [] w.1 v.1 same)
      (λ l k is. alike_then (alike_at (closing inner closings.In) (alike_closing closings.In) l.next k.next is.1)
      (λ i j so. alike_then (alike_linebreak l.join.comments k.join.comments i.1 j.1
      (ap (λ (z : Span × Next). z.1) so)) (λ h z last. alike_give last.1))))

  alike_case : (n : Next) → Alike g SameClosed (a_case inner n) (a_case inner n)
  unfolding a_case
  alike_case n =
      alike_then (alike_case_head n)
      (λ h k same. alike_then (alike_many SameCases (case_turn inner) (case_turn inner) alike_case_turn
      (cases_so_far [] h.1 h.2) (cases_so_far [] k.1 k.2) same)
      (λ c d so. alike_closed _ _ closings.Esac c.next d.next so))

  -- a compound command goes the same way by its opener: after it, and from it on
  alike_form : (o : Opener) (n : Next) → Alike g SameClosed (a_form inner o n) (a_form inner o n)
  alike_form openers.Brace n = alike_then (alike_group closings.Brace n) (λ l m same. alike_give same)
  alike_form openers.Paren n = alike_then (alike_group closings.Paren n) (λ l m same. alike_give same)
  alike_form openers.If n = alike_if n
  alike_form openers.While n = alike_then (alike_loop n) (λ l m same. alike_give same)
  alike_form openers.Until n = alike_then (alike_loop n) (λ l m same. alike_give same)
  alike_form openers.For n = alike_for n
  alike_form openers.Case n = alike_case n

  pub alike_compound : (o : Opener) → Alike g SameNext (a_compound inner o) (a_compound inner o)
  unfolding a_compound
  alike_compound o =
      alike_then (alike_reserved_or_paren _ (is_open_paren o) _)
      (λ x y so. alike_then (alike_at (a_form inner o) (alike_form o) x.1 y.1 (ap (λ (z : Span × Next). z.1) so))
      (λ f g same. alike_pushed (alike_give same)))

  -- ---- substitutions

  -- what stands in a command substitution goes the same way, and so does one more substitution after others
  alike_substitution_list : Alike g All (substitution_list inner) (substitution_list inner)
  unfolding substitution_list
  alike_substitution_list =
      alike_then (alike_next _) (λ n m same. alike_then
      (alike_many SameList (list_turn inner) (list_turn inner) alike_list_turn (list_so_far (none_listed false) n)
      (list_so_far (none_listed false) m) (refl, same))
      (λ l k so. alike_pick _ _ (ap (λ (x : Next). is_closing closings.Paren x.token) so.1)
      (alike_then alike_nothing_waits (λ u v so. alike_on (alike_give tt)))
      (alike_at (unexpected inner) (alike_unexpected fits) l.next k.next so.1)))

  pub alike_substitution : (b : ℕ) (ss zs : Row ASubst) →
      Alike g All (a_substitution inner b ss) (a_substitution inner b zs)
  unfolding a_substitution one_substitution
  alike_substitution b ss zs = alike_inside
      (alike_then (alike_level_of {S = All} {R = All} (alike_ending alike_substitution_list) (λ a b k so. tt))
      (λ x y so. alike_see (λ q. alike_push tt)))

  -- a function goes the same way, from just after its name on
  pub alike_function : (name : Span) → Alike g SameNext (a_function inner name) (a_function inner name)
  unfolding a_function
  alike_function name =
      alike_then (alike_reserved_or_paren _ true _)
      (λ o p so. alike_then (alike_at (closing inner closings.Paren) (alike_closing closings.Paren) o.1 p.1
      (ap (λ (z : Span × Next). z.1) so))
      (λ c d so'. alike_then (alike_linebreak [] [] c.1 d.1 (ap (λ (z : Span × Next). z.1) so'))
      (λ l k is. alike_then (alike_at (λ n. compound_by inner n (opener_of n.token))
      (λ n. alike_compound_by fits n (opener_of n.token)) l.next k.next is.1) (λ b e same. alike_give same))))

  -- ---- lines

  -- a newline ends both lines, or none does
  alike_end : (n : Next) → Alike g (λ x y. x ≡ y) (end_of_line inner n) (end_of_line inner n)
  unfolding end_of_line
  alike_end n = alike_pick (is_newline_token n.token) _ refl
      (alike_on (alike_then {S = All} (alike_change tt) (λ u v so. alike_give refl)))
      (alike_pick (is_end n.token) _ refl (alike_then alike_nothing_waits (λ u v so. alike_give refl))
      (alike_unexpected fits n))

  -- a line of a script goes the same way, whether its first entry is told to be blank or not
  alike_open_line : (blank pale : Bool) → Alike g SameEnd (an_open_line inner blank) (an_open_line inner pale)
  unfolding an_open_line
  alike_open_line blank pale =
      alike_then (alike_next _) (λ n m same. alike_then
      (alike_on_line (list_so_far (none_listed blank) n) (list_so_far (none_listed pale) m) (refl, same))
      (λ j i so. alike_then (alike_at (end_of_line inner) alike_end j.next i.next so.1) (λ x y so'. alike_give so')))

  pub alike_line : (blank pale : Bool) → Alike g SameEnd (a_line inner blank) (a_line inner pale)
  unfolding a_line
  alike_line blank pale = alike_then
      (alike_level_of {S = SameEnd} {R = λ x y. SameEnd x.0 y.0} (alike_open_line blank pale) (λ a b k so. so))
      (λ x y so. alike_give so)

-- what may be opened goes the same way, words within words and commands within commands
pub alike_level : (g : Given) (room : ℕ) → InnerAlike g (level room)
unfolding level
alike_level g zero = record {
  construct = λ mode b ss zs. alike_stop;
  substitution = λ b ss zs. alike_stop;
  compound = λ o. alike_see (λ p. alike_stop);
  function = λ name. alike_stop;
}
alike_level g (suc room) =
    record {
      construct = λ mode b ss zs. alike_contents (alike_level g room) mode b ss zs;
      substitution = λ b ss zs. alike_substitution (alike_level g room) b ss zs;
      compound = λ o. alike_compound (alike_level g room) o;
      function = λ name. alike_function (alike_level g room) name;
    }
