-- The tokens passed where a list is read are those that its shape spells: lists, compound commands,
-- functions, lines and scripts.
use Rattle.std.proofs.Common.{◌≡◌, ◌∙◌, refl, sym, ap, ℕ, zero, suc, Bool, true, false, not, ◌&&◌, ◌||◌, Ok, List, List as Row, [], ◌∷◌, ◌++◌, drop, codes, Option, Some, None, is_some}
use Rattle.std.proofs.lemmas.List.{append-nil, append_assoc}
use Rattle.shgrammar.specs.declared.token.Closing.{Closing}
use Rattle.shgrammar.specs.declared.token.Closing.TheVariants as closings
use Rattle.shgrammar.specs.declared.token.Next.{Next}
use Rattle.shgrammar.specs.declared.token.Opener.{Opener}
use Rattle.shgrammar.specs.declared.token.Opener.TheVariants as openers
use Rattle.shgrammar.specs.declared.token.Position.{Position}
use Rattle.shgrammar.specs.declared.token.Position.TheVariants.{Command, Suffix}
use Rattle.shast.specs.declared.tree.Span.{Span}
use Rattle.shast.specs.Tree.{ABranch, branches_of, AnEntry, AWord, Entries, entry, remark, entries_of, ACommand, compound, ACompound, ACaseItem, cases_of, PatternsOf, no_pattern, more_patterns, patterns_of}
use Rattle.shast.specs.Shape.{text_at, shape_of, shape_of_entry, shape_of_command, shape_of_form, shape_of_branch, shape_of_branches, shape_of_else, shape_of_for_words, shape_of_word, shape_of_patterns, shape_of_cases, shape_of_case, Shape}
use Rattle.shast.specs.Spelling.{Tokens, spell_word, spelling, spell_entry, spell_command, spell_form, spell_branch, spell_branches, spell_else, spell_loop, spell_for_words, spell_patterns, spell_first_pattern, spell_cases, spell_case, spell_falls}
use Rattle.shgrammar.specs.Sights.{Given, given, State, standing}
use Rattle.shgrammar.specs.Form.{Spelled, step_if, give, may}
use Rattle.shgrammar.specs.Words.{Inner}
use Rattle.shgrammar.specs.Commands.{pick, is_newline_token, is_pipe, begins_word, begins_pipeline, opener_of, ItemsSoFar, items_so_far, none_waits, nothing_waits, unexpected, is_word, ends_item, falls_through, is_double_semicolon}
use Rattle.shgrammar.specs.Lists.{ListSoFar, list_so_far, none_listed, is_blank_next, one_entry, entry_turn, remark_by, a_remark, on_line, list_turn, a_list}
use Rattle.shgrammar.specs.Compounds.{BranchesSoFar, branches_so_far, is_closing, opener_text, closing_text, reserved_or_paren, closing, a_group, a_branch, elif_turn, an_else, an_if, a_loop, a_for_name, a_sequential_sep, Headed, word_turn, for_words, a_for_head, after_remarks, a_for, a_form, a_compound, a_function, under_name, a_case_word, begins_pattern, PatternsSoFar, a_pattern, one_pattern, pattern_turn, a_pattern_list, a_body, an_ender, an_item_end, CasesSoFar, cases_so_far, one_case, case_turn, a_case_head, a_case, item_end}
use Rattle.shgrammar.specs.Levels.{most_open, level}
use Rattle.shgrammar.specs.Tokens.{is_end}
use Rattle.shgrammar.specs.Lines.{an_open_line, a_line, end_of_line}
use Rattle.shgrammar.specs.HereDocuments.{own_level}
use Rattle.shast.specs.Bodies.{filled_row}
use Rattle.shast.proofs.Going.{row_filled}
use Rattle.shast.proofs.FilledShape.{shape_filled}
use Rattle.shast.proofs.OpenSame.{filled_spelling}
use Rattle.shgrammar.specs.Scripts.{AScript, LinesSoFar, Lines, line_ended, last_line, faulty, Passes, nothing_yet}
use Rattle.shgrammar.specs.declared.edition.Edition.{Edition}
use Rattle.shgrammar.specs.declared.token.Token.{Token}
use Rattle.std.proofs.lemmas.Bool.{or_parts}
use Rattle.shgrammar.proofs.Spelling.{Passing, held_if, pass_give, pass_stop, pass_so, pass_then, Silent, pass_on, pass_last, pass_see, pass_move, pass_pushed, pass_in_level, pass_change, OneText, pass_text, pass_pick, Grows, grows_none, pass_many, silent_next, silent_comment, silent_newline, silent_semicolon, silent_linebreak, silent_bracket, pass_ender, pass_unexpected, pass_word}
use Rattle.shgrammar.proofs.SpelledCommands.{append_between, Spells, spelled_items, IsBare, InnerSpells, pass_item, pass_compound_by, pass_entry}

-- ---- rows that grow at their end

module _ (B : List ℕ) where
  -- with one more at its end a row spells what it spelled, and then that
  branches_last : (bs : Row ABranch) (b : ABranch) →
      spell_branches (shape_of_branches B (branches_of (bs ++ b ∷ [])))
      ≡ spell_branches (shape_of_branches B (branches_of bs)) ++ (codes "elif" ∷ spell_branch (shape_of_branch B b))
  branches_last [] b = ap (λ z. codes "elif" ∷ z) (append-nil _)
  branches_last (c ∷ bs) b = append_between (codes "elif" ∷ spell_branch (shape_of_branch B c)) _
      (spell_branches (shape_of_branches B (branches_of bs))) (codes "elif" ∷ spell_branch (shape_of_branch B b))
      (branches_last bs b)

  entries_joined : (es ls : Row AnEntry) →
      spelling (shape_of B (entries_of (es ++ ls))) ≡ spelling (shape_of B (entries_of es))
      ++ spelling (shape_of B (entries_of ls))
  entries_joined [] ls = refl
  entries_joined (e ∷ es) ls = append_between (spell_entry (shape_of_entry B e)) _
      (spelling (shape_of B (entries_of es)))
      (spelling (shape_of B (entries_of ls))) (entries_joined es ls)

  entries_last : (es : Row AnEntry) (e : AnEntry) →
      spelling (shape_of B (entries_of (es ++ e ∷ []))) ≡ spelling (shape_of B (entries_of es))
      ++ spell_entry (shape_of_entry B e)
  entries_last es e = entries_joined es (e ∷ []) ∙ ap (λ z. spelling (shape_of B (entries_of es)) ++ z) (append-nil _)

  patterns_last : (ws : Row AWord) (w : AWord) →
      spell_patterns (shape_of_patterns B (patterns_of (ws ++ w ∷ [])))
      ≡ spell_patterns (shape_of_patterns B (patterns_of ws)) ++ (codes "|" ∷ spell_word (shape_of_word B w))
  patterns_last [] w = ap (λ z. codes "|" ∷ z) (append-nil _)
  patterns_last (v ∷ ws) w = append_between (codes "|" ∷ spell_word (shape_of_word B v)) _
      (spell_patterns (shape_of_patterns B (patterns_of ws))) (codes "|" ∷ spell_word (shape_of_word B w))
      (patterns_last ws w)

  -- no `|` stands before the first pattern
  first_spelled : (x : Shape PatternsOf) (k : Tokens) → spell_patterns x ≡ codes "|" ∷ k → spell_first_pattern x ≡ k
  first_spelled no_pattern k e = absurd cc
  first_spelled (more_patterns w ws) k e = ap (drop 1) e

  -- with one more item of a `case` its items spell what they spelled, and then that
  cases_last : (cs : Row ACaseItem) (c : ACaseItem) →
      spell_cases (shape_of_cases B (cases_of (cs ++ c ∷ []))) ≡ spell_cases (shape_of_cases B (cases_of cs))
      ++ spell_case (shape_of_case B c)
  cases_last [] c = append-nil _
  cases_last (d ∷ cs) c = append_between (spell_case (shape_of_case B d)) _
      (spell_cases (shape_of_cases B (cases_of cs)))
      (spell_case (shape_of_case B c)) (cases_last cs c)

  -- a comment is no token
  remarks_spelled : (cs : Row Span) (es : Entries) →
      spelling (shape_of B (after_remarks cs es)) ≡ spelling (shape_of B es)
  remarks_spelled [] es = refl
  remarks_spelled (c ∷ cs) es = remarks_spelled cs es

module _ {B : List ℕ} {g : Given} {stands : g.text ≡ drop g.offset B} {inner : Inner}
    (fine : InnerSpells B g stands inner) where
  -- ---- lists

  -- Each turn adds the tokens that it passes to those that the list so far spells.

  -- what the entries so far spell
  abbrev spelled_list : ListSoFar → Tokens
  spelled_list l = spelling (shape_of B (entries_of l.list.entries))

  -- a step that goes on, or ends, by a test passes what its list spells more than before
  step_grows : (l m : ListSoFar) (on : Bool) (k : Tokens) → spelled_list m ≡ spelled_list l ++ k →
      Grows g spelled_list l (step_if on m) k
  step_grows l m on k so = ap spelled_list (held_if on m) ∙ so

  -- one more entry passes what it adds, and so does one more or none
  pass_one_entry : (l : ListSoFar) (s : State) → Passing g (one_entry inner l) (Grows g spelled_list l) s
  unfolding one_entry
  pass_one_entry l s =
      pass_then g (pass_entry fine _ l.next s) (λ e t k so. pass_pushed g (λ u. pass_give g
      (step_grows l _ (is_some e.parted) _
      (entries_last B l.list.entries e.entry ∙ ap (λ z. spelled_list l ++ z) (sym so ∙ sym (append-nil k))))))

  pass_entry_turn : (l : ListSoFar) (s : State) → Passing g (entry_turn inner l) (Grows g spelled_list l) s
  unfolding entry_turn
  pass_entry_turn l s = pass_pick g (begins_pipeline l.next.token) (pass_one_entry l s)
      (pass_give g (grows_none g spelled_list l))

  -- a list spells what it spelled at l, and then the tokens passed since
  abbrev Since : ListSoFar → ListSoFar → Tokens → Type 0
  Since l m k = spelled_list m ≡ spelled_list l ++ k

  -- the comment of a line passes what it adds, and so does all that stands on one
  pass_remark : (l : ListSoFar) (s : State) → Passing g (a_remark l) (Since l) s
  unfolding a_remark
  pass_remark l s = pass_on g (silent_comment g l.next s) (λ x t. by_comment x t)
    where
      by_comment : (x : Option Span × Next) (t : State) → Passing g (remark_by l x) (Since l) t
      by_comment (Some c, n) t = pass_pushed g
          (λ u. pass_give g (entries_last B l.list.entries (entry (remark c) false (is_blank_next l.list) None)))
      by_comment (None, n) t = pass_give g (grows_none g spelled_list l)

  pass_on_line : (l : ListSoFar) (s : State) → Passing g (on_line inner l) (Since l) s
  unfolding on_line
  pass_on_line l s =
      pass_then g (pass_many g spelled_list (entry_turn inner) pass_entry_turn l s)
      (λ m t k so. pass_so g (pass_remark m t)
      (λ x j is. is ∙ ap (λ z. z ++ j) so ∙ append_assoc (spelled_list l) k j))

  -- one more line passes what it adds; a list passes what it spells
  pass_list_turn : (l : ListSoFar) (s : State) → Passing g (list_turn inner l) (Grows g spelled_list l) s
  unfolding list_turn
  pass_list_turn l s = pass_then g (pass_on_line l s)
      (λ m t k so. pass_on g (silent_newline g m.next t)
      (λ x u. pass_give g (step_grows l _ x.0 _ (so ∙ ap (λ z. spelled_list l ++ z) (sym (append-nil k))))))

  pass_list : (n : Next) (s : State) → Passing g (a_list inner n) (Spells (λ x. spelling (shape_of B x.0))) s
  unfolding a_list
  pass_list n s =
      pass_then g (pass_many g spelled_list (list_turn inner) pass_list_turn (list_so_far (none_listed false) n) s)
      (λ l t k so. pass_pick g l.list.commands (pass_give g (append-nil k ∙ sym so))
      (pass_unexpected g inner l.next t))

  -- ---- compound commands

  -- A form's opener is told before it: so each row of a form passes the rest of what its shape spells.

  -- a reserved word or a round bracket is told by its text, and so is what has to stand after a list
  pass_reserved_or_paren : (text : Spelled) (paren : Bool) (position : Position) (s : State) →
      Passing g (reserved_or_paren text paren position) (OneText g text) s
  unfolding reserved_or_paren
  pass_reserved_or_paren text paren position s =
      pass_then g (pass_text g) (λ x t k so. pass_on g (silent_next g position t)
      (λ n u. pass_give g (append-nil k ∙ so)))

  pass_closing : (c : Closing) (n : Next) (s : State) → Passing g (closing inner c n) (OneText g (closing_text c)) s
  unfolding closing
  pass_closing c n s = pass_pick g (is_closing c n.token) (pass_reserved_or_paren (closing_text c) _ _ s)
      (pass_unexpected g inner n s)

  -- a list passes what it spells with its closer, and a condition with what is run by it
  pass_group : (c : Closing) (n : Next) (s : State) →
      Passing g (a_group inner c n) (Spells (λ x. spelling (shape_of B x.what) ++ (closing_text c ∷ []))) s
  unfolding a_group
  pass_group c n s = pass_then g (pass_list n s)
      (λ l t k is. pass_last g (pass_closing c l.1 t) (λ x m so. rw (is, so) refl))

  pass_branch : (n : Next) (s : State) →
      Passing g (a_branch inner n) (Spells (λ x. spell_branch (shape_of_branch B x.0))) s
  unfolding a_branch
  pass_branch n s =
      pass_then g (pass_list n s) (λ c t k is. pass_then g (pass_closing closings.Then c.1 t)
      (λ x u l so. pass_last g (pass_list x.1 u) (λ b m other. rw (is, so, other) refl)))

  -- what the branches so far spell
  abbrev spelled_branches : BranchesSoFar → Tokens
  spelled_branches b = spell_branches (shape_of_branches B (branches_of b.branches))

  -- one more branch passes what it adds, or none; an `else` passes what it spells, or none
  pass_elif : (b : BranchesSoFar) (s : State) → Passing g (elif_turn inner b) (Grows g spelled_branches b) s
  unfolding elif_turn
  pass_elif b s =
      pass_pick g (is_closing closings.Elif b.next.token)
      (pass_then g (pass_reserved_or_paren (closing_text closings.Elif) false _ s)
      (λ x t k is. pass_then g (pass_branch x.1 t) (λ c u l so. pass_pushed g (λ v. pass_give g
      (branches_last B b.branches c.0
      ∙ ap (λ z. spelled_branches b ++ z) (rw (is, so) (ap (λ z. codes "elif" ∷ z) (sym (append-nil _)))))))))
      (pass_give g (grows_none g spelled_branches b))

  pass_else : (n : Next) (s : State) → Passing g (an_else inner n) (Spells (λ x. spell_else (shape_of_else B x.0))) s
  unfolding an_else
  pass_else n s =
      pass_pick g (is_closing closings.Else n.token)
      (pass_then g (pass_reserved_or_paren (closing_text closings.Else) false _ s)
      (λ x t k is. pass_last g (pass_list x.1 t) (λ l m so. rw (is, so) refl)))
      (pass_give g refl)

  -- after its opener, an `if` passes the rest of what it spells; a loop passes what its
  -- condition and body spell
  pass_if : (n : Next) (s : State) →
      Passing g (an_if inner n) (λ f k. codes "if" ∷ k ≡ spell_form (shape_of_form B f.what)) s
  unfolding an_if
  pass_if n s =
      pass_then g (pass_branch n s) (λ f t k1 one.
      pass_then g (pass_many g spelled_branches (elif_turn inner) pass_elif (branches_so_far [] f.1) t) (λ b u k2 two.
      pass_then g (pass_else b.next u) (λ e v k3 three.
      pass_last g (pass_closing closings.Fi e.1 v)
      (λ c k4 four. rw (one, ← two, three, four)
      (ap (λ z. codes "if" ∷ z) (sym
      (append_assoc (spell_branch (shape_of_branch B f.0) ++ spelled_branches b)
      (spell_else (shape_of_else B e.0)) (codes "fi" ∷ [])
      ∙ append_assoc (spell_branch (shape_of_branch B f.0)) (spelled_branches b)
      (spell_else (shape_of_else B e.0) ++ (codes "fi" ∷ [])))))))))

  pass_loop : (n : Next) (s : State) →
      Passing g (a_loop inner n) (Spells (λ x. spell_loop (shape_of_branch B x.what))) s
  unfolding a_loop
  pass_loop n s =
      pass_then g (pass_list n s) (λ c t k1 one. pass_then g (pass_closing closings.Do c.1 t)
      (λ d u k2 two. pass_then g (pass_list d.1 u) (λ b v k3 three.
      pass_last g (pass_closing closings.Done b.1 v)
      (λ e k4 four. rw (one, two, three, four)
      (sym (append_assoc (spelling (shape_of B c.0)) (codes "do" ∷ spelling (shape_of B b.0))
      (codes "done" ∷ [])))))))

  -- the name of a `for` passes the word that it is
  pass_for_name : (n : Next) (s : State) →
      Passing g (a_for_name inner n) (Spells (λ x. spell_word (shape_of_word B x.0))) s
  unfolding a_for_name
  pass_for_name n s =
      pass_pick g (begins_word n.token)
      (pass_on g (pass_see g)
      (λ p t. pass_on g (pass_see g) (λ good u. pass_then g (pass_word B g stands inner u) (λ w v k so.
      pass_pick g good (pass_on g (silent_next g Command v) (λ m z. pass_give g (append-nil k ∙ so)))
      (pass_stop g)))))
      (pass_unexpected g inner n s)

  -- what ends the words of a `for` tells nothing
  silent_sequential_sep : (cs : Row Span) (n : Next) (s : State) → Passing g (a_sequential_sep inner cs n) (Silent g) s
  unfolding a_sequential_sep
  silent_sequential_sep cs n s =
      pass_on g (silent_semicolon g n s)
      (λ x t. pass_on g (silent_linebreak g cs x.1 t)
      (λ l u. pass_pick g (x.0 || l.join.broken) (pass_give g refl) (pass_unexpected g inner l.next u)))

  -- these tokens are what the words of a head spell
  abbrev HeadSpelled : Headed → Tokens → Type 0
  HeadSpelled h k = k ≡ spell_for_words (shape_of_for_words B h.words)

  -- one more word passes what it adds, or none; all words pass what they spell, and so do what stands before
  -- `do` and, after its opener, the whole `for`
  pass_word_turn : (i : ItemsSoFar) (s : State) → Passing g (word_turn inner i) (Grows g (spelled_items B) i) s
  unfolding word_turn
  pass_word_turn i s = pass_pick g (is_word i.next.token) (pass_item fine i Suffix s)
      (pass_give g (grows_none g (spelled_items B) i))

  pass_for_words : (cs : Row Span) (s : State) → Passing g (for_words inner cs) HeadSpelled s
  unfolding for_words
  pass_for_words cs s =
      pass_then g (pass_reserved_or_paren (closing_text closings.In) false _ s)
      (λ i t k is. pass_then g (pass_many g (spelled_items B) (word_turn inner) pass_word_turn
      (items_so_far [] Suffix i.1) t) (λ ws u l so.
      pass_on g (silent_sequential_sep cs ws.next u) (λ x v. pass_give g (rw (is, append-nil l, ← so) refl))))

  pass_for_head : (n : Next) (s : State) → Passing g (a_for_head inner n) HeadSpelled s
  unfolding a_for_head
  pass_for_head n s =
      pass_on g (silent_semicolon g n s) (λ x t. pass_on g (silent_linebreak g [] x.1 t) (λ l u.
      pass_pick g (not x.0 && is_closing closings.In l.next.token) (pass_for_words l.join.comments u)
      (pass_give g refl)))

  pass_for : (n : Next) (s : State) →
      Passing g (a_for inner n) (λ f k. codes "for" ∷ k ≡ spell_form (shape_of_form B f.what)) s
  unfolding a_for
  pass_for n s =
      pass_then g (pass_for_name n s) (λ x t k1 one.
      pass_then g (pass_for_head x.1 t) (λ h u k2 two.
      pass_then g (pass_closing closings.Do h.next u) (λ d v k3 three.
      pass_last g (pass_group closings.Done d.1 v) (λ b k4 four.
      let name = spell_word (shape_of_word B x.0) in
      let words = spell_for_words (shape_of_for_words B h.words) in
      let body = codes "do" ∷ spelling (shape_of B b.what) in
      rw (one, two, three, four, remarks_spelled B h.comments b.what)
      (ap (λ z. codes "for" ∷ z) (sym
      (append_assoc (name ++ words) body (codes "done" ∷ [])
      ∙ append_assoc name words (body ++ (codes "done" ∷ [])))))))))

  -- the word after `case` passes the word that it is
  pass_case_word : (n : Next) (s : State) →
      Passing g (a_case_word inner n) (Spells (λ x. spell_word (shape_of_word B x.0))) s
  unfolding a_case_word
  pass_case_word n s =
      pass_pick g (begins_word n.token)
      (pass_then g (pass_word B g stands inner s)
      (λ w v k so. pass_on g (silent_next g Command v) (λ m z. pass_give g (append-nil k ∙ so))))
      (pass_unexpected g inner n s)

  -- what these patterns spell, with a `|` before the first too
  abbrev spelled_row : Row AWord → Tokens
  spelled_row ws = spell_patterns (shape_of_patterns B (patterns_of ws))

  -- what the patterns so far spell, with a `|` before each
  abbrev spelled_patterns : PatternsSoFar → Tokens
  spelled_patterns p = spelled_row p.patterns

  -- one more pattern passes what it adds but for its `|`; after a `|` it passes all of that, or nothing where
  -- there is none; all of an item pass what they spell
  pass_pattern : (ws : Row AWord) (s : State) →
      Passing g (a_pattern inner ws) (λ p k. spelled_patterns p ≡ spelled_row ws ++ (codes "|" ∷ k)) s
  unfolding a_pattern
  pass_pattern ws s =
      pass_then g (pass_word B g stands inner s)
      (λ w t k so. pass_pushed g (λ u. pass_on g (silent_next g Suffix u) (λ n v. pass_give g
      (patterns_last B ws w ∙ ap (λ z. spelled_row ws ++ (codes "|" ∷ z)) (sym so ∙ sym (append-nil k))))))

  pass_one_pattern : (p : PatternsSoFar) (s : State) →
      Passing g (one_pattern inner p.patterns) (Grows g spelled_patterns p) s
  unfolding one_pattern
  pass_one_pattern p s =
      pass_then g (pass_text g) (λ x t k is. pass_on g (silent_next g Suffix t) (λ n u.
      pass_pick g (begins_word n.token) (pass_last g (pass_pattern p.patterns u) (λ q l so. rw is so))
      (pass_unexpected g inner n u)))

  pass_pattern_turn : (p : PatternsSoFar) (s : State) → Passing g (pattern_turn inner p) (Grows g spelled_patterns p) s
  unfolding pattern_turn
  pass_pattern_turn p s = pass_pick g (is_pipe p.next.token) (pass_one_pattern p s)
      (pass_give g (grows_none g spelled_patterns p))

  pass_patterns : (n : Next) (s : State) →
      Passing g (a_pattern_list inner n)
      (Spells (λ p. spell_first_pattern (shape_of_patterns B (patterns_of p.patterns)))) s
  unfolding a_pattern_list
  pass_patterns n s =
      pass_pick g (begins_pattern n.token)
      (pass_then g (pass_pattern [] s)
      (λ p t k one. pass_so g (pass_many g spelled_patterns (pattern_turn inner) pass_pattern_turn p t)
      (λ q l two. sym (first_spelled B _ (k ++ l) (two ∙ ap (λ z. z ++ l) one)))))
      (pass_unexpected g inner n s)

  -- the body of an item passes what its entries spell
  pass_body : (n : Next) (s : State) → Passing g (a_body inner n) (Spells spelled_list) s
  unfolding a_body
  pass_body n s = pass_so g (pass_many g spelled_list (list_turn inner) pass_list_turn
      (list_so_far (none_listed false) n) s) (λ l k so. sym so)

  -- nothing but an ender falls through
  no_ender : (t : Token) → ends_item t ≡ false → spell_falls (falls_through t) ≡ []
  no_ender t e = rw ((or_parts (is_double_semicolon t) (falls_through t) e).1) refl

  -- of what ends an item only `;&` is told
  pass_item_end : (there : ℕ) (n : Next) (s : State) →
      Passing g (an_item_end inner there n) (λ e k. k ≡ spell_falls (falls_through n.token)) s
  unfolding an_item_end
  pass_item_end there n s =
      pass_ends (ends_item n.token) refl
    where
      pass_ends : (b : Bool) → ends_item n.token ≡ b
          → Passing g (pick b (an_ender (falls_through n.token))
          (pick (is_closing closings.Esac n.token) (give (item_end there [] n)) (unexpected inner n)))
          (λ e k. k ≡ spell_falls (falls_through n.token)) s
      pass_ends true e = pass_ender g (falls_through n.token) s
      pass_ends false e = pass_pick g (is_closing closings.Esac n.token) (pass_give g (sym (no_ender n.token e)))
          (pass_unexpected g inner n s)

  -- what the items so far spell
  abbrev spelled_cases : CasesSoFar → Tokens
  spelled_cases c = spell_cases (shape_of_cases B (cases_of c.items))

  -- one more item passes what it adds, or none; what stands before the items passes what it spells, and so
  -- does, after its opener, the whole `case`
  pass_one_case : (c : CasesSoFar) (s : State) → Passing g (one_case inner c) (Grows g spelled_cases c) s
  unfolding one_case
  pass_one_case c s =
      pass_on g (pass_see g) (λ p t. pass_on g (silent_bracket g c.next t)
      (λ n u. pass_then g (pass_patterns n u) (λ ps v k1 one.
      pass_then g (pass_closing closings.Paren ps.next v)
      (λ k w k2 two. pass_then g (pass_body k.1 w) (λ b x k3 three.
      pass_then g (pass_item_end _ b.next x) (λ e y k4 four. pass_pushed g (λ z. pass_give g
      (cases_last B c.items _ ∙ ap (λ q. spelled_cases c ++ q)
      (rw (one, two, three, four) (ap
      (λ q. spell_first_pattern (shape_of_patterns B (patterns_of ps.patterns)) ++ (codes ")" ∷ q))
      (ap (λ q. spelling (shape_of B (entries_of b.list.entries)) ++ q) (sym (append-nil _)))))))))))))

  pass_case_turn : (c : CasesSoFar) (s : State) → Passing g (case_turn inner c) (Grows g spelled_cases c) s
  unfolding case_turn
  pass_case_turn c s = pass_pick g (is_closing closings.Esac c.next.token)
      (pass_give g (grows_none g spelled_cases c)) (pass_one_case c s)

  pass_case_head : (n : Next) (s : State) →
      Passing g (a_case_head inner n) (Spells (λ h. spell_word (shape_of_word B h.0) ++ (codes "in" ∷ []))) s
  unfolding a_case_head
  pass_case_head n s =
      pass_then g (pass_case_word n s)
      (λ w t k1 one. pass_on g (silent_linebreak g [] w.1 t)
      (λ l u. pass_then g (pass_closing closings.In l.next u) (λ i v k2 two.
      pass_on g (silent_linebreak g l.join.comments i.1 v) (λ h x. pass_give g (rw (one, append-nil k2, two) refl)))))

  pass_case : (n : Next) (s : State) →
      Passing g (a_case inner n) (λ f k. codes "case" ∷ k ≡ spell_form (shape_of_form B f.what)) s
  unfolding a_case
  pass_case n s =
      pass_then g (pass_case_head n s) (λ h t k1 one.
      pass_then g (pass_many g spelled_cases (case_turn inner) pass_case_turn (cases_so_far [] h.1 h.2) t)
      (λ c u k2 two.
      pass_last g (pass_closing closings.Esac c.next u) (λ e k3 three.
      let word = spell_word (shape_of_word B h.0) in
      rw (one, ← two, three)
      (ap (λ z. codes "case" ∷ z) (append_assoc word (codes "in" ∷ []) (spelled_cases c ++ (codes "esac" ∷ []))
      ∙ sym (append_assoc word (codes "in" ∷ spelled_cases c) (codes "esac" ∷ [])))))))

  -- after its opener each form passes the rest of what it spells, and with it the compound command passes all
  pass_form : (o : Opener) (n : Next) (s : State) →
      Passing g (a_form inner o n) (λ f k. opener_text o ∷ k ≡ spell_form (shape_of_form B f.what)) s
  pass_form openers.Brace n s = pass_last g (pass_group closings.Brace n s) (λ l k so. rw so refl)
  pass_form openers.Paren n s = pass_last g (pass_group closings.Paren n s) (λ l k so. rw so refl)
  pass_form openers.If n s = pass_if n s
  pass_form openers.While n s = pass_last g (pass_loop n s) (λ l k so. rw so refl)
  pass_form openers.Until n s = pass_last g (pass_loop n s) (λ l k so. rw so refl)
  pass_form openers.For n s = pass_for n s
  pass_form openers.Case n s = pass_case n s

  pass_compound : (o : Opener) (s : State) → Passing g (a_compound inner o) (IsBare B) s
  unfolding a_compound
  pass_compound o s =
      pass_then g (pass_reserved_or_paren (opener_text o) _ _ s)
      (λ x t k is. pass_then g (pass_form o x.1 t)
      (λ f u m so. pass_pushed g (λ v. pass_give g
      (f.what, _, refl, rw (is, append-nil m) (so ∙ sym (append-nil _))))))

  -- ---- functions

  -- A function's name is told before it, as a word.

  -- a compound command under a name spells the name, `(`, `)` and itself
  under_spelled : (name : Span) (cs : Row Span) (c : ACommand) (body : ACompound) → c ≡ compound body
      → text_at B name ∷ codes "(" ∷ codes ")" ∷ spell_command (shape_of_command B c)
      ≡ spell_command (shape_of_command B (under_name name cs c))
  under_spelled name cs c body is = rw is refl

  -- from just after its name, a function passes the rest of what it spells
  pass_function : (name : Span) (s : State) →
      Passing g (a_function inner name) (λ c k. text_at B name ∷ k ≡ spell_command (shape_of_command B c.0)) s
  unfolding a_function
  pass_function name s =
      pass_then g (pass_reserved_or_paren (opener_text openers.Paren) true _ s)
      (λ o t k1 one. pass_then g (pass_closing closings.Paren o.1 t)
      (λ c u k2 two. pass_on g (silent_linebreak g [] c.1 u) (λ l v.
      pass_last g (pass_compound_by fine l.next (opener_of l.next.token) v)
      (λ b k3 three. rw (one, two, three.2) (under_spelled name l.join.comments b.0 three.0 three.1)))))

  -- ---- lines

  -- What ends a line is no token.

  -- the newline with the bodies after it, or the end, passes nothing
  silent_end : (n : Next) (s : State) → Passing g (end_of_line inner n) (Silent g) s
  unfolding end_of_line nothing_waits
  silent_end n s = pass_pick g (is_newline_token n.token)
      (pass_on g (pass_move g) (λ u v. pass_on g (pass_change g) (λ x t. pass_give g refl)))
      (pass_pick g (is_end n.token)
      (pass_on g (pass_on g (pass_see g) (λ w t. none_waiting w t)) (λ u v. pass_give g refl))
      (pass_unexpected g inner n s))
    where
      none_waiting : (w : Option ℕ) (t : State) → Passing g (none_waits w) (Silent g) t
      none_waiting (Some b) t = pass_stop g
      none_waiting None t = pass_give g refl

  -- a line passes what its entries spell, without the bodies of its here-documents
  pass_open_line : (blank : Bool) (s : State) →
      Passing g (an_open_line inner blank) (Spells (λ x. spelling (shape_of B (entries_of x.0)))) s
  unfolding an_open_line
  pass_open_line blank s =
      pass_on g (silent_next g Command s) (λ n t. pass_then g (pass_on_line (list_so_far (none_listed blank) n) t)
      (λ l u k so. pass_on g (silent_end l.next u) (λ newline v. pass_give g (append-nil k ∙ sym so))))

  -- bodies are no tokens
  bodies_spelled : (bs : Row Span) (es : Row AnEntry) →
      spelling (shape_of B (entries_of (filled_row bs es))) ≡ spelling (shape_of B (entries_of es))
  bodies_spelled bs es = ap (λ (l : Entries). spelling (shape_of B l)) (row_filled bs es)
      ∙ ap spelling (shape_filled B bs (entries_of es)) ∙ filled_spelling _ (shape_of B (entries_of es))

  -- a line passes what its entries spell with these bodies
  pass_line : (blank : Bool) (s : State) →
      Passing g (a_line inner blank) (Spells (λ x. spelling (shape_of B (entries_of x.0)))) s
  unfolding a_line
  pass_line blank s = pass_last g (pass_in_level g (pass_open_line blank (own_level s)))
      (λ l k so. so ∙ sym (bodies_spelled l.1 l.0.0))

-- what may be opened passes the tokens that its shape spells, by how many more may be
pass_level : (B : List ℕ) (g : Given) (stands : g.text ≡ drop g.offset B) (room : ℕ) →
    InnerSpells B g stands (level room)
unfolding level
pass_level B g stands zero = record {
  compound = λ o s. pass_on g (pass_see g) (λ p t. pass_stop g);
  function = λ name s. pass_stop g;
}
pass_level B g stands (suc room) =
    record {
      compound = λ o s. pass_compound (pass_level B g stands room) o s;
      function = λ name s. pass_function (pass_level B g stands room) name s;
    }

-- ---- a script

-- Line after line, up to the last one; so a script without a fault passes what it spells.

module _ (edition : Edition) (B : List ℕ) where
  -- a line passes what its entries spell
  line_spelled : (blank : Bool) (p : ℕ) (es : Row AnEntry) (newline : Bool) (t : State) (k : Row Spelled) →
      may (a_line (level most_open) blank) (given edition (drop p B) p) (standing 0) (Ok ((es, newline), t)) k
      → k ≡ spelling (shape_of B (entries_of es))
  line_spelled blank p es newline t k part = let g = given edition (drop p B) p in
      (pass_line (pass_level B g refl most_open) blank (standing 0)).passing
      (Ok ((es, newline), t)) k part

  -- the lines from p on pass what their entries spell, after what was read before them
  lines_spelled : (so : LinesSoFar) (p : ℕ) (s : AScript) (k : Row Spelled) → Lines edition B so p s k → s.fault ≡ None
      →
      spelling (shape_of B s.entries) ≡ spelling (shape_of B (entries_of so.entries)) ++ k
  lines_spelled so p s m (line_ended {l = l} es t k part rest) none =
      lines_spelled _ _ s l rest none
      ∙ ap (λ z. z ++ l) (entries_joined B so.entries es
      ∙ ap (λ z. spelling (shape_of B (entries_of so.entries)) ++ z) (sym (line_spelled _ p es true t k part)))
      ∙ append_assoc (spelling (shape_of B (entries_of so.entries))) k l
  lines_spelled so p s m (last_line es t k part) none = entries_joined B so.entries es
      ∙ ap (λ z. spelling (shape_of B (entries_of so.entries)) ++ z) (sym (line_spelled _ p es false t k part))
  lines_spelled so p s m (faulty f k part) none = absurd cc

-- the tokens passed in a faultless script are those that the shape of its tree spells
pub script_spelled : (edition : Edition) → (B : List ℕ) (s : AScript) → s.fault ≡ None → (k : Row Spelled) →
    Passes edition B s k → k ≡ spelling (shape_of B s.entries)
script_spelled edition B s none k passes = sym (lines_spelled edition B nothing_yet 0 s k passes none)
