-- Lists, compound commands and substitutions elsewhere: what they are there is what
-- they are by themselves, moved.
use Rattle.std.proofs.Common.{◌≡◌, ℕ, ◌+◌, Bool, true, false, not, ◌&&◌, List as Row, [], map, Option, Some, None, option_map, is_some, refl, sym, ap, subst, ◌∙◌}
use Rattle.std.specs.Prelude.{All, unwrap_or}
use Rattle.std.proofs.lemmas.List.Elements.{All-nil, All-push}
use Rattle.shast.specs.declared.tree.Span.{Span}
use Rattle.shast.specs.Nodes.{through, commands_end}
use Rattle.shast.specs.Tree.{AnAndOr, ACommand, AWord, ASubst, Entries, entries_of, entry, command, remark, if_then, for_in, in_words, case_in, case_item, patterns_of, formed, no_item, subst as subst_of, marked}
use Rattle.shgrammar.specs.declared.token.Closing.{Closing}
use Rattle.shgrammar.specs.declared.token.Closing.TheVariants as closings
use Rattle.shgrammar.specs.declared.token.Next.{Next}
use Rattle.shgrammar.specs.declared.token.Opener.{Opener}
use Rattle.shgrammar.specs.declared.token.Opener.TheVariants as openers
use Rattle.shgrammar.specs.declared.token.Position.{Position}
use Rattle.shgrammar.specs.declared.token.Position.TheVariants.{Suffix}
use Rattle.shgrammar.specs.declared.token.Separator.{Separator}
use Rattle.shgrammar.specs.declared.token.Separator.TheVariants.{Semicolon, Ampersand}
use Rattle.shgrammar.specs.Form.{Spelled, many}
use Rattle.shgrammar.specs.Words.{Inner}
use Rattle.shgrammar.specs.Commands.{opener_of, ItemsSoFar, items_so_far, join_so_far, a_join_of, ASeparator, is_background, past_separator, Entered, an_entry, falls_through}
use Rattle.shgrammar.specs.Lists.{Listed, ListSoFar, list_so_far, none_listed, is_blank_next, next_line, one_entry, entry_turn, remark_by, a_remark, on_line, list_turn, a_list}
use Rattle.shgrammar.specs.Compounds.{is_open_paren, is_close_paren, reserved_or_paren, closing, Closed, closed, a_branch, BranchesSoFar, branches_so_far, elif_turn, an_else, an_if, a_loop, a_group, a_for_name, a_linebreak, a_sequential_sep, Headed, headed, word_turn, for_words, a_for_head, a_for, a_form, a_compound, a_function, a_case_word, PatternsSoFar, patterns_so_far, a_pattern, one_pattern, pattern_turn, a_pattern_list, an_open_bracket, a_body, body_end, ItemEnd, item_end, an_ender, an_item_end, CasesSoFar, cases_so_far, one_case, case_turn, a_case_head, a_case}
use Rattle.shgrammar.specs.Substitutions.{substitution_list, one_substitution}
use Rattle.shast.specs.Moved.{carried_patterns}
use Rattle.shgrammar.proofs.Turns.{Stepped}
use Rattle.shgrammar.proofs.Moved.{Place, Any, same, on_first, of_first, step, Moves, moves_give, moves_stop, moves_so, moves_then, moves_see, moves_here, moves_on, moves_pushed, moves_push, moves_pick, moves_level, moves_ending, moves_many, moves_token, moves_move}
use Rattle.shgrammar.proofs.MovedBodies.{filled_moved}
use Rattle.shgrammar.proofs.MovedTrees.{is_empty_map, span_to, body_to, offset_to, word_to, subst_to, command_to, and_or_to, entry_to, list_to, branch_to, else_to, for_words_to, case_to, form_to, items_row, entries_row, branches_row, cases_row, patterns_row, remarks_to, under_name_to, CommandEnds, compound_ends, under_name_ends, EntryEnds, entries_end}
use Rattle.shgrammar.proofs.MovedWords.{InnerMoves, moves_next, moves_mark, moves_comment, moves_word, moves_unexpected}
use Rattle.shgrammar.proofs.MovedCommands.{is_some_map, moves_if, of_any, items_to, SomeItems, moves_line_end, moves_semicolon, moves_nothing_waits, join_so_far_to, moves_joins, moves_item, moves_compound_by, moves_and_or, parted_to, moves_separator}

module _ (z : Place) where
  -- how much further all stands elsewhere, and whether the trees in command substitutions are kept there
  abbrev k : ℕ
  k = z.base

  abbrev deep : Bool
  deep = z.deep

  -- ---- entries

  -- an entry with the offset after its separator, moved
  abbrev entered_to : Entered → Entered
  entered_to e = record { entry = entry_to k deep e.entry; parted = option_map (offset_to k) e.parted; next = e.next }

  -- an entry made of a moved and-or list, separator and comment is the moved entry
  entered_is : (a : AnAndOr) (s : Option ASeparator) (blank : Bool) (c : Option Span) (n : Next)
      → record {
        entry = entry (command (and_or_to k deep a)) (is_background (parted_to z s)) blank
            (option_map (span_to k) c);
        parted = past_separator (parted_to z s);
        next = n;
      }
      ≡ entered_to (record { entry = entry (command a) (is_background s) blank c; parted = past_separator s; next = n })
  entered_is a None blank c n = refl
  entered_is a (Some (s, p)) blank c n = by_kind s
    where
      by_kind : (t : Separator) → record {
        entry =
            entry (command (and_or_to k deep a)) (is_background (Some (t, k + p))) blank (option_map (span_to k) c);
        parted = Some (k + p);
        next = n;
      }
          ≡ entered_to (record {
            entry = entry (command a) (is_background (Some (t, p))) blank c;
            parted = Some p;
            next = n;
          })
      by_kind Semicolon = refl
      by_kind Ampersand = refl

  -- the entries of a list so far, moved, and the same with the token after them
  abbrev pub listed_to : Listed → Listed
  listed_to l = record {
    entries = map (entry_to k deep) l.entries;
    blank = l.blank;
    begun = l.begun;
    commands = l.commands;
    parted = option_map (offset_to k) l.parted;
  }

  abbrev pub list_so_far_to : ListSoFar → ListSoFar
  list_so_far_to l = list_so_far (listed_to l.list) l.next

  -- where each of the commands ends is moved
  abbrev pub ListEnds : ListSoFar → Type 0
  ListEnds l = All (EntryEnds k deep) l.list.entries

  -- after a newline a moved list is what the list is then, moved
  next_line_to : (l : Listed) (n : Next) →
      list_so_far (next_line (listed_to l)) n ≡ list_so_far_to (list_so_far (next_line l) n)
  next_line_to l n =
      ap (λ e. list_so_far (record {
        entries = map (entry_to k deep) l.entries;
        blank = not l.begun && not e;
        begun = false;
        commands = l.commands;
        parted = option_map (offset_to k) l.parted;
      }) n)
      (is_empty_map (entry_to k deep) l.entries)

  -- ---- what opens, parts and closes lists

  -- the span of a reserved word or a round bracket is moved
  moves_reserved_or_paren : (text : Spelled) (paren : Bool) (position : Position) →
      Moves z (on_first {Y = Next} (span_to k)) Any (reserved_or_paren text paren position)
      (reserved_or_paren text paren position)
  unfolding reserved_or_paren
  moves_reserved_or_paren text paren position =
      moves_then (moves_mark z) (λ x so. moves_then (moves_next z _) (λ n all. moves_give refl tt))

  -- what was read, moved, and the span of its closer
  abbrev closed_to : {X : Type 0} → (X → X) → Closed X → Closed X
  closed_to c x = record { what = c x.what; closer = span_to k x.closer; next = x.next }

  -- newlines and comments are moved, after comments that are moved too
  moves_linebreak : (cs : Row Span) (n : Next) →
      Moves z (join_so_far_to z) Any (a_linebreak cs n) (a_linebreak (map (span_to k) cs) n)
  unfolding a_linebreak
  moves_linebreak cs n = moves_joins z (join_so_far (a_join_of false cs) n)

  module _ (inner : Inner) (fits : InnerMoves z inner) where
    -- an entry is moved, and where each of its commands ends is too; so is one more entry of a line, or none
    moves_entry : (blank : Bool) (n : Next) →
        Moves z entered_to (λ e. EntryEnds k deep e.entry) (an_entry inner blank n) (an_entry inner blank n)
    unfolding an_entry
    moves_entry blank n =
        moves_then (moves_and_or z inner fits n)
        (λ a ends. moves_then (moves_separator z a.1)
        (λ s so. moves_then (moves_comment z s.1) (λ c all. moves_give (entered_is a.0 s.0 blank c.0 c.1) ends)))

    moves_one_entry : (l : ListSoFar) → ListEnds l →
        Moves z (step list_so_far_to) (Stepped ListEnds) (one_entry inner l) (one_entry inner (list_so_far_to l))
    unfolding one_entry
    moves_one_entry l all =
        moves_then (moves_entry (is_blank_next l.list) l.next) (λ e ends. moves_pushed (entry_to k deep) refl refl
        (moves_if (is_some e.parted) (is_some (option_map (offset_to k) e.parted))
        (is_some_map (offset_to k) e.parted) _ _ refl
        (All-push (EntryEnds k deep) l.list.entries e.entry all ends)))

    moves_entry_turn : (l : ListSoFar) → ListEnds l →
        Moves z (step list_so_far_to) (Stepped ListEnds) (entry_turn inner l) (entry_turn inner (list_so_far_to l))
    unfolding entry_turn
    moves_entry_turn l all = moves_pick _ (moves_one_entry l all) (moves_give refl all)

    -- the comment of a line is moved, or none, and so is all that stands on one
    moves_remark_by : (l : ListSoFar) (c : Option Span) (n : Next) → ListEnds l →
        Moves z list_so_far_to ListEnds (remark_by l (c, n))
        (remark_by (list_so_far_to l) (option_map (span_to k) c, n))
    moves_remark_by l (Some c) n all =
        moves_pushed (entry_to k deep) refl refl
        (moves_give refl (All-push (EntryEnds k deep) l.list.entries
        (entry (remark c) false (is_blank_next l.list) None) all tt))
    moves_remark_by l None n all = moves_give refl all

    moves_remark : (l : ListSoFar) → ListEnds l →
        Moves z list_so_far_to ListEnds (a_remark l) (a_remark (list_so_far_to l))
    unfolding a_remark
    moves_remark l all = moves_then (moves_comment z l.next) (λ x so. moves_remark_by l x.0 x.1 all)

    pub moves_on_line : (l : ListSoFar) → ListEnds l →
        Moves z list_so_far_to ListEnds (on_line inner l) (on_line inner (list_so_far_to l))
    unfolding on_line
    moves_on_line l all = moves_then
        (moves_many list_so_far_to ListEnds ListEnds (entry_turn inner) (entry_turn inner) moves_entry_turn
        (λ m so. so) l all) (λ m all2. moves_remark m all2)

    -- ---- lists

    -- one more line is moved, and so are all lines, and a list that holds a command
    moves_list_turn : (l : ListSoFar) → ListEnds l →
        Moves z (step list_so_far_to) (Stepped ListEnds) (list_turn inner l) (list_turn inner (list_so_far_to l))
    unfolding list_turn
    moves_list_turn l all = moves_then (moves_on_line l all)
        (λ m all2. moves_then (moves_line_end z m.next)
        (λ x so. moves_if x.0 x.0 refl _ _ (next_line_to m.list x.1) all2))

    moves_lines : (n : Next) → Moves z list_so_far_to ListEnds
        (many (list_turn inner) (list_so_far (none_listed false) n))
        (many (list_turn inner) (list_so_far (none_listed false) n))
    moves_lines n = moves_many list_so_far_to ListEnds ListEnds (list_turn inner) (list_turn inner) moves_list_turn
        (λ m so. so) (list_so_far (none_listed false) n) (All-nil (EntryEnds k deep))

    moves_list : (n : Next) → Moves z (on_first {Y = Next} (list_to k deep)) Any (a_list inner n) (a_list inner n)
    unfolding a_list
    moves_list n =
        moves_then (moves_lines n) (λ l all. moves_pick _
        (moves_give (ap (λ (es : Entries). (es, l.next)) (entries_row k deep l.list.entries)) tt)
        (moves_unexpected z inner fits l.next))

    -- the span of what has to stand after a list is moved
    moves_closing : (c : Closing) (n : Next) →
        Moves z (on_first {Y = Next} (span_to k)) Any (closing inner c n) (closing inner c n)
    unfolding closing
    moves_closing c n = moves_pick _ (moves_reserved_or_paren _ (is_close_paren c) _) (moves_unexpected z inner fits n)

    -- ---- groups, `if` and loops

    -- a list is moved with its closer, and a condition with what is run by it
    moves_group : (c : Closing) (n : Next) →
        Moves z (closed_to (list_to k deep)) Any (a_group inner c n) (a_group inner c n)
    unfolding a_group
    moves_group c n = moves_then (moves_list n) (λ l so. moves_then (moves_closing c l.1) (λ e all. moves_give refl tt))

    moves_branch : (n : Next) → Moves z (on_first {Y = Next} (branch_to k deep)) Any (a_branch inner n)
        (a_branch inner n)
    unfolding a_branch
    moves_branch n = moves_then (moves_list n)
        (λ c so. moves_then (moves_closing closings.Then c.1)
        (λ t so2. moves_then (moves_list t.1) (λ b so3. moves_give refl tt)))

    -- the branches so far, moved
    abbrev branches_so_far_to : BranchesSoFar → BranchesSoFar
    branches_so_far_to b = branches_so_far (map (branch_to k deep) b.branches) b.next

    -- one more branch is moved, or none, and so is an `else`, or none
    moves_elif : (b : BranchesSoFar) →
        Moves z (step branches_so_far_to) (Stepped Any) (elif_turn inner b) (elif_turn inner (branches_so_far_to b))
    unfolding elif_turn
    moves_elif b = moves_pick _ (moves_then (moves_reserved_or_paren _ false _)
        (λ e so. moves_then (moves_branch e.1)
        (λ x so2. moves_pushed (branch_to k deep) refl refl (moves_give refl tt)))) (moves_give refl tt)

    moves_else : (n : Next) → Moves z (on_first {Y = Next} (else_to k deep)) Any (an_else inner n) (an_else inner n)
    unfolding an_else
    moves_else n = moves_pick _ (moves_then (moves_reserved_or_paren _ false _)
        (λ e so. moves_then (moves_list e.1) (λ l so2. moves_give refl tt))) (moves_give refl tt)

    -- an `if` and a loop are moved, from just after their openers
    moves_an_if : (n : Next) → Moves z (closed_to (form_to k deep)) Any (an_if inner n) (an_if inner n)
    unfolding an_if
    moves_an_if n =
        moves_then (moves_branch n) (λ f so. moves_then
        (moves_many branches_so_far_to Any Any (elif_turn inner) (elif_turn inner) (λ b all. moves_elif b) (λ b all. tt)
        (branches_so_far [] f.1) tt)
        (λ b so2. moves_then (moves_else b.next) (λ e so3. moves_then (moves_closing closings.Fi e.1)
        (λ c so4. moves_give (ap (λ bs. closed (if_then (branch_to k deep f.0) bs (else_to k deep e.0))
        (span_to k c.0, c.1)) (branches_row k deep b.branches)) tt))))

    moves_loop : (n : Next) → Moves z (closed_to (branch_to k deep)) Any (a_loop inner n) (a_loop inner n)
    unfolding a_loop
    moves_loop n =
        moves_then (moves_list n) (λ c so. moves_then (moves_closing closings.Do c.1)
        (λ d so2. moves_then (moves_list d.1)
        (λ b so3. moves_then (moves_closing closings.Done b.1) (λ e so4. moves_give refl tt))))

    -- ---- `for`

    -- the name of a `for` is moved, and so is what ends its words
    moves_for_name : (n : Next) →
        Moves z (on_first {Y = Next} (word_to k deep)) Any (a_for_name inner n) (a_for_name inner n)
    unfolding a_for_name
    moves_for_name n =
        moves_pick _ (moves_here (λ p. moves_see (λ s. refl)
        (λ good. moves_then (moves_word z inner fits)
        (λ w so. moves_pick good (moves_then (moves_next z _) (λ m all. moves_give refl tt)) moves_stop))))
        (moves_unexpected z inner fits n)

    moves_sequential_sep : (cs : Row Span) (n : Next) →
        Moves z (join_so_far_to z) Any (a_sequential_sep inner cs n) (a_sequential_sep inner (map (span_to k) cs) n)
    unfolding a_sequential_sep
    moves_sequential_sep cs n = moves_then (moves_semicolon z n)
        (λ s so. moves_then (moves_linebreak cs s.1)
        (λ l all. moves_pick _ (moves_give refl tt) (moves_unexpected z inner fits l.next)))

    -- what stands between the name and `do`, moved
    abbrev headed_to : Headed → Headed
    headed_to h = record { words = for_words_to k deep h.words; comments = map (span_to k) h.comments; next = h.next }

    -- one more word is moved, or none, and so are all words, what stands before `do`, and the whole `for`
    moves_word_turn : (i : ItemsSoFar) →
        Moves z (step (items_to z)) (Stepped Any) (word_turn inner i) (word_turn inner (items_to z i))
    unfolding word_turn
    moves_word_turn i = moves_pick _ (moves_so (of_any (SomeItems z)) (moves_item z inner fits i Suffix))
        (moves_give refl tt)

    moves_for_words : (cs : Row Span) →
        Moves z headed_to Any (for_words inner cs) (for_words inner (map (span_to k) cs))
    unfolding for_words
    moves_for_words cs =
        moves_then (moves_reserved_or_paren _ false _)
        (λ i so. moves_then (moves_many (items_to z) Any Any (word_turn inner) (word_turn inner)
        (λ j all. moves_word_turn j) (λ j all. tt) (items_so_far [] Suffix i.1) tt)
        (λ ws so2. moves_then (moves_sequential_sep cs ws.next)
        (λ l so3. moves_give (ap (λ is. headed (in_words is) (join_so_far_to z l)) (items_row k deep ws.items)) tt)))

    moves_for_head : (n : Next) → Moves z headed_to Any (a_for_head inner n) (a_for_head inner n)
    unfolding a_for_head
    moves_for_head n = moves_then (moves_semicolon z n)
        (λ s so. moves_then (moves_linebreak [] s.1)
        (λ l all. moves_pick _ (moves_for_words l.join.comments) (moves_give refl tt)))

    moves_for : (n : Next) → Moves z (closed_to (form_to k deep)) Any (a_for inner n) (a_for inner n)
    unfolding a_for
    moves_for n =
        moves_then (moves_for_name n)
        (λ x so. moves_then (moves_for_head x.1)
        (λ h so2. moves_then (moves_closing closings.Do h.next) (λ d so3. moves_then (moves_group closings.Done d.1)
        (λ b so4. moves_give (ap (λ (es : Entries). closed
        (for_in (word_to k deep x.0) (for_words_to k deep h.words) es) (span_to k b.closer, b.next))
        (remarks_to k deep h.comments b.what)) tt))))

    -- ---- `case`

    -- the word after `case` is moved
    moves_case_word : (n : Next) →
        Moves z (on_first {Y = Next} (word_to k deep)) Any (a_case_word inner n) (a_case_word inner n)
    unfolding a_case_word
    moves_case_word n = moves_pick _
        (moves_then (moves_word z inner fits) (λ w so. moves_then (moves_next z _) (λ m all. moves_give refl tt)))
        (moves_unexpected z inner fits n)

    -- the patterns so far, moved
    abbrev patterns_so_far_to : PatternsSoFar → PatternsSoFar
    patterns_so_far_to p = patterns_so_far (map (word_to k deep) p.patterns) p.next

    -- one more pattern is moved, also after a `|`, or none, and so are all of an item
    moves_pattern : (ws : Row AWord) →
        Moves z patterns_so_far_to Any (a_pattern inner ws) (a_pattern inner (map (word_to k deep) ws))
    unfolding a_pattern
    moves_pattern ws = moves_then (moves_word z inner fits)
        (λ w so. moves_pushed (word_to k deep) refl refl (moves_then (moves_next z _) (λ n all. moves_give refl tt)))

    moves_one_pattern : (ws : Row AWord) →
        Moves z (step patterns_so_far_to) (Stepped Any) (one_pattern inner ws)
        (one_pattern inner (map (word_to k deep) ws))
    unfolding one_pattern
    moves_one_pattern ws =
        moves_then (moves_mark z) (λ x so. moves_then (moves_next z _)
        (λ n all. moves_pick _ (moves_then (moves_pattern ws) (λ p so2. moves_give refl tt))
        (moves_unexpected z inner fits n)))

    moves_pattern_turn : (p : PatternsSoFar) →
        Moves z (step patterns_so_far_to) (Stepped Any) (pattern_turn inner p)
        (pattern_turn inner (patterns_so_far_to p))
    unfolding pattern_turn
    moves_pattern_turn p = moves_pick _ (moves_one_pattern p.patterns) (moves_give refl tt)

    moves_patterns : (n : Next) → Moves z patterns_so_far_to Any (a_pattern_list inner n) (a_pattern_list inner n)
    unfolding a_pattern_list
    moves_patterns n =
        moves_pick _ (moves_then (moves_pattern [])
        (λ p so. moves_many patterns_so_far_to Any Any (pattern_turn inner) (pattern_turn inner)
        (λ q all. moves_pattern_turn q) (λ q all. tt) p tt))
        (moves_unexpected z inner fits n)

    -- the `(` before the patterns is passed there too, or none, and the entries of a body are moved
    moves_bracket : (n : Next) → Moves z same Any (an_open_bracket n) (an_open_bracket n)
    unfolding an_open_bracket
    moves_bracket n = moves_pick _ (moves_on (moves_next z _)) (moves_give refl tt)

    moves_body : (n : Next) → Moves z list_so_far_to ListEnds (a_body inner n) (a_body inner n)
    unfolding a_body
    moves_body n = moves_lines n

    -- the end of an item and the comments after it, moved
    abbrev item_end_to : ItemEnd → ItemEnd
    item_end_to e = item_end (k + e.at) (map (span_to k) e.comments) e.next

    -- a `;;` or `;&` is moved, and so is the end of an item that has one or none
    moves_ender : (b : Bool) → Moves z item_end_to Any (an_ender b) (an_ender b)
    unfolding an_ender
    moves_ender b = moves_then (moves_token (moves_on moves_move))
        (λ x so. (moves_here (λ p. moves_then (moves_next z _)
        (λ n so. moves_then (moves_linebreak [] n) (λ l all. moves_give refl tt)))))

    moves_item_end : (p : ℕ) (n : Next) → Moves z item_end_to Any (an_item_end inner p n) (an_item_end inner (k + p) n)
    unfolding an_item_end
    moves_item_end p n = moves_pick _ (moves_ender (falls_through n.token))
        (moves_pick _ (moves_give refl tt) (moves_unexpected z inner fits n))

    -- an offset that may be missing is moved alike with the one that stands for it
    end_or : (o : Option ℕ) (p q : ℕ) → q ≡ k + p → unwrap_or (option_map (offset_to k) o) q ≡ k + unwrap_or o p
    end_or None p q is = is
    end_or (Some e) p q is = refl

    -- the end of an item is moved, where without `;;` or `;&` it ends as its body does
    moves_item_end_at : (p : ℕ) (b : ListSoFar) → ListEnds b →
        Moves z item_end_to Any (an_item_end inner (body_end p b.list) b.next)
        (an_item_end inner (body_end (k + p) (listed_to b.list)) b.next)
    moves_item_end_at p b all =
        subst (λ (q : ℕ). Moves z item_end_to Any (an_item_end inner (body_end p b.list) b.next)
        (an_item_end inner q b.next))
        (sym (end_or b.list.parted (commands_end p (entries_of b.list.entries)) _
        (entries_end k deep p b.list.entries all))) (moves_item_end (body_end p b.list) b.next)

    -- the items so far and the comments after them, moved
    abbrev cases_so_far_to : CasesSoFar → CasesSoFar
    cases_so_far_to c = cases_so_far (map (case_to k deep) c.items) (map (span_to k) c.comments) c.next

    -- one more item is moved, or none
    moves_one_case : (c : CasesSoFar) →
        Moves z (step cases_so_far_to) (Stepped Any) (one_case inner c) (one_case inner (cases_so_far_to c))
    unfolding one_case
    moves_one_case c =
        moves_here (λ p. moves_then (moves_bracket c.next)
        (λ n so. moves_then (moves_patterns n) (λ ps so2. moves_then (moves_closing closings.Paren ps.next)
        (λ e so3. moves_then (moves_body e.1)
        (λ b all. moves_then (moves_item_end_at e.0.«end» b all) (λ f so4. moves_pushed (case_to k deep) refl
        (ap (λ ws. case_item (map (span_to k) c.comments) ws (entries_of (map (entry_to k deep) b.list.entries))
        (marked (span_to k) (record
        { mark = record { start = p; «end» = f.at }; falls = falls_through b.next.token })))
        (patterns_row k deep ps.patterns)
        ∙ ap (λ (es : Entries). case_item (map (span_to k) c.comments)
        (carried_patterns (span_to k) (body_to k) deep (patterns_of ps.patterns)) es
        (marked (span_to k) (record
        { mark = record { start = p; «end» = f.at }; falls = falls_through b.next.token })))
        (entries_row k deep b.list.entries))
        (moves_give refl tt)))))))

    moves_case_turn : (c : CasesSoFar) →
        Moves z (step cases_so_far_to) (Stepped Any) (case_turn inner c) (case_turn inner (cases_so_far_to c))
    unfolding case_turn
    moves_case_turn c = moves_pick _ (moves_give refl tt) (moves_one_case c)

    -- what stands between `case` and its items, moved
    abbrev head_to : AWord × Row Span × Next → AWord × Row Span × Next
    head_to h = (word_to k deep h.0, map (span_to k) h.1, h.2)

    -- what stands between `case` and its items is moved, and so is the whole `case`
    moves_case_head : (n : Next) → Moves z head_to Any (a_case_head inner n) (a_case_head inner n)
    unfolding a_case_head
    moves_case_head n =
        moves_then (moves_case_word n)
        (λ w so. moves_then (moves_linebreak [] w.1) (λ l so2. moves_then (moves_closing closings.In l.next)
        (λ i so3. moves_then (moves_linebreak l.join.comments i.1) (λ h so4. moves_give refl tt))))

    moves_case : (n : Next) → Moves z (closed_to (form_to k deep)) Any (a_case inner n) (a_case inner n)
    unfolding a_case
    moves_case n =
        moves_then (moves_case_head n)
        (λ h so. moves_then (moves_many cases_so_far_to Any Any (case_turn inner) (case_turn inner)
        (λ c all. moves_case_turn c) (λ c all. tt) (cases_so_far [] h.1 h.2) tt)
        (λ c so2. moves_then (moves_closing closings.Esac c.next)
        (λ e so3. moves_give (ap (λ cs. closed (case_in (word_to k deep h.0) cs (map (span_to k) c.comments))
        (span_to k e.0, e.1)) (cases_row k deep c.items)) tt)))

    -- ---- compound commands, functions, substitutions

    -- the form that an opener has is moved
    moves_form : (o : Opener) (n : Next) →
        Moves z (closed_to (form_to k deep)) Any (a_form inner o n) (a_form inner o n)
    moves_form openers.Brace n = moves_then (moves_group closings.Brace n) (λ l so. moves_give refl tt)
    moves_form openers.Paren n = moves_then (moves_group closings.Paren n) (λ l so. moves_give refl tt)
    moves_form openers.If n = moves_an_if n
    moves_form openers.While n = moves_then (moves_loop n) (λ l so. moves_give refl tt)
    moves_form openers.Until n = moves_then (moves_loop n) (λ l so. moves_give refl tt)
    moves_form openers.For n = moves_for n
    moves_form openers.Case n = moves_case n

    -- a compound command and a function are moved, and where they end is too
    pub moves_compound : (o : Opener) →
        Moves z (on_first {Y = Next} (command_to k deep)) (of_first (CommandEnds k deep)) (a_compound inner o)
        (a_compound inner o)
    unfolding a_compound
    moves_compound o =
        moves_then (moves_reserved_or_paren _ (is_open_paren o) _) (λ x so. moves_then (moves_form o x.1)
        (λ f all. moves_pushed (command_to k deep) refl refl
        (moves_give refl (compound_ends k deep (formed f.what (through x.0 f.closer) no_item)))))

    pub moves_function : (name : Span) →
        Moves z (on_first {Y = Next} (command_to k deep)) (of_first (CommandEnds k deep)) (a_function inner name)
        (a_function inner (span_to k name))
    unfolding a_function
    moves_function name =
        moves_then (moves_reserved_or_paren _ true _)
        (λ o so. moves_then (moves_closing closings.Paren o.1) (λ c so2. moves_then (moves_linebreak [] c.1)
        (λ l so3. moves_then (moves_compound_by z inner fits l.next (opener_of l.next.token))
        (λ b ends. moves_give (ap (λ (d : ACommand). (d, b.1)) (under_name_to k deep name l.join.comments b.0))
        (under_name_ends k deep name l.join.comments b.0 ends)))))

    -- the list of a command substitution is moved, and so is one more substitution of a word
    moves_substitution_list : Moves z (list_to k deep) Any (substitution_list inner) (substitution_list inner)
    unfolding substitution_list
    moves_substitution_list =
        moves_then (moves_next z _) (λ n so. moves_then (moves_lines n)
        (λ l all. moves_pick _ (moves_then (moves_nothing_waits z)
        (λ u so2. moves_on (moves_give (entries_row k deep l.list.entries) tt)))
        (moves_unexpected z inner fits l.next)))

    pub moves_one_substitution : (b : ℕ) (ss : Row ASubst) →
        Moves z (map (subst_to k deep)) Any (one_substitution inner b ss)
        (one_substitution inner (k + b) (map (subst_to k deep) ss))
    unfolding one_substitution
    moves_one_substitution b ss =
        moves_then (moves_level (moves_ending moves_substitution_list))
        (λ es so. moves_here (λ q. moves_push (subst_to k deep) refl
        (ap (λ (xs : Entries). subst_of xs (span_to k (record { start = b; «end» = q })))
        (filled_moved (span_to k) (body_to k) deep es.1 es.0)) tt))
