-- The list of a script is in normal form.
use Rattle.std.proofs.Common.{◌≡◌, ◌∙◌, refl, ap, ℕ, zero, suc, Bool, true, false, ◌&&◌, ◌||◌, not, Ok, Err, List, List as Row, [], ◌∷◌, ◌++◌, drop, Option, Some, None, is_some}
use Rattle.std.proofs.lemmas.Bool.{and_from, and_parts}
use Rattle.std.proofs.Math.Bool.{and-false, or-true}
use Rattle.shgrammar.specs.declared.keep.Keep.TheVariants.{Whole}
use Rattle.shgrammar.specs.declared.mode.Mode.{Mode}
use Rattle.shgrammar.specs.declared.mode.Piece.{Piece}
use Rattle.shgrammar.specs.declared.mode.Piece.TheVariants as pieces
use Rattle.shgrammar.specs.declared.token.Closing.{Closing}
use Rattle.shgrammar.specs.declared.token.Closing.TheVariants as closings
use Rattle.shgrammar.specs.declared.token.Next.{Next}
use Rattle.shgrammar.specs.declared.token.Opener.{Opener}
use Rattle.shgrammar.specs.declared.token.Opener.TheVariants as openers
use Rattle.shgrammar.specs.declared.token.Position.{Position}
use Rattle.shgrammar.specs.declared.token.Position.TheVariants.{Command, Prefix, Suffix}
use Rattle.shast.specs.declared.tree.Span.{Span}
use Rattle.shast.specs.declared.tree.AndOrOperator.{AndOrOperator}
use Rattle.shast.specs.Tree.{APipelinePart, AnAndOrPart, ABranch, AForm, Entries, pipeline_parts_of, and_or_parts_of, branches_of, AnEntry, AnItem, ASubst, AWord, item, entries_of, items_of, substs_of, ACommand, ItemsOf, argument, redirect, with_redirects, simple, compound, formed, function, ACaseItem, cases_of, patterns_of}
use Rattle.shast.specs.Normal.{is_blank_entry, is_broken, is_command, holds_command, first_not_blank, first_not_broken, is_whole, are_normal, is_normal_entry, are_normal_items, is_normal_item, is_normal_word, are_normal_substs, is_normal_subst, is_normal_join, broken_by, is_normal_command, is_normal_pipeline, are_normal_pipes, is_normal_and_or, are_normal_and_ors, is_normal_branch, are_normal_branches, is_normal_else, are_normal_words, is_normal_form, is_normal, are_normal_patterns, is_normal_case, are_normal_cases}
use Rattle.shgrammar.specs.Sights.{Given, given, State, standing}
use Rattle.shgrammar.specs.Form.{Read, Form, step_if}
use Rattle.shgrammar.specs.Words.{Inner, WordSoFar, word_so_far, opened, piece_row, a_piece, contents, a_word}
use Rattle.shgrammar.specs.Commands.{is_empty, is_pipe, begins_simple, begins_word, begins_redirect, begins_pipeline, opener_of, compound_by, and_or_operator_of, breaks, ItemsSoFar, items_so_far, after_word, a_target, one_redirect, after_redirect, redirect_turn, with_redirect_list, as_item, an_item, item_by, item_turn, a_simple, with_comment, JoinSoFar, join_turn, a_join, a_command, PipesSoFar, pipes_so_far, one_command, pipe_turn, a_pipeline, AndOrSoFar, and_or_so_far, one_pipeline, joined_by, and_or_turn, an_and_or, an_entry, a_word_command, is_word, is_paren}
use Rattle.shgrammar.specs.Lists.{Listed, ListSoFar, list_so_far, none_listed, is_blank_next, with_command, with_remark, next_line, one_entry, entry_turn, remark_by, a_remark, on_line, list_turn, a_list}
use Rattle.shgrammar.specs.Compounds.{BranchesSoFar, branches_so_far, Closed, is_closing, a_branch, elif_turn, an_else, an_if, a_loop, a_group, a_for_name, word_turn, for_words, a_for_head, after_remarks, a_for, a_form, a_compound, a_function, under_name, a_case_word, begins_pattern, PatternsSoFar, a_pattern, one_pattern, pattern_turn, a_pattern_list, a_body, CasesSoFar, cases_so_far, one_case, case_turn, a_case_head, a_case}
use Rattle.shgrammar.specs.Substitutions.{substitution_list, a_substitution, one_substitution}
use Rattle.shgrammar.specs.Levels.{most_open, level}
use Rattle.shgrammar.specs.Lines.{an_open_line, a_line}
use Rattle.shgrammar.specs.HereDocuments.{own_level}
use Rattle.shast.proofs.Going.{row_filled}
use Rattle.shast.proofs.OpenSame.{first_filled, all_filled}
use Rattle.shgrammar.specs.Scripts.{AScript, LinesSoFar, is_blank_line, line_from, script_by, script_below, script_on, script_at, nothing_yet}
use Rattle.shgrammar.proofs.Holds.{tells_with_bytes, tells_level, Holds, Tells, Turned, tells_then, tells_token, tells_many, tells_ending, tells_inside, after, gives, picked_by, pushed_on, stops}
use Rattle.shast.specs.Nodes.{word_span}
use Rattle.shgrammar.specs.declared.edition.Edition.{Edition}

-- ---- rows that grow at their end

-- what holds of the items of a simple command so far
pub record NormalRow (is : Row AnItem) : Type 0 where
  pub first : first_not_broken (items_of is) ≡ true
  pub all : are_normal_items (items_of is) ≡ true

-- no item yet
pub no_items : NormalRow []
no_items = record { first = refl; all = refl }

-- all items, with one more at the end
items_more : (is : Row AnItem) (i : AnItem) → are_normal_items (items_of is) ≡ true → is_normal_item i ≡ true →
    are_normal_items (items_of (is ++ i ∷ [])) ≡ true
items_more [] i all one = and_from _ _ one refl
items_more (j ∷ is) i all one = let parts = and_parts _ _ all in and_from _ _ parts.0 (items_more is i parts.1 one)

-- the first item, with one more at the end
first_item : (is : Row AnItem) (i : AnItem) (broken : Bool) → first_not_broken (items_of is) ≡ true →
    is_broken i ≡ (not (is_empty is) && broken)
    → first_not_broken (items_of (is ++ i ∷ [])) ≡ true
first_item [] i broken first e = ap not e
first_item (j ∷ is) i broken first e = first

-- one more item, which may be broken only where one stands before it
pub row_more : (is : Row AnItem) (i : AnItem) (broken : Bool) → NormalRow is → is_normal_item i ≡ true →
    is_broken i ≡ (not (is_empty is) && broken)
    → NormalRow (is ++ i ∷ [])
row_more is i broken row one e =
    record { first = first_item is i broken row.first e; all = items_more is i row.all one }

-- two rows, one after the other
pub entries_join : (es ls : Row AnEntry) → are_normal (entries_of es) ≡ true → are_normal (entries_of ls) ≡ true →
    are_normal (entries_of (es ++ ls)) ≡ true
entries_join [] ls all more = more
entries_join (e ∷ es) ls all more = let parts = and_parts _ _ all in
    and_from _ _ parts.0 (entries_join es ls parts.1 more)

-- of two that may hold, where the second follows from another
or_more : (a b c : Bool) → (b ≡ true → c ≡ true) → (a || b) ≡ true → (a || c) ≡ true
or_more true b c more e = refl
or_more false b c more e = more e

-- a list holds a command, where its last entry is one, or where one stood before that
command_last : (es : Row AnEntry) (e : AnEntry) → is_command e ≡ true → holds_command (entries_of (es ++ e ∷ [])) ≡ true
command_last [] e one = rw one refl
command_last (x ∷ es) e one = rw (command_last es e one) (or-true (is_command x))

still_command : (es : Row AnEntry) (e : AnEntry) → holds_command (entries_of es) ≡ true →
    holds_command (entries_of (es ++ e ∷ [])) ≡ true
still_command [] e so = absurd cc
still_command (x ∷ es) e so = or_more (is_command x) _ _ (still_command es e) so

-- What holds of the entries of a list so far, whose first one may be blank where the
-- flag says so: before it no other is.
pub record NormalList (blank : Bool) (l : Listed) : Type 0 where
  pub first : blank ≡ false → first_not_blank (entries_of l.entries) ≡ true
  pub none : blank ≡ false → is_empty l.entries ≡ true → l.blank ≡ false
  pub all : are_normal (entries_of l.entries) ≡ true
  pub command : l.commands ≡ true → holds_command (entries_of l.entries) ≡ true

-- no entry yet
pub no_entries : (blank : Bool) → NormalList blank (none_listed blank)
no_entries blank = record { first = λ e. refl; none = λ e f. e; all = refl; command = λ e. absurd cc }

-- the first entry, with one more at the end
first_entry : (es : Row AnEntry) (e : AnEntry) (blank begun : Bool) → first_not_blank (entries_of es) ≡ true →
    (is_empty es ≡ true → blank ≡ false)
    → is_blank_entry e ≡ (blank && begun) → first_not_blank (entries_of (es ++ e ∷ [])) ≡ true
first_entry [] e blank begun first none is = ap not (is ∙ ap (λ b. b && begun) (none refl))
first_entry (x ∷ es) e blank begun first none is = first

-- a row with one more at its end is not empty
not_empty : {A : Type 0} (xs : Row A) (x : A) → is_empty (xs ++ x ∷ []) ≡ true → ⊥
not_empty [] x e = absurd cc
not_empty (y ∷ xs) x e = absurd cc

-- one more command, or comment, of a list
pub command_more : (blank : Bool) (l : Listed) (e : AnEntry) (parted : Option ℕ) → NormalList blank l →
    is_normal_entry e ≡ true → is_command e ≡ true → is_blank_entry e ≡ is_blank_next l
    → NormalList blank (with_command l (l.entries ++ e ∷ []) parted)
command_more blank l e parted so one command is =
    record {
      first = λ f. first_entry l.entries e l.blank (not l.begun) (so.first f) (so.none f) is;
      none = λ f g. absurd (not_empty l.entries e g);
      all = entries_join l.entries (e ∷ []) so.all (and_from _ _ one refl);
      command = λ f. command_last l.entries e command;
    }

pub remark_more : (blank : Bool) (l : Listed) (e : AnEntry) → NormalList blank l → is_normal_entry e ≡ true →
    is_blank_entry e ≡ is_blank_next l
    → NormalList blank (with_remark l (l.entries ++ e ∷ []))
remark_more blank l e so one is =
    record {
      first = λ f. first_entry l.entries e l.blank (not l.begun) (so.first f) (so.none f) is;
      none = λ f g. absurd (not_empty l.entries e g);
      all = entries_join l.entries (e ∷ []) so.all (and_from _ _ one refl);
      command = λ f. still_command l.entries e (so.command f);
    }

-- after a newline
pub newline_more : (blank : Bool) (l : Listed) → NormalList blank l → NormalList blank (next_line l)
newline_more blank l so = record {
  first = so.first;
  none = λ e f. rw f (and-false (not l.begun));
  all = so.all;
  command = so.command;
}

-- ---- joins

-- a join with its comments is broken where it was before
all_broken : (cs : Row Span) (broken : Bool) → broken ≡ true → broken_by cs broken ≡ true
all_broken [] broken e = refl
all_broken (c ∷ cs) broken e = e

still_broken : (cs : Row Span) (broken more : Bool) → broken_by cs broken ≡ true → broken_by cs (broken || more) ≡ true
still_broken [] broken more so = refl
still_broken (c ∷ cs) broken more so = rw so refl

-- ---- parts of pipelines and and-or lists, and branches of an `if`

-- a row in normal form stays so with one more command of a pipeline, one more pipeline, or one more branch
pipes_more : (ps : Row APipelinePart) (p : APipelinePart) → are_normal_pipes (pipeline_parts_of ps) ≡ true →
    is_normal_join p.join ≡ true → is_normal_command p.command ≡ true
    → are_normal_pipes (pipeline_parts_of (ps ++ p ∷ [])) ≡ true
pipes_more [] p all join one = and_from _ _ (and_from _ _ join one) refl
pipes_more (q ∷ ps) p all join one = let parts = and_parts _ _ all in
    and_from _ _ parts.0 (pipes_more ps p parts.1 join one)

joined_more : (ps : Row AnAndOrPart) (p : AnAndOrPart) → are_normal_and_ors (and_or_parts_of ps) ≡ true →
    is_normal_join p.join ≡ true → is_normal_pipeline p.pipeline ≡ true
    → are_normal_and_ors (and_or_parts_of (ps ++ p ∷ [])) ≡ true
joined_more [] p all join one = and_from _ _ (and_from _ _ join one) refl
joined_more (q ∷ ps) p all join one = let parts = and_parts _ _ all in
    and_from _ _ parts.0 (joined_more ps p parts.1 join one)

branches_more : (bs : Row ABranch) (b : ABranch) → are_normal_branches (branches_of bs) ≡ true →
    is_normal_branch b ≡ true → are_normal_branches (branches_of (bs ++ b ∷ [])) ≡ true
branches_more [] b all one = and_from _ _ one refl
branches_more (c ∷ bs) b all one = let parts = and_parts _ _ all in
    and_from _ _ parts.0 (branches_more bs b parts.1 one)

-- ---- substitutions of a word

-- a row of substitutions in normal form stays so with one more at the end
substs_more : (ss : Row ASubst) (s : ASubst) → are_normal_substs (substs_of ss) ≡ true → is_normal_subst s ≡ true →
    are_normal_substs (substs_of (ss ++ s ∷ [])) ≡ true
substs_more [] s all one = and_from _ _ one refl
substs_more (z ∷ ss) s all one = let parts = and_parts _ _ all in and_from _ _ parts.0 (substs_more ss s parts.1 one)

-- ---- patterns and items of a `case`

-- a row of patterns, or of items, in normal form stays so with one more at the end
patterns_more : (ws : Row AWord) (w : AWord) → are_normal_patterns (patterns_of ws) ≡ true → is_normal_word w ≡ true →
    are_normal_patterns (patterns_of (ws ++ w ∷ [])) ≡ true
patterns_more [] w all one = and_from _ _ one refl
patterns_more (v ∷ ws) w all one = let parts = and_parts _ _ all in
    and_from _ _ parts.0 (patterns_more ws w parts.1 one)

cases_more : (cs : Row ACaseItem) (c : ACaseItem) → are_normal_cases (cases_of cs) ≡ true → is_normal_case c ≡ true →
    are_normal_cases (cases_of (cs ++ c ∷ [])) ≡ true
cases_more [] c all one = and_from _ _ one refl
cases_more (d ∷ cs) c all one = let parts = and_parts _ _ all in and_from _ _ parts.0 (cases_more cs c parts.1 one)

-- ---- comments before a list

-- with comments before it a list holds a command as before, and it stays whole and in normal form
remarks_hold : (cs : Row Span) (es : Entries) → holds_command es ≡ true → holds_command (after_remarks cs es) ≡ true
remarks_hold [] es so = so
remarks_hold (c ∷ cs) es so = remarks_hold cs es so

whole_after : (cs : Row Span) (es : Entries) → is_whole es ≡ true → is_whole (after_remarks cs es) ≡ true
whole_after [] es so = so
whole_after (c ∷ cs) es so = and_from _ _ (remarks_hold cs es (and_parts _ _ so).0) refl

normal_after : (cs : Row Span) (es : Entries) → are_normal es ≡ true → are_normal (after_remarks cs es) ≡ true
normal_after [] es so = so
normal_after (c ∷ cs) es so = normal_after cs es so

-- ---- scripts

-- one more line of a script, whose first entry may be blank only where one stands before it
pub script_more : (gap : Bool) (es : Row AnEntry) (ls : Row AnEntry) → is_normal (entries_of es) ≡ true →
    (gap && not (is_empty es) ≡ false → first_not_blank (entries_of ls) ≡ true)
    → are_normal (entries_of ls) ≡ true → is_normal (entries_of (es ++ ls)) ≡ true
script_more gap [] ls list first all = and_from _ _ (first (and-false gap)) all
script_more gap (e ∷ es) ls list first all = let parts = and_parts _ _ list in
    and_from _ _ parts.0 (entries_join (e ∷ es) ls parts.1 all)

-- ---- what the rows read

module _ (g : Given) where
  -- P holds of what r reads with its tree, and of the state there
  abbrev N : {X : Type 0} → Form X → (X → State → Type 0) → State → Type 0
  N r P s = Tells Whole g r P s

  -- ---- words

  -- Each row of a word: where the substitutions so far are in normal form, so are those with what it adds.

  -- the substitutions of the word so far are in normal form
  abbrev Substs : WordSoFar → State → Type 0
  Substs h t = are_normal_substs (substs_of h.substs) ≡ true

  -- what may be opened is in normal form
  pub record InnerNormal (inner : Inner) : Type 0 where
    pub construct : (mode : Mode) (b : ℕ) (ss : Row ASubst) (s : State) → are_normal_substs (substs_of ss) ≡ true
        → N (inner.construct mode b ss) (λ zs t. are_normal_substs (substs_of zs) ≡ true) s
    pub substitution : (b : ℕ) (ss : Row ASubst) (s : State) → are_normal_substs (substs_of ss) ≡ true
        → N (inner.substitution b ss) (λ zs t. are_normal_substs (substs_of zs) ≡ true) s
    pub compound : (o : Opener) (s : State) → N (inner.compound o) (λ c t. is_normal_command c.0 ≡ true) s
    pub function : (name : Span) (s : State) → N (inner.function name) (λ c t. is_normal_command c.0 ≡ true) s

  module _ (inner : Inner) (fine : InnerNormal inner) where
    -- after a construct that opens, after a piece of each kind, and after the piece that is there the
    -- substitutions so far are in normal form
    normal_opened : (mode : Mode) (b : ℕ) (h : WordSoFar) (s : State) → Substs h s →
        N (opened inner mode b h) (Turned Whole g Substs) s
    normal_opened mode b h s so =
        tells_then Whole g (fine.construct mode b h.substs s so) (λ zs t good. gives good)

    normal_piece_by : (mode : Mode) (b : ℕ) (h : WordSoFar) (piece : Piece) (s : State) → Substs h s →
        N (piece_row inner mode b h piece) (Turned Whole g Substs) s
    normal_piece_by mode b h pieces.Closer s so = after (λ x t. gives so)
    normal_piece_by mode b h pieces.Missing s so = record { told = tt }
    normal_piece_by mode b h pieces.LoneBackslash s so = record { told = tt }
    normal_piece_by mode b h pieces.Escape s so = after (λ x t. after (λ y u. gives so))
    normal_piece_by mode b h pieces.Single s so = after (λ x t. gives so)
    normal_piece_by mode b h pieces.DollarSingle s so = after (λ x t. gives so)
    normal_piece_by mode b h pieces.Double s so = after (λ q t. after (λ x u. normal_opened _ q h u so))
    normal_piece_by mode b h pieces.Backquote s so = after (λ x t. gives so)
    normal_piece_by mode b h pieces.Pid s so = after (λ x t. after (λ y u. gives so))
    normal_piece_by mode b h pieces.Subst s so =
        after (λ q t. after (λ x u. after
        (λ y v. tells_then Whole g (fine.substitution q h.substs v so) (λ zs w good. gives good))))
    normal_piece_by mode b h pieces.Arith s so =
        after (λ q t. after (λ x u. after (λ y v. after (λ z w. normal_opened _ q h w so))))
    normal_piece_by mode b h pieces.Param s so =
        after (λ q t. after (λ x u. after (λ y v. after (λ z w. after (λ m a. normal_opened m q h a so)))))
    normal_piece_by mode b h pieces.Open s so = after (λ x t. gives so)
    normal_piece_by mode b h pieces.Close s so = after (λ x t. gives so)
    normal_piece_by mode b h pieces.BadClose s so = record { told = tt }
    normal_piece_by mode b h pieces.Ordinary s so = after (λ x t. gives so)

    normal_piece : (mode : Mode) (b : ℕ) (h : WordSoFar) (s : State) → Substs h s →
        N (a_piece inner mode b h) (Turned Whole g Substs) s
    unfolding a_piece
    normal_piece mode b h s so = after (λ piece t. normal_piece_by mode b h piece t so)

    -- the substitutions of all pieces up to what closes them are in normal form, and so is a word
    pub normal_contents : (mode : Mode) (b : ℕ) (ss : Row ASubst) (s : State) → are_normal_substs (substs_of ss) ≡ true
        → N (contents inner mode b ss) (λ zs t. are_normal_substs (substs_of zs) ≡ true) s
    unfolding contents
    normal_contents mode b ss s so =
        tells_then Whole g (tells_many Whole g (a_piece inner mode b) Substs (normal_piece mode b)
        (word_so_far 0 ss) s so)
        (λ h t good. gives good)

    normal_word : (s : State) → N (a_word inner) (λ w t. is_normal_word w ≡ true) s
    unfolding a_word
    normal_word s =
        after (λ p t. tells_then Whole g
        (tells_token Whole g {Q = λ w u. are_normal_substs (substs_of w.0) ≡ true} (normal_contents _ p [] t refl)
        (λ ss u good. good)) (λ w u good. gives good))

    -- ---- items, redirections and simple commands

    -- Each row of a command: where what it has so far is in normal form, so is what it gives.

    -- the items so far are in normal form, and the first of them is not broken
    abbrev ItemsSo : ItemsSoFar → State → Type 0
    ItemsSo i t = NormalRow i.items

    -- an item that is a word is in normal form where the word is, be it an assignment or not
    normal_content : (position : Position) (broken : Bool) (w : AWord) → is_normal_word w ≡ true →
        is_normal_item (item broken (as_item position w)) ≡ true
    normal_content Command broken w good = good
    normal_content Prefix broken w good = good
    normal_content Suffix broken w good = good

    -- the items so far with one more that is a word are in normal form
    normal_item : (i : ItemsSoFar) (position : Position) (s : State) → NormalRow i.items →
        N (an_item inner i position) (Turned Whole g ItemsSo) s
    unfolding an_item
    normal_item i position s so =
        tells_then Whole g (normal_word s)
        (λ w t good. pushed_on (after
        (λ n u. gives (row_more i.items _ i.next.broken so
        (normal_content position (breaks i) w good) refl))))

    -- the word of a redirection is in normal form
    normal_target : (s : State) → N (a_target inner) (λ w t. is_normal_word w.0 ≡ true) s
    unfolding a_target
    normal_target s = after (λ n t. picked_by (is_word n.token)
        (λ e. tells_with_bytes Whole g (normal_word t) (λ a u so. so)) (stops inner n))

    -- after a redirection P holds, where it does of the items with any one more that is in normal form and
    -- broken as this one is
    normal_redirect : (P : ItemsSoFar → State → Type 0) (broken : Bool) (position : Position) (is : Row AnItem)
        (n : Next)
        (s : State)
        → ((i : AnItem) (m : Next) (t : State) → is_normal_item i ≡ true → is_broken i ≡ broken →
        P (items_so_far (is ++ i ∷ []) position m) t) → N (one_redirect inner broken position is n) (Turned Whole g P) s
    unfolding one_redirect
    normal_redirect P broken position is n s more =
        after (λ p t. after (λ d u. after
        (λ o v. tells_then Whole g (normal_target v) (λ w x good. after (λ h a. pushed_on (after (λ m y.
        gives (more (item broken (redirect d.0 o.0 o.1 w.0 h)) m y good refl))))))))

    -- the items so far are in normal form with one more, or none, by the position after it and by what the
    -- token begins; and so is the simple command of them all
    normal_item_by : (i : ItemsSoFar) (position : Option Position) (s : State) → NormalRow i.items →
        N (item_by inner i position) (Turned Whole g ItemsSo) s
    normal_item_by i (Some position) s so = normal_item i position s so
    normal_item_by i None s so =
        picked_by (begins_redirect i.next.token)
        (λ e. normal_redirect ItemsSo (breaks i) (after_redirect i.position) i.items i.next s
        (λ x m t good is. row_more i.items x i.next.broken so good is)) (gives so)

    normal_item_turn : (i : ItemsSoFar) (s : State) → NormalRow i.items →
        N (item_turn inner i) (Turned Whole g ItemsSo) s
    unfolding item_turn
    normal_item_turn i s so = normal_item_by i (after_word i.next.token) s so

    normal_simple : (i : ItemsSoFar) (s : State) → NormalRow i.items →
        N (a_simple inner i) (λ c t. is_normal_command c.0 ≡ true) s
    unfolding a_simple
    normal_simple i s so = tells_then Whole g (tells_many Whole g (item_turn inner) ItemsSo normal_item_turn i s so)
        (λ is t good. gives (and_from _ _ good.first good.all))

    -- ---- joins

    -- with one more comment, or none, a join that has a comment is broken
    normal_with : (cs : Row Span) (c : Option Span) (broken : Bool) (s : State) → broken_by cs broken ≡ true →
        N (with_comment cs c) (λ ds t. broken_by ds (broken || is_some c) ≡ true) s
    normal_with cs (Some c) broken s so = record { told = all_broken (cs ++ c ∷ []) _ (or-true broken) }
    normal_with cs None broken s so = gives (still_broken cs broken false so)

    -- the join so far is in normal form: where it has a comment it is broken
    abbrev JoinHolds : JoinSoFar → State → Type 0
    JoinHolds j t = is_normal_join j.join ≡ true

    -- whether a turn goes on or is the last, its join is in normal form
    join_holds : (p : Bool) (j : JoinSoFar) (t : State) → is_normal_join j.join ≡ true →
        Turned Whole g JoinHolds (step_if p j) t
    join_holds true j t so = so
    join_holds false j t so = so

    -- the join so far is in normal form with one more comment or newline, or none, and so is a whole join
    normal_join_turn : (j : JoinSoFar) (s : State) → is_normal_join j.join ≡ true →
        N (join_turn j) (Turned Whole g JoinHolds) s
    unfolding join_turn
    normal_join_turn j s so =
        after (λ c t. tells_then Whole g (normal_with j.join.comments c.0 j.join.broken t so)
        (λ cs u good. after (λ l v. gives (join_holds l.0 _ v (still_broken cs _ l.0 good)))))

    normal_join : (broken : Bool) (s : State) → N (a_join broken) (λ x t. is_normal_join x.0 ≡ true) s
    unfolding a_join
    normal_join broken s = after (λ n t. tells_then Whole g
        (tells_many Whole g join_turn JoinHolds normal_join_turn _ t refl) (λ j u good. gives good))

    -- ---- commands of any kind, with the redirections after compound ones

    -- the redirections after a compound command are in normal form; the first of them may be broken
    abbrev RedirectsSo : ItemsSoFar → State → Type 0
    RedirectsSo i t = are_normal_items (items_of i.items) ≡ true

    -- with one more of them, or none, they are in normal form
    normal_redirect_turn : (i : ItemsSoFar) (s : State) → RedirectsSo i s →
        N (redirect_turn inner i) (Turned Whole g RedirectsSo) s
    unfolding redirect_turn
    normal_redirect_turn i s so =
        picked_by (begins_redirect i.next.token)
        (λ e. normal_redirect RedirectsSo i.next.broken Command i.items i.next s
        (λ x m t good is. items_more i.items x so good)) (gives so)

    -- a command and redirections that are in normal form make one that is
    normal_with_redirects : (c : ACommand) (is : ItemsOf Span Span) → is_normal_command c ≡ true →
        are_normal_items is ≡ true → is_normal_command (with_redirects c is) ≡ true
    normal_with_redirects (compound (formed form span others)) is one all = and_from _ _ (and_parts _ _ one).0 all
    normal_with_redirects (simple items) is one all = one
    normal_with_redirects (function name comments body) is one all = one

    -- a command is in normal form with all redirections that stand after it
    normal_with_redirect_list : (c : ACommand × Next) (s : State) → is_normal_command c.0 ≡ true →
        N (with_redirect_list inner c) (λ d t. is_normal_command d.0 ≡ true) s
    unfolding with_redirect_list
    normal_with_redirect_list c s one =
        tells_then Whole g (tells_many Whole g (redirect_turn inner) RedirectsSo normal_redirect_turn
        (items_so_far [] Command c.1) s refl)
        (λ r t all. gives (normal_with_redirects c.0 (items_of r.items) one all))

    -- a compound command is in normal form, and so are a command that begins with a word, and any command
    normal_compound_by : (n : Next) (o : Option Opener) (s : State) →
        N (compound_by inner n o) (λ c t. is_normal_command c.0 ≡ true) s
    normal_compound_by n (Some o) s = tells_then Whole g (fine.compound o s) normal_with_redirect_list
    normal_compound_by n None s = stops inner n

    normal_word_command : (s : State) → N (a_word_command inner) (λ c t. is_normal_command c.0 ≡ true) s
    unfolding a_word_command
    normal_word_command s =
        after (λ good t. tells_then Whole g (normal_word t) (λ w u so. after (λ n v.
        picked_by (is_paren n.token)
        (λ e. picked_by good (λ f. fine.function (word_span w) v) (record { told = tt }))
        (pushed_on (normal_simple (items_so_far (item false (argument w) ∷ []) Suffix n) v
        (row_more [] (item false (argument w)) false no_items so refl))))))

    normal_command : (n : Next) (s : State) → N (a_command inner n) (λ c t. is_normal_command c.0 ≡ true) s
    unfolding a_command
    normal_command n s =
        picked_by (is_word n.token) (λ e. normal_word_command s)
        (picked_by (begins_simple n.token) (λ e. normal_simple (items_so_far [] Command n) s no_items)
        (normal_compound_by n (opener_of n.token) s))

    -- ---- pipelines, and-or lists and entries

    -- the commands after the first so far are in normal form, with their joins
    abbrev PipesHold : PipesSoFar → State → Type 0
    PipesHold p t = are_normal_pipes (pipeline_parts_of p.parts) ≡ true

    -- they are so with one more command, or none, and the whole pipeline is in normal form
    normal_one_command : (p : PipesSoFar) (s : State) → PipesHold p s →
        N (one_command inner p) (Turned Whole g PipesHold) s
    unfolding one_command
    normal_one_command p s so =
        after (λ x t. tells_then Whole g (normal_join p.next.broken t)
        (λ j u good. tells_then Whole g (normal_command j.1 u)
        (λ c v fine. pushed_on (gives (pipes_more p.parts _ so good fine)))))

    normal_pipe_turn : (p : PipesSoFar) (s : State) → PipesHold p s →
        N (pipe_turn inner p) (Turned Whole g PipesHold) s
    unfolding pipe_turn
    normal_pipe_turn p s so = picked_by (is_pipe p.next.token) (λ e. normal_one_command p s so)
        (gives so)

    normal_pipeline : (n : Next) (s : State) → N (a_pipeline inner n) (λ p t. is_normal_pipeline p.0 ≡ true) s
    unfolding a_pipeline
    normal_pipeline n s =
        after (λ b t. tells_then Whole g (normal_command b.1 t)
        (λ c u good. tells_then Whole g
        (tells_many Whole g (pipe_turn inner) PipesHold normal_pipe_turn (pipes_so_far [] c.1) u refl)
        (λ p v all. gives (and_from _ _ good all))))

    -- the pipelines after the first so far are in normal form, with their joins
    abbrev AndOrHolds : AndOrSoFar → State → Type 0
    AndOrHolds a t = are_normal_and_ors (and_or_parts_of a.parts) ≡ true

    -- they are so with one more pipeline, or none, and the whole and-or list is in normal form
    normal_one_pipeline : (a : AndOrSoFar) (o : AndOrOperator) (s : State) → AndOrHolds a s →
        N (one_pipeline inner a o) (Turned Whole g AndOrHolds) s
    unfolding one_pipeline
    normal_one_pipeline a o s so =
        after (λ x u. tells_then Whole g (normal_join a.next.broken u)
        (λ j v good. tells_then Whole g (normal_pipeline j.1 v)
        (λ p w fine. pushed_on (gives (joined_more a.parts _ so good fine)))))

    normal_joined_by : (a : AndOrSoFar) (o : Option AndOrOperator) (s : State) → AndOrHolds a s →
        N (joined_by inner a o) (Turned Whole g AndOrHolds) s
    normal_joined_by a (Some o) s so = normal_one_pipeline a o s so
    normal_joined_by a None s so = gives so

    normal_and_or_turn : (a : AndOrSoFar) (s : State) → AndOrHolds a s →
        N (and_or_turn inner a) (Turned Whole g AndOrHolds) s
    unfolding and_or_turn
    normal_and_or_turn a s so = normal_joined_by a (and_or_operator_of a.next.token) s so

    normal_and_or : (n : Next) (s : State) → N (an_and_or inner n) (λ a t. is_normal_and_or a.0 ≡ true) s
    unfolding an_and_or
    normal_and_or n s =
        tells_then Whole g (normal_pipeline n s)
        (λ p t good. tells_then Whole g
        (tells_many Whole g (and_or_turn inner) AndOrHolds normal_and_or_turn (and_or_so_far [] p.1) t refl)
        (λ a u all. gives (and_from _ _ good all)))

    -- an entry that is read is in normal form and a command, and is blank just where that is given
    normal_entry : (blank : Bool) (n : Next) (s : State) →
        N (an_entry inner blank n) (λ e t. (is_normal_entry e.entry ≡ true) × (is_command e.entry ≡ true)
        × (is_blank_entry e.entry ≡ blank)) s
    unfolding an_entry
    normal_entry blank n s = tells_then Whole g (normal_and_or n s)
        (λ a t good. after (λ z u. after (λ c v. gives (good, refl, refl))))

    -- ---- lists

    -- Each row of a list: where its entries so far are in normal form, so are those with what it adds.

    module _ (blank : Bool) where
      -- the entries of the list so far are in normal form; the first may be blank where the flag says so
      abbrev ListHolds : ListSoFar → State → Type 0
      ListHolds l t = NormalList blank l.list

      -- whether a turn goes on or is the last, its entries are in normal form
      step_holds : (p : Bool) (l : ListSoFar) (t : State) → NormalList blank l.list →
          Turned Whole g ListHolds (step_if p l) t
      step_holds true l t so = so
      step_holds false l t so = so

      -- the entries so far are in normal form with one more, or none, and with the comment of a line
      normal_one_entry : (l : ListSoFar) (s : State) → NormalList blank l.list →
          N (one_entry inner l) (Turned Whole g ListHolds) s
      unfolding one_entry
      normal_one_entry l s so =
          tells_then Whole g (normal_entry _ l.next s)
          (λ e t good. pushed_on (gives
          (step_holds (is_some e.parted) _ t (command_more blank l.list e.entry e.parted so good.0 good.1 good.2))))

      normal_entry_turn : (l : ListSoFar) (s : State) → NormalList blank l.list →
          N (entry_turn inner l) (Turned Whole g ListHolds) s
      unfolding entry_turn
      normal_entry_turn l s so = picked_by (begins_pipeline l.next.token) (λ e. normal_one_entry l s so)
          (gives so)

      normal_remark_by : (l : ListSoFar) (x : Option Span × Next) (s : State) → NormalList blank l.list →
          N (remark_by l x) ListHolds s
      normal_remark_by l (Some c, n) s so = pushed_on (gives (remark_more blank l.list _ so refl refl))
      normal_remark_by l (None, n) s so = gives so

      -- they are so with the entries and the comment of one line, and with one more line of a list
      normal_on_line : (l : ListSoFar) (s : State) → NormalList blank l.list → N (on_line inner l) ListHolds s
      unfolding on_line a_remark
      normal_on_line l s so =
          tells_then Whole g (tells_many Whole g (entry_turn inner) ListHolds normal_entry_turn l s so)
          (λ m t good. after (λ x u. normal_remark_by m x u good))

      normal_list_turn : (l : ListSoFar) (s : State) → NormalList blank l.list →
          N (list_turn inner l) (Turned Whole g ListHolds) s
      unfolding list_turn
      normal_list_turn l s so = tells_then Whole g (normal_on_line l s so)
          (λ m t good. after (λ x u. gives (step_holds x.0 _ u (newline_more blank m.list good))))

      -- the entries of a line of a script are in normal form without the bodies of its here-documents
      normal_open_line : (s : State) →
          N (an_open_line inner blank)
          (λ x t. (blank ≡ false → first_not_blank (entries_of x.0) ≡ true) × (are_normal (entries_of x.0) ≡ true)) s
      unfolding an_open_line
      normal_open_line s = after (λ n t. tells_then Whole g
          (normal_on_line (list_so_far (none_listed blank) n) t (no_entries blank))
          (λ l u so. after (λ newline v. gives (so.first, so.all))))

      -- they are so with the bodies too, which change nothing of it
      pub normal_line : (s : State) →
          N (a_line inner blank) (λ x t. (blank ≡ false → first_not_blank (entries_of x.0) ≡ true)
          × (are_normal (entries_of x.0) ≡ true)) s
      unfolding a_line
      normal_line s =
          tells_then Whole g {P = λ l t. (blank ≡ false → first_not_blank (entries_of l.0.0) ≡ true)
          × (are_normal (entries_of l.0.0) ≡ true)}
          (tells_level Whole g (normal_open_line (own_level s)) (λ x t so. so))
          (λ l t so. gives (
            λ e. ap first_not_blank (row_filled l.1 l.0.0) ∙ first_filled l.1 (entries_of l.0.0) ∙ so.0 e,
            ap are_normal (row_filled l.1 l.0.0) ∙ all_filled l.1 (entries_of l.0.0) ∙ so.1,
          ))

    -- a list holds a command and is in normal form
    abbrev HasCommand : {X : Type 0} → (X → Entries) → X → State → Type 0
    HasCommand of x t = (is_whole (of x) ≡ true) × (are_normal (of x) ≡ true)

    -- so is each list that is read: one without a command is a fault
    normal_list : (n : Next) (s : State) → N (a_list inner n) (HasCommand (λ x. x.0)) s
    unfolding a_list
    normal_list n s =
        tells_then Whole g (tells_many Whole g (list_turn inner) (ListHolds false) (normal_list_turn false)
        (list_so_far (none_listed false) n) s (no_entries false))
        (λ l t so. picked_by l.list.commands
        (λ e. gives (and_from _ _ (so.command e) (so.first refl), so.all)) (stops inner l.next))

    -- ---- compound commands

    -- Each row of a compound command gives what is in normal form.

    -- a condition and what is run by it
    normal_branch : (n : Next) (s : State) → N (a_branch inner n) (λ x t. is_normal_branch x.0 ≡ true) s
    unfolding a_branch
    normal_branch n s =
        tells_then Whole g (normal_list n s)
        (λ c t one. after (λ k u. tells_then Whole g (normal_list k.1 u)
        (λ b v two. gives (and_from _ _ (and_from _ _ (and_from _ _ one.0 one.1) two.0) two.1))))

    -- the branches after the first so far are in normal form
    abbrev BranchesHold : BranchesSoFar → State → Type 0
    BranchesHold b t = are_normal_branches (branches_of b.branches) ≡ true

    -- one more branch or none, and an `else` or none
    normal_elif : (b : BranchesSoFar) (s : State) → BranchesHold b s →
        N (elif_turn inner b) (Turned Whole g BranchesHold) s
    unfolding elif_turn
    normal_elif b s so =
        picked_by (is_closing closings.Elif b.next.token)
        (λ e. after (λ k t. tells_then Whole g (normal_branch k.1 t)
        (λ x u good. pushed_on (gives (branches_more b.branches x.0 so good)))))
        (gives so)

    normal_else : (n : Next) (s : State) → N (an_else inner n) (λ x t. is_normal_else x.0 ≡ true) s
    unfolding an_else
    normal_else n s =
        picked_by (is_closing closings.Else n.token)
        (λ e. after (λ k t. tells_then Whole g (normal_list k.1 t)
        (λ l u good. gives (and_from _ _ good.0 good.1))))
        (gives refl)

    -- the form of a compound command is in normal form
    abbrev FormHolds : Closed AForm → State → Type 0
    FormHolds f t = is_normal_form f.what ≡ true

    -- an `if`, a loop, and the list of a group with its closer
    normal_if : (n : Next) (s : State) → N (an_if inner n) FormHolds s
    unfolding an_if
    normal_if n s =
        tells_then Whole g (normal_branch n s)
        (λ f t one. tells_then Whole g
        (tells_many Whole g (elif_turn inner) BranchesHold normal_elif (branches_so_far [] f.1) t refl)
        (λ b u all. tells_then Whole g (normal_else b.next u)
        (λ e v other. after (λ c w. gives (and_from _ _ (and_from _ _ one all) other)))))

    normal_loop : (n : Next) (s : State) → N (a_loop inner n) (λ x t. is_normal_branch x.what ≡ true) s
    unfolding a_loop
    normal_loop n s =
        tells_then Whole g (normal_list n s)
        (λ c t one. after (λ d u. tells_then Whole g (normal_list d.1 u)
        (λ b v two. after (λ e w. gives
        (and_from _ _ (and_from _ _ (and_from _ _ one.0 one.1) two.0) two.1)))))

    normal_group : (c : Closing) (n : Next) (s : State) → N (a_group inner c n) (HasCommand (λ x. x.what)) s
    unfolding a_group
    normal_group c n s = tells_then Whole g (normal_list n s) (λ l t good. after (λ k u. gives good))

    -- the name of a `for`, and one more word after `in`, or none
    normal_for_name : (n : Next) (s : State) → N (a_for_name inner n) (λ x t. is_normal_word x.0 ≡ true) s
    unfolding a_for_name
    normal_for_name n s =
        picked_by (begins_word n.token)
        (λ e. after (λ p t. after (λ good u. tells_then Whole g (normal_word u)
        (λ w v so. picked_by good (λ f. after (λ m z. gives so)) (record { told = tt })))))
        (stops inner n)

    normal_word_turn : (i : ItemsSoFar) (s : State) → NormalRow i.items →
        N (word_turn inner i) (Turned Whole g ItemsSo) s
    unfolding word_turn
    normal_word_turn i s so = picked_by (is_word i.next.token) (λ e. normal_item i Suffix s so)
        (gives so)

    -- all these words, what stands before `do`, and the whole `for`
    normal_for_words : (cs : Row Span) (s : State) → N (for_words inner cs) (λ h t. are_normal_words h.words ≡ true) s
    unfolding for_words
    normal_for_words cs s =
        after (λ i t. tells_then Whole g
        (tells_many Whole g (word_turn inner) ItemsSo normal_word_turn (items_so_far [] Suffix i.1) t no_items)
        (λ ws u good. after (λ l v. gives (and_from _ _ good.first good.all))))

    normal_for_head : (n : Next) (s : State) → N (a_for_head inner n) (λ h t. are_normal_words h.words ≡ true) s
    unfolding a_for_head
    normal_for_head n s = after (λ x t. after
        (λ l u. picked_by _ (λ e. normal_for_words l.join.comments u) (gives refl)))

    normal_for : (n : Next) (s : State) → N (a_for inner n) FormHolds s
    unfolding a_for
    normal_for n s =
        tells_then Whole g (normal_for_name n s)
        (λ x t one. tells_then Whole g (normal_for_head x.1 t)
        (λ h u two. after (λ d v. tells_then Whole g (normal_group closings.Done d.1 v)
        (λ b w body. gives
        (and_from _ _ (and_from _ _ (and_from _ _ one two) (whole_after h.comments b.what body.0))
        (normal_after h.comments b.what body.1))))))

    -- the word after `case`
    normal_case_word : (n : Next) (s : State) → N (a_case_word inner n) (λ x t. is_normal_word x.0 ≡ true) s
    unfolding a_case_word
    normal_case_word n s = picked_by (begins_word n.token)
        (λ e. tells_then Whole g (normal_word s) (λ w t so. after (λ m u. gives so))) (stops inner n)

    -- the patterns of an item so far are in normal form
    abbrev PatternsHold : PatternsSoFar → State → Type 0
    PatternsHold p t = are_normal_patterns (patterns_of p.patterns) ≡ true

    -- one more pattern, the same after a `|`, the same or none, and all of them
    normal_pattern : (ws : Row AWord) (s : State) → are_normal_patterns (patterns_of ws) ≡ true →
        N (a_pattern inner ws) PatternsHold s
    unfolding a_pattern
    normal_pattern ws s all = tells_then Whole g (normal_word s)
        (λ w t good. pushed_on (after (λ n u. gives (patterns_more ws w all good))))

    normal_one_pattern : (ws : Row AWord) (s : State) → are_normal_patterns (patterns_of ws) ≡ true →
        N (one_pattern inner ws) (Turned Whole g PatternsHold) s
    unfolding one_pattern
    normal_one_pattern ws s all =
        after (λ x t. after (λ n u. picked_by (begins_word n.token)
        (λ e. tells_then Whole g (normal_pattern ws u all) (λ p v so. gives so)) (stops inner n)))

    normal_pattern_turn : (p : PatternsSoFar) (s : State) → PatternsHold p s →
        N (pattern_turn inner p) (Turned Whole g PatternsHold) s
    unfolding pattern_turn
    normal_pattern_turn p s so = picked_by (is_pipe p.next.token) (λ e. normal_one_pattern p.patterns s so)
        (gives so)

    normal_patterns : (n : Next) (s : State) → N (a_pattern_list inner n) PatternsHold s
    unfolding a_pattern_list
    normal_patterns n s =
        picked_by (begins_pattern n.token)
        (λ e. tells_then Whole g (normal_pattern [] s refl)
        (λ p t so. tells_many Whole g (pattern_turn inner) PatternsHold normal_pattern_turn p t so))
        (stops inner n)

    -- the body of an item, which may hold no command: its first entry is not blank
    normal_body : (n : Next) (s : State) → N (a_body inner n) (ListHolds false) s
    unfolding a_body
    normal_body n s = tells_many Whole g (list_turn inner) (ListHolds false) (normal_list_turn false)
        (list_so_far (none_listed false) n) s (no_entries false)

    -- the items of a `case` so far are in normal form
    abbrev CasesHold : CasesSoFar → State → Type 0
    CasesHold c t = are_normal_cases (cases_of c.items) ≡ true

    -- one more item, the same or none, what stands before the items, and the whole `case`
    normal_one_case : (c : CasesSoFar) (s : State) → CasesHold c s → N (one_case inner c) (Turned Whole g CasesHold) s
    unfolding one_case
    normal_one_case c s so =
        after (λ p t. after (λ n u. tells_then Whole g (normal_patterns n u)
        (λ ps v one. after (λ k w. tells_then Whole g (normal_body k.1 w)
        (λ b x two. after (λ e y. pushed_on
        (gives (cases_more c.items _ so
        (and_from _ _ (and_from _ _ one (two.first refl)) two.all)))))))))

    normal_case_turn : (c : CasesSoFar) (s : State) → CasesHold c s → N (case_turn inner c) (Turned Whole g CasesHold) s
    unfolding case_turn
    normal_case_turn c s so = picked_by (is_closing closings.Esac c.next.token) (λ e. gives so)
        (normal_one_case c s so)

    normal_case_head : (n : Next) (s : State) → N (a_case_head inner n) (λ h t. is_normal_word h.0 ≡ true) s
    unfolding a_case_head
    normal_case_head n s = tells_then Whole g (normal_case_word n s)
        (λ w t so. after (λ l u. after (λ i v. after (λ h x. gives so))))

    normal_case : (n : Next) (s : State) → N (a_case inner n) FormHolds s
    unfolding a_case
    normal_case n s =
        tells_then Whole g (normal_case_head n s)
        (λ h t one. tells_then Whole g
        (tells_many Whole g (case_turn inner) CasesHold normal_case_turn (cases_so_far [] h.1 h.2) t refl)
        (λ c u all. after (λ e v. gives (and_from _ _ one all))))

    -- the form that an opener has, and the compound command with its opener and closer
    normal_form_by : (o : Opener) (n : Next) (s : State) → N (a_form inner o n) FormHolds s
    normal_form_by openers.Brace n s =
        tells_then Whole g (normal_group closings.Brace n s)
        (λ l t good. gives (and_from _ _ good.0 good.1))
    normal_form_by openers.Paren n s =
        tells_then Whole g (normal_group closings.Paren n s)
        (λ l t good. gives (and_from _ _ good.0 good.1))
    normal_form_by openers.If n s = normal_if n s
    normal_form_by openers.While n s = tells_then Whole g (normal_loop n s) (λ l t good. gives good)
    normal_form_by openers.Until n s = tells_then Whole g (normal_loop n s) (λ l t good. gives good)
    normal_form_by openers.For n s = normal_for n s
    normal_form_by openers.Case n s = normal_case n s

    normal_compound : (o : Opener) (s : State) → N (a_compound inner o) (λ c t. is_normal_command c.0 ≡ true) s
    unfolding a_compound
    normal_compound o s = after (λ x t. tells_then Whole g (normal_form_by o x.1 t)
        (λ f u good. pushed_on (gives (and_from _ _ good refl))))

    -- ---- substitutions

    -- the list of a command substitution, which may hold no command: its first entry is not blank
    normal_substitution_list : (s : State) →
        N (substitution_list inner) (λ es t. (first_not_blank es ≡ true) × (are_normal es ≡ true)) s
    unfolding substitution_list
    normal_substitution_list s =
        after (λ n t. tells_then Whole g
        (tells_many Whole g (list_turn inner) (ListHolds false) (normal_list_turn false)
        (list_so_far (none_listed false) n) t (no_entries false))
        (λ l u so. picked_by (is_closing closings.Paren l.next.token)
        (λ e. after (λ w z. after (λ x v. gives (so.first refl, so.all)))) (stops inner l.next)))

    -- one more command substitution, with the bodies of its here-documents
    normal_substitution : (b : ℕ) (ss : Row ASubst) (s : State) → are_normal_substs (substs_of ss) ≡ true →
        N (a_substitution inner b ss) (λ zs t. are_normal_substs (substs_of zs) ≡ true) s
    unfolding a_substitution one_substitution
    normal_substitution b ss s so =
        tells_inside Whole g (tells_then Whole g {P = λ es t. (first_not_blank es.0 ≡ true) × (are_normal es.0 ≡ true)}
        (tells_level Whole g (tells_ending Whole g (normal_substitution_list (own_level s))) (λ es t one. one))
        (λ es t one. after (λ q u. record {
          told =
              substs_more ss _ so (and_from _ _ (first_filled es.1 es.0 ∙ one.0) (all_filled es.1 es.0 ∙ one.1));
        })))

    -- ---- functions

    -- a command in normal form stays so where it becomes the body of a function
    normal_under : (name : Span) (cs : Row Span) (c : ACommand) → is_normal_command c ≡ true →
        is_normal_command (under_name name cs c) ≡ true
    normal_under name cs (simple is) so = so
    normal_under name cs (compound body) so = so
    normal_under name cs (function other ds body) so = so

    -- a function, with its body
    normal_function : (name : Span) (s : State) → N (a_function inner name) (λ c t. is_normal_command c.0 ≡ true) s
    unfolding a_function
    normal_function name s =
        after (λ o t. after (λ c u. after
        (λ l v. tells_then Whole g (normal_compound_by l.next (opener_of l.next.token) v)
        (λ b w good. gives (normal_under name l.join.comments b.0 good)))))

  -- so it is with each number of constructs that may be opened
  normal_level : (room : ℕ) → InnerNormal (level room)
  unfolding level
  normal_level zero = record {
    construct = λ mode b ss s so. record { told = tt };
    substitution = λ b ss s so. record { told = tt };
    compound = λ o s. after (λ p t. record { told = tt });
    function = λ name s. record { told = tt };
  }
  normal_level (suc room) =
      record {
        construct = λ mode b ss s so. normal_contents (level room) (normal_level room) mode b ss s so;
        substitution = λ b ss s so. normal_substitution (level room) (normal_level room) b ss s so;
        compound = λ o s. normal_compound (level room) (normal_level room) o s;
        function = λ name s. normal_function (level room) (normal_level room) name s;
      }

-- ---- a script

module _ (edition : Edition) (B : List ℕ) where
  -- what holds of the entries of a line, whose first one may be blank
  abbrev LineHolds : Bool → Row AnEntry × Bool → State → Type 0
  LineHolds blank x t = (blank ≡ false → first_not_blank (entries_of x.0) ≡ true) × (are_normal (entries_of x.0) ≡ true)

  -- the line of a script that begins at p
  line_so_far : (blank : Bool) (p : ℕ) → Holds (LineHolds blank) (line_from edition B Whole blank p)
  line_so_far blank p = let g = given edition (drop p B) p in
      (normal_line g (level most_open) (normal_level g most_open) blank (standing 0)).told

  -- a script by its next line, where what the lines after that give is in normal form
  script_so : (rest : LinesSoFar → ℕ → AScript) (so : LinesSoFar) (p : ℕ) →
      ((to : LinesSoFar) (q : ℕ) → is_normal (entries_of to.entries) ≡ true → is_normal (rest to q).entries ≡ true)
      → is_normal (entries_of so.entries) ≡ true → (x : Read (Row AnEntry × Bool)) →
      Holds (LineHolds (is_blank_line so)) x → is_normal (script_by rest so p x).entries ≡ true
  script_so rest so p more list (Ok ((es, true), t)) line =
      more _ _ (script_more so.gap so.entries es list line.0 line.1)
  script_so rest so p more list (Ok ((es, false), t)) line = script_more so.gap so.entries es list line.0 line.1
  script_so rest so p more list (Err f) line = list

  -- with less than n bytes left
  below_normal : (n : ℕ) (so : LinesSoFar) (p : ℕ) → is_normal (entries_of so.entries) ≡ true →
      is_normal (script_below edition B n so p).entries ≡ true
  unfolding script_below
  below_normal zero so p list = list
  below_normal (suc n) so p list =
      script_so (script_below edition B n) so p (λ to q good. below_normal n to q good) list _
      (line_so_far (is_blank_line so) p)

  -- and from the front of the text
  script_normal : is_normal (script_at edition B).entries ≡ true
  unfolding script_at script_on
  script_normal = below_normal _ nothing_yet 0 refl

-- what is computed for a script has its list in normal form
pub script_in_normal_form : (edition : Edition) → (B : List ℕ) (s : AScript) → s ≡ script_at edition B →
    is_normal s.entries ≡ true
script_in_normal_form edition B s e = ap (λ (x : AScript). is_normal x.entries) e ∙ script_normal edition B
