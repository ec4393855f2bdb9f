-- No node of what was read names an offset past the place where the reading stands then.
use Rattle.std.proofs.Common.{◌≡◌, refl, sym, subst, ℕ, zero, suc, ◌+◌, ◌≤◌, Bool, true, false, cond, Ok, List, List as Row, [], ◌∷◌, ◌++◌, Option, Some, None, is_some, arith, ⊎_elim}
use Rattle.std.specs.Prelude.{All, MatchOption, unwrap_or}
use Rattle.std.proofs.lemmas.Bool.{cases_lt, cond_both}
use Rattle.std.proofs.lemmas.List.Elements.{All-head, All-nil, All-push, All-tail}
use Rattle.shgrammar.specs.Characters.{number_sign}
use Rattle.shgrammar.specs.declared.keep.Keep.{Keep}
use Rattle.shgrammar.specs.declared.fault.FaultKind.TheVariants.{UnclosedSubst}
use Rattle.shgrammar.specs.declared.mode.Mode.{Mode}
use Rattle.shgrammar.specs.declared.mode.Piece.{Piece}
use Rattle.shgrammar.specs.declared.mode.Piece.TheVariants as pieces
use Rattle.shgrammar.specs.declared.token.Closing.{Closing}
use Rattle.shgrammar.specs.declared.token.Closing.TheVariants as closings
use Rattle.shgrammar.specs.declared.token.Next.{Next}
use Rattle.shgrammar.specs.declared.token.Opener.{Opener}
use Rattle.shgrammar.specs.declared.token.Opener.TheVariants as openers
use Rattle.shgrammar.specs.declared.token.Position.{Position}
use Rattle.shgrammar.specs.declared.token.Position.TheVariants.{Command, Prefix, Suffix}
use Rattle.shgrammar.specs.declared.token.Separator.{Separator}
use Rattle.shast.specs.declared.tree.AndOrOperator.{AndOrOperator}
use Rattle.shast.specs.declared.tree.RedirectOperator.{RedirectOperator}
use Rattle.shast.specs.declared.tree.Span.{Span}
use Rattle.shast.specs.Nodes.{IsSpanWithin, NodesWithin, and_or_nodes, branch_nodes, branches_nodes, else_nodes, entries_nodes, entry_nodes, for_words_nodes, form_nodes, word_nodes, word_span}
use Rattle.shast.specs.Tree.{ACommand, AForm, ASubst, AWord, AnEntry, AnItem, Entries, branches_of, entries_of, entry, formed, item, items_of, remark, simple, compound, function, with_redirects, word}
use Rattle.shast.specs.Bodies.{filled}
use Rattle.shast.proofs.Going.{row_filled}
use Rattle.shast.proofs.OpenSame.{filled_within}
use Rattle.shast.proofs.Reach.{Nodes, CommentFits, SubstFits, WordFits, ItemFits, CommandFits, PipelineFits, PipeFits, PartFits, EntryFits, BranchFits, fits_both, fits_subst, fits_substs, fits_items, fits_word, fits_entries, fits_branches, fits_assign, fits_argument, fits_simple, fits_redirect, fits_compound, fits_pipeline, fits_and_or, fits_command, fits_remark, span_fits_more, within_append, fits_function, CaseFits, fits_case, fits_case_in, fits_end}
use Rattle.shgrammar.specs.Standing.{raw_stands, raw_in, next_newline, before_blanks}
use Rattle.shgrammar.specs.Bytes.{past_continuations, past_byte}
use Rattle.shgrammar.specs.Comments.{span, comment_at, past_comment}
use Rattle.shgrammar.specs.Classes.{is_blank}
use Rattle.shgrammar.specs.Sights.{Given, given, State, standing, here, one_byte, the_digits}
use Rattle.shgrammar.specs.HereDocuments.{own_level}
use Rattle.shgrammar.specs.Form.{with_bytes, a_level, Spelled, Telling, Form, give, move, push, both, many, token, ends_as, does, Step, again, done, pushed, see, grows, inside}
use Rattle.shgrammar.specs.Words.{Inner, WordSoFar, word_so_far, opened, piece_row, a_piece, contents, a_word}
use Rattle.shgrammar.specs.Commands.{pick, is_pipe, is_bang, begins_simple, begins_word, begins_redirect, begins_pipeline, opener_of, compound_by, and_or_operator_of, breaks, ItemsSoFar, items_so_far, after_word, is_number_token, redirect_operator_of, is_strip, a_number, an_operator, operator_by, a_target, one_redirect, after_redirect, redirect_turn, with_redirect_list, as_item, an_item, item_by, item_turn, a_simple, a_bang, a_comment, comment_by, unexpected, with_comment, JoinSoFar, join_turn, a_join, a_command, PipesSoFar, pipes_so_far, one_command, pipe_turn, a_pipeline, AndOrSoFar, and_or_so_far, one_pipeline, joined_by, and_or_turn, an_and_or, is_background, an_entry, a_word_command, is_word, is_paren, separator_of, separator_by, a_separator, past_separator, ends_item, falls_through}
use Rattle.shgrammar.specs.Lists.{ListSoFar, list_so_far, none_listed, is_blank_next, one_entry, entry_turn, remark_by, a_remark, on_line, list_turn, a_list, Listed}
use Rattle.shgrammar.specs.Compounds.{BranchesSoFar, branches_so_far, Closed, is_closing, is_open_paren, is_close_paren, reserved_or_paren, closing, a_branch, elif_turn, an_else, an_if, a_loop, a_group, a_for_name, a_linebreak, a_sequential_sep, Headed, word_turn, for_words, a_for_head, after_remarks, a_for, a_form, held_apart, a_compound, a_function, under_name, a_case_word, begins_pattern, PatternsSoFar, a_pattern, one_pattern, pattern_turn, a_pattern_list, a_body, body_end, ItemEnd, an_ender, an_item_end, CasesSoFar, cases_so_far, one_case, case_turn, a_case_head, a_case}
use Rattle.shgrammar.specs.Substitutions.{substitution_list, a_substitution, one_substitution}
use Rattle.shgrammar.specs.Levels.{most_open, level}
use Rattle.shgrammar.specs.Lines.{an_open_line, a_line, ALine, IsLine, line_read, line_stops, kind_of, EntryNodesWithin}
use Rattle.shgrammar.specs.Scripts.{LinesSoFar, the_line, with_line}
use Rattle.shgrammar.proofs.OneOutcome.{computed_is_only}
use Rattle.shgrammar.proofs.Ahead.{past_byte_is}
use Rattle.shgrammar.proofs.Places.{after_low, next_newline_low}
use Rattle.shgrammar.proofs.Holds.{Holds, Tells, Turned, tells_with_bytes, tells_level, tells_give, tells_then, tells_token, tells_many, tells_so, tells_ending, tells_seen, tells_moved, no_form_goes_back, tells_inside, holds_and}
use Rattle.shgrammar.proofs.Turns.{Stepped}
use Rattle.shgrammar.proofs.UpToLimit.{stepped}
use Rattle.shgrammar.specs.declared.keep.Keep.TheVariants.{Whole}
use Rattle.shgrammar.specs.declared.edition.Edition.{Edition}

-- ---- comments

-- the place before the blanks that stand before q is not past q
pub before_blanks_low : (T : List ℕ) (q : ℕ) → before_blanks T q ≤ q
unfolding before_blanks
before_blanks_low T zero = omega arith
before_blanks_low T (suc q) = cond_both (raw_in is_blank T q) _ _ (λ n. n ≤ suc q)
    (λ e. omega (arith, before_blanks_low T q)) (λ e. omega arith)

-- the span of a comment, where a test told that one stands, ends before the place after it
comment_by_test : (test : Bool) (o p last next : ℕ) (c : Span) → p ≤ next → last ≤ next →
    cond test (Some (span o p last)) None ≡ Some c
    → IsSpanWithin (o + cond test next p) c
comment_by_test true o p last next c one two is = let spans : span o p last ≡ c = cc in
    subst (λ (d : Span). IsSpanWithin (o + next) d) spans (omega (arith, one), omega (arith, two))
comment_by_test false o p last next c one two is = absurd cc

-- a comment ends before the place after it
pub comment_ends : (T : List ℕ) (o p : ℕ) (c : Span) → comment_at T o p ≡ Some c → IsSpanWithin (o + past_comment T p) c
unfolding comment_at past_comment
comment_ends T o p c is =
    comment_by_test (raw_stands T p number_sign) o p (before_blanks T (next_newline T p)) (next_newline T p) c
    (next_newline_low T p) (before_blanks_low T (next_newline T p)) is

-- ---- forms

module _ (keep : Keep) (g : Given) (limit : ℕ) where
  -- the reading does not stand above the limit
  abbrev pub Before : State → Type 0
  Before s = g.offset + s.at ≤ limit

  -- P holds of what r reads, unless that ends above the limit
  abbrev pub R : {X : Type 0} → Form X → (X → Type 0) → State → Type 0
  R r P s = Tells keep g r (λ x t. Before t → P x) s

  -- of what begins above the limit nothing is said, since no form goes back
  unless : {X : Type 0} {P : X → Type 0} {r : Form X} {s : State} → (Before s → R r P s) → R r P s
  unless {r = r} {s = s} so =
      ⊎_elim (λ lt. tells_so keep g (no_form_goes_back r keep g s) (λ x t on. λ b. absurd (omega (arith, lt, on, b))))
      (λ ge. so (omega (arith, ge))) (cases_lt limit (g.offset + s.at))

  -- P holds of what a form reads that gives a value of which P holds
  gives : {X : Type 0} {P : X → Type 0} {x : X} {s : State} → P x → R (give x) P s
  gives so = tells_give keep g (λ b. so)

  -- where P holds of what a form reads, and Q of what the next one reads after that, Q holds of both in a row
  first : {X Y : Type 0} {P : X → Type 0} {Q : Y → Type 0} {r : Form X} {q : X → Form Y} {s : State} → R r P s →
      ((x : X) (t : State) → P x → R (q x) Q t) → R (both r q) Q s
  first one rest = tells_then keep g one (λ x t so. unless (λ b. rest x t (so b)))

  -- Q holds of two forms in a row, where it holds of the second whatever the first gives
  after : {X Y : Type 0} {Q : Y → Type 0} {r : Form X} {q : X → Form Y} {s : State} →
      ((x : X) (t : State) → R (q x) Q t) → R (both r q) Q s
  after {r = r} {s = s} rest = tells_then keep g {r = r} {s = s} (no_form_goes_back r keep g s) (λ x t on. rest x t)

  -- P holds of a row with one more element, and of the row as it was, where none is kept
  pushed_all : {A : Type 0} (P : A → Type 0) (grow : Bool) (xs : Row A) (x : A) → All P xs → P x →
      All P (pushed grow xs x)
  pushed_all P true xs x all one = All-push P xs x all one
  pushed_all P false xs x all one = all

  -- a row of which P holds throughout is so still with one more element of which P holds
  pushes : {A : Type 0} (P : A → Type 0) {xs : Row A} {x : A} {s : State} → All P xs → P x → R (push xs x) (All P) s
  pushes P {xs = xs} {x = x} all one = record { told = λ b. pushed_all P (grows keep) xs x all one }

  -- where P holds of what a form reads, it holds of that as a token, and the token's span is within the limit
  tokens : {X : Type 0} {P : X → Type 0} {how : Telling} {r : Form X} {s : State} → R r P s →
      R (token how r) (λ x. P x.0 × IsSpanWithin limit x.1) s
  tokens {P = P} {r = r} {s = s} one =
      tells_token keep g {P = λ a t. (Before t → P a) × (s.at ≤ t.at)}
      {Q = λ x t. Before t → P x.0 × IsSpanWithin limit x.1}
      (record {
        told = holds_and (λ a t. Before t → P a) (λ a t. s.at ≤ t.at) (does r keep g s) one.told
            (no_form_goes_back r keep g s).told;
      })
      (λ a t so. λ b. (so.0 b, (omega (arith, so.1, b), b)))

  -- what holds of a turn's step holds of where it goes on, or ends
  turned : {A : Type 0} (P : A → Type 0) (c : Step A) (t : State) → (Before t → Stepped P c) →
      Turned keep g (λ a u. Before u → P a) c t
  turned P (again a) t so = so
  turned P (done a) t so = so

  -- P holds of what a repetition reads, where it holds at its start and each turn keeps it
  repeats : {A : Type 0} (P : A → Type 0) (turn : A → Form (Step A)) →
      ((a : A) (s : State) → P a → R (turn a) (Stepped P) s) → (a : A) (s : State) → P a → R (many turn a) P s
  repeats P turn each a s so =
      tells_many keep g turn (λ a t. Before t → P a)
      (λ a t there. tells_so keep g (unless {P = Stepped P} {r = turn a} {s = t} (λ b. each a t (there b)))
      (turned P)) a s (λ b. so)

  -- P holds of what a form reads with its bytes, and as a level of its own, where it holds of the form
  with_its_bytes : {X : Type 0} {P : X → Type 0} {r : Form X} {s : State} → R r P s → R (with_bytes r) (λ x. P x.0) s
  with_its_bytes {P = P} one = tells_with_bytes keep g {P = λ a t. Before t → P a} {Q = λ x t. Before t → P x.0} one
      (λ a t so. so)

  in_level : {X : Type 0} {P : X → Type 0} {r : Form X} {s : State} → R r P (own_level s) → R (a_level r) (λ x. P x.0) s
  in_level {P = P} one = tells_level keep g {P = λ a t. Before t → P a} {Q = λ x t. Before t → P x.0} one (λ a t so. so)

  -- P holds of what one form or the other reads, where it holds of both
  picks : {X : Type 0} {P : X → Type 0} (b : Bool) {r q : Form X} {s : State} → R r P s → R q P s → R (pick b r q) P s
  picks true one two = one
  picks false one two = two

  -- ---- words

  -- Each row of a word: where the substitutions so far fit within the limit, so do those with what it adds.

  abbrev SubstsFit : WordSoFar → Type 0
  SubstsFit h = All (SubstFits limit) h.substs

  -- a command fits, but for the redirections of a compound one
  abbrev BareFits : ACommand → Type 0
  BareFits (simple items) = CommandFits limit (simple items)
  BareFits (compound (formed form span redirects)) = IsSpanWithin limit span × Nodes limit (form_nodes form)
  BareFits (function name comments body) = CommandFits limit (function name comments body)

  -- what may be opened names no offset past the limit
  pub record InnerFits (inner : Inner) : Type 0 where
    pub construct : (mode : Mode) (b : ℕ) (ss : Row ASubst) (s : State) → All (SubstFits limit) ss →
        R (inner.construct mode b ss) (All (SubstFits limit)) s
    pub substitution : (b : ℕ) (ss : Row ASubst) (s : State) → b ≤ g.offset + s.at → All (SubstFits limit) ss →
        R (inner.substitution b ss) (All (SubstFits limit)) s
    pub compound : (o : Opener) (s : State) → R (inner.compound o) (λ c. BareFits c.0) s
    pub function : (name : Span) (s : State) → IsSpanWithin limit name →
        R (inner.function name) (λ c. CommandFits limit c.0) s

  module _ (inner : Inner) (fine : InnerFits inner) where
    -- where the substitutions so far fit, so do those with a construct that opens in a word
    opened_fits : (mode : Mode) (b : ℕ) (h : WordSoFar) (s : State) → SubstsFit h →
        R (opened inner mode b h) (Stepped SubstsFit) s
    opened_fits mode b h s so = first (fine.construct mode b h.substs s so) (λ zs t good. gives good)

    -- where the substitutions so far fit, so do those with one more piece, by its kind
    piece_fits_by : (mode : Mode) (b : ℕ) (h : WordSoFar) (piece : Piece) (s : State) → SubstsFit h →
        R (piece_row inner mode b h piece) (Stepped SubstsFit) s
    piece_fits_by mode b h pieces.Closer s so = after (λ x t. gives so)
    piece_fits_by mode b h pieces.Missing s so = record { told = tt }
    piece_fits_by mode b h pieces.LoneBackslash s so = record { told = tt }
    piece_fits_by mode b h pieces.Escape s so = after (λ x t. after (λ y u. gives so))
    piece_fits_by mode b h pieces.Single s so = after (λ x t. gives so)
    piece_fits_by mode b h pieces.DollarSingle s so = after (λ x t. gives so)
    piece_fits_by mode b h pieces.Double s so = after (λ q t. after (λ x u. opened_fits _ q h u so))
    piece_fits_by mode b h pieces.Backquote s so = after (λ x t. gives so)
    piece_fits_by mode b h pieces.Pid s so = after (λ x t. after (λ y u. gives so))
    piece_fits_by mode b h pieces.Subst s so =
        let p = s.at in
        let low_p : g.offset + past_continuations g.text p ≤ g.offset + past_byte g.text (past_byte g.text p) =
        omega (arith, past_byte_is g.text p, after_low g.text (past_byte g.text p)) in
        tells_seen keep g (tells_moved keep g
        (tells_moved keep g (first (fine.substitution (g.offset + past_continuations g.text p) h.substs _ low_p so)
        (λ zs t good. gives good))))
    piece_fits_by mode b h pieces.Arith s so =
        after (λ q t. after (λ x u. after (λ y v. after (λ z w. opened_fits _ q h w so))))
    piece_fits_by mode b h pieces.Param s so =
        after (λ q t. after (λ x u. after (λ y v. after (λ z w. after (λ m a. opened_fits m q h a so)))))
    piece_fits_by mode b h pieces.Open s so = after (λ x t. gives so)
    piece_fits_by mode b h pieces.Close s so = after (λ x t. gives so)
    piece_fits_by mode b h pieces.BadClose s so = record { told = tt }
    piece_fits_by mode b h pieces.Ordinary s so = after (λ x t. gives so)

    piece_fits : (mode : Mode) (b : ℕ) (h : WordSoFar) (s : State) → SubstsFit h →
        R (a_piece inner mode b h) (Stepped SubstsFit) s
    unfolding a_piece
    piece_fits mode b h s so = after (λ piece t. piece_fits_by mode b h piece t so)

    -- the substitutions fit in all that a construct or a word holds, and a word fits
    contents_fit : (mode : Mode) (b : ℕ) (ss : Row ASubst) (s : State) → All (SubstFits limit) ss →
        R (contents inner mode b ss) (All (SubstFits limit)) s
    unfolding contents
    contents_fit mode b ss s so =
        first (repeats SubstsFit (a_piece inner mode b) (piece_fits mode b) (word_so_far 0 ss) s so)
        (λ h t good. gives good)

    word_fits : (s : State) → R (a_word inner) (WordFits limit) s
    unfolding a_word
    word_fits s = after (λ p t. first (tokens (contents_fit _ p [] t (All-nil (SubstFits limit))))
        (λ w u good. gives (good.1, fits_substs limit w.0 good.0)))

    -- ---- items, redirections and simple commands

    -- Each row of a command: where what it has so far fits within the limit, so does what it gives.

    -- the items so far fit
    abbrev ItemsFit : ItemsSoFar → Type 0
    ItemsFit i = All (ItemFits limit) i.items

    -- an item that is a word fits where that does
    item_fits : (position : Position) (broken : Bool) (w : AWord) → WordFits limit w →
        ItemFits limit (item broken (as_item position w))
    item_fits Command broken w so = fits_argument limit broken w so
    item_fits Prefix broken w so = fits_assign limit broken w so
    item_fits Suffix broken w so = fits_argument limit broken w so

    -- where the items so far fit, so do those with one more that is a word
    one_item_fits : (i : ItemsSoFar) (position : Position) (s : State) → ItemsFit i →
        R (an_item inner i position) (Stepped ItemsFit) s
    unfolding an_item
    one_item_fits i position s so =
        first (word_fits s) (λ w t good. first (pushes (ItemFits limit) so (item_fits position (breaks i) w good))
        (λ is u all. after (λ n v. gives all)))

    -- where no row takes the token the reading stops, and nothing is said
    stopped : {X : Type 0} {P : X → Type 0} (n : Next) {s : State} → R (unexpected {X = X} inner n) P s
    stopped n = after (λ w t. record { told = tt })

    -- the number of a redirection fits, where it has one, and so do its operator and its target
    abbrev NumberFits : Option Span × Next → Type 0
    NumberFits x = MatchOption x.0 (Unit {0}) (IsSpanWithin limit)

    number_fits : (n : Next) (s : State) → R (a_number n) NumberFits s
    unfolding a_number
    number_fits n s =
        picks (is_number_token n.token)
        (first (tokens {P = λ x. Unit {0}}
        (tells_so keep g (no_form_goes_back (move the_digits) keep g s) (λ x t on. λ b. tt)))
        (λ x t one. after (λ m u. gives one.1))) (gives tt)

    operator_fits : (o : RedirectOperator) (s : State) → R (an_operator o) (λ x. Unit {0} × IsSpanWithin limit x.1) s
    unfolding an_operator
    operator_fits o s =
        tokens {P = λ x. Unit {0}} (after
        (λ x t. after (λ y u. picks (is_strip o)
        (tells_so keep g (no_form_goes_back (move one_byte) keep g u) (λ z v on. λ b. tt)) (gives tt))))

    operator_fits_by : (p : ℕ) (o : Option RedirectOperator) (s : State) →
        R (operator_by p o) (λ x. IsSpanWithin limit x.1) s
    operator_fits_by p (Some o) s = first (operator_fits o s) (λ x t one. gives one.1)
    operator_fits_by p None s = record { told = tt }

    target_fits : (s : State) → R (a_target inner) (λ x. WordFits limit x.0) s
    unfolding a_target
    target_fits s = after (λ n t. picks (is_word n.token) (with_its_bytes (word_fits t)) (stopped n))

    -- where the items so far fit, so do those with one more redirection, or one more item of any kind; and a
    -- simple command fits
    redirect_fits : (broken : Bool) (position : Position) (is : Row AnItem) (n : Next) (s : State) →
        All (ItemFits limit) is → R (one_redirect inner broken position is n) (Stepped ItemsFit) s
    unfolding one_redirect
    redirect_fits broken position is n s so =
        after (λ p t. first (number_fits n t)
        (λ d u one. first (operator_fits_by p (redirect_operator_of d.1.token) u)
        (λ o v two. first (target_fits v) (λ w x three.
        after (λ h a. first (pushes (ItemFits limit) so (fits_redirect limit broken d.0 o.0 o.1 w.0 h one two three))
        (λ js y all. after (λ m z. gives all)))))))

    item_fits_by : (i : ItemsSoFar) (position : Option Position) (s : State) → ItemsFit i →
        R (item_by inner i position) (Stepped ItemsFit) s
    item_fits_by i (Some position) s so = one_item_fits i position s so
    item_fits_by i None s so = picks (begins_redirect i.next.token)
        (redirect_fits (breaks i) (after_redirect i.position) i.items i.next s so) (gives so)

    item_turn_fits : (i : ItemsSoFar) (s : State) → ItemsFit i → R (item_turn inner i) (Stepped ItemsFit) s
    unfolding item_turn
    item_turn_fits i s so = item_fits_by i (after_word i.next.token) s so

    simple_fits : (i : ItemsSoFar) (s : State) → ItemsFit i → R (a_simple inner i) (λ c. CommandFits limit c.0) s
    unfolding a_simple
    simple_fits i s so = first (repeats ItemsFit (item_turn inner) item_turn_fits i s so)
        (λ is t all. gives (fits_simple limit is.items all))

    -- ---- comments and joins

    -- a comment fits, where one stands, and so do the comments so far with it
    abbrev OwnComment : Option Span × Next → Type 0
    OwnComment x = MatchOption x.0 (Unit {0}) (CommentFits limit)

    comment_fits_by : (n : Next) (c : Option Span) (s : State) → comment_at g.text g.offset s.at ≡ c →
        R (comment_by n c) OwnComment s
    comment_fits_by n None s is = gives tt
    comment_fits_by n (Some c) s is =
        tells_then keep g {P = λ x t. t.at ≡ past_comment g.text s.at} (record { told = refl })
        (λ x t there. unless (λ b. after
        (λ m u. gives (span_fits_more _ limit (subst (λ p. g.offset + p ≤ limit) there b) c
        (comment_ends g.text g.offset s.at c is)))))

    comment_fits : (n : Next) (s : State) → R (a_comment n) OwnComment s
    unfolding a_comment
    comment_fits n s = tells_then keep g {P = λ c t. comment_at g.text g.offset t.at ≡ c} (record { told = refl })
        (λ c t is. comment_fits_by n c t is)

    with_fits : (cs : Row Span) (c : Option Span) (s : State) → All (CommentFits limit) cs →
        MatchOption c (Unit {0}) (CommentFits limit) → R (with_comment cs c) (All (CommentFits limit)) s
    with_fits cs (Some c) s all one = pushes (CommentFits limit) all one
    with_fits cs None s all one = gives all

    -- the comments of a join fit
    abbrev JoinFits : JoinSoFar → Type 0
    JoinFits j = All (CommentFits limit) j.join.comments

    join_turn_fits : (j : JoinSoFar) (s : State) → JoinFits j → R (join_turn j) (Stepped JoinFits) s
    unfolding join_turn
    join_turn_fits j s so = first (comment_fits j.next s)
        (λ c t one. first (with_fits j.join.comments c.0 t so one)
        (λ cs u all. after (λ l v. gives (stepped JoinFits l.0 _ all))))

    join_fits : (broken : Bool) (s : State) → R (a_join broken) (λ x. All (CommentFits limit) x.0.comments) s
    unfolding a_join
    join_fits broken s = after (λ n t. first
        (repeats JoinFits join_turn join_turn_fits _ t (All-nil (CommentFits limit))) (λ j u all. gives all))

    -- ---- commands of any kind, with the redirections after compound ones

    -- a compound command fits with the redirections after it
    redirect_turn_fits : (i : ItemsSoFar) (s : State) → ItemsFit i → R (redirect_turn inner i) (Stepped ItemsFit) s
    unfolding redirect_turn
    redirect_turn_fits i s so = picks (begins_redirect i.next.token)
        (redirect_fits i.next.broken Command i.items i.next s so) (gives so)

    with_redirects_fits : (c : ACommand) (is : Row AnItem) → BareFits c → All (ItemFits limit) is →
        CommandFits limit (with_redirects c (items_of is))
    with_redirects_fits (simple items) is so all = so
    with_redirects_fits (compound (formed form span others)) is so all = fits_compound limit form span is so.0 so.1 all
    with_redirects_fits (function name comments body) is so all = so

    with_redirect_list_fits : (c : ACommand × Next) (s : State) → BareFits c.0 →
        R (with_redirect_list inner c) (λ d. CommandFits limit d.0) s
    unfolding with_redirect_list
    with_redirect_list_fits c s so =
        first (repeats ItemsFit (redirect_turn inner) redirect_turn_fits (items_so_far [] Command c.1) s
        (All-nil (ItemFits limit))) (λ r t all. gives (with_redirects_fits c.0 r.items so all))

    compound_fits_by : (n : Next) (o : Option Opener) (s : State) →
        R (compound_by inner n o) (λ c. CommandFits limit c.0) s
    compound_fits_by n (Some o) s = first (fine.compound o s) with_redirect_list_fits
    compound_fits_by n None s = stopped n

    -- the span of a word that fits is within the limit; a command that begins with a word fits, and so does
    -- any command
    place_fits : (w : AWord) → WordFits limit w → IsSpanWithin limit (word_span w)
    place_fits (word s ss) so = so.0

    word_command_fits : (s : State) → R (a_word_command inner) (λ c. CommandFits limit c.0) s
    unfolding a_word_command
    word_command_fits s =
        after (λ good t. first (word_fits t) (λ w u one. after (λ n v.
        picks (is_paren n.token) (picks good (fine.function (word_span w) v (place_fits w one)) (record { told = tt }))
        (first (pushes (ItemFits limit) (All-nil (ItemFits limit)) (fits_argument limit false w one))
        (λ is x all. simple_fits (items_so_far is Suffix n) x all)))))

    command_fits : (n : Next) (s : State) → R (a_command inner n) (λ c. CommandFits limit c.0) s
    unfolding a_command
    command_fits n s =
        picks (is_word n.token) (word_command_fits s)
        (picks (begins_simple n.token) (simple_fits (items_so_far [] Command n) s (All-nil (ItemFits limit)))
        (compound_fits_by n (opener_of n.token) s))

    -- ---- pipelines, and-or lists and entries

    -- the commands of a pipeline so far fit, with their joins
    abbrev PipesFit : PipesSoFar → Type 0
    PipesFit p = All (PipeFits limit) p.parts

    one_command_fits : (p : PipesSoFar) (s : State) → PipesFit p → R (one_command inner p) (Stepped PipesFit) s
    unfolding one_command
    one_command_fits p s so =
        after (λ x t. first (join_fits p.next.broken t)
        (λ j u one. first (command_fits j.1 u)
        (λ c v two. first (pushes (PipeFits limit) so (one, two)) (λ ps w all. gives all))))

    pipe_turn_fits : (p : PipesSoFar) (s : State) → PipesFit p → R (pipe_turn inner p) (Stepped PipesFit) s
    unfolding pipe_turn
    pipe_turn_fits p s so = picks (is_pipe p.next.token) (one_command_fits p s so) (gives so)

    -- a `!` fits, where one stands, and so does a whole pipeline
    bang_fits : (n : Next) (s : State) → R (a_bang n) (λ x. MatchOption x.0 (Unit {0}) (IsSpanWithin limit)) s
    unfolding a_bang
    bang_fits n s = picks (is_bang n.token)
        (first (tokens {P = λ u. Unit {0}} (record { told = λ b. tt })) (λ x t so. after (λ m u. gives so.1)))
        (gives tt)

    pipeline_fits : (n : Next) (s : State) → R (a_pipeline inner n) (λ p. PipelineFits limit p.0) s
    unfolding a_pipeline
    pipeline_fits n s =
        first (bang_fits n s) (λ b t one. first (command_fits b.1 t)
        (λ c u two. first (repeats PipesFit (pipe_turn inner) pipe_turn_fits (pipes_so_far [] c.1) u
        (All-nil (PipeFits limit))) (λ p v all. gives (fits_pipeline limit b.0 c.0 p.parts one two all))))

    -- the pipelines of an and-or list so far fit, with their joins
    abbrev PartsFit : AndOrSoFar → Type 0
    PartsFit a = All (PartFits limit) a.parts

    one_pipeline_fits : (a : AndOrSoFar) (o : AndOrOperator) (s : State) → PartsFit a →
        R (one_pipeline inner a o) (Stepped PartsFit) s
    unfolding one_pipeline
    one_pipeline_fits a o s so =
        after (λ x u. first (join_fits a.next.broken u)
        (λ j v one. first (pipeline_fits j.1 v)
        (λ p w two. first (pushes (PartFits limit) so (one, two)) (λ ps z all. gives all))))

    joined_fits_by : (a : AndOrSoFar) (o : Option AndOrOperator) (s : State) → PartsFit a →
        R (joined_by inner a o) (Stepped PartsFit) s
    joined_fits_by a (Some o) s so = one_pipeline_fits a o s so
    joined_fits_by a None s so = gives so

    and_or_turn_fits : (a : AndOrSoFar) (s : State) → PartsFit a → R (and_or_turn inner a) (Stepped PartsFit) s
    unfolding and_or_turn
    and_or_turn_fits a s so = joined_fits_by a (and_or_operator_of a.next.token) s so

    -- a whole and-or list fits
    and_or_fits : (n : Next) (s : State) → R (an_and_or inner n) (λ a. Nodes limit (and_or_nodes a.0)) s
    unfolding an_and_or
    and_or_fits n s =
        first (pipeline_fits n s) (λ p t one. first
        (repeats PartsFit (and_or_turn inner) and_or_turn_fits (and_or_so_far [] p.1) t (All-nil (PartFits limit)))
        (λ a u all. gives (fits_and_or limit p.0 a.parts one all)))

    -- the offset after a separator is within the limit
    abbrev PartedFits : Option ℕ → Type 0
    PartedFits parted = MatchOption parted (Unit {0}) (λ p. p ≤ limit)

    -- the offset after a separator fits, where one stands, and an entry fits with it
    separator_fits_by : (n : Next) (c : Option Separator) (s : State) →
        R (separator_by n c) (λ x. PartedFits (past_separator x.0)) s
    separator_fits_by n (Some c) s =
        first (tokens {P = λ u. Unit {0}} (record { told = λ b. tt })) (λ x t so. after (λ m u. gives so.1.1))
    separator_fits_by n None s = gives tt

    separator_fits : (n : Next) (s : State) → R (a_separator n) (λ x. PartedFits (past_separator x.0)) s
    unfolding a_separator
    separator_fits n s = separator_fits_by n (separator_of n.token) s

    entry_fits : (blank : Bool) (n : Next) (s : State) →
        R (an_entry inner blank n) (λ e. EntryFits limit e.entry × PartedFits e.parted) s
    unfolding an_entry
    entry_fits blank n s =
        first (and_or_fits n s) (λ a t one. first (separator_fits a.1 t)
        (λ z u part. first (comment_fits z.1 u)
        (λ c v two. gives (fits_command limit a.0 (is_background z.0) blank c.0 one two, part))))

    -- ---- lists

    -- Each row of a list: its entries fit within the limit, and so does the offset after a last separator.

    -- the entries of a list so far fit, and so does the offset after the last separator
    abbrev ListFits : ListSoFar → Type 0
    ListFits l = All (EntryFits limit) l.list.entries × PartedFits l.list.parted

    -- a list fits with one more entry, and with a comment that stands for itself
    one_entry_fits : (l : ListSoFar) (s : State) → ListFits l → R (one_entry inner l) (Stepped ListFits) s
    unfolding one_entry
    one_entry_fits l s so = first (entry_fits _ l.next s)
        (λ e t one. first (pushes (EntryFits limit) so.0 one.0)
        (λ es u all. gives (stepped ListFits (is_some e.parted) _ (all, one.1))))

    entry_turn_fits : (l : ListSoFar) (s : State) → ListFits l → R (entry_turn inner l) (Stepped ListFits) s
    unfolding entry_turn
    entry_turn_fits l s so = picks (begins_pipeline l.next.token) (one_entry_fits l s so) (gives so)

    remark_fits_by : (l : ListSoFar) (x : Option Span × Next) (s : State) → ListFits l → OwnComment x →
        R (remark_by l x) ListFits s
    remark_fits_by l (Some c, n) s so one =
        first (pushes (EntryFits limit) so.0 (fits_remark limit c false (is_blank_next l.list) one))
        (λ es t all. gives (all, so.1))
    remark_fits_by l (None, n) s so one = gives so

    -- a list fits with all of one line, and with one more line; and a whole list fits
    on_line_fits : (l : ListSoFar) (s : State) → ListFits l → R (on_line inner l) ListFits s
    unfolding on_line a_remark
    on_line_fits l s so =
        first (repeats ListFits (entry_turn inner) entry_turn_fits l s so)
        (λ m t all. first (comment_fits m.next t) (λ x u one. remark_fits_by m x u all one))

    list_turn_fits : (l : ListSoFar) (s : State) → ListFits l → R (list_turn inner l) (Stepped ListFits) s
    unfolding list_turn
    list_turn_fits l s so = first (on_line_fits l s so) (λ m t all. after (λ x u. gives (stepped ListFits x.0 _ all)))

    list_fits : (n : Next) (s : State) → R (a_list inner n) (λ l. NodesWithin limit l.0) s
    unfolding a_list
    list_fits n s =
        first (repeats ListFits (list_turn inner) list_turn_fits (list_so_far (none_listed false) n) s
        (All-nil (EntryFits limit), tt))
        (λ l t all. picks l.list.commands (gives (fits_entries limit l.list.entries all.0)) (stopped l.next))

    -- the entries of a line of a script fit, before the bodies are put into them
    open_line_fits : (blank : Bool) (s : State) → R (an_open_line inner blank) (λ x. All (EntryFits limit) x.0) s
    unfolding an_open_line
    open_line_fits blank s = after
        (λ n t. first (on_line_fits (list_so_far (none_listed blank) n) t (All-nil (EntryFits limit), tt))
        (λ l u all. after (λ newline v. gives all.0)))

    -- the entries of a line fit with the bodies of its here-documents
    pub line_fits : (blank : Bool) (s : State) → R (a_line inner blank) (λ x. NodesWithin limit (entries_of x.0)) s
    unfolding a_line
    line_fits blank s =
        first (in_level (open_line_fits blank (own_level s)))
        (λ l t all. gives (subst (NodesWithin limit) (sym (row_filled l.1 l.0.0))
        (filled_within limit l.1 (entries_of l.0.0) (fits_entries limit l.0.0 all))))

    -- ---- compound commands

    -- Each row of a compound command: what it holds fits within the limit, and so does what closes it.

    -- a reserved word or a round bracket fits, and so does what has to stand here
    reserved_or_paren_fits : (text : Spelled) (paren : Bool) (position : Position) (s : State) →
        R (reserved_or_paren text paren position) (λ x. IsSpanWithin limit x.0) s
    unfolding reserved_or_paren
    reserved_or_paren_fits text paren position s =
        first (tokens {P = λ u. Unit {0}} (record { told = λ b. tt })) (λ x t so. after (λ n u. gives so.1))

    closing_fits : (c : Closing) (n : Next) (s : State) → R (closing inner c n) (λ x. IsSpanWithin limit x.0) s
    unfolding closing
    closing_fits c n s = picks (is_closing c n.token) (reserved_or_paren_fits _ (is_close_paren c) _ s) (stopped n)

    -- a condition fits with what it runs, and so do the branches so far, each after its `elif`
    branch_fits : (n : Next) (s : State) → R (a_branch inner n) (λ x. BranchFits limit x.0) s
    unfolding a_branch
    branch_fits n s =
        first (list_fits n s) (λ c t one. after
        (λ k u. first (list_fits k.1 u)
        (λ b v two. gives (fits_both limit (entries_nodes c.0) (entries_nodes b.0) one two))))

    abbrev BranchesFit : BranchesSoFar → Type 0
    BranchesFit b = All (BranchFits limit) b.branches

    elif_fits : (b : BranchesSoFar) (s : State) → BranchesFit b → R (elif_turn inner b) (Stepped BranchesFit) s
    unfolding elif_turn
    elif_fits b s so =
        picks (is_closing closings.Elif b.next.token)
        (after (λ k t. first (branch_fits k.1 t)
        (λ x u one. first (pushes (BranchFits limit) so one) (λ bs v all. gives all))))
        (gives so)

    -- what stands after `else` fits
    else_fits : (n : Next) (s : State) → R (an_else inner n) (λ x. Nodes limit (else_nodes x.0)) s
    unfolding an_else
    else_fits n s =
        picks (is_closing closings.Else n.token)
        (after (λ k t. first (list_fits k.1 t) (λ l u so. gives so)))
        (gives (All-nil _))

    -- an `if`, a loop and a list fit, each with what closes it
    abbrev FormFits : Closed AForm → Type 0
    FormFits f = Nodes limit (form_nodes f.what) × IsSpanWithin limit f.closer

    if_fits : (n : Next) (s : State) → R (an_if inner n) FormFits s
    unfolding an_if
    if_fits n s =
        first (branch_fits n s)
        (λ f t one. first (repeats BranchesFit (elif_turn inner) elif_fits (branches_so_far [] f.1) t
        (All-nil (BranchFits limit)))
        (λ b u all. first (else_fits b.next u)
        (λ e v other. first (closing_fits closings.Fi e.1 v)
        (λ c w last. gives (
          fits_both limit _ (else_nodes e.0)
              (fits_both limit (branch_nodes f.0) (branches_nodes (branches_of b.branches)) one
              (fits_branches limit b.branches all)) other,
          last,
        )))))

    loop_fits : (n : Next) (s : State) →
        R (a_loop inner n) (λ x. BranchFits limit x.what × IsSpanWithin limit x.closer) s
    unfolding a_loop
    loop_fits n s =
        first (list_fits n s)
        (λ c t one. after (λ d u. first (list_fits d.1 u)
        (λ b v two. first (closing_fits closings.Done b.1 v)
        (λ e w last. gives (fits_both limit (entries_nodes c.0) (entries_nodes b.0) one two, last)))))

    group_fits : (c : Closing) (n : Next) (s : State) →
        R (a_group inner c n) (λ x. NodesWithin limit x.what × IsSpanWithin limit x.closer) s
    unfolding a_group
    group_fits c n s = first (list_fits n s) (λ l t so. first (closing_fits c l.1 t) (λ k u last. gives (so, last)))

    -- the name of a `for` fits
    for_name_fits : (n : Next) (s : State) → R (a_for_name inner n) (λ x. WordFits limit x.0) s
    unfolding a_for_name
    for_name_fits n s =
        picks (begins_word n.token) (after
        (λ p t. after (λ good u. first (word_fits u)
        (λ w v one. picks good (after (λ m z. gives one)) (record { told = tt }))))) (stopped n)

    -- where these comments fit, so do those among newlines after them, also where a `;` or a
    -- newline is asked for
    linebreak_fits : (cs : Row Span) (n : Next) (s : State) → All (CommentFits limit) cs →
        R (a_linebreak cs n) JoinFits s
    unfolding a_linebreak
    linebreak_fits cs n s all = repeats JoinFits join_turn join_turn_fits _ s all

    sequential_sep_fits : (cs : Row Span) (n : Next) (s : State) → All (CommentFits limit) cs →
        R (a_sequential_sep inner cs n) JoinFits s
    unfolding a_sequential_sep
    sequential_sep_fits cs n s all = after (λ x t. first (linebreak_fits cs x.1 t all)
        (λ l u so. picks _ (gives so) (stopped l.next)))

    -- what stands between the name of a `for` and its `do` fits: its words and its comments
    abbrev HeadFits : Headed → Type 0
    HeadFits h = Nodes limit (for_words_nodes h.words) × All (CommentFits limit) h.comments

    word_turn_fits : (i : ItemsSoFar) (s : State) → ItemsFit i → R (word_turn inner i) (Stepped ItemsFit) s
    unfolding word_turn
    word_turn_fits i s so = picks (is_word i.next.token) (one_item_fits i Suffix s so) (gives so)

    for_words_fit : (cs : Row Span) (s : State) → All (CommentFits limit) cs → R (for_words inner cs) HeadFits s
    unfolding for_words
    for_words_fit cs s all =
        after (λ i t. first (repeats ItemsFit (word_turn inner) word_turn_fits (items_so_far [] Suffix i.1) t
        (All-nil (ItemFits limit)))
        (λ ws u items. first (sequential_sep_fits cs ws.next u all)
        (λ l v so. gives (fits_items limit ws.items items, so))))

    for_head_fits : (n : Next) (s : State) → R (a_for_head inner n) HeadFits s
    unfolding a_for_head
    for_head_fits n s =
        after (λ x t. first (linebreak_fits [] x.1 t (All-nil (CommentFits limit)))
        (λ l u so. picks _ (for_words_fit l.join.comments u so) (gives (All-nil _, so))))

    -- a list fits with comments before it, as its first entries, and a whole `for` fits
    remarks_fit : (cs : Row Span) (es : Entries) → All (CommentFits limit) cs → NodesWithin limit es →
        NodesWithin limit (after_remarks cs es)
    remarks_fit [] es all so = so
    remarks_fit (c ∷ cs) es all so =
        fits_both limit (entry_nodes (entry (remark c) false false None)) (entries_nodes (after_remarks cs es))
        (fits_remark limit c false false (All-head (CommentFits limit) c cs all))
        (remarks_fit cs es (All-tail (CommentFits limit) c cs all) so)

    for_fits : (n : Next) (s : State) → R (a_for inner n) FormFits s
    unfolding a_for
    for_fits n s =
        first (for_name_fits n s) (λ x t one. first (for_head_fits x.1 t)
        (λ h u two. after (λ d v. first (group_fits closings.Done d.1 v)
        (λ b w body. let head = fits_both limit (word_nodes x.0) (for_words_nodes h.words)
        (fits_word limit x.0 one) two.0 in
        gives (
          fits_both limit (word_nodes x.0 ++ for_words_nodes h.words)
              (entries_nodes (after_remarks h.comments b.what)) head (remarks_fit h.comments b.what two.1 body.0),
          body.1,
        )))))

    -- the word of a `case` fits
    case_word_fits : (n : Next) (s : State) → R (a_case_word inner n) (λ x. WordFits limit x.0) s
    unfolding a_case_word
    case_word_fits n s = picks (begins_word n.token) (first (word_fits s) (λ w t one. after (λ m u. gives one)))
        (stopped n)

    -- the patterns of an item so far fit, and so do all of them
    abbrev PatternsFit : PatternsSoFar → Type 0
    PatternsFit p = All (WordFits limit) p.patterns

    pattern_fits : (ws : Row AWord) (s : State) → All (WordFits limit) ws → R (a_pattern inner ws) PatternsFit s
    unfolding a_pattern
    pattern_fits ws s all = first (word_fits s)
        (λ w t one. first (pushes (WordFits limit) all one) (λ vs u good. after (λ n v. gives good)))

    one_pattern_fits : (ws : Row AWord) (s : State) → All (WordFits limit) ws →
        R (one_pattern inner ws) (Stepped PatternsFit) s
    unfolding one_pattern
    one_pattern_fits ws s all = after
        (λ x t. after (λ n u. picks (begins_word n.token) (first (pattern_fits ws u all) (λ p v so. gives so))
        (stopped n)))

    pattern_turn_fits : (p : PatternsSoFar) (s : State) → PatternsFit p →
        R (pattern_turn inner p) (Stepped PatternsFit) s
    unfolding pattern_turn
    pattern_turn_fits p s so = picks (is_pipe p.next.token) (one_pattern_fits p.patterns s so) (gives so)

    patterns_fit : (n : Next) (s : State) → R (a_pattern_list inner n) PatternsFit s
    unfolding a_pattern_list
    patterns_fit n s =
        picks (begins_pattern n.token)
        (first (pattern_fits [] s (All-nil (WordFits limit)))
        (λ p t so. repeats PatternsFit (pattern_turn inner) pattern_turn_fits p t so)) (stopped n)

    -- the list of an item fits, which may hold no command
    body_fits : (n : Next) (s : State) → R (a_body inner n) ListFits s
    unfolding a_body
    body_fits n s = repeats ListFits (list_turn inner) list_turn_fits (list_so_far (none_listed false) n) s
        (All-nil (EntryFits limit), tt)

    -- the offset that is seen from here is within the limit
    here_fits : (s : State) → R (see here) (λ p. p ≤ limit) s
    here_fits s = record { told = λ b. b }

    -- the offset after the last token of an item's list is within the limit
    parted_or : (parted : Option ℕ) (other : ℕ) → PartedFits parted → other ≤ limit → unwrap_or parted other ≤ limit
    parted_or (Some p) other so low = so
    parted_or None other so low = low

    body_end_fits : (before : ℕ) (l : Listed) → before ≤ limit → All (EntryFits limit) l.entries → PartedFits l.parted →
        body_end before l ≤ limit
    body_end_fits before l low all part = parted_or l.parted _ part (fits_end limit before l.entries low all)

    -- the offset where an item ends is within the limit, and the comments after it fit
    abbrev ItemEndFits : ItemEnd → Type 0
    ItemEndFits e = (e.at ≤ limit) × All (CommentFits limit) e.comments

    ender_fits : (b : Bool) (s : State) → R (an_ender b) ItemEndFits s
    unfolding an_ender
    ender_fits b s =
        after (λ y u. first (here_fits u)
        (λ p v low. after (λ n w. first (linebreak_fits [] n w (All-nil (CommentFits limit)))
        (λ l z so. gives (low, so)))))

    item_end_fits : (there : ℕ) (n : Next) (s : State) → there ≤ limit → R (an_item_end inner there n) ItemEndFits s
    unfolding an_item_end
    item_end_fits there n s low =
        picks (ends_item n.token) (ender_fits (falls_through n.token) s)
        (picks (is_closing closings.Esac n.token) (gives (low, All-nil (CommentFits limit))) (stopped n))

    -- the items so far fit, and so do the comments after them
    abbrev CasesFit : CasesSoFar → Type 0
    CasesFit c = All (CaseFits limit) c.items × All (CommentFits limit) c.comments

    -- where the items of a `case` so far fit, so do those with one more
    one_case_fits : (c : CasesSoFar) (s : State) → CasesFit c → R (one_case inner c) (Stepped CasesFit) s
    unfolding one_case
    one_case_fits c s so =
        first (here_fits s) (λ p t begin. after
        (λ n u. first (patterns_fit n u) (λ ps v words. first (closing_fits closings.Paren ps.next v)
        (λ k w last. first (body_fits k.1 w)
        (λ b x body. first (item_end_fits _ b.next x (body_end_fits k.0.«end» b.list last.1 body.0 body.1))
        (λ e y end. let entries = fits_entries limit b.list.entries body.0 in
        first (pushes (CaseFits limit) so.0
        (fits_case limit c.comments ps.patterns (entries_of b.list.entries)
        (record { mark = record { start = p; «end» = e.at }; falls = falls_through b.next.token }) so.1 words
        entries (begin, end.0))) (λ is z all. gives (all, end.1))))))))

    case_turn_fits : (c : CasesSoFar) (s : State) → CasesFit c → R (case_turn inner c) (Stepped CasesFit) s
    unfolding case_turn
    case_turn_fits c s so = picks (is_closing closings.Esac c.next.token) (gives so) (one_case_fits c s so)

    -- what stands between `case` and its items fits, and so does a whole `case`
    case_head_fits : (n : Next) (s : State) →
        R (a_case_head inner n) (λ h. WordFits limit h.0 × All (CommentFits limit) h.1) s
    unfolding a_case_head
    case_head_fits n s =
        first (case_word_fits n s) (λ w t one. first (linebreak_fits [] w.1 t (All-nil (CommentFits limit)))
        (λ l u all. after (λ i v. first (linebreak_fits l.join.comments i.1 v all) (λ h x more. gives (one, more)))))

    case_fits : (n : Next) (s : State) → R (a_case inner n) FormFits s
    unfolding a_case
    case_fits n s =
        first (case_head_fits n s) (λ h t one. first
        (repeats CasesFit (case_turn inner) case_turn_fits (cases_so_far [] h.1 h.2) t
        (All-nil (CaseFits limit), one.1))
        (λ c u all. first (closing_fits closings.Esac c.next u)
        (λ e v last. gives (fits_case_in limit h.0 c.items c.comments one.0 all.0 all.1, last))))

    -- a compound command fits from just after its opener on, whatever opens it
    form_fits : (o : Opener) (n : Next) (s : State) → R (a_form inner o n) FormFits s
    form_fits openers.Brace n s = first (group_fits closings.Brace n s) (λ l t so. gives so)
    form_fits openers.Paren n s = first (group_fits closings.Paren n s) (λ l t so. gives so)
    form_fits openers.If n s = if_fits n s
    form_fits openers.While n s = first (loop_fits n s) (λ l t so. gives so)
    form_fits openers.Until n s = first (loop_fits n s) (λ l t so. gives so)
    form_fits openers.For n s = for_fits n s
    form_fits openers.Case n s = case_fits n s

    -- a command held apart fits, and so does one that holds nothing
    apart_fits : (cs : Row ACommand) → All BareFits cs → BareFits (held_apart cs)
    apart_fits [] all = fits_simple limit [] (All-nil (ItemFits limit))
    apart_fits (c ∷ cs) all = All-head BareFits c cs all

    -- a compound command fits from its opener on
    compound_fits : (o : Opener) (s : State) → R (a_compound inner o) (λ c. BareFits c.0) s
    unfolding a_compound
    compound_fits o s = first (reserved_or_paren_fits _ (is_open_paren o) _ s) (λ x t begin. first (form_fits o x.1 t)
        (λ f u so. first (pushes BareFits (All-nil BareFits) ((begin.0, so.1.1), so.0))
        (λ cs v all. gives (apart_fits cs all))))

    -- ---- substitutions

    -- The list of a substitution fits within the limit, and so do the substitutions with one more.

    substitution_list_fits : (s : State) → R (substitution_list inner) (NodesWithin limit) s
    unfolding substitution_list
    substitution_list_fits s =
        after (λ n t. first (repeats ListFits (list_turn inner) list_turn_fits (list_so_far (none_listed false) n) t
        (All-nil (EntryFits limit), tt))
        (λ l u all. picks (is_closing closings.Paren l.next.token)
        (after (λ w z. after (λ x v. gives (fits_entries limit l.list.entries all.0)))) (stopped l.next)))

    substitution_fits : (b : ℕ) (ss : Row ASubst) (s : State) → b ≤ g.offset + s.at → All (SubstFits limit) ss →
        R (one_substitution inner b ss) (All (SubstFits limit)) s
    unfolding one_substitution
    substitution_fits b ss s from so =
        let body = a_level (ends_as UnclosedSubst b (substitution_list inner)) in
        tells_then keep g {P = λ es t. (Before t → NodesWithin limit es.0) × (s.at ≤ t.at)}
        (record {
          told = holds_and (λ es t. Before t → NodesWithin limit es.0) (λ es t. s.at ≤ t.at) (does body keep g s)
              (in_level (tells_ending keep g (substitution_list_fits (own_level s)))).told
              (no_form_goes_back body keep g s).told;
        })
        (λ es t one. tells_seen keep g
        (record {
          told = λ before. pushed_all (SubstFits limit) (grows keep) ss _ so
              (fits_subst limit (filled es.1 es.0) _ (omega (arith, from, one.1, before), before)
              (filled_within limit es.1 es.0 (one.0 before)));
        }))

    -- ---- functions

    -- A function fits within the limit where its name does.

    under_fits : (name : Span) (cs : Row Span) (c : ACommand) → IsSpanWithin limit name → All (CommentFits limit) cs →
        CommandFits limit c → CommandFits limit (under_name name cs c)
    under_fits name cs (simple is) one all so = so
    under_fits name cs (compound body) one all so = fits_function limit name cs body one all so
    under_fits name cs (function other ds body) one all so = so

    function_fits : (name : Span) (s : State) → IsSpanWithin limit name →
        R (a_function inner name) (λ c. CommandFits limit c.0) s
    unfolding a_function
    function_fits name s one =
        after (λ o t. after (λ c u. first (linebreak_fits [] c.1 u (All-nil (CommentFits limit)))
        (λ l v all. first (compound_fits_by l.next (opener_of l.next.token) v)
        (λ b w so. gives (under_fits name l.join.comments b.0 one all so)))))

-- what may be opened fits, by how many more may be; what stands in a substitution is read by
-- what is kept there
pub level_fits : (keep : Keep) (g : Given) (limit room : ℕ) → InnerFits keep g limit (level room)
unfolding level a_substitution
level_fits keep g limit zero = record {
  construct = λ mode b ss s so. record { told = tt };
  substitution = λ b ss s from so. record { told = tt };
  compound = λ o s. after keep g limit (λ p t. record { told = tt });
  function = λ name s one. record { told = tt };
}
level_fits keep g limit (suc room) =
    record {
      construct = λ mode b ss s so. contents_fit keep g limit (level room)
          (level_fits keep g limit room) mode b ss s so;
      substitution = λ b ss s from so. tells_inside keep g
          (substitution_fits (inside keep) g limit (level room) (level_fits (inside keep) g limit room) b ss s from so);
      compound = λ o s. compound_fits keep g limit (level room) (level_fits keep g limit room) o s;
      function = λ name s one. function_fits keep g limit (level room) (level_fits keep g limit room) name s one;
    }

-- ---- lines

-- the entries of a line that was read fit within each limit that it does not pass, with its tree or without
pub line_within : (edition : Edition) →
    (T : List ℕ) (o : ℕ) (keep : Keep) (blank newline : Bool) (es : Row AnEntry) (t : State) →
    does (the_line blank) keep (given edition T o) (standing 0) ≡ Ok ((es, newline), t)
    → (limit : ℕ) → o + t.at ≤ limit → NodesWithin limit (entries_of es)
line_within edition T o keep blank newline es t is limit le =
    let g = given edition T o in
    let told = (line_fits keep g limit (level most_open) (level_fits keep g limit most_open) blank (standing 0)).told in
    subst (Holds (λ (x : Row AnEntry × Bool) (u : State). o + u.at ≤ limit → NodesWithin limit (entries_of x.0)))
    is told
    le

-- where the entries of a line fit, so do those in what the line is
kind_within : (limit : ℕ) (es : Row AnEntry) (newline : Bool) → NodesWithin limit (entries_of es) →
    EntryNodesWithin limit (kind_of es newline)
kind_within limit [] true so = tt
kind_within limit [] false so = tt
kind_within limit (e ∷ es) newline so = so

-- the entries of a line name no offset past the place where the line ends
pub entries_within : (edition : Edition) → (T : List ℕ) (l : ALine) → IsLine edition T l →
    EntryNodesWithin l.next l.kind
entries_within edition T l (line_read es newline t k part) =
    kind_within t.at es newline (line_within edition T 0 Whole false newline es t
    (sym ((computed_is_only (the_line false) (given edition T 0) (standing 0)).only _ _ part)) t.at (omega arith))
entries_within edition T l (line_stops f k part) = tt

-- ---- scripts

-- where the entries so far fit, and those of one more line, so do all of them
pub more_within : (limit : ℕ) (so then : LinesSoFar) (es : Row AnEntry) → then ≡ with_line so es →
    NodesWithin limit (entries_of so.entries) → NodesWithin limit (entries_of es)
    → NodesWithin limit (entries_of then.entries)
more_within limit so then es is all line =
    subst (λ (s : LinesSoFar). NodesWithin limit (entries_of s.entries)) (sym is)
    (within_append limit so.entries es all line)
