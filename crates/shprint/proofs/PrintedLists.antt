-- Entries, the lines of a list, and lists: what is printed for them is read as of their shape, up to what
-- parts or ends them.
use Rattle.std.proofs.Common.{◌≡◌, ℕ, ◌+◌, ◌<◌, ◌≤◌, ⊎_elim, Bool, true, false, not, ◌&&◌, ◌||◌, List, List as Row, [], ◌∷◌, ◌++◌, length, drop, codes, Option, Some, None, is_some, option_map, slice_get, refl, sym, ap, subst, ◌∙◌, arith, append_assoc, append-nil}
use Rattle.std.proofs.Math.Bool.{and-true, or-true, or-false, or_assoc}
use Rattle.std.proofs.lemmas.Bool.{both_ways, cases_lt, and_parts}
use Rattle.std.proofs.lemmas.Option.{slice_get_within}
use Rattle.shgrammar.specs.declared.edition.Edition.{Edition}
use Rattle.shgrammar.specs.declared.token.Next.{Next}
use Rattle.shgrammar.specs.declared.token.Position.{Position}
use Rattle.shgrammar.specs.declared.token.Position.TheVariants.{Command}
use Rattle.shgrammar.specs.declared.token.Separator.{Separator}
use Rattle.shgrammar.specs.declared.token.Separator.TheVariants.{Ampersand}
use Rattle.shgrammar.specs.declared.token.Token.{Token}
use Rattle.shgrammar.specs.declared.token.Token.TheVariants as tokens
use Rattle.shgrammar.specs.Characters.{ampersand, newline_char, number_sign, space}
use Rattle.shgrammar.specs.Bytes.{past_byte, byte_at, past_blanks}
use Rattle.shgrammar.specs.Comments.{span}
use Rattle.shgrammar.specs.Standing.{raw_stands}
use Rattle.shgrammar.specs.Tokens.{token_in, token_of, token_at}
use Rattle.shgrammar.specs.Form.{give, leads_on, again, done, many, step_if}
use Rattle.shgrammar.specs.Levels.{level}
use Rattle.shast.specs.Normal.{is_whole, is_command, holds_command, is_normal_entry, first_not_blank, are_normal, is_normal_and_or}
use Rattle.shgrammar.specs.Lists.{Listed, list_so_far, none_listed, one_entry, entry_turn, a_remark, on_line, list_turn, a_list}
use Rattle.shgrammar.specs.Commands.{Entered, an_entry, a_separator, separator_of, told_separator, is_background, begins_pipeline, and_or_operator_of, is_pipe, a_comment, begins_simple, is_newline_token, is_empty, ASeparator, past_separator}
use Rattle.shgrammar.proofs.MovedTrees.{pushed_some}
use Rattle.shgrammar.proofs.Places.{blanks_low}
use Rattle.shast.specs.Opened.{entries_bodies, entry_bodies, content_bodies, opened, open_entry, open_content, open_and_or}
use Rattle.shgrammar.proofs.CommentsAnywhere.{CommentAnywhere}
use Rattle.shast.specs.declared.tree.Span.{Span}
use Rattle.shast.specs.Shape.{Text, Shape, shape_of_and_or, shape_of_comment, shape_of_entry, shape_of}
use Rattle.shast.specs.Tree.{EntriesOf, no_entry, more_entries, entries_of, AContentOf, remark, AnEntryOf, AnEntry, entry, command, AnAndOr, AnAndOrOf}
use Rattle.shprint.specs.declared.layout.Layout.{Layout}
use Rattle.shprint.specs.Marks.{text, line_end, Marks, laid_after, one}
use Rattle.shprint.specs.Printed.{print_content, print_entry, print_entries, print_blank, print_background, print_own_comment, print_and_or}
use Rattle.shprint.proofs.Tokens.{ampersand_token, byte_here, newline_token, start_here, Start, all_blank, blank_gap, no_gap, next_one}
use Rattle.shprint.proofs.Gives.{Gives, gives_on, told_here, ◌⟫◌, given_here, pushed_here, first_of, second_of, last_turn, one_turn}
use Rattle.shprint.proofs.Held.{At, Held, StandsIn, g, lay, state}
use Rattle.shprint.proofs.Good.{GoodContent, GoodEntries, GoodOwnComment, GoodAndOr}
use Rattle.shprint.proofs.PrintedText.{laid_text, after_line, laid_line, Parted, no_more, AddsBodies, at_text, some_here, leads, edition_token, edition_next, edition_next_after, edition_same, next_read, RowRead, Follower, no_byte, newline_next, newline_read, no_newline_read, no_comment_read, comment_read, comment_shape, comment_start, margin_gap, PipelineBegins, one_moved}
use Rattle.shprint.proofs.PrintedCommands.{CompoundsRead, and_or_begins, and_or_read}

-- ---- entries and lines as they are printed

-- what stands after the commands of an entry, up to the end of its line
abbrev pub entry_rest : Bool → Option Text → Marks → Marks
entry_rest background comment rest = print_background background
    ++ (print_own_comment comment ++ (line_end ∷ rest))

-- what stands after `&` makes no longer operator of it
own_parted : (h : Held) (comment : Option Text) (rest : Marks) →
    Parted (lay h (print_own_comment comment ++ (line_end ∷ rest)))
unfolding laid_after
own_parted h None rest = record {
  c = newline_char;
  cs = _;
  is = refl;
  no_backslash = refl;
  no_bar = refl;
  no_ampersand = refl;
}
own_parted h (Some c) rest =
    record { c = space; cs = _; is = refl; no_backslash = refl; no_bar = refl; no_ampersand = refl }

-- what is printed of entries, by the parts of the first one
pub entry_marks : (y : Layout) (d : Text) (what : Shape AContentOf) (background blank : Bool) (comment : Option Text)
    (es : Shape EntriesOf) (rest : Marks)
    → print_entries y d (more_entries (entry what background blank comment) es) ++ rest
    ≡ print_blank blank ++ (text d
    ∷ (print_content y d what ++ entry_rest background comment (print_entries y d es ++ rest)))
entry_marks y d what background blank comment es rest =
    let C = print_content y d what in
    let G = print_background background in
    let O = print_own_comment comment in
    let L = line_end ∷ [] in
    let more = print_entries y d es ++ rest in
    append_assoc (print_entry y d (entry what background blank comment)) (print_entries y d es) rest
    ∙ append_assoc (print_blank blank) (text d ∷ (((C ++ G) ++ O) ++ L)) more
    ∙ ap (λ ms. print_blank blank ++ (text d ∷ ms))
    (append_assoc ((C ++ G) ++ O) L more ∙ append_assoc (C ++ G) O (line_end ∷ more)
    ∙ append_assoc C G (O ++ (line_end ∷ more)))

-- ---- what is known of a list

-- an entry after an empty line is not the first one
pub blank_first : (acc : Row AnEntry) → (is_empty acc ≡ true → false ≡ true) → is_empty acc ≡ false
blank_first [] e = absurd (both_ways false refl (e refl))
blank_first (x ∷ xs) e = refl

-- the entries so far, at the beginning of a line
abbrev pub at_line_start : Row AnEntry → Bool → Bool → Option ℕ → Listed
at_line_start es blank commands parted =
    record { entries = es; blank = blank; begun = false; commands = commands; parted = parted }

-- the entries so far, after one of them on its line
abbrev pub on_this_line : Row AnEntry → Bool → Bool → Option ℕ → Listed
on_this_line es blank commands parted =
    record { entries = es; blank = blank; begun = true; commands = commands; parted = parted }

module _ {edition : Edition} {B T : List ℕ} {o : ℕ} (S : StandsIn edition B T o) where
  -- ---- the rest of an entry

  -- what follows the commands of an entry
  record EntryFollow (ms : Marks) : Type 0 where
    token : Token
    follower : Follower S ms token
    no_item : begins_simple token ≡ false
    not_pipe : is_pipe token ≡ false
    no_operator : and_or_operator_of token ≡ None

  -- at the end of a line a newline is told
  line_follower : (rest : Marks) → Follower S (line_end ∷ rest) tokens.Newline
  unfolding laid_after
  line_follower rest = record {
    follow = λ held. refl;
    no_round = refl;
    seen_as = λ h e at position. (newline_next S h position e rest at).0;
  }

  -- where a number sign is read a comment is told
  sharp_token : (position : Position) (q : ℕ) → byte_at T q ≡ Some number_sign →
      edition_token S position q ≡ tokens.Comment
  unfolding token_at
  sharp_token position q e = edition_same S (ap (token_of position T q) e)

  -- a comment is told after its space
  comment_follower : (c : Text) (rest : Marks) → CommentAnywhere c →
      Follower S (text (codes " ") ∷ text c ∷ line_end ∷ rest) tokens.Comment
  unfolding laid_after
  comment_follower c rest good = record {
    follow = λ held. refl;
    no_round = refl;
    seen_as = λ h e at position.
        let at_after = at_text S h e (codes " ") (text c ∷ line_end ∷ rest) at in
        let found = good.there T o (e + 1) (after_line h rest)
        (at_after ∙ laid_text h c (line_end ∷ rest) ∙ ap (λ z. c ++ z) (laid_line h rest)) in
        let gap = margin_gap S h (codes " ") e (text c ∷ line_end ∷ rest) refl at
        (comment_start S h c (e + 1) rest good at_after) in
        edition_next_after S position gap ∙ ap (λ t. record { token = t; broken = false })
        (sharp_token position (e + 1) found.4);
  }

  -- `&` is told after its space
  background_follower : (ms : Marks) → ((h : Held) → Parted (lay h ms)) →
      Follower S (text (codes " &") ∷ ms) tokens.Ampersand
  unfolding laid_after
  background_follower ms parted = record {
    follow = λ held. refl;
    no_round = refl;
    seen_as = λ h e at position.
        let there = at ∙ laid_text h (codes " &") ms in
        let amp = next_one T e space (ampersand ∷ lay h ms) there in
        let start = start_here (byte_here T (e + 1) ampersand (lay h ms) refl amp) refl in
        let gap = blank_gap refl there (no_gap start) in
        edition_next_after S position gap ∙ ap (λ t. record { token = token_in edition t; broken = false })
        (ampersand_token position T (e + 1) (parted h).c (parted h).cs (parted h).no_backslash
        (parted h).no_ampersand (amp ∙ ap (λ z. ampersand ∷ z) (parted h).is));
  }

  -- one of the three follows the commands of an entry
  entry_follow : (background : Bool) (comment : Option Text) (rest : Marks) → GoodOwnComment comment →
      EntryFollow (entry_rest background comment rest)
  entry_follow true comment rest good = record {
    token = tokens.Ampersand;
    follower = background_follower (print_own_comment comment ++ (line_end ∷ rest))
        (λ h. own_parted h comment rest);
    no_item = refl;
    not_pipe = refl;
    no_operator = refl;
  }
  entry_follow false None rest good =
      record {
        token = tokens.Newline;
        follower = line_follower rest;
        no_item = refl;
        not_pipe = refl;
        no_operator = refl;
      }
  entry_follow false (Some c) rest good =
      record {
        token = tokens.Comment;
        follower = comment_follower c rest good;
        no_item = refl;
        not_pipe = refl;
        no_operator = refl;
      }

  -- what is read of the separator of an entry, `&` in the background and else none
  record SeparatorRead (h : Held) (e : ℕ) (background : Bool) (ms : Marks) : Type 0 where
    separator : Option ASeparator
    f : ℕ
    at : At S h f ms
    reads : Gives (g S) (a_separator (edition_next S Command e)) (state h (past_blanks T e))
        (separator, edition_next S Command f)
        (state h (past_blanks T f))
    background_is : is_background separator ≡ background
    parted_is : is_some (past_separator separator) ≡ background

  -- where another token stands no separator is read
  no_separator : (h : Held) (n : Next) (q : ℕ) → separator_of n.token ≡ None →
      Gives (g S) (a_separator n) (state h q) (None, n) (state h q)
  unfolding a_separator
  no_separator h n q e = rw e given_here

  -- a separator of one byte is read
  pub some_separator : (h : Held) (n : Next) (q : ℕ) (k : Separator) → separator_of n.token ≡ Some k →
      past_byte T q ≡ q + 1
      → Gives (g S) (a_separator n) (state h q) (Some (k, o + (q + 1)), edition_next S Command (q + 1))
      (state h (past_blanks T (q + 1)))
  unfolding a_separator
  some_separator h n q k e after_is =
      let moved = one_moved S h q after_is in
      rw e (told_here (told_separator k) moved ⟫ next_read S h Command (q + 1) ⟫ given_here)

  -- `&` is read, or none
  separator_read : (h : Held) (background : Bool) (comment : Option Text) (rest : Marks) (e : ℕ) →
      GoodOwnComment comment → At S h e (entry_rest background comment rest)
      → SeparatorRead h e background (print_own_comment comment ++ (line_end ∷ rest))
  separator_read h true comment rest e good at =
      let ms = print_own_comment comment ++ (line_end ∷ rest) in
      let there = at ∙ laid_text h (codes " &") ms in
      let amp = next_one T e space (ampersand ∷ lay h ms) there in
      let r = byte_here T (e + 1) ampersand (lay h ms) refl amp in
      let gap = blank_gap refl there (no_gap (start_here r refl)) in
      let q = past_blanks T e in
      let the_ampersand = byte_here T q ampersand (lay h ms) refl
      (subst (λ p. drop p T ≡ ampersand ∷ lay h ms) (sym gap.blanks) amp) in
      let n_is = (background_follower ms (λ h. own_parted h comment rest)).seen_as h e at Command in
      record {
        separator = Some (Ampersand, o + (q + 1));
        f = q + 1;
        at = the_ampersand.rest;
        reads = some_separator h (edition_next S Command e) q Ampersand
            (ap (λ (n : Next). separator_of n.token) n_is) the_ampersand.place_after;
        background_is = refl;
        parted_is = refl;
      }
  separator_read h false None rest e good at = record {
    separator = None;
    f = e;
    at = at;
    reads = no_separator h (edition_next S Command e) (past_blanks T e)
        (ap (λ (n : Next). separator_of n.token) ((line_follower rest).seen_as h e at Command));
    background_is = refl;
    parted_is = refl;
  }
  separator_read h false (Some c) rest e good at = record {
    separator = None;
    f = e;
    at = at;
    reads = no_separator h (edition_next S Command e) (past_blanks T e)
        (ap (λ (n : Next). separator_of n.token) ((comment_follower c rest good).seen_as h e at Command));
    background_is = refl;
    parted_is = refl;
  }

  -- what is read of the comment of an entry, or of none, up to the end of its line
  record OwnRead (h : Held) (f : ℕ) (comment : Option Text) (rest : Marks) : Type 0 where
    own : Option Span
    «end» : ℕ
    at : At S h «end» (line_end ∷ rest)
    reads : Gives (g S) (a_comment (edition_next S Command f)) (state h (past_blanks T f))
        (own, edition_next S Command «end»)
        (state h (past_blanks T «end»))
    shape : option_map (shape_of_comment B) own ≡ comment

  -- the comment is read, or none
  own_read : (h : Held) (comment : Option Text) (rest : Marks) (f : ℕ) → GoodOwnComment comment →
      At S h f (print_own_comment comment ++ (line_end ∷ rest)) → OwnRead h f comment rest
  own_read h None rest f good at =
      let line = newline_next S h Command f rest at in
      let at_q = subst (λ q. At S h q (line_end ∷ rest)) (sym line.1) at in
      record {
        own = None;
        «end» = f;
        at = at;
        reads = no_comment_read S h (edition_next S Command f) (past_blanks T f)
            (no_byte S (past_blanks T f) newline_char (after_line h rest) number_sign refl (at_q ∙ laid_line h rest));
        shape = refl;
      }
  own_read h (Some c) rest f good at =
      let at_after = at_text S h f (codes " ") (text c ∷ line_end ∷ rest) at in
      let gap = margin_gap S h (codes " ") f (text c ∷ line_end ∷ rest) refl at
      (comment_start S h c (f + 1) rest good at_after) in
      let q = past_blanks T f in
      let at_q = subst (λ r. At S h r (text c ∷ line_end ∷ rest)) (sym gap.blanks) at_after in
      record {
        own = Some (span o q (q + length c));
        «end» = q + length c;
        at = at_text S h q c (line_end ∷ rest) at_q;
        reads = comment_read S h c (edition_next S Command f) q rest good at_q;
        shape = ap Some (comment_shape S h c q (line_end ∷ rest) at_q);
      }

  -- ---- the end of a line, and of a list

  -- where none stands no comment is read
  pub no_remark : (h : Held) (l : Listed) (n : Next) (p : ℕ) → raw_stands T p number_sign ≡ false →
      Gives (g S) (a_remark (list_so_far l n)) (state h p) (list_so_far l n) (state h p)
  unfolding a_remark
  no_remark h l n p e = no_comment_read S h n p e ⟫ given_here

  -- at the end of a line a newline token stands, and no blank or comment before it
  pub record LineEnd (h : Held) (e : ℕ) (rest : Marks) : Type 0 where
    pub n_is : edition_next S Command e ≡ record { token = tokens.Newline; broken = false }
    pub q_is : past_blanks T e ≡ e
    pub at_q : At S h (past_blanks T e) (line_end ∷ rest)
    pub no_comment_q : raw_stands T (past_blanks T e) number_sign ≡ false

  -- a newline token stands there
  pub line_end_here : (h : Held) (e : ℕ) (rest : Marks) → At S h e (line_end ∷ rest) → LineEnd h e rest
  line_end_here h e rest at =
      let line = newline_next S h Command e rest at in
      let at_q = subst (λ q. At S h q (line_end ∷ rest)) (sym line.1) at in
      record {
        n_is = line.0;
        q_is = line.1;
        at_q = at_q;
        no_comment_q = no_byte S (past_blanks T e) newline_char (after_line h rest) number_sign refl
            (at_q ∙ laid_line h rest);
      }

  -- where a pipeline begins the text has not ended
  pub pipeline_within : (p : ℕ) → PipelineBegins S p → p < length T
  unfolding token_at
  pipeline_within p b = by_byte (byte_at T p) refl
    where
      -- a pipeline begins with a byte that stands in the text
      by_byte : (x : Option ℕ) → byte_at T p ≡ x → p < length T
      by_byte None e = absurd (both_ways (begins_pipeline (token_in edition (token_of Command T p (byte_at T p))))
          (ap (λ x. begins_pipeline (token_in edition (token_of Command T p x))) e) b.begins)
      by_byte (Some c) e = slice_get_within T p c (ap (slice_get T) (sym b.operand.start.place) ∙ e)

  -- what ends a list begins none of its lines
  pub record Closes (e : ℕ) : Type 0 where
    pub not_entry : begins_pipeline (edition_token S Command (past_blanks T e)) ≡ false
    pub not_newline : is_newline_token (edition_token S Command (past_blanks T e)) ≡ false
    pub not_comment : raw_stands T (past_blanks T e) number_sign ≡ false

module _ {edition : Edition} {B T : List ℕ} {o : ℕ} {S : StandsIn edition B T o} {room : ℕ} {y : Layout}
    (fine : CompoundsRead S room y) where
  -- ---- entries

  -- what is read of an entry, with the offset after its separator, up to the end of its line
  pub record EntryRead (h : Held) (blank : Bool) (n : Next) (p : ℕ) (a : Shape AnAndOrOf) (background : Bool)
      (comment : Option Text) (rest : Marks) : Type 0 where
    pub value : AnEntry
    pub «end» : ℕ
    pub later : Held
    pub at : At S later «end» (line_end ∷ rest)
    pub parted : Option ℕ
    pub reads : Gives (g S) (an_entry (level room) blank n) (state h p)
        (record { entry = value; parted = parted; next = edition_next S Command «end» })
        (state later (past_blanks T «end»))
    pub parted_is : is_some parted ≡ background
    pub shape : shape_of_entry B value ≡ open_entry [] (entry (command a) background blank comment)
    pub texts : AddsBodies S h later (entry_bodies (entry (command a) background blank comment))

  -- an entry is in the background as its separator says
  entered_is : (blank : Bool) (a : AnAndOr) (s : Option ASeparator) (c : Option Span) (n : Next)
      (background : Bool) → is_background s ≡ background
      → ◌≡◌ {A = Entered} (record
      { entry = entry (command a) (is_background s) blank c; parted = past_separator s; next = n })
      (record { entry = entry (command a) background blank c; parted = past_separator s; next = n })
  entered_is blank a s c n background e = rw e refl

  -- the shape of an entry by those of its parts
  entry_shape : (blank background : Bool) (a : AnAndOr) (c : Option Span) (x : Shape AnAndOrOf)
      (comment : Option Text) → shape_of_and_or B a ≡ open_and_or [] x →
      option_map (shape_of_comment B) c ≡ comment
      → shape_of_entry B (entry (command a) background blank c)
      ≡ open_entry [] (entry (command x) background blank comment)
  unfolding open_entry open_content
  entry_shape blank background a c x comment e f = rw (e, f) refl

  -- an entry is read as it is printed, up to the end of its line
  pub entry_read : (h : Held) (m : Text) (blank : Bool) (a : Shape AnAndOrOf) (background : Bool)
      (comment : Option Text) (n : Next) (p : ℕ) (rest : Marks) → all_blank m ≡ true → GoodAndOr edition room a
      → GoodOwnComment comment → is_normal_and_or a ≡ true → n.token ≡ edition_token S Command p →
      At S h p (print_and_or y m a ++ entry_rest background comment rest) →
      EntryRead h blank n p a background comment rest
  unfolding an_entry entry_bodies content_bodies
  entry_read h m blank a background comment n p rest is_blank_m good good_c normal token_is at =
      let follow = entry_follow S background comment rest good_c in
      let and_or_got = and_or_read fine h m a n p
      (entry_rest background comment rest) follow.token is_blank_m good normal follow.follower follow.no_item
      follow.not_pipe follow.no_operator token_is at in
      let separator_got = separator_read S and_or_got.later background comment rest and_or_got.«end» good_c
      and_or_got.at in
      let comment_got = own_read S and_or_got.later comment rest separator_got.f good_c separator_got.at in
      let last_state = state and_or_got.later (past_blanks T comment_got.«end») in
      let n_end = edition_next S Command comment_got.«end» in
      let is_entered = entered_is blank and_or_got.value separator_got.separator comment_got.own n_end background
      separator_got.background_is in
      record {
        value = entry (command and_or_got.value) background blank comment_got.own;
        «end» = comment_got.«end»;
        later = and_or_got.later;
        at = comment_got.at;
        texts = and_or_got.texts;
        parted = past_separator separator_got.separator;
        parted_is = separator_got.parted_is;
        reads = and_or_got.reads ⟫ separator_got.reads ⟫ comment_got.reads ⟫ subst
            (λ z. Gives (g S) (give (record {
              entry = entry (command and_or_got.value) (is_background separator_got.separator) blank comment_got.own;
              parted = past_separator separator_got.separator;
              next = n_end;
            })) last_state z last_state) is_entered given_here;
        shape = entry_shape blank background and_or_got.value comment_got.own a comment and_or_got.is comment_got.shape;
      }

  -- ---- lines of a list

  -- where no pipeline begins the turns on a line end
  pub no_entry_turn : (h : Held) (l : Listed) (n : Next) (p : ℕ) → begins_pipeline n.token ≡ false →
      Gives (g S) (entry_turn (level room) (list_so_far l n)) (state h p) (done (list_so_far l n)) (state h p)
  unfolding entry_turn
  no_entry_turn h l n p e = second_of _ _ e given_here

  -- where neither a pipeline nor a comment begins nothing is read on a line
  pub nothing_on_line : (h : Held) (l : Listed) (n : Next) (p : ℕ) → begins_pipeline n.token ≡ false →
      raw_stands T p number_sign ≡ false →
      Gives (g S) (on_line (level room) (list_so_far l n)) (state h p) (list_so_far l n) (state h p)
  unfolding on_line
  nothing_on_line h l n p e f = last_turn (entry_turn (level room)) (no_entry_turn h l n p e) ⟫ no_remark S h l n p f

  -- what is read of an entry alone on its line, up to its end: one entry more than those so far
  pub record OnLine (h : Held) (acc : Row AnEntry) (blank commands : Bool) (before : Option ℕ) (n : Next) (p : ℕ)
      (e : Shape AnEntryOf) (is_a_command : Bool) (rest : Marks) : Type 0 where
    pub value : AnEntry
    pub «end» : ℕ
    pub parted : Option ℕ
    pub later : Held
    pub at : At S later «end» (line_end ∷ rest)
    pub reads : Gives (g S) (on_line (level room) (list_so_far (at_line_start acc blank commands before) n)) (state h p)
        (list_so_far (on_this_line (acc ++ value ∷ []) blank (commands || is_a_command) parted)
        (edition_next S Command «end»))
        (state later (past_blanks T «end»))
    pub shape : shape_of_entry B value ≡ open_entry [] e
    pub texts : AddsBodies S h later (entry_bodies e)

  -- the turns on a line read its one entry, by what is known of it
  one_entry_by : (h : Held) (acc : Row AnEntry) (blank commands : Bool) (before : Option ℕ) (n : Next) (p : ℕ)
      (a : Shape AnAndOrOf) (background : Bool) (comment : Option Text) (rest : Marks)
      → begins_pipeline n.token ≡ true → p < length T →
      (r : EntryRead h (blank && true) n p a background comment rest) → p < past_blanks T r.«end»
      → Gives (g S) (many (entry_turn (level room)) (list_so_far (at_line_start acc blank commands before) n))
      (state h p)
      (list_so_far (on_this_line (acc ++ r.value ∷ []) blank true r.parted) (edition_next S Command r.«end»))
      (state r.later (past_blanks T r.«end»))
  unfolding entry_turn one_entry
  one_entry_by h acc blank commands before n p a true comment rest begins within r on =
      let line = line_end_here S r.later r.«end» rest r.at in
      let more = list_so_far (on_this_line (acc ++ r.value ∷ []) blank true r.parted)
      (edition_next S Command r.«end») in
      let turned = first_of _ _ begins (r.reads ⟫ pushed_here acc r.value ⟫ given_here) in
      let read_one = subst (λ b. Gives (g S)
      (entry_turn (level room) (list_so_far (at_line_start acc blank commands before) n))
      (state h p) (step_if b more) (state r.later (past_blanks T r.«end»))) r.parted_is turned in
      one_turn (entry_turn (level room)) read_one (leads S h r.later p (past_blanks T r.«end») on within)
      (last_turn (entry_turn (level room))
      (no_entry_turn r.later (on_this_line (acc ++ r.value ∷ []) blank true r.parted) (edition_next S Command r.«end»)
      (past_blanks T r.«end») (ap (λ (n : Next). begins_pipeline n.token) line.n_is)))
  one_entry_by h acc blank commands before n p a false comment rest begins within r on =
      let more = list_so_far (on_this_line (acc ++ r.value ∷ []) blank true r.parted)
      (edition_next S Command r.«end») in
      let turned = first_of _ _ begins (r.reads ⟫ pushed_here acc r.value ⟫ given_here) in
      last_turn (entry_turn (level room))
      (subst (λ b. Gives (g S) (entry_turn (level room) (list_so_far (at_line_start acc blank commands before) n))
      (state h p)
      (step_if b more) (state r.later (past_blanks T r.«end»))) r.parted_is turned)

  -- between a place where a pipeline begins and one where the line ends the reading has moved
  moved_to_line_end : (h : Held) (p q : ℕ) (rest : Marks) → p ≤ q → PipelineBegins S p →
      At S h q (line_end ∷ rest) → p < q
  moved_to_line_end h p q rest low b at_q =
      ⊎_elim (λ lt. lt) (λ ge. let same : p ≡ q = omega (arith, low, ge) in
      absurd (both_ways (is_newline_token (edition_token S Command p)) b.operand.no_newline
      (ap is_newline_token (edition_same S
      (newline_token Command T p (after_line h rest)
      (subst (λ r. drop r T ≡ newline_char ∷ after_line h rest) (sym same) (at_q ∙ laid_line h rest)))))))
      (cases_lt p q)

  -- a command is read on its line
  command_on_line : (h : Held) (m : Text) (acc : Row AnEntry) (blank commands : Bool) (before : Option ℕ)
      (a : Shape AnAndOrOf) (background : Bool) (comment : Option Text) (n : Next) (p : ℕ) (rest : Marks) →
      all_blank m ≡ true
      → GoodAndOr edition room a → GoodOwnComment comment → is_normal_and_or a ≡ true →
      n.token ≡ edition_token S Command p →
      At S h p (print_and_or y m a ++ entry_rest background comment rest)
      → OnLine h acc blank commands before n p (entry (command a) background blank comment) true rest
  unfolding on_line entry_bodies content_bodies
  command_on_line h m acc blank commands before a background comment n p rest blank_m good good_c normal token_is
      at =
      let r = entry_read h m (blank && true) a background comment n p rest blank_m good good_c normal token_is
      at in
      let follow = entry_follow S background comment rest good_c in
      let b = and_or_begins fine h m a p
      (entry_rest background comment rest) follow.token good follow.follower follow.no_item follow.not_pipe
      at in
      let line = line_end_here S r.later r.«end» rest r.at in
      let low = gives_on (an_entry (level room) (blank && true) n) _ _ _ r.reads in
      let on : p < past_blanks T r.«end» = moved_to_line_end r.later p (past_blanks T r.«end») rest low b
      line.at_q in
      let turns = one_entry_by h acc blank commands before n p a background comment rest
      (ap begins_pipeline token_is ∙ b.begins) (pipeline_within S p b) r on in
      record {
        value = r.value;
        «end» = r.«end»;
        parted = r.parted;
        later = r.later;
        at = r.at;
        reads = subst (λ c. Gives (g S) (on_line (level room) (list_so_far (at_line_start acc blank commands before) n))
            (state h p) (list_so_far (on_this_line (acc ++ r.value ∷ []) blank c r.parted)
            (edition_next S Command r.«end»))
            (state r.later (past_blanks T r.«end»)))
            (sym (or-true commands)) (turns ⟫ no_remark S r.later
            (on_this_line (acc ++ r.value ∷ []) blank true r.parted) (edition_next S Command r.«end»)
            (past_blanks T r.«end») line.no_comment_q);
        shape = r.shape ∙ ap (λ b. open_entry [] (entry (command a) background b comment)) (and-true blank);
        texts = r.texts;
      }

  -- a comment is read on a line of its own
  remark_on_line : (h : Held) (acc : Row AnEntry) (blank commands : Bool) (before : Option ℕ) (c : Text)
      (n : Next) (p : ℕ) (rest : Marks) → CommentAnywhere c → n.token ≡ edition_token S Command p →
      At S h p (text c ∷ line_end ∷ rest)
      → OnLine h acc blank commands before n p (entry (remark c) false blank None) false rest
  unfolding on_line a_remark open_entry open_content entry_bodies content_bodies
  remark_on_line h acc blank commands before c n p rest good token_is at =
      let found = good.there T o p (after_line h rest)
      (at ∙ laid_text h c (line_end ∷ rest) ∙ ap (λ z. c ++ z) (laid_line h rest)) in
      let is_sharp = token_is ∙ sharp_token S Command p found.4 in
      let e = p + length c in
      let v = entry (remark (span o p e)) false (blank && true) None in
      record {
        value = v;
        «end» = e;
        parted = before;
        later = h;
        at = at_text S h p c (line_end ∷ rest) at;
        reads = subst (λ k. Gives (g S) (on_line (level room) (list_so_far (at_line_start acc blank commands before) n))
            (state h p) (list_so_far (on_this_line (acc ++ v ∷ []) blank k before) (edition_next S Command e))
            (state h (past_blanks T e)))
            (sym (or-false commands))
            (last_turn (entry_turn (level room))
            (no_entry_turn h (at_line_start acc blank commands before) n p (ap begins_pipeline is_sharp)) ⟫
            (comment_read S h c n p rest good at ⟫ (pushed_here acc v ⟫ given_here)));
        shape = remark_shape h blank c p at;
        texts = λ ts. refl;
      }
    where
      -- the entry has the shape of the comment
      remark_shape : (h : Held) (blank : Bool) (c : Text) (p : ℕ) → At S h p (text c ∷ line_end ∷ rest) →
          shape_of_entry B (entry (remark (span o p (p + length c))) false (blank && true) None)
          ≡ entry (remark c) false blank None
      remark_shape h blank c p at = rw (comment_shape S h c p (line_end ∷ rest) at, and-true blank) refl

  -- an entry, or a comment on a line of its own, is read
  pub entry_on_line : (h : Held) (m : Text) (acc : Row AnEntry) (blank commands : Bool) (before : Option ℕ)
      (what : Shape AContentOf) (background : Bool) (comment : Option Text) (n : Next) (p : ℕ) (rest : Marks) →
      all_blank m ≡ true
      → GoodContent edition room what → GoodOwnComment comment →
      is_normal_entry (entry what background blank comment) ≡ true → n.token ≡ edition_token S Command p
      → At S h p (print_content y m what ++ entry_rest background comment rest) →
      OnLine h acc blank commands before n p (entry what background blank comment)
      (is_command (entry what background blank comment)) rest
  entry_on_line h m acc blank commands before
      (command a) background comment n p rest blank_m good good_c normal token_is at =
      command_on_line h m acc blank commands before a background comment n p rest blank_m good good_c normal
      token_is at
  entry_on_line h m acc blank commands before
      (remark c) false None n p rest blank_m good good_c normal token_is at =
      remark_on_line h acc blank commands before c n p rest good token_is at
  entry_on_line h m acc blank commands before
      (remark c) true comment n p rest blank_m good good_c normal token_is at = absurd cc
  entry_on_line h m acc blank commands before (remark c) false
      (Some d) n p rest blank_m good good_c normal token_is at = absurd cc

  -- a command or a comment begins where it is printed
  pub content_start : (h : Held) (m : Text) (what : Shape AContentOf) (background blank : Bool)
      (comment : Option Text) (p : ℕ) (rest : Marks) → GoodContent edition room what → GoodOwnComment comment
      → is_normal_entry (entry what background blank comment) ≡ true →
      At S h p (print_content y m what ++ entry_rest background comment rest) → Start T p
  content_start h m (command a) background blank comment p rest good good_c normal at =
      let follow = entry_follow S background comment rest good_c in
      (and_or_begins fine h m a p (entry_rest background comment rest) follow.token good follow.follower follow.no_item
      follow.not_pipe at).operand.start
  content_start h m (remark c) false blank None p rest good good_c normal at = comment_start S h c p rest good at
  content_start h m (remark c) true blank comment p rest good good_c normal at = absurd cc
  content_start h m (remark c) false blank (Some d) p rest good good_c normal at = absurd cc

  -- what a turn of a list reads of an entry and the newline after it, and that it goes on
  record LineRead (h : Held) (acc : Row AnEntry) (blank commands : Bool) (before : Option ℕ) (n : Next) (p : ℕ)
      (x : Shape AnEntryOf) (rest : Marks) : Type 0 where
    value : AnEntry
    f : ℕ
    parted : Option ℕ
    later : Held
    at : At S later f rest
    reads : Gives (g S) (list_turn (level room) (list_so_far (at_line_start acc blank commands before) n)) (state h p)
        (again (list_so_far (at_line_start (acc ++ value ∷ []) false (commands || is_command x) parted)
        (edition_next S Command f))) (state later (past_blanks T f))
    on : leads_on (g S) (state h p) (state later (past_blanks T f)) ≡ true
    shape : shape_of_entry B value ≡ open_entry [] x
    texts : AddsBodies S h later (entry_bodies x)

  -- the line is read with its newline, by what is read of its entry
  line_by : (h : Held) (acc : Row AnEntry) (blank commands : Bool) (before : Option ℕ) (n : Next) (p : ℕ)
      (x : Shape AnEntryOf) (rest : Marks) → OnLine h acc blank commands before n p x (is_command x) rest →
      LineRead h acc blank commands before n p x rest
  unfolding list_turn
  line_by h acc blank commands before n p x rest r =
      let line = line_end_here S r.later r.«end» rest r.at in
      let q = past_blanks T r.«end» in
      let low = gives_on (on_line (level room) (list_so_far (at_line_start acc blank commands before) n)) _ _ _
      r.reads in
      let within = some_here S q newline_char (after_line r.later rest) (line.at_q ∙ laid_line r.later rest) in
      let z = newline_read S r.later (edition_next S Command r.«end») q rest
      (ap (λ (n : Next). is_newline_token n.token) line.n_is) line.at_q in
      record {
        value = r.value;
        f = z.q;
        parted = r.parted;
        later = z.later;
        at = z.at;
        reads = r.reads ⟫ z.reads ⟫ given_here;
        on = leads S h z.later p (past_blanks T z.q) (omega (arith, low, z.on, blanks_low T z.q))
            (omega (arith, low, within));
        shape = r.shape;
        texts = λ ts. z.texts ts ∙ r.texts ts;
      }

  -- what a turn of a list reads of a line without entries: where entries stand before it the next one is
  -- blank
  pub record EmptyLine (h : Held) (acc : Row AnEntry) (blank commands : Bool) (before : Option ℕ) (e : ℕ)
      (rest : Marks) : Type 0 where
    pub later : Held
    pub q : ℕ
    pub at : At S later q rest
    pub reads : Gives (g S) (list_turn (level room)
        (list_so_far (at_line_start acc blank commands before) (edition_next S Command e)))
        (state h (past_blanks T e))
        (again (list_so_far (at_line_start acc (not (is_empty acc)) commands before) (edition_next S Command q)))
        (state later (past_blanks T q))
    pub on : leads_on (g S) (state h (past_blanks T e)) (state later (past_blanks T q)) ≡ true
    pub texts : AddsBodies S h later no_more

  -- an empty line is read
  pub empty_line : (h : Held) (acc : Row AnEntry) (blank commands : Bool) (before : Option ℕ) (e : ℕ) (rest : Marks) →
      At S h e (line_end ∷ rest) → EmptyLine h acc blank commands before e rest
  unfolding list_turn
  empty_line h acc blank commands before e rest at =
      let line = line_end_here S h e rest at in
      let p = past_blanks T e in
      let z = newline_read S h (edition_next S Command e) p rest
      (ap (λ (n : Next). is_newline_token n.token) line.n_is) line.at_q in
      record {
        later = z.later;
        q = z.q;
        at = z.at;
        reads = nothing_on_line h (at_line_start acc blank commands before) (edition_next S Command e) p
            (ap (λ (n : Next). begins_pipeline n.token) line.n_is) line.no_comment_q ⟫ z.reads ⟫ given_here;
        on = leads S h z.later p (past_blanks T z.q) (omega (arith, z.on, blanks_low T z.q))
            (some_here S p newline_char (after_line h rest) (line.at_q ∙ laid_line h rest));
        texts = z.texts;
      }

  -- what is read of the lines of a list, up to what closes it
  pub record ListRead (h : Held) (acc : Row AnEntry) (commands : Bool) (before : Option ℕ) (n : Next) (p : ℕ)
      (es : Shape EntriesOf) (rest : Marks) : Type 0 where
    pub value : Row AnEntry
    pub «end» : ℕ
    pub blank : Bool
    pub parted : Option ℕ
    pub later : Held
    pub at : At S later «end» rest
    pub reads : Gives (g S) (many (list_turn (level room)) (list_so_far (at_line_start acc false commands before) n))
        (state h p)
        (list_so_far (at_line_start (acc ++ value) blank (commands || holds_command es) parted)
        (edition_next S Command «end»))
        (state later (past_blanks T «end»))
    pub shape : shape_of B (entries_of value) ≡ opened [] es
    pub texts : AddsBodies S h later (entries_bodies es)

  -- a list ends where what closes it stands
  pub list_ends : (h : Held) (acc : Row AnEntry) (blank commands : Bool) (before : Option ℕ) (e : ℕ) → Closes S e
      → Gives (g S) (list_turn (level room)
      (list_so_far (at_line_start acc blank commands before) (edition_next S Command e)))
      (state h (past_blanks T e))
      (done (list_so_far (at_line_start acc (not (is_empty acc)) commands before) (edition_next S Command e)))
      (state h (past_blanks T e))
  unfolding list_turn
  list_ends h acc blank commands before e c =
      nothing_on_line h (at_line_start acc blank commands before) (edition_next S Command e)
      (past_blanks T e) c.not_entry c.not_comment ⟫ no_newline_read S h (edition_next S Command e)
      (past_blanks T e) c.not_newline ⟫ given_here

  -- what is read of the lines of a list, of which the first entry is blank or not
  record ListBy (h : Held) (acc : Row AnEntry) (first_blank commands : Bool) (before : Option ℕ) (e : ℕ)
      (es : Shape EntriesOf) (rest : Marks) : Type 0 where
    value : Row AnEntry
    «end» : ℕ
    blank : Bool
    parted : Option ℕ
    later : Held
    at : At S later «end» rest
    reads : Gives (g S) (many (list_turn (level room))
        (list_so_far (at_line_start acc first_blank commands before) (edition_next S Command e)))
        (state h (past_blanks T e))
        (list_so_far (at_line_start (acc ++ value) blank (commands || holds_command es) parted)
        (edition_next S Command «end»))
        (state later (past_blanks T «end»))
    shape : shape_of B (entries_of value) ≡ opened [] es
    texts : AddsBodies S h later (entries_bodies es)

  -- a line that is read, and the further ones that are, make one row of entries
  list_turned : (h k later : Held) (acc : Row AnEntry) (b commands : Bool) (before between last : Option ℕ)
      (n : Next) (p : ℕ) (v : AnEntry) (c : Bool) (next : Next) (r : ℕ) (vs : Row AnEntry) (blank d : Bool)
      (z : Next) (f : ℕ)
      → Gives (g S) (list_turn (level room) (list_so_far (at_line_start acc b commands before) n)) (state h p)
      (again (list_so_far (at_line_start (acc ++ v ∷ []) false (commands || c) between) next)) (state k r) →
      leads_on (g S) (state h p) (state k r) ≡ true
      → Gives (g S) (many (list_turn (level room))
      (list_so_far (at_line_start (acc ++ v ∷ []) false (commands || c) between) next)) (state k r)
      (list_so_far (at_line_start ((acc ++ v ∷ []) ++ vs) blank ((commands || c) || d) last) z) (state later f)
      → Gives (g S) (many (list_turn (level room)) (list_so_far (at_line_start acc b commands before) n)) (state h p)
      (list_so_far (at_line_start (acc ++ (v ∷ vs)) blank (commands || (c || d)) last) z) (state later f)
  list_turned h k later acc b commands before between last n p v c next r vs blank d z f one on rest =
      let all = one_turn (list_turn (level room)) one on rest in
      let entries_are = subst (λ es. Gives (g S)
      (many (list_turn (level room)) (list_so_far (at_line_start acc b commands before) n)) (state h p)
      (list_so_far (at_line_start es blank ((commands || c) || d) last) z) (state later f))
      (append_assoc acc (v ∷ []) vs) all in
      subst (λ q. Gives (g S) (many (list_turn (level room)) (list_so_far (at_line_start acc b commands before) n))
      (state h p)
      (list_so_far (at_line_start (acc ++ (v ∷ vs)) blank q last) z) (state later f))
      (or_assoc commands c d) entries_are

  -- the shape of entries by that of the first and those of the others
  entries_shape : (v : AnEntry) (vs : Row AnEntry) (x : Shape AnEntryOf) (es : Shape EntriesOf) →
      shape_of_entry B v ≡ open_entry [] x → shape_of B (entries_of vs) ≡ opened [] es
      → shape_of B (entries_of (v ∷ vs)) ≡ opened [] (more_entries x es)
  unfolding opened
  entries_shape v vs x es e f = rw (e, f) refl

  -- the first line of a list is read, from where its margin begins
  first_line : (h : Held) (d : Text) (acc : Row AnEntry) (blank commands : Bool) (before : Option ℕ)
      (what : Shape AContentOf) (background : Bool) (comment : Option Text) (e : ℕ) (rest : Marks) →
      all_blank d ≡ true
      → GoodContent edition room what → GoodOwnComment comment →
      is_normal_entry (entry what background blank comment) ≡ true →
      At S h e (text d ∷ (print_content y d what ++ entry_rest background comment rest))
      → LineRead h acc blank commands before (edition_next S Command e) (past_blanks T e)
      (entry what background blank comment) rest
  first_line h d acc blank commands before what background comment e rest blank_d good good_c normal at =
      let ms = print_content y d what ++ entry_rest background comment rest in
      let at_after = at_text S h e d ms at in
      let gap = margin_gap S h d e ms blank_d at
      (content_start h d what background blank comment (e + length d) rest good good_c normal at_after) in
      let q = past_blanks T e in
      let at_q = subst (λ r. At S h r ms) (sym gap.blanks) at_after in
      line_by h acc blank commands before (edition_next S Command e) q (entry what background blank comment) rest
      (entry_on_line h d acc blank commands before what background comment
      (edition_next S Command e) q rest blank_d good good_c normal refl at_q)

  -- the lines of a list are read: the first with its margin, and then the others by what is known of them
  list_by : (h : Held) (d : Text) (what : Shape AContentOf) (background blank : Bool) (comment : Option Text)
      (es : Shape EntriesOf) (acc : Row AnEntry) (commands : Bool) (before : Option ℕ) (e : ℕ) (rest : Marks) →
      all_blank d ≡ true
      → GoodEntries edition room (more_entries (entry what background blank comment) es) →
      are_normal (more_entries (entry what background blank comment) es) ≡ true
      → ((h : Held) (acc : Row AnEntry) (commands : Bool) (before : Option ℕ) (f : ℕ) → is_empty acc ≡ false →
      At S h f (print_entries y d es ++ rest) →
      ListRead h acc commands before (edition_next S Command f) (past_blanks T f) es rest)
      → At S h e (text d ∷ (print_content y d what ++ entry_rest background comment (print_entries y d es ++ rest)))
      → ListBy h acc blank commands before e (more_entries (entry what background blank comment) es) rest
  unfolding entries_bodies
  list_by h d what background blank comment es acc commands before e rest blank_d good normal others_by at =
      let x = entry what background blank comment in
      let parts = and_parts _ _ normal in
      let one_line = first_line h d acc blank commands before what background comment e
      (print_entries y d es ++ rest) blank_d good.0.0 good.0.1 parts.0 at in
      let others = others_by one_line.later (acc ++ one_line.value ∷ [])
      (commands || is_command x) one_line.parted one_line.f (pushed_some acc one_line.value) one_line.at in
      record {
        value = one_line.value ∷ others.value;
        «end» = others.«end»;
        blank = others.blank;
        parted = others.parted;
        later = others.later;
        at = others.at;
        reads = list_turned h one_line.later others.later acc blank commands before one_line.parted others.parted
            (edition_next S Command e) (past_blanks T e) one_line.value (is_command x)
            (edition_next S Command one_line.f)
            (past_blanks T one_line.f) others.value others.blank (holds_command es)
            (edition_next S Command others.«end») (past_blanks T others.«end») one_line.reads one_line.on others.reads;
        shape = entries_shape one_line.value others.value x es one_line.shape others.shape;
        texts = λ ts. others.texts ts ∙ one_line.texts (entries_bodies es ts);
      }

  -- where no entry is left the list ends before what closes it
  no_line_read : (h : Held) (acc : Row AnEntry) (commands : Bool) (before : Option ℕ) (e : ℕ) (rest : Marks) →
      Closes S e → At S h e rest →
      ListRead h acc commands before (edition_next S Command e) (past_blanks T e) no_entry rest
  unfolding opened entries_bodies
  no_line_read h acc commands before e rest closes at = record {
    value = [];
    «end» = e;
    blank = not (is_empty acc);
    parted = before;
    later = h;
    at = at;
    reads = subst (λ k. Gives (g S)
        (many (list_turn (level room))
        (list_so_far (at_line_start acc false commands before) (edition_next S Command e)))
        (state h (past_blanks T e))
        (list_so_far (at_line_start (acc ++ []) (not (is_empty acc)) k before) (edition_next S Command e))
        (state h (past_blanks T e))) (sym (or-false commands))
        (subst (λ es. Gives (g S) (many (list_turn (level room))
        (list_so_far (at_line_start acc false commands before) (edition_next S Command e)))
        (state h (past_blanks T e))
        (list_so_far (at_line_start es (not (is_empty acc)) commands before) (edition_next S Command e))
        (state h (past_blanks T e))) (sym (append-nil acc))
        (last_turn (list_turn (level room)) (list_ends h acc false commands before e closes)));
    shape = refl;
    texts = λ ts. refl;
  }

  -- a list whose first entry stands after no empty line is read by its lines
  list_at_once : (h : Held) (acc : Row AnEntry) (commands : Bool) (before : Option ℕ) (e : ℕ) (es : Shape EntriesOf)
      (rest : Marks) → ListBy h acc false commands before e es rest →
      ListRead h acc commands before (edition_next S Command e) (past_blanks T e) es rest
  list_at_once h acc commands before e es rest r = record {
    value = r.value;
    «end» = r.«end»;
    blank = r.blank;
    parted = r.parted;
    later = r.later;
    at = r.at;
    reads = r.reads;
    shape = r.shape;
    texts = r.texts;
  }

  -- one whose first entry stands after an empty line is read by that line and its own
  list_after_blank : (h : Held) (acc : Row AnEntry) (commands : Bool) (before : Option ℕ) (e : ℕ)
      (es : Shape EntriesOf) (more rest : Marks) → is_empty acc ≡ false →
      (line : EmptyLine h acc false commands before e more) →
      ListBy line.later acc true commands before line.q es rest
      → ListRead h acc commands before (edition_next S Command e) (past_blanks T e) es rest
  list_after_blank h acc commands before e es more rest filled line others =
      let flag : not (is_empty acc) ≡ true = ap not filled in
      let one_line = subst (λ b. Gives (g S)
      (list_turn (level room) (list_so_far (at_line_start acc false commands before) (edition_next S Command e)))
      (state h (past_blanks T e))
      (again (list_so_far (at_line_start acc b commands before) (edition_next S Command line.q)))
      (state line.later (past_blanks T line.q))) flag line.reads in
      record {
        value = others.value;
        «end» = others.«end»;
        blank = others.blank;
        parted = others.parted;
        later = others.later;
        at = others.at;
        reads = one_turn (list_turn (level room)) one_line line.on others.reads;
        shape = others.shape;
        texts = λ ts. others.texts ts ∙ line.texts (entries_bodies es ts);
      }

  -- all lines of a list are read, up to what closes it
  pub list_read : (h : Held) (d : Text) (es : Shape EntriesOf) (acc : Row AnEntry) (commands : Bool)
      (before : Option ℕ) (e : ℕ) (rest : Marks) → all_blank d ≡ true → GoodEntries edition room es →
      are_normal es ≡ true
      → (is_empty acc ≡ true → first_not_blank es ≡ true) → ((h : Held) (f : ℕ) → At S h f rest → Closes S f) →
      At S h e (print_entries y d es ++ rest) →
      ListRead h acc commands before (edition_next S Command e) (past_blanks T e) es rest
  list_read h d no_entry acc commands before e rest blank_d good normal first closes at =
      no_line_read h acc commands before e rest (closes h e at) at
  list_read h d (more_entries (entry what background false comment) es) acc commands before e rest blank_d good
      normal first closes at =
      list_at_once h acc commands before e (more_entries (entry what background false comment) es) rest
      (list_by h d what background false comment es acc commands before e rest blank_d good normal
      (λ k more_acc some past f filled there. list_read k d es more_acc some past f rest blank_d good.1
      (and_parts _ _ normal).1 (λ none. absurd (both_ways (is_empty more_acc) filled none)) closes there)
      (at ∙ ap (lay h) (entry_marks y d what background false comment es rest)))
  list_read h d (more_entries (entry what background true comment) es) acc commands before e rest blank_d good
      normal first closes at =
      let more = text d ∷ (print_content y d what
      ++ entry_rest background comment (print_entries y d es ++ rest)) in
      let line = empty_line h acc false commands before e more
      (at ∙ ap (lay h) (entry_marks y d what background true comment es rest)) in
      list_after_blank h acc commands before e (more_entries (entry what background true comment) es) more rest
      (blank_first acc first) line
      (list_by line.later d what background true comment es acc commands before line.q rest blank_d good normal
      (λ k more_acc some past f filled there. list_read k d es more_acc some past f rest blank_d good.1
      (and_parts _ _ normal).1 (λ none. absurd (both_ways (is_empty more_acc) filled none)) closes there)
      line.at)

  -- ---- lists

  -- a list, by what is read of its lines
  pub list_of : (h later : Held) (es : Shape EntriesOf) (n : Next) (p : ℕ) (rest : Marks) (acc : Row AnEntry)
      (blank : Bool) (parted : Option ℕ) (e : ℕ)
      → Gives (g S) (many (list_turn (level room)) (list_so_far (none_listed false) n)) (state h p)
      (list_so_far (at_line_start acc blank (holds_command es) parted) (edition_next S Command e))
      (state later (past_blanks T e))
      → holds_command es ≡ true → At S later e rest → AddsBodies S h later (entries_bodies es) →
      shape_of B (entries_of acc) ≡ opened [] es
      → RowRead S h (a_list (level room) n) p rest (entries_bodies es) (λ v. shape_of B v ≡ opened [] es)
  unfolding a_list
  list_of h later es n p rest acc blank parted e turns holds_it at texts shape =
      record {
        value = entries_of acc;
        «end» = e;
        later = later;
        at = at;
        texts = texts;
        reads = turns ⟫ first_of _ _ holds_it given_here;
        is = shape;
      }

  -- a list on lines of its own, from the end of the line before it
  pub block_read : (h : Held) (d : Text) (es : Shape EntriesOf) (e : ℕ) (rest : Marks) → all_blank d ≡ true →
      GoodEntries edition room es → is_whole es ≡ true → are_normal es ≡ true
      → ((h : Held) (f : ℕ) → At S h f rest → Closes S f) → At S h e (line_end ∷ (print_entries y d es ++ rest))
      → RowRead S h (a_list (level room) (edition_next S Command e)) (past_blanks T e) rest (entries_bodies es)
      (λ v. shape_of B v ≡ opened [] es)
  block_read h d es e rest blank_d good whole normal closes at =
      let line = empty_line h [] false false None e (print_entries y d es ++ rest) at in
      let parts = and_parts _ _ whole in
      let r = list_read line.later d es [] false None line.q rest blank_d good normal
      (λ none. parts.1) closes line.at in
      let turns = one_turn (list_turn (level room)) line.reads line.on r.reads in
      list_of h r.later es (edition_next S Command e)
      (past_blanks T e) rest r.value r.blank r.parted r.«end» turns parts.0 r.at
      (λ ts. r.texts ts ∙ line.texts (entries_bodies es ts)) r.shape
