-- The lists of a compound command: a condition on the line of its reserved word or on lines of its own, a
-- body, and what a group or a subshell holds.
use Rattle.std.proofs.Common.{◌≡◌, ℕ, ◌+◌, ◌<◌, Bool, true, false, List, [], ◌∷◌, ◌++◌, length, drop, codes, cond, Some, None, refl, sym, ap, subst, ◌∙◌, arith, append_assoc}
use Rattle.std.proofs.lemmas.Bool.{and_parts}
use Rattle.shgrammar.specs.declared.edition.Edition.{Edition}
use Rattle.shgrammar.specs.declared.token.Next.{Next}
use Rattle.shgrammar.specs.declared.token.Closing.TheVariants as closings
use Rattle.shgrammar.specs.declared.token.Position.TheVariants.{Command}
use Rattle.shgrammar.specs.declared.token.Reserved.{Reserved}
use Rattle.shgrammar.specs.declared.token.Reserved.TheVariants as reserved
use Rattle.shgrammar.specs.declared.token.Separator.TheVariants.{Semicolon}
use Rattle.shgrammar.specs.declared.token.Token.TheVariants as tokens
use Rattle.shgrammar.specs.Characters.{number_sign, right_parenthesis, semicolon, space}
use Rattle.shgrammar.specs.Bytes.{past_blanks}
use Rattle.shgrammar.specs.Comments.{span}
use Rattle.shgrammar.specs.Form.{again, done}
use Rattle.shgrammar.specs.Levels.{level}
use Rattle.shast.specs.Normal.{is_whole, are_normal, is_normal_and_or}
use Rattle.shgrammar.specs.Compounds.{a_group, closing, closing_text, is_closing}
use Rattle.shgrammar.specs.Lists.{list_so_far, none_listed, one_entry, entry_turn, on_line, list_turn, a_list}
use Rattle.shgrammar.specs.Commands.{an_entry, separator_of, an_and_or, begins_pipeline, is_newline_token}
use Rattle.shgrammar.proofs.Places.{blanks_low}
use Rattle.shast.specs.Opened.{entries_bodies, entry_bodies, content_bodies, and_or_bodies, opened, open_entry, open_content}
use Rattle.shast.specs.Shape.{Text, Shape, shape_of_entry, shape_of}
use Rattle.shast.specs.Tree.{EntriesOf, Entries, no_entry, more_entries, remark, AnEntry, entry, command, AnAndOrOf}
use Rattle.shprint.specs.declared.layout.Layout.{Layout}
use Rattle.shprint.specs.Marks.{text, line_end, Marks, one, deeper, lines_between}
use Rattle.shprint.specs.Printed.{is_one_line, print_only, print_entries, print_and_or}
use Rattle.shprint.specs.Written.{print_condition}
use Rattle.shprint.proofs.Tokens.{close_token, byte_here, start_here, all_blank, no_gap}
use Rattle.shprint.proofs.Gives.{Gives, gives_on, ◌⟫◌, given_here, pushed_here, first_of, last_turn, one_turn}
use Rattle.shprint.proofs.Held.{At, Held, StandsIn, g, lay, state}
use Rattle.shprint.proofs.Good.{GoodEntries, GoodAndOr}
use Rattle.shprint.proofs.PrintedText.{laid_text, deeper_blank, AddsBodies, at_text, leads, edition_token, edition_next, edition_same, no_byte, no_newline_read, no_comment_read, margin_gap, PipelineBegins}
use Rattle.shprint.proofs.PrintedCommands.{CompoundsRead, and_or_begins, and_or_read}
use Rattle.shprint.proofs.PrintedLists.{at_line_start, on_this_line, some_separator, no_remark, pipeline_within, Closes, no_entry_turn, list_of, block_read}
use Rattle.shprint.proofs.PrintedReserved.{Ends, line_end_end, space_end, Key, ReservedRead, paren_alone, reserved_read, reserved_closes, brace_key, Finished, semicolon_follower, closing_read}

-- ---- conditions on one line

-- the list of a condition on one line
abbrev one_command_list : Shape AnAndOrOf → Shape EntriesOf
one_command_list a = more_entries (entry (command a) false false None) no_entry

-- a condition stands on one line, or it does not
data OneLine : Shape EntriesOf → Type 0 where
  on_one : (a : Shape AnAndOrOf) (blank : Bool) →
      OneLine (more_entries (entry (command a) false blank None) no_entry)
  on_more : {es : Shape EntriesOf} → is_one_line es ≡ false → OneLine es

-- each list is of one of the two kinds
one_line_or_more : (es : Shape EntriesOf) → OneLine es
one_line_or_more no_entry = on_more refl
one_line_or_more (more_entries (entry (remark c) background blank comment) es) = on_more refl
one_line_or_more (more_entries (entry (command a) true blank comment) es) = on_more refl
one_line_or_more (more_entries (entry (command a) false blank (Some c)) es) = on_more refl
one_line_or_more (more_entries (entry (command a) false blank None) (more_entries e es)) = on_more refl
one_line_or_more (more_entries (entry (command a) false blank None) no_entry) = on_one a blank

-- both ways to print one end the word before it
cond_end : (b : Bool) (A C ms : Marks) → Ends (cond b (text (codes " ") ∷ A) (line_end ∷ C) ++ ms)
cond_end true A C ms = space_end (A ++ ms)
cond_end false A C ms = line_end_end (C ++ ms)

module _ (y : Layout) where
  -- ---- what is printed between the words of a compound command

  -- a list on lines of its own, from the end of the opener's line to the margin before the closer
  abbrev pub block_marks : Text → Shape EntriesOf → Marks → Marks
  block_marks m es ms = line_end ∷ (print_entries y (deeper y m) es ++ (text m ∷ ms))

  -- so the definitions print it
  pub between_is : (m : Text) (es : Shape EntriesOf) (ms : Marks) →
      lines_between m (print_entries y (deeper y m) es) ++ ms ≡ block_marks m es ms
  between_is m es ms = ap (λ ks. line_end ∷ ks) (append_assoc (print_entries y (deeper y m) es) (one m) ms)

  -- what is printed of a condition ends the word before it
  pub condition_end : (m : Text) (es : Shape EntriesOf) (ms : Marks) → Ends (print_condition y m es ++ ms)
  condition_end m es ms = cond_end (is_one_line es) (print_only y m es ++ one (codes "; "))
      (print_entries y (deeper y m) es ++ one m) ms

module _ {edition : Edition} {B T : List ℕ} {o : ℕ} {S : StandsIn edition B T o} {room : ℕ} {y : Layout}
    (fine : CompoundsRead S room y) where
  -- ---- bodies

  -- a list in a compound command, and the reserved word after it
  pub record InnerList (h : Held) (f : ℕ) (es : Shape EntriesOf) (r : Reserved) (ms : Marks) : Type 0 where
    pub value : Entries
    pub e : ℕ
    pub later : Held
    pub key : ReservedRead S later e r ms
    pub reads : Gives (g S) (a_list (level room) (edition_next S Command f)) (state h (past_blanks T f))
        (value, edition_next S Command e)
        (state later (past_blanks T e))
    pub shape : shape_of B value ≡ opened [] es
    pub texts : AddsBodies S h later (entries_bodies es)

  -- a list on lines of its own is read, up to the word after its margin
  pub body_read : (h : Held) (m : Text) (es : Shape EntriesOf) (f : ℕ) (w : Text) (r : Reserved) (ms : Marks) →
      all_blank m ≡ true → GoodEntries edition room es → is_whole es ≡ true → are_normal es ≡ true → Key S w r ms
      → begins_pipeline (tokens.Reserved r) ≡ false → At S h f (block_marks y m es (text w ∷ ms)) →
      InnerList h f es r ms
  body_read h m es f w r ms blank good whole normal key none at =
      let got = block_read fine h (deeper y m) es f (text m ∷ text w ∷ ms) (deeper_blank y m blank) good whole normal
      (reserved_closes S m w r ms blank key none) at in
      record {
        value = got.value;
        e = got.«end»;
        later = got.later;
        key = reserved_read S got.later m w r got.«end» ms blank key got.at;
        reads = got.reads;
        shape = got.is;
        texts = got.texts;
      }

  -- ---- conditions

  -- the entry of a condition on one line, and its `;`
  record ShortRead (h : Held) (n : Next) (p : ℕ) (a : Shape AnAndOrOf) (ms : Marks) : Type 0 where
    value : AnEntry
    f : ℕ
    later : Held
    at : At S later f (text (codes " ") ∷ ms)
    reads : Gives (g S) (an_entry (level room) false n) (state h p)
        (record { entry = value; parted = Some (o + f); next = edition_next S Command f })
        (state later (past_blanks T f))
    on : p < past_blanks T f
    shape : shape_of_entry B value ≡ open_entry [] (entry (command a) false false None)
    texts : AddsBodies S h later (and_or_bodies a)

  -- the command of a condition is read with the `;` after it
  short_read : (h : Held) (m : Text) (a : Shape AnAndOrOf) (n : Next) (p : ℕ) (ms : Marks) → all_blank m ≡ true →
      GoodAndOr edition room a → is_normal_and_or a ≡ true → n.token ≡ edition_token S Command p
      → ((h : Held) (f : ℕ) → At S h f (text (codes " ") ∷ ms) → Closes S f) →
      At S h p (print_and_or y m a ++ (text (codes "; ") ∷ ms)) → ShortRead h n p a ms
  unfolding an_entry open_entry open_content
  short_read h m a n p ms blank good normal token_is closes at =
      let follower = semicolon_follower S ms in
      let and_or_got = and_or_read fine h m a n p
      (text (codes "; ") ∷ ms) tokens.Semicolon blank good normal follower refl refl refl token_is at in
      let k = and_or_got.later in
      let there = and_or_got.at ∙ laid_text k (codes "; ") ms in
      let gap = no_gap (start_here (byte_here T and_or_got.«end» semicolon (space ∷ lay k ms) refl there) refl) in
      let q = past_blanks T and_or_got.«end» in
      let the_semicolon = byte_here T q semicolon (space ∷ lay k ms) refl
      (subst (λ r. drop r T ≡ semicolon ∷ space ∷ lay k ms) (sym gap.blanks) there) in
      let n_is = follower.seen_as k and_or_got.«end» and_or_got.at Command in
      let at_after : At S k (q + 1) (text (codes " ") ∷ ms) = the_semicolon.rest ∙ sym (laid_text k (codes " ") ms) in
      let low = gives_on (an_and_or (level room) n) _ _ _ and_or_got.reads in
      record {
        value = entry (command and_or_got.value) false false None;
        f = q + 1;
        later = k;
        at = at_after;
        reads = and_or_got.reads ⟫ some_separator S k (edition_next S Command and_or_got.«end») q Semicolon
            (ap (λ (n : Next). separator_of n.token) n_is) the_semicolon.place_after
            ⟫ no_comment_read S k (edition_next S Command (q + 1)) (past_blanks T (q + 1))
            (closes k (q + 1) at_after).not_comment ⟫ given_here;
        on = omega (arith, low, blanks_low T (q + 1));
        shape = ap (λ a. entry (command a) false false None) and_or_got.is;
        texts = and_or_got.texts;
      }

  -- the line of that entry is read, up to what ends the list
  short_entry_line : (h : Held) (n : Next) (p : ℕ) (a : Shape AnAndOrOf) (ms : Marks) (r : ShortRead h n p a ms) →
      Closes S r.f → begins_pipeline n.token ≡ true → p < length T
      → Gives (g S) (list_turn (level room) (list_so_far (none_listed false) n)) (state h p)
      (done (list_so_far (at_line_start (r.value ∷ []) false true (Some (o + r.f))) (edition_next S Command r.f)))
      (state r.later (past_blanks T r.f))
  unfolding list_turn on_line entry_turn one_entry
  short_entry_line h n p a ms r c begins within =
      let k = r.later in
      let z = edition_next S Command r.f in
      let q = past_blanks T r.f in
      let l = on_this_line (r.value ∷ []) false true (Some (o + r.f)) in
      let one_entry_read : Gives (g S) (entry_turn (level room) (list_so_far (none_listed false) n)) (state h p)
      (again (list_so_far l z)) (state k q) =
      first_of _ _ begins (r.reads ⟫ pushed_here [] r.value ⟫ given_here) in
      let entries_read = one_turn (entry_turn (level room)) one_entry_read (leads S h k p q r.on within)
      (last_turn (entry_turn (level room)) (no_entry_turn fine k l z q c.not_entry)) in
      (entries_read ⟫ no_remark S k l z q c.not_comment) ⟫ no_newline_read S k z q c.not_newline ⟫ given_here

  -- so is the whole condition on one line, up to the word after that
  short_line : (h : Held) (m : Text) (a : Shape AnAndOrOf) (f : ℕ) (w : Text) (r : Reserved) (ms : Marks) →
      all_blank m ≡ true → GoodAndOr edition room a → is_normal_and_or a ≡ true → Key S w r ms
      → begins_pipeline (tokens.Reserved r) ≡ false →
      At S h f (text (codes " ") ∷ (print_and_or y m a ++ (text (codes "; ") ∷ text w ∷ ms))) →
      InnerList h f (one_command_list a) r ms
  unfolding a_list opened entries_bodies entry_bodies content_bodies
  short_line h m a f w r ms blank good normal key none at =
      let A = print_and_or y m a ++ (text (codes "; ") ∷ text w ∷ ms) in
      let follower = semicolon_follower S (text w ∷ ms) in
      let begins : (p : ℕ) → At S h p A →
      PipelineBegins S p = λ p at. and_or_begins fine h m a p
      (text (codes "; ") ∷ text w ∷ ms) tokens.Semicolon good follower refl refl at in
      let at_after = at_text S h f (codes " ") A at in
      let gap = margin_gap S h (codes " ") f A refl at (begins (f + 1) at_after).operand.start in
      let p = past_blanks T f in
      let at_p = subst (λ q. At S h q A) (sym gap.blanks) at_after in
      let b = begins p at_p in
      let n = edition_next S Command f in
      let closes = reserved_closes S (codes " ") w r ms refl key none in
      let one_read = short_read h m a n p (text w ∷ ms) blank good normal refl closes at_p in
      let line_read = short_entry_line h n p a (text w ∷ ms) one_read (closes one_read.later one_read.f one_read.at)
      b.begins (pipeline_within S p b) in
      let got = list_of fine h one_read.later (one_command_list a) n p (text (codes " ") ∷ text w ∷ ms)
      (one_read.value ∷ []) false (Some (o + one_read.f)) one_read.f (last_turn (list_turn (level room)) line_read) refl
      one_read.at one_read.texts
      (ap (λ x. more_entries x no_entry) one_read.shape) in
      record {
        value = got.value;
        e = got.«end»;
        later = got.later;
        key = reserved_read S got.later (codes " ") w r got.«end» ms refl key got.at;
        reads = got.reads;
        shape = got.is;
        texts = got.texts;
      }

  -- a condition is read on one line or on more
  pub condition_read : (h : Held) (m : Text) (es : Shape EntriesOf) (f : ℕ) (w : Text) (r : Reserved) (ms : Marks) →
      all_blank m ≡ true → GoodEntries edition room es → is_whole es ≡ true → are_normal es ≡ true → Key S w r ms
      → begins_pipeline (tokens.Reserved r) ≡ false → At S h f (print_condition y m es ++ (text w ∷ ms)) →
      InnerList h f es r ms
  condition_read h m es f w r ms blank good whole normal key none at =
      by_form h (one_line_or_more es) good whole normal at
    where
      by_form : (h : Held) {js : Shape EntriesOf} → OneLine js → GoodEntries edition room js → is_whole js ≡ true
          → are_normal js ≡ true → At S h f (print_condition y m js ++ (text w ∷ ms)) → InnerList h f js r ms
      by_form h (on_one a true) good whole normal at = absurd cc
      by_form h (on_one a false) good whole normal at =
          short_line h m a f w r ms blank good.0.0 (and_parts _ _ normal).0 key none
          (at ∙ ap (λ ks. lay h (text (codes " ") ∷ ks))
          (append_assoc (print_and_or y m a) (one (codes "; ")) (text w ∷ ms)))
      by_form h {js = js} (on_more e) good whole normal at =
          let ES = print_entries y (deeper y m) js in
          let marks_are = ap (λ b. lay h
          ((cond b (text (codes " ") ∷ print_only y m js ++ one (codes "; ")) (lines_between m ES))
          ++ (text w ∷ ms))) e ∙ ap (λ ks. lay h (line_end ∷ ks)) (append_assoc ES (one m) (text w ∷ ms)) in
          body_read h m js f w r ms blank good whole normal key none (at ∙ marks_are)

  -- ---- groups and subshells

  -- after a margin a `)` closes
  paren_line : (h : Held) (m : Text) (e : ℕ) (ms : Marks) → all_blank m ≡ true →
      At S h e (text m ∷ text (codes ")") ∷ ms) → (edition_token S Command (past_blanks T e) ≡ tokens.CloseParen)
      × At S h (past_blanks T e) (text (codes ")") ∷ ms)
  paren_line h m e ms blank at =
      let at_after = at_text S h e m (text (codes ")") ∷ ms) at in
      let gap = margin_gap S h m e (text (codes ")") ∷ ms) blank at
      (start_here (byte_here T (e + length m) right_parenthesis (lay h ms) refl (at_after ∙ laid_text h (codes ")") ms))
      refl) in
      let at_q = subst (λ q. At S h q (text (codes ")") ∷ ms)) (sym gap.blanks) at_after in
      (edition_same S (close_token Command T (past_blanks T e) (lay h ms) (at_q ∙ laid_text h (codes ")") ms)), at_q)

  -- so no line of a list begins there
  paren_closes : (m : Text) (ms : Marks) → all_blank m ≡ true → (h : Held) (e : ℕ) →
      At S h e (text m ∷ text (codes ")") ∷ ms) → Closes S e
  paren_closes m ms blank h e at =
      let line = paren_line h m e ms blank at in
      record {
        not_entry = ap begins_pipeline line.0;
        not_newline = ap is_newline_token line.0;
        not_comment = no_byte S (past_blanks T e) right_parenthesis (lay h ms) number_sign refl
            (line.1 ∙ laid_text h (codes ")") ms);
      }

  -- a group from just after `{`
  pub group_read : (h : Held) (m : Text) (es : Shape EntriesOf) (f : ℕ) (rest : Marks) → all_blank m ≡ true →
      GoodEntries edition room es → is_whole es ≡ true → are_normal es ≡ true → Ends rest
      → At S h f (block_marks y m es (text (codes "}") ∷ rest)) →
      Finished S h Entries (a_group (level room) closings.Brace (edition_next S Command f)) (past_blanks T f) rest
      (entries_bodies es) (λ v. shape_of B v ≡ opened [] es)
  unfolding a_group
  group_read h m es f rest blank good whole normal stop at =
      let b = body_read h m es f (codes "}") reserved.CloseBrace rest blank good whole normal
      (brace_key S rest stop) refl at in
      record {
        value = b.value;
        closer = b.key.s;
        e = b.key.f;
        later = b.later;
        at = b.key.at;
        texts = b.texts;
        reads = b.reads ⟫ closing_read S room b.later closings.Brace reserved.CloseBrace b.e rest refl refl b.key ⟫
            given_here;
        is = b.shape;
      }

  -- a subshell from just after `(`
  pub subshell_read : (h : Held) (m : Text) (es : Shape EntriesOf) (f : ℕ) (rest : Marks) → all_blank m ≡ true →
      GoodEntries edition room es → is_whole es ≡ true → are_normal es ≡ true
      → At S h f (block_marks y m es (text (codes ")") ∷ rest)) →
      Finished S h Entries (a_group (level room) closings.Paren (edition_next S Command f)) (past_blanks T f) rest
      (entries_bodies es) (λ v. shape_of B v ≡ opened [] es)
  unfolding a_group closing
  subshell_read h m es f rest blank good whole normal at =
      let b = block_read fine h (deeper y m) es f (text m ∷ text (codes ")") ∷ rest)
      (deeper_blank y m blank) good whole normal (paren_closes m rest blank) at in
      let line = paren_line b.later m b.«end» rest blank b.at in
      let q = past_blanks T b.«end» in
      let k = b.later in
      let r = byte_here T q right_parenthesis (lay k rest) refl (line.1 ∙ laid_text k (codes ")") rest) in
      record {
        value = b.value;
        closer = span o q (q + 1);
        e = q + 1;
        later = k;
        at = r.rest;
        texts = b.texts;
        reads = b.reads ⟫ first_of _ _ (ap (is_closing closings.Paren) line.0)
            (paren_alone S k (closing_text closings.Paren) q r.place_after) ⟫ given_here;
        is = b.is;
      }
