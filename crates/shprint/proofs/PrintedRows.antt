-- The rows of the grammar over a printed text, put together: what is printed for a good shape is read as a
-- tree of that shape. So it is with compound commands and functions, then at every level, and with a line of
-- the script.
use Rattle.std.proofs.Common.{◌≡◌, ℕ, zero, suc, ◌+◌, Bool, true, false, ◌&&◌, List, List as Row, [], ◌∷◌, ◌++◌, length, drop, codes, if◌then◌else◌, Option, Some, None, refl, sym, ap, subst, ◌∙◌, append_assoc, append-nil, map}
use Rattle.std.proofs.lemmas.Bool.{and_parts}
use Rattle.shgrammar.specs.declared.edition.Edition.{Edition}
use Rattle.shgrammar.specs.declared.token.Next.{Next}
use Rattle.shgrammar.specs.declared.token.Closing.TheVariants as closings
use Rattle.shgrammar.specs.declared.token.Opener.{Opener}
use Rattle.shgrammar.specs.declared.token.Opener.TheVariants as openers
use Rattle.shgrammar.specs.declared.token.Position.TheVariants.{Command}
use Rattle.shgrammar.specs.declared.token.Reserved.{Reserved}
use Rattle.shgrammar.specs.declared.token.Reserved.TheVariants as reserved
use Rattle.shgrammar.specs.declared.token.Token.{Token}
use Rattle.shgrammar.specs.declared.token.Token.TheVariants as tokens
use Rattle.shgrammar.specs.Characters.{left_parenthesis, newline_char, number_sign, right_parenthesis}
use Rattle.shgrammar.specs.Bytes.{past_blanks}
use Rattle.shgrammar.specs.Comments.{span}
use Rattle.shgrammar.specs.Standing.{is_byte, raw_stands}
use Rattle.shgrammar.specs.Tokens.{is_end}
use Rattle.shgrammar.specs.Sights.{standing, a_document_waits}
use Rattle.shgrammar.specs.Form.{◌>>=◌, a_level, give, level_read, Form}
use Rattle.shgrammar.specs.Words.{Inner}
use Rattle.shgrammar.specs.Levels.{most_open, level}
use Rattle.shast.specs.Nodes.{through}
use Rattle.shast.specs.Normal.{is_command, is_normal_form, is_normal_entry, is_normal_compound}
use Rattle.shgrammar.specs.Compounds.{Closed, closed, a_compound, is_open_paren, position_after, a_linebreak, a_form, opener_text, reserved_or_paren, closing, closing_text, is_closing, under_name, a_function}
use Rattle.shgrammar.specs.Lines.{a_line, an_open_line, end_of_line}
use Rattle.shgrammar.specs.Lists.{none_listed}
use Rattle.shgrammar.specs.Commands.{nothing_waits, begins_pipeline, join_turn, join_so_far, a_join_of, begins_simple, opener_of, is_newline_token}
use Rattle.shast.specs.Bodies.{fill_row, filled_row}
use Rattle.shast.specs.Opened.{items_bodies, entry_bodies, compound_bodies, form_bodies, open_items, open_command, open_compound, open_form}
use Rattle.shast.specs.declared.tree.Span.{Span}
use Rattle.shast.specs.Shape.{Text, Shape, text_at, shape_of_command, shape_of_comments, shape_of_entry, shape_of_form, shape_of_compound}
use Rattle.shast.specs.Tree.{AWordOf, ForWordsOf, EntriesOf, CaseItemsOf, branch, AContentOf, AnEntryOf, AnEntry, entry, ACompoundOf, formed, ACommand, compound, function, AFormOf, AForm, brace, subshell, if_then, while_do, until_do, for_in, case_in, ItemsOf, no_item, simple}
use Rattle.shprint.specs.declared.layout.Layout.{Layout}
use Rattle.shprint.specs.Marks.{text, line_end, Marks, laid, laid_after, one, deeper, lines_between}
use Rattle.shprint.specs.Printed.{print_for_words, print_word, print_form, print_branch, print_branches, print_else, print_content, print_entries, print_compound, print_further_comments, print_items, print_function_gap, is_brace, print_cases, print_comment_lines, case_margin}
use Rattle.shprint.specs.Written.{print_condition}
use Rattle.shprint.proofs.Tokens.{none_stands, end_here, for_here, if_here, while_here, until_here, brace_here, open_token, close_token, byte_here, start_here, all_blank, no_gap, case_here}
use Rattle.shprint.proofs.Gives.{Gives, gives, ◌⟫◌, given_here, seen_here, pushed_here, first_of, second_of, last_turn}
use Rattle.shprint.proofs.Held.{At, Document, Emptied, Followed, Held, StandsIn, emptied, g, held_bytes, lay, no_bytes, nothing_held, state, texts_of}
use Rattle.shprint.proofs.BodiesOfParts.{entry_filled}
use Rattle.shprint.proofs.Good.{GoodCases, GoodForm, GoodContent, GoodOwnComment, GoodCompound, GoodComments}
use Rattle.shprint.proofs.PrintedText.{laid_text, after_line, laid_line, Alike, laid_same, no_more, AddsBodies, at_text, edition_token, edition_next, edition_next_after, edition_same, next_read, one_moved, RowRead, Follower, Opens, margin_gap, Operand, last_join_turn, JoinLines, newline_lines, comments_after_space, begins_operand}
use Rattle.shprint.proofs.PrintedCommands.{bare_compound, opens_by, function_rest, CompoundsRead, whole_compound}
use Rattle.shprint.proofs.PrintedLists.{OnLine, entry_rest, line_end_here, nothing_on_line, entry_on_line, content_start}
use Rattle.shprint.proofs.PrintedReserved.{follows_end, Ends, line_end_end, space_end, Key, reserved_or_paren_by, paren_alone, key_by, Finished}
use Rattle.shprint.proofs.PrintedGroups.{block_marks, between_is, condition_end, group_read, subshell_read}
use Rattle.shprint.proofs.PrintedBranches.{if_rest, branch_marks, branch_is, loop_read, if_read}
use Rattle.shprint.proofs.PrintedFor.{head_marks, head_is, for_read}
use Rattle.shprint.proofs.PrintedCases.{case_marks, items_are, case_read}

-- ---- the end of the text, and no entries

-- where the text has ended no byte stands
no_byte_end : (T : List ℕ) (q c : ℕ) → drop q T ≡ [] → raw_stands T q c ≡ false
unfolding raw_stands
no_byte_end T q c e = ap (λ b. is_byte b c) (none_stands T q e)

-- a row without entries is filled
none_filled : (bs : Row Span) → ◌≡◌ {A = Row AnEntry} (filled_row bs []) []
unfolding filled_row fill_row
none_filled [] = refl
none_filled (b ∷ bs) = refl

-- ---- forms as they are printed

-- with which word a compound command opens
abbrev opener_for : Shape AFormOf → Opener
opener_for (brace es) = openers.Brace
opener_for (subshell es) = openers.Paren
opener_for (if_then first rest other) = openers.If
opener_for (while_do b) = openers.While
opener_for (until_do b) = openers.Until
opener_for (for_in name words body) = openers.For
opener_for (case_in w items tail) = openers.Case

module _ (y : Layout) where
  -- what stands after the opener of a form
  abbrev form_rest : Text → Shape AFormOf → Marks → Marks
  form_rest m (brace es) rest = block_marks y m es (text (codes "}") ∷ rest)
  form_rest m (subshell es) rest = block_marks y m es (text (codes ")") ∷ rest)
  form_rest m (if_then (branch condition body) bs other) rest =
      branch_marks y m (codes "then") condition body (if_rest y m bs other rest)
  form_rest m (while_do (branch condition body)) rest =
      branch_marks y m (codes "do") condition body (text (codes "done") ∷ rest)
  form_rest m (until_do (branch condition body)) rest =
      branch_marks y m (codes "do") condition body (text (codes "done") ∷ rest)
  form_rest m (for_in name words body) rest = text (codes " ")
      ∷ (print_word name ++ head_marks y m words (block_marks y m body (text (codes "done") ∷ rest)))
  form_rest m (case_in w items tail) rest = text (codes " ") ∷ (print_word w ++ case_marks y m items tail rest)

module _ {edition : Edition} {B T : List ℕ} {o : ℕ} {S : StandsIn edition B T o} {room : ℕ} {y : Layout}
    (fine : CompoundsRead S room y) where
  -- ---- forms

  -- what is printed of a `for`, by what stands after that word
  for_is : (m : Text) (name : Shape AWordOf) (words : Shape ForWordsOf) (body : Shape EntriesOf) (rest : Marks) →
      Alike (print_form y m (for_in name words body) ++ rest)
      (text (codes "for") ∷ form_rest y m (for_in name words body) rest)
  unfolding laid_after
  for_is m name words body rest held =
      let W = print_word name in
      let F = print_for_words y m words in
      let L = lines_between m (print_entries y (deeper y m) body) in
      let X = block_marks y m body (text (codes "done") ∷ rest) in
      let parts = append_assoc (((text (codes "for ") ∷ W) ++ F) ++ L) (one (codes "done")) rest
      ∙ append_assoc ((text (codes "for ") ∷ W) ++ F) L (text (codes "done") ∷ rest)
      ∙ append_assoc (text (codes "for ") ∷ W) F (L ++ (text (codes "done") ∷ rest))
      ∙ ap (λ ks. text (codes "for ") ∷ (W ++ (F ++ ks))) (between_is y m body (text (codes "done") ∷ rest)) in
      ap (laid_after held) parts
      ∙ ap (λ z. codes "for " ++ z) (laid_same W (F ++ X) (head_marks y m words X) (head_is y m words X) held)

  -- what is printed of a `case`, by what stands after that word
  case_is : (m : Text) (w : Shape AWordOf) (items : Shape CaseItemsOf) (tail : Row Text) (rest : Marks) →
      GoodCases edition room items →
      Alike (print_form y m (case_in w items tail) ++ rest)
      (text (codes "case") ∷ form_rest y m (case_in w items tail) rest)
  unfolding laid_after
  case_is m w items tail rest good held =
      let P = case_margin y m in
      let W = text (codes "case ") ∷ print_word w in
      let I = print_cases y P items in
      let C = print_comment_lines P tail in
      let E = text m ∷ text (codes "esac") ∷ [] in
      let H = text (codes " in") ∷ line_end ∷ I in
      let parts = append_assoc W ((H ++ C) ++ E) rest
      ∙ ap (λ ks. W ++ ks) (append_assoc (H ++ C) E rest ∙ append_assoc H C (E ++ rest)) in
      ap (laid_after held) parts
      ∙ ap (λ z. codes "case " ++ z)
      (laid_same (print_word w) _ (case_marks y m items tail rest)
      (λ held. ap (λ z. codes " in" ++ (newline_char ∷ held ++ z)) (items_are fine m items tail rest good [])) held)

  -- what is printed of a form, by its opener and what stands after that
  form_is : (m : Text) (form : Shape AFormOf) (rest : Marks) → GoodForm edition room form →
      Alike (print_form y m form ++ rest) (text (opener_text (opener_for form)) ∷ form_rest y m form rest)
  unfolding laid_after
  form_is m (brace es) rest good held =
      ap (λ ks. laid_after held (text (codes "{") ∷ ks))
      (append_assoc (lines_between m (print_entries y (deeper y m) es)) (one (codes "}")) rest
      ∙ between_is y m es (text (codes "}") ∷ rest))
  form_is m (subshell es) rest good held =
      ap (λ ks. laid_after held (text (codes "(") ∷ ks))
      (append_assoc (lines_between m (print_entries y (deeper y m) es)) (one (codes ")")) rest
      ∙ between_is y m es (text (codes ")") ∷ rest))
  form_is m (if_then (branch condition body) bs other) rest good held =
      let P = print_branch y m (codes "if") (codes "then") (branch condition body) in
      let Q = print_branches y m bs in
      let E = print_else y m other in
      ap (laid_after held) (append_assoc ((P ++ Q) ++ E) (one (codes "fi")) rest
      ∙ append_assoc (P ++ Q) E (text (codes "fi") ∷ rest)
      ∙ append_assoc P Q (E ++ (text (codes "fi") ∷ rest))
      ∙ branch_is y m (codes "if") (codes "then") condition body (if_rest y m bs other rest))
  form_is m (while_do (branch condition body)) rest good held =
      ap (laid_after held) (append_assoc (print_branch y m (codes "while") (codes "do") (branch condition body))
      (one (codes "done")) rest ∙ branch_is y m (codes "while") (codes "do") condition body
      (text (codes "done") ∷ rest))
  form_is m (until_do (branch condition body)) rest good held =
      ap (laid_after held) (append_assoc (print_branch y m (codes "until") (codes "do") (branch condition body))
      (one (codes "done")) rest ∙ branch_is y m (codes "until") (codes "do") condition body
      (text (codes "done") ∷ rest))
  form_is m (for_in name words body) rest good held = for_is m name words body rest held
  form_is m (case_in w items tail) rest good held = case_is m w items tail rest good.1 held

  -- a form is read where the one list or branch that it holds is
  form_of : (h : Held) (X : Type 0) (inside : Form (Closed X)) (p : ℕ) (rest : Marks) (more : Row Text → Row Text)
      (Is : X → Type 0) (make : X → AForm) (form : Shape AFormOf) → Finished S h X inside p rest more Is →
      ((v : X) → Is v → shape_of_form B (make v) ≡ open_form [] form)
      → Finished S h AForm (inside >>= λ l. give (closed (make l.what) (l.closer, l.next))) p rest more
      (λ v. shape_of_form B v ≡ open_form [] form)
  form_of h X inside p rest more Is make form r shape = record {
    value = make r.value;
    closer = r.closer;
    e = r.e;
    later = r.later;
    at = r.at;
    texts = r.texts;
    reads = r.reads ⟫ given_here;
    is = shape r.value r.is;
  }

  -- each compound command is read from just after its opener
  form_read : (h : Held) (m : Text) (form : Shape AFormOf) (f : ℕ) (rest : Marks) → all_blank m ≡ true →
      GoodForm edition room form → is_normal_form form ≡ true → Ends rest → At S h f (form_rest y m form rest)
      → Finished S h AForm (a_form (level room) (opener_for form) (edition_next S (position_after (opener_for form)) f))
      (past_blanks T f) rest (form_bodies form) (λ v. shape_of_form B v ≡ open_form [] form)
  unfolding open_form form_bodies
  form_read h m (brace es) f rest blank good normal stop at =
      let parts = and_parts _ _ normal in
      form_of h _ _ _ rest _ _ (λ es. brace es) (brace es)
      (group_read fine h m es f rest blank good parts.0 parts.1 stop at) (λ v is. ap (λ es. brace es) is)
  form_read h m (subshell es) f rest blank good normal stop at =
      let parts = and_parts _ _ normal in
      form_of h _ _ _ rest _ _ (λ es. subshell es) (subshell es)
      (subshell_read fine h m es f rest blank good parts.0 parts.1 at) (λ v is. ap (λ es. subshell es) is)
  form_read h m (if_then (branch condition body) bs other) f rest blank good normal stop at =
      if_read fine h m condition body bs other f rest blank good normal stop at
  form_read h m (while_do (branch condition body)) f rest blank good normal stop at =
      form_of h _ _ _ rest _ _ (λ b. while_do b) (while_do (branch condition body))
      (loop_read fine h m condition body f rest blank good normal stop at) (λ v is. ap (λ b. while_do b) is)
  form_read h m (until_do (branch condition body)) f rest blank good normal stop at =
      form_of h _ _ _ rest _ _ (λ b. until_do b) (until_do (branch condition body))
      (loop_read fine h m condition body f rest blank good normal stop at) (λ v is. ap (λ b. until_do b) is)
  form_read h m (for_in name words body) f rest blank good normal stop at =
      for_read fine h m name words body f rest blank good normal stop at
  form_read h m (case_in w items tail) f rest blank good normal stop at =
      case_read fine h m w items tail f rest blank good normal stop at

  -- ---- compound commands

  -- an opener, and what stands after it
  record Opened (h : Held) (p : ℕ) (k : Opener) (ms : Marks) : Type 0 where
    opens : Opens S p k
    s : Span
    f : ℕ
    at : At S h f ms
    reads : Gives (g S) (reserved_or_paren (opener_text k) (is_open_paren k) (position_after k)) (state h p)
        (s, edition_next S (position_after k) f) (state h (past_blanks T f))

  -- a reserved word opens a command
  opened_by : (h : Held) (k : Opener) (r : Reserved) (p : ℕ) (ms : Marks) → is_open_paren k ≡ false →
      begins_simple (tokens.Reserved r) ≡ false → opener_of (tokens.Reserved r) ≡ Some k →
      Key S (opener_text k) r ms
      → At S h p (text (opener_text k) ∷ ms) → Opened h p k ms
  opened_by h k r p ms no_paren none opener_is key at =
      let it = key h p (at ∙ laid_text h (opener_text k) ms) in
      record {
        opens = record {
          start = it.start;
          no_item = ap begins_simple (edition_same S it.token) ∙ none;
          opener = ap opener_of (edition_same S it.token) ∙ opener_is;
        };
        s = span o p (p + length (opener_text k));
        f = p + length (opener_text k);
        at = at_text S h p (opener_text k) ms at;
        reads = rw no_paren (reserved_or_paren_by S h (opener_text k) (position_after k) p
            (p + length (opener_text k)) it.past_it);
      }

  -- so does `(`
  opened_paren : (h : Held) (p : ℕ) (ms : Marks) → At S h p (text (codes "(") ∷ ms) → Opened h p openers.Paren ms
  opened_paren h p ms at =
      let there = at ∙ laid_text h (codes "(") ms in
      let r = byte_here T p left_parenthesis (lay h ms) refl there in
      let token_is = edition_same S (open_token Command T p (lay h ms) there) in
      record {
        opens = record {
          start = start_here r refl;
          no_item = ap begins_simple token_is;
          opener = ap opener_of token_is;
        };
        s = span o p (p + 1);
        f = p + 1;
        at = r.rest;
        reads = paren_alone S h (codes "(") p r.place_after;
      }

  -- each form begins with its opener
  form_opened : (h : Held) (m : Text) (form : Shape AFormOf) (p : ℕ) (rest : Marks) → GoodForm edition room form →
      At S h p (text (opener_text (opener_for form)) ∷ form_rest y m form rest) →
      Opened h p (opener_for form) (form_rest y m form rest)
  form_opened h m (brace es) p rest good at =
      opened_by h openers.Brace reserved.OpenBrace p (form_rest y m (brace es) rest) refl refl refl
      (key_by S (codes "{") reserved.OpenBrace (form_rest y m (brace es) rest) (line_end_end _)
      (λ p x xs clear stops at. brace_here T p x xs clear stops at)) at
  form_opened h m (subshell es) p rest good at = opened_paren h p (form_rest y m (subshell es) rest) at
  form_opened h m (if_then (branch condition body) bs other) p rest good at =
      let ms = text (codes "then") ∷ block_marks y m body (if_rest y m bs other rest) in
      opened_by h openers.If reserved.If p (print_condition y m condition ++ ms) refl refl refl
      (key_by S (codes "if") reserved.If (print_condition y m condition ++ ms) (condition_end y m condition ms)
      (λ p x xs clear stops at. if_here T p x xs clear stops at)) at
  form_opened h m (while_do (branch condition body)) p rest good at =
      let ms = text (codes "do") ∷ block_marks y m body (text (codes "done") ∷ rest) in
      opened_by h openers.While reserved.While p (print_condition y m condition ++ ms) refl refl refl
      (key_by S (codes "while") reserved.While (print_condition y m condition ++ ms) (condition_end y m condition ms)
      (λ p x xs clear stops at. while_here T p x xs clear stops at)) at
  form_opened h m (until_do (branch condition body)) p rest good at =
      let ms = text (codes "do") ∷ block_marks y m body (text (codes "done") ∷ rest) in
      opened_by h openers.Until reserved.Until p (print_condition y m condition ++ ms) refl refl refl
      (key_by S (codes "until") reserved.Until (print_condition y m condition ++ ms) (condition_end y m condition ms)
      (λ p x xs clear stops at. until_here T p x xs clear stops at)) at
  form_opened h m (for_in name words body) p rest good at =
      let ms = print_word name ++ head_marks y m words (block_marks y m body (text (codes "done") ∷ rest)) in
      opened_by h openers.For reserved.For p (text (codes " ") ∷ ms) refl refl refl
      (key_by S (codes "for") reserved.For (text (codes " ") ∷ ms) (space_end ms)
      (λ p x xs clear stops at. for_here T p x xs clear stops at)) at
  form_opened h m (case_in w items tail) p rest good at =
      let ms = print_word w ++ case_marks y m items tail rest in
      opened_by h openers.Case reserved.Case p (text (codes " ") ∷ ms) refl refl refl
      (key_by S (codes "case") reserved.Case (text (codes " ") ∷ ms) (space_end ms)
      (λ p x xs clear stops at. case_here T p x xs clear stops at)) at

  -- what is printed of a compound command without redirections, by its opener
  compound_is : (m : Text) (form : Shape AFormOf) (mark : Unit {0}) (redirects : Shape ItemsOf) (rest : Marks) →
      GoodForm edition room form
      → Alike (print_compound y m (formed form mark redirects) ++ rest)
      (text (opener_text (opener_for form)) ∷ form_rest y m form (print_items y m redirects ++ rest))
  compound_is m form mark redirects rest good held =
      ap (laid_after held) (append_assoc (print_form y m form) (print_items y m redirects) rest)
      ∙ form_is m form (print_items y m redirects ++ rest) good held

  -- a compound command opens so, one level further out
  pub compound_opens : (h : Held) (m : Text) (c : Shape ACompoundOf) (p : ℕ) (rest : Marks) →
      GoodCompound edition (suc room) c → At S h p (print_compound y m c ++ rest) → (k : Opener) × Opens S p k
  compound_opens h m (formed form mark redirects) p rest good at = (
    opener_for form,
    (form_opened h m form p (print_items y m redirects ++ rest) good.0
        (at ∙ compound_is m form mark redirects rest good.0 (held_bytes h.waiting))).opens,
  )

  -- one token is one opener
  opener_same : (k l : Opener) (p : ℕ) → Opens S p k → Opens S p l → k ≡ l
  opener_same k l p one two = let same : ◌≡◌ {A = Option Opener} (Some k) (Some l) = sym one.opener
      ∙ two.opener in cc

  -- a compound command is read where it is printed
  pub compound_read : (h : Held) (m : Text) (c : Shape ACompoundOf) (p : ℕ) (rest : Marks) (k : Opener) →
      all_blank m ≡ true → GoodCompound edition (suc room) c → is_normal_compound c ≡ true
      → Followed rest → Opens S p k → At S h p (print_compound y m (bare_compound c) ++ rest) →
      RowRead S h (a_compound (level room) k) p rest (compound_bodies (bare_compound c))
      (λ v. shape_of_command B v ≡ open_command [] (compound (bare_compound c)))
  unfolding a_compound open_command open_compound open_items compound_bodies items_bodies
  compound_read h m (formed form mark redirects) p rest k blank good normal follow opens at =
      let there = at ∙ compound_is m form mark no_item rest good.0 (held_bytes h.waiting) in
      let it = form_opened h m form p rest good.0 there in
      let r = form_read h m form it.f rest blank good.0 (and_parts _ _ normal).0
      (λ h. follows_end (lay h rest) (follow (held_bytes h.waiting))) it.at in
      let c = compound (formed r.value (through it.s r.closer) no_item) in
      let got : RowRead S h (a_compound (level room) (opener_for form)) p rest
      (compound_bodies (formed form mark no_item))
      (λ v. shape_of_command B v ≡ open_command [] (compound (formed form mark no_item))) = record {
        value = c;
        «end» = r.e;
        later = r.later;
        at = r.at;
        texts = r.texts;
        reads = it.reads ⟫ r.reads ⟫ pushed_here [] c ⟫ given_here;
        is = ap (λ form. compound (formed form tt no_item)) r.is;
      } in
      subst (λ k. RowRead S h (a_compound (level room) k) p rest (compound_bodies (formed form mark no_item))
      (λ v. shape_of_command B v ≡ open_command [] (compound (formed form mark no_item))))
      (opener_same (opener_for form) k p it.opens opens) got

  -- ---- functions

  -- what stands between the brackets after a name and the body
  record GapLines (h : Held) (e : ℕ) (cs : Row Text) (ms : Marks) : Type 0 where
    comments : Row Span
    broken : Bool
    next : Next
    q : ℕ
    later : Held
    reads : Gives (g S) (a_linebreak [] (edition_next S Command e)) (state h (past_blanks T e))
        (join_so_far (a_join_of broken comments) next) (state later q)
    at : At S later q ms
    token_is : next.token ≡ edition_token S Command q
    shape : shape_of_comments B comments ≡ cs
    texts : AddsBodies S h later no_more

  -- the lines after the brackets, where the body stands on another line
  broken_lines : (h : Held) (e : ℕ) (cs : Row Text) (ms : Marks) →
      JoinLines S h false [] (edition_next S Command e) (past_blanks T e) cs ms → GapLines h e cs ms
  unfolding a_linebreak
  broken_lines h e cs ms r = record {
    comments = r.comments;
    broken = true;
    next = r.next;
    q = r.q;
    later = r.later;
    reads = r.reads;
    at = r.at;
    token_is = r.token_is;
    shape = r.shape;
    texts = r.texts;
  }

  module _ (m : Text) (blank : all_blank m ≡ true) (ms : Marks)
      (operand : (h : Held) (p : ℕ) → At S h p ms → Operand S p) where
    -- on the line of the name, or on the next one
    bare_gap : (h : Held) (on_next : Bool) (e : ℕ) →
        At S h e ((if on_next then line_end ∷ text m ∷ [] else one (codes " ")) ++ ms) → GapLines h e [] ms
    unfolding a_linebreak
    bare_gap h true e at = broken_lines h e [] ms (newline_lines S m blank ms operand h false e at)
    bare_gap h false e at =
        let at_after = at_text S h e (codes " ") ms at in
        let gap = margin_gap S h (codes " ") e ms refl at (operand h (e + 1) at_after).start in
        let q = past_blanks T e in
        let at_q = subst (λ r. At S h r ms) (sym gap.blanks) at_after in
        let it = operand h q at_q in
        record {
          comments = [];
          broken = false;
          next = edition_next S Command e;
          q = q;
          reads = last_turn join_turn
              (last_join_turn S h false [] (edition_next S Command e) q it.no_comment it.no_newline);
          later = h;
          at = at_q;
          token_is = refl;
          shape = refl;
          texts = λ ts. refl;
        }

    -- with comments or without, as it is printed
    function_gap : (h : Held) (cs : Row Text) (body : Shape ACompoundOf) (e : ℕ) → GoodComments cs →
        At S h e (print_function_gap y m cs body ++ ms) → GapLines h e cs ms
    function_gap h [] body e good at = bare_gap h (y.func_next_line && is_brace body) e at
    function_gap h (c ∷ cs) body e good at =
        let same = append_assoc (print_further_comments m cs) (line_end ∷ text m ∷ []) ms in
        broken_lines h e (c ∷ cs) ms
        (comments_after_space S m blank ms operand h false c cs e good
        (at ∙ ap (λ ks. lay h (text (codes " ") ∷ text c ∷ ks)) same))

  -- the shape of a function by those of its parts
  under_shape : (name : Span) (ss : Row Span) (v : ACommand) (c : Shape ACompoundOf) (cs : Row Text) →
      shape_of_command B v ≡ open_command [] (compound c) → shape_of_comments B ss ≡ cs
      → shape_of_command B (under_name name ss v) ≡ open_command [] (function (text_at B name) cs c)
  unfolding open_command
  under_shape name ss (simple is) c cs e f = absurd cc
  under_shape name ss (compound body) c cs e f = let same : shape_of_compound B body ≡ open_compound [] c = cc in
      rw (same, f) refl
  under_shape name ss (function other ds body) c cs e f = absurd cc

  -- the brackets after a name, and the body, one level further out
  pub function_read : (h : Held) (m : Text) (name : Span) (cs : Row Text) (body : Shape ACompoundOf) (p : ℕ)
      (rest : Marks) (t : Token) → all_blank m ≡ true → GoodComments cs → GoodCompound edition room body
      → is_normal_compound body ≡ true → Follower S rest t → begins_simple t ≡ false →
      At S h p (text (codes "()") ∷ function_rest y m cs body rest)
      → RowRead S h (a_function (level room) name) p rest (compound_bodies body)
      (λ v. shape_of_command B v ≡ open_command [] (function (text_at B name) cs body))
  unfolding a_function closing
  function_read h m name cs body p rest t blank own good normal f none at =
      let ms = print_compound y m body ++ rest in
      let X = function_rest y m cs body rest in
      let opener = byte_here T p left_parenthesis (right_parenthesis ∷ lay h X) refl
      (at ∙ laid_text h (codes "()") X) in
      let closer = byte_here T (p + 1) right_parenthesis (lay h X) refl opener.rest in
      let gap = no_gap (start_here closer refl) in
      let closes = ap (λ (n : Next). is_closing closings.Paren n.token) (edition_next_after S Command gap)
      ∙ ap (is_closing closings.Paren) (edition_same S (close_token Command T (p + 1) (lay h X) opener.rest)) in
      let closed = subst (λ q. Gives (g S) (reserved_or_paren (closing_text closings.Paren) true Command) (state h q)
      (span o (p + 1) (p + 1 + 1), edition_next S Command (p + 1 + 1)) (state h (past_blanks T (p + 1 + 1))))
      (sym gap.blanks) (paren_alone S h (closing_text closings.Paren) (p + 1) closer.place_after) in
      let operand : (h : Held) (q : ℕ) → At S h q ms →
      Operand S q = λ h q at. let b = fine.opens h m body q rest good at in
      begins_operand S q (record {
        start = b.1.start;
        command = opens_by (edition_token S Command q) b.0 b.1.opener;
      }) in
      let lines = function_gap m blank ms operand h cs body (p + 1 + 1) own closer.rest in
      let back = whole_compound fine lines.later m body lines.next lines.q rest t blank good normal f none
      lines.token_is lines.at in
      record {
        value = under_name name lines.comments back.value;
        «end» = back.«end»;
        later = back.later;
        at = back.at;
        texts = λ ts. back.texts ts ∙ lines.texts (compound_bodies body ts);
        reads = paren_alone S h (opener_text openers.Paren) p opener.place_after ⟫ first_of _ _ closes closed ⟫
            lines.reads ⟫ back.reads ⟫ given_here;
        is = under_shape name lines.comments back.value body cs back.is lines.shape;
      }

module _ {edition : Edition} {B T : List ℕ} {o : ℕ} (S : StandsIn edition B T o) where
  -- ---- at every level

  -- where nothing may be opened no compound command is good
  none_at_all : (c : Shape ACompoundOf) → GoodCompound edition zero c → ⊥
  none_at_all (formed form mark redirects) good = good

  -- all that is known of compound commands, at each level from that of the one below
  pub compounds_read : (y : Layout) (room : ℕ) → CompoundsRead S room y
  unfolding level
  compounds_read y zero = record {
    opens = λ h m c p rest good at. absurd (none_at_all c good);
    back = λ h m c p rest k blank good normal follow opens at. absurd (none_at_all c good);
    function_back = λ h m name cs body p rest t blank own good normal f none at. absurd good;
  }
  compounds_read y (suc room) = record {
    opens = λ h m c p rest good at. compound_opens (compounds_read y room) h m c p rest good at;
    back = λ h m c p rest k blank good normal follow opens at. compound_read
        (compounds_read y room) h m c p rest k blank good normal follow opens at;
    function_back = λ h m name cs body p rest t blank own good normal f none at. function_read
        (compounds_read y room) h m name cs body p rest t blank own good normal f none at;
  }

  -- ---- a line of the script

  -- a line and where the next one begins
  pub record ScriptLine (blank : Bool) (es : Row AnEntry) (newline : Bool) (rest : Marks) : Type 0 where
    pub f : ℕ
    pub at : drop f T ≡ laid rest
    pub reads : Gives (g S) (a_line (level most_open) blank) (standing 0) (es, newline) (standing f)

  -- a line of one entry, with its shape
  pub record EntryLine (blank : Bool) (x : Shape AnEntryOf) (rest : Marks) : Type 0 where
    pub value : AnEntry
    pub line : ScriptLine blank (value ∷ []) true rest
    pub shape : shape_of_entry B value ≡ x

  module _ (y : Layout) where
    -- the level of a script
    abbrev top : Inner
    top = level most_open

    -- where nothing waits the marks are laid down alone
    nothing_laid : (h : Held) (q : ℕ) (ms : Marks) → h.waiting ≡ [] → At S h q ms → drop q T ≡ laid ms
    nothing_laid h q ms none at = at ∙ ap (λ xs. laid_after (held_bytes xs) ms) none
        ∙ ap (λ held. laid_after held ms) no_bytes

    -- where nothing was read yet
    first_at : (q : ℕ) (ms : Marks) → drop q T ≡ laid ms → At S nothing_held q ms
    first_at q ms at = at ∙ ap (λ held. laid_after held ms) (sym no_bytes)

    -- the newline after what stands on the line
    ended_by : (h : Held) (n : Next) (q : ℕ) (rest : Marks) → is_newline_token n.token ≡ true →
        At S h q (line_end ∷ rest)
        → (line : Emptied S h q rest)
        × Gives (g S) (end_of_line top n) (state h q) true (state line.later line.q)
    unfolding end_of_line
    ended_by h n q rest is at =
        let line = emptied S h q rest at in
        let moved = one_moved S h q
        (byte_here T q newline_char (after_line h rest) refl (at ∙ laid_line h rest)).place_after in
        (line, first_of _ _ is (moved ⟫ line.reads ⟫ given_here))

    -- a level of its own, read from where nothing waits
    level_here : {X : Type 0} {r : Form X} {x : X} (h : Held) (p q : ℕ) → Gives (g S) r (standing p) x (state h q) →
        Gives (g S) (a_level r) (standing p) (x, h.bodies) (standing q)
    level_here h p q one = gives _ (level_read one.reads)

    -- the bodies of a line are those that its entries lack
    bodies_are : (h : Held) (more : Row Text → Row Text) → h.waiting ≡ [] → AddsBodies S nothing_held h more →
        map (text_at B) h.bodies ≡ more []
    bodies_are h more none texts =
        let all : texts_of S h ≡ map (text_at B) h.bodies =
        ap (λ (xs : Row Document). map (text_at B) h.bodies ++ map (λ (x : Document). x.bytes) xs) none
        ∙ append-nil (map (text_at B) h.bodies) in
        sym all ∙ sym (append-nil (texts_of S h)) ∙ texts []

    -- the entry of a line is read, where nothing waits before it
    entry_read_first : (blank : Bool) (what : Shape AContentOf) (background : Bool) (comment : Option Text)
        (rest : Marks) → GoodContent edition most_open what → GoodOwnComment comment →
        is_normal_entry (entry what background blank comment) ≡ true →
        drop 0 T ≡ laid (text [] ∷ (print_content y [] what ++ entry_rest background comment rest))
        → OnLine (compounds_read y most_open) nothing_held [] blank false None (edition_next S Command 0)
        (past_blanks T 0) (entry what background blank comment) (is_command (entry what background blank comment)) rest
    entry_read_first blank what background comment rest good good_c normal at =
        let h = nothing_held in
        let ms = print_content y [] what ++ entry_rest background comment rest in
        let at_h = first_at 0 (text [] ∷ ms) at in
        let gap = margin_gap S h [] 0 ms refl at_h
        (content_start (compounds_read y most_open) h [] what background blank comment 0 rest good good_c normal
        (at_text S h 0 [] ms at_h)) in
        entry_on_line (compounds_read y most_open) h [] [] blank false None what background comment
        (edition_next S Command 0) (past_blanks T 0) rest refl good good_c normal refl
        (subst (λ q. At S h q ms) (sym gap.blanks) (at_text S h 0 [] ms at_h))

    -- the line of an entry is read, with the bodies after it
    pub entry_line : (blank : Bool) (what : Shape AContentOf) (background : Bool) (comment : Option Text) (rest : Marks)
        → GoodContent edition most_open what → GoodOwnComment comment
        → is_normal_entry (entry what background blank comment) ≡ true →
        drop 0 T ≡ laid (text [] ∷ (print_content y [] what
        ++ entry_rest background comment rest))
        → EntryLine blank (entry what background blank comment) rest
    unfolding a_line an_open_line
    entry_line blank what background comment rest good good_c normal at =
        let x = entry what background blank comment in
        let r = entry_read_first blank what background comment rest good good_c normal at in
        let line = line_end_here S r.later r.«end» rest r.at in
        let q = past_blanks T r.«end» in
        let z = ended_by r.later (edition_next S Command r.«end») q rest
        (ap (λ (n : Next). is_newline_token n.token) line.n_is) line.at_q in
        let k = z.0.later in
        let all : AddsBodies S nothing_held k (entry_bodies x) = λ ts. ap (λ us. us ++ ts) z.0.texts ∙ r.texts ts in
        let v = entry_filled B r.value k.bodies x r.shape (bodies_are k (entry_bodies x) z.0.none all) in
        let whole : Gives (g S) (an_open_line top blank) (standing 0) (r.value ∷ [], true) (state k z.0.q) =
        next_read S nothing_held Command 0 ⟫ r.reads ⟫ z.1 ⟫ given_here in
        let filled : Gives (g S) (a_line top blank) (standing 0) (filled_row k.bodies (r.value ∷ []), true)
        (standing z.0.q) = level_here k 0 z.0.q whole ⟫ given_here in
        record {
          value = v.0;
          line = record {
            f = z.0.q;
            at = nothing_laid k z.0.q rest z.0.none z.0.at;
            reads = subst (λ es. Gives (g S) (a_line top blank) (standing 0) (es, true) (standing z.0.q)) v.1 filled;
          };
          shape = v.2;
        }

    -- an empty line is read
    pub blank_line_read : (blank : Bool) (rest : Marks) → drop 0 T ≡ laid (line_end ∷ rest) →
        ScriptLine blank [] true rest
    unfolding a_line an_open_line
    blank_line_read blank rest at =
        let h = nothing_held in
        let line = line_end_here S h 0 rest (first_at 0 (line_end ∷ rest) at) in
        let q = past_blanks T 0 in
        let n = edition_next S Command 0 in
        let z = ended_by h n q rest (ap (λ (n : Next). is_newline_token n.token) line.n_is) line.at_q in
        let k = z.0.later in
        let whole : Gives (g S) (an_open_line top blank) (standing 0) ([], true) (state k z.0.q) =
        next_read S h Command 0 ⟫ nothing_on_line (compounds_read y most_open) h (none_listed blank) n q
        (ap (λ (n : Next). begins_pipeline n.token) line.n_is) line.no_comment_q ⟫ z.1 ⟫ given_here in
        let filled : Gives (g S) (a_line top blank) (standing 0) (filled_row k.bodies [], true) (standing z.0.q) =
        level_here k 0 z.0.q whole ⟫ given_here in
        record {
          f = z.0.q;
          at = nothing_laid k z.0.q rest z.0.none z.0.at;
          reads = subst (λ es. Gives (g S) (a_line top blank) (standing 0) (es, true) (standing z.0.q))
              (none_filled k.bodies) filled;
        }

    -- the end of the script is read
    pub end_line_read : (blank : Bool) → drop 0 T ≡ laid [] → ScriptLine blank [] false []
    unfolding a_line an_open_line end_of_line nothing_waits laid_after
    end_line_read blank at =
        let h = nothing_held in
        let it = end_here T 0 at in
        let n = edition_next S Command 0 in
        let q = past_blanks T 0 in
        let token_is : n.token ≡ tokens.End = ap (edition_token S Command) it.gap.blanks
        ∙ edition_same S (it.token Command) in
        let at_q = subst (λ p. drop p T ≡ []) (sym it.gap.blanks) at in
        let whole : Gives (g S) (an_open_line top blank) (standing 0) ([], false) (state h q) =
        next_read S h Command 0 ⟫ nothing_on_line (compounds_read y most_open) h (none_listed blank) n q
        (ap begins_pipeline token_is) (no_byte_end T q number_sign at_q)
        ⟫ second_of _ _ (ap is_newline_token token_is)
        (first_of _ _ (ap is_end token_is) ((seen_here a_document_waits ⟫ given_here) ⟫ given_here)) ⟫ given_here in
        let filled : Gives (g S) (a_line top blank) (standing 0) (filled_row [] [], false) (standing q) =
        level_here h 0 q whole ⟫ given_here in
        record {
          f = q;
          at = at_q;
          reads =
              subst (λ es. Gives (g S) (a_line top blank) (standing 0) (es, false) (standing q))
              (none_filled []) filled;
        }
