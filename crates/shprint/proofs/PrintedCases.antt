-- `case`: what is printed for its word, and for its items with their comments, patterns and bodies, is read
-- so.
use Rattle.std.proofs.Common.{◌≡◌, ℕ, ◌+◌, ◌<◌, ◌==◌, Bool, true, false, ◌&&◌, List, List as Row, [], ◌∷◌, ◌++◌, length, drop, codes, None, refl, sym, ap, subst, ◌∙◌, arith, append_assoc, append-nil}
use Rattle.std.proofs.lemmas.Bool.{and_parts, cond_both}
use Rattle.shgrammar.specs.declared.edition.Edition.{Edition}
use Rattle.shgrammar.specs.declared.token.Next.{Next}
use Rattle.shgrammar.specs.declared.token.Closing.TheVariants as closings
use Rattle.shgrammar.specs.declared.token.Position.{Position}
use Rattle.shgrammar.specs.declared.token.Position.TheVariants.{Command, Suffix}
use Rattle.shgrammar.specs.declared.token.Reserved.{Reserved}
use Rattle.shgrammar.specs.declared.token.Reserved.TheVariants as reserved
use Rattle.shgrammar.specs.declared.token.Token.{Token}
use Rattle.shgrammar.specs.declared.token.Token.TheVariants as tokens
use Rattle.shgrammar.specs.Characters.{ampersand, backslash, newline_char, number_sign, right_parenthesis, semicolon, space, vertical_line}
use Rattle.shgrammar.specs.Bytes.{past_blanks}
use Rattle.shgrammar.specs.Comments.{span}
use Rattle.shgrammar.specs.Standing.{raw_stands}
use Rattle.shgrammar.specs.Tokens.{is_comment, is_later, token_in}
use Rattle.shgrammar.specs.Sights.{here as the_place, one_byte}
use Rattle.shgrammar.specs.Form.{◌>>◌, by, move, again, leads_on, many}
use Rattle.shgrammar.specs.Words.{a_word}
use Rattle.shgrammar.specs.Levels.{level}
use Rattle.shast.specs.Normal.{is_normal_form, holds_command, first_not_blank, are_normal, are_normal_cases, is_normal_case, are_normal_patterns}
use Rattle.shgrammar.specs.Compounds.{a_linebreak, closing, closing_text, is_closing, a_case, a_case_head, a_case_word, begins_pattern, patterns_so_far, a_pattern, one_pattern, pattern_turn, a_pattern_list, an_open_bracket, a_body, body_end, item_end, an_item_end, an_ender, ender_told, cases_so_far, one_case, case_turn}
use Rattle.shgrammar.specs.Lists.{Listed, list_so_far, list_turn}
use Rattle.shgrammar.specs.Commands.{begins_pipeline, is_pipe, join_turn, join_so_far, a_join_of, is_newline_token, begins_word, is_paren, ends_item, falls_through}
use Rattle.shgrammar.proofs.Places.{blanks_low}
use Rattle.shast.specs.Opened.{entries_bodies, form_bodies, cases_bodies, case_bodies, opened, open_form, open_cases, open_case}
use Rattle.shast.specs.declared.tree.Span.{Span}
use Rattle.shast.specs.Shape.{Text, Shape, shape_of_comments, shape_of, shape_of_form, shape_of_word, shape_of_patterns, shape_of_case, shape_of_cases}
use Rattle.shast.specs.Tree.{AWordOf, AWord, EntriesOf, no_entry, more_entries, entries_of, AnEntry, AForm, case_in, PatternsOf, no_pattern, more_patterns, patterns_of, CaseItemsOf, no_case, more_cases, cases_of, ACaseItemOf, ACaseItem, ACaseMark, ACaseMarkOf, case_item}
use Rattle.shprint.specs.declared.layout.Layout.{Layout}
use Rattle.shprint.specs.Marks.{text, line_end, Marks, laid_after, deeper}
use Rattle.shprint.specs.Printed.{print_word, print_entries, print_cases, print_patterns, print_first_pattern, ender, print_body, print_comment_lines, case_margin}
use Rattle.shprint.proofs.Tokens.{close_token, byte_here, start_here, all_blank, no_gap, next_one, double_semicolon_token, falls_token, falls_stays, esac_here}
use Rattle.shprint.proofs.Gives.{Gives, gives_on, told_here, ◌⟫◌, given_here, seen_here, pushed_here, first_of, second_of, last_turn, one_turn}
use Rattle.shprint.proofs.Held.{At, Followed, Held, StandsIn, g, held_bytes, lay, state}
use Rattle.shprint.proofs.Good.{GoodForm, GoodEntries, GoodComments, GoodWord, GoodMorePatterns, GoodCases}
use Rattle.shprint.proofs.PrintedText.{laid_text, Alike, laid_same, deeper_blank, Parted, no_more, AddsBodies, at_text, some_here, leads, edition_token, edition_next, edition_next_after, edition_same, edition_word, next_read, some_word, byte_moved, byte_after, no_byte, comment_shape, comment_start, margin_gap, Operand, last_join_turn, comment_join_turn, newline_join_turn, cons_shape, comments_joined, space_then, pipe_follower, no_sharp, printed_word, one_moved}
use Rattle.shprint.proofs.PrintedCommands.{CompoundsRead}
use Rattle.shprint.proofs.PrintedLists.{at_line_start, line_end_here, Closes, empty_line, list_ends, list_read}
use Rattle.shprint.proofs.PrintedReserved.{Ends, line_end_end, Key, ReservedRead, paren_alone, reserved_read, key_by, in_key, Finished, no_lines, closing_read}

-- ---- what stands after a pattern

-- after a pattern
abbrev more_marks : Shape PatternsOf → Marks → Marks
more_marks no_pattern ms = text (codes ")") ∷ ms
more_marks (more_patterns w ws) ms = text (codes " ") ∷ text (codes "|") ∷ text (codes " ")
    ∷ (print_word w ++ more_marks ws ms)

-- so the definitions print it
more_are : (ws : Shape PatternsOf) (ms : Marks) →
    Alike (print_patterns ws ++ (text (codes ")") ∷ ms)) (more_marks ws ms)
unfolding laid_after
more_are no_pattern ms held = refl
more_are (more_patterns w ws) ms held =
    ap (laid_after held) (append_assoc (text (codes " | ") ∷ print_word w) (print_patterns ws)
    (text (codes ")") ∷ ms)) ∙ ap (λ z. codes " | " ++ z)
    (laid_same (print_word w) _ _ (more_are ws ms) held)

-- that may follow a word
more_follows : (ws : Shape PatternsOf) (ms : Marks) → Followed (more_marks ws ms)
unfolding laid_after
more_follows no_pattern ms held = refl
more_follows (more_patterns w ws) ms held = refl

-- ---- what a first pattern is not

-- what a first pattern is not
record FirstPattern (t : Token) : Type 0 where
  bracket : is_paren t ≡ false
  esac : is_closing closings.Esac t ≡ false
  newline : is_newline_token t ≡ false
  comment : is_comment t ≡ false

-- such a token is neither `(` nor `esac`, a newline or a comment
first_pattern : (t : Token) → begins_pattern t ≡ true → FirstPattern t
first_pattern tokens.End e = absurd cc
first_pattern tokens.Newline e = absurd cc
first_pattern tokens.Semicolon e = absurd cc
first_pattern tokens.DoubleSemicolon e = absurd cc
first_pattern tokens.SemicolonAmpersand e = absurd cc
first_pattern tokens.Ampersand e = absurd cc
first_pattern tokens.AndIf e = absurd cc
first_pattern tokens.OrIf e = absurd cc
first_pattern tokens.Pipe e = absurd cc
first_pattern tokens.OpenParen e = absurd cc
first_pattern tokens.CloseParen e = absurd cc
first_pattern (tokens.Redirect k) e = absurd cc
first_pattern tokens.Comment e = absurd cc
first_pattern tokens.Number e = absurd cc
first_pattern (tokens.Reserved r) e =
    record { bracket = refl; esac = no_esac r e; newline = refl; comment = refl }
  where
    no_esac : (r : Reserved) → begins_pattern (tokens.Reserved r) ≡ true →
        is_closing closings.Esac (tokens.Reserved r) ≡ false
    no_esac reserved.Bang e = refl
    no_esac reserved.OpenBrace e = refl
    no_esac reserved.CloseBrace e = refl
    no_esac reserved.Case e = refl
    no_esac reserved.Do e = refl
    no_esac reserved.Done e = refl
    no_esac reserved.Elif e = refl
    no_esac reserved.Else e = refl
    no_esac reserved.Esac e = absurd cc
    no_esac reserved.Fi e = refl
    no_esac reserved.For e = refl
    no_esac reserved.If e = refl
    no_esac reserved.In e = refl
    no_esac reserved.Then e = refl
    no_esac reserved.Until e = refl
    no_esac reserved.While e = refl
first_pattern tokens.Assignment e = record { bracket = refl; esac = refl; newline = refl; comment = refl }
first_pattern tokens.Word e = record { bracket = refl; esac = refl; newline = refl; comment = refl }

-- ---- the tokens that end an item

-- `;&` where the item falls through, or `;;`
abbrev ender_token : Bool → Token
ender_token true = tokens.SemicolonAmpersand
ender_token false = tokens.DoubleSemicolon

-- either ends the item, tells whether it falls through, and begins no line of a list
ender_ends : (falls : Bool) → ends_item (ender_token falls) ≡ true
ender_ends true = refl
ender_ends false = refl

falls_as : (falls : Bool) → falls_through (ender_token falls) ≡ falls
falls_as true = refl
falls_as false = refl

begins_none : (falls : Bool) → (begins_pipeline (ender_token falls) ≡ false)
    × (is_newline_token (ender_token falls) ≡ false)
begins_none true = (refl, refl)
begins_none false = (refl, refl)

-- ---- items as they are printed

-- the comments before the first of these items, or before `esac`
abbrev first_comments : Shape CaseItemsOf → Row Text → Row Text
first_comments no_case tail = tail
first_comments (more_cases (case_item cs ps body mark) items) tail = cs

module _ (y : Layout) where
  -- the margin after those comments, and what stands there
  abbrev items_margin : Text → Shape CaseItemsOf → Text
  items_margin m no_case = m
  items_margin m (more_cases c items) = case_margin y m

  -- from after the margin: the comments, the pattern and what stands after it, or `esac`
  abbrev items_marks : Text → Shape CaseItemsOf → Row Text → Marks → Marks
  items_marks m no_case tail rest = text (codes "esac") ∷ rest
  items_marks m (more_cases (case_item cs no_pattern body mark) items) tail rest = []
  items_marks m (more_cases (case_item cs (more_patterns w ws) body mark) items) tail rest =
      print_word w ++ more_marks ws (print_body y (case_margin y m) body
      ++ (text (ender mark.falls) ∷ line_end
      ∷ (print_comment_lines (case_margin y m) (first_comments items tail)
      ++ (text (items_margin m items) ∷ items_marks m items tail rest))))

  -- with those comments before them
  abbrev next_marks : Text → Shape CaseItemsOf → Row Text → Marks → Marks
  next_marks m items tail rest = print_comment_lines (case_margin y m) (first_comments items tail)
      ++ (text (items_margin m items) ∷ items_marks m items tail rest)

  -- the margins of items are of blanks
  margin_blank : (m : Text) → all_blank m ≡ true → all_blank (case_margin y m) ≡ true
  margin_blank m blank = cond_both y.case_indent (deeper y m) m (λ t. all_blank t ≡ true)
      (λ e. deeper_blank y m blank) (λ e. blank)

  items_blank : (m : Text) (items : Shape CaseItemsOf) → all_blank m ≡ true →
      all_blank (items_margin m items) ≡ true
  items_blank m no_case blank = blank
  items_blank m (more_cases c items) blank = margin_blank m blank

  -- between `case` and its items
  abbrev pub case_marks : Text → Shape CaseItemsOf → Row Text → Marks → Marks
  case_marks m items tail rest = text (codes " ") ∷ text (codes "in") ∷ line_end ∷ next_marks m items tail rest

  -- what stands after the word of a `case` may follow it
  case_follows : (m : Text) (items : Shape CaseItemsOf) (tail : Row Text) (rest : Marks) →
      Followed (case_marks m items tail rest)
  unfolding laid_after
  case_follows m items tail rest held = refl

module _ {edition : Edition} {B T : List ℕ} {o : ℕ} {S : StandsIn edition B T o} {room : ℕ} {y : Layout}
    (fine : CompoundsRead S room y) where
  -- ---- `case`

  -- `esac` as it is printed
  esac_key : (ms : Marks) → Ends ms → Key S (codes "esac") reserved.Esac ms
  esac_key ms e = key_by S (codes "esac") reserved.Esac ms e
      (λ p x xs clear stops at. esac_here T p x xs clear stops at)

  -- a reserved word ends the lines before it
  key_operand : (h : Held) (w : Text) (r : Reserved) (ms : Marks) → Key S w r ms → (p : ℕ) → At S h p (text w ∷ ms) →
      Operand S p
  key_operand h w r ms key p at =
      let k = key h p (at ∙ laid_text h w ms) in
      record {
        start = k.start;
        no_comment = no_sharp S p k.start.place (ap is_comment (edition_same S k.token));
        no_newline = ap is_newline_token (edition_same S k.token);
      }

  -- a word after a margin
  record WordAt (h : Held) (position : Position) (begins : Token → Bool) (f : ℕ) (w : Shape AWordOf)
      (ms : Marks) : Type 0 where
    value : AWord
    e : ℕ
    at : At S h e ms
    begin : begins (edition_token S position (past_blanks T f)) ≡ true
    reads : Gives (g S) (a_word (level room)) (state h (past_blanks T f)) value (state h e)
    on : past_blanks T f < e
    within : past_blanks T f < length T
    shape : shape_of_word B value ≡ w

  -- a word is read after its margin
  word_at : (h : Held) (position : Position) (begins : Token → Bool) (m : Text) (w : Shape AWordOf) (f : ℕ)
      (ms : Marks) → all_blank m ≡ true → GoodWord edition room position begins w → Followed ms
      → At S h f (text m ∷ (print_word w ++ ms)) → WordAt h position begins f w ms
  word_at h position begins m w f ms blank good follow at =
      let t = good.t in
      let there = at ∙ ap (λ w. lay h (text m ∷ (print_word w ++ ms))) good.is in
      let at_after = at_text S h f m (text t ∷ ms) there in
      let found = good.reads.there (g S) (f + length m) (lay h ms) (at_after ∙ laid_text h t ms)
      (follow (held_bytes h.waiting)) in
      let gap = margin_gap S h m f (text t ∷ ms) blank there
      (record { place = found.place; no_blank = found.no_blank }) in
      let q = past_blanks T f in
      let e = q + length t in
      let at_q = subst (λ r. At S h r (text t ∷ ms)) (sym gap.blanks) at_after in
      let there_q = at_q ∙ laid_text h t ms in
      let again_there = good.reads.there (g S) q (lay h ms) there_q (follow (held_bytes h.waiting)) in
      let v = again_there.word B (sym S.here) in
      let some = good.reads.some in
      record {
        value = v.0;
        e = e;
        at = at_text S h q t ms at_q;
        begin = ap begins (edition_word S good.word_is again_there.token_is) ∙ good.begin;
        reads = printed_word S room h t good.ss q v;
        on = omega (arith, some);
        within = some_word S q t (lay h ms) some there_q;
        shape = v.1.1 ∙ sym good.is;
      }

  -- ---- the patterns of an item

  -- a `)` stands here
  bracket_next : (h : Held) (position : Position) (e : ℕ) (ms : Marks) → At S h e (text (codes ")") ∷ ms) →
      (edition_next S position e ≡ record { token = tokens.CloseParen; broken = false }) × (past_blanks T e ≡ e)
  bracket_next h position e ms at =
      let there = at ∙ laid_text h (codes ")") ms in
      let gap = no_gap (start_here (byte_here T e right_parenthesis (lay h ms) refl there) refl) in (
        edition_next_after S position gap ∙ ap (λ t. record { token = token_in edition t; broken = false })
            (close_token position T e (lay h ms) there),
        gap.blanks,
      )

  -- what is read of the patterns after others
  record PatternsRead (h : Held) (acc : Row AWord) (f : ℕ) (ws : Shape PatternsOf) (ms : Marks) : Type 0 where
    value : Row AWord
    e : ℕ
    at : At S h e (text (codes ")") ∷ ms)
    reads : Gives (g S) (many (pattern_turn (level room)) (patterns_so_far acc (edition_next S Suffix f)))
        (state h (past_blanks T f))
        (patterns_so_far (acc ++ value) (edition_next S Suffix e)) (state h (past_blanks T e))
    shape : shape_of_patterns B (patterns_of value) ≡ ws

  -- the shape of patterns by that of the first and those of the others
  patterns_shape : (v : AWord) (vs : Row AWord) (w : Shape AWordOf) (ws : Shape PatternsOf) →
      shape_of_word B v ≡ w → shape_of_patterns B (patterns_of vs) ≡ ws
      → shape_of_patterns B (patterns_of (v ∷ vs)) ≡ more_patterns w ws
  patterns_shape v vs w ws e f = rw (e, f) refl

  -- what is read of one further pattern with the `|` before it, and that its turn leads on
  record OnePatternRead (h : Held) (acc : Row AWord) (f : ℕ) (w : Shape AWordOf) (ms : Marks) : Type 0 where
    value : AWord
    e : ℕ
    at : At S h e ms
    reads : Gives (g S) (pattern_turn (level room) (patterns_so_far acc (edition_next S Suffix f)))
        (state h (past_blanks T f))
        (again (patterns_so_far (acc ++ value ∷ []) (edition_next S Suffix e))) (state h (past_blanks T e))
    on : leads_on (g S) (state h (past_blanks T f)) (state h (past_blanks T e)) ≡ true
    shape : shape_of_word B value ≡ w

  -- one further pattern is read after its `|`
  one_pattern_read : (h : Held) (w : Shape AWordOf) (acc : Row AWord) (f : ℕ) (ms : Marks) →
      GoodWord edition room Suffix begins_word w → Followed ms →
      At S h f (text (codes " ") ∷ text (codes "|") ∷ text (codes " ") ∷ (print_word w ++ ms))
      → OnePatternRead h acc f w ms
  unfolding pattern_turn one_pattern a_pattern
  one_pattern_read h w acc f ms good follow at =
      let Y = print_word w ++ ms in
      let X = text (codes " ") ∷ Y in
      let parted : (h : Held) → Parted (lay h X) =
      λ h. record {
        c = space;
        cs = lay h Y;
        is = laid_text h (codes " ") Y;
        no_backslash = refl;
        no_bar = refl;
        no_ampersand = refl;
      } in
      let n_is = (pipe_follower S X parted).seen_as h f at Suffix in
      let gap = space_then S h f vertical_line [] X refl refl at in
      let q = past_blanks T f in
      let at_q = subst (λ r. At S h r (text (codes "|") ∷ X)) (sym gap.blanks)
      (at_text S h f (codes " ") (text (codes "|") ∷ X) at) in
      let there_q = at_q ∙ laid_text h (codes "|") X in
      let the_bar = byte_here T q vertical_line (lay h X) refl there_q in
      let v = word_at h Suffix begins_word (codes " ") w (q + 1) ms refl good follow the_bar.rest in
      record {
        value = v.value;
        e = v.e;
        at = v.at;
        reads = first_of _ _ (ap (λ (n : Next). is_pipe n.token) n_is)
            (told_here (by (codes "|")) (one_moved S h q the_bar.place_after) ⟫ next_read S h Suffix (q + 1)
            ⟫ first_of _ _ v.begin
            ((v.reads ⟫ pushed_here acc v.value ⟫ next_read S h Suffix v.e ⟫ given_here) ⟫ given_here));
        on = leads S h h q (past_blanks T v.e) (omega (arith, v.on, blanks_low T (q + 1), blanks_low T v.e))
            (some_here S q vertical_line (lay h X) there_q);
        shape = v.shape;
      }

  -- all further patterns are read
  patterns_read : (h : Held) (ws : Shape PatternsOf) (acc : Row AWord) (f : ℕ) (ms : Marks) →
      GoodMorePatterns edition room ws → At S h f (more_marks ws ms) → PatternsRead h acc f ws ms
  unfolding pattern_turn
  patterns_read h no_pattern acc f ms good at = record {
    value = [];
    e = f;
    at = at;
    reads = rw (append-nil acc)
        (last_turn (pattern_turn (level room))
        (second_of _ _ (ap (λ (n : Next). is_pipe n.token) (bracket_next h Suffix f ms at).0) given_here));
    shape = refl;
  }
  patterns_read h (more_patterns w ws) acc f ms good at =
      let first = one_pattern_read h w acc f (more_marks ws ms) good.0 (more_follows ws ms) at in
      let others = patterns_read h ws (acc ++ first.value ∷ []) first.e ms good.1 first.at in
      record {
        value = first.value ∷ others.value;
        e = others.e;
        at = others.at;
        reads = subst (λ all. Gives (g S)
            (many (pattern_turn (level room)) (patterns_so_far acc (edition_next S Suffix f)))
            (state h (past_blanks T f))
            (patterns_so_far all (edition_next S Suffix others.e)) (state h (past_blanks T others.e)))
            (append_assoc acc (first.value ∷ []) others.value)
            (one_turn (pattern_turn (level room)) first.reads first.on others.reads);
        shape = patterns_shape first.value others.value w ws first.shape others.shape;
      }

  -- what is read of all patterns of an item, and of the `)` after them
  record AllPatternsRead (h : Held) (e : ℕ) (ps : Shape PatternsOf) (ms : Marks) : Type 0 where
    value : Row AWord
    next : Next
    z : ℕ
    at : At S h (z + 1) ms
    begin : FirstPattern (edition_token S Command (past_blanks T e))
    reads : Gives (g S) (a_pattern_list (level room) (edition_next S Command e)) (state h (past_blanks T e))
        (patterns_so_far value next) (state h z)
    bracket : Gives (g S) (closing (level room) closings.Paren next) (state h z)
        (span o z (z + 1), edition_next S Command (z + 1)) (state h (past_blanks T (z + 1)))
    on : past_blanks T e < z
    within : past_blanks T e < length T
    shape : shape_of_patterns B (patterns_of value) ≡ ps

  -- all patterns of an item are read after its margin, up to the `)` and with it
  all_patterns_read : (h : Held) (m : Text) (w : Shape AWordOf) (ws : Shape PatternsOf) (e : ℕ) (ms : Marks) →
      all_blank m ≡ true → GoodWord edition room Command begins_pattern w → GoodMorePatterns edition room ws →
      At S h e (text m ∷ (print_word w ++ more_marks ws ms)) → AllPatternsRead h e (more_patterns w ws) ms
  unfolding a_pattern_list a_pattern closing
  all_patterns_read h m w ws e ms blank good others at =
      let v = word_at h Command begins_pattern m w e (more_marks ws ms) blank good (more_follows ws ms) at in
      let vs = patterns_read h ws (v.value ∷ []) v.e ms others v.at in
      let paren_next = bracket_next h Suffix vs.e ms vs.at in
      let z = past_blanks T vs.e in
      let paren = byte_here T z right_parenthesis (lay h ms) refl
      (subst (λ p. drop p T ≡ right_parenthesis ∷ lay h ms) (sym paren_next.1)
      (vs.at ∙ laid_text h (codes ")") ms)) in
      let low = gives_on
      (many (pattern_turn (level room)) (patterns_so_far (v.value ∷ []) (edition_next S Suffix v.e))) _ _ _
      vs.reads in
      record {
        value = v.value ∷ vs.value;
        next = edition_next S Suffix vs.e;
        z = z;
        at = paren.rest;
        begin = first_pattern (edition_token S Command (past_blanks T e)) v.begin;
        reads = first_of _ _ v.begin
            ((v.reads ⟫ pushed_here [] v.value ⟫ next_read S h Suffix v.e ⟫ given_here) ⟫ vs.reads);
        bracket = first_of _ _ (ap (λ (n : Next). is_closing closings.Paren n.token) paren_next.0)
            (paren_alone S h (closing_text closings.Paren) z paren.place_after);
        on = omega (arith, v.on, blanks_low T v.e, low);
        within = v.within;
        shape = patterns_shape v.value vs.value w ws v.shape vs.shape;
      }

  -- a pattern ends the lines before it
  pattern_operand : (h : Held) (w : Shape AWordOf) (ms : Marks) → GoodWord edition room Command begins_pattern w →
      Followed ms → (p : ℕ) → At S h p (print_word w ++ ms) → Operand S p
  pattern_operand h w ms good follow p at =
      let there = at ∙ ap (λ w. lay h (print_word w ++ ms)) good.is ∙ laid_text h good.t ms in
      let found = good.reads.there (g S) p (lay h ms) there (follow (held_bytes h.waiting)) in
      let other = first_pattern _ (ap begins_pattern (edition_word S good.word_is found.token_is) ∙ good.begin) in
      record {
        start = record { place = found.place; no_blank = found.no_blank };
        no_comment = no_sharp S p found.place other.comment;
        no_newline = other.newline;
      }

  -- ---- comments before an item

  -- newlines and comments up to what stands after them
  record LinesRead (h : Held) (b : Bool) (acc : Row Span) (n : Next) (p : ℕ) (cs : Row Text) (m : Text)
      (ms : Marks) : Type 0 where
    comments : Row Span
    e : ℕ
    later : Held
    at : At S later e (text m ∷ ms)
    reads : Gives (g S) (many join_turn (join_so_far (a_join_of b acc) n)) (state h p)
        (join_so_far (a_join_of true (acc ++ comments)) (edition_next S Command e)) (state later (past_blanks T e))
    shape : shape_of_comments B comments ≡ cs
    texts : AddsBodies S h later no_more

  module _ (d m : Text) (blank_d : all_blank d ≡ true) (blank_m : all_blank m ≡ true) (ms : Marks)
      (operand : (h : Held) (p : ℕ) → At S h p ms → Operand S p) where
    -- where no comment is left nothing more is read of the lines before what stands after them
    no_comment_line : (h : Held) (acc : Row Span) (e : ℕ) → At S h e (text m ∷ ms) →
        LinesRead h true acc (edition_next S Command e) (past_blanks T e) [] m ms
    no_comment_line h acc e at =
        let at_after = at_text S h e m ms at in
        let gap = margin_gap S h m e ms blank_m at (operand h (e + length m) at_after).start in
        let q = past_blanks T e in
        let it = operand h q (subst (λ r. At S h r ms) (sym gap.blanks) at_after) in
        record {
          comments = [];
          e = e;
          later = h;
          at = at;
          reads = rw (append-nil acc)
              (last_turn join_turn (last_join_turn S h true acc
              (edition_next S Command e) q it.no_comment it.no_newline));
          shape = refl;
          texts = λ ts. refl;
        }

    -- the comments before an item are read, each on a line of its own
    lines_read : (h : Held) (cs : Row Text) (acc : Row Span) (e : ℕ) → GoodComments cs →
        At S h e (print_comment_lines d cs ++ (text m ∷ ms)) →
        LinesRead h true acc (edition_next S Command e) (past_blanks T e) cs m ms
    lines_read h [] acc e good at = no_comment_line h acc e at
    lines_read h (c ∷ cs) acc e good at =
        let others_marks = print_comment_lines d cs ++ (text m ∷ ms) in
        let more = line_end ∷ others_marks in
        let at_after = at_text S h e d (text c ∷ more) at in
        let gap = margin_gap S h d e (text c ∷ more) blank_d at
        (comment_start S h c (e + length d) others_marks good.0 at_after) in
        let q = past_blanks T e in
        let at_q = subst (λ r. At S h r (text c ∷ more)) (sym gap.blanks) at_after in
        let s = span o q (q + length c) in
        let turn = comment_join_turn S h c true acc (edition_next S Command e) q others_marks good.0 at_q in
        let rest = lines_read turn.later cs (acc ++ s ∷ []) turn.q good.1 turn.at in
        record {
          comments = s ∷ rest.comments;
          e = rest.e;
          later = rest.later;
          at = rest.at;
          reads = comments_joined S h rest.later true (edition_next S Command e) q acc s rest.comments
              (past_blanks T rest.e)
              (edition_next S Command rest.e) (one_turn join_turn turn.reads turn.on rest.reads);
          shape = cons_shape S s rest.comments c cs (comment_shape S h c q more at_q) rest.shape;
          texts = λ ts. rest.texts ts ∙ turn.texts ts;
        }

    -- from the end of the line before them
    break_read : (h : Held) (cs : Row Text) (e : ℕ) → GoodComments cs →
        At S h e (line_end ∷ (print_comment_lines d cs ++ (text m ∷ ms))) →
        LinesRead h false [] (edition_next S Command e) (past_blanks T e) cs m ms
    break_read h cs e good at =
        let X = print_comment_lines d cs ++ (text m ∷ ms) in
        let line = line_end_here S h e X at in
        let turn = newline_join_turn S h false [] (edition_next S Command e) (past_blanks T e) X
        (ap (λ (n : Next). is_newline_token n.token) line.n_is) line.at_q in
        let rest = lines_read turn.later cs [] turn.q good turn.at in
        record {
          comments = rest.comments;
          e = rest.e;
          later = rest.later;
          at = rest.at;
          reads = one_turn join_turn turn.reads turn.on rest.reads;
          shape = rest.shape;
          texts = λ ts. rest.texts ts ∙ turn.texts ts;
        }

  -- ---- `;;` and `;&`

  -- what is told and passed of what ends an item
  record EnderRead (h : Held) (e : ℕ) (falls : Bool) (ms : Marks) : Type 0 where
    token_is : edition_token S Command (past_blanks T e) ≡ ender_token falls
    not_comment : raw_stands T (past_blanks T e) number_sign ≡ false
    f : ℕ
    at : At S h f ms
    low : past_blanks T e < f
    on : Gives (g S) (move one_byte >> move one_byte) (state h (past_blanks T e)) tt (state h f)

  -- a `;` and another byte, which are this ender
  ender_by : (h : Held) (m : Text) (e d : ℕ) (falls : Bool) (ms : Marks) → all_blank m ≡ true → (d == backslash) ≡ false
      → ((q : ℕ) (xs : Text) → drop q T ≡ semicolon ∷ d ∷ xs → edition_token S Command q ≡ ender_token falls) →
      At S h e (text m ∷ text (semicolon ∷ d ∷ []) ∷ ms) → EnderRead h e falls ms
  ender_by h m e d falls ms blank clear token_is at =
      let there = at_text S h e m (text (semicolon ∷ d ∷ []) ∷ ms) at ∙ laid_text h (semicolon ∷ d ∷ []) ms in
      let gap = margin_gap S h m e (text (semicolon ∷ d ∷ []) ∷ ms) blank at
      (start_here (byte_here T (e + length m) semicolon (d ∷ lay h ms) refl there) refl) in
      let q = past_blanks T e in
      let at_q : drop q T ≡ semicolon ∷ d ∷ lay h ms =
      subst (λ r. drop r T ≡ semicolon ∷ d ∷ lay h ms) (sym gap.blanks) there in
      let at_after = byte_after S q semicolon d (lay h ms) at_q in
      record {
        token_is = token_is q (lay h ms) at_q;
        not_comment = no_byte S q semicolon (d ∷ lay h ms) number_sign refl at_q;
        f = q + 1 + 1;
        at = next_one T (q + 1) d (lay h ms) at_after;
        low = omega arith;
        on = byte_moved S h q semicolon (d ∷ lay h ms) refl at_q ⟫ byte_moved S h (q + 1) d (lay h ms) clear at_after;
      }

  -- `;&` or `;;` after its margin
  ender_read : (h : Held) (m : Text) (e : ℕ) (falls : Bool) (ms : Marks) → all_blank m ≡ true →
      (falls ≡ true → is_later edition ≡ true) → At S h e (text m ∷ text (ender falls) ∷ ms) →
      EnderRead h e falls ms
  ender_read h m e true ms blank later at =
      ender_by h m e ampersand true ms blank refl
      (λ q xs there. edition_same S (falls_token Command T q xs there) ∙ falls_stays edition (later refl)) at
  ender_read h m e false ms blank later at =
      ender_by h m e semicolon false ms blank refl
      (λ q xs there. edition_same S (double_semicolon_token Command T q xs there)) at

  -- no line of a list begins there
  ender_closes : (m : Text) (falls : Bool) (ms : Marks) → all_blank m ≡ true →
      (falls ≡ true → is_later edition ≡ true) → (h : Held) (e : ℕ) → At S h e (text m ∷ text (ender falls) ∷ ms) →
      Closes S e
  ender_closes m falls ms blank later h e at =
      let d = ender_read h m e falls ms blank later at in
      let none = begins_none falls in
      record {
        not_entry = ap begins_pipeline d.token_is ∙ none.0;
        not_newline = ap is_newline_token d.token_is ∙ none.1;
        not_comment = d.not_comment;
      }

  -- ---- bodies

  -- what is read of the list of an item, and of what ends it
  record BodyRead (h : Held) (f : ℕ) (body : Shape EntriesOf) (falls : Bool) (ms : Marks) : Type 0 where
    list : Listed
    e : ℕ
    later : Held
    ended : EnderRead later e falls (line_end ∷ ms)
    reads : Gives (g S) (a_body (level room) (edition_next S Command f)) (state h (past_blanks T f))
        (list_so_far list (edition_next S Command e))
        (state later (past_blanks T e))
    shape : shape_of B (entries_of list.entries) ≡ opened [] body
    texts : AddsBodies S h later (entries_bodies body)

  -- the list is read, or none, up to that
  item_body_read : (h : Held) (m : Text) (body : Shape EntriesOf) (falls : Bool) (f : ℕ) (ms : Marks) →
      all_blank m ≡ true → (falls ≡ true → is_later edition ≡ true) → GoodEntries edition room body →
      first_not_blank body ≡ true → are_normal body ≡ true
      → At S h f (print_body y m body ++ (text (ender falls) ∷ line_end ∷ ms)) → BodyRead h f body falls ms
  unfolding a_body opened entries_bodies
  item_body_read h m no_entry falls f ms blank later good first normal at = record {
    list = at_line_start [] false false None;
    e = f;
    later = h;
    ended = ender_read h (codes " ") f falls (line_end ∷ ms) refl later at;
    reads = last_turn (list_turn (level room))
        (list_ends fine h [] false false None f (ender_closes (codes " ") falls (line_end ∷ ms) refl later h f at));
    shape = refl;
    texts = λ ts. refl;
  }
  item_body_read h m (more_entries x es) falls f ms blank later good first normal at =
      let d = deeper y m in
      let E = print_entries y d (more_entries x es) in
      let Z = text d ∷ text (ender falls) ∷ line_end ∷ ms in
      let there : At S h f (line_end ∷ (E ++ Z)) = at
      ∙ ap (lay h) (append_assoc (line_end ∷ E) (text d ∷ []) (text (ender falls) ∷ line_end ∷ ms)) in
      let line = empty_line fine h [] false false None f (E ++ Z) there in
      let closes = ender_closes d falls (line_end ∷ ms) (deeper_blank y m blank) later in
      let r = list_read fine line.later d (more_entries x es) [] false None line.q Z
      (deeper_blank y m blank) good normal (λ none. first) closes line.at in
      record {
        list = at_line_start r.value r.blank (holds_command (more_entries x es)) r.parted;
        e = r.«end»;
        later = r.later;
        ended = ender_read r.later d r.«end» falls (line_end ∷ ms) (deeper_blank y m blank) later r.at;
        reads = one_turn (list_turn (level room)) line.reads line.on r.reads;
        shape = r.shape;
        texts = λ ts. r.texts ts ∙ line.texts (entries_bodies (more_entries x es) ts);
      }

  -- ---- items

  -- what is printed of all items, by the first one
  pub items_are : (m : Text) (items : Shape CaseItemsOf) (tail : Row Text) (rest : Marks) →
      GoodCases edition room items
      → Alike (print_cases y (case_margin y m) items
      ++ (print_comment_lines (case_margin y m) tail ++ (text m ∷ text (codes "esac") ∷ rest)))
      (next_marks y m items tail rest)
  unfolding laid_after
  items_are m no_case tail rest good held = refl
  items_are m (more_cases (case_item cs no_pattern body mark) items) tail rest good held = absurd good.0.1
  items_are m (more_cases (case_item cs (more_patterns w ws) body mark) items) tail rest good held =
      let P = case_margin y m in
      let C = print_comment_lines P cs in
      let F = text P ∷ print_first_pattern (more_patterns w ws) in
      let D = text (codes ")") ∷ print_body y P body in
      let E = text (ender mark.falls) in
      let L = E ∷ line_end ∷ [] in
      let I = print_cases y P items in
      let R = print_comment_lines P tail ++ (text m ∷ text (codes "esac") ∷ rest) in
      let N = next_marks y m items tail rest in
      let parts = append_assoc (C ++ (F ++ (D ++ L))) I R ∙ append_assoc C (F ++ (D ++ L)) (I ++ R)
      ∙ ap (λ ks. C ++ ks) (append_assoc F (D ++ L) (I ++ R) ∙ ap (λ ks. F ++ ks) (append_assoc D L (I ++ R))
      ∙ ap (λ ks. text P ∷ ks) (append_assoc (print_word w) (print_patterns ws)
      (D ++ (E ∷ line_end ∷ (I ++ R))))) in
      let ended = laid_same (print_body y P body) (E ∷ line_end ∷ (I ++ R)) (E ∷ line_end ∷ N)
      (λ held. ap (λ z. ender mark.falls ++ (newline_char ∷ held ++ z)) (items_are m items tail rest good.1 [])) in
      let after_patterns : Alike (print_patterns ws ++ (D ++ (E ∷ line_end ∷ (I ++ R))))
      (more_marks ws (print_body y P body ++ (E ∷ line_end ∷ N))) =
      λ held. laid_same (print_patterns ws) (D ++ (E ∷ line_end ∷ (I ++ R))) (D ++ (E ∷ line_end ∷ N))
      (λ held. ap (λ z. right_parenthesis ∷ z) (ended held)) held
      ∙ more_are ws (print_body y P body ++ (E ∷ line_end ∷ N)) held in
      ap (laid_after held) parts
      ∙ laid_same C _ _ (λ held. ap (λ z. P ++ z) (laid_same (print_word w) _ _ after_patterns held)) held

  -- an item, or `esac`, ends the lines before it
  items_operand : (h : Held) (m : Text) (items : Shape CaseItemsOf) (tail : Row Text) (rest : Marks) →
      GoodCases edition room items → Ends rest → (p : ℕ) → At S h p (items_marks y m items tail rest) → Operand S p
  items_operand h m no_case tail rest good stop p at =
      key_operand h (codes "esac") reserved.Esac rest (esac_key rest stop) p at
  items_operand h m (more_cases (case_item cs no_pattern body mark) items) tail rest good stop p at =
      absurd good.0.1
  items_operand h m (more_cases (case_item cs (more_patterns w ws) body mark) items) tail rest good stop p at =
      pattern_operand h w (more_marks ws
      (print_body y (case_margin y m) body
      ++ (text (ender mark.falls) ∷ line_end ∷ next_marks y m items tail rest))) good.0.1.0
      (more_follows ws _) p at

  -- the comments before it are good
  first_good : (items : Shape CaseItemsOf) (tail : Row Text) → GoodCases edition room items → GoodComments tail →
      GoodComments (first_comments items tail)
  first_good no_case tail good comments = comments
  first_good (more_cases (case_item cs ps body mark) items) tail good comments = good.0.0

  -- what is read of all items, and of the comments after them, up to `esac`
  record CasesRead (h : Held) (acc : Row ACaseItem) (before : Row Span) (e : ℕ) (items : Shape CaseItemsOf)
      (tail : Row Text) (rest : Marks) : Type 0 where
    value : Row ACaseItem
    comments : Row Span
    f : ℕ
    later : Held
    key : ReservedRead S later f reserved.Esac rest
    reads : Gives (g S) (many (case_turn (level room)) (cases_so_far acc before (edition_next S Command e)))
        (state h (past_blanks T e))
        (cases_so_far (acc ++ value) comments (edition_next S Command f)) (state later (past_blanks T f))
    shape : shape_of_cases B (cases_of value) ≡ open_cases [] items
    texts : AddsBodies S h later (cases_bodies items)
    tail_shape : shape_of_comments B comments ≡ tail

  -- the shape of an item by those of its parts
  item_shape_of : (cs : Row Span) (vs : Row AWord) (es : Row AnEntry) (s : ACaseMark) (comments : Row Text)
      (ps : Shape PatternsOf) (body : Shape EntriesOf) (mark : ACaseMarkOf (Unit {0}))
      → s.falls ≡ mark.falls → shape_of_comments B cs ≡ comments → shape_of_patterns B (patterns_of vs) ≡ ps →
      shape_of B (entries_of es) ≡ opened [] body
      → shape_of_case B (case_item cs (patterns_of vs) (entries_of es) s)
      ≡ open_case [] (case_item comments ps body mark)
  unfolding open_case
  item_shape_of cs vs es s comments ps body mark falls e f i = rw (e, f, i, falls) refl

  -- the shape of items by that of the first and those of the others
  cases_shape : (v : ACaseItem) (vs : Row ACaseItem) (c : Shape ACaseItemOf) (cs : Shape CaseItemsOf) →
      shape_of_case B v ≡ open_case [] c → shape_of_cases B (cases_of vs) ≡ open_cases [] cs
      → shape_of_cases B (cases_of (v ∷ vs)) ≡ open_cases [] (more_cases c cs)
  unfolding open_cases
  cases_shape v vs c cs e f = rw (e, f) refl

  -- what is read of one item, with the comments after it, up to the margin of the next one
  record OneCaseRead (h : Held) (acc : Row ACaseItem) (before : Row Span) (e : ℕ) (c : Shape ACaseItemOf)
      (cs : Row Text) (m : Text) (ms : Marks) : Type 0 where
    value : ACaseItem
    comments : Row Span
    f : ℕ
    later : Held
    at : At S later f (text m ∷ ms)
    reads : Gives (g S) (case_turn (level room) (cases_so_far acc before (edition_next S Command e)))
        (state h (past_blanks T e))
        (again (cases_so_far (acc ++ value ∷ []) comments (edition_next S Command f))) (state later (past_blanks T f))
    on : leads_on (g S) (state h (past_blanks T e)) (state later (past_blanks T f)) ≡ true
    shape : shape_of_case B value ≡ open_case [] c
    comments_shape : shape_of_comments B comments ≡ cs
    texts : AddsBodies S h later (case_bodies c)

  -- an item by what was read of its patterns, of its body and of the lines after it
  module _ (h : Held) (acc : Row ACaseItem) (before : Row Span) (e : ℕ) (ps : Shape PatternsOf)
      (body : Shape EntriesOf) (mark : ACaseMarkOf (Unit {0})) (after_patterns after_ender : Marks) (cs : Row Text)
      (m : Text) (ms : Marks) (p : AllPatternsRead h e ps after_patterns)
      (b : BodyRead h (p.z + 1) body mark.falls after_ender)
      (l : LinesRead b.later false [] (edition_next S Command b.ended.f) (past_blanks T b.ended.f) cs m ms) where
    -- its mark in the tree
    abbrev mark_read : ACaseMark
    mark_read = record {
      mark = span o (past_blanks T e) b.ended.f;
      falls = falls_through (edition_next S Command b.e).token;
    }

    -- the item in the tree
    abbrev item_in_tree : ACaseItem
    item_in_tree = case_item before (patterns_of p.value) (entries_of b.list.entries) mark_read

    -- its ender and the comments after that are read
    item_end_read : Gives (g S)
        (an_item_end (level room) (body_end (o + (p.z + 1)) b.list) (edition_next S Command b.e))
        (state b.later (past_blanks T b.e)) (item_end (o + b.ended.f) l.comments (edition_next S Command l.e))
        (state l.later (past_blanks T l.e))
    unfolding an_item_end an_ender a_linebreak
    item_end_read = first_of _ _ (ap ends_item b.ended.token_is ∙ ender_ends mark.falls)
        (told_here (ender_told (falls_through (edition_next S Command b.e).token)) b.ended.on ⟫ seen_here the_place
        ⟫ next_read S b.later Command b.ended.f ⟫ l.reads ⟫ given_here)

    -- all of it is read by one turn
    item_turn_read : Gives (g S) (case_turn (level room) (cases_so_far acc before (edition_next S Command e)))
        (state h (past_blanks T e))
        (again (cases_so_far (acc ++ item_in_tree ∷ []) l.comments (edition_next S Command l.e)))
        (state l.later (past_blanks T l.e))
    unfolding case_turn one_case an_open_bracket
    item_turn_read = second_of _ _ p.begin.esac
        (seen_here the_place ⟫ second_of _ _ p.begin.bracket given_here ⟫ p.reads ⟫ p.bracket ⟫ b.reads
        ⟫ item_end_read ⟫ pushed_here acc item_in_tree ⟫ given_here)

    -- that turn leads on
    item_turn_on : leads_on (g S) (state h (past_blanks T e)) (state l.later (past_blanks T l.e)) ≡ true
    item_turn_on =
        let body_low = gives_on (a_body (level room) (edition_next S Command (p.z + 1))) _ _ _ b.reads in
        let lines_low = gives_on (many join_turn (join_so_far (a_join_of false []) (edition_next S Command b.ended.f)))
        _ _ _ l.reads in
        let onward : past_blanks T e < past_blanks T l.e =
        omega (arith, p.on, blanks_low T (p.z + 1), body_low, b.ended.low, blanks_low T b.ended.f, lines_low) in
        leads S h l.later (past_blanks T e) (past_blanks T l.e) onward p.within

    -- the item is read with its shape
    case_by : (comments : Row Text) → shape_of_comments B before ≡ comments →
        OneCaseRead h acc before e (case_item comments ps body mark) cs m ms
    unfolding case_bodies
    case_by comments same = record {
      value = item_in_tree;
      comments = l.comments;
      f = l.e;
      later = l.later;
      at = l.at;
      reads = item_turn_read;
      on = item_turn_on;
      shape = item_shape_of before p.value b.list.entries mark_read comments ps body mark
          (ap falls_through b.ended.token_is ∙ falls_as mark.falls) same p.shape b.shape;
      comments_shape = l.shape;
      texts = λ ts. l.texts ts ∙ b.texts ts;
    }

  -- one item is read where it is printed before others
  one_case_read : (h : Held) (m : Text) (cs : Row Text) (w : Shape AWordOf) (ws : Shape PatternsOf)
      (body : Shape EntriesOf) (mark : ACaseMarkOf (Unit {0})) (items : Shape CaseItemsOf) (tail : Row Text)
      (acc : Row ACaseItem) (before : Row Span) (e : ℕ) (rest : Marks) → all_blank m ≡ true →
      GoodCases edition room (more_cases (case_item cs (more_patterns w ws) body mark) items) → GoodComments tail →
      is_normal_case (case_item cs (more_patterns w ws) body mark) ≡ true → Ends rest →
      shape_of_comments B before ≡ cs →
      At S h e (text (case_margin y m)
      ∷ items_marks y m (more_cases (case_item cs (more_patterns w ws) body mark) items) tail rest)
      → OneCaseRead h acc before e (case_item cs (more_patterns w ws) body mark) (first_comments items tail)
      (items_margin y m items) (items_marks y m items tail rest)
  one_case_read h m cs w ws body mark items tail acc before e rest blank good comments normal stop same at =
      let margin = case_margin y m in
      let blank_m = margin_blank y m blank in
      let next = items_margin y m items in
      let later = items_marks y m items tail rest in
      let N = next_marks y m items tail rest in
      let D = print_body y margin body ++ (text (ender mark.falls) ∷ line_end ∷ N) in
      let parts = and_parts (are_normal_patterns (more_patterns w ws) && first_not_blank body) (are_normal body)
      normal in
      let first = and_parts (are_normal_patterns (more_patterns w ws)) (first_not_blank body) parts.0 in
      let p = all_patterns_read h margin w ws e D blank_m good.0.1.0 good.0.1.1 at in
      let b = item_body_read h margin body mark.falls (p.z + 1) N blank_m good.0.3 good.0.2 first.1 parts.1 p.at in
      let l = break_read margin next blank_m (items_blank y m items blank) later
      (λ h. items_operand h m items tail rest good.1 stop) b.later (first_comments items tail) b.ended.f
      (first_good items tail good.1 comments) b.ended.at in
      case_by h acc before e (more_patterns w ws) body mark D N (first_comments items tail) next later p b l cs same

  -- where no item is left `esac` is read
  no_case_read : (h : Held) (m : Text) (tail : Row Text) (acc : Row ACaseItem) (before : Row Span) (e : ℕ)
      (rest : Marks) → all_blank m ≡ true → Ends rest → shape_of_comments B before ≡ tail →
      At S h e (text m ∷ text (codes "esac") ∷ rest) → CasesRead h acc before e no_case tail rest
  unfolding case_turn open_cases cases_bodies
  no_case_read h m tail acc before e rest blank stop same at =
      let k = reserved_read S h m (codes "esac") reserved.Esac e rest blank (esac_key rest stop) at in
      record {
        value = [];
        comments = before;
        f = e;
        later = h;
        key = k;
        reads = rw (append-nil acc)
            (last_turn (case_turn (level room)) (first_of _ _ (ap (is_closing closings.Esac) k.token_is) given_here));
        shape = refl;
        texts = λ ts. refl;
        tail_shape = same;
      }

  -- an item that is read, and the further ones that are, make one row of items
  cases_on : (h : Held) (acc : Row ACaseItem) (before : Row Span) (e : ℕ) (c : Shape ACaseItemOf)
      (items : Shape CaseItemsOf) (cs tail : Row Text) (m : Text) (ms rest : Marks)
      (first : OneCaseRead h acc before e c cs m ms)
      → CasesRead first.later (acc ++ first.value ∷ []) first.comments first.f items tail rest →
      CasesRead h acc before e (more_cases c items) tail rest
  unfolding cases_bodies
  cases_on h acc before e c items cs tail m ms rest first others = record {
    value = first.value ∷ others.value;
    comments = others.comments;
    f = others.f;
    later = others.later;
    key = others.key;
    reads = subst (λ all. Gives (g S)
        (many (case_turn (level room)) (cases_so_far acc before (edition_next S Command e)))
        (state h (past_blanks T e)) (cases_so_far all others.comments (edition_next S Command others.f))
        (state others.later (past_blanks T others.f)))
        (append_assoc acc (first.value ∷ []) others.value)
        (one_turn (case_turn (level room)) first.reads first.on others.reads);
    shape = cases_shape first.value others.value c items first.shape others.shape;
    texts = λ ts. others.texts ts ∙ first.texts (cases_bodies items ts);
    tail_shape = others.tail_shape;
  }

  -- all items are read, up to `esac`
  cases_read : (h : Held) (m : Text) (items : Shape CaseItemsOf) (tail : Row Text) (acc : Row ACaseItem)
      (before : Row Span) (e : ℕ) (rest : Marks) → all_blank m ≡ true → GoodCases edition room items →
      GoodComments tail
      → are_normal_cases items ≡ true → Ends rest → shape_of_comments B before ≡ first_comments items tail →
      At S h e (text (items_margin y m items) ∷ items_marks y m items tail rest)
      → CasesRead h acc before e items tail rest
  cases_read h m no_case tail acc before e rest blank good comments normal stop same at =
      no_case_read h m tail acc before e rest blank stop same at
  cases_read h m (more_cases (case_item cs no_pattern body mark) items) tail acc before e rest blank good comments
      normal stop same at = absurd good.0.1
  cases_read h m (more_cases (case_item cs (more_patterns w ws) body mark) items) tail acc before e rest blank
      good comments normal stop same at =
      let c = case_item cs (more_patterns w ws) body mark in
      let parts = and_parts (is_normal_case c) (are_normal_cases items) normal in
      let first = one_case_read h m cs w ws body mark items tail acc before e rest blank good comments parts.0 stop
      same at in
      cases_on h acc before e c items (first_comments items tail) tail (items_margin y m items)
      (items_marks y m items tail rest) rest first
      (cases_read first.later m items tail (acc ++ first.value ∷ []) first.comments first.f rest blank good.1
      comments parts.1 stop first.comments_shape first.at)

  -- the shape of a `case` by those of its parts
  case_shape : (v : AWord) (vs : Row ACaseItem) (cs : Row Span) (w : Shape AWordOf) (items : Shape CaseItemsOf)
      (tail : Row Text) → shape_of_word B v ≡ w → shape_of_cases B (cases_of vs) ≡ open_cases [] items
      → shape_of_comments B cs ≡ tail →
      shape_of_form B (case_in v (cases_of vs) cs) ≡ open_form [] (case_in w items tail)
  unfolding open_form
  case_shape v vs cs w items tail e f i = rw (e, f, i) refl

  -- a `case` from just after its opener, up to `esac`
  pub case_read : (h : Held) (m : Text) (w : Shape AWordOf) (items : Shape CaseItemsOf) (tail : Row Text) (f : ℕ)
      (rest : Marks) → all_blank m ≡ true → GoodForm edition room (case_in w items tail)
      → is_normal_form (case_in w items tail) ≡ true → Ends rest →
      At S h f (text (codes " ") ∷ (print_word w ++ case_marks y m items tail rest))
      → Finished S h AForm (a_case (level room) (edition_next S Suffix f)) (past_blanks T f) rest
      (form_bodies (case_in w items tail)) (λ v. shape_of_form B v ≡ open_form [] (case_in w items tail))
  unfolding a_case a_case_head a_case_word a_linebreak form_bodies
  case_read h m w items tail f rest blank good normal stop at =
      let parts = and_parts _ _ normal in
      let X = line_end ∷ next_marks y m items tail rest in
      let v = word_at h Suffix begins_word (codes " ") w f (case_marks y m items tail rest) refl good.0
      (case_follows y m items tail rest) at in
      let k = reserved_read S h (codes " ") (codes "in") reserved.In v.e X refl (in_key S X (line_end_end _)) v.at in
      let l = break_read (case_margin y m) (items_margin y m items) (margin_blank y m blank)
      (items_blank y m items blank) (items_marks y m items tail rest)
      (λ h. items_operand h m items tail rest good.1 stop) h
      (first_comments items tail) k.f (first_good items tail good.1 good.2) k.at in
      let c = cases_read l.later m items tail [] l.comments l.e rest blank good.1 good.2 parts.1 stop l.shape
      l.at in
      record {
        value = case_in v.value (cases_of c.value) c.comments;
        closer = c.key.s;
        e = c.key.f;
        later = c.later;
        at = c.key.at;
        texts = λ ts. c.texts ts ∙ l.texts (cases_bodies items ts);
        reads = (first_of _ _ v.begin (v.reads ⟫ next_read S h Command v.e ⟫ given_here) ⟫ no_lines S h
            (edition_next S Command v.e) (past_blanks T v.e) k.not_comment (ap is_newline_token k.token_is)
            ⟫ closing_read S room h closings.In reserved.In v.e X refl refl k ⟫ l.reads ⟫ given_here) ⟫ c.reads ⟫
            closing_read S room c.later closings.Esac reserved.Esac c.f rest refl refl c.key ⟫ given_here;
        is = case_shape v.value c.value c.comments w items tail v.shape c.shape c.tail_shape;
      }
