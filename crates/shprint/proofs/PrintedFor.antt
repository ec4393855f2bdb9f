-- `for` from just after its opener: the name, the words after `in`, and the body.
use Rattle.std.proofs.Common.{◌≡◌, ℕ, ◌+◌, true, false, List, [], ◌∷◌, ◌++◌, length, drop, codes, refl, sym, ap, subst, ◌∙◌, append_assoc}
use Rattle.std.proofs.lemmas.Bool.{and_parts}
use Rattle.shgrammar.specs.declared.edition.Edition.{Edition}
use Rattle.shgrammar.specs.declared.token.Next.{Next}
use Rattle.shgrammar.specs.declared.token.Closing.TheVariants as closings
use Rattle.shgrammar.specs.declared.token.Position.TheVariants.{Command, Suffix}
use Rattle.shgrammar.specs.declared.token.Reserved.{Reserved}
use Rattle.shgrammar.specs.declared.token.Reserved.TheVariants as reserved
use Rattle.shgrammar.specs.Characters.{semicolon, space}
use Rattle.shgrammar.specs.Bytes.{past_blanks}
use Rattle.shgrammar.specs.Sights.{here as the_place, is_a_name}
use Rattle.shgrammar.specs.Levels.{level}
use Rattle.shast.specs.Normal.{is_normal_form, are_normal_words}
use Rattle.shgrammar.specs.Compounds.{a_for, a_for_head, a_for_name, a_sequential_sep, for_words, headed, a_group, closing_text, is_closing}
use Rattle.shgrammar.specs.Commands.{a_semicolon, is_semicolon, join_so_far, a_join_of, is_newline_token, begins_word}
use Rattle.shast.specs.Opened.{entries_bodies, form_bodies, opened, open_form}
use Rattle.shgrammar.proofs.ItemsAnywhere.{item_is_word}
use Rattle.shast.specs.Shape.{Text, Shape, shape_of, shape_of_form, shape_of_for_words, shape_of_word}
use Rattle.shast.specs.Tree.{AWordOf, ForWordsOf, ForWords, no_in, in_words, AWord, EntriesOf, Entries, AForm, for_in, items_of, ItemsOf}
use Rattle.shprint.specs.declared.layout.Layout.{Layout}
use Rattle.shprint.specs.Marks.{text, Marks, laid_after, one}
use Rattle.shprint.specs.Printed.{print_for_words, print_word, print_items}
use Rattle.shprint.proofs.Tokens.{byte_here, start_here, all_blank, no_gap}
use Rattle.shprint.proofs.Gives.{Gives, ◌⟫◌, given_here, seen_here, first_of, second_of}
use Rattle.shprint.proofs.Held.{At, Followed, Held, StandsIn, g, held_bytes, lay, state, texts_of}
use Rattle.shprint.proofs.BodiesOfParts.{for_words_open, for_words_bodies}
use Rattle.shprint.proofs.Good.{GoodForWords, GoodName, GoodForm}
use Rattle.shprint.proofs.PrintedText.{laid_text, Alike, laid_same, deeper_blank, deeper_some, no_more, AddsBodies, at_text, edition_next, edition_next_after, edition_word, next_read, margin_gap, follower_after, printed_word, one_moved}
use Rattle.shprint.proofs.PrintedItems.{items_follow, items_read}
use Rattle.shprint.proofs.PrintedCommands.{CompoundsRead}
use Rattle.shprint.proofs.PrintedReserved.{follows_end, Ends, line_end_end, Key, ReservedRead, reserved_read, do_key, done_key, in_key, Finished, semicolon_follower, no_lines, no_semicolon, closing_read}
use Rattle.shprint.proofs.PrintedGroups.{block_marks, body_read}

module _ (y : Layout) where
  -- ---- what is printed before `do`

  -- after the name up to `do`, with it
  abbrev pub head_marks : Text → Shape ForWordsOf → Marks → Marks
  head_marks m no_in ms = text (codes " ") ∷ text (codes "do") ∷ ms
  head_marks m (in_words items) ms = text (codes " ") ∷ text (codes "in")
      ∷ (print_items y m items ++ (text (codes "; ") ∷ text (codes "do") ∷ ms))

  -- what stands after the name may follow a word
  head_follows : (m : Text) (words : Shape ForWordsOf) (ms : Marks) → Followed (head_marks m words ms)
  unfolding laid_after
  head_follows m no_in ms held = refl
  head_follows m (in_words items) ms held = refl

  -- so the definitions print it
  pub head_is : (m : Text) (words : Shape ForWordsOf) (ms : Marks) →
      Alike (print_for_words y m words ++ ms) (head_marks m words ms)
  unfolding laid_after
  head_is m no_in ms held = refl
  head_is m (in_words items) ms held =
      let P = print_items y m items in
      ap (laid_after held) (append_assoc (text (codes " in") ∷ P) (one (codes "; do")) ms)
      ∙ ap (λ z. codes " in" ++ z)
      (laid_same P (text (codes "; do") ∷ ms) (text (codes "; ") ∷ text (codes "do") ∷ ms)
      (λ held. refl) held)

module _ {edition : Edition} {B T : List ℕ} {o : ℕ} {S : StandsIn edition B T o} {room : ℕ} {y : Layout}
    (fine : CompoundsRead S room y) where
  -- ---- the name

  -- the name of a for
  record NameRead (h : Held) (f : ℕ) (name : Shape AWordOf) (ms : Marks) : Type 0 where
    value : AWord
    e : ℕ
    at : At S h e ms
    reads : Gives (g S) (a_for_name (level room) (edition_next S Suffix f)) (state h (past_blanks T f))
        (value, edition_next S Command e)
        (state h (past_blanks T e))
    shape : shape_of_word B value ≡ name

  -- it is read after its space
  name_read : (h : Held) (name : Shape AWordOf) (f : ℕ) (ms : Marks) → GoodName edition room name → Followed ms →
      At S h f (text (codes " ") ∷ (print_word name ++ ms)) → NameRead h f name ms
  unfolding a_for_name
  name_read h name f ms good follow at =
      let t = good.t in
      let there = at ∙ ap (λ w. lay h (text (codes " ") ∷ (print_word w ++ ms))) good.is in
      let at_after = at_text S h f (codes " ") (text t ∷ ms) there in
      let found = good.reads.there (g S) (f + 1) (lay h ms) (at_after ∙ laid_text h t ms)
      (follow (held_bytes h.waiting)) in
      let gap = margin_gap S h (codes " ") f (text t ∷ ms) refl there
      (record { place = found.place; no_blank = found.no_blank }) in
      let q = past_blanks T f in
      let e = q + length t in
      let at_q = subst (λ r. At S h r (text t ∷ ms)) (sym gap.blanks) at_after in
      let there_q = at_q ∙ laid_text h t ms in
      let v = (good.reads.there (g S) q (lay h ms) there_q (follow (held_bytes h.waiting))).word B (sym S.here) in
      let begins = ap (λ (n : Next). begins_word n.token) (edition_next_after S Suffix gap)
      ∙ ap begins_word (edition_word S (item_is_word good.token good.begins) found.token_is) ∙ good.begins in
      record {
        value = v.0;
        e = e;
        at = at_text S h q t ms at_q;
        reads = first_of _ _ begins
            (seen_here the_place ⟫ seen_here is_a_name ⟫ printed_word S room h t good.ss q v ⟫ first_of _ _
            (good.names T q (lay h ms) there_q (follow (held_bytes h.waiting)))
            (next_read S h Command e ⟫ given_here));
        shape = v.1.1 ∙ sym good.is;
      }

  -- ---- the words

  -- what is read between the name and `do`, and that
  record HeadRead (h : Held) (f : ℕ) (words : Shape ForWordsOf) (ms : Marks) : Type 0 where
    value : ForWords
    e : ℕ
    later : Held
    key : ReservedRead S later e reserved.Do ms
    reads : Gives (g S) (a_for_head (level room) (edition_next S Command f)) (state h (past_blanks T f))
        (headed value (join_so_far (a_join_of false []) (edition_next S Command e))) (state later (past_blanks T e))
    shape : shape_of_for_words B value ≡ words
    texts : AddsBodies S h later no_more

  -- `;` and the word after it
  sequential_sep_read : (h : Held) (e : ℕ) (w : Text) (r : Reserved) (ms : Marks) → Key S w r ms →
      At S h e (text (codes "; ") ∷ text w ∷ ms)
      → (k : ReservedRead S h (past_blanks T e + 1) r ms)
      × Gives (g S) (a_sequential_sep (level room) [] (edition_next S Command e)) (state h (past_blanks T e))
      (join_so_far (a_join_of false []) (edition_next S Command (past_blanks T e + 1)))
      (state h (past_blanks T (past_blanks T e + 1)))
  unfolding a_sequential_sep a_semicolon
  sequential_sep_read h e w r ms key at =
      let there = at ∙ laid_text h (codes "; ") (text w ∷ ms) in
      let gap = no_gap (start_here (byte_here T e semicolon (space ∷ lay h (text w ∷ ms)) refl there) refl) in
      let q = past_blanks T e in
      let the_semicolon = byte_here T q semicolon (space ∷ lay h (text w ∷ ms)) refl
      (subst (λ r. drop r T ≡ semicolon ∷ space ∷ lay h (text w ∷ ms)) (sym gap.blanks) there) in
      let n_is = (semicolon_follower S (text w ∷ ms)).seen_as h e at Command in
      let k = reserved_read S h (codes " ") w r (q + 1) ms refl key
      (the_semicolon.rest ∙ sym (laid_text h (codes " ") (text w ∷ ms))) in
      let moved = one_moved S h q the_semicolon.place_after in (
        k,
        first_of _ _ (ap (λ (n : Next). is_semicolon n.token) n_is)
            (moved ⟫ next_read S h Command (q + 1) ⟫ given_here)
            ⟫ no_lines S h (edition_next S Command (q + 1)) (past_blanks T (q + 1)) k.not_comment
            (ap is_newline_token k.token_is) ⟫ given_here,
      )

  -- the words after `in`, up to `do`
  words_read : (h : Held) (m : Text) (items : Shape ItemsOf) (f : ℕ) (ms : Marks) → all_blank m ≡ true →
      GoodForWords edition room (in_words items) → are_normal_words (in_words items) ≡ true → Ends ms
      → At S h f (head_marks y m (in_words items) ms) → HeadRead h f (in_words items) ms
  unfolding a_for_head for_words
  words_read h m items f ms blank good normal stop at =
      let X = text (codes "; ") ∷ text (codes "do") ∷ ms in
      let P = print_items y m items in
      let follower = semicolon_follower S (text (codes "do") ∷ ms) in
      let some_margin = deeper_some y m in
      let stops : Ends (P ++ X) =
      λ h. follows_end (lay h (P ++ X)) (items_follow y m items X follower.follow (held_bytes h.waiting)) in
      let k = reserved_read S h (codes " ") (codes "in") reserved.In f (P ++ X) refl (in_key S (P ++ X) stops) at in
      let is = items_read S room y m some_margin.0 some_margin.1
      (deeper_blank y m blank) some_margin.2 X follower.follow
      (follower_after S follower refl) h good.items [] k.f (λ none. (and_parts _ _ normal).0) k.at in
      let sep = sequential_sep_read is.later is.«end» (codes "do") reserved.Do ms (do_key S ms stop) is.at in
      let n = edition_next S Command f in
      let q = past_blanks T f in
      record {
        value = in_words (items_of is.more_items_read);
        e = past_blanks T is.«end» + 1;
        later = is.later;
        key = sep.0;
        reads = no_semicolon S h n q (ap is_semicolon k.token_is) ⟫ no_lines S h n q k.not_comment
            (ap is_newline_token k.token_is)
            ⟫ first_of _ _ (ap (is_closing closings.In) k.token_is)
            (k.reads (closing_text closings.In) Suffix ⟫ is.reads ⟫ sep.1 ⟫ given_here);
        shape = ap in_words (is.shape ∙ for_words_open good.items);
        texts = λ ts. is.texts ts ∙ ap (λ us. texts_of S h ++ us)
            (for_words_bodies good.items ts);
      }

  -- words, or none
  head_read : (h : Held) (m : Text) (words : Shape ForWordsOf) (f : ℕ) (ms : Marks) → all_blank m ≡ true →
      GoodForWords edition room words → are_normal_words words ≡ true → Ends ms
      → At S h f (head_marks y m words ms) → HeadRead h f words ms
  unfolding a_for_head
  head_read h m no_in f ms blank good normal stop at =
      let k = reserved_read S h (codes " ") (codes "do") reserved.Do f ms refl (do_key S ms stop) at in
      let n = edition_next S Command f in
      let q = past_blanks T f in
      record {
        value = no_in;
        e = f;
        later = h;
        key = k;
        reads = no_semicolon S h n q (ap is_semicolon k.token_is) ⟫ no_lines S h n q k.not_comment
            (ap is_newline_token k.token_is) ⟫ second_of _ _ (ap (is_closing closings.In) k.token_is) given_here;
        shape = refl;
        texts = λ ts. refl;
      }
  head_read h m (in_words items) f ms blank good normal stop at =
      words_read h m items f ms blank good normal stop at

  -- ---- the command

  -- the shape of a `for` by those of its parts
  for_shape : (v : AWord) (ws : ForWords) (b : Entries) (name : Shape AWordOf) (words : Shape ForWordsOf)
      (body : Shape EntriesOf) → shape_of_word B v ≡ name → shape_of_for_words B ws ≡ words →
      shape_of B b ≡ opened [] body
      → shape_of_form B (for_in v ws b) ≡ open_form [] (for_in name words body)
  unfolding open_form
  for_shape v ws b name words body e f i = rw (e, f, i) refl

  -- a `for` from just after its opener, up to `done`
  pub for_read : (h : Held) (m : Text) (name : Shape AWordOf) (words : Shape ForWordsOf) (body : Shape EntriesOf)
      (f : ℕ) (rest : Marks) → all_blank m ≡ true → GoodForm edition room (for_in name words body)
      → is_normal_form (for_in name words body) ≡ true → Ends rest →
      At S h f (text (codes " ") ∷
      (print_word name ++ head_marks y m words (block_marks y m body (text (codes "done") ∷ rest))))
      → Finished S h AForm (a_for (level room) (edition_next S Suffix f)) (past_blanks T f) rest
      (form_bodies (for_in name words body)) (λ v. shape_of_form B v ≡ open_form [] (for_in name words body))
  unfolding a_for a_group form_bodies
  for_read h m name words body f rest blank good normal stop at =
      let one_of = and_parts _ _ normal in
      let two_of = and_parts _ _ one_of.0 in
      let three_of = and_parts _ _ two_of.0 in
      let X = block_marks y m body (text (codes "done") ∷ rest) in
      let n = name_read h name f (head_marks y m words X) good.0 (head_follows y m words X) at in
      let d = head_read h m words n.e X blank good.1 three_of.1 (line_end_end _) n.at in
      let b = body_read fine d.later m body d.key.f (codes "done") reserved.Done rest blank good.2 two_of.1 one_of.1
      (done_key S rest stop) refl d.key.at in
      record {
        value = for_in n.value d.value b.value;
        closer = b.key.s;
        e = b.key.f;
        later = b.later;
        at = b.key.at;
        texts = λ ts. b.texts ts ∙ d.texts (entries_bodies body ts);
        reads = n.reads ⟫ d.reads ⟫ closing_read S room d.later closings.Do reserved.Do d.e X refl refl d.key ⟫
            (b.reads ⟫ closing_read S room b.later closings.Done reserved.Done b.e rest refl refl b.key ⟫ given_here) ⟫
            given_here;
        is = for_shape n.value d.value b.value name words body n.shape d.shape b.shape;
      }
