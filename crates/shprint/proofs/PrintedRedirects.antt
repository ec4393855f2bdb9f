-- Redirections and their here-documents: what is printed for one is read as that redirection, and its
-- document waits after it.
use Rattle.std.proofs.Common.{◌≡◌, ℕ, ◌+◌, ◌-◌, ◌<◌, ◌≤◌, ◌==◌, Bool, true, false, not, ◌&&◌, ◌||◌, List, List as Row, [], ◌∷◌, ◌++◌, length, drop, take, codes, if◌then◌else◌, Option, Some, None, option_map, slice_get, refl, sym, ap, subst, ◌∙◌, arith, append_assoc, map}
use Rattle.std.proofs.lemmas.List.{map-append}
use Rattle.shgrammar.specs.declared.edition.Edition.{Edition}
use Rattle.shgrammar.specs.declared.token.Next.{Next}
use Rattle.shgrammar.specs.declared.token.Position.{Position}
use Rattle.shgrammar.specs.declared.token.Position.TheVariants.{Suffix}
use Rattle.shgrammar.specs.declared.token.Token.TheVariants as tokens
use Rattle.shgrammar.specs.Characters.{ampersand, backslash, greater_than_sign, hyphen, less_than_sign, newline_char, space, vertical_line}
use Rattle.shgrammar.specs.Bytes.{stands, past_continuations, past_blanks}
use Rattle.shgrammar.specs.Comments.{span}
use Rattle.shgrammar.specs.Standing.{is_byte}
use Rattle.shgrammar.specs.Sights.{State, here as the_place, one_byte, the_delimiter, the_digits}
use Rattle.shgrammar.specs.Form.{raw, with_bytes, with_its_bytes, Form, ◌>>◌, by, bared, give, move, leads_on, again}
use Rattle.shgrammar.specs.Words.{a_word}
use Rattle.shgrammar.specs.Levels.{level}
use Rattle.shast.specs.Nodes.{word_span}
use Rattle.shgrammar.specs.Commands.{a_document, open_document, is_strip, pick, after_word, begins_redirect, is_number_token, redirect_operator_of, is_long, a_number, an_operator, operator_by, a_target, one_redirect, items_so_far, is_word}
use Rattle.shgrammar.proofs.Places.{blanks_low}
use Rattle.shgrammar.specs.HereDocuments.{delimiter_of}
use Rattle.shast.specs.Opened.{here_bodies, item_bodies, item_content_bodies, open_here, open_item, open_item_content}
use Rattle.shgrammar.proofs.ItemsAnywhere.{ItemAnywhere}
use Rattle.shast.specs.declared.tree.RedirectOperator.{RedirectOperator}
use Rattle.shast.specs.declared.tree.RedirectOperator.TheVariants as redirects
use Rattle.shast.specs.declared.tree.Span.{Span}
use Rattle.shast.specs.Spelling.{redirect_text}
use Rattle.shast.specs.Shape.{shape_of_here, Text, Shape, bare, bare_at, text_at, shape_of_item, shape_of_word}
use Rattle.shast.specs.Tree.{AHere, AHereOf, AnItemOf, AnItem, AWord, item, redirect, SubstsOf, word}
use Rattle.shprint.specs.declared.layout.Layout.{Layout}
use Rattle.shprint.specs.Marks.{text, Marks, laid_after, one}
use Rattle.shprint.specs.Printed.{delimiter_line, print_here, print_number, duplicates, would_lengthen, print_item}
use Rattle.shprint.proofs.Tokens.{IsWhole, ByteRead, is_here, first_stands, byte_here, start_here, text_here, Gap, Start, blank_gap, no_gap, NoLonger, space_no_longer, word_no_longer, redirect_token, NumberHere, number_token, angle_first, angle_clear, angle_no_blank, RedirectThere, delimiter_stays}
use Rattle.shprint.proofs.Digits.{bare_of_digits}
use Rattle.shprint.proofs.Gives.{Gives, gives, told_here, ◌⟫◌, given_here, seen_here, moved_here, pushed_here, first_of, second_of}
use Rattle.shprint.proofs.Held.{At, Document, Followed, Held, StandsIn, bytes_more, g, held_bytes, lay, one_waits, state, with_document, text_of_span}
use Rattle.shprint.proofs.Good.{GoodHere, GoodNumber, GoodRedirect, a_redirect_of}
use Rattle.shprint.proofs.PrintedText.{laid_text, AddsBodies, at_text, leads, edition_token, edition_next, edition_next_after, edition_same, next_read, some_word, byte_moved, byte_after, printed_word}

module _ {edition : Edition} {B T : List ℕ} {o : ℕ} (S : StandsIn edition B T o) (room : ℕ) where
  -- ---- operators

  -- operators of one byte, of two, and each with its bytes
  one_byte_moves : (h : Held) (p c : ℕ) (xs : Text) → (c == backslash) ≡ false → drop p T ≡ c ∷ xs →
      Gives (g S) (move one_byte >> give {X = Unit {0}} tt >> give {X = Unit {0}} tt) (state h p) tt (state h (p + 1))
  one_byte_moves h p c xs clear at = byte_moved S h p c xs clear at ⟫ given_here ⟫ given_here

  two_bytes_move : (h : Held) (p c d : ℕ) (xs : Text) → (c == backslash) ≡ false → (d == backslash) ≡ false →
      drop p T ≡ c ∷ d ∷ xs
      → Gives (g S) (move one_byte >> move one_byte >> give {X = Unit {0}} tt) (state h p) tt (state h (p + 2))
  two_bytes_move h p c d xs clear clear_too at =
      let two : p + 1 + 1 ≡ p + 2 = omega arith in
      subst (λ q. Gives (g S) (move one_byte >> move one_byte >> give {X = Unit {0}} tt) (state h p) tt (state h q)) two
      (byte_moved S h p c (d ∷ xs) clear at ⟫ byte_moved S h (p + 1) d xs clear_too
      (byte_after S p c d xs at) ⟫ given_here)

  operator_moves : (h : Held) (k : RedirectOperator) (p : ℕ) (xs : Text) → drop p T ≡ redirect_text k ++ xs
      → Gives (g S) (move one_byte >> pick (is_long k) (move one_byte) (give tt) >> pick (is_strip k) (move one_byte)
      (give tt)) (state h p) tt (state h (p + length (redirect_text k)))
  operator_moves h redirects.Input p xs at = one_byte_moves h p less_than_sign xs refl at
  operator_moves h redirects.Output p xs at = one_byte_moves h p greater_than_sign xs refl at
  operator_moves h redirects.Here p xs at = two_bytes_move h p less_than_sign less_than_sign xs refl refl at
  operator_moves h redirects.Append p xs at = two_bytes_move h p greater_than_sign greater_than_sign xs refl refl at
  operator_moves h redirects.DuplicateInput p xs at = two_bytes_move h p less_than_sign ampersand xs refl refl at
  operator_moves h redirects.DuplicateOutput p xs at = two_bytes_move h p greater_than_sign ampersand xs refl refl at
  operator_moves h redirects.ReadWrite p xs at = two_bytes_move h p less_than_sign greater_than_sign xs refl refl at
  operator_moves h redirects.HereStripped p xs at =
      let three : p + 1 + 1 + 1 ≡ p + 3 = omega arith in
      let there = byte_after S p less_than_sign less_than_sign (hyphen ∷ xs) at in
      subst (λ q. Gives (g S) (move one_byte >> move one_byte >> move one_byte) (state h p) tt (state h q)) three
      (byte_moved S h p less_than_sign (less_than_sign ∷ hyphen ∷ xs) refl at ⟫
      byte_moved S h (p + 1) less_than_sign (hyphen ∷ xs) refl there ⟫ byte_moved S h
      (p + 1 + 1) hyphen xs refl (byte_after S (p + 1) less_than_sign hyphen xs there))
  operator_moves h redirects.Clobber p xs at = two_bytes_move h p greater_than_sign vertical_line xs refl refl at

  -- ---- the number before an operator

  -- the number before an operator, or none
  record NumberRead (h : Held) (number : Option Text) (k : RedirectOperator) (n : Next) (p : ℕ)
      (ms : Marks) : Type 0 where
    value : Option Span
    next : Next
    q : ℕ
    reads : Gives (g S) (a_number n) (state h p) (value, next) (state h q)
    token_is : next.token ≡ tokens.Redirect k
    at : At S h q (text (redirect_text k) ∷ ms)
    low : p ≤ q
    shape : option_map (bare_at B) value ≡ number

  module _ (k : RedirectOperator) (ms : Marks) (is_whole : (h : Held) (q : ℕ) → At S h q ms → IsWhole k T q)
      (longer : (h : Held) (q : ℕ) → At S h q ms → NoLonger T q) where
    -- it is told as that operator, where its word stands after it
    operator_there : (h : Held) (position : Position) (p : ℕ) → At S h p (text (redirect_text k) ∷ ms) →
        edition_token S position p ≡ tokens.Redirect k
    operator_there h position p at =
        edition_same S (redirect_token position k T p (lay h ms)
        (is_whole h (p + length (redirect_text k)) (at_text S h p (redirect_text k) ms at))
        (longer h (p + length (redirect_text k)) (at_text S h p (redirect_text k) ms at))
        (at ∙ laid_text h (redirect_text k) ms))

    -- the digits of a number, and what stands after them
    number_there : (h : Held) (position : Position) (d : ℕ) (ds : Text) (p : ℕ) → GoodNumber (Some (d ∷ ds)) →
        At S h p (text (d ∷ ds) ∷ text (redirect_text k) ∷ ms) → NumberHere position T p (d ∷ ds)
    number_there h position d ds p digits at =
        let a = angle_first k in
        number_token position T p a.0 d ds (a.1 ++ lay h ms) digits a.3
        (at ∙ laid_text h (d ∷ ds) (text (redirect_text k) ∷ ms)
        ∙ ap (λ z. (d ∷ ds) ++ z) (laid_text h (redirect_text k) ms ∙ ap (λ z. z ++ lay h ms) a.2))

    -- a token may begin there
    operator_start : (h : Held) (p : ℕ) → At S h p (text (redirect_text k) ∷ ms) → Start T p
    operator_start h p at =
        let a = angle_first k in
        start_here (byte_here T p a.0 (a.1 ++ lay h ms) (angle_clear a.0 a.3)
        (at ∙ laid_text h (redirect_text k) ms ∙ ap (λ z. z ++ lay h ms) a.2)) (angle_no_blank a.0 a.3)

    -- a number is read, up to its operator
    digits_read : (h : Held) (position : Position) (d : ℕ) (ds : Text) (n : Next) (p : ℕ) →
        GoodNumber (Some (d ∷ ds)) → n.token ≡ edition_token S position p →
        At S h p (text (d ∷ ds) ∷ text (redirect_text k) ∷ ms) → NumberRead h (Some (d ∷ ds)) k n p ms
    unfolding a_number
    digits_read h position d ds n p digits token_is at =
        let number = number_there h position d ds p digits at in
        let q = p + length (d ∷ ds) in
        let at_q = at_text S h p (d ∷ ds) (text (redirect_text k) ∷ ms) at in
        let gap = no_gap (operator_start h q at_q) in
        let moved : Gives (g S) (move the_digits) (state h p) tt (state h q) =
        subst (λ r. Gives (g S) (move the_digits) (state h p) tt (state h r)) number.past_it
        (moved_here the_digits) in
        let read : Gives (g S) (a_number n) (state h p) (Some (span o p q), edition_next S Suffix q)
        (state h (past_blanks T q)) =
        first_of _ _ (ap is_number_token (token_is ∙ edition_same S number.token))
        (told_here bared moved ⟫ next_read S h Suffix q ⟫ given_here) in
        record {
          value = Some (span o p q);
          next = edition_next S Suffix q;
          q = q;
          reads = subst (λ r. Gives (g S) (a_number n) (state h p) (Some (span o p q), edition_next S Suffix q)
              (state h r))
              gap.blanks read;
          token_is = ap (λ (n : Next). n.token) (edition_next_after S Suffix gap) ∙ operator_there h Suffix q at_q;
          at = at_q;
          low = omega arith;
          shape = ap (λ t. Some (bare t))
              (text_of_span S p (d ∷ ds) _ (at ∙ laid_text h (d ∷ ds) (text (redirect_text k) ∷ ms)))
              ∙ ap Some (bare_of_digits (d ∷ ds) digits);
        }

    -- the number of a redirection is read, or that there is none, up to the operator
    number_read : (h : Held) (position : Position) (number : Option Text) (n : Next) (p : ℕ) → GoodNumber number →
        n.token ≡ edition_token S position p → At S h p (print_number number ++ (text (redirect_text k) ∷ ms)) →
        NumberRead h number k n p ms
    unfolding a_number
    number_read h position None n p digits token_is at =
        let is = token_is ∙ operator_there h position p at in
        record {
          value = None;
          next = n;
          q = p;
          reads = second_of _ _ (ap is_number_token is) given_here;
          token_is = is;
          at = at;
          low = omega arith;
          shape = refl;
        }
    number_read h position (Some []) n p digits token_is at = absurd digits
    number_read h position (Some (d ∷ ds)) n p digits token_is at =
        digits_read h position d ds n p digits token_is at

    -- the token with which a redirection begins
    redirect_begins : (h : Held) (position : Position) (number : Option Text) (p : ℕ) → GoodNumber number →
        At S h p (print_number number ++ (text (redirect_text k) ∷ ms)) → RedirectThere edition position T p
    redirect_begins h position None p digits at =
        let is = operator_there h position p at in
        record { start = operator_start h p at; redirect = ap begins_redirect is; no_word = ap after_word is }
    redirect_begins h position (Some []) p digits at = absurd digits
    redirect_begins h position (Some (d ∷ ds)) p digits at =
        let number = number_there h position d ds p digits at in
        record {
          start = number.start;
          redirect = ap begins_redirect (edition_same S number.token);
          no_word = ap after_word (edition_same S number.token);
        }

  -- ---- the word after an operator

  -- the word of a redirection, after its operator
  record TargetThere (h : Held) (k : RedirectOperator) (e : ℕ) (t : Text) (rest : Marks) : Type 0 where
    f : ℕ
    at : At S h f (text t ∷ rest)
    gap : Gap T e f false
    no_longer : NoLonger T e
    is_whole : IsWhole k T e

  -- a byte after an operator makes no longer one of it: after `<<` one that is not `-`
  whole_before_byte : (k : RedirectOperator) (e c : ℕ) (cs : Text) → ByteRead T e c cs → (c == hyphen) ≡ false →
      IsWhole k T e
  whole_before_byte redirects.Here e c cs r other = is_here hyphen r ∙ other
  whole_before_byte redirects.Input e c cs r other = tt
  whole_before_byte redirects.Output e c cs r other = tt
  whole_before_byte redirects.Append e c cs r other = tt
  whole_before_byte redirects.DuplicateInput e c cs r other = tt
  whole_before_byte redirects.DuplicateOutput e c cs r other = tt
  whole_before_byte redirects.ReadWrite e c cs r other = tt
  whole_before_byte redirects.HereStripped e c cs r other = tt
  whole_before_byte redirects.Clobber e c cs r other = tt

  -- nor does a word that does not lengthen the operator
  whole_before_word : (k : RedirectOperator) (e : ℕ) (t zs : Text) → drop e T ≡ t ++ zs → 0 < length t →
      past_continuations T e ≡ e → would_lengthen k t ≡ false → IsWhole k T e
  unfolding stands
  whole_before_word redirects.Here e [] zs at some place other = absurd (omega (arith, some))
  whole_before_word redirects.Here e (c ∷ cs) zs at some place other = ap (λ q. is_byte (slice_get T q) hyphen) place
      ∙ ap (λ x. is_byte x hyphen) (first_stands T e c (cs ++ zs) at) ∙ other
  whole_before_word redirects.Input e t zs at some place other = tt
  whole_before_word redirects.Output e t zs at some place other = tt
  whole_before_word redirects.Append e t zs at some place other = tt
  whole_before_word redirects.DuplicateInput e t zs at some place other = tt
  whole_before_word redirects.DuplicateOutput e t zs at some place other = tt
  whole_before_word redirects.ReadWrite e t zs at some place other = tt
  whole_before_word redirects.HereStripped e t zs at some place other = tt
  whole_before_word redirects.Clobber e t zs at some place other = tt

  -- the word stands after its space, or at once where that makes no longer operator
  target_there : (h : Held) (k : RedirectOperator) (spaced : Bool) (e : ℕ) (t : Text) (ss : Shape SubstsOf)
      (rest : Marks) → (spaced ≡ false → would_lengthen k t ≡ false) → ItemAnywhere edition room Suffix tokens.Word t ss
      → Followed rest
      → At S h e ((if spaced then one (codes " ") else []) ++ (text t ∷ rest)) → TargetThere h k e t rest
  target_there h k true e t ss rest not_lengthened good follow at =
      let there = at ∙ laid_text h (codes " ") (text t ∷ rest) in
      let at_after = at_text S h e (codes " ") (text t ∷ rest) at in
      let found = good.there (g S) (e + 1) (lay h rest) (at_after ∙ laid_text h t rest)
      (follow (held_bytes h.waiting)) in
      record {
        f = e + 1;
        at = at_after;
        gap = blank_gap refl there (no_gap (record { place = found.place; no_blank = found.no_blank }));
        no_longer = space_no_longer T e (lay h (text t ∷ rest)) there;
        is_whole = whole_before_byte k e space (lay h (text t ∷ rest))
            (byte_here T e space (lay h (text t ∷ rest)) refl there) refl;
      }
  target_there h k false e t ss rest not_lengthened good follow at =
      let found = good.there (g S) e (lay h rest) (at ∙ laid_text h t rest) (follow (held_bytes h.waiting)) in
      record {
        f = e;
        at = at;
        gap = no_gap (record { place = found.place; no_blank = found.no_blank });
        no_longer = word_no_longer T e found.token_is;
        is_whole = whole_before_word k e t (lay h rest) (at ∙ laid_text h t rest) good.some found.place
            (not_lengthened refl);
      }

  -- ---- the here-document

  -- what waits after a redirection, and where it stands then
  record DocumentRead (h : Held) (k : RedirectOperator) (b p : ℕ) (t : Text) (f : ℕ) (doc : Option (AHereOf Text))
      (rest : Marks) : Type 0 where
    value : Option AHere
    later : Held
    at : At S later f rest
    reads : Gives (g S) (a_document k b p t) (state h f) value (state later f)
    shape : option_map (shape_of_here B) value ≡ open_here [] doc
    texts : AddsBodies S h later (here_bodies doc)

  -- a document waits after its redirection
  document_read : (h : Held) (k : RedirectOperator) (b p : ℕ) (t : Text) (f : ℕ) (ss : Shape SubstsOf)
      (doc : Option (AHereOf Text)) (rest : Marks) → GoodHere edition k t doc →
      At S h f (print_here (word t ss) doc ++ rest)
      → DocumentRead h k b p t f doc rest
  unfolding a_document laid_after
  document_read h k b p t f ss None rest none at = record {
    value = None;
    later = h;
    at = at;
    reads = second_of _ _ none given_here;
    shape = refl;
    texts = λ ts. refl;
  }
  document_read h k b p t f ss (Some d) rest good at =
      let x : Document = record { b = b; strip = is_strip k; d = good.d; bytes = d.body; good = good.reads } in
      let line : delimiter_line (delimiter_of t) ≡ good.d.text ++ newline_char ∷ [] =
      ap delimiter_line (delimiter_stays edition t good.d good.delimits) in
      let bytes : held_bytes h.waiting ++ (d.body ++ delimiter_line (delimiter_of t))
      ≡ held_bytes (h.waiting ++ x ∷ []) = ap (λ r. held_bytes h.waiting ++ (d.body ++ r)) line
      ∙ sym (bytes_more h.waiting x) in
      let M = map (text_at B) h.bodies in
      let W = map (λ (x : Document). x.bytes) h.waiting in
      let bodies : map (λ (x : Document). x.bytes) (h.waiting ++ x ∷ []) ≡ W ++ d.body ∷ [] =
      map-append (λ (x : Document). x.bytes) h.waiting (x ∷ []) in
      record {
        value = Some (open_document (is_strip k) good.d);
        later = with_document h x;
        at = at ∙ ap (λ held. laid_after held rest) bytes;
        reads = first_of _ _ good.takes
            (seen_here (the_delimiter t) ⟫ rw good.delimits (one_waits h x f ⟫ given_here));
        shape = rw (good.literal, good.strip) refl;
        texts = λ ts. ap (λ r. (M ++ r) ++ ts) bodies ∙ ap (λ r. r ++ ts) (sym (append_assoc M W (d.body ∷ [])))
            ∙ append_assoc (M ++ W) (d.body ∷ []) ts;
      }

  -- a word with its bytes
  bytes_here : {X : Type 0} {r : Form X} {s u : State} {x : X} → Gives (g S) r s x u →
      Gives (g S) (with_bytes r) s (x, raw T s.at u.at) u
  bytes_here one = gives _ (with_its_bytes one.reads)

  -- what is read of a redirection, and where it ends
  pub record RedirectRead (h : Held) (broken : Bool) (acc : Row AnItem) (next : Position) (n : Next) (p : ℕ)
      (i : Shape AnItemOf) (rest : Marks) : Type 0 where
    pub it : AnItem
    pub «end» : ℕ
    pub later : Held
    pub at : At S later «end» rest
    pub reads : Gives (g S) (one_redirect (level room) broken next acc n) (state h p)
        (again (items_so_far (acc ++ it ∷ []) next (edition_next S next «end»))) (state later (past_blanks T «end»))
    pub on : leads_on (g S) (state h p) (state later (past_blanks T «end»)) ≡ true
    pub is : shape_of_item B it ≡ open_item [] i
    pub texts : AddsBodies S h later (item_bodies i)

  -- ---- one redirection

  module _ (y : Layout) (number : Option Text) (k : RedirectOperator) (t : Text) (ss : Shape SubstsOf)
      (doc : Option (AHereOf Text)) (good : GoodRedirect edition room number k t ss doc) (rest : Marks)
      (follow : Followed rest) where
    -- whether a space stands between operator and word
    abbrev spaced : Bool
    spaced = (y.space_redirects && not (duplicates k)) || would_lengthen k t

    -- what stands after the word
    abbrev after_word_marks : Marks
    after_word_marks = print_here (word t ss) doc ++ rest

    -- what stands after the operator
    abbrev after_operator : Marks
    after_operator = (if spaced then one (codes " ") else []) ++ (text t ∷ after_word_marks)

    -- what stands after the word may follow it
    document_follows : (doc : Option (AHereOf Text)) → Followed (print_here (word t ss) doc ++ rest)
    unfolding laid_after
    document_follows None held = follow held
    document_follows (Some d) held = follow (held ++ (d.body ++ delimiter_line (delimiter_of t)))

    -- what is printed of a redirection, by its parts
    redirect_printed : (b : Bool) →
        print_item y (a_redirect_of b number k t ss doc) ++ rest ≡ print_number number
        ++ (text (redirect_text k) ∷ after_operator)
    redirect_printed b =
        let O = text (redirect_text k) ∷ (if spaced then one (codes " ") else []) in
        let D = print_here (word t ss) doc in
        append_assoc (print_number number ++ O ++ one t) D rest
        ∙ append_assoc (print_number number ++ O) (one t) (D ++ rest)
        ∙ append_assoc (print_number number) O (text t ∷ (D ++ rest))

    -- where no space stands before the word it does not lengthen the operator
    unspaced_not_lengthened : spaced ≡ false → would_lengthen k t ≡ false
    unspaced_not_lengthened e = by_or (y.space_redirects && not (duplicates k)) (would_lengthen k t) e
      where
        by_or : (a b : Bool) → (a || b) ≡ false → b ≡ false
        by_or true b e = absurd cc
        by_or false b e = e

    -- what that says of the word, and of the operator before it
    target_at : (h : Held) (e : ℕ) → At S h e after_operator → TargetThere h k e t after_word_marks
    target_at h e at = target_there h k spaced e t ss after_word_marks unspaced_not_lengthened good.reads
        (document_follows doc) at

    no_longer_at : (h : Held) (e : ℕ) → At S h e after_operator → NoLonger T e
    no_longer_at h e at = (target_at h e at).no_longer

    whole_at : (h : Held) (e : ℕ) → At S h e after_operator → IsWhole k T e
    whole_at h e at = (target_at h e at).is_whole

    -- a redirection begins where it is printed
    pub redirect_there : (h : Held) (position : Position) (b : Bool) (p : ℕ) →
        At S h p (print_item y (a_redirect_of b number k t ss doc) ++ rest) → RedirectThere edition position T p
    redirect_there h position b p at =
        redirect_begins k after_operator whole_at no_longer_at h position number p good.digits
        (at ∙ ap (lay h) (redirect_printed b))

    -- its shape by those of its parts
    redirect_shape : (broken : Bool) (d : Option Span) (s : Span) (w : AWord) (v : Option AHere) →
        option_map (bare_at B) d ≡ number → shape_of_word B w ≡ word t ss →
        option_map (shape_of_here B) v ≡ open_here [] doc
        → shape_of_item B (item broken (redirect d k s w v)) ≡ open_item [] (a_redirect_of broken number k t ss doc)
    unfolding open_item open_item_content
    redirect_shape broken d s w v digits is waits = rw (digits, is, waits) refl

    -- the operator is read after its number
    operator_read : (h : Held) (n : Next) (p : ℕ) (d : NumberRead h number k n p after_operator) →
        Gives (g S) (operator_by (o + p) (redirect_operator_of d.next.token)) (state h d.q)
        (k, span o d.q (d.q + length (redirect_text k))) (state h (d.q + length (redirect_text k)))
    unfolding an_operator
    operator_read h n p d =
        let moves = operator_moves h k d.q (lay h after_operator)
        (d.at ∙ laid_text h (redirect_text k) after_operator) in
        rw d.token_is (told_here (by (redirect_text k)) moves ⟫ given_here)

    -- what is read of the word with its bytes, after the operator
    record TargetRead (h : Held) (e : ℕ) : Type 0 where
      value : AWord
      f : ℕ
      at : At S h f after_word_marks
      reads : Gives (g S) (a_target (level room)) (state h e) (value, t) (state h f)
      low : e < f
      within : e < length T
      shape : shape_of_word B value ≡ word t ss

    -- the bytes of a word where it stands are its text
    word_bytes : (h : Held) (q : ℕ) (rest : Marks) → At S h q (text t ∷ rest) → raw T q (q + length t) ≡ t
    word_bytes h q rest at =
        let size : q + length t - q ≡ length t = omega arith in
        ap (λ n. take n (drop q T)) size ∙ text_here T q t (lay h rest) (at ∙ laid_text h t rest)

    -- the word is read with its bytes, after a space or at once
    target_read : (h : Held) (e : ℕ) → At S h e after_operator → TargetRead h e
    unfolding a_target
    target_read h e at =
        let w = target_at h e at in
        let held = held_bytes h.waiting in
        let found = good.reads.there (g S) w.f (lay h after_word_marks) (w.at ∙ laid_text h t after_word_marks)
        (document_follows doc held) in
        let word_is : is_word (edition_next S Suffix e).token ≡ true =
        ap (λ (n : Next). is_word n.token) (edition_next_after S Suffix w.gap)
        ∙ ap is_word (edition_same S found.token_is) in
        let q = past_blanks T e in
        let at_q = subst (λ r. At S h r (text t ∷ after_word_marks)) (sym w.gap.blanks) w.at in
        let there = at_q ∙ laid_text h t after_word_marks in
        let v = (good.reads.there (g S) q (lay h after_word_marks) there (document_follows doc held)).word B
        (sym S.here) in
        let within = some_word S q t (lay h after_word_marks) good.reads.some there in
        let low = blanks_low T e in
        record {
          value = v.0;
          f = q + length t;
          at = at_text S h q t after_word_marks at_q;
          reads = next_read S h Suffix e ⟫ first_of _ _ word_is
              (subst (λ z. Gives (g S) (with_bytes (a_word (level room))) (state h q) (v.0, z)
              (state h (q + length t))) (word_bytes h q after_word_marks at_q)
              (bytes_here (printed_word S room h t ss q v)));
          low = omega (arith, good.reads.some, low);
          within = omega (arith, within, low);
          shape = v.1.1;
        }

    -- a redirection is read where it is printed, and the token after it
    pub redirect_read : (h : Held) (position : Position) (broken b : Bool) (acc : Row AnItem) (next : Position)
        (n : Next) (p : ℕ) → n.token ≡ edition_token S position p →
        At S h p (print_item y (a_redirect_of b number k t ss doc) ++ rest)
        → RedirectRead h broken acc next n p (a_redirect_of broken number k t ss doc) rest
    unfolding one_redirect item_bodies item_content_bodies
    redirect_read h position broken b acc next n p token_is at =
        let d = number_read k after_operator whole_at no_longer_at h position number n p good.digits token_is
        (at ∙ ap (lay h) (redirect_printed b)) in
        let e = d.q + length (redirect_text k) in
        let s = span o d.q e in
        let w = target_read h e (at_text S h d.q (redirect_text k) after_operator d.at) in
        let x = document_read h k s.start (word_span w.value).start t w.f ss doc rest good.document w.at in
        let it = item broken (redirect d.value k s w.value x.value) in
        let low = blanks_low T w.f in
        record {
          it = it;
          «end» = w.f;
          later = x.later;
          at = x.at;
          reads = seen_here the_place ⟫ d.reads ⟫ operator_read h n p d ⟫ w.reads ⟫ x.reads ⟫ pushed_here acc it
              ⟫ next_read S x.later next w.f ⟫ given_here;
          on = leads S h x.later p (past_blanks T w.f) (omega (arith, w.low, low, d.low))
              (omega (arith, w.within, d.low));
          is = redirect_shape broken d.value s w.value x.value d.shape w.shape x.shape;
          texts = x.texts;
        }
