-- The words that open, part and close a compound command: before what ends a word each is read as that
-- reserved word. Beside them the semicolon that may stand before one.
use Rattle.std.proofs.Common.{◌≡◌, ℕ, ◌+◌, ◌==◌, true, false, List, List as Row, [], ◌∷◌, ◌++◌, length, drop, codes, Some, refl, sym, ap, subst, ◌∙◌, arith}
use Rattle.std.proofs.lemmas.Bool.Decides.{nat_tests}
use Rattle.shgrammar.specs.declared.edition.Edition.{Edition}
use Rattle.shgrammar.specs.declared.token.Next.{Next}
use Rattle.shgrammar.specs.declared.token.Closing.{Closing}
use Rattle.shgrammar.specs.declared.token.Position.{Position}
use Rattle.shgrammar.specs.declared.token.Position.TheVariants.{Command}
use Rattle.shgrammar.specs.declared.token.Reserved.{Reserved}
use Rattle.shgrammar.specs.declared.token.Reserved.TheVariants as reserved
use Rattle.shgrammar.specs.declared.token.Token.TheVariants as tokens
use Rattle.shgrammar.specs.Characters.{backslash, newline_char, number_sign, semicolon, space}
use Rattle.shgrammar.specs.Bytes.{ends, past_byte, past_blanks}
use Rattle.shgrammar.specs.Comments.{span}
use Rattle.shgrammar.specs.Standing.{raw_stands}
use Rattle.shgrammar.specs.Tokens.{is_comment, past_reserved, token_in}
use Rattle.shgrammar.specs.Sights.{the_reserved}
use Rattle.shgrammar.specs.Form.{Spelled, Form, by, move}
use Rattle.shgrammar.specs.Levels.{level}
use Rattle.shgrammar.specs.Compounds.{a_linebreak, Closed, reserved_or_paren, closing, closing_text, is_closing, is_close_paren}
use Rattle.shgrammar.specs.Commands.{a_semicolon, is_semicolon, begins_pipeline, join_turn, join_so_far, a_join_of, is_newline_token}
use Rattle.shgrammar.proofs.ItemsAnywhere.{follows}
use Rattle.shast.specs.declared.tree.Span.{Span}
use Rattle.shast.specs.Shape.{Text}
use Rattle.shprint.specs.Marks.{text, line_end, Marks, laid_after}
use Rattle.shprint.proofs.Tokens.{in_here, then_here, elif_here, else_here, fi_here, do_here, done_here, close_brace_here, semicolon_token, ReservedWord, byte_here, start_here, all_blank, no_gap}
use Rattle.shprint.proofs.Gives.{Gives, told_here, ◌⟫◌, given_here, moved_here, first_of, second_of, last_turn}
use Rattle.shprint.proofs.Held.{At, Held, StandsIn, g, lay, state}
use Rattle.shprint.proofs.PrintedText.{laid_text, after_line, AddsBodies, at_text, edition_token, edition_next, edition_next_after, edition_same, next_read, Follower, margin_gap, last_join_turn, no_sharp, one_moved}
use Rattle.shprint.proofs.PrintedLists.{Closes}

-- ---- the end of a word

-- before what ends a word
pub record WordEnd (zs : Text) : Type 0 where
  pub x : ℕ
  pub xs : Text
  pub is : zs ≡ x ∷ xs
  pub clear : (x == backslash) ≡ false
  pub stops : ends (Some x) ≡ true

-- what may follow an item ends a word
pub follows_end : (zs : Text) → follows zs ≡ true → WordEnd zs
follows_end [] e = absurd cc
follows_end (x ∷ xs) e = record {
  x = x;
  xs = xs;
  is = refl;
  clear = grind (arith, nat_tests);
  stops = grind (arith, nat_tests);
}

-- so do these marks, whatever waits
abbrev pub Ends : Marks → Type 0
Ends ms = (h : Held) → WordEnd (lay h ms)

-- the end of a line does so, and a space
pub line_end_end : (ms : Marks) → Ends (line_end ∷ ms)
unfolding laid_after
line_end_end ms h = record { x = newline_char; xs = after_line h ms; is = refl; clear = refl; stops = refl }

pub space_end : (ms : Marks) → Ends (text (codes " ") ∷ ms)
unfolding laid_after
space_end ms h = record { x = space; xs = lay h ms; is = refl; clear = refl; stops = refl }

module _ {edition : Edition} {B T : List ℕ} {o : ℕ} (S : StandsIn edition B T o) where
  -- ---- words that open, part and close

  -- wherever this word stands before these marks it is that reserved word
  abbrev pub Key : Text → Reserved → Marks → Type 0
  Key w r ms = (h : Held) (p : ℕ) → drop p T ≡ w ++ lay h ms → ReservedWord T p w r

  -- a reserved word after a margin
  pub record ReservedRead (h : Held) (e : ℕ) (r : Reserved) (ms : Marks) : Type 0 where
    pub token_is : edition_token S Command (past_blanks T e) ≡ tokens.Reserved r
    pub not_comment : raw_stands T (past_blanks T e) number_sign ≡ false
    pub s : Span
    pub f : ℕ
    pub at : At S h f ms
    pub reads : (label : Spelled) (position : Position) →
        Gives (g S) (reserved_or_paren label false position) (state h (past_blanks T e)) (s, edition_next S position f)
        (state h (past_blanks T f))

  -- the reserved word in hand is passed, and the next token read
  pub reserved_or_paren_by : (h : Held) (label : Spelled) (position : Position) (q f : ℕ) → past_reserved T q ≡ f →
      Gives (g S) (reserved_or_paren label false position) (state h q) (span o q f, edition_next S position f)
      (state h (past_blanks T f))
  unfolding reserved_or_paren
  reserved_or_paren_by h label position q f is =
      let moved : Gives (g S) (move the_reserved) (state h q) tt (state h f) =
      subst (λ p. Gives (g S) (move the_reserved) (state h q) tt (state h p)) is (moved_here the_reserved) in
      told_here (by label) moved ⟫ next_read S h position f ⟫ given_here

  -- so is a bracket, where the next byte is read as it stands
  pub paren_alone : (h : Held) (label : Spelled) (q : ℕ) → past_byte T q ≡ q + 1 →
      Gives (g S) (reserved_or_paren label true Command) (state h q) (span o q (q + 1), edition_next S Command (q + 1))
      (state h (past_blanks T (q + 1)))
  unfolding reserved_or_paren
  paren_alone h label q is =
      let moved = one_moved S h q is in
      told_here (by label) moved ⟫ next_read S h Command (q + 1) ⟫ given_here

  -- after a margin the word is told, and read as any row asks for it
  pub reserved_read : (h : Held) (m w : Text) (r : Reserved) (e : ℕ) (ms : Marks) → all_blank m ≡ true → Key w r ms →
      At S h e (text m ∷ text w ∷ ms) → ReservedRead h e r ms
  reserved_read h m w r e ms blank key at =
      let at_after = at_text S h e m (text w ∷ ms) at in
      let k = key h (e + length m) (at_after ∙ laid_text h w ms) in
      let gap = margin_gap S h m e (text w ∷ ms) blank at k.start in
      let q = past_blanks T e in
      let at_q = subst (λ p. At S h p (text w ∷ ms)) (sym gap.blanks) at_after in
      let kq = key h q (at_q ∙ laid_text h w ms) in
      record {
        token_is = edition_same S kq.token;
        not_comment = no_sharp S q kq.start.place (ap is_comment (edition_same S kq.token));
        s = span o q (q + length w);
        f = q + length w;
        at = at_text S h q w ms at_q;
        reads = λ label position. reserved_or_paren_by h label position q (q + length w) kq.past_it;
      }

  -- it ends after its bytes
  pub reserved_f : (h : Held) (m w : Text) (r : Reserved) (e : ℕ) (ms : Marks) (blank : all_blank m ≡ true)
      (key : Key w r ms) (at : At S h e (text m ∷ text w ∷ ms)) →
      (reserved_read h m w r e ms blank key at).f ≡ past_blanks T e + length w
  unfolding reserved_read
  reserved_f h m w r e ms blank key at = refl

  -- a closing word closes
  pub reserved_closes : (m w : Text) (r : Reserved) (ms : Marks) → all_blank m ≡ true → Key w r ms →
      begins_pipeline (tokens.Reserved r) ≡ false → (h : Held) (e : ℕ) → At S h e (text m ∷ text w ∷ ms) → Closes S e
  reserved_closes m w r ms blank key none h e at =
      let k = reserved_read h m w r e ms blank key at in
      record {
        not_entry = ap begins_pipeline k.token_is ∙ none;
        not_newline = ap is_newline_token k.token_is;
        not_comment = k.not_comment;
      }

  -- before marks that end a word, by the lemma of this word in `Tokens`
  pub key_by : (w : Text) (r : Reserved) (ms : Marks) → Ends ms →
      ((p x : ℕ) (xs : List ℕ) → (x == backslash) ≡ false → ends (Some x) ≡ true → drop p T ≡ w ++ x ∷ xs →
      ReservedWord T p w r) → Key w r ms
  key_by w r ms e here h p at = let x = e h in here p x.x x.xs x.clear x.stops (at ∙ ap (λ z. w ++ z) x.is)

  -- each word that parts or closes a command
  pub then_key : (ms : Marks) → Ends ms → Key (codes "then") reserved.Then ms
  then_key ms e = key_by (codes "then") reserved.Then ms e
      (λ p x xs clear stops at. then_here T p x xs clear stops at)

  pub do_key : (ms : Marks) → Ends ms → Key (codes "do") reserved.Do ms
  do_key ms e = key_by (codes "do") reserved.Do ms e (λ p x xs clear stops at. do_here T p x xs clear stops at)

  pub done_key : (ms : Marks) → Ends ms → Key (codes "done") reserved.Done ms
  done_key ms e = key_by (codes "done") reserved.Done ms e
      (λ p x xs clear stops at. done_here T p x xs clear stops at)

  pub elif_key : (ms : Marks) → Ends ms → Key (codes "elif") reserved.Elif ms
  elif_key ms e = key_by (codes "elif") reserved.Elif ms e
      (λ p x xs clear stops at. elif_here T p x xs clear stops at)

  pub else_key : (ms : Marks) → Ends ms → Key (codes "else") reserved.Else ms
  else_key ms e = key_by (codes "else") reserved.Else ms e
      (λ p x xs clear stops at. else_here T p x xs clear stops at)

  pub fi_key : (ms : Marks) → Ends ms → Key (codes "fi") reserved.Fi ms
  fi_key ms e = key_by (codes "fi") reserved.Fi ms e (λ p x xs clear stops at. fi_here T p x xs clear stops at)

  pub in_key : (ms : Marks) → Ends ms → Key (codes "in") reserved.In ms
  in_key ms e = key_by (codes "in") reserved.In ms e (λ p x xs clear stops at. in_here T p x xs clear stops at)

  pub brace_key : (ms : Marks) → Ends ms → Key (codes "}") reserved.CloseBrace ms
  brace_key ms e = key_by (codes "}") reserved.CloseBrace ms e
      (λ p x xs clear stops at. close_brace_here T p x xs clear stops at)

  -- what is read from just after an opener up to its closer, and that
  pub record Finished (h : Held) (X : Type 0) (r : Form (Closed X)) (p : ℕ) (rest : Marks)
      (more : Row Text → Row Text) (Is : X → Type 0) : Type 0 where
    pub value : X
    pub closer : Span
    pub e : ℕ
    pub later : Held
    pub at : At S later e rest
    pub reads : Gives (g S) r (state h p) (record { what = value; closer = closer; next = edition_next S Command e })
        (state later (past_blanks T e))
    pub is : Is value
    pub texts : AddsBodies S h later more

  -- ---- semicolons, and where no line ends

  -- after a command `; ` is told as a semicolon
  pub semicolon_follower : (ms : Marks) → Follower S (text (codes "; ") ∷ ms) tokens.Semicolon
  unfolding laid_after
  semicolon_follower ms = record {
    follow = λ held. refl;
    no_round = refl;
    seen_as = λ h e at position.
        let there = at ∙ laid_text h (codes "; ") ms in
        edition_next_after S position (no_gap (start_here (byte_here T e semicolon (space ∷ lay h ms) refl there) refl))
        ∙ ap (λ t. record { token = token_in edition t; broken = false })
        (semicolon_token position T e space (lay h ms) refl refl refl there);
  }

  -- no comment, and no newline
  pub no_lines : (h : Held) (n : Next) (p : ℕ) → raw_stands T p number_sign ≡ false → is_newline_token n.token ≡ false →
      Gives (g S) (a_linebreak [] n) (state h p) (join_so_far (a_join_of false []) n) (state h p)
  unfolding a_linebreak
  no_lines h n p no_comment no_newline = last_turn join_turn (last_join_turn S h false [] n p no_comment no_newline)

  -- another token is no semicolon
  pub no_semicolon : (h : Held) (n : Next) (p : ℕ) → is_semicolon n.token ≡ false →
      Gives (g S) (a_semicolon n) (state h p) (false, n) (state h p)
  unfolding a_semicolon
  no_semicolon h n p none = second_of _ _ none given_here

module _ {edition : Edition} {B T : List ℕ} {o : ℕ} (S : StandsIn edition B T o) (room : ℕ) where
  -- ---- the word that has to stand here

  -- it is read where it is printed, and the token after it
  pub closing_read : (h : Held) (c : Closing) (r : Reserved) (e : ℕ) (ms : Marks) →
      is_closing c (tokens.Reserved r) ≡ true → is_close_paren c ≡ false → (k : ReservedRead S h e r ms)
      → Gives (g S) (closing (level room) c (edition_next S Command e)) (state h (past_blanks T e))
      (k.s, edition_next S Command k.f)
      (state h (past_blanks T k.f))
  unfolding closing
  closing_read h c r e ms closes no_paren k =
      first_of _ _ (ap (is_closing c) k.token_is ∙ closes) (rw no_paren (k.reads (closing_text c) Command))
