-- One printed text, from an offset of all that was printed on: what its marks lay down, which tokens stand in
-- it, and what is read of it between commands: newlines, comments, and what follows an operator.
use Rattle.std.proofs.Common.{◌≡◌, ℕ, zero, suc, ◌+◌, ◌<◌, ◌≤◌, ◌==◌, Bool, true, false, ◌||◌, List, List as Row, [], ◌∷◌, ◌++◌, length, drop, codes, if◌then◌else◌, Some, None, is_some, slice_get, refl, sym, ap, subst, ◌∙◌, arith, append_assoc, append-nil}
use Rattle.std.proofs.Math.ListN.{replicate}
use Rattle.std.proofs.Math.Bool.{or-true, or-false}
use Rattle.std.proofs.lemmas.Bool.{both_ways, lt-ltb, and_from, and_parts, cond_both, false_from_ne_true}
use Rattle.std.proofs.lemmas.List.{length-drop}
use Rattle.shgrammar.specs.declared.edition.Edition.{Edition}
use Rattle.shgrammar.specs.declared.token.Next.{Next}
use Rattle.shgrammar.specs.declared.token.Opener.{Opener}
use Rattle.shgrammar.specs.declared.token.Position.{Position}
use Rattle.shgrammar.specs.declared.token.Position.TheVariants.{Command}
use Rattle.shgrammar.specs.declared.token.Reserved.{Reserved}
use Rattle.shgrammar.specs.declared.token.Reserved.TheVariants as reserved
use Rattle.shgrammar.specs.declared.token.Token.{Token}
use Rattle.shgrammar.specs.declared.token.Token.TheVariants as tokens
use Rattle.shgrammar.specs.Characters.{ampersand, backslash, newline_char, number_sign, space, tab, vertical_line}
use Rattle.shgrammar.specs.Classes.{is_blank}
use Rattle.shgrammar.specs.Bytes.{past_byte, past_continuations, byte_at, past_blanks, is_broken_at}
use Rattle.shgrammar.specs.Comments.{span, comment_at}
use Rattle.shgrammar.specs.Standing.{is_byte, raw_stands}
use Rattle.shgrammar.specs.Tokens.{is_comment, token_in, token_of, token_at, next_in, next_at}
use Rattle.shgrammar.specs.Sights.{the_token, the_comment, blanks, one_byte, a_comment_on}
use Rattle.shgrammar.specs.Form.{Form, give, move, leads_on, again, done, many}
use Rattle.shgrammar.specs.Words.{a_word}
use Rattle.shgrammar.specs.Levels.{level}
use Rattle.shgrammar.proofs.WordsAnywhere.{WordOf}
use Rattle.shgrammar.proofs.WordsWaiting.{word_waiting}
use Rattle.shast.specs.Normal.{is_normal_join}
use Rattle.shgrammar.specs.Commands.{begins_pipeline, a_newline, a_comment, join_turn, join_so_far, a_join_of, a_join, begins_simple, opener_of, is_newline_token, is_bang, next_token, is_paren}
use Rattle.shgrammar.proofs.Stretches.{byte_is}
use Rattle.shgrammar.proofs.Places.{blanks_low}
use Rattle.shgrammar.proofs.ItemsAnywhere.{is_a_word}
use Rattle.shgrammar.proofs.CommentsAnywhere.{CommentAnywhere}
use Rattle.shast.specs.declared.tree.AndOrOperator.{AndOrOperator}
use Rattle.shast.specs.declared.tree.AndOrOperator.TheVariants.{And, Or}
use Rattle.shast.specs.declared.tree.Span.{Span}
use Rattle.shast.specs.Spelling.{and_or_text}
use Rattle.shast.specs.Shape.{Text, Shape, text_at, shape_of_comments, shape_of_join}
use Rattle.shast.specs.Tree.{AJoinOf, AJoin, SubstsOf, word}
use Rattle.shprint.specs.declared.layout.Layout.{Layout}
use Rattle.shprint.specs.Marks.{text, line_end, document, Marks, laid_after, one, step, deeper}
use Rattle.shprint.specs.Printed.{operand_margin, breaks_line, print_comments, print_further_comments}
use Rattle.shprint.proofs.Tokens.{pipe_token, and_token, or_token, first_stands, byte_here, newline_token, start_here, past_text_stands, Gap, Start, all_blank, blanks_gap, no_gap, next_after, word_stays}
use Rattle.shprint.proofs.Gives.{Gives, gives, ◌⟫◌, given_here, seen_here, moved_here, pushed_here, first_of, second_of, last_turn, one_turn}
use Rattle.shprint.proofs.Held.{At, Followed, Held, StandsIn, emptied, g, held_bytes, lay, state, text_of_span, texts_of}
use Rattle.shprint.proofs.Good.{GoodComments}

-- ---- marks

-- a text is laid down as it stands
pub laid_text : (h : Held) (t : Text) (ms : Marks) → lay h (text t ∷ ms) ≡ t ++ lay h ms
unfolding laid_after
laid_text h t ms = refl

-- what stands after the newline that ends a line
abbrev pub after_line : Held → Marks → Text
after_line h ms = held_bytes h.waiting ++ laid_after [] ms

-- the end of a line is a newline, and then what waits
pub laid_line : (h : Held) (ms : Marks) → lay h (line_end ∷ ms) ≡ newline_char ∷ after_line h ms
unfolding laid_after
laid_line h ms = refl

-- marks that are laid in the same way, whatever waits
abbrev pub Alike : Marks → Marks → Type 0
Alike a b = (held : Text) → laid_after held a ≡ laid_after held b

-- so are they after others
pub laid_same : (ms a b : Marks) → Alike a b → Alike (ms ++ a) (ms ++ b)
unfolding laid_after
laid_same [] a b e held = e held
laid_same (text t ∷ ms) a b e held = ap (λ z. t ++ z) (laid_same ms a b e held)
laid_same (line_end ∷ ms) a b e held = ap (λ z. newline_char ∷ held ++ z) (laid_same ms a b e [])
laid_same (document t ∷ ms) a b e held = laid_same ms a b e (held ++ t)

-- ---- margins

-- spaces are blanks, and so are blanks after blanks
all_spaces : (n : ℕ) → all_blank (replicate n space) ≡ true
all_spaces zero = refl
all_spaces (suc n) = all_spaces n

blank_join : (a b : Text) → all_blank a ≡ true → all_blank b ≡ true → all_blank (a ++ b) ≡ true
blank_join [] b one two = two
blank_join (c ∷ a) b one two = let parts = and_parts _ _ one in and_from _ _ parts.0 (blank_join a b parts.1 two)

-- a step is of blanks, and so is a margin that is one step deeper
step_blank : (y : Layout) → all_blank (step y) ≡ true
step_blank y = cond_both (y.indent == 0) (codes "\t") (replicate y.indent space) (λ t. all_blank t ≡ true) (λ e. refl)
    (λ e. all_spaces y.indent)

pub deeper_blank : (y : Layout) (m : Text) → all_blank m ≡ true → all_blank (deeper y m) ≡ true
deeper_blank y m blank = blank_join m (step y) blank (step_blank y)

-- a text by its first byte and the others
abbrev pub Some_byte : Text → Type 0
Some_byte t = (c : ℕ) × (cs : Text) × (t ≡ c ∷ cs)

-- one space or more has a byte, and so have a step and a deeper margin
some_spaces : (n : ℕ) → (n == 0) ≡ false → Some_byte (replicate n space)
some_spaces zero e = absurd cc
some_spaces (suc n) e = (space, replicate n space, refl)

step_some : (y : Layout) → Some_byte (step y)
step_some y = cond_both (y.indent == 0) (codes "\t") (replicate y.indent space) Some_byte (λ e. (tab, [], refl))
    (λ e. some_spaces y.indent e)

pub deeper_some : (y : Layout) (m : Text) → Some_byte (deeper y m)
deeper_some y [] = step_some y
deeper_some y (c ∷ m) = (c, m ++ step y, refl)

-- the margin of an operand is of blanks
pub operand_blank : (y : Layout) (m : Text) (b : Bool) → all_blank m ≡ true → all_blank (operand_margin y m b) ≡ true
operand_blank y m true blank = deeper_blank y m blank
operand_blank y m false blank = blank

-- ---- what a token is, where a command begins

-- a command begins with this token
abbrev pub begins_command : Token → Bool
begins_command t = begins_simple t || is_some (opener_of t)

-- what such a token is not
pub record NoOther (t : Token) : Type 0 where
  pub newline : is_newline_token t ≡ false
  pub comment : is_comment t ≡ false
  pub bang : is_bang t ≡ false

-- it is neither `!` nor a comment nor a newline
pub no_other : (t : Token) → begins_command t ≡ true → NoOther t
no_other tokens.End e = absurd cc
no_other tokens.Newline e = absurd cc
no_other tokens.Semicolon e = absurd cc
no_other tokens.DoubleSemicolon e = absurd cc
no_other tokens.SemicolonAmpersand e = absurd cc
no_other tokens.AndIf e = absurd cc
no_other tokens.Ampersand e = absurd cc
no_other tokens.OrIf e = absurd cc
no_other tokens.Pipe e = absurd cc
no_other tokens.OpenParen e = record { newline = refl; comment = refl; bang = refl }
no_other tokens.CloseParen e = absurd cc
no_other (tokens.Redirect k) e = record { newline = refl; comment = refl; bang = refl }
no_other tokens.Comment e = absurd cc
no_other tokens.Number e = record { newline = refl; comment = refl; bang = refl }
no_other (tokens.Reserved r) e = record { newline = refl; comment = refl; bang = no_bang r e }
  where
    -- a reserved word that begins a command is not `!`
    no_bang : (r : Reserved) → begins_command (tokens.Reserved r) ≡ true → is_bang (tokens.Reserved r) ≡ false
    no_bang reserved.Bang e = absurd cc
    no_bang reserved.OpenBrace e = refl
    no_bang reserved.CloseBrace e = refl
    no_bang reserved.Case e = refl
    no_bang reserved.Do e = refl
    no_bang reserved.Done e = refl
    no_bang reserved.Elif e = refl
    no_bang reserved.Else e = refl
    no_bang reserved.Esac e = refl
    no_bang reserved.Fi e = refl
    no_bang reserved.For e = refl
    no_bang reserved.If e = refl
    no_bang reserved.In e = refl
    no_bang reserved.Then e = refl
    no_bang reserved.Until e = refl
    no_bang reserved.While e = refl
no_other tokens.Assignment e = record { newline = refl; comment = refl; bang = refl }
no_other tokens.Word e = record { newline = refl; comment = refl; bang = refl }

-- ---- joins and operators

-- what stands after an operator
abbrev pub join_rest : Layout → Text → AJoinOf Text → Marks
join_rest y m j = if breaks_line j
    then print_comments (deeper y m) j.comments ++ (line_end ∷ text (deeper y m) ∷ []) else one (codes " ")

-- a byte after an operator that makes no longer one of it
pub record Parted (t : Text) : Type 0 where
  pub c : ℕ
  pub cs : Text
  pub is : t ≡ c ∷ cs
  pub no_backslash : (c == backslash) ≡ false
  pub no_bar : (c == vertical_line) ≡ false
  pub no_ampersand : (c == ampersand) ≡ false

-- what stands after the operator of a join makes no longer operator of it
pub join_parted : (h : Held) (y : Layout) (m : Text) (broken : Bool) (cs : Row Text) (ms : Marks) →
    Parted (lay h (join_rest y m (record { broken = broken; comments = cs }) ++ ms))
unfolding laid_after
join_parted h y m false [] ms =
    record { c = space; cs = lay h ms; is = refl; no_backslash = refl; no_bar = refl; no_ampersand = refl }
join_parted h y m true [] ms =
    record { c = newline_char; cs = _; is = refl; no_backslash = refl; no_bar = refl; no_ampersand = refl }
join_parted h y m false (c ∷ cs) ms =
    record { c = space; cs = _; is = refl; no_backslash = refl; no_bar = refl; no_ampersand = refl }
join_parted h y m true (c ∷ cs) ms =
    record { c = space; cs = _; is = refl; no_backslash = refl; no_bar = refl; no_ampersand = refl }

-- the token of an operator between pipelines
abbrev pub operator_token : AndOrOperator → Token
operator_token And = tokens.AndIf
operator_token Or = tokens.OrIf

-- no document stands in a row
abbrev pub no_more : Row Text → Row Text
no_more ts = ts

module _ {edition : Edition} {B T : List ℕ} {o : ℕ} (S : StandsIn edition B T o) where
  -- ---- one text, from the offset o of the printed text on

  -- the bodies of all documents after a row, read or not, are those before it, and then these
  abbrev pub AddsBodies : Held → Held → (Row Text → Row Text) → Type 0
  AddsBodies h later more = (ts : Row Text) → texts_of S later ++ ts ≡ texts_of S h ++ more ts

  -- after a text that stands here the other marks stand
  pub at_text : (h : Held) (p : ℕ) (t : Text) (ms : Marks) → At S h p (text t ∷ ms) → At S h (p + length t) ms
  at_text h p t ms at = past_text_stands T p t (lay h ms) (at ∙ laid_text h t ms)

  -- something stands at p
  pub some_here : (p c : ℕ) (xs : List ℕ) → drop p T ≡ c ∷ xs → p < length T
  some_here p c xs at = let e = ap length at in omega (arith, e, length-drop p T)

  -- a row that leads on, whatever waits before it and after it
  pub leads : (h later : Held) (p q : ℕ) → p < q → p < length T → leads_on (g S) (state h p) (state later q) ≡ true
  leads h later p q on within = lt-ltb _ _ (omega (arith, on, within))

  -- the token at p, and the next one from e on, as the edition has them
  abbrev pub edition_token : Position → ℕ → Token
  edition_token position p = token_in edition (token_at position T p)

  abbrev pub edition_next : Position → ℕ → Next
  edition_next position e = next_in edition (next_at position T e)

  -- it is told after a gap
  pub edition_next_after : {e q : ℕ} {broken : Bool} (position : Position) → Gap T e q broken →
      edition_next position e ≡ record { token = edition_token position q; broken = broken }
  edition_next_after position gap = ap (next_in edition) (next_after position gap)

  -- the edition makes the same of equal tokens, and leaves a word as it is
  pub edition_same : {s t : Token} → s ≡ t → token_in edition s ≡ token_in edition t
  edition_same e = ap (token_in edition) e

  pub edition_word : {s t : Token} → is_a_word t ≡ true → s ≡ t → token_in edition s ≡ t
  edition_word {t = t} is e = edition_same e ∙ word_stays edition t is

  -- the next token, asked for at e
  pub next_read : (h : Held) (position : Position) (e : ℕ) →
      Gives (g S) (next_token position) (state h e) (edition_next position e) (state h (past_blanks T e))
  unfolding next_token
  next_read h position e = seen_here (the_token position) ⟫ moved_here blanks ⟫ given_here

  -- a word that stands here stands in the text
  pub some_word : (p : ℕ) (w zs : Text) → 0 < length w → drop p T ≡ w ++ zs → p < length T
  some_word p [] zs some at = absurd (omega (arith, some))
  some_word p (c ∷ w) zs some at = some_here p c (w ++ zs) at

  -- one byte is passed, where the next place is the one after it
  pub one_moved : (h : Held) (p : ℕ) → past_byte T p ≡ p + 1 →
      Gives (g S) (move one_byte) (state h p) tt (state h (p + 1))
  one_moved h p on = subst (λ q. Gives (g S) (move one_byte) (state h p) tt (state h q)) on (moved_here one_byte)

  -- a word that is printed here is read, up to its end
  pub printed_word : (room : ℕ) (h : Held) (w : Text) (ss : Shape SubstsOf) (p : ℕ)
      (v : WordOf room (g S) p (length w) B (word w ss)) →
      Gives (g S) (a_word (level room)) (state h p) v.0 (state h (p + length w))
  printed_word room h w ss p v = gives _ (word_waiting room (g S) p (p + length w) v.0 _ (state h p) v.1.0)

  -- one byte that is read as it stands is passed
  pub byte_moved : (h : Held) (p c : ℕ) (xs : Text) → (c == backslash) ≡ false → drop p T ≡ c ∷ xs →
      Gives (g S) (move one_byte) (state h p) tt (state h (p + 1))
  byte_moved h p c xs clear at = one_moved h p (byte_here T p c xs clear at).place_after

  -- of two bytes that stand here the second stands one place on
  pub byte_after : (p c d : ℕ) (xs : Text) → drop p T ≡ c ∷ d ∷ xs → drop (p + 1) T ≡ d ∷ xs
  byte_after p c d xs at = past_text_stands T p (c ∷ []) (d ∷ xs) at

  -- A token that begins no item stands after e, whatever was asked for.
  pub record NoItemAfter (e : ℕ) : Type 0 where
    pub token : Token
    pub seen_as : (position : Position) → edition_next position e ≡ record { token = token; broken = false }
    pub no_item : begins_simple token ≡ false
    pub no_round : is_paren token ≡ false

  -- a row of the grammar that reads something and hands on the next token: what is
  -- read, where it ends, and with which bodies
  pub record RowRead (h : Held) {X : Type 0} (r : Form (X × Next)) (p : ℕ) (rest : Marks) (more : Row Text → Row Text)
      (Is : X → Type 0) : Type 0 where
    pub value : X
    pub «end» : ℕ
    pub later : Held
    pub at : At S later «end» rest
    pub texts : AddsBodies h later more
    pub reads : Gives (g S) r (state h p) (value, edition_next Command «end») (state later (past_blanks T «end»))
    pub is : Is value

  -- What follows begins with this token, whatever is asked for, with no continuation before it.
  pub record Follower (rest : Marks) (t : Token) : Type 0 where
    pub follow : Followed rest
    pub no_round : is_paren t ≡ false
    pub seen_as : (h : Held) (e : ℕ) → At S h e rest → (position : Position) →
        edition_next position e ≡ record { token = t; broken = false }

  -- what a compound command opens with
  pub record Opens (p : ℕ) (opener_is : Opener) : Type 0 where
    pub start : Start T p
    pub no_item : begins_simple (edition_token Command p) ≡ false
    pub opener : opener_of (edition_token Command p) ≡ Some opener_is

  -- ---- comments and newlines

  -- another byte stands here than this one
  pub no_byte : (p c : ℕ) (xs : List ℕ) (x : ℕ) → (c == x) ≡ false → drop p T ≡ c ∷ xs → raw_stands T p x ≡ false
  unfolding raw_stands
  no_byte p c xs x e at = ap (λ b. is_byte b x) (first_stands T p c xs at) ∙ e

  -- after e the line ends
  pub newline_next : (h : Held) (position : Position) (e : ℕ) (ms : Marks) → At S h e (line_end ∷ ms) →
      (edition_next position e ≡ record { token = tokens.Newline; broken = false }) × (past_blanks T e ≡ e)
  newline_next h position e ms at =
      let there = at ∙ laid_line h ms in
      let gap = no_gap (start_here (byte_here T e newline_char (after_line h ms) refl there) refl) in (
        edition_next_after position gap ∙ ap (λ t. record { token = token_in edition t; broken = false })
            (newline_token position T e (after_line h ms) there),
        gap.blanks,
      )

  -- what is read of a newline and the bodies after it, up to the next token: no document is added
  pub record NewlineRead (h : Held) (n : Next) (p : ℕ) (ms : Marks) : Type 0 where
    pub later : Held
    pub q : ℕ
    pub on : p + 1 ≤ q
    pub at : At S later q ms
    pub reads : Gives (g S) (a_newline n) (state h p) (true, edition_next Command q) (state later (past_blanks T q))
    pub texts : AddsBodies h later no_more

  -- a newline is read with the bodies that wait for it
  pub newline_read : (h : Held) (n : Next) (p : ℕ) (ms : Marks) → is_newline_token n.token ≡ true →
      At S h p (line_end ∷ ms) → NewlineRead h n p ms
  unfolding a_newline
  newline_read h n p ms is at =
      let line = emptied S h p ms at in
      let moved = one_moved h p (byte_here T p newline_char (after_line h ms) refl (at ∙ laid_line h ms)).place_after in
      record {
        later = line.later;
        q = line.q;
        on = line.on;
        at = line.at;
        reads = first_of _ _ is (moved ⟫ line.reads ⟫ next_read line.later Command line.q ⟫ given_here);
        texts = λ ts. ap (λ r. r ++ ts) line.texts;
      }

  -- none is read of another token
  pub no_newline_read : (h : Held) (n : Next) (p : ℕ) → is_newline_token n.token ≡ false →
      Gives (g S) (a_newline n) (state h p) (false, n) (state h p)
  unfolding a_newline
  no_newline_read h n p is = second_of _ _ is given_here

  -- no comment is read where no number sign stands
  pub no_comment_read : (h : Held) (n : Next) (p : ℕ) → raw_stands T p number_sign ≡ false →
      Gives (g S) (a_comment n) (state h p) (None, n) (state h p)
  unfolding a_comment comment_at
  no_comment_read h n p none = seen_here the_comment ⟫ (rw none given_here)

  -- a comment is read, up to the end of its line
  pub comment_read : (h : Held) (c : Text) (n : Next) (p : ℕ) (ms : Marks) → CommentAnywhere c →
      At S h p (text c ∷ line_end ∷ ms)
      → Gives (g S) (a_comment n) (state h p) (Some (span o p (p + length c)), edition_next Command (p + length c))
      (state h (past_blanks T (p + length c)))
  unfolding a_comment
  comment_read h c n p ms good at =
      let found = good.there T o p (after_line h ms)
      (at ∙ laid_text h c (line_end ∷ ms) ∙ ap (λ z. c ++ z) (laid_line h ms)) in
      let moved : Gives (g S) (move a_comment_on) (state h p) tt (state h (p + length c)) =
      subst (λ q. Gives (g S) (move a_comment_on) (state h p) tt (state h q)) found.1 (moved_here a_comment_on) in
      seen_here the_comment ⟫ (rw found.0 (moved ⟫ next_read h Command (p + length c) ⟫ given_here))

  -- the text at the span of a comment is the comment
  pub comment_shape : (h : Held) (c : Text) (p : ℕ) (ms : Marks) → At S h p (text c ∷ ms) →
      text_at B (span o p (p + length c)) ≡ c
  comment_shape h c p ms at = text_of_span S p c (lay h ms) (at ∙ laid_text h c ms)

  -- a token begins where a comment does
  pub comment_start : (h : Held) (c : Text) (p : ℕ) (ms : Marks) → CommentAnywhere c →
      At S h p (text c ∷ line_end ∷ ms) → Start T p
  comment_start h c p ms good at =
      let found = good.there T o p (after_line h ms)
      (at ∙ laid_text h c (line_end ∷ ms) ∙ ap (λ z. c ++ z) (laid_line h ms)) in
      record { place = found.2; no_blank = found.3 }

  -- ---- gaps

  -- a margin is a gap up to what stands after it, in which no continuation stands
  pub margin_gap : (h : Held) (m : Text) (e : ℕ) (ms : Marks) → all_blank m ≡ true → At S h e (text m ∷ ms) →
      Start T (e + length m) → Gap T e (e + length m) false
  margin_gap h m e ms blank at s = blanks_gap T e m (lay h ms) blank (at ∙ laid_text h m ms) s

  -- ---- joins

  -- an operand begins with a token that is neither a comment nor a newline
  pub record Operand (p : ℕ) : Type 0 where
    pub start : Start T p
    pub no_comment : raw_stands T p number_sign ≡ false
    pub no_newline : is_newline_token (edition_token Command p) ≡ false

  -- where neither a comment nor a newline stands the turns of a join end
  pub last_join_turn : (h : Held) (b : Bool) (acc : Row Span) (n : Next) (p : ℕ) → raw_stands T p number_sign ≡ false →
      is_newline_token n.token ≡ false
      → Gives (g S) (join_turn (join_so_far (a_join_of b acc) n)) (state h p) (done (join_so_far (a_join_of b acc) n))
      (state h p)
  unfolding join_turn
  last_join_turn h b acc n p no_comment no_newline =
      no_comment_read h n p no_comment ⟫ given_here ⟫ no_newline_read h n p no_newline
      ⟫ subst (λ c. Gives (g S) (give (done (join_so_far (a_join_of c acc) n))) (state h p)
      (done (join_so_far (a_join_of b acc) n)) (state h p)) (sym (or-false (b || false) ∙ or-false b)) given_here

  -- what a turn of a join reads up to the end of a line: it is broken then, and the turns go on
  pub record TurnRead (h : Held) (b : Bool) (acc all : Row Span) (n : Next) (p : ℕ) (ms : Marks) : Type 0 where
    pub later : Held
    pub q : ℕ
    pub at : At S later q ms
    pub reads : Gives (g S) (join_turn (join_so_far (a_join_of b acc) n)) (state h p)
        (again (join_so_far (a_join_of true all) (edition_next Command q))) (state later (past_blanks T q))
    pub on : leads_on (g S) (state h p) (state later (past_blanks T q)) ≡ true
    pub texts : AddsBodies h later no_more

  -- a comment that stands here begins before the end of the text
  comment_within : (h : Held) (c : Text) (p : ℕ) (ms : Marks) → CommentAnywhere c → At S h p (text c ∷ ms) →
      p < length T
  comment_within h c p ms good at = some_word p c (lay h ms) good.some (at ∙ laid_text h c ms)

  -- a turn reads a comment with the newline after it
  pub comment_join_turn : (h : Held) (c : Text) (b : Bool) (acc : Row Span) (n : Next) (p : ℕ) (ms : Marks) →
      CommentAnywhere c → At S h p (text c ∷ line_end ∷ ms)
      → TurnRead h b acc (acc ++ span o p (p + length c) ∷ []) n p ms
  unfolding join_turn
  comment_join_turn h c b acc n p ms good at =
      let e = p + length c in
      let at_after = at_text h p c (line_end ∷ ms) at in
      let line = newline_next h Command e ms at_after in
      let s = span o p e in
      let at_e = subst (λ q. At S h q (line_end ∷ ms)) (sym line.1) at_after in
      let r = newline_read h (edition_next Command e) (past_blanks T e) ms
      (ap (λ (n : Next). is_newline_token n.token) line.0) at_e in
      let z = edition_next Command r.q in
      let last_state = state r.later (past_blanks T r.q) in
      record {
        later = r.later;
        q = r.q;
        at = r.at;
        reads = comment_read h c n p ms good at ⟫ pushed_here acc s ⟫ r.reads
            ⟫ subst (λ d. Gives (g S) (give (again (join_so_far (a_join_of d (acc ++ s ∷ [])) z))) last_state
            (again (join_so_far (a_join_of true (acc ++ s ∷ [])) z)) last_state)
            (sym (or-true (b || true))) given_here;
        on = leads h r.later p (past_blanks T r.q) (omega (arith, r.on, blanks_low T e, blanks_low T r.q))
            (comment_within h c p (line_end ∷ ms) good at);
        texts = r.texts;
      }

  -- a turn reads a newline alone
  pub newline_join_turn : (h : Held) (b : Bool) (acc : Row Span) (n : Next) (p : ℕ) (ms : Marks) →
      is_newline_token n.token ≡ true → At S h p (line_end ∷ ms) → TurnRead h b acc acc n p ms
  unfolding join_turn
  newline_join_turn h b acc n p ms is at =
      let there = at ∙ laid_line h ms in
      let r = newline_read h n p ms is at in
      let z = edition_next Command r.q in
      let last_state = state r.later (past_blanks T r.q) in
      record {
        later = r.later;
        q = r.q;
        at = r.at;
        reads = no_comment_read h n p (no_byte p newline_char (after_line h ms) number_sign refl there) ⟫
            given_here ⟫ r.reads
            ⟫ subst (λ d. Gives (g S) (give (again (join_so_far (a_join_of d acc) z))) last_state
            (again (join_so_far (a_join_of true acc) z)) last_state) (sym (or-true (b || false))) given_here;
        on = leads h r.later p (past_blanks T r.q) (omega (arith, r.on, blanks_low T r.q))
            (some_here p newline_char (after_line h ms) there);
        texts = r.texts;
      }

  -- ---- a join as a whole

  -- what is read of the lines of a join, up to the operand
  pub record JoinLines (h : Held) (b : Bool) (acc : Row Span) (n : Next) (p : ℕ) (cs : Row Text)
      (ms : Marks) : Type 0 where
    pub comments : Row Span
    pub q : ℕ
    pub next : Next
    pub later : Held
    pub reads : Gives (g S) (many join_turn (join_so_far (a_join_of b acc) n)) (state h p)
        (join_so_far (a_join_of true (acc ++ comments)) next) (state later q)
    pub at : At S later q ms
    pub token_is : next.token ≡ edition_token Command q
    pub shape : shape_of_comments B comments ≡ cs
    pub texts : AddsBodies h later no_more

  -- the texts of comments by that of the first and those of the others
  pub cons_shape : (s : Span) (ss : Row Span) (c : Text) (cs : Row Text) → text_at B s ≡ c →
      shape_of_comments B ss ≡ cs → shape_of_comments B (s ∷ ss) ≡ c ∷ cs
  cons_shape s ss c cs e f = rw (e, f) refl

  -- a comment before those that are read, and those, are one row of comments
  pub comments_joined : (h later : Held) (b : Bool) (n : Next) (p : ℕ) (acc : Row Span) (s : Span) (ss : Row Span)
      (q : ℕ)
      (next : Next)
      → Gives (g S) (many join_turn (join_so_far (a_join_of b acc) n)) (state h p)
      (join_so_far (a_join_of true ((acc ++ s ∷ []) ++ ss)) next) (state later q)
      → Gives (g S) (many join_turn (join_so_far (a_join_of b acc) n)) (state h p)
      (join_so_far (a_join_of true (acc ++ s ∷ ss)) next) (state later q)
  comments_joined h later b n p acc s ss q next r =
      subst (λ all. Gives (g S) (many join_turn (join_so_far (a_join_of b acc) n)) (state h p)
      (join_so_far (a_join_of true all) next) (state later q)) (append_assoc acc (s ∷ []) ss) r

  -- what is read after an operator: the join, and where its operand begins
  pub record JoinRead (h : Held) (e : ℕ) (j : AJoinOf Text) (ms : Marks) : Type 0 where
    pub join : AJoin
    pub q : ℕ
    pub next : Next
    pub later : Held
    pub reads : Gives (g S) (a_join false) (state h e) (join, next) (state later q)
    pub at : At S later q ms
    pub token_is : next.token ≡ edition_token Command q
    pub shape : shape_of_join B join ≡ j
    pub texts : AddsBodies h later no_more

  module _ (d : Text) (blank : all_blank d ≡ true) (ms : Marks)
      (operand : (h : Held) (p : ℕ) → At S h p ms → Operand p) where
    -- after a newline the margin of the operand is passed, and no comment is read
    operand_line : (h : Held) (b : Bool) (acc : Row Span) (e : ℕ) → At S h e (text d ∷ ms) →
        JoinLines h true acc (edition_next Command e) (past_blanks T e) [] ms
    operand_line h b acc e at =
        let q = past_blanks T e in
        let at_after = at_text h e d ms at in
        let gap = margin_gap h d e ms blank at (operand h (e + length d) at_after).start in
        let at_q = subst (λ r. At S h r ms) (sym gap.blanks) at_after in
        let it = operand h q at_q in
        let last_one = last_join_turn h true acc (edition_next Command e) q it.no_comment it.no_newline in
        record {
          comments = [];
          q = q;
          next = edition_next Command e;
          reads = rw (append-nil acc) (last_turn join_turn last_one);
          later = h;
          at = at_q;
          token_is = refl;
          shape = refl;
          texts = λ ts. refl;
        }

    -- what stands after a comment: further comments, and the operand after its margin
    abbrev further : Row Text → Marks
    further cs = print_further_comments d cs ++ (line_end ∷ text d ∷ ms)

    -- a token begins where such a comment does
    further_start : (h : Held) (c : Text) (cs : Row Text) (p : ℕ) → CommentAnywhere c → At S h p (text c ∷ further cs) →
        Start T p
    further_start h c [] p good at = comment_start h c p (text d ∷ ms) good at
    further_start h c (c2 ∷ cs) p good at = comment_start h c p (text d ∷ text c2 ∷ further cs) good at

    -- the comments of a join are read, each on a line of its own
    comment_lines : (h : Held) (c : Text) (cs : Row Text) (b : Bool) (acc : Row Span) (n : Next) (p : ℕ) →
        GoodComments (c ∷ cs) → At S h p (text c ∷ further cs) → JoinLines h b acc n p (c ∷ cs) ms
    comment_lines h c [] b acc n p good at =
        let s = span o p (p + length c) in
        let turn = comment_join_turn h c b acc n p (text d ∷ ms) good.0 at in
        let rest = operand_line turn.later true (acc ++ s ∷ []) turn.q turn.at in
        record {
          comments = s ∷ rest.comments;
          q = rest.q;
          next = rest.next;
          reads = comments_joined h rest.later b n p acc s rest.comments rest.q rest.next
              (one_turn join_turn turn.reads turn.on rest.reads);
          later = rest.later;
          at = rest.at;
          token_is = rest.token_is;
          shape = cons_shape s rest.comments c _ (comment_shape h c p (line_end ∷ text d ∷ ms) at) rest.shape;
          texts = λ ts. rest.texts ts ∙ turn.texts ts;
        }
    comment_lines h c (c2 ∷ cs) b acc n p good at =
        let s = span o p (p + length c) in
        let turn = comment_join_turn h c b acc n p (text d ∷ text c2 ∷ further cs) good.0 at in
        let margin_after = at_text turn.later turn.q d (text c2 ∷ further cs) turn.at in
        let gap = margin_gap turn.later d turn.q (text c2 ∷ further cs) blank turn.at
        (further_start turn.later c2 cs (turn.q + length d) good.1.0 margin_after) in
        let at_q = subst (λ r. At S turn.later r (text c2 ∷ further cs)) (sym gap.blanks) margin_after in
        let rest = comment_lines turn.later c2 cs true (acc ++ s ∷ []) (edition_next Command turn.q)
        (past_blanks T turn.q) good.1 at_q in
        record {
          comments = s ∷ rest.comments;
          q = rest.q;
          next = rest.next;
          reads = comments_joined h rest.later b n p acc s rest.comments rest.q rest.next
              (one_turn join_turn turn.reads turn.on rest.reads);
          later = rest.later;
          at = rest.at;
          token_is = rest.token_is;
          shape = cons_shape s rest.comments c _
              (comment_shape h c p (line_end ∷ text d ∷ text c2 ∷ further cs) at) rest.shape;
          texts = λ ts. rest.texts ts ∙ turn.texts ts;
        }

    -- where the lines of a join are read, a broken join is
    join_of : (h : Held) (e : ℕ) (cs : Row Text) →
        JoinLines h (is_broken_at T e) [] (edition_next Command e) (past_blanks T e) cs ms →
        JoinRead h e (record { broken = true; comments = cs }) ms
    unfolding a_join
    join_of h e cs r = record {
      join = a_join_of true r.comments;
      q = r.q;
      next = r.next;
      reads = next_read h Command e ⟫ r.reads ⟫ given_here;
      later = r.later;
      at = r.at;
      token_is = r.token_is;
      shape = ap (λ cs. record { broken = true; comments = cs }) r.shape;
      texts = r.texts;
    }

    -- a join with a space alone is read as one that is not broken
    join_on_line : (h : Held) (e : ℕ) → At S h e (text (codes " ") ∷ ms) →
        JoinRead h e (record { broken = false; comments = [] }) ms
    unfolding a_join
    join_on_line h e at =
        let at_after = at_text h e (codes " ") ms at in
        let gap = margin_gap h (codes " ") e ms refl at (operand h (e + 1) at_after).start in
        let q = past_blanks T e in
        let at_q = subst (λ r. At S h r ms) (sym gap.blanks) at_after in
        let it = operand h q at_q in
        let n = edition_next Command e in
        let last_one : Gives (g S) (many join_turn (join_so_far (a_join_of false []) n)) (state h q)
        (join_so_far (a_join_of false []) n) (state h q) =
        last_turn join_turn (last_join_turn h false [] n q it.no_comment it.no_newline) in
        let turns = subst (λ b. Gives (g S) (many join_turn (join_so_far (a_join_of b []) n)) (state h q)
        (join_so_far (a_join_of false []) n) (state h q)) (sym gap.breaks) last_one in
        record {
          join = a_join_of false [];
          q = q;
          next = n;
          reads = next_read h Command e ⟫ turns ⟫ given_here;
          later = h;
          at = at_q;
          token_is = refl;
          shape = refl;
          texts = λ ts. refl;
        }

    -- a newline without a comment is read, and then the margin of the operand
    pub newline_lines : (h : Held) (b : Bool) (e : ℕ) → At S h e (line_end ∷ text d ∷ ms) →
        JoinLines h b [] (edition_next Command e) (past_blanks T e) [] ms
    newline_lines h b e at =
        let line = newline_next h Command e (text d ∷ ms) at in
        let q = past_blanks T e in
        let at_q = subst (λ r. At S h r (line_end ∷ text d ∷ ms)) (sym line.1) at in
        let turn = newline_join_turn h b [] (edition_next Command e) q (text d ∷ ms)
        (ap (λ (n : Next). is_newline_token n.token) line.0) at_q in
        let rest = operand_line turn.later true [] turn.q turn.at in
        record {
          comments = rest.comments;
          q = rest.q;
          next = rest.next;
          reads = one_turn join_turn turn.reads turn.on rest.reads;
          later = rest.later;
          at = rest.at;
          token_is = rest.token_is;
          shape = rest.shape;
          texts = λ ts. rest.texts ts ∙ turn.texts ts;
        }

    -- comments after a space are read, and then the margin of the operand
    pub comments_after_space : (h : Held) (b : Bool) (c : Text) (cs : Row Text) (e : ℕ) → GoodComments (c ∷ cs) →
        At S h e (text (codes " ") ∷ text c ∷ further cs) →
        JoinLines h b [] (edition_next Command e) (past_blanks T e) (c ∷ cs) ms
    comments_after_space h b c cs e good at =
        let at_after = at_text h e (codes " ") (text c ∷ further cs) at in
        let gap = margin_gap h (codes " ") e (text c ∷ further cs) refl at
        (further_start h c cs (e + 1) good.0 at_after) in
        comment_lines h c cs b [] (edition_next Command e) (past_blanks T e) good
        (subst (λ r. At S h r (text c ∷ further cs)) (sym gap.blanks) at_after)

  -- a join is read as it is printed, up to the operand
  pub join_read : (h : Held) (y : Layout) (m : Text) (ms : Marks) → all_blank (deeper y m) ≡ true →
      ((h : Held) (p : ℕ) → At S h p ms → Operand p) → (broken : Bool) (cs : Row Text) (e : ℕ)
      → is_normal_join (record { broken = broken; comments = cs }) ≡ true → GoodComments cs →
      At S h e (join_rest y m (record { broken = broken; comments = cs }) ++ ms) →
      JoinRead h e (record { broken = broken; comments = cs }) ms
  join_read h y m ms blank operand false [] e normal good at = join_on_line (deeper y m) blank ms operand h e at
  join_read h y m ms blank operand true [] e normal good at =
      join_of (deeper y m) blank ms operand h e []
      (newline_lines (deeper y m) blank ms operand h (is_broken_at T e) e at)
  join_read h y m ms blank operand false (c ∷ cs) e normal good at = absurd cc
  join_read h y m ms blank operand true (c ∷ cs) e normal good at =
      let d = deeper y m in
      let same = append_assoc (print_further_comments d cs) (line_end ∷ text d ∷ []) ms in
      join_of d blank ms operand h e (c ∷ cs)
      (comments_after_space d blank ms operand h (is_broken_at T e) c cs e good
      (at ∙ ap (λ ks. lay h (text (codes " ") ∷ text c ∷ ks)) same))

  -- ---- what follows a command

  -- what follows a command begins no item
  pub follower_after : {rest : Marks} {t : Token} → Follower rest t → begins_simple t ≡ false → (h : Held) (e : ℕ) →
      At S h e rest → NoItemAfter e
  follower_after {t = t} f none h e at =
      record { token = t; seen_as = f.seen_as h e at; no_item = none; no_round = f.no_round }

  -- a space is a gap up to an operator
  pub space_then : (h : Held) (e : ℕ) (c : ℕ) (cs : Text) (ms : Marks) → (c == backslash) ≡ false → is_blank c ≡ false →
      At S h e (text (codes " ") ∷ text (c ∷ cs) ∷ ms) → Gap T e (e + 1) false
  space_then h e c cs ms clear no_blank at =
      let there = at_text h e (codes " ") (text (c ∷ cs) ∷ ms) at ∙ laid_text h (c ∷ cs) ms in
      margin_gap h (codes " ") e (text (c ∷ cs) ∷ ms) refl at
      (start_here (byte_here T (e + 1) c (cs ++ lay h ms) clear there) no_blank)

  -- `|` follows a command after its space, and so do `&&` and `||`
  pub pipe_follower : (ms : Marks) → ((h : Held) → Parted (lay h ms)) →
      Follower (text (codes " ") ∷ text (codes "|") ∷ ms) tokens.Pipe
  unfolding laid_after
  pipe_follower ms parted = record {
    follow = λ held. refl;
    no_round = refl;
    seen_as = λ h e at position.
        let gap = space_then h e vertical_line [] ms refl refl at in
        let there = at_text h e (codes " ") (text (codes "|") ∷ ms) at ∙ laid_text h (codes "|") ms
        ∙ ap (λ z. vertical_line ∷ z) (parted h).is in
        edition_next_after position gap ∙ ap (λ t. record { token = token_in edition t; broken = false })
        (pipe_token position T (e + 1) (parted h).c (parted h).cs (parted h).no_backslash
        (parted h).no_bar there);
  }

  pub operator_follower : (o : AndOrOperator) (ms : Marks) →
      Follower (text (codes " ") ∷ text (and_or_text o) ∷ ms) (operator_token o)
  unfolding laid_after
  operator_follower And ms = record {
    follow = λ held. refl;
    no_round = refl;
    seen_as = λ h e at position.
        let there = at_text h e (codes " ") (text (codes "&&") ∷ ms) at ∙ laid_text h (codes "&&") ms in
        edition_next_after position (space_then h e ampersand (ampersand ∷ []) ms refl refl at)
        ∙ ap (λ t. record { token = token_in edition t; broken = false })
        (and_token position T (e + 1) (lay h ms) there);
  }
  operator_follower Or ms = record {
    follow = λ held. refl;
    no_round = refl;
    seen_as = λ h e at position.
        let there = at_text h e (codes " ") (text (codes "||") ∷ ms) at ∙ laid_text h (codes "||") ms in
        edition_next_after position (space_then h e vertical_line (vertical_line ∷ []) ms refl refl at)
        ∙ ap (λ t. record { token = token_in edition t; broken = false })
        (or_token position T (e + 1) (lay h ms) there);
  }

  -- ---- where a command begins

  -- a command begins here
  pub record Begins (p : ℕ) : Type 0 where
    pub start : Start T p
    pub command : begins_command (edition_token Command p) ≡ true

  -- where no comment is told no number sign stands
  pub no_sharp : (p : ℕ) → past_continuations T p ≡ p → is_comment (edition_token Command p) ≡ false →
      raw_stands T p number_sign ≡ false
  unfolding raw_stands token_at
  no_sharp p place none = false_from_ne_true (is_byte (slice_get T p) number_sign)
      (λ e. both_ways (is_comment (token_in edition (token_of Command T p (byte_at T p)))) none
      (ap (λ b. is_comment (token_in edition (token_of Command T p b)))
      (ap (slice_get T) place ∙ byte_is (slice_get T p) number_sign e)))

  -- a command may stand after an operator
  pub begins_operand : (p : ℕ) → Begins p → Operand p
  begins_operand p b =
      let other = no_other (edition_token Command p) b.command in
      record { start = b.start; no_comment = no_sharp p b.start.place other.comment; no_newline = other.newline }

  -- a pipeline begins here
  pub record PipelineBegins (p : ℕ) : Type 0 where
    pub operand : Operand p
    pub begins : begins_pipeline (edition_token Command p) ≡ true
