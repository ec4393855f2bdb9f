-- What a form of the grammar reads from a place on, whatever here-documents wait there: forms that add none,
-- and forms that add some. So tokens, words, comments and what stands between commands are read.
use Rattle.std.proofs.Common.{◌≡◌, ◌∙◌, refl, sym, ap, subst, ℕ, ◌+◌, ◌-◌, Bool, true, false, ◌||◌, ◌⊎◌, inl, inr, ⊎_elim, Ok, Err, List, List as Row, [], ◌∷◌, ◌++◌, drop, take, Option, Some, None, is_some, option_map}
use Rattle.std.proofs.lemmas.List.{drop-drop}
use Rattle.std.proofs.lemmas.Bool.{or_cases}
use Rattle.shgrammar.specs.declared.keep.Keep.TheVariants.{Whole}
use Rattle.shgrammar.specs.declared.token.Closing.{Closing}
use Rattle.shgrammar.specs.declared.token.Next.{Next}
use Rattle.shgrammar.specs.declared.token.Position.{Position}
use Rattle.shgrammar.specs.declared.token.Position.TheVariants.{Command}
use Rattle.shgrammar.specs.declared.token.Separator.{Separator}
use Rattle.shgrammar.specs.declared.fault.FaultKind.{FaultKind}
use Rattle.shgrammar.specs.declared.token.Token.{Token}
use Rattle.shgrammar.specs.declared.token.Token.TheVariants as tokens
use Rattle.shast.specs.declared.tree.Span.{Span}
use Rattle.shast.specs.Tree.{AWord, ASubst, word, substs_of}
use Rattle.shast.specs.Shape.{text_at, shape_of_comment, shape_of_comments}
use Rattle.shgrammar.specs.Classes.{is_blank}
use Rattle.shgrammar.specs.Bytes.{past_continuations, past_blanks, stands_in}
use Rattle.shgrammar.specs.Comments.{span, comment_at}
use Rattle.shgrammar.specs.Tokens.{token_at, token_in}
use Rattle.shgrammar.specs.Sights.{Given, State, standing, Sight, seen, Move, to}
use Rattle.shgrammar.specs.HereDocuments.{bodies_here}
use Rattle.shgrammar.specs.Form.{Spelled, Read, Form, see, move, push, stop, give, both, when, token, loop, ends_as, change, with_bytes, a_level, in_substitution, many, Step, again, done, step_if, may, raw, does}
use Rattle.shgrammar.specs.Words.{Inner, a_word}
use Rattle.shgrammar.specs.Commands.{pick, next_token, is_newline_token, is_semicolon, a_semicolon, is_bang, unexpected, comment_by, a_comment, a_newline, with_comment, JoinSoFar, join_turn, a_join, a_bang, separator_of, separator_by, a_separator}
use Rattle.shgrammar.specs.Compounds.{is_closing, reserved_or_paren, closing, a_linebreak, begins_pattern}
use Rattle.shgrammar.specs.Levels.{level}
use Rattle.shgrammar.proofs.Places.{place_same, blanks_stop}
use Rattle.shgrammar.proofs.OneOutcome.{computed_is_only}
use Rattle.shgrammar.proofs.Holds.{Holds, Tells, Stepped, tells_after, tells_change, tells_give, tells_then, tells_token, tells_so, tells_until, tells_seen, tells_moved, tells_pushed, tells_with_bytes, holds_and}
use Rattle.shgrammar.proofs.WordsAnywhere.{word_read, word_span as spanned}
use Rattle.shgrammar.proofs.WordsWaiting.{blind_word, onto, place_of}
use Rattle.shgrammar.proofs.ItemsAnywhere.{is_a_word}
use Rattle.shgrammar.proofs.CommentsAnywhere.{CommentAnywhere, comment_is, comment_anywhere}
use Rattle.shprint.proofs.Tokens.{told_so}
use Rattle.shprint.proofs.Due.{Due, Docs, DocsAt, done_docs, docs_read}
use Rattle.shprint.proofs.Good.{GoodComments, GoodOwnComment}
use Rattle.shprint.proofs.GoodRows.{comments_more}

-- the first pattern of an item of a case is a word
pub pattern_is_word : (t : Token) → begins_pattern t ≡ true → is_a_word t ≡ true
pattern_is_word tokens.End e = absurd cc
pattern_is_word tokens.Newline e = absurd cc
pattern_is_word tokens.Semicolon e = absurd cc
pattern_is_word tokens.DoubleSemicolon e = absurd cc
pattern_is_word tokens.SemicolonAmpersand e = absurd cc
pattern_is_word tokens.Ampersand e = absurd cc
pattern_is_word tokens.AndIf e = absurd cc
pattern_is_word tokens.OrIf e = absurd cc
pattern_is_word tokens.Pipe e = absurd cc
pattern_is_word tokens.OpenParen e = absurd cc
pattern_is_word tokens.CloseParen e = absurd cc
pattern_is_word (tokens.Redirect o) e = absurd cc
pattern_is_word tokens.Comment e = absurd cc
pattern_is_word tokens.Number e = absurd cc
pattern_is_word (tokens.Reserved r) e = refl
pattern_is_word tokens.Assignment e = refl
pattern_is_word tokens.Word e = refl

-- ---- what a form reads from a place on

-- what may be read holds of what is read
holds_by : {X : Type 0} (P : X → State → Type 0) (r : Read X → Row Spelled → Type 0) (y : Read X) (k : Row Spelled) →
    r y k
    → ((x : X) (t : State) (k : Row Spelled) → r (Ok (x, t)) k → P x t) → Holds P y
holds_by P r (Ok (x, t)) k part so = so x t k part
holds_by P r (Err f) k part so = tt

-- the same, where something waits
holds_onto : {X : Type 0} (P Q : X → State → Type 0) (s : State) (y : Read X) →
    ((x : X) (t : State) → P x t → Q x (place_of s t.at)) → Holds P y → Holds Q (onto s y)
holds_onto P Q s (Ok (x, t)) so one = so x t one
holds_onto P Q s (Err f) so one = tt

-- a form that only sees and moves
abbrev pub Quiet : {X : Type 0} → Form X → Type 0
Quiet (give x) = Unit {0}
Quiet (see f) = Unit {0}
Quiet (move m) = Unit {0}
Quiet (push xs x) = ⊥
Quiet (stop kind at) = ⊥
Quiet (both r q) = Quiet r × ((x : _) → Quiet (q x))
Quiet (when f r q) = ⊥
Quiet (token told r) = Quiet r
Quiet (loop turn a) = ⊥
Quiet (ends_as kind at r) = ⊥
Quiet (change c) = ⊥
Quiet (with_bytes r) = ⊥
Quiet (a_level r) = ⊥
Quiet (in_substitution r) = ⊥

module _ (g : Given) where
  -- it leaves the documents as they are
  quiet : {X : Type 0} (r : Form X) → Quiet r → (D : Row Due) (s : State) → DocsAt g D s →
      Tells Whole g r (λ x t. DocsAt g D t) s
  quiet (give x) only D s docs = record { told = docs }
  quiet (see f) only D s docs = record { told = docs }
  quiet (move m) only D s docs = record { told = docs }
  quiet (push xs x) only D s docs = absurd only
  quiet (stop kind at) only D s docs = absurd only
  quiet (both r q) only D s docs =
      tells_then Whole g (quiet r only.0 D s docs) (λ x t so. quiet (q x) (only.1 x) D t so)
  quiet (when f r q) only D s docs = absurd only
  quiet (token told r) only D s docs = tells_token Whole g (quiet r only D s docs) (λ x t so. so)
  quiet (loop turn a) only D s docs = absurd only
  quiet (ends_as kind at r) only D s docs = absurd only
  quiet (change c) only D s docs = absurd only
  quiet (with_bytes r) only D s docs = absurd only
  quiet (a_level r) only D s docs = absurd only
  quiet (in_substitution r) only D s docs = absurd only

  -- ---- forms that add no document

  -- P holds, and the documents are those before
  abbrev Kept : {X : Type 0} → Row Due → (X → ℕ → Type 0) → X → State → Type 0
  Kept D P x t = DocsAt g D t × P x t.at

  -- P holds of what r reads from p on, and of the place after it. Whatever documents
  -- stand before p, they, and no others, stand before its end too.
  pub record AddsNone {X : Type 0} (r : Form X) (P : X → ℕ → Type 0) (p : ℕ) : Type 0 where
    pub reads : (D : Row Due) (s : State) → DocsAt g D s → Tells Whole g r (Kept D P) (place_of s p)

  -- what is given
  pub gives : {X : Type 0} {P : X → ℕ → Type 0} {x : X} {p : ℕ} → P x p → AddsNone (give x) P p
  gives so = record { reads = λ D s docs. tells_give Whole g (docs, so) }

  -- a form and then the next
  pub first : {X Y : Type 0} {P : X → ℕ → Type 0} {Q : Y → ℕ → Type 0} {r : Form X} {q : X → Form Y} {p : ℕ} →
      AddsNone r P p →
      ((x : X) (e : ℕ) → P x e → AddsNone (q x) Q e)
      → AddsNone (both r q) Q p
  first {P = P} {Q = Q} one rest =
      record {
        reads = λ D s docs. tells_then Whole g {P = Kept D P} {Q = Kept D Q} (one.reads D s docs)
            (λ x t so. (rest x t.at so.1).reads D t so.0);
      }

  -- what a quiet form gives may be anything
  pub after : {X Y : Type 0} {Q : Y → ℕ → Type 0} {r : Form X} {q : X → Form Y} {p : ℕ} → Quiet r →
      ((x : X) (e : ℕ) → AddsNone (q x) Q e) → AddsNone (both r q) Q p
  after {Q = Q} {r = r} {p = p} only rest =
      record {
        reads = λ D s docs. tells_then Whole g {Q = Kept D Q} (quiet r only D (place_of s p) docs)
            (λ x t so. (rest x t.at).reads D t so);
      }

  -- what is seen is the same whatever waits
  pub sees : {X Y : Type 0} {Q : Y → ℕ → Type 0} {f : Sight X} {q : X → Form Y} {p : ℕ} →
      ((s : State) → seen f g (place_of s p) ≡ seen f g (standing p)) → AddsNone (q (seen f g (standing p))) Q p
      → AddsNone (both (see f) q) Q p
  sees {Q = Q} {f = f} {q = q} {p = p} same rest = record {
    reads = λ D s docs. tells_seen Whole g
        (subst (λ x. Tells Whole g (q x) (Kept D Q) (place_of s p)) (sym (same s)) (rest.reads D s docs));
  }

  -- a move
  moves : {Y : Type 0} {Q : Y → ℕ → Type 0} {m : Move} {q : Unit {0} → Form Y} {p : ℕ} →
      AddsNone (q tt) Q (to m g.text p)
      → AddsNone (both (move m) q) Q p
  moves rest = record { reads = λ D s docs. tells_moved Whole g (rest.reads D s docs) }

  -- one thing more in a row
  pub pushes : {A Y : Type 0} {Q : Y → ℕ → Type 0} {xs : Row A} {x : A} {q : Row A → Form Y} {p : ℕ} →
      AddsNone (q (xs ++ x ∷ [])) Q p → AddsNone (both (push xs x) q) Q p
  pushes rest = record { reads = λ D s docs. tells_pushed g (rest.reads D s docs) }

  -- one of two forms
  pub picks : {X : Type 0} {P : X → ℕ → Type 0} (b : Bool) {r q : Form X} {p : ℕ} → (b ≡ true → AddsNone r P p) →
      AddsNone q P p →
      AddsNone (pick b r q) P p
  picks true one two = one refl
  picks false one two = two

  -- a form with its bytes
  pub with_its_bytes : {X : Type 0} {P : X → ℕ → Type 0} {Q : X × Spelled → ℕ → Type 0} {r : Form X} {p : ℕ} →
      AddsNone r P p →
      ((x : X) (e : ℕ) → P x e → Q (x, raw g.text p e) e) → AddsNone (with_bytes r) Q p
  with_its_bytes one so = record {
    reads =
        λ D s docs. tells_with_bytes Whole g (one.reads D s docs) (λ x t good. (good.0, so x t.at good.1));
  }

  -- where no row goes on nothing is read
  pub stopped : {X : Type 0} {P : X → ℕ → Type 0} {p : ℕ} (inner : Inner) (n : Next) →
      AddsNone (unexpected {X = X} inner n) P p
  stopped inner n = record { reads = λ D s docs. tells_after Whole g (λ w t. record { told = tt }) }

  -- what a turn gives: R where it goes on, and Q where it was the last
  abbrev pub Turned : {A : Type 0} → (A → ℕ → Type 0) → (A → ℕ → Type 0) → Step A → ℕ → Type 0
  Turned R Q (again a) p = R a p
  Turned R Q (done a) p = Q a p

  -- the same, as a repetition asks for it
  turned : {A : Type 0} (D : Row Due) (R Q : A → ℕ → Type 0) (c : Step A) (t : State) → Kept D (Turned R Q) c t →
      Stepped Whole g (Kept D R) (Kept D Q) c t
  turned D R Q (again a) t so = so
  turned D R Q (done a) t so = so

  -- a turn that goes on by a test
  turned_if : {A : Type 0} (R Q : A → ℕ → Type 0) (b : Bool) (a : A) (p : ℕ) → (b ≡ true → R a p) → Q a p →
      Turned R Q (step_if b a) p
  turned_if R Q true a p go last = go refl
  turned_if R Q false a p go last = last

  module _ {A : Type 0} (turn : A → Form (Step A)) (P R Q : A → ℕ → Type 0)
      (each : (a : A) (p : ℕ) → P a p → AddsNone (turn a) (Turned R Q) p)
      (goes : (a : A) (p : ℕ) → R a p → P a p) (ends : (a : A) (p : ℕ) → R a p → Q a p) where
    -- a repetition, by its turn
    pub repeats : (a : A) (p : ℕ) → P a p → AddsNone (many turn a) Q p
    repeats a p so = record {
      reads = λ D s docs. tells_until Whole g turn (Kept D P) (Kept D R) (Kept D Q)
          (λ b t now. tells_so Whole g ((each b t.at now.1).reads D t now.0) (turned D R Q))
          (λ b t now. (now.0, goes b t.at now.1)) (λ b t now. (now.0, ends b t.at now.1)) a (place_of s p) (docs, so);
    }

  -- ---- forms that add documents

  -- P holds, with the documents of that place
  abbrev Grown : {X : Type 0} → (X → Row Due → ℕ → Type 0) → X → State → Type 0
  Grown P x t = (E : Row Due) × DocsAt g E t × P x E t.at

  -- P holds of what r reads from p on, of the documents up to its end, where those
  -- before p are D, and of the place after it
  pub record Adds {X : Type 0} (D : Row Due) (r : Form X) (P : X → Row Due → ℕ → Type 0) (p : ℕ) : Type 0 where
    pub adds : (s : State) → DocsAt g D s → Tells Whole g r (Grown P) (place_of s p)

  -- what is given adds none
  pub add_gives : {X : Type 0} {P : X → Row Due → ℕ → Type 0} {D : Row Due} {x : X} {p : ℕ} → P x D p →
      Adds D (give x) P p
  add_gives {D = D} so = record { adds = λ s docs. tells_give Whole g (D, docs, so) }

  -- a form and then the next, both of which may add some
  pub add_first : {X Y : Type 0} {P : X → Row Due → ℕ → Type 0} {Q : Y → Row Due → ℕ → Type 0} {D : Row Due}
      {r : Form X}
      {q : X → Form Y} {p : ℕ} → Adds D r P p
      → ((x : X) (E : Row Due) (e : ℕ) → P x E e → Adds E (q x) Q e) → Adds D (both r q) Q p
  add_first {P = P} {Q = Q} one rest =
      record {
        adds = λ s docs. tells_then Whole g {P = Grown P} {Q = Grown Q} (one.adds s docs)
            (λ x t so. (rest x so.0 t.at so.2).adds t so.1);
      }

  -- after a form that adds none
  pub read_first : {X Y : Type 0} {P : X → ℕ → Type 0} {Q : Y → Row Due → ℕ → Type 0} {D : Row Due} {r : Form X}
      {q : X → Form Y} {p : ℕ} → AddsNone r P p
      → ((x : X) (e : ℕ) → P x e → Adds D (q x) Q e) → Adds D (both r q) Q p
  read_first {P = P} {Q = Q} {D = D} one rest =
      record {
        adds = λ s docs. tells_then Whole g {P = Kept D P} {Q = Grown Q} (one.reads D s docs)
            (λ x t so. (rest x t.at so.1).adds t so.0);
      }

  -- after a quiet form
  pub add_after : {X Y : Type 0} {Q : Y → Row Due → ℕ → Type 0} {D : Row Due} {r : Form X} {q : X → Form Y} {p : ℕ} →
      Quiet r → ((x : X) (e : ℕ) → Adds D (q x) Q e) → Adds D (both r q) Q p
  add_after {Q = Q} {D = D} {r = r} {p = p} only rest =
      record {
        adds = λ s docs. tells_then Whole g {Q = Grown Q} (quiet r only D (place_of s p) docs)
            (λ x t so. (rest x t.at).adds t so);
      }

  -- what follows from it
  pub so_adds : {X : Type 0} {P Q : X → Row Due → ℕ → Type 0} {D : Row Due} {r : Form X} {p : ℕ} → Adds D r P p →
      ((x : X) (E : Row Due) (e : ℕ) → P x E e → Q x E e) → Adds D r Q p
  so_adds one so = record {
    adds =
        λ s docs. tells_so Whole g (one.adds s docs) (λ x t good. (good.0, good.1, so x good.0 t.at good.2));
  }

  -- what else is told of it
  pub and_told : {X : Type 0} {P : X → Row Due → ℕ → Type 0} {R : X → State → Type 0} {Q : X → Type 0} {D : Row Due}
      {r : Form X} {p : ℕ} → Adds D r P p → ((s : State) → Tells Whole g r R (place_of s p))
      → ((x : X) (t : State) → R x t → Q x) → Adds D r (λ x E e. P x E e × Q x) p
  and_told {P = P} {R = R} {r = r} {p = p} one other so = record {
    adds = λ s docs. tells_so Whole g {P = λ x t. Grown P x t × R x t}
        (record { told = holds_and (Grown P) R (does r Whole g (place_of s p)) (one.adds s docs).told (other s).told })
        (λ x t both. (both.0.0, both.0.1, (both.0.2, so x t both.1)));
  }

  -- a sight, a row with one thing more, one of two forms, and two that read nothing
  pub add_sees : {X Y : Type 0} {Q : Y → Row Due → ℕ → Type 0} {D : Row Due} {f : Sight X} {q : X → Form Y} {p : ℕ} →
      ((s : State) → seen f g (place_of s p) ≡ seen f g (standing p))
      → Adds D (q (seen f g (standing p))) Q p → Adds D (both (see f) q) Q p
  add_sees {Q = Q} {q = q} {p = p} same rest =
      record {
        adds = λ s docs. tells_seen Whole g
            (subst (λ x. Tells Whole g (q x) (Grown Q) (place_of s p)) (sym (same s)) (rest.adds s docs));
      }

  pub add_pushes : {A Y : Type 0} {Q : Y → Row Due → ℕ → Type 0} {D : Row Due} {xs : Row A} {x : A} {q : Row A → Form Y}
      {p : ℕ} → Adds D (q (xs ++ x ∷ [])) Q p → Adds D (both (push xs x) q) Q p
  add_pushes rest = record { adds = λ s docs. tells_pushed g (rest.adds s docs) }

  pub add_picks : {X : Type 0} {P : X → Row Due → ℕ → Type 0} {D : Row Due} (b : Bool) {r q : Form X} {p : ℕ} →
      (b ≡ true → Adds D r P p) → Adds D q P p → Adds D (pick b r q) P p
  add_picks true one two = one refl
  add_picks false one two = two

  pub add_stops : {X : Type 0} {P : X → Row Due → ℕ → Type 0} {D : Row Due} {kind : FaultKind} {at p : ℕ} →
      Adds {X = X} D (stop kind at) P p
  add_stops = record { adds = λ s docs. record { told = tt } }

  pub add_stopped : {X : Type 0} {P : X → Row Due → ℕ → Type 0} {D : Row Due} {p : ℕ} (inner : Inner) (n : Next) →
      Adds D (unexpected {X = X} inner n) P p
  add_stopped inner n = record { adds = λ s docs. tells_after Whole g (λ w t. record { told = tt }) }

  -- what a turn gives: R where it goes on, and Q where it was the last
  abbrev pub TurnGives : {A : Type 0} → (A → Row Due → ℕ → Type 0) → (A → Row Due → ℕ → Type 0) → Step A → Row Due → ℕ →
      Type 0
  TurnGives R Q (again a) E p = R a E p
  TurnGives R Q (done a) E p = Q a E p

  -- the same, as a repetition asks for it
  turns : {A : Type 0} (R Q : A → Row Due → ℕ → Type 0) (c : Step A) (t : State) → Grown (TurnGives R Q) c t →
      Stepped Whole g (Grown R) (Grown Q) c t
  turns R Q (again a) t so = so
  turns R Q (done a) t so = so

  -- a turn that goes on by a test
  pub turns_if : {A : Type 0} (R Q : A → Row Due → ℕ → Type 0) (b : Bool) (a : A) (E : Row Due) (p : ℕ) →
      (b ≡ true → R a E p) → Q a E p → TurnGives R Q (step_if b a) E p
  turns_if R Q true a E p go last = go refl
  turns_if R Q false a E p go last = last

  module _ {A : Type 0} (turn : A → Form (Step A)) (P R Q : A → Row Due → ℕ → Type 0)
      (each : (a : A) (D : Row Due) (p : ℕ) → P a D p → Adds D (turn a) (TurnGives R Q) p)
      (goes : (a : A) (D : Row Due) (p : ℕ) → R a D p → P a D p)
      (ends : (a : A) (D : Row Due) (p : ℕ) → R a D p → Q a D p) where
    -- a repetition, by its turn
    pub add_repeats : (a : A) (D : Row Due) (p : ℕ) → P a D p → Adds D (many turn a) Q p
    add_repeats a D p so = record {
      adds = λ s docs. tells_until Whole g turn (Grown P) (Grown R) (Grown Q)
          (λ b t now. tells_so Whole g ((each b now.0 t.at now.2).adds t now.1) (turns R Q))
          (λ b t now. (now.0, now.1, goes b now.0 t.at now.2)) (λ b t now. (now.0, now.1, ends b now.0 t.at now.2)) a
          (place_of s p) (D, docs, so);
    }

  -- ---- tokens

  -- the token n stands at p, in this position of a command
  pub record Stands (position : Position) (n : Next) (p : ℕ) : Type 0 where
    pub place : past_continuations g.text p ≡ p
    pub no_blank : stands_in is_blank g.text p ≡ false
    pub token_is : token_in g.edition (token_at position g.text p) ≡ n.token

  -- a word is one in the text too
  pub word_so : {position : Position} {n : Next} {p : ℕ} → Stands position n p → is_a_word n.token ≡ true →
      token_at position g.text p ≡ n.token
  word_so {position = position} {n = n} {p = p} so is =
      told_so is_a_word refl refl g.edition (token_at position g.text p) n.token so.token_is is

  -- the next token stands where the reading stands then
  pub reads_next : (position : Position) (p : ℕ) → AddsNone (next_token position) (Stands position) p
  unfolding next_token past_blanks
  reads_next position p = sees (λ s. refl)
      (moves (gives (record { place = place_same g.text _; no_blank = blanks_stop g.text p; token_is = refl })))

  -- on, and then the next token
  next_on : {X Y : Type 0} {P : Y → ℕ → Type 0} {r : Form X} {f : X → Next → Y} {p : ℕ} → Quiet r →
      ((x : X) (n : Next) (e : ℕ) → Stands Command n e → P (f x n) e)
      → AddsNone (both r (λ x. both (next_token Command) (λ n. give (f x n)))) P p
  next_on only so = after only (λ x e. first (reads_next Command e) (λ n d stands. gives (so x n d stands)))

  -- rows of one token or none: after it the next token stands there
  pub reads_bang : (n : Next) (p : ℕ) → Stands Command n p → AddsNone (a_bang n) (λ b e. Stands Command b.1 e) p
  unfolding a_bang
  reads_bang n p so = picks (is_bang n.token) (λ is. next_on tt (λ x m e stands. stands)) (gives so)

  pub reads_semicolon : (X : Type 0) (n : Next) (p : ℕ) → (X → Stands Command n p) →
      AddsNone (a_semicolon n) (λ l e. (X → Stands Command l.1 e) × (l.0 ≡ true → Stands Command l.1 e)) p
  unfolding a_semicolon
  reads_semicolon X n p so = picks (is_semicolon n.token)
      (λ is. next_on tt (λ x m e stands. ((λ y. stands), (λ y. stands)))) (gives (so, (λ y. absurd cc)))

  -- a newline token reads the bodies of what waits
  reads_bodies : (p : ℕ) → AddsNone (change bodies_here) (λ u e. Unit {0}) p
  reads_bodies p = record {
    reads = λ D s docs. tells_change Whole g
        (λ t is. let r = docs_read g (place_of s p) t docs is in
        (subst (λ ws. Docs g D ws t.bodies) (sym r.1) (done_docs g r.0), tt));
  }

  -- a newline token, and the token after the bodies
  pub reads_newline : (X : Type 0) (n : Next) (p : ℕ) → (X → Stands Command n p) →
      AddsNone (a_newline n) (λ l e. (X → Stands Command l.1 e) × (l.0 ≡ true → Stands Command l.1 e)) p
  unfolding a_newline
  reads_newline X n p so =
      picks (is_newline_token n.token)
      (λ is. after tt (λ u d. first (reads_bodies d)
      (λ v f any. first (reads_next Command f) (λ m e stands. gives ((λ y. stands), (λ y. stands))))))
      (gives (so, (λ y. absurd cc)))

  -- a separator, or none
  pub reads_separator : (n : Next) (p : ℕ) →
      AddsNone (a_separator n) (λ s e. is_some s.0 ≡ true → Stands Command s.1 e) p
  unfolding a_separator
  reads_separator n p = by_separator (separator_of n.token)
    where
      by_separator : (s : Option Separator) →
          AddsNone (separator_by n s) (λ s e. is_some s.0 ≡ true → Stands Command s.1 e) p
      by_separator (Some s) = next_on tt (λ x m e stands. λ y. stands)
      by_separator None = gives (λ y. absurd cc)

  -- a reserved word or a bracket, and the token after it
  pub reads_reserved_or_paren : (text : Spelled) (paren : Bool) (position : Position) (p : ℕ) →
      AddsNone (reserved_or_paren text paren position) (λ x e. Stands position x.1 e) p
  unfolding reserved_or_paren
  reads_reserved_or_paren text paren position p =
      after tt (λ x e. first (reads_next position e) (λ n d stands. gives stands))

  pub reads_closing : (inner : Inner) (c : Closing) (n : Next) (p : ℕ) →
      AddsNone (closing inner c n) (λ x e. Stands Command x.1 e) p
  unfolding closing
  reads_closing inner c n p = picks (is_closing c n.token) (λ is. reads_reserved_or_paren _ _ _ p) (stopped inner n)

  -- ---- words

  -- the word w was read from p up to q
  pub record WordRead (room p : ℕ) (w : AWord) (q : ℕ) : Type 0 where
    pub part : may (a_word (level room)) g (standing p) (Ok (w, standing (p + (q - p))))
        (raw g.text p (p + (q - p)) ∷ [])
    pub substs : Row ASubst
    pub is : w ≡ word (span g.offset p q) (substs_of substs)

  -- a word that is read is one that may be read where nothing waits
  pub reads_word : (room p : ℕ) → AddsNone (a_word (level room)) (WordRead room p) p
  reads_word room p =
      let some = (computed_is_only (a_word (level room)) g (standing p)).some in
      let word_is = holds_by (λ w t. WordRead room p w t.at) (may (a_word (level room)) g (standing p)) _ some.0 some.1
      (λ w t k part. let spans = spanned (level room) g (standing p) t w k part in
      record { part = word_read room g p w t k part; substs = spans.0; is = spans.1 }) in
      record {
        reads = λ D s docs. record {
          told = subst (Holds (Kept D (WordRead room p))) (sym ((blind_word g room).alike (standing p) s))
              (holds_onto (λ w t. WordRead room p w t.at) (Kept D (WordRead room p)) s _
              (λ w t good. (docs, good)) word_is);
        };
      }

-- ---- what the rows read

module _ (B : List ℕ) (g : Given) (here : g.text ≡ drop g.offset B) where
  -- ---- comments

  -- a comment that was read is one before any newline
  comment_good : (p : ℕ) (c : Span) → comment_at g.text g.offset p ≡ Some c → CommentAnywhere (text_at B c)
  comment_good p c is =
      let start : c.start ≡ g.offset + p = ap (λ (s : Span). s.start) (comment_is g.text g.offset p c is).1 in
      let same : drop p g.text ≡ drop c.start B = ap (drop p) here ∙ drop-drop p g.offset B
      ∙ ap (λ n. drop n B) (sym start) in
      subst (λ (xs : List ℕ). CommentAnywhere (take (c.«end» - c.start) xs)) same
      (comment_anywhere g.text g.offset p c is)

  -- the token after a comment stands where X holds, if that before it does
  abbrev Commented : Type 0 → Option Span × Next → ℕ → Type 0
  Commented X c e = GoodOwnComment (option_map (shape_of_comment B) c.0) × (X → Stands g Command c.1 e)
      × (is_some c.0 ≡ true → Stands g Command c.1 e)

  -- a comment or none
  pub reads_comment : (X : Type 0) (n : Next) (p : ℕ) → (X → Stands g Command n p) →
      AddsNone g (a_comment n) (Commented X) p
  unfolding a_comment
  reads_comment X n p so = sees g (λ s. refl) (by_comment (comment_at g.text g.offset p) refl)
    where
      by_comment : (c : Option Span) → comment_at g.text g.offset p ≡ c → AddsNone g (comment_by n c) (Commented X) p
      by_comment (Some c) is = next_on g tt (λ x m e stands. (comment_good p c is, (λ y. stands), (λ y. stands)))
      by_comment None is = gives g (tt, so, (λ y. absurd cc))

  -- ---- joins

  -- these comments are good
  abbrev pub Comments : Row Span → Type 0
  Comments cs = GoodComments (shape_of_comments B cs)

  -- so they are with one more, or with none
  reads_with : (cs : Row Span) (c : Option Span) (p : ℕ) → Comments cs →
      GoodOwnComment (option_map (shape_of_comment B) c) →
      AddsNone g (with_comment cs c) (λ ds e. Comments ds × (e ≡ p)) p
  reads_with cs (Some c) p all one =
      record { reads = λ D s docs. record { told = (docs, (comments_more B cs c all one, refl)) } }
  reads_with cs None p all one = gives g (all, refl)

  -- after a comment or a newline the next token stands where a command may begin; so it does where X holds
  abbrev JoinGood : Type 0 → JoinSoFar → ℕ → Type 0
  JoinGood X j p = Comments j.join.comments × (X ⊎ (j.join.broken ≡ true) → Stands g Command j.next p)

  -- a comment and a newline, or one of them, within a join
  reads_join_turn : (X : Type 0) (j : JoinSoFar) (p : ℕ) → JoinGood X j p →
      AddsNone g (join_turn j) (Turned g (JoinGood X) (JoinGood X)) p
  unfolding join_turn
  reads_join_turn X j p so =
      first g (reads_comment (X ⊎ (j.join.broken ≡ true)) j.next p so.1) (λ c e one.
      first g (reads_with j.join.comments c.0 e so.0 one.0) (λ cs f two.
      let commented : X ⊎ ((j.join.broken || is_some c.0) ≡ true) →
      Stands g Command c.1 e = λ y. ⊎_elim (λ x. one.1 (inl x))
      (λ b. ⊎_elim (λ d. one.1 (inr d)) one.2 (or_cases _ _ b)) y in
      first g (reads_newline g (X ⊎ ((j.join.broken || is_some c.0) ≡ true)) c.1 f
      (λ y. subst (Stands g Command c.1) (sym two.1) (commented y))) (λ l h three.
      let ended : X ⊎ (((j.join.broken || is_some c.0) || l.0) ≡ true) →
      Stands g Command l.1 h = λ y. ⊎_elim (λ x. three.0 (inl x))
      (λ b. ⊎_elim (λ d. three.0 (inr d)) three.1 (or_cases _ _ b)) y in
      gives g (turned_if g (JoinGood X) (JoinGood X) l.0 _ h (λ y. (two.0, ended)) (two.0, ended)))))

  -- comments and newlines where no command has to follow
  pub reads_linebreak : (X : Type 0) (cs : Row Span) (n : Next) (p : ℕ) → Comments cs → (X → Stands g Command n p) →
      AddsNone g (a_linebreak cs n) (JoinGood X) p
  unfolding a_linebreak
  reads_linebreak X cs n p good so =
      repeats g join_turn (JoinGood X) (JoinGood X) (JoinGood X) (reads_join_turn X) (λ j d on. on) (λ j d on. on) _ p
      (good, (λ y. ⊎_elim so (λ e. absurd cc) y))

  -- comments and newlines after an operator
  pub reads_join : (broken : Bool) (p : ℕ) →
      AddsNone g (a_join broken) (λ x e. Comments x.0.comments × Stands g Command x.1 e) p
  unfolding a_join
  reads_join broken p =
      first g (reads_next g Command p) (λ n e stands.
      first g (repeats g join_turn (JoinGood (Unit {0})) (JoinGood (Unit {0})) (JoinGood (Unit {0}))
      (reads_join_turn (Unit {0})) (λ j d so. so) (λ j d so. so) _ e (tt, (λ y. stands)))
      (λ j d so. gives g (so.0, so.1 (inl tt))))
