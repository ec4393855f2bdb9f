-- The tokens passed where a faultless script is read are those that the shape of its tree spells: here the
-- laws of forms, what tells no token, and a word; `SpelledCommands` has commands, `SpelledLists` lists and
-- scripts.
use Rattle.std.proofs.Common.{◌≡◌, ◌∙◌, refl, sym, ap, subst, ℕ, ◌+◌, ◌-◌, Bool, true, false, Result, Ok, Err, List, List as Row, [], ◌∷◌, ◌++◌, drop, take, Option, Some, None, arith}
use Rattle.std.proofs.lemmas.List.{append-nil, append_assoc, drop-drop}
use Rattle.shgrammar.specs.declared.token.Next.{Next}
use Rattle.shgrammar.specs.declared.token.Position.{Position}
use Rattle.shgrammar.specs.declared.token.Position.TheVariants.{Command}
use Rattle.shast.specs.declared.tree.Span.{Span}
use Rattle.shast.specs.Shape.{text_at, shape_of_word}
use Rattle.shast.specs.Spelling.{spell_word, spell_falls}
use Rattle.shgrammar.specs.Comments.{span}
use Rattle.shgrammar.specs.Sights.{Given, State, Sight, Move}
use Rattle.shgrammar.specs.Form.{change, with_bytes, a_level, Changed, changes, cannot, WithBytes, with_its_bytes, without_bytes, OwnLevel, level_read, level_stops, Spelled, Read, Step, again, done, step_if, Form, give, see, move, push, stop, both, Telling, by, tell, token, many, Just, just, Halts, halted, Then, and_then, or_stops, OneToken, whole, broken_off, Turns, last, rests, more, halts, raw, may}
use Rattle.shgrammar.specs.Words.{Inner, a_word}
use Rattle.shgrammar.specs.Commands.{pick, next_token, is_newline_token, is_semicolon, a_semicolon, unexpected, comment_by, a_comment, a_newline, with_comment, JoinSoFar, join_turn, a_join, is_paren}
use Rattle.shgrammar.specs.Compounds.{a_linebreak, an_open_bracket, an_ender}
use Rattle.shgrammar.specs.declared.fault.Fault.{Fault}
use Rattle.shgrammar.specs.HereDocuments.{Change, changed, own_level}

-- ---- what holds of what a form reads, and of the tokens passed

-- of a fault nothing is said
abbrev Of : {X : Type 0} → (X → Row Spelled → Type 0) → Read X → Row Spelled → Type 0
Of P (Ok (x, t)) k = P x k
Of P (Err f) k = Unit {0}

-- what follows from it
of_so : {X : Type 0} (P Q : X → Row Spelled → Type 0) (y : Read X) (k : Row Spelled) → Of P y k →
    ((x : X) → P x k → Q x k) → Of Q y k
of_so P Q (Ok (x, t)) k one so = so x one
of_so P Q (Err f) k one so = tt

-- after the tokens k
of_after : {X : Type 0} (Q : X → Row Spelled → Type 0) (k : Row Spelled) (y : Read X) (l : Row Spelled) →
    Of (λ x m. Q x (k ++ m)) y l → Of Q y (k ++ l)
of_after Q k (Ok (x, t)) l so = so
of_after Q k (Err f) l so = tt

-- what a step goes on with, or ends with
abbrev held : {A : Type 0} → Step A → A
held (again a) = a
held (done a) = a

-- whether it goes on or ends, that is the same
pub held_if : {A : Type 0} (on : Bool) (a : A) → held (step_if on a) ≡ a
held_if true a = refl
held_if false a = refl

module _ (g : Given) where
  -- P holds of what r reads from this state on, and of the tokens passed in it
  pub record Passing {X : Type 0} (r : Form X) (P : X → Row Spelled → Type 0) (s : State) : Type 0 where
    pub passing : (y : Read X) (k : Row Spelled) → may r g s y k → Of P y k

  -- what passes no token
  just_of : {X : Type 0} (P : X → Row Spelled → Type 0) {x : X} {s : State} → P x [] → (y : Read X) (k : Row Spelled) →
      Just x s y k → Of P y k
  just_of P so y k just = so

  -- a fault
  halts_of : {X : Type 0} (P : X → Row Spelled → Type 0) (f : _) (y : Read X) (k : Row Spelled) → Halts {X = X} f y k →
      Of P y k
  halts_of P f y k halted = tt

  pub pass_give : {X : Type 0} {P : X → Row Spelled → Type 0} {x : X} {s : State} → P x [] → Passing (give x) P s
  pass_give {P = P} so = record { passing = just_of P so }

  pub pass_stop : {X : Type 0} {P : X → Row Spelled → Type 0} {kind : _} {at : ℕ} {s : State} →
      Passing (stop kind at) P s
  pass_stop {P = P} = record { passing = halts_of P _ }

  -- what follows from it
  pub pass_so : {X : Type 0} {P Q : X → Row Spelled → Type 0} {r : Form X} {s : State} → Passing r P s →
      ((x : X) (k : Row Spelled) → P x k → Q x k) → Passing r Q s
  pass_so {P = P} {Q = Q} one so =
      record { passing = λ y k part. of_so P Q y k (one.passing y k part) (λ x good. so x k good) }

  -- what follows, after what was read
  then_of : {X Y : Type 0} (P : X → Row Spelled → Type 0) (Q : Y → Row Spelled → Type 0) (r : Form X) (q : X → Form Y)
      (s : State) → Passing r P s
      → ((x : X) (t : State) (k : Row Spelled) → P x k → Passing (q x) (λ y l. Q y (k ++ l)) t) →
      (y : Read Y) (m : Row Spelled) → Then (may r g) (λ x. may (q x) g) s y m → Of Q y m
  then_of P Q r q s first rest y m (and_then {x = x} {t = t} {k = k} {l = l} one two) =
      of_after Q k y l ((rest x t k (first.passing (Ok (x, t)) k one)).passing y l two)
  then_of P Q r q s first rest y m (or_stops one) = tt

  -- one form and then another
  pub pass_then : {X Y : Type 0} {P : X → Row Spelled → Type 0} {Q : Y → Row Spelled → Type 0} {r : Form X}
      {q : X → Form Y}
      {s : State} → Passing r P s
      → ((x : X) (t : State) (k : Row Spelled) → P x k → Passing (q x) (λ y l. Q y (k ++ l)) t) → Passing (both r q) Q s
  pass_then {P = P} {Q = Q} {r = r} {q = q} {s = s} first rest = record { passing = then_of P Q r q s first rest }

  -- nothing is told
  abbrev pub Silent : {X : Type 0} → X → Row Spelled → Type 0
  Silent x k = k ≡ []

  -- a form that tells nothing, and then the rest
  pub pass_on : {X Y : Type 0} {Q : Y → Row Spelled → Type 0} {r : Form X} {q : X → Form Y} {s : State} →
      Passing r Silent s
      → ((x : X) (t : State) → Passing (q x) Q t) → Passing (both r q) Q s
  pass_on {Q = Q} {q = q} first rest =
      pass_then first (λ x t k so. subst (λ (m : Row Spelled). Passing (q x) (λ y l. Q y (m ++ l)) t) (sym so)
      (rest x t))

  -- and then what is given
  pub pass_last : {X Y : Type 0} {P : X → Row Spelled → Type 0} {Q : Y → Row Spelled → Type 0} {r : Form X} {f : X → Y}
      {s : State} → Passing r P s
      → ((x : X) (k : Row Spelled) → P x k → Q (f x) k) → Passing (both r (λ x. give (f x))) Q s
  pass_last {Q = Q} {f = f} first so =
      pass_then first (λ x t k good. pass_give
      (subst (λ (m : Row Spelled). Q (f x) m) (sym (append-nil k)) (so x k good)))

  -- what is seen, and a move
  pub pass_see : {X : Type 0} {f : Sight X} {s : State} → Passing (see f) Silent s
  pass_see = record { passing = just_of Silent refl }

  pub pass_move : {m : Move} {s : State} → Passing (move m) Silent s
  pass_move = record { passing = just_of Silent refl }

  -- one more element, and then the rest
  pub pass_pushed : {A Y : Type 0} {Q : Y → Row Spelled → Type 0} {xs : Row A} {x : A} {q : Row A → Form Y}
      {s : State} →
      ((t : State) → Passing (q (xs ++ x ∷ [])) Q t) → Passing (both (push xs x) q) Q s
  pass_pushed {Q = Q} {xs = xs} {x = x} {q = q} rest =
      pass_then {P = λ ys k. (ys ≡ xs ++ x ∷ []) × (k ≡ [])}
      (record { passing = just_of (λ ys k. (ys ≡ xs ++ x ∷ []) × (k ≡ [])) (refl, refl) })
      (λ ys t k so. subst (λ (m : Row Spelled). Passing (q ys) (λ y l. Q y (m ++ l)) t) (sym so.1)
      (subst (λ zs. Passing (q zs) Q t) (sym so.0) (rest t)))

  -- one token
  token_of : {X : Type 0} (P : X × Span → Row Spelled → Type 0) (how : Telling) (r : Form X) (s : State) →
      ((x : X) (t : State) → P (x, span g.offset s.at t.at) (tell how g.text s.at t.at))
      → (y : Read (X × Span)) (k : Row Spelled) → OneToken how g (may r g) s y k → Of P y k
  token_of P how r s so y k (whole {x = x} {t = t} part) = so x t
  token_of P how r s so y k (broken_off part) = tt

  pub pass_token : {X : Type 0} {P : X × Span → Row Spelled → Type 0} {how : Telling} {r : Form X} {s : State} →
      ((x : X) (t : State) → P (x, span g.offset s.at t.at) (tell how g.text s.at t.at)) → Passing (token how r) P s
  pass_token {P = P} {how = how} {r = r} {s = s} so = record { passing = token_of P how r s so }

  -- what is read, with its bytes, and as a level of its own
  bytes_of : {X : Type 0} (P : X → Row Spelled → Type 0) (r : Form X) (s : State) → Passing r P s →
      (y : Read (X × Spelled)) (k : Row Spelled) → WithBytes g (may r g) s y k → Of (λ x m. P x.0 m) y k
  bytes_of P r s one y k (with_its_bytes {x = x} {t = t} part) = one.passing (Ok (x, t)) k part
  bytes_of P r s one y k (without_bytes part) = tt

  pub pass_with_bytes : {X : Type 0} {P : X → Row Spelled → Type 0} {r : Form X} {s : State} → Passing r P s →
      Passing (with_bytes r) (λ x k. P x.0 k) s
  pass_with_bytes {P = P} {r = r} {s = s} one = record { passing = bytes_of P r s one }

  level_of : {X : Type 0} (P : X → Row Spelled → Type 0) (r : Form X) (s : State) → Passing r P (own_level s) →
      (y : Read (X × Row Span)) (k : Row Spelled) → OwnLevel (may r g) s y k → Of (λ x m. P x.0 m) y k
  level_of P r s one y k (level_read {x = x} {t = t} part) = one.passing (Ok (x, t)) k part
  level_of P r s one y k (level_stops part) = tt

  pub pass_in_level : {X : Type 0} {P : X → Row Spelled → Type 0} {r : Form X} {s : State} → Passing r P (own_level s) →
      Passing (a_level r) (λ x k. P x.0 k) s
  pass_in_level {P = P} {r = r} {s = s} one = record { passing = level_of P r s one }

  -- what waits may change, and bodies be read
  change_of : (x : Result State Fault) (y : Read (Unit {0})) (k : Row Spelled) → Changed x y k → Of Silent y k
  change_of x y k (changes is) = refl
  change_of x y k (cannot is) = tt

  pub pass_change : {c : Change} {s : State} → Passing (change c) Silent s
  pass_change {c = c} {s = s} = record { passing = change_of (changed c g s) }

  -- a token that is told by this text
  abbrev pub OneText : {X : Type 0} → Spelled → X → Row Spelled → Type 0
  OneText text x k = k ≡ text ∷ []

  pub pass_text : {X : Type 0} {text : Spelled} {r : Form X} {s : State} → Passing (token (by text) r) (OneText text) s
  pass_text = pass_token (λ x t. refl)

  -- one form, or the other
  pub pass_pick : {X : Type 0} {P : X → Row Spelled → Type 0} {r q : Form X} {s : State} (b : Bool) → Passing r P s →
      Passing q P s → Passing (pick b r q) P s
  pass_pick true one two = one
  pass_pick false one two = two

  module _ {A : Type 0} (f : A → Row Spelled) where
    -- a turn adds to what is spelled so far the tokens that it passes
    abbrev pub Grows : A → Step A → Row Spelled → Type 0
    Grows a x k = f (held x) ≡ f a ++ k

    -- a turn that passes no token adds none
    pub grows_none : (a : A) → f a ≡ f a ++ []
    grows_none a = sym (append-nil (f a))

    module _ (turn : A → Form (Step A)) (each : (a : A) (s : State) → Passing (turn a) (Grows a) s) where
      -- after one turn the others
      grown : (a b : A) (k : Row Spelled) (y : Read A) (l : Row Spelled) → f b ≡ f a ++ k →
          Of (λ c m. f c ≡ f b ++ m) y l → Of (λ c m. f c ≡ f a ++ m) y (k ++ l)
      grown a b k (Ok (c, t)) l one rest = rest ∙ ap (λ z. z ++ l) one ∙ append_assoc (f a) k l
      grown a b k (Err e) l one rest = tt

      -- turns, by what each adds
      turns_of : (a : A) (s : State) (y : Read A) (k : Row Spelled) → Turns g (λ b. may (turn b) g) a s y k →
          Of (λ b m. f b ≡ f a ++ m) y k
      turns_of a s y k (last {b = b} {t = t} part) = (each a s).passing (Ok (done b, t)) k part
      turns_of a s y k (rests {b = b} {t = t} part off) = (each a s).passing (Ok (again b, t)) k part
      turns_of a s y m (more {b = b} {t = t} {k = k} {l = l} part on rest) =
          grown a b k y l ((each a s).passing (Ok (again b, t)) k part) (turns_of b t y l rest)
      turns_of a s y k (halts part) = tt

      -- so all turns add what is passed in them
      pub pass_many : (a : A) (s : State) → Passing (many turn a) (λ b k. f b ≡ f a ++ k) s
      unfolding many
      pass_many a s = record { passing = turns_of a s }

  -- turns that tell nothing
  silent_many : {A : Type 0} (turn : A → Form (Step A)) → ((a : A) (s : State) → Passing (turn a) Silent s) →
      (a : A) (s : State) → Passing (many turn a) Silent s
  silent_many turn each a s = pass_so (pass_many (λ b. []) turn (λ b t. pass_so (each b t) (λ x k so. sym so)) a s)
      (λ x k so. sym so)

  -- ---- what tells nothing

  -- No token is passed in these rows, but for the ender of a case's item that falls through.

  -- whatever is passed
  any : {X : Type 0} {r : Form X} {s : State} → Passing r (λ x k. Unit {0}) s
  any = record { passing = λ y k part. of_any y k }
    where
      of_any : {X : Type 0} (y : Read X) (k : Row Spelled) → Of (λ x k. Unit {0}) y k
      of_any (Ok (x, t)) k = tt
      of_any (Err f) k = tt

  -- the next token, a comment, a newline and a `;`
  pub silent_next : (position : Position) (s : State) → Passing (next_token position) Silent s
  unfolding next_token
  silent_next position s = pass_on pass_see (λ n t. pass_on pass_move (λ u v. pass_give refl))

  pub silent_comment : (n : Next) (s : State) → Passing (a_comment n) Silent s
  unfolding a_comment
  silent_comment n s = pass_on pass_see (λ c t. by_comment c t)
    where
      by_comment : (c : Option Span) (t : State) → Passing (comment_by n c) Silent t
      by_comment (Some c) t = pass_on pass_move (λ u v. pass_on (silent_next Command v) (λ m w. pass_give refl))
      by_comment None t = pass_give refl

  pub silent_newline : (n : Next) (s : State) → Passing (a_newline n) Silent s
  unfolding a_newline
  silent_newline n s = pass_pick (is_newline_token n.token)
      (pass_on pass_move (λ u v. pass_on pass_change (λ x t. pass_on (silent_next Command t) (λ m w. pass_give refl))))
      (pass_give refl)

  pub silent_semicolon : (n : Next) (s : State) → Passing (a_semicolon n) Silent s
  unfolding a_semicolon
  silent_semicolon n s = pass_pick (is_semicolon n.token)
      (pass_on pass_move (λ u v. pass_on (silent_next Command v) (λ m w. pass_give refl))) (pass_give refl)

  -- a comment that is kept, a turn over comments and newlines, a linebreak and a join
  silent_kept : (cs : Row Span) (c : Option Span) (s : State) → Passing (with_comment cs c) Silent s
  silent_kept cs (Some c) s = record { passing = just_of Silent refl }
  silent_kept cs None s = pass_give refl

  silent_join_turn : (j : JoinSoFar) (s : State) → Passing (join_turn j) Silent s
  unfolding join_turn
  silent_join_turn j s = pass_on (silent_comment j.next s)
      (λ c t. pass_on (silent_kept j.join.comments c.0 t)
      (λ cs u. pass_on (silent_newline c.1 u) (λ l v. pass_give refl)))

  pub silent_linebreak : (cs : Row Span) (n : Next) (s : State) → Passing (a_linebreak cs n) Silent s
  unfolding a_linebreak
  silent_linebreak cs n s = silent_many join_turn silent_join_turn _ s

  pub silent_join : (broken : Bool) (s : State) → Passing (a_join broken) Silent s
  unfolding a_join
  silent_join broken s = pass_on (silent_next Command s)
      (λ n t. pass_on (silent_many join_turn silent_join_turn _ t) (λ j u. pass_give refl))

  -- the `(` before the patterns of an item
  pub silent_bracket : (n : Next) (s : State) → Passing (an_open_bracket n) Silent s
  unfolding an_open_bracket
  silent_bracket n s = pass_pick (is_paren n.token) (pass_on pass_move (λ u v. silent_next Command v)) (pass_give refl)

  -- the ender of an item: of `;&` its text is told, of `;;` nothing
  pub pass_ender : (falling : Bool) (s : State) → Passing (an_ender falling) (λ e k. k ≡ spell_falls falling) s
  unfolding an_ender
  pass_ender true s =
      pass_then pass_text (λ u v k so. pass_on pass_see
      (λ p t. pass_on (silent_next Command t)
      (λ n z. pass_on (silent_linebreak [] n z) (λ l y. pass_give (append-nil k ∙ so)))))
  pass_ender false s =
      pass_on (pass_token (λ u v. refl))
      (λ u v. pass_on pass_see (λ p t. pass_on (silent_next Command t)
      (λ n z. pass_on (silent_linebreak [] n z) (λ l y. pass_give refl))))

  -- a fault
  pub pass_unexpected : {X : Type 0} {P : X → Row Spelled → Type 0} (inner : Inner) (n : Next) (s : State) →
      Passing (unexpected inner n) P s
  pass_unexpected inner n s = pass_then any (λ w t k so. pass_stop)

-- ---- the bytes of a token, and a word

module _ (B : List ℕ) (g : Given) (stands : g.text ≡ drop g.offset B) where
  -- the bytes of a token are the text of its span
  pub raw_at : (p q : ℕ) → raw g.text p q ≡ text_at B (span g.offset p q)
  raw_at p q =
      let inside : raw g.text p q ≡ take (q - p) (drop (g.offset + p) B) = ap (λ T. take (q - p) (drop p T)) stands
      ∙ ap (take (q - p)) (drop-drop p g.offset B) in
      let many : q - p ≡ (g.offset + q) - (g.offset + p) = omega arith in
      inside ∙ ap (λ n. take n (drop (g.offset + p) B)) many

  -- a word is told by its bytes
  pub pass_word : (inner : Inner) (s : State) → Passing g (a_word inner) (λ w k. k ≡ spell_word (shape_of_word B w)) s
  unfolding a_word
  pass_word inner s =
      pass_on g (pass_see g) (λ p t. pass_last g
      (pass_token g {P = λ x k. k ≡ text_at B x.1 ∷ []} (λ x u. ap (λ z. z ∷ []) (raw_at t.at u.at)))
      (λ x k so. so))
