-- What stands between commands is read wherever its bytes stand up to the `)` of their list: tokens,
-- comments, newlines, separators and joins. Before these stand the laws of forms for all that is read so.
use Rattle.std.proofs.Common.{◌≡◌, ℕ, ◌≤◌, Bool, true, false, ◌||◌, Ok, Err, List, List as Row, [], ◌∷◌, ◌++◌, drop, map, option_map, Option, Some, None, is_some, refl, sym, ap, subst, ◌∙◌, arith}
use Rattle.std.proofs.lemmas.List.{map-append}
use Rattle.shgrammar.specs.declared.keep.Keep.TheVariants.{Whole}
use Rattle.shgrammar.specs.Characters.{number_sign}
use Rattle.shgrammar.specs.declared.token.Next.{Next}
use Rattle.shgrammar.specs.declared.token.Position.{Position}
use Rattle.shgrammar.specs.declared.token.Position.TheVariants.{Command}
use Rattle.shgrammar.specs.declared.token.Separator.{Separator}
use Rattle.shgrammar.specs.declared.token.Separator.TheVariants.{Semicolon, Ampersand}
use Rattle.shast.specs.declared.tree.Span.{Span}
use Rattle.shast.specs.Tree.{AJoinOf}
use Rattle.shast.specs.Shape.{text_at, shape_of_join}
use Rattle.shgrammar.specs.Standing.{raw_stands, next_newline, before_blanks}
use Rattle.shgrammar.specs.Comments.{span, comment_at, past_comment}
use Rattle.shgrammar.specs.Sights.{Given, given, State, Move, a_comment_on}
use Rattle.shgrammar.specs.Form.{Telling, Read, Form, give, move, push, token, many, ◌>>=◌, ◌>>◌, Step, step_if, does}
use Rattle.shgrammar.specs.Words.{Inner}
use Rattle.shgrammar.specs.Commands.{is_empty, pick, next_token, is_newline_token, is_semicolon, a_semicolon, a_join_of, comment_by, a_comment, a_newline, unexpected, JoinSoFar, join_so_far, with_comment, join_turn, a_join, separator_of, separator_by, a_separator, is_background, ASeparator, past_separator}
use Rattle.shgrammar.specs.Compounds.{a_linebreak}
use Rattle.shgrammar.proofs.Holds.{Holds, move_low}
use Rattle.shgrammar.proofs.NodesInLimit.{before_blanks_low}
use Rattle.shgrammar.proofs.Alike.{SameStep}
use Rattle.shgrammar.proofs.Ahead.{ListEnds, same_next}
use Rattle.shgrammar.proofs.Asked.{Good, good_high, comment_end, same_raw_stands}
use Rattle.shgrammar.proofs.FormsElsewhere.{go_bodies, over, Back, each_form_back, Found, Goes, go_give, go_push, go_see, go_move, go_then, go_so, go_stopped, go_pick, go_at, go_token, go_many, same_texts}
use Rattle.shgrammar.proofs.AlikeCommands.{both_broken}
use Rattle.shgrammar.specs.declared.edition.Edition.{Edition}
use Rattle.shgrammar.specs.Tokens.{next_in}

-- ---- rows of the same shapes

-- rows of the same shapes have them with one more of the same shape
pub rows_more : {A C D : Type 0} (f : A → D) (k : C → D) (xs : Row A) (x : A) (ys : Row C) (y : C) → map f xs ≡ map k ys
    → f x ≡ k y → map f (xs ++ x ∷ []) ≡ map k (ys ++ y ∷ [])
rows_more f k xs x ys y same one = map-append f xs (x ∷ []) ∙ rw (same, one) (sym (map-append k ys (y ∷ [])))

-- of rows of the same shapes both are empty, or none is
pub rows_empty : {A C D : Type 0} (f : A → D) (k : C → D) (xs : Row A) (ys : Row C) → map f xs ≡ map k ys →
    is_empty xs ≡ is_empty ys
rows_empty f k [] [] same = refl
rows_empty f k [] (y ∷ ys) same = absurd cc
rows_empty f k (x ∷ xs) [] same = absurd cc
rows_empty f k (x ∷ xs) (y ∷ ys) same = refl

-- of two that may be missing and are the same both are there, or none is
some_same : {A C D : Type 0} (f : A → D) (k : C → D) (x : Option A) (y : Option C) → option_map f x ≡ option_map k y →
    is_some x ≡ is_some y
some_same f k None None same = refl
some_same f k None (Some y) same = absurd cc
some_same f k (Some x) None same = absurd cc
some_same f k (Some x) (Some y) same = refl

-- ---- what is the same in both texts

module _ (B B2 : List ℕ) where
  -- two spans have the same text, or neither is there
  abbrev pub SameText : Option Span → Option Span → Type 0
  SameText c d = option_map (text_at B) c ≡ option_map (text_at B2) d

  -- two comments have the same text, or neither is there, and the same token stands after them
  abbrev pub SameRemark : Option Span × Next → Option Span × Next → Type 0
  SameRemark x y = SameText x.0 y.0 × (x.1 ≡ y.1)

  -- two rows of comments have the same texts
  abbrev pub SameComments : Row Span → Row Span → Type 0
  SameComments cs ds = map (text_at B) cs ≡ map (text_at B2) ds

  -- two joins break the line or neither does, with comments of the same texts and the same token after them
  abbrev pub SameJoin : JoinSoFar → JoinSoFar → Type 0
  SameJoin j k = (j.join.broken ≡ k.join.broken) × (SameComments j.join.comments k.join.comments × (j.next ≡ k.next))

  -- two joins have the same shape, and the same token stands after them
  abbrev pub SameJoined : AJoinOf Span × Next → AJoinOf Span × Next → Type 0
  SameJoined x y = (shape_of_join B x.0 ≡ shape_of_join B2 y.0) × (x.1 ≡ y.1)

  -- by the same test two joins go on, or both end
  join_step : (p : Bool) (j k : JoinSoFar) → SameJoin j k → SameStep SameJoin (step_if p j) (step_if p k)
  join_step true j k same = same
  join_step false j k same = same

  -- after the same newline, or none, two joins go on, or both end
  join_steps : (l m : Bool × Next) → l ≡ m → (broken pale : Bool) → broken ≡ pale → (cs ds : Row Span) →
      SameComments cs ds
      → SameStep SameJoin (step_if l.0 (join_so_far (a_join_of (broken || l.0) cs) l.1))
      (step_if m.0 (join_so_far (a_join_of (pale || m.0) ds) m.1))
  join_steps l m is broken pale same cs ds all =
      subst (λ (z : Bool × Next). SameStep SameJoin (step_if l.0 (join_so_far (a_join_of (broken || l.0) cs) l.1))
      (step_if z.0 (join_so_far (a_join_of (pale || z.0) ds) z.1))) is
      (join_step l.0 (join_so_far (a_join_of (broken || l.0) cs) l.1) (join_so_far (a_join_of (pale || l.0) ds) l.1)
      (ap (λ b. b || l.0) same, (all, refl)))

  -- both break the line so far, or have a comment, or none does
  or_same : (b c : Bool) (x y : Option Span) → b ≡ c → SameText x y → (b || is_some x) ≡ (c || is_some y)
  or_same b c x y one two = rw (one, some_same (text_at B) (text_at B2) x y two) refl

  -- so the joins have the same shape
  joins_same : (j k : JoinSoFar) → SameJoin j k → SameJoined (j.join, j.next) (k.join, k.next)
  joins_same j k same = (rw (same.0, same.1.0) refl, same.1.1)

-- two separators are of the same kind, or neither is there, and the same token stands after them; the offset
-- after one does not count
abbrev pub SameSeparator : Option ASeparator × Next → Option ASeparator × Next → Type 0
SameSeparator x y = (is_background x.0 ≡ is_background y.0)
    × ((is_some (past_separator x.0) ≡ is_some (past_separator y.0)) × (x.1 ≡ y.1))

-- ---- the laws of forms

-- Those of `FormsElsewhere`, with the texts and the places that they speak of left to be inferred.

module _ {edition : Edition} {T U : List ℕ} {a M : ℕ} {to : ℕ → ℕ} {limit : ℕ}
    {E : ListEnds edition T U a M to limit} {o o2 : ℕ} {B B2 : List ℕ} {stands : T ≡ drop o B}
    {stands_there : U ≡ drop o2 B2} where
  -- S holds of what is given, if it holds of that
  pub gives : {X Y : Type 0} {S : X → Y → Type 0} {x : X} {y : Y} → S x y →
      Goes E o o2 B B2 stands stands_there S (give x) (give y)
  gives so = go_give E o o2 B B2 stands stands_there so

  -- S holds of two rows with one more element, if it holds of those
  pub pushes : {A C : Type 0} {S : Row A → Row C → Type 0} {xs : Row A} {x : A} {ys : Row C} {y : C} →
      S (xs ++ x ∷ []) (ys ++ y ∷ []) → Goes E o o2 B B2 stands stands_there S (push xs x) (push ys y)
  pushes so = go_push E o o2 B B2 stands stands_there so

  -- where S holds of what two forms read, and R of what follows wherever S does, R holds of both in a row
  pub then : {X Y V W : Type 0} {S : X → Y → Type 0} {R : V → W → Type 0} {r : Form X} {q : Form Y} {f : X → Form V}
      {k : Y → Form W} → Goes E o o2 B B2 stands stands_there S r q → ((x : X) (y : Y) → S x y →
      Goes E o o2 B B2 stands stands_there R (f x) (k y)) → Goes E o o2 B B2 stands stands_there R (r >>= f) (q >>= k)
  then first rest = go_then E o o2 B B2 stands stands_there first rest

  -- a move is made in both texts
  pub moves_on : {m : Move} → Goes E o o2 B B2 stands stands_there (λ x y. Unit {0}) (move m) (move m)
  moves_on = go_move E o o2 B B2 stands stands_there

  -- S holds of one form or the other, by tests that are equal, where it holds of each
  pub picks : {X Y : Type 0} {S : X → Y → Type 0} {r u : Form X} {q v : Form Y} (b c : Bool) → b ≡ c →
      Goes E o o2 B B2 stands stands_there S r q →
      Goes E o o2 B B2 stands stands_there S u v → Goes E o o2 B B2 stands stands_there S (pick b r u) (pick c q v)
  picks b c is one two = go_pick E o o2 B B2 stands stands_there b c is one two

  -- S holds of forms by what is the same, where it holds of them by each value
  pub at_same : {Z X Y : Type 0} {S : X → Y → Type 0} (r : Z → Form X) (q : Z → Form Y) →
      ((n : Z) → Goes E o o2 B B2 stands stands_there S (r n) (q n)) →
      (n m : Z) → n ≡ m → Goes E o o2 B B2 stands stands_there S (r n) (q m)
  at_same r q each n m same = go_at E o o2 B B2 stands stands_there r q each n m same

  -- an operator is read in both texts, told in whatever way
  pub marks : {how : Telling} {m : Move} → Goes E o o2 B B2 stands stands_there (λ x y. Unit {0}) (token how (move m))
      (token how (move m))
  marks = go_so E o o2 B B2 stands stands_there (go_token E o o2 B B2 stands stands_there moves_on) (λ x y so. tt)

  -- an operator of two moves is read in both texts
  pub two_marks : {how : Telling} {m k : Move} →
      Goes E o o2 B B2 stands stands_there (λ x y. Unit {0}) (token how (move m >> move k))
      (token how (move m >> move k))
  two_marks = go_so E o o2 B B2 stands stands_there
      (go_token E o o2 B B2 stands stands_there {S = λ x y. Unit {0}} (then moves_on (λ u v all. moves_on)))
      (λ x y so. tt)

  -- S holds of what repetitions read, where it holds at their start and each turn keeps it
  pub repeats : {A C : Type 0} (S : A → C → Type 0) (turn : A → Form (Step A)) (turn2 : C → Form (Step C)) →
      ((x : A) (y : C) → S x y → Goes E o o2 B B2 stands stands_there (SameStep S) (turn x) (turn2 y)) →
      (x : A) (y : C) → S x y →
      Goes E o o2 B B2 stands stands_there S (many turn x) (many turn2 y)
  repeats S turn turn2 each x y so = go_many E o o2 B B2 stands stands_there S turn turn2 each x y so

  -- where the first text has a fault, nothing is said of the second
  pub stopped : {X : Type 0} {S : X → X → Type 0} (inner : Inner) (n : Next) {q : Form X} →
      Goes E o o2 B B2 stands stands_there S (unexpected inner n) q
  stopped inner n = go_stopped E o o2 B B2 stands stands_there

  -- the token after blanks is the same there
  pub next_same : (position : Position) → Goes E o o2 B B2 stands stands_there (λ n m. n ≡ m) (next_token position)
      (next_token position)
  unfolding next_token
  next_same position = then (go_see E o o2 B B2 stands stands_there
      (λ s from e. ap (next_in edition) (same_next E position e))) (λ n m same. then moves_on (λ x y all. gives same))

-- ---- comments

-- A comment stands there with the same text, or none stands in either text.

module _ {edition : Edition} {T U : List ℕ} {a M : ℕ} {to : ℕ → ℕ} {limit : ℕ}
    (E : ListEnds edition T U a M to limit) (o o2 : ℕ) (B B2 : List ℕ) (stands : T ≡ drop o B)
    (stands_there : U ≡ drop o2 B2) where
  -- what r reads in the one text q reads in the other, and S holds of the two: `Goes` of
  -- these texts and places
  abbrev Goes2 : {X Y : Type 0} → (X → Y → Type 0) → Form X → Form Y → Type 0
  Goes2 S r q = Goes E o o2 B B2 stands stands_there S r q

  -- what is looked for ahead from p on is found before M, or at it
  abbrev G : ℕ → Type 0
  G p = Good T a M p

  -- what is given of both texts, and the state in the second
  abbrev g : Given
  g = given edition T o

  abbrev h : Given
  h = given edition U o2

  abbrev to_there : State → State
  to_there s = over E o o2 B B2 stands stands_there s

  -- after a comment of the same text the same token is read in both texts
  comment_after : (n : Next) (c d : Span) → text_at B c ≡ text_at B2 d →
      Goes2 (SameRemark B B2) (comment_by n (Some c)) (comment_by n (Some d))
  comment_after n c d same = then moves_on (λ x y all. then (next_same Command) (λ m k so. gives (ap Some same, so)))

  module _ (n : Next) (s : State) (from : a ≤ s.at) where
    -- the place of the reading, and that the second text has the same comment there, or none
    abbrev p : ℕ
    p = s.at

    abbrev FoundThere : Option Span × Next → State → Type 0
    FoundThere x t = Found E o o2 B B2 stands stands_there (SameRemark B B2) (a_comment n) s x t

    -- where no comment is told no `#` stands
    no_comment : (b : Bool) → raw_stands T p number_sign ≡ b → comment_at T o p ≡ None →
        raw_stands T p number_sign ≡ false
    unfolding comment_at
    no_comment true e is = absurd
        (let no : ◌≡◌ {A = Option Span} (Some (span o p (before_blanks T (next_newline T p)))) None = rw e at is in cc)
    no_comment false e is = e

    -- where no comment is told none is told there either
    none_there : comment_at T o p ≡ None → FoundThere (None, n) s
    unfolding a_comment comment_at
    none_there is = λ e. let none = no_comment (raw_stands T p number_sign) refl is in
        ((None, n), (rw (same_raw_stands E p number_sign from (good_high E e), none) refl, (refl, refl)))

    -- where a comment is told a `#` stands, and the comment goes to the end of the line but for blanks
    hash_there : (b : Bool) → raw_stands T p number_sign ≡ b → (c : Span) → comment_at T o p ≡ Some c →
        (raw_stands T p number_sign ≡ true) × (span o p (before_blanks T (next_newline T p)) ≡ c)
    unfolding comment_at
    hash_there true e c is = (
      e,
      let same : Some (span o p (before_blanks T (next_newline T p))) ≡ Some c =
          rw e at is in cc,
    )
    hash_there false e c is = absurd (let no : ◌≡◌ {A = Option Span} None (Some c) = rw e at is in cc)

    -- where a `#` stands, the place after the comment is that of the next newline
    past_is : raw_stands T p number_sign ≡ true → past_comment T p ≡ next_newline T p
    unfolding past_comment
    past_is e = rw e refl

    -- where a `#` stands there, a comment is told there
    comment_is : raw_stands U (to p) number_sign ≡ true →
        comment_at U o2 (to p) ≡ Some (span o2 (to p) (before_blanks U (next_newline U (to p))))
    unfolding comment_at
    comment_is e = rw e refl

    module _ (c : Span) (is : comment_at T o p ≡ Some c) where
      -- the state after the comment
      abbrev on : State
      on = record { at = past_comment T p; waiting = s.waiting; bodies = s.bodies }

      -- a `#` stands where this comment is told, and the comment goes to the end of the line but for blanks
      hash : (raw_stands T p number_sign ≡ true) × (span o p (before_blanks T (next_newline T p)) ≡ c)
      hash = hash_there (raw_stands T p number_sign) refl c is

      -- where this comment is read here, one of the same text is read there
      some_there : (x : Read (Option Span × Next)) → does (comment_by n (Some c)) Whole g s ≡ x →
          Holds (Back E o o2 B B2 stands stands_there s) x → Holds (Back E o o2 B B2 stands stands_there on) x
          → Holds FoundThere x
      unfolding a_comment
      some_there (Ok (x, t)) at back back_on =
          λ e. let here = back.1 e in
          let near = good_high E (subst (λ (q : ℕ). G q) (past_is hash.0) (back_on.1 e)) in
          let w = comment_end E p here hash.0 near in
          let d = span o2 (to p) (before_blanks U (next_newline U (to p))) in
          let text : text_at B c ≡ text_at B2 d = ap (text_at B) (sym hash.1)
          ∙ same_texts E o o2 B B2 stands stands_there p (before_blanks T (next_newline T p)) from
          (omega (arith, from, w.1)) (blanks_near (next_newline T p) near)
          ∙ ap (λ (q : ℕ). text_at B2 (span o2 (to p) q)) (sym w.0) in
          let there = comment_is (same_raw_stands E p number_sign from (good_high E here) ∙ hash.0) in
          let m = subst (Holds (Found E o o2 B B2 stands stands_there (SameRemark B B2) (comment_by n (Some d)) s)) at
          ((comment_after n c d text).go s from) e in (
            m.0,
            (
              subst (λ (z : Option Span). does (comment_by n z) Whole h (to_there s) ≡ Ok (m.0, to_there t))
                  (sym there) m.1.0,
              m.1.1,
            ),
          )
        where
          blanks_near : (q : ℕ) → q ≤ M → before_blanks T q ≤ M
          blanks_near q le = omega (arith, le, before_blanks_low T q)
      some_there (Err f) at back back_on = tt

    -- what is read by the comment of the first text, or none, is found there
    comment_there : (c : Option Span) → comment_at T o p ≡ c → Holds FoundThere (does (comment_by n c) Whole g s)
    comment_there None is = none_there is
    comment_there (Some c) is =
        some_there c is (does (comment_by n (Some c)) Whole g s) refl
        (each_form_back E o o2 B B2 stands stands_there (comment_by n (Some c)) s from).told
        (each_form_back E o o2 B B2 stands stands_there (next_token Command >>= λ m. give (Some c, m)) (on c is)
        (omega (arith, from, move_low a_comment_on T p))).told

  -- a comment of the same text is read in both texts, or none in both
  comment : (n : Next) → Goes2 (SameRemark B B2) (a_comment n) (a_comment n)
  unfolding a_comment
  comment n = record { go = λ s from. comment_there n s from (comment_at T o s.at) refl }

module _ {edition : Edition} {T U : List ℕ} {a M : ℕ} {to : ℕ → ℕ} {limit : ℕ}
    {E : ListEnds edition T U a M to limit} {o o2 : ℕ} {B B2 : List ℕ} {stands : T ≡ drop o B}
    {stands_there : U ≡ drop o2 B2} where
  -- a comment of the same text is read in both texts also where the tokens are said to be equal
  pub comment_at_same : (n m : Next) → n ≡ m → Goes E o o2 B B2 stands stands_there (SameRemark B B2) (a_comment n)
      (a_comment m)
  comment_at_same n m same = at_same a_comment a_comment (comment E o o2 B B2 stands stands_there) n m same

  -- ---- newlines and joins

  -- Newlines, with the bodies after them, separators and joins: as many, with the same comments.

  -- a newline, with the bodies after it, or a `;` stands in both texts, or in none
  pub newline_same : (n m : Next) → n ≡ m →
      Goes E o o2 B B2 stands stands_there (λ x y. x ≡ y) (a_newline n) (a_newline m)
  unfolding a_newline
  newline_same n m same = at_same a_newline a_newline newline_both n m same
    where
      newline_both : (n : Next) → Goes E o o2 B B2 stands stands_there (λ x y. x ≡ y) (a_newline n) (a_newline n)
      newline_both n =
          picks (is_newline_token n.token) _ refl
          (then moves_on (λ x y all.
          then (go_bodies E o o2 B B2 stands stands_there)
          (λ u v any. then (next_same Command) (λ m k same. gives (ap (λ z. (true, z)) same))))) (gives refl)

  pub semicolon_same : (n m : Next) → n ≡ m → Goes E o o2 B B2 stands stands_there (λ x y. x ≡ y) (a_semicolon n)
      (a_semicolon m)
  unfolding a_semicolon
  semicolon_same n m same = at_same a_semicolon a_semicolon semicolon_both n m same
    where
      semicolon_both : (n : Next) → Goes E o o2 B B2 stands stands_there (λ x y. x ≡ y) (a_semicolon n) (a_semicolon n)
      semicolon_both n = picks (is_semicolon n.token) _ refl
          (then moves_on (λ x y all. then (next_same Command) (λ m k same. gives (ap (λ z. (true, z)) same))))
          (gives refl)

  -- a separator of the same kind is read in both texts, or none in both
  separator_by_same : (n : Next) (s : Option Separator) →
      Goes E o o2 B B2 stands stands_there SameSeparator (separator_by n s) (separator_by n s)
  separator_by_same n (Some s) =
      then marks (λ x y all. then (next_same Command)
      (λ m k same. gives (same_kind s x.1.«end» y.1.«end», (refl, same))))
    where
      same_kind : (s : Separator) (p q : ℕ) → is_background (Some (s, p)) ≡ is_background (Some (s, q))
      same_kind Semicolon p q = refl
      same_kind Ampersand p q = refl
  separator_by_same n None = gives (refl, (refl, refl))

  pub separator_same : (n m : Next) → n ≡ m → Goes E o o2 B B2 stands stands_there SameSeparator (a_separator n)
      (a_separator m)
  unfolding a_separator
  separator_same n m same = at_same a_separator a_separator separator_both n m same
    where
      separator_both : (n : Next) → Goes E o o2 B B2 stands stands_there SameSeparator (a_separator n) (a_separator n)
      separator_both n = separator_by_same n (separator_of n.token)

  -- comments of the same texts are so with one more, or none
  kept : (cs ds : Row Span) (c d : Option Span) → SameComments B B2 cs ds → SameText B B2 c d →
      Goes E o o2 B B2 stands stands_there (SameComments B B2) (with_comment cs c) (with_comment ds d)
  kept cs ds None None all one = gives all
  kept cs ds None (Some d) all one = absurd cc
  kept cs ds (Some c) None all one = absurd cc
  kept cs ds (Some c) (Some d) all one = pushes (rows_more (text_at B) (text_at B2) cs c ds d all cc)

  -- one more comment or newline of a join is read in both texts, or none, and the join has the same shape
  join_on : (j k : JoinSoFar) → SameJoin B B2 j k → Goes E o o2 B B2 stands stands_there (SameStep (SameJoin B B2))
      (join_turn j) (join_turn k)
  unfolding join_turn
  join_on j k same =
      then (comment_at_same j.next k.next same.1.1)
      (λ c d so. then (kept j.join.comments k.join.comments c.0 d.0 same.1.0 so.0)
      (λ cs ds all. then (newline_same c.1 d.1 so.1)
      (λ l m is. gives (join_steps B B2 l m is _ _
      (or_same B B2 j.join.broken k.join.broken c.0 d.0 same.0 so.0) cs ds all))))

  pub join_same : (broken pale : Bool) → broken ≡ pale →
      Goes E o o2 B B2 stands stands_there (SameJoined B B2) (a_join broken) (a_join pale)
  unfolding a_join
  join_same broken pale is =
      then (next_same Command) (λ n m same.
      then (repeats (SameJoin B B2) join_turn join_turn join_on _ _ (both_broken broken pale n m is same, (refl, same)))
      (λ j k so. gives (joins_same B B2 j k so)))

  -- newlines and comments are read in both texts, after comments of the same texts
  pub linebreak_same : (cs ds : Row Span) (n m : Next) → SameComments B B2 cs ds → n ≡ m →
      Goes E o o2 B B2 stands stands_there (SameJoin B B2) (a_linebreak cs n) (a_linebreak ds m)
  unfolding a_linebreak
  linebreak_same cs ds n m all same = repeats (SameJoin B B2) join_turn join_turn join_on _ _ (refl, (all, same))
