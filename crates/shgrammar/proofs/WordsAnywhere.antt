-- A word is read wherever its bytes stand, before a byte that ends words and is no `(`.
use Rattle.std.proofs.Common.{◌≡◌, ℕ, zero, suc, ◌+◌, ◌-◌, ◌<◌, true, false, Ok, Err, List, List as Row, [], ◌∷◌, ◌++◌, map, take, drop, slice_get, refl, sym, ap, subst, ◌∙◌, arith}
use Rattle.shgrammar.specs.Characters.{left_parenthesis}
use Rattle.shgrammar.specs.declared.keep.Keep.TheVariants.{Whole}
use Rattle.shgrammar.specs.declared.mode.Mode.{Mode}
use Rattle.shgrammar.specs.declared.mode.Mode.TheVariants.{Plain}
use Rattle.shgrammar.specs.declared.mode.Piece.{Piece}
use Rattle.shgrammar.specs.declared.mode.Piece.TheVariants as pieces
use Rattle.shgrammar.specs.Substitutions.{a_substitution, one_substitution}
use Rattle.shast.specs.declared.tree.Span.{Span}
use Rattle.shast.specs.Shape.{Shape, text_at, shape_of_subst, shape_of_word}
use Rattle.shgrammar.specs.Comments.{span}
use Rattle.shgrammar.specs.Standing.{is_byte}
use Rattle.shgrammar.specs.Bytes.{ends, ends_word, byte_at, stands}
use Rattle.shast.specs.Tree.{ASubst, AWord, AWordOf, word, substs_of}
use Rattle.shgrammar.specs.Sights.{Sight, seen, Move, Given, given, State, standing}
use Rattle.shgrammar.specs.Form.{moved_on, many, Spelled, as_it_stands, Read, ◌▸◌, Form, give, see, move, both, token, Step, again, done, does, Comes, may, raw, Just, just, Then, and_then, or_stops, OneToken, whole, broken_off}
use Rattle.shgrammar.specs.Words.{WordSoFar, word_so_far, opened, piece_row, a_piece, single, escaped_turn, backquoted_text, Inner, contents, a_word, dollar_single}
use Rattle.shgrammar.specs.Levels.{level, ReadsWord}
use Rattle.shgrammar.proofs.Stretches.{get_drop}
use Rattle.shgrammar.proofs.Holds.{tells_seen, tells_many, tells_level, tells_any, Holds, holds_then, Tells, Turned, tells_so, tells_then, tells_when, tells_token, AtOrAfter, no_form_goes_back, tells_inside}
use Rattle.shgrammar.proofs.SameBytes.{Kept}
use Rattle.shgrammar.proofs.EndsByLimit.{there}
use Rattle.shgrammar.proofs.PiecesElsewhere.{word_in}
use Rattle.shgrammar.proofs.LevelsAnywhere.{level_anywhere, substs_shape}
use Rattle.shgrammar.proofs.Spelling.{raw_at}
use Rattle.shgrammar.proofs.OneOutcome.{computed_is_only}
use Rattle.shgrammar.proofs.SameLine.{same_front}
use Rattle.shgrammar.specs.declared.edition.Edition.{Edition}

-- what just gives passes no token, and a token that is told as it stands is told by its bytes
just_is : {X : Type 0} {x : X} {t : State} (y : Read X) (k : Row Spelled) → Just x t y k → (y ≡ Ok (x, t)) × (k ≡ [])
just_is y k just = (refl, refl)

token_is : {X : Type 0} {g : Given} {r : Comes X} {s : State} (y : Read (X × Span)) (k : Row Spelled) →
    OneToken as_it_stands g r s y k → (x : X × Span) (t : State) → y ≡ Ok (x, t) → k ≡ raw g.text s.at t.at ∷ []
token_is {X = X} {g = g} {s = s} y k (whole {x = a} {t = u} part) x t is =
    let same : ◌≡◌ {A = (X × Span) × State} ((a, span g.offset s.at u.at), u) (x, t) = cc in
    ap (λ (z : (X × Span) × State). raw g.text s.at z.1.at ∷ []) same
token_is y k (broken_off part) x t is = absurd cc

-- what holds of the tokens of one form with those of the next holds of those of both
then_is : {X Y : Type 0} {r : Comes X} {q : X → Comes Y} {s : State} (P : Row Spelled → Type 0) (c : Y) (u : State)
    (y : Read Y) (k : Row Spelled) → Then r q s y k → y ≡ Ok (c, u)
    → ((x : X) (t : State) (m l : Row Spelled) → r s (Ok (x, t)) m → q x t (Ok (c, u)) l → P (m ++ l)) → P k
then_is {Y = Y} {q = q} P c u y k (and_then {x = x} {t = t} {k = m} {l = l} one two) is so =
    so x t m l one (subst (λ (z : Read Y). q x t z l) is two)
then_is P c u y k (or_stops one) is so = absurd cc

-- a word has its span
pub word_span : (inner : Inner) (g : Given) (s t : State) (w : AWord) (k : Row Spelled) →
    may (a_word inner) g s (Ok (w, t)) k → (ss : Row ASubst) × (w ≡ word (span g.offset s.at t.at) (substs_of ss))
unfolding a_word
word_span inner g s t w k part =
    spanned (does (contents inner Plain (g.offset + s.at) []) Whole g s)
    (sym ((computed_is_only (a_word inner) g s).only _ _ part))
  where
    spanned : (x : Read (Row ASubst)) →
        ◌▸◌ {Y = AWord} (◌▸◌ {Y = Row ASubst × Span} x (λ b u. Ok ((b, span g.offset s.at u.at), u)))
        (λ z u. Ok (word z.1 (substs_of z.0), u)) ≡ Ok (w, t) → (ss : Row ASubst)
        × (w ≡ word (span g.offset s.at t.at) (substs_of ss))
    spanned (Ok (ss, u)) read =
        let same : ◌≡◌ {A = AWord × State} (word (span g.offset s.at u.at) (substs_of ss), u) (w, t) = cc in (
          ss,
          sym (ap (λ (z : AWord × State). z.0) same)
              ∙ ap (λ (z : AWord × State). word (span g.offset s.at z.1.at) (substs_of ss)) same,
        )
    spanned (Err f) read = absurd cc

-- what a word tells is its bytes as they stand
pub word_told : (inner : Inner) (g : Given) (s t : State) (w : AWord) (k : Row Spelled) →
    may (a_word inner) g s (Ok (w, t)) k → k ≡ raw g.text s.at t.at ∷ []
unfolding a_word
word_told inner g s t w k part =
    then_is (λ k. k ≡ raw g.text s.at t.at ∷ []) w t (Ok (w, t)) k part refl
    (λ x u m l one rest. let first = just_is (Ok (x, u)) m one in
    let here_is = first.0 in
    let here_too : ◌≡◌ {A = ℕ × State} (x, u) (g.offset + s.at, s) = cc in
    then_is (λ l. m ++ l ≡ raw g.text s.at t.at ∷ []) w t (Ok (w, t)) l rest refl
    (λ z v n j two end. let last = just_is (Ok (w, t)) j end in
    let told = token_is (Ok (z, v)) n two z v refl in
    let end_is = last.0 in
    let end_too : ◌≡◌ {A = AWord × State} (w, t) (word z.1 (substs_of z.0), v) = cc in
    rw (first.1, last.1, told, ap (λ (y : ℕ × State). y.1) here_too, ap (λ (y : AWord × State). y.1) end_too) refl))

-- from p on in the first text, and from q on in the second
same_front_of : (A B : List ℕ) (p q n r : ℕ) → take n (drop q B) ≡ take n (drop p A) → r < n →
    slice_get B (q + r) ≡ slice_get A (p + r)
same_front_of A B p q n r same lt = sym (get_drop q B r) ∙ same_front n (drop p A) (drop q B) same r lt ∙ get_drop p A r

-- the place in the second text for r in the first
abbrev pub from_to : ℕ → ℕ → ℕ → ℕ
from_to p q r = q + (r - p)

-- for p itself that is q
pub begin_there : (p q : ℕ) → from_to p q p ≡ q
begin_there p q = omega arith

-- where they have the same n bytes from there on, the second keeps those of the first
pub kept_by_bytes : (edition : Edition) (T U : List ℕ) (p q n : ℕ) → take n (drop q U) ≡ take n (drop p T) →
    Kept edition T U p (p + n) (from_to p q)
kept_by_bytes edition T U p q n same = record {
  under = omega arith;
  on = λ r k from. omega (arith, from);
  same = λ r from lt. let is : p + (r - p) ≡ r = omega (arith, from) in
      same_front_of T U p q n (r - p) same (omega (arith, lt, from)) ∙ ap (slice_get T) is;
}

-- the bytes of a text, from an offset on
abbrev pub padded : ℕ → List ℕ → List ℕ
padded zero T = T
padded (suc o) T = 0 ∷ padded o T

-- from that offset on they are the text
pub padded_is : (o : ℕ) (T : List ℕ) → T ≡ drop o (padded o T)
padded_is zero T = refl
padded_is (suc o) T = padded_is o T

module _ (room : ℕ) (g h : Given) (p q n : ℕ) (same : take n (drop q h.text) ≡ take n (drop p g.text))
    (ender : ends (byte_at h.text (q + n)) ≡ true) (no_open : is_byte (byte_at h.text (q + n)) left_parenthesis ≡ false)
    (B C : List ℕ) (stands_in : g.text ≡ drop g.offset B) (stands_there : h.text ≡ drop h.offset C) where
  -- the other text, read by the edition of this one
  abbrev k : Given
  k = given g.edition h.text h.offset

  -- the n bytes from p on stand in it from q on
  K : Kept g.edition g.text h.text p (p + n) (from_to p q)
  K = kept_by_bytes g.edition g.text h.text p q n same

  end_there : from_to p q (p + n) ≡ q + n
  end_there = omega arith

  -- after them a word ends, and no `(` stands
  here_ends : ends (byte_at h.text (from_to p q (p + n))) ≡ true
  here_ends = subst (λ r. ends (byte_at h.text r) ≡ true) (sym end_there) ender

  here_no_open : is_byte (byte_at g.text (p + n)) left_parenthesis ≡ false →
      is_byte (byte_at h.text (from_to p q (p + n))) left_parenthesis ≡ false
  here_no_open e = subst (λ r. is_byte (byte_at h.text r) left_parenthesis ≡ false) (sym end_there) no_open

  -- a state, in the other text
  abbrev over : State → State
  over s = there K g.offset h.offset s

  -- what ends after those bytes is read by r there too, and S holds of the two
  abbrev there_is : {X : Type 0} → (X → X → Type 0) → Form X → X → State → Type 0
  there_is {X = X} S r x t = t.at ≡ p + n → (y : X) × ((does r Whole k (over (standing p)) ≡ Ok (y, over t)) × S x y)

  -- what may be opened, and what stands in the word there
  abbrev inner : Inner
  inner = level room

  abbrev holds_there : Form (Row ASubst)
  holds_there = contents inner Plain (h.offset + from_to p q p) []

  -- substitutions of the same shapes
  abbrev SameSubsts : Row ASubst → Row ASubst → Type 0
  SameSubsts ss zs = map (shape_of_subst B) ss ≡ map (shape_of_subst C) zs

  -- what stands in the word is read there, with such substitutions
  contents_by : Holds (there_is SameSubsts holds_there)
      (does (contents inner Plain (g.offset + p) []) Whole g (standing p))
  contents_by =
      let local = (level_anywhere room).local g.edition g.text h.text p (p + n)
      (from_to p q) K g.offset h.offset B C stands_in stands_there here_ends here_no_open in
      word_in K g.offset h.offset B C here_ends here_no_open inner local (g.offset + p) (h.offset + from_to p q p)
      (standing p) (omega arith)

  -- the bytes of a span
  raw_same : raw g.text p (p + n) ≡ raw h.text q (q + n)
  raw_same =
      let here : p + n - p ≡ n = omega arith in
      let there : q + n - q ≡ n = omega arith in
      ap (λ m. take m (drop p g.text)) here ∙ sym same ∙ ap (λ m. take m (drop q h.text)) (sym there)

  -- so a span that ends after them has the same text there
  texts_same : (e : ℕ) → e ≡ p + n →
      text_at B (span g.offset p e) ≡ text_at C (span h.offset (from_to p q p) (from_to p q e))
  texts_same e is =
      ap (λ r. text_at B (span g.offset p r)) is ∙ sym (raw_at B g stands_in p (p + n)) ∙ raw_same
      ∙ raw_at C h stands_there q (q + n)
      ∙ ap (λ r. text_at C (span h.offset r (q + n))) (sym (begin_there p q))
      ∙ ap (λ r. text_at C (span h.offset (from_to p q p) r)) (sym end_there ∙ ap (from_to p q) (sym is))

  -- such substitutions, and spans of the same text; words of the same shape
  abbrev SameToken : Row ASubst × Span → Row ASubst × Span → Type 0
  SameToken x y = SameSubsts x.0 y.0 × (text_at B x.1 ≡ text_at C y.1)

  abbrev SameShape : AWord → AWord → Type 0
  SameShape w v = shape_of_word B w ≡ shape_of_word C v

  -- by such substitutions and spans words have the same shape
  words_same : (x y : Row ASubst × Span) → SameToken x y →
      SameShape (word x.1 (substs_of x.0)) (word y.1 (substs_of y.0))
  words_same x y so = rw (so.1, substs_shape B x.0, so.0, sym (substs_shape C y.0)) refl

  -- a word that ends after those bytes is read there, of the same shape
  word_by : Holds (there_is SameShape (a_word inner)) (does (a_word inner) Whole g (standing p))
  unfolding a_word
  word_by =
      holds_then (there_is SameToken (token as_it_stands holds_there)) (there_is SameShape (a_word inner))
      (does (token as_it_stands (contents inner Plain (g.offset + p) [])) Whole g (standing p)) _
      (holds_then (there_is SameSubsts holds_there) (there_is SameToken (token as_it_stands holds_there))
      (does (contents inner Plain (g.offset + p) []) Whole g (standing p)) _ contents_by
      (λ x t found is. let f = found is in
      ((f.0, span h.offset (from_to p q p) (from_to p q t.at)), (rw f.1.0 refl, (f.1.1, texts_same t.at is)))))
      (λ x t found is. let f = found is in (word f.0.1 (substs_of f.0.0), (rw f.1.0 refl, words_same x f.0 f.1.1)))

  word_there : (w : AWord) → does (a_word (level room)) Whole g (standing p) ≡ Ok (w, standing (p + n)) → (v : AWord)
      × ((does (a_word (level room)) Whole k (standing q) ≡ Ok (v, standing (q + n))) × SameShape w v)
  word_there w is =
      let found = subst (Holds (there_is SameShape (a_word inner))) is word_by refl in (
        found.0,
        (
          subst (λ r. does (a_word (level room)) Whole k (standing r) ≡ Ok (found.0, standing (q + n)))
              (begin_there p q)
              (subst (λ r. does (a_word (level room)) Whole k (standing (from_to p q p)) ≡ Ok (found.0, standing r))
              end_there found.1.0),
          found.1.1,
        ),
      )

-- a word of this shape, where the text stands in the bytes B from its offset on
abbrev pub WordOf : ℕ → Given → ℕ → ℕ → List ℕ → Shape AWordOf → Type 0
WordOf room g p n B shape = (w : AWord)
    × (may (a_word (level room)) g (standing p) (Ok (w, standing (p + n))) (raw g.text p (p + n) ∷ [])
    × (shape_of_word B w ≡ shape))

-- what is read is a word that tells its bytes
pub word_may : (room : ℕ) (h : Given) (q n : ℕ) (v : AWord) →
    does (a_word (level room)) Whole h (standing q) ≡ Ok (v, standing (q + n)) →
    may (a_word (level room)) h (standing q) (Ok (v, standing (q + n))) (raw h.text q (q + n) ∷ [])
word_may room h q n v e =
    let some = (computed_is_only (a_word (level room)) h (standing q)).some in
    let part = subst (λ (x : Read AWord). may (a_word (level room)) h (standing q) x some.0) e some.1 in
    subst (λ (k : Row Spelled). may (a_word (level room)) h (standing q) (Ok (v, standing (q + n))) k)
    (word_told (level room) h (standing q) (standing (q + n)) v some.0 part) part

-- the word that is read there, and that its shape is the same
pub same_word : (room : ℕ) (g h : Given) (p q n : ℕ) (w : AWord) (told : Row Spelled) →
    may (a_word (level room)) g (standing p) (Ok (w, standing (p + n))) told →
    take n (drop q h.text) ≡ take n (drop p g.text)
    → ends_word h.text (q + n) ≡ true → stands h.text (q + n) left_parenthesis ≡ false → (B C : List ℕ) →
    g.text ≡ drop g.offset B →
    h.text ≡ drop h.offset C
    → WordOf room (given g.edition h.text h.offset) q n C (shape_of_word B w)
unfolding ends_word stands
same_word room g h p q n w told part same ender no_open B C stands_in stands_there =
    let v = word_there room g h p q n same ender no_open B C stands_in stands_there w
    (sym ((computed_is_only (a_word (level room)) g (standing p)).only _ _ part)) in
    (v.0, (word_may room (given g.edition h.text h.offset) q n v.0 v.1.0, sym v.1.1))

-- so the bytes of a word are read as one in each text that has them, before such a byte
pub reads_word_anywhere : (room : ℕ) (g h : Given) (p q n : ℕ) → ReadsWord room g p n →
    take n (drop q h.text) ≡ take n (drop p g.text) → ends_word h.text (q + n) ≡ true →
    stands h.text (q + n) left_parenthesis ≡ false
    → ReadsWord room (given g.edition h.text h.offset) q n
reads_word_anywhere room g h p q n (w, part) same ender no_open =
    let v = same_word room g h p q n w _ part same ender no_open (padded g.offset g.text) (padded h.offset h.text)
    (padded_is g.offset g.text) (padded_is h.offset h.text) in
    (v.0, v.1.0)

-- what waits, and the bodies, stay as they are
abbrev pub Still : State → State → Type 0
Still s t = (t.waiting ≡ s.waiting) × (t.bodies ≡ s.bodies)

abbrev pub Waits : {X : Type 0} → State → X → State → Type 0
Waits s x t = Still s t

module _ (g : Given) where
  -- r leaves them as they are
  abbrev W : {X : Type 0} → Form X → State → Type 0
  W r s = Tells Whole g r (Waits s) s

  -- so do forms that give, see and move, and one form and then another
  same : {X : Type 0} {r : Form X} {s : State} → Holds (Waits s) (does r Whole g s) → W r s
  same so = record { told = so }

  still : {X : Type 0} {x : X} {s : State} → W (give x) s
  still = same (refl, refl)

  sees : {X Y : Type 0} {l : Sight X} {q : X → Form Y} {s : State} → W (q (seen l g s)) s → W (both (see l) q) s
  sees rest = tells_seen Whole g rest

  moves : {Y : Type 0} {m : Move} {q : Unit {0} → Form Y} {s : State} → W (q tt) (moved_on m g s) →
      W (both (move m) q) s
  moves rest = same rest.told

  goes : {X Y : Type 0} {r : Form X} {q : X → Form Y} {s : State} → W r s → ((x : X) (t : State) → W (q x) t) →
      W (both r q) s
  goes {q = q} one rest = tells_then Whole g one
      (λ x t so. tells_so Whole g (rest x t) (λ y u more. (more.0 ∙ so.0, more.1 ∙ so.1)))

  -- so do turns, if each does
  turns_still : {A : Type 0} (turn : A → Form (Step A)) → ((a : A) (s : State) → W (turn a) s) → (a : A) (s : State) →
      W (many turn a) s
  turns_still {A = A} turn each a s =
      tells_many Whole g turn (Waits s) (λ b t one. tells_so Whole g (each b t) (turned t one)) a s (refl, refl)
    where
      turned : (t : State) → Still s t → (c : Step A) (u : State) → Still t u → Turned Whole g (Waits s) c u
      turned t one (again c) u two = (two.0 ∙ one.0, two.1 ∙ one.1)
      turned t one (done c) u two = (two.0 ∙ one.0, two.1 ∙ one.1)

  -- text in single quotes, in backquotes, and in dollar-single quotes
  single_still : (s : State) → W single s
  unfolding single
  single_still s = sees (moves (moves (tells_when Whole g (same tt) (same (refl, refl)))))

  backquoted_text_still : (s : State) → W backquoted_text s
  unfolding backquoted_text escaped_turn
  backquoted_text_still s =
      sees (moves (turns_still _ (λ u t. moves
      (tells_when Whole g (same tt) (tells_when Whole g (same tt) (sees (moves still))))) tt _))

  dollar_single_still : (s : State) → W dollar_single s
  unfolding dollar_single escaped_turn
  dollar_single_still s =
      sees (moves (moves (turns_still _
      (λ u t. moves (tells_when Whole g (same tt) (tells_when Whole g (same tt) (sees (moves still))))) tt _)))

  -- what may be opened leaves it so
  record Quiet (inner : Inner) : Type 0 where
    construct : (mode : Mode) (b : ℕ) (ss : Row ASubst) (s : State) → W (inner.construct mode b ss) s
    substitution : (b : ℕ) (ss : Row ASubst) (s : State) → W (inner.substitution b ss) s

  module _ (inner : Inner) (quiet : Quiet inner) where
    -- a construct in a word, and each piece by its kind
    opened_still : (mode : Mode) (b : ℕ) (h : WordSoFar) (s : State) → W (opened inner mode b h) s
    opened_still mode b h s = goes (quiet.construct mode b h.substs s) (λ x t. still)

    piece_still : (mode : Mode) (b : ℕ) (h : WordSoFar) (piece : Piece) (s : State) →
        W (piece_row inner mode b h piece) s
    piece_still mode b h pieces.Closer s = moves still
    piece_still mode b h pieces.Missing s = same tt
    piece_still mode b h pieces.LoneBackslash s = sees (same tt)
    piece_still mode b h pieces.Escape s = moves (moves still)
    piece_still mode b h pieces.Single s = goes (single_still s) (λ x t. still)
    piece_still mode b h pieces.DollarSingle s = goes (dollar_single_still s) (λ x t. still)
    piece_still mode b h pieces.Double s = sees (moves (opened_still _ _ h _))
    piece_still mode b h pieces.Backquote s = goes (backquoted_text_still s) (λ x t. still)
    piece_still mode b h pieces.Pid s = moves (moves still)
    piece_still mode b h pieces.Subst s = sees (moves (moves (goes (quiet.substitution _ h.substs _) (λ x t. still))))
    piece_still mode b h pieces.Arith s = sees (moves (moves (moves (opened_still _ _ h _))))
    piece_still mode b h pieces.Param s = sees (moves (moves (moves (sees (opened_still _ _ h _)))))
    piece_still mode b h pieces.Open s = moves still
    piece_still mode b h pieces.Close s = moves still
    piece_still mode b h pieces.BadClose s = sees (same tt)
    piece_still mode b h pieces.Ordinary s = moves still

    -- pieces up to the end of their construct, and a word
    contents_still : (mode : Mode) (b : ℕ) (ss : Row ASubst) (s : State) → W (contents inner mode b ss) s
    unfolding contents a_piece
    contents_still mode b ss s = goes (turns_still _ (λ h t. sees (piece_still mode b h _ t)) (word_so_far 0 ss) s)
        (λ h t. still)

    word_still : (s : State) → W (a_word inner) s
    unfolding a_word
    word_still s = sees (goes (tells_token Whole g (contents_still Plain _ [] s) (λ x t so. so)) (λ x t. still))

    -- a substitution is a level of its own
    substitution_still : (b : ℕ) (ss : Row ASubst) (s : State) → W (a_substitution inner b ss) s
    unfolding a_substitution one_substitution
    substitution_still b ss s = tells_inside Whole g
        (goes (tells_level Whole g (tells_any Whole g) (λ x t so. (refl, refl))) (λ x t. sees (same (refl, refl))))

  -- by how many more may be opened
  quiet_level : (room : ℕ) → Quiet (level room)
  unfolding level
  quiet_level zero = record { construct = λ mode b ss s. same tt; substitution = λ b ss s. same tt }
  quiet_level (suc room) =
      record {
        construct = λ mode b ss s. contents_still (level room) (quiet_level room) mode b ss s;
        substitution = λ b ss s. substitution_still (level room) (quiet_level room) b ss s;
      }

  -- so does a word where so many constructs may be open
  pub level_word_still : (room : ℕ) (s : State) → Tells Whole g (a_word (level room)) (Waits s) s
  level_word_still room s = word_still (level room) (quiet_level room) s

-- where nothing waits and no bodies were read, a state is its place
pub state_is : (t : State) → t.waiting ≡ [] → t.bodies ≡ [] → t ≡ standing t.at
state_is t one two = rw (← one, ← two) refl

-- whatever the row of a word reads is a word
pub word_read : (room : ℕ) (g : Given) (p : ℕ) (w : AWord) (t : State) (told : Row Spelled) →
    may (a_word (level room)) g (standing p) (Ok (w, t)) told
    → may (a_word (level room)) g (standing p) (Ok (w, standing (p + (t.at - p)))) (raw g.text p (p + (t.at - p)) ∷ [])
word_read room g p w t told part =
    let is_read = (computed_is_only (a_word (level room)) g (standing p)).only _ _ part in
    let on = subst (Holds (AtOrAfter (standing p))) (sym is_read)
    (no_form_goes_back (a_word (level room)) Whole g (standing p)).told in
    let stays = subst (Holds (Waits (standing p))) (sym is_read) (level_word_still g room (standing p)).told in
    let told_is = word_told (level room) g (standing p) t w told part in
    let end : t.at ≡ p + (t.at - p) = omega (arith, on) in
    let same = state_is t stays.0 stays.1 ∙ ap standing end in
    subst (λ k. may (a_word (level room)) g (standing p) (Ok (w, standing (p + (t.at - p)))) k)
    (told_is ∙ ap (λ q. raw g.text p q ∷ []) end)
    (subst (λ u. may (a_word (level room)) g (standing p) (Ok (w, u)) told) same part)

pub read_word : (room : ℕ) (g : Given) (p : ℕ) (w : AWord) (t : State) (told : Row Spelled) →
    may (a_word (level room)) g (standing p) (Ok (w, t)) told → ReadsWord room g p (t.at - p)
read_word room g p w t told part = (w, word_read room g p w t told part)

-- at a place no two words are read
pub one_word : (room : ℕ) (g : Given) (p m n : ℕ) → ReadsWord room g p m → ReadsWord room g p n → m ≡ n
one_word room g p m n (w, one) (v, two) =
    let only = (computed_is_only (a_word (level room)) g (standing p)).only in
    let same : ◌≡◌ {A = Read AWord} (Ok (w, standing (p + m))) (Ok (v, standing (p + n))) = only _ _ one
    ∙ sym (only _ _ two) in
    let pair : ◌≡◌ {A = AWord × State} (w, standing (p + m)) (v, standing (p + n)) = cc in
    let end : p + m ≡ p + n = ap (λ (z : AWord × State). z.1.at) pair in
    omega (arith, end)
