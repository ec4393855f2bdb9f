-- A word is read alike whatever here-documents wait where it stands: it looks at none
-- of them, and leaves them waiting.
use Rattle.std.proofs.Common.{◌≡◌, ℕ, zero, suc, ◌-◌, Bool, true, false, cond, length, List as Row, [], Ok, Err, refl, sym, ap, ◌∙◌, subst}
use Rattle.shgrammar.specs.declared.keep.Keep.TheVariants.{Whole}
use Rattle.shgrammar.specs.declared.fault.FaultKind.{FaultKind}
use Rattle.shgrammar.specs.declared.mode.Mode.{Mode}
use Rattle.shgrammar.specs.declared.mode.Mode.TheVariants.{Plain}
use Rattle.shgrammar.specs.declared.mode.Piece.{Piece}
use Rattle.shgrammar.specs.declared.mode.Piece.TheVariants as pieces
use Rattle.shast.specs.declared.tree.Span.{Span}
use Rattle.shast.specs.Tree.{ASubst, AWord}
use Rattle.shgrammar.specs.Comments.{span}
use Rattle.shgrammar.specs.HereDocuments.{own_level, outer_level}
use Rattle.shgrammar.specs.Sights.{Given, State, standing, Sight, seen, Move}
use Rattle.shgrammar.specs.Form.{Form, give, see, move, push, stop, both, when, token, many, a_level, Telling, Step, again, done, Read, ◌▸◌, does, may, moved_on, leads_on, turns, turns_below, next, Spelled, in_substitution}
use Rattle.shgrammar.specs.Words.{WordSoFar, word_so_far, opened, piece_row, a_piece, single, escaped_turn, backquoted_text, Inner, contents, a_word, dollar_single}
use Rattle.shgrammar.specs.Substitutions.{a_substitution, one_substitution}
use Rattle.shgrammar.specs.Levels.{level}
use Rattle.shgrammar.proofs.OneOutcome.{computed_is_only}
use Rattle.shgrammar.proofs.WordsAnywhere.{word_told}

-- a place, where that waits which waits at t
abbrev pub place_of : State → ℕ → State
place_of t p = record { at = p; waiting = t.waiting; bodies = t.bodies }

-- what was read, where that waits
abbrev pub onto : {X : Type 0} → State → Read X → Read X
onto t (Ok x) = Ok (x.0, place_of t x.1.at)
onto t (Err f) = Err f

module _ (g : Given) where
  -- r reads the same, whatever waits where it stands
  pub record Blind {X : Type 0} (r : Form X) : Type 0 where
    pub alike : (s t : State) → does r Whole g (place_of t s.at) ≡ onto t (does r Whole g s)

  -- so it is with what is seen
  abbrev Unseen : {X : Type 0} → Sight X → Type 0
  Unseen f = (s t : State) → seen f g (place_of t s.at) ≡ seen f g s

  -- so it is with what gives, stops, adds an element or moves
  blind_give : {X : Type 0} {x : X} → Blind (give x)
  blind_give = record { alike = λ s t. refl }

  blind_stop : {X : Type 0} {kind : FaultKind} {at : ℕ} → Blind {X = X} (stop kind at)
  blind_stop = record { alike = λ s t. refl }

  blind_push : {A : Type 0} {xs : Row A} {x : A} → Blind (push xs x)
  blind_push = record { alike = λ s t. refl }

  blind_move : {m : Move} → Blind (move m)
  blind_move = record { alike = λ s t. refl }

  -- with one form and then another, with what sees or moves first, and with one form of two
  blind_both : {X Y : Type 0} {r : Form X} {q : X → Form Y} → Blind r → ((x : X) → Blind (q x)) → Blind (both r q)
  blind_both {X = X} {r = r} {q = q} one two =
      record {
        alike = λ s t. ap (λ y. y ▸ λ x u. does (q x) Whole g u) (one.alike s t) ∙ onto_then t (does r Whole g s);
      }
    where
      onto_then : (t : State) (y : Read X) →
          (onto t y ▸ λ x u. does (q x) Whole g u) ≡ onto t (y ▸ λ x u. does (q x) Whole g u)
      onto_then t (Ok x) = (two x.0).alike x.1 t
      onto_then t (Err f) = refl

  blind_sees : {X Y : Type 0} {f : Sight X} {q : X → Form Y} → Unseen f → ((x : X) → Blind (q x)) →
      Blind (both (see f) q)
  blind_sees {f = f} {q = q} same rest =
      record {
        alike = λ s t. ap (λ x. does (q x) Whole g (place_of t s.at)) (same s t)
            ∙ (rest (seen f g s)).alike s t;
      }

  blind_moves : {Y : Type 0} {m : Move} {q : Unit {0} → Form Y} → Blind (q tt) → Blind (both (move m) q)
  blind_moves {m = m} rest = record { alike = λ s t. rest.alike (moved_on m g s) t }

  blind_when : {X : Type 0} {f : Sight Bool} {r q : Form X} → Unseen f → Blind r → Blind q → Blind (when f r q)
  blind_when {f = f} {r = r} {q = q} same one two =
      record {
        alike = λ s t. ap (λ b. cond b (does r Whole g (place_of t s.at)) (does q Whole g (place_of t s.at)))
            (same s t) ∙ by_test s t (seen f g s);
      }
    where
      by_test : (s t : State) (b : Bool) →
          cond b (does r Whole g (place_of t s.at)) (does q Whole g (place_of t s.at))
          ≡ onto t (cond b (does r Whole g s) (does q Whole g s))
      by_test s t true = one.alike s t
      by_test s t false = two.alike s t

  -- with one token
  blind_token : {X : Type 0} {told : Telling} {r : Form X} → Blind r → Blind (token told r)
  blind_token {X = X} {told = told} {r = r} one =
      record {
        alike = λ s t. ap (λ y. y ▸ λ x u. Ok ((x, span g.offset s.at u.at), u)) (one.alike s t)
            ∙ onto_spanned s t (does r Whole g s);
      }
    where
      onto_spanned : (s t : State) (y : Read X) →
          ◌≡◌ {A = Read (X × Span)} (onto t y ▸ λ x u. Ok ((x, span g.offset s.at u.at), u))
          (onto t (y ▸ λ x u. Ok ((x, span g.offset s.at u.at), u)))
      onto_spanned s t (Ok x) = refl
      onto_spanned s t (Err f) = refl

  -- a level of its own sees nothing of what waits outside
  blind_level : {X : Type 0} {r : Form X} → Blind (a_level r)
  blind_level {X = X} {r = r} = record { alike = λ s t. onto_level s t (does r Whole g (own_level s)) }
    where
      onto_level : (s t : State) (y : Read X) →
          ◌≡◌ {A = Read (X × Row Span)} (y ▸ λ x u. Ok ((x, u.bodies), outer_level (place_of t s.at) u))
          (onto t (y ▸ λ x u. Ok ((x, u.bodies), outer_level s u)))
      onto_level s t (Ok x) = refl
      onto_level s t (Err f) = refl

  -- with what stands in a command substitution
  blind_inside : {X : Type 0} {r : Form X} → Blind r → Blind (in_substitution r)
  blind_inside one = record { alike = λ s t. one.alike s t }

  module _ {A : Type 0} (turn : A → Form (Step A)) (each : (a : A) → Blind (turn a)) where
    -- at most n turns, and that this is so with them
    abbrev below_n : ℕ → A → State → Read A
    below_n n a s = turns_below g (λ b u. does (turn b) Whole g u) n a s

    abbrev Below : ℕ → Type 0
    Below n = (a : A) (s t : State) → below_n n a (place_of t s.at) ≡ onto t (below_n n a s)

    -- what follows a turn: by whether it leads on, by what it says, and by its outcome
    on_by : (n : ℕ) → Below n → (t : State) (b : Bool) (c : A) (u : State) →
        cond b (below_n n c (place_of t u.at)) (Ok (c, place_of t u.at)) ≡ onto t (cond b (below_n n c u) (Ok (c, u)))
    on_by n more t true c u = more c u t
    on_by n more t false c u = refl

    step_by : (n : ℕ) → Below n → (s t : State) (c : Step A) (u : State) →
        next g (place_of t s.at) (below_n n) c (place_of t u.at) ≡ onto t (next g s (below_n n) c u)
    step_by n more s t (done c) u = refl
    step_by n more s t (again c) u = on_by n more t (leads_on g s u) c u

    after_by : (n : ℕ) → Below n → (s t : State) (y : Read (Step A)) →
        (onto t y ▸ next g (place_of t s.at) (below_n n)) ≡ onto t (y ▸ next g s (below_n n))
    after_by n more s t (Ok x) = step_by n more s t x.0 x.1
    after_by n more s t (Err f) = refl

    -- so it is with n turns, and with as many as there are
    below : (n : ℕ) → Below n
    unfolding turns_below
    below zero a s t = refl
    below (suc n) a s t = ap (λ y. y ▸ next g (place_of t s.at) (below_n n)) ((each a).alike s t)
        ∙ after_by n (below n) s t (does (turn a) Whole g s)

    blind_many : (a : A) → Blind (many turn a)
    unfolding many turns
    blind_many a = record { alike = λ s t. below (suc (length g.text - s.at)) a s t }

  -- ---- words

  -- text in single quotes, in backquotes, and in dollar-single quotes
  single_blind : Blind single
  unfolding single
  single_blind = blind_sees (λ s t. refl)
      (λ b. blind_moves (blind_moves (blind_when (λ s t. refl) blind_stop blind_move)))

  backquoted_text_blind : Blind backquoted_text
  unfolding backquoted_text escaped_turn
  backquoted_text_blind =
      blind_sees (λ s t. refl) (λ b. blind_moves
      (blind_many _ (λ u. blind_moves
      (blind_when (λ s t. refl) blind_stop
      (blind_when (λ s t. refl) blind_stop (blind_sees (λ s t. refl) (λ x. blind_moves blind_give))))) tt))

  dollar_single_blind : Blind dollar_single
  unfolding dollar_single escaped_turn
  dollar_single_blind =
      blind_sees (λ s t. refl) (λ b. blind_moves
      (blind_moves (blind_many _ (λ u. blind_moves
      (blind_when (λ s t. refl) blind_stop
      (blind_when (λ s t. refl) blind_stop (blind_sees (λ s t. refl) (λ x. blind_moves blind_give))))) tt)))

  -- what may be opened in a word reads the same, too
  record Blinds (inner : Inner) : Type 0 where
    construct : (mode : Mode) (b : ℕ) (ss : Row ASubst) → Blind (inner.construct mode b ss)
    substitution : (b : ℕ) (ss : Row ASubst) → Blind (inner.substitution b ss)

  module _ (inner : Inner) (blinds : Blinds inner) where
    -- a construct in a word, and each piece by its kind
    opened_blind : (mode : Mode) (b : ℕ) (h : WordSoFar) → Blind (opened inner mode b h)
    opened_blind mode b h = blind_both (blinds.construct mode b h.substs) (λ x. blind_give)

    piece_blind : (mode : Mode) (b : ℕ) (h : WordSoFar) (piece : Piece) → Blind (piece_row inner mode b h piece)
    piece_blind mode b h pieces.Closer = blind_moves blind_give
    piece_blind mode b h pieces.Missing = blind_stop
    piece_blind mode b h pieces.LoneBackslash = blind_sees (λ s t. refl) (λ x. blind_stop)
    piece_blind mode b h pieces.Escape = blind_moves (blind_moves blind_give)
    piece_blind mode b h pieces.Single = blind_both single_blind (λ x. blind_give)
    piece_blind mode b h pieces.DollarSingle = blind_both dollar_single_blind (λ x. blind_give)
    piece_blind mode b h pieces.Double = blind_sees (λ s t. refl) (λ x. blind_moves (opened_blind _ _ h))
    piece_blind mode b h pieces.Backquote = blind_both backquoted_text_blind (λ x. blind_give)
    piece_blind mode b h pieces.Pid = blind_moves (blind_moves blind_give)
    piece_blind mode b h pieces.Subst =
        blind_sees (λ s t. refl) (λ x. blind_moves
        (blind_moves (blind_both (blinds.substitution _ h.substs) (λ y. blind_give))))
    piece_blind mode b h pieces.Arith =
        blind_sees (λ s t. refl) (λ x. blind_moves (blind_moves (blind_moves (opened_blind _ _ h))))
    piece_blind mode b h pieces.Param =
        blind_sees (λ s t. refl) (λ x. blind_moves
        (blind_moves (blind_moves (blind_sees (λ s t. refl) (λ y. opened_blind _ _ h)))))
    piece_blind mode b h pieces.Open = blind_moves blind_give
    piece_blind mode b h pieces.Close = blind_moves blind_give
    piece_blind mode b h pieces.BadClose = blind_sees (λ s t. refl) (λ x. blind_stop)
    piece_blind mode b h pieces.Ordinary = blind_moves blind_give

    -- pieces up to the end of their construct, a word, and a command substitution
    contents_blind : (mode : Mode) (b : ℕ) (ss : Row ASubst) → Blind (contents inner mode b ss)
    unfolding contents a_piece
    contents_blind mode b ss = blind_both
        (blind_many _ (λ h. blind_sees (λ s t. refl) (λ piece. piece_blind mode b h piece)) (word_so_far 0 ss))
        (λ h. blind_give)

    word_blind : Blind (a_word inner)
    unfolding a_word
    word_blind = blind_sees (λ s t. refl) (λ b. blind_both (blind_token (contents_blind Plain _ [])) (λ x. blind_give))

    substitution_blind : (b : ℕ) (ss : Row ASubst) → Blind (a_substitution inner b ss)
    unfolding a_substitution one_substitution
    substitution_blind b ss = blind_inside (blind_both blind_level (λ x. blind_sees (λ s t. refl) (λ q. blind_push)))

  -- by how many more may be opened
  blind_rows : (room : ℕ) → Blinds (level room)
  unfolding level
  blind_rows zero = record { construct = λ mode b ss. blind_stop; substitution = λ b ss. blind_stop }
  blind_rows (suc room) =
      record {
        construct = λ mode b ss. contents_blind (level room) (blind_rows room) mode b ss;
        substitution = λ b ss. substitution_blind (level room) (blind_rows room) b ss;
      }

  -- a word where so many constructs may be open
  pub blind_word : (room : ℕ) → Blind (a_word (level room))
  blind_word room = word_blind (level room) (blind_rows room)

-- a word that is read where nothing waits is read where something does
pub word_waiting : (room : ℕ) (g : Given) (p q : ℕ) (w : AWord) (told : Row Spelled) (t : State) →
    may (a_word (level room)) g (standing p) (Ok (w, standing q)) told
    → may (a_word (level room)) g (place_of t p) (Ok (w, place_of t q)) told
word_waiting room g p q w told t part =
    let read = (computed_is_only (a_word (level room)) g (standing p)).only _ _ part in
    let there : does (a_word (level room)) Whole g (place_of t p) ≡ Ok (w, place_of t q) =
    (blind_word g room).alike (standing p) t ∙ ap (onto t) (sym read) in
    let some = (computed_is_only (a_word (level room)) g (place_of t p)).some in
    let again_read = subst (λ (x : Read AWord). may (a_word (level room)) g (place_of t p) x some.0) there some.1 in
    subst (λ (k : Row Spelled). may (a_word (level room)) g (place_of t p) (Ok (w, place_of t q)) k)
    (word_told (level room) g (place_of t p) (place_of t q) w some.0 again_read
    ∙ sym (word_told (level room) g (standing p) (standing q) w told part)) again_read
