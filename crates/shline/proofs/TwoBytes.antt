-- What two bytes tell of reserved words.
use Rattle.std.proofs.Common.{◌≡◌, ℕ, ◌+◌, ◌<◌, ◌==◌, Bool, true, false, ◌||◌, not, List, [], ◌∷◌, List as Row, Some, None, get_or, slice_get, bit_and, refl, sym, ap, ◌∙◌}
use Rattle.std.proofs.lemmas.Bool.{eqb-true, or_from, or_parts, true≢false}
use Rattle.shgrammar.proofs.PlainTable.{same_flag}
use Rattle.shline.proofs.ByteSets.{agree, agree_at}
use Rattle.shline.specs.declared.reserved.TheConstants.{FIRST, SECOND}
use Rattle.shline.specs.Beginnings.{may_begin, may_spell}
use Rattle.shgrammar.specs.Characters.{backslash, exclamation_mark, left_brace, right_brace}
use Rattle.shgrammar.specs.Bytes.{past_byte, past_continuations, stands}
use Rattle.shgrammar.specs.Standing.{raw_stands}
use Rattle.shgrammar.specs.Tokens.{first_of_words, is_word_at, reserved_words, Spelling}
use Rattle.shgrammar.proofs.Stretches.{raw_stays}

-- ---- no word stands that may not begin with the two bytes there

module _ (T : List ℕ) (p a b : ℕ) (still : past_continuations T p ≡ p)
    (first : slice_get T p ≡ Some a) (second : slice_get T (p + 1) ≡ Some b) where
  -- no word stands at p that may not begin with a and b: of two bytes or more, and any
  other_two : (c d : ℕ) (ds : List ℕ) (x y : Bool) → (a == c) ≡ x → (b == backslash) ≡ y
      → may_spell (c ∷ d ∷ ds) a b ≡ false → is_word_at T p (c ∷ d ∷ ds) ≡ false
  unfolding may_spell is_word_at stands past_byte raw_stands
  other_two c d ds false y e f bad = rw (still, first, e) refl
  other_two c d ds true true e f bad = absurd (true≢false (rw (e, f) at bad))
  other_two c d ds true false e f bad =
      let whole : raw_stands T (p + 1) backslash ≡ false = rw second f in
      let there : past_continuations T (p + 1) ≡ p + 1 = raw_stays T (p + 1) whole in
      let other : (b == d) ≡ false = rw (e, f) at bad in
      rw (still, first, e, there, second, other) refl

  other_word : (w : List ℕ) → may_spell w a b ≡ false → is_word_at T p w ≡ false
  unfolding may_spell is_word_at stands
  other_word [] bad = absurd cc
  other_word (c ∷ []) bad = rw (still, first, bad) refl
  other_word (c ∷ d ∷ ds) bad = other_two c d ds (a == c) (b == backslash) refl refl bad

  -- nor does one of several words, none of which may
  pub none_begins : (ws : Row Spelling) → may_begin ws a b ≡ false → first_of_words T p ws ≡ None
  unfolding may_begin first_of_words
  none_begins [] bad = refl
  none_begins (w ∷ ws) bad =
      let parts = or_parts (may_spell w.0 a b) (may_begin ws a b) bad in
      rw (other_word w.0 parts.0) (none_begins ws parts.1)

-- ---- what the tables tell

-- the two bytes have no kind in common
none : ℕ → ℕ → Bool
none a b = bit_and (get_or FIRST a 0) (get_or SECOND b 0) == 0

-- a flag turned twice is as it was
not_not : (x : Bool) → x ≡ not (not x)
not_not true = refl
not_not false = refl

-- any byte may stand after a word of one
alone : ℕ → Bool
alone b = none exclamation_mark b || (none left_brace b || none right_brace b)

-- no byte does
none_alone : agree alone (λ b. false) 256 ≡ true
unfolding agree same_flag alone none
none_alone = refl

module _ (a b : ℕ) (bad : none a b ≡ true) where
  -- a and b have no kind in common, so they are not two bytes that have
  contrary : (c d : ℕ) → (a == c) ≡ true → (b == d) ≡ true → none c d ≡ false → true ≡ false
  contrary c d e f some = sym bad ∙ ap (λ x. none x b) (eqb-true a c e) ∙ ap (none c) (eqb-true b d f) ∙ some

  -- a word of one byte may not begin with them, where that byte has a kind in common with b
  spells_one : (c : ℕ) (x : Bool) → (a == c) ≡ x → none c b ≡ false → may_spell (c ∷ []) a b ≡ false
  unfolding may_spell
  spells_one c false e some = e
  spells_one c true e some = e ∙ sym bad ∙ ap (λ x. none x b) (eqb-true a c e) ∙ some

  -- nor may a longer one, whose first two bytes have one in common, and its first and a backslash
  spells_two_by : (c d : ℕ) (ds : List ℕ) (x y z : Bool) → (a == c) ≡ x → (b == backslash) ≡ y → (b == d) ≡ z
      → none c d ≡ false → none c backslash ≡ false → may_spell (c ∷ d ∷ ds) a b ≡ false
  unfolding may_spell
  spells_two_by c d ds false y z e f g some joined = rw e refl
  spells_two_by c d ds true true z e f g some joined = absurd (true≢false (contrary c backslash e f joined))
  spells_two_by c d ds true false true e f g some joined = absurd (true≢false (contrary c d e g some))
  spells_two_by c d ds true false false e f g some joined = rw (e, f, g) refl

  spells_two : (c d : ℕ) (ds : List ℕ) → none c d ≡ false → none c backslash ≡ false
      → may_spell (c ∷ d ∷ ds) a b ≡ false
  spells_two c d ds = spells_two_by c d ds (a == c) (b == backslash) (b == d) refl refl refl

  -- so no reserved word may, if b is below 256: those of one byte, and then by their first two letters
  -- case, do, done, elif, else, esac, fi, for, if, in, then, until and while
  begins_none : b < 256 → may_begin reserved_words a b ≡ false
  unfolding may_begin reserved_words none alone
  begins_none low =
      let one = or_parts (none exclamation_mark b) (none left_brace b || none right_brace b)
      (agree_at alone (λ b. false) 256 b none_alone low) in
      let brackets = or_parts (none left_brace b) (none right_brace b) one.1 in
      or_from _ _ (spells_one exclamation_mark (a == exclamation_mark) refl one.0)
      (or_from _ _ (spells_one left_brace (a == left_brace) refl brackets.0)
      (or_from _ _ (spells_one right_brace (a == right_brace) refl brackets.1)
      (or_from _ _ (spells_two 99 97 _ refl refl)
      (or_from _ _ (spells_two 100 111 _ refl refl)
      (or_from _ _ (spells_two 100 111 _ refl refl)
      (or_from _ _ (spells_two 101 108 _ refl refl)
      (or_from _ _ (spells_two 101 108 _ refl refl)
      (or_from _ _ (spells_two 101 115 _ refl refl)
      (or_from _ _ (spells_two 102 105 _ refl refl)
      (or_from _ _ (spells_two 102 111 _ refl refl)
      (or_from _ _ (spells_two 105 102 _ refl refl)
      (or_from _ _ (spells_two 105 110 _ refl refl)
      (or_from _ _ (spells_two 116 104 _ refl refl)
      (or_from _ _ (spells_two 117 110 _ refl refl)
      (or_from _ _ (spells_two 119 104 _ refl refl) refl)))))))))))))))

-- no reserved word may begin with two bytes that have no kind in common by the tables
pub no_kind : (a b : ℕ) → b < 256 → not (bit_and (get_or FIRST a 0) (get_or SECOND b 0) == 0) ≡ false
    → may_begin reserved_words a b ≡ false
unfolding none
no_kind a b low some = begins_none a b (not_not _ ∙ ap not some) low
