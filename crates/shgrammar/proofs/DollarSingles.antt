-- A look for text in dollar-single quotes in a word, a byte at a time.
use Rattle.std.proofs.Common.{◌≡◌, ℕ, ◌+◌, ◌<◌, ◌≤◌, Bool, true, false, ◌||◌, List, [], ◌∷◌, length, drop, get_or, refl, sym, ap, ◌∙◌, arith, cond, not}
use Rattle.std.specs.Prelude.{◌&&◌}
use Rattle.std.proofs.lemmas.List.{drop_more, length-drop}
use Rattle.shgrammar.specs.Characters.{apostrophe, backslash, dollar_sign}
use Rattle.shgrammar.specs.Standing.{is_byte}
use Rattle.shgrammar.specs.Bytes.{byte_at, stands}
use Rattle.shgrammar.specs.HereDocuments.{Quoting, after_quote, has_dollar_single, is_live, is_quote}
use Rattle.shgrammar.proofs.Unquoted.{rest_stands}

-- with these bytes after the next one
abbrev turn : Quoting → Bool → ℕ → List ℕ → List ℕ → Bool
turn q second b rest later = cond (is_live q backslash b) (has_dollar_single q second later)
    (cond (is_quote q b) (has_dollar_single (after_quote q b) false rest)
    (cond (is_live q dollar_sign b) ((not second && is_quote q apostrophe && stands rest 0 apostrophe)
    || has_dollar_single q (not second && stands rest 0 dollar_sign) rest)
    (has_dollar_single q second rest)))

-- so it goes on from a byte, where one more stands after it
turns : (q : Quoting) (second : Bool) (b c : ℕ) (bs : List ℕ) →
    has_dollar_single q second (b ∷ c ∷ bs) ≡ turn q second b (c ∷ bs) bs
unfolding has_dollar_single
turns q second b c bs = refl

module _ (q : Quoting) (second : Bool) (word : List ℕ) (at : ℕ) (lt : at + 1 < length word) where
  next : at + 1 + 1 ≡ at + 2
  next = omega arith

  -- the same at a place in a word
  here : has_dollar_single q second (drop at word)
      ≡ turn q second (get_or word at 0) (drop (at + 1) word) (drop (at + 2) word)
  here =
      ap (has_dollar_single q second)
      (drop_more word at 0 (omega (arith, lt)) ∙ ap (λ l. get_or word at 0 ∷ l) (drop_more word (at + 1) 0 lt))
      ∙ turns q second (get_or word at 0) (get_or word (at + 1) 0) (drop (at + 1 + 1) word)
      ∙ ap (λ l. turn q second (get_or word at 0) l (drop (at + 1 + 1) word)) (sym (drop_more word (at + 1) 0 lt))
      ∙ ap (λ n. turn q second (get_or word at 0) (drop (at + 1) word) (drop n word)) next

  -- by the byte: a backslash, a quote, a `$` that begins such text, another `$`, and any other
  pub has_escape : is_live q backslash (get_or word at 0) ≡ true →
      has_dollar_single q second (drop at word) ≡ has_dollar_single q second (drop (at + 2) word)
  has_escape is = here ∙ rw is refl

  pub has_quote : is_live q backslash (get_or word at 0) ≡ false → is_quote q (get_or word at 0) ≡ true
      → has_dollar_single q second (drop at word)
      ≡ has_dollar_single (after_quote q (get_or word at 0)) false (drop (at + 1) word)
  has_quote none is = here ∙ rw (none, is) refl

  pub has_here : is_live q backslash (get_or word at 0) ≡ false → is_quote q (get_or word at 0) ≡ false →
      is_live q dollar_sign (get_or word at 0) ≡ true
      → (not second && is_quote q apostrophe && is_byte (byte_at word (at + 1)) apostrophe) ≡ true →
      has_dollar_single q second (drop at word) ≡ true
  has_here none other is found = here ∙ rw (none, other, is, rest_stands word (at + 1) apostrophe, found) refl

  pub has_dollar : is_live q backslash (get_or word at 0) ≡ false → is_quote q (get_or word at 0) ≡ false →
      is_live q dollar_sign (get_or word at 0) ≡ true
      → (not second && is_quote q apostrophe && is_byte (byte_at word (at + 1)) apostrophe) ≡ false
      → has_dollar_single q second (drop at word)
      ≡ has_dollar_single q (not second && is_byte (byte_at word (at + 1)) dollar_sign) (drop (at + 1) word)
  has_dollar none other is lone = here
      ∙ rw (none, other, is, rest_stands word (at + 1) apostrophe, lone, rest_stands word (at + 1) dollar_sign) refl

  pub has_other : is_live q backslash (get_or word at 0) ≡ false → is_quote q (get_or word at 0) ≡ false →
      is_live q dollar_sign (get_or word at 0) ≡ false
      → has_dollar_single q second (drop at word) ≡ has_dollar_single q second (drop (at + 1) word)
  has_other none other plain = here ∙ rw (none, other, plain) refl

-- one byte alone, or none
few : (q : Quoting) (second : Bool) (l : List ℕ) → length l ≤ 1 → has_dollar_single q second l ≡ false
unfolding has_dollar_single
few q second [] le = refl
few q second (b ∷ []) le = refl
few q second (b ∷ c ∷ bs) le = absurd (omega (arith, le))

-- at the last byte of a word, or past it, no such text begins
pub has_none : (q : Quoting) (second : Bool) (word : List ℕ) (at : ℕ) → length word ≤ at + 1 →
    has_dollar_single q second (drop at word) ≡ false
has_none q second word at le = few q second (drop at word) (omega (arith, le, length-drop at word))
