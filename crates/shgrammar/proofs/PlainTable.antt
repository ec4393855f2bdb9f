-- The table of bytes agrees with the definitions, byte by byte.
use Rattle.std.proofs.Common.{◌≡◌, ℕ, zero, suc, ◌+◌, ◌<◌, ◌==◌, Bool, true, false, ◌&&◌, not, Some, List, [], ◌∷◌, length, get_or, refl, sym, ap, ◌∙◌, arith, add-zero, zero-add}
use Rattle.std.specs.Prelude.{bit_and}
use Rattle.std.proofs.lemmas.Bool.{and_parts}
use Rattle.std.proofs.Math.Bool.{not-not}
use Rattle.shgrammar.specs.declared.byte_kinds.TheConstants.{MARKS}
use Rattle.shgrammar.specs.declared.mode.Mode.{Mode}
use Rattle.shgrammar.specs.declared.mode.Mode.TheVariants.{Plain, Double, Brace, DoubleBrace, Arith}
use Rattle.shgrammar.specs.Classes.{is_name}
use Rattle.shgrammar.specs.Bytes.{ends}
use Rattle.shgrammar.specs.Plain.{alone, begins_a_word, is_plain}

-- whether two flags are the same; where that is so they are equal
unfoldable pub same_flag : Bool → Bool → Bool
same_flag true b = b
same_flag false true = false
same_flag false false = true

pub same_flag_is : (a b : Bool) → same_flag a b ≡ true → a ≡ b
unfolding same_flag
same_flag_is true b e = sym e
same_flag_is false true e = absurd cc
same_flag_is false false e = refl

-- from the byte n on, a byte has none of the marks of the set where it passes the test, and only there
agrees : ℕ → (ℕ → Bool) → List ℕ → ℕ → Bool
agrees set test [] n = true
agrees set test (x ∷ xs) n = same_flag (bit_and x set == 0) (test n) && agrees set test xs (n + 1)

-- so it is with each byte that the table has
agrees_at : (set : ℕ) (test : ℕ → Bool) (xs : List ℕ) (n k : ℕ) → agrees set test xs n ≡ true → k < length xs →
    (bit_and (get_or xs k 0) set == 0) ≡ test (n + k)
unfolding agrees
agrees_at set test [] n k e lt = absurd (omega arith)
agrees_at set test (x ∷ xs) n zero e lt = same_flag_is _ (test n) (and_parts _ _ e).0 ∙ ap test (sym (add-zero n))
agrees_at set test (x ∷ xs) n (suc k) e lt =
    let next : n + 1 + k ≡ n + suc k = omega arith in
    agrees_at set test xs (n + 1) k (and_parts _ _ e).1 (omega arith) ∙ ap test next

-- a byte has no mark of a mode where it is plain in it, and only there
all_agree : (mode : Mode) → agrees (alone mode) (is_plain mode) MARKS 0 ≡ true
unfolding agrees same_flag
all_agree Plain = refl
all_agree Double = refl
all_agree Brace = refl
all_agree DoubleBrace = refl
all_agree Arith = refl

pub table_tells : (mode : Mode) (b : ℕ) → b < 256 → (bit_and (get_or MARKS b 0) (alone mode) == 0) ≡ is_plain mode b
table_tells mode b lt = agrees_at (alone mode) (is_plain mode) MARKS 0 b (all_agree mode) lt
    ∙ ap (is_plain mode) (zero-add b)

-- ---- where a word ends, and what a name has

-- a test whose bytes are marked
marks : (set : ℕ) (test : ℕ → Bool) (b : ℕ) → agrees set (λ c. not (test c)) MARKS 0 ≡ true → b < 256 →
    not (bit_and (get_or MARKS b 0) set == 0) ≡ test b
marks set test b e lt = ap not (agrees_at set (λ c. not (test c)) MARKS 0 b e lt ∙ ap (λ c. not (test c)) (zero-add b))
    ∙ not-not (test b)

-- a byte is marked by 32 where a word ends before it, and by 64 where a name has it
ends_agree : agrees 32 (λ b. not (ends (Some b))) MARKS 0 ≡ true
unfolding agrees same_flag
ends_agree = refl

names_agree : agrees 64 (λ b. not (is_name b)) MARKS 0 ≡ true
unfolding agrees same_flag
names_agree = refl

pub table_ends : (b : ℕ) → b < 256 → not (bit_and (get_or MARKS b 0) 32 == 0) ≡ ends (Some b)
table_ends b lt = marks 32 (λ c. ends (Some c)) b ends_agree lt

pub table_names : (b : ℕ) → b < 256 → not (bit_and (get_or MARKS b 0) 64 == 0) ≡ is_name b
table_names b lt = marks 64 is_name b names_agree lt

-- it is marked by 128, unless only a word begins with it
words_agree : agrees 128 begins_a_word MARKS 0 ≡ true
unfolding agrees same_flag
words_agree = refl

pub table_words : (b : ℕ) → b < 256 → (bit_and (get_or MARKS b 0) 128 == 0) ≡ begins_a_word b
table_words b lt = agrees_at 128 begins_a_word MARKS 0 b words_agree lt ∙ ap begins_a_word (zero-add b)
