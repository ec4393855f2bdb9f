-- A comment: its `#`, and the blanks before its end.
use Rattle.std.proofs.Common.{◌≡◌, ℕ, ◌+◌, ◌-◌, ◌<◌, true, false, Option, Some, None, List, slice_get, refl, arith}
use Rattle.std.proofs.lemmas.Bool.Decides.{nat_tests}
use Rattle.shgrammar.specs.Characters.{newline_char, number_sign}
use Rattle.shgrammar.specs.Classes.{is_blank}
use Rattle.shgrammar.specs.Standing.{at_end, before_blanks, is_byte, is_none, next_newline, next_of, passes, raw_in, raw_past, raw_stands}
use Rattle.shgrammar.proofs.Stretches.{blanks_before, no_blanks_before}
use Rattle.shline.proofs.Searches.{byte_passed}

-- ---- blanks before a place that counts from b

-- a blank more leaves the last byte that is none where it is
pub blanks_before_on : (T : List ℕ) (b q : ℕ) → 0 < q → raw_in is_blank T (b + (q - 1)) ≡ true →
    before_blanks T (b + q) ≡ before_blanks T (b + (q - 1))
blanks_before_on T b q lt one =
    let back : b + (q - 1) ≡ b + q - 1 = omega (arith, lt) in
    rw back (blanks_before T (b + q) (omega (arith, lt)) (rw back at one))

-- a byte that is no blank is the last one itself
pub no_blanks_before_on : (T : List ℕ) (b q : ℕ) → 0 < q → raw_in is_blank T (b + (q - 1)) ≡ false →
    before_blanks T (b + q) ≡ b + q
no_blanks_before_on T b q lt none =
    let back : b + (q - 1) ≡ b + q - 1 = omega (arith, lt) in
    no_blanks_before T (b + q) (omega (arith, lt)) (rw back at none)

-- ---- the `#` of a comment

-- a `#` is a byte, and is no newline and no blank
byte_of_comment : (x : Option ℕ) → is_byte x number_sign ≡ true → (is_none x ≡ false) × (is_byte x newline_char ≡ false)
    × (passes is_blank x ≡ false)
byte_of_comment None is = absurd cc
byte_of_comment (Some b) is =
    let same : b ≡ 35 = grind (arith, nat_tests, is) in
    rw same (refl, refl, refl)

-- it is no blank, and its line ends after it
pub comment_begins : (T : List ℕ) (p : ℕ) → raw_stands T p number_sign ≡ true → (raw_in is_blank T p ≡ false)
    × (p < next_newline T p)
unfolding raw_stands raw_in at_end raw_past
comment_begins T p is =
    let byte = byte_of_comment (slice_get T p) is in
    let on : next_of newline_char T p ≡ next_of newline_char T (p + 1) = byte_passed 10 T p byte.0 byte.1 in
    (byte.2, rw on (omega arith))
