-- The tables of the sets agree with the definitions, byte by byte.
use Rattle.std.proofs.Common.{◌≡◌, ℕ, zero, suc, ◌<◌, ◌≤◌, Bool, true, ◌&&◌, List, length, slice_index, get_or, Fits, w8, inl, inr, refl, sym, ap, ◌∙◌, arith}
use Rattle.std.proofs.lemmas.Bool.{and_parts, cases_lt}
use Rattle.std.proofs.lemmas.List.Sums.{prefix_len-le-length, prefix_len_passes}
use Rattle.std.specs.List.{prefix_len}
use Rattle.shscan.specs.Sets.{is_outside}
use Rattle.shline.specs.declared.sets.TheConstants.{BRACE, DOUBLE, DOUBLE_BRACE, PLAIN, SPECIAL}
use Rattle.shline.specs.Sought.{ArePlain}
use Rattle.shgrammar.specs.Plain.{is_plain}
use Rattle.shgrammar.specs.declared.mode.Mode.TheVariants.{Plain, Double, Brace, DoubleBrace}
use Rattle.shgrammar.proofs.PlainTable.{same_flag, same_flag_is}

-- two tests agree below n
unfoldable pub agree : (ℕ → Bool) → (ℕ → Bool) → ℕ → Bool
agree f g zero = true
agree f g (suc n) = same_flag (f n) (g n) && agree f g n

-- tests that agree below n are equal at each number below it
pub agree_at : (f g : ℕ → Bool) (n k : ℕ) → agree f g n ≡ true → k < n → f k ≡ g k
unfolding agree
agree_at f g zero k all low = absurd (omega (arith, low))
agree_at f g (suc n) k all low =
    elim (cases_lt k n) [
      | inl below ↦ agree_at f g n k (and_parts _ _ all).1 below
      | inr above ↦
          let here : k ≡ n = omega (arith, low, above) in
          ap f here ∙ same_flag_is (f n) (g n) (and_parts _ _ all).0 ∙ ap g (sym here)
    ]

-- each table is that of its set

plain_set : agree (is_outside PLAIN SPECIAL) (is_plain Plain) 256 ≡ true
unfolding agree same_flag
plain_set = refl

double_set : agree (is_outside DOUBLE SPECIAL) (is_plain Double) 256 ≡ true
unfolding agree same_flag
double_set = refl

brace_set : agree (is_outside BRACE SPECIAL) (is_plain Brace) 256 ≡ true
unfolding agree same_flag
brace_set = refl

double_brace_set : agree (is_outside DOUBLE_BRACE SPECIAL) (is_plain DoubleBrace) 256 ≡ true
unfolding agree same_flag
double_brace_set = refl

-- the bytes before the first one of a set
passed : (low high : List ℕ) (test : ℕ → Bool) → agree (is_outside low high) test 256 ≡ true → (run : List ℕ) →
    ((k : ℕ) → Fits w8 (get_or run k 0))
    → (n : ℕ) → n ≡ prefix_len (is_outside low high) run → (n ≤ length run)
    × ((k : ℕ) → k < n → test (slice_index run k) ≡ true)
passed low high test all run bytes n is = (
  omega (arith, is, prefix_len-le-length (is_outside low high) run),
  λ k below. sym (agree_at (is_outside low high) test 256 (slice_index run k) all (bytes k).fits)
      ∙ prefix_len_passes (is_outside low high) run k 0 (omega (arith, is, below)),
)

-- the bytes before the first special one of each mode are ordinary in that mode
pub plain_passed : (run : List ℕ) → ((k : ℕ) → Fits w8 (get_or run k 0)) → (n : ℕ) →
    n ≡ prefix_len (is_outside PLAIN SPECIAL) run → ArePlain Plain run n
plain_passed = passed PLAIN SPECIAL (is_plain Plain) plain_set

pub double_passed : (run : List ℕ) → ((k : ℕ) → Fits w8 (get_or run k 0)) → (n : ℕ) →
    n ≡ prefix_len (is_outside DOUBLE SPECIAL) run → ArePlain Double run n
double_passed = passed DOUBLE SPECIAL (is_plain Double) double_set

pub brace_passed : (run : List ℕ) → ((k : ℕ) → Fits w8 (get_or run k 0)) → (n : ℕ) →
    n ≡ prefix_len (is_outside BRACE SPECIAL) run → ArePlain Brace run n
brace_passed = passed BRACE SPECIAL (is_plain Brace) brace_set

pub double_brace_passed : (run : List ℕ) → ((k : ℕ) → Fits w8 (get_or run k 0)) → (n : ℕ) →
    n ≡ prefix_len (is_outside DOUBLE_BRACE SPECIAL) run → ArePlain DoubleBrace run n
double_brace_passed = passed DOUBLE_BRACE SPECIAL (is_plain DoubleBrace) double_brace_set
