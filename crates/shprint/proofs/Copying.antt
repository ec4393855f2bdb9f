-- Text that is copied from a source, stretch by stretch or byte by byte.
use Rattle.std.proofs.Common.{◌≡◌, ℕ, zero, suc, ◌+◌, ◌-◌, ◌<◌, ◌≤◌, ◌==◌, ◌&&◌, false, Option, Some, None, slice_get, List, [], ◌∷◌, ◌++◌, length, drop, take, refl, sym, ap, ◌∙◌, arith}
use Rattle.std.proofs.lemmas.List.{drop-drop}
use Rattle.std.proofs.Math.Seq.{take-add}
use Rattle.std.specs.Option.{option_eq}
use Rattle.std.proofs.lemmas.Bool.Decides.{nat_tests}
use Rattle.shgrammar.specs.Characters.{backslash, hyphen, newline_char}
use Rattle.shgrammar.proofs.Runs.{run_front}
use Rattle.shgrammar.proofs.Stretches.{drop_here}
use Rattle.shast.specs.Shape.{bare, text_at}
use Rattle.shast.specs.declared.tree.Span.{Span}
use Rattle.shast.specs.declared.tree.RedirectOperator.TheVariants as redirects
use Rattle.shsource.specs.Text.{IsRun}
use Rattle.shprint.specs.Printed.{would_lengthen}

-- ---- by stretches

-- where more is wanted than a stretch has, all of it is copied, and then the rest
pub run_more : (B : List ℕ) (at : ℕ) (run : List ℕ) → IsRun B at run → (n : ℕ) → length run ≤ n →
    take n (drop at B) ≡ run ++ take (n - length run) (drop (at + length run) B)
run_more B at run is n le =
    let parts : n ≡ length run + (n - length run) = omega (arith, le) in
    ap (λ m. take m (drop at B)) parts ∙ take-add (length run) (n - length run) (drop at B)
    ∙ rw (run_front B at run is, drop-drop (length run) at B) refl

-- ---- by the byte

-- of no bytes none are taken
none_taken : (n : ℕ) → take {A = ℕ} n [] ≡ []
none_taken zero = refl
none_taken (suc n) = refl

-- where no byte stands the text has ended
pub drop_none : (B : List ℕ) (at : ℕ) → slice_get B at ≡ None → drop at B ≡ []
drop_none [] zero e = refl
drop_none [] (suc at) e = refl
drop_none (c ∷ B) zero e = absurd cc
drop_none (c ∷ B) (suc at) e = drop_none B at e

pub bare_none : bare [] ≡ []
unfolding bare
bare_none = refl

-- a continuation is not in the bare text
pub bare_pair : (X : List ℕ) → bare (backslash ∷ newline_char ∷ X) ≡ bare X
unfolding bare
bare_pair X = refl

-- two bytes that are no continuation
unlike : (b c : ℕ) → (b ≡ backslash → c ≡ newline_char → ⊥) → (b == backslash && c == newline_char) ≡ false
unlike b c unjoined = grind (arith, nat_tests)

-- the first of them is in the bare text
bare_two : (b c : ℕ) (X : List ℕ) → (b ≡ backslash → c ≡ newline_char → ⊥) → bare (b ∷ c ∷ X) ≡ b ∷ bare (c ∷ X)
unfolding bare
bare_two b c X unjoined = rw (unlike b c unjoined) refl

-- a byte that begins no continuation
bare_first : (b n : ℕ) (X : List ℕ) → (b ≡ backslash → slice_get X 0 ≡ Some newline_char → 0 < n → ⊥) →
    bare (b ∷ take n X) ≡ b ∷ bare (take n X)
unfolding bare
bare_first b zero X unjoined = refl
bare_first b (suc n) [] unjoined = refl
bare_first b (suc n) (c ∷ X) unjoined = bare_two b c (take n X) (λ e f. unjoined e (ap Some f) (omega arith))

-- the first byte from a place on
get_drop : (B : List ℕ) (at : ℕ) → slice_get (drop at B) 0 ≡ slice_get B at
get_drop B zero = refl
get_drop [] (suc at) = refl
get_drop (b ∷ B) (suc at) = get_drop B at

module _ (B : List ℕ) (at «end» b : ℕ) (here : slice_get B at ≡ Some b) (before : at < «end») where
  -- a stretch by its first byte
  pub first_taken : take («end» - at) (drop at B) ≡ b ∷ take («end» - (at + 1)) (drop (at + 1) B)
  first_taken =
      let n : «end» - at ≡ suc («end» - (at + 1)) = omega (arith, before) in
      rw (n, drop_here B at b here) refl

  -- no continuation begins here
  pub bare_more : (b ≡ backslash → slice_get B (at + 1) ≡ Some newline_char → at + 1 < «end» → ⊥) →
      bare (take («end» - at) (drop at B)) ≡ b ∷ bare (take («end» - (at + 1)) (drop (at + 1) B))
  bare_more unjoined =
      ap bare first_taken ∙ bare_first b («end» - (at + 1)) (drop (at + 1) B)
      (λ e f lt. unjoined e (sym (get_drop B (at + 1)) ∙ f) (omega (arith, lt)))

-- a continuation begins here
pub bare_joined : (B : List ℕ) (at «end» : ℕ) → slice_get B at ≡ Some backslash →
    slice_get B (at + 1) ≡ Some newline_char → at + 1 < «end»
    → bare (take («end» - at) (drop at B)) ≡ bare (take («end» - (at + 2)) (drop (at + 2) B))
bare_joined B at «end» one two lt =
    let both : at + 1 + 1 ≡ at + 2 = omega arith in
    ap bare (first_taken B at «end» backslash one (omega (arith, lt))
    ∙ ap (λ X. backslash ∷ X) (first_taken B (at + 1) «end» newline_char two lt))
    ∙ bare_pair _ ∙ rw both refl

-- ---- a word after `<<`

module _ (B : List ℕ) (s : Span) (some : s.start < s.«end») where
  -- a word lengthens `<<` where the byte that stands first in it, or none, is `-`
  here_lengthened_by_first : (o : Option ℕ) → slice_get B s.start ≡ o →
      would_lengthen redirects.Here (text_at B s) ≡ option_eq ◌==◌ o (Some hyphen)
  here_lengthened_by_first None e = rw (drop_none B s.start e, none_taken (s.«end» - s.start)) refl
  here_lengthened_by_first (Some b) e = rw (first_taken B s.start s.«end» b e some) refl

  -- so it is told by the byte where the word starts
  pub here_lengthened_by_hyphen : would_lengthen redirects.Here (text_at B s)
      ≡ option_eq ◌==◌ (slice_get B s.start) (Some hyphen)
  here_lengthened_by_hyphen = here_lengthened_by_first (slice_get B s.start) refl
