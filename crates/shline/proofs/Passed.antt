-- Bytes of a class that stand one after another, and blanks among continuations.
use Rattle.std.proofs.Common.{◌≡◌, ℕ, ◌+◌, Bool, true, false, List, refl, subst, sym, ap, ◌∙◌, arith}
use Rattle.shgrammar.specs.Bytes.{past, past_blanks, past_byte, past_continuations, stands_in}
use Rattle.shgrammar.specs.Classes.{is_blank}
use Rattle.shgrammar.specs.Standing.{continues, raw_in, raw_past}
use Rattle.shgrammar.proofs.Stretches.{joined_more, past_more, past_none, raw_more, raw_none}
use Rattle.shgrammar.proofs.Unbroken.{blanks_on, blanks_whole}

-- one of them is, or two
raw_one : (test : ℕ → Bool) (T : List ℕ) (p : ℕ) → raw_in test T p ≡ true → raw_in test T (p + 1) ≡ false →
    raw_past test T p ≡ p + 1
raw_one test T p one none = raw_more test T p one ∙ raw_none test T (p + 1) none

raw_two : (test : ℕ → Bool) (T : List ℕ) (p : ℕ) → raw_in test T p ≡ true → raw_in test T (p + 1) ≡ true →
    raw_past test T (p + 2) ≡ raw_past test T p
raw_two test T p one two =
    let next : p + 2 ≡ p + 1 + 1 = omega arith in
    ap (raw_past test T) next ∙ sym (raw_more test T (p + 1) two) ∙ sym (raw_more test T p one)

-- the same, where the places are told by their distance
pub raw_one_on : (test : ℕ → Bool) (T : List ℕ) (p q : ℕ) → q ≡ p + 1 → raw_in test T p ≡ true → raw_in test T q ≡ false
    → raw_past test T p ≡ q
raw_one_on test T p q is one none = raw_one test T p one (subst (λ (k : ℕ). raw_in test T k ≡ false) is none) ∙ sym is

pub raw_two_on : (test : ℕ → Bool) (T : List ℕ) (p q r : ℕ) → q ≡ p + 1 → r ≡ p + 2 → raw_in test T p ≡ true →
    raw_in test T q ≡ true → raw_past test T r ≡ raw_past test T p
raw_two_on test T p q r is far one two = ap (raw_past test T) far
    ∙ raw_two test T p one (subst (λ (k : ℕ). raw_in test T k ≡ true) is two)

-- no blank stands at a place, nor a continuation
pub no_blanks : (T : List ℕ) (p : ℕ) → continues T p ≡ false → raw_in is_blank T p ≡ false → past_blanks T p ≡ p
no_blanks T p whole none =
    let here : raw_past is_blank T p ≡ p = raw_none is_blank T p none in
    blanks_whole T p (ap (continues T) here ∙ whole) ∙ here

-- where two places have the same place past continuations, the token after the blanks there is the same
same_place : (T : List ℕ) (p q : ℕ) (x : Bool) → past_continuations T p ≡ past_continuations T q
    → stands_in is_blank T p ≡ x → past_blanks T p ≡ past_blanks T q
unfolding past_byte past_blanks stands_in
same_place T p q true same blank =
    let there : stands_in is_blank T q ≡ true = rw (sym same) blank in
    let on = past_more is_blank T p blank ∙ ap (λ r. past is_blank T (r + 1)) same in
    ap (past_continuations T) (on ∙ sym (past_more is_blank T q there))
same_place T p q false same blank =
    let there : stands_in is_blank T q ≡ false = rw (sym same) blank in
    ap (past_continuations T) (past_none is_blank T p blank) ∙ same
    ∙ sym (ap (past_continuations T) (past_none is_blank T q there))

-- a continuation among blanks is passed, and the blanks after it
blanks_over : (T : List ℕ) (p : ℕ) → continues T p ≡ true
    → past_blanks T (raw_past is_blank T (p + 2)) ≡ past_blanks T p
unfolding past_blanks
blanks_over T p joined =
    sym (blanks_on T (p + 2)) ∙ sym (same_place T p (p + 2) (stands_in is_blank T p) (joined_more T p joined) refl)

-- the same, where the places are told one by one
pub blanks_over_on : (T : List ℕ) (p q r : ℕ) → q ≡ p + 2 → r ≡ raw_past is_blank T q → continues T p ≡ true
    → past_blanks T r ≡ past_blanks T p
blanks_over_on T p q r next end joined = ap (past_blanks T) (end ∙ ap (raw_past is_blank T) next)
    ∙ blanks_over T p joined
