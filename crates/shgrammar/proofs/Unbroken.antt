-- A stretch of bytes of a class where no continuation stands: what is read there is what stands there.
use Rattle.std.proofs.Common.{◌≡◌, ℕ, zero, suc, ◌+◌, ◌-◌, ◌<◌, ◌≤◌, ◌==◌, Bool, true, false, ◌&&◌, Option, None, Some, slice_get, List, length, refl, sym, ap, ◌∙◌, arith}
use Rattle.std.proofs.lemmas.Bool.{eqb-true}
use Rattle.shgrammar.specs.Characters.{backslash, newline_char}
use Rattle.shgrammar.specs.declared.class.Class.{Class}
use Rattle.shgrammar.specs.declared.class.Class.TheVariants.{Blank, Digit, Name, Tab}
use Rattle.shgrammar.specs.Standing.{passes, is_byte, raw_stands, raw_in, raw_past, continues}
use Rattle.shgrammar.specs.Bytes.{stands_in, past, past_blanks, past_continuations, past_byte}
use Rattle.shgrammar.specs.Classes.{is_blank, in_class}
use Rattle.shgrammar.proofs.Stretches.{raw_more, raw_none, joined_none, passes_low, past_more, past_none}
use Rattle.shgrammar.proofs.Places.{place_same, stands_in_past, raw_past_stops}

-- a byte of a set without the backslash is none
no_backslash : (test : ℕ → Bool) (b : ℕ) (x : Bool) → (b == backslash) ≡ x → test backslash ≡ false → test b ≡ true →
    x ≡ false
no_backslash test b true same other passed =
    let contrary : true ≡ false = sym passed ∙ ap test (eqb-true b backslash same) ∙ other in
    absurd cc
no_backslash test b false same other passed = refl

-- so such a byte begins no continuation
no_continuation : (test : ℕ → Bool) (a : Option ℕ) (next : Bool) → test backslash ≡ false → passes test a ≡ true →
    (is_byte a backslash && next) ≡ false
no_continuation test None next other passed = absurd cc
no_continuation test (Some b) next other passed = rw (no_backslash test b (b == backslash) refl other passed) refl

-- no continuation stands where such a byte does
pub unbroken_at : (test : ℕ → Bool) (T : List ℕ) (p : ℕ) → test backslash ≡ false → raw_in test T p ≡ true →
    past_continuations T p ≡ p
unfolding raw_in
unbroken_at test T p other passed = joined_none T p
    (unfold continues raw_stands in
    no_continuation test (slice_get T p) (is_byte (slice_get T (p + 1)) newline_char) other passed)

-- where a byte passes a test there is one
raw_in_low : (test : ℕ → Bool) (T : List ℕ) (p : ℕ) → raw_in test T p ≡ true → p < length T
raw_in_low test T p passed = passes_low test T p (slice_get T p) refl (unfold raw_in in passed)

-- one more byte of the stretch, or its end
turn : (test : ℕ → Bool) (T : List ℕ) (p : ℕ) (x : Bool) → raw_in test T p ≡ x → test backslash ≡ false
    → (raw_in test T p ≡ true → past test T (p + 1) ≡ past test T (raw_past test T (p + 1))) →
    past test T p ≡ past test T (raw_past test T p)
unfolding stands_in past_byte raw_in
turn test T p true is other rest =
    let here : past_continuations T p ≡ p = unbroken_at test T p other is in
    past_more test T p (rw here is) ∙ rw here (rest is) ∙ ap (past test T) (sym (raw_more test T p is))
turn test T p false is other rest = ap (past test T) (sym (raw_none test T p is))

-- by how many bytes are left
on_from : (test : ℕ → Bool) (T : List ℕ) (n p : ℕ) → length T - p ≤ n → test backslash ≡ false →
    past test T p ≡ past test T (raw_past test T p)
on_from test T zero p low other =
    turn test T p (raw_in test T p) refl other (λ passed. absurd (omega (arith, low, raw_in_low test T p passed)))
on_from test T (suc n) p low other =
    turn test T p (raw_in test T p) refl other
    (λ passed. on_from test T n (p + 1) (omega (arith, low, raw_in_low test T p passed)) other)

-- the stretch goes on where its bytes as they stand end
pub past_on : (test : ℕ → Bool) (T : List ℕ) (p : ℕ) → test backslash ≡ false →
    past test T p ≡ past test T (raw_past test T p)
past_on test T p other = on_from test T (length T - p) p (omega arith) other

-- no class has the backslash
no_class : (class : Class) → in_class class backslash ≡ false
no_class Blank = refl
no_class Digit = refl
no_class Name = refl
no_class Tab = refl

-- so a stretch of each class goes on, and no byte of the class stands where its bytes as they stand end
pub past_raw : (class : Class) (T : List ℕ) (p : ℕ) →
    past (in_class class) T p ≡ past (in_class class) T (raw_past (in_class class) T p)
past_raw class T p = past_on (in_class class) T p (no_class class)

pub raw_stops : (class : Class) (T : List ℕ) (p : ℕ) → raw_in (in_class class) T (raw_past (in_class class) T p) ≡ false
raw_stops class T p = raw_past_stops (in_class class) T p

-- without a continuation, what does not stand at a place is not read there
pub none_here : (class : Class) (T : List ℕ) (p : ℕ) → continues T p ≡ false → raw_in (in_class class) T p ≡ false →
    stands_in (in_class class) T p ≡ false
unfolding stands_in raw_in
none_here class T p none other = rw (joined_none T p none) other

-- where no continuation stands there, the stretch ends there
pub past_whole : (class : Class) (T : List ℕ) (p : ℕ) → continues T (raw_past (in_class class) T p) ≡ false →
    past (in_class class) T p ≡ raw_past (in_class class) T p
past_whole class T p none =
    past_raw class T p ∙ past_none (in_class class) T (raw_past (in_class class) T p)
    (none_here class T _ none (raw_stops class T p))

-- what stands past continuations is read
pub joined_here : (class : Class) (T : List ℕ) (p : ℕ) (x : Bool) →
    raw_in (in_class class) T (past_continuations T p) ≡ x → stands_in (in_class class) T p ≡ x
unfolding stands_in raw_in
joined_here class T p x is = is

-- a stretch goes on past continuations, where a byte of it stands there
pub joined_on : (class : Class) (T : List ℕ) (p : ℕ) → raw_in (in_class class) T (past_continuations T p) ≡ true
    → past (in_class class) T p ≡ past (in_class class) T (raw_past (in_class class) T (past_continuations T p))
unfolding past_byte
joined_on class T p some =
    let here : stands_in (in_class class) T p ≡ true = joined_here class T p true some in
    past_more (in_class class) T p here
    ∙ ap (λ q. past (in_class class) T (q + 1)) (sym (place_same T p))
    ∙ sym (past_more (in_class class) T (past_continuations T p) (stands_in_past (in_class class) T p ∙ here))
    ∙ past_raw class T (past_continuations T p)

-- ---- blanks

-- no blank stands where the blanks from p on end
pub blanks_stop_raw : (T : List ℕ) (p : ℕ) → raw_in is_blank T (raw_past is_blank T p) ≡ false
blanks_stop_raw T p = raw_past_stops is_blank T p

-- where no continuation stands after them, a token begins there
pub blanks_whole : (T : List ℕ) (p : ℕ) → continues T (raw_past is_blank T p) ≡ false →
    past_blanks T p ≡ raw_past is_blank T p
unfolding past_blanks
blanks_whole T p none = ap (past_continuations T) (past_whole Blank T p none)
    ∙ joined_none T (raw_past is_blank T p) none

-- else after what follows the continuation
pub blanks_on : (T : List ℕ) (p : ℕ) → past_blanks T p ≡ past_continuations T (past is_blank T (raw_past is_blank T p))
unfolding past_blanks
blanks_on T p = ap (past_continuations T) (past_raw Blank T p)
