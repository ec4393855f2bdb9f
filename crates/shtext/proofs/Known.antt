-- Known bytes that grow or go in several calls.
use Rattle.std.proofs.Common.{Bool, true, false, ◌||◌, ⊎_elim, subst, ◌≡◌, ℕ, ◌+◌, ◌-◌, ◌≤◌, List, [], ◌++◌, Option, None, Some, length, take, drop, refl, sym, ap, ◌∙◌, arith, append_assoc, append-nil}
use Rattle.std.proofs.lemmas.Bool.{cases_lt}
use Rattle.shtext.specs.Device.{Writes}
use Rattle.std.specs.Io.KnownBytes.{Appends, Consumes, Keeps}
use Rattle.std.proofs.lemmas.List.{take_rest, length-drop, take-append-le, take_all}
use Rattle.std.proofs.Math.Seq.{take-add, take-append_seam, take-append-add, take-length}

pub Appends-trans : (a b c : Option (List ℕ)) (bs cs ds : List ℕ) → Appends a b bs → Appends b c cs → bs ++ cs ≡ ds →
    Appends a c ds
Appends-trans None b c bs cs ds p q e = tt
Appends-trans (Some x) None c bs cs ds p q e = absurd p
Appends-trans (Some x) (Some y) None bs cs ds p q e = absurd q
Appends-trans (Some x) (Some y) (Some z) bs cs ds p q e = q ∙ ap (λ l. l ++ cs) p ∙ append_assoc x bs cs
    ∙ ap (λ l. x ++ l) e

pub Consumes-trans : (a b c : Option (List ℕ)) (bs cs ds : List ℕ) → Consumes a b bs → Consumes b c cs → bs ++ cs ≡ ds →
    Consumes a c ds
Consumes-trans None b c bs cs ds p q e = tt
Consumes-trans (Some x) None c bs cs ds p q e = absurd p
Consumes-trans (Some x) (Some y) None bs cs ds p q e = absurd q
Consumes-trans (Some x) (Some y) (Some z) bs cs ds p q e = p ∙ ap (λ l. bs ++ l) q ∙ sym (append_assoc bs cs z)
    ∙ ap (λ l. l ++ z) e

-- the next n bytes of a piece that is written from `at` on
pub Appends-next : (a b c : Option (List ℕ)) (piece : List ℕ) (at n : ℕ)
    → Appends a b (take at piece) → Appends b c (take n (take (length piece - at) (drop at piece))) →
    Appends a c (take (at + n) piece)
Appends-next a b c piece at n p q =
    Appends-trans a b c _ _ _ p q (ap (λ l. take at piece ++ take n l) (take_rest piece at) ∙ sym (take-add at n piece))

-- what is left of a piece has room for n bytes
pub rest-fits : (piece : List ℕ) (at n : ℕ) → at ≤ length piece → n ≤ length (take (length piece - at) (drop at piece))
    → at + n ≤ length piece
rest-fits piece at n low short =
    let whole : length (take (length piece - at) (drop at piece)) ≡ length piece - at = ap length (take_rest piece at)
    ∙ length-drop at piece in
    omega (arith, low, short, whole)

-- ---- a text that is written in parts

-- the front of a text was written, and nothing of the rest
pub Writes-early : (a b : Option (List ℕ)) (x y : List ℕ) → Writes a b true x → Writes a b true (x ++ y)
Writes-early a b x y (k, p) =
    ⊎_elim
    (λ lt. (k, let le : k ≤ length x = omega (arith, lt) in subst (Appends a b) (sym (take-append-le k x y le)) p))
    (λ ge. (length x, subst (Appends a b) (take_all k x ge ∙ sym (take-append_seam x y)) p))
    (cases_lt k (length x))

-- the front of a text was written, and then what is told of the rest
pub Writes-after : (a b c : Option (List ℕ)) (f : Bool) (x y : List ℕ) → Appends a b x → Writes b c f y →
    Writes a c f (x ++ y)
Writes-after a b c true x y p (k, q) =
    (length x + k, Appends-trans a b c x (take k y) _ p q (sym (take-append-add x y k)))
Writes-after a b c false x y p q = Appends-trans a b c x y _ p q refl

Appends-kept : (a b c : Option (List ℕ)) (x : List ℕ) → Appends a b x → Keeps b c → Appends a c x
Appends-kept None b c x p q = tt
Appends-kept (Some u) None c x p q = absurd p
Appends-kept (Some u) (Some v) None x p q = absurd q
Appends-kept (Some u) (Some v) (Some w) x p q = q ∙ p

-- a flush after a text
pub Writes-flushed : (a b c : Option (List ℕ)) (f : Bool) (x : List ℕ) → Appends a b x → Keeps b c → Writes a c f x
Writes-flushed a b c true x p q = (length x, subst (Appends a c) (sym (take-length x)) (Appends-kept a b c x p q))
Writes-flushed a b c false x p q = Appends-kept a b c x p q

-- nothing to write
pub Writes-nothing : (a : Option (List ℕ)) (f : Bool) → f ≡ false → Writes a a f []
Writes-nothing None true e = (0, tt)
Writes-nothing None false e = tt
Writes-nothing (Some x) true e = (0, sym (append-nil x))
Writes-nothing (Some x) false e = sym (append-nil x)

-- the failure of a device that was sound is that of this write
pub Writes-marked : (a b : Option (List ℕ)) (before after wrote : Bool) (x y : List ℕ) → before ≡ false →
    after ≡ (before || wrote) → x ≡ y → Writes a b wrote x → Writes a b after y
Writes-marked a b before after wrote x y sound told same p =
    subst (λ f. Writes a b f y) (sym (told ∙ ap (λ f. f || wrote) sound)) (subst (Writes a b wrote) same p)
