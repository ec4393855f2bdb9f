-- A text that is written piece by piece.
use Rattle.std.proofs.Common.{◌≡◌, ℕ, ◌+◌, ◌<◌, Bool, true, false, List, ◌++◌, Option, drop, flat_map, get_or, length, refl, sym, ap, ◌∙◌, add-one, append_assoc, drop-cons, subst, Result, Ok, Err, is_ok, is_err, not}
use Rattle.std.specs.Io.KnownBytes.{Appends}
use Rattle.shtext.specs.Device.{Writes}
use Rattle.shtext.proofs.Known.{Appends-trans, Writes-after, Writes-early}
use denote.Bor.{Bor}

-- the pieces from an index on are the piece there and those after it
pub next_piece : (pieces : List (Bor (List ℕ))) (i : ℕ) (d : Bor (List ℕ)) → i < length pieces
    → flat_map (λ p. p.now) (drop i pieces) ≡ (get_or pieces i d).now ++ flat_map (λ p. p.now) (drop (i + 1) pieces)
next_piece pieces i d low = rw (add-one, drop-cons pieces i d) refl

-- where a piece could not be written, a beginning of the whole text was
pub piece_failed : (a b c : Option (List ℕ)) (f : Bool) (all text rest piece more : List ℕ) → f ≡ true →
    all ≡ text ++ rest → rest ≡ piece ++ more
    → Appends a b text → Writes b c f piece → Writes a c true all
piece_failed a b c f all text rest piece more failed whole next p q =
    subst (Writes a c true) (sym (whole ∙ ap (λ l. text ++ l) next))
    (Writes-after a b c true text (piece ++ more) p
    (Writes-early b c piece more (subst (λ g. Writes b c g piece) failed q)))

-- a piece that was written stands after the text before it
pub piece_written : (a b c : Option (List ℕ)) (f : Bool) (text piece : List ℕ) → f ≡ false → Appends a b text →
    Writes b c f piece → Appends a c (text ++ piece)
piece_written a b c f text piece fine p q =
    Appends-trans a b c text piece _ p (subst (λ g. Writes b c g piece) fine q) refl

-- the whole text is what was written with that piece, and the pieces after it
pub piece_next : (all text rest piece more : List ℕ) → all ≡ text ++ rest → rest ≡ piece ++ more →
    all ≡ (text ++ piece) ++ more
piece_next all text rest piece more whole next = whole ∙ ap (λ l. text ++ l) next ∙ sym (append_assoc text piece more)

-- a result that is not good has failed
pub not_ok : {A E : Type 0} (r : Result A E) → not (is_ok r) ≡ is_err r
not_ok (Ok x) = refl
not_ok (Err e) = refl
