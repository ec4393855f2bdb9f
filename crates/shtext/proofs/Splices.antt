-- Splices: one more after others, and what they make of bytes.
use Rattle.std.proofs.Common.{◌≡◌, ℕ, ◌+◌, ◌-◌, ◌<◌, ◌≤◌, ◌↔◌, List, [], ◌∷◌, ◌++◌, List as Row, length, take, drop, get_or, slice_range, refl, sym, ap, subst, ◌∙◌, arith, append_assoc, add-one, drop-cons}
use Rattle.std.proofs.lemmas.List.{length-append, length-drop, length-take-le, drop-drop, take-take, take-append-drop, take-append-le, drop-append-le, drop_at, map-append, take_more}
use Rattle.std.proofs.Math.Seq.{take-add}
use Rattle.shtext.specs.Buffer.{with_splices}
use Rattle.shtext.specs.Edit.{ASplice, AreInRange, RiseFrom, edited, first_begin, last_end, last_end_from, made_from, new_end, spliced, splices_of}
use Rattle.shtext.specs.declared.splice.Splice.{Splice}

-- ---- one more

pub in_range_more : (len : ℕ) (ss : Row ASplice) (s : ASplice)
    → (AreInRange len ss × ((s.a ≤ s.b) × (s.b ≤ len))) ↔ AreInRange len (ss ++ s ∷ [])
in_range_more len [] s = (λ is. (is.1.0, is.1.1, tt), λ is. (tt, (is.0, is.1)))
in_range_more len (t ∷ ts) s =
    let on = in_range_more len ts s in
    (λ is. (is.0.0, is.0.1, on.0 (is.0.2, is.1)), λ is. ((is.0, is.1, (on.1 is.2).0), (on.1 is.2).1))

pub rise_more : (from : ℕ) (ss : Row ASplice) (s : ASplice)
    → (RiseFrom from ss × (last_end_from from ss ≤ s.a)) ↔ RiseFrom from (ss ++ s ∷ [])
rise_more from [] s = (λ is. (is.1, tt), λ is. (tt, is.0))
rise_more from (t ∷ ts) s =
    let on = rise_more t.b ts s in
    (λ is. (is.0.0, on.0 (is.0.1, is.1)), λ is. ((is.0, (on.1 is.1).0), (on.1 is.1).1))

pub last_more : (from : ℕ) (ss : Row ASplice) (s : ASplice) → last_end_from from (ss ++ s ∷ []) ≡ s.b
last_more from [] s = refl
last_more from (t ∷ ts) s = last_more t.b ts s

pub made_more : (from : ℕ) (ss : Row ASplice) (s : ASplice)
    → made_from from (ss ++ s ∷ []) ≡ made_from from ss + (s.a - last_end_from from ss + length s.bytes)
made_more from [] s = omega arith
made_more from (t ∷ ts) s = let on = made_more t.b ts s in omega (arith, on)

-- ---- where they end

pub last_after : (len from : ℕ) (ss : Row ASplice) → AreInRange len ss → RiseFrom from ss →
    from ≤ last_end_from from ss
last_after len from [] range rising = omega arith
last_after len from (s ∷ ss) range rising =
    let on = last_after len s.b ss range.2 rising.1 in omega (arith, on, range.0, rising.0)

pub last_within : (len from : ℕ) (ss : Row ASplice) → from ≤ len → AreInRange len ss → last_end_from from ss ≤ len
last_within len from [] low range = low
last_within len from (s ∷ ss) low range = last_within len s.b ss range.1 range.2

-- up to the end of the last, they are in range
pub in_last : (len from : ℕ) (ss : Row ASplice) → AreInRange len ss → RiseFrom from ss →
    AreInRange (last_end_from from ss) ss
in_last len from [] range rising = tt
in_last len from (s ∷ ss) range rising =
    (range.0, last_after len s.b ss range.2 rising.1, in_last len s.b ss range.2 rising.1)

-- ---- what they make

-- of a text: the bytes before them, and what they make of the rest
pub edited_with : (bytes : List ℕ) (from : ℕ) (ss : Row ASplice) → from ≤ length bytes → AreInRange (length bytes) ss →
    RiseFrom from ss
    → edited bytes ss ≡ take from bytes ++ with_splices from (drop from bytes) ss
edited_with bytes from [] low range rising = sym (take-append-drop from bytes)
edited_with bytes from (s ∷ ss) low range rising =
    let made : List ℕ = edited bytes ss in
    let is : made ≡ take s.b bytes ++ with_splices s.b (drop s.b bytes) ss =
    edited_with bytes s.b ss range.1 range.2 rising.1 in
    let long : length (take s.b bytes) ≡ s.b = length-take-le s.b bytes range.1 in
    let rest : List ℕ = with_splices s.b (drop s.b bytes) ss in
    let front : take s.a made ≡ take s.a bytes = ap (take s.a) is
    ∙ take-append-le s.a (take s.b bytes) rest (omega (arith, long, range.0)) ∙ take-take s.a s.b bytes range.0 in
    let back : drop s.b made ≡ rest = ap (drop s.b) is ∙ drop_at (take s.b bytes) rest s.b long in
    let there : from + (s.a - from) ≡ s.a = omega (arith, rising.0) in
    let split : take s.a bytes ≡ take from bytes ++ take (s.a - from) (drop from bytes) =
    ap (λ m. take m bytes) (sym there) ∙ take-add from (s.a - from) bytes in
    let far : from + (s.b - from) ≡ s.b = omega (arith, rising.0, range.0) in
    let on : drop s.b bytes ≡ drop (s.b - from) (drop from bytes) = ap (λ m. drop m bytes) (sym far)
    ∙ sym (drop-drop (s.b - from) from bytes) in
    ap (λ l. l ++ (s.bytes ++ drop s.b made)) (front ∙ split)
    ∙ ap (λ l. (take from bytes ++ take (s.a - from) (drop from bytes)) ++ (s.bytes ++ l))
    (back ∙ ap (λ l. with_splices s.b l ss) on)
    ∙ append_assoc (take from bytes) (take (s.a - from) (drop from bytes)) _

-- what stands after the last of them stays
pub with_after : (from : ℕ) (bytes after : List ℕ) (ss : Row ASplice) → AreInRange (from + length bytes) ss →
    RiseFrom from ss
    → with_splices from (bytes ++ after) ss ≡ with_splices from bytes ss ++ after
with_after from bytes after [] range rising = refl
with_after from bytes after (s ∷ ss) range rising =
    let short : s.b - from ≤ length bytes = omega (arith, range.1) in
    let count = length-drop (s.b - from) bytes in
    let same : s.b + length (drop (s.b - from) bytes) ≡ from + length bytes =
    omega (arith, count, range.0, range.1, rising.0) in
    let front = take-append-le (s.a - from) bytes after (omega (arith, short, range.0)) in
    let back = drop-append-le (s.b - from) bytes after short in
    let on = with_after s.b (drop (s.b - from) bytes) after ss
    (subst (λ n. AreInRange n ss) (sym same) range.2) rising.1 in
    ap (λ l. l ++ (s.bytes ++ with_splices s.b (drop (s.b - from) (bytes ++ after)) ss)) front
    ∙ ap (λ l. take (s.a - from) bytes ++ (s.bytes ++ l)) (ap (λ l. with_splices s.b l ss) back ∙ on)
    ∙ ap (λ l. take (s.a - from) bytes ++ l) (sym (append_assoc s.bytes _ after))
    ∙ sym (append_assoc (take (s.a - from) bytes) _ after)

-- how many bytes that are
pub with_length : (from : ℕ) (bytes : List ℕ) (ss : Row ASplice) → AreInRange (from + length bytes) ss →
    RiseFrom from ss
    → length (with_splices from bytes ss) ≡ made_from from ss + (from + length bytes - last_end_from from ss)
with_length from bytes [] range rising = omega arith
with_length from bytes (s ∷ ss) range rising =
    let count = length-drop (s.b - from) bytes in
    let same : s.b + length (drop (s.b - from) bytes) ≡ from + length bytes =
    omega (arith, count, range.0, range.1, rising.0) in
    let on = with_length s.b (drop (s.b - from) bytes) ss (subst (λ n. AreInRange n ss) (sym same) range.2) rising.1 in
    let front = length-take-le (s.a - from) bytes (omega (arith, range.0, range.1)) in
    let all = length-append (take (s.a - from) bytes) (s.bytes ++ with_splices s.b (drop (s.b - from) bytes) ss) in
    let rest = length-append s.bytes (with_splices s.b (drop (s.b - from) bytes) ss) in
    omega (arith, same, on, front, all, rest)

-- how long an edited text is
pub edited_long : (bytes : List ℕ) (ss : Row ASplice) → AreInRange (length bytes) ss → RiseFrom 0 ss
    → length (edited bytes ss) ≡ made_from 0 ss + (length bytes - last_end_from 0 ss)
edited_long bytes ss range rising =
    ap length (edited_with bytes 0 ss (omega arith) range rising)
    ∙ with_length 0 bytes ss (subst (λ n. AreInRange n ss) (omega arith) range) rising ∙ omega arith

-- ---- as one

-- the bytes between the start of the first and the end of the last
abbrev pub held_between : List ℕ → Row ASplice → List ℕ
held_between bytes ss = take (last_end ss - first_begin ss) (drop (first_begin ss) bytes)

module _ (bytes : List ℕ) (ss : Row ASplice) (some : 0 < length ss) (range : AreInRange (length bytes) ss)
    (rising : RiseFrom 0 ss) where
  pub ends_rise : first_begin ss ≤ last_end ss
  ends_rise = rise ss some range rising where
    rise : (ts : Row ASplice) → 0 < length ts → AreInRange (length bytes) ts → RiseFrom 0 ts →
        first_begin ts ≤ last_end ts
    rise [] none is on = absurd (omega (arith, none))
    rise (t ∷ ts) more is on = omega (arith, is.0, last_after (length bytes) t.b ts is.2 on.1)

  pub ends_within : last_end ss ≤ length bytes
  ends_within = last_within (length bytes) 0 ss (omega arith) range

  pub rise_first : RiseFrom (first_begin ss) ss
  rise_first = rise ss rising where
    rise : (ts : Row ASplice) → RiseFrom 0 ts → RiseFrom (first_begin ts) ts
    rise [] on = tt
    rise (t ∷ ts) on = (omega arith, on.1)

  held_count : length (held_between bytes ss) ≡ last_end ss - first_begin ss
  held_count = length-take-le (last_end ss - first_begin ss) (drop (first_begin ss) bytes)
      (omega (arith, length-drop (first_begin ss) bytes, ends_within))

  held_end : last_end ss ≡ first_begin ss + length (held_between bytes ss)
  held_end = omega (arith, held_count, ends_rise)

  pub in_held : AreInRange (first_begin ss + length (held_between bytes ss)) ss
  in_held = subst (λ n. AreInRange n ss) held_end (in_last (length bytes) 0 ss range rising)

  abbrev made : List ℕ
  made = with_splices (first_begin ss) (held_between bytes ss) ss

  -- splices make what one makes, with these bytes in the place of those
  pub edited_one : spliced bytes (first_begin ss) (last_end ss) made ≡ edited bytes ss
  edited_one =
      let first : ℕ = first_begin ss in
      let last : ℕ = last_end ss in
      let old : List ℕ = held_between bytes ss in
      let far : first + (last - first) ≡ last = omega (arith, ends_rise) in
      let after : drop (last - first) (drop first bytes) ≡ drop last bytes = drop-drop (last - first) first bytes
      ∙ ap (λ m. drop m bytes) far in
      let split : drop first bytes ≡ old ++ drop last bytes = sym (take-append-drop (last - first) (drop first bytes))
      ∙ ap (λ l. old ++ l) after in
      sym
      (edited_with bytes first ss (omega (arith, ends_rise, ends_within)) range rise_first
      ∙ ap (λ l. take first bytes ++ with_splices first l ss) split
      ∙ ap (λ l. take first bytes ++ l) (with_after first old (drop last bytes) ss in_held rise_first))

  -- and they end where its bytes end
  pub made_end : first_begin ss + length made ≡ new_end ss
  made_end =
      let count = with_length (first_begin ss) (held_between bytes ss) ss in_held rise_first in
      let there = from_first ss some in
      omega (arith, count, held_end, there.0, there.1)
    where
      from_first : (ts : Row ASplice) → 0 < length ts
          → (first_begin ts + made_from (first_begin ts) ts ≡ made_from 0 ts)
          × (last_end_from (first_begin ts) ts ≡ last_end ts)
      from_first [] none = absurd (omega (arith, none))
      from_first (t ∷ ts) more = (omega arith, refl)

module _ (bytes : List ℕ) (ss : Row ASplice) (some : 0 < length ss) (range : AreInRange (length bytes) ss)
    (rising : RiseFrom 0 ss)
    (start end : ℕ) (starts : start ≡ first_begin ss) (ends : end ≡ last_end ss) (old : List ℕ)
    (is : old ≡ slice_range bytes start end) where
  -- the bytes between two places are those between the first and the last of them
  pub old_is : old ≡ held_between bytes ss
  old_is = is ∙ ap (λ m. take (end - m) (drop m bytes)) starts
      ∙ ap (λ m. take (m - first_begin ss) (drop (first_begin ss) bytes)) ends

  pub in_old : AreInRange (start + length old) ss
  in_old = subst (λ n. AreInRange n ss) (omega (arith, starts, ap length old_is)) (in_held bytes ss some range rising)

  pub rise_start : RiseFrom start ss
  rise_start = subst (λ n. RiseFrom n ss) (sym starts) (rise_first bytes ss some range rising)

  module _ (new : List ℕ) (made : new ≡ with_splices start old ss) where
    new_is : new ≡ with_splices (first_begin ss) (held_between bytes ss) ss
    new_is = made ∙ ap (λ m. with_splices m old ss) starts ∙ ap (λ l. with_splices (first_begin ss) l ss) old_is

    pub text_is : spliced bytes start end new ≡ edited bytes ss
    text_is =
        ap (λ m. spliced bytes m end new) starts ∙ ap (λ m. spliced bytes (first_begin ss) m new) ends
        ∙ ap (spliced bytes (first_begin ss) (last_end ss)) new_is ∙ edited_one bytes ss some range rising

    pub new_end_is : start + length new ≡ new_end ss
    new_end_is = omega (arith, starts, ap length new_is, made_end bytes ss some range rising)

-- ---- in slices

abbrev pub no_splice : Splice
no_splice = record { a = 0; b = 0; bytes = record { ref_ptr = (0, 0); now = [] } }

pub some_is : (xs : Row Splice) → 0 < length xs → 0 < length (splices_of xs)
some_is [] none = absurd (omega (arith, none))
some_is (x ∷ xs) more = omega arith

-- those up to one, and it
pub up_to : (xs : Row Splice) (n : ℕ) (d : Splice) → n < length xs
    → splices_of (take (n + 1) xs) ≡ splices_of (take n xs) ++ splices_of (get_or xs n d ∷ [])
up_to xs n d low = ap splices_of (take_more xs n d low) ∙ map-append _ (take n xs) (get_or xs n d ∷ [])

-- those from one on: it, and those after it
pub from_on : (xs : Row Splice) (n : ℕ) (d : Splice) → n < length xs
    → splices_of (drop n xs) ≡ splices_of (get_or xs n d ∷ drop (n + 1) xs)
from_on xs n d low = rw (add-one, drop-cons xs n d low) refl
