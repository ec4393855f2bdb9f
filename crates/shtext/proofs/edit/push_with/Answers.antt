use Rattle.std.proofs.Common.{◌≡◌, ◌+◌, ◌-◌, ◌++◌, List, List as Row, ℕ, ◌∷◌, length, drop, take, get_or, ap, arith, append_assoc, subst, sym, ◌∙◌}
use Rattle.std.proofs.lemmas.List.{length-drop}
use Rattle.shtext.specs.Buffer.{with_splices}
use Rattle.shtext.specs.Edit.{AreInRange, ASplice, RiseFrom, splices_of}
use Rattle.shtext.specs.declared.splice.Splice.{Splice}
use Rattle.shtext.proofs.Splices.{from_on, no_splice}
use Rattle.shtext.proofs.edit.push_with.Goals as goal

-- one splice is added, with the bytes before it
module _ (from : ℕ) (bytes rest : List ℕ) (s : Splice) (xs : Row Splice) (all : Row ASplice)
    (on : all ≡ splices_of (s ∷ xs)) (is : rest ≡ drop (s.b - from) bytes) where
  text_on : (into new old made : List ℕ) → new ≡ into ++ (take (s.a - from) bytes ++ s.bytes.now) →
      into ++ with_splices from bytes all ≡ old ++ made
      → new ++ with_splices s.b rest (splices_of xs) ≡ old ++ made
  text_on into new old made more inv =
      let so : List ℕ = with_splices s.b rest (splices_of xs) in
      ap (λ l. l ++ so) more ∙ append_assoc into (take (s.a - from) bytes ++ s.bytes.now) so
      ∙ ap (λ l. into ++ l) (append_assoc (take (s.a - from) bytes) s.bytes.now so)
      ∙ ap (λ l. into ++ (take (s.a - from) bytes ++ (s.bytes.now ++ with_splices s.b l (splices_of xs)))) is
      ∙ ap (λ l. into ++ with_splices from bytes l) (sym on) ∙ inv

  range_on : AreInRange (from + length bytes) all → RiseFrom from all → AreInRange (s.b + length rest) (splices_of xs)
  range_on range rising =
      let here : AreInRange (from + length bytes) (splices_of (s ∷ xs)) =
      subst (AreInRange (from + length bytes)) on range in
      let low : RiseFrom from (splices_of (s ∷ xs)) = subst (RiseFrom from) on rising in
      let count : length rest ≡ length bytes - (s.b - from) = ap length is ∙ length-drop (s.b - from) bytes in
      let same : from + length bytes ≡ s.b + length rest = omega (arith, count, here.0, here.1, low.0) in
      subst (λ n. AreInRange n (splices_of xs)) same here.2

  rise_on : RiseFrom from all → RiseFrom s.b (splices_of xs)
  rise_on rising = (subst (RiseFrom from) on rising).1

pub splices-preserved : goal.splices-preserved
splices-preserved c =
    let xs : Row Splice = c.args.splices.now in
    let n : ℕ = c.splices.splice-index in
    let rest : List ℕ = c.splices.rest.now in
    let inv = c.splices.invariant in
    let s : Splice = get_or xs n no_splice in
    let more : Row Splice = drop (n + 1) xs in
    let on = from_on xs n no_splice c.splices-test.true in
    record {
      text = text_on c.splices.at rest c.in_ok-rest.rest.now s more
          (splices_of (drop n xs)) on c.in_ok-rest.ensures.rest
          c.splices.into.items c.push_one.new.into.items c.args.into.now.items
          (with_splices c.args.from c.args.bytes.now (splices_of xs)) c.in_ok-rest.ensures.into inv.text;
      in_range = range_on c.splices.at rest c.in_ok-rest.rest.now s more
          (splices_of (drop n xs)) on c.in_ok-rest.ensures.rest inv.in_range inv.rising;
      rising = rise_on c.splices.at rest c.in_ok-rest.rest.now s more
          (splices_of (drop n xs)) on c.in_ok-rest.ensures.rest inv.rising;
    }
