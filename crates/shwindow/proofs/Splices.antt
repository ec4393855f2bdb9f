-- The bytes of an edited text.
use Rattle.std.proofs.Common.{◌≡◌, ℕ, ◌+◌, ◌<◌, ◌≤◌, List, [], ◌∷◌, List as Row, ◌++◌, length, take, drop, refl, sym, ap, ◌∙◌, arith, subst}
use Rattle.std.proofs.lemmas.List.{drop-drop, length-take-le, take-append-le, take-take, drop_at}
use Rattle.shtext.specs.Edit.{ASplice, AreInRange, Rise, edited, first_begin, last_end, new_end, spliced}
use Rattle.shtext.proofs.Splices.{edited_one, ends_rise, ends_within, held_between, made_end}
use Rattle.shtext.specs.Buffer.{with_splices}
use Rattle.shwindow.specs.Window.{Apart}

module _ (B : List ℕ) (a b : ℕ) (R : List ℕ) (order : a ≤ b) (within : b ≤ length B) where
  -- those before a
  splice_front : take a (spliced B a b R) ≡ take a B
  splice_front =
      let long : length (take a B) ≡ a = length-take-le a B (omega arith) in
      take-append-le a (take a B) (R ++ drop b B) (omega arith) ∙ take-take a a B (omega arith)

  -- those after the edit
  splice_back : (d : ℕ) → drop (a + length R + d) (spliced B a b R) ≡ drop (b + d) B
  splice_back d =
      sym (drop-drop d (a + length R) (spliced B a b R))
      ∙ ap (drop d) (sym (drop-drop (length R) a (spliced B a b R))
      ∙ ap (drop (length R)) (drop_at (take a B) (R ++ drop b B) a (length-take-le a B (omega arith)))
      ∙ drop_at R (drop b B) (length R) refl)
      ∙ drop-drop d b B

  -- one replacement leaves what is before it and after it
  pub splice_apart : Apart B (spliced B a b R) a (a + length R) b
  splice_apart = record { low = omega arith; order = order; front = splice_front; back = splice_back }

-- and so do splices that rise: they make what one makes
pub splices_apart : (B : List ℕ) (ss : Row ASplice) → AreInRange (length B) ss → Rise ss
    → Apart B (edited B ss) (first_begin ss) (new_end ss) (last_end ss)
splices_apart B [] range rising = record { low = omega arith; order = omega arith; front = refl; back = λ d. refl }
splices_apart B (s ∷ ts) range rising =
    let ss : Row ASplice = s ∷ ts in
    let some : 0 < length ss = omega arith in
    let made : List ℕ = with_splices s.a (held_between B ss) ss in
    let one = splice_apart B s.a (last_end ss) made (ends_rise B ss some range rising)
    (ends_within B ss some range rising) in
    subst (λ e. Apart B (edited B ss) s.a e (last_end ss)) (made_end B ss some range rising)
    (subst (λ U. Apart B U s.a (s.a + length made) (last_end ss)) (edited_one B ss some range rising) one)
