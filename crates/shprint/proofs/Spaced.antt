-- Words that stand in the source as they are printed.
use Rattle.std.proofs.Common.{◌≡◌, ◌∙◌, ℕ, ◌+◌, ◌-◌, ◌≤◌, ◌<◌, false, Some, slice_get, List, [], ◌∷◌, ◌++◌, drop, refl, sym, ap, arith, append_assoc}
use Rattle.std.proofs.lemmas.List.{drop-drop}
use Rattle.std.proofs.Math.Seq.{take-add}
use Rattle.std.proofs.Common.{take}
use Rattle.shgrammar.specs.Characters.{space}
use Rattle.shast.specs.declared.tree.Item.{Item}
use Rattle.shast.specs.declared.tree.Span.{Span}
use Rattle.shast.specs.Shape.{Text, Shape, shape_of_item, text_at}
use Rattle.shast.specs.Tree.{AnItemOf}
use Rattle.shast.specs.View.{view_item}
use Rattle.shprint.specs.declared.layout.Layout.{Layout}
use Rattle.shprint.specs.Marks.{Marks, laid_after, held_after, one, text}
use Rattle.shprint.specs.Printed.{is_broken_item, print_item}
use Rattle.shprint.specs.Written.{Sheet, item_after, marks_of_items, stretch, written}
use Rattle.shprint.proofs.Copying.{first_taken}
use Rattle.shprint.proofs.Writing.{written_append, written_cons}

module _ (B : Text) where
  -- a stretch of no bytes
  none_more : (a : ℕ) → stretch B a a ≡ []
  none_more a =
      let none : a - a ≡ 0 = omega arith in
      rw none refl

  -- two stretches, one after the other
  pub stretches : (a b c : ℕ) → a ≤ b → b ≤ c → stretch B a c ≡ stretch B a b ++ stretch B b c
  stretches a b c ab bc =
      let parts : c - a ≡ (b - a) + (c - b) = omega (arith, ab, bc) in
      let on : a + (b - a) ≡ b = omega (arith, ab) in
      ap (λ n. take n (drop a B)) parts ∙ take-add (b - a) (c - b) (drop a B) ∙ rw (drop-drop (b - a) a B, on) refl

  module _ (y : Layout) (m : Text) where
    -- a word one blank after another
    pub word_is : (i : Shape AnItemOf) (at : ℕ) (s : Span) → is_broken_item i ≡ false →
        print_item y i ≡ text (text_at B s) ∷ [] → slice_get B at ≡ Some space → s.start ≡ at + 1
        → s.start ≤ s.«end» → (t : Sheet) → written t (item_after y m i) ≡ written t (one (stretch B at s.«end»))
    unfolding written laid_after held_after
    word_is i at s unbroken printed blank next some t =
        let before : at < s.«end» = omega (arith, next, some) in
        let told : stretch B at s.«end» ≡ space ∷ text_at B s = first_taken B at s.«end» space blank before
        ∙ ap (λ r. space ∷ r) (rw (← next) refl) in
        rw (unbroken, printed, told) refl

    -- the marks of items after others
    abbrev items_marks : List Item → Marks
    items_marks is = marks_of_items B y m is

    -- at first no word was passed
    pub none_passed : (a : ℕ) (is : List Item) (t : Sheet) →
        written t (items_marks is) ≡ written t (text (stretch B a a) ∷ items_marks is)
    unfolding written laid_after held_after
    none_passed a is t = rw (none_more a) refl

    -- two texts, one after the other, are one
    texts_join : (t : Sheet) (x z : Text) (ms : Marks) →
        written t (text x ∷ text z ∷ ms) ≡ written t (text (x ++ z) ∷ ms)
    unfolding written laid_after held_after
    texts_join t x z ms = rw append_assoc refl

    -- one word more
    pub one_passed : (a b c : ℕ) (before : Marks) (i : Item) (is : List Item) → a ≤ b → b ≤ c →
        ((t : Sheet) → written t before ≡ written t (text (stretch B a b) ∷ items_marks (i ∷ is)))
        → ((t : Sheet) → written t (item_after y m (shape_of_item B (view_item i))) ≡ written t (one (stretch B b c)))
        → (t : Sheet) → written t before ≡ written t (text (stretch B a c) ∷ items_marks is)
    one_passed a b c before i is ab bc so_far word t =
        let one_more = item_after y m (shape_of_item B (view_item i)) in
        let from = written t (one (stretch B a b)) in
        so_far t
        ∙ sym (written_cons t (one_more ++ items_marks is) (text (stretch B a b)))
        ∙ sym (written_append from one_more (items_marks is))
        ∙ ap (λ s. written s (items_marks is)) (word from)
        ∙ written_append from (one (stretch B b c)) (items_marks is)
        ∙ written_cons t (text (stretch B b c) ∷ items_marks is) (text (stretch B a b))
        ∙ texts_join t (stretch B a b) (stretch B b c) (items_marks is)
        ∙ ap (λ r. written t (text r ∷ items_marks is)) (sym (stretches a b c ab bc))

    -- words, and the items after them
    pub simple_printed : (t : Sheet) (s : Span) (past : ℕ) (i : Item) (is others : List Item) →
        print_item y (shape_of_item B (view_item i)) ≡ text (text_at B s) ∷ []
        → s.start ≤ s.«end» → s.«end» ≤ past →
        ((t : Sheet) → written t (items_marks is) ≡ written t (text (stretch B s.«end» past) ∷ items_marks others))
        → written (written t (text (stretch B s.start past) ∷ [])) (items_marks others)
        ≡ written t (print_item y (shape_of_item B (view_item i)) ++ items_marks is)
    simple_printed t s past i is others printed some on passed =
        let first = text_at B s in
        let from = written t (one first) in
        written_cons t (items_marks others) (text (stretch B s.start past))
        ∙ ap (λ r. written t (text r ∷ items_marks others)) (stretches s.start s.«end» past some on)
        ∙ sym (texts_join t first (stretch B s.«end» past) (items_marks others))
        ∙ sym (written_cons t (text (stretch B s.«end» past) ∷ items_marks others) (text first))
        ∙ sym (passed from)
        ∙ written_append t (one first) (items_marks is)
        ∙ ap (λ ms. written t (ms ++ items_marks is)) (sym printed)
