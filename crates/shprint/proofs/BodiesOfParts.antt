-- What shapes and their bodies say where a line is read: filled with the bodies that were read,
-- its entry has the shape; the words of a `for` have none.
use Rattle.std.proofs.Common.{◌≡◌, ℕ, List, List as Row, [], ◌∷◌, map, refl, sym, ap, ◌∙◌}
use Rattle.shast.specs.declared.tree.Span.{Span}
use Rattle.shast.specs.Tree.{AnEntry, AnEntryOf, EntriesOf, entries_of, no_entry, more_entries, ItemsOf}
use Rattle.shast.specs.Shape.{Shape, Text, text_at, shape_of, shape_of_entry}
use Rattle.shast.specs.Bodies.{fill_entry, fill_row, filled_row}
use Rattle.shast.specs.Opened.{open_item, open_item_content, open_items, opened, open_entry, item_content_bodies, item_bodies, items_bodies, entries_bodies, entry_bodies, bodies_of}
use Rattle.shast.proofs.FilledBack.{filled_back}
use Rattle.shast.proofs.FilledShape.{shape_filled}
use Rattle.shast.proofs.Going.{row_filled}
use Rattle.shgrammar.specs.declared.edition.Edition.{Edition}
use Rattle.shgrammar.specs.declared.token.Position.{Position}
use Rattle.shprint.proofs.Good.{GoodItems, none_more, one_more, of_argument, of_for}

-- ---- the end of a level

module _ (B : List ℕ) where
  -- a row of entries whose shape is open, filled with the texts of its bodies
  pub row_back : (bs : Row Span) (es : Row AnEntry) (x : Shape EntriesOf) → shape_of B (entries_of es) ≡ opened [] x →
      map (text_at B) bs ≡ bodies_of x → shape_of B (entries_of (filled_row bs es)) ≡ x
  row_back bs es x is texts = ap (shape_of B) (row_filled bs es) ∙ shape_filled B bs (entries_of es)
      ∙ rw (is, texts) (filled_back [] x)

  -- a row of one entry stays one with its bodies
  one_filled : (bs : Row Span) (v : AnEntry) → (w : AnEntry) × (filled_row bs (v ∷ []) ≡ w ∷ [])
  unfolding filled_row fill_row
  one_filled [] v = (v, refl)
  one_filled (b ∷ bs) v = ((fill_entry v (b ∷ bs)).0, refl)

  -- the same, of one entry
  pub entry_filled : (v : AnEntry) (bs : Row Span) (x : Shape AnEntryOf) → shape_of_entry B v ≡ open_entry [] x →
      map (text_at B) bs ≡ entry_bodies x []
      → (w : AnEntry) × (filled_row bs (v ∷ []) ≡ w ∷ []) × (shape_of_entry B w ≡ x)
  unfolding opened entries_bodies
  entry_filled v bs x is texts =
      let one = one_filled bs v in
      let all = row_back bs (v ∷ []) (more_entries x no_entry)
      (ap (λ (e : Shape AnEntryOf). more_entries e no_entry) is) texts in
      let same : more_entries (shape_of_entry B one.0) no_entry ≡ more_entries x no_entry =
      ap (λ es. shape_of B (entries_of es)) (sym one.1) ∙ all in
      (one.0, one.1, cc)

-- ---- the words of a `for`

-- the words of a `for` hold no document: they are open as they are, and add no body
pub for_words_open : {edition : Edition} {room : ℕ} {position last : Position} {is : Shape ItemsOf} →
    GoodItems edition room of_for position is last → open_items [] is ≡ is
unfolding open_items open_item open_item_content
for_words_open none_more = refl
for_words_open (one_more (of_argument good) others) = rw (for_words_open others) refl

pub for_words_bodies : {edition : Edition} {room : ℕ} {position last : Position} {is : Shape ItemsOf} →
    GoodItems edition room of_for position is last → (ts : Row Text) → items_bodies is ts ≡ ts
unfolding items_bodies item_bodies item_content_bodies
for_words_bodies none_more ts = refl
for_words_bodies (one_more (of_argument good) others) ts = for_words_bodies others ts
