-- The lines of a script printed one after the other: on the page stands what is
-- printed for the entries that a walk over them gathers.
use Rattle.std.proofs.Common.{◌≡◌, ℕ, suc, ◌&&◌, Bool, true, false, nat_lt, List, [], ◌∷◌, ◌++◌, None, length, drop, refl, sym, ap, ◌∙◌, arith, append_assoc}
use Rattle.std.proofs.lemmas.Bool.Decides.{nat_tests}
use Rattle.shgrammar.specs.declared.edition.Edition.{Edition}
use Rattle.shast.specs.Everywhere.{SpansWithin}
use Rattle.shast.specs.Moved.{appended, moved}
use Rattle.shast.specs.Shape.{Shape, Text, shape_of, shape_of_entry}
use Rattle.shast.specs.Tree.{AnEntryOf, Entries, EntriesOf, entry, more_entries, no_entry}
use Rattle.shgrammar.specs.Joined.{blanked, has_entry}
use Rattle.shgrammar.specs.Lines.{AKind, blank_line, end_line, entries_line, faulty_line}
use Rattle.shheld.specs.TopLines.{IsTopLine, as_read}
use Rattle.shheld.specs.Walk.{Walk, entries_with, more_entries_at, no_line, with_line}
use Rattle.shheld.proofs.Within.{line_all_within}
use Rattle.shprint.specs.declared.layout.Layout.{Layout}
use Rattle.shprint.specs.declared.page.Page.{Page}
use Rattle.shprint.specs.Marks.{Marks, held_after, laid, laid_after, line_end, text}
use Rattle.shprint.specs.Printed.{print_background, print_blank, print_content, print_entries, print_entry, print_own_comment, printed}
use Rattle.shprint.specs.Written.{Prints, Sheet, sheet, sheet_of, written}
use Rattle.shprint.proofs.Writing.{held_append, laid_append, written_append, written_first, written_line_alone, written_none}
use Rattle.shwindow.specs.declared.line.HeldLine.{HeldLine}
use Rattle.shlive.specs.HeldLines.{entries_in}
use Rattle.shlive.specs.Printing.{IsOnPage}
use Rattle.shlive.proofs.Placed.{BeginsPlain, line_plain, plain_moved, shape_placed}

-- ---- what is printed for the entries of one more line

module _ (y : Layout) (B : List ℕ) where
  -- what is printed for entries of these bytes, without a margin
  abbrev marks : Entries → Marks
  marks es = print_entries y [] (shape_of B es)

  -- for one list after another it is that for the one and then that for the other
  marks_appended : (es xs : Entries) → marks (appended es xs) ≡ marks es ++ marks xs
  marks_appended no_entry xs = refl
  marks_appended (more_entries e es) xs =
      ap (λ ms. print_entry y [] (shape_of_entry B e) ++ ms) (marks_appended es xs)
      ∙ sym (append_assoc (print_entry y [] (shape_of_entry B e)) (marks es) (marks xs))

  -- for a list before which an empty line may stand, it is that line and then that for the list
  marks_blanked : (blank : Bool) (xs : Entries) → BeginsPlain xs →
      marks (blanked blank xs) ≡ print_blank blank ++ marks xs
  marks_blanked blank no_entry is = absurd (no_first is.some)
    where
      no_first : false ≡ true → ⊥
      no_first e = cc
  marks_blanked blank (more_entries (entry what background b comment) es) is =
      append_assoc (print_blank blank) (print_entry y [] (shape_of_entry B (entry what background false comment)))
      (marks es)
      ∙ ap (λ xs. print_blank blank ++ marks xs) is.plain

  -- for the entries so far with those of one more line, it is all of this together
  marks_more : (before : Entries) (gap : Bool) (base limit : ℕ) (xs : Entries) → BeginsPlain xs → SpansWithin limit xs
      → marks (more_entries_at before gap base xs) ≡ marks before
      ++ (print_blank (gap && has_entry before) ++ print_entries y [] (shape_of (drop base B) xs))
  marks_more before gap base limit xs plain within =
      let blank = gap && has_entry before in
      marks_appended before (blanked blank (moved base xs))
      ∙ ap (λ ms. marks before ++ ms) (marks_blanked blank (moved base xs) (plain_moved base xs plain)
      ∙ ap (λ shape. print_blank blank ++ print_entries y [] shape) (shape_placed base B limit xs within))

-- ---- what stands on a page of entries

-- each entry ends its line
entry_ends : (y : Layout) (e : Shape AnEntryOf) → (ms : Marks) × (print_entry y [] e ≡ ms ++ line_end ∷ [])
entry_ends y (entry what background blank comment) =
    let here = text [] ∷ print_content y [] what ++ print_background background ++ print_own_comment comment in
    (print_blank blank ++ here, sym (append_assoc (print_blank blank) here (line_end ∷ [])))

-- so nothing waits after entries
held_none : (y : Layout) (es : Shape EntriesOf) → held_after [] (print_entries y [] es) ≡ []
unfolding held_after
held_none y no_entry = refl
held_none y (more_entries e es) =
    let ends = entry_ends y e in
    held_append [] (print_entry y [] e) (print_entries y [] es)
    ∙ ap (λ h. held_after h (print_entries y [] es))
    (ap (held_after []) ends.1 ∙ held_append [] ends.0 (line_end ∷ []))
    ∙ held_none y es

-- a text with a byte is not empty, and one with a newline in it has a byte
some_length : (n : ℕ) → nat_lt 0 (suc n) ≡ true
some_length n = grind (arith, nat_tests)

longer : (a b c : Text) → nat_lt 0 (length ((a ++ (10 ∷ b)) ++ c)) ≡ true
longer [] b c = some_length (length (b ++ c))
longer (x ∷ a) b c = some_length (length ((a ++ (10 ∷ b)) ++ c))

-- and there is some text exactly where there is an entry
some_laid : (y : Layout) (B : List ℕ) (es : Entries) →
    nat_lt 0 (length (laid (print_entries y [] (shape_of B es)))) ≡ has_entry es
unfolding laid_after
some_laid y B no_entry = refl
some_laid y B (more_entries e es) =
    let one = print_entry y [] (shape_of_entry B e) in
    let rest = print_entries y [] (shape_of B es) in
    let ends = entry_ends y (shape_of_entry B e) in
    let front = ends.0 in
    let line : laid one ≡ laid front ++ (10 ∷ (held_after [] front ++ [])) = ap laid ends.1
    ∙ laid_append [] front (line_end ∷ []) in
    let all : laid (one ++ rest) ≡ (laid front ++ (10 ∷ (held_after [] front ++ [])))
    ++ laid_after (held_after [] one) rest =
    laid_append [] one rest ∙ ap (λ t. t ++ laid_after (held_after [] one) rest) line in
    ap (λ t. nat_lt 0 (length t)) all
    ∙ longer (laid front) (held_after [] front ++ []) (laid_after (held_after [] one) rest)

-- ---- an empty line, or none

-- an empty line is a newline where nothing waits, and without one the page stays
pub one_blank : (s : Sheet) (blank : Bool) → blank ≡ true → s.held ≡ [] →
    sheet_of (s.so_far ++ 10 ∷ []) s.held ≡ written s (print_blank blank)
one_blank s blank some none = written_line_alone s none ∙ ap (λ b. written s (print_blank b)) (sym some)

pub no_blank : (s : Sheet) (blank : Bool) → blank ≡ false → s ≡ written s (print_blank blank)
no_blank s blank none = sym (written_none s) ∙ ap (λ b. written s (print_blank b)) (sym none)

-- ---- one more line

-- a line that has no entries prints nothing
none_with : (so : Walk) (k : AKind) → entries_in k ≡ None → entries_with so k ≡ so.entries
none_with so (entries_line xs) none = absurd cc
none_with so blank_line none = refl
none_with so end_line none = refl
none_with so (faulty_line f) none = refl

module _ (y : Layout) (B : List ℕ) (so : Walk) (before : Page) (is : IsOnPage y B so before) where
  -- the page holds the text of the entries so far, and what waits after them
  first_laid : sheet before ≡ sheet_of (laid (marks y B so.entries)) (held_after [] (marks y B so.entries))
  first_laid = is.is ∙ written_first (marks y B so.entries)

  -- nothing does
  pub nothing_waits : before.held.items ≡ []
  nothing_waits = ap (λ (s : Sheet). s.held) first_laid ∙ held_none y (shape_of B so.entries)

  -- it holds a byte exactly where there is an entry
  text_some : nat_lt 0 (length before.text.items) ≡ has_entry so.entries
  text_some = ap (λ (s : Sheet). nat_lt 0 (length s.so_far)) first_laid ∙ some_laid y B so.entries

  -- a line without entries leaves the page as it is, which is the page with that line
  pub none_printed : (l : HeldLine AKind) → entries_in l.kind ≡ None → IsOnPage y B (with_line so l) before
  none_printed l none = record {
    margin = is.margin;
    is = is.is ∙ ap (λ es. written (sheet_of [] []) (marks y B es)) (sym (none_with so l.kind none));
  }

  -- a line with entries is on the page after an empty line, where one is due, and its entries
  pub line_printed : (edition : Edition) (l : HeldLine AKind) (xs : Entries) → l.kind ≡ entries_line xs →
      IsTopLine edition (drop so.at B) l
      → (mid after : Page) → Prints before mid (print_blank (so.gap && nat_lt 0 (length before.text.items)))
      → Prints mid after (print_entries y mid.margin.items (shape_of (drop so.at B) xs)) →
      IsOnPage y B (with_line so l) after
  line_printed edition l xs kind_is line mid after gap entries =
      let margin : mid.margin.items ≡ [] = gap.1 ∙ is.margin in
      let blank = print_blank (so.gap && has_entry so.entries) in
      let here = print_entries y [] (shape_of (drop so.at B) xs) in
      let empty = sheet_of [] [] in
      let up_to : sheet mid ≡ written empty (marks y B so.entries ++ blank) =
      gap.0 ∙ ap (λ b. written (sheet before) (print_blank (so.gap && b))) text_some ∙ ap (λ s. written s blank) is.is
      ∙ written_append empty (marks y B so.entries) blank in
      let all : sheet after ≡ written empty (marks y B so.entries ++ (blank ++ here)) =
      entries.0 ∙ ap (λ m. written (sheet mid) (print_entries y m (shape_of (drop so.at B) xs))) margin
      ∙ ap (λ s. written s here) up_to
      ∙ written_append empty (marks y B so.entries ++ blank) here
      ∙ ap (written empty) (append_assoc (marks y B so.entries) blank here) in
      let more = marks_more y B so.entries so.gap so.at l.len xs
      (line_plain edition (drop so.at B) (as_read l) line xs kind_is)
      (line_all_within edition (drop so.at B) l xs line kind_is) in
      record {
        margin = entries.1 ∙ margin;
        is = all ∙ ap (written empty) (sym more)
            ∙ ap (λ k. written empty (marks y B (entries_with so k))) (sym kind_is);
      }

-- ---- the first line and the last

-- before the first line nothing is on the page
pub none_yet : (y : Layout) (B : List ℕ) (page : Page) → page.margin.items ≡ [] → sheet page ≡ sheet_of [] [] →
    IsOnPage y B no_line page
none_yet y B page margin is = record { margin = margin; is = is ∙ sym (written_none (sheet_of [] [])) }

-- after the last line the page has the printed text of all entries
pub all_printed : (y : Layout) (B : List ℕ) (so : Walk) (page : Page) → IsOnPage y B so page →
    page.text.items ≡ printed y (shape_of B so.entries)
all_printed y B so page is = ap (λ (s : Sheet). s.so_far) (is.is ∙ written_first (marks y B so.entries))
