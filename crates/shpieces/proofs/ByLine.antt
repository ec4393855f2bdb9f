-- A script printed a line at a time, and in pieces.
use Rattle.std.proofs.Common.{◌≡◌, ◌∙◌, ℕ, zero-add, IfErr, IfOk, Result, ◌+◌, ◌-◌, ◌≤◌, ◌<◌, Bool, true, false, not, List, [], ◌∷◌, ◌++◌, Vec, Global, length, map, take, drop, Ok, Err, None, Some, refl, ap, subst, sym, append_assoc, append-nil, arith, length-append, length-drop, length-take}
use Rattle.std.proofs.lemmas.List.{take-append-le}
use Rattle.std.proofs.Math.Seq.{drop-append_seam, drop-append-add, take-add, take-take}
use Rattle.shgrammar.specs.declared.edition.Edition.{Edition}
use Rattle.shgrammar.specs.declared.fault.Fault.{Fault}
use Rattle.shpass.specs.declared.script_lines.LinesBefore.{LinesBefore}
use Rattle.shline.specs.declared.stop.Stop.{Stop}
use Rattle.shline.specs.declared.stop.Stop.TheVariants.{Memory, Wrong}
use Rattle.shline.specs.declared.parsed_line.ParsedLine.{ParsedLine}
use Rattle.shpass.specs.declared.script_lines.ScriptLines.{ScriptLines}
use Rattle.shgrammar.specs.Commands.{is_empty}
use Rattle.shpass.specs.LineByLine.{Before, IsReadBy, IsWholeLine, LineWithin, OuterReads, Rest, Stands, before_of, no_lines, place_of}
use Rattle.shgrammar.specs.declared.keep.Keep.TheVariants.{Whole}
use Rattle.shast.specs.Moved.{blanked_row, moved_entry, outer_entry, placed_body}
use Rattle.shgrammar.specs.Moved.{moved_fault}
use Rattle.shgrammar.specs.Characters.{newline_char}
use Rattle.shgrammar.specs.Standing.{raw_stands}
use Rattle.shgrammar.specs.Scripts.{AScript, FirstFault, Outcome, LinesSoFar, faulty, is_blank_line, last_line, line_ended, line_told, nothing_yet, with_line}
use Rattle.shgrammar.specs.Sights.{State, standing}
use Rattle.shpass.proofs.LineByLine.{line_only, line_read, told_in}
use Rattle.shgrammar.proofs.LineInPiece.{There, outer_alone, fault_there, stands_there, told_same}
use Rattle.shgrammar.proofs.Passing.{line_there}
use Rattle.shgrammar.proofs.SameLine.{newline_at, same_front}
use Rattle.shast.specs.Shape.{Text, shape_of, shape_of_entry}
use Rattle.shast.specs.declared.tree.Entry.{Entry}
use Rattle.shast.specs.Tree.{AnEntry, entries_of}
use Rattle.shast.specs.Nodes.{placed_span}
use Rattle.shast.specs.View.{view_entry}
use Rattle.shprint.specs.declared.layout.Layout.{Layout}
use Rattle.shprint.specs.Printed.{print_entries, print_entry, printed}
use Rattle.shpieces.specs.Printing.{ArePrinted, IsPrinted, error_of, moved_error, IsNoText}
use Rattle.shprint.specs.ReadBack.{IsTextOf, ReadsBack}
use Rattle.shpieces.specs.declared.by_line.PrintError.{PrintError}
use Rattle.shpieces.specs.declared.by_line.PrintError.TheVariants as PrintErrors
use Rattle.shpieces.specs.declared.by_line.Printing.{Printing}
use Rattle.shprint.specs.Written.{Sheet, sheet_of, written}
use Rattle.shpieces.proofs.SubstsUnseen.{line_same}
use Rattle.shprint.proofs.ReadBack.{reads_back}
use Rattle.shprint.proofs.Writing.{written_append, written_first, written_none}

module _ (y : Layout) (bytes : List ℕ) where
  -- the entries of some lines and of one more
  marks_append : (margin : Text) (before line : List AnEntry) →
      print_entries y margin (shape_of bytes (entries_of (before ++ line)))
      ≡ print_entries y margin (shape_of bytes (entries_of before))
      ++ print_entries y margin (shape_of bytes (entries_of line))
  marks_append margin [] line = refl
  marks_append margin (e ∷ before) line =
      ap (λ r. print_entry y margin (shape_of_entry bytes e) ++ r) (marks_append margin before line)
      ∙ sym (append_assoc (print_entry y margin (shape_of_entry bytes e))
      (print_entries y margin (shape_of bytes (entries_of before)))
      (print_entries y margin (shape_of bytes (entries_of line))))

  -- the sheet of these entries: an empty one, and what is printed for them
  abbrev pub sheet_with : List AnEntry → Sheet
  sheet_with es = written (sheet_of [] []) (print_entries y [] (shape_of bytes (entries_of es)))

  -- a line after the text so far
  line_after : (before line : List AnEntry) (s : Sheet) → s ≡ sheet_with before
      → written s (print_entries y [] (shape_of bytes (entries_of line))) ≡ sheet_with (before ++ line)
  line_after before line s is =
      ap (λ t. written t (print_entries y [] (shape_of bytes (entries_of line)))) is
      ∙ written_append (sheet_of [] []) (print_entries y [] (shape_of bytes (entries_of before)))
      (print_entries y [] (shape_of bytes (entries_of line)))
      ∙ ap (written (sheet_of [] [])) (sym (marks_append [] before line))

-- ---- a line of a piece, in the script

empty_as : (blank : Bool) (f g : AnEntry → AnEntry) (es : List AnEntry) →
    is_empty (blanked_row blank (map f es)) ≡ is_empty (blanked_row blank (map g es))
empty_as blank f g [] = refl
empty_as blank f g (e ∷ es) = refl

begun_as : (before es fs : List AnEntry) → is_empty es ≡ is_empty fs → is_empty (before ++ es) ≡ is_empty (before ++ fs)
begun_as [] es fs is = is
begun_as (e ∷ before) es fs is = refl

-- what a line leaves, of whose entries it is asked only whether there are some
left_as : (left : LinesBefore) (so : LinesSoFar) (es fs : List AnEntry) → is_empty es ≡ is_empty fs →
    Before left (with_line so es) → Before left (with_line so fs)
left_as left so es fs is stands = (stands.0 ∙ is, stands.1 ∙ ap not (begun_as so.entries es fs is))

module _ (edition : Edition) (y : Layout) (H S : List ℕ) (q n : ℕ) (so : LinesSoFar) (newline : Bool)
    (es : List AnEntry)
    (t : State) (there : There edition H S q n (is_blank_line so) newline es t) where
  abbrev here : List AnEntry
  here = blanked_row (is_blank_line so) (map (moved_entry n) es)

  sheet_more : (text then : Sheet) → text ≡ sheet_with y S so.entries →
      then ≡ written text (print_entries y []
      (shape_of H (entries_of (blanked_row (is_blank_line so) (map (moved_entry q) es)))))
      → then ≡ sheet_with y S (so.entries ++ here)
  sheet_more text then text_is is =
      is ∙ ap (λ r. written text (print_entries y [] r)) (sym there.shape)
      ∙ line_after y S so.entries here text text_is

module _ (edition : Edition) (y : Layout) (H S : List ℕ) (q n : ℕ) (so : LinesSoFar) (es : List AnEntry)
    (t : State) where
  -- what is read after a line is read with it
  rest_more : There edition H S q n (is_blank_line so) true es t → (s : AScript) (p : ℕ) → p ≡ n + t.at →
      Rest edition S (with_line so (blanked_row (is_blank_line so) (map (moved_entry n) es))) p s →
      Rest edition S so n s
  rest_more there s p ends rest =
      let line = blanked_row (is_blank_line so) (map (moved_entry n) es) in
      let read = line_read edition S so n (is_blank_line so) (Ok ((line, true), there.state)) refl there.read in
      let place : p ≡ n + there.state.at = omega (arith, ends, there.at) in
      let on = subst (λ (k : ℕ). Rest edition S (with_line so line) k s) place rest in
      (read.0 ++ on.0, line_ended line there.state read.0 read.1 on.1)

  rest_last : There edition H S q n (is_blank_line so) false es t →
      Rest edition S so n (record {
        entries =
            entries_of (so.entries ++ blanked_row (is_blank_line so) (map (moved_entry n) es));
        fault = None;
      })
  rest_last there =
      let line = blanked_row (is_blank_line so) (map (moved_entry n) es) in
      let read = line_read edition S so n (is_blank_line so) (Ok ((line, false), there.state)) refl there.read in
      (read.0, last_line line there.state read.0 read.1)

-- what is printed of a line without the trees in its command substitutions is printed of it with them
outer_printed : (y : Layout) (H : List ℕ) (q : ℕ) (blank : Bool) (line es : List AnEntry) (text then : Sheet)
    → line ≡ blanked_row blank (map (outer_entry q) es)
    → then ≡ written text (print_entries y [] (shape_of H (entries_of line)))
    → then
    ≡ written text (print_entries y [] (shape_of H (entries_of (blanked_row blank (map (moved_entry q) es)))))
outer_printed y H q blank line es text then outer is =
    is ∙ ap (λ (r : List AnEntry). written text (print_entries y [] (shape_of H (entries_of r)))) outer
    ∙ ap (written text) (line_same y H (placed_span q) (placed_body q) [] blank es)

-- ---- lines at the front of what follows

-- the line at q of H is whole, and its first bytes are taken after P: whatever
-- follows them, it is read there
whole_there : (edition : Edition) (H P more : List ℕ) (q : ℕ) (blank : Bool) (es : List AnEntry) (t : State) →
    line_told edition H Whole false q 0 ≡ Ok ((es, true), t) → 0 < t.at →
    q + t.at ≤ length H
    → raw_stands (drop q H) (t.at - 1) newline_char ≡ true →
    There edition H (P ++ (take t.at (drop q H) ++ more)) q (length P) blank true es t
whole_there edition H P more q blank es t read some low stands =
    let D = drop q H in
    let L = t.at in
    let S = P ++ (take L D ++ more) in
    let size : L ≤ length (take L D) = omega (arith, length-take L D, length-drop q H, low) in
    let same : take L (drop (length P) S) ≡ take L D =
    ap (take L) (drop-append_seam P (take L D ++ more)) ∙ take-append-le L (take L D) more size
    ∙ take-take L L D (omega arith) in
    let up : L ≡ L - 1 + 1 = omega (arith, some) in
    stands_there edition H S q (length P) blank true es t read same
    (line_there edition D (drop (length P) S) (L - 1) es t up (newline_at D (L - 1) stands)
    (λ r lt. same_front L D (drop (length P) S) same r (omega (arith, lt, up))) read)

module _ {S : Type 0} (edition : Edition) (y : Layout) (H : List ℕ) (old new : ScriptLines S)
    (by : old.edition ≡ edition) (text then : Sheet) (line : Vec Entry Global) where
  one_more : (P : List ℕ) → ArePrinted edition y P old.before text →
      ((so : LinesSoFar) → Stands old so → IsWholeLine H so old line new) → new.at ≤ length H
      → then ≡ written text (print_entries y [] (shape_of H (entries_of (map view_entry line.items)))) → (L : ℕ) →
      new.at ≡ old.at + L → ArePrinted edition y (P ++ take L (drop old.at H)) new.before then
  one_more P b whole low is L ends_at =
      let q = old.at in
      let D = drop q H in
      let w = whole b.so b.left_so in
      let blank = is_blank_line b.so in
      let reads = subst (λ e. OuterReads e H b.so q (Ok ((map view_entry line.items, true), w.state))) by w.reads in
      let a = outer_alone edition H q blank true (map view_entry line.items) w.state reads in
      let es = a.0 in
      let t = a.1 in
      let size : t.at ≡ L = omega (arith, a.4, w.at, ends_at) in
      let some : 0 < t.at = omega (arith, a.4, w.some) in
      let high : q + t.at ≤ length H = omega (arith, size, ends_at, low) in
      let stands : raw_stands D (t.at - 1) newline_char ≡ true =
      subst (λ (k : ℕ). raw_stands D (k - 1) newline_char ≡ true) a.4 w.newline in
      let there = λ (more : List ℕ). whole_there edition H P more q blank es t a.2 some high stands in
      let here = blanked_row blank (map (moved_entry (length P)) es) in
      let alike : is_empty (map view_entry line.items) ≡ is_empty here = ap is_empty a.3
      ∙ empty_as blank (outer_entry q) (moved_entry (length P)) es in
      let then_is = outer_printed y H q blank (map view_entry line.items) es text then a.3 is in
      let done : ArePrinted edition y (P ++ take t.at D) new.before then = record {
        so = with_line b.so here;
        left_so = left_as new.before b.so (map view_entry line.items) here alike w.stands;
        from = λ more s rest.
            let same : P ++ take t.at D ++ more ≡ P ++ (take t.at D ++ more) = append_assoc P (take t.at D) more in
            let at : length (P ++ take t.at D) ≡ length P + t.at =
            omega (arith, length-append P (take t.at D), length-take t.at D, length-drop q H, high) in
            let on = subst (λ (X : List ℕ). Rest edition X (with_line b.so here) (length (P ++ take t.at D)) s) same
            rest in
            subst (λ (X : List ℕ). Outcome edition X s) (sym same)
            (b.from (take t.at D ++ more) s
            (rest_more edition y H (P ++ (take t.at D ++ more)) q (length P) b.so es t (there more) s
            (length (P ++ take t.at D)) at on));
        is = λ more.
            let same : P ++ take t.at D ++ more ≡ P ++ (take t.at D ++ more) = append_assoc P (take t.at D) more in
            sheet_more edition y H (P ++ (take t.at D ++ more)) q (length P) b.so true es t (there more) text
            then (b.is (take t.at D ++ more)) then_is
            ∙ sym (ap (λ (X : List ℕ). sheet_with y X (b.so.entries ++ here)) same);
      } in
      subst (λ (k : ℕ). ArePrinted edition y (P ++ take k D) new.before then) size done

  pub front_after : (front : List ℕ) → ArePrinted edition y (front ++ take old.at H) old.before text →
      ((so : LinesSoFar) → Stands old so → IsWholeLine H so old line new) → old.at < new.at → new.at ≤ length H
      → then ≡ written text (print_entries y [] (shape_of H (entries_of (map view_entry line.items)))) →
      ArePrinted edition y (front ++ take new.at H) new.before then
  front_after front b whole onward low is =
      let L = new.at - old.at in
      let ends : new.at ≡ old.at + L = omega (arith, onward) in
      let pieces : front ++ take new.at H ≡ front ++ take old.at H ++ take L (drop old.at H) =
      ap (λ (k : ℕ). front ++ take k H) ends ∙ ap (λ (xs : List ℕ). front ++ xs) (take-add old.at L H)
      ∙ sym (append_assoc front (take old.at H) (take L (drop old.at H))) in
      subst (λ (X : List ℕ). ArePrinted edition y X new.before then) (sym pieces)
      (one_more (front ++ take old.at H) b whole low is L ends)

-- nothing was read of what follows
pub start_printed : (edition : Edition) (y : Layout) (front H : List ℕ) (left now : LinesBefore) (p : ℕ) (s : Sheet) →
    p ≡ 0 → now ≡ left → ArePrinted edition y front left s → ArePrinted edition y (front ++ take p H) now s
start_printed edition y front H left now p s start same b =
    let none : front ++ take p H ≡ front = ap (λ (k : ℕ). front ++ take k H) start ∙ append-nil front in
    subst (λ (X : List ℕ). ArePrinted edition y X now s) (sym none)
    (subst (λ (l : LinesBefore). ArePrinted edition y front l s) (sym same) b)

-- nothing is printed
pub none_printed : (edition : Edition) (y : Layout) (left : LinesBefore) (s : Sheet) → left ≡ no_lines →
    s ≡ sheet_of [] [] → ArePrinted edition y [] left s
none_printed edition y left s none empty = record {
  so = nothing_yet;
  left_so = subst (λ (l : LinesBefore). Before l nothing_yet) (sym none) (refl, refl);
  from = λ more s rest. rest;
  is = λ more. empty ∙ sym (written_none (sheet_of [] []));
}

-- ---- what follows, up to the end

module _ {S : Type 0} (edition : Edition) (y : Layout) (H front : List ℕ) where
  -- between two lines: what they gave is printed, and what the lines to come give is the script with it
  pub record Between (lines : ScriptLines S) (printed_so : Sheet) : Type 0 where
    pub so : LinesSoFar
    pub stands : Stands lines so
    pub from : (s : AScript) → Rest edition (front ++ H) so (length front + place_of lines) s →
        Outcome edition (front ++ H) s
    pub is : printed_so ≡ sheet_with y (front ++ H) so.entries

  pub at_start : (lines : ScriptLines S) (left : LinesBefore) (s : Sheet) → place_of lines ≡ 0 → before_of lines ≡ left
      → ArePrinted edition y front left s → Between lines s
  at_start lines left s start same b =
      let place : length front + place_of lines ≡ length front = omega (arith, start) in
      record {
        so = b.so;
        stands = subst (λ (l : LinesBefore). Before l b.so) (sym same) b.left_so;
        from = λ z rest. b.from H z (subst (λ (p : ℕ). Rest edition (front ++ H) b.so p z) place rest);
        is = b.is H;
      }

  module _ (old new : ScriptLines S) (by : old.edition ≡ edition) (text then : Sheet) (b : Between old text) where
    -- then these entries are printed
    abbrev Prints : List AnEntry → Type 0
    Prints es = then ≡ written text (print_entries y [] (shape_of H (entries_of es)))

    -- a line of what follows that is printed, where it stands in the script
    record Placed (newline : Bool) (line : List AnEntry) (size : ℕ) : Type 0 where
      es : List AnEntry
      t : State
      there : There edition H (front ++ H) old.at (length front + old.at) (is_blank_line b.so) newline es t
      ends : size ≡ t.at
      alike : is_empty line ≡ is_empty (blanked_row (is_blank_line b.so) (map (moved_entry (length front + old.at)) es))
      prints : Prints (blanked_row (is_blank_line b.so) (map (moved_entry old.at) es))

    -- what is told by the edition of the lines, and of the bytes of another source that are these
    told_here : (other : List ℕ) (r : Result ParsedLine Stop) → other ≡ H →
        IsReadBy (OuterReads old.edition other b.so old.at) r → IsReadBy (OuterReads edition H b.so old.at) r
    told_here other r same told = told_in (λ e B. OuterReads e B b.so old.at) H other edition old.edition r same by told

    -- the line of it
    line_here : (other : List ℕ) (told : ParsedLine) (newline : Bool) → other ≡ H → told.newline ≡ newline →
        IsReadBy (OuterReads old.edition other b.so old.at) (Ok told)
        → OuterReads edition H b.so old.at (Ok ((map view_entry told.entries.items, newline), standing told.len))
    line_here other told newline same is read =
        subst (λ (n : Bool). OuterReads edition H b.so old.at
        (Ok ((map view_entry told.entries.items, n), standing told.len))) is (told_here other (Ok told) same read)

    placed : (newline : Bool) (line : List AnEntry) (t : State)
        → OuterReads edition H b.so old.at (Ok ((line, newline), t)) → Prints line → Placed newline line t.at
    placed newline line t read is =
        let q = old.at in
        let n = length front + q in
        let blank = is_blank_line b.so in
        let a = outer_alone edition H q blank newline line t read in
        let same : drop n (front ++ H) ≡ drop q H = drop-append-add front H q in
        record {
          es = a.0;
          t = a.1;
          there = stands_there edition H (front ++ H) q n blank newline a.0 a.1 a.2 (ap (take a.1.at) same)
              (told_same edition (front ++ H) H n q same ∙ a.2);
          ends = a.4;
          alike = ap is_empty a.3 ∙ empty_as blank (outer_entry q) (moved_entry n) a.0;
          prints = outer_printed y H q blank line a.0 text then a.3 is;
        }

    pub after_line : (other : List ℕ) (told : ParsedLine) → other ≡ H → told.newline ≡ true →
        IsReadBy (OuterReads old.edition other b.so old.at) (Ok told)
        → new.at ≡ old.at + told.len → Stands new (with_line b.so (map view_entry told.entries.items)) →
        Prints (map view_entry told.entries.items) → Between new then
    after_line other told same newline read ends stands is =
        let q = old.at in
        let n = length front + q in
        let line = map view_entry told.entries.items in
        let p = placed true line (standing told.len) (line_here other told true same newline read) is in
        let here = blanked_row (is_blank_line b.so) (map (moved_entry n) p.es) in
        record {
          so = with_line b.so here;
          stands = left_as new.before b.so line here p.alike stands;
          from = λ s rest. b.from s (rest_more edition y H (front ++ H) q n b.so p.es p.t p.there s
              (length front + new.at) (omega (arith, ends, p.ends)) rest);
          is = sheet_more edition y H (front ++ H) q n b.so true p.es p.t p.there text then b.is p.prints;
        }

    pub last_printed : (other : List ℕ) (told : ParsedLine) → other ≡ H → told.newline ≡ false →
        IsReadBy (OuterReads old.edition other b.so old.at) (Ok told)
        → Prints (map view_entry told.entries.items) → IsTextOf edition y (front ++ H) then.so_far
    last_printed other told same newline read is =
        let q = old.at in
        let n = length front + q in
        let p = placed false (map view_entry told.entries.items) (standing told.len)
        (line_here other told false same newline read) is in
        let all = entries_of (b.so.entries ++ blanked_row (is_blank_line b.so) (map (moved_entry n) p.es)) in
        let script : AScript = record { entries = all; fault = None } in
        let outcome : Outcome edition (front ++ H) script =
        b.from script (rest_last edition y H (front ++ H) q n b.so p.es p.t p.there) in
        let told : then.so_far ≡ printed y (shape_of (front ++ H) all) =
        ap (λ s. s.so_far) (sheet_more edition y H (front ++ H) q n b.so false p.es p.t p.there text
        then b.is p.prints ∙ written_first (print_entries y [] (shape_of (front ++ H) all))) in
        record {
          script = script;
          outcome = outcome;
          faultless = refl;
          is = told;
          reads_back = subst (λ t. ReadsBack edition t (shape_of (front ++ H) all)) (sym told)
              (reads_back edition y (front ++ H) script outcome);
        }

    fault_found : (f : Fault) → OuterReads edition H b.so old.at (Err f) → f.at ≤ length H
        → FirstFault edition (front ++ H) (Some (moved_fault (length front) f))
        × (length front + f.at ≤ length (front ++ H))
    fault_found f read low =
        let q = old.at in
        let n = length front + q in
        let blank = is_blank_line b.so in
        let there = fault_there edition H (front ++ H) (length front) q blank f (line_only edition H b.so q _ read)
        (drop-append-add front H q) in
        let line = line_read edition (front ++ H) b.so n blank _ refl there in (
          (entries_of b.so.entries, b.from _ (line.0, faulty (moved_fault (length front) f) line.0 line.1)),
          omega (arith, low, length-append front H),
        )

    no_text_by : (stop : Stop) → IsReadBy (OuterReads edition H b.so old.at) (Err stop) →
        LineWithin (length H) (Err stop) → IsNoText edition (front ++ H) (moved_error (length front) (error_of stop))
    no_text_by (Wrong f) read low = fault_found f read low
    no_text_by Memory read low = tt

    pub no_text : (other : List ℕ) (stop : Stop) → other ≡ H →
        IsReadBy (OuterReads old.edition other b.so old.at) (Err stop) → LineWithin (length other) (Err stop)
        → IsNoText edition (front ++ H) (moved_error (length front) (error_of stop))
    no_text other stop same told low =
        no_text_by stop (told_here other (Err stop) same told)
        (subst (λ (B : List ℕ). LineWithin (length B) (Err stop)) same low)

-- ---- a script that follows nothing

pub source_printed : (edition : Edition) (y : Layout) (H : List ℕ) (start : Printing)
    (r : Result (Vec ℕ Global) PrintError) → IsPrinted edition y [] start
    → IfOk r (λ text. (f : Edition) (z : Layout) (front : List ℕ) → IsPrinted f z front start →
    IsTextOf f z (front ++ H) text.items) → IfOk r (λ text. IsTextOf edition y H text.items)
source_printed edition y H start (Ok text) is told = told edition y [] is
source_printed edition y H start (Err e) is told = tt

not_moved : (edition : Edition) (H : List ℕ) (e : PrintError) → IsNoText edition H (moved_error 0 e) →
    IsNoText edition H e
not_moved edition H (PrintErrors.Faulty f) refused =
    subst (λ (g : Fault). IsNoText edition H (PrintErrors.Faulty g))
    (ap (λ (at : ℕ). record { kind = f.kind; at = at }) (zero-add f.at)) refused
not_moved edition H PrintErrors.Memory refused = tt

pub source_refused : (edition : Edition) (y : Layout) (H : List ℕ) (start : Printing)
    (r : Result (Vec ℕ Global) PrintError) → IsPrinted edition y [] start
    → IfErr r (λ e. (f : Edition) (z : Layout) (front : List ℕ) → IsPrinted f z front start →
    IsNoText f (front ++ H) (moved_error (length front) e)) → IfErr r (IsNoText edition H)
source_refused edition y H start (Ok text) is told = tt
source_refused edition y H start (Err e) is told = not_moved edition H e (told edition y [] is)
