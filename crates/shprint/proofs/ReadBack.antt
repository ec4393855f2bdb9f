-- The printed text of a script that was read is read back as a script of the same shape, and as no other.
use Rattle.std.proofs.Common.{◌≡◌, ℕ, ◌+◌, Bool, true, false, not, List, List as Row, [], ◌∷◌, ◌++◌, drop, Option, None, refl, sym, ap, subst, ◌∙◌, append_assoc, append-nil}
use Rattle.std.proofs.lemmas.Bool.{both_ways, and_parts, and_left}
use Rattle.std.proofs.lemmas.List.{drop-drop}
use Rattle.shast.specs.Normal.{first_not_blank, are_normal}
use Rattle.shast.specs.Shape.{Text, Shape, shape_of, shape_of_entry}
use Rattle.shast.specs.Tree.{AContentOf, AnEntryOf, AnEntry, entry, EntriesOf, no_entry, more_entries, entries_of}
use Rattle.shast.proofs.SameForm.{same_form}
use Rattle.shgrammar.specs.declared.edition.Edition.{Edition}
use Rattle.shgrammar.specs.Form.{Spelled}
use Rattle.shgrammar.specs.Commands.{is_empty}
use Rattle.shgrammar.specs.Levels.{most_open}
use Rattle.shgrammar.specs.Scripts.{AScript, LinesSoFar, is_blank_line, with_line, Lines, line_ended, last_line, nothing_yet, Outcome}
use Rattle.shgrammar.proofs.MovedTrees.{pushed_some}
use Rattle.shgrammar.proofs.Scripts.{script_only}
use Rattle.shgrammar.proofs.NormalForm.{script_in_normal_form}
use Rattle.shprint.specs.declared.layout.Layout.{Layout}
use Rattle.shprint.specs.Marks.{text, Marks, laid}
use Rattle.shprint.specs.Printed.{print_blank, print_content, print_entries, printed}
use Rattle.shprint.specs.ReadBack.{ReadsBack}
use Rattle.shprint.proofs.Good.{GoodEntries}
use Rattle.shprint.proofs.ReadableCompounds.{script_readable}
use Rattle.shprint.proofs.Held.{StandsIn}
use Rattle.shprint.proofs.PrintedLists.{entry_rest, entry_marks, blank_first}
use Rattle.shprint.proofs.PrintedRows.{ScriptLine, EntryLine, entry_line, blank_line_read, end_line_read}

module _ (edition : Edition) (y : Layout) (B : List ℕ) where
  -- these entries are read from p on, after what was read so far
  record ScriptRead (so : LinesSoFar) (p : ℕ) (es : Shape EntriesOf) : Type 0 where
    value : Row AnEntry
    told : Row Spelled
    reads : Lines edition B so p (record { entries = entries_of (so.entries ++ value); fault = None }) told
    shape : shape_of B (entries_of value) ≡ es

  -- these marks, and no more, stand from here on
  abbrev At : ℕ → Marks → Type 0
  At p ms = drop p B ≡ laid ms

  -- what is left from p on
  abbrev from_here : (p : ℕ) → StandsIn edition B (drop p B) p
  from_here p = record { here = refl }

  -- so they do after a line
  at_next : (p f : ℕ) (ms : Marks) → drop f (drop p B) ≡ laid ms → At (p + f) ms
  at_next p f ms at = sym (drop-drop f p B) ∙ at

  -- the last line, which is empty
  end_read : (so : LinesSoFar) (p : ℕ) → At p [] → ScriptRead so p no_entry
  end_read so p at =
      let r = end_line_read (from_here p) y (is_blank_line so) at in
      record { value = []; told = r.reads.passes; reads = last_line [] _ r.reads.passes r.reads.reads; shape = refl }

  -- one entry more in front
  entry_read : (so : LinesSoFar) (p : ℕ) (x : Shape AnEntryOf) (es : Shape EntriesOf) (rest : Marks)
      (one : EntryLine (from_here p) (is_blank_line so) x rest)
      → ScriptRead (with_line so (one.value ∷ [])) (p + one.line.f) es → ScriptRead so p (more_entries x es)
  entry_read so p x es rest one others =
      let v = one.value in
      let all = line_ended (v ∷ []) _ one.line.reads.passes one.line.reads.reads others.reads in
      record {
        value = v ∷ others.value;
        told = one.line.reads.passes ++ others.told;
        reads = subst (λ all. Lines edition B so p (record { entries = entries_of all; fault = None })
            (one.line.reads.passes ++ others.told)) (append_assoc so.entries (v ∷ []) others.value) all;
        shape = shapes v others.value x es one.shape others.shape;
      }
    where
      shapes : (v : AnEntry) (vs : Row AnEntry) (x : Shape AnEntryOf) (es : Shape EntriesOf) → shape_of_entry B v ≡ x →
          shape_of B (entries_of vs) ≡ es → shape_of B (entries_of (v ∷ vs)) ≡ more_entries x es
      shapes v vs x es e f = rw (e, f) refl

  -- an entry from the beginning of its line on
  from_margin : (so : LinesSoFar) (p : ℕ) (what : Shape AContentOf) (background blank : Bool) (comment : Option Text)
      (es : Shape EntriesOf) → GoodEntries edition most_open (more_entries (entry what background blank comment) es)
      → are_normal (more_entries (entry what background blank comment) es) ≡ true → is_blank_line so ≡ blank
      → At p (text [] ∷ (print_content y [] what
      ++ entry_rest background comment (print_entries y [] es)))
      → ((to : LinesSoFar) (q : ℕ) → to.gap ≡ false → is_empty to.entries ≡ false → At q (print_entries y [] es) →
      ScriptRead to q es)
      → ScriptRead so p (more_entries (entry what background blank comment) es)
  from_margin so p what background blank comment es good normal blank_is at others =
      let one = entry_line (from_here p) y blank what background comment
      (print_entries y [] es) good.0.0 good.0.1 (and_parts _ _ normal).0 at in
      let one_so = subst (λ b. EntryLine (from_here p) b (entry what background blank comment)
      (print_entries y [] es)) (sym blank_is) one in
      entry_read so p (entry what background blank comment) es (print_entries y [] es) one_so
      (others (with_line so (one_so.value ∷ [])) (p + one_so.line.f) refl (pushed_some so.entries one_so.value)
      (at_next p one_so.line.f (print_entries y [] es) one_so.line.at))

  -- what is printed for a list, from its first entry on
  marks_are : (what : Shape AContentOf) (background blank : Bool) (comment : Option Text) (es : Shape EntriesOf)
      → print_entries y [] (more_entries (entry what background blank comment) es)
      ≡ print_blank blank ++ (text []
      ∷ (print_content y [] what ++ entry_rest background comment (print_entries y [] es)))
  marks_are what background blank comment es =
      let all = print_entries y [] (more_entries (entry what background blank comment) es) in
      let one = entry_marks y [] what background blank comment es [] in
      sym (append-nil all) ∙ one ∙ ap
      (λ more. print_blank blank ++
      (text [] ∷ (print_content y [] what
      ++ entry_rest background comment more))) (append-nil (print_entries y [] es))

  -- after an empty line
  blank_read : (so : LinesSoFar) (p : ℕ) (es : Shape EntriesOf) (rest : Marks)
      (line : ScriptLine (from_here p) (is_blank_line so) [] true rest) →
      ScriptRead (with_line so []) (p + line.f) es → ScriptRead so p es
  blank_read so p es rest line others =
      let all = line_ended [] _ line.reads.passes line.reads.reads others.reads in
      record {
        value = others.value;
        told = line.reads.passes ++ others.told;
        reads = subst (λ all. Lines edition B so p (record { entries = entries_of (all ++ others.value); fault = None })
            (line.reads.passes ++ others.told)) (append-nil so.entries) all;
        shape = others.shape;
      }

  -- all lines of the script are read
  lines_read : (es : Shape EntriesOf) (so : LinesSoFar) (p : ℕ) → GoodEntries edition most_open es →
      are_normal es ≡ true →
      (is_empty so.entries ≡ true → first_not_blank es ≡ true) → so.gap ≡ false
      → At p (print_entries y [] es) → ScriptRead so p es
  lines_read no_entry so p good normal first gap at = end_read so p at
  lines_read (more_entries (entry what background false comment) es) so p good normal first gap at =
      from_margin so p what background false comment es good normal (and_left so.gap _ gap)
      (at ∙ ap laid (marks_are what background false comment es))
      (λ to q none some there. lines_read es to q good.1 (and_parts _ _ normal).1
      (λ e. absurd (both_ways (is_empty to.entries) some e)) none there)
  lines_read (more_entries (entry what background true comment) es) so p good normal first gap at =
      let more_at = at ∙ ap laid (marks_are what background true comment es) in
      let line = blank_line_read (from_here p) y (is_blank_line so) _ more_at in
      let some_before = blank_first so.entries first in
      let to = with_line so [] in
      let q = p + line.f in
      let none_before : is_empty to.entries ≡ false = ap is_empty (append-nil so.entries) ∙ some_before in
      let blank_is : is_blank_line to ≡ true = ap not none_before in
      blank_read so p (more_entries (entry what background true comment) es) _ line
      (from_margin to q what background true comment es good normal blank_is (at_next p line.f _ line.at)
      (λ to q none some there. lines_read es to q good.1 (and_parts _ _ normal).1
      (λ e. absurd (both_ways (is_empty to.entries) some e)) none there))

-- what is printed of a script that was read is read, with the same shape
pub reads_back : (edition : Edition) (y : Layout) (B : List ℕ) (s : AScript) → Outcome edition B s →
    ReadsBack edition (printed y (shape_of B s.entries)) (shape_of B s.entries)
reads_back edition y B s is =
    let es = shape_of B s.entries in
    let T = printed y es in
    let normal = and_parts _ _ (same_form B s.entries
    ∙ script_in_normal_form edition B s (script_only edition B s is)) in
    let r = lines_read edition y T es nothing_yet 0 (script_readable edition B s is) normal.1
    (λ none. normal.0) refl refl in
    let found : AScript = record { entries = entries_of r.value; fault = None } in
    let outcome : Outcome edition T found = (r.told, r.reads) in
    record {
      script = found;
      outcome = outcome;
      faultless = refl;
      same = r.shape;
      only = λ other o. script_only edition T other o ∙ sym (script_only edition T found outcome);
    }

-- printing again gives the same bytes
pub prints_the_same : (edition : Edition) (y : Layout) (B : List ℕ) (s t : AScript) → Outcome edition B s →
    Outcome edition (printed y (shape_of B s.entries)) t
    → printed y (shape_of (printed y (shape_of B s.entries)) t.entries) ≡ printed y (shape_of B s.entries)
prints_the_same edition y B s t is read =
    let back = reads_back edition y B s is in
    let T = printed y (shape_of B s.entries) in
    ap (λ (u : AScript). printed y (shape_of T u.entries)) (back.only t read) ∙ ap (printed y) back.same
