-- The script of a row of lines is what their lines give, one after the other.
use Rattle.std.proofs.Common.{◌≡◌, ℕ, ◌+◌, ◌≤◌, Bool, true, false, not, ◌&&◌, List, List as Row, [], ◌∷◌, ◌++◌, map, drop, length, Ok, Err, None, Some, refl, sym, ap, subst, ◌∙◌, arith, append-nil}
use Rattle.std.proofs.lemmas.List.{drop_all, length-drop}
use Rattle.shgrammar.specs.declared.fault.Fault.{Fault}
use Rattle.shgrammar.specs.declared.keep.Keep.TheVariants.{Whole}
use Rattle.shast.specs.Tree.{AnEntry, Entries, more_entries, no_entry, entries_of}
use Rattle.shast.specs.Moved.{appended, blanked_row, moved, moved_entry}
use Rattle.shast.proofs.Appended.{rows_appended}
use Rattle.shgrammar.specs.Form.{Read, does}
use Rattle.shgrammar.specs.Commands.{is_empty}
use Rattle.shgrammar.specs.Sights.{State, given, standing}
use Rattle.shgrammar.specs.Lines.{ALine, IsLine, kind_of}
use Rattle.shgrammar.specs.Scripts.{AScript, Outcome, LinesSoFar, as_line, is_blank_line, line_from, line_of_text, line_told, nothing_yet, script_at, script_on, the_line, with_line}
use Rattle.shgrammar.specs.Moved.{Same}
use Rattle.shgrammar.specs.Joined.{AreLines, blanked, has_entry, lines_joined, line_joined_by, last_of, more_of}
use Rattle.shgrammar.proofs.Lined.{line_faulty, line_last, line_more, line_at_end}
use Rattle.shgrammar.proofs.MovedLine.{line_moved}
use Rattle.shgrammar.proofs.Scripts.{line_only, script_is}
use Rattle.shgrammar.specs.declared.edition.Edition.{Edition}

-- ---- rows and lists

-- a list is moved, made blank and told to have an entry as the row of its entries is
rows_moved : (p : ℕ) (es : Row AnEntry) → moved p (entries_of es) ≡ entries_of (map (moved_entry p) es)
rows_moved p [] = refl
rows_moved p (e ∷ es) = ap (more_entries (moved_entry p e)) (rows_moved p es)

rows_blanked : (blank : Bool) (es : Row AnEntry) → blanked blank (entries_of es) ≡ entries_of (blanked_row blank es)
rows_blanked blank [] = refl
rows_blanked blank (e ∷ es) = refl

has_row : (es : Row AnEntry) → has_entry (entries_of es) ≡ not (is_empty es)
has_row [] = refl
has_row (e ∷ es) = refl

-- the entries of a line where it stands
abbrev there : ℕ → Bool → Row AnEntry → Row AnEntry
there p blank es = blanked_row blank (map (moved_entry p) es)

-- what a line adds
added : (p : ℕ) (so : LinesSoFar) (es : Row AnEntry)
    → appended (entries_of so.entries) (blanked (so.gap && has_entry (entries_of so.entries)) (moved p (entries_of es)))
    ≡ entries_of (so.entries ++ there p (is_blank_line so) es)
added p so es =
    rw (has_row so.entries, rows_moved p es, rows_blanked (is_blank_line so) (map (moved_entry p) es))
    (rows_appended so.entries (there p (is_blank_line so) es))

module _ (edition : Edition) (B : List ℕ) where
  -- after the last byte nothing is read
  at_end : (so : LinesSoFar) (p : ℕ) → length B ≤ p →
      script_on edition B so p ≡ record { entries = entries_of so.entries; fault = None }
  at_end so p le =
      line_last edition B so p (is_blank_line so) refl [] (standing 0) (with_line so [])
      (ap (λ T. does (the_line (is_blank_line so)) Whole (given edition T p) (standing 0)) (drop_all p B le)
      ∙ line_at_end edition (is_blank_line so) Whole p) refl
      ∙ ap (λ es. record { entries = entries_of es; fault = None }) (append-nil so.entries)

  -- ---- one line

  -- what the lines give, by the line as it is read by itself
  abbrev Joins : ℕ → LinesSoFar → Row ALine → Type 0
  Joins p so ls = script_on edition B so p ≡ lines_joined ls (entries_of so.entries) so.gap p

  -- whatever the lines before gave
  abbrev Rest : ℕ → Row ALine → Type 0
  Rest q ls = (so : LinesSoFar) → Joins q so ls

  -- a line that a newline token ended, and what the lines after it give
  line_on : (p : ℕ) (so : LinesSoFar) (es : Row AnEntry) (rest : Entries → Bool → AScript) (y : AScript) →
      y ≡ rest (entries_of (so.entries ++ there p (is_blank_line so) es)) (is_empty es)
      → y ≡ line_joined_by rest (kind_of es true) (entries_of so.entries) so.gap p
  line_on p so [] rest y is = is ∙ ap (λ es. rest (entries_of es) true) (append-nil so.entries)
  line_on p so (e ∷ es) rest y is = is ∙ ap (λ es. rest es false) (sym (added p so (e ∷ es)))

  -- a line has an entry there where it has one by itself
  empty_there : (p : ℕ) (blank : Bool) (es : Row AnEntry) → is_empty (there p blank es) ≡ is_empty es
  empty_there p blank [] = refl
  empty_there p blank (e ∷ es) = refl

  -- a line that no newline token ended
  line_at_last : (p : ℕ) (so : LinesSoFar) (es : Row AnEntry) (q : ℕ)
      → record { entries = entries_of (so.entries ++ there p (is_blank_line so) es); fault = None }
      ≡ line_joined_by (λ es gap. lines_joined [] es gap q) (kind_of es false) (entries_of so.entries) so.gap p
  line_at_last p so [] q = ap (λ es. record { entries = entries_of es; fault = None }) (append-nil so.entries)
  line_at_last p so (e ∷ es) q = ap (λ es. record { entries = es; fault = None }) (sym (added p so (e ∷ es)))

  module _ (p : ℕ) (so : LinesSoFar) where
    -- whether the first entry of the next line is blank
    abbrev blank : Bool
    blank = is_blank_line so

    -- the line goes on
    goes : (fs : Row AnEntry) (u : State) (es : Row AnEntry) (t : State) → es ≡ there p blank fs → t.at ≡ u.at →
        line_from edition B Whole blank p ≡ Ok ((es, true), t) → (ls : Row ALine) → Rest (p + u.at) ls
        → script_on edition B so p ≡ line_joined_by (λ es gap. lines_joined ls es gap (p + u.at)) (kind_of fs true)
        (entries_of so.entries) so.gap p
    goes fs u es t entries_are at_is read ls rest =
        let next : LinesSoFar = record { entries = so.entries ++ there p blank fs; gap = is_empty fs } in
        let same : next ≡ with_line so es = rw (entries_are, empty_there p blank fs) refl in
        let on : script_on edition B so p ≡ script_on edition B next (p + u.at) =
        line_more edition B so p blank refl es t next read same
        ∙ ap (λ q. script_on edition B next (p + q)) at_is in
        line_on p so fs (λ es gap. lines_joined ls es gap (p + u.at)) (script_on edition B so p) (on ∙ rest next)

    -- the line is the last one
    ends : (fs : Row AnEntry) (u : State) (es : Row AnEntry) (t : State) → es ≡ there p blank fs →
        line_from edition B Whole blank p ≡ Ok ((es, false), t) → (q : ℕ)
        → script_on edition B so p ≡ line_joined_by (λ es gap. lines_joined [] es gap q) (kind_of fs false)
        (entries_of so.entries) so.gap p
    ends fs u es t entries_are read q =
        line_last edition B so p blank refl es t (with_line so es) read refl
        ∙ ap (λ zs. record { entries = entries_of (so.entries ++ zs); fault = None }) entries_are
        ∙ line_at_last p so fs q

    -- the last line of the row
    last_by : (x y : Read (Row AnEntry × Bool)) → line_from edition B Whole blank p ≡ x → Same p blank x y →
        (as_line (drop p B) y).ended ≡ false → (as_line (drop p B) y).next ≡ length (drop p B)
        → Joins p so (as_line (drop p B) y ∷ [])
    last_by (Ok ((es, true), t)) (Ok ((fs, true), u)) read (entries_are, flag, at_is) not_ended whole =
        goes fs u es t entries_are at_is read []
        (λ then. at_end then (p + u.at) (omega (arith, whole, length-drop p B)))
    last_by (Ok ((es, false), t)) (Ok ((fs, false), u)) read (entries_are, flag, at_is) not_ended whole =
        ends fs u es t entries_are read (p + u.at)
    last_by (Ok ((es, true), t)) (Ok ((fs, false), u)) read (entries_are, flag, at_is) not_ended whole = absurd cc
    last_by (Ok ((es, false), t)) (Ok ((fs, true), u)) read (entries_are, flag, at_is) not_ended whole = absurd cc
    last_by (Err f) (Err h) read is not_ended whole =
        line_faulty edition B so p blank refl f read
        ∙ ap (λ (z : Fault). record { entries = entries_of so.entries; fault = Some z }) is
    last_by (Ok x) (Err h) read is not_ended whole = absurd is
    last_by (Err f) (Ok x) read is not_ended whole = absurd is

    -- one of the others
    more_by : (x y : Read (Row AnEntry × Bool)) → line_from edition B Whole blank p ≡ x → Same p blank x y →
        (as_line (drop p B) y).ended ≡ true → (ls : Row ALine) → Rest (p + (as_line (drop p B) y).next) ls
        → Joins p so (as_line (drop p B) y ∷ ls)
    more_by (Ok ((es, true), t)) (Ok ((fs, true), u)) read (entries_are, flag, at_is) ended ls rest =
        goes fs u es t entries_are at_is read ls rest
    more_by (Ok ((es, false), t)) (Ok ((fs, false), u)) read (entries_are, flag, at_is) ended ls rest = absurd cc
    more_by (Ok ((es, true), t)) (Ok ((fs, false), u)) read (entries_are, flag, at_is) ended ls rest = absurd cc
    more_by (Ok ((es, false), t)) (Ok ((fs, true), u)) read (entries_are, flag, at_is) ended ls rest = absurd cc
    more_by (Err f) (Err h) read is ended ls rest = absurd cc
    more_by (Ok x) (Err h) read is ended ls rest = absurd is
    more_by (Err f) (Ok x) read is ended ls rest = absurd is

  -- ---- all lines

  -- what is a line of a text is what is computed of it
  line_is_read : (p : ℕ) (l : ALine) → IsLine edition (drop p B) l →
      l ≡ as_line (drop p B) (line_told edition B Whole false p 0)
  unfolding line_of_text
  line_is_read p l is = line_only edition (drop p B) l is

  -- all lines from p on, whatever those before gave
  lines_join : (p : ℕ) (ls : Row ALine) → AreLines edition B p ls → Rest p ls
  lines_join p ls (last_of l is not_ended whole) so =
      let same = line_is_read p l is in
      subst (λ z. Joins p so (z ∷ [])) (sym same)
      (last_by p so _ (line_told edition B Whole false p 0) refl (line_moved edition B p (is_blank_line so))
      (ap (λ (z : ALine). z.ended) (sym same) ∙ not_ended) (ap (λ (z : ALine). z.next) (sym same) ∙ whole))
  lines_join p ls (more_of l rest is ended on) so =
      let same = line_is_read p l is in
      subst (λ z. Joins p so (z ∷ rest)) (sym same)
      (more_by p so _ (line_told edition B Whole false p 0) refl (line_moved edition B p (is_blank_line so))
      (ap (λ (z : ALine). z.ended) (sym same) ∙ ended) rest
      (λ then. subst (λ (z : ALine). Joins (p + z.next) then rest) same (lines_join (p + l.next) rest on then)))

  -- so it is of a script
  pub script_joined : (ls : Row ALine) → AreLines edition B 0 ls → Outcome edition B (lines_joined ls no_entry false 0)
  unfolding script_at
  script_joined ls are = subst (Outcome edition B) (lines_join 0 ls are nothing_yet) (script_is edition B)
