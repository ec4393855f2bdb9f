-- The lines of shell scripts keep to the laws of held lines.
use Rattle.std.proofs.Common.{◌≡◌, ℕ, ◌-◌, ◌<◌, ◌≤◌, Bool, true, false, Option, None, Some, List, length, slice_get, sym, ap, subst, refl, ◌∙◌, arith}
use Rattle.std.proofs.lemmas.Bool.{and_parts}
use Rattle.std.proofs.lemmas.Option.{slice_get_within}
use Rattle.shast.specs.Tree.{AnEntry}
use Rattle.std.specs.Prelude.{List as Row}
use Rattle.shgrammar.specs.declared.edition.Edition.{Edition}
use Rattle.shgrammar.specs.Characters.{newline_char}
use Rattle.shgrammar.specs.declared.keep.Keep.TheVariants.{Whole}
use Rattle.shgrammar.specs.Levels.{level, most_open}
use Rattle.shgrammar.specs.Lines.{AKind, ALine, IsLine, a_line, line_read, line_stops}
use Rattle.shgrammar.specs.Sights.{State, given, standing}
use Rattle.shgrammar.specs.Standing.{is_byte, raw_stands}
use Rattle.shgrammar.proofs.Holds.{Holds}
use Rattle.shgrammar.proofs.Lined.{line_ended_low}
use Rattle.shgrammar.proofs.OneOutcome.{computed_is_only}
use Rattle.shgrammar.proofs.SameLine.{no_further}
use Rattle.shgrammar.proofs.Scripts.{line_only}
use Rattle.shwindow.specs.Lines.{Reads}
use Rattle.shwindow.specs.declared.line.HeldLine.{HeldLine}
use Rattle.shheld.specs.TopLines.{IsTopLine, as_read}

-- a line as the grammar tells it, among held lines
abbrev pub held : ALine → HeldLine AKind
held l = record { kind = l.kind; len = l.next; ended = l.ended }

-- a text begins with one top-level line
only : (edition : Edition) (T : List ℕ) (l m : HeldLine AKind) → IsTopLine edition T l → IsTopLine edition T m → l ≡ m
only edition T l m one two = ap held (line_only edition T (as_read l) one ∙ sym (line_only edition T (as_read m) two))

-- a place where a newline stands is in the text
byte_within : (T : List ℕ) (p : ℕ) (b : Option ℕ) → slice_get T p ≡ b → is_byte b newline_char ≡ true → p < length T
byte_within T p None is e = absurd cc
byte_within T p (Some b) is e = slice_get_within T p b is

stands_within : (T : List ℕ) (p : ℕ) → raw_stands T p newline_char ≡ true → p < length T
unfolding raw_stands
stands_within T p e = byte_within T p (slice_get T p) refl e

-- a line that ended has bytes, and they are the text's
ended_by : (edition : Edition) (T : List ℕ) (a : ALine) → IsLine edition T a → a.ended ≡ true → (0 < a.next)
    × (a.next ≤ length T)
ended_by edition T a (line_read es newline t k part) ended =
    let both = and_parts _ _ ended in
    let some : 0 < t.at = subst (Holds (λ (x : Row AnEntry × Bool) (u : State). x.1 ≡ true → 0 < u.at))
    (sym ((computed_is_only (a_line (level most_open) false) (given edition T 0) (standing 0)).only _ _ part))
    (line_ended_low (level most_open) false Whole (given edition T 0) (standing 0)).told both.0
    in
    let high = stands_within T (t.at - 1) both.1 in
    (some, omega (arith, some, high))
ended_by edition T a (line_stops f k part) ended = absurd cc

-- top-level lines keep to each law of `Reads`
pub top_lines : (edition : Edition) → Reads (IsTopLine edition)
top_lines edition = record {
  only = only edition;
  onward = λ T l is ended. (ended_by edition T (as_read l) is ended).0;
  within = λ T l is ended. (ended_by edition T (as_read l) is ended).1;
  alone = λ T U l is ended same. no_further edition T (as_read l) is ended U 0 same;
}
