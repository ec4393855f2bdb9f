-- A line that did not end is the rest of its text, so each text has a row of lines.
use Rattle.std.proofs.Common.{◌≡◌, ℕ, zero, suc, ◌-◌, ◌<◌, ◌≤◌, ◌⊎◌, Bool, true, false, List, List as Row, [], ◌∷◌, Option, None, Some, length, drop, refl, sym, ap, subst, ⊎_elim, arith}
use Rattle.std.proofs.lemmas.Bool.{both_ways}
use Rattle.std.proofs.lemmas.List.{length-drop}
use Rattle.shast.specs.Tree.{AnEntry}
use Rattle.shgrammar.specs.declared.edition.Edition.{Edition}
use Rattle.shgrammar.specs.declared.keep.Keep.TheVariants.{Whole}
use Rattle.shgrammar.specs.declared.token.Next.{Next}
use Rattle.shgrammar.specs.declared.token.Position.TheVariants.{Command}
use Rattle.shgrammar.specs.declared.token.Token.{Token}
use Rattle.shgrammar.specs.declared.token.Token.TheVariants as tokens
use Rattle.shgrammar.specs.Bytes.{past_byte}
use Rattle.shgrammar.specs.Characters.{newline_char}
use Rattle.shgrammar.specs.Commands.{is_newline_token, none_waits, nothing_waits}
use Rattle.shgrammar.specs.Form.{change, does, nothing_read}
use Rattle.shgrammar.specs.HereDocuments.{bodies_here, first_waiting, own_level}
use Rattle.shgrammar.specs.Levels.{level, most_open}
use Rattle.shgrammar.specs.Lines.{AKind, ALine, IsLine, a_line, an_open_line, end_of_line, is_ended, line_read, line_stops}
use Rattle.shgrammar.specs.Lists.{list_so_far, none_listed}
use Rattle.shgrammar.specs.Sights.{Given, State, given, standing}
use Rattle.shgrammar.specs.Standing.{at_end, raw_stands}
use Rattle.shgrammar.specs.Tokens.{is_end}
use Rattle.shgrammar.specs.Words.{Inner}
use Rattle.shgrammar.specs.Scripts.{line_of_text}
use Rattle.shgrammar.proofs.BodiesThere.{ends_line}
use Rattle.shgrammar.proofs.Holds.{Holds, Tells, picked_by, stops, tells_change, tells_give, tells_level, tells_moved, tells_then}
use Rattle.shgrammar.proofs.OneOutcome.{computed_is_only}
use Rattle.shgrammar.proofs.Places.{end_high}
use Rattle.shgrammar.proofs.Scripts.{line_is}
use Rattle.shwindow.specs.Lines.{IsRow, last_line, more_lines}
use Rattle.shwindow.specs.declared.line.HeldLine.{HeldLine}
use Rattle.shheld.specs.TopLines.{IsTopLine}
use Rattle.shheld.proofs.InText.{Handed, Stays, bodies_high, next_here, on_line_in, read_on, stays_at}
use Rattle.shheld.proofs.TopLines.{held, top_lines}

-- ---- where a line ends

-- the token that passes for a newline is the newline, and the one that passes for the end is the end
newline_is : (t : Token) → is_newline_token t ≡ true → t ≡ tokens.Newline
newline_is tokens.Newline e = refl
newline_is _ e = absurd cc

end_is : (t : Token) → is_end t ≡ true → t ≡ tokens.End
end_is tokens.End e = refl
end_is _ e = absurd cc

module _ (g : Given) where
  -- the text that is read
  abbrev T : List ℕ
  T = g.text

  -- after a line that did not end nothing is left
  abbrev Rest : Bool → State → Type 0
  Rest newline t = is_ended T newline t.at ≡ false → t.at ≡ length T

  -- after a newline token, with the bodies that follow it
  rest_by : (t : State) → t.at ≤ length T → (raw_stands T (t.at - 1) newline_char ≡ true) ⊎ (at_end T t.at ≡ true)
      → Rest true t
  rest_by t le ends not_ended =
      ⊎_elim (λ last. absurd (both_ways (raw_stands T (t.at - 1) newline_char) not_ended last))
      (λ none. let high = end_high T t.at none in omega arith) ends

  -- so it is once the bodies after the newline are read
  bodies_rest : (s : State) → s.at ≤ length T → raw_stands T (s.at - 1) newline_char ≡ true
      → Tells Whole g (change bodies_here) (λ x t. Rest true t) s
  bodies_rest s le newline =
      tells_change Whole g
      (λ t is. rest_by t (bodies_high g s t le is) (ends_line Whole g s t (ap nothing_read is) newline))

  -- where nothing waits nothing moves
  waits_rest : (s : State) → s.at ≡ length T → Tells Whole g nothing_waits (λ x t. t.at ≡ length T) s
  unfolding nothing_waits
  waits_rest s at = record { told = by_waiting (first_waiting s) }
    where
      by_waiting : (w : Option ℕ)
          → Holds (λ (x : Unit {0}) t. t.at ≡ length T) (does (none_waits w) Whole g s)
      by_waiting (Some b) = tt
      by_waiting None = at

  -- so it is where a line ends, at a newline token or at the end of the text
  end_rest : (inner : Inner) (n : Next) (s : State) → Handed g n s
      → Tells Whole g (end_of_line inner n) Rest s
  unfolding end_of_line past_byte
  end_rest inner n s so =
      picked_by (is_newline_token n.token)
      (λ e. let here = so.shows.not_continued in
      let at : s.at ≡ past_byte T s.at - 1 = omega (arith, here) in
      let newline = subst (λ p. raw_stands T p newline_char ≡ true) at (so.shows.newline (newline_is n.token e)) in
      tells_moved Whole g
      (tells_then Whole g
      (bodies_rest (record s { at = past_byte T s.at }) (read_on g n s so is_newline_token refl e) newline)
      (λ x t rest. tells_give Whole g rest)))
      (picked_by (is_end n.token)
      (λ e. let within = so.within in
      let high = end_high T s.at (so.shows.ending (end_is n.token e)) in
      tells_then Whole g (waits_rest s (omega arith)) (λ x t at. tells_give Whole g (λ not_ended. at)))
      (stops inner n))

  -- the same of a line, by what was read of it
  abbrev LineRest : Row AnEntry × Bool → State → Type 0
  LineRest l t = Rest l.1 t

  -- after a line that did not end nothing is left, whether or not its bodies are filled in
  open_rest : (inner : Inner) → Stays g inner → (blank : Bool) (s : State) → s.at ≤ length T
      → Tells Whole g (an_open_line inner blank) LineRest s
  unfolding an_open_line
  open_rest inner stays blank s le =
      tells_then Whole g (next_here g Command s le)
      (λ n t one. tells_then Whole g (on_line_in g inner stays (list_so_far (none_listed blank) n) t one)
      (λ l u two. tells_then Whole g (end_rest inner l.next u two)
      (λ newline v rest. tells_give Whole g rest)))

  line_rest : (inner : Inner) → Stays g inner → (blank : Bool) (s : State) → s.at ≤ length T
      → Tells Whole g (a_line inner blank) LineRest s
  unfolding a_line
  line_rest inner stays blank s le =
      tells_then Whole g {P = λ l t. Rest l.0.1 t}
      (tells_level Whole g (open_rest inner stays blank (own_level s) le) (λ x t rest. rest))
      (λ l t rest. tells_give Whole g rest)

-- a line that did not end, with a fault or with none, is the rest of its text
pub whole : (edition : Edition) (T : List ℕ) (a : ALine) → IsLine edition T a → a.ended ≡ false
    → a.next ≡ length T
whole edition T a (line_read es newline t k part) not_ended =
    let g = given edition T 0 in
    let inner = level most_open in
    let read = (computed_is_only (a_line inner false) g (standing 0)).only _ _ part in
    let told = (line_rest g inner (stays_at g most_open) false (standing 0) (omega arith)).told in
    subst (Holds (LineRest g)) (sym read) told not_ended
whole edition T a (line_stops f k part) not_ended = refl

-- ---- the row of a text

module _ (edition : Edition) where
  -- the top-level line with which a text begins, by this edition
  abbrev Is : List ℕ → HeldLine AKind → Type 0
  Is = IsTopLine edition

  -- each text begins with a line
  pub some_line : (T : List ℕ) → (l : HeldLine AKind) × Is T l
  some_line T = (held (line_of_text edition T), line_is edition T)

  -- and has a row of lines
  abbrev HasRow : List ℕ → Type 0
  HasRow T = (row : Row (HeldLine AKind)) × IsRow Is T row

  -- a text has a row of lines if each shorter one has
  row_by : (T : List ℕ) (l : HeldLine AKind) (ended : Bool) → l.ended ≡ ended → Is T l
      → ((U : List ℕ) → length U < length T → HasRow U) → HasRow T
  row_by T l true ended is rest =
      let some = (top_lines edition).onward T l is ended in
      let high = (top_lines edition).within T l is ended in
      let one = rest (drop l.len T) (omega (arith, some, high, length-drop l.len T)) in
      (l ∷ one.0, more_lines is ended one.1)
  row_by T l false not_ended is rest = (l ∷ [], last_line is not_ended (whole edition T _ is not_ended))

  -- each text of fewer than n bytes has one
  row_below : (n : ℕ) (T : List ℕ) → length T < n → HasRow T
  row_below zero T low = absurd (omega arith)
  row_below (suc n) T low =
      let one = some_line T in
      row_by T one.0 one.0.ended refl one.1 (λ U less. row_below n U (omega (arith, less, low)))

  -- so each text has one, however long it is
  pub some_row : (T : List ℕ) → (row : Row (HeldLine AKind)) × IsRow Is T row
  some_row T = row_below (suc (length T)) T (omega arith)
