-- A line of a script that is read in a piece of it: what is read of it in the script,
-- and that its shape is the same.
use Rattle.std.proofs.Common.{◌≡◌, ℕ, zero, suc, ◌+◌, ◌-◌, ◌≤◌, Bool, true, false, Ok, Err, List, List as Row, [], ◌∷◌, map, take, drop, refl, sym, ap, subst, ◌∙◌, arith}
use Rattle.std.proofs.lemmas.List.{drop-take}
use Rattle.std.proofs.Math.Seq.{drop-drop, take-take}
use Rattle.shgrammar.specs.declared.keep.Keep.TheVariants.{Outer, Whole}
use Rattle.shast.specs.declared.tree.Span.{Span}
use Rattle.shast.specs.Nodes.{IsSpanWithin, placed_span}
use Rattle.shast.specs.Shape.{shape_of, text_at}
use Rattle.shast.specs.Tree.{AnEntry, entries_of, entry}
use Rattle.shgrammar.specs.declared.fault.Fault.{Fault}
use Rattle.shast.specs.Everywhere.{IsSome, Throughout}
use Rattle.shgrammar.specs.Form.{Read, does}
use Rattle.shgrammar.specs.Moved.{Same, SameBy, moved_fault}
use Rattle.shast.specs.Moved.{blanked_row, body_by, carried_entry, moved_entry, outer_entry, placed_body, placed_entry}
use Rattle.shgrammar.specs.Scripts.{line_from, line_told, the_line}
use Rattle.shgrammar.specs.Sights.{State, given, standing}
use Rattle.shgrammar.proofs.EachSpan.{throughout_so}
use Rattle.shgrammar.proofs.SpansInLimit.{line_throughout}
use Rattle.shgrammar.proofs.MovedLine.{line_moved, line_outer}
use Rattle.shgrammar.proofs.ShapeMoved.{SameText, entry_same}
use Rattle.shgrammar.specs.declared.edition.Edition.{Edition}

-- ---- texts

-- the text of a span in the first n bytes is a part of these
text_part : (T : List ℕ) (n : ℕ) (s : Span) → IsSpanWithin n s →
    text_at T s ≡ drop s.start (take (s.start + (s.«end» - s.start)) (take n T))
text_part T n s within =
    let last = s.start + (s.«end» - s.start) in
    let le : last ≤ n = omega (arith, within.0, within.1) in
    sym (drop-take s.start (s.«end» - s.start) T) ∙ ap (drop s.start) (sym (take-take last n T le))

-- a span of the first n bytes
text_front : (n : ℕ) (T D : List ℕ) (s : Span) → take n T ≡ take n D → IsSpanWithin n s → text_at T s ≡ text_at D s
text_front n T D s same within =
    text_part T n s within ∙ ap (λ (xs : List ℕ). drop s.start (take (s.start + (s.«end» - s.start)) xs)) same
    ∙ sym (text_part D n s within)

-- a span, or a body, that is moved by n has the text that it has by itself in the rest from n on
pub text_moved : (n : ℕ) (S : List ℕ) (s : Span) → text_at S (placed_span n s) ≡ text_at (drop n S) s
text_moved n S s =
    let size : n + s.«end» - (n + s.start) ≡ s.«end» - s.start = omega arith in
    ap (λ (k : ℕ). take k (drop (n + s.start) S)) size ∙ ap (take (s.«end» - s.start)) (sym (drop-drop s.start n S))

pub body_moved : (n : ℕ) (S : List ℕ) (s : Span) (e : ℕ) → s.«end» ≡ e →
    text_at S (body_by n s e) ≡ text_at (drop n S) s
body_moved n S s zero is =
    let none : s.«end» - s.start ≡ 0 = omega (arith, is) in
    ap (λ (k : ℕ). take k (drop s.start S)) none ∙ sym (ap (λ (k : ℕ). take k (drop s.start (drop n S))) none)
body_moved n S s (suc m) is = text_moved n S s

-- ---- rows of entries

module _ (B C : List ℕ) (f h : Span → Span) where
  -- entries whose spans have the same texts there have the same shapes, the first one blank or not
  row_same : (es : Row AnEntry) → Throughout (SameText B C f h) IsSome (entries_of es) →
      shape_of B (entries_of (map (carried_entry f h true) es)) ≡ shape_of C (entries_of es)
  row_same [] so = refl
  row_same (e ∷ es) so = rw (entry_same B C f h IsSome e so.0, row_same es so.1) refl

  blanked_same : (blank : Bool) (es : Row AnEntry) → Throughout (SameText B C f h) IsSome (entries_of es)
      → shape_of B (entries_of (blanked_row blank (map (carried_entry f h true) es)))
      ≡ shape_of C (entries_of (blanked_row blank es))
  blanked_same blank [] so = refl
  blanked_same blank (entry what background b comment ∷ es) so =
      rw (entry_same B C f h IsSome (entry what background blank comment) so.0, row_same es so.1) refl

-- the entries of a line at n, whose bytes are the first ones of D
shape_there : (S D : List ℕ) (n m : ℕ) (blank : Bool) (es : Row AnEntry) → take m (drop n S) ≡ take m D →
    Throughout (IsSpanWithin m) IsSome (entries_of es)
    → shape_of S (entries_of (blanked_row blank (map (moved_entry n) es)))
    ≡ shape_of D (entries_of (blanked_row blank es))
shape_there S D n m blank es same within =
    blanked_same S D (placed_span n) (placed_body n) blank es
    (throughout_so (IsSpanWithin m) (SameText S D (placed_span n) (placed_body n)) IsSome IsSome
    (λ s low. (
      text_moved n S s ∙ text_front m (drop n S) D s same low,
      body_moved n S s s.«end» refl ∙ text_front m (drop n S) D s same low,
    ))
    (λ items some. some) (entries_of es) within)

-- ---- the line

-- what the line at q of H has, that reads as these entries by itself, where it stands at n of S
pub record There (edition : Edition) (H S : List ℕ) (q n : ℕ) (blank newline : Bool) (es : Row AnEntry)
    (t : State) : Type 0 where
  pub state : State
  pub read : line_from edition S Whole blank n ≡ Ok ((blanked_row blank (map (moved_entry n) es), newline), state)
  pub at : state.at ≡ t.at
  pub shape : shape_of S (entries_of (blanked_row blank (map (moved_entry n) es)))
      ≡ shape_of H (entries_of (blanked_row blank (map (moved_entry q) es)))

-- by what the line is, read by itself
alone_by : (edition : Edition) →
    (deep : Bool) (H : List ℕ) (q : ℕ) (blank newline : Bool) (es : Row AnEntry) (t : State)
    (z : Read (Row AnEntry × Bool)) → line_told edition H Whole false q 0 ≡ z →
    SameBy deep q blank (Ok ((es, newline), t)) z
    → (fs : Row AnEntry) × (u : State) × (line_told edition H Whole false q 0 ≡ Ok ((fs, newline), u))
    × (es ≡ blanked_row blank (map (placed_entry deep q) fs)) × (t.at ≡ u.at)
alone_by edition deep H q blank newline es t (Ok ((fs, ended), u)) is same =
    (fs, u, is ∙ ap (λ (b : Bool). Ok ((fs, b), u)) (sym same.1), same.0, same.2)
alone_by edition deep H q blank newline es t (Err f) is same = absurd same

-- the line by itself, of one that was read without the trees in its command substitutions
pub outer_alone : (edition : Edition) → (H : List ℕ) (q : ℕ) (blank newline : Bool) (es : Row AnEntry) (t : State) →
    line_from edition H Outer blank q ≡ Ok ((es, newline), t)
    → (fs : Row AnEntry) × (u : State) × (line_told edition H Whole false q 0 ≡ Ok ((fs, newline), u))
    × (es ≡ blanked_row blank (map (outer_entry q) fs)) × (t.at ≡ u.at)
outer_alone edition H q blank newline es t read =
    alone_by edition false H q blank newline es t (line_told edition H Whole false q 0) refl
    (subst (λ (y : Read (Row AnEntry × Bool)). SameBy false q blank y (line_told edition H Whole false q 0)) read
    (line_outer edition H q blank))

-- by what is read of the line at n
there_by : (edition : Edition) →
    (H S : List ℕ) (q n : ℕ) (blank newline : Bool) (es : Row AnEntry) (t : State) (x z : Read (Row AnEntry × Bool)) →
    line_from edition S Whole blank n ≡ x → z ≡ Ok ((es, newline), t) → Same n blank x z
    → shape_of S (entries_of (blanked_row blank (map (moved_entry n) es)))
    ≡ shape_of H (entries_of (blanked_row blank (map (moved_entry q) es)))
    → There edition H S q n blank newline es t
there_by edition H S q n blank newline es t (Ok ((gs, ended), v)) z is z_is same shape =
    let moved = rw z_is at same in
    record {
      state = v;
      read = is ∙ ap (λ (r : Row AnEntry). Ok ((r, ended), v)) moved.0
          ∙ ap (λ (b : Bool). Ok ((blanked_row blank (map (moved_entry n) es), b), v)) moved.1;
      at = moved.2;
      shape = shape;
    }
there_by edition H S q n blank newline es t (Err f) z is z_is same shape = let moved = rw z_is at same in absurd moved

-- a line of H that stands at n of S, and is read there by itself as it is in H
pub stands_there : (edition : Edition) → (H S : List ℕ) (q n : ℕ) (blank newline : Bool) (es : Row AnEntry) (t : State)
    → line_told edition H Whole false q 0 ≡ Ok ((es, newline), t) → take t.at (drop n S) ≡ take t.at (drop q H)
    → line_told edition S Whole false n 0 ≡ Ok ((es, newline), t) → There edition H S q n blank newline es t
stands_there edition H S q n blank newline es t read same again =
    let within = line_throughout edition (drop q H) 0 false newline es t read t.at (omega arith) in
    let shape = shape_there S (drop q H) n t.at blank es same within
    ∙ sym (shape_there H (drop q H) q t.at blank es refl within) in
    there_by edition H S q n blank newline es t (line_from edition S Whole blank n)
    (line_told edition S Whole false n 0) refl again (line_moved edition S n blank) shape

-- ---- its fault

-- by what is read of the line further on
fault_by : (edition : Edition) → (S : List ℕ) (p q : ℕ) (blank : Bool) (f : Fault) (x y z : Read (Row AnEntry × Bool)) →
    line_from edition S Whole blank (p + q) ≡ x → Same (p + q) blank x z → Same q blank (Err f) y → z ≡ y
    → line_from edition S Whole blank (p + q) ≡ Err (moved_fault p f)
fault_by edition S p q blank f x (Ok y) z is there here same = absurd here
fault_by edition S p q blank f (Ok x) (Err g) z is there here same = let moved = rw same at there in absurd moved
fault_by edition S p q blank f (Err h) (Err g) z is there here same =
    let moved = rw same at there in
    let sum : p + q + g.at ≡ p + (q + g.at) = omega arith in
    is ∙ ap Err (moved ∙ ap (λ (at : ℕ). record { kind = g.kind; at = at }) sum ∙ sym (ap (moved_fault p) here))

-- the same text from there on
pub told_same : (edition : Edition) → (S H : List ℕ) (n q : ℕ) → drop n S ≡ drop q H →
    line_told edition S Whole false n 0 ≡ line_told edition H Whole false q 0
told_same edition S H n q same = ap (λ (T : List ℕ). does (the_line false) Whole (given edition T 0) (standing 0)) same

-- its fault is the same
pub fault_there : (edition : Edition) → (H S : List ℕ) (p q : ℕ) (blank : Bool) (f : Fault) →
    line_from edition H Whole blank q ≡ Err f → drop (p + q) S ≡ drop q H →
    line_from edition S Whole blank (p + q) ≡ Err (moved_fault p f)
fault_there edition H S p q blank f read same =
    fault_by edition S p q blank f (line_from edition S Whole blank (p + q)) (line_told edition H Whole false q 0)
    (line_told edition S Whole false (p + q) 0) refl (line_moved edition S (p + q) blank)
    (subst (λ (y : Read (Row AnEntry × Bool)). Same q blank y (line_told edition H Whole false q 0)) read
    (line_moved edition H q blank))
    (told_same edition S H (p + q) q same)
