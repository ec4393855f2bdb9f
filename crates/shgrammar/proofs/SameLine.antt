-- A line that a newline ended looks no further than that newline.
use Rattle.std.proofs.Common.{◌≡◌, ℕ, zero, suc, ◌+◌, ◌-◌, ◌≤◌, ◌<◌, Bool, true, false, ◌&&◌, Result, Ok, Err, ⊎_elim, List, List as Row, [], ◌∷◌, ◌++◌, take, drop, Option, Some, None, slice_get, refl, sym, ap, subst, ◌∙◌, arith}
use Rattle.std.proofs.lemmas.Bool.{and_parts, cases_lt}
use Rattle.shgrammar.specs.Characters.{newline_char}
use Rattle.shgrammar.specs.declared.keep.Keep.TheVariants.{Whole}
use Rattle.shgrammar.specs.declared.fault.Fault.{Fault}
use Rattle.shgrammar.specs.declared.fault.FaultKind.{FaultKind}
use Rattle.shast.specs.declared.tree.Span.{Span}
use Rattle.shast.specs.Bodies.{filled_row}
use Rattle.shgrammar.specs.declared.token.Next.{Next}
use Rattle.shgrammar.specs.declared.token.Position.TheVariants.{Command}
use Rattle.shast.specs.Tree.{AnEntry}
use Rattle.shgrammar.specs.Standing.{is_byte, passes, raw_in, raw_stands}
use Rattle.shgrammar.specs.Bytes.{byte_at, past_byte, past_continuations}
use Rattle.shgrammar.specs.Sights.{Given, given, State, standing}
use Rattle.shgrammar.specs.HereDocuments.{bodies_here, changed, first_waiting, own_level}
use Rattle.shgrammar.specs.Form.{nothing_read, a_level, level_read, level_stops, just, Spelled, Read, ◌▸◌, Form, give, both, may, does, Then, and_then, or_stops}
use Rattle.shgrammar.specs.Words.{Inner}
use Rattle.shgrammar.specs.Levels.{level, most_open}
use Rattle.shgrammar.specs.Tokens.{is_end}
use Rattle.shgrammar.specs.Commands.{is_newline_token, next_token, none_waits, nothing_waits, what_is_wrong}
use Rattle.shgrammar.specs.Lines.{line_end_by, end_of_line, an_open_line, a_line, ALine, IsLine, SameBytes, NoFurther, line_read, line_stops, kind_of}
use Rattle.shgrammar.specs.Lists.{ListSoFar, list_so_far, none_listed, on_line}
use Rattle.shgrammar.proofs.OneOutcome.{computed_is_only}
use Rattle.shgrammar.proofs.Holds.{Holds, Tells, change_low}
use Rattle.shgrammar.proofs.Lined.{line_ended_low}
use Rattle.shgrammar.proofs.Stretches.{byte_is}
use Rattle.shgrammar.proofs.SameBytes.{at_limit, byte_other, goes_on, halts, no_backslash}
use Rattle.shgrammar.proofs.Ahead.{ListEnds, newline_ends, past_byte_is, same_after}
use Rattle.shgrammar.proofs.BodiesThere.{read_to_limit}
use Rattle.shgrammar.proofs.TokensShown.{Begins, InnerHandsOn, newline_here, shown_level, shown_next, shown_on_line}
use Rattle.shgrammar.proofs.Asked.{Good}
use Rattle.shgrammar.proofs.NoFurther.{reads_the_same, read_at_or_after, there, elsewhere}
use Rattle.shgrammar.specs.declared.edition.Edition.{Edition}

module _ {edition : Edition} {T U : List ℕ} {a M : ℕ} {to : ℕ → ℕ} (E : ListEnds edition T U a M to 10) (o o2 : ℕ)
    (off : (p : ℕ) → a ≤ p → o2 + to p ≡ o + p) where
  -- the two texts, each with its offset
  abbrev g : Given
  g = given edition T o

  abbrev h : Given
  h = given edition U o2

  -- a line that ends just past the newline
  abbrev Closed : Read (Row AnEntry × Bool) → Type 0
  Closed (Ok ((es, newline), t)) = (newline ≡ true) × (t.at ≡ M + 1)
  Closed (Err f) = ⊥

  -- it is read in the second text too, from a good place on
  abbrev Again : Form (Row AnEntry × Bool) → State → Read (Row AnEntry × Bool) → Type 0
  Again r s y = Closed y → Good T a M s.at
      × ((l : Row Spelled) × may r h (there E o o2 off s) (elsewhere E o o2 off y) l)

  -- one form and then another, where the second is read again
  both_again : {X : Type 0} (r : Form X) (q : X → Form (Row AnEntry × Bool)) (s : State) → a ≤ s.at
      → ((x : X) (t : State) → a ≤ t.at → ((k : Row Spelled) × may r g s (Ok (x, t)) k) →
      (y : Read (Row AnEntry × Bool)) (k : Row Spelled) → may (q x) g t y k → Again (q x) t y) →
      (y : Read (Row AnEntry × Bool)) (k : Row Spelled) → Then (may r g) (λ x. may (q x) g) s y k →
      Again (both r q) s y
  both_again r q s from rest y k (and_then {x = x} {t = t} {k = k1} {l = l} one two) closed =
      let b = rest x t (omega (arith, from, read_at_or_after r g s (Ok (x, t)) k1 one)) (k1, one) y l two closed in
      let c = reads_the_same E o o2 off r s from (Ok (x, t)) k1 one b.0 in
      (c.0, (k1 ++ b.1.0, and_then c.1 b.1.1))
  both_again r q s from rest y k (or_stops one) closed = absurd closed

  -- the end of a line
  abbrev ending : Inner → Row AnEntry → Bool → Bool → Next → Form (Row AnEntry × Bool)
  ending inner es newline end n = both (line_end_by inner newline end n) (λ newline. give (es, newline))

  -- after the newline here
  abbrev past : State → State
  past s = record { at = past_byte T s.at; waiting = s.waiting; bodies = s.bodies }

  -- over a newline nothing that is looked for goes on
  ten_goes_not : (x : Option ℕ) → x ≡ Some 10 → passes goes_on x ≡ false
  ten_goes_not x is = rw is refl

  -- where a newline stands at or before the limit what is looked for ahead is found
  newline_good : (s : State) → a ≤ s.at → byte_at T s.at ≡ Some 10 → past_continuations T s.at ≡ s.at → s.at ≤ M →
      Good T a M s.at
  unfolding raw_stands raw_in
  newline_good s from newline still le =
      let here : slice_get T s.at ≡ Some 10 = ap (slice_get T) (sym still) ∙ newline in
      ⊎_elim (λ lt. halts from lt (no_backslash T s.at (byte_other (slice_get T s.at) 10 92 refl (rw here refl)))
      (ten_goes_not (slice_get T s.at) here))
      (λ ge. let is : M ≡ s.at = omega (arith, ge, le) in subst (Good T a M) is at_limit) (cases_lt s.at M)

  -- what is given after the newline, and where nothing waits at the end
  abbrev line_true : Row AnEntry → Result State Fault → Read (Row AnEntry × Bool)
  line_true es x = ◌▸◌ {Y = Row AnEntry × Bool} (◌▸◌ {Y = Bool} (nothing_read x) (λ z t. Ok (true, t)))
      (λ newline t. Ok ((es, newline), t))

  abbrev line_false : Row AnEntry → Read (Unit {0}) → Read (Row AnEntry × Bool)
  line_false es x = ◌▸◌ {Y = Row AnEntry × Bool} (◌▸◌ {Y = Bool} x (λ z t. Ok (false, t)))
      (λ newline t. Ok ((es, newline), t))

  -- a newline ends the line there too, with the bodies after it
  newline_again : (inner : Inner) (es : Row AnEntry) (end : Bool) (n : Next) (s : State) → a ≤ s.at →
      byte_at T s.at ≡ Some 10 → past_continuations T s.at ≡ s.at
      → (x : Result State Fault) → changed bodies_here g (past s) ≡ x → (y : Read (Row AnEntry × Bool)) →
      y ≡ line_true es x → Again (ending inner es true end n) s y
  newline_again inner es end n s from newline still (Ok t) is y y_is closed =
      let at_newline : t.at ≡ M + 1 = (subst Closed y_is closed).1 in
      let onward : past_byte T s.at ≤ t.at = change_low bodies_here g (past s) t is in
      let low : a ≤ past_byte T s.at = omega (arith, from, past_byte_is T s.at, still) in
      let good : Good T a M s.at =
      newline_good s from newline still (omega (arith, at_newline, onward, past_byte_is T s.at, still)) in
      let there_is : changed bodies_here h (there E o o2 off (past s)) ≡ Ok (there E o o2 off t) =
      read_to_limit E o o2 off (past s) t low at_newline refl is in
      let one = (computed_is_only (ending inner es true end n) h (there E o o2 off s)).some in
      let read : does (ending inner es true end n) Whole h (there E o o2 off s) ≡ Ok ((es, true), there E o o2 off t) =
      ap (λ (p : ℕ). line_true es (changed bodies_here h (record { at = p; waiting = s.waiting; bodies = s.bodies })))
      (same_after E good) ∙ ap (line_true es) there_is in (
        good,
        (
          one.0,
          subst (λ (z : Read (Row AnEntry × Bool)). may (ending inner es true end n) h (there E o o2 off s)
              (elsewhere E o o2 off z) one.0) (sym y_is)
              (subst (λ (z : Read (Row AnEntry × Bool)). may (ending inner es true end n) h
              (there E o o2 off s) z one.0) read one.1),
        ),
      )
  newline_again inner es end n s from newline still (Err f) is y y_is closed = absurd (subst Closed y_is closed)

  -- what ends with the text, or with a fault, is no line that a newline ended
  clash : {X : Type 0} (es : Row AnEntry) (s : State) (w : Option ℕ) (y : Read (Row AnEntry × Bool)) →
      y ≡ line_false es (does (none_waits w) Whole g s) → Closed y → X
  clash es s None y y_is closed = let no = (subst Closed y_is closed).0 in absurd cc
  clash es s (Some b) y y_is closed = absurd (subst Closed y_is closed)

  faulty : {X : Type 0} (f : _) (y : Read (Row AnEntry × Bool)) → y ≡ Err f → Closed y → X
  faulty f y y_is closed = absurd (subst Closed y_is closed)

  stopped : {X : Type 0} (x : Read (FaultKind × ℕ)) (f : Bool → State → Read (Row AnEntry × Bool))
      (y : Read (Row AnEntry × Bool)) → y ≡ ((x ▸ λ w t. Err (record { kind = w.0; at = w.1 })) ▸ f) → Closed y → X
  stopped (Ok (w, t)) f y y_is closed = faulty _ y y_is closed
  stopped (Err e) f y y_is closed = faulty _ y y_is closed

  -- the end of a line, by the token that stands there
  ending_by : (inner : Inner) (es : Row AnEntry) (newline end : Bool) (n : Next) (s : State) → a ≤ s.at →
      (newline ≡ true → (byte_at T s.at ≡ Some 10) × (past_continuations T s.at ≡ s.at))
      → (y : Read (Row AnEntry × Bool)) → y ≡ does (ending inner es newline end n) Whole g s →
      Again (ending inner es newline end n) s y
  unfolding nothing_waits
  ending_by inner es true end n s from shown y y_is closed =
      newline_again inner es end n s from (shown refl).0 (shown refl).1
      (changed bodies_here g (past s)) refl y y_is closed
  ending_by inner es false true n s from shown y y_is closed = clash es s (first_waiting s) y y_is closed
  ending_by inner es false false n s from shown y y_is closed =
      stopped (does (what_is_wrong inner n) Whole g s) _ y y_is closed

  -- the end of a line, after the entries so far
  abbrev at_end : Inner → ListSoFar → Form (Row AnEntry × Bool)
  at_end inner l = both (end_of_line inner l.next) (λ newline. give (l.list.entries, newline))

  -- it is read there too, where its token begins here
  ending_again : (inner : Inner) (l : ListSoFar) (s : State) → a ≤ s.at → Begins g l.next s →
      (y : Read (Row AnEntry × Bool)) (k : Row Spelled) → may (at_end inner l) g s y k → Again (at_end inner l) s y
  unfolding end_of_line
  ending_again inner l s from begins y k part =
      ending_by inner l.list.entries (is_newline_token l.next.token) (is_end l.next.token) l.next s from
      (λ e. newline_here g l.next s begins e) y ((computed_is_only (at_end inner l) g s).only y k part)

  -- the entries of a line, and its end
  abbrev at_entries : Inner → Bool → Next → Form (Row AnEntry × Bool)
  at_entries inner blank n = both (on_line inner (list_so_far (none_listed blank) n)) (at_end inner)

  -- what a form gives of which this holds
  held : {X : Type 0} {P : X → State → Type 0} (r : Form X) (s : State) (x : X) (t : State) (k : Row Spelled) →
      Tells Whole g r P s → may r g s (Ok (x, t)) k → P x t
  held {P = P} r s x t k told part = subst (Holds P) (sym ((computed_is_only r g s).only (Ok (x, t)) k part)) told.told

  -- a line without the bodies of its here-documents
  open_again : (inner : Inner) → InnerHandsOn g inner → (blank : Bool) (s : State) → a ≤ s.at →
      (y : Read (Row AnEntry × Bool)) (k : Row Spelled) → may (an_open_line inner blank) g s y k →
      Again (an_open_line inner blank) s y
  unfolding an_open_line
  open_again inner fine blank s from y k part =
      both_again (next_token Command) (at_entries inner blank) s from (λ n t from_t one.
      both_again (on_line inner (list_so_far (none_listed blank) n)) (at_end inner) t from_t (λ l u from_u two.
      ending_again inner l u from_u
      (held (on_line inner (list_so_far (none_listed blank) n)) t l u two.0
      (shown_on_line g inner fine (list_so_far (none_listed blank) n) t
      (held (next_token Command) s n t one.0 (shown_next g Command s) one.1)) two.1))) y k part

  -- a line, with its bodies
  abbrev filling : (Row AnEntry × Bool) × Row Span → Form (Row AnEntry × Bool)
  filling l = give (filled_row l.1 l.0.0, l.0.1)

  -- and one with them
  level_again : (inner : Inner) (blank : Bool) (s : State) →
      ((y : Read (Row AnEntry × Bool)) (k : Row Spelled) → may (an_open_line inner blank) g (own_level s) y k →
      Again (an_open_line inner blank) (own_level s) y)
      → (y : Read (Row AnEntry × Bool)) (k : Row Spelled) →
      Then (may (a_level (an_open_line inner blank)) g) (λ l. may (filling l) g) s y k →
      Again (both (a_level (an_open_line inner blank)) filling) s y
  level_again inner blank s inside y k (and_then (level_read {x = x} {t = t} {k = k1} one) just) closed =
      let w = inside (Ok (x, t)) k1 one closed in
      (w.0, (w.1.0 ++ [], and_then (level_read w.1.1) just))
  level_again inner blank s inside y k (or_stops (level_stops one)) closed = absurd closed

  -- so a line is read again, where the newline at M ends it
  pub line_again : (inner : Inner) → InnerHandsOn g inner → (blank : Bool) (s : State) → a ≤ s.at →
      (y : Read (Row AnEntry × Bool)) (k : Row Spelled) → may (a_line inner blank) g s y k →
      Again (a_line inner blank) s y
  unfolding a_line
  line_again inner fine blank s from y k part =
      level_again inner blank s (open_again inner fine blank (own_level s) from) y k part

-- ---- one line and two texts

-- a newline that stands at a place is the byte there
pub newline_at : (T : List ℕ) (p : ℕ) → raw_stands T p newline_char ≡ true → slice_get T p ≡ Some 10
unfolding raw_stands
newline_at T p e = byte_is (slice_get T p) newline_char e

-- two texts with the same bytes up to a newline at M, and with that
pub same_texts : (edition : Edition) (T U : List ℕ) (M : ℕ) → ((r : ℕ) → r < M + 1 → slice_get U r ≡ slice_get T r) →
    slice_get T M ≡ Some 10 → ListEnds edition T U 0 M (λ p. p) 10
same_texts edition T U M same byte = record {
  kept = record { under = omega arith; on = λ p k from. refl; same = λ r from lt. same r lt };
  under = omega arith;
  byte = byte;
  ender = newline_ends;
}

-- where they have the same byte, a newline stands in both
same_raw : (T U : List ℕ) (p : ℕ) → slice_get U p ≡ slice_get T p → raw_stands T p newline_char ≡ true →
    raw_stands U p newline_char ≡ true
unfolding raw_stands
same_raw T U p is e = ap (λ b. is_byte b newline_char) is ∙ e

-- U has the bytes of T up to where its line ends
ended_alone : (edition : Edition) → (T U : List ℕ) (l : ALine) → IsLine edition T l → l.ended ≡ true →
    ((r : ℕ) → r < l.next → slice_get U r ≡ slice_get T r) → IsLine edition U l
ended_alone edition T U l (line_read es newline t k part) ended same =
    let both = and_parts _ _ ended in
    let M = t.at - 1 in
    let inner = level most_open in
    let some : 0 < t.at = subst (Holds (λ (x : Row AnEntry × Bool) (u : State). x.1 ≡ true → 0 < u.at))
    (sym ((computed_is_only (a_line inner false) (given edition T 0) (standing 0)).only _ _ part))
    (line_ended_low inner false Whole (given edition T 0) (standing 0)).told both.0 in
    let E = same_texts edition T U M (λ r lt. same r (omega (arith, lt, some))) (newline_at T M both.1) in
    let again = line_again E 0 0 (λ p from. refl) inner (shown_level (given edition T 0) most_open) false (standing 0)
    (omega arith) (Ok ((es, newline), t)) k part (both.0, omega (arith, some)) in
    let there_too : raw_stands U M newline_char ≡ true = same_raw T U M (same M (omega (arith, some))) both.1 in
    subst (λ (c : Bool). IsLine edition U (record { kind = kind_of es newline; next = t.at; ended = newline && c }))
    (there_too ∙ sym both.1) (line_read es newline t again.1.0 again.1.1)
ended_alone edition T U l (line_stops f k part) ended same = absurd cc

-- a byte among the first n is the same without the rest, and in a text with the same first n
pub get_take : (n : ℕ) (B : List ℕ) (r : ℕ) → r < n → slice_get (take n B) r ≡ slice_get B r
get_take zero B r lt = absurd (omega arith)
get_take (suc n) [] r lt = refl
get_take (suc n) (b ∷ B) zero lt = refl
get_take (suc n) (b ∷ B) (suc r) lt = get_take n B r (omega arith)

pub same_front : (n : ℕ) (T U : List ℕ) → take n U ≡ take n T → (r : ℕ) → r < n → slice_get U r ≡ slice_get T r
same_front n T U is r lt = sym (get_take n U r lt) ∙ ap (λ B. slice_get B r) is ∙ get_take n T r lt

-- a line that ended looks at nothing after it
pub no_further : (edition : Edition) → (T : List ℕ) (l : ALine) → IsLine edition T l → l.ended ≡ true →
    NoFurther edition T l
no_further edition T l is ended other q same =
    ended_alone edition T (drop q other) l is ended (same_front l.next T (drop q other) same)

-- the same bytes have the same line, wherever they stand
pub same_bytes : (edition : Edition) → (T : List ℕ) (l : ALine) → IsLine edition T l → SameBytes edition T l
same_bytes edition T l is other q same = subst (λ U. IsLine edition U l) (sym same) is
