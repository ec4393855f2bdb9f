-- What a form reads up to a good place it reads in another text that has the bytes up to
-- there: the laws of forms, for what is of the same shape.
use Rattle.std.proofs.Common.{◌≡◌, ℕ, zero, suc, ◌+◌, ◌-◌, ◌≤◌, ◌<◌, Bool, true, false, Ok, Err, Option, Some, None, Result, List, List as Row, [], ◌∷◌, ◌++◌, length, map, drop, refl, sym, ap, subst, ◌∙◌, arith}
use Rattle.std.proofs.lemmas.Bool.{ltb-true}
use Rattle.std.proofs.lemmas.List.{map-append}
use Rattle.shgrammar.specs.declared.keep.Keep.TheVariants.{Whole}
use Rattle.shgrammar.specs.declared.fault.Fault.{Fault}
use Rattle.shgrammar.specs.declared.fault.FaultKind.{FaultKind}
use Rattle.shast.specs.declared.tree.Span.{Span}
use Rattle.shast.specs.Shape.{text_at}
use Rattle.shgrammar.specs.Comments.{span}
use Rattle.shgrammar.specs.Sights.{Given, given, State, Waiting, Sight, seen, Move}
use Rattle.shgrammar.specs.HereDocuments.{Change, waits, bodies_here, changed, past_line, delimiter_from, body_by, bodies_from, state_by, with_waiting, own_level}
use Rattle.shgrammar.specs.Form.{change, with_bytes, a_level, nothing_read, raw, Spelled, Telling, Read, ◌▸◌, Form, give, see, move, push, stop, both, when, token, loop, many, ends_as, Step, again, done, leads_on, turns, does, in_substitution}
use Rattle.shgrammar.specs.Commands.{pick}
use Rattle.shgrammar.proofs.Turns.{turns_on, turns_rest, turns_done, turns_fault}
use Rattle.shgrammar.proofs.Holds.{Holds, Tells, Turned, tells_so, tells_then, tells_when, tells_token, tells_loop, tells_ending, tells_change, tells_with_bytes, tells_level, change_low, AtOrAfter, no_form_goes_back, move_low, tells_inside}
use Rattle.shgrammar.proofs.Alike.{SameStep}
use Rattle.shgrammar.proofs.Ahead.{ListEnds}
use Rattle.shgrammar.proofs.Asked.{Good, to_apart, good_high, moves, same_raw}
use Rattle.shgrammar.proofs.EndsByLimit.{same_leads}
use Rattle.shgrammar.proofs.Places.{next_newline_low}
use Rattle.shgrammar.proofs.Delimiters.{delimiter_between, bodies_low}
use Rattle.shgrammar.proofs.Shifted.{shifted, from_to, state_from}
use Rattle.shgrammar.proofs.BodiesThere.{move_span, move_waiting, moved_to, bodies_over, waits_over, change_good}
use Rattle.shgrammar.proofs.Spelling.{raw_at}
use Rattle.shgrammar.specs.declared.edition.Edition.{Edition}

module _ {edition : Edition} {T U : List ℕ} {a M : ℕ} {to : ℕ → ℕ} {limit : ℕ} (E : ListEnds edition T U a M to limit)
    (o o2 : ℕ) (B B2 : List ℕ) (stands : T ≡ drop o B) (stands_there : U ≡ drop o2 B2) where
  -- good places, and what is given of the two texts
  abbrev G : ℕ → Type 0
  G p = Good T a M p

  abbrev g : Given
  g = given edition T o

  abbrev h : Given
  h = given edition U o2

  -- the state, elsewhere
  abbrev pub over : State → State
  over s = moved_to E o o2 s

  -- the bytes of a span
  pub same_texts : (p q : ℕ) → a ≤ p → a ≤ q → q ≤ M → text_at B (span o p q) ≡ text_at B2 (span o2 (to p) (to q))
  same_texts p q low from le = sym (raw_at B g stands p q) ∙ sym (same_raw E p q low from le)
      ∙ raw_at B2 h stands_there (to p) (to q)

  -- the texts of the bodies are the same
  abbrev pub SameBodies : Row Span → Type 0
  SameBodies bs = map (text_at B) bs ≡ map (text_at B2) (map (move_span E o o2) bs)

  -- ---- what ends at a good place began at one

  -- the end is at a or past it; if it is good the start is, and bodies of the same texts stay such
  abbrev pub Back : {X : Type 0} → State → X → State → Type 0
  Back s x t = (a ≤ t.at) × (G t.at → G s.at) × (G t.at → SameBodies s.bodies → SameBodies t.bodies)

  -- the span of two places, in the other text
  span_there : (p q : ℕ) → a ≤ p → p ≤ q → move_span E o o2 (span o p q) ≡ span o2 (to p) (to q)
  span_there p q from le =
      let one : to p ≡ to a + (p - a) = to_apart E a p (omega arith) from in
      let two : to q ≡ to a + (q - a) = to_apart E a q (omega arith) (omega (arith, from, le)) in
      let first : shifted (o + a) (o2 + to a) (o + p) ≡ o2 + to p = omega (arith, one, from) in
      let last : shifted (o + a) (o2 + to a) (o + q) ≡ o2 + to q = omega (arith, two, from, le) in
      ap (λ (x : ℕ). from_to x (shifted (o + a) (o2 + to a) (o + q))) first ∙ ap (λ (x : ℕ). from_to (o2 + to p) x) last

  -- one more body
  more_same : (bs : Row Span) (p q : ℕ) → a ≤ p → p ≤ q → q ≤ M → SameBodies bs → SameBodies (bs ++ span o p q ∷ [])
  more_same bs p q from le high_q same =
      let text : text_at B (span o p q) ≡ text_at B2 (move_span E o o2 (span o p q)) =
      same_texts p q from (omega (arith, from, le)) high_q ∙ ap (text_at B2) (sym (span_there p q from le)) in
      map-append (text_at B) bs (span o p q ∷ []) ∙ ap (λ l. l ++ text_at B (span o p q) ∷ []) same
      ∙ ap (λ z. map (text_at B2) (map (move_span E o o2) bs) ++ z ∷ []) text
      ∙ sym (ap (map (text_at B2)) (map-append (move_span E o o2) bs (span o p q ∷ []))
      ∙ map-append (text_at B2) (map (move_span E o o2) bs) (move_span E o o2 (span o p q) ∷ []))

  -- by where the line of a document's delimiter begins
  one_same : (w : Waiting) (ws : Row Waiting) (bodies : Row Span) (p : ℕ) (x : Row Span × ℕ) → a ≤ p → x.1 ≤ M →
      ((bs : Row Span) (q : ℕ) → a ≤ q → bodies_from g ws bs q ≡ Ok x → SameBodies bs → SameBodies x.0)
      → (d : Option ℕ) → delimiter_from T w p ≡ d → body_by (bodies_from g ws) g w bodies p d ≡ Ok x → SameBodies bodies
      → SameBodies x.0
  one_same w ws bodies p x from high_x more None found read same = absurd cc
  one_same w ws bodies p x from high_x more (Some q) found read same =
      let one = delimiter_between T w false p q found in
      let onward = bodies_low g ws (bodies ++ span o p q ∷ []) (past_line T q) x read in
      let le : q ≤ past_line T q = omega (arith, one.1, next_newline_low T q) in
      more (bodies ++ span o p q ∷ []) (past_line T q) (omega (arith, from, one.0, le)) read
      (more_same bodies p q from one.0 (omega (arith, le, onward, high_x)) same)

  -- so after all bodies that are read, and after each change
  bodies_same : (ws : Row Waiting) (bodies : Row Span) (p : ℕ) (x : Row Span × ℕ) → a ≤ p → x.1 ≤ M →
      bodies_from g ws bodies p ≡ Ok x → SameBodies bodies → SameBodies x.0
  unfolding bodies_from
  bodies_same [] bodies p x from high_x read same = let is : (bodies, p) ≡ x = cc in
      subst (λ (y : Row Span × ℕ). SameBodies y.0) is same
  bodies_same (w ∷ ws) bodies p x from high_x read same =
      one_same w ws bodies p x from high_x (λ bs q low more all. bodies_same ws bs q x low high_x more all)
      (delimiter_from T w p) refl read same

  state_same : (s t : State) → a ≤ s.at → t.at ≤ M → (x : Result (Row Span × ℕ) Fault) →
      bodies_from g s.waiting s.bodies s.at ≡ x → state_by x ≡ Ok t → SameBodies s.bodies → SameBodies t.bodies
  state_same s t from high_t (Ok x) read is same =
      let there : record { at = x.1; waiting = []; bodies = x.0 } ≡ t = cc in
      let at : x.1 ≡ t.at = ap (λ (v : State). v.at) there in
      subst (λ (v : State). SameBodies v.bodies) there
      (bodies_same s.waiting s.bodies s.at x from (omega (arith, at, high_t)) read same)
  state_same s t from high_t (Err f) read is same = absurd cc

  change_same : (c : Change) (s t : State) → a ≤ s.at → changed c g s ≡ Ok t → t.at ≤ M → SameBodies s.bodies →
      SameBodies t.bodies
  change_same (waits w) s t from is high_t same = let there : with_waiting w s ≡ t = cc in
      subst (λ (v : State). SameBodies v.bodies) there same
  change_same bodies_here s t from is high_t same =
      state_same s t from high_t (bodies_from g s.waiting s.bodies s.at) refl is same

  -- all this holds of each form
  pub each_form_back : {X : Type 0} (r : Form X) (s : State) → a ≤ s.at → Tells Whole g r (Back s) s
  each_form_back (give x) s from = record { told = (from, λ e. e, λ e same. same) }
  each_form_back (see l) s from = record { told = (from, λ e. e, λ e same. same) }
  each_form_back (move m) s from = record {
    told =
        (omega (arith, from, move_low m T s.at), λ e. (moves E m s.at from e).0, λ e same. same);
  }
  each_form_back (push xs x) s from = record { told = (from, λ e. e, λ e same. same) }
  each_form_back (stop kind at) s from = record { told = tt }
  each_form_back (both r q) s from = tells_then Whole g (each_form_back r s from)
      (λ x t one. tells_so Whole g (each_form_back (q x) t one.0)
      (λ y u two. (two.0, λ e. one.1 (two.1 e), λ e same. two.2 e (one.2 (two.1 e) same))))
  each_form_back (when l r q) s from = tells_when Whole g (each_form_back r s from) (each_form_back q s from)
  each_form_back (token how r) s from = tells_token Whole g (each_form_back r s from) (λ x t one. one)
  each_form_back {X = X} (loop turn b) s from =
      tells_loop Whole g turn (Back s)
      (λ c t one. tells_so Whole g (each_form_back (turn c) t one.0) (turned t one)) b s
      (from, λ e. e, λ e same. same)
    where
      turned : (t : State) → (a ≤ t.at) × (G t.at → G s.at) × (G t.at → SameBodies s.bodies → SameBodies t.bodies) →
          (c : Step X) (u : State)
          → (a ≤ u.at) × (G u.at → G t.at) × (G u.at → SameBodies t.bodies → SameBodies u.bodies) →
          Turned Whole g (Back s) c u
      turned t one (again c) u two = (two.0, λ e. one.1 (two.1 e), λ e same. two.2 e (one.2 (two.1 e) same))
      turned t one (done c) u two = (two.0, λ e. one.1 (two.1 e), λ e same. two.2 e (one.2 (two.1 e) same))
  each_form_back (ends_as kind at r) s from = tells_ending Whole g (each_form_back r s from)
  each_form_back (change c) s from = tells_change Whole g
      (λ t is. (
        omega (arith, from, change_low c g s t is),
        λ e. change_good E o c s t from is e,
        λ e same. change_same c s t from is (good_high E e) same,
      ))
  each_form_back (with_bytes r) s from = tells_with_bytes Whole g (each_form_back r s from) (λ x t one. one)
  each_form_back (a_level r) s from =
      tells_level Whole g (each_form_back r (own_level s) from) (λ x t one. (one.0, one.1, λ e same. same))
  each_form_back (in_substitution r) s from = tells_inside Whole g (each_form_back r s from)

  -- ---- what is read there

  -- where the first text is read up to a good place, q reads in the second something
  -- of which S holds, and up to the same place
  abbrev pub Found : {X Y : Type 0} → (X → Y → Type 0) → Form Y → State → X → State → Type 0
  Found {Y = Y} S q s x t = G t.at → (y : Y) × ((does q Whole h (over s) ≡ Ok (y, over t)) × S x y)

  -- so it is from each state at a or past it
  pub record Goes {X Y : Type 0} (S : X → Y → Type 0) (r : Form X) (q : Form Y) : Type 0 where
    pub go : (s : State) → a ≤ s.at → Holds (Found S q s) (does r Whole g s)

  -- whatever was read
  abbrev pub All : {X Y : Type 0} → X → Y → Type 0
  All x y = Unit {0}

  -- what is given, one more element, and a fault
  pub go_give : {X Y : Type 0} {S : X → Y → Type 0} {x : X} {y : Y} → S x y → Goes S (give x) (give y)
  go_give {y = y} so = record { go = λ s from. λ e. (y, (refl, so)) }

  pub go_push : {A C : Type 0} {S : Row A → Row C → Type 0} {xs : Row A} {x : A} {ys : Row C} {y : C} →
      S (xs ++ x ∷ []) (ys ++ y ∷ []) → Goes S (push xs x) (push ys y)
  go_push {ys = ys} {y = y} so = record { go = λ s from. λ e. (ys ++ y ∷ [], (refl, so)) }

  pub go_stop : {X Y : Type 0} {S : X → Y → Type 0} {kind : FaultKind} {at : ℕ} {q : Form Y} → Goes S (stop kind at) q
  go_stop = record { go = λ s from. tt }

  -- what is the same in both texts
  pub go_see : {X : Type 0} {l : Sight X} → ((s : State) → a ≤ s.at → G s.at → seen l h (over s) ≡ seen l g s) →
      Goes (λ x y. x ≡ y) (see l) (see l)
  go_see {l = l} same = record { go = λ s from. λ e. (seen l h (over s), (refl, sym (same s from e))) }

  -- what may differ
  pub go_any : {X : Type 0} {l : Sight X} → Goes All (see l) (see l)
  go_any {l = l} = record { go = λ s from. λ e. (seen l h (over s), (refl, tt)) }

  -- a move
  pub go_move : {m : Move} → Goes All (move m) (move m)
  go_move {m = m} = record {
    go =
        λ s from. λ e. (
          tt,
          (
            ap (λ (p : ℕ). Ok (tt, state_from (o + a) (o2 + to a) p s)) (moves E m s.at from e).1,
            tt,
          ),
        );
  }

  -- the bodies that follow a newline
  pub go_bodies : Goes All (change bodies_here) (change bodies_here)
  go_bodies = record { go = λ s from. bodies_by s from (changed bodies_here g s) refl }
    where
      bodies_by : (s : State) → a ≤ s.at → (x : Result State Fault) → changed bodies_here g s ≡ x →
          Holds (Found All (change bodies_here) s) (nothing_read x)
      bodies_by s from (Ok t) is = λ e. (tt, (ap nothing_read (bodies_over E o o2 s t from e is), tt))
      bodies_by s from (Err f) is = tt

  -- one more document waits
  pub go_waits : {w : Waiting} → Goes All (change (waits w)) (change (waits (move_waiting E o o2 w)))
  go_waits {w = w} = record {
    go =
        λ s from. λ e. (tt, (ap nothing_read (waits_over E o o2 w s (with_waiting w s) refl), tt));
  }

  module _ {X Y V W : Type 0} {S : X → Y → Type 0} {R : V → W → Type 0} {r : Form X} {q : Form Y} {f : X → Form V}
      {k : Y → Form W} (first : Goes S r q) (rest : (x : X) (y : Y) → S x y → Goes R (f x) (k y))
      (s : State) (from : a ≤ s.at) where
    -- by what the first form gives, and what the second does
    then_last : (x : X) (t : State) → a ≤ t.at →
        (G t.at → (y : Y) × ((does q Whole h (over s) ≡ Ok (y, over t)) × S x y)) → (z : Read V) →
        does (f x) Whole g t ≡ z → Holds (Back t) z
        → Holds (Found R (both q k) s) z
    then_last x t low one (Ok (v, u)) is back =
        λ e. let w = one (back.1 e) in
        let m = subst (Holds (Found R (k w.0) t)) is ((rest x w.0 w.1.1).go t low) e in
        (m.0, (subst (λ (z : Read Y). (z ▸ λ y t. does (k y) Whole h t) ≡ Ok (m.0, over u)) (sym w.1.0) m.1.0, m.1.1))
    then_last x t low one (Err e) is back = tt

    then_by : (x : Read X) → Holds (Back s) x → Holds (Found S q s) x →
        Holds (Found R (both q k) s) (x ▸ λ b t. does (f b) Whole g t)
    then_by (Ok (x, t)) back one =
        then_last x t back.0 one (does (f x) Whole g t) refl (each_form_back (f x) t back.0).told
    then_by (Err e) back one = tt

  -- one form and then another
  pub go_then : {X Y V W : Type 0} {S : X → Y → Type 0} {R : V → W → Type 0} {r : Form X} {q : Form Y} {f : X → Form V}
      {k : Y → Form W} → Goes S r q → ((x : X) (y : Y) → S x y → Goes R (f x) (k y))
      → Goes R (both r f) (both q k)
  go_then {r = r} first rest = record {
    go =
        λ s from. then_by first rest s from (does r Whole g s) (each_form_back r s from).told (first.go s from);
  }

  -- what follows
  pub go_so : {X Y : Type 0} {S R : X → Y → Type 0} {r : Form X} {q : Form Y} → Goes S r q →
      ((x : X) (y : Y) → S x y → R x y) → Goes R r q
  go_so {S = S} {R = R} {r = r} {q = q} one so = record { go = λ s from. so_by s (does r Whole g s) (one.go s from) }
    where
      so_by : (s : State) (x : Read _) → Holds (Found S q s) x → Holds (Found R q s) x
      so_by s (Ok (x, t)) one = λ e. let w = one e in (w.0, (w.1.0, so x w.0 w.1.1))
      so_by s (Err f) one = tt

  -- what ends in a fault
  pub go_stopped : {X Y Z : Type 0} {S : X → Y → Type 0} {r : Form Z} {kind : Z → FaultKind} {at : Z → ℕ} {q : Form Y} →
      Goes S (both r (λ z. stop (kind z) (at z))) q
  go_stopped {X = X} {Z = Z} {r = r} {kind = kind} {at = at} = record { go = λ s from. stopped_by _ (does r Whole g s) }
    where
      stopped_by : (P : X → State → Type 0) (z : Read Z) →
          Holds P (z ▸ λ w t. Err (record { kind = kind w; at = at w }))
      stopped_by P (Ok (w, t)) = tt
      stopped_by P (Err f) = tt

  -- one form, or the other
  pub go_pick : {X Y : Type 0} {S : X → Y → Type 0} {r u : Form X} {q v : Form Y} (b c : Bool) → b ≡ c → Goes S r q →
      Goes S u v → Goes S (pick b r u) (pick c q v)
  go_pick true true is one two = one
  go_pick true false is one two = absurd cc
  go_pick false true is one two = absurd cc
  go_pick false false is one two = two

  -- after the same
  pub go_at : {Z X Y : Type 0} {S : X → Y → Type 0} (r : Z → Form X) (q : Z → Form Y) → ((n : Z) → Goes S (r n) (q n)) →
      (n m : Z) → n ≡ m → Goes S (r n) (q m)
  go_at {S = S} r q each n m same = subst (λ z. Goes S (r n) (q z)) same (each n)

  -- a token, and its bytes
  abbrev pub WithText : {X Y : Type 0} → (X → Y → Type 0) → X × Span → Y × Span → Type 0
  WithText S x y = S x.0 y.0 × (text_at B x.1 ≡ text_at B2 y.1)

  token_by : {X Y : Type 0} (S : X → Y → Type 0) (how : Telling) (q : Form Y) (s : State) → a ≤ s.at → (x : Read X) →
      Holds (Back s) x → Holds (Found S q s) x
      → Holds (Found (WithText S) (token how q) s) (x ▸ λ b t. Ok ((b, span o s.at t.at), t))
  token_by {Y = Y} S how q s from (Ok (x, t)) back one =
      λ e. let w = one e in
      let there : Y × Span = (w.0, span o2 (to s.at) (to t.at)) in (
        there,
        (
          ap (λ (v : Read Y). ◌▸◌ {Y = Y × Span} v (λ b u. Ok ((b, span o2 (to s.at) u.at), u))) w.1.0,
          (w.1.1, same_texts s.at t.at from back.0 (good_high E e)),
        ),
      )
  token_by S how q s from (Err f) back one = tt

  pub go_token : {X Y : Type 0} {S : X → Y → Type 0} {how : Telling} {r : Form X} {q : Form Y} → Goes S r q →
      Goes (WithText S) (token how r) (token how q)
  go_token {S = S} {how = how} {r = r} {q = q} one =
      record {
        go = λ s from. token_by S how q s from (does r Whole g s) (each_form_back r s from).told
            (one.go s from);
      }

  -- a token, where it stands
  abbrev pub WithSpan : {X Y : Type 0} → (X → Y → Type 0) → X × Span → Y × Span → Type 0
  WithSpan S x y = S x.0 y.0 × (move_span E o o2 x.1 ≡ y.1)

  place_by : {X Y : Type 0} (S : X → Y → Type 0) (how : Telling) (q : Form Y) (s : State) → a ≤ s.at → (x : Read X) →
      Holds (AtOrAfter s) x → Holds (Found S q s) x
      → Holds (Found (WithSpan S) (token how q) s) (x ▸ λ b t. Ok ((b, span o s.at t.at), t))
  place_by {Y = Y} S how q s from (Ok (x, t)) onward one =
      λ e. let w = one e in
      let there : Y × Span = (w.0, span o2 (to s.at) (to t.at)) in (
        there,
        (
          ap (λ (v : Read Y). ◌▸◌ {Y = Y × Span} v (λ b u. Ok ((b, span o2 (to s.at) u.at), u))) w.1.0,
          (w.1.1, span_there s.at t.at from onward),
        ),
      )
  place_by S how q s from (Err f) onward one = tt

  pub go_place : {X Y : Type 0} {S : X → Y → Type 0} {how : Telling} {r : Form X} {q : Form Y} → Goes S r q →
      Goes (WithSpan S) (token how r) (token how q)
  go_place {S = S} {how = how} {r = r} {q = q} one =
      record {
        go = λ s from. place_by S how q s from (does r Whole g s) (no_form_goes_back r Whole g s).told (one.go s from);
      }

  -- what is read, with the same bytes
  abbrev pub WithBytes : {X Y : Type 0} → (X → Y → Type 0) → X × Spelled → Y × Spelled → Type 0
  WithBytes S x y = S x.0 y.0 × (x.1 ≡ y.1)

  bytes_by : {X Y : Type 0} (S : X → Y → Type 0) (q : Form Y) (s : State) → a ≤ s.at → (x : Read X) → Holds (Back s) x →
      Holds (Found S q s) x
      → Holds (Found (WithBytes S) (with_bytes q) s) (x ▸ λ b t. Ok ((b, raw T s.at t.at), t))
  bytes_by {Y = Y} S q s from (Ok (x, t)) back one =
      λ e. let w = one e in
      let there : Y × Spelled = (w.0, raw U (to s.at) (to t.at)) in (
        there,
        (
          ap (λ (v : Read Y). ◌▸◌ {Y = Y × Spelled} v (λ b u. Ok ((b, raw U (to s.at) u.at), u))) w.1.0,
          (w.1.1, sym (same_raw E s.at t.at from back.0 (good_high E e))),
        ),
      )
  bytes_by S q s from (Err f) back one = tt

  pub go_with_bytes : {X Y : Type 0} {S : X → Y → Type 0} {r : Form X} {q : Form Y} → Goes S r q →
      Goes (WithBytes S) (with_bytes r) (with_bytes q)
  go_with_bytes {S = S} {r = r} {q = q} one =
      record { go = λ s from. bytes_by S q s from (does r Whole g s) (each_form_back r s from).told (one.go s from) }

  -- ---- repetitions

  module _ {A C : Type 0} (S : A → C → Type 0) (turn : A → Form (Step A)) (turn2 : C → Form (Step C))
      (each : (x : A) (y : C) → S x y → Goes (SameStep S) (turn x) (turn2 y)) where
    -- a turn in each text
    abbrev one : A → State → Read (Step A)
    one x s = does (turn x) Whole g s

    abbrev two : C → State → Read (Step C)
    two y s = does (turn2 y) Whole h s

    -- what the turns give up to a good place, the others give there, and S holds of the two
    abbrev Looped : C → State → A → State → Type 0
    Looped y s v u = G u.at → (z : C) × ((turns h two y (over s) ≡ Ok (z, over u)) × S v z)

    module _ (y : C) (s t : State) (b : A) where
      -- by what the turn gives there: the last, one that does not lead on, or one before others
      last_there : (z : Step C) → two y (over s) ≡ Ok (z, over t) → SameStep S (done b) z → (c : C)
          × ((turns h two y (over s) ≡ Ok (c, over t)) × S b c)
      last_there (again c) is so = absurd so
      last_there (done c) is so = (c, (turns_done h two y c (over s) (over t) is, so))

      rest_there : leads_on h (over s) (over t) ≡ false → (z : Step C) → two y (over s) ≡ Ok (z, over t) →
          SameStep S (again b) z → (c : C) × ((turns h two y (over s) ≡ Ok (c, over t)) × S b c)
      rest_there off (again c) is so = (c, (turns_rest h two y c (over s) (over t) is off, so))
      rest_there off (done c) is so = absurd so

      more_there : (v : A) (u : State) → leads_on h (over s) (over t) ≡ true → (z : Step C) →
          two y (over s) ≡ Ok (z, over t) → SameStep S (again b) z
          → ((c : C) → S b c → (w : C) × ((turns h two c (over t) ≡ Ok (w, over u)) × S v w)) → (w : C)
          × ((turns h two y (over s) ≡ Ok (w, over u)) × S v w)
      more_there v u on (again c) is so rest = let r = rest c so in
          (r.0, (turns_on h two y c (over s) (over t) is on ∙ r.1.0, r.1.1))
      more_there v u on (done c) is so rest = absurd so

    module _ (x : A) (y : C) (s : State) (from : a ≤ s.at) where
      -- a turn that leads on with those after it, and any turn
      more_by : (b : A) (t : State) → s.at ≤ t.at → leads_on g s t ≡ true →
          Holds (Found (SameStep S) (turn2 y) s) (Ok (again b, t)) →
          ((c : C) → S b c → Holds (Looped c t) (turns g one b t))
          → (z : Read A) → turns g one b t ≡ z → Holds (Back t) z → Holds (Looped y s) z
      more_by b t onward on found rest (Ok (v, u)) is back =
          λ e. let here = back.1 e in
          let w = found here in
          more_there y s t b v u (same_leads E.kept o o2 s t from onward (omega (arith, good_high E here)) ∙ on) w.0
          w.1.0
          w.1.1 (λ c so. subst (Holds (Looped c t)) is (rest c so) e)
      more_by b t onward on found rest (Err f) is back = tt

      turn_by : (z : Read (Step A)) → one x s ≡ z → Holds (Back s) z → Holds (AtOrAfter s) z →
          Holds (Found (SameStep S) (turn2 y) s) z
          → ((b : A) (c : C) (t : State) → a ≤ t.at → length T - t.at < length T - s.at → S b c →
          Holds (Looped c t) (turns g one b t)) → Holds (Looped y s) (turns g one x s)
      turn_by (Err f) is back onward found rest = rw (turns_fault g one x s f is) tt
      turn_by (Ok (done b, t)) is back onward found rest =
          rw (turns_done g one x b s t is) (λ e. let w = found e in last_there y s t b w.0 w.1.0 w.1.1)
      turn_by (Ok (again b, t)) is back onward found rest = led (leads_on g s t) refl
        where
          led : (on : Bool) → leads_on g s t ≡ on → Holds (Looped y s) (turns g one x s)
          led true on =
              rw (turns_on g one x b s t is on)
              (more_by b t onward on found (λ c so. rest b c t back.0 (ltb-true _ _ on) so) (turns g one b t) refl
              (each_form_back (loop turn b) t back.0).told)
          led false on =
              rw (turns_rest g one x b s t is on)
              (λ e. let w = found e in rest_there y s t b
              (same_leads E.kept o o2 s t from onward (omega (arith, good_high E e)) ∙ on) w.0 w.1.0 w.1.1)

    -- by how many bytes are left
    all_turns : (n : ℕ) (x : A) (y : C) (s : State) → length T - s.at < n → a ≤ s.at → S x y →
        Holds (Looped y s) (turns g one x s)
    all_turns zero x y s few from so = absurd (omega (arith, few))
    all_turns (suc n) x y s few from so =
        turn_by x y s from (one x s) refl (each_form_back (turn x) s from).told
        (no_form_goes_back (turn x) Whole g s).told
        ((each x y so).go s from) (λ b c t on less same. all_turns n b c t (omega (arith, less, few)) on same)

    -- a repetition
    pub go_many : (x : A) (y : C) → S x y → Goes S (many turn x) (many turn2 y)
    unfolding many
    go_many x y so = record { go = λ s from. all_turns (suc (length T - s.at)) x y s (omega arith) from so }
