-- How code mends a row of held lines, step by step: where the window begins, and the reading of the window.
use Rattle.std.proofs.Common.{◌≡◌, ℕ, ◌+◌, ◌-◌, ◌<◌, ◌≤◌, true, false, List, [], ◌∷◌, ◌++◌, List as Row, length, drop, sym, ap, subst, ◌∙◌, ⊎_elim, arith, append_assoc}
use Rattle.std.proofs.lemmas.Bool.{cases_lt, cases_order}
use Rattle.std.proofs.lemmas.List.{drop-drop, length-drop}
use Rattle.shwindow.specs.declared.line.HeldLine.{HeldLine}
use Rattle.shwindow.specs.Lines.{Reads, extent, IsRow, last_line, more_lines, IsBoundary, at_start, at_end_of}
use Rattle.shwindow.specs.Hand.{Passes, none_passed, one_passed}
use Rattle.shwindow.specs.Window.{Apart, Begins, IsShared, Ends, meets, never}
use Rattle.shwindow.proofs.Boundaries.{gap, boundary_stays, boundary_within}
use Rattle.shwindow.proofs.Rows.{extent_push, row_at, row_head, row_some}

-- lines begin at o or after it, if there are any
abbrev pub Past : {K : Type 0} → ℕ → ℕ → Row (HeldLine K) → Type 0
Past o p hs = (hs ≡ [] → ⊥) → o ≤ p

-- q is not shared: it is before e, or no old line begins at its old place
abbrev pub NotMet : {K : Type 0} (e b : ℕ) → ℕ → ℕ → Row (HeldLine K) → Type 0
NotMet e b q p hs = e ≤ q → (p ≡ b + (q - e)) → hs ≡ []

module _ {K : Type 0} (Is : List ℕ → HeldLine K → Type 0) (B : List ℕ) where
  -- the lines hs from p on are all those of the old text that begin at or past o
  pub data Holds (o : ℕ) : ℕ → Row (HeldLine K) → Type 0 where
    in_hand : {p : ℕ} {hs : Row (HeldLine K)} → IsBoundary Is B p → IsRow Is (drop p B) hs →
        ((s : ℕ) → IsBoundary Is B s → o ≤ s → p ≤ s) → Holds o p hs
    empty_hand : {p : ℕ} → ((s : ℕ) → IsBoundary Is B s → s < o) → Holds o p []

module _ {K : Type 0} (Is : List ℕ → HeldLine K → Type 0) (B U : List ℕ) (a e b : ℕ) where
  -- Read are the lines of U from w up to q; hs are the old lines from p on, all that begin at or
  -- past the old place of q. No boundary before q is shared.
  pub record Going (w : ℕ) (read : Row (HeldLine K)) (q p : ℕ) (hs : Row (HeldLine K)) : Type 0 where
    pub boundary : IsBoundary Is U q
    pub low : w ≤ a
    pub sum : w + extent read ≡ q
    pub leads : (ms : Row (HeldLine K)) → IsRow Is (drop q U) ms → IsRow Is (drop w U) (read ++ ms)
    pub none : (s : ℕ) → IsShared Is B U e b s → q ≤ s
    pub hand : Holds Is B (b + (q - e)) p hs

module _ {K : Type 0} (Is : List ℕ → HeldLine K → Type 0) (laws : Reads Is) (B : List ℕ) where
  -- ---- where the window begins

  -- after lines that end at or before a, at a line that did not end or ends past a
  pub begins_here : (a : ℕ) (kept : Row (HeldLine K)) (h : HeldLine K) (hs : Row (HeldLine K)) →
      IsRow Is B (kept ++ h ∷ hs) → extent kept ≤ a → (h.ended ≡ true → a < extent kept + h.len)
      → Begins Is B a (extent kept)
  begins_here a kept h hs row low past =
      let at = row_at Is laws B 0 kept h hs at_start row in
      let same : 0 + extent kept ≡ extent kept = omega arith in
      let here = subst (λ x. IsBoundary Is B x × IsRow Is (drop x B) (h ∷ hs)) same at in
      let is = row_head Is (drop (extent kept) B) h hs here.1 in
      record {
        boundary = here.0;
        low = low;
        greatest = λ s at_s high. ⊎_elim (λ (lt : extent kept < s).
            let g = gap Is laws B (extent kept) s h here.0 at_s lt is in
            let beyond = past g.0 in
            absurd (omega (arith, g.1, beyond))) (λ (le : s ≤ extent kept). le) (cases_lt (extent kept) s);
      }

  -- ---- the old lines in hand

  -- they are all of those for a later offset too
  holds_less : (o u p : ℕ) (hs : Row (HeldLine K)) → o ≤ u → Holds Is B o p hs → Holds Is B u p hs
  holds_less o u p hs low (in_hand at row least) = in_hand at row (λ s at_s more. least s at_s (omega arith))
  holds_less o u p _ low (empty_hand none) = empty_hand (λ s at_s. let less = none s at_s in omega arith)

  -- the first line may go, if it begins before o
  next_holds : (o p : ℕ) (h : HeldLine K) (hs : Row (HeldLine K)) → p < o → IsBoundary Is B p →
      IsRow Is (drop p B) (h ∷ hs)
      → ((s : ℕ) → IsBoundary Is B s → o ≤ s → p ≤ s) → Holds Is B o (p + h.len) hs
  next_holds o p h _ lt at (last_line is e whole) least = empty_hand (λ s at_s.
      ⊎_elim (λ (less : s < o). less)
      (λ (more : o ≤ s). let ended = (gap Is laws B p s h at at_s (omega arith) is).0 in absurd cc) (cases_lt s o))
  next_holds o p h hs lt at (more_lines is e row) least =
      in_hand (at_end_of at is e) (subst (λ T. IsRow Is T hs) (drop-drop h.len p B) row)
      (λ s at_s more. (gap Is laws B p s h at at_s (omega arith) is).1)

  -- so the others stay in hand
  rest_holds : (o p : ℕ) (h : HeldLine K) (hs : Row (HeldLine K)) → p < o → Holds Is B o p (h ∷ hs) →
      Holds Is B o (p + h.len) hs
  rest_holds o p h hs lt (in_hand at row least) = next_holds o p h hs lt at row least

  -- where the first one begins at o, that is a boundary with these lines after it
  found_at : (o p : ℕ) (h : HeldLine K) (hs : Row (HeldLine K)) → Holds Is B o p (h ∷ hs) → p ≡ o → IsBoundary Is B o
      × IsRow Is (drop o B) (h ∷ hs)
  found_at o p h hs (in_hand at row least) same =
      subst (λ x. IsBoundary Is B x × IsRow Is (drop x B) (h ∷ hs)) same (at, row)

  -- where o is a boundary, and none in hand begins before it, one begins there
  found_none : (o p : ℕ) (hs : Row (HeldLine K)) → Holds Is B o p hs → Past o p hs → IsBoundary Is B o →
      (p ≡ o → hs ≡ []) → ⊥
  found_none o p hs (in_hand at row least) past at_o none =
      let some = row_some Is (drop p B) hs row in
      let low = least o at_o (omega arith) in
      let high = past some in
      let same : p ≡ o = omega (arith, low, high) in
      some (none same)
  found_none o p _ (empty_hand none) past at_o not_met = let lt = none o at_o in omega arith

-- ---- the window

module _ {K : Type 0} (Is : List ℕ → HeldLine K → Type 0) (laws : Reads Is) (B U : List ℕ) (a e b : ℕ)
    (apart : Apart B U a e b) where
  -- at its start no line is read, and all old lines from there on are in hand
  pub going_start : (w : ℕ) (hs : Row (HeldLine K)) → IsBoundary Is B w → w ≤ a → IsRow Is (drop w B) hs →
      Going Is B U a e b w [] w w hs
  unfolding extent
  going_start w hs at low row =
      let before = apart.low in
      let order = apart.order in
      record {
        boundary = boundary_stays Is laws B U a apart.front w at low;
        low = low;
        sum = omega arith;
        leads = λ ms rows. rows;
        none = λ s m. let past = m.past in omega arith;
        hand = in_hand at row (λ s at_s high. omega arith);
      }

  -- an old line that begins before the old place of q is passed
  pub going_past : (w : ℕ) (read : Row (HeldLine K)) (q p : ℕ) (h : HeldLine K) (hs : Row (HeldLine K)) →
      Going Is B U a e b w read q p (h ∷ hs) → p < b + (q - e) → Going Is B U a e b w read q (p + h.len) hs
  going_past w read q p h hs g lt = record {
    boundary = g.boundary;
    low = g.low;
    sum = g.sum;
    leads = g.leads;
    none = g.none;
    hand = rest_holds Is laws B (b + (q - e)) p h hs lt g.hand;
  }

  -- and so are more of them
  pub going_passed : (w : ℕ) (read : Row (HeldLine K)) (q p : ℕ) (hs : Row (HeldLine K)) (r : ℕ) (ks : Row (HeldLine K))
      → Going Is B U a e b w read q p hs → Passes (b + (q - e)) p hs r ks → Going Is B U a e b w read q r ks
  going_passed w read q p hs _ _ g none_passed = g
  going_passed w read q p _ r ks g (one_passed {h = h} {hs = hs} lt rest) =
      going_passed w read q (p + h.len) hs r ks (going_past w read q p h hs g lt) rest

  -- then each shared boundary is after the line at q, which ended
  beyond : (w : ℕ) (read : Row (HeldLine K)) (q p : ℕ) (hs : Row (HeldLine K)) (l : HeldLine K) →
      Going Is B U a e b w read q p hs → Past (b + (q - e)) p hs → NotMet e b q p hs → Is (drop q U) l
      → (s : ℕ) → IsShared Is B U e b s → (l.ended ≡ true) × (q + l.len ≤ s)
  beyond w read q p hs l g past not_met is s m =
      let high = g.none s m in
      ⊎_elim (λ (same : q ≡ s).
      let here : IsShared Is B U e b q = subst (IsShared Is B U e b) (sym same) m in
      absurd (found_none Is laws B (b + (q - e)) p hs g.hand past here.there (λ is_there. not_met here.past is_there)))
      (λ o. ⊎_elim (λ (lt : q < s). gap Is laws U q s l g.boundary m.here lt is)
      (λ (lt : s < q). absurd (omega arith)) o) (cases_order q s)

  -- a line that ended is read
  pub going_on : (w : ℕ) (read : Row (HeldLine K)) (q p : ℕ) (hs : Row (HeldLine K)) (l : HeldLine K) →
      Going Is B U a e b w read q p hs → Past (b + (q - e)) p hs → NotMet e b q p hs
      → Is (drop q U) l → l.ended ≡ true → Going Is B U a e b w (read ++ l ∷ []) (q + l.len) p hs
  going_on w read q p hs l g past not_met is ended =
      let sum = g.sum in
      record {
        boundary = at_end_of g.boundary is ended;
        low = g.low;
        sum = omega (arith, sum, extent_push read l);
        leads = λ ms rows. subst (IsRow Is (drop w U)) (sym (append_assoc read (l ∷ []) ms))
            (g.leads (l ∷ ms) (more_lines is ended (subst (λ T. IsRow Is T ms) (sym (drop-drop l.len q U)) rows)));
        none = λ s m. (beyond w read q p hs l g past not_met is s m).1;
        hand = holds_less Is laws B (b + (q - e)) (b + ((q + l.len) - e)) p hs (omega arith) g.hand;
      }

  -- a shared boundary is met, and the old lines in hand are kept
  pub going_met : (w : ℕ) (read : Row (HeldLine K)) (q p : ℕ) (h : HeldLine K) (hs : Row (HeldLine K)) →
      Going Is B U a e b w read q p (h ∷ hs) → e ≤ q → p ≡ b + (q - e)
      → IsRow Is (drop w U) (read ++ h ∷ hs) × Ends Is B U e b (w + extent read)
  going_met w read q p h hs g past same =
      let there = found_at Is laws B (b + (q - e)) p h hs g.hand same in
      let here : q ≡ e + (q - e) = omega arith in
      let text : drop q U ≡ drop (b + (q - e)) B = ap (λ x. drop x U) here ∙ apart.back (q - e) in (
        g.leads _ (subst (λ T. IsRow Is T (h ∷ hs)) (sym text) there.1),
        subst (Ends Is B U e b) (sym g.sum) (meets (record { here = g.boundary; past = past; there = there.0 }) g.none),
      )

  -- the last line is read
  pub going_last : (w : ℕ) (read : Row (HeldLine K)) (q p : ℕ) (hs : Row (HeldLine K)) (l : HeldLine K) →
      Going Is B U a e b w read q p hs → Past (b + (q - e)) p hs → NotMet e b q p hs
      → Is (drop q U) l → l.ended ≡ false → l.len ≡ length (drop q U) → IsRow Is (drop w U) (read ++ l ∷ [])
      × Ends Is B U e b (w + extent (read ++ l ∷ []))
  going_last w read q p hs l g past not_met is not_ended whole =
      let sum = g.sum in
      let within = boundary_within Is laws U q g.boundary in (
        g.leads _ (last_line is not_ended whole),
        never (omega (arith, sum, whole, within, extent_push read l, length-drop q U))
            (λ s m. let ended = (beyond w read q p hs l g past not_met is s m).0 in absurd cc),
      )

  -- so far no more was read than the window has
  pub going_low : (w : ℕ) (read : Row (HeldLine K)) (q p : ℕ) (hs : Row (HeldLine K)) (t : ℕ) →
      Going Is B U a e b w read q p hs → Ends Is B U e b t → w + extent read ≤ t
  going_low w read q p hs t g (meets m least) = let sum = g.sum in let low = g.none t m in omega arith
  going_low w read q p hs t g (never is none) = let sum = g.sum in
      let within = boundary_within Is laws U q g.boundary in omega arith

  -- ---- no sum is past the ends of the texts

  -- what was read ends in the new text
  pub place_fits : (w : ℕ) (read : Row (HeldLine K)) (q p : ℕ) (hs : Row (HeldLine K)) →
      Going Is B U a e b w read q p hs → q ≤ length U
  place_fits w read q p hs g = boundary_within Is laws U q g.boundary

  -- the old place of q is in the old text, if b is
  pub old_place_fits : (q : ℕ) → b ≤ length B → q ≤ length U → b + (q - e) ≤ length B
  old_place_fits q low high =
      let here : e + 0 ≡ e = omega arith in
      let there : b + 0 ≡ b = omega arith in
      let same : drop e U ≡ drop b B = ap (λ x. drop x U) (sym here) ∙ apart.back 0 ∙ ap (λ x. drop x B) there in
      let rest : length (drop e U) ≡ length (drop b B) = ap length same in
      omega (arith, rest, length-drop e U, length-drop b B)

  -- and it is below each number that b and the length of the old text are below
  pub old_place_bound : (q n : ℕ) → q ≤ length U → b < n → length B < n → b + (q - e) < n
  old_place_bound q n high small fits =
      ⊎_elim (λ (far : length B < b).
      let here : e + 0 ≡ e = omega arith in
      let there : b + 0 ≡ b = omega arith in
      let same : drop e U ≡ drop b B = ap (λ x. drop x U) (sym here) ∙ apart.back 0 ∙ ap (λ x. drop x B) there in
      let rest : length (drop e U) ≡ length (drop b B) = ap length same in
      omega (arith, rest, length-drop e U, length-drop b B))
      (λ (low : b ≤ length B). let bound = old_place_fits q low high in omega (arith, bound)) (cases_lt (length B) b)
