-- The lines of a here-document's body, one by one, and how far its bodies go.
use Rattle.std.proofs.Common.{◌≡◌, ℕ, zero, suc, ◌+◌, ◌-◌, ◌<◌, ◌≤◌, Bool, true, false, cond, not, List, [], ◌∷◌, ◌++◌, List as Row, length, Option, Some, None, Ok, refl, subst, arith}
use Rattle.std.specs.Prelude.{◌&&◌}
use Rattle.std.proofs.lemmas.List.{length-append}
use Rattle.shast.specs.declared.tree.Span.{Span}
use Rattle.shgrammar.specs.Standing.{at_end}
use Rattle.shgrammar.specs.Comments.{span}
use Rattle.shgrammar.specs.Sights.{Given, Waiting}
use Rattle.shgrammar.specs.HereDocuments.{rest_of_line, past_line, is_delimiter, takes_newline, delimiter_below, delimiter_on, delimiter_from, body_by, bodies_from}
use Rattle.shgrammar.proofs.Places.{not_end_low, next_newline_low}

-- what a test picks is the same if it is where the test fails
same_else : {A : Type 0} (b : Bool) (x y z : A) → (b ≡ false → y ≡ z) → cond b x y ≡ cond b x z
same_else true x y z same = refl
same_else false x y z same = same refl

module _ (T : List ℕ) where
  -- a line leads on, and not past the end of the text
  pub past_line_low : (p : ℕ) → at_end T p ≡ false → p < past_line T p
  past_line_low p some = omega (arith, not_end_low T p some, next_newline_low T p)

  pub past_line_high : (p : ℕ) → past_line T p ≤ length T
  past_line_high p = omega arith

  module _ (w : Waiting) where
    -- the line at p is the delimiter's
    abbrev pub ends_here : Bool → ℕ → Bool
    ends_here taken p = not taken && is_delimiter w (rest_of_line T p)

    -- which is looked for in no more lines than there are bytes
    enough : (n m : ℕ) (taken : Bool) (p : ℕ) → length T - p < n → length T - p < m →
        delimiter_below n T w taken p ≡ delimiter_below m T w taken p
    unfolding delimiter_below
    enough zero m taken p few less = absurd (omega arith)
    enough (suc n) zero taken p few less = absurd (omega arith)
    enough (suc n) (suc m) taken p few less =
        same_else (at_end T p) None _ _ (λ some. same_else (ends_here taken p) (Some p) _ _ (λ other.
        enough n m (takes_newline w (rest_of_line T p)) (past_line T p)
        (omega (arith, few, past_line_low p some, not_end_low T p some))
        (omega (arith, less, past_line_low p some, not_end_low T p some))))

    -- ---- a line of the body, as a loop goes on

    -- none is found at the end of the text, the line at p is it, or it is looked for from the next line on
    pub none_at_end : (taken : Bool) (p : ℕ) → at_end T p ≡ true → delimiter_on T w taken p ≡ None
    unfolding delimiter_on delimiter_below
    none_at_end taken p end = rw end refl

    pub found_here : (taken : Bool) (p : ℕ) → at_end T p ≡ false → ends_here taken p ≡ true →
        delimiter_on T w taken p ≡ Some p
    unfolding delimiter_on delimiter_below
    found_here taken p some ends = rw (some, ends) refl

    pub on_to_next : (taken : Bool) (p : ℕ) → at_end T p ≡ false → ends_here taken p ≡ false
        → delimiter_on T w taken p ≡ delimiter_on T w (takes_newline w (rest_of_line T p)) (past_line T p)
    unfolding delimiter_on delimiter_below
    on_to_next taken p some other =
        rw (some, other) (enough (length T - p) (suc (length T - past_line T p)) (takes_newline w (rest_of_line T p))
        (past_line T p) (omega (arith, past_line_low p some, not_end_low T p some)) (omega arith))

    -- ---- where the delimiter's line begins

    -- at p or past it, and in the text
    abbrev Between : ℕ → ℕ → Type 0
    Between p q = (p ≤ q) × (q < length T)

    -- by what the line at p is, and by how many lines may be looked at
    between_step : (p q : ℕ) (rest : Option ℕ) → (at_end T p ≡ false → rest ≡ Some q → Between p q) → (b : Bool) →
        at_end T p ≡ b → (c : Bool)
        → cond b None (cond c (Some p) rest) ≡ Some q → Between p q
    between_step p q rest more true end c found = absurd cc
    between_step p q rest more false some true found =
        let is : p ≡ q = cc in
        (omega (arith, is), omega (arith, is, not_end_low T p some))
    between_step p q rest more false some false found = more some found

    between_below : (n : ℕ) (taken : Bool) (p q : ℕ) → delimiter_below n T w taken p ≡ Some q → Between p q
    unfolding delimiter_below
    between_below zero taken p q found = absurd cc
    between_below (suc n) taken p q found =
        between_step p q (delimiter_below n T w (takes_newline w (rest_of_line T p)) (past_line T p))
        (λ some rest. let r = between_below n (takes_newline w (rest_of_line T p)) (past_line T p) q rest in
        (omega (arith, r.0, past_line_low p some), r.1))
        (at_end T p) refl (ends_here taken p) found

    -- not before the body, and in the text
    pub delimiter_between : (taken : Bool) (p q : ℕ) → delimiter_on T w taken p ≡ Some q → Between p q
    unfolding delimiter_on
    delimiter_between taken p q found = between_below (suc (length T - p)) taken p q found

-- ---- how far the bodies go

module _ (g : Given) where
  -- not back, nor past the end of the text; one body for each document
  abbrev pub Go : Row Waiting → Row Span → ℕ → Row Span × ℕ → Type 0
  Go ws bodies p x = (p ≤ x.1) × (x.1 ≤ length g.text) × (length x.0 ≡ length bodies + length ws)

  -- one more body, by where the line of its delimiter begins
  bodies_step : (w : Waiting) (ws : Row Waiting) (bodies : Row Span) (p : ℕ) (x : Row Span × ℕ)
      → ((bs : Row Span) (q : ℕ) → bodies_from g ws bs q ≡ Ok x → q ≤ length g.text → Go ws bs q x)
      → (o : Option ℕ) → delimiter_from g.text w p ≡ o → body_by (bodies_from g ws) g w bodies p o ≡ Ok x →
      Go (w ∷ ws) bodies p x
  bodies_step w ws bodies p x more None none read = absurd cc
  bodies_step w ws bodies p x more (Some q) found read =
      let one = delimiter_between g.text w false p q found in
      let r = more (bodies ++ span g.offset p q ∷ []) (past_line g.text q) read (past_line_high g.text q) in (
        omega (arith, one.0, one.1, r.0, next_newline_low g.text q),
        r.1,
        omega (arith, r.2, length-append bodies (span g.offset p q ∷ [])),
      )

  -- not back, wherever they begin
  low_step : (w : Waiting) (ws : Row Waiting) (bodies : Row Span) (p : ℕ) (x : Row Span × ℕ) →
      ((bs : Row Span) (q : ℕ) → bodies_from g ws bs q ≡ Ok x → q ≤ x.1)
      → (o : Option ℕ) → delimiter_from g.text w p ≡ o → body_by (bodies_from g ws) g w bodies p o ≡ Ok x → p ≤ x.1
  low_step w ws bodies p x more None none read = absurd cc
  low_step w ws bodies p x more (Some q) found read =
      let one = delimiter_between g.text w false p q found in
      let r = more (bodies ++ span g.offset p q ∷ []) (past_line g.text q) read in
      omega (arith, one.0, one.1, r, next_newline_low g.text q)

  -- so no bodies go back, and from a place in the text on all this holds of them
  pub bodies_low : (ws : Row Waiting) (bodies : Row Span) (p : ℕ) (x : Row Span × ℕ) → bodies_from g ws bodies p ≡ Ok x
      → p ≤ x.1
  unfolding bodies_from
  bodies_low [] bodies p x read = let is : (bodies, p) ≡ x = cc in
      subst (λ (y : Row Span × ℕ). p ≤ y.1) is (omega arith)
  bodies_low (w ∷ ws) bodies p x read =
      low_step w ws bodies p x (λ bs q. bodies_low ws bs q x) (delimiter_from g.text w p) refl read

  pub bodies_go : (ws : Row Waiting) (bodies : Row Span) (p : ℕ) (x : Row Span × ℕ) → bodies_from g ws bodies p ≡ Ok x →
      p ≤ length g.text → Go ws bodies p x
  unfolding bodies_from
  bodies_go [] bodies p x read within =
      let is : (bodies, p) ≡ x = cc in
      subst (Go [] bodies p) is (omega arith, within, omega arith)
  bodies_go (w ∷ ws) bodies p x read within =
      bodies_step w ws bodies p x (λ bs q. bodies_go ws bs q x) (delimiter_from g.text w p) refl read
