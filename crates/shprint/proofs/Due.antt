-- The here-documents of a level while it is read: those that have their bodies, and those
-- that wait. A part of its list is open as long as its documents have no bodies in it;
-- what is good of it is said of the part with its bodies.
use Rattle.std.proofs.Common.{◌≡◌, ◌∙◌, refl, sym, ap, subst, ℕ, ◌≤◌, Bool, false, Option, Some, None, Ok, Err, List as Row, [], ◌∷◌, ◌++◌, length, map, append_assoc, append-nil, arith}
use Rattle.std.specs.Prelude.{Result}
use Rattle.std.proofs.lemmas.List.{map-append}
use Rattle.shast.specs.declared.tree.Span.{Span}
use Rattle.shast.specs.Tree.{AHere}
use Rattle.shast.specs.Bodies.{fill_here}
use Rattle.shast.proofs.Going.{going}
use Rattle.shgrammar.specs.declared.fault.Fault.{Fault}
use Rattle.shgrammar.specs.Comments.{span}
use Rattle.shgrammar.specs.States.{Given, State, Waiting}
use Rattle.shgrammar.specs.HereDocuments.{ADelimiter, bodies_from, body_by, delimiter_from, past_line, state_by, with_bodies}
use Rattle.shgrammar.specs.Commands.{document}
use Rattle.shgrammar.specs.Form.{raw}
use Rattle.shgrammar.proofs.BodiesAnywhere.{DocumentAnywhere, document_anywhere}
use Rattle.shgrammar.proofs.Delimiters.{delimiter_between}

-- a here-document whose operator stands at b
pub record Due : Type 0 where
  pub b : ℕ
  pub strip : Bool
  pub d : ADelimiter

-- by its parts
abbrev pub due_at : ℕ → Bool → ADelimiter → Due
due_at b strip d = record { b = b; strip = strip; d = d }

-- as it waits in the state
abbrev pub as_waiting : Due → Waiting
as_waiting x = document x.b x.strip x.d

module _ (g : Given) where
  -- ---- bodies

  -- this span is the body of a document: it ends where the delimiter's line begins, wherever they stand
  pub record BodyOf (x : Due) (s : Span) : Type 0 where
    pub p : ℕ
    pub q : ℕ
    pub is : s ≡ span g.offset p q
    pub reads : DocumentAnywhere x.strip x.d (raw g.text p q)

  -- the spans ts are the bodies of these documents, in their order, and us
  abbrev pub Feeds : Row Due → Row Span → Row Span → Type 0
  Feeds [] ts us = ts ≡ us
  Feeds (x ∷ xs) [] us = ⊥
  Feeds (x ∷ xs) (t ∷ ts) us = BodyOf x t × Feeds xs ts us

  -- the last document has the last body
  feeds_last : (xs : Row Due) (x : Due) (ts us : Row Span) → Feeds (xs ++ x ∷ []) ts us → (t : Span) × BodyOf x t
      × Feeds xs ts (t ∷ us)
  feeds_last [] x [] us feeds = absurd feeds
  feeds_last [] x (t ∷ ts) us feeds = (t, feeds.0, ap (λ r. t ∷ r) feeds.1)
  feeds_last (y ∷ xs) x [] us feeds = absurd feeds
  feeds_last (y ∷ xs) x (t ∷ ts) us feeds = let r = feeds_last xs x ts us feeds.1 in (r.0, r.1, (feeds.0, r.2))

  -- one document and its body more
  feeds_more : (xs : Row Due) (x : Due) (ts : Row Span) (t : Span) → Feeds xs ts [] → BodyOf x t →
      Feeds (xs ++ x ∷ []) (ts ++ t ∷ []) []
  feeds_more [] x [] t feeds body = (body, refl)
  feeds_more [] x (s ∷ ts) t feeds body = absurd cc
  feeds_more (y ∷ xs) x [] t feeds body = absurd feeds
  feeds_more (y ∷ xs) x (s ∷ ts) t feeds body = (feeds.0, feeds_more xs x ts t feeds.1 body)

  -- ---- documents at a state

  -- the documents D of a level, in the order of their operators: these bodies were read, and these wait
  pub record Docs (D : Row Due) (waiting : Row Waiting) (bodies : Row Span) : Type 0 where
    pub done : Row Due
    pub due : Row Due
    pub all : D ≡ done ++ due
    pub read : Feeds done bodies []
    pub wait : waiting ≡ map as_waiting due

  -- so it is in a state
  abbrev pub DocsAt : Row Due → State → Type 0
  DocsAt D s = Docs D s.waiting s.bodies

  -- before the first document
  pub no_docs : Docs [] [] []
  no_docs = record { done = []; due = []; all = refl; read = refl; wait = refl }

  -- one more waits
  pub docs_more : {D : Row Due} {ws : Row Waiting} {bs : Row Span} (x : Due) → Docs D ws bs →
      Docs (D ++ x ∷ []) (ws ++ as_waiting x ∷ []) bs
  docs_more x docs = record {
    done = docs.done;
    due = docs.due ++ x ∷ [];
    all = ap (λ r. r ++ x ∷ []) docs.all ∙ append_assoc docs.done docs.due (x ∷ []);
    read = docs.read;
    wait = ap (λ r. r ++ as_waiting x ∷ []) docs.wait ∙ sym (map-append as_waiting docs.due (x ∷ []));
  }

  -- none waits: all have their bodies
  pub docs_done : {D : Row Due} {bs : Row Span} → Docs D [] bs → Feeds D bs []
  docs_done {D = D} {bs = bs} docs = by_due docs.due docs.all docs.wait
    where
      by_due : (due : Row Due) → D ≡ docs.done ++ due → [] ≡ map as_waiting due → Feeds D bs []
      by_due [] all wait = subst (λ xs. Feeds xs bs []) (sym (all ∙ append-nil docs.done)) docs.read
      by_due (x ∷ due) all wait = absurd cc

  -- and then no more is due
  pub done_docs : {D : Row Due} {bs : Row Span} → Feeds D bs [] → Docs D [] bs
  done_docs {D = D} feeds = record { done = D; due = []; all = sym (append-nil D); read = feeds; wait = refl }

  -- where a body is found, the text does not end before it
  inside : (w : Waiting) (p q : ℕ) → delimiter_from g.text w p ≡ Some q → p ≤ length g.text
  inside w p q found = let r = delimiter_between g.text w false p q found in omega (arith, r.0, r.1)

  -- the bodies that a newline token reads are those of the documents that wait
  bodies_good : (done due : Row Due) (bs cs : Row Span) (p q : ℕ) → Feeds done bs [] →
      bodies_from g (map as_waiting due) bs p ≡ Ok (cs, q) → Feeds (done ++ due) cs []
  unfolding bodies_from
  bodies_good done [] bs cs p q feeds is =
      let pair : ◌≡◌ {A = Row Span × ℕ} (bs, p) (cs, q) = cc in
      let same : bs ≡ cs = ap (λ (z : Row Span × ℕ). z.0) pair in
      subst (λ xs. Feeds xs cs []) (sym (append-nil done)) (subst (λ ts. Feeds done ts []) same feeds)
  bodies_good done (x ∷ due) bs cs p q feeds is =
      by_place (λ ts r more. bodies_good (done ++ x ∷ []) due ts cs r q more)
      (delimiter_from g.text (as_waiting x) p) refl is
    where
      by_place : ((ts : Row Span) (r : ℕ) → Feeds (done ++ x ∷ []) ts [] →
          bodies_from g (map as_waiting due) ts r ≡ Ok (cs, q) → Feeds ((done ++ x ∷ []) ++ due) cs []) → (e : Option ℕ)
          → delimiter_from g.text (as_waiting x) p ≡ e →
          body_by (bodies_from g (map as_waiting due)) g (as_waiting x) bs p e ≡ Ok (cs, q) →
          Feeds (done ++ x ∷ due) cs []
      by_place rest None found is = absurd cc
      by_place rest (Some e) found is =
          let body : BodyOf x (span g.offset p e) =
          record {
            p = p;
            q = e;
            is = refl;
            reads = document_anywhere g.text x.b p e x.strip x.d (inside (as_waiting x) p e found) found;
          } in
          let more = rest (bs ++ span g.offset p e ∷ []) (past_line g.text e)
          (feeds_more done x bs (span g.offset p e) feeds body) is in
          subst (λ xs. Feeds xs cs []) (append_assoc done (x ∷ []) due) more

  -- after a newline token all have their bodies
  pub docs_read : {D : Row Due} (s t : State) → DocsAt D s → with_bodies g s ≡ Ok t → Feeds D t.bodies []
      × (t.waiting ≡ [])
  docs_read {D = D} s t docs is = by_bodies (bodies_from g s.waiting s.bodies s.at) refl is
    where
      by_bodies : (r : Result (Row Span × ℕ) Fault) → bodies_from g s.waiting s.bodies s.at ≡ r → state_by r ≡ Ok t →
          Feeds D t.bodies [] × (t.waiting ≡ [])
      by_bodies (Err f) from is = absurd cc
      by_bodies (Ok (cs, q)) from is =
          let same : record { at = q; waiting = []; bodies = cs } ≡ t = cc in
          let good = bodies_good docs.done docs.due s.bodies cs s.at q docs.read
          (ap (λ ws. bodies_from g ws s.bodies s.at) (sym docs.wait) ∙ from) in
          subst (λ (u : State). Feeds D u.bodies [] × (u.waiting ≡ [])) same
          (subst (λ xs. Feeds xs cs []) (sym docs.all) good, refl)

  -- ---- parts of a list

  -- x stands after the documents D, and with its own they are E. Whatever the bodies of E are, x
  -- takes its own after those of D, and is good with them.
  pub record Opens {X : Type 0} (fill : X → Row Span → X × Row Span) (Good : X → Type 0) (D : Row Due) (x : X)
      (E : Row Due) : Type 0 where
    pub fills : (ts us : Row Span) → Feeds E ts us → (vs : Row Span) × Feeds D ts vs × Good (fill x vs).0
        × ((fill x vs).1 ≡ us)

  -- one without documents
  pub opens_nothing : {X : Type 0} {f : X → Row Span → X × Row Span} {G : X → Type 0} {D : Row Due} (x : X) →
      ((ts : Row Span) → f x ts ≡ (x, ts)) → G x → Opens f G D x D
  opens_nothing x is good = record { fills = λ ts us feeds. (us, feeds, rw (is us) good, rw (is us) refl) }

  -- what follows from it
  pub opens_so : {X : Type 0} {f : X → Row Span → X × Row Span} {G K : X → Type 0} {D E : Row Due} {x : X} →
      ((a : X) → G a → K a) → Opens f G D x E → Opens f K D x E
  opens_so so one = record { fills = λ ts us feeds. let a = one.fills ts us feeds in (a.0, a.1, so _ a.2, a.3) }

  -- a part that holds another one
  pub opens_one : {X Z : Type 0} {f : X → Row Span → X × Row Span} {k : Z → Row Span → Z × Row Span} {G : X → Type 0}
      {K : Z → Type 0} {D E : Row Due} {x : X} (z : Z) (of : X → Z)
      → ((ts : Row Span) → k z ts ≡ (of (f x ts).0, (f x ts).1)) → ((a : X) → G a → K (of a)) → Opens f G D x E →
      Opens k K D z E
  opens_one z of is so one = record {
    fills = λ ts us feeds. let a = one.fills ts us feeds in
        (a.0, a.1, rw (is a.0) (so _ a.2), rw (is a.0) a.3);
  }

  -- a part that holds two
  pub opens_two : {X Y Z : Type 0} {f : X → Row Span → X × Row Span} {h : Y → Row Span → Y × Row Span}
      {k : Z → Row Span → Z × Row Span} {G : X → Type 0} {H : Y → Type 0} {K : Z → Type 0}
      {C D E : Row Due} {x : X} {y : Y} (z : Z) (of : X → Y → Z) →
      ((ts : Row Span) → k z ts ≡ (of (f x ts).0 (h y (f x ts).1).0, (h y (f x ts).1).1)) →
      ((a : X) (b : Y) → G a → H b → K (of a b))
      → Opens f G C x D → Opens h H D y E → Opens k K C z E
  opens_two z of is so one two = record {
    fills = λ ts us feeds.
        let b = two.fills ts us feeds in
        let a = one.fills ts b.0 b.1 in
        (a.0, a.1, rw (is a.0, a.3) (so _ _ a.2 b.2), rw (is a.0, a.3) b.3);
  }

  -- bodies into two parts, and two parts that take them
  abbrev pub fill_both : {X Y : Type 0} → (X → Row Span → X × Row Span) → (Y → Row Span → Y × Row Span) → X × Y →
      Row Span → (X × Y) × Row Span
  fill_both f h z ts =
      let a = f z.0 ts in
      let b = h z.1 a.1 in
      ((a.0, b.0), b.1)

  pub opens_both : {X Y : Type 0} {f : X → Row Span → X × Row Span} {h : Y → Row Span → Y × Row Span} {G : X → Type 0}
      {H : Y → Type 0} {C D E : Row Due} {x : X} {y : Y}
      → Opens f G C x D → Opens h H D y E → Opens (fill_both f h) (λ z. G z.0 × H z.1) C (x, y) E
  opens_both {x = x} {y = y} one two =
      opens_two (x, y) (λ a b. (a, b)) (λ ts. refl) (λ a b good more. (good, more)) one two

  -- a document
  pub opens_document : {G : Option AHere → Type 0} {D : Row Due} (x : Due) (h : AHere) →
      ((s : Span) → BodyOf x s → G (Some (record { literal = h.literal; strip = h.strip; body = s })))
      → Opens fill_here G D (Some h) (D ++ x ∷ [])
  opens_document {D = D} x h so =
      record { fills = λ ts us feeds. let r = feeds_last D x ts us feeds in (r.0 ∷ us, r.2, so r.0 r.1, refl) }

  -- ---- rows of parts

  -- bodies into each part of a row
  abbrev pub fill_all : {A : Type 0} → (A → Row Span → A × Row Span) → Row A → Row Span → Row A × Row Span
  fill_all f xs ts = going f xs 0 ts

  -- a row without parts
  pub opens_none : {A : Type 0} (f : A → Row Span → A × Row Span) {G : Row A → Type 0} {D : Row Due} → G [] →
      Opens (fill_all f) G D [] D
  unfolding going
  opens_none f good = opens_nothing [] (λ ts. refl) good

  -- a row with one part more takes its bodies last
  going_last : {A : Type 0} (f : A → Row Span → A × Row Span) (xs : Row A) (x : A) (ts : Row Span)
      → going f (xs ++ x ∷ []) 0 ts
      ≡ ((going f xs 0 ts).0 ++ (f x (going f xs 0 ts).1).0 ∷ [], (f x (going f xs 0 ts).1).1)
  unfolding going
  going_last f [] x ts = refl
  going_last f (y ∷ xs) x ts = rw (going_last f xs x (f y ts).1) refl

  -- one part more
  pub opens_last : {A : Type 0} {f : A → Row Span → A × Row Span} {G : Row A → Type 0} {H : A → Type 0}
      {K : Row A → Type 0} {C D E : Row Due} (xs : Row A) (x : A)
      → ((ys : Row A) (y : A) → G ys → H y → K (ys ++ y ∷ [])) → Opens (fill_all f) G C xs D → Opens f H D x E →
      Opens (fill_all f) K C (xs ++ x ∷ []) E
  opens_last {f = f} xs x so all one = opens_two (xs ++ x ∷ []) (λ ys y. ys ++ y ∷ []) (going_last f xs x) so all one

  -- the row has a part
  abbrev pub SomeOf : {A : Type 0} → Row A → Type 0
  SomeOf [] = ⊥
  SomeOf (x ∷ xs) = Unit {0}

  -- so it does with one more, and with its bodies
  pub some_last : {A : Type 0} (xs : Row A) (x : A) → SomeOf (xs ++ x ∷ [])
  some_last [] x = tt
  some_last (y ∷ xs) x = tt

  some_filled : {A : Type 0} (f : A → Row Span → A × Row Span) (xs : Row A) (ts : Row Span) → SomeOf xs →
      SomeOf (fill_all f xs ts).0
  unfolding going
  some_filled f [] ts some = absurd some
  some_filled f (x ∷ xs) ts some = tt

  -- a row that has a part
  pub opens_some : {A : Type 0} (f : A → Row Span → A × Row Span) {G : Row A → Type 0} {C D : Row Due} {xs : Row A} →
      SomeOf xs → Opens (fill_all f) G C xs D → Opens (fill_all f) (λ ys. G ys × SomeOf ys) C xs D
  opens_some f {xs = xs} some all =
      record {
        fills = λ ts us feeds. let a = all.fills ts us feeds in
            (a.0, a.1, (a.2, some_filled f xs a.0 some), a.3);
      }
