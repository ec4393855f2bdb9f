-- What waits for the end of a line while a printed text is read: here-documents, each with the bytes of its
-- body. A newline token reads them, and they are those that were printed.
use Rattle.std.proofs.Common.{◌≡◌, ◌∙◌, ℕ, suc, ◌+◌, ◌-◌, ◌≤◌, Bool, true, List, List as Row, [], ◌∷◌, ◌++◌, length, drop, take, map, Some, Ok, refl, sym, ap, arith, append_assoc, append-nil}
use Rattle.std.proofs.lemmas.List.{drop-drop, length-append, length-drop, map-append}
use Rattle.shast.specs.declared.tree.Span.{Span}
use Rattle.shast.specs.Shape.{Text, text_at}
use Rattle.shgrammar.specs.declared.edition.Edition.{Edition}
use Rattle.shgrammar.specs.Characters.{newline_char}
use Rattle.shgrammar.specs.Comments.{span}
use Rattle.shgrammar.specs.States.{Given, given, State, Waiting}
use Rattle.shgrammar.specs.HereDocuments.{ADelimiter, body_by, bodies_from, bodies_here, delimiter_from, past_line, state_by, waits}
use Rattle.shgrammar.specs.Commands.{document as waiting_document}
use Rattle.shgrammar.specs.Form.{change, changes}
use Rattle.shgrammar.proofs.ItemsAnywhere.{follows}
use Rattle.shgrammar.proofs.BodiesAnywhere.{DocumentAnywhere}
use Rattle.shprint.specs.Marks.{Marks, line_end, laid_after}
use Rattle.shprint.proofs.Gives.{Gives, gives}
use Rattle.shprint.proofs.Tokens.{past_text_stands, text_here}

-- ---- documents that wait

-- a here-document whose operator stands at b, and its body
pub record Document : Type 0 where
  pub b : ℕ
  pub strip : Bool
  pub d : ADelimiter
  pub bytes : Text
  pub good : DocumentAnywhere strip d bytes

-- as it waits in the state
abbrev pub as_waiting : Document → Waiting
as_waiting x = waiting_document x.b x.strip x.d

-- the body, and the line of the delimiter
abbrev pub bytes_of : Document → Text
bytes_of x = x.bytes ++ (x.d.text ++ newline_char ∷ [])

unfoldable pub held_bytes : Row Document → Text
held_bytes [] = []
held_bytes (x ∷ xs) = bytes_of x ++ held_bytes xs

pub no_bytes : held_bytes [] ≡ []
unfolding held_bytes
no_bytes = refl

-- the bytes of documents after others
pub bytes_append : (xs ys : Row Document) → held_bytes (xs ++ ys) ≡ held_bytes xs ++ held_bytes ys
unfolding held_bytes
bytes_append [] ys = refl
bytes_append (x ∷ xs) ys = ap (λ r. bytes_of x ++ r) (bytes_append xs ys)
    ∙ sym (append_assoc (bytes_of x) (held_bytes xs) (held_bytes ys))

-- one more
pub bytes_more : (xs : Row Document) (x : Document) → held_bytes (xs ++ x ∷ []) ≡ held_bytes xs ++ bytes_of x
unfolding held_bytes
bytes_more xs x = bytes_append xs (x ∷ []) ∙ ap (λ r. held_bytes xs ++ r) (append-nil (bytes_of x))

-- ---- a state

-- what waits, and the bodies that were read
pub record Held : Type 0 where
  pub waiting : Row Document
  pub bodies : Row Span

-- documents that wait, and the bodies that were read
abbrev pub held_so : Row Document → Row Span → Held
held_so xs bodies = record { waiting = xs; bodies = bodies }

abbrev pub nothing_held : Held
nothing_held = held_so [] []

-- one document more
abbrev pub with_document : Held → Document → Held
with_document h x = held_so (h.waiting ++ x ∷ []) h.bodies

-- where a reading stands, with what waits
abbrev pub state : Held → ℕ → State
state h p = record { at = p; waiting = map as_waiting h.waiting; bodies = h.bodies }

-- the text of some marks, after which this waits
abbrev pub lay : Held → Marks → Text
lay h ms = laid_after (held_bytes h.waiting) ms

-- what is printed next may follow an item, whatever waits
abbrev pub Followed : Marks → Type 0
Followed ms = (held : Text) → follows (laid_after held ms) ≡ true

-- one more document waits
pub one_waits : {g : Given} (h : Held) (x : Document) (p : ℕ) →
    Gives g (change (waits (as_waiting x))) (state h p) tt (state (with_document h x) p)
one_waits {g = g} h x p =
    let is : map as_waiting h.waiting ++ as_waiting x ∷ [] ≡ map as_waiting (h.waiting ++ x ∷ []) =
    sym (map-append as_waiting h.waiting (x ∷ [])) in
    gives _ (changes (ap (λ ws. Ok (record { at = p; waiting = ws; bodies = h.bodies })) is))

-- ---- one text, from the offset o of the printed text on

-- T is what stands in B, all that was printed, from o on. What is said of such a text takes this one value,
-- and the edition, B, T and o are seen from it.
pub record StandsIn (edition : Edition) (B T : List ℕ) (o : ℕ) : Type 0 where
  pub here : drop o B ≡ T

module _ {edition : Edition} {B T : List ℕ} {o : ℕ} (S : StandsIn edition B T o) where
  -- what is given of the text
  abbrev pub g : Given
  g = given edition T o

  -- what is printed stands here
  abbrev pub At : Held → ℕ → Marks → Type 0
  At h p ms = drop p T ≡ lay h ms

  -- the bodies of all documents so far, read or not
  abbrev pub texts_of : Held → Row Text
  texts_of h = map (text_at B) h.bodies ++ map (λ (x : Document). x.bytes) h.waiting

  -- the text of a span
  pub text_of_span : (p : ℕ) (w zs : List ℕ) → drop p T ≡ w ++ zs → text_at B (span o p (p + length w)) ≡ w
  text_of_span p w zs at =
      let n : o + (p + length w) - (o + p) ≡ length w = omega arith in
      ap (λ k. take k (drop (o + p) B)) n ∙ ap (take (length w)) (sym (drop-drop p o B) ∙ ap (drop p) S.here)
      ∙ text_here T p w zs at

  -- bodies that are read from p on
  pub record BodiesRead (xs : Row Document) (bodies : Row Span) (p : ℕ) : Type 0 where
    pub spans : Row Span
    pub reads : bodies_from g (map as_waiting xs) bodies p
        ≡ Ok (bodies ++ spans, p + length (held_bytes xs))
    pub texts : map (text_at B) spans ≡ map (λ (x : Document). x.bytes) xs

  -- past a text that stands here the text has not ended
  within_by : (p n : ℕ) (w zs : List ℕ) → p ≤ length T → drop p T ≡ w ++ zs → n ≡ length w → p + n ≤ length T
  within_by p n w zs within at is = let size : length T - p ≡ length w + length zs = sym (length-drop p T)
      ∙ ap length at ∙ length-append w zs in omega (arith, size, within, is)

  -- the bodies of all that waits are read, one after the other
  pub all_bodies : (xs : Row Document) (bodies : Row Span) (p : ℕ) (zs : Text) → p ≤ length T →
      drop p T ≡ held_bytes xs ++ zs → BodiesRead xs bodies p
  unfolding held_bytes bodies_from
  all_bodies [] bodies p zs within at = record {
    spans = [];
    reads = rw append-nil (ap (λ (q : ℕ). Ok (bodies, q)) (omega arith));
    texts = refl;
  }
  all_bodies (x ∷ xs) bodies p zs within at =
      let rest = held_bytes xs ++ zs in
      let whole : drop p T ≡ bytes_of x ++ rest = at ∙ append_assoc (bytes_of x) (held_bytes xs) zs in
      let parts : drop p T ≡ x.bytes ++ (x.d.text ++ newline_char ∷ rest) = whole
      ∙ append_assoc x.bytes (x.d.text ++ newline_char ∷ []) rest
      ∙ ap (λ r. x.bytes ++ r) (append_assoc x.d.text (newline_char ∷ []) rest) in
      let size : length (bytes_of x) ≡ length x.bytes + (length x.d.text + 1) =
      length-append x.bytes (x.d.text ++ newline_char ∷ [])
      ∙ ap (λ n. length x.bytes + n) (length-append x.d.text (newline_char ∷ [])) in
      let q = p + length x.bytes in
      let f = p + length (bytes_of x) in
      let s = span o p q in
      let found : delimiter_from T (as_waiting x) p ≡ Some q = x.good.ends_there T x.b p rest within parts in
      let past : past_line T q ≡ f = x.good.past_it T p rest within parts ∙ ap (λ n. p + n) (sym size) in
      let others = all_bodies xs (bodies ++ s ∷ []) f zs
      (within_by p (length (bytes_of x)) (bytes_of x) rest within whole refl)
      (past_text_stands T p (bytes_of x) rest whole) in
      let last : f + length (held_bytes xs) ≡ p + length (bytes_of x ++ held_bytes xs) = let n =
      length-append (bytes_of x) (held_bytes xs) in omega (arith, n) in
      record {
        spans = s ∷ others.spans;
        reads = ap (body_by (bodies_from g (map as_waiting xs)) g
            (as_waiting x) bodies p) found
            ∙ ap (bodies_from g (map as_waiting xs) (bodies ++ s ∷ [])) past ∙ others.reads
            ∙ rw (append_assoc, last) refl;
        texts = rw (text_of_span p x.bytes (x.d.text ++ newline_char ∷ rest) parts, others.texts) refl;
      }

  -- a newline token at p, and the bodies after it
  pub record Emptied (h : Held) (p : ℕ) (ms : Marks) : Type 0 where
    pub later : Held
    pub q : ℕ
    pub on : p + 1 ≤ q
    pub within : q ≤ length T
    pub reads : Gives g (change bodies_here) (state h (p + 1)) tt (state later q)
    pub at : At later q ms
    pub none : later.waiting ≡ []
    pub texts : texts_of later ≡ texts_of h

  -- a newline token reads them
  pub emptied : (h : Held) (p : ℕ) (ms : Marks) → At h p (line_end ∷ ms) → Emptied h p ms
  unfolding laid_after held_bytes
  emptied h p ms at =
      let zs = laid_after [] ms in
      let whole : drop p T ≡ (newline_char ∷ held_bytes h.waiting) ++ zs = at in
      let at_after : drop (p + 1) T ≡ held_bytes h.waiting ++ zs =
      past_text_stands T p (newline_char ∷ []) (held_bytes h.waiting ++ zs) at in
      let size : length (drop p T) ≡ suc (length (held_bytes h.waiting ++ zs)) = ap length at in
      let within : p + 1 ≤ length T = omega (arith, size, length-drop p T) in
      let r = all_bodies h.waiting h.bodies (p + 1) zs within at_after in
      let q = p + 1 + length (held_bytes h.waiting) in
      let now = held_so [] (h.bodies ++ r.spans) in
      record {
        later = now;
        q = q;
        on = omega arith;
        within = within_by (p + 1) (length (held_bytes h.waiting)) (held_bytes h.waiting) zs within at_after refl;
        reads = gives _ (changes (ap state_by r.reads));
        at = past_text_stands T (p + 1) (held_bytes h.waiting) zs at_after;
        none = refl;
        texts = append-nil (map (text_at B) (h.bodies ++ r.spans)) ∙ map-append (text_at B) h.bodies r.spans
            ∙ ap (λ r. map (text_at B) h.bodies ++ r) r.texts;
      }
