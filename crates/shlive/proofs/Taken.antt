-- Bytes that are taken one after the other.
use Rattle.std.proofs.Common.{◌≡◌, ℕ, ◌<◌, ◌≤◌, List, [], ◌∷◌, ◌++◌, Option, None, Some, length, take, drop, refl, sym, ap, ◌∙◌, arith, append_assoc, append-nil, length-append, subst, ⊎_elim}
use Rattle.std.specs.Io.KnownBytes.{Consumes}
use Rattle.std.proofs.lemmas.Bool.{cases_lt}
use Rattle.std.proofs.lemmas.List.{drop_all, length-take-le, take-append-drop, take_all}
use Rattle.shtext.proofs.Known.{Consumes-trans}
use Rattle.shlive.specs.Ahead.{Ahead, TakesBytes}

-- to read nothing leaves what a reader has left
consumes_none : (a : Option (List ℕ)) → Consumes a a []
consumes_none None = tt
consumes_none (Some x) = refl

-- what is taken and then more is taken all together
pub takes_both : (a b c : Ahead) (t u v : List ℕ) → TakesBytes a b t → TakesBytes b c u → t ++ u ≡ v → TakesBytes a c v
takes_both a b c t u v p q is = record {
  more = p.more ++ q.more;
  consumed = Consumes-trans a.left b.left c.left p.more q.more _ p.consumed q.consumed refl;
  counted = q.counted ∙ let both = length-append p.more q.more in let one = p.counted in omega (arith, both, one);
  same = sym (append_assoc a.waiting.bytes p.more q.more) ∙ ap (λ l. l ++ q.more) p.same
      ∙ append_assoc t b.waiting.bytes q.more
      ∙ ap (λ l. t ++ l) q.same ∙ sym (append_assoc t u c.waiting.bytes) ∙ ap (λ l. l ++ c.waiting.bytes) is;
}

-- nothing was taken
pub takes_none : (a : Ahead) → TakesBytes a a []
takes_none a = record {
  more = [];
  consumed = consumes_none a.left;
  counted = omega arith;
  same = append-nil a.waiting.bytes;
}

-- what waited first was taken
pub takes_front : (a b : Ahead) (t : List ℕ) → b.left ≡ a.left → b.waiting.count ≡ a.waiting.count →
    a.waiting.bytes ≡ t ++ b.waiting.bytes → TakesBytes a b t
takes_front a b t left count is = record {
  more = [];
  consumed = subst (λ l. Consumes a.left l []) (sym left) (consumes_none a.left);
  counted = count ∙ omega arith;
  same = append-nil a.waiting.bytes ∙ is;
}

-- one more byte was taken, and nothing before it
pub takes_byte : (a b c d : Ahead) (t : List ℕ) (byte : ℕ) → TakesBytes a b t → TakesBytes b c [] → d.left ≡ c.left →
    d.waiting.count ≡ c.waiting.count
    → c.waiting.bytes ≡ byte ∷ d.waiting.bytes → TakesBytes a d (t ++ byte ∷ [])
takes_byte a b c d t byte p q left count is =
    takes_both a c d t (byte ∷ []) _ (takes_both a b c t [] t p q (append-nil t))
    (takes_front c d (byte ∷ []) left count is) refl

-- the front of what waits, and the rest
pub front_and_rest : (most : ℕ) (bytes : List ℕ) → take most bytes ++ drop (length (take most bytes)) bytes ≡ bytes
front_and_rest most bytes =
    ⊎_elim
    (λ (lt : most < length bytes). ap (λ n. take most bytes ++ drop n bytes)
    (length-take-le most bytes (omega (arith, lt))) ∙ take-append-drop most bytes)
    (λ (ge : length bytes ≤ most).
    ap (λ l. l ++ drop (length l) bytes) (take_all most bytes ge)
    ∙ ap (λ l. bytes ++ l) (drop_all (length bytes) bytes (omega arith)) ∙ append-nil bytes)
    (cases_lt most (length bytes))
