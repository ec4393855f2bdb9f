-- The words of a line, found from left to right.
use Rattle.std.proofs.Common.{◌≡◌, ℕ, ◌≤◌, ◌==◌, cond, Bool, true, false, List, [], ◌∷◌, ◌++◌, refl, sym, ap, append_assoc, None}
use Rattle.shgrammar.specs.Characters.{space}
use Rattle.shlive.specs.RequestKinds.{before, number_alone, kind_by_name, kind_of_words, part_of_words, words}

-- two texts before words are one
before_both : (t u : List ℕ) (ws : List (List ℕ)) → before t (before u ws) ≡ before (t ++ u) ws
before_both t u [] = refl
before_both t u (w ∷ ws) = ap (λ l. l ∷ ws) (sym (append_assoc t u w))

-- no text before the words of a line leaves them as they are
words_case : (b : ℕ) (bs : List ℕ) (x : Bool) →
    before [] (cond x ([] ∷ words bs) (before (b ∷ []) (words bs)))
    ≡ cond x ([] ∷ words bs) (before (b ∷ []) (words bs))
words_case b bs true = refl
words_case b bs false = before_both [] (b ∷ []) (words bs)

pub from_start : (line : List ℕ) → words line ≡ before [] (words line)
from_start [] = refl
from_start (b ∷ bs) = sym (words_case b bs (b == space))

-- ---- words too many

-- two words or more are no number alone
alone_more : (p : List ℕ) (ws : List (List ℕ)) → number_alone (p ∷ before [] ws) ≡ None
alone_more p [] = refl
alone_more p (w ∷ ws) = refl

pub not_alone : (p line : List ℕ) → number_alone (p ∷ words line) ≡ None
not_alone p line = rw (from_start line) (alone_more p (words line))

-- four words or more are no part
part_more : (a b n : List ℕ) (ws : List (List ℕ)) → part_of_words (a ∷ b ∷ n ∷ before [] ws) ≡ None
part_more a b n [] = refl
part_more a b n (w ∷ ws) = refl

pub part_too_many : (a b n line : List ℕ) → part_of_words (a ∷ b ∷ n ∷ words line) ≡ None
part_too_many a b n line = rw (from_start line) (part_more a b n (words line))

-- where words follow a name, the line asks by that name
by_name_more : (name : List ℕ) (ws : List (List ℕ)) →
    kind_of_words (name ∷ before [] ws) ≡ kind_by_name name (before [] ws)
by_name_more name [] = refl
by_name_more name (w ∷ ws) = refl

pub by_name : (name line : List ℕ) → kind_of_words (name ∷ words line) ≡ kind_by_name name (words line)
by_name name line = rw (from_start line) (by_name_more name (words line))
