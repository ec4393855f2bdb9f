-- What may be opened where so many more constructs may be, and what is read there.
use Rattle.std.specs.Prelude.{ℕ, zero, suc, ◌+◌, [], ◌∷◌, Ok}
use Rattle.shgrammar.specs.declared.fault.FaultKind.TheVariants.{TooDeep}
use Rattle.shast.specs.Tree.{AWord}
use Rattle.shgrammar.specs.Sights.{Given, here, standing}
use Rattle.shgrammar.specs.Form.{see, stop, ◌>>=◌, may, raw}
use Rattle.shgrammar.specs.Words.{Inner, contents, a_word}
use Rattle.shgrammar.specs.Compounds.{a_compound, a_function}
use Rattle.shgrammar.specs.Substitutions.{a_substitution}

-- how many constructs may be open
abbrev pub most_open : ℕ
most_open = 100

-- where no more may be opened, an opener is a fault
unfoldable pub level : ℕ → Inner
level zero = record {
  construct = λ mode b ss. stop TooDeep b;
  substitution = λ b ss. stop TooDeep b;
  compound = λ o. see here >>= λ p. stop TooDeep p;
  function = λ name. stop TooDeep name.start;
}
level (suc room) = record {
  construct = λ mode b ss. contents (level room) mode b ss;
  substitution = λ b ss. a_substitution (level room) b ss;
  compound = λ o. a_compound (level room) o;
  function = λ name. a_function (level room) name;
}

-- The row of a word reads the n bytes from p on, where so many constructs may be open. There may be none.
abbrev pub ReadsWord : ℕ → Given → ℕ → ℕ → Type 0
ReadsWord room g p n = (w : AWord)
    × may (a_word (level room)) g (standing p) (Ok (w, standing (p + n))) (raw g.text p (p + n) ∷ [])
