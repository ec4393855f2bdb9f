-- What a construct may hold, by how many more may be opened.
use Rattle.std.proofs.Common.{◌≡◌, ℕ, zero, suc, ◌+◌, ◌-◌, ◌<◌, Bool, true, false, Ok, Err, List as Row, [], ◌∷◌, ◌++◌, refl, arith, sub-one}
use Rattle.shgrammar.specs.declared.keep.Keep.{Keep}
use Rattle.shgrammar.specs.declared.fault.FaultKind.TheVariants.{TooDeep}
use Rattle.shgrammar.specs.declared.mode.Mode.{Mode}
use Rattle.shgrammar.specs.declared.token.Opener.{Opener}
use Rattle.shast.specs.Tree.{AnEntry, ASubst, Entries, subst}
use Rattle.shast.specs.declared.tree.Span.{Span}
use Rattle.shgrammar.specs.HereDocuments.{own_level, outer_level}
use Rattle.shast.specs.Bodies.{filled, filled_row}
use Rattle.shgrammar.specs.Sights.{Given, State}
use Rattle.shgrammar.specs.Form.{does, pushed, grows}
use Rattle.shgrammar.specs.Compounds.{a_compound, a_function}
use Rattle.shgrammar.specs.Comments.{span}
use Rattle.shgrammar.specs.Substitutions.{substitution_list, one_substitution}
use Rattle.shgrammar.specs.Words.{Inner, contents}
use Rattle.shgrammar.specs.Lines.{a_line, an_open_line}
use Rattle.shgrammar.specs.Levels.{level}

-- a row of a tree that is grown, and of one that is not
pub subst_kept : (keep : Bool) (ss : Row ASubst) (x : ASubst) → keep ≡ true → pushed keep ss x ≡ ss ++ x ∷ []
subst_kept keep ss x is = rw is refl

pub subst_left : (keep : Bool) (ss : Row ASubst) (x : ASubst) → keep ≡ false → pushed keep ss x ≡ ss
subst_left keep ss x is = rw is refl

module _ (keep : Keep) (g : Given) (s : State) where
  -- where more may be opened, a construct is its pieces, with room for one less
  pub level_below : (room : ℕ) (mode : Mode) (b : ℕ) (ss : Row ASubst) → 0 < room
      → does ((level room).construct mode b ss) keep g s ≡ does (contents (level (room - 1)) mode b ss) keep g s
  unfolding level
  level_below zero mode b ss lt = absurd (omega arith)
  level_below (suc room) mode b ss lt = rw sub-one refl

  -- where none may be, a construct and a command substitution are a fault where they begin
  pub level_closed : (room : ℕ) (mode : Mode) (b : ℕ) (ss : Row ASubst) → room ≡ 0 →
      does ((level room).construct mode b ss) keep g s ≡ Err (record { kind = TooDeep; at = b })
  unfolding level
  level_closed room mode b ss e = rw e refl

  pub substitution_closed : (room : ℕ) (b : ℕ) (ss : Row ASubst) → room ≡ 0 →
      does ((level room).substitution b ss) keep g s ≡ Err (record { kind = TooDeep; at = b })
  unfolding level
  substitution_closed room b ss e = rw e refl

  -- a substitution that was read: as one more of these, if a tree is grown
  pub substitution_read : (inner : Inner) (p : ℕ) (ss : Row ASubst) (es : Entries) (t : State) →
      does (substitution_list inner) keep g (own_level s) ≡ Ok (es, t)
      → does (one_substitution inner (g.offset + p) ss) keep g s
      ≡ Ok (pushed (grows keep) ss (subst (filled t.bodies es) (span g.offset p t.at)), outer_level s t)
  unfolding one_substitution
  substitution_read inner p ss es t is = rw is refl

  -- a line that was read
  pub line_read : (inner : Inner) (blank newline : Bool) (es : Row AnEntry) (t : State) →
      does (an_open_line inner blank) keep g (own_level s) ≡ Ok ((es, newline), t)
      → does (a_line inner blank) keep g s ≡ Ok ((filled_row t.bodies es, newline), outer_level s t)
  unfolding a_line
  line_read inner blank newline es t is = rw is refl

  -- a compound command: what it is where more may be opened, and a fault where none may be
  pub compound_below : (room : ℕ) (o : Opener) → 0 < room →
      does ((level room).compound o) keep g s ≡ does (a_compound (level (room - 1)) o) keep g s
  unfolding level
  compound_below zero o lt = absurd (omega arith)
  compound_below (suc room) o lt = rw sub-one refl

  pub compound_closed : (room : ℕ) (o : Opener) → room ≡ 0 →
      does ((level room).compound o) keep g s ≡ Err (record { kind = TooDeep; at = g.offset + s.at })
  unfolding level
  compound_closed room o e = rw e refl

  -- a function: the same, with a fault at its name
  pub function_below : (room : ℕ) (name : Span) → 0 < room →
      does ((level room).function name) keep g s ≡ does (a_function (level (room - 1)) name) keep g s
  unfolding level
  function_below zero name lt = absurd (omega arith)
  function_below (suc room) name lt = rw sub-one refl

  pub function_closed : (room : ℕ) (name : Span) → room ≡ 0 →
      does ((level room).function name) keep g s ≡ Err (record { kind = TooDeep; at = name.start })
  unfolding level
  function_closed room name e = rw e refl
