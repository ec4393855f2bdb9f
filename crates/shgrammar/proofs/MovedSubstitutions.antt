-- A command substitution elsewhere, with its tree or without; and so all that may be opened.
use Rattle.std.proofs.Common.{◌≡◌, ◌∙◌, ℕ, zero, suc, ◌+◌, Bool, true, false, Ok, Err, List as Row, [], map, refl, sym}
use Rattle.shgrammar.specs.declared.keep.Keep.TheVariants.{Nothing, Whole}
use Rattle.shast.specs.Tree.{ASubst}
use Rattle.shgrammar.specs.Sights.{State}
use Rattle.shgrammar.specs.Form.{Read, does, inside}
use Rattle.shgrammar.specs.Levels.{level}
use Rattle.shgrammar.specs.Moved.{moved_state}
use Rattle.shgrammar.specs.Substitutions.{a_substitution, one_substitution}
use Rattle.shgrammar.specs.Words.{Inner}
use Rattle.shgrammar.proofs.Alike.{All, Like as LikeWithout}
use Rattle.shgrammar.proofs.AlikeCommands.{InnerAlike}
use Rattle.shgrammar.proofs.AlikeLists.{alike_level, alike_substitution}
use Rattle.shgrammar.proofs.Holds.{Holds, Tells, tells_any, tells_seen, tells_then}
use Rattle.shgrammar.proofs.Moved.{Any, Like, Moves, Place, by_itself, elsewhere, kept, moves_here, moves_stop}
use Rattle.shgrammar.proofs.MovedLists.{moves_compound, moves_function, moves_one_substitution}
use Rattle.shgrammar.proofs.MovedTrees.{subst_to, substs_to}
use Rattle.shgrammar.proofs.MovedWords.{InnerMoves, moves_contents}

-- the same place, with all trees
abbrev pub with_all : Place → Place
with_all z = record { text = z.text; offset = z.offset; edition = z.edition; base = z.base; deep = true }

module _ (z : Place) (inner : Inner) (fits : InnerMoves (with_all z) inner)
    (fits_without : InnerAlike (elsewhere z) inner) (b : ℕ) (ss : Row ASubst) where
  -- how much further on the text stands
  abbrev k : ℕ
  k = z.base

  -- without its tree, where no row grows
  none_grows : (p : ℕ) (s : State) →
      Tells Nothing (elsewhere z) (one_substitution inner p []) (λ (ys : Row ASubst) (t : State). ys ≡ []) s
  unfolding one_substitution
  none_grows p s = tells_then Nothing (elsewhere z) (tells_any Nothing (elsewhere z))
      (λ es t so. tells_seen Nothing (elsewhere z) (record { told = refl }))

  -- without its tree nothing is kept of what is read, and it ends in the same state, moved
  left_out : (x y w : Read (Row ASubst)) → Like k (map (subst_to k true)) Any x y → LikeWithout All y w
      → Holds (λ (ys : Row ASubst) (t : State). ys ≡ []) w → Like k (λ (xs : Row ASubst). []) Any x w
  left_out (Ok (x, s)) (Ok (y, t)) (Ok (w, u)) like same none = (none, sym same.0 ∙ like.1, tt)
  left_out (Ok (x, s)) (Ok (y, t)) (Err e) like same none = absurd same
  left_out (Ok (x, s)) (Err e) w like same none = absurd like
  left_out (Err e) (Ok (y, t)) w like same none = absurd like
  left_out (Err e) (Err f) (Ok (w, u)) like same none = absurd same
  left_out (Err e) (Err f) (Err h) like same none = sym same ∙ like

  -- one substitution, with its tree or without
  abbrev Read_there : Bool → State → Type 0
  Read_there deep s =
      Like k (substs_to k deep) Any (does (one_substitution inner b ss) Whole (by_itself z) s)
      (does (one_substitution inner (k + b) (substs_to k deep ss)) (inside (kept deep)) (elsewhere z) (moved_state k s))

  there : (deep : Bool) (s : State) → Read_there deep s
  unfolding a_substitution
  there true s = (moves_one_substitution (with_all z) inner fits b ss).like s
  there false s =
      left_out _ _ _ ((moves_one_substitution (with_all z) inner fits b ss).like s)
      ((alike_substitution fits_without (k + b) (map (subst_to k true) ss) []).like
      (moved_state k s)) (none_grows (k + b) (moved_state k s)).told

  -- so it is with whatever is kept there
  pub moves_substitution : Moves z (substs_to k z.deep) Any (a_substitution inner b ss)
      (a_substitution inner (k + b) (substs_to k z.deep ss))
  unfolding a_substitution
  moves_substitution = record { like = λ s. there z.deep s }

-- words within words, commands within commands
pub moves_inner : (z : Place) (room : ℕ) → InnerMoves z (level room)
unfolding level
moves_inner z zero = record {
  construct = λ mode b ss. moves_stop;
  substitution = λ b ss. moves_stop;
  compound = λ o. moves_here (λ p. moves_stop);
  function = λ name. moves_stop;
}
moves_inner z (suc room) =
    record {
      construct = λ mode b ss. moves_contents z (level room) (moves_inner z room) mode b ss;
      substitution = λ b ss. moves_substitution z (level room) (moves_inner (with_all z) room)
          (alike_level (elsewhere z) room) b ss;
      compound = λ o. moves_compound z (level room) (moves_inner z room) o;
      function = λ name. moves_function z (level room) (moves_inner z room) name;
    }
