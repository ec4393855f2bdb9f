-- What is kept of a tree: one more of a row, and what stands in a substitution.
use Rattle.std.proofs.Common.{◌≡◌, ℕ, zero, suc, ◌-◌, ◌<◌, Bool, true, false, List as Row, [], ◌∷◌, map, refl, arith, sub-one, if◌then◌else◌, ◌==◌}
use Rattle.std.proofs.lemmas.List.{map-append}
use Rattle.shgrammar.specs.declared.keep.Keep.{Keep}
use Rattle.shgrammar.specs.declared.keep.Keep.TheVariants.{Nothing}
use Rattle.shast.specs.Tree.{ASubst}
use Rattle.shgrammar.specs.Sights.{Given, State}
use Rattle.shgrammar.specs.Form.{does, inside, pushed}
use Rattle.shgrammar.specs.Substitutions.{a_substitution, one_substitution}
use Rattle.shgrammar.specs.Levels.{level}
use Rattle.shline.specs.Clauses.{kept}

-- one more of a row is one more of what is seen of it
pub pushed_seen : {A B : Type 0} (view : A → B) (keep : Bool) (xs : Row A) (x : A) →
    map view (pushed keep xs x) ≡ pushed keep (map view xs) (view x)
pushed_seen view true xs x = map-append view xs (x ∷ [])
pushed_seen view false xs x = refl

-- where no tree may grow nothing is kept, in a substitution as well
inside_kept : (k : Bool) (keep : Keep) → inside (if k then keep else Nothing) ≡ (if k then inside keep else Nothing)
inside_kept true keep = refl
inside_kept false keep = refl

-- where there is room, a command substitution is read by its row, with what is kept inside of one
pub substitution_inside : (k : ℕ) (keep : Keep) (g : Given) (s : State) (room b : ℕ) (ss : Row ASubst) → 0 < room
    → does ((level room).substitution b ss) (kept k keep) g s
    ≡ does (one_substitution (level (room - 1)) b ss) (kept k (inside keep)) g s
unfolding level a_substitution
substitution_inside k keep g s zero b ss lt = absurd (omega arith)
substitution_inside k keep g s (suc room) b ss lt = rw (sub-one, ← inside_kept (k == 1) keep) refl
