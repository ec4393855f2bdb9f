-- What is read where each turn leads on may be read.
use Rattle.std.proofs.Common.{refl, ℕ, Bool, List, List as Row, drop}
use Rattle.shast.specs.Tree.{AnEntry}
use Rattle.shgrammar.specs.declared.edition.Edition.{Edition}
use Rattle.shgrammar.specs.Form.{Comes, Form, Read, Spelled, Step, give, see, move, push, stop, both, when, token, loop, ends_as, change, with_bytes, a_level, in_substitution, Turns, last, more, halts, may}
use Rattle.shgrammar.specs.Scripts.{AScript, Lines, Passes, LinesSoFar, is_blank_line, line_ended, last_line, faulty, the_line}
use Rattle.shgrammar.specs.Sights.{Given, State, given, standing}
use Rattle.shlaws.specs.Onward.{LineOnward, LinesOnward, PassesOnward, TurnsOn, faulty as faulty_on, halts as halts_on, last as last_on, last_line as last_line_on, line_ended as line_ended_on, may_onward, more as more_on}
use Rattle.shgrammar.proofs.Each.{Each, each_bytes, each_either, each_ending, each_level, each_then, each_token}

-- turns that lead on are turns
each_turn_on : {A : Type 0} (g : Given) {turn turn2 : A → Comes (Step A)} → ((a : A) → Each (turn a) (turn2 a))
    → (a : A) (s : State) (y : Read A) (k : Row Spelled)
    → TurnsOn g turn a s y k → Turns g turn2 a s y k
each_turn_on g one a s y k (last_on p) = last (one a s _ k p)
each_turn_on g one a s y k (more_on {b = b} {t = t} {k = k1} {l = l} p on next) =
    more (one a s _ k1 p) on (each_turn_on g one b t y l next)
each_turn_on g one a s y k (halts_on p) = halts (one a s _ k p)

-- the same of every form
pub may_of_onward : {X : Type 0} (g : Given) (r : Form X) → Each (may_onward r g) (may r g)
may_of_onward g (give x) s y k p = p
may_of_onward g (see f) s y k p = p
may_of_onward g (move m) s y k p = p
may_of_onward g (push xs x) s y k p = p
may_of_onward g (stop kind at) s y k p = p
may_of_onward g (both r q) s y k p = each_then (may_of_onward g r) (λ x. may_of_onward g (q x)) s y k p
may_of_onward g (when f r q) s y k p = each_either refl (may_of_onward g r) (may_of_onward g q) s y k p
may_of_onward g (token told r) s y k p = each_token told g (may_of_onward g r) s y k p
may_of_onward g (loop turn a) s y k p = each_turn_on g (λ b. may_of_onward g (turn b)) a s y k p
may_of_onward g (ends_as kind at r) s y k p = each_ending kind at (may_of_onward g r) s y k p
may_of_onward g (change c) s y k p = p
may_of_onward g (with_bytes r) s y k p = each_bytes g (may_of_onward g r) s y k p
may_of_onward g (a_level r) s y k p = each_level (may_of_onward g r) s y k p
may_of_onward g (in_substitution r) s y k p = may_of_onward g r s y k p

-- the same of the line at p of a script, of the lines from p on, and of all of them
may_of_line_onward : (edition : Edition) (B : List ℕ) (so : LinesSoFar) (p : ℕ) (x : Read (Row AnEntry × Bool))
    (k : Row Spelled) → LineOnward edition B so p x k
    → may (the_line (is_blank_line so)) (given edition (drop p B) p) (standing 0) x k
may_of_line_onward edition B so p x k read =
    may_of_onward (given edition (drop p B) p) (the_line (is_blank_line so)) (standing 0) x k read

may_of_lines_onward : (edition : Edition) (B : List ℕ) (so : LinesSoFar) (p : ℕ) (s : AScript) (k : Row Spelled)
    → LinesOnward edition B so p s k → Lines edition B so p s k
may_of_lines_onward edition B so p s k (line_ended_on {l = l} es t k1 read rest) =
    line_ended es t k1 (may_of_line_onward edition B so p _ k1 read) (may_of_lines_onward edition B _ _ s l rest)
may_of_lines_onward edition B so p s k (last_line_on es t k1 read) =
    last_line es t k1 (may_of_line_onward edition B so p _ k1 read)
may_of_lines_onward edition B so p s k (faulty_on f k1 read) = faulty f k1 (may_of_line_onward edition B so p _ k1 read)

pub passes_of_onward : (edition : Edition) (B : List ℕ) (s : AScript) (k : Row Spelled)
    → PassesOnward edition B s k → Passes edition B s k
passes_of_onward edition B s k read = may_of_lines_onward edition B _ 0 s k read
