-- What may be read where each turn that goes on leads on. In `shgrammar/specs/Form` a turn that says to go
-- on, and leaves no less of the text, is the last one all the same (`rests`); here it is no turn. The cases
-- are those of `may` and `Lines`, but for that one. A law of this crate, `turns_lead_on`, says that the
-- outcomes are the same.
use Rattle.std.specs.Prelude.{◌≡◌, ℕ, ◌+◌, Bool, true, false, [], ◌∷◌, ◌++◌, List, List as Row, drop, None, Some, Ok, Err}
use Rattle.shgrammar.specs.declared.edition.Edition.{Edition}
use Rattle.shgrammar.specs.declared.fault.Fault.{Fault}
use Rattle.shast.specs.Tree.{AnEntry, entries_of}
use Rattle.shgrammar.specs.Form.{Changed, Comes, Either, Ending, Form, Halts, Just, OneToken, OwnLevel, Read, Spelled, Step, Then, WithBytes, again, done, leads_on, many, moved_on, give, see, move, push, stop, both, when, token, loop, ends_as, change, with_bytes, a_level, in_substitution}
use Rattle.shgrammar.specs.HereDocuments.{changed}
use Rattle.shgrammar.specs.Scripts.{AScript, LinesSoFar, is_blank_line, nothing_yet, the_line, with_line}
use Rattle.shgrammar.specs.Sights.{Given, State, given, seen, standing}

-- turns, of which each that goes on leads on
pub data TurnsOn {A : Type 0} (g : Given) (turn : A → Comes (Step A))
    : A → State → Read A → Row Spelled → Type 0 where
  last : {a b : A} {s t : State} {k : Row Spelled} → turn a s (Ok (done b, t)) k
      → TurnsOn g turn a s (Ok (b, t)) k
  more : {a b : A} {s t : State} {x : Read A} {k l : Row Spelled} → turn a s (Ok (again b, t)) k
      → leads_on g s t ≡ true → TurnsOn g turn b t x l → TurnsOn g turn a s x (k ++ l)
  halts : {a : A} {s : State} {f : Fault} {k : Row Spelled} → turn a s (Err f) k
      → TurnsOn g turn a s (Err f) k

-- what may be read by a form
abbrev pub may_onward : {X : Type 0} → Form X → Given → Comes X
may_onward (give x) g s = Just x s
may_onward (see f) g s = Just (seen f g s) s
may_onward (move m) g s = Just tt (moved_on m g s)
may_onward (push xs x) g s = Just (xs ++ x ∷ []) s
may_onward (stop kind at) g s = Halts (record { kind = kind; at = at })
may_onward (both r q) g s = Then (may_onward r g) (λ x. may_onward (q x) g) s
may_onward (when f r q) g s = Either (seen f g s) (may_onward r g) (may_onward q g) s
may_onward (token told r) g s = OneToken told g (may_onward r g) s
may_onward (loop turn a) g s = TurnsOn g (λ b. may_onward (turn b) g) a s
may_onward (ends_as kind at r) g s = Ending kind at (may_onward r g) s
may_onward (change c) g s = Changed (changed c g s)
may_onward (with_bytes r) g s = WithBytes g (may_onward r g) s
may_onward (a_level r) g s = OwnLevel (may_onward r g) s
may_onward (in_substitution r) g s = may_onward r g s

-- a repetition that never moves, and has no last turn
abbrev pub idle : Form (Unit {0})
idle = many (λ u. give (again u)) tt

-- what may be read of the line at p
abbrev pub LineOnward : Edition → List ℕ → LinesSoFar → ℕ → Read (Row AnEntry × Bool) → Row Spelled → Type 0
LineOnward edition B so p x k =
    may_onward (the_line (is_blank_line so)) (given edition (drop p B) p) (standing 0) x k

-- the lines from p on, and the tokens passed
pub data LinesOnward (edition : Edition) (B : List ℕ) : LinesSoFar → ℕ → AScript → Row Spelled → Type 0 where
  line_ended : {so : LinesSoFar} {p : ℕ} {s : AScript} {l : Row Spelled} (es : Row AnEntry) (t : State)
      (k : Row Spelled) → LineOnward edition B so p (Ok ((es, true), t)) k
      → LinesOnward edition B (with_line so es) (p + t.at) s l → LinesOnward edition B so p s (k ++ l)
  last_line : {so : LinesSoFar} {p : ℕ} (es : Row AnEntry) (t : State) (k : Row Spelled)
      → LineOnward edition B so p (Ok ((es, false), t)) k
      → LinesOnward edition B so p (record { entries = entries_of (so.entries ++ es); fault = None }) k
  faulty : {so : LinesSoFar} {p : ℕ} (f : Fault) (k : Row Spelled) → LineOnward edition B so p (Err f) k
      → LinesOnward edition B so p (record { entries = entries_of so.entries; fault = Some f }) k

-- what is read of the bytes of a script, and the tokens passed
abbrev pub PassesOnward : Edition → List ℕ → AScript → Row Spelled → Type 0
PassesOnward edition B s k = LinesOnward edition B nothing_yet 0 s k
