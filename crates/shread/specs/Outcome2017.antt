-- What POSIX.1-2017 makes of a script: the rows of the grammar see what that edition says
-- (`shgrammar/specs/By2017`), and the cases are those of `may` and `Lines`. A law of this crate, `by_2017`,
-- says that the outcomes by that edition are these.
use Rattle.std.specs.Prelude.{ℕ, ◌+◌, true, false, [], ◌∷◌, ◌++◌, List, List as Row, drop, None, Some, Ok, Err}
use Rattle.shgrammar.specs.declared.edition.Edition.TheVariants.{Y2017}
use Rattle.shgrammar.specs.declared.fault.Fault.{Fault}
use Rattle.shast.specs.Tree.{AnEntry, entries_of}
use Rattle.shgrammar.specs.By2017.{next_2017, piece_2017}
use Rattle.shgrammar.specs.Form.{Comes, Either, Ending, Form, Halts, Just, OneToken, OwnLevel, Changed, Spelled, Then, Turns, WithBytes, moved_on, give, see, move, push, stop, both, when, token, loop, ends_as, change, with_bytes, a_level, in_substitution}
use Rattle.shgrammar.specs.HereDocuments.{changed, delimiter_of}
use Rattle.shgrammar.specs.Scripts.{AScript, LinesSoFar, is_blank_line, nothing_yet, the_line, with_line}
use Rattle.shgrammar.specs.Sights.{Given, Sight, State, given, seen, standing, the_delimiter, the_piece, the_token}

-- what a row sees
abbrev pub seen_2017 : {X : Type 0} → Sight X → Given → State → X
seen_2017 (the_piece mode nested) g s = piece_2017 g.text mode nested s.at
seen_2017 (the_token position) g s = next_2017 position g.text s.at
seen_2017 (the_delimiter bytes) g s = delimiter_of bytes
seen_2017 sight g s = seen sight g s

-- what may be read by a form
abbrev pub may_2017 : {X : Type 0} → Form X → Given → Comes X
may_2017 (give x) g s = Just x s
may_2017 (see f) g s = Just (seen_2017 f g s) s
may_2017 (move m) g s = Just tt (moved_on m g s)
may_2017 (push xs x) g s = Just (xs ++ x ∷ []) s
may_2017 (stop kind at) g s = Halts (record { kind = kind; at = at })
may_2017 (both r q) g s = Then (may_2017 r g) (λ x. may_2017 (q x) g) s
may_2017 (when f r q) g s = Either (seen_2017 f g s) (may_2017 r g) (may_2017 q g) s
may_2017 (token told r) g s = OneToken told g (may_2017 r g) s
may_2017 (loop turn a) g s = Turns g (λ b. may_2017 (turn b) g) a s
may_2017 (ends_as kind at r) g s = Ending kind at (may_2017 r g) s
may_2017 (change c) g s = Changed (changed c g s)
may_2017 (with_bytes r) g s = WithBytes g (may_2017 r g) s
may_2017 (a_level r) g s = OwnLevel (may_2017 r g) s
may_2017 (in_substitution r) g s = may_2017 r g s

-- the lines from p on, and the tokens passed
pub data Lines_2017 (B : List ℕ) : LinesSoFar → ℕ → AScript → Row Spelled → Type 0 where
  line_ended : {so : LinesSoFar} {p : ℕ} {s : AScript} {l : Row Spelled} (es : Row AnEntry) (t : State)
      (k : Row Spelled)
      → may_2017 (the_line (is_blank_line so)) (given Y2017 (drop p B) p) (standing 0) (Ok ((es, true), t)) k →
      Lines_2017 B (with_line so es) (p + t.at) s l → Lines_2017 B so p s (k ++ l)
  last_line : {so : LinesSoFar} {p : ℕ} (es : Row AnEntry) (t : State) (k : Row Spelled) →
      may_2017 (the_line (is_blank_line so)) (given Y2017 (drop p B) p) (standing 0) (Ok ((es, false), t)) k
      → Lines_2017 B so p (record { entries = entries_of (so.entries ++ es); fault = None }) k
  faulty : {so : LinesSoFar} {p : ℕ} (f : Fault) (k : Row Spelled) →
      may_2017 (the_line (is_blank_line so)) (given Y2017 (drop p B) p) (standing 0) (Err f) k
      → Lines_2017 B so p (record { entries = entries_of so.entries; fault = Some f }) k

-- what a script is
abbrev pub Outcome_2017 : List ℕ → AScript → Type 0
Outcome_2017 B s = (k : Row Spelled) × Lines_2017 B nothing_yet 0 s k
