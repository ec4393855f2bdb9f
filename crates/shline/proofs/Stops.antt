-- What stops: a turn of a row, a piece of a word, or what stands after plain bytes.
use Rattle.std.proofs.Common.{◌≡◌, ◌∙◌, ◌+◌, ◌≤◌, ℕ, List, List as Row, [], length, refl, subst}
use Rattle.shgrammar.specs.declared.keep.Keep.{Keep}
use Rattle.shgrammar.specs.declared.mode.Mode.{Mode}
use Rattle.shgrammar.specs.declared.mode.Mode.TheVariants.{Plain}
use Rattle.shline.specs.declared.stop.Stop.{Stop}
use Rattle.shline.specs.declared.stop.Stop.TheVariants.{Memory, Wrong}
use Rattle.shast.specs.declared.tree.Span.{Span}
use Rattle.shast.specs.Tree.{ASubst}
use Rattle.shline.specs.Clauses.{Fails}
use Rattle.shline.specs.Limits.{Limits}
use Rattle.shgrammar.specs.Sights.{Given, State, Waiting, given}
use Rattle.shgrammar.specs.Form.{Form, Read, Step, does, many}
use Rattle.shgrammar.specs.Plain.{ArePlain}
use Rattle.shgrammar.specs.Words.{Inner, WordSoFar, a_piece, a_word, contents, word_so_far}
use Rattle.shgrammar.proofs.PlainBytes.{given_by, placed, plain_contents}
use Rattle.shgrammar.proofs.Turns.{turns_fault}
use Rattle.shgrammar.specs.declared.edition.Edition.{Edition}

module _ {A : Type 0} (turn : A → Form (Step A)) (keep : Keep) (g : Given) where
  -- a turn that stops, stops the repetition
  pub many_stop : (a : A) (s : State) (bound : Limits) (e : Stop) → Fails bound e (does (turn a) keep g s) →
      Fails bound e (does (many turn a) keep g s)
  unfolding many
  many_stop a s bound Memory one = one
  many_stop a s bound (Wrong e) one = (turns_fault g (λ c u. does (turn c) keep g u) a s e one.0, one.1)

-- ---- in a word

-- what stops the pieces of a construct stops what it holds
stops : (bound : Limits) (e : Stop) (x : Read WordSoFar) → Fails bound e x → Fails bound e (given_by x)
stops bound Memory x stop = stop
stops bound (Wrong f) x stop = (rw (stop.0) refl, stop.1)

module _ (inner : Inner) (keep : Keep) (g : Given) (mode : Mode) (b : ℕ) (ws : Row Waiting) (ds : Row Span) where
  -- all pieces
  abbrev all : Row Waiting → Row Span → WordSoFar → ℕ → Read WordSoFar
  all vs es h p = does (many (a_piece inner mode b) h) keep g (placed vs es p)

  -- a piece that stops, stops all
  pub contents_stop : (h : WordSoFar) (ss : Row ASubst) (vs : Row Waiting) (es : Row Span) (p s : ℕ) (bound : Limits)
      (e : Stop) → all ws ds h p ≡ all vs es (word_so_far 0 ss) s
      → Fails bound e (does (a_piece inner mode b h) keep g (placed ws ds p)) →
      Fails bound e (does (contents inner mode b ss) keep g (placed vs es s))
  unfolding contents
  contents_stop h ss vs es p s bound e so stop =
      stops bound e _ (subst (Fails bound e) so
      (many_stop (a_piece inner mode b) keep g h (placed ws ds p) bound e stop))

-- what stops after plain bytes of a word stops the word
pub word_stops : (edition : Edition) (inner : Inner) (keep : Keep) (ws : Row Waiting) (ds : Row Span) (T : List ℕ)
    (o p q : ℕ) (bound : Limits) (e : Stop) → ArePlain Plain T p q → p ≤ q → q ≤ length T
    → Fails bound e (does (contents inner Plain (o + p) []) keep (given edition T o) (placed ws ds q)) →
    Fails bound e (does (a_word inner) keep (given edition T o) (placed ws ds p))
unfolding a_word
word_stops edition inner keep ws ds T o p q bound Memory plain low high rest = rest
word_stops edition inner keep ws ds T o p q bound (Wrong f) plain low high rest =
    (rw (plain_contents inner keep (given edition T o) Plain (o + p) ws ds [] p q plain low high ∙ rest.0) refl, rest.1)
