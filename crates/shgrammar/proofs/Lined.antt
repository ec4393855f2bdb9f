-- The lines of a script, one after the other.
use Rattle.std.proofs.Common.{◌≡◌, ℕ, zero, suc, ◌+◌, ◌-◌, ◌≤◌, ◌<◌, Bool, true, false, Option, Result, Ok, Err, List, List as Row, [], length, drop, None, Some, refl, sym, ap, subst, ◌∙◌, arith, ⊎_elim}
use Rattle.std.proofs.lemmas.Bool.{cases_lt}
use Rattle.std.proofs.lemmas.List.{drop_all}
use Rattle.shgrammar.specs.declared.keep.Keep.{Keep}
use Rattle.shgrammar.specs.declared.keep.Keep.TheVariants.{Whole}
use Rattle.shgrammar.specs.declared.fault.Fault.{Fault}
use Rattle.shgrammar.specs.declared.token.Next.{Next}
use Rattle.shgrammar.specs.declared.token.Position.TheVariants.{Command}
use Rattle.shast.specs.Tree.{AnEntry, entries_of}
use Rattle.shgrammar.specs.Standing.{count_front, raw_stands}
use Rattle.shgrammar.specs.Bytes.{past_byte, past, past_below, past_blanks, past_continuations, count_joined}
use Rattle.shgrammar.specs.Comments.{comment_at}
use Rattle.shgrammar.specs.Tokens.{is_end, token_at}
use Rattle.shgrammar.specs.Sights.{Given, given, State, standing}
use Rattle.shgrammar.specs.HereDocuments.{bodies_here, changed, first_waiting, own_level}
use Rattle.shast.specs.Bodies.{filled_row}
use Rattle.shgrammar.specs.Form.{nothing_read, ◌▸◌, Form, Read, does, many, turns, turns_below}
use Rattle.shgrammar.specs.Words.{Inner}
use Rattle.shgrammar.specs.Levels.{level, most_open}
use Rattle.shgrammar.specs.Commands.{is_newline_token, next_token, a_comment, none_waits, nothing_waits, what_is_wrong}
use Rattle.shgrammar.specs.Lines.{line_end_by, end_of_line, an_open_line, a_line}
use Rattle.shgrammar.specs.Lists.{list_so_far, none_listed, entry_turn, a_remark, on_line}
use Rattle.shgrammar.specs.Scripts.{AScript, LinesSoFar, is_blank_line, with_line, the_line, line_from, script_by, script_below, script_on}
use Rattle.shgrammar.proofs.Places.{after_low}
use Rattle.shgrammar.proofs.Holds.{Holds, holds_then, holds_so, Tells, AtOrAfter, change_low, tells_give, tells_level, tells_then, tells_so, no_form_goes_back}
use Rattle.shgrammar.specs.declared.edition.Edition.{Edition}

-- ---- a line that a newline ends

-- a newline leads on
abbrev pub Ended : State → Bool → State → Type 0
Ended s newline t = newline ≡ true → s.at < t.at

-- so does the end of a line, where that is a newline and not the end of the text
ended_by : (inner : Inner) (keep : Keep) (g : Given) (s : State) (newline end : Bool) (n : Next) →
    Holds (Ended s) (does (line_end_by inner newline end n) keep g s)
unfolding nothing_waits
ended_by inner keep g s true end n =
    by_change (changed bodies_here g (past s))
    (λ t is. omega (arith, after_low g.text s.at, change_low bodies_here g (past s) t is))
  where
    past : State → State
    past u = record { at = past_byte g.text u.at; waiting = u.waiting; bodies = u.bodies }

    by_change : (x : Result State Fault) → ((t : State) → x ≡ Ok t → s.at < t.at) →
        Holds (Ended s) (nothing_read x ▸ λ u t. Ok (true, t))
    by_change (Ok t) so = λ e. so t refl
    by_change (Err f) so = tt
ended_by inner keep g s false true n = by_waiting (first_waiting s)
  where
    by_waiting : (w : Option ℕ) → Holds (Ended s) (does (none_waits w) keep g s ▸ λ u t. Ok (false, t))
    by_waiting None = λ e. absurd cc
    by_waiting (Some b) = tt
ended_by inner keep g s false false n =
    holds_then (λ w t. Unit {0}) (Ended s) (does (what_is_wrong inner n) keep g s) _
    (holds_so (AtOrAfter s) (λ w t. Unit {0}) _
    (no_form_goes_back (what_is_wrong inner n) keep g s).told (λ c t on. tt))
    (λ w t so. tt)

pub end_ended : (inner : Inner) (keep : Keep) (g : Given) (s : State) (n : Next) →
    Tells keep g (end_of_line inner n) (Ended s) s
unfolding end_of_line
end_ended inner keep g s n = record { told = ended_by inner keep g s (is_newline_token n.token) (is_end n.token) n }

-- the same of a line
abbrev LineEnded : State → Row AnEntry × Bool → State → Type 0
LineEnded s x t = x.1 ≡ true → s.at < t.at

-- what is at t or past it is so of s, which is before t
further : (keep : Keep) (g : Given) {X : Type 0} (r : Form X) (s t : State) → s.at ≤ t.at →
    Tells keep g r (AtOrAfter s) t
further keep g r s t on = tells_so keep g (no_form_goes_back r keep g t) (λ x u more. omega (arith, on, more))

-- each line leads on that a newline ends, without its level and with it
open_ended_low : (inner : Inner) (blank : Bool) (keep : Keep) (g : Given) (s : State) →
    Tells keep g (an_open_line inner blank) (LineEnded s) s
unfolding an_open_line
open_ended_low inner blank keep g s =
    tells_then keep g (further keep g (next_token Command) s s (omega arith))
    (λ n t one. tells_then keep g (further keep g (on_line inner (list_so_far (none_listed blank) n)) s t one)
    (λ l u two. tells_then keep g (end_ended inner keep g u l.next)
    (λ newline w more. tells_give keep g (λ e. omega (arith, two, more e)))))

pub line_ended_low : (inner : Inner) (blank : Bool) (keep : Keep) (g : Given) (s : State) →
    Tells keep g (a_line inner blank) (LineEnded s) s
unfolding a_line
line_ended_low inner blank keep g s =
    tells_then keep g {P = λ l t. l.0.1 ≡ true → s.at < t.at}
    (tells_level keep g (open_ended_low inner blank keep g (own_level s)) (λ x t so. so))
    (λ l t so. tells_give keep g so)

-- at the end of the text there is none
pub line_at_end : (edition : Edition) → (blank : Bool) (keep : Keep) (o : ℕ) →
    does (the_line blank) keep (given edition [] o) (standing 0) ≡ Ok (([], false), standing 0)
unfolding a_line an_open_line nothing_waits filled_row next_token on_line many turns turns_below entry_turn a_remark
    a_comment end_of_line token_at comment_at raw_stands past count_front past_blanks past_continuations count_joined
    past_below
line_at_end edition blank keep o = refl

-- a line that a newline ended is no line that the text ended
flag : Read (Row AnEntry × Bool) → Bool
flag (Ok ((es, newline), t)) = newline
flag (Err f) = false

clash : {X : Type 0} (es : Row AnEntry) (t u : State) →
    ◌≡◌ {A = Read (Row AnEntry × Bool)} (Ok (([], false), u)) (Ok ((es, true), t)) → X
unfolding flag
clash es t u e = let no : false ≡ true = ap flag e in absurd cc

-- where such a line is read the text goes on, and the line is not empty
some_text : (edition : Edition) → (B : List ℕ) (keep : Keep) (blank : Bool) (p : ℕ) (es : Row AnEntry) (t : State) →
    line_from edition B keep blank p ≡ Ok ((es, true), t) → p < length B
some_text edition B keep blank p es t is =
    ⊎_elim (λ lt. lt)
    (λ ge. clash es t (standing 0)
    (sym (line_at_end edition blank keep p)
    ∙ ap (λ T. does (the_line blank) keep (given edition T p) (standing 0)) (sym (drop_all p B ge)) ∙ is))
    (cases_lt p (length B))

onward : (edition : Edition) → (B : List ℕ) (keep : Keep) (blank : Bool) (p : ℕ) (es : Row AnEntry) (t : State) →
    line_from edition B keep blank p ≡ Ok ((es, true), t) → 0 < t.at
onward edition B keep blank p es t is =
    subst (Holds (LineEnded (standing 0))) is
    (line_ended_low (level most_open) blank keep (given edition (drop p B) p) (standing 0)).told refl

-- it leaves less of the text
pub leaves_less : (edition : Edition) → (B : List ℕ) (keep : Keep) (blank : Bool) (p : ℕ) (es : Row AnEntry) (t : State)
    → line_from edition B keep blank p ≡ Ok ((es, true), t) → length B - (p + t.at) < length B - p
leaves_less edition B keep blank p es t is =
    omega (arith, some_text edition B keep blank p es t is, onward edition B keep blank p es t is)

-- ---- the lines from a place on

-- the lines from p on are the same if those after the next line are
same_by : (B : List ℕ) (f h : LinesSoFar → ℕ → AScript) (so : LinesSoFar) (p : ℕ) (x : Read (Row AnEntry × Bool))
    → ((es : Row AnEntry) (t : State) → x ≡ Ok ((es, true), t) →
    f (with_line so es) (p + t.at) ≡ h (with_line so es) (p + t.at)) → script_by f so p x ≡ script_by h so p x
same_by B f h so p (Ok ((es, true), t)) same = same es t refl
same_by B f h so p (Ok ((es, false), t)) same = refl
same_by B f h so p (Err f') same = refl

-- with enough lines, how many they are does not matter
enough : (edition : Edition) → (B : List ℕ) (n m : ℕ) (so : LinesSoFar) (p : ℕ) → length B - p < n → length B - p < m →
    script_below edition B n so p ≡ script_below edition B m so p
unfolding script_below
enough edition B zero m so p low_n low_m = absurd (omega arith)
enough edition B (suc n) zero so p low_n low_m = absurd (omega arith)
enough edition B (suc n) (suc m) so p low_n low_m =
    same_by B (script_below edition B n) (script_below edition B m) so p
    (line_from edition B Whole (is_blank_line so) p)
    (λ es t is. let less = leaves_less edition B Whole (is_blank_line so) p es t is in
    enough edition B n m (with_line so es) (p + t.at) (omega (arith, less, low_n)) (omega (arith, less, low_m)))

-- by what the next line gives, where the first entry of a line may be blank by the flag
module _ (edition : Edition) (B : List ℕ) (so : LinesSoFar) (p : ℕ) (blank : Bool)
    (is_blank : blank ≡ is_blank_line so) where
  -- with the flag the same line is read
  the_next : (x : Read (Row AnEntry × Bool)) → line_from edition B Whole blank p ≡ x →
      line_from edition B Whole (is_blank_line so) p ≡ x
  the_next x is = ap (λ b. line_from edition B Whole b p) (sym is_blank) ∙ is

  -- a line that leads on to what the lines give then
  pub line_more : (es : Row AnEntry) (t : State) (then : LinesSoFar) →
      line_from edition B Whole blank p ≡ Ok ((es, true), t)
      → then ≡ with_line so es → script_on edition B so p ≡ script_on edition B then (p + t.at)
  unfolding script_on script_below
  line_more es t then is same =
      let here = the_next _ is in
      let less = leaves_less edition B Whole (is_blank_line so) p es t here in
      rw here (enough edition B (length B - p) (suc (length B - (p + t.at))) (with_line so es) (p + t.at) less
      (omega arith) ∙ ap (λ z. script_below edition B (suc (length B - (p + t.at))) z (p + t.at)) (sym same))

  -- a line that the text ends, and one with a fault
  pub line_last : (es : Row AnEntry) (t : State) (then : LinesSoFar) →
      line_from edition B Whole blank p ≡ Ok ((es, false), t) → then ≡ with_line so es →
      script_on edition B so p ≡ record { entries = entries_of then.entries; fault = None }
  unfolding script_on script_below
  line_last es t then is same =
      rw (the_next _ is) (ap (λ (z : LinesSoFar). record { entries = entries_of z.entries; fault = None }) (sym same))

  pub line_faulty : (f : Fault) → line_from edition B Whole blank p ≡ Err f →
      script_on edition B so p ≡ record { entries = entries_of so.entries; fault = Some f }
  unfolding script_on script_below
  line_faulty f is = rw (the_next _ is) refl
