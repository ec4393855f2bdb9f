-- Levels, lines and scripts: what may be read is read where each turn leads on.
use Rattle.std.proofs.Common.{ℕ, zero, suc, Bool, List, List as Row, drop}
use Rattle.shgrammar.specs.declared.edition.Edition.{Edition}
use Rattle.shgrammar.specs.declared.token.Next.{Next}
use Rattle.shast.specs.Tree.{AnEntry, AWord}
use Rattle.shgrammar.specs.HereDocuments.{own_level}
use Rattle.shgrammar.specs.Form.{Read, Spelled, may}
use Rattle.shgrammar.specs.Levels.{level, most_open}
use Rattle.shgrammar.specs.Commands.{is_newline_token}
use Rattle.shgrammar.specs.Lines.{a_line, an_open_line, line_end_by, end_of_line}
use Rattle.shgrammar.specs.Lists.{list_so_far, none_listed}
use Rattle.shgrammar.specs.Scripts.{AScript, Lines, Passes, LinesSoFar, faulty, is_blank_line, last_line, line_ended, the_line}
use Rattle.shgrammar.specs.Sights.{Given, State, given, standing}
use Rattle.shgrammar.specs.Tokens.{is_end}
use Rattle.shgrammar.specs.Words.{Inner, a_word}
use Rattle.shlaws.specs.Onward.{LineOnward, LinesOnward, PassesOnward, faulty as faulty_on, last_line as last_line_on, line_ended as line_ended_on, may_onward}
use Rattle.shlaws.proofs.Forms.{Goes, changing, first, follows, gives, in_level, moves, picks, sees, stops}
use Rattle.shlaws.proofs.Words.{All, InnerOnward, contents_on, word_on}
use Rattle.shlaws.proofs.Commands.{next_on, nothing_on, stopped}
use Rattle.shlaws.proofs.Compounds.{compound_on, function_on, line_on, substitution_on}

module _ (g : Given) where
  -- whatever room is left, what may be opened is read so
  fine : (room : ℕ) → InnerOnward g (level room)
  unfolding level
  fine zero =
      record {
        construct = λ mode b ss s. stops g;
        substitution = λ b ss s. stops g;
        compound = λ o s. sees g (stops g);
        function = λ name s. stops g;
      }
  fine (suc room) =
      record {
        construct =
            λ mode b ss s. follows g (contents_on g (level room) (fine room) mode b ss s) (λ x t so. tt);
        substitution = λ b ss s. substitution_on g (level room) (fine room) b ss s;
        compound = λ o s. compound_on g (level room) (fine room) o s;
        function = λ name s. function_on g (level room) (fine room) name s;
      }

  -- ---- lines

  module _ (inner : Inner) (good : InnerOnward g inner) where
    -- what ends a line is read so: a newline with the bodies after it, or the end
    end_on_by : (newline end : Bool) (n : Next) (s : State) → Goes g (line_end_by inner newline end n) (All g) s
    end_on_by newline end n s =
        picks g newline (moves g (first g (changing g) (λ x t so. gives g tt)))
        (picks g end (first g (nothing_on g s) (λ x t so. gives g tt)) (stopped g inner good n))

    end_on : (n : Next) (s : State) → Goes g (end_of_line inner n) (All g) s
    unfolding end_of_line
    end_on n s = end_on_by (is_newline_token n.token) (is_end n.token) n s

    -- a line is read so, without the bodies of its here-documents and with them
    open_line_on : (blank : Bool) (s : State) → Goes g (an_open_line inner blank) (All g) s
    unfolding an_open_line
    open_line_on blank s =
        first g (next_on g _ s)
        (λ n t one. first g (line_on g inner good (list_so_far (none_listed blank) n) t one)
        (λ l u two. first g (end_on l.next u) (λ newline v three. gives g tt)))

    a_line_on : (blank : Bool) (s : State) → Goes g (a_line inner blank) (All g) s
    unfolding a_line
    a_line_on blank s = first g (in_level g (open_line_on blank (own_level s))) (λ l t so. gives g tt)

  -- what may be read of a line is read so
  line_onward : (blank : Bool) (s : State) → Goes g (the_line blank) (All g) s
  line_onward blank s = a_line_on (level most_open) (fine most_open) blank s

-- what may be read of a word is read where each turn leads on
pub word_onward : (room : ℕ) (g : Given) (s : State) (w : Read AWord) (k : Row Spelled)
    → may (a_word (level room)) g s w k → may_onward (a_word (level room)) g s w k
word_onward room g s w k read = ((word_on g (level room) (fine g room) s).on w k read).0

-- ---- scripts

-- the same of the line at p of a script, of the lines from p on, and of all of them
line_at : (edition : Edition) (B : List ℕ) (so : LinesSoFar) (p : ℕ) (x : Read (Row AnEntry × Bool))
    (k : Row Spelled) → may (the_line (is_blank_line so)) (given edition (drop p B) p) (standing 0) x k
    → LineOnward edition B so p x k
line_at edition B so p x k read =
    ((line_onward (given edition (drop p B) p) (is_blank_line so) (standing 0)).on x k read).0

lines_onward : (edition : Edition) (B : List ℕ) (so : LinesSoFar) (p : ℕ) (s : AScript) (k : Row Spelled)
    → Lines edition B so p s k → LinesOnward edition B so p s k
lines_onward edition B so p s k (line_ended {l = l} es t k1 read rest) =
    line_ended_on es t k1 (line_at edition B so p _ k1 read) (lines_onward edition B _ _ s l rest)
lines_onward edition B so p s k (last_line es t k1 read) =
    last_line_on es t k1 (line_at edition B so p _ k1 read)
lines_onward edition B so p s k (faulty f k1 read) = faulty_on f k1 (line_at edition B so p _ k1 read)

pub passes_onward : (edition : Edition) (B : List ℕ) (s : AScript) (k : Row Spelled) → Passes edition B s k
    → PassesOnward edition B s k
passes_onward edition B s k read = lines_onward edition B _ 0 s k read
