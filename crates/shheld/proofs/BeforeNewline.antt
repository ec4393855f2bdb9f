-- Each node of a line that a newline ended begins before the line's end.
use Rattle.std.proofs.Common.{◌≡◌, ℕ, ◌+◌, ◌<◌, ◌≤◌, Bool, true, false, Ok, Err, List, List as Row, [], ◌∷◌, sym, ap, subst, ◌∙◌, arith}
use Rattle.std.specs.Prelude.{All}
use Rattle.std.proofs.lemmas.Bool.{and_parts}
use Rattle.std.proofs.lemmas.List.Elements.{All-nil, All-same}
use Rattle.shast.specs.declared.node.NodeLine.{NodeLine}
use Rattle.shast.specs.declared.tree.Span.{Span}
use Rattle.shast.specs.Bodies.{filled_row}
use Rattle.shast.specs.Everywhere.{IsSome}
use Rattle.shast.specs.Nodes.{IsSpanWithin, entries_nodes}
use Rattle.shast.specs.Tree.{AnEntry, entries_of}
use Rattle.shast.proofs.Going.{row_filled}
use Rattle.shast.proofs.OpenSame.{filled_nodes}
use Rattle.shast.proofs.Starts.{nodes_begin}
use Rattle.shgrammar.specs.declared.edition.Edition.{Edition}
use Rattle.shgrammar.specs.declared.keep.Keep.TheVariants.{Whole}
use Rattle.shgrammar.specs.declared.token.Next.{Next}
use Rattle.shgrammar.specs.declared.token.Position.TheVariants.{Command}
use Rattle.shgrammar.specs.Commands.{next_token}
use Rattle.shgrammar.specs.Form.{Read, does}
use Rattle.shgrammar.specs.HereDocuments.{own_level}
use Rattle.shgrammar.specs.Levels.{level, most_open}
use Rattle.shgrammar.specs.Lines.{ALine, IsLine, a_line, an_open_line, kind_of, line_read, line_stops}
use Rattle.shgrammar.specs.Lists.{list_so_far, none_listed, on_line}
use Rattle.shgrammar.specs.Sights.{Given, State, given, standing}
use Rattle.shgrammar.proofs.EachSpan.{EntryIn, entries_in, throughout_so}
use Rattle.shgrammar.proofs.SpansInLimit.{level_in}
use Rattle.shgrammar.proofs.Holds.{Holds, Tells, no_form_goes_back, tells_give, tells_level, tells_then}
use Rattle.shgrammar.proofs.Lined.{end_ended}
use Rattle.shgrammar.proofs.SpansOfLists.{ListIn, on_line_in}
use Rattle.shgrammar.proofs.OneOutcome.{computed_is_only}
use Rattle.shheld.proofs.Nodes.{kind_nodes}

-- ---- what is read before the newline

-- what holds up to each limit holds up to where the reading stands
up_to_here : {X : Type 0} (Q : ℕ → X → Type 0) (o : ℕ) (x : Read X) →
    ((limit : ℕ) → Holds (λ a t. o + t.at ≤ limit → Q limit a) x) → Holds (λ a t. Q (o + t.at) a) x
up_to_here Q o (Ok (a, t)) so = so (o + t.at) (omega arith)
up_to_here Q o (Err f) so = tt

-- each node of these entries begins before this offset
abbrev BeginBefore : ℕ → Row AnEntry → Type 0
BeginBefore p es = All (λ (n : NodeLine). n.start < p) (entries_nodes (entries_of es))

-- where a newline token ended the line, its nodes begin before where the reading stands
abbrev LineBegins : Given → Row AnEntry × Bool → State → Type 0
LineBegins g x t = x.1 ≡ true → BeginBefore (g.offset + t.at) x.0

-- entries none of whose spans goes past a limit have nodes that begin before what is past it
begin_before : (limit p : ℕ) (es : Row AnEntry) → limit < p → All (EntryIn limit) es → BeginBefore p es
begin_before limit p es lt all =
    nodes_begin (λ n. n < p) (entries_of es)
    (throughout_so (IsSpanWithin limit) (λ s. s.start < p) IsSome IsSome (λ s within. omega (arith, lt, within.0))
    (λ items some. some) (entries_of es) (entries_in limit es all))

module _ (g : Given) where
  -- no span of the entries on one line goes past where the reading stands after them
  on_line_here : (blank : Bool) (n : Next) (s : State) →
      Tells Whole g (on_line (level most_open) (list_so_far (none_listed blank) n))
      (λ l t. ListIn (g.offset + t.at) l) s
  on_line_here blank n s =
      record {
        told = up_to_here ListIn g.offset
            (does (on_line (level most_open) (list_so_far (none_listed blank) n)) Whole g s)
            (λ limit. (on_line_in (level_in g limit most_open) (list_so_far (none_listed blank) n) s
            (All-nil (EntryIn limit), tt)).told.told);
      }

  -- so each node of a line begins before the reading's place after the newline and the bodies
  open_line_begins : (blank : Bool) (s : State) → Tells Whole g (an_open_line (level most_open) blank) (LineBegins g) s
  unfolding an_open_line
  open_line_begins blank s =
      tells_then Whole g (no_form_goes_back (next_token Command) Whole g s)
      (λ n t one. tells_then Whole g (on_line_here blank n t)
      (λ l u all. tells_then Whole g (end_ended (level most_open) Whole g u l.next)
      (λ newline w more. tells_give Whole g
      (λ e. begin_before (g.offset + u.at) (g.offset + w.at) l.list.entries (omega (arith, more e)) all.0))))

  -- where bodies are filled in, the nodes begin where they did
  filled_begin : (p : ℕ) (bodies : Row Span) (es : Row AnEntry) → BeginBefore p es →
      BeginBefore p (filled_row bodies es)
  filled_begin p bodies es so =
      All-same (λ (n : NodeLine). n.start < p) _ _
      (ap entries_nodes (row_filled bodies es) ∙ filled_nodes bodies (entries_of es)) so

  -- so it is of a line with the bodies of its here-documents
  line_begins : (blank : Bool) (s : State) → Tells Whole g (a_line (level most_open) blank) (LineBegins g) s
  unfolding a_line
  line_begins blank s =
      tells_then Whole g {P = λ l t. LineBegins g l.0 t}
      (tells_level Whole g (open_line_begins blank (own_level s)) (λ x t so. so))
      (λ l t so. tells_give Whole g (λ e. filled_begin (g.offset + t.at) l.1 l.0.0 (so e)))

-- and of what a line is by its entries, whether or not a newline ended it
kind_begins : (p : ℕ) (es : Row AnEntry) (newline : Bool) → BeginBefore p es →
    All (λ (n : NodeLine). n.start < p) (kind_nodes (kind_of es newline))
kind_begins p [] true so = so
kind_begins p [] false so = so
kind_begins p (e ∷ es) newline so = so

-- each node of a line that ended begins before the line's end
pub nodes_before_end : (edition : Edition) (T : List ℕ) (l : ALine) → IsLine edition T l → l.ended ≡ true →
    All (λ (n : NodeLine). n.start < l.next) (kind_nodes l.kind)
nodes_before_end edition T l (line_read es newline t k part) ended =
    let both = and_parts _ _ ended in
    let told = (line_begins (given edition T 0) false (standing 0)).told in
    let so = subst (Holds (LineBegins (given edition T 0)))
    (sym ((computed_is_only (a_line (level most_open) false) (given edition T 0) (standing 0)).only _ _ part))
    told both.0 in
    let here : 0 + t.at ≡ t.at = omega arith in
    kind_begins t.at es newline (subst (λ p. BeginBefore p es) here so)
nodes_before_end edition T l (line_stops f k part) ended = absurd cc
