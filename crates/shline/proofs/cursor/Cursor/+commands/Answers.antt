use Rattle.std.proofs.Common.{rules, ◌≡◌, [], ℕ, ◌<◌, ◌≤◌, ◌+◌, ◌-◌, ◌∙◌, Ok, None, Some, List as Row, length, map, ap, sym, arith, true, false, refl}
use Rattle.shgrammar.specs.declared.mode.Piece.TheVariants as pieces
use Rattle.shgrammar.specs.Bytes.{past_continuations}
use Rattle.shline.specs.InHand.{InHand}
use Rattle.shline.specs.Clauses.{at_place, here_of, keep_of, on, standing_with, start_of, text_of, view_waiting}
use Rattle.shgrammar.specs.Comments.{span}
use Rattle.shgrammar.specs.Form.{does, grows, pushed}
use Rattle.shgrammar.specs.HereDocuments.{outer_level, own_level}
use Rattle.shgrammar.specs.Pieces.{piece_at, piece_in}
use Rattle.shgrammar.specs.Plain.{ArePlain}
use Rattle.shgrammar.specs.Sights.{State, given}
use Rattle.shgrammar.specs.Substitutions.{substitution_list}
use Rattle.shgrammar.specs.Words.{word_so_far}
use Rattle.shgrammar.specs.Levels.{level}
use Rattle.shast.specs.declared.tree.Span.{Span}
use Rattle.shast.specs.Bodies.{filled}
use Rattle.shast.specs.Tree.{ASubst, subst}
use Rattle.shast.specs.View.{view_list, view_subst}
use Rattle.shgrammar.proofs.Levels.{substitution_read}
use Rattle.shgrammar.proofs.PlainBytes.{ordinary_here, piece_and_plain}
use Rattle.shgrammar.specs.Commands.{begins_redirect, item_turn, and_or_operator_of, and_or_turn, and_or_so_far, pipe_turn, pipes_so_far, redirect_operator_of, redirect_turn, items_so_far}
use Rattle.shgrammar.specs.Compounds.{branches_so_far, case_turn, elif_turn, is_closing, pattern_turn, patterns_so_far, word_turn}
use Rattle.shgrammar.specs.Lists.{list_so_far, list_turn}
use Rattle.shgrammar.specs.declared.token.Closing.TheVariants.{Elif, Esac}
use Rattle.shgrammar.specs.declared.token.Position.TheVariants.{Suffix, Command as AsCommand}
use Rattle.shline.specs.Listed.{view_cases, view_listed}
use Rattle.shline.specs.Rows.{view_and_or_parts, view_branches, view_items, view_pipeline_parts, view_words}
use Rattle.shline.proofs.Loops.{loop_again, loop_done, loop_over, not_pipe, not_word}
use Rattle.shline.proofs.Wanted.{here_wants}
use Rattle.shline.proofs.cursor.Cursor.+commands.Goals as goal

pub contents-pieces-preserved : goal.contents-pieces-preserved
contents-pieces-preserved g t c =
    let inv = c.pieces.invariant in
    let told = c.in_ok-take_piece.ensures in
    let rest = c.skip_plain.ensures in
    let was = inv.rest.same in
    let same = told.value.same in
    let stays = rest.stays in
    let text = text_of c.args.self.now in
    let piece =
    rw (was.source, was.base, was.origin, was.how, c.if-branch.true, ← stays.documents) at told.value.read in
    let before = c.pieces.self.documents in
    let after = c.skip_plain.new.self.documents in
    let onward : here_of c.pieces.self < here_of c.take_piece.new.self = rw c.if-branch.true at told.onward in
    let plain = rw (same.source, same.base, was.source, was.base) at rest.plain in
    let within = rw (same.source, same.base, was.source, was.base) at rest.within in record {
      rest = record {
        read =
            piece_and_plain (level c.args.room) (keep_of c.args.self.now)
            (given c.args.self.now.how.edition text c.args.self.now.origin) c.args.mode
            (c.args.self.now.origin + c.args.opener)
            (map view_waiting after.waiting.items) after.bodies.items
            (word_so_far c.pieces.nested (map view_subst c.pieces.substs.items))
            (word_so_far c.take_piece.new.nested (map view_subst c.take_piece.new.substs.items))
            (map view_waiting before.waiting.items) before.bodies.items (here_of c.pieces.self)
            (here_of c.take_piece.new.self) (here_of c.skip_plain.new.self) _
            inv.rest.read piece onward (omega (arith, rest.onward, within)) plain rest.onward within;
        onward = omega (arith, inv.rest.onward, onward, rest.onward);
        same = record {
          source = stays.same.source ∙ same.source ∙ was.source;
          base = stays.same.base ∙ same.base ∙ was.base;
          origin = stays.same.origin ∙ same.origin ∙ was.origin;
          how = stays.same.how ∙ same.how ∙ was.how;
        };
      };
      nested = omega (arith, told.nested, rest.onward);
      after_opener = omega (arith, inv.after_opener, onward, rest.onward);
    }

-- the substitution that was read, as one more
pub one_substitution-returns-in-Ok : goal.one_substitution-returns-in-Ok
one_substitution-returns-in-Ok g t c =
    let start = c.args.self.now in
    let keep = keep_of start in
    let own = c.open_level-outer.ensures in
    let same = c.in-Ok.ensures.same in
    let shut = c.close_level-bodies.ensures in
    let after = c.close_level-bodies.new.self in
    let list = view_list c.in-Ok.list in
    let inner = at_place c.substitution_list.new.self in
    let ss = map view_subst c.args.substs.now.items in
    let here = given start.how.edition (text_of start) start.origin in
    let stands : does (substitution_list (level c.args.room)) keep here (own_level (at_place start))
    ≡ Ok (list, inner) =
    rw (own.same.source, own.same.base, own.same.origin, own.same.how, own.level) at c.in-Ok.ensures.read in
    let read = substitution_read keep here (at_place start) (level c.args.room) c.args.opener ss list inner stands in
    let origin : after.origin ≡ start.origin = shut.same.origin ∙ same.origin ∙ own.same.origin in
    let bodies : c.close_level-bodies.result.items ≡ inner.bodies = shut.bodies in
    let place : here_of after ≡ inner.at = shut.place in
    let made =
    rw (shut.same.how, same.how, own.same.how) at c.in_ok-add_subst-in-Ok.ensures.value
    ∙ ap (λ (bs : Row Span). pushed (grows keep) ss
    (subst (filled bs list) (span after.origin c.args.opener (here_of after)))) bodies
    ∙ ap (λ (o : ℕ). pushed (grows keep) ss (subst (filled inner.bodies list) (span o c.args.opener (here_of after))))
    origin
    ∙ ap (λ (p : ℕ). pushed (grows keep) ss (subst (filled inner.bodies list) (span start.origin c.args.opener p)))
    place in
    let state : at_place after ≡ outer_level (at_place start) inner =
    ap (λ d. standing_with d (here_of after)) (shut.outer ∙ own.outer) ∙ ap (standing_with start.documents) place in
    record {
      read =
          read ∙ ap (λ (u : State). Ok
          (pushed (grows keep) ss (subst (filled inner.bodies list) (span start.origin c.args.opener inner.at)), u))
          (sym state) ∙ ap (λ (zs : Row ASubst). Ok (zs, at_place after)) (sym made);
      onward = search rules;
      same = search rules;
    }

-- an ordinary byte of a string, and the plain ones after it
pub construct-ordinary-preserved : goal.construct-ordinary-preserved
construct-ordinary-preserved g t c =
    let start = c.args.self.now in
    let inv = c.ordinary.invariant in
    let was = inv.rest.same in
    let old = c.ordinary.self in
    let new = c.skip_plain-in-Ordinary.new.self in
    let rest = c.skip_plain-in-Ordinary.ensures in
    let stays = rest.stays in
    let inside = c.place-here.ensures.1 in
    let text = text_of start in
    let here : on old c.place-here.result ≡ past_continuations text (here_of old) =
    rw (was.source, was.base) at c.place-here.ensures.0 in
    let told : c.piece.result ≡ piece_in start.how.edition c.args.mode (piece_at text c.args.mode 0 (here_of old)) =
    rw (was.source, was.base, was.how) at c.piece.ensures.value in
    let is : c.piece.result ≡ pieces.Ordinary = c.in-Ordinary.is in
    let step : on old (c.place-here.result + 1) ≡ past_continuations text (here_of old) + 1 = omega (arith, here) in
    let plain : ArePlain c.args.mode text (past_continuations text (here_of old) + 1) (here_of new) =
    rw (was.source, was.base, step) at rest.plain in
    let low : past_continuations text (here_of old) + 1 ≤ here_of new = omega (arith, here, rest.onward) in
    let high : here_of new ≤ length text = rw (was.source, was.base) at rest.within in
    let on =
    ordinary_here start.how.edition (level (c.args.room - 1)) (keep_of start)
    (map view_waiting old.documents.waiting.items) old.documents.bodies.items text start.origin c.args.mode
    (start.origin + c.args.opener)
    (map view_subst c.ordinary.substs.items) (here_of old) (here_of new) (sym told ∙ is) plain low high in record {
      rest = record {
        read = rw stays.documents (sym on ∙ inv.rest.read);
        onward = omega (arith, inv.rest.onward, inside.0, rest.onward);
        same = record {
          source = stays.same.source ∙ was.source;
          base = stays.same.base ∙ was.base;
          origin = stays.same.origin ∙ was.origin;
          how = stays.same.how ∙ was.how;
        };
      };
      after_opener = omega (arith, inv.after_opener, inside.0, rest.onward);
      substs = inv.substs;
    }

-- the operator of a here-document stands in the text
pub redirect-document-requires : goal.redirect-document-requires
unfolding InHand
redirect-document-requires g t c =
    let operator = c.operator-span.ensures in
    let same = operator.value.same in
    let target = c.in_ok-word.ensures in
    let word_read = target.value.same in
    let before = c.number-number.new.self in
    let is : redirect_operator_of before.next.token ≡ Some c.in-Some.operator = sym c.redirect_operator.ensures
    ∙ c.in-Some.is in (
      omega (arith),
      (
        (target.place.0, rw (word_read.source, word_read.base, word_read.origin) operator.start),
        λ takes. rw (word_read.source, word_read.base, same.source, same.base)
            (here_wants g.row.TREE (text_of before) before.next.token
            (start_of before) c.in-Some.operator before.shows is takes),
      ),
    )

-- ---- loops that read their turns themselves: each ends at a token that no turn takes

-- no redirection follows
pub redirects-returns : goal.redirects-returns
unfolding redirect_turn
redirects-returns g t c =
    let self = c.turns.self in
    let stops : begins_redirect self.next.token ≡ false = sym c.begins_redirect.ensures ∙ c.turns-test.false in
    loop_over c.args.self.now self (redirect_turn (level c.args.room))
    (items_so_far [] AsCommand c.args.self.now.next) (items_so_far (view_items c.turns.redirects) AsCommand self.next)
    c.turns.invariant (rw stops refl)

-- no item of a `case` follows
pub cases-returns : goal.cases-returns
unfolding case_turn
cases-returns g t c =
    let self = c.turns.self in
    let stops : is_closing Esac self.next.token ≡ true = sym c.is_closing.ensures.value ∙ c.turns-test.false in
    loop_over c.args.self.now self (case_turn (level c.args.room))
    (view_cases c.args.cases.now c.args.self.now.next) (view_cases c.turns.cases self.next)
    c.turns.invariant (rw stops refl)

-- no `elif` follows
pub elifs-returns : goal.elifs-returns
unfolding elif_turn
elifs-returns g t c =
    let self = c.turns.self in
    let stops : is_closing Elif self.next.token ≡ false = sym c.is_closing.ensures.value ∙ c.turns-test.false in
    loop_over c.args.self.now self (elif_turn (level c.args.room))
    (branches_so_far [] c.args.self.now.next) (branches_so_far (view_branches c.turns.branches) self.next)
    c.turns.invariant (rw stops refl)

-- no `|` with a command follows
pub pipes-returns : goal.pipes-returns
unfolding pipe_turn
pipes-returns g t c =
    let self = c.turns.self in
    let stops = not_pipe self.next.token c.in_default.not-Pipe in
    loop_over c.args.self.now self (pipe_turn (level c.args.room)) (pipes_so_far [] c.args.self.now.next)
    (pipes_so_far (view_pipeline_parts c.turns.parts) self.next) c.turns.invariant (rw stops refl)

-- no `|` with a pattern follows
pub more_patterns-returns : goal.more_patterns-returns
unfolding pattern_turn
more_patterns-returns g t c =
    let self = c.turns.self in
    let stops = not_pipe self.next.token c.in_default.not-Pipe in
    loop_over c.args.self.now self (pattern_turn (level c.args.room))
    (patterns_so_far (view_words c.args.patterns.now) c.args.self.now.next)
    (patterns_so_far (view_words c.turns.patterns) self.next) c.turns.invariant (rw stops refl)

-- no `&&` and no `||` follows
pub joined_pipelines-returns : goal.joined_pipelines-returns
unfolding and_or_turn
joined_pipelines-returns g t c =
    let self = c.turns.self in
    let stops : and_or_operator_of self.next.token ≡ None =
    sym c.and_or_operator.ensures.value ∙ c.in_default.is in
    loop_over c.args.self.now self (and_or_turn (level c.args.room)) (and_or_so_far [] c.args.self.now.next)
    (and_or_so_far (view_and_or_parts c.turns.parts) self.next) c.turns.invariant (rw stops refl)

-- no word follows
pub words-returns : goal.words-returns
unfolding word_turn
words-returns g t c =
    let self = c.turns.self in
    let stops = not_word self.next.token c.in_default.not-Word in
    loop_over c.args.self.now self (word_turn (level c.args.room)) (items_so_far [] Suffix c.args.self.now.next)
    (items_so_far (view_items c.turns.words) Suffix self.next) c.turns.invariant (rw stops refl)

-- ---- loops whose turn is a function, which says whether another may follow

pub list_lines-turns-preserved : goal.list_lines-turns-preserved
list_lines-turns-preserved g t c =
    loop_again c.args.self.now c.turns.self c.list_turn.new.self (list_turn (level c.args.room))
    (list_so_far (view_listed c.args.listed.now) c.args.self.now.next) _ _
    c.if-branch.true c.turns.invariant c.in_ok-list_turn.ensures

pub list_lines-returns : goal.list_lines-returns
list_lines-returns g t c =
    loop_done c.args.self.now c.turns.self c.list_turn.new.self (list_turn (level c.args.room))
    (list_so_far (view_listed c.args.listed.now) c.args.self.now.next) _ _
    c.if-branch.false c.turns.invariant c.in_ok-list_turn.ensures

pub items-turns-preserved : goal.items-turns-preserved
items-turns-preserved g t c =
    loop_again c.args.self.now c.turns.self c.item_turn.new.self (item_turn (level c.args.room))
    (items_so_far (view_items c.args.items.now) c.args.position.now c.args.self.now.next) _ _
    c.if-branch.true c.turns.invariant c.in_ok-item_turn.ensures

pub items-returns : goal.items-returns
items-returns g t c =
    loop_done c.args.self.now c.turns.self c.item_turn.new.self (item_turn (level c.args.room))
    (items_so_far (view_items c.args.items.now) c.args.position.now c.args.self.now.next) _ _
    c.if-branch.false c.turns.invariant c.in_ok-item_turn.ensures
