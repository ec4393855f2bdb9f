use Rattle.std.proofs.Common.{◌≡◌, ◌∙◌, Ok, List as Row, drop, map, ap, sym}
use Rattle.shast.specs.Tree.{AnEntry}
use Rattle.shast.specs.View.{view_entry}
use Rattle.shline.specs.Clauses.{at_place, here_of, kept}
use Rattle.shgrammar.specs.Form.{does}
use Rattle.shgrammar.specs.Levels.{level, most_open}
use Rattle.shgrammar.specs.Lines.{an_open_line}
use Rattle.shgrammar.specs.Scripts.{line_told}
use Rattle.shgrammar.specs.Sights.{given, standing}
use Rattle.shgrammar.proofs.Levels.{line_read}
use Rattle.shgrammar.proofs.NodesInLimit.{line_within}
use Rattle.shline.proofs.LineEnds.{newline_there, whole_there}
use Rattle.shline.proofs.parsed_line.line_at.Goals as goal

pub returns-clause-value : goal.returns-clause-value
returns-clause-value g c =
    let at_line = c.at_line-cursor.ensures in
    let here = given c.args.how.edition
    (drop c.args.begin.at (g.S.Source.bytes c.args.source.now)) c.args.begin.origin in
    let inner = at_place c.open_line.new.self in
    let es = map view_entry c.in_ok-entries.entries.items in
    let newline = c.in_ok-entries.newline in
    let inside : does (an_open_line (level most_open) c.args.begin.blank) (kept g.row.TREE c.args.how.keep) here
    (standing 0) ≡ Ok ((es, newline), inner) =
    rw (at_line.source, at_line.base, at_line.origin, at_line.place, at_line.how) at c.in_ok-entries.ensures.value.read
    in
    line_read (kept g.row.TREE c.args.how.keep) here (standing 0)
    (level most_open) c.args.begin.blank newline es inner inside
    ∙ ap (λ (zs : Row AnEntry). Ok ((zs, newline), standing inner.at)) (sym c.filled_entries.ensures)

pub returns-clause-spans : goal.returns-clause-spans
returns-clause-spans g c =
    let at_line = c.at_line-cursor.ensures in
    let bytes = g.S.Source.bytes c.args.source.now in
    let here = given c.args.how.edition (drop c.args.begin.at bytes) c.args.begin.origin in
    let inner = at_place c.open_line.new.self in
    let es = map view_entry c.in_ok-entries.entries.items in
    let newline = c.in_ok-entries.newline in
    let inside : does (an_open_line (level most_open) c.args.begin.blank) (kept g.row.TREE c.args.how.keep) here
    (standing 0) ≡ Ok ((es, newline), inner) =
    rw (at_line.source, at_line.base, at_line.origin, at_line.place, at_line.how) at c.in_ok-entries.ensures.value.read
    in
    let told : line_told c.args.how.edition bytes
    (kept g.row.TREE c.args.how.keep) c.args.begin.blank c.args.begin.at c.args.begin.origin
    ≡ Ok ((map view_entry c.filled_entries.result.items, newline), standing inner.at) =
    line_read (kept g.row.TREE c.args.how.keep) here (standing 0)
    (level most_open) c.args.begin.blank newline es inner inside
    ∙ ap (λ (zs : Row AnEntry). Ok ((zs, newline), standing inner.at)) (sym c.filled_entries.ensures) in
    line_within c.args.how.edition (drop c.args.begin.at bytes) c.args.begin.origin
    (kept g.row.TREE c.args.how.keep) c.args.begin.blank _ _ (standing inner.at) told

pub returns-clause-newline : goal.returns-clause-newline
returns-clause-newline g c =
    let at_line = c.at_line-cursor.ensures in
    let same = c.in_ok-entries.ensures.value.same in
    let ended = rw (at_line.source, at_line.base) at c.in_ok-entries.ensures.end in
    let inside = rw (same.source, same.base, at_line.source, at_line.base) at c.open_line.new.self.inside in
    newline_there (g.S.Source.bytes c.args.source.now) c.args.begin.at
    (here_of c.open_line.new.self) c.in_ok-entries.newline c.requires.0 inside ended

pub returns-clause-whole : goal.returns-clause-whole
returns-clause-whole g c =
    let at_line = c.at_line-cursor.ensures in
    let same = c.in_ok-entries.ensures.value.same in
    let ended = rw (at_line.source, at_line.base) at c.in_ok-entries.ensures.end in
    let inside = rw (same.source, same.base, at_line.source, at_line.base) at c.open_line.new.self.inside in
    whole_there (g.S.Source.bytes c.args.source.now) c.args.begin.at
    (here_of c.open_line.new.self) c.in_ok-entries.newline c.requires.0 inside ended
