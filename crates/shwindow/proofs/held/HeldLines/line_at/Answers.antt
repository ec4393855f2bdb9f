use Rattle.std.proofs.Common.{◌++◌, ◌∷◌, [], ◌∙◌, arith, refl, sym}
use Rattle.shwindow.specs.Blocks.{in_one_row, lines_before, lines_from}
use Rattle.shwindow.proofs.Joined.{by_last, by_line, first_none, first_some}
use Rattle.shwindow.proofs.Rows.{extent_push}
use Rattle.shwindow.proofs.held.HeldLines.line_at.Goals as goal

pub find-begin-requires : goal.find-begin-requires
find-begin-requires g c =
    let held = c.self.inside in
    let fits = c.self.invariant in
    omega (arith, fits, extent_push (in_one_row held.blocks.blocks.items) held.last)

pub returns-in-Some : goal.returns-in-Some
returns-in-Some g c =
    let held = c.self.inside in
    let blocks = held.blocks.blocks.items in
    let place = c.find-begin.result.0 in
    let line = c.in-Some.line.now in
    let from = first_some (lines_from blocks place) line c.in-Some.ensures in
    record {
      before = lines_before blocks place;
      after = from.0 ++ held.last ∷ [];
      row = sym c.self.view_is ∙ by_line blocks place held.last line from.0 from.1;
      begins = c.find-begin.ensures.begin;
      low = c.find-begin.ensures.low;
      past = λ _. c.find-begin.ensures.past line from.0 from.1;
    }

pub returns-in-None : goal.returns-in-None
returns-in-None g c =
    let held = c.self.inside in
    let blocks = held.blocks.blocks.items in
    let place = c.find-begin.result.0 in
    record {
      before = lines_before blocks place;
      after = [];
      row = sym c.self.view_is ∙ by_last blocks place held.last
          (first_none (lines_from blocks place) c.in-None.ensures);
      begins = c.find-begin.ensures.begin;
      low = c.find-begin.ensures.low;
      past = λ some. absurd (some refl);
    }
