use Rattle.std.proofs.Common.{◌≡◌, ℕ, ◌-◌, ◌∙◌, true, ap}
use Rattle.shgrammar.specs.Characters.{newline_char}
use Rattle.shgrammar.specs.Bytes.{past_byte}
use Rattle.shline.specs.InHand.{InHand}
use Rattle.shline.specs.Clauses.{at_place, here_of, keep_of, start_of, text_of}
use Rattle.shgrammar.specs.Sights.{given}
use Rattle.shgrammar.specs.Standing.{raw_stands}
use Rattle.shgrammar.proofs.BodiesThere.{ends_line}
use Rattle.shgrammar.proofs.Places.{after_back}
use Rattle.shline.proofs.cursor.Cursor.end_of_line.Goals as goal

pub returns-in_ok-bodies_here-in-Newline-clause-end : goal.returns-in_ok-bodies_here-in-Newline-clause-end
unfolding InHand
returns-in_ok-bodies_here-in-Newline-clause-end g c =
    let start = c.args.self.now in
    let text = text_of start in
    let moved = c.step.ensures in
    let same = moved.stays.same in
    let read = rw (same.source, same.base, same.origin, same.how) at c.in_ok-bodies_here-in-Newline.ensures.read in
    let is : here_of c.step.new.self ≡ past_byte text (start_of start) = moved.place in
    let newline : raw_stands text (here_of c.step.new.self - 1) newline_char ≡ true =
    ap (λ (q : ℕ). raw_stands text (q - 1) newline_char) is
    ∙ ap (λ (q : ℕ). raw_stands text q newline_char) (after_back text (start_of start) ∙ start.shows.not_continued)
    ∙ start.shows.newline c.in-Newline.is in
    ends_line (keep_of start) (given start.how.edition text start.origin) (at_place c.step.new.self)
    (at_place c.bodies_here.new.self) read newline
