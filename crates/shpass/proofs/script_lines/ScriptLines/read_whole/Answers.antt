use Rattle.std.proofs.Common.{◌≡◌, ◌<◌, ◌∙◌, map, refl, sym, false, true, arith}
use Rattle.shast.specs.View.{view_entry}
use Rattle.shgrammar.specs.Sights.{standing}
use Rattle.shpass.specs.LineByLine.{is_blank_after}
use Rattle.shpass.proofs.LineByLine.{fault_told, outer_line}
use Rattle.shgrammar.proofs.Passing.{newline_after, stops_faulty, stops_unended}
use Rattle.shpass.proofs.script_lines.ScriptLines.read_whole.Goals.{else-told-via-then-told+else-ends_in_newline, else-told-via-else-told}
use Rattle.shpass.proofs.script_lines.ScriptLines.read_whole.Goals as goal

pub returns-then-ends_in_newline : goal.returns-then-ends_in_newline
returns-then-ends_in_newline g c =
    let bytes = g.S.Source.bytes c.args.self.now.source.now in
    let moves = c.in-Ok.ensures.moves in
    let past = moves.past in
    let some = rw c.if-told.true at moves.onward in
    let stands = rw past.same.source at (sym c.ends_in_newline.ensures ∙ c.if-ends_in_newline.true) in
    let size : 0 < c.in-Ok.told.len = omega (arith, some, past.at) in record {
      same = past.same;
      onward = some;
      within = moves.within;
      newline = newline_after bytes c.args.self.now.at c.read.new.self.at c.in-Ok.told.len past.at size stands;
      whole = λ so stood. record {
        state = standing c.in-Ok.told.len;
        at = past.at;
        reads =
            rw (c.in-Ok.is, c.if-told.true) at
            (outer_line bytes _ c.args.self.now c.read.result so stood c.read.ensures.value);
        some = size;
        newline = stands;
        stands = past.stands so stood;
      };
    }

pub returns-else-told : goal.returns-else-told
returns-else-told g c =
    let bytes = g.S.Source.bytes c.args.self.now.source.now in
    let told = c.in-Ok.told in
    let keeps = c.in-Ok.ensures.moves.past.same in
    let blank = is_blank_after c.args.self.now.before in
    let stops = stops_unended c.args.self.now.edition bytes c.args.self.now.at told.len blank told.newline
    (map view_entry told.entries.items) c.in-Ok.ensures.value in (
      rw (keeps.source, keeps.edition, keeps.alloc) refl,
      elim c.else-told.branch [
        | else-told-via-then-told+else-ends_in_newline w ↦ stops
            (λ on. rw keeps.source at (sym w.ends_in_newline.ensures ∙ w.if-ends_in_newline.false))
        | else-told-via-else-told w ↦ stops (λ on. let no : true ≡ false = sym on ∙ w.if-told.false in absurd cc)
      ],
    )

pub returns-in-Err-Wrong : goal.returns-in-Err-Wrong
returns-in-Err-Wrong g c =
    let bytes = g.S.Source.bytes c.args.self.now.source.now in
    let wrong = c.in-Err-Wrong in
    let told = fault_told _ wrong.field-0-0 _ _ wrong.field-0-is wrong.ensures.value in (
      wrong.ensures.moves,
      stops_faulty c.args.self.now.edition bytes c.args.self.now.at
          (is_blank_after c.args.self.now.before) wrong.field-0-0 told,
    )
