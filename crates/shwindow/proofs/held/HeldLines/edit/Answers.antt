use Rattle.std.proofs.Common.{◌≡◌, ◌++◌, ◌∷◌, [], ◌∙◌, ℕ, List, ap, arith, subst, sym, unwrap_or}
use Rattle.shwindow.specs.declared.blocks.Blocks.{Blocks}
use Rattle.shwindow.specs.declared.line.HeldLine.{HeldLine}
use Rattle.shwindow.specs.declared.place.BlockPlace.{BlockPlace}
use Rattle.shwindow.specs.Blocks.{IsPlace, in_one_row, lines_before, lines_from}
use Rattle.shwindow.specs.Held.{RoseByWindow}
use Rattle.shwindow.specs.Lines.{IsRow, extent}
use Rattle.shwindow.specs.Places.{IsNotAfter}
use Rattle.shwindow.specs.Reading.{lines_then, read_of}
use Rattle.shwindow.specs.Walks.{lines_left}
use Rattle.shwindow.specs.Window.{Apart}
use Rattle.shwindow.proofs.Mending.{IsCut, cut_at, cut_begun, cut_no_more, cut_row, cut_split, cut_window, has_no_more, mended}
use Rattle.shwindow.proofs.Reading.{on_err}
use Rattle.shwindow.proofs.Rows.{extent_append, extent_push, row_extent}
use Rattle.shwindow.proofs.held.HeldLines.edit.Given.{Over}
use Rattle.shwindow.proofs.held.HeldLines.edit.Goals as goal
use Rattle.shwindow.proofs.held.HeldLines.edit.Goals.{After-new-old, In_ok-lines}

pub find-begin-requires : goal.find-begin-requires
find-begin-requires g c =
    let held = c.self.inside in
    let fits = c.self.invariant in
    omega (arith, fits, extent_push (in_one_row held.blocks.blocks.items) held.last)

-- the lines are cut at the place that was found for the start of the edit
cut : (g : Over) (c : After-new-old g) →
    IsCut (g.R.LineReader.is_line (g.R.LineReader.setting c.args.reader.now)) c.args.start c.args.self.now
    (lines_before c.self.inside.blocks.blocks.items c.find-begin.result.0)
    (lines_left c.new-old.result) c.find-begin.result.1
cut g c =
    let ks = c.self.inside.blocks.blocks.items in
    let place = c.find-begin.result.0 in
    let last = c.self.inside.last in
    let is = c.find-begin.ensures in
    let left = c.new-old.ensures.left in
    cut_at (g.R.LineReader.is_line (g.R.LineReader.setting c.args.reader.now)) c.args.start c.args.self.now
    (lines_before ks place) (lines_left c.new-old.result) (lines_from ks place) last c.find-begin.result.1
    (cut_split ks place last c.args.self.now (lines_left c.new-old.result) c.self.view_is left) is.begin is.low left
    is.past

pub read_window-requires-clause-begun : goal.read_window-requires-clause-begun
read_window-requires-clause-begun g c =
    let edit = c.requires in (
      edit.old,
      c.args.start,
      cut_begun (g.R.LineReader.is_line (g.R.LineReader.setting c.args.reader.now)) c.args.start
          (g.met.R.LineReader.reads (g.R.LineReader.setting c.args.reader.now)) edit.old
          (g.S.Source.bytes c.args.source.now) c.args.«end» c.args.old_end edit.apart c.args.self.now
          (lines_before c.self.inside.blocks.blocks.items c.find-begin.result.0) c.find-begin.result.1 edit.row
          (lines_left c.new-old.result) (cut g (goal.at.read_window-requires-clause-begun g c).After-new-old),
    )

pub read_window-requires-clause-fits : goal.read_window-requires-clause-fits
read_window-requires-clause-fits g c =
    let is = (cut g (goal.at.read_window-requires-clause-fits g c).After-new-old) in
    let split = ap extent is.split in
    let whole = ap extent c.self.view_is in
    let begins = is.begins in
    let fits = c.self.invariant in
    omega (
      arith,
      split,
      whole,
      begins,
      fits,
      extent_append (lines_before c.self.inside.blocks.blocks.items c.find-begin.result.0)
          (lines_left c.new-old.result),
    )

pub returns-in_err-lines-clause-err : goal.returns-in_err-lines-clause-err
returns-in_err-lines-clause-err g c =
    on_err c.from_residual.result (λ B row apart.
    let is = (cut g (goal.at.returns-in_err-lines-clause-err g c).After-new-old) in
    let begun = cut_begun (g.R.LineReader.is_line (g.R.LineReader.setting c.args.reader.now)) c.args.start
    (g.met.R.LineReader.reads (g.R.LineReader.setting c.args.reader.now)) B
    (g.S.Source.bytes c.args.source.now) c.args.«end» c.args.old_end apart c.args.self.now
    (lines_before c.self.inside.blocks.blocks.items c.find-begin.result.0) c.find-begin.result.1 row
    (lines_left c.new-old.result) is in
    cut_no_more (g.R.LineReader.is_line (g.R.LineReader.setting c.args.reader.now)) c.args.start
    (g.met.R.LineReader.reads (g.R.LineReader.setting c.args.reader.now)) B
    (g.S.Source.bytes c.args.source.now) c.args.«end» c.args.old_end apart c.args.self.now
    (lines_before c.self.inside.blocks.blocks.items c.find-begin.result.0) c.find-begin.result.1 row
    (lines_left c.new-old.result) (g.R.LineReader.meter c.args.reader.now)
    (g.R.LineReader.meter c.read_window.new.reader) is
    (λ t ends. c.in_err-lines.ensures.err B c.args.start t begun ends))

pub replace_lines-requires-clause-upto : goal.replace_lines-requires-clause-upto
replace_lines-requires-clause-upto g c =
    subst (λ (x : Blocks g.row.K.Denot). IsPlace x.blocks.items c.in_ok-lines.field-0.upto) c.new-old.ensures.blocks
    c.in_ok-lines.ensures.place

pub replace_lines-requires-clause-order : goal.replace_lines-requires-clause-order
replace_lines-requires-clause-order g c =
    subst (λ (p : BlockPlace). IsNotAfter p c.in_ok-lines.field-0.upto) c.new-old.ensures.place
    c.in_ok-lines.ensures.order

-- the lines of the new text
row_then : (g : Over) (c : In_ok-lines g) →
    IsCut (g.R.LineReader.is_line (g.R.LineReader.setting c.args.reader.now)) c.args.start c.args.self.now
    (lines_before c.self.inside.blocks.blocks.items c.find-begin.result.0)
    (lines_left c.new-old.result) c.find-begin.result.1 →
    IsRow (g.R.LineReader.is_line (g.R.LineReader.setting c.args.reader.now)) (g.S.Source.bytes c.args.source.now)
    (((lines_before c.self.inside.blocks.blocks.items c.find-begin.result.0)
    ++ ((in_one_row c.in_ok-lines.field-0.lines.blocks.items)
    ++ (lines_from c.self.inside.blocks.blocks.items c.in_ok-lines.field-0.upto)))
    ++ (unwrap_or c.in_ok-lines.field-0.last c.self.inside.last) ∷ [])
row_then g c cut =
    let edit = c.requires in
    let same : lines_then c.new-old.result c.in_ok-lines.field-0 ≡ (in_one_row c.in_ok-lines.field-0.lines.blocks.items)
    ++ ((lines_from c.self.inside.blocks.blocks.items c.in_ok-lines.field-0.upto)
    ++ (unwrap_or c.in_ok-lines.field-0.last c.self.inside.last) ∷ [])
    = ap (λ (x : Blocks g.row.K.Denot). (in_one_row c.in_ok-lines.field-0.lines.blocks.items)
    ++ (lines_from x.blocks.items c.in_ok-lines.field-0.upto
    ++ unwrap_or c.in_ok-lines.field-0.last c.new-old.result.last.now ∷ [])) c.new-old.ensures.blocks
    ∙ ap (λ (x : HeldLine g.row.K.Denot). (in_one_row c.in_ok-lines.field-0.lines.blocks.items)
    ++ ((lines_from c.self.inside.blocks.blocks.items c.in_ok-lines.field-0.upto)
    ++ unwrap_or c.in_ok-lines.field-0.last x ∷ [])) c.new-old.ensures.last in
    subst (IsRow (g.R.LineReader.is_line (g.R.LineReader.setting c.args.reader.now))
    (g.S.Source.bytes c.args.source.now))
    (ap (λ x. (lines_before c.self.inside.blocks.blocks.items c.find-begin.result.0) ++ x) same
    ∙ mended (lines_before c.self.inside.blocks.blocks.items c.find-begin.result.0)
    (in_one_row c.in_ok-lines.field-0.lines.blocks.items)
    (lines_from c.self.inside.blocks.blocks.items c.in_ok-lines.field-0.upto)
    (unwrap_or c.in_ok-lines.field-0.last c.self.inside.last))
    (cut_row (g.R.LineReader.is_line (g.R.LineReader.setting c.args.reader.now)) c.args.start
    (g.met.R.LineReader.reads (g.R.LineReader.setting c.args.reader.now)) edit.old
    (g.S.Source.bytes c.args.source.now) c.args.«end» c.args.old_end edit.apart c.args.self.now
    (lines_before c.self.inside.blocks.blocks.items c.find-begin.result.0) c.find-begin.result.1 edit.row
    (lines_left c.new-old.result)
    (lines_then c.new-old.result c.in_ok-lines.field-0) cut c.in_ok-lines.ensures.lines)

pub replace_lines-requires-clause-fits : goal.replace_lines-requires-clause-fits
replace_lines-requires-clause-fits g c =
    let whole = row_extent (g.R.LineReader.is_line (g.R.LineReader.setting c.args.reader.now))
    (g.met.R.LineReader.reads (g.R.LineReader.setting c.args.reader.now)) (g.S.Source.bytes c.args.source.now)
    (((lines_before c.self.inside.blocks.blocks.items c.find-begin.result.0)
    ++ ((in_one_row c.in_ok-lines.field-0.lines.blocks.items)
    ++ (lines_from c.self.inside.blocks.blocks.items c.in_ok-lines.field-0.upto)))
    ++ (unwrap_or c.in_ok-lines.field-0.last c.self.inside.last) ∷ [])
    (row_then g (goal.at.replace_lines-requires-clause-fits g c).In_ok-lines
    (cut g (goal.at.replace_lines-requires-clause-fits g c).After-new-old)) in
    let small = c.requires.small in
    omega (
      arith,
      whole,
      small,
      extent_push
          ((lines_before c.self.inside.blocks.blocks.items c.find-begin.result.0)
          ++ ((in_one_row c.in_ok-lines.field-0.lines.blocks.items)
          ++ (lines_from c.self.inside.blocks.blocks.items c.in_ok-lines.field-0.upto)))
          (unwrap_or c.in_ok-lines.field-0.last c.self.inside.last),
    )

-- the window, and what the meter says of it
window_then : (g : Over) (c : In_ok-lines g) →
    IsCut (g.R.LineReader.is_line (g.R.LineReader.setting c.args.reader.now)) c.args.start c.args.self.now
    (lines_before c.self.inside.blocks.blocks.items c.find-begin.result.0)
    (lines_left c.new-old.result) c.find-begin.result.1 → (B : List ℕ) →
    IsRow (g.R.LineReader.is_line (g.R.LineReader.setting c.args.reader.now)) B c.args.self.now →
    Apart B (g.S.Source.bytes c.args.source.now) c.args.start c.args.«end» c.args.old_end
    → RoseByWindow (g.R.LineReader.is_line (g.R.LineReader.setting c.args.reader.now)) B
    (g.S.Source.bytes c.args.source.now) c.args.start c.args.«end» c.args.old_end
    (g.R.LineReader.meter c.args.reader.now) (g.R.LineReader.meter c.read_window.new.reader)
window_then g c cut B row apart =
    let begun = cut_begun (g.R.LineReader.is_line (g.R.LineReader.setting c.args.reader.now)) c.args.start
    (g.met.R.LineReader.reads (g.R.LineReader.setting c.args.reader.now)) B
    (g.S.Source.bytes c.args.source.now) c.args.«end» c.args.old_end apart c.args.self.now
    (lines_before c.self.inside.blocks.blocks.items c.find-begin.result.0) c.find-begin.result.1 row
    (lines_left c.new-old.result) cut in
    cut_window (g.R.LineReader.is_line (g.R.LineReader.setting c.args.reader.now)) c.args.start
    (g.met.R.LineReader.reads (g.R.LineReader.setting c.args.reader.now)) B
    (g.S.Source.bytes c.args.source.now) c.args.«end» c.args.old_end apart c.args.self.now
    (lines_before c.self.inside.blocks.blocks.items c.find-begin.result.0) c.find-begin.result.1 row
    (lines_left c.new-old.result) (extent (read_of c.in_ok-lines.field-0)) (g.R.LineReader.meter c.args.reader.now)
    (g.R.LineReader.meter c.read_window.new.reader) cut
    (c.in_ok-lines.ensures.ends B c.args.start begun) c.in_ok-lines.ensures.meter

pub returns-in_err-replace_lines-clause-err : goal.returns-in_err-replace_lines-clause-err
returns-in_err-replace_lines-clause-err g c =
    on_err c.from_residual-in_err-replace_lines.result (λ B row apart w t window.
    has_no_more (g.R.LineReader.is_line (g.R.LineReader.setting c.args.reader.now)) B
    (g.S.Source.bytes c.args.source.now) c.args.start c.args.«end» c.args.old_end
    (g.R.LineReader.meter c.args.reader.now) (g.R.LineReader.meter c.read_window.new.reader)
    (window_then g (goal.at.returns-in_err-replace_lines-clause-err g c).In_ok-lines
    (cut g (goal.at.returns-in_err-replace_lines-clause-err g c).After-new-old) B row apart) w t window)

pub returns-in_default-clause-row : goal.returns-in_default-clause-row
returns-in_default-clause-row g c =
    subst (IsRow (g.R.LineReader.is_line (g.R.LineReader.setting c.args.reader.now))
    (g.S.Source.bytes c.args.source.now))
    (ap (λ x. x ++ (unwrap_or c.in_ok-lines.field-0.last c.self.inside.last) ∷ [])
    (sym c.in_ok-replace_lines.ensures.ok)
    ∙ ap (λ x. in_one_row c.replace_lines.new.self.blocks.items ++ unwrap_or x c.self.inside.last ∷ [])
    c.in_default.is)
    (row_then g (goal.at.returns-in_default-clause-row g c).In_ok-lines
    (cut g (goal.at.returns-in_default-clause-row g c).After-new-old))

pub invariant_of-self-in_default : goal.invariant_of-self-in_default
invariant_of-self-in_default g c =
    let whole = row_extent (g.R.LineReader.is_line (g.R.LineReader.setting c.args.reader.now))
    (g.met.R.LineReader.reads (g.R.LineReader.setting c.args.reader.now)) (g.S.Source.bytes c.args.source.now)
    (((lines_before c.self.inside.blocks.blocks.items c.find-begin.result.0)
    ++ ((in_one_row c.in_ok-lines.field-0.lines.blocks.items)
    ++ (lines_from c.self.inside.blocks.blocks.items c.in_ok-lines.field-0.upto)))
    ++ (unwrap_or c.in_ok-lines.field-0.last c.self.inside.last) ∷ [])
    (row_then g (goal.at.invariant_of-self-in_default g c).In_ok-lines
    (cut g (goal.at.invariant_of-self-in_default g c).After-new-old)) in
    let same = ap extent (ap (λ x. x ++ (unwrap_or c.in_ok-lines.field-0.last c.self.inside.last) ∷ [])
    (sym c.in_ok-replace_lines.ensures.ok)
    ∙ ap (λ x. in_one_row c.replace_lines.new.self.blocks.items ++ unwrap_or x c.self.inside.last ∷ [])
    c.in_default.is) in
    let small = c.requires.small in
    omega (arith, whole, same, small)

pub returns-in_default-clause-meter : goal.returns-in_default-clause-meter
returns-in_default-clause-meter g c =
    λ B row apart. window_then g (goal.at.returns-in_default-clause-meter g c).In_ok-lines
    (cut g (goal.at.returns-in_default-clause-meter g c).After-new-old) B row apart

pub returns-clause-row : goal.returns-clause-row
returns-clause-row g c =
    subst (IsRow (g.R.LineReader.is_line (g.R.LineReader.setting c.args.reader.now))
    (g.S.Source.bytes c.args.source.now))
    (ap (λ x. x ++ (unwrap_or c.in_ok-lines.field-0.last c.self.inside.last) ∷ [])
    (sym c.in_ok-replace_lines.ensures.ok)
    ∙ ap (λ x. in_one_row c.replace_lines.new.self.blocks.items ++ unwrap_or x c.self.inside.last ∷ [])
    c.in-Some.is)
    (row_then g (goal.at.returns-clause-row g c).In_ok-lines (cut g (goal.at.returns-clause-row g c).After-new-old))

pub invariant_of-self-2 : goal.invariant_of-self-2
invariant_of-self-2 g c =
    let whole = row_extent (g.R.LineReader.is_line (g.R.LineReader.setting c.args.reader.now))
    (g.met.R.LineReader.reads (g.R.LineReader.setting c.args.reader.now)) (g.S.Source.bytes c.args.source.now)
    (((lines_before c.self.inside.blocks.blocks.items c.find-begin.result.0)
    ++ ((in_one_row c.in_ok-lines.field-0.lines.blocks.items)
    ++ (lines_from c.self.inside.blocks.blocks.items c.in_ok-lines.field-0.upto)))
    ++ (unwrap_or c.in_ok-lines.field-0.last c.self.inside.last) ∷ [])
    (row_then g (goal.at.invariant_of-self-2 g c).In_ok-lines
    (cut g (goal.at.invariant_of-self-2 g c).After-new-old)) in
    let same = ap extent (ap (λ x. x ++ (unwrap_or c.in_ok-lines.field-0.last c.self.inside.last) ∷ [])
    (sym c.in_ok-replace_lines.ensures.ok)
    ∙ ap (λ x. in_one_row c.replace_lines.new.self.blocks.items ++ unwrap_or x c.self.inside.last ∷ [])
    c.in-Some.is) in
    let small = c.requires.small in
    omega (arith, whole, same, small)

pub returns-clause-meter : goal.returns-clause-meter
returns-clause-meter g c = λ B row apart. window_then g (goal.at.returns-clause-meter g c).In_ok-lines
    (cut g (goal.at.returns-clause-meter g c).After-new-old) B row apart
