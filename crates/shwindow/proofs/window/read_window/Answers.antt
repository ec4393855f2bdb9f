use Rattle.std.proofs.Common.{◌≡◌, ◌+◌, ◌-◌, ◌≤◌, ◌^◌, ◌++◌, ◌∷◌, [], ◌∙◌, ℕ, List, true, false, ap, arith, drop, length, refl, subst, sym, List as Row}
use Rattle.std.proofs.lemmas.List.{append-nil}
use Rattle.shwindow.specs.declared.line.HeldLine.{HeldLine}
use Rattle.shwindow.specs.Blocks.{in_one_row, lines_from}
use Rattle.shwindow.specs.Hand.{Passes}
use Rattle.shwindow.specs.Lines.{IsRow, extent}
use Rattle.shwindow.specs.Reading.{IsBegun}
use Rattle.shwindow.specs.Meter.{RoseWithin, risen}
use Rattle.shwindow.specs.Walks.{lines_left}
use Rattle.shwindow.specs.Window.{Ends}
use Rattle.shwindow.proofs.Places.{not_after_itself, not_after_more}
use Rattle.shwindow.proofs.Reading.{AtLine, at_last, at_low, at_met, at_more, at_passed, at_start, at_within, old_at_fits, on_err, push_some, risen_more, risen_none, same_from, same_left}
use Rattle.shwindow.proofs.Rows.{extent_none, extent_push}
use Rattle.shwindow.proofs.Steps.{NotMet, Past}
use Rattle.shwindow.proofs.window.read_window.Given.{Over}
use Rattle.shwindow.proofs.window.read_window.Goals as goal
use Rattle.shwindow.proofs.window.read_window.Goals.{After-saturating_sub, After-pass, After-meets, In_ok-line}

pub lines-init : goal.lines-init
lines-init g c =
    let none = c.new-lines.ensures in
    let meter = g.R.LineReader.meter c.args.reader.now in
    record {
      at = subst (λ read. AtLine (g.R.LineReader.is_line (g.R.LineReader.setting c.args.reader.now))
          (g.S.Source.bytes c.args.source.now) c.args.«end» c.args.old_end c.args.begin
          (lines_left c.args.old) read c.args.begin c.args.begin (lines_left c.args.old)) (sym none)
          (at_start (g.R.LineReader.is_line (g.R.LineReader.setting c.args.reader.now))
          (g.met.R.LineReader.reads (g.R.LineReader.setting c.args.reader.now))
          (g.S.Source.bytes c.args.source.now) c.args.«end» c.args.old_end c.args.begin (lines_left c.args.old));
      setting = refl;
      meter = sym (ap (λ read. risen meter (extent read)) none ∙ ap (risen meter) (extent_none g.row.K.Denot)
          ∙ risen_none meter);
      blocks = refl;
      last = refl;
      order = not_after_itself c.args.old.place;
    }

-- the place is within the text
within : (g : Over) (c : After-saturating_sub g) → c.lines.at ≤ length (g.S.Source.bytes c.args.source.now)
within g c =
    at_within (g.R.LineReader.is_line (g.R.LineReader.setting c.args.reader.now))
    (g.met.R.LineReader.reads (g.R.LineReader.setting c.args.reader.now))
    (g.S.Source.bytes c.args.source.now) c.args.«end» c.args.old_end c.args.begin (lines_left c.args.old)
    c.requires.begun.0 c.requires.begun.1 c.requires.begun.2
    (in_one_row c.lines.lines.blocks.items) c.lines.at c.lines.hand.begin
    (lines_left c.lines.hand.lines) c.lines.invariant.at

pub overflow_add-old_at : goal.overflow_add-old_at
overflow_add-old_at g c =
    let fits = old_at_fits (g.R.LineReader.is_line (g.R.LineReader.setting c.args.reader.now))
    (g.met.R.LineReader.reads (g.R.LineReader.setting c.args.reader.now))
    (g.S.Source.bytes c.args.source.now) c.args.«end» c.args.old_end c.args.begin (lines_left c.args.old)
    c.requires.begun.0 c.requires.begun.1 c.requires.begun.2 c.lines.at (2 ^ 64) (within g c)
    (omega arith) c.requires.fits in
    omega (arith, fits, c.saturating_sub.ensures)

-- the old lines before that are passed
passed : (g : Over) (c : After-pass g) →
    AtLine (g.R.LineReader.is_line (g.R.LineReader.setting c.args.reader.now))
    (g.S.Source.bytes c.args.source.now) c.args.«end» c.args.old_end c.args.begin (lines_left c.args.old)
    (in_one_row c.lines.lines.blocks.items) c.lines.at c.pass.new.self.begin (lines_left c.pass.new.self.lines)
passed g c =
    at_passed (g.R.LineReader.is_line (g.R.LineReader.setting c.args.reader.now))
    (g.met.R.LineReader.reads (g.R.LineReader.setting c.args.reader.now))
    (g.S.Source.bytes c.args.source.now) c.args.«end» c.args.old_end c.args.begin (lines_left c.args.old)
    (in_one_row c.lines.lines.blocks.items) c.lines.at c.lines.hand.begin
    (lines_left c.lines.hand.lines) c.pass.new.self.begin (lines_left c.pass.new.self.lines) c.lines.invariant.at
    (subst (λ o. Passes o c.lines.hand.begin (lines_left c.lines.hand.lines) c.pass.new.self.begin
    (lines_left c.pass.new.self.lines))
    (ap (λ n. c.args.old_end + n) c.saturating_sub.ensures) c.pass.ensures.passes)

-- those left in hand begin at the old place of what was read or after it
past : (g : Over) (c : After-pass g) →
    Past (c.args.old_end + (c.lines.at - c.args.«end»)) c.pass.new.self.begin (lines_left c.pass.new.self.lines)
past g c some = let high = c.pass.ensures.past some in omega (arith, high, c.saturating_sub.ensures)

-- where none of them is met, that place is not shared
not_met : (g : Over) (c : After-meets g) → c.meets.result ≡ false →
    NotMet c.args.«end» c.args.old_end c.lines.at c.pass.new.self.begin (lines_left c.pass.new.self.lines)
not_met g c is high same = c.meets.ensures.not_met is high
    (same ∙ sym (ap (λ n. c.args.old_end + n) c.saturating_sub.ensures))

-- the lines in hand are still in the old blocks
blocks_of : (g : Over) (c : After-pass g) → c.pass.new.self.lines.blocks ≡ c.args.old.blocks
blocks_of g c = c.pass.ensures.blocks ∙ c.lines.invariant.blocks

-- where one is met, those left are the old lines from its place on
left_of : (g : Over) (c : After-meets g) → c.pass.new.self.lines.blocks ≡ c.args.old.blocks → c.meets.result ≡ true
    → lines_left c.pass.new.self.lines ≡ lines_from c.args.old.blocks.now.blocks.items c.pass.new.self.lines.place
    ++ c.args.old.last.now ∷ []
left_of g c blocks met = (c.meets.ensures.met met).2
    ∙ same_left c.args.old c.pass.new.self.lines c.pass.new.self.lines.place blocks
    (c.pass.ensures.last ∙ c.lines.invariant.last)

pub returns-then-meets-clause-lines : goal.returns-then-meets-clause-lines
returns-then-meets-clause-lines g c =
    let met = c.meets.ensures.met c.if-meets.true in
    let left = left_of g (goal.at.returns-then-meets-clause-lines g c).After-meets
    (blocks_of g (goal.at.returns-then-meets-clause-lines g c).After-pass) c.if-meets.true in
    let some : lines_left c.pass.new.self.lines ≡ [] →
    ⊥ = λ none. push_some (lines_from c.args.old.blocks.now.blocks.items c.pass.new.self.lines.place)
    c.args.old.last.now (sym left ∙ none) in
    let row = at_met (g.R.LineReader.is_line (g.R.LineReader.setting c.args.reader.now))
    (g.met.R.LineReader.reads (g.R.LineReader.setting c.args.reader.now))
    (g.S.Source.bytes c.args.source.now) c.args.«end» c.args.old_end c.args.begin (lines_left c.args.old)
    c.requires.begun.0 c.requires.begun.1 c.requires.begun.2
    (in_one_row c.lines.lines.blocks.items) c.lines.at c.pass.new.self.begin (lines_left c.pass.new.self.lines)
    (passed g (goal.at.returns-then-meets-clause-lines g c).After-pass) some met.0
    (met.1 ∙ (ap (λ n. c.args.old_end + n) c.saturating_sub.ensures)) in
    subst (λ hs. IsRow (g.R.LineReader.is_line (g.R.LineReader.setting c.args.reader.now))
    (drop c.args.begin (g.S.Source.bytes c.args.source.now)) ((in_one_row c.lines.lines.blocks.items) ++ hs)) left
    row.0

pub returns-then-meets-clause-order : goal.returns-then-meets-clause-order
returns-then-meets-clause-order g c =
    not_after_more c.args.old.place c.lines.hand.lines.place c.pass.new.self.lines.place c.lines.invariant.order
    c.pass.ensures.order

pub returns-then-meets-clause-ends : goal.returns-then-meets-clause-ends
returns-then-meets-clause-ends g c = λ B a begun.
    let met = c.meets.ensures.met c.if-meets.true in
    let left = left_of g (goal.at.returns-then-meets-clause-ends g c).After-meets
    (blocks_of g (goal.at.returns-then-meets-clause-ends g c).After-pass) c.if-meets.true in
    let some : lines_left c.pass.new.self.lines ≡ [] →
    ⊥ = λ none. push_some (lines_from c.args.old.blocks.now.blocks.items c.pass.new.self.lines.place)
    c.args.old.last.now (sym left ∙ none) in
    let row = at_met (g.R.LineReader.is_line (g.R.LineReader.setting c.args.reader.now))
    (g.met.R.LineReader.reads (g.R.LineReader.setting c.args.reader.now))
    (g.S.Source.bytes c.args.source.now) c.args.«end» c.args.old_end c.args.begin (lines_left c.args.old) B a begun
    (in_one_row c.lines.lines.blocks.items) c.lines.at c.pass.new.self.begin (lines_left c.pass.new.self.lines)
    (passed g (goal.at.returns-then-meets-clause-ends g c).After-pass) some met.0
    (met.1 ∙ (ap (λ n. c.args.old_end + n) c.saturating_sub.ensures)) in
    subst (λ (hs : Row (HeldLine g.row.K.Denot)). Ends
    (g.R.LineReader.is_line (g.R.LineReader.setting c.args.reader.now)) B
    (g.S.Source.bytes c.args.source.now) c.args.«end» c.args.old_end (c.args.begin + extent hs))
    (sym (append-nil (in_one_row c.lines.lines.blocks.items))) row.1

pub read_line-requires : goal.read_line-requires
read_line-requires g c = within g (goal.at.read_line-requires g c).After-saturating_sub

pub returns-in_err-line-clause-err : goal.returns-in_err-line-clause-err
returns-in_err-line-clause-err g c = on_err c.from_residual.result (λ B a t begun ends.
    subst (RoseWithin (t - c.args.begin) (g.R.LineReader.meter c.args.reader.now))
    (sym (c.in_err-line.ensures.err ∙ c.lines.invariant.meter))
    (at_low (g.R.LineReader.is_line (g.R.LineReader.setting c.args.reader.now))
    (g.met.R.LineReader.reads (g.R.LineReader.setting c.args.reader.now))
    (g.S.Source.bytes c.args.source.now) c.args.«end» c.args.old_end c.args.begin (lines_left c.args.old) B a begun
    (in_one_row c.lines.lines.blocks.items) c.lines.at c.pass.new.self.begin (lines_left c.pass.new.self.lines) t
    (g.R.LineReader.meter c.args.reader.now)
    (passed g (goal.at.returns-in_err-line-clause-err g c).After-pass) ends))

-- it is a line under the setting that the reading began with
line_now : (g : Over) (c : In_ok-line g) →
    g.R.LineReader.is_line (g.R.LineReader.setting c.args.reader.now)
    (drop c.lines.at (g.S.Source.bytes c.args.source.now)) c.in_ok-line.line
line_now g c = subst (λ s. g.R.LineReader.is_line s
    (drop c.lines.at (g.S.Source.bytes c.args.source.now)) c.in_ok-line.line) c.lines.invariant.setting
    c.in_ok-line.ensures.line

-- the line that did not end
last_at : (g : Over) (c : In_ok-line g) →
    AtLine (g.R.LineReader.is_line (g.R.LineReader.setting c.args.reader.now))
    (g.S.Source.bytes c.args.source.now) c.args.«end» c.args.old_end c.args.begin (lines_left c.args.old)
    (in_one_row c.lines.lines.blocks.items) c.lines.at c.pass.new.self.begin (lines_left c.pass.new.self.lines) →
    Past (c.args.old_end + (c.lines.at - c.args.«end»)) c.pass.new.self.begin (lines_left c.pass.new.self.lines) →
    NotMet c.args.«end» c.args.old_end c.lines.at c.pass.new.self.begin (lines_left c.pass.new.self.lines)
    → c.in_ok-line.line.ended ≡ false → (B : List ℕ) (a : ℕ) →
    IsBegun (g.R.LineReader.is_line (g.R.LineReader.setting c.args.reader.now)) B
    (g.S.Source.bytes c.args.source.now) a c.args.«end» c.args.old_end c.args.begin (lines_left c.args.old)
    → IsRow (g.R.LineReader.is_line (g.R.LineReader.setting c.args.reader.now))
    (drop c.args.begin (g.S.Source.bytes c.args.source.now))
    ((in_one_row c.lines.lines.blocks.items) ++ c.in_ok-line.line ∷ [])
    × Ends (g.R.LineReader.is_line (g.R.LineReader.setting c.args.reader.now)) B
    (g.S.Source.bytes c.args.source.now) c.args.«end» c.args.old_end
    (c.args.begin + extent ((in_one_row c.lines.lines.blocks.items) ++ c.in_ok-line.line ∷ []))
last_at g c at past not_met not_ended B a begun =
    let is = c.in_ok-line.ensures in
    at_last (g.R.LineReader.is_line (g.R.LineReader.setting c.args.reader.now))
    (g.met.R.LineReader.reads (g.R.LineReader.setting c.args.reader.now))
    (g.S.Source.bytes c.args.source.now) c.args.«end» c.args.old_end c.args.begin (lines_left c.args.old) B a begun
    (in_one_row c.lines.lines.blocks.items) c.lines.at c.pass.new.self.begin
    (lines_left c.pass.new.self.lines) c.in_ok-line.line at past not_met (line_now g c) not_ended
    (is.whole not_ended)

pub returns-then-not-line-clause-lines : goal.returns-then-not-line-clause-lines
returns-then-not-line-clause-lines g c =
    let none = sym (same_from c.args.old c.pass.new.self.lines c.end.result
    (blocks_of g (goal.at.returns-then-not-line-clause-lines g c).After-pass)) ∙ c.end.ensures.rest in
    let row = last_at g (goal.at.returns-then-not-line-clause-lines g c).In_ok-line
    (passed g (goal.at.returns-then-not-line-clause-lines g c).After-pass)
    (past g (goal.at.returns-then-not-line-clause-lines g c).After-pass)
    (not_met g (goal.at.returns-then-not-line-clause-lines g c).After-meets c.if-meets.false) c.if-not-line.true
    c.requires.begun.0 c.requires.begun.1 c.requires.begun.2 in
    subst (λ hs. IsRow (g.R.LineReader.is_line (g.R.LineReader.setting c.args.reader.now))
    (drop c.args.begin (g.S.Source.bytes c.args.source.now))
    ((in_one_row c.lines.lines.blocks.items) ++ (hs ++ c.in_ok-line.line ∷ []))) (sym none) row.0

pub returns-then-not-line-clause-order : goal.returns-then-not-line-clause-order
returns-then-not-line-clause-order g c =
    not_after_more c.args.old.place c.pass.new.self.lines.place c.end.result
    (not_after_more c.args.old.place c.lines.hand.lines.place c.pass.new.self.lines.place c.lines.invariant.order
    c.pass.ensures.order)
    c.end.ensures.order

pub returns-then-not-line-clause-ends : goal.returns-then-not-line-clause-ends
returns-then-not-line-clause-ends g c =
    λ B a begun. (last_at g (goal.at.returns-then-not-line-clause-ends g c).In_ok-line
    (passed g (goal.at.returns-then-not-line-clause-ends g c).After-pass)
    (past g (goal.at.returns-then-not-line-clause-ends g c).After-pass)
    (not_met g (goal.at.returns-then-not-line-clause-ends g c).After-meets c.if-meets.false) c.if-not-line.true B a
    begun).1

-- the meter after a line
read_at : (g : Over) (c : In_ok-line g) →
    g.R.LineReader.meter c.read_line.new.self
    ≡ risen (g.R.LineReader.meter c.args.reader.now)
    (extent ((in_one_row c.lines.lines.blocks.items) ++ c.in_ok-line.line ∷ []))
read_at g c =
    let meter = g.R.LineReader.meter c.args.reader.now in
    c.in_ok-line.ensures.meter
    ∙ ap (λ m. risen m c.in_ok-line.line.len) c.lines.invariant.meter
    ∙ risen_more meter (extent (in_one_row c.lines.lines.blocks.items)) c.in_ok-line.line.len
    ∙ ap (risen meter) (sym (extent_push (in_one_row c.lines.lines.blocks.items) c.in_ok-line.line))

pub returns-then-not-line-clause-meter : goal.returns-then-not-line-clause-meter
returns-then-not-line-clause-meter g c = read_at g (goal.at.returns-then-not-line-clause-meter g c).In_ok-line

-- a line that ended
more : (g : Over) (c : In_ok-line g) →
    AtLine (g.R.LineReader.is_line (g.R.LineReader.setting c.args.reader.now))
    (g.S.Source.bytes c.args.source.now) c.args.«end» c.args.old_end c.args.begin (lines_left c.args.old)
    (in_one_row c.lines.lines.blocks.items) c.lines.at c.pass.new.self.begin (lines_left c.pass.new.self.lines) →
    Past (c.args.old_end + (c.lines.at - c.args.«end»)) c.pass.new.self.begin (lines_left c.pass.new.self.lines) →
    NotMet c.args.«end» c.args.old_end c.lines.at c.pass.new.self.begin (lines_left c.pass.new.self.lines)
    → c.in_ok-line.line.ended ≡ true →
    AtLine (g.R.LineReader.is_line (g.R.LineReader.setting c.args.reader.now))
    (g.S.Source.bytes c.args.source.now) c.args.«end» c.args.old_end c.args.begin (lines_left c.args.old)
    ((in_one_row c.lines.lines.blocks.items) ++ c.in_ok-line.line ∷ [])
    (c.lines.at + c.in_ok-line.line.len) c.pass.new.self.begin (lines_left c.pass.new.self.lines)
more g c at past not_met ended =
    at_more (g.R.LineReader.is_line (g.R.LineReader.setting c.args.reader.now))
    (g.met.R.LineReader.reads (g.R.LineReader.setting c.args.reader.now))
    (g.S.Source.bytes c.args.source.now) c.args.«end» c.args.old_end c.args.begin (lines_left c.args.old)
    (in_one_row c.lines.lines.blocks.items) c.lines.at c.pass.new.self.begin
    (lines_left c.pass.new.self.lines) c.in_ok-line.line at past not_met (line_now g c) ended

pub lines-preserved : goal.lines-preserved
lines-preserved g c =
    let pushed = c.in_ok-push.ensures in
    record {
      at = subst (λ read. AtLine (g.R.LineReader.is_line (g.R.LineReader.setting c.args.reader.now))
          (g.S.Source.bytes c.args.source.now) c.args.«end» c.args.old_end c.args.begin (lines_left c.args.old) read
          (c.lines.at + c.in_ok-line.line.len) c.pass.new.self.begin (lines_left c.pass.new.self.lines)) (sym pushed)
          (more g (goal.at.lines-preserved g c).In_ok-line (passed g (goal.at.lines-preserved g c).After-pass)
          (past g (goal.at.lines-preserved g c).After-pass)
          (not_met g (goal.at.lines-preserved g c).After-meets c.if-meets.false) c.if-not-line.false);
      setting = c.read_line.ensures.setting ∙ c.lines.invariant.setting;
      meter = read_at g (goal.at.lines-preserved g c).In_ok-line
          ∙ ap (λ read. risen (g.R.LineReader.meter c.args.reader.now) (extent read)) (sym pushed);
      blocks = blocks_of g (goal.at.lines-preserved g c).After-pass;
      last = c.pass.ensures.last ∙ c.lines.invariant.last;
      order = not_after_more c.args.old.place c.lines.hand.lines.place c.pass.new.self.lines.place
          c.lines.invariant.order c.pass.ensures.order;
    }

pub returns-in_err-push-clause-err : goal.returns-in_err-push-clause-err
returns-in_err-push-clause-err g c = on_err c.from_residual-in_err-push.result (λ B a t begun ends.
    subst (RoseWithin (t - c.args.begin) (g.R.LineReader.meter c.args.reader.now))
    (sym (read_at g (goal.at.returns-in_err-push-clause-err g c).In_ok-line))
    (at_low (g.R.LineReader.is_line (g.R.LineReader.setting c.args.reader.now))
    (g.met.R.LineReader.reads (g.R.LineReader.setting c.args.reader.now))
    (g.S.Source.bytes c.args.source.now) c.args.«end» c.args.old_end c.args.begin (lines_left c.args.old) B a begun
    ((in_one_row c.lines.lines.blocks.items) ++ c.in_ok-line.line ∷ [])
    (c.lines.at + c.in_ok-line.line.len) c.pass.new.self.begin (lines_left c.pass.new.self.lines) t
    (g.R.LineReader.meter c.args.reader.now)
    (more g (goal.at.returns-in_err-push-clause-err g c).In_ok-line
    (passed g (goal.at.returns-in_err-push-clause-err g c).After-pass)
    (past g (goal.at.returns-in_err-push-clause-err g c).After-pass)
    (not_met g (goal.at.returns-in_err-push-clause-err g c).After-meets c.if-meets.false) c.if-not-line.false)
    ends))
