use Rattle.std.proofs.Common.{arith}
use Rattle.shtext.proofs.Splices.{edited_long}
use Rattle.shtext.proofs.tally.Tally.answer.Goals as goal

pub returns-then-saturating_add-gt-LIMIT-clause-err : goal.returns-then-saturating_add-gt-LIMIT-clause-err
returns-then-saturating_add-gt-LIMIT-clause-err c bytes ss told =
    let range = told.in_range.0 c.if-not-self.false in
    let rising = told.rising.0 c.if-not-self-2.false in
    let long = edited_long bytes ss range rising in (
      range,
      rising,
      omega (
        arith,
        long,
        told.text,
        told.last,
        told.made,
        c.saturating_sub-after.ensures,
        c.saturating_add.ensures,
        c.if-saturating_add-gt-LIMIT.true,
      ),
    )

pub returns-clause-ok : goal.returns-clause-ok
returns-clause-ok c bytes ss told =
    let range = told.in_range.0 c.if-not-self.false in
    let rising = told.rising.0 c.if-not-self-2.false in
    let long = edited_long bytes ss range rising in
    record {
      in_range = range;
      rising = rising;
      small = omega (
        arith,
        long,
        told.text,
        told.last,
        told.made,
        c.saturating_sub-after.ensures,
        c.saturating_add.ensures,
        c.if-saturating_add-gt-LIMIT.false,
      );
    }
