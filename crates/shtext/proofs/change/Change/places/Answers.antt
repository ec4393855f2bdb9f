use Rattle.std.proofs.Common.{arith}
use Rattle.shtext.proofs.Splices.{edited_long}
use Rattle.shtext.proofs.change.Change.places.Goals as goal

pub returns : goal.returns
returns c bytes ss is =
    let long = edited_long bytes ss is.allowed.in_range is.allowed.rising in (
      is.start,
      (
        omega (
          arith,
          long,
          is.allowed.small,
          is.new_end,
          c.saturating_add-new_end.ensures,
          c.len.ensures,
          c.args.self.now.new.ok.0,
        ),
        is.«end»,
      ),
    )
