use Rattle.std.proofs.Common.{◌≡◌, ◌+◌, Some, arith, false, slice_get}
use Rattle.shast.proofs.Seen.{item_seen}
use Rattle.shast.specs.Shape.{shape_of_item}
use Rattle.shast.specs.View.{view_item}
use Rattle.shprint.specs.Printed.{is_broken_item}
use Rattle.shprint.proofs.Spaced.{word_is}
use Rattle.shprint.proofs.printer.Printer.word_after.Goals as goal

pub returns-in-Some-eq32 : goal.returns-in-Some-eq32
returns-in-Some-eq32 g c =
    let bytes = g.S.Source.bytes c.args.self.now.source.now in
    let span = c.in_ok-span.span in
    let next : span.start ≡ c.args.end + 1 = grind (arith, c.if-ne.ensures, c.checked_sub.ensures) in
    let unbroken : is_broken_item (shape_of_item bytes (view_item c.args.item.now)) ≡ false =
    grind (arith, item_seen, c.if-item.false) in
    let blank : slice_get bytes c.args.end ≡ Some 32 =
    grind (arith, c.byte.ensures, c.in-Some-eq32.is, c.in-Some-eq32.field-0-test) in record {
      onward = omega (arith, next, c.in_ok-span.ensures.ordered);
      word =
          λ y m t. word_is bytes y m _ c.args.end span unbroken
          (c.in_ok-span.ensures.printed bytes y) blank next c.in_ok-span.ensures.ordered t;
    }
