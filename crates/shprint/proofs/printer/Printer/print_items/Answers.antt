use Rattle.std.proofs.Common.{arith}
use Rattle.shast.specs.View.{view_item}
use Rattle.shast.proofs.Seen.{item_seen}
use Rattle.shprint.proofs.Rows.{from_more, item_marks}
use Rattle.shprint.proofs.Writing.{written_append}
use Rattle.shprint.proofs.printer.Printer.print_items.Goals as goal

pub loop-item-preserved : goal.loop-item-preserved
loop-item-preserved g c =
    grind (
      arith,
      written_append,
      item_seen,
      from_more (item_marks (g.S.Source.bytes c.args.self.now.source.now) c.args.self.now.layout
          c.args.page.now.margin.items) view_item c.args.items.now c.loop-item.item-index c.item-item.result,
    )
