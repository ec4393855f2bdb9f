use Rattle.std.proofs.Common.{◌∙◌, sym}
use Rattle.shast.proofs.Last.{last_item_is}
use Rattle.shmake.proofs.spans.last_item.Goals as goal

pub returns-in-Some : goal.returns-in-Some
returns-in-Some c = c.item_span.ensures
    ∙ sym (last_item_is c.args.before c.args.items.now c.in-Some.item.now c.in-Some.ensures.value)
