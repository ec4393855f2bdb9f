use Rattle.std.proofs.Common.{◌≡◌, drop, map}
use Rattle.shast.specs.Bodies.{fill_item}
use Rattle.shast.specs.View.{view_item}
use Rattle.shast.proofs.Going.{going}
use Rattle.shmake.proofs.bodies.fill_items.Given as goal

abbrev pub invariant-loop-item : goal.invariant-loop-item
invariant-loop-item l = going fill_item (map view_item l.items) l.item-index (drop l.next l.bodies)
    ≡ going fill_item (map view_item l.fn.items) 0 (drop l.fn.next l.fn.bodies)
