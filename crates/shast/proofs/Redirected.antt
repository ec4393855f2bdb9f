-- A compound command with other redirections.
use Rattle.std.proofs.Common.{◌≡◌, map, rules, Vec, Global}
use Rattle.shast.specs.declared.tree.Compound.{Compound}
use Rattle.shast.specs.declared.tree.Item.{Item}
use Rattle.shast.specs.declared.tree.Command.TheViews.{out-Compound, roll-Compound}
use Rattle.shast.specs.declared.tree.Command.TheFolds.{fold-roll-Compound}
use Rattle.shast.specs.Tree.{items_of, compound_with}
use Rattle.shast.specs.View.{view_compound, view_item}
use Rattle.shast.proofs.Seen.{compound_seen}

-- its view is the view of that command, with these redirections in the place of its own
pub compound_redirected : (c : Compound) (is : Vec Item Global)
    → view_compound (roll-Compound
    record { form = (out-Compound c).form; span = (out-Compound c).span; redirects = is })
    ≡ compound_with (view_compound c) (items_of (map view_item is.items))
compound_redirected c is = rw (compound_seen c) (search (rules, fold-roll-Compound))
