use Rattle.std.proofs.Common.{◌≡◌, ◌≤◌, ◌-◌, length, map}
use Rattle.shast.specs.Nodes.{NodesWithin}
use Rattle.shast.specs.Tree.{entries_of}
use Rattle.shast.specs.View.{view_entry}
use Rattle.shpass.specs.LineByLine.{Rest, Stands, bytes_of, edition_of, place_of}
use Rattle.shgrammar.specs.Scripts.{AScript, Outcome, LinesSoFar}
use Rattle.shread.proofs.all_lines.script_from.Given as goal

abbrev pub invariant-lines : goal.invariant-lines
invariant-lines g l =
    let bytes = g.S.Source.bytes l.source in
    let so : LinesSoFar = record { entries = map view_entry l.entries.items; gap = l.lines.before.gap } in
    record {
      stands : Stands l.lines so;
      rest : (s : AScript) → Rest l.fn.edition bytes so (place_of l.lines) s → Outcome l.fn.edition bytes s;
      nodes : NodesWithin (length bytes) (entries_of so.entries);
      source : bytes_of g.S.Source.bytes l.lines ≡ bytes;
      within : place_of l.lines ≤ length bytes;
      edition : edition_of l.lines ≡ l.fn.edition;
    }

abbrev pub decreases-lines : goal.decreases-lines
decreases-lines g l = length (g.S.Source.bytes l.source) - place_of l.lines
