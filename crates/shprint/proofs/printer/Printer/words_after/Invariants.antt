use Rattle.std.proofs.Common.{◌≤◌, ◌∷◌, length}
use Rattle.shast.specs.Shape.{Text}
use Rattle.shprint.specs.declared.layout.Layout.{Layout}
use Rattle.shprint.specs.Marks.{text}
use Rattle.shprint.specs.Written.{PrintAlike, marks_of_items, stretch}
use Rattle.shprint.proofs.printer.Printer.words_after.Given as goal

abbrev pub invariant-words : goal.invariant-words
invariant-words g l =
    let bytes = g.S.Source.bytes l.self.source.now in
    (l.start ≤ l.«end») × ((y : Layout) (margin : Text) → PrintAlike (marks_of_items bytes y margin l.fn.items)
    (text (stretch bytes l.start l.«end») ∷ marks_of_items bytes y margin l.rest))

abbrev pub decreases-words : goal.decreases-words
decreases-words g l = length l.rest
